use Rattle.board_live.proofs.session.run_booted.Given as goal

-- the session is of this board, inbox and lane
abbrev pub ghosts-run_session : goal.ghosts-run_session
ghosts-run_session g a = record { origin = a.machine.origin; inbox = a.inbox.now; lane = a.lane.now }
