use Rattle.lock_tests.proofs.moves.plays_over.Given as goal

-- the session of this call is that of its parts
abbrev pub ghosts-plays_on : goal.ghosts-plays_on
ghosts-plays_on g a = record { origin = a.machine.origin; inbox = a.inbox.now; lane = a.lane.now }
