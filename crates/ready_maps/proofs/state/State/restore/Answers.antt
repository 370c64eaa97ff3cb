use Rattle.ready_maps.proofs.Facts.{restored_room, restored_held_room}
use Rattle.ready_maps.proofs.state.State.restore.Goals as goal

pub place_all-requires-clause-room : goal.place_all-requires-clause-room
place_all-requires-clause-room c = restored_room c.args.self.now c.args.ready.now c.args.run c.args.held.now c.requires.nothing_ready c.requires.kept

pub set_run-requires : goal.set_run-requires
set_run-requires c = restored_held_room c.args.self.now c.args.ready.now c.args.run c.args.held.now c.requires.kept
