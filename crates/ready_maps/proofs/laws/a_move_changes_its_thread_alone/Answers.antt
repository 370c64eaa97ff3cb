use Rattle.ready_maps.proofs.Members.{ready_adds_one, unready_takes_one, yield_keeps_ready, priority_keeps_ready}
use Rattle.ready_maps.proofs.Numbers.{priority_sets_numbers}
use Rattle.ready_maps.proofs.laws.a_move_changes_its_thread_alone.Goals as goal

pub returns-clause-ready_adds_one : goal.returns-clause-ready_adds_one
returns-clause-ready_adds_one c = ready_adds_one

pub returns-clause-unready_takes_one : goal.returns-clause-unready_takes_one
returns-clause-unready_takes_one c = unready_takes_one

pub returns-clause-yield_keeps_ready : goal.returns-clause-yield_keeps_ready
returns-clause-yield_keeps_ready c = yield_keeps_ready

pub returns-clause-priority_keeps_ready : goal.returns-clause-priority_keeps_ready
returns-clause-priority_keeps_ready c = priority_keeps_ready

pub returns-clause-priority_sets_numbers : goal.returns-clause-priority_sets_numbers
returns-clause-priority_sets_numbers c = priority_sets_numbers
