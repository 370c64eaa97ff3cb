use Rattle.suspend_lists.proofs.Kept.{new_is_table}
use Rattle.suspend_lists.proofs.waits.Waits.new.Goals as goal

pub invariant_of-result : goal.invariant_of-result
invariant_of-result c = rw (c.in_ok-lists.ensures, c.in_ok-waits.ensures) new_is_table
