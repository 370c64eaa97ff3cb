use Rattle.suspend_lists.proofs.AtAPlace.{rest_is_left, others_stay, new_waiter_is_last, put_first_is_first, stands_where_it_waits, waits_stay}
use Rattle.suspend_lists.proofs.laws.who_waits_at_a_place.Goals as goal

pub returns-clause-next : goal.returns-clause-next
returns-clause-next c = rest_is_left

pub returns-clause-others : goal.returns-clause-others
returns-clause-others c = others_stay

pub returns-clause-joins : goal.returns-clause-joins
returns-clause-joins c = new_waiter_is_last

pub returns-clause-first : goal.returns-clause-first
returns-clause-first c = put_first_is_first

pub returns-clause-each : goal.returns-clause-each
returns-clause-each c = stands_where_it_waits

pub returns-clause-stays : goal.returns-clause-stays
returns-clause-stays c = waits_stay
