use Rattle.suspend_lists.proofs.OverCalls.{calls_account, histories_account, next_is_new}
use Rattle.suspend_lists.proofs.laws.no_number_is_given_twice.Goals as goal

pub returns-clause-calls : goal.returns-clause-calls
returns-clause-calls c = calls_account

pub returns-clause-histories : goal.returns-clause-histories
returns-clause-histories c = histories_account

pub returns-clause-next : goal.returns-clause-next
returns-clause-next c = next_is_new
