use Rattle.suspend_lists.proofs.Counted.{calls_count, histories_count}
use Rattle.suspend_lists.proofs.laws.totals_count_the_ends.Goals as goal

pub returns-clause-calls : goal.returns-clause-calls
returns-clause-calls c = calls_count

pub returns-clause-histories : goal.returns-clause-histories
returns-clause-histories c = histories_count
