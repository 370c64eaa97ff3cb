use Rattle.suspend_lists.proofs.Kept.{new_is_table}
use Rattle.suspend_lists.proofs.OverCalls.{calls_keep, totals_keep, restores_keep}
use Rattle.suspend_lists.proofs.laws.calls_keep_the_table.Goals as goal

pub returns-clause-new : goal.returns-clause-new
returns-clause-new c = new_is_table

pub returns-clause-calls : goal.returns-clause-calls
returns-clause-calls c = calls_keep

pub returns-clause-totals : goal.returns-clause-totals
returns-clause-totals c = totals_keep

pub returns-clause-restores : goal.returns-clause-restores
returns-clause-restores c = restores_keep
