use Rattle.region_guard.proofs.Reaching.{used_is_in_ram, parts_may_be_used}
use Rattle.region_guard.proofs.laws.what_may_be_used_is_in_ram.Goals as goal

pub returns : goal.returns
returns c = record { in_ram = used_is_in_ram; parts = parts_may_be_used }
