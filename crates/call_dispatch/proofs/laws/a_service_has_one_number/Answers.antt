use Rattle.call_dispatch.proofs.Numbers.{number_names_its_row, row_has_its_number}
use Rattle.call_dispatch.proofs.laws.a_service_has_one_number.Goals as goal

pub returns : goal.returns
returns c = record { names = number_names_its_row; has = row_has_its_number }
