use Rattle.flat_ram.proofs.Over.{length-over, others_stay, range_is_written, numbers_stay}
use Rattle.flat_ram.proofs.laws.a_write_changes_its_range_alone.Goals as goal

pub returns : goal.returns
returns c = record {
  length_stays = length-over;
  others_stay = others_stay;
  range_is_written = range_is_written;
  numbers_stay = numbers_stay;
}
