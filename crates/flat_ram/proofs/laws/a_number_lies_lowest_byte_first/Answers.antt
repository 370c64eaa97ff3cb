use Rattle.flat_ram.proofs.Numbers.{length-low_bytes, lowest_first, same_number}
use Rattle.flat_ram.proofs.Over.{reads_back}
use Rattle.flat_ram.proofs.laws.a_number_lies_lowest_byte_first.Goals as goal

pub returns : goal.returns
returns c = record {
  width_is_length = length-low_bytes;
  lowest_first = lowest_first;
  same_bytes_same_number = same_number;
  reads_back = reads_back;
}
