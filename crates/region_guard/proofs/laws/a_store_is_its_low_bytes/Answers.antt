use Rattle.region_guard.proofs.Writing.{store_is_read_back}
use Rattle.region_guard.proofs.laws.a_store_is_its_low_bytes.Goals as goal

pub returns-clause-read_back : goal.returns-clause-read_back
returns-clause-read_back c =
    store_is_read_back c.a_number_lies_lowest_byte_first.ensures.same_bytes_same_number c.a_number_lies_lowest_byte_first.ensures.reads_back
