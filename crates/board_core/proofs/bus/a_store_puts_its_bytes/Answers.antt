use Rattle.machine_words.specs.Number.{low_bytes}
use Rattle.region_guard.specs.declared.region.Access.TheVariants.{Fetch, Load, Store}
use Rattle.board_core.proofs.bus.a_store_puts_its_bytes.Goals as goal

pub returns : goal.returns
returns c = λ g m a n value sound some allowed.
    let in_ram = c.what_may_be_used_is_in_ram.ensures.in_ram g m Store a n sound some allowed in
    let stays = c.a_write_changes_its_bytes_alone.ensures.rule_stays g (low_bytes n value) a m in
    record {
      bytes = λ x. c.a_store_is_its_low_bytes.ensures.bytes g a n value x in_ram;
      fetches = λ x k. stays Fetch x k;
      loads = λ x k. stays Load x k;
      stores = λ x k. stays Store x k;
    }
