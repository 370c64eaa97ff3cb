use Rattle.module_manager.proofs.Started.{beginning_keeps_memory, start_keeps_regions, start_writes_its_data}
use Rattle.module_manager.proofs.laws.a_start_writes_its_data_region_alone.Goals as goal

pub returns : goal.returns
returns c = record {
  regions = start_keeps_regions;
  bytes = start_writes_its_data c.what_may_be_used_is_in_ram.ensures.in_ram c.a_write_changes_its_bytes_alone.ensures.outside_stays;
  beginning = beginning_keeps_memory;
}
