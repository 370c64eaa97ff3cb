-- A table that the code reads, and its path; an array that may be missing, as entries.
use Rattle.std.specs.Prelude.{Option, Some, None, Vec}
use Rattle.std.specs.Borrow.{Bor}
use Rattle.std.specs.declared.alloc.Global.{Global}
use Rattle.toml.specs.Data.{Items, no_items}
use Rattle.toml.specs.View.{array_view, table_view}
use Rattle.toml.specs.declared.value.Value.{Value}
use Rattle.board_file.specs.Field.{Part}
use Rattle.board_file.specs.declared.part.Part.{Part as CodePart}

abbrev pub part_view : CodePart → Part
part_view p = record { path = p.path.now; fields = table_view p.fields.now }

abbrev pub entries_view : Option (Bor (Vec Value Global)) → Items
entries_view None = no_items
entries_view (Some v) = array_view v.now
