use Rattle.toml.proofs.Views.{table_get}
use Rattle.board_file.proofs.part.Part.field.Goals as goal

pub returns : goal.returns
returns c = table_get c.get.result c.args.key.now _ c.get.ensures.value
