use Rattle.std.proofs.Common.{refl, arith}
use Rattle.board_run.proofs.Loading.{images_none}
use Rattle.board_run.proofs.boards.images_of.Goals as goal

pub loop-i-init : goal.loop-i-init
loop-i-init g c = record {
  held = refl;
  counted = omega arith;
  due = rw c.new-images.ensures.items (images_none (g.F.Files.held c.args.files.now) c.args.modules.now);
  count = c.new-images.ensures.len;
}
