use Rattle.std.proofs.Common.{◌≡◌, ◌≤◌, drop, length, map, take}
use Rattle.std.specs.Vec.{vec_capacity}
use Rattle.module_preamble.specs.Words.{words_of}
use Rattle.board_core.specs.Boot.{contents, image_refusal}
use Rattle.board_core.specs.Laid.{AreAccepted}
use Rattle.board_core.proofs.placing.preambles.Given as goal

abbrev pub invariant-loop-i : goal.invariant-loop-i
invariant-loop-i l = record {
  words : l.preambles.items ≡ map words_of (contents (take l.i l.images));
  room : length l.images ≤ vec_capacity l.preambles;
  accepted : AreAccepted (contents (take l.i l.images));
  due : image_refusal l.i (contents (drop l.i l.images)) ≡ image_refusal 0 (contents l.images);
}
