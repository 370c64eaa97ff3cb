use Rattle.std.proofs.Common.{◌≡◌, ℕ, ◌<◌, length, slice_index}
use Rattle.board_serve.specs.Scripts.{script_of}
use Rattle.board_serve.proofs.writer.has_all.Given as goal

-- each device before has as many interrupts as words
abbrev pub invariant-loop-d : goal.invariant-loop-d
invariant-loop-d l = (k : ℕ) → k < l.d → slice_index l.counts k ≡ length (script_of l.devices k)
