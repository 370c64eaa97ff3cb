-- The registers with which the threads of a placed module begin.
use Rattle.std.specs.Prelude.{◌≡◌, ℕ, ◌+◌, ◌%◌, ◌^◌, ◌<◌, Bool, true, replicate, slice_set}
use Rattle.std.specs.Prelude.{if◌then◌else◌}
use Rattle.module_preamble.specs.Words.{has_callback}
use Rattle.module_preamble.specs.declared.words.Preamble.{Preamble}
use Rattle.rv_core.specs.Registers.{sp, gp, a0}
use Rattle.rv_core.specs.Hart.{HartState}
use Rattle.module_loader.specs.Want.{data_and_stack, callback_bytes, want_of}
use Rattle.module_loader.specs.declared.placement.Placed.{Placed}

-- the start stack lies after the data, and the callback stack after it; each grows down from its
-- top
abbrev pub stack_top : Preamble → Placed → Bool → ℕ
stack_top p at second = at.data_base + data_and_stack p + (if second then callback_bytes p else 0)

-- pc at the shell entry; sp the top of the thread's stack, gp the data base, a0 the
-- address of the entry that the shell is to call, all else 0
abbrev pub opening : Preamble → Placed → ℕ → Bool → HartState
opening p at entry second = record {
  pc = at.code_base + p.shell;
  x = slice_set (slice_set (slice_set (replicate 32 0) sp (stack_top p at second)) gp at.data_base)
      a0 (at.code_base + entry);
}

-- the module lies at its place as it wants to
pub record LiesAt (p : Preamble) (at : Placed) : Type 0 where
  pub code_base : at.code_base % 32 ≡ 0
  pub data_base : at.data_base % 32 ≡ 0
  pub code_end : at.code_base + (want_of p).code < 2 ^ 32
  pub data_end : at.data_base + (want_of p).data_bytes < 2 ^ 32

-- the thread begins in the module's code, and the second one only where there is a callback
pub record Begins (p : Preamble) (entry : ℕ) (second : Bool) : Type 0 where
  pub shell_aligned : p.shell % 4 ≡ 0
  pub shell_inside : p.shell < p.code_size
  pub entry_inside : entry < p.code_size
  pub callback : second ≡ true → has_callback p ≡ true
