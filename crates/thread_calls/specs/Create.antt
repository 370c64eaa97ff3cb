-- The block of words that describes a thread to be created, and the thread that is made of it.
use Rattle.std.specs.Prelude.{ℕ, ◌+◌, ◌*◌, ◌/◌, ◌%◌, ◌^◌, ◌==◌, List, nat_le, nat_lt, Option}
use Rattle.std.specs.Prelude.{slice_set, replicate, if◌then◌else◌}
use Rattle.std.specs.Option.{option_or}
use Rattle.tx_types.specs.Code.{size_error, priority_error, thresh_error, start_error}
use Rattle.call_arguments.specs.Words.{nth_word}
use Rattle.region_guard.specs.Memory.{Memory}
use Rattle.region_guard.specs.declared.region.Access.TheVariants.{Fetch, Store}
use Rattle.rv_core.specs.Hart.{HartState}
use Rattle.rv_core.specs.Registers.{a0, a1, gp, sp}
use Rattle.kernel_state.specs.Kernel.{module_of, placed, spot}
use Rattle.kernel_state.specs.Change.{Change, quiet}
use Rattle.kernel_state.specs.Outcome.{refused}
use Rattle.kernel_state.specs.Tests.{caller_refusal}
use Rattle.kernel_state.specs.ThreadChanges.{started}
use Rattle.kernel_state.specs.declared.kernel.Kernel.{Kernel}
use Rattle.kernel_state.specs.declared.thread.ThreadSpec.{ThreadSpec}
use Rattle.thread_calls.specs.declared.create.ThreadBlock.{ThreadBlock}

-- the eight words at an address
abbrev pub block_at : Memory → ℕ → ThreadBlock
block_at g x = record {
  entry = nth_word g x 0;
  input = nth_word g x 1;
  stack = nth_word g x 2;
  size = nth_word g x 3;
  priority = nth_word g x 4;
  threshold = nth_word g x 5;
  slice = nth_word g x 6;
  auto = nth_word g x 7;
}

-- why no thread can be made of a block
unfoldable pub block_refusal : Kernel → Memory → ℕ → ThreadBlock → Option ℕ
block_refusal k g by b =
    option_or (caller_refusal k g by Fetch b.entry 4)
    (option_or (refused (nat_lt b.size 64) size_error)
    (option_or (caller_refusal k g by Store b.stack b.size)
    (option_or (refused (nat_le k.ready.levels b.priority) priority_error)
    (option_or (refused (nat_lt b.priority b.threshold) thresh_error)
    (refused (nat_lt 1 b.auto) start_error)))))

-- pc at the module's shell entry; sp the top of the stack, gp the module's data base, a0 the entry,
-- a1 the input, all else 0
abbrev pub opening : Kernel → ℕ → ThreadBlock → HartState
opening k m b = record {
  pc = (spot k m).shell;
  x = slice_set (slice_set (slice_set (slice_set (replicate 32 0)
      sp ((b.stack + b.size) % 2 ^ 32 / 16 * 16)) gp (spot k m).data_base) a0 b.entry) a1 b.input;
}

abbrev pub spec_of : Kernel → ℕ → ThreadBlock → ThreadSpec
spec_of k by b = record {
  «module» = module_of k by;
  hart = opening k (module_of k by) b;
  priority = b.priority;
  threshold = b.threshold;
  slice = b.slice;
}

-- the thread is made in slot o, and started where `auto` says so
unfoldable pub created : Kernel → Memory → ℕ → ℕ → List ℕ → ThreadBlock → Change
created k g by o name b =
    let now = placed k o name (spec_of k by b) in
    if b.auto == 1 then started now g o else quiet now g
