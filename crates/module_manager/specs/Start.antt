-- The start of a module: its data is zeroed, its threads are made in the lowest usable slots, and
-- then they are started.
use Rattle.std.specs.Prelude.{ℕ, ◌&&◌, Bool, true, false, nat_le, List, codes, length, filter}
use Rattle.std.specs.Prelude.{position, replicate, Option, None, Some, if◌then◌else◌}
use Rattle.std.specs.Option.{unwrap_or}
use Rattle.tx_types.specs.Code.{success, start_error}
use Rattle.tx_types.specs.declared.kind.Kind.TheVariants.{Thread}
use Rattle.object_grants.specs.Slot.{is_usable}
use Rattle.object_grants.specs.Table.{after_allocate}
use Rattle.module_preamble.specs.Words.{has_callback}
use Rattle.module_preamble.specs.declared.words.Preamble.{Preamble}
use Rattle.module_loader.specs.Opening.{opening}
use Rattle.module_loader.specs.Want.{want_of}
use Rattle.region_guard.specs.Memory.{Memory, with_bytes}
use Rattle.kernel_state.specs.Change.{Change, followed, quiet}
use Rattle.kernel_state.specs.Kernel.{placed, spot, with_spot}
use Rattle.kernel_state.specs.ThreadChanges.{started}
use Rattle.kernel_state.specs.declared.kernel.Kernel.{Kernel}
use Rattle.kernel_state.specs.declared.thread.ThreadSpec.{ThreadSpec}
use Rattle.module_manager.specs.Modules.{may_start, module_at, with_state}
use Rattle.module_manager.specs.declared.modules.Module.{Module}
use Rattle.module_manager.specs.declared.modules.ModuleState.TheVariants.{Started}

-- a module needs a slot for its start thread, and one for its callback thread where it has one
abbrev pub slots_needed : Preamble → ℕ
slots_needed p = if has_callback p then 2 else 1

-- how many slots can be allocated
abbrev pub usable_slots : Kernel → ℕ
usable_slots k = length (filter is_usable k.objects)

abbrev pub can_start : Kernel → Module → Bool
can_start k r = may_start r.state && nat_le (slots_needed r.preamble) (usable_slots k)

-- the data region is zeroed, stacks included
abbrev pub zeroed : Memory → Module → Memory
zeroed g r = with_bytes g r.placed.data_base (replicate (want_of r.preamble).data_bytes 0)

-- the names of the two threads, and what each is made of: its threshold is its priority, and it has
-- no time slice
abbrev pub start_name : List ℕ
start_name = codes "start"

abbrev pub callback_name : List ℕ
callback_name = codes "callback"

abbrev pub start_spec : ℕ → Module → ThreadSpec
start_spec m r = record {
  «module» = m;
  hart = opening r.preamble r.placed r.preamble.start false;
  priority = r.preamble.start_prio;
  threshold = r.preamble.start_prio;
  slice = 0;
}

abbrev pub callback_spec : ℕ → Module → ThreadSpec
callback_spec m r = record {
  «module» = m;
  hart = opening r.preamble r.placed r.preamble.callback true;
  priority = r.preamble.callback_prio;
  threshold = r.preamble.callback_prio;
  slice = 0;
}

-- the lowest usable slot, where there is one, and a thread that is made in it
abbrev pub next_slot : Kernel → ℕ
next_slot k = unwrap_or (position is_usable k.objects) 0

abbrev pub in_new_slot : Kernel → List ℕ → ThreadSpec → Kernel
in_new_slot k name s =
    placed (record k { objects = after_allocate k.objects s.module Thread }) (next_slot k) name s

-- a module's spot names its callback thread, or none
abbrev pub with_callback : Kernel → ℕ → Option ℕ → Kernel
with_callback k m t = with_spot k m (record (spot k m) { callback = t })

-- the start thread is made, and started
unfoldable pub begun_alone : Kernel → Memory → ℕ → Module → Change
begun_alone k g m r =
    started (with_callback (in_new_slot k start_name (start_spec m r)) m None) g (next_slot k)

-- the start thread is made, then the callback thread; and in that order they are started
unfoldable pub begun_both : Kernel → Memory → ℕ → Module → Change
begun_both k g m r =
    let one = in_new_slot k start_name (start_spec m r) in
    let both = in_new_slot one callback_name (callback_spec m r) in
    followed (started (with_callback both m (Some (next_slot one))) g (next_slot k))
    (λ k g. started k g (next_slot one))

abbrev pub begun : Kernel → Memory → ℕ → Module → Change
begun k g m r = if has_callback r.preamble then begun_both k g m r else begun_alone k g m r

-- what a start leaves, and what it answers
pub record StartOutcome : Type 0 where
  pub modules : List Module
  pub change : Change
  pub answer : ℕ

unfoldable pub start_row : List Module → Kernel → Memory → ℕ → StartOutcome
start_row rows k g m =
    if can_start k (module_at rows m)
    then record {
      modules = with_state rows m Started;
      change = begun k (zeroed g (module_at rows m)) m (module_at rows m);
      answer = success;
    }
    else record { modules = rows; change = quiet k g; answer = start_error }
