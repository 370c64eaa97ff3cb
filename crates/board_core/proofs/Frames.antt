-- What an event changes in memory lies in its frame.
use Rattle.std.proofs.Common.{◌≡◌, ℕ, ◌-◌, ◌<◌, true, List, [], ◌∷◌, Option, None, Some, position, refl, sym, ap, subst}
use Rattle.std.proofs.lemmas.Bool.{cond_both}
use Rattle.std.proofs.lemmas.List.Elements.{All-head}
use Rattle.machine_words.specs.Number.{low_bytes}
use Rattle.tx_types.specs.Code.{thread_error}
use Rattle.tx_types.specs.declared.kind.Kind.TheVariants.{Thread as ThreadKind}
use Rattle.flat_ram.specs.Laws.{IsOutside, LengthStays, WidthIsLength}
use Rattle.object_grants.specs.Slot.{has_name}
use Rattle.region_guard.specs.Laws.{BytesOutsideStay, UsedIsInRam}
use Rattle.region_guard.specs.Memory.{Memory, IsSound as IsSoundMemory, may, with_number, ram_base}
use Rattle.region_guard.specs.declared.region.Access.TheVariants.{Store}
use Rattle.rv_core.specs.Execute.{Effect, Completes, Stores, Calls, Faults}
use Rattle.rv_core.specs.Hart.{HartState}
use Rattle.board_file.specs.declared.board.Action.{Action}
use Rattle.board_file.specs.declared.board.Action.TheVariants.{Resume, Tick}
use Rattle.event_log.specs.Events.{Event, Step, Irq}
use Rattle.kernel_state.specs.Kernel.{thread, module_of}
use Rattle.kernel_state.specs.Laws.{OneHartChanges, RunningIsReady, ReadyIsThread}
use Rattle.kernel_state.specs.Outcome.{Outcome, found, unless}
use Rattle.kernel_state.specs.declared.kernel.Kernel.{Kernel}
use Rattle.kernel_state.specs.declared.thread.Thread.{Thread}
use Rattle.thread_calls.specs.ThreadRows.{resumption, starting}
use Rattle.kernel_state.specs.Range.{Range, WritesAlone}
use Rattle.kernel_state.specs.Registers.{arguments, number_asked}
use Rattle.kernel_state.specs.Results.{change_ranges}
use Rattle.call_dispatch.specs.Ecall.{dispatched}
use Rattle.call_dispatch.specs.Laws.{CallWritesResultsAlone}
use Rattle.call_dispatch.specs.Services.{call_row}
use Rattle.module_manager.specs.Laws.{HaltKeepsMemory}
use Rattle.board_core.specs.Action.{acted, clock_advanced, device_of, resumed_by_name}
use Rattle.board_core.specs.Bus.{seen}
use Rattle.board_core.specs.Frame.{effect_ranges, frame, step_ranges}
use Rattle.board_core.specs.Laws.{FrameLaw, IsWorld}
use Rattle.board_core.specs.After.{after}
use Rattle.board_core.specs.Step.{after_effect, after_fault, effect_ends, next_effect, step_ends, stepped, stepped_by, with_hart}
use Rattle.board_core.specs.World.{World}
use Rattle.board_core.specs.declared.parts.Parts.{Parts}
use Rattle.board_core.proofs.Effects.{IsAllowed, executed_allowed}
use Rattle.board_core.proofs.Running.{running_below, serves-with_hart, thread-with_hart}
use Rattle.board_core.proofs.Ticking.{tick_spares}

-- the laws of the layers below
pub record Lower : Type 0 where
  pub is_ready : RunningIsReady
  pub is_thread : ReadyIsThread
  pub hart : OneHartChanges
  pub length_stays : LengthStays
  pub width : WidthIsLength
  pub outside_stays : BytesOutsideStay
  pub in_ram : UsedIsInRam
  pub call : CallWritesResultsAlone
  pub halt : HaltKeepsMemory

nothing_changes : (ranges : List Range) (g : Memory) → WritesAlone ranges g g
nothing_changes ranges g = record { regions = refl; size = refl; bytes = λ x outside. refl }

-- a store that is allowed
stored_within : Lower → (g : Memory) (m a n value : ℕ) → IsSoundMemory g → 0 < n → may g m Store a n ≡ true
    → WritesAlone (record { base = a; size = n } ∷ []) g (with_number g a n value)
stored_within lower g m a n value sound some allowed =
    let stored = low_bytes n value in
    let here : Range = record { base = a; size = n } in
    let from = (lower.in_ram g m Store a n sound some allowed).from_base in
    record {
      regions = refl;
      size = lower.length_stays g.bytes stored (a - ram_base);
      bytes = λ x outside.
          lower.outside_stays g stored a x from
          (subst (λ i. IsOutside a i x) (sym (lower.width n value)) (All-head (λ (r : Range). IsOutside r.base r.size x) here [] outside));
    }

-- a call
call_within : Lower → (w : World) (t : ℕ) (h : HartState) → IsWorld w → w.parts.kernel.ready.run ≡ Some t → t < 256
    → WritesAlone (change_ranges w.parts.kernel (effect_ends w.parts t (Calls h)) (effect_ranges w.parts t (Calls h))) w.parts.memory
    (dispatched (with_hart w.parts.kernel t h) w.parts.memory t).change.memory
unfolding dispatched
call_within lower w t h world runs below =
    let k = with_hart w.parts.kernel t h in
    let g = w.parts.memory in
    let same : (thread k t).hart ≡ h = ap (λ (u : Thread). u.hart) (thread-with_hart w.parts.kernel t h world.serves.sound below) in
    let serves = serves-with_hart lower.hart w.parts.kernel g t h world.serves below in
    subst (λ (f : HartState).
    let c = (call_row (number_asked f) k g t (arguments f)).change in
    WritesAlone (change_ranges w.parts.kernel c.ends (effect_ranges w.parts t (Calls h))) g c.memory)
    (sym same) (lower.call k g t (number_asked h) (arguments h) serves runs world.memory)

-- a step
effect_within : Lower → (w : World) (t : ℕ) (e : Effect) → IsWorld w → w.parts.kernel.ready.run ≡ Some t → t < 256
    → IsAllowed (seen (module_of w.parts.kernel t) w.parts.memory) e
    → WritesAlone (change_ranges w.parts.kernel (effect_ends w.parts t e) (effect_ranges w.parts t e)) w.parts.memory (after_effect w.parts t e).memory
unfolding after_fault
effect_within lower w t (Completes h) world runs below allowed = nothing_changes [] w.parts.memory
effect_within lower w t (Stores a n value h) world runs below allowed =
    stored_within lower w.parts.memory (module_of w.parts.kernel t) a n value world.memory allowed.0 allowed.1
effect_within lower w t (Calls h) world runs below allowed = call_within lower w t h world runs below
effect_within lower w t (Faults cause) world runs below allowed =
    let ranges = change_ranges w.parts.kernel (effect_ends w.parts t (Faults cause)) [] in
    subst (WritesAlone ranges w.parts.memory) (sym (lower.halt w.parts.kernel w.parts.memory (module_of w.parts.kernel t)))
    (nothing_changes ranges w.parts.memory)

step_within : Lower → (w : World) (run : Option ℕ) → IsWorld w → w.parts.kernel.ready.run ≡ run
    → WritesAlone (change_ranges w.parts.kernel (step_ends w.parts run) (step_ranges w.parts run)) w.parts.memory (stepped_by w.parts run).memory
step_within lower w None world runs = nothing_changes [] w.parts.memory
step_within lower w (Some t) world runs =
    effect_within lower w t (next_effect w.parts t) world runs (running_below lower.is_ready lower.is_thread w.parts.kernel t world.serves.sound runs)
    (executed_allowed (seen (module_of w.parts.kernel t) w.parts.memory) (thread w.parts.kernel t).hart)

-- an interrupt
unless-memory : (k : Kernel) (g : Memory) (refusal : Option ℕ) (change : Outcome) → change.change.memory ≡ g → (unless k g refusal change).change.memory ≡ g
unless-memory k g None change same = same
unless-memory k g (Some c) change same = refl

resumption-memory : (k : Kernel) (g : Memory) (t : ℕ) → (resumption k g t).change.memory ≡ g
unfolding resumption starting
resumption-memory k g t =
    cond_both (thread k t).held _ _ (λ (o : Outcome). o.change.memory ≡ g) (λ held. refl) (λ free. unless-memory k g _ _ refl)

found-memory : (k : Kernel) (g : Memory) (o : Option ℕ) → (found k g thread_error o (resumption k g)).change.memory ≡ g
found-memory k g None = refl
found-memory k g (Some t) = resumption-memory k g t

acted-memory : (p : Parts) (action : Action) (target : List ℕ) (word : ℕ) → (acted p action target word).parts.memory ≡ p.memory
unfolding clock_advanced resumed_by_name
acted-memory p Tick target word = (tick_spares p.kernel p.memory).memory
acted-memory p Resume target word = found-memory p.kernel p.memory (position (has_name ThreadKind target) p.kernel.objects)
acted-memory p _ target word = refl

-- every event
pub event_within : Lower → (w : World) (e : Event) → IsWorld w → WritesAlone (frame w e) w.parts.memory (after w e).parts.memory
unfolding stepped
event_within lower w Step world = step_within lower w w.parts.kernel.ready.run world refl
event_within lower w (Irq d word) world =
    let ranges = frame w (Irq d word) in
    subst (WritesAlone ranges w.parts.memory) (sym (acted-memory w.parts (device_of w.board d).action (device_of w.board d).target word))
    (nothing_changes ranges w.parts.memory)

pub frame_law : Lower → FrameLaw
frame_law lower w e x world outside = (event_within lower w e world).bytes x outside
