-- How an event changes waits: by calls of their table, so that none is lost and none ends twice; and by
-- how much it raises the kernel's counts.
use Rattle.std.proofs.Common.{◌≡◌, ℕ, List, [], ◌∷◌, ◌++◌, Option, None, Some, position, refl, sym, ap, ◌∙◌, subst}
use Rattle.std.proofs.Common.{⊎_elim, arith, append-nil, append_assoc}
use Rattle.std.proofs.lemmas.Bool.{cond_both}
use Rattle.std.proofs.lemmas.List.{get_or-set_other}
use Rattle.std.proofs.lemmas.List.Elements.{All-weaker}
use Rattle.tx_types.specs.Code.{thread_error}
use Rattle.tx_types.specs.End.{WaitEnd}
use Rattle.tx_types.specs.declared.kind.Kind.TheVariants.{Thread as ThreadKind}
use Rattle.board_file.specs.declared.board.Action.{Action}
use Rattle.board_file.specs.declared.board.Action.TheVariants.{Resume, Tick}
use Rattle.call_dispatch.specs.Ecall.{dispatched}
use Rattle.call_dispatch.specs.Laws.{CallCallsWaits, CallRaisesCountsByOne}
use Rattle.event_log.specs.Events.{Step, Irq}
use Rattle.kernel_state.specs.Change.{Change}
use Rattle.kernel_state.specs.Kernel.{module_of, thread}
use Rattle.kernel_state.specs.Laws.{OneHartChanges, ReadyIsThread, RunningIsReady}
use Rattle.kernel_state.specs.Outcome.{Outcome, done, found, unless}
use Rattle.kernel_state.specs.Room.{HasRoom, RaisesCounts}
use Rattle.kernel_state.specs.Serves.{Serves}
use Rattle.kernel_state.specs.Thread.{blank_thread, is_over}
use Rattle.kernel_state.specs.ThreadChanges.{started}
use Rattle.kernel_state.specs.WaitCalls.{CallsWaits, EndsWithItsThread, LeavesWaits}
use Rattle.kernel_state.specs.WaitLaws.{LeftCallsWaits, TickCallsWaits, TickRaisesOne}
use Rattle.kernel_state.specs.declared.kernel.Kernel.{Kernel}
use Rattle.kernel_state.specs.declared.thread.Thread.{Thread}
use Rattle.module_manager.specs.Laws.{HaltCallsWaits, HaltRaisesNone}
use Rattle.object_grants.specs.Slot.{has_name}
use Rattle.region_guard.specs.Memory.{Memory}
use Rattle.rv_core.specs.Execute.{Effect, Completes, Stores, Calls, Faults}
use Rattle.rv_core.specs.Hart.{HartState}
use Rattle.soft_timers.specs.Timers.{TimerTable}
use Rattle.suspend_lists.specs.Laws.{Call, CallsAccount, CallsCount, CallsKeepItWhole, CallsKeepTheTable, MayCallAll, all_called, all_over, called, over_by}
use Rattle.suspend_lists.specs.Waits.{IsTable, WaitTable}
use Rattle.thread_calls.specs.ThreadRows.{resumption, starting}
use Rattle.board_core.specs.Action.{acted, clock_advanced, device_of, resumed_by_name}
use Rattle.board_core.specs.After.{after}
use Rattle.board_core.specs.Laws.{EventCallsWaits, EventRaisesCounts, GoneIsOver, IsWorld, TallyStays}
use Rattle.board_core.specs.Step.{after_effect, after_fault, effect_ends, next_effect, step_ends, stepped, stepped_by, with_hart}
use Rattle.board_core.specs.Trace.{AreTallied}
use Rattle.board_core.specs.World.{World}
use Rattle.board_core.specs.declared.parts.Parts.{Parts}
use Rattle.board_core.proofs.OwnedSlots.{same_or_other}
use Rattle.board_core.proofs.Running.{running_below, serves-with_hart, thread-with_hart}

-- the laws of the layers below
pub record Lower : Type 0 where
  pub is_ready : RunningIsReady
  pub is_thread : ReadyIsThread
  pub hart : OneHartChanges
  pub call : CallCallsWaits
  pub call_raises : CallRaisesCountsByOne
  pub halt : HaltCallsWaits
  pub halt_raises : HaltRaisesNone
  pub tick : TickCallsWaits
  pub tick_raises : TickRaisesOne
  pub left : LeftCallsWaits

-- a change that leaves waits and timeouts alone
quiet_raises : (k : Kernel) (c : Change) → LeavesWaits k c → RaisesCounts 1 k c.kernel
quiet_raises k c q =
    let begun = ap (λ (w : WaitTable). w.totals.begun) q.waits in
    let armings = ap (λ (w : TimerTable). w.armings) q.wheel in
    let ticks = ap (λ (w : TimerTable). w.ticks) q.wheel in
    record { begun = omega (arith, begun); armings = omega (arith, armings); ticks = omega (arith, ticks) }

-- a thread is resumed
unless_quiet : (k : Kernel) (g : Memory) (r : Option ℕ) (o : Outcome) → LeavesWaits k o.change → LeavesWaits k (unless k g r o).change
unless_quiet k g None o quiet = quiet
unless_quiet k g (Some c) o quiet = record { waits = refl; wheel = refl; ends = refl }

resumption_quiet : (k : Kernel) (g : Memory) (t : ℕ) → LeavesWaits k (resumption k g t).change
unfolding resumption starting
resumption_quiet k g t =
    cond_both (thread k t).held _ _ (λ (o : Outcome). LeavesWaits k o.change) (λ _. record { waits = refl; wheel = refl; ends = refl })
    (λ _. unless_quiet k g _ (done (started k g t)) (record { waits = refl; wheel = refl; ends = refl }))

found_quiet : (k : Kernel) (g : Memory) (t : Option ℕ) → LeavesWaits k (found k g thread_error t (resumption k g)).change
found_quiet k g None = record { waits = refl; wheel = refl; ends = refl }
found_quiet k g (Some t) = resumption_quiet k g t

-- a thread whose registers are set stays in its state
state-with_hart : (k : Kernel) (t u : ℕ) (h : HartState) → (thread (with_hart k t h) t).state ≡ (thread k t).state
    → (thread (with_hart k t h) u).state ≡ (thread k u).state
state-with_hart k t u h own =
    ⊎_elim (λ (same : u ≡ t). subst (λ v. (thread (with_hart k t h) v).state ≡ (thread k v).state) (sym same) own)
    (λ other. ap (λ (x : Thread). x.state) (get_or-set_other k.threads t u (record (thread k t) { hart = h }) blank_thread other))
    (same_or_other u t)

-- what an instruction leaves, and ends
abbrev change_of : Parts → ℕ → Effect → Change
change_of p t e =
    let now = after_effect p t e in record { kernel = now.kernel; memory = now.memory; ends = effect_ends p t e }

call_calls : Lower → (w : World) (t : ℕ) (h : HartState) → IsWorld w → w.parts.kernel.ready.run ≡ Some t
    → CallsWaits w.parts.kernel (change_of w.parts t (Calls h))
call_calls lower w t h world runs =
    let k = w.parts.kernel in
    let now = with_hart k t h in
    let below = running_below lower.is_ready lower.is_thread k t world.serves.sound runs in
    let own = ap (λ (x : Thread). x.state) (thread-with_hart k t h world.serves.sound below) in
    let c = dispatched now w.parts.memory t in
    let calls = lower.call now w.parts.memory t (serves-with_hart lower.hart k w.parts.memory t h world.serves below) runs in
    record {
      calls = calls.calls;
      waits = calls.waits;
      may = calls.may;
      ends = calls.ends;
      gone = All-weaker (EndsWithItsThread now c.change.kernel) (EndsWithItsThread k c.change.kernel)
          (λ (d : WaitEnd) (over : EndsWithItsThread now c.change.kernel d). λ how.
          let g = over how in (g.0, g.1, sym (ap is_over (state-with_hart k t g.0 h own)) ∙ g.2, g.3))
          c.change.ends calls.gone;
    }

effect_calls : Lower → (w : World) (t : ℕ) (e : Effect) → IsWorld w → w.parts.kernel.ready.run ≡ Some t → CallsWaits w.parts.kernel (change_of w.parts t e)
unfolding after_fault
effect_calls lower w t (Completes h) world runs = lower.left w.parts.kernel _ (record { waits = refl; wheel = refl; ends = refl })
effect_calls lower w t (Stores a n value h) world runs = lower.left w.parts.kernel _ (record { waits = refl; wheel = refl; ends = refl })
effect_calls lower w t (Calls h) world runs = call_calls lower w t h world runs
effect_calls lower w t (Faults cause) world runs = lower.halt w.parts.kernel w.parts.memory (module_of w.parts.kernel t) world.serves.sound

step_calls : Lower → (w : World) (run : Option ℕ) → IsWorld w → w.parts.kernel.ready.run ≡ run
    → CallsWaits w.parts.kernel (record { kernel = (stepped_by w.parts run).kernel; memory = (stepped_by w.parts run).memory; ends = step_ends w.parts run })
step_calls lower w None world runs = lower.left w.parts.kernel _ (record { waits = refl; wheel = refl; ends = refl })
step_calls lower w (Some t) world runs = effect_calls lower w t (next_effect w.parts t) world runs

-- no world has so many events that a count has no room
pub has_room : (w : World) → IsWorld w → HasRoom w.parts.kernel
has_room w world =
    record {
      begun = omega (arith, world.counts.begun, world.steps, world.irqs);
      armings = omega (arith, world.counts.armings, world.steps, world.irqs);
      ticks = omega (arith, world.counts.ticks, world.steps, world.irqs);
    }

-- what an action leaves, and ends
abbrev change_acted : Parts → Action → List ℕ → ℕ → Change
change_acted p action target word =
    let o = acted p action target word in record { kernel = o.parts.kernel; memory = o.parts.memory; ends = o.ends }

acted_calls : Lower → (p : Parts) (action : Action) (target : List ℕ) (word : ℕ) → Serves p.kernel p.memory → HasRoom p.kernel
    → CallsWaits p.kernel (change_acted p action target word)
unfolding clock_advanced resumed_by_name
acted_calls lower p Tick target word serves room = lower.tick p.kernel p.memory serves room
acted_calls lower p Resume target word serves room =
    lower.left p.kernel _ (found_quiet p.kernel p.memory (position (has_name ThreadKind target) p.kernel.objects))
acted_calls lower p _ target word serves room = lower.left p.kernel _ (record { waits = refl; wheel = refl; ends = refl })

pub event_calls : Lower → EventCallsWaits
unfolding stepped
event_calls lower w Step world = step_calls lower w w.parts.kernel.ready.run world refl
event_calls lower w (Irq d word) world =
    acted_calls lower w.parts (device_of w.board d).action (device_of w.board d).target word world.serves (has_room w world)

pub gone_is_over : Lower → GoneIsOver
gone_is_over lower w e world = (event_calls lower w e world).gone

-- the counts
effect_raises : Lower → (w : World) (t : ℕ) (e : Effect) → IsWorld w → w.parts.kernel.ready.run ≡ Some t
    → RaisesCounts 1 w.parts.kernel (after_effect w.parts t e).kernel
unfolding after_fault
effect_raises lower w t (Completes h) world runs =
    quiet_raises w.parts.kernel (change_of w.parts t (Completes h)) (record { waits = refl; wheel = refl; ends = refl })
effect_raises lower w t (Stores a n value h) world runs =
    quiet_raises w.parts.kernel (change_of w.parts t (Stores a n value h)) (record { waits = refl; wheel = refl; ends = refl })
effect_raises lower w t (Calls h) world runs =
    let k = w.parts.kernel in
    let below = running_below lower.is_ready lower.is_thread k t world.serves.sound runs in
    let serves = serves-with_hart lower.hart k w.parts.memory t h world.serves below in
    let one = lower.call_raises (with_hart k t h) w.parts.memory t serves runs in
    record { begun = one.begun; armings = one.armings; ticks = one.ticks }
effect_raises lower w t (Faults cause) world runs =
    let none = lower.halt_raises w.parts.kernel w.parts.memory (module_of w.parts.kernel t) in
    record { begun = omega (arith, none.begun); armings = omega (arith, none.armings); ticks = omega (arith, none.ticks) }

step_raises : Lower → (w : World) (run : Option ℕ) → IsWorld w → w.parts.kernel.ready.run ≡ run
    → RaisesCounts 1 w.parts.kernel (stepped_by w.parts run).kernel
step_raises lower w None world runs = record { begun = omega arith; armings = omega arith; ticks = omega arith }
step_raises lower w (Some t) world runs = effect_raises lower w t (next_effect w.parts t) world runs

acted_raises : Lower → (p : Parts) (action : Action) (target : List ℕ) (word : ℕ) → RaisesCounts 1 p.kernel (acted p action target word).parts.kernel
unfolding clock_advanced resumed_by_name
acted_raises lower p Tick target word = lower.tick_raises p.kernel p.memory
acted_raises lower p Resume target word =
    quiet_raises p.kernel (change_acted p Resume target word) (found_quiet p.kernel p.memory (position (has_name ThreadKind target) p.kernel.objects))
acted_raises lower p _ target word = record { begun = omega arith; armings = omega arith; ticks = omega arith }

pub event_raises : Lower → EventRaisesCounts
unfolding stepped
event_raises lower w Step world = step_raises lower w w.parts.kernel.ready.run world refl
event_raises lower w (Irq d word) world = acted_raises lower w.parts (device_of w.board d).action (device_of w.board d).target word

-- calls of a table of waits keep the tally
pub record TableLaws : Type 0 where
  pub table : CallsKeepTheTable
  pub account : CallsAccount
  pub count : CallsCount
  pub whole : CallsKeepItWhole

calls_tally : TableLaws → (cs : List Call) (w : WaitTable) (over : List WaitEnd) → IsTable w → MayCallAll w cs → AreTallied w over
    → AreTallied (all_called w cs) (over ++ all_over w cs)
calls_tally laws [] w over table may tallied = subst (AreTallied w) (sym (append-nil over)) tallied
calls_tally laws (c ∷ cs) w over table may tallied =
    let now = called w c in
    let more = over ++ over_by w c in
    let one : AreTallied now more = record {
      accounted = laws.account w over c table may.0 tallied.accounted;
      counted = laws.count w over c may.0 tallied.counted;
      whole = laws.whole w c table may.0 tallied.whole;
    } in
    subst (AreTallied (all_called now cs)) (append_assoc over (over_by w c) (all_over now cs))
    (calls_tally laws cs now more (laws.table w c table may.0) may.1 one)

pub tally_stays : TableLaws → EventCallsWaits → TallyStays
tally_stays laws calls t e world tallied =
    let w = t.now in
    let k = w.parts.kernel in
    let c = calls w e world in
    subst (λ es. AreTallied (after w e).parts.kernel.waits (t.ended ++ es)) (sym c.ends)
    (subst (λ now. AreTallied now (t.ended ++ all_over k.waits c.calls)) (sym c.waits)
    (calls_tally laws c.calls k.waits t.ended world.serves.sound.formed.waits c.may tallied))
