-- A tick of the clock: what is due has its turn, and then the time slice of the running thread.
use Rattle.std.specs.Prelude.{ℕ, ◌+◌, ◌-◌, ◌^◌, ◌%◌, ◌==◌, ◌&&◌, Bool, false, nat_lt, List, [], ◌∷◌}
use Rattle.std.specs.Prelude.{Option, None, Some, if◌then◌else◌}
use Rattle.std.specs.Option.{option_map_or}
use Rattle.tx_types.specs.Limits.{slot_limit}
use Rattle.tx_types.specs.declared.waits.End.TheVariants.{TimedOut}
use Rattle.ready_maps.specs.Moves.{yielded}
use Rattle.region_guard.specs.Memory.{Memory}
use Rattle.soft_timers.specs.Timers.{due_now, still, ticked}
use Rattle.soft_timers.specs.declared.due.Armed.{Armed}
use Rattle.kernel_state.specs.Change.{Change, followed, quiet}
use Rattle.kernel_state.specs.Kernel.{thread, with_thread}
use Rattle.kernel_state.specs.Waiting.{wait_ended}
use Rattle.kernel_state.specs.declared.kernel.Kernel.{Kernel}
use Rattle.kernel_state.specs.declared.thread.Thread.{Thread}

-- the clock is one higher, and what is due is listed
abbrev pub tick_counted : Kernel → Kernel
tick_counted k = record k {
  clock = (k.clock + 1) % 2 ^ 32;
  wheel = ticked k.wheel;
  due = due_now (ticked k.wheel);
}

-- a timeout ends the wait of its thread; a timer object does nothing yet
abbrev pub expired : Kernel → Memory → ℕ → Change
expired k g id = if nat_lt id slot_limit then wait_ended k g id TimedOut [] else quiet k g

-- what is due has its turn where it is still armed by the same arming
abbrev pub turn : Kernel → Memory → Armed → Change
turn k g d = if still k.wheel d then expired k g d.id else quiet k g

-- one after another
abbrev pub turns : List Armed → Kernel → Memory → Change
turns [] k g = quiet k g
turns (d ∷ ds) k g = followed (turn k g d) (turns ds)

-- a thread shares the processor by time slices where it has one, and lets its equals run
abbrev pub has_slice : Thread → Bool
has_slice x = nat_lt 0 x.slice && (x.threshold == x.priority)

-- one tick less is left of the slice; where none is, it is whole again, and the thread yields
abbrev pub with_left : Kernel → ℕ → ℕ → Kernel
with_left k t left = with_thread k t (record (thread k t) { left = left })

abbrev pub slice_used : Kernel → ℕ → Kernel
slice_used k t =
    if (thread k t).left - 1 == 0
    then record (with_left k t (thread k t).slice) { ready = yielded k.ready }
    else with_left k t ((thread k t).left - 1)

-- so it is with the thread that ran as the tick came, where it still runs
abbrev pub runs : Kernel → ℕ → Bool
runs k t = option_map_or (λ u. u == t) k.ready.run false

abbrev pub slice_treated : Option ℕ → Kernel → Kernel
slice_treated None k = k
slice_treated (Some t) k = if runs k t && has_slice (thread k t) then slice_used k t else k

-- A tick: it is counted, each that is due has its turn, in order of arming, and then the time slice
-- is treated. The list of what is due is empty but in a tick.
abbrev pub advanced : Kernel → Memory → Change
advanced k g =
    followed (quiet (tick_counted k) g) (λ now h.
    followed (turns now.due now h) (λ now h.
    quiet (slice_treated k.ready.run (record now { due = [] })) h))
