-- The frame of an event: the ranges whose bytes it may change.
use Rattle.std.specs.Prelude.{ℕ, List, [], ◌∷◌, Option, None, Some}
use Rattle.kernel_state.specs.Registers.{arguments, number_asked}
use Rattle.kernel_state.specs.Range.{Range, range}
use Rattle.kernel_state.specs.Results.{change_ranges}
use Rattle.call_dispatch.specs.Services.{call_result}
use Rattle.event_log.specs.Events.{Event, Step, Irq}
use Rattle.rv_core.specs.Execute.{Effect, Completes, Stores, Calls, Faults}
use Rattle.board_core.specs.Step.{next_effect, with_hart}
use Rattle.board_core.specs.Trace.{ends}
use Rattle.board_core.specs.World.{World}
use Rattle.board_core.specs.declared.parts.Parts.{Parts}

-- a store writes its range, and a call its result where the caller's module may store there;
-- nothing else has a range of its own
abbrev pub effect_ranges : Parts → ℕ → Effect → List Range
effect_ranges p t (Completes h) = []
effect_ranges p t (Stores a n value h) = range a n ∷ []
effect_ranges p t (Calls h) =
    call_result (number_asked h) (with_hart p.kernel t h) p.memory t (arguments h)
effect_ranges p t (Faults cause) = []

abbrev pub step_ranges : Parts → Option ℕ → List Range
step_ranges p None = []
step_ranges p (Some t) = effect_ranges p t (next_effect p t)

-- the action of a device writes nothing of its own
abbrev pub own_ranges : World → Event → List Range
own_ranges w Step = step_ranges w.parts w.parts.kernel.ready.run
own_ranges w (Irq d word) = []

-- each event writes there, and in the results of the waits that it ends as Satisfied
abbrev pub frame : World → Event → List Range
frame w e = change_ranges w.parts.kernel (ends w e) (own_ranges w e)
