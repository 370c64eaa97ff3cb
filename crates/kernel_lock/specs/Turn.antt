-- What a turn does to a history.
use Rattle.std.specs.Prelude.{ℕ, ◌<◌, List, ⊤}
use Rattle.event_log.specs.Log.{with_step, with_irq}
use Rattle.event_log.specs.declared.entry.Entry.{Entry}
use Rattle.kernel_lock.specs.declared.turn.Turn.{Turn}
use Rattle.kernel_lock.specs.declared.turn.Turn.TheVariants.{Took, Stepped, Idle}

-- the history after a turn: one event more, or none
abbrev pub after_turn : List Entry → Turn → List Entry
after_turn es (Took d w) = with_irq d w es
after_turn es Stepped = with_step es
after_turn es Idle = es

-- the device of an interrupt that was taken is one of the board's
abbrev pub TookOneOf : ℕ → Turn → Type 0
TookOneOf devices (Took d w) = d < devices
TookOneOf devices Stepped = ⊤
TookOneOf devices Idle = ⊤
