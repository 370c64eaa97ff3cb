-- The plainest world: the events that were made.
use Rattle.std.specs.Prelude.{ℕ, Bool, true, false, not, List, [], None, count_by}
use Rattle.board_values.specs.declared.report.Report.{Report}
use Rattle.tx_types.specs.End.{no_waits}
use Rattle.event_log.specs.Events.{Event, Step, Irq}

-- the events so far, the number of devices, and the room for steps and for interrupts
pub record Made : Type 0 where
  pub events : List Event
  pub devices : ℕ
  pub steps_left : ℕ
  pub irqs_left : ℕ

abbrev pub is_step : Event → Bool
is_step Step = true
is_step (Irq d w) = false

-- how many steps and interrupts there were, on a board with nothing on it
abbrev pub counts_of : List Event → Report
counts_of events = record {
  steps = count_by is_step events;
  irqs = count_by (λ e. not (is_step e)) events;
  ticks = 0;
  clock = 0;
  running = None;
  held = [];
  ready = [];
  totals = no_waits;
  modules = [];
  threads = [];
  objects = [];
  devices = [];
  shows = [];
}
