-- Which timeouts and timers are armed, by ticks since the start, and which are due.
use Rattle.std.specs.Prelude.{ℕ, ◌≢◌, ◌+◌, ◌-◌, ◌^◌, ◌<◌, ◌≤◌, ◌==◌, Bool, false, not, List, []}
use Rattle.std.specs.Prelude.{◌∷◌, ◌++◌, All, AllPairs, filter, find, Option}
use Rattle.std.specs.Option.{option_map, option_map_or}
use Rattle.tx_types.specs.Limits.{timer_limit}
use Rattle.soft_timers.specs.declared.due.Armed.{Armed}

pub record TimerTable : Type 0 where
  pub ticks : ℕ  -- how many ticks came
  pub armings : ℕ  -- how often one was armed
  pub entries : List Armed  -- what is armed, in order of arming

-- nothing is armed, and no tick came
abbrev pub no_timers : TimerTable
no_timers = record { ticks = 0; armings = 0; entries = [] }

-- what is armed under a number, its arming, and in how many ticks it is due
abbrev pub armed : TimerTable → ℕ → Option Armed
armed w id = find (λ e. e.id == id) w.entries

abbrev pub arming : TimerTable → ℕ → Option ℕ
arming w id = option_map (λ e. e.arming) (armed w id)

abbrev pub left : TimerTable → ℕ → Option ℕ
left w id = option_map (λ e. e.expiry - w.ticks) (armed w id)

-- one is armed, to be due in n ticks
abbrev pub armed_for : TimerTable → ℕ → ℕ → TimerTable
armed_for w id n = record w {
  armings = w.armings + 1;
  entries = w.entries ++ record { id = id; expiry = w.ticks + n; arming = w.armings } ∷ [];
}

-- one is disarmed: the others keep their order
abbrev pub without : ℕ → List Armed → List Armed
without id es = filter (λ e. not (e.id == id)) es

abbrev pub disarmed : TimerTable → ℕ → TimerTable
disarmed w id = record w { entries = without id w.entries }

-- one tick more
abbrev pub ticked : TimerTable → TimerTable
ticked w = record w { ticks = w.ticks + 1 }

-- what is due at a tick, in order of arming, and at the present one
abbrev pub due_among : List Armed → ℕ → List Armed
due_among es now = filter (λ e. e.expiry == now) es

abbrev pub due_now : TimerTable → List Armed
due_now w = due_among w.entries w.ticks

-- one that was due is still armed by the same arming
abbrev pub still : TimerTable → Armed → Bool
still w d = option_map_or (λ n. n == d.arming) (arming w d.id) false

-- what holds of every wheel
pub record IsWheel (w : TimerTable) : Type 0 where
  pub each_once : AllPairs (λ d e. d.id ≢ e.id) w.entries
  pub in_order : AllPairs (λ d e. d.arming < e.arming) w.entries
  pub numbers : All (λ e. e.id < timer_limit) w.entries
  pub armed_before : All (λ e. e.arming < w.armings) w.entries
  pub not_past : All (λ e. w.ticks ≤ e.expiry) w.entries
  pub not_far : All (λ e. e.expiry < w.ticks + 2 ^ 32) w.entries
  pub ticks_few : w.ticks ≤ 2 ^ 63

-- each that is armed has at least one tick left
abbrev pub IsRunning : TimerTable → Type 0
IsRunning w = All (λ e. w.ticks < e.expiry) w.entries
