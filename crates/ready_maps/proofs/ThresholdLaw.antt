-- The threshold law, by induction over the moves: the running thread is still the first one, or has a
-- priority below that one's threshold.
use Rattle.std.proofs.Common.{◌≡◌, ◌≢◌, ℕ, ◌<◌, ◌≤◌, List, [], ◌∷◌, nat_lt, Option, None, Some, ⊎_elim, subst, sym, ap, refl, arith}
use Rattle.std.proofs.lemmas.Bool.{cond_both, cond-false, ltb-true, cases_eq}
use Rattle.ready_maps.specs.Kept.{IsKept}
use Rattle.ready_maps.specs.Laws.{Move, moved, all_moved, MayMove, MayMoveAll, MovesKeepTheFacts, IsArrival, AreArrivals, ThresholdLaw}
use Rattle.ready_maps.specs.Laws.Move.{Ready, Unready, Yield, SetThreshold, SetPriority}
use Rattle.ready_maps.specs.Members.{SameNumbers}
use Rattle.ready_maps.specs.Moves.{challenged, holding, placed_last, taken_out, readied, unreadied}
use Rattle.ready_maps.specs.Sched.{Sched, pr, th, runs, pick}
use Rattle.ready_maps.proofs.Numbers.{ready_keeps_numbers, unready_keeps_numbers, pr-same, same_then, th-same}

abbrev Follows : Sched → ℕ → Option ℕ → Type 0
Follows start a None = ⊥
Follows start a (Some r) = r ≢ a → pr start r < th start a

record IsLed (start now : Sched) (a : ℕ) : Type 0 where
  kept : IsKept now
  numbers : SameNumbers start now
  runner : Follows start a now.run

follows_challenged : (start now : Sched) (t a : ℕ) (o : Option ℕ) → now.run ≡ o → SameNumbers start now → ((u : ℕ) → th now u ≤ pr now u) → Follows start a o
    → Follows start a (challenged now t o).run
follows_challenged start now t a None same numbers low f = absurd f
follows_challenged start now t a (Some r) same numbers low f =
    cond_both (nat_lt (pr now t) (th now r)) (record (holding now r) { run = Some t }) now (λ after. Follows start a after.run)
    (λ test other.
    let below = ltb-true (pr now t) (th now r) test in
    let place = pr-same {s = start} {now = now} t numbers in
    let own = pr-same {s = start} {now = now} r numbers in
    let bound = th-same {s = start} {now = now} r numbers in
    ⊎_elim
    (λ first. let level : th start r ≡ th start a = ap (th start) first in omega arith)
    (λ later. let lower : pr start r < th start a = f later in let up = low r in omega arith)
    (cases_eq r a))
    (λ test. subst (Follows start a) (sym same) f)

led_step : MovesKeepTheFacts → (start now : Sched) (a : ℕ) (m : Move) → IsLed start now a → MayMove now m → IsArrival now m → IsLed start (moved now m) a
led_step keeps start now a (Ready t) led may arrival = record {
  kept = keeps now (Ready t ∷ []) led.kept (may, tt);
  numbers = same_then start now (readied now t) led.numbers (ready_keeps_numbers now t);
  runner = follows_challenged start (placed_last now t) t a now.run refl
      (record { levels = led.numbers.levels; priority = led.numbers.priority; threshold = led.numbers.threshold }) led.kept.laid_out.thresholds led.runner;
}
led_step keeps start now a (Unready t) led may arrival =
    let stays : unreadied now t ≡ taken_out now t = cond-false (runs now t) (pick (taken_out now t)) (taken_out now t) arrival in
    record {
      kept = keeps now (Unready t ∷ []) led.kept (may, tt);
      numbers = same_then start now (unreadied now t) led.numbers (unready_keeps_numbers now t);
      runner = subst (λ (after : Sched). Follows start a after.run) (sym stays) led.runner;
    }
led_step keeps start now a Yield led may arrival = absurd arrival
led_step keeps start now a (SetThreshold t threshold) led may arrival = absurd arrival
led_step keeps start now a (SetPriority t priority threshold) led may arrival = absurd arrival

led_all : MovesKeepTheFacts → (start now : Sched) (a : ℕ) (ms : List Move) → IsLed start now a → MayMoveAll now ms → AreArrivals now ms
    → IsLed start (all_moved now ms) a
led_all keeps start now a [] led may arrivals = led
led_all keeps start now a (m ∷ ms) led may arrivals =
    led_all keeps start (moved now m) a ms (led_step keeps start now a m led may.0 arrivals.0) may.1 arrivals.1

pub threshold_law : MovesKeepTheFacts → ThresholdLaw
threshold_law keeps s ms a b kept may arrivals runs_a runs_b other =
    let first : Follows s a s.run = subst (Follows s a) (sym runs_a) (λ ne. absurd (ne refl)) in
    let led = led_all keeps s s a ms (record { kept = kept; numbers = record { levels = refl; priority = refl; threshold = refl }; runner = first }) may
    arrivals in
    let last : Follows s a (Some b) = subst (Follows s a) runs_b led.runner in
    last (λ same. other (sym same))
