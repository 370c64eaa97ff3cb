-- What holds of every wheel is kept by each call.
use Rattle.std.proofs.Common.{◌≡◌, ◌↔◌, nat_lt, true, ◌≢◌, ℕ, ◌+◌, ◌<◌, ◌≤◌, ◌==◌, ◌^◌, not, length, None, arith}
use Rattle.std.proofs.lemmas.Bool.{eqb-false, lt-ltb, ltb-true}
use Rattle.std.proofs.lemmas.List.{length_push}
use Rattle.std.proofs.lemmas.List.Elements.{All-nil, All-push, All-weaker, All-filter}
use Rattle.std.proofs.lemmas.List.Kept.{AllPairs-filter}
use Rattle.std.proofs.lemmas.List.Quantifiers.{all_pairs_push}
use Rattle.std.proofs.lemmas.List.Sums.{AllPass-from_list_all, list_all-from_AllPass}
use Rattle.std.specs.List.{list_all}
use Rattle.soft_timers.specs.Timers.{TimerTable, IsWheel, IsRunning, no_timers, armed, armed_for, disarmed, ticked}
use Rattle.soft_timers.specs.declared.due.Armed.{Armed}
use Rattle.soft_timers.proofs.Entries.{none_passes, few}

pub armed_keeps : (w : TimerTable) (id n : ℕ) → IsWheel w → armed w id ≡ None → id < 512 → n < 2 ^ 32 → IsWheel (armed_for w id n)
armed_keeps w id n wheel free low short =
    let new : Armed = record { id = id; expiry = w.ticks + n; arming = w.armings } in
    let others = none_passes (λ e. e.id == id) w.entries free in
    record {
      each_once = all_pairs_push (λ d e. d.id ≢ e.id) w.entries new wheel.each_once (λ k d inside. eqb-false _ _ (others k d inside));
      in_order = all_pairs_push (λ d e. d.arming < e.arming) w.entries new wheel.in_order (λ k d inside. wheel.armed_before k d inside);
      numbers = All-push (λ e. e.id < 512) w.entries new wheel.numbers low;
      armed_before =
          All-push (λ e. e.arming < w.armings + 1) w.entries new
          (All-weaker (λ (e : Armed). e.arming < w.armings) (λ e. e.arming < w.armings + 1) (λ e below. omega arith) w.entries wheel.armed_before)
          (omega arith);
      not_past = All-push (λ e. w.ticks ≤ e.expiry) w.entries new wheel.not_past (omega arith);
      not_far = All-push (λ e. e.expiry < w.ticks + 2 ^ 32) w.entries new wheel.not_far (omega arith);
      ticks_few = wheel.ticks_few;
    }

pub disarmed_keeps : (w : TimerTable) (id : ℕ) → IsWheel w → IsWheel (disarmed w id)
disarmed_keeps w id wheel =
    let other = λ (e : Armed). not (e.id == id) in
    record {
      each_once = AllPairs-filter (λ d e. d.id ≢ e.id) other w.entries wheel.each_once;
      in_order = AllPairs-filter (λ d e. d.arming < e.arming) other w.entries wheel.in_order;
      numbers = All-filter other (λ e. e.id < 512) w.entries wheel.numbers;
      armed_before = All-filter other (λ e. e.arming < w.armings) w.entries wheel.armed_before;
      not_past = All-filter other (λ e. w.ticks ≤ e.expiry) w.entries wheel.not_past;
      not_far = All-filter other (λ e. e.expiry < w.ticks + 2 ^ 32) w.entries wheel.not_far;
      ticks_few = wheel.ticks_few;
    }

pub ticked_keeps : (w : TimerTable) → IsWheel w → IsRunning w → w.ticks < 2 ^ 63 → IsWheel (ticked w)
ticked_keeps w wheel running more = record {
  each_once = wheel.each_once;
  in_order = wheel.in_order;
  numbers = wheel.numbers;
  armed_before = wheel.armed_before;
  not_past = All-weaker (λ (e : Armed). w.ticks < e.expiry) (λ e. w.ticks + 1 ≤ e.expiry) (λ e later. omega arith) w.entries running;
  not_far = All-weaker (λ (e : Armed). e.expiry < w.ticks + 2 ^ 32) (λ e. e.expiry < w.ticks + 1 + 2 ^ 32) (λ e near. omega arith) w.entries wheel.not_far;
  ticks_few = omega arith;
}

pub new_is_wheel : IsWheel no_timers
new_is_wheel = record {
  each_once = λ i j d before inside. absurd (omega arith);
  in_order = λ i j d before inside. absurd (omega arith);
  numbers = All-nil (λ (e : Armed). e.id < 512);
  armed_before = All-nil (λ (e : Armed). e.arming < 0);
  not_past = All-nil (λ (e : Armed). 0 ≤ e.expiry);
  not_far = All-nil (λ (e : Armed). e.expiry < 0 + 2 ^ 32);
  ticks_few = omega arith;
}

pub few_armed : (w : TimerTable) → IsWheel w → length w.entries ≤ 512
few_armed w wheel = few w.entries wheel.each_once wheel.numbers

-- there is room for one that isn't armed
pub room : (w : TimerTable) (id : ℕ) → IsWheel w → armed w id ≡ None → id < 512 → length w.entries < 512
room w id wheel free low =
    let more = few_armed (armed_for w id 1) (armed_keeps w id 1 wheel free low (omega arith)) in
    let one = length_push w.entries (record { id = id; expiry = w.ticks + 1; arming = w.armings }) in
    omega arith

-- the test of whether a tick may come
pub runs_by_test : (w : TimerTable) → (list_all (λ e. nat_lt w.ticks e.expiry) w.entries ≡ true) ↔ IsRunning w
runs_by_test w =
    let later = λ (e : Armed). nat_lt w.ticks e.expiry in (
      λ yes k d inside. ltb-true _ _ (AllPass-from_list_all later w.entries yes k d inside),
      λ running. list_all-from_AllPass later w.entries
          (λ k d inside. lt-ltb _ _ (running k d inside)),
    )
