-- What holds of every table is kept by each call.
use Rattle.std.proofs.Common.{◌≡◌, ℕ, ◌+◌, ◌<◌, ◌≤◌, ◌==◌, Bool, true, false, List, [], ◌∷◌, ◌++◌, length, length-set, replicate, cond, ⊎_elim, slice_set}
use Rattle.std.proofs.Common.{Option, None, Some, refl, ap, sym, subst, ◌∙◌, arith}
use Rattle.std.proofs.lemmas.Bool.{eqb-true, eq-eqb, ne_eqb, cond_both, cond-true, cond-false, cases_eq, cases_lt}
use Rattle.std.proofs.lemmas.Bool.Decides.{nat_tests}
use Rattle.std.proofs.lemmas.List.{get_or-set_same, get_or-set_other, get_or_past, get_or-replicate, length-replicate}
use Rattle.std.proofs.lemmas.List.Folds.{sum_by-replicate}
use Rattle.std.proofs.lemmas.List.Sums.{sum_by-set, get_or-le-sum_by}
use Rattle.std.proofs.lemmas.Map.Steps.{length-le_from_distinct_below}
use Rattle.std.proofs.lemmas.Option.{same_Some, none-some}
use Rattle.std.specs.Bool.{nat_eq}
use Rattle.std.specs.List.{IsDistinct, slice_index_or}
use Rattle.std.specs.Option.{option_map_or, option_map, option_and_then, is_some, IfSome, IsSome}
use Rattle.tx_types.specs.declared.waits.End.{End}
use Rattle.tx_types.specs.declared.waits.End.TheVariants.{Satisfied, TimedOut, Aborted, Deleted, Gone}
use Rattle.tx_types.specs.declared.waits.Totals.{Totals}
use Rattle.suspend_lists.specs.ThreadList.{has, without}
use Rattle.suspend_lists.specs.Wait.{place, place_count}
use Rattle.suspend_lists.specs.Waits.{WaitTable, IsTable, new_table, waiters, waiters_in, with_waiters, pending, place_of, waits_at, restored, ended, put_first}
use Rattle.suspend_lists.specs.Waits.{counted, pending_count, ended_count, IsFreeNumber}
use Rattle.suspend_lists.specs.declared.wait.Pending.{Pending}
use Rattle.suspend_lists.specs.declared.wait.Wait.{Wait}
use Rattle.suspend_lists.proofs.Lists.{has-without, has-push, distinct-without, distinct-push, distinct-first, not_has-without, room}

-- the list of one place

abbrev pub is_at : Option ℕ → ℕ → Bool
is_at o q = option_map_or (λ p. p == q) o false

pub at_Some : (o : Option ℕ) (q : ℕ) → is_at o q ≡ true → o ≡ Some q
at_Some None q here = absurd (cc)
at_Some (Some p) q here = ap Some (eqb-true p q here)

pub waiters-with : (lists : List (List ℕ)) (o : Option ℕ) (ts : List ℕ) (q : ℕ) → IfSome o (λ p. p < length lists)
    → waiters_in (with_waiters lists o ts) (Some q) ≡ cond (is_at o q) ts (waiters_in lists (Some q))
waiters-with lists None ts q inside = refl
waiters-with lists (Some p) ts q inside =
    ⊎_elim
    (λ same. subst (λ (r : ℕ). slice_index_or (slice_set lists p ts) r [] ≡ cond (p == r) ts (slice_index_or lists r [])) same
    (get_or-set_same lists p ts [] inside ∙ sym (cond-true (p == p) ts _ (eq-eqb p p refl))))
    (λ other. get_or-set_other lists p q ts [] (λ back. other (sym back)) ∙ sym (cond-false (p == q) ts _ (ne_eqb p q other)))
    (cases_eq p q)

length-with : (lists : List (List ℕ)) (o : Option ℕ) (ts : List ℕ) → length (with_waiters lists o ts) ≡ length lists
length-with lists None ts = refl
length-with lists (Some p) ts = length-set lists p ts

distinct-with : (lists : List (List ℕ)) (o : Option ℕ) (ts : List ℕ) → IfSome o (λ p. p < length lists)
    → ((q : ℕ) → IsDistinct nat_eq (waiters_in lists (Some q))) → IsDistinct nat_eq ts → (q : ℕ)
    → IsDistinct nat_eq (waiters_in (with_waiters lists o ts) (Some q))
distinct-with lists o ts inside each one q =
    subst (IsDistinct nat_eq) (sym (waiters-with lists o ts q inside))
    (cond_both (is_at o q) ts (waiters_in lists (Some q)) (IsDistinct nat_eq) (λ _. one) (λ _. each q))

nil_distinct : IsDistinct nat_eq []
unfolding IsDistinct
nil_distinct = tt

distinct_at : (lists : List (List ℕ)) (o : Option ℕ) → ((q : ℕ) → IsDistinct nat_eq (waiters_in lists (Some q))) → IsDistinct nat_eq (waiters_in lists o)
distinct_at lists None each = nil_distinct
distinct_at lists (Some p) each = each p

-- the wait of one thread

pub pending_same : (waits : List (Option Pending)) (t u : ℕ) (o : Option Pending) → t < length waits → t ≡ u → slice_index_or (slice_set waits t o) u None ≡ o
pending_same waits t u o inside same = subst (λ (v : ℕ). slice_index_or (slice_set waits t o) v None ≡ o) same (get_or-set_same waits t o None inside)

pub pending_other : (waits : List (Option Pending)) (t u : ℕ) (o : Option Pending) → (t ≡ u → ⊥)
    → slice_index_or (slice_set waits t o) u None ≡ slice_index_or waits u None
pending_other waits t u o other = get_or-set_other waits t u o None (λ back. other (sym back))

abbrev place_in : Option Pending → Option ℕ
place_in o = option_and_then (λ p. place p.wait.on) o

abbrev number_in : Option Pending → Option ℕ
number_in o = option_map (λ p. p.number) o

-- a thread that waits is one of the 256
pub some_within : (waits : List (Option Pending)) (t : ℕ) → IsSome (slice_index_or waits t None) → t < length waits
some_within waits t some = ⊎_elim (λ inside. inside) (λ past. absurd (cc (get_or_past waits t None past))) (cases_lt t (length waits))

-- a thread that waits at a place waits at one of the 272
pub place_within : (w : WaitTable) (t p : ℕ) → IsTable w → place_of w t ≡ Some p → p < length w.lists
place_within w t p table at =
    ⊎_elim (λ inside. inside)
    (λ past. let here : waits_at w p t ≡ true = ap (λ (o : Option ℕ). is_at o p) at ∙ eq-eqb p p refl in
    let none : has t (waiters w (Some p)) ≡ false = ap (has t) (get_or_past w.lists p [] past) in
    absurd (cc (table.at_its_place p t)))
    (cases_lt p (length w.lists))

pub within : (w : WaitTable) (t : ℕ) (o : Option ℕ) → IsTable w → place_of w t ≡ o → IfSome o (λ p. p < length w.lists)
within w t None table at = tt
within w t (Some p) table at = place_within w t p table at

-- who stands where

old_at : (w : WaitTable) (o : Option ℕ) (q u : ℕ) → IsTable w → is_at o q ≡ true → has u (waiters_in w.lists o) ≡ waits_at w q u
old_at w o q u table here = ap (λ (p : Option ℕ). has u (waiters_in w.lists p)) (at_Some o q here) ∙ table.at_its_place q u

at_its_place-with : (w : WaitTable) (o : Option ℕ) (ts : List ℕ) (q u : ℕ) (b : Bool) → IsTable w → IfSome o (λ p. p < length w.lists)
    → (is_at o q ≡ true → has u ts ≡ b) → (is_at o q ≡ false → waits_at w q u ≡ b) → has u (waiters_in (with_waiters w.lists o ts) (Some q)) ≡ b
at_its_place-with w o ts q u b table inside here elsewhere =
    ap (has u) (waiters-with w.lists o ts q inside)
    ∙ cond_both (is_at o q) ts (waiters w (Some q)) (λ us. has u us ≡ b) here (λ other. table.at_its_place q u ∙ elsewhere other)

-- a thread that doesn't wait stands nowhere
pub stands_nowhere : (w : WaitTable) (t : ℕ) (o : Option ℕ) → IsTable w → pending w t ≡ None → has t (waiters_in w.lists o) ≡ false
stands_nowhere w t None table none = refl
stands_nowhere w t (Some p) table none = table.at_its_place p t ∙ ap (λ (o : Option Pending). is_at (place_in o) p) none

-- who stands in a list waits, and so is below 256
waits_within : (w : WaitTable) (o : Option ℕ) (u : ℕ) → IsTable w → has u (waiters_in w.lists o) ≡ true → u < 256
waits_within w None u table there = let never : false ≡ true = there in absurd (cc)
waits_within w (Some p) u table there =
    let at = sym (table.at_its_place p u) ∙ there in
    let inside = some_within w.waits u (is_some_at (pending w u) p at) in
    subst (λ (n : ℕ). u < n) table.threads inside where
      is_some_at : (o : Option Pending) (p : ℕ) → is_at (place_in o) p ≡ true → IsSome o
      is_some_at None p at = absurd (cc)
      is_some_at (Some x) p at = refl

-- so no list has more than that
pub few_at : (w : WaitTable) (o : Option ℕ) → IsTable w → length (waiters_in w.lists o) ≤ 256
few_at w o table =
    length-le_from_distinct_below (waiters_in w.lists o) 256 (distinct_at w.lists o table.each_once) (λ u there. waits_within w o u table there)

-- and there is room for one more
pub room_at : (w : WaitTable) (t : ℕ) (o : Option ℕ) → IsTable w → t < 256 → pending w t ≡ None → length (waiters_in w.lists o) < 256
room_at w t o table low none =
    room t (waiters_in w.lists o) low (distinct_at w.lists o table.each_once) (stands_nowhere w t o table none) (λ u there. waits_within w o u table there)

-- how many wait

abbrev pub weight : Option Pending → ℕ
weight o = cond (is_some o) 1 0

pub weight_some : (o : Option Pending) → IsSome o → weight o ≡ 1
weight_some None some = absurd (cc)
weight_some (Some x) some = refl

pub one_waits : (w : WaitTable) (t : ℕ) → IsSome (pending w t) → 1 ≤ pending_count w
one_waits w t some =
    let one = weight_some (pending w t) some in
    let least = get_or-le-sum_by weight w.waits t None (some_within w.waits t some) in
    omega arith

pub ended_more : (x : Totals) (e : End) → ended_count (counted x e) ≡ ended_count x + 1
ended_more x Satisfied = omega arith
ended_more x TimedOut = omega arith
ended_more x Aborted = omega arith
ended_more x Deleted = omega arith
ended_more x Gone = omega arith

pub begun_stays : (x : Totals) (e : End) → (counted x e).begun ≡ x.begun
begun_stays x Satisfied = refl
begun_stays x TimedOut = refl
begun_stays x Aborted = refl
begun_stays x Deleted = refl
begun_stays x Gone = refl

-- each call

pub restored_keeps : (w : WaitTable) (t : ℕ) (x : Wait) (n : ℕ) → IsTable w → t < 256 → pending w t ≡ None → IfSome (place x.on) (λ p. p < place_count)
    → n < w.totals.begun → IsFreeNumber w n → pending_count w + ended_count w.totals < w.totals.begun → IsTable (restored w t x n)
restored_keeps w t x n table low none at below unused fits =
    let new : Option Pending = Some (record { wait = x; number = n }) in
    let o = place x.on in
    let ts = waiters_in w.lists o in
    let inside : t < length w.waits = subst (λ (m : ℕ). t < m) (sym table.threads) low in
    let there : IfSome o (λ p. p < length w.lists) = subst (λ (m : ℕ). IfSome o (λ p. p < m)) (sym table.places) at in
    let absent = stands_nowhere w t o table none in
    let same = λ (u : ℕ) (e : t ≡ u). pending_same w.waits t u new inside e in
    let other = λ (u : ℕ) (apart : t ≡ u → ⊥). pending_other w.waits t u new apart in
    let was_none = λ (q : ℕ) (u : ℕ) (e : t ≡ u). subst (λ (v : ℕ). waits_at w q v ≡ false) e (ap (λ (p : Option Pending). is_at (place_in p) q) none) in
    let joins = has-push t in
    record {
      places = length-with w.lists o (ts ++ t ∷ []) ∙ table.places;
      threads = length-set w.waits t new ∙ table.threads;
      each_once = distinct-with w.lists o (ts ++ t ∷ []) there table.each_once (distinct-push t ts (distinct_at w.lists o table.each_once) absent);
      at_its_place = λ q u. ⊎_elim
          (λ (e : t ≡ u). let placed = ap (λ (p : Option Pending). is_at (place_in p) q) (same u e) in
          at_its_place-with w o (ts ++ t ∷ []) q u _ table there
          (λ here. let stands = joins u ts in let is_t = eq-eqb t u e in grind (arith, nat_tests))
          (λ elsewhere. was_none q u e ∙ sym (placed ∙ elsewhere)))
          (λ apart. let placed = ap (λ (p : Option Pending). is_at (place_in p) q) (other u apart) in
          at_its_place-with w o (ts ++ t ∷ []) q u _ table there
          (λ here. let stands = joins u ts in let isnt_t = ne_eqb t u apart in let before = old_at w o q u table here in grind (arith, nat_tests))
          (λ elsewhere. sym placed))
          (cases_eq t u);
      numbers_below = λ u m is. ⊎_elim
          (λ (e : t ≡ u). let has_n : Some n ≡ Some m = sym (ap number_in (same u e)) ∙ is in let n_is_m = same_Some n m has_n in omega arith)
          (λ apart. table.numbers_below u m (sym (ap number_in (other u apart)) ∙ is))
          (cases_eq t u);
      numbers_apart = λ u v m at_u at_v. ⊎_elim
          (λ (e : t ≡ u). ⊎_elim (λ (f : t ≡ v). sym e ∙ f)
          (λ apart. let n_is_m = same_Some n m (sym (ap number_in (same u e)) ∙ at_u) in
          absurd (unused v (sym (ap number_in (other v apart)) ∙ (at_v ∙ ap Some (sym n_is_m)))))
          (cases_eq t v))
          (λ apart. ⊎_elim
          (λ (f : t ≡ v). let n_is_m = same_Some n m (sym (ap number_in (same v f)) ∙ at_v) in
          absurd (unused u (sym (ap number_in (other u apart)) ∙ (at_u ∙ ap Some (sym n_is_m)))))
          (λ apart_v. table.numbers_apart u v m (sym (ap number_in (other u apart)) ∙ at_u) (sym (ap number_in (other v apart_v)) ∙ at_v))
          (cases_eq t v))
          (cases_eq t u);
      counts =
          let summed : pending_count (restored w t x n) + weight (pending w t) ≡ pending_count w + 1 = sum_by-set weight w.waits t new None inside in
          let old : weight (pending w t) ≡ 0 = ap weight none in
          omega arith;
    }

pub ended_keeps : (w : WaitTable) (t : ℕ) (e : End) → IsTable w → IsSome (pending w t) → IsTable (ended w t e)
ended_keeps w t e table some =
    let o = place_of w t in
    let ts = waiters_in w.lists o in
    let inside = some_within w.waits t some in
    let there = within w t o table refl in
    let same = λ (u : ℕ) (is_t : t ≡ u). pending_same w.waits t u None inside is_t in
    let other = λ (u : ℕ) (apart : t ≡ u → ⊥). pending_other w.waits t u None apart in
    let leaves = has-without t in
    record {
      places = length-with w.lists o (without t ts) ∙ table.places;
      threads = length-set w.waits t None ∙ table.threads;
      each_once = distinct-with w.lists o (without t ts) there table.each_once (distinct-without t ts (distinct_at w.lists o table.each_once));
      at_its_place = λ q u. ⊎_elim
          (λ (is_t : t ≡ u). let placed : waits_at (ended w t e) q u ≡ false = ap (λ (p : Option Pending). is_at (place_in p) q) (same u is_t) in
          at_its_place-with w o (without t ts) q u _ table there
          (λ here. let stands = leaves u ts in let equal = eq-eqb t u is_t in grind (arith, nat_tests))
          (λ elsewhere. subst (λ (v : ℕ). waits_at w q v ≡ false) is_t elsewhere ∙ sym placed))
          (λ apart. let placed : waits_at (ended w t e) q u ≡ waits_at w q u = ap (λ (p : Option Pending). is_at (place_in p) q) (other u apart) in
          at_its_place-with w o (without t ts) q u _ table there
          (λ here. let stands = leaves u ts in let differs = ne_eqb t u apart in let before = old_at w o q u table here in grind (arith, nat_tests))
          (λ elsewhere. sym placed))
          (cases_eq t u);
      numbers_below = λ u m is. ⊎_elim
          (λ (is_t : t ≡ u). absurd (none-some m (sym (ap number_in (same u is_t)) ∙ is)))
          (λ apart. subst (λ (b : ℕ). m < b) (sym (begun_stays w.totals e)) (table.numbers_below u m (sym (ap number_in (other u apart)) ∙ is)))
          (cases_eq t u);
      numbers_apart = λ u v m at_u at_v. ⊎_elim
          (λ (is_t : t ≡ u). absurd (none-some m (sym (ap number_in (same u is_t)) ∙ at_u)))
          (λ apart. ⊎_elim (λ (is_t : t ≡ v). absurd (none-some m (sym (ap number_in (same v is_t)) ∙ at_v)))
          (λ apart_v. table.numbers_apart u v m (sym (ap number_in (other u apart)) ∙ at_u) (sym (ap number_in (other v apart_v)) ∙ at_v))
          (cases_eq t v))
          (cases_eq t u);
      counts =
          let summed : pending_count (ended w t e) + weight (pending w t) ≡ pending_count w + 0 = sum_by-set weight w.waits t None None inside in
          let old = weight_some (pending w t) some in
          let more = ended_more w.totals e in
          let stays = begun_stays w.totals e in
          omega arith;
    }

pub put_first_keeps : (w : WaitTable) (t : ℕ) → IsTable w → IsSome (place_of w t) → IsTable (put_first w t)
put_first_keeps w t table some =
    let o = place_of w t in
    let ts = waiters_in w.lists o in
    let there = within w t o table refl in
    let leaves = has-without t in
    record {
      places = length-with w.lists o (t ∷ without t ts) ∙ table.places;
      threads = table.threads;
      each_once =
          distinct-with w.lists o (t ∷ without t ts) there table.each_once
          (distinct-first t (without t ts) (distinct-without t ts (distinct_at w.lists o table.each_once)) (not_has-without t ts));
      at_its_place = λ q u. at_its_place-with w o (t ∷ without t ts) q u (waits_at w q u) table there
          (λ here. let stands = leaves u ts in let before = old_at w o q u table here in ⊎_elim
          (λ (is_t : t ≡ u). let equal = eq-eqb u t (sym is_t) in
          let waits : waits_at w q u ≡ true = subst (λ (v : ℕ). waits_at w q v ≡ true) is_t here in
          grind (arith, nat_tests))
          (λ apart. let differs = ne_eqb u t (λ back. apart (sym back)) in let also = ne_eqb t u apart in grind (arith, nat_tests))
          (cases_eq t u))
          (λ elsewhere. refl);
      numbers_below = table.numbers_below;
      numbers_apart = table.numbers_apart;
      counts = table.counts;
    }

-- a thread that waits at a place stands there
pub stands_there : (w : WaitTable) (t : ℕ) (o : Option ℕ) → IsTable w → place_of w t ≡ o → IsSome o → has t (waiters_in w.lists o) ≡ true
stands_there w t None table at some = absurd (cc)
stands_there w t (Some p) table at some = table.at_its_place p t ∙ (ap (λ (o : Option ℕ). is_at o p) at ∙ eq-eqb p p refl)

-- one wait more begins
pub begins_keeps : (w : WaitTable) → IsTable w → IsTable (record w { totals = record w.totals { begun = w.totals.begun + 1 } })
begins_keeps w table = record {
  places = table.places;
  threads = table.threads;
  each_once = table.each_once;
  at_its_place = table.at_its_place;
  numbers_below = λ t n is. let below = table.numbers_below t n is in omega arith;
  numbers_apart = table.numbers_apart;
  counts = let most = table.counts in omega arith;
}

pub next_is_free : (w : WaitTable) → IsTable w → IsFreeNumber w w.totals.begun
next_is_free w table t is = let below = table.numbers_below t w.totals.begun is in absurd (omega arith)

pub new_is_table : IsTable new_table
new_is_table = record {
  places = length-replicate {A = List ℕ} place_count [];
  threads = length-replicate 256 none;
  each_once = λ p. subst (IsDistinct nat_eq) (sym (no_list p)) nil_distinct;
  at_its_place = λ p t. ap (has t) (no_list p) ∙ sym (ap (λ (o : Option Pending). is_at (place_in o) p) (no_wait t));
  numbers_below = λ t n is. absurd (none-some n (sym (ap number_in (no_wait t)) ∙ is));
  numbers_apart = λ t u n at_t at_u. absurd (none-some n (sym (ap number_in (no_wait t)) ∙ at_t));
  counts = let sum = sum_by-replicate weight 256 none in omega arith;
} where
  none : Option Pending
  none = None

  no_list : (p : ℕ) → slice_index_or (replicate {A = List ℕ} place_count []) p [] ≡ []
  no_list p =
      ⊎_elim (λ inside. get_or-replicate {A = List ℕ} place_count p [] [] inside)
      (λ past. get_or_past (replicate {A = List ℕ} place_count []) p []
      (subst (λ (n : ℕ). n ≤ p) (sym (length-replicate {A = List ℕ} place_count [])) past))
      (cases_lt p place_count)

  no_wait : (t : ℕ) → slice_index_or (replicate 256 none) t None ≡ None
  no_wait t =
      ⊎_elim (λ inside. get_or-replicate 256 t none None inside)
      (λ past. get_or_past (replicate 256 none) t None (subst (λ (n : ℕ). n ≤ t) (sym (length-replicate 256 none)) past)) (cases_lt t 256)
