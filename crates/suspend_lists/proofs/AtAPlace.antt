-- What each call leaves of the threads that wait at a place, and of the waits.
use Rattle.std.proofs.Common.{◌≡◌, ◌≢◌, ℕ, ◌<◌, ◌==◌, true, false, List, [], ◌∷◌, ◌++◌, length, slice_set, Option, None, Some, ⊎_elim, refl, ap, sym, subst}
use Rattle.std.proofs.Common.{◌∙◌}
use Rattle.std.proofs.lemmas.Bool.{eq-eqb, or_left, cases_lt}
use Rattle.std.proofs.lemmas.List.{get_or-set_same, get_or-set_other, get_or_past, set_past}
use Rattle.std.proofs.lemmas.Map.Keys.{IsDistinct-head}
use Rattle.std.specs.Bool.{nat_eq}
use Rattle.std.specs.List.{IsDistinct, AllByRecursion, slice_index_or}
use Rattle.std.specs.Option.{option_map}
use Rattle.suspend_lists.specs.Laws.{StandsWhereItWaits, RestIsLeft, OthersStay, NewWaiterIsLast, PutFirstIsFirst, WaitsStay}
use Rattle.suspend_lists.specs.ThreadList.{has, without}
use Rattle.suspend_lists.specs.Wait.{place}
use Rattle.suspend_lists.specs.Waits.{waiters, waiters_in, with_waiters, place_of}
use Rattle.suspend_lists.specs.declared.wait.Pending.{Pending}
use Rattle.suspend_lists.specs.declared.wait.Wait.{Wait}
use Rattle.suspend_lists.proofs.Kept.{is_at, at_Some, place_within, pending_same, pending_other}

-- who stands where

pub stands_where_it_waits : StandsWhereItWaits
stands_where_it_waits w p t table = (
  λ there. at_Some (place_of w t) p (sym (table.at_its_place p t) ∙ there),
  λ at. table.at_its_place p t ∙ (ap (λ (o : Option ℕ). is_at o p) at ∙ eq-eqb p p refl),
)

-- the list of a place that becomes another one, and each list of another place

at_the_place : (lists : List (List ℕ)) (o : Option ℕ) (p : ℕ) (ts : List ℕ) → o ≡ Some p → p < length lists
    → waiters_in (with_waiters lists o ts) (Some p) ≡ ts
at_the_place lists o p ts at inside =
    ap (λ (q : Option ℕ). waiters_in (with_waiters lists q ts) (Some p)) at ∙ get_or-set_same lists p ts [] inside

elsewhere : (lists : List (List ℕ)) (o : Option ℕ) (q : ℕ) (ts : List ℕ) → o ≢ Some q
    → waiters_in (with_waiters lists o ts) (Some q) ≡ waiters_in lists (Some q)
elsewhere lists None q ts apart = refl
elsewhere lists (Some p) q ts apart = get_or-set_other lists p q ts [] (λ same. apart (ap Some (sym same)))

pub others_stay : OthersStay
others_stay = record {
  end = λ w t q e apart. elsewhere w.lists (place_of w t) q (without t (waiters_in w.lists (place_of w t))) apart;
  begin = λ w t q x apart. elsewhere w.lists (place x.on) q (waiters_in w.lists (place x.on) ++ t ∷ []) apart;
  first = λ w t q apart. elsewhere w.lists (place_of w t) q (t ∷ without t (waiters_in w.lists (place_of w t))) apart;
}

pub new_waiter_is_last : NewWaiterIsLast
new_waiter_is_last w t p x table at low =
    let inside : p < length w.lists = subst (λ (n : ℕ). p < n) (sym table.places) low in
    at_the_place w.lists (place x.on) p (waiters_in w.lists (place x.on) ++ t ∷ []) at inside
    ∙ ap (λ (o : Option ℕ). waiters_in w.lists o ++ t ∷ []) at

pub put_first_is_first : PutFirstIsFirst
put_first_is_first w t p table at =
    at_the_place w.lists (place_of w t) p (t ∷ without t (waiters_in w.lists (place_of w t))) at (place_within w t p table at)
    ∙ ap (λ (o : Option ℕ). t ∷ without t (waiters_in w.lists o)) at

-- the first of a list leaves it

without_absent : (t : ℕ) (ts : List ℕ) → AllByRecursion (λ u. nat_eq t u ≡ false) ts → without t ts ≡ ts
without_absent t [] none = refl
without_absent t (u ∷ us) none = rw none.0 (ap (λ (vs : List ℕ). u ∷ vs) (without_absent t us none.1))

first_out : (t : ℕ) (ts : List ℕ) → IsDistinct nat_eq (t ∷ ts) → without t (t ∷ ts) ≡ ts
first_out t ts once =
    let here : (t == t) ≡ true = eq-eqb t t refl in
    rw here (without_absent t ts (IsDistinct-head nat_eq t ts once))

pub rest_is_left : RestIsLeft
rest_is_left w p t ts e table is =
    let there : has t (waiters w (Some p)) ≡ true = ap (has t) is ∙ or_left (t == t) (has t ts) (eq-eqb t t refl) in
    let at = (stands_where_it_waits w p t table).0 there in
    let gone : without t (waiters w (Some p)) ≡ ts = ap (without t) is ∙ first_out t ts (subst (IsDistinct nat_eq) is (table.each_once p)) in
    at_the_place w.lists (place_of w t) p (without t (waiters_in w.lists (place_of w t))) at (place_within w t p table at)
    ∙ (ap (λ (o : Option ℕ). without t (waiters_in w.lists o)) at ∙ gone)

-- the waits

abbrev wait_in : Option Pending → Option Wait
wait_in o = option_map (λ p. p.wait) o

no_longer_waits : (waits : List (Option Pending)) (t : ℕ) → slice_index_or (slice_set waits t None) t None ≡ None
no_longer_waits waits t =
    ⊎_elim (λ inside. get_or-set_same waits t None None inside)
    (λ past. ap (λ (ws : List (Option Pending)). slice_index_or ws t None) (set_past waits t None past) ∙ get_or_past waits t None past)
    (cases_lt t (length waits))

pub waits_stay : WaitsStay
waits_stay = record {
  end = λ w t u e apart. ap wait_in (pending_other w.waits t u None (λ same. apart (sym same)));
  over = λ w t e. ap wait_in (no_longer_waits w.waits t);
  begin = λ w t u x apart. ap wait_in (pending_other w.waits t u (Some (record { wait = x; number = w.totals.begun })) (λ same. apart (sym same)));
  new = λ w t x table low.
      let inside : t < length w.waits = subst (λ (n : ℕ). t < n) (sym table.threads) low in
      ap wait_in (pending_same w.waits t t (Some (record { wait = x; number = w.totals.begun })) inside refl);
  first = λ w t u. refl;
}
