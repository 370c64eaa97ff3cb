-- Where the results go of the waits that an event ends: each place was promised to a thread that waits.
use Rattle.std.proofs.Common.{◌≡◌, ◌⊎◌, ℕ, zero, suc, ◌+◌, ◌*◌, ◌<◌, ◌≤◌, Bool, true, false, List, [], ◌∷◌, Option, None, Some, IfSome, All, position}
use Rattle.std.proofs.Common.{refl, sym, ap, ◌∙◌, subst, ⊎_elim, inl, inr, get_or, arith}
use Rattle.std.proofs.lemmas.Bool.{cases_lt, cond_both, eqb-true, false≢true}
use Rattle.std.proofs.lemmas.List.{get_or_default, get_or_past}
use Rattle.std.proofs.lemmas.List.Elements.{All-cons, All-nil, Contains-append_cases}
use Rattle.std.proofs.lemmas.List.Quantifiers.{position-Some}
use Rattle.std.specs.List.{Contains, filter, flat_map}
use Rattle.std.specs.Option.{option_map, option_map_or}
use Rattle.tx_types.specs.End.{WaitEnd}
use Rattle.tx_types.specs.declared.waits.End.{End}
use Rattle.tx_types.specs.declared.waits.End.TheVariants.{Satisfied, TimedOut, Aborted, Deleted, Gone}
use Rattle.flat_ram.specs.Laws.{IsOutside}
use Rattle.object_grants.specs.Table.{slot}
use Rattle.region_guard.specs.Memory.{Memory, may}
use Rattle.region_guard.specs.declared.region.Access.TheVariants.{Store}
use Rattle.suspend_lists.specs.Laws.{has_number}
use Rattle.suspend_lists.specs.Waits.{number_of, pending, wait_of}
use Rattle.suspend_lists.specs.declared.wait.Pending.{Pending}
use Rattle.suspend_lists.specs.declared.wait.Wait.{Wait}
use Rattle.kernel_state.specs.Contents.{IsPlace, IsPromised, result_words}
use Rattle.kernel_state.specs.Kernel.{is_thread, module_of}
use Rattle.kernel_state.specs.Range.{IsOutsideAll, Range, range}
use Rattle.kernel_state.specs.Results.{is_satisfied, result_at, result_range, result_ranges}
use Rattle.kernel_state.specs.Serves.{Serves}
use Rattle.kernel_state.specs.Sound.{IsEntry, IsSound}
use Rattle.kernel_state.specs.Waiting.{wanted_at}
use Rattle.kernel_state.specs.declared.kernel.Kernel.{Kernel}

-- elements of lists
pub contains_none : {X : Type 0} (x : X) → Contains [] x → ⊥
contains_none x (k, below, is) = omega (arith, below)

pub contains_one : {X : Type 0} (x y : X) → Contains (y ∷ []) x → y ≡ x
contains_one x y (zero, below, is) = is
contains_one x y (suc k, below, is) = absurd (omega (arith, below))

contains_head : {X : Type 0} (x : X) (xs : List X) → Contains (x ∷ xs) x
contains_head x xs = (0, omega arith, refl)

contains_more : {X : Type 0} (x y : X) (xs : List X) → Contains xs x → Contains (y ∷ xs) x
contains_more x y xs (k, below, is) = (suc k, omega (arith, below), is)

pub All-from_contains : {X : Type 0} (P : X → Type 0) (xs : List X) → ((x : X) → Contains xs x → P x) → All P xs
All-from_contains P xs each k d below = each (get_or xs k d) (k, below, get_or_default xs k (get_or xs k d) d below)

pub All-contained : {X : Type 0} (P : X → Type 0) (xs : List X) (x : X) → All P xs → Contains xs x → P x
All-contained P xs x all (k, below, is) = subst P is (all k x below)

-- an address is in one of some ranges, or outside of them
abbrev pub IsIn : List Range → ℕ → Type 0
IsIn rs x = (r : Range) × Contains rs r × (r.base ≤ x) × (x < r.base + r.size)

pub in_or_outside : (rs : List Range) (x : ℕ) → IsIn rs x ⊎ IsOutsideAll rs x
in_or_outside [] x = inr (All-nil (λ (r : Range). IsOutside r.base r.size x))
in_or_outside (r ∷ rs) x =
    ⊎_elim (λ inside. inl (inside.0, contains_more inside.0 r rs inside.1, inside.2, inside.3))
    (λ outside.
    let with_first = λ (first : IsOutside r.base r.size x). All-cons (λ (s : Range). IsOutside s.base s.size x) r rs first outside in
    ⊎_elim (λ before. inr (with_first (inl before)))
    (λ (from : r.base ≤ x).
    ⊎_elim (λ (to : x < r.base + r.size). inl (r, contains_head r rs, from, to)) (λ behind. inr (with_first (inr behind))) (cases_lt x (r.base + r.size)))
    (cases_lt x r.base))
    (in_or_outside rs x)

-- who is in what a list leads to comes from one of it, and who passes a test is in the list
in_flat_map : {X Y : Type 0} (f : X → List Y) (xs : List X) (y : Y) → Contains (flat_map f xs) y → (x : X) × Contains xs x × Contains (f x) y
in_flat_map f [] y stands = absurd (contains_none y stands)
in_flat_map f (x ∷ xs) y stands =
    ⊎_elim (λ here. (x, contains_head x xs, here)) (λ later. let found = in_flat_map f xs y later in (found.0, contains_more found.0 x xs found.1, found.2))
    (Contains-append_cases (f x) (flat_map f xs) y stands)

filter_place : {X : Type 0} (p : X → Bool) (y : X) (ys : List X) (x : X) → (Contains (filter p ys) x → Contains ys x × (p x ≡ true)) → p y ≡ true
    → Contains (y ∷ filter p ys) x → Contains (y ∷ ys) x × (p x ≡ true)
filter_place {X} p y ys x rest passes (zero, below, is) = subst (λ (z : X). Contains (y ∷ ys) z × (p z ≡ true)) is (contains_head y ys, passes)
filter_place {X} p y ys x rest passes (suc k, below, is) =
    let later = rest (k, omega (arith, below), is) in (contains_more x y ys later.0, later.1)

in_filter : {X : Type 0} (p : X → Bool) (xs : List X) (x : X) → Contains (filter p xs) x → Contains xs x × (p x ≡ true)
in_filter p [] x stands = absurd (contains_none x stands)
in_filter {X} p (y ∷ ys) x stands =
    cond_both (p y) (y ∷ filter p ys) (filter p ys) (λ (zs : List X). Contains zs x → Contains (y ∷ ys) x × (p x ≡ true))
    (filter_place p y ys x (in_filter p ys x))
    (λ _. λ there. let rest = in_filter p ys x there in (contains_more x y ys rest.0, rest.1)) stands

-- a wait of a thread with a number, its end as Satisfied, and the range of its result
pub record IsResultRange (k : Kernel) (ends : List WaitEnd) (r : Range) : Type 0 where
  pub waiter : ℕ
  pub wait : Wait
  pub to : ℕ
  pub number : ℕ
  pub waits : wait_of k.waits waiter ≡ Some wait
  pub its_number : number_of k.waits waiter ≡ Some number
  pub satisfied : Contains ends (record { wait = number; how = Satisfied })
  pub wanted : wanted_at wait.asks ≡ Some to
  pub is : range to (4 * result_words k.queues wait.on) ≡ r

how_satisfied : (e : End) → is_satisfied e ≡ true → e ≡ Satisfied
how_satisfied Satisfied is = refl
how_satisfied TimedOut is = absurd (false≢true is)
how_satisfied Aborted is = absurd (false≢true is)
how_satisfied Deleted is = absurd (false≢true is)
how_satisfied Gone is = absurd (false≢true is)

numbered : (o : Option Pending) (n : ℕ) → has_number n o ≡ true → option_map (λ p. p.number) o ≡ Some n
numbered None n has = absurd (false≢true has)
numbered (Some p) n has = ap Some (eqb-true p.number n has)

-- a thread's result has one range
module _ (k : Kernel) (ends : List WaitEnd) (r : Range) (d : WaitEnd) (ended : Contains ends (record { wait = d.wait; how = Satisfied })) where
  by_place : (t : ℕ) → number_of k.waits t ≡ Some d.wait → (w : Wait) → wait_of k.waits t ≡ Some w → (o : Option ℕ) → wanted_at w.asks ≡ o
      → Contains (option_map_or (λ to. range to (4 * result_words k.queues w.on) ∷ []) o []) r → IsResultRange k ends r
  by_place t has w waits None wanted there = absurd (contains_none r there)
  by_place t has w waits (Some to) wanted there = record {
    waiter = t;
    wait = w;
    to = to;
    number = d.wait;
    waits = waits;
    its_number = has;
    satisfied = ended;
    wanted = wanted;
    is = contains_one r (range to (4 * result_words k.queues w.on)) there;
  }

  by_wait : (t : ℕ) → number_of k.waits t ≡ Some d.wait → (o : Option Wait) → wait_of k.waits t ≡ o → Contains (option_map_or (result_at k) o []) r
      → IsResultRange k ends r
  by_wait t has None waits there = absurd (contains_none r there)
  by_wait t has (Some w) waits there = by_place t has w waits (wanted_at w.asks) refl there

  by_thread : (o : Option ℕ) → position (has_number d.wait) k.waits.waits ≡ o → Contains (option_map_or (result_range k) o []) r → IsResultRange k ends r
  by_thread None found there = absurd (contains_none r there)
  by_thread (Some t) found there =
      let at = position-Some (has_number d.wait) k.waits.waits t None found in
      by_wait t (numbered (pending k.waits t) d.wait at.1) (wait_of k.waits t) refl there

-- each range among the results is one of a wait that ends as Satisfied
pub in_results : (k : Kernel) (ends : List WaitEnd) (r : Range) → Contains (result_ranges k ends) r → IsResultRange k ends r
in_results k ends r stands =
    let satisfied = λ (d : WaitEnd). is_satisfied d.how in
    let ranges = λ (d : WaitEnd). option_map_or (result_range k) (position (has_number d.wait) k.waits.waits) [] in
    let found = in_flat_map ranges (filter satisfied ends) r stands in
    let d = found.0 in
    let passed = in_filter satisfied ends d found.1 in
    let ended : Contains ends (record { wait = d.wait; how = Satisfied }) =
    subst (λ (e : End). Contains ends (record { wait = d.wait; how = e })) (how_satisfied d.how passed.1) passed.0 in
    by_thread k ends r d ended (position (has_number d.wait) k.waits.waits) refl found.2

pub its_range : (k : Kernel) (ends : List WaitEnd) (r : Range) (from : IsResultRange k ends r) → result_range k from.waiter ≡ r ∷ []
its_range k ends r from =
    ap (λ o. option_map_or (result_at k) o []) from.waits
    ∙ ap (λ o. option_map_or (λ to. range to (4 * result_words k.queues from.wait.on) ∷ []) o []) from.wanted
    ∙ ap (λ (s : Range). s ∷ []) from.is

-- who waits is a thread, whose slot is its module's
waiter_below : (k : Kernel) (t : ℕ) (w : Wait) → IsSound k → wait_of k.waits t ≡ Some w → t < 256
waiter_below k t w sound waits =
    ⊎_elim (λ below. below)
    (λ (past : 256 ≤ t).
    let none = ap (option_map (λ (p : Pending). p.wait)) (get_or_past k.waits.waits t None (omega (arith, sound.formed.waits.threads))) in
    let no = sym none ∙ waits in cc)
    (cases_lt t 256)

owner_by : (k : Kernel) (t : ℕ) (w : Wait) (b : Bool) → IsEntry k t b → wait_of k.waits t ≡ Some w → module_of k t ≡ (slot k.objects t).owner
owner_by k t w true entry waits = entry.owner
owner_by k t w false entry waits = let no = sym entry.1 ∙ waits in cc

pub waiter_owner : (k : Kernel) (t : ℕ) (w : Wait) → IsSound k → wait_of k.waits t ≡ Some w → module_of k t ≡ (slot k.objects t).owner
waiter_owner k t w sound waits = owner_by k t w (is_thread k t) (sound.formed.entries t (waiter_below k t w sound waits)) waits

-- where a result goes the module of its thread may store
pub result_stored : (k : Kernel) (g : Memory) (ends : List WaitEnd) (r : Range) → Serves k g → (from : IsResultRange k ends r)
    → may g (module_of k from.waiter) Store r.base r.size ≡ true
result_stored k g ends r serves from =
    let m = (slot k.objects from.waiter).owner in
    let n = result_words k.queues from.wait.on in
    let promised : IsPromised g m k.queues from.wait = subst (λ o. IfSome o (IsPromised g m k.queues)) from.waits (serves.promised from.waiter) in
    let place : IsPlace g m n from.to = subst (λ o. IfSome o (IsPlace g m n)) from.wanted promised in
    subst (λ (i : ℕ). may g i Store r.base r.size ≡ true) (sym (waiter_owner k from.waiter from.wait serves.sound from.waits))
    (subst (λ (s : Range). may g m Store s.base s.size ≡ true) from.is place.allowed)
