-- What is placed lies in free memory, and nothing lies twice.
use Rattle.std.proofs.Common.{◌≡◌, ◌⊎◌, ℕ, zero, suc, ◌+◌, ◌%◌, ◌<◌, ◌≤◌, ◌^◌, true, List, [], ◌∷◌, ◌++◌, Option, None, Some, Result, Ok, Err, All, AllPairs}
use Rattle.std.proofs.Common.{Contains, refl, sym, subst, ⊎_elim, inl, inr, arith}
use Rattle.std.proofs.lemmas.Bool.{cases_lt}
use Rattle.std.proofs.lemmas.List.Elements.{All-nil, All-cons, All-head, All-tail, All-append, All-weaker, All-contains, Contains-append_left}
use Rattle.std.proofs.lemmas.List.Elements.{Contains-append_right}
use Rattle.module_loader.specs.Laws.{Ascends, AreApart, Has, IsFree, IsTakenApart, LieApart, LiesIn, PlacedLieApart, TakenLiesApart, pieces}
use Rattle.module_loader.specs.Placement.{Taken, and_others, before_others, holds, left, piece, place_in, placement, taken, with_code, with_data}
use Rattle.module_loader.specs.Taking.{IsAddressable}
use Rattle.module_loader.specs.declared.placement.Placed.{Placed}
use Rattle.module_loader.specs.declared.placement.Range.{Range}
use Rattle.module_loader.specs.declared.want.Want.{Want}
use Rattle.module_loader.proofs.Ascending.{IsBefore, Parts, parted, stays_ascending}
use Rattle.module_loader.proofs.Cutting.{All-each, All-left, Contains-first, Contains-piece, cut, held_fits, high, low, place_aligned, place_behind}

-- what lies in a range of free memory lies in free memory
in_one : (free : List Range) (r other : Range) → Contains free other → other.base ≤ r.base → r.base + r.size ≤ other.base + other.size → LiesIn free r
in_one free r other among from to = (other, among, record { from = from; to = to })

in_part : (free part : List Range) (r : Range) → All (LiesIn free) part → LiesIn part r → LiesIn free r
in_part free part r parts inside =
    let outer = All-contains (LiesIn free) part inside.0 parts inside.1 in
    let within = inside.2 in
    let wider = outer.2 in
    in_one free r outer.0 outer.1 (omega (arith, within.from, wider.from)) (omega (arith, within.to, wider.to))

-- what stays free was free
stays_free : (front back : List Range) (r : Range) (size : ℕ) → holds size r ≡ true → All (LiesIn (front ++ r ∷ back)) (front ++ (left size r ++ back))
stays_free front back r size held =
    let free = front ++ r ∷ back in
    let fits = held_fits size r held in
    let behind = place_behind r in
    let itself = λ (q : Range) (among : Contains free q). in_one free q q among (omega arith) (omega arith) in
    let later = λ (q : Range) (among : Contains (r ∷ back) q). Contains-append_right front (r ∷ back) q among in
    let given = later r (Contains-first r back) in
    let in_left =
    All-left (LiesIn free) size r (λ some. in_one free (low r) r given (omega arith) (omega arith))
    (λ some. in_one free (high size r) r given (omega arith) (omega arith)) in
    let in_front = All-each (LiesIn free) front (λ q among. itself q (Contains-append_left front (r ∷ back) q among)) in
    let in_back = All-each (LiesIn free) (r ∷ back) (λ q among. itself q (later q among)) in
    All-append (LiesIn free) front (left size r ++ back) in_front (All-append (LiesIn free) (left size r) back in_left (All-tail (LiesIn free) r back in_back))

-- what stays of addressable memory is addressable
pub addressable_stays : (size : ℕ) (free : List Range) (t : Taken) → taken size free ≡ Some t → IsAddressable free → IsAddressable t.free
addressable_stays size free t same addressable =
    let c = cut size free t same in
    let P : Range → Type 0 = λ r. r.base + r.size < 2 ^ 32 in
    let whole = subst (λ (xs : List Range). All P xs) c.whole addressable in
    let stays = stays_free c.front c.back c.r size c.held in
    let in_free = λ (q : Range) (inside : LiesIn (c.front ++ c.r ∷ c.back) q). let low = inside.2.to in
    let high = All-contains P (c.front ++ c.r ∷ c.back) inside.0 whole inside.1 in let end : q.base + q.size < 2 ^ 32 = omega (arith, low, high) in end in
    subst (λ (u : Taken). All P u.free) (sym c.after) (All-weaker (LiesIn (c.front ++ c.r ∷ c.back)) P in_free (c.front ++ (left size c.r ++ c.back)) stays)

-- what stays free meets nothing that was taken
stays_apart : (front back : List Range) (r : Range) (size : ℕ) → holds size r ≡ true → Parts front (r ∷ back)
    → All (AreApart (record { base = place_in r; size = size })) (front ++ (left size r ++ back))
stays_apart front back r size held parts =
    let A : Range → Type 0 = AreApart (record { base = place_in r; size = size }) in
    let fits = held_fits size r held in
    let behind = place_behind r in
    let before =
    All-weaker (λ q. All (IsBefore q) (r ∷ back)) A (λ q later. let end = All-head (IsBefore q) r back later in inr (omega arith)) front parts.between in
    let beside = All-left A size r (λ some. inr (omega arith)) (λ some. inl (omega arith)) in
    let after = All-weaker (IsBefore r) A (λ q end. inl (omega arith)) back parts.back_ascends.1 in
    All-append A front (left size r ++ back) before (All-append A (left size r) back beside after)

-- an address of the range that gives its bytes is taken, or lies in what stays of the range
none_lost_of : (size : ℕ) (r : Range) (a : ℕ) → holds size r ≡ true → Has r a → Has (record { base = place_in r; size = size }) a ⊎ IsFree (left size r) a
none_lost_of size r a held has =
    let start = piece r.base (place_in r) in
    let end = piece (place_in r + size) (r.base + r.size) in
    let fits = held_fits size r held in
    let from = has.0 in
    let to = has.1 in
    ⊎_elim
    (λ before. inr (low r, Contains-append_left start end (low r) (Contains-piece r.base (place_in r) (omega arith)), (omega arith, omega arith)))
    (λ later. ⊎_elim
    (λ inside. inl (later, inside))
    (λ behind. inr (
      high size r,
      Contains-append_right start end (high size r) (Contains-piece (place_in r + size) (r.base + r.size) (omega arith)),
      (omega arith, omega arith),
    ))
    (cases_lt a (place_in r + size)))
    (cases_lt a (place_in r))

-- an address of any range is taken, or stays free
none_lost : (front back : List Range) (r : Range) (size : ℕ) → holds size r ≡ true → (a : ℕ) → IsFree (front ++ r ∷ back) a
    → Has (record { base = place_in r; size = size }) a ⊎ IsFree (front ++ (left size r ++ back)) a
none_lost front back r size held a free =
    let after = front ++ (left size r ++ back) in
    let P : Range → Type 0 = λ q. Has q a → Has (record { base = place_in r; size = size }) a ⊎ IsFree after a in
    let later = λ (q : Range) (among : Contains (left size r ++ back) q). Contains-append_right front (left size r ++ back) q among in
    let of_front = All-each P front (λ q among has. inr (q, Contains-append_left front (left size r ++ back) q among, has)) in
    let of_back = All-each P back (λ q among has. inr (q, later q (Contains-append_right (left size r) back q among), has)) in
    let of_given : P r =
    λ has. ⊎_elim (λ gone. inl gone) (λ stays. inr (stays.0, later stays.0 (Contains-append_left (left size r) back stays.0 stays.1), stays.2))
    (none_lost_of size r a held has) in
    All-contains P (front ++ r ∷ back) free.0 (All-append P front (r ∷ back) of_front (All-cons P r back of_given of_back)) free.1 free.2

pub taken_lies_apart : TakenLiesApart
taken_lies_apart size free t ascends same =
    let c = cut size free t same in
    let whole = c.front ++ c.r ∷ c.back in
    let fits = held_fits size c.r c.held in
    let parts = parted c.front (c.r ∷ c.back) (subst Ascends c.whole ascends) in
    let apart : IsTakenApart whole size (record { base = place_in c.r; free = c.front ++ (left size c.r ++ c.back) }) = record {
      aligned = place_aligned c.r;
      inside =
          in_one whole (record { base = place_in c.r; size = size }) c.r (Contains-append_right c.front (c.r ∷ c.back) c.r (Contains-first c.r c.back))
          (place_behind c.r) fits;
      apart = stays_apart c.front c.back c.r size c.held parts;
      stays = stays_free c.front c.back c.r size c.held;
      none_lost = none_lost c.front c.back c.r size c.held;
      ascends = stays_ascending c.front c.back c.r size c.held parts;
    } in
    subst (λ (xs : List Range). IsTakenApart xs size t) (sym c.whole) (subst (IsTakenApart whole size) (sym c.after) apart)

-- a range in free memory that something doesn't meet is apart from it
apart_from : (r : Range) (free : List Range) (q : Range) → All (AreApart r) free → LiesIn free q → AreApart r q
apart_from r free q apart inside =
    let within = inside.2 in
    let from = within.from in
    let to = within.to in
    ⊎_elim (λ before. inl (omega arith)) (λ behind. inr (omega arith)) (All-contains (AreApart r) free inside.0 apart inside.1)

AllPairs-cons : (R : Range → Range → Type 0) (x : Range) (xs : List Range) → All (R x) xs → AllPairs R xs → AllPairs R (x ∷ xs)
AllPairs-cons R x xs head rest zero zero d order below = absurd (omega arith)
AllPairs-cons R x xs head rest zero (suc j) d order below = head j d (omega arith)
AllPairs-cons R x xs head rest (suc i) zero d order below = absurd (omega arith)
AllPairs-cons R x xs head rest (suc i) (suc j) d order below = rest i j d (omega arith) (omega arith)

-- a module's code and data lie apart from each other, and from what is placed in what stays free
one_more : (free : List Range) (w : Want) (code data_taken : Taken) (later : List Range) → IsTakenApart free w.code code
    → IsTakenApart code.free w.data_bytes data_taken → LieApart data_taken.free later
    → LieApart free (record { base = code.base; size = w.code } ∷ record { base = data_taken.base; size = w.data_bytes } ∷ later)
one_more free w code data_taken later code_apart data_apart rest =
    let code_piece : Range = record { base = code.base; size = w.code } in
    let data_piece : Range = record { base = data_taken.base; size = w.data_bytes } in
    let beside_code =
    All-weaker (LiesIn data_taken.free) (LiesIn code.free) (λ q inside. in_part code.free data_taken.free q data_apart.stays inside) later rest.inside in
    let in_free =
    All-weaker (LiesIn code.free) (LiesIn free) (λ q inside. in_part free code.free q code_apart.stays inside)
    (data_piece ∷ later) (All-cons (LiesIn code.free) data_piece later data_apart.inside beside_code) in
    let code_apart_from =
    All-weaker (LiesIn code.free) (AreApart code_piece) (λ q inside. apart_from code_piece code.free q code_apart.apart inside)
    (data_piece ∷ later) (All-cons (LiesIn code.free) data_piece later data_apart.inside beside_code) in
    let data_apart_from =
    All-weaker (LiesIn data_taken.free) (AreApart data_piece)
    (λ q inside. apart_from data_piece data_taken.free q data_apart.apart inside) later rest.inside in
    let A : Range → Type 0 = λ r. r.base % 32 ≡ 0 in
    record {
      aligned = All-cons A code_piece (data_piece ∷ later) code_apart.aligned (All-cons A data_piece later data_apart.aligned rest.aligned);
      inside = All-cons (LiesIn free) code_piece (data_piece ∷ later) code_apart.inside in_free;
      apart = AllPairs-cons AreApart code_piece (data_piece ∷ later) code_apart_from (AllPairs-cons AreApart data_piece later data_apart_from rest.apart);
    }

-- what holds of the later modules' places in any free memory
abbrev LaterApart : List Want → Type 0
LaterApart wants = (rest : List Range) (others : List Placed) → Ascends rest → placement rest wants ≡ Ok others → LieApart rest (pieces wants others)

-- by cases on the places of the later modules, on the data and on the code
with_others : (free : List Range) (w : Want) (wants : List Want) (places : List Placed) (code data_taken : Taken) → LaterApart wants
    → IsTakenApart free w.code code → IsTakenApart code.free w.data_bytes data_taken → (due : Result (List Placed) ℕ) → placement data_taken.free wants ≡ due
    → before_others (record { code_base = code.base; data_base = data_taken.base }) due ≡ Ok places → LieApart free (pieces (w ∷ wants) places)
with_others free w wants places code data_taken later code_apart data_apart (Err i) due same = absurd (cc)
with_others free w wants places code data_taken later code_apart data_apart (Ok others) due same =
    let all : record { code_base = code.base; data_base = data_taken.base } ∷ others ≡ places = cc in
    subst (λ (ps : List Placed). LieApart free (pieces (w ∷ wants) ps)) all
    (one_more free w code data_taken (pieces wants others) code_apart data_apart (later data_taken.free others data_apart.ascends due))

with_data_apart : (free : List Range) (w : Want) (wants : List Want) (places : List Placed) (code : Taken) → LaterApart wants → IsTakenApart free w.code code
    → (data_taken : Option Taken) → taken w.data_bytes code.free ≡ data_taken
    → and_others (λ rest. placement rest wants) (with_data code.base data_taken) ≡ Ok places → LieApart free (pieces (w ∷ wants) places)
with_data_apart free w wants places code later code_apart None due same = absurd (cc)
with_data_apart free w wants places code later code_apart (Some data_taken) due same =
    with_others free w wants places code data_taken later code_apart (taken_lies_apart w.data_bytes code.free data_taken code_apart.ascends due)
    (placement data_taken.free wants) refl same

with_code_apart : (free : List Range) (w : Want) (wants : List Want) (places : List Placed) → LaterApart wants → Ascends free → (code : Option Taken)
    → taken w.code free ≡ code → and_others (λ rest. placement rest wants) (with_code w code) ≡ Ok places → LieApart free (pieces (w ∷ wants) places)
with_code_apart free w wants places later ascends None due same = absurd (cc)
with_code_apart free w wants places later ascends (Some code) due same =
    with_data_apart free w wants places code later (taken_lies_apart w.code free code ascends due) (taken w.data_bytes code.free) refl same

pub placed_lie_apart : PlacedLieApart
placed_lie_apart free [] places ascends same =
    record { aligned = All-nil (λ r. r.base % 32 ≡ 0); inside = All-nil (LiesIn free); apart = λ i j d order below. absurd (omega arith) }
placed_lie_apart free (w ∷ wants) places ascends same =
    with_code_apart free w wants places (λ rest others later due. placed_lie_apart rest wants others later due) ascends (taken w.code free) refl same
