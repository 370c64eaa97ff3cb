-- What stays free ascends as before.
use Rattle.std.proofs.Common.{◌≡◌, ℕ, ◌+◌, ◌≤◌, true, nat_lt, List, [], ◌∷◌, ◌++◌, All, arith}
use Rattle.std.proofs.lemmas.Bool.{cond_both, ltb-true}
use Rattle.std.proofs.lemmas.List.Elements.{All-nil, All-cons, All-head, All-tail, All-append, All-weaker}
use Rattle.module_loader.specs.Laws.{Ascends}
use Rattle.module_loader.specs.Placement.{holds, left, piece, place_in, span}
use Rattle.module_loader.specs.declared.placement.Range.{Range}
use Rattle.module_loader.proofs.Cutting.{All-left, All-piece, held_fits, high, low, place_behind}

-- a later range lies after an earlier one
abbrev pub IsBefore : Range → Range → Type 0
IsBefore r later = r.base + r.size ≤ later.base

-- parts of a list that ascends, and a list of two parts
pub record Parts (front back : List Range) : Type 0 where
  pub front_ascends : Ascends front
  pub back_ascends : Ascends back
  pub between : All (λ r. All (IsBefore r) back) front

All-front : (P : Range → Type 0) (front back : List Range) → All P (front ++ back) → All P front
All-front P [] back all = All-nil P
All-front P (r ∷ front) back all = All-cons P r front (All-head P r (front ++ back) all) (All-front P front back (All-tail P r (front ++ back) all))

All-back : (P : Range → Type 0) (front back : List Range) → All P (front ++ back) → All P back
All-back P [] back all = all
All-back P (r ∷ front) back all = All-back P front back (All-tail P r (front ++ back) all)

pub parted : (front back : List Range) → Ascends (front ++ back) → Parts front back
parted [] back ascends = record { front_ascends = tt; back_ascends = ascends; between = All-nil (λ r. All (IsBefore r) back) }
parted (r ∷ front) back ascends =
    let rest = parted front back ascends.2 in
    record {
      front_ascends = (ascends.0, All-front (IsBefore r) front back ascends.1, rest.front_ascends);
      back_ascends = rest.back_ascends;
      between = All-cons (λ q. All (IsBefore q) back) r front (All-back (IsBefore r) front back ascends.1) rest.between;
    }

joined : (front back : List Range) → Parts front back → Ascends (front ++ back)
joined [] back parts = parts.back_ascends
joined (r ∷ front) back parts =
    let Q : Range → Type 0 = λ q. All (IsBefore q) back in
    let rest =
    joined front back (record { front_ascends = parts.front_ascends.2; back_ascends = parts.back_ascends; between = All-tail Q r front parts.between }) in
    (parts.front_ascends.0, All-append (IsBefore r) front back parts.front_ascends.1 (All-head Q r front parts.between), rest)

Ascends-piece : (from to : ℕ) → Ascends (piece from to)
Ascends-piece from to =
    cond_both (nat_lt from to) (span from to ∷ []) [] Ascends
    (λ some. let above = ltb-true from to some in (omega arith, All-nil (IsBefore (span from to)), tt)) (λ none. tt)

-- both parts that stay of a range ascend, and so does the whole list with them
left_ascends : (size : ℕ) (r : Range) → Ascends (left size r)
left_ascends size r =
    let start = piece r.base (place_in r) in
    let end = piece (place_in r + size) (r.base + r.size) in
    let behind = place_behind r in
    let before =
    All-piece (λ q. All (IsBefore q) end) r.base (place_in r)
    (λ some. All-piece (IsBefore (low r)) (place_in r + size) (r.base + r.size) (λ more. omega arith)) in
    joined start end
    (record { front_ascends = Ascends-piece r.base (place_in r); back_ascends = Ascends-piece (place_in r + size) (r.base + r.size); between = before })

pub stays_ascending : (front back : List Range) (r : Range) (size : ℕ) → holds size r ≡ true → Parts front (r ∷ back) → Ascends (front ++ (left size r ++ back))
stays_ascending front back r size held parts =
    let fits = held_fits size r held in
    let behind = place_behind r in
    let before_back =
    λ (q : Range) (end : q.base + q.size ≤ r.base + r.size). All-weaker (IsBefore r) (IsBefore q) (λ later start. omega arith) back parts.back_ascends.1 in
    let left_before =
    All-left (λ q. All (IsBefore q) back) size r (λ some. before_back (low r) (omega arith)) (λ some. before_back (high size r) (omega arith)) in
    let rest = joined (left size r) back (record { front_ascends = left_ascends size r; back_ascends = parts.back_ascends.2; between = left_before }) in
    let front_before = λ (q : Range) (later : All (IsBefore q) (r ∷ back)). let end = All-head (IsBefore q) r back later in
    All-append (IsBefore q) (left size r) back (All-left (IsBefore q) size r (λ some. omega arith) (λ some. omega arith))
    (All-tail (IsBefore q) r back later) in
    joined front
    (left size r ++ back) (record {
      front_ascends = parts.front_ascends;
      back_ascends = rest;
      between = All-weaker (λ q. All (IsBefore q) (r ∷ back)) (λ q. All (IsBefore q) (left size r ++ back)) front_before front parts.between;
    })
