-- The range that gives its bytes, and what stays of it.
use Rattle.std.proofs.Common.{◌≡◌, ℕ, ◌+◌, ◌%◌, ◌<◌, ◌≤◌, true, nat_lt, List, [], ◌∷◌, ◌++◌, Option, None, Some, All, Contains, refl, sym, ap, subst, ◌∙◌}
use Rattle.std.proofs.Common.{arith}
use Rattle.std.proofs.lemmas.Bool.{cond-true, cond_both, ltb-true, lt-ltb, leb-true}
use Rattle.std.proofs.lemmas.List.Elements.{All-nil, All-cons, All-head, All-append, All-weaker, All-contains_itself}
use Rattle.module_loader.specs.Placement.{Taken, holds, in_front, left, piece, place_in, span, taken}
use Rattle.module_loader.specs.declared.placement.Range.{Range}

-- the free list parted at the range that gives its bytes
pub record Cut (size : ℕ) (free : List Range) (t : Taken) : Type 0 where
  pub front : List Range
  pub r : Range
  pub back : List Range
  pub whole : free ≡ front ++ r ∷ back
  pub held : holds size r ≡ true
  pub after : t ≡ record { base = place_in r; free = front ++ (left size r ++ back) }

-- a cut of the later ranges is one of all
cut_behind : (size : ℕ) (r : Range) (free : List Range) (t : Taken) (later : Option Taken) → ((s : Taken) → later ≡ Some s → Cut size free s)
    → in_front r later ≡ Some t → Cut size (r ∷ free) t
cut_behind size r free t None cuts same = absurd (cc)
cut_behind size r free t (Some s) cuts same =
    let c = cuts s refl in
    let kept : record s { free = r ∷ s.free } ≡ t = cc in
    record {
      front = r ∷ c.front;
      r = c.r;
      back = c.back;
      whole = ap (λ (xs : List Range). r ∷ xs) c.whole;
      held = c.held;
      after = sym kept ∙ ap (λ (u : Taken). record u { free = r ∷ u.free }) c.after;
    }

pub cut : (size : ℕ) (free : List Range) (t : Taken) → taken size free ≡ Some t → Cut size free t
cut size [] t same = absurd (cc)
cut size (r ∷ free) t same =
    cond_both (holds size r) (Some (record { base = place_in r; free = left size r ++ free })) (in_front r (taken size free))
    (λ (o : Option Taken). o ≡ Some t → Cut size (r ∷ free) t)
    (λ held here. record { front = []; r = r; back = free; whole = refl; held = held; after = cc })
    (λ missed later. cut_behind size r free t (taken size free) (λ s found. cut size free s found) later)
    same

-- the place in a range isn't below its base, and is a multiple of 32
pub place_behind : (r : Range) → r.base ≤ place_in r
place_behind r = omega arith

pub place_aligned : (r : Range) → place_in r % 32 ≡ 0
place_aligned r = omega arith

pub held_fits : (size : ℕ) (r : Range) → holds size r ≡ true → place_in r + size ≤ r.base + r.size
held_fits size r held = leb-true (place_in r + size) (r.base + r.size) held

-- the bytes of a range before its place, and those after what is taken there
abbrev pub low : Range → Range
low r = span r.base (place_in r)

abbrev pub high : ℕ → Range → Range
high size r = span (place_in r + size) (r.base + r.size)

-- what holds of the addresses from one up to another, if there are any, holds of the piece
pub All-piece : (P : Range → Type 0) (from to : ℕ) → (from < to → P (span from to)) → All P (piece from to)
All-piece P from to holds_if =
    cond_both (nat_lt from to) (span from to ∷ []) [] (All P)
    (λ some. All-cons P (span from to) [] (holds_if (ltb-true from to some)) (All-nil P)) (λ none. All-nil P)

-- what holds of both parts holds of all that stays of a range
pub All-left : (P : Range → Type 0) (size : ℕ) (r : Range) → (r.base < place_in r → P (low r)) → (place_in r + size < r.base + r.size → P (high size r))
    → All P (left size r)
All-left P size r of_low of_high =
    All-append P (piece r.base (place_in r)) (piece (place_in r + size) (r.base + r.size)) (All-piece P r.base (place_in r) of_low)
    (All-piece P (place_in r + size) (r.base + r.size) of_high)

-- what holds of each range that a list has holds of all
pub All-each : (P : Range → Type 0) (free : List Range) → ((r : Range) → Contains free r → P r) → All P free
All-each P free each = All-weaker (Contains free) P each free (All-contains_itself free)

pub Contains-first : (r : Range) (free : List Range) → Contains (r ∷ free) r
Contains-first r free = All-head (Contains (r ∷ free)) r free (All-contains_itself (r ∷ free))

-- a piece that has an address is a range
pub Contains-piece : (from to : ℕ) → from < to → Contains (piece from to) (span from to)
Contains-piece from to some =
    subst (λ (xs : List Range). Contains xs (span from to)) (sym (cond-true (nat_lt from to) (span from to ∷ []) [] (lt-ltb from to some)))
    (Contains-first (span from to) [])
