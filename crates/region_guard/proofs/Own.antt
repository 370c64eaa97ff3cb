-- What each module's own list of regions has in common with all of them.
use Rattle.std.proofs.Common.{◌≡◌, ℕ, suc, ◌<◌, ◌≤◌, ◌&&◌, ◌||◌, Bool, true, false, List, [], ◌∷◌, length, All, cond, ap, sym, subst, ◌∙◌, refl, arith}
use Rattle.std.proofs.lemmas.List.{get_or_read_under}
use Rattle.std.proofs.lemmas.List.Elements.{All-filter, All-from_get_or}
use Rattle.std.specs.List.{filter, list_any, slice_index_or}
use Rattle.region_guard.specs.Region.{allows, is_for, lets}
use Rattle.region_guard.specs.Regions.{AreOwn}
use Rattle.region_guard.specs.declared.region.Access.{Access}
use Rattle.region_guard.specs.declared.region.Region.{Region}

either : (b c rest : Bool) → cond b (c || rest) rest ≡ ((c && b) || rest)
either true true rest = refl
either true false rest = refl
either false true rest = refl
either false false rest = refl

any_first : {X : Type 0} (p : X → Bool) (b : Bool) (x : X) (xs : List X) → list_any p (cond b (x ∷ xs) xs) ≡ ((p x && b) || list_any p xs)
any_first p true x xs = either true (p x) (list_any p xs)
any_first p false x xs = either false (p x) (list_any p xs)

-- among those that pass q one passes p where one of all passes both
any_filter : {X : Type 0} (p q : X → Bool) (xs : List X) → list_any p (filter q xs) ≡ list_any (λ x. p x && q x) xs
any_filter p q [] = refl
any_filter p q (x ∷ xs) = any_first p (q x) x (filter q xs) ∙ ap (λ rest. (p x && q x) || rest) (any_filter p q xs)

length_first : {X : Type 0} (b : Bool) (x : X) (xs : List X) (n : ℕ) → length xs ≤ n → length (cond b (x ∷ xs) xs) ≤ suc n
length_first true x xs n shorter = omega arith
length_first false x xs n shorter = omega arith

length_filter : {X : Type 0} (q : X → Bool) (xs : List X) → length (filter q xs) ≤ length xs
length_filter q [] = omega arith
length_filter q (x ∷ xs) = length_first (q x) x (filter q xs) (length xs) (length_filter q xs)

-- what is read at a module's number is the list of its regions
pub own_at : (rs : List Region) (own : List (List Region)) (m : ℕ) (list : List Region) → AreOwn rs own → m < 16 → list ≡ slice_index_or own m list
    → list ≡ filter (is_for m) rs
own_at rs own m list are below read = get_or_read_under own m 16 list [] read below (sym are.modules) ∙ are.each m below

pub own_any : (rs list : List Region) (m : ℕ) (k : Access) (a n : ℕ) → list ≡ filter (is_for m) rs → list_any (allows k a n) list ≡ list_any (lets m k a n) rs
own_any rs list m k a n same = ap (list_any (allows k a n)) same ∙ any_filter (allows k a n) (is_for m) rs

pub own_all : (P : Region → Type 0) (rs list : List Region) (m : ℕ) → list ≡ filter (is_for m) rs → All P rs → All P list
own_all P rs list m same all = subst (All P) (sym same) (All-filter (is_for m) P rs all)

pub own_room : (rs : List Region) (own : List (List Region)) → AreOwn rs own → length rs < 64 → All (λ list. length list < 64) own
own_room rs own are room =
    All-from_get_or (λ list. length list < 64) own []
    (λ m below. let same = are.each m (omega (arith, are.modules)) in let shorter = length_filter (is_for m) rs in rw same (omega arith))
