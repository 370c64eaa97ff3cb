-- Each module that is placed has one place.
use Rattle.std.proofs.Common.{◌≡◌, ℕ, suc, List, [], ◌∷◌, length, Option, Some, None, Result, Ok, Err, refl, sym, ap, ◌∙◌}
use Rattle.module_loader.specs.Placement.{PlacedOne, and_others, before_others, placed_one, placement}
use Rattle.module_loader.specs.declared.placement.Placed.{Placed}
use Rattle.module_loader.specs.declared.placement.Range.{Range}
use Rattle.module_loader.specs.declared.want.Want.{Want}

one_more : (p : Placed) (due : Result (List Placed) ℕ) (n : ℕ) (places : List Placed) → ((others : List Placed) → due ≡ Ok others → length others ≡ n)
    → before_others p due ≡ Ok places → length places ≡ suc n
one_more p (Err i) n places later h = absurd (cc)
one_more p (Ok others) n places later h =
    let same : p ∷ others ≡ places = cc in
    let count = later others refl in
    sym (ap (λ (ps : List Placed). length ps) same) ∙ ap suc count

with_one : (one : Option PlacedOne) (wants : List Want) (places : List Placed)
    → ((rest : List Range) (others : List Placed) → placement rest wants ≡ Ok others → length others ≡ length wants)
    → and_others (λ rest. placement rest wants) one ≡ Ok places → length places ≡ suc (length wants)
with_one None wants places later h = absurd (cc)
with_one (Some one) wants places later h = one_more one.placed (placement one.free wants) (length wants) places (λ others is. later one.free others is) h

pub length_placement : (free : List Range) (wants : List Want) (places : List Placed) → placement free wants ≡ Ok places → length places ≡ length wants
length_placement free [] places h = let same : [] ≡ places = cc in sym (ap (λ (ps : List Placed). length ps) same)
length_placement free (w ∷ wants) places h = with_one (placed_one free w) wants places (λ rest others is. length_placement rest wants others is) h
