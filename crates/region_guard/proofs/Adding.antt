-- Regions that don't meet stay so with one more that meets none.
use Rattle.std.proofs.Common.{◌≡◌, ℕ, ◌<◌, ◌≤◌, Bool, false, List, [], ◌∷◌, ◌++◌, length, nat_lt, All, Option, None, Some, position, arith, length-append}
use Rattle.std.specs.List.{position_or_len}
use Rattle.std.proofs.lemmas.Bool.{ltb-false, cond_both}
use Rattle.std.proofs.lemmas.List.Elements.{All-push}
use Rattle.std.proofs.lemmas.List.Quantifiers.{all_pairs_push}
use Rattle.std.proofs.lemmas.List.Sums.{fails_before_first}
use Rattle.region_guard.specs.Memory.{Memory, IsInRam, IsSound}
use Rattle.region_guard.specs.Region.{meets}
use Rattle.region_guard.specs.declared.region.Region.{Region}

-- where no place passes, each element fails
none_passes : {X : Type 0} (p : X → Bool) (xs : List X) → position p xs ≡ None → All (λ x. p x ≡ false) xs
none_passes {X} p xs none =
    let i = position_or_len p xs in
    let past = cond_both (nat_lt i (length xs)) (Some i) None (λ (o : Option ℕ). o ≡ None → length xs ≤ i) (λ found same. cc)
    (λ missed same. ltb-false i (length xs) missed) none in
    λ k d below. fails_before_first p xs k d (omega arith)

pub IsSound-push : (g : Memory) (r : Region) → IsSound g → length g.regions < 64 → IsInRam g.bytes r → position (meets r) g.regions ≡ None
    → IsSound (record g { regions = g.regions ++ r ∷ [] })
IsSound-push g r sound room inside none = record {
  at_most = omega (arith, length-append g.regions (r ∷ []));
  in_ram = All-push (IsInRam g.bytes) g.regions r sound.in_ram inside;
  apart = all_pairs_push (λ earlier later. meets later earlier ≡ false) g.regions r sound.apart (none_passes (meets r) g.regions none);
  addressable = sound.addressable;
}
