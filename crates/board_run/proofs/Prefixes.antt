-- A file that was read with room for one byte more than it may have.
use Rattle.std.proofs.Common.{◌≡◌, ℕ, ◌+◌, ◌<◌, ◌≤◌, List, length, take, Option, Some, None, Ok, Err, IfSome, IsSomeAnd, ap, ◌∙◌, arith}
use Rattle.std.specs.Option.{option_map}
use Rattle.std.proofs.lemmas.List.{take_all, length-take}
use Rattle.std.proofs.lemmas.Bool.Decides.{nat_tests}
use Rattle.board_io.specs.Files.{IsPrefixOf}
use Rattle.board_run.specs.Held.{held_file, within}
use Rattle.board_run.specs.Step.{◌>>=◌}
use Rattle.board_run.specs.declared.refusal.Refusal.{Refusal}
use Rattle.board_run.specs.declared.refusal.Stop.TheVariants.{Refused}

-- what was read is the file, where it isn't too large
prefix_whole : (most : ℕ) (r : Refusal) (bytes : List ℕ) (file : Option (List ℕ)) → IsSomeAnd file (λ f. bytes ≡ take (most + 1) f) → length bytes ≤ most
    → (held_file file >>= within most r) ≡ Ok bytes
prefix_whole most r bytes None h small = absurd h
prefix_whole most r bytes (Some file) h small =
    let short : length file ≤ most = omega (arith, ap length h, length-take (most + 1) file) in
    let same : bytes ≡ file = h ∙ take_all (most + 1) file (omega arith) in
    rw same (grind (arith, nat_tests))

pub read_whole : (most : ℕ) (r : Refusal) (name bytes : List ℕ) (held : Option (List ℕ → Option (List ℕ))) → IfSome held (λ at. IsPrefixOf (at name) most bytes)
    → length bytes ≤ most → IfSome (option_map (λ at. held_file (at name) >>= within most r) held) (λ d. d ≡ Ok bytes)
read_whole most r name bytes None h small = tt
read_whole most r name bytes (Some at) h small = prefix_whole most r bytes (at name) h small

-- what is read is longer than a file may be, so the file is refused
prefix_too_large : (most : ℕ) (r : Refusal) (bytes : List ℕ) (file : Option (List ℕ)) → IsSomeAnd file (λ f. bytes ≡ take (most + 1) f) → most < length bytes
    → (held_file file >>= within most r) ≡ Err (Refused r)
prefix_too_large most r bytes None h large = absurd h
prefix_too_large most r bytes (Some file) h large =
    let long : most < length file = omega (arith, ap length h, length-take (most + 1) file) in
    grind (arith, nat_tests)

pub read_too_large : (most : ℕ) (r : Refusal) (name bytes : List ℕ) (held : Option (List ℕ → Option (List ℕ)))
    → IfSome held (λ at. IsPrefixOf (at name) most bytes) → most < length bytes
    → IfSome (option_map (λ at. held_file (at name) >>= within most r) held) (λ d. d ≡ Err (Refused r))
read_too_large most r name bytes None h large = tt
read_too_large most r name bytes (Some at) h large = prefix_too_large most r bytes (at name) h large
