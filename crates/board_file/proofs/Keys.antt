-- The keys of a table, as the code goes over them.
use Rattle.std.proofs.Common.{◌≡◌, ℕ, true, false, ◌||◌, List, [], ◌∷◌, map, Err, string_bytes, refl, ap, ◌∙◌}
use Rattle.std.specs.Borrow.{Bor}
use Rattle.std.specs.List.{list_any}
use Rattle.std.specs.Str.{bytes_eq}
use Rattle.toml.proofs.Views.{Entry}
use Rattle.toml.specs.View.{members_view}
use Rattle.board_file.specs.Field.{no_key_but}
use Rattle.board_file.specs.Path.{key_path}

among : (key : List ℕ) (known : List (Bor (List ℕ))) → list_any (bytes_eq key) (map (λ k. k.now) known) ≡ list_any (λ k. bytes_eq key k.now) known
among key [] = refl
among key (k ∷ known) = ap (λ rest. bytes_eq key k.now || rest) (among key known)

pub known_key : (known : List (Bor (List ℕ))) (path : List ℕ) (e : Entry) (es : List Entry) → list_any (λ k. bytes_eq (string_bytes e.0) k.now) known ≡ true
    → no_key_but (map (λ k. k.now) known) path (members_view (e ∷ es)) ≡ no_key_but (map (λ k. k.now) known) path (members_view es)
known_key known path e es h = rw (among (string_bytes e.0) known ∙ h) refl

pub other_key : (known : List (Bor (List ℕ))) (path : List ℕ) (e : Entry) (es : List Entry) → list_any (λ k. bytes_eq (string_bytes e.0) k.now) known ≡ false
    → no_key_but (map (λ k. k.now) known) path (members_view (e ∷ es)) ≡ Err (key_path path (string_bytes e.0))
other_key known path e es h = rw (among (string_bytes e.0) known ∙ h) refl
