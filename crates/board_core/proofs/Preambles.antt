-- The images of a board one after another: what was read of those before, and what is still to be read.
use Rattle.std.proofs.Common.{◌≡◌, ℕ, ◌+◌, ◌<◌, List, [], ◌∷◌, ◌++◌, length, map, take, drop, get_or, Some, Ok, Err, Vec, Global, sym, ap, subst, ◌∙◌}
use Rattle.std.proofs.lemmas.List.{drop_more, map-append, take_more}
use Rattle.std.proofs.lemmas.List.Elements.{All-push}
use Rattle.module_preamble.specs.Preamble.{IsAccepted, preamble}
use Rattle.module_preamble.specs.Words.{words_of}
use Rattle.module_preamble.specs.declared.refusal.PreErr.{PreErr}
use Rattle.module_preamble.specs.declared.words.Preamble.{Preamble}
use Rattle.board_core.specs.Boot.{contents, image_refusal, or_later}
use Rattle.board_core.specs.Laid.{AreAccepted}
use Rattle.board_core.specs.declared.boot.BootErr.TheVariants.{Image}

-- one image more was read, or is the next to be read
contents_more : (vs : List (Vec ℕ Global)) (i : ℕ) (v : Vec ℕ Global) → i < length vs → v ≡ get_or vs i v
    → contents (take (i + 1) vs) ≡ contents (take i vs) ++ v.items ∷ []
contents_more vs i v below is =
    ap contents (take_more vs i v below)
    ∙ (map-append (λ (w : Vec ℕ Global). w.items) (take i vs) (get_or vs i v ∷ [])
    ∙ ap (λ (w : Vec ℕ Global). contents (take i vs) ++ w.items ∷ []) (sym is))

pub contents_here : (vs : List (Vec ℕ Global)) (i : ℕ) (v : Vec ℕ Global) → i < length vs → v ≡ get_or vs i v
    → contents (drop i vs) ≡ v.items ∷ contents (drop (i + 1) vs)
contents_here vs i v below is =
    ap contents (drop_more vs i v below) ∙ ap (λ (w : Vec ℕ Global). w.items ∷ contents (drop (i + 1) vs)) (sym is)

pub words_more : (vs : List (Vec ℕ Global)) (i : ℕ) (v : Vec ℕ Global) (p : Preamble) (ps : List Preamble) → i < length vs → v ≡ get_or vs i v
    → p ≡ words_of v.items → ps ≡ map words_of (contents (take i vs)) → ps ++ p ∷ [] ≡ map words_of (contents (take (i + 1) vs))
words_more vs i v p ps below is words before =
    ap (λ (qs : List Preamble). qs ++ p ∷ []) before
    ∙ (ap (λ (q : Preamble). map words_of (contents (take i vs)) ++ q ∷ []) words
    ∙ (sym (map-append words_of (contents (take i vs)) (v.items ∷ [])) ∙ ap (map words_of) (sym (contents_more vs i v below is))))

pub accepted_more : (vs : List (Vec ℕ Global)) (i : ℕ) (v : Vec ℕ Global) (p : Preamble) → i < length vs → v ≡ get_or vs i v → IsAccepted v.items p
    → AreAccepted (contents (take i vs)) → AreAccepted (contents (take (i + 1) vs))
accepted_more vs i v p below is accepted before =
    let P : List ℕ → Type 0 = λ image. IsAccepted image (words_of image) in
    let here : P v.items = subst (IsAccepted v.items) accepted.words accepted in
    subst AreAccepted (sym (contents_more vs i v below is)) (All-push P (contents (take i vs)) v.items before here)

-- an image that keeps the rules leaves the refusal to the later ones, and the first that doesn't is refused
pub passes : (vs : List (Vec ℕ Global)) (i : ℕ) (v : Vec ℕ Global) (p : Preamble) → i < length vs → v ≡ get_or vs i v → preamble v.items ≡ Ok p
    → image_refusal i (contents (drop i vs)) ≡ image_refusal (i + 1) (contents (drop (i + 1) vs))
passes vs i v p below is read =
    ap (image_refusal i) (contents_here vs i v below is) ∙ ap (or_later i (image_refusal (i + 1) (contents (drop (i + 1) vs)))) read

pub refused_here : (vs : List (Vec ℕ Global)) (i : ℕ) (v : Vec ℕ Global) (e : PreErr) → i < length vs → v ≡ get_or vs i v → preamble v.items ≡ Err e
    → image_refusal i (contents (drop i vs)) ≡ Some (Image i e)
refused_here vs i v e below is read =
    ap (image_refusal i) (contents_here vs i v below is) ∙ ap (or_later i (image_refusal (i + 1) (contents (drop (i + 1) vs)))) read
