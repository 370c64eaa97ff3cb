-- The images of modules that were loaded stand in their code.
use Rattle.std.proofs.Common.{◌≡◌, ◌⊎◌, ℕ, zero, suc, ◌+◌, ◌-◌, ◌<◌, ◌≤◌, List, [], ◌∷◌, length, get_or, replicate, slice_range, All, AllPairs, refl, ap, sym}
use Rattle.std.proofs.Common.{subst, ◌∙◌, inl, inr, ⊎_elim, arith}
use Rattle.std.proofs.lemmas.List.{length-replicate}
use Rattle.std.proofs.lemmas.List.Elements.{All-head, All-tail}
use Rattle.flat_ram.specs.Laws.{LengthStays, OthersStay, RangeIsWritten}
use Rattle.module_loader.specs.Image.{loaded as loaded_at}
use Rattle.module_loader.specs.Want.{want_of}
use Rattle.module_manager.specs.declared.modules.Module.{Module}
use Rattle.region_guard.specs.Memory.{IsInRam, IsRangeInRam, ram_base}
use Rattle.region_guard.specs.declared.region.Region.{Region}
use Rattle.board_core.specs.Boot.{memory_with, regions_of, with_images}
use Rattle.board_core.specs.Laid.{AreImagesOf, AreLaid}
use Rattle.board_core.specs.Laws.{images_in}
use Rattle.board_core.proofs.ModuleRegions.{codes_apart, each_code}
use Rattle.board_core.proofs.Writes.{range_stays, written_stands}

-- the offset of a module's code in RAM, and its size
abbrev at : Module → ℕ
at m = m.placed.code_base - ram_base

abbrev size : Module → ℕ
size m = (want_of m.preamble).code

pub length_with_images : LengthStays → (ram : List ℕ) (images : List (List ℕ)) (ms : List Module) → length (with_images ram images ms) ≡ length ram
length_with_images lengths ram [] ms = refl
length_with_images lengths ram (image ∷ images) [] = refl
length_with_images lengths ram (image ∷ images) (m ∷ ms) =
    length_with_images lengths (loaded_at ram image m.placed.code_base) images ms ∙ lengths ram image (at m)

-- the code of one module lies apart from that of another
abbrev LieApart : Module → Module → Type 0
LieApart m other = (at m + size m ≤ at other) ⊎ (at other + size other ≤ at m)

-- a module's code stays while the images of others are loaded
code_stays : LengthStays → OthersStay → (ram : List ℕ) (images : List (List ℕ)) (ms : List Module) (m : Module) → AreImagesOf ms images
    → at m + size m ≤ length ram → All (LieApart m) ms → slice_range (with_images ram images ms) (at m) (at m + size m) ≡ slice_range ram (at m) (at m + size m)
code_stays lengths stays ram [] ms m same inside apart = refl
code_stays lengths stays ram (image ∷ images) [] m same inside apart = refl
code_stays lengths stays ram (image ∷ images) (other ∷ ms) m same inside apart =
    let here : length image ≡ size other = cc in
    let later : AreImagesOf ms images = cc in
    let now = loaded_at ram image other.placed.code_base in
    let count : length now ≡ length ram = lengths ram image (at other) in
    let beside : (at m + size m ≤ at other) ⊎ (at other + length image ≤ at m) =
    ⊎_elim (λ low. inl low) (λ high. inr (omega arith)) (All-head (LieApart m) other ms apart) in
    code_stays lengths stays now images ms m later (omega arith) (All-tail (LieApart m) other ms apart)
    ∙ range_stays lengths stays ram image (at other) (at m) (size m) inside beside

images_stand : LengthStays → OthersStay → RangeIsWritten → (rs : List Region) (ram : List ℕ) (images : List (List ℕ)) (ms : List Module) → AreImagesOf ms images
    → All (λ m. at m + size m ≤ length ram) ms → AllPairs LieApart ms → images_in (record { regions = rs; bytes = with_images ram images ms }) ms ≡ images
images_stand lengths stays written rs ram [] [] same inside apart = refl
images_stand lengths stays written rs ram [] (m ∷ ms) same inside apart = absurd (cc)
images_stand lengths stays written rs ram (image ∷ images) [] same inside apart = absurd (cc)
images_stand lengths stays written rs ram (image ∷ images) (m ∷ ms) same inside apart =
    let here : length image ≡ size m = cc in
    let later : AreImagesOf ms images = cc in
    let now = loaded_at ram image m.placed.code_base in
    let last = with_images now images ms in
    let count : length now ≡ length ram = lengths ram image (at m) in
    let P : Module → Type 0 = λ q. at q + size q ≤ length ram in
    let fits = All-head P m ms inside in
    let others = subst (λ (n : ℕ). All (λ (q : Module). at q + size q ≤ n) ms) (sym count) (All-tail P m ms inside) in
    let beside : All (LieApart m) ms = λ k d below. apart zero (suc k) d (omega arith) (omega arith) in
    let rest = images_stand lengths stays written rs now images ms later others (λ i j d order below. apart (suc i) (suc j) d (omega arith) (omega arith)) in
    let kept = code_stays lengths stays now images ms m later (omega arith) beside in
    let stands = written_stands lengths written ram image (at m) (omega arith) in
    let whole : slice_range now (at m) (at m + size m) ≡ image = subst (λ (n : ℕ). slice_range now (at m) (at m + n) ≡ image) here stands in
    ap (λ (x : List ℕ). x ∷ images_in (record { regions = rs; bytes = last }) ms) (kept ∙ whole) ∙ ap (λ (xs : List (List ℕ)). image ∷ xs) rest

pub images_loaded : LengthStays → OthersStay → RangeIsWritten → (ram : ℕ) (images : List (List ℕ)) (ms : List Module) → AreLaid (memory_with ram images ms) ms
    → AreImagesOf ms images → images_in (memory_with ram images ms) ms ≡ images
images_loaded lengths stays written ram images ms laid same =
    let blank : List ℕ = replicate ram 0 in
    let bytes : List ℕ = with_images blank images ms in
    let count : length bytes ≡ ram = length_with_images lengths blank images ms ∙ length-replicate ram 0 in
    let many : length blank ≡ ram = length-replicate ram 0 in
    let range : (k : ℕ) (d : Module) → k < length ms → IsRangeInRam bytes (get_or ms k d).placed.code_base (size (get_or ms k d)) =
    λ k d below. (each_code (IsInRam bytes) ms k d laid.memory.in_ram below).range in
    let inside : All (λ m. at m + size m ≤ length blank) ms =
    λ k d below. let from = (range k d below).from_base in let to = (range k d below).to_end in omega arith in
    let apart : AllPairs LieApart ms = λ i j d order below.
    let i_below : i < length ms = omega arith in
    let first = (range i d i_below).from_base in
    let second = (range j d below).from_base in
    ⊎_elim (λ low. inl (omega arith)) (λ high. inr (omega arith)) (codes_apart ms i j d laid.memory.apart order below) in
    images_stand lengths stays written (regions_of 0 ms) blank images ms same inside apart
