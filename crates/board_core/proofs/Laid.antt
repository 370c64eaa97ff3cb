-- Modules that were placed lie in memory, each in regions of its own.
use Rattle.std.proofs.Common.{◌≡◌, ℕ, suc, ◌+◌, ◌%◌, ◌^◌, ◌<◌, ◌≤◌, false, true, List, [], ◌∷◌, length, map, get_or, replicate, zip, Option, Some, None, Result}
use Rattle.std.proofs.Common.{Ok, Err, All, AllPairs, refl, ap, sym, subst, ◌∙◌, inl, inr, ⊎_elim, arith}
use Rattle.std.proofs.lemmas.List.{get_or-map, length-map, length-replicate}
use Rattle.std.proofs.lemmas.List.Elements.{All-contains, All-cons, All-head, All-map, All-nil, All-tail, All-weaker}
use Rattle.flat_ram.specs.Laws.{LengthStays}
use Rattle.module_loader.specs.Laws.{AreApart as AreRangesApart, Ascends, LiesIn, PlacedLieApart, pieces}
use Rattle.module_loader.specs.Opening.{Begins}
use Rattle.module_loader.specs.Placement.{PlacedOne, and_others, before_others, placed_one, placement}
use Rattle.module_loader.specs.Want.{HasSizes, want_of}
use Rattle.module_loader.specs.declared.placement.Placed.{Placed}
use Rattle.module_loader.specs.declared.placement.Range.{Range}
use Rattle.module_loader.specs.declared.want.Want.{Want}
use Rattle.module_manager.specs.Modules.{IsPlaced, loaded}
use Rattle.module_manager.specs.declared.modules.Module.{Module}
use Rattle.module_preamble.specs.Preamble.{IsAccepted}
use Rattle.module_preamble.specs.Words.{has_callback, words_of}
use Rattle.module_preamble.specs.declared.words.Preamble.{Preamble}
use Rattle.region_guard.specs.Memory.{IsInRam, ram_base}
use Rattle.region_guard.specs.declared.region.Region.{Region}
use Rattle.board_core.specs.Boot.{code_region, data_region, free_ram, memory_with, places_in, regions_of, with_images}
use Rattle.board_core.specs.Laid.{AreAccepted, AreImagesOf, AreLaid, HasLevels}
use Rattle.board_core.proofs.Loaded.{length_with_images}
use Rattle.board_core.proofs.ModuleRegions.{NoneMeet, each_code, each_data, length_regions, twice_is, unmet_from}

-- each module that is placed has one place
one_more : (p : Placed) (due : Result (List Placed) ℕ) (n : ℕ) (places : List Placed) → ((others : List Placed) → due ≡ Ok others → length others ≡ n)
    → before_others p due ≡ Ok places → length places ≡ suc n
one_more p (Err i) n places later h = absurd (cc)
one_more p (Ok others) n places later h =
    let same : p ∷ others ≡ places = cc in
    let count = later others refl in
    sym (ap (λ (ps : List Placed). length ps) same) ∙ ap suc count

with_one : (one : Option PlacedOne) (wants : List Want) (places : List Placed)
    → ((rest : List Range) (others : List Placed) → placement rest wants ≡ Ok others → length others ≡ length wants)
    → and_others (λ rest. placement rest wants) one ≡ Ok places → length places ≡ suc (length wants)
with_one None wants places later h = absurd (cc)
with_one (Some one) wants places later h = one_more one.placed (placement one.free wants) (length wants) places (λ others is. later one.free others is) h

length_placement : (free : List Range) (wants : List Want) (places : List Placed) → placement free wants ≡ Ok places → length places ≡ length wants
length_placement free [] places h = let same : [] ≡ places = cc in sym (ap (λ (ps : List Placed). length ps) same)
length_placement free (w ∷ wants) places h = with_one (placed_one free w) wants places (λ rest others is. length_placement rest wants others is) h

-- what the preamble of an accepted image gives its module
record IsUsable (p : Preamble) : Type 0 where
  sizes : HasSizes p
  levels : HasLevels p
  some_code : 0 < p.code_size
  some_data : 0 < (want_of p).data_bytes
  start : Begins p p.start false
  callback : has_callback p ≡ true → Begins p p.callback true

usable : (image : List ℕ) (p : Preamble) → IsAccepted image p → IsUsable p
usable image p a =
    let begin = a.shell.inside in
    let least = a.start_stack.least in
    record {
      sizes = record { data_size = a.data_size; start_stack = a.start_stack.most; callback_stack = λ has. (a.callback_stack has).most };
      levels = record { start = a.start_prio; callback = a.callback_prio };
      some_code = omega arith;
      some_data = omega arith;
      start = record { shell_aligned = a.shell.aligned; shell_inside = a.shell.inside; entry_inside = a.start.inside; callback = λ second. absurd (cc) };
      callback =
          λ has. record { shell_aligned = a.shell.aligned; shell_inside = a.shell.inside; entry_inside = (a.callback has).inside; callback = λ second. has };
    }

-- what images want of memory has bounds
usable_words : (images : List (List ℕ)) → AreAccepted images → All IsUsable (map words_of images)
usable_words images accepted =
    All-map IsUsable words_of images (λ k d below. usable (get_or images k d) (words_of (get_or images k d)) (accepted k d below))

pub have_sizes : (images : List (List ℕ)) → AreAccepted images → All HasSizes (map words_of images)
have_sizes images accepted = All-weaker IsUsable HasSizes (λ p u. u.sizes) (map words_of images) (usable_words images accepted)

-- the modules of preambles and places, and what holds of their preambles
abbrev pub modules_of : List Preamble → List Placed → List Module
modules_of ps at = map loaded (zip ps at)

of_preambles : (P : Preamble → Type 0) (ps : List Preamble) (at : List Placed) → All P ps → All (λ m. P m.preamble) (modules_of ps at)
of_preambles P [] at all = All-nil (λ m. P m.preamble)
of_preambles P (p ∷ ps) [] all = All-nil (λ m. P m.preamble)
of_preambles P (p ∷ ps) (a ∷ at) all =
    All-cons (λ m. P m.preamble) (loaded (p, a)) (modules_of ps at) (All-head P p ps all) (of_preambles P ps at (All-tail P p ps all))

-- the regions of modules are the pieces that were placed
abbrev range_of : Region → Range
range_of r = record { base = r.base; size = r.size }

ranges_are : (i : ℕ) (ps : List Preamble) (at : List Placed) → map range_of (regions_of i (modules_of ps at)) ≡ pieces (map want_of ps) at
ranges_are i [] at = refl
ranges_are i (p ∷ ps) [] = refl
ranges_are i (p ∷ ps) (a ∷ at) =
    let m = loaded (p, a) in
    ap (λ (rest : List Range). range_of (code_region i m) ∷ range_of (data_region i m) ∷ rest) (ranges_are (i + 1) ps at)

each_range : (P : Range → Type 0) (rs : List Region) → All P (map range_of rs) → All (λ r. P (range_of r)) rs
each_range P rs all k d below =
    let many : length (map range_of rs) ≡ length rs = length-map rs range_of in
    subst P (get_or-map range_of rs k d (range_of d) below) (all k (range_of d) (omega arith))

none_meet : (rs : List Region) → AllPairs AreRangesApart (map range_of rs) → NoneMeet rs
none_meet rs apart i j d order below =
    let many : length (map range_of rs) ≡ length rs = length-map rs range_of in
    let i_below : i < length rs = omega arith in
    let two = apart i j (range_of d) order (omega arith) in
    let first = subst (λ (r : Range). AreRangesApart r (get_or (map range_of rs) j (range_of d))) (get_or-map range_of rs i d (range_of d) i_below) two in
    let both = subst (λ (s : Range). AreRangesApart (range_of (get_or rs i d)) s) (get_or-map range_of rs j d (range_of d) below) first in
    unmet_from (get_or rs j d) (get_or rs i d) (⊎_elim (λ low. inr low) (λ high. inl high) both)

-- what lies in free RAM lies in RAM
in_ram : (ram : ℕ) (r : Range) → LiesIn (free_ram ram) r → (ram_base ≤ r.base) × (r.base + r.size ≤ ram_base + ram)
in_ram ram r inside =
    let P : Range → Type 0 = λ q. (q.base ≡ ram_base) × (q.size ≡ ram) in
    let whole : Range = record { base = ram_base; size = ram } in
    let is = All-contains P (free_ram ram) inside.0 (All-cons P whole [] (refl, refl) (All-nil P)) inside.1 in
    let base = is.0 in
    let size = is.1 in
    let from = inside.2.from in
    let to = inside.2.to in
    (omega arith, omega arith)

some_sizes : (i : ℕ) (ps : List Preamble) (at : List Placed) → All IsUsable ps → All (λ r. 0 < r.size) (regions_of i (modules_of ps at))
some_sizes i [] at all = All-nil (λ r. 0 < r.size)
some_sizes i (p ∷ ps) [] all = All-nil (λ r. 0 < r.size)
some_sizes i (p ∷ ps) (a ∷ at) all =
    let P : Region → Type 0 = λ r. 0 < r.size in
    let m = loaded (p, a) in
    let first = All-head IsUsable p ps all in
    let rest = regions_of (i + 1) (modules_of ps at) in
    All-cons P (code_region i m) (data_region i m ∷ rest) first.some_code
    (All-cons P (data_region i m) rest first.some_data (some_sizes (i + 1) ps at (All-tail IsUsable p ps all)))

-- each image is as long as its module's code
pub images_of : (images : List (List ℕ)) (at : List Placed) → AreAccepted images → length at ≡ length images
    → AreImagesOf (modules_of (map words_of images) at) images
images_of [] at accepted many = refl
images_of (image ∷ images) [] accepted many = absurd (omega arith)
images_of (image ∷ images) (a ∷ at) accepted many =
    let P : List ℕ → Type 0 = λ image. IsAccepted image (words_of image) in
    let first = All-head P image images accepted in
    ap (λ (n : ℕ). n ∷ map length images) (sym first.code_size)
    ∙ ap (λ (ns : List ℕ). (words_of image).code_size ∷ ns) (images_of images at (All-tail P image images accepted) (omega arith))

abbrev IsAligned : Region → Type 0
IsAligned r = r.base % 32 ≡ 0

placed_at : (bytes : List ℕ) (ms : List Module) → ram_base + length bytes < 2 ^ 32 → All (λ m. IsUsable m.preamble) ms → All IsAligned (regions_of 0 ms)
    → All (IsInRam bytes) (regions_of 0 ms) → All (λ m. IsPlaced m.preamble m.placed) ms
placed_at bytes ms addressable all aligned inside k d below =
    let u = all k d below in
    let code = (each_code (IsInRam bytes) ms k d inside below).range.to_end in
    let data_end = (each_data (IsInRam bytes) ms k d inside below).range.to_end in
    record {
      sizes = u.sizes;
      lies = record {
        code_base = each_code IsAligned ms k d aligned below;
        data_base = each_data IsAligned ms k d aligned below;
        code_end = omega arith;
        data_end = omega arith;
      };
      start = u.start;
      callback = u.callback;
    }

pub laid : LengthStays → PlacedLieApart → (ram : ℕ) (images : List (List ℕ)) (at : List Placed)
    → 0 < ram → ram ≤ 16777216 → length images ≤ 16 → AreAccepted images → places_in ram (map words_of images) ≡ Ok at
    → let ms = modules_of (map words_of images) at in
    AreLaid (memory_with ram images ms) ms × AreImagesOf ms images
laid lengths lie_apart ram images at some most few accepted due =
    let ps = map words_of images in
    let ms = modules_of ps at in
    let rs = regions_of 0 ms in
    let bytes = with_images (replicate ram 0) images ms in
    let size : length bytes ≡ ram = length_with_images lengths (replicate ram 0) images ms ∙ length-replicate ram 0 in
    let ascends : Ascends (free_ram ram) = (some, All-nil (λ later. ram_base + ram ≤ later.base), tt) in
    let apart = lie_apart (free_ram ram) (map want_of ps) at ascends due in
    let same = sym (ranges_are 0 ps at) in
    let all : All IsUsable ps = usable_words images accepted in
    let many : length at ≡ length images = length_placement (free_ram ram) (map want_of ps) at due ∙ (length-map ps want_of ∙ length-map images words_of) in
    let theirs = images_of images at accepted many in
    let count : length ms ≡ length images =
    sym (length-map ms (λ m. (want_of m.preamble).code)) ∙ (ap (λ (ns : List ℕ). length ns) (sym theirs) ∙ length-map images length) in
    let lies = each_range (LiesIn (free_ram ram)) rs (subst (All (LiesIn (free_ram ram))) same apart.inside) in
    let aligned = each_range (λ r. r.base % 32 ≡ 0) rs (subst (All (λ r. r.base % 32 ≡ 0)) same apart.aligned) in
    let sizes = some_sizes 0 ps at all in
    let inside : All (IsInRam bytes) rs = λ k d below.
    let range = in_ram ram (range_of (get_or rs k d)) (lies k d below) in
    let low = range.0 in
    let high = range.1 in
    record { not_empty = sizes k d below; range = record { from_base = low; to_end = omega arith } } in
    let usable_all = of_preambles IsUsable ps at all in (
      record {
        at_most = omega arith;
        placed = placed_at bytes ms (omega arith) usable_all aligned inside;
        levels = λ k d below. (usable_all k d below).levels;
        regions = refl;
        memory = record {
          at_most = omega (arith, length_regions 0 ms, twice_is (length ms));
          in_ram = inside;
          apart = none_meet rs (subst (AllPairs AreRangesApart) same apart.apart);
          addressable = omega arith;
        };
      },
      theirs,
    )
