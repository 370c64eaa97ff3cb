-- What the calls that load modules have done before a module, and what is left.
use Rattle.std.proofs.Common.{◌≡◌, ℕ, ◌+◌, ◌<◌, ◌==◌, Bool, false, List, [], ◌∷◌, ◌++◌, length, map, take, drop, replicate, get_or, Option, Some, None, Result}
use Rattle.std.proofs.Common.{Ok, Err, Vec, Global, All, position, refl, ap, sym, subst, ◌∙◌, arith}
use Rattle.std.proofs.lemmas.Bool.{both_ways, ne_eqb}
use Rattle.std.proofs.lemmas.List.{drop_more, get_or-map, get_or-take, length-map, length-take-le, take_more, get_or_default, length-replicate}
use Rattle.std.proofs.lemmas.List.Quantifiers.{position-Some}
use Rattle.std.specs.Bool.{if◌then◌else◌}
use Rattle.flat_ram.specs.Laws.{LengthStays}
use Rattle.kernel_state.specs.Kernel.{with_spot}
use Rattle.kernel_state.specs.declared.kernel.Kernel.{Kernel}
use Rattle.module_loader.specs.Image.{IsInRam, loaded as loaded_at}
use Rattle.module_loader.specs.Want.{want_of}
use Rattle.module_loader.specs.declared.placement.Placed.{Placed}
use Rattle.module_manager.specs.Modules.{IsPlaced, loaded}
use Rattle.module_manager.specs.declared.modules.Module.{Module}
use Rattle.module_preamble.specs.declared.words.Preamble.{Preamble}
use Rattle.region_guard.specs.Add.{add_answer, after_add, unless_met}
use Rattle.region_guard.specs.Memory.{IsInRam as IsRegionInRam, IsSound, Memory}
use Rattle.region_guard.specs.Region.{meets}
use Rattle.region_guard.specs.declared.guard.AddErr.{AddErr}
use Rattle.region_guard.specs.declared.guard.AddErr.TheVariants.{Full}
use Rattle.region_guard.specs.declared.region.Region.{Region}
use Rattle.board_core.specs.Boot.{code_region, contents, memory_with, spot_of, with_images, with_spots}
use Rattle.board_core.specs.Laid.{AreImagesOf, AreLaid}
use Rattle.board_core.proofs.Loaded.{length_with_images}
use Rattle.board_core.proofs.ModuleRegions.{each_code}
use Rattle.board_core.proofs.Preambles.{contents_here}

abbrev Row : Type 0
Row = Preamble × Placed

-- there are as many modules as images
pub as_many : (vs : List (Vec ℕ Global)) (rows : List Row) → AreImagesOf (map loaded rows) (contents vs) → length rows ≡ length vs
as_many vs rows same =
    sym (length-map rows loaded)
    ∙ (sym (length-map (map loaded rows) (λ m. (want_of m.preamble).code))
    ∙ (ap (λ (ns : List ℕ). length ns) (sym same) ∙ (length-map (contents vs) length ∙ length-map vs (λ (v : Vec ℕ Global). v.items))))

-- an image is as long as its module's code
image_length : (vs : List (Vec ℕ Global)) (rows : List Row) (i : ℕ) (v : Vec ℕ Global) (d : Row) → AreImagesOf (map loaded rows) (contents vs) → i < length vs
    → v ≡ get_or vs i v → length v.items ≡ (get_or rows i d).0.code_size
image_length vs rows i v d same below is =
    let images = contents vs in
    let ms = map loaded rows in
    let many = as_many vs rows same in
    let row_below : i < length rows = omega arith in
    let images_many : length images ≡ length vs = length-map vs (λ (v : Vec ℕ Global). v.items) in
    let image_below : i < length images = omega arith in
    let ms_many : length ms ≡ length rows = length-map rows loaded in
    let ms_below : i < length ms = omega arith in
    let image : get_or images i v.items ≡ v.items =
    get_or-map (λ (v : Vec ℕ Global). v.items) vs i v v.items below ∙ ap (λ (w : Vec ℕ Global). w.items) (sym is) in
    let row : get_or ms i (loaded d) ≡ loaded (get_or rows i d) = get_or-map loaded rows i d (loaded d) row_below in
    ap (λ (bytes : List ℕ). length bytes) (sym image)
    ∙ (sym (get_or-map length images i v.items 0 image_below)
    ∙ (ap (λ (ns : List ℕ). get_or ns i 0) same
    ∙ (get_or-map (λ m. (want_of m.preamble).code) ms i (loaded d) 0 ms_below ∙ ap (λ (m : Module). (want_of m.preamble).code) row)))

-- and has room in RAM at its module's code
pub image_fits : LengthStays → (size : ℕ) (vs : List (Vec ℕ Global)) (rows : List Row) (ram : List ℕ) (i : ℕ) (v : Vec ℕ Global) (d : Row)
    → AreLaid (memory_with size (contents vs) (map loaded rows)) (map loaded rows) → AreImagesOf (map loaded rows) (contents vs) → length ram ≡ size
    → i < length vs → v ≡ get_or vs i v → IsInRam ram (get_or rows i d).1.code_base (length v.items)
image_fits lengths size vs rows ram i v d laid same sized below is =
    let ms = map loaded rows in
    let many = as_many vs rows same in
    let row_below : i < length rows = omega arith in
    let ms_many : length ms ≡ length rows = length-map rows loaded in
    let bytes = with_images (replicate size 0) (contents vs) ms in
    let count : length bytes ≡ size = length_with_images lengths (replicate size 0) (contents vs) ms ∙ length-replicate size 0 in
    let row : get_or ms i (loaded d) ≡ loaded (get_or rows i d) = get_or-map loaded rows i d (loaded d) row_below in
    let region = each_code (IsRegionInRam bytes) ms i (loaded d) laid.memory.in_ram (omega arith) in
    let range = (subst (λ (m : Module). IsRegionInRam bytes (code_region i m)) row region).range in
    let low = range.from_base in
    let high = range.to_end in
    let long = image_length vs rows i v d same below is in
    record { from_base = low; to_end = omega arith }

pub images_more : (ram : List ℕ) (vs : List (Vec ℕ Global)) (rows : List Row) (i : ℕ) (v : Vec ℕ Global) (d : Row)
    → i < length vs → v ≡ get_or vs i v → i < length rows
    → with_images ram (contents (drop i vs)) (map loaded (drop i rows))
    ≡ with_images (loaded_at ram v.items (get_or rows i d).1.code_base) (contents (drop (i + 1) vs)) (map loaded (drop (i + 1) rows))
images_more ram vs rows i v d below is row_below =
    ap (λ (images : List (List ℕ)). with_images ram images (map loaded (drop i rows))) (contents_here vs i v below is)
    ∙ ap (λ (rs : List Row). with_images ram (v.items ∷ contents (drop (i + 1) vs)) (map loaded rs)) (drop_more rows i d row_below)

-- a module's spot
pub spots_more : (rows : List Row) (i : ℕ) (d : Row) (k : Kernel) → i < length rows
    → with_spots i (map loaded (drop i rows)) k ≡ with_spots (i + 1) (map loaded (drop (i + 1) rows)) (with_spot k i (spot_of (loaded (get_or rows i d))))
spots_more rows i d k below = ap (λ (rs : List Row). with_spots i (map loaded rs) k) (drop_more rows i d below)

-- where all fail, no place passes
none_from : {X : Type 0} (p : X → Bool) (xs : List X) (d : X) (o : Option ℕ) → position p xs ≡ o → All (λ x. p x ≡ false) xs → o ≡ None
none_from p xs d None is fails = refl
none_from p xs d (Some i) is fails =
    let found = position-Some p xs i d is in
    absurd (both_ways (p (get_or xs i d)) (fails i d found.0) found.1)

-- the next of regions that don't meet is added
next_is_added : (bytes : List ℕ) (rs : List Region) (i : ℕ) (d : Region) → IsSound (record { regions = rs; bytes = bytes }) → i < length rs
    → add_answer (record { regions = take i rs; bytes = bytes }) (get_or rs i d) ≡ Ok tt
next_is_added bytes rs i d sound below =
    let r = get_or rs i d in
    let front = take i rs in
    let few = sound.at_most in
    let count : length front ≡ i = length-take-le i rs (omega arith) in
    let room : (length front == 64) ≡ false = ne_eqb (length front) 64 (λ full. absurd (omega arith)) in
    let fails : All (λ s. meets r s ≡ false) front = λ k e inside.
    let before : k < i = omega arith in
    let unmet : meets (get_or rs i e) (get_or rs k e) ≡ false = sound.apart k i e before below in
    subst (λ (s : Region). meets r s ≡ false) (sym (get_or-take i rs k e before))
    (subst (λ (q : Region). meets q (get_or rs k e) ≡ false) (get_or_default rs i e d below) unmet) in
    let none : position (meets r) front ≡ None = none_from (meets r) front d (position (meets r) front) refl fails in
    ap (λ (b : Bool). if b then Err Full else unless_met (position (meets r) front)) room ∙ ap unless_met none

pub added : (g now : Memory) (bytes : List ℕ) (rs : List Region) (i : ℕ) (d : Region) (answer : Result (Unit {0}) AddErr)
    → IsSound (record { regions = rs; bytes = bytes }) → i < length rs → g ≡ record { regions = take i rs; bytes = bytes }
    → answer ≡ add_answer g (get_or rs i d) → now ≡ after_add g (get_or rs i d) answer
    → (answer ≡ Ok tt) × (now ≡ record { regions = take (i + 1) rs; bytes = bytes })
added g now bytes rs i d answer sound below before given after =
    let r = get_or rs i d in
    let ok : answer ≡ Ok tt = given ∙ (ap (λ (h : Memory). add_answer h r) before ∙ next_is_added bytes rs i d sound below) in
    let stepped : now ≡ record { regions = take i rs ++ r ∷ []; bytes = bytes } =
    after ∙ (ap (after_add g r) ok ∙ ap (λ (h : Memory). after_add h r (Ok tt)) before) in
    (ok, stepped ∙ ap (λ (q : List Region). let h : Memory = record { regions = q; bytes = bytes } in h) (sym (take_more rs i d below)))

-- what modules are made of, where they are loaded
pub rows_placed : (rows : List Row) → All (λ m. IsPlaced m.preamble m.placed) (map loaded rows) → All (λ r. IsPlaced r.0 r.1) rows
rows_placed rows all k d below =
    let many : length (map loaded rows) ≡ length rows = length-map rows loaded in
    subst (λ (m : Module). IsPlaced m.preamble m.placed) (get_or-map loaded rows k d (loaded d) below) (all k (loaded d) (omega arith))
