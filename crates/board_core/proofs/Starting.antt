-- A start leaves the modules where they lie, and each image in its module's code.
use Rattle.std.proofs.Common.{◌≡◌, ◌⊎◌, ℕ, zero, suc, ◌+◌, ◌-◌, ◌<◌, ◌≤◌, List, [], ◌∷◌, length, map, get_or, replicate, All, refl, ap, sym, subst, ◌∙◌, inl}
use Rattle.std.proofs.Common.{inr, ⊎_elim, arith}
use Rattle.std.proofs.lemmas.Bool.{cond_both}
use Rattle.std.proofs.lemmas.List.{get_or_default, length-replicate, length-set}
use Rattle.std.proofs.lemmas.List.Elements.{All-head, All-set, All-tail}
use Rattle.flat_ram.specs.Laws.{LengthStays, OthersStay}
use Rattle.kernel_state.specs.declared.kernel.Kernel.{Kernel}
use Rattle.module_loader.specs.Want.{want_of}
use Rattle.module_manager.specs.Laws.{BeginningKeepsMemory}
use Rattle.module_manager.specs.Modules.{IsPlaced, loaded, module_at, with_state}
use Rattle.module_manager.specs.Start.{StartOutcome, can_start, start_row, zeroed}
use Rattle.module_manager.specs.declared.modules.Module.{Module}
use Rattle.module_manager.specs.declared.modules.ModuleState.{ModuleState}
use Rattle.module_manager.specs.declared.modules.ModuleState.TheVariants.{Started}
use Rattle.module_preamble.specs.Words.{words_of}
use Rattle.region_guard.specs.Laws.{SoundnessStays}
use Rattle.region_guard.specs.Memory.{IsInRam, Memory, ram_base}
use Rattle.board_core.specs.Boot.{code_region, data_region, regions_of}
use Rattle.board_core.specs.Laid.{AreLaid, HasLevels}
use Rattle.board_core.specs.Laws.{image_in, images_in}
use Rattle.board_core.proofs.ModuleRegions.{AreApart, NoneMeet, data_beside_code, each_code, each_data, regions_stay}
use Rattle.board_core.proofs.Writes.{range_stays}

-- the state of a module doesn't matter to its image
images_by_state : (g : Memory) (ms : List Module) (i : ℕ) (s : ModuleState) → images_in g (with_state ms i s) ≡ images_in g ms
images_by_state g [] i s = refl
images_by_state g (m ∷ ms) zero s = refl
images_by_state g (m ∷ ms) (suc i) s = ap (λ (images : List (List ℕ)). image_in g m ∷ images) (images_by_state g ms i s)

map_same : (f h : Module → List ℕ) (ms : List Module) → All (λ m. f m ≡ h m) ms → map f ms ≡ map h ms
map_same f h [] all = refl
map_same f h (m ∷ ms) all =
    let P : Module → Type 0 = λ q. f q ≡ h q in
    ap (λ (x : List ℕ). x ∷ map f ms) (All-head P m ms all) ∙ ap (λ (xs : List (List ℕ)). h m ∷ xs) (map_same f h ms (All-tail P m ms all))

abbrev blank : Module
blank = loaded (words_of [], record { code_base = 0; data_base = 0 })

-- a module has some data
pub some_data : (g : Memory) (ms : List Module) (i : ℕ) → AreLaid g ms → i < length ms → 0 < (want_of (module_at ms i).preamble).data_bytes
some_data g ms i laid below =
    let inside : All (IsInRam g.bytes) (regions_of 0 ms) = subst (λ rs. All (IsInRam g.bytes) rs) laid.regions laid.memory.in_ram in
    (each_data (IsInRam g.bytes) ms i blank inside below).not_empty

own_base : (g : Memory) (ms : List Module) (i : ℕ) → All (IsInRam g.bytes) (regions_of 0 ms) → i < length ms → ram_base ≤ (module_at ms i).placed.data_base
own_base g ms i inside below = (each_data (IsInRam g.bytes) ms i blank inside below).range.from_base

beside : (ms : List Module) (i k : ℕ) (d : Module) → NoneMeet (regions_of 0 ms) → i < length ms → k < length ms
    → AreApart (data_region i (module_at ms i)) (code_region k (get_or ms k d))
beside ms i k d unmet below k_below =
    subst (λ (m : Module). AreApart (data_region i (module_at ms i)) (code_region k m)) (get_or_default ms k blank d k_below)
    (data_beside_code ms i k blank unmet below k_below)

-- a data region that is zeroed is no module's code
images_beside_data : LengthStays → OthersStay → (g : Memory) (ms : List Module) (i : ℕ) → AreLaid g ms → i < length ms
    → images_in (zeroed g (module_at ms i)) ms ≡ images_in g ms
images_beside_data lengths stays g ms i laid below =
    let r = module_at ms i in
    let now = zeroed g r in
    let zeros : List ℕ = replicate (want_of r.preamble).data_bytes 0 in
    let count : length zeros ≡ (want_of r.preamble).data_bytes = length-replicate (want_of r.preamble).data_bytes 0 in
    let inside : All (IsInRam g.bytes) (regions_of 0 ms) = subst (λ rs. All (IsInRam g.bytes) rs) laid.regions laid.memory.in_ram in
    let unmet : NoneMeet (regions_of 0 ms) = subst NoneMeet laid.regions laid.memory.apart in
    map_same (image_in now) (image_in g) ms (λ k d k_below.
    let m = get_or ms k d in
    let n = (want_of m.preamble).code in
    let range = (each_code (IsInRam g.bytes) ms k d inside k_below).range in
    let low = range.from_base in
    let high = range.to_end in
    let data_low : ram_base ≤ r.placed.data_base = own_base g ms i inside below in
    let apart = beside ms i k d unmet below k_below in
    let free : (m.placed.code_base - ram_base + n ≤ r.placed.data_base - ram_base) ⊎
    (r.placed.data_base - ram_base + length zeros ≤ m.placed.code_base - ram_base) =
    ⊎_elim (λ before. inr (omega arith)) (λ behind. inl (omega arith)) apart in
    range_stays lengths stays g.bytes zeros (r.placed.data_base - ram_base) (m.placed.code_base - ram_base) n (omega arith) free)

zeroed_lies : SoundnessStays → (g : Memory) (ms : List Module) (i : ℕ) → AreLaid g ms → i < length ms
    → AreLaid (zeroed g (module_at ms i)) (with_state ms i Started)
zeroed_lies sound g ms i laid below =
    let r = module_at ms i in
    let now : Module = record r { state = Started } in
    let many : length (with_state ms i Started) ≡ length ms = length-set ms i now in
    let few = laid.at_most in
    record {
      at_most = omega arith;
      placed = All-set (λ m. IsPlaced m.preamble m.placed) ms i now (laid.placed i blank below) laid.placed;
      levels = All-set (λ m. HasLevels m.preamble) ms i now (laid.levels i blank below) laid.levels;
      regions = laid.regions ∙ sym (regions_stay 0 ms i Started);
      memory = sound g (replicate (want_of r.preamble).data_bytes 0) r.placed.data_base laid.memory;
    }

-- modules that lay in memory g lie on, as many, and with their images
pub record AreStarted (g : Memory) (ms : List Module) (now : Memory) (after : List Module) : Type 0 where
  pub laid : AreLaid now after
  pub count : length after ≡ length ms
  pub images : images_in now after ≡ images_in g ms

is_started : LengthStays → OthersStay → SoundnessStays → BeginningKeepsMemory → (ms : List Module) (k : Kernel) (g : Memory) (i : ℕ)
    → AreLaid g ms → i < length ms → AreStarted g ms (start_row ms k g i).change.memory (start_row ms k g i).modules
unfolding start_row
is_started lengths stays sound begins ms k g i laid below =
    let r = module_at ms i in
    cond_both (can_start k r) _ _ (λ (o : StartOutcome). AreStarted g ms o.change.memory o.modules)
    (λ _. subst (λ (h : Memory). AreStarted g ms h (with_state ms i Started)) (sym (begins k (zeroed g r) i r)) (record {
      laid = zeroed_lies sound g ms i laid below;
      count = length-set ms i (record r { state = Started });
      images = images_by_state (zeroed g r) ms i Started ∙ images_beside_data lengths stays g ms i laid below;
    }))
    (λ _. record { laid = laid; count = refl; images = refl })

-- the same of what a start came to
pub after_start : LengthStays → OthersStay → SoundnessStays → BeginningKeepsMemory
    → (ms after : List Module) (k : Kernel) (g now : Memory) (i : ℕ) → AreLaid g ms
    → i < length ms → now ≡ (start_row ms k g i).change.memory → after ≡ (start_row ms k g i).modules → AreStarted g ms now after
after_start lengths stays sound begins ms after k g now i laid below memory modules =
    subst (AreStarted g ms now) (sym modules)
    (subst (λ (h : Memory). AreStarted g ms h (start_row ms k g i).modules) (sym memory) (is_started lengths stays sound begins ms k g i laid below))
