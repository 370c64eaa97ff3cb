-- What may be loaded: a module's data region, by the module.
use Rattle.std.proofs.Common.{◌≡◌, ℕ, zero, suc, ◌+◌, ◌*◌, ◌/◌, ◌%◌, ◌^◌, ◌<◌, ◌≤◌, true, List, [], ◌∷◌, length, refl, arith, ap, subst, sym, ◌∙◌}
use Rattle.std.proofs.lemmas.Bool.{and_from, eq-eqb, le-leb, or_left, or_right}
use Rattle.std.proofs.lemmas.Nat.{shl-shr}
use Rattle.std.specs.List.{list_any}
use Rattle.machine_words.specs.Bits.{bits}
use Rattle.module_loader.specs.Want.{want_of}
use Rattle.module_manager.specs.Modules.{module_at}
use Rattle.module_manager.specs.declared.modules.Module.{Module}
use Rattle.region_guard.specs.Memory.{Memory, may}
use Rattle.region_guard.specs.Region.{covers, lets}
use Rattle.region_guard.specs.declared.region.Access.TheVariants.{Load}
use Rattle.board_core.specs.Boot.{code_region, data_region, regions_of}

own_bit : (i : ℕ) → bits (2 ^ i) i 1 ≡ 1
own_bit i =
    let once : 1 * 2 ^ i ≡ 2 ^ i = omega arith in
    let whole : 2 ^ i / 2 ^ i ≡ 1 = ap (λ n. n / 2 ^ i) (sym once) ∙ shl-shr 1 i in
    ap (λ n. n % 2 ^ 1) whole

own_data : (i a : ℕ) (m : Module) → covers (data_region i m) a 4 ≡ true → lets i Load a 4 (data_region i m) ≡ true
own_data i a m inside =
    and_from _ _ (and_from _ _ inside refl) (eq-eqb (bits (2 ^ i) i 1) 1 (own_bit i))

some_lets : (i m j a : ℕ) (ms : List Module) → m < length ms → j ≡ i + m → covers (data_region j (module_at ms m)) a 4 ≡ true
    → list_any (lets j Load a 4) (regions_of i ms) ≡ true
some_lets i m j a [] low is inside = absurd (omega arith)
some_lets i zero j a (x ∷ ms) low is inside =
    let here : i ≡ j = omega arith in
    let own = subst (λ k. lets j Load a 4 (data_region k x) ≡ true) (sym here) (own_data j a x inside) in
    or_right (lets j Load a 4 (code_region i x)) _ (or_left _ (list_any (lets j Load a 4) (regions_of (i + 1) ms)) own)
some_lets i (suc m) j a (x ∷ ms) low is inside =
    or_right (lets j Load a 4 (code_region i x)) _
    (or_right (lets j Load a 4 (data_region i x)) _ (some_lets (i + 1) m j a ms (omega arith) (omega arith) inside))

-- a word of a module's data region may be loaded by it
pub data_is_loaded : (g : Memory) (ms : List Module) (m at : ℕ) → g.regions ≡ regions_of 0 ms → m < length ms
    → at + 4 ≤ (want_of (module_at ms m).preamble).data_bytes → may g m Load ((module_at ms m).placed.data_base + at) 4 ≡ true
data_is_loaded g ms m at regions low inside =
    let a = (module_at ms m).placed.data_base + at in
    let covered =
    and_from _ _ (le-leb (module_at ms m).placed.data_base a (omega arith))
    (le-leb (a + 4) ((module_at ms m).placed.data_base + (want_of (module_at ms m).preamble).data_bytes) (omega (arith, inside))) in
    subst (λ rs. list_any (lets m Load a 4) rs ≡ true) (sym regions) (some_lets 0 m m a ms low (omega arith) covered)
