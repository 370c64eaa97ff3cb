-- What the report on a world has of each kind fits a printed report.
use Rattle.std.proofs.Common.{◌≡◌, ◌≢◌, ℕ, zero, suc, ◌<◌, ◌≤◌, ◌+◌, ◌*◌, ◌==◌, true, false, not, List, [], ◌∷◌, length, filter, All, AllPairs, None, Some}
use Rattle.std.proofs.Common.{IfSome, Option, arith, ap, subst, refl}
use Rattle.std.proofs.lemmas.Bool.{eqb-false, eqb-true, ne_eqb, not-true}
use Rattle.std.proofs.lemmas.List.Elements.{All-filter, All-head, filter_passes}
use Rattle.std.proofs.lemmas.List.Kept.{AllPairs-filter}
use Rattle.board_report.specs.Printable.{IsNumbers, IsPrintable}
use Rattle.board_values.specs.declared.report.ObjectRow.{ObjectRow}
use Rattle.board_values.specs.declared.report.ShowRow.{ShowRow}
use Rattle.board_values.specs.declared.report.ThreadRow.{ThreadRow}
use Rattle.kernel_state.specs.ObjectReport.{object_row}
use Rattle.module_manager.specs.Modules.{module_at}
use Rattle.ready_maps.specs.Kept.{IsKept}
use Rattle.ready_maps.specs.Sched.{Sched, pr}
use Rattle.board_file.specs.Rules.{IsShow}
use Rattle.board_core.specs.Laws.{IsWorld}
use Rattle.board_core.specs.Report.{device_row, module_row, report_of, show_at, show_cell, show_row, rows_found, thread_row}
use Rattle.board_core.specs.World.{World}
use Rattle.board_core.proofs.Lists.{All-rows_below, length-rows_below, length-rows_found}

-- the others of a list
abbrev others : ℕ → List ℕ → List ℕ
others n xs = filter (λ u. not (u == n)) xs

others_all : (n : ℕ) (xs : List ℕ) → All (λ u. u ≢ n) xs → length (others n xs) ≡ length xs
others_all n [] none = refl
others_all n (x ∷ xs) none =
    let other : (x == n) ≡ false = ne_eqb x n (All-head (λ u. u ≢ n) x xs none) in
    let rest = others_all n xs (λ k d low. none (suc k) d (omega arith)) in
    rw other (omega (arith, rest))

-- all but one at most are the others
others_many : (n : ℕ) (xs : List ℕ) → AllPairs (λ u v. v ≢ u) xs → length xs ≤ length (others n xs) + 1
others_many n [] distinct = omega arith
others_many n (x ∷ xs) distinct =
    let rest = others_many n xs (λ i j d earlier low. distinct (suc i) (suc j) d (omega arith) (omega arith)) in
    elim (x == n) as (λ b. (x == n) ≡ b → length (x ∷ xs) ≤ length (others n (x ∷ xs)) + 1) [
      | true ↦ λ same.
          let here : x ≡ n = eqb-true x n same in
          let apart : All (λ u. u ≢ x) xs = λ k d low. distinct 0 (suc k) d (omega arith) (omega arith) in
          let none = others_all n xs (subst (λ v. All (λ u. u ≢ v) xs) here apart) in
          rw same (omega (arith, none))
      | false ↦ λ other. rw other (omega (arith, rest))
    ] refl

-- distinct numbers below n are at most n
pigeonhole : (n : ℕ) (xs : List ℕ) → All (λ t. t < n) xs → AllPairs (λ u v. v ≢ u) xs → length xs ≤ n
pigeonhole zero [] low distinct = omega arith
pigeonhole zero (x ∷ xs) low distinct = let none : x < 0 = All-head (λ t. t < 0) x xs low in absurd (omega arith)
pigeonhole (suc n) xs low distinct =
    let kept : All (λ t. t < suc n) (others n xs) = All-filter (λ u. not (u == n)) (λ t. t < suc n) xs low in
    let apart : All (λ u. not (u == n) ≡ true) (others n xs) = filter_passes (λ u. not (u == n)) xs in
    let lower : All (λ t. t < n) (others n xs) = λ k d within.
    let below = kept k d within in
    let other = eqb-false _ n (not-true _ (apart k d within)) in
    omega arith in
    let fewer = pigeonhole n (others n xs) lower (AllPairs-filter (λ u v. v ≢ u) (λ u. not (u == n)) xs distinct) in
    omega (arith, others_many n xs distinct, fewer)

-- the ready threads and the holders are distinct
ready_numbers : (s : Sched) → IsKept s → IsNumbers s.order
ready_numbers s kept = record {
  few = pigeonhole 256 s.order kept.laid_out.in_range kept.laid_out.each_once;
  small = kept.laid_out.in_range;
}

held_numbers : (s : Sched) → IsKept s → All (λ n. n < 256) s.held → IsNumbers s.held
held_numbers s kept small =
    let distinct : AllPairs (λ u v. v ≢ u) s.held = λ i j d earlier low same.
    let climbs = kept.laid_out.holders_climb i j d earlier low in
    let equal = ap (pr s) same in
    omega (arith, climbs, equal) in
    record { few = pigeonhole 256 s.held small distinct; small = small }

-- the waiters of a row, where there is one
pub some_numbers : (row : Option ObjectRow) → IfSome row (λ (r : ObjectRow). length r.waits ≤ 256)
    → IfSome row (λ (r : ObjectRow). All (λ n. n < 256) r.waits) → IfSome row (λ (r : ObjectRow). IsNumbers r.waits)
some_numbers None few small = tt
some_numbers (Some r) few small = record { few = few; small = small }

few_cells : (w : World) → IsWorld w → (i : ℕ) → i < length w.board.shows → length (show_row w.board w.parts.memory w.parts.modules i).cells ≤ 64
few_cells w world i low =
    let s = show_at w.board i in
    let show : IsShow (length w.board.modules) s = world.board.shown i _ low in
    omega (arith, length-rows_below s.words (λ j. show_cell w.parts.memory (module_at w.parts.modules s.module) (s.offset + 4 * j)), show.few_words)

-- the report on a world, where its holders and the waiters of its objects have their numbers, and its threads their registers
pub report_is_printable : (w : World) → IsWorld w → All (λ n. n < 256) w.parts.kernel.ready.held
    → All (λ (t : ThreadRow). length t.regs ≡ 31) (rows_found (length w.parts.kernel.objects) (thread_row w.parts.kernel))
    → All (λ (o : ObjectRow). IsNumbers o.waits) (rows_found (length w.parts.kernel.objects) (object_row w.parts.kernel)) → IsPrintable (report_of w)
unfolding report_of
report_is_printable w world small regs waits = record {
  held = held_numbers w.parts.kernel.ready world.serves.sound.formed.scheduler small;
  ready = ready_numbers w.parts.kernel.ready world.serves.sound.formed.scheduler;
  modules = omega (arith, length-rows_below (length w.parts.modules) (module_row w.board w.parts.modules), world.modules, world.board.modules);
  threads = omega (arith, length-rows_found (length w.parts.kernel.objects) (thread_row w.parts.kernel), world.serves.sound.formed.slots);
  regs = regs;
  objects = omega (arith, length-rows_found (length w.parts.kernel.objects) (object_row w.parts.kernel), world.serves.sound.formed.slots);
  waits = waits;
  devices = omega (arith, length-rows_below (length w.parts.devices) (device_row w.board w.parts.devices), world.devices, world.board.devices);
  shows = omega (arith, length-rows_below (length w.board.shows) (show_row w.board w.parts.memory w.parts.modules), world.board.shows);
  cells = All-rows_below (λ (s : ShowRow). length s.cells ≤ 64) (length w.board.shows) (show_row w.board w.parts.memory w.parts.modules) (few_cells w world);
}
