-- A booted board begins with no wait, nothing armed and no tick.
use Rattle.std.proofs.Common.{◌≡◌, ℕ, ◌+◌, List, [], ◌∷◌, ap, refl, sym, ◌∙◌, subst, arith}
use Rattle.std.proofs.lemmas.Bool.{cond_both}
use Rattle.board_file.specs.declared.board.Board.{Board}
use Rattle.board_file.specs.declared.board.BoardModule.{BoardModule}
use Rattle.kernel_state.specs.Kernel.{blank_kernel, with_spot}
use Rattle.kernel_state.specs.declared.kernel.Kernel.{Kernel}
use Rattle.module_manager.specs.Laws.{StartKeepsWaits}
use Rattle.module_manager.specs.declared.modules.Module.{Module}
use Rattle.soft_timers.specs.Timers.{TimerTable, no_timers}
use Rattle.suspend_lists.specs.Laws.{HistoriesAccount, HistoriesCount, IsWhole}
use Rattle.suspend_lists.specs.Waits.{WaitTable, new_table}
use Rattle.board_core.specs.Boot.{all_started, booted_parts, loaded_modules, loaded_parts, one_started, spot_of, with_spots}
use Rattle.board_core.specs.Laws.{BootBeginsNone}
use Rattle.board_core.specs.Trace.{AreTallied}
use Rattle.board_core.specs.declared.parts.Parts.{Parts}

-- nothing waited or was armed yet, and no tick came
record IsFresh (k : Kernel) : Type 0 where
  waits : k.waits ≡ new_table
  wheel : k.wheel ≡ no_timers

spots_fresh : (i : ℕ) (ms : List Module) (k : Kernel) → IsFresh k → IsFresh (with_spots i ms k)
spots_fresh i [] k fresh = fresh
spots_fresh i (m ∷ ms) k fresh = spots_fresh (i + 1) ms (with_spot k i (spot_of m)) (record { waits = fresh.waits; wheel = fresh.wheel })

one_fresh : StartKeepsWaits → (i : ℕ) (m : BoardModule) (p : Parts) → IsFresh p.kernel → IsFresh (one_started i m p).kernel
one_fresh keeps i m p fresh =
    let kept = keeps p.modules p.kernel p.memory i in
    cond_both m.start _ p (λ (q : Parts). IsFresh q.kernel) (λ _. record { waits = kept.0 ∙ fresh.waits; wheel = kept.1 ∙ fresh.wheel }) (λ _. fresh)

all_fresh : StartKeepsWaits → (i : ℕ) (ms : List BoardModule) (p : Parts) → IsFresh p.kernel → IsFresh (all_started i ms p).kernel
all_fresh keeps i [] p fresh = fresh
all_fresh keeps i (m ∷ ms) p fresh = all_fresh keeps (i + 1) ms (one_started i m p) (one_fresh keeps i m p fresh)

booted_fresh : StartKeepsWaits → (b : Board) (images : List (List ℕ)) → IsFresh (booted_parts b images).kernel
unfolding booted_parts
booted_fresh keeps b images =
    all_fresh keeps 0 b.modules (loaded_parts b images)
    (spots_fresh 0 (loaded_modules b images) blank_kernel (record { waits = refl; wheel = refl }))

-- a new table is tallied
fresh_tally : HistoriesAccount → HistoriesCount → IsWhole new_table → AreTallied new_table []
fresh_tally account count whole = record { accounted = account [] tt; counted = count [] tt; whole = whole }

pub boot_begins_none : StartKeepsWaits → HistoriesAccount → HistoriesCount → IsWhole new_table → BootBeginsNone
boot_begins_none keeps account count whole b images =
    let fresh = booted_fresh keeps b images in
    let begun = ap (λ (w : WaitTable). w.totals.begun) fresh.waits in
    let armings = ap (λ (w : TimerTable). w.armings) fresh.wheel in
    let ticks = ap (λ (w : TimerTable). w.ticks) fresh.wheel in (
      subst (λ (w : WaitTable). AreTallied w []) (sym fresh.waits) (fresh_tally account count whole),
      record { begun = omega (arith, begun); armings = omega (arith, armings); ticks = omega (arith, ticks) },
    )
