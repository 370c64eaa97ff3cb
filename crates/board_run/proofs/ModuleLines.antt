-- The lines of modules, written one after the other.
use Rattle.std.proofs.Common.{◌≡◌, ℕ, suc, ◌+◌, ◌<◌, ◌≤◌, List, ◌++◌, length, drop, slice_index_or, Option, Result, IsErr, sym, subst, ap, ◌∙◌, drop-cons}
use Rattle.std.proofs.Common.{arith}
use Rattle.std.specs.Io.KnownBytes.{Appends}
use Rattle.board_file.specs.declared.board.BoardModule.{BoardModule}
use Rattle.module_loader.specs.declared.placement.Placed.{Placed}
use Rattle.module_loader.specs.declared.want.Want.{Want}
use Rattle.board_run.specs.Check.{module_line, modules_text}
use Rattle.board_io.specs.Sink.{Wrote}
use Rattle.board_run.proofs.Writing.{wrote_more, wrote_part}

-- the lines from a place on begin with that of the module there
modules_text-drop : (number i j : ℕ) (ms : List BoardModule) (ws : List Want) (ps : List Placed) (m : BoardModule) (w : Want) (p : Placed) → suc i ≡ j
    → i < length ms → i < length ws → i < length ps
    → modules_text number (drop i ms) (drop i ws) (drop i ps) ≡ module_line number (slice_index_or ms i m) (slice_index_or ws i w) (slice_index_or ps i p)
    ++ modules_text (number + 1) (drop j ms) (drop j ws) (drop j ps)
modules_text-drop number i j ms ws ps m w p next in_ms in_ws in_ps =
    rw (drop-cons ms i m, drop-cons ws i w, drop-cons ps i p)
    (ap
    (λ (k : ℕ). module_line number (slice_index_or ms i m) (slice_index_or ws i w) (slice_index_or ps i p)
    ++ modules_text (number + 1) (drop k ms) (drop k ws) (drop k ps)) next)

pub line_first : (i : ℕ) (ms : List BoardModule) (ws : List Want) (ps : List Placed) (m : BoardModule) (w : Want) (p : Placed) (line : List ℕ) → i < length ms
    → length ws ≡ length ms → length ps ≡ length ms → m ≡ slice_index_or ms i m → line ≡ module_line i m (slice_index_or ws i w) (slice_index_or ps i p)
    → modules_text i (drop i ms) (drop i ws) (drop i ps) ≡ line ++ modules_text (i + 1) (drop (i + 1) ms) (drop (i + 1) ws) (drop (i + 1) ps)
line_first i ms ws ps m w p line inside all_ws all_ps here is =
    let text = is ∙ ap (λ (m : BoardModule). module_line i m (slice_index_or ws i w) (slice_index_or ps i p)) here in
    modules_text-drop i i (i + 1) ms ws ps m w p (omega arith) inside (omega arith) (omega arith)
    ∙ ap (λ (line : List ℕ). line ++ modules_text (i + 1) (drop (i + 1) ms) (drop (i + 1) ws) (drop (i + 1) ps)) (sym text)

-- a text whose next part failed has failed, whatever stands after
pub wrote_front : {T E : Type 0} (before mid now : ℕ) (old part new : Option (List ℕ)) (front line rest whole : List ℕ) (r : Result T E) → before ≤ mid
    → IsErr r → front ++ (line ++ rest) ≡ whole → Appends old part front → Wrote mid now part new line r → Wrote before now old new whole r
wrote_front before mid now old part new front line rest whole r later failed same front_is line_is =
    subst (λ (text : List ℕ). Wrote before now old new text r) same
    (wrote_more before mid now old part new front (line ++ rest) r later front_is (wrote_part mid now part new line rest r failed line_is))
