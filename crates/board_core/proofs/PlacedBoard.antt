-- The modules of a board as they are placed: what holds of all of them at once.
use Rattle.std.proofs.Common.{◌≡◌, ℕ, List, length, map, Ok, ap, sym, subst, arith}
use Rattle.flat_ram.specs.Laws.{LengthStays, OthersStay, RangeIsWritten}
use Rattle.module_loader.specs.Laws.{PlacedLieApart}
use Rattle.module_loader.specs.declared.placement.Placed.{Placed}
use Rattle.module_manager.specs.declared.modules.Module.{Module}
use Rattle.module_preamble.specs.Words.{words_of}
use Rattle.board_file.specs.declared.board.Board.{Board}
use Rattle.board_file.specs.Rules.{IsBoard}
use Rattle.board_core.specs.Boot.{loaded_modules, memory_with, placed_at, places}
use Rattle.board_core.specs.Laid.{AreAccepted, AreImagesOf, AreLaid, AreLoaded}
use Rattle.board_core.specs.Laws.{images_in}
use Rattle.board_core.proofs.Laid.{laid, modules_of}
use Rattle.board_core.proofs.Loaded.{images_loaded}

pub are_loaded : LengthStays → OthersStay → RangeIsWritten → PlacedLieApart → (b : Board) (images : List (List ℕ)) (at : List Placed) → IsBoard b
    → length images ≡ length b.modules → AreAccepted images → places b images ≡ Ok at → AreLoaded b images
are_loaded lengths stays written lie_apart b images at board many accepted due =
    let least = board.least_ram in
    let most = board.most_ram in
    let few = board.modules in
    let facts = laid lengths lie_apart b.ram images at (omega arith) most (omega arith) accepted due in
    let same : modules_of (map words_of images) at ≡ loaded_modules b images = ap (λ r. modules_of (map words_of images) (placed_at r)) (sym due) in
    let all =
    subst (λ (ms : List Module). AreLaid (memory_with b.ram images ms) ms × AreImagesOf ms images × (images_in (memory_with b.ram images ms) ms ≡ images)) same
    (facts.0, facts.1, images_loaded lengths stays written b.ram images (modules_of (map words_of images) at) facts.0 facts.1) in
    record { laid = all.0; images_of = all.1; images_in = all.2 }
