-- Modules as they lie in guarded memory: what holds of them when they are loaded, and stays.
use Rattle.std.specs.Prelude.{◌≡◌, ℕ, ◌<◌, ◌≤◌, true, List, length, map, All}
use Rattle.tx_types.specs.Limits.{module_limit, priority_count}
use Rattle.module_loader.specs.Want.{want_of}
use Rattle.module_manager.specs.Modules.{IsPlaced}
use Rattle.module_manager.specs.declared.modules.Module.{Module}
use Rattle.module_preamble.specs.Preamble.{IsAccepted}
use Rattle.module_preamble.specs.Words.{has_callback, words_of}
use Rattle.module_preamble.specs.declared.words.Preamble.{Preamble}
use Rattle.region_guard.specs.Memory.{Memory, IsSound}
use Rattle.board_file.specs.declared.board.Board.{Board}
use Rattle.board_core.specs.Boot.{loaded_memory, loaded_modules, regions_of}
use Rattle.board_core.specs.Laws.{images_in}

-- each image is that of a module that can be loaded
abbrev pub AreAccepted : List (List ℕ) → Type 0
AreAccepted images = All (λ image. IsAccepted image (words_of image)) images

-- its threads begin at priorities that the board's kernel has
pub record HasLevels (p : Preamble) : Type 0 where
  pub start : p.start_prio < priority_count
  pub callback : has_callback p ≡ true → p.callback_prio < priority_count

-- modules lie in memory at their places, each in regions of its own
pub record AreLaid (g : Memory) (ms : List Module) : Type 0 where
  pub at_most : length ms ≤ module_limit
  pub placed : All (λ m. IsPlaced m.preamble m.placed) ms
  pub levels : All (λ m. HasLevels m.preamble) ms
  pub regions : g.regions ≡ regions_of 0 ms
  pub memory : IsSound g

-- there is an image for each module, as long as its code
abbrev pub AreImagesOf : List Module → List (List ℕ) → Type 0
AreImagesOf ms images = map length images ≡ map (λ m. (want_of m.preamble).code) ms

-- a board's modules are loaded: they lie in memory, and each image stands in its module's code
pub record AreLoaded (b : Board) (images : List (List ℕ)) : Type 0 where
  pub laid : AreLaid (loaded_memory b images) (loaded_modules b images)
  pub images_of : AreImagesOf (loaded_modules b images) images
  pub images_in : images_in (loaded_memory b images) (loaded_modules b images) ≡ images
