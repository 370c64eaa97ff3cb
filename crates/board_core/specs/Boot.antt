-- The board as it is booted: its modules lie in RAM, which is zero elsewhere, and those that are to
-- start were started.
use Rattle.std.specs.Prelude.{◌≡◌, ⊤, ℕ, ◌+◌, ◌^◌, List, [], ◌∷◌, length, map, replicate, zip}
use Rattle.std.specs.Prelude.{Option, None, Some, Result, Ok, Err, if◌then◌else◌, Vec}
use Rattle.std.specs.declared.alloc.Global.{Global}
use Rattle.module_preamble.specs.Preamble.{preamble}
use Rattle.module_preamble.specs.Words.{words_of}
use Rattle.module_preamble.specs.declared.refusal.PreErr.{PreErr}
use Rattle.module_preamble.specs.declared.words.Preamble.{Preamble}
use Rattle.module_loader.specs.Image.{loaded as loaded_at}
use Rattle.module_loader.specs.Placement.{placement}
use Rattle.module_loader.specs.Want.{want_of}
use Rattle.module_loader.specs.declared.placement.Placed.{Placed}
use Rattle.module_loader.specs.declared.placement.Range.{Range}
use Rattle.region_guard.specs.Memory.{Memory, ram_base}
use Rattle.region_guard.specs.declared.region.Region.{Region}
use Rattle.region_guard.specs.declared.region.Rights.TheVariants.{Code, ReadWrite}
use Rattle.board_file.specs.declared.board.Board.{Board}
use Rattle.board_file.specs.declared.board.BoardModule.{BoardModule}
use Rattle.kernel_state.specs.Kernel.{blank_kernel, with_spot}
use Rattle.kernel_state.specs.declared.kernel.Kernel.{Kernel}
use Rattle.kernel_state.specs.declared.spot.Spot.{Spot}
use Rattle.module_manager.specs.Modules.{loaded}
use Rattle.module_manager.specs.Start.{StartOutcome, start_row}
use Rattle.module_manager.specs.declared.modules.Module.{Module}
use Rattle.board_core.specs.Devices.{fresh_device}
use Rattle.board_core.specs.Step.{with_change}
use Rattle.board_core.specs.World.{World}
use Rattle.board_core.specs.declared.boot.BootErr.{BootErr}
use Rattle.board_core.specs.declared.boot.BootErr.TheVariants.{NoMemory, Image, NoRoom}
use Rattle.board_core.specs.declared.parts.Parts.{Parts}

-- the bytes of images
abbrev pub contents : List (Vec ℕ Global) → List (List ℕ)
contents images = map (λ image. image.items) images

-- all of RAM is free at first
abbrev pub free_ram : ℕ → List Range
free_ram ram = record { base = ram_base; size = ram } ∷ []

-- where modules lie in RAM of the given number of bytes, or the number of the first that finds no
-- room
abbrev pub places_in : ℕ → List Preamble → Result (List Placed) ℕ
places_in ram ps = placement (free_ram ram) (map want_of ps)

-- the same for the modules of a board's images
abbrev pub places : Board → List (List ℕ) → Result (List Placed) ℕ
places b images = places_in b.ram (map words_of images)

-- the first image that breaks a rule, by its number counted from i, and the rule
abbrev pub or_later : ℕ → Option BootErr → Result Preamble PreErr → Option BootErr
or_later i later (Ok p) = later
or_later i later (Err e) = Some (Image i e)

abbrev pub image_refusal : ℕ → List (List ℕ) → Option BootErr
image_refusal i [] = None
image_refusal i (image ∷ images) = or_later i (image_refusal (i + 1) images) (preamble image)

-- the module that finds no room
abbrev pub room_refusal : Result (List Placed) ℕ → Option BootErr
room_refusal (Ok at) = None
room_refusal (Err i) = Some (NoRoom i)

abbrev pub or_room : Option BootErr → Option BootErr → Option BootErr
or_room None room = room
or_room (Some e) room = Some e

-- why a board isn't booted: an image comes before room
unfoldable pub boot_refusal : Board → List (List ℕ) → Option BootErr
boot_refusal b images = or_room (image_refusal 0 images) (room_refusal (places b images))

-- what was due is the refusal; that memory ran out may come at any time
abbrev pub Refuses : Option BootErr → BootErr → Type 0
Refuses due NoMemory = ⊤
Refuses due (Image i e) = due ≡ Some (Image i e)
Refuses due (NoRoom i) = due ≡ Some (NoRoom i)

abbrev pub placed_at : Result (List Placed) ℕ → List Placed
placed_at (Ok at) = at
placed_at (Err i) = []

-- the modules as they lie, none started yet
abbrev pub loaded_modules : Board → List (List ℕ) → List Module
loaded_modules b images = map loaded (zip (map words_of images) (placed_at (places b images)))

-- the regions of modules, those of module i first: its code can be fetched and loaded, its data
-- loaded and stored, by it alone
abbrev pub code_region : ℕ → Module → Region
code_region i m = record {
  base = m.placed.code_base;
  size = (want_of m.preamble).code;
  rights = Code;
  who = 2 ^ i;
}

abbrev pub data_region : ℕ → Module → Region
data_region i m = record {
  base = m.placed.data_base;
  size = (want_of m.preamble).data_bytes;
  rights = ReadWrite;
  who = 2 ^ i;
}

abbrev pub regions_of : ℕ → List Module → List Region
regions_of i [] = []
regions_of i (m ∷ ms) = code_region i m ∷ data_region i m ∷ regions_of (i + 1) ms

-- RAM with each image at its module's code
abbrev pub with_images : List ℕ → List (List ℕ) → List Module → List ℕ
with_images ram [] ms = ram
with_images ram (image ∷ images) [] = ram
with_images ram (image ∷ images) (m ∷ ms) =
    with_images (loaded_at ram image m.placed.code_base) images ms

-- memory with the images, in which each module has its regions
abbrev pub memory_with : ℕ → List (List ℕ) → List Module → Memory
memory_with ram images ms = record {
  regions = regions_of 0 ms;
  bytes = with_images (replicate ram 0) images ms;
}

abbrev pub loaded_memory : Board → List (List ℕ) → Memory
loaded_memory b images = memory_with b.ram images (loaded_modules b images)

-- each module has its spot in the kernel, those from module i on; it has no callback thread yet
abbrev pub spot_of : Module → Spot
spot_of m = record {
  shell = m.placed.code_base + m.preamble.shell;
  data_base = m.placed.data_base;
  callback = None;
}

abbrev pub with_spots : ℕ → List Module → Kernel → Kernel
with_spots i [] k = k
with_spots i (m ∷ ms) k = with_spots (i + 1) ms (with_spot k i (spot_of m))

-- a board's modules are loaded, none is started yet, and nothing was taken of a device
abbrev pub loaded_parts : Board → List (List ℕ) → Parts
loaded_parts b images = record {
  kernel = with_spots 0 (loaded_modules b images) blank_kernel;
  memory = loaded_memory b images;
  modules = loaded_modules b images;
  devices = replicate (length b.devices) fresh_device;
}

-- the start of module m, and what it leaves
abbrev pub start_of : Parts → ℕ → StartOutcome
start_of p m = start_row p.modules p.kernel p.memory m

abbrev pub after_start : Parts → StartOutcome → Parts
after_start p o = record (with_change p o.change) { modules = o.modules }

-- the modules from module i on that are to start are started, in board order
abbrev pub one_started : ℕ → BoardModule → Parts → Parts
one_started i m p = if m.start then after_start p (start_of p i) else p

abbrev pub all_started : ℕ → List BoardModule → Parts → Parts
all_started i [] p = p
all_started i (m ∷ ms) p = all_started (i + 1) ms (one_started i m p)

unfoldable pub booted_parts : Board → List (List ℕ) → Parts
booted_parts b images = all_started 0 b.modules (loaded_parts b images)

-- the world of a booted board: no event was made
unfoldable pub booted : Board → List (List ℕ) → World
booted b images = record { board = b; parts = booted_parts b images; steps = 0; irqs = 0 }
