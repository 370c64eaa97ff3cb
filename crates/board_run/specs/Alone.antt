-- An image that lies alone in RAM, as module 0.
use Rattle.std.specs.Prelude.{ℕ, ◌+◌, List, [], ◌∷◌, replicate}
use Rattle.module_loader.specs.Image.{loaded}
use Rattle.module_loader.specs.Want.{rounded_up, want_of}
use Rattle.module_loader.specs.declared.placement.Placed.{Placed}
use Rattle.module_preamble.specs.declared.words.Preamble.{Preamble}
use Rattle.region_guard.specs.Memory.{Memory, ram_base}
use Rattle.region_guard.specs.declared.region.Region.{Region}
use Rattle.region_guard.specs.declared.region.Rights.TheVariants.{Code, ReadWrite}

-- bytes of its RAM
abbrev pub ram_alone : ℕ
ram_alone = 4194304

-- its code lies at the start of RAM, and its data after it
abbrev pub alone_at : Preamble → Placed
alone_at p = record { code_base = ram_base; data_base = rounded_up 32 (ram_base + p.code_size) }

-- its code can be fetched and loaded, and its data loaded and stored
abbrev pub code_region : Preamble → Placed → Region
code_region p at = record { base = at.code_base; size = (want_of p).code; rights = Code; who = 1 }

abbrev pub data_region : Preamble → Placed → Region
data_region p at =
    record { base = at.data_base; size = (want_of p).data_bytes; rights = ReadWrite; who = 1 }

-- RAM of a size, which is zero but for the image at its place
unfoldable pub alone : ℕ → Preamble → Placed → List ℕ → Memory
alone size p at image =
    record {
      regions = code_region p at ∷ data_region p at ∷ [];
      bytes = loaded (replicate size 0) image at.code_base;
    }
