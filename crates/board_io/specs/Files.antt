-- What a read answers by the bytes that are held under each name, and files in memory.
use Rattle.std.specs.Prelude.{◌≡◌, ℕ, ◌+◌, ◌==◌, Bool, true, false, if◌then◌else◌, List, [], ◌∷◌}
use Rattle.std.specs.Prelude.{map, Option, None, Some, Result, Ok, Err, take, IsSome, IsSomeAnd}
use Rattle.std.specs.Prelude.{String, string_bytes, ◌⊎◌}
use Rattle.std.specs.Global.{Global, Vec}
use Rattle.std.specs.List.{list_any}
use Rattle.std.specs.Str.{bytes_eq}
use Rattle.board_io.specs.declared.files.ReadErr.{ReadErr}
use Rattle.board_io.specs.declared.files.ReadErr.TheVariants.{Failed, Missing, NoMemory}
use Rattle.board_io.specs.Faults.{risen}

-- the file is held, and these are the first max + 1 of its bytes, or all of them where there are
-- fewer
abbrev pub IsPrefixOf : Option (List ℕ) → ℕ → List ℕ → Type 0
IsPrefixOf file max bytes = IsSomeAnd file (λ held. bytes ≡ take (max + 1) held)

-- the name isn't held, or there was a fault; where it isn't known what is held, there was a fault
abbrev pub IsMissing : Option (List ℕ → Option (List ℕ)) → List ℕ → Type 0 → Type 0
IsMissing None name fault = fault
IsMissing (Some at) name fault = (at name ≡ None) ⊎ fault

-- files in memory: the bytes under each name, the numbers of the reads that fail, and the reads and
-- faults so far
pub record FilesInMemory : Type 0 where
  pub files : List (List ℕ × List ℕ)
  pub fails : List ℕ
  pub reads : ℕ
  pub faults : ℕ

-- the bytes held under a name
abbrev pub held_by : List (List ℕ × List ℕ) → List ℕ → Option (List ℕ)
held_by [] name = None
held_by (file ∷ files) name = if bytes_eq file.0 name then Some file.1 else held_by files name

-- whether the next read is one of those that fail; reads are counted from 1
abbrev pub fails_next : FilesInMemory → Bool
fails_next m = list_any (λ k. k == risen m.reads) m.fails

-- a read is counted, and so is its fault; what is held stays
abbrev pub after_read : FilesInMemory → FilesInMemory
after_read m =
    record m { reads = risen m.reads; faults = if fails_next m then risen m.faults else m.faults }

-- each answer of a read with its cause: the read was to fail, or the name isn't held, or its bytes
-- are given, if memory is found
abbrev pub ReadAnswers : (failing : Bool) → (held : Option (List ℕ)) → (max : ℕ)
    → Result (Vec ℕ) ReadErr → Type 0
ReadAnswers failing held max (Ok bytes) = (failing ≡ false) × IsPrefixOf held max bytes.items
ReadAnswers failing held max (Err Failed) = failing ≡ true
ReadAnswers failing held max (Err Missing) = (failing ≡ false) × (held ≡ None)
ReadAnswers failing held max (Err NoMemory) = (failing ≡ false) × IsSome held

-- a list of files by the bytes of their names, and the names alone
abbrev pub named : List (String Global × Vec ℕ) → List (List ℕ × List ℕ)
named files = map (λ file. (string_bytes file.0, file.1.items)) files

abbrev pub names : List (String Global × Vec ℕ) → List (List ℕ)
names files = map (λ file. string_bytes file.0) files
