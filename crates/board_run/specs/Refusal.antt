-- The line of a refusal.
use Rattle.std.specs.Prelude.{ℕ, ◌++◌, List, [], Option, Some, None, map, codes, decimal}
use Rattle.board_report.specs.Parts.{graphic, newline}
use Rattle.tx_types.specs.Line.{hex}
use Rattle.module_preamble.specs.Refusal.{name_of, number_of, word_of}
use Rattle.module_preamble.specs.declared.refusal.PreErr.{PreErr}
use Rattle.board_io.specs.declared.files.ReadErr.{ReadErr}
use Rattle.board_io.specs.declared.files.ReadErr.TheVariants.{Failed, Missing, NoMemory}
use Rattle.board_run.specs.declared.refusal.Refusal.{Refusal}
use Rattle.board_run.specs.declared.refusal.Refusal.TheVariants.{BoardTooLarge, NotToml, Field}
use Rattle.board_run.specs.declared.refusal.Refusal.TheVariants.{ImageTooLarge, LogTooLarge}
use Rattle.board_run.specs.declared.refusal.Refusal.TheVariants.{LogLine, Image, Room}
use Rattle.board_run.specs.declared.refusal.Stop.{Stop}
use Rattle.board_run.specs.declared.refusal.Stop.TheVariants.{ReadFault, NoMemory as StopNoMemory}

-- a text after a space, where there is one
abbrev pub spaced : (ℕ → List ℕ) → Option ℕ → List ℕ
spaced text None = []
spaced text (Some n) = codes " " ++ text n

-- the broken rule's name, then its number in decimal and its word in hexadecimal, where it has them
abbrev pub rule_text : PreErr → List ℕ
rule_text err = name_of err ++ spaced decimal (number_of err) ++ spaced hex (word_of err)

-- what is refused, and why
abbrev pub refusal_text : Refusal → List ℕ
refusal_text BoardTooLarge = codes "board too large"
refusal_text NotToml = codes "board: not toml"
refusal_text (Field path) = codes "board: " ++ map graphic path
refusal_text (ImageTooLarge image) = codes "image " ++ decimal image ++ codes " too large"
refusal_text LogTooLarge = codes "log too large"
refusal_text (LogLine line) = codes "log: line " ++ decimal line
refusal_text (Image image err) = codes "image " ++ decimal image ++ codes ": " ++ rule_text err
refusal_text (Room image) = codes "room " ++ decimal image

abbrev pub refusal_line : Refusal → List ℕ
refusal_line refusal = codes "refused " ++ refusal_text refusal ++ newline

-- a file that isn't there is a fault of reading
abbrev pub stop_of : ReadErr → Stop
stop_of Failed = ReadFault
stop_of Missing = ReadFault
stop_of NoMemory = StopNoMemory

abbrev pub want_of_memory : Stop
want_of_memory = StopNoMemory
