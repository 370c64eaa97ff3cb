-- What reading answers, by what it should: running out of memory is always free.
use Rattle.std.specs.Prelude.{◌≡◌, ℕ, if◌then◌else◌, List, Option, Some, None, Result, Ok, Err}
use Rattle.std.specs.Str.{is_utf8}
use Rattle.toml.specs.Data.{Members}
use Rattle.toml.specs.Parse.{parse_document}
use Rattle.board_file.specs.Board.{board_of}
use Rattle.board_file.specs.declared.board.Board.{Board}
use Rattle.board_file.specs.declared.refusal.BoardErr.{BoardErr}
use Rattle.board_file.specs.declared.refusal.BoardErr.TheVariants.{NoMemory, NotToml, Field}

-- an error names the path, unless it is out of memory
abbrev pub Names : List ℕ → BoardErr → Type 0
Names path NoMemory = Unit {0}
Names path NotToml = ⊥
Names path (Field p) = p ≡ path

-- a part of the file was read as it should be, where what was read is seen so
abbrev pub ReadsAs : {A X : Type 0} → (X → A) → Result A (List ℕ) → Result X BoardErr → Type 0
ReadsAs seen due (Ok x) = due ≡ Ok (seen x)
ReadsAs seen due (Err NoMemory) = Unit {0}
ReadsAs seen due (Err NotToml) = ⊥
ReadsAs seen due (Err (Field path)) = due ≡ Err path

abbrev pub Reads : {A : Type 0} → Result A (List ℕ) → Result A BoardErr → Type 0
Reads due r = ReadsAs (λ x. x) due r

-- the table that the bytes are the TOML text of, if they are
abbrev pub file_in : List ℕ → Option Members
file_in bytes = if is_utf8 bytes then parse_document bytes else None

-- a board, or the path of a wrong field
abbrev pub or_field : Result Board (List ℕ) → Result Board BoardErr
or_field (Ok board) = Ok board
or_field (Err path) = Err (Field path)

abbrev pub or_not_toml : Option Members → Result Board BoardErr
or_not_toml None = Err NotToml
or_not_toml (Some file) = or_field (board_of file)

-- what bytes mean: a board, the first wrong field of a table, or no table at all
unfoldable pub board_in : List ℕ → Result Board BoardErr
board_in bytes = or_not_toml (file_in bytes)

-- what was due is answered; that memory ran out may come at any time
abbrev pub Answers : Result Board BoardErr → Result Board BoardErr → Type 0
Answers due (Ok board) = due ≡ Ok board
Answers due (Err NoMemory) = Unit {0}
Answers due (Err NotToml) = due ≡ Err NotToml
Answers due (Err (Field path)) = due ≡ Err (Field path)
