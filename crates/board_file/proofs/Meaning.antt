-- What bytes mean, by the table that they are the text of.
use Rattle.std.proofs.Common.{◌≡◌, ℕ, List, Option, None, Some, Result, Ok, Err, IfOk, IsUtf8, refl, ap, ◌∙◌, subst, sym}
use Rattle.std.specs.Str.{is_utf8}
use Rattle.std.proofs.lemmas.Bool.{cond-true, cond_both}
use Rattle.std.proofs.lemmas.Str.{IsUtf8-from_is_utf8, is_utf8-from_IsUtf8}
use Rattle.toml.specs.Data.{Members}
use Rattle.toml.specs.Parse.{parse_document}
use Rattle.board_file.specs.Answer.{Answers, Reads, board_in, or_field, or_not_toml}
use Rattle.board_file.specs.Board.{board_of}
use Rattle.board_file.specs.Rules.{IsBoard}
use Rattle.board_file.specs.declared.board.Board.{Board}
use Rattle.board_file.specs.declared.refusal.BoardErr.{BoardErr}
use Rattle.board_file.specs.declared.refusal.BoardErr.TheVariants.{NoMemory, NotToml, Field}
use Rattle.board_file.proofs.Rules.{is_board}

-- bytes that are the text of a table mean what it says
board_in-text : (bytes : List ℕ) (file : Members) → IsUtf8 bytes → parse_document bytes ≡ Some file → board_in bytes ≡ or_field (board_of file)
unfolding board_in
board_in-text bytes file utf8 parsed =
    ap or_not_toml (cond-true (is_utf8 bytes) (parse_document bytes) None (is_utf8-from_IsUtf8 bytes utf8) ∙ parsed)

-- what was read of the table is the answer
field_answers : (due : Result Board (List ℕ)) (r : Result Board BoardErr) → Reads due r → Answers (or_field due) r
field_answers due (Ok board) h = ap or_field h
field_answers due (Err NoMemory) h = tt
field_answers due (Err NotToml) h = absurd h
field_answers due (Err (Field path)) h = ap or_field h

pub read_answers : (bytes : List ℕ) (file : Members) (r : Result Board BoardErr) → IsUtf8 bytes → parse_document bytes ≡ Some file → Reads (board_of file) r
    → Answers (board_in bytes) r
read_answers bytes file r utf8 parsed h =
    subst (λ (due : Result Board BoardErr). Answers due r) (sym (board_in-text bytes file utf8 parsed)) (field_answers (board_of file) r h)

-- bytes that are the text of no table
pub board_in-none : (bytes : List ℕ) → (IsUtf8 bytes → parse_document bytes ≡ None) → board_in bytes ≡ Err NotToml
unfolding board_in
board_in-none bytes none =
    ap or_not_toml (cond_both (is_utf8 bytes) (parse_document bytes) None
    (λ (o : Option Members). o ≡ None) (λ text. none (IsUtf8-from_is_utf8 bytes text)) (λ other. refl))

-- and it keeps the rules
pub read_rules : (file : Members) (r : Result Board BoardErr) → Reads (board_of file) r → IfOk r IsBoard
read_rules file (Ok board) h = is_board file board h
read_rules file (Err err) h = tt

pub ruleset meaning = (read_answers, read_rules, board_in-none)
