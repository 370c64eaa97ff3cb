-- A call of a command: its files and its sink, as they were and as they are, and how it may end.
use Rattle.std.specs.Prelude.{◌≡◌, ℕ, ◌≤◌, List, Option, IfSome, IfNone}
use Rattle.std.specs.Io.KnownBytes.{Appends, Keeps}
use Rattle.board_io.specs.Faults.{Rose}
use Rattle.board_io.specs.Sink.{AppendsPrefix}
use Rattle.board_io.specs.declared.status.Status.{Status}
use Rattle.board_io.specs.declared.status.Status.TheVariants.{ReadFault}

-- before and after: the bytes that are held under each name and those that were written, where that
-- is known, and the counts of faults of reading and of writing
pub record Call : Type 0 where
  pub held_old : Option (List ℕ → Option (List ℕ))
  pub held_new : Option (List ℕ → Option (List ℕ))
  pub read_old : ℕ
  pub read_new : ℕ
  pub written_old : Option (List ℕ)
  pub written_new : Option (List ℕ)
  pub wrote_old : ℕ
  pub wrote_new : ℕ

-- a call by what its files and its sink say of themselves
abbrev pub call : {F S : Type 0} → (F → Option (List ℕ → Option (List ℕ))) → (F → ℕ) → F → F
    → (S → Option (List ℕ)) → (S → ℕ) → S → S → Call
call held read files_old files_new written wrote sink_old sink_new = record {
  held_old = held files_old;
  held_new = held files_new;
  read_old = read files_old;
  read_new = read files_new;
  written_old = written sink_old;
  written_new = written sink_new;
  wrote_old = wrote sink_old;
  wrote_new = wrote sink_new;
}

-- the files' count of faults rose in the call, or the sink's
abbrev pub files_rose : Call → Type 0
files_rose c = Rose c.read_old c.read_new

abbrev pub sink_rose : Call → Type 0
sink_rose c = Rose c.wrote_old c.wrote_new

-- the text was written whole, or a prefix of it, or nothing
abbrev pub Writes : Call → List ℕ → Type 0
Writes c text = Appends c.written_old c.written_new text

abbrev pub WritesPrefix : Call → List ℕ → Type 0
WritesPrefix c text = AppendsPrefix c.written_old c.written_new text

abbrev pub WritesNothing : Call → Type 0
WritesNothing c = Keeps c.written_old c.written_new

-- what a command keeps, and how it ends, where it may answer so by what is due for the files
pub record Ended {D : Type 0} (may : D → Call → Status → Type 0)
    (due : (List ℕ → Option (List ℕ)) → D) (c : Call) (result : Status) : Type 0 where
  -- what the files hold stays, and no count falls
  pub held : c.held_new ≡ c.held_old
  pub read : c.read_old ≤ c.read_new
  pub written : c.wrote_old ≤ c.wrote_new
  -- by what is due, where it is known what the files hold
  pub answers : IfSome c.held_old (λ at. may (due at) c result)
  -- where that isn't known, a fault of reading was counted
  pub untold : IfNone c.held_old (result ≡ ReadFault → files_rose c)
