-- What is due for a list of words: a status and the text to be written, by the bytes that the files
-- hold.
use Rattle.std.specs.Prelude.{ℕ, false, List, [], Option, Some, None, Result, Ok, Err, codes}
use Rattle.module_loader.specs.Opening.{opening}
use Rattle.module_preamble.specs.Preamble.{preamble}
use Rattle.board_run.specs.Alone.{ram_alone, alone, alone_at}
use Rattle.board_run.specs.Check.{checked_at, check_text}
use Rattle.board_run.specs.Command.{Row, Hart, Check, Replay, row_of}
use Rattle.board_run.specs.Hart.{memory_ran, hart_text}
use Rattle.board_run.specs.Held.{image_at}
use Rattle.board_run.specs.Refusal.{refusal_line}
use Rattle.board_run.specs.Refused.{refused_image}
use Rattle.board_run.specs.Replay.{session_at, session_text}
use Rattle.board_run.specs.Step.{◌>>=◌}
use Rattle.board_run.specs.declared.hart.Ran.{Ran}
use Rattle.board_run.specs.declared.refusal.Stop.{Stop}
use Rattle.board_run.specs.declared.refusal.Stop.TheVariants.{ReadFault, Refused, NoMemory}
use Rattle.board_io.specs.declared.status.Status.{Status}
use Rattle.board_io.specs.declared.status.Status.TheVariants.{Done, Usage}
use Rattle.board_io.specs.declared.status.Status.TheVariants.{ReadFault as StatusReadFault}
use Rattle.board_io.specs.declared.status.Status.TheVariants.{Refused as StatusRefused}
use Rattle.board_io.specs.declared.status.Status.TheVariants.{NoMemory as StatusNoMemory}

-- the run of an image that lies alone, for at most the given number of instructions
unfoldable pub image_ran : ℕ → List ℕ → Result Ran Stop
image_ran most bytes = do
  p ← refused_image 0 (preamble bytes)
  let at = alone_at p in
      Ok (memory_ran most (alone ram_alone p at bytes) (opening p at p.start false))

unfoldable pub hart_ran : List ℕ → ℕ → (List ℕ → Option (List ℕ)) → Result Ran Stop
hart_ran name most at = do
  bytes ← image_at 0 name at
  image_ran most bytes

-- the text of a row of the command table
abbrev pub row_text : Row → (List ℕ → Option (List ℕ)) → Result (List ℕ) Stop
row_text (Hart name most) at = do
  r ← hart_ran name most at
  Ok (hart_text r)
row_text (Check name) at = do
  c ← checked_at name at
  Ok (check_text c)
row_text (Replay board log) at = do
  s ← session_at board log at
  Ok (session_text s)

-- what a call is to answer and to write
pub record Due : Type 0 where
  pub status : Status
  pub text : List ℕ

abbrev pub due_of : Result (List ℕ) Stop → Due
due_of (Ok text) = record { status = Done; text = text }
due_of (Err (Refused refusal)) = record { status = StatusRefused; text = refusal_line refusal }
due_of (Err ReadFault) = record { status = StatusReadFault; text = [] }
due_of (Err NoMemory) = record { status = StatusNoMemory; text = [] }

abbrev pub usage_line : List ℕ
usage_line =
    codes "usage: txboard hart IMAGE N | check BOARD | replay BOARD LOG | run BOARD | gen SEED\n"

abbrev pub row_due : Option Row → (List ℕ → Option (List ℕ)) → Due
row_due None at = record { status = Usage; text = usage_line }
row_due (Some row) at = due_of (row_text row at)

-- what is due for the words of a call
abbrev pub due : List (List ℕ) → (List ℕ → Option (List ℕ)) → Due
due words at = row_due (row_of words) at
