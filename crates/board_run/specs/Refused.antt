-- What the layers below answer, as a step of a call: the value, or the refusal.
use Rattle.std.specs.Prelude.{ℕ, List, Option, None, Some, Result, Ok, Err}
use Rattle.board_core.specs.Run.{Origin}
use Rattle.board_core.specs.declared.boot.BootErr.{BootErr}
use Rattle.board_core.specs.declared.boot.BootErr.TheVariants as boot
use Rattle.board_file.specs.declared.board.Board.{Board}
use Rattle.board_file.specs.declared.refusal.BoardErr.{BoardErr}
use Rattle.board_file.specs.declared.refusal.BoardErr.TheVariants as board
use Rattle.event_log.specs.declared.entry.Entry.{Entry}
use Rattle.module_loader.specs.declared.placement.Placed.{Placed}
use Rattle.module_preamble.specs.declared.refusal.PreErr.{PreErr}
use Rattle.module_preamble.specs.declared.words.Preamble.{Preamble}
use Rattle.board_run.specs.declared.refusal.Refusal.TheVariants.{NotToml, Field, LogLine, Image}
use Rattle.board_run.specs.declared.refusal.Refusal.TheVariants.{Room}
use Rattle.board_run.specs.declared.refusal.Stop.{Stop}
use Rattle.board_run.specs.declared.refusal.Stop.TheVariants.{Refused, NoMemory}

-- a board
abbrev pub refused_board : Result Board BoardErr → Result Board Stop
refused_board (Ok b) = Ok b
refused_board (Err board.NotToml) = Err (Refused NotToml)
refused_board (Err (board.Field path)) = Err (Refused (Field path))
refused_board (Err board.NoMemory) = Err NoMemory

-- the preamble of the image of a number
abbrev pub refused_image : ℕ → Result Preamble PreErr → Result Preamble Stop
refused_image number (Ok p) = Ok p
refused_image number (Err err) = Err (Refused (Image number err))

-- the places of modules
abbrev pub refused_room : Result (List Placed) ℕ → Result (List Placed) Stop
refused_room (Ok places) = Ok places
refused_room (Err number) = Err (Refused (Room number))

-- the history of a log
abbrev pub refused_log : Result (List Entry) ℕ → Result (List Entry) Stop
refused_log (Ok history) = Ok history
refused_log (Err line) = Err (Refused (LogLine line))

-- where a board begins, if it is booted
abbrev pub refused_boot : Origin → Option BootErr → Result Origin Stop
refused_boot origin None = Ok origin
refused_boot origin (Some (boot.Image number err)) = Err (Refused (Image number err))
refused_boot origin (Some (boot.NoRoom number)) = Err (Refused (Room number))
refused_boot origin (Some boot.NoMemory) = Err NoMemory
