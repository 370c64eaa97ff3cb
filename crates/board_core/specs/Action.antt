-- The action of a device on a word: what an interrupt of it does.
use Rattle.std.specs.Prelude.{ℕ, List, [], position}
use Rattle.std.specs.List.{slice_index_or}
use Rattle.tx_types.specs.Code.{success, thread_error, feature_not_enabled}
use Rattle.tx_types.specs.End.{WaitEnd}
use Rattle.tx_types.specs.declared.kind.Kind.TheVariants.{Thread}
use Rattle.board_file.specs.declared.board.Action.{Action}
use Rattle.board_file.specs.declared.board.Action.TheVariants.{Resume, Tick}
use Rattle.board_file.specs.declared.board.Board.{Board}
use Rattle.board_file.specs.declared.board.BoardDevice.{BoardDevice}
use Rattle.object_grants.specs.Slot.{has_name}
use Rattle.kernel_state.specs.Change.{Change}
use Rattle.kernel_state.specs.Outcome.{Outcome, found}
use Rattle.kernel_state.specs.Ticks.{advanced}
use Rattle.kernel_state.specs.declared.answer.Answer.{Answer}
use Rattle.kernel_state.specs.declared.answer.Answer.TheVariants.{Code}
use Rattle.thread_calls.specs.ThreadRows.{resumption}
use Rattle.board_core.specs.Devices.{noted}
use Rattle.board_core.specs.Step.{with_change}
use Rattle.board_core.specs.declared.parts.Parts.{Parts}

-- what an action leaves, its status, and the waits that it ended
pub record Acted : Type 0 where
  pub parts : Parts
  pub status : ℕ
  pub ends : List WaitEnd  -- in order

-- a change of kernel and memory is an action; that of a service has its answer as status
abbrev pub status_of : Answer → ℕ
status_of (Code c) = c
status_of _ = 0

abbrev pub by_change : Parts → Change → ℕ → Acted
by_change p c status = record { parts = with_change p c; status = status; ends = c.ends }

abbrev pub by_service : Parts → Outcome → Acted
by_service p o = by_change p o.change (status_of o.answer)

-- the lowest thread of a name is resumed
unfoldable pub resumed_by_name : Parts → List ℕ → Acted
resumed_by_name p name =
    let k = p.kernel in
    let thread = position (has_name Thread name) k.objects in
    by_service p (found k p.memory thread_error thread (resumption k p.memory))

-- a tick of the clock
unfoldable pub clock_advanced : Parts → Acted
clock_advanced p = by_change p (advanced p.kernel p.memory) success

-- no other action is made yet
abbrev pub acted : Parts → Action → List ℕ → ℕ → Acted
acted p Tick target word = clock_advanced p
acted p Resume target word = resumed_by_name p target
acted p _ target word = record { parts = p; status = feature_not_enabled; ends = [] }

-- a device of the board
abbrev pub device_of : Board → ℕ → BoardDevice
device_of b d =
    slice_index_or b.devices d (record { name = []; action = Resume; target = []; script = [] })

-- an interrupt makes the action of its device, which keeps the status
abbrev pub action_made : Board → Parts → ℕ → ℕ → Acted
action_made b p d word = acted p (device_of b d).action (device_of b d).target word

abbrev pub interrupted : Board → Parts → ℕ → ℕ → Parts
interrupted b p d word =
    let o = action_made b p d word in
    record o.parts { devices = noted o.parts.devices d o.status }
