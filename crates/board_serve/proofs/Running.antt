-- Devices at work, one after another.
use Rattle.std.proofs.Common.{◌≡◌, ℕ, ◌<◌, List, [], ◌∷◌, ◌++◌, Some, length, slice_get, slice_index_or, sym, refl, ap, ◌∙◌, subst}
use Rattle.atomic_table.specs.Seated.{TableId}
use Rattle.board_file.specs.declared.board.BoardDevice.{BoardDevice}
use Rattle.board_file.specs.declared.board.Action.TheVariants.{Resume}
use Rattle.irq_inbox.specs.Seen.{DevSeen, AreAllOf}
use Rattle.board_serve.specs.Raised.{IsRunning, AreRunning}
use Rattle.board_serve.specs.Scripts.{script_of}
use Rattle.board_serve.specs.declared.device.Device.{Device}
use Rattle.board_serve.proofs.Lists.{same_there, index_stands, inside}

-- by equal names for the same inbox, number and script
pub running_as : (v : Device) (i j : TableId) (n m : ℕ) (s t : List ℕ) → i ≡ j → n ≡ m → s ≡ t → IsRunning i n s v → IsRunning j m t v
running_as v i j n m s t e f h r =
    subst (λ x. IsRunning j m x v) h (subst (λ x. IsRunning j x s v) f (subst (λ x. IsRunning x n s v) e r))

-- the pass after some others stands at their number
stands : (before : List DevSeen) (p : DevSeen) (rest : List DevSeen) → slice_get (before ++ p ∷ rest) (length before) ≡ Some p
stands [] p rest = refl
stands (x ∷ xs) p rest = stands xs p rest

-- a pass after some others is of the inbox, and of the device whose turn it is
pub next_of : (inbox : TableId) (n : ℕ) (passes before rest : List DevSeen) (p : DevSeen) → AreAllOf inbox n passes → before ++ p ∷ rest ≡ passes
    → (p.inbox ≡ inbox) × (p.number ≡ length before)
next_of inbox n passes before rest p all e = all.1 (length before) p (ap (λ l. slice_get l (length before)) (sym e) ∙ stands before p rest)

-- the script of the device that stands at a place
pub script_here : (devices : List BoardDevice) (k d : ℕ) (v : BoardDevice) → k ≡ d → d < length devices
    → (slice_index_or devices k v).script ≡ script_of devices d
script_here devices k d v at lt =
    ap (λ j. (slice_index_or devices j v).script) at ∙ ap
    (λ (x : BoardDevice). x.script) (same_there devices d v (record { name = []; action = Resume; target = []; script = [] }) lt)

-- a device at work after some others
pub device_next : (inbox : TableId) (devices : List BoardDevice) (working before rest : List Device) (v : Device) → AreRunning inbox devices working
    → before ++ v ∷ rest ≡ working → IsRunning inbox (length before) (script_of devices (length before)) v
device_next inbox devices working before rest v run e =
    let lt = inside working before rest v e in
    let is = ap (λ l. slice_index_or l (length before) v) (sym e) ∙ index_stands before v v rest in
    subst (λ x. IsRunning inbox (length before) (script_of devices (length before)) x) is (run.1 (length before) v lt)
