-- What is kept of devices: how many interrupts of each were taken, and the status of its last
-- action.
use Rattle.std.specs.Prelude.{ℕ, ◌+◌, List, slice_set}
use Rattle.std.specs.List.{slice_index_or}
use Rattle.board_core.specs.declared.devices.Device.{Device}

-- nothing was taken of a device yet
abbrev pub fresh_device : Device
fresh_device = record { taken = 0; last = 0 }

abbrev pub device_at : List Device → ℕ → Device
device_at ds d = slice_index_or ds d fresh_device

-- one interrupt more was taken of a device, and its action had this status
abbrev pub noted : List Device → ℕ → ℕ → List Device
noted ds d status = slice_set ds d (record { taken = (device_at ds d).taken + 1; last = status })
