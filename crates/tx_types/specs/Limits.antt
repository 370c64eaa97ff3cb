-- The limits of a board. Where no source is named, a limit is this board's own.
use Rattle.std.specs.Prelude.{ℕ, ◌+◌}

-- slots of kernel objects, threads among them
abbrev pub slot_limit : ℕ
slot_limit = 256

-- timeouts and timers that may be armed: one of each thread, and one of each timer object
abbrev pub timer_limit : ℕ
timer_limit = slot_limit + slot_limit

abbrev pub module_limit : ℕ
module_limit = 16

-- regions of memory
abbrev pub region_limit : ℕ
region_limit = 64

abbrev pub device_limit : ℕ
device_limit = 16

-- words of devices that wait in an inbox
abbrev pub inbox_limit : ℕ
inbox_limit = 256

-- places in memory that a report shows
abbrev pub show_limit : ℕ
show_limit = 16

-- words that one of them shows
abbrev pub cell_limit : ℕ
cell_limit = 64

-- priorities that a kernel may have: groups of so many, and so many at most (ThreadX User Guide,
-- TX_MAX_PRIORITIES)
abbrev pub priority_group : ℕ
priority_group = 32

abbrev pub priority_limit : ℕ
priority_limit = 1024

-- priorities that the board's kernel has
abbrev pub priority_count : ℕ
priority_count = 32

-- bytes of an object's name
abbrev pub name_limit : ℕ
name_limit = 31

-- words of a message (ThreadX User Guide, `tx_queue_create`)
abbrev pub message_limit : ℕ
message_limit = 16

-- steps and interrupts of a history
abbrev pub step_limit : ℕ
step_limit = 100000000

abbrev pub interrupt_limit : ℕ
interrupt_limit = 65536

-- bytes of a printed line
abbrev pub line_room : ℕ
line_room = 1280
