-- The status codes by their names in the ThreadX API (`tx_api.h`); INVALID_MEMORY is this board's
-- own, as in ThreadX Modules.
use Rattle.std.specs.Prelude.{ℕ}

abbrev pub success : ℕ
success = 0x00

abbrev pub deleted : ℕ
deleted = 0x01

abbrev pub pool_error : ℕ
pool_error = 0x02

abbrev pub ptr_error : ℕ
ptr_error = 0x03

abbrev pub size_error : ℕ
size_error = 0x05

abbrev pub group_error : ℕ
group_error = 0x06

abbrev pub no_events : ℕ
no_events = 0x07

abbrev pub option_error : ℕ
option_error = 0x08

abbrev pub queue_error : ℕ
queue_error = 0x09

abbrev pub queue_empty : ℕ
queue_empty = 0x0A

abbrev pub queue_full : ℕ
queue_full = 0x0B

abbrev pub semaphore_error : ℕ
semaphore_error = 0x0C

abbrev pub no_instance : ℕ
no_instance = 0x0D

abbrev pub thread_error : ℕ
thread_error = 0x0E

abbrev pub priority_error : ℕ
priority_error = 0x0F

abbrev pub no_memory : ℕ
no_memory = 0x10

-- the number of NO_MEMORY too
abbrev pub start_error : ℕ
start_error = 0x10

abbrev pub delete_error : ℕ
delete_error = 0x11

abbrev pub resume_error : ℕ
resume_error = 0x12

abbrev pub caller_error : ℕ
caller_error = 0x13

abbrev pub suspend_error : ℕ
suspend_error = 0x14

abbrev pub timer_error : ℕ
timer_error = 0x15

abbrev pub tick_error : ℕ
tick_error = 0x16

abbrev pub activate_error : ℕ
activate_error = 0x17

abbrev pub thresh_error : ℕ
thresh_error = 0x18

abbrev pub suspend_lifted : ℕ
suspend_lifted = 0x19

abbrev pub wait_aborted : ℕ
wait_aborted = 0x1A

abbrev pub wait_abort_error : ℕ
wait_abort_error = 0x1B

abbrev pub mutex_error : ℕ
mutex_error = 0x1C

abbrev pub not_available : ℕ
not_available = 0x1D

abbrev pub not_owned : ℕ
not_owned = 0x1E

abbrev pub inherit_error : ℕ
inherit_error = 0x1F

abbrev pub not_done : ℕ
not_done = 0x20

abbrev pub ceiling_exceeded : ℕ
ceiling_exceeded = 0x21

abbrev pub invalid_ceiling : ℕ
invalid_ceiling = 0x22

abbrev pub invalid_memory : ℕ
invalid_memory = 0xF4

abbrev pub feature_not_enabled : ℕ
feature_not_enabled = 0xFF
