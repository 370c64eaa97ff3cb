-- A halt ends its module and nothing of another's; a start writes its module's data alone.
use Rattle.std.specs.Prelude.{◌≡◌, ◌≢◌, ℕ, ◌<◌, true, false, List, [], None}
use Rattle.tx_types.specs.Limits.{slot_limit, module_limit}
use Rattle.flat_ram.specs.Laws.{IsOutside}
use Rattle.object_grants.specs.Slot.{owns, is_granted, without_grant}
use Rattle.object_grants.specs.Table.{slot}
use Rattle.module_loader.specs.Want.{want_of}
use Rattle.region_guard.specs.Memory.{Memory, IsSound as IsSoundMemory, may, byte}
use Rattle.region_guard.specs.declared.region.Access.TheVariants.{Store}
use Rattle.kernel_state.specs.Kernel.{thread, is_thread, module_of, spot}
use Rattle.kernel_state.specs.Room.{RaisesCounts}
use Rattle.kernel_state.specs.Serves.{Serves}
use Rattle.kernel_state.specs.Sound.{IsSound}
use Rattle.kernel_state.specs.Thread.{is_over}
use Rattle.kernel_state.specs.WaitCalls.{CallsWaits}
use Rattle.kernel_state.specs.declared.kernel.Kernel.{Kernel}
use Rattle.module_manager.specs.Halt.{AreOver, clearing, halted, threads_ended}
use Rattle.module_manager.specs.Modules.{module_at}
use Rattle.module_manager.specs.Start.{begun, start_row}
use Rattle.module_manager.specs.declared.modules.Module.{Module}

-- a halt completes or terminates no thread of another module
abbrev pub HaltSparesThreads : Type 0
HaltSparesThreads =
    (k : Kernel) (g : Memory) (m t : ℕ) → IsSound k → is_thread k t ≡ true → module_of k t ≢ m
    → let now = (halted k g m).kernel in
    (is_thread now t ≡ true) × (module_of now t ≡ module_of k t)
    × (is_over (thread now t).state ≡ is_over (thread k t).state)

-- it changes no byte
abbrev pub HaltKeepsMemory : Type 0
HaltKeepsMemory = (k : Kernel) (g : Memory) (m : ℕ) → (halted k g m).memory ≡ g

-- a slot that isn't the module's loses the module's grant, and nothing else
abbrev pub HaltSparesSlots : Type 0
HaltSparesSlots =
    (k : Kernel) (g : Memory) (m o : ℕ) → IsSound k → o < slot_limit
    → owns m (slot k.objects o) ≡ false
    → slot (halted k g m).kernel.objects o ≡ without_grant m (slot k.objects o)

-- where a kernel serves, it serves after a halt
abbrev pub HaltKeepsServing : Type 0
HaltKeepsServing =
    (k : Kernel) (g : Memory) (m : ℕ) → Serves k g
    → Serves (halted k g m).kernel (halted k g m).memory

-- so it does while its threads end, which are over then, and while its slots are freed
abbrev pub EndKeepsServing : Type 0
EndKeepsServing =
    (k : Kernel) (g : Memory) (m : ℕ) → Serves k g
    → let c = threads_ended k g m in
    Serves c.kernel c.memory × AreOver c.kernel m

abbrev pub ClearingKeepsServing : Type 0
ClearingKeepsServing =
    (k : Kernel) (g : Memory) (m o : ℕ) → Serves k g → AreOver k m
    → let c = clearing m k g o in
    Serves c.kernel c.memory × AreOver c.kernel m

-- the module owns no slot any more, is granted none, and has no callback thread
abbrev pub HaltEndsSlots : Type 0
HaltEndsSlots =
    (k : Kernel) (g : Memory) (m o : ℕ) → IsSound k
    → owns m (slot (halted k g m).kernel.objects o) ≡ false

abbrev pub HaltEndsGrants : Type 0
HaltEndsGrants =
    (k : Kernel) (g : Memory) (m o : ℕ) → IsSound k
    → is_granted m (slot (halted k g m).kernel.objects o) ≡ false

abbrev pub HaltEndsCallback : Type 0
HaltEndsCallback =
    (k : Kernel) (g : Memory) (m : ℕ) → IsSound k → m < module_limit
    → (spot (halted k g m).kernel m).callback ≡ None

-- making and starting the threads of a module changes no byte
abbrev pub BeginningKeepsMemory : Type 0
BeginningKeepsMemory = (k : Kernel) (g : Memory) (m : ℕ) (r : Module) → (begun k g m r).memory ≡ g

-- no start changes a region, or a byte outside of its module's data region
abbrev pub StartKeepsRegions : Type 0
StartKeepsRegions =
    (rows : List Module) (k : Kernel) (g : Memory) (m : ℕ)
    → (start_row rows k g m).change.memory.regions ≡ g.regions

abbrev pub StartWritesItsData : Type 0
StartWritesItsData =
    (rows : List Module) (k : Kernel) (g : Memory) (m x : ℕ) → IsSoundMemory g
    → 0 < (want_of (module_at rows m).preamble).data_bytes
    → may g m Store (module_at rows m).placed.data_base
    (want_of (module_at rows m).preamble).data_bytes ≡ true
    → IsOutside (module_at rows m).placed.data_base
    (want_of (module_at rows m).preamble).data_bytes x
    → byte (start_row rows k g m).change.memory x ≡ byte g x

-- a halt begins no wait and arms nothing, and ends waits by calls of their table alone
abbrev pub HaltRaisesNone : Type 0
HaltRaisesNone = (k : Kernel) (g : Memory) (m : ℕ) → RaisesCounts 0 k (halted k g m).kernel

abbrev pub HaltCallsWaits : Type 0
HaltCallsWaits = (k : Kernel) (g : Memory) (m : ℕ) → IsSound k → CallsWaits k (halted k g m)

-- a start begins and ends no wait, and arms and disarms nothing
abbrev pub StartKeepsWaits : Type 0
StartKeepsWaits =
    (rows : List Module) (k : Kernel) (g : Memory) (m : ℕ)
    → let c = (start_row rows k g m).change in
    (c.kernel.waits ≡ k.waits) × (c.kernel.wheel ≡ k.wheel) × (c.ends ≡ [])
