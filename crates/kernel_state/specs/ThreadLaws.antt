-- Each change of a thread's state keeps a kernel sound, and one that serves, serving.
use Rattle.std.specs.Prelude.{◌≡◌, ◌⊎◌, ℕ, Bool, true, false, List}
use Rattle.tx_types.specs.declared.state.State.{State}
use Rattle.tx_types.specs.declared.state.State.TheVariants.{Ready, Completed, Terminated, Suspended}
use Rattle.ready_maps.specs.Sched.{is_ready}
use Rattle.region_guard.specs.Memory.{Memory}
use Rattle.kernel_state.specs.Change.{Change}
use Rattle.kernel_state.specs.Kernel.{thread, is_thread}
use Rattle.kernel_state.specs.Serves.{Serves}
use Rattle.kernel_state.specs.Sound.{IsSound, IsSoundBut}
use Rattle.kernel_state.specs.Thread.{is_over, is_state, is_waiting}
use Rattle.kernel_state.specs.Readying.{made_ready, made_unready}
use Rattle.kernel_state.specs.ThreadChanges.{with_fresh, with_held, started, suspended, ended}
use Rattle.kernel_state.specs.ThreadChanges.{reset}
use Rattle.kernel_state.specs.declared.kernel.Kernel.{Kernel}

-- a thread that neither is ready nor waits becomes ready
abbrev pub ReadyKeepsSound : Type 0
ReadyKeepsSound =
    (but : List ℕ) (k : Kernel) (t : ℕ) → IsSoundBut but k → is_thread k t ≡ true
    → is_ready k.ready t ≡ false
    → is_waiting (thread k t).state ≡ false → IsSoundBut but (made_ready k t)

-- a ready thread is suspended, or ends
abbrev pub UnreadyKeepsSound : Type 0
UnreadyKeepsSound =
    (but : List ℕ) (k : Kernel) (t : ℕ) (state : State) → IsSoundBut but k → is_thread k t ≡ true
    → is_ready k.ready t ≡ true → is_state state Ready ≡ false → is_waiting state ≡ false
    → IsSoundBut but (made_unready k t state)

-- a thread that waits is suspended at the end of its wait, or isn't any more
abbrev pub HeldKeepsSound : Type 0
HeldKeepsSound =
    (but : List ℕ) (k : Kernel) (t : ℕ) (held : Bool) → IsSoundBut but k → is_thread k t ≡ true
    → (held ≡ true → is_waiting (thread k t).state ≡ true) → IsSoundBut but (with_held k t held)

abbrev pub FreshKeepsSound : Type 0
FreshKeepsSound =
    (but : List ℕ) (k : Kernel) (t : ℕ) (fresh : Bool) → IsSoundBut but k → is_thread k t ≡ true
    → IsSoundBut but (with_fresh k t fresh)

-- a thread ends, whether it waits or not
abbrev pub EndKeepsSound : Type 0
EndKeepsSound =
    (k : Kernel) (g : Memory) (t : ℕ) (state : State) → IsSound k → is_thread k t ≡ true
    → (state ≡ Completed) ⊎ (state ≡ Terminated) → IsSound (ended k g t state).kernel

-- what a change leaves serves
abbrev pub Leaves : Change → Type 0
Leaves c = Serves c.kernel c.memory

abbrev pub StartKeepsServing : Type 0
StartKeepsServing =
    (k : Kernel) (g : Memory) (t : ℕ) → Serves k g → is_thread k t ≡ true
    → is_state (thread k t).state Suspended ≡ true → Leaves (started k g t)

abbrev pub SuspendKeepsServing : Type 0
SuspendKeepsServing =
    (k : Kernel) (g : Memory) (t : ℕ) → Serves k g → is_thread k t ≡ true → Leaves (suspended k g t)

abbrev pub EndKeepsServing : Type 0
EndKeepsServing =
    (k : Kernel) (g : Memory) (t : ℕ) (state : State) → Serves k g → is_thread k t ≡ true
    → (state ≡ Completed) ⊎ (state ≡ Terminated) → Leaves (ended k g t state)

abbrev pub ResetKeepsServing : Type 0
ResetKeepsServing =
    (k : Kernel) (g : Memory) (t : ℕ) → Serves k g → is_thread k t ≡ true
    → is_over (thread k t).state ≡ true → Leaves (reset k g t)
