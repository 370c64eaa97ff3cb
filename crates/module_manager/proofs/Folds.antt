-- A change that is made for each number in turn.
use Rattle.std.proofs.Common.{◌≡◌, ℕ, zero, suc, ◌+◌, ◌<◌, refl, ◌∙◌, arith, add-one}
use Rattle.region_guard.specs.Memory.{Memory}
use Rattle.kernel_state.specs.Change.{Change, quiet}
use Rattle.kernel_state.specs.declared.kernel.Kernel.{Kernel}
use Rattle.module_manager.specs.Halt.{each_below, for_each_slot, one_more}

-- the first of no number, and that of one more
abbrev pub changed_below : ℕ → (Kernel → Memory → ℕ → Change) → Kernel → Memory → Change
changed_below n change k g = each_below n (one_more change) (quiet k g)

pub changed_below_none : (change : Kernel → Memory → ℕ → Change) (k : Kernel) (g : Memory) → changed_below 0 change k g ≡ quiet k g
unfolding each_below
changed_below_none change k g = refl

pub changed_below_more : (n : ℕ) (change : Kernel → Memory → ℕ → Change) (k : Kernel) (g : Memory)
    → changed_below (n + 1) change k g ≡ one_more change (changed_below n change k g) n
unfolding each_below
changed_below_more n change k g = rw add-one

-- what a change brings from each number to the next
pub each_below_keeps : {A : Type 0} (P : ℕ → A → Type 0) (change : A → ℕ → A) (n : ℕ) → ((i : ℕ) (x : A) → i < n → P i x → P (suc i) (change x i)) → (x : A)
    → P 0 x → P n (each_below n change x)
unfolding each_below
each_below_keeps P change zero step x first = first
each_below_keeps P change (suc n) step x first =
    step n (each_below n change x) (omega arith) (each_below_keeps P change n (λ i y below. step i y (omega arith)) x first)

-- so it is over all slots, of kernels and memory
pub for_each_slot_keeps : (P : ℕ → Kernel → Type 0) (change : Kernel → Memory → ℕ → Change)
    → ((i : ℕ) (k : Kernel) (g : Memory) → i < 256 → P i k → P (suc i) (change k g i).kernel)
    → (k : Kernel) (g : Memory) → P 0 k → P 256 (for_each_slot change k g).kernel
for_each_slot_keeps P change step k g first =
    each_below_keeps (λ i (c : Change). P i c.kernel) (one_more change) 256 (λ i c below. step i c.kernel c.memory below) (quiet k g) first

pub for_each_slot_memory : (change : Kernel → Memory → ℕ → Change) → ((k : Kernel) (g : Memory) (i : ℕ) → (change k g i).memory ≡ g)
    → (k : Kernel) (g : Memory) → (for_each_slot change k g).memory ≡ g
for_each_slot_memory change step k g =
    each_below_keeps (λ i (c : Change). c.memory ≡ g) (one_more change) 256 (λ i c below same. step c.kernel c.memory i ∙ same) (quiet k g) refl

pub for_each_slot_both : (P : ℕ → Kernel → Memory → Type 0) (change : Kernel → Memory → ℕ → Change)
    → ((i : ℕ) (k : Kernel) (g : Memory) → i < 256 → P i k g → P (suc i) (change k g i).kernel (change k g i).memory)
    → (k : Kernel) (g : Memory) → P 0 k g → P 256 (for_each_slot change k g).kernel (for_each_slot change k g).memory
for_each_slot_both P change step k g first =
    each_below_keeps (λ i (c : Change). P i c.kernel c.memory) (one_more change) 256 (λ i c below. step i c.kernel c.memory below) (quiet k g) first
