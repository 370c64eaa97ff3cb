-- The registers of a call: a7 is the number of what is asked for, a0 to a6 are its arguments, and
-- a0 gets the answer.
use Rattle.std.specs.Prelude.{ℕ, Bool, List, [], ◌∷◌, slice_index, if◌then◌else◌}
use Rattle.rv_core.specs.Hart.{HartState, register, with_register}
use Rattle.rv_core.specs.Registers.{a0, a1, a2, a3, a4, a5, a6, a7}
use Rattle.kernel_state.specs.Kernel.{thread, with_thread}
use Rattle.kernel_state.specs.declared.kernel.Kernel.{Kernel}

abbrev pub number_asked : HartState → ℕ
number_asked h = register h a7

abbrev pub arguments : HartState → List ℕ
arguments h =
    register h a0 ∷ register h a1 ∷ register h a2 ∷ register h a3 ∷ register h a4 ∷ register h a5
    ∷ register h a6 ∷ []

-- argument number i
abbrev pub arg : List ℕ → ℕ → ℕ
arg a i = slice_index a i

-- yes or no, as a word
abbrev pub flag : Bool → ℕ
flag b = if b then 1 else 0

-- the a0 of a thread is set
abbrev pub with_a0 : Kernel → ℕ → ℕ → Kernel
with_a0 k t value =
    with_thread k t (record (thread k t) { hart = with_register (thread k t).hart a0 value })
