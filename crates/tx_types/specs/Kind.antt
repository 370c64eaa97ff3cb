-- The kinds of kernel objects and their numbers, which are this board's own.
use Rattle.std.specs.Prelude.{ℕ, List, [], ◌∷◌, ◌==◌, Option, find}
use Rattle.tx_types.specs.declared.kind.Kind.{Kind}
use Rattle.tx_types.specs.declared.kind.Kind.TheVariants.{Thread, Queue, Semaphore, Mutex, Events}
use Rattle.tx_types.specs.declared.kind.Kind.TheVariants.{BytePool, BlockPool, Timer}

abbrev pub kind_number : Kind → ℕ
kind_number Thread = 1
kind_number Queue = 2
kind_number Semaphore = 3
kind_number Mutex = 4
kind_number Events = 5
kind_number BytePool = 6
kind_number BlockPool = 7
kind_number Timer = 8

abbrev pub kinds : List Kind
kinds = Thread ∷ Queue ∷ Semaphore ∷ Mutex ∷ Events ∷ BytePool ∷ BlockPool ∷ Timer ∷ []

-- the kind of a number, where there is one
abbrev pub kind_of : ℕ → Option Kind
kind_of n = find (λ k. kind_number k == n) kinds
