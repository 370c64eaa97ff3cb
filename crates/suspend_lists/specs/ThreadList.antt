-- Lists of threads.
use Rattle.std.specs.Prelude.{ℕ, ◌==◌, Bool, not, List, filter, slice_get, Option}
use Rattle.std.specs.List.{list_any, after_first}

-- whether a thread stands in a list
abbrev pub has : ℕ → List ℕ → Bool
has t ts = list_any (λ u. t == u) ts

-- the list without a thread: the others keep their order
abbrev pub without : ℕ → List ℕ → List ℕ
without t ts = filter (λ u. not (t == u)) ts

-- the thread that follows another one
abbrev pub next_after : ℕ → List ℕ → Option ℕ
next_after t ts = slice_get (after_first (λ u. t == u) ts) 0
