-- Where the results of waits go that a change ends.
use Rattle.std.specs.Prelude.{◌≡◌, ℕ, ◌*◌, Bool, true, false, List, [], ◌∷◌, ◌++◌, All, filter, position}
use Rattle.std.specs.List.{flat_map}
use Rattle.std.specs.Option.{option_map_or}
use Rattle.tx_types.specs.End.{WaitEnd}
use Rattle.tx_types.specs.declared.waits.End.{End}
use Rattle.tx_types.specs.declared.waits.End.TheVariants.{Satisfied}
use Rattle.suspend_lists.specs.Laws.{has_number}
use Rattle.suspend_lists.specs.Waits.{wait_of}
use Rattle.suspend_lists.specs.declared.wait.Wait.{Wait}
use Rattle.kernel_state.specs.Contents.{result_words}
use Rattle.kernel_state.specs.Range.{Range, range}
use Rattle.kernel_state.specs.Waiting.{wanted_at}
use Rattle.kernel_state.specs.declared.kernel.Kernel.{Kernel}

-- where the result of a wait goes, and of a thread's wait
abbrev pub result_at : Kernel → Wait → List Range
result_at k w =
    option_map_or (λ to. range to (4 * result_words k.queues w.on) ∷ []) (wanted_at w.asks) []

abbrev pub result_range : Kernel → ℕ → List Range
result_range k t = option_map_or (result_at k) (wait_of k.waits t) []

-- a wait has a result where it ends as Satisfied, at the place that its thread asked
abbrev pub is_satisfied : End → Bool
is_satisfied Satisfied = true
is_satisfied _ = false

abbrev pub result_ranges : Kernel → List WaitEnd → List Range
result_ranges k ends =
    flat_map (λ d. option_map_or (result_range k) (position (has_number d.wait) k.waits.waits) [])
    (filter (λ d. is_satisfied d.how) ends)

-- where a change may write: in the results of the waits that it ends, and in its own ranges
abbrev pub change_ranges : Kernel → List WaitEnd → List Range → List Range
change_ranges k ends ranges = result_ranges k ends ++ ranges

-- where none of the waits that end is satisfied no result is written
abbrev pub UnsatisfiedWriteNone : Type 0
UnsatisfiedWriteNone =
    (k : Kernel) (ends : List WaitEnd) → All (λ d. is_satisfied d.how ≡ false) ends
    → result_ranges k ends ≡ []
