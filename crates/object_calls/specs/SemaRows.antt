-- The semaphore services, a row each: the refusals from left to right, then the change (ThreadX
-- User Guide, "Semaphore Services").
use Rattle.std.specs.Prelude.{ℕ, ◌+◌, ◌-◌, ◌%◌, ◌^◌, ◌==◌, nat_le, List, [], ◌∷◌, length, Option, None, Some, if◌then◌else◌}
use Rattle.std.specs.Option.{option_or}
use Rattle.tx_types.specs.Code.{semaphore_error, ceiling_exceeded, invalid_ceiling}
use Rattle.tx_types.specs.declared.kind.Kind.TheVariants.{Semaphore}
use Rattle.tx_types.specs.declared.waits.End.TheVariants.{Satisfied}
use Rattle.call_arguments.specs.Names.{name_at}
use Rattle.call_arguments.specs.Words.{with_words}
use Rattle.sync_objects.specs.Semas.{count_of, with_count}
use Rattle.region_guard.specs.Memory.{Memory}
use Rattle.region_guard.specs.declared.region.Access.TheVariants.{Store}
use Rattle.suspend_lists.specs.declared.wait.Asks.TheVariants.{Instance}
use Rattle.kernel_state.specs.Change.{Change, quiet}
use Rattle.kernel_state.specs.ContentLaws.{semaphore_placed}
use Rattle.kernel_state.specs.Kernel.{module_of}
use Rattle.kernel_state.specs.Objects.{first_waiter, prioritized, removed, waiters_of, waiting}
use Rattle.kernel_state.specs.Outcome.{Outcome, done, unless, found, given, refused}
use Rattle.kernel_state.specs.Registers.{arg}
use Rattle.kernel_state.specs.Row.{Row, row, row_to}
use Rattle.kernel_state.specs.Tests.{named, reserved, owner_refusal, caller_refusal}
use Rattle.kernel_state.specs.Waiting.{wait_ended}
use Rattle.kernel_state.specs.declared.kernel.Kernel.{Kernel}

unfoldable pub semaphore_create_row : Kernel → Memory → ℕ → List ℕ → Outcome
semaphore_create_row k g by a =
    found k g semaphore_error (reserved k by (arg a 0) Semaphore) (λ o.
    given k g (name_at g (module_of k by) (arg a 1)) (λ name.
    done (quiet (semaphore_placed k o name (arg a 2)) g)))

unfoldable pub semaphore_delete_row : Kernel → Memory → ℕ → List ℕ → Outcome
semaphore_delete_row k g by a =
    found k g semaphore_error (named k by (arg a 0) Semaphore) (λ o.
    unless k g (owner_refusal k by o) (done (removed k g o)))

-- a semaphore has another count
abbrev pub counted : Kernel → ℕ → ℕ → Kernel
counted k o n = record k { semas = with_count k.semas o n }

-- an instance is got where there is one
abbrev pub one_less : Kernel → ℕ → Kernel
one_less k o = counted k o (count_of k.semas o - 1)

unfoldable pub getting : Kernel → Memory → ℕ → ℕ → ℕ → Outcome
getting k g by o ticks =
    if count_of k.semas o == 0 then waiting k g by o Instance ticks
    else done (quiet (one_less k o) g)

unfoldable pub semaphore_get_row : Kernel → Memory → ℕ → List ℕ → Outcome
semaphore_get_row k g by a =
    found k g semaphore_error (named k by (arg a 0) Semaphore) (λ o. getting k g by o (arg a 1))

-- the first waiter gets the instance; else the count is one more, as a word
abbrev pub one_more : Kernel → ℕ → Kernel
one_more k o = counted k o ((count_of k.semas o + 1) % 2 ^ 32)

abbrev pub instance_to : Option ℕ → Kernel → Memory → ℕ → Change
instance_to (Some t) k g o = wait_ended k g t Satisfied []
instance_to None k g o = quiet (one_more k o) g

unfoldable pub instance_put : Kernel → Memory → ℕ → Change
instance_put k g o = instance_to (first_waiter k o) k g o

unfoldable pub semaphore_put_row : Kernel → Memory → ℕ → List ℕ → Outcome
semaphore_put_row k g by a =
    found k g semaphore_error (named k by (arg a 0) Semaphore) (λ o. done (instance_put k g o))

-- no further than a ceiling
abbrev pub ceiling_refusal : Kernel → ℕ → ℕ → Option ℕ
ceiling_refusal k o ceiling =
    option_or (refused (ceiling == 0) invalid_ceiling)
    (refused (nat_le ceiling (count_of k.semas o)) ceiling_exceeded)

unfoldable pub semaphore_ceiling_put_row : Kernel → Memory → ℕ → List ℕ → Outcome
semaphore_ceiling_put_row k g by a =
    found k g semaphore_error (named k by (arg a 0) Semaphore) (λ o.
    unless k g (ceiling_refusal k o (arg a 1)) (done (instance_put k g o)))

unfoldable pub semaphore_prioritize_row : Kernel → Memory → ℕ → List ℕ → Outcome
semaphore_prioritize_row k g by a =
    found k g semaphore_error (named k by (arg a 0) Semaphore) (λ o.
    done (quiet (prioritized k o) g))

-- what is read of a semaphore
abbrev pub semaphore_info : Kernel → ℕ → List ℕ
semaphore_info k o = count_of k.semas o ∷ length (waiters_of k o) ∷ []

unfoldable pub semaphore_info_get_row : Kernel → Memory → ℕ → List ℕ → Outcome
semaphore_info_get_row k g by a =
    found k g semaphore_error (named k by (arg a 0) Semaphore) (λ o.
    unless k g (caller_refusal k g by Store (arg a 1) 8)
    (done (quiet k (with_words g (arg a 1) (semaphore_info k o)))))

-- each by its number in a7, which is this board's own, with what it does and where it writes
abbrev pub semaphore_rows : List Row
semaphore_rows =
    row 0x30 semaphore_create_row
    ∷ row 0x31 semaphore_delete_row
    ∷ row 0x32 semaphore_get_row
    ∷ row 0x33 semaphore_put_row
    ∷ row 0x34 semaphore_ceiling_put_row
    ∷ row 0x35 semaphore_prioritize_row
    ∷ row_to 1 8 0x36 semaphore_info_get_row
    ∷ []
