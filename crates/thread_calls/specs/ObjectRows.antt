-- The services on object slots, a row each (ThreadX Modules User Guide, "Module APIs": object
-- allocation and search).
use Rattle.std.specs.Prelude.{ℕ, List, [], ◌∷◌, position, if◌then◌else◌}
use Rattle.tx_types.specs.Code.{ptr_error, option_error, no_instance, no_memory}
use Rattle.tx_types.specs.Kind.{kind_of}
use Rattle.tx_types.specs.declared.kind.Kind.{Kind}
use Rattle.call_arguments.specs.Names.{name_at}
use Rattle.call_arguments.specs.Words.{with_word}
use Rattle.object_grants.specs.Slot.{is_usable, is_own_empty, has_name}
use Rattle.object_grants.specs.Table.{ref_of, named as names_slot, after_allocate, after_deallocate}
use Rattle.object_grants.specs.Table.{after_grant}
use Rattle.region_guard.specs.Memory.{Memory}
use Rattle.region_guard.specs.declared.region.Access.TheVariants.{Store}
use Rattle.kernel_state.specs.Kernel.{module_of}
use Rattle.kernel_state.specs.Change.{quiet}
use Rattle.kernel_state.specs.Outcome.{Outcome, answered, done, unless, found, given}
use Rattle.kernel_state.specs.Registers.{arg}
use Rattle.kernel_state.specs.Row.{Row, row, row_to}
use Rattle.kernel_state.specs.Tests.{caller_refusal}
use Rattle.kernel_state.specs.declared.kernel.Kernel.{Kernel}

-- the lowest usable slot is allocated, and its reference is written
unfoldable pub allocation : Kernel → Memory → ℕ → Kind → ℕ → Outcome
allocation k g by kind to =
    let now = record k { objects = after_allocate k.objects (module_of k by) kind } in
    found k g no_memory (position is_usable k.objects)
    (λ o. done (quiet now (with_word g to (ref_of now.objects o))))

unfoldable pub object_allocate_row : Kernel → Memory → ℕ → List ℕ → Outcome
object_allocate_row k g by a =
    found k g option_error (kind_of (arg a 0)) (λ kind.
    unless k g (caller_refusal k g by Store (arg a 1) 4) (allocation k g by kind (arg a 1)))

unfoldable pub object_deallocate_row : Kernel → Memory → ℕ → List ℕ → Outcome
object_deallocate_row k g by a =
    let m = module_of k by in
    if names_slot k.objects (arg a 0) (is_own_empty m)
    then done (quiet (record k { objects = after_deallocate k.objects m (arg a 0) }) g)
    else answered k g ptr_error

-- the caller's module is granted an object, and its reference is written
unfoldable pub granting : Kernel → Memory → ℕ → ℕ → ℕ → Outcome
granting k g by o to =
    done (quiet (record k { objects = after_grant k.objects (module_of k by) o })
    (with_word g to (ref_of k.objects o)))

unfoldable pub object_pointer_get_row : Kernel → Memory → ℕ → List ℕ → Outcome
object_pointer_get_row k g by a =
    found k g option_error (kind_of (arg a 0)) (λ kind.
    given k g (name_at g (module_of k by) (arg a 1)) (λ name.
    unless k g (caller_refusal k g by Store (arg a 2) 4)
    (found k g no_instance (position (has_name kind name) k.objects)
    (λ o. granting k g by o (arg a 2)))))

-- each by its number in a7, which is this board's own, with what it does and where it writes
abbrev pub object_rows : List Row
object_rows =
    row_to 1 4 0x01 object_allocate_row
    ∷ row 0x02 object_deallocate_row
    ∷ row_to 2 4 0x03 object_pointer_get_row
    ∷ []
