-- The tests that services share: what a reference names, and why a pointer or a delete is refused.
use Rattle.std.specs.Prelude.{ℕ, not, Option}
use Rattle.tx_types.specs.Code.{caller_error}
use Rattle.tx_types.specs.declared.kind.Kind.{Kind}
use Rattle.object_grants.specs.Slot.{is_empty_for, is_live_for, owns}
use Rattle.object_grants.specs.Table.{named_slot, slot}
use Rattle.call_arguments.specs.Pointers.{pointer_refusal}
use Rattle.region_guard.specs.Memory.{Memory}
use Rattle.region_guard.specs.declared.region.Access.{Access}
use Rattle.kernel_state.specs.Kernel.{module_of}
use Rattle.kernel_state.specs.Outcome.{refused}
use Rattle.kernel_state.specs.declared.kernel.Kernel.{Kernel}

-- the Live object of a kind that a reference names, where the caller's module owns it or was
-- granted it
abbrev pub named : Kernel → ℕ → ℕ → Kind → Option ℕ
named k by r kind = named_slot k.objects r (is_live_for (module_of k by) kind)

-- the Empty slot of a kind that a reference names, where it is the caller's module's own
abbrev pub reserved : Kernel → ℕ → ℕ → Kind → Option ℕ
reserved k by r kind = named_slot k.objects r (is_empty_for (module_of k by) kind)

-- an object is deleted by its owner alone
abbrev pub owner_refusal : Kernel → ℕ → ℕ → Option ℕ
owner_refusal k by o = refused (not (owns (module_of k by) (slot k.objects o))) caller_error

-- a pointer of the caller's
abbrev pub caller_refusal : Kernel → Memory → ℕ → Access → ℕ → ℕ → Option ℕ
caller_refusal k g by access x n = pointer_refusal g (module_of k by) access x n
