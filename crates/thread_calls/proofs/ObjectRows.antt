-- Each row of the services on object slots keeps what every row keeps.
use Rattle.std.proofs.Common.{refl, [], ◌∷◌, Some, position, All, lit<}
use Rattle.tx_types.specs.Code.{ptr_error, option_error, no_instance, no_memory}
use Rattle.tx_types.specs.Kind.{kind_of}
use Rattle.call_arguments.specs.Names.{name_at}
use Rattle.object_grants.specs.Laws.{Allocate, Deallocate, Grant}
use Rattle.object_grants.specs.Slot.{is_usable, is_own_empty, has_name}
use Rattle.object_grants.specs.Table.{named as names_slot, after_deallocate}
use Rattle.region_guard.specs.declared.region.Access.TheVariants.{Store}
use Rattle.kernel_state.specs.Change.{quiet}
use Rattle.kernel_state.specs.Kernel.{module_of}
use Rattle.kernel_state.specs.Range.{allowed, range}
use Rattle.kernel_state.specs.Registers.{arg}
use Rattle.kernel_state.specs.Row.{IsRow, row, row_to}
use Rattle.kernel_state.specs.Tests.{caller_refusal}
use Rattle.thread_calls.specs.ObjectRows.{allocation, granting, object_rows, object_allocate_row, object_deallocate_row, object_pointer_get_row}
use Rattle.thread_calls.proofs.Parts.{◌and◌, Parts, all_rows}
use Rattle.thread_calls.proofs.Tables.{slots_alone}

module _ (parts : Parts) where
  object_allocate_is_row : IsRow (row_to 1 4 0x01 object_allocate_row)
  unfolding object_allocate_row allocation
  object_allocate_is_row k g by a serves runs =
      let m = module_of k by in
      let r = allowed g m (range (arg a 1) 4 ∷ []) in
      parts.found_kind r k g by option_error (kind_of (arg a 0)) _ (λ kind at.
      parts.unless r k g by (caller_refusal k g by Store (arg a 1) 4) _ (λ free.
      parts.found r k g by no_memory (position is_usable k.objects) _ (λ o at.
      parts.written k g by _ m (arg a 1) (_ ∷ []) (lit< tt) free (λ calls. refl)
      (slots_alone parts.tables k _ _ by refl refl (record { call = Some (Allocate m kind); slots = refl; may = (refl, tt) })))))

  object_deallocate_is_row : IsRow (row 0x02 object_deallocate_row)
  unfolding object_deallocate_row
  object_deallocate_is_row k g by a serves runs =
      let m = module_of k by in
      parts.either [] k g by (names_slot k.objects (arg a 0) (is_own_empty m)) _ _
      (parts.done [] k g by (quiet (record k { objects = after_deallocate k.objects m (arg a 0) }) g) refl (λ calls. refl)
      (slots_alone parts.tables k _ _ by refl refl (record { call = Some (Deallocate m (arg a 0)); slots = refl; may = (refl, tt) })))
      (parts.answered [] k g by ptr_error)

  object_pointer_get_is_row : IsRow (row_to 2 4 0x03 object_pointer_get_row)
  unfolding object_pointer_get_row granting
  object_pointer_get_is_row k g by a serves runs =
      let m = module_of k by in
      let r = allowed g m (range (arg a 2) 4 ∷ []) in
      parts.found_kind r k g by option_error (kind_of (arg a 0)) _ (λ kind at.
      parts.given_name r k g by (name_at g m (arg a 1)) _ (λ name.
      parts.unless r k g by (caller_refusal k g by Store (arg a 2) 4) _ (λ free.
      parts.found r k g by no_instance (position (has_name kind name) k.objects) _ (λ o at.
      parts.written k g by _ m (arg a 2) (_ ∷ []) (lit< tt) free (λ calls. refl)
      (slots_alone parts.tables k _ _ by refl refl (record { call = Some (Grant m o); slots = refl; may = (refl, tt) }))))))

  pub object_rows_are_rows : All IsRow object_rows
  object_rows_are_rows =
      all_rows object_rows (
      object_allocate_is_row
      and object_deallocate_is_row
      and object_pointer_get_is_row
      and tt)
