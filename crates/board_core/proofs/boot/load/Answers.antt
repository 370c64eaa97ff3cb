use Rattle.std.proofs.Common.{◌≡◌, ◌+◌, ◌<◌, ◌∷◌, [], ℕ, List, All, Option, None, IfSome, length, map, refl, ap, subst, sym, ◌∙◌, ⊎_elim, arith}
use Rattle.std.specs.Option.{option_map}
use Rattle.std.proofs.lemmas.Bool.{cases_lt}
use Rattle.std.proofs.lemmas.List.{get_or-replicate, get_or_past, length-map, length-replicate}
use Rattle.std.proofs.lemmas.List.Elements.{All-nil}
use Rattle.soft_timers.specs.Timers.{IsRunning}
use Rattle.soft_timers.specs.declared.due.Armed.{Armed}
use Rattle.suspend_lists.specs.Waits.{new_table, pending, wait_of}
use Rattle.suspend_lists.specs.declared.wait.Pending.{Pending}
use Rattle.suspend_lists.specs.declared.wait.Wait.{Wait}
use Rattle.msg_queues.specs.Entry.{Queue}
use Rattle.object_grants.specs.Table.{slot}
use Rattle.object_grants.specs.declared.slot.Slot.{Slot}
use Rattle.region_guard.specs.Memory.{Memory}
use Rattle.kernel_state.specs.Contents.{ArePromised, IsPromised}
use Rattle.kernel_state.specs.Kernel.{blank_kernel}
use Rattle.kernel_state.specs.declared.kernel.Kernel.{Kernel}
use Rattle.module_loader.specs.declared.placement.Placed.{Placed}
use Rattle.module_manager.specs.Modules.{IsPlaced, loaded}
use Rattle.module_manager.specs.declared.modules.Module.{Module}
use Rattle.module_preamble.specs.declared.words.Preamble.{Preamble}
use Rattle.board_core.specs.Boot.{contents, with_spots}
use Rattle.board_core.specs.Laid.{AreImagesOf}
use Rattle.board_core.proofs.LoadingSteps.{as_many, rows_placed}
use Rattle.board_core.proofs.boot.load.Goals as goal

abbrev ArePlaced : List (Preamble × Placed) → Type 0
ArePlaced rows = All (λ r. IsPlaced r.0 r.1) rows

pub kernel_with-requires-clause-placed : goal.kernel_with-requires-clause-placed
kernel_with-requires-clause-placed c =
    let made = c.in_ok-rows.ensures in
    let placed = subst (λ (ms : List Module). All (λ m. IsPlaced m.preamble m.placed) ms) (sym made.rows) made.loaded.laid.placed in
    subst ArePlaced (sym c.deref-2.ensures.value) (rows_placed c.in_ok-rows.rows.items placed)

pub new-requires-clause-placed : goal.new-requires-clause-placed
new-requires-clause-placed c =
    let made = c.in_ok-rows.ensures in
    let placed = subst (λ (ms : List Module). All (λ m. IsPlaced m.preamble m.placed) ms) (sym made.rows) made.loaded.laid.placed in
    subst ArePlaced (sym c.deref-3.ensures.value) (rows_placed c.in_ok-rows.rows.items placed)

pub returns-clause-count : goal.returns-clause-count
returns-clause-count c =
    let rows = c.in_ok-rows.rows.items in
    let made = c.in_ok-rows.ensures in
    let theirs = subst (λ (ms : List Module). AreImagesOf ms (contents c.args.images.now)) (sym made.rows) made.loaded.images_of in
    ap (λ (ms : List Module). length ms) (c.in_ok-modules.ensures ∙ ap (map loaded) c.deref-3.ensures.value)
    ∙ (length-map rows loaded ∙ (as_many c.args.images.now rows theirs ∙ c.requires.images))

-- no spot of a module begins a wait or arms a timeout
spots_wheel : (i : ℕ) (ms : List Module) (k : Kernel) → (with_spots i ms k).wheel ≡ k.wheel
spots_wheel i [] k = refl
spots_wheel i (m ∷ ms) k = spots_wheel (i + 1) ms _

spots_waits : (i : ℕ) (ms : List Module) (k : Kernel) → (with_spots i ms k).waits ≡ k.waits
spots_waits i [] k = refl
spots_waits i (m ∷ ms) k = spots_waits (i + 1) ms _

-- where nothing waits nothing is promised
abbrev no_pending : Option Pending
no_pending = None

nobody_waits : (t : ℕ) → wait_of new_table t ≡ None
nobody_waits t = ap (option_map (λ (p : Pending). p.wait)) none where
  none : pending new_table t ≡ None
  none =
      ⊎_elim (λ (below : t < 256). get_or-replicate 256 t no_pending None below)
      (λ past. get_or_past new_table.waits t None (omega (arith, past, length-replicate 256 no_pending))) (cases_lt t 256)

none_promised : (g : Memory) (objects : List Slot) (queues : List (Option Queue)) → ArePromised g objects queues new_table
none_promised g objects queues t = subst (λ (o : Option Wait). IfSome o (IsPromised g (slot objects t).owner queues)) (sym (nobody_waits t)) tt

pub returns-clause-serves : goal.returns-clause-serves
returns-clause-serves c =
    let made = c.in_ok-kernel.ensures in
    let none : IsRunning blank_kernel.wheel = All-nil (λ (e : Armed). 0 < e.expiry) in
    let ms = map loaded c.deref-2.result.now in
    let wheel = ap (λ (k : Kernel). k.wheel) made.spots ∙ spots_wheel 0 ms blank_kernel in
    let waits = ap (λ (k : Kernel). k.waits) made.spots ∙ spots_waits 0 ms blank_kernel in
    let k = c.in_ok-kernel.kernel in
    record {
      sound = made.sound;
      running = subst IsRunning (sym wheel) none;
      promised = subst (ArePromised c.in_ok-memory.memory k.objects k.queues) (sym waits) (none_promised c.in_ok-memory.memory k.objects k.queues);
    }
