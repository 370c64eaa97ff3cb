-- A start writes its module's data region alone, and leaves waits and timeouts.
use Rattle.std.proofs.Common.{◌≡◌, ℕ, List, [], replicate, refl, sym, subst}
use Rattle.std.proofs.lemmas.Bool.{cond_both}
use Rattle.std.proofs.lemmas.List.{length-replicate}
use Rattle.flat_ram.specs.Laws.{IsOutside}
use Rattle.module_loader.specs.Want.{want_of}
use Rattle.module_preamble.specs.Words.{has_callback}
use Rattle.region_guard.specs.Laws.{BytesOutsideStay, UsedIsInRam}
use Rattle.region_guard.specs.Memory.{Memory, byte}
use Rattle.region_guard.specs.declared.region.Access.TheVariants.{Store}
use Rattle.kernel_state.specs.Change.{Change}
use Rattle.kernel_state.specs.declared.kernel.Kernel.{Kernel}
use Rattle.module_manager.specs.Laws.{BeginningKeepsMemory, StartKeepsRegions, StartKeepsWaits, StartWritesItsData}
use Rattle.module_manager.specs.Modules.{module_at}
use Rattle.module_manager.specs.Start.{StartOutcome, begun, begun_alone, begun_both, can_start, start_row, zeroed}
use Rattle.module_manager.specs.declared.modules.Module.{Module}

-- making and starting threads changes no byte
pub beginning_keeps_memory : BeginningKeepsMemory
unfolding begun_both begun_alone
beginning_keeps_memory k g m r =
    cond_both (has_callback r.preamble) _ _ (λ (c : Change). c.memory ≡ g) (λ _. refl) (λ _. refl)

-- what holds of the memory that stays, and of the one with its data region zeroed
by_start : (rows : List Module) (k : Kernel) (g : Memory) (m : ℕ) (P : Memory → Type 0) → P (zeroed g (module_at rows m)) → P g
    → P (start_row rows k g m).change.memory
unfolding start_row
by_start rows k g m P after before =
    cond_both (can_start k (module_at rows m)) _ _ (λ (o : StartOutcome). P o.change.memory)
    (λ _. subst P (sym (beginning_keeps_memory k (zeroed g (module_at rows m)) m (module_at rows m))) after) (λ _. before)

pub start_keeps_regions : StartKeepsRegions
start_keeps_regions rows k g m = by_start rows k g m (λ (now : Memory). now.regions ≡ g.regions) refl refl

pub start_writes_its_data : UsedIsInRam → BytesOutsideStay → StartWritesItsData
start_writes_its_data in_ram outside rows k g m x sound some own out =
    let r = module_at rows m in
    let n = (want_of r.preamble).data_bytes in
    let lies = in_ram g m Store r.placed.data_base n sound some own in
    by_start rows k g m (λ (now : Memory). byte now x ≡ byte g x)
    (outside g (replicate n 0) r.placed.data_base x lies.from_base (subst (λ i. IsOutside r.placed.data_base i x) (sym (length-replicate n 0)) out)) refl

beginning_keeps_waits : (k : Kernel) (g : Memory) (m : ℕ) (r : Module) → let c = begun k g m r in
    (c.kernel.waits ≡ k.waits) × (c.kernel.wheel ≡ k.wheel) × (c.ends ≡ [])
unfolding begun_both begun_alone
beginning_keeps_waits k g m r =
    cond_both (has_callback r.preamble) _ _ (λ (c : Change). (c.kernel.waits ≡ k.waits) × (c.kernel.wheel ≡ k.wheel) × (c.ends ≡ []))
    (λ _. (refl, refl, refl)) (λ _. (refl, refl, refl))

pub start_keeps_waits : StartKeepsWaits
unfolding start_row
start_keeps_waits rows k g m =
    let r = module_at rows m in
    cond_both (can_start k r) _ _ (λ (o : StartOutcome). (o.change.kernel.waits ≡ k.waits) × (o.change.kernel.wheel ≡ k.wheel) × (o.change.ends ≡ []))
    (λ _. beginning_keeps_waits k (zeroed g r) m r) (λ _. (refl, refl, refl))
