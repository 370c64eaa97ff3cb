-- What no event writes: code, the data of a module whose thread doesn't run, and by a fault nothing.
use Rattle.std.proofs.Common.{◌≡◌, ◌≢◌, ◌⊎◌, ℕ, ◌+◌, ◌<◌, ◌≤◌, ◌==◌, ◌&&◌, Bool, true, false, nat_le, nat_lt, List, [], ◌∷◌, length, Option, None, Some, All}
use Rattle.std.proofs.Common.{refl, sym, ap, ◌∙◌, subst, ⊎_elim, inl, inr, get_or, arith}
use Rattle.std.proofs.lemmas.Bool.{and_cases, and_from, and_parts, cases_lt, cases_order, eqb-true, false≢true, leb-true, ltb-false, or_cases}
use Rattle.std.proofs.lemmas.List.{get_or_default}
use Rattle.std.proofs.lemmas.List.Elements.{All-append, All-cons, All-nil, Contains-append_cases, filter_passes}
use Rattle.std.proofs.lemmas.List.Folds.{Any-from_list_any}
use Rattle.std.proofs.lemmas.Nat.Bits.{bit_at-pow_other}
use Rattle.std.specs.List.{Contains, list_any}
use Rattle.flat_ram.specs.Laws.{IsOutside}
use Rattle.region_guard.specs.Memory.{Memory, IsSound as IsSoundMemory, may}
use Rattle.region_guard.specs.Region.{covers, gives, is_for, lets, meets}
use Rattle.region_guard.specs.declared.region.Access.TheVariants.{Store}
use Rattle.region_guard.specs.declared.region.Region.{Region}
use Rattle.rv_core.specs.Execute.{Effect, Completes, Stores, Calls, Faults}
use Rattle.rv_core.specs.Hart.{HartState}
use Rattle.event_log.specs.Events.{Event, Step, Irq}
use Rattle.kernel_state.specs.Kernel.{thread, is_thread, module_of}
use Rattle.kernel_state.specs.Laws.{RunningIsReady, ReadyIsThread}
use Rattle.kernel_state.specs.Thread.{is_over}
use Rattle.kernel_state.specs.declared.thread.Thread.{Thread}
use Rattle.kernel_state.specs.Registers.{arguments, number_asked}
use Rattle.kernel_state.specs.Range.{IsOutsideAll, Range}
use Rattle.kernel_state.specs.Results.{result_ranges}
use Rattle.call_dispatch.specs.Services.{row_asked, row_writes}
use Rattle.module_manager.specs.Laws.{HaltSparesThreads}
use Rattle.module_manager.specs.Modules.{module_at}
use Rattle.board_core.specs.Boot.{code_region, data_region}
use Rattle.board_core.specs.Bus.{seen}
use Rattle.board_core.specs.Frame.{effect_ranges, frame, own_ranges, step_ranges}
use Rattle.board_core.specs.Laws.{CodeIsInNoFrame, DataIsItsModules, FaultKeepsBytes, FaultSparesOthers, IsDataOf, IsResultOf, IsWorld, IsWriteOf, Writes}
use Rattle.board_core.specs.Step.{after_fault, next_effect, with_hart}
use Rattle.board_core.specs.Trace.{ends}
use Rattle.board_core.specs.declared.parts.Parts.{Parts}
use Rattle.board_core.specs.World.{World}
use Rattle.board_core.proofs.Effects.{IsAllowed, executed_allowed}
use Rattle.board_core.proofs.Frames.{Lower, event_within}
use Rattle.board_core.proofs.OwnedSlots.{same_or_other}
use Rattle.board_core.proofs.Regions.{module_stands}
use Rattle.board_core.proofs.ResultRanges.{All-contained, All-from_contains, IsIn, contains_none, in_or_outside, in_results, its_range, result_stored}
use Rattle.board_core.proofs.Running.{running_below, stepped_is, thread-with_hart}

-- one region ends before the other begins
abbrev AreApart : Region → Region → Type 0
AreApart r s = (r.base + r.size ≤ s.base) ⊎ (s.base + s.size ≤ r.base)

apart_from_meets : (r s : Region) → meets r s ≡ false → AreApart r s
apart_from_meets r s unmet =
    ⊎_elim (λ above. inr (ltb-false r.base (s.base + s.size) above)) (λ below. inl (ltb-false s.base (r.base + r.size) below))
    (and_cases (nat_lt r.base (s.base + s.size)) (nat_lt s.base (r.base + r.size)) unmet)

-- two regions of a sound memory are one, or apart
one_or_apart : (g : Memory) (r s : Region) → IsSoundMemory g → Contains g.regions r → Contains g.regions s → (r ≡ s) ⊎ AreApart r s
one_or_apart g r s sound in_r in_s =
    let i = in_r.0 in
    let j = in_s.0 in
    let at_s : get_or g.regions j r ≡ s = get_or_default g.regions j r s in_s.1 ∙ in_s.2 in
    ⊎_elim
    (λ (same : i ≡ j). inl (sym in_r.2 ∙ ap (λ n. get_or g.regions n r) same ∙ at_s))
    (λ order. inr (⊎_elim
    (λ (before : i < j).
    let unmet = subst (λ q. meets q r ≡ false) at_s (subst (λ q. meets (get_or g.regions j r) q ≡ false) in_r.2 (sound.apart i j r before in_s.1)) in
    ⊎_elim (λ s_first. inr s_first) (λ r_first. inl r_first) (apart_from_meets s r unmet))
    (λ (behind : j < i).
    apart_from_meets r s (subst (λ q. meets r q ≡ false) at_s (subst (λ q. meets q (get_or g.regions j r) ≡ false) in_r.2 (sound.apart j i r behind in_r.1))))
    order))
    (cases_order i j)

outside_of_covered : (r s : Region) (a n x : ℕ) → covers s a n ≡ true → r.base ≤ x → x < r.base + r.size → AreApart r s → IsOutside a n x
outside_of_covered r s a n x covered from to apart =
    let ends = and_parts (nat_le s.base a) (nat_le (a + n) (s.base + s.size)) covered in
    let low = leb-true s.base a ends.0 in
    let high = leb-true (a + n) (s.base + s.size) ends.1 in
    ⊎_elim (λ r_first. inl (omega arith)) (λ s_first. inr (omega arith)) apart

-- whether a region lets a module store
abbrev lets_store : ℕ → Region → Bool
lets_store m r = gives r.rights Store && is_for m r

-- an address of a region is in no range that may be stored by a module to which the region gives no store
region_is_outside : (g : Memory) (m a n x : ℕ) (r : Region) → IsSoundMemory g → may g m Store a n ≡ true
    → Contains g.regions r → lets_store m r ≡ false → r.base ≤ x → x < r.base + r.size → IsOutside a n x
region_is_outside g m a n x r sound allowed stands no_store from to =
    ⊎_elim
    (λ empty. let none = eqb-true n 0 empty in ⊎_elim (λ before. inl before) (λ behind. inr (omega arith)) (cases_lt x a))
    (λ reached.
    let found = Any-from_list_any (lets m Store a n) g.regions reached in
    let s = found.1 in
    let by_module = and_parts (covers s a n && gives s.rights Store) (is_for m s) found.4 in
    let by_rights = and_parts (covers s a n) (gives s.rights Store) by_module.0 in
    ⊎_elim
    (λ (same : r ≡ s).
    let store = and_from (gives s.rights Store) (is_for m s) by_rights.1 by_module.1 in
    absurd (false≢true (sym no_store ∙ subst (λ q. lets_store m q ≡ true) (sym same) store)))
    (λ apart. outside_of_covered r s a n x by_rights.0 from to apart)
    (one_or_apart g r s sound stands (found.0, found.2, found.3)))
    (or_cases (n == 0) (list_any (lets m Store a n) g.regions) allowed)

-- the frame of a step may be stored by the module of the thread that runs
abbrev MayStore : Memory → ℕ → List Range → Type 0
MayStore g m ranges = All (λ r. may g m Store r.base r.size ≡ true) ranges

none_stored : (g : Memory) (m : ℕ) → MayStore g m []
none_stored g m = All-nil (λ (r : Range). may g m Store r.base r.size ≡ true)

one_stored : (g : Memory) (m : ℕ) (r : Range) → may g m Store r.base r.size ≡ true → MayStore g m (r ∷ [])
one_stored g m r allowed = All-cons (λ (s : Range). may g m Store s.base s.size ≡ true) r [] allowed (none_stored g m)

call_stored : (w : World) (t : ℕ) (h : HartState) → IsWorld w → t < 256
    → MayStore w.parts.memory (module_of w.parts.kernel t) (effect_ranges w.parts t (Calls h))
call_stored w t h world below =
    let k = with_hart w.parts.kernel t h in
    let g = w.parts.memory in
    let m = module_of k t in
    let same : m ≡ module_of w.parts.kernel t = ap (λ (u : Thread). u.module) (thread-with_hart w.parts.kernel t h world.serves.sound below) in
    subst (λ m. MayStore g m (effect_ranges w.parts t (Calls h))) same
    (filter_passes (λ r. may g m Store r.base r.size) (row_writes (row_asked (number_asked h)) k t (arguments h)))

effect_stored : (w : World) (t : ℕ) (e : Effect) → IsWorld w → t < 256 → IsAllowed (seen (module_of w.parts.kernel t) w.parts.memory) e
    → MayStore w.parts.memory (module_of w.parts.kernel t) (effect_ranges w.parts t e)
effect_stored w t (Completes h) world below allowed = none_stored w.parts.memory (module_of w.parts.kernel t)
effect_stored w t (Stores a n value h) world below allowed = one_stored w.parts.memory (module_of w.parts.kernel t) (record { base = a; size = n }) allowed.1
effect_stored w t (Calls h) world below allowed = call_stored w t h world below
effect_stored w t (Faults cause) world below allowed = none_stored w.parts.memory (module_of w.parts.kernel t)

-- an address of a region that gives the running thread's module no store is in no range of a step
step_spares : RunningIsReady → ReadyIsThread → (w : World) (run : Option ℕ) (r : Region) (x : ℕ) → IsWorld w → w.parts.kernel.ready.run ≡ run
    → Contains w.parts.memory.regions r → ((t : ℕ) → run ≡ Some t → lets_store (module_of w.parts.kernel t) r ≡ false)
    → r.base ≤ x → x < r.base + r.size → IsOutsideAll (step_ranges w.parts run) x
step_spares is_ready is_thread w None r x world runs stands no_store from to = All-nil (λ (s : Range). IsOutside s.base s.size x)
step_spares is_ready is_thread w (Some t) r x world runs stands no_store from to =
    let m = module_of w.parts.kernel t in
    let below = running_below is_ready is_thread w.parts.kernel t world.serves.sound runs in
    let stored = effect_stored w t (next_effect w.parts t) world below (executed_allowed (seen m w.parts.memory) (thread w.parts.kernel t).hart) in
    λ k d within. region_is_outside w.parts.memory m _ _ x r world.memory (stored k d within) stands (no_store t refl) from to

own_spares : RunningIsReady → ReadyIsThread → (w : World) (e : Event) (r : Region) (x : ℕ) → IsWorld w
    → Contains w.parts.memory.regions r → ((t : ℕ) → w.parts.kernel.ready.run ≡ Some t → lets_store (module_of w.parts.kernel t) r ≡ false)
    → r.base ≤ x → x < r.base + r.size → IsOutsideAll (own_ranges w e) x
own_spares is_ready is_thread w Step r x world stands no_store from to =
    step_spares is_ready is_thread w w.parts.kernel.ready.run r x world refl stands no_store from to
own_spares is_ready is_thread w (Irq d word) r x world stands no_store from to = All-nil (λ (s : Range). IsOutside s.base s.size x)

-- and where the region gives no module a store, it is in no result
results_spare : (w : World) (e : Event) (r : Region) (x : ℕ) → IsWorld w → Contains w.parts.memory.regions r → ((m : ℕ) → lets_store m r ≡ false)
    → r.base ≤ x → x < r.base + r.size → IsOutsideAll (result_ranges w.parts.kernel (ends w e)) x
results_spare w e r x world stands no_store from to =
    let k = w.parts.kernel in
    All-from_contains (λ (s : Range). IsOutside s.base s.size x) (result_ranges k (ends w e)) (λ s among.
    let result = in_results k (ends w e) s among in
    let stored = result_stored k w.parts.memory (ends w e) s world.serves result in
    region_is_outside w.parts.memory (module_of k result.waiter) s.base s.size x r world.memory stored stands (no_store (module_of k result.waiter)) from to)

-- the regions of a module in memory
pub module_in_memory : (w : World) (m : ℕ) → IsWorld w → m < length w.parts.modules
    → Contains w.parts.memory.regions (code_region m (module_at w.parts.modules m)) × Contains w.parts.memory.regions
    (data_region m (module_at w.parts.modules m))
module_in_memory w m world below =
    subst (λ rs. Contains rs (code_region m (module_at w.parts.modules m)) × Contains rs (data_region m (module_at w.parts.modules m))) (sym world.regions)
    (module_stands w.parts.modules 0 m m (omega arith) below)

pub code_is_in_no_frame : RunningIsReady → ReadyIsThread → CodeIsInNoFrame
code_is_in_no_frame is_ready is_thread w e m x world code =
    let r = code_region m (module_at w.parts.modules m) in
    let stands = (module_in_memory w m world code.0).0 in
    All-append (λ (s : Range). IsOutside s.base s.size x) (result_ranges w.parts.kernel (ends w e)) (own_ranges w e)
    (results_spare w e r x world stands (λ n. refl) code.1 code.2) (own_spares is_ready is_thread w e r x world stands (λ t runs. refl) code.1 code.2)

-- no other module has the bit of one
other_bit : (m n : ℕ) → n ≢ m → lets_store n (data_region m (module_at [] 0)) ≡ false
other_bit m n other = ap (λ b. b == 1) (bit_at-pow_other m n other)

-- an address in a range is not outside of it
not_outside : (r : Range) (x : ℕ) → r.base ≤ x → x < r.base + r.size → IsOutside r.base r.size x → ⊥
not_outside r x from to outside = ⊎_elim (λ before. omega (arith, before)) (λ behind. omega (arith, behind)) outside

-- an event's own range that has an address of a module's data is of a store or a call of that module
written_by : (p : Parts) (t : ℕ) (e : Effect) (r : Range) → Contains (effect_ranges p t e) r → Writes e
written_by p t (Completes h) r among = absurd (contains_none r among)
written_by p t (Stores a n value h) r among = tt
written_by p t (Calls h) r among = tt
written_by p t (Faults cause) r among = absurd (contains_none r among)

step_writes : RunningIsReady → ReadyIsThread → (w : World) (m x : ℕ) (run : Option ℕ) → IsWorld w → w.parts.kernel.ready.run ≡ run → IsDataOf w m x
    → IsIn (step_ranges w.parts run) x → (t : ℕ) × (run ≡ Some t) × (module_of w.parts.kernel t ≡ m) × Writes (next_effect w.parts t)
step_writes is_ready is_thread w m x None world runs own inside = absurd (contains_none inside.0 inside.1)
step_writes is_ready is_thread w m x (Some t) world runs own inside =
    let r = data_region m (module_at w.parts.modules m) in
    ⊎_elim (λ (same : module_of w.parts.kernel t ≡ m). (t, refl, same, written_by w.parts t (next_effect w.parts t) inside.0 inside.1))
    (λ other.
    let outside =
    step_spares is_ready is_thread w (Some t) r x world runs (module_in_memory w m world own.0).1
    (λ u runs_too.
    let same : t ≡ u = cc in
    subst (λ v. lets_store (module_of w.parts.kernel v) r ≡ false) same (other_bit m (module_of w.parts.kernel t) other))
    own.1 own.2 in
    let there = All-contained (λ (s : Range). IsOutside s.base s.size x) (step_ranges w.parts (Some t)) inside.0 outside inside.1 in
    absurd (not_outside inside.0 x inside.2 inside.3 there))
    (same_or_other (module_of w.parts.kernel t) m)

own_writes : RunningIsReady → ReadyIsThread → (w : World) (e : Event) (m x : ℕ) → IsWorld w → IsDataOf w m x → IsIn (own_ranges w e) x → IsWriteOf w m e
own_writes is_ready is_thread w Step m x world own inside = step_writes is_ready is_thread w m x w.parts.kernel.ready.run world refl own inside
own_writes is_ready is_thread w (Irq d word) m x world own inside = absurd (contains_none inside.0 inside.1)

-- and a result that has it is of a call of that module
result_is_its_modules : (w : World) (e : Event) (m x : ℕ) → IsWorld w → IsDataOf w m x → IsIn (result_ranges w.parts.kernel (ends w e)) x
    → IsResultOf w m x e
result_is_its_modules w e m x world own inside =
    let k = w.parts.kernel in
    let s = inside.0 in
    let r = data_region m (module_at w.parts.modules m) in
    let result = in_results k (ends w e) s inside.1 in
    let n = module_of k result.waiter in
    let stored = result_stored k w.parts.memory (ends w e) s world.serves result in
    record {
      waiter = result.waiter;
      «module» =
          ⊎_elim (λ same. same)
          (λ other.
          absurd (not_outside s x inside.2 inside.3
          (region_is_outside w.parts.memory n s.base s.size x r world.memory stored (module_in_memory w m world own.0).1 (other_bit m n other) own.1 own.2)))
          (same_or_other n m);
      number = result.number;
      its_number = result.its_number;
      satisfied = result.satisfied;
      to = s;
      its_place = its_range k (ends w e) s result;
      from_base = inside.2;
      to_end = inside.3;
    }

pub data_is_its_modules : Lower → DataIsItsModules
data_is_its_modules lower w e m x world own changed =
    let results = result_ranges w.parts.kernel (ends w e) in
    ⊎_elim
    (λ inside.
    ⊎_elim (λ among. inr (result_is_its_modules w e m x world own (inside.0, among, inside.2, inside.3)))
    (λ among. inl (own_writes lower.is_ready lower.is_thread w e m x world own (inside.0, among, inside.2, inside.3)))
    (Contains-append_cases results (own_ranges w e) inside.0 inside.1))
    (λ outside. absurd (changed ((event_within lower w e world).bytes x outside)))
    (in_or_outside (frame w e) x)

-- a fault
pub fault_spares_others : HaltSparesThreads → FaultSparesOthers
unfolding after_fault
fault_spares_others spares w t u cause world faults is other =
    let k = w.parts.kernel in
    let kept = spares k w.parts.memory (module_of k t) u world.serves.sound is other in
    subst (λ (p : Parts). (is_thread p.kernel u ≡ true) × (is_over (thread p.kernel u).state ≡ is_over (thread k u).state))
    (sym (stepped_is w.parts t (Faults cause) faults.0 faults.1)) (kept.0, kept.2)

pub fault_keeps_bytes : Lower → FaultKeepsBytes
unfolding after_fault
fault_keeps_bytes lower w t cause faults =
    ap (λ (p : Parts). p.memory) (stepped_is w.parts t (Faults cause) faults.0 faults.1)
    ∙ lower.halt w.parts.kernel w.parts.memory (module_of w.parts.kernel t)
