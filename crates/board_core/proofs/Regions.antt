-- The regions of modules: they stay, and each module has its own.
use Rattle.std.proofs.Common.{◌≡◌, ℕ, zero, suc, ◌+◌, ◌<◌, List, [], ◌∷◌, length, Option, None, Some, refl, ap, subst, arith}
use Rattle.std.specs.List.{Contains}
use Rattle.rv_core.specs.Execute.{Effect, Completes, Stores, Calls, Faults}
use Rattle.region_guard.specs.declared.region.Region.{Region}
use Rattle.event_log.specs.Events.{Event, Step, Irq}
use Rattle.module_manager.specs.Modules.{module_at, with_state}
use Rattle.module_manager.specs.declared.modules.Module.{Module}
use Rattle.module_manager.specs.declared.modules.ModuleState.{ModuleState}
use Rattle.board_core.specs.Boot.{code_region, data_region, regions_of}
use Rattle.board_core.specs.Laws.{RegionsStay}
use Rattle.board_file.specs.declared.board.Action.{Action}
use Rattle.board_file.specs.declared.board.Action.TheVariants.{Resume, Tick}
use Rattle.board_core.specs.Action.{acted, clock_advanced, device_of, resumed_by_name}
use Rattle.board_core.specs.After.{after}
use Rattle.board_core.specs.Step.{after_effect, after_fault, next_effect, stepped, stepped_by}
use Rattle.board_core.specs.World.{World}
use Rattle.board_core.specs.declared.parts.Parts.{Parts}
use Rattle.board_core.proofs.Frames.{Lower, event_within}

-- what holds of the modules, and also with another state of one of them, holds of them after an event
pub effect_modules : (p : Parts) (t : ℕ) (e : Effect) (P : List Module → Type 0) → P p.modules
    → ((m : ℕ) (state : ModuleState) → P (with_state p.modules m state)) → P (after_effect p t e).modules
unfolding after_fault
effect_modules p t (Completes h) P same changed = same
effect_modules p t (Stores a n value h) P same changed = same
effect_modules p t (Calls h) P same changed = same
effect_modules p t (Faults cause) P same changed = changed _ _

step_modules : (p : Parts) (run : Option ℕ) (P : List Module → Type 0) → P p.modules
    → ((m : ℕ) (state : ModuleState) → P (with_state p.modules m state)) → P (stepped_by p run).modules
step_modules p None P same changed = same
step_modules p (Some t) P same changed = effect_modules p t (next_effect p t) P same changed

pub acted_modules : (p : Parts) (action : Action) (target : List ℕ) (word : ℕ) (P : List Module → Type 0) → P p.modules
    → ((m : ℕ) (state : ModuleState) → P (with_state p.modules m state)) → P (acted p action target word).parts.modules
unfolding clock_advanced resumed_by_name
acted_modules p Tick target word P same changed = same
acted_modules p Resume target word P same changed = same
acted_modules p _ target word P same changed = same

pub event_modules : (w : World) (e : Event) (P : List Module → Type 0) → P w.parts.modules
    → ((m : ℕ) (state : ModuleState) → P (with_state w.parts.modules m state)) → P (after w e).parts.modules
unfolding stepped
event_modules w Step P same changed = step_modules w.parts w.parts.kernel.ready.run P same changed
event_modules w (Irq d word) P same changed =
    acted_modules w.parts (device_of w.board d).action (device_of w.board d).target word P same changed

-- no region is of a state
regions_of-with_state : (i : ℕ) (ms : List Module) (m : ℕ) (state : ModuleState) → regions_of i (with_state ms m state) ≡ regions_of i ms
regions_of-with_state i [] m state = refl
regions_of-with_state i (r ∷ rs) zero state = refl
regions_of-with_state i (r ∷ rs) (suc m) state =
    ap (λ (others : List Region). code_region i r ∷ data_region i r ∷ others) (regions_of-with_state (i + 1) rs m state)

pub regions_stay : Lower → RegionsStay
regions_stay lower w e world = (
  (event_within lower w e world).regions,
  event_modules w e (λ ms. regions_of 0 ms ≡ regions_of 0 w.parts.modules) refl (λ m state. regions_of-with_state 0 w.parts.modules m state),
)

-- what stands in a list stands after two more
behind_two : (xs : List Region) (x y z : Region) → Contains xs x → Contains (y ∷ z ∷ xs) x
behind_two xs x y z stands = (suc (suc stands.0), omega (arith, stands.1), stands.2)

-- the code region and the data region of each module stand among the regions
pub module_stands : (ms : List Module) (i j m : ℕ) → j ≡ i + m → m < length ms
    → Contains (regions_of i ms) (code_region j (module_at ms m)) × Contains (regions_of i ms) (data_region j (module_at ms m))
module_stands [] i j m number below = absurd (omega (arith, below))
module_stands (r ∷ rs) i j zero number below =
    let here : i ≡ j = omega arith in
    subst (λ n. Contains (regions_of i (r ∷ rs)) (code_region n r) × Contains (regions_of i (r ∷ rs)) (data_region n r)) here
    ((0, omega arith, refl), (1, omega arith, refl))
module_stands (r ∷ rs) i j (suc m) number below =
    let back = λ (x : Region). behind_two (regions_of (i + 1) rs) x (code_region i r) (data_region i r) in
    let stands = module_stands rs (i + 1) j m (omega arith) (omega (arith, below)) in
    (back (code_region j (module_at rs m)) stands.0, back (data_region j (module_at rs m)) stands.1)
