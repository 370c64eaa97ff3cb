-- A history of a board's devices stays one as events are added.
use Rattle.std.proofs.Common.{ℕ, zero, suc, ◌+◌, List, [], ◌∷◌, All, arith}
use Rattle.std.proofs.lemmas.List.Elements.{All-cons, All-head, All-nil, All-tail}
use Rattle.event_log.specs.Log.{IsEntry, stepped, with_step, with_steps}
use Rattle.event_log.specs.declared.entry.Entry.{Entry}
use Rattle.event_log.specs.declared.entry.Entry.TheVariants.{Steps, Irq}

abbrev pub AreEntries : ℕ → List Entry → Type 0
AreEntries devices es = All (IsEntry devices) es

stepped_entry : (devices : ℕ) (e : Entry) → IsEntry devices e → AreEntries devices (stepped e)
stepped_entry devices (Steps n) some = All-cons (IsEntry devices) (Steps (n + 1)) [] (omega arith) (All-nil (IsEntry devices))
stepped_entry devices (Irq d w) its =
    All-cons (IsEntry devices) (Irq d w) (Steps 1 ∷ []) its (All-cons (IsEntry devices) (Steps 1) [] (omega arith) (All-nil (IsEntry devices)))

step_entries : (devices : ℕ) (es : List Entry) → AreEntries devices es → AreEntries devices (with_step es)
step_entries devices [] all = All-cons (IsEntry devices) (Steps 1) [] (omega arith) (All-nil (IsEntry devices))
step_entries devices (e ∷ []) all = stepped_entry devices e (All-head (IsEntry devices) e [] all)
step_entries devices (e ∷ f ∷ es) all =
    All-cons (IsEntry devices) e (with_step (f ∷ es)) (All-head (IsEntry devices) e (f ∷ es) all)
    (step_entries devices (f ∷ es) (All-tail (IsEntry devices) e (f ∷ es) all))

pub steps_entries : (devices n : ℕ) (es : List Entry) → AreEntries devices es → AreEntries devices (with_steps n es)
steps_entries devices zero es all = all
steps_entries devices (suc n) es all = steps_entries devices n (with_step es) (step_entries devices es all)
