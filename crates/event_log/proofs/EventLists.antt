-- The events of a history that grows.
use Rattle.std.proofs.Common.{◌≡◌, ℕ, zero, suc, ◌+◌, cond, not, List, [], ◌∷◌, ◌++◌, replicate, refl, sym, ap, ◌∙◌, arith, append_assoc, append-nil}
use Rattle.std.specs.List.{count_by, sum_by}
use Rattle.std.proofs.lemmas.List.{replicate_more}
use Rattle.std.proofs.lemmas.List.Folds.{sum_by-replicate}
use Rattle.std.proofs.lemmas.List.Sums.{sum_by-append, sum_by-cons, sum_by_push}
use Rattle.std.proofs.lemmas.Grind.{flat_map-append}
use Rattle.event_log.specs.Events.{Step, Irq, events_in, events_of, words_in, words_of}
use Rattle.event_log.specs.Log.{is_irq, irq_count, step_count, steps_in, stepped, with_step, with_steps}
use Rattle.event_log.specs.Plain.{is_step}
use Rattle.event_log.specs.declared.entry.Entry.{Entry}
use Rattle.event_log.specs.declared.entry.Entry.TheVariants as entry

events-stepped : (e : Entry) → events_of (stepped e) ≡ events_in e ++ Step ∷ []
events-stepped (entry.Steps n) = append-nil (replicate (n + 1) Step) ∙ sym (replicate_more n Step)
events-stepped (entry.Irq d w) = refl

-- a step more is one event more
pub events-with_step : (es : List Entry) → events_of (with_step es) ≡ events_of es ++ Step ∷ []
events-with_step [] = refl
events-with_step (e ∷ []) = events-stepped e ∙ ap (λ xs. xs ++ Step ∷ []) (sym (append-nil (events_in e)))
events-with_step (e ∷ f ∷ es) =
    ap (λ xs. events_in e ++ xs) (events-with_step (f ∷ es)) ∙ sym (append_assoc (events_in e) (events_of (f ∷ es)) (Step ∷ []))

-- n steps more are n events more
pub events-with_steps : (n : ℕ) (es : List Entry) → events_of (with_steps n es) ≡ events_of es ++ replicate n Step
events-with_steps zero es = sym (append-nil (events_of es))
events-with_steps (suc n) es =
    events-with_steps n (with_step es)
    ∙ ap (λ xs. xs ++ replicate n Step) (events-with_step es)
    ∙ append_assoc (events_of es) (Step ∷ []) (replicate n Step)

-- an interrupt more is one event more
pub events-irq : (d w : ℕ) (es : List Entry) → events_of (es ++ entry.Irq d w ∷ []) ≡ events_of es ++ Irq d w ∷ []
events-irq d w es = flat_map-append events_in es (entry.Irq d w ∷ [])

words-stepped : (device : ℕ) (e : Entry) → words_of device (stepped e) ≡ words_in device e ++ []
words-stepped device (entry.Steps n) = refl
words-stepped device (entry.Irq d w) = refl

-- a step more is no word of a device
pub words-with_step : (device : ℕ) (es : List Entry) → words_of device (with_step es) ≡ words_of device es
words-with_step device [] = refl
words-with_step device (e ∷ []) = words-stepped device e
words-with_step device (e ∷ f ∷ es) = ap (λ xs. words_in device e ++ xs) (words-with_step device (f ∷ es))

-- nor are n steps more
pub words-with_steps : (n device : ℕ) (es : List Entry) → words_of device (with_steps n es) ≡ words_of device es
words-with_steps zero device es = refl
words-with_steps (suc n) device es = words-with_steps n device (with_step es) ∙ words-with_step device es

-- an interrupt more is one word more of its device
pub words-irq : (device d w : ℕ) (es : List Entry)
    → words_of device (es ++ entry.Irq d w ∷ []) ≡ words_of device es ++ words_in device (entry.Irq d w)
words-irq device d w es =
    flat_map-append (words_in device) es (entry.Irq d w ∷ [])
    ∙ ap (λ xs. words_of device es ++ xs) (append-nil (words_in device (entry.Irq d w)))

-- a sum over a history with a step more
with_step-sum : (f : Entry → ℕ) (k : ℕ) (es : List Entry) → ((n : ℕ) → f (entry.Steps (n + 1)) ≡ f (entry.Steps n) + k) → f (entry.Steps 0) ≡ 0
    → sum_by f (with_step es) ≡ sum_by f es + k
with_step-sum f k [] up none = omega (arith, up 0, none, sum_by-cons f (entry.Steps 1) [])
with_step-sum f k (entry.Steps n ∷ []) up none =
    omega (arith, up n, sum_by-cons f (entry.Steps n) [], sum_by-cons f (entry.Steps (n + 1)) [])
with_step-sum f k (entry.Irq d w ∷ []) up none =
    omega (arith, up 0, none, sum_by-append f (entry.Irq d w ∷ []) (entry.Steps 1 ∷ []), sum_by-cons f (entry.Steps 1) [])
with_step-sum f k (e ∷ g ∷ es) up none =
    omega (arith, sum_by-cons f e (with_step (g ∷ es)), sum_by-cons f e (g ∷ es), with_step-sum f k (g ∷ es) up none)

-- a step more is counted once, and is no interrupt
pub step_count-with_step : (es : List Entry) → step_count (with_step es) ≡ step_count es + 1
step_count-with_step es = with_step-sum steps_in 1 es (λ n. refl) refl

pub irq_count-with_step : (es : List Entry) → irq_count (with_step es) ≡ irq_count es
irq_count-with_step es = with_step-sum _ 0 es (λ n. refl) refl ∙ omega arith

-- n steps more are counted n times, and are no interrupts
pub step_count-with_steps : (n : ℕ) (es : List Entry) → step_count (with_steps n es) ≡ step_count es + n
step_count-with_steps zero es = omega arith
step_count-with_steps (suc n) es = omega (arith, step_count-with_steps n (with_step es), step_count-with_step es)

pub irq_count-with_steps : (n : ℕ) (es : List Entry) → irq_count (with_steps n es) ≡ irq_count es
irq_count-with_steps zero es = refl
irq_count-with_steps (suc n) es = irq_count-with_steps n (with_step es) ∙ irq_count-with_step es

-- steps may be added in two parts
pub with_steps-parts : (m n : ℕ) (es : List Entry) → with_steps (m + n) es ≡ with_steps n (with_steps m es)
with_steps-parts zero n es = let k : 0 + n ≡ n = omega arith in rw k
with_steps-parts (suc m) n es = let k : suc m + n ≡ suc (m + n) = omega arith in rw k (with_steps-parts m n (with_step es))

pub step_count-irq : (d w : ℕ) (es : List Entry) → step_count (es ++ entry.Irq d w ∷ []) ≡ step_count es
step_count-irq d w es = sum_by_push steps_in es (entry.Irq d w) ∙ omega arith

pub irq_count-irq : (d w : ℕ) (es : List Entry) → irq_count (es ++ entry.Irq d w ∷ []) ≡ irq_count es + 1
irq_count-irq d w es = sum_by_push _ es (entry.Irq d w)

-- the events of a history are as many steps and interrupts as it counts
steps-in : (e : Entry) → count_by is_step (events_in e) ≡ steps_in e
steps-in (entry.Steps n) = sum_by-replicate _ n Step ∙ omega arith
steps-in (entry.Irq d w) = refl

irqs-in : (e : Entry) → count_by (λ v. not (is_step v)) (events_in e) ≡ irq_count (e ∷ [])
irqs-in (entry.Steps n) = sum_by-replicate _ n Step ∙ omega arith
irqs-in (entry.Irq d w) = refl

pub steps-made : (es : List Entry) → count_by is_step (events_of es) ≡ step_count es
steps-made [] = refl
steps-made (e ∷ es) =
    omega (
      arith,
      sum_by-append (λ v. cond (is_step v) 1 0) (events_in e) (events_of es),
      sum_by-cons steps_in e es,
      steps-in e,
      steps-made es,
    )

pub irqs-made : (es : List Entry) → count_by (λ v. not (is_step v)) (events_of es) ≡ irq_count es
irqs-made [] = refl
irqs-made (e ∷ es) =
    omega (
      arith,
      sum_by-append (λ v. cond (not (is_step v)) 1 0) (events_in e) (events_of es),
      sum_by-append (λ x. cond (is_irq x) 1 0) (e ∷ []) es,
      irqs-in e,
      irqs-made es,
    )

pub ruleset one_more = (events-with_step, events-irq, step_count-with_step, irq_count-with_step, step_count-irq, irq_count-irq)

pub ruleset made = (steps-made, irqs-made)
