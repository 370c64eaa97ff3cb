-- The closed entries of a history.
use Rattle.std.proofs.Common.{◌≡◌, ℕ, zero, suc, ◌+◌, ◌-◌, ◌*◌, ◌≤◌, true, false, not, List, [], ◌∷◌, ◌++◌, length, Some, slice_get, refl, sym, ap, ◌∙◌, arith}
use Rattle.std.proofs.Common.{append-nil, append_assoc, length-append}
use native.Mathlib.Numerals.{unary_clauses}
use Rattle.std.proofs.lemmas.Grind.{flat_map-append}
use Rattle.event_log.specs.Events.{interrupts, interrupts_in}
use Rattle.event_log.specs.Log.{is_irq, irq_count, parted, closed, unclosed, with_step, with_steps}
use Rattle.event_log.specs.declared.entry.Entry.{Entry}
use Rattle.event_log.specs.declared.entry.Entry.TheVariants.{Steps, Irq}
use Rattle.event_log.proofs.Entries.{by-last, ends_in_steps, ends-append, irq_count-cons}

-- a step more is no interrupt
pub interrupts-with_step : (es : List Entry) → interrupts (with_step es) ≡ interrupts es
interrupts-with_step [] = refl
interrupts-with_step (Steps n ∷ []) = refl
interrupts-with_step (Irq d w ∷ []) = refl
interrupts-with_step (e ∷ f ∷ es) = ap (λ xs. interrupts_in e ++ xs) (interrupts-with_step (f ∷ es))

pub interrupts-with_steps : (n : ℕ) (es : List Entry) → interrupts (with_steps n es) ≡ interrupts es
interrupts-with_steps zero es = refl
interrupts-with_steps (suc n) es = interrupts-with_steps n (with_step es) ∙ interrupts-with_step es

pub interrupts-irq : (d w : ℕ) (es : List Entry) → interrupts (es ++ Irq d w ∷ []) ≡ interrupts es ++ (d, w) ∷ []
interrupts-irq d w es = flat_map-append interrupts_in es (Irq d w ∷ [])

pub interrupts-counted : (es : List Entry) → length (interrupts es) ≡ irq_count es
interrupts-counted [] = refl
interrupts-counted (Steps n ∷ es) = omega (arith, interrupts-counted es, irq_count-cons (Steps n) es)
interrupts-counted (Irq d w ∷ es) = omega (arith, interrupts-counted es, irq_count-cons (Irq d w) es)

-- steps leave the closed entries as they are, and an interrupt closes all
pub closed-with_step : (es : List Entry) → closed (with_step es) ≡ closed es
closed-with_step [] = refl
closed-with_step (Steps n ∷ []) = refl
closed-with_step (Irq d w ∷ []) = refl
closed-with_step (e ∷ Steps n ∷ []) = refl
closed-with_step (e ∷ Irq d w ∷ []) = refl
closed-with_step (e ∷ f ∷ g ∷ es) = ap (λ xs. e ∷ xs) (closed-with_step (f ∷ g ∷ es))

pub closed-with_steps : (n : ℕ) (es : List Entry) → closed (with_steps n es) ≡ closed es
closed-with_steps zero es = refl
closed-with_steps (suc n) es = closed-with_steps n (with_step es) ∙ closed-with_step es

pub closed-irq : (d w : ℕ) (es : List Entry) → closed (es ++ Irq d w ∷ []) ≡ es ++ Irq d w ∷ []
closed-irq d w [] = refl
closed-irq d w (e ∷ []) = refl
closed-irq d w (e ∷ f ∷ es) = ap (λ xs. e ∷ xs) (closed-irq d w (f ∷ es))

pub closed-whole : (es : List Entry) → es ≡ closed es ++ unclosed es
closed-whole [] = refl
closed-whole (Steps n ∷ []) = refl
closed-whole (Irq d w ∷ []) = refl
closed-whole (e ∷ f ∷ es) = ap (λ xs. e ∷ xs) (closed-whole (f ∷ es))

pub interrupts-closed : (es : List Entry) → interrupts (closed es) ≡ interrupts es
interrupts-closed [] = refl
interrupts-closed (Steps n ∷ []) = refl
interrupts-closed (Irq d w ∷ []) = refl
interrupts-closed (e ∷ f ∷ es) = ap (λ xs. interrupts_in e ++ xs) (interrupts-closed (f ∷ es))

-- where no steps follow steps there are at most two closed entries for each interrupt
pub closed-few : (es : List Entry) → parted es ≡ true → length (closed es) ≤ 2 * irq_count es
closed-few [] h = omega arith
closed-few (Steps n ∷ []) h = omega arith
closed-few (Irq d w ∷ []) h = omega arith
closed-few (Steps n ∷ Steps m ∷ es) h = absurd cc
closed-few (Steps n ∷ Irq d w ∷ []) h = omega arith
closed-few (Steps n ∷ Irq d w ∷ e ∷ es) h =
    omega (arith, closed-few (e ∷ es) h, irq_count-cons (Steps n) (Irq d w ∷ e ∷ es), irq_count-cons (Irq d w) (e ∷ es))
closed-few (Irq d w ∷ e ∷ es) h = omega (arith, closed-few (e ∷ es) h, irq_count-cons (Irq d w) (e ∷ es))

-- and they don't end in steps
closed-ends : (es : List Entry) → parted es ≡ true → ends_in_steps (closed es) ≡ false
closed-ends [] h = refl
closed-ends (Steps n ∷ []) h = refl
closed-ends (Irq d w ∷ []) h = refl
closed-ends (Steps n ∷ Steps m ∷ es) h = absurd cc
closed-ends (Irq d w ∷ Steps n ∷ []) h = refl
closed-ends (e ∷ Irq d w ∷ []) h = refl
closed-ends (Irq d w ∷ e ∷ f ∷ es) h = closed-ends (e ∷ f ∷ es) h
closed-ends (Steps n ∷ Irq d w ∷ f ∷ es) h = closed-ends (Irq d w ∷ f ∷ es) h

-- entries without an interrupt end in steps
steps-end : (front : List Entry) (e : Entry) → interrupts (front ++ e ∷ []) ≡ [] → is_irq e ≡ false
steps-end front (Steps n) none = refl
steps-end front (Irq d w) none =
    absurd (omega (arith, ap length (sym (interrupts-irq d w front) ∙ none), length-append (interrupts front) ((d, w) ∷ [])))

-- so nothing that follows closed entries is without an interrupt
pub closed-prefix : (es got left : List Entry) → parted es ≡ true → closed es ≡ got ++ left → interrupts left ≡ [] → closed es ≡ got
closed-prefix es got left h =
    by-last (λ xs. closed es ≡ got ++ xs → interrupts xs ≡ [] → closed es ≡ got)
    (λ is none. is ∙ append-nil got)
    (λ front e is none.
    let ends : ends_in_steps (closed es) ≡ not (is_irq e)
    = ap ends_in_steps (is ∙ sym (append_assoc got front (e ∷ []))) ∙ ends-append (got ++ front) e in
    let both : false ≡ true = sym (closed-ends es h) ∙ ends ∙ ap not (steps-end front e none) in absurd cc) left

-- a history is closed, or ends in steps
pub closed-steps : (es : List Entry) (n : ℕ) → slice_get es (length es - 1) ≡ Some (Steps n) → es ≡ closed es ++ Steps n ∷ []
closed-steps [] n last = absurd cc
closed-steps (e ∷ []) n last = let same : e ≡ Steps n = cc in rw same refl
closed-steps (e ∷ f ∷ es) n last = ap (λ xs. e ∷ xs) (closed-steps (f ∷ es) n (simp unary_clauses (simp unary_clauses at last)))

pub closed-by-irq : (es : List Entry) (d w : ℕ) → slice_get es (length es - 1) ≡ Some (Irq d w) → closed es ≡ es
closed-by-irq [] d w last = absurd cc
closed-by-irq (e ∷ []) d w last = let same : e ≡ Irq d w = cc in rw same refl
closed-by-irq (e ∷ f ∷ es) d w last = ap (λ xs. e ∷ xs) (closed-by-irq (f ∷ es) d w (simp unary_clauses (simp unary_clauses at last)))
