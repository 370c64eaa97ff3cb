-- Entries at the end of a history.
use Rattle.std.proofs.Common.{◌≡◌, ℕ, zero, suc, ◌+◌, ◌-◌, ◌*◌, ◌^◌, ◌<◌, ◌≤◌, Bool, true, false, ◌||◌, ◌&&◌, not, cond, nat_le, List, [], ◌∷◌, ◌++◌, length}
use Rattle.std.proofs.Common.{Option, None, Some, slice_get, take, refl, sym, ap, ◌∙◌, subst, arith, append_assoc, length-append, append-nil}
use native.Mathlib.Numerals.{unary_clauses}
use Rattle.std.proofs.lemmas.Bool.Decides.{nat_tests}
use Rattle.std.proofs.lemmas.List.Elements.{All-push, All-pop, All-weaker}
use Rattle.std.proofs.lemmas.List.{take_at}
use Rattle.std.proofs.lemmas.List.Sums.{sum_by_push, sum_by-cons}
use Rattle.event_log.specs.Log.{IsEntry, IsHistory, IsSound, steps_in, is_irq, step_count, irq_count, parted, stepped, with_step, with_steps, last_steps}
use Rattle.event_log.proofs.EventLists.{step_count-with_step, irq_count-with_steps}
use Rattle.event_log.specs.declared.entry.Entry.{Entry}
use Rattle.event_log.specs.declared.entry.Entry.TheVariants.{Steps, Irq}

-- the last entry is one of steps
abbrev pub ends_in_steps : List Entry → Bool
ends_in_steps [] = false
ends_in_steps (e ∷ []) = not (is_irq e)
ends_in_steps (e ∷ f ∷ es) = ends_in_steps (f ∷ es)

-- an entry may come next: it isn't steps after steps, and keeps the limits
abbrev pub may_follow : List Entry → Entry → Bool
may_follow es e = not (ends_in_steps es && not (is_irq e)) && nat_le (step_count (es ++ e ∷ [])) 100000000
    && nat_le (irq_count (es ++ e ∷ [])) 65536

-- a step is added at the last entry
pub with_step-append : (es : List Entry) (e : Entry) → with_step (es ++ e ∷ []) ≡ es ++ stepped e
with_step-append [] e = refl
with_step-append (a ∷ []) e = refl
with_step-append (a ∷ b ∷ es) e = ap (λ xs. a ∷ xs) (with_step-append (b ∷ es) e)

-- after an interrupt it opens one
with_step-irq : (es : List Entry) (d w : ℕ) → with_step (es ++ Irq d w ∷ []) ≡ (es ++ Irq d w ∷ []) ++ Steps 1 ∷ []
with_step-irq es d w = with_step-append es (Irq d w) ∙ sym (append_assoc es (Irq d w ∷ []) (Steps 1 ∷ []))

-- n steps raise a last entry of steps by n
with_steps-raised : (n k : ℕ) (es : List Entry) → with_steps n (es ++ Steps k ∷ []) ≡ es ++ Steps (k + n) ∷ []
with_steps-raised zero k es = let sum : k + 0 ≡ k = omega arith in rw sum
with_steps-raised (suc n) k es =
    let sum : k + 1 + n ≡ k + suc n = omega arith in
    rw with_step-append (with_steps-raised n (k + 1) es ∙ ap (λ i. es ++ Steps i ∷ []) sum)

-- where a step opens an entry, n steps open one of n
with_steps-opened : (n : ℕ) (es : List Entry) → 0 < n → with_step es ≡ es ++ Steps 1 ∷ [] → with_steps n es ≡ es ++ Steps n ∷ []
with_steps-opened zero es some one = absurd (omega arith)
with_steps-opened (suc n) es some one =
    let sum : 1 + n ≡ suc n = omega arith in
    rw one (with_steps-raised n 1 es ∙ ap (λ i. es ++ Steps i ∷ []) sum)

pub ends-append : (es : List Entry) (e : Entry) → ends_in_steps (es ++ e ∷ []) ≡ not (is_irq e)
ends-append [] e = refl
ends-append (a ∷ []) e = refl
ends-append (a ∷ b ∷ es) e = ends-append (b ∷ es) e

apart-bools : (a b : Bool) → (a || b) && true ≡ true && not (not a && not b)
apart-bools true true = refl
apart-bools true false = refl
apart-bools false true = refl
apart-bools false false = refl

and-assoc : (a b c : Bool) → a && (b && c) ≡ (a && b) && c
and-assoc true b c = refl
and-assoc false b c = refl

pub parted-append : (es : List Entry) (e : Entry) → parted (es ++ e ∷ []) ≡ (parted es && not (ends_in_steps es && not (is_irq e)))
parted-append [] e = refl
parted-append (a ∷ []) e = apart-bools (is_irq a) (is_irq e)
parted-append (a ∷ b ∷ es) e =
    ap (λ t. (is_irq a || is_irq b) && t) (parted-append (b ∷ es) e)
    ∙ and-assoc (is_irq a || is_irq b) (parted (b ∷ es)) (not (ends_in_steps (b ∷ es) && not (is_irq e)))

-- the number of interrupts with one entry more
pub irq_count-append : (es : List Entry) (e : Entry) → irq_count (es ++ e ∷ []) ≡ irq_count es + cond (is_irq e) 1 0
irq_count-append es e = sum_by_push (λ x. cond (is_irq x) 1 0) es e

pub step_count-append : (es : List Entry) (e : Entry) → step_count (es ++ e ∷ []) ≡ step_count es + steps_in e
step_count-append es e = sum_by_push steps_in es e

both : (a b c : Bool) → (a && b) && c ≡ true → (a ≡ true) × (b ≡ true) × (c ≡ true)
both true true true h = (refl, refl, refl)
both true true false h = (refl, refl, h)
both true false c h = absurd cc
both false b c h = absurd cc

not-both : (b : Bool) → not (b && true) ≡ true → b ≡ false
not-both true h = absurd cc
not-both false h = refl

-- what a history is with one entry more
pub history-append : (devices : ℕ) (es : List Entry) (e : Entry)
    → IsHistory devices es → IsEntry devices e → may_follow es e ≡ true → IsHistory devices (es ++ e ∷ [])
history-append devices es e h one next =
    let parts = both _ _ _ next in
    record {
      entries = All-push (IsEntry devices) es e h.entries one;
      apart = parted-append es e ∙ ap (λ t. t && not (ends_in_steps es && not (is_irq e))) h.apart ∙ parts.0;
      steps = grind (arith, nat_tests, parts.1);
      irqs = grind (arith, nat_tests, parts.2);
    }

-- the last entry of a history is one
pub last-entry : (devices : ℕ) (es : List Entry) (e : Entry) → IsHistory devices (es ++ e ∷ []) → IsEntry devices e
last-entry devices es e h = (All-pop (IsEntry devices) (es ++ e ∷ []) es (Some e) refl h.entries).1

-- what is left of a history without its last entry
pub history-front : (devices : ℕ) (es : List Entry) (e : Entry) → IsHistory devices (es ++ e ∷ []) → IsHistory devices es
history-front devices es e h = record {
  entries = (All-pop (IsEntry devices) (es ++ e ∷ []) es (Some e) refl h.entries).0;
  apart = grind (arith, parted-append es e, h.apart);
  steps = omega (arith, step_count-append es e, h.steps);
  irqs = omega (arith, irq_count-append es e, h.irqs);
}

-- the last entry of a history was one that may come next
pub last-follows : (devices : ℕ) (es : List Entry) (e : Entry) → IsHistory devices (es ++ e ∷ []) → may_follow es e ≡ true
last-follows devices es e h = grind (arith, nat_tests, parted-append es e, h.apart, h.steps, h.irqs)

-- a prefix of steps is one entry more than the interrupts can part
abbrev open_steps : List Entry → ℕ
open_steps [] = 0
open_steps (Steps n ∷ es) = 1
open_steps (Irq d w ∷ es) = 0

pub irq_count-cons : (e : Entry) (es : List Entry) → irq_count (e ∷ es) ≡ cond (is_irq e) 1 0 + irq_count es
irq_count-cons e es = sum_by-cons (λ x. cond (is_irq x) 1 0) e es

few-by-front : (es : List Entry) → parted es ≡ true → length es ≤ 2 * irq_count es + open_steps es
few-by-front [] h = omega arith
few-by-front (Steps n ∷ []) h = omega arith
few-by-front (Irq d w ∷ []) h = omega arith
few-by-front (Steps n ∷ Steps m ∷ es) h = absurd cc
few-by-front (Steps n ∷ Irq d w ∷ es) h =
    omega (arith, few-by-front (Irq d w ∷ es) h, irq_count-cons (Steps n) (Irq d w ∷ es))
few-by-front (Irq d w ∷ Steps n ∷ es) h =
    omega (arith, few-by-front (Steps n ∷ es) h, irq_count-cons (Irq d w) (Steps n ∷ es))
few-by-front (Irq d w ∷ Irq a b ∷ es) h =
    omega (arith, few-by-front (Irq a b ∷ es) h, irq_count-cons (Irq d w) (Irq a b ∷ es))

open-small : (es : List Entry) → open_steps es ≤ 1
open-small [] = omega arith
open-small (Steps n ∷ es) = omega arith
open-small (Irq d w ∷ es) = omega arith

-- there are at most twice as many entries as interrupts, and one more
pub few-entries : (es : List Entry) → parted es ≡ true → length es ≤ 2 * irq_count es + 1
few-entries es h = omega (arith, few-by-front es h, open-small es)

-- the last entry of steps raised by one
pub history-raised : (devices : ℕ) (es : List Entry) (n : ℕ) → IsHistory devices (es ++ Steps n ∷ [])
    → step_count (es ++ Steps n ∷ []) < 100000000 → IsHistory devices (es ++ Steps (n + 1) ∷ [])
history-raised devices es n h less =
    let front = history-front devices es (Steps n) h in
    let next = last-follows devices es (Steps n) h in
    let one = last-entry devices es (Steps n) h in
    let steps : step_count (es ++ Steps (n + 1) ∷ []) ≤ 100000000
    = omega (arith, step_count-append es (Steps n), step_count-append es (Steps (n + 1))) in
    let same : irq_count (es ++ Steps (n + 1) ∷ []) ≤ 65536
    = omega (arith, irq_count-append es (Steps n), irq_count-append es (Steps (n + 1)), h.irqs) in
    history-append devices es (Steps (n + 1)) front (omega arith) (grind (arith, nat_tests))

-- an entry of steps opened where the last one isn't of steps
pub history-opened : (devices : ℕ) (es : List Entry) → IsHistory devices es → ends_in_steps es ≡ false
    → step_count es < 100000000 → IsHistory devices (es ++ Steps 1 ∷ [])
history-opened devices es h ends less =
    let steps : step_count (es ++ Steps 1 ∷ []) ≤ 100000000 = omega (arith, step_count-append es (Steps 1)) in
    let same : irq_count (es ++ Steps 1 ∷ []) ≤ 65536 = omega (arith, irq_count-append es (Steps 1), h.irqs) in
    history-append devices es (Steps 1) h (omega arith) (grind (arith, nat_tests))

-- an interrupt goes after any entry
pub history-irq : (devices : ℕ) (es : List Entry) (d w : ℕ) → IsHistory devices es → d < devices → w < 2 ^ 32
    → irq_count es < 65536 → IsHistory devices (es ++ Irq d w ∷ [])
history-irq devices es d w h small word less =
    let steps : step_count (es ++ Irq d w ∷ []) ≤ 100000000 = omega (arith, step_count-append es (Irq d w), h.steps) in
    let irqs : irq_count (es ++ Irq d w ∷ []) ≤ 65536 = omega (arith, irq_count-append es (Irq d w)) in
    history-append devices es (Irq d w) h (small, word) (grind (arith, nat_tests))

-- a list is empty or has a last entry
pub by-last : (P : List Entry → Type 0) → P [] → ((front : List Entry) (e : Entry) → P (front ++ e ∷ [])) → (es : List Entry) → P es
by-last P none some [] = none
by-last P none some (a ∷ es) = by-last (λ xs. P (a ∷ xs)) (some [] a) (λ front e. some (a ∷ front) e) es

step-last : (devices : ℕ) (front : List Entry) (e : Entry) → IsHistory devices (front ++ e ∷ [])
    → step_count (front ++ e ∷ []) < 100000000 → IsHistory devices (with_step (front ++ e ∷ []))
step-last devices front (Steps n) h less = rw with_step-append (history-raised devices front n h less)
step-last devices front (Irq d w) h less =
    rw with_step-irq (history-opened devices (front ++ Irq d w ∷ []) h (ends-append front (Irq d w)) less)

-- a history with one step more is one, and so with n steps more
pub history-step : (devices : ℕ) (es : List Entry) → IsHistory devices es → step_count es < 100000000 → IsHistory devices (with_step es)
history-step devices es =
    by-last (λ xs. IsHistory devices xs → step_count xs < 100000000 → IsHistory devices (with_step xs))
    (λ h less. history-opened devices [] h refl less)
    (step-last devices) es

pub history-steps : (devices n : ℕ) (es : List Entry) → IsHistory devices es → step_count es + n ≤ 100000000 → IsHistory devices (with_steps n es)
history-steps devices zero es h few = h
history-steps devices (suc n) es h few =
    let few-after : step_count (with_step es) + n ≤ 100000000 = omega (arith, step_count-with_step es) in
    history-steps devices n (with_step es) (history-step devices es h (omega arith)) few-after

-- a sound history with n steps or one interrupt more is sound
pub sound_steps : (n : ℕ) (es : List Entry) (irqs : ℕ) → IsSound (record { entries = es; irqs = irqs })
    → step_count es + n ≤ 100000000 → IsSound (record { entries = with_steps n es; irqs = irqs })
sound_steps n es irqs h few = record {
  history = history-steps 16 n es h.history few;
  room = omega (arith, irq_count-with_steps n es, h.room);
  at_most = h.at_most;
}

pub sound_irq : (es : List Entry) (d w irqs : ℕ) → IsSound (record { entries = es; irqs = irqs }) → d < 16 → w < 2 ^ 32
    → irq_count es < irqs → IsSound (record { entries = es ++ Irq d w ∷ []; irqs = irqs })
sound_irq es d w irqs h small word less = record {
  history = history-irq 16 es d w h.history small word (omega (arith, h.at_most));
  room = omega (arith, irq_count-append es (Irq d w));
  at_most = h.at_most;
}

-- so there are few entries
pub sound-few : (es : List Entry) (irqs : ℕ) → IsSound (record { entries = es; irqs = irqs }) → length es ≤ 2 * irqs + 1
sound-few es irqs h = omega (arith, few-entries es h.history.apart, h.room)

-- the steps of an entry that there may be
abbrev pub steps_at : Option Entry → ℕ
steps_at None = 0
steps_at (Some e) = steps_in e

pub last_steps-at : (es : List Entry) → steps_at (slice_get es (length es - 1)) ≡ last_steps es
last_steps-at [] = refl
last_steps-at (e ∷ []) = refl
last_steps-at (e ∷ f ∷ es) = simp unary_clauses (simp unary_clauses at (last_steps-at (f ∷ es)))

last_steps-append : (es : List Entry) (e : Entry) → last_steps (es ++ e ∷ []) ≡ steps_in e
last_steps-append [] e = refl
last_steps-append (a ∷ []) e = refl
last_steps-append (a ∷ b ∷ es) e = last_steps-append (b ∷ es) e

-- n steps more, by what the last entry is
pub record Steps-by-last (n : ℕ) (es : List Entry) : Type 0 where
  pub raised : 0 < last_steps es → with_steps n es ≡ take (length es - 1) es ++ Steps (last_steps es + n) ∷ []
  pub opened : last_steps es ≡ 0 → with_steps n es ≡ es ++ Steps n ∷ []
  pub least : last_steps es ≤ step_count es

take-front : (front : List Entry) (e : Entry) → take (length (front ++ e ∷ []) - 1) (front ++ e ∷ []) ≡ front
take-front front e =
    let n : length (front ++ e ∷ []) - 1 ≡ length front = simp length-append (omega arith) in
    take_at front (e ∷ []) (length (front ++ e ∷ []) - 1) (sym n)

by-last-entry : (n : ℕ) (front : List Entry) (e : Entry) → 0 < n → IsEntry 16 e → Steps-by-last n (front ++ e ∷ [])
by-last-entry n front (Steps k) some one =
    let last = last_steps-append front (Steps k) in
    record {
      raised = λ h. rw (last, take-front) (with_steps-raised n k front);
      opened = λ h. absurd (omega (arith, last, h, one));
      least = omega (arith, last, step_count-append front (Steps k));
    }
by-last-entry n front (Irq d w) some one =
    let last = last_steps-append front (Irq d w) in
    record {
      raised = λ h. absurd (omega (arith, last, h));
      opened = λ h. with_steps-opened n (front ++ Irq d w ∷ []) some (with_step-irq front d w);
      least = omega (arith, last);
    }

pub steps-by-last : (n : ℕ) (es : List Entry) → 0 < n → IsHistory 16 es → Steps-by-last n es
steps-by-last n es some =
    by-last (λ xs. IsHistory 16 xs → Steps-by-last n xs)
    (λ h. record { raised = λ more. absurd (omega arith); opened = λ none. with_steps-opened n [] some refl; least = omega arith })
    (λ front e h. by-last-entry n front e some (last-entry 16 front e h)) es

ends-none : (es : List Entry) → ends_in_steps es ≡ false → last_steps es ≡ 0
ends-none [] h = refl
ends-none (Steps n ∷ []) h = absurd cc
ends-none (Irq d w ∷ []) h = refl
ends-none (a ∷ b ∷ es) h = ends-none (b ∷ es) h

none-ends-last : (front : List Entry) (e : Entry) → IsEntry 16 e → last_steps (front ++ e ∷ []) ≡ 0
    → ends_in_steps (front ++ e ∷ []) ≡ false
none-ends-last front (Steps n) one none = absurd (omega (arith, last_steps-append front (Steps n), none, one))
none-ends-last front (Irq d w) one none = ends-append front (Irq d w)

none-ends : (es : List Entry) → IsHistory 16 es → last_steps es ≡ 0 → ends_in_steps es ≡ false
none-ends es =
    by-last (λ xs. IsHistory 16 xs → last_steps xs ≡ 0 → ends_in_steps xs ≡ false)
    (λ h none. refl) (λ front e h none. none-ends-last front e (last-entry 16 front e h) none) es

-- when steps may go last
pub steps-follow : (es : List Entry) (n : ℕ) → IsHistory 16 es → 1 ≤ n → last_steps es ≡ 0
    → step_count es + n ≤ 100000000 → IsHistory 16 (es ++ Steps n ∷ [])
steps-follow es n h one none few =
    let ends = none-ends es h none in
    let steps : step_count (es ++ Steps n ∷ []) ≤ 100000000 = omega (arith, step_count-append es (Steps n)) in
    let same : irq_count (es ++ Steps n ∷ []) ≤ 65536 = omega (arith, irq_count-append es (Steps n), h.irqs) in
    history-append 16 es (Steps n) h one (grind (arith, nat_tests))

pub steps-followed : (es : List Entry) (n : ℕ) → IsHistory 16 (es ++ Steps n ∷ [])
    → (last_steps es ≡ 0) × (step_count es + n ≤ 100000000)
steps-followed es n h =
    let next = both _ _ _ (last-follows 16 es (Steps n) h) in (
      ends-none es (not-both (ends_in_steps es) next.0),
      omega (arith, step_count-append es (Steps n), h.steps),
    )

wider-entry : (devices : ℕ) → devices ≤ 16 → (e : Entry) → IsEntry devices e → IsEntry 16 e
wider-entry devices few (Steps n) one = one
wider-entry devices few (Irq d w) one = (omega (arith, one.0, few), one.1)

-- a history of a board is one of the largest board
pub history-wider : (devices : ℕ) (es : List Entry) → devices ≤ 16 → IsHistory devices es → IsHistory 16 es
history-wider devices es few h = record {
  entries = All-weaker (IsEntry devices) (IsEntry 16) (wider-entry devices few) es h.entries;
  apart = h.apart;
  steps = h.steps;
  irqs = h.irqs;
}

-- a prefix of a history is a history
pub front-history : (devices : ℕ) (xs ys : List Entry) → IsHistory devices (xs ++ ys) → IsHistory devices xs
front-history devices xs [] h = subst (IsHistory devices) (append-nil xs) h
front-history devices xs (y ∷ ys) h =
    history-front devices xs y (front-history devices (xs ++ y ∷ []) ys
    (subst (IsHistory devices) (sym (append_assoc xs (y ∷ []) ys)) h))
