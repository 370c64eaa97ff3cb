-- Where all words were got, the closed entries are what was got, and the words are the scripts.
use Rattle.std.proofs.Common.{◌≡◌, ℕ, ◌+◌, ◌-◌, ◌<◌, ◌≤◌, ◌↔◌, true, List, [], ◌∷◌, ◌++◌, length, take, refl, sym, ap, subst, ◌∙◌, ⊎_elim, append_assoc, arith}
use Rattle.std.proofs.Common.{All}
use Rattle.std.proofs.lemmas.Bool.{cases_lt}
use Rattle.std.proofs.lemmas.Bool.Decides.{nat_tests}
use Rattle.std.proofs.lemmas.Grind.{flat_map-append}
use Rattle.std.proofs.lemmas.List.Elements.{All-head, All-nil, All-cons, All-tail}
use Rattle.std.proofs.lemmas.List.{length-append, length-take, nil_from_length, take_all}
use Rattle.std.proofs.lemmas.List.Sums.{sum_by-append}
use Rattle.board_core.specs.Run.{Origin}
use Rattle.board_serve.specs.Got.{HasAll}
use Rattle.board_serve.specs.Scripts.{script_of}
use Rattle.event_log.specs.Events.{interrupts, words_in, words_of}
use Rattle.event_log.specs.Log.{IsEntry, IsHistory, closed, parted, step_count, steps_in, unclosed, with_steps}
use Rattle.event_log.specs.LogIn.{is_history}
use Rattle.event_log.specs.declared.entry.Entry.{Entry}
use Rattle.event_log.specs.declared.entry.Entry.TheVariants.{Steps, Irq}
use Rattle.board_live.specs.Finish.{HasBegun, IsRun, stepped_out}
use Rattle.board_live.proofs.Begun.{none_past, no_script, shorter}

-- an open entry has no word
pub closed_words : (d : ℕ) (es : List Entry) → words_of d (closed es) ≡ words_of d es
closed_words d [] = refl
closed_words d (Steps n ∷ []) = refl
closed_words d (Irq e w ∷ []) = refl
closed_words d (e ∷ f ∷ es) = ap (λ l. words_in d e ++ l) (closed_words d (f ∷ es))

-- the words of a history are those of what was got, and then those of what is left
parts : (d : ℕ) (h got left : List Entry) → closed h ≡ got ++ left → words_of d h ≡ words_of d got ++ words_of d left
parts d h got left is = sym (closed_words d h) ∙ (ap (λ es. words_of d es) is ∙ flat_map-append (words_in d) got left)

-- a prefix of a list that begins with as much as the list has is the list, and nothing comes after
all_of : (s a b : List ℕ) (k : ℕ) → take k s ≡ a ++ b → length a ≡ length s → (a ++ b ≡ s) × (b ≡ [])
all_of s a b k e same =
    let whole : length s ≤ k = omega (arith, ap length e, length-take k s, length-append a b, same) in
    let none : length b ≡ 0 = omega (arith, ap length e, length-take k s, length-append a b, same) in
    (sym e ∙ take_all k s whole, nil_from_length b none)

-- where no device has a word, there is no interrupt
no_interrupts : (n : ℕ) (es : List Entry) → All (IsEntry n) es → ((d : ℕ) → d < n → words_of d es ≡ []) → interrupts es ≡ []
no_interrupts n [] all none = refl
no_interrupts n (Steps k ∷ es) all none = no_interrupts n es (All-tail (IsEntry n) (Steps k) es all) none
no_interrupts n (Irq e w ∷ es) all none =
    let is : IsEntry n (Irq e w) = All-head (IsEntry n) (Irq e w) es all in
    let one : length (words_in e (Irq e w)) ≡ 1 = grind (arith, nat_tests) in
    absurd (omega (arith, ap length (none e is.0), length-append (words_in e (Irq e w)) (words_of e es), one))

-- entries of a history at its end
ends_with : (n : ℕ) (xs ys : List Entry) → All (IsEntry n) (xs ++ ys) → All (IsEntry n) ys
ends_with n [] ys all = all
ends_with n (x ∷ xs) ys all = ends_with n xs ys (All-tail (IsEntry n) x (xs ++ ys) all)

begins_with : (n : ℕ) (xs ys : List Entry) → All (IsEntry n) (xs ++ ys) → All (IsEntry n) xs
begins_with n [] ys all = All-nil (IsEntry n)
begins_with n (x ∷ xs) ys all = All-cons (IsEntry n) x xs (All-head (IsEntry n) x (xs ++ ys) all) (begins_with n xs ys (All-tail (IsEntry n) x (xs ++ ys) all))

-- what is said of histories
pub record Laws : Type 0 where
  pub whole : (es : List Entry) → es ≡ closed es ++ unclosed es
  pub no_steps_last : (es got left : List Entry) → parted es ≡ true → closed es ≡ got ++ left → interrupts left ≡ [] → closed es ≡ got
  pub tested : (devices : ℕ) (es : List Entry) → is_history devices es ≡ true ↔ IsHistory devices es
  pub prefix : (devices : ℕ) (es after : List Entry) → is_history devices (es ++ after) ≡ true → is_history devices es ≡ true

-- a core's history and what was got of it
pub record Met (o : Origin) (h got : List Entry) : Type 0 where
  pub begun : HasBegun o h
  pub left : List Entry
  pub closed : closed h ≡ got ++ left

-- of each device of the board
device_whole : (o : Origin) (h got : List Entry) (m : Met o h got) → HasAll o.board.devices got → (d : ℕ) → d < length o.board.devices
    → (words_of d h ≡ script_of o.board.devices d) × (words_of d m.left ≡ [])
device_whole o h got m all d lt =
    let (k, prefix) = m.begun.words d in
    let both = parts d h got m.left m.closed in
    let whole = all_of (script_of o.board.devices d) (words_of d got) (words_of d m.left) k (sym prefix ∙ both) (all d lt) in
    (both ∙ whole.0, whole.1)

-- all words of all devices were taken
pub words_whole : (o : Origin) (h got : List Entry) → Met o h got → HasAll o.board.devices got → (d : ℕ) → words_of d h ≡ script_of o.board.devices d
words_whole o h got m all d =
    ⊎_elim
    (λ (lt : d < length o.board.devices). (device_whole o h got m all d lt).0)
    (λ (le : length o.board.devices ≤ d). none_past (length o.board.devices) d h m.begun.history.entries le ∙ sym (no_script o.board.devices d le))
    (cases_lt d (length o.board.devices))

-- and all closed entries were got
pub all_got : (laws : Laws) (o : Origin) (h got : List Entry) → Met o h got → HasAll o.board.devices got → closed h ≡ got
all_got laws o h got m all =
    let n = length o.board.devices in
    let entries = subst (λ es. All (IsEntry n) es) (laws.whole h) m.begun.history.entries in
    let of_left = ends_with n got m.left (subst (λ es. All (IsEntry n) es) m.closed (begins_with n (closed h) (unclosed h) entries)) in
    laws.no_steps_last h got m.left m.begun.history.apart m.closed (no_interrupts n m.left of_left (λ d lt. (device_whole o h got m all d lt).1))

-- what was got is a run so far
pub got_begun : (laws : Laws) (o : Origin) (h got : List Entry) → Met o h got → HasBegun o got
got_begun laws o h got m =
    let n = length o.board.devices in
    let rest = m.left ++ unclosed h in
    let is : h ≡ got ++ rest = laws.whole h ∙ (ap (λ es. es ++ unclosed h) m.closed ∙ append_assoc got m.left (unclosed h)) in
    record {
      history = (laws.tested n got).0 (laws.prefix n got rest (subst (λ es. is_history n es ≡ true) is ((laws.tested n h).1 m.begun.history)));
      words = λ d.
          let (k, prefix) = m.begun.words d in
          shorter (script_of o.board.devices d) (words_of d got) (words_of d m.left) k (sym prefix ∙ parts d h got m.left m.closed);
      steps = omega (arith, m.begun.steps, ap step_count is, sum_by-append steps_in got rest);
    }

-- what is said of steps
pub record StepLaws : Type 0 where
  pub words : (n d : ℕ) (es : List Entry) → words_of d (with_steps n es) ≡ words_of d es
  pub steps : (n : ℕ) (es : List Entry) → step_count (with_steps n es) ≡ step_count es + n
  pub history : (devices n : ℕ) (es : List Entry) → is_history devices es ≡ true → step_count es + n ≤ 100000000 → is_history devices (with_steps n es) ≡ true

-- with the steps that are left it is a whole run
pub run_ended : (laws : Laws) (steps : StepLaws) (o : Origin) (h got : List Entry) → Met o h got → HasAll o.board.devices got
    → o.board.steps ≤ 100000000 → IsRun o (stepped_out o h)
run_ended laws steps o h got m all most =
    let n = length o.board.devices in
    let left = o.board.steps - step_count h in
    record {
      history = (laws.tested n (stepped_out o h)).0 (steps.history n left h ((laws.tested n h).1 m.begun.history) (omega (arith, m.begun.steps, most)));
      words = λ d. steps.words left d h ∙ words_whole o h got m all d;
      steps = omega (arith, steps.steps left h, m.begun.steps);
    }
