-- What an accepted image keeps: each rule of the table, read as facts on its words.
use Rattle.std.proofs.Common.{◌≡◌, ◌≤◌, ◌<◌, ◌%◌, ℕ, Bool, true, false, cond, List, [], ◌∷◌, length, Ok, Err, refl, arith, IsTrue, not, ◌==◌, ◌||◌, nat_lt}
use Rattle.std.specs.List.{AllByRecursion}
use Rattle.std.proofs.lemmas.Bool.Decides.{nat_tests}
use Rattle.module_preamble.specs.Words.{words_of, has_callback}
use Rattle.module_preamble.specs.Preamble.{Rule, judged, size_rules, entry_rules, priority_rules, stack_rules, is_entry, is_optional_entry, is_stack, IsEntry}
use Rattle.module_preamble.specs.Preamble.{IsStack, IsAccepted}
use Rattle.module_preamble.specs.declared.rules.TheConstants.{MOST_DATA, PRIORITIES}
use Rattle.module_preamble.specs.declared.words.Preamble.{Preamble}

-- the rule's test is true
abbrev Holds : Rule → Type 0
Holds r = IsTrue r.holds

-- each rule of a table that lets a value pass holds
kept : {X : Type 0} (a : List Rule) (x y : X) → judged a x ≡ Ok y → AllByRecursion Holds a
unfolding judged
kept [] x y h = tt
kept (r ∷ a) x y h =
    elim r.holds as (λ v. cond v (judged a x) (Err r.refusal) ≡ Ok y → (v ≡ true) × AllByRecursion Holds a) [
      | true ↦ λ rest. (refl, kept a x y rest)
      | false ↦ λ no. (cc)
    ] h

-- the tests of an entry and of a stack, read as facts
entry : (p : Preamble) (w : ℕ) → is_entry p w ≡ true → IsEntry p w
entry p w h = record { aligned = grind (arith, nat_tests); behind = grind (arith, nat_tests); inside = grind (arith, nat_tests) }

optional_entry : (p : Preamble) (w : ℕ) → is_optional_entry p w ≡ true → not (w == 0) ≡ true → IsEntry p w
optional_entry p w h some = entry p w (grind (arith, nat_tests))

stack : (w : ℕ) → is_stack w ≡ true → IsStack w
stack w h = record { least = grind (arith, nat_tests); most = grind (arith, nat_tests) }

-- the rules of each part of the table, read as facts
sizes : (len : ℕ) (p : Preamble) → AllByRecursion Holds (size_rules len p) → (p.code_size ≡ len) × (p.code_size % 4 ≡ 0) × (p.data_size ≤ MOST_DATA)
unfolding size_rules
sizes len p h = (grind (arith, nat_tests), grind (arith, nat_tests), grind (arith, nat_tests))

entries : (p : Preamble) → AllByRecursion Holds (entry_rules p) → IsEntry p p.shell × IsEntry p p.start × (IsTrue (has_callback p) → IsEntry p p.callback)
unfolding entry_rules
entries p h = (entry p p.shell h.0, entry p p.start h.1.0, λ some. optional_entry p p.callback h.1.1.1.0 some)

-- a rule about the callback thread, where there is one
where_callback : (b c : Bool) → (not b || c) ≡ true → IsTrue b → c ≡ true
where_callback true c h some = h
where_callback false c h some = (cc)

priorities : (p : Preamble) → AllByRecursion Holds (priority_rules p) → (p.start_prio < PRIORITIES) × (IsTrue (has_callback p) → p.callback_prio < PRIORITIES)
unfolding priority_rules
priorities p h =
    (grind (arith, nat_tests), λ some. let fits = where_callback (has_callback p) (nat_lt p.callback_prio PRIORITIES) h.1.0 some in grind (arith, nat_tests))

stacks : (p : Preamble) → AllByRecursion Holds (stack_rules p) → IsStack p.start_stack × (IsTrue (has_callback p) → IsStack p.callback_stack)
unfolding stack_rules
stacks p h = (stack p.start_stack h.0, λ some. stack p.callback_stack (where_callback (has_callback p) (is_stack p.callback_stack) h.1.0 some))

-- a table refuses nothing
abbrev pub Passes : List Rule → Type 0
Passes a = let unit : Unit {0} = tt in judged a unit ≡ Ok unit

-- an image whose words pass each part of the table is accepted with them
pub accepted : (bytes : List ℕ) (p : Preamble) → p ≡ words_of bytes → Passes (size_rules (length bytes) p) → Passes (entry_rules p) → Passes (priority_rules p)
    → Passes (stack_rules p) → IsAccepted bytes p
accepted bytes p same size entry priority stack =
    let sized = sizes (length bytes) p (kept (size_rules (length bytes) p) tt tt size) in
    let entered = entries p (kept (entry_rules p) tt tt entry) in
    let ranked = priorities p (kept (priority_rules p) tt tt priority) in
    let stacked = stacks p (kept (stack_rules p) tt tt stack) in
    record {
      words = same;
      code_size = sized.0;
      code_words = sized.1;
      data_size = sized.2;
      shell = entered.0;
      start = entered.1;
      callback = entered.2;
      start_prio = ranked.0;
      callback_prio = ranked.1;
      start_stack = stacked.0;
      callback_stack = stacked.1;
    }
