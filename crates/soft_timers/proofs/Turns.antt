-- What ticks leave without a tick left, and that it is gone after the turns of what was due.
use Rattle.std.proofs.Common.{◌≡◌, ◌≢◌, ℕ, suc, ◌+◌, ◌<◌, ◌==◌, Bool, true, false, not, ◌&&◌, ◌||◌, nat_lt, List, [], ◌∷◌, ◌++◌, find, filter, cond, All}
use Rattle.std.proofs.Common.{AllPairs, Option, None, Some, ⊎_elim, refl, ap, sym, subst, ◌∙◌, arith}
use Rattle.std.proofs.lemmas.Bool.{eqb-true, eq-eqb, ne_eqb, lt-ltb, ltb-true, cond_both, cond-true, cond-false, cases_Bool, cases_eq, or_cases, or_left}
use Rattle.std.proofs.lemmas.Bool.{or_right, and_parts, and_from, both_ways}
use Rattle.std.proofs.lemmas.List.Elements.{All-push, All-filter, All-weaker, All-head, All-tail, All-nil, All-cons}
use Rattle.std.proofs.lemmas.List.Folds.{find-append}
use Rattle.std.proofs.lemmas.List.Kept.{AllPairs-filter}
use Rattle.std.specs.List.{slice_index_or}
use Rattle.std.specs.Option.{option_map, option_map_or, option_or, IsSome}
use Rattle.soft_timers.specs.Laws.{Call, Arm, Disarm, called, all_called, MayCallAll, CallsKeepTheWheel, TicksKeepTheWheel, CallsSpareOthers, ArmedIsThere}
use Rattle.soft_timers.specs.Laws.{DisarmedIsNone, CallsKeepRunning, DueAreInOrder, DueAreArmed, DisarmedIsOver, OverStaysOver, is_among, IsRunningBut}
use Rattle.soft_timers.specs.Laws.{TicksLeaveTheDue, CallsAddNone, TurnsTakeOne, NoneIsRunning, RunsAfterTheTurns}
use Rattle.soft_timers.specs.Timers.{TimerTable, IsWheel, IsRunning, armed, armed_for, disarmed, ticked, due_now, still}
use Rattle.soft_timers.specs.declared.due.Armed.{Armed}
use Rattle.soft_timers.proofs.Kept.{armed_keeps, disarmed_keeps, ticked_keeps}

pub calls_keep : CallsKeepTheWheel
calls_keep w (Arm id n) wheel may = armed_keeps w id n wheel may.0 may.1 may.3
calls_keep w (Disarm id) wheel may = disarmed_keeps w id wheel

pub ticks_keep : TicksKeepTheWheel
ticks_keep w wheel running more = ticked_keeps w wheel running more

-- an entry is found by its number

tail_apart : (R : Armed → Armed → Type 0) (x : Armed) (es : List Armed) → AllPairs R (x ∷ es) → AllPairs R es
tail_apart R x es all i j d earlier below = all (suc i) (suc j) d (omega arith) (omega arith)

head_apart : (R : Armed → Armed → Type 0) (x : Armed) (es : List Armed) → AllPairs R (x ∷ es) → All (R x) es
head_apart R x es all k d below = all 0 (suc k) d (omega arith) (omega arith)

found_at : (es : List Armed) → AllPairs (λ d e. d.id ≢ e.id) es → All (λ e. find (λ x. x.id == e.id) es ≡ Some e) es
found_at [] apart = All-nil (λ e. find (λ x. x.id == e.id) [] ≡ Some e)
found_at (x ∷ es) apart =
    let rest = found_at es (tail_apart (λ d e. d.id ≢ e.id) x es apart) in
    let others = head_apart (λ d e. d.id ≢ e.id) x es apart in
    All-cons (λ e. find (λ y. y.id == e.id) (x ∷ es) ≡ Some e) x es (cond-true (x.id == x.id) (Some x) (find (λ y. y.id == x.id) es) (eq-eqb x.id x.id refl))
    (λ k d inside. cond-false (x.id == (slice_index_or es k d).id) (Some x) (find (λ y. y.id == (slice_index_or es k d).id) es)
    (ne_eqb x.id (slice_index_or es k d).id (others k d inside))
    ∙ rest k d inside)

still_here : (w : TimerTable) (d e : Armed) → armed w e.id ≡ Some e → d.id ≡ e.id → d.arming ≡ e.arming → still w d ≡ true
still_here w d e found same_id same_arming =
    let found_d : armed w d.id ≡ Some e = ap (armed w) same_id ∙ found in
    ap (λ (o : Option Armed). option_map_or (λ n. n == d.arming) (option_map (λ x. x.arming) o) false) found_d ∙ eq-eqb e.arming d.arming (sym same_arming)

pub due_are_in_order : DueAreInOrder
due_are_in_order w wheel = AllPairs-filter (λ d e. d.arming < e.arming) (λ e. e.expiry == w.ticks) w.entries wheel.in_order

pub due_are_armed : DueAreArmed
due_are_armed w wheel =
    All-filter (λ e. e.expiry == w.ticks) (λ d. still w d ≡ true) w.entries
    (All-weaker (λ e. armed w e.id ≡ Some e) (λ d. still w d ≡ true) (λ e found. still_here w e e found refl refl) w.entries
    (found_at w.entries wheel.each_once))

-- one that is over

find_none-without : (id : ℕ) (es : List Armed) → find (λ e. e.id == id) (filter (λ e. not (e.id == id)) es) ≡ None
find_none-without id [] = refl
find_none-without id (x ∷ es) =
    let rest = find_none-without id es in
    ⊎_elim (λ (here : (x.id == id) ≡ true). rw here rest) (λ (other : (x.id == id) ≡ false). rw other (rw other rest)) (cases_Bool (x.id == id))

find_other-without : (id other : ℕ) (es : List Armed) → (other ≡ id → ⊥)
    → find (λ e. e.id == other) (filter (λ e. not (e.id == id)) es) ≡ find (λ e. e.id == other) es
find_other-without id other [] apart = refl
find_other-without id other (x ∷ es) apart =
    let rest = find_other-without id other es apart in
    ⊎_elim
    (λ here. let same = eqb-true x.id id here in
    let missed : (x.id == other) ≡ false = ne_eqb x.id other (λ is. apart (sym is ∙ same)) in
    rw (here, missed) rest)
    (λ kept. rw kept (ap (λ (o : Option Armed). cond (x.id == other) (Some x) o) rest))
    (cases_Bool (x.id == id))

pub disarmed_is_over : DisarmedIsOver
disarmed_is_over w d = ap (λ (o : Option Armed). option_map_or (λ n. n == d.arming) (option_map (λ x. x.arming) o) false) (find_none-without d.id w.entries)

still_by : Option Armed → ℕ → Bool
still_by o n = option_map_or (λ m. m == n) (option_map (λ x. x.arming) o) false

over_disarmed : (w : TimerTable) (d : Armed) (id : ℕ) → still w d ≡ false → still (disarmed w id) d ≡ false
unfolding still_by
over_disarmed w d id over =
    ⊎_elim
    (λ (same : d.id ≡ id). ap (λ (o : Option Armed). still_by o d.arming)
    (subst (λ (n : ℕ). find (λ e. e.id == d.id) (filter (λ e. not (e.id == n)) w.entries) ≡ None) same (find_none-without d.id w.entries)))
    (λ apart. ap (λ (o : Option Armed). still_by o d.arming) (find_other-without id d.id w.entries apart) ∙ over)
    (cases_eq d.id id)

over_armed : (w : TimerTable) (d : Armed) (id n : ℕ) → d.arming < w.armings → still w d ≡ false → still (armed_for w id n) d ≡ false
unfolding still_by
over_armed w d id n before over =
    let new : Armed = record { id = id; expiry = w.ticks + n; arming = w.armings } in
    let joined = find-append (λ (e : Armed). e.id == d.id) w.entries (new ∷ []) in
    let later : (w.armings == d.arming) ≡ false = ne_eqb w.armings d.arming (λ same. absurd (omega arith)) in
    let at_new : still_by (find (λ e. e.id == d.id) (new ∷ [])) d.arming ≡ false = cond_both (id == d.id) (Some new) None (λ o. still_by o d.arming ≡ false)
    (λ _. later) (λ _. refl) in
    ap (λ (o : Option Armed). still_by o d.arming) joined ∙ either (armed w d.id) (find (λ e. e.id == d.id) (new ∷ [])) over at_new where
      either : (o r : Option Armed) → still_by o d.arming ≡ false → still_by r d.arming ≡ false → still_by (option_or o r) d.arming ≡ false
      either None r left right = right
      either (Some e) r left right = left

pub over_stays_over : OverStaysOver
over_stays_over w d (Arm id n) before over = over_armed w d id n before over
over_stays_over w d (Disarm id) before over = over_disarmed w d id over

-- what is armed under one number, by a call of its own and of another

find_other-push : (id other : ℕ) (es : List Armed) (new : Armed) → (other ≡ id → ⊥) → new.id ≡ id
    → find (λ e. e.id == other) (es ++ new ∷ []) ≡ find (λ e. e.id == other) es
find_other-push id other es new apart own =
    let missed : (new.id == other) ≡ false = ne_eqb new.id other (λ same. apart (sym same ∙ own)) in
    find-append (λ (e : Armed). e.id == other) es (new ∷ [])
    ∙ (ap (λ (o : Option Armed). option_or (find (λ e. e.id == other) es) o) (cond-false (new.id == other) (Some new) None missed)
    ∙ or-None (find (λ e. e.id == other) es)) where
      or-None : (o : Option Armed) → option_or o None ≡ o
      or-None None = refl
      or-None (Some e) = refl

pub calls_spare_others : CallsSpareOthers
calls_spare_others w (Arm id n) other apart = find_other-push id other w.entries (record { id = id; expiry = w.ticks + n; arming = w.armings }) apart refl
calls_spare_others w (Disarm id) other apart = find_other-without id other w.entries apart

pub armed_is_there : ArmedIsThere
armed_is_there w id n =
    let new : Armed = record { id = id; expiry = w.ticks + n; arming = w.armings } in
    let here : find (λ e. e.id == id) (new ∷ []) ≡ Some new = cond-true (id == id) (Some new) None (eq-eqb id id refl) in
    subst IsSome (sym (find-append (λ (e : Armed). e.id == id) w.entries (new ∷ []) ∙ ap (option_or (find (λ e. e.id == id) w.entries)) here))
    (or-Some (find (λ e. e.id == id) w.entries) new) where
      or-Some : (o : Option Armed) (e : Armed) → IsSome (option_or o (Some e))
      or-Some None e = refl
      or-Some (Some d) e = refl

pub disarmed_is_none : DisarmedIsNone
disarmed_is_none w id = find_none-without id w.entries

-- who has no tick left

pub calls_keep_running : CallsKeepRunning
calls_keep_running w (Arm id n) may running =
    let new : Armed = record { id = id; expiry = w.ticks + n; arming = w.armings } in
    All-push (λ e. w.ticks < e.expiry) w.entries new running (omega (arith, may.2))
calls_keep_running w (Disarm id) may running = All-filter (λ e. not (e.id == id)) (λ e. w.ticks < e.expiry) w.entries running

among_kept : (p : Armed → Bool) (es : List Armed) → All (λ e. p e ≡ true → is_among (filter p es) e ≡ true) es
among_kept p [] = All-nil (λ e. p e ≡ true → is_among [] e ≡ true)
among_kept p (x ∷ es) =
    let rest = among_kept p es in
    let first : p x ≡ true → is_among (filter p (x ∷ es)) x ≡ true =
    λ (here : p x ≡ true). rw here
    (or_left ((x.id == x.id) && (x.arming == x.arming)) (is_among (filter p es) x)
    (and_from (x.id == x.id) (x.arming == x.arming) (eq-eqb x.id x.id refl) (eq-eqb x.arming x.arming refl))) in
    let later =
    λ (e : Armed) (among : is_among (filter p es) e ≡ true). cond_both (p x) (x ∷ filter p es) (filter p es) (λ ds. is_among ds e ≡ true)
    (λ _. or_right ((x.id == e.id) && (x.arming == e.arming)) (is_among (filter p es) e) among) (λ _. among) in
    All-cons (λ e. p e ≡ true → is_among (filter p (x ∷ es)) e ≡ true) x es first (λ k d inside passes. later (slice_index_or es k d) (rest k d inside passes))

pub ticks_leave_the_due : TicksLeaveTheDue
ticks_leave_the_due w running k d inside =
    let e = slice_index_or w.entries k d in
    let later = running k d inside in
    ⊎_elim
    (λ (now : e.expiry ≡ w.ticks + 1). or_right (nat_lt (w.ticks + 1) e.expiry) (is_among (due_now (ticked w)) e)
    (among_kept (λ x. x.expiry == w.ticks + 1) w.entries k d inside (eq-eqb e.expiry (w.ticks + 1) now)))
    (λ not_now. or_left (nat_lt (w.ticks + 1) e.expiry) (is_among (due_now (ticked w)) e) (lt-ltb (w.ticks + 1) e.expiry (omega arith)))
    (cases_eq e.expiry (w.ticks + 1))

pub calls_add_none : CallsAddNone
calls_add_none w ds (Arm id n) may running =
    let new : Armed = record { id = id; expiry = w.ticks + n; arming = w.armings } in
    All-push (λ e. (nat_lt w.ticks e.expiry || is_among ds e) ≡ true) w.entries new running
    (or_left (nat_lt w.ticks (w.ticks + n)) (is_among ds new) (lt-ltb w.ticks (w.ticks + n) (omega (arith, may.2))))
calls_add_none w ds (Disarm id) may running = All-filter (λ e. not (e.id == id)) (λ e. (nat_lt w.ticks e.expiry || is_among ds e) ≡ true) w.entries running

pub turns_take_one : TurnsTakeOne
turns_take_one w d ds wheel over running k x inside =
    let e = slice_index_or w.entries k x in
    let found = found_at w.entries wheel.each_once k x inside in
    ⊎_elim (λ later. or_left (nat_lt w.ticks e.expiry) (is_among ds e) later)
    (λ among. or_right (nat_lt w.ticks e.expiry) (is_among ds e) (⊎_elim
    (λ is_d. let parts = and_parts (d.id == e.id) (d.arming == e.arming) is_d in
    absurd (both_ways (still w d) over (still_here w d e found (eqb-true d.id e.id parts.0) (eqb-true d.arming e.arming parts.1))))
    (λ other. other)
    (or_cases ((d.id == e.id) && (d.arming == e.arming)) (is_among ds e) among)))
    (or_cases (nat_lt w.ticks e.expiry) (is_among (d ∷ ds) e) (running k x inside))

pub none_is_running : NoneIsRunning
none_is_running w running k d inside =
    let e = slice_index_or w.entries k d in
    ⊎_elim (λ later. ltb-true w.ticks e.expiry later) (λ among. let never : false ≡ true = among in absurd (cc))
    (or_cases (nat_lt w.ticks e.expiry) false (running k d inside))

all_over : (w : TimerTable) (ds : List Armed) → IsWheel w → All (λ d. still w d ≡ false) ds → IsRunningBut ds w → IsRunning w
all_over w [] wheel over running = none_is_running w running
all_over w (d ∷ ds) wheel over running =
    all_over w ds wheel (All-tail (λ x. still w x ≡ false) d ds over) (turns_take_one w d ds wheel (All-head (λ x. still w x ≡ false) d ds over) running)

all_keep : (w : TimerTable) (cs : List Call) → IsWheel w → MayCallAll w cs → IsWheel (all_called w cs)
all_keep w [] wheel may = wheel
all_keep w (c ∷ cs) wheel may = all_keep (called w c) cs (calls_keep w c wheel may.0) may.1

all_add_none : (w : TimerTable) (ds : List Armed) (cs : List Call) → MayCallAll w cs → IsRunningBut ds w → IsRunningBut ds (all_called w cs)
all_add_none w ds [] may running = running
all_add_none w ds (c ∷ cs) may running = all_add_none (called w c) ds cs may.1 (calls_add_none w ds c may.0 running)

pub runs_after_the_turns : RunsAfterTheTurns
runs_after_the_turns w cs wheel running more may over =
    all_over (all_called (ticked w) cs) (due_now (ticked w)) (all_keep (ticked w) cs (ticked_keeps w wheel running more) may) over
    (all_add_none (ticked w) (due_now (ticked w)) cs may (ticks_leave_the_due w running))
