-- The waits of all who wait for an object end, one after another.
use Rattle.std.proofs.Common.{◌≡◌, ◌≢◌, ℕ, ◌<◌, ◌≤◌, ◌==◌, true, false, List, [], ◌∷◌, All, length, drop, slice_get, Option, None, Some, IsSome, refl, sym, ap, ◌∙◌, subst, ⊎_elim, arith}
use Rattle.std.specs.List.{slice_index_or}
use Rattle.std.specs.Option.{option_and_then, option_map, option_to_list}
use Rattle.std.proofs.lemmas.Bool.{cases_eq, cases_lt, cond_both, eq-eqb, eqb-false, or_left, or_right, or_parts}
use Rattle.std.proofs.lemmas.List.{get_or-set_same, get_or-set_other, length-set, set_past}
use Rattle.std.proofs.lemmas.List.Elements.{All-append, All-cons, All-head, All-nil, All-tail, All-weaker}
use Rattle.tx_types.specs.End.{WaitEnd}
use Rattle.tx_types.specs.declared.state.State.TheVariants.{Ready, Suspended}
use Rattle.tx_types.specs.declared.waits.End.{End}
use Rattle.tx_types.specs.declared.waits.End.TheVariants.{Satisfied, TimedOut, Aborted, Deleted, Gone}
use Rattle.region_guard.specs.Memory.{Memory}
use Rattle.suspend_lists.specs.Laws.{RestIsLeft, StandsWhereItWaits, WaitsStay}
use Rattle.suspend_lists.specs.ThreadList.{has}
use Rattle.suspend_lists.specs.Wait.{place}
use Rattle.suspend_lists.specs.Waits.{WaitTable, ended as ended_wait, number_of, pending, wait_of, waiters}
use Rattle.suspend_lists.specs.declared.wait.Pending.{Pending}
use Rattle.suspend_lists.specs.declared.wait.Wait.{Wait}
use Rattle.kernel_state.specs.Change.{quiet}
use Rattle.kernel_state.specs.Kernel.{module_of, thread, with_thread}
use Rattle.kernel_state.specs.ObjectLaws.{AllEndedCallsWaits, AllEndedChangesThreads, AllEndedEndsThem, AllEndedKeepsMemory, AllEndedKeepsServing, AllEndedKeepsSound, AllEndedLeavesNone, AllEndedRaisesNone, AllEndedSparesThreads, EndsByCalls, HasNoResult, IsEndOf, SparesThreads, with_ended}
use Rattle.kernel_state.specs.Objects.{all_ended, waiters_of}
use Rattle.kernel_state.specs.Readying.{made_ready}
use Rattle.kernel_state.specs.Room.{RaisesCounts}
use Rattle.kernel_state.specs.Serves.{Serves}
use Rattle.kernel_state.specs.Sound.{IsSound}
use Rattle.kernel_state.specs.Thread.{blank_thread, is_over}
use Rattle.kernel_state.specs.ThreadLaws.{Leaves}
use Rattle.kernel_state.specs.WaitCalls.{OnlyEnds}
use Rattle.kernel_state.specs.WaitLaws.{FollowedCallsWaits, LeftCallsWaits, WaitEndCallsWaits, WaitEndKeepsServing, WaitEndKeepsSound, WaitEndRaisesNone}
use Rattle.kernel_state.specs.Waiting.{answer_of, left_wait, released, result_of, suspended_at_last, wait_ended, with_answer_to, with_result}
use Rattle.kernel_state.specs.declared.kernel.Kernel.{Kernel}
use Rattle.kernel_state.specs.declared.thread.Thread.{Thread}
use Rattle.kernel_state.proofs.Ends.{by_answer, by_release, waiter_below, waiter_is_thread, wait_ended-waits}
use Rattle.kernel_state.proofs.Sound.{thread_of}
use Rattle.kernel_state.proofs.States.{waits_if_some, waits_not_over}
use Rattle.kernel_state.proofs.WaitCalls.{number_stays}

-- the laws of the table of waits on who waits at a place, and of the kernel on the end of a wait
pub record Places : Type 0 where
  pub next : RestIsLeft
  pub each : StandsWhereItWaits

pub record EndLaws : Type 0 where
  pub places : Places
  pub sound : WaitEndKeepsSound
  pub calls : WaitEndCallsWaits
  pub left : LeftCallsWaits
  pub followed : FollowedCallsWaits

-- the first of a list
pub first_is : (xs : List ℕ) (t : ℕ) → slice_get xs 0 ≡ Some t → xs ≡ t ∷ drop 1 xs
first_is [] t is = absurd (cc)
first_is (x ∷ xs) t is = let same : x ≡ t = cc in ap (λ (y : ℕ). y ∷ xs) same

pub none_is : (xs : List ℕ) → slice_get xs 0 ≡ None → xs ≡ []
none_is [] is = refl
none_is (x ∷ xs) is = absurd (cc)

-- who waits for an object is in a wait
pub waiter_waits : StandsWhereItWaits → (k : Kernel) (o t : ℕ) → IsSound k → has t (waiters_of k o) ≡ true → IsSome (wait_of k.waits t)
waiter_waits each k o t sound there = by_pending (pending k.waits t) ((each k.waits o t sound.formed.waits).0 there) where
  by_pending : (p : Option Pending) → option_and_then (λ x. place x.wait.on) p ≡ Some o → IsSome (option_map (λ x. x.wait) p)
  by_pending None at = absurd (cc)
  by_pending (Some x) at = refl

pub first_stands : (t : ℕ) (ts : List ℕ) → has t (t ∷ ts) ≡ true
first_stands t ts = or_left (t == t) (has t ts) (eq-eqb t t refl)

-- the first waiter of an object, as its wait is to end: it is in one, and the others are left
pub record IsNext (k : Kernel) (g : Memory) (o : ℕ) (e : End) (t : ℕ) (ts : List ℕ) : Type 0 where
  pub sound : IsSound k
  pub is : waiters_of k o ≡ t ∷ ts
  pub waits : IsSome (wait_of k.waits t)
  pub rest : waiters_of (wait_ended k g t e []).kernel o ≡ ts
  pub sound_after : IsSound (wait_ended k g t e []).kernel

pub next_is : Places → WaitEndKeepsSound → (e : End) → e ≢ Gone → (o t : ℕ) (ts : List ℕ) (k : Kernel) (g : Memory) → IsSound k → waiters_of k o ≡ t ∷ ts
    → IsNext k g o e t ts
next_is places ends e stays o t ts k g sound is =
    let waits = waiter_waits places.each k o t sound (ap (has t) is ∙ first_stands t ts) in
    record {
      sound = sound;
      is = is;
      waits = waits;
      rest = ap (λ (w : WaitTable). waiters w (Some o)) (wait_ended-waits k g t e []) ∙ places.next k.waits o t ts e sound.formed.waits is;
      sound_after = ends [] k g t e [] sound waits stays;
    }

-- what holds of none and comes from the rest to the first holds of all
pub all_ended_by : Places → WaitEndKeepsSound → (e : End) → e ≢ Gone → (o : ℕ) (P : List ℕ → Kernel → Memory → Type 0)
    → ((k : Kernel) (g : Memory) → IsSound k → waiters_of k o ≡ [] → P [] k g)
    → ((t : ℕ) (ts : List ℕ) (k : Kernel) (g : Memory) → IsNext k g o e t ts → P ts (wait_ended k g t e []).kernel (wait_ended k g t e []).memory
    → P (t ∷ ts) k g)
    → (ts : List ℕ) (k : Kernel) (g : Memory) → IsSound k → waiters_of k o ≡ ts → P ts k g
all_ended_by places ends e stays o P none more [] k g sound is = none k g sound is
all_ended_by places ends e stays o P none more (t ∷ ts) k g sound is =
    let next = next_is places ends e stays o t ts k g sound is in
    let c = wait_ended k g t e [] in
    more t ts k g next (all_ended_by places ends e stays o P none more ts c.kernel c.memory next.sound_after next.rest)

pub all_ended_keeps_serving : Places → WaitEndKeepsSound → WaitEndKeepsServing → AllEndedKeepsServing
all_ended_keeps_serving places ends serving k g o e serves stays =
    all_ended_by places ends e stays o (λ ts j h. Serves j h → Leaves (all_ended e ts j h))
    (λ j h sound none before. before)
    (λ t ts j h next rest before. rest (serving j h t e [] before next.waits stays))
    (waiters_of k o) k g serves.sound refl serves

pub all_ended_keeps_sound : Places → WaitEndKeepsSound → AllEndedKeepsSound
all_ended_keeps_sound places ends k g o e sound stays =
    all_ended_by places ends e stays o (λ ts j h. IsSound (all_ended e ts j h).kernel) (λ j h before none. before) (λ t ts j h next rest. rest)
    (waiters_of k o) k g sound refl

pub all_ended_leaves_none : Places → WaitEndKeepsSound → AllEndedLeavesNone
all_ended_leaves_none places ends k g o e sound stays =
    all_ended_by places ends e stays o (λ ts j h. waiters_of (all_ended e ts j h).kernel o ≡ []) (λ j h before none. none) (λ t ts j h next rest. rest)
    (waiters_of k o) k g sound refl

-- an entry that is set, in a part that stays
with_thread-part : {X : Type 0} (part : Thread → X) (k : Kernel) (t u : ℕ) (now : Thread) → part now ≡ part (thread k t)
    → part (thread (with_thread k t now) u) ≡ part (thread k u)
with_thread-part part k t u now same =
    ⊎_elim
    (λ (here : u ≡ t). subst (λ n. part (thread (with_thread k t now) n) ≡ part (thread k n)) (sym here)
    (⊎_elim
    (λ (inside : t < length k.threads). ap part (get_or-set_same k.threads t now blank_thread inside) ∙ same)
    (λ (past : length k.threads ≤ t). ap (λ ts. part (slice_index_or ts t blank_thread)) (set_past k.threads t now past))
    (cases_lt t (length k.threads))))
    (λ (other : u ≢ t). ap part (get_or-set_other k.threads t u now blank_thread other))
    (cases_eq u t)

-- the end of a wait leaves the other threads, and each thread's module
pub wait_ended-others : (k : Kernel) (g : Memory) (t u : ℕ) (e : End) (value : List ℕ) → u ≢ t → thread (wait_ended k g t e value).kernel u ≡ thread k u
wait_ended-others k g t u e value other =
    by_answer (left_wait k t e) t e (answer_of (wait_of k.waits t) e) (λ j. thread j u)
    (λ now. get_or-set_other now.threads t u _ blank_thread other) (λ now. get_or-set_other now.threads t u _ blank_thread other)
    (λ a0. get_or-set_other k.threads t u _ blank_thread other)

pub wait_ended-module : (k : Kernel) (g : Memory) (t u : ℕ) (e : End) (value : List ℕ) → module_of (wait_ended k g t e value).kernel u ≡ module_of k u
wait_ended-module k g t u e value =
    by_answer (left_wait k t e) t e (answer_of (wait_of k.waits t) e) (λ j. module_of j u)
    (λ now. with_thread-part (λ (x : Thread). x.module) now t u _ refl) (λ now. with_thread-part (λ (x : Thread). x.module) now t u _ refl)
    (λ a0. with_thread-part (λ (x : Thread). x.module) k t u _ refl)

-- and all but threads, scheduler, waits and timeouts
wait_ended-rest : (k : Kernel) (g : Memory) (t : ℕ) (e : End) (value : List ℕ)
    → (wait_ended k g t e value).kernel ≡ with_ended k (wait_ended k g t e value).kernel
wait_ended-rest k g t e value = by_answered (answer_of (wait_of k.waits t) e) where
  by_answered : (a : Option ℕ) → released (with_answer_to (left_wait k t e) t a) t e ≡ with_ended k (released (with_answer_to (left_wait k t e) t a) t e)
  by_answered None = by_release (left_wait k t e) t e (λ j. j ≡ with_ended k j) refl refl refl
  by_answered (Some a0) = by_release (with_answer_to (left_wait k t e) t (Some a0)) t e (λ j. j ≡ with_ended k j) refl refl refl

-- who goes on is over no more than who waited
goes_on : (j : Kernel) (t : ℕ) (e : End) (P : Kernel → Type 0) → e ≢ Gone → P (suspended_at_last j t) → P (made_ready j t) → P (released j t e)
goes_on j t Satisfied P stays held ready = cond_both (thread j t).held (suspended_at_last j t) (made_ready j t) P (λ _. held) (λ _. ready)
goes_on j t TimedOut P stays held ready = cond_both (thread j t).held (suspended_at_last j t) (made_ready j t) P (λ _. held) (λ _. ready)
goes_on j t Aborted P stays held ready = cond_both (thread j t).held (suspended_at_last j t) (made_ready j t) P (λ _. held) (λ _. ready)
goes_on j t Deleted P stays held ready = cond_both (thread j t).held (suspended_at_last j t) (made_ready j t) P (λ _. held) (λ _. ready)
goes_on j t Gone P stays held ready = absurd (stays refl)

released_not_over : (j : Kernel) (t : ℕ) (e : End) → e ≢ Gone → t < length j.threads → is_over (thread (released j t e) t).state ≡ false
released_not_over j t e stays inside =
    goes_on j t e (λ i. is_over (thread i t).state ≡ false) stays
    (ap (λ (x : Thread). is_over x.state) (get_or-set_same j.threads t (record (thread j t) { state = Suspended; held = false }) blank_thread inside))
    (ap (λ (x : Thread). is_over x.state) (get_or-set_same j.threads t (record (thread j t) { state = Ready; left = (thread j t).slice }) blank_thread inside))

answered_size : (j : Kernel) (t : ℕ) (a : Option ℕ) → length (with_answer_to j t a).threads ≡ length j.threads
answered_size j t None = refl
answered_size j t (Some a0) = length-set j.threads t _

wait_ended-over : (k : Kernel) (g : Memory) (t u : ℕ) (e : End) → IsSound k → IsSome (wait_of k.waits t) → e ≢ Gone
    → is_over (thread (wait_ended k g t e []).kernel u).state ≡ is_over (thread k u).state
wait_ended-over k g t u e sound some stays =
    ⊎_elim
    (λ (here : u ≡ t). subst (λ n. is_over (thread (wait_ended k g t e []).kernel n).state ≡ is_over (thread k n).state) (sym here)
    (let a = answer_of (wait_of k.waits t) e in
    let left = left_wait k t e in
    let inside : t < length (with_answer_to left t a).threads = omega (arith, answered_size left t a, sound.formed.threads, waiter_below [] k t sound some) in
    let was = thread_of [] k t sound (waiter_is_thread [] k t sound some) in
    released_not_over (with_answer_to left t a) t e stays inside
    ∙ sym (waits_not_over (thread k t).state (waits_if_some (thread k t).state (wait_of k.waits t) some was.wait))))
    (λ (other : u ≢ t). ap (λ (x : Thread). is_over x.state) (wait_ended-others k g t u e [] other))
    (cases_eq u t)

-- the ends of all leave what that of each leaves
more_spared : (t : ℕ) (ts : List ℕ) (k : Kernel) (g : Memory) (o : ℕ) (e : End) → e ≢ Gone → IsNext k g o e t ts
    → SparesThreads ts (wait_ended k g t e []).kernel (all_ended e ts (wait_ended k g t e []).kernel (wait_ended k g t e []).memory).kernel
    → SparesThreads (t ∷ ts) k (all_ended e (t ∷ ts) k g).kernel
more_spared t ts k g o e stays next rest = record {
  others = λ u absent. let parts = or_parts (u == t) (has u ts) absent in
      rest.others u parts.1 ∙ wait_ended-others k g t u e [] (eqb-false u t parts.0);
  modules = λ u. rest.modules u ∙ wait_ended-module k g t u e [];
  over = λ u. rest.over u ∙ wait_ended-over k g t u e next.sound next.waits stays;
}

pub all_ended_spares_threads : Places → WaitEndKeepsSound → AllEndedSparesThreads
all_ended_spares_threads places ends k g o e sound stays =
    all_ended_by places ends e stays o (λ ts j h. SparesThreads ts j (all_ended e ts j h).kernel)
    (λ j h before none. record { others = λ u absent. refl; modules = λ u. refl; over = λ u. refl })
    (λ t ts j h next rest. more_spared t ts j h o e stays next rest)
    (waiters_of k o) k g sound refl

pub all_ended_changes_threads : AllEndedChangesThreads
all_ended_changes_threads k g e [] = refl
all_ended_changes_threads k g e (t ∷ ts) =
    let c = wait_ended k g t e [] in
    let now = (all_ended e ts c.kernel c.memory).kernel in
    all_ended_changes_threads c.kernel c.memory e ts ∙ ap (λ j. with_ended j now) (wait_ended-rest k g t e [])

-- no end of a wait is a beginning
none_more : (k j l : Kernel) → RaisesCounts 0 k j → RaisesCounts 0 j l → RaisesCounts 0 k l
none_more k j l one more = record {
  begun = omega (arith, one.begun, more.begun);
  armings = omega (arith, one.armings, more.armings);
  ticks = omega (arith, one.ticks, more.ticks);
}

pub none_raised : (k : Kernel) → RaisesCounts 0 k k
none_raised k = record { begun = omega arith; armings = omega arith; ticks = omega arith }

pub all_ended_raises_none : WaitEndRaisesNone → AllEndedRaisesNone
all_ended_raises_none one k g e [] = none_raised k
all_ended_raises_none one k g e (t ∷ ts) =
    let c = wait_ended k g t e [] in
    none_more k c.kernel (all_ended e ts c.kernel c.memory).kernel (one k g t e []) (all_ended_raises_none one c.kernel c.memory e ts)

-- no byte changes where no wait has a result: a thread that left its wait has none either
none_of : (e : End) → result_of None e ≡ None
none_of Satisfied = refl
none_of TimedOut = refl
none_of Aborted = refl
none_of Deleted = refl
none_of Gone = refl

pub still_none : WaitsStay → (k : Kernel) (g : Memory) (t u : ℕ) (e : End) → HasNoResult k e u → HasNoResult (wait_ended k g t e []).kernel e u
still_none stay k g t u e none =
    ap (λ (w : WaitTable). result_of (wait_of w u) e) (wait_ended-waits k g t e [])
    ∙ ⊎_elim
    (λ (here : u ≡ t). subst (λ n. result_of (wait_of (ended_wait k.waits t e) n) e ≡ None) (sym here)
    (ap (λ (o : Option Wait). result_of o e) (stay.over k.waits t e) ∙ none_of e))
    (λ (other : u ≢ t). ap (λ (o : Option Wait). result_of o e) (stay.end k.waits t u e other) ∙ none)
    (cases_eq u t)

pub all_ended_keeps_memory : WaitsStay → AllEndedKeepsMemory
all_ended_keeps_memory stay k g e [] none = refl
all_ended_keeps_memory stay k g e (t ∷ ts) none =
    let c = wait_ended k g t e [] in
    let here : c.memory ≡ g = ap (λ (o : Option ℕ). with_result g o []) (All-head (HasNoResult k e) t ts none) in
    all_ended_keeps_memory stay c.kernel c.memory e ts
    (All-weaker (HasNoResult k e) (HasNoResult c.kernel e) (λ u of_u. still_none stay k g t u e of_u) ts (All-tail (HasNoResult k e) t ts none)) ∙ here

-- which waits end, and how
ended_here : (k : Kernel) (t : ℕ) (ts : List ℕ) (e : End) (n : Option ℕ) → number_of k.waits t ≡ n
    → All (IsEndOf k (t ∷ ts) e) (option_to_list (option_map (λ i. record { wait = i; how = e }) n))
ended_here k t ts e None is = All-nil (IsEndOf k (t ∷ ts) e)
ended_here k t ts e (Some n) is =
    All-cons (IsEndOf k (t ∷ ts) e) (record { wait = n; how = e }) [] (refl, (t, first_stands t ts, is)) (All-nil (IsEndOf k (t ∷ ts) e))

later_end : (k : Kernel) (g : Memory) (t : ℕ) (ts : List ℕ) (e : End) (d : WaitEnd) → IsEndOf (wait_ended k g t e []).kernel ts e d → IsEndOf k (t ∷ ts) e d
later_end k g t ts e d it =
    let of_u = it.1 in
    let u = of_u.0 in (
      it.0,
      (
        u,
        or_right (u == t) (has u ts) of_u.1,
        number_stays k.waits t u d.wait e (subst (λ w. number_of w u ≡ Some d.wait) (wait_ended-waits k g t e []) of_u.2),
      ),
    )

pub all_ended_ends_them : AllEndedEndsThem
all_ended_ends_them k g e [] = All-nil (IsEndOf k [] e)
all_ended_ends_them k g e (t ∷ ts) =
    let c = wait_ended k g t e [] in
    let rest = all_ended e ts c.kernel c.memory in
    let its = IsEndOf k (t ∷ ts) e in
    All-append its c.ends rest.ends
    (All-append its _ [] (ended_here k t ts e (number_of k.waits t) refl) (All-nil its))
    (All-weaker (IsEndOf c.kernel ts e) its (λ d it. later_end k g t ts e d it) rest.ends (all_ended_ends_them c.kernel c.memory e ts))

-- the calls of the table of waits
pub only_ends_more : (k j l : Kernel) → OnlyEnds k j → OnlyEnds j l → OnlyEnds k l
only_ends_more k j l one more = record {
  numbers = λ t n is. one.numbers t n (more.numbers t n is);
  over = λ t was. more.over t (one.over t was);
}

pub only_if_same : (k now : Kernel) → now.waits ≡ k.waits → ((t : ℕ) → thread now t ≡ thread k t) → OnlyEnds k now
only_if_same k now waits threads = record {
  numbers = λ t n is. sym (ap (λ (w : WaitTable). number_of w t) waits) ∙ is;
  over = λ t was. ap (λ (x : Thread). is_over x.state) (threads t) ∙ was;
}

wait_end_only_ends : (k : Kernel) (g : Memory) (t : ℕ) (e : End) → IsSound k → IsSome (wait_of k.waits t) → e ≢ Gone → OnlyEnds k (wait_ended k g t e []).kernel
wait_end_only_ends k g t e sound some stays = record {
  numbers = λ u n is. number_stays k.waits t u n e (subst (λ w. number_of w u ≡ Some n) (wait_ended-waits k g t e []) is);
  over = λ u was. wait_ended-over k g t u e sound some stays ∙ was;
}

pub all_ended_calls_waits : EndLaws → AllEndedCallsWaits
all_ended_calls_waits laws k g o e sound stays =
    all_ended_by laws.places laws.sound e stays o (λ ts j h. EndsByCalls j (all_ended e ts j h))
    (λ j h before none. record {
      calls = laws.left j (quiet j h) (record { waits = refl; wheel = refl; ends = refl });
      only_ends = only_if_same j j refl (λ t. refl);
    })
    (λ t ts j h next rest.
    let c = wait_ended j h t e [] in
    let d = all_ended e ts c.kernel c.memory in
    let one = wait_end_only_ends j h t e next.sound next.waits stays in record {
      calls = laws.followed j c d (laws.calls j h t e [] next.sound next.waits stays) one rest.calls rest.only_ends;
      only_ends = only_ends_more j c.kernel d.kernel one rest.only_ends;
    })
    (waiters_of k o) k g sound refl
