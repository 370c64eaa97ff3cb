-- The laws over all calls, from what each call keeps.
use Rattle.std.proofs.Common.{◌≡◌, ℕ, ◌+◌, ◌<◌, ◌==◌, Bool, false, nat_lt, List, [], ◌∷◌, ◌++◌, length, cond, Option, None, Some, option_to_list, refl, ap, sym}
use Rattle.std.proofs.Common.{subst, ◌∙◌, append_assoc, arith}
use Rattle.std.proofs.lemmas.Bool.{le-ltb}
use Rattle.std.proofs.lemmas.Bool.Decides.{nat_tests}
use Rattle.std.proofs.lemmas.List.{append-nil}
use Rattle.std.proofs.lemmas.List.Folds.{sum_by-replicate}
use Rattle.std.proofs.lemmas.List.Sums.{sum_by-set, sum_by-append}
use Rattle.std.specs.Option.{IsSome, option_map}
use Rattle.tx_types.specs.End.{WaitEnd}
use Rattle.tx_types.specs.declared.waits.End.{End}
use Rattle.suspend_lists.specs.Laws.{Call, Begin, Finish, ToFront, called, all_called, MayCallAll, over_by, all_over, CallsKeepTheTable, TotalsKeepTheTable}
use Rattle.suspend_lists.specs.Laws.{RestoresKeepTheTable, AtOnePlace, OnceThere, ElseNowhere, IsWhole, CallsKeepItWhole, times, has_number, pending_times}
use Rattle.suspend_lists.specs.Laws.{IsAccounted, CallsAccount, HistoriesAccount, NextNumberIsNew}
use Rattle.suspend_lists.specs.Waits.{WaitTable, IsTable, new_table, pending, begun, ended, pending_count}
use Rattle.suspend_lists.specs.declared.wait.Pending.{Pending}
use Rattle.suspend_lists.specs.declared.wait.Wait.{Wait}
use Rattle.suspend_lists.proofs.Kept.{is_at, at_Some, some_within, weight, weight_some, ended_more, begun_stays, restored_keeps, ended_keeps, put_first_keeps}
use Rattle.suspend_lists.proofs.Kept.{begins_keeps, next_is_free, new_is_table}

-- what each call keeps

pub calls_keep : CallsKeepTheTable
calls_keep w (Begin t x) table may =
    let counts = table.counts in
    restored_keeps (record w { totals = record w.totals { begun = w.totals.begun + 1 } }) t x w.totals.begun (begins_keeps w table) may.0 may.1 may.2
    (omega arith) (next_is_free w table) (omega arith)
calls_keep w (Finish t e) table may = ended_keeps w t e table may
calls_keep w (ToFront t) table may = put_first_keeps w t table may

pub totals_keep : TotalsKeepTheTable
totals_keep w x table unused fits = record {
  places = table.places;
  threads = table.threads;
  each_once = table.each_once;
  at_its_place = table.at_its_place;
  numbers_below = λ t n is. let below = table.numbers_below t n is in omega arith;
  numbers_apart = table.numbers_apart;
  counts = let counts = table.counts in omega arith;
}

pub restores_keep : RestoresKeepTheTable
restores_keep w t x n table may below unused fits = restored_keeps w t x n table may.0 may.1 may.2 below unused fits

-- a thread waits at most once

pub at_one_place : AtOnePlace
at_one_place w p q t table at_p at_q =
    let is_p = at_Some _ p (sym (table.at_its_place p t) ∙ at_p) in
    let is_q = at_Some _ q (sym (table.at_its_place q t) ∙ at_q) in
    cc

pub once_there : OnceThere
once_there w p table = table.each_once p

pub else_nowhere : ElseNowhere
else_nowhere w p t table none = table.at_its_place p t ∙ ap (λ (o : Option ℕ). is_at o p) none

-- how many

begin_counts : (w : WaitTable) (t : ℕ) (x : Wait) → IsTable w → t < 256 → pending w t ≡ None → pending_count (begun w t x) ≡ pending_count w + 1
begin_counts w t x table low none =
    let new : Option Pending = Some (record { wait = x; number = w.totals.begun }) in
    let inside : t < length w.waits = subst (λ (m : ℕ). t < m) (sym table.threads) low in
    let summed : pending_count (begun w t x) + weight (pending w t) ≡ pending_count w + 1 = sum_by-set weight w.waits t new None inside in
    let old : weight (pending w t) ≡ 0 = ap weight none in
    omega arith

end_counts : (w : WaitTable) (t : ℕ) (e : End) → IsSome (pending w t) → pending_count (ended w t e) + 1 ≡ pending_count w
end_counts w t e some =
    let summed : pending_count (ended w t e) + weight (pending w t) ≡ pending_count w + 0 =
    sum_by-set weight w.waits t None None (some_within w.waits t some) in
    let old = weight_some (pending w t) some in
    omega arith

pub calls_keep_whole : CallsKeepItWhole
calls_keep_whole w (Begin t x) table may whole = let counts = begin_counts w t x table may.0 may.1 in omega arith
calls_keep_whole w (Finish t e) table may whole =
    let counts = end_counts w t e may in
    let more = ended_more w.totals e in
    let stays = begun_stays w.totals e in
    omega arith
calls_keep_whole w (ToFront t) table may whole = whole

pub new_is_whole : IsWhole new_table
new_is_whole = let none : Option Pending = None in let sum = sum_by-replicate weight 256 none in omega arith

-- numbers

abbrev marked : ℕ → Option Pending → ℕ
marked n o = cond (has_number n o) 1 0

begin_accounts : (w : WaitTable) (over : List WaitEnd) (t : ℕ) (x : Wait) → IsTable w → t < 256 → pending w t ≡ None → IsAccounted w over
    → IsAccounted (begun w t x) over
begin_accounts w over t x table low none all n =
    let new : Option Pending = Some (record { wait = x; number = w.totals.begun }) in
    let inside : t < length w.waits = subst (λ (m : ℕ). t < m) (sym table.threads) low in
    let summed : pending_times (begun w t x) n + marked n (pending w t) ≡ pending_times w n + cond (w.totals.begun == n) 1 0 =
    sum_by-set (marked n) w.waits t new None inside in
    let old : marked n (pending w t) ≡ 0 = ap (marked n) none in
    let before = all n in
    grind (arith, nat_tests)

end_accounts : (w : WaitTable) (over : List WaitEnd) (t m : ℕ) (e : End) → IsSome (pending w t)
    → (marked_by : (n : ℕ) → marked n (pending w t) ≡ cond (m == n) 1 0) → IsAccounted w over
    → IsAccounted (ended w t e) (over ++ record { wait = m; how = e } ∷ [])
end_accounts w over t m e some marked_by all n =
    let summed : pending_times (ended w t e) n + marked n (pending w t) ≡ pending_times w n + 0 =
    sum_by-set (marked n) w.waits t None None (some_within w.waits t some) in
    let d : WaitEnd = record { wait = m; how = e } in
    let added : times n (over ++ d ∷ []) ≡ times n over + times n (d ∷ []) =
    sum_by-append (λ (c : WaitEnd). cond (c.wait == n) 1 0) over (d ∷ []) in
    let one : times n (d ∷ []) ≡ cond (m == n) 1 0 = omega arith in
    let old = marked_by n in
    let stays = begun_stays w.totals e in
    let before : pending_times w n + times n over ≡ cond (nat_lt n (ended w t e).totals.begun) 1 0 =
    subst (λ (b : ℕ). pending_times w n + times n over ≡ cond (nat_lt n b) 1 0) (sym stays) (all n) in
    omega arith

pub calls_account : CallsAccount
calls_account w over (Begin t x) table may all = subst (IsAccounted (begun w t x)) (sym (append-nil over)) (begin_accounts w over t x table may.0 may.1 all)
calls_account w over (Finish t e) table may all = by_wait (pending w t) refl may where
  by_wait : (o : Option Pending) → pending w t ≡ o → IsSome o
      → IsAccounted (ended w t e)
      (over ++ option_to_list (option_map (λ n. record { wait = n; how = e }) (option_map (λ p. p.number) o)))
  by_wait None is some = absurd (cc)
  by_wait (Some p) is some = end_accounts w over t p.number e may (λ n. ap (marked n) is) all
calls_account w over (ToFront t) table may all = subst (IsAccounted w) (sym (append-nil over)) all

pub new_is_accounted : IsAccounted new_table []
new_is_accounted n =
    let none : Option Pending = None in
    let sum = sum_by-replicate (marked n) 256 none in
    let never : nat_lt n 0 ≡ false = le-ltb n 0 (omega arith) in
    rw never (omega arith)

all_account : (w : WaitTable) (over : List WaitEnd) (cs : List Call) → IsTable w → MayCallAll w cs → IsAccounted w over
    → IsAccounted (all_called w cs) (over ++ all_over w cs)
all_account w over [] table may all = subst (IsAccounted w) (sym (append-nil over)) all
all_account w over (c ∷ cs) table may all =
    let next = calls_account w over c table may.0 all in
    subst (IsAccounted (all_called (called w c) cs)) (append_assoc over (over_by w c) (all_over (called w c) cs))
    (all_account (called w c) (over ++ over_by w c) cs (calls_keep w c table may.0) may.1 next)

pub histories_account : HistoriesAccount
histories_account cs may = all_account new_table [] cs new_is_table may new_is_accounted

pub next_is_new : NextNumberIsNew
next_is_new w over all =
    let here = all w.totals.begun in
    let not_below : nat_lt w.totals.begun w.totals.begun ≡ false = le-ltb w.totals.begun w.totals.begun (omega arith) in
    let none : pending_times w w.totals.begun + times w.totals.begun over ≡ 0 = here ∙ ap (λ (b : Bool). cond b 1 0) not_below in
    (omega arith, omega arith)
