-- Each total is the number of waits that ended so.
use Rattle.std.proofs.Common.{◌≡◌, ℕ, ◌+◌, ◌==◌, List, [], ◌∷◌, ◌++◌, cond, Option, None, Some, option_to_list, sym, subst, append_assoc, arith}
use Rattle.std.proofs.lemmas.List.{append-nil}
use Rattle.std.proofs.lemmas.List.Sums.{sum_by-append}
use Rattle.std.specs.Option.{IsSome, option_map}
use Rattle.tx_types.specs.End.{WaitEnd}
use Rattle.tx_types.specs.declared.waits.End.{End}
use Rattle.tx_types.specs.declared.waits.End.TheVariants.{Satisfied, TimedOut, Aborted, Deleted, Gone}
use Rattle.tx_types.specs.declared.waits.Totals.{Totals}
use Rattle.suspend_lists.specs.Laws.{Call, Begin, Finish, ToFront, called, all_called, MayCallAll, over_by, all_over, end_number, ended_so, IsCounted}
use Rattle.suspend_lists.specs.Laws.{CallsCount, HistoriesCount}
use Rattle.suspend_lists.specs.Waits.{WaitTable, new_table, pending, begun, counted}
use Rattle.suspend_lists.specs.declared.wait.Pending.{Pending}

-- one wait more that ended so
ended_so-push : (f e : End) (n : ℕ) (over : List WaitEnd)
    → ended_so f (over ++ record { wait = n; how = e } ∷ []) ≡ ended_so f over + cond (end_number e == end_number f) 1 0
ended_so-push f e n over =
    let d : WaitEnd = record { wait = n; how = e } in
    let joined : ended_so f (over ++ d ∷ []) ≡ ended_so f over + ended_so f (d ∷ []) =
    sum_by-append (λ (c : WaitEnd). cond (end_number c.how == end_number f) 1 0) over (d ∷ []) in
    let one : ended_so f (d ∷ []) ≡ cond (end_number e == end_number f) 1 0 = omega arith in
    omega arith

-- one total is one more, and the others stay
counted_more : (x : Totals) (e : End)
    → ((counted x e).satisfied ≡ x.satisfied + cond (end_number e == 0) 1 0)
    × ((counted x e).timed_out ≡ x.timed_out + cond (end_number e == 1) 1 0)
    × ((counted x e).aborted ≡ x.aborted + cond (end_number e == 2) 1 0)
    × ((counted x e).deleted ≡ x.deleted + cond (end_number e == 3) 1 0)
    × ((counted x e).gone ≡ x.gone + cond (end_number e == 4) 1 0)
counted_more x Satisfied = (omega arith, omega arith, omega arith, omega arith, omega arith)
counted_more x TimedOut = (omega arith, omega arith, omega arith, omega arith, omega arith)
counted_more x Aborted = (omega arith, omega arith, omega arith, omega arith, omega arith)
counted_more x Deleted = (omega arith, omega arith, omega arith, omega arith, omega arith)
counted_more x Gone = (omega arith, omega arith, omega arith, omega arith, omega arith)

one_more_counts : (x : Totals) (over : List WaitEnd) (n : ℕ) (e : End) → IsCounted x over
    → IsCounted (counted x e) (over ++ record { wait = n; how = e } ∷ [])
one_more_counts x over n e all =
    let more = counted_more x e in
    record {
      satisfied = let was = all.satisfied in let push = ended_so-push Satisfied e n over in omega arith;
      timed_out = let was = all.timed_out in let push = ended_so-push TimedOut e n over in omega arith;
      aborted = let was = all.aborted in let push = ended_so-push Aborted e n over in omega arith;
      deleted = let was = all.deleted in let push = ended_so-push Deleted e n over in omega arith;
      gone = let was = all.gone in let push = ended_so-push Gone e n over in omega arith;
    }

pub calls_count : CallsCount
calls_count w over (Begin t x) may all = subst (IsCounted (begun w t x).totals) (sym (append-nil over)) same where
  same : IsCounted (begun w t x).totals over
  same = record {
    satisfied = all.satisfied;
    timed_out = all.timed_out;
    aborted = all.aborted;
    deleted = all.deleted;
    gone = all.gone;
  }
calls_count w over (Finish t e) may all = by_wait (pending w t) may where
  by_wait : (o : Option Pending) → IsSome o
      → IsCounted (counted w.totals e)
      (over ++ option_to_list (option_map (λ n. record { wait = n; how = e }) (option_map (λ p. p.number) o)))
  by_wait None some = absurd (cc)
  by_wait (Some p) some = one_more_counts w.totals over p.number e all
calls_count w over (ToFront t) may all = subst (IsCounted w.totals) (sym (append-nil over)) all

all_count : (w : WaitTable) (over : List WaitEnd) (cs : List Call) → MayCallAll w cs → IsCounted w.totals over
    → IsCounted (all_called w cs).totals (over ++ all_over w cs)
all_count w over [] may all = subst (IsCounted w.totals) (sym (append-nil over)) all
all_count w over (c ∷ cs) may all =
    let next = calls_count w over c may.0 all in
    subst (IsCounted (all_called (called w c) cs).totals) (append_assoc over (over_by w c) (all_over (called w c) cs))
    (all_count (called w c) (over ++ over_by w c) cs may.1 next)

new_is_counted : IsCounted new_table.totals []
new_is_counted = record {
  satisfied = omega arith;
  timed_out = omega arith;
  aborted = omega arith;
  deleted = omega arith;
  gone = omega arith;
}

pub histories_count : HistoriesCount
histories_count cs may = all_count new_table [] cs may new_is_counted
