use Rattle.std.proofs.Common.{ℕ, ◌<◌, ◌≤◌, List, [], length, Some, subst, sym, arith}
use Rattle.std.proofs.lemmas.List.{get_or_read}
use Rattle.suspend_lists.specs.Waits.{WaitTable}
use Rattle.suspend_lists.proofs.Kept.{few_at}
use Rattle.suspend_lists.proofs.waits.Waits.len.Goals as goal

pub overflow_cast-result : goal.overflow_cast-result
overflow_cast-result c =
    let w : WaitTable = record { totals = c.self.inside.totals; lists = c.self.inside.lists.items; waits = c.self.inside.waits.items } in
    let inside : c.in-Some.p < length w.lists = subst (λ (n : ℕ). c.in-Some.p < n) (sym c.self.invariant.places) c.in-Some.ensures.below in
    let read = get_or_read w.lists c.in-Some.p c.index.result.now inside c.index.ensures [] in
    let few : c.len.result ≤ 256 =
    subst (λ (n : ℕ). n ≤ 256) (sym c.len.ensures) (subst (λ (us : List ℕ). length us ≤ 256) (sym read) (few_at w (Some c.in-Some.p) c.self.invariant)) in
    omega arith
