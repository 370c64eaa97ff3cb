use Rattle.std.proofs.Common.{◌≡◌, true, IsSome, slice_index_or, ap, subst, sym, ◌∙◌}
use Rattle.std.proofs.lemmas.Bool.{cond-true}
use Rattle.soft_timers.specs.Timers.{armed, still}
use Rattle.soft_timers.specs.declared.due.Armed.{Armed}
use Rattle.kernel_state.specs.Change.{Change, quiet}
use Rattle.kernel_state.specs.Ticks.{expired}
use Rattle.kernel_state.proofs.TickChanges.{still_armed}
use Rattle.kernel_state.proofs.kernel.Kernel.take_turn.Goals as goal

pub expire-requires-clause-armed : goal.expire-requires-clause-armed
expire-requires-clause-armed c =
    let k = c.args.self.now in
    let none : Armed = record { id = 0; expiry = 0; arming = 0 } in
    let d = slice_index_or k.due c.args.i none in
    let is : still k.wheel d ≡ true = sym (c.is_still_armed.ensures none) ∙ c.if-is_still_armed.true in
    subst (λ id. IsSome (armed k.wheel id)) (sym (c.due_at-id.ensures none)) (still_armed (armed k.wheel d.id) d.arming is)

pub returns-then-is_still_armed-clause-kernel : goal.returns-then-is_still_armed-clause-kernel
returns-then-is_still_armed-clause-kernel c = λ none.
    let k = c.args.self.now in
    let g = c.args.g.now in
    let d = slice_index_or k.due c.args.i none in
    let is : still k.wheel d ≡ true = sym (c.is_still_armed.ensures none) ∙ c.if-is_still_armed.true in
    c.expire.ensures.kernel
    ∙ (ap (λ id. (expired k g id).kernel) (c.due_at-id.ensures none) ∙ ap
    (λ (x : Change). x.kernel) (sym (cond-true (still k.wheel d) (expired k g d.id) (quiet k g) is)))
