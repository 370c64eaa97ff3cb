use Rattle.std.proofs.Common.{rules, ◌≡◌, ◌++◌, ◌∷◌, [], slice_set, subst, arith}
use Rattle.event_log.specs.declared.entry.Entry.TheVariants.{Irq}
use Rattle.board_serve.specs.Got.{Counted}
use Rattle.board_serve.proofs.Counts.{counts_one}
use Rattle.board_serve.proofs.writer.count_entry.Goals as goal

pub returns-then-at-counts-clause-counted : goal.returns-then-at-counts-clause-counted
returns-then-at-counts-clause-counted c got h =
    let at = c.number-at.result in
    let is : Irq at c.in-Irq.field-1 ≡ c.args.e.now = search rules in
    subst (λ e. Counted (slice_set c.args.counts.now at c.saturating_add.result) (got ++ e ∷ [])) is
    (counts_one at c.in-Irq.field-1 c.saturating_add.result c.args.counts.now got (omega (arith, c.if-at-counts.true)) (search rules) h)
