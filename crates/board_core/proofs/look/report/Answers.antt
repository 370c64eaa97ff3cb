use Rattle.std.proofs.Common.{◌≡◌, ℕ, ◌<◌, List, length, All, sym, subst, arith, rules, ◌∙◌}
use Rattle.board_report.specs.Printable.{IsNumbers, IsPrintable}
use Rattle.board_values.specs.declared.report.ObjectRow.{ObjectRow}
use Rattle.board_values.specs.declared.report.ThreadRow.{ThreadRow}
use Rattle.board_core.specs.Machine.{shown}
use Rattle.board_core.specs.Report.{report_of}
use Rattle.board_core.specs.World.{World}
use Rattle.board_core.proofs.Printing.{report_is_printable}
use Rattle.board_core.proofs.look.report.Goals as goal

-- no more ticks came than there were events
pub ticks-requires : goal.ticks-requires
ticks-requires c =
    let world = c.requires in omega (arith, world.counts.ticks, world.steps, world.irqs)

pub returns-clause-report : goal.returns-clause-report
unfolding report_of
returns-clause-report c = search rules

pub returns-clause-printable : goal.returns-clause-printable
returns-clause-printable c =
    let w : World = shown c.args.board.now c.args.parts.now c.args.history.now.entries in
    let held : c.in_ok-thread_numbers.field-0 ≡ w.parts.kernel.ready.held = c.in_ok-thread_numbers.ensures.same ∙ c.deref.ensures.value
    ∙ c.in_ok-held_list.ensures in
    let small = subst (λ (ns : List ℕ). All (λ n. n < 256) ns) held c.in_ok-thread_numbers.ensures.small in
    let regs =
    subst (λ (ts : List ThreadRow). All (λ (t : ThreadRow). length t.regs ≡ 31) ts) c.in_ok-thread_rows.ensures.rows c.in_ok-thread_rows.ensures.regs in
    let waits =
    subst (λ (os : List ObjectRow). All (λ (o : ObjectRow). IsNumbers o.waits) os) c.in_ok-object_rows.ensures.rows c.in_ok-object_rows.ensures.waits in
    subst IsPrintable (sym (returns-clause-report c)) (report_is_printable w c.requires small regs waits)
