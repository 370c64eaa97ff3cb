use Rattle.std.proofs.Common.{length, sym, ◌∙◌, subst, arith}
use Rattle.irq_inbox.specs.Seen.{AreAllOf}
use Rattle.board_live.proofs.Begun.{words_begun}
use Rattle.board_live.proofs.apart.take_apart.Goals as goal

pub returns-clause-begun : goal.returns-clause-begun
returns-clause-begun g c =
    let h = c.args.core.holds in
    let devices = g.O.Session.origin.board.devices in
    let history = c.args.core.machine.history in
    let is = (c.a_history_stays_one.ensures.tested (length devices) history).0 h.history in
    record {
      history = is;
      words = words_begun c.words_are_those_of_interrupts.ensures devices c.args.devs.items history c.args.core.pass.got
          c.gather.ensures.sent.0 is h.taken c.requires.devs.0 c.requires.sent
          (λ d lt. c.gather.ensures.sent.1 d (omega (arith, lt, h.devices)));
      steps = h.steps;
    }

pub returns-clause-got : goal.returns-clause-got
returns-clause-got g c = (c.close.ensures.0, sym c.args.core.holds.entries ∙ c.close.ensures.1)

pub gather-requires-clause-devs : goal.gather-requires-clause-devs
gather-requires-clause-devs g c =
    let h = c.args.core.holds in
    let n = length g.O.Session.origin.board.devices in
    let devs = c.args.devs.items in
    subst (λ k. AreAllOf c.args.core.inbox.now k devs) (sym h.devices) (subst (λ i. AreAllOf i n devs) (sym h.its_inbox) c.requires.devs)
