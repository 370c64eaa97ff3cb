use Rattle.std.proofs.Common.{◌≡◌, Ok, ap, subst, sym, ◌∙◌, arith, rules}
use Rattle.std.proofs.lemmas.List.{take_all}
use Rattle.module_preamble.specs.Preamble.{IsAccepted, preamble}
use Rattle.board_core.specs.Boot.{contents}
use Rattle.board_core.specs.Laid.{AreAccepted}
use Rattle.board_core.proofs.Preambles.{accepted_more, passes, words_more}
use Rattle.board_core.proofs.placing.preambles.Goals as goal

pub loop-i-preserved : goal.loop-i-preserved
loop-i-preserved c =
    let vs = c.args.images.now in
    let i = c.loop-i.i in
    let v = c.index-images-i.result in
    let p = c.in-Ok.p in
    let below = c.loop-i-test.true in
    let is = c.index-images-i.is in
    let bytes = c.deref.ensures.value in
    let accepted = subst (λ image. IsAccepted image p) bytes c.in-Ok.ensures.accepted in
    let read : preamble v.items ≡ Ok p = ap preamble (sym bytes) ∙ sym c.in-Ok.ensures.preamble in
    record {
      words = c.push_reserved.ensures.items ∙ words_more vs i v p c.loop-i.preambles.items below is accepted.words c.loop-i.invariant.words;
      room = search rules;
      accepted = accepted_more vs i v p below is accepted c.loop-i.invariant.accepted;
      due = sym (passes vs i v p below is read) ∙ c.loop-i.invariant.due;
    }

pub returns-clause-accepted : goal.returns-clause-accepted
returns-clause-accepted c =
    subst (λ vs. AreAccepted (contents vs)) (take_all c.loop-i.i c.args.images.now (omega arith)) c.loop-i.invariant.accepted
