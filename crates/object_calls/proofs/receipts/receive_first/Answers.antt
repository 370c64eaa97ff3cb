use Rattle.std.proofs.Common.{◌≡◌, ℕ, List, [], Option, IfSome, ap, subst, sym, ◌∙◌}
use Rattle.call_arguments.specs.Words.{with_words}
use Rattle.kernel_state.specs.Change.{Change}
use Rattle.object_calls.specs.QueueRows.{received}
use Rattle.object_calls.proofs.Receiving.{end_by_parts, exchanged, received_with_sender}
use Rattle.object_calls.proofs.receipts.receive_first.Goals as goal

pub returns-in-Some-clause-kernel : goal.returns-in-Some-clause-kernel
returns-in-Some-clause-kernel c =
    let k = c.args.k.now in
    let g = c.args.g.now in
    let m = c.exchange-message.result in
    let to = c.args.to in
    let t = c.in-Some.t in
    let written = c.put_info.ensures.after ∙ ap (with_words g to) c.words.ensures.value in
    let ended =
    end_by_parts c.exchange-message.new.k (exchanged k c.args.o t) c.put_info.new.g (with_words g to m) t c.empty.result []
    c.exchange-message.ensures.after written c.empty.ensures in
    let all = ended ∙ sym (received_with_sender k g c.args.o to t m (sym c.in-Some.ensures)) in
    subst (λ (v : Option (List ℕ)). IfSome v (λ x. c.satisfy.new.k ≡ (received k g c.args.o to x).kernel)) (sym c.exchange-message.ensures.first)
    (c.satisfy.ensures.kernel ∙ ap (λ (x : Change). x.kernel) all)
