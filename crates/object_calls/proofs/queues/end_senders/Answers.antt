use Rattle.std.proofs.Common.{false, true, filter, All, ap, sym, ◌∙◌, subst}
use Rattle.tx_types.specs.declared.waits.End.TheVariants.{Satisfied}
use Rattle.kernel_state.specs.ObjectLaws.{HasNoResult}
use Rattle.kernel_state.specs.Objects.{all_ended, asks_so, asks_to_send, waiters_of}
use Rattle.object_calls.proofs.Senders.{satisfied_is_not_gone, senders_are, senders_have_no_result}
use Rattle.object_calls.proofs.queues.end_senders.Goals as goal

pub end_all-requires-clause-nothing : goal.end_all-requires-clause-nothing
end_all-requires-clause-nothing c =
    let k = c.args.k.now in
    let first = sym c.is_some.ensures ∙ c.if-is_some.true in
    let all = senders_are c.what_is_in_an_object_changes.ensures.waiter k c.args.o _ true c.requires.serves.sound c.first_sender.ensures first in
    subst (All (HasNoResult k Satisfied)) all (senders_have_no_result k c.args.o)

pub returns-then-is_some : goal.returns-then-is_some
returns-then-is_some c =
    let k = c.args.k.now in
    let g = c.args.g.now in
    let o = c.args.o in
    let first = sym c.is_some.ensures ∙ c.if-is_some.true in
    let all = senders_are c.what_is_in_an_object_changes.ensures.waiter k o _ true c.requires.serves.sound c.first_sender.ensures first in
    let ended = c.end_all.ensures in
    let left = ap (λ j. waiters_of j o) ended.kernel ∙ c.all_ends_keep_serving.ensures.none k g o Satisfied c.requires.serves.sound satisfied_is_not_gone in
    record {
      kernel = ended.kernel ∙ ap (λ ts. (all_ended Satisfied ts k g).kernel) (sym all);
      memory = ended.memory ∙ ap (λ ts. (all_ended Satisfied ts k g).memory) (sym all);
      none = ap (filter (asks_so asks_to_send c.end_all.new.self)) left;
      serves = ended.serves;
    }

pub returns-else-is_some : goal.returns-else-is_some
returns-else-is_some c =
    let k = c.args.k.now in
    let g = c.args.g.now in
    let first = sym c.is_some.ensures ∙ c.if-is_some.false in
    let none = senders_are c.what_is_in_an_object_changes.ensures.waiter k c.args.o _ false c.requires.serves.sound c.first_sender.ensures first in
    record {
      kernel = ap (λ ts. (all_ended Satisfied ts k g).kernel) (sym none);
      memory = ap (λ ts. (all_ended Satisfied ts k g).memory) (sym none);
      none = none;
      serves = c.requires.serves;
    }
