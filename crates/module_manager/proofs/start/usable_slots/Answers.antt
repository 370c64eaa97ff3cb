use Rattle.std.proofs.Common.{◌≡◌, filter, length, take, ap, ◌∙◌, arith}
use Rattle.std.proofs.lemmas.List.{take_all}
use Rattle.object_grants.specs.Slot.{is_usable}
use Rattle.module_manager.proofs.start.usable_slots.Goals as goal

pub returns : goal.returns
returns c =
    let slots = c.args.k.now.objects in
    let whole : take c.loop-o.o slots ≡ slots = take_all c.loop-o.o slots (omega (arith, c.requires.formed.slots)) in
    c.loop-o.invariant.0 ∙ ap (λ xs. length (filter is_usable xs)) whole
