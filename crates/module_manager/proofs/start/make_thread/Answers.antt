use Rattle.std.proofs.Common.{◌+◌, ap, sym, ◌∙◌}
use Rattle.object_grants.specs.Table.{ref_of}
use Rattle.kernel_state.specs.Kernel.{thread, is_thread}
use Rattle.kernel_state.specs.declared.kernel.Kernel.{Kernel}
use Rattle.module_manager.specs.Start.{usable_slots}
use Rattle.module_manager.proofs.NewSlot.{never-none, new-one_less, new-spares, placed-is, slot_of-allocated}
use Rattle.module_manager.proofs.start.make_thread.Goals as goal

pub unreachable-requires : goal.unreachable-requires
unreachable-requires c =
    never-none c.args.k.now (ref_of c.allocate.new.self) c.requires.usable (sym c.allocate.ensures.answer ∙ c.in_default.is)

pub returns-clause-after : goal.returns-clause-after
returns-clause-after c =
    let k = c.args.k.now in
    let here =
    c.slot-t.ensures ∙ slot_of-allocated k c.allocate.new.self c.in-Some.r c.requires.sound c.requires.usable
    (sym c.allocate.ensures.answer ∙ c.in-Some.is) in
    placed-is k c.place_thread.new.self c.allocate.new.self c.slot-t.result c.args.name c.args.s c.place_thread.ensures.after c.allocate.ensures.after here

pub returns-clause-one_less : goal.returns-clause-one_less
returns-clause-one_less c =
    let k = c.args.k.now in
    let here =
    c.slot-t.ensures ∙ slot_of-allocated k c.allocate.new.self c.in-Some.r c.requires.sound c.requires.usable
    (sym c.allocate.ensures.answer ∙ c.in-Some.is) in
    let after =
    placed-is k c.place_thread.new.self c.allocate.new.self c.slot-t.result c.args.name c.args.s c.place_thread.ensures.after
    c.allocate.ensures.after here in
    ap (λ (now : Kernel). usable_slots now + 1) after ∙ new-one_less k c.args.name c.args.s c.requires.usable

pub returns-clause-others : goal.returns-clause-others
returns-clause-others c =
    let k = c.args.k.now in
    let here =
    c.slot-t.ensures ∙ slot_of-allocated k c.allocate.new.self c.in-Some.r c.requires.sound c.requires.usable
    (sym c.allocate.ensures.answer ∙ c.in-Some.is) in
    let after =
    placed-is k c.place_thread.new.self c.allocate.new.self c.slot-t.result c.args.name c.args.s c.place_thread.ensures.after
    c.allocate.ensures.after here in
    λ u live.
    let spared = new-spares k c.args.name c.args.s c.requires.usable u live in
    (λ same. spared.0 (same ∙ here), ap (λ (now : Kernel). is_thread now u) after ∙ spared.1, ap (λ (now : Kernel). thread now u) after ∙ spared.2)
