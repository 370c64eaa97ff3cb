use Rattle.std.proofs.Common.{◌≡◌, true, rules, subst, sym}
use Rattle.object_grants.specs.Slot.{is_in}
use Rattle.object_grants.specs.Table.{slot}
use Rattle.object_grants.specs.declared.slot.SlotState.TheVariants.{Live}
use Rattle.region_guard.specs.Memory.{Memory}
use Rattle.kernel_state.specs.Serves.{Serves}
use Rattle.service_tests.proofs.board.grant.Goals as goal

pub returns-then-is_live : goal.returns-then-is_live
returns-then-is_live c =
    let k = c.args.k.now in
    let live : is_in Live (slot k.objects c.args.o) ≡ true = search rules in
    let keeps : (g : Memory) → Serves k g → Serves (record k { objects = c.grant.new.self }) g = λ g serves.
    subst (λ slots. Serves (record k { objects = slots }) g) (sym c.grant.ensures)
    (c.a_change_of_slots_keeps_serving.ensures.grant k g c.args.m c.args.o serves live) in
    record { serves = keeps }
