use Rattle.std.proofs.Common.{◌≡◌, None, ap, ◌∙◌}
use Rattle.kernel_state.specs.ThreadChanges.{started}
use Rattle.module_manager.specs.Start.{begun_alone, in_new_slot, next_slot, start_name, start_spec, with_callback}
use Rattle.module_manager.proofs.start.begin_alone.Goals as goal

pub returns-clause-kernel : goal.returns-clause-kernel
unfolding begun_alone
returns-clause-kernel c =
    let k = c.args.k.now in
    let g = c.args.g.now in
    let m = c.args.m in
    let made : c.make_thread-t.new.k ≡ in_new_slot k start_name (start_spec m c.args.row.now) = c.make_thread-t.ensures.after
    ∙ (ap (λ name. in_new_slot k name c.start_spec.result) c.from_bytes.ensures ∙ ap (in_new_slot k start_name) c.start_spec.ensures) in
    c.start_thread.ensures.kernel
    ∙ (ap (λ t. (started c.set_callback.new.k g t).kernel) c.make_thread-t.ensures.slot
    ∙ ap (λ now. (started now g (next_slot k)).kernel) (c.set_callback.ensures.after ∙ ap (λ now. with_callback now m None) made))
