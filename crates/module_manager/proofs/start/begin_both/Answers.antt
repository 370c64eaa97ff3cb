use Rattle.std.proofs.Common.{◌≡◌, true, Some, ap, subst, sym, ◌∙◌}
use Rattle.tx_types.specs.declared.state.State.TheVariants.{Suspended}
use Rattle.kernel_state.specs.Kernel.{thread}
use Rattle.kernel_state.specs.Thread.{is_state}
use Rattle.kernel_state.specs.ThreadChanges.{started}
use Rattle.kernel_state.specs.declared.kernel.Kernel.{Kernel}
use Rattle.kernel_state.specs.declared.thread.Thread.{Thread}
use Rattle.module_manager.specs.Start.{begun_both, callback_name, callback_spec, in_new_slot, next_slot, start_name, start_spec, with_callback}
use Rattle.module_manager.proofs.NewSlot.{started-other}
use Rattle.module_manager.proofs.start.begin_both.Goals as goal

pub returns-clause-kernel : goal.returns-clause-kernel
unfolding begun_both
returns-clause-kernel c =
    let k = c.args.k.now in
    let g = c.args.g.now in
    let m = c.args.m in
    let r = c.args.row.now in
    let one = in_new_slot k start_name (start_spec m r) in
    let both = in_new_slot one callback_name (callback_spec m r) in
    let made_one : c.make_thread-t.new.k ≡ one = c.make_thread-t.ensures.after
    ∙ (ap (λ name. in_new_slot k name c.start_spec.result) c.from_bytes.ensures ∙ ap (in_new_slot k start_name) c.start_spec.ensures) in
    let made_both : c.make_thread-u.new.k ≡ both = c.make_thread-u.ensures.after
    ∙ (ap (λ now. in_new_slot now c.from_bytes-2.result c.callback_spec.result) made_one
    ∙ (ap (λ name. in_new_slot one name c.callback_spec.result) c.from_bytes-2.ensures ∙ ap (in_new_slot one callback_name) c.callback_spec.ensures)) in
    let second : c.make_thread-u.result ≡ next_slot one = c.make_thread-u.ensures.slot ∙ ap next_slot made_one in
    let named : c.set_callback.new.k ≡ with_callback both m (Some (next_slot one)) = c.set_callback.ensures.after
    ∙ (ap (λ now. with_callback now m (Some c.make_thread-u.result)) made_both ∙ ap (λ u. with_callback both m (Some u)) second) in
    let first_started : c.start_thread.new.k ≡ (started (with_callback both m (Some (next_slot one))) g (next_slot k)).kernel = c.start_thread.ensures.kernel
    ∙ (ap (λ t. (started c.set_callback.new.k g t).kernel) c.make_thread-t.ensures.slot ∙ ap (λ now. (started now g (next_slot k)).kernel) named) in
    c.start_thread-2.ensures.kernel
    ∙ (ap (λ t. (started c.start_thread.new.k g t).kernel) second ∙ ap (λ now. (started now g (next_slot one)).kernel) first_started)

pub start_thread-requires-2-clause-suspended : goal.start_thread-requires-2-clause-suspended
start_thread-requires-2-clause-suspended c =
    let t = c.make_thread-t.result in
    let u = c.make_thread-u.result in
    let apart = (c.make_thread-u.ensures.others t c.make_thread-t.ensures.live).0 in
    let there : thread c.start_thread.new.k u ≡ thread c.make_thread-u.new.k u =
    ap (λ (now : Kernel). thread now u) c.start_thread.ensures.kernel ∙ (started-other c.set_callback.new.k c.args.g.now t u (λ same. apart (sym same))
    ∙ ap (λ (now : Kernel). thread now u) c.set_callback.ensures.after) in
    subst (λ (x : Thread). is_state x.state Suspended ≡ true) (sym there) c.make_thread-u.ensures.suspended

pub start_thread-requires-clause-serves : goal.start_thread-requires-clause-serves
start_thread-requires-clause-serves c =
    let g = c.args.g.now in
    c.set_callback.ensures.serves g (c.make_thread-u.ensures.serves g (c.make_thread-t.ensures.serves g c.requires.serves))
