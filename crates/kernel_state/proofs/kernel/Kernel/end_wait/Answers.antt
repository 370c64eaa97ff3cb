use Rattle.std.proofs.Common.{◌≡◌, [], Option, ap, subst, sym, ◌∙◌}
use Rattle.ready_maps.specs.Sched.{is_ready}
use Rattle.suspend_lists.specs.declared.wait.Wait.{Wait}
use Rattle.suspend_lists.specs.Waits.{wait_of}
use Rattle.soft_timers.specs.Laws.{Disarm}
use Rattle.soft_timers.specs.Timers.{IsRunning, disarmed}
use Rattle.kernel_state.specs.Sound.{IsSound}
use Rattle.kernel_state.specs.Waiting.{answer_of, left_wait, released, wait_ended, with_answer_to}
use Rattle.kernel_state.specs.declared.kernel.Kernel.{Kernel}
use Rattle.kernel_state.proofs.Ends.{answered-ready, answered-wheel, released-wheel, waiter_not_ready}
use Rattle.kernel_state.proofs.kernel.Kernel.end_wait.Goals as goal

pub release-requires : goal.release-requires
release-requires c =
    let k = c.args.self.now in
    let t = c.args.t in
    record {
      absent = ap (λ (j : Kernel). is_ready j.ready t) c.put_answer.ensures
          ∙ (ap (λ s. is_ready s t) (answered-ready c.leave_wait-wait.new.self t c.answer_of.result)
          ∙ (ap (λ (j : Kernel). is_ready j.ready t) c.leave_wait-wait.ensures.after ∙ waiter_not_ready [] k t c.requires.sound c.requires.waits));
    }

pub returns-clause-sound : goal.returns-clause-sound
returns-clause-sound c = λ stays.
    let k = c.args.self.now in
    let g = c.args.g.now in
    let t = c.args.t in
    let e = c.args.e in
    let value = c.args.value.now in
    let answer : c.answer_of.result ≡ answer_of (wait_of k.waits t) e =
    c.answer_of.ensures ∙ ap (λ (o : Option Wait). answer_of o e) (sym c.leave_wait-wait.ensures.wait) in
    let answered : c.put_answer.new.self ≡ with_answer_to (left_wait k t e) t (answer_of (wait_of k.waits t) e) =
    c.put_answer.ensures ∙ (ap (λ j. with_answer_to j t c.answer_of.result) c.leave_wait-wait.ensures.after ∙ ap (with_answer_to (left_wait k t e) t) answer) in
    let same : c.release.new.self ≡ (wait_ended k g t e value).kernel = c.release.ensures ∙ ap (λ j. released j t e) answered in
    subst IsSound (sym same) (c.a_wait_keeps_sound.ensures.ends [] k g t e value c.requires.sound c.requires.waits stays)

pub returns-clause-running : goal.returns-clause-running
returns-clause-running c = λ running.
    let k = c.args.self.now in
    let g = c.args.g.now in
    let t = c.args.t in
    let e = c.args.e in
    let value = c.args.value.now in
    let left : c.put_answer.new.self.wheel ≡ disarmed k.wheel t =
    ap (λ (j : Kernel). j.wheel) c.put_answer.ensures
    ∙ (answered-wheel c.leave_wait-wait.new.self t c.answer_of.result ∙ ap (λ (j : Kernel). j.wheel) c.leave_wait-wait.ensures.after) in
    let after : c.release.new.self.wheel ≡ disarmed k.wheel t =
    ap (λ (j : Kernel). j.wheel) c.release.ensures ∙ (released-wheel c.put_answer.new.self t e ∙ left) in
    subst IsRunning (sym after) (c.each_has_a_tick_left.ensures.keeps k.wheel (Disarm t) tt running)
