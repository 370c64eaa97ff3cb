use Rattle.std.proofs.Common.{◌≡◌, [], ap, rules, subst, sym, ◌∙◌}
use Rattle.soft_timers.specs.Timers.{IsRunning}
use Rattle.suspend_lists.specs.Waits.{IsTable, begun}
use Rattle.kernel_state.specs.Sound.{IsSound}
use Rattle.kernel_state.specs.Waiting.{wait_begun}
use Rattle.kernel_state.specs.declared.kernel.Kernel.{Kernel}
use Rattle.kernel_state.proofs.WaitChanges.{begin_keeps_running}
use Rattle.kernel_state.proofs.kernel.Kernel.begin_wait.Goals as goal

pub returns-then-timed-clause-sound : goal.returns-then-timed-clause-sound
returns-then-timed-clause-sound c =
    let k = c.args.self.now in
    let t = c.args.t in
    let w = c.args.w in
    let live = c.who_runs_is_a_thread.ensures.ready_is_thread k t c.requires.sound c.requires.ready in
    let table : IsTable (begun k.waits t w) =
    subst IsTable (c.begin.ensures.after ∙ ap (λ (j : Kernel). begun j.waits t w) c.make_unready.ensures) c.totals.ensures.sound in
    let same : record c.make_unready.new.self { waits = c.begin.new.self; wheel = c.arm.new.self } ≡ wait_begun k t w c.args.ticks = search rules in
    subst IsSound (sym same)
    (c.a_wait_keeps_sound.ensures.begins [] k t w c.args.ticks c.requires.sound live c.requires.ready c.requires.wait table c.requires.later
    c.ranges.ticks.fits)

pub returns-then-timed-clause-running : goal.returns-then-timed-clause-running
returns-then-timed-clause-running c = λ running.
    let k = c.args.self.now in
    let t = c.args.t in
    let w = c.args.w in
    let live = c.who_runs_is_a_thread.ensures.ready_is_thread k t c.requires.sound c.requires.ready in
    let same : record c.make_unready.new.self { waits = c.begin.new.self; wheel = c.arm.new.self } ≡ wait_begun k t w c.args.ticks = search rules in
    subst (λ (j : Kernel). IsRunning j.wheel) (sym same)
    (begin_keeps_running c.each_has_a_tick_left.ensures.keeps k t w c.args.ticks c.requires.sound live c.requires.ready c.requires.later
    c.ranges.ticks.fits running)

pub returns-else-timed-clause-sound : goal.returns-else-timed-clause-sound
returns-else-timed-clause-sound c =
    let k = c.args.self.now in
    let t = c.args.t in
    let w = c.args.w in
    let live = c.who_runs_is_a_thread.ensures.ready_is_thread k t c.requires.sound c.requires.ready in
    let table : IsTable (begun k.waits t w) =
    subst IsTable (c.begin.ensures.after ∙ ap (λ (j : Kernel). begun j.waits t w) c.make_unready.ensures) c.totals.ensures.sound in
    let same : record c.make_unready.new.self { waits = c.begin.new.self } ≡ wait_begun k t w c.args.ticks = search rules in
    subst IsSound (sym same)
    (c.a_wait_keeps_sound.ensures.begins [] k t w c.args.ticks c.requires.sound live c.requires.ready c.requires.wait table c.requires.later
    c.ranges.ticks.fits)
