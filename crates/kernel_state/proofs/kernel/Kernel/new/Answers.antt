use Rattle.std.proofs.Common.{subst}
use Rattle.ready_maps.specs.Kept.{IsKept}
use Rattle.kernel_state.proofs.Blank.{blank_is_sound}
use Rattle.kernel_state.proofs.kernel.Kernel.new.Goals as goal

pub returns-clause-sound : goal.returns-clause-sound
returns-clause-sound c =
    rw (
      c.in_ok-ready.ensures.blank,
      c.in_ok-objects.ensures,
      c.in_ok-threads.ensures,
      c.in_ok-spots.ensures,
      c.in_ok-waits.ensures,
      c.in_ok-queues.ensures,
      c.in_ok-semas.ensures,
      c.in_ok-wheel.ensures,
      c.in_ok-due.ensures,
    )
    (blank_is_sound (subst IsKept c.in_ok-ready.ensures.blank c.in_ok-ready.ensures.kept) c.calls_keep_the_table.ensures.new c.calls_keep_the_wheel.ensures.new
    c.calls_keep_the_table-2.ensures.new c.calls_keep_the_counts.ensures.new)
