-- What holds of kernel and memory before and after every service, start, stop, fault and action of
-- a device.
use Rattle.region_guard.specs.Memory.{Memory}
use Rattle.soft_timers.specs.Timers.{IsRunning}
use Rattle.kernel_state.specs.Contents.{ArePromised}
use Rattle.kernel_state.specs.Sound.{IsSound}
use Rattle.kernel_state.specs.declared.kernel.Kernel.{Kernel}

-- the kernel is sound, each timeout that is armed has at least one tick left, as it need not within
-- a tick, and the result of each pending call may be stored where it was promised
pub record Serves (k : Kernel) (g : Memory) : Type 0 where
  pub sound : IsSound k
  pub running : IsRunning k.wheel
  pub promised : ArePromised g k.objects k.queues k.waits
