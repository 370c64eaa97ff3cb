-- The beginning and the end of a wait, and a thread that goes first at its place, keep a kernel serving; a promised result may be stored.
use Rattle.std.proofs.Common.{◌≡◌, ℕ, ◌*◌, ◌<◌, true, [], length, Option, None, Some, IfSome, IsSome, refl, sym, subst, ⊎_elim, inl, arith}
use Rattle.std.specs.Option.{option_map}
use Rattle.std.proofs.lemmas.Bool.{cases_eq}
use Rattle.object_grants.specs.Table.{slot}
use Rattle.region_guard.specs.Memory.{may}
use Rattle.region_guard.specs.declared.region.Access.TheVariants.{Store}
use Rattle.soft_timers.specs.Laws.{Disarm}
use Rattle.soft_timers.specs.Timers.{IsRunning}
use Rattle.suspend_lists.specs.Laws.{Begin, ToFront, WaitsStay}
use Rattle.suspend_lists.specs.Wait.{place, place_count}
use Rattle.suspend_lists.specs.Waits.{IsTable, begun, pending, put_first, wait_of}
use Rattle.suspend_lists.specs.declared.wait.On.{On}
use Rattle.suspend_lists.specs.declared.wait.On.TheVariants.{Object, Callbacks, Sleep as Nowhere}
use Rattle.suspend_lists.specs.declared.wait.Pending.{Pending}
use Rattle.suspend_lists.specs.declared.wait.Wait.{Wait}
use Rattle.tx_types.specs.declared.waits.End.TheVariants.{Satisfied}
use Rattle.kernel_state.specs.Contents.{IsAskedAt, IsPlace, IsPromised, result_words}
use Rattle.kernel_state.specs.Kernel.{module_of, thread}
use Rattle.kernel_state.specs.Laws.{SoundFrom}
use Rattle.kernel_state.specs.WaitLaws.{BeginKeepsServing, BeginKeepsSound, PromiseIsKept, ToFrontKeepsServing, WaitEndKeepsServing, WaitEndKeepsSound}
use Rattle.kernel_state.specs.Waiting.{result_of, wanted_at}
use Rattle.kernel_state.specs.declared.kernel.Kernel.{Kernel}
use Rattle.kernel_state.proofs.Ends.{Below, wait_ended-wheel, waiter_is_thread}
use Rattle.kernel_state.proofs.Promises.{wait_end_keeps_promises}
use Rattle.kernel_state.proofs.Sound.{alike_if_same, below_256, thread_of}
use Rattle.kernel_state.proofs.States.{none_if_rests}
use Rattle.kernel_state.proofs.ThreadChanges.{ready_rests}
use Rattle.kernel_state.proofs.WaitChanges.{begin_keeps_running}

-- a place of a wait that may begin is a place of the table
asked_place : (k : Kernel) (w : Wait) (on : On) → IsAskedAt k.objects k.queues k.semas on w.asks → IfSome (place on) (λ p. p < place_count)
asked_place k w (Object o) at = omega (arith, at.0)
asked_place k w (Callbacks m) at = absurd at
asked_place k w Nowhere at = tt

none_pending : (o : Option Pending) → option_map (λ p. p.wait) o ≡ None → o ≡ None
none_pending None none = refl
none_pending (Some p) none = cc

pub begin_keeps_serving : BeginKeepsSound → Below → WaitsStay → BeginKeepsServing
begin_keeps_serving begins below stays k g t w ticks serves live ready asked promised later short =
    let sound = serves.sound in
    let was = thread_of [] k t sound live in
    let inside = below_256 k t sound.formed.slots live in
    let none = none_if_rests (thread k t).state (wait_of k.waits t) (ready_rests [] k t sound live ready) was.wait in
    let table : IsTable (begun k.waits t w) =
    below.keep_table k.waits (Begin t w) sound.formed.waits (inside, none_pending (pending k.waits t) none, asked_place k w w.on asked.at) in
    record {
      sound = begins [] k t w ticks sound live ready asked table later short;
      running = begin_keeps_running below.keep_running k t w ticks sound live ready later short serves.running;
      promised = λ u. ⊎_elim (λ (same : u ≡ t). subst (λ n. IfSome (wait_of (begun k.waits t w) n) (IsPromised g (slot k.objects n).owner k.queues)) (sym same)
          (subst (λ o. IfSome o (IsPromised g (slot k.objects t).owner k.queues)) (sym (stays.new k.waits t w sound.formed.waits inside))
          (subst (λ m. IsPromised g m k.queues w) was.owner promised)))
          (λ other. subst (λ o. IfSome o (IsPromised g (slot k.objects u).owner k.queues)) (sym (stays.begin k.waits t u w other)) (serves.promised u))
          (cases_eq u t);
    }

pub wait_end_keeps_serving : WaitEndKeepsSound → Below → WaitEndKeepsServing
wait_end_keeps_serving ends below k g t e value serves some stays = record {
  sound = ends [] k g t e value serves.sound some stays;
  running = subst IsRunning (sym (wait_ended-wheel k g t e value)) (below.keep_running k.wheel (Disarm t) tt serves.running);
  promised = wait_end_keeps_promises k g t e value serves.promised;
}

-- but for the order of the waiters all is as it was
pub to_front_keeps_serving : SoundFrom → Below → ToFrontKeepsServing
to_front_keeps_serving from below k g t serves waits =
    let formed = serves.sound.formed in
    let now : Kernel = record k { waits = put_first k.waits t } in
    record {
      sound = from [] k now serves.sound (record {
        scheduler = formed.scheduler;
        levels = refl;
        slots = refl;
        threads = refl;
        spots = refl;
        waits = below.keep_table k.waits (ToFront t) formed.waits waits;
        wheel = formed.wheel;
        clean = formed.clean;
        contents = formed.contents;
        asked = formed.asked;
        entries = λ u _. inl (record {
          live = refl;
          alike = alike_if_same (thread k u) (thread k u) refl;
          owner = λ _. refl;
          ready = refl;
          priority = refl;
          threshold = refl;
          wait = refl;
        });
        timeouts = formed.timeouts;
        places = λ m inside. record { shell = (formed.places m inside).shell; callback = (formed.places m inside).callback };
      });
      running = serves.running;
      promised = serves.promised;
    }

-- the owner of a thread's slot is its module
pub promise_is_kept : PromiseIsKept
promise_is_kept k g t w m serves is size =
    let some = subst IsSome (sym is) refl in
    let owner = (thread_of [] k t serves.sound (waiter_is_thread [] k t serves.sound some)).owner in
    let promised : IsPromised g (module_of k t) k.queues w =
    subst (λ n. IsPromised g n k.queues w) (sym owner) (subst (λ o. IfSome o (IsPromised g (slot k.objects t).owner k.queues)) is (serves.promised t)) in
    subst (λ (o : Option Wait). IfSome (result_of o Satisfied) (λ to. may g (module_of k t) Store to (4 * length m) ≡ true)) (sym is)
    (allowed (wanted_at w.asks) promised) where
      allowed : (o : Option ℕ) → IfSome o (IsPlace g (module_of k t) (result_words k.queues w.on))
          → IfSome o (λ to. may g (module_of k t) Store to (4 * length m) ≡ true)
      allowed None place = tt
      allowed (Some to) place = subst (λ n. may g (module_of k t) Store to (4 * n) ≡ true) (sym size) place.allowed
