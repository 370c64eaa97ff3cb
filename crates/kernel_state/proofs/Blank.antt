-- A kernel without objects is sound.
use Rattle.std.proofs.Common.{◌≡◌, ℕ, ◌%◌, ◌<◌, true, false, Option, is_some, None, IfSome, refl, ap, subst, sym, ◌∙◌, ⊎_elim, arith}
use Rattle.std.specs.Option.{option_map}
use Rattle.std.proofs.lemmas.Bool.{cases_lt, false≢true}
use Rattle.std.proofs.lemmas.List.{get_or-replicate, get_or_past, length-replicate}
use Rattle.tx_types.specs.declared.kind.Kind.{Kind}
use Rattle.tx_types.specs.declared.kind.Kind.TheVariants.{Queue as QueueKind}
use Rattle.msg_queues.specs.Entry.{Queue}
use Rattle.msg_queues.specs.Queues.{IsQueueTable, no_queues, queue_of}
use Rattle.sync_objects.specs.Semas.{IsSemaTable, no_semas, count_of}
use Rattle.object_grants.specs.Slot.{free_slot}
use Rattle.object_grants.specs.Table.{slot}
use Rattle.object_grants.specs.declared.slot.Slot.{Slot}
use Rattle.ready_maps.specs.Kept.{IsKept}
use Rattle.ready_maps.specs.Sched.{new_sched}
use Rattle.soft_timers.specs.Timers.{IsWheel, no_timers}
use Rattle.suspend_lists.specs.Waits.{IsTable, new_table, pending, wait_of}
use Rattle.suspend_lists.specs.declared.wait.Pending.{Pending}
use Rattle.kernel_state.specs.Contents.{AreContents, IsAsked, is_of}
use Rattle.kernel_state.specs.Kernel.{blank_kernel, has_thread, is_live_of, is_thread, module_of, spot}
use Rattle.kernel_state.specs.Sound.{IsSound, IsClean, IsEntry, IsTimeoutOf}
use Rattle.kernel_state.specs.Spot.{blank_spot}
use Rattle.kernel_state.specs.Thread.{blank_thread}
use Rattle.kernel_state.specs.declared.spot.Spot.{Spot}
use Rattle.kernel_state.proofs.Sound.{below_256}

-- every slot is free, and every spot is blank
free_at : (o : ℕ) → o < 256 → slot blank_kernel.objects o ≡ free_slot 0
free_at o below = get_or-replicate 256 o (free_slot 0) (free_slot 0) below

spot_at : (m : ℕ) → m < 16 → spot blank_kernel m ≡ blank_spot
spot_at m below = get_or-replicate 16 m blank_spot blank_spot below

-- nobody waits
none_waits : (t : ℕ) → wait_of new_table t ≡ None
none_waits t =
    let none : Option Pending = None in
    ap (option_map (λ (p : Pending). p.wait)) (⊎_elim {C = pending new_table t ≡ None}
    (λ below. get_or-replicate 256 t none none below)
    (λ past. get_or_past new_table.waits t none (omega (arith, length-replicate 256 none))) (cases_lt t 256))

-- no object is a queue or a semaphore
no_queue_at : (o : ℕ) → queue_of no_queues o ≡ None
no_queue_at o =
    let none : Option Queue = None in
    ⊎_elim (λ below. get_or-replicate 256 o none none below)
    (λ past. get_or_past no_queues o none (omega (arith, length-replicate 256 none))) (cases_lt o 256)

none_of : (kind : Kind) (o : ℕ) → is_of blank_kernel.objects kind o ≡ false
none_of kind o = ap (is_live_of kind) (⊎_elim {C = slot blank_kernel.objects o ≡ free_slot 0} (λ below. free_at o below)
    (λ past. get_or_past blank_kernel.objects o (free_slot 0) (omega (arith, length-replicate 256 (free_slot 0)))) (cases_lt o 256))

no_count_at : (o : ℕ) → count_of no_semas o ≡ 0
no_count_at o =
    ⊎_elim (λ below. get_or-replicate 256 o 0 0 below)
    (λ past. get_or_past no_semas o 0 (omega (arith, length-replicate {A = ℕ} 256 0))) (cases_lt o 256)

blank_contents : IsQueueTable no_queues → IsSemaTable no_semas → AreContents blank_kernel.objects no_queues no_semas
blank_contents queues semas = record {
  queue_table = queues;
  sema_table = semas;
  queue = λ o. ap is_some (no_queue_at o) ∙ sym (none_of QueueKind o);
  no_sema = λ o _. no_count_at o;
}

pub blank_is_sound : IsKept (new_sched 32) → IsTable new_table → IsWheel no_timers → IsQueueTable no_queues → IsSemaTable no_semas → IsSound blank_kernel
blank_is_sound kept table wheel queues semas = record {
  formed = record {
    scheduler = kept;
    slots = length-replicate 256 (free_slot 0);
    threads = length-replicate 256 blank_thread;
    spots = length-replicate 16 blank_spot;
    clean = λ o below. subst (λ (s : Slot). IsClean s s.state) (sym (free_at o below)) (refl, refl, refl);
    waits = table;
    wheel = wheel;
    contents = blank_contents queues semas;
    asked = λ t. subst (λ o. IfSome o (IsAsked blank_kernel.objects no_queues no_semas)) (sym (none_waits t)) tt;
    entries = λ t below. subst (λ (s : Slot). IsEntry blank_kernel t (has_thread s)) (sym (free_at t below)) (refl, none_waits t);
    timeouts = λ i. subst (λ o. IsTimeoutOf o None) (sym (none_waits i)) refl;
    places = λ m below. record {
      shell = ap (λ (s : Spot). s.shell % 4) (spot_at m below);
      callback =
          subst
          (λ (s : Spot). IfSome s.callback (λ t. (t < 256) × (is_thread blank_kernel t ≡ true) × (module_of blank_kernel t ≡ m))) (sym (spot_at m below)) tt;
    };
  };
  settled = λ t live outside.
      let below = below_256 blank_kernel t (length-replicate 256 (free_slot 0)) live in
      absurd (false≢true (sym (ap has_thread (free_at t below)) ∙ live));
}
