-- The wait of a sender ends without a result as its message goes in.
use Rattle.std.proofs.Common.{◌≡◌, ℕ, ◌+◌, List, [], ◌++◌, All, length, replicate, Option, None, Some, refl, sym, subst, length-append, arith}
use Rattle.std.proofs.lemmas.List.{get_or-append-add, length-replicate}
use Rattle.tx_types.specs.Code.{success}
use Rattle.tx_types.specs.declared.waits.End.TheVariants.{Satisfied}
use Rattle.flat_ram.specs.Laws.{IsOutside}
use Rattle.msg_queues.specs.Entry.{Queue}
use Rattle.region_guard.specs.Memory.{Memory, IsSound as IsSoundMemory}
use Rattle.suspend_lists.specs.Waits.{wait_of}
use Rattle.suspend_lists.specs.declared.wait.Wait.{Wait}
use Rattle.kernel_state.specs.Contents.{result_words}
use Rattle.kernel_state.specs.Outcome.{done}
use Rattle.kernel_state.specs.Range.{Range, WritesAlone}
use Rattle.kernel_state.specs.Results.{result_ranges}
use Rattle.kernel_state.specs.Row.{IsKept, KeepsTables, WaitEndIsKept}
use Rattle.kernel_state.specs.Serves.{Serves}
use Rattle.kernel_state.specs.Waiting.{result_of, wait_ended, with_result}
use Rattle.kernel_state.specs.declared.answer.Answer.TheVariants.{Code}
use Rattle.kernel_state.specs.declared.kernel.Kernel.{Kernel}

is_success : (c : ℕ) → Code success ≡ Code c → c ≡ success
is_success c same = cc

-- no words are written, wherever they would go
none_go : (g : Memory) (to : Option ℕ) → with_result g to [] ≡ g
none_go g None = refl
none_go g (Some to) = refl

-- who writes in some ranges alone writes in more and these alone
All-right : {X : Type 0} (P : X → Type 0) (xs ys : List X) → All P (xs ++ ys) → All P ys
All-right P xs ys all i d below =
    subst P (get_or-append-add xs ys i d) (all (length xs + i) d (omega (arith, length-append xs ys, below)))

more_alone : (more rs : List Range) (g now : Memory) → WritesAlone rs g now → WritesAlone (more ++ rs) g now
more_alone more rs g now alone = record {
  regions = alone.regions;
  size = alone.size;
  bytes = λ x outside. alone.bytes x (All-right (λ (r : Range). IsOutside r.base r.size x) more rs outside);
}

-- what is in the queues, and in memory, is nothing to the end of a wait
abbrev with_queues : Kernel → List (Option Queue) → Kernel
with_queues k queues = record k { queues = queues }

same_tables : (k : Kernel) (queues : List (Option Queue)) (g h : Memory) (by t : ℕ) (value : List ℕ) → Serves (with_queues k queues) g
    → KeepsTables (with_queues k queues) by (wait_ended (with_queues k queues) g t Satisfied value)
    → KeepsTables k by (wait_ended (with_queues k queues) h t Satisfied [])
same_tables k queues g h by t value serves tables = record {
  slots = record { call = tables.slots.call; slots = tables.slots.slots; may = tables.slots.may };
  waits = λ sound caller.
      let calls = tables.waits serves.sound (record { live = caller.live; state = caller.state }) in
      record { calls = calls.calls; waits = calls.waits; may = calls.may; ends = calls.ends; gone = calls.gone };
  counts = record { begun = tables.counts.begun; armings = tables.counts.armings; ticks = tables.counts.ticks };
}

pub sender_end_is_kept : WaitEndIsKept → (r : List Range) (k : Kernel) (queues : List (Option Queue)) (g h : Memory) (by t : ℕ) (w : Wait)
    → Serves (with_queues k queues) g → k.ready.run ≡ Some by → wait_of k.waits t ≡ Some w → (IsSoundMemory g → WritesAlone r g h)
    → IsKept r k g by (done (wait_ended (with_queues k queues) h t Satisfied []))
sender_end_is_kept ends r k queues g h by t w serves runs is alone =
    let c = wait_ended (with_queues k queues) h t Satisfied [] in
    let value = replicate (result_words queues w.on) 0 in
    let kept = ends [] (with_queues k queues) g by t w value serves runs is (length-replicate (result_words queues w.on) 0) in
    record {
      alone = λ sound.
          more_alone (result_ranges k c.ends) r g c.memory
          (subst (λ (now : Memory). WritesAlone r g now) (sym (none_go h (result_of (wait_of k.waits t) Satisfied))) (alone sound));
      refusal = λ code same no_success not_lifted. absurd (no_success (is_success code same));
      caller = λ caller. kept.caller (record { live = caller.live; state = caller.state });
      tables = same_tables k queues g h by t value serves kept.tables;
    }
