-- A kernel serves as a semaphore counts otherwise, and as a queue or a semaphore is made or ends.
use Rattle.std.proofs.Common.{◌≡◌, ◌≢◌, ℕ, ◌<◌, true, false, [], length, length-set, List, Option, Some, is_some, refl, sym, ap, ◌∙◌, arith}
use Rattle.std.proofs.lemmas.Bool.{false≢true, true≢false}
use Rattle.std.proofs.lemmas.List.{get_or-set_same, get_or-set_other}
use Rattle.tx_types.specs.declared.kind.Kind.TheVariants.{Queue as QueueKind, Semaphore as SemaphoreKind, Thread as ThreadKind}
use Rattle.msg_queues.specs.Entry.{Queue}
use Rattle.msg_queues.specs.Laws.{CallsKeepTheTable, CallsSpareOthers, Create, CreatedIsThere, Remove, RemovedIsGone}
use Rattle.msg_queues.specs.Queues.{IsQueueTable, created, queue_of, removed as no_queue_at}
use Rattle.sync_objects.specs.Laws.{CountIsGone, RemovesKeepTheCounts, RemovesSpareOthers, SetsKeepTheCounts, SetsSpareOthers}
use Rattle.sync_objects.specs.Semas.{IsSemaTable, count_of, removed as no_count_at, with_count}
use Rattle.object_grants.specs.Slot.{free_slot, is_in}
use Rattle.object_grants.specs.Table.{slot, with_slot}
use Rattle.object_grants.specs.declared.slot.Slot.{Slot}
use Rattle.object_grants.specs.declared.slot.SlotState.TheVariants.{Empty, Live}
use Rattle.region_guard.specs.Memory.{Memory}
use Rattle.suspend_lists.specs.Waits.{wait_of}
use Rattle.suspend_lists.specs.declared.wait.Asks.{Asks}
use Rattle.suspend_lists.specs.declared.wait.Asks.TheVariants.{Sleep, Receive, Send, Instance, Own, Flags, Bytes, Block, Callback}
use Rattle.suspend_lists.specs.declared.wait.On.TheVariants.{Object}
use Rattle.suspend_lists.specs.declared.wait.Wait.{Wait}
use Rattle.kernel_state.specs.ContentLaws.{CountKeepsServing, EmptiedKeepsServing, QueueMadeKeepsServing, SemaphoreMadeKeepsServing}
use Rattle.kernel_state.specs.Contents.{IsAskedOf, is_of}
use Rattle.kernel_state.specs.Kernel.{has_thread, is_live_of, is_thread}
use Rattle.kernel_state.specs.ObjectLaws.{EmptiedKeepsSound}
use Rattle.kernel_state.specs.Serves.{Serves}
use Rattle.kernel_state.specs.Sound.{IsClean, IsSound}
use Rattle.kernel_state.specs.declared.kernel.Kernel.{Kernel}
use Rattle.kernel_state.proofs.ContentChanges.{ChangesAt, object_changes, object_keeps_sound}
use Rattle.kernel_state.proofs.Contents.{is_no_other_kind, no_object_if_empty, slot_set}
use Rattle.kernel_state.proofs.WhoWaits.{none_waits_here, stands_if_waits, waiter_is_one}

-- what the tables of queues and of counts keep, by their own laws
pub record TableLaws : Type 0 where
  pub keep_queues : CallsKeepTheTable
  pub spare_queues : CallsSpareOthers
  pub created : CreatedIsThere
  pub removed : RemovedIsGone
  pub keep_counts : SetsKeepTheCounts
  pub keep_others : RemovesKeepTheCounts
  pub spare_counts : SetsSpareOthers
  pub spare_others : RemovesSpareOthers
  pub gone : CountIsGone

-- nobody waits for an object
abbrev NoneWaits : Kernel → ℕ → Type 0
NoneWaits k o = (t : ℕ) (x : Wait) → wait_of k.waits t ≡ Some x → x.on ≡ Object o → ⊥

pub count_keeps_serving : TableLaws → CountKeepsServing
count_keeps_serving laws k g o n serves sema low none =
    let was = serves.sound.formed in
    object_changes k g o k.objects k.queues (with_count k.semas o n) serves (record {
      kinds = λ kind p there. refl;
      owners = λ p. refl;
      queues = λ p there. refl;
      counts = λ p there. laws.spare_counts k.semas o n p there;
      queue_table = was.contents.queue_table;
      sema_table = laws.keep_counts k.semas o n was.contents.sema_table low;
      queue = was.contents.queue o;
      no_sema = λ no. absurd (true≢false (sym sema ∙ no));
    }) refl was.clean refl (λ t x is on asked. absurd (none_waits_here k o t x serves.sound none is on)) (λ t x is on. refl)

-- what changes in the tables for one object, whose slot becomes another
record TablesChange (o : ℕ) (now : Slot) (q r : List (Option Queue)) (s u : List ℕ) : Type 0 where
  queues : (p : ℕ) → p ≢ o → queue_of r p ≡ queue_of q p
  counts : (p : ℕ) → p ≢ o → count_of u p ≡ count_of s p
  queue_table : IsQueueTable r
  sema_table : IsSemaTable u
  queue : is_some (queue_of r o) ≡ is_live_of QueueKind now
  no_sema : is_live_of SemaphoreKind now ≡ false → count_of u o ≡ 0

-- so the slot alone changes
slot_at : (k : Kernel) (o : ℕ) (now : Slot) (r : List (Option Queue)) (u : List ℕ) → o < length k.objects → TablesChange o now k.queues r k.semas u
    → now.owner ≡ (slot k.objects o).owner → ChangesAt o k.objects k.queues k.semas (with_slot k.objects o now) r u
slot_at k o now r u size changes owner =
    let here : slot (with_slot k.objects o now) o ≡ now = get_or-set_same k.objects o now (free_slot 0) size in record {
      kinds = λ kind p there. ap (is_live_of kind) (get_or-set_other k.objects o p now (free_slot 0) there);
      owners = λ p. slot_set (λ n x. x.owner ≡ (slot k.objects n).owner) k.objects o now size owner p (λ _. refl);
      queues = changes.queues;
      counts = changes.counts;
      queue_table = changes.queue_table;
      sema_table = changes.sema_table;
      queue = changes.queue ∙ sym (ap (is_live_of QueueKind) here);
      no_sema = λ no. changes.no_sema (sym (ap (is_live_of SemaphoreKind) here) ∙ no);
    }

-- a slot changes for which nobody waits, and no thread's
slot_keeps_sound : (k : Kernel) (o : ℕ) (now : Slot) (r : List (Option Queue)) (u : List ℕ) → IsSound k → o < 256
    → TablesChange o now k.queues r k.semas u → now.owner ≡ (slot k.objects o).owner → IsClean now now.state → has_thread now ≡ is_thread k o → NoneWaits k o
    → IsSound (record k { objects = with_slot k.objects o now; queues = r; semas = u })
slot_keeps_sound k o now r u sound below changes owner clean thread none =
    let size : o < length k.objects = omega (arith, sound.formed.slots) in
    object_keeps_sound k o (with_slot k.objects o now) r u sound (slot_at k o now r u size changes owner) (length-set k.objects o now)
    (λ p p_below. slot_set (λ _ x. IsClean x x.state) k.objects o now size clean p (λ _. sound.formed.clean p p_below))
    (ap has_thread (get_or-set_same k.objects o now (free_slot 0) size) ∙ thread) (λ t x is on asked. absurd (none t x is on))

slot_changes : (k : Kernel) (g : Memory) (o : ℕ) (now : Slot) (r : List (Option Queue)) (u : List ℕ) → Serves k g → o < 256
    → TablesChange o now k.queues r k.semas u → now.owner ≡ (slot k.objects o).owner → IsClean now now.state → has_thread now ≡ is_thread k o → NoneWaits k o
    → Serves (record k { objects = with_slot k.objects o now; queues = r; semas = u }) g
slot_changes k g o now r u serves below changes owner clean thread none =
    let was = serves.sound.formed in
    let size : o < length k.objects = omega (arith, was.slots) in
    object_changes k g o (with_slot k.objects o now) r u serves (slot_at k o now r u size changes owner) (length-set k.objects o now)
    (λ p p_below. slot_set (λ _ x. IsClean x x.state) k.objects o now size clean p (λ _. was.clean p p_below))
    (ap has_thread (get_or-set_same k.objects o now (free_slot 0) size) ∙ thread) (λ t x is on asked. absurd (none t x is on))
    (λ t x is on. absurd (none t x is on))

-- nobody waits for an Empty slot
asks_an_object : (k : Kernel) (o : ℕ) (asks : Asks) → is_of k.objects QueueKind o ≡ false → is_of k.objects SemaphoreKind o ≡ false
    → IsAskedOf k.objects k.queues k.semas o asks → ⊥
asks_an_object k o (Receive to) no_queue no_sema asked = false≢true (sym no_queue ∙ asked.0)
asks_an_object k o (Send m front) no_queue no_sema asked = false≢true (sym no_queue ∙ asked.0)
asks_an_object k o Instance no_queue no_sema asked = false≢true (sym no_sema ∙ asked.0)
asks_an_object k o Sleep no_queue no_sema asked = asked
asks_an_object k o Own no_queue no_sema asked = asked
asks_an_object k o (Flags want option to) no_queue no_sema asked = asked
asks_an_object k o (Bytes size to) no_queue no_sema asked = asked
asks_an_object k o (Block to) no_queue no_sema asked = asked
asks_an_object k o (Callback to) no_queue no_sema asked = asked

none_waits_if_empty : (k : Kernel) (o : ℕ) → IsSound k → is_in Empty (slot k.objects o) ≡ true → NoneWaits k o
none_waits_if_empty k o sound empty t x is on =
    let waiter = waiter_is_one k o t sound (stands_if_waits k.waits o t x sound.formed.waits is on) in
    asks_an_object k o waiter.wait.asks (no_object_if_empty QueueKind (slot k.objects o) empty)
    (no_object_if_empty SemaphoreKind (slot k.objects o) empty) waiter.asks

pub queue_made_keeps_serving : TableLaws → QueueMadeKeepsServing
queue_made_keeps_serving laws k g o name words capacity serves below empty kind no_zero shape =
    let was = slot k.objects o in
    let made : Slot = record was { state = Live; name = name } in
    let contents = serves.sound.formed.contents in
    let q = k.queues in
    slot_changes k g o made (created q o words capacity) k.semas serves below (record {
      queues = λ p there. laws.spare_queues q (Create o words capacity) p there;
      counts = λ p there. refl;
      queue_table = laws.keep_queues q (Create o words capacity) contents.queue_table shape;
      sema_table = contents.sema_table;
      queue = ap is_some (laws.created q o words capacity (omega (arith, contents.queue_table.size))) ∙ sym kind;
      no_sema = λ _. contents.no_sema o (no_object_if_empty SemaphoreKind was empty);
    }) refl no_zero (is_no_other_kind QueueKind ThreadKind made kind refl ∙ sym (no_object_if_empty ThreadKind was empty))
    (none_waits_if_empty k o serves.sound empty)

pub semaphore_made_keeps_serving : TableLaws → SemaphoreMadeKeepsServing
semaphore_made_keeps_serving laws k g o name count serves below empty kind no_zero low =
    let was = slot k.objects o in
    let made : Slot = record was { state = Live; name = name } in
    let contents = serves.sound.formed.contents in
    slot_changes k g o made k.queues (with_count k.semas o count) serves below (record {
      queues = λ p there. refl;
      counts = λ p there. laws.spare_counts k.semas o count p there;
      queue_table = contents.queue_table;
      sema_table = laws.keep_counts k.semas o count contents.sema_table low;
      queue = contents.queue o ∙ (no_object_if_empty QueueKind was empty ∙ sym (is_no_other_kind SemaphoreKind QueueKind made kind refl));
      no_sema = λ no. absurd (true≢false (sym kind ∙ no));
    }) refl no_zero (is_no_other_kind SemaphoreKind ThreadKind made kind refl ∙ sym (no_object_if_empty ThreadKind was empty))
    (none_waits_if_empty k o serves.sound empty)

-- an object ends
abbrev emptied : Kernel → ℕ → Slot
emptied k o = record (slot k.objects o) { state = Empty; grants = 0; name = [] }

emptied_tables : TableLaws → (k : Kernel) (o : ℕ) → IsSound k
    → TablesChange o (emptied k o) k.queues (no_queue_at k.queues o) k.semas (no_count_at k.semas o)
emptied_tables laws k o sound =
    let contents = sound.formed.contents in record {
      queues = λ p there. laws.spare_queues k.queues (Remove o) p there;
      counts = λ p there. laws.spare_others k.semas o p there;
      queue_table = laws.keep_queues k.queues (Remove o) contents.queue_table tt;
      sema_table = laws.keep_others k.semas o contents.sema_table;
      queue = ap is_some (laws.removed k.queues o);
      no_sema = λ _. laws.gone k.semas o;
    }

pub emptied_keeps_serving : TableLaws → EmptiedKeepsServing
emptied_keeps_serving laws k g o serves below live no_thread none =
    slot_changes k g o (emptied k o) (no_queue_at k.queues o) (no_count_at k.semas o) serves below (emptied_tables laws k o serves.sound)
    refl (refl, refl) (sym no_thread) (λ t x is on. none_waits_here k o t x serves.sound none is on)

pub emptied_keeps_sound : TableLaws → EmptiedKeepsSound
emptied_keeps_sound laws k o sound below live no_thread none =
    slot_keeps_sound k o (emptied k o) (no_queue_at k.queues o) (no_count_at k.semas o) sound below (emptied_tables laws k o sound)
    refl (refl, refl) (sym no_thread) (λ t x is on. none_waits_here k o t x sound none is on)
