-- What is in the objects, and what is asked of them, goes by the kinds of the Live objects alone.
use Rattle.std.proofs.Common.{◌≡◌, ◌≢◌, ℕ, ◌<◌, ◌==◌, ◌&&◌, Bool, true, false, List, length, Option, None, Some, IfSome, refl, sym, ap, ◌∙◌, subst, ⊎_elim}
use Rattle.std.proofs.lemmas.Bool.{and_right, cases_eq, eqb-true, false≢true}
use Rattle.std.proofs.lemmas.List.{get_or-set_same, get_or-set_other}
use Rattle.std.specs.Option.{option_map_or}
use Rattle.tx_types.specs.Kind.{kind_number}
use Rattle.tx_types.specs.declared.kind.Kind.{Kind}
use Rattle.tx_types.specs.declared.kind.Kind.TheVariants.{Queue as QueueKind, Semaphore as SemaphoreKind}
use Rattle.msg_queues.specs.Entry.{Queue}
use Rattle.object_grants.specs.Slot.{free_slot, is_in, is_kind, slot_state_number}
use Rattle.object_grants.specs.Table.{slot, with_slot}
use Rattle.object_grants.specs.declared.slot.Slot.{Slot}
use Rattle.object_grants.specs.declared.slot.SlotState.{SlotState}
use Rattle.object_grants.specs.declared.slot.SlotState.TheVariants.{Free, Empty, Live}
use Rattle.suspend_lists.specs.Waits.{WaitTable, wait_of}
use Rattle.suspend_lists.specs.declared.wait.Asks.{Asks}
use Rattle.suspend_lists.specs.declared.wait.Asks.TheVariants.{Sleep, Receive, Send, Instance, Own, Flags, Bytes, Block, Callback}
use Rattle.suspend_lists.specs.declared.wait.On.{On}
use Rattle.suspend_lists.specs.declared.wait.On.TheVariants.{Object, Callbacks, Sleep as Nowhere}
use Rattle.kernel_state.specs.Contents.{AreAsked, AreContents, IsAsked, IsAskedAt, IsAskedOf, is_of}
use Rattle.kernel_state.specs.Kernel.{is_live_of}

-- a fact of what an option holds, from another
pub of_some : {X : Type 0} (o : Option X) (P Q : X → Type 0) → ((x : X) → P x → Q x) → IfSome o P → IfSome o Q
of_some None P Q from h = tt
of_some (Some x) P Q from h = from x h

-- two tables have queues and semaphores in the same slots
pub record HaveSame (a b : List Slot) : Type 0 where
  pub queues : (o : ℕ) → is_of b QueueKind o ≡ is_of a QueueKind o
  pub semas : (o : ℕ) → is_of b SemaphoreKind o ≡ is_of a SemaphoreKind o

pub contents_by_kinds : (a b : List Slot) (q : List (Option Queue)) (s : List ℕ) → HaveSame a b → AreContents a q s → AreContents b q s
contents_by_kinds a b q s same contents = record {
  queue_table = contents.queue_table;
  sema_table = contents.sema_table;
  queue = λ o. contents.queue o ∙ sym (same.queues o);
  no_sema = λ o none. contents.no_sema o (sym (same.semas o) ∙ none);
}

asked_of_by_kinds : (a b : List Slot) (q : List (Option Queue)) (s : List ℕ) (o : ℕ) (asks : Asks) → HaveSame a b
    → IsAskedOf a q s o asks → IsAskedOf b q s o asks
asked_of_by_kinds a b q s o (Receive to) same asked = (same.queues o ∙ asked.0, asked.1)
asked_of_by_kinds a b q s o (Send m front) same asked = (same.queues o ∙ asked.0, asked.1, asked.2)
asked_of_by_kinds a b q s o Instance same asked = (same.semas o ∙ asked.0, asked.1)
asked_of_by_kinds a b q s o Sleep same asked = asked
asked_of_by_kinds a b q s o Own same asked = asked
asked_of_by_kinds a b q s o (Flags want option to) same asked = asked
asked_of_by_kinds a b q s o (Bytes size to) same asked = asked
asked_of_by_kinds a b q s o (Block to) same asked = asked
asked_of_by_kinds a b q s o (Callback to) same asked = asked

asked_at_by_kinds : (a b : List Slot) (q : List (Option Queue)) (s : List ℕ) (on : On) (asks : Asks) → HaveSame a b
    → IsAskedAt a q s on asks → IsAskedAt b q s on asks
asked_at_by_kinds a b q s (Object o) asks same asked = (asked.0, asked_of_by_kinds a b q s o asks same asked.1)
asked_at_by_kinds a b q s (Callbacks m) asks same asked = asked
asked_at_by_kinds a b q s Nowhere asks same asked = asked

pub asked_by_kinds : (a b : List Slot) (q : List (Option Queue)) (s : List ℕ) (w : WaitTable) → HaveSame a b → AreAsked a q s w → AreAsked b q s w
asked_by_kinds a b q s w same asked t =
    of_some (wait_of w t) (IsAsked a q s) (IsAsked b q s)
    (λ x was. record { at = asked_at_by_kinds a b q s x.on x.asks same was.at; code = was.code }) (asked t)

-- what holds of each slot, as one of them changes
pub slot_set : (P : ℕ → Slot → Type 0) (a : List Slot) (o : ℕ) (now : Slot) → o < length a → P o now
    → (u : ℕ) → (u ≢ o → P u (slot a u)) → P u (slot (with_slot a o now) u)
slot_set P a o now inside itself u others = ⊎_elim
    (λ (here : u ≡ o). subst (λ n. P n (slot (with_slot a o now) n)) (sym here) (subst (P o) (sym (get_or-set_same a o now (free_slot 0) inside)) itself))
    (λ (there : u ≢ o). subst (P u) (sym (get_or-set_other a o u now (free_slot 0) there)) (others there)) (cases_eq u o)

-- one whose object is of the same kind as before, or none
pub kind_stays : (a : List Slot) (o : ℕ) (now : Slot) (kind : Kind) → o < length a → is_live_of kind now ≡ is_of a kind o
    → (u : ℕ) → is_of (with_slot a o now) kind u ≡ is_of a kind u
kind_stays a o now kind inside same u = slot_set (λ n x. is_live_of kind x ≡ is_of a kind n) a o now inside same u (λ _. refl)

pub slot_keeps_kinds : (a : List Slot) (o : ℕ) (now : Slot) → o < length a → is_live_of QueueKind now ≡ is_of a QueueKind o
    → is_live_of SemaphoreKind now ≡ is_of a SemaphoreKind o → HaveSame a (with_slot a o now)
slot_keeps_kinds a o now inside queue sema = record {
  queues = kind_stays a o now QueueKind inside queue;
  semas = kind_stays a o now SemaphoreKind inside sema;
}

-- an Empty slot has no object
pub no_object_if_empty : (kind : Kind) (s : Slot) → is_in Empty s ≡ true → is_live_of kind s ≡ false
no_object_if_empty kind s empty = by_state s.state (is_kind kind s) empty where
  by_state : (state : SlotState) (kind : Bool) → (slot_state_number state == 1) ≡ true → ((slot_state_number state == 2) && kind) ≡ false
  by_state Free kind e = absurd (false≢true e)
  by_state Empty kind e = refl
  by_state Live kind e = absurd (false≢true e)

-- a slot is of one kind
pub is_no_other_kind : (kind other : Kind) (s : Slot) → is_kind kind s ≡ true → (kind_number kind == kind_number other) ≡ false → is_kind other s ≡ false
is_no_other_kind kind other s is apart = by_kind s.kind is where
  by_kind : (k : Option Kind) → option_map_or (λ own. kind_number own == kind_number kind) k false ≡ true
      → option_map_or (λ own. kind_number own == kind_number other) k false ≡ false
  by_kind None e = absurd (false≢true e)
  by_kind (Some own) e = ap (λ n. n == kind_number other) (eqb-true (kind_number own) (kind_number kind) e) ∙ apart

pub is_no_other_object : (kind other : Kind) (s : Slot) → is_live_of kind s ≡ true → (kind_number kind == kind_number other) ≡ false
    → is_live_of other s ≡ false
is_no_other_object kind other s live apart =
    and_right (is_in Live s) (is_kind other s) (is_no_other_kind kind other s (second (is_in Live s) (is_kind kind s) live) apart) where
      second : (a b : Bool) → (a && b) ≡ true → b ≡ true
      second true b e = e
      second false b e = absurd (false≢true e)
