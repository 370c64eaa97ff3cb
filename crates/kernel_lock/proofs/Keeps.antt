-- A step and an interrupt leave a core what it keeps. The laws of histories are given by who calls these.
use Rattle.std.proofs.Common.{◌≡◌, ℕ, ◌+◌, ◌*◌, ◌^◌, ◌<◌, ◌≤◌, ◌↔◌, Bool, true, false, MatchBool, refl, List, [], ◌∷◌, ◌++◌, length, sym, ap, ◌∙◌, subst, arith}
use Rattle.std.proofs.lemmas.List.{length-append}
use Rattle.atomic_table.specs.Seated.{TableId}
use Rattle.board_core.specs.Machine.{Recorded}
use Rattle.board_core.specs.Run.{Origin}
use Rattle.event_log.specs.Events.{interrupts}
use Rattle.event_log.specs.Log.{IsHistory, closed, unclosed, parted, step_count, irq_count, with_step, with_irq}
use Rattle.event_log.specs.LogIn.{is_history}
use Rattle.event_log.specs.declared.entry.Entry.{Entry}
use Rattle.event_log.specs.declared.entry.Entry.TheVariants.{Steps, Irq}
use Rattle.irq_inbox.specs.Seen.{CpuSeen}
use Rattle.log_lane.specs.Seen.{LaneSeen, PassSeen}
use Rattle.kernel_lock.specs.Holds.{Holds}
use Rattle.kernel_lock.specs.Turn.{after_turn}
use Rattle.kernel_lock.specs.declared.turn.Turn.{Turn}
use Rattle.kernel_lock.specs.declared.turn.Turn.TheVariants.{Stepped, Idle}

-- what is said of a step
pub record StepLaws : Type 0 where
  pub closed : (es : List Entry) → closed (with_step es) ≡ closed es
  pub interrupts : (es : List Entry) → interrupts (with_step es) ≡ interrupts es
  pub steps : (es : List Entry) → step_count (with_step es) ≡ step_count es + 1
  pub history : (devices : ℕ) (es : List Entry) → is_history devices es ≡ true → step_count es < 100000000 → is_history devices (with_step es) ≡ true

pub step_keeps : (laws : StepLaws) (o : Origin) (box : TableId) (line : LaneSeen) (m m' : Recorded) (inbox : TableId) (pass : CpuSeen)
    (lane : LaneSeen) (put : PassSeen)
    → Holds o box line m inbox pass lane put → step_count m.history < m.origin.board.steps → m' ≡ record m { history = with_step m.history }
    → Holds o box line m' inbox pass lane put
step_keeps laws o box line m m' inbox pass lane put h room is =
    let few : step_count m.history < o.board.steps = subst (λ (y : Origin). step_count m.history < y.board.steps) h.began room in
    subst (λ y. Holds o box line y inbox pass lane put) (sym is) (record {
      began = h.began;
      its_inbox = h.its_inbox;
      of_inbox = h.of_inbox;
      its_lane = h.its_lane;
      of_lane = h.of_lane;
      devices = h.devices;
      apart = h.apart;
      taken = laws.interrupts m.history ∙ h.taken;
      entries = h.entries ∙ sym (laws.closed m.history);
      steps = omega (arith, laws.steps m.history, few);
      most = h.most;
      capacity = h.capacity;
      history = laws.history (length o.board.devices) m.history h.history (omega (arith, few, h.rules.steps));
      rules = h.rules;
    })

-- what is said of an interrupt
pub record IrqLaws : Type 0 where
  pub closed : (d w : ℕ) (es : List Entry) → closed (with_irq d w es) ≡ with_irq d w es
  pub interrupts : (d w : ℕ) (es : List Entry) → interrupts (with_irq d w es) ≡ interrupts es ++ (d, w) ∷ []
  pub steps : (d w : ℕ) (es : List Entry) → step_count (with_irq d w es) ≡ step_count es
  pub history : (devices d w : ℕ) (es : List Entry) → is_history devices es ≡ true → d < devices → w < 2 ^ 32 → irq_count es < 65536
      → is_history devices (with_irq d w es) ≡ true

-- the pass has got one word more, and is else the same
pub record GotMore (d w : ℕ) (pass pass' : CpuSeen) : Type 0 where
  pub got : pass'.got ≡ pass.got ++ (d, w) ∷ []
  pub inbox : pass'.inbox ≡ pass.inbox
  pub devices : pass'.devices ≡ pass.devices
  pub gathered : pass'.gathered ≡ pass.gathered

pub take_keeps : (laws : IrqLaws) (o : Origin) (box : TableId) (line : LaneSeen) (m m' : Recorded) (inbox : TableId) (pass pass' : CpuSeen) (lane : LaneSeen)
    (put put' : PassSeen) (d w : ℕ)
    → Holds o box line m inbox pass lane put → GotMore d w pass pass' → d < pass.devices → w < 2 ^ 32 → irq_count m.history < m.irqs
    → m' ≡ record m { history = with_irq d w m.history } → put' ≡ record put { entries = with_irq d w m.history } → Holds o box line m' inbox pass' lane put'
take_keeps laws o box line m m' inbox pass pass' lane put put' d w h more below fits room is into =
    subst (λ (y : Recorded × PassSeen). Holds o box line y.0 inbox pass' lane y.1) (λ i. (sym is i, sym into i)) (record {
      began = h.began;
      its_inbox = h.its_inbox;
      of_inbox = more.inbox ∙ h.of_inbox;
      its_lane = h.its_lane;
      of_lane = h.of_lane;
      devices = more.devices ∙ h.devices;
      apart = more.gathered ∙ h.apart;
      taken = laws.interrupts d w m.history ∙ (ap (λ l. l ++ (d, w) ∷ []) h.taken ∙ sym more.got);
      entries = sym (laws.closed d w m.history);
      steps = omega (arith, laws.steps d w m.history, h.steps);
      most = h.most;
      capacity = h.capacity;
      history =
          laws.history (length o.board.devices) d w m.history h.history (omega (arith, below, h.devices)) fits (omega (arith, room, h.most, h.rules.scripts));
      rules = h.rules;
    })

-- at most one entry is open
one_open : (es : List Entry) → length (unclosed es) ≤ 1
one_open [] = omega arith
one_open (Steps n ∷ []) = omega arith
one_open (Irq d w ∷ []) = omega arith
one_open (e ∷ f ∷ es) = one_open (f ∷ es)

-- what is said of the number of entries
pub record FewLaws : Type 0 where
  pub few : (es : List Entry) → parted es ≡ true → length (closed es) ≤ 2 * irq_count es
  pub whole : (es : List Entry) → es ≡ closed es ++ unclosed es
  pub tested : (devices : ℕ) (es : List Entry) → is_history devices es ≡ true ↔ IsHistory devices es

-- while there is room for an interrupt, the lane has room for all entries
pub lane_fits : (laws : FewLaws) (o : Origin) (box : TableId) (line : LaneSeen) (m : Recorded) (inbox : TableId) (pass : CpuSeen)
    (lane : LaneSeen) (put : PassSeen)
    → Holds o box line m inbox pass lane put → irq_count m.history < m.irqs → (length m.history < lane.most) × (length put.entries < lane.most)
lane_fits laws o box line m inbox pass lane put h room =
    let is = (laws.tested (length o.board.devices) m.history).0 h.history in
    let all : length m.history ≡ length (closed m.history) + length (unclosed m.history) =
    ap length (laws.whole m.history) ∙ length-append (closed m.history) (unclosed m.history) in
    let most : lane.most ≡ 2 * m.irqs + 1 = ap (λ (y : LaneSeen). y.most) h.its_lane ∙ h.capacity in (
      omega (arith, all, one_open m.history, laws.few m.history is.apart, room, most),
      omega (arith, ap length h.entries, laws.few m.history is.apart, room, most),
    )

-- a pass that stays leaves a core what it keeps
pub same_pass : (o : Origin) (box : TableId) (line : LaneSeen) (m : Recorded) (inbox : TableId) (pass pass' : CpuSeen) (lane : LaneSeen) (put : PassSeen)
    → Holds o box line m inbox pass lane put → pass' ≡ pass → Holds o box line m inbox pass' lane put
same_pass o box line m inbox pass pass' lane put h is = subst (λ y. Holds o box line m inbox y lane put) (sym is) h

-- a step where one may be made, and else nothing, leaves a core what it keeps
pub step_where_keeps : (laws : StepLaws) (o : Origin) (box : TableId) (line : LaneSeen) (m m' : Recorded) (inbox : TableId) (pass : CpuSeen) (lane : LaneSeen)
    (put : PassSeen) (may : Bool) (t : Turn)
    → Holds o box line m inbox pass lane put → (may ≡ true → step_count m.history < m.origin.board.steps) → MatchBool may (t ≡ Stepped) (t ≡ Idle)
    → m' ≡ record m { history = after_turn m.history t } → Holds o box line m' inbox pass lane put
step_where_keeps laws o box line m m' inbox pass lane put true t h room is made =
    step_keeps laws o box line m m' inbox pass lane put h (room refl) (made ∙ ap (λ y. record m { history = after_turn m.history y }) is)
step_where_keeps laws o box line m m' inbox pass lane put false t h room is made =
    subst (λ y. Holds o box line y inbox pass lane put) (sym (made ∙ ap (λ y. record m { history = after_turn m.history y }) is)) h
