use Rattle.std.proofs.Common.{ℕ, ◌+◌, ◌<◌, ◌≤◌, ◌≡◌, List, length, sym, ap, subst, ◌∙◌, arith}
use Rattle.std.proofs.lemmas.List.Elements.{All-get_or, All-push}
use Rattle.event_log.specs.Events.{Irq, events_of}
use Rattle.event_log.specs.Log.{IsEntry, irq_count, step_count, with_irq}
use Rattle.event_log.specs.declared.entry.Entry.{Entry}
use Rattle.event_log.specs.declared.entry.Entry.TheVariants as entry
use Rattle.board_core.specs.After.{after}
use Rattle.board_core.specs.Devices.{fresh_device, noted}
use Rattle.board_core.specs.Machine.{AreCounted, Recorded, origin_of, shown}
use Rattle.board_core.specs.declared.devices.Device.{Device}
use Rattle.board_core.specs.declared.parts.Parts.{Parts}
use Rattle.board_core.proofs.Counts.{irq_counts}
use Rattle.board_core.proofs.Histories.{AreEntries}
use Rattle.board_core.proofs.Standing.{Laws, event_stands, images_shown, interrupt_devices, irq_keeps, irq_next, status_by}
use Rattle.board_core.proofs.Waits.{has_room}
use Rattle.board_core.proofs.machine.Machine.take.Goals as goal
use Rattle.board_core.proofs.machine.Machine.take.Goals.{After-add_irq, After-room}

-- the device is one of the board's, and so of those that are kept
its_board : (c : After-room) → c.args.d < length c.self.inside.board.devices
its_board c = subst (λ (s : Recorded). c.args.d < length s.origin.board.devices) (sym c.self.view_is) c.requires.device

is_kept : (c : After-room) → c.args.d < length c.self.inside.parts.devices
is_kept c = subst (λ n. c.args.d < n) (sym c.self.invariant.world.devices) (its_board c)

pub interrupt-requires-clause-board : goal.interrupt-requires-clause-board
interrupt-requires-clause-board c = its_board (goal.at.interrupt-requires-clause-board c).After-room

pub interrupt-requires-clause-device : goal.interrupt-requires-clause-device
interrupt-requires-clause-device c = is_kept (goal.at.interrupt-requires-clause-device c).After-room

-- no more was taken of it than in all, and so there is room for one more
pub interrupt-requires-clause-taken : goal.interrupt-requires-clause-taken
interrupt-requires-clause-taken c =
    let m = c.self.inside in
    let inside = is_kept (goal.at.interrupt-requires-clause-taken c).After-room in
    let room = subst (λ (s : Recorded). irq_count s.history < s.irqs) (sym c.self.view_is) c.requires.room in
    let taken = All-get_or (λ (x : Device). x.taken ≤ irq_count m.history.entries) m.parts.devices c.args.d fresh_device inside c.self.invariant.world.taken in
    omega (arith, taken, room, c.room.ensures.same, c.room.ensures.at_most)

pub interrupt-requires-clause-room : goal.interrupt-requires-clause-room
interrupt-requires-clause-room c =
    let m = c.self.inside in has_room (shown m.board m.parts m.history.entries) c.self.invariant.world

-- one interrupt is counted, and the parts are what it leaves
irqs_more : (c : After-add_irq) → irq_count c.add_irq.new.self.entries ≡ irq_count c.self.inside.history.entries + 1
irqs_more c =
    ap irq_count c.add_irq.ensures.entries ∙ c.a_history_grows_by_one_event.ensures.irqs_by_irq c.args.d c.args.w c.self.inside.history.entries

steps_same : (c : After-add_irq) → step_count c.add_irq.new.self.entries ≡ step_count c.self.inside.history.entries
steps_same c =
    ap step_count c.add_irq.ensures.entries ∙ c.a_history_grows_by_one_event.ensures.steps_by_irq c.args.d c.args.w c.self.inside.history.entries

few : (c : After-add_irq) → irq_count c.add_irq.new.self.entries ≤ 65536
few c =
    let room = subst (λ (s : Recorded). irq_count s.history < s.irqs) (sym c.self.view_is) c.requires.room in
    omega (arith, irqs_more c, room, c.room.ensures.same, c.room.ensures.at_most)

shows : (c : After-add_irq)
    → let m = c.self.inside in
    after (shown m.board m.parts m.history.entries) (Irq c.args.d c.args.w) ≡ shown m.board c.interrupt.new.self c.add_irq.new.self.entries
shows c =
    let m = c.self.inside in
    let h = m.history.entries in
    irq_next m.board m.parts c.interrupt.new.self h c.add_irq.new.self.entries c.args.d c.args.w c.interrupt.ensures.parts (steps_same c) (irqs_more c)

-- and its word is one more of its device
counts : (c : After-add_irq) → c.args.d < length c.self.inside.parts.devices → AreCounted c.interrupt.new.self.devices c.add_irq.new.self.entries
counts c inside =
    let m = c.self.inside in
    let d = c.args.d in
    let w = c.args.w in
    let h = m.history.entries in
    let devices = ap (λ (x : Parts). x.devices) c.interrupt.ensures.parts ∙ interrupt_devices m.board m.parts d w in
    subst (λ (ds : List Device). AreCounted ds c.add_irq.new.self.entries) (sym devices)
    (subst (AreCounted (noted m.parts.devices d (status_by m.board m.parts d w))) (sym c.add_irq.ensures.entries)
    (irq_counts c.an_interrupt_is_one_word_more.ensures.irq m.parts.devices d w (status_by m.board m.parts d w) h inside c.self.invariant.counts))

pub invariant_of-self : goal.invariant_of-self
invariant_of-self c =
    let at = (goal.at.invariant_of-self c).After-add_irq in
    let before = (goal.at.invariant_of-self c).After-room in
    let m = c.self.inside in
    let stay = c.an_event_keeps_regions_and_images.ensures in
    let h = m.history.entries in
    let h' = c.add_irq.new.self.entries in
    let d = c.args.d in
    let w = c.args.w in
    let n = length m.board.devices in
    let p' = c.interrupt.new.self in
    let laws : Laws = record {
      regions = stay.regions;
      images = stay.images;
      owners = c.slots_are_of_started_modules.ensures.owners;
      raises = c.no_wait_is_lost.ensures.counts;
      tally = c.no_wait_is_lost.ensures.tally;
    } in
    event_stands laws m.board m.parts p' h h' (Irq d w) c.self.invariant
    (subst (AreEntries n) (sym c.add_irq.ensures.entries)
    (All-push (IsEntry n) h (entry.Irq d w) c.self.invariant.its_devices (its_board before, omega (arith, c.ranges.w))))
    (ap events_of c.add_irq.ensures.entries ∙ c.a_history_grows_by_one_event.ensures.irq d w h) (shows at)
    (irq_keeps m.board m.parts p' h h' d w c.self.invariant.world (is_kept before) c.interrupt.ensures.parts (steps_same at) (irqs_more at) (few at)
    c.interrupt.ensures.serves c.is_guarded.ensures)
    (counts at (is_kept before))

pub returns : goal.returns
returns c =
    let m = c.self.inside in
    let h = m.history.entries in
    let d = c.args.d in
    let w = c.args.w in
    let o = origin_of m.board m.parts in
    let now = c.add_irq.new.self in
    let images = images_shown c.an_event_keeps_regions_and_images.ensures.images (shown m.board m.parts h)
    (shown m.board c.interrupt.new.self now.entries) (Irq d w) c.self.invariant.world (shows (goal.at.returns c).After-add_irq) in
    ap (λ (i : List (List ℕ)). record { origin = record { board = m.board; images = i }; history = now.entries; irqs = now.irqs }) images
    ∙ (ap (λ (es : List Entry). record { origin = o; history = es; irqs = now.irqs }) c.add_irq.ensures.entries
    ∙ (ap (λ (n : ℕ). record { origin = o; history = with_irq d w h; irqs = n }) c.add_irq.ensures.room
    ∙ ap (λ (s : Recorded). record s { history = with_irq d w s.history }) c.self.view_is))
