use Rattle.std.proofs.Common.{ℕ, ◌+◌, ◌<◌, ◌≤◌, List, length, replicate, sym, ap, subst, ◌∙◌, arith}
use Rattle.event_log.specs.Events.{Step, events_of}
use Rattle.event_log.specs.Log.{irq_count, step_count, with_steps}
use Rattle.event_log.specs.declared.entry.Entry.{Entry}
use Rattle.board_core.specs.Machine.{AreCounted, Recorded, origin_of, shown}
use Rattle.board_core.specs.declared.devices.Device.{Device}
use Rattle.board_core.specs.declared.parts.Parts.{Parts}
use Rattle.board_core.proofs.Histories.{AreEntries, steps_entries}
use Rattle.board_core.proofs.MadeSteps.{Laws, made_devices, made_leads, some_made}
use Rattle.board_core.proofs.Standing.{Leads, events_stand}
use Rattle.board_core.proofs.Waits.{has_room}
use Rattle.board_core.proofs.machine.Machine.make.Goals as goal
use Rattle.board_core.proofs.machine.Machine.make.Goals.{After-add_steps, After-make_steps-made}

-- there is room for one event more
pub make_steps-made-requires-clause-room : goal.make_steps-made-requires-clause-room
make_steps-made-requires-clause-room c =
    let m = c.self.inside in has_room (shown m.board m.parts m.history.entries) c.self.invariant.world

-- at least one step was made, and no more than were asked for
made : (c : After-make_steps-made) → (0 < c.make_steps-made.result) × (c.make_steps-made.result ≤ c.args.most)
made c =
    let bounds = some_made c.args.most c.self.inside.parts c.requires.some in
    (omega (arith, bounds.0, c.make_steps-made.ensures.steps), omega (arith, bounds.1, c.make_steps-made.ensures.steps))

-- the steps lead from the world that was shown to the one that is
leads : (c : After-add_steps)
    → let m = c.self.inside in
    Leads (shown m.board m.parts m.history.entries) (replicate c.make_steps-made.result Step)
    (shown m.board c.make_steps-made.new.self c.add_steps.new.self.entries)
leads c =
    let m = c.self.inside in
    let h = m.history.entries in
    let n = c.make_steps-made.result in
    let grows = c.a_history_grows_by_steps.ensures in
    let stay = c.an_event_keeps_regions_and_images.ensures in
    let laws : Laws = record {
      is_ready = c.who_runs_is_a_thread.ensures.running_is_ready;
      is_thread = c.who_runs_is_a_thread.ensures.ready_is_thread;
      hart = c.a_kernel_stays_sound.ensures.one_hart_changes;
      lengths = c.a_write_changes_its_range_alone.ensures.length_stays;
      promises = c.a_promised_result_may_be_stored.ensures.stays;
      events = record {
        regions = stay.regions;
        images = stay.images;
        owners = c.slots_are_of_started_modules.ensures.owners;
        raises = c.no_wait_is_lost.ensures.counts;
        tally = c.no_wait_is_lost.ensures.tally;
      };
    } in
    let room = subst (λ (s : Recorded). step_count s.history + c.args.most ≤ 100000000) (sym c.self.view_is) c.requires.room in
    made_leads laws m.board m.parts c.make_steps-made.new.self h c.add_steps.new.self.entries c.args.most n c.self.invariant.world room
    c.make_steps-made.ensures.steps c.make_steps-made.ensures.parts
    (ap step_count c.add_steps.ensures.entries ∙ grows.steps n h) (ap irq_count c.add_steps.ensures.entries ∙ grows.irqs n h)
    c.make_steps-made.ensures.serves c.is_guarded.ensures

-- no word is taken by them
counts : (c : After-add_steps) → AreCounted c.make_steps-made.new.self.devices c.add_steps.new.self.entries
counts c =
    let p = c.self.inside.parts in
    let devices = ap (λ (x : Parts). x.devices) c.make_steps-made.ensures.parts ∙ made_devices c.args.most p in
    subst (λ (ds : List Device). AreCounted ds c.add_steps.new.self.entries) (sym devices)
    (subst (AreCounted p.devices) (sym c.add_steps.ensures.entries)
    (λ d. c.self.invariant.counts d
    ∙ ap (λ (ws : List ℕ). length ws) (sym (c.a_history_grows_by_steps.ensures.words c.make_steps-made.result d c.self.inside.history.entries))))

pub add_steps-requires : goal.add_steps-requires
add_steps-requires c =
    let room = subst (λ (s : Recorded). step_count s.history + c.args.most ≤ 100000000) (sym c.self.view_is) c.requires.room in
    omega (arith, room, (made (goal.at.add_steps-requires c).After-make_steps-made).1)

pub invariant_of-self : goal.invariant_of-self
invariant_of-self c =
    let m = c.self.inside in
    let h = m.history.entries in
    let n = c.make_steps-made.result in
    events_stand m.board m.parts c.make_steps-made.new.self h c.add_steps.new.self.entries (replicate n Step) c.self.invariant
    (subst (AreEntries (length m.board.devices)) (sym c.add_steps.ensures.entries) (steps_entries (length m.board.devices) n h c.self.invariant.its_devices))
    (ap events_of c.add_steps.ensures.entries ∙ c.a_history_grows_by_steps.ensures.events n h)
    (leads (goal.at.invariant_of-self c).After-add_steps) (counts (goal.at.invariant_of-self c).After-add_steps)

pub returns-clause-some : goal.returns-clause-some
returns-clause-some c = (made (goal.at.returns-clause-some c).After-make_steps-made).0

pub returns-clause-at_most : goal.returns-clause-at_most
returns-clause-at_most c = (made (goal.at.returns-clause-at_most c).After-make_steps-made).1

pub returns-clause-history : goal.returns-clause-history
returns-clause-history c =
    let m = c.self.inside in
    let h = m.history.entries in
    let n = c.make_steps-made.result in
    let o = origin_of m.board m.parts in
    let now = c.add_steps.new.self in
    ap (λ (i : List (List ℕ)). record { origin = record { board = m.board; images = i }; history = now.entries; irqs = now.irqs })
    (leads (goal.at.returns-clause-history c).After-add_steps).images
    ∙ (ap (λ (es : List Entry). record { origin = o; history = es; irqs = now.irqs }) c.add_steps.ensures.entries
    ∙ (ap (λ (i : ℕ). record { origin = o; history = with_steps n h; irqs = i }) c.add_steps.ensures.room
    ∙ ap (λ (s : Recorded). record s { history = with_steps n s.history }) c.self.view_is))
