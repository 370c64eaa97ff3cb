-- A machine on which an event is made stands for the run of its history with that event more.
use Rattle.std.proofs.Common.{◌≡◌, ℕ, ◌+◌, ◌<◌, ◌≤◌, List, [], ◌∷◌, ◌++◌, length, All, refl, sym, ap, subst, ◌∙◌, fold, arith}
use Rattle.std.proofs.lemmas.List.{length-set}
use Rattle.std.proofs.lemmas.List.Elements.{All-get_or, All-set, All-weaker}
use Rattle.std.proofs.lemmas.List.Sums.{fold-append}
use Rattle.tx_types.specs.End.{WaitEnd}
use Rattle.board_file.specs.declared.board.Action.{Action}
use Rattle.board_file.specs.declared.board.Action.TheVariants.{Resume, Tick}
use Rattle.board_file.specs.declared.board.Board.{Board}
use Rattle.board_file.specs.Rules.{IsBoard}
use Rattle.event_log.specs.Events.{Event, Irq, Step, events_of}
use Rattle.event_log.specs.Log.{IsEntry, irq_count, step_count}
use Rattle.event_log.specs.declared.entry.Entry.{Entry}
use Rattle.kernel_state.specs.Serves.{Serves}
use Rattle.module_manager.specs.declared.modules.Module.{Module}
use Rattle.region_guard.specs.Memory.{IsSound as IsSoundMemory}
use Rattle.rv_core.specs.Execute.{Effect, Completes, Stores, Calls, Faults}
use Rattle.board_core.specs.Action.{acted, clock_advanced, device_of, interrupted, resumed_by_name}
use Rattle.board_core.specs.Boot.{booted, regions_of}
use Rattle.board_core.specs.Laws.{CountsAtMost, EventRaisesCounts, ImagesStay, IsWorld, OwnersStay, RegionsStay, TallyStays, images_in}
use Rattle.board_core.specs.Machine.{AreCounted, Stands, origin_of, shown}
use Rattle.board_core.specs.After.{after}
use Rattle.board_core.specs.Owners.{AreOwned}
use Rattle.board_core.specs.Run.{run}
use Rattle.board_core.specs.Step.{after_effect, after_fault}
use Rattle.board_core.specs.Trace.{AreTallied, IsTallied, Traced, begun, next}
use Rattle.board_core.specs.Devices.{device_at, fresh_device, noted}
use Rattle.board_core.specs.World.{World}
use Rattle.board_core.specs.declared.devices.Device.{Device}
use Rattle.board_core.specs.declared.parts.Parts.{Parts}
use Rattle.board_core.proofs.Regions.{acted_modules, effect_modules}
use Rattle.board_core.proofs.Traces.{now_is}

-- the laws over every event
pub record Laws : Type 0 where
  pub regions : RegionsStay
  pub images : ImagesStay
  pub owners : OwnersStay
  pub raises : EventRaisesCounts
  pub tally : TallyStays

-- the images stay where the next world is the one that is shown
pub images_shown : ImagesStay → (w now : World) (e : Event) → IsWorld w → after w e ≡ now
    → images_in now.parts.memory now.parts.modules ≡ images_in w.parts.memory w.parts.modules
images_shown stay w now e sound is = ap (λ (v : World). images_in v.parts.memory v.parts.modules) (sym is) ∙ stay w e sound

-- what a world keeps beside its regions, its owners and its counts
pub record Keeps (w : World) : Type 0 where
  pub board : IsBoard w.board
  pub serves : Serves w.parts.kernel w.parts.memory
  pub memory : IsSoundMemory w.parts.memory
  pub modules : length w.parts.modules ≡ length w.board.modules
  pub devices : length w.parts.devices ≡ length w.board.devices
  pub taken : All (λ d. d.taken ≤ w.irqs) w.parts.devices
  pub steps : w.steps ≤ 100000000
  pub irqs : w.irqs ≤ 65536

-- the counts are at most the number of events, of which there is one more
one_event : (w : World) (e : Event) → (after w e).steps + (after w e).irqs ≡ w.steps + w.irqs + 1
one_event w Step = omega arith
one_event w (Irq d word) = omega arith

counts_rise : EventRaisesCounts → (w : World) (e : Event) → IsWorld w → CountsAtMost ((after w e).steps + (after w e).irqs) (after w e).parts.kernel
counts_rise raises w e sound =
    let one = raises w e sound in
    let more = one_event w e in
    record {
      begun = omega (arith, one.begun, more, sound.counts.begun);
      armings = omega (arith, one.armings, more, sound.counts.armings);
      ticks = omega (arith, one.ticks, more, sound.counts.ticks);
    }

is_world : Laws → (w now : World) (e : Event) → IsWorld w → after w e ≡ now → Keeps now → IsWorld now
is_world laws w now e sound is keeps =
    let regions = laws.regions w e sound in
    record {
      board = keeps.board;
      serves = keeps.serves;
      memory = keeps.memory;
      regions = ap (λ (v : World). v.parts.memory.regions) (sym is)
          ∙ (regions.0 ∙ (sound.regions ∙ (sym regions.1 ∙ ap (λ (v : World). regions_of 0 v.parts.modules) is)));
      modules = keeps.modules;
      devices = keeps.devices;
      taken = keeps.taken;
      owned = subst (λ (v : World). AreOwned v.parts.modules v.parts.kernel.objects) is (laws.owners w e sound);
      steps = keeps.steps;
      irqs = keeps.irqs;
      counts = subst (λ (v : World). CountsAtMost (v.steps + v.irqs) v.parts.kernel) is (counts_rise laws.raises w e sound);
    }

-- a trace that reached a world
abbrev pub traced : World → List WaitEnd → Traced
traced w ended = record { now = w; ended = ended }

-- events lead from a world to another, of which the same holds, with the same images, and no wait is lost on the way
pub record Leads (w : World) (es : List Event) (now : World) : Type 0 where
  pub run : fold after w es ≡ now
  pub world : IsWorld now
  pub images : images_in now.parts.memory now.parts.modules ≡ images_in w.parts.memory w.parts.modules
  pub tally : (ended : List WaitEnd) → AreTallied w.parts.kernel.waits ended → IsTallied (fold next (traced w ended) es)

pub nothing_leads : (w : World) → IsWorld w → Leads w [] w
nothing_leads w world = record { run = refl; world = world; images = refl; tally = λ ended tallied. tallied }

pub event_leads : Laws → (w now : World) (e : Event) → IsWorld w → after w e ≡ now → Keeps now → Leads w (e ∷ []) now
event_leads laws w now e world is keeps =
    record {
      run = is;
      world = is_world laws w now e world is keeps;
      images = images_shown laws.images w now e world is;
      tally = λ ended tallied. laws.tally (traced w ended) e world tallied;
    }

-- a trace goes on from the world that it reached
goes_on : (t : Traced) (w : World) (es : List Event) → t.now ≡ w
    → ((ended : List WaitEnd) → AreTallied w.parts.kernel.waits ended → IsTallied (fold next (traced w ended) es)) → IsTallied t → IsTallied (fold next t es)
goes_on t w es is tally tallied =
    subst (λ (v : World). IsTallied (fold next (traced v t.ended) es)) (sym is)
    (tally t.ended (subst (λ (v : World). AreTallied v.parts.kernel.waits t.ended) is tallied))

pub leads_on : (w middle now : World) (es fs : List Event) → Leads w es middle → Leads middle fs now → Leads w (es ++ fs) now
leads_on w middle now es fs first then =
    record {
      run = fold-append after w es fs ∙ (ap (λ (v : World). fold after v fs) first.run ∙ then.run);
      world = then.world;
      images = then.images ∙ first.images;
      tally = λ ended tallied.
          let t = fold next (traced w ended) es in
          subst IsTallied (sym (fold-append next (traced w ended) es fs))
          (goes_on t middle fs (now_is (traced w ended) es ∙ first.run) then.tally (first.tally ended tallied));
    }

-- the run of a history that grew, with the images that the parts have now
run_on : (b : Board) (p p' : Parts) (h h' : List Entry) (es : List Event) → images_in p'.memory p'.modules ≡ images_in p.memory p.modules
    → events_of h' ≡ events_of h ++ es → run (origin_of b p') h' ≡ fold next (run (origin_of b p) h) es
run_on b p p' h h' es images events =
    let first = begun (booted b (images_in p.memory p.modules)) in
    ap (λ (i : List (List ℕ)). run (record { board = b; images = i }) h') images
    ∙ (ap (fold next first) events ∙ fold-append next first (events_of h) es)

pub events_stand : (b : Board) (p p' : Parts) (h h' : List Entry) (es : List Event) → Stands b p h → All (IsEntry (length b.devices)) h'
    → events_of h' ≡ events_of h ++ es → Leads (shown b p h) es (shown b p' h') → AreCounted p'.devices h' → Stands b p' h'
events_stand b p p' h h' es stands theirs events leads counts =
    let t = run (origin_of b p) h in
    let on = run_on b p p' h h' es leads.images events in
    record {
      tallied = subst IsTallied (sym on) (goes_on t (shown b p h) es stands.run leads.tally stands.tallied);
      run = ap (λ (u : Traced). u.now) on ∙ (now_is t es ∙ (ap (λ (v : World). fold after v es) stands.run ∙ leads.run));
      world = leads.world;
      its_devices = theirs;
      counts = counts;
    }

pub event_stands : Laws → (b : Board) (p p' : Parts) (h h' : List Entry) (e : Event) → Stands b p h
    → All (IsEntry (length b.devices)) h' → events_of h' ≡ events_of h ++ e ∷ [] → after (shown b p h) e ≡ shown b p' h' → Keeps (shown b p' h')
    → AreCounted p'.devices h' → Stands b p' h'
event_stands laws b p p' h h' e stands theirs events is keeps counts =
    events_stand b p p' h h' (e ∷ []) stands theirs events
    (event_leads laws (shown b p h) (shown b p' h') e stands.world is keeps) counts

-- a step keeps the number of modules, and the devices
pub effect_count : (p : Parts) (t : ℕ) (e : Effect) → length (after_effect p t e).modules ≡ length p.modules
effect_count p t e =
    effect_modules p t e (λ (ms : List Module). length ms ≡ length p.modules) refl (λ m state. length-set p.modules m _)

pub effect_devices : (p : Parts) (t : ℕ) (e : Effect) → (after_effect p t e).devices ≡ p.devices
unfolding after_fault
effect_devices p t (Completes h) = refl
effect_devices p t (Stores a n value h) = refl
effect_devices p t (Calls h) = refl
effect_devices p t (Faults cause) = refl

-- one interrupt more, of one device, is at least what was taken of each
taken_more : (ds : List Device) (d status n : ℕ) → d < length ds → All (λ x. x.taken ≤ n) ds → All (λ x. x.taken ≤ n + 1) (noted ds d status)
taken_more ds d status n inside all =
    let own : (device_at ds d).taken ≤ n = All-get_or (λ (x : Device). x.taken ≤ n) ds d fresh_device inside all in
    All-set (λ (x : Device). x.taken ≤ n + 1) ds d _ (omega (arith, own))
    (All-weaker (λ (x : Device). x.taken ≤ n) (λ (x : Device). x.taken ≤ n + 1) (λ x le. omega (arith, le)) ds all)

-- an action keeps the number of modules, and the devices, of which an interrupt notes one
acted_count : (p : Parts) (action : Action) (target : List ℕ) (word : ℕ) → length (acted p action target word).parts.modules ≡ length p.modules
acted_count p action target word =
    acted_modules p action target word (λ (ms : List Module). length ms ≡ length p.modules) refl (λ m state. length-set p.modules m _)

acted_devices : (p : Parts) (action : Action) (target : List ℕ) (word : ℕ) → (acted p action target word).parts.devices ≡ p.devices
unfolding clock_advanced resumed_by_name
acted_devices p Tick target word = refl
acted_devices p Resume target word = refl
acted_devices p _ target word = refl

abbrev pub status_by : Board → Parts → ℕ → ℕ → ℕ
status_by b p d word = (acted p (device_of b d).action (device_of b d).target word).status

pub interrupt_devices : (b : Board) (p : Parts) (d word : ℕ) → (interrupted b p d word).devices ≡ noted p.devices d (status_by b p d word)
interrupt_devices b p d word =
    ap (λ (ds : List Device). noted ds d (status_by b p d word)) (acted_devices p (device_of b d).action (device_of b d).target word)

-- the parts and the counts of a world
abbrev pub counted : Board → Parts → ℕ → ℕ → World
counted b p steps irqs = record { board = b; parts = p; steps = steps; irqs = irqs }

-- the world after an interrupt is the one that is shown by the parts as they were left and the grown history
pub irq_next : (b : Board) (p p' : Parts) (h h' : List Entry) (d word : ℕ) → p' ≡ interrupted b p d word
    → step_count h' ≡ step_count h → irq_count h' ≡ irq_count h + 1 → after (shown b p h) (Irq d word) ≡ shown b p' h'
irq_next b p p' h h' d word is steps irqs =
    ap (λ (x : Parts). counted b x (step_count h) (irq_count h + 1)) (sym is)
    ∙ (ap (λ n. counted b p' n (irq_count h + 1)) (sym steps) ∙ ap (λ n. counted b p' (step_count h') n) (sym irqs))

-- and what it keeps
pub irq_keeps : (b : Board) (p p' : Parts) (h h' : List Entry) (d word : ℕ) → IsWorld (shown b p h) → d < length p.devices
    → p' ≡ interrupted b p d word → step_count h' ≡ step_count h → irq_count h' ≡ irq_count h + 1 → irq_count h' ≤ 65536
    → Serves p'.kernel p'.memory → IsSoundMemory p'.memory → Keeps (shown b p' h')
irq_keeps b p p' h h' d word world inside is steps irqs few serves memory =
    let n = irq_count h in
    let devices : p'.devices ≡ noted p.devices d (status_by b p d word) = ap (λ (x : Parts). x.devices) is ∙ interrupt_devices b p d word in
    let more = taken_more p.devices d (status_by b p d word) n inside world.taken in
    record {
      board = world.board;
      serves = serves;
      memory = memory;
      modules = ap (λ (x : Parts). length x.modules) is ∙ (acted_count p (device_of b d).action (device_of b d).target word ∙ world.modules);
      devices = ap (λ (ds : List Device). length ds) devices ∙ (length-set p.devices d _ ∙ world.devices);
      taken = subst (λ i. All (λ (x : Device). x.taken ≤ i) p'.devices) (sym irqs)
          (subst (λ (ds : List Device). All (λ (x : Device). x.taken ≤ n + 1) ds) (sym devices) more);
      steps = omega (arith, steps, world.steps);
      irqs = few;
    }
