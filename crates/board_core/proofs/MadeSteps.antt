-- Steps that are made at once are as many steps of the written machine: a burst, one instruction after another, and what is after it.
use Rattle.std.proofs.Common.{◌≡◌, ℕ, zero, suc, ◌+◌, ◌-◌, ◌<◌, ◌≤◌, List, [], ◌∷◌, length, All, replicate, Option, None, Some, refl, sym, ap, ◌∙◌, subst}
use Rattle.std.proofs.Common.{one-add, arith}
use Rattle.std.proofs.lemmas.List.{replicate_more}
use Rattle.std.proofs.lemmas.List.Elements.{All-weaker}
use Rattle.board_file.specs.declared.board.Board.{Board}
use Rattle.event_log.specs.Events.{Event, Step}
use Rattle.event_log.specs.Log.{irq_count, step_count}
use Rattle.event_log.specs.declared.entry.Entry.{Entry}
use Rattle.flat_ram.specs.Laws.{LengthStays}
use Rattle.kernel_state.specs.Kernel.{thread, module_of}
use Rattle.kernel_state.specs.Laws.{OneHartChanges, RunningIsReady, ReadyIsThread}
use Rattle.kernel_state.specs.Serves.{Serves}
use Rattle.kernel_state.specs.Sound.{IsSound}
use Rattle.kernel_state.specs.WaitLaws.{PromisesStay}
use Rattle.kernel_state.specs.declared.kernel.Kernel.{Kernel}
use Rattle.kernel_state.specs.declared.thread.Thread.{Thread}
use Rattle.machine_words.specs.Number.{low_bytes}
use Rattle.region_guard.specs.Memory.{Memory, IsInRam, IsSound as IsSoundMemory, ram_base, with_number}
use Rattle.region_guard.specs.declared.region.Region.{Region}
use Rattle.rv_core.specs.Execute.{Effect, Completes, Stores, Calls, Faults, executed}
use Rattle.rv_core.specs.Hart.{HartState}
use Rattle.board_core.specs.Burst.{Burst, Made, burst, burst_by, burst_of, made, made_by, made_of, one_more}
use Rattle.board_core.specs.Bus.{seen}
use Rattle.board_core.specs.Laws.{IsWorld}
use Rattle.board_core.specs.Machine.{shown}
use Rattle.board_core.specs.After.{after}
use Rattle.board_core.specs.Step.{after_effect, next_effect, ran_on, with_hart}
use Rattle.board_core.specs.World.{World}
use Rattle.board_core.specs.declared.devices.Device.{Device}
use Rattle.board_core.specs.declared.parts.Parts.{Parts}
use Rattle.board_core.proofs.BurstSteps.{Ends, burst_ends}
use Rattle.board_core.proofs.Running.{running_below, serves-with_hart, serves_over, stepped_idle, stepped_is, thread-with_hart}
use Rattle.board_core.proofs.Standing.{Keeps, Laws as EventLaws, Leads, counted, effect_count, effect_devices, event_leads, leads_on, nothing_leads}
use Rattle.board_core.proofs.Steps.{with_hart-same, with_hart-twice}

-- the laws that a step rests on
pub record Laws : Type 0 where
  pub is_ready : RunningIsReady
  pub is_thread : ReadyIsThread
  pub hart : OneHartChanges
  pub lengths : LengthStays
  pub promises : PromisesStay
  pub events : EventLaws

-- memory stays sound where its bytes change and stay as many
sound_bytes : (g : Memory) (bytes : List ℕ) → IsSoundMemory g → length bytes ≡ length g.bytes → IsSoundMemory (record g { bytes = bytes })
sound_bytes g bytes sound size =
    record {
      at_most = sound.at_most;
      in_ram = All-weaker (IsInRam g.bytes) (IsInRam bytes)
          (λ (r : Region) (within : IsInRam g.bytes r). record {
            not_empty = within.not_empty;
            range = record { from_base = within.range.from_base; to_end = omega (arith, within.range.to_end, size) };
          }) g.regions sound.in_ram;
      apart = sound.apart;
      addressable = omega (arith, sound.addressable, size);
    }

-- a world after one step more, and after steps in which a thread's code ran on
abbrev after_step : World → Parts → World
after_step w p = record w { parts = p; steps = w.steps + 1 }

abbrev after_run : World → ℕ → ℕ → HartState → Memory → World
after_run w t n h g = record w { parts = ran_on w.parts t h g; steps = w.steps + n }

abbrev ran : World → ℕ → Burst → World
ran w t b = after_run w t b.done b.hart b.memory

-- an instruction that completes is one step of the written machine
module _ (laws : Laws) (w : World) (t : ℕ) (world : IsWorld w) (runs : w.parts.kernel.ready.run ≡ Some t) where
  below : t < 256
  below = running_below laws.is_ready laws.is_thread w.parts.kernel t world.serves.sound runs

  step_is : (e : Effect) → next_effect w.parts t ≡ e → after w Step ≡ after_step w (after_effect w.parts t e)
  step_is e is = ap (after_step w) (stepped_is w.parts t e runs is)

  ran_world : (h : HartState) (bytes : List ℕ) → length bytes ≡ length w.parts.memory.bytes → w.steps + 1 ≤ 100000000
      → after w Step ≡ after_run w t 1 h (record w.parts.memory { bytes = bytes })
      → Leads w (Step ∷ []) (after_run w t 1 h (record w.parts.memory { bytes = bytes }))
  ran_world h bytes size few is =
      event_leads laws.events w (after_run w t 1 h (record w.parts.memory { bytes = bytes })) Step world is
      (record {
        board = world.board;
        serves = serves_over laws.promises (with_hart w.parts.kernel t h) w.parts.memory (record w.parts.memory { bytes = bytes }) refl
            (serves-with_hart laws.hart w.parts.kernel w.parts.memory t h world.serves below);
        memory = sound_bytes w.parts.memory bytes world.memory size;
        modules = world.modules;
        devices = world.devices;
        taken = world.taken;
        steps = few;
        irqs = world.irqs;
      })

-- and then comes the rest of the burst
ran_more : (w : World) (t n : ℕ) (h : HartState) (g : Memory) → IsSound w.parts.kernel → t < 256 → Leads w (Step ∷ []) (after_run w t 1 h g)
    → Leads (after_run w t 1 h g) (replicate (burst_of (ran_on w.parts t h g) t n).done Step)
    (ran (after_run w t 1 h g) t (burst_of (ran_on w.parts t h g) t n))
    → Leads w (replicate (1 + (burst (module_of w.parts.kernel t) n h g).done) Step) (ran w t (one_more (burst (module_of w.parts.kernel t) n h g)))
ran_more w t n h g sound below first rest =
    let v = after_run w t 1 h g in
    let b = burst (module_of w.parts.kernel t) n h g in
    let same : burst_of (ran_on w.parts t h g) t n ≡ b =
    ap (λ (u : Thread). burst u.module n u.hart g) (thread-with_hart w.parts.kernel t h sound below) in
    let now : ran v t b ≡ ran w t (one_more b) =
    ap (λ (k : Kernel). record w { parts = record w.parts { kernel = k; memory = b.memory }; steps = w.steps + 1 + b.done })
    (with_hart-twice w.parts.kernel t h b.hart)
    ∙ ap (λ s. record w { parts = ran_on w.parts t b.hart b.memory; steps = s }) (omega arith) in
    subst (Leads w (replicate (1 + b.done) Step)) now
    (subst (λ (es : List Event). Leads w es (ran v t b)) (ap (λ i. replicate i Step) (sym (one-add b.done)))
    (leads_on w v (ran v t b) (Step ∷ []) (replicate b.done Step) first (subst (λ (x : Burst). Leads v (replicate x.done Step) (ran v t x)) same rest)))

-- a thread whose code hasn't run yet
stays : (w : World) (t : ℕ) → IsWorld w → Leads w [] (after_run w t 0 (thread w.parts.kernel t).hart w.parts.memory)
stays w t world =
    let h = (thread w.parts.kernel t).hart in
    let same : w ≡ after_run w t 0 h w.parts.memory =
    ap (λ (k : Kernel). record w { parts = record w.parts { kernel = k } }) (sym (with_hart-same w.parts.kernel t))
    ∙ ap (λ s. record w { parts = ran_on w.parts t h w.parts.memory; steps = s }) (omega arith) in
    subst (Leads w []) same (nothing_leads w world)

abbrev BurstLeads : World → ℕ → Burst → Type 0
BurstLeads w t b = Leads w (replicate b.done Step) (ran w t b)

burst_leads_by : Laws → (w : World) (t n : ℕ) → IsWorld w → w.parts.kernel.ready.run ≡ Some t → w.steps + suc n ≤ 100000000
    → (e : Effect) → next_effect w.parts t ≡ e
    → ((v : World) → IsWorld v → v.parts.kernel.ready.run ≡ Some t → v.steps + n ≤ 100000000 → BurstLeads v t (burst_of v.parts t n))
    → BurstLeads w t (burst_by (burst (module_of w.parts.kernel t) n) (thread w.parts.kernel t).hart w.parts.memory e)
burst_leads_by laws w t n world runs room (Completes h) is rest =
    let g = w.parts.memory in
    let first = ran_world laws w t world runs h g.bytes refl (omega (arith, room)) (step_is laws w t world runs (Completes h) is) in
    ran_more w t n h g world.serves.sound (below laws w t world runs) first (rest (after_run w t 1 h g) first.world runs (omega (arith, room)))
burst_leads_by laws w t n world runs room (Stores a i value h) is rest =
    let g = with_number w.parts.memory a i value in
    let size = laws.lengths w.parts.memory.bytes (low_bytes i value) (a - ram_base) in
    let first = ran_world laws w t world runs h g.bytes size (omega (arith, room)) (step_is laws w t world runs (Stores a i value h) is) in
    ran_more w t n h g world.serves.sound (below laws w t world runs) first (rest (after_run w t 1 h g) first.world runs (omega (arith, room)))
burst_leads_by laws w t n world runs room (Calls h) is rest = stays w t world
burst_leads_by laws w t n world runs room (Faults cause) is rest = stays w t world

-- a burst is as many steps as instructions completed
burst_leads : Laws → (t n : ℕ) (w : World) → IsWorld w → w.parts.kernel.ready.run ≡ Some t → w.steps + n ≤ 100000000 → BurstLeads w t (burst_of w.parts t n)
burst_leads laws t zero w world runs room = stays w t world
burst_leads laws t (suc n) w world runs room = burst_leads_by laws w t n world runs room (next_effect w.parts t) refl (burst_leads laws t n)

-- where no thread runs a step only counts
idle_once : EventLaws → (w : World) → IsWorld w → w.parts.kernel.ready.run ≡ None → w.steps + 1 ≤ 100000000
    → Leads w (Step ∷ []) (record w { steps = w.steps + 1 })
idle_once laws w world idle few =
    event_leads laws w (record w { steps = w.steps + 1 }) Step world (ap (after_step w) (stepped_idle w.parts idle)) (record {
      board = world.board;
      serves = world.serves;
      memory = world.memory;
      modules = world.modules;
      devices = world.devices;
      taken = world.taken;
      steps = few;
      irqs = world.irqs;
    })

idle_leads : EventLaws → (n : ℕ) (w : World) → IsWorld w → w.parts.kernel.ready.run ≡ None → w.steps + n ≤ 100000000
    → Leads w (replicate n Step) (record w { steps = w.steps + n })
idle_leads laws zero w world idle room = subst (λ s. Leads w [] (record w { steps = s })) (omega arith) (nothing_leads w world)
idle_leads laws (suc n) w world idle room =
    let v : World = record w { steps = w.steps + 1 } in
    let first = idle_once laws w world idle (omega (arith, room)) in
    let rest = idle_leads laws n v first.world idle (omega (arith, room)) in
    subst (λ s. Leads w (replicate (suc n) Step) (record w { steps = s })) (omega arith)
    (leads_on w v (record v { steps = v.steps + n }) (Step ∷ []) (replicate n Step) first rest)

-- the world after steps that were made at once
abbrev after_made : World → Made → World
after_made w u = record w { parts = u.parts; steps = w.steps + u.steps }

-- after a burst comes its end, if it has one
made_leads_by : Laws → (w : World) (t n : ℕ) (b : Burst) (end : Option Effect) → IsWorld w → w.parts.kernel.ready.run ≡ Some t → w.steps + n ≤ 100000000
    → Ends (module_of w.parts.kernel t) n b.done b.hart b.memory end → BurstLeads w t b
    → Serves (made_by w.parts t b end).parts.kernel (made_by w.parts t b end).parts.memory → IsSoundMemory (made_by w.parts t b end).parts.memory
    → Leads w (replicate (made_by w.parts t b end).steps Step) (after_made w (made_by w.parts t b end))
made_leads_by laws w t n b None world runs room ends leads serves memory = leads
made_leads_by laws w t n b (Some e) world runs room ends leads serves memory =
    let v = ran w t b in
    let p = after_effect v.parts t e in
    let now = after_made w (made_by w.parts t b (Some e)) in
    let effect : next_effect v.parts t ≡ e =
    ap (λ (u : Thread). executed (seen u.module b.memory) u.hart) (thread-with_hart w.parts.kernel t b.hart world.serves.sound (below laws w t world runs))
    ∙ ends.1 in
    let is : after v Step ≡ now =
    step_is laws v t leads.world runs e effect ∙ ap (λ s. record w { parts = p; steps = s }) (omega arith) in
    let devices = effect_devices v.parts t e in
    let keeps : Keeps now = record {
      board = world.board;
      serves = serves;
      memory = memory;
      modules = effect_count v.parts t e ∙ world.modules;
      devices = ap (λ (ds : List Device). length ds) devices ∙ world.devices;
      taken = subst (λ (ds : List Device). All (λ d. d.taken ≤ w.irqs) ds) (sym devices) world.taken;
      steps = omega (arith, room, ends.0);
      irqs = world.irqs;
    } in
    subst (λ (es : List Event). Leads w es now) (replicate_more b.done Step)
    (leads_on w v now (replicate b.done Step) (Step ∷ []) leads (event_leads laws.events v now Step leads.world is keeps))

made_leads_of : Laws → (w : World) (n : ℕ) (run : Option ℕ) → IsWorld w → w.parts.kernel.ready.run ≡ run → w.steps + n ≤ 100000000
    → Serves (made_of n w.parts run).parts.kernel (made_of n w.parts run).parts.memory → IsSoundMemory (made_of n w.parts run).parts.memory
    → Leads w (replicate (made_of n w.parts run).steps Step) (after_made w (made_of n w.parts run))
made_leads_of laws w n None world idle room serves memory = idle_leads laws.events n w world idle room
made_leads_of laws w n (Some t) world runs room serves memory =
    let b = burst_of w.parts t n in
    made_leads_by laws w t n b b.end world runs room (burst_ends (module_of w.parts.kernel t) n (thread w.parts.kernel t).hart w.parts.memory)
    (burst_leads laws t n w world runs room) serves memory

-- the world after them is the one that is shown by the parts as they were left and the grown history
made_shown : (b : Board) (p p' : Parts) (h h' : List Entry) (u : Made) (n : ℕ) → n ≡ u.steps → p' ≡ u.parts → step_count h' ≡ step_count h + n
    → irq_count h' ≡ irq_count h → after_made (shown b p h) u ≡ shown b p' h'
made_shown b p p' h h' u n made is steps irqs =
    ap (λ (x : Parts). counted b x (step_count h + u.steps) (irq_count h)) (sym is)
    ∙ (ap (λ i. counted b p' i (irq_count h)) (omega (arith, made, steps)) ∙ ap (λ i. counted b p' (step_count h') i) (sym irqs))

pub made_leads : Laws → (b : Board) (p p' : Parts) (h h' : List Entry) (most n : ℕ) → IsWorld (shown b p h) → step_count h + most ≤ 100000000
    → n ≡ (made most p).steps
    → p' ≡ (made most p).parts → step_count h' ≡ step_count h + n → irq_count h' ≡ irq_count h → Serves p'.kernel p'.memory → IsSoundMemory p'.memory
    → Leads (shown b p h) (replicate n Step) (shown b p' h')
made_leads laws b p p' h h' most n world room made_n is steps irqs serves memory =
    let w = shown b p h in
    let u = made most p in
    subst (Leads w (replicate n Step)) (made_shown b p p' h h' u n made_n is steps irqs)
    (subst (λ i. Leads w (replicate i Step) (after_made w u)) (sym made_n)
    (made_leads_of laws w most p.kernel.ready.run world refl room (subst (λ (x : Parts). Serves x.kernel x.memory) is serves)
    (subst (λ (x : Parts). IsSoundMemory x.memory) is memory)))

-- it is at least one step, and at most as many as were asked for
some_made_by : (p : Parts) (t m n : ℕ) (b : Burst) (end : Option Effect) → 0 < n → Ends m n b.done b.hart b.memory end
    → (0 < (made_by p t b end).steps) × ((made_by p t b end).steps ≤ n)
some_made_by p t m n b None some ends = (omega (arith, some, ends), omega (arith, ends))
some_made_by p t m n b (Some e) some ends = (omega arith, omega (arith, ends.0))

some_made_of : (n : ℕ) (p : Parts) (run : Option ℕ) → 0 < n → (0 < (made_of n p run).steps) × ((made_of n p run).steps ≤ n)
some_made_of n p None some = (some, omega arith)
some_made_of n p (Some t) some =
    let b = burst_of p t n in
    some_made_by p t (module_of p.kernel t) n b b.end some (burst_ends (module_of p.kernel t) n (thread p.kernel t).hart p.memory)

pub some_made : (n : ℕ) (p : Parts) → 0 < n → (0 < (made n p).steps) × ((made n p).steps ≤ n)
some_made n p some = some_made_of n p p.kernel.ready.run some

-- nothing is taken of a device by it
made_by_devices : (p : Parts) (t : ℕ) (b : Burst) (end : Option Effect) → (made_by p t b end).parts.devices ≡ p.devices
made_by_devices p t b None = refl
made_by_devices p t b (Some e) = effect_devices (ran_on p t b.hart b.memory) t e

made_of_devices : (n : ℕ) (p : Parts) (run : Option ℕ) → (made_of n p run).parts.devices ≡ p.devices
made_of_devices n p None = refl
made_of_devices n p (Some t) = let b = burst_of p t n in made_by_devices p t b b.end

pub made_devices : (n : ℕ) (p : Parts) → (made n p).parts.devices ≡ p.devices
made_devices n p = made_of_devices n p p.kernel.ready.run
