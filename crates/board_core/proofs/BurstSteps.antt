-- A burst, one instruction at a time, and how it ends.
use Rattle.std.proofs.Common.{◌≡◌, ◌≢◌, ℕ, zero, suc, ◌+◌, ◌-◌, ◌%◌, ◌^◌, ◌<◌, ap, ◌∙◌, refl, Option, None, Some, arith}
use Rattle.region_guard.specs.Memory.{Memory, with_number}
use Rattle.rv_core.specs.Execute.{Effect, Completes, Stores, Calls, Faults, executed, hart_after, bus_after, out_of}
use Rattle.rv_core.specs.Hart.{HartState, advanced}
use Rattle.rv_core.specs.declared.execute.Out.TheVariants.{Done, Call}
use Rattle.board_core.specs.Burst.{Burst, before_call, burst, burst_by}
use Rattle.board_core.specs.Bus.{seen}
use Rattle.board_core.specs.declared.bus.GuardBus.{GuardBus}

-- the guard's bus after an instruction: it is the same module's, over the same memory, in which a store was made
pub record KeepsBus (e : Effect) (bus now : GuardBus) : Type 0 where
  pub «module» : now.«module» ≡ bus.«module»
  pub guard : now.guard.ghost_name ≡ bus.guard.ghost_name
  pub memory : now.guard.now ≡ bus_after with_number e bus.guard.now

abbrev after_store : GuardBus → (a n value : ℕ) → GuardBus
after_store bus a n value = record bus { guard = record bus.guard { now = with_number bus.guard.now a n value } }

pub keeps_bus : (e : Effect) (bus : GuardBus) → KeepsBus e bus (bus_after after_store e bus)
keeps_bus (Completes next) bus = record { «module» = refl; guard = refl; memory = refl }
keeps_bus (Stores a n value next) bus = record { «module» = refl; guard = refl; memory = refl }
keeps_bus (Calls next) bus = record { «module» = refl; guard = refl; memory = refl }
keeps_bus (Faults cause) bus = record { «module» = refl; guard = refl; memory = refl }

-- the given number of instructions before a burst
abbrev pub behind : ℕ → Burst → Burst
behind k b = record b { done = k + b.done }

-- after an instruction that completed, the burst of the rest completes the burst
burst_next : (m k n : ℕ) (h : HartState) (g : Memory) (e : Effect) → executed (seen m g) h ≡ e → out_of e ≡ Done
    → behind (k + 1) (burst m n (hart_after e h) (bus_after with_number e g)) ≡ behind k (burst m (suc n) h g)
burst_next m k n h g (Completes next) is done = rw is (ap (λ d. record (burst m n next g) { done = d }) (omega arith))
burst_next m k n h g (Stores a w value next) is done = rw is (ap (λ d. record (burst m n next (with_number g a w value)) { done = d }) (omega arith))
burst_next m k n h g (Calls next) is done = cc
burst_next m k n h g (Faults cause) is done = cc

pub burst_more : (m k n : ℕ) (h h' : HartState) (g g' : Memory) → k < n → out_of (executed (seen m g) h) ≡ Done
    → h' ≡ hart_after (executed (seen m g) h) h → g' ≡ bus_after with_number (executed (seen m g) h) g
    → behind (k + 1) (burst m (n - (k + 1)) h' g') ≡ behind k (burst m (n - k) h g)
burst_more m k n h h' g g' below done is put =
    let left : n - k ≡ suc (n - (k + 1)) = omega arith in
    rw (left, is, put) (burst_next m k (n - (k + 1)) h g (executed (seen m g) h) refl done)

-- a burst whose next instruction doesn't complete ends there
burst_stop : (m n : ℕ) (h : HartState) (g : Memory) (e : Effect) → executed (seen m g) h ≡ e → out_of e ≢ Done
    → burst m (suc n) h g ≡ record { done = 0; hart = h; memory = g; end = Some e }
burst_stop m n h g (Completes next) is stops = absurd (stops refl)
burst_stop m n h g (Stores a w value next) is stops = absurd (stops refl)
burst_stop m n h g (Calls next) is stops = rw is refl
burst_stop m n h g (Faults cause) is stops = rw is refl

pub burst_stops : (m k n : ℕ) (h : HartState) (g : Memory) → k < n → out_of (executed (seen m g) h) ≢ Done
    → behind k (burst m (n - k) h g) ≡ record { done = k; hart = h; memory = g; end = Some (executed (seen m g) h) }
burst_stops m k n h g below stops =
    let left : n - k ≡ suc (n - (k + 1)) = omega arith in
    rw left (ap (behind k) (burst_stop m (n - (k + 1)) h g (executed (seen m g) h) refl stops)
    ∙ ap (λ d. record { done = d; hart = h; memory = g; end = Some (executed (seen m g) h) }) (omega arith))

-- an instruction that doesn't complete leaves memory
pub stop_keeps : (e : Effect) (g : Memory) → out_of e ≢ Done → bus_after with_number e g ≡ g
stop_keeps (Completes next) g stops = refl
stop_keeps (Stores a w value next) g stops = absurd (stops refl)
stop_keeps (Calls next) g stops = refl
stop_keeps (Faults cause) g stops = refl

-- and the registers, where it is no call
pub no_call_stays : (e : Effect) (h : HartState) → out_of e ≢ Done → out_of e ≢ Call → hart_after e h ≡ h
no_call_stays (Completes next) h stops other = absurd (stops refl)
no_call_stays (Stores a w value next) h stops other = absurd (stops refl)
no_call_stays (Calls next) h stops other = absurd (other refl)
no_call_stays (Faults cause) h stops other = refl

-- after a call pc is 4 more
pub called_back : (h : HartState) → h.pc < 2 ^ 32 → h ≡ before_call (advanced h)
called_back h word =
    let pc : h.pc ≡ ((h.pc + 4) % 2 ^ 32 + (2 ^ 32 - 4)) % 2 ^ 32 = omega (arith, word) in
    ap (λ (n : ℕ). record h { pc = n }) pc

-- the end of a burst of n: all instructions completed, or fewer, and the next one is what the end says and doesn't complete
abbrev pub Ends : (m n done : ℕ) → HartState → Memory → Option Effect → Type 0
Ends m n done h g None = done ≡ n
Ends m n done h g (Some e) = (done < n) × (executed (seen m g) h ≡ e) × (out_of e ≢ Done)

ends_more : (m n done : ℕ) (h : HartState) (g : Memory) (end : Option Effect) → Ends m n done h g end → Ends m (suc n) (1 + done) h g end
ends_more m n done h g None all = omega (arith, all)
ends_more m n done h g (Some e) ends = (omega (arith, ends.0), ends.1, ends.2)

abbrev pub BurstEnds : (m n : ℕ) → Burst → Type 0
BurstEnds m n b = Ends m n b.done b.hart b.memory b.end

ends_by : (m n : ℕ) (h : HartState) (g : Memory) (e : Effect) → executed (seen m g) h ≡ e
    → ((h : HartState) (g : Memory) → BurstEnds m n (burst m n h g)) → BurstEnds m (suc n) (burst_by (burst m n) h g e)
ends_by m n h g (Completes next) is rest = let b = burst m n next g in ends_more m n b.done b.hart b.memory b.end (rest next g)
ends_by m n h g (Stores a w value next) is rest =
    let b = burst m n next (with_number g a w value) in ends_more m n b.done b.hart b.memory b.end (rest next (with_number g a w value))
ends_by m n h g (Calls next) is rest = (omega arith, is, λ same. cc)
ends_by m n h g (Faults cause) is rest = (omega arith, is, λ same. cc)

pub burst_ends : (m n : ℕ) (h : HartState) (g : Memory) → BurstEnds m n (burst m n h g)
burst_ends m zero h g = refl
burst_ends m (suc n) h g = ends_by m n h g (executed (seen m g) h) refl (burst_ends m n)

-- a burst leaves the regions of memory
burst_regions_by : (m n : ℕ) (h : HartState) (g : Memory) (e : Effect)
    → ((next : HartState) (now : Memory) → (burst m n next now).memory.regions ≡ now.regions) → (burst_by (burst m n) h g e).memory.regions ≡ g.regions
burst_regions_by m n h g (Completes next) rest = rest next g
burst_regions_by m n h g (Stores a w value next) rest = rest next (with_number g a w value)
burst_regions_by m n h g (Calls next) rest = refl
burst_regions_by m n h g (Faults cause) rest = refl

pub burst_regions : (m n : ℕ) (h : HartState) (g : Memory) → (burst m n h g).memory.regions ≡ g.regions
burst_regions m zero h g = refl
burst_regions m (suc n) h g = burst_regions_by m n h g (executed (seen m g) h) (burst_regions m n)
