-- A machine that was booted stands for the run of no event.
use Rattle.std.proofs.Common.{◌≡◌, ℕ, ◌≤◌, List, [], All, length, replicate, refl, ap, sym, subst, ◌∙◌, arith}
use Rattle.std.proofs.lemmas.List.Elements.{All-nil, All-replicate}
use Rattle.std.proofs.lemmas.List.{length-replicate}
use Rattle.board_file.specs.Rules.{IsBoard}
use Rattle.board_file.specs.declared.board.Board.{Board}
use Rattle.event_log.specs.Log.{IsEntry, Log}
use Rattle.event_log.specs.declared.entry.Entry.{Entry}
use Rattle.kernel_state.specs.Serves.{Serves}
use Rattle.board_core.specs.Boot.{booted, booted_parts, loaded_modules}
use Rattle.board_core.specs.Laid.{AreLaid}
use Rattle.board_core.specs.Laws.{BootBeginsNone, CountsAtMost, images_in}
use Rattle.board_core.specs.Machine.{AreCounted, Recorded, Stands, origin_of, shown}
use Rattle.board_core.specs.Owners.{AreOwned}
use Rattle.board_core.specs.Run.{Origin}
use Rattle.board_core.specs.Trace.{AreTallied}
use Rattle.board_core.specs.Devices.{fresh_device}
use Rattle.board_core.specs.World.{World}
use Rattle.board_core.specs.declared.devices.Device.{Device}
use Rattle.board_core.specs.declared.parts.Parts.{Parts}
use Rattle.board_core.proofs.Counts.{fresh_counts}
use Rattle.board_core.proofs.OwnedStart.{booted_count, booted_devices, booted_owned}

-- the world of parts in which no event was made
abbrev world_with : Board → Parts → World
world_with b p = shown b p []

booted_is : (b : Board) (images : List (List ℕ)) → booted b images ≡ world_with b (booted_parts b images)
unfolding booted
booted_is b images = refl

stands_at_first : BootBeginsNone → (b : Board) (images : List (List ℕ)) (p : Parts) → IsBoard b → Serves p.kernel p.memory → AreLaid p.memory p.modules
    → p ≡ booted_parts b images → images_in p.memory p.modules ≡ images → length p.modules ≡ length b.modules → Stands b p []
stands_at_first none b images p board serves laid same theirs count =
    let as_many : length b.modules ≡ length (loaded_modules b images) =
    sym count ∙ (ap (λ (q : Parts). length q.modules) same ∙ booted_count b images) in
    let fresh : p.devices ≡ replicate (length b.devices) fresh_device = ap (λ (q : Parts). q.devices) same ∙ booted_devices b images in
    let first = none b images in
    let reached : booted b (images_in p.memory p.modules) ≡ world_with b p = ap (booted b) theirs ∙ (booted_is b images ∙ ap (world_with b) (sym same)) in
    let tallied : AreTallied p.kernel.waits [] = subst (λ (q : Parts). AreTallied q.kernel.waits []) (sym same) first.0 in
    record {
      tallied = subst (λ (w : World). AreTallied w.parts.kernel.waits []) (sym reached) tallied;
      run = reached;
      world = record {
        board = board;
        serves = serves;
        memory = laid.memory;
        regions = laid.regions;
        modules = count;
        devices = ap (λ (xs : List Device). length xs) fresh ∙ length-replicate (length b.devices) fresh_device;
        taken = subst (λ (xs : List Device). All (λ (x : Device). x.taken ≤ 0) xs) (sym fresh)
            (All-replicate (λ (x : Device). x.taken ≤ 0) (length b.devices) fresh_device (omega arith));
        owned = subst (λ (q : Parts). AreOwned q.modules q.kernel.objects) (sym same) (booted_owned b images (omega (arith, as_many)));
        steps = omega arith;
        irqs = omega arith;
        counts = subst (λ (q : Parts). CountsAtMost 0 q.kernel) (sym same) first.1;
      };
      its_devices = All-nil (IsEntry (length b.devices));
      counts = subst (λ (xs : List Device). AreCounted xs []) (sym fresh) (fresh_counts (length b.devices));
    }

pub stands : BootBeginsNone → (given b : Board) (images : List (List ℕ)) (p : Parts) (entries : List Entry) → given ≡ b → IsBoard b → Serves p.kernel p.memory
    → AreLaid p.memory p.modules → p ≡ booted_parts b images → images_in p.memory p.modules ≡ images → length p.modules ≡ length b.modules
    → entries ≡ [] → Stands given p entries
stands begins given b images p entries copied board serves laid same theirs count none =
    subst (λ (c : Board). Stands c p entries) (sym copied)
    (subst (Stands b p) (sym none) (stands_at_first begins b images p board serves laid same theirs count))

-- what a machine stands for, by its origin and its history
abbrev recorded_of : Origin → Log → Recorded
recorded_of o log = record { origin = o; history = log.entries; irqs = log.irqs }

abbrev origin_with : Board → List (List ℕ) → Origin
origin_with b images = record { board = b; images = images }

abbrev no_event : ℕ → Log
no_event irqs = record { entries = []; irqs = irqs }

pub recorded : (given b : Board) (images : List (List ℕ)) (p : Parts) (log : Log) (irqs : ℕ) → given ≡ b → images_in p.memory p.modules ≡ images
    → log ≡ no_event irqs → recorded_of (origin_of given p) log ≡ recorded_of (origin_with b images) (no_event irqs)
recorded given b images p log irqs copied theirs none =
    ap (recorded_of (origin_of given p)) none
    ∙ (ap (λ (c : Board). recorded_of (origin_with c (images_in p.memory p.modules)) (no_event irqs)) copied
    ∙ ap (λ (xs : List (List ℕ)). recorded_of (origin_with b xs) (no_event irqs)) theirs)
