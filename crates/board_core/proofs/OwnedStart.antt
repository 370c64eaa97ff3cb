-- A start gives its module the slots that it takes, and booted modules have started modules' slots alone.
use Rattle.std.proofs.Common.{◌≡◌, ℕ, suc, ◌+◌, ◌<◌, ◌≤◌, Bool, true, false, cond, not, nat_le, nat_lt, List, [], ◌∷◌, length, filter, Some, None, position}
use Rattle.std.proofs.Common.{replicate, slice_set, refl, sym, ap, ◌∙◌, subst, ⊎_elim, arith}
use Rattle.std.proofs.lemmas.Bool.{and_parts, cond-true, cond_both, leb-true, lt-ltb}
use Rattle.std.proofs.lemmas.List.{get_or-set_other, get_or-set_same, length-set, set-set}
use Rattle.std.proofs.lemmas.List.Elements.{All-replicate, All-weaker}
use Rattle.std.proofs.lemmas.List.Quantifiers.{position-Some}
use Rattle.std.proofs.lemmas.List.Sums.{length-filter, sum_by-set}
use Rattle.std.specs.List.{count_by, position_or_len, prefix_len}
use Rattle.std.specs.Option.{unwrap_or}
use Rattle.tx_types.specs.declared.kind.Kind.TheVariants.{Thread}
use Rattle.board_file.specs.declared.board.Board.{Board}
use Rattle.board_file.specs.declared.board.BoardModule.{BoardModule}
use Rattle.kernel_state.specs.declared.kernel.Kernel.{Kernel}
use Rattle.kernel_state.specs.declared.thread.ThreadSpec.{ThreadSpec}
use Rattle.kernel_state.specs.Kernel.{blank_kernel}
use Rattle.module_manager.specs.Modules.{may_start, module_at, with_state}
use Rattle.module_manager.specs.Start.{StartOutcome, begun, begun_alone, begun_both, callback_name, callback_spec, can_start, in_new_slot, next_slot}
use Rattle.module_manager.specs.Start.{slots_needed, start_name, start_row, start_spec, usable_slots, zeroed}
use Rattle.module_manager.specs.declared.modules.Module.{Module}
use Rattle.module_manager.specs.declared.modules.ModuleState.TheVariants.{Started}
use Rattle.module_preamble.specs.Words.{has_callback}
use Rattle.region_guard.specs.Memory.{Memory}
use Rattle.object_grants.specs.Slot.{free_slot, is_in, is_usable}
use Rattle.object_grants.specs.Table.{after_allocate, allocated, allocated_at, slot}
use Rattle.object_grants.specs.declared.slot.Slot.{Slot}
use Rattle.object_grants.specs.declared.slot.SlotState.TheVariants.{Free, Live}
use Rattle.board_core.specs.Boot.{all_started, booted_parts, loaded_modules, loaded_parts, one_started, with_spots}
use Rattle.board_core.specs.Devices.{fresh_device}
use Rattle.board_core.specs.Owners.{AreOwned, IsOwned, IsStarted}
use Rattle.board_core.specs.declared.parts.Parts.{Parts}
use Rattle.board_core.proofs.OwnedCalls.{Owned}
use Rattle.board_core.proofs.OwnedSlots.{allocated_owned, free_owned, live_owned, same_or_other}

-- where some element passes a test there is a first one
first_passes : (p : Slot → Bool) (xs : List Slot) → 1 ≤ length (filter p xs) → position_or_len p xs < length xs
first_passes p [] some = omega arith
first_passes p (x ∷ xs) some =
    elim (p x) as (λ b. 1 ≤ length (cond b (x ∷ filter p xs) (filter p xs)) → cond (not b) (1 + prefix_len (λ y. not (p y)) xs) 0 < suc (length xs)) [
      | true ↦ λ _. omega arith
      | false ↦ λ rest. let later = first_passes p xs rest in omega arith
    ] some

next_found : (k : Kernel) → 1 ≤ usable_slots k → position is_usable k.objects ≡ Some (next_slot k)
next_found k some =
    let n = position_or_len is_usable k.objects in
    let at = cond-true (nat_lt n (length k.objects)) (Some n) None (lt-ltb n (length k.objects) (first_passes is_usable k.objects some)) in
    at ∙ ap Some (sym (ap (λ o. unwrap_or o 0) at))

-- the slot that is allocated isn't free any more
next_used : (k : Kernel) (m : ℕ) → 1 ≤ usable_slots k → is_in Free (slot (after_allocate k.objects m Thread) (next_slot k)) ≡ false
next_used k m some =
    let o = next_slot k in
    let taken = allocated m Thread (slot k.objects o) in
    let inside = (position-Some is_usable k.objects o (free_slot 0) (next_found k some)).0 in
    ap (λ (slots : List Slot). is_in Free (slot slots o)) (ap (allocated_at k.objects m Thread) (next_found k some))
    ∙ ap (is_in Free) (get_or-set_same k.objects o taken (free_slot 0) inside)

-- the module's new thread is in a slot of its own
placed_owned : (ms : List Module) (k : Kernel) (name : List ℕ) (s : ThreadSpec) → 1 ≤ usable_slots k → Owned ms k → IsStarted ms s.module
    → Owned ms (in_new_slot k name s)
placed_owned ms k name s some before started =
    live_owned ms (after_allocate k.objects s.module Thread) (next_slot k) name (allocated_owned ms k.objects s.module Thread before started)
    (next_used k s.module some)

-- and then all but one of the others are still usable
one_less : (p : Slot → Bool) (xs : List Slot) (i : ℕ) (y : Slot) → i < length xs → length (filter p xs) ≤ length (filter p (slice_set xs i y)) + 1
one_less p xs i y inside =
    let sums : count_by p (slice_set xs i y) + cond (p (slot xs i)) 1 0 ≡ count_by p xs + cond (p y) 1 0 =
    sum_by-set (λ (x : Slot). cond (p x) 1 0) xs i y (free_slot 0) inside in
    let most : (b : Bool) → cond b 1 0 ≤ 1 = λ b. elim b as (λ c. cond c 1 0 ≤ 1) [ true ↦ omega arith | false ↦ omega arith ] in
    omega (arith, sums, most (p (slot xs i)), length-filter p xs, length-filter p (slice_set xs i y))

another_usable : (k : Kernel) (name : List ℕ) (s : ThreadSpec) → 2 ≤ usable_slots k → 1 ≤ usable_slots (in_new_slot k name s)
another_usable k name s two =
    let some : 1 ≤ usable_slots k = omega arith in
    let o = next_slot k in
    let inside = (position-Some is_usable k.objects o (free_slot 0) (next_found k some)).0 in
    let table = after_allocate k.objects s.module Thread in
    let taken = allocated s.module Thread (slot k.objects o) in
    let is : table ≡ slice_set k.objects o taken = ap (allocated_at k.objects s.module Thread) (next_found k some) in
    let first = one_less is_usable k.objects o taken inside in
    let placed : Slot = record (slot table o) { state = Live; name = name } in
    let stays : (slice_set table o placed) ≡ slice_set k.objects o placed =
    ap (λ (slots : List Slot). slice_set slots o placed) is ∙ set-set k.objects o taken placed in
    let second = one_less is_usable k.objects o placed inside in
    subst (λ (slots : List Slot). 1 ≤ length (filter is_usable slots)) (sym stays) (omega (arith, second, two))

-- a start
alone_owned : (ms : List Module) (k : Kernel) (g : Memory) (m : ℕ) (r : Module) → 1 ≤ usable_slots k → Owned ms k → IsStarted ms m
    → Owned ms (begun_alone k g m r).kernel
unfolding begun_alone
alone_owned ms k g m r some before started = placed_owned ms k start_name (start_spec m r) some before started

both_owned : (ms : List Module) (k : Kernel) (g : Memory) (m : ℕ) (r : Module) → 2 ≤ usable_slots k → Owned ms k → IsStarted ms m
    → Owned ms (begun_both k g m r).kernel
unfolding begun_both
both_owned ms k g m r two before started =
    let one = in_new_slot k start_name (start_spec m r) in
    placed_owned ms one callback_name (callback_spec m r) (another_usable k start_name (start_spec m r) two)
    (placed_owned ms k start_name (start_spec m r) (omega arith) before started) started

begun_owned : (ms : List Module) (k : Kernel) (g : Memory) (m : ℕ) (r : Module) → slots_needed r.preamble ≤ usable_slots k → Owned ms k
    → IsStarted ms m → Owned ms (begun k g m r).kernel
begun_owned ms k g m r =
    elim (has_callback r.preamble) as
    (λ b. cond b 2 1 ≤ usable_slots k → Owned ms k → IsStarted ms m → Owned ms (cond b (begun_both k g m r) (begun_alone k g m r)).kernel) [
      | true ↦ both_owned ms k g m r
      | false ↦ alone_owned ms k g m r
    ]

now_started : (ms : List Module) (m : ℕ) → m < length ms → IsStarted (with_state ms m Started) m
now_started ms m inside = ap (λ (r : Module). r.state) (get_or-set_same ms m (record (module_at ms m) { state = Started }) _ inside)

-- what was started stays so as another module is
started_more : (ms : List Module) (m n : ℕ) → m < length ms → IsStarted ms n → IsStarted (with_state ms m Started) n
started_more ms m n inside started =
    let now : Module = record (module_at ms m) { state = Started } in
    ⊎_elim (λ (same : n ≡ m). subst (IsStarted (with_state ms m Started)) (sym same) (now_started ms m inside))
    (λ other. ap (λ (r : Module). r.state) (get_or-set_other ms m n now _ other) ∙ started) (same_or_other n m)

abbrev OwnedParts : Parts → Type 0
OwnedParts p = AreOwned p.modules p.kernel.objects

start_owned : (ms : List Module) (k : Kernel) (g : Memory) (m : ℕ) → m < length ms → Owned ms k
    → AreOwned (start_row ms k g m).modules (start_row ms k g m).change.kernel.objects
unfolding start_row
start_owned ms k g m inside before =
    let r = module_at ms m in
    let now = with_state ms m Started in
    cond_both (can_start k r) _ _ (λ (o : StartOutcome). AreOwned o.modules o.change.kernel.objects)
    (λ can.
    let enough =
    leb-true (slots_needed r.preamble) (usable_slots k) (and_parts (may_start r.state) (nat_le (slots_needed r.preamble) (usable_slots k)) can).1 in
    begun_owned now k (zeroed g r) m r enough
    (All-weaker (IsOwned ms) (IsOwned now) (λ (s : Slot) (own : IsOwned ms s). record {
      owner = λ used. started_more ms m s.owner inside (own.owner used);
      grants = λ j granted. started_more ms m j inside (own.grants j granted);
    }) k.objects before)
    (now_started ms m inside))
    (λ _. before)

start_count : (ms : List Module) (k : Kernel) (g : Memory) (m : ℕ) → length (start_row ms k g m).modules ≡ length ms
unfolding start_row
start_count ms k g m = cond_both (can_start k (module_at ms m)) _ _ (λ (o : StartOutcome). length o.modules ≡ length ms) (λ _. length-set ms m _) (λ _. refl)

one_owned : (i : ℕ) (b : BoardModule) (p : Parts) → i < length p.modules → OwnedParts p → OwnedParts (one_started i b p)
one_owned i b p inside before = cond_both b.start _ p OwnedParts (λ _. start_owned p.modules p.kernel p.memory i inside before) (λ _. before)

one_count : (i : ℕ) (b : BoardModule) (p : Parts) → length (one_started i b p).modules ≡ length p.modules
one_count i b p = cond_both b.start _ p (λ (q : Parts). length q.modules ≡ length p.modules) (λ _. start_count p.modules p.kernel p.memory i) (λ _. refl)

all_owned : (i : ℕ) (bs : List BoardModule) (p : Parts) → i + length bs ≤ length p.modules → OwnedParts p → OwnedParts (all_started i bs p)
all_owned i [] p enough before = before
all_owned i (b ∷ bs) p enough before =
    all_owned (i + 1) bs (one_started i b p) (omega (arith, enough, one_count i b p)) (one_owned i b p (omega (arith, enough)) before)

all_count : (i : ℕ) (bs : List BoardModule) (p : Parts) → length (all_started i bs p).modules ≡ length p.modules
all_count i [] p = refl
all_count i (b ∷ bs) p = all_count (i + 1) bs (one_started i b p) ∙ one_count i b p

one_devices : (i : ℕ) (b : BoardModule) (p : Parts) → (one_started i b p).devices ≡ p.devices
one_devices i b p = cond_both b.start _ p (λ (q : Parts). q.devices ≡ p.devices) (λ _. refl) (λ _. refl)

all_devices : (i : ℕ) (bs : List BoardModule) (p : Parts) → (all_started i bs p).devices ≡ p.devices
all_devices i [] p = refl
all_devices i (b ∷ bs) p = all_devices (i + 1) bs (one_started i b p) ∙ one_devices i b p

-- before any start all slots are free
spots_objects : (i : ℕ) (ms : List Module) (k : Kernel) → (with_spots i ms k).objects ≡ k.objects
spots_objects i [] k = refl
spots_objects i (m ∷ ms) k = spots_objects (i + 1) ms _

loaded_owned : (b : Board) (images : List (List ℕ)) → OwnedParts (loaded_parts b images)
loaded_owned b images =
    let ms = loaded_modules b images in
    subst (AreOwned ms) (sym (spots_objects 0 ms blank_kernel)) (All-replicate (IsOwned ms) 256 (free_slot 0) (free_owned ms 0))

pub booted_count : (b : Board) (images : List (List ℕ)) → length (booted_parts b images).modules ≡ length (loaded_modules b images)
unfolding booted_parts
booted_count b images = all_count 0 b.modules (loaded_parts b images)

pub booted_owned : (b : Board) (images : List (List ℕ)) → length b.modules ≤ length (loaded_modules b images) → OwnedParts (booted_parts b images)
unfolding booted_parts
booted_owned b images enough = all_owned 0 b.modules (loaded_parts b images) (omega (arith, enough)) (loaded_owned b images)

pub booted_devices : (b : Board) (images : List (List ℕ)) → (booted_parts b images).devices ≡ replicate (length b.devices) fresh_device
unfolding booted_parts
booted_devices b images = all_devices 0 b.modules (loaded_parts b images)
