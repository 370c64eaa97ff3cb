-- The images in the modules' code stay.
use Rattle.std.proofs.Common.{◌≡◌, ℕ, ◌+◌, ◌-◌, ◌<◌, ◌≤◌, min, nat_le, List, [], ◌∷◌, length, drop, map, slice_index, All, refl, sym, ap, ◌∙◌, subst, arith}
use Rattle.std.proofs.Math.Seq.{map-set_same}
use Rattle.std.proofs.lemmas.Bool.{cond-true, le-leb}
use Rattle.std.proofs.lemmas.List.{ext_get_or, get_or-drop, get_or-take, length-drop, length-take}
use Rattle.std.proofs.lemmas.List.Elements.{All-from_get_or, All-head, All-tail}
use Rattle.module_loader.specs.Want.{want_of}
use Rattle.module_manager.specs.Modules.{module_at, with_state}
use Rattle.module_manager.specs.declared.modules.Module.{Module}
use Rattle.module_manager.specs.declared.modules.ModuleState.{ModuleState}
use Rattle.region_guard.specs.Memory.{Memory, IsInRam, byte, bytes_from, ram_base}
use Rattle.event_log.specs.Events.{Event}
use Rattle.board_core.specs.Boot.{code_region}
use Rattle.board_core.specs.Laws.{ImagesStay, IsWorld, image_in, images_in}
use Rattle.board_core.specs.After.{after}
use Rattle.board_core.specs.World.{World}
use Rattle.board_core.proofs.Frames.{Lower, event_within}
use Rattle.board_core.proofs.Regions.{event_modules}
use Rattle.board_core.proofs.Spared.{code_is_in_no_frame, module_in_memory}

-- bytes that stay, one by one, stay as a list
byte_in_ram : (g : Memory) (x : ℕ) → ram_base ≤ x → byte g x ≡ slice_index g.bytes (x - ram_base)
byte_in_ram g x low = cond-true (nat_le ram_base x) (slice_index g.bytes (x - ram_base)) 0 (le-leb ram_base x low)

read : (g : Memory) (a n k : ℕ) → ram_base ≤ a → k < n → slice_index (bytes_from g a n) k ≡ byte g (a + k)
read g a n k from below =
    let at = a - ram_base in
    let place : at + k ≡ a + k - ram_base = omega arith in
    get_or-take (at + n - at) (drop at g.bytes) k 0 (omega arith)
    ∙ get_or-drop at g.bytes k 0
    ∙ ap (slice_index g.bytes) place
    ∙ sym (byte_in_ram g (a + k) (omega arith))

length-bytes_from : (g : Memory) (a n : ℕ) → length (bytes_from g a n) ≡ min n (length g.bytes - (a - ram_base))
length-bytes_from g a n =
    let at = a - ram_base in
    let width : at + n - at ≡ n = omega arith in
    length-take (at + n - at) (drop at g.bytes) ∙ ap (min (at + n - at)) (length-drop at g.bytes) ∙ ap (λ i. min i (length g.bytes - at)) width

bytes_stay : (g now : Memory) (a n : ℕ) → ram_base ≤ a → length now.bytes ≡ length g.bytes
    → ((x : ℕ) → a ≤ x → x < a + n → byte now x ≡ byte g x) → bytes_from now a n ≡ bytes_from g a n
bytes_stay g now a n from size same =
    let long = length-bytes_from now a n in
    let as_long = long ∙ ap (λ i. min n (i - (a - ram_base))) size ∙ sym (length-bytes_from g a n) in
    ext_get_or 0 (bytes_from now a n) (bytes_from g a n) as_long
    (λ k within.
    let below : k < n = omega (arith, long) in
    read now a n k from below ∙ same (a + k) (omega arith) (omega arith) ∙ sym (read g a n k from below))

-- one module's image
code_from : (w : World) (m : ℕ) → IsWorld w → m < length w.parts.modules → ram_base ≤ (module_at w.parts.modules m).placed.code_base
code_from w m world below =
    let r = code_region m (module_at w.parts.modules m) in
    let stands = (module_in_memory w m world below).0 in
    (subst (IsInRam w.parts.memory.bytes) stands.2 (world.memory.in_ram stands.0 r stands.1)).range.from_base

image_stays : Lower → (w : World) (e : Event) (m : ℕ) → IsWorld w → m < length w.parts.modules
    → image_in (after w e).parts.memory (module_at w.parts.modules m) ≡ image_in w.parts.memory (module_at w.parts.modules m)
image_stays lower w e m world below =
    let r = module_at w.parts.modules m in
    let within = event_within lower w e world in
    bytes_stay w.parts.memory (after w e).parts.memory r.placed.code_base (want_of r.preamble).code (code_from w m world below) within.size
    (λ x from to. within.bytes x (code_is_in_no_frame lower.is_ready lower.is_thread w e m x world (below, from, to)))

-- all of them: no image is of a state
maps_agree : {A B : Type 0} (f h : A → B) (xs : List A) → All (λ x. f x ≡ h x) xs → map f xs ≡ map h xs
maps_agree f h [] agree = refl
maps_agree {A} {B} f h (x ∷ xs) agree =
    let P = λ (y : A). f y ≡ h y in
    let rest = maps_agree f h xs (All-tail P x xs agree) in
    ap (λ y. y ∷ map f xs) (All-head P x xs agree) ∙ ap (λ ys. h x ∷ ys) rest

images_in-with_state : (g : Memory) (ms : List Module) (m : ℕ) (state : ModuleState) → images_in g (with_state ms m state) ≡ images_in g ms
images_in-with_state g ms m state = map-set_same (image_in g) ms m (record (module_at ms m) { state = state }) (module_at [] 0) refl

pub images_stay : Lower → ImagesStay
images_stay lower w e world =
    let now = (after w e).parts.memory in
    event_modules w e (λ ms. images_in now ms ≡ images_in now w.parts.modules) refl (λ m state. images_in-with_state now w.parts.modules m state)
    ∙ maps_agree (image_in now) (image_in w.parts.memory) w.parts.modules
    (All-from_get_or (λ r. image_in now r ≡ image_in w.parts.memory r) w.parts.modules (module_at [] 0) (λ m below. image_stays lower w e m world below))
