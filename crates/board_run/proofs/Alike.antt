-- `check` and the boot find the same of a board.
use Rattle.std.proofs.Common.{◌≡◌, ℕ, ◌+◌, Bool, true, false, List, [], ◌∷◌, map, Option, Some, None, Result, Ok, Err, IfOk, if◌then◌else◌, refl, ap, sym}
use Rattle.std.proofs.Common.{subst, ◌∙◌}
use Rattle.module_loader.specs.Placement.{placement}
use Rattle.module_loader.specs.Want.{want_of}
use Rattle.module_loader.specs.declared.placement.Placed.{Placed}
use Rattle.module_loader.specs.declared.want.Want.{Want}
use Rattle.module_preamble.specs.Preamble.{Rule, judged, preamble, rules}
use Rattle.module_preamble.specs.Words.{words_of}
use Rattle.module_preamble.specs.declared.refusal.PreErr.{PreErr}
use Rattle.module_preamble.specs.declared.words.Preamble.{Preamble}
use Rattle.board_core.specs.Boot.{boot_refusal, free_ram, image_refusal, or_later, or_room, places, room_refusal}
use Rattle.board_core.specs.Run.{Origin}
use Rattle.board_core.specs.declared.boot.BootErr.{BootErr}
use Rattle.board_core.specs.declared.boot.BootErr.TheVariants as boot
use Rattle.board_run.specs.Check.{checked, want_in}
use Rattle.board_run.specs.Laws.{LiesAlike, StopsAlike, stopped}
use Rattle.board_run.specs.Placing.{places_in}
use Rattle.board_run.specs.Refused.{refused_boot, refused_image, refused_room}
use Rattle.board_run.specs.Booting.{booted_from}
use Rattle.board_run.specs.Step.{◌>>=◌, each}
use Rattle.board_run.specs.declared.check.Checked.{Checked}
use Rattle.board_run.specs.declared.refusal.Refusal.TheVariants.{Image, Room}
use Rattle.board_run.specs.declared.refusal.Stop.{Stop}
use Rattle.board_run.specs.declared.refusal.Stop.TheVariants.{Refused, NoMemory}

-- a value, or a stop for the boot's refusal
abbrev refused : {X : Type 0} → X → Option BootErr → Result X Stop
refused x None = Ok x
refused x (Some (boot.Image number err)) = Err (Refused (Image number err))
refused x (Some (boot.NoRoom number)) = Err (Refused (Room number))
refused x (Some boot.NoMemory) = Err NoMemory

-- what is accepted by rules is what they judge
accepted_by : {X : Type 0} (holds : Bool) (err : PreErr) (later : Result X PreErr) (x : X) → IfOk later (λ y. y ≡ x)
    → IfOk (if holds then later else Err err) (λ y. y ≡ x)
accepted_by true err later x h = h
accepted_by false err later x h = tt

accepted : {X : Type 0} (rs : List Rule) (x : X) → IfOk (judged rs x) (λ y. y ≡ x)
unfolding judged
accepted [] x = refl
accepted (r ∷ rs) x = accepted_by r.holds r.refusal (judged rs x) x (accepted rs x)

-- an accepted preamble is the image's words
accepted_words : (image : List ℕ) → IfOk (preamble image) (λ p. p ≡ words_of image)
unfolding preamble
accepted_words image = accepted (rules image) (words_of image)

-- one image's want before those of the later ones
want_first : (i : ℕ) (image : List ℕ) (read : Result Preamble PreErr) (ws : List Want) (later : Option BootErr) → IfOk read (λ p. p ≡ words_of image)
    → ((refused_image i read >>= λ p. Ok (want_of p)) >>= λ w. refused ws later >>= λ rest. Ok (w ∷ rest))
    ≡ refused (want_of (words_of image) ∷ ws) (or_later i later read)
want_first i image (Err err) ws later h = refl
want_first i image (Ok p) ws None h = ap (λ q. Ok (want_of q ∷ ws)) h
want_first i image (Ok p) ws (Some (boot.Image number err)) h = refl
want_first i image (Ok p) ws (Some (boot.NoRoom number)) h = refl
want_first i image (Ok p) ws (Some boot.NoMemory) h = refl

-- the wants of the images, or the first image that breaks a rule
wants_or_refusal : (i : ℕ) (images : List (List ℕ)) → each want_in i images ≡ refused (map want_of (map words_of images)) (image_refusal i images)
wants_or_refusal i [] = refl
wants_or_refusal i (image ∷ images) =
    ap (λ later. want_in i image >>= λ w. later >>= λ rest. Ok (w ∷ rest)) (wants_or_refusal (i + 1) images)
    ∙ want_first i image (preamble image) (map want_of (map words_of images)) (image_refusal (i + 1) images) (accepted_words image)

-- room is looked for where no image was refused
room_alike : {X : Type 0} (make : List Placed → X) (origin : Origin) (at : Result (List Placed) ℕ)
    → stopped (refused_room at >>= λ ps. Ok (make ps)) ≡ stopped (refused_boot origin (room_refusal at))
room_alike make origin (Ok ps) = refl
room_alike make origin (Err number) = refl

stops_after_images : {X : Type 0} (make : List Want → List Placed → X) (origin : Origin) (ram : ℕ) (ws : List Want) (images : Option BootErr)
    → stopped (refused ws images >>= λ wants. places_in ram wants >>= λ ps. Ok (make wants ps))
    ≡ stopped (refused_boot origin (or_room images (room_refusal (placement (free_ram ram) ws))))
stops_after_images make origin ram ws None = room_alike (make ws) origin (placement (free_ram ram) ws)
stops_after_images make origin ram ws (Some (boot.Image number err)) = refl
stops_after_images make origin ram ws (Some (boot.NoRoom number)) = refl
stops_after_images make origin ram ws (Some boot.NoMemory) = refl

pub stops_alike : StopsAlike
unfolding checked booted_from boot_refusal
stops_alike l =
    let make = λ (wants : List Want) (ps : List Placed). let c : Checked = record { modules = l.board.modules; wants = wants; places = ps } in c in
    let origin : Origin = record { board = l.board; images = l.images } in
    ap (λ wants. stopped (wants >>= λ ws. places_in l.board.ram ws >>= λ ps. Ok (make ws ps))) (wants_or_refusal 0 l.images)
    ∙ stops_after_images make origin l.board.ram (map want_of (map words_of l.images)) (image_refusal 0 l.images)

-- what is found is where they are placed
room_found : (make : List Placed → Checked) (at : Result (List Placed) ℕ) → ((ps : List Placed) → (make ps).places ≡ ps)
    → IfOk (refused_room at >>= λ ps. Ok (make ps)) (λ c. at ≡ Ok c.places)
room_found make (Ok ps) same = ap Ok (sym (same ps))
room_found make (Err number) same = tt

lies_after_images : (make : List Want → List Placed → Checked) (ram : ℕ) (ws : List Want) (images : Option BootErr)
    → ((wants : List Want) (ps : List Placed) → (make wants ps).places ≡ ps)
    → IfOk (refused ws images >>= λ wants. places_in ram wants >>= λ ps. Ok (make wants ps)) (λ c. placement (free_ram ram) ws ≡ Ok c.places)
lies_after_images make ram ws None same = room_found (make ws) (placement (free_ram ram) ws) (same ws)
lies_after_images make ram ws (Some (boot.Image number err)) same = tt
lies_after_images make ram ws (Some (boot.NoRoom number)) same = tt
lies_after_images make ram ws (Some boot.NoMemory) same = tt

pub lies_alike : LiesAlike
unfolding checked
lies_alike l =
    let make = λ (wants : List Want) (ps : List Placed). let c : Checked = record { modules = l.board.modules; wants = wants; places = ps } in c in
    subst (λ wants. IfOk (wants >>= λ ws. places_in l.board.ram ws >>= λ ps. Ok (make ws ps)) (λ c. places l.board l.images ≡ Ok c.places))
    (sym (wants_or_refusal 0 l.images))
    (lies_after_images make l.board.ram (map want_of (map words_of l.images)) (image_refusal 0 l.images) (λ wants ps. refl))
