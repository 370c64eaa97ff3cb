-- A board and its images, read one after the other.
use Rattle.std.proofs.Common.{◌≡◌, ℕ, ◌≤◌, List, [], Option, Some, None, Result, Ok, Err, IfSome, refl, sym, subst, ap, ◌∙◌, arith}
use Rattle.std.proofs.lemmas.Result.{err_from_is_err_and}
use Rattle.std.specs.Option.{option_map}
use Rattle.std.specs.Result.{IsErrAnd}
use Rattle.board_file.specs.declared.board.Board.{Board}
use Rattle.board_file.specs.declared.board.BoardModule.{BoardModule}
use Rattle.board_run.specs.Boards.{board_at, images_at, loaded_at}
use Rattle.board_io.specs.Faults.{Rose}
use Rattle.board_run.specs.Held.{image_at}
use Rattle.board_run.specs.Reading.{Gives, Stops}
use Rattle.board_run.specs.Step.{◌>>=◌, each}
use Rattle.board_run.specs.declared.boards.Loaded.{Loaded}
use Rattle.board_run.specs.declared.refusal.Stop.{Stop}
use Rattle.board_run.proofs.Step.{gives_made, gives_then, stops_after, with_front}

-- the exit of a `?`
pub exits : {Y Z : Type 0} (view : Y → Z) (due : Option (Result Z Stop)) (rose : Type 0) (stop : Stop) (r : Result Y Stop) → IsErrAnd r (λ e. e ≡ stop)
    → Stops due rose stop → Gives view due rose r
exits {Y} {Z} view due rose stop r is h =
    let p = err_from_is_err_and r is in
    subst (λ (q : Result Y Stop). Gives view due rose q) (sym (p.1 ∙ ap Err p.2)) h

-- a count that rose later has risen
pub rose_before : (before mid now : ℕ) → before ≤ mid → Rose mid now → Rose before now
rose_before before mid now later rose = omega arith

-- the images stopped, where the board was read
pub load_stops : (name : List ℕ) (held mid : Option (List ℕ → Option (List ℕ))) (rose later : Type 0) (board : Board) (modules : List BoardModule) (stop : Stop)
    → mid ≡ held → modules ≡ board.modules → (later → rose) → IfSome (option_map (board_at name) held) (λ d. d ≡ Ok board)
    → Stops (option_map (images_at modules) mid) later stop → Stops (option_map (loaded_at name) held) rose stop
unfolding loaded_at
load_stops name held mid rose later board modules stop same is so read stopped =
    let make = λ (b : Board) (images : List (List ℕ)). let l : Loaded = record { board = b; images = images } in l in
    let at_held : Stops (option_map (images_at board.modules) held) later stop =
    subst (λ ms. Stops (option_map (images_at ms) held) later stop) is (subst (λ h. Stops (option_map (images_at modules) h) later stop) same stopped) in
    gives_then (λ (l : Loaded). l) (board_at name) (λ b at. images_at b.modules at >>= λ images. Ok (make b images)) held rose later board (Err stop) so read
    (stops_after (images_at board.modules) (λ images at. Ok (make board images)) held later stop at_held)

-- both were read
pub load_gives : (name : List ℕ) (held mid : Option (List ℕ → Option (List ℕ))) (board : Board) (modules : List BoardModule) (images : List (List ℕ))
    → mid ≡ held → modules ≡ board.modules → IfSome (option_map (board_at name) held) (λ d. d ≡ Ok board)
    → IfSome (option_map (images_at modules) mid) (λ d. d ≡ Ok images)
    → IfSome (option_map (loaded_at name) held) (λ d. d ≡ Ok (record { board = board; images = images }))
unfolding loaded_at
load_gives name held mid board modules images same is read given =
    let make = λ (b : Board) (images : List (List ℕ)). let l : Loaded = record { board = b; images = images } in l in
    let at_held : IfSome (option_map (images_at board.modules) held) (λ d. d ≡ Ok images) =
    subst (λ ms. IfSome (option_map (images_at ms) held) (λ d. d ≡ Ok images)) is
    (subst (λ h. IfSome (option_map (images_at modules) h) (λ d. d ≡ Ok images)) same given) in
    gives_then (λ (l : Loaded). l) (board_at name) (λ b at. images_at b.modules at >>= λ images. Ok (make b images)) held (Unit {0}) (Unit {0}) board
    (Ok (make board images)) (λ u. u) read (gives_made (images_at board.modules) (make board) held images at_held)

front_none : {B : Type 0} (r : Result (List B) Stop) → with_front [] r ≡ r
front_none (Ok ys) = refl
front_none (Err stop) = refl

-- before the first image nothing was read
pub images_none : (held : Option (List ℕ → Option (List ℕ))) (modules : List BoardModule)
    → IfSome held (λ at. with_front [] (each (λ i m. image_at i m.image at) 0 modules) ≡ images_at modules at)
unfolding images_at
images_none None modules = tt
images_none (Some at) modules = front_none (each (λ i m. image_at i m.image at) 0 modules)
