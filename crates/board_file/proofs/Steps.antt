-- Reading goes on after a field that was read, and stops at the first that is wrong.
use Rattle.std.proofs.Common.{◌≡◌, ℕ, List, Result, Err, subst, sym, ◌∙◌, ap}
use Rattle.std.proofs.lemmas.Result.{err_from_is_err_and}
use Rattle.std.specs.Result.{IsErrAnd}
use Rattle.board_file.specs.Answer.{Names, Reads, ReadsAs}
use Rattle.board_file.specs.Field.{◌>>=◌}
use Rattle.board_file.specs.declared.refusal.BoardErr.{BoardErr}
use Rattle.board_file.specs.declared.refusal.BoardErr.TheVariants.{NoMemory, NotToml, Field}

-- an error that names the path that is due
pub reads_wrong : {A X : Type 0} (seen : X → A) (due : Result A (List ℕ)) (path : List ℕ) (err : BoardErr) → due ≡ Err path → Names path err
    → ReadsAs seen due (Err err)
reads_wrong seen due path NoMemory is names = tt
reads_wrong seen due path NotToml is names = names
reads_wrong seen due path (Field p) is names = is ∙ ap Err (sym names)

-- where a step stopped, so does the whole
stops : {A B X : Type 0} (seen : X → A) (due : Result A (List ℕ)) (next : A → Result B (List ℕ)) (err : BoardErr) → ReadsAs seen due (Err err)
    → Reads (due >>= next) (Err err)
stops seen due next NoMemory h = tt
stops seen due next NotToml h = h
stops seen due next (Field p) h = ap (λ r. r >>= next) h

-- the same at the exit of a `?`
pub exits : {A B X : Type 0} (seen : X → A) (due : Result A (List ℕ)) (next : A → Result B (List ℕ)) (err : BoardErr) (r : Result B BoardErr)
    → IsErrAnd r (λ e. e ≡ err) → ReadsAs seen due (Err err) → Reads (due >>= next) r
exits {A} {B} seen due next err r is h =
    let p = err_from_is_err_and r is in
    subst (λ (q : Result B BoardErr). Reads (due >>= next) q) (sym (p.1 ∙ ap Err p.2)) (stops seen due next err h)
