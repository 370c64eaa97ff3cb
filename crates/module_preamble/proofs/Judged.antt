-- How a table of rules judges part by part.
use Rattle.std.proofs.Common.{◌≡◌, true, false, cond, List, [], ◌∷◌, ◌++◌, Ok, Err, refl, append-nil}
use Rattle.module_preamble.specs.Preamble.{Rule, judged}
use Rattle.module_preamble.specs.declared.refusal.PreErr.{PreErr}

-- where the first part of a table refuses, the table does
pub judged-refused : {X Y : Type 0} (a b : List Rule) (x : X) (y : Y) (e : PreErr) → judged a y ≡ Err e → judged (a ++ b) x ≡ Err e
unfolding judged
judged-refused [] b x y e h = (cc)
judged-refused (r ∷ a) b x y e h =
    elim r.holds as (λ v. cond v (judged a y) (Err r.refusal) ≡ Err e → cond v (judged (a ++ b) x) (Err r.refusal) ≡ Err e) [
      | true ↦ λ rest. judged-refused a b x y e rest
      | false ↦ λ same. (cc)
    ] h

-- where the first part of a table lets a value pass, the second part judges
pub judged-passed : {X Y : Type 0} (a b : List Rule) (x : X) (y z : Y) → judged a y ≡ Ok z → judged (a ++ b) x ≡ judged b x
unfolding judged
judged-passed [] b x y z h = refl
judged-passed (r ∷ a) b x y z h =
    elim r.holds as (λ v. cond v (judged a y) (Err r.refusal) ≡ Ok z → cond v (judged (a ++ b) x) (Err r.refusal) ≡ judged b x) [
      | true ↦ λ rest. judged-passed a b x y z rest
      | false ↦ λ same. (cc)
    ] h

-- a whole table refuses each value alike
pub judged-refuses : {X Y : Type 0} (a : List Rule) (x : X) (y : Y) (e : PreErr) → judged a y ≡ Err e → judged a x ≡ Err e
judged-refuses a x y e h = rw append-nil at (judged-refused a [] x y e h)

-- and lets each value pass alike
pub judged-passes : {X Y : Type 0} (a : List Rule) (x : X) (y z : Y) → judged a y ≡ Ok z → judged a x ≡ Ok x
unfolding judged
judged-passes a x y z h = rw append-nil at (judged-passed a [] x y z h)

-- the four together
pub ruleset parts = (judged-refused, judged-passed, judged-refuses, judged-passes)
