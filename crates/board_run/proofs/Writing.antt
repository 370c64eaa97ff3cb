-- A text of several pieces is written as its pieces are, one after the other.
use Rattle.std.proofs.Common.{◌≡◌, ℕ, ◌+◌, ◌≤◌, min, List, ◌++◌, length, take, Option, Result, Ok, Err, IsErr, sym, subst, arith, zero, suc, [], ◌∷◌}
use Rattle.std.proofs.lemmas.Grind.{common_steps}
use Rattle.std.proofs.lemmas.Bool.{false≢true}
use Rattle.std.proofs.Math.Seq.{take-append-add}
use Rattle.std.proofs.KnownBytes.{Appends-trans}
use Rattle.std.specs.Io.KnownBytes.{Appends}
use Rattle.board_io.specs.Sink.{AppendsPrefix, Wrote}

take-min : (x y : List ℕ) (n : ℕ) → take (min n (length x)) (x ++ y) ≡ take n x
take-min [] y n = grind (arith, common_steps)
take-min (a ∷ x) y zero = grind (arith, common_steps)
take-min (a ∷ x) y (suc n) = grind (arith, common_steps, take-min x y n)

-- a prefix of a text is a prefix of a longer one
pub AppendsPrefix-longer : (old new : Option (List ℕ)) (x y : List ℕ) → AppendsPrefix old new x → AppendsPrefix old new (x ++ y)
AppendsPrefix-longer old new x y p = (min p.0 (length x), subst (Appends old new) (sym (take-min x y p.0)) p.1)

-- a text and then a prefix of the next
pub AppendsPrefix-after : (old mid new : Option (List ℕ)) (x y : List ℕ) → Appends old mid x → AppendsPrefix mid new y → AppendsPrefix old new (x ++ y)
AppendsPrefix-after old mid new x y p q =
    (length x + q.0, subst (Appends old new) (sym (take-append-add x y q.0)) (Appends-trans old mid new x (take q.0 y) p q.1))

-- after a part that was written whole, the rest decides
pub wrote_more : {T E : Type 0} (before mid now : ℕ) (old part new : Option (List ℕ)) (x y : List ℕ) (r : Result T E)
    → before ≤ mid → Appends old part x → Wrote mid now part new y r → Wrote before now old new (x ++ y) r
wrote_more before mid now old part new x y (Ok v) c p q = Appends-trans old part new x y p q
wrote_more before mid now old part new x y (Err e) c p q = (omega (arith, q.0), AppendsPrefix-after old part new x y p q.1)

-- a text whose first part failed has failed
pub wrote_part : {T E : Type 0} (before now : ℕ) (old new : Option (List ℕ)) (x y : List ℕ) (r : Result T E)
    → IsErr r → Wrote before now old new x r → Wrote before now old new (x ++ y) r
wrote_part before now old new x y (Ok v) failed p = absurd (false≢true failed)
wrote_part before now old new x y (Err e) failed p = (p.0, AppendsPrefix-longer old new x y p.1)

-- what a helper that writes several pieces needs
pub ruleset writing = (wrote_more, wrote_part, Appends-trans)
