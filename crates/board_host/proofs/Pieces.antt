-- A piece is written prefix by prefix.
use Rattle.std.proofs.Common.{◌≡◌, ℕ, ◌-◌, List, [], ◌++◌, length, take, drop, Option, sym, ap, ◌∙◌, subst, append_assoc, append-nil, take-append-drop, Result}
use Rattle.std.proofs.Common.{Ok, Err, IsErr, arith, length-append}
use Rattle.std.proofs.lemmas.Bool.{false≢true}
use Rattle.std.proofs.lemmas.List.{take_rest}
use Rattle.std.proofs.Math.Seq.{take-append_seam}
use Rattle.std.proofs.KnownBytes.{Appends-trans, Appends-kept}
use Rattle.std.specs.Io.KnownBytes.{Appends, Keeps}
use Rattle.board_io.specs.Sink.{AppendsPrefix}
use Rattle.board_host.specs.Writes.{AppendsPiece}

-- some prefix of the piece was appended, and this rest of it was not
pub record IsUnderWay (old new : Option (List ℕ)) (piece rest : List ℕ) : Type 0 where
  pub done : List ℕ
  pub split : piece ≡ done ++ rest
  pub appended : Appends old new done

split_more : (piece done rest : List ℕ) (n : ℕ) → piece ≡ done ++ rest → piece ≡ (done ++ take n rest) ++ take (length rest - n) (drop n rest)
split_more piece done rest n e =
    e ∙ ap (λ l. done ++ l) (sym (take-append-drop n rest)) ∙ sym (append_assoc done (take n rest) (drop n rest))
    ∙ ap (λ l. (done ++ take n rest) ++ l) (sym (take_rest rest n))

-- one more prefix of the rest
pub under_way_more : (old mid new : Option (List ℕ)) (piece rest : List ℕ) (n : ℕ) → IsUnderWay old mid piece rest → Appends mid new (take n rest)
    → IsUnderWay old new piece (take (length rest - n) (drop n rest))
under_way_more old mid new piece rest n h more =
    record {
      done = h.done ++ take n rest;
      split = split_more piece h.done rest n h.split;
      appended = Appends-trans old mid new h.done (take n rest) h.appended more;
    }

-- the prefix that was appended
under_way_prefix : (old new : Option (List ℕ)) (piece rest : List ℕ) → IsUnderWay old new piece rest → AppendsPrefix old new piece
under_way_prefix old new piece rest h =
    (length h.done, subst (Appends old new) (sym (ap (take (length h.done)) h.split ∙ take-append_seam h.done rest)) h.appended)

-- nothing is left
pub under_way_whole : (old new : Option (List ℕ)) (piece rest : List ℕ) → IsUnderWay old new piece rest → rest ≡ [] → Appends old new piece
under_way_whole old new piece rest h none =
    subst (Appends old new) (sym (h.split ∙ ap (λ l. h.done ++ l) none ∙ append-nil h.done)) h.appended

-- a write that failed kept what was written
under_way_kept : (old mid new : Option (List ℕ)) (piece rest : List ℕ) → IsUnderWay old mid piece rest → Keeps mid new → AppendsPrefix old new piece
under_way_kept old mid new piece rest h kept =
    under_way_prefix old new piece rest (record { done = h.done; split = h.split; appended = Appends-kept old mid new h.done h.appended kept })

-- a piece whose write failed
pub under_way_failed : {T E : Type 0} (old mid new : Option (List ℕ)) (piece rest : List ℕ) (r : Result T E)
    → IsErr r → IsUnderWay old mid piece rest → Keeps mid new → AppendsPiece old new piece r
under_way_failed old mid new piece rest (Ok v) failed h kept = absurd (false≢true failed)
under_way_failed old mid new piece rest (Err e) failed h kept = under_way_kept old mid new piece rest h kept

-- an empty piece has no rest
pub under_way_empty : (old new : Option (List ℕ)) (piece rest : List ℕ) → IsUnderWay old new piece rest → piece ≡ [] → length rest ≡ 0
under_way_empty old new piece rest h none = omega (arith, ap length (sym none ∙ h.split), length-append h.done rest)

pub ruleset pieces = (under_way_more, under_way_whole, under_way_empty)
