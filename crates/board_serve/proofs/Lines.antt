-- The lines of entries are written as their entries are got, one after another.
use Rattle.std.proofs.Common.{◌≡◌, ℕ, ◌+◌, ◌≤◌, List, [], ◌∷◌, ◌++◌, length, take, Option, sym, ap, ◌∙◌, subst, arith}
use Rattle.std.proofs.lemmas.Grind.{flat_map-append}
use Rattle.std.proofs.lemmas.List.{append-nil}
use Rattle.std.proofs.Math.Seq.{take-append-add}
use Rattle.std.proofs.KnownBytes.{Appends-trans}
use Rattle.std.specs.Io.KnownBytes.{Appends}
use Rattle.board_io.specs.Faults.{Rose}
use Rattle.board_io.specs.Sink.{AppendsPrefix}
use Rattle.event_log.specs.Text.{line_of, text_of}
use Rattle.event_log.specs.declared.entry.Entry.{Entry}

text_more : (was : List Entry) (e : Entry) → text_of was ++ line_of e ≡ text_of (was ++ e ∷ [])
text_more was e = sym (flat_map-append line_of was (e ∷ []) ∙ ap (λ t. text_of was ++ t) (append-nil (line_of e)))

-- the line of one entry more was written
pub line_written : (start old new : Option (List ℕ)) (was : List Entry) (e : Entry) → Appends start old (text_of was) → Appends old new (line_of e)
    → Appends start new (text_of (was ++ e ∷ []))
line_written start old new was e p q = subst (Appends start new) (text_more was e) (Appends-trans start old new (text_of was) (line_of e) p q)

-- of the line of one entry more a prefix was written
pub line_failed : (first before now : ℕ) (start old new : Option (List ℕ)) (was : List Entry) (e : Entry) → first ≤ before → Appends start old (text_of was)
    → Rose before now × AppendsPrefix old new (line_of e) → Rose first now × AppendsPrefix start new (text_of (was ++ e ∷ []))
line_failed first before now start old new was e le p q = (
  omega (arith, le, q.0),
  subst (AppendsPrefix start new) (text_more was e) (
    length (text_of was) + q.1.0,
    subst (Appends start new) (sym (take-append-add (text_of was) (line_of e) q.1.0))
        (Appends-trans start old new (text_of was) (take q.1.0 (line_of e)) p q.1.1),
  ),
)
