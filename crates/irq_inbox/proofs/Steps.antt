-- Each kind of step keeps the inbox rule.
use Rattle.std.proofs.Common.{◌≡◌, ◌≢◌, ℕ, zero, suc, ◌+◌, ◌<◌, ◌≤◌, true≢false, List, [], ◌∷◌, ◌++◌, length, set, slice_index_or, sym, refl, ap, ◌∙◌, subst}
use Rattle.std.proofs.Common.{append_assoc, lt_of_not-le, ⊎_elim, arith}
use Rattle.std.proofs.lemmas.List.{length-set, length-append}
use mathlib.Core.Option.{some, some-injective, some-ne-none}
use lib.ListN.{get_elem?}
use Rattle.crossbeam_queue.specs.Fifo.{Pushes, Pops, Forks, Merges, Learns}
use Rattle.crossbeam_queue.proofs.Lists.{at_set}
use Rattle.irq_inbox.specs.Rule.{words, taker, sender, nobody, HoldsRest, AreSent, Fits, Delivers}
use Rattle.irq_inbox.specs.declared.rule.Know.{Know}
use Rattle.irq_inbox.proofs.Views.{below, AllFit, all_set, all_end, one_known}
use Rattle.irq_inbox.proofs.Words.{words-here, words-else, words-some}

first_fits : (seat : ℕ) (v : Know) → get_elem? (taker 0 [] [] ∷ []) seat ≡ some v → Fits 1 0 [] [] seat v
first_fits zero v e = subst (Fits 1 0 [] [] 0) (some-injective (taker 0 [] []) v e)
    ((λ p. absurd (true≢false (sym p))), λ _. (refl, refl, refl, refl, omega arith, (λ d _. refl), λ d lt. absurd (omega arith)))
first_fits (suc seat) v e = absurd (some-ne-none v (sym e))

pub begins : Delivers [] (taker 0 [] [] ∷ [])
begins = (0, [], first_fits)

pub raises : (n seat : ℕ) (v : Know) (d w : ℕ) → v ≡ sender d v.sent → Pushes Delivers n seat v (d, w) (λ u. u ≡ sender d (v.sent ++ w ∷ []))
raises n seat v d w is items views room h at =
    let u : Know = sender d (v.sent ++ w ∷ []) in
    let x : ℕ × ℕ = (d, w) in
    let ended = h.0 in
    let got = h.1 in
    let len : length (set views seat u) ≡ length views = length-set views seat u in
    let number : v.number ≡ d = ap (λ (y : Know). y.number) is in
    let mine = (h.2 seat v at).0 (ap (λ (y : Know). y.sends) is) in
    let place : seat ≡ suc d = mine.0 ∙ ap suc number in
    let here : seat < length views = below views seat v at in
    let late : ended ≤ d = subst (λ k. ended ≤ k) number mine.2 in
    let sent : v.sent ≡ words d (got ++ items) = mine.1 ∙ ap (λ k. words k (got ++ items)) number in (
      u,
      (
        ended,
        got,
        all_set (Fits (length (set views seat u)) ended got (got ++ (items ++ x ∷ []))) views seat u
            ((λ _. (place, ap (λ l. l ++ w ∷ []) sent ∙ sym (words-here d w got items), late)), λ p. absurd (true≢false (sym p)))
            (λ j y other e.
            let was = h.2 j y e in (
              (λ p. let f = was.0 p in (f.0, f.1 ∙ sym (words-else y.number d w got items (λ same. other (f.0 ∙ (ap suc same ∙ sym place)))), f.2)),
              λ p.
                  let f = was.1 p in
                  let many : d < y.made = omega (arith, f.2, place, here) in (
                    f.0,
                    f.1,
                    len ∙ f.2,
                    f.3,
                    f.4,
                    (λ k le. words-else k d w got items (λ same. absurd (omega (arith, same, many, le))) ∙ f.5 k le),
                    λ k lt. f.6 k lt ∙ sym (words-else k d w got items (λ same. absurd (omega (arith, same, lt, late)))),
                  ),
            )),
      ),
      refl,
    )

pub takes : (seat : ℕ) (v : Know) → v ≡ taker v.made v.got v.known → Pops Delivers seat v (λ x u. (u ≡ taker v.made (v.got ++ x ∷ []) v.known) × (x.0 < v.made))
takes seat v is x items views h at =
    let u : Know = taker v.made (v.got ++ x ∷ []) v.known in
    let ended = h.0 in
    let got = h.1 in
    let len : length (set views seat u) ≡ length views = length-set views seat u in
    let mine = (h.2 seat v at).1 (ap (λ (y : Know). y.takes) is) in
    let same : (got ++ x ∷ []) ++ items ≡ got ++ (x ∷ items) = append_assoc got (x ∷ []) items in
    let fit : AllFit (Fits (length (set views seat u)) ended (got ++ x ∷ []) (got ++ (x ∷ items))) (set views seat u) =
    all_set (Fits (length (set views seat u)) ended (got ++ x ∷ []) (got ++ (x ∷ items))) views seat u
    ((λ p. absurd (true≢false (sym p))), λ _. (mine.0, ap (λ l. l ++ x ∷ []) mine.1, len ∙ mine.2, mine.3, mine.4, mine.5, mine.6))
    (λ j y other e. ((h.2 j y e).0, λ p. absurd (other (((h.2 j y e).1 p).0 ∙ sym mine.0)))) in (
      u,
      (ended, got ++ x ∷ [], subst (λ all. AllFit (Fits (length (set views seat u)) ended (got ++ x ∷ []) all) (set views seat u)) (sym same) fit),
      (refl, lt_of_not-le (λ le. words-some x.0 x.1 got items (mine.5 x.0 le))),
    )

pub forks : (seat : ℕ) (v : Know) → v ≡ taker v.made v.got v.known → Forks Delivers seat v (taker (v.made + 1) v.got v.known) (sender v.made [])
forks seat v is items views h at =
    let l : Know = taker (v.made + 1) v.got v.known in
    let r : Know = sender v.made [] in
    let vs : List Know = set views seat l in
    let ended = h.0 in
    let got = h.1 in
    let mine = (h.2 seat v at).1 (ap (λ (y : Know). y.takes) is) in
    let len : length vs ≡ suc v.made = length-set views seat l ∙ mine.2 in
    let longer : length (vs ++ r ∷ []) ≡ suc (v.made + 1) = omega (arith, length-append vs (r ∷ []), len) in
    let F : ℕ → Know → Type 0 = Fits (length (vs ++ r ∷ [])) ended got (got ++ items) in (
      ended,
      got,
      all_end F vs r
          (all_set F views seat l
          ((λ p. absurd (true≢false (sym p))), λ _. (mine.0, mine.1, longer, mine.3, omega (arith, mine.4), (λ d le. mine.5 d (omega (arith, le))), mine.6))
          (λ j y other e. ((h.2 j y e).0, λ p. absurd (other (((h.2 j y e).1 p).0 ∙ sym mine.0)))))
          ((λ _. (len, sym (mine.5 v.made (omega arith)), mine.4)), λ p. absurd (true≢false (sym p))),
    )

pub merges : (seat : ℕ) (v : Know) (other : ℕ) (u : Know) → v ≡ taker v.made v.got v.known → u ≡ sender (length v.known) u.sent
    → Merges Delivers seat v other u (taker v.made v.got (v.known ++ u.sent ∷ [])) nobody
merges seat v other u is of items views h at two at' =
    let both : Know = taker v.made v.got (v.known ++ u.sent ∷ []) in
    let vs : List Know = set views seat both in
    let ended = h.0 in
    let got = h.1 in
    let all : List (ℕ × ℕ) = got ++ items in
    let was : get_elem? views other ≡ some u = ⊎_elim (λ x. absurd (two x.0)) (λ x. x.1) (at_set views seat other both u at') in
    let mine = (h.2 seat v at).1 (ap (λ (y : Know). y.takes) is) in
    let theirs = (h.2 other u was).0 (ap (λ (y : Know). y.sends) of) in
    let number : u.number ≡ length v.known = ap (λ (y : Know). y.number) of in
    let next : u.number ≡ ended = number ∙ mine.3 in
    let here : other < length views = below views other u was in
    let len : length (set vs other nobody) ≡ suc v.made = length-set vs other nobody ∙ (length-set views seat both ∙ mine.2) in
    let F : ℕ → Know → Type 0 = Fits (length (set vs other nobody)) (suc ended) got all in
    let knows : (d : ℕ) → d < suc ended → slice_index_or (v.known ++ u.sent ∷ []) d [] ≡ words d all =
    λ d lt. one_known (λ k. words k all) v.known u.sent (λ k h'. mine.6 k (omega (arith, h', mine.3))) (theirs.1 ∙ ap (λ k. words k all) number) d
    (omega (arith, lt, mine.3)) in
    let now : AllFit (λ j y. j ≢ other → F j y) vs =
    all_set (λ j y. j ≢ other → F j y) views seat both
    (λ _. (
      (λ p. absurd (true≢false (sym p))),
      λ _. (mine.0, mine.1, len, omega (arith, length-append v.known (u.sent ∷ []), mine.3), omega (arith, theirs.0, here, mine.2, next), mine.5, knows),
    ))
    (λ j y ne e apart. (
      (λ p. let f = (h.2 j y e).0 p in (f.0, f.1, lt_of_not-le (λ le. apart (omega (arith, f.0, f.2, le, theirs.0, next))))),
      λ p. absurd (ne (((h.2 j y e).1 p).0 ∙ sym mine.0)),
    )) in
    (suc ended, got, all_set F vs other nobody ((λ p. absurd (true≢false (sym p))), λ p. absurd (true≢false (sym p))) (λ j y apart e. now j y e apart))

pub rests : (seat : ℕ) (v : Know) (d : ℕ) → v ≡ sender d v.sent → Learns Delivers seat v (λ items. HoldsRest v.number v.sent items)
rests seat v d is items views h at = (h.1, ((h.2 seat v at).0 (ap (λ (y : Know). y.sends) is)).1)

pub totals : (seat : ℕ) (v : Know) → v ≡ taker v.made v.got v.known → Learns Delivers seat v (λ items. AreSent v.known v.got items)
totals seat v is items views h at =
    let mine = (h.2 seat v at).1 (ap (λ (y : Know). y.takes) is) in
    λ d lt. mine.6 d (omega (arith, lt, mine.3)) ∙ ap (λ g. words d (g ++ items)) (sym mine.1)
