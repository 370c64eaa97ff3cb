-- Each kind of step keeps the lane rule.
use Rattle.std.proofs.Common.{◌≡◌, ◌≢◌, ℕ, zero, suc, ◌≤◌, true, false, true≢false, List, [], ◌∷◌, ◌++◌, length, set, sym, refl, ap, ◌∙◌, subst, append_assoc}
use Rattle.std.proofs.Common.{⊎_elim, arith}
use Rattle.std.proofs.lemmas.List.{length-append}
use mathlib.Core.Option.{some, some-injective, some-ne-none}
use lib.ListN.{get_elem?}
use Rattle.crossbeam_queue.specs.Fifo.{Pushes, Pops, Forks, Merges, Learns}
use Rattle.crossbeam_queue.proofs.Lists.{at_set}
use Rattle.event_log.specs.declared.entry.Entry.{Entry}
use Rattle.log_lane.specs.Rule.{know, Fits, Relays}
use Rattle.log_lane.specs.declared.rule.Know.{Know}
use Rattle.log_lane.proofs.Views.{AllFit, all_set, all_end}

first_fits : (seat : ℕ) (v : Know) → get_elem? (know true [] true [] ∷ []) seat ≡ some v → Fits 0 0 [] [] seat v
first_fits zero v e = subst (Fits 0 0 [] [] 0) (some-injective (know true [] true []) v e) ((λ _. (refl, refl)), λ _. (refl, refl))
first_fits (suc seat) v e = absurd (some-ne-none v (sym e))

pub begins : Relays [] (know true [] true [] ∷ [])
begins = (0, 0, [], [], refl, first_fits)

pub puts : (n seat : ℕ) (v : Know) (x : Entry) → v ≡ know true v.put false [] → Pushes Relays n seat v x (λ w. w ≡ know v.puts (v.put ++ x ∷ []) v.gets v.got)
puts n seat v x is items views room h at =
    let w : Know = know v.puts (v.put ++ x ∷ []) v.gets v.got in
    let put = h.2 ++ x ∷ [] in
    let mine = (h.5 seat v at).0 (ap (λ (y : Know). y.puts) is) in (
      w,
      (
        h.0,
        h.1,
        put,
        h.3,
        ap (λ l. l ++ x ∷ []) h.4 ∙ append_assoc h.3 items (x ∷ []),
        all_set (Fits h.0 h.1 put h.3) views seat w ((λ _. (mine.0, ap (λ l. l ++ x ∷ []) mine.1)), (h.5 seat v at).1)
            (λ j u other e. ((λ p. absurd (other (((h.5 j u e).0 p).0 ∙ sym mine.0))), (h.5 j u e).1)),
      ),
      refl,
    )

pub gets : (seat : ℕ) (v : Know) → v ≡ know false [] true v.got → Pops Relays seat v (λ x w. w ≡ know v.puts v.put v.gets (v.got ++ x ∷ []))
gets seat v is x items views h at =
    let w : Know = know v.puts v.put v.gets (v.got ++ x ∷ []) in
    let got = h.3 ++ x ∷ [] in
    let mine = (h.5 seat v at).1 (ap (λ (y : Know). y.gets) is) in (
      w,
      (
        h.0,
        h.1,
        h.2,
        got,
        h.4 ∙ sym (append_assoc h.3 (x ∷ []) items),
        all_set (Fits h.0 h.1 h.2 got) views seat w ((h.5 seat v at).0, λ _. (mine.0, ap (λ l. l ++ x ∷ []) mine.1))
            (λ j u other e. ((h.5 j u e).0, λ p. absurd (other (((h.5 j u e).1 p).0 ∙ sym mine.0)))),
      ),
      refl,
    )

pub forks : (seat : ℕ) (v : Know) → v ≡ know true v.put true v.got → Forks Relays seat v (know true v.put false []) (know false [] true v.got)
forks seat v is items views h at =
    let l : Know = know true v.put false [] in
    let r : Know = know false [] true v.got in
    let vs : List Know = set views seat l in
    let puts = (h.5 seat v at).0 (ap (λ (y : Know). y.puts) is) in
    let gets = (h.5 seat v at).1 (ap (λ (y : Know). y.gets) is) in
    let F : ℕ → Know → Type 0 = Fits h.0 (length vs) h.2 h.3 in (
      h.0,
      length vs,
      h.2,
      h.3,
      h.4,
      all_end F vs r
          (all_set F views seat l ((λ _. puts), λ p. absurd (true≢false (sym p)))
          (λ j u other e. ((h.5 j u e).0, λ p. absurd (other (((h.5 j u e).1 p).0 ∙ sym gets.0)))))
          ((λ p. absurd (true≢false (sym p))), λ _. (refl, gets.1)),
    )

pub merges : (seat : ℕ) (v : Know) (other : ℕ) (u : Know) → v ≡ know true v.put false [] → u ≡ know false [] true u.got
    → Merges Relays seat v other u (know true v.put true u.got) (know false [] false [])
merges seat v other u is of items views h at two at' =
    let both : Know = know true v.put true u.got in
    let none : Know = know false [] false [] in
    let vs : List Know = set views seat both in
    let was : get_elem? views other ≡ some u = ⊎_elim (λ x. absurd (two x.0)) (λ x. x.1) (at_set views seat other both u at') in
    let mine = (h.5 seat v at).0 (ap (λ (y : Know). y.puts) is) in
    let theirs = (h.5 other u was).1 (ap (λ (y : Know). y.gets) of) in
    let F : ℕ → Know → Type 0 = Fits h.0 seat h.2 h.3 in
    let now : AllFit (λ j y. j ≢ other → F j y) vs =
    all_set (λ j y. j ≢ other → F j y) views seat both (λ _. ((λ _. mine), λ _. (refl, theirs.1)))
    (λ j y _ e apart. ((h.5 j y e).0, λ p. absurd (apart (((h.5 j y e).1 p).0 ∙ sym theirs.0)))) in
    (h.0, seat, h.2, h.3, h.4, all_set F vs other none ((λ p. absurd (true≢false (sym p))), λ p. absurd (true≢false (sym p))) (λ j y apart e. now j y e apart))

-- no more is in the queue than was put
pub holds_no_more : (seat : ℕ) (v : Know) → v ≡ know true v.put false [] → Learns Relays seat v (λ items. length items ≤ length v.put)
holds_no_more seat v is items views h at =
    let mine = (h.5 seat v at).0 (ap (λ (y : Know). y.puts) is) in
    omega (arith, ap length (mine.1 ∙ h.4), length-append h.3 items)

pub totals : (seat : ℕ) (v : Know) → v ≡ know true v.put true v.got → Learns Relays seat v (λ items. v.put ≡ v.got ++ items)
totals seat v is items views h at =
    let puts = (h.5 seat v at).0 (ap (λ (y : Know). y.puts) is) in
    let gets = (h.5 seat v at).1 (ap (λ (y : Know). y.gets) is) in
    puts.1 ∙ (h.4 ∙ ap (λ l. l ++ items) (sym gets.1))
