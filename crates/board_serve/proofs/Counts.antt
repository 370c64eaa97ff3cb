-- The count of one entry more.
use Rattle.std.proofs.Common.{◌≡◌, ◌≢◌, ℕ, zero, suc, inl, inr, ◌+◌, ◌-◌, ◌^◌, ◌<◌, ◌≤◌, min, List, [], ◌∷◌, ◌++◌, length, slice_index, slice_set, sym, refl}
use Rattle.std.proofs.Common.{ap, subst, ◌⊎◌, ⊎_elim, arith}
use Rattle.std.proofs.lemmas.Bool.Decides.{nat_tests}
use Rattle.std.proofs.lemmas.Grind.{flat_map-append}
use Rattle.std.proofs.lemmas.List.{append-nil, length-append, length-set, get_or-set_same, get_or-set_other}
use Rattle.event_log.specs.Events.{words_of, words_in}
use Rattle.event_log.specs.declared.entry.Entry.{Entry}
use Rattle.event_log.specs.declared.entry.Entry.TheVariants.{Steps, Irq}
use Rattle.board_serve.specs.Got.{Counted}

same_or_else : (d n : ℕ) → (d ≡ n) ⊎ (d ≢ n)
same_or_else zero zero = inl refl
same_or_else zero (suc n) = inr (λ e. absurd (omega (arith, e)))
same_or_else (suc d) zero = inr (λ e. absurd (omega (arith, e)))
same_or_else (suc d) (suc n) = ⊎_elim (λ (e : d ≡ n). inl (ap suc e)) (λ (f : d ≢ n). inr (λ e. f (omega (arith, e)))) (same_or_else d n)

of_one : (d : ℕ) (got : List Entry) (e : Entry) → length (words_of d (got ++ e ∷ [])) ≡ length (words_of d got) + length (words_in d e)
of_one d got e =
    omega (
      arith,
      ap length (flat_map-append (words_in d) got (e ∷ [])),
      length-append (words_of d got) (words_in d e ++ []),
      ap length (append-nil (words_in d e)),
    )

here : (d w : ℕ) → length (words_in d (Irq d w)) ≡ 1
here d w = grind (arith, nat_tests)

else : (d n w : ℕ) → n ≢ d → length (words_in d (Irq n w)) ≡ 0
else d n w other = grind (arith, nat_tests)

-- steps are no interrupt
pub counts_steps : (n : ℕ) (counts : List ℕ) (got : List Entry) → Counted counts got → Counted counts (got ++ Steps n ∷ [])
counts_steps n counts got c d lt = let h = c d lt in omega (arith, of_one d got (Steps n), h)

-- an interrupt of a device without a count
pub counts_other : (n w : ℕ) (counts : List ℕ) (got : List Entry) → length counts ≤ n → Counted counts got → Counted counts (got ++ Irq n w ∷ [])
counts_other n w counts got out c d lt = let h = c d lt in omega (arith, of_one d got (Irq n w), else d n w (λ e. absurd (omega arith)), h)

-- an interrupt of a device with a count
pub counts_one : (n w more : ℕ) (counts : List ℕ) (got : List Entry) → n < length counts → more ≡ min (slice_index counts n + 1) (2 ^ 32 - 1)
    → Counted counts got → Counted (slice_set counts n more) (got ++ Irq n w ∷ [])
counts_one n w more counts got inside is c d lt =
    let within : d < length counts = omega (arith, lt, length-set counts n more) in
    let h = c d within in
    ⊎_elim
    (λ (e : d ≡ n). subst (λ k. slice_index (slice_set counts n more) k ≡ min (length (words_of k (got ++ Irq n w ∷ []))) (2 ^ 32 - 1)) (sym e)
    (let own = c n inside in omega (arith, get_or-set_same counts n more 0 inside, is, own, of_one n got (Irq n w), here n w)))
    (λ (e : d ≢ n). omega (arith, get_or-set_other counts n d more 0 e, h, of_one d got (Irq n w), else d n w (λ s. e (sym s))))
    (same_or_else d n)
