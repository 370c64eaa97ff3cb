-- A text is what is read so far, and then the text after it.
use Rattle.std.proofs.Common.{◌≡◌, ◌≢◌, ℕ, suc, ◌+◌, ◌-◌, ◌<◌, List, [], ◌∷◌, ◌++◌, Option, Some, None, Result, Ok, Err, refl, ap, sym, ◌∙◌, cond, arith}
use Rattle.std.proofs.Common.{append_assoc}
use Rattle.std.proofs.lemmas.Bool.{cond_both, eq-eqb, ne_eqb}
use Rattle.std.proofs.lemmas.List.{append-nil}
use Rattle.tx_types.specs.Code.{ptr_error, invalid_memory}
use Rattle.region_guard.specs.Memory.{Memory, byte, may}
use Rattle.region_guard.specs.declared.region.Access.TheVariants.{Load}
use Rattle.call_arguments.specs.Names.{before, text_at}

-- what `byte_at` answers: the byte, where module m may load it
abbrev pub IsByteAt : Memory → ℕ → ℕ → Option ℕ → Type 0
IsByteAt g m a loaded = loaded ≡ cond (may g m Load a 1) (Some (byte g a)) None

-- a text from a byte on that can't be loaded, from a zero on, and from another byte on
text_at-outside : (g : Memory) (m a n : ℕ) → IsByteAt g m a None → text_at g m a (suc n) ≡ Err invalid_memory
unfolding text_at
text_at-outside g m a n outside =
    cond_both (may g m Load a 1) (Some (byte g a)) None (λ o. None ≡ o → text_at g m a (suc n) ≡ Err invalid_memory) (λ yes same. cc)
    (λ no same. rw no refl) outside

text_at-end : (g : Memory) (m a n : ℕ) → IsByteAt g m a (Some 0) → text_at g m a (suc n) ≡ Ok []
unfolding text_at
text_at-end g m a n loaded =
    cond_both (may g m Load a 1) (Some (byte g a)) None (λ o. Some 0 ≡ o → text_at g m a (suc n) ≡ Ok [])
    (λ yes same. let ends : byte g a ≡ 0 = cc in rw (yes, eq-eqb (byte g a) 0 ends) refl) (λ no same. cc) loaded

text_at-more : (g : Memory) (m a n b : ℕ) → IsByteAt g m a (Some b) → b ≢ 0 → text_at g m a (suc n) ≡ before b (text_at g m (a + 1) n)
unfolding text_at
text_at-more g m a n b loaded more =
    cond_both (may g m Load a 1) (Some (byte g a)) None (λ o. Some b ≡ o → text_at g m a (suc n) ≡ before b (text_at g m (a + 1) n))
    (λ yes same. let is_b : byte g a ≡ b = cc in rw (yes, is_b, ne_eqb b 0 more) refl) (λ no same. cc) loaded

-- bytes before a text, where there is one
abbrev pub before_all : List ℕ → Result (List ℕ) ℕ → Result (List ℕ) ℕ
before_all read (Ok rest) = Ok (read ++ rest)
before_all read (Err code) = Err code

before_all-push : (read : List ℕ) (b : ℕ) (rest : Result (List ℕ) ℕ) → before_all (read ++ b ∷ []) rest ≡ before_all read (before b rest)
before_all-push read b (Ok rest) = ap Ok (append_assoc read (b ∷ []) rest)
before_all-push read b (Err code) = refl

-- the text is refused, or ends, or goes on, at the byte after what is read
pub refused_here : (g : Memory) (m x i most : ℕ) (read : List ℕ) (all : Result (List ℕ) ℕ) → i < most → IsByteAt g m (x + i) None
    → before_all read (text_at g m (x + i) (most - i)) ≡ all → Err invalid_memory ≡ all
refused_here g m x i most read all below outside whole =
    let left : most - i ≡ suc (most - (i + 1)) = omega arith in
    let here : text_at g m (x + i) (most - i) ≡ Err invalid_memory = rw left (text_at-outside g m (x + i) (most - (i + 1)) outside) in
    sym (ap (before_all read) here) ∙ whole

pub ends_here : (g : Memory) (m x i most b : ℕ) (read : List ℕ) (all : Result (List ℕ) ℕ) → i < most → IsByteAt g m (x + i) (Some b) → b ≡ 0
    → before_all read (text_at g m (x + i) (most - i)) ≡ all → Ok read ≡ all
ends_here g m x i most b read all below loaded ends whole =
    let left : most - i ≡ suc (most - (i + 1)) = omega arith in
    let here : text_at g m (x + i) (most - i) ≡ Ok [] = rw left (text_at-end g m (x + i) (most - (i + 1)) (rw ends at loaded)) in
    ap Ok (sym (append-nil read)) ∙ sym (ap (before_all read) here) ∙ whole

pub goes_on_here : (g : Memory) (m x i most b : ℕ) (read : List ℕ) (all : Result (List ℕ) ℕ) → i < most → IsByteAt g m (x + i) (Some b) → b ≢ 0
    → before_all read (text_at g m (x + i) (most - i)) ≡ all → before_all (read ++ b ∷ []) (text_at g m (x + (i + 1)) (most - (i + 1))) ≡ all
goes_on_here g m x i most b read all below loaded more whole =
    let left : most - i ≡ suc (most - (i + 1)) = omega arith in
    let next : x + i + 1 ≡ x + (i + 1) = omega arith in
    let rest = text_at g m (x + (i + 1)) (most - (i + 1)) in
    let here : text_at g m (x + i) (most - i) ≡ before b rest = rw (left, ← next) (text_at-more g m (x + i) (most - (i + 1)) b loaded more) in
    before_all-push read b rest ∙ sym (ap (before_all read) here) ∙ whole

-- no zero is among the bytes that are left
pub is_full : (g : Memory) (m x i b : ℕ) (read : List ℕ) (all : Result (List ℕ) ℕ) → IsByteAt g m (x + i) (Some b) → b ≢ 0
    → before_all read (text_at g m (x + i) 1) ≡ all → Err ptr_error ≡ all
unfolding text_at
is_full g m x i b read all loaded more whole =
    sym (ap (before_all read) (text_at-more g m (x + i) 0 b loaded more)) ∙ whole
