-- A helper that goes on after another: what is due is due to the second, or to the first where it stopped.
use Rattle.std.proofs.Common.{◌≡◌, ℕ, ◌+◌, List, [], ◌∷◌, ◌++◌, Option, Some, None, Result, Ok, Err, IfSome, inl, inr, refl, ap, ◌∙◌, sym, subst, append_assoc}
use Rattle.std.proofs.Common.{append-nil}
use Rattle.std.specs.Option.{option_map}
use Rattle.board_run.specs.Reading.{Gives, GivesHere, Stops, StopsHere}
use Rattle.board_run.specs.Step.{◌>>=◌, each}
use Rattle.board_run.specs.declared.refusal.Stop.{Stop}
use Rattle.board_run.specs.declared.refusal.Stop.TheVariants.{ReadFault, Refused, NoMemory}

-- where the first stopped, so does the whole
pub stops_after : {A X Z : Type 0} (first : A → Result X Stop) (next : X → A → Result Z Stop) (known : Option A) (rose : Type 0) (stop : Stop)
    → Stops (option_map first known) rose stop → Stops (option_map (λ a. first a >>= λ x. next x a) known) rose stop
stops_after first next None rose ReadFault h = h
stops_after first next (Some a) rose ReadFault h =
    elim h [ inl due ↦ inl (ap (λ r. r >>= λ x. next x a) due) | inr fault ↦ inr fault ]
stops_after first next None rose (Refused refusal) h = tt
stops_after first next (Some a) rose (Refused refusal) h = ap (λ r. r >>= λ x. next x a) h
stops_after first next known rose NoMemory h = tt

-- where the first gave a value, the second decides
pub gives_then : {A X Y Z : Type 0} (view : Y → Z) (first : A → Result X Stop) (next : X → A → Result Z Stop) (known : Option A) (rose later : Type 0) (x : X)
    (r : Result Y Stop) → (later → rose) → IfSome (option_map first known) (λ d. d ≡ Ok x) → Gives view (option_map (next x) known) later r
    → Gives view (option_map (λ a. first a >>= λ x. next x a) known) rose r
gives_then view first next None rose later x (Ok y) so h g = tt
gives_then view first next None rose later x (Err ReadFault) so h g = so g
gives_then view first next None rose later x (Err (Refused refusal)) so h g = tt
gives_then view first next None rose later x (Err NoMemory) so h g = tt
gives_then view first next (Some a) rose later x (Ok y) so h g = ap (λ r. r >>= λ x. next x a) h ∙ g
gives_then view first next (Some a) rose later x (Err ReadFault) so h g =
    elim g [ inl due ↦ inl (ap (λ r. r >>= λ x. next x a) h ∙ due) | inr fault ↦ inr (so fault) ]
gives_then view first next (Some a) rose later x (Err (Refused refusal)) so h g = ap (λ r. r >>= λ x. next x a) h ∙ g
gives_then view first next (Some a) rose later x (Err NoMemory) so h g = tt

-- a helper that reads nothing gives the same whatever is known
pub gives_here : {A Y Z : Type 0} (view : Y → Z) (due : A → Result Z Stop) (is : Result Z Stop) (known : Option A) (rose : Type 0) (r : Result Y Stop)
    → ((a : A) → due a ≡ is) → GivesHere view is r → Gives view (option_map due known) rose r
gives_here view due is None rose (Ok y) same h = tt
gives_here view due is (Some a) rose (Ok y) same h = same a ∙ h
gives_here view due is known rose (Err ReadFault) same h = absurd h
gives_here view due is None rose (Err (Refused refusal)) same h = tt
gives_here view due is (Some a) rose (Err (Refused refusal)) same h = same a ∙ h
gives_here view due is known rose (Err NoMemory) same h = tt

-- the second reads nothing
pub gives_then_here : {A X Y Z : Type 0} (view : Y → Z) (first : A → Result X Stop) (next : X → Result Z Stop) (known : Option A) (rose : Type 0) (x : X)
    (r : Result Y Stop) → IfSome (option_map first known) (λ d. d ≡ Ok x) → GivesHere view (next x) r
    → Gives view (option_map (λ a. first a >>= next) known) rose r
gives_then_here view first next known rose x r h g =
    gives_then view first (λ y a. next y) known rose rose x r (λ fault. fault) h (gives_here view (λ a. next x) (next x) known rose r (λ a. refl) g)

-- the second makes a value of what the first gave
pub gives_made : {A X Z : Type 0} (first : A → Result X Stop) (make : X → Z) (known : Option A) (x : X) → IfSome (option_map first known) (λ d. d ≡ Ok x)
    → IfSome (option_map (λ a. first a >>= λ y. Ok (make y)) known) (λ d. d ≡ Ok (make x))
gives_made first make None x h = tt
gives_made first make (Some a) x h = ap (λ r. r >>= λ y. Ok (make y)) h

-- the same where neither reads: the first stopped, or gave a value
pub stops_here_after : {X Z : Type 0} (first : Result X Stop) (next : X → Result Z Stop) (stop : Stop) → StopsHere first stop → StopsHere (first >>= next) stop
stops_here_after first next ReadFault h = h
stops_here_after first next (Refused refusal) h = ap (λ r. r >>= next) h
stops_here_after first next NoMemory h = tt

pub here_then : {X Y Z : Type 0} (view : Y → Z) (first : Result X Stop) (next : X → Result Z Stop) (x : X) (r : Result Y Stop) → first ≡ Ok x
    → GivesHere view (next x) r → GivesHere view (first >>= next) r
here_then view first next x r is h = subst (λ (d : Result _ Stop). GivesHere view (d >>= next) r) (sym is) h

-- what never stops runs out of memory at most
pub never_stops : {X Z : Type 0} (due : Result X Stop) (x : X) (other : Result Z Stop) (stop : Stop) → due ≡ Ok x → StopsHere due stop → StopsHere other stop
never_stops due x other ReadFault is h = h
never_stops due x other (Refused refusal) is h = absurd (cc)
never_stops due x other NoMemory is h = tt

-- what a step makes of each element, where this came of those before
abbrev pub with_front : {B : Type 0} → List B → Result (List B) Stop → Result (List B) Stop
with_front done (Ok ys) = Ok (done ++ ys)
with_front done (Err stop) = Err stop

front_push : {B : Type 0} (done : List B) (y : B) (rest : Result (List B) Stop)
    → with_front done (rest >>= λ ys. Ok (y ∷ ys)) ≡ with_front (done ++ y ∷ []) rest
front_push done y (Ok ys) = ap Ok (sym (append_assoc done (y ∷ []) ys))
front_push done y (Err stop) = refl

pub each_more : {A B : Type 0} (step : ℕ → A → Result B Stop) (i : ℕ) (x : A) (xs : List A) (y : B) (done : List B) → step i x ≡ Ok y
    → with_front done (each step i (x ∷ xs)) ≡ with_front (done ++ y ∷ []) (each step (i + 1) xs)
each_more step i x xs y done is =
    ap (λ r. with_front done (r >>= λ y. each step (i + 1) xs >>= λ ys. Ok (y ∷ ys))) is ∙ front_push done y (each step (i + 1) xs)

pub each_stops : {A B : Type 0} (step : ℕ → A → Result B Stop) (i : ℕ) (x : A) (xs : List A) (done : List B) (stop : Stop) → step i x ≡ Err stop
    → with_front done (each step i (x ∷ xs)) ≡ Err stop
each_stops step i x xs done stop is = ap (λ r. with_front done (r >>= λ y. each step (i + 1) xs >>= λ ys. Ok (y ∷ ys))) is

pub each_all : {A B : Type 0} (step : ℕ → A → Result B Stop) (i : ℕ) (done : List B) → with_front done (each step i []) ≡ Ok done
each_all step i done = ap Ok (append-nil done)

pub ruleset steps = (stops_after, gives_then_here, stops_here_after, here_then)
