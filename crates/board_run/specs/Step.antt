-- The steps of a call: where one stops, the rest of the call is left out.
use Rattle.std.specs.Prelude.{ℕ, ◌+◌, List, [], ◌∷◌, Result, Ok, Err}
use Rattle.board_run.specs.declared.refusal.Stop.{Stop}

infixl 10 ◌>>=◌
abbrev pub ◌>>=◌ : {A B : Type 0} → Result A Stop → (A → Result B Stop) → Result B Stop
(Ok x) >>= next = next x
(Err stop) >>= next = Err stop

-- what a step makes of each element and its number, in order from a number on
abbrev pub each : {A B : Type 0} → (ℕ → A → Result B Stop) → ℕ → List A → Result (List B) Stop
each step i [] = Ok []
each step i (x ∷ xs) = do
  y ← step i x
  ys ← each step (i + 1) xs
  Ok (y ∷ ys)
