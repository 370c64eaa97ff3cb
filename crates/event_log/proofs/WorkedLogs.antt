-- Worked logs, on a board with three devices.
use Rattle.std.proofs.Common.{◌≡◌, [], ◌∷◌, Ok, Err, refl}
use Rattle.std.specs.Fmt.{digits}
use Rattle.std.specs.Prelude.{codes}
use Rattle.event_log.specs.LogIn.{log_in}
use Rattle.event_log.specs.declared.entry.Entry.TheVariants.{Steps, Irq}

empty : log_in 3 [] ≡ Ok []
unfolding log_in
empty = refl

steps-and-word : log_in 3 (codes "S 10\nI 2 000000ff\nS 7\n") ≡ Ok (Steps 10 ∷ Irq 2 255 ∷ Steps 7 ∷ [])
unfolding log_in digits
steps-and-word = refl

-- steps that follow steps
steps-again : log_in 3 (codes "S 1\nS 2\n") ≡ Err 2
unfolding log_in digits
steps-again = refl

-- no such device
device-9 : log_in 3 (codes "I 9 00000000\n") ≡ Err 1
unfolding log_in digits
device-9 = refl

-- a last line with no newline, and an empty line
no-newline : log_in 3 (codes "S 1\nI 0 00000000") ≡ Err 2
unfolding log_in digits
no-newline = refl

empty-line : log_in 3 (codes "S 1\n\n") ≡ Err 2
unfolding log_in digits
empty-line = refl

-- the first of two bad lines
upper-case : log_in 3 (codes "S 1\nI 0 0000000A\nS 0\n") ≡ Err 2
unfolding log_in digits
upper-case = refl

-- a leading zero, no step, and a step too many
leading-zero : log_in 3 (codes "S 01\n") ≡ Err 1
unfolding log_in digits
leading-zero = refl

no-step : log_in 3 (codes "S 0\n") ≡ Err 1
unfolding log_in digits
no-step = refl

step-too-many : log_in 3 (codes "S 99999999\nI 0 00000000\nS 2\n") ≡ Err 3
unfolding log_in digits
step-too-many = refl
