use Rattle.std.proofs.Common.{◌≡◌, ℕ, nat_lt, List, [], length, Option, None, Some, Result, Ok, Err, refl, ap, ◌∙◌}
use Rattle.std.proofs.lemmas.Bool.{cond_both}
use Rattle.event_log.specs.LogIn.{log_in}
use Rattle.event_log.specs.declared.entry.Entry.{Entry}
use Rattle.board_run.specs.Boards.{loaded_at}
use Rattle.board_run.specs.Booting.{booted_from}
use Rattle.board_run.specs.Held.{held_file, within, file_at}
use Rattle.board_run.specs.Refused.{refused_log}
use Rattle.board_run.specs.Replay.{Printed, log_at, session_of, session_on, session_at}
use Rattle.board_run.specs.Step.{◌>>=◌}
use Rattle.board_run.specs.declared.boards.Loaded.{Loaded}
use Rattle.board_run.specs.declared.refusal.Refusal.{Refusal}
use Rattle.board_run.specs.declared.refusal.Refusal.TheVariants.{LogTooLarge}
use Rattle.board_run.specs.declared.refusal.Stop.{Stop}
use Rattle.board_run.proofs.logs.a_log_comes_back_byte_for_byte.Goals as goal

-- where two steps gave a value, the first gave one
both-gave : {A B : Type 0} (first : Result A Stop) (next : A → Result B Stop) (y : B) → first >>= next ≡ Ok y → (x : A) × (first ≡ Ok x) × (next x ≡ Ok y)
both-gave (Ok x) next y h = (x, refl, h)
both-gave (Err stop) next y h = absurd cc

held-bytes : (o : Option (List ℕ)) (bytes : List ℕ) → held_file o ≡ Ok bytes → o ≡ Some bytes
held-bytes None bytes h = absurd cc
held-bytes (Some other) bytes h = cc

within-bytes : (most : ℕ) (refusal : Refusal) (held bytes : List ℕ) → within most refusal held ≡ Ok bytes → held ≡ bytes
within-bytes most refusal held bytes =
    cond_both (nat_lt most (length held)) _ _ (λ r. r ≡ Ok bytes → held ≡ bytes) (λ over h. absurd cc) (λ fits h. cc)

file-bytes : (most : ℕ) (refusal : Refusal) (name : List ℕ) (at : List ℕ → Option (List ℕ)) (bytes : List ℕ)
    → file_at most refusal name at ≡ Ok bytes → at name ≡ Some bytes
file-bytes most refusal name at bytes h =
    let read = both-gave (held_file (at name)) (within most refusal) bytes h in
    held-bytes (at name) read.0 read.1 ∙ ap (λ bs. Some bs) (within-bytes most refusal read.0 bytes read.2)

log-said : (r : Result (List Entry) ℕ) (es : List Entry) → refused_log r ≡ Ok es → r ≡ Ok es
log-said (Ok history) es h = cc
log-said (Err line) es h = absurd cc

-- what a log says, it says of the bytes that are held
log-read : (devices : ℕ) (log : List ℕ) (at : List ℕ → Option (List ℕ)) (es : List Entry)
    → log_at devices log at ≡ Ok es → (bytes : List ℕ) × (at log ≡ Some bytes) × (log_in devices bytes ≡ Ok es)
unfolding log_at
log-read devices log at es h =
    let read = both-gave (file_at 4194304 LogTooLarge log at) (λ bytes. refused_log (log_in devices bytes)) es h in
    (read.0, file-bytes 4194304 LogTooLarge log at read.0 read.1, log-said (log_in devices read.0) es read.2)

-- the history of a session that was given
abbrev history_in : Result Printed Stop → List Entry
history_in (Ok s) = s.history
history_in (Err stop) = []

-- a session has the history that was made
history-made : (l : Loaded) (es : List Entry) (s : Printed) → session_of l es ≡ Ok s → es ≡ s.history
unfolding session_of
history-made l es s h =
    let made = both-gave (booted_from l) _ s h in
    ap history_in made.2

-- that of the log
session-read : (l : Loaded) (log : List ℕ) (at : List ℕ → Option (List ℕ)) (s : Printed)
    → session_on l log at ≡ Ok s → log_at (length l.board.devices) log at ≡ Ok s.history
unfolding session_on
session-read l log at s h =
    let read = both-gave (log_at (length l.board.devices) log at) (session_of l) s h in
    read.1 ∙ ap (λ es. Ok es) (history-made l read.0 s read.2)

session-loaded : (board log : List ℕ) (at : List ℕ → Option (List ℕ)) (s : Printed)
    → session_at board log at ≡ Ok s → (l : Loaded) × (session_on l log at ≡ Ok s)
unfolding session_at
session-loaded board log at s h =
    let read = both-gave (loaded_at board at) (λ l. session_on l log at) s h in (read.0, read.2)

pub returns : goal.returns
returns c = λ board log at s h.
    let loaded = session-loaded board log at s h in
    let devices = length loaded.0.board.devices in
    let read = log-read devices log at s.history (session-read loaded.0 log at s loaded.1) in
    read.1 ∙ ap (λ bs. Some bs) (c.each_history_has_one_text.ensures.says_its_text devices read.0 s.history read.2)
