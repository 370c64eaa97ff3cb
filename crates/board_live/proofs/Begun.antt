-- What was taken of devices that sent a prefix of their scripts is a prefix of their scripts.
use Rattle.std.proofs.Common.{◌≡◌, ℕ, zero, suc, ◌<◌, ◌≤◌, List, [], ◌∷◌, ◌++◌, length, map, take, Some, slice_get, slice_index_or, refl, sym, ap, ◌∙◌, ⊎_elim}
use Rattle.std.proofs.Common.{arith, All}
use Rattle.std.proofs.lemmas.Bool.{cases_lt}
use Rattle.std.proofs.lemmas.Bool.Decides.{nat_tests}
use Rattle.std.proofs.lemmas.List.Elements.{All-head, All-tail}
use Rattle.std.proofs.lemmas.List.{get_or_past, length-append, length-take, take-append-le, take-take, take_all}
use Rattle.board_file.specs.declared.board.BoardDevice.{BoardDevice}
use Rattle.board_file.specs.declared.board.Action.TheVariants.{Resume}
use Rattle.board_serve.specs.Raised.{HaveSentOf}
use Rattle.board_serve.specs.Scripts.{script_of}
use Rattle.event_log.specs.Events.{interrupts, words_in, words_of}
use Rattle.event_log.specs.Log.{IsEntry, IsHistory}
use Rattle.event_log.specs.declared.entry.Entry.{Entry}
use Rattle.event_log.specs.declared.entry.Entry.TheVariants.{Steps, Irq}
use Rattle.irq_inbox.specs.Seen.{DevSeen}
use Rattle.irq_inbox.specs.Words.{words}

-- the beginning of a prefix is a prefix
pub shorter : (s a b : List ℕ) (k : ℕ) → take k s ≡ a ++ b → (j : ℕ) × (a ≡ take j s)
shorter s a b k e =
    let n = length a in
    let within : n ≤ k = omega (arith, ap length e, length-take k s, length-append a b) in
    (n, sym (take_all n a (omega arith)) ∙ (sym (take-append-le n a b (omega arith)) ∙ (sym (ap (λ l. take n l) e) ∙ take-take n k s within)))

-- a device past the last has no word in a history, and no script
pub none_past : (n d : ℕ) (es : List Entry) → All (IsEntry n) es → n ≤ d → words_of d es ≡ []
none_past n d [] all le = refl
none_past n d (Steps k ∷ es) all le = none_past n d es (All-tail (IsEntry n) (Steps k) es all) le
none_past n d (Irq e w ∷ es) all le =
    let is : IsEntry n (Irq e w) = All-head (IsEntry n) (Irq e w) es all in
    let other : words_in d (Irq e w) ≡ [] = grind (arith, nat_tests, is.0, le) in
    ap (λ l. l ++ words_of d es) other ∙ none_past n d es (All-tail (IsEntry n) (Irq e w) es all) le

pub no_script : (devices : List BoardDevice) (d : ℕ) → length devices ≤ d → script_of devices d ≡ []
no_script devices d le =
    ap (λ (x : BoardDevice). x.script) (get_or_past devices d (record { name = []; action = Resume; target = []; script = [] }) le)

-- what the pass at a place has sent
sent_at : (passes : List DevSeen) (d : ℕ) → d < length passes
    → (p : DevSeen) × (slice_get passes d ≡ Some p) × (slice_index_or (map (λ (q : DevSeen). q.sent) passes) d [] ≡ p.sent)
sent_at [] d lt = absurd (omega (arith, lt))
sent_at (p ∷ ps) zero lt = (p, refl, refl)
sent_at (p ∷ ps) (suc d) lt = sent_at ps d (omega (arith, lt))

-- of each device of the board, by what was gathered
taken_begun : (devices : List BoardDevice) (passes : List DevSeen) (got left : List (ℕ × ℕ)) (d : ℕ)
    → d < length passes → HaveSentOf devices passes
    → slice_index_or (map (λ (p : DevSeen). p.sent) passes) d [] ≡ words d got ++ words d left
    → (k : ℕ) × (words d got ≡ take k (script_of devices d))
taken_begun devices passes got left d lt sent is =
    let (p, here, same) = sent_at passes d lt in
    let (k, prefix) = sent d p here in
    shorter (script_of devices d) (words d got) (words d left) k (sym prefix ∙ (sym same ∙ is))

-- of each device, board's or not
pub words_begun : ((d : ℕ) (es : List Entry) → words_of d es ≡ words d (interrupts es)) → (devices : List BoardDevice)
    (passes : List DevSeen) (h : List Entry) (got left : List (ℕ × ℕ))
    → IsHistory (length devices) h → interrupts h ≡ got → length passes ≡ length devices → HaveSentOf devices passes
    → ((d : ℕ) → d < length devices → slice_index_or (map (λ (p : DevSeen). p.sent) passes) d [] ≡ words d got ++ words d left)
    → (d : ℕ) → (k : ℕ) × (words_of d h ≡ take k (script_of devices d))
words_begun are devices passes h got left history taken all sent is d =
    ⊎_elim
    (λ (lt : d < length devices).
    let (k, begun) = taken_begun devices passes got left d (omega (arith, lt, all)) sent (is d lt) in
    (k, are d h ∙ (ap (λ l. words d l) taken ∙ begun)))
    (λ (le : length devices ≤ d). (0, none_past (length devices) d h history.entries le))
    (cases_lt d (length devices))
