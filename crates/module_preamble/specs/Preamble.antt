-- The rules of a module preamble as a table in the order in which they are tested, and what reading
-- an image gives (ThreadX Modules User Guide, "Module Preamble"; the bounds on sizes are this
-- board's).
use Rattle.std.specs.Prelude.{◌≡◌, ℕ, ◌%◌, ◌<◌, ◌≤◌, ◌==◌, nat_lt, nat_le, Bool, IsTrue, not, ◌&&◌}
use Rattle.std.specs.Prelude.{◌||◌, if◌then◌else◌, List, [], ◌∷◌, ◌++◌, length, Result, Ok, Err}
use Rattle.std.specs.Int.{bit_at}
use Rattle.tx_types.specs.Limits.{priority_count}
use Rattle.module_preamble.specs.Words.{words_of, has_callback}
use Rattle.module_preamble.specs.declared.words.Preamble.{Preamble}
use Rattle.module_preamble.specs.declared.refusal.PreErr.{PreErr}
use Rattle.module_preamble.specs.declared.refusal.PreErr.TheVariants.{Short, BadId, BadMajor}
use Rattle.module_preamble.specs.declared.refusal.PreErr.TheVariants.{BadSize, BadProps, BadCode}
use Rattle.module_preamble.specs.declared.refusal.PreErr.TheVariants.{BadData, BadEntry, BadPrio}
use Rattle.module_preamble.specs.declared.refusal.PreErr.TheVariants.{BadStack}

-- words of a preamble, as its fourth word says
abbrev pub preamble_words : ℕ
preamble_words = 32

-- bytes of a stack, at least and at most
abbrev pub least_stack : ℕ
least_stack = 64

abbrev pub most_stack : ℕ
most_stack = 65536

-- bytes of data, at most
abbrev pub most_data : ℕ
most_data = 1048576

-- a rule: whether it holds, and the refusal where it doesn't
pub record Rule : Type 0 where
  pub holds : Bool
  pub refusal : PreErr

abbrev pub rule : Bool → PreErr → Rule
rule holds refusal = record { holds = holds; refusal = refusal }

-- a value that a table of rules judges: the refusal of the first rule that doesn't hold, else the
-- value
unfoldable pub judged : {X : Type 0} → List Rule → X → Result X PreErr
judged [] x = Ok x
judged (r ∷ rules) x = if r.holds then judged rules x else Err r.refusal

-- an entry is the offset of an instruction after the preamble
abbrev pub is_entry : Preamble → ℕ → Bool
is_entry p w = (w % 4 == 0) && nat_le 128 w && nat_lt w p.code_size

-- an entry, or 0 for none
abbrev pub is_optional_entry : Preamble → ℕ → Bool
is_optional_entry p w = (w == 0) || is_entry p w

-- a size that a stack may have
abbrev pub is_stack : ℕ → Bool
is_stack w = nat_le least_stack w && nat_le w most_stack

-- an image has room for a preamble
unfoldable pub length_rules : List ℕ → List Rule
length_rules bytes = rule (nat_le 128 (length bytes)) (Short (length bytes)) ∷ []

-- the preamble is that of a module in a known version, which runs in user mode under memory
-- protection
unfoldable pub identity_rules : Preamble → List Rule
identity_rules p =
    rule (p.id == 0x4D4F4455) (BadId p.id)
    ∷ rule (nat_le 1 p.major && nat_le p.major 6) (BadMajor p.major)
    ∷ rule (p.words == preamble_words) (BadSize p.words)
    ∷ rule ((bit_at p.props 0 == 1) && (bit_at p.props 1 == 1)) (BadProps p.props)
    ∷ []

-- the code is the whole image, and the data has a bound
unfoldable pub size_rules : ℕ → Preamble → List Rule
size_rules len p =
    rule ((p.code_size % 4 == 0) && (p.code_size == len)) (BadCode p.code_size)
    ∷ rule (nat_le p.data_size most_data) (BadData p.data_size)
    ∷ []

-- shell and start are entries; stop and callback are, or are none
unfoldable pub entry_rules : Preamble → List Rule
entry_rules p =
    rule (is_entry p p.shell) (BadEntry 0 p.shell)
    ∷ rule (is_entry p p.start) (BadEntry 1 p.start)
    ∷ rule (is_optional_entry p p.stop) (BadEntry 2 p.stop)
    ∷ rule (is_optional_entry p p.callback) (BadEntry 3 p.callback)
    ∷ []

-- the callback thread's priority is looked at where there is one
unfoldable pub priority_rules : Preamble → List Rule
priority_rules p =
    rule (nat_lt p.start_prio priority_count) (BadPrio 0 p.start_prio)
    ∷ rule (not (has_callback p) || nat_lt p.callback_prio priority_count)
    (BadPrio 1 p.callback_prio)
    ∷ []

-- and so is its stack
unfoldable pub stack_rules : Preamble → List Rule
stack_rules p =
    rule (is_stack p.start_stack) (BadStack 0 p.start_stack)
    ∷ rule (not (has_callback p) || is_stack p.callback_stack) (BadStack 1 p.callback_stack)
    ∷ []

-- the table: every rule, in order
unfoldable pub rules : List ℕ → List Rule
rules bytes =
    let p = words_of bytes in
    length_rules bytes ++ (identity_rules p ++ (size_rules (length bytes) p
    ++ (entry_rules p ++ (priority_rules p ++ stack_rules p))))

-- what reading an image gives: its words, or the refusal of the first rule that doesn't hold
unfoldable pub preamble : List ℕ → Result Preamble PreErr
preamble bytes = judged (rules bytes) (words_of bytes)

-- a word is the offset of an instruction after the preamble
pub record IsEntry (p : Preamble) (w : ℕ) : Type 0 where
  pub aligned : w % 4 ≡ 0
  pub behind : 128 ≤ w
  pub inside : w < p.code_size

-- a stack may have this size
pub record IsStack (size : ℕ) : Type 0 where
  pub least : least_stack ≤ size
  pub most : size ≤ most_stack

-- what the layers above rely on in an accepted image with these words
pub record IsAccepted (bytes : List ℕ) (p : Preamble) : Type 0 where
  pub words : p ≡ words_of bytes
  pub code_size : p.code_size ≡ length bytes
  pub code_words : p.code_size % 4 ≡ 0
  pub data_size : p.data_size ≤ most_data
  pub shell : IsEntry p p.shell
  pub start : IsEntry p p.start
  pub callback : IsTrue (has_callback p) → IsEntry p p.callback
  pub start_prio : p.start_prio < priority_count
  pub callback_prio : IsTrue (has_callback p) → p.callback_prio < priority_count
  pub start_stack : IsStack p.start_stack
  pub callback_stack : IsTrue (has_callback p) → IsStack p.callback_stack
