-- Reading fields of a table in order: each is a value, or stops at the path of the first wrong one.
use Rattle.std.specs.Prelude.{ℕ, suc, pos, ◌%◌, ◌==◌, ◌&&◌, ◌||◌, Bool, not, nat_le, if◌then◌else◌}
use Rattle.std.specs.Prelude.{List, [], ◌∷◌, ◌++◌, length, Option, Some, None, Result, Ok, Err}
use Rattle.std.specs.Prelude.{option_and_then}
use Rattle.std.specs.List.{list_all, list_any}
use Rattle.std.specs.Str.{bytes_eq}
use Rattle.toml.specs.Data.{Data, integer, table, Items, no_items, item, Members, no_members}
use Rattle.toml.specs.Data.{member, get_member, as_str, as_array}
use Rattle.tx_types.specs.Limits.{name_limit}
use Rattle.board_file.specs.Path.{entry_path, key_path}

infixl 10 ◌>>=◌
abbrev pub ◌>>=◌ : {A B : Type 0} → Result A (List ℕ) → (A → Result B (List ℕ)) → Result B (List ℕ)
(Ok x) >>= next = next x
(Err path) >>= next = Err path

-- a table of the file, and its path
pub record Part : Type 0 where
  pub path : List ℕ
  pub fields : Members

-- the value, or the path where there is none
abbrev pub named : {A : Type 0} → List ℕ → Option A → Result A (List ℕ)
named path None = Err path
named path (Some x) = Ok x

-- what a rule reads from a field; a missing field is wrong
abbrev pub required : {A : Type 0} → (Data → Option A) → Part → List ℕ → Result A (List ℕ)
required rule part key =
    named (key_path part.path key) (option_and_then rule (get_member key part.fields))

abbrev pub or_absent : {A : Type 0} → A → (Data → Option A) → Option Data → Option A
or_absent absent rule None = Some absent
or_absent absent rule (Some d) = rule d

-- what a rule reads from a field; a missing field has a value of its own
abbrev pub optional : {A : Type 0} → A → (Data → Option A) → Part → List ℕ → Result A (List ℕ)
optional absent rule part key =
    named (key_path part.path key) (or_absent absent rule (get_member key part.fields))

-- a field that may not be there
abbrev pub forbidden : Part → List ℕ → Result (Unit {0}) (List ℕ)
forbidden part key = optional tt (λ d. None) part key

-- the value, where it passes a test
abbrev pub passing : {A : Type 0} → (A → Bool) → Option A → Option A
passing test None = None
passing test (Some x) = if test x then Some x else None

abbrev pub as_number : Data → Option ℕ
as_number (integer (pos n)) = Some n
as_number _ = None

-- an integer from low to high that the step divides
abbrev pub in_range : ℕ → ℕ → ℕ → Data → Option ℕ
in_range low high step d =
    passing (λ n. (nat_le low n && nat_le n high) && n % step == 0) (as_number d)

-- a letter, a digit, `_` or `-`
abbrev pub is_name_byte : ℕ → Bool
is_name_byte b =
    (((nat_le 0x61 b && nat_le b 0x7A) || (nat_le 0x41 b && nat_le b 0x5A))
    || (nat_le 0x30 b && nat_le b 0x39)) || (b == 0x5F || b == 0x2D)

-- 1 to the given number of bytes
abbrev pub is_of_length : ℕ → List ℕ → Bool
is_of_length most bytes = nat_le 1 (length bytes) && nat_le (length bytes) most

abbrev pub is_name : List ℕ → Bool
is_name bytes = is_of_length name_limit bytes && list_all is_name_byte bytes

abbrev pub name_of : Data → Option (List ℕ)
name_of d = passing is_name (as_str d)

-- a name that isn't taken
abbrev pub name_unless : (List ℕ → Bool) → Data → Option (List ℕ)
name_unless taken d = passing (λ name. not (taken name)) (name_of d)

-- a string of 1 to the given number of bytes
abbrev pub text_within : ℕ → Data → Option (List ℕ)
text_within most d = passing (is_of_length most) (as_str d)

abbrev pub items_count : Items → ℕ
items_count no_items = 0
items_count (item d ds) = suc (items_count ds)

-- an array of low to high entries
abbrev pub array_within : ℕ → ℕ → Data → Option Items
array_within low high d =
    passing (λ ds. nat_le low (items_count ds) && nat_le (items_count ds) high) (as_array d)

-- an array of integers from 0 to 4294967295
abbrev pub words_in : Items → Option (List ℕ)
words_in no_items = Some []
words_in (item d ds) =
    option_and_then (λ w. option_and_then (λ ws. Some (w ∷ ws)) (words_in ds))
    (in_range 0 0xFFFF_FFFF 1 d)

abbrev pub words_of : Data → Option (List ℕ)
words_of d = option_and_then words_in (as_array d)

-- a table, or its path where it is none
abbrev pub table_at : List ℕ → Data → Result Part (List ℕ)
table_at path (table ms) = Ok (record { path = path; fields = ms })
table_at path _ = Err path

-- the entry of an array after these, read whole where it is a table
abbrev pub entry_after : {A : Type 0} →
    (Part → List A → Result A (List ℕ)) → List ℕ → List A → Data → Result A (List ℕ)
entry_after entry key earlier d = do
  part ← table_at (entry_path key (length earlier)) d
  entry part earlier

-- the entries of an array, each read in turn by what came before it
abbrev pub entries : {A : Type 0} →
    (Part → List A → Result A (List ℕ)) → List ℕ → List A → Items → Result (List A) (List ℕ)
entries entry key earlier no_items = Ok earlier
entries entry key earlier (item d ds) = do
  x ← entry_after entry key earlier d
  entries entry key (earlier ++ x ∷ []) ds

-- the first key of a table that isn't among these is wrong; a table's members stand in byte order
abbrev pub no_key_but : List (List ℕ) → List ℕ → Members → Result (Unit {0}) (List ℕ)
no_key_but known path no_members = Ok tt
no_key_but known path (member key d ms) =
    if list_any (bytes_eq key) known then no_key_but known path ms else Err (key_path path key)

abbrev pub nothing_else : List (List ℕ) → Part → Result (Unit {0}) (List ℕ)
nothing_else known part = no_key_but known part.path part.fields
