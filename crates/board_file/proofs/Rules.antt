-- A board that was read keeps the rules of its fields.
use Rattle.std.proofs.Common.{◌≡◌, ◌⊎◌, ℕ, ◌+◌, ◌*◌, ◌%◌, ◌==◌, ◌&&◌, ◌≤◌, Bool, true, nat_le, List, [], ◌∷◌, ◌++◌, length, position, Option, None, Some}
use Rattle.std.proofs.Common.{Result, Ok, Err, option_and_then, All, codes, refl, subst, inl, inr, ⊎_elim, arith, length-append}
use Rattle.std.proofs.lemmas.Bool.{cond_both, leb-true}
use Rattle.std.proofs.lemmas.Bool.Decides.{nat_tests}
use Rattle.std.proofs.lemmas.List.Elements.{All-nil, All-push}
use Rattle.std.proofs.lemmas.List.Quantifiers.{position-Some}
use Rattle.std.proofs.lemmas.List.Sums.{sum_by_push}
use Rattle.std.specs.Str.{bytes_eq}
use Rattle.toml.specs.Data.{Data, Items, no_items, item, Members, get_member, as_str, as_array}
use Rattle.board_file.specs.Board.{action_of, board_of, device_of, module_in, module_of, names_device, repeated, script_within, script_words, show_of}
use Rattle.board_file.specs.Board.{target_of}
use Rattle.board_file.specs.Field.{◌>>=◌, Part, array_within, as_number, entries, entry_after, forbidden, in_range, items_count, name_unless, named}
use Rattle.board_file.specs.Field.{nothing_else, optional, or_absent, passing, required, table_at, words_of}
use Rattle.board_file.specs.Path.{entry_path, key_path}
use Rattle.board_file.specs.Rules.{IsBoard, IsShow}
use Rattle.board_file.specs.declared.board.Board.{Board}
use Rattle.board_file.specs.declared.board.BoardDevice.{BoardDevice}
use Rattle.board_file.specs.declared.board.BoardModule.{BoardModule}
use Rattle.board_file.specs.declared.board.BoardShow.{BoardShow}
use Rattle.board_file.proofs.Words.{length_repeated}

-- where the whole gave something, its first step did, and the rest gave it
then_ok : {A B : Type 0} (r : Result A (List ℕ)) (next : A → Result B (List ℕ)) (y : B) → (r >>= next) ≡ Ok y → (x : A) × (r ≡ Ok x) × (next x ≡ Ok y)
then_ok (Ok x) next y h = (x, refl, h)
then_ok (Err path) next y h = absurd (cc)

-- the same, for what follows from that
after : {A B P : Type 0} (r : Result A (List ℕ)) (next : A → Result B (List ℕ)) (y : B) → (r >>= next) ≡ Ok y → ((x : A) → r ≡ Ok x → next x ≡ Ok y → P) → P
after r next y h then = let t = then_ok r next y h in then t.0 t.1 t.2

same_Ok : {A : Type 0} (x y : A) → ◌≡◌ {A = Result A (List ℕ)} (Ok x) (Ok y) → x ≡ y
same_Ok x y h = cc

-- a value is that of the rule
named_some : {A : Type 0} (path : List ℕ) (o : Option A) (x : A) → named path o ≡ Ok x → o ≡ Some x
named_some path None x h = absurd (cc)
named_some path (Some y) x h = cc

of_field : {A B : Type 0} (rule : A → Option B) (o : Option A) (y : B) → option_and_then rule o ≡ Some y → (x : A) × (rule x ≡ Some y)
of_field rule None y h = absurd (cc)
of_field rule (Some x) y h = (x, h)

of_present : {A : Type 0} (absent : A) (rule : Data → Option A) (o : Option Data) (y : A) → or_absent absent rule o ≡ Some y
    → (absent ≡ y) ⊎ ((d : Data) × (rule d ≡ Some y))
of_present absent rule None y h = inl (cc)
of_present absent rule (Some d) y h = inr (d, h)

passed : {A : Type 0} (test : A → Bool) (o : Option A) (y : A) → passing test o ≡ Some y → test y ≡ true
passed test None y h = absurd (cc)
passed test (Some x) y h =
    cond_both (test x) (Some x) None (λ (o : Option _). o ≡ Some y → test y ≡ true) (λ yes same. let is : x ≡ y = cc in subst (λ z. test z ≡ true) is yes)
    (λ no same. absurd (cc)) h

pub record InRange (low high step n : ℕ) : Type 0 where
  pub least : low ≤ n
  pub most : n ≤ high
  pub divided : n % step ≡ 0

number_in_range : (low high step : ℕ) (part : Part) (key : List ℕ) (n : ℕ) → required (in_range low high step) part key ≡ Ok n → InRange low high step n
number_in_range low high step part key n h =
    let found = of_field (in_range low high step) _ n (named_some (key_path part.path key) _ n h) in
    let test = passed (λ n. (nat_le low n && nat_le n high) && n % step == 0) (as_number found.0) n found.1 in
    record { least = grind (arith, nat_tests); most = grind (arith, nat_tests); divided = grind (arith, nat_tests) }

pub record HasCount (low high : ℕ) (ds : Items) : Type 0 where
  pub least : low ≤ items_count ds
  pub most : items_count ds ≤ high

counted_within : (low high : ℕ) (d : Data) (ds : Items) → array_within low high d ≡ Some ds → HasCount low high ds
counted_within low high d ds h =
    let test = passed (λ ds. nat_le low (items_count ds) && nat_le (items_count ds) high) (as_array d) ds h in
    record { least = grind (arith, nat_tests); most = grind (arith, nat_tests) }

array_counted : (low high : ℕ) (part : Part) (key : List ℕ) (ds : Items) → required (array_within low high) part key ≡ Ok ds → HasCount low high ds
array_counted low high part key ds h =
    let found = of_field (array_within low high) _ ds (named_some (key_path part.path key) _ ds h) in
    counted_within low high found.0 ds found.1

optional_counted : (high : ℕ) (part : Part) (key : List ℕ) (ds : Items) → optional no_items (array_within 0 high) part key ≡ Ok ds → HasCount 0 high ds
optional_counted high part key ds h =
    ⊎_elim
    (λ absent. subst (HasCount 0 high) absent (record { least = omega arith; most = omega arith }))
    (λ found. counted_within 0 high found.0 ds found.1)
    (of_present no_items (array_within 0 high) (get_member key part.fields) ds (named_some (key_path part.path key) _ ds h))

-- each entry of an array is read into one of the list
length-entries : {A : Type 0} (entry : Part → List A → Result A (List ℕ)) (key : List ℕ) (earlier : List A) (ds : Items) (xs : List A)
    → entries entry key earlier ds ≡ Ok xs → length xs ≡ length earlier + items_count ds
length-entries entry key earlier no_items xs h = let same : earlier ≡ xs = cc in subst (λ ys. length ys ≡ length earlier + 0) same (omega arith)
length-entries {A} entry key earlier (item d ds) xs h =
    let e = then_ok (entry_after entry key earlier d) (λ x. entries entry key (earlier ++ x ∷ []) ds) xs h in
    let rest = length-entries entry key (earlier ++ e.0 ∷ []) ds xs e.2 in
    omega (arith, rest, length-append earlier (e.0 ∷ []))

-- what each entry keeps, with those before it, holds of the whole list
entries_keep : {A : Type 0} (P : List A → Type 0) (entry : Part → List A → Result A (List ℕ)) (key : List ℕ)
    → ((part : Part) (earlier : List A) (x : A) → P earlier → entry part earlier ≡ Ok x → P (earlier ++ x ∷ [])) → (earlier : List A) (ds : Items) (xs : List A)
    → P earlier → entries entry key earlier ds ≡ Ok xs → P xs
entries_keep P entry key step earlier no_items xs before h = let same : earlier ≡ xs = cc in subst P same before
entries_keep P entry key step earlier (item d ds) xs before h =
    let e = then_ok (entry_after entry key earlier d) (λ x. entries entry key (earlier ++ x ∷ []) ds) xs h in
    let t = then_ok (table_at (entry_path key (length earlier)) d) (λ part. entry part earlier) e.0 e.1 in
    entries_keep P entry key step (earlier ++ e.0 ∷ []) ds xs (step t.0 earlier e.0 before t.2) e.2

-- the scripts so far have room for a script that was accepted
script_fits : (before n : ℕ) (words script : List ℕ) → script_within before n words ≡ Some script → before + length script ≤ 65536
script_fits before n words script h =
    cond_both (nat_le (before + n * length words) 65536) (Some (repeated n words)) None
    (λ (o : Option (List ℕ)). o ≡ Some script → before + length script ≤ 65536)
    (λ fits same. let is : repeated n words ≡ script = cc in let low = leb-true (before + n * length words) 65536 fits in
    subst (λ s. before + length s ≤ 65536) is (omega (arith, low, length_repeated n words)))
    (λ large same. absurd (cc))
    h

scripts_kept : (part : Part) (earlier : List BoardDevice) (d : BoardDevice) → script_words earlier ≤ 65536 → device_of part earlier ≡ Ok d
    → script_words (earlier ++ d ∷ []) ≤ 65536
unfolding device_of
scripts_kept part earlier d before h =
    after (required (name_unless (names_device earlier)) part (codes "name")) _ d h (λ name name_is h1.
    after (required action_of part (codes "action")) _ d h1 (λ action action_is h2.
    after (target_of action part) _ d h2 (λ target target_is h3.
    after (required words_of part (codes "script")) _ d h3 (λ words words_is h4.
    after (optional 1 (in_range 1 65536 1) part (codes "repeat")) _ d h4 (λ repeat repeat_is h5.
    after (named (key_path part.path (codes "script")) (script_within (script_words earlier) repeat words)) _ d h5 (λ script script_is h6.
    after (nothing_else (codes "name" ∷ codes "action" ∷ codes "target" ∷ codes "script" ∷ codes "repeat" ∷ []) part) _ d h6 (λ rest rest_is h7.
    let fits = script_fits (script_words earlier) repeat words script (named_some (key_path part.path (codes "script")) _ script script_is) in
    let made = same_Ok (record { name = name; action = action; target = target; script = script }) d h7 in
    let all : script_words earlier + length d.script ≤ 65536 = subst (λ (d : BoardDevice). script_words earlier + length d.script ≤ 65536) made fits in
    omega (arith, all, sum_by_push (λ (d : BoardDevice). length d.script) earlier d))))))))

show_kept : (modules : List BoardModule) (part : Part) (s : BoardShow) → show_of modules part ≡ Ok s → IsShow (length modules) s
unfolding show_of
show_kept modules part s h =
    after (required (module_in modules) part (codes "module")) _ s h (λ m m_is h1.
    after (required (in_range 0 16777212 4) part (codes "offset")) _ s h1 (λ offset offset_is h2.
    after (required (in_range 1 64 1) part (codes "words")) _ s h2 (λ words words_is h3.
    after (nothing_else (codes "module" ∷ codes "offset" ∷ codes "words" ∷ []) part) _ s h3 (λ rest rest_is h4.
    let in_offset = number_in_range 0 16777212 4 part (codes "offset") offset offset_is in
    let in_words = number_in_range 1 64 1 part (codes "words") words words_is in
    let field = of_field (module_in modules) _ m (named_some (key_path part.path (codes "module")) _ m m_is) in
    let name = of_field (λ name. position (λ (other : BoardModule). bytes_eq name other.name) modules) (as_str field.0) m field.1 in
    let placed = position-Some (λ (other : BoardModule). bytes_eq name.0 other.name) modules m (record { name = []; image = []; start = true }) name.1 in
    subst (IsShow (length modules)) (same_Ok (record { «module» = m; offset = offset; words = words }) s h4)
    (record { «module» = placed.0; offset = in_offset.most; aligned = in_offset.divided; some_words = in_words.least; few_words = in_words.most })))))

-- all entries of an array that was read of as many as it may have
shows_kept : (modules : List BoardModule) (ds : Items) (shows : List BoardShow) → entries (λ part earlier. show_of modules part) (codes "show") [] ds ≡ Ok shows
    → All (IsShow (length modules)) shows
shows_kept modules ds shows h =
    entries_keep (All (IsShow (length modules))) (λ part earlier. show_of modules part) (codes "show")
    (λ part earlier s all read. All-push (IsShow (length modules)) earlier s all (show_kept modules part s read)) [] ds shows
    (All-nil (IsShow (length modules))) h

pub is_board : (file : Members) (b : Board) → board_of file ≡ Ok b → IsBoard b
unfolding board_of
is_board file b h =
    let top : Part = record { path = []; fields = file } in
    after (required (in_range 4096 16777216 32) top (codes "ram")) _ b h (λ ram ram_is h1.
    after (required (in_range 0 100000000 1) top (codes "steps")) _ b h1 (λ steps steps_is h2.
    after (required (array_within 1 16) top (codes "module")) _ b h2 (λ module_entries module_entries_are h3.
    after (entries module_of (codes "module") [] module_entries) _ b h3 (λ modules modules_are h4.
    after (forbidden top (codes "share")) _ b h4 (λ shared shared_is h5.
    after (optional no_items (array_within 0 16) top (codes "device")) _ b h5 (λ device_entries device_entries_are h6.
    after (entries device_of (codes "device") [] device_entries) _ b h6 (λ devices devices_are h7.
    after (optional no_items (array_within 0 16) top (codes "show")) _ b h7 (λ show_entries show_entries_are h8.
    after (entries (λ part earlier. show_of modules part) (codes "show") [] show_entries) _ b h8 (λ shows shows_are h9.
    after (nothing_else (codes "ram" ∷ codes "steps" ∷ codes "module" ∷ codes "device" ∷ codes "show" ∷ []) top) _ b h9 (λ rest rest_is h10.
    let in_ram = number_in_range 4096 16777216 32 top (codes "ram") ram ram_is in
    let in_steps = number_in_range 0 100000000 1 top (codes "steps") steps steps_is in
    let some = array_counted 1 16 top (codes "module") module_entries module_entries_are in
    let few_devices = optional_counted 16 top (codes "device") device_entries device_entries_are in
    let few_shows = optional_counted 16 top (codes "show") show_entries show_entries_are in
    let of_modules = length-entries module_of (codes "module") [] module_entries modules modules_are in
    let of_devices = length-entries device_of (codes "device") [] device_entries devices devices_are in
    let of_shows = length-entries (λ part earlier. show_of modules part) (codes "show") [] show_entries shows shows_are in
    subst IsBoard (same_Ok (record { ram = ram; steps = steps; modules = modules; shares = []; devices = devices; shows = shows }) b h10)
    (record {
      least_ram = in_ram.least;
      most_ram = in_ram.most;
      ram_aligned = in_ram.divided;
      steps = in_steps.most;
      some_module = omega (arith, of_modules, some.least);
      modules = omega (arith, of_modules, some.most);
      devices = omega (arith, of_devices, few_devices.most);
      scripts = entries_keep (λ ds. script_words ds ≤ 65536) device_of (codes "device") scripts_kept [] device_entries devices (omega arith) devices_are;
      shows = omega (arith, of_shows, few_shows.most);
      shown = shows_kept modules show_entries shows shows_are;
    })))))))))))
