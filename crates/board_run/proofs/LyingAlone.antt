-- An image that lies alone finds room at the start of RAM.
use Rattle.std.proofs.Common.{◌≡◌, ℕ, ◌+◌, ◌≤◌, nat_lt, List, [], ◌∷◌, ◌++◌, Option, Some, None, Ok, ap, ◌∙◌, refl, arith}
use Rattle.std.proofs.lemmas.Bool.{cond-true, cond_both, le-leb, lt-ltb}
use Rattle.module_loader.specs.Opening.{LiesAt}
use Rattle.module_loader.specs.Placement.{Taken, and_others, holds, in_front, left, place_in, placement, span, taken, with_code, with_data}
use Rattle.module_loader.specs.Want.{HasSizes, callback_bytes, rounded_up, want_of}
use Rattle.module_loader.specs.declared.placement.Range.{Range}
use Rattle.module_preamble.specs.Words.{has_callback}
use Rattle.module_preamble.specs.declared.words.Preamble.{Preamble}
use Rattle.region_guard.specs.Memory.{ram_base}
use Rattle.board_core.specs.Boot.{free_ram}
use Rattle.board_run.specs.Alone.{alone_at}
use Rattle.board_run.specs.Placing.{places_in}
use Rattle.board_run.specs.Refused.{refused_room}

-- the one free range gives its first bytes
code_taken : (size : ℕ) → size ≤ 1048576
    → taken size (free_ram 4194304) ≡ Some (record { base = ram_base; free = span (ram_base + size) (ram_base + 4194304) ∷ [] })
code_taken size small =
    let r : Range = record { base = ram_base; size = 4194304 } in
    cond-true (holds size r) (Some (record { base = place_in r; free = left size r ++ [] })) (in_front r None)
    (le-leb (ram_base + size) (ram_base + 4194304) (omega arith))
    ∙ ap (λ (rest : List Range). Some (record { base = ram_base; free = rest ++ [] }))
    (cond-true (nat_lt (ram_base + size) (ram_base + 4194304)) (span (ram_base + size) (ram_base + 4194304) ∷ []) []
    (lt-ltb (ram_base + size) (ram_base + 4194304) (omega arith)))

-- what stays free gives the data
data_taken : (size from to : ℕ) → from ≤ to → rounded_up 32 from + size ≤ to
    → taken size (span from to ∷ []) ≡ Some (record { base = rounded_up 32 from; free = left size (span from to) ++ [] })
data_taken size from to order fits =
    let r : Range = span from to in
    cond-true (holds size r) (Some (record { base = place_in r; free = left size r ++ [] })) (in_front r None)
    (le-leb (place_in r + size) (r.base + r.size) (omega arith))

callback_small : (p : Preamble) → HasSizes p → callback_bytes p ≤ 65536
callback_small p sizes =
    cond_both (has_callback p) (rounded_up 16 p.callback_stack) 0 (λ n. n ≤ 65536) (λ has. let small = sizes.callback_stack has in omega arith)
    (λ none. omega arith)

pub places_alone : (p : Preamble) → HasSizes p → p.code_size ≤ 1048576 → places_in 4194304 (want_of p ∷ []) ≡ Ok (alone_at p ∷ [])
places_alone p sizes small =
    let callback = callback_small p sizes in
    let code = code_taken p.code_size small in
    let behind = data_taken (want_of p).data_bytes (ram_base + p.code_size) (ram_base + 4194304) (omega arith) (omega arith) in
    ap (λ (o : Option Taken). refused_room (and_others (λ rest. placement rest []) (with_code (want_of p) o))) code
    ∙ ap (λ (o : Option Taken). refused_room (and_others (λ rest. placement rest []) (with_data ram_base o))) behind

pub lies_alone : (p : Preamble) → HasSizes p → p.code_size ≤ 1048576 → LiesAt p (alone_at p)
lies_alone p sizes small =
    let callback = callback_small p sizes in
    record { code_base = refl; data_base = omega arith; code_end = omega arith; data_end = omega arith }
