-- The log in the text of a run: what stands before the report.
use Rattle.std.specs.Prelude.{ℕ, if◌then◌else◌, List, [], ◌∷◌, Option, Some, None, option_and_then}
use Rattle.std.specs.Prelude.{unwrap_or, codes}
use Rattle.std.specs.List.{concat}
use Rattle.std.specs.Option.{option_map}
use Rattle.std.specs.Result.{result_ok}
use Rattle.std.specs.Str.{bytes_eq}
use Rattle.event_log.specs.LogIn.{lines_of, log_in}
use Rattle.event_log.specs.declared.entry.Entry.{Entry}

-- the lines before the first line `report`, where there is such a line
abbrev pub before_report : List (List ℕ) → Option (List (List ℕ))
before_report [] = None
before_report (line ∷ lines) =
    if bytes_eq line (codes "report\n") then Some []
    else option_map (λ before. line ∷ before) (before_report lines)

-- the history that those lines of a text say; the empty one where they say none, or there is no
-- report
unfoldable pub logged : (devices : ℕ) → List ℕ → List Entry
logged devices text =
    unwrap_or (option_and_then (λ lines. result_ok (log_in devices (concat lines)))
    (before_report (lines_of text))) []
