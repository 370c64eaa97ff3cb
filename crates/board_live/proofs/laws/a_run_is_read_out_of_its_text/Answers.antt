use Rattle.std.proofs.Common.{◌≡◌, ℕ, List, ◌++◌, length, codes, drop, refl, ap, ◌∙◌}
use Rattle.board_core.specs.Report.{report_of}
use Rattle.board_report.specs.Report.{report_lines, first_line}
use Rattle.board_run.specs.Replay.{report_text}
use Rattle.board_values.specs.declared.report.Report.{Report}
use Rattle.board_live.specs.Finish.{reached}
use Rattle.event_log.specs.Logged.{logged}
use Rattle.event_log.specs.Text.{text_of}
use Rattle.board_live.proofs.laws.a_run_is_read_out_of_its_text.Goals as goal

-- a report's text begins with the line `report`
after_first : Report → List ℕ
after_first r = drop 7 (report_text r)

begins : (r : Report) → report_text r ≡ codes "report\n" ++ after_first r
unfolding report_lines first_line after_first
begins r = refl

pub returns : goal.returns
returns c o h board run =
    let more = after_first (report_of (reached o h)) in
    ap (λ text. logged (length o.board.devices) (text_of h ++ text)) (begins (report_of (reached o h)))
    ∙ c.a_log_is_read_out_of_a_run.ensures (length o.board.devices) h more board.devices run.history
