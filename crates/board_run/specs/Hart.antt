-- The run of one image alone, and its text.
use Rattle.std.specs.Prelude.{ℕ, List, ◌++◌, drop, codes, decimal}
use Rattle.board_report.specs.Parts.{newline, words_text}
use Rattle.tx_types.specs.Line.{hex}
use Rattle.rv_core.specs.Cause.{cause_number}
use Rattle.rv_core.specs.Hart.{HartState}
use Rattle.rv_core.specs.declared.execute.Out.{Out}
use Rattle.rv_core.specs.declared.execute.Out.TheVariants.{Done, Call as OutCall, Fault as OutFault}
use Rattle.region_guard.specs.Memory.{Memory}
use Rattle.board_core.specs.Burst.{burst, out_at}
use Rattle.board_run.specs.declared.hart.End.{End}
use Rattle.board_run.specs.declared.hart.End.TheVariants.{Count, Call, Fault}
use Rattle.board_run.specs.declared.hart.Ran.{Ran}

-- how a run ended, by how its burst did
abbrev pub end_of : Out → End
end_of Done = Count
end_of OutCall = Call
end_of (OutFault cause) = Fault cause

-- the run of code of module 0 in guarded memory: a call isn't counted, and it and a fault leave the
-- registers as they were
unfoldable pub memory_ran : ℕ → Memory → HartState → Ran
memory_ran most memory h =
    let b = burst 0 most h memory in
    record { steps = b.done; end = end_of (out_at b.end); hart = b.hart }

-- the text of an end
abbrev pub end_text : End → List ℕ
end_text Count = codes "count"
end_text Call = codes "call"
end_text (Fault cause) = codes "fault " ++ decimal (cause_number cause)

unfoldable pub steps_line : Ran → List ℕ
steps_line r = codes "hart steps " ++ decimal r.steps ++ codes " end " ++ end_text r.end ++ newline

unfoldable pub pc_line : Ran → List ℕ
pc_line r = codes "pc " ++ hex r.hart.pc ++ newline

-- x1 to x31
unfoldable pub regs_line : Ran → List ℕ
regs_line r = codes "regs" ++ words_text (drop 1 r.hart.x) ++ newline

unfoldable pub hart_text : Ran → List ℕ
hart_text r = steps_line r ++ pc_line r ++ regs_line r
