use Rattle.std.proofs.Common.{◌≡◌, ◌+◌, [], None, drop, get_or, map, ap, sym, ◌∙◌, arith}
use Rattle.kernel_state.specs.Kernel.{with_spot}
use Rattle.kernel_state.specs.declared.kernel.Kernel.{Kernel}
use Rattle.kernel_state.specs.declared.spot.Spot.{Spot}
use Rattle.module_loader.specs.declared.placement.Placed.{Placed}
use Rattle.module_manager.specs.Modules.{loaded}
use Rattle.module_preamble.specs.Words.{words_of}
use Rattle.module_preamble.specs.declared.words.Preamble.{Preamble}
use Rattle.board_core.specs.Boot.{with_spots}
use Rattle.board_core.proofs.LoadingSteps.{spots_more}
use Rattle.board_core.proofs.loading.kernel_with.Goals as goal

abbrev blank : Preamble × Placed
blank = (words_of [], record { code_base = 0; data_base = 0 })

pub loop-i-preserved : goal.loop-i-preserved
loop-i-preserved c =
    let rows = c.args.rows.now in
    let i = c.loop-i.i in
    let k = c.loop-i.kernel in
    let row = get_or rows i blank in
    let spot : Spot = record { shell = row.1.code_base + row.0.shell; data_base = row.1.data_base; callback = None } in
    let placed = c.requires.placed i blank c.loop-i-test.true in
    let base = placed.lies.code_base in
    let shell = placed.start.shell_aligned in
    let after : c.set_spot.new.self ≡ with_spot k i spot = c.set_spot.ensures.after ∙ ap (λ m. with_spot k m spot) c.new-in-loop-i.ensures in
    record {
      due = ap (with_spots (i + 1) (map loaded (drop (i + 1) rows))) after ∙ (sym (spots_more rows i blank k c.loop-i-test.true) ∙ c.loop-i.invariant.due);
      sound = c.set_spot.ensures.sound c.loop-i.invariant.sound (record { shell = omega arith; callback = tt });
      levels = ap (λ (q : Kernel). q.ready.levels) after ∙ c.loop-i.invariant.levels;
    }
