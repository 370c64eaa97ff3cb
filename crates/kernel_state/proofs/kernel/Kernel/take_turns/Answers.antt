use Rattle.std.proofs.Common.{◌≡◌, ◌+◌, ◌<◌, ◌∷◌, drop, length, List, slice_index_or, ap, sym, ◌∙◌, arith}
use Rattle.std.proofs.lemmas.List.{drop_more}
use Rattle.soft_timers.specs.declared.due.Armed.{Armed}
use Rattle.kernel_state.specs.Change.{Change}
use Rattle.kernel_state.specs.Ticks.{turn, turns}
use Rattle.kernel_state.specs.declared.kernel.Kernel.{Kernel}
use Rattle.kernel_state.proofs.TickChanges.{turn_due}
use Rattle.kernel_state.proofs.kernel.Kernel.take_turns.Goals as goal

pub loop-i-preserved : goal.loop-i-preserved
loop-i-preserved c =
    let k = c.loop-i.self in
    let g = c.loop-i.g in
    let i = c.loop-i.i in
    let none : Armed = record { id = 0; expiry = 0; arming = 0 } in
    let d = slice_index_or k.due i none in
    let inside : i < length k.due = omega (arith, c.len-i-end.ensures, ap length c.loop-i.invariant.due) in
    let first : drop i k.due ≡ d ∷ drop (i + 1) k.due = drop_more k.due i none inside in
    let after = c.take_turn.new.self in
    let kernel : after ≡ (turn k g d).kernel = c.take_turn.ensures.kernel none in
    let memory : c.take_turn.new.g ≡ (turn k g d).memory = c.take_turn.ensures.memory none in
    let due : after.due ≡ k.due = ap (λ (j : Kernel). j.due) kernel ∙ turn_due k g d in
    let rest = drop (i + 1) k.due in
    let left : turns (drop (i + 1) after.due) after c.take_turn.new.g ≡ turns rest (turn k g d).kernel (turn k g d).memory =
    ap (λ (ds : List Armed). turns (drop (i + 1) ds) after c.take_turn.new.g) due
    ∙ (ap (λ j. turns rest j c.take_turn.new.g) kernel ∙ ap (turns rest (turn k g d).kernel) memory) in
    record {
      kernel = ap (λ (x : Change). x.kernel) left ∙ (ap (λ (ds : List Armed). (turns ds k g).kernel) (sym first) ∙ c.loop-i.invariant.kernel);
      memory = ap (λ (x : Change). x.memory) left ∙ (ap (λ (ds : List Armed). (turns ds k g).memory) (sym first) ∙ c.loop-i.invariant.memory);
      due = due ∙ c.loop-i.invariant.due;
      sound = c.take_turn.ensures.sound;
    }
