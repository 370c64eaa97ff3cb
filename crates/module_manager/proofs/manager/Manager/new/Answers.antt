use Rattle.std.proofs.Common.{◌≡◌, ◌<◌, ◌≤◌, List, length, All, map, take, subst, sym, ap, ◌∙◌, arith}
use Rattle.std.proofs.lemmas.List.{get_or-map, length-map, take_all}
use Rattle.module_loader.specs.declared.placement.Placed.{Placed}
use Rattle.module_preamble.specs.declared.words.Preamble.{Preamble}
use Rattle.module_manager.specs.Modules.{AreModules, IsPlaced, loaded}
use Rattle.module_manager.specs.declared.modules.Module.{Module}
use Rattle.module_manager.proofs.manager.Manager.new.Goals as goal

loaded-are-modules : (rows : List (Preamble × Placed)) → length rows ≤ 16 → All (λ r. IsPlaced r.0 r.1) rows → AreModules (map loaded rows)
loaded-are-modules rows at_most placed = record {
  at_most = omega (arith, length-map rows loaded);
  placed = λ k d below.
      let inside : k < length rows = omega (arith, length-map rows loaded) in
      let row : Preamble × Placed = (d.preamble, d.placed) in
      subst (λ (m : Module). IsPlaced m.preamble m.placed) (sym (get_or-map loaded rows k row d inside)) (placed k row inside);
}

pub invariant_of-result : goal.invariant_of-result
invariant_of-result c =
    let rows = c.args.rows.now in
    let whole : take c.loop-preamble.preamble-index rows ≡ rows = take_all c.loop-preamble.preamble-index rows (omega arith) in
    subst AreModules (sym (c.loop-preamble.invariant.0 ∙ ap (map loaded) whole)) (loaded-are-modules rows c.requires.at_most c.requires.placed)
