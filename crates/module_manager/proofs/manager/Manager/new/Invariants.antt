use Rattle.std.proofs.Common.{◌≡◌, ◌≤◌, length, map, take}
use Rattle.std.specs.Vec.{vec_capacity}
use Rattle.module_manager.specs.Modules.{loaded}
use Rattle.module_manager.proofs.manager.Manager.new.Given as goal

abbrev pub invariant-loop-preamble : goal.invariant-loop-preamble
invariant-loop-preamble l = (l.modules.items ≡ map loaded (take l.preamble-index l.rows)) × (length l.rows ≤ vec_capacity l.modules)
