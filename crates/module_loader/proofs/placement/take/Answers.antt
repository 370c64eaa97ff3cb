use Rattle.std.proofs.Common.{◌≡◌, ◌+◌, ◌++◌, take, drop, Some, None, position, arith}
use Rattle.module_loader.specs.Placement.{holds, piece}
use Rattle.module_loader.proofs.Apart.{addressable_stays}
use Rattle.module_loader.proofs.Taken.{taken_at, taken_fits, not_taken}
use Rattle.module_loader.proofs.placement.take.Goals as goal

pub returns-in_default-clause-taken : goal.returns-in_default-clause-taken
returns-in_default-clause-taken c =
    let none : position (holds c.args.size) c.args.free.now.items ≡ None = cc in not_taken c.args.size c.args.free.now.items none

pub overflow_cast-base : goal.overflow_cast-base
overflow_cast-base c =
    let found : position (holds c.args.size) c.args.free.now.items ≡ Some c.in-Some.i = cc in
    let fits = taken_fits c.args.size c.args.free.now.items c.in-Some.i c.remove-r.result c.requires found c.remove-r.ensures.value in
    omega arith

pub overflow_add-base : goal.overflow_add-base
overflow_add-base c =
    let found : position (holds c.args.size) c.args.free.now.items ≡ Some c.in-Some.i = cc in
    let fits = taken_fits c.args.size c.args.free.now.items c.in-Some.i c.remove-r.result c.requires found c.remove-r.ensures.value in
    omega arith

pub returns-clause-taken : goal.returns-clause-taken
returns-clause-taken c =
    let found : position (holds c.args.size) c.args.free.now.items ≡ Some c.in-Some.i = cc in
    let removed = c.remove-r.ensures.items in
    let base = c.place-base.result in
    let r = c.remove-r.result in
    let first : c.put_piece.new.free.items ≡ take c.in-Some.i c.remove-r.new.self.items
    ++ (piece (base + c.args.size) (r.base + r.size) ++ drop c.in-Some.i c.remove-r.new.self.items) = c.in_ok-put_piece.ensures {u = tt} in
    let second : c.put_piece-2.new.free.items ≡ take c.in-Some.i c.put_piece.new.free.items
    ++ (piece r.base base ++ drop c.in-Some.i c.put_piece.new.free.items) = c.in_ok-put_piece-2.ensures {u = tt} in
    taken_at c.args.size c.args.free.now.items c.in-Some.i r base c.put_piece.new.free.items c.put_piece-2.new.free.items found c.remove-r.ensures.value
    c.place-base.ensures.value (rw (← removed) first) second

pub returns-clause-addressable : goal.returns-clause-addressable
returns-clause-addressable c =
    let same = returns-clause-taken c in
    addressable_stays c.args.size c.args.free.now.items (record { base = c.place-base.result; free = c.put_piece-2.new.free.items }) same c.requires
