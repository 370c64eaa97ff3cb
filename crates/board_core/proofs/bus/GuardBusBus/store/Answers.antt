use Rattle.std.proofs.Common.{◌<◌, sym, arith}
use Rattle.board_core.proofs.bus.GuardBusBus.store.Goals as goal

pub returns-then-may-clause-bytes : goal.returns-then-may-clause-bytes
returns-then-may-clause-bytes c =
    let some : 0 < c.args.n = grind (arith, c.requires) in
    let self = c.args.self.now in
    rw c.put.ensures.after
    (c.a_store_puts_its_bytes.ensures self.guard.now self.module c.args.a c.args.n c.args.value c.may.ensures.sound some (sym c.if-may.ensures.answer))
