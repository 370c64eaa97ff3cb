use Rattle.std.proofs.Common.{◌≡◌, [], nat_lt, ap, sym, ◌∙◌}
use Rattle.std.proofs.lemmas.Bool.{cond-true, lt-ltb}
use Rattle.tx_types.specs.declared.waits.End.TheVariants.{TimedOut}
use Rattle.soft_timers.specs.Id.{id_of}
use Rattle.kernel_state.specs.Change.{Change, quiet}
use Rattle.kernel_state.specs.Ticks.{expired}
use Rattle.kernel_state.specs.Waiting.{wait_ended}
use Rattle.kernel_state.proofs.Ends.{waiter_below}
use Rattle.kernel_state.proofs.TickChanges.{armed_waits}
use Rattle.kernel_state.proofs.kernel.Kernel.expire.Goals as goal

pub returns-in-Timeout-clause-kernel : goal.returns-in-Timeout-clause-kernel
returns-in-Timeout-clause-kernel c =
    let k = c.args.self.now in
    let g = c.args.g.now in
    let id = c.args.id in
    let below = waiter_below [] k id c.requires.sound (armed_waits k id c.requires.sound c.requires.armed) in
    let is : expired k g id ≡ wait_ended k g id TimedOut [] = cond-true (nat_lt id 256) (wait_ended k g id TimedOut []) (quiet k g) (lt-ltb id 256 below) in
    let own : c.in-Timeout.t ≡ id = ap id_of (sym c.in-Timeout.is) ∙ c.whose.ensures in
    c.end_wait.ensures.kernel
    ∙ (ap (λ n. (wait_ended k g n TimedOut c.empty.result).kernel) own
    ∙ (ap (λ value. (wait_ended k g id TimedOut value).kernel) c.empty.ensures ∙ ap (λ (x : Change). x.kernel) (sym is)))
