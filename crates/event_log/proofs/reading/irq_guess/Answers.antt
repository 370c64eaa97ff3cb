use Rattle.std.proofs.Common.{◌≡◌, arith}
use Rattle.std.specs.Fmt.{decimal}
use Rattle.tx_types.specs.Line.{hex}
use Rattle.event_log.proofs.Digits.{irq-numbers, read-back, digits-decimal, value-decimal, digits-hex, value-hex}
use Rattle.event_log.proofs.reading.irq_guess.Goals as goal

pub returns-then-d-lt16 : goal.returns-then-d-lt16
returns-then-d-lt16 c = λ d w small word is.
    let parts = irq-numbers c.args.numbers.now d w is in
    let device : c.number-d.result ≡ d
    =
    read-back 10 c.number-d.result d _ (decimal d) parts.0 c.number-d.ensures (digits-decimal d (omega arith))
    (value-decimal d (omega arith)) (omega arith) in
    let same : c.number-w.result ≡ w
    = read-back 16 c.number-w.result w _ (hex w) parts.1 c.number-w.ensures (digits-hex w) (value-hex w word) word in
    cc

pub returns-else-d-lt16 : goal.returns-else-d-lt16
returns-else-d-lt16 c = λ d w small word is.
    let parts = irq-numbers c.args.numbers.now d w is in
    let device : c.number-d.result ≡ d
    =
    read-back 10 c.number-d.result d _ (decimal d) parts.0 c.number-d.ensures (digits-decimal d (omega arith))
    (value-decimal d (omega arith)) (omega arith) in
    absurd (omega (arith, device))
