use Rattle.std.proofs.Common.{◌≡◌, ◌<◌, length, get_or, arith, ◌∙◌}
use Rattle.std.specs.Char.{digit_value}
use Rattle.event_log.proofs.Digits.{digit-below, unwrapped, next-digit}
use Rattle.event_log.proofs.reading.number.Goals as goal

pub loop-digit-preserved : goal.loop-digit-preserved
loop-digit-preserved c = λ all word.
    let ds = c.args.digits.now in
    let i = c.loop-digit.digit-index in
    let below : i < length ds = omega arith in
    let digit : c.unwrap_or-value.result ≡ digit_value (get_or ds i 0) =
    c.unwrap_or-value.ensures
    ∙ unwrapped c.to_digit.result _ _ c.to_digit.ensures.value (digit-below c.args.radix ds i all below) in
    next-digit c.args.radix ds i c.loop-digit.n c.unwrap_or-value.result (omega arith) all word below (c.loop-digit.invariant all word) digit
