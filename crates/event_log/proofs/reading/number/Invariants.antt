use Rattle.std.proofs.Common.{◌≡◌, ◌<◌, ◌^◌, take}
use Rattle.std.specs.Str.Parse.{AllDigits, digits_value}
use Rattle.event_log.proofs.reading.number.Given as goal

abbrev pub invariant-loop-digit : goal.invariant-loop-digit
invariant-loop-digit l =
    AllDigits l.radix l.digits → digits_value l.radix l.digits < 2 ^ 32 → l.n ≡ digits_value l.radix (take l.digit-index l.digits)
