use Rattle.std.proofs.Common.{◌≡◌, ◌+◌, ◌==◌, Some, None, length, ◌∙◌, ap}
use Rattle.std.specs.List.{position}
use Rattle.event_log.proofs.Digits.{newline-at}
use Rattle.event_log.proofs.reading.line_len.Goals as goal

pub returns-in-Some-clause-line : goal.returns-in-Some-clause-line
returns-in-Some-clause-line c = λ fields more free is.
    let place : position (λ b. b == 10) c.args.text.now ≡ Some (length fields)
    = ap (position (λ b. b == 10)) is ∙ newline-at fields more free in
    let both : Some c.in-Some.i ≡ Some (length fields) = c.in-Some.ensures ∙ place in
    let same : c.in-Some.i ≡ length fields = cc in
    ap (λ n. n + 1) same

pub returns-in-None-clause-line : goal.returns-in-None-clause-line
returns-in-None-clause-line c = λ fields more free is.
    let place : position (λ b. b == 10) c.args.text.now ≡ Some (length fields)
    = ap (position (λ b. b == 10)) is ∙ newline-at fields more free in
    let both : None ≡ Some (length fields) = c.in-None.ensures ∙ place in
    absurd cc
