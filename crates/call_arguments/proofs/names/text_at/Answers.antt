-- At each byte the text is refused, ends or goes on; the last byte that is looked at is number 31.
use Rattle.std.proofs.Common.{◌≡◌, ◌≢◌, [], ◌∷◌, arith, length-append}
use Rattle.std.proofs.lemmas.List.Elements.{All-push}
use Rattle.call_arguments.proofs.Reading.{ends_here, goes_on_here, is_full, refused_here}
use Rattle.call_arguments.proofs.names.text_at.Goals as goal

pub returns-in-None-clause-value : goal.returns-in-None-clause-value
returns-in-None-clause-value c =
    refused_here _ _ _ c.loop-i.i 32 c.loop-i.name _ (omega arith) c.in-None.ensures c.loop-i.invariant.rest

pub returns-in-Some-eq0-clause-value : goal.returns-in-Some-eq0-clause-value
returns-in-Some-eq0-clause-value c =
    ends_here _ _ _ c.loop-i.i 32 _ c.loop-i.name _ (omega arith) c.in-Some-eq0.ensures c.in-Some-eq0.field-0-test c.loop-i.invariant.rest

pub loop-i-preserved : goal.loop-i-preserved
loop-i-preserved c = rw c.push.ensures record {
  read = omega (arith, length-append c.loop-i.name (c.in-Some.b ∷ []), c.loop-i.invariant.read);
  whole = All-push (λ b. b ≢ 0) c.loop-i.name c.in-Some.b c.loop-i.invariant.whole c.in-Some.b-test.1;
  rest = goes_on_here _ _ _ c.loop-i.i 32 _ c.loop-i.name _ (omega arith) c.in-Some.ensures c.in-Some.b-test.1 c.loop-i.invariant.rest;
}

pub returns-in-None-byte_at-clause-value : goal.returns-in-None-byte_at-clause-value
returns-in-None-byte_at-clause-value c =
    let last : c.loop-i.i ≡ 31 = omega arith in
    refused_here _ _ _ 31 32 c.loop-i.name _ (omega arith) c.in-None-byte_at.ensures (rw last at c.loop-i.invariant.rest)

pub returns-in-Some-eq0-byte_at-clause-value : goal.returns-in-Some-eq0-byte_at-clause-value
returns-in-Some-eq0-byte_at-clause-value c =
    let last : c.loop-i.i ≡ 31 = omega arith in
    ends_here _ _ _ 31 32 _ c.loop-i.name _ (omega arith) c.in-Some-eq0-byte_at.ensures c.in-Some-eq0-byte_at.field-0-test (rw last at c.loop-i.invariant.rest)

pub returns-in-Some-byte_at-clause-value : goal.returns-in-Some-byte_at-clause-value
returns-in-Some-byte_at-clause-value c =
    let last : c.loop-i.i ≡ 31 = omega arith in
    is_full _ _ _ 31 _ c.loop-i.name _ c.in-Some-byte_at.ensures c.in-Some-byte_at.field-0-test.1 (rw last at c.loop-i.invariant.rest)
