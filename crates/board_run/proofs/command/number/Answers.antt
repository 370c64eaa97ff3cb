-- Each return is what the parsed number makes of the word.
use Rattle.std.proofs.Common.{arith}
use Rattle.std.proofs.lemmas.Bool.Decides.{nat_tests}
use Rattle.board_run.proofs.Numbers.{number_parsed}
use Rattle.board_run.proofs.command.number.Goals as goal

pub returns-in_err-n : goal.returns-in_err-n
returns-in_err-n c =
    let is = number_parsed c.args.word.now c.args.most c.parse.result (omega arith) c.parse.ensures.value.0 in
    grind (arith, nat_tests)

pub returns-then-eq : goal.returns-then-eq
returns-then-eq c =
    let is = number_parsed c.args.word.now c.args.most c.parse.result (omega arith) c.parse.ensures.value.0 in
    grind (arith, nat_tests)

pub returns-else-n-most : goal.returns-else-n-most
returns-else-n-most c =
    let is = number_parsed c.args.word.now c.args.most c.parse.result (omega arith) c.parse.ensures.value.0 in
    grind (arith, nat_tests)
