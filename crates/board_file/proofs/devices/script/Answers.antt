use Rattle.std.proofs.Common.{◌≡◌, ◌+◌, ◌*◌, length, sym, ◌∙◌, ap, arith}
use Rattle.std.proofs.lemmas.Bool.{leb-true}
use Rattle.board_file.proofs.Words.{length_repeated}
use Rattle.board_file.proofs.devices.script.Goals as goal

pub returns-in_ok-repeated-clause-fits : goal.returns-in_ok-repeated-clause-fits
returns-in_ok-repeated-clause-fits c =
    let most = leb-true (c.args.before + c.args.n * length c.args.words.now) 65536 (sym c.fits.ensures ∙ c.if-fits.true) in
    let items : length c.new.result ≡ c.args.n * length c.args.words.now =
    ap length (c.new.ensures ∙ c.in_ok-repeated.ensures) ∙ length_repeated c.args.n c.args.words.now in
    omega (arith, most, items)
