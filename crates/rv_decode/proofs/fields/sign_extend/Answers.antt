-- The shifts of the code are sign extension.
use Rattle.std.proofs.Common.{rules}
use Rattle.rv_decode.proofs.Immediates.{extended}
use Rattle.rv_decode.proofs.fields.sign_extend.Goals as goal

pub returns : goal.returns
returns c =
    extended c.args.n c.args.width c.cast_signed.result c.requires.positive c.requires.narrow c.requires.fits (search rules) c.cast_signed.ensures
