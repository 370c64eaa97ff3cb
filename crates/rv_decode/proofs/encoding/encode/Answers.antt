-- What the word that `word` gives decodes to, from the laws of the rows.
use Rattle.rv_decode.proofs.Rows.{encodes, encodes_only}
use Rattle.rv_decode.proofs.encoding.encode.Goals as goal

pub returns-clause-decodes : goal.returns-clause-decodes
returns-clause-decodes c = encodes c.args.i c.word.result c.requires c.word.ensures

pub returns-clause-only : goal.returns-clause-only
returns-clause-only c = λ w. encodes_only c.args.i c.word.result w c.word.ensures
