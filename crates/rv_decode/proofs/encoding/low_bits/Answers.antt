-- The bits of an i32 modulo 2^width.
use Rattle.rv_decode.proofs.Immediates.{low_bits-cast}
use Rattle.rv_decode.proofs.encoding.low_bits.Goals as goal

pub returns : goal.returns
returns c =
    low_bits-cast c.cast_unsigned.result c.args.width c.args.imm c.requires c.ranges.imm c.cast_unsigned.ensures
