-- An immediate with twelve zeros leaves the low twelve bits to the opcode and rd.
use Rattle.std.proofs.Common.{◌≡◌, ◌*◌, ◌^◌, ◌%◌, ap, ◌∙◌, bit_or}
use Rattle.rv_decode.specs.Encode.{field}
use Rattle.rv_decode.proofs.Formats.{or-u_word}
use Rattle.rv_decode.proofs.Immediates.{cast-whole, twelve_zeros}
use Rattle.rv_decode.proofs.encoding.encode_u.Goals as goal

pub returns : goal.returns
returns c =
    let z = c.args.imm in
    let whole : c.cast_unsigned.result ≡ field 32 z = cast-whole c.cast_unsigned.result z c.ranges.imm c.cast_unsigned.type_inv c.cast_unsigned.ensures in
    ap (λ d. bit_or (bit_or c.args.opcode (d * 128 % 2 ^ 32)) c.cast_unsigned.result) c.from.ensures
    ∙ ap (bit_or (bit_or c.args.opcode (c.args.rd * 128 % 2 ^ 32))) whole
    ∙ or-u_word c.args.opcode c.args.rd (field 32 z) c.requires.code c.requires.fits.0 (twelve_zeros z c.requires.fits.1.divided)
