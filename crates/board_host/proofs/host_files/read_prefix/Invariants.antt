use Rattle.std.proofs.Common.{◌-◌, ◌≤◌, vec_len}
use Rattle.std.specs.Io.KnownBytes.{Consumes}
use Rattle.board_host.proofs.host_files.read_prefix.Given as goal

-- what was read is what the reader gave
abbrev pub invariant-loop-chunk : goal.invariant-loop-chunk
invariant-loop-chunk g l =
    (vec_len l.bytes ≤ l.most) × Consumes (g.F.Read.remaining l.initial.reader) (g.F.Read.remaining l.reader) l.bytes.items

-- what is still to be read
abbrev pub decreases-loop-chunk : goal.decreases-loop-chunk
decreases-loop-chunk g l = l.most - vec_len l.bytes
