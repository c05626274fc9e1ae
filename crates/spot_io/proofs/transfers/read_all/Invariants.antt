use Rattle.std.proofs.Common.{◌≡◌, ◌-◌, ◌≤◌, vec_len}
use Rattle.std.specs.Io.KnownBytes.{Consumes}
use Rattle.spot_io.proofs.transfers.read_all.Given as goal

-- what was read is what the source lost
abbrev pub invariant-loop-piece : goal.invariant-loop-piece
invariant-loop-piece g l =
    let source = g.S.Source in
    record {
      moved : Consumes (source.left l.fn.source) (source.left l.source) l.bytes.items;
      short : vec_len l.bytes ≤ 67108865;
      same : source.faults l.source ≡ source.faults l.fn.source;
    }

abbrev pub decreases-loop-piece : goal.decreases-loop-piece
decreases-loop-piece g l = 67108865 - vec_len l.bytes
