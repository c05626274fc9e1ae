use Rattle.std.proofs.Common.{◌≡◌, ℕ, ◌+◌, List, ◌++◌, length}
use Rattle.std.specs.Io.KnownBytes.{Appends}
use Rattle.spot_io.proofs.transfers.write_all.Given as goal

-- a front was appended, and the sink can take the rest
abbrev pub invariant-loop-rest : goal.invariant-loop-rest
invariant-loop-rest g l =
    let sink = g.K.Sink in
    record {
      done : (front : List ℕ) × (front ++ l.rest ≡ l.bytes) × Appends (sink.written l.fn.sink) (sink.written l.sink) front;
      room : (more : ℕ) → sink.takes l.fn.sink (length l.bytes + more) → sink.takes l.sink (length l.rest + more);
      same : sink.faults l.sink ≡ sink.faults l.fn.sink;
    }

abbrev pub decreases-loop-rest : goal.decreases-loop-rest
decreases-loop-rest g l = length l.rest
