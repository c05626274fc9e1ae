use Rattle.std.proofs.Common.{ℕ, ◌++◌, take, length-append, length-take, arith}
use Rattle.spot_io.proofs.Moves.{consumes_more, reads_memory, reads_too_long}
use Rattle.spot_io.proofs.transfers.read_all.Goals as goal

pub returns-then-is_err-clause-told : goal.returns-then-is_err-clause-told
returns-then-is_err-clause-told g c =
    reads_memory _ _ (c.loop-piece.bytes.items ++ take c.in-Ok.count c.read.new.into)
    (consumes_more _ _ _ _ _ c.loop-piece.invariant.moved c.in-Ok.ensures.bytes.0)
    (omega (arith, length-append {A = ℕ}, length-take {A = ℕ}, c.loop-piece.bytes.ok.0))

pub returns-clause-told : goal.returns-clause-told
returns-clause-told g c = reads_too_long _ _ _ c.loop-piece.invariant.moved (omega (arith, c.loop-piece.bytes.ok.0))
