use Rattle.std.proofs.Common.{◌∙◌, ◌+◌, length, arith}
use Rattle.spot_io.proofs.Moves.{goes_on, rest_fits}
use Rattle.spot_io.proofs.transfers.write_all.Goals as goal

pub write-requires : goal.write-requires
write-requires g c =
    let fewer = g.met.K.Sink.fewer in
    let bytes = c.args.bytes.now in
    let rest = c.loop-rest.rest.now in
    fewer c.loop-rest.sink (length rest) (length rest + 0) (omega arith)
    (c.loop-rest.invariant.room 0 (fewer c.args.sink.now (length bytes + 0) (length bytes) (omega arith) c.requires))

pub loop-rest-preserved : goal.loop-rest-preserved
loop-rest-preserved g c = record {
  done = goes_on _ _ _ _ _ _ c.loop-rest.invariant.done c.in_ok-count.ensures.bytes;
  room = λ more h. c.in_ok-count.ensures.room _ (g.met.K.Sink.fewer c.loop-rest.sink _ _ (rest_fits c.loop-rest.rest.now c.in_ok-count.count more c.in_ok-count.ensures.bound) (c.loop-rest.invariant.room more h));
  same = c.in_ok-count.ensures.cause.same ∙ c.loop-rest.invariant.same;
}
