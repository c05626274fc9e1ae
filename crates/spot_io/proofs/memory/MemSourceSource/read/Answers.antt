use Rattle.std.proofs.Common.{ℕ, List, ◌∙◌, ◌+◌, ◌-◌, ap, take, drop, length-append, length-take, arith}
use Rattle.std.proofs.lemmas.List.{drop_all}
use Rattle.spot_io.proofs.Moves.{reads_front}
use Rattle.spot_io.proofs.memory.MemSourceSource.read.Goals as goal

-- the first bytes that are left come, and none only where none are left
pub returns-clause-bytes : goal.returns-clause-bytes
returns-clause-bytes c = (
  reads_front c.args.self.now.bytes.items c.copy_from_slice.new.self (drop c.min-count.result c.args.into.now) c.args.self.now.at (c.args.self.now.at + c.min-count.result - c.args.self.now.at) c.min-count.result (omega arith) (omega (arith, length-take c.min-count.result c.args.into.now))
      (c.copy_from_slice.ensures.after ∙ ap (λ (z : List ℕ). take (c.args.self.now.at + c.min-count.result - c.args.self.now.at) (drop c.args.self.now.at z)) c.deref-2.ensures.value),
  λ none room. drop_all _ c.args.self.now.bytes.items (omega (arith, c.args.self.now.bytes.ok.0, length-append c.copy_from_slice.new.self)),
)
