use Rattle.std.proofs.Common.{◌++◌, codes}
use Rattle.spot_terms.specs.Samples.{exact}
use Rattle.sample_roads.specs.Written.{tokens_of}
use Rattle.sample_roads.proofs.Appended.{before}
use Rattle.sample_roads.proofs.things.put_motion.Goals as goal

pub returns-clause-tokens : goal.returns-clause-tokens
returns-clause-tokens c = (before c.put_exact-3.result (c.args.out.now.tokens) (c.put_exact.new.out.tokens) (c.put_exact-3.new.out.tokens) (tokens_of (exact (codes "orientation") (codes "0"))) (tokens_of (exact (codes "velocity") c.args.speed.now) ++ (tokens_of (exact (codes "time") (codes "0")))) c.in_ok-put_exact.ensures.tokens (before c.put_exact-3.result (c.put_exact.new.out.tokens) (c.put_exact-2.new.out.tokens) (c.put_exact-3.new.out.tokens) (tokens_of (exact (codes "velocity") c.args.speed.now)) (tokens_of (exact (codes "time") (codes "0"))) c.in_ok-put_exact-2.ensures.tokens c.put_exact-3.ensures.tokens))
