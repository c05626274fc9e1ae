use Rattle.std.proofs.Common.{[], ◌∷◌, ◌++◌, codes}
use Rattle.json.specs.Token.{end_array}
use Rattle.spot_terms.specs.Samples.{position, motion}
use Rattle.sample_roads.specs.Written.{tokens_of, all_tokens, opening}
use Rattle.sample_roads.proofs.Appended.{before}
use Rattle.sample_roads.proofs.things.put_start.Goals as goal

pub returns-clause-tokens : goal.returns-clause-tokens
returns-clause-tokens c = (before c.close.result (c.args.out.now.tokens) (c.open.new.out.tokens) (c.close.new.out.tokens) (opening (codes "initialState")) (tokens_of (position c.args.x.now c.args.y.now) ++ (all_tokens (motion c.args.speed.now) ++ (end_array ∷ []))) c.in_ok-open.ensures.tokens (before c.close.result (c.open.new.out.tokens) (c.put_position.new.out.tokens) (c.close.new.out.tokens) (tokens_of (position c.args.x.now c.args.y.now)) (all_tokens (motion c.args.speed.now) ++ (end_array ∷ [])) c.in_ok-put_position.ensures.tokens (before c.close.result (c.put_position.new.out.tokens) (c.put_motion.new.out.tokens) (c.close.new.out.tokens) (all_tokens (motion c.args.speed.now)) (end_array ∷ []) c.in_ok-put_motion.ensures.tokens c.close.ensures.tokens)))
