use Rattle.std.proofs.Common.{[], ◌∷◌, ◌++◌, codes}
use Rattle.json.specs.Token.{end_array}
use Rattle.spot_terms.specs.Samples.{rectangle}
use Rattle.sample_roads.specs.Written.{tokens_of, opening}
use Rattle.sample_roads.proofs.Appended.{before}
use Rattle.sample_roads.proofs.things.put_body.Goals as goal

pub returns-clause-tokens : goal.returns-clause-tokens
returns-clause-tokens c = (before c.close.result (c.args.out.now.tokens) (c.open.new.out.tokens) (c.close.new.out.tokens) (opening (codes "shape")) (tokens_of rectangle ++ (end_array ∷ [])) c.in_ok-open.ensures.tokens (before c.close.result (c.open.new.out.tokens) (c.put_rectangle.new.out.tokens) (c.close.new.out.tokens) (tokens_of rectangle) (end_array ∷ []) c.in_ok-put_rectangle.ensures.tokens c.close.ensures.tokens))
