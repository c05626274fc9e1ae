use Rattle.std.proofs.Common.{[], ◌∷◌, ◌++◌, codes}
use Rattle.json.specs.Token.{end_array}
use Rattle.spot_terms.specs.Samples.{start}
use Rattle.sample_roads.specs.Written.{tokens_of, opening_with_id}
use Rattle.sample_roads.proofs.Appended.{before}
use Rattle.sample_roads.proofs.sample.put_problem.Goals as goal

pub returns-clause-tokens : goal.returns-clause-tokens
returns-clause-tokens c = (before c.close.result (c.args.out.now.tokens) (c.open_with_id.new.out.tokens) (c.close.new.out.tokens) (opening_with_id (codes "planningProblem") (codes "1")) (tokens_of (start (codes "200") (codes "1.75") (codes "30")) ++ (end_array ∷ [])) c.in_ok-open_with_id.ensures.tokens (before c.close.result (c.open_with_id.new.out.tokens) (c.put_start.new.out.tokens) (c.close.new.out.tokens) (tokens_of (start (codes "200") (codes "1.75") (codes "30"))) (end_array ∷ []) c.in_ok-put_start.ensures.tokens c.close.ensures.tokens))
