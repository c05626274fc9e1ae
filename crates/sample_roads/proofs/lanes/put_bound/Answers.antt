use Rattle.std.proofs.Common.{List, [], ◌∷◌, ◌++◌, map, ap, sym}
use Rattle.json.specs.Token.{Token, begin_array, end_array, string}
use Rattle.spot_terms.specs.Lists.{numbers_from}
use Rattle.spot_terms.specs.Samples.{bound_point, bound}
use Rattle.sample_roads.specs.Written.{tokens_of, all_tokens, opening}
use Rattle.sample_roads.proofs.Appended.{before, same, held}
use Rattle.sample_roads.proofs.lanes.put_bound.Goals as goal

pub returns-clause-tokens : goal.returns-clause-tokens
returns-clause-tokens c = same c.close.result (c.args.out.now.tokens) (c.close.new.out.tokens) (opening c.args.name.now ++ (all_tokens (map (bound_point c.args.y.now) (numbers_from 0 41)) ++ (end_array ∷ []))) (tokens_of (bound c.args.name.now c.args.y.now)) (ap (λ (ts : List Token). begin_array ∷ string c.args.name.now ∷ ts) (sym (held (map (bound_point c.args.y.now) (numbers_from 0 41))))) (before c.close.result (c.args.out.now.tokens) (c.open.new.out.tokens) (c.close.new.out.tokens) (opening c.args.name.now) (all_tokens (map (bound_point c.args.y.now) (numbers_from 0 41)) ++ (end_array ∷ [])) c.in_ok-open.ensures.tokens (before c.close.result (c.open.new.out.tokens) (c.put_points.new.out.tokens) (c.close.new.out.tokens) (all_tokens (map (bound_point c.args.y.now) (numbers_from 0 41))) (end_array ∷ []) c.in_ok-put_points.ensures.tokens c.close.ensures.tokens))
