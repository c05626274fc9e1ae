use Rattle.std.proofs.Common.{[], ◌∷◌, ◌++◌, codes}
use Rattle.json.specs.Token.{end_array}
use Rattle.spot_terms.specs.Samples.{leaf}
use Rattle.sample_roads.specs.Written.{tokens_of, opening}
use Rattle.sample_roads.proofs.Appended.{before}
use Rattle.sample_roads.proofs.things.put_rectangle.Goals as goal

pub returns-clause-tokens : goal.returns-clause-tokens
returns-clause-tokens c = (before c.close.result (c.args.out.now.tokens) (c.open.new.out.tokens) (c.close.new.out.tokens) (opening (codes "rectangle")) (tokens_of (leaf (codes "length") (codes "4.5")) ++ (tokens_of (leaf (codes "width") (codes "1.8")) ++ (end_array ∷ []))) c.in_ok-open.ensures.tokens (before c.close.result (c.open.new.out.tokens) (c.put_leaf.new.out.tokens) (c.close.new.out.tokens) (tokens_of (leaf (codes "length") (codes "4.5"))) (tokens_of (leaf (codes "width") (codes "1.8")) ++ (end_array ∷ [])) c.in_ok-put_leaf.ensures.tokens (before c.close.result (c.put_leaf.new.out.tokens) (c.put_leaf-2.new.out.tokens) (c.close.new.out.tokens) (tokens_of (leaf (codes "width") (codes "1.8"))) (end_array ∷ []) c.in_ok-put_leaf-2.ensures.tokens c.close.ensures.tokens)))
