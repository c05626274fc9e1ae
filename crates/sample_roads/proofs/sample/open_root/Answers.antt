use Rattle.std.proofs.Common.{[], ◌∷◌, ◌++◌, codes}
use Rattle.json.specs.Token.{begin_object, end_object, key, string}
use Rattle.sample_roads.specs.Written.{opening}
use Rattle.sample_roads.proofs.Appended.{before}
use Rattle.sample_roads.proofs.sample.open_root.Goals as goal

pub returns-clause-tokens : goal.returns-clause-tokens
returns-clause-tokens c = (before c.end_object.result (c.args.out.now.tokens) (c.open.new.out.tokens) (c.end_object.new.self.tokens) (opening (codes "commonRoad")) (begin_object ∷ [] ++ (key (codes "commonRoadVersion") ∷ [] ++ (string (codes "2020a") ∷ [] ++ (key (codes "timeStepSize") ∷ [] ++ (string (codes "0.1") ∷ [] ++ (end_object ∷ [])))))) c.in_ok-open.ensures.tokens (before c.end_object.result (c.open.new.out.tokens) (c.begin_object.new.self.tokens) (c.end_object.new.self.tokens) (begin_object ∷ []) (key (codes "commonRoadVersion") ∷ [] ++ (string (codes "2020a") ∷ [] ++ (key (codes "timeStepSize") ∷ [] ++ (string (codes "0.1") ∷ [] ++ (end_object ∷ []))))) c.in_ok-begin_object.ensures.ok (before c.end_object.result (c.begin_object.new.self.tokens) (c.key.new.self.tokens) (c.end_object.new.self.tokens) (key (codes "commonRoadVersion") ∷ []) (string (codes "2020a") ∷ [] ++ (key (codes "timeStepSize") ∷ [] ++ (string (codes "0.1") ∷ [] ++ (end_object ∷ [])))) c.in_ok-key.ensures.ok (before c.end_object.result (c.key.new.self.tokens) (c.string.new.self.tokens) (c.end_object.new.self.tokens) (string (codes "2020a") ∷ []) (key (codes "timeStepSize") ∷ [] ++ (string (codes "0.1") ∷ [] ++ (end_object ∷ []))) c.in_ok-string.ensures.ok (before c.end_object.result (c.string.new.self.tokens) (c.key-2.new.self.tokens) (c.end_object.new.self.tokens) (key (codes "timeStepSize") ∷ []) (string (codes "0.1") ∷ [] ++ (end_object ∷ [])) c.in_ok-key-2.ensures.ok (before c.end_object.result (c.key-2.new.self.tokens) (c.string-2.new.self.tokens) (c.end_object.new.self.tokens) (string (codes "0.1") ∷ []) (end_object ∷ []) c.in_ok-string-2.ensures.ok c.end_object.ensures.ok))))))
