use Rattle.std.proofs.Common.{ℕ, List, subst}
use Rattle.spot_claims.specs.Tree.{IsTreeOf}
use Rattle.spot_run.proofs.Refusals.{loads_all, read_whole, read_bytes}
use Rattle.spot_run.proofs.load.load.Goals as goal

pub returns-clause-told : goal.returns-clause-told
returns-clause-told g c = λ bytes is.
    loads_all bytes (g.S.Source.left c.read_all.new.source) c.in-Ok-read_tree.tree c.scenario_of.result
    (read_whole (g.S.Source.left c.args.source.now) (g.S.Source.left c.read_all.new.source) c.in-Ok.bytes bytes is c.in-Ok.ensures.short c.in-Ok.ensures.told)
    (read_bytes (g.S.Source.left c.args.source.now) (g.S.Source.left c.read_all.new.source) c.in-Ok.bytes bytes c.in-Ok-read_tree.tree is c.in-Ok.ensures.told (subst (λ (b : List ℕ). IsTreeOf b c.in-Ok-read_tree.tree) c.deref.ensures.value c.in-Ok-read_tree.ensures))
    c.scenario_of.ensures.scenario c.scenario_of.ensures.none
