use Rattle.std.proofs.Common.{sym, ◌∙◌}
use Rattle.spot_claims.specs.Profile.{lacks}
use Rattle.scenario.specs.Table.{text_of}
use Rattle.scenario.proofs.Members.{any_at}
use Rattle.scenario.proofs.checks.lacks_one.Goals as goal

pub returns-then-lacks : goal.returns-then-lacks
returns-then-lacks c = sym (any_at text_of (lacks c.args.tree.now c.args.e) c.args.names.now c.loop-name.name-index _ c.loop-name-test.true (sym c.lacks.ensures ∙ c.if-lacks.true))
