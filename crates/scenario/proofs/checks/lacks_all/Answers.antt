use Rattle.std.proofs.Common.{sym, ◌∙◌, rules}
use Rattle.spot_claims.specs.Profile.{lacks}
use Rattle.scenario.specs.Table.{text_of}
use Rattle.scenario.proofs.Members.{not_all_at}
use Rattle.scenario.proofs.checks.lacks_all.Goals as goal

pub returns-then-not-lacks : goal.returns-then-not-lacks
returns-then-not-lacks c = sym (not_all_at text_of (lacks c.args.tree.now c.args.e) c.args.names.now c.loop-name.name-index _ c.loop-name-test.true (sym c.lacks.ensures ∙ (search rules)))
