use Rattle.std.proofs.Common.{sym, ◌∙◌, Some, None}
use Rattle.spot_claims.specs.Profile.{at_paths}
use Rattle.scenario.specs.Table.{group_paths}
use Rattle.scenario.proofs.Firsts.{second_no_id, second_none, second_is, known_first}
use Rattle.scenario.proofs.known.is_second.Goals as goal

pub returns-in_default : goal.returns-in_default
returns-in_default c = sym (second_no_id c.args.tree.now (at_paths c.args.tree.now (group_paths c.args.group)) c.args.e (sym c.id_at.ensures ∙ c.in_default.is))

pub returns-in-Some-first_of : goal.returns-in-Some-first_of
returns-in-Some-first_of c =
    second_is c.args.tree.now (at_paths c.args.tree.now (group_paths c.args.group)) c.args.e c.in-Some.id c.in-Some-first_of.first (sym c.id_at.ensures ∙ c.in-Some.is)
    (known_first c.args.tree.now c.args.known.now c.args.group c.in-Some.id (Some c.in-Some-first_of.first) c.requires.known (sym c.in-Some-first_of.is ∙ c.first_of.ensures))

pub returns-in-None : goal.returns-in-None
returns-in-None c =
    sym (second_none c.args.tree.now (at_paths c.args.tree.now (group_paths c.args.group)) c.args.e c.in-Some.id (sym c.id_at.ensures ∙ c.in-Some.is)
    (known_first c.args.tree.now c.args.known.now c.args.group c.in-Some.id None c.requires.known (sym c.in-None.is ∙ c.first_of.ensures)))
