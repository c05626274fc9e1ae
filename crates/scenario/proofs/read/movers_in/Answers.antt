use Rattle.std.proofs.Common.{ℕ, List, subst, ◌∙◌}
use Rattle.spot_terms.specs.Lists.{Includes}
use Rattle.scenario.proofs.Accepts.{has_mover}
use Rattle.scenario.proofs.read.movers_in.Goals as goal

pub movers_of-requires-clause-has : goal.movers_of-requires-clause-has
movers_of-requires-clause-has c = λ e listed. let P : List ℕ → Type 0 = λ l. Includes l e in has_mover c.args.tree.now c.requires.accepted e (subst P (c.deref.ensures.value ∙ c.in_ok-elements.ensures.found) listed)
