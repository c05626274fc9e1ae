use Rattle.std.proofs.Common.{ℕ, List, subst, ◌∙◌}
use Rattle.spot_terms.specs.Lists.{Includes}
use Rattle.scenario.proofs.Accepts.{has_problem}
use Rattle.scenario.proofs.read.problems_in.Goals as goal

pub problems_of-requires-clause-has : goal.problems_of-requires-clause-has
problems_of-requires-clause-has c = λ e listed. let P : List ℕ → Type 0 = λ l. Includes l e in has_problem c.args.tree.now c.requires e (subst P (c.deref.ensures.value ∙ c.in_ok-elements.ensures.found) listed)
