use Rattle.std.proofs.Common.{ℕ, List, subst, ◌∙◌}
use Rattle.spot_terms.specs.Lists.{Includes}
use Rattle.scenario.proofs.Accepts.{has_fixed}
use Rattle.scenario.proofs.read.fixed_in.Goals as goal

pub fixed_of-requires-clause-has : goal.fixed_of-requires-clause-has
fixed_of-requires-clause-has c = λ e listed. let P : List ℕ → Type 0 = λ l. Includes l e in has_fixed c.args.tree.now c.requires e (subst P (c.deref.ensures.value ∙ c.in_ok-elements.ensures.found) listed)
