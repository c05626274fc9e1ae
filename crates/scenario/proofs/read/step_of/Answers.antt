use Rattle.std.proofs.Common.{ℕ, List, subst, ◌⊎◌, IsTrue}
use Rattle.spot_claims.specs.Profile.{is_bad_number, IsUneven}
use Rattle.scenario.proofs.Accepts.{step_good}
use Rattle.scenario.proofs.read.step_of.Goals as goal

pub unreachable-requires : goal.unreachable-requires
unreachable-requires c = let P : List ℕ → Type 0 = λ t. IsTrue (is_bad_number t) ⊎ IsUneven t in step_good c.args.tree.now c.requires (subst P c.step_size_text.ensures c.in-None.ensures.none)
