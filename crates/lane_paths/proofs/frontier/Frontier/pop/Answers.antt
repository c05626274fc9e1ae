use Rattle.std.proofs.Common.{◌∷◌, List, ℕ, subst}
use Rattle.std.specs.Prelude.{map}
use Rattle.std.specs.BinaryHeap.{heap_items}
use Rattle.std.specs.List.Sorted.{IsPermutation}
use Rattle.std.proofs.lemmas.List.Sorted.{IsPermutation-map}
use Rattle.lane_paths.proofs.frontier.Frontier.pop.Goals as goal

pub returns-clause-some : goal.returns-clause-some
returns-clause-some c = subst (λ (old : List (ℕ × ℕ)). IsPermutation old (c.in_ok-next.field-0.0 ∷ map (λ x. x.0) (heap_items c.pop.new.self))) c.self.view_is (IsPermutation-map (λ x. x.0) _ _ c.in_ok-next.ensures.permutation)
