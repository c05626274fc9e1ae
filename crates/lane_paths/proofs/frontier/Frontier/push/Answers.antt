use Rattle.std.proofs.Common.{◌∷◌, List, ℕ, subst}
use Rattle.std.specs.Prelude.{map}
use Rattle.std.specs.BinaryHeap.{heap_items}
use Rattle.std.specs.List.Sorted.{IsPermutation}
use Rattle.std.proofs.lemmas.List.Sorted.{IsPermutation-map}
use Rattle.lane_paths.proofs.frontier.Frontier.push.Goals as goal

pub returns : goal.returns
returns c = subst (λ (old : List (ℕ × ℕ)). IsPermutation ((c.args.length, c.args.cell) ∷ old) (map (λ x. x.0) (heap_items c.push.new.self))) c.self.view_is (IsPermutation-map (λ x. x.0) _ _ c.in_ok-push.ensures.permutation)
