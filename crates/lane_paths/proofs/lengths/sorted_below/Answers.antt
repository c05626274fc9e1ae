use Rattle.std.proofs.Common.{ℕ, ◌<◌}
use Rattle.std.proofs.lemmas.List.Sorted.{IsNonDecreasingBy-from_sort}
use Rattle.lane_paths.proofs.FrontierLists.{includes_moved}
use Rattle.lane_paths.proofs.ReachedLists.{all_moved}
use Rattle.lane_paths.proofs.lengths.sorted_below.Goals as goal

pub returns-clause-all : goal.returns-clause-all
returns-clause-all c = λ i j low. includes_moved c.in_ok-cells.cells.items c.sort_unstable.new.self.items i c.sort_unstable.ensures.permutation (c.in_ok-cells.ensures.all i j low)

pub returns-clause-within : goal.returns-clause-within
returns-clause-within c = all_moved (λ (d : ℕ). d < c.args.count) c.in_ok-cells.cells.items c.sort_unstable.new.self.items c.sort_unstable.ensures.permutation c.in_ok-cells.ensures.within

pub returns-clause-sorted : goal.returns-clause-sorted
returns-clause-sorted c = IsNonDecreasingBy-from_sort (λ x. x) c.sort_unstable.new.self.items c.sort_unstable.ensures.sorted
