use Rattle.std.proofs.Common.{nat_lt, ◌∙◌, ap}
use Rattle.std.specs.List.{count_by}
use Rattle.std.proofs.lemmas.List.Sorted.{IsNonDecreasingBy-from_sort}
use Rattle.scenario.proofs.Counts.{count_permutation}
use Rattle.scenario.proofs.known.sorted_places.Goals as goal

pub returns-clause-same : goal.returns-clause-same
returns-clause-same c = λ e. count_permutation (λ d. nat_lt d e) c.in_ok-places.places.items c.sort.new.self.items c.in_ok-sort.ensures.permutation ∙ ap (count_by (λ d. nat_lt d e)) c.in_ok-places.ensures.found

pub returns-clause-sorted : goal.returns-clause-sorted
returns-clause-sorted c = IsNonDecreasingBy-from_sort (λ x. x) c.sort.new.self.items c.in_ok-sort.ensures.sorted
