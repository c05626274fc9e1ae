-- What the checks of one element need to know of others.
use Rattle.std.specs.Prelude.{◌≡◌, ◌≤◌, ℕ, List, Option, Some, None, nat_lt, count_by, if◌then◌else◌}
use Rattle.std.specs.BTreeMap.{get}
use Rattle.std.specs.Ordering.{nat_cmp}
use Rattle.std.specs.List.Sorted.{IsNonDecreasingBy}
use Rattle.spot_terms.specs.Lists.{Includes}
use Rattle.spot_claims.specs.Tree.{Element}
use Rattle.spot_claims.specs.Paths.{id_at}
use Rattle.spot_claims.specs.Profile.{at_paths, obstacles}
use Rattle.scenario.specs.Table.{group_paths}
use Rattle.scenario.specs.declared.table.Group.{Group}
use Rattle.scenario.specs.declared.table.Group.TheVariants.{Lanelets, Obstacles, Problems}
use Rattle.scenario.specs.declared.known.Known.{Known}

-- p is the least of these elements with the id i
pub record IsFirstOf (tree : List Element) (es : List ℕ) (i p : ℕ) : Type 0 where
  pub listed : Includes es p
  pub id_is : id_at tree p ≡ Some i
  pub least : (d : ℕ) → Includes es d → id_at tree d ≡ Some i → p ≤ d

abbrev pub FirstIs : List Element → List ℕ → ℕ → Option ℕ → Type 0
FirstIs tree es i None = (d : ℕ) → Includes es d → id_at tree d ≡ Some i → ⊥
FirstIs tree es i (Some p) = IsFirstOf tree es i p

-- f tells the least of these elements with each id
pub record HasFirsts (tree : List Element) (es : List ℕ) (f : ℕ → Option ℕ) : Type 0 where
  pub first : (i : ℕ) → FirstIs tree es i (f i)

abbrev pub least_of_places : Option ℕ → ℕ → ℕ
least_of_places None e = e
least_of_places (Some p) e = (if nat_lt p e then p else e)

abbrev pub first_in : Group → Known → ℕ → Option ℕ
first_in Lanelets k id = get nat_cmp k.lanelets id
first_in Obstacles k id = get nat_cmp k.obstacles id
first_in Problems k id = get nat_cmp k.problems id

pub record IsKnown (tree : List Element) (k : Known) : Type 0 where
  pub lanelet_firsts : HasFirsts tree (at_paths tree (group_paths Lanelets)) (get nat_cmp k.lanelets)
  pub obstacle_firsts : HasFirsts tree (at_paths tree (group_paths Obstacles)) (get nat_cmp k.obstacles)
  pub problem_firsts : HasFirsts tree (at_paths tree (group_paths Problems)) (get nat_cmp k.problems)
  pub places : (e : ℕ) → count_by (λ d. nat_lt d e) k.places.items ≡ count_by (λ d. nat_lt d e) (at_paths tree obstacles)
  pub sorted : IsNonDecreasingBy (λ x. x) k.places.items
