-- How many states are recorded and how many problems there are, and how much lanelets hold: no more than an input has bytes.
use Rattle.std.proofs.Common.{◌≡◌, inl, inr, ℕ, ◌+◌, ◌≤◌, List, [], ◌∷◌, ◌++◌, length, Option, Some, None, refl, ap, subst, arith, codes, length-append, append-nil}
use Rattle.std.specs.List.{filter_map, flat_map}
use Rattle.spot_terms.proofs.Members.{in_flat_map}
use Rattle.spot_terms.proofs.ListLemmas.{includes_either, pairwise_length}
use Rattle.spot_terms.specs.Lists.{Includes, Pairwise}
use Rattle.spot_terms.specs.Ranges.{recorded_count, lane_size, lanes_size}
use Rattle.spot_terms.specs.declared.scenario.RawLane.{RawLane}
use Rattle.spot_terms.specs.declared.scenario.Mover.{Mover}
use Rattle.spot_terms.specs.declared.scenario.Problem.{Problem}
use Rattle.spot_terms.proofs.Distinct.{distinct_append, distinct_flat_map}
use Rattle.spot_claims.specs.Tree.{Element, IsTree, all_named}
use Rattle.spot_claims.specs.Paths.{first_child, at_path, lanelets, dynamics, problems}
use Rattle.spot_claims.specs.Scenario.{below, IsPair, IsLane, IsRecorded, IsMover, IsProblem, recorded_of, reference_at, neighbour_at}
use Rattle.scenario.proofs.Owned.{IsOwned, Apart, Through, owned_named, owned_first, owned_through, owned_joined, apart_joined, apart_named, apart_below, apart_ways, few_owned, few_distinct, child_named, first_child_named, grandchild_named, one_name}

-- ---- recorded states and problems

abbrev Initial : List Element → ℕ → List ℕ
Initial tree p = below tree p (first_child (codes "initialState") ∷ [])

abbrev Later : List Element → ℕ → List ℕ
Later tree = Through tree (codes "trajectory") (codes "state")

states_apart : (tree : List Element) → Apart (Initial tree) (Later tree)
states_apart tree p q n h k = one_name tree n (codes "initialState") (codes "state") refl (first_child_named tree (codes "initialState") p n h).called (grandchild_named tree (codes "trajectory") (codes "state") q n k).is_child.called

owned_states : (tree : List Element) → IsTree tree → IsOwned tree (recorded_of tree)
owned_states tree is = owned_joined tree (Initial tree) (Later tree) (owned_first tree (codes "initialState") is) (owned_through tree (codes "trajectory") (codes "state") is) (states_apart tree)

abbrev Recorded : List Element → List ℕ
Recorded tree = flat_map (recorded_of tree) (all_named tree (codes "dynamicObstacle") 0)

abbrev Problems : List Element → List ℕ
Problems tree = all_named tree (codes "planningProblem") 0

no_problem : (tree : List Element) (p n : ℕ) → Includes (recorded_of tree p) n → Includes (Problems tree) n → ⊥
no_problem tree p n h k = elim (includes_either (Initial tree p) (Later tree p) n h) [
  | inl l ↦ one_name tree n (codes "initialState") (codes "planningProblem") refl (first_child_named tree (codes "initialState") p n l).called (child_named tree (codes "planningProblem") 0 n k).called
  | inr l ↦ one_name tree n (codes "state") (codes "planningProblem") refl (grandchild_named tree (codes "trajectory") (codes "state") p n l).is_child.called (child_named tree (codes "planningProblem") 0 n k).called
]

few_elements : (tree : List Element) → IsTree tree → length (Recorded tree ++ Problems tree) ≤ length tree
few_elements tree is =
    let movers = all_named tree (codes "dynamicObstacle") 0 in
    let states = owned_states tree is in
    let named = owned_named tree (codes "planningProblem") is in
    let distinct = distinct_append (Recorded tree) (Problems tree) (distinct_flat_map (recorded_of tree) movers ((owned_named tree (codes "dynamicObstacle") is).each 0) states.each states.one) (named.each 0)
    (λ n h k. let from = in_flat_map (recorded_of tree) movers n h in no_problem tree from.0 n from.2 k) in
    few_distinct (length tree) (Recorded tree ++ Problems tree) distinct (λ n h. elim (includes_either (Recorded tree) (Problems tree) n h) [
      | inl k ↦ let from = in_flat_map (recorded_of tree) movers n k in states.inside from.0 n from.2
      | inr k ↦ named.inside 0 n k
    ])

count_recorded : (tree : List Element) (es : List ℕ) (ms : List Mover) → Pairwise (IsMover tree) es ms → recorded_count ms ≡ length (flat_map (recorded_of tree) es)
count_recorded tree [] [] p = refl
count_recorded tree [] (m ∷ ms) p = absurd p
count_recorded tree (e ∷ es) [] p = absurd p
count_recorded tree (e ∷ es) (m ∷ ms) p =
    let head = pairwise_length (IsRecorded tree) (recorded_of tree e) m.recorded p.0.recorded in
    let rest = count_recorded tree es ms p.1 in
    let split = length-append (recorded_of tree e) (flat_map (recorded_of tree) es) in omega (arith, head, rest, split)

pub few_recorded : (tree : List Element) → IsTree tree → (ms : List Mover) (ps : List Problem) → Pairwise (IsMover tree) (at_path tree dynamics) ms → Pairwise (IsProblem tree) (at_path tree problems) ps → recorded_count ms + length ps ≤ 67_108_864
few_recorded tree is ms ps movers probs =
    let M : List ℕ → Type 0 = λ l. Pairwise (IsMover tree) l ms in
    let P : List ℕ → Type 0 = λ l. Pairwise (IsProblem tree) l ps in
    let all = few_elements tree is in
    let recorded = count_recorded tree (all_named tree (codes "dynamicObstacle") 0) ms (subst M (append-nil (all_named tree (codes "dynamicObstacle") 0)) movers) in
    let count = pairwise_length (IsProblem tree) (Problems tree) ps (subst P (append-nil (Problems tree)) probs) in
    let split = length-append (Recorded tree) (Problems tree) in
    let few = is.few in omega (arith, all, recorded, count, split, few)

-- ---- lanelets

abbrev Bound : List Element → List ℕ → ℕ → List ℕ
Bound tree bound = Through tree bound (codes "point")

abbrev Sides : List Element → ℕ → List ℕ
Sides tree p = all_named tree (codes "adjacentLeft") p ++ all_named tree (codes "adjacentRight") p

abbrev Before : List Element → ℕ → List ℕ
Before tree p = all_named tree (codes "predecessor") p ++ Sides tree p

abbrev Links : List Element → ℕ → List ℕ
Links tree p = all_named tree (codes "successor") p ++ Before tree p

abbrev RightAndLinks : List Element → ℕ → List ℕ
RightAndLinks tree p = Bound tree (codes "rightBound") p ++ Links tree p

-- the elements of the points of a lanelet and of its references
abbrev Held : List Element → ℕ → List ℕ
Held tree p = Bound tree (codes "leftBound") p ++ RightAndLinks tree p

owned_links : (tree : List Element) → IsTree tree → IsOwned tree (Links tree)
owned_links tree is =
    let after = all_named tree (codes "successor") in
    let before = all_named tree (codes "predecessor") in
    let left = all_named tree (codes "adjacentLeft") in
    let right = all_named tree (codes "adjacentRight") in
    let sides = owned_joined tree left right (owned_named tree (codes "adjacentLeft") is) (owned_named tree (codes "adjacentRight") is) (apart_named tree (codes "adjacentLeft") (codes "adjacentRight") refl) in
    let earlier = owned_joined tree before (Sides tree) (owned_named tree (codes "predecessor") is) sides
    (apart_joined before left right (apart_named tree (codes "predecessor") (codes "adjacentLeft") refl) (apart_named tree (codes "predecessor") (codes "adjacentRight") refl)) in
    owned_joined tree after (Before tree) (owned_named tree (codes "successor") is) earlier
    (apart_joined after before (Sides tree) (apart_named tree (codes "successor") (codes "predecessor") refl)
    (apart_joined after left right (apart_named tree (codes "successor") (codes "adjacentLeft") refl) (apart_named tree (codes "successor") (codes "adjacentRight") refl)))

points_apart : (tree : List Element) (bound : List ℕ) → Apart (Bound tree bound) (Links tree)
points_apart tree bound =
    let left = all_named tree (codes "adjacentLeft") in
    let right = all_named tree (codes "adjacentRight") in
    let sides = apart_joined (Bound tree bound) left right (apart_below tree bound (codes "point") (codes "adjacentLeft") refl) (apart_below tree bound (codes "point") (codes "adjacentRight") refl) in
    apart_joined (Bound tree bound) (all_named tree (codes "successor")) (Before tree) (apart_below tree bound (codes "point") (codes "successor") refl)
    (apart_joined (Bound tree bound) (all_named tree (codes "predecessor")) (Sides tree) (apart_below tree bound (codes "point") (codes "predecessor") refl) sides)

owned_held : (tree : List Element) → IsTree tree → IsOwned tree (Held tree)
owned_held tree is =
    let left = Bound tree (codes "leftBound") in
    let right = Bound tree (codes "rightBound") in
    let rest = owned_joined tree right (Links tree) (owned_through tree (codes "rightBound") (codes "point") is) (owned_links tree is) (points_apart tree (codes "rightBound")) in
    owned_joined tree left (RightAndLinks tree) (owned_through tree (codes "leftBound") (codes "point") is) rest
    (apart_joined left right (Links tree) (apart_ways tree (codes "leftBound") (codes "rightBound") (codes "point") is refl) (points_apart tree (codes "leftBound")))

fewer_by : {X Y : Type 0} (f : X → Option Y) (x : X) (xs : List X) (o : Option Y) → f x ≡ o → length (filter_map f xs) ≤ length xs → length (filter_map f (x ∷ xs)) ≤ length (x ∷ xs)
fewer_by f x xs None e h = rw e (omega (arith, h))
fewer_by f x xs (Some y) e h = rw e (omega (arith, h))

fewer : {X Y : Type 0} (f : X → Option Y) (xs : List X) → length (filter_map f xs) ≤ length xs
fewer f [] = omega arith
fewer f (x ∷ xs) = fewer_by f x xs (f x) refl (fewer f xs)

held_length : (tree : List Element) (e : ℕ) (l : ℕ × RawLane) → IsLane tree e l → lane_size l.1 ≤ length (Held tree e)
held_length tree e l is =
    let left = pairwise_length (IsPair tree) (Bound tree (codes "leftBound") e) l.1.left is.left in
    let right = pairwise_length (IsPair tree) (Bound tree (codes "rightBound") e) l.1.right is.right in
    let after = fewer (reference_at tree) (all_named tree (codes "successor") e) in
    let before = fewer (reference_at tree) (all_named tree (codes "predecessor") e) in
    let lefts = fewer (neighbour_at tree) (all_named tree (codes "adjacentLeft") e) in
    let rights = fewer (neighbour_at tree) (all_named tree (codes "adjacentRight") e) in
    let size : List ℕ → ℕ = λ xs. length xs in
    let a = ap size is.successors in
    let b = ap size is.predecessors in
    let c = ap size is.sides in
    let d = length-append (filter_map (neighbour_at tree) (all_named tree (codes "adjacentLeft") e)) (filter_map (neighbour_at tree) (all_named tree (codes "adjacentRight") e)) in
    let s0 = length-append (Bound tree (codes "leftBound") e) (RightAndLinks tree e) in
    let s1 = length-append (Bound tree (codes "rightBound") e) (Links tree e) in
    let s2 = length-append (all_named tree (codes "successor") e) (Before tree e) in
    let s3 = length-append (all_named tree (codes "predecessor") e) (Sides tree e) in
    let s4 = length-append (all_named tree (codes "adjacentLeft") e) (all_named tree (codes "adjacentRight") e) in
    omega (arith, left, right, after, before, lefts, rights, a, b, c, d, s0, s1, s2, s3, s4)

lanes_length : (tree : List Element) (es : List ℕ) (ls : List (ℕ × RawLane)) → Pairwise (IsLane tree) es ls → lanes_size ls ≤ length (flat_map (Held tree) es)
lanes_length tree [] [] p = omega arith
lanes_length tree [] (l ∷ ls) p = absurd p
lanes_length tree (e ∷ es) [] p = omega arith
lanes_length tree (e ∷ es) (l ∷ ls) p =
    let head = held_length tree e l p.0 in
    let rest = lanes_length tree es ls p.1 in
    let split = length-append (Held tree e) (flat_map (Held tree) es) in omega (arith, head, rest, split)

pub few_held : (tree : List Element) → IsTree tree → (ls : List (ℕ × RawLane)) → Pairwise (IsLane tree) (at_path tree lanelets) ls → lanes_size ls ≤ 67_108_864
few_held tree is ls lanes =
    let P : List ℕ → Type 0 = λ l. Pairwise (IsLane tree) l ls in
    let size = lanes_length tree (all_named tree (codes "lanelet") 0) ls (subst P (append-nil (all_named tree (codes "lanelet") 0)) lanes) in
    let all = few_owned tree (Held tree) (all_named tree (codes "lanelet") 0) (owned_held tree is) ((owned_named tree (codes "lanelet") is).each 0) in
    let few = is.few in omega (arith, size, all, few)
