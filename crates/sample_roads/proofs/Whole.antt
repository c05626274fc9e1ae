-- The text of a sample is that of a tree, which is accepted.
use Rattle.std.proofs.Common.{◌≡◌, ℕ, ◌+◌, ◌*◌, ◌-◌, ◌&&◌, cond, ◌<◌, ◌≤◌, nat_lt, Bool, true, false, List, [], ◌∷◌, ◌++◌, length, map, refl, sym, subst, arith, codes}
use Rattle.std.specs.List.{AllByRecursion}
use Rattle.std.specs.Str.{IsUtf8}
use Rattle.std.proofs.lemmas.Bool.{and_parts}
use Rattle.spot_terms.specs.Lists.{numbers_from}
use Rattle.spot_terms.proofs.ListLemmas.{all_append}
use Rattle.spot_terms.proofs.Members.{all_in_map}
use Rattle.spot_claims.specs.Tree.{Element, IsTreeOf, tree_of}
use Rattle.spot_claims.specs.Profile.{IsAccepted}
use Rattle.spot_terms.specs.Samples.{Made, leaf, branch, Mades, nothing, further, holding}
use Rattle.sample_roads.specs.JsonOf.{text_of}
use Rattle.spot_terms.specs.Samples.{tenths, bound, neighbour, left_of, right_of, lanelet, mover, problem, items, roads}
use Rattle.sample_roads.proofs.JsonLayer.{data_of, height, height_in, reads_back}
use Rattle.sample_roads.proofs.TreeLayer.{IsNamed, AreNamed, no_fault, whole_stands}
use Rattle.sample_roads.proofs.Special.{no_check_fails, the_problem, nothing_static}
use Rattle.sample_roads.specs.Accepted.{IsSample}

-- ---- names, by computing

abbrev mutual
  names : Made → Bool
  names (leaf name text) = nat_lt 0 (length name)
  names (branch name attributes ms) = nat_lt 0 (length name) && names_in ms

  names_in : Mades → Bool
  names_in nothing = true
  names_in (further m ms) = names m && names_in ms

mutual
  named_by : (m : Made) → names m ≡ true → IsNamed m
  named_by (leaf name text) h = h
  named_by (branch name attributes ms) h = let r = and_parts (nat_lt 0 (length name)) (names_in ms) h in (r.0, all_named_by ms r.1)

  all_named_by : (ms : Mades) → names_in ms ≡ true → AreNamed ms
  all_named_by nothing h = tt
  all_named_by (further m ms) h = let r = and_parts (names m) (names_in ms) h in (named_by m r.0, all_named_by ms r.1)

-- ---- all that is made is named, and not too high

record IsPlain (k : ℕ) (m : Made) : Type 0 where
  low : height m ≤ k
  named : IsNamed m

low_in : (k : ℕ) (ms : List Made) → AllByRecursion (IsPlain k) ms → height_in (holding ms) ≤ k
low_in k [] h = omega arith
low_in k (m ∷ ms) h = let a = h.0 in omega (arith, a.low, low_in k ms h.1)

named_in : (k : ℕ) (ms : List Made) → AllByRecursion (IsPlain k) ms → AreNamed (holding ms)
named_in k [] h = tt
named_in k (m ∷ ms) h = let a = h.0 in (a.named, named_in k ms h.1)

left_plain : (lanes j : ℕ) → AllByRecursion (IsPlain 3) (left_of lanes j)
left_plain lanes j = elim (nat_lt j lanes) as (λ b. AllByRecursion (IsPlain 3) (cond b (neighbour (codes "adjacentLeft") (j + 1) ∷ []) [])) [
  | true ↦ (record { low = omega arith; named = (refl, tt) }, tt)
  | false ↦ tt
]

right_plain : (j : ℕ) → AllByRecursion (IsPlain 3) (right_of j)
right_plain j = elim (nat_lt 1 j) as (λ b. AllByRecursion (IsPlain 3) (cond b (neighbour (codes "adjacentRight") (j - 1) ∷ []) [])) [
  | true ↦ (record { low = omega arith; named = (refl, tt) }, tt)
  | false ↦ tt
]

lanelet_plain : (lanes j : ℕ) → IsPlain 5 (lanelet lanes j)
lanelet_plain lanes j =
    let sides : AllByRecursion (IsPlain 3) (left_of lanes j ++ right_of j) = all_append (IsPlain 3) (left_of lanes j) (right_of j) (left_plain lanes j) (right_plain j) in
    record {
      low = omega (arith, low_in 3 (left_of lanes j ++ right_of j) sides);
      named = (refl, (named_by (bound (codes "leftBound") (tenths (35 * j))) refl, (named_by (bound (codes "rightBound") (tenths (35 * (j - 1)))) refl, named_in 3 (left_of lanes j ++ right_of j) sides)));
    }

items_plain : (seed lanes movers : ℕ) → AllByRecursion (IsPlain 5) (items seed lanes movers)
items_plain seed lanes movers =
    all_append (IsPlain 5) (map (lanelet lanes) (numbers_from 1 lanes)) (map (mover seed lanes) (numbers_from 0 movers) ++ problem ∷ [])
    (all_in_map (IsPlain 5) (lanelet lanes) (numbers_from 1 lanes) (λ j i. lanelet_plain lanes j))
    (all_append (IsPlain 5) (map (mover seed lanes) (numbers_from 0 movers)) (problem ∷ [])
    (all_in_map (IsPlain 5) (mover seed lanes) (numbers_from 0 movers) (λ m i. record { low = omega arith; named = named_by (mover seed lanes m) refl }))
    (record { low = omega arith; named = named_by problem refl }, tt))

-- ---- the whole

abbrev pub the_tree : (seed lanes movers : ℕ) → List Element
the_tree seed lanes movers = tree_of (data_of (roads seed lanes movers))

pub is_tree : (seed lanes movers : ℕ) → IsUtf8 (text_of (roads seed lanes movers)) → IsTreeOf (text_of (roads seed lanes movers)) (tree_of (data_of (roads seed lanes movers)))
is_tree seed lanes movers utf8 =
    let plain : AllByRecursion (IsPlain 5) (items seed lanes movers) = items_plain seed lanes movers in
    record {
      value = data_of (roads seed lanes movers);
      json = (utf8, reads_back (roads seed lanes movers) (omega (arith, low_in 5 (items seed lanes movers) plain)));
      sound = no_fault (roads seed lanes movers) (refl, named_in 5 (items seed lanes movers) plain);
      elements = refl;
    }

pub is_accepted : (seed lanes movers : ℕ) → 0 < lanes → lanes ≤ 8 → movers ≤ 1000 → IsAccepted (tree_of (data_of (roads seed lanes movers)))
is_accepted seed lanes movers some few crowd = no_check_fails seed lanes movers some few crowd (tree_of (data_of (roads seed lanes movers))) (whole_stands (codes "commonRoad") ((codes "commonRoadVersion", codes "2020a") ∷ (codes "timeStepSize", codes "0.1") ∷ []) (holding (items seed lanes movers)))

pub is_sample : (seed lanes movers : ℕ) → 0 < lanes → lanes ≤ 8 → movers ≤ 1000 → (bytes : List ℕ) → bytes ≡ text_of (roads seed lanes movers) → IsUtf8 (text_of (roads seed lanes movers)) → IsSample bytes (the_tree seed lanes movers)
is_sample seed lanes movers some few crowd bytes text utf8 =
    let stands = whole_stands (codes "commonRoad") ((codes "commonRoadVersion", codes "2020a") ∷ (codes "timeStepSize", codes "0.1") ∷ []) (holding (items seed lanes movers)) in
    let Q : List ℕ → Type 0 = λ t. IsTreeOf t (the_tree seed lanes movers) in
    let p = the_problem seed lanes movers some few crowd (the_tree seed lanes movers) stands in
    record {
      is_tree = subst Q (sym text) (is_tree seed lanes movers utf8);
      accepted = is_accepted seed lanes movers some few crowd;
      problem = p.0;
      one = p.1;
      id = p.2;
      no_statics = nothing_static seed lanes movers some few crowd (the_tree seed lanes movers) stands;
    }
