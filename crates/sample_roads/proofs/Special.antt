-- The lines of the root, of lanelets, of obstacles and of problems, at the sample; and the whole: no check fails.
use Rattle.std.proofs.Common.{◌≡◌, ◌∙◌, inl, inr, ℕ, zero, suc, ◌+◌, ◌<◌, ◌≤◌, ◌==◌, ◌&&◌, ◌||◌, not, nat_lt, is_none, pos, Bool, true, false, List, [], ◌∷◌, ◌++◌, length, map, Option, Some, None, option_map, option_and_then, unwrap_or, refl, sym, ap, subst, arith, codes, append-nil}
use Rattle.std.specs.List.{AllByRecursion, count_by}
use Rattle.std.specs.Str.{bytes_eq}
use Rattle.std.proofs.lemmas.Bool.{and_parts, both_ways}
use Rattle.std.proofs.lemmas.Bool.Decides.{nat_tests}
use Rattle.std.proofs.lemmas.List.{length-map}
use Rattle.spot_terms.specs.Lists.{Includes, AreDistinct, Pairwise, numbers_from}
use Rattle.spot_terms.specs.Decimal.{fraction_of}
use Rattle.spot_terms.proofs.ListLemmas.{partner, includes_map}
use Rattle.spot_terms.proofs.Members.{in_map}
use Rattle.std.proofs.lemmas.List.Sums.{count_by-le-length}
use Rattle.spot_claims.specs.Tree.{Element, is_called, attribute_at, value_at}
use Rattle.spot_claims.specs.Paths.{Path, walk, at_path, lanelets, statics, dynamics, problems, id_of, id_at}
use Rattle.spot_claims.specs.Profile as profile
use Rattle.spot_claims.specs.Profile.{FailsAt, at_paths, is_second, same_id, is_bad_number, step_size_text, point_count, coordinate, obstacles, IsTooLarge, IsUneven, IsAccepted, bad_id, duplicate_id, too_many, bound_count, lacks_a_child, wrong_root, wrong_version, no_step_size, bad_step_size, large_step_size, uneven_step_size, left_point, right_point}
use Rattle.scenario.proofs.Members.{none_in}
use Rattle.spot_terms.proofs.ListLemmas.{pairwise_length}
use Rattle.spot_decimal.proofs.Signs.{reads_once}
use Rattle.spot_terms.specs.Samples.{Made}
use Rattle.spot_terms.specs.Samples.{lanelet, mover, problem, roads}
use Rattle.sample_roads.proofs.TreeLayer.{Stands, marks, called_is, mark_is, walk_made, walk_stands}
use Rattle.sample_roads.proofs.Numbers.{Fits, fits_coordinate, in_range, exact_reads}
use Rattle.sample_roads.proofs.Tables.{bounds, lane_id, mover_id}
use Rattle.sample_roads.proofs.Passing.{Safe, no_failure, accepted, line_safe}
use Rattle.sample_roads.proofs.Lines.{line_2, line_4, line_5, line_6, line_7, line_8, line_9, line_10, line_11, line_12, line_13, line_14, line_15, line_17, line_18, line_19, line_20, line_21, line_22, line_23}
use Rattle.sample_roads.proofs.Found.{found_lanelets, found_dynamics, found_statics, found_problems}

-- ---- ids

abbrev pub made_id : Made → Option ℕ
made_id m = option_and_then id_of (value_at (codes "id") (marks m))

pub id_is : (tree : List Element) (e : ℕ) (m : Made) → Stands tree e m → id_at tree e ≡ made_id m
id_is tree e m h = ap (option_and_then id_of) (mark_is tree (codes "id") e m h)

map_twice : {X Y Z : Type 0} (f : Y → Z) (g : X → Y) (xs : List X) → map f (map g xs) ≡ map (λ x. f (g x)) xs
map_twice f g [] = refl
map_twice f g (x ∷ xs) = ap (λ (zs : List _). f (g x) ∷ zs) (map_twice f g xs)

some_is : (a b : ℕ) → Some a ≡ Some b → a ≡ b
some_is a b e = cc

-- numbers that are all different have different ids
distinct_ids : (f : ℕ → Option ℕ) (c n count : ℕ) → ((k : ℕ) → n ≤ k → k < n + count → f k ≡ Some (c + k)) → AreDistinct (map f (numbers_from n count))
distinct_ids f c n zero h = tt
distinct_ids f c n (suc count) h = (
  λ i. let r = in_map f (numbers_from (n + 1) count) (f n) i in
      let b : (n + 1 ≤ r.0) × (r.0 < n + 1 + count) = bounds (n + 1) count r.0 r.1 in
      let same : c + n ≡ c + r.0 = some_is (c + n) (c + r.0) (sym (h n (omega arith) (omega arith)) ∙ (r.2 ∙ h r.0 (omega (arith, b.0)) (omega (arith, b.1)))) in
      omega (arith, b.0, same),
  distinct_ids f c (n + 1) count (λ k l g. h k (omega arith) (omega arith)),
)

same_id_is : (a b : Option ℕ) → same_id a b ≡ true → a ≡ b
same_id_is None b h = cc
same_id_is (Some m) None h = cc
same_id_is (Some m) (Some n) h = ap Some (grind (arith, nat_tests))

apart : (tree : List Element) (x : ℕ) (m : Made) (es : List ℕ) (ms : List Made) (e : ℕ) → Stands tree x m → Pairwise (Stands tree) es ms → (Includes (map made_id ms) (made_id m) → ⊥) → Includes es e → id_at tree x ≡ id_at tree e → ⊥
apart tree x m es ms e h p a v s =
    let (n, listed, stands) = partner (Stands tree) es ms e p v in
    let same : made_id m ≡ made_id n = sym (id_is tree x m h) ∙ (s ∙ id_is tree e n stands) in
    let P : Option ℕ → Type 0 = λ o. Includes (map made_id ms) o in
    a (subst P (sym same) (includes_map made_id ms n listed))

pub one_by_id : (tree : List Element) (es : List ℕ) (ms : List Made) (d e : ℕ) → Pairwise (Stands tree) es ms → AreDistinct (map made_id ms) → Includes es d → Includes es e → id_at tree d ≡ id_at tree e → d ≡ e
one_by_id tree [] ms d e p a i j s = absurd i
one_by_id tree (x ∷ es) [] d e p a i j s = absurd p
one_by_id tree (x ∷ es) (m ∷ ms) d e p a (inl u) (inl v) s = u ∙ sym v
one_by_id tree (x ∷ es) (m ∷ ms) d e p a (inl u) (inr v) s = absurd (apart tree x m es ms e p.0 p.1 a.0 v (ap (id_at tree) (sym u) ∙ s))
one_by_id tree (x ∷ es) (m ∷ ms) d e p a (inr u) (inl v) s = absurd (apart tree x m es ms d p.0 p.1 a.0 u (ap (id_at tree) (sym v) ∙ sym s))
one_by_id tree (x ∷ es) (m ∷ ms) d e p a (inr u) (inr v) s = one_by_id tree es ms d e p.1 a.1 u v s

false_of : (b : Bool) → (b ≡ true → ⊥) → b ≡ false
false_of true h = absurd (h refl)
false_of false h = refl

not_below : (d e : ℕ) → d ≡ e → nat_lt d e ≡ true → ⊥
not_below d e s h = grind (arith, nat_tests)

pub no_second : (tree : List Element) (es : List ℕ) (ms : List Made) (e : ℕ) → Pairwise (Stands tree) es ms → AreDistinct (map made_id ms) → Includes es e → is_second tree es e ≡ false
no_second tree es ms e p a j = none_in (λ d. nat_lt d e && same_id (id_at tree d) (id_at tree e)) es (λ d i. false_of (nat_lt d e && same_id (id_at tree d) (id_at tree e)) (λ t.
    let r = and_parts (nat_lt d e) (same_id (id_at tree d) (id_at tree e)) t in
    not_below d e (one_by_id tree es ms d e p a i j (same_id_is (id_at tree d) (id_at tree e) r.1)) r.0))

-- ---- along paths

here_only : (tree : List Element) (w : Path) (es : List ℕ) (e : ℕ) → Includes profile.here w → Includes (walk tree w es) e → Includes es e
here_only tree w es e (inl s) h = let P : Path → Type 0 = λ v. Includes (walk tree v es) e in subst P s h
here_only tree w es e (inr n) h = absurd n

only_start : (tree : List Element) (p s : Path) (e : ℕ) → Includes (p ∷ []) s → Includes (at_path tree s) e → Includes (at_path tree p) e
only_start tree p s e (inl q) h = let P : Path → Type 0 = λ v. Includes (at_path tree v) e in subst P q h
only_start tree p s e (inr n) h = absurd n

only_one : (n e : ℕ) → Includes (n ∷ []) e → e ≡ n
only_one n e (inl s) = s
only_one n e (inr h) = absurd h

-- in step with what the numbers make
through_map : {X Y Z : Type 0} (R : X → Y → Type 0) (f : Z → Y) (xs : List X) (zs : List Z) → Pairwise R xs (map f zs) → Pairwise (λ x z. R x (f z)) xs zs
through_map R f [] [] h = tt
through_map R f [] (z ∷ zs) h = absurd h
through_map R f (x ∷ xs) [] h = absurd h
through_map R f (x ∷ xs) (z ∷ zs) h = (h.0, through_map R f xs zs h.1)

no_more : {X Y : Type 0} (R : X → Y → Type 0) (xs : List X) → Pairwise R xs [] → xs ≡ []
no_more R [] h = refl
no_more R (x ∷ xs) h = absurd h

-- ---- a step of 0.1 s

step_fits : Fits coordinate (codes "0.1")
unfolding fraction_of
step_fits = fits_coordinate (codes "0.1") 100_000 refl (omega arith)

step_good : is_bad_number (codes "0.1") ≡ false
unfolding fraction_of
step_good = refl

step_even : IsUneven (codes "0.1") → ⊥
unfolding fraction_of
step_even u = u.uneven 100 (omega arith) (omega arith) (reads_once 6 (codes "0.1") u.reading (pos 100_000) u.reads.reads (exact_reads 6 100_000 (codes "0.1") refl))

-- ---- a sample

module _ (seed lanes movers : ℕ) (some : 0 < lanes) (few : lanes ≤ 8) (crowd : movers ≤ 1000) (tree : List Element) (h : Stands tree 0 (roads seed lanes movers)) where
  whole : Made
  whole = roads seed lanes movers

  version_is : attribute_at tree 0 (codes "commonRoadVersion") ≡ Some (codes "2020a")
  version_is = mark_is tree (codes "commonRoadVersion") 0 (roads seed lanes movers) h

  step_is : attribute_at tree 0 (codes "timeStepSize") ≡ Some (codes "0.1")
  step_is = mark_is tree (codes "timeStepSize") 0 (roads seed lanes movers) h

  text_of_step : step_size_text tree ≡ codes "0.1"
  text_of_step = ap (λ (o : Option (List ℕ)). unwrap_or o []) step_is

  root_checks : AllByRecursion (λ check. FailsAt tree 0 check → ⊥) profile.root_line.checks
  root_checks = (
    both_ways (not (is_called tree (codes "commonRoad") 0)) (ap not (called_is tree (codes "commonRoad") 0 (roads seed lanes movers) h)),
    (
      both_ways (not (unwrap_or (option_map (λ v. bytes_eq v (codes "2020a")) (attribute_at tree 0 (codes "commonRoadVersion"))) false)) (ap (λ (o : Option (List ℕ)). not (unwrap_or (option_map (λ v. bytes_eq v (codes "2020a")) o) false)) version_is),
      (
        both_ways (is_none (attribute_at tree 0 (codes "timeStepSize"))) (ap (λ (o : Option (List ℕ)). is_none o) step_is),
        (
          both_ways (is_bad_number (step_size_text tree)) (ap is_bad_number text_of_step ∙ step_good),
          (
            λ large. (let P : List ℕ → Type 0 = λ t. IsTooLarge 6 t in in_range coordinate (codes "0.1") step_fits (inl (subst P text_of_step large))),
            (λ u. (let P : List ℕ → Type 0 = λ t. IsUneven t in step_even (subst P text_of_step u)), tt),
          ),
        ),
      ),
    ),
  )

  root_safe : Safe tree profile.root_line
  root_safe = λ s w is_start is_way e leads.
      let at : e ≡ 0 = only_one 0 e (only_start tree profile.root s e is_start (here_only tree w (at_path tree s) e is_way leads)) in
      let P : ℕ → Type 0 = λ n. AllByRecursion (λ check. FailsAt tree n check → ⊥) profile.root_line.checks in
      subst P (sym at) root_checks

  stands_at : (p : Path) → Pairwise (Stands tree) (at_path tree p) (walk_made p (roads seed lanes movers ∷ []))
  stands_at p = walk_stands tree p (0 ∷ []) (roads seed lanes movers ∷ []) (h, tt)

  -- ---- lanelets

  at_lanelets : Pairwise (Stands tree) (at_path tree lanelets) (map (lanelet lanes) (numbers_from 1 lanes))
  at_lanelets = let P : List Made → Type 0 = λ ms. Pairwise (Stands tree) (at_path tree lanelets) ms in subst P (found_lanelets seed lanes movers) (stands_at lanelets)

  lanelet_ids : AreDistinct (map made_id (map (lanelet lanes) (numbers_from 1 lanes)))
  lanelet_ids =
      let P : List (Option ℕ) → Type 0 = λ os. AreDistinct os in
      subst P (sym (map_twice made_id (lanelet lanes) (numbers_from 1 lanes))) (distinct_ids (λ j. made_id (lanelet lanes j)) 0 1 lanes (λ j l g. let q : j ≡ 0 + j = omega arith in lane_id j l (omega arith) ∙ ap Some q))

  counts : (e j : ℕ) → Stands tree e (lanelet lanes j) → (point_count tree (codes "leftBound") e ≡ 41) × (point_count tree (codes "rightBound") e ≡ 41)
  counts e j stands = (
    pairwise_length (Stands tree) (walk tree left_point (e ∷ [])) (walk_made left_point (lanelet lanes j ∷ [])) (walk_stands tree left_point (e ∷ []) (lanelet lanes j ∷ []) (stands, tt)),
    pairwise_length (Stands tree) (walk tree right_point (e ∷ [])) (walk_made right_point (lanelet lanes j ∷ [])) (walk_stands tree right_point (e ∷ []) (lanelet lanes j ∷ []) (stands, tt)),
  )

  count_fine : (a b : ℕ) → a ≡ 41 → b ≡ 41 → (not (a == b) || nat_lt a 2) ≡ false
  count_fine a b e f = rw e (rw f refl)

  lanelet_safe : Safe tree profile.lanelet_line
  lanelet_safe = λ s w is_start is_way e leads.
      let here : Includes (at_path tree lanelets) e = only_start tree lanelets s e is_start (here_only tree w (at_path tree s) e is_way leads) in
      let (j, listed, stands) = partner (λ e j. Stands tree e (lanelet lanes j)) (at_path tree lanelets) (numbers_from 1 lanes) e (through_map (Stands tree) (lanelet lanes) (at_path tree lanelets) (numbers_from 1 lanes) at_lanelets) here in
      let r : (1 ≤ j) × (j < 1 + lanes) = bounds 1 lanes j listed in
      let id : id_at tree e ≡ Some j = id_is tree e (lanelet lanes j) stands ∙ lane_id j r.0 (omega (arith, r.1)) in
      let c = counts e j stands in (
        both_ways (is_none (id_at tree e)) (ap (λ (o : Option ℕ). is_none o) id),
        (
          both_ways (is_second tree (at_paths tree (lanelets ∷ [])) e) (ap (λ (es : List ℕ). is_second tree es e) (append-nil (at_path tree lanelets)) ∙ no_second tree (at_path tree lanelets) (map (lanelet lanes) (numbers_from 1 lanes)) e at_lanelets lanelet_ids here),
          (
            no_failure tree e (lanelet lanes j) stands (lacks_a_child (codes "leftBound" ∷ codes "rightBound" ∷ [])) refl,
            (both_ways (not (point_count tree (codes "leftBound") e == point_count tree (codes "rightBound") e) || nat_lt (point_count tree (codes "leftBound") e) 2) (count_fine (point_count tree (codes "leftBound") e) (point_count tree (codes "rightBound") e) c.0 c.1), tt),
          ),
        ),
      )

  -- ---- obstacles

  at_dynamics : Pairwise (Stands tree) (at_path tree dynamics) (map (mover seed lanes) (numbers_from 0 movers))
  at_dynamics = let P : List Made → Type 0 = λ ms. Pairwise (Stands tree) (at_path tree dynamics) ms in subst P (found_dynamics seed lanes movers) (stands_at dynamics)

  no_statics : at_path tree statics ≡ []
  no_statics = let P : List Made → Type 0 = λ ms. Pairwise (Stands tree) (at_path tree statics) ms in no_more (Stands tree) (at_path tree statics) (subst P (found_statics seed lanes movers) (stands_at statics))

  all_obstacles : at_paths tree obstacles ≡ at_path tree dynamics
  all_obstacles = ap (λ (es : List ℕ). es ++ (at_path tree dynamics ++ [])) no_statics ∙ append-nil (at_path tree dynamics)

  mover_ids : AreDistinct (map made_id (map (mover seed lanes) (numbers_from 0 movers)))
  mover_ids =
      let P : List (Option ℕ) → Type 0 = λ os. AreDistinct os in
      subst P (sym (map_twice made_id (mover seed lanes) (numbers_from 0 movers))) (distinct_ids (λ m. made_id (mover seed lanes m)) 1001 0 movers (λ m l g. mover_id m (omega arith)))

  length_from : (n count : ℕ) → length (numbers_from n count) ≡ count
  length_from n zero = refl
  length_from n (suc count) = omega (arith, length_from (n + 1) count)

  few_dynamics : length (at_path tree dynamics) ≤ 1000
  few_dynamics =
      let same : length (at_path tree dynamics) ≡ length (map (mover seed lanes) (numbers_from 0 movers)) = pairwise_length (Stands tree) (at_path tree dynamics) (map (mover seed lanes) (numbers_from 0 movers)) at_dynamics in
      omega (arith, same, length-map (numbers_from 0 movers) (mover seed lanes), length_from 0 movers)

  not_many : (e : ℕ) → count_by (λ d. nat_lt d e) (at_paths tree obstacles) ≡ 4096 → ⊥
  not_many e c =
      let same : count_by (λ d. nat_lt d e) (at_path tree dynamics) ≡ 4096 = ap (λ (es : List ℕ). count_by (λ d. nat_lt d e) es) (sym all_obstacles) ∙ c in
      omega (arith, same, count_by-le-length (λ d. nat_lt d e) (at_path tree dynamics), few_dynamics)

  obstacle_at : (s : Path) (e : ℕ) → Includes obstacles s → Includes (at_path tree s) e → Includes (at_path tree dynamics) e
  obstacle_at s e (inl a) i = let P : Path → Type 0 = λ v. Includes (at_path tree v) e in let Q : List ℕ → Type 0 = λ es. Includes es e in absurd (subst Q no_statics (subst P a i))
  obstacle_at s e (inr (inl a)) i = let P : Path → Type 0 = λ v. Includes (at_path tree v) e in subst P a i
  obstacle_at s e (inr (inr n)) i = absurd n

  obstacle_safe : Safe tree profile.obstacle_line
  obstacle_safe = λ s w is_start is_way e leads.
      let here : Includes (at_path tree dynamics) e = obstacle_at s e is_start (here_only tree w (at_path tree s) e is_way leads) in
      let (m, listed, stands) = partner (λ e m. Stands tree e (mover seed lanes m)) (at_path tree dynamics) (numbers_from 0 movers) e (through_map (Stands tree) (mover seed lanes) (at_path tree dynamics) (numbers_from 0 movers) at_dynamics) here in
      let r : (0 ≤ m) × (m < 0 + movers) = bounds 0 movers m listed in
      let id : id_at tree e ≡ Some (1001 + m) = id_is tree e (mover seed lanes m) stands ∙ mover_id m (omega (arith, r.1)) in (
        both_ways (is_none (id_at tree e)) (ap (λ (o : Option ℕ). is_none o) id),
        (
          both_ways (is_second tree (at_paths tree obstacles) e) (ap (λ (es : List ℕ). is_second tree es e) all_obstacles ∙ no_second tree (at_path tree dynamics) (map (mover seed lanes) (numbers_from 0 movers)) e at_dynamics mover_ids here),
          (
            not_many e,
            (no_failure tree e (mover seed lanes m) stands (lacks_a_child (codes "shape" ∷ codes "initialState" ∷ [])) refl, tt),
          ),
        ),
      )

  -- ---- the problem

  at_problems : Pairwise (Stands tree) (at_path tree problems) (problem ∷ [])
  at_problems = let P : List Made → Type 0 = λ ms. Pairwise (Stands tree) (at_path tree problems) ms in subst P (found_problems seed lanes movers) (stands_at problems)

  problem_at : (e : ℕ) (es : List ℕ) → Pairwise (Stands tree) es (problem ∷ []) → Includes es e → Stands tree e problem
  problem_at e [] p i = absurd p
  problem_at e (n ∷ []) p (inl s) = let P : ℕ → Type 0 = λ k. Stands tree k problem in subst P (sym s) p.0
  problem_at e (n ∷ []) p (inr i) = absurd i
  problem_at e (n ∷ m ∷ es) p i = absurd p.1

  problem_safe : Safe tree profile.problem_line
  problem_safe = λ s w is_start is_way e leads.
      let here : Includes (at_path tree problems) e = only_start tree problems s e is_start (here_only tree w (at_path tree s) e is_way leads) in
      let stands : Stands tree e problem = problem_at e (at_path tree problems) at_problems here in
      let id : id_at tree e ≡ Some 1 = id_is tree e problem stands in (
        both_ways (is_none (id_at tree e)) (ap (λ (o : Option ℕ). is_none o) id),
        (
          both_ways (is_second tree (at_paths tree (problems ∷ [])) e) (ap (λ (es : List ℕ). is_second tree es e) (append-nil (at_path tree problems)) ∙ no_second tree (at_path tree problems) (problem ∷ []) e at_problems (λ i. i, tt) here),
          (no_failure tree e problem stands (lacks_a_child (codes "initialState" ∷ [])) refl, tt),
        ),
      )

  one_problem : (es : List ℕ) → Pairwise (Stands tree) es (problem ∷ []) → (e : ℕ) × (es ≡ e ∷ []) × (id_at tree e ≡ Some 1)
  one_problem [] p = absurd p
  one_problem (n ∷ []) p = (n, refl, id_is tree n problem p.0)
  one_problem (n ∷ m ∷ es) p = absurd p.1

  pub the_problem : (e : ℕ) × (at_path tree problems ≡ e ∷ []) × (id_at tree e ≡ Some 1)
  the_problem = one_problem (at_path tree problems) at_problems

  pub nothing_static : at_path tree statics ≡ []
  nothing_static = no_statics

  -- ---- the whole

  pub no_check_fails : IsAccepted tree
  no_check_fails = accepted tree (
    root_safe,
    (
      lanelet_safe,
      (
        line_safe tree (roads seed lanes movers) profile.bound_point_line h (line_2 seed lanes movers some few),
        (
          obstacle_safe,
          (
            line_safe tree (roads seed lanes movers) profile.shape_line h (line_4 seed lanes movers some few),
            (
              line_safe tree (roads seed lanes movers) profile.rectangle_line h (line_5 seed lanes movers some few),
              (
                line_safe tree (roads seed lanes movers) profile.circle_line h (line_6 seed lanes movers some few),
                (
                  line_safe tree (roads seed lanes movers) profile.polygon_line h (line_7 seed lanes movers some few),
                  (
                    line_safe tree (roads seed lanes movers) profile.shape_point_line h (line_8 seed lanes movers some few),
                    (
                      line_safe tree (roads seed lanes movers) profile.fixed_start_line h (line_9 seed lanes movers some few),
                      (
                        line_safe tree (roads seed lanes movers) profile.moving_start_line h (line_10 seed lanes movers some few),
                        (
                          line_safe tree (roads seed lanes movers) profile.recorded_line h (line_11 seed lanes movers some few),
                          (
                            line_safe tree (roads seed lanes movers) profile.position_line h (line_12 seed lanes movers some few),
                            (
                              line_safe tree (roads seed lanes movers) profile.position_point_line h (line_13 seed lanes movers some few),
                              (
                                line_safe tree (roads seed lanes movers) profile.value_line h (line_14 seed lanes movers some few),
                                (
                                  line_safe tree (roads seed lanes movers) profile.recorded_time_line h (line_15 seed lanes movers some few),
                                  (
                                    problem_safe,
                                    (
                                      line_safe tree (roads seed lanes movers) profile.bound_number_line h (line_17 seed lanes movers some few),
                                      (
                                        line_safe tree (roads seed lanes movers) profile.position_number_line h (line_18 seed lanes movers some few),
                                        (
                                          line_safe tree (roads seed lanes movers) profile.shape_number_line h (line_19 seed lanes movers some few),
                                          (
                                            line_safe tree (roads seed lanes movers) profile.size_line h (line_20 seed lanes movers some few),
                                            (
                                              line_safe tree (roads seed lanes movers) profile.orientation_line h (line_21 seed lanes movers some few),
                                              (
                                                line_safe tree (roads seed lanes movers) profile.velocity_line h (line_22 seed lanes movers some few),
                                                (line_safe tree (roads seed lanes movers) profile.time_line h (line_23 seed lanes movers some few), tt),
                                              ),
                                            ),
                                          ),
                                        ),
                                      ),
                                    ),
                                  ),
                                ),
                              ),
                            ),
                          ),
                        ),
                      ),
                    ),
                  ),
                ),
              ),
            ),
          ),
        ),
      ),
    ),
  )
