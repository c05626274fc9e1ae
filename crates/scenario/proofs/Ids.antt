-- The ids of an accepted tree are unique.
use Rattle.std.proofs.Common.{◌≡◌, ◌∙◌, ◌⊎◌, inl, inr, ℕ, ◌<◌, List, [], ◌∷◌, ◌++◌, map, Option, Some, true, refl, sym, ap, subst, arith, nat_lt, ◌&&◌, codes, append-nil}
use Rattle.spot_terms.specs.Lists.{Includes, Pairwise, AreDistinct}
use Rattle.spot_terms.specs.Ids.{HaveUniqueIds}
use Rattle.spot_terms.specs.declared.scenario.Mover.{Mover}
use Rattle.spot_terms.specs.declared.scenario.Fixed.{Fixed}
use Rattle.spot_terms.specs.declared.scenario.Scenario.{Scenario}
use Rattle.spot_claims.specs.Tree.{Element, IsTree, is_called, all_named, element_in}
use Rattle.spot_claims.specs.Paths.{at_path, lanelets, statics, dynamics, problems, id_at}
use Rattle.spot_claims.specs.Profile.{IsAccepted, is_second, same_id}
use Rattle.spot_claims.specs.Scenario.{IsLane, IsMover, IsFixed, IsProblem}
use Rattle.spot_terms.proofs.Distinct.{distinct_append, distinct_filter}
use Rattle.spot_tree.proofs.Parents.{distinct_children}
use Rattle.scenario.proofs.Accepts.{no_second_lanelet, no_second_obstacle, no_second_problem}
use Rattle.scenario.proofs.Few.{Statics, Dynamics, Both, both_named, both_are}
use Rattle.scenario.proofs.Firsts.{second_at}
use Rattle.scenario.proofs.Members.{any_in}
use Rattle.scenario.proofs.Rises.{in_filter}
use Rattle.spot_terms.proofs.ListLemmas.{pairwise_append}

-- ---- what distinct items tell

abbrev Tells : (ℕ → Option ℕ) → ℕ → ℕ → Type 0
Tells f e i = f e ≡ Some i

told_by : (f : ℕ → Option ℕ) (es is : List ℕ) (i : ℕ) → Pairwise (Tells f) es is → Includes is i → (e : ℕ) × Includes es e × (f e ≡ Some i)
told_by f [] [] i p h = absurd h
told_by f [] (j ∷ is) i p h = absurd p
told_by f (e ∷ es) [] i p h = absurd p
told_by f (e ∷ es) (j ∷ is) i p (inl s) = (e, inl refl, p.0 ∙ ap Some (sym s))
told_by f (e ∷ es) (j ∷ is) i p (inr h) = let k = told_by f es is i p.1 h in (k.0, inr k.1, k.2)

-- no two of these elements have the same id
abbrev NoTwo : (ℕ → Option ℕ) → List ℕ → Type 0
NoTwo f es = (d e i : ℕ) → Includes es d → Includes es e → f d ≡ Some i → f e ≡ Some i → d ≡ e

distinct_ids : (f : ℕ → Option ℕ) (es is : List ℕ) → Pairwise (Tells f) es is → AreDistinct es → NoTwo f es → AreDistinct is
distinct_ids f [] [] p d one = tt
distinct_ids f [] (i ∷ is) p d one = absurd p
distinct_ids f (e ∷ es) [] p d one = absurd p
distinct_ids f (e ∷ es) (i ∷ is) p d one =
    let P : ℕ → Type 0 = λ x. Includes es x in
    (λ h. let k = told_by f es is i p.1 h in d.0 (subst P (sym (one e k.0 i (inl refl) (inr k.1) p.0 k.2)) k.1), distinct_ids f es is p.1 d.1 (λ x y j a b. one x y j (inr a) (inr b)))

tell_ids : {X : Type 0} (f : ℕ → Option ℕ) (R : ℕ → X → Type 0) (key : X → ℕ) → ((e : ℕ) (x : X) → R e x → f e ≡ Some (key x)) → (es : List ℕ) (xs : List X) → Pairwise R es xs → Pairwise (Tells f) es (map key xs)
tell_ids f R key tells [] [] p = tt
tell_ids f R key tells [] (x ∷ xs) p = absurd p
tell_ids f R key tells (e ∷ es) [] p = absurd p
tell_ids f R key tells (e ∷ es) (x ∷ xs) p = (tells e x p.0, tell_ids f R key tells es xs p.1)

-- ---- the groups of a tree

before_or : (d e : ℕ) → (d < e) ⊎ (e < d) ⊎ (d ≡ e)
before_or d e = grind arith

no_two : (tree : List Element) (es : List ℕ) → ((e : ℕ) → Includes es e → is_second tree es e ≡ true → ⊥) → NoTwo (id_at tree) es
no_two tree es none d e i a b has also = elim (before_or d e) [
  | inl l ↦ absurd (none e b (second tree es d e i a also has l))
  | inr (inl l) ↦ absurd (none d a (second tree es e d i b has also l))
  | inr (inr s) ↦ s
]
  where
    second : (tree : List Element) (es : List ℕ) (d e i : ℕ) → Includes es d → id_at tree e ≡ Some i → id_at tree d ≡ Some i → d < e → is_second tree es e ≡ true
    second tree es d e i a has had l = any_in (λ x. nat_lt x e && same_id (id_at tree x) (id_at tree e)) es d a (second_at tree d e i has had l)

abbrev Children : List Element → List ℕ
Children tree = (element_in tree 0).children

distinct_named : (tree : List Element) (name : List ℕ) → IsTree tree → AreDistinct (all_named tree name 0)
distinct_named tree name is = distinct_filter (is_called tree name) (Children tree) (distinct_children tree is.once.1 0)

distinct_obstacles : (tree : List Element) → IsTree tree → AreDistinct (Both tree)
distinct_obstacles tree is =
    distinct_append (Statics tree) (Dynamics tree) (distinct_named tree (codes "staticObstacle") is) (distinct_named tree (codes "dynamicObstacle") is)
    (λ x h k. both_named (element_in tree x).name (in_filter (is_called tree (codes "staticObstacle")) (Children tree) x h).1 (in_filter (is_called tree (codes "dynamicObstacle")) (Children tree) x k).1)

-- the elements of one path alone, as those of a list of paths
twice_alone : (es : List ℕ) → (es ++ []) ++ [] ≡ es
twice_alone es = append-nil (es ++ []) ∙ append-nil es

-- ---- the ids of a scenario

unique_named : {X : Type 0} (tree : List Element) (name : List ℕ) (R : ℕ → X → Type 0) (key : X → ℕ) → ((e : ℕ) (x : X) → R e x → id_at tree e ≡ Some (key x)) → IsTree tree
    → ((e : ℕ) → Includes ((all_named tree name 0 ++ []) ++ []) e → is_second tree ((all_named tree name 0 ++ []) ++ []) e ≡ true → ⊥) → (xs : List X) → Pairwise R (all_named tree name 0 ++ []) xs → AreDistinct (map key xs)
unique_named tree name R key tells is none xs p =
    let P : List ℕ → Type 0 = λ l. Pairwise R l xs in
    let Q : List ℕ → Type 0 = λ l. (e : ℕ) → Includes l e → is_second tree l e ≡ true → ⊥ in
    let es = all_named tree name 0 in
    distinct_ids (id_at tree) es (map key xs) (tell_ids (id_at tree) R key tells es xs (subst P (append-nil es) p)) (distinct_named tree name is) (no_two tree es (subst Q (twice_alone es) none))

unique_obstacles : (tree : List Element) → IsAccepted tree → IsTree tree → (fs : List Fixed) (ms : List Mover) → Pairwise (IsFixed tree) (at_path tree statics) fs → Pairwise (IsMover tree) (at_path tree dynamics) ms
    → AreDistinct (map (λ f. f.id) fs ++ map (λ m. m.id) ms)
unique_obstacles tree ok is fs ms p q =
    let P : List ℕ → Type 0 = λ l. Pairwise (IsFixed tree) l fs in
    let M : List ℕ → Type 0 = λ l. Pairwise (IsMover tree) l ms in
    let Q : List ℕ → Type 0 = λ l. (e : ℕ) → Includes l e → is_second tree l e ≡ true → ⊥ in
    let a = tell_ids (id_at tree) (IsFixed tree) (λ f. f.id) (λ e f h. h.id) (Statics tree) fs (subst P (append-nil (Statics tree)) p) in
    let b = tell_ids (id_at tree) (IsMover tree) (λ m. m.id) (λ e m h. h.id) (Dynamics tree) ms (subst M (append-nil (Dynamics tree)) q) in
    distinct_ids (id_at tree) (Both tree) (map (λ f. f.id) fs ++ map (λ m. m.id) ms) (pairwise_append (Tells (id_at tree)) (Statics tree) (Dynamics tree) (map (λ f. f.id) fs) (map (λ m. m.id) ms) a b)
    (distinct_obstacles tree is) (no_two tree (Both tree) (subst Q (both_are tree) (no_second_obstacle tree ok)))

pub unique_ids : (tree : List Element) → IsAccepted tree → IsTree tree → (s : Scenario) → Pairwise (IsLane tree) (at_path tree lanelets) s.lanelets.entries → Pairwise (IsMover tree) (at_path tree dynamics) s.movers
    → Pairwise (IsFixed tree) (at_path tree statics) s.fixed → Pairwise (IsProblem tree) (at_path tree problems) s.problems → HaveUniqueIds s
unique_ids tree ok is s ls ms fs ps = record {
  lanelets = unique_named tree (codes "lanelet") (IsLane tree) (λ l. l.0) (λ e l h. h.id) is (no_second_lanelet tree ok) s.lanelets.entries ls;
  obstacles = unique_obstacles tree ok is s.fixed s.movers fs ms;
  problems = unique_named tree (codes "planningProblem") (IsProblem tree) (λ p. p.id) (λ e p h. h.id) is (no_second_problem tree ok) s.problems ps;
}
