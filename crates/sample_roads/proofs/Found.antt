-- What the paths of the profile find in the sample.
use Rattle.std.proofs.Common.{◌≡◌, ◌∙◌, ℕ, Bool, true, false, List, [], ◌∷◌, ◌++◌, map, filter, refl, sym, ap, subst, codes, append-nil}
use Rattle.std.specs.List.{AllByRecursion}
use Rattle.std.proofs.lemmas.List.Elements.{filter-append}
use Rattle.spot_terms.specs.Lists.{Includes, numbers_from}
use Rattle.spot_terms.proofs.Members.{all_in_map}
use Rattle.spot_claims.specs.Paths.{Path, lanelets, statics, dynamics, problems}
use Rattle.spot_claims.specs.Profile.{Check}
use Rattle.spot_terms.specs.Samples.{Made, holding}
use Rattle.spot_terms.specs.Samples.{lanelet, mover, problem, items, roads}
use Rattle.sample_roads.proofs.TreeLayer.{list_of, kids, has_label, walk_made}
use Rattle.sample_roads.proofs.Passing.{AllPass, Passes, from_each}

pub list_of_holding : (ms : List Made) → list_of (holding ms) ≡ ms
list_of_holding [] = refl
list_of_holding (m ∷ ms) = ap (λ (ns : List Made). m ∷ ns) (list_of_holding ms)

pub all_kept : (p : Made → Bool) (f : ℕ → Made) (ks : List ℕ) → ((k : ℕ) → p (f k) ≡ true) → filter p (map f ks) ≡ map f ks
all_kept p f [] h = refl
all_kept p f (k ∷ ks) h = let e = h k in rw e (ap (λ (ns : List Made). f k ∷ ns) (all_kept p f ks h))

pub none_kept : (p : Made → Bool) (f : ℕ → Made) (ks : List ℕ) → ((k : ℕ) → p (f k) ≡ false) → filter p (map f ks) ≡ []
none_kept p f [] h = refl
none_kept p f (k ∷ ks) h = let e = h k in rw e (none_kept p f ks h)

-- the items of a name
named : (p : Made → Bool) (seed lanes movers : ℕ) (a b c : List Made) → filter p (map (lanelet lanes) (numbers_from 1 lanes)) ≡ a → filter p (map (mover seed lanes) (numbers_from 0 movers)) ≡ b → filter p (problem ∷ []) ≡ c → filter p (kids (roads seed lanes movers)) ≡ a ++ (b ++ c)
named p seed lanes movers a b c ea eb ec =
    let ls : List Made = map (lanelet lanes) (numbers_from 1 lanes) in
    let ms : List Made = map (mover seed lanes) (numbers_from 0 movers) in
    ap (filter p) (list_of_holding (items seed lanes movers)) ∙ (filter-append p ls (ms ++ problem ∷ []) ∙ (ap (λ (xs : List Made). xs ++ filter p (ms ++ problem ∷ [])) ea
    ∙ ap (λ (xs : List Made). a ++ xs) (filter-append p ms (problem ∷ []) ∙ (ap (λ (xs : List Made). xs ++ filter p (problem ∷ [])) eb ∙ ap (λ (xs : List Made). b ++ xs) ec))))

pub found_lanelets : (seed lanes movers : ℕ) → walk_made lanelets (roads seed lanes movers ∷ []) ≡ map (lanelet lanes) (numbers_from 1 lanes)
found_lanelets seed lanes movers =
    append-nil (filter (has_label (codes "lanelet")) (kids (roads seed lanes movers)))
    ∙ (named (has_label (codes "lanelet")) seed lanes movers (map (lanelet lanes) (numbers_from 1 lanes)) [] []
    (all_kept (has_label (codes "lanelet")) (lanelet lanes) (numbers_from 1 lanes) (λ k. refl))
    (none_kept (has_label (codes "lanelet")) (mover seed lanes) (numbers_from 0 movers) (λ k. refl)) refl
    ∙ append-nil (map (lanelet lanes) (numbers_from 1 lanes)))

pub found_dynamics : (seed lanes movers : ℕ) → walk_made dynamics (roads seed lanes movers ∷ []) ≡ map (mover seed lanes) (numbers_from 0 movers)
found_dynamics seed lanes movers =
    append-nil (filter (has_label (codes "dynamicObstacle")) (kids (roads seed lanes movers)))
    ∙ (named (has_label (codes "dynamicObstacle")) seed lanes movers [] (map (mover seed lanes) (numbers_from 0 movers)) []
    (none_kept (has_label (codes "dynamicObstacle")) (lanelet lanes) (numbers_from 1 lanes) (λ k. refl))
    (all_kept (has_label (codes "dynamicObstacle")) (mover seed lanes) (numbers_from 0 movers) (λ k. refl)) refl
    ∙ append-nil (map (mover seed lanes) (numbers_from 0 movers)))

pub found_statics : (seed lanes movers : ℕ) → walk_made statics (roads seed lanes movers ∷ []) ≡ []
found_statics seed lanes movers =
    append-nil (filter (has_label (codes "staticObstacle")) (kids (roads seed lanes movers)))
    ∙ named (has_label (codes "staticObstacle")) seed lanes movers [] [] []
    (none_kept (has_label (codes "staticObstacle")) (lanelet lanes) (numbers_from 1 lanes) (λ k. refl))
    (none_kept (has_label (codes "staticObstacle")) (mover seed lanes) (numbers_from 0 movers) (λ k. refl)) refl

pub found_problems : (seed lanes movers : ℕ) → walk_made problems (roads seed lanes movers ∷ []) ≡ problem ∷ []
found_problems seed lanes movers =
    append-nil (filter (has_label (codes "planningProblem")) (kids (roads seed lanes movers)))
    ∙ named (has_label (codes "planningProblem")) seed lanes movers [] [] (problem ∷ [])
    (none_kept (has_label (codes "planningProblem")) (lanelet lanes) (numbers_from 1 lanes) (λ k. refl))
    (none_kept (has_label (codes "planningProblem")) (mover seed lanes) (numbers_from 0 movers) (λ k. refl)) refl

-- a way on from each of what was found
pub from_found : (checks : List Check) (w : Path) (ms : List Made) (f : ℕ → Made) (ks : List ℕ) → ms ≡ map f ks → ((k : ℕ) → Includes ks k → AllPass checks (walk_made w (f k ∷ []))) → AllPass checks (walk_made w ms)
from_found checks w ms f ks e h =
    let P : Made → Type 0 = λ m. AllByRecursion (Passes m) checks in
    let Q : List Made → Type 0 = λ ns. AllByRecursion P (walk_made w ns) in
    subst Q (sym e) (from_each P w (map f ks) (all_in_map (λ m. AllByRecursion P (walk_made w (m ∷ []))) f ks h))
