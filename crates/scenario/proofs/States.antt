-- The recorded states of an accepted tree are in their ranges.
use Rattle.std.proofs.Common.{◌≡◌, inl, inr, ℕ, ◌≤◌, ℤ, pos, neg_ℤ, List, [], ◌∷◌, Some, refl, sym, subst, arith, codes}
use Rattle.std.specs.List.{AllByRecursion}
use Rattle.std.proofs.lemmas.Int.{ints}
use Rattle.spot_terms.proofs.ListLemmas.{includes_either}
use Rattle.spot_terms.specs.Lists.{Includes, Pairwise}
use Rattle.spot_terms.specs.Decimal.{Reads}
use Rattle.spot_terms.specs.Whole.{Within, SizeAtMost}
use Rattle.spot_terms.specs.Ranges.{IsStateInRange, AreStatesInRange}
use Rattle.spot_terms.specs.declared.scenario.Mover.{Mover}
use Rattle.spot_claims.specs.Tree.{Element, first_named, text_at}
use Rattle.spot_claims.specs.Paths.{at_path, dynamics, first_child}
use Rattle.spot_claims.specs.Profile.{IsAccepted, Number, coordinate, step_number}
use Rattle.spot_claims.specs.Radii.{Holds}
use Rattle.spot_claims.specs.Scenario.{below, HoldsExact, HoldsPosition, IsRecorded, IsMover, recorded_of}
use Rattle.scenario.specs.Has.{HasNumber, HasExact, HasPosition, HasRecorded, HasMover, later_states}
use Rattle.scenario.proofs.Accepts.{has_mover}
use Rattle.scenario.proofs.Facts.{one_child}
use Rattle.scenario.proofs.Readings.{within_of}
use Rattle.spot_terms.proofs.Unique.{some_one}

-- ---- numbers

within_number : (tree : List Element) (e : ℕ) (name : List ℕ) (n : Number) (r : ℤ) → HasNumber tree e name n → Holds tree e name n.places r → Within n.least n.most r
within_number tree e name n r has holds =
    let same : holds.0 ≡ has.child = some_one (first_named tree name e) holds.0 has.child holds.1 has.child_is in
    let P : ℕ → Type 0 = λ c. Reads n.places (text_at tree c) r in
    within_of n (text_at tree has.child) r has.good (subst P same holds.2)

within_exact : (tree : List Element) (e : ℕ) (name : List ℕ) (n : Number) (r : ℤ) → HasExact tree e name n → HoldsExact tree e name n.places r → Within n.least n.most r
within_exact tree e name n r has holds =
    let same : holds.0 ≡ has.child = some_one (first_named tree name e) holds.0 has.child holds.1 has.child_is in
    let P : ℕ → Type 0 = λ c. Holds tree c (codes "exact") n.places r in
    within_number tree has.child (codes "exact") n r has.exact (subst P same holds.2)

within_position : (tree : List Element) (e : ℕ) (x y : ℤ) → HasPosition tree e → HoldsPosition tree e x y → Within coordinate.least coordinate.most x × Within coordinate.least coordinate.most y
within_position tree e x y has holds =
    let same : holds.0 ≡ has.position = some_one (first_named tree (codes "position") e) holds.0 has.position holds.2 has.position_is in
    let P : ℕ → Type 0 = λ c. first_named tree (codes "point") c ≡ Some holds.1 in
    let point : holds.1 ≡ has.point = some_one (first_named tree (codes "point") has.position) holds.1 has.point (subst P same holds.3) has.point_is in
    let X : ℕ → Type 0 = λ c. Holds tree c (codes "x") 6 x in
    let Y : ℕ → Type 0 = λ c. Holds tree c (codes "y") 6 y in
    (within_number tree has.point (codes "x") coordinate x has.has.x (subst X point holds.4), within_number tree has.point (codes "y") coordinate y has.has.y (subst Y point holds.5))

size_of : (m : ℕ) (z : ℤ) → Within (neg_ℤ (pos m)) (pos m) z → SizeAtMost m z
size_of m z w = let low = w.low in let high = w.high in omega (arith, ints, low, high)

least_of : (m n : ℕ) → Within (pos 0) (pos m) (pos n) → n ≤ m
least_of m n w = let high = w.high in omega (arith, ints, high)

-- ---- states

state_in_range : (tree : List Element) (e : ℕ) (r : ℕ × ℤ × ℤ) → HasRecorded tree e → IsRecorded tree e r → IsStateInRange r
state_in_range tree e r has is =
    let at = within_position tree e r.1 r.2 has.position is.1 in
    record {
      time = least_of 1_000_000 r.0 (within_exact tree e (codes "time") step_number (pos r.0) has.time is.0);
      x = size_of 10_000_000_000_000 r.1 at.0;
      y = size_of 10_000_000_000_000 r.2 at.1;
    }

all_in_range : (tree : List Element) (es : List ℕ) (rs : List (ℕ × ℤ × ℤ)) → ((e : ℕ) → Includes es e → HasRecorded tree e) → Pairwise (IsRecorded tree) es rs → AllByRecursion IsStateInRange rs
all_in_range tree [] [] has p = tt
all_in_range tree [] (r ∷ rs) has p = absurd p
all_in_range tree (e ∷ es) [] has p = absurd p
all_in_range tree (e ∷ es) (r ∷ rs) has p = (state_in_range tree e r (has e (inl refl)) p.0, all_in_range tree es rs (λ d h. has d (inr h)) p.1)

of_start : (tree : List Element) (start n : ℕ) → HasRecorded tree start → Includes (start ∷ []) n → HasRecorded tree n
of_start tree start n has (inl s) = let P : ℕ → Type 0 = λ x. HasRecorded tree x in subst P (sym s) has
of_start tree start n has (inr k) = absurd k

-- the initial state, and those of the trajectory
each_recorded : (tree : List Element) (e : ℕ) → HasMover tree e → (n : ℕ) → Includes (recorded_of tree e) n → HasRecorded tree n
each_recorded tree e has n h = elim (includes_either (below tree e (first_child (codes "initialState") ∷ [])) (later_states tree e) n h) [
  | inl k ↦
      let P : List ℕ → Type 0 = λ l. Includes l n in
      let first : HasRecorded tree has.start = record { position = has.start_has.position; time = has.start_has.time } in
      of_start tree has.start n first (subst P (one_child tree (codes "initialState") e has.start has.start_is) k)
  | inr k ↦ has.states n k
]

movers_in_range : (tree : List Element) (es : List ℕ) (ms : List Mover) → ((e : ℕ) → Includes es e → HasMover tree e) → Pairwise (IsMover tree) es ms → AllByRecursion AreStatesInRange ms
movers_in_range tree [] [] has p = tt
movers_in_range tree [] (m ∷ ms) has p = absurd p
movers_in_range tree (e ∷ es) [] has p = absurd p
movers_in_range tree (e ∷ es) (m ∷ ms) has p =
    (all_in_range tree (recorded_of tree e) m.recorded (each_recorded tree e (has e (inl refl))) p.0.recorded, movers_in_range tree es ms (λ d h. has d (inr h)) p.1)

pub states_in_range : (tree : List Element) → IsAccepted tree → (ms : List Mover) → Pairwise (IsMover tree) (at_path tree dynamics) ms → AllByRecursion AreStatesInRange ms
states_in_range tree ok ms p = movers_in_range tree (at_path tree dynamics) ms (has_mover tree ok) p
