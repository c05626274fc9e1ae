-- Which of the first places of the bounds, and of the first lanelets, are too wide.
use Rattle.std.proofs.Common.{◌≡◌, inl, inr, ℕ, ◌+◌, ◌<◌, ◌≤◌, List, length, get_or, subst, sym, arith}
use Rattle.std.proofs.lemmas.Bool.{cases_eq}
use Rattle.std.proofs.lemmas.Option.{get_or_from_slice_get}
use Rattle.std.specs.Prelude.{Some, slice_get}
use Rattle.spot_terms.specs.Cells.{Pair, Lane}
use Rattle.spot_terms.specs.declared.scenario.RawLane.{RawLane}
use Rattle.spot_terms.specs.Limits.{AreFarApart, IsTooWide, AreNarrowBelow}
use Rattle.lanelets.proofs.Places.{same_at}
use Rattle.spot_terms.proofs.ItemPlaces.{got_below}

-- the points at each place below k are near each other
abbrev pub AreNearBelow : List Pair → List Pair → ℕ → Type 0
AreNearBelow ls rs k = (j : ℕ) (p q : Pair) → j < k → slice_get ls j ≡ Some p → slice_get rs j ≡ Some q → AreFarApart p q → ⊥

pub near_next : (ls rs : List Pair) (k m : ℕ) (d : Pair) → m ≡ k + 1 → AreNearBelow ls rs k → (AreFarApart (get_or ls k d) (get_or rs k d) → ⊥) → AreNearBelow ls rs m
near_next ls rs k m d e below here j p q low hp hq far = elim (cases_eq j k) [
  | inl same ↦ here (subst (λ (z : Pair). AreFarApart z (get_or rs k d)) (sym (get_or_from_slice_get ls k p d (subst (λ i. slice_get ls i ≡ Some p) same hp)))
      (subst (λ (z : Pair). AreFarApart p z) (sym (get_or_from_slice_get rs k q d (subst (λ i. slice_get rs i ≡ Some q) same hq))) far))
  | inr other ↦ below j p q (omega (arith, low, e, other)) hp hq far
]

pub near_all : (l : RawLane) (k : ℕ) → length l.left ≤ k → AreNearBelow l.left l.right k → IsTooWide l → ⊥
near_all l k h below w = let low = got_below l.left w.0 w.1 w.3 in below w.0 w.1 w.2 (omega (arith, low, h)) w.3 w.4 w.5

pub narrow_next : (lanes : List Lane) (n m : ℕ) (l : Lane) → m ≡ n + 1 → slice_get lanes n ≡ Some l → (IsTooWide l.1 → ⊥) → AreNarrowBelow lanes n → AreNarrowBelow lanes m
narrow_next lanes n m l e h here below k i low g wide = elim (cases_eq k n) [
  | inl same ↦ here (subst (λ (z : Lane). IsTooWide z.1) (same_at lanes n i l (subst (λ j. slice_get lanes j ≡ Some i) same g) h) wide)
  | inr other ↦ below k i (omega (arith, low, e, other)) g wide
]
