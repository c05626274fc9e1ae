-- The greatest value of a linear function, corner by corner.
use Rattle.std.proofs.Common.{◌≡◌, ℕ, ◌+◌, ◌<◌, ◌≤◌, arith, sym, ap, ◌∙◌, subst, List, length, get_or, inl, inr}
use Rattle.std.specs.Int.{int_max}
use lib.IntN.{ℤ}
use lib.Signed.{◌≤ℤ◌}
use Rattle.spot_terms.specs.declared.plain.Pt.{Pt}
use Rattle.spot_terms.specs.Lists.{Includes}
use Rattle.spot_terms.specs.Hull.{dot, IsSupport}
use Rattle.spot_terms.proofs.ListLemmas.{includes_at}
use Rattle.spot_terms.proofs.Orders.{at_most_trans, greater_is}
use Rattle.spot_terms.proofs.Places.{same_index, place_of, compare3}

-- g is the greatest value of the first i corners, and a corner has it
pub record IsGreatestUpTo (vs : List Pt) (nx ny : ℤ) (i : ℕ) (g : ℤ) : Type 0 where
  pub bound : (k : ℕ) (d : Pt) → k < i → dot nx ny (get_or vs k d) ≤ℤ g
  pub reached : (p : Pt) × Includes vs p × (dot nx ny p ≡ g)

pub first_reached : (vs : List Pt) (nx ny g : ℤ) (d : Pt) → 0 < length vs → g ≡ dot nx ny (get_or vs 0 d) → IsGreatestUpTo vs nx ny 0 g
first_reached vs nx ny g d h e = record { bound = λ k f l. absurd (omega arith); reached = (get_or vs 0 d, includes_at vs 0 d h, sym e) }

pub next_reached : (vs : List Pt) (nx ny : ℤ) (i : ℕ) (d : Pt) (g r m : ℤ) → i < length vs → IsGreatestUpTo vs nx ny i g → r ≡ dot nx ny (get_or vs i d) → m ≡ int_max g r → IsGreatestUpTo vs nx ny (i + 1) m
next_reached vs nx ny i d g r m h u e f =
    let w = greater_is g r m f in
    record {
      bound = λ k k_d l. compare3 k i
          (λ less. at_most_trans _ _ _ (u.bound k k_d less) w.0)
          (λ same. subst (λ z. z ≤ℤ m) (e ∙ ap (λ (p : Pt). dot nx ny p) (sym (same_index vs i k k_d d (omega (arith, same, h)) same))) w.1.0)
          (λ more. absurd (omega (arith, l, more)));
      reached = elim w.1.1 [
        | inl old ↦ (u.reached.0, u.reached.1, u.reached.2 ∙ sym old)
        | inr new ↦ (get_or vs i d, includes_at vs i d h, sym e ∙ sym new)
      ];
    }

pub whole_support : (vs : List Pt) (nx ny : ℤ) (i : ℕ) (g : ℤ) → length vs ≤ i → IsGreatestUpTo vs nx ny i g → IsSupport vs nx ny g
whole_support vs nx ny i g h u = record {
  bound = λ c j. let (k, l, e) = place_of vs c c j in subst (λ (p : Pt). dot nx ny p ≤ℤ g) e (u.bound k c (omega (arith, l, h)));
  reached = u.reached;
}
