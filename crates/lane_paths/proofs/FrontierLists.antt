-- Lists of frontier entries, in any order.
use Rattle.std.proofs.Common.{◌≡◌, inl, inr, ℕ, ◌+◌, ◌≤◌, ◌<◌, arith, refl, sym, subst, List, ◌∷◌, length}
use Rattle.std.specs.Prelude.{slice_set, Some}
use Rattle.std.specs.List.Sorted.{IsPermutation}
use Rattle.std.proofs.lemmas.List.Sorted.{Contains-permutation, IsPermutation-sym, length_permutation}
use Rattle.spot_terms.proofs.Places.{place_of}
use Rattle.spot_terms.specs.Lists.{Includes}
use Rattle.spot_terms.proofs.ListLemmas.{includes_at}
use Rattle.lane_paths.specs.declared.shortest_lengths.ShortestLengths.{ShortestLengths}
use Rattle.lane_paths.proofs.RelaxLaws.{IsStep}

-- the same items, in another order
pub includes_moved : {X : Type 0} (xs ys : List X) (x : X) → IsPermutation xs ys → Includes xs x → Includes ys x
includes_moved xs ys x s i = let (k, inside, is) = Contains-permutation xs ys x s (place_of xs x x i) in subst (Includes ys) is (includes_at ys k x inside)

-- the hull of a cell was lowered
pub end_step : (c n : ℕ) (before after : ShortestLengths) → c < before.count → after.count ≡ before.count → after.limit ≡ before.limit → after.lengths ≡ slice_set before.lengths c (Some n) → after.frontier ≡ before.frontier → IsStep c n before after
end_step c n before after inside count limit lengths frontier = record {
  count_is = count;
  limit_is = limit;
  lengths_are = lengths;
  noted = λ d e. absurd (omega (arith, e, inside));
  waits = λ x i. subst (λ (z : List (ℕ × ℕ)). Includes z x) (sym frontier) i;
  within = λ x i. inl (subst (λ (z : List (ℕ × ℕ)). Includes z x) frontier i);
  more = subst (λ (z : List (ℕ × ℕ)). length z ≤ length before.frontier + 1) (sym frontier) (one_more (length before.frontier));
}
  where
    one_more : (k : ℕ) → k ≤ k + 1
    one_more k = omega arith

-- the entry of a cell was lowered
pub entry_step : (d n : ℕ) (before after : ShortestLengths) → d < before.count → after.count ≡ before.count → after.limit ≡ before.limit → after.lengths ≡ slice_set before.lengths (before.count + d) (Some n)
    → IsPermutation ((n, d) ∷ before.frontier) after.frontier → IsStep (before.count + d) n before after
entry_step d n before after inside count limit lengths frontier = record {
  count_is = count;
  limit_is = limit;
  lengths_are = lengths;
  noted = λ q e. subst (λ (z : ℕ). Includes after.frontier (n, z)) (same q e) (includes_moved ((n, d) ∷ before.frontier) after.frontier (n, d) frontier (inl refl));
  waits = λ x i. includes_moved ((n, d) ∷ before.frontier) after.frontier x frontier (inr i);
  within = λ x i. elim (includes_moved after.frontier ((n, d) ∷ before.frontier) x (IsPermutation-sym ((n, d) ∷ before.frontier) after.frontier frontier) i) [
    | inl e ↦ inr (subst (λ (z : ℕ × ℕ). z.1 < before.count) (sym e) inside)
    | inr j ↦ inl j
  ];
  more = let l : length after.frontier ≡ length ((n, d) ∷ before.frontier) = length_permutation ((n, d) ∷ before.frontier) after.frontier frontier in omega (arith, l);
}
  where
    same : (q : ℕ) → before.count + d ≡ before.count + q → d ≡ q
    same q e = omega (arith, e)
