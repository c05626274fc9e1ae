-- Rows turned round, row by row.
use Rattle.std.proofs.Common.{◌≡◌, ◌∙◌, ◌⊎◌, inl, inr, ℕ, zero, suc, ◌+◌, ◌<◌, ◌≤◌, List, [], ◌∷◌, ◌++◌, length, set, refl, sym, subst, arith}
use Rattle.std.proofs.lemmas.Bool.{cases_eq}
use Rattle.std.proofs.lemmas.List.{length-set}
use Rattle.std.specs.Prelude.{Some, slice_get}
use Rattle.std.specs.List.{AllByRecursion}
use Rattle.spot_terms.specs.Lists.{Includes, Lists}
use Rattle.spot_terms.proofs.ListLemmas.{includes_back, includes_either, includes_front}
use Rattle.lanelets.specs.Listing.{Gains, IsWith, HasRow, IsRowWith, AreColumns}
use Rattle.lanelets.proofs.NumberLists.{gains_same, gains_more, gains_as, lists_as, lists_none, lists_next}
use Rattle.lanelets.proofs.Places.{get_set_same, get_set_other, all_got}
use Rattle.spot_terms.proofs.ItemPlaces.{got_below}

-- a row with nothing in it
pub row_none : (columns : List (List ℕ)) (i : ℕ) → HasRow columns [] i columns
row_none columns i = record {
  many = refl;
  each = λ x old new h k. let e : old ≡ new = cc in subst (λ (ys : List ℕ). Gains ⊥ i old ys) e (gains_same ⊥ i old (λ f. absurd f));
}

same_in_row : (P : ℕ → Type 0) (row : List ℕ) (x y : ℕ) → Includes (row ++ y ∷ []) x → (Includes row x) ⊎ (x ≡ y)
same_in_row P row x y i = elim (includes_either row (y ∷ []) x i) [ inl j ↦ inl j | inr j ↦ elim j [ inl e ↦ inr e | inr k ↦ absurd k ] ]

-- a row with one number more
pub row_more : (a b : List (List ℕ)) (row : List ℕ) (y i : ℕ) (old new : List ℕ) → HasRow a row i b → slice_get b y ≡ Some old → IsWith old i new → HasRow a (row ++ y ∷ []) i (set b y new)
row_more a b row y i old new h was with = record {
  many = length-set b y new ∙ h.many;
  each = λ x before after k l. elim (cases_eq x y) [
    | inl same ↦
        (let was_here : slice_get b x ≡ Some old = subst (λ z. slice_get b z ≡ Some old) (sym same) was in
        let is_here : slice_get (set b y new) x ≡ Some new = subst (λ z. slice_get (set b y new) z ≡ Some new) (sym same) (get_set_same b y old new was) in
        let e : new ≡ after = cc in
        subst (λ (ys : List ℕ). Gains (Includes (row ++ y ∷ []) x) i before ys) e
        (gains_as ((Includes row x) ⊎ (x ≡ y)) (Includes (row ++ y ∷ []) x) i before new
        (λ s. elim s [ inl j ↦ includes_front row (y ∷ []) x j | inr j ↦ includes_back row (y ∷ []) x (inl j) ])
        (same_in_row (λ z. z ≡ y) row x y)
        (gains_more (Includes row x) (x ≡ y) i before old new (h.each x before old k was_here) with same)))
    | inr other ↦
        (let was_here : slice_get b x ≡ Some after = sym (get_set_other b x y new other) ∙ l in
        gains_as (Includes row x) (Includes (row ++ y ∷ []) x) i before after
        (λ j. includes_front row (y ∷ []) x j)
        (λ s. elim (same_in_row (λ z. z ≡ y) row x y s) [ inl j ↦ j | inr j ↦ absurd (other j) ])
        (h.each x before after k was_here))
  ];
}

-- the rows before row i are turned round
pub record AreColumnsBelow (rows : List (List ℕ)) (i count : ℕ) (columns : List (List ℕ)) : Type 0 where
  pub many : length columns ≡ count
  pub each : (x : ℕ) (column : List ℕ) → slice_get columns x ≡ Some column → Lists (λ k. (k < i) × IsRowWith rows x k) column

pub columns_none : (rows : List (List ℕ)) (count : ℕ) (columns : List (List ℕ)) → length columns ≡ count → AllByRecursion (λ (list : List ℕ). list ≡ []) columns → AreColumnsBelow rows 0 count columns
columns_none rows count columns e h = record {
  many = e;
  each = λ x column k. let none = all_got (λ (list : List ℕ). list ≡ []) columns x column h k in
      subst (λ (ys : List ℕ). Lists (λ k. (k < 0) × IsRowWith rows x k) ys) (sym none) (lists_none (λ k. (k < 0) × IsRowWith rows x k) (λ y p. let low = p.0 in omega (arith, low)));
}

row_at : (rows : List (List ℕ)) (x i : ℕ) (row : List ℕ) → slice_get rows i ≡ Some row → IsRowWith rows x i → Includes row x
row_at rows x i row h p = let e : p.0 ≡ row = (let q = p.1 in cc) in subst (λ (ys : List ℕ). Includes ys x) e p.2

old_at : (a b : List (List ℕ)) (x : ℕ) (new : List ℕ) → length b ≡ length a → slice_get b x ≡ Some new → (old : List ℕ) × (slice_get a x ≡ Some old)
old_at [] [] x new e h = cc
old_at [] (y ∷ b) x new e h = absurd (omega (arith, e))
old_at (z ∷ a) [] x new e h = absurd (omega (arith, e))
old_at (z ∷ a) (y ∷ b) zero new e h = (z, refl)
old_at (z ∷ a) (y ∷ b) (suc x) new e h = old_at a b x new (omega (arith, e)) h

pub columns_next : (rows : List (List ℕ)) (i j count : ℕ) (row : List ℕ) (a b : List (List ℕ)) → j ≡ i + 1 → slice_get rows i ≡ Some row → AreColumnsBelow rows i count a → HasRow a row i b → AreColumnsBelow rows j count b
columns_next rows i j count row a b e h below has = record {
  many = has.many ∙ below.many;
  each = λ x column k. let old = old_at a b x column has.many k in
      lists_next (IsRowWith rows x) (Includes row x) i j old.0 column e (row_at rows x i row h) (λ m. (row, h, m)) (below.each x old.0 old.1) (has.each x old.0 column old.1 k);
}

pub columns_all : (rows : List (List ℕ)) (i count : ℕ) (columns : List (List ℕ)) → length rows ≤ i → AreColumnsBelow rows i count columns → AreColumns rows count columns
columns_all rows i count columns h below = record {
  many = below.many;
  each = λ x column k. lists_as (λ y. (y < i) × IsRowWith rows x y) (IsRowWith rows x) column (λ y p. p.1) (λ y p. (let low = got_below rows y p.0 p.1 in omega (arith, low, h), p)) (below.each x column k);
}
