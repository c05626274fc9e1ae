-- A scenario has one number of pairs: one start of an obstacle, and one list of the cells that it reaches.
use Rattle.std.proofs.Common.{◌≡◌, ◌∙◌, ℕ, ◌+◌, inl, inr, List, [], ◌∷◌, ◌++◌, length, refl, sym, ap, subst, arith}
use Rattle.spot_terms.specs.Cells.{Lane}
use Rattle.spot_terms.specs.LanePolygons.{IsReached}
use Rattle.spot_terms.specs.Lists.{Lists}
use Rattle.spot_terms.specs.Participants.{IsStartOf, ReachesCells, PairsSumTo}
use Rattle.spot_terms.specs.declared.plain.AccStart.{AccStart}
use Rattle.spot_terms.specs.declared.scenario.Mover.{Mover}
use Rattle.spot_terms.proofs.Listings.{lists_one}
use Rattle.spot_terms.proofs.OneStart.{start_one, speed_one}
use Rattle.participants.specs.Predictions.{PairsAreOne}

module _ (lanes : List Lane) (k steps : ℕ) where
  -- two lists of the cells that an obstacle reaches are equal
  pub reached_one : (m : Mover) (s t : AccStart) (speed other : ℕ) (xs ys : List ℕ) → IsStartOf m s speed → IsStartOf m t other
      → Lists (IsReached lanes s speed k steps) xs → Lists (IsReached lanes t other k steps) ys → xs ≡ ys
  reached_one m s t speed other xs ys h i l j =
      let e : s ≡ t = start_one m s t speed other h i in
      let f : speed ≡ other = speed_one m s t speed other h i in
      let l1 : Lists (IsReached lanes t speed k steps) xs = subst (λ (x : AccStart). Lists (IsReached lanes x speed k steps) xs) e l in
      let l2 : Lists (IsReached lanes t other k steps) xs = subst (λ (x : ℕ). Lists (IsReached lanes t x k steps) xs) f l1 in
      lists_one (IsReached lanes t other k steps) xs ys l2 j

  -- an obstacle reaches one number of cells
  reaches_one : (m : Mover) (n o : ℕ) → ReachesCells lanes k steps m n → ReachesCells lanes k steps m o → n ≡ o
  reaches_one m n o (inl h) (inl i) =
      let (s, speed, xs, a, l, e) = h.1 in
      let (t, other, ys, b, j, f) = i.1 in
      e ∙ ap length (reached_one m s t speed other xs ys a b l j) ∙ sym f
  reaches_one m n o (inl h) (inr i) = absurd (i.0 h.0)
  reaches_one m n o (inr h) (inl i) = absurd (h.0 i.0)
  reaches_one m n o (inr h) (inr i) = h.1 ∙ sym i.1

  pub pairs_one : (movers : List Mover) (n o : ℕ) → PairsSumTo lanes k steps movers n → PairsSumTo lanes k steps movers o → n ≡ o
  pairs_one [] n o h i = h ∙ sym i
  pairs_one (m ∷ movers) n o h i =
      let (count, rest, a, p, e) = h in
      let (other, left, b, q, f) = i in
      let first : count ≡ other = reaches_one m count other a b in
      let others : rest ≡ left = pairs_one movers rest left p q in
      omega arith

  -- one more obstacle
  pub pairs_push : (movers : List Mover) (m : Mover) (n count : ℕ) → PairsSumTo lanes k steps movers n → ReachesCells lanes k steps m count → PairsSumTo lanes k steps (movers ++ m ∷ []) (n + count)
  pairs_push [] m n count h r = (count, 0, r, refl, omega arith)
  pairs_push (x ∷ movers) m n count h r =
      let (first, rest, a, p, e) = h in
      (first, rest + count, a, pairs_push movers m rest count p r, omega arith)

pub pairs_are_one : PairsAreOne
pairs_are_one lanes k steps movers n m = pairs_one lanes k steps movers n m
