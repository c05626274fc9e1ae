-- The free runs of one column among those of all columns of a row: a stretch of the list.
use Rattle.std.proofs.Common.{◌≡◌, ◌⊎◌, inl, inr, subst, arith, List, ◌++◌}
use Rattle.std.proofs.lemmas.Int.{ints}
use Rattle.std.specs.List.{AllByRecursion}
use lib.IntN.{ℤ, pos, ◌+ℤ◌}
use lib.Signed.{◌≤ℤ◌, ◌<ℤ◌}
use Rattle.spot_terms.specs.Grid.{slot_low, slot_high, IsFreeRun, IsFreeRunOf, AreFreeRuns, CoverTheRest, IsInRun}
use Rattle.spot_terms.specs.Lists.{Includes}
use Rattle.spot_terms.specs.Whole.{Within}
use Rattle.spot_terms.proofs.ListLemmas.{all_of, all_included, includes_front, includes_back, includes_either}
use Rattle.spot_terms.proofs.Orders.{at_most_trans, at_most_below, antisymmetric, reflexive}
use Rattle.spot_terms.proofs.Quotients.{below_factor}
use Rattle.spot_terms.proofs.Ring.{spread_left}
use Rattle.carve.proofs.Founds.{low_le}
use Rattle.spot_terms.proofs.Slots.{one_slot}
use Rattle.spot_terms.proofs.Ascents.{ascends_back, ascends_front}

-- the runs before the column's, the column's, and those behind them
pub record IsStretch (w col : ℤ) (before runs behind : List (ℤ × ℤ)) : Type 0 where
  pub left : AllByRecursion (λ r. r.1 <ℤ slot_low w col) before
  pub here : AllByRecursion (λ r. Within (slot_low w col) (slot_high w col) r.0) runs
  pub right : AllByRecursion (λ r. slot_high w col <ℤ r.0) behind

module _ (Removed : ℤ → Type 0) (w : ℤ) (wide : pos 0 <ℤ w) (first last col : ℤ) (among : Within first last col) (before runs behind : List (ℤ × ℤ)) (stretch : IsStretch w col before runs behind) where
  among_all : (r : ℤ × ℤ) → Includes runs r → Includes (before ++ (runs ++ behind)) r
  among_all r j = includes_back before (runs ++ behind) r (includes_front runs behind r j)

  -- a run of the list that holds a place of the column is one of the column's
  in_stretch : (r : ℤ × ℤ) (x : ℤ) → Includes (before ++ (runs ++ behind)) r → Within (slot_low w col) (slot_high w col) x → r.0 ≤ℤ x → x ≤ℤ r.1 → Includes runs r
  in_stretch r x j cell low high = go (includes_either before (runs ++ behind) r j)
    where
      less : (a b c : ℤ) → a ≤ℤ b → b ≤ℤ c → c <ℤ a → ⊥
      less a b c h k l = absurd (omega (arith, ints, h, k, l))

      rest : Includes runs r ⊎ Includes behind r → Includes runs r
      rest (inl k) = k
      rest (inr k) = absurd (less r.0 x (slot_high w col) low cell.high (all_included (λ s. slot_high w col <ℤ s.0) behind r stretch.right k))

      go : Includes before r ⊎ Includes (runs ++ behind) r → Includes runs r
      go (inl k) = absurd (less (slot_low w col) x r.1 cell.low high (all_included (λ s. s.1 <ℤ slot_low w col) before r stretch.left k))
      go (inr k) = rest (includes_either runs behind r k)

  pub stretch_is_free : AreFreeRuns Removed w first last (before ++ (runs ++ behind)) → AreFreeRuns Removed w col col runs
  stretch_is_free free = record {
    ordered = ascends_front (λ r s. r.1 <ℤ s.0) runs behind (ascends_back (λ r s. r.1 <ℤ s.0) before (runs ++ behind) free.ordered);
    each = λ r j. own r (all_included (λ s. Within (slot_low w col) (slot_high w col) s.0) runs r stretch.here j) (free.each r (among_all r j));
    all = λ c lo hi k f. all c lo hi (antisymmetric c col k.high k.low) f;
  }
    where
      own : (r : ℤ × ℤ) → Within (slot_low w col) (slot_high w col) r.0 → IsFreeRunOf Removed w first last r → IsFreeRunOf Removed w col col r
      own r cell h =
          let same : h.col ≡ col = one_slot w h.col col r.0 wide (record { low = h.free_run.low; high = at_most_trans r.0 r.1 (slot_high w h.col) h.free_run.some h.free_run.high }) cell in
          record { col = col; among = record { low = reflexive col; high = reflexive col }; free_run = subst (λ (z : ℤ). IsFreeRun Removed w z r.0 r.1) same h.free_run }

      all : (c lo hi : ℤ) → c ≡ col → IsFreeRun Removed w c lo hi → Includes runs (lo, hi)
      all c lo hi same f =
          let here : IsFreeRun Removed w col lo hi = subst (λ (z : ℤ). IsFreeRun Removed w z lo hi) same f in
          in_stretch (lo, hi) lo (free.all col lo hi among here) (record { low = here.low; high = at_most_trans lo hi (slot_high w col) here.some here.high }) (reflexive lo) here.some

  -- and each place of the column is removed or in one of its runs
  pub stretch_covers : CoverTheRest Removed w first last (before ++ (runs ++ behind)) → CoverTheRest Removed w col col runs
  stretch_covers covers = λ x low high. go x (record { low = low; high = high }) (covers x (from x low) (to x high))
    where
      from : (x : ℤ) → slot_low w col ≤ℤ x → slot_low w first ≤ℤ x
      from x h = at_most_trans (slot_low w first) (slot_low w col) x (low_le w first col wide among.low) h

      to : (x : ℤ) → x ≤ℤ slot_high w col → x ≤ℤ slot_high w last
      to x h = let l = low_le w col last wide among.high in omega (arith, ints, h, l)

      go : (x : ℤ) → Within (slot_low w col) (slot_high w col) x → Removed x ⊎ IsInRun (before ++ (runs ++ behind)) x → Removed x ⊎ IsInRun runs x
      go x cell (inl gone) = inl gone
      go x cell (inr (r, j, k)) = inr (r, in_stretch r x j cell k.low k.high, k)

-- ---- a stretch by where its runs begin

-- a free run that begins left of a column ends there
ends_before : (w c col lo hi : ℤ) → pos 0 <ℤ w → slot_low w c ≤ℤ lo → hi ≤ℤ slot_high w c → lo <ℤ slot_low w col → hi <ℤ slot_low w col
ends_before w c col lo hi wide low high less =
    let before : c <ℤ col = below_factor c col w wide (at_most_below (slot_low w c) lo (slot_low w col) low less) in
    let next = low_le w (c +ℤ pos 1) col wide (omega (arith, ints, before)) in
    omega (arith, ints, high, next, spread_left c (pos 1) w)

pub stretch_by_starts : (Removed : ℤ → Type 0) (w : ℤ) → pos 0 <ℤ w → (first last col : ℤ) (before runs behind : List (ℤ × ℤ)) → AreFreeRuns Removed w first last (before ++ (runs ++ behind))
    → AllByRecursion (λ r. r.0 <ℤ slot_low w col) before → AllByRecursion (λ r. slot_low w col ≤ℤ r.0) runs → AllByRecursion (λ r. r.0 <ℤ slot_low w (col +ℤ pos 1)) runs
    → AllByRecursion (λ r. slot_low w (col +ℤ pos 1) ≤ℤ r.0) behind → IsStretch w col before runs behind
stretch_by_starts Removed w wide first last col before runs behind free left from to right = record {
  left = all_of (λ r. r.1 <ℤ slot_low w col) before (λ r j.
      let run = free.each r (includes_front before (runs ++ behind) r j) in
      ends_before w run.col col r.0 r.1 wide run.free_run.low run.free_run.high (all_included (λ r. r.0 <ℤ slot_low w col) before r left j));
  here = all_of (λ r. Within (slot_low w col) (slot_high w col) r.0) runs (λ r j. record {
    low = all_included (λ r. slot_low w col ≤ℤ r.0) runs r from j;
    high = upto r.0 (all_included (λ r. r.0 <ℤ slot_low w (col +ℤ pos 1)) runs r to j);
  });
  right = all_of (λ r. slot_high w col <ℤ r.0) behind (λ r j. past r.0 (all_included (λ r. slot_low w (col +ℤ pos 1) ≤ℤ r.0) behind r right j));
}
  where
    upto : (x : ℤ) → x <ℤ slot_low w (col +ℤ pos 1) → x ≤ℤ slot_high w col
    upto x h = omega (arith, ints, h, spread_left col (pos 1) w)

    past : (x : ℤ) → slot_low w (col +ℤ pos 1) ≤ℤ x → slot_high w col <ℤ x
    past x h = omega (arith, ints, h, spread_left col (pos 1) w)
