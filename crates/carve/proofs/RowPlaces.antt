-- Where the columns and rows of a box stand, and free runs over equal words.
use Rattle.std.proofs.Common.{◌≡◌, ◌⊎◌, inl, inr, ℕ, ◌<◌, ◌≤◌, refl, sym, ap, subst, arith, List, sum_by, ℤ, pos, negsuc, nat_abs, ◌+ℤ◌, ◌-ℤ◌, ◌*ℤ◌, ◌≤ℤ◌, ◌<ℤ◌, length, FitsSigned, w64}
use Rattle.std.specs.Prelude.{◌↔◌}
use Rattle.std.proofs.lemmas.Int.{ints}
use Rattle.spot_terms.specs.Courses.{slots_met}
use Rattle.spot_terms.specs.Grid.{slot, slot_low, slot_high, AreFreeRuns, CoverTheRest, IsFreeRun, IsRemoved}
use Rattle.spot_terms.specs.Lists.{numbers_below}
use Rattle.spot_terms.specs.RowBoxes.{slots_shared}
use Rattle.spot_terms.specs.Whole.{Within, count_between}
use Rattle.spot_terms.specs.declared.plain.Pt.{Pt}
use Rattle.spot_terms.proofs.Quotients.{product_le_at, next_product_gt_at}
use Rattle.spot_terms.proofs.Ring.{spread_left}
use Rattle.carve.specs.Taking.{IsTaken, TakesBetween}
use Rattle.carve.specs.declared.runs.Span.{Span}
use Rattle.spot_terms.proofs.Slots.{slots_rise}

pub fits_wide : (w : ℤ) → Within (pos 100_000) (pos 100_000_000) w → FitsSigned w64 w
fits_wide w h = let low = h.low in let high = h.high in omega (arith, ints)

pub fits_place : (x : ℤ) → nat_abs x ≤ 40_000_000_000_000 → FitsSigned w64 x
fits_place x h = omega (arith, ints)

-- the least place of the column of x is near
pub low_near : (w x : ℤ) → Within (pos 100_000) (pos 100_000_000) w → nat_abs x ≤ 40_000_000_000_000 → nat_abs (slot_low w (slot w x)) ≤ 50_000_000_000_000
low_near w x h k =
    let wide : pos 0 <ℤ w = omega (arith, ints, h.low) in
    let a = product_le_at x w (slot w x) wide refl in
    let b = next_product_gt_at x w (slot w x) wide refl in
    let c = spread_left (slot w x) (pos 1) w in
    within (slot w x *ℤ w) ((slot w x +ℤ pos 1) *ℤ w) x w a b (omega (arith, ints, c)) h k
  where
    within : (p q x w : ℤ) → p ≤ℤ x → x <ℤ q → q ≡ p +ℤ w → Within (pos 100_000) (pos 100_000_000) w → nat_abs x ≤ 40_000_000_000_000 → nat_abs p ≤ 50_000_000_000_000
    within p q x w a b c h k = omega (arith, ints, a, b, c, h.low, h.high, k)

-- and so is the least place of the column behind it
pub next_near : (w x : ℤ) → Within (pos 100_000) (pos 100_000_000) w → nat_abs x ≤ 40_000_000_000_000 → nat_abs (slot_low w (slot w x +ℤ pos 1)) ≤ 50_000_000_000_000
next_near w x h k =
    let wide : pos 0 <ℤ w = omega (arith, ints, h.low) in
    let a = product_le_at x w (slot w x) wide refl in
    let b = next_product_gt_at x w (slot w x) wide refl in
    let c = spread_left (slot w x) (pos 1) w in
    within (slot w x *ℤ w) ((slot w x +ℤ pos 1) *ℤ w) x w a b (omega (arith, ints, c)) h k
  where
    within : (p q x w : ℤ) → p ≤ℤ x → x <ℤ q → q ≡ p +ℤ w → Within (pos 100_000) (pos 100_000_000) w → nat_abs x ≤ 40_000_000_000_000 → nat_abs q ≤ 50_000_000_000_000
    within p q x w a b c h k = omega (arith, ints, a, b, c, h.low, h.high, k)

-- as many columns as their numbers tell
pub columns_are : (first last : ℤ) (n : ℕ) → pos n ≡ last -ℤ first +ℤ pos 1 → n ≡ count_between first last
columns_are first last n e = rw (← e) refl

pub columns_counted : (first last : ℤ) → first ≤ℤ last → pos (count_between first last) ≡ last -ℤ first +ℤ pos 1
columns_counted first last h = from_whole (last -ℤ first +ℤ pos 1) refl
  where
    from_whole : (z : ℤ) → z ≡ last -ℤ first +ℤ pos 1 → pos (count_between first last) ≡ last -ℤ first +ℤ pos 1
    from_whole (pos n) e = rw (← e) refl
    from_whole (negsuc n) e = absurd (omega (arith, ints, e, h))

-- ---- free runs are free runs whatever the words for what is removed

same_run : (A B : ℤ → Type 0) (w col lo hi : ℤ) → ((x : ℤ) → A x ↔ B x) → IsFreeRun B w col lo hi → IsFreeRun A w col lo hi
same_run A B w col lo hi e f = record {
  low = f.low;
  some = f.some;
  high = f.high;
  free = λ x k a. f.free x k ((e x).0 a);
  left = elim f.left [ inl h ↦ inl h | inr h ↦ inr ((e (lo -ℤ pos 1)).1 h) ];
  right = elim f.right [ inl h ↦ inl h | inr h ↦ inr ((e (hi +ℤ pos 1)).1 h) ];
}

pub same_runs : (A B : ℤ → Type 0) (w first last : ℤ) (runs : List (ℤ × ℤ)) → ((x : ℤ) → A x ↔ B x) → AreFreeRuns B w first last runs → AreFreeRuns A w first last runs
same_runs A B w first last runs e h = record {
  ordered = h.ordered;
  each = λ run i. let k = h.each run i in record { col = k.col; among = k.among; free_run = same_run A B w k.col run.0 run.1 e k.free_run };
  all = λ col lo hi k f. h.all col lo hi k (same_run B A w col lo hi (λ x. ((e x).1, (e x).0)) f);
}

-- what the spans of a row take is what is removed there
taken_rows : (count : ℕ) (hits : ℕ → Pt → Type 0) (g row low high : ℤ) (spans : List Span) → low ≡ slot_low g row → high ≡ slot_high g row → TakesBetween count hits low high spans
    → (x : ℤ) → IsRemoved count hits g row x ↔ IsTaken spans x
taken_rows count hits g row low high spans a b exact =
    subst (λ (z : ℤ). (x : ℤ) → ((p : ℕ) × (p < count) × hits p (record { x = x; y = slot_low g row }) × hits p (record { x = x; y = z })) ↔ IsTaken spans x) b
    (subst (λ (z : ℤ). (x : ℤ) → ((p : ℕ) × (p < count) × hits p (record { x = x; y = z }) × hits p (record { x = x; y = high })) ↔ IsTaken spans x) a exact)

-- the free runs of equal words
pub free_read : (spans : List Span) (w v first a last b : ℤ) (runs : List (ℤ × ℤ)) → v ≡ w → a ≡ first → b ≡ last → AreFreeRuns (IsTaken spans) v a b runs → AreFreeRuns (IsTaken spans) w first last runs
free_read spans w v first a last b runs e f h are =
    subst (λ (z : ℤ). AreFreeRuns (IsTaken spans) w first z runs) h
    (subst (λ (z : ℤ). AreFreeRuns (IsTaken spans) w z b runs) f
    (subst (λ (z : ℤ). AreFreeRuns (IsTaken spans) z a b runs) e are))

pub covers_read : (spans : List Span) (w v first a last b : ℤ) (runs : List (ℤ × ℤ)) → v ≡ w → a ≡ first → b ≡ last → CoverTheRest (IsTaken spans) v a b runs → CoverTheRest (IsTaken spans) w first last runs
covers_read spans w v first a last b runs e f h covers =
    subst (λ (z : ℤ). CoverTheRest (IsTaken spans) w first z runs) h
    (subst (λ (z : ℤ). CoverTheRest (IsTaken spans) w z b runs) f
    (subst (λ (z : ℤ). CoverTheRest (IsTaken spans) z a b runs) e covers))

-- each place is removed or lies in a run, whatever the words for what is removed
pub same_cover : (A B : ℤ → Type 0) (w first last : ℤ) (runs : List (ℤ × ℤ)) → ((x : ℤ) → A x ↔ B x) → CoverTheRest B w first last runs → CoverTheRest A w first last runs
same_cover A B w first last runs e covers x l m = elim (covers x l m) [
  | inl t ↦ inl ((e x).1 t)
  | inr run ↦ inr run
]

-- the free runs of a row, in the words of what is removed there
pub row_exact : (count : ℕ) (hits : ℕ → Pt → Type 0) (g row low high : ℤ) (spans others : List Span) (w first last : ℤ) (runs : List (ℤ × ℤ)) → low ≡ slot_low g row → high ≡ slot_high g row
    → TakesBetween count hits low high spans → others ≡ spans → AreFreeRuns (IsTaken others) w first last runs → AreFreeRuns (IsRemoved count hits g row) w first last runs
row_exact count hits g row low high spans others w first last runs p q exact d are =
    same_runs (IsRemoved count hits g row) (IsTaken spans) w first last runs (taken_rows count hits g row low high spans p q exact)
    (subst (λ (s : List Span). AreFreeRuns (IsTaken s) w first last runs) d are)

pub row_covers : (count : ℕ) (hits : ℕ → Pt → Type 0) (g row low high : ℤ) (spans others : List Span) (w first last : ℤ) (runs : List (ℤ × ℤ)) → low ≡ slot_low g row → high ≡ slot_high g row
    → TakesBetween count hits low high spans → others ≡ spans → CoverTheRest (IsTaken others) w first last runs → CoverTheRest (IsRemoved count hits g row) w first last runs
row_covers count hits g row low high spans others w first last runs p q exact d covers =
    same_cover (IsRemoved count hits g row) (IsTaken spans) w first last runs (taken_rows count hits g row low high spans p q exact)
    (subst (λ (s : List Span). CoverTheRest (IsTaken s) w first last runs) d covers)

-- ---- how many pieces a row meets

-- the same bound of equal numbers
pub alike : (range : ℕ → ℤ × ℤ) (m n : ℕ) (g h low bottom high top : ℤ) → g ≡ h → low ≡ bottom → high ≡ top → m ≤ sum_by (λ p. slots_shared g (range p) (low, high)) (numbers_below n)
    → m ≤ sum_by (λ p. slots_shared h (range p) (bottom, top)) (numbers_below n)
alike range m n g h low bottom high top e f k few =
    subst (λ (z : ℤ). m ≤ sum_by (λ p. slots_shared h (range p) (bottom, z)) (numbers_below n)) k
    (subst (λ (z : ℤ). m ≤ sum_by (λ p. slots_shared h (range p) (z, high)) (numbers_below n)) f
    (subst (λ (z : ℤ). m ≤ sum_by (λ p. slots_shared z (range p) (low, high)) (numbers_below n)) e few))
