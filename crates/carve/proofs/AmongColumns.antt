-- What is taken away among the columns of a box, and the free runs of these columns.
use Rattle.std.proofs.Common.{◌≡◌, inl, inr, ℕ, arith, List, ℤ, pos, ◌+ℤ◌, ◌-ℤ◌, ◌≤ℤ◌, ◌<ℤ◌}
use Rattle.std.specs.Prelude.{◌↔◌}
use Rattle.std.proofs.lemmas.Int.{ints, by_lt_z}
use Rattle.spot_terms.specs.Grid.{slot_low, slot_high, AreFreeRuns, CoverTheRest, IsFreeRun, IsRemoved}
use Rattle.spot_terms.specs.Whole.{Within}
use Rattle.spot_terms.specs.declared.plain.Pt.{Pt}
use Rattle.carve.specs.Ranges.{HitsAmong}
use Rattle.carve.specs.Taking.{IsTaken, TakesBetween}
use Rattle.carve.specs.declared.runs.Span.{Span}
use Rattle.carve.proofs.Founds.{low_le}

-- what the spans of a row take among these places is what is removed there
pub taken_among : (count : ℕ) (hits : ℕ → Pt → Type 0) (left right g row : ℤ) (spans : List Span) → TakesBetween count (HitsAmong left right hits) (slot_low g row) (slot_high g row) spans
    → (x : ℤ) → left ≤ℤ x → x ≤ℤ right → IsRemoved count hits g row x ↔ IsTaken spans x
taken_among count hits left right g row spans exact x l m = (
  λ k. (exact x).0 (k.0, k.1, (k.2, record { low = l; high = m }), (k.3, record { low = l; high = m })),
  λ t. let k = (exact x).1 t in (k.0, k.1, k.2.0, k.3.0),
)

module _ (A B : ℤ → Type 0) (w first last : ℤ) (runs : List (ℤ × ℤ)) (wide : pos 0 <ℤ w) where
  -- a column's places are among those of all columns
  column_low : (col : ℤ) → Within first last col → slot_low w first ≤ℤ slot_low w col
  column_low col k = low_le w first col wide k.low

  column_high : (col : ℤ) → Within first last col → slot_high w col ≤ℤ slot_high w last
  column_high col k = let h = low_le w col last wide k.high in omega (arith, ints, h)

  same_run : (A B : ℤ → Type 0) (col lo hi : ℤ) → Within first last col → ((x : ℤ) → slot_low w first ≤ℤ x → x ≤ℤ slot_high w last → A x ↔ B x) → IsFreeRun B w col lo hi → IsFreeRun A w col lo hi
  same_run A B col lo hi k e f =
      let a = column_low col k in let b = column_high col k in
      let low = f.low in let some = f.some in let high = f.high in
      record {
        low = low;
        some = some;
        high = high;
        free = λ x z t. f.free x z ((e x (inside_low x z.low a low) (inside_high x z.high b high)).0 t);
        left = elim f.left [
          | inl h ↦ inl h
          | inr h ↦ by_lt_z (slot_low w col) lo
              (λ less. inr ((e (lo -ℤ pos 1) (before_low a less) (before_high b some high)).1 h))
              (λ le. inl (same_place lo (slot_low w col) le low))
        ];
        right = elim f.right [
          | inl h ↦ inl h
          | inr h ↦ by_lt_z hi (slot_high w col)
              (λ less. inr ((e (hi +ℤ pos 1) (behind_low a low some) (behind_high b less)).1 h))
              (λ le. inl (same_place hi (slot_high w col) high le))
        ];
      }
    where
      inside_low : (x : ℤ) → lo ≤ℤ x → slot_low w first ≤ℤ slot_low w col → slot_low w col ≤ℤ lo → slot_low w first ≤ℤ x
      inside_low x z a l = omega (arith, ints, z, a, l)

      inside_high : (x : ℤ) → x ≤ℤ hi → slot_high w col ≤ℤ slot_high w last → hi ≤ℤ slot_high w col → x ≤ℤ slot_high w last
      inside_high x z b h = omega (arith, ints, z, b, h)

      before_low : slot_low w first ≤ℤ slot_low w col → slot_low w col <ℤ lo → slot_low w first ≤ℤ (lo -ℤ pos 1)
      before_low a less = omega (arith, ints, a, less)

      before_high : slot_high w col ≤ℤ slot_high w last → lo ≤ℤ hi → hi ≤ℤ slot_high w col → (lo -ℤ pos 1) ≤ℤ slot_high w last
      before_high b s h = omega (arith, ints, b, s, h)

      behind_low : slot_low w first ≤ℤ slot_low w col → slot_low w col ≤ℤ lo → lo ≤ℤ hi → slot_low w first ≤ℤ (hi +ℤ pos 1)
      behind_low a l s = omega (arith, ints, a, l, s)

      behind_high : slot_high w col ≤ℤ slot_high w last → hi <ℤ slot_high w col → (hi +ℤ pos 1) ≤ℤ slot_high w last
      behind_high b less = omega (arith, ints, b, less)

      same_place : (x y : ℤ) → x ≤ℤ y → y ≤ℤ x → x ≡ y
      same_place x y h k = omega (arith, ints, h, k)

  -- free runs are free runs, whatever the words for what is removed among these columns
  pub runs_among : ((x : ℤ) → slot_low w first ≤ℤ x → x ≤ℤ slot_high w last → A x ↔ B x) → AreFreeRuns B w first last runs → AreFreeRuns A w first last runs
  runs_among e h = record {
    ordered = h.ordered;
    each = λ run i. let k = h.each run i in record { col = k.col; among = k.among; free_run = same_run A B k.col run.0 run.1 k.among e k.free_run };
    all = λ col lo hi k f. h.all col lo hi k (same_run B A col lo hi k (λ x l m. let z = e x l m in (z.1, z.0)) f);
  }

  -- and so are the places that lie in one
  pub cover_among : ((x : ℤ) → slot_low w first ≤ℤ x → x ≤ℤ slot_high w last → A x ↔ B x) → CoverTheRest B w first last runs → CoverTheRest A w first last runs
  cover_among e covers x l m = elim (covers x l m) [
    | inl t ↦ inl ((e x l m).1 t)
    | inr run ↦ inr run
  ]
