-- A table as it is made: cells one after another.
use Rattle.std.proofs.Common.{◌≡◌, ◌∙◌, ◌⊎◌, ℕ, zero, suc, ◌+◌, ◌≤◌, ◌<◌, arith, ap, sym, refl, subst, List, [], ◌∷◌, ◌++◌, length, length-append, Bool, true, false, inl, inr}
use Rattle.std.specs.Prelude.{Option, Some, None, slice_get}
use Rattle.std.proofs.lemmas.Option.{none-some, same_Some}
use Rattle.spot_terms.specs.CellNumbers.{Numbers}
use Rattle.round_out.specs.declared.frames.FrameNumbers.{FrameNumbers}
use Rattle.base_sets.specs.declared.grid.Grid.{Grid}
use Rattle.base_sets.specs.declared.grid.OuterBox.{OuterBox}
use lib.IntN.{ℤ}
use Rattle.merge_sets.specs.BoxSlots.{AreNear, HasCell}
use Rattle.merge_sets.specs.declared.places.BoxSlots.{BoxSlots}
use Rattle.merge_sets.specs.Cells.{AreUnused, IsTable, numbers_of}
use Rattle.merge_sets.specs.Opening.{IsOpened}
use Rattle.merge_sets.specs.declared.cells.Cell.{Cell}

-- a cell that has no numbers
pub not_taken : (c : Cell) → numbers_of c ≡ None → c.taken ≡ false
not_taken c e = by (c.taken) refl
  where
    by : (b : Bool) → c.taken ≡ b → c.taken ≡ false
    by false f = f
    by true f = absurd (none-some (c.x.n, c.y.n) (sym e ∙ rw f refl))

in_pushed : (cells : List Cell) (d : Cell) (i : ℕ) (c : Cell) → slice_get (cells ++ d ∷ []) i ≡ Some c → (slice_get cells i ≡ Some c) ⊎ (c ≡ d)
in_pushed [] d zero c e = inr (sym (same_Some d c e))
in_pushed [] d (suc i) c e = absurd (none-some c e)
in_pushed (b ∷ cells) d zero c e = inl e
in_pushed (b ∷ cells) d (suc i) c e = in_pushed cells d i c e

pub opened_none : IsOpened 0 [] []
opened_none = record { cells_are = refl; rows_are = refl; unused = λ i c l e. absurd (none-some c e) }

pub opened_more : (n : ℕ) (cells more : List Cell) (d : Cell) (rows longer : List (Option FrameNumbers)) → IsOpened n cells rows → numbers_of d ≡ None → more ≡ cells ++ d ∷ [] → longer ≡ rows ++ None ∷ [] → IsOpened (n + 1) more longer
opened_more n cells more d rows longer o empty e f = subst (λ (z : List Cell). IsOpened (n + 1) z longer) (sym e) (subst (λ (z : List (Option FrameNumbers)). IsOpened (n + 1) (cells ++ d ∷ []) z) (sym f) (record {
  cells_are = let l : length (cells ++ d ∷ []) ≡ length cells + 1 = length-append cells (d ∷ []) in let a = o.cells_are in omega (arith, l, a);
  rows_are = let l : length (rows ++ None ∷ []) ≡ length rows + 1 = length-append rows (None ∷ []) in let a = o.rows_are in omega (arith, l, a);
  unused = λ i c l g. elim (in_pushed cells d i c g) [ inl h ↦ o.unused i c l h | inr is ↦ subst (λ (z : Cell). z.taken ≡ false) (sym is) (not_taken d empty) ];
}))

pub opened_table : (n : ℕ) (cells : List Cell) (rows : List (Option FrameNumbers)) (slots : BoxSlots) → AreNear slots → ((col row : ℤ) → HasCell slots col row → ⊥) → IsOpened n cells rows → IsTable None slots 0 cells rows
opened_table n cells rows slots near none o = record {
  few = omega arith;
  unused = o.unused;
  as_many = o.rows_are ∙ sym o.cells_are;
  near = near;
  before = λ e. none;
  in_step = λ b grid k e. absurd (none-some (b, grid, k) e);
}
