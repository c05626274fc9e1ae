-- Strips: of each slot the greatest numbers of the parts that some polygons have there.
use Rattle.std.specs.Prelude.{◌≡◌, ◌⊎◌, ℕ, ◌+◌, ◌<◌, ◌≤◌, List, length, Option, Some, None, option_map, slice_get, IfSome, ℤ, pos, ◌+ℤ◌}
use Rattle.spot_terms.specs.CellNumbers.{greater}
use Rattle.spot_terms.specs.declared.plain.Pt.{Pt}
use Rattle.round_out.specs.declared.frames.FrameNumbers.{FrameNumbers}
use Rattle.merge_sets.specs.Cells.{AreSound, IsPartNumbers}

-- all numbers make frames
abbrev pub AreSoundRows : ℕ → List (Option FrameNumbers) → Type 0
AreSoundRows k rows = (j : ℕ) (f : FrameNumbers) → slice_get rows j ≡ Some (Some f) → AreSound k f.n

-- the numbers of a slot with those of a part, where there is one
abbrev pub row_joined : Option FrameNumbers → Option FrameNumbers → Option (List ℤ)
row_joined r None = option_map (λ f. f.n) r
row_joined None (Some p) = Some p.n
row_joined (Some r) (Some p) = Some (greater r.n p.n)

-- the numbers of the slot have those of the polygon's part there joined
pub record JoinsPart (width c : ℤ) (k : ℕ) (p : List Pt) (old new : Option FrameNumbers) : Type 0 where
  pub part : Option FrameNumbers
  pub is : IsPartNumbers width c k p part
  pub sound : IfSome part (λ f. AreSound k f.n)
  pub sum : option_map (λ f. f.n) new ≡ row_joined old part

-- of n slots from `first` on, which stand from `at` on, each has the numbers of the polygon's part there joined; all others
-- are as before
pub record JoinsParts (at n : ℕ) (width first : ℤ) (k : ℕ) (p : List Pt) (old new : List (Option FrameNumbers)) : Type 0 where
  pub count : length new ≡ length old
  pub inside : (j : ℕ) (r : Option FrameNumbers) → j < n → slice_get old (at + j) ≡ Some r
      → (s : Option FrameNumbers) × (slice_get new (at + j) ≡ Some s) × ((part : Option FrameNumbers) × IsPartNumbers width (first +ℤ pos j) k p part × (option_map (λ f. f.n) s ≡ row_joined r part))
  pub outside : (i : ℕ) → (i < at) ⊎ (at + n ≤ i) → slice_get new i ≡ slice_get old i
  pub sound : AreSoundRows k new

-- the slots from `from` to below `to` have nothing; all others are as before
pub record IsForgotten (from to : ℕ) (old new : List (Option FrameNumbers)) : Type 0 where
  pub count : length new ≡ length old
  pub inside : (j : ℕ) (r : Option FrameNumbers) → from ≤ j → j < to → slice_get new j ≡ Some r → r ≡ None
  pub outside : (j : ℕ) → (j < from) ⊎ (to ≤ j) → slice_get new j ≡ slice_get old j
