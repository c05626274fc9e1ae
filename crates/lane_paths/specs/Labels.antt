-- The labels of all cells, up to a limit.
use Rattle.std.specs.Prelude.{◌≡◌, ℕ, ◌<◌, ◌≤◌, List, length, Option, Some, None, slice_get}
use Rattle.spot_terms.specs.Cells.{Lane, cells}
use Rattle.spot_terms.specs.Routes.{IsRoute, IsLabel}
use Rattle.spot_terms.specs.declared.plain.Pt.{Pt}

-- what a list of labels has at a number, or has not
abbrev pub label_of : Option (Option ℕ) → Option ℕ
label_of None = None
label_of (Some label) = label

-- the label of number c, and none past the end of the list
abbrev pub label_at : List (Option ℕ) → ℕ → Option ℕ
label_at labels c = label_of (slice_get labels c)

-- For each cell of the lanelets its label from p, and none exactly where each route to it is longer than the limit. To a
-- number that is no cell no route leads, and it has no label.
pub record AreLabels (lanes : List Lane) (p : Pt) (limit : ℕ) (labels : List (Option ℕ)) : Type 0 where
  pub count : length labels ≡ length (cells lanes)
  pub some : (c n : ℕ) → label_at labels c ≡ Some n → IsLabel lanes p c n × (n ≤ limit)
  pub none : (c : ℕ) → label_at labels c ≡ None → (n : ℕ) → IsRoute lanes p c n → limit < n
