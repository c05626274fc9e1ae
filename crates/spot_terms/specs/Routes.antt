-- Routes through the network, and their lengths.
use Rattle.std.specs.Prelude.{◌≡◌, ℕ, ◌+◌, List, [], ◌∷◌, ◌++◌, slice_get, Some}
use Rattle.spot_terms.specs.Bodies.{IsLeast}
use Rattle.spot_terms.specs.Cells.{Lane, NetCell, cells, corners_of}
use Rattle.spot_terms.specs.Gaps.{IsGap}
use Rattle.spot_terms.specs.Hull.{InHull}
use Rattle.spot_terms.specs.Network.{IsAhead, IsSide}
use Rattle.spot_terms.specs.declared.plain.Pt.{Pt}

-- a step of a route: to this cell
pub data Leg : Type 0 where
  ahead : ℕ → Leg
  side : ℕ → Leg

module _ (lanes : List Lane) where
  -- from cell c by these legs to cell d
  abbrev pub Leads : ℕ → List Leg → ℕ → Type 0
  Leads c [] d = c ≡ d
  Leads c (ahead e ∷ legs) d = IsAhead lanes (cells lanes) c e × Leads e legs d
  Leads c (side e ∷ legs) d = IsSide lanes (cells lanes) c e × Leads e legs d

  -- the entries of the cells that are gone ahead to, in order
  abbrev pub Crosses : List Leg → List (List Pt) → Type 0
  Crosses [] portals = portals ≡ []
  Crosses (side e ∷ legs) portals = Crosses legs portals
  Crosses (ahead e ∷ legs) [] = ⊥
  Crosses (ahead e ∷ legs) (p ∷ portals) = ((a : NetCell) × (slice_get (cells lanes) e ≡ Some a) × (p ≡ a.entry.0 ∷ a.entry.1 ∷ [])) × Crosses legs portals

  -- the gaps of neighbouring waypoints sum to n
  abbrev pub GapsSumTo : List (List Pt) → ℕ → Type 0
  GapsSumTo [] n = n ≡ 0
  GapsSumTo (a ∷ []) n = n ≡ 0
  GapsSumTo (a ∷ b ∷ rest) n = (w m : ℕ) × IsGap a b w × GapsSumTo (b ∷ rest) m × (n ≡ w + m)

  -- a start cell: its hull holds the point
  abbrev pub IsStartCell : Pt → ℕ → Type 0
  IsStartCell p c = (a : NetCell) × (slice_get (cells lanes) c ≡ Some a) × InHull (corners_of a) p

  -- A route from p to cell d of length n. Its waypoints are p, the portals that it crosses, and the hull of the last cell.
  pub record IsRoute (p : Pt) (d n : ℕ) : Type 0 where
    pub first : ℕ
    pub legs : List Leg
    pub portals : List (List Pt)
    pub last : NetCell
    pub starts : IsStartCell p first
    pub leads : Leads first legs d
    pub crosses : Crosses legs portals
    pub last_is : slice_get (cells lanes) d ≡ Some last
    pub length : GapsSumTo ((p ∷ []) ∷ portals ++ corners_of last ∷ []) n

  -- the label of cell d: the least length of a route to it
  abbrev pub IsLabel : Pt → ℕ → ℕ → Type 0
  IsLabel p d n = IsLeast (IsRoute p d) n
