-- Routes so far, with the waypoint that was crossed last.
use Rattle.std.specs.Prelude.{◌≡◌, ℕ, List, [], ◌∷◌}
use Rattle.spot_terms.specs.Cells.{Lane, NetCell}
use Rattle.spot_terms.specs.Routes.{Leg, Leads, Crosses, GapsSumTo, IsStartCell}
use Rattle.spot_terms.specs.declared.plain.Pt.{Pt}

-- the two points of a cell's entry
abbrev pub entry_of : NetCell → List Pt
entry_of a = a.entry.0 ∷ a.entry.1 ∷ []

-- w is the last of the waypoints
abbrev pub EndsWith : List (List Pt) → List Pt → Type 0
EndsWith [] w = ⊥
EndsWith (a ∷ []) w = a ≡ w
EndsWith (a ∷ b ∷ rest) w = EndsWith (b ∷ rest) w

-- some way from p leads to cell c, crosses w last, and the gaps of its waypoints sum to m
pub record IsWalk (lanes : List Lane) (p : Pt) (c : ℕ) (w : List Pt) (m : ℕ) : Type 0 where
  pub first : ℕ
  pub legs : List Leg
  pub portals : List (List Pt)
  pub starts : IsStartCell lanes p first
  pub leads : Leads lanes first legs c
  pub crosses : Crosses lanes legs portals
  pub ends : EndsWith ((p ∷ []) ∷ portals) w
  pub length : GapsSumTo lanes ((p ∷ []) ∷ portals) m
