-- Octagons by their reaches.
use Rattle.std.specs.Prelude.{List, [], ◌∷◌, ℤ, ◌+ℤ◌, ◌-ℤ◌}
use Rattle.spot_terms.specs.declared.plain.Pt.{Pt}

-- the octagon about a point that reaches so far along the axes and along the diagonals
abbrev pub numbers_about : Pt → ℤ → ℤ → List ℤ
numbers_about p axis diagonal = (p.x +ℤ axis) ∷ (p.x +ℤ p.y +ℤ diagonal) ∷ (p.y +ℤ axis) ∷ (diagonal -ℤ (p.x -ℤ p.y)) ∷ (axis -ℤ p.x) ∷ (diagonal -ℤ (p.x +ℤ p.y)) ∷ (axis -ℤ p.y) ∷ (p.x -ℤ p.y +ℤ diagonal) ∷ []
