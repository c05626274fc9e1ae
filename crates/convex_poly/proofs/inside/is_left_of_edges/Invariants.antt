use Rattle.std.proofs.Common.{◌≡◌, ◌<◌, ℕ, ◌+◌, pos, ◌≤ℤ◌, get_or}
use Rattle.spot_terms.specs.declared.plain.Pt.{Pt}
use Rattle.convex_poly.specs.Turns.{cross}
use Rattle.convex_poly.proofs.inside.is_left_of_edges.Given as goal

-- the edges below i have p on the left
abbrev pub invariant-loop-i : goal.invariant-loop-i
invariant-loop-i l =
    (m n : ℕ) (d : Pt) → n ≡ m + 1 → n < l.i → pos 0 ≤ℤ cross (get_or l.corners m d) (get_or l.corners n d) l.p
