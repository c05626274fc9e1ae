use Rattle.std.proofs.Common.{◌≡◌, ◌≤◌, ◌<◌, ◌⊎◌, arith, inl, inr, to_z-of_z, FitsSigned, w64, ◌∙◌, rules}
use Rattle.std.proofs.lemmas.Int.{ints}
use Rattle.acc_occupancy.proofs.Corners.{farthest_corner}
use Rattle.acc_occupancy.proofs.line.fastest.Goals as goal
use Rattle.acc_occupancy.proofs.line.fastest.Goals.{then-normal-ge3+then-normal-le5, else-normal-ge3, else-normal-ge3-via-then-normal-ge3+else-normal-le5, else-normal-ge3-via-else-normal-ge3, then-normal-ge5, else-normal-ge5}

pub returns : goal.returns
returns c =
    let n = c.args.normal in
    let b = c.args.b.now in
    let first : (((3 ≤ n) × (n ≤ 5)) × (c.if-normal-ge3.x ≡ b.xlo)) ⊎ (((n < 3) ⊎ (5 < n)) × (c.if-normal-ge3.x ≡ b.xhi)) = elim c.if-normal-ge3.branch [
      | then-normal-ge3+then-normal-le5 w ↦ inl ((omega arith, omega arith), omega (arith, ints))
      | else-normal-ge3 w ↦ inr (
        elim w.else-normal-ge3.branch [
          | else-normal-ge3-via-then-normal-ge3+else-normal-le5 w' ↦ inr (omega arith)
          | else-normal-ge3-via-else-normal-ge3 w' ↦ inl (omega arith)
        ],
        omega (arith, ints),
      )
    ] in
    let second : ((5 ≤ n) × (c.if-normal-ge5.y ≡ b.ylo)) ⊎ ((n < 5) × (c.if-normal-ge5.y ≡ b.yhi)) = elim c.if-normal-ge5.branch [
      | then-normal-ge5 w ↦ inl (omega arith, omega (arith, ints))
      | else-normal-ge5 w ↦ inr (omega arith, omega (arith, ints))
    ] in
    let corner = farthest_corner b 900_000 c.if-normal-ge3.x c.if-normal-ge5.y n c.requires.normal c.requires.range first second in
    let fits : FitsSigned w64 c.along_normal.result = search rules in
    let value = rw (c.if-normal-ge3.x-is, c.if-normal-ge5.y-is) at c.along_normal.ensures in
    simp to_z-of_z (value ∙ corner)
