use Rattle.std.proofs.Common.{◌≡◌, ◌≤◌, ℤ, pos, sym, subst, to_z, of_z, w64, arith}
use Rattle.std.specs.Prelude.{nat_abs}
use Rattle.std.proofs.lemmas.Int.{ints}
use Rattle.spot_terms.specs.Whole.{Within}
use Rattle.base_sets.specs.Values.{AreAtMost}
use Rattle.base_sets.proofs.ego.EgoStart.fits.Goals as goal

read : (z : ℤ) → nat_abs z ≤ 900_000 → to_z w64 (of_z w64 z) ≡ z
read z h = omega (arith, ints)

bound : (v : ℤ) → Within (pos 0) (pos 900_000) v → nat_abs v ≤ 900_000
bound v h = omega (arith, ints, h.low, h.high)

three : (v lo hi v' lo' hi' : ℤ) → v ≡ v' → lo ≡ lo' → hi ≡ hi' → AreAtMost v lo hi → AreAtMost v' lo' hi'
three v lo hi v' lo' hi' e f g h = subst (λ z. AreAtMost z lo' hi') e (subst (λ z. AreAtMost v z hi') f (subst (λ z. AreAtMost v lo z) g h))

pub returns-then-are_at_most : goal.returns-then-are_at_most
returns-then-are_at_most c =
    let v = read c.args.e.now.v (bound c.args.e.now.v c.requires.bounds.v) in
    let b = c.requires.start.box in (
      λ t.
          let x = three _ _ _ c.args.e.now.v c.args.self.now.b.xlo c.args.self.now.b.xhi v (read _ b.xlo) (read _ b.xhi) (c.are_at_most.ensures.0 c.if-are_at_most.true) in
          let y = three _ _ _ c.args.e.now.v c.args.self.now.b.ylo c.args.self.now.b.yhi v (read _ b.ylo) (read _ b.yhi) (c.are_at_most-then-are_at_most.ensures.0 t) in
          record { xlo = x.low; xhi = x.high; ylo = y.low; yhi = y.high },
      λ f. c.are_at_most-then-are_at_most.ensures.1 (three c.args.e.now.v c.args.self.now.b.ylo c.args.self.now.b.yhi _ _ _ (sym v) (sym (read _ b.ylo)) (sym (read _ b.yhi)) (record { low = f.ylo; high = f.yhi })),
    )
