use Rattle.std.proofs.Common.{◌≡◌, ℤ, sym, subst, to_z-of_z}
use Rattle.spot_terms.specs.declared.plain.Pt.{Pt}
use Rattle.spot_terms.specs.Frames.{at}
use Rattle.spot_terms.specs.Hull.{InHull}
use Rattle.base_sets.proofs.sets.BaseSet.holds.Goals as goal

point : (P : Pt → Type 0) (x y x' y' : ℤ) → x ≡ x' → y ≡ y' → P (at x y) → P (at x' y')
point P x y x' y' e f h = subst (λ z. P (at z y')) e (subst (λ z. P (at x z)) f h)

pub returns-then-contains : goal.returns-then-contains
returns-then-contains c = (
  λ t. record {
    x = point (InHull c.args.self.now.x) _ _ c.args.x c.args.vx (to_z-of_z c.ranges.x) (to_z-of_z c.ranges.vx) (c.contains.ensures.0 c.if-contains.true);
    y = point (InHull c.args.self.now.y) _ _ c.args.y c.args.vy (to_z-of_z c.ranges.y) (to_z-of_z c.ranges.vy) (c.contains-then-contains.ensures.0 t);
  },
  λ h. c.contains-then-contains.ensures.1 (point (InHull c.args.self.now.y) c.args.y c.args.vy _ _ (sym (to_z-of_z c.ranges.y)) (sym (to_z-of_z c.ranges.vy)) h.y),
)
