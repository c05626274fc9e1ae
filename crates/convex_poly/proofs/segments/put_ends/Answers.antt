use Rattle.std.proofs.Common.{◌≡◌, [], ◌∷◌, false, sym, subst, refl, inl, inr, rules}
use Rattle.std.specs.Prelude.{IsTrue}
use Rattle.spot_terms.specs.Hull.{IsHullOf}
use Rattle.convex_poly.proofs.Ends.{two_corners, one_corner, same_point}
use Rattle.convex_poly.proofs.segments.put_ends.Goals as goal

pub returns-then-is_before : goal.returns-then-is_before
returns-then-is_before c =
    let e : c.push-then-is_before.new.self.items ≡ c.args.q.now ∷ c.args.p.now ∷ [] = search rules in
    subst (IsHullOf (c.args.p.now ∷ c.args.q.now ∷ [])) (sym e) (two_corners c.args.q.now c.args.p.now (c.if-is_before.ensures.0 refl) _ _ (inr refl) (inl refl) (inr refl) (inl refl))

pub returns-then-is_before-2 : goal.returns-then-is_before-2
returns-then-is_before-2 c =
    let e : c.push-then-is_before-2.new.self.items ≡ c.args.p.now ∷ c.args.q.now ∷ [] = search rules in
    subst (IsHullOf (c.args.p.now ∷ c.args.q.now ∷ [])) (sym e) (two_corners c.args.p.now c.args.q.now (c.if-is_before-2.ensures.0 refl) _ _ (inl refl) (inr refl) (inl refl) (inr refl))

pub returns-else-is_before-2 : goal.returns-else-is_before-2
returns-else-is_before-2 c =
    let e : c.push-else-is_before.new.self.items ≡ c.args.p.now ∷ [] = search rules in
    subst (IsHullOf (c.args.p.now ∷ c.args.q.now ∷ [])) (sym e) (one_corner c.args.p.now c.args.q.now (same_point c.args.p.now c.args.q.now (λ h. clash (c.if-is_before-2.ensures.1 h)) (λ h. clash (c.if-is_before.ensures.1 h))))
  where
    clash : IsTrue false → ⊥
    clash h = cc
