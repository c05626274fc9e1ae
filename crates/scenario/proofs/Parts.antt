-- The radii of parts, and the greatest of several.
use Rattle.std.proofs.Common.{◌≡◌, ◌∙◌, ◌⊎◌, inl, inr, ℕ, ◌+◌, ◌*◌, ◌-◌, ◌/◌, ◌<◌, ◌≤◌, min, max, ℤ, pos, List, [], ◌∷◌, ◌++◌, length, take, get_or, Option, Some, None, Bool, true, refl, sym, ap, subst, arith, mul-le-mul, take_all, codes, IfSome, IfNone, is_none}
use Rattle.std.specs.List.{list_all}
use Rattle.std.proofs.lemmas.List.{take_more}
use Rattle.spot_terms.proofs.ListLemmas.{includes_front}
use Rattle.spot_terms.specs.Lists.{Includes}
use Rattle.spot_terms.specs.Whole.{square, IsRootCeiling}
use Rattle.spot_terms.specs.Bodies.{IsLeast, IsGreatest}
use Rattle.spot_terms.specs.declared.plain.Pt.{Pt}
use Rattle.spot_claims.specs.Tree.{Element, all_named, element_in, first_named, is_called}
use Rattle.spot_claims.specs.Profile.{lacks}
use Rattle.spot_claims.specs.Radii.{Holds, HoldsPt, IsOffset, PartRadii, circle, rectangle, polygon, HasRadii}
use Rattle.scenario.specs.Has.{HasShape}
use Rattle.scenario.specs.Radii.{CircleIs, RectangleIs, PolygonIs, IsReach, IsGreatestOf, Greatest, greater_of, PartOf, PartIs, PartsAre, IsSmall, name_of}
use Rattle.scenario.specs.declared.shapes.Radii.{Radii}
use Rattle.scenario.specs.declared.shapes.Part.{Part}
use Rattle.scenario.specs.declared.shapes.Part.TheVariants.{Circle, Rectangle, Polygon}
use Rattle.scenario.proofs.Unique.{holds_one, root_one}
use Rattle.scenario.proofs.Members.{in_last, in_more, find_nothing}
use Rattle.spot_terms.proofs.Orders.{pos_injective, true_not_false, at_most_greater_square}
use Rattle.spot_terms.proofs.Unique.{least_one}
use Rattle.scenario.proofs.Firsts.{no_both, two_ids}

-- ---- distances

pub distance_small : (a b r : ℕ) → a ≤ 100_000_000 → b ≤ 100_000_000 → IsRootCeiling (a * a + b * b) r → r ≤ 141_421_357
distance_small a b r h k root =
    let p : a * a ≤ 100_000_000 * 100_000_000 = mul-le-mul h h in
    let q : b * b ≤ 100_000_000 * 100_000_000 = mul-le-mul k k in
    root.least 141_421_357 (omega (arith, p, q))

pub no_reach : (tree : List Element) → IsReach tree [] 0
no_reach tree = record { holds = λ n p k h. absurd k; least = λ q h. omega arith }

same_square : (tree : List Element) (x n : ℕ) (p q : Pt) (d : ℕ) → n ≡ x → HoldsPt tree x p → HoldsPt tree n q → square p.x + square p.y ≤ d → square q.x + square q.y ≤ d
same_square tree x n p q d e h k le =
    let P : ℕ → Type 0 = λ m. HoldsPt tree m q in
    let at : HoldsPt tree x q = subst P e k in
    let sx : p.x ≡ q.x = holds_one tree x (codes "x") 6 p.x q.x h.x at.x in
    let sy : p.y ≡ q.y = holds_one tree x (codes "y") 6 p.y q.y h.y at.y in
    let X : ℤ → Type 0 = λ z. square z + square q.y ≤ d in
    let Y : ℤ → Type 0 = λ z. square p.x + square z ≤ d in
    subst X sx (subst Y sy le)

pub reach_more : (tree : List Element) (es : List ℕ) (i r d : ℕ) (p : Pt) → i < length es → IsReach tree (take i es) r → HoldsPt tree (get_or es i 0) p → IsRootCeiling (square p.x + square p.y) d → IsReach tree (take (i + 1) es) (max r d)
reach_more tree es i r d p h before at root =
    let x = get_or es i 0 in
    let P : List ℕ → Type 0 = λ l. IsReach tree l (max r d) in
    subst P (sym (take_more es i 0 h)) (record {
      holds = λ n q k here. elim (in_more (take i es) x n k) [
        | inl l ↦ at_most_greater_square (square q.x + square q.y) r (max r d) (before.holds n q l here) (omega arith)
        | inr s ↦ same_square tree x n p q (max r d * max r d) s at here (at_most_greater_square (square p.x + square p.y) d (max r d) root.enough (omega arith))
      ];
      least = λ q all.
          let a : r ≤ q = before.least q (λ n z l here. all n z (includes_front (take i es) (x ∷ []) n l) here) in
          let b : d ≤ q = root.least q (all x p (in_last (take i es) x) at) in omega (arith, a, b);
    })

-- ---- each part has one of each radius

offset_one : (tree : List Element) (e c d : ℕ) → IsOffset tree e c → IsOffset tree e d → c ≡ d
offset_one tree e c d (inl a) (inl b) = a.1 ∙ sym b.1
offset_one tree e c d (inl a) (inr b) = absurd (no_both (first_named tree (codes "center") e) b.0 a.0 b.2)
offset_one tree e c d (inr a) (inl b) = absurd (no_both (first_named tree (codes "center") e) a.0 b.0 a.2)
offset_one tree e c d (inr a) (inr b) =
    let same : b.0 ≡ a.0 = two_ids (first_named tree (codes "center") e) b.0 a.0 b.2 a.2 in
    let P : ℕ → Type 0 = λ m. HoldsPt tree m b.1 in
    let at : HoldsPt tree a.0 b.1 = subst P same b.3 in
    let sx : a.1.x ≡ b.1.x = holds_one tree a.0 (codes "x") 6 a.1.x b.1.x a.3.x at.x in
    let sy : a.1.y ≡ b.1.y = holds_one tree a.0 (codes "y") 6 a.1.y b.1.y a.3.y at.y in
    let X : ℤ → Type 0 = λ z. IsRootCeiling (square z + square b.1.y) c in
    let Y : ℤ → Type 0 = λ z. IsRootCeiling (square a.1.x + square z) c in
    root_one (square b.1.x + square b.1.y) c d (subst X sx (subst Y sy a.4)) b.4

size_one : (tree : List Element) (e : ℕ) (name : List ℕ) (n m : ℕ) → Holds tree e name 6 (pos n) → Holds tree e name 6 (pos m) → n ≡ m
size_one tree e name n m h k = pos_injective n m (holds_one tree e name 6 (pos n) (pos m) h k)

circle_one : (tree : List Element) (e a b c d : ℕ) → CircleIs tree e a b → CircleIs tree e c d → (c ≡ a) × (d ≡ b)
circle_one tree e a b c d h k =
    let r : k.r ≡ h.r = size_one tree e (codes "radius") k.r h.r k.radius h.radius in
    let o : k.c ≡ h.c = offset_one tree e k.c h.c k.offset h.offset in
    (k.big_is ∙ (ap (λ x. x + k.c) r ∙ (ap (λ x. h.r + x) o ∙ sym h.big_is)), k.small_is ∙ (ap (λ x. x - k.c) r ∙ (ap (λ x. h.r - x) o ∙ sym h.small_is)))

half_one : (l w m v r q : ℕ) → l ≡ m → w ≡ v → IsLeast (λ x. l * l + w * w ≤ 4 * (x * x)) r → IsLeast (λ x. m * m + v * v ≤ 4 * (x * x)) q → r ≡ q
half_one l w m v r q e f h k =
    let P : ℕ → Type 0 = λ n. IsLeast (λ x. n * n + w * w ≤ 4 * (x * x)) r in
    let Q : ℕ → Type 0 = λ n. IsLeast (λ x. m * m + n * n ≤ 4 * (x * x)) r in
    least_one (λ x. m * m + v * v ≤ 4 * (x * x)) r q (subst Q f (subst P e h)) k

rectangle_one : (tree : List Element) (e a b c d : ℕ) → RectangleIs tree e a b → RectangleIs tree e c d → (c ≡ a) × (d ≡ b)
rectangle_one tree e a b c d h k =
    let l : k.l ≡ h.l = size_one tree e (codes "length") k.l h.l k.length h.length in
    let w : k.w ≡ h.w = size_one tree e (codes "width") k.w h.w k.width h.width in
    let r : k.r ≡ h.r = half_one k.l k.w h.l h.w k.r h.r l w k.half h.half in
    let o : k.c ≡ h.c = offset_one tree e k.c h.c k.offset h.offset in (
      k.big_is ∙ (ap (λ x. x + k.c) r ∙ (ap (λ x. h.r + x) o ∙ sym h.big_is)),
      k.small_is ∙ (ap (λ x. min x k.w / 2 - k.c) l ∙ (ap (λ x. min h.l x / 2 - k.c) w ∙ (ap (λ x. min h.l h.w / 2 - x) o ∙ sym h.small_is))),
    )

polygon_one : (tree : List Element) (e a b c d : ℕ) → PolygonIs tree e a b → PolygonIs tree e c d → (c ≡ a) × (d ≡ b)
polygon_one tree e a b c d h k = (least_one (λ q. (n : ℕ) (p : Pt) → Includes (all_named tree (codes "point") e) n → HoldsPt tree n p → square p.x + square p.y ≤ q * q) c a k.reach h.reach, k.small_is ∙ sym h.small_is)

part_one : (part : Part) (tree : List Element) (e a b c d : ℕ) → PartIs part tree e a b → PartIs part tree e c d → (c ≡ a) × (d ≡ b)
part_one Circle tree e a b c d h k = circle_one tree e a b c d h k
part_one Rectangle tree e a b c d h k = rectangle_one tree e a b c d h k
part_one Polygon tree e a b c d h k = polygon_one tree e a b c d h k

-- ---- the greatest of two kinds

record IsUnion (A B C : ℕ → ℕ → Type 0) : Type 0 where
  split : (b s : ℕ) → C b s → A b s ⊎ B b s
  left : (b s : ℕ) → A b s → C b s
  right : (b s : ℕ) → B b s → C b s

attained : (P : ℕ → Type 0) (a b : ℕ) → P a → P b → P (max a b)
attained P a b h k = elim (which a b) [ inl e ↦ subst P (sym e) h | inr e ↦ subst P (sym e) k ]
  where
    which : (a b : ℕ) → (max a b ≡ a) ⊎ (max a b ≡ b)
    which a b = grind arith

greatest_both : (A B C : ℕ → Type 0) (a b : ℕ) → ((x : ℕ) → C x → A x ⊎ B x) → ((x : ℕ) → A x → C x) → ((x : ℕ) → B x → C x) → IsGreatest A a → IsGreatest B b → IsGreatest C (max a b)
greatest_both A B C a b split left right h k = record {
  holds = attained C a b (left a h.holds) (right b k.holds);
  greatest = λ q m. elim (split q m) [ inl l ↦ let n = h.greatest q l in omega (arith, n) | inr l ↦ let n = k.greatest q l in omega (arith, n) ];
}

union : (A B C : ℕ → ℕ → Type 0) (f g : Option Radii) → IsUnion A B C → Greatest A f → Greatest B g → Greatest C (greater_of f g)
union A B C None None u h k = λ b s m. elim (u.split b s m) [ inl l ↦ h b s l | inr l ↦ k b s l ]
union A B C None (Some g) u h k = record {
  enclosing = record { holds = (k.enclosing.holds.0, u.right g.enclosing k.enclosing.holds.0 k.enclosing.holds.1); greatest = λ q m. elim (u.split q m.0 m.1) [ inl l ↦ absurd (h q m.0 l) | inr l ↦ k.enclosing.greatest q (m.0, l) ] };
  inscribed = record { holds = (k.inscribed.holds.0, u.right k.inscribed.holds.0 g.inscribed k.inscribed.holds.1); greatest = λ q m. elim (u.split m.0 q m.1) [ inl l ↦ absurd (h m.0 q l) | inr l ↦ k.inscribed.greatest q (m.0, l) ] };
}
union A B C (Some f) None u h k = record {
  enclosing = record { holds = (h.enclosing.holds.0, u.left f.enclosing h.enclosing.holds.0 h.enclosing.holds.1); greatest = λ q m. elim (u.split q m.0 m.1) [ inl l ↦ h.enclosing.greatest q (m.0, l) | inr l ↦ absurd (k q m.0 l) ] };
  inscribed = record { holds = (h.inscribed.holds.0, u.left h.inscribed.holds.0 f.inscribed h.inscribed.holds.1); greatest = λ q m. elim (u.split m.0 q m.1) [ inl l ↦ h.inscribed.greatest q (m.0, l) | inr l ↦ absurd (k m.0 q l) ] };
}
union A B C (Some f) (Some g) u h k = record {
  enclosing = greatest_both (λ b. (s : ℕ) × A b s) (λ b. (s : ℕ) × B b s) (λ b. (s : ℕ) × C b s) f.enclosing g.enclosing
      (λ x m. elim (u.split x m.0 m.1) [ inl l ↦ inl (m.0, l) | inr l ↦ inr (m.0, l) ]) (λ x m. (m.0, u.left x m.0 m.1)) (λ x m. (m.0, u.right x m.0 m.1)) h.enclosing k.enclosing;
  inscribed = greatest_both (λ s. (b : ℕ) × A b s) (λ s. (b : ℕ) × B b s) (λ s. (b : ℕ) × C b s) f.inscribed g.inscribed
      (λ x m. elim (u.split m.0 x m.1) [ inl l ↦ inl (m.0, l) | inr l ↦ inr (m.0, l) ]) (λ x m. (m.0, u.left m.0 x m.1)) (λ x m. (m.0, u.right m.0 x m.1)) h.inscribed k.inscribed;
}

single : (P : ℕ → ℕ → Type 0) (r : Radii) → P r.enclosing r.inscribed → ((c d : ℕ) → P c d → (c ≡ r.enclosing) × (d ≡ r.inscribed)) → Greatest P (Some r)
single P r h one = record {
  enclosing = record { holds = (r.inscribed, h); greatest = λ q m. let e = one q m.0 m.1 in omega (arith, e.0) };
  inscribed = record { holds = (r.enclosing, h); greatest = λ q m. let e = one m.0 q m.1 in omega (arith, e.1) };
}

-- ---- one part more

split_part : (P : ℕ → ℕ → ℕ → Type 0) (xs : List ℕ) (x b s : ℕ) → PartOf P (xs ++ x ∷ []) b s → PartOf P xs b s ⊎ P x b s
split_part P xs x b s h = elim (in_more xs x h.item h.listed) [
  | inl l ↦ inl (record { item = h.item; listed = l; holds = h.holds })
  | inr e ↦ let Q : ℕ → Type 0 = λ y. P y b s in inr (subst Q e h.holds)
]

pub part_more : (part : Part) (tree : List Element) (es : List ℕ) (i : ℕ) (a o : Option Radii) (r : Radii) → i < length es → Greatest (PartOf (PartIs part tree) (take i es)) a
    → PartIs part tree (get_or es i 0) r.enclosing r.inscribed → o ≡ greater_of a (Some r) → Greatest (PartOf (PartIs part tree) (take (i + 1) es)) o
part_more part tree es i a o r h before at e =
    let x = get_or es i 0 in
    let xs = take i es in
    let P : List ℕ → Type 0 = λ l. Greatest (PartOf (PartIs part tree) l) (greater_of a (Some r)) in
    let Q : Option Radii → Type 0 = λ f. Greatest (PartOf (PartIs part tree) (take (i + 1) es)) f in
    subst Q (sym e) (subst P (sym (take_more es i 0 h)) (union (PartOf (PartIs part tree) xs) (PartIs part tree x) (PartOf (PartIs part tree) (xs ++ x ∷ [])) a (Some r) (record {
      split = split_part (PartIs part tree) xs x;
      left = λ b s m. record { item = m.item; listed = includes_front xs (x ∷ []) m.item m.listed; holds = m.holds };
      right = λ b s m. record { item = x; listed = in_last xs x; holds = m };
    }) before (single (PartIs part tree x) r at (λ c d m. part_one part tree x r.enclosing r.inscribed c d at m))))

pub no_part : (P : ℕ → ℕ → ℕ → Type 0) → Greatest (PartOf P []) None
no_part P = λ b s h. h.listed

pub part_end : (P : ℕ → ℕ → ℕ → Type 0) (xs ys : List ℕ) (i : ℕ) (o : Option Radii) → length xs ≤ i → xs ≡ ys → Greatest (PartOf P (take i xs)) o → Greatest (PartOf P ys) o
part_end P xs ys i o h e p = let Q : List ℕ → Type 0 = λ l. Greatest (PartOf P l) o in subst Q (take_all i xs h ∙ e) p

-- ---- where there is no part

pub none_end : (xs ys : List ℕ) (i : ℕ) (o : Option Radii) → length xs ≤ i → xs ≡ ys → IfNone o ((e : ℕ) → Includes (take i xs) e → ⊥) → IfNone o ((e : ℕ) → Includes ys e → ⊥)
none_end xs ys i o h s p = let Q : List ℕ → Type 0 = λ l. IfNone o ((e : ℕ) → Includes l e → ⊥) in subst Q (take_all i xs h ∙ s) p

some_then : (o : Option Radii) (r : Radii) (P : Type 0) → o ≡ Some r → IfNone o P
some_then o r P e = let Q : Option Radii → Type 0 = λ q. IfNone q P in subst Q (sym e) tt

pub never_none : (a o : Option Radii) (r : Radii) (P : Type 0) → o ≡ greater_of a (Some r) → IfNone o P
never_none None o r P e = some_then o r P e
never_none (Some f) o r P e = some_then o (record { enclosing = max f.enclosing r.enclosing; inscribed = max f.inscribed r.inscribed }) P e

pub small_more : (a o : Option Radii) (r : Radii) → o ≡ greater_of a (Some r) → IfSome a (λ f. IsSmall f) → IsSmall r → IfSome o (λ f. IsSmall f)
small_more None o r e h k = let P : Option Radii → Type 0 = λ q. IfSome q (λ f. IsSmall f) in subst P (sym e) k
small_more (Some f) o r e h k = let P : Option Radii → Type 0 = λ q. IfSome q (λ g. IsSmall g) in subst P (sym e) (omega (arith, h.0, k.0), omega (arith, h.1, k.1))

none_named : (tree : List Element) (shape : ℕ) (part : Part) → ((e : ℕ) → Includes (all_named tree (name_of part) shape) e → ⊥) → is_none (first_named tree (name_of part) shape) ≡ true
none_named tree shape part h = ap is_none (find_nothing (is_called tree (name_of part)) (element_in tree shape).children h)

all_three : (p : List ℕ → Bool) (a b c : List ℕ) → p a ≡ true → p b ≡ true → p c ≡ true → list_all p (a ∷ b ∷ c ∷ []) ≡ true
all_three p a b c e f g = rw (e, f, g) refl

pub no_parts : (tree : List Element) (shape : ℕ) (f g h o : Option Radii) → HasShape tree shape → o ≡ greater_of (greater_of f g) h → o ≡ None → IfNone f ((e : ℕ) → Includes (all_named tree (codes "circle") shape) e → ⊥)
    → IfNone g ((e : ℕ) → Includes (all_named tree (codes "rectangle") shape) e → ⊥) → IfNone h ((e : ℕ) → Includes (all_named tree (codes "polygon") shape) e → ⊥) → ⊥
no_parts tree shape None None None o has e n a b c =
    let all = all_three (lacks tree shape) (codes "rectangle") (codes "circle") (codes "polygon") (none_named tree shape Rectangle b) (none_named tree shape Circle a) (none_named tree shape Polygon c) in
    let some = has.some in true_not_false _ (all) some
no_parts tree shape None None (Some h) o has e n a b c = cc
no_parts tree shape None (Some g) None o has e n a b c = cc
no_parts tree shape None (Some g) (Some h) o has e n a b c = cc
no_parts tree shape (Some f) None None o has e n a b c = cc
no_parts tree shape (Some f) None (Some h) o has e n a b c = cc
no_parts tree shape (Some f) (Some g) None o has e n a b c = cc
no_parts tree shape (Some f) (Some g) (Some h) o has e n a b c = cc

-- ---- all parts

abbrev CircleOr : List Element → ℕ → ℕ → ℕ → Type 0
CircleOr tree shape b s = PartsAre Circle tree shape b s ⊎ PartsAre Rectangle tree shape b s

to_part : (tree : List Element) (shape b s : ℕ) → CircleOr tree shape b s ⊎ PartsAre Polygon tree shape b s → PartRadii tree shape b s
to_part tree shape b s (inl (inl h)) =
    let P : ℕ → Type 0 = λ x. PartRadii tree shape x s in
    let Q : ℕ → Type 0 = λ x. PartRadii tree shape (h.holds.r + h.holds.c) x in
    subst P (sym h.holds.big_is) (subst Q (sym h.holds.small_is) (circle h.item h.holds.r h.holds.c h.listed h.holds.radius h.holds.offset))
to_part tree shape b s (inl (inr h)) =
    let k = h.holds in
    let P : ℕ → Type 0 = λ x. PartRadii tree shape x s in
    let Q : ℕ → Type 0 = λ x. PartRadii tree shape (k.r + k.c) x in
    subst P (sym k.big_is) (subst Q (sym k.small_is) (rectangle h.item k.l k.w k.r k.c h.listed k.length k.width k.half k.offset))
to_part tree shape b s (inr h) =
    let Q : ℕ → Type 0 = λ x. PartRadii tree shape b x in
    subst Q (sym h.holds.small_is) (polygon h.item b h.listed h.holds.reach)

of_part : (tree : List Element) (shape : ℕ) {b s : ℕ} → PartRadii tree shape b s → CircleOr tree shape b s ⊎ PartsAre Polygon tree shape b s
of_part tree shape (circle e r c listed radius offset) = inl (inl (record { item = e; listed = listed; holds = record { r = r; c = c; radius = radius; offset = offset; big_is = refl; small_is = refl } }))
of_part tree shape (rectangle e l w r c listed long wide half offset) = inl (inr (record { item = e; listed = listed; holds = record { l = l; w = w; r = r; c = c; length = long; width = wide; half = half; offset = offset; big_is = refl; small_is = refl } }))
of_part tree shape (polygon e r listed reach) = inr (record { item = e; listed = listed; holds = record { reach = reach; small_is = refl } })

pub all_parts : (tree : List Element) (shape : ℕ) (f g h : Option Radii) → Greatest (PartsAre Circle tree shape) f → Greatest (PartsAre Rectangle tree shape) g → Greatest (PartsAre Polygon tree shape) h
    → Greatest (PartRadii tree shape) (greater_of (greater_of f g) h)
all_parts tree shape f g h c r p = union (CircleOr tree shape) (PartsAre Polygon tree shape) (PartRadii tree shape) (greater_of f g) h
    (record { split = λ b s m. of_part tree shape m; left = λ b s m. to_part tree shape b s (inl m); right = λ b s m. to_part tree shape b s (inr m) })
    (union (PartsAre Circle tree shape) (PartsAre Rectangle tree shape) (CircleOr tree shape) f g (record { split = λ b s m. m; left = λ b s m. inl m; right = λ b s m. inr m }) c r) p

pub small_are : (f g h o : Option Radii) (r : Radii) → o ≡ greater_of (greater_of f g) h → o ≡ Some r → IfSome f (λ q. IsSmall q) → IfSome g (λ q. IsSmall q) → IfSome h (λ q. IsSmall q) → IsSmall r
small_are f g h o r e is a b c =
    let P : Option Radii → Type 0 = λ q. IfSome q (λ x. IsSmall x) in
    let k : P o = subst P (sym e) (small_both (greater_of f g) h (small_both f g a b) c) in subst P is k
  where
    small_both : (f g : Option Radii) → IfSome f (λ q. IsSmall q) → IfSome g (λ q. IsSmall q) → IfSome (greater_of f g) (λ q. IsSmall q)
    small_both None g h k = k
    small_both (Some f) None h k = h
    small_both (Some f) (Some g) h k = (omega (arith, h.0, k.0), omega (arith, h.1, k.1))

pub radii_are : (tree : List Element) (shape : ℕ) (o : Option Radii) (r : Radii) → o ≡ Some r → Greatest (PartRadii tree shape) o → HasRadii tree shape r.enclosing r.inscribed
radii_are tree shape o r e h =
    let P : Option Radii → Type 0 = λ f. Greatest (PartRadii tree shape) f in
    let k : IsGreatestOf (PartRadii tree shape) r = subst P e h in
    record { enclosing_is = k.enclosing; inscribed_is = k.inscribed }
