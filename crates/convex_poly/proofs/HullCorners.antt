-- The chains there and back of points in order make the corners of their hull.
use Rattle.std.proofs.Common.{◌≡◌, ℕ, zero, suc, ◌+◌, ◌-◌, ◌≤◌, ◌<◌, arith, refl, sym, ap, ◌∙◌, subst, List, [], ◌∷◌, ◌++◌, length, get_or, drop, length-append, length-take, get_or-take, inl, inr}
use Rattle.std.proofs.Math.ListN.{get_or-append}
use Rattle.std.proofs.lemmas.List.{get_or-reverse, length-reverse, get_or-append-add, length-drop}
use Rattle.std.proofs.lemmas.Grind.{get_or_after_one}
use Rattle.std.proofs.lemmas.Int.{ints, by_lt_z}
use Rattle.std.specs.List.{AllByRecursion}
use lib.IntN.{ℤ, pos, ◌+ℤ◌, ◌-ℤ◌, ◌*ℤ◌}
use lib.Signed.{◌≤ℤ◌, ◌<ℤ◌}
use Rattle.std.specs.Prelude.{nat_abs, reverse}
use Rattle.spot_terms.specs.declared.plain.Pt.{Pt}
use Rattle.spot_terms.specs.Hull.{Before, InHull, IsHullOf}
use Rattle.spot_terms.specs.Lists.{Includes}
use Rattle.spot_terms.proofs.Hulls.{hull_first}
use Rattle.std.specs.List.Sorted.{IsPermutation}
use Rattle.convex_poly.specs.Polygons.{IsPosition, IsPolygon}
use Rattle.convex_poly.proofs.Orders.{permuted_in, permuted_all}
use Rattle.convex_poly.specs.Chains.{key, HasMeetingEnds, Rising, Toward, IsChain, IsOrdered, IsSideOf, between_ends}
use Rattle.spot_terms.proofs.ListLemmas.{all_included, all_of, includes_at, includes_back, includes_front, all_append}
use Rattle.spot_terms.proofs.Orders.{asymmetric, irreflexive, below_or_at_least, antisymmetric}
use Rattle.spot_terms.proofs.Places.{all_at, place_of}
use Rattle.convex_poly.proofs.Chains.{Loop, loop_turns, neg_key, key_neg}
use Rattle.convex_poly.proofs.ChainSteps.{chains_hull}
use Rattle.convex_poly.proofs.CornerLists.{StartsFirst, corner_list_of}

-- ---- a key that rises in the order of points

abbrev pub far : ℤ
far = pos 100000000000000

key_up : (ax ay bx by : ℤ) → nat_abs ay ≤ 40000000000000 → nat_abs by ≤ 40000000000000 → ax <ℤ bx → ((far *ℤ ax) +ℤ (pos 1 *ℤ ay)) <ℤ ((far *ℤ bx) +ℤ (pos 1 *ℤ by))
key_up ax ay bx by h k l = omega (arith, ints)

key_level : (ax ay bx by : ℤ) → ax ≡ bx → ay <ℤ by → ((far *ℤ ax) +ℤ (pos 1 *ℤ ay)) <ℤ ((far *ℤ bx) +ℤ (pos 1 *ℤ by))
key_level ax ay bx by e l = omega (arith, ints)

pub before_key : (a b : Pt) → IsPosition a → IsPosition b → Before a b → key far (pos 1) a <ℤ key far (pos 1) b
before_key a b h k (inl l) = key_up a.x a.y b.x b.y h.y k.y l
before_key a b h k (inr l) = key_level a.x a.y b.x b.y l.0 l.1

pub key_before : (a b : Pt) → IsPosition a → IsPosition b → key far (pos 1) a <ℤ key far (pos 1) b → Before a b
key_before a b h k l =
    by_lt_z a.x b.x (λ less. inl less)
    (λ back. by_lt_z b.x a.x
    (λ more. absurd (asymmetric (key far (pos 1) a) (key far (pos 1) b) l (key_up b.x b.y a.x a.y k.y h.y more)))
    (λ level. let e : a.x ≡ b.x = antisymmetric a.x b.x level back in inr (e, by_lt_z a.y b.y (λ less. less) (λ high. absurd (above a.x a.y b.x b.y e l high)))))
  where
    above : (ax ay bx by : ℤ) → ax ≡ bx → ((far *ℤ ax) +ℤ (pos 1 *ℤ ay)) <ℤ ((far *ℤ bx) +ℤ (pos 1 *ℤ by)) → by ≤ℤ ay → ⊥
    above ax ay bx by e l h = omega (arith, ints)

pub ordered_rises : (s : List Pt) → AllByRecursion IsPosition s → IsOrdered s → Rising far (pos 1) s
ordered_rises s h o i j d ij jn = before_key (get_or s i d) (get_or s j d) (all_at IsPosition s i d h (omega arith)) (all_at IsPosition s j d h jn) (o i j d ij jn)

-- the points from the last to the first, by the opposite key
pub reversed_rises : (kx ky : ℤ) (s : List Pt) → Rising kx ky s → Rising (pos 0 -ℤ kx) (pos 0 -ℤ ky) (reverse s)
reversed_rises kx ky s r i j d ij jn =
    let size : length (reverse s) ≡ length s = length-reverse s in
    subst (λ (z : Pt). key (pos 0 -ℤ kx) (pos 0 -ℤ ky) z <ℤ key (pos 0 -ℤ kx) (pos 0 -ℤ ky) (get_or (reverse s) j d)) (sym (get_or-reverse s i d (omega (arith, size, jn, ij))))
    (subst (λ (z : Pt). key (pos 0 -ℤ kx) (pos 0 -ℤ ky) (get_or s (length s - 1 - i) d) <ℤ key (pos 0 -ℤ kx) (pos 0 -ℤ ky) z) (sym (get_or-reverse s j d (omega (arith, size, jn))))
    (key_neg kx ky (get_or s (length s - 1 - j) d) (get_or s (length s - 1 - i) d) (r (length s - 1 - j) (length s - 1 - i) d (omega (arith, size, jn, ij)) (omega (arith, size, jn, ij)))))

pub includes_reverse : (s : List Pt) (u : Pt) → Includes (reverse s) u → Includes s u
includes_reverse s u i =
    let (k, l, e) = place_of (reverse s) u u i in
    let size : length (reverse s) ≡ length s = length-reverse s in
    subst (Includes s) (sym (get_or-reverse s k u (omega (arith, size, l))) ∙ e) (includes_at s (length s - 1 - k) u (omega (arith, size, l)))

pub reverse_includes : (s : List Pt) (u : Pt) → Includes s u → Includes (reverse s) u
reverse_includes s u i =
    let (k, l, e) = place_of s u u i in
    let size : length (reverse s) ≡ length s = length-reverse s in
    subst (Includes (reverse s)) (get_or-reverse s (length s - 1 - k) u (omega (arith, l)) ∙ ap (λ n. get_or s n u) (omega (arith, l)) ∙ e) (includes_at (reverse s) (length s - 1 - k) u (omega (arith, size, l)))

-- ---- one point

pub single : (p : Pt) (s : List Pt) (kx ky : ℤ) → 0 < length s → AllByRecursion (Includes (p ∷ [])) s → Rising kx ky s → s ≡ p ∷ []
single p [] kx ky h a r = absurd (omega arith)
single p (u ∷ []) kx ky h a r = elim a.0 [ inl e ↦ ap (λ (z : Pt). z ∷ []) e | inr n ↦ absurd n ]
single p (u ∷ v ∷ s) kx ky h a r = absurd (irreflexive (key kx ky p) (subst (λ (z : Pt). key kx ky z <ℤ key kx ky p) (only u a.0) (subst (λ (z : Pt). key kx ky u <ℤ key kx ky z) (only v a.1.0) (r 0 1 p (omega arith) (omega arith)))))
  where
    only : (w : Pt) → Includes (p ∷ []) w → w ≡ p
    only w (inl e) = e
    only w (inr n) = absurd n

pub one_point : (p : Pt) → IsHullOf (p ∷ []) (p ∷ [])
one_point p = record {
  ordered = (tt, ((inl refl, tt), tt));
  among = (inl refl, tt);
  covers = (hull_first p [], tt);
}

-- ---- two points and more

pub two_of : (kx ky : ℤ) (s chain : List Pt) → 2 ≤ length s → Rising kx ky s → IsChain kx ky s chain → 2 ≤ length chain
two_of kx ky s chain two r c =
    elim (below_or_at_least (length chain) 2) [
      | inr enough ↦ enough
      | inl few ↦ absurd (one (omega (arith, few, c.ends.some (omega (arith, two)))))
    ]
  where
    d : Pt
    d = record { x = pos 0; y = pos 0 }

    one : length chain ≡ 1 → ⊥
    one e =
        let first = c.ends.first d (omega (arith, two)) in
        let last = c.ends.last 0 (length s - 1) d (omega (arith, e)) (omega (arith, two)) in
        irreflexive (key kx ky (get_or chain 0 d))
        (subst (λ (z : Pt). key kx ky z <ℤ key kx ky (get_or chain 0 d)) (sym first)
        (subst (λ (z : Pt). key kx ky (get_or s 0 d) <ℤ key kx ky z) (sym last) (r 0 (length s - 1) d (omega (arith, two)) (omega (arith, two)))))

module _ (s there back : List Pt) (positions : AllByRecursion IsPosition s) (t : IsSideOf far (pos 1) s there) (b : IsSideOf (pos 0 -ℤ far) (pos 0 -ℤ pos 1) s back) (there_two : 2 ≤ length there) (back_two : 2 ≤ length back) (meet : HasMeetingEnds there back) where
  middle_size : length (between_ends back) + 2 ≡ length back
  middle_size = let k : length (drop 1 back) ≡ length back - 1 = length-drop 1 back in let e : length (between_ends back) ≡ length back - 2 = simp length-take (omega (arith, k)) in omega (arith, e, back_two)

  middle_at : (k : ℕ) (d : Pt) → k + 2 < length back → get_or (between_ends back) k d ≡ get_or back (k + 1) d
  middle_at k d l = get_or-take (length back - 2) (drop 1 back) k d (omega (arith, l)) ∙ get_or_after_one back k d ∙ ap (λ n. get_or back n d) (omega arith)

  foot : (i : ℕ) (d : Pt) → i + 1 ≡ length back → get_or back i d ≡ get_or there 0 d
  foot = meet.foot

  top : (i : ℕ) (d : Pt) → i + 1 ≡ length there → get_or there i d ≡ get_or back 0 d
  top = meet.top

  whole : length (there ++ between_ends back) ≡ length there + length (between_ends back)
  whole = simp length-append refl

  loop : Loop far (pos 1) there back (there ++ between_ends back)
  loop = record {
    there_two = there_two;
    back_two = back_two;
    there_turns = t.turns;
    back_turns = b.turns;
    there_rises = t.rises;
    back_rises = b.rises;
    first = foot;
    last = top;
    size = omega (arith, whole, middle_size);
    low_at = λ k d l. get_or-append there (between_ends back) d k l;
    high_at = λ k j d e l. ap (λ n. get_or (there ++ between_ends back) n d) e ∙ get_or-append-add there (between_ends back) k d ∙ middle_at k d l;
  }

  there_in : (u : Pt) → Includes there u → Includes s u
  there_in u i = all_included (Includes s) there u t.inside i

  back_in : (u : Pt) → Includes back u → Includes s u
  back_in u i = all_included (Includes s) back u b.inside i

  middle_in_back : (u : Pt) → Includes (between_ends back) u → Includes back u
  middle_in_back u i = let (k, l, e) = place_of (between_ends back) u u i in
      subst (Includes back) (sym (middle_at k u (omega (arith, l, middle_size))) ∙ e) (includes_at back (k + 1) u (omega (arith, l, middle_size)))

  all_in : AllByRecursion (Includes s) (there ++ between_ends back)
  all_in = all_append (Includes s) there (between_ends back) t.inside (all_of (Includes s) (between_ends back) (λ u i. back_in u (middle_in_back u i)))

  has_back : (u : Pt) → Includes back u → Includes (there ++ between_ends back) u
  has_back u i = let (k, l, e) = place_of back u u i in go k l e
    where
      go : (k : ℕ) → k < length back → get_or back k u ≡ u → Includes (there ++ between_ends back) u
      go zero l e = includes_front there (between_ends back) u (subst (Includes there) (top (length there - 1) u (omega (arith, there_two)) ∙ e) (includes_at there (length there - 1) u (omega (arith, there_two))))
      go (suc k) l e = elim (below_or_at_least (suc (suc k)) (length back)) [
        | inl inner ↦ includes_back there (between_ends back) u (subst (Includes (between_ends back)) (middle_at k u (omega (arith, inner)) ∙ ap (λ n. get_or back n u) (omega arith) ∙ e) (includes_at (between_ends back) k u (omega (arith, inner, middle_size))))
        | inr last ↦ includes_front there (between_ends back) u (subst (Includes there) (sym (foot (suc k) u (omega (arith, last, l))) ∙ e) (includes_at there 0 u (omega (arith, there_two))))
      ]

  -- the first corner is the first point, and each other one comes later
  starts : StartsFirst (there ++ between_ends back)
  starts k d k0 kn =
      subst (λ (z : Pt). Before z (get_or (there ++ between_ends back) k d)) (sym (loop.low_at 0 d (omega (arith, there_two))))
      (elim (below_or_at_least k (length there)) [
        | inl low ↦ subst (λ (z : Pt). Before (get_or there 0 d) z) (sym (loop.low_at k d low))
            (key_before (get_or there 0 d) (get_or there k d) (position there t.inside 0 d (omega (arith, there_two))) (position there t.inside k d low) (t.rises 0 k d k0 low))
        | inr high ↦ later (k - length there) high
      ])
    where
      position : (us : List Pt) → AllByRecursion (Includes s) us → (k : ℕ) (d : Pt) → k < length us → IsPosition (get_or us k d)
      position us h k d l = all_included IsPosition s (get_or us k d) positions (all_at (Includes s) us k d h l)

      later : (j : ℕ) → length there ≤ k → Before (get_or there 0 d) (get_or (there ++ between_ends back) k d)
      later j high =
          let m : ℕ = k - length there in
          let inside : m + 2 < length back = omega (arith, whole, middle_size, kn, high) in
          subst (λ (z : Pt). Before (get_or there 0 d) z) (sym (loop.high_at m k d (omega (arith, high)) inside))
          (subst (λ (z : Pt). Before z (get_or back (m + 1) d)) (foot (length back - 1) d (omega (arith, back_two)))
          (key_before (get_or back (length back - 1) d) (get_or back (m + 1) d)
          (back_position (length back - 1) (omega (arith, back_two))) (back_position (m + 1) (omega (arith, inside)))
          (neg_key far (pos 1) (get_or back (m + 1) d) (get_or back (length back - 1) d) (b.rises (m + 1) (length back - 1) d (omega (arith, inside)) (omega (arith, back_two))))))
        where
          back_position : (i : ℕ) → i < length back → IsPosition (get_or back i d)
          back_position i l = all_included IsPosition s (get_or back i d) positions (back_in (get_or back i d) (includes_at back i d l))

  pub hull_of_sides : IsHullOf s (there ++ between_ends back)
  hull_of_sides = record {
    ordered = corner_list_of (there ++ between_ends back) (omega (arith, whole, there_two)) starts (loop_turns far (pos 1) there back (there ++ between_ends back) loop);
    among = all_in;
    covers = all_of (InHull (there ++ between_ends back)) s (λ u i.
        chains_hull far (pos 1) there back (there ++ between_ends back) u
        (all_of (Includes (there ++ between_ends back)) there (λ v j. includes_front there (between_ends back) v j))
        (all_of (Includes (there ++ between_ends back)) back has_back)
        (all_included (Toward (pos 1) (pos 0 -ℤ far) there) s u t.side i)
        (all_included (Toward (pos 0 -ℤ pos 1) (pos 0 -ℤ (pos 0 -ℤ far)) back) s u b.side i));
  }

hull_of_two : (s there back : List Pt) → AllByRecursion IsPosition s → IsOrdered s → 2 ≤ length s → IsChain far (pos 1) s there → IsChain (pos 0 -ℤ far) (pos 0 -ℤ pos 1) (reverse s) back → IsHullOf s (there ++ between_ends back)
hull_of_two s there back positions ordered two t b =
    hull_of_sides s there back positions
    (record { turns = t.turns; rises = t.rises; inside = t.inside; side = t.side })
    (record {
      turns = b.turns;
      rises = b.rises;
      inside = all_of (Includes s) back (λ u i. includes_reverse s u (all_included (Includes (reverse s)) back u b.inside i));
      side = all_of (Toward (pos 0 -ℤ pos 1) (pos 0 -ℤ (pos 0 -ℤ far)) back) s (λ u i. all_included (Toward (pos 0 -ℤ pos 1) (pos 0 -ℤ (pos 0 -ℤ far)) back) (reverse s) u b.side (reverse_includes s u i));
    })
    (two_of far (pos 1) s there two rises t)
    (two_of (pos 0 -ℤ far) (pos 0 -ℤ pos 1) (reverse s) back (omega (arith, size)) (reversed_rises far (pos 1) s rises) b)
    (record {
      foot = λ i d e. b.ends.last i (length s - 1) d e (omega (arith, size)) ∙ get_or-reverse s (length s - 1) d (omega arith) ∙ ap (λ n. get_or s n d) (omega arith) ∙ sym (t.ends.first d (omega arith));
      top = λ i d e. t.ends.last i (length s - 1) d e (omega arith) ∙ ap (λ n. get_or s n d) (omega arith) ∙ sym (get_or-reverse s 0 d (omega arith)) ∙ sym (b.ends.first d (omega (arith, size)));
    })
  where
    rises : Rising far (pos 1) s
    rises = ordered_rises s positions ordered

    size : length (reverse s) ≡ length s
    size = length-reverse s

-- the corners of the hull of points in order
pub hull_of_chains : (s there back : List Pt) → AllByRecursion IsPosition s → IsOrdered s → 0 < length s → IsChain far (pos 1) s there → IsChain (pos 0 -ℤ far) (pos 0 -ℤ pos 1) (reverse s) back → IsHullOf s (there ++ between_ends back)
hull_of_chains [] there back h o n t b = absurd (omega arith)
hull_of_chains (p ∷ []) there back h o n t b =
    let e : there ≡ p ∷ [] = single p there far (pos 1) (t.ends.some (omega arith)) t.inside t.rises in
    let f : back ≡ p ∷ [] = single p back (pos 0 -ℤ far) (pos 0 -ℤ pos 1) (b.ends.some (omega arith)) b.inside b.rises in
    subst (λ z. IsHullOf (p ∷ []) (z ++ between_ends back)) (sym e) (subst (λ z. IsHullOf (p ∷ []) ((p ∷ []) ++ between_ends z)) (sym f) (one_point p))
hull_of_chains (p ∷ q ∷ s) there back h o n t b = hull_of_two (p ∷ q ∷ s) there back h o (omega arith) t b

-- the corners of the hull of points that are the same in another order, or more often
pub hull_of_same : (points s corners : List Pt) → AllByRecursion (Includes points) s → AllByRecursion (Includes s) points → IsHullOf s corners → IsHullOf points corners
hull_of_same points s corners h k u = record {
  ordered = u.ordered;
  among = all_of (Includes points) corners (λ v i. all_included (Includes points) s v h (all_included (Includes s) corners v u.among i));
  covers = all_of (InHull corners) points (λ v i. all_included (InHull corners) s v u.covers (all_included (Includes s) points v k i));
}

-- ---- the steps of the code

pub positions_of : (points us s : List Pt) → AllByRecursion IsPosition points → IsPermutation points us → AllByRecursion (Includes us) s → AllByRecursion IsPosition s
positions_of points us s h p a = all_of IsPosition s (λ v i. all_included IsPosition points v h (all_included (Includes points) us v (permuted_in points us p) (all_included (Includes us) s v a i)))

pub positions_reversed : (s r : List Pt) → AllByRecursion IsPosition s → r ≡ reverse s → AllByRecursion IsPosition r
positions_reversed s r h e = subst (AllByRecursion IsPosition) (sym e) (all_of IsPosition (reverse s) (λ v i. all_included IsPosition s v h (includes_reverse s v i)))

some_of : (us s : List Pt) → 0 < length us → AllByRecursion (Includes s) us → 0 < length s
some_of [] s h a = absurd (omega arith)
some_of (u ∷ us) [] h a = absurd a.0
some_of (u ∷ us) (v ∷ s) h a = omega arith

pub hull_of_code : (points us s r there back : List Pt) → 0 < length points → AllByRecursion IsPosition points → IsPermutation points us → IsOrdered s → AllByRecursion (Includes us) s → AllByRecursion (Includes s) us → r ≡ reverse s
    → ((kx ky : ℤ) → Rising kx ky s → IsChain kx ky s there) → ((kx ky : ℤ) → Rising kx ky r → IsChain kx ky r back) → IsHullOf points (there ++ between_ends back)
hull_of_code points us s r there back some h p o a all e t b =
    let positions = positions_of points us s h p a in
    let rising = ordered_rises s positions o in
    let among : AllByRecursion (Includes points) s = all_of (Includes points) s (λ v i. all_included (Includes points) us v (permuted_in points us p) (all_included (Includes us) s v a i)) in
    let every : AllByRecursion (Includes s) points = all_of (Includes s) points (λ v i. all_included (Includes s) us v all (all_included (Includes us) points v (permuted_all points us p) i)) in
    hull_of_same points s (there ++ between_ends back) among every
    (hull_of_chains s there back positions o (some_of points s some every) (t far (pos 1) rising)
    (subst (λ z. IsChain (pos 0 -ℤ far) (pos 0 -ℤ pos 1) z back) e (b (pos 0 -ℤ far) (pos 0 -ℤ pos 1) (subst (Rising (pos 0 -ℤ far) (pos 0 -ℤ pos 1)) (sym e) (reversed_rises far (pos 1) s rising)))))

-- what a corner list of at most 20 points of positions is
pub polygon_of : (points corners : List Pt) → AllByRecursion IsPosition points → ((us : List Pt) → IsHullOf points us → length us ≤ 20) → IsHullOf points corners → IsPolygon corners
polygon_of points corners h few u = record {
  convex = u.ordered;
  few = few corners u;
  positions = all_of IsPosition corners (λ v i. all_included IsPosition points v h (all_included (Includes points) corners v u.among i));
}
