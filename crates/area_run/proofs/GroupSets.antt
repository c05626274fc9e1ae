-- Groups of sets with one polygon along x: their children, and what the table has after them.
use Rattle.std.proofs.Common.{◌≡◌, ◌∙◌, ◌⊎◌, inl, inr, ℕ, zero, suc, ◌+◌, ◌-◌, ◌<◌, ◌≤◌, arith, refl, sym, ap, subst, List, [], ◌∷◌, ◌++◌, append-nil, get_or, length, map, take, drop, Option, Some, None, to_z, of_z, w64}
use Rattle.std.specs.Prelude.{nat_abs, slice_get}
use Rattle.std.proofs.lemmas.Int.{ints}
use Rattle.std.proofs.lemmas.List.{append_assoc, map-append, take_more}
use Rattle.std.proofs.lemmas.Option.{none-some, same_Some}
use lib.IntN.{ℤ, pos}
use lib.Signed.{◌≤ℤ◌, ◌<ℤ◌}
use Rattle.spot_terms.specs.BaseSets.{Rect, SetValue, least_place, greatest_place}
use Rattle.spot_terms.specs.Courses.{Course, box_at, slots_met}
use Rattle.spot_terms.specs.Grid.{slot}
use Rattle.spot_terms.specs.Hull.{IsCornerList}
use Rattle.spot_terms.specs.Lists.{Includes}
use Rattle.spot_terms.specs.declared.plain.Pt.{Pt}
use Rattle.spot_terms.proofs.ItemPlaces.{get_take, got_below}
use Rattle.spot_terms.proofs.ListLemmas.{includes_map}
use Rattle.spot_terms.proofs.Members.{in_map}
use Rattle.round_out.specs.declared.frames.FrameNumbers.{FrameNumbers}
use Rattle.base_sets.specs.Values.{course_with, rect_of_box, value_of}
use Rattle.base_sets.specs.declared.ego.EgoBounds.{EgoBounds}
use Rattle.base_sets.specs.declared.ego.EgoStart.{EgoStart}
use Rattle.base_sets.specs.declared.grid.Grid.{Grid}
use Rattle.base_sets.specs.declared.grid.OuterBox.{OuterBox}
use Rattle.base_sets.specs.declared.sets.BaseSet.{BaseSet}
use Rattle.propagate.specs.Children.{HoldsPlane, IsPlaneChild}
use Rattle.merge_sets.specs.Tables.{Table}
use Rattle.area_laws.specs.Filling.{IsFilledFrom}
use Rattle.area_laws.specs.Groups.{HasGroup, IsGroupOf, IsStrip}
use Rattle.area_laws.proofs.GroupFills.{both_children, childless_filled, group_child, group_childless, group_filled, no_child_x, no_child_y, no_group}
use Rattle.area_laws.proofs.Sides.{child_inside}
use Rattle.area_run.specs.Plans.{IsPlan, course_of}
use Rattle.area_run.specs.Strips.{AreAlike, AreAlongY, FillsWith, IsChildAlong, with_child}
use Rattle.area_run.specs.declared.plan.Plan.{Plan}
use Rattle.spot_terms.proofs.Slots.{some_width}

-- ---- children as calls answer them

abbrev read : ℤ → ℤ
read z = to_z w64 (of_z w64 z)

place_read : (z : ℤ) → nat_abs z ≤ 40_000_000_000_000 → read z ≡ z
place_read z h = omega (arith, ints)

pub place_small : (z : ℤ) → nat_abs z ≤ 40_000_000_000_000 → nat_abs (read z) ≤ 40_000_000_000_000
place_small z h = subst (λ (y : ℤ). nat_abs y ≤ 40_000_000_000_000) (sym (place_read z h)) h

pub at_places : (P : ℤ → ℤ → Type 0) (lo hi : ℤ) → nat_abs lo ≤ 40_000_000_000_000 → nat_abs hi ≤ 40_000_000_000_000 → P (read lo) (read hi) → P lo hi
at_places P lo hi h k p = subst (λ (z : ℤ). P z hi) (place_read lo h) (subst (λ (z : ℤ). P (read lo) z) (place_read hi k) p)

pub child_along : (plan : Plan) (lo hi : ℤ) (corners : List Pt) (child : Option (List Pt)) → nat_abs lo ≤ 40_000_000_000_000 → nat_abs hi ≤ 40_000_000_000_000
    → ((s : EgoStart) (grid : Grid) → IsPlaneChild (course_with s plan.e grid plan.k) (read lo) (read hi) corners child) → ((s : EgoStart) (grid : Grid) → HoldsPlane (course_with s plan.e grid plan.k) (read lo) (read hi) corners child)
    → IsChildAlong (course_of plan) lo hi corners child
child_along plan lo hi corners child h k is holds = record {
  is = at_places (λ l m. IsPlaneChild (course_of plan) l m corners child) lo hi h k (is plan.s plan.grid);
  holds = at_places (λ l m. HoldsPlane (course_of plan) l m corners child) lo hi h k (holds plan.s plan.grid);
}

pub convex_child : (course : Course) (lo hi : ℤ) (corners child : List Pt) → IsChildAlong course lo hi corners (Some child) → IsCornerList child
convex_child course lo hi corners child h = (child_inside lo hi course.v h.is.0 child h.is.2).convex

-- ---- a group, set by set

module _ (plan : Plan) (b : OuterBox) (is : IsPlan plan) where
  pub along_none : AreAlongY plan b [] []
  along_none = λ i x e each. no_group (course_of plan) i x

  -- the child in the box of the step
  in_x : (i : ℕ) (s : SetValue) (child : Option (List Pt)) → rect_of_box b ≡ box_at (course_of plan) i → IsChildAlong (course_of plan) b.xlo b.xhi s.x child → IsChildAlong (course_of plan) (box_at (course_of plan) i).xlo (box_at (course_of plan) i).xhi s.x child
  in_x i s child e h = subst (λ (r : Rect). IsChildAlong (course_of plan) r.xlo r.xhi s.x child) e h

  in_y : (i : ℕ) (s : SetValue) (child : Option (List Pt)) → rect_of_box b ≡ box_at (course_of plan) i → IsChildAlong (course_of plan) b.ylo b.yhi s.y child → IsChildAlong (course_of plan) (box_at (course_of plan) i).ylo (box_at (course_of plan) i).yhi s.y child
  in_y i s child e h = subst (λ (r : Rect). IsChildAlong (course_of plan) r.ylo r.yhi s.y child) e h

  earlier : (sets : List SetValue) (s t : SetValue) → Includes sets t → Includes (sets ++ s ∷ []) t
  earlier [] s t j = absurd j
  earlier (u ∷ sets) s t (inl e) = inl e
  earlier (u ∷ sets) s t (inr j) = inr (earlier sets s t j)

  latest : (sets : List SetValue) (s : SetValue) → Includes (sets ++ s ∷ []) s
  latest [] s = inl refl
  latest (u ∷ sets) s = inr (latest sets s)

  pub along_more : (sets : List SetValue) (ys : List (List Pt)) (s : SetValue) (child : Option (List Pt)) → AreAlongY plan b sets ys → IsChildAlong (course_of plan) b.ylo b.yhi s.y child → AreAlongY plan b (sets ++ s ∷ []) (with_child child ys)
  along_more sets ys s None h along = λ i x e each.
      let c = in_y i s None e along in
      let (a, k) = no_child_y (course_of plan) i s is.bounds.v.low (record { is = c.is; holds = c.holds }) in
      group_childless (course_of plan) i x sets ys s (h i x e (λ t j. each t (earlier sets s t j))) a k
  along_more sets ys s (Some y) h along = λ i x e each.
      let c = in_y i s (Some y) e along in
      let d = in_x i s (Some x) e (each s (latest sets s)) in
      let (a, k) = both_children (course_of plan) i s is.bounds.v.low x y (record { is = d.is; holds = d.holds }) (record { is = c.is; holds = c.holds }) in
      group_child (course_of plan) i x sets ys s (h i x e (λ t j. each t (earlier sets s t j))) y a k

  -- sets without a child along x
  childless : (i : ℕ) (x : List Pt) → rect_of_box b ≡ box_at (course_of plan) i → (done rest : List SetValue) → IsGroupOf (course_of plan) i x done []
      → ((s : SetValue) → Includes rest s → IsChildAlong (course_of plan) b.xlo b.xhi s.x None) → IsGroupOf (course_of plan) i x (done ++ rest) []
  childless i x e done [] h each = subst (λ (l : List SetValue). IsGroupOf (course_of plan) i x l []) (sym (append-nil done)) h
  childless i x e done (s ∷ rest) h each =
      let c = in_x i s None e (each s (inl refl)) in
      let (a, k) = no_child_x (course_of plan) i s is.bounds.v.low (record { is = c.is; holds = c.holds }) in
      subst (λ (l : List SetValue). IsGroupOf (course_of plan) i x l []) (append_assoc done (s ∷ []) rest)
      (childless i x e (done ++ s ∷ []) rest (group_childless (course_of plan) i x done [] s h a k) (λ t j. each t (inr j)))

  -- ---- what the table has

  pub fills_empty : (t : Table) → FillsWith plan b [] t t
  fills_empty t = λ i before e f. subst (λ (l : List SetValue). IsFilledFrom (course_of plan) i l t) (sym (append-nil before)) f

  pub fills_childless : (sets : List SetValue) (t : Table) → ((s : SetValue) → Includes sets s → IsChildAlong (course_of plan) b.xlo b.xhi s.x None) → FillsWith plan b sets t t
  fills_childless sets t each = λ i before e f. childless_filled (course_of plan) i before t [] sets f (childless i [] e [] sets (no_group (course_of plan) i []) each)

  pub fills_group : (sets : List SetValue) (old new : Table) (x : List Pt) (ys : List (List Pt)) (low : ℤ) (rows : List (Option FrameNumbers)) → old.step ≡ Some (b, plan.grid, plan.k)
      → ((s : SetValue) → Includes sets s → IsChildAlong (course_of plan) b.xlo b.xhi s.x (Some x)) → IsCornerList x → AreAlongY plan b sets ys → IsStrip plan.grid.g plan.k ys low rows
      → HasGroup plan.grid.w plan.grid.g plan.k x ys (slot plan.grid.w (least_place x)) (slots_met plan.grid.w (least_place x) (greatest_place x)) old new → FillsWith plan b sets old new
  fills_group sets old new x ys low rows begun each convex along strip has = λ i before e f.
      let same : f.grid ≡ plan.grid = ap (λ (p : OuterBox × Grid × ℕ). p.1) (same_Some _ _ (sym f.begun.step ∙ begun)) in
      group_filled (course_of plan) i before old new f x sets ys (slot plan.grid.w (least_place x)) (slots_met plan.grid.w (least_place x) (greatest_place x)) low rows (some_width plan.grid.w is.grid.w)
      (along i x e each) convex (ap (λ (z : Grid). slot z.w (least_place x)) (sym same)) (ap (λ (z : Grid). slots_met z.w (least_place x) (greatest_place x)) (sym same))
      (subst (λ (z : Grid). IsStrip z.g plan.k ys low rows) (sym same) strip)
      (subst (λ (z : Grid). HasGroup z.w z.g plan.k x ys (slot plan.grid.w (least_place x)) (slots_met plan.grid.w (least_place x) (greatest_place x)) old new) (sym same) has)

-- all sets have the child of one of them
pub each_alike : (course : Course) (lo hi : ℤ) (sets : List BaseSet) (s : BaseSet) (child : Option (List Pt)) → AreAlike sets → Includes sets s → IsChildAlong course lo hi s.x child
    → (t : SetValue) → Includes (map value_of sets) t → IsChildAlong course lo hi t.x child
each_alike course lo hi sets s child alike i h t j =
    let (u, k, e) = in_map value_of sets t j in
    subst (λ (z : SetValue). IsChildAlong course lo hi z.x child) (sym e) (subst (λ (z : List Pt). IsChildAlong course lo hi z child) (alike s u i k) h)

-- one set more
pub one_more : (sets : List BaseSet) (n : ℕ) (b : BaseSet) → n < length sets → b ≡ get_or sets n b → map value_of (take (n + 1) sets) ≡ map value_of (take n sets) ++ value_of b ∷ []
one_more sets n b h e = ap (map value_of) (take_more sets n b h ∙ ap (λ (z : BaseSet). take n sets ++ z ∷ []) (sym e)) ∙ map-append value_of (take n sets) (b ∷ [])

-- ---- neighbours

-- the items from `from` to below n have the polygon of the first of them along x
pub record AreSameFrom (sets : List BaseSet) (from n : ℕ) : Type 0 where
  pub order : from ≤ n
  pub same : (j : ℕ) (s t : BaseSet) → from ≤ j → j < n → slice_get sets j ≡ Some s → slice_get sets from ≡ Some t → s.x ≡ t.x

pub same_none : (sets : List BaseSet) → AreSameFrom sets 0 0
same_none sets = record { order = omega arith; same = λ j s t a l g h. absurd (omega (arith, l)) }

pub same_more : (sets : List BaseSet) (from n : ℕ) (p q : BaseSet) → AreSameFrom sets from n → slice_get sets from ≡ Some p → slice_get sets n ≡ Some q → p.x ≡ q.x → AreSameFrom sets from (n + 1)
same_more sets from n p q h at_from at_n e = record {
  order = (let o = h.order in omega (arith, o));
  same = λ j s t a l g k. elim (last_or_before j l) [
    | inl less ↦ h.same j s t a less g k
    | inr is ↦ ap (λ (z : BaseSet). z.x) (same_Some s q (sym g ∙ ap (slice_get sets) is ∙ at_n)) ∙ sym e ∙ ap (λ (z : BaseSet). z.x) (same_Some p t (sym at_from ∙ k))
  ];
}
  where
    last_or_before : (j : ℕ) → j < n + 1 → (j < n) ⊎ (j ≡ n)
    last_or_before j l = grind (arith, l)

pub same_anew : (sets : List BaseSet) (n : ℕ) → AreSameFrom sets n (n + 1)
same_anew sets n = record {
  order = omega arith;
  same = λ j s t a l g k. ap (λ (z : BaseSet). z.x) (same_Some s t (sym g ∙ ap (slice_get sets) (only j a l) ∙ k));
}
  where
    only : (j : ℕ) → n ≤ j → j < n + 1 → j ≡ n
    only j a l = omega (arith, a, l)

included_got : (xs : List BaseSet) (x : BaseSet) → Includes xs x → (j : ℕ) × (slice_get xs j ≡ Some x)
included_got [] x i = absurd i
included_got (y ∷ xs) x (inl e) = (0, ap (λ (z : BaseSet). Some z) (sym e))
included_got (y ∷ xs) x (inr i) = let (j, got) = included_got xs x i in (suc j, got)

get_rest : (xs : List BaseSet) (n i : ℕ) → slice_get (drop n xs) i ≡ slice_get xs (n + i)
get_rest xs zero i = let e : 0 + i ≡ i = omega arith in ap (slice_get xs) (sym e)
get_rest [] (suc n) i = refl
get_rest (x ∷ xs) (suc n) i = let e : suc n + i ≡ suc (n + i) = omega arith in get_rest xs n i ∙ ap (slice_get (x ∷ xs)) (sym e)

-- an item of a stretch stands at one of its places
stretch_place : (sets : List BaseSet) (from m : ℕ) (s : BaseSet) → Includes (take m (drop from sets)) s → (j : ℕ) × (j < m) × (slice_get sets (from + j) ≡ Some s)
stretch_place sets from m s i =
    let (j, got) = included_got (take m (drop from sets)) s i in
    let (l, had) = get_take (drop from sets) m j s got in
    (j, l, sym (get_rest sets from j) ∙ had)

pub alike_stretch : (sets : List BaseSet) (from n : ℕ) → AreSameFrom sets from n → AreAlike (take (n - from) (drop from sets))
alike_stretch sets from n h s t i j =
    let (k, l, had) = stretch_place sets from (n - from) s i in
    let below : from + k < length sets = got_there sets (from + k) s had in
    let (first, at_first) = some_at sets from (omega (arith, below)) in
    to_first s first i at_first ∙ sym (to_first t first j at_first)
  where
    some_at : (xs : List BaseSet) (k : ℕ) → k < length xs → (x : BaseSet) × (slice_get xs k ≡ Some x)
    some_at [] k l = absurd (omega (arith, l))
    some_at (x ∷ xs) zero l = (x, refl)
    some_at (x ∷ xs) (suc k) l = some_at xs k (omega (arith, l))

    got_there : (xs : List BaseSet) (k : ℕ) (x : BaseSet) → slice_get xs k ≡ Some x → k < length xs
    got_there xs k x e = got_below xs k x e

    to_first : (s first : BaseSet) → Includes (take (n - from) (drop from sets)) s → slice_get sets from ≡ Some first → s.x ≡ first.x
    to_first s first i got = let (k, l, had) = stretch_place sets from (n - from) s i in h.same (from + k) s first (omega arith) (let o = h.order in omega (arith, l, o)) had got

-- a stretch has items of the list alone
pub stretch_included : (sets : List BaseSet) (from m : ℕ) (s : BaseSet) → Includes (take m (drop from sets)) s → Includes sets s
stretch_included sets from m s i = let (j, l, had) = stretch_place sets from m s i in got_there sets (from + j) s had
  where
    got_there : (xs : List BaseSet) (k : ℕ) (x : BaseSet) → slice_get xs k ≡ Some x → Includes xs x
    got_there [] k x e = absurd (none-some x e)
    got_there (y ∷ xs) zero x e = inl (sym (same_Some y x e))
    got_there (y ∷ xs) (suc k) x e = inr (got_there xs k x e)

pub values_included : (sets : List BaseSet) (from m : ℕ) (s : SetValue) → Includes (map value_of (take m (drop from sets))) s → Includes (map value_of sets) s
values_included sets from m s i =
    let (u, k, e) = in_map value_of (take m (drop from sets)) s i in
    subst (λ (z : SetValue). Includes (map value_of sets) z) (sym e) (includes_map value_of sets u (stretch_included sets from m u k))

abbrev nil_sets : List BaseSet
nil_sets = []

none_taken : (m k : ℕ) → take m (drop k nil_sets) ≡ nil_sets
none_taken zero zero = refl
none_taken zero (suc k) = refl
none_taken (suc m) zero = refl
none_taken (suc m) (suc k) = refl

stretches : (sets : List BaseSet) (from n : ℕ) → from ≤ n → take from sets ++ take (n - from) (drop from sets) ≡ take n sets
stretches sets zero n o = let e : n - 0 ≡ n = omega arith in ap (λ (m : ℕ). take m sets) e
stretches [] (suc from) zero o = absurd (omega (arith, o))
stretches [] (suc from) (suc n) o = none_taken (suc n - suc from) (suc from)
stretches (s ∷ sets) (suc from) zero o = absurd (omega (arith, o))
stretches (s ∷ sets) (suc from) (suc n) o =
    let e : suc n - suc from ≡ n - from = omega arith in
    ap (λ (m : ℕ). s ∷ (take from sets ++ take m (drop from sets))) e ∙ ap (λ (l : List BaseSet). s ∷ l) (stretches sets from n (omega (arith, o)))

pub stretch_values : (sets : List BaseSet) (from n : ℕ) → from ≤ n → map value_of (take from sets) ++ map value_of (take (n - from) (drop from sets)) ≡ map value_of (take n sets)
stretch_values sets from n o = sym (map-append value_of (take from sets) (take (n - from) (drop from sets))) ∙ ap (map value_of) (stretches sets from n o)

-- the table is filled from the sets up to n
pub filled_up_to : (plan : Plan) (b : OuterBox) (sets : List BaseSet) (from n : ℕ) (old new : Table) → from ≤ n
    → ((i : ℕ) → rect_of_box b ≡ box_at (course_of plan) i → IsFilledFrom (course_of plan) i (map value_of (take from sets)) old) → FillsWith plan b (map value_of (take (n - from) (drop from sets))) old new
    → (i : ℕ) → rect_of_box b ≡ box_at (course_of plan) i → IsFilledFrom (course_of plan) i (map value_of (take n sets)) new
filled_up_to plan b sets from n old new o before fills i e =
    subst (λ (l : List SetValue). IsFilledFrom (course_of plan) i l new) (stretch_values sets from n o) (fills i (map value_of (take from sets)) e (before i e))
