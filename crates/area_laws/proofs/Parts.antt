-- The parts that the children of the sets before leave in a cell, and the cell's polygons.
use Rattle.std.proofs.Common.{◌≡◌, ℕ, subst, List, [], ◌∷◌, Some, None}
use lib.IntN.{ℤ, pos}
use lib.Signed.{◌≤ℤ◌}
use Rattle.spot_terms.specs.BaseSets.{SetValue}
use Rattle.spot_terms.specs.CellNumbers.{Numbers, LeavesParts, IsMostOf, Collects}
use Rattle.spot_terms.specs.ChildNumbers.{support}
use Rattle.spot_terms.specs.Courses.{Course}
use Rattle.spot_terms.specs.Frames.{frame_normals}
use Rattle.spot_terms.specs.Lists.{Pairwise}
use Rattle.spot_terms.specs.Reach.{Normal}
use Rattle.spot_terms.specs.StepLists.{IsFrameOf, HasParts, IsMost, IsMerged}
use Rattle.spot_terms.specs.declared.plain.Pt.{Pt}
use Rattle.spot_terms.proofs.ListLemmas.{pairwise_each}
use Rattle.spot_terms.proofs.OneHull.{one_hull}
use Rattle.spot_terms.proofs.Orders.{antisymmetric, at_most_trans, equal_at_least}
use Rattle.spot_terms.proofs.Unique.{pairwise_one}
use Rattle.area_laws.specs.Filling.{Pair, ArePairsOf}

-- ---- the parts of the pairs are the parts of the sets' children

module _ (course : Course) (i : ℕ) (before : List SetValue) (pairs : List Pair) (are : ArePairsOf course i before pairs) (col row : ℤ) where
  to_pairs : (x y : List Pt) → HasParts course i before col row x y → LeavesParts course.w course.g course.k col row pairs x y
  to_pairs x y h = ((h.child_x, h.child_y), are.all h.set (h.child_x, h.child_y) h.listed (h.is_child_x, h.is_child_y), h.part_x, h.part_y)

  from_pairs : (x y : List Pt) → LeavesParts course.w course.g course.k col row pairs x y → HasParts course i before col row x y
  from_pairs x y (p, j, a, b) = let (s, l, r) = are.each p j in record {
    set = s;
    listed = l;
    child_x = p.0;
    child_y = p.1;
    is_child_x = r.0;
    is_child_y = r.1;
    part_x = a;
    part_y = b;
  }

  most : (plane : Pair → List Pt) (n : Normal) (h : ℤ) → IsMostOf course.w course.g course.k col row pairs plane n h → IsMost course i before plane col row n h
  most plane n h m = record {
    bound = λ x y p. m.bound x y (to_pairs x y p);
    reached = let (x, y, l, e) = m.reached in (x, y, from_pairs x y l, e);
  }

  -- the frames of the numbers of a cell are the cell's polygons
  pub is_merged : (numbers : Numbers) (x y : List Pt) → Collects course.w course.g course.k col row pairs (Some numbers)
      → IsFrameOf course.k numbers.0 x → IsFrameOf course.k numbers.1 y → IsMerged course i before col row x y
  is_merged numbers x y c f g = record {
    numbers_x = numbers.0;
    numbers_y = numbers.1;
    most_x = pairwise_each (IsMostOf course.w course.g course.k col row pairs (λ p. p.0)) (IsMost course i before (λ p. p.0) col row) (frame_normals (pos course.k)) numbers.0 (most (λ p. p.0)) c.0;
    most_y = pairwise_each (IsMostOf course.w course.g course.k col row pairs (λ p. p.1)) (IsMost course i before (λ p. p.1) col row) (frame_normals (pos course.k)) numbers.1 (most (λ p. p.1)) c.1;
    frame_x = f;
    frame_y = g;
  }

-- ---- where a cell has polygons, it has a part

module _ (course : Course) (i : ℕ) (before : List SetValue) (col row : ℤ) where
  first_part : (plane : Pair → List Pt) (n : Normal) (ns : List Normal) (hs : List ℤ) → Pairwise (IsMost course i before plane col row) (n ∷ ns) hs
      → (x y : List Pt) × HasParts course i before col row x y
  first_part plane n ns [] p = absurd p
  first_part plane n ns (h ∷ hs) p = let (x, y, parts, e) = p.0.reached in (x, y, parts)

  pub some_part : (x y : List Pt) → IsMerged course i before col row x y → (a b : List Pt) × HasParts course i before col row a b
  some_part x y m = first_part (λ p. p.0) (pos 0, pos 1) (rest (frame_normals (pos course.k))) m.numbers_x m.most_x
    where
      rest : List Normal → List Normal
      rest [] = []
      rest (n ∷ ns) = ns

  -- ---- a cell has one pair of polygons

  most_one : (plane : Pair → List Pt) (n : Normal) (h k : ℤ) → IsMost course i before plane col row n h → IsMost course i before plane col row n k → h ≡ k
  most_one plane n h k a b = antisymmetric h k (reach h k a b) (reach k h b a)
    where
      reach : (h k : ℤ) → IsMost course i before plane col row n h → IsMost course i before plane col row n k → h ≤ℤ k
      reach h k a b = let (x, y, p, e) = a.reached in at_most_trans h (support n (plane (x, y))) k (equal_at_least (support n (plane (x, y))) h e) (b.bound x y p)

  mosts_one : (plane : Pair → List Pt) (hs ks : List ℤ) → Pairwise (IsMost course i before plane col row) (frame_normals (pos course.k)) hs
      → Pairwise (IsMost course i before plane col row) (frame_normals (pos course.k)) ks → hs ≡ ks
  mosts_one plane hs ks a b = pairwise_one (IsMost course i before plane col row) (most_one plane) (frame_normals (pos course.k)) hs ks a b

  frame_one : (ms ns : List ℤ) (x u : List Pt) → ms ≡ ns → IsFrameOf course.k ms x → IsFrameOf course.k ns u → x ≡ u
  frame_one ms ns x u e h k = one_hull _ x u (subst (λ (z : List ℤ). IsFrameOf course.k z x) e h) k

  pub merged_one : (x y u v : List Pt) → IsMerged course i before col row x y → IsMerged course i before col row u v → (x ≡ u) × (y ≡ v)
  merged_one x y u v a b = (
    frame_one a.numbers_x b.numbers_x x u (mosts_one (λ p. p.0) a.numbers_x b.numbers_x a.most_x b.most_x) a.frame_x b.frame_x,
    frame_one a.numbers_y b.numbers_y y v (mosts_one (λ p. p.1) a.numbers_y b.numbers_y a.most_y b.most_y) a.frame_y b.frame_y,
  )

-- a cell without numbers has none
pub not_merged : (course : Course) (i : ℕ) (before : List SetValue) (pairs : List Pair) (are : ArePairsOf course i before pairs) (col row : ℤ) (x y : List Pt)
    → Collects course.w course.g course.k col row pairs None → IsMerged course i before col row x y → ⊥
not_merged course i before pairs are col row x y none m = let (a, b, parts) = some_part course i before col row x y m in none a b (to_pairs course i before pairs are col row a b parts)
