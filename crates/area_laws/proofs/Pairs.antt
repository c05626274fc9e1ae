-- The pairs of children that come into a table, and what the table has of them.
use Rattle.std.proofs.Common.{◌≡◌, ◌⊎◌, inl, inr, refl, sym, subst, ℕ, List, [], ◌∷◌, ◌++◌, Some, None}
use lib.IntN.{ℤ}
use Rattle.spot_terms.specs.BaseSets.{SetValue, HoldsState}
use Rattle.spot_terms.specs.ClippedTo.{places, speeds, IsClippedTo}
use Rattle.spot_terms.specs.Courses.{Course, box_at}
use Rattle.spot_terms.specs.Lists.{Includes}
use Rattle.spot_terms.specs.Motions.{State}
use Rattle.spot_terms.specs.StepLists.{IsChild}
use Rattle.spot_terms.specs.declared.plain.Pt.{Pt}
use Rattle.spot_terms.proofs.ListLemmas.{includes_front, includes_back, includes_either}
use Rattle.spot_terms.proofs.OneClip.{clips_one, clips_not_both}
use Rattle.spot_terms.proofs.OneHull.{one_hull}
use Rattle.base_sets.specs.declared.grid.Grid.{Grid}
use Rattle.base_sets.specs.declared.grid.OuterBox.{OuterBox}
use Rattle.propagate.specs.Children.{AreChildren, HasNoChild, HoldsNext}
use Rattle.merge_sets.specs.Tables.{Adds, Holds, HoldsInCell, PartsHold, Table}
use Rattle.merge_sets.proofs.Collections.{tables_collect}
use Rattle.area_laws.specs.Filling.{Pair, IsHeldByPairs, IsTableFor, ArePairsOf, IsFilledFrom}
use Rattle.area_laws.specs.Laws.{TablesFill}
use Rattle.area_laws.specs.Leading.{IsNextState}

-- ---- a set has one pair of children at most

module _ (course : Course) (lo hi : ℤ) (corners : List Pt) where
  child_one : (a b : List Pt) → IsChild course lo hi corners a → IsChild course lo hi corners b → a ≡ b
  child_one a b (f, h, c) (e, k, d) =
      let same : f ≡ e = one_hull _ f e h k in
      clips_one (speeds course.v ++ places lo hi) e a b (subst (λ (z : List Pt). IsClippedTo (speeds course.v ++ places lo hi) z a) same c) d

  child_none : (a : List Pt) → IsChild course lo hi corners a → HasNoChild course lo hi corners → ⊥
  child_none a (f, h, c) (e, k, d) =
      let same : f ≡ e = one_hull _ f e h k in
      clips_not_both (speeds course.v ++ places lo hi) e a (subst (λ (z : List Pt). IsClippedTo (speeds course.v ++ places lo hi) z a) same c) d

module _ (course : Course) (i : ℕ) where
  abbrev ArePair : SetValue → Pair → Type 0
  ArePair b p = AreChildren course (box_at course i) b (Some p)

  pair_one : (b : SetValue) (p q : Pair) → ArePair b p → ArePair b q → p ≡ q
  pair_one b (x, y) (u, v) h k =
      let e : x ≡ u = child_one course (box_at course i).xlo (box_at course i).xhi b.x x u h.0 k.0 in
      let f : y ≡ v = child_one course (box_at course i).ylo (box_at course i).yhi b.y y v h.1 k.1 in
      cc

  pair_none : (b : SetValue) (p : Pair) → ArePair b p → AreChildren course (box_at course i) b None → ⊥
  pair_none b p h (inl n) = child_none course (box_at course i).xlo (box_at course i).xhi b.x p.0 h.0 n
  pair_none b p h (inr n) = child_none course (box_at course i).ylo (box_at course i).yhi b.y p.1 h.1 n

  -- ---- set by set

  no_pairs : ArePairsOf course i [] []
  no_pairs = record { each = λ p j. absurd j; all = λ b p j h. absurd j; hold = λ b s t j h n. absurd j }

  module _ (before : List SetValue) (pairs : List Pair) (b : SetValue) (h : ArePairsOf course i before pairs) where
    pub one_more : (q : Pair) → ArePair b q → HoldsNext course (box_at course i) b (Some q) → ArePairsOf course i (before ++ b ∷ []) (q ∷ pairs)
    one_more q is holds = record {
      each = each;
      all = λ c p j r. all c p (includes_either before (b ∷ []) c j) r;
      hold = λ c s t j held n. hold c s t (includes_either before (b ∷ []) c j) held n;
    }
      where
        each : (p : Pair) → Includes (q ∷ pairs) p → (c : SetValue) × Includes (before ++ b ∷ []) c × ArePair c p
        each p (inl e) = (b, includes_back before (b ∷ []) b (inl refl), subst (λ (z : Pair). ArePair b z) (sym e) is)
        each p (inr j) = let (c, k, r) = h.each p j in (c, includes_front before (b ∷ []) c k, r)

        all : (c : SetValue) (p : Pair) → Includes before c ⊎ Includes (b ∷ []) c → ArePair c p → Includes (q ∷ pairs) p
        all c p (inl j) r = inr (h.all c p j r)
        all c p (inr (inl e)) r = inl (pair_one b p q (subst (λ (z : SetValue). ArePair z p) e r) is)
        all c p (inr (inr j)) r = absurd j

        hold : (c : SetValue) (s t : State) → Includes before c ⊎ Includes (b ∷ []) c → HoldsState c s → IsNextState course i s t → IsHeldByPairs (q ∷ pairs) t
        hold c s t (inl j) held n = let (p, k, x, y) = h.hold c s t j held n in (p, inr k, x, y)
        hold c s t (inr (inl e)) held n = let (x, y) = holds s t (subst (λ (z : SetValue). HoldsState z s) e held) n.next n.in_box in (q, inl refl, x, y)
        hold c s t (inr (inr j)) held n = absurd j

    pub none_more : AreChildren course (box_at course i) b None → HoldsNext course (box_at course i) b None → ArePairsOf course i (before ++ b ∷ []) pairs
    none_more is holds = record {
      each = λ p j. let (c, k, r) = h.each p j in (c, includes_front before (b ∷ []) c k, r);
      all = λ c p j r. all c p (includes_either before (b ∷ []) c j) r;
      hold = λ c s t j held n. hold c s t (includes_either before (b ∷ []) c j) held n;
    }
      where
        all : (c : SetValue) (p : Pair) → Includes before c ⊎ Includes (b ∷ []) c → ArePair c p → Includes pairs p
        all c p (inl j) r = h.all c p j r
        all c p (inr (inl e)) r = absurd (pair_none b p (subst (λ (z : SetValue). ArePair z p) e r) is)
        all c p (inr (inr j)) r = absurd j

        hold : (c : SetValue) (s t : State) → Includes before c ⊎ Includes (b ∷ []) c → HoldsState c s → IsNextState course i s t → IsHeldByPairs pairs t
        hold c s t (inl j) held n = h.hold c s t j held n
        hold c s t (inr (inl e)) held n = absurd (holds s t (subst (λ (z : SetValue). HoldsState z s) e held) n.next n.in_box)
        hold c s t (inr (inr j)) held n = absurd j

-- ---- and the table

filled_none : (course : Course) (i : ℕ) (o : OuterBox) (grid : Grid) (t : Table) → IsTableFor course i o grid t → ((col row : ℤ) → Holds t col row None) → IsFilledFrom course i [] t
filled_none course i o grid t begun empty = record {
  o = o;
  grid = grid;
  begun = begun;
  pairs = [];
  are_pairs = no_pairs course i;
  collects = tables_collect.none t grid course.k empty;
  leave = λ p col row s j h. absurd j;
}

filled_child : (course : Course) (i : ℕ) (before : List SetValue) (b : SetValue) (x y : List Pt) (old new : Table) → IsFilledFrom course i before old
    → AreChildren course (box_at course i) b (Some (x, y)) → HoldsNext course (box_at course i) b (Some (x, y)) → Adds old new x y → IsFilledFrom course i (before ++ b ∷ []) new
filled_child course i before b x y old new f is holds adds = record {
  o = f.o;
  grid = f.grid;
  begun = record { step = (let e = adds.step in let g = f.begun.step in cc); box = f.begun.box; w = f.begun.w; g = f.begun.g };
  pairs = (x, y) ∷ f.pairs;
  are_pairs = one_more course i before f.pairs b f.are_pairs (x, y) is holds;
  collects = tables_collect.more old new f.o f.grid course.k f.pairs x y f.begun.step adds f.collects;
  leave = leave;
}
  where
    leave : (p : Pair) (col row : ℤ) (s : State) → Includes ((x, y) ∷ f.pairs) p → HoldsInCell f.grid.w f.grid.g col row p.0 p.1 s → PartsHold f.grid.w f.grid.g course.k col row p.0 p.1 s
    leave p col row s (inl e) h = subst (λ (z : Pair). HoldsInCell f.grid.w f.grid.g col row z.0 z.1 s → PartsHold f.grid.w f.grid.g course.k col row z.0 z.1 s) (sym e)
        (adds.leave f.o f.grid course.k col row s f.begun.step) h
    leave p col row s (inr j) h = f.leave p col row s j h

filled_childless : (course : Course) (i : ℕ) (before : List SetValue) (b : SetValue) (t : Table) → IsFilledFrom course i before t
    → AreChildren course (box_at course i) b None → HoldsNext course (box_at course i) b None → IsFilledFrom course i (before ++ b ∷ []) t
filled_childless course i before b t f is holds = record {
  o = f.o;
  grid = f.grid;
  begun = f.begun;
  pairs = f.pairs;
  are_pairs = none_more course i before f.pairs b f.are_pairs is holds;
  collects = f.collects;
  leave = f.leave;
}

pub tables_fill : TablesFill
tables_fill = record { none = filled_none; child = filled_child; childless = filled_childless }
