-- Cells that are reached, one after another.
use Rattle.std.proofs.Common.{◌≡◌, ◌∙◌, refl, ap, subst, sym, true, false, inl, inr, ℕ, ◌+◌, ◌≤◌, ◌<◌, arith, List, [], ◌∷◌, ◌++◌, length}
use Rattle.std.proofs.lemmas.List.{length_push}
use Rattle.std.specs.List.Sorted.{IsNonDecreasingBy}
use Rattle.std.specs.Option.{is_some}
use Rattle.std.specs.Prelude.{Option, Some, None, IfSome, IfNone, slice_get}
use Rattle.std.proofs.lemmas.Option.{same_Some, slice_get_within}
use Rattle.spot_terms.specs.Bodies.{IsLeast}
use Rattle.spot_terms.specs.Cells.{Lane, cells}
use Rattle.spot_terms.specs.LanePolygons.{IsReachedIn, IsReached}
use Rattle.spot_terms.specs.Lists.{Lists}
use Rattle.spot_terms.specs.Motions.{IsStartSpeed}
use Rattle.spot_terms.specs.declared.plain.AccStart.{AccStart}
use Rattle.spot_terms.specs.declared.plain.Pt.{Pt}
use Rattle.lanelets.proofs.NumberLists.{lists_as, lists_none, lists_push, lists_skip}
use Rattle.lane_paths.specs.Labels.{AreLabels, label_at}
use Rattle.lane_paths.proofs.LabelLaws.{label_there}
use Rattle.lane_paths.specs.Reached.{AreListed, RiseByCell}
use Rattle.lane_paths.specs.declared.lengths.CellLabel.{CellLabel}
use Rattle.lane_occupancy.specs.Polygons.{AreLabelsOf}
use Rattle.lane_occupancy.specs.Reaches.{ends_at, IsWithin}
use Rattle.lane_occupancy.proofs.Firsts.{ends_length, ends_rise, reached_in, never_reached}
use Rattle.spot_terms.proofs.ItemPlaces.{got_below}
use Rattle.spot_terms.proofs.Orders.{below_or_at_least}
use Rattle.spot_terms.proofs.Places.{compare3}
use Rattle.spot_terms.proofs.OneStart.{start_speed_one}

-- ---- what the search for an interval asks for

pub few_ends : (s : AccStart) (speed k steps : ℕ) (ends items : List ℕ) → steps ≤ 100 → ends ≡ items → items ≡ ends_at s speed k steps → length ends ≤ 100
few_ends s speed k steps ends items h e f = let n = ap length (e ∙ f) in let few = ends_length s speed k steps in omega (arith, n, few, h)

pub rising_ends : (s : AccStart) (speed k steps : ℕ) (ends items : List ℕ) → ends ≡ items → items ≡ ends_at s speed k steps → IsNonDecreasingBy (λ end. end) ends
rising_ends s speed k steps ends items e f = subst (IsNonDecreasingBy (λ end. end)) (sym (e ∙ f)) (ends_rise s speed k steps)

-- ---- what it finds

module _ (lanes : List Lane) (s : AccStart) (own k steps : ℕ) (labels : List (Option ℕ)) (ends items : List ℕ) (is_own : IsStartSpeed s.b own) (are : AreLabelsOf lanes s k steps labels) (ends_are : ends ≡ items) (items_are : items ≡ ends_at s own k steps)
    (speed : ℕ) (is_speed : IsStartSpeed s.b speed) where
  at_speed : ends ≡ ends_at s speed k steps
  at_speed = ends_are ∙ items_are ∙ ap (λ v. ends_at s v k steps) (start_speed_one s.b own speed is_own is_speed)

  pub is_reached : (c i : ℕ) → IsLeast (IsWithin labels ends c) i → IsReachedIn lanes s speed k steps c i × (i < steps)
  is_reached c i h = reached_in lanes s speed k steps labels (are speed is_speed) c i (subst (λ (xs : List ℕ). IsLeast (IsWithin labels xs c) i) at_speed h)

  pub is_never : (c : ℕ) → ((i : ℕ) → IsWithin labels ends c i → ⊥) → IsReached lanes s speed k steps c → ⊥
  is_never c none = never_reached lanes s speed k steps labels (are speed is_speed) c (subst (λ (xs : List ℕ). (i : ℕ) → IsWithin labels xs c i → ⊥) at_speed none)

  -- a cell without a label
  pub is_unreached : (c : ℕ) → ((n : ℕ) → label_at labels c ≡ Some n → ⊥) → IsReached lanes s speed k steps c → ⊥
  is_unreached c none = is_never c (λ i h. none h.label h.label_is)

pub found : (o : Option ℕ) (P : ℕ → Type 0) → is_some o ≡ true → IfSome o P → (i : ℕ) × P i
found None P e h = cc
found (Some i) P e h = (i, h)

pub missed : (o : Option ℕ) (P : Type 0) → is_some o ≡ false → IfNone o P → P
missed None P e h = h
missed (Some i) P e h = cc

-- ---- which cells are gone over

-- what is read where there is no item
abbrev pub none_here : CellLabel
none_here = record { cell = 0; label = 0 }

-- what has a label is one of the cells
pub within_cells : (lanes : List Lane) (p : Pt) (limit c n : ℕ) (labels : List (Option ℕ)) → AreLabels lanes p limit labels → label_at labels c ≡ Some n → c < length (cells lanes)
within_cells lanes p limit c n labels h e = let inside = slice_get_within labels c (Some n) (label_there labels c n e) in let count = h.count in omega (arith, inside, count)

-- the first k of the cells with labels are below c, and the others aren't
pub record IsPast (list : List CellLabel) (k c : ℕ) : Type 0 where
  pub before : (i : ℕ) (x : CellLabel) → i < k → slice_get list i ≡ Some x → x.cell < c
  pub after : (i : ℕ) (x : CellLabel) → k ≤ i → slice_get list i ≡ Some x → c ≤ x.cell

pub past_none : (list : List CellLabel) → IsPast list 0 0
past_none list = record { before = λ i x l g. absurd (omega (arith, l)); after = λ i x l g. omega arith }

pub past_next : (list : List CellLabel) (k c : ℕ) (x : CellLabel) → RiseByCell list → slice_get list k ≡ Some x → IsPast list k c → IsPast list (k + 1) (x.cell + 1)
past_next list k c x rises here h = record {
  before = λ i y l g. elim (below_or_at_least i k) [
    | inl low ↦ let a = h.before i y low g in let b = h.after k x (omega arith) here in omega (arith, a, b)
    | inr high ↦ let same : y ≡ x = same_Some y x (sym g ∙ subst (λ (j : ℕ). slice_get list j ≡ Some x) (omega (arith, l, high)) here) in subst (λ (z : CellLabel). z.cell < x.cell + 1) (sym same) (omega arith)
  ];
  after = λ i y l g. let a = rises k i x y (omega (arith, l)) here g in omega (arith, a);
}

-- a cell from c up to before the next one has no label
pub between : (labels : List (Option ℕ)) (list : List CellLabel) (k c d n : ℕ) (x : CellLabel) → AreListed labels list → slice_get list k ≡ Some x → IsPast list k c → c ≤ d → d < x.cell → label_at labels d ≡ Some n → ⊥
between labels list k c d n x listed here past low high e =
    let (i, y, at, is) = listed.all d n e in
    compare3 i k
    (λ l. let a = past.before i y l at in omega (arith, a, is, low))
    (λ l. let same : y ≡ x = same_Some y x (sym at ∙ subst (λ (j : ℕ). slice_get list j ≡ Some x) (sym l) here) in let cells = ap (λ (z : CellLabel). z.cell) same in omega (arith, cells, is, high))
    (λ l. let a = listed.rises k i x y l here at in omega (arith, a, is, high))

-- nor does one from c on, where all are gone over
pub beyond : (labels : List (Option ℕ)) (list : List CellLabel) (k c d n : ℕ) → AreListed labels list → length list ≤ k → IsPast list k c → c ≤ d → label_at labels d ≡ Some n → ⊥
beyond labels list k c d n listed all past low e =
    let (i, y, at, is) = listed.all d n e in
    let inside = got_below list i y at in
    let a = past.before i y (omega (arith, inside, all)) at in omega (arith, a, is, low)

-- ---- how many there are so far

-- none of the numbers from c up to before d
pub lists_on : (P : ℕ → Type 0) (c d : ℕ) (xs : List ℕ) → c ≤ d → ((x : ℕ) → c ≤ x → x < d → P x → ⊥) → Lists (λ x. (x < c) × P x) xs → Lists (λ x. (x < d) × P x) xs
lists_on P c d xs low none h = lists_as (λ x. (x < c) × P x) (λ x. (x < d) × P x) xs (λ x q. (let l = q.0 in omega (arith, l, low), q.1))
    (λ x q. (elim (below_or_at_least x c) [ inl l ↦ l | inr l ↦ absurd (none x l q.0 q.1) ], q.1)) h

pub record Counted (lanes : List Lane) (s : AccStart) (speed k steps c count : ℕ) : Type 0 where
  pub reached : List ℕ
  pub lists : Lists (λ x. (x < c) × IsReached lanes s speed k steps x) reached
  pub count_is : count ≡ length reached

module _ (lanes : List Lane) (s : AccStart) (speed k steps : ℕ) where
  pub counted_none : Counted lanes s speed k steps 0 0
  counted_none = record { reached = []; lists = lists_none (λ x. (x < 0) × IsReached lanes s speed k steps x) (λ x h. omega (arith, h.0)); count_is = refl }

  pub counted_more : (c n m : ℕ) → IsReached lanes s speed k steps c → m ≡ n + 1 → Counted lanes s speed k steps c n → Counted lanes s speed k steps (c + 1) m
  counted_more c n m r e h = record {
    reached = h.reached ++ c ∷ [];
    lists = lists_push (IsReached lanes s speed k steps) c (c + 1) h.reached (h.reached ++ c ∷ []) refl refl r h.lists;
    count_is = let p = length_push h.reached c in let was = h.count_is in omega (arith, p, was, e);
  }

  pub counted_same : (c n m : ℕ) → (IsReached lanes s speed k steps c → ⊥) → m ≡ n → Counted lanes s speed k steps c n → Counted lanes s speed k steps (c + 1) m
  counted_same c n m never e h = record {
    reached = h.reached;
    lists = lists_skip (IsReached lanes s speed k steps) c (c + 1) h.reached refl never h.lists;
    count_is = e ∙ h.count_is;
  }

  -- a cell that is reached has a label, so that it is one of the cells
  inside : (c : ℕ) → IsReached lanes s speed k steps c → c < length (cells lanes)
  inside c r = got_below (cells lanes) c r.1.1.holds.last r.1.1.holds.last_is

  -- no cell from c up to before d is reached
  pub counted_on : (c d n : ℕ) → c ≤ d → ((x : ℕ) → c ≤ x → x < d → IsReached lanes s speed k steps x → ⊥) → Counted lanes s speed k steps c n → Counted lanes s speed k steps d n
  counted_on c d n low none h = record {
    reached = h.reached;
    lists = lists_on (IsReached lanes s speed k steps) c d h.reached low none h.lists;
    count_is = h.count_is;
  }

  pub whole : (n : ℕ) (reached : List ℕ) → length (cells lanes) ≤ n → Lists (λ x. (x < n) × IsReached lanes s speed k steps x) reached → Lists (IsReached lanes s speed k steps) reached
  whole n reached h l = lists_as (λ x. (x < n) × IsReached lanes s speed k steps x) (IsReached lanes s speed k steps) reached (λ x p. p.1) (λ x r. (let low = inside x r in omega (arith, low, h), r)) l
