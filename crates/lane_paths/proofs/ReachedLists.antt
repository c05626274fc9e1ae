-- Numbers that have a length, and lists of them.
use Rattle.std.proofs.Common.{◌≡◌, inl, inr, ℕ, ◌+◌, ◌≤◌, ◌<◌, arith, refl, sym, ◌∙◌, subst, List, [], ◌∷◌, ◌++◌, length, take, get_or, ap, true, false}
use Rattle.std.specs.Option.{is_some}
use Rattle.std.specs.Prelude.{slice_get, slice_set, Some, None, Option}
use Rattle.std.specs.List.{AllByRecursion}
use Rattle.std.specs.List.Sorted.{IsNonDecreasingBy, IsPermutation}
use Rattle.std.proofs.lemmas.List.Sorted.{IsPermutation-sym}
use Rattle.std.proofs.lemmas.Option.{get_or_from_slice_get, none-some, same_Some, slice_get-get_or, slice_get_within}
use Rattle.spot_terms.specs.Lists.{Includes}
use Rattle.spot_terms.proofs.ItemPlaces.{get_either, get_front, get_last, get_of_take, get_set_either, get_take, got_included}
use Rattle.spot_terms.proofs.ListLemmas.{all_included, all_of, includes_back, includes_either, includes_front}
use Rattle.spot_terms.proofs.Orders.{below_or_at_least}
use Rattle.lanelets.proofs.Places.{place_of_item, take_at}
use Rattle.lane_paths.specs.Edges.{AreNone}
use Rattle.lane_paths.specs.Labels.{label_at}
use Rattle.lane_paths.specs.Reached.{AreListed, AreListedOf, AreNoted, HasCell, IsAdded, IsTaken, RiseByCell}
use Rattle.lane_paths.specs.declared.lengths.CellLabel.{CellLabel}
use Rattle.lane_paths.proofs.FrontierLists.{includes_moved}
use Rattle.lane_paths.proofs.LengthLists.{none_more}
use Rattle.lane_paths.proofs.LabelLaws.{label_here, label_there}

-- ---- which numbers have a length

-- one more has one
pub noted_set : (lengths : List (Option ℕ)) (before after : List ℕ) (i n : ℕ) → i < length lengths → AreNoted lengths before → ((j : ℕ) → Includes before j → Includes after j) → Includes after i → AreNoted (slice_set lengths i (Some n)) after
noted_set lengths before after i n inside noted kept here = λ j m g. elim (get_set_either lengths i j (Some n) inside) [
  | inl h ↦ subst (Includes after) (sym h.0) here
  | inr h ↦ kept j (noted j m (sym h.1 ∙ g))
]

-- one has one already
pub is_noted : (lengths : List (Option ℕ)) (reached : List ℕ) (i : ℕ) (d : Option ℕ) → i < length lengths → is_some (get_or lengths i d) ≡ true → AreNoted lengths reached → Includes reached i
is_noted lengths reached i d inside some noted = let (m, is) = some_of (get_or lengths i d) some in noted i m (slice_get-get_or lengths i d inside ∙ ap (λ (o : Option ℕ). Some o) is)
  where
    some_of : (o : Option ℕ) → is_some o ≡ true → (m : ℕ) × (o ≡ Some m)
    some_of None e = cc
    some_of (Some m) e = (m, refl)

-- where none has one, none is missing
pub noted_none : (n : ℕ) (lengths : List (Option ℕ)) (reached : List ℕ) → AreNone n lengths → AreNoted lengths reached
noted_none n lengths reached h = λ i m g. absurd (h.none i m g)

-- each number that has a length is in the list from place k on
abbrev pub AreLeft : List (Option ℕ) → List ℕ → ℕ → Type 0
AreLeft lengths reached k = (j m : ℕ) → slice_get lengths j ≡ Some (Some m) → (q : ℕ) × (k ≤ q) × (slice_get reached q ≡ Some j)

pub all_left : (lengths : List (Option ℕ)) (reached : List ℕ) → AreNoted lengths reached → AreLeft lengths reached 0
all_left lengths reached h = λ j m g. let (q, is) = place_of_item reached j (h j m g) in (q, omega arith, is)

behind : (a b : ℕ) → a ≤ b → (a ≡ b → ⊥) → a + 1 ≤ b
behind a b low apart = elim (below_or_at_least a b) [ inl l ↦ omega (arith, l) | inr l ↦ absurd (apart (omega (arith, l, low))) ]

-- the length of the number there is taken away
pub left_next : (lengths now : List (Option ℕ)) (reached : List ℕ) (k r : ℕ) → slice_get reached k ≡ Some r → ((i m : ℕ) → slice_get now i ≡ Some (Some m) → (i ≡ r → ⊥) × (slice_get lengths i ≡ Some (Some m))) → AreLeft lengths reached k → AreLeft now reached (k + 1)
left_next lengths now reached k r here gone left = λ j m g.
    let (other, was) = gone j m g in
    let (q, low, is) = left j m was in
    let apart : k ≡ q → ⊥ = λ e. other (same_Some j r (sym is ∙ subst (λ (z : ℕ). slice_get reached z ≡ Some r) e here)) in
    (q, behind k q low apart, is)

pub none_left : (lengths : List (Option ℕ)) (reached : List ℕ) (k : ℕ) → length reached ≤ k → AreLeft lengths reached k → AreNone (length lengths) lengths
none_left lengths reached k past left = record {
  count = refl;
  none = λ j m g. let (q, low, is) = left j m g in let inside = slice_get_within reached q j is in omega (arith, past, low, inside);
}

-- one more number
pub none_pushed : (lengths after : List (Option ℕ)) → AreNone (length lengths) lengths → after ≡ lengths ++ None ∷ [] → AreNone (length after) after × (length after ≡ length lengths + 1)
none_pushed lengths after h e =
    let more = none_more (length lengths) lengths after h e in
    (subst (λ (n : ℕ). AreNone n after) (sym more.count) more, more.count)

-- the front of numbers without a length
pub none_front : (n k : ℕ) (lengths front : List (Option ℕ)) → front ≡ take k lengths → AreNone n lengths → AreNone (length front) front
none_front n k lengths front e h = subst (λ (z : List (Option ℕ)). AreNone (length z) z) (sym e) (record {
  count = refl;
  none = λ i m g. h.none i m (get_take lengths k i (Some m) g).1;
})

-- ---- lists of cells with their labels

pub listed_none : (lengths : List (Option ℕ)) (list : List CellLabel) → list ≡ [] → AreListedOf lengths [] list
listed_none lengths list e = subst (AreListedOf lengths []) (sym e) (record {
  each = λ i x g. absurd (none-some x g);
  all = λ j c m g h. absurd (none-some c g);
  rises = λ i j x y l g h. absurd (none-some x g);
})

-- a cell without a length
pub listed_skip : (lengths : List (Option ℕ)) (cells : List ℕ) (c : ℕ) (list now : List CellLabel) → slice_get lengths c ≡ Some None → now ≡ list → AreListedOf lengths cells list → AreListedOf lengths (cells ++ c ∷ []) now
listed_skip lengths cells c list now none e h = subst (AreListedOf lengths (cells ++ c ∷ [])) (sym e) (record {
  each = λ i x g. (includes_front cells (c ∷ []) x.cell (h.each i x g).0, (h.each i x g).1);
  all = λ j d m g l. elim (get_either cells j c d g) [
    | inl k ↦ h.all j d m k l
    | inr k ↦ absurd (none-some m (same_Some None (Some m) (sym (subst (λ (z : ℕ). slice_get lengths z ≡ Some None) (sym k.1) none) ∙ l)))
  ];
  rises = h.rises;
})

-- a cell with a length
pub listed_more : (lengths : List (Option ℕ)) (cells : List ℕ) (x : CellLabel) (list now : List CellLabel) → slice_get lengths x.cell ≡ Some (Some x.label) → IsAdded list x now → AreListedOf lengths cells list → AreListedOf lengths (cells ++ x.cell ∷ []) now
listed_more lengths cells x list now has (inl (e, (k, y, y_at, y_is))) h = subst (AreListedOf lengths (cells ++ x.cell ∷ [])) (sym e) (record {
  each = λ i z g. (includes_front cells (x.cell ∷ []) z.cell (h.each i z g).0, (h.each i z g).1);
  all = λ j d m g l. elim (get_either cells j x.cell d g) [
    | inl q ↦ h.all j d m q l
    | inr q ↦ (k, y, y_at, y_is ∙ sym q.1)
  ];
  rises = h.rises;
})
listed_more lengths cells x list now has (inr (e, above)) h = subst (AreListedOf lengths (cells ++ x.cell ∷ [])) (sym e) (record {
  each = λ i z g. elim (get_either list i x z g) [
    | inl q ↦ (includes_front cells (x.cell ∷ []) z.cell (h.each i z q).0, (h.each i z q).1)
    | inr q ↦ subst (λ (v : CellLabel). Includes (cells ++ x.cell ∷ []) v.cell × (slice_get lengths v.cell ≡ Some (Some v.label))) (sym q.1) (includes_back cells (x.cell ∷ []) x.cell (inl refl), has)
  ];
  all = λ j d m g l. elim (get_either cells j x.cell d g) [
    | inl q ↦ let (i, z, at, is) = h.all j d m q l in (i, z, get_front list (x ∷ []) i (slice_get_within list i z at) ∙ at, is)
    | inr q ↦ (length list, x, get_last list (length list) x refl, sym q.1)
  ];
  rises = λ i j y z l g k. elim (get_either list i x y g) [
    | inl q ↦ elim (get_either list j x z k) [
      | inl r ↦ h.rises i j y z l q r
      | inr r ↦ subst (λ (v : CellLabel). y.cell < v.cell) (sym r.1) (above i y q)
    ]
    | inr q ↦ elim (get_either list j x z k) [
      | inl r ↦ absurd (let inside = slice_get_within list j z r in let at = q.0 in omega (arith, inside, l, at))
      | inr r ↦ absurd (let at = q.0 in let to = r.0 in omega (arith, l, at, to))
    ]
  ];
})

-- one more cell
pub listed_next : (lengths : List (Option ℕ)) (cells : List ℕ) (c : ℕ) (list now : List CellLabel) → IsTaken lengths c list now → AreListedOf lengths cells list → AreListedOf lengths (cells ++ c ∷ []) now
listed_next lengths cells c list now (inl (none, same)) h = listed_skip lengths cells c list now none same h
listed_next lengths cells c list now (inr (x, is, has, added)) h =
    subst (λ (z : ℕ). AreListedOf lengths (cells ++ z ∷ []) now) is (listed_more lengths cells x list now (subst (λ (z : ℕ). slice_get lengths z ≡ Some (Some x.label)) (sym is) has) added h)

-- what is listed of the first k sorted cells is at most the next
pub listed_below : (lengths : List (Option ℕ)) (cells : List ℕ) (k c : ℕ) (list : List CellLabel) → IsNonDecreasingBy (λ (d : ℕ). d) cells → slice_get cells k ≡ Some c → AreListedOf lengths (take k cells) list
    → (i : ℕ) (x : CellLabel) → slice_get list i ≡ Some x → x.cell ≤ c
listed_below lengths cells k c list sorted here h = λ i x g.
    let (q, q_is) = place_of_item (take k cells) x.cell (h.each i x g).0 in
    let (low, is) = get_take cells k q x.cell q_is in
    let inside = slice_get_within cells k c here in
    let below = sorted q k c (omega (arith, low)) inside in
    let first = get_or_from_slice_get cells q x.cell c is in
    let second = get_or_from_slice_get cells k c c here in
    subst (λ (z : ℕ). z ≤ c) first (subst (λ (z : ℕ). get_or cells q c ≤ z) second below)

-- what is listed of all cells that have a length
pub listed_all : (lengths : List (Option ℕ)) (reached cells : List ℕ) (count : ℕ) (list : List CellLabel) → AreNoted lengths reached → ((i : ℕ) → Includes reached i → i < count → Includes cells i) → AllByRecursion (λ (c : ℕ). c < count) cells
    → AreListedOf lengths cells list → AreListed (take count lengths) list
listed_all lengths reached cells count list noted all within h = record {
  each = λ i x g.
      let (among, has) = h.each i x g in
      label_here (take count lengths) x.cell x.label (get_of_take lengths count x.cell (Some x.label) (all_included (λ (c : ℕ). c < count) cells x.cell within among) has);
  all = λ c n e.
      let (low, has) = get_take lengths count c (Some n) (label_there (take count lengths) c n e) in
      let (j, is) = place_of_item cells c (all c (noted c n has) low) in
      h.all j c n is has;
  rises = h.rises;
}

-- ---- numbers below a bound

pub below_more : (reached : List ℕ) (count k r : ℕ) (cells now : List ℕ) → slice_get reached k ≡ Some r → ((i : ℕ) → Includes cells i → Includes now i) → (r < count → Includes now r)
    → ((i : ℕ) → Includes (take k reached) i → i < count → Includes cells i) → (i : ℕ) → Includes (take (k + 1) reached) i → i < count → Includes now i
below_more reached count k r cells now here kept added all = λ i j low. elim (includes_either (take k reached) (r ∷ []) i (subst (λ (z : List ℕ). Includes z i) (take_at reached k (k + 1) r refl here) j)) [
  | inl q ↦ kept i (all i q low)
  | inr q ↦ elim q [ inl e ↦ subst (Includes now) (sym e) (added (subst (λ (z : ℕ). z < count) e low)) | inr n ↦ absurd n ]
]

pub all_moved : (P : ℕ → Type 0) (xs ys : List ℕ) → IsPermutation xs ys → AllByRecursion P xs → AllByRecursion P ys
all_moved P xs ys s h = all_of P ys (λ x i. all_included P xs x h (includes_moved ys xs x (IsPermutation-sym xs ys s) i))

-- cells that rise don't fall
pub cells_rise : (list : List CellLabel) → RiseByCell list → IsNonDecreasingBy (λ (x : CellLabel). x.cell) list
cells_rise list rises = λ i j d low inside. elim (below_or_at_least i j) [
  | inl l ↦ let a = rises i j (get_or list i d) (get_or list j d) l (slice_get-get_or list i d (omega (arith, low, inside))) (slice_get-get_or list j d inside) in omega (arith, a)
  | inr l ↦ let same : i ≡ j = omega (arith, l, low) in subst (λ (k : ℕ). (get_or list i d).cell ≤ (get_or list k d).cell) same (omega arith)
]
