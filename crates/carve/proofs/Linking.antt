-- Spans that are linked to rows, piece by piece.
use Rattle.std.proofs.Common.{◌≡◌, ◌∙◌, ◌⊎◌, inl, inr, refl, sym, ap, subst, arith, ℕ, zero, suc, ◌+◌, ◌<◌, ◌≤◌, List, [], ◌∷◌, ◌++◌, length, length-append, append_assoc, sum_by, ℤ, pos, ◌+ℤ◌, ◌≤ℤ◌, ◌<ℤ◌, Option, Some, None}
use Rattle.std.specs.Prelude.{◌↔◌, slice_get, slice_set}
use Rattle.std.specs.Int.{int_max, int_min}
use Rattle.std.proofs.lemmas.Int.{ints, clamps}
use Rattle.std.proofs.lemmas.List.{append-nil}
use Rattle.std.proofs.lemmas.Option.{none-some, same_Some}
use Rattle.spot_terms.specs.Courses.{slots_met}
use Rattle.spot_terms.specs.Grid.{slot, slot_low, slot_high}
use Rattle.spot_terms.specs.Lists.{numbers_below}
use Rattle.spot_terms.specs.RowBoxes.{slots_shared}
use Rattle.spot_terms.specs.Whole.{Within, count_between}
use Rattle.spot_terms.specs.declared.plain.Pt.{Pt}
use Rattle.spot_terms.proofs.ItemPlaces.{get_front, get_last, get_set_either, got_below}
use Rattle.spot_terms.proofs.Places.{compare3}
use Rattle.spot_terms.proofs.Sums.{sum_next}
use Rattle.convex_poly.specs.Runs.{IsSpanOf}
use Rattle.carve.specs.Linked.{AreLinked, AreRowsTaken, AreSpansOf, AreTakenBy, HasRow, HaveSpans, KeepsOthers}
use Rattle.carve.specs.declared.linked.Link.{Link}
use Rattle.carve.specs.declared.runs.Span.{Span}
use Rattle.carve.proofs.Gathers.{Gathers, gather_front, gather_miss, nothing_gathered}
use Rattle.carve.proofs.RowCounts.{Counts, counts, high_slot, low_slot, shared, shared_once}
use Rattle.spot_terms.proofs.Slots.{slots_rise}

-- ---- sums

pub sum_rises : (f : ℕ → ℕ) (m d n : ℕ) → n ≡ m + d → sum_by f (numbers_below m) ≤ sum_by f (numbers_below n)
sum_rises f m zero n e =
    let same : n ≡ m = omega (arith, e) in
    let sums : sum_by f (numbers_below n) ≡ sum_by f (numbers_below m) = ap (λ (k : ℕ). sum_by f (numbers_below k)) same in
    omega (arith, sums)
sum_rises f m (suc d) n e =
    let a = sum_rises f m d (m + d) refl in
    let b = sum_next f (m + d) n (omega (arith, e)) in
    omega (arith, a, b)

-- ---- links

-- what is linked stays so when links are added
linked_front : (links more : List Link) (from : Option ℕ) (spans : List Span) → AreLinked links from spans → AreLinked (links ++ more) from spans
linked_front links more from [] h = h
linked_front links more from (s ∷ spans) (i, next, e, got, down, rest) =
    (i, next, e, get_front links more i (got_below links i (record { span = s; next = next }) got) ∙ got, down, linked_front links more next spans rest)

pub linked_below : (links : List Link) (from : Option ℕ) (spans : List Span) (j : ℕ) → AreLinked links from spans → from ≡ Some j → j < length links
linked_below links from [] j h e = absurd (none-some j (sym h ∙ e))
linked_below links from (s ∷ spans) j (i, next, f, got, down, rest) e =
    subst (λ (k : ℕ). k < length links) (same_Some i j (sym f ∙ e)) (got_below links i (record { span = s; next = next }) got)

-- they are one list
pub linked_one : (links : List Link) (a b : List Span) (from : Option ℕ) → AreLinked links from a → AreLinked links from b → a ≡ b
linked_one links [] [] from h k = refl
linked_one links [] (t ∷ b) from h (i, next, e, got, down, rest) = absurd (none-some i (sym h ∙ e))
linked_one links (s ∷ a) [] from (i, next, e, got, down, rest) k = absurd (none-some i (sym k ∙ e))
linked_one links (s ∷ a) (t ∷ b) from (i, m, e, got, down, rest) (j, n, f, there, low, more) =
    let same : i ≡ j = same_Some i j (sym e ∙ f) in
    let link = same_Some (record { span = s; next = m }) (record { span = t; next = n }) (sym got ∙ ap (slice_get links) same ∙ there) in
    let first : s ≡ t = ap (λ (l : Link). l.span) link in
    let next : m ≡ n = ap (λ (l : Link). l.next) link in
    ap (λ (z : Span). z ∷ a) first ∙ ap (λ (z : List Span). t ∷ z) (linked_one links a b n (subst (λ (z : Option ℕ). AreLinked links z a) next rest) more)

linked_more : (links : List Link) (s : Span) (next : Option ℕ) (spans : List Span) → AreLinked links next spans → AreLinked (links ++ record { span = s; next = next } ∷ []) (Some (length links)) (s ∷ spans)
linked_more links s next spans h = (
  length links,
  next,
  refl,
  get_last links (length links) (record { span = s; next = next }) refl,
  λ j e. linked_below links next spans j h e,
  linked_front links (record { span = s; next = next } ∷ []) next spans h,
)

-- from a link on, its span comes first
pub linked_step : (links : List Link) (i : ℕ) (link : Link) (rest : List Span) → AreLinked links (Some i) rest → slice_get links i ≡ Some link
    → (more : List Span) × (rest ≡ link.span ∷ more) × AreLinked links link.next more × ((j : ℕ) → link.next ≡ Some j → j < i)
linked_step links i link [] h got = absurd (none-some i (sym h))
linked_step links i link (s ∷ rest) (k, next, e, there, down, more) got =
    let same : k ≡ i = same_Some k i (sym e) in
    let is = same_Some (record { span = s; next = next }) link (sym there ∙ ap (slice_get links) same ∙ got) in
    let first : s ≡ link.span = ap (λ (l : Link). l.span) is in
    let then : next ≡ link.next = ap (λ (l : Link). l.next) is in (
      rest,
      ap (λ (z : Span). z ∷ rest) first,
      subst (λ (z : Option ℕ). AreLinked links z rest) then more,
      λ j f. subst (λ (z : ℕ). j < z) same (down j (then ∙ f)),
    )

pub linked_end : (links : List Link) (rest : List Span) → AreLinked links None rest → rest ≡ []
linked_end links [] h = refl
linked_end links (s ∷ rest) (i, next, e, got, down, more) = absurd (none-some i e)

-- how many links may be led to
abbrev pub after : Option ℕ → ℕ
after None = 0
after (Some i) = i + 1

pub after_less : (next : Option ℕ) (i : ℕ) → ((j : ℕ) → next ≡ Some j → j < i) → after next < i + 1
after_less None i down = omega arith
after_less (Some j) i down = let l = down j refl in omega (arith, l)

-- reading on from a link
module _ (links : List Link) (at from : Option ℕ) (i : ℕ) (items rest : List Span) (link : Link) (e : at ≡ Some i) (got : slice_get links i ≡ Some link) (here : AreLinked links at rest)
    (whole : AreLinked links from (items ++ rest)) where
  next_is : (more : List Span) × (rest ≡ link.span ∷ more) × AreLinked links link.next more × ((j : ℕ) → link.next ≡ Some j → j < i)
  next_is = linked_step links i link rest (subst (λ (z : Option ℕ). AreLinked links z rest) e here) got

  pub read_more : (longer : List Span) → longer ≡ items ++ link.span ∷ [] → (more : List Span) × AreLinked links link.next more × AreLinked links from (longer ++ more)
  read_more longer pushed = (
    next_is.0,
    next_is.2,
    subst (λ (zs : List Span). AreLinked links from zs)
        (sym (ap (λ (zs : List Span). zs ++ next_is.0) pushed ∙ (append_assoc items (link.span ∷ []) next_is.0 ∙ ap (λ (zs : List Span). items ++ zs) (sym next_is.1)))) whole,
  )

  pub read_less : after link.next < after at
  read_less = subst (λ (z : Option ℕ). after link.next < after z) (sym e) (after_less link.next i next_is.3)

  pub read_room : (all : List Span) (room : ℕ) → AreLinked links from all → length all ≤ room → length items < room
  read_room all room h few =
      let is : all ≡ items ++ (link.span ∷ next_is.0) = linked_one links all (items ++ rest) from h whole ∙ ap (λ (zs : List Span). items ++ zs) next_is.1 in
      let long : length all ≡ length items + length (link.span ∷ next_is.0) = ap length is ∙ length-append items (link.span ∷ next_is.0) in
      longer (length all) (length items) (length next_is.0) long few
    where
      longer : (a b c : ℕ) → a ≡ b + suc c → a ≤ room → b < room
      longer a b c h k = omega (arith, h, k)

pub none_of : (at : Option ℕ) → ((i : ℕ) → at ≡ Some i → ⊥) → at ≡ None
none_of None h = refl
none_of (Some i) h = absurd (h i refl)

-- where nothing is linked on, all are read
pub all_read : (links : List Link) (at from : Option ℕ) (items rest : List Span) → at ≡ None → AreLinked links at rest → AreLinked links from (items ++ rest) → AreLinked links from items
all_read links at from items rest e here whole =
    let none : rest ≡ [] = linked_end links rest (subst (λ (z : Option ℕ). AreLinked links z rest) e here) in
    subst (λ (zs : List Span). AreLinked links from zs) (ap (λ (zs : List Span). items ++ zs) none ∙ append-nil items) whole

-- ---- a link more

set_here : {X : Type 0} (xs : List X) (j : ℕ) (x : X) → j < length xs → slice_get (slice_set xs j x) j ≡ Some x
set_here xs j x h = elim (get_set_either xs j j x h) [ inl k ↦ k.1 | inr k ↦ absurd (apart j k.0) ]
  where
    apart : (j : ℕ) → (j < j) ⊎ (j < j) → ⊥
    apart j (inl l) = omega (arith, l)
    apart j (inr l) = omega (arith, l)

set_there : {X : Type 0} (xs : List X) (j i : ℕ) (x : X) → j < length xs → (i ≡ j → ⊥) → slice_get (slice_set xs j x) i ≡ slice_get xs i
set_there xs j i x h other = elim (get_set_either xs j i x h) [ inl k ↦ absurd (other k.0) | inr k ↦ k.1 ]

module _ (heads new_heads : List (Option ℕ)) (links new_links : List Link) (j : ℕ) (s : Span) (next : Option ℕ) (inside : j < length heads) (here : slice_get heads j ≡ Some next)
    (e : new_heads ≡ slice_set heads j (Some (length links))) (f : new_links ≡ links ++ record { span = s; next = next } ∷ []) where
  pub others_kept : KeepsOthers j heads links new_heads new_links
  others_kept i spans other (from, got, linked) = (
    from,
    ap (λ (hs : List (Option ℕ)). slice_get hs i) e ∙ set_there heads j i (Some (length links)) inside other ∙ got,
    subst (λ (ls : List Link). AreLinked ls from spans) (sym f) (linked_front links (record { span = s; next = next } ∷ []) from spans linked),
  )

  pub row_more : (spans : List Span) → AreSpansOf heads links j spans → AreSpansOf new_heads new_links j (s ∷ spans)
  row_more spans (from, got, linked) = (
    Some (length links),
    ap (λ (hs : List (Option ℕ)). slice_get hs j) e ∙ set_here heads j (Some (length links)) inside,
    subst (λ (ls : List Link). AreLinked ls (Some (length links)) (s ∷ spans)) (sym f)
        (linked_more links s next spans (subst (λ (z : Option ℕ). AreLinked links z spans) (same_Some from next (sym got ∙ here)) linked)),
  )

pub all_kept : (j : ℕ) (heads new_heads : List (Option ℕ)) (links new_links : List Link) → new_heads ≡ heads → new_links ≡ links → KeepsOthers j heads links new_heads new_links
all_kept j heads new_heads links new_links e f i spans other h = subst (λ (hs : List (Option ℕ)). AreSpansOf hs new_links i spans) (sym e) (subst (λ (ls : List Link). AreSpansOf heads ls i spans) (sym f) h)

-- ---- what a piece takes away from a row

module _ (Hits : ℕ → Pt → Type 0) (range : ℕ → ℤ × ℤ) (g first : ℤ) where
  -- the rows before row j have linked what piece n takes away too
  pub record AreRowsUpTo (heads : List (Option ℕ)) (links : List Link) (n j : ℕ) : Type 0 where
    pub done : (i : ℕ) → i < length heads → i < j → HasRow Hits range g heads links (n + 1) i (first +ℤ pos i)
    pub left : (i : ℕ) → i < length heads → j ≤ i → HasRow Hits range g heads links n i (first +ℤ pos i)

module _ (Hits : ℕ → Pt → Type 0) (range : ℕ → ℤ × ℤ) (g : ℤ) (wide : pos 0 <ℤ g) where
  abbrev pub AtLow : ℤ → ℕ → ℤ → Type 0
  AtLow row p x = Hits p (record { x = x; y = slot_low g row })

  abbrev pub AtHigh : ℤ → ℕ → ℤ → Type 0
  AtHigh row p x = Hits p (record { x = x; y = slot_high g row })

  gathers : (n : ℕ) (row : ℤ) (spans : List Span) → AreTakenBy Hits range g n row spans → Gathers (AtLow row) (AtHigh row) n spans
  gathers n row spans t = record { exact = t.exact; some = t.some; few = t.few }

  row_order : (row : ℤ) → slot_low g row ≤ℤ slot_high g row
  row_order row = omega (arith, ints, wide)

  taken_hit : (n : ℕ) (row : ℤ) (s : Span) (spans : List Span) → (range n).0 ≤ℤ slot_low g row → slot_high g row ≤ℤ (range n).1 → s.first ≤ℤ s.last
      → ((x : ℤ) → (AtLow row n x × AtHigh row n x) ↔ Within s.first s.last x) → AreTakenBy Hits range g n row spans → AreTakenBy Hits range g (n + 1) row (s ∷ spans)
  taken_hit n row s spans a b some exact t =
      let k = gather_front (AtLow row) (AtHigh row) n spans (gathers n row spans t) s some exact in
      let one = shared_once g (slot_low g row) (slot_high g row) (range n) wide (row_order row) a b in
      let sum = sum_next (λ p. slots_shared g (range p) (slot_low g row, slot_high g row)) n (n + 1) refl in
      let met = t.met in
      record { exact = k.exact; some = k.some; few = k.few; met = omega (arith, one, sum, met) }

  taken_miss : (n : ℕ) (row : ℤ) (spans : List Span) → ((x : ℤ) → AtLow row n x × AtHigh row n x → ⊥) → AreTakenBy Hits range g n row spans → AreTakenBy Hits range g (n + 1) row spans
  taken_miss n row spans none t =
      let k = gather_miss (AtLow row) (AtHigh row) n spans (gathers n row spans t) none in
      let sum = sum_next (λ p. slots_shared g (range p) (slot_low g row, slot_high g row)) n (n + 1) refl in
      let met = t.met in
      record { exact = k.exact; some = k.some; few = k.few; met = omega (arith, sum, met) }

  pub row_missed : (heads new_heads : List (Option ℕ)) (links new_links : List Link) (n j : ℕ) (row : ℤ) → ((x : ℤ) → AtLow row n x × AtHigh row n x → ⊥) → new_heads ≡ heads → new_links ≡ links
      → HasRow Hits range g heads links n j row → HasRow Hits range g new_heads new_links (n + 1) j row
  row_missed heads new_heads links new_links n j row none e f h = record {
    spans = h.spans;
    linked = subst (λ (hs : List (Option ℕ)). AreSpansOf hs new_links j h.spans) (sym e) (subst (λ (ls : List Link). AreSpansOf heads ls j h.spans) (sym f) h.linked);
    taken = taken_miss n row h.spans none h.taken;
  }

  pub row_hit : (heads new_heads : List (Option ℕ)) (links new_links : List Link) (n j : ℕ) (row : ℤ) (s : Span) (next : Option ℕ) → j < length heads → slice_get heads j ≡ Some next
      → new_heads ≡ slice_set heads j (Some (length links)) → new_links ≡ links ++ record { span = s; next = next } ∷ []
      → (range n).0 ≤ℤ slot_low g row → slot_high g row ≤ℤ (range n).1 → s.first ≤ℤ s.last → ((x : ℤ) → (AtLow row n x × AtHigh row n x) ↔ Within s.first s.last x)
      → HasRow Hits range g heads links n j row → HasRow Hits range g new_heads new_links (n + 1) j row
  row_hit heads new_heads links new_links n j row s next inside here e f a b some exact h = record {
    spans = s ∷ h.spans;
    linked = row_more heads new_heads links new_links j s next inside here e f h.spans h.linked;
    taken = taken_hit n row s h.spans a b some exact h.taken;
  }

  -- what both ends hold, of a row whose ends are told
  pub across : (n : ℕ) (row a b : ℤ) (first last : ℤ) → a ≡ slot_low g row → b ≡ slot_high g row → IsSpanOf (λ x. Hits n (record { x = x; y = a }) × Hits n (record { x = x; y = b })) (first, last)
      → IsSpanOf (λ x. AtLow row n x × AtHigh row n x) (first, last)
  across n row a b first last e f h =
      subst (λ (z : ℤ). IsSpanOf (λ x. Hits n (record { x = x; y = slot_low g row }) × Hits n (record { x = x; y = z })) (first, last)) f
      (subst (λ (z : ℤ). IsSpanOf (λ x. Hits n (record { x = x; y = z }) × Hits n (record { x = x; y = b })) (first, last)) e h)

  pub not_across : (n : ℕ) (row a b : ℤ) → a ≡ slot_low g row → b ≡ slot_high g row → ((x : ℤ) → Hits n (record { x = x; y = a }) × Hits n (record { x = x; y = b }) → ⊥)
      → (x : ℤ) → AtLow row n x × AtHigh row n x → ⊥
  not_across n row a b e f h =
      subst (λ (z : ℤ). (x : ℤ) → Hits n (record { x = x; y = slot_low g row }) × Hits n (record { x = x; y = z }) → ⊥) f
      (subst (λ (z : ℤ). (x : ℤ) → Hits n (record { x = x; y = z }) × Hits n (record { x = x; y = b }) → ⊥) e h)

  -- a row takes nothing from a piece whose range doesn't meet it
  pub below_range : (n : ℕ) (row : ℤ) → ((q : Pt) → Hits n q → Within (range n).0 (range n).1 q.y) → row <ℤ slot g (range n).0 → (x : ℤ) → AtLow row n x × AtHigh row n x → ⊥
  below_range n row law below x (a, b) =
      let w = law (record { x = x; y = slot_high g row }) b in
      let up = slots_rise g (range n).0 (slot_high g row) wide w.low in
      let e = high_slot g row wide in
      omega (arith, ints, below, up, e)

  pub above_range : (n : ℕ) (row : ℤ) → ((q : Pt) → Hits n q → Within (range n).0 (range n).1 q.y) → slot g (range n).1 <ℤ row → (x : ℤ) → AtLow row n x × AtHigh row n x → ⊥
  above_range n row law above x (a, b) =
      let w = law (record { x = x; y = slot_low g row }) a in
      let up = slots_rise g (slot_low g row) (range n).1 wide w.high in
      let e = low_slot g row wide in
      omega (arith, ints, above, up, e)

  pub no_range : (n : ℕ) (row : ℤ) → ((q : Pt) → Hits n q → Within (range n).0 (range n).1 q.y) → (range n).1 <ℤ (range n).0 → (x : ℤ) → AtLow row n x × AtHigh row n x → ⊥
  no_range n row law none x (a, b) =
      let w = law (record { x = x; y = slot_low g row }) a in
      let low = w.low in let high = w.high in
      omega (arith, ints, none, low, high)

  -- ---- row by row

  kept : (heads new_heads : List (Option ℕ)) (links new_links : List Link) (n i j : ℕ) (row : ℤ) → (i ≡ j → ⊥) → KeepsOthers j heads links new_heads new_links
      → HasRow Hits range g heads links n i row → HasRow Hits range g new_heads new_links n i row
  kept heads new_heads links new_links n i j row other keep h = record { spans = h.spans; linked = keep i h.spans other h.linked; taken = h.taken }

  module _ (first : ℤ) where
    pub rows_begun : (heads : List (Option ℕ)) (links : List Link) (n j : ℕ) → ((i : ℕ) → i < j → (x : ℤ) → AtLow (first +ℤ pos i) n x × AtHigh (first +ℤ pos i) n x → ⊥)
        → AreRowsTaken Hits range g first heads links n → AreRowsUpTo Hits range g first heads links n j
    rows_begun heads links n j none h = record {
      done = λ i l less. row_missed heads heads links links n i (first +ℤ pos i) (none i less) refl refl (h i l);
      left = λ i l later. h i l;
    }

    pub row_done : (heads new_heads : List (Option ℕ)) (links new_links : List Link) (n j : ℕ) (row : ℤ) → row ≡ first +ℤ pos j → length new_heads ≡ length heads → KeepsOthers j heads links new_heads new_links
        → HasRow Hits range g new_heads new_links (n + 1) j row → AreRowsUpTo Hits range g first heads links n j → AreRowsUpTo Hits range g first new_heads new_links n (j + 1)
    row_done heads new_heads links new_links n j row at long keep has h = record {
      done = λ i l less. compare3 i j
          (λ before. kept heads new_heads links new_links (n + 1) i j (first +ℤ pos i) (not_before i j before) keep (h.done i (omega (arith, l, long)) before))
          (λ same. subst (λ (k : ℕ). HasRow Hits range g new_heads new_links (n + 1) k (first +ℤ pos k)) (sym same) (subst (λ (z : ℤ). HasRow Hits range g new_heads new_links (n + 1) j z) at has))
          (λ past. absurd (omega (arith, less, past)));
      left = λ i l later. kept heads new_heads links new_links n i j (first +ℤ pos i) (not_past i j later) keep (h.left i (omega (arith, l, long)) (omega (arith, later)));
    }
      where
        not_before : (i j : ℕ) → i < j → i ≡ j → ⊥
        not_before i j l e = omega (arith, l, e)

        not_past : (i j : ℕ) → j + 1 ≤ i → i ≡ j → ⊥
        not_past i j l e = omega (arith, l, e)

    pub rows_ended : (heads : List (Option ℕ)) (links : List Link) (n j : ℕ) → ((i : ℕ) → i < length heads → j ≤ i → (x : ℤ) → AtLow (first +ℤ pos i) n x × AtHigh (first +ℤ pos i) n x → ⊥)
        → AreRowsUpTo Hits range g first heads links n j → AreRowsTaken Hits range g first heads links (n + 1)
    rows_ended heads links n j none h i l = compare3 i j
        (λ before. h.done i l before)
        (λ same. past (omega (arith, same)))
        (λ later. past (omega (arith, later)))
      where
        past : j ≤ i → HasRow Hits range g heads links (n + 1) i (first +ℤ pos i)
        past later = row_missed heads heads links links n i (first +ℤ pos i) (none i l later) refl refl (h.left i l later)

    pub have_spans : (heads : List (Option ℕ)) (links : List Link) (n : ℕ) → AreRowsTaken Hits range g first heads links n → HaveSpans n heads links
    have_spans heads links n h j l = let r = h j l in (r.spans, r.linked, r.taken.some, r.taken.few)

    -- ---- piece by piece

    pub none_taken : (heads : List (Option ℕ)) (links : List Link) → ((j : ℕ) → j < length heads → slice_get heads j ≡ Some None) → AreRowsTaken Hits range g first heads links 0
    none_taken heads links none j l =
        let k = nothing_gathered (AtLow (first +ℤ pos j)) (AtHigh (first +ℤ pos j)) 0 [] refl refl in
        record {
          spans = [];
          linked = (None, none j l, refl);
          taken = record { exact = k.exact; some = λ s i. absurd i; few = omega arith; met = omega arith };
        }

    -- pieces that hold no point take nothing away
    pub pieces_missed : (heads : List (Option ℕ)) (links : List Link) (n d m : ℕ) → m ≡ n + d → ((p : ℕ) (q : Pt) → n ≤ p → p < m → Hits p q → ⊥) → AreRowsTaken Hits range g first heads links n → AreRowsTaken Hits range g first heads links m
    pieces_missed heads links n zero m e none h = subst (λ (k : ℕ). AreRowsTaken Hits range g first heads links k) (let z : n ≡ m = omega (arith, e) in z) h
    pieces_missed heads links n (suc d) m e none h =
        pieces_missed heads links (n + 1) d m (omega (arith, e)) (λ p q a b. none p q (omega (arith, a)) b)
        (λ j l. row_missed heads heads links links n j (first +ℤ pos j) (λ x k. none n (record { x = x; y = slot_low g (first +ℤ pos j) }) (omega arith) (omega (arith, e)) k.0) refl refl (h j l))

    pub piece_missed : (heads new_heads : List (Option ℕ)) (links new_links : List Link) (n : ℕ) → ((q : Pt) → Hits n q → Within (range n).0 (range n).1 q.y) → (range n).1 <ℤ (range n).0 → new_heads ≡ heads → new_links ≡ links
        → AreRowsTaken Hits range g first heads links n → AreRowsTaken Hits range g first new_heads new_links (n + 1)
    piece_missed heads new_heads links new_links n law none e f h j l =
        row_missed heads new_heads links new_links n j (first +ℤ pos j) (no_range n (first +ℤ pos j) law none) e f (h j (let k = ap length e in omega (arith, l, k)))

-- ---- the rows of a box that meet a range

module _ (g low high ylo yhi : ℤ) (wide : pos 0 <ℤ g) (order : low ≤ℤ high) (box : ylo ≤ℤ yhi) (before : ℕ) (is : slot g ylo +ℤ pos before ≡ int_max (slot g low) (slot g ylo)) where
  abbrev met : ℕ
  met = slots_shared g (low, high) (ylo, yhi)

  met_is : met ≡ count_between (int_max (slot g low) (slot g ylo)) (int_min (slot g high) (slot g yhi))
  met_is = shared g (low, high) (ylo, yhi) order box

  earlier : (a b : ℤ) (n i : ℕ) → b +ℤ pos n ≡ int_max a b → i < n → (b +ℤ pos i) <ℤ a
  earlier a b n i e l = omega (arith, ints, clamps, e, l)

  pub rows_earlier : (i : ℕ) → i < before → (slot g ylo +ℤ pos i) <ℤ slot g low
  rows_earlier i l = earlier (slot g low) (slot g ylo) before i is l

  later : (a b c d : ℤ) (n i m r : ℕ) → b +ℤ pos n ≡ int_max a b → Counts (int_max a b) (int_min c d) m → Counts b d r → n + m ≤ i → i < r → c <ℤ (b +ℤ pos i)
  later a b c d n i m r e (inl h) (inl k) l less = omega (arith, ints, clamps, e, h.0, h.1, k.0, k.1, l, less)
  later a b c d n i m r e (inl h) (inr k) l less = absurd (omega (arith, k.1, less))
  later a b c d n i m r e (inr h) (inl k) l less = omega (arith, ints, clamps, e, h.0, h.1, k.0, k.1, l, less)
  later a b c d n i m r e (inr h) (inr k) l less = absurd (omega (arith, k.1, less))

  pub rows_later : (i : ℕ) → before + met ≤ i → i < slots_met g ylo yhi → slot g high <ℤ (slot g ylo +ℤ pos i)
  rows_later i l less = later (slot g low) (slot g ylo) (slot g high) (slot g yhi) before i _ _ is (counts _ _) (counts _ _) (let e = met_is in omega (arith, l, e)) less

  among : (a b c d : ℤ) (n i m r : ℕ) → b +ℤ pos n ≡ int_max a b → Counts (int_max a b) (int_min c d) m → Counts b d r → n ≤ i → i < n + m → Within b d (b +ℤ pos i) × (i < r)
  among a b c d n i m r e (inl h) (inl k) l less = (record { low = omega (arith, ints); high = omega (arith, ints, clamps, e, h.0, h.1, l, less) }, omega (arith, ints, clamps, e, h.0, h.1, k.0, k.1, l, less))
  among a b c d n i m r e (inl h) (inr k) l less = absurd (omega (arith, ints, clamps, e, h.0, h.1, k.0, k.1, l, less))
  among a b c d n i m r e (inr h) k l less = absurd (omega (arith, h.1, l, less))

  pub row_among : (i : ℕ) → before ≤ i → i < before + met → Within (slot g ylo) (slot g yhi) (slot g ylo +ℤ pos i) × (i < slots_met g ylo yhi)
  row_among i l less = among (slot g low) (slot g ylo) (slot g high) (slot g yhi) before i _ _ is (counts _ _) (counts _ _) l (let e = met_is in omega (arith, less, e))
