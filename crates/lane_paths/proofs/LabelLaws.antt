-- Where all links of the waypoints are settled, the lengths of the cells are their labels.
use Rattle.std.proofs.Common.{◌≡◌, ℕ, ◌+◌, ◌≤◌, ◌<◌, arith, refl, sym, ap, ◌∙◌, subst, List, [], ◌∷◌, length, take, inl, inr}
use Rattle.std.specs.Prelude.{slice_get, Some, None, Option}
use Rattle.std.proofs.lemmas.List.{length-take-le}
use Rattle.std.proofs.lemmas.Option.{slice_get_within, none-some, same_Some}
use Rattle.spot_terms.specs.declared.plain.Pt.{Pt}
use Rattle.spot_terms.specs.Cells.{Lane, NetCell, cells, corners_of}
use Rattle.spot_terms.specs.Gaps.{IsGap}
use Rattle.spot_terms.specs.Lists.{Includes}
use Rattle.spot_terms.specs.Network.{IsSide}
use Rattle.spot_terms.specs.Routes.{IsRoute, IsStartCell}
use Rattle.spot_terms.proofs.Orders.{below_or_at_least}
use Rattle.lane_paths.specs.Walks.{IsWalk, entry_of}
use Rattle.lanelets.specs.Beside.{here}
use Rattle.lane_paths.specs.Edges.{Edge, IsPathLength, at_first, by_edge, HasAtMost, IsSettled, AreFirst}
use Rattle.lane_paths.specs.Waypoints.{entry_at, start_at, Leaves, from_start, from_entry, Enters, to_end, to_entry, IsLink, LinksFromStart}
use Rattle.lane_paths.specs.declared.shortest_lengths.ShortestLengths.{ShortestLengths}
use Rattle.lane_paths.specs.Relaxations.{AreSettled, HasPlaces, IsUnderWay, Relaxes}
use Rattle.lane_paths.proofs.ShortestLengthLaws.{started}
use Rattle.lane_paths.specs.Labels.{AreLabels, label_at, label_of}
use Rattle.spot_terms.proofs.ItemPlaces.{get_take, get_of_take, item_at}
use Rattle.lanelets.proofs.BesideLaws.{beside_on}
use Rattle.lane_paths.proofs.WalkLaws.{same_cell, walk_started, walk_beside, walk_ahead, walk_route, IsClosed, closed_knows}

-- ---- what is reached is the length of a way

-- m is the length of a way to waypoint i
record IsWayTo (lanes : List Lane) (p : Pt) (i m : ℕ) : Type 0 where
  start : i ≡ start_at lanes p → m ≡ 0
  entry : (d : ℕ) (a : NetCell) → i ≡ entry_at lanes p d → slice_get (cells lanes) d ≡ Some a → IsWalk lanes p d (entry_of a) m
  «end» : (c : ℕ) (a : NetCell) → i ≡ c → slice_get (cells lanes) c ≡ Some a → IsRoute lanes p c m

-- the way to the start
way_at_first : (lanes : List Lane) (p : Pt) (i m : ℕ) → i ≡ start_at lanes p → m ≡ 0 → IsWayTo lanes p i m
way_at_first lanes p i m e z = record {
  start = λ _. z;
  entry = λ d a f g. absurd (let l = slice_get_within (cells lanes) d a g in omega (arith, e, f, l));
  «end» = λ c a f g. absurd (let l = slice_get_within (cells lanes) c a g in omega (arith, e, f, l));
}

-- a way that leaves waypoint i leads to the cells that can be come to from item_at
way_leaves : (lanes : List Lane) (p : Pt) (c i m : ℕ) (w : List Pt) → Leaves lanes p c i w → IsWayTo lanes p i m → IsWalk lanes p c w m
way_leaves lanes p c _ m _ (from_start s i b) k = subst (λ (z : ℕ). IsWalk lanes p c (p ∷ []) z) (sym (k.start refl)) (walk_started lanes p c s b i)
way_leaves lanes p c _ m _ (from_entry e a g b) k = walk_beside lanes p c e (entry_of a) m b (k.entry e a refl g)

-- and enters the next waypoint
way_enters : (lanes : List Lane) (p : Pt) (c j m g : ℕ) (w v : List Pt) → Enters lanes p c j v → IsWalk lanes p c w m → IsGap w v g → IsWayTo lanes p j (m + g)
way_enters lanes p c _ m g w _ (to_end a h) k i =
    let l = slice_get_within (cells lanes) c a h in
    record {
      start = λ e. absurd (omega (arith, e, l));
      entry = λ d b e f. absurd (omega (arith, e, l));
      «end» = λ d b e f. subst (λ (z : ℕ). IsRoute lanes p z (m + g)) e (walk_route lanes p c a w m g k h i);
    }
way_enters lanes p c _ m g w _ (to_entry d a s h) k i =
    let l = slice_get_within (cells lanes) d a h in
    record {
      start = λ e. absurd (omega (arith, e, l));
      entry = λ f b e q. let same : d ≡ f = omega (arith, e) in
          subst (λ (z : NetCell). IsWalk lanes p f (entry_of z) (m + g)) (same_cell lanes d f a b same h q)
          (subst (λ (z : ℕ). IsWalk lanes p z (entry_of a) (m + g)) same (walk_ahead lanes p c d a w m g k s h i));
      «end» = λ f b e q. absurd (let r = slice_get_within (cells lanes) f b q in omega (arith, e, r));
    }

-- what is reached along links is the length of a way
reached_way : (lanes : List Lane) (p : Pt) (limit : ℕ) (first : List (Option ℕ)) (i m : ℕ) → AreFirst (length (cells lanes)) first → IsPathLength (IsLink lanes p) limit first i m → IsWayTo lanes p i m
reached_way lanes p limit first i m f (at_first _ _ g) = let (e, z) = f.only i m g in way_at_first lanes p i m e z
reached_way lanes p limit first _ _ f (by_edge e m (c, l) r low) =
    way_enters lanes p c e.to m e.gap l.w l.v l.enters (way_leaves lanes p c e.from m l.w l.leaves (reached_way lanes p limit first e.from m f r)) l.gap

-- what isn't the start is reached along an edge, so within the limit
reached_low : (lanes : List Lane) (p : Pt) (n limit : ℕ) (first : List (Option ℕ)) (i m : ℕ) → AreFirst n first → IsPathLength (IsLink lanes p) limit first i m → i < n → m ≤ limit
reached_low lanes p n limit first i m f (at_first _ _ g) l = absurd (let h = (f.only i m g).0 in omega (arith, h, l))
reached_low lanes p n limit first _ _ f (by_edge e m j r low) l = low

-- ---- where all links are settled, no way is unknown

-- the lengths have a waypoint from which cell c can be come to, with a length of at most m
record Knows (lanes : List Lane) (p : Pt) (lengths : List (Option ℕ)) (c : ℕ) (w : List Pt) (m : ℕ) : Type 0 where
  at : ℕ
  leaves : Leaves lanes p c at w
  most : HasAtMost lengths at m

-- a side move away
leaves_on : (lanes : List Lane) (p : Pt) (c d i : ℕ) (w : List Pt) → Leaves lanes p c i w → IsSide lanes (cells lanes) c d → Leaves lanes p d i w
leaves_on lanes p c d _ _ (from_start s i b) h = from_start s i (beside_on lanes (cells lanes) c d s b h)
leaves_on lanes p c d _ _ (from_entry e a g b) h = from_entry e a g (beside_on lanes (cells lanes) c d e b h)

-- a settled link
link_settled : (lanes : List Lane) (p : Pt) (limit : ℕ) (lengths : List (Option ℕ)) (c j m g : ℕ) (w v : List Pt) → ((e : Edge) → IsLink lanes p e → IsSettled limit lengths e)
    → Knows lanes p lengths c w m → Enters lanes p c j v → IsGap w v g → m + g ≤ limit → HasAtMost lengths j (m + g)
link_settled lanes p limit lengths c j m g w v s h e i low =
    let d : Edge = record { from = h.at; to = j; gap = g } in
    let d_is : IsLink lanes p d = (c, record { w = w; v = v; leaves = h.leaves; enters = e; gap = i }) in
    let (l, l_is, l_most) = h.most in
    let (r, r_is, r_most) = s d d_is l l_is (omega (arith, l_most, low)) in
    (r, r_is, omega (arith, l_most, r_most))

-- what the settled lengths know of is closed
settled_closed : (lanes : List Lane) (p : Pt) (limit : ℕ) (lengths : List (Option ℕ)) → ((e : Edge) → IsLink lanes p e → IsSettled limit lengths e)
    → HasAtMost lengths (start_at lanes p) 0 → IsClosed lanes p limit (Knows lanes p lengths)
settled_closed lanes p limit lengths s start = record {
  starts = λ c i. record { at = start_at lanes p; leaves = from_start c i here; most = start };
  sides = λ c d w m h i. record { at = h.at; leaves = leaves_on lanes p c d h.at w h.leaves i; most = h.most };
  aheads = λ c d a w m g h i e j low. record {
    at = entry_at lanes p d;
    leaves = from_entry d a e here;
    most = link_settled lanes p limit lengths c (entry_at lanes p d) m g w (entry_of a) s h (to_entry d a i e) j low;
  };
}

-- for each route up to the limit the cell has a length that is at most that
route_known : (lanes : List Lane) (p : Pt) (limit : ℕ) (lengths : List (Option ℕ)) (d n : ℕ) → ((e : Edge) → IsLink lanes p e → IsSettled limit lengths e)
    → HasAtMost lengths (start_at lanes p) 0 → IsRoute lanes p d n → n ≤ limit → HasAtMost lengths d n
route_known lanes p limit lengths d n s start r low =
    let f = closed_knows lanes p limit (Knows lanes p lengths) (settled_closed lanes p limit lengths s start) d n r low in
    subst (λ (z : ℕ). HasAtMost lengths d z) (sym f.same)
    (link_settled lanes p limit lengths d d f.m f.g f.w (corners_of f.last) s f.known (to_end f.last f.last_is) f.gap (omega (arith, f.same, low)))

-- ---- labels

-- a label stands in the list
pub label_there : (labels : List (Option ℕ)) (c n : ℕ) → label_at labels c ≡ Some n → slice_get labels c ≡ Some (Some n)
label_there labels c n = there_of (slice_get labels c)
  where
    there_of : (o : Option (Option ℕ)) → label_of o ≡ Some n → o ≡ Some (Some n)
    there_of None e = absurd (none-some n e)
    there_of (Some o) e = ap (λ (z : Option ℕ). Some z) e

-- and what stands item_at is a label
pub label_here : (labels : List (Option ℕ)) (c n : ℕ) → slice_get labels c ≡ Some (Some n) → label_at labels c ≡ Some n
label_here labels c n e = ap label_of e

-- the lengths of the cells, once the links are settled
pub settled_labels : (lanes : List Lane) (p : Pt) (limit : ℕ) (first lengths : List (Option ℕ)) → length (cells lanes) ≤ length lengths → AreFirst (length (cells lanes)) first → AreSettled lanes p limit first lengths
    → AreLabels lanes p limit (take (length (cells lanes)) lengths)
settled_labels lanes p limit first lengths long f done = record {
  count = count_take lengths (length (cells lanes)) long;
  some = λ c n h.
      let (inside, is) = get_take lengths (length (cells lanes)) c (Some n) (label_there (take (length (cells lanes)) lengths) c n h) in
      let (a, a_is) = item_at (cells lanes) c inside in
      let r = done.made.reached c n is in
      let low : n ≤ limit = reached_low lanes p (length (cells lanes)) limit first c n f r inside in (
        record {
          holds = (reached_way lanes p limit first c n f r).«end» c a refl a_is;
          least = λ q route. elim (below_or_at_least limit q) [
            | inl past ↦ omega (arith, low, past)
            | inr within ↦ let (m, m_is, m_most) = route_known lanes p limit lengths c q done.settled start route within in let same : n ≡ m = same_Some n m (same_Some (Some n) (Some m) (sym is ∙ m_is)) in omega (arith, same, m_most)
          ];
        },
        low,
      );
  none = λ c h n route. elim (below_or_at_least limit n) [
    | inl past ↦ past
    | inr within ↦
        let (m, m_is, m_most) = route_known lanes p limit lengths c n done.settled start route within in
        let inside = slice_get_within (cells lanes) c route.last route.last_is in
        absurd (none-some m (sym h ∙ label_here (take (length (cells lanes)) lengths) c m (get_of_take lengths (length (cells lanes)) c (Some m) inside m_is)))
  ];
}
  where
    start : HasAtMost lengths (start_at lanes p) 0
    start = done.made.kept (start_at lanes p) 0 f.start

    count_take : (xs : List (Option ℕ)) (n : ℕ) → n ≤ length xs → length (take n xs) ≡ n
    count_take xs n h = length-take-le n xs h

-- the places of a search that begins
pub begun_places : (lanes : List Lane) (n : ℕ) (s : ShortestLengths) → s.count ≡ n → n ≡ length (cells lanes) → AreFirst n s.lengths → s.frontier ≡ [] → HasPlaces lanes s
begun_places lanes n s count same begun none = record {
  count_is = count ∙ same;
  many = begun.count ∙ ap (λ (z : ℕ). z + z + 1) (sym count);
  within = λ x i. absurd (subst (λ (z : List (ℕ × ℕ)). Includes z x) none i);
}

-- the labels of a whole search
pub search_labels : (lanes : List Lane) (p : Pt) (limit n : ℕ) (starts : List ℕ) (a b c : ShortestLengths) (labels : List (Option ℕ)) → a.count ≡ n → n ≡ length (cells lanes) → a.limit ≡ limit → AreFirst n a.lengths → a.frontier ≡ []
    → ((s : ℕ) → IsStartCell lanes p s → Includes starts s) → Relaxes (LinksFromStart lanes p starts) 0 a b → ((q : Pt) (first : List (Option ℕ)) → IsUnderWay lanes q first b → AreSettled lanes q b.limit first c.lengths)
    → HasPlaces lanes c → labels ≡ take c.count c.lengths → AreLabels lanes p limit labels
search_labels lanes p limit n starts a b c labels count same limit_is begun none every g h places is =
    let under = started lanes p starts a b every (begun_places lanes n a count same begun none) (subst (λ (z : ℕ). AreFirst z a.lengths) (sym count) begun) g in
    let done : AreSettled lanes p limit a.lengths c.lengths = subst (λ (z : ℕ). AreSettled lanes p z a.lengths c.lengths) (g.limit_same ∙ limit_is) (h p a.lengths under) in
    subst (AreLabels lanes p limit) (sym (is ∙ ap (λ (z : ℕ). take z c.lengths) places.count_is))
    (settled_labels lanes p limit a.lengths c.lengths (let many = places.many in let m = places.count_is in omega (arith, many, m)) (subst (λ (z : ℕ). AreFirst z a.lengths) same begun) done)
