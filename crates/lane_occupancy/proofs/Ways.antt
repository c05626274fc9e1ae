-- From a drive along the lanes to a route that is no longer than its pieces. The route is built from the end of the drive
-- backwards.
use Rattle.std.proofs.Common.{◌≡◌, ◌⊎◌, inl, inr, ℕ, zero, suc, ◌+◌, ◌≤◌, arith, refl, sym, subst, List, [], ◌∷◌, ◌++◌}
use Rattle.std.proofs.lemmas.List.Sums.{sum_by-cons}
use Rattle.std.proofs.lemmas.Option.{same_Some, none-some}
use Rattle.std.specs.Prelude.{slice_get, Some}
use Rattle.spot_terms.specs.Cells.{Lane, NetCell, cells, corners_of}
use Rattle.spot_terms.specs.Gaps.{KeepsApart, AreFar, IsGap}
use Rattle.spot_terms.specs.Hull.{FractionPt, whole_pt, InHullAt}
use Rattle.spot_terms.specs.LaneMotions.{IsAsLong, Entry, Trip, trip_length, RoadState, InCell, OnEntry, Moves, Chains, Trips, Drives}
use Rattle.spot_terms.specs.Network.{IsAhead, IsSide}
use Rattle.spot_terms.specs.Routes.{Leg, ahead, side, Leads, Crosses, GapsSumTo}
use Rattle.spot_terms.specs.declared.plain.Pt.{Pt}
use Rattle.lane_paths.specs.Walks.{entry_of}
use Rattle.lane_occupancy.proofs.Lengths.{two_pieces, no_way, within_long, gap_le}
use Rattle.lane_occupancy.proofs.Paces.{pieces, pieces-cons}
use Rattle.lane_occupancy.proofs.Unrefuted.{Unrefuted, greatest_of}

-- ---- gaps

keeps_none : (a b : List Pt) → KeepsApart a b 0
keeps_none a b p q g h i j = omega arith

-- the sets of two points with a way of length l between them have a gap of at most l
gap_within : (a b : List Pt) (z q : FractionPt) (l : ℕ) → 1 ≤ z.d → 1 ≤ q.d → InHullAt a z → InHullAt b q → IsAsLong l z q → Unrefuted ((w : ℕ) × IsGap a b w × (w ≤ l))
gap_within a b z q l g h i j f refuse =
    let near : AreFar a b → ⊥ = λ far. refuse (0, inl (far, refl), omega arith) in
    greatest_of (KeepsApart a b) l (keeps_none a b) (λ w k. within_long w l z q g h (k z q g h i j) f)
    (λ w. let is : IsGap a b w.0 = inr (near, w.1) in refuse (w.0, is, gap_le a b w.0 l z q g h i j f is))

-- ---- routes from a waypoint on

module _ (lanes : List Lane) where
  -- from waypoint w, crossed on the way to cell c, a route goes on to cell d, of length at most n from w on
  pub record GoesOn (w : List Pt) (c d n : ℕ) : Type 0 where
    pub legs : List Leg
    pub portals : List (List Pt)
    pub last : NetCell
    pub length : ℕ
    pub leads : Leads lanes c legs d
    pub crosses : Crosses lanes legs portals
    pub last_is : slice_get (cells lanes) d ≡ Some last
    pub sums : GapsSumTo lanes (w ∷ portals ++ corners_of last ∷ []) length
    pub within : length ≤ n

  -- From point q in cell c a route goes on to cell d: whatever the waypoint before was, and wherever it was crossed, if the
  -- way since then is l, its length from that waypoint on is at most l + n.
  abbrev pub Reaches : ℕ → FractionPt → ℕ → ℕ → Type 0
  Reaches c q d n = (w : List Pt) (z : FractionPt) (l : ℕ) → 1 ≤ z.d → InHullAt w z → IsAsLong l z q → Unrefuted (GoesOn w c d (l + n))

  more_room : (w : List Pt) (c d n m : ℕ) → n ≤ m → GoesOn w c d n → GoesOn w c d m
  more_room w c d n m h g = record {
    legs = g.legs;
    portals = g.portals;
    last = g.last;
    length = g.length;
    leads = g.leads;
    crosses = g.crosses;
    last_is = g.last_is;
    sums = g.sums;
    within = let k : g.length ≤ n = g.within in omega arith;
  }

  later : (c : ℕ) (q : FractionPt) (d n m : ℕ) → n ≤ m → Reaches c q d n → Reaches c q d m
  later c q d n m h r w z l g i f refuse = r w z l g i f (λ k. refuse (more_room w c d (l + n) (l + m) (omega arith) k))

  -- in the last cell
  stay : (d : ℕ) (q : FractionPt) → InCell lanes d q → Reaches d q d 0
  stay d q k w z l g h f refuse = gap_within w (corners_of k.0) z q l g k.2 h k.3 f (λ v. refuse (record {
    legs = [];
    portals = [];
    last = k.0;
    length = v.0 + 0;
    leads = refl;
    crosses = refl;
    last_is = k.1;
    sums = (v.0, 0, v.1, refl, refl);
    within = let e : v.0 ≤ l = v.2 in omega arith;
  }))

  -- to a cell beside
  aside : (w : List Pt) (c e d n : ℕ) → IsSide lanes (cells lanes) c e → GoesOn w e d n → GoesOn w c d n
  aside w c e d n s g = record {
    legs = side e ∷ g.legs;
    portals = g.portals;
    last = g.last;
    length = g.length;
    leads = (s, g.leads);
    crosses = g.crosses;
    last_is = g.last_is;
    sums = g.sums;
    within = g.within;
  }

  -- ahead over the entry of cell e, which is the next waypoint
  across : (w : List Pt) (c e d n gap l : ℕ) (b : NetCell) → slice_get (cells lanes) e ≡ Some b → IsAhead lanes (cells lanes) c e → IsGap w (entry_of b) gap → gap ≤ l → GoesOn (entry_of b) e d n → GoesOn w c d (l + n)
  across w c e d n gap l b is s gap_is h g = record {
    legs = ahead e ∷ g.legs;
    portals = entry_of b ∷ g.portals;
    last = g.last;
    length = gap + g.length;
    leads = (s, g.leads);
    crosses = ((b, is, refl), g.crosses);
    last_is = g.last_is;
    sums = (gap, g.length, gap_is, g.sums, refl);
    within = let k : g.length ≤ n = g.within in omega arith;
  }

  -- ---- moves and trips

  -- before one move
  moved : (a b : Entry) (d n : ℕ) → 1 ≤ a.at.d → 1 ≤ b.at.d → Moves lanes a b → Reaches b.cell b.at d n → Reaches a.cell a.at d (a.piece + n)
  moved a b d n u v m r w z l g h f = go m.1
    where
      far : IsAsLong (l + a.piece) z b.at
      far = two_pieces l a.piece z a.at b.at u f m.0

      room : l + a.piece + n ≤ l + (a.piece + n)
      room = omega arith

      stays : Unrefuted (GoesOn w b.cell d (l + a.piece + n))
      stays = r w z (l + a.piece) g h far

      go : ((b.cell ≡ a.cell) ⊎ IsSide lanes (cells lanes) a.cell b.cell ⊎ (IsAhead lanes (cells lanes) a.cell b.cell × OnEntry lanes b.cell b.at)) → Unrefuted (GoesOn w a.cell d (l + (a.piece + n)))
      go (inl same) refuse = stays (λ k. refuse (subst (λ c. GoesOn w c d (l + (a.piece + n))) same (more_room w b.cell d (l + a.piece + n) (l + (a.piece + n)) room k)))
      go (inr (inl s)) refuse = stays (λ k. refuse (aside w a.cell b.cell d (l + (a.piece + n)) s (more_room w b.cell d (l + a.piece + n) (l + (a.piece + n)) room k)))
      go (inr (inr s)) refuse = let e : NetCell = s.1.0 in
          gap_within w (entry_of e) z b.at (l + a.piece) g v h s.1.2 far (λ gap.
          r (entry_of e) b.at 0 v s.1.2 (no_way b.at) (λ k.
          refuse (more_room w a.cell d (l + a.piece + (0 + n)) (l + (a.piece + n)) (omega arith)
          (across w a.cell b.cell d (0 + n) gap.0 (l + a.piece) e s.1.1 s.0 gap.1 gap.2 k))))

  chains_begin : (b : Entry) (rest : Trip) (p : Pt) (c : ℕ) → Chains lanes b rest p c → InCell lanes b.cell b.at
  chains_begin b [] p c k = k.0
  chains_begin b (e ∷ rest) p c k = k.0

  chains_end : (b : Entry) (rest : Trip) (p : Pt) (c : ℕ) → Chains lanes b rest p c → InCell lanes c (whole_pt p)
  chains_end b [] p c k = subst (λ x. InCell lanes x (whole_pt p)) k.2 (subst (λ x. InCell lanes b.cell x) k.1 k.0)
  chains_end b (e ∷ rest) p c k = chains_end e rest p c k.2

  -- before the entries of a trip
  chained : (a : Entry) (rest : Trip) (p : Pt) (c d n : ℕ) → Chains lanes a rest p c → Reaches c (whole_pt p) d n → Reaches a.cell a.at d (trip_length (a ∷ rest) + n)
  chained a [] p c d n k r =
      later a.cell a.at d n (trip_length (a ∷ []) + n) (omega arith)
      (subst (λ x. Reaches x a.at d n) (sym k.2) (subst (λ x. Reaches c x d n) (sym k.1) r))
  chained a (b ∷ rest) p c d n k r =
      later a.cell a.at d (a.piece + (trip_length (b ∷ rest) + n)) (trip_length (a ∷ b ∷ rest) + n)
      (omega (arith, sum_by-cons (λ (e : Entry). e.piece) a (b ∷ rest)))
      (moved a b d (trip_length (b ∷ rest) + n) k.0.2 (chains_begin b rest p c k.2).2 k.1 (chained b rest p c d n k.2 r))

  -- before a trip
  tripped : (p : Pt) (c : ℕ) (trip : Trip) (q : Pt) (e d n : ℕ) → Trips lanes p c trip q e → Reaches e (whole_pt q) d n → Reaches c (whole_pt p) d (trip_length trip + n)
  tripped p c [] q e d n k r = absurd k
  tripped p c (a ∷ rest) q e d n k r =
      subst (λ x. Reaches x (whole_pt p) d (trip_length (a ∷ rest) + n)) k.1
      (subst (λ x. Reaches a.cell x d (trip_length (a ∷ rest) + n)) k.0 (chained a rest q e d n k.2 r))

  trips_end : (p : Pt) (c : ℕ) (trip : Trip) (q : Pt) (e : ℕ) → Trips lanes p c trip q e → InCell lanes e (whole_pt q)
  trips_end p c [] q e k = absurd k
  trips_end p c (a ∷ rest) q e k = chains_end a rest q e k.2

  -- ---- drives

  -- a cell that holds q, to which a route goes on from p in cell c, by no more than n
  pub record Stands (c n : ℕ) (p q : Pt) : Type 0 where
    pub cell : ℕ
    pub in_cell : InCell lanes cell (whole_pt q)
    pub reaches : Reaches c (whole_pt p) cell n

  -- the state at tick k, by the pieces of the first k ticks
  pub drives_to : (a v c : ℕ) (s : RoadState) (states : List RoadState) (trips : List Trip) (k : ℕ) (t : RoadState)
      → Drives lanes a v c (s ∷ states) trips → InCell lanes c (whole_pt s.0.p) → slice_get (s ∷ states) k ≡ Some t → Stands c (pieces k trips) s.0.p t.0.p
  drives_to a v c s states trips zero t d i at = record {
    cell = c;
    in_cell = subst (λ (x : RoadState). InCell lanes c (whole_pt x.0.p)) (same_Some s t at) i;
    reaches = stay c (whole_pt s.0.p) i;
  }
  drives_to a v c s [] trips (suc k) t d i at = absurd (none-some t at)
  drives_to a v c s (u ∷ states) [] (suc k) t d i at = absurd (cc (d.1))
  drives_to a v c s (u ∷ states) (trip ∷ trips) (suc k) t d i at =
      let e : ℕ = d.4.0 in
      let r : Stands e (pieces k trips) u.0.p t.0.p = drives_to a v e u states trips k t d.4.2 (trips_end s.0.p c trip u.0.p e d.4.1) at in
      record {
        cell = r.cell;
        in_cell = r.in_cell;
        reaches = subst (Reaches c (whole_pt s.0.p) r.cell) (sym (pieces-cons k trip trips)) (tripped s.0.p c trip u.0.p e r.cell (pieces k trips) d.4.1 r.reaches);
      }
