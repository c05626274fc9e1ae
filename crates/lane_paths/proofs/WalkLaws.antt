-- Routes that go on by one more leg, and what a table of lengths must know to know all routes.
use Rattle.std.proofs.Common.{◌≡◌, ℕ, ◌+◌, ◌≤◌, arith, refl, sym, ap, ◌∙◌, subst, List, [], ◌∷◌, ◌++◌}
use Rattle.std.specs.Prelude.{slice_get, Some}
use Rattle.std.proofs.lemmas.List.{append-nil}
use Rattle.std.proofs.lemmas.Option.{same_Some}
use Rattle.spot_terms.specs.declared.plain.Pt.{Pt}
use Rattle.spot_terms.specs.Cells.{Lane, NetCell, cells, corners_of}
use Rattle.spot_terms.specs.Gaps.{IsGap}
use Rattle.spot_terms.specs.Network.{IsAhead, IsSide}
use Rattle.spot_terms.specs.Routes.{Leg, ahead, side, Leads, Crosses, GapsSumTo, IsStartCell, IsRoute}
use Rattle.lanelets.specs.Beside.{IsBeside, here, next}
use Rattle.lane_paths.specs.Walks.{EndsWith, IsWalk, entry_of}

-- cells with one number are one
pub same_cell : (lanes : List Lane) (c d : ℕ) (a b : NetCell) → c ≡ d → slice_get (cells lanes) c ≡ Some a → slice_get (cells lanes) d ≡ Some b → a ≡ b
same_cell lanes c d a b e g h = same_Some a b (sym g ∙ ap (λ (z : ℕ). slice_get (cells lanes) z) e ∙ h)

-- ---- one more leg, one more waypoint

-- legs lead on
leads_on : (lanes : List Lane) (c d e : ℕ) (legs more : List Leg) → Leads lanes c legs d → Leads lanes d more e → Leads lanes c (legs ++ more) e
leads_on lanes c d e [] more h k = subst (λ (x : ℕ). Leads lanes x more e) (sym h) k
leads_on lanes c d e (ahead f ∷ legs) more h k = (h.0, leads_on lanes f d e legs more h.1 k)
leads_on lanes c d e (side f ∷ legs) more h k = (h.0, leads_on lanes f d e legs more h.1 k)

-- they cross what the parts cross
crosses_on : (lanes : List Lane) (legs more : List Leg) (ps qs : List (List Pt)) → Crosses lanes legs ps → Crosses lanes more qs → Crosses lanes (legs ++ more) (ps ++ qs)
crosses_on lanes [] more ps qs h k = subst (λ (x : List (List Pt)). Crosses lanes more (x ++ qs)) (sym h) k
crosses_on lanes (side e ∷ legs) more ps qs h k = crosses_on lanes legs more ps qs h k
crosses_on lanes (ahead e ∷ legs) more [] qs h k = absurd h
crosses_on lanes (ahead e ∷ legs) more (p ∷ ps) qs h k = (h.0, crosses_on lanes legs more ps qs h.1 k)

-- one more gap
gaps_on : (lanes : List Lane) (a : List Pt) (ps : List (List Pt)) (w b : List Pt) (m g : ℕ) → EndsWith (a ∷ ps) w → GapsSumTo lanes (a ∷ ps) m → IsGap w b g → GapsSumTo lanes (a ∷ ps ++ b ∷ []) (m + g)
gaps_on lanes a [] w b m g e s k = (g, 0, subst (λ (x : List Pt). IsGap x b g) (sym e) k, refl, omega arith)
gaps_on lanes a (c ∷ ps) w b m g e s k = (s.0, s.1 + g, s.2, gaps_on lanes c ps w b s.1 g e s.3 k, let h : m ≡ s.0 + s.1 = s.4 in omega (arith, h))

-- what was added is the last
ends_on : (a : List Pt) (ps : List (List Pt)) (b : List Pt) → EndsWith (a ∷ ps ++ b ∷ []) b
ends_on a [] b = refl
ends_on a (c ∷ ps) b = ends_on c ps b

-- ---- ways

-- a start cell is reached with the start as waypoint
walk_start : (lanes : List Lane) (p : Pt) (c : ℕ) → IsStartCell lanes p c → IsWalk lanes p c (p ∷ []) 0
walk_start lanes p c h = record { first = c; legs = []; portals = []; starts = h; leads = refl; crosses = refl; ends = refl; length = refl }

-- a side move crosses nothing
walk_side : (lanes : List Lane) (p : Pt) (c d : ℕ) (w : List Pt) (m : ℕ) → IsWalk lanes p c w m → IsSide lanes (cells lanes) c d → IsWalk lanes p d w m
walk_side lanes p c d w m k h = record {
  first = k.first;
  legs = k.legs ++ side d ∷ [];
  portals = k.portals;
  starts = k.starts;
  leads = leads_on lanes k.first c d k.legs (side d ∷ []) k.leads (h, refl);
  crosses = subst (λ (x : List (List Pt)). Crosses lanes (k.legs ++ side d ∷ []) x) (append-nil k.portals) (crosses_on lanes k.legs (side d ∷ []) k.portals [] k.crosses refl);
  ends = k.ends;
  length = k.length;
}

-- going ahead crosses an entry
pub walk_ahead : (lanes : List Lane) (p : Pt) (c d : ℕ) (a : NetCell) (w : List Pt) (m g : ℕ) → IsWalk lanes p c w m → IsAhead lanes (cells lanes) c d
    → slice_get (cells lanes) d ≡ Some a → IsGap w (entry_of a) g → IsWalk lanes p d (entry_of a) (m + g)
walk_ahead lanes p c d a w m g k h e i = record {
  first = k.first;
  legs = k.legs ++ ahead d ∷ [];
  portals = k.portals ++ entry_of a ∷ [];
  starts = k.starts;
  leads = leads_on lanes k.first c d k.legs (ahead d ∷ []) k.leads (h, refl);
  crosses = crosses_on lanes k.legs (ahead d ∷ []) k.portals (entry_of a ∷ []) k.crosses ((a, e, refl), refl);
  ends = ends_on (p ∷ []) k.portals (entry_of a);
  length = gaps_on lanes (p ∷ []) k.portals w (entry_of a) m g k.ends k.length i;
}

-- a way that ends in a cell is a route to it
pub walk_route : (lanes : List Lane) (p : Pt) (d : ℕ) (a : NetCell) (w : List Pt) (m g : ℕ) → IsWalk lanes p d w m → slice_get (cells lanes) d ≡ Some a → IsGap w (corners_of a) g → IsRoute lanes p d (m + g)
walk_route lanes p d a w m g k e i = record {
  first = k.first;
  legs = k.legs;
  portals = k.portals;
  last = a;
  starts = k.starts;
  leads = k.leads;
  crosses = k.crosses;
  last_is = e;
  length = gaps_on lanes (p ∷ []) k.portals w (corners_of a) m g k.ends k.length i;
}

-- ---- cells beside each other

-- side moves cross nothing
pub walk_beside : (lanes : List Lane) (p : Pt) (d c : ℕ) (w : List Pt) (m : ℕ) → IsBeside lanes (cells lanes) d c → IsWalk lanes p c w m → IsWalk lanes p d w m
walk_beside lanes p d c w m here k = k
walk_beside lanes p d c w m (next {e = e} h b) k = walk_beside lanes p d e w m b (walk_side lanes p c e w m k h)

-- the cells beside a start cell are reached with the start as waypoint
pub walk_started : (lanes : List Lane) (p : Pt) (d c : ℕ) → IsBeside lanes (cells lanes) d c → IsStartCell lanes p c → IsWalk lanes p d (p ∷ []) 0
walk_started lanes p d c b s = walk_beside lanes p d c (p ∷ []) 0 b (walk_start lanes p c s)

-- ---- what knows of all routes

-- K c w m says that a way to cell c with w as the last waypoint is known that is no longer than m. It is known of all ways
-- up to the limit.
pub record IsClosed (lanes : List Lane) (p : Pt) (limit : ℕ) (K : ℕ → List Pt → ℕ → Type 0) : Type 0 where
  pub starts : (c : ℕ) → IsStartCell lanes p c → K c (p ∷ []) 0
  pub sides : (c d : ℕ) (w : List Pt) (m : ℕ) → K c w m → IsSide lanes (cells lanes) c d → K d w m
  pub aheads : (c d : ℕ) (a : NetCell) (w : List Pt) (m g : ℕ) → K c w m → IsAhead lanes (cells lanes) c d → slice_get (cells lanes) d ≡ Some a → IsGap w (entry_of a) g → m + g ≤ limit → K d (entry_of a) (m + g)

-- a way to cell d is known that is no longer than a route of length n
pub record IsKnown (lanes : List Lane) (K : ℕ → List Pt → ℕ → Type 0) (d n : ℕ) : Type 0 where
  pub last : NetCell
  pub w : List Pt
  pub m : ℕ
  pub g : ℕ
  pub known : K d w m
  pub last_is : slice_get (cells lanes) d ≡ Some last
  pub gap : IsGap w (corners_of last) g
  pub same : n ≡ m + g

-- along a route, what is known of it stays at most as long
follow : (lanes : List Lane) (p : Pt) (limit : ℕ) (K : ℕ → List Pt → ℕ → Type 0) → IsClosed lanes p limit K
    → (legs : List Leg) (c d : ℕ) (w : List Pt) (m n : ℕ) (ps : List (List Pt)) (last : NetCell) → K c w m → Leads lanes c legs d → Crosses lanes legs ps → slice_get (cells lanes) d ≡ Some last
    → GapsSumTo lanes (w ∷ ps ++ corners_of last ∷ []) n → m + n ≤ limit → IsKnown lanes K d (m + n)
follow lanes p limit K k [] c d w m n ps last s h x e l low =
    let l2 : GapsSumTo lanes (w ∷ corners_of last ∷ []) n = subst (λ (z : List (List Pt)). GapsSumTo lanes (w ∷ z ++ corners_of last ∷ []) n) x l in
    record {
      last = last;
      w = w;
      m = m;
      g = l2.0;
      known = subst (λ (z : ℕ). K z w m) h s;
      last_is = e;
      gap = l2.2;
      same = let z : l2.1 ≡ 0 = l2.3 in let t : n ≡ l2.0 + l2.1 = l2.4 in omega (arith, z, t);
    }
follow lanes p limit K k (side f ∷ legs) c d w m n ps last s h x e l low = follow lanes p limit K k legs f d w m n ps last (k.sides c f w m s h.0) h.1 x e l low
follow lanes p limit K k (ahead f ∷ legs) c d w m n [] last s h x e l low = absurd x
follow lanes p limit K k (ahead f ∷ legs) c d w m n (q ∷ ps) last s h x e l low =
    let t : n ≡ l.0 + l.1 = l.4 in
    let i : IsGap w (entry_of x.0.0) l.0 = subst (λ (z : List Pt). IsGap w z l.0) x.0.2 l.2 in
    let r : IsKnown lanes K d ((m + l.0) + l.1) = follow lanes p limit K k legs f d (entry_of x.0.0) (m + l.0) l.1 ps last
    (k.aheads c f x.0.0 w m l.0 s h.0 x.0.1 i (omega (arith, t, low))) h.1 x.1 e (subst (λ (z : List Pt). GapsSumTo lanes (z ∷ ps ++ corners_of last ∷ []) l.1) x.0.2 l.3) (omega (arith, t, low)) in
    subst (IsKnown lanes K d) (omega (arith, t)) r

-- no route up to the limit is unknown
pub closed_knows : (lanes : List Lane) (p : Pt) (limit : ℕ) (K : ℕ → List Pt → ℕ → Type 0) → IsClosed lanes p limit K → (d n : ℕ) → IsRoute lanes p d n → n ≤ limit → IsKnown lanes K d n
closed_knows lanes p limit K k d n r low = subst (λ (z : ℕ). IsKnown lanes K d z) (omega arith) (follow lanes p limit K k r.legs r.first d (p ∷ []) 0 n r.portals r.last (k.starts r.first r.starts) r.leads r.crosses r.last_is r.length (omega arith))
