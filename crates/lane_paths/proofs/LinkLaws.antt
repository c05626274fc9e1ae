-- Links between waypoints, gone along waypoint by waypoint and cell by cell.
use Rattle.std.proofs.Common.{◌≡◌, ◌⊎◌, inl, inr, ℕ, ◌+◌, ◌<◌, ◌≤◌, arith, refl, sym, ap, ◌∙◌, subst, List, [], ◌∷◌, length, take, get_or}
use Rattle.std.specs.Prelude.{slice_get, Some}
use Rattle.std.specs.List.{AllByRecursion}
use Rattle.std.proofs.lemmas.List.{take_all, take_more}
use Rattle.std.proofs.lemmas.Option.{slice_get_within}
use Rattle.spot_terms.proofs.Places.{all_at}
use Rattle.convex_poly.specs.declared.poly.Poly.{Poly}
use Rattle.spot_terms.specs.Cells.{Lane, NetCell, Portal, cells, corners_of}
use Rattle.spot_terms.specs.Gaps.{IsGap}
use Rattle.spot_terms.specs.Hull.{InHull, IsHullOf}
use Rattle.spot_terms.specs.Lists.{Includes, Lists}
use Rattle.spot_terms.specs.Network.{IsAhead, within, joins, onto, off}
use Rattle.spot_terms.specs.Routes.{IsStartCell}
use Rattle.spot_terms.specs.declared.plain.Pt.{Pt}
use Rattle.spot_terms.proofs.Gaps.{same_gap}
use Rattle.spot_terms.proofs.Hulls.{hulls_of}
use Rattle.spot_terms.proofs.ListLemmas.{includes_back, includes_front, includes_itself, includes_taken}
use Rattle.lanelets.specs.Beside.{IsBeside, here}
use Rattle.lanelets.proofs.BesideLaws.{beside_join}
use Rattle.lane_paths.specs.declared.shortest_lengths.ShortestLengths.{ShortestLengths}
use Rattle.lane_paths.specs.declared.shortest_lengths.Waypoint.{Waypoint}
use Rattle.lane_paths.specs.Walks.{entry_of}
use Rattle.lane_paths.specs.Edges.{Edge}
use Rattle.lane_paths.specs.Relaxations.{Relaxes, StepsTo}
use Rattle.lane_paths.specs.Waypoints.{entry_at, start_at, Leaves, from_start, from_entry, Enters, to_end, to_entry, IsWaypoint, LinksOf, LinksFrom, LinksTo, LinksToEntries, LinksInCells, LinksBeside, LinksFromStart}
use Rattle.lane_paths.proofs.RelaxLaws.{relaxes_as, relaxes_then}
use Rattle.lane_paths.proofs.WalkLaws.{same_cell}

-- ---- a number has one waypoint

-- that is left
leaves_one : (lanes : List Lane) (p : Pt) (c d i j : ℕ) (w v : List Pt) → Leaves lanes p c i w → Leaves lanes p d j v → i ≡ j → w ≡ v
leaves_one lanes p c d _ _ _ _ (from_start s k b) (from_start s' k' b') e = refl
leaves_one lanes p c d _ _ _ _ (from_start s k b) (from_entry f a g b') e = absurd (let l = slice_get_within (cells lanes) f a g in omega (arith, l, e))
leaves_one lanes p c d _ _ _ _ (from_entry f a g b) (from_start s k b') e = absurd (let l = slice_get_within (cells lanes) f a g in omega (arith, l, e))
leaves_one lanes p c d _ _ _ _ (from_entry f a g b) (from_entry f' a' g' b') e = ap entry_of (same_cell lanes f f' a a' (omega (arith, e)) g g')

-- that is entered
enters_one : (lanes : List Lane) (p : Pt) (c i j : ℕ) (w v : List Pt) → Enters lanes p c i w → Enters lanes p c j v → i ≡ j → w ≡ v
enters_one lanes p c _ _ _ _ (to_end a g) (to_end a' g') e = ap corners_of (same_cell lanes c c a a' refl g g')
enters_one lanes p c _ _ _ _ (to_end a g) (to_entry d a' s g') e = absurd (let l = slice_get_within (cells lanes) c a g in omega (arith, l, e))
enters_one lanes p c _ _ _ _ (to_entry d a s g) (to_end a' g') e = absurd (let l = slice_get_within (cells lanes) c a' g' in omega (arith, l, e))
enters_one lanes p c _ _ _ _ (to_entry d a s g) (to_entry d' a' s' g') e = ap entry_of (same_cell lanes d d' a a' (omega (arith, e)) g g')

-- a waypoint can be left in the cells to which side moves lead
leaves_beside : (lanes : List Lane) (p : Pt) (c s i : ℕ) (w : List Pt) → Leaves lanes p s i w → IsBeside lanes (cells lanes) c s → Leaves lanes p c i w
leaves_beside lanes p c s _ _ (from_start r k b) h = from_start r k (beside_join lanes (cells lanes) c s r b h)
leaves_beside lanes p c s _ _ (from_entry f a g b) h = from_entry f a g (beside_join lanes (cells lanes) c s f b h)

-- so it is a waypoint of those cells
pub waypoint_beside : (lanes : List Lane) (p : Pt) (i c s : ℕ) (x : Waypoint) → IsWaypoint lanes p i s x → IsBeside lanes (cells lanes) c s → IsWaypoint lanes p i c x
waypoint_beside lanes p i c s x (w, l, h) b = (w, leaves_beside lanes p c s i w l b, h)

-- ---- one link

-- the step to points with the hull of waypoint j is the link to it
stepped : (lanes : List Lane) (p : Pt) (i c j : ℕ) (x : Waypoint) (v shape : List Pt) (before after : ShortestLengths) → IsWaypoint lanes p i c x → Enters lanes p c j v → AllByRecursion (Includes v) shape → AllByRecursion (InHull shape) v
    → Relaxes (StepsTo i j x.shape shape) x.length before after → Relaxes (LinksTo lanes p i c j) x.length before after
stepped lanes p i c j x v shape before after (w, l, h) n among covers g = relaxes_as (StepsTo i j x.shape shape) (LinksTo lanes p i c j) x.length before after g
    (λ e (from, to, gap). (
      to,
      (
        from,
        record {
          w = w;
          v = v;
          leaves = subst (λ (z : ℕ). Leaves lanes p c z w) (sym from) l;
          enters = subst (λ (z : ℕ). Enters lanes p c z v) (sym to) n;
          gap = same_gap w v x.shape shape e.gap h.covers (hulls_of x.shape w h.among) covers (hulls_of shape v among) gap;
        },
      ),
    ))
    (λ e (to, (from, r)).
    let same_w : r.w ≡ w = leaves_one lanes p c c e.from i r.w w r.leaves l from in
    let same_v : r.v ≡ v = enters_one lanes p c e.to j r.v v r.enters n to in
    let is : IsGap w v e.gap = subst (λ (z : List Pt). IsGap z v e.gap) same_w (subst (λ (z : List Pt). IsGap r.w z e.gap) same_v r.gap) in
    (from, to, same_gap x.shape shape w v e.gap (hulls_of x.shape w h.among) h.covers (hulls_of shape v among) covers is))

-- the link to a cell where the route ends
pub stepped_end : (lanes : List Lane) (p : Pt) (i c : ℕ) (x : Waypoint) (a : NetCell) (shape : List Pt) (before after : ShortestLengths) → IsWaypoint lanes p i c x → slice_get (cells lanes) c ≡ Some a → IsHullOf (corners_of a) shape
    → Relaxes (StepsTo i c x.shape shape) x.length before after → Relaxes (LinksTo lanes p i c c) x.length before after
stepped_end lanes p i c x a shape before after w is k g = stepped lanes p i c c x (corners_of a) shape before after w (to_end a is) k.among k.covers g

-- the link to an entry, by its hull
pub stepped_entry : (lanes : List Lane) (p : Pt) (i c d n : ℕ) (x : Waypoint) (a : NetCell) (entry : Portal) (shape : List Pt) (before after : ShortestLengths) → n ≡ length (cells lanes) → IsWaypoint lanes p i c x → IsAhead lanes (cells lanes) c d
    → slice_get (cells lanes) d ≡ Some a → entry ≡ a.entry → IsHullOf (entry.0 ∷ entry.1 ∷ []) shape → Relaxes (StepsTo i (n + d) x.shape shape) x.length before after → Relaxes (LinksTo lanes p i c (entry_at lanes p d)) x.length before after
stepped_entry lanes p i c d n x a entry shape before after same w s is e k g =
    let hull : IsHullOf (entry_of a) shape = subst (λ (z : Portal). IsHullOf (z.0 ∷ z.1 ∷ []) shape) e k in
    stepped lanes p i c (entry_at lanes p d) x (entry_of a) shape before after w (to_entry d a s is) hull.among hull.covers
    (subst (λ (z : ℕ). Relaxes (StepsTo i (z + d) x.shape shape) x.length before after) same g)

-- and by its points
pub stepped_points : (lanes : List Lane) (p : Pt) (i c d n : ℕ) (x : Waypoint) (a : NetCell) (entry : Portal) (before after : ShortestLengths) → n ≡ length (cells lanes) → IsWaypoint lanes p i c x → IsAhead lanes (cells lanes) c d
    → slice_get (cells lanes) d ≡ Some a → entry ≡ a.entry → Relaxes (StepsTo i (n + d) x.shape (entry.0 ∷ entry.1 ∷ [])) x.length before after → Relaxes (LinksTo lanes p i c (entry_at lanes p d)) x.length before after
stepped_points lanes p i c d n x a entry before after same w s is e g =
    stepped lanes p i c (entry_at lanes p d) x (entry_of a) (entry_of a) before after w (to_entry d a s is) (includes_itself (entry_of a)) (hulls_of (entry_of a) (entry_of a) (includes_itself (entry_of a)))
    (subst (λ (z : Portal). Relaxes (StepsTo i (entry_at lanes p d) x.shape (z.0 ∷ z.1 ∷ [])) x.length before after) e (subst (λ (z : ℕ). Relaxes (StepsTo i (z + d) x.shape (entry.0 ∷ entry.1 ∷ [])) x.length before after) same g))

-- ---- the links in a cell

-- an item of the first k is one of the first k + 1
taken_front : (xs : List ℕ) (k x : ℕ) → k < length xs → Includes (take k xs) x → Includes (take (k + 1) xs) x
taken_front xs k x inside j = subst (λ (z : List ℕ). Includes z x) (sym (take_more xs k 0 inside)) (includes_front (take k xs) (get_or xs k 0 ∷ []) x j)

-- so is the item at place k
taken_last : (xs : List ℕ) (k : ℕ) → k < length xs → Includes (take (k + 1) xs) (get_or xs k 0)
taken_last xs k inside = subst (λ (z : List ℕ). Includes z (get_or xs k 0)) (sym (take_more xs k 0 inside)) (includes_back (take k xs) (get_or xs k 0 ∷ []) (get_or xs k 0) (inl refl))

-- no link leads to none
pub no_entries : (lanes : List Lane) (p : Pt) (i c : ℕ) (e : Edge) → LinksToEntries lanes p i c [] e → ⊥
no_entries lanes p i c e h = h.1

-- the entry of one more cell
pub entries_more : (lanes : List Lane) (p : Pt) (i c k m : ℕ) (ahead : List ℕ) (first before after : ShortestLengths) → k < length ahead → Relaxes (LinksToEntries lanes p i c (take k ahead)) m first before
    → Relaxes (LinksTo lanes p i c (entry_at lanes p (get_or ahead k 0))) m before after → Relaxes (LinksToEntries lanes p i c (take (k + 1) ahead)) m first after
entries_more lanes p i c k m ahead first before after inside g h =
    relaxes_then (LinksToEntries lanes p i c (take k ahead)) (LinksTo lanes p i c (entry_at lanes p (get_or ahead k 0))) (LinksToEntries lanes p i c (take (k + 1) ahead)) m first before after g h
    (λ e (f, j, t, l). (f, taken_front ahead k f inside j, t, l))
    (λ e (t, l). (get_or ahead k 0, taken_last ahead k inside, t, l))
    (λ e (f, j, t, l). elim (includes_taken ahead k 0 f inside j) [
      | inl front ↦ inl (f, front, t, l)
      | inr last ↦ inr (t ∙ ap (entry_at lanes p) last, l)
    ])

-- past the last one all were gone to
pub entries_all : (lanes : List Lane) (p : Pt) (i c k m : ℕ) (ahead : List ℕ) (first now : ShortestLengths) → length ahead ≤ k → Relaxes (LinksToEntries lanes p i c (take k ahead)) m first now → Relaxes (LinksToEntries lanes p i c ahead) m first now
entries_all lanes p i c k m ahead first now h g = subst (λ (z : List ℕ). Relaxes (LinksToEntries lanes p i c z) m first now) (take_all k ahead h) g

-- what is entered is the cell itself, or an entry ahead
pub end_or_entry : (lanes : List Lane) (p : Pt) (c j : ℕ) (v : List Pt) → Enters lanes p c j v → (j ≡ c) ⊎ ((d : ℕ) × IsAhead lanes (cells lanes) c d × (j ≡ entry_at lanes p d))
end_or_entry lanes p c _ _ (to_end a g) = inl refl
end_or_entry lanes p c _ _ (to_entry d a s g) = inr (d, s, refl)

-- all links in a cell
pub cell_links : (lanes : List Lane) (p : Pt) (i c m : ℕ) (ahead : List ℕ) (first before after : ShortestLengths) → ((d : ℕ) → IsAhead lanes (cells lanes) c d → Includes ahead d) → Relaxes (LinksTo lanes p i c c) m first before
    → Relaxes (LinksToEntries lanes p i c ahead) m before after → Relaxes (LinksFrom lanes p i c) m first after
cell_links lanes p i c m ahead first before after every g h =
    relaxes_then (LinksTo lanes p i c c) (LinksToEntries lanes p i c ahead) (LinksFrom lanes p i c) m first before after g h
    (λ e (t, l). l)
    (λ e (d, j, t, l). l)
    (λ e l. elim (end_or_entry lanes p c e.to l.1.v l.1.enters) [
      | inl same ↦ inl (same, l)
      | inr (d, s, same) ↦ inr (d, every d s, same, l)
    ])

-- ---- the links of a waypoint

-- no link is in none of the cells
pub no_beside : (lanes : List Lane) (p : Pt) (i : ℕ) (e : Edge) → LinksInCells lanes p i [] e → ⊥
no_beside lanes p i e h = h.1

-- the links in one more cell
pub beside_more : (lanes : List Lane) (p : Pt) (i k m : ℕ) (some : List ℕ) (first before after : ShortestLengths) → k < length some → Relaxes (LinksInCells lanes p i (take k some)) m first before → Relaxes (LinksFrom lanes p i (get_or some k 0)) m before after
    → Relaxes (LinksInCells lanes p i (take (k + 1) some)) m first after
beside_more lanes p i k m some first before after inside g h =
    relaxes_then (LinksInCells lanes p i (take k some)) (LinksFrom lanes p i (get_or some k 0)) (LinksInCells lanes p i (take (k + 1) some)) m first before after g h
    (λ e (c, j, l). (c, taken_front some k c inside j, l))
    (λ e l. (get_or some k 0, taken_last some k inside, l))
    (λ e (c, j, l). elim (includes_taken some k 0 c inside j) [
      | inl front ↦ inl (c, front, l)
      | inr last ↦ inr (subst (λ (z : ℕ). LinksFrom lanes p i z e) last l)
    ])

-- past the last one these are the links in all cells to which side moves lead
pub beside_all : (lanes : List Lane) (p : Pt) (i s k m : ℕ) (some : List ℕ) (first now : ShortestLengths) → length some ≤ k → Lists (λ c. IsBeside lanes (cells lanes) c s) some → Relaxes (LinksInCells lanes p i (take k some)) m first now → Relaxes (LinksBeside lanes p i s) m first now
beside_all lanes p i s k m some first now h lists g =
    relaxes_as (LinksInCells lanes p i some) (LinksBeside lanes p i s) m first now (subst (λ (z : List ℕ). Relaxes (LinksInCells lanes p i z) m first now) (take_all k some h) g)
    (λ e (c, j, l). (c, lists.each c j, l))
    (λ e (c, b, l). (c, lists.all c b, l))

-- ---- the links of an entry

-- the cell of an entry's number
entry_cell : (lanes : List Lane) (p : Pt) (c d i : ℕ) (w : List Pt) → d < length (cells lanes) → Leaves lanes p c i w → i ≡ entry_at lanes p d → IsBeside lanes (cells lanes) c d
entry_cell lanes p c d _ _ l (from_start s k b) e = absurd (omega (arith, l, e))
entry_cell lanes p c d _ _ l (from_entry f a g b) e = subst (λ (z : ℕ). IsBeside lanes (cells lanes) c z) (omega (arith, e)) b

-- the entry of a cell is a waypoint, as the code makes it
pub entry_waypoint : (lanes : List Lane) (p : Pt) (d m : ℕ) (a : NetCell) (entry : Portal) (shape : Poly) → slice_get (cells lanes) d ≡ Some a → entry ≡ a.entry → IsHullOf (entry.0 ∷ entry.1 ∷ []) shape → IsWaypoint lanes p (entry_at lanes p d) d (record { cell = d; length = m; shape = shape })
entry_waypoint lanes p d m a entry shape cell e hull = (entry_of a, from_entry d a cell here, subst (λ (z : Portal). IsHullOf (z.0 ∷ z.1 ∷ []) shape) e hull)

-- its links
pub entry_links : (lanes : List Lane) (p : Pt) (d m : ℕ) (a : NetCell) (entry : Portal) (shape : Poly) (before after : ShortestLengths) → slice_get (cells lanes) d ≡ Some a → entry ≡ a.entry → IsHullOf (entry.0 ∷ entry.1 ∷ []) shape
    → ((q : Pt) (i : ℕ) → IsWaypoint lanes q i d (record { cell = d; length = m; shape = shape }) → Relaxes (LinksBeside lanes q i d) m before after) → Relaxes (LinksOf lanes p (entry_at lanes p d)) m before after
entry_links lanes p d m a entry shape before after cell e hull h =
    relaxes_as (LinksBeside lanes p (entry_at lanes p d) d) (LinksOf lanes p (entry_at lanes p d)) m before after
    (h p (entry_at lanes p d) (entry_waypoint lanes p d m a entry shape cell e hull))
    (λ x (c, b, (from, l)). (from, (c, l)))
    (λ x (from, (c, l)). (c, entry_cell lanes p c d x.from l.w (slice_get_within (cells lanes) d a cell) l.leaves from, (from, l)))

-- what is ahead is a cell
pub ahead_within : (lanes : List Lane) (c d : ℕ) → IsAhead lanes (cells lanes) c d → d < length (cells lanes)
ahead_within lanes c d (within {b = b} g h e l m) = slice_get_within (cells lanes) d b h
ahead_within lanes c d (joins ends begins l m f same) = slice_get_within (cells lanes) d begins.1 begins.2
ahead_within lanes c d (onto {b = b} ends g o) = slice_get_within (cells lanes) d b g
ahead_within lanes c d (off g o begins) = slice_get_within (cells lanes) d begins.1 begins.2

-- ---- the links of the start

-- no link leads from none
pub no_starts : (lanes : List Lane) (p : Pt) (e : Edge) → LinksFromStart lanes p [] e → ⊥
no_starts lanes p e h = h.3

-- one more start cell
starts_more : (lanes : List Lane) (p : Pt) (k : ℕ) (starts : List ℕ) (first before after : ShortestLengths) → k < length starts → Relaxes (LinksFromStart lanes p (take k starts)) 0 first before
    → Relaxes (LinksBeside lanes p (start_at lanes p) (get_or starts k 0)) 0 before after → Relaxes (LinksFromStart lanes p (take (k + 1) starts)) 0 first after
starts_more lanes p k starts first before after inside g h =
    relaxes_then (LinksFromStart lanes p (take k starts)) (LinksBeside lanes p (start_at lanes p) (get_or starts k 0)) (LinksFromStart lanes p (take (k + 1) starts)) 0 first before after g h
    (λ e (from, r, c, j, b, m). (from, r, c, taken_front starts k r inside j, b, m))
    (λ e (c, b, m). (m.0, get_or starts k 0, c, taken_last starts k inside, b, m.1))
    (λ e (from, r, c, j, b, m). elim (includes_taken starts k 0 r inside j) [
      | inl front ↦ inl (from, r, c, front, b, m)
      | inr last ↦ inr (c, subst (λ (z : ℕ). IsBeside lanes (cells lanes) c z) last b, (from, m))
    ])

-- the start is a waypoint, as the code makes it
pub start_waypoint : (lanes : List Lane) (p : Pt) (k : ℕ) (starts : List ℕ) (shape : Poly) → k < length starts → AllByRecursion (IsStartCell lanes p) starts → IsHullOf (p ∷ []) shape → IsWaypoint lanes p (start_at lanes p) (get_or starts k 0) (record { cell = get_or starts k 0; length = 0; shape = shape })
start_waypoint lanes p k starts shape inside held hull = (p ∷ [], from_start (get_or starts k 0) (all_at (IsStartCell lanes p) starts k 0 held inside) here, hull)

-- one more start cell, of this waypoint
pub starts_step : (lanes : List Lane) (p : Pt) (k : ℕ) (starts : List ℕ) (shape : Poly) (first before after : ShortestLengths) → k < length starts → AllByRecursion (IsStartCell lanes p) starts → IsHullOf (p ∷ []) shape
    → Relaxes (LinksFromStart lanes p (take k starts)) 0 first before
    → ((q : Pt) (i : ℕ) → IsWaypoint lanes q i (get_or starts k 0) (record { cell = get_or starts k 0; length = 0; shape = shape }) → Relaxes (LinksBeside lanes q i (get_or starts k 0)) 0 before after)
    → Relaxes (LinksFromStart lanes p (take (k + 1) starts)) 0 first after
starts_step lanes p k starts shape first before after inside held hull g h =
    starts_more lanes p k starts first before after inside g
    (h p (start_at lanes p) (start_waypoint lanes p k starts shape inside held hull))

-- past the last one all were gone from
pub starts_all : (lanes : List Lane) (p : Pt) (k : ℕ) (starts : List ℕ) (first now : ShortestLengths) → length starts ≤ k → Relaxes (LinksFromStart lanes p (take k starts)) 0 first now → Relaxes (LinksFromStart lanes p starts) 0 first now
starts_all lanes p k starts first now h g = subst (λ (z : List ℕ). Relaxes (LinksFromStart lanes p z) 0 first now) (take_all k starts h) g

-- ---- start cells

-- a start cell is a cell
pub start_within : (lanes : List Lane) (p : Pt) (s : ℕ) → IsStartCell lanes p s → s < length (cells lanes)
start_within lanes p s k = slice_get_within (cells lanes) s k.0 k.1
