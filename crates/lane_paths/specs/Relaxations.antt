-- Relaxations: lengths that are lowered, with the entries that are still to be gone on from.
use Rattle.std.specs.Prelude.{◌≡◌, ◌⊎◌, ℕ, ◌+◌, ◌<◌, ◌≤◌, List, length, Option, Some, slice_get}
use Rattle.spot_terms.specs.Cells.{Lane, cells}
use Rattle.spot_terms.specs.Gaps.{IsGap}
use Rattle.spot_terms.specs.Lists.{Includes}
use Rattle.spot_terms.specs.declared.plain.Pt.{Pt}
use Rattle.lane_paths.specs.declared.shortest_lengths.ShortestLengths.{ShortestLengths}
use Rattle.lane_paths.specs.declared.shortest_lengths.Waypoint.{Waypoint}
use Rattle.lane_paths.specs.Edges.{Edge, HasAtMost, ArePathLengths, IsSettled, sum_of}
use Rattle.lane_paths.specs.Waypoints.{IsLink}

-- ---- one step

-- n is the length of the waypoint with this number and hull by way of x, within the limit and less than the one it has
pub record IsLesser (s : ShortestLengths) (x : Waypoint) (to : ℕ) (shape : List Pt) (n : ℕ) : Type 0 where
  pub gap : ℕ
  pub gap_is : IsGap x.shape shape gap
  pub sum : n ≡ x.length + gap
  pub low : n ≤ s.limit
  pub above : (k : ℕ) → slice_get s.lengths to ≡ Some (Some k) → n < k

-- a length of m is above the limit, or the waypoint with this number has one that is at most that
abbrev pub IsDone : ShortestLengths → ℕ → ℕ → Type 0
IsDone s m to = (s.limit < m) ⊎ HasAtMost s.lengths to m

-- the length by way of x is above the limit, or no less than the one it has
abbrev pub IsNotLesser : ShortestLengths → Waypoint → ℕ → List Pt → Type 0
IsNotLesser s x to shape = (g : ℕ) → IsGap x.shape shape g → x.length + g ≤ s.limit → HasAtMost s.lengths to (x.length + g)

-- from number i, with one hull, to number j, with the other
abbrev pub StepsTo : ℕ → ℕ → List Pt → List Pt → Edge → Type 0
StepsTo i j a b e = (e.from ≡ i) × (e.to ≡ j) × IsGap a b e.gap

-- ---- many steps

-- what is left to be done: twice the sum of the lengths, and how many entries are to be gone on from
abbrev pub size_of : ShortestLengths → ℕ
size_of s = sum_of s.limit s.lengths + sum_of s.limit s.lengths + length s.frontier

-- an edge of which P holds leads to number i, and m and its gap sum to n, within the limit
abbrev pub IsSum : (Edge → Type 0) → ℕ → ℕ → ℕ → ℕ → Type 0
IsSum P limit m i n = (e : Edge) × P e × (e.to ≡ i) × (n ≡ m + e.gap) × (n ≤ limit)

-- from a length of m the edges of which P holds were gone along: the lengths at their ends are no more than by way of
-- them, no other length was changed, and each entry whose length became less is to be gone on from
pub record Relaxes (P : Edge → Type 0) (m : ℕ) (before after : ShortestLengths) : Type 0 where
  pub count_same : after.count ≡ before.count
  pub limit_same : after.limit ≡ before.limit
  pub many_same : length after.lengths ≡ length before.lengths
  pub kept : (i k : ℕ) → slice_get before.lengths i ≡ Some (Some k) → HasAtMost after.lengths i k
  pub made : (i k : ℕ) → slice_get after.lengths i ≡ Some (Some k) → (slice_get before.lengths i ≡ Some (Some k)) ⊎ IsSum P before.limit m i k
  pub settled : (e : Edge) → P e → m + e.gap ≤ before.limit → HasAtMost after.lengths e.to (m + e.gap)
  pub noted : (d k : ℕ) → slice_get after.lengths (before.count + d) ≡ Some (Some k) → (slice_get before.lengths (before.count + d) ≡ Some (Some k)) ⊎ Includes after.frontier (k, d)
  pub waits : (x : ℕ × ℕ) → Includes before.frontier x → Includes after.frontier x
  pub within : (x : ℕ × ℕ) → Includes after.frontier x → Includes before.frontier x ⊎ (x.1 < before.count)
  pub smaller : size_of after ≤ size_of before

-- ---- a whole search

-- the places of the waypoints of the network
pub record HasPlaces (lanes : List Lane) (s : ShortestLengths) : Type 0 where
  pub count_is : s.count ≡ length (cells lanes)
  pub many : length s.lengths ≡ s.count + s.count + 1
  pub within : (x : ℕ × ℕ) → Includes s.frontier x → x.1 < s.count

module _ (lanes : List Lane) (p : Pt) where
  -- number i, of length k, is an entry that is to be gone on from, or no link from it makes a length less
  abbrev pub IsOpenOrDone : ShortestLengths → ℕ → ℕ → Type 0
  IsOpenOrDone s i k = ((d : ℕ) × (i ≡ s.count + d) × Includes s.frontier (k, d)) ⊎ ((e : Edge) → IsLink lanes p e → e.from ≡ i → k + e.gap ≤ s.limit → HasAtMost s.lengths e.to (k + e.gap))

  -- the lengths are made of the first ones along links, and each that has been lowered is open or done
  pub record IsUnderWay (first : List (Option ℕ)) (s : ShortestLengths) : Type 0 where
    pub made : ArePathLengths (IsLink lanes p) s.limit first s.lengths
    pub open_or_done : (i k : ℕ) → slice_get s.lengths i ≡ Some (Some k) → IsOpenOrDone s i k

  -- the lengths are made of the first ones along links, and no link makes one less
  pub record AreSettled (limit : ℕ) (first lengths : List (Option ℕ)) : Type 0 where
    pub made : ArePathLengths (IsLink lanes p) limit first lengths
    pub settled : (e : Edge) → IsLink lanes p e → IsSettled limit lengths e
