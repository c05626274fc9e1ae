-- Turns of three points, and what lies left of the edges of a corner list.
use Rattle.std.specs.Prelude.{ℕ, ℤ, pos, ◌+◌, ◌<◌, ◌≡◌, ◌+ℤ◌, ◌-ℤ◌, ◌*ℤ◌, ◌≤ℤ◌, ◌<ℤ◌, List, length, slice_index_or}
use Rattle.spot_terms.specs.declared.plain.Pt.{Pt}

-- twice the area of a, b, c: positive where the way from a over b to c turns left
abbrev pub cross : Pt → Pt → Pt → ℤ
cross a b c = ((b.x -ℤ a.x) *ℤ (c.y -ℤ a.y)) -ℤ ((b.y -ℤ a.y) *ℤ (c.x -ℤ a.x))

-- the inner product of the ways from a to b and to c
abbrev pub inner : Pt → Pt → Pt → ℤ
inner a b c = ((b.x -ℤ a.x) *ℤ (c.x -ℤ a.x)) +ℤ ((b.y -ℤ a.y) *ℤ (c.y -ℤ a.y))

-- q is on the segment from a to b
pub record IsOn (a b q : Pt) : Type 0 where
  pub straight : cross a b q ≡ pos 0
  pub from_a : pos 0 ≤ℤ inner a b q
  pub from_b : pos 0 ≤ℤ inner b a q

-- q is left of, or on, each edge from a corner to the next
abbrev pub EdgesLeft : List Pt → Pt → Type 0
EdgesLeft vs q =
    (i j : ℕ) (d : Pt) → j ≡ i + 1 → j < length vs → pos 0 ≤ℤ cross (slice_index_or vs i d) (slice_index_or vs j d) q

-- and the edge from the last corner to the first
abbrev pub ClosingLeft : List Pt → Pt → Type 0
ClosingLeft vs q =
    (i : ℕ) (d : Pt) → i + 1 ≡ length vs → pos 0 ≤ℤ cross (slice_index_or vs i d) (slice_index_or vs 0 d) q

-- each three points in their order turn left
abbrev pub TurnsLeft : List Pt → Type 0
TurnsLeft vs =
    (i j k : ℕ) (d : Pt) → i < j → j < k → k < length vs → pos 0 <ℤ cross (slice_index_or vs i d) (slice_index_or vs j d) (slice_index_or vs k d)
