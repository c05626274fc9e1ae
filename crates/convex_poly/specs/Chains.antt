-- Chains of points in an order by a linear key, and what lies on one side of them.
use Rattle.std.specs.Prelude.{ℕ, ℤ, pos, ◌+◌, ◌-◌, ◌<◌, ◌≤◌, ◌≡◌, ◌+ℤ◌, ◌-ℤ◌, ◌*ℤ◌, ◌<ℤ◌, ◌≤ℤ◌, List, [], ◌∷◌, ◌++◌, length, take, drop, slice_index_or}
use Rattle.std.specs.List.{AllByRecursion}
use Rattle.spot_terms.specs.declared.plain.Pt.{Pt}
use Rattle.spot_terms.specs.Hull.{InHullAt, Before}
use Rattle.spot_terms.specs.Lists.{Includes}
use Rattle.convex_poly.specs.Turns.{cross, TurnsLeft}

-- a linear function of points, by which they are sorted
abbrev pub key : ℤ → ℤ → Pt → ℤ
key kx ky p = (kx *ℤ p.x) +ℤ (ky *ℤ p.y)

-- the keys rise
abbrev pub Rising : ℤ → ℤ → List Pt → Type 0
Rising kx ky s =
    (i j : ℕ) (d : Pt) → i < j → j < length s → key kx ky (slice_index_or s i d) <ℤ key kx ky (slice_index_or s j d)

-- q, moved by t / w along (gx, gy), is in the hull
pub record Toward (gx gy : ℤ) (vs : List Pt) (q : Pt) : Type 0 where
  pub w : ℕ
  pub t : ℕ
  pub some : 0 < w
  pub inside : InHullAt vs (record { x = pos w *ℤ q.x +ℤ pos t *ℤ gx; y = pos w *ℤ q.y +ℤ pos t *ℤ gy; d = w })

-- new is the first points of old, at least one if there is any, and next
pub record KeepsFront (old : List Pt) (next : Pt) (new : List Pt) : Type 0 where
  pub count : ℕ
  pub within : count ≤ length old
  pub some : 0 < length old → 0 < count
  pub items : new ≡ take count old ++ next ∷ []

-- the last two points and next don't turn left
pub record HasDent (chain : List Pt) (next : Pt) : Type 0 where
  pub two : 2 ≤ length chain
  pub turn : (i j : ℕ) (d : Pt) → j ≡ i + 1 → j + 1 ≡ length chain → cross (slice_index_or chain i d) (slice_index_or chain j d) next ≤ℤ pos 0

-- the two lists begin with one point and end with one point
pub record HasEndsOf (done chain : List Pt) : Type 0 where
  pub some : 0 < length done → 0 < length chain
  pub first : (d : Pt) → 0 < length done → slice_index_or chain 0 d ≡ slice_index_or done 0 d
  pub last : (i j : ℕ) (d : Pt) → i + 1 ≡ length chain → j + 1 ≡ length done → slice_index_or chain i d ≡ slice_index_or done j d

-- chain is what stands of the points so far, by rising keys
pub record IsChain (kx ky : ℤ) (done chain : List Pt) : Type 0 where
  pub turns : TurnsLeft chain
  pub rises : Rising kx ky chain
  pub inside : AllByRecursion (Includes done) chain
  pub side : AllByRecursion (Toward ky (pos 0 -ℤ kx) chain) done
  pub ends : HasEndsOf done chain

-- chain is some of the points by rising keys, and turns left with all of them on its side
pub record IsSideOf (kx ky : ℤ) (points chain : List Pt) : Type 0 where
  pub turns : TurnsLeft chain
  pub rises : Rising kx ky chain
  pub inside : AllByRecursion (Includes points) chain
  pub side : AllByRecursion (Toward ky (pos 0 -ℤ kx) chain) points

-- the list back begins where the list there ends, and ends where that begins
pub record HasMeetingEnds (there back : List Pt) : Type 0 where
  pub foot : (i : ℕ) (d : Pt) → i + 1 ≡ length back → slice_index_or back i d ≡ slice_index_or there 0 d
  pub top : (i : ℕ) (d : Pt) → i + 1 ≡ length there → slice_index_or there i d ≡ slice_index_or back 0 d

-- lesser x, or equal x and y at most that of b
pub record IsInOrder (a b : Pt) : Type 0 where
  pub by_x : a.x ≤ℤ b.x
  pub by_y : a.x ≡ b.x → a.y ≤ℤ b.y

-- each point before the later ones
abbrev pub IsOrdered : List Pt → Type 0
IsOrdered s = (i j : ℕ) (d : Pt) → i < j → j < length s → Before (slice_index_or s i d) (slice_index_or s j d)

-- the list without its first and last point
abbrev pub between_ends : List Pt → List Pt
between_ends vs = take (length vs - 2) (drop 1 vs)
