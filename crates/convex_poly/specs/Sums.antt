-- Parts of corner lists by rising keys, and the sums of two parts by merging their edges by direction.
use Rattle.std.specs.Prelude.{◌≡◌, ◌⊎◌, ℕ, ◌+◌, ◌<◌, ◌≤◌, ℤ, pos, ◌-ℤ◌, ◌<ℤ◌, ◌≤ℤ◌, List, length, slice_index_or}
use Rattle.std.specs.List.{AllByRecursion}
use Rattle.spot_terms.specs.declared.plain.Pt.{Pt}
use Rattle.spot_terms.specs.Hull.{Before}
use Rattle.spot_terms.specs.LanePolygons.{add_pt, sums}
use Rattle.spot_terms.specs.Lists.{Includes}
use Rattle.convex_poly.specs.Chains.{key, IsSideOf, Rising, Toward}
use Rattle.convex_poly.specs.Vectors.{minus, turn_of}
use Rattle.convex_poly.specs.Turns.{cross}

-- the points come later and later up to place k, and earlier and earlier from there
pub record IsTop (vs : List Pt) (k : ℕ) : Type 0 where
  pub within : k < length vs
  pub up : (i j : ℕ) (d : Pt) → i < j → j ≤ k → Before (slice_index_or vs i d) (slice_index_or vs j d)
  pub down : (i j : ℕ) (d : Pt) → k ≤ i → i < j → j < length vs → Before (slice_index_or vs j d) (slice_index_or vs i d)

-- the keys rise, and the way over the points doesn't turn right
pub record IsSide (kx ky : ℤ) (s : List Pt) : Type 0 where
  pub rises : Rising kx ky s
  pub turns : (i j k : ℕ) (d : Pt) → j ≡ i + 1 → k ≡ i + 2 → k < length s → pos 0 ≤ℤ cross (slice_index_or s i d) (slice_index_or s j d) (slice_index_or s k d)

-- q lies between the first and the last by its key, and not right of the way from the one to the other
pub record IsOver (kx ky : ℤ) (first last q : Pt) : Type 0 where
  pub after : key kx ky first <ℤ key kx ky q
  pub before : key kx ky q <ℤ key kx ky last
  pub left : cross first q last ≤ℤ pos 0

-- the points of part are one side of all
pub record IsPart (kx ky : ℤ) (all part : List Pt) : Type 0 where
  pub side : IsSide kx ky part
  pub inside : AllByRecursion (Includes all) part
  pub others : (q : Pt) (i : ℕ) (d : Pt) → Includes all q → i + 1 ≡ length part → Includes part q ⊎ IsOver kx ky (slice_index_or part 0 d) (slice_index_or part i d) q

-- an edge of a begins at place i, and that of b at place j, if there is one, is not right of it
pub record GoesFirst (a b : List Pt) (i j : ℕ) : Type 0 where
  pub more : i + 1 < length a
  pub right : (m n : ℕ) (d : Pt) → m ≡ i + 1 → n ≡ j + 1 → n < length b → pos 0 ≤ℤ turn_of (minus (slice_index_or a m d) (slice_index_or a i d)) (minus (slice_index_or b n d) (slice_index_or b j d))

-- the points begin with the sum of the first two and end with that of the last two
pub record HasSumEnds (a b s : List Pt) : Type 0 where
  pub first : (d : Pt) → slice_index_or s 0 d ≡ add_pt (slice_index_or a 0 d) (slice_index_or b 0 d)
  pub last : (i j k : ℕ) (d : Pt) → i + 1 ≡ length a → j + 1 ≡ length b → k + 1 ≡ length s → slice_index_or s k d ≡ add_pt (slice_index_or a i d) (slice_index_or b j d)

-- some of the sums by rising keys, on whose side all sums are
pub record IsSumPath (a b path : List Pt) : Type 0 where
  pub size : length path + 1 ≡ length a + length b
  pub inside : AllByRecursion (Includes (sums a b)) path
  pub ends : HasSumEnds a b path
  pub rises : (kx ky : ℤ) → IsSide kx ky a → IsSide kx ky b → Rising kx ky path
  pub side : (kx ky : ℤ) → IsSide kx ky a → IsSide kx ky b → AllByRecursion (Toward ky (pos 0 -ℤ kx) path) (sums a b)

-- of parts a and b of us and vs: the chain is that side of all sums of us and vs
pub record IsSumSide (kx ky : ℤ) (us vs a b chain : List Pt) : Type 0 where
  pub of : IsSideOf kx ky (sums us vs) chain
  pub some : 0 < length chain
  pub two : 2 < length a + length b → 2 ≤ length chain
  pub few : length chain + 1 ≤ length a + length b
  pub ends : HasSumEnds a b chain
