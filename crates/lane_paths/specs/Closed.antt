-- Blocks of cells in which no length is greater than some number.
use Rattle.std.specs.Prelude.{◌≡◌, ◌⊎◌, ℕ, ◌+◌, List, length, take, drop, Option, Some, slice_get}
use Rattle.std.specs.List.{AllByRecursion}
use Rattle.spot_terms.specs.Cells.{Lane, cells}
use Rattle.spot_terms.specs.Lists.{Lists}
use Rattle.spot_terms.specs.Network.{IsAhead}
use Rattle.lanelets.specs.Beside.{IsBeside}
use Rattle.lane_paths.specs.declared.closed.Closed.{Closed}
use Rattle.lane_paths.specs.declared.closed.TheConstants.{BLOCK}
use Rattle.lane_paths.specs.Edges.{HasAtMost}

-- the end of cell c and the entries of the cells ahead of it have lengths of at most m
pub record IsAtMost (lanes : List Lane) (lengths : List (Option ℕ)) (m c : ℕ) : Type 0 where
  pub end : HasAtMost lengths c m
  pub ahead : (d : ℕ) → IsAhead lanes (cells lanes) c d → HasAtMost lengths (length (cells lanes) + d) m

-- the first cells, BLOCK or as many as there are, from cell r on of the list of those to which side moves lead from it
abbrev pub IsBlockAt : List Lane → ℕ → List ℕ → Type 0
IsBlockAt lanes r block = (list : List ℕ) × (i : ℕ) × Lists (λ d. IsBeside lanes (cells lanes) d r) list × (slice_get list i ≡ Some r) × (block ≡ take BLOCK (drop i list))

-- a block of the cells to which side moves lead from cell s
pub record IsBlockOf (lanes : List Lane) (s : ℕ) (block : List ℕ) : Type 0 where
  pub first : ℕ
  pub first_is : slice_get block 0 ≡ Some first
  pub beside : IsBeside lanes (cells lanes) first s
  pub at : IsBlockAt lanes first block

-- where a number is kept for the first cell of a block, no length in the block is greater
abbrev pub AreClosed : List Lane → List (Option ℕ) → List (Option ℕ) → Type 0
AreClosed lanes lengths closed = (r m : ℕ) (block : List ℕ) → slice_get closed r ≡ Some (Some m) → IsBlockAt lanes r block → AllByRecursion (IsAtMost lanes lengths m) block

-- and where one is kept for the first cell of a class, no length in the class is greater
pub record AreAllClosed (lanes : List Lane) (lengths : List (Option ℕ)) (closed : Closed) : Type 0 where
  pub blocks : AreClosed lanes lengths closed.blocks.greatest.items
  pub classes : (r m c : ℕ) → slice_get closed.classes.greatest.items r ≡ Some (Some m) → IsBeside lanes (cells lanes) c r → IsAtMost lanes lengths m c

-- m is kept for number r, and for the others what was
abbrev pub IsKept : List (Option ℕ) → ℕ → ℕ → List (Option ℕ) → Type 0
IsKept before r m after = (q n : ℕ) → slice_get after q ≡ Some (Some n) → ((q ≡ r) × (n ≡ m)) ⊎ (slice_get before q ≡ Some (Some n))
