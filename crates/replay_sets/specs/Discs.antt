-- The discs of each step, as pieces.
use Rattle.std.specs.Prelude.{◌≡◌, ℕ, ◌<◌, ◌≤◌, ◌++◌, List, [], map, slice_index_or, length}
use Rattle.std.specs.List.{AllByRecursion}
use Rattle.spot_terms.specs.OccupiedPieces.{fixed_disc}
use Rattle.spot_terms.specs.Pieces.{Piece, disc}
use Rattle.spot_terms.specs.Whole.{SizeAtMost}
use Rattle.spot_terms.specs.declared.plain.Disc.{Disc}
use Rattle.spot_terms.specs.declared.scenario.Scenario.{Scenario}

-- the discs of the steps, from 0 on
abbrev pub DiscLists : Type 0
DiscLists = List (List Disc)

abbrev pub discs_at : DiscLists → ℕ → List Disc
discs_at recording step = slice_index_or recording step []

abbrev pub pieces_at : DiscLists → ℕ → List Piece
pieces_at recording step = map (λ d. disc d.p d.r) (discs_at recording step)

-- its position is at most 10^13 in size, and its radius 4·10^8
pub record IsSmallDisc (d : Disc) : Type 0 where
  pub x : SizeAtMost 10_000_000_000_000 d.p.x
  pub y : SizeAtMost 10_000_000_000_000 d.p.y
  pub r : d.r ≤ 400_000_000

-- what is true of the discs of a step: they can be numbered
pub record AreSmall (discs : List Disc) : Type 0 where
  pub few : length discs < 4_294_967_296
  pub each : AllByRecursion IsSmallDisc discs

pub record IsKept (recording : DiscLists) : Type 0 where
  pub some : 0 < length recording
  pub small : AllByRecursion AreSmall recording

-- ---- how they are gathered

-- so many steps, each with the discs of the static obstacles
pub record AreStanding (s : Scenario) (radius count : ℕ) (recording : DiscLists) : Type 0 where
  pub long : length recording ≡ count
  pub each : (i : ℕ) → i < count → discs_at recording i ≡ map (fixed_disc radius) s.fixed

-- to each step these discs were added
pub record Follows (old new : DiscLists) (added : ℕ → List Disc) : Type 0 where
  pub long : length new ≡ length old
  pub each : (i : ℕ) → i < length old → discs_at new i ≡ discs_at old i ++ added i
