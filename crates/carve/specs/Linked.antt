-- What pieces take away from rows: of each row its spans, each linked to the next.
use Rattle.std.specs.Prelude.{◌≡◌, ℕ, ◌<◌, ◌≤◌, ℤ, pos, ◌+ℤ◌, ◌≤ℤ◌, List, [], ◌∷◌, length, Option, Some, None, slice_get}
use Rattle.spot_terms.specs.Grid.{slot_low, slot_high}
use Rattle.spot_terms.specs.Lists.{Includes}
use Rattle.spot_terms.specs.RowBoxes.{pieces_met}
use Rattle.spot_terms.specs.declared.plain.Pt.{Pt}
use Rattle.carve.specs.Taking.{TakesBetween}
use Rattle.carve.specs.declared.runs.Span.{Span}
use Rattle.carve.specs.declared.linked.Link.{Link}

-- Of each row where its first span is linked, and all links; a row has at most as many spans as there are pieces; for so many
-- rows and for so many links there is room.
pub record Linked : Type 0 where
  pub rows : ℕ
  pub room : ℕ
  pub pieces : ℕ
  pub heads : List (Option ℕ)
  pub links : List Link

-- the spans from a place on, in order; each link leads to an earlier one
abbrev pub AreLinked : List Link → Option ℕ → List Span → Type 0
AreLinked links from [] = from ≡ None
AreLinked links from (s ∷ spans) = (i : ℕ) × (next : Option ℕ) × (from ≡ Some i) × (slice_get links i ≡ Some (record { span = s; next = next }))
    × ((j : ℕ) → next ≡ Some j → j < i) × AreLinked links next spans

-- the spans of row j
abbrev pub AreSpansOf : List (Option ℕ) → List Link → ℕ → List Span → Type 0
AreSpansOf heads links j spans = (from : Option ℕ) × (slice_get heads j ≡ Some from) × AreLinked links from spans

-- all rows but row j have the spans that they had
abbrev pub KeepsOthers : ℕ → List (Option ℕ) → List Link → List (Option ℕ) → List Link → Type 0
KeepsOthers j heads links new_heads new_links = (i : ℕ) (spans : List Span) → (i ≡ j → ⊥) → AreSpansOf heads links i spans → AreSpansOf new_heads new_links i spans

-- no span is empty
abbrev pub AreSome : List Span → Type 0
AreSome spans = (s : Span) → Includes spans s → s.first ≤ℤ s.last

-- each row has spans, at most n, none of which is empty
abbrev pub HaveSpans : ℕ → List (Option ℕ) → List Link → Type 0
HaveSpans n heads links = (j : ℕ) → j < length heads → (spans : List Span) × AreSpansOf heads links j spans × AreSome spans × (length spans ≤ n)

-- over pieces, which points each of them holds and the range of its y, and rows of height g
module _ (Hits : ℕ → Pt → Type 0) (range : ℕ → ℤ × ℤ) (g : ℤ) where
  -- the spans are exactly what the first n pieces take away from the row, at most one for each of those that meet it
  pub record AreTakenBy (n : ℕ) (row : ℤ) (spans : List Span) : Type 0 where
    pub exact : TakesBetween n Hits (slot_low g row) (slot_high g row) spans
    pub some : AreSome spans
    pub few : length spans ≤ n
    pub met : length spans ≤ pieces_met g n range row

  -- row j has linked what the first n pieces take away from it
  pub record HasRow (heads : List (Option ℕ)) (links : List Link) (n j : ℕ) (row : ℤ) : Type 0 where
    pub spans : List Span
    pub linked : AreSpansOf heads links j spans
    pub taken : AreTakenBy n row spans

  -- each row has, of which `first` is the number of the first one
  abbrev pub AreRowsTaken : ℤ → List (Option ℕ) → List Link → ℕ → Type 0
  AreRowsTaken first heads links n = (j : ℕ) → j < length heads → HasRow heads links n j (first +ℤ pos j)
