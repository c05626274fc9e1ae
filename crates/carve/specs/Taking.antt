-- Spans that are taken away, and the runs that are found from the left to the right.
use Rattle.std.specs.Prelude.{◌≡◌, ◌⊎◌, ◌↔◌, ℕ, ◌+◌, ◌<◌, ◌≤◌, ℤ, pos, ◌+ℤ◌, ◌-ℤ◌, ◌≤ℤ◌, ◌<ℤ◌, List, [], ◌∷◌, length, slice_index_or}
use Rattle.spot_terms.specs.Frames.{at}
use Rattle.spot_terms.specs.Lists.{Includes}
use Rattle.spot_terms.specs.Whole.{Within}
use Rattle.spot_terms.specs.Grid.{slot_low, slot_high, IsFreeRun, AreInTurn, IsInRun}
use Rattle.spot_terms.specs.declared.plain.Pt.{Pt}
use Rattle.carve.specs.declared.runs.Span.{Span}

abbrev pub nowhere : Span
nowhere = record { first = pos 0; last = pos 0 }

abbrev pub span_at : List Span → ℕ → Span
span_at spans j = slice_index_or spans j nowhere

-- x lies in one of the spans
pub record IsTaken (spans : List Span) (x : ℤ) : Type 0 where
  pub j : ℕ
  pub listed : j < length spans
  pub first : (span_at spans j).first ≤ℤ x
  pub last : x ≤ℤ (span_at spans j).last

-- over pieces, how many there are and which points each of them holds: the spans are exactly the x at which both ends lie
-- in one piece
abbrev pub TakesBetween : ℕ → (ℕ → Pt → Type 0) → ℤ → ℤ → List Span → Type 0
TakesBetween count Hits low high spans = (x : ℤ) → ((p : ℕ) × (p < count) × Hits p (at x low) × Hits p (at x high)) ↔ IsTaken spans x

-- no span is empty, and they are in order of their first places
pub record AreSpans (spans : List Span) : Type 0 where
  pub some : (j : ℕ) → j < length spans → (span_at spans j).first ≤ℤ (span_at spans j).last
  pub sorted : (i j : ℕ) → i < j → j < length spans → (span_at spans i).first ≤ℤ (span_at spans j).first

-- what comes before `at` is removed, or in another column: a run may begin here
abbrev pub MayBegin : (ℤ → Type 0) → ℤ → ℤ → Type 0
MayBegin removed w at = removed (at -ℤ pos 1) ⊎ ((c : ℤ) × (at ≡ slot_low w c))

-- the free runs that begin before `at`, from the first column on, all of which end before it
pub record AreRunsBefore (removed : ℤ → Type 0) (w first at : ℤ) (runs : List (ℤ × ℤ)) : Type 0 where
  pub ordered : AreInTurn runs
  pub each : (run : ℤ × ℤ) → Includes runs run → (col : ℤ) × IsFreeRun removed w col run.0 run.1 × (slot_low w first ≤ℤ run.0) × (run.1 <ℤ at)
  pub all : (col lo hi : ℤ) → IsFreeRun removed w col lo hi → slot_low w first ≤ℤ lo → lo <ℤ at → Includes runs (lo, hi)
  pub from : slot_low w first ≤ℤ at
  pub covers : (x : ℤ) → slot_low w first ≤ℤ x → x <ℤ at → removed x ⊎ IsInRun runs x

-- b is the first border of a column past `at`
pub record IsBorder (w at b : ℤ) : Type 0 where
  pub col : ℤ
  pub is : b ≡ slot_low w (col +ℤ pos 1)
  pub low : slot_low w col ≤ℤ at
  pub high : at <ℤ b

-- where the run that begins at `at` ends, before `to`: at its column's border, at the end, or where span i begins
pub record IsEndOfRun (spans : List Span) (i : ℕ) (w at end to : ℤ) : Type 0 where
  pub border : ℤ
  pub is_border : IsBorder w at border
  pub before_border : to ≤ℤ border
  pub before_end : to ≤ℤ end
  pub before_span : i < length spans → to ≤ℤ (span_at spans i).first
  pub is : (to ≡ border) ⊎ (to ≡ end) ⊎ ((i < length spans) × (to ≡ (span_at spans i).first))

-- past `last` or at the end, and not before `at`
pub record IsPast (at last end to : ℤ) : Type 0 where
  pub from : at ≤ℤ to
  pub within : to ≤ℤ end
  pub past : to <ℤ end → last <ℤ to
  pub all : (at ≡ to) ⊎ (to ≤ℤ (last +ℤ pos 1))

-- at most one run for each column that is passed and for each span that is passed; one more, where the next span begins here
pub record AreFew (spans : List Span) (w first at : ℤ) (i : ℕ) (runs : ℕ) : Type 0 where
  pub columns : ℕ
  pub passed : slot_low w (first +ℤ pos columns) ≤ℤ at
  pub few : (runs ≤ i + columns) ⊎ ((runs ≤ i + columns + 1) × (i < length spans) × ((span_at spans i).first ≤ℤ at))

-- the runs that are found before `at`, where i spans are passed
pub record AreFoundBefore (spans : List Span) (w first end at : ℤ) (i : ℕ) (runs : List (ℤ × ℤ)) : Type 0 where
  pub runs_are : AreRunsBefore (IsTaken spans) w first at runs
  pub begins : IsTaken spans at ⊎ MayBegin (IsTaken spans) w at
  pub passed : (j : ℕ) → j < i → at <ℤ end → (span_at spans j).last <ℤ at
  pub few : AreFew spans w first at i (length runs)
  pub within : at ≤ℤ end
  pub index : i ≤ length spans
