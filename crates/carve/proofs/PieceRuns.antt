-- The runs and the range of a piece that is found.
use Rattle.std.proofs.Common.{◌≡◌, ℕ, List, Option, Some, None, subst, ℤ}
use Rattle.std.specs.Prelude.{slice_get}
use Rattle.spot_terms.specs.Frames.{at}
use Rattle.spot_terms.specs.Pieces.{Piece, InPiece, Hits, range_of, y_range}
use Rattle.spot_terms.specs.declared.plain.Pt.{Pt}
use Rattle.spot_terms.proofs.Unique.{some_one}
use Rattle.convex_poly.specs.Runs.{IsRun}
use Rattle.carve.specs.Ranges.{IsRange}

-- what holds of the same places has the same run
pub runs_alike : (P Q : ℤ → Type 0) → ((x : ℤ) → P x → Q x) → ((x : ℤ) → Q x → P x) → (run : Option (ℤ × ℤ)) → IsRun P run → IsRun Q run
runs_alike P Q f g None h = λ x q. h x (g x q)
runs_alike P Q f g (Some span) h = record { ordered = h.ordered; exact = λ x. (λ q. (h.exact x).0 (g x q), λ w. f x ((h.exact x).1 w)) }

module _ (pieces : List Piece) (p : ℕ) (piece : Piece) (found : slice_get pieces p ≡ Some piece) where
  -- the run of the piece of a number is that of the piece
  run_found : (y0 y1 : ℤ) (run : Option (ℤ × ℤ)) → IsRun (λ x. InPiece piece (at x y0) × InPiece piece (at x y1)) run → IsRun (λ x. Hits pieces p (at x y0) × Hits pieces p (at x y1)) run
  run_found y0 y1 run h = runs_alike (λ x. InPiece piece (at x y0) × InPiece piece (at x y1)) (λ x. Hits pieces p (at x y0) × Hits pieces p (at x y1))
      (λ x k. ((piece, found, k.0), (piece, found, k.1))) (λ x k. (back (at x y0) k.0, back (at x y1) k.1)) run h
    where
      back : (q : Pt) → Hits pieces p q → InPiece piece q
      back q (a, f, i) = subst (λ (z : Piece). InPiece z q) (some_one (slice_get pieces p) a piece f found) i

  -- the same, of rows that are told in another way
  pub run_at : (y0 y1 z0 z1 : ℤ) (run : Option (ℤ × ℤ)) → z0 ≡ y0 → z1 ≡ y1
      → IsRun (λ x. InPiece piece (at x z0) × InPiece piece (at x z1)) run → IsRun (λ x. Hits pieces p (at x y0) × Hits pieces p (at x y1)) run
  run_at y0 y1 z0 z1 run f g h =
      run_found y0 y1 run (subst (λ (a : ℤ). IsRun (λ x. InPiece piece (at x a) × InPiece piece (at x y1)) run) f (subst (λ (b : ℤ). IsRun (λ x. InPiece piece (at x z0) × InPiece piece (at x b)) run) g h))

  -- its range is that of the piece
  pub range_found : (span : Option (ℤ × ℤ)) → IsRange (y_range piece) span → IsRange (range_of pieces p) span
  range_found span h = rw (found, range_of) h
