-- Which obstacles start at time 0.
use Rattle.std.proofs.Common.{◌≡◌, ◌≢◌, ◌∙◌, ℕ, ◌+◌, ◌<◌, ◌==◌, length, take, get_or, sym, ap, subst, true, false, List, [], ◌∷◌, ◌++◌, refl, arith, append-nil}
use Rattle.std.proofs.lemmas.List.Elements.{filter-append}
use Rattle.std.proofs.lemmas.List.{take_more}
use Rattle.spot_terms.specs.Cells.{Lane}
use Rattle.spot_terms.specs.Participants.{starting, ReachesCells}
use Rattle.spot_terms.specs.declared.scenario.Mover.{Mover}
use Rattle.spot_terms.proofs.ListLemmas.{all_append, pairwise_push}
use Rattle.participants.specs.declared.participant.Participant.{Participant}
use Rattle.participants.specs.Outsets.{AreGathered, IsHolding}
use Rattle.participants.specs.Predictions.{IsSmallIn}
use Rattle.participants.proofs.OneNumber.{pairs_push}
use Rattle.participants.proofs.PieceLists.{polygons_count}
use Rattle.spot_terms.proofs.Orders.{zero_true, not_zero_false}

-- one more obstacle that starts at time 0
pub starting_more : (ms : List Mover) (m : Mover) → m.time ≡ 0 → starting (ms ++ m ∷ []) ≡ starting ms ++ m ∷ []
starting_more ms m h = let t : (m.time == 0) ≡ true = zero_true m.time h in filter-append (λ (x : Mover). x.time == 0) ms (m ∷ []) ∙ rw t refl

-- one more obstacle that doesn't
pub starting_same : (ms : List Mover) (m : Mover) → m.time ≢ 0 → starting (ms ++ m ∷ []) ≡ starting ms
starting_same ms m h = let t : (m.time == 0) ≡ false = not_zero_false m.time h in filter-append (λ (x : Mover). x.time == 0) ms (m ∷ []) ∙ rw t (append-nil (starting ms))

taken_longer : (items movers : List Mover) (i : ℕ) (m : Mover) → items ≡ movers → i < length items → m ≡ get_or items i m → take (i + 1) movers ≡ take i movers ++ m ∷ []
taken_longer items movers i m same below item =
    subst (λ (xs : List Mover). take (i + 1) xs ≡ take i xs ++ m ∷ []) same (take_more items i m below ∙ ap (λ (x : Mover). take i items ++ x ∷ []) (sym item))

-- the list is one longer by an obstacle that starts at time 0
starting_longer : (items movers : List Mover) (i : ℕ) (m : Mover) → items ≡ movers → i < length items → m ≡ get_or items i m → m.time ≡ 0
    → starting (take (i + 1) movers) ≡ starting (take i movers) ++ m ∷ []
starting_longer items movers i m same below item zero = ap starting (taken_longer items movers i m same below item) ∙ starting_more (take i movers) m zero

-- one more obstacle, which doesn't start at time 0
pub gathered_same : (lanes : List Lane) (k steps : ℕ) (items movers : List Mover) (i : ℕ) (m : Mover) (pairs : ℕ) (ps : List Participant) → items ≡ movers → i < length items → m ≡ get_or items i m → m.time ≢ 0
    → AreGathered lanes k steps (starting (take i movers)) pairs ps → AreGathered lanes k steps (starting (take (i + 1) movers)) pairs ps
gathered_same lanes k steps items movers i m pairs ps same below item late gathered =
    let longer : starting (take (i + 1) movers) ≡ starting (take i movers) = ap starting (taken_longer items movers i m same below item) ∙ starting_same (take i movers) m late in
    subst (λ (ms : List Mover). AreGathered lanes k steps ms pairs ps) (sym longer) gathered

-- one more obstacle, which is made a participant
pub gathered_more : (lanes : List Lane) (k steps : ℕ) (items movers : List Mover) (i : ℕ) (m : Mover) (pairs count : ℕ) (ps : List Participant) (p : Participant) → items ≡ movers → i < length items → m ≡ get_or items i m → m.time ≡ 0
    → AreGathered lanes k steps (starting (take i movers)) pairs ps → ReachesCells lanes k steps m count → IsHolding lanes k steps m p
    → AreGathered lanes k steps (starting (take (i + 1) movers)) (pairs + count) (ps ++ p ∷ [])
gathered_more lanes k steps items movers i m pairs count ps p same below item zero gathered reaches holding =
    let made : AreGathered lanes k steps (starting (take i movers) ++ m ∷ []) (pairs + count) (ps ++ p ∷ []) = record {
      sum = pairs_push lanes k steps (starting (take i movers)) m pairs count gathered.sum reaches;
      few = λ h. pairwise_push (IsHolding lanes k steps) (starting (take i movers)) ps m p (gathered.few (omega arith)) holding;
      small = λ h. all_append (IsSmallIn steps) ps (p ∷ []) (gathered.small (omega arith))
          (record { octagons = holding.octagons; few = (let n = polygons_count lanes k steps m p count holding.participant reaches in omega (arith, n, h)) }, tt);
    } in
    subst (λ (ms : List Mover). AreGathered lanes k steps ms (pairs + count) (ps ++ p ∷ [])) (sym (starting_longer items movers i m same below item zero)) made

-- one more obstacle, with which there are too many pairs
pub gathered_full : (lanes : List Lane) (k steps : ℕ) (items movers : List Mover) (i : ℕ) (m : Mover) (pairs count : ℕ) (ps : List Participant) → items ≡ movers → i < length items → m ≡ get_or items i m → m.time ≡ 0
    → AreGathered lanes k steps (starting (take i movers)) pairs ps → ReachesCells lanes k steps m count → 262_144 < pairs + count
    → AreGathered lanes k steps (starting (take (i + 1) movers)) (pairs + count) ps
gathered_full lanes k steps items movers i m pairs count ps same below item zero gathered reaches many =
    let made : AreGathered lanes k steps (starting (take i movers) ++ m ∷ []) (pairs + count) ps = record {
      sum = pairs_push lanes k steps (starting (take i movers)) m pairs count gathered.sum reaches;
      few = λ h. absurd (omega arith);
      small = λ h. absurd (omega arith);
    } in
    subst (λ (ms : List Mover). AreGathered lanes k steps ms (pairs + count) ps) (sym (starting_longer items movers i m same below item zero)) made
