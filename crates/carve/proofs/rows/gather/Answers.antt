use Rattle.std.proofs.Common.{rules, ◌≡◌, ◌∙◌, ℕ, ℤ, ◌+◌, ◌<◌, ◌≤◌, ◌≤ℤ◌, arith, refl, sym, ap, subst, to_z, of_z, to_z-of_z, FitsSigned, w64, length, length-append, vec_capacity, List, [], ◌∷◌, ◌++◌, sum_by, pos, ◌<ℤ◌}
use Rattle.std.specs.Prelude.{◌↔◌}
use Rattle.std.proofs.lemmas.Int.{ints}
use Rattle.spot_terms.specs.Lists.{numbers_below}
use Rattle.spot_terms.specs.RowBoxes.{slots_shared}
use Rattle.convex_poly.specs.Runs.{IsSpanOf}
use Rattle.carve.specs.Taking.{IsTaken, AreSpans, span_at, nowhere}
use Rattle.carve.specs.declared.runs.Span.{Span}
use Rattle.spot_terms.proofs.Sums.{sum_next}
use Rattle.carve.proofs.RowCounts.{shared_once}
use Rattle.carve.proofs.RowPlaces.{alike}
use Rattle.carve.proofs.Gathers.{Gathers, nothing_gathered, gather_miss, gather_hit, sorted_exact, sorted_spans, in_order}
use Rattle.carve.proofs.rows.gather.Goals as goal
use Rattle.carve.proofs.rows.gather.Goals.{in-Some, in_default}

none_yet : (spans : List Span) (n : ℕ) → spans ≡ [] → length spans ≤ n
none_yet spans n e = rw e (omega arith)

pub loop-piece-init : goal.loop-piece-init
loop-piece-init g c = record { gathers = nothing_gathered _ _ 0 _ refl c.clear.ensures.items; met = none_yet _ _ c.clear.ensures.items; capacity = omega (arith, c.clear.ensures.capacity) }

pub push_span-requires : goal.push_span-requires
push_span-requires g c = let few = c.loop-piece.invariant.gathers.few in omega (arith, few, c.loop-piece.invariant.capacity, c.requires.room, c.pieces-piece-end.ensures)

hit : (I J : ℕ → ℤ → Type 0) (n : ℕ) (spans more : List Span) (s : Span) → Gathers I J n spans → IsSpanOf (λ x. I n x × J n x) (s.first, s.last) → more ≡ spans ++ s ∷ [] → Gathers I J (n + 1) more
hit I J n spans more s h span e = subst (λ (l : List Span). Gathers I J (n + 1) l) (sym e) (gather_hit I J n spans h s span.ordered span.exact)

miss : (I J : ℕ → ℤ → Type 0) (n : ℕ) (spans more : List Span) → Gathers I J n spans → ((x : ℤ) → I n x × J n x → ⊥) → more ≡ spans → Gathers I J (n + 1) more
miss I J n spans more h none e = subst (λ (l : List Span). Gathers I J (n + 1) l) (sym e) (gather_miss I J n spans h none)

-- a span more, of a piece that meets the row
met_hit : (g low high : ℤ) (range : ℕ → ℤ × ℤ) (n : ℕ) (spans more : List Span) (s : Span) → pos 0 <ℤ g → low ≤ℤ high → (range n).0 ≤ℤ low → high ≤ℤ (range n).1 → more ≡ spans ++ s ∷ []
    → length spans ≤ sum_by (λ p. slots_shared g (range p) (low, high)) (numbers_below n) → length more ≤ sum_by (λ p. slots_shared g (range p) (low, high)) (numbers_below (n + 1))
met_hit g low high range n spans more s wide order a b e h =
    let one = shared_once g low high (range n) wide order a b in
    let sum = sum_next (λ p. slots_shared g (range p) (low, high)) n (n + 1) refl in
    rw (e, length-append) (omega (arith, one, sum, h))

met_miss : (g low high : ℤ) (range : ℕ → ℤ × ℤ) (n : ℕ) (spans more : List Span) → more ≡ spans → length spans ≤ sum_by (λ p. slots_shared g (range p) (low, high)) (numbers_below n)
    → length more ≤ sum_by (λ p. slots_shared g (range p) (low, high)) (numbers_below (n + 1))
met_miss g low high range n spans more e h =
    let sum = sum_next (λ p. slots_shared g (range p) (low, high)) n (n + 1) refl in
    let long : length more ≡ length spans = ap length e in
    omega (arith, sum, long, h)

pub loop-piece-preserved : goal.loop-piece-preserved
loop-piece-preserved g c =
    let fits_g : FitsSigned w64 c.args.g = c.ranges.g in
    let range : ℕ → ℤ × ℤ = λ p. g.O.Occupied.range c.args.o.now c.args.step p in
    let fits_low : FitsSigned w64 c.args.low = c.ranges.low in
    let fits_high : FitsSigned w64 c.args.high = c.ranges.high in
    let I : ℕ → ℤ → Type 0 = λ p x. g.O.Occupied.hits c.args.o.now c.args.step p (record { x = x; y = c.args.low }) in
    let J : ℕ → ℤ → Type 0 = λ p x. g.O.Occupied.hits c.args.o.now c.args.step p (record { x = x; y = c.args.high }) in
    let inv : Gathers I J c.loop-piece.piece c.loop-piece.spans.items = simp to_z-of_z at c.loop-piece.invariant.gathers in
    let same_g : to_z w64 (of_z w64 c.args.g) ≡ c.args.g = to_z-of_z fits_g in
    let same_low : to_z w64 (of_z w64 c.args.low) ≡ c.args.low = to_z-of_z fits_low in
    let same_high : to_z w64 (of_z w64 c.args.high) ≡ c.args.high = to_z-of_z fits_high in
    let met_so_far : length c.loop-piece.spans.items ≤ sum_by (λ p. slots_shared c.args.g (range p) (c.args.low, c.args.high)) (numbers_below c.loop-piece.piece) =
    alike range _ _ _ _ _ _ _ _ same_g same_low same_high c.loop-piece.invariant.met in
    elim c.match-run_across.branch [
      | in-Some w ↦
          let span : IsSpanOf (λ x. I c.loop-piece.piece x × J c.loop-piece.piece x) (w.in-Some.first, w.in-Some.last) = simp to_z-of_z at w.in-Some.ensures.run in
          let reach : ((range c.loop-piece.piece).0 ≤ℤ c.args.low) × (c.args.high ≤ℤ (range c.loop-piece.piece).1) = simp to_z-of_z at w.in-Some.ensures.met in
          let pushed : w.push_span.new.spans.items ≡ c.loop-piece.spans.items ++ record { first = w.in-Some.first; last = w.in-Some.last } ∷ [] = search (rules, w.push_span.ensures.items) in
          record {
            met = alike range _ _ _ _ _ _ _ _ (sym same_g) (sym same_low) (sym same_high) (met_hit c.args.g c.args.low c.args.high range c.loop-piece.piece c.loop-piece.spans.items c.match-run_across.spans.items (record { first = w.in-Some.first; last = w.in-Some.last })
                (let k = c.requires.height.low in omega (arith, ints)) c.requires.ordered reach.0 reach.1 (ap (λ v. v.items) w.spans-is ∙ pushed) met_so_far);
            gathers = simp to_z-of_z (hit I J c.loop-piece.piece c.loop-piece.spans.items c.match-run_across.spans.items (record { first = w.in-Some.first; last = w.in-Some.last }) inv span (ap (λ v. v.items) w.spans-is ∙ pushed));
            capacity = omega (arith, c.loop-piece.invariant.capacity, w.push_span.ensures.capacity, ap vec_capacity w.spans-is);
          }
      | in_default w ↦
          let none : (x : ℤ) → I c.loop-piece.piece x × J c.loop-piece.piece x → ⊥ = simp to_z-of_z at w.in_default.ensures.run in
          record {
            met = alike range _ _ _ _ _ _ _ _ (sym same_g) (sym same_low) (sym same_high) (met_miss c.args.g c.args.low c.args.high range c.loop-piece.piece c.loop-piece.spans.items c.match-run_across.spans.items (ap (λ v. v.items) w.spans-is) met_so_far);
            gathers = simp to_z-of_z (miss I J c.loop-piece.piece c.loop-piece.spans.items c.match-run_across.spans.items inv none (ap (λ v. v.items) w.spans-is));
            capacity = omega (arith, c.loop-piece.invariant.capacity, ap vec_capacity w.spans-is);
          }
    ]

at_end : (I J : ℕ → ℤ → Type 0) (n m : ℕ) (xs : List Span) → Gathers I J n xs → n ≡ m → Gathers I J m xs
at_end I J n m xs h e = subst (λ (k : ℕ). Gathers I J k xs) e h

then_sorted : (A : ℤ → Type 0) (xs ys : List Span) → ((x : ℤ) → A x ↔ IsTaken xs x) → ((x : ℤ) → IsTaken xs x ↔ IsTaken ys x) → (x : ℤ) → A x ↔ IsTaken ys x
then_sorted A xs ys a b x = (λ h. (b x).0 ((a x).0 h), λ t. (a x).1 ((b x).1 t))

pub returns-clause-exact : goal.returns-clause-exact
returns-clause-exact g c =
    let fits_low : FitsSigned w64 c.args.low = c.ranges.low in
    let fits_high : FitsSigned w64 c.args.high = c.ranges.high in
    let I : ℕ → ℤ → Type 0 = λ p x. g.O.Occupied.hits c.args.o.now c.args.step p (record { x = x; y = c.args.low }) in
    let J : ℕ → ℤ → Type 0 = λ p x. g.O.Occupied.hits c.args.o.now c.args.step p (record { x = x; y = c.args.high }) in
    let inv : Gathers I J c.loop-piece.piece c.loop-piece.spans.items = simp to_z-of_z at c.loop-piece.invariant.gathers in
    let end : c.loop-piece.piece ≡ g.O.Occupied.count c.args.o.now c.args.step = omega (arith, c.loop-piece-test.false, c.loop-piece.auto.piece-end, c.pieces-piece-end.ensures) in
    then_sorted (λ x. (p : ℕ) × (p < g.O.Occupied.count c.args.o.now c.args.step) × I p x × J p x) c.loop-piece.spans.items c.sort_unstable.new.self.items (at_end I J _ _ _ inv end).exact (sorted_exact _ _ c.sort_unstable.ensures.permutation)

pub returns-clause-spans : goal.returns-clause-spans
returns-clause-spans g c =
    sorted_spans _ _ _ c.loop-piece.spans.items c.sort_unstable.new.self.items c.loop-piece.invariant.gathers c.sort_unstable.ensures.permutation
    (λ k m. in_order (span_at c.sort_unstable.new.self.items (k + 1)) (span_at c.sort_unstable.new.self.items k) (c.sort_unstable.ensures.sorted k nowhere (omega arith) m))

few_at_end : (n m : ℕ) (f : ℕ → ℕ) (a b : ℕ) → n ≡ m → a ≤ sum_by f (numbers_below n) → b ≡ a → b ≤ sum_by f (numbers_below m)
few_at_end n m f a b e h k = subst (λ (z : ℕ). b ≤ sum_by f (numbers_below z)) e (omega (arith, h, k))

pub returns-clause-met : goal.returns-clause-met
returns-clause-met g c =
    let fits_low : FitsSigned w64 c.args.low = c.ranges.low in
    let fits_high : FitsSigned w64 c.args.high = c.ranges.high in
    let fits_g : FitsSigned w64 c.args.g = c.ranges.g in
    let range : ℕ → ℤ × ℤ = λ p. g.O.Occupied.range c.args.o.now c.args.step p in
    let met = c.loop-piece.invariant.met in
    let end : c.loop-piece.piece ≡ g.O.Occupied.count c.args.o.now c.args.step = omega (arith, c.loop-piece-test.false, c.loop-piece.auto.piece-end, c.pieces-piece-end.ensures) in
    let long : length c.sort_unstable.new.self.items ≡ length c.loop-piece.spans.items = omega (arith, c.sort_unstable.ensures.len) in
    alike range _ _ _ _ _ _ _ _ (to_z-of_z fits_g) (to_z-of_z fits_low) (to_z-of_z fits_high) (few_at_end _ _ (λ p. slots_shared (to_z w64 (of_z w64 c.args.g)) (range p) (to_z w64 (of_z w64 c.args.low), to_z w64 (of_z w64 c.args.high))) _ _ end met long)

pub returns-clause-few : goal.returns-clause-few
returns-clause-few g c = let few = c.loop-piece.invariant.gathers.few in omega (arith, few, c.loop-piece-test.false, c.loop-piece.auto.piece-end, c.pieces-piece-end.ensures, c.sort_unstable.ensures.len)
