use Rattle.std.proofs.Common.{rules, ◌≡◌, ◌∙◌, ◌<◌, ◌≤◌, ◌+◌, ◌-◌, ℕ, ℤ, pos, ◌<ℤ◌, arith, refl, sym, ap, subst, length, List, [], Option, Some, sum_by, vec_capacity, w64, to_z, of_z, to_z-of_z, FitsSigned}
use Rattle.std.proofs.lemmas.Int.{ints}
use Rattle.spot_terms.specs.Grid.{slot}
use Rattle.spot_terms.specs.Lists.{numbers_below}
use Rattle.spot_terms.specs.RowBoxes.{slots_shared}
use Rattle.spot_terms.specs.Whole.{Within}
use Rattle.spot_terms.specs.declared.plain.Pt.{Pt}
use Rattle.spot_terms.proofs.Sums.{sum_next}
use Rattle.carve.specs.Linked.{AreRowsTaken}
use Rattle.carve.specs.Ranges.{AreBeside, HitsAmong, IsRange}
use Rattle.carve.specs.declared.linked.Link.{Link}
use Rattle.carve.proofs.Linking.{none_taken, piece_missed, pieces_missed, sum_rises}
use Rattle.carve.proofs.linked.put_pieces.Goals as goal
use Rattle.carve.proofs.linked.put_pieces.Goals.{in-Some, in_default}

positive : (g : ℤ) → Within (pos 100_000) (pos 100_000_000) g → pos 0 <ℤ g
positive g h = let k = h.low in omega (arith, ints)

-- the rows that a piece meets fit into the room for all
rows_fit : (f : ℕ → ℕ) (n count links met room fits : ℕ) → n < count → met ≡ f n → links ≤ sum_by f (numbers_below n) → sum_by f (numbers_below count) ≤ room → room ≤ fits → links + met ≤ fits
rows_fit f n count links met room fits less e few all h =
    let next = sum_next f n (n + 1) refl in
    let rise = sum_rises f (n + 1) (count - (n + 1)) count (omega (arith, less)) in
    omega (arith, e, few, all, h, next, rise)

few_more : (f : ℕ → ℕ) (n links longer met : ℕ) → met ≡ f n → links ≤ sum_by f (numbers_below n) → longer ≤ links + met → longer ≤ sum_by f (numbers_below (n + 1))
few_more f n links longer met e few h = let next = sum_next f n (n + 1) refl in omega (arith, e, few, h, next)

few_same : (f : ℕ → ℕ) (n links same : ℕ) → links ≤ sum_by f (numbers_below n) → same ≡ links → same ≤ sum_by f (numbers_below (n + 1))
few_same f n links same few e = let next = sum_next f n (n + 1) refl in omega (arith, few, e, next)

pub put_piece-requires-clause-room : goal.put_piece-requires-clause-room
put_piece-requires-clause-room g c =
    let range : ℕ → ℤ × ℤ = λ p. g.O.Occupied.range c.args.o.now c.args.step p in
    let is : IsRange (range c.loop-piece.piece) (Some (c.in-Some.low, c.in-Some.high)) = c.in-Some.ensures in
    let read_low : to_z w64 (of_z w64 c.in-Some.low) ≡ c.in-Some.low = search rules in
    let read_high : to_z w64 (of_z w64 c.in-Some.high) ≡ c.in-Some.high = search rules in
    let f : ℕ → ℕ = λ p. slots_shared c.args.grid.now.g (range p) (c.args.b.now.ylo, c.args.b.now.yhi) in
    rows_fit f c.loop-piece.piece (g.O.Occupied.count c.args.o.now c.args.step) _ _ _ _ (omega (arith, c.loop-piece-test.true, c.pieces-count.ensures))
    (ap (λ (z : ℤ). slots_shared c.args.grid.now.g (z, to_z w64 (of_z w64 c.in-Some.high)) (c.args.b.now.ylo, c.args.b.now.yhi)) read_low
    ∙ ap (λ (z : ℤ). slots_shared c.args.grid.now.g (c.in-Some.low, z) (c.args.b.now.ylo, c.args.b.now.yhi)) read_high
    ∙ ap (λ (s : ℤ × ℤ). slots_shared c.args.grid.now.g s (c.args.b.now.ylo, c.args.b.now.yhi)) is.1)
    c.loop-piece.invariant.few c.requires.room c.loop-piece.invariant.capacity

-- pieces that are beside the columns take nothing away
abbrev Passed : (ℕ → Pt → Type 0) → (ℕ → ℤ × ℤ) → ℤ → ℤ → (ℕ → ℕ) → List (Option ℕ) → List Link → List (Option ℕ) → ℕ → Type 0
Passed hits range g first f old links heads n = AreRowsTaken hits range g first heads links n × (length heads ≡ length old) × (length links ≤ sum_by f (numbers_below n))

passed_on : (hits : ℕ → Pt → Type 0) (left right : ℤ) (range : ℕ → ℤ × ℤ) (g first : ℤ) (wide : pos 0 <ℤ g) (f : ℕ → ℕ) (old : List (Option ℕ)) (links : List Link) (heads : List (Option ℕ)) (n m : ℕ) → n ≤ m → AreBeside hits left right n m
    → Passed (HitsAmong left right hits) range g first f old links heads n → Passed (HitsAmong left right hits) range g first f old links heads m
passed_on hits left right range g first wide f old links heads n m h beside p = (
  pieces_missed (HitsAmong left right hits) range g wide first heads links n (m - n) m (omega (arith, h)) (λ i q a b k. beside i q a b k.0 k.1) p.0,
  p.1,
  (let a = p.2 in let b = sum_rises f n (m - n) m (omega (arith, h)) in omega (arith, a, b)),
)

pub loop-piece-preserved : goal.loop-piece-preserved
loop-piece-preserved g c =
    let hits = HitsAmong c.args.columns.now.first c.args.columns.now.last (g.O.Occupied.hits c.args.o.now c.args.step) in
    let range : ℕ → ℤ × ℤ = λ p. g.O.Occupied.range c.args.o.now c.args.step p in
    let wide : pos 0 <ℤ c.args.grid.now.g = positive _ c.requires.grid.g in
    let first : ℤ = slot c.args.grid.now.g c.args.b.now.ylo in
    let f : ℕ → ℕ = λ p. slots_shared c.args.grid.now.g (range p) (c.args.b.now.ylo, c.args.b.now.yhi) in
    let fits_left : FitsSigned w64 c.args.columns.now.first = search rules in
    let fits_right : FitsSigned w64 c.args.columns.now.last = search rules in
    let here : Passed hits range c.args.grid.now.g first f c.args.heads.now c.match-span.links.items c.match-span.heads (c.loop-piece.piece + 1) = elim c.match-span.branch [
      | in-Some w ↦
          let is : IsRange (range c.loop-piece.piece) (Some (w.in-Some.low, w.in-Some.high)) = w.in-Some.ensures in
          let read_low : to_z w64 (of_z w64 w.in-Some.low) ≡ w.in-Some.low = search rules in
          let read_high : to_z w64 (of_z w64 w.in-Some.high) ≡ w.in-Some.high = search rules in
          let met = ap (λ (z : ℤ). slots_shared c.args.grid.now.g (z, to_z w64 (of_z w64 w.in-Some.high)) (c.args.b.now.ylo, c.args.b.now.yhi)) read_low
          ∙ ap (λ (z : ℤ). slots_shared c.args.grid.now.g (w.in-Some.low, z) (c.args.b.now.ylo, c.args.b.now.yhi)) read_high
          ∙ ap (λ (s : ℤ × ℤ). slots_shared c.args.grid.now.g s (c.args.b.now.ylo, c.args.b.now.yhi)) is.1 in
          let links : length c.match-span.links.items ≡ length w.put_piece.new.links.items = ap (λ v. length v.items) w.links-is in
          let few = few_more f c.loop-piece.piece (length c.loop-piece.links.items) (length w.put_piece.new.links.items) _ met c.loop-piece.invariant.few w.put_piece.ensures.few in (
            subst (λ (hs : List (Option ℕ)). AreRowsTaken hits range c.args.grid.now.g first hs c.match-span.links.items (c.loop-piece.piece + 1)) (sym w.heads-is)
                (subst (λ (ls : List Link). AreRowsTaken hits range c.args.grid.now.g first w.put_piece.new.heads ls (c.loop-piece.piece + 1)) (sym (ap (λ v. v.items) w.links-is)) w.put_piece.ensures.taken),
            ap length w.heads-is ∙ w.put_piece.ensures.count ∙ c.loop-piece.invariant.count,
            omega (arith, few, links),
          )
      | in_default w ↦ (
        piece_missed hits range c.args.grid.now.g wide first c.loop-piece.heads c.match-span.heads c.loop-piece.links.items c.match-span.links.items c.loop-piece.piece
            (λ q h. g.met.O.Occupied.in_range c.args.o.now c.args.step c.loop-piece.piece q h.0) w.in_default.ensures w.heads-is (ap (λ v. v.items) w.links-is) c.loop-piece.invariant.taken,
        ap length w.heads-is ∙ c.loop-piece.invariant.count,
        few_same f c.loop-piece.piece (length c.loop-piece.links.items) (length c.match-span.links.items) c.loop-piece.invariant.few (ap (λ v. length v.items) w.links-is),
      )
    ] in
    let beside : AreBeside (g.O.Occupied.hits c.args.o.now c.args.step) c.args.columns.now.first c.args.columns.now.last (c.loop-piece.piece + 1) c.next-piece-in-loop-piece.result = simp to_z-of_z at c.next-piece-in-loop-piece.ensures.beside in
    let all = passed_on (g.O.Occupied.hits c.args.o.now c.args.step) c.args.columns.now.first c.args.columns.now.last range c.args.grid.now.g first wide f c.args.heads.now c.match-span.links.items c.match-span.heads (c.loop-piece.piece + 1) c.next-piece-in-loop-piece.result c.next-piece-in-loop-piece.ensures.from beside here in
    let room : vec_capacity c.args.links.now ≤ vec_capacity c.match-span.links = elim c.match-span.branch [
      | in-Some w ↦ omega (arith, c.loop-piece.invariant.capacity, w.put_piece.ensures.capacity, ap vec_capacity w.links-is)
      | in_default w ↦ omega (arith, c.loop-piece.invariant.capacity, ap vec_capacity w.links-is)
    ] in
    record { taken = all.0; within = c.next-piece-in-loop-piece.ensures.within; count = all.1; few = all.2; capacity = room }

none_linked : (links : List Link) (n : ℕ) → links ≡ [] → length links ≤ n
none_linked links n e = rw e (omega arith)

pub loop-piece-init : goal.loop-piece-init
loop-piece-init g c =
    let hits = HitsAmong c.args.columns.now.first c.args.columns.now.last (g.O.Occupied.hits c.args.o.now c.args.step) in
    let range : ℕ → ℤ × ℤ = λ p. g.O.Occupied.range c.args.o.now c.args.step p in
    let wide : pos 0 <ℤ c.args.grid.now.g = positive _ c.requires.grid.g in
    let first : ℤ = slot c.args.grid.now.g c.args.b.now.ylo in
    let f : ℕ → ℕ = λ p. slots_shared c.args.grid.now.g (range p) (c.args.b.now.ylo, c.args.b.now.yhi) in
    let fits_left : FitsSigned w64 c.args.columns.now.first = search rules in
    let fits_right : FitsSigned w64 c.args.columns.now.last = search rules in
    let beside : AreBeside (g.O.Occupied.hits c.args.o.now c.args.step) c.args.columns.now.first c.args.columns.now.last 0 c.next-piece.result = simp to_z-of_z at c.next-piece.ensures.beside in
    let all = passed_on (g.O.Occupied.hits c.args.o.now c.args.step) c.args.columns.now.first c.args.columns.now.last range c.args.grid.now.g first wide f c.args.heads.now c.args.links.now.items c.args.heads.now 0 c.next-piece.result (omega arith) beside
    (none_taken hits range c.args.grid.now.g wide first c.args.heads.now c.args.links.now.items c.requires.none, refl, none_linked c.args.links.now.items _ c.requires.empty) in
    record { taken = all.0; within = c.next-piece.ensures.within; count = all.1; few = all.2; capacity = omega arith }

pub returns-clause-taken : goal.returns-clause-taken
returns-clause-taken g c =
    let hits = HitsAmong c.args.columns.now.first c.args.columns.now.last (g.O.Occupied.hits c.args.o.now c.args.step) in
    let end : c.loop-piece.piece ≡ g.O.Occupied.count c.args.o.now c.args.step = omega (arith, c.loop-piece-test.false, c.loop-piece.invariant.within, c.pieces-count.ensures) in
    subst (λ (n : ℕ). AreRowsTaken hits (g.O.Occupied.range c.args.o.now c.args.step) c.args.grid.now.g (slot c.args.grid.now.g c.args.b.now.ylo) c.loop-piece.heads c.loop-piece.links.items n) end c.loop-piece.invariant.taken
