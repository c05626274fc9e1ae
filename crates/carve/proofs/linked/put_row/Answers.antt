use Rattle.std.proofs.Common.{rules, ◌≡◌, ◌∙◌, ◌≤◌, ◌+◌, ℤ, pos, ◌≤ℤ◌, ◌<ℤ◌, arith, refl, subst, to_z, of_z, to_z-of_z, FitsSigned, w64, length, length-append, List, [], ◌∷◌, ◌++◌}
use Rattle.std.proofs.lemmas.Int.{ints}
use Rattle.spot_terms.specs.Grid.{slot_low, slot_high}
use Rattle.spot_terms.specs.Whole.{Within}
use Rattle.spot_terms.proofs.ItemPlaces.{item_at}
use Rattle.carve.specs.Ranges.{HitsAmong}
use Rattle.carve.specs.declared.linked.Link.{Link}
use Rattle.carve.proofs.Linking.{across, not_across, others_kept, row_hit, row_missed}
use Rattle.carve.proofs.linked.put_row.Goals as goal

positive : (g : ℤ) → Within (pos 100_000) (pos 100_000_000) g → pos 0 <ℤ g
positive g h = let k = h.low in omega (arith, ints)

in_order : (g row low high : ℤ) → Within (pos 100_000) (pos 100_000_000) g → low ≡ slot_low g row → high ≡ slot_high g row → low ≤ℤ high
in_order g row low high w a b = let k = w.low in omega (arith, ints)

pub run_among-requires-clause-ordered : goal.run_among-requires-clause-ordered
run_among-requires-clause-ordered g c =
    let fits_row : FitsSigned w64 c.args.row = c.ranges.row in
    let fits_g : FitsSigned w64 c.args.g = c.ranges.g in
    let read_low : to_z w64 (of_z w64 c.row_ends-low.result.0) ≡ c.row_ends-low.result.0 = search rules in
    let read_high : to_z w64 (of_z w64 c.row_ends-low.result.1) ≡ c.row_ends-low.result.1 = search rules in
    let low : c.row_ends-low.result.0 ≡ slot_low c.args.g c.args.row = simp to_z-of_z at c.row_ends-low.ensures.low in
    let high : c.row_ends-low.result.1 ≡ slot_high c.args.g c.args.row = simp to_z-of_z at c.row_ends-low.ensures.high in
    rw (read_low, read_high) (in_order c.args.g c.args.row c.row_ends-low.result.0 c.row_ends-low.result.1 c.requires.height low high)

longer : (old new : List Link) (l : Link) → new ≡ old ++ l ∷ [] → length new ≤ length old + 1
longer old new l e = rw (e, length-append) (omega arith)

pub returns-in-Some-clause-has : goal.returns-in-Some-clause-has
returns-in-Some-clause-has g c =
    let hits = HitsAmong c.args.columns.now.first c.args.columns.now.last (g.O.Occupied.hits c.args.o.now c.args.step) in
    let range = g.O.Occupied.range c.args.o.now c.args.step in
    let fits_row : FitsSigned w64 c.args.row = c.ranges.row in
    let fits_g : FitsSigned w64 c.args.g = c.ranges.g in
    let read_low : to_z w64 (of_z w64 c.row_ends-low.result.0) ≡ c.row_ends-low.result.0 = search rules in
    let read_high : to_z w64 (of_z w64 c.row_ends-low.result.1) ≡ c.row_ends-low.result.1 = search rules in
    let low : c.row_ends-low.result.0 ≡ slot_low c.args.g c.args.row = simp to_z-of_z at c.row_ends-low.ensures.low in
    let high : c.row_ends-low.result.1 ≡ slot_high c.args.g c.args.row = simp to_z-of_z at c.row_ends-low.ensures.high in
    let wide : pos 0 <ℤ c.args.g = positive c.args.g c.requires.height in
    let span = across hits range c.args.g wide c.args.piece c.args.row _ _ c.in-Some.first c.in-Some.last (read_low ∙ low) (read_high ∙ high) c.in-Some.ensures.run in
    let bottom : (range c.args.piece).0 ≤ℤ slot_low c.args.g c.args.row = subst (λ (z : ℤ). (range c.args.piece).0 ≤ℤ z) (read_low ∙ low) c.in-Some.ensures.met.0 in
    let top : slot_high c.args.g c.args.row ≤ℤ (range c.args.piece).1 = subst (λ (z : ℤ). z ≤ℤ (range c.args.piece).1) (read_high ∙ high) c.in-Some.ensures.met.1 in
    let (next, here) = item_at c.args.heads.now c.args.j c.requires.row in
    row_hit hits range c.args.g wide c.args.heads.now c.link_span.new.heads c.args.links.now.items c.link_span.new.links.items c.args.piece c.args.j c.args.row
    (record { first = c.in-Some.first; last = c.in-Some.last }) next c.requires.row here c.link_span.ensures.heads (search (rules, c.link_span.ensures.links next here)) bottom top span.ordered span.exact c.requires.has

pub returns-in-Some-clause-others : goal.returns-in-Some-clause-others
returns-in-Some-clause-others g c =
    let (next, here) = item_at c.args.heads.now c.args.j c.requires.row in
    others_kept c.args.heads.now c.link_span.new.heads c.args.links.now.items c.link_span.new.links.items c.args.j _ next c.requires.row here c.link_span.ensures.heads (c.link_span.ensures.links next here)

pub returns-in_default-clause-has : goal.returns-in_default-clause-has
returns-in_default-clause-has g c =
    let hits = HitsAmong c.args.columns.now.first c.args.columns.now.last (g.O.Occupied.hits c.args.o.now c.args.step) in
    let range = g.O.Occupied.range c.args.o.now c.args.step in
    let fits_row : FitsSigned w64 c.args.row = c.ranges.row in
    let fits_g : FitsSigned w64 c.args.g = c.ranges.g in
    let read_low : to_z w64 (of_z w64 c.row_ends-low.result.0) ≡ c.row_ends-low.result.0 = search rules in
    let read_high : to_z w64 (of_z w64 c.row_ends-low.result.1) ≡ c.row_ends-low.result.1 = search rules in
    let low : c.row_ends-low.result.0 ≡ slot_low c.args.g c.args.row = simp to_z-of_z at c.row_ends-low.ensures.low in
    let high : c.row_ends-low.result.1 ≡ slot_high c.args.g c.args.row = simp to_z-of_z at c.row_ends-low.ensures.high in
    let wide : pos 0 <ℤ c.args.g = positive c.args.g c.requires.height in
    row_missed hits range c.args.g wide c.args.heads.now c.args.heads.now c.args.links.now.items c.args.links.now.items c.args.piece c.args.j c.args.row
    (not_across hits range c.args.g wide c.args.piece c.args.row _ _ (read_low ∙ low) (read_high ∙ high) c.in_default.ensures.run) refl refl c.requires.has

pub returns-in-Some-clause-few : goal.returns-in-Some-clause-few
returns-in-Some-clause-few g c =
    let (next, here) = item_at c.args.heads.now c.args.j c.requires.row in
    longer c.args.links.now.items c.link_span.new.links.items _ (c.link_span.ensures.links next here)
