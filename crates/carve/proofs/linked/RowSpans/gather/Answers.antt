use Rattle.std.proofs.Common.{rules, ◌≡◌, ◌∙◌, ℕ, ℤ, pos, ◌<ℤ◌, arith, sym, ap, subst, length, List, Option}
use Rattle.std.proofs.lemmas.Int.{ints}
use Rattle.spot_terms.specs.Grid.{slot, slot_high, slot_low}
use Rattle.spot_terms.specs.Whole.{Within}
use Rattle.spot_terms.proofs.ItemPlaces.{written}
use Rattle.carve.specs.Linked.{AreRowsTaken, HaveSpans}
use Rattle.carve.specs.Ranges.{HitsAmong}
use Rattle.carve.proofs.Linking.{have_spans}
use Rattle.carve.proofs.linked.RowSpans.gather.Goals as goal

positive : (g : ℤ) → Within (pos 100_000) (pos 100_000_000) g → pos 0 <ℤ g
positive g h = let k = h.low in omega (arith, ints)

pub put_pieces-requires-clause-room : goal.put_pieces-requires-clause-room
put_pieces-requires-clause-room g c =
    let room : c.self.inside.room ≡ c.args.self.now.room = ap (λ r. r.room) c.self.view_is in
    omega (arith, c.requires.room, c.self.invariant.1, c.clear.ensures.capacity, room)

pub invariant_of-self : goal.invariant_of-self
invariant_of-self g c =
    let same = written c.clear_heads.new.heads.len c.put_pieces.new.heads c.clear_heads.new.heads.items c.clear_heads.new.heads.ok.0 (c.put_pieces.ensures.count ∙ ap length c.deref_mut.ensures.value) in (
      omega (arith, c.self.invariant.0, c.clear_heads.ensures.capacity),
      omega (arith, c.self.invariant.1, c.clear.ensures.capacity, c.put_pieces.ensures.capacity),
      subst (λ (hs : List (Option ℕ)). HaveSpans c.pieces-self-inside.result hs c.put_pieces.new.links.items) (sym same)
          (subst (λ (n : ℕ). HaveSpans n c.put_pieces.new.heads c.put_pieces.new.links.items) (sym c.pieces-self-inside.ensures)
          (have_spans (HitsAmong c.columns_of-columns.result.first c.columns_of-columns.result.last (g.O.Occupied.hits c.args.o.now c.args.step)) (g.O.Occupied.range c.args.o.now c.args.step) c.args.grid.now.g (positive _ c.requires.grid.g) (slot c.args.grid.now.g c.args.b.now.ylo)
          c.put_pieces.new.heads c.put_pieces.new.links.items (g.O.Occupied.count c.args.o.now c.args.step) c.put_pieces.ensures.taken)),
    )

-- the columns are those of the box
pub returns-clause-taken : goal.returns-clause-taken
returns-clause-taken g c =
    let same = written c.clear_heads.new.heads.len c.put_pieces.new.heads c.clear_heads.new.heads.items c.clear_heads.new.heads.ok.0 (c.put_pieces.ensures.count ∙ ap length c.deref_mut.ensures.value) in
    let hits = g.O.Occupied.hits c.args.o.now c.args.step in
    let range = g.O.Occupied.range c.args.o.now c.args.step in
    let first : ℤ = slot c.args.grid.now.g c.args.b.now.ylo in
    subst (λ (hs : List (Option ℕ)). AreRowsTaken (HitsAmong (slot_low c.args.grid.now.w (slot c.args.grid.now.w c.args.b.now.xlo)) (slot_high c.args.grid.now.w (slot c.args.grid.now.w c.args.b.now.xhi)) hits) range c.args.grid.now.g first hs c.put_pieces.new.links.items (g.O.Occupied.count c.args.o.now c.args.step)) (sym same)
    (subst (λ (z : ℤ). AreRowsTaken (HitsAmong z (slot_high c.args.grid.now.w (slot c.args.grid.now.w c.args.b.now.xhi)) hits) range c.args.grid.now.g first c.put_pieces.new.heads c.put_pieces.new.links.items (g.O.Occupied.count c.args.o.now c.args.step)) c.columns_of-columns.ensures.low
    (subst (λ (z : ℤ). AreRowsTaken (HitsAmong c.columns_of-columns.result.first z hits) range c.args.grid.now.g first c.put_pieces.new.heads c.put_pieces.new.links.items (g.O.Occupied.count c.args.o.now c.args.step)) c.columns_of-columns.ensures.high
    c.put_pieces.ensures.taken))

pub returns-clause-count : goal.returns-clause-count
returns-clause-count g c =
    let same = written c.clear_heads.new.heads.len c.put_pieces.new.heads c.clear_heads.new.heads.items c.clear_heads.new.heads.ok.0 (c.put_pieces.ensures.count ∙ ap length c.deref_mut.ensures.value) in
    ap length same ∙ c.put_pieces.ensures.count ∙ ap length c.deref_mut.ensures.value ∙ c.clear_heads.ensures.count ∙ search (rules, c.slots_met.ensures.value)
