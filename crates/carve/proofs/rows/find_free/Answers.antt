use Rattle.std.proofs.Common.{◌≡◌, ◌∙◌, ℕ, ℤ, pos, ◌+ℤ◌, ◌-ℤ◌, arith, sym, subst, to_z, of_z, to_z-of_z, FitsSigned, w64}
use Rattle.std.proofs.lemmas.Int.{ints}
use Rattle.spot_terms.specs.Courses.{slots_met}
use Rattle.spot_terms.specs.Grid.{slot}
use Rattle.base_sets.proofs.Slots.{slots_are}
use Rattle.carve.proofs.RowPlaces.{fits_wide, fits_place, low_near, next_near, columns_are, columns_counted, free_read, covers_read}
use Rattle.carve.proofs.rows.find_free.Goals as goal

pub col-requires-clause-grid : goal.col-requires-clause-grid
col-requires-clause-grid c =
    c.requires.grid

pub col-requires-clause-place : goal.col-requires-clause-place
col-requires-clause-place c =
    let fits_w : FitsSigned w64 c.args.grid.now.w = fits_wide _ c.requires.grid.w in
    let fits_xlo : FitsSigned w64 c.args.b.now.xlo = fits_place _ c.requires.reach.xlo in
    let fits_xhi : FitsSigned w64 c.args.b.now.xhi = fits_place _ c.requires.reach.xhi in
    simp to_z-of_z c.requires.reach.xlo

pub col-requires-2-clause-grid : goal.col-requires-2-clause-grid
col-requires-2-clause-grid c =
    c.requires.grid

pub col-requires-2-clause-place : goal.col-requires-2-clause-place
col-requires-2-clause-place c =
    let fits_w : FitsSigned w64 c.args.grid.now.w = fits_wide _ c.requires.grid.w in
    let fits_xlo : FitsSigned w64 c.args.b.now.xlo = fits_place _ c.requires.reach.xlo in
    let fits_xhi : FitsSigned w64 c.args.b.now.xhi = fits_place _ c.requires.reach.xhi in
    simp to_z-of_z c.requires.reach.xhi

pub put_free-requires-clause-wide : goal.put_free-requires-clause-wide
put_free-requires-clause-wide c =
    let fits_w : FitsSigned w64 c.args.grid.now.w = fits_wide _ c.requires.grid.w in
    let fits_xlo : FitsSigned w64 c.args.b.now.xlo = fits_place _ c.requires.reach.xlo in
    let fits_xhi : FitsSigned w64 c.args.b.now.xhi = fits_place _ c.requires.reach.xhi in
    simp to_z-of_z c.requires.grid.w

pub put_free-requires-clause-first_near : goal.put_free-requires-clause-first_near
put_free-requires-clause-first_near c =
    let fits_w : FitsSigned w64 c.args.grid.now.w = fits_wide _ c.requires.grid.w in
    let fits_xlo : FitsSigned w64 c.args.b.now.xlo = fits_place _ c.requires.reach.xlo in
    let fits_xhi : FitsSigned w64 c.args.b.now.xhi = fits_place _ c.requires.reach.xhi in
    let fits_first : FitsSigned w64 c.col.result = record { sfits = c.col.type_inv } in
    let first : c.col.result ≡ slot c.args.grid.now.w c.args.b.now.xlo = simp to_z-of_z at c.col.ensures in
    let fits_last : FitsSigned w64 c.col-2.result = record { sfits = c.col-2.type_inv } in
    let last : c.col-2.result ≡ slot c.args.grid.now.w c.args.b.now.xhi = simp to_z-of_z at c.col-2.ensures in
    simp to_z-of_z (rw first (low_near c.args.grid.now.w c.args.b.now.xlo c.requires.grid.w c.requires.reach.xlo))

pub put_free-requires-clause-end_near : goal.put_free-requires-clause-end_near
put_free-requires-clause-end_near c =
    let fits_w : FitsSigned w64 c.args.grid.now.w = fits_wide _ c.requires.grid.w in
    let fits_xlo : FitsSigned w64 c.args.b.now.xlo = fits_place _ c.requires.reach.xlo in
    let fits_xhi : FitsSigned w64 c.args.b.now.xhi = fits_place _ c.requires.reach.xhi in
    let fits_first : FitsSigned w64 c.col.result = record { sfits = c.col.type_inv } in
    let first : c.col.result ≡ slot c.args.grid.now.w c.args.b.now.xlo = simp to_z-of_z at c.col.ensures in
    let fits_last : FitsSigned w64 c.col-2.result = record { sfits = c.col-2.type_inv } in
    let last : c.col-2.result ≡ slot c.args.grid.now.w c.args.b.now.xhi = simp to_z-of_z at c.col-2.ensures in
    simp to_z-of_z (rw last (next_near c.args.grid.now.w c.args.b.now.xhi c.requires.grid.w c.requires.reach.xhi))

pub put_free-requires-clause-last : goal.put_free-requires-clause-last
put_free-requires-clause-last c =
    let fits_w : FitsSigned w64 c.args.grid.now.w = fits_wide _ c.requires.grid.w in
    let fits_xlo : FitsSigned w64 c.args.b.now.xlo = fits_place _ c.requires.reach.xlo in
    let fits_xhi : FitsSigned w64 c.args.b.now.xhi = fits_place _ c.requires.reach.xhi in
    let fits_first : FitsSigned w64 c.col.result = record { sfits = c.col.type_inv } in
    let first : c.col.result ≡ slot c.args.grid.now.w c.args.b.now.xlo = simp to_z-of_z at c.col.ensures in
    let fits_last : FitsSigned w64 c.col-2.result = record { sfits = c.col-2.type_inv } in
    let last : c.col-2.result ≡ slot c.args.grid.now.w c.args.b.now.xhi = simp to_z-of_z at c.col-2.ensures in
    let slots = slots_are c.args.grid.now.w c.args.b.now.xlo c.args.b.now.xhi c.requires.grid.w c.requires.reach.x c.requires.reach.xlo c.requires.reach.xhi in
    simp to_z-of_z (rw last (omega (arith, slots.high)))

pub put_free-requires-clause-ordered : goal.put_free-requires-clause-ordered
put_free-requires-clause-ordered c =
    let fits_w : FitsSigned w64 c.args.grid.now.w = fits_wide _ c.requires.grid.w in
    let fits_xlo : FitsSigned w64 c.args.b.now.xlo = fits_place _ c.requires.reach.xlo in
    let fits_xhi : FitsSigned w64 c.args.b.now.xhi = fits_place _ c.requires.reach.xhi in
    let fits_first : FitsSigned w64 c.col.result = record { sfits = c.col.type_inv } in
    let first : c.col.result ≡ slot c.args.grid.now.w c.args.b.now.xlo = simp to_z-of_z at c.col.ensures in
    let fits_last : FitsSigned w64 c.col-2.result = record { sfits = c.col-2.type_inv } in
    let last : c.col-2.result ≡ slot c.args.grid.now.w c.args.b.now.xhi = simp to_z-of_z at c.col-2.ensures in
    let slots = slots_are c.args.grid.now.w c.args.b.now.xlo c.args.b.now.xhi c.requires.grid.w c.requires.reach.x c.requires.reach.xlo c.requires.reach.xhi in
    simp to_z-of_z (rw (first, last) slots.order)

pub put_free-requires-clause-empty : goal.put_free-requires-clause-empty
put_free-requires-clause-empty c =
    c.clear.ensures.items

pub put_free-requires-clause-room : goal.put_free-requires-clause-room
put_free-requires-clause-room c =
    let fits_w : FitsSigned w64 c.args.grid.now.w = fits_wide _ c.requires.grid.w in
    let fits_xlo : FitsSigned w64 c.args.b.now.xlo = fits_place _ c.requires.reach.xlo in
    let fits_xhi : FitsSigned w64 c.args.b.now.xhi = fits_place _ c.requires.reach.xhi in
    let fits_first : FitsSigned w64 c.col.result = record { sfits = c.col.type_inv } in
    let first : c.col.result ≡ slot c.args.grid.now.w c.args.b.now.xlo = simp to_z-of_z at c.col.ensures in
    let fits_last : FitsSigned w64 c.col-2.result = record { sfits = c.col-2.type_inv } in
    let last : c.col-2.result ≡ slot c.args.grid.now.w c.args.b.now.xhi = simp to_z-of_z at c.col-2.ensures in
    let same_w : to_z w64 (of_z w64 c.args.grid.now.w) ≡ c.args.grid.now.w = to_z-of_z fits_w in
    let same_first : to_z w64 (of_z w64 c.col.result) ≡ slot c.args.grid.now.w c.args.b.now.xlo = to_z-of_z fits_first ∙ first in
    let same_last : to_z w64 (of_z w64 c.col-2.result) ≡ slot c.args.grid.now.w c.args.b.now.xhi = to_z-of_z fits_last ∙ last in
    λ columns e.
    let count : pos columns ≡ slot c.args.grid.now.w c.args.b.now.xhi -ℤ slot c.args.grid.now.w c.args.b.now.xlo +ℤ pos 1 =
    subst (λ (z : ℤ). pos columns ≡ slot c.args.grid.now.w c.args.b.now.xhi -ℤ z +ℤ pos 1) same_first (subst (λ (z : ℤ). pos columns ≡ z -ℤ to_z w64 (of_z w64 c.col.result) +ℤ pos 1) same_last e) in
    let met : columns ≡ slots_met c.args.grid.now.w c.args.b.now.xlo c.args.b.now.xhi = columns_are (slot c.args.grid.now.w c.args.b.now.xlo) (slot c.args.grid.now.w c.args.b.now.xhi) columns count in
    omega (arith, met, c.requires.room, c.clear.ensures.capacity)

pub returns-clause-exact : goal.returns-clause-exact
returns-clause-exact c =
    let fits_w : FitsSigned w64 c.args.grid.now.w = fits_wide _ c.requires.grid.w in
    let fits_xlo : FitsSigned w64 c.args.b.now.xlo = fits_place _ c.requires.reach.xlo in
    let fits_xhi : FitsSigned w64 c.args.b.now.xhi = fits_place _ c.requires.reach.xhi in
    let fits_first : FitsSigned w64 c.col.result = record { sfits = c.col.type_inv } in
    let first : c.col.result ≡ slot c.args.grid.now.w c.args.b.now.xlo = simp to_z-of_z at c.col.ensures in
    let fits_last : FitsSigned w64 c.col-2.result = record { sfits = c.col-2.type_inv } in
    let last : c.col-2.result ≡ slot c.args.grid.now.w c.args.b.now.xhi = simp to_z-of_z at c.col-2.ensures in
    let same_w : to_z w64 (of_z w64 c.args.grid.now.w) ≡ c.args.grid.now.w = to_z-of_z fits_w in
    let same_first : to_z w64 (of_z w64 c.col.result) ≡ slot c.args.grid.now.w c.args.b.now.xlo = to_z-of_z fits_first ∙ first in
    let same_last : to_z w64 (of_z w64 c.col-2.result) ≡ slot c.args.grid.now.w c.args.b.now.xhi = to_z-of_z fits_last ∙ last in
    free_read c.args.spans.now c.args.grid.now.w _ _ _ _ _ c.put_free.new.free.items same_w same_first same_last c.put_free.ensures.runs

pub returns-clause-covers : goal.returns-clause-covers
returns-clause-covers c =
    let fits_w : FitsSigned w64 c.args.grid.now.w = fits_wide _ c.requires.grid.w in
    let fits_xlo : FitsSigned w64 c.args.b.now.xlo = fits_place _ c.requires.reach.xlo in
    let fits_xhi : FitsSigned w64 c.args.b.now.xhi = fits_place _ c.requires.reach.xhi in
    let fits_first : FitsSigned w64 c.col.result = record { sfits = c.col.type_inv } in
    let first : c.col.result ≡ slot c.args.grid.now.w c.args.b.now.xlo = simp to_z-of_z at c.col.ensures in
    let fits_last : FitsSigned w64 c.col-2.result = record { sfits = c.col-2.type_inv } in
    let last : c.col-2.result ≡ slot c.args.grid.now.w c.args.b.now.xhi = simp to_z-of_z at c.col-2.ensures in
    let same_w : to_z w64 (of_z w64 c.args.grid.now.w) ≡ c.args.grid.now.w = to_z-of_z fits_w in
    let same_first : to_z w64 (of_z w64 c.col.result) ≡ slot c.args.grid.now.w c.args.b.now.xlo = to_z-of_z fits_first ∙ first in
    let same_last : to_z w64 (of_z w64 c.col-2.result) ≡ slot c.args.grid.now.w c.args.b.now.xhi = to_z-of_z fits_last ∙ last in
    covers_read c.args.spans.now c.args.grid.now.w _ _ _ _ _ c.put_free.new.free.items same_w same_first same_last c.put_free.ensures.covers

pub returns-clause-few : goal.returns-clause-few
returns-clause-few c =
    let fits_w : FitsSigned w64 c.args.grid.now.w = fits_wide _ c.requires.grid.w in
    let fits_xlo : FitsSigned w64 c.args.b.now.xlo = fits_place _ c.requires.reach.xlo in
    let fits_xhi : FitsSigned w64 c.args.b.now.xhi = fits_place _ c.requires.reach.xhi in
    let fits_first : FitsSigned w64 c.col.result = record { sfits = c.col.type_inv } in
    let first : c.col.result ≡ slot c.args.grid.now.w c.args.b.now.xlo = simp to_z-of_z at c.col.ensures in
    let fits_last : FitsSigned w64 c.col-2.result = record { sfits = c.col-2.type_inv } in
    let last : c.col-2.result ≡ slot c.args.grid.now.w c.args.b.now.xhi = simp to_z-of_z at c.col-2.ensures in
    let same_w : to_z w64 (of_z w64 c.args.grid.now.w) ≡ c.args.grid.now.w = to_z-of_z fits_w in
    let same_first : to_z w64 (of_z w64 c.col.result) ≡ slot c.args.grid.now.w c.args.b.now.xlo = to_z-of_z fits_first ∙ first in
    let same_last : to_z w64 (of_z w64 c.col-2.result) ≡ slot c.args.grid.now.w c.args.b.now.xhi = to_z-of_z fits_last ∙ last in
    let slots = slots_are c.args.grid.now.w c.args.b.now.xlo c.args.b.now.xhi c.requires.grid.w c.requires.reach.x c.requires.reach.xlo c.requires.reach.xhi in
    let columns : ℕ = slots_met c.args.grid.now.w c.args.b.now.xlo c.args.b.now.xhi in
    let count : pos columns ≡ to_z w64 (of_z w64 c.col-2.result) -ℤ to_z w64 (of_z w64 c.col.result) +ℤ pos 1 =
    subst (λ (z : ℤ). pos columns ≡ to_z w64 (of_z w64 c.col-2.result) -ℤ z +ℤ pos 1) (sym same_first) (subst (λ (z : ℤ). pos columns ≡ z -ℤ slot c.args.grid.now.w c.args.b.now.xlo +ℤ pos 1) (sym same_last) (columns_counted _ _ slots.order)) in
    c.put_free.ensures.few columns count
