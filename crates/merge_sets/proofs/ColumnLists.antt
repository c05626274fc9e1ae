-- Neighbouring columns with numbers joined, one after another.
use Rattle.std.proofs.Common.{◌≡◌, ◌∙◌, ℕ, zero, suc, ◌+◌, ◌-◌, ◌*◌, ◌≤◌, ◌<◌, arith, ap, sym, refl, subst, List, [], ◌∷◌, inl, inr, length}
use Rattle.std.specs.Prelude.{Option, Some, None, IfSome, slice_get}
use Rattle.std.proofs.lemmas.Option.{none-some, same_Some, slice_get_within, slice_get-get_or}
use lib.IntN.{ℤ, pos, ◌+ℤ◌}
use Rattle.spot_terms.specs.CellNumbers.{Numbers, greater, joined}
use Rattle.spot_terms.specs.Frames.{IsFrameInOrder}
use Rattle.spot_terms.specs.declared.plain.Pt.{Pt}
use Rattle.round_out.specs.declared.frames.FrameNumbers.{FrameNumbers}
use Rattle.spot_terms.proofs.Places.{compare3}
use Rattle.merge_sets.specs.Cells.{AreEight, AreSound, IsPartNumbers, JoinsColumn, JoinsColumns, OfBoth, numbers_of, joined_with, joined_both}
use Rattle.merge_sets.specs.declared.cells.Cell.{Cell}
use Rattle.merge_sets.proofs.Joins.{EightOf, eight_of, eight_greater, both_joined}
use Rattle.merge_sets.proofs.FrameMerges.{greater_in_order}
use Rattle.spot_terms.proofs.Orders.{row_before, below_or_here}

pub sound_greater : (k : ℕ) (f g : List ℤ) → AreSound k f → AreSound k g → AreSound k (greater f g)
sound_greater k f g h s = record { eight = eight_greater f g h.eight s.eight; order = go (eight_of f h.eight.count) (eight_of g s.eight.count) }
  where
    go : EightOf f → EightOf g → IsFrameInOrder (pos k) (greater f g)
    go p q = subst (λ (z : List ℤ). AreSound k z → IsFrameInOrder (pos k) (greater z g)) (sym p.is)
        (subst (λ (y : List ℤ). let x : List ℤ = p.a0 ∷ p.a1 ∷ p.a2 ∷ p.a3 ∷ p.a4 ∷ p.a5 ∷ p.a6 ∷ p.a7 ∷ [] in AreSound k y → AreSound k x → IsFrameInOrder (pos k) (greater x y)) (sym q.is)
        (λ b a. greater_in_order k p.a0 p.a1 p.a2 p.a3 p.a4 p.a5 p.a6 p.a7 q.a0 q.a1 q.a2 q.a3 q.a4 q.a5 q.a6 q.a7 a.order b.order) s) h

module _ (at stride m : ℕ) (width first : ℤ) (k : ℕ) (x : List Pt) (rows : List (Option FrameNumbers)) (apart : m ≤ stride) where
  pub columns_none : (old : List Cell) → ((p : ℕ) (c : Cell) → slice_get old p ≡ Some c → OfBoth (AreSound k) (numbers_of c)) → JoinsColumns at stride 0 m width first k x rows old old
  columns_none old sound = record {
    count = refl;
    inside = λ i j r c l o g h. absurd (omega (arith, l));
    outside = λ p o. refl;
    sound = sound;
  }

  -- a cell of column n is as before while only the columns before it are done
  untouched : (n j : ℕ) (old now : List Cell) → JoinsColumns at stride n m width first k x rows old now → slice_get now (at + n * stride + j) ≡ slice_get old (at + n * stride + j)
  untouched n j old now s = s.outside (at + n * stride + j) (λ i l. inr (let b = row_before i n stride m l apart in omega (arith, b)))

  pub columns_skip : (n : ℕ) (old now : List Cell) → JoinsColumns at stride n m width first k x rows old now → IsPartNumbers width (first +ℤ pos n) k x None → JoinsColumns at stride (n + 1) m width first k x rows old now
  columns_skip n old now s part = record {
    count = s.count;
    inside = λ i j r c l o g h. elim (below_or_here i n l) [
      | inl b ↦ s.inside i j r c b o g h
      | inr e ↦ (
        c,
        subst (λ (z : ℕ). slice_get now (at + z * stride + j) ≡ Some c) (sym e) (untouched n j old now s ∙ subst (λ (z : ℕ). slice_get old (at + z * stride + j) ≡ Some c) e h),
        (None, subst (λ (z : ℕ). IsPartNumbers width (first +ℤ pos z) k x None) (sym e) part, refl),
      )
    ];
    outside = λ p o. s.outside p (λ i l. o i (omega (arith, l)));
    sound = s.sound;
  }

  pub columns_more : (n : ℕ) (old now new : List Cell) (f : FrameNumbers) → JoinsColumns at stride n m width first k x rows old now → IsPartNumbers width (first +ℤ pos n) k x (Some f) → AreSound k f.n
      → m ≤ length rows → ((j : ℕ) (g : FrameNumbers) → j < m → slice_get rows j ≡ Some (Some g) → AreSound k g.n)
      → JoinsColumn (at + n * stride) m f.n rows now new → JoinsColumns at stride (n + 1) m width first k x rows old new
  columns_more n old now new f s part sound few sounds t = record {
    count = t.count ∙ s.count;
    inside = λ i j r c l o g h. elim (below_or_here i n l) [
      | inl b ↦ let (d, got, is) = s.inside i j r c b o g h in (d, t.outside (at + i * stride + j) (inl (let q = row_before i n stride m b apart in omega (arith, q, o))) ∙ got, is)
      | inr e ↦ here i j r c o g h e
    ];
    outside = λ p o. t.outside p (elim (o n (omega arith)) [ inl a ↦ inl a | inr a ↦ inr a ]) ∙ s.outside p (λ i l. o i (omega (arith, l)));
    sound = λ p c g. compare3 p (at + n * stride)
        (λ a. s.sound p c (sym (t.outside p (inl a)) ∙ g))
        (λ e. after p c g (omega (arith, e)))
        (λ a. after p c g (omega (arith, a)));
  }
    where
      here : (i j : ℕ) (r : Option FrameNumbers) (c : Cell) → j < m → slice_get rows j ≡ Some r → slice_get old (at + i * stride + j) ≡ Some c → i ≡ n
          → (d : Cell) × (slice_get new (at + i * stride + j) ≡ Some d) × ((g : Option FrameNumbers) × IsPartNumbers width (first +ℤ pos i) k x g × (numbers_of d ≡ joined_both g r (numbers_of c)))
      here i j r c o g h e =
          let (d, got, is) = t.inside j r c o g (untouched n j old now s ∙ subst (λ (z : ℕ). slice_get old (at + z * stride + j) ≡ Some c) e h) in
          (d, subst (λ (z : ℕ). slice_get new (at + z * stride + j) ≡ Some d) (sym e) got, (Some f, subst (λ (z : ℕ). IsPartNumbers width (first +ℤ pos z) k x (Some f)) (sym e) part, is))

      in_column : (j : ℕ) (c : Cell) → j < m → slice_get new (at + n * stride + j) ≡ Some c → OfBoth (AreSound k) (numbers_of c)
      in_column j c o g =
          let at_row : slice_get rows j ≡ Some _ = slice_get-get_or rows j None (omega (arith, o, few)) in
          let inside : at + n * stride + j < length now = (let w = slice_get_within new (at + n * stride + j) c g in let l = t.count in omega (arith, w, l)) in
          let (d, got, is) = t.inside j _ _ o at_row (slice_get-get_or now (at + n * stride + j) c inside) in
          let same : c ≡ d = same_Some c d (sym g ∙ got) in
          subst (λ (z : Cell). OfBoth (AreSound k) (numbers_of z)) (sym same) (subst (OfBoth (AreSound k)) (sym is)
          (both_joined (AreSound k) (sound_greater k) f.n _ (numbers_of _) sound (row_sound j _ o at_row) (s.sound (at + n * stride + j) _ (slice_get-get_or now (at + n * stride + j) c inside))))
        where
          row_sound : (j : ℕ) (r : Option FrameNumbers) → j < m → slice_get rows j ≡ Some r → IfSome r (λ g. AreSound k g.n)
          row_sound j None o g = tt
          row_sound j (Some q) o g = sounds j q o g

      after : (p : ℕ) (c : Cell) → slice_get new p ≡ Some c → at + n * stride ≤ p → OfBoth (AreSound k) (numbers_of c)
      after p c g h = compare3 p (at + n * stride + m)
          (λ a. let e : p ≡ at + n * stride + (p - (at + n * stride)) = omega (arith, h) in in_column (p - (at + n * stride)) c (omega (arith, a, h)) (subst (λ (z : ℕ). slice_get new z ≡ Some c) e g))
          (λ e. s.sound p c (sym (t.outside p (inr (omega (arith, e)))) ∙ g))
          (λ a. s.sound p c (sym (t.outside p (inr (omega (arith, a)))) ∙ g))
