-- Numbers that are lowered along pairs.
use Rattle.std.proofs.Common.{◌≡◌, ◌⊎◌, ℕ, ◌+◌, ◌≤◌, ◌<◌, arith, refl, sym, ◌∙◌, ap, subst, List, [], ◌∷◌, ◌++◌, length, sum, inl, inr}
use Rattle.std.specs.Prelude.{slice_get, slice_set, slice_index_or, Option, Some, None}
use Rattle.std.proofs.lemmas.List.{length_push, length-set}
use Rattle.std.proofs.lemmas.List.Sums.{sum_by-set}
use Rattle.std.proofs.lemmas.Option.{get_or_from_slice_get}
use Rattle.spot_terms.specs.Lists.{Includes}
use Rattle.spot_terms.proofs.ListLemmas.{all_included, all_of, includes_back, includes_either, includes_front}
use Rattle.spot_terms.proofs.ItemPlaces.{get_set_either, got_below, item_at}
use Rattle.spot_terms.proofs.Orders.{below_or_here}
use Rattle.lanelets.specs.Levels.{IsReached, at_first, along, IsLevel, AreLevel, IsMadeOf, Lowers, IsUnderWay}
use Rattle.lanelets.specs.Listing.{AreBelow, IsRowWith}
use Rattle.lanelets.proofs.Places.{same_at}

-- ---- the numbers of one row

-- a number that is made less makes the sum less
sum_set : (numbers : List ℕ) (i n k : ℕ) → slice_get numbers i ≡ Some k → n < k → sum (slice_set numbers i n) < sum numbers
sum_set numbers i n k h above =
    let low = got_below numbers i k h in
    let moved : sum (slice_set numbers i n) + slice_index_or numbers i k ≡ sum numbers + n = sum_by-set (λ z. z) numbers i n k low in
    let same : slice_index_or numbers i k ≡ k = get_or_from_slice_get numbers i k k h in
    omega (arith, moved, same, above)

-- of no cells
pub lowers_none : (n : ℕ) (numbers noted : List ℕ) → Lowers [] n numbers noted numbers noted
lowers_none n numbers noted = record {
  many = refl;
  made = λ i m h. inl h;
  falls = λ i k m h g. let e : k ≡ m = same_at numbers i k m h g in omega (arith, e);
  low = λ i m j h. absurd j;
  waits = λ x j. j;
  within = λ x j. inl j;
  smaller = omega arith;
}

row_either : (row : List ℕ) (d x : ℕ) → Includes (row ++ d ∷ []) x → Includes row x ⊎ (x ≡ d)
row_either row d x i = elim (includes_either row (d ∷ []) x i) [ inl j ↦ inl j | inr j ↦ elim j [ inl e ↦ inr e | inr none ↦ absurd none ] ]

-- of one more, which has a number of at most n
pub lowers_same : (row : List ℕ) (n d k : ℕ) (first noted_first now noted : List ℕ) → Lowers row n first noted_first now noted → slice_get now d ≡ Some k → k ≤ n → Lowers (row ++ d ∷ []) n first noted_first now noted
lowers_same row n d k first noted_first now noted s at small = record {
  many = s.many;
  made = λ i m h. elim (s.made i m h) [ inl old ↦ inl old | inr new ↦ inr (includes_front row (d ∷ []) i new.0, new.1, new.2) ];
  falls = s.falls;
  low = λ i m j h. elim (row_either row d i j) [
    | inl old ↦ s.low i m old h
    | inr e ↦ (let same : k ≡ m = same_at now d k m at (subst (λ (z : ℕ). slice_get now z ≡ Some m) e h) in omega (arith, same, small))
  ];
  waits = s.waits;
  within = λ x j. elim (s.within x j) [ inl old ↦ inl old | inr i ↦ inr (includes_front row (d ∷ []) x i) ];
  smaller = s.smaller;
}

-- of one more, which had a greater number
pub lowers_less : (row : List ℕ) (n d k : ℕ) (first noted_first old noted_old now noted : List ℕ) → Lowers row n first noted_first old noted_old → slice_get old d ≡ Some k → n < k → now ≡ slice_set old d n → noted ≡ noted_old ++ d ∷ []
    → Lowers (row ++ d ∷ []) n first noted_first now noted
lowers_less row n d k first noted_first old noted_old now noted s at above now_is noted_is = record {
  many = ap length now_is ∙ length-set old d n ∙ s.many;
  made = λ i m h. elim (either i) [
    | inl (same, new) ↦ inr (includes_back row (d ∷ []) i (inl same), sym (same_at now i n m new h), subst (λ (xs : List ℕ). Includes xs i) (sym noted_is) (includes_back noted_old (d ∷ []) i (inl same)))
    | inr (other, kept) ↦ elim (s.made i m (sym kept ∙ h)) [
      | inl before ↦ inl before
      | inr new ↦ inr (includes_front row (d ∷ []) i new.0, new.1, waits_old i new.2)
    ]
  ];
  falls = λ i q m before after. elim (either i) [
    | inl (same, new) ↦ (let e : n ≡ m = same_at now i n m new after in let l : k ≤ q = s.falls i q k before (subst (λ (z : ℕ). slice_get old z ≡ Some k) (sym same) at) in omega (arith, e, l, above))
    | inr (other, kept) ↦ s.falls i q m before (sym kept ∙ after)
  ];
  low = λ i m j h. elim (either i) [
    | inl (same, new) ↦ (let e : n ≡ m = same_at now i n m new h in omega (arith, e))
    | inr (other, kept) ↦ elim (row_either row d i j) [
      | inl front ↦ s.low i m front (sym kept ∙ h)
      | inr e ↦ absurd (elim other [ inl l ↦ omega (arith, l, e) | inr l ↦ omega (arith, l, e) ])
    ]
  ];
  waits = λ x j. waits_old x (s.waits x j);
  within = λ x j. elim (row_either noted_old d x (subst (λ (xs : List ℕ). Includes xs x) noted_is j)) [
    | inl front ↦ elim (s.within x front) [ inl before ↦ inl before | inr i ↦ inr (includes_front row (d ∷ []) x i) ]
    | inr e ↦ inr (includes_back row (d ∷ []) x (inl e))
  ];
  smaller =
      let less : sum (slice_set old d n) < sum old = sum_set old d n k at above in
      let sums : sum now ≡ sum (slice_set old d n) = ap sum now_is in
      let more : length noted ≡ length noted_old + 1 = ap length noted_is ∙ length_push noted_old d in
      let l = s.smaller in
      omega (arith, less, sums, more, l);
}
  where
    either : (i : ℕ) → ((i ≡ d) × (slice_get now i ≡ Some n)) ⊎ (((d < i) ⊎ (i < d)) × (slice_get now i ≡ slice_get old i))
    either i = subst (λ (z : List ℕ). ((i ≡ d) × (slice_get z i ≡ Some n)) ⊎ (((d < i) ⊎ (i < d)) × (slice_get z i ≡ slice_get old i))) (sym now_is) (get_set_either old d i n (got_below old d k at))

    waits_old : (x : ℕ) → Includes noted_old x → Includes noted x
    waits_old x j = subst (λ (xs : List ℕ). Includes xs x) (sym noted_is) (includes_front noted_old (d ∷ []) x j)

-- ---- numbers that are made of others

-- no number was changed
pub made_same : (pairs : List (List ℕ)) (numbers : List ℕ) → IsMadeOf pairs numbers numbers
made_same pairs numbers i m h = at_first i m h

-- a row with a number is that of the cell
row_is : (pairs : List (List ℕ)) (c d : ℕ) (row : List ℕ) → slice_get pairs c ≡ Some row → IsRowWith pairs d c → Includes row d
row_is pairs c d row at h = subst (λ (xs : List ℕ). Includes xs d) (same_at pairs c h.0 row h.1 at) h.2

-- ---- one cell gone on from

-- the cells that were noted and those of the row are cells
pub noted_within : (row : List ℕ) (n many : ℕ) (before noted_before after noted_after : List ℕ) → Lowers row n before noted_before after noted_after → AreBelow many row → AreBelow many noted_before → AreBelow many noted_after
noted_within row n many before noted_before after noted_after s in_row in_noted = all_of (λ x. x < many) noted_after (λ x i. elim (s.within x i) [
  | inl old ↦ all_included (λ y. y < many) noted_before x in_noted old
  | inr new ↦ all_included (λ y. y < many) row x in_row new
])

-- so are those that are left when one is taken, and that one
pub noted_rest : (many x : ℕ) (noted rest : List ℕ) → noted ≡ rest ++ x ∷ [] → AreBelow many noted → AreBelow many rest × (x < many)
noted_rest many x noted rest e low =
    let all : AreBelow many (rest ++ x ∷ []) = subst (AreBelow many) e low in (
      all_of (λ y. y < many) rest (λ y i. all_included (λ z. z < many) (rest ++ x ∷ []) y all (includes_front rest (x ∷ []) y i)),
      all_included (λ z. z < many) (rest ++ x ∷ []) x all (includes_back rest (x ∷ []) x (inl refl)),
    )

-- and a first one
pub noted_first : (many x : ℕ) (none noted : List ℕ) → none ≡ [] → noted ≡ none ++ x ∷ [] → x < many → AreBelow many noted
noted_first many x none noted e is low = subst (AreBelow many) (sym (is ∙ ap (λ (z : List ℕ). z ++ x ∷ []) e)) (low, tt)

-- one of the noted cells, x, was taken, and gone on from
pub on_from : (pairs : List (List ℕ)) (first : List ℕ) (c x n : ℕ) (row old noted_old rest now noted : List ℕ) → slice_get pairs x ≡ Some row → slice_get old x ≡ Some n → noted_old ≡ rest ++ x ∷ [] → Lowers row n old rest now noted
    → IsUnderWay pairs first c old noted_old → IsUnderWay pairs first c now noted
on_from pairs first c x n row old noted_old rest now noted at n_is popped s u = record {
  made = λ i m h. elim (s.made i m h) [
    | inl before ↦ u.made i m before
    | inr new ↦ subst (λ (z : ℕ). IsReached pairs first i z) (sym new.1) (along x i n (row, at, new.0) (u.made x n n_is))
  ];
  level = λ y d low r. elim (u.level y d low r) [
    | inl waits ↦ elim (row_either rest x y (subst (λ (xs : List ℕ). Includes xs y) popped waits)) [
      | inl still ↦ inl (s.waits y still)
      | inr here ↦ inr (λ m k h g. from_here d m k (row_is pairs x d row at (subst (λ (z : ℕ). IsRowWith pairs d z) here r)) (subst (λ (z : ℕ). slice_get now z ≡ Some m) here h) g)
    ]
    | inr level ↦ kept y d r level
  ];
}
  where
    from_here : (d m k : ℕ) → Includes row d → slice_get now x ≡ Some m → slice_get now d ≡ Some k → k ≤ m
    from_here d m k i h g =
        let l : k ≤ n = s.low d k i g in
        let same : m ≡ n = elim (s.made x m h) [ inl before ↦ same_at old x m n before n_is | inr new ↦ new.1 ] in
        omega (arith, l, same)

    kept : (y d : ℕ) → IsRowWith pairs d y → IsLevel old y d → Includes noted y ⊎ IsLevel now y d
    kept y d r level = whole (item_of y)
      where
        item_of : (z : ℕ) → ((m : ℕ) × (slice_get now z ≡ Some m)) ⊎ ((m : ℕ) → slice_get now z ≡ Some m → ⊥)
        item_of z = found (slice_get now z) refl
          where
            found : (o : Option ℕ) → slice_get now z ≡ o → ((m : ℕ) × (slice_get now z ≡ Some m)) ⊎ ((m : ℕ) → slice_get now z ≡ Some m → ⊥)
            found (Some m) e = inl (m, e)
            found None e = inr (λ m h. cc)

        whole : ((m : ℕ) × (slice_get now y ≡ Some m)) ⊎ ((m : ℕ) → slice_get now y ≡ Some m → ⊥) → Includes noted y ⊎ IsLevel now y d
        whole (inr none) = inr (λ m k h g. absurd (none m h))
        whole (inl (m, h)) = elim (s.made y m h) [
          | inr new ↦ inl new.2
          | inl before ↦ inr (λ p k h' g.
              let (q, q_is) = item_at old d (let l = got_below now d k g in let many = s.many in omega (arith, l, many)) in
              let up : q ≤ m = level m q before q_is in
              let down : k ≤ q = s.falls d q k q_is g in
              let same : p ≡ m = same_at now y p m h' h in
              omega (arith, up, down, same))
        ]

-- ---- all cells gone on from

-- of no cells
pub way_none : (pairs : List (List ℕ)) (first noted : List ℕ) → IsUnderWay pairs first 0 first noted
way_none pairs first noted = record { made = made_same pairs first; level = λ c d low r. absurd (omega (arith, low)) }

-- one more is noted
pub way_more : (pairs : List (List ℕ)) (first numbers before noted : List ℕ) (c : ℕ) → noted ≡ before ++ c ∷ [] → IsUnderWay pairs first c numbers before → IsUnderWay pairs first (c + 1) numbers noted
way_more pairs first numbers before noted c e u = record {
  made = u.made;
  level = λ x d low r. elim (below_or_here x c low) [
    | inl l ↦ elim (u.level x d l r) [ inl waits ↦ inl (subst (λ (xs : List ℕ). Includes xs x) (sym e) (includes_front before (c ∷ []) x waits)) | inr level ↦ inr level ]
    | inr here ↦ inl (subst (λ (xs : List ℕ). Includes xs x) (sym e) (includes_back before (c ∷ []) x (inl here)))
  ];
}

-- where no cell is noted any more, the pairs of all cells are level
pub way_all : (pairs : List (List ℕ)) (first numbers noted : List ℕ) (n : ℕ) → length pairs ≤ n → noted ≡ [] → IsUnderWay pairs first n numbers noted → AreLevel pairs numbers
way_all pairs first numbers noted n h e u c d r = elim (u.level c d (let l = got_below pairs c r.0 r.1 in omega (arith, l, h)) r) [
  | inl waits ↦ absurd (subst (λ (xs : List ℕ). Includes xs c) e waits)
  | inr level ↦ level
]
