-- Where the numbers of all pairs are level, each cell has the least number of its class.
use Rattle.std.proofs.Common.{◌≡◌, ℕ, zero, suc, ◌+◌, ◌≤◌, ◌<◌, arith, refl, sym, ◌∙◌, subst, List, [], ◌∷◌, ◌++◌, length, take, drop, ap}
use Rattle.std.specs.Prelude.{◌↔◌, slice_get, slice_index_or, Some}
use Rattle.std.specs.List.{AllByRecursion}
use Rattle.std.proofs.lemmas.Option.{slice_get-get_or, slice_get_within, same_Some}
use Rattle.spot_terms.specs.Cells.{Lane, NetCell}
use Rattle.spot_terms.specs.Lists.{Includes}
use Rattle.spot_terms.specs.Network.{IsSide}
use Rattle.spot_terms.proofs.ListLemmas.{all_included, all_of}
use Rattle.lanelets.specs.declared.kept.KeptLane.{KeptLane}
use Rattle.lanelets.specs.declared.nearby.Nearby.{Nearby}
use Rattle.lanelets.specs.declared.classes.Classes.{Classes}
use Rattle.lanelets.specs.Beside.{IsBeside, here, next, ArePairs, IsPair, AreClassNumbers, AreClasses}
use Rattle.lanelets.specs.Levels.{IsReached, at_first, along, AreLevel, IsMadeOf, AreOwn}
use Rattle.lanelets.specs.Listing.{AreBelow, AreColumns, AreLists, AreRows}
use Rattle.lanelets.proofs.BesideLaws.{beside_join, beside_on, beside_back, beside_within}
use Rattle.lanelets.proofs.NumberLists.{lists_as}
use Rattle.lanelets.proofs.Places.{place_of_item, get_pushed}
use Rattle.lanelets.proofs.RowLists.{lists_of, rows_within}
use Rattle.lanelets.proofs.SideLaws.{side_back}
use Rattle.lanelets.proofs.StarLaws.{IsChain, side_chain}
use Rattle.lanelets.specs.Nearby.{AreKept}
use Rattle.std.proofs.lemmas.List.{length_push}
use Rattle.std.proofs.Common.{inl, inr}
use Rattle.spot_terms.proofs.ItemPlaces.{got_below, item_at, written}

-- ---- numbers to begin with

-- of no cells
pub own_none : (numbers : List ℕ) → numbers ≡ [] → AreOwn 0 numbers
own_none numbers e = subst (AreOwn 0) (sym e) (record { count = refl; own = λ i m g. cc })

-- of one more cell
pub own_more : (n : ℕ) (numbers after : List ℕ) → AreOwn n numbers → after ≡ numbers ++ n ∷ [] → AreOwn (n + 1) after
own_more n numbers after k e = subst (AreOwn (n + 1)) (sym e) (record {
  count = let c = k.count in let l = length_push numbers n in omega (arith, c, l);
  own = λ i m g. elim (get_pushed numbers n m i g) [ inl h ↦ k.own i m h | inr h ↦ h.1 ∙ sym k.count ∙ sym h.0 ];
})

-- ---- numbers of classes

-- the cells with which one is paired are cells
pub pairs_within : (lanes : List Lane) (net : List NetCell) (n m : ℕ) (pairs : List (List ℕ)) → m ≡ length net → ArePairs lanes net n pairs → AllByRecursion (AreBelow m) pairs
pairs_within lanes net n m pairs same k = all_of (AreBelow m) pairs (λ row i.
    let (c, at) = place_of_item pairs row i in
    all_of (λ x. x < m) row (λ d j. let s = (k.each c row at).only d j in let low = slice_get_within net d s.b s.d_is in omega (arith, low, same)))

module _ (lanes : List Lane) (net : List NetCell) (pairs : List (List ℕ)) (first now : List ℕ) (k : ArePairs lanes net (length net) pairs) (chain : (c d : ℕ) → IsSide lanes net c d → IsChain lanes net c d) (own : AreOwn (length net) first) where
  -- the number that a cell has is that of a cell beside which it lies
  reached_beside : (i m : ℕ) → IsReached pairs first i m → IsBeside lanes net i m × (m < length net)
  reached_beside i m (at_first _ _ g) =
      let e : m ≡ i = own.own i m g in
      (subst (λ (z : ℕ). IsBeside lanes net i z) (sym e) here, let l = slice_get_within first i m g in let count = own.count in omega (arith, e, l, count))
  reached_beside _ _ (along c d m j r) = let (b, l) = reached_beside c m r in (beside_on lanes net c d m b ((k.each c j.0 j.1).only d j.2), l)

  module _ (made : IsMadeOf pairs first now) (level : AreLevel pairs now) (many : length now ≡ length net) where
    -- no cell has a number above that of a cell with which it is paired
    at_most_pair : (c d m q : ℕ) → IsPair lanes net c d → slice_get now c ≡ Some m → slice_get now d ≡ Some q → q ≤ m
    at_most_pair c d m q p h g =
        let s = p.side in
        let (row, at) = item_at pairs c (let l = slice_get_within net c s.a s.c_is in let rows = k.many in omega (arith, l, rows)) in
        level c d (row, at, (k.each c row at).all d p) m q h g

    number_of : (c d : ℕ) → IsSide lanes net c d → (m : ℕ) × (slice_get now d ≡ Some m)
    number_of c d s = item_at now d (let l = slice_get_within net d s.b s.d_is in omega (arith, l, many))

    -- nor above that of a cell beside it
    at_most : (c d m q : ℕ) → IsSide lanes net c d → slice_get now c ≡ Some m → slice_get now d ≡ Some q → q ≤ m
    at_most c d m q s h g = elim (chain c d s) [
      | inl p ↦ at_most_pair c d m q p h g
      | inr (y, x, p, r, t) ↦
          (let (j, j_is) = number_of c y p.side in
          let (i, i_is) = number_of y x r.side in
          let a = at_most_pair c y m j p h j_is in
          let b = at_most_pair y x j i r j_is i_is in
          let e = at_most_pair x d i q t i_is g in
          omega (arith, a, b, e))
    ]

    level_side : (c d m : ℕ) → IsSide lanes net c d → slice_get now c ≡ Some m → slice_get now d ≡ Some m
    level_side c d m s h =
        let (q, q_is) = item_at now d (let l = slice_get_within net d s.b s.d_is in omega (arith, l, many)) in
        let low = at_most c d m q s h q_is in
        let high = at_most d c q m (side_back lanes net c d s) q_is h in
        let same : q ≡ m = omega (arith, low, high) in
        subst (λ (z : ℕ). slice_get now d ≡ Some z) same q_is

    level_on : (d c m : ℕ) → IsBeside lanes net d c → slice_get now c ≡ Some m → slice_get now d ≡ Some m
    level_on d c m here h = h
    level_on d c m (next {e = e} s b) h = level_on d e m b (level_side c e m s h)

    pub level_classes : AreClassNumbers lanes net now
    level_classes = record {
      many = many;
      within = all_of (λ x. x < length net) now (λ x i. let (c, at) = place_of_item now x i in (reached_beside c x (made c x at)).1);
      same = λ c d x y h g. (
        λ e. beside_join lanes net d x c (beside_back lanes net c x (reached_beside c x (made c x h)).0) (subst (λ (z : ℕ). IsBeside lanes net d z) (sym e) (reached_beside d y (made d y g)).0),
        λ b. same_Some x y (sym (level_on d c x b h) ∙ g),
      );
    }

-- ---- classes

-- an item at a place is in the list
at_included : (xs : List ℕ) (c x : ℕ) → slice_get xs c ≡ Some x → Includes xs x
at_included [] c x h = cc
at_included (y ∷ ys) zero x h = inl (sym (same_Some y x h))
at_included (y ∷ ys) (suc c) x h = inr (at_included ys c x h)

-- the cells of each number
pub classes_listed : (lanes : List Lane) (net : List NetCell) (classes : Classes) → AreClassNumbers lanes net classes.numbers.items → AreLists (λ x c. slice_get classes.numbers.items c ≡ Some x) (length net) classes.cells.items → AreClasses lanes net classes
classes_listed lanes net classes k lists = record {
  many = k.many;
  each = λ c x h.
      let low = all_included (λ z. z < length net) classes.numbers.items x k.within (at_included classes.numbers.items c x h) in
      let many = lists.many in
      let (list, at) = item_at classes.cells.items x (omega (arith, low, many)) in (
        list,
        at,
        lists_as (λ d. slice_get classes.numbers.items d ≡ Some x) (λ d. IsBeside lanes net d c) list
            (λ d g. (k.same c d x x h g).0 refl)
            (λ d b. beside_number c x d h b)
            (lists.each x list at),
      );
}
  where
    beside_number : (c x d : ℕ) → slice_get classes.numbers.items c ≡ Some x → IsBeside lanes net d c → slice_get classes.numbers.items d ≡ Some x
    beside_number c x d h b =
        let many = k.many in
        let inside : d < length net = beside_within lanes net d c (let l = got_below classes.numbers.items c x h in omega (arith, l, many)) b in
        let (y, y_is) = item_at classes.numbers.items d (omega (arith, inside, many)) in
        subst (λ (z : ℕ). slice_get classes.numbers.items d ≡ Some z) (sym ((k.same c d x y h y_is).1 b)) y_is

-- ---- as the code has them

-- the list of the one number of a cell
pub one_row : (numbers list : List ℕ) (i d : ℕ) → i < length numbers → ((x : ℕ) → Includes list x ↔ (Some (slice_index_or numbers i d) ≡ Some x)) → (x : ℕ) → Includes list x ↔ (slice_get numbers i ≡ Some x)
one_row numbers list i d h k x = let at = slice_get-get_or numbers i d h in ((λ j. at ∙ (k x).0 j), (λ e. (k x).1 (sym at ∙ e)))

-- the numbers as they are written back
pub classes_written : (lanes : List Lane) (net : List NetCell) (kept : List KeptLane) (nearby : Nearby) (count cells many : ℕ) (pairs looked : List (List ℕ)) (first given now : List ℕ) → AreKept lanes net kept nearby → looked ≡ pairs → given ≡ first → count ≡ length net → cells ≡ length net → many ≡ length first
    → ArePairs lanes net cells pairs → AreOwn count first → IsMadeOf looked given now → AreLevel looked now → length now ≡ length given → AreClassNumbers lanes net (take many (now ++ drop (length now) first))
classes_written lanes net kept nearby count cells many pairs looked first given now near same_pairs same_first count_is cells_is many_is k own made level long =
    let made_first : IsMadeOf pairs first now = subst (λ (z : List ℕ). IsMadeOf pairs z now) same_first (subst (λ (z : List (List ℕ)). IsMadeOf z given now) same_pairs made) in
    let as_long : length now ≡ length first = long ∙ ap length same_first in
    let own_cells : AreOwn (length net) first = subst (λ (z : ℕ). AreOwn z first) count_is own in
    let pairs_are : ArePairs lanes net (length net) pairs = subst (λ (z : ℕ). ArePairs lanes net z pairs) cells_is k in
    subst (AreClassNumbers lanes net) (sym (written many now first many_is as_long))
    (level_classes lanes net pairs first now pairs_are (side_chain lanes net kept nearby near) own_cells made_first (subst (λ (z : List (List ℕ)). AreLevel z now) same_pairs level) (as_long ∙ own_cells.count))

-- the rows of the numbers, as they are looked at
pub number_rows : (looked numbers : List ℕ) (rows : List (List ℕ)) → looked ≡ numbers → AreRows (λ c x. slice_get looked c ≡ Some x) (length looked) rows → AreRows (λ c x. slice_get numbers c ≡ Some x) (length numbers) rows
number_rows looked numbers rows e a = subst (λ (z : List ℕ). AreRows (λ c x. slice_get z c ≡ Some x) (length z) rows) e a

-- their numbers are below that of the cells
pub rows_low : (lanes : List Lane) (net : List NetCell) (numbers : List ℕ) (rows looked : List (List ℕ)) (n : ℕ) → n ≡ length net → looked ≡ rows → AreClassNumbers lanes net numbers → AreRows (λ c x. slice_get numbers c ≡ Some x) (length numbers) rows
    → AllByRecursion (AreBelow n) looked
rows_low lanes net numbers rows looked n same e k a =
    subst (AllByRecursion (AreBelow n)) (sym e) (rows_within (λ c x. slice_get numbers c ≡ Some x) (length numbers) n rows a (λ c x h. let low = all_included (λ z. z < length net) numbers x k.within (at_included numbers c x h) in omega (arith, low, same)))

-- turned round they list the cells of each number
pub rows_turned : (net : List NetCell) (numbers : List ℕ) (rows looked columns : List (List ℕ)) (n : ℕ) → n ≡ length net → looked ≡ rows → AreRows (λ c x. slice_get numbers c ≡ Some x) (length numbers) rows → AreColumns looked n columns
    → AreLists (λ x c. slice_get numbers c ≡ Some x) (length net) columns
rows_turned net numbers rows looked columns n same e a turned =
    subst (λ (z : ℕ). AreLists (λ x c. slice_get numbers c ≡ Some x) z columns) same
    (lists_of (λ c x. slice_get numbers c ≡ Some x) (length numbers) n rows columns a (λ c x h. slice_get_within numbers c x h) (subst (λ (z : List (List ℕ)). AreColumns z n columns) e turned))
