-- A chain from which points are dropped before the next one comes.
use Rattle.std.proofs.Common.{◌≡◌, ℕ, zero, suc, ◌+◌, ◌-◌, ◌≤◌, ◌<◌, arith, refl, sym, ap, ◌∙◌, subst, List, [], ◌∷◌, ◌++◌, length, get_or, take, length-append, length-take, get_or-take, inl, inr}
use Rattle.std.proofs.Math.ListN.{get_or-append}
use Rattle.std.proofs.Math.Seq.{get_or-append_seam}
use Rattle.std.proofs.lemmas.Int.{by_lt_z}
use Rattle.std.specs.List.{AllByRecursion}
use Rattle.spot_terms.specs.Lists.{Includes}
use lib.IntN.{ℤ, pos, ◌-ℤ◌}
use lib.Signed.{◌≤ℤ◌, ◌<ℤ◌}
use Rattle.spot_terms.specs.declared.plain.Pt.{Pt}
use Rattle.convex_poly.specs.Turns.{cross, TurnsLeft}
use Rattle.convex_poly.specs.Chains.{key, Rising, Toward, KeepsFront, HasDent}
use Rattle.spot_terms.proofs.ListLemmas.{includes_at, includes_back}
use Rattle.spot_terms.proofs.Orders.{below_or_at_least}
use Rattle.spot_terms.proofs.Places.{all_by_index, all_map, same_index}
use Rattle.convex_poly.proofs.Chains.{push_turns}
use Rattle.convex_poly.proofs.Sides.{toward_flat, toward_included, middle_toward}

-- cur is what is left of old, and all that is left out is on its side
pub record IsTrimmed (old : List Pt) (next : Pt) (cur : List Pt) : Type 0 where
  pub count : ℕ
  pub within : count ≤ length old
  pub some : 0 < length old → 0 < count
  pub items : cur ≡ take count old
  pub side : (kx ky : ℤ) → Rising kx ky (old ++ next ∷ []) → AllByRecursion (Toward ky (pos 0 -ℤ kx) (cur ++ next ∷ [])) (old ++ next ∷ [])

take_all : (xs : List Pt) → xs ≡ take (length xs) xs
take_all [] = refl
take_all (x ∷ xs) = ap (λ l. x ∷ l) (take_all xs)

pub trim_none : (old : List Pt) (next : Pt) → IsTrimmed old next old
trim_none old next = record {
  count = length old;
  within = omega arith;
  some = λ h. h;
  items = take_all old;
  side = λ kx ky r. all_by_index _ (old ++ next ∷ []) (λ k d h. toward_included ky (pos 0 -ℤ kx) (old ++ next ∷ []) _ (includes_at (old ++ next ∷ []) k d h));
}

-- the point at k of a front of old, and next, in the whole
front_at : (old cur : List Pt) (next : Pt) (n k : ℕ) (d : Pt) → n ≤ length old → cur ≡ take n old → k < n → get_or cur k d ≡ get_or (old ++ next ∷ []) k d
front_at old cur next n k d h e l =
    ap (λ z. get_or z k d) e ∙ get_or-take n old k d l ∙ sym (get_or-append old (next ∷ []) d k (omega arith))

front_size : (old cur : List Pt) (n : ℕ) → n ≤ length old → cur ≡ take n old → length cur ≡ n
front_size old cur n h e = ap length e ∙ simp length-take (omega arith)

-- dropping the last point of a dent
pub trim_step : (old : List Pt) (next : Pt) (cur new : List Pt) → IsTrimmed old next cur → HasDent cur next → new ≡ take (length cur - 1) cur → IsTrimmed old next new
trim_step old next cur new t dent e =
    let size : length cur ≡ t.count = front_size old cur t.count t.within t.items in
    record {
      count = t.count - 1;
      within = omega (arith, t.within);
      some = λ h. omega (arith, dent.two, size);
      items = e ∙ ap (λ z. take (length cur - 1) z) t.items ∙ ap (λ n. take (n - 1) (take t.count old)) size ∙ take_take old (t.count - 1) t.count (omega arith);
      side = λ kx ky r. all_map (Toward ky (pos 0 -ℤ kx) (cur ++ next ∷ [])) (Toward ky (pos 0 -ℤ kx) (new ++ next ∷ []))
          (λ u h. toward_flat ky (pos 0 -ℤ kx) (cur ++ next ∷ []) (new ++ next ∷ []) u (all_by_index _ (cur ++ next ∷ []) (λ k d l. each kx ky r k d l)) h)
          (old ++ next ∷ []) (t.side kx ky r);
    }
  where
    take_take : (xs : List Pt) (m n : ℕ) → m ≤ n → take m (take n xs) ≡ take m xs
    take_take xs zero n h = refl
    take_take xs (suc m) zero h = absurd (omega arith)
    take_take [] (suc m) (suc n) h = refl
    take_take (x ∷ xs) (suc m) (suc n) h = ap (λ l. x ∷ l) (take_take xs m n (omega arith))

    cur_size : length cur ≡ t.count
    cur_size = front_size old cur t.count t.within t.items

    new_size : length new + 1 ≡ length cur
    new_size = let s : length new ≡ length cur - 1 = ap length e ∙ simp length-take (omega arith) in omega (arith, s, dent.two)

    new_at : (k : ℕ) (d : Pt) → k < length new → get_or new k d ≡ get_or cur k d
    new_at k d l = ap (λ z. get_or z k d) e ∙ get_or-take (length cur - 1) cur k d (omega (arith, new_size))

    full : length (new ++ next ∷ []) ≡ length new + 1
    full = simp length-append (omega arith)

    last_in : Includes (new ++ next ∷ []) next
    last_in = includes_back new (next ∷ []) next (inl refl)

    keyed : (kx ky : ℤ) → Rising kx ky (old ++ next ∷ []) → (i j : ℕ) (d : Pt) → i < j → j < length cur → key kx ky (get_or cur i d) <ℤ key kx ky (get_or cur j d)
    keyed kx ky r i j d h l =
        let whole : length (old ++ next ∷ []) ≡ length old + 1 = simp length-append (omega arith) in
        subst (λ z. key kx ky (get_or cur i d) <ℤ key kx ky z) (sym (front_at old cur next t.count j d t.within t.items (omega (arith, cur_size))))
        (subst (λ z. key kx ky z <ℤ key kx ky (get_or (old ++ next ∷ []) j d)) (sym (front_at old cur next t.count i d t.within t.items (omega (arith, cur_size)))) (r i j d h (omega (arith, whole, cur_size, t.within))))

    keyed_next : (kx ky : ℤ) → Rising kx ky (old ++ next ∷ []) → (i : ℕ) (d : Pt) → i < length cur → key kx ky (get_or cur i d) <ℤ key kx ky next
    keyed_next kx ky r i d l =
        let whole : length (old ++ next ∷ []) ≡ length old + 1 = simp length-append (omega arith) in
        subst (λ z. key kx ky (get_or cur i d) <ℤ key kx ky z) (get_or-append_seam old next [] d)
        (subst (λ z. key kx ky z <ℤ key kx ky (get_or (old ++ next ∷ []) (length old) d)) (sym (front_at old cur next t.count i d t.within t.items (omega (arith, cur_size)))) (r i (length old) d (omega (arith, cur_size, t.within)) (omega (arith, whole))))

    dropped : (kx ky : ℤ) → Rising kx ky (old ++ next ∷ []) → (i j : ℕ) (d : Pt) → j ≡ i + 1 → j + 1 ≡ length cur → Toward ky (pos 0 -ℤ kx) (new ++ next ∷ []) (get_or cur j d)
    dropped kx ky r i j d h l =
        middle_toward kx ky (new ++ next ∷ []) (get_or cur i d) (get_or cur j d) next
        (subst (Includes (new ++ next ∷ [])) (get_or-append new (next ∷ []) d i (omega (arith, new_size)) ∙ new_at i d (omega (arith, new_size))) (includes_at (new ++ next ∷ []) i d (omega (arith, full, new_size))))
        last_in
        (keyed kx ky r i j d (omega arith) (omega arith)) (keyed_next kx ky r j d (omega arith)) (dent.turn i j d h l)

    each : (kx ky : ℤ) → Rising kx ky (old ++ next ∷ []) → (k : ℕ) (d : Pt) → k < length (cur ++ next ∷ []) → Toward ky (pos 0 -ℤ kx) (new ++ next ∷ []) (get_or (cur ++ next ∷ []) k d)
    each kx ky r k d l =
        let size : length (cur ++ next ∷ []) ≡ length cur + 1 = simp length-append (omega arith) in
        elim (below_or_at_least k (length new)) [
          | inl low ↦ subst (Toward ky (pos 0 -ℤ kx) (new ++ next ∷ []))
              (get_or-append new (next ∷ []) d k low ∙ new_at k d low ∙ sym (get_or-append cur (next ∷ []) d k (omega (arith, new_size))))
              (toward_included ky (pos 0 -ℤ kx) (new ++ next ∷ []) (get_or (new ++ next ∷ []) k d) (includes_at (new ++ next ∷ []) k d (omega (arith, full))))
          | inr high ↦ elim (below_or_at_least k (length cur)) [
            | inl at_end ↦ subst (Toward ky (pos 0 -ℤ kx) (new ++ next ∷ [])) (sym (get_or-append cur (next ∷ []) d k at_end)) (dropped kx ky r (k - 1) k d (omega (arith, new_size, dent.two)) (omega (arith, new_size)))
            | inr past ↦ subst (Toward ky (pos 0 -ℤ kx) (new ++ next ∷ []))
                (sym (ap (λ n. get_or (cur ++ next ∷ []) n d) (k_is (omega (arith, size))) ∙ get_or-append_seam cur next [] d))
                (toward_included ky (pos 0 -ℤ kx) (new ++ next ∷ []) next last_in)
          ]
        ]
      where
        k_is : k ≡ length cur → k ≡ length cur
        k_is e = e

pub trim_front : (old : List Pt) (next : Pt) (cur new : List Pt) → IsTrimmed old next cur → new ≡ cur ++ next ∷ [] → KeepsFront old next new
trim_front old next cur new t e = record { count = t.count; within = t.within; some = t.some; items = e ∙ ap (λ z. z ++ next ∷ []) t.items }

pub trim_side : (old : List Pt) (next : Pt) (cur new : List Pt) → IsTrimmed old next cur → new ≡ cur ++ next ∷ [] → (kx ky : ℤ) → Rising kx ky (old ++ next ∷ []) → AllByRecursion (Toward ky (pos 0 -ℤ kx) new) (old ++ next ∷ [])
trim_side old next cur new t e kx ky r = subst (λ z. AllByRecursion (Toward ky (pos 0 -ℤ kx) z) (old ++ next ∷ [])) (sym e) (t.side kx ky r)

pub trim_turns : (old : List Pt) (next : Pt) (cur new : List Pt) → IsTrimmed old next cur → (HasDent cur next → ⊥) → new ≡ cur ++ next ∷ [] → (kx ky : ℤ) → Rising kx ky (old ++ next ∷ []) → TurnsLeft old → TurnsLeft new
trim_turns old next cur new t no_dent e kx ky r turns =
    subst TurnsLeft (sym e) (push_turns kx ky cur next cur_turns cur_rises last_turn)
  where
    size : length cur ≡ t.count
    size = front_size old cur t.count t.within t.items

    whole : length (old ++ next ∷ []) ≡ length old + 1
    whole = simp length-append (omega arith)

    full : length (cur ++ next ∷ []) ≡ length cur + 1
    full = simp length-append (omega arith)

    old_at : (k : ℕ) (d : Pt) → k < length cur → get_or cur k d ≡ get_or old k d
    old_at k d l = ap (λ z. get_or z k d) t.items ∙ get_or-take t.count old k d (omega (arith, size))

    cur_turns : TurnsLeft cur
    cur_turns i j k d ij jk kn =
        rw (old_at i d (omega arith), old_at j d (omega arith), old_at k d kn) (turns i j k d ij jk (omega (arith, size, t.within)))

    both_at : (k : ℕ) (d : Pt) → k < length cur → get_or (cur ++ next ∷ []) k d ≡ get_or (old ++ next ∷ []) k d
    both_at k d l = get_or-append cur (next ∷ []) d k l ∙ front_at old cur next t.count k d t.within t.items (omega (arith, size))

    cur_rises : Rising kx ky (cur ++ next ∷ [])
    cur_rises i j d ij jn =
        elim (below_or_at_least j (length cur)) [
          | inl low ↦ subst (λ z. key kx ky (get_or (cur ++ next ∷ []) i d) <ℤ key kx ky z) (sym (both_at j d low))
              (subst (λ z. key kx ky z <ℤ key kx ky (get_or (old ++ next ∷ []) j d)) (sym (both_at i d (omega arith))) (r i j d ij (omega (arith, whole, size, t.within))))
          | inr high ↦ subst (λ z. key kx ky (get_or (cur ++ next ∷ []) i d) <ℤ key kx ky z) (get_or-append_seam old next [] d ∙ sym (get_or-append_seam cur next [] d) ∙ ap (λ n. get_or (cur ++ next ∷ []) n d) (j_is (omega (arith, full))))
              (subst (λ z. key kx ky z <ℤ key kx ky (get_or (old ++ next ∷ []) (length old) d)) (sym (both_at i d (omega (arith, full)))) (r i (length old) d (omega (arith, full, size, t.within)) (omega (arith, whole))))
        ]
      where
        j_is : length cur ≡ j → length cur ≡ j
        j_is e = e

    last_turn : (i j : ℕ) (d : Pt) → j ≡ i + 1 → j + 1 ≡ length cur → pos 0 <ℤ cross (get_or cur i d) (get_or cur j d) next
    last_turn i j d h l =
        by_lt_z (pos 0) (cross (get_or cur i d) (get_or cur j d) next) (λ good. good)
        (λ bad. absurd (no_dent (record { two = omega arith; turn = dented bad })))
      where
        dented : cross (get_or cur i d) (get_or cur j d) next ≤ℤ pos 0 → (m n : ℕ) (f : Pt) → n ≡ m + 1 → n + 1 ≡ length cur → cross (get_or cur m f) (get_or cur n f) next ≤ℤ pos 0
        dented bad m n f e g =
            subst (λ z. cross z (get_or cur n f) next ≤ℤ pos 0) (same_index cur m i d f (omega arith) (omega arith))
            (subst (λ z. cross (get_or cur i d) z next ≤ℤ pos 0) (same_index cur n j d f (omega arith) (omega arith)) bad)

-- the last two points and next, as the code reads them
pub dent_is : (chain : List Pt) (next e : Pt) (r : ℤ) → 2 ≤ length chain → r ≡ cross (get_or chain (length chain - 2) e) (get_or chain (length chain - 1) e) next → (r ≤ℤ pos 0 → HasDent chain next) × (HasDent chain next → r ≤ℤ pos 0)
dent_is chain next e r two is = (
  (λ low. record {
    two = two;
    turn = λ i j d h k. subst (λ z. z ≤ℤ pos 0) (is ∙ ap (λ z. cross z (get_or chain (length chain - 1) e) next) (sym (same_index chain (length chain - 2) i d e (omega (arith, h, k)) (omega (arith, h, k))))
        ∙ ap (λ z. cross (get_or chain i d) z next) (sym (same_index chain (length chain - 1) j d e (omega (arith, k)) (omega (arith, k))))) low;
  }),
  (λ dent. rw is (dent.turn (length chain - 2) (length chain - 1) e (omega (arith, two)) (omega (arith, two)))),
)
