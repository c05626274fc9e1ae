-- The chain of a list of points, point by point, and the hull of two chains.
use Rattle.std.proofs.Common.{◌≡◌, ℕ, zero, suc, ◌+◌, ◌≤◌, ◌<◌, arith, refl, sym, ap, ◌∙◌, subst, List, [], ◌∷◌, ◌++◌, length, get_or, take, length-append, length-take, get_or-take, inl, inr}
use Rattle.std.proofs.Math.ListN.{get_or-append}
use Rattle.std.proofs.Math.Seq.{get_or-append_seam}
use Rattle.std.specs.List.{AllByRecursion}
use Rattle.spot_terms.specs.Lists.{Includes}
use lib.IntN.{ℤ, pos, ◌-ℤ◌}
use lib.Signed.{◌<ℤ◌}
use Rattle.spot_terms.specs.declared.plain.Pt.{Pt}
use Rattle.spot_terms.specs.Hull.{InHull}
use Rattle.convex_poly.specs.Turns.{TurnsLeft}
use Rattle.convex_poly.specs.Chains.{key, Rising, Toward, KeepsFront, IsChain}
use Rattle.spot_terms.proofs.ListLemmas.{includes_front, includes_back, all_append}
use Rattle.spot_terms.proofs.Orders.{below_or_at_least}
use Rattle.spot_terms.proofs.Places.{all_at, all_map, place_of}
use Rattle.std.proofs.lemmas.Grind.{take_at_read}
use Rattle.convex_poly.proofs.Sides.{toward_flat, toward_included, both_sides}

all_front : {X : Type 0} (P : X → Type 0) (xs ys : List X) → AllByRecursion P (xs ++ ys) → AllByRecursion P xs
all_front P [] ys h = tt
all_front P (x ∷ xs) ys h = (h.0, all_front P xs ys h.1)

all_back : {X : Type 0} (P : X → Type 0) (xs ys : List X) → AllByRecursion P (xs ++ ys) → AllByRecursion P ys
all_back P [] ys h = h
all_back P (x ∷ xs) ys h = all_back P xs ys h.1

pub all_take : {X : Type 0} (P : X → Type 0) (n : ℕ) (xs : List X) → AllByRecursion P xs → AllByRecursion P (take n xs)
all_take P zero xs h = tt
all_take P (suc n) [] h = tt
all_take P (suc n) (x ∷ xs) h = (h.0, all_take P n xs h.1)

pub chain_none : (kx ky : ℤ) → IsChain kx ky [] []
chain_none kx ky = record {
  turns = λ i j k d a b c. absurd (omega arith);
  rises = λ i j d a b. absurd (omega arith);
  inside = tt;
  side = tt;
  ends = record { some = λ h. absurd (omega arith); first = λ d h. absurd (omega arith); last = λ i j d e f. absurd (omega arith) };
}

-- with the next point, the keys of the chain rise
chain_next_rises : (kx ky : ℤ) (done chain : List Pt) (next : Pt) → IsChain kx ky done chain → Rising kx ky (done ++ next ∷ []) → Rising kx ky (chain ++ next ∷ [])
chain_next_rises kx ky done chain next c r i j d ij jn =
    elim (below_or_at_least j (length chain)) [
      | inl low ↦ subst (λ z. key kx ky z <ℤ key kx ky (get_or (chain ++ next ∷ []) j d)) (sym (get_or-append chain (next ∷ []) d i (omega arith)))
          (subst (λ z. key kx ky (get_or chain i d) <ℤ key kx ky z) (sym (get_or-append chain (next ∷ []) d j low)) (c.rises i j d ij low))
      | inr high ↦ subst (λ z. key kx ky z <ℤ key kx ky (get_or (chain ++ next ∷ []) j d)) (sym (get_or-append chain (next ∷ []) d i (omega (arith, size))))
          (subst (λ z. key kx ky (get_or chain i d) <ℤ key kx ky z) (sym (ap (λ n. get_or (chain ++ next ∷ []) n d) (j_is (omega (arith, size))) ∙ get_or-append_seam chain next [] d))
          (before (get_or chain i d) (all_at (Includes done) chain i d c.inside (omega (arith, size)))))
    ]
  where
    size : length (chain ++ next ∷ []) ≡ length chain + 1
    size = simp length-append (omega arith)

    j_is : j ≡ length chain → j ≡ length chain
    j_is e = e

    before : (u : Pt) → Includes done u → key kx ky u <ℤ key kx ky next
    before u h =
        let whole : length (done ++ next ∷ []) ≡ length done + 1 = simp length-append (omega arith) in
        let (k, l, e) = place_of done u u h in
        subst (λ z. key kx ky u <ℤ key kx ky z) (get_or-append_seam done next [] u)
        (subst (λ z. key kx ky z <ℤ key kx ky (get_or (done ++ next ∷ []) (length done) u)) (get_or-append done (next ∷ []) u k l ∙ e) (r k (length done) u l (omega (arith, whole))))

-- what `extend` ensures takes a chain of the points so far to one of one point more
pub chain_step : (kx ky : ℤ) (done chain new : List Pt) (next : Pt) → IsChain kx ky done chain → Rising kx ky (done ++ next ∷ []) → KeepsFront chain next new
    → (Rising kx ky (chain ++ next ∷ []) → TurnsLeft chain → TurnsLeft new)
    → (Rising kx ky (chain ++ next ∷ []) → AllByRecursion (Toward ky (pos 0 -ℤ kx) new) (chain ++ next ∷ []))
    → IsChain kx ky (done ++ next ∷ []) new
chain_step kx ky done chain new next c r front turns side =
    let up = chain_next_rises kx ky done chain next c r in
    let gx : ℤ = ky in
    let gy : ℤ = pos 0 -ℤ kx in
    record {
      turns = turns up c.turns;
      rises = subst (Rising kx ky) (sym front.items) (front_rises up);
      inside = subst (AllByRecursion (Includes (done ++ next ∷ []))) (sym front.items)
          (all_append (Includes (done ++ next ∷ [])) (take front.count chain) (next ∷ [])
          (all_map (Includes done) (Includes (done ++ next ∷ [])) (λ u h. includes_front done (next ∷ []) u h) (take front.count chain) (all_take (Includes done) front.count chain c.inside))
          (includes_back done (next ∷ []) next (inl refl), tt));
      side = all_append (Toward gx gy new) done (next ∷ [])
          (all_map (Toward gx gy chain) (Toward gx gy new) (λ u h. toward_flat gx gy chain new u (all_front (Toward gx gy new) chain (next ∷ []) (side up)) h) done c.side)
          (all_back (Toward gx gy new) chain (next ∷ []) (side up));
      ends = record {
        some = λ h. omega (arith, ap length front.items, new_size);
        first = λ d h. ap (λ z. get_or z 0 d) front.items ∙ first_at d;
        last = λ i j d e f. ap (λ z. get_or z i d) front.items ∙ top i d (omega (arith, e, ap length front.items, new_size, kept_size)) ∙ get_or-append_seam chain next [] d
            ∙ sym (ap (λ n. get_or (done ++ next ∷ []) n d) (j_is j (omega (arith, f, whole))) ∙ get_or-append_seam done next [] d);
      };
    }
  where
    whole : length (done ++ next ∷ []) ≡ length done + 1
    whole = simp length-append (omega arith)

    kept_size : length (take front.count chain) ≡ front.count
    kept_size = let w = front.within in simp length-take (omega arith)

    new_size : length (take front.count chain ++ next ∷ []) ≡ front.count + 1
    new_size = simp length-append (omega (arith, kept_size))

    old_size : length (chain ++ next ∷ []) ≡ length chain + 1
    old_size = simp length-append (omega arith)

    low : (k : ℕ) (d : Pt) → k < front.count → get_or (take front.count chain ++ next ∷ []) k d ≡ get_or (chain ++ next ∷ []) k d
    low k d l = get_or-append (take front.count chain) (next ∷ []) d k (omega (arith, kept_size)) ∙ get_or-take front.count chain k d l ∙ sym (get_or-append chain (next ∷ []) d k (omega (arith, front.within)))

    top : (k : ℕ) (d : Pt) → k ≡ length (take front.count chain) → get_or (take front.count chain ++ next ∷ []) k d ≡ get_or (chain ++ next ∷ []) (length chain) d
    top k d e = ap (λ n. get_or (take front.count chain ++ next ∷ []) n d) e ∙ get_or-append_seam (take front.count chain) next [] d ∙ sym (get_or-append_seam chain next [] d)

    j_is : (j : ℕ) → j ≡ length done → j ≡ length done
    j_is j e = e

    -- the first point stays, or is the only one
    first_at : (d : Pt) → get_or (take front.count chain ++ next ∷ []) 0 d ≡ get_or (done ++ next ∷ []) 0 d
    first_at d = elim (below_or_at_least 0 (length done)) [
      | inl old ↦ low 0 d (front.some (c.ends.some old)) ∙ get_or-append chain (next ∷ []) d 0 (c.ends.some old) ∙ c.ends.first d old ∙ sym (get_or-append done (next ∷ []) d 0 old)
      | inr none ↦ only (none_of done chain c.inside (omega arith)) (omega arith)
    ]
      where
        none_of : (done chain : List Pt) → AllByRecursion (Includes done) chain → length done ≡ 0 → length chain ≡ 0
        none_of done [] a e = refl
        none_of [] (u ∷ us) a e = absurd a.0
        none_of (v ∷ done) (u ∷ us) a e = absurd (omega arith)

        only : length chain ≡ 0 → length done ≡ 0 → get_or (take front.count chain ++ next ∷ []) 0 d ≡ get_or (done ++ next ∷ []) 0 d
        only e f = top 0 d (omega (arith, kept_size, front.within, e)) ∙ get_or-append_seam chain next [] d ∙ sym (ap (λ n. get_or (done ++ next ∷ []) n d) (j_is 0 (omega (arith, f))) ∙ get_or-append_seam done next [] d)

    front_rises : Rising kx ky (chain ++ next ∷ []) → Rising kx ky (take front.count chain ++ next ∷ [])
    front_rises up i j d ij jn =
        elim (below_or_at_least j front.count) [
          | inl inner ↦ subst (λ z. key kx ky z <ℤ key kx ky (get_or (take front.count chain ++ next ∷ []) j d)) (sym (low i d (omega arith)))
              (subst (λ z. key kx ky (get_or (chain ++ next ∷ []) i d) <ℤ key kx ky z) (sym (low j d inner)) (up i j d ij (omega (arith, old_size, front.within))))
          | inr last ↦ subst (λ z. key kx ky z <ℤ key kx ky (get_or (take front.count chain ++ next ∷ []) j d)) (sym (low i d (omega (arith, new_size))))
              (subst (λ z. key kx ky (get_or (chain ++ next ∷ []) i d) <ℤ key kx ky z) (sym (top j d (omega (arith, new_size, kept_size)))) (up i (length chain) d (omega (arith, new_size, front.within)) (omega (arith, old_size))))
        ]

pub toward_more : (gx gy : ℤ) (us vs : List Pt) (q : Pt) → AllByRecursion (Includes vs) us → Toward gx gy us q → Toward gx gy vs q
toward_more gx gy us vs q h t = toward_flat gx gy us vs q (all_map (Includes vs) (Toward gx gy vs) (λ u c. toward_included gx gy vs u c) us h) t

-- a point on the sides of a chain there and a chain back is in the hull of a list that has both
pub chains_hull : (kx ky : ℤ) (there back vs : List Pt) (q : Pt) → AllByRecursion (Includes vs) there → AllByRecursion (Includes vs) back → Toward ky (pos 0 -ℤ kx) there q → Toward (pos 0 -ℤ ky) (pos 0 -ℤ (pos 0 -ℤ kx)) back q → InHull vs q
chains_hull kx ky there back vs q h k a b =
    both_sides ky (pos 0 -ℤ kx) (pos 0 -ℤ ky) (pos 0 -ℤ (pos 0 -ℤ kx)) vs q refl refl (toward_more _ _ there vs q h a) (toward_more _ _ back vs q k b)

rising_take : (kx ky : ℤ) (points : List Pt) (n : ℕ) → n ≤ length points → Rising kx ky points → Rising kx ky (take n points)
rising_take kx ky points n h r i j d ij jn =
    let size : length (take n points) ≡ n = simp length-take (omega arith) in
    subst (λ z. key kx ky z <ℤ key kx ky (get_or (take n points) j d)) (sym (get_or-take n points i d (omega (arith, size))))
    (subst (λ z. key kx ky (get_or points i d) <ℤ key kx ky z) (sym (get_or-take n points j d (omega (arith, size)))) (r i j d ij (omega (arith, size))))

-- the loop's step
pub chain_more : (points chain new : List Pt) (next : Pt) (n : ℕ) → n < length points → next ≡ get_or points n next → ((kx ky : ℤ) → Rising kx ky points → IsChain kx ky (take n points) chain) → KeepsFront chain next new
    → ((kx ky : ℤ) → Rising kx ky (chain ++ next ∷ []) → TurnsLeft chain → TurnsLeft new)
    → ((kx ky : ℤ) → Rising kx ky (chain ++ next ∷ []) → AllByRecursion (Toward ky (pos 0 -ℤ kx) new) (chain ++ next ∷ []))
    → (kx ky : ℤ) → Rising kx ky points → IsChain kx ky (take (n + 1) points) new
chain_more points chain new next n h is before front turns side kx ky r =
    let more : take (n + 1) points ≡ take n points ++ next ∷ [] = (take_at_read points n next h).1 ∙ ap (λ z. take n points ++ z ∷ []) (sym is) in
    subst (λ z. IsChain kx ky z new) (sym more)
    (chain_step kx ky (take n points) chain new next (before kx ky r) (subst (Rising kx ky) more (rising_take kx ky points (n + 1) (omega arith) r)) front (turns kx ky) (side kx ky))

pub front_few : (chain new : List Pt) (next : Pt) (n : ℕ) → KeepsFront chain next new → length chain ≤ n → length new ≤ n + 1
front_few chain new next n f h =
    let w = f.within in
    let k : length (take f.count chain) ≡ f.count = simp length-take (omega arith) in
    let s : length new ≡ f.count + 1 = ap length f.items ∙ simp length-append (omega (arith, k)) in
    omega (arith, s)

take_past : (xs : List Pt) (n : ℕ) → length xs ≤ n → take n xs ≡ xs
take_past [] zero h = refl
take_past [] (suc n) h = refl
take_past (x ∷ xs) zero h = absurd (omega arith)
take_past (x ∷ xs) (suc n) h = ap (λ l. x ∷ l) (take_past xs n (omega arith))

pub whole_chain : (kx ky : ℤ) (points chain : List Pt) (n : ℕ) → length points ≤ n → IsChain kx ky (take n points) chain → IsChain kx ky points chain
whole_chain kx ky points chain n h c = subst (λ z. IsChain kx ky z chain) (take_past points n h) c
