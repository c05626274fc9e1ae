-- A search that goes on from one entry after the other until none is left.
use Rattle.std.proofs.Common.{◌≡◌, ◌⊎◌, inl, inr, ℕ, ◌+◌, ◌≤◌, ◌<◌, arith, refl, sym, ap, ◌∙◌, subst, List, [], ◌∷◌, length}
use Rattle.std.specs.Prelude.{slice_get, Some, Option}
use Rattle.std.specs.List.Sorted.{IsPermutation}
use Rattle.std.proofs.lemmas.List.Sorted.{IsPermutation-sym, length_permutation}
use Rattle.std.proofs.lemmas.Option.{slice_get_within, same_Some}
use Rattle.spot_terms.specs.Cells.{Lane, cells}
use Rattle.spot_terms.specs.Lists.{Includes}
use Rattle.spot_terms.specs.Routes.{IsStartCell}
use Rattle.spot_terms.specs.declared.plain.Pt.{Pt}
use Rattle.lanelets.specs.Beside.{IsBeside}
use Rattle.lane_paths.specs.declared.shortest_lengths.ShortestLengths.{ShortestLengths}
use Rattle.lane_paths.specs.Edges.{Edge, IsPathLength, at_first, by_edge, HasAtMost, ArePathLengths, AreFirst, sum_of}
use Rattle.lane_paths.specs.Relaxations.{AreSettled, HasPlaces, IsOpenOrDone, IsUnderWay, Relaxes, size_of}
use Rattle.lane_paths.specs.Waypoints.{entry_at, start_at, Leaves, from_start, from_entry, Enters, to_end, to_entry, IsLink, LinksOf, LinksFromStart}
use Rattle.lane_paths.proofs.FrontierLists.{includes_moved}
use Rattle.lane_paths.proofs.RelaxLaws.{most_kept}

-- a length that is written twice
number : (xs : List (Option ℕ)) (i k m : ℕ) → slice_get xs i ≡ Some (Some k) → slice_get xs i ≡ Some (Some m) → k ≡ m
number xs i k m h g = same_Some k m (same_Some (Some k) (Some m) (sym h ∙ g))

-- ---- the lengths stay made of the first ones

pub made_relaxed : (lanes : List Lane) (p : Pt) (P : Edge → Type 0) (j m : ℕ) (first : List (Option ℕ)) (a b : ShortestLengths) → ((e : Edge) → P e → (e.from ≡ j) × IsLink lanes p e) → slice_get a.lengths j ≡ Some (Some m)
    → ArePathLengths (IsLink lanes p) a.limit first a.lengths → Relaxes P m a b → ArePathLengths (IsLink lanes p) b.limit first b.lengths
made_relaxed lanes p P j m first a b links j_is u g = subst (λ (z : ℕ). ArePathLengths (IsLink lanes p) z first b.lengths) (sym g.limit_same) (record {
  reached = λ i k is. elim (g.made i k is) [
    | inl old ↦ u.reached i k old
    | inr (e, h, to, sum, low) ↦
        let (from, link) = links e h in
        subst (λ (z : ℕ). IsPathLength (IsLink lanes p) a.limit first z k) to
        (subst (λ (z : ℕ). IsPathLength (IsLink lanes p) a.limit first e.to z) (sym sum)
        (by_edge e m link (subst (λ (z : ℕ). IsPathLength (IsLink lanes p) a.limit first z m) (sym from) (u.reached j m j_is)) (subst (λ (z : ℕ). z ≤ a.limit) sum low)))
  ];
  kept = λ i k is. most_kept P m i k a b g (u.kept i k is);
})

-- ---- each length is open or done

-- no link leads on from the hull of a cell
leaves_high : (lanes : List Lane) (p : Pt) (c i : ℕ) (w : List Pt) → Leaves lanes p c i w → length (cells lanes) ≤ i
leaves_high lanes p c _ _ (from_start s k b) = omega arith
leaves_high lanes p c _ _ (from_entry f a g b) = omega arith

-- what is entered is the hull of a cell or an entry
enters_low : (lanes : List Lane) (p : Pt) (c j : ℕ) (v : List Pt) → Enters lanes p c j v → (j < length (cells lanes)) ⊎ ((d : ℕ) × (d < length (cells lanes)) × (j ≡ length (cells lanes) + d))
enters_low lanes p c _ _ (to_end a g) = inl (slice_get_within (cells lanes) c a g)
enters_low lanes p c _ _ (to_entry d a s g) = inr (d, slice_get_within (cells lanes) d a g, refl)

-- a length that was lowered along links is open or done
lowered_open : (lanes : List Lane) (p : Pt) (P : Edge → Type 0) (m : ℕ) (a b : ShortestLengths) → ((e : Edge) → P e → IsLink lanes p e) → HasPlaces lanes a → Relaxes P m a b
    → (i k : ℕ) → slice_get b.lengths i ≡ Some (Some k) → (slice_get a.lengths i ≡ Some (Some k)) ⊎ IsOpenOrDone lanes p b i k
lowered_open lanes p P m a b links places g i k is = elim (g.made i k is) [
  | inl old ↦ inl old
  | inr (e, h, to, sum, low) ↦ let l = links e h in elim (enters_low lanes p l.0 e.to l.1.v l.1.enters) [
    | inl end ↦ inr (inr (λ f f_link from f_low. absurd (let high = leaves_high lanes p f_link.0 f.from f_link.1.w f_link.1.leaves in omega (arith, high, end, to, from))))
    | inr (d, d_in, d_is) ↦
        let n = places.count_is in
        let at : i ≡ a.count + d = omega (arith, to, d_is, n) in
        elim (g.noted d k (subst (λ (z : ℕ). slice_get b.lengths z ≡ Some (Some k)) at is)) [
          | inl old ↦ inl (subst (λ (z : ℕ). slice_get a.lengths z ≡ Some (Some k)) (sym at) old)
          | inr new ↦ let same = g.count_same in inr (inl (d, omega (arith, at, same), new))
        ]
  ]
]

-- what was done stays done
done_on : (lanes : List Lane) (p : Pt) (P : Edge → Type 0) (m i k : ℕ) (a b : ShortestLengths) → Relaxes P m a b → ((e : Edge) → IsLink lanes p e → e.from ≡ i → k + e.gap ≤ a.limit → HasAtMost a.lengths e.to (k + e.gap)) → IsOpenOrDone lanes p b i k
done_on lanes p P m i k a b g done = inr (λ e link from low. most_kept P m e.to (k + e.gap) a b g (done e link from (subst (λ (z : ℕ). k + e.gap ≤ z) g.limit_same low)))

-- ---- the start

pub started : (lanes : List Lane) (p : Pt) (starts : List ℕ) (a b : ShortestLengths) → ((s : ℕ) → IsStartCell lanes p s → Includes starts s) → HasPlaces lanes a → AreFirst a.count a.lengths → Relaxes (LinksFromStart lanes p starts) 0 a b
    → IsUnderWay lanes p a.lengths b
started lanes p starts a b every places begun g = record {
  made = made_relaxed lanes p (LinksFromStart lanes p starts) (start_at lanes p) 0 a.lengths a b (λ e (from, s, c, j, h, l). (from, (c, l))) start_is (record { reached = λ i m h. at_first i m h; kept = λ i m h. (m, h, omega arith) }) g;
  open_or_done = λ i k is. elim (lowered_open lanes p (LinksFromStart lanes p starts) 0 a b (λ e (from, s, c, j, h, l). (c, l)) places g i k is) [
    | inl old ↦ let (i_is, k_is) = begun.only i k old in inr (λ e link from low. from_here i k i_is k_is e link from low)
    | inr h ↦ h
  ];
}
  where
    start_is : slice_get a.lengths (start_at lanes p) ≡ Some (Some 0)
    start_is = subst (λ (n : ℕ). slice_get a.lengths (n + n) ≡ Some (Some 0)) places.count_is begun.start

    leaves_start : (c i : ℕ) (w : List Pt) → Leaves lanes p c i w → i ≡ start_at lanes p → (s : ℕ) × IsStartCell lanes p s × IsBeside lanes (cells lanes) c s
    leaves_start c _ _ (from_start s k b) e = (s, k, b)
    leaves_start c _ _ (from_entry f x h b) e = absurd (let l = slice_get_within (cells lanes) f x h in omega (arith, l, e))

    from_here : (i k : ℕ) → i ≡ a.count + a.count → k ≡ 0 → (e : Edge) → IsLink lanes p e → e.from ≡ i → k + e.gap ≤ b.limit → HasAtMost b.lengths e.to (k + e.gap)
    from_here i k i_is k_is e (c, l) from low =
        let n = places.count_is in
        let at : e.from ≡ start_at lanes p = omega (arith, from, i_is, n) in
        let (s, s_is, beside) = leaves_start c e.from l.w l.leaves at in
        subst (λ (z : ℕ). HasAtMost b.lengths e.to (z + e.gap)) (sym k_is)
        (g.settled e (at, s, c, every s s_is, beside, l) (let same = g.limit_same in omega (arith, low, k_is, same)))

-- ---- one entry after the other

-- what is known of a search from which a frontier entry was taken
pub record IsTaken (so_far d : ℕ) (before after : ShortestLengths) : Type 0 where
  pub count_is : after.count ≡ before.count
  pub limit_is : after.limit ≡ before.limit
  pub lengths_are : after.lengths ≡ before.lengths
  pub frontier : IsPermutation before.frontier ((so_far, d) ∷ after.frontier)

-- it is one of a cell
pub taken_within : (lanes : List Lane) (so_far d : ℕ) (a b : ShortestLengths) → HasPlaces lanes a → IsTaken so_far d a b → d < a.count
taken_within lanes so_far d a b places t = places.within (so_far, d) (includes_moved ((so_far, d) ∷ b.frontier) a.frontier (so_far, d) (IsPermutation-sym a.frontier ((so_far, d) ∷ b.frontier) t.frontier) (inl refl))

-- the places stay
pub taken_places : (lanes : List Lane) (so_far d : ℕ) (a b : ShortestLengths) → HasPlaces lanes a → IsTaken so_far d a b → HasPlaces lanes b
taken_places lanes so_far d a b places t = record {
  count_is = t.count_is ∙ places.count_is;
  many = ap length t.lengths_are ∙ places.many ∙ ap (λ (n : ℕ). n + n + 1) (sym t.count_is);
  within = λ x i. subst (λ (z : ℕ). x.1 < z) (sym t.count_is) (places.within x (includes_moved ((so_far, d) ∷ b.frontier) a.frontier x (IsPermutation-sym a.frontier ((so_far, d) ∷ b.frontier) t.frontier) (inr i)));
}

-- less is left to be done
pub taken_less : (so_far d : ℕ) (a b : ShortestLengths) → IsTaken so_far d a b → size_of b < size_of a
taken_less so_far d a b t =
    let l : length ((so_far, d) ∷ b.frontier) ≡ length a.frontier = length_permutation a.frontier ((so_far, d) ∷ b.frontier) t.frontier in
    let e = ap (λ (z : ℕ). sum_of z b.lengths) t.limit_is ∙ ap (sum_of a.limit) t.lengths_are in
    omega (arith, l, e)

-- the entry that was taken, or another that is still frontier
taken_or_left : (so_far d k q : ℕ) (a b : ShortestLengths) → IsTaken so_far d a b → Includes a.frontier (k, q) → ((k ≡ so_far) × (q ≡ d)) ⊎ Includes b.frontier (k, q)
taken_or_left so_far d k q a b t i = elim (includes_moved a.frontier ((so_far, d) ∷ b.frontier) (k, q) t.frontier i) [
  | inl e ↦ inl (ap (λ (z : ℕ × ℕ). z.0) e, ap (λ (z : ℕ × ℕ). z.1) e)
  | inr j ↦ inr j
]

-- its length became less since, so that there is nothing to do
pub passed_over : (lanes : List Lane) (p : Pt) (first : List (Option ℕ)) (so_far d : ℕ) (a b : ShortestLengths) → IsTaken so_far d a b → (slice_get a.lengths (a.count + d) ≡ Some (Some so_far) → ⊥) → IsUnderWay lanes p first a → IsUnderWay lanes p first b
passed_over lanes p first so_far d a b t other u = record {
  made = subst (λ (z : ℕ). ArePathLengths (IsLink lanes p) z first b.lengths) (sym t.limit_is) (subst (λ (z : List (Option ℕ)). ArePathLengths (IsLink lanes p) a.limit first z) (sym t.lengths_are) u.made);
  open_or_done = λ i k is.
      let old : slice_get a.lengths i ≡ Some (Some k) = subst (λ (z : List (Option ℕ)). slice_get z i ≡ Some (Some k)) t.lengths_are is in
      elim (u.open_or_done i k old) [
        | inl (q, q_is, j) ↦ elim (taken_or_left so_far d k q a b t j) [
          | inl (k_is, same) ↦ absurd (other (subst (λ (z : ℕ). slice_get a.lengths (a.count + d) ≡ Some (Some z)) k_is (subst (λ (z : ℕ). slice_get a.lengths z ≡ Some (Some k)) (q_is ∙ ap (λ (z : ℕ). a.count + z) same) old)))
          | inr left ↦ inl (q, let c = t.count_is in omega (arith, q_is, c), left)
        ]
        | inr done ↦ inr (λ e link from low. subst (λ (z : List (Option ℕ)). HasAtMost z e.to (k + e.gap)) (sym t.lengths_are) (done e link from (subst (λ (z : ℕ). k + e.gap ≤ z) t.limit_is low)))
      ];
}

-- it was gone on from
pub gone_on : (lanes : List Lane) (p : Pt) (first : List (Option ℕ)) (so_far d : ℕ) (a b c : ShortestLengths) → HasPlaces lanes a → IsTaken so_far d a b → slice_get a.lengths (a.count + d) ≡ Some (Some so_far)
    → Relaxes (LinksOf lanes p (entry_at lanes p d)) so_far b c → IsUnderWay lanes p first a → IsUnderWay lanes p first c
gone_on lanes p first so_far d a b c places t at g u = record {
  made = made_relaxed lanes p (LinksOf lanes p (entry_at lanes p d)) (entry_at lanes p d) so_far first b c (λ e l. l)
      (subst (λ (z : List (Option ℕ)). slice_get z (entry_at lanes p d) ≡ Some (Some so_far)) (sym t.lengths_are) (subst (λ (z : ℕ). slice_get a.lengths (z + d) ≡ Some (Some so_far)) places.count_is at))
      (subst (λ (z : ℕ). ArePathLengths (IsLink lanes p) z first b.lengths) (sym t.limit_is) (subst (λ (z : List (Option ℕ)). ArePathLengths (IsLink lanes p) a.limit first z) (sym t.lengths_are) u.made)) g;
  open_or_done = λ i k is. elim (lowered_open lanes p (LinksOf lanes p (entry_at lanes p d)) so_far b c (λ e l. l.1) (taken_places lanes so_far d a b places t) g i k is) [
    | inl old ↦ before i k (subst (λ (z : List (Option ℕ)). slice_get z i ≡ Some (Some k)) t.lengths_are old)
    | inr h ↦ h
  ];
}
  where
    before : (i k : ℕ) → slice_get a.lengths i ≡ Some (Some k) → IsOpenOrDone lanes p c i k
    before i k old = elim (u.open_or_done i k old) [
      | inl (q, q_is, j) ↦ elim (taken_or_left so_far d k q a b t j) [
        | inl (k_is, same) ↦ inr (λ e link from low.
            let n = places.count_is in
            let here : e.from ≡ entry_at lanes p d = omega (arith, from, q_is, same, n) in
            subst (λ (z : ℕ). HasAtMost c.lengths e.to (z + e.gap)) (sym k_is)
            (g.settled e (here, link) (let l = g.limit_same in omega (arith, low, l, k_is))))
        | inr left ↦ inl (q, let x = t.count_is in let y = g.count_same in omega (arith, q_is, x, y), g.waits (k, q) left)
      ]
      | inr done ↦ done_on lanes p (LinksOf lanes p (entry_at lanes p d)) so_far i k b c g
          (λ e link from low. subst (λ (z : List (Option ℕ)). HasAtMost z e.to (k + e.gap)) (sym t.lengths_are) (done e link from (subst (λ (z : ℕ). k + e.gap ≤ z) t.limit_is low)))
    ]

-- none is left
pub none_left : (lanes : List Lane) (p : Pt) (limit : ℕ) (first : List (Option ℕ)) (s : ShortestLengths) → s.limit ≡ limit → s.frontier ≡ [] → IsUnderWay lanes p first s → AreSettled lanes p limit first s.lengths
none_left lanes p limit first s same none u = record {
  made = subst (λ (z : ℕ). ArePathLengths (IsLink lanes p) z first s.lengths) same u.made;
  settled = λ e link m is low. elim (u.open_or_done e.from m is) [
    | inl (q, q_is, j) ↦ absurd (subst (λ (z : List (ℕ × ℕ)). Includes z (m, q)) none j)
    | inr done ↦ done e link refl (subst (λ (z : ℕ). m + e.gap ≤ z) (sym same) low)
  ];
}

-- nothing was frontier
pub places_same : (lanes : List Lane) (a b : ShortestLengths) → b.count ≡ a.count → b.lengths ≡ a.lengths → b.frontier ≡ a.frontier → HasPlaces lanes a → HasPlaces lanes b
places_same lanes a b count lengths frontier places = record {
  count_is = count ∙ places.count_is;
  many = ap length lengths ∙ places.many ∙ ap (λ (n : ℕ). n + n + 1) (sym count);
  within = λ x i. subst (λ (z : ℕ). x.1 < z) (sym count) (places.within x (subst (λ (z : List (ℕ × ℕ)). Includes z x) frontier i));
}

-- as the code takes one
pub taken : (so_far d : ℕ) (a : ShortestLengths) (left : List (ℕ × ℕ)) → IsPermutation a.frontier ((so_far, d) ∷ left) → IsTaken so_far d a (record { count = a.count; limit = a.limit; lengths = a.lengths; frontier = left })
taken so_far d a left h = record { count_is = refl; limit_is = refl; lengths_are = refl; frontier = h }
