-- The discs of recorded traffic, one by one.
use Rattle.std.proofs.Common.{set, ◌⊎◌, ◌≡◌, ◌∙◌, ◌≢◌, ℕ, ◌+◌, ◌<◌, ◌≤◌, ◌==◌, inl, inr, List, [], ◌∷◌, ◌++◌, map, filter, length, take, get_or, Bool, true, false, refl, sym, ap, subst, arith, append_assoc, append-nil, cond, length-append, ℤ}
use Rattle.std.specs.Prelude.{slice_index_or}
use Rattle.std.proofs.lemmas.Bool.Decides.{nat_tests}
use Rattle.std.proofs.lemmas.List.{map-append, take_more, get_or_append_left, get_or-set_other, length-set}
use Rattle.std.proofs.lemmas.Grind.{get_or-set_at}
use Rattle.spot_terms.proofs.Places.{compare3}
use Rattle.std.proofs.lemmas.List.Elements.{filter_more}
use Rattle.std.proofs.Math.Seq.{get_or-append_seam}
use Rattle.spot_terms.specs.OccupiedPieces.{fixed_disc, recorded_disc}
use Rattle.spot_terms.specs.declared.plain.Disc.{Disc}
use Rattle.spot_terms.specs.declared.scenario.Fixed.{Fixed}
use Rattle.spot_terms.specs.declared.scenario.Mover.{Mover}
use Rattle.spot_terms.specs.declared.scenario.Scenario.{Scenario}
use Rattle.spot_terms.proofs.Orders.{below_or_here}
use Rattle.replay_sets.specs.Discs.{AreStanding, Follows, DiscLists, discs_at}

-- one more static obstacle
pub fixed_more : (radius : ℕ) (fixed : List Fixed) (i : ℕ) (d : Fixed) (discs new : List Disc) (x : Disc) → i < length fixed → discs ≡ map (fixed_disc radius) (take i fixed) → new ≡ discs ++ x ∷ [] → x ≡ fixed_disc radius (get_or fixed i d)
    → new ≡ map (fixed_disc radius) (take (i + 1) fixed)
fixed_more radius fixed i d discs new x h e n is =
    n ∙ (ap (λ (xs : List Disc). xs ++ x ∷ []) e ∙ (ap (λ (y : Disc). map (fixed_disc radius) (take i fixed) ++ y ∷ []) is
    ∙ sym (ap (map (fixed_disc radius)) (take_more fixed i d h) ∙ map-append (fixed_disc radius) (take i fixed) (get_or fixed i d ∷ []))))

-- one more step
pub step_more : (s : Scenario) (radius n : ℕ) (all new : DiscLists) (x : List Disc) → AreStanding s radius n all → new ≡ all ++ x ∷ [] → x ≡ map (fixed_disc radius) s.fixed → AreStanding s radius (n + 1) new
step_more s radius n all new x h e is = subst (λ (r : DiscLists). AreStanding s radius (n + 1) r) (sym e) (record {
  long = length-append all (x ∷ []) ∙ (let l = h.long in omega (arith, l));
  each = λ i less. elim (below_or_here i n less) [
    | inl before ↦ get_or_append_left all (x ∷ []) [] i (let l = h.long in omega (arith, l, before)) ∙ h.each i before
    | inr here ↦ ap (λ (k : ℕ). slice_index_or (all ++ x ∷ []) k []) (here ∙ sym h.long) ∙ (get_or-append_seam all x [] [] ∙ is)
  ];
})

-- ---- recorded states

module _ (radius : ℕ) (m : Mover) where
  abbrev pub added_before : ℕ → ℕ → List Disc
  added_before j step = map (recorded_disc radius m) (filter (λ (state : ℕ × ℤ × ℤ). state.0 == step) (take j m.recorded))

  more : (j step : ℕ) (d : ℕ × ℤ × ℤ) → j < length m.recorded → added_before (j + 1) step
      ≡ added_before j step ++ map (recorded_disc radius m) (cond ((get_or m.recorded j d).0 == step) (get_or m.recorded j d ∷ []) [])
  more j step d h = ap (map (recorded_disc radius m)) (filter_more (λ (state : ℕ × ℤ × ℤ). state.0 == step) m.recorded j d h)
      ∙ map-append (recorded_disc radius m) (filter (λ (state : ℕ × ℤ × ℤ). state.0 == step) (take j m.recorded)) (cond ((get_or m.recorded j d).0 == step) (get_or m.recorded j d ∷ []) [])

  here : (j step : ℕ) (d : ℕ × ℤ × ℤ) → j < length m.recorded → (get_or m.recorded j d).0 ≡ step → added_before (j + 1) step ≡ added_before j step ++ recorded_disc radius m (get_or m.recorded j d) ∷ []
  here j step d h e = more j step d h ∙ ap (λ (b : Bool). added_before j step ++ map (recorded_disc radius m) (cond b (get_or m.recorded j d ∷ []) [])) (same (get_or m.recorded j d).0 e)
    where
      same : (n : ℕ) → n ≡ step → (n == step) ≡ true
      same n e = grind (arith, nat_tests)

  elsewhere : (j step : ℕ) (d : ℕ × ℤ × ℤ) → j < length m.recorded → (get_or m.recorded j d).0 ≢ step → added_before (j + 1) step ≡ added_before j step
  elsewhere j step d h e = more j step d h ∙ (ap (λ (b : Bool). added_before j step ++ map (recorded_disc radius m) (cond b (get_or m.recorded j d ∷ []) [])) (other (get_or m.recorded j d).0 e) ∙ append-nil (added_before j step))
    where
      other : (n : ℕ) → n ≢ step → (n == step) ≡ false
      other n e = grind (arith, nat_tests)

  pub none_added : (old : DiscLists) → Follows old old (added_before 0)
  none_added old = record { long = refl; each = λ i h. sym (append-nil (discs_at old i)) }

  -- a state at a step that is there
  pub put_here : (old now new : DiscLists) (j : ℕ) (d : ℕ × ℤ × ℤ) (item list : List Disc) → j < length m.recorded → (get_or m.recorded j d).0 < length now → item ≡ get_or now (get_or m.recorded j d).0 []
      → list ≡ item ++ recorded_disc radius m (get_or m.recorded j d) ∷ [] → new ≡ set now (get_or m.recorded j d).0 list → Follows old now (added_before j) → Follows old new (added_before (j + 1))
  put_here old now new j d item list h there was is e f = subst (λ (r : DiscLists). Follows old r (added_before (j + 1))) (sym e) (record {
    long = length-set now (get_or m.recorded j d).0 list ∙ f.long;
    each = λ i less. elim (by_number i (get_or m.recorded j d).0) [
      | inl same ↦ get_or-set_at now (get_or m.recorded j d).0 i list [] same there
          ∙ (is ∙ (ap (λ (xs : List Disc). xs ++ recorded_disc radius m (get_or m.recorded j d) ∷ []) (was ∙ (ap (λ (k : ℕ). get_or now k []) (sym same) ∙ f.each i less))
          ∙ (append_assoc (discs_at old i) (added_before j i) (recorded_disc radius m (get_or m.recorded j d) ∷ []) ∙ ap (λ (xs : List Disc). discs_at old i ++ xs) (sym (here j i d h (sym same))))))
      | inr other ↦ get_or-set_other now (get_or m.recorded j d).0 i list [] other
          ∙ (f.each i less ∙ ap (λ (xs : List Disc). discs_at old i ++ xs) (sym (elsewhere j i d h (λ e. other (sym e)))))
    ];
  })
    where
      by_number : (a b : ℕ) → (a ≡ b) ⊎ (a ≢ b)
      by_number a b = compare3 a b (λ l. inr (λ e. omega (arith, l, e))) (λ e. inl e) (λ l. inr (λ e. omega (arith, l, e)))

  -- a state after the last step
  pub put_past : (old now : DiscLists) (j : ℕ) (d : ℕ × ℤ × ℤ) → j < length m.recorded → length now ≤ (get_or m.recorded j d).0 → Follows old now (added_before j) → Follows old now (added_before (j + 1))
  put_past old now j d h past f = record {
    long = f.long;
    each = λ i less. f.each i less ∙ ap (λ (xs : List Disc). discs_at old i ++ xs) (sym (elsewhere j i d h (λ e. let l = f.long in omega (arith, l, e, less, past))));
  }

  pub put_here_in : (items : List (ℕ × ℤ × ℤ)) → items ≡ m.recorded → (old now new : DiscLists) (j : ℕ) (d : ℕ × ℤ × ℤ) (item list : List Disc) → j < length items → (get_or items j d).0 < length now → item ≡ get_or now (get_or items j d).0 []
      → list ≡ item ++ recorded_disc radius m (get_or items j d) ∷ [] → new ≡ set now (get_or items j d).0 list → Follows old now (added_before j) → Follows old new (added_before (j + 1))
  put_here_in items same old now new j d item list h there was is e f = put_here old now new j d item list (subst (λ (xs : List (ℕ × ℤ × ℤ)). j < length xs) same h)
      (subst (λ (xs : List (ℕ × ℤ × ℤ)). (get_or xs j d).0 < length now) same there) (subst (λ (xs : List (ℕ × ℤ × ℤ)). item ≡ get_or now (get_or xs j d).0 []) same was)
      (subst (λ (xs : List (ℕ × ℤ × ℤ)). list ≡ item ++ recorded_disc radius m (get_or xs j d) ∷ []) same is) (subst (λ (xs : List (ℕ × ℤ × ℤ)). new ≡ set now (get_or xs j d).0 list) same e) f
