-- Children in order, and lanelets by their ids.
use Rattle.spot_terms.specs.Ranges.{IsLaneInRange}
use Rattle.std.proofs.Common.{◌≡◌, ◌∙◌, ◌⊎◌, inl, inr, ℕ, zero, suc, ◌+◌, ◌<◌, ◌≤◌, List, [], ◌∷◌, ◌++◌, length, take, get_or, Some, None, Bool, true, false, cond, refl, sym, ap, subst, arith, nat_eq, codes, append-nil, take_all}
use Rattle.std.specs.List.{filter}
use Rattle.std.specs.Map.{lookup}
use Rattle.std.proofs.lemmas.Bool.Decides.{eqb_tells}
use Rattle.std.proofs.lemmas.List.Elements.{filter_more}
use Rattle.spot_terms.proofs.ListLemmas.{includes_front, includes_taken, pairwise_push}
use Rattle.spot_terms.specs.Lists.{Includes, Pairwise}
use Rattle.spot_terms.specs.declared.scenario.RawLane.{RawLane}
use Rattle.spot_claims.specs.Tree.{Element, Rising, is_called, all_named}
use Rattle.spot_claims.specs.Paths.{at_path, lanelets, id_at}
use Rattle.spot_claims.specs.Profile.{IsAccepted}
use Rattle.spot_claims.specs.Scenario.{IsLane}
use Rattle.scenario.specs.Has.{HasBounds, AllBounds}
use Rattle.scenario.specs.Lanes.{AddsLane, AreInRange}
use Rattle.scenario.proofs.Accepts.{not_again}
use Rattle.scenario.proofs.Members.{each_more}
use Rattle.spot_terms.proofs.Orders.{true_not_false}

-- ---- numbers that rise

pub low_before : (low : ℕ) (cs : List ℕ) (i d : ℕ) → Rising low cs → i < length cs → low ≤ get_or cs i d
low_before low [] i d r h = absurd (omega arith)
low_before low (c ∷ cs) zero d r h = r.0
low_before low (c ∷ cs) (suc i) d r h = let k = low_before (c + 1) cs i d r.1 (omega arith) in omega (arith, k, r.0)

pub rising_before : (low : ℕ) (cs : List ℕ) (i d x : ℕ) → Rising low cs → i < length cs → Includes (take i cs) x → x < get_or cs i d
rising_before low [] i d x r h k = absurd (omega arith)
rising_before low (c ∷ cs) zero d x r h k = absurd k
rising_before low (c ∷ cs) (suc i) d x r h (inl s) = let k = low_before (c + 1) cs i d r.1 (omega arith) in omega (arith, k, s)
rising_before low (c ∷ cs) (suc i) d x r h (inr k) = rising_before (c + 1) cs i d x r.1 (omega arith) k

-- ---- what a filter keeps

filter_cons : (p : ℕ → Bool) (x : ℕ) (xs : List ℕ) (b : Bool) → p x ≡ b → filter p (x ∷ xs) ≡ cond b (x ∷ filter p xs) (filter p xs)
filter_cons p x xs b e = ap (λ t. cond t (x ∷ filter p xs) (filter p xs)) e

in_filter_by : (p : ℕ → Bool) (y : ℕ) (ys : List ℕ) (x : ℕ) (b : Bool) → (Includes (filter p ys) x → Includes ys x × (p x ≡ true)) → p y ≡ b → Includes (cond b (y ∷ filter p ys) (filter p ys)) x → Includes (y ∷ ys) x × (p x ≡ true)
in_filter_by p y ys x true rest e (inl s) = (inl s, ap p s ∙ e)
in_filter_by p y ys x true rest e (inr h) = let k = rest h in (inr k.0, k.1)
in_filter_by p y ys x false rest e h = let k = rest h in (inr k.0, k.1)

pub in_filter : (p : ℕ → Bool) (xs : List ℕ) (x : ℕ) → Includes (filter p xs) x → Includes xs x × (p x ≡ true)
in_filter p [] x h = absurd h
in_filter p (y ∷ ys) x h = in_filter_by p y ys x (p y) (in_filter p ys x) refl h

filter_in_by : (p : ℕ → Bool) (y : ℕ) (ys : List ℕ) (x : ℕ) (b : Bool) → p y ≡ b → (x ≡ y) ⊎ Includes (filter p ys) x → p x ≡ true → Includes (cond b (y ∷ filter p ys) (filter p ys)) x
filter_in_by p y ys x true e (inl s) k = inl s
filter_in_by p y ys x true e (inr h) k = inr h
filter_in_by p y ys x false e (inl s) k = absurd (true_not_false (p x) k (ap p s ∙ e))
filter_in_by p y ys x false e (inr h) k = h

pub filter_in : (p : ℕ → Bool) (xs : List ℕ) (x : ℕ) → Includes xs x → p x ≡ true → Includes (filter p xs) x
filter_in p [] x h k = absurd h
filter_in p (y ∷ ys) x (inl s) k = filter_in_by p y ys x (p y) refl (inl s) k
filter_in p (y ∷ ys) x (inr h) k = filter_in_by p y ys x (p y) refl (inr (filter_in p ys x h k)) k

take_in : (xs : List ℕ) (i x : ℕ) → Includes (take i xs) x → Includes xs x
take_in [] zero x h = absurd h
take_in [] (suc i) x h = absurd h
take_in (y ∷ ys) zero x h = absurd h
take_in (y ∷ ys) (suc i) x (inl s) = inl s
take_in (y ∷ ys) (suc i) x (inr h) = inr (take_in ys i x h)

-- ---- ids that aren't there yet

other_key : (i k : ℕ) → (i ≡ k → ⊥) → nat_eq i k ≡ false
other_key i k h = elim (eqb_tells i k) [ inl a ↦ absurd (h a.1) | inr a ↦ a.0 ]

look_past : (i : ℕ) (entry : ℕ × RawLane) (entries : List (ℕ × RawLane)) → nat_eq i entry.0 ≡ false → lookup (nat_eq i) (entry ∷ entries) ≡ lookup (nat_eq i) entries
look_past i entry entries e = ap (λ b. cond b (Some entry.1) (lookup (nat_eq i) entries)) e

fresh : (tree : List Element) → IsAccepted tree → (e i : ℕ) → Includes (at_path tree lanelets) e → id_at tree e ≡ Some i → (ds : List ℕ) (entries : List (ℕ × RawLane)) → Pairwise (IsLane tree) ds entries
    → ((d : ℕ) → Includes ds d → Includes (at_path tree lanelets) d × (d < e)) → lookup (nat_eq i) entries ≡ None
fresh tree ok e i here has [] [] p before = refl
fresh tree ok e i here has [] (entry ∷ entries) p before = absurd p
fresh tree ok e i here has (d ∷ ds) [] p before = absurd p
fresh tree ok e i here has (d ∷ ds) (entry ∷ entries) p before =
    let at = before d (inl refl) in
    let lane = p.0 in
    let apart : i ≡ entry.0 → ⊥ = λ s. not_again tree ok d e i at.0 here at.1 has (lane.id ∙ ap Some (sym s)) in
    look_past i entry entries (other_key i entry.0 apart) ∙ fresh tree ok e i here has ds entries p.1 (λ x h. before x (inr h))

abbrev pub IsLanelet : List Element → ℕ → Bool
IsLanelet tree = is_called tree (codes "lanelet")

pub lanelet_in : (tree : List Element) (e : ℕ) → Includes (all_named tree (codes "lanelet") 0) e → Includes (at_path tree lanelets) e
lanelet_in tree e h = includes_front (all_named tree (codes "lanelet") 0) [] e h

pub fresh_lane : (tree : List Element) → IsAccepted tree → (cs : List ℕ) (n i : ℕ) (entries : List (ℕ × RawLane)) → ((x : ℕ) → Includes (filter (IsLanelet tree) cs) x → Includes (at_path tree lanelets) x) → Rising 0 cs → n < length cs → IsLanelet tree (get_or cs n 0) ≡ true
    → Includes (at_path tree lanelets) (get_or cs n 0) → id_at tree (get_or cs n 0) ≡ Some i → Pairwise (IsLane tree) (filter (IsLanelet tree) (take n cs)) entries → lookup (nat_eq i) entries ≡ None
fresh_lane tree ok cs n i entries inside rises h called here has p = fresh tree ok (get_or cs n 0) i here has (filter (IsLanelet tree) (take n cs)) entries p
    (λ d k. let m = in_filter (IsLanelet tree) (take n cs) d k in (inside d (filter_in (IsLanelet tree) cs d (take_in cs n d m.0) m.1), rising_before 0 cs n 0 d rises h m.0))

-- ---- one lanelet more

pub lanes_more : (tree : List Element) (cs : List ℕ) (n : ℕ) (before after : List (ℕ × RawLane)) → n < length cs → IsLanelet tree (get_or cs n 0) ≡ true → AddsLane tree (get_or cs n 0) before after
    → Pairwise (IsLane tree) (filter (IsLanelet tree) (take n cs)) before → Pairwise (IsLane tree) (filter (IsLanelet tree) (take (n + 1) cs)) after
lanes_more tree cs n before after h called adds p =
    let x = get_or cs n 0 in
    let more : filter (IsLanelet tree) (take (n + 1) cs) ≡ filter (IsLanelet tree) (take n cs) ++ x ∷ [] = filter_more (IsLanelet tree) cs n 0 h ∙ ap (λ b. filter (IsLanelet tree) (take n cs) ++ cond b (x ∷ []) []) called in
    let P : List ℕ → Type 0 = λ l. Pairwise (IsLane tree) l after in
    let Q : List (ℕ × RawLane) → Type 0 = λ l. Pairwise (IsLane tree) (filter (IsLanelet tree) (take n cs) ++ x ∷ []) l in
    subst P (sym more) (subst Q (sym adds.after_is) (pairwise_push (IsLane tree) (filter (IsLanelet tree) (take n cs)) before x adds.entry p adds.is))

pub lanes_same : (tree : List Element) (cs : List ℕ) (n : ℕ) (entries : List (ℕ × RawLane)) → n < length cs → IsLanelet tree (get_or cs n 0) ≡ false
    → Pairwise (IsLane tree) (filter (IsLanelet tree) (take n cs)) entries → Pairwise (IsLane tree) (filter (IsLanelet tree) (take (n + 1) cs)) entries
lanes_same tree cs n entries h called p =
    let x = get_or cs n 0 in
    let more : filter (IsLanelet tree) (take (n + 1) cs) ≡ filter (IsLanelet tree) (take n cs) ++ [] = filter_more (IsLanelet tree) cs n 0 h ∙ ap (λ b. filter (IsLanelet tree) (take n cs) ++ cond b (x ∷ []) []) called in
    let P : List ℕ → Type 0 = λ l. Pairwise (IsLane tree) l entries in
    subst P (sym (more ∙ append-nil (filter (IsLanelet tree) (take n cs)))) p

pub ranges_more : (tree : List Element) (e : ℕ) (before after : List (ℕ × RawLane)) → AddsLane tree e before after → AreInRange before → AreInRange after
ranges_more tree e before after adds h = each_more (λ p. IsLaneInRange p.1) before after adds.entry adds.after_is h adds.within

pub lanes_end : (tree : List Element) (cs : List ℕ) (n : ℕ) (entries : List (ℕ × RawLane)) → length cs ≤ n → filter (IsLanelet tree) cs ≡ all_named tree (codes "lanelet") 0 → Pairwise (IsLane tree) (filter (IsLanelet tree) (take n cs)) entries → Pairwise (IsLane tree) (at_path tree lanelets) entries
lanes_end tree cs n entries h same p =
    let P : List ℕ → Type 0 = λ l. Pairwise (IsLane tree) (filter (IsLanelet tree) l) entries in
    let Q : List ℕ → Type 0 = λ l. Pairwise (IsLane tree) l entries in
    subst Q (same ∙ sym (append-nil (all_named tree (codes "lanelet") 0))) (subst P (take_all n cs h) p)

-- ---- the points of lanelets

pub bounds_more : (tree : List Element) (cs : List ℕ) (n : ℕ) → n < length cs → (IsLanelet tree (get_or cs n 0) ≡ true → HasBounds tree (get_or cs n 0))
    → ((e : ℕ) → Includes (filter (IsLanelet tree) (take n cs)) e → HasBounds tree e) → (e : ℕ) → Includes (filter (IsLanelet tree) (take (n + 1) cs)) e → HasBounds tree e
bounds_more tree cs n h at has = λ e listed.
    let k = in_filter (IsLanelet tree) (take (n + 1) cs) e listed in
    elim (includes_taken cs n 0 e h k.0) [
      | inl l ↦ has e (filter_in (IsLanelet tree) (take n cs) e l k.1)
      | inr s ↦ let P : ℕ → Type 0 = λ x. HasBounds tree x in subst P (sym s) (at (ap (IsLanelet tree) (sym s) ∙ k.1))
    ]

pub bounds_end : (tree : List Element) (cs : List ℕ) (n : ℕ) → length cs ≤ n → filter (IsLanelet tree) cs ≡ all_named tree (codes "lanelet") 0 → ((e : ℕ) → Includes (filter (IsLanelet tree) (take n cs)) e → HasBounds tree e) → AllBounds tree
bounds_end tree cs n h same has =
    let P : List ℕ → Type 0 = λ l. (e : ℕ) → Includes (filter (IsLanelet tree) l) e → HasBounds tree e in
    let Q : List ℕ → Type 0 = λ l. (e : ℕ) → Includes l e → HasBounds tree e in
    subst Q (same ∙ sym (append-nil (all_named tree (codes "lanelet") 0))) (subst P (take_all n cs h) has)
