-- Lists of numbers that rise, and what they gain.
use Rattle.std.proofs.Common.{◌≡◌, ◌⊎◌, inl, inr, ℕ, zero, suc, ◌+◌, ◌-◌, ◌<◌, ◌≤◌, List, [], ◌∷◌, ◌++◌, length, refl, sym, ap, subst, arith}
use Rattle.std.proofs.lemmas.Bool.{cases_eq}
use Rattle.std.specs.Prelude.{Some, slice_get}
use Rattle.std.specs.List.{AllByRecursion}
use Rattle.spot_terms.specs.Lists.{Includes, Rises, Lists}
use Rattle.spot_terms.proofs.ListLemmas.{all_included, all_of, includes_back, includes_either, includes_front}
use Rattle.lanelets.specs.Listing.{Gains, IsWith}

-- ---- rising

below_front : (x n : ℕ) (xs : List ℕ) → AllByRecursion (λ y. x < y) xs → x < n → AllByRecursion (λ y. x < y) (xs ++ n ∷ [])
below_front x n [] a h = (h, tt)
below_front x n (y ∷ xs) a h = (a.0, below_front x n xs a.1 h)

pub rises_push : (xs : List ℕ) (n : ℕ) → Rises xs → AllByRecursion (λ x. x < n) xs → Rises (xs ++ n ∷ [])
rises_push [] n r a = (tt, tt)
rises_push (x ∷ xs) n r a = (below_front x n xs r.0 a.0, rises_push xs n r.1 a.1)

-- where the last isn't n, all are below n
below_last : (xs : List ℕ) (m n : ℕ) → m + 1 ≡ length xs → Rises xs → AllByRecursion (λ x. x ≤ n) xs → (slice_get xs m ≡ Some n → ⊥) → AllByRecursion (λ x. x < n) xs
below_last [] m n e r a h = tt
below_last (x ∷ []) zero n e r a h = (elim (cases_eq x n) [ inl same ↦ absurd (h (ap (λ (k : ℕ). Some k) same)) | inr other ↦ (let low = a.0 in omega (arith, other, low)) ], tt)
below_last (x ∷ []) (suc m) n e r a h = absurd (omega (arith, e))
below_last (x ∷ y ∷ xs) zero n e r a h = absurd (omega (arith, e))
below_last (x ∷ y ∷ xs) (suc m) n e r a h =
    let rest = below_last (y ∷ xs) m n (omega (arith, e)) r.1 a.1 h in
    let up = r.0.0 in let low = rest.0 in (omega (arith, up, low), rest)

some_length : (xs : List ℕ) → (xs ≡ []) ⊎ (length xs - 1 + 1 ≡ length xs)
some_length [] = inl refl
some_length (x ∷ xs) = inr (omega arith)

all_below : (xs : List ℕ) (n : ℕ) → Rises xs → AllByRecursion (λ x. x ≤ n) xs → (slice_get xs (length xs - 1) ≡ Some n → ⊥) → AllByRecursion (λ x. x < n) xs
all_below xs n r a h = elim (some_length xs) [ inl none ↦ subst (λ (ys : List ℕ). AllByRecursion (λ x. x < n) ys) (sym none) tt | inr e ↦ below_last xs (length xs - 1) n e r a h ]

-- ---- gains

pub gains_same : (P : Type 0) (n : ℕ) (xs : List ℕ) → (P → Includes xs n) → Gains P n xs xs
gains_same P n xs h = record { keeps = λ x i. i; has = h; only = λ x i. inl i; rises = λ r a. r }

pub with_pushed : (n : ℕ) (xs : List ℕ) → (slice_get xs (length xs - 1) ≡ Some n → ⊥) → IsWith xs n (xs ++ n ∷ [])
with_pushed n xs h = record {
  keeps = λ x i. includes_front xs (n ∷ []) x i;
  has = λ u. includes_back xs (n ∷ []) n (inl refl);
  only = λ x i. elim (includes_either xs (n ∷ []) x i) [ inl j ↦ inl j | inr j ↦ elim j [ inl e ↦ inr (e, tt) | inr k ↦ absurd k ] ];
  rises = λ r a. rises_push xs n r (all_below xs n r a h);
}

-- what was gained before, and once more
pub gains_more : (P Q : Type 0) (n : ℕ) (a b c : List ℕ) → Gains P n a b → IsWith b n c → Q → Gains (P ⊎ Q) n a c
gains_more P Q n a b c h k q = record {
  keeps = λ x i. k.keeps x (h.keeps x i);
  has = λ u. k.has tt;
  only = λ x i. elim (k.only x i) [
    | inl j ↦ elim (h.only x j) [ inl l ↦ inl l | inr l ↦ inr (l.0, inl l.1) ]
    | inr j ↦ inr (j.0, inr q)
  ];
  rises = λ r low. k.rises (h.rises r low) (all_of (λ x. x ≤ n) b (λ x i. elim (h.only x i) [
    | inl j ↦ all_included (λ x. x ≤ n) a x low j
    | inr j ↦ (let e = j.0 in omega (arith, e))
  ]));
}

pub gains_as : (P Q : Type 0) (n : ℕ) (a b : List ℕ) → (P → Q) → (Q → P) → Gains P n a b → Gains Q n a b
gains_as P Q n a b to from h = record {
  keeps = h.keeps;
  has = λ q. h.has (from q);
  only = λ x i. elim (h.only x i) [ inl j ↦ inl j | inr j ↦ inr (j.0, to j.1) ];
  rises = h.rises;
}

-- ---- lists of all numbers with a property

pub lists_as : (P Q : ℕ → Type 0) (xs : List ℕ) → ((x : ℕ) → P x → Q x) → ((x : ℕ) → Q x → P x) → Lists P xs → Lists Q xs
lists_as P Q xs to from h = record { rises = h.rises; each = λ x i. to x (h.each x i); all = λ x q. h.all x (from x q) }

pub lists_none : (P : ℕ → Type 0) → ((x : ℕ) → P x → ⊥) → Lists P []
lists_none P h = record { rises = tt; each = λ x i. absurd i; all = λ x p. absurd (h x p) }

below_next : (k n m : ℕ) → m ≡ n + 1 → k < m → (k < n) ⊎ (k ≡ n)
below_next k n m e h = elim (cases_eq k n) [ inl same ↦ inr same | inr other ↦ inl (omega (arith, e, h, other)) ]

-- one number further
pub lists_next : (P : ℕ → Type 0) (Q : Type 0) (n m : ℕ) (a b : List ℕ) → m ≡ n + 1 → (P n → Q) → (Q → P n) → Lists (λ k. (k < n) × P k) a → Gains Q n a b → Lists (λ k. (k < m) × P k) b
lists_next P Q n m a b e to from h g = record {
  rises = g.rises h.rises (all_of (λ x. x ≤ n) a (λ x i. let low = (h.each x i).0 in omega (arith, low)));
  each = λ x i. elim (g.only x i) [
    | inl j ↦ (let low = (h.each x j).0 in omega (arith, low, e), (h.each x j).1)
    | inr j ↦ (let same = j.0 in omega (arith, same, e), subst P (sym j.0) (from j.1))
  ];
  all = λ x p. elim (below_next x n m e p.0) [
    | inl low ↦ g.keeps x (h.all x (low, p.1))
    | inr same ↦ subst (Includes b) (sym same) (g.has (to (subst P same p.1)))
  ];
}

pub lists_push : (P : ℕ → Type 0) (n m : ℕ) (a b : List ℕ) → m ≡ n + 1 → b ≡ a ++ n ∷ [] → P n → Lists (λ k. (k < n) × P k) a → Lists (λ k. (k < m) × P k) b
lists_push P n m a b e is p h = subst (Lists (λ k. (k < m) × P k)) (sym is) (record {
  rises = rises_push a n h.rises (all_of (λ x. x < n) a (λ x i. (h.each x i).0));
  each = λ x i. elim (includes_either a (n ∷ []) x i) [
    | inl j ↦ (let low = (h.each x j).0 in omega (arith, low, e), (h.each x j).1)
    | inr j ↦ elim j [ inl same ↦ (omega (arith, same, e), subst P (sym same) p) | inr none ↦ absurd none ]
  ];
  all = λ x q. elim (below_next x n m e q.0) [
    | inl low ↦ includes_front a (n ∷ []) x (h.all x (low, q.1))
    | inr same ↦ includes_back a (n ∷ []) x (inl same)
  ];
})

pub lists_skip : (P : ℕ → Type 0) (n m : ℕ) (a : List ℕ) → m ≡ n + 1 → (P n → ⊥) → Lists (λ k. (k < n) × P k) a → Lists (λ k. (k < m) × P k) a
lists_skip P n m a e never h = lists_as (λ k. (k < n) × P k) (λ k. (k < m) × P k) a
    (λ x p. (let low = p.0 in omega (arith, low, e), p.1))
    (λ x q. elim (below_next x n m e q.0) [ inl low ↦ (low, q.1) | inr same ↦ absurd (never (subst P same q.1)) ]) h
