-- A test that decides equations of polynomials over the whole numbers: `ring` of the terms, the two sides and `refl`.
use Rattle.std.proofs.Common.{◌≡◌, ℕ, zero, suc, ◌+◌, ◌*◌, arith, refl, sym, ap, ◌∙◌, List, [], ◌∷◌, Bool, true, false}
use Rattle.std.proofs.lemmas.Int.{ints}
use borrow.Author.Differences.{up, down, same_in, product_is, sum_is_lem, neg_is}
use lib.IntN.{ℤ, pos, negsuc, ◌+ℤ◌, ◌-ℤ◌, ◌*ℤ◌, neg_ℤ}
use Rattle.spot_terms.proofs.Products.{*ℤ_assoc, times_swap}

spread_nat : (ua da ub db uc dc us ds : ℕ) → us + db + dc ≡ ds + ub + uc → (ua * us + da * ds) + (ua * db + da * ub) + (ua * dc + da * uc) ≡ (ua * ds + da * us) + (ua * ub + da * db) + (ua * uc + da * dc)
spread_nat ua da ub db uc dc us ds h =
    let e : ua * (us + db + dc) ≡ ua * (ds + ub + uc) = ap (λ n. ua * n) h in
    let f : da * (us + db + dc) ≡ da * (ds + ub + uc) = ap (λ n. da * n) h in
    omega arith

-- a * (b + c) = a * b + a * c
pub spread : (a b c : ℤ) → a *ℤ (b +ℤ c) ≡ (a *ℤ b) +ℤ (a *ℤ c)
spread a b c =
    same_in _ _ (omega (arith, product_is a (b +ℤ c), product_is a b, product_is a c, sum_is_lem (a *ℤ b) (a *ℤ c), spread_nat (up a) (down a) (up b) (down b) (up c) (down c) (up (b +ℤ c)) (down (b +ℤ c)) (sum_is_lem b c)))

pub turn : (a b : ℤ) → a *ℤ b ≡ b *ℤ a
turn a b = omega (arith, ints)

pub spread_left : (a b c : ℤ) → (a +ℤ b) *ℤ c ≡ (a *ℤ c) +ℤ (b *ℤ c)
spread_left a b c = turn (a +ℤ b) c ∙ spread c a b ∙ omega (arith, ints)

pub neg_out : (a b : ℤ) → a *ℤ neg_ℤ b ≡ neg_ℤ (a *ℤ b)
neg_out a b =
    same_in _ _ (omega (arith, product_is a (neg_ℤ b), product_is a b, neg_is (a *ℤ b), ap (λ n. up a * n) (neg_is b).0, ap (λ n. up a * n) (neg_is b).1, ap (λ n. down a * n) (neg_is b).0, ap (λ n. down a * n) (neg_is b).1))

-- ---- expressions

infixl 60 ◌⊕◌ ◌⊖◌
infixl 70 ◌⊗◌
pub data Exp : Type 0 where
  var : ℕ → Exp
  num : ℤ → Exp
  ◌⊕◌ : Exp → Exp → Exp
  ◌⊖◌ : Exp → Exp → Exp
  ◌⊗◌ : Exp → Exp → Exp

abbrev pub head : List ℤ → ℤ
head [] = pos 0
head (x ∷ xs) = x

abbrev pub tail : List ℤ → List ℤ
tail [] = []
tail (x ∷ xs) = xs

abbrev pub at : List ℤ → ℕ → ℤ
at xs zero = head xs
at xs (suc n) = at (tail xs) n

abbrev pub value : List ℤ → Exp → ℤ
value xs (var n) = at xs n
value xs (num z) = z
value xs (a ⊕ b) = value xs a +ℤ value xs b
value xs (a ⊖ b) = value xs a -ℤ value xs b
value xs (a ⊗ b) = value xs a *ℤ value xs b

-- ---- polynomials: `more c p` is c + x p, where x is the first variable, and c has the others
pub data Pol : Type 0 where
  con : ℤ → Pol
  more : Pol → Pol → Pol

abbrev pub val : Pol → List ℤ → ℤ
val (con z) xs = z
val (more c p) xs = val c (tail xs) +ℤ (head xs *ℤ val p xs)

abbrev add : Pol → Pol → Pol
add (con a) (con b) = con (a +ℤ b)
add (con a) (more d q) = more (add (con a) d) q
add (more c p) (con b) = more (add c (con b)) p
add (more c p) (more d q) = more (add c d) (add p q)

val_add : (p q : Pol) (xs : List ℤ) → val (add p q) xs ≡ val p xs +ℤ val q xs
val_add (con a) (con b) xs = refl
val_add (con a) (more d q) xs = rw (val_add (con a) d (tail xs)) (omega (arith, ints))
val_add (more c p) (con b) xs = rw (val_add c (con b) (tail xs)) (omega (arith, ints))
val_add (more c p) (more d q) xs =
    rw (val_add c d (tail xs), val_add p q xs, spread (head xs) (val p xs) (val q xs)) (omega (arith, ints))

abbrev negate : Pol → Pol
negate (con a) = con (neg_ℤ a)
negate (more c p) = more (negate c) (negate p)

val_negate : (p : Pol) (xs : List ℤ) → val (negate p) xs ≡ neg_ℤ (val p xs)
val_negate (con a) xs = refl
val_negate (more c p) xs =
    rw (val_negate c (tail xs), val_negate p xs, neg_out (head xs) (val p xs)) (omega (arith, ints))

abbrev scale : ℤ → Pol → Pol
scale a (con b) = con (a *ℤ b)
scale a (more d q) = more (scale a d) (scale a q)

val_scale : (a : ℤ) (q : Pol) (xs : List ℤ) → val (scale a q) xs ≡ a *ℤ val q xs
val_scale a (con b) xs = refl
val_scale a (more d q) xs =
    rw (val_scale a d (tail xs), val_scale a q xs, times_swap (head xs) a (val q xs), spread a (val d (tail xs)) (head xs *ℤ val q xs)) refl

-- each coefficient of q, times what f multiplies by
abbrev each : (Pol → Pol) → Pol → Pol
each f (con b) = more (f (con b)) (con (pos 0))
each f (more d q) = more (f d) (each f q)

val_each : (f : Pol → Pol) (c : ℤ) (q : Pol) (xs : List ℤ) → ((d : Pol) → val (f d) (tail xs) ≡ c *ℤ val d (tail xs)) → val (each f q) xs ≡ c *ℤ val q xs
val_each f c (con b) xs h = rw (h (con b)) (omega (arith, ints))
val_each f c (more d q) xs h =
    rw (h d, val_each f c q xs h, times_swap (head xs) c (val q xs), spread c (val d (tail xs)) (head xs *ℤ val q xs)) refl

abbrev mul : Pol → Pol → Pol
mul (con a) q = scale a q
mul (more c p) q = add (each (mul c) q) (more (con (pos 0)) (mul p q))

val_mul : (p q : Pol) (xs : List ℤ) → val (mul p q) xs ≡ val p xs *ℤ val q xs
val_mul (con a) q xs = val_scale a q xs
val_mul (more c p) q xs =
    rw (val_add (each (mul c) q) (more (con (pos 0)) (mul p q)) xs, val_each (mul c) (val c (tail xs)) q xs (λ d. val_mul c d (tail xs)), val_mul p q xs, spread_left (val c (tail xs)) (head xs *ℤ val p xs) (val q xs), *ℤ_assoc (head xs) (val p xs) (val q xs))
    (omega (arith, ints))

abbrev var_pol : ℕ → Pol
var_pol zero = more (con (pos 0)) (con (pos 1))
var_pol (suc n) = more (var_pol n) (con (pos 0))

val_var : (n : ℕ) (xs : List ℤ) → val (var_pol n) xs ≡ at xs n
val_var zero xs = omega (arith, ints)
val_var (suc n) xs = rw (val_var n (tail xs)) (omega (arith, ints))

abbrev pub norm : Exp → Pol
norm (var n) = var_pol n
norm (num z) = con z
norm (a ⊕ b) = add (norm a) (norm b)
norm (a ⊖ b) = add (norm a) (negate (norm b))
norm (a ⊗ b) = mul (norm a) (norm b)

val_norm : (e : Exp) (xs : List ℤ) → val (norm e) xs ≡ value xs e
val_norm (var n) xs = val_var n xs
val_norm (num z) xs = refl
val_norm (a ⊕ b) xs = rw (val_add (norm a) (norm b) xs, val_norm a xs, val_norm b xs) refl
val_norm (a ⊖ b) xs = rw (val_add (norm a) (negate (norm b)) xs, val_negate (norm b) xs, val_norm a xs, val_norm b xs) refl
val_norm (a ⊗ b) xs = rw (val_mul (norm a) (norm b) xs, val_norm a xs, val_norm b xs) refl

abbrev both : Bool → Bool → Bool
both true b = b
both false b = false

abbrev none : ℤ → Bool
none (pos zero) = true
none (pos (suc n)) = false
none (negsuc n) = false

abbrev pub vanishes : Pol → Bool
vanishes (con z) = none z
vanishes (more c p) = both (vanishes c) (vanishes p)

both_first : (a b : Bool) → both a b ≡ true → a ≡ true
both_first true b h = refl
both_first false b h = cc

both_second : (a b : Bool) → both a b ≡ true → b ≡ true
both_second true b h = h
both_second false b h = cc

none_is : (z : ℤ) → none z ≡ true → z ≡ pos 0
none_is (pos zero) h = refl
none_is (pos (suc n)) h = cc
none_is (negsuc n) h = cc

val_vanishes : (p : Pol) (xs : List ℤ) → vanishes p ≡ true → val p xs ≡ pos 0
val_vanishes (con z) xs h = none_is z h
val_vanishes (more c p) xs h =
    rw (val_vanishes c (tail xs) (both_first (vanishes c) (vanishes p) h), val_vanishes p xs (both_second (vanishes c) (vanishes p) h)) (omega (arith, ints))

-- two expressions that are one polynomial have one value: `ring xs a b refl`
pub ring : (xs : List ℤ) (a b : Exp) → vanishes (norm (a ⊖ b)) ≡ true → value xs a ≡ value xs b
ring xs a b h =
    let e : value xs a -ℤ value xs b ≡ pos 0 = sym (val_norm (a ⊖ b) xs) ∙ val_vanishes (norm (a ⊖ b)) xs h in omega (arith, ints)
