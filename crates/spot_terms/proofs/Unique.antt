-- What there is one of: the item of an option, the least number of a kind, and the partner of a list in step.
use Rattle.std.proofs.Common.{◌≡◌, ℕ, List, [], ◌∷◌, Option, Some, refl, arith}
use Rattle.spot_terms.specs.Bodies.{IsLeast}
use Rattle.spot_terms.specs.Lists.{Pairwise}

pub some_one : {X : Type 0} (o : Option X) (x y : X) → o ≡ Some x → o ≡ Some y → x ≡ y
some_one o x y e f = cc

pub least_one : (P : ℕ → Type 0) (m n : ℕ) → IsLeast P m → IsLeast P n → m ≡ n
least_one P m n h k = let a = h.least n k.holds in let b = k.least m h.holds in omega (arith, a, b)

-- lists in step have one partner
pub pairwise_one : {X Y : Type 0} (R : X → Y → Type 0) → ((x : X) (y z : Y) → R x y → R x z → y ≡ z) → (xs : List X) (ys zs : List Y) → Pairwise R xs ys → Pairwise R xs zs → ys ≡ zs
pairwise_one R one [] [] [] p q = refl
pairwise_one R one [] [] (z ∷ zs) p q = absurd q
pairwise_one R one [] (y ∷ ys) zs p q = absurd p
pairwise_one R one (x ∷ xs) [] zs p q = absurd p
pairwise_one R one (x ∷ xs) (y ∷ ys) [] p q = absurd q
pairwise_one R one (x ∷ xs) (y ∷ ys) (z ∷ zs) p q =
    let first : y ≡ z = one x y z p.0 q.0 in
    let rest : ys ≡ zs = pairwise_one R one xs ys zs p.1 q.1 in
    cc

pub some_injective : {X : Type 0} (x y : X) → Some x ≡ Some y → x ≡ y
some_injective x y e = cc
