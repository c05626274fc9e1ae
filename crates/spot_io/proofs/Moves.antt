-- Moves, one after another.
use Rattle.std.proofs.Common.{◌≡◌, ◌∙◌, ℕ, ◌+◌, ◌-◌, ◌≤◌, List, [], ◌++◌, length, take, drop, Option, Some, None, Ok, Err, ap, sym, refl, subst, append_assoc, length-append, length-take, length-drop, arith}
use Rattle.std.proofs.lemmas.List.{append-nil, drop_at, drop-drop, take_at, take_rest, take-append-drop}
use Rattle.std.specs.Io.KnownBytes.{Keeps, Appends, Consumes, IsAtEnd}
use Rattle.std.specs.declared.alloc.Global.{Global}
use Rattle.std.specs.declared.vec.Vec.{Vec}
use Rattle.spot_io.specs.declared.transfers.ReadEnd.TheVariants.{Fault, TooLong, Memory}
use Rattle.spot_terms.specs.Causes.{Takes}
use Rattle.spot_io.specs.Reads.{ReadsAll}

pub appends_none : (a : Option (List ℕ)) → Appends a a []
appends_none None = tt
appends_none (Some xs) = sym (append-nil xs)

pub appends_kept : (a b : Option (List ℕ)) → Keeps a b → Appends a b []
appends_kept None b h = tt
appends_kept (Some xs) None h = absurd h
appends_kept (Some xs) (Some ys) h = h ∙ sym (append-nil xs)

pub appends_more : (a b c : Option (List ℕ)) (xs ys : List ℕ) → Appends a b xs → Appends b c ys → Appends a c (xs ++ ys)
appends_more None b c xs ys h k = tt
appends_more (Some ws) None c xs ys h k = absurd h
appends_more (Some ws) (Some bs) None xs ys h k = absurd k
appends_more (Some ws) (Some bs) (Some cs) xs ys h k = k ∙ (ap (λ (z : List ℕ). z ++ ys) h ∙ append_assoc ws xs ys)

pub consumes_none : (a : Option (List ℕ)) → Consumes a a []
consumes_none None = tt
consumes_none (Some xs) = refl

pub consumes_kept : (a b : Option (List ℕ)) → Keeps a b → Consumes a b []
consumes_kept None b h = tt
consumes_kept (Some xs) None h = absurd h
consumes_kept (Some xs) (Some ys) h = sym h

pub consumes_more : (a b c : Option (List ℕ)) (xs ys : List ℕ) → Consumes a b xs → Consumes b c ys → Consumes a c (xs ++ ys)
consumes_more None b c xs ys h k = tt
consumes_more (Some ws) None c xs ys h k = absurd h
consumes_more (Some ws) (Some bs) None xs ys h k = absurd k
consumes_more (Some ws) (Some bs) (Some cs) xs ys h k = h ∙ (ap (λ (z : List ℕ). xs ++ z) k ∙ sym (append_assoc xs ys cs))

-- told bytes that lose a front
pub takes_front : (told : List ℕ) (b : Option (List ℕ)) (xs : List ℕ) → Consumes (Some told) b xs → Takes (length xs) told b
takes_front told None xs h = absurd h
takes_front told (Some ys) xs h =
    (omega (arith, ap length h, length-append xs ys), ap Some (sym (ap (λ (z : List ℕ). drop (length xs) z) h ∙ drop_at xs ys (length xs) refl)))

pub reads_ok : (a b : Option (List ℕ)) (v : Vec ℕ Global) → Consumes a b v.items → IsAtEnd b → ReadsAll a b (Ok v)
reads_ok None b v h e = tt
reads_ok (Some told) None v h e = absurd h
reads_ok (Some told) (Some ys) v h e = (sym (h ∙ (ap (λ (z : List ℕ). v.items ++ z) e ∙ append-nil v.items)), ap Some e)

pub reads_too_long : (a b : Option (List ℕ)) (xs : List ℕ) → Consumes a b xs → length xs ≡ 67108865 → ReadsAll a b (Err TooLong)
reads_too_long None b xs h e = tt
reads_too_long (Some told) b xs h e = subst (λ (n : ℕ). Takes n told b) e (takes_front told b xs h)

pub reads_fault : (a b : Option (List ℕ)) (xs : List ℕ) → Consumes a b xs → length xs ≤ 67108864 → ReadsAll a b (Err Fault)
reads_fault None b xs h e = tt
reads_fault (Some told) b xs h e = (length xs, e, takes_front told b xs h)

pub reads_memory : (a b : Option (List ℕ)) (xs : List ℕ) → Consumes a b xs → length xs ≤ 67108865 → ReadsAll a b (Err Memory)
reads_memory None b xs h e = tt
reads_memory (Some told) b xs h e = (length xs, e, takes_front told b xs h)

-- one more write of a loop that writes the rest
pub goes_on : (old mid new : Option (List ℕ)) (bytes rest : List ℕ) (n : ℕ) → (front : List ℕ) × (front ++ rest ≡ bytes) × Appends old mid front → Appends mid new (take n rest) → (front : List ℕ) × (front ++ take (length rest - n) (drop n rest) ≡ bytes) × Appends old new front
goes_on old mid new bytes rest n h k =
    (h.0 ++ take n rest, append_assoc h.0 (take n rest) _ ∙ (ap (λ (z : List ℕ). h.0 ++ (take n rest ++ z)) (take_rest rest n) ∙ (ap (λ (z : List ℕ). h.0 ++ z) (take-append-drop n rest) ∙ h.1)), appends_more old mid new h.0 (take n rest) h.2 k)

-- what is left to write fits where the whole did
pub rest_fits : (rest : List ℕ) (n more : ℕ) → n ≤ length rest → n + (length (take (length rest - n) (drop n rest)) + more) ≤ length rest + more
rest_fits rest n more h = omega (arith, length-take (length rest - n) (drop n rest), length-drop n rest)

-- a copy of the next n bytes, with what stands behind it in the slice, is what a read consumes
pub reads_front : (items copied behind : List ℕ) (at m n : ℕ) → m ≡ n → length copied ≡ n → copied ≡ take m (drop at items) → drop at items ≡ take n (copied ++ behind) ++ drop (at + n) items
reads_front items copied behind at m n same len is =
    sym (ap (λ (z : List ℕ). z ++ drop (at + n) items) (take_at copied behind n len ∙ (is ∙ ap (λ (k : ℕ). take k (drop at items)) same))
    ∙ (ap (λ (z : List ℕ). take n (drop at items) ++ z) (sym (drop-drop n at items)) ∙ take-append-drop n (drop at items)))
