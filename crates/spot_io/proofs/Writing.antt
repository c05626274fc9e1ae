-- Texts that are written one after another.
use Rattle.std.proofs.Common.{◌≡◌, ◌∙◌, ℕ, ◌+◌, ◌≤◌, List, [], ◌++◌, length, Option, Result, Ok, Err, refl, sym, ap, subst, arith, append_assoc, length-append}
use Rattle.std.specs.Io.KnownBytes.{Appends}
use Rattle.std.specs.Result.{IsErr}
use Rattle.spot_terms.specs.Causes.{HasCause, AppendsFront}
use Rattle.spot_io.specs.declared.traits.Sink.{Ghosts as Sink}
use Rattle.spot_io.specs.Writes.{WritesText}
use Rattle.spot_io.proofs.Moves.{appends_none, appends_more}

-- a cause of the second of two calls is one of both
pub cause_of_both : {T E : Type 0} {n m k : ℕ} (result : Result T E) → m ≡ n → HasCause m k result → HasCause n k result
cause_of_both {k = k} result same h = subst (λ (n : ℕ). HasCause n k result) same h

-- a front of the second text, behind the first, is a front of both
pub front_of_both : (a b c : Option (List ℕ)) (xs ys : List ℕ) → Appends a b xs → AppendsFront b c ys → AppendsFront a c (xs ++ ys)
front_of_both a b c xs ys h (front, back, is, appended) =
    (xs ++ front, back, append_assoc xs front back ∙ ap (λ (z : List ℕ). xs ++ z) is, appends_more a b c xs front h appended)

pub front_longer : (a b : Option (List ℕ)) (xs ys : List ℕ) → AppendsFront a b xs → AppendsFront a b (xs ++ ys)
front_longer a b xs ys (front, back, is, appended) = (front, back ++ ys, sym (append_assoc front back ys) ∙ ap (λ (z : List ℕ). z ++ ys) is, appended)

module _ {K : Type 0} {sink : Sink K} where
  -- no text
  pub nothing : {T E : Type 0} (a : K) (x : T) → WritesText {E = E} sink a a [] (Ok x)
  nothing a x = record {
    ok = appends_none (sink.written a);
    err = tt;
    room = λ more h. subst (λ n. sink.takes a n) (omega arith) h;
    cause = record { later = omega arith; same = refl; failed = tt };
  }

  -- the same text
  pub text_is : {T E : Type 0} {a b : K} {xs ys : List ℕ} {result : Result T E} → xs ≡ ys → WritesText sink a b xs result → WritesText sink a b ys result
  text_is {a = a} {b = b} {result = result} same w = subst (λ (zs : List ℕ). WritesText sink a b zs result) same w

  -- what a call that answers Ok gives doesn't matter
  pub done : {T E : Type 0} {a b : K} {xs : List ℕ} {x : T} → WritesText {E = E} sink a b xs (Ok x) → WritesText {T = Unit {0}} {E = E} sink a b xs (Ok tt)
  done w = record { ok = w.ok; err = tt; room = w.room; cause = record { later = w.cause.later; same = w.cause.same; failed = tt } }

  -- nor which error it doesn't answer
  pub errs_as : {T D E : Type 0} {a b : K} {xs : List ℕ} {x : T} → WritesText {E = D} sink a b xs (Ok x) → WritesText {E = E} sink a b xs (Ok x)
  errs_as w = record { ok = w.ok; err = tt; room = w.room; cause = record { later = w.cause.later; same = w.cause.same; failed = tt } }

  -- one after the other is both in one: the answer of the second is that of both
  pub one_after_other : {T U E : Type 0} {a b c : K} {xs ys : List ℕ} {x : U} {result : Result T E} → WritesText {E = E} sink a b xs (Ok x) → WritesText sink b c ys result → WritesText sink a c (xs ++ ys) result
  one_after_other {a = a} {b = b} {c = c} {xs = xs} {ys = ys} {result = Ok y} v w = record {
    ok = appends_more (sink.written a) (sink.written b) (sink.written c) xs ys v.ok w.ok;
    err = tt;
    room = λ more h. w.room more (v.room (length ys + more) (subst (λ n. sink.takes a n) (omega (arith, length-append {A = ℕ})) h));
    cause = cause_of_both (Ok y) v.cause.same w.cause;
  }
  one_after_other {a = a} {b = b} {c = c} {xs = xs} {ys = ys} {result = Err e} v w = record {
    ok = tt;
    err = front_of_both (sink.written a) (sink.written b) (sink.written c) xs ys v.ok w.err;
    room = tt;
    cause = cause_of_both (Err e) v.cause.same w.cause;
  }

  -- a fault in the first is one of both
  pub fault_first : {T U E : Type 0} {a b : K} {xs : List ℕ} (ys : List ℕ) {e : E} (result : Result T E) → WritesText {T = U} sink a b xs (Err e) → IsErr result → WritesText sink a b (xs ++ ys) result
  fault_first ys (Ok x) w is = cc
  fault_first {a = a} {b = b} {xs = xs} ys (Err e) w is = record {
    ok = tt;
    err = front_longer (sink.written a) (sink.written b) xs ys w.err;
    room = tt;
    cause = record { later = w.cause.later; same = tt; failed = w.cause.failed };
  }

  -- what can take both can take the second once the first is written
  pub takes_second : {T E : Type 0} {a b : K} {xs : List ℕ} (ys : List ℕ) {x : T} → WritesText {E = E} sink a b xs (Ok x) → sink.takes a (length (xs ++ ys)) → sink.takes b (length ys)
  takes_second {a = a} {xs = xs} ys w h = w.room (length ys) (subst (λ n. sink.takes a n) (length-append xs ys) h)

-- ---- many texts, one after another

-- of all that is to be written, what stands in front of the rest was
pub record WritesUpTo {K : Type 0} (sink : Sink K) (old new : K) (all rest : List ℕ) : Type 0 where
  pub front : List ℕ
  pub text : front ++ rest ≡ all
  pub writes : WritesText {T = Unit {0}} {E = Unit {0}} sink old new front (Ok tt)

module _ {K : Type 0} {sink : Sink K} where
  pub nothing_yet : (a : K) (all : List ℕ) → WritesUpTo sink a a all all
  nothing_yet a all = record { front = []; text = refl; writes = nothing a tt }

  -- the next text was written
  pub next_written : {T E : Type 0} {a b c : K} {all r text rest : List ℕ} {x : T} → WritesUpTo sink a b all r → r ≡ text ++ rest → WritesText {E = E} sink b c text (Ok x) → WritesUpTo sink a c all rest
  next_written {text = text} {rest = rest} {x = x} v is w = record {
    front = v.front ++ text;
    text = append_assoc v.front text rest ∙ ap (λ (zs : List ℕ). v.front ++ zs) (sym is) ∙ v.text;
    writes = done (one_after_other v.writes (errs_as w));
  }

  -- the last text: its answer is that of all
  pub last_written : {T E : Type 0} {a b c : K} {all text : List ℕ} {result : Result T E} → WritesUpTo sink a b all text → WritesText sink b c text result → WritesText sink a c all result
  last_written v w = text_is v.text (one_after_other (errs_as v.writes) w)

  -- a fault in the next text is one of all
  pub fault_next : {T U E : Type 0} {a b c : K} {all r text : List ℕ} {e : E} (rest : List ℕ) (result : Result T E) → WritesUpTo sink a b all r → r ≡ text ++ rest → WritesText {T = U} sink b c text (Err e) → IsErr result → WritesText sink a c all result
  fault_next rest result v is w err = text_is (ap (λ (zs : List ℕ). v.front ++ zs) (sym is) ∙ v.text) (one_after_other (errs_as v.writes) (fault_first rest result w err))

  -- what can take all can take the next text, and the rest
  pub takes_rest : {a b : K} {all r : List ℕ} → WritesUpTo sink a b all r → sink.takes a (length all) → sink.takes b (length r)
  takes_rest {a = a} {r = r} v h = takes_second r v.writes (subst (λ (zs : List ℕ). sink.takes a (length zs)) (sym v.text) h)

  pub takes_next : {a b : K} {all r : List ℕ} (text rest : List ℕ) → WritesUpTo sink a b all r → r ≡ text ++ rest → ((few many : ℕ) → few ≤ many → sink.takes b many → sink.takes b few) → sink.takes a (length all) → sink.takes b (length text)
  takes_next {r = r} text rest v is fewer h =
      let size : length r ≡ length (text ++ rest) = ap length is in fewer (length text) (length r) (omega (arith, size, length-append {A = ℕ})) (takes_rest v h)

  -- all is written
  pub all_written : {T E : Type 0} {a b : K} {all r : List ℕ} (x : T) → WritesUpTo sink a b all r → r ≡ [] → WritesText {E = E} sink a b all (Ok x)
  all_written {b = b} x v is = last_written v (text_is (sym is) (nothing b x))
