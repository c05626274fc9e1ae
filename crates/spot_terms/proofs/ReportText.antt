-- Lists of lines with equal texts are equal: words are told apart by the blank behind each, and a line is read back from
-- its words.
use Rattle.std.proofs.Common.{◌≡◌, ℕ, zero, suc, ◌+◌, ◌<◌, ◌≤◌, List, [], ◌∷◌, ◌++◌, map, length, drop, Bool, true, false, ℤ, pos, negsuc, neg_ℤ, refl, sym, ◌∙◌, ap, subst, arith, append_assoc, append-nil}
use Rattle.std.specs.Prelude.{if◌then◌else◌, ◌==◌, codes, flat_map, slice_index_or}
use Rattle.std.specs.List.{AllByRecursion}
use Rattle.std.specs.Str.{bytes_eq}
use Rattle.std.specs.Char.{digit_value}
use Rattle.std.specs.Str.Parse.{digits_value, AllDigits}
use Rattle.std.proofs.lemmas.Bool.Decides.{nat_tests}
use Rattle.spot_terms.proofs.Numerals.{numeral_back, numeral_digits, numeral_some}
use Rattle.spot_terms.specs.declared.plain.Pt.{Pt}
use Rattle.spot_terms.specs.declared.plain.VBox.{VBox}
use Rattle.spot_terms.specs.declared.lines.Mode.{Mode}
use Rattle.spot_terms.specs.declared.lines.Mode.TheVariants.{Predict, Area, Replay}
use Rattle.spot_terms.specs.declared.lines.End.TheVariants.{Done, Open, Empty}
use Rattle.spot_terms.specs.Report.{Line, Text, spaced, whole, line_text, words_of, report_text, box_words, pt_words, corner_words, mode_word, kind_word, numeral, TextsTellReports, head_line, time_line, mover_line, late_line, fixed_line, lane_line, occ_line, ego_line, disc_line, set_line, count_line, last_line}

-- ---- words

abbrev Clean : Text → Type 0
Clean w = AllByRecursion (λ b. 32 < b) w

abbrev AllClean : List Text → Type 0
AllClean ws = AllByRecursion Clean ws

-- behind two words stand blanks: the words are equal, and so is what follows
split : (v w : Text) (c d : ℕ) (r s : Text) → Clean v → Clean w → c ≤ 32 → d ≤ 32 → v ++ c ∷ r ≡ w ++ d ∷ s → (v ≡ w) × (c ≡ d) × (r ≡ s)
split [] [] c d r s cv cw hc hd e = (refl, cc, cc)
split [] (y ∷ w) c d r s cv cw hc hd e = let h : c ≡ y = cc in absurd (omega (arith, h, cw.0))
split (x ∷ v) [] c d r s cv cw hc hd e = let h : x ≡ d = cc in absurd (omega (arith, h, cv.0))
split (x ∷ v) (y ∷ w) c d r s cv cw hc hd e =
    let h : x ≡ y = cc in
    let t : v ++ c ∷ r ≡ w ++ d ∷ s = cc in
    let k : (v ≡ w) × (c ≡ d) × (r ≡ s) = split v w c d r s cv.1 cw.1 hc hd t in
    let same : v ≡ w = k.0 in
    (cc, k.1, k.2)

digit_above : (c : ℕ) → digit_value c < 10 → 32 < c
digit_above c h = grind (arith, nat_tests)

clean_digits : (ds : Text) → AllDigits 10 ds → Clean ds
clean_digits [] h = tt
clean_digits (c ∷ cs) h = (digit_above c h.0, clean_digits cs h.1)

clean_numeral : (n : ℕ) → Clean (numeral n)
clean_numeral n = clean_digits (numeral n) (numeral_digits n)

clean_whole : (z : ℤ) → Clean (whole z)
clean_whole (pos n) = clean_numeral n
clean_whole (negsuc n) = (omega arith, clean_numeral (suc n))

clean_wholes : (ns : List ℤ) → AllClean (map whole ns)
clean_wholes [] = tt
clean_wholes (n ∷ ns) = (clean_whole n, clean_wholes ns)

clean_pts : (ps : List Pt) (rest : List Text) → AllClean rest → AllClean (flat_map pt_words ps ++ rest)
clean_pts [] rest c = c
clean_pts (p ∷ ps) rest c = (clean_whole p.x, (clean_whole p.y, clean_pts ps rest c))

clean_corners : (ps : List Pt) (rest : List Text) → AllClean rest → AllClean (corner_words ps ++ rest)
clean_corners ps rest c = (clean_numeral (length ps), clean_pts ps rest c)

clean_box : (b : VBox) → AllClean (box_words b)
clean_box b = (clean_whole b.xlo, (clean_whole b.xhi, (clean_whole b.ylo, (clean_whole b.yhi, tt))))

clean_mode : (m : Mode) → Clean (mode_word m)
clean_mode Predict = omega arith
clean_mode Area = omega arith
clean_mode Replay = omega arith

clean_kind : (b : Bool) → Clean (kind_word b)
clean_kind true = omega arith
clean_kind false = omega arith

-- the words of a line have no byte up to the blank
clean_line : (l : Line) → AllClean (words_of l)
clean_line (head_line m) = (omega arith, (omega arith, (clean_mode m, tt)))
clean_line (time_line k n) = (omega arith, (clean_numeral k, (clean_numeral n, tt)))
clean_line (mover_line m) = (
  omega arith,
  (
    clean_numeral m.id,
    (
      clean_kind m.lane,
      (
        clean_whole m.a,
        (
          clean_whole m.v,
          (
            clean_numeral m.s,
            (
              clean_numeral m.r,
              (clean_whole m.p.x, (clean_whole m.p.y, clean_box m.b)),
            ),
          ),
        ),
      ),
    ),
  ),
)
clean_line (late_line id t) = (omega arith, (clean_numeral id, (clean_numeral t, tt)))
clean_line (fixed_line id ns) = (omega arith, (clean_numeral id, clean_wholes ns))
clean_line (lane_line id cell first ps) = (
  omega arith,
  (
    clean_numeral id,
    (
      clean_numeral cell,
      (
        clean_numeral first,
        subst AllClean (append-nil (corner_words ps)) (clean_corners ps [] tt),
      ),
    ),
  ),
)
clean_line (occ_line id i ns) = (omega arith, (clean_numeral id, (clean_numeral i, clean_wholes ns)))
clean_line (ego_line e) = (
  omega arith,
  (
    clean_numeral e.problem,
    (
      clean_whole e.a,
      (
        clean_whole e.v,
        (
          clean_whole e.w,
          (
            clean_whole e.g,
            (clean_whole e.p.x, (clean_whole e.p.y, clean_box e.b)),
          ),
        ),
      ),
    ),
  ),
)
clean_line (disc_line step id p r) = (omega arith, (clean_numeral step, (clean_numeral id, (clean_whole p.x, (clean_whole p.y, (clean_numeral r, tt))))))
clean_line (set_line step b) = (
  omega arith,
  (
    clean_numeral step,
    (
      clean_whole b.col,
      (
        clean_whole b.row,
        (
          omega arith,
          clean_corners b.x (codes "y" ∷ corner_words b.y) (omega arith, subst AllClean (append-nil (corner_words b.y)) (clean_corners b.y [] tt)),
        ),
      ),
    ),
  ),
)
clean_line (count_line step n) = (omega arith, (clean_numeral step, (clean_numeral n, tt)))
clean_line (last_line Done) = (omega arith, tt)
clean_line (last_line Open) = (omega arith, tt)
clean_line (last_line (Empty i)) = (omega arith, (clean_numeral i, tt))

-- ---- lines

-- a line is told from what follows it
split_line : (v w : Text) (vs ws : List Text) (r s : Text) → Clean v → Clean w → AllClean vs → AllClean ws
    → spaced (v ∷ vs) ++ r ≡ spaced (w ∷ ws) ++ s → (◌≡◌ {A = List Text} (v ∷ vs) (w ∷ ws)) × (r ≡ s)
split_line v w [] [] r s cv cw cvs cws e =
    let k : (v ≡ w) × (◌≡◌ {A = ℕ} 10 10) × (r ≡ s) = split v w 10 10 r s cv cw (omega arith) (omega arith) (sym (append_assoc v (10 ∷ []) r) ∙ e ∙ append_assoc w (10 ∷ []) s) in
    let same : v ≡ w = k.0 in
    (cc, k.2)
split_line v w [] (x ∷ ws) r s cv cw cvs cws e =
    let k = split v w 10 32 r (spaced (x ∷ ws) ++ s) cv cw (omega arith) (omega arith) (sym (append_assoc v (10 ∷ []) r) ∙ e ∙ append_assoc w (32 ∷ spaced (x ∷ ws)) s) in
    absurd (omega (arith, k.1))
split_line v w (x ∷ vs) [] r s cv cw cvs cws e =
    let k = split v w 32 10 (spaced (x ∷ vs) ++ r) s cv cw (omega arith) (omega arith) (sym (append_assoc v (32 ∷ spaced (x ∷ vs)) r) ∙ e ∙ append_assoc w (10 ∷ []) s) in
    absurd (omega (arith, k.1))
split_line v w (x ∷ vs) (y ∷ ws) r s cv cw cvs cws e =
    let k : (v ≡ w) × (◌≡◌ {A = ℕ} 32 32) × (spaced (x ∷ vs) ++ r ≡ spaced (y ∷ ws) ++ s) = split v w 32 32 (spaced (x ∷ vs) ++ r) (spaced (y ∷ ws) ++ s) cv cw (omega arith) (omega arith)
    (sym (append_assoc v (32 ∷ spaced (x ∷ vs)) r) ∙ e ∙ append_assoc w (32 ∷ spaced (y ∷ ws)) s) in
    let m : (◌≡◌ {A = List Text} (x ∷ vs) (y ∷ ws)) × (r ≡ s) = split_line x y vs ws r s cvs.0 cws.0 cvs.1 cws.1 k.2 in
    let same : v ≡ w = k.0 in
    let rest : ◌≡◌ {A = List Text} (x ∷ vs) (y ∷ ws) = m.0 in
    (cc, m.1)

-- ---- a line from its words

word : List Text → ℕ → Text
word ws k = slice_index_or ws k []

nat_in : Text → ℕ
nat_in w = digits_value 10 w

int_in : Text → ℤ
int_in [] = pos 0
int_in (c ∷ cs) = if c == 45 then neg_ℤ (pos (digits_value 10 cs)) else pos (digits_value 10 (c ∷ cs))

mode_in : Text → Mode
mode_in w = if bytes_eq w (codes "predict") then Predict else if bytes_eq w (codes "area") then Area else Replay

pt_in : Text → Text → Pt
pt_in x y = record { x = int_in x; y = int_in y }

box_in : List Text → ℕ → VBox
box_in ws k = record { xlo = int_in (word ws k); xhi = int_in (word ws (k + 1)); ylo = int_in (word ws (k + 2)); yhi = int_in (word ws (k + 3)) }

-- so many points, and the words behind them
pts_in : ℕ → List Text → List Pt × List Text
pts_in zero ws = ([], ws)
pts_in (suc n) [] = ([], [])
pts_in (suc n) (x ∷ []) = ([], [])
pts_in (suc n) (x ∷ y ∷ ws) = (pt_in x y ∷ (pts_in n ws).0, (pts_in n ws).1)

line_in : List Text → Line
line_in [] = last_line Done
line_in (w ∷ ws) =
    if bytes_eq w (codes "spot") then head_line (mode_in (word ws 1))
    else if bytes_eq w (codes "time") then time_line (nat_in (word ws 0)) (nat_in (word ws 1))
    else if bytes_eq w (codes "mover") then mover_line (record {
      id = nat_in (word ws 0);
      lane = bytes_eq (word ws 1) (codes "lane");
      a = int_in (word ws 2);
      v = int_in (word ws 3);
      s = nat_in (word ws 4);
      r = nat_in (word ws 5);
      p = pt_in (word ws 6) (word ws 7);
      b = box_in ws 8;
    })
    else if bytes_eq w (codes "late") then late_line (nat_in (word ws 0)) (nat_in (word ws 1))
    else if bytes_eq w (codes "fixed") then fixed_line (nat_in (word ws 0)) (map int_in (drop 1 ws))
    else if bytes_eq w (codes "lane") then lane_line (nat_in (word ws 0)) (nat_in (word ws 1)) (nat_in (word ws 2)) (pts_in (nat_in (word ws 3)) (drop 4 ws)).0
    else if bytes_eq w (codes "occ") then occ_line (nat_in (word ws 0)) (nat_in (word ws 1)) (map int_in (drop 2 ws))
    else if bytes_eq w (codes "ego") then ego_line (record {
      problem = nat_in (word ws 0);
      a = int_in (word ws 1);
      v = int_in (word ws 2);
      w = int_in (word ws 3);
      g = int_in (word ws 4);
      p = pt_in (word ws 5) (word ws 6);
      b = box_in ws 7;
    })
    else if bytes_eq w (codes "disc") then disc_line (nat_in (word ws 0)) (nat_in (word ws 1)) (pt_in (word ws 2) (word ws 3)) (nat_in (word ws 4))
    else if bytes_eq w (codes "set") then set_line (nat_in (word ws 0)) (record {
      col = int_in (word ws 1);
      row = int_in (word ws 2);
      x = (pts_in (nat_in (word ws 4)) (drop 5 ws)).0;
      y = (pts_in (nat_in (word (pts_in (nat_in (word ws 4)) (drop 5 ws)).1 1)) (drop 2 (pts_in (nat_in (word ws 4)) (drop 5 ws)).1)).0;
    })
    else if bytes_eq w (codes "count") then count_line (nat_in (word ws 0)) (nat_in (word ws 1))
    else if bytes_eq w (codes "done") then last_line Done
    else if bytes_eq w (codes "open") then last_line Open
    else last_line (Empty (nat_in (word ws 0)))

nat_back : (n : ℕ) → nat_in (numeral n) ≡ n
unfolding nat_in
nat_back n = numeral_back n

-- digits are no minus
not_minus : (c : ℕ) → digit_value c < 10 → (c == 45) ≡ false
not_minus c h = grind (arith, nat_tests)

no_minus : (ds : Text) → 0 < length ds → AllDigits 10 ds → int_in ds ≡ pos (digits_value 10 ds)
unfolding int_in
no_minus [] h a = absurd (omega (arith, h))
no_minus (c ∷ cs) h a = rw (not_minus c a.0) refl

int_back : (z : ℤ) → int_in (whole z) ≡ z
unfolding int_in
int_back (pos n) = no_minus (numeral n) (numeral_some n) (numeral_digits n) ∙ ap pos (numeral_back n)
int_back (negsuc n) = ap (λ m. neg_ℤ (pos m)) (numeral_back (suc n))

ints_back : (ns : List ℤ) → map int_in (map whole ns) ≡ ns
ints_back [] = refl
ints_back (n ∷ ns) = let a : int_in (whole n) ≡ n = int_back n in let b : map int_in (map whole ns) ≡ ns = ints_back ns in cc

pt_back : (p : Pt) → pt_in (whole p.x) (whole p.y) ≡ p
unfolding pt_in
pt_back p = let a : int_in (whole p.x) ≡ p.x = int_back p.x in let b : int_in (whole p.y) ≡ p.y = int_back p.y in simp (a, b)

box_back : (b : VBox) (ws : List Text) (k : ℕ) → word ws k ≡ whole b.xlo → word ws (k + 1) ≡ whole b.xhi → word ws (k + 2) ≡ whole b.ylo → word ws (k + 3) ≡ whole b.yhi → box_in ws k ≡ b
unfolding box_in
box_back b ws k e0 e1 e2 e3 = simp (e0, e1, e2, e3, int_back b.xlo, int_back b.xhi, int_back b.ylo, int_back b.yhi)

pts_back : (ps : List Pt) (rest : List Text) → pts_in (length ps) (flat_map pt_words ps ++ rest) ≡ (ps, rest)
unfolding pts_in
pts_back [] rest = refl
pts_back (p ∷ ps) rest = let a : pt_in (whole p.x) (whole p.y) ≡ p = pt_back p in
    let b : pts_in (length ps) (flat_map pt_words ps ++ rest) ≡ (ps, rest) = pts_back ps rest in simp (a, b)

mode_back : (m : Mode) → mode_in (mode_word m) ≡ m
unfolding mode_in
mode_back Predict = refl
mode_back Area = refl
mode_back Replay = refl

kind_back : (b : Bool) → bytes_eq (kind_word b) (codes "lane") ≡ b
kind_back true = refl
kind_back false = refl

pts_all : (ps : List Pt) → pts_in (length ps) (flat_map pt_words ps) ≡ (ps, [])
pts_all ps = rw (append-nil (flat_map pt_words ps)) at (pts_back ps [])

-- each line is read back
line_back : (l : Line) → line_in (words_of l) ≡ l
unfolding line_in word box_in
line_back (head_line m) = ap head_line (mode_back m)
line_back (time_line k n) = simp (nat_back k, nat_back n)
line_back (mover_line m) = simp (nat_back m.id, kind_back m.lane, int_back m.a, int_back m.v, nat_back m.s, nat_back m.r, pt_back m.p, box_back m.b (numeral m.id ∷ kind_word m.lane ∷ whole m.a ∷ whole m.v ∷ numeral m.s ∷ numeral m.r ∷ whole m.p.x ∷ whole m.p.y ∷ box_words m.b) 8 refl refl refl refl)
line_back (late_line id t) = simp (nat_back id, nat_back t)
line_back (fixed_line id ns) = simp (nat_back id, ints_back ns)
line_back (lane_line id cell first ps) = simp (nat_back id, nat_back cell, nat_back first, nat_back (length ps), pts_all ps)
line_back (occ_line id i ns) = simp (nat_back id, nat_back i, ints_back ns)
line_back (ego_line e) = simp (nat_back e.problem, int_back e.a, int_back e.v, int_back e.w, int_back e.g, pt_back e.p, box_back e.b (numeral e.problem ∷ whole e.a ∷ whole e.v ∷ whole e.w ∷ whole e.g ∷ whole e.p.x ∷ whole e.p.y ∷ box_words e.b) 7 refl refl refl refl)
line_back (disc_line step id p r) = simp (nat_back step, nat_back id, pt_back p, nat_back r)
line_back (set_line step b) = simp (nat_back step, int_back b.col, int_back b.row, nat_back (length b.x), pts_back b.x (codes "y" ∷ corner_words b.y), nat_back (length b.y), pts_all b.y)
line_back (count_line step n) = simp (nat_back step, nat_back n)
line_back (last_line Done) = refl
line_back (last_line Open) = refl
line_back (last_line (Empty i)) = simp (nat_back i)

-- a line has a first word
first_word : (l : Line) → (w : Text) × (ws : List Text) × (words_of l ≡ w ∷ ws)
first_word (head_line m) = (_, _, refl)
first_word (time_line k n) = (_, _, refl)
first_word (mover_line m) = (_, _, refl)
first_word (late_line id t) = (_, _, refl)
first_word (fixed_line id ns) = (_, _, refl)
first_word (lane_line id cell first ps) = (_, _, refl)
first_word (occ_line id i ns) = (_, _, refl)
first_word (ego_line e) = (_, _, refl)
first_word (disc_line step id p r) = (_, _, refl)
first_word (set_line step b) = (_, _, refl)
first_word (count_line step n) = (_, _, refl)
first_word (last_line Done) = (_, _, refl)
first_word (last_line Open) = (_, _, refl)
first_word (last_line (Empty i)) = (_, _, refl)

spaced_nonempty : (w : Text) (ws : List Text) (r : Text) → spaced (w ∷ ws) ++ r ≡ [] → ⊥
spaced_nonempty [] [] r e = cc
spaced_nonempty [] (x ∷ ws) r e = cc
spaced_nonempty (c ∷ w) [] r e = cc
spaced_nonempty (c ∷ w) (x ∷ ws) r e = cc

line_nonempty : (l : Line) (r : Text) → line_text l ++ r ≡ [] → ⊥
line_nonempty l r e = let k = first_word l in spaced_nonempty k.0 k.1 r (rw k.2 at e)

line_tells : (l m : Line) (r s : Text) → line_text l ++ r ≡ line_text m ++ s → (l ≡ m) × (r ≡ s)
line_tells l m r s e =
    let j = first_word l in
    let k = first_word m in
    let cj : AllClean (j.0 ∷ j.1) = rw j.2 at (clean_line l) in
    let ck : AllClean (k.0 ∷ k.1) = rw k.2 at (clean_line m) in
    let both : (◌≡◌ {A = List Text} (j.0 ∷ j.1) (k.0 ∷ k.1)) × (r ≡ s) = split_line j.0 k.0 j.1 k.1 r s cj.0 ck.0 cj.1 ck.1 (rw (j.2, k.2) at e) in
    (sym (line_back l) ∙ ap line_in (j.2 ∙ both.0 ∙ sym k.2) ∙ line_back m, both.1)

pub texts_tell : TextsTellReports
unfolding report_text
texts_tell [] [] e = refl
texts_tell [] (y ∷ ys) e = absurd (line_nonempty y (flat_map line_text ys) (sym e))
texts_tell (x ∷ xs) [] e = absurd (line_nonempty x (flat_map line_text xs) e)
texts_tell (x ∷ xs) (y ∷ ys) e =
    let k : (x ≡ y) × (flat_map line_text xs ≡ flat_map line_text ys) = line_tells x y (flat_map line_text xs) (flat_map line_text ys) e in
    let a : x ≡ y = k.0 in
    let b : xs ≡ ys = texts_tell xs ys k.1 in
    cc
