-- What is kept of a reply, and the reply, go on alike.
use Rattle.std.proofs.Common.{◌≡◌, ℕ, ◌+◌, ◌≤◌, Bool, true, false, ◌&&◌, ◌||◌, ◌==◌, not, if◌then◌else◌, List, [], ◌∷◌, ◌++◌, length, take, slice_index, slice_set, nat_lt, refl, sym, ap, ◌∙◌, arith, nat_le, true≢false, eqb-true, length-append, length-take-le, take_all, subst}
use Rattle.std.proofs.Math.ListN.{length-set}
use Rattle.std.proofs.lemmas.Bool.{leb-true}
use Rattle.std.specs.Cmp.{first_so, second_so}
use Rattle.std.specs.Cmp.Lexicographic.{bytes_decides}
use Rattle.std.proofs.lemmas.Bool.Decides.{nat_tests}
use Rattle.std.proofs.lemmas.Grind.{common_steps}
use Rattle.q_smtp.specs.ReplyLines.{begins_line, code_number, has_code, has_more, is_digit}
use Rattle.q_smtp.specs.Replies.{Bad, Came, Long, On, Part, Whole, comes, is_full, may_follow, nothing_yet, with_byte, with_line}
use Rattle.q_reply.specs.Progress.{Shows, follows, goes_on, behind, next_line, number_of, Took}
use Rattle.q_reply.specs.declared.progress.Taken.TheVariants as taken
use Rattle.q_reply.specs.declared.progress.Progress.{Progress}

not_false : {X : Type 0} → false ≡ true → X
not_false h = absurd (true≢false (sym h))

-- the digits of the code, which a later line repeats
abbrev repeated : Bool → List ℕ → List ℕ
repeated first code = if first then [] else code

abbrev three : ℕ → ℕ → ℕ → List ℕ
three a b c = a ∷ b ∷ c ∷ []

-- the grammar's test of a byte behind a line
abbrev fits : List ℕ → List ℕ → ℕ → Bool
fits code line b = begins_line (line ++ b ∷ []) && has_code code (line ++ b ∷ [])

fits_first : (t : Bool) (a c d b : ℕ) → fits (repeated t (three a c d)) [] b ≡ ((nat_le 50 b && nat_le b 53) && (t || (b == a)))
fits_first true a c d b = by (nat_le 50 b && nat_le b 53)
  where
    by : (k : Bool) → (((k && true) && true) && true) ≡ (k && true)
    by true = refl
    by false = refl
fits_first false a c d b = by (nat_le 50 b && nat_le b 53) (b == a)
  where
    by : (k e : Bool) → (((k && true) && true) && (e && true)) ≡ (k && e)
    by true true = refl
    by true false = refl
    by false e = refl

fits_second : (t : Bool) (a c d x b : ℕ) → begins_line (x ∷ []) ≡ true → has_code (repeated t (three a c d)) (x ∷ []) ≡ true
    → fits (repeated t (three a c d)) (x ∷ []) b ≡ (is_digit b && (t || (b == c)))
fits_second true a c d x b h g = by (nat_le 50 x && nat_le x 53) (is_digit b) h
  where
    by : (k e : Bool) → ((k && true) && true) ≡ true → (((k && (e && true)) && true) && true) ≡ (e && true)
    by true true h = refl
    by true false h = refl
    by false e h = not_false h
fits_second false a c d x b h g = by (nat_le 50 x && nat_le x 53) (is_digit b) (x == a) (b == c) h g
  where
    by : (k e s f : Bool) → ((k && true) && true) ≡ true → (s && true) ≡ true → (((k && (e && true)) && true) && (s && (f && true))) ≡ (e && f)
    by true true true true h g = refl
    by true true true false h g = refl
    by true false s f h g = refl
    by true true false f h g = not_false g
    by false e s f h g = not_false h

fits_third : (t : Bool) (a c d x y b : ℕ) → begins_line (x ∷ y ∷ []) ≡ true → has_code (repeated t (three a c d)) (x ∷ y ∷ []) ≡ true
    → fits (repeated t (three a c d)) (x ∷ y ∷ []) b ≡ (is_digit b && (t || (b == d)))
fits_third true a c d x y b h g = by (nat_le 50 x && nat_le x 53) (is_digit y) (is_digit b) h
  where
    by : (k l e : Bool) → ((k && (l && true)) && true) ≡ true → (((k && (l && (e && true))) && true) && true) ≡ (e && true)
    by true true true h = refl
    by true true false h = refl
    by true false e h = not_false h
    by false l e h = not_false h
fits_third false a c d x y b h g = by (nat_le 50 x && nat_le x 53) (is_digit y) (is_digit b) (x == a) (y == c) (b == d) h g
  where
    by : (k l e s u f : Bool) → ((k && (l && true)) && true) ≡ true → (s && (u && true)) ≡ true → (((k && (l && (e && true))) && true) && (s && (u && (f && true)))) ≡ (e && f)
    by true true true true true true h g = refl
    by true true true true true false h g = refl
    by true true false s u f h g = refl
    by true true true true false f h g = not_false g
    by true true true false u f h g = not_false g
    by true false e s u f h g = not_false h
    by false l e s u f h g = not_false h

fits_fourth : (code : List ℕ) (x y z b : ℕ) → begins_line (x ∷ y ∷ z ∷ []) ≡ true → has_code code (x ∷ y ∷ z ∷ []) ≡ true
    → fits code (x ∷ y ∷ z ∷ []) b ≡ ((b == 45) || (b == 32) || (b == 13))
fits_fourth [] x y z b h g = by ((nat_le 50 x && nat_le x 53) && (is_digit y && (is_digit z && true))) (b == 45) (b == 32) (b == 13) h
  where
    by : (k p q r : Bool) → (k && true) ≡ true → ((k && ((p || q) || (r && true))) && true) ≡ ((p || q) || r)
    by true true q r h = refl
    by true false true r h = refl
    by true false false true h = refl
    by true false false false h = refl
    by false p q r h = not_false h
fits_fourth (c ∷ code) x y z b h g = by ((nat_le 50 x && nat_le x 53) && (is_digit y && (is_digit z && true))) (b == 45) (b == 32) (b == 13) (has_code (c ∷ code) (x ∷ y ∷ z ∷ [])) h g
  where
    by : (k p q r s : Bool) → (k && true) ≡ true → s ≡ true → ((k && ((p || q) || (r && true))) && s) ≡ ((p || q) || r)
    by true true q r true h g = refl
    by true false true r true h g = refl
    by true false false true true h g = refl
    by true false false false s h g = refl
    by true true q r false h g = not_false g
    by true false true r false h g = not_false g
    by true false false true false h g = not_false g
    by false p q r s h g = not_false h

longer : (xs : List ℕ) (b : ℕ) → (length (xs ++ b ∷ []) == 0) ≡ false
longer xs b = grind (arith, nat_tests, common_steps)

later_bits : (k p q r l n s : Bool) → (r ≡ true → (p ≡ false) × (q ≡ false)) → (k && ((p || q) || (r && l))) ≡ true → n ≡ false → s ≡ true → ((k && ((p || q) || (r && n))) && s) ≡ not r
later_bits false p q r l n s other h e g = not_false h
later_bits k p q r l true s other h e g = not_false (sym e)
later_bits k p q r l n false other h e g = not_false g
later_bits true true q true l false true other h e g = not_false (sym (other refl).0)
later_bits true false true true l false true other h e g = not_false (sym (other refl).1)
later_bits true false false true l false true other h e g = refl
later_bits true true q false l false true other h e g = refl
later_bits true false true false l false true other h e g = refl
later_bits true false false false l false true other h e g = not_false h

no_other : (m : ℕ) → (m == 13) ≡ true → ((m == 45) ≡ false) × ((m == 32) ≡ false)
no_other m h = rw (eqb-true m 13 h) (refl, refl)

fits_later : (code : List ℕ) (x y z m b : ℕ) (text : List ℕ) → begins_line (x ∷ y ∷ z ∷ m ∷ text) ≡ true → has_code code (x ∷ y ∷ z ∷ m ∷ text) ≡ true
    → fits code (x ∷ y ∷ z ∷ m ∷ text) b ≡ not (m == 13)
fits_later [] x y z m b text h g =
    later_bits ((nat_le 50 x && nat_le x 53) && (is_digit y && (is_digit z && true))) (m == 45) (m == 32) (m == 13) (length text == 0) (length (text ++ b ∷ []) == 0) true
    (no_other m) h (longer text b) refl
fits_later (c ∷ code) x y z m b text h g =
    later_bits ((nat_le 50 x && nat_le x 53) && (is_digit y && (is_digit z && true))) (m == 45) (m == 32) (m == 13) (length text == 0) (length (text ++ b ∷ []) == 0)
    (has_code (c ∷ code) (x ∷ y ∷ z ∷ m ∷ text)) (no_other m) h (longer text b) g

-- beyond the fourth byte
beyond : (n : ℕ) (A B C D : Bool) → 4 ≤ n → (if n == 0 then A else (if nat_le n 2 then B else (if n == 3 then C else D))) ≡ D
beyond n A B C D h = grind (arith, nat_tests)

abbrev kept : ℕ → ℕ → ℕ → ℕ → ℕ → ℕ → Progress
kept a c d lines column mark = record { code = three a c d; lines = lines; column = column; mark = mark }

fits_same : (line : List ℕ) (a c d lines mark b : ℕ) → begins_line line ≡ true → has_code (repeated (lines == 0) (three a c d)) line ≡ true → mark ≡ slice_index line 3
    → fits (repeated (lines == 0) (three a c d)) line b ≡ goes_on (kept a c d lines (length line) mark) b
fits_same [] a c d lines mark b h g is = fits_first (lines == 0) a c d b
fits_same (x ∷ []) a c d lines mark b h g is = fits_second (lines == 0) a c d x b h g
fits_same (x ∷ y ∷ []) a c d lines mark b h g is = fits_third (lines == 0) a c d x y b h g
fits_same (x ∷ y ∷ z ∷ []) a c d lines mark b h g is = fits_fourth (repeated (lines == 0) (three a c d)) x y z b h g
fits_same (x ∷ y ∷ z ∷ m ∷ text) a c d lines mark b h g is =
    fits_later (repeated (lines == 0) (three a c d)) x y z m b text h g
    ∙ ap (λ n. not (n == 13)) (sym is)
    ∙ sym (beyond (length (x ∷ y ∷ z ∷ m ∷ text)) _ _ _ _ (omega arith))

three_items : (xs : List ℕ) → length xs ≡ 3 → (a : ℕ) × (c : ℕ) × (d : ℕ) × (xs ≡ three a c d)
three_items [] h = absurd (omega arith)
three_items (a ∷ []) h = absurd (omega arith)
three_items (a ∷ c ∷ []) h = absurd (omega arith)
three_items (a ∷ c ∷ d ∷ []) h = (a, c, d, refl)
three_items (a ∷ c ∷ d ∷ e ∷ xs) h = absurd (omega arith)

kept_is : (s : Progress) (a c d n : ℕ) → s.code ≡ three a c d → s.column ≡ n → s ≡ kept a c d s.lines n s.mark
kept_is s a c d n code column = ap (λ (xs : List ℕ). record s { code = xs }) code ∙ ap (λ (m : ℕ). record { code = three a c d; lines = s.lines; column = m; mark = s.mark }) column

abbrev is_kept : Progress → ℕ → Type 0
is_kept s n = (a : ℕ) × (c : ℕ) × (d : ℕ) × (s ≡ kept a c d s.lines n s.mark) × (s.code ≡ three a c d)

kept_of : (p : Part) (s : Progress) → Shows p s → is_kept s (length p.line)
kept_of p s h = let t = three_items s.code h.three in (t.0, t.1, t.2, kept_is s t.0 t.1 t.2 (length p.line) t.3 h.column, t.3)

same_fits : (p : Part) (s : Progress) (b : ℕ) → Shows p s → fits p.code p.line b ≡ goes_on s b
same_fits p s b h =
    let k = kept_of p s h in
    let code : p.code ≡ repeated (s.lines == 0) (three k.0 k.1 k.2) = h.code ∙ ap (λ (xs : List ℕ). repeated (s.lines == 0) xs) k.4 in
    ap (λ (xs : List ℕ). fits xs p.line b) code
    ∙ fits_same p.line k.0 k.1 k.2 s.lines s.mark b h.begins (sym (ap (λ (xs : List ℕ). has_code xs p.line) code) ∙ h.same) h.mark
    ∙ ap (λ (t : Progress). goes_on t b) (sym k.3)

-- the same bytes may follow
pub same_follow : (p : Part) (s : Progress) (b : ℕ) → Shows p s → may_follow p b ≡ follows s b
same_follow p s b h =
    ap (λ (n : ℕ). if b == 10 then nat_le 3 n else fits p.code p.line b) (sym h.column)
    ∙ ap (λ (t : Bool). if b == 10 then nat_le 3 s.column else t) (same_fits p s b h)

pub same_full : (p : Part) (s : Progress) → Shows p s → is_full p ≡ (nat_le 512 s.column || nat_le 100 s.lines)
same_full p s h = rw (h.column, h.lines) refl

marked : (line : List ℕ) (b : ℕ) → slice_index (line ++ b ∷ []) 3 ≡ (if length line == 3 then b else slice_index line 3)
marked [] b = refl
marked (x ∷ []) b = refl
marked (x ∷ y ∷ []) b = refl
marked (x ∷ y ∷ z ∷ []) b = refl
marked (x ∷ y ∷ z ∷ m ∷ text) b = by (length (x ∷ y ∷ z ∷ m ∷ text) == 3) (grind (arith, nat_tests))
  where
    by : (t : Bool) → t ≡ false → m ≡ (if t then b else m)
    by true e = not_false (sym e)
    by false e = refl

-- in the first line the digit is kept
digit_kept : (line : List ℕ) (a c d b : ℕ) → take 3 line ≡ take (length (take 3 line)) (three a c d)
    → take 3 (line ++ b ∷ []) ≡ take (length (take 3 (line ++ b ∷ []))) (if nat_lt (length line) 3 then slice_set (three a c d) (length line) b else three a c d)
digit_kept [] a c d b h = refl
digit_kept (x ∷ []) a c d b h = ap (λ (xs : List ℕ). xs ++ b ∷ []) h
digit_kept (x ∷ y ∷ []) a c d b h = ap (λ (xs : List ℕ). xs ++ b ∷ []) h
digit_kept (x ∷ y ∷ z ∷ []) a c d b h = h
digit_kept (x ∷ y ∷ z ∷ m ∷ text) a c d b h = by (nat_lt (length (x ∷ y ∷ z ∷ m ∷ text)) 3) (grind (arith, nat_tests))
  where
    by : (t : Bool) → t ≡ false → x ∷ y ∷ z ∷ [] ≡ take 3 (if t then slice_set (three a c d) (length (x ∷ y ∷ z ∷ m ∷ text)) b else three a c d)
    by true e = not_false (sym e)
    by false e = h

digits_after : (t : Bool) (line : List ℕ) (a c d b : ℕ) → take 3 line ≡ take (length (take 3 line)) (three a c d) → has_code (repeated t (three a c d)) (line ++ b ∷ []) ≡ true
    → take 3 (line ++ b ∷ []) ≡ take (length (take 3 (line ++ b ∷ []))) (if t && nat_lt (length line) 3 then slice_set (three a c d) (length line) b else three a c d)
digits_after true line a c d b h has = digit_kept line a c d b h
digits_after false line a c d b h has = (bytes_decides (take 3 (line ++ b ∷ [])) (take (length (take 3 (line ++ b ∷ []))) (three a c d))).0 has

code_after : (t u : Bool) (code set : List ℕ) → (if t then [] else code) ≡ (if t then [] else (if t && u then set else code))
code_after true u code set = refl
code_after false u code set = refl

three_after : (t : Bool) (code : List ℕ) (i b : ℕ) → length code ≡ 3 → length (if t then slice_set code i b else code) ≡ 3
three_after true code i b h = length-set code i b ∙ h
three_after false code i b h = h

pub same_add : (p : Part) (s : Progress) (b : ℕ) → Shows p s → (b == 10) ≡ false → may_follow p b ≡ true → Shows (with_byte p b) (behind s b)
same_add p s b h other follow =
    let k = kept_of p s h in
    let fit : fits p.code p.line b ≡ true = ap (λ (t : Bool). if t then nat_le 3 (length p.line) else fits p.code p.line b) (sym other) ∙ follow in
    let has : has_code p.code (p.line ++ b ∷ []) ≡ true = second_so (begins_line (p.line ++ b ∷ [])) (has_code p.code (p.line ++ b ∷ [])) fit in
    let code : p.code ≡ repeated (s.lines == 0) (three k.0 k.1 k.2) = h.code ∙ ap (λ (xs : List ℕ). repeated (s.lines == 0) xs) k.4 in
    record {
      lines = h.lines;
      column = ap (λ (n : ℕ). n + 1) h.column ∙ sym (length-append p.line (b ∷ []));
      mark = ap (λ (n : ℕ). if s.column == 3 then b else n) h.mark ∙ ap (λ (n : ℕ). if n == 3 then b else slice_index p.line 3) h.column ∙ sym (marked p.line b);
      digits = digits_after (s.lines == 0) p.line k.0 k.1 k.2 b (h.digits ∙ ap (λ (xs : List ℕ). take (length (take 3 p.line)) xs) k.4) (sym (ap (λ (xs : List ℕ). has_code xs (p.line ++ b ∷ [])) code) ∙ has)
          ∙ ap (λ (xs : List ℕ). take (length (take 3 (p.line ++ b ∷ []))) (if (s.lines == 0) && nat_lt (length p.line) 3 then slice_set xs (length p.line) b else xs)) (sym k.4)
          ∙ ap (λ (n : ℕ). take (length (take 3 (p.line ++ b ∷ []))) (if (s.lines == 0) && nat_lt n 3 then slice_set s.code n b else s.code)) (sym h.column);
      code = h.code ∙ code_after (s.lines == 0) (nat_lt s.column 3) s.code (slice_set s.code s.column b);
      three = three_after ((s.lines == 0) && nat_lt s.column 3) s.code s.column b h.three;
      begins = first_so (begins_line (p.line ++ b ∷ [])) (has_code p.code (p.line ++ b ∷ [])) fit;
      same = has;
    }

-- the digits of a whole line are the code
whole_digits : (line code : List ℕ) → 3 ≤ length line → length code ≡ 3 → take 3 line ≡ take (length (take 3 line)) code → take 3 line ≡ code
whole_digits line code long three h = h ∙ take_all (length (take 3 line)) code (omega (arith, length-take-le 3 line long))

has_any : (code : List ℕ) → has_code code [] ≡ true
has_any [] = refl
has_any (c ∷ code) = refl

pub same_line : (p : Part) (s : Progress) → Shows p s → nat_le 3 (length p.line) ≡ true → Shows (with_line p) (next_line s)
same_line p s h long = record {
  lines = ap (λ (n : ℕ). n + 1) h.lines;
  column = refl;
  mark = refl;
  digits = refl;
  code = whole_digits p.line s.code (leb-true 3 (length p.line) long) h.three h.digits ∙ by ((s.lines + 1) == 0) (grind (arith, nat_tests));
  three = h.three;
  begins = refl;
  same = has_any (take 3 p.line);
}
  where
    by : (t : Bool) → t ≡ false → s.code ≡ (if t then [] else s.code)
    by true e = not_false (sym e)
    by false e = refl

number_same : (line code : List ℕ) → take 3 line ≡ code → code_number line ≡ number_of code
number_same line code h = by line ∙ ap number_of h
  where
    by : (xs : List ℕ) → code_number xs ≡ number_of (take 3 xs)
    by [] = refl
    by (x ∷ []) = refl
    by (x ∷ y ∷ []) = refl
    by (x ∷ y ∷ z ∷ text) = refl

pub same_number : (p : Part) (s : Progress) → Shows p s → nat_le 3 (length p.line) ≡ true → code_number p.line ≡ number_of s.code
same_number p s h long = number_same p.line s.code (whole_digits p.line s.code (leb-true 3 (length p.line) long) h.three h.digits)

pub same_start : Shows nothing_yet (record { code = 0 ∷ 0 ∷ 0 ∷ []; lines = 0; column = 0; mark = 0 })
same_start = record { lines = refl; column = refl; mark = refl; digits = refl; code = refl; three = refl; begins = refl; same = refl }

abbrev choice : Part → ℕ → Bool → Bool → Bool → Bool → Came
choice p b full follow end more = if full then Long else (if follow then (if end then (if more then On (with_line p) else Whole (code_number p.line)) else On (with_byte p b)) else Bad)

comes_as : (p : Part) (b : ℕ) (full follow end more : Bool) → is_full p ≡ full → may_follow p b ≡ follow → (b == 10) ≡ end → has_more p.line ≡ more → comes p b ≡ choice p b full follow end more
comes_as p b full follow end more e f g h =
    ap (λ (t : Bool). choice p b t (may_follow p b) (b == 10) (has_more p.line)) e
    ∙ ap (λ (t : Bool). choice p b full t (b == 10) (has_more p.line)) f
    ∙ ap (λ (t : Bool). choice p b full follow t (has_more p.line)) g
    ∙ ap (λ (t : Bool). choice p b full follow end t) h

abbrev keeps : Progress → Bool → Type 0
keeps s full = (nat_le 512 s.column || nat_le 100 s.lines) ≡ full

pub took_long : (p : Part) (s : Progress) (b : ℕ) → Shows p s → keeps s true → Took (comes p b) taken.Long s
took_long p s b h full = subst (λ (x : Came). Took x taken.Long s) (sym (comes_as p b true _ _ _ (same_full p s h ∙ full) refl refl refl)) tt

pub took_bad : (p : Part) (s : Progress) (b : ℕ) → Shows p s → keeps s false → follows s b ≡ false → Took (comes p b) taken.Bad s
took_bad p s b h full follow = subst (λ (x : Came). Took x taken.Bad s) (sym (comes_as p b false false _ _ (same_full p s h ∙ full) (same_follow p s b h ∙ follow) refl refl)) tt

pub took_byte : (p : Part) (s : Progress) (b : ℕ) → Shows p s → keeps s false → follows s b ≡ true → (b == 10) ≡ false → Took (comes p b) taken.On (behind s b)
took_byte p s b h full follow other =
    subst (λ (x : Came). Took x taken.On (behind s b)) (sym (comes_as p b false true false _ (same_full p s h ∙ full) (same_follow p s b h ∙ follow) other refl))
    (same_add p s b h other (same_follow p s b h ∙ follow))

long_enough : (p : Part) (s : Progress) (b : ℕ) → Shows p s → follows s b ≡ true → (b == 10) ≡ true → nat_le 3 (length p.line) ≡ true
long_enough p s b h follow end = ap (nat_le 3) (sym h.column) ∙ sym (ap (λ (t : Bool). if t then nat_le 3 s.column else goes_on s b) end) ∙ follow

more_same : (p : Part) (s : Progress) → Shows p s → has_more p.line ≡ (s.mark == 45)
more_same p s h = ap (λ (n : ℕ). n == 45) (sym h.mark)

pub took_line : (p : Part) (s : Progress) (b : ℕ) → Shows p s → keeps s false → follows s b ≡ true → (b == 10) ≡ true → (s.mark == 45) ≡ true → Took (comes p b) taken.On (next_line s)
took_line p s b h full follow end more =
    subst (λ (x : Came). Took x taken.On (next_line s)) (sym (comes_as p b false true true true (same_full p s h ∙ full) (same_follow p s b h ∙ follow) end (more_same p s h ∙ more)))
    (same_line p s h (long_enough p s b h follow end))

pub took_whole : (p : Part) (s : Progress) (b : ℕ) → Shows p s → keeps s false → follows s b ≡ true → (b == 10) ≡ true → (s.mark == 45) ≡ false
    → Took (comes p b) (taken.Whole (number_of s.code)) (record { code = 0 ∷ 0 ∷ 0 ∷ []; lines = 0; column = 0; mark = 0 })
took_whole p s b h full follow end more =
    subst (λ (x : Came). Took x (taken.Whole (number_of s.code)) (record { code = 0 ∷ 0 ∷ 0 ∷ []; lines = 0; column = 0; mark = 0 }))
    (sym (comes_as p b false true true false (same_full p s h ∙ full) (same_follow p s b h ∙ follow) end (more_same p s h ∙ more)))
    (sym (same_number p s h (long_enough p s b h follow end)), same_start)
