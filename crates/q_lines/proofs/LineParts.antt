-- The first line of a text, byte by byte.
use Rattle.std.proofs.Common.{◌≡◌, ℕ, suc, ◌-◌, ◌≤◌, ◌<◌, Bool, true, false, List, [], ◌∷◌, ◌++◌, length, Option, Some, None, refl, sym, ap, ◌∙◌, append_assoc, arith, inl, inr}
use Rattle.std.specs.Prelude.{option_map, IfSome, ◌==◌, not, ◌&&◌}
use Rattle.std.proofs.lemmas.Bool.{lt-ltb, le-ltb}
use Rattle.std.proofs.lemmas.Bool.Decides.{nat_tests}
use Rattle.std.proofs.lemmas.List.{length_push}
use Rattle.q_model.specs.FaultCounts.{Rose}
use Rattle.q_lines.specs.TextLines.{TextLine, whole, unended, cut, onto_line, lines_from, bytes_of, is_in_line, is_long}

-- bytes in front of the first line
abbrev pub onto : List ℕ → List TextLine → List TextLine
onto [] lines = lines
onto (b ∷ bs) lines = onto_line b (onto bs lines)

onto_push : (part : List ℕ) (b : ℕ) (lines : List TextLine) → onto part (onto_line b lines) ≡ onto (part ++ b ∷ []) lines
onto_push [] b lines = refl
onto_push (p ∷ part) b lines = ap (onto_line p) (onto_push part b lines)

onto_end : (part : List ℕ) (lines : List TextLine) → onto part (whole [] ∷ lines) ≡ whole part ∷ lines
onto_end [] lines = refl
onto_end (p ∷ part) lines = ap (onto_line p) (onto_end part lines)

onto_cut : (part : List ℕ) (lines : List TextLine) → onto part (cut [] ∷ lines) ≡ cut part ∷ lines
onto_cut [] lines = refl
onto_cut (p ∷ part) lines = ap (onto_line p) (onto_cut part lines)

onto_none : (p : ℕ) (part : List ℕ) → onto (p ∷ part) [] ≡ unended (p ∷ part) ∷ []
onto_none p [] = refl
onto_none p (q ∷ part) = ap (onto_line p) (onto_none q part)

-- the first line has at least these bytes
record HasFirst (least : ℕ) (lines : List TextLine) : Type 0 where
  pub line : TextLine
  pub more : List TextLine
  pub first : lines ≡ line ∷ more
  pub long : least ≤ length (bytes_of line)

onto_first : (b : ℕ) (lines : List TextLine) → HasFirst 1 (onto_line b lines)
onto_first b [] = record { line = unended (b ∷ []); more = []; first = refl; long = omega arith }
onto_first b (whole line ∷ lines) = record { line = whole (b ∷ line); more = lines; first = refl; long = omega arith }
onto_first b (unended line ∷ lines) = record { line = unended (b ∷ line); more = lines; first = refl; long = omega arith }
onto_first b (cut line ∷ lines) = record { line = cut (b ∷ line); more = lines; first = refl; long = omega arith }

longer : (b n : ℕ) (line : TextLine) (more lines : List TextLine) → lines ≡ line ∷ more → n ≤ length (bytes_of line) → HasFirst (suc n) (onto_line b lines)
longer b n (whole line) more lines e h = record { line = whole (b ∷ line); more = more; first = ap (onto_line b) e; long = omega (arith, h) }
longer b n (unended line) more lines e h = record { line = unended (b ∷ line); more = more; first = ap (onto_line b) e; long = omega (arith, h) }
longer b n (cut line) more lines e h = record { line = cut (b ∷ line); more = more; first = ap (onto_line b) e; long = omega (arith, h) }

onto_long : (b : ℕ) (part : List ℕ) (lines : List TextLine) → HasFirst (length (b ∷ part)) (onto (b ∷ part) lines)
onto_long b [] lines = onto_first b lines
onto_long b (c ∷ part) lines = let f = onto_long c part lines in longer b (length (c ∷ part)) f.line f.more (onto (c ∷ part) lines) f.first f.long

-- so much of the first line was taken
pub record IsPart (most : ℕ) (bytes : List ℕ) (left : ℕ) (part rest : List ℕ) : Type 0 where
  pub whole : bytes ≡ part ++ rest
  pub lines : lines_from most bytes ≡ onto part (lines_from left rest)
  pub in_line : is_in_line part ≡ true

abbrev pub PartTaken : ℕ → Option (List ℕ) → ℕ → List ℕ → Option (List ℕ) → Type 0
PartTaken most old left part new = IfSome old (λ bytes. (rest : List ℕ) × (new ≡ Some rest) × IsPart most bytes left part rest)

-- a byte of the line, or its end
byte_more : (left b : ℕ) (rest : List ℕ) → (b == 10) ≡ false → lines_from (suc left) (b ∷ rest) ≡ onto_line b (lines_from left rest)
byte_more left b rest h = rw h refl

line_ends : (left b : ℕ) (rest : List ℕ) → (b == 10) ≡ true → lines_from (suc left) (b ∷ rest) ≡ whole [] ∷ lines_from left rest
line_ends left b rest h = rw h refl

-- one element more that passes
all_more : (t : Bool) (xs : List ℕ) (b : ℕ) → (is_in_line xs ≡ true → is_in_line (xs ++ b ∷ []) ≡ true) → (t && is_in_line xs) ≡ true → (t && is_in_line (xs ++ b ∷ [])) ≡ true
all_more true xs b more h = more h
all_more false xs b more h = h

still_in_line : (part : List ℕ) (b : ℕ) → is_in_line part ≡ true → (b == 10) ≡ false → is_in_line (part ++ b ∷ []) ≡ true
still_in_line [] b h e = rw e refl
still_in_line (p ∷ part) b h e = all_more (not (p == 10)) part b (λ k. still_in_line part b k e) h

pred : (n : ℕ) → 0 < n → n ≡ suc (n - 1)
pred n h = omega (arith, h)

lines_more : (most left b : ℕ) (bytes part rest : List ℕ) → 0 < left → (b == 10) ≡ false → lines_from most bytes ≡ onto part (lines_from left (b ∷ rest)) → lines_from most bytes ≡ onto (part ++ b ∷ []) (lines_from (left - 1) rest)
lines_more most left b bytes part rest some h e =
    e ∙ ap (λ (n : ℕ). onto part (lines_from n (b ∷ rest))) (pred left some) ∙ ap (onto part) (byte_more (left - 1) b rest h) ∙ onto_push part b (lines_from (left - 1) rest)

pub part_more : (most left b : ℕ) (old mid new : Option (List ℕ)) (part : List ℕ) → 0 < left → (b == 10) ≡ false → mid ≡ option_map (λ rest. b ∷ rest) new → PartTaken most old left part mid → PartTaken most old (left - 1) (part ++ b ∷ []) new
part_more most left b None mid new part some h e t = tt
part_more most left b (Some bytes) mid None part some h e (rest, m, is) = absurd (cc)
part_more most left b (Some bytes) mid (Some r) part some h e (rest, m, is) =
    let same : rest ≡ b ∷ r = cc in (
      r,
      refl,
      record {
        whole = is.whole ∙ ap (λ (x : List ℕ). part ++ x) same ∙ sym (append_assoc part (b ∷ []) r);
        lines = lines_more most left b bytes part r some h (is.lines ∙ ap (λ (x : List ℕ). onto part (lines_from left x)) same);
        in_line = still_in_line part b is.in_line h;
      },
    )

pub part_ends : (most left b : ℕ) (old mid new : Option (List ℕ)) (part : List ℕ) → 0 < left → (b == 10) ≡ true → mid ≡ option_map (λ rest. b ∷ rest) new → PartTaken most old left part mid
    → IfSome old (λ bytes. (rest : List ℕ) × (new ≡ Some rest) × (lines_from most bytes ≡ whole part ∷ lines_from (left - 1) rest))
part_ends most left b None mid new part some h e t = tt
part_ends most left b (Some bytes) mid None part some h e (rest, m, is) = absurd (cc)
part_ends most left b (Some bytes) mid (Some r) part some h e (rest, m, is) =
    let same : rest ≡ b ∷ r = cc in (
      r,
      refl,
      is.lines ∙ ap (λ (x : List ℕ). onto part (lines_from left x)) same ∙ ap (λ (n : ℕ). onto part (lines_from n (b ∷ r))) (pred left some)
          ∙ ap (onto part) (line_ends (left - 1) b r h) ∙ onto_end part (lines_from (left - 1) r),
    )

-- a byte behind the limit of the text
pub part_past : (most left b : ℕ) (old mid new : Option (List ℕ)) (part : List ℕ) → left ≡ 0 → length part ≤ 16777216 → mid ≡ option_map (λ rest. b ∷ rest) new → PartTaken most old left part mid
    → IfSome old (λ bytes. (line : List ℕ) × (lines_from most bytes ≡ cut line ∷ []) × (is_long (cut line) ≡ false))
part_past most left b None mid new part none short e t = tt
part_past most left b (Some bytes) mid None part none short e (rest, m, is) = absurd (cc)
part_past most left b (Some bytes) mid (Some r) part none short e (rest, m, is) =
    let same : rest ≡ b ∷ r = cc in (
      part,
      is.lines ∙ ap (λ (x : List ℕ). onto part (lines_from left x)) same ∙ ap (λ (n : ℕ). onto part (lines_from n (b ∷ r))) none ∙ onto_cut part [],
      le-ltb 16777216 (length part) short,
    )

abbrev IsTooLong : List TextLine → Type 0
IsTooLong lines = (line : TextLine) × (more : List TextLine) × (lines ≡ line ∷ more) × (is_long line ≡ true)

long_first : (part : List ℕ) (lines all : List TextLine) → all ≡ onto part lines → 16777216 < length part → IsTooLong all
long_first [] lines all e h = absurd (omega (arith, h))
long_first (p ∷ part) lines all e h =
    let f = onto_long p part lines in
    (f.line, f.more, e ∙ f.first, lt-ltb 16777216 (length (bytes_of f.line)) (omega (arith, h, f.long)))

-- a byte more than a line may have
pub part_long : (most left b : ℕ) (old mid new : Option (List ℕ)) (part : List ℕ) → 0 < left → (b == 10) ≡ false → length part ≡ 16777216 → mid ≡ option_map (λ rest. b ∷ rest) new → PartTaken most old left part mid
    → IfSome old (λ bytes. (line : TextLine) × (more : List TextLine) × (lines_from most bytes ≡ line ∷ more) × (is_long line ≡ true))
part_long most left b None mid new part some h n e t = tt
part_long most left b (Some bytes) mid None part some h n e (rest, m, is) = absurd (cc)
part_long most left b (Some bytes) mid (Some r) part some h n e (rest, m, is) =
    let same : rest ≡ b ∷ r = cc in
    let lines = lines_more most left b bytes part r some h (is.lines ∙ ap (λ (x : List ℕ). onto part (lines_from left x)) same) in
    long_first (part ++ b ∷ []) (lines_from (left - 1) r) (lines_from most bytes) lines (omega (arith, n, length_push part b))

-- the text ends in the line
pub text_ends : (most left : ℕ) (old mid new : Option (List ℕ)) (part : List ℕ) → 0 < length part → new ≡ mid → IfSome mid (λ bytes. bytes ≡ []) → PartTaken most old left part mid
    → IfSome old (λ bytes. (new ≡ Some []) × (lines_from most bytes ≡ unended part ∷ []))
text_ends most left None mid new part some e n t = tt
text_ends most left (Some bytes) mid new [] some e n (rest, m, is) = absurd (omega arith)
text_ends most left (Some bytes) mid new (p ∷ part) some e n (rest, m, is) =
    let gone : rest ≡ [] = rw m at n in
    (e ∙ m ∙ ap (λ (x : List ℕ). Some x) gone, is.lines ∙ ap (λ (x : List ℕ). onto (p ∷ part) (lines_from left x)) gone ∙ onto_none p part)

-- the text ends before the line
pub no_line : (most left : ℕ) (old mid : Option (List ℕ)) → IfSome mid (λ bytes. bytes ≡ []) → PartTaken most old left [] mid → IfSome old (λ bytes. lines_from most bytes ≡ [])
no_line most left None mid n t = tt
no_line most left (Some bytes) mid n (rest, m, is) = let gone : rest ≡ [] = rw m at n in is.lines ∙ ap (lines_from left) gone

-- the source stops in the line
pub stops : (most left : ℕ) (old mid source : Option (List ℕ)) (part : List ℕ) → source ≡ mid → PartTaken most old left part mid → IfSome old (λ bytes. (p : List ℕ) × (rest : List ℕ) × (source ≡ Some rest) × (bytes ≡ p ++ rest) × (is_in_line p ≡ true))
stops most left None mid source part e t = tt
stops most left (Some bytes) mid source part e (rest, m, is) = (part, rest, e ∙ m, is.whole, is.in_line)

pub is_other : (b : ℕ) → (b ≡ 10 → ⊥) → (b == 10) ≡ false
is_other b h = grind (arith, nat_tests)

pub is_lf : (b : ℕ) → b ≡ 10 → (b == 10) ≡ true
is_lf b h = grind (arith, nat_tests)

-- a count that rose after it had not fallen
pub rose_later : (a b c : ℕ) → a ≤ b → Rose b c → Rose a c
rose_later a b c le (inl lt) = inl (omega (arith, le, lt))
rose_later a b c le (inr last) = inr last

-- nothing is left behind the last line
pub text_none : (most left : ℕ) (old mid new : Option (List ℕ)) (part : List ℕ) → length part ≡ 0 → new ≡ mid → IfSome mid (λ bytes. bytes ≡ []) → PartTaken most old left part mid
    → IfSome old (λ bytes. (new ≡ Some []) × (lines_from most bytes ≡ []))
text_none most left None mid new part z e n t = tt
text_none most left (Some bytes) None new part z e n (rest, m, is) = absurd (cc)
text_none most left (Some bytes) (Some r) new [] z e n (rest, m, is) =
    let same : rest ≡ [] = cc in
    (e ∙ ap Some n, is.lines ∙ ap (lines_from left) same)
text_none most left (Some bytes) (Some r) new (p ∷ part) z e n (rest, m, is) = absurd (cc)
