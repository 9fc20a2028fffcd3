-- A content is sent by its lines.
use Rattle.std.proofs.Common.{◌≡◌, ◌+◌, ◌-◌, ◌<◌, ◌++◌, ◌∷◌, ◌∙◌, [], append_assoc, ap, arith, Bool, cond, false, length, List, refl, subst, suc, sym, take, true, ℕ}
use Rattle.std.specs.List.{AllByRecursion, flat_map, slice_split}
use Rattle.std.specs.Prelude.{slice_index, ◌==◌}
use Rattle.std.specs.Str.Lines.{lines, lines_of_parts, strip_carriage_return}
use Rattle.std.proofs.lemmas.Bool.{eqb-true}
use Rattle.std.proofs.lemmas.Bool.Decides.{nat_tests}
use Rattle.std.proofs.lemmas.List.{append_cancel_right, append-nil, take_all, take_more}
use Rattle.std.proofs.lemmas.List.Elements.{All-from_recursion}
use Rattle.std.proofs.lemmas.List.Splits.{length-slice_split, slice_split_at, slice_split_none}
use Rattle.q_smtp.specs.ContentLines.{crlf, dotted, sent_content, sent_line}
use Rattle.q_content.specs.Encoding.{behind_byte, behind_bytes, held_back, line_start, sent_byte, sent_bytes, sent_end, sent_rest}
use Rattle.q_content.specs.declared.encoding.ContentLine.{ContentLine}
use Rattle.q_content.proofs.EncodingLaws.{sent_rest-append}

abbrev is_lf : ℕ → Bool
is_lf b = b == 10

-- bytes without LF
abbrev HasNoEnd : List ℕ → Type 0
HasNoEnd bytes = AllByRecursion (λ b. is_lf b ≡ false) bytes

no_end-push : (bytes : List ℕ) (b : ℕ) → HasNoEnd bytes → is_lf b ≡ false → HasNoEnd (bytes ++ b ∷ [])
no_end-push [] b none other = (other, tt)
no_end-push (a ∷ bytes) b none other = (none.0, no_end-push bytes b none.1 other)

begun_behind : (l : ContentLine) (b : ℕ) (cr : Bool) → is_lf b ≡ false → (b == 13) ≡ cr → (behind_byte l b).begun ≡ true
begun_behind l b true lf is_cr = rw (lf, is_cr) refl
begun_behind l b false lf is_cr = rw (lf, is_cr) refl

-- a byte within a line is sent or held back
byte_kept : (l : ContentLine) (b : ℕ) (cr dot : Bool) → is_lf b ≡ false → (b == 13) ≡ cr → (b == 46) ≡ dot → l.begun ≡ true → sent_byte l b ++ held_back (behind_byte l b) ≡ held_back l ++ b ∷ []
byte_kept l b true dot lf is_cr is_dot begun =
    let same : b ≡ 13 = eqb-true b 13 is_cr in
    rw same refl
byte_kept l b false true lf is_cr is_dot begun = rw (lf, is_cr, is_dot, begun) (append-nil (held_back l ++ b ∷ []))
byte_kept l b false false lf is_cr is_dot begun = rw (lf, is_cr, is_dot) (append-nil (held_back l ++ b ∷ []))

-- so are all bytes of a line that has begun
record IsKept (l : ContentLine) (bytes : List ℕ) : Type 0 where
  sent : sent_bytes l bytes ++ held_back (behind_bytes l bytes) ≡ held_back l ++ bytes
  begun : (behind_bytes l bytes).begun ≡ true

kept : (l : ContentLine) (bytes : List ℕ) → HasNoEnd bytes → l.begun ≡ true → IsKept l bytes
unfolding sent_bytes behind_bytes
kept l [] none begun = record { sent = sym (append-nil (held_back l)); begun = begun }
kept l (b ∷ bytes) none begun =
    let next = behind_byte l b in
    let rest : IsKept next bytes = kept next bytes none.1 (begun_behind l b (b == 13) none.0 refl) in
    record {
      sent = append_assoc (sent_byte l b) (sent_bytes next bytes) (held_back (behind_bytes next bytes))
          ∙ ap (λ (x : List ℕ). sent_byte l b ++ x) rest.sent
          ∙ sym (append_assoc (sent_byte l b) (held_back next) bytes)
          ∙ ap (λ (x : List ℕ). x ++ bytes) (byte_kept l b (b == 13) (b == 46) none.0 refl refl begun)
          ∙ append_assoc (held_back l) (b ∷ []) bytes;
      begun = rest.begun;
    }

first_kept : (b : ℕ) (bytes : List ℕ) (cr dot : Bool) → is_lf b ≡ false → (b == 13) ≡ cr → (b == 46) ≡ dot → sent_byte line_start b ++ (held_back (behind_byte line_start b) ++ bytes) ≡ dotted (b ∷ bytes)
first_kept b bytes true dot lf is_cr is_dot =
    let same : b ≡ 13 = eqb-true b 13 is_cr in
    rw same refl
first_kept b bytes false true lf is_cr is_dot = rw (lf, is_cr, is_dot) refl
first_kept b bytes false false lf is_cr is_dot = rw (lf, is_cr, is_dot) refl

-- a line that isn't empty, with its dot
record IsSentLine (line : List ℕ) : Type 0 where
  sent : sent_bytes line_start line ++ held_back (behind_bytes line_start line) ≡ dotted line
  begun : (behind_bytes line_start line).begun ≡ true

line_kept : (b : ℕ) (bytes : List ℕ) → HasNoEnd (b ∷ bytes) → IsSentLine (b ∷ bytes)
unfolding sent_bytes behind_bytes
line_kept b bytes none =
    let next = behind_byte line_start b in
    let rest : IsKept next bytes = kept next bytes none.1 (begun_behind line_start b (b == 13) none.0 refl) in
    record {
      sent = append_assoc (sent_byte line_start b) (sent_bytes next bytes) (held_back (behind_bytes next bytes))
          ∙ ap (λ (x : List ℕ). sent_byte line_start b ++ x) rest.sent
          ∙ first_kept b bytes (b == 13) (b == 46) none.0 refl refl;
      begun = rest.begun;
    }

not_empty : (n : ℕ) → (suc n == 0) ≡ false
not_empty n = grind (arith, nat_tests)

one_line : (b : ℕ) (line : List ℕ) → lines_of_parts ((b ∷ line) ∷ []) ≡ (b ∷ line) ∷ []
one_line b line = rw (not_empty (length line)) refl

regroup : (a b c d : List ℕ) → a ++ ((b ++ c) ++ d) ≡ ((a ++ b) ++ c) ++ d
regroup a b c d = simp append_assoc

-- the last line, which no LF ends
last_line : (line : List ℕ) → HasNoEnd line → sent_rest line_start line ≡ sent_content line
unfolding sent_bytes behind_bytes sent_content
last_line [] none = refl
last_line (b ∷ bytes) none =
    let line = b ∷ bytes in
    let is = line_kept b bytes none in
    let behind = behind_bytes line_start line in
    let parts : slice_split is_lf line ≡ line ∷ [] = slice_split_none is_lf line (All-from_recursion (λ c. is_lf c ≡ false) line none) in
    ap (λ (x : Bool). sent_bytes line_start line ++ ((held_back behind ++ cond x crlf []) ++ 46 ∷ crlf)) is.begun
    ∙ regroup (sent_bytes line_start line) (held_back behind) crlf (46 ∷ crlf)
    ∙ ap (λ (x : List ℕ). (x ++ crlf) ++ 46 ∷ crlf) is.sent
    ∙ ap (λ (x : List ℕ). x ++ 46 ∷ crlf) (sym (append-nil (sent_line line)))
    ∙ ap (λ (x : List (List ℕ)). flat_map sent_line x ++ 46 ∷ crlf) (sym (one_line b bytes))
    ∙ ap (λ (x : List (List ℕ)). flat_map sent_line (lines_of_parts x) ++ 46 ∷ crlf) (sym parts)

held_behind : (l : ContentLine) (b : ℕ) (cr : Bool) → is_lf b ≡ false → (b == 13) ≡ cr → (behind_byte l b).held ≡ cr
held_behind l b true lf is_cr = rw (lf, is_cr) refl
held_behind l b false lf is_cr = rw (lf, is_cr) refl

-- a CR is held back exactly where it is the last byte
held_last : (l : ContentLine) (b : ℕ) (bytes : List ℕ) → HasNoEnd (b ∷ bytes) → (behind_bytes l (b ∷ bytes)).held ≡ (slice_index (b ∷ bytes) (length bytes) == 13)
unfolding behind_bytes
held_last l b [] none = held_behind l b (b == 13) none.0 refl
held_last l b (next ∷ bytes) none = held_last (behind_byte l b) next bytes none.1

dotted_more : (b : ℕ) (line : List ℕ) (dot : Bool) → (b == 46) ≡ dot → dotted ((b ∷ line) ++ 13 ∷ []) ≡ dotted (b ∷ line) ++ 13 ∷ []
dotted_more b line true is_dot = rw is_dot refl
dotted_more b line false is_dot = rw is_dot refl

dotted-push : (line : List ℕ) → dotted (line ++ 13 ∷ []) ≡ dotted line ++ 13 ∷ []
dotted-push [] = refl
dotted-push (b ∷ line) = dotted_more b line (b == 46) refl

-- what was sent of a line, where its last CR is held back
stripped : (sent line : List ℕ) (n : ℕ) (cr : Bool) → length line ≡ n + 1 → (slice_index line n == 13) ≡ cr → sent ++ cond cr (13 ∷ []) [] ≡ dotted line → sent ≡ dotted (cond cr (take n line) line)
stripped sent line n true size is_cr kept =
    let front = take n line in
    let whole : line ≡ front ++ slice_index line n ∷ [] = sym (take_all (n + 1) line (omega arith)) ∙ take_more line n 0 (omega arith) in
    let same : line ≡ front ++ 13 ∷ [] = whole ∙ ap (λ (b : ℕ). front ++ b ∷ []) (eqb-true (slice_index line n) 13 is_cr) in
    append_cancel_right sent (dotted front) (13 ∷ []) (kept ∙ ap dotted same ∙ dotted-push front)
stripped sent line n false size is_cr kept = sym (append-nil sent) ∙ kept

-- a line that an LF ends
full_line : (line : List ℕ) → HasNoEnd line → sent_bytes line_start line ≡ dotted (strip_carriage_return line)
full_line [] none = unfold sent_bytes in refl
full_line (b ∷ bytes) none =
    let line = b ∷ bytes in
    let last : length line - 1 ≡ length bytes = omega arith in
    let kept = (line_kept b bytes none).sent in
    let held : (behind_bytes line_start line).held ≡ (slice_index line (length bytes) == 13) = held_last line_start b bytes none in
    rw last (stripped (sent_bytes line_start line) line (length bytes) (slice_index line (length bytes) == 13) (omega arith) refl
    (ap (λ (x : Bool). sent_bytes line_start line ++ cond x (13 ∷ []) []) (sym held) ∙ kept))

lines_behind : (line : List ℕ) (parts : List (List ℕ)) → 0 < length parts → lines_of_parts (line ∷ parts) ≡ strip_carriage_return line ∷ lines_of_parts parts
lines_behind line [] some = absurd (omega arith)
lines_behind line (part ∷ parts) some = refl

rest_behind : (l : ContentLine) (content : List ℕ) → sent_rest l (10 ∷ content) ≡ crlf ++ sent_rest line_start content
unfolding sent_bytes behind_bytes
rest_behind l content = append_assoc crlf (sent_bytes line_start content) (sent_end (behind_bytes line_start content))

content_behind : (line content : List ℕ) (b : ℕ) → HasNoEnd line → is_lf b ≡ true → sent_content (line ++ b ∷ content) ≡ sent_line (strip_carriage_return line) ++ sent_content content
unfolding sent_content
content_behind line content b none lf =
    let parts = slice_split is_lf content in
    let split : slice_split is_lf (line ++ b ∷ content) ≡ line ∷ parts = slice_split_at is_lf line b content (All-from_recursion (λ c. is_lf c ≡ false) line none) lf in
    ap (λ (x : List (List ℕ)). flat_map sent_line (lines_of_parts x) ++ 46 ∷ crlf) split
    ∙ ap (λ (x : List (List ℕ)). flat_map sent_line x ++ 46 ∷ crlf) (lines_behind line parts (omega (arith, length-slice_split is_lf content)))
    ∙ append_assoc (sent_line (strip_carriage_return line)) (flat_map sent_line (lines content)) (46 ∷ crlf)

abbrev IsSentSo : List ℕ → Type 0
IsSentSo content = sent_rest line_start content ≡ sent_content content

at_byte : (line : List ℕ) (b : ℕ) (content : List ℕ) (lf : Bool) → is_lf b ≡ lf → HasNoEnd line → IsSentSo content → (is_lf b ≡ false → IsSentSo ((line ++ b ∷ []) ++ content)) → IsSentSo (line ++ b ∷ content)
at_byte line b content true lf none rest within =
    let behind = behind_bytes line_start line in
    sent_rest-append line_start line (b ∷ content)
    ∙ ap (λ (x : ℕ). sent_bytes line_start line ++ sent_rest behind (x ∷ content)) (eqb-true b 10 lf)
    ∙ ap (λ (x : List ℕ). sent_bytes line_start line ++ x) (rest_behind behind content)
    ∙ ap (λ (x : List ℕ). x ++ (crlf ++ sent_rest line_start content)) (full_line line none)
    ∙ sym (append_assoc (dotted (strip_carriage_return line)) crlf (sent_rest line_start content))
    ∙ ap (λ (x : List ℕ). sent_line (strip_carriage_return line) ++ x) rest
    ∙ sym (content_behind line content b none lf)
at_byte line b content false lf none rest within = subst IsSentSo (append_assoc line (b ∷ []) content) (within lf)

-- what comes of a line so far, and of the rest of a content
sent_from : (line content : List ℕ) → HasNoEnd line → IsSentSo (line ++ content)
sent_from line [] none = subst IsSentSo (sym (append-nil line)) (last_line line none)
sent_from line (b ∷ content) none =
    at_byte line b content (is_lf b) refl none (sent_from [] content tt) (λ other. sent_from (line ++ b ∷ []) content (no_end-push line b none other))

pub lines_sent : (content : List ℕ) → sent_rest line_start content ≡ sent_content content
lines_sent content = sent_from [] content tt
