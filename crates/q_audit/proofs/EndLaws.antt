-- How a trace is read line by line, to its end.
use Rattle.std.proofs.Common.{◌≡◌, ℕ, suc, ◌+◌, ◌-◌, ◌^◌, ◌<◌, ◌≤◌, ◌++◌, Bool, true, false, List, [], ◌∷◌, length, min, Option, Some, None, inl, inr, refl, sym, ap, ◌∙◌, subst, arith, append_assoc}
use Rattle.std.proofs.lemmas.Bool.{le-ltb}
use Rattle.std.proofs.lemmas.List.{length-append}
use Rattle.std.specs.Prelude.{Err, IfSome, Ok, Result}
use Rattle.std.specs.Result.{IsErrAnd}
use Rattle.q_audit.specs.Reading.{AuditState, Reads, ReadsLine, table_in}
use Rattle.q_audit.specs.TraceEnds.{Goes, HasAll, HasRead, IsRefused, IsWhole, ReadsOn}
use Rattle.q_audit.specs.TraceTexts.{AreLinesWith, IsAtFault, IsLineWith, IsPart}
use Rattle.q_audit.specs.declared.trace.TraceError.{TraceError}
use Rattle.q_audit.specs.declared.trace.TraceError.TheVariants.{BadLine, NoMemory, Source, TooLong}
use Rattle.q_lines.specs.States.{ReaderState, text_left}
use Rattle.q_lines.specs.TextLines.{cut, is_long, lines_from, TextLine, unended, whole}
use Rattle.q_lines.specs.declared.line_reader.NextLine.TheVariants as nexts
use Rattle.q_model.specs.Settings.{Table, World}
use Rattle.q_model.specs.TextParts.{text_line}
use Rattle.q_model.specs.declared.entry.Entry.{Entry}
use Rattle.q_trace.specs.Bounds.{IsNoLine}

-- ---- lines and their entries

lines_more : (t : Table) (ls : List TextLine) (es : List Entry) (x : TextLine) (e : Entry) → AreLinesWith t ls es → IsLineWith t x e
    → AreLinesWith t (ls ++ x ∷ []) (es ++ e ∷ [])
lines_more t [] [] x e h k = (k, tt)
lines_more t (l ∷ ls) (f ∷ es) x e h k = (h.0, lines_more t ls es x e h.1 k)
lines_more t [] (f ∷ es) x e h k = absurd h
lines_more t (l ∷ ls) [] x e h k = absurd h

as_many : (t : Table) (ls : List TextLine) (es : List Entry) → AreLinesWith t ls es → length ls ≡ length es
as_many t [] [] h = refl
as_many t (l ∷ ls) (f ∷ es) h = ap suc (as_many t ls es h.1)
as_many t [] (f ∷ es) h = absurd h
as_many t (l ∷ ls) [] h = absurd h

fits : (line : List ℕ) → length line ≤ 16777216 → is_long (whole line) ≡ false
fits line h = le-ltb 16777216 (length line) h

-- ---- the next line

-- what the reader is told to have left, by what is left
left_is : (P : List ℕ → Type 0) (o : Option (List ℕ)) (rest : List ℕ) → o ≡ Some rest → IfSome o P → P rest
left_is P (Some x) rest e h = let same : x ≡ rest = cc in subst P same h
left_is P None rest e h = absurd cc

-- by a fact of the bytes of the start, where they are told
by_start : {P Q : List ℕ → Type 0} (start : Option (List ℕ)) → IfSome start P → ((bytes : List ℕ) → start ≡ Some bytes → P bytes → Q bytes) → IfSome start Q
by_start None h f = tt
by_start (Some bytes) h f = f bytes refl h

goes_behind : (start : Option (List ℕ)) (ls : List TextLine) (r r' : ReaderState) (left left' : Option (List ℕ)) (line : List ℕ)
    → Goes start ls r left → IfSome (text_left r.buffered left) (λ bytes. (rest : List ℕ) × (text_left r'.buffered left' ≡ Some rest) × (lines_from r.budget bytes ≡ whole line ∷ lines_from r'.budget rest))
    → Goes start (ls ++ whole line ∷ []) r' left'
goes_behind start ls r r' left left' line h next = by_start start h (λ bytes at g.
    let n = left_is _ (text_left r.buffered left) g.0 g.1 next in
    (n.0, n.1, g.2 ∙ ap (λ (xs : List TextLine). ls ++ xs) n.2 ∙ sym (append_assoc ls (whole line ∷ []) (lines_from r'.budget n.0))))

-- one line more was read
pub read_more : (w : World) (start : Option (List ℕ)) (a a' : AuditState) (r r' : ReaderState) (left left' : Option (List ℕ)) (line : List ℕ) (h : HasRead w start a r left)
    → IfSome (text_left r.buffered left) (λ bytes. (rest : List ℕ) × (text_left r'.buffered left' ≡ Some rest) × (lines_from r.budget bytes ≡ whole line ∷ lines_from r'.budget rest))
    → r'.budget < r.budget → length line ≤ 16777216 → ReadsLine w a' h.entries (text_line line) → HasRead w start a' r' left'
read_more w start a a' r r' left left' line h next spent short more = record {
  entries = h.entries ++ more.entry ∷ [];
  lines = h.lines ++ whole line ∷ [];
  reads = more.reads;
  told = lines_more w.table h.lines h.entries (whole line) more.entry h.told (fits line short, more.tells);
  goes = goes_behind start h.lines r r' left left' line h.goes next;
  few = omega (arith, h.few, spent, length-append h.entries (more.entry ∷ []));
}

none_behind : (buffered : List ℕ) (left : Option (List ℕ)) → text_left buffered left ≡ Some [] → left ≡ Some []
none_behind [] None e = absurd cc
none_behind [] (Some rest) e = e
none_behind (b ∷ buffered) None e = absurd cc
none_behind (b ∷ buffered) (Some rest) e = absurd cc

whole_at : (w : World) (start : Option (List ℕ)) (a : AuditState) (r r' : ReaderState) (left left' : Option (List ℕ)) (last : List TextLine) (h : HasRead w start a r left) → IsPart last
    → IfSome (text_left r.buffered left) (λ bytes. (text_left r'.buffered left' ≡ Some []) × (lines_from r.budget bytes ≡ last)) → IsWhole w start left' h.entries
whole_at w start a r r' left left' last h part end = by_start start h.goes (λ bytes at g.
    let n = left_is _ (text_left r.buffered left) g.0 g.1 end in (
      record { lines = h.lines; rest = last; is = g.2 ∙ ap (λ (xs : List TextLine). h.lines ++ xs) n.1; told = h.told; part = part },
      none_behind r'.buffered left' n.0,
    ))

-- there is no line more, or a part of one
pub at_end : (w : World) (start : Option (List ℕ)) (a : AuditState) (r r' : ReaderState) (left left' : Option (List ℕ)) (last : List TextLine) → HasRead w start a r left → IsPart last
    → IfSome (text_left r.buffered left) (λ bytes. (text_left r'.buffered left' ≡ Some []) × (lines_from r.budget bytes ≡ last)) → HasAll w start a left'
at_end w start a r r' left left' last h part end = record { entries = h.entries; reads = h.reads; whole = whole_at w start a r r' left left' last h part end }

pub short_part : (line : List ℕ) → length line ≤ 16777216 → is_long (unended line) ≡ false
short_part line h = le-ltb 16777216 (length line) h

number_here : (w : World) (start : Option (List ℕ)) (a : AuditState) (r : ReaderState) (left : Option (List ℕ)) (number : ℕ) (h : HasRead w start a r left) → number ≡ min (a.lines + 1) (2 ^ 64 - 1) → number ≡ length h.lines + 1
number_here w start a r left number h is = omega (arith, is, h.few, h.reads.lines, as_many w.table h.lines h.entries h.told)

-- the next line is at fault
pub at_fault : (w : World) (start : Option (List ℕ)) (a : AuditState) (r : ReaderState) (left : Option (List ℕ)) (number : ℕ) → HasRead w start a r left → number ≡ min (a.lines + 1) (2 ^ 64 - 1)
    → IfSome (text_left r.buffered left) (λ bytes. (line : TextLine) × (more : List TextLine) × (lines_from r.budget bytes ≡ line ∷ more) × IsAtFault w.table line) → IsRefused w start (BadLine number)
at_fault w start a r left number h is next = by_start start h.goes (λ bytes at g.
    let n = left_is _ (text_left r.buffered left) g.0 g.1 next in
    record {
      lines = h.lines;
      es = h.entries;
      before = h.told;
      line = n.0;
      more = n.1;
      is = g.2 ∙ ap (λ (xs : List TextLine). h.lines ++ xs) n.2;
      fault = n.3;
      here = number_here w start a r left number h is;
    })

-- a line that is too long is at fault
long_fault : (t : Table) (line : TextLine) → is_long line ≡ true → IsAtFault t line
long_fault t (whole line) h = inl h
long_fault t (unended line) h = h
long_fault t (cut line) h = h

pub too_long : (t : Table) (b : ℕ) (o : Option (List ℕ)) → IfSome o (λ bytes. (line : TextLine) × (more : List TextLine) × (lines_from b bytes ≡ line ∷ more) × (is_long line ≡ true))
    → IfSome o (λ bytes. (line : TextLine) × (more : List TextLine) × (lines_from b bytes ≡ line ∷ more) × IsAtFault t line)
too_long t b None h = tt
too_long t b (Some bytes) (line, more, is, long) = (line, more, is, long_fault t line long)

-- a line of no entry is at fault
pub no_line : (t : Table) (b b' : ℕ) (o : Option (List ℕ)) (new : Option (List ℕ)) (line : List ℕ) → IsNoLine t (text_line line)
    → IfSome o (λ bytes. (rest : List ℕ) × (new ≡ Some rest) × (lines_from b bytes ≡ whole line ∷ lines_from b' rest))
    → IfSome o (λ bytes. (line : TextLine) × (more : List TextLine) × (lines_from b bytes ≡ line ∷ more) × IsAtFault t line)
no_line t b b' None new line none h = tt
no_line t b b' (Some bytes) new line none (rest, at, is) = (whole line, lines_from b' rest, is, inr none)

-- nothing was read yet
start_goes : (start : Option (List ℕ)) → Goes start [] (record { buffered = []; budget = 2 ^ 40 }) start
start_goes None = tt
start_goes (Some bytes) = (bytes, refl, refl)

pub before_all : (w : World) (start : Option (List ℕ)) (a : AuditState) (r : ReaderState) → Reads w a [] → r.buffered ≡ [] → r.budget ≡ 2 ^ 40 → HasRead w start a r start
before_all w start a r reads none most = record {
  entries = [];
  lines = [];
  reads = reads;
  told = tt;
  goes = subst (λ (x : ReaderState). Goes start [] x start) (sym (fresh_is r none most)) (start_goes start);
  few = omega (arith, most);
}
  where
    fresh_is : (x : ReaderState) → x.buffered ≡ [] → x.budget ≡ 2 ^ 40 → x ≡ record { buffered = []; budget = 2 ^ 40 }
    fresh_is x p q = ap (λ (b : List ℕ). record { buffered = b; budget = x.budget }) p ∙ ap (λ (n : ℕ). record { buffered = []; budget = n }) q

-- ---- why a line isn't taken

-- what the answer of the line says of the next one
pub line_refused : (w : World) (start : Option (List ℕ)) (a : AuditState) (r r' : ReaderState) (left left' : Option (List ℕ)) (line : List ℕ) (answer : Result (Unit {0}) TraceError) (e : TraceError) → HasRead w start a r left
    → IfSome (text_left r.buffered left) (λ bytes. (rest : List ℕ) × (text_left r'.buffered left' ≡ Some rest) × (lines_from r.budget bytes ≡ whole line ∷ lines_from r'.budget rest))
    → ((number : ℕ) → answer ≡ Err (BadLine number) → (number ≡ min (a.lines + 1) (2 ^ 64 - 1)) × IsNoLine (table_in a) (text_line line))
    → (answer ≡ Err Source → ⊥) → (answer ≡ Err TooLong → ⊥) → answer ≡ Err e → IsRefused w start e
line_refused w start a r r' left left' line answer NoMemory h next bad source limit is = tt
line_refused w start a r r' left left' line answer Source h next bad source limit is = absurd (source is)
line_refused w start a r r' left left' line answer TooLong h next bad source limit is = absurd (limit is)
line_refused w start a r r' left left' line answer (BadLine number) h next bad source limit is =
    let b = bad number is in
    let none : IsNoLine w.table (text_line line) = subst (λ (v : World). IsNoLine v.table (text_line line)) h.reads.world b.1 in
    at_fault w start a r left number h b.0 (no_line w.table r.budget r'.budget (text_left r.buffered left) (text_left r'.buffered left') line none next)

pub on_refusal : (w : World) (start : Option (List ℕ)) (a : AuditState) (r : ReaderState) (left : Option (List ℕ)) (answer : Result Bool TraceError) (e : TraceError) → IsErrAnd answer (λ x. x ≡ e) → IsRefused w start e → ReadsOn w start answer a r left
on_refusal w start a r left (Ok b) e is refused = absurd is
on_refusal w start a r left (Err x) e is refused = subst (IsRefused w start) (sym is) refused

-- ---- to the end

pub reads_end : (w : World) (start : Option (List ℕ)) (a : AuditState) (r : ReaderState) (left : Option (List ℕ)) (more : Bool) → more ≡ false → ReadsOn w start (Ok more) a r left → HasAll w start a left
reads_end w start a r left true is h = absurd cc
reads_end w start a r left false is h = h

pub reads_more : (w : World) (start : Option (List ℕ)) (a : AuditState) (r : ReaderState) (left : Option (List ℕ)) (more : Bool) → more ≡ true → ReadsOn w start (Ok more) a r left → HasRead w start a r left
reads_more w start a r left true is h = h
reads_more w start a r left false is h = absurd cc

pub same_error : {X : Type 0} (answer : Result X TraceError) (e error : TraceError) → IsErrAnd answer (λ x. x ≡ e) → answer ≡ Err error → e ≡ error
same_error (Ok x) e error is at = absurd is
same_error (Err x) e error is at = let same : x ≡ error = cc in sym is ∙ same
