-- A byte of a content, by what the line is that has begun.
use Rattle.std.proofs.Common.{◌≡◌, ◌≢◌, ℕ, ◌==◌, ◌&&◌, Bool, true, false, List, [], ◌∷◌, ◌++◌, bytes_eq, refl, sym, ap, ◌∙◌, arith, subst, append_assoc}
use Rattle.std.proofs.lemmas.Bool.{eqb-true, ne_eqb}
use Rattle.std.proofs.lemmas.List.{append-nil}
use Rattle.std.proofs.lemmas.Slice.Eq.{bytes_eq-Decides}
use Rattle.q_smtpd.proofs.LineEnds.{ends-snoc, without-snoc}
use Rattle.q_smtpd.specs.Contents.{ends_line, is_final_dot, stored_line, undotted}
use Rattle.q_smtpd.specs.Intakes.{comes, content_ends}
use Rattle.q_smtpd.specs.Keeping.{HoldsBytes, HoldsContent, IsAt, Kept, TakesWithin}
use Rattle.q_smtpd.specs.LineEnds.{ends_with_cr, without_cr}
use Rattle.q_smtpd.specs.Places.{Came, Envelope, contents, goes_on}
use Rattle.q_smtpd.specs.declared.content.Column.{Column}
use Rattle.q_smtpd.specs.declared.content.Column.TheVariants as columns

-- the content goes on, with this kept
pub record GoesOn (d : Envelope) (came : Came) (k : Kept) : Type 0 where
  pub text : List ℕ
  pub line : List ℕ
  pub came_is : came ≡ goes_on (contents d text line)
  pub holds : HoldsContent text line k

-- it ends, and is this
pub record Ends (d : Envelope) (came : Came) (k : Kept) : Type 0 where
  pub text : List ℕ
  pub came_is : came ≡ content_ends d text
  pub holds : HoldsBytes text k.bytes k.is_big

undotted-snoc : (line : List ℕ) (b : ℕ) → (b ≡ 46 → line ≢ []) → undotted (line ++ b ∷ []) ≡ undotted line ++ b ∷ []
undotted-snoc [] b h = first (b == 46) refl
  where
    first : (t : Bool) → (b == 46) ≡ t → undotted (b ∷ []) ≡ b ∷ []
    first true e = absurd (h (eqb-true b 46 e) refl)
    first false e = rw e refl
undotted-snoc (a ∷ line) b h = first (a == 46) refl
  where
    first : (t : Bool) → (a == 46) ≡ t → undotted (a ∷ line ++ b ∷ []) ≡ undotted (a ∷ line) ++ b ∷ []
    first true e = rw e refl
    first false e = rw e refl

long_line : (line : List ℕ) (b : ℕ) → line ≢ [] → line ++ b ∷ [] ≢ 46 ∷ []
long_line [] b h = λ e. h refl
long_line (a ∷ []) b h = λ e. cc
long_line (a ∷ c ∷ line) b h = λ e. cc

some_line : (line : List ℕ) (b : ℕ) → line ++ b ∷ [] ≢ []
some_line [] b = λ e. cc
some_line (a ∷ line) b = λ e. cc

no_dot : (line : List ℕ) (b : ℕ) → (b ≡ 46 → line ≢ []) → line ++ b ∷ [] ≢ 46 ∷ []
no_dot [] b h = λ e. let is : b ≡ 46 = cc in h is refl
no_dot (a ∷ line) b h = long_line (a ∷ line) b (λ e. cc)

-- a byte that neither ends a line nor may be one of `.` CRLF
within_by : (t : Bool) (text line : List ℕ) (b : ℕ) (old k : Kept) → (b == 13) ≡ t → HoldsBytes (text ++ undotted line) old.bytes old.is_big → TakesWithin b old k → (b ≡ 46 → line ≢ []) → (b ≡ 13 → line ≢ 46 ∷ [])
    → HoldsContent text (line ++ b ∷ []) k
within_by true text line b old k is holds takes some dot =
    let cr : b ≡ 13 = eqb-true b 13 is in
    let column : k.column ≡ columns.Return = takes.column ∙ rw is refl in
    let bytes : HoldsBytes (text ++ undotted line) k.bytes k.is_big = rw is at (takes.bytes (text ++ undotted line) holds) in
    let front : without_cr (line ++ b ∷ []) ≡ line = without-snoc line b ∙ rw is refl in
    let at : IsAt columns.Return (line ++ b ∷ []) = (line, ap (λ (x : ℕ). line ++ x ∷ []) cr, dot cr) in
    record {
      bytes = rw (column, front) bytes;
      column = subst (λ (x : Column). IsAt x (line ++ b ∷ [])) (sym column) at;
    }
within_by false text line b old k is holds takes some dot =
    let column : k.column ≡ columns.Within = takes.column ∙ rw is refl in
    let bytes : HoldsBytes ((text ++ undotted line) ++ b ∷ []) k.bytes k.is_big = rw is at (takes.bytes (text ++ undotted line) holds) in
    let stored : (text ++ undotted line) ++ b ∷ [] ≡ text ++ undotted (line ++ b ∷ []) = append_assoc text (undotted line) (b ∷ []) ∙ ap (λ (x : List ℕ). text ++ x) (sym (undotted-snoc line b some)) in
    let at : IsAt columns.Within (line ++ b ∷ []) = (ends-snoc line b ∙ is, some_line line b, no_dot line b some) in
    record {
      bytes = rw column (subst (λ (x : List ℕ). HoldsBytes x k.bytes k.is_big) stored bytes);
      column = subst (λ (x : Column). IsAt x (line ++ b ∷ [])) (sym column) at;
    }

pub goes_within : (d : Envelope) (text line : List ℕ) (b : ℕ) (old k : Kept) → ends_line line b ≡ false → HoldsBytes (text ++ undotted line) old.bytes old.is_big → TakesWithin b old k
    → (b ≡ 46 → line ≢ []) → (b ≡ 13 → line ≢ 46 ∷ []) → GoesOn d (comes (contents d text line) b) k
goes_within d text line b old k on holds takes some dot = record {
  text = text;
  line = line ++ b ∷ [];
  came_is = rw on refl;
  holds = within_by (b == 13) text line b old k refl holds takes some dot;
}

-- ---- the end of a line

pub dot_ends : (d : Envelope) (text line : List ℕ) (b : ℕ) (k : Kept) → b ≡ 10 → k.column ≡ columns.DotReturn → HoldsContent text line k → Ends d (comes (contents d text line) b) k
unfolding ends_with_cr without_cr
dot_ends d text line b k lf is h =
    let at : line ≡ 46 ∷ 13 ∷ [] = subst (λ (x : Column). IsAt x line) is h.column in
    record {
      text = text;
      came_is = rw (at, lf) refl;
      holds = subst (λ (x : List ℕ). HoldsBytes x k.bytes k.is_big) (append-nil text) (rw is at h.bytes);
    }

pub line_ends : (d : Envelope) (text line : List ℕ) (b : ℕ) (old k : Kept) → b ≡ 10 → old.column ≡ columns.Return → HoldsContent text line old → k.column ≡ columns.Start
    → ((stored : List ℕ) → HoldsBytes stored old.bytes old.is_big → HoldsBytes (stored ++ 10 ∷ []) k.bytes k.is_big) → GoesOn d (comes (contents d text line) b) k
line_ends d text line b old k lf is h start keeps =
    let at = subst (λ (x : Column). IsAt x line) is h.column in
    let front = at.0 in
    let without : without_cr line ≡ front = ap without_cr at.1 ∙ without-snoc front 13 in
    let ends : ends_with_cr line ≡ true = ap ends_with_cr at.1 ∙ ends-snoc front 13 in
    let no_end : is_final_dot (without_cr line) ≡ false = ap is_final_dot without ∙ other front at.2 in
    let bytes : HoldsBytes (text ++ undotted (without_cr line)) old.bytes old.is_big = rw is at h.bytes in
    let same : (text ++ undotted (without_cr line)) ++ 10 ∷ [] ≡ (text ++ stored_line (without_cr line)) ++ [] =
    append_assoc text (undotted (without_cr line)) (10 ∷ []) ∙ sym (append-nil (text ++ stored_line (without_cr line))) in
    record {
      text = text ++ stored_line (without_cr line);
      line = [];
      came_is = rw (lf, ends, no_end) refl;
      holds = record {
        bytes = rw start (subst (λ (x : List ℕ). HoldsBytes x k.bytes k.is_big) same (keeps (text ++ undotted (without_cr line)) bytes));
        column = subst (λ (x : Column). IsAt x []) (sym start) refl;
      };
    }
  where
    other : (front : List ℕ) → front ≢ 46 ∷ [] → bytes_eq front (46 ∷ []) ≡ false
    other front h = by (bytes_eq front (46 ∷ [])) refl
      where
        by : (t : Bool) → bytes_eq front (46 ∷ []) ≡ t → bytes_eq front (46 ∷ []) ≡ false
        by true e = absurd (h ((bytes_eq-Decides front (46 ∷ [])).0 e))
        by false e = e

-- ---- by the line that has begun

and_false : (t : Bool) → (t && false) ≡ false
and_false true = refl
and_false false = refl

ends_none : (line : List ℕ) (b : ℕ) → ends_with_cr line ≡ false → ends_line line b ≡ false
ends_none line b e = rw e (and_false (b == 10))

other_byte : (line : List ℕ) (b : ℕ) → (b ≡ 10 → ⊥) → ends_line line b ≡ false
other_byte line b h = rw (ne_eqb b 10 h) refl

pub start_goes : (d : Envelope) (text line : List ℕ) (b : ℕ) (old k : Kept) → old.column ≡ columns.Start → HoldsContent text line old → TakesWithin b old k → (b ≡ 46 → ⊥) → GoesOn d (comes (contents d text line) b) k
unfolding ends_with_cr
start_goes d text line b old k is h takes no_dot =
    let at : line ≡ [] = subst (λ (x : Column). IsAt x line) is h.column in
    let bytes : HoldsBytes (text ++ []) old.bytes old.is_big = rw is at h.bytes in
    goes_within d text line b old k (ends_none line b (ap ends_with_cr at)) (rw at bytes) takes (λ e. absurd (no_dot e)) (λ e f. cc)

pub dot_goes : (d : Envelope) (text line : List ℕ) (b : ℕ) (old k : Kept) → old.column ≡ columns.Dot → HoldsContent text line old → TakesWithin b old k → (b ≡ 13 → ⊥) → GoesOn d (comes (contents d text line) b) k
unfolding ends_with_cr
dot_goes d text line b old k is h takes no_cr =
    let at : line ≡ 46 ∷ [] = subst (λ (x : Column). IsAt x line) is h.column in
    let bytes : HoldsBytes (text ++ []) old.bytes old.is_big = rw is at h.bytes in
    goes_within d text line b old k (ends_none line b (ap ends_with_cr at)) (rw at bytes) takes (λ e f. cc) (λ e. absurd (no_cr e))

pub dot_return_goes : (d : Envelope) (text line : List ℕ) (b : ℕ) (old mid k : Kept) → old.column ≡ columns.DotReturn → HoldsContent text line old
    → ((stored : List ℕ) → HoldsBytes stored old.bytes old.is_big → HoldsBytes (stored ++ 13 ∷ []) mid.bytes mid.is_big) → TakesWithin b mid k → (b ≡ 10 → ⊥) → GoesOn d (comes (contents d text line) b) k
dot_return_goes d text line b old mid k is h keeps takes no_lf =
    let at : line ≡ 46 ∷ 13 ∷ [] = subst (λ (x : Column). IsAt x line) is h.column in
    let bytes : HoldsBytes (text ++ []) old.bytes old.is_big = rw is at h.bytes in
    let kept : HoldsBytes (text ++ 13 ∷ []) mid.bytes mid.is_big = subst (λ (x : List ℕ). HoldsBytes (x ++ 13 ∷ []) mid.bytes mid.is_big) (append-nil text) (keeps (text ++ []) bytes) in
    goes_within d text line b mid k (other_byte line b no_lf) (rw at kept) takes (λ e f. cc) (λ e f. cc)

return_is_no_dot : ◌≡◌ {A = ℕ} 13 46 → ⊥
return_is_no_dot e = omega arith

pub return_goes : (d : Envelope) (text line : List ℕ) (b : ℕ) (old mid k : Kept) → old.column ≡ columns.Return → HoldsContent text line old
    → ((stored : List ℕ) → HoldsBytes stored old.bytes old.is_big → HoldsBytes (stored ++ 13 ∷ []) mid.bytes mid.is_big) → TakesWithin b mid k → (b ≡ 10 → ⊥) → GoesOn d (comes (contents d text line) b) k
return_goes d text line b old mid k is h keeps takes no_lf =
    let at = subst (λ (x : Column). IsAt x line) is h.column in
    let front = at.0 in
    let without : without_cr line ≡ front = ap without_cr at.1 ∙ without-snoc front 13 in
    let bytes : HoldsBytes (text ++ undotted (without_cr line)) old.bytes old.is_big = rw is at h.bytes in
    let same : (text ++ undotted (without_cr line)) ++ 13 ∷ [] ≡ text ++ undotted line =
    ap (λ (x : List ℕ). (text ++ undotted x) ++ 13 ∷ []) without ∙ append_assoc text (undotted front) (13 ∷ [])
    ∙ ap (λ (x : List ℕ). text ++ x) (sym (undotted-snoc front 13 (λ e. absurd (return_is_no_dot e)))) ∙ ap (λ (x : List ℕ). text ++ undotted x) (sym at.1) in
    goes_within d text line b mid k (other_byte line b no_lf) (subst (λ (x : List ℕ). HoldsBytes x mid.bytes mid.is_big) same (keeps (text ++ undotted (without_cr line)) bytes)) takes
    (λ e f. some_line front 13 (sym at.1 ∙ f)) (λ e f. no_return front (sym at.1 ∙ f))
  where
    no_return : (front : List ℕ) → front ++ 13 ∷ [] ≡ 46 ∷ [] → ⊥
    no_return [] e = let x : ◌≡◌ {A = ℕ} 13 46 = cc in return_is_no_dot x
    no_return (a ∷ front) e = some_line front 13 (let x : front ++ 13 ∷ [] ≡ [] = cc in x)

pub within_goes : (d : Envelope) (text line : List ℕ) (b : ℕ) (old k : Kept) → old.column ≡ columns.Within → HoldsContent text line old → TakesWithin b old k → GoesOn d (comes (contents d text line) b) k
within_goes d text line b old k is h takes =
    let at = subst (λ (x : Column). IsAt x line) is h.column in
    let bytes : HoldsBytes (text ++ undotted line) old.bytes old.is_big = rw is at h.bytes in
    goes_within d text line b old k (ends_none line b at.0) bytes takes (λ e. at.1) (λ e. at.2)
