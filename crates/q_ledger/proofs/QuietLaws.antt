-- Where no job leaves its line and each served row still waits, tidying of lines and served rows changes
-- nothing.
use Rattle.std.proofs.Common.{◌≡◌, ℕ, ◌+◌, Bool, true, cond, not, List, [], ◌∷◌, map, filter, inl, inr, refl, sym, ap, ◌∙◌, subst}
use Rattle.std.proofs.lemmas.Bool.{and_from, and_parts, or_cases, or_left, or_right}
use Rattle.std.specs.List.{enumerate_from, list_all, list_any}
use Rattle.std.specs.Prelude.{◌&&◌, ◌==◌}
use Rattle.q_bare.specs.Bare.{bare}
use Rattle.q_bare.specs.Counts.{Counts}
use Rattle.q_fronts.specs.Fitting.{is_awaited}
use Rattle.q_laws.proofs.Members.{all_weaker}
use Rattle.q_ledger.proofs.BareLaws.{unread_bare}
use Rattle.q_ledger.specs.Beside.{IsOfLedger}
use Rattle.q_ledger.specs.Taking.{rows_tidied}
use Rattle.q_model.specs.declared.id.Id.{Id}
use Rattle.q_model.specs.declared.rows.Row.{Row}
use Rattle.q_model.specs.Ids.{id_eq}
use Rattle.q_model.specs.Ledger.{Ledger}
use Rattle.q_model.specs.Memory.{unread_of}
use Rattle.q_model.specs.Settings.{World}
use Rattle.q_model.specs.Step.{stays, tidy_line}
use Rattle.q_model.specs.Values.{Served}

pub all_kept : {A : Type 0} (p : A → Bool) (xs : List A) → list_all p xs ≡ true → filter p xs ≡ xs
all_kept p [] h = refl
all_kept p (x ∷ xs) h =
    let two = and_parts (p x) (list_all p xs) h in
    ap (λ b. cond b (x ∷ filter p xs) (filter p xs)) two.0 ∙ ap (λ ys. x ∷ ys) (all_kept p xs two.1)

-- each job of these lines, numbered from n on, stays
abbrev pub all_stay : Ledger → ℕ → List (List Id) → Bool
all_stay l n lines = list_all (λ (line : ℕ × List Id). list_all (stays l line.0) line.1) (enumerate_from n lines)

pub lines_stay : (l : Ledger) (n : ℕ) (lines : List (List Id)) → all_stay l n lines ≡ true → map (tidy_line l) (enumerate_from n lines) ≡ lines
lines_stay l n [] h = refl
lines_stay l n (ids ∷ lines) h =
    let two = and_parts (list_all (stays l n) ids) (all_stay l (n + 1) lines) h in
    ap (λ line. line ∷ map (tidy_line l) (enumerate_from (n + 1) lines)) (all_kept (stays l n) ids two.0)
    ∙ ap (λ rest. ids ∷ rest) (lines_stay l (n + 1) lines two.1)

-- no job leaves a line, and each served row has one that waits
pub record IsTidy (l : Ledger) : Type 0 where
  pub lines : all_stay l 0 l.lines ≡ true
  pub served : list_all (is_awaited l.waiting) l.served ≡ true

pub tidy_stays : (l : Ledger) → IsTidy l → rows_tidied l ≡ l
tidy_stays l h =
    ap (λ (lines : List (List Id)). record l { lines = lines; served = filter (is_awaited l.waiting) l.served }) (lines_stay l 0 l.lines h.lines)
    ∙ ap (λ (rows : List Served). record l { served = rows }) (all_kept (is_awaited l.waiting) l.served h.served)

-- ---- what stays tidy

-- a job stays where rows that wait are the same, and what was unread still is
pub stays_still : (b l : Ledger) → l.waiting ≡ b.waiting → ((id : Id) → not (unread_of b id == 0) ≡ true → not (unread_of l id == 0) ≡ true) →
    (n : ℕ) (id : Id) → stays b n id ≡ true → stays l n id ≡ true
stays_still b l rows read n id h =
    let waits : List Row → Bool = λ rs. list_any (λ (r : Row). id_eq r.id id && (r.site.transport == n)) rs in
    elim (or_cases (not (unread_of b id == 0)) (waits b.waiting) h) [
      | inl e ↦ or_left (not (unread_of l id == 0)) (waits l.waiting) (read id e)
      | inr e ↦ or_right (not (unread_of l id == 0)) (waits l.waiting) (ap waits rows ∙ e)
    ]

pub all_stay_still : (b l : Ledger) → ((n : ℕ) (id : Id) → stays b n id ≡ true → stays l n id ≡ true) → (n : ℕ) (lines : List (List Id)) → all_stay b n lines ≡ true → all_stay l n lines ≡ true
all_stay_still b l h n [] k = refl
all_stay_still b l h n (ids ∷ lines) k =
    let two = and_parts (list_all (stays b n) ids) (all_stay b (n + 1) lines) k in
    and_from (list_all (stays l n) ids) (all_stay l (n + 1) lines)
    (all_weaker (stays b n) (stays l n) ids (λ id inside e. h n id e) two.0) (all_stay_still b l h (n + 1) lines two.1)

-- lines, served rows and rows that wait are those of a tidy ledger, and what was unread still is
pub tidy_still : (b l : Ledger) → IsTidy b → l.waiting ≡ b.waiting → l.lines ≡ b.lines → l.served ≡ b.served →
    ((id : Id) → not (unread_of b id == 0) ≡ true → not (unread_of l id == 0) ≡ true) → IsTidy l
tidy_still b l h rows lines served read = record {
  lines = ap (all_stay l 0) lines ∙ all_stay_still b l (stays_still b l rows read) 0 b.lines h.lines;
  served = ap (λ (rs : List Row). list_all (is_awaited rs) l.served) rows ∙ ap (list_all (is_awaited b.waiting)) served ∙ h.served;
}

-- ---- the ledgers of a recount

-- a bare ledger is tidy, as the ledger is
pub bare_tidy : (w : World) (c : Counts) (b : Ledger) → IsOfLedger w c b → IsTidy b
bare_tidy w c b h = subst IsTidy h.bare_ledger (record {
  lines = all_stay_still h.ledger (bare h.ledger) (stays_still h.ledger (bare h.ledger) refl (λ id e. ap (λ n. not (n == 0)) (unread_bare h.ledger id) ∙ e)) 0 h.ledger.lines h.fits.consistent.memory.lines;
  served = h.fits.served;
})

-- where rows that wait, lines, served rows and what is unread of each message stay, nothing is tidied
pub quiet : (w : World) (c : Counts) (b l : Ledger) → IsOfLedger w c b → l.waiting ≡ b.waiting → l.lines ≡ b.lines → l.served ≡ b.served →
    ((id : Id) → unread_of l id ≡ unread_of b id) → rows_tidied l ≡ l
quiet w c b l h rows lines served unread = tidy_stays l (tidy_still b l (bare_tidy w c b h) rows lines served (λ id e. ap (λ n. not (n == 0)) (unread id) ∙ e))

-- what an entry leaves, where that is bare and tidy
pub left_tidy : (changed l : Ledger) → bare changed ≡ l → IsTidy l → l ≡ rows_tidied (bare changed)
left_tidy changed l h tidy = sym (ap rows_tidied h ∙ tidy_stays l tidy)
