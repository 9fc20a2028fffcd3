-- Where a row of a message has gone from those that wait, and nothing else is left, tidying the message's lines and
-- its served row tidies all.
use Rattle.std.proofs.Common.{◌≡◌, ℕ, ◌+◌, Bool, true, false, cond, not, List, [], ◌∷◌, map, filter, inl, inr, refl, sym, ap, ◌∙◌, if◌then◌else◌}
use Rattle.std.proofs.lemmas.Bool.{and_from, and_parts}
use Rattle.std.specs.List.{enumerate_from, list_all, list_any}
use Rattle.std.specs.Prelude.{◌&&◌, ◌||◌, ◌==◌}
use Rattle.q_bare.specs.Counts.{Counts}
use Rattle.q_fronts.specs.Fitting.{is_awaited}
use Rattle.q_laws.proofs.Members.{IsIn, all_at}
use Rattle.q_ledger.proofs.PartLaws.{any_among}
use Rattle.q_ledger.proofs.QuietLaws.{all_stay, bare_tidy}
use Rattle.q_ledger.proofs.SlotLaws.{unread_same}
use Rattle.q_ledger.specs.Beside.{IsCounted, IsOfLedger}
use Rattle.q_ledger.specs.LinesLeft.{is_served_at, line_by, lines_by, rows_of, served_left, stays_by, waits_there, with_lines_left, with_served_left}
use Rattle.q_ledger.specs.State.{State}
use Rattle.q_ledger.specs.Taking.{rows_tidied}
use Rattle.q_model.proofs.IdLaws.{id_eq-true, site_eq-true}
use Rattle.q_model.specs.Ids.{id_eq}
use Rattle.q_model.specs.Ledger.{Ledger}
use Rattle.q_model.specs.Lists.{drop_first}
use Rattle.q_model.specs.Memory.{unread_of}
use Rattle.q_model.specs.Settings.{World}
use Rattle.q_model.specs.Sites.{site_eq}
use Rattle.q_model.specs.Starts.{is_row}
use Rattle.q_model.specs.Step.{stays, tidy_line}
use Rattle.q_model.specs.Values.{Served, Site}
use Rattle.q_model.specs.declared.id.Id.{Id}
use Rattle.q_model.specs.declared.rows.Row.{Row}

-- a row of the message at the site has gone from those that wait, if one did; what else may have to be tidied is that
-- message's served row at the site
pub record IsRowGone (id : Id) (site : Site) (positions : List ℕ) (b l : Ledger) : Type 0 where
  pub waiting : l.waiting ≡ drop_first (is_row id site positions) b.waiting
  pub lines : l.lines ≡ b.lines
  pub unread : (i : Id) → unread_of l i ≡ unread_of b i
  pub served : list_all (λ (s : Served). is_served_at id site s || is_awaited b.waiting s) l.served ≡ true

-- ---- what passes is still there, where what has gone doesn't pass

kept_step : (p q : Row → Bool) (r : Row) (rest dropped : List Row) (b a : Bool) → p r ≡ b → q r ≡ a → (b ≡ true → a ≡ false) → list_any q dropped ≡ list_any q rest → list_any q (cond b rest (r ∷ dropped)) ≡ (q r || list_any q rest)
kept_step p q r rest dropped true a e f h k = ap (λ c. c || list_any q rest) (sym (f ∙ h refl))
kept_step p q r rest dropped false a e f h k = ap (λ c. q r || c) k

any_left : (p q : Row → Bool) → ((r : Row) → p r ≡ true → q r ≡ false) → (rs : List Row) → list_any q (drop_first p rs) ≡ list_any q rs
any_left p q h [] = refl
any_left p q h (r ∷ rs) = kept_step p q r rs (drop_first p rs) (p r) (q r) refl refl (h r) (any_left p q h rs)

-- ---- what is left of a list of which all others stay

left_step : {A : Type 0} (keep own : A → Bool) (x : A) (xs : List A) (b v : Bool) → own x ≡ b → (b ≡ false → keep x ≡ true) → (b ≡ true → keep x ≡ v) →
    filter keep xs ≡ (if v then xs else filter (λ y. not (own y)) xs) → filter keep (x ∷ xs) ≡ (if v then x ∷ xs else filter (λ y. not (own y)) (x ∷ xs))
left_step keep own x xs true true e other mine h = ap (λ c. cond c (x ∷ filter keep xs) (filter keep xs)) (mine refl) ∙ ap (λ ys. x ∷ ys) h
left_step keep own x xs false true e other mine h = ap (λ c. cond c (x ∷ filter keep xs) (filter keep xs)) (other refl) ∙ ap (λ ys. x ∷ ys) h
left_step keep own x xs true false e other mine h =
    let rest = filter (λ y. not (own y)) xs in
    ap (λ c. cond c (x ∷ filter keep xs) (filter keep xs)) (mine refl) ∙ h ∙ sym (ap (λ c. cond (not c) (x ∷ rest) rest) e)
left_step keep own x xs false false e other mine h =
    let rest = filter (λ y. not (own y)) xs in
    ap (λ c. cond c (x ∷ filter keep xs) (filter keep xs)) (other refl) ∙ ap (λ ys. x ∷ ys) h ∙ sym (ap (λ c. cond (not c) (x ∷ rest) rest) e)

none_left : {A : Type 0} (v : Bool) → ◌≡◌ {A = List A} [] (if v then [] else [])
none_left true = refl
none_left false = refl

-- those that are this one's own stay all or not at all
pub left_but : {A : Type 0} (keep own : A → Bool) (v : Bool) (xs : List A) → ((x : A) → IsIn x xs → own x ≡ false → keep x ≡ true) → ((x : A) → own x ≡ true → keep x ≡ v) →
    filter keep xs ≡ (if v then xs else filter (λ y. not (own y)) xs)
left_but keep own v [] other mine = none_left v
left_but keep own v (x ∷ xs) other mine =
    left_step keep own x xs (own x) v refl (other x (inl refl)) (mine x) (left_but keep own v xs (λ y inside. other y (inr inside)) mine)

-- ---- what is asked of another message, or of another site

row_parts : (id : Id) (site : Site) (positions : List ℕ) (r : Row) → is_row id site positions r ≡ true → (id_eq r.id id ≡ true) × (site_eq r.site site ≡ true)
row_parts id site positions r h =
    and_parts (id_eq r.id id) (site_eq r.site site) (and_parts (id_eq r.id id && site_eq r.site site) _ h).0

-- a row of the one isn't of the other
other_id : (id i : Id) (r : Row) (more : Bool) → id_eq i id ≡ false → id_eq r.id id ≡ true → (id_eq r.id i && more) ≡ false
other_id id i r more apart mine = which (id_eq r.id i) refl
  where
    which : (b : Bool) → id_eq r.id i ≡ b → (b && more) ≡ false
    which false e = refl
    which true e =
        let same : i ≡ r.id = sym (id_eq-true r.id i e) in
        let bad : true ≡ false = sym mine ∙ ap (λ (j : Id). id_eq j id) (sym same) ∙ apart in
        cc

other_place : (id : Id) (site : Site) (s : Served) (r : Row) → is_served_at id site s ≡ false → id_eq r.id id ≡ true → site_eq r.site site ≡ true → (id_eq r.id s.id && site_eq r.site s.site) ≡ false
other_place id site s r apart mine at = which (id_eq r.id s.id && site_eq r.site s.site) refl
  where
    which : (b : Bool) → (id_eq r.id s.id && site_eq r.site s.site) ≡ b → b ≡ false
    which false e = refl
    which true e =
        let two = and_parts (id_eq r.id s.id) (site_eq r.site s.site) e in
        let name : r.id ≡ s.id = id_eq-true r.id s.id two.0 in
        let place : r.site ≡ s.site = site_eq-true r.site s.site two.1 in
        let bad : true ≡ false = sym (and_from (id_eq r.id id) (site_eq r.site site) mine at) ∙ ap (λ (j : Id). id_eq j id && site_eq r.site site) name ∙ ap (λ (t : Site). id_eq s.id id && site_eq t site) place ∙ apart in
        cc

-- ---- lines

-- another message stays in the lines as it did
stays_on : (id : Id) (site : Site) (positions : List ℕ) (b l : Ledger) → IsRowGone id site positions b l → (n : ℕ) (i : Id) → id_eq i id ≡ false → stays l n i ≡ stays b n i
stays_on id site positions b l h n i apart =
    let waits : Row → Bool = λ r. id_eq r.id i && (r.site.transport == n) in
    ap (λ m. not (m == 0) || list_any waits l.waiting) (h.unread i)
    ∙ ap (λ (rs : List Row). not (unread_of b i == 0) || list_any waits rs) h.waiting
    ∙ ap (λ c. not (unread_of b i == 0) || c)
    (any_left (is_row id site positions) waits (λ r e. other_id id i r (r.site.transport == n) apart (row_parts id site positions r e).0) b.waiting)

-- the message itself stays by its own rows
pub stays_own : (l : Ledger) (n : ℕ) (id : Id) → stays l n id ≡ stays_by (rows_of l id) (not (unread_of l id == 0)) n
stays_own l n id = ap (λ c. not (unread_of l id == 0) || c) (any_among (λ (r : Row). id_eq r.id id) (λ (r : Row). r.site.transport == n) l.waiting)

line_tidied : (id : Id) (site : Site) (positions : List ℕ) (b l : Ledger) → IsRowGone id site positions b l → (n : ℕ) (ids : List Id) → list_all (stays b n) ids ≡ true →
    tidy_line l (n, ids) ≡ line_by (rows_of l id) (not (unread_of l id == 0)) id (n, ids)
line_tidied id site positions b l h n ids stay =
    left_but (stays l n) (λ x. id_eq x id) (stays_by (rows_of l id) (not (unread_of l id == 0)) n) ids
    (λ x inside apart. stays_on id site positions b l h n x apart ∙ all_at (stays b n) x ids stay inside)
    (λ x same. ap (stays l n) (id_eq-true x id same) ∙ stays_own l n id)

lines_tidied : (id : Id) (site : Site) (positions : List ℕ) (b l : Ledger) → IsRowGone id site positions b l → (n : ℕ) (lines : List (List Id)) → all_stay b n lines ≡ true →
    map (line_by (rows_of l id) (not (unread_of l id == 0)) id) (enumerate_from n lines) ≡ map (tidy_line l) (enumerate_from n lines)
lines_tidied id site positions b l h n [] stay = refl
lines_tidied id site positions b l h n (ids ∷ lines) stay =
    let left = line_by (rows_of l id) (not (unread_of l id == 0)) id in
    let two = and_parts (list_all (stays b n) ids) (all_stay b (n + 1) lines) stay in
    ap (λ line. line ∷ map left (enumerate_from (n + 1) lines)) (sym (line_tidied id site positions b l h n ids two.0))
    ∙ ap (λ rest. tidy_line l (n, ids) ∷ rest) (lines_tidied id site positions b l h (n + 1) lines two.1)

-- ---- served rows

-- a served row of another message or site has one that waits, as before
awaited_on : (id : Id) (site : Site) (positions : List ℕ) (b l : Ledger) → IsRowGone id site positions b l → (s : Served) → IsIn s l.served → is_served_at id site s ≡ false → is_awaited l.waiting s ≡ true
awaited_on id site positions b l h s inside apart =
    let waits : Row → Bool = λ r. id_eq r.id s.id && site_eq r.site s.site in
    let known = all_at (λ (x : Served). is_served_at id site x || is_awaited b.waiting x) s l.served h.served inside in
    let gone = any_left (is_row id site positions) waits (λ r e. let two = row_parts id site positions r e in other_place id site s r apart two.0 two.1) b.waiting in
    ap (list_any waits) h.waiting ∙ gone ∙ sym (ap (λ c. c || is_awaited b.waiting s) apart) ∙ known

awaited_own : (id : Id) (site : Site) (l : Ledger) (s : Served) → is_served_at id site s ≡ true → is_awaited l.waiting s ≡ waits_there l id site
awaited_own id site l s e =
    let two = and_parts (id_eq s.id id) (site_eq s.site site) e in
    ap (λ (i : Id). list_any (λ r. id_eq r.id i && site_eq r.site s.site) l.waiting) (id_eq-true s.id id two.0)
    ∙ ap (λ (t : Site). list_any (λ r. id_eq r.id id && site_eq r.site t) l.waiting) (site_eq-true s.site site two.1)

served_tidied : (id : Id) (site : Site) (positions : List ℕ) (b l : Ledger) → IsRowGone id site positions b l → filter (is_awaited l.waiting) l.served ≡ served_left l id site
served_tidied id site positions b l h =
    left_but (is_awaited l.waiting) (is_served_at id site) (waits_there l id site) l.served
    (awaited_on id site positions b l h) (awaited_own id site l)

-- ---- both

-- the message's lines and its served row tidied are all that is to be tidied
pub row_tidied : (w : World) (c : Counts) (b l : Ledger) (id : Id) (site : Site) (positions : List ℕ) → IsOfLedger w c b → IsRowGone id site positions b l →
    record l { lines = lines_by (rows_of l id) (not (unread_of l id == 0)) id l.lines; served = served_left l id site } ≡ rows_tidied l
row_tidied w c b l id site positions of h =
    let stay : all_stay b 0 l.lines ≡ true = ap (all_stay b 0) h.lines ∙ (bare_tidy w c b of).lines in
    ap (λ (ls : List (List Id)). record l { lines = ls; served = served_left l id site }) (lines_tidied id site positions b l h 0 l.lines stay)
    ∙ ap (λ (rs : List Served). record l { lines = map (tidy_line l) (enumerate_from 0 l.lines); served = rs }) (sym (served_tidied id site positions b l h))

-- the same of what a recount holds, where what is kept of messages is counted
pub state_tidied : (w : World) (c : Counts) (b : Ledger) (s : State) (id : Id) (site : Site) (positions : List ℕ) → IsOfLedger w c b → IsCounted s → IsRowGone id site positions b s.ledger →
    (with_served_left id site (with_lines_left id s)).ledger ≡ rows_tidied s.ledger
state_tidied w c b s id site positions of counted h =
    let l = s.ledger in
    ap (λ n. record l { lines = lines_by (rows_of l id) (not (n == 0)) id l.lines; served = served_left l id site }) (unread_same s counted id)
    ∙ row_tidied w c b l id site positions of h
