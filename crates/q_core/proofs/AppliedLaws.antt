-- What the decision of the core says of the ledger's next.
use Rattle.std.proofs.Common.{◌≡◌, ◌<◌, ℕ, arith, length, Bool, true, false, List, [], ◌∷◌, refl, sym, ap, ◌∙◌, subst, Option, Some, None, option_map, inl, inr, eqb-true}
use Rattle.std.specs.Option.{option_map_or}
use Rattle.std.specs.Prelude.{◌&&◌, ◌==◌, find, option_and_then, position, slice_get}
use Rattle.q_core.proofs.NameLaws.{and_true_parts, id_eq-true}
use Rattle.q_core.proofs.NextLaws.{next_law}
use Rattle.q_core.specs.Agrees.{Agrees}
use Rattle.q_core.specs.Deciding.{IsLooking, IsNextDecision, decide_in}
use Rattle.q_core.proofs.DroppedLaws.{found_first}
use Rattle.q_core.proofs.ListLaws.{find-passes, position-find}
use Rattle.q_core.proofs.RowWalkLaws.{narrow_place}
use Rattle.q_model.proofs.IdLaws.{id_eq-refl, site_eq-refl, site_eq-true}
use Rattle.std.proofs.lemmas.Bool.{and_from, and_parts}
use Rattle.q_core.proofs.RuleLaws.{first_at_site}
use Rattle.q_core.specs.Decisions.{WantsRead, IsRowAt, IsRowFor, IsRule}
use Rattle.q_core.specs.Sending.{is_for, row_for}
use Rattle.q_core.specs.Held.{is_dead_in}
use Rattle.q_core.specs.Rules.{next_skip_in, next_skip_number, skip_at, skip_decision}
use Rattle.q_core.specs.declared.decision.Decision.{Decision}
use Rattle.q_core.specs.declared.decision.Decision.TheVariants as decisions
use Rattle.q_core.specs.declared.state.Core.{Core}
use Rattle.q_laws.proofs.Decided.{Decided}
use Rattle.q_laws.proofs.Decisions.{next_decided}
use Rattle.q_model.specs.Ids.{id_eq}
use Rattle.q_model.specs.Sites.{site_eq}
use Rattle.q_model.specs.Ledger.{Ledger}
use Rattle.q_model.specs.Lists.{has_none}
use Rattle.q_model.specs.Logs.{may_log, needs_log, why_eq}
use Rattle.q_model.specs.Marking.{marks_first, marks_leftover, needs_mark}
use Rattle.q_model.specs.Next.{needed, next, settling_rule}
use Rattle.q_model.specs.Settings.{World}
use Rattle.q_model.specs.declared.entry.Entry.{Entry}
use Rattle.q_model.specs.declared.entry.Entry.TheVariants as entries
use Rattle.q_model.specs.declared.id.Id.{Id}
use Rattle.q_model.specs.declared.outcome.Failure.{Failure}
use Rattle.q_model.specs.declared.outcome.Why.{Why}
use Rattle.q_model.specs.declared.outcome.Why.TheVariants.{Expired, Refused}
use Rattle.q_model.specs.declared.rows.Need.{Need}
use Rattle.q_model.specs.declared.rows.Need.TheVariants as needs
use Rattle.q_model.specs.declared.rows.Row.{Row}
use Rattle.q_model.specs.declared.rows.Unsettled.{Unsettled}
use Rattle.q_model.specs.Values.{Site}

-- neither a look nor a read
abbrev pub is_plain : Decision → Bool
is_plain (decisions.Read id from max) = false
is_plain decisions.LookActive = false
is_plain decisions.LookIncoming = false
is_plain (decisions.LookDeferred after until) = false
is_plain _ = true

pub not_read : (w : World) (l : Ledger) (d : Decision) (r : Option Entry) → is_plain d ≡ true → WantsRead w l d r → ⊥
not_read w l (decisions.Log id failure) r p h = h
not_read w l (decisions.Mark id position) r p h = h
not_read w l (decisions.Sync id) r p h = h
not_read w l (decisions.Skip id site entry) r p h = h
not_read w l (decisions.Defer id due) r p h = h
not_read w l (decisions.Back id) r p h = h
not_read w l (decisions.Bounce id) r p h = h
not_read w l (decisions.Remove id) r p h = h
not_read w l (decisions.Corrupt id place) r p h = h
not_read w l (decisions.Admit id place) r p h = h
not_read w l (decisions.Preempt child parent transport need) r p h = h
not_read w l (decisions.Start number id site) r p h = h
not_read w l (decisions.Read id from max) r p h = cc
not_read w l decisions.LookActive r p h = cc
not_read w l decisions.LookIncoming r p h = cc
not_read w l (decisions.LookDeferred after until) r p h = cc

is_other : (d x : Decision) → is_plain d ≡ true → is_plain x ≡ false → ◌≡◌ {A = Option Decision} (Some d) (Some x) → ⊥
is_other d x p q e = let same : d ≡ x = cc in let bad : true ≡ false = sym p ∙ ap is_plain same ∙ q in cc

pub not_looking : (c : Core) (d : Decision) → is_plain d ≡ true → IsLooking c (Some d) → ⊥
not_looking c d p (inl h) = is_other d decisions.LookActive p refl h.0
not_looking c d p (inr (inl h)) = is_other d decisions.LookIncoming p refl h.0
not_looking c d p (inr (inr h)) = is_other d (decisions.LookDeferred h.0.place h.0.until) p refl h.1

plain_rule : (w : World) (l : Ledger) (c : Core) (d : Decision) (r : Option Entry) → is_plain d ≡ true → IsNextDecision w l c (Some d) r → IsRule c (Some d) r
plain_rule w l c d r p (inl h) = h
plain_rule w l c d r p (inr (inl h)) = absurd (not_read w l d r p h)
plain_rule w l c d r p (inr (inr h)) = absurd (not_looking c d p h)

-- what the core decides is the ledger's next
pub decided_rule : {w : World} {c : Core} {l : Ledger} → Agrees w c l → (d : Decision) → is_plain d ≡ true → decide_in c ≡ Some d → IsRule c (Some d) (next w l)
decided_rule {w = w} {c = c} {l = l} a d p e = plain_rule w l c d (next w l) p (subst (λ o. IsNextDecision w l c o (next w l)) e (next_law a))

pub may_next : {w : World} {c : Core} {l : Ledger} → Agrees w c l → (e : Entry) → next w l ≡ Some e → Decided w l e
may_next {w = w} {l = l} a e h = next_decided w l e a.consistent h

same_why : (a b : Why) → why_eq a b ≡ true → b ≡ a
same_why Refused Refused h = refl
same_why Refused Expired h = cc
same_why Expired Refused h = cc
same_why Expired Expired h = refl

need_log : (id k : Id) (f : Failure) (p : ℕ) (n : Need) → k ≡ id → p ≡ f.position → needs_log f n ≡ true → needed k p n ≡ entries.Log id f
need_log id k f p (needs.Log why code) i e h =
    let parts = and_true_parts (why_eq f.why why) (f.code == code) h in
    ap (λ (x : Id). entries.Log x (record { position = p; why = why; code = code })) i
    ∙ ap (λ n. entries.Log id (record { position = n; why = why; code = code })) e
    ∙ ap (λ (y : Why). entries.Log id (record { position = f.position; why = y; code = code })) (same_why f.why why parts.0)
    ∙ ap (λ n. entries.Log id (record { position = f.position; why = f.why; code = n })) (sym (eqb-true f.code code parts.1))
need_log id k f p needs.Mark i e h = cc

log_list : (id : Id) (f : Failure) (us : List Unsettled) → option_map_or (λ u. id_eq u.id id && (u.position == f.position) && needs_log f u.need) (slice_get us 0) false ≡ true →
    option_map (λ (u : Unsettled). needed u.id u.position u.need) (slice_get us 0) ≡ Some (entries.Log id f)
log_list id f [] h = cc
log_list id f (u ∷ us) h =
    let two = and_true_parts (id_eq u.id id && (u.position == f.position)) (needs_log f u.need) h in
    let one = and_true_parts (id_eq u.id id) (u.position == f.position) two.0 in
    ap (λ (e : Entry). Some e) (need_log id u.id f u.position u.need (id_eq-true u.id id one.0) (eqb-true u.position f.position one.1) two.1)

-- the first outcome needs this record
pub log_rule : (l : Ledger) (id : Id) (f : Failure) → may_log l id f ≡ true → settling_rule l ≡ Some (entries.Log id f)
log_rule l id f h = log_list id f l.unsettled h

need_mark : (id k : Id) (p q : ℕ) (n : Need) → k ≡ id → q ≡ p → needs_mark n ≡ true → needed k q n ≡ entries.Mark id p
need_mark id k p q (needs.Log why code) i e h = cc
need_mark id k p q needs.Mark i e h = ap (λ (x : Id). entries.Mark x q) i ∙ ap (λ n. entries.Mark id n) e

mark_list : (id : Id) (p : ℕ) (us : List Unsettled) → option_map_or (λ u. id_eq u.id id && (u.position == p) && needs_mark u.need) (slice_get us 0) false ≡ true →
    option_map (λ (u : Unsettled). needed u.id u.position u.need) (slice_get us 0) ≡ Some (entries.Mark id p)
mark_list id p [] h = cc
mark_list id p (u ∷ us) h =
    let two = and_true_parts (id_eq u.id id && (u.position == p)) (needs_mark u.need) h in
    let one = and_true_parts (id_eq u.id id) (u.position == p) two.0 in
    ap (λ (e : Entry). Some e) (need_mark id u.id p u.position u.need (id_eq-true u.id id one.0) (eqb-true u.position p one.1) two.1)

-- the first outcome needs this mark
pub mark_rule : (l : Ledger) (id : Id) (p : ℕ) → marks_first l id p ≡ true → settling_rule l ≡ Some (entries.Mark id p)
mark_rule l id p h = mark_list id p l.unsettled h

-- nothing is unsettled, so an earlier life left the failure
pub left_wanted : {w : World} {c : Core} {l : Ledger} (id : Id) (p : ℕ) → Agrees w c l → c.unsettled ≡ [] → Decided w l (entries.Mark id p) → marks_leftover l id p ≡ true
left_wanted {c = c} {l = l} id p a none (may, inl first) =
    let empty : l.unsettled ≡ [] = sym a.matches.parts.unsettled ∙ none in
    let bad : true ≡ false = sym first ∙ ap (λ (us : List Unsettled). option_map_or (λ u. id_eq u.id id && (u.position == p) && needs_mark u.need) (slice_get us 0) false) empty in
    cc
left_wanted id p a none (may, inr h) = h.1

-- something is unsettled, and comes first
pub first_wanted : {w : World} {c : Core} {l : Ledger} (id : Id) (p : ℕ) → Agrees w c l → 0 < length c.unsettled → Decided w l (entries.Mark id p) → settling_rule l ≡ Some (entries.Mark id p)
first_wanted {l = l} id p a some (may, inl first) = mark_rule l id p first
first_wanted {c = c} {l = l} id p a some (may, inr h) = let empty : length c.unsettled ≡ 0 = ap length (a.matches.parts.unsettled ∙ h.0) in absurd (omega (arith, some, empty))

-- the third rule's row stands at this place
pub record IsSkipAt (c : Core) (id : Id) (site : Site) (place : ℕ) : Type 0 where
  pub row : Row
  pub there : slice_get c.waiting place ≡ Some row
  pub name : row.id ≡ id
  pub at_site : row.site ≡ site

skip_row : (c : Core) (id : Id) (s : Site) (k : ℕ) (n : ℕ) (o : Option Row) → slice_get c.waiting n ≡ o → option_map (skip_decision c) o ≡ Some (decisions.Skip id s k) → IsSkipAt c id s n
skip_row c id s entry n None e h = cc
skip_row c id s entry n (Some r) e h = record { row = r; there = e; name = cc; at_site = cc }

skip_at_place : (c : Core) (id : Id) (s : Site) (k : ℕ) (n : ℕ) (o : Option ℕ) → o ≡ Some n → option_and_then (skip_at c) o ≡ Some (decisions.Skip id s k) → IsSkipAt c id s n
skip_at_place c id s entry n None p h = cc
skip_at_place c id s entry n (Some k) p h = let same : k ≡ n = cc in skip_row c id s entry n (slice_get c.waiting n) refl (ap (skip_at c) (sym same) ∙ h)

no_skip_place : (c : Core) (id : Id) (s : Site) (k : ℕ) (o : Option ℕ) → o ≡ None → option_and_then (skip_at c) o ≡ Some (decisions.Skip id s k) → ⊥
no_skip_place c id s entry None p h = cc
no_skip_place c id s entry (Some k) p h = cc

pub no_skip : (c : Core) (id : Id) (s : Site) (k : ℕ) → position (λ r. is_dead_in c r.site) c.waiting ≡ None → next_skip_in c ≡ Some (decisions.Skip id s k) → ⊥
no_skip c id s entry p h = no_skip_place c id s entry (position (λ r. is_dead_in c r.site) c.waiting) p h

-- a row stands there
pub skip_there : (c : Core) (n : ℕ) → position (λ r. is_dead_in c r.site) c.waiting ≡ Some n → (r : Row) × (slice_get c.waiting n ≡ Some r)
skip_there c n p = elim (position-find (λ r. is_dead_in c r.site) c.waiting) [
  | inl none ↦ let bad : None ≡ Some n = sym none.0 ∙ p in cc
  | inr some ↦ let same : some.0 ≡ n = (let both : Some some.0 ≡ Some n = sym some.2.place ∙ p in cc) in (some.1, ap (slice_get c.waiting) (sym same) ∙ some.2.there)
]

-- the number of a skip is the next one
skip_numbered : (c : Core) (id : Id) (s : Site) (k : ℕ) (o : Option Row) → option_map (skip_decision c) o ≡ Some (decisions.Skip id s k) → next_skip_number c ≡ k
skip_numbered c id s k None h = cc
skip_numbered c id s k (Some r) h = cc

skip_numbered_at : (c : Core) (id : Id) (s : Site) (k : ℕ) (o : Option ℕ) → option_and_then (skip_at c) o ≡ Some (decisions.Skip id s k) → next_skip_number c ≡ k
skip_numbered_at c id s k None h = cc
skip_numbered_at c id s k (Some n) h = skip_numbered c id s k (slice_get c.waiting n) h

pub skip_number : (c : Core) (id : Id) (s : Site) (k : ℕ) → next_skip_in c ≡ Some (decisions.Skip id s k) → next_skip_number c ≡ k
skip_number c id s k h = skip_numbered_at c id s k (position (λ r. is_dead_in c r.site) c.waiting) h

-- the skip is of the first row at a dead site
pub skip_found : (c : Core) → next_skip_in c ≡ option_map (skip_decision c) (find (λ r. is_dead_in c r.site) c.waiting)
skip_found c = elim (position-find (λ (r : Row). is_dead_in c r.site) c.waiting) [
  | inl none ↦ ap (option_and_then (skip_at c)) none.0 ∙ sym (ap (option_map (skip_decision c)) none.1)
  | inr some ↦ ap (option_and_then (skip_at c)) some.2.place ∙ ap (option_map (skip_decision c)) some.2.there ∙ sym (ap (option_map (skip_decision c)) some.2.found)
]

-- where the first row at a dead site stands its message's first row for the site stands
pub skip_place : (c : Core) (id : Id) (s : Site) (k : ℕ) → next_skip_in c ≡ Some (decisions.Skip id s k) →
    (n : ℕ) × (position (λ r. is_dead_in c r.site) c.waiting ≡ Some n) × (position (is_for id s) c.waiting ≡ Some n)
skip_place c id s entry h = elim (position-find (λ (r : Row). is_dead_in c r.site) c.waiting) [
  | inl none ↦ absurd (no_skip c id s entry none.0 h)
  | inr some ↦
      let k = skip_at_place c id s entry some.0 (position (λ r. is_dead_in c r.site) c.waiting) some.2.place h in
      let dead : is_dead_in c s ≡ true = ap (is_dead_in c) (sym k.at_site) ∙ find-passes (λ (r : Row). is_dead_in c r.site) c.waiting k.row (found_first (λ (r : Row). is_dead_in c r.site) c.waiting some.0 k.row some.2.place k.there) in
      let own : is_for id s k.row ≡ true = and_from (id_eq k.row.id id) (site_eq k.row.site s) (ap (λ i. id_eq i id) k.name ∙ id_eq-refl id) (ap (λ x. site_eq x s) k.at_site ∙ site_eq-refl s) in (
        some.0,
        some.2.place,
        narrow_place (λ (r : Row). is_dead_in c r.site) (is_for id s) c.waiting some.0 k.row
            (λ x for. ap (is_dead_in c) (site_eq-true x.site s (and_parts (id_eq x.id id) (site_eq x.site s) for).1) ∙ dead)
            some.2.place k.there own,
      )
]

-- the row at that place is the message's first at the site, whatever its positions
pub skip_row_is : (c : Core) (id : Id) (s : Site) (k n : ℕ) (r : Row) → position (λ r. is_dead_in c r.site) c.waiting ≡ Some n → next_skip_in c ≡ Some (decisions.Skip id s k) → row_for c id s ≡ Some r → slice_get c.waiting n ≡ Some r
skip_row_is c id s entry n r p h for =
    let k = skip_at_place c id s entry n (position (λ r. is_dead_in c r.site) c.waiting) p h in
    let found : find (λ (r : Row). is_dead_in c r.site) c.waiting ≡ Some k.row = found_first (λ (r : Row). is_dead_in c r.site) c.waiting n k.row p k.there in
    let first : row_for c id s ≡ Some k.row = ap (λ i. row_for c i s) (sym k.name) ∙ ap (row_for c k.row.id) (sym k.at_site) ∙ first_at_site c k.row found in
    k.there ∙ sym first ∙ for

-- the row at that place is the message's first at the site
pub skip_is : (c : Core) (id : Id) (s : Site) (k : ℕ) (n : ℕ) (ps : List ℕ) → position (λ r. is_dead_in c r.site) c.waiting ≡ Some n → next_skip_in c ≡ Some (decisions.Skip id s k) → IsRowFor c id s ps → IsRowAt c n id s ps
skip_is c id s entry n ps p h for =
    let k = skip_at_place c id s entry n (position (λ r. is_dead_in c r.site) c.waiting) p h in
    let found : find (λ (r : Row). is_dead_in c r.site) c.waiting ≡ Some k.row = found_first (λ (r : Row). is_dead_in c r.site) c.waiting n k.row p k.there in
    let first : row_for c id s ≡ Some k.row = ap (λ i. row_for c i s) (sym k.name) ∙ ap (row_for c k.row.id) (sym k.at_site) ∙ first_at_site c k.row found in
    k.there ∙ sym first ∙ for

pub none_counted : {A : Type 0} (xs : List A) → (length xs == 0) ≡ has_none xs
none_counted [] = refl
none_counted (x ∷ xs) = grind arith

pub no_items : {A : Type 0} (xs : List A) → has_none xs ≡ true → xs ≡ []
no_items [] h = refl
no_items (x ∷ xs) h = cc

pub some_items : {A : Type 0} (xs : List A) → has_none xs ≡ false → 0 < length xs
some_items [] h = cc
some_items (x ∷ xs) h = omega arith
