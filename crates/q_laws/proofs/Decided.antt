-- The next decision is allowed, and what else its rule says of it.
use Rattle.std.proofs.Common.{◌≡◌, ℕ, ◌<◌, ◌≤◌, Bool, true, false, not, List, [], ◌∷◌, find, Option, Some, None, option_map, length, ◌⊎◌, inl, inr, refl, ap, ◌∙◌, subst, arith, eq-eqb, option_and_then, leb-true, ltb-true}
use Rattle.std.proofs.lemmas.Bool.{and_from, and_parts, or_cases, or_left, or_right}
use Rattle.std.proofs.lemmas.Option.{same_Some}
use Rattle.std.proofs.lemmas.Slice.Eq.{bytes_eq-Decides}
use Rattle.std.specs.List.{list_any}
use Rattle.std.specs.Option.{option_map_or}
use Rattle.std.specs.Prelude.{◌==◌, ◌||◌, ◌&&◌, nat_le, nat_lt, slice_get}
use Rattle.q_laws.proofs.Members.{IsIn, all_at, any_from, find_in}
use Rattle.q_laws.specs.Consistency.{IsConsistent, is_present}
use Rattle.q_model.proofs.IdLaws.{id_eq-refl, site_eq-refl}
use Rattle.q_model.specs.Book.{message_of}
use Rattle.q_model.specs.Bounces.{may_bounce}
use Rattle.q_model.specs.Ids.{id_eq}
use Rattle.q_model.specs.Leaving.{may_defer, may_remove}
use Rattle.q_model.specs.Ledger.{Ledger}
use Rattle.q_model.specs.Leftovers.{is_leftover, next_leftover}
use Rattle.q_model.specs.Lists.{first_of, has_none}
use Rattle.q_model.specs.Logs.{needs_log, why_eq}
use Rattle.q_model.specs.Marking.{marks_first, marks_leftover, needs_mark}
use Rattle.q_model.specs.Memory.{is_admitted, is_idle}
use Rattle.q_model.specs.Message.{Message, unmarked_logged, written_marks}
use Rattle.q_model.specs.Next.{finish, needed, wants_sync}
use Rattle.q_model.specs.Places.{is_active}
use Rattle.q_model.specs.Settings.{World}
use Rattle.q_model.specs.SiteRecords.{is_dead_site}
use Rattle.q_model.specs.Startable.{line_of}
use Rattle.q_model.specs.Starts.{is_row}
use Rattle.q_model.specs.Step.{may}
use Rattle.q_model.specs.Times.{due}
use Rattle.q_model.specs.declared.entry.Entry.{Entry}
use Rattle.q_model.specs.declared.id.Id.{Id}
use Rattle.q_model.specs.declared.outcome.Why.{Why}
use Rattle.q_model.specs.declared.outcome.Why.TheVariants.{Expired, Refused}
use Rattle.q_model.specs.declared.rows.Admitted.{Admitted}
use Rattle.q_model.specs.declared.rows.Need.{Need}
use Rattle.q_model.specs.declared.rows.Row.{Row}
use Rattle.q_model.specs.declared.rows.Unsettled.{Unsettled}
use Rattle.q_model.specs.declared.entry.Entry.TheVariants as entries
use Rattle.q_model.specs.declared.rows.Need.TheVariants as needs

-- what a decision says beside that it is allowed
abbrev pub Says : Ledger → Entry → Type 0
Says l (entries.Mark id position) = (marks_first l id position ≡ true) ⊎ ((l.unsettled ≡ []) × (marks_leftover l id position ≡ true))
Says l (entries.Sync id) = (is_admitted l id ≡ true) ⊎ ((m : Message) × (message_of l.book id ≡ Some m) × (unmarked_logged m ≡ []) × (next_leftover l ≡ Some id))
Says l (entries.Start number id site positions) = IsIn id (line_of l site.transport)
Says l _ = Unit {0}

-- a decision is allowed, and says more
abbrev pub Decided : World → Ledger → Entry → Type 0
Decided w l e = (may w l e ≡ true) × Says l e

-- ---- the first unsettled outcome

same_why : (why : Why) → why_eq why why ≡ true
same_why Refused = refl
same_why Expired = refl

need_decided : (w : World) (l : Ledger) (id : Id) (position : ℕ) (n : Need) (us : List Unsettled) → l.unsettled ≡ record { id = id; position = position; need = n } ∷ us → Decided w l (needed id position n)
need_decided w l id position (needs.Log why code) us e = (
  ap (λ (xs : List Unsettled). option_map_or (λ (u : Unsettled). id_eq u.id id && (u.position == position) && needs_log (record { position = position; why = why; code = code }) u.need) (slice_get xs 0) false) e
      ∙ rw (id_eq-refl id, eq-eqb position position refl, same_why why, eq-eqb code code refl) refl,
  tt,
)
need_decided w l id position needs.Mark us e =
    let first : marks_first l id position ≡ true = ap (λ (xs : List Unsettled). option_map_or (λ (u : Unsettled). id_eq u.id id && (u.position == position) && needs_mark u.need) (slice_get xs 0) false) e
    ∙ rw (id_eq-refl id, eq-eqb position position refl) refl in
    (or_left (marks_first l id position) (marks_leftover l id position) first, inl first)

pub settling_decided : (w : World) (l : Ledger) (e : Entry) (us : List Unsettled) → l.unsettled ≡ us → option_map (λ (u : Unsettled). needed u.id u.position u.need) (slice_get us 0) ≡ Some e → Decided w l e
settling_decided w l e [] same h = absurd cc
settling_decided w l e (u ∷ us) same h = subst (Decided w l) (same_Some (needed u.id u.position u.need) e h) (need_decided w l u.id u.position u.need us same)

pub settling_none : (us : List Unsettled) → option_map (λ (u : Unsettled). needed u.id u.position u.need) (slice_get us 0) ≡ None → us ≡ []
settling_none [] h = refl
settling_none (u ∷ us) h = absurd cc

-- ---- marks to sync

more_than_none : {A : Type 0} (xs : List A) → 0 < length xs → not (has_none xs) ≡ true
more_than_none [] h = absurd (omega (arith, h))
more_than_none (x ∷ xs) h = refl

some_marks : (limit n : ℕ) (idle : Bool) → 1 ≤ limit → (nat_le limit n || (nat_lt 0 n && idle)) ≡ true → 0 < n
some_marks limit n idle h k = elim (or_cases (nat_le limit n) (nat_lt 0 n && idle) k) [
  | inl many ↦ let e : limit ≤ n = leb-true limit n many in omega (arith, e, h)
  | inr some ↦ ltb-true 0 n (and_parts (nat_lt 0 n) idle some).0
]

sync_on : (l : Ledger) (id : Id) (limit : ℕ) (idle : Bool) (o : Option Message) → 1 ≤ limit → option_map_or (λ (m : Message). is_active m.place) o false ≡ true →
    (nat_le limit (option_map_or (λ m. length (written_marks m)) o 0) || (nat_lt 0 (option_map_or (λ m. length (written_marks m)) o 0) && idle)) ≡ true →
    option_map_or (λ (m : Message). is_active m.place && (is_leftover l id || not (has_none (written_marks m)))) o false ≡ true
sync_on l id limit idle None h active wants = absurd cc
sync_on l id limit idle (Some m) h active wants =
    and_from (is_active m.place) (is_leftover l id || not (has_none (written_marks m))) active
    (or_right (is_leftover l id) (not (has_none (written_marks m))) (more_than_none (written_marks m) (some_marks limit (length (written_marks m)) idle h wants)))

pub sync_decided : (w : World) (l : Ledger) (e : Entry) (o : Option Admitted) → IsConsistent w l → find (wants_sync w l) l.admitted ≡ o → option_map (λ (a : Admitted). entries.Sync a.id) o ≡ Some e → Decided w l e
sync_decided w l e None c f h = absurd cc
sync_decided w l e (Some a) c f h =
    let one = find_in (wants_sync w l) a l.admitted f in
    subst (Decided w l) (same_Some (entries.Sync a.id) e h) (
      sync_on l a.id w.settings.mark_sync_limit (is_idle l a.id) (message_of l.book a.id) c.usable.mark_sync_limit (all_at (is_present l) a l.admitted c.memory.present one.0) one.1,
      inl (any_from (λ (x : Admitted). id_eq x.id a.id) a l.admitted one.0 (id_eq-refl a.id)),
    )

-- ---- a row at a dead site

pub row_is : (r : Row) → is_row r.id r.site r.positions r ≡ true
row_is r = rw (id_eq-refl r.id, site_eq-refl r.site, (bytes_eq-Decides r.positions r.positions).1 refl) refl

pub skip_decided : (w : World) (l : Ledger) (e : Entry) (o : Option Row) → find (λ (r : Row). is_dead_site l r.site) l.waiting ≡ o → option_map (λ (r : Row). entries.Skip r.id r.site r.positions) o ≡ Some e → Decided w l e
skip_decided w l e None f h = absurd cc
skip_decided w l e (Some r) f h =
    let one = find_in (λ (x : Row). is_dead_site l x.site) r l.waiting f in
    subst (Decided w l) (same_Some (entries.Skip r.id r.site r.positions) e h)
    (and_from (list_any (is_row r.id r.site r.positions) l.waiting) (is_dead_site l r.site) (any_from (is_row r.id r.site r.positions) r l.waiting one.0 (row_is r)) one.1, tt)

-- ---- an idle message

-- what is taken of some choices is one of them, and its test passes
pub chosen : {A : Type 0} (choices : List (Bool × A)) (x : A) → first_of choices ≡ Some x → (c : Bool × A) × IsIn c choices × (c.0 ≡ true) × (c.1 ≡ x)
chosen {A} choices x h = found (find (λ (c : Bool × A). c.0) choices) refl h
  where
    found : (o : Option (Bool × A)) → find (λ (c : Bool × A). c.0) choices ≡ o → option_map (λ (c : Bool × A). c.1) o ≡ Some x → (c : Bool × A) × IsIn c choices × (c.0 ≡ true) × (c.1 ≡ x)
    found None f g = absurd cc
    found (Some c) f g = let one = find_in (λ (d : Bool × A). d.0) c choices f in (c, one.0, one.1, same_Some c.1 x g)

finish_decided : (w : World) (l : Ledger) (id : Id) (t : ℕ) (c : Bool × Entry) → IsIn c ((may_defer w l id t, entries.Defer id t) ∷ (may_bounce l id, entries.Bounce id) ∷ (may_remove l id, entries.Remove id) ∷ []) → c.0 ≡ true → Decided w l c.1
finish_decided w l id t c (inl e) h = subst (λ (x : Bool × Entry). x.0 ≡ true → Decided w l x.1) e (λ k. (k, tt)) h
finish_decided w l id t c (inr (inl e)) h = subst (λ (x : Bool × Entry). x.0 ≡ true → Decided w l x.1) e (λ k. (k, tt)) h
finish_decided w l id t c (inr (inr (inl e))) h = subst (λ (x : Bool × Entry). x.0 ≡ true → Decided w l x.1) e (λ k. (k, tt)) h
finish_decided w l id t c (inr (inr (inr e))) h = absurd e

finished : (w : World) (l : Ledger) (id : Id) (e : Entry) (o : Option Message) →
    option_and_then (λ m. first_of ((may_defer w l id (due w l.now m), entries.Defer id (due w l.now m)) ∷ (may_bounce l id, entries.Bounce id) ∷ (may_remove l id, entries.Remove id) ∷ [])) o ≡ Some e → Decided w l e
finished w l id e None h = absurd cc
finished w l id e (Some m) h =
    let one = chosen ((may_defer w l id (due w l.now m), entries.Defer id (due w l.now m)) ∷ (may_bounce l id, entries.Bounce id) ∷ (may_remove l id, entries.Remove id) ∷ []) e h in
    subst (Decided w l) one.3 (finish_decided w l id (due w l.now m) one.0 one.1 one.2)

pub finishing_decided : (w : World) (l : Ledger) (e : Entry) (o : Option Admitted) → option_and_then (λ (a : Admitted). finish w l a.id) o ≡ Some e → Decided w l e
finishing_decided w l e None h = absurd cc
finishing_decided w l e (Some a) h = finished w l a.id e (message_of l.book a.id) h
