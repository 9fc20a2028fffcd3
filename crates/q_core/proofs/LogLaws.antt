-- A failure of the first outcome is logged.
use Rattle.std.proofs.Common.{◌≡◌, ℕ, ◌+◌, ◌-◌, Bool, true, false, List, [], ◌∷◌, ◌++◌, length, refl, sym, ap, ◌∙◌, Option, Some, None, arith, inl, inr, ◌⊎◌, ◌≢◌}
use Rattle.std.proofs.Math.Dec.{eqb}
use Rattle.std.proofs.lemmas.Bool.{eq-eqb, ne_eqb}
use Rattle.std.proofs.lemmas.Bool.Decides.{eqb_tells}
use Rattle.std.specs.List.{list_any}
use Rattle.std.specs.Prelude.{◌&&◌, ◌||◌, ◌==◌, if◌then◌else◌, not, slice_get, sum_by}
use Rattle.q_core.proofs.BookLaws.{KeepsPlace}
use Rattle.q_core.proofs.ChangeLaws.{changed_ledger}
use Rattle.q_core.proofs.FirstLaws.{first_log, first_of_message}
use Rattle.q_core.proofs.HeldLaws.{slot_law, unsettled_law}
use Rattle.q_core.proofs.PlaceLaws.{less_one, passes_at, some_place}
use Rattle.q_core.proofs.StepLaws.{HoldsRaw}
use Rattle.q_core.specs.Agrees.{slot_from}
use Rattle.q_core.specs.Changes.{IsSlotChange, IsUnsettledChange}
use Rattle.q_pool.specs.Slots.{with_log}
use Rattle.q_core.specs.declared.state.Core.{Core}
use Rattle.q_laws.specs.Consistency.{IsConsistent}
use Rattle.q_model.specs.Ids.{id_eq}
use Rattle.q_model.specs.Ledger.{Ledger}
use Rattle.q_model.specs.Lists.{has_none}
use Rattle.q_model.specs.Logs.{after_log, first_logged, with_failure}
use Rattle.q_model.specs.Marking.{is_unmarked_at}
use Rattle.q_model.specs.Marks.{is_marked}
use Rattle.q_model.specs.Message.{Logged, Message, Recipient, is_logged, pending, unmarked_logged}
use Rattle.q_model.specs.Next.{settling_rule}
use Rattle.q_model.specs.Settings.{World}
use Rattle.q_model.specs.declared.entry.Entry.TheVariants as entries
use Rattle.q_model.specs.declared.id.Id.{Id}
use Rattle.q_model.specs.declared.outcome.Failure.{Failure}
use Rattle.q_model.specs.declared.rows.Admitted.{Admitted}
use Rattle.q_model.specs.declared.rows.Need.TheVariants as needs
use Rattle.q_model.specs.declared.rows.Unsettled.{Unsettled}

-- the tests of a recipient at a place
abbrev pub is_pending_at : Message → ℕ → Recipient → Bool
is_pending_at m i r = not (is_marked r.mark || is_logged m i)

abbrev pub is_half_at : Message → ℕ → Recipient → Bool
is_half_at m i r = not (is_marked r.mark) && is_logged m i

-- what the element at a place passes follows from another test
pub passes_from : (p q : ℕ → Recipient → Bool) (k : ℕ) (o : Option Recipient) → ((r : Recipient) → p k r ≡ true → q k r ≡ true) → passes_at p k o ≡ true → passes_at q k o ≡ true
passes_from p q k None h e = cc
passes_from p q k (Some r) h e = h r e

pub fails_from : (p q : ℕ → Recipient → Bool) (k : ℕ) (o : Option Recipient) → ((r : Recipient) → p k r ≡ true → q k r ≡ false) → passes_at p k o ≡ true → passes_at q k o ≡ false
fails_from p q k None h e = refl
fails_from p q k (Some r) h e = h r e

abbrev pub unmarked : ℕ → Recipient → Bool
unmarked i r = not (is_marked r.mark)

pub pends : (b c : Bool) → c ≡ false → not b ≡ true → not (b || c) ≡ true
pends true c h e = cc
pends false c h e = ap not h

pub halves : (b c : Bool) → c ≡ true → not b ≡ true → (not b && c) ≡ true
halves true c h e = cc
halves false c h e = h

or_false : (b : Bool) → (b || false) ≡ b
or_false true = refl
or_false false = refl

or_true : (b : Bool) → (b || true) ≡ true
or_true true = refl
or_true false = refl

or_group : (a b c : Bool) → (a || (b || c)) ≡ ((a || b) || c)
or_group true b c = refl
or_group false b c = refl

-- the log with one more
logged_more : (xs : List Logged) (f : Failure) (i : ℕ) → list_any (λ (x : Logged). x.failure.position == i) (xs ++ record { failure = f; firm = true } ∷ []) ≡ (list_any (λ (x : Logged). x.failure.position == i) xs || (f.position == i))
logged_more [] f i = or_false (f.position == i)
logged_more (x ∷ xs) f i = ap (λ b. (x.failure.position == i) || b) (logged_more xs f i) ∙ or_group (x.failure.position == i) (list_any (λ (y : Logged). y.failure.position == i) xs) (f.position == i)

pending_less : (a b c : Bool) → not (a || (b || c)) ≡ (not (a || b) && not c)
pending_less true b c = refl
pending_less false true c = refl
pending_less false false c = refl

same_by : (a b : ℕ) → ((eqb a b ≡ true) × (a ≡ b)) ⊎ ((eqb a b ≡ false) × (a ≢ b)) → (a == b) ≡ (b == a)
same_by a b (inl h) = h.0 ∙ sym (eq-eqb b a (sym h.1))
same_by a b (inr h) = h.0 ∙ sym (ne_eqb b a (λ e. h.1 (sym e)))

same_sides : (a b : ℕ) → (a == b) ≡ (b == a)
same_sides a b = same_by a b (eqb_tells a b)

-- a pending recipient is logged
pending_log : (m : Message) (f : Failure) (i : ℕ) (r : Recipient) → is_pending_at (with_failure f m) i r ≡ (is_pending_at m i r && not (i == f.position))
pending_log m f i r =
    ap (λ b. not (is_marked r.mark || b)) (logged_more m.failures f i)
    ∙ pending_less (is_marked r.mark) (is_logged m i) (f.position == i)
    ∙ ap (λ b. is_pending_at m i r && not b) (same_sides f.position i)

log_counts : (m : Message) (f : Failure) → is_unmarked_at m f.position ≡ true → is_logged m f.position ≡ false →
    (length (pending (with_failure f m)) ≡ length (pending m) - 1) × (has_none (unmarked_logged (with_failure f m)) ≡ false)
log_counts m f u n =
    let one = less_one (is_pending_at m) (is_pending_at (with_failure f m)) f.position 0 f.position m.recipients (pending_log m f) (omega arith)
    (passes_from unmarked (is_pending_at m) f.position (slice_get m.recipients f.position) (λ r e. pends (is_marked r.mark) (is_logged m f.position) n e) u) in (
      omega (arith, one),
      some_place (is_half_at (with_failure f m)) f.position 0 f.position m.recipients (omega arith)
          (passes_from unmarked (is_half_at (with_failure f m)) f.position (slice_get m.recipients f.position)
          (λ r e. halves (is_marked r.mark) (is_logged (with_failure f m) f.position) (logged_more m.failures f f.position ∙ ap (λ b. is_logged m f.position || b) (eq-eqb f.position f.position refl) ∙ or_true (is_logged m f.position)) e) u),
    )

has_last : {A : Type 0} (xs : List A) (x : A) → has_none (xs ++ x ∷ []) ≡ false
has_last [] x = refl
has_last (y ∷ ys) x = refl

slot_logged : (m : Message) (f : Failure) → is_unmarked_at m f.position ≡ true → is_logged m f.position ≡ false → (a : Admitted) (bounced : Bool) →
    slot_from a bounced (Some (with_failure f m)) ≡ with_log (slot_from a bounced (Some m))
slot_logged m f u n a bounced =
    let s = slot_from a bounced (Some m) in
    let counts = log_counts m f u n in
    ap (λ k. record s { pending = k; logged = not (has_none (unmarked_logged (with_failure f m))); failed = not (has_none (with_failure f m).failures) }) counts.0
    ∙ ap (λ b. record s { pending = length (pending m) - 1; logged = not b; failed = not (has_none (with_failure f m).failures) }) counts.1
    ∙ ap (λ b. record s { pending = length (pending m) - 1; logged = true; failed = not b }) (has_last m.failures (record { failure = f; firm = true }))

-- where no place is logged and unmarked, an unmarked one isn't logged
pub not_logged : (m : Message) (k : ℕ) (b : Bool) → is_logged m k ≡ b → is_unmarked_at m k ≡ true → unmarked_logged m ≡ [] → b ≡ false
not_logged m k false e u none = refl
not_logged m k true e u none =
    let some = some_place (is_half_at m) k 0 k m.recipients (omega arith) (passes_from unmarked (is_half_at m) k (slice_get m.recipients k) (λ r h. halves (is_marked r.mark) (is_logged m k) e h) u) in
    let bad : true ≡ false = sym (ap has_none none) ∙ some in
    cc

logged_keep : (m : Message) (id : Id) (position : ℕ) (b : Bool) → (if b && false && is_logged m position then position ∷ [] else []) ≡ []
logged_keep m id position true = refl
logged_keep m id position false = refl

same_many : (us : List Unsettled) → length (first_logged us) ≡ length us
same_many [] = refl
same_many (u ∷ us) = refl

keeps_log : (f : Failure) → KeepsPlace (with_failure f)
keeps_log f = record { name = λ m. refl; place = λ m. refl }

abbrev pub counted : Ledger → ℕ → ℕ
counted l n = sum_by (λ r. length r.positions) l.waiting + sum_by (λ d. length d.row.positions) l.flights + n

pub log_law : {w : World} {c d e : Core} {l : Ledger} (id : Id) (f : Failure) → HoldsRaw w c l → IsConsistent w l → settling_rule l ≡ Some (entries.Log id f) →
    IsSlotChange c d id with_log → IsUnsettledChange d e (first_logged d.unsettled) → e.in_memory ≡ d.in_memory → HoldsRaw w e (after_log l id f)
log_law {w = w} {c = c} {d = d} {e = e} {l = l} id f r k rule s u memory =
    let first = first_log l id f rule in
    let found = first_of_message k id f.position (needs.Log f.why f.code) first in
    let m = found.0 in
    let known = found.1 in
    let none : unmarked_logged m ≡ [] = known.logged ∙ logged_keep m id f.position (id_eq id m.id) in
    let apart : is_logged m f.position ≡ false = not_logged m f.position (is_logged m f.position) refl known.unmarked none in
    let raw : HoldsRaw w d (changed_ledger l id (with_failure f)) =
    slot_law id (with_failure f) m with_log r (record { keeps = keeps_log f; there = known.there; active = known.active; distinct = k.book.distinct }) known.admitted (slot_logged m f known.unmarked apart) s in
    let us = first_logged l.unsettled in
    let change : IsUnsettledChange d e us = record { rest = u.rest; unsettled = u.unsettled ∙ ap first_logged raw.parts.unsettled } in
    unsettled_law us raw change (memory ∙ raw.parts.memory ∙ ap (counted l) (sym (same_many l.unsettled)))
