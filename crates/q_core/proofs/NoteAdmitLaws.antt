-- The admission of a message is noted, which is in no line yet.
use Rattle.std.proofs.Common.{◌≡◌, ℕ, true, false, List, [], ◌∷◌, cond, map, not, Option, inl, inr, refl, sym, ap, ◌∙◌, zero-add}
use Rattle.std.proofs.lemmas.List.Sums.{sum_by-cons, take_while-cons}
use Rattle.std.specs.List.{enumerate_from, list_all, list_any}
use Rattle.std.specs.Option.{option_map_or}
use Rattle.std.specs.Prelude.{◌&&◌, ◌||◌, ◌==◌, count_by, sum_by}
use Rattle.q_core.proofs.SameLaws.{not_bool}
use Rattle.q_core.proofs.StepLaws.{HoldsRaw, IsStillSeen}
use Rattle.q_core.specs.Agrees.{job_of, jobs_of}
use Rattle.q_core.specs.declared.state.Core.{Core}
use Rattle.q_core.specs.declared.state.Seen.{Seen}
use Rattle.q_core.specs.declared.state.Seen.TheVariants.{Known, Unknown}
use Rattle.q_laws.proofs.Leaving.{absent_rows}
use Rattle.q_laws.proofs.Members.{IsIn, all_at, find_none_from, none_at, none_from}
use Rattle.q_laws.specs.Consistency.{IsConsistent}
use Rattle.q_model.proofs.IdLaws.{id_eq-true}
use Rattle.q_model.specs.Accounts.{charge_of, charged, is_admit_of, is_start_of, since_admit, starts_of}
use Rattle.q_model.specs.Ids.{id_eq}
use Rattle.q_model.specs.Ledger.{Ledger}
use Rattle.q_model.specs.Memory.{is_admitted, unread_count, unread_of}
use Rattle.q_model.specs.Past.{is_start}
use Rattle.q_model.specs.Settings.{World}
use Rattle.q_model.specs.Step.{noted, stays}
use Rattle.q_model.specs.declared.entry.Entry.{Entry}
use Rattle.q_model.specs.declared.id.Id.{Id}
use Rattle.q_model.specs.declared.rows.Admitted.{Admitted}
use Rattle.q_model.specs.declared.rows.Row.{Row}
use Rattle.q_model.specs.declared.entry.Entry.TheVariants as entries

since_other : (l : Ledger) (id x : Id) → id_eq id x ≡ false → since_admit (noted (entries.Admit id) l) x ≡ entries.Admit id ∷ since_admit l x
since_other l id x h =
    take_while-cons (λ e. not (is_admit_of x e)) (entries.Admit id) l.past
    ∙ ap (λ b. cond (not b) (entries.Admit id ∷ since_admit l x) []) h

-- the account of another message is as it was
other_job : (l : Ledger) (id : Id) (t : ℕ) (x : Id) → id_eq id x ≡ false → job_of (noted (entries.Admit id) l) t x ≡ job_of l t x
other_job l id t x h =
    let e = entries.Admit id in
    let starts : starts_of (noted e l) x t ≡ starts_of l x t =
    ap (count_by (is_start_of x t)) (since_other l id x h) ∙ sum_by-cons (λ y. cond (is_start_of x t y) 1 0) e (since_admit l x) ∙ zero-add (starts_of l x t) in
    let charges : charged (noted e l) x t ≡ charged l x t =
    ap (sum_by (charge_of x t)) (since_other l id x h) ∙ sum_by-cons (charge_of x t) e (since_admit l x) ∙ zero-add (charged l x t) in
    ap (λ n. record { id = x; starts = n; charged = charged (noted e l) x t }) starts
    ∙ ap (λ n. record { id = x; starts = starts_of l x t; charged = n }) charges

other_line : (l : Ledger) (id : Id) (t : ℕ) (ids : List Id) → ((x : Id) → IsIn x ids → id_eq id x ≡ false) → map (job_of l t) ids ≡ map (job_of (noted (entries.Admit id) l) t) ids
other_line l id t [] h = refl
other_line l id t (x ∷ xs) h =
    ap (λ j. j ∷ map (job_of l t) xs) (sym (other_job l id t x (h x (inl refl))))
    ∙ ap (λ js. job_of (noted (entries.Admit id) l) t x ∷ js) (other_line l id t xs (λ y k. h y (inr k)))

other_lines : (l : Ledger) (id : Id) (lines : List (ℕ × List Id)) → ((line : ℕ × List Id) → IsIn line lines → (x : Id) → IsIn x line.1 → id_eq id x ≡ false) → map (jobs_of l) lines ≡ map (jobs_of (noted (entries.Admit id) l)) lines
other_lines l id [] h = refl
other_lines l id (line ∷ rest) h =
    ap (λ js. js ∷ map (jobs_of l) rest) (other_line l id line.0 line.1 (h line (inl refl)))
    ∙ ap (λ ls. jobs_of (noted (entries.Admit id) l) line ∷ ls) (other_lines l id rest (λ x k. h x (inr k)))

still_noted : (seen : Seen) (l : Ledger) (past : List Entry) → IsStillSeen seen l → IsStillSeen seen (record l { past = past })
still_noted Unknown l past h = tt
still_noted (Known found) l past h = h

-- the admission is noted
pub note_admit : {w : World} {c : Core} {l : Ledger} (id : Id) → ((line : ℕ × List Id) → IsIn line (enumerate_from 0 l.lines) → (x : Id) → IsIn x line.1 → id_eq id x ≡ false) → HoldsRaw w c l → HoldsRaw w c (noted (entries.Admit id) l)
note_admit {c = c} {l = l} id apart r = let h = r.parts in record {
  parts = record {
    settings = h.settings;
    count = h.count;
    transports = h.transports;
    mode = h.mode;
    clock = h.clock;
    timed = h.timed;
    next_run = h.next_run;
    ignores = h.ignores;
    deferred_follows = h.deferred_follows;
    admitted = h.admitted;
    waiting = h.waiting;
    flights = h.flights;
    memory = h.memory;
    served = h.served;
    unsettled = h.unsettled;
    lines = (h.lines ∙ other_lines l id (enumerate_from 0 l.lines) apart);
    sites = h.sites;
    synced = h.synced;
    starts = (h.starts ∙ sym (sum_by-cons (λ y. cond (is_start y) 1 0) (entries.Admit id) l.past ∙ zero-add (count_by is_start l.past)));
    active = h.active;
    incoming = h.incoming;
  };
  scan = r.scan;
  asked = r.asked;
  seen = still_noted c.deferred l (entries.Admit id ∷ l.past) r.seen;
}

-- ---- a message that isn't in memory is in no line

nothing_unread : (l : Ledger) (id : Id) → is_admitted l id ≡ false → unread_of l id ≡ 0
nothing_unread l id out = ap (λ (o : Option Admitted). option_map_or (λ a. unread_count l a) o 0)
    (find_none_from (λ (a : Admitted). id_eq a.id id) l.admitted (λ a h. none_at (λ (x : Admitted). id_eq x.id id) a l.admitted out h))

never_stays : {w : World} {l : Ledger} → IsConsistent w l → (id : Id) → is_admitted l id ≡ false → (t : ℕ) → stays l t id ≡ false
never_stays {w = w} {l = l} k id out t =
    ap (λ n. not (n == 0) || list_any (λ (r : Row). id_eq r.id id && (r.site.transport == t)) l.waiting) (nothing_unread l id out)
    ∙ none_from (λ (r : Row). id_eq r.id id && (r.site.transport == t)) l.waiting (λ r h.
    ap (λ z. z && (r.site.transport == t)) (none_at (λ (x : Row). id_eq x.id id) r l.waiting (absent_rows w l id k out).waiting h))

pub in_no_line : {w : World} {l : Ledger} → IsConsistent w l → (id : Id) → is_admitted l id ≡ false → (line : ℕ × List Id) → IsIn line (enumerate_from 0 l.lines) → (x : Id) → IsIn x line.1 → id_eq id x ≡ false
in_no_line {l = l} k id out line h x inside = not_bool (id_eq id x) (λ e. apart (id_eq-true id x e))
  where
    apart : id ≡ x → ⊥
    apart e =
        let there : stays l line.0 x ≡ true = all_at (stays l line.0) x line.1 (all_at (λ (y : ℕ × List Id). list_all (stays l y.0) y.1) line (enumerate_from 0 l.lines) k.memory.lines h) inside in
        let bad : false ≡ true = sym (never_stays k id out line.0) ∙ ap (stays l line.0) e ∙ there in
        absurd cc
