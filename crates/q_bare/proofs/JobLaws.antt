-- What a job has left, what it has to pay and which is best are the same of a bare ledger.
use Rattle.std.proofs.Common.{◌≡◌, ℕ, ◌+◌, ◌*◌, ◌-◌, Bool, false, not, map, refl, ap, ◌∙◌}
use Rattle.std.proofs.Math.Path.{fun_ext}
use Rattle.std.specs.List.{list_any}
use Rattle.std.specs.Option.{option_map_or}
use Rattle.std.specs.Prelude.{◌&&◌, ◌==◌, count_by, filter, nat_le, nat_lt}
use Rattle.q_bare.proofs.BookLaws.{asked}
use Rattle.q_bare.proofs.MemoryLaws.{unread_bare}
use Rattle.q_bare.specs.Bare.{bare}
use Rattle.q_bare.specs.CountedRows.{best_by, candidates_by, is_best_by, is_candidate_by, pays_by}
use Rattle.q_bare.specs.Counts.{counts_of}
use Rattle.q_model.specs.declared.id.Id.{Id}
use Rattle.q_model.specs.declared.rows.Admitted.{Admitted}
use Rattle.q_model.specs.Accounts.{charged, job_left, starts_of}
use Rattle.q_model.specs.Candidates.{age, best, candidates, ids_behind, is_better, is_candidate, pays}
use Rattle.q_model.specs.Ids.{id_eq}
use Rattle.q_model.specs.Ledger.{Ledger}
use Rattle.q_model.specs.Lists.{least}
use Rattle.q_model.specs.Preemptions.{is_best}
use Rattle.q_model.specs.Settings.{World}
use Rattle.q_model.specs.Startable.{can_start, line_of}
use Rattle.q_model.specs.Times.{age_of}

pub job_bare : (l : Ledger) (id : Id) (t : ℕ) → job_left (bare l) id t ≡ job_left l id t
job_bare l id t = ap (λ n. count_by (λ r. id_eq r.id id && (r.site.transport == t)) l.waiting + n) (unread_bare l id)

age_bare : (l : Ledger) (id : Id) → age (bare l) id ≡ age l id
age_bare l id = asked (age_of l.now) (age_of l.now) 0 (λ m. refl) l.book id

-- the first is better, by the ages of both and what they have left
abbrev better : ℕ → ℕ → ℕ → ℕ → Bool
better first second left other = nat_lt ((second + 1) * left) ((first + 1) * other)

better_at : (l : Ledger) (t : ℕ) (a b : Id) → is_better (bare l) t a b ≡ is_better l t a b
better_at l t a b =
    ap (λ n. better n (age (bare l) b) (job_left (bare l) a t) (job_left (bare l) b t)) (age_bare l a)
    ∙ ap (λ n. better (age l a) n (job_left (bare l) a t) (job_left (bare l) b t)) (age_bare l b)
    ∙ ap (λ n. better (age l a) (age l b) n (job_left (bare l) b t)) (job_bare l a t)
    ∙ ap (better (age l a) (age l b) (job_left l a t)) (job_bare l b t)

better_bare : (l : Ledger) (t : ℕ) → is_better (bare l) t ≡ is_better l t
better_bare l t = fun_ext (λ a. fun_ext (λ b. better_at l t a b))

-- the account pays, by what the parent has left
abbrev pays_with : World → Ledger → ℕ → Id → ℕ → ℕ → Bool
pays_with w l t parent need left =
    let cost = w.settings.slot_cost in
    let begun = starts_of l parent t in
    let owed = cost * charged l parent t in
    nat_le (need * (100 - w.settings.slot_discount) * cost + 100 * owed) (100 * (begun + w.settings.slot_loan * cost))
    && nat_le (cost * need + owed) (begun + left)
    && nat_le (cost * w.settings.minimum_slots) (begun + left)

pays_bare : (w : World) (l : Ledger) (t : ℕ) (parent : Id) (need : ℕ) → pays_by (counts_of l) w (bare l) t parent need ≡ pays w l t parent need
pays_bare w l t parent need = ap (pays_with w l t parent need) (job_bare l parent t)

candidate_at : (w : World) (l : Ledger) (t : ℕ) (parent id : Id) → is_candidate_by (counts_of l) w (bare l) t parent id ≡ is_candidate w l t parent id
candidate_at w l t parent id =
    let rest : Bool → Bool = λ paid. not (w.settings.slot_cost == 0)
    && list_any (id_eq id) (ids_behind parent (line_of l t))
    && (starts_of l id t == 0)
    && can_start w l t id
    && paid in
    ap rest (ap (λ n. pays_by (counts_of l) w (bare l) t parent n) (job_bare l id t) ∙ pays_bare w l t parent (job_left l id t))

candidates_bare : (w : World) (l : Ledger) (t : ℕ) (parent : Id) → candidates_by (counts_of l) w (bare l) t parent ≡ candidates w l t parent
candidates_bare w l t parent = ap (λ (p : Id → Bool). filter p (map (λ (a : Admitted). a.id) l.admitted)) (fun_ext (candidate_at w l t parent))

pub best_bare : (w : World) (l : Ledger) (t : ℕ) (parent : Id) → best_by (counts_of l) w (bare l) t parent ≡ best w l t parent
best_bare w l t parent =
    ap (λ (before : Id → Id → Bool). least before (candidates_by (counts_of l) w (bare l) t parent)) (better_bare l t)
    ∙ ap (least (is_better l t)) (candidates_bare w l t parent)

pub is_best_bare : (w : World) (l : Ledger) (t : ℕ) (parent id : Id) → is_best_by (counts_of l) w (bare l) t parent id ≡ is_best w l t parent id
is_best_bare w l t parent id = ap (λ o. option_map_or (λ b. id_eq b id) o false) (best_bare w l t parent)
