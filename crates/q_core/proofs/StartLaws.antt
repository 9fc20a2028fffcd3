-- The choice by what the core holds is the ledger's.
use Rattle.q_jobs.specs.Jobs.{behind_jobs}
use Rattle.std.proofs.Common.{◌≡◌, ℕ, ◌+◌, ◌-◌, ◌*◌, ◌≤◌, ◌^◌, Bool, true, false, List, [], ◌∷◌, length, map, min, refl, suc, sym, ap, ◌∙◌, subst, arith, Option, Some, None, option_map, IsTrue}
use Rattle.std.specs.Prelude.{find, filter, not, ◌&&◌, ◌||◌, ◌==◌, nat_lt, nat_le, count_by, option_and_then, if◌then◌else◌, slice_get, filter_map}
use Rattle.std.specs.List.{list_any, list_all, enumerate_from, cons_option}
use Rattle.std.specs.Option.{option_map_or, option_or}
use Rattle.q_core.proofs.AgreesLaws.{same_unread}
use Rattle.q_core.proofs.ChoiceLaws.{least-map, least-same, list_all-filter}
use Rattle.q_core.proofs.ListLaws.{filter-map, filter-same, find-map, find-same, list_any-same, slice_get-numbered}
use Rattle.q_core.proofs.NameLaws.{id_eq-true}
use Rattle.q_core.specs.Agrees.{AgreesButScan, job_of, jobs_of, slot_of}
use Rattle.q_laws.proofs.Members.{IsIn, in_filtered, least_in}
use Rattle.q_laws.proofs.JobsLeft.{job_left_few}
use Rattle.q_laws.specs.Consistency.{IsMemoryConsistent, is_present}
use Rattle.q_core.specs.Choosing.{best_in, choice_in, choices_from, choose_in, current_in, is_better_in, is_candidate_in, is_fresh_among, job_left_in, jobs_at, need_in, next_start_in, pays_in, preempt_or}
use Rattle.q_core.specs.Decisions.{IsRule}
use Rattle.q_core.specs.Held.{unread_in}
use Rattle.q_core.specs.Starting.{can_start_in, flights_at, has_room_in, is_startable_in, last_start_in, next_row_in, rows_for, start_in, start_of_row}
use Rattle.q_core.specs.declared.decision.Decision.{Decision}
use Rattle.q_jobs.specs.declared.job.Job.{Job}
use Rattle.q_pool.specs.declared.slot.Slot.{Slot}
use Rattle.q_core.specs.declared.state.Core.{Core}
use Rattle.q_model.specs.Accounts.{charged, job_left, starts_of}
use Rattle.q_model.specs.Book.{message_of}
use Rattle.q_model.specs.Candidates.{age, ids_behind, best, is_better, is_candidate, pays}
use Rattle.q_model.specs.Choice.{choice, last_start, next_row, start_of}
use Rattle.q_model.specs.Deliveries.{flights_of}
use Rattle.q_model.specs.Sites.{site_eq}
use Rattle.q_model.specs.Ids.{id_eq}
use Rattle.q_model.specs.Ledger.{Ledger}
use Rattle.q_model.specs.Lists.{first_some, least}
use Rattle.q_model.specs.Message.{Message}
use Rattle.q_model.specs.Next.{start_rule}
use Rattle.q_model.specs.Past.{starts}
use Rattle.q_model.specs.Places.{is_active}
use Rattle.q_model.specs.Settings.{Settings, World}
use Rattle.q_model.specs.SiteRecords.{is_awake}
use Rattle.q_model.specs.Startable.{can_start, current, is_startable, line_of}
use Rattle.q_model.specs.Values.{Served, Site, SiteRecord}
use Rattle.q_model.specs.declared.entry.Entry.{Entry}
use Rattle.q_model.specs.declared.id.Id.{Id}
use Rattle.q_model.specs.declared.rows.Admitted.{Admitted}
use Rattle.q_model.specs.declared.rows.Delivery.{Delivery}
use Rattle.q_model.specs.declared.rows.Row.{Row}
use Rattle.q_model.specs.declared.entry.Entry.TheVariants as entries

-- the ledger's test of a row that a message may start
abbrev rows_of : World → Ledger → Id → ℕ → Row → Bool
rows_of w l id t r = id_eq r.id id && (r.site.transport == t) && is_startable w l r

abbrev room_of : List Delivery → Site → Option SiteRecord → Bool
room_of fs site o = option_map_or (λ d. is_awake d && nat_lt (count_by (λ f. site_eq f.row.site site) fs) d.window) o false

same_startable : {w : World} {c : Core} {l : Ledger} → AgreesButScan w c l → (r : Row) → is_startable_in c r ≡ is_startable w l r
same_startable {w = w} {c = c} {l = l} h r =
    ap (λ (s : Settings). nat_lt (flights_at c r.site.transport) s.process_limit && has_room_in c r.site) h.settings
    ∙ ap (λ (fs : List Delivery). nat_lt (count_by (λ f. f.row.site.transport == r.site.transport) fs) w.settings.process_limit && room_of fs r.site (find (λ d. site_eq d.site r.site) c.sites)) h.flights
    ∙ ap (λ (ds : List SiteRecord). nat_lt (flights_of l r.site.transport) w.settings.process_limit && room_of l.flights r.site (find (λ d. site_eq d.site r.site) ds)) h.sites

same_for : {w : World} {c : Core} {l : Ledger} → AgreesButScan w c l → (id : Id) (t : ℕ) (r : Row) → rows_for c id t r ≡ rows_of w l id t r
same_for h id t r = ap (λ b. id_eq r.id id && (r.site.transport == t) && b) (same_startable h r)

same_can_start : {w : World} {c : Core} {l : Ledger} → AgreesButScan w c l → (t : ℕ) (id : Id) → can_start_in c t id ≡ can_start w l t id
same_can_start {w = w} {c = c} {l = l} h t id = ap (list_any (rows_for c id t)) h.waiting ∙ list_any-same (rows_for c id t) (rows_of w l id t) (same_for h id t) l.waiting

pub same_job_left : {w : World} {c : Core} {l : Ledger} → AgreesButScan w c l → (t : ℕ) (id : Id) → job_left_in c t id ≡ job_left l id t
same_job_left {c = c} {l = l} h t id =
    ap (λ (rs : List Row). count_by (λ r. id_eq r.id id && (r.site.transport == t)) rs + unread_in c id) h.waiting
    ∙ ap (λ n. count_by (λ r. id_eq r.id id && (r.site.transport == t)) l.waiting + n) (same_unread h id)

abbrev line_at : Option (List Id) → List Id
line_at o = option_map_or (λ ids. ids) o []

abbrev jobs_or : Option (List Job) → List Job
jobs_or o = option_map_or (λ jobs. jobs) o []

jobs_found : (l : Ledger) (t : ℕ) (o : Option (List Id)) → jobs_or (option_map (λ ids. jobs_of l (t, ids)) o) ≡ map (job_of l t) (line_at o)
jobs_found l t None = refl
jobs_found l t (Some ids) = refl

same_jobs_at : {w : World} {c : Core} {l : Ledger} → AgreesButScan w c l → (t : ℕ) → jobs_at c t ≡ map (job_of l t) (line_of l t)
same_jobs_at {c = c} {l = l} h t =
    ap (λ (ls : List (List Job)). jobs_or (slice_get ls t)) h.lines
    ∙ ap jobs_or (slice_get-numbered (jobs_of l) 0 t t l.lines (omega arith))
    ∙ jobs_found l t (slice_get l.lines t)

same_current : {w : World} {c : Core} {l : Ledger} → AgreesButScan w c l → (t : ℕ) → current_in c t ≡ option_map (job_of l t) (current w l t)
same_current {w = w} {c = c} {l = l} h t =
    ap (find (λ j. can_start_in c t j.id)) (same_jobs_at h t)
    ∙ find-map (λ (j : Job). can_start_in c t j.id) (job_of l t) (line_of l t)
    ∙ ap (option_map (job_of l t)) (find-same (λ id. can_start_in c t id) (can_start w l t) (same_can_start h t) (line_of l t))

behind_step : (l : Ledger) (t : ℕ) (id : Id) (b : Bool) (xs rest : List Id) (js : List Job) → js ≡ map (job_of l t) rest → (if b then map (job_of l t) xs else js) ≡ map (job_of l t) (if b then xs else rest)
behind_step l t id true xs rest js h = refl
behind_step l t id false xs rest js h = h

same_behind : (l : Ledger) (t : ℕ) (id : Id) (ids : List Id) → behind_jobs id (map (job_of l t) ids) ≡ map (job_of l t) (ids_behind id ids)
same_behind l t id [] = refl
same_behind l t id (x ∷ xs) = behind_step l t id (id_eq x id) xs (ids_behind id xs) (behind_jobs id (map (job_of l t) xs)) (same_behind l t id xs)

absorbs : (b c : Bool) → (b || (c && b)) ≡ b
absorbs true c = refl
absorbs false true = refl
absorbs false false = refl

fresh_step : (l : Ledger) (t : ℕ) (id x : Id) (b : Bool) (any : Bool) → id_eq id x ≡ b → ((b && (starts_of l x t == 0)) || (any && (starts_of l id t == 0))) ≡ ((b || any) && (starts_of l id t == 0))
fresh_step l t id x false any e = refl
fresh_step l t id x true any e = ap (λ y. (starts_of l y t == 0) || (any && (starts_of l id t == 0))) (sym (id_eq-true id x e)) ∙ absorbs (starts_of l id t == 0) any

same_fresh : (l : Ledger) (t : ℕ) (id : Id) (ids : List Id) → is_fresh_among (map (job_of l t) ids) id ≡ (list_any (id_eq id) ids && (starts_of l id t == 0))
same_fresh l t id [] = refl
same_fresh l t id (x ∷ xs) =
    ap (λ b. (id_eq id x && (starts_of l x t == 0)) || b) (same_fresh l t id xs)
    ∙ fresh_step l t id x (id_eq id x) (list_any (id_eq id) xs) refl

same_pays : {w : World} {c : Core} {l : Ledger} → AgreesButScan w c l → (t : ℕ) (parent : Id) (need : ℕ) → pays_in c.params (job_of l t parent) (job_left l parent t) need ≡ pays w l t parent need
same_pays {w = w} {c = c} {l = l} h t parent need =
    ap (λ (s : Settings).
    nat_le (need * (100 - s.slot_discount) * s.slot_cost + 100 * (s.slot_cost * charged l parent t)) (100 * (starts_of l parent t + s.slot_loan * s.slot_cost))
    && nat_le (s.slot_cost * need + s.slot_cost * charged l parent t) (starts_of l parent t + job_left l parent t)
    && nat_le (s.slot_cost * s.minimum_slots) (starts_of l parent t + job_left l parent t)) h.settings

and_split : (a f s c p : Bool) → (a && (f && s) && c && p) ≡ (a && f && s && c && p)
and_split true f s c p = refl
and_split false f s c p = refl

same_candidate : {w : World} {c : Core} {l : Ledger} → AgreesButScan w c l → (t : ℕ) (parent id : Id) →
    is_candidate_in c t (behind_jobs parent (jobs_at c t)) (job_of l t parent) id ≡ is_candidate w l t parent id
same_candidate {w = w} {c = c} {l = l} h t parent id =
    ap (λ (s : Settings). not (s.slot_cost == 0) && is_fresh_among (behind_jobs parent (jobs_at c t)) id && can_start_in c t id && pays_in c.params (job_of l t parent) (job_left_in c t parent) (job_left_in c t id)) h.settings
    ∙ ap (λ f. not (w.settings.slot_cost == 0) && f && can_start_in c t id && pays_in c.params (job_of l t parent) (job_left_in c t parent) (job_left_in c t id))
    (ap (λ js. is_fresh_among js id) (ap (behind_jobs parent) (same_jobs_at h t) ∙ same_behind l t parent (line_of l t)) ∙ same_fresh l t id (ids_behind parent (line_of l t)))
    ∙ ap (λ b. not (w.settings.slot_cost == 0) && (list_any (id_eq id) (ids_behind parent (line_of l t)) && (starts_of l id t == 0)) && b && pays_in c.params (job_of l t parent) (job_left_in c t parent) (job_left_in c t id)) (same_can_start h t id)
    ∙ ap (λ n. not (w.settings.slot_cost == 0) && (list_any (id_eq id) (ids_behind parent (line_of l t)) && (starts_of l id t == 0)) && can_start w l t id && pays_in c.params (job_of l t parent) n (job_left_in c t id)) (same_job_left h t parent)
    ∙ ap (λ n. not (w.settings.slot_cost == 0) && (list_any (id_eq id) (ids_behind parent (line_of l t)) && (starts_of l id t == 0)) && can_start w l t id && pays_in c.params (job_of l t parent) (job_left l parent t) n) (same_job_left h t id)
    ∙ ap (λ b. not (w.settings.slot_cost == 0) && (list_any (id_eq id) (ids_behind parent (line_of l t)) && (starts_of l id t == 0)) && can_start w l t id && b) (same_pays h t parent (job_left l id t))
    ∙ and_split (not (w.settings.slot_cost == 0)) (list_any (id_eq id) (ids_behind parent (line_of l t))) (starts_of l id t == 0) (can_start w l t id) (pays w l t parent (job_left l id t))

abbrev arrival_at : Option Message → ℕ
arrival_at o = option_map_or (λ m. m.arrival) o 0

abbrev age_on : ℕ → Option Message → ℕ
age_on n o = option_map_or (λ m. n - m.arrival) o 0

aged : (n : ℕ) (o : Option Message) → option_map_or (λ m. is_active m.place) o false ≡ true → n - arrival_at o ≡ age_on n o
aged n None h = cc
aged n (Some m) h = refl

same_age : {w : World} {c : Core} {l : Ledger} → AgreesButScan w c l → (x : Admitted) → is_present l x ≡ true → c.clock.seconds - (slot_of l x).arrival ≡ age l x.id
same_age {l = l} h x there = ap (λ n. n - arrival_at (message_of l.book x.id)) h.clock ∙ aged l.now (message_of l.book x.id) there

same_better : {w : World} {c : Core} {l : Ledger} → AgreesButScan w c l → (t : ℕ) (x y : Admitted) → is_present l x ≡ true → is_present l y ≡ true →
    is_better_in c t (slot_of l x) (slot_of l y) ≡ is_better l t x.id y.id
same_better {c = c} {l = l} h t x y px py =
    ap (λ n. nat_lt ((n + 1) * job_left_in c t x.id) ((c.clock.seconds - (slot_of l x).arrival + 1) * job_left_in c t y.id)) (same_age h y py)
    ∙ ap (λ n. nat_lt ((age l y.id + 1) * job_left_in c t x.id) ((n + 1) * job_left_in c t y.id)) (same_age h x px)
    ∙ ap (λ n. nat_lt ((age l y.id + 1) * n) ((age l x.id + 1) * job_left_in c t y.id)) (same_job_left h t x.id)
    ∙ ap (λ n. nat_lt ((age l y.id + 1) * job_left l x.id t) ((age l x.id + 1) * n)) (same_job_left h t y.id)

-- the admitted message that preempts
abbrev best_admitted : World → Ledger → ℕ → Id → Option Admitted
best_admitted w l t parent = least (λ (a b : Admitted). is_better l t a.id b.id) (filter (λ (a : Admitted). is_candidate w l t parent a.id) l.admitted)

same_best : {w : World} {c : Core} {l : Ledger} → AgreesButScan w c l → IsTrue (list_all (is_present l) l.admitted) → (t : ℕ) (parent : Id) →
    best_in c t (behind_jobs parent (jobs_at c t)) (job_of l t parent) ≡ option_map (slot_of l) (best_admitted w l t parent)
same_best {w = w} {c = c} {l = l} h p t parent =
    let test : Slot → Bool = λ (s : Slot). is_candidate_in c t (behind_jobs parent (jobs_at c t)) (job_of l t parent) s.id in
    let passes : Admitted → Bool = λ (a : Admitted). is_candidate w l t parent a.id in
    ap (λ (ss : List Slot). least (is_better_in c t) (filter test ss)) h.admitted
    ∙ ap (least (is_better_in c t)) (filter-map test (slot_of l) l.admitted ∙ ap (map (slot_of l)) (filter-same (λ a. test (slot_of l a)) passes (λ (a : Admitted). same_candidate h t parent a.id) l.admitted))
    ∙ least-map (is_better_in c t) (slot_of l) (filter passes l.admitted)
    ∙ ap (option_map (slot_of l)) (least-same (λ a b. is_better_in c t (slot_of l a) (slot_of l b)) (λ (a b : Admitted). is_better l t a.id b.id) (is_present l) (same_better h t)
    (filter passes l.admitted) (list_all-filter (is_present l) passes l.admitted p))

best_is : (w : World) (l : Ledger) (t : ℕ) (parent : Id) → best w l t parent ≡ option_map (λ (a : Admitted). a.id) (best_admitted w l t parent)
best_is w l t parent =
    ap (least (is_better l t)) (filter-map (is_candidate w l t parent) (λ (a : Admitted). a.id) l.admitted)
    ∙ least-map (is_better l t) (λ (a : Admitted). a.id) (filter (λ (a : Admitted). is_candidate w l t parent a.id) l.admitted)

abbrev last_of : Option Served → ℕ
last_of o = option_map_or (λ s. s.last) o 0

same_last : {w : World} {c : Core} {l : Ledger} → AgreesButScan w c l → (r : Row) → last_start_in c r ≡ last_start l r
same_last h r = ap (λ (vs : List Served). last_of (find (λ s. id_eq s.id r.id && site_eq s.site r.site) vs)) h.served

all_true : {A : Type 0} (xs : List A) → list_all (λ (x : A). true) xs ≡ true
all_true [] = refl
all_true (x ∷ xs) = all_true xs

same_row : {w : World} {c : Core} {l : Ledger} → AgreesButScan w c l → (t : ℕ) (id : Id) → next_row_in c t id ≡ next_row w l t id
same_row {w = w} {c = c} {l = l} h t id =
    ap (λ (rs : List Row). least (λ a b. nat_lt (last_start_in c a) (last_start_in c b)) (filter (rows_for c id t) rs)) h.waiting
    ∙ ap (least (λ a b. nat_lt (last_start_in c a) (last_start_in c b))) (filter-same (rows_for c id t) (rows_of w l id t) (same_for h id t) l.waiting)
    ∙ least-same (λ a b. nat_lt (last_start_in c a) (last_start_in c b)) (λ a b. nat_lt (last_start l a) (last_start l b)) (λ (r : Row). true)
    (λ a b p q. ap (λ n. nat_lt n (last_start_in c b)) (same_last h a) ∙ ap (nat_lt (last_start l a)) (same_last h b))
    (filter (rows_of w l id t) l.waiting) (all_true (filter (rows_of w l id t) l.waiting))

start_found : {w : World} {c : Core} {l : Ledger} → AgreesButScan w c l → (o : Option Row) → IsRule c (option_map (start_of_row c) o) (option_map (start_of l) o)
start_found h None = refl
start_found {c = c} {l = l} h (Some r) =
    (entries.Start (c.starts + 1) r.id r.site r.positions, (r.positions, refl), ap (λ n. Some (entries.Start (n + 1) r.id r.site r.positions)) (sym h.starts))

start_of_job : {w : World} {c : Core} {l : Ledger} → AgreesButScan w c l → (t : ℕ) (id : Id) → IsRule c (start_in c t id) (option_map (start_of l) (next_row w l t id))
start_of_job {w = w} {c = c} {l = l} h t id =
    subst (λ o. IsRule c (option_map (start_of_row c) o) (option_map (start_of l) (next_row w l t id))) (sym (same_row h t id)) (start_found h (next_row w l t id))

abbrev preempt_on : World → Ledger → ℕ → Id → Option Id → Option Entry
preempt_on w l t parent o = option_map_or (λ child. Some (entries.Preempt child parent t (job_left l child t))) o (option_map (start_of l) (next_row w l t parent))

least_is : (a b : ℕ) → a ≤ b → min a b ≡ a
least_is a b h = grind (arith, h)

-- the need of a message in memory is all that it has left
same_need : {w : World} {c : Core} {l : Ledger} → AgreesButScan w c l → IsMemoryConsistent w l → (t : ℕ) (x : Admitted) → IsIn x l.admitted → need_in c t (slot_of l x) ≡ job_left l x.id t
same_need {w = w} {c = c} {l = l} h m t x inside =
    ap (λ n. min n (slot_of l x).recipients) (same_job_left h t x.id) ∙ least_is (job_left l x.id t) (slot_of l x).recipients (job_left_few w l x t m inside)

preempt_found : {w : World} {c : Core} {l : Ledger} → AgreesButScan w c l → IsMemoryConsistent w l → (t : ℕ) (parent : Id) (o : Option Admitted) → ((x : Admitted) → o ≡ Some x → IsIn x l.admitted) →
    IsRule c (preempt_or c t (job_of l t parent) (option_map (slot_of l) o)) (preempt_on w l t parent (option_map (λ (a : Admitted). a.id) o))
preempt_found h m t parent None inside = start_of_job h t parent
preempt_found {c = c} {l = l} h m t parent (Some x) inside =
    (entries.Preempt x.id parent t (need_in c t (slot_of l x)), refl, ap (λ n. Some (entries.Preempt x.id parent t n)) (sym (same_need h m t x (inside x refl))))

best_inside : (w : World) (l : Ledger) (t : ℕ) (parent : Id) (x : Admitted) → best_admitted w l t parent ≡ Some x → IsIn x l.admitted
best_inside w l t parent x e =
    let passes : Admitted → Bool = λ (a : Admitted). is_candidate w l t parent a.id in
    (in_filtered passes x l.admitted (least_in (λ (a b : Admitted). is_better l t a.id b.id) x (filter passes l.admitted) e)).0

choose_law : {w : World} {c : Core} {l : Ledger} → AgreesButScan w c l → IsMemoryConsistent w l → (t : ℕ) (parent : Id) → IsRule c (choose_in c t (job_of l t parent)) (preempt_on w l t parent (best w l t parent))
choose_law {w = w} {c = c} {l = l} h p t parent =
    subst (λ o. IsRule c (preempt_or c t (job_of l t parent) o) (preempt_on w l t parent (best w l t parent))) (sym (same_best h p.present t parent))
    (subst (λ o. IsRule c (preempt_or c t (job_of l t parent) (option_map (slot_of l) (best_admitted w l t parent))) (preempt_on w l t parent o)) (sym (best_is w l t parent))
    (preempt_found h p t parent (best_admitted w l t parent) (best_inside w l t parent)))

abbrev choice_on : World → Ledger → ℕ → Option Id → Option Entry
choice_on w l t o = option_and_then (λ parent. preempt_on w l t parent (best w l t parent)) o

choice_found : {w : World} {c : Core} {l : Ledger} → AgreesButScan w c l → IsMemoryConsistent w l → (t : ℕ) (o : Option Id) → IsRule c (option_and_then (choose_in c t) (option_map (job_of l t) o)) (choice_on w l t o)
choice_found h p t None = refl
choice_found h p t (Some parent) = choose_law h p t parent

choice_law : {w : World} {c : Core} {l : Ledger} → AgreesButScan w c l → IsMemoryConsistent w l → (t : ℕ) → IsRule c (choice_in c t) (choice w l t)
choice_law {w = w} {c = c} {l = l} h p t =
    subst (λ o. IsRule c (option_and_then (choose_in c t) o) (choice w l t)) (sym (same_current h t)) (choice_found h p t (current w l t))

-- of two rules the first that has something
rule_or : (c : Core) (d f : Option Decision) (r s : Option Entry) → IsRule c d r → IsRule c f s → IsRule c (option_or d f) (option_or r s)
rule_or c None f r s h k = subst (λ o. IsRule c f (option_or o s)) (sym h) k
rule_or c (Some d) f r s h k = (h.0, h.1, ap (λ o. option_or o s) h.2)

first_step : (o : Option Entry) (rest : List Entry) → slice_get (cons_option o rest) 0 ≡ option_or o (slice_get rest 0)
first_step None rest = refl
first_step (Some e) rest = refl

-- the choice of a line, by its transport
abbrev line_choice : World → Ledger → (ℕ × List Id) → Option Entry
line_choice w l line = choice w l line.0

choices_law : {w : World} {c : Core} {l : Ledger} → AgreesButScan w c l → IsMemoryConsistent w l → (n : ℕ) (ls : List (List Id)) → IsRule c (choices_from c n (length ls)) (first_some (line_choice w l) (enumerate_from n ls))
choices_law h p n [] = refl
choices_law {w = w} {c = c} {l = l} h p n (ids ∷ ls) =
    subst (λ o. IsRule c (choices_from c n (suc (length ls))) o) (sym (first_step (choice w l n) (filter_map (line_choice w l) (enumerate_from (n + 1) ls))))
    (rule_or c (choice_in c n) (choices_from c (n + 1) (length ls)) (choice w l n) (first_some (line_choice w l) (enumerate_from (n + 1) ls)) (choice_law h p n) (choices_law h p (n + 1) ls))

limit_law : (c : Core) (b : Bool) (d : Option Decision) (r : Option Entry) → IsRule c d r → IsRule c (if b then d else None) (if b then r else None)
limit_law c true d r h = h
limit_law c false d r h = refl

pub start_law : {w : World} {c : Core} {l : Ledger} → AgreesButScan w c l → IsMemoryConsistent w l → IsRule c (next_start_in c) (start_rule w l)
start_law {w = w} {c = c} {l = l} h p =
    subst (λ n. IsRule c (if nat_lt n (2 ^ 48) then choices_from c 0 c.transports else None) (start_rule w l)) (sym h.starts)
    (subst (λ n. IsRule c (if nat_lt (starts l) (2 ^ 48) then choices_from c 0 n else None) (start_rule w l)) (sym h.count)
    (limit_law c (nat_lt (starts l) (2 ^ 48)) (choices_from c 0 (length l.lines)) (first_some (line_choice w l) (enumerate_from 0 l.lines)) (choices_law h p 0 l.lines)))
