-- What an audit keeps of preempted jobs, entry by entry.
use Rattle.std.proofs.Common.{◌≡◌, ◌++◌, ◌∷◌, ◌∙◌, [], ℕ, Bool, true, false, List, Option, None, Some, map, refl, sym, ap, append_assoc, append-nil, if◌then◌else◌, subst}
use Rattle.std.specs.List.{list_any}
use Rattle.std.specs.Option.{option_map_or}
use Rattle.std.proofs.lemmas.List.{map-append}
use Rattle.q_audit.specs.Delays.{Delay, delay_by, delays, first_delay, Preempted, preempted_by, recipients_of, was_preempted}
use Rattle.q_audit.specs.ReportLaws.{capped, JobsAreDelays, JobsAreKept, JobsGoOn}
use Rattle.q_audit.specs.Tallied.{delay_of, first_job, is_of, Job, job_by, job_with, jobs, taken_up}
use Rattle.q_model.specs.declared.entry.Entry.{Entry}
use Rattle.q_model.specs.declared.id.Id.{Id}
use Rattle.q_model.specs.Ledger.{Ledger}
use Rattle.q_model.specs.PreemptingStarts.{preempting_starts}
use Rattle.q_model.specs.Step.{after, after_all}
use Rattle.q_tallies.specs.Exact.{counted_all, fresh, IsExact}
use Rattle.q_tallies.specs.Tallying.{Counted, counted}
use Rattle.q_tallies.specs.Ways.{capped_sum}

-- ---- one entry more

counted_more : (id : Id) (t : ℕ) (es : List Entry) (e : Entry) (c : Counted) → counted_all capped_sum id t (es ++ e ∷ []) c ≡ counted capped_sum id t e (counted_all capped_sum id t es c)
counted_more id t [] e c = refl
counted_more id t (d ∷ es) e c = counted_more id t es e (counted capped_sum id t d c)

-- a job that was counted so
abbrev job_at : Ledger → Preempted → Counted → Job
job_at l p c = record { tally = record { id = p.id; transport = p.transport; counted = c }; recipients = recipients_of l p.id }

if_more : {A B : Type 0} (b : Bool) (f : A → B) (x : A) (y : B) → y ≡ f x → (if b then [] else y ∷ []) ≡ map f (if b then [] else x ∷ [])
if_more true f x y e = refl
if_more false f x y e = ap (λ z. z ∷ []) e

first_more : (l : Ledger) (es : List Entry) (e : Entry) (p : Preempted) → first_job l (es ++ e ∷ []) p ≡ map (job_with e) (first_job l es p)
first_more l es e p =
    if_more (was_preempted l p.id p.transport) (job_with e) (job_at l p (counted_all capped_sum p.id p.transport es fresh)) (job_at l p (counted_all capped_sum p.id p.transport (es ++ e ∷ []) fresh))
    (ap (job_at l p) (counted_more p.id p.transport es e fresh))

opened_more : (l : Ledger) (es : List Entry) (e : Entry) (o : Option Preempted) → option_map_or (first_job l (es ++ e ∷ [])) o [] ≡ map (job_with e) (option_map_or (first_job l es) o [])
opened_more l es e None = refl
opened_more l es e (Some p) = first_more l es e p

pub jobs_more : JobsGoOn
unfolding after_all
jobs_more w l [] e = append-nil (job_by l e [])
jobs_more w l (d ∷ es) e =
    let old = jobs w (after w l d) es in
    let newest = job_by (after_all w (after w l d) es) e [] in
    ap (λ (x : List Job). x ++ jobs w (after w l d) (es ++ e ∷ [])) (opened_more l (d ∷ es) e (preempted_by d))
    ∙ ap (λ (x : List Job). map (job_with e) (job_by l d es) ++ x) (jobs_more w (after w l d) es e)
    ∙ sym (append_assoc (map (job_with e) (job_by l d es)) (map (job_with e) old) newest)
    ∙ ap (λ (x : List Job). x ++ newest) (sym (map-append (job_with e) (job_by l d es) old))

-- ---- what is told

abbrev delay_at : Ledger → Preempted → ℕ → Delay
delay_at l p n = record { id = p.id; transport = p.transport; recipients = recipients_of l p.id; starts = n }

if_same : {A B C : Type 0} (b : Bool) (f : A → C) (g : B → C) (x : A) (y : B) → f x ≡ g y → map f (if b then [] else x ∷ []) ≡ map g (if b then [] else y ∷ [])
if_same true f g x y e = refl
if_same false f g x y e = ap (λ z. z ∷ []) e

first_same : IsExact → (l : Ledger) (es : List Entry) (p : Preempted) → map delay_of (first_job l es p) ≡ map capped (first_delay l es p)
first_same exact l es p =
    if_same (was_preempted l p.id p.transport) delay_of capped (job_at l p (counted_all capped_sum p.id p.transport es fresh)) (delay_at l p (preempting_starts p.id p.transport es))
    (ap (delay_at l p) (exact p.id p.transport es))

opened_same : IsExact → (l : Ledger) (es : List Entry) (o : Option Preempted) → map delay_of (option_map_or (first_job l es) o []) ≡ map capped (option_map_or (first_delay l es) o [])
opened_same exact l es None = refl
opened_same exact l es (Some p) = first_same exact l es p

pub jobs_same : IsExact → JobsAreDelays
jobs_same exact w l [] = refl
jobs_same exact w l (e ∷ es) =
    map-append delay_of (job_by l e es) (jobs w (after w l e) es)
    ∙ ap (λ (x : List Delay). x ++ map delay_of (jobs w (after w l e) es)) (opened_same exact l (e ∷ es) (preempted_by e))
    ∙ ap (λ (x : List Delay). map capped (delay_by l e es) ++ x) (jobs_same exact w (after w l e) es)
    ∙ sym (map-append capped (delay_by l e es) (delays w (after w l e) es))

-- ---- what is taken up

if_taken : {A B : Type 0} (b : Bool) (f : A → B) (x : A) (y : B) → f x ≡ y → map f (if b then [] else x ∷ []) ≡ (if b then [] else y ∷ [])
if_taken true f x y e = refl
if_taken false f x y e = ap (λ z. z ∷ []) e

if_told : {A B : Type 0} (b d : Bool) (f : A → B) (x : A) (y : B) → b ≡ d → f x ≡ y → map f (if b then [] else x ∷ []) ≡ (if d then [] else y ∷ [])
if_told b d f x y same e = subst (λ (k : Bool). map f (if b then [] else x ∷ []) ≡ (if k then [] else y ∷ [])) same (if_taken b f x y e)

-- a job with so many recipients that was counted so
abbrev job_of : Preempted → Counted → ℕ → Job
job_of p c n = record { tally = record { id = p.id; transport = p.transport; counted = c }; recipients = n }

taken_first : (l : Ledger) (js : List Job) (e : Entry) (n : ℕ) (o : Option Preempted) → ((id : Id) (t : ℕ) → list_any (is_of id t) js ≡ was_preempted l id t) → ((p : Preempted) → o ≡ Some p → n ≡ recipients_of l p.id)
    → map (job_with e) (option_map_or (taken_up js n) o []) ≡ option_map_or (first_job l (e ∷ [])) o []
taken_first l js e n None tells has = refl
taken_first l js e n (Some p) tells has =
    let now = counted capped_sum p.id p.transport e fresh in
    if_told (list_any (is_of p.id p.transport) js) (was_preempted l p.id p.transport) (job_with e) (job_of p fresh n) (job_of p now (recipients_of l p.id)) (tells p.id p.transport)
    (ap (λ (m : ℕ). job_of p now m) (has p refl))

pub jobs_kept : JobsAreKept
jobs_kept w l es e n tells has =
    let js = jobs w l es in
    let l' = after_all w l es in
    map-append (job_with e) js (option_map_or (taken_up js n) (preempted_by e) [])
    ∙ ap (λ (x : List Job). map (job_with e) js ++ x) (taken_first l' js e n (preempted_by e) tells has)
    ∙ sym (jobs_more w l es e)
