-- What is kept of the jobs tells which of them were preempted since their messages came into memory.
use Rattle.std.proofs.Common.{◌≡◌, ℕ, ◌+◌, ◌++◌, cond, take_while, subst, eqb-true, eq-eqb, Bool, true, false, List, [], ◌∷◌, Some, None, not, refl, sym, ap, ◌∙◌, if◌then◌else◌}
use Rattle.std.proofs.lemmas.Bool.{and_parts}
use Rattle.std.proofs.lemmas.List.Sums.{take_while-cons}
use Rattle.std.specs.List.{list_any}
use Rattle.std.specs.Prelude.{◌==◌, ◌&&◌, ◌||◌, is_some}
use Rattle.q_audit.proofs.SinceLaws.{preempted_more}
use Rattle.q_audit.specs.Delays.{recipients_of, was_preempted}
use Rattle.q_audit.specs.Tallied.{is_of, Job, job_by, jobs}
use Rattle.q_inflation.proofs.Falling.{entry_may}
use Rattle.q_laws.proofs.Kept.{entry_consistent}
use Rattle.q_laws.specs.Consistency.{IsConsistent}
use Rattle.q_laws.specs.Traces.{AreEntriesOf}
use Rattle.q_laws.proofs.Tidied.{tidy_scan_is}
use Rattle.q_model.proofs.IdLaws.{id_eq-refl, id_eq-true}
use Rattle.q_model.specs.Accounts.{is_admit_of}
use Rattle.q_model.specs.Past.{is_life}
use Rattle.q_model.specs.Ids.{id_eq}
use Rattle.q_model.specs.Ledger.{Ledger}
use Rattle.q_model.specs.PreemptingStarts.{child_of, ends_job}
use Rattle.q_model.specs.Settings.{World}
use Rattle.q_model.specs.Step.{after, after_all, change, noted}
use Rattle.q_model.specs.declared.entry.Entry.{Entry}
use Rattle.q_model.specs.declared.id.Id.{Id}
use Rattle.q_model.specs.declared.entry.Entry.TheVariants as entries
use Rattle.q_tallies.specs.Exact.{counted_all, fresh}
use Rattle.q_tallies.specs.Tallying.{counted, Counted, times_of_parent, with_preemption, with_start}
use Rattle.q_tallies.specs.Ways.{capped_sum}

-- ---- a job is over by an entry that ends it

abbrev pub lasts : Id → List Entry → Bool
lasts id es = not (list_any (ends_job id) es)

or_none : (b : Bool) → b ≡ (b || false)
or_none true = refl
or_none false = refl

or_all : (b : Bool) → true ≡ (b || true)
or_all true = refl
or_all false = refl

or_more : (a b c : Bool) → ((a || b) || c) ≡ (a || (b || c))
or_more true b c = refl
or_more false b c = refl

same_over : (b : Bool) (c d : Counted) → c.over ≡ d.over → (if b then c else d).over ≡ d.over
same_over true c d h = h
same_over false c d h = refl

over_by : (id : Id) (t : ℕ) (e : Entry) (c : Counted) → (counted capped_sum id t e c).over ≡ (c.over || ends_job id e)
over_by id t (entries.Life generation mode) c = or_all c.over
over_by id t (entries.Admit i) c = ap (λ (b : Bool). c.over || b) (or_none (id_eq i id))
over_by id t (entries.Start number i site ps) c = same_over (site.transport == t) (with_start capped_sum i c) c refl ∙ or_none c.over
over_by id t (entries.Preempt child parent u need) c =
    same_over (u == t) (with_preemption capped_sum id child parent c) c (way (times_of_parent capped_sum id parent c == 0)) ∙ or_none c.over
  where
    way : (b : Bool) → (if b then c else record c { ways = c.ways ++ record { id = child; times = times_of_parent capped_sum id parent c } ∷ [] }).over ≡ c.over
    way true = refl
    way false = refl
over_by id t (entries.At moment) c = or_none c.over
over_by id t (entries.Arrive i sender to content) c = or_none c.over
over_by id t (entries.Back i) c = or_none c.over
over_by id t (entries.Load i from to) c = or_none c.over
over_by id t (entries.Reply number state os) c = or_none c.over
over_by id t (entries.Skip i site ps) c = or_none c.over
over_by id t (entries.Log i failure) c = or_none c.over
over_by id t (entries.Mark i position) c = or_none c.over
over_by id t (entries.Sync i) c = or_none c.over
over_by id t (entries.Defer i due) c = or_none c.over
over_by id t (entries.Bounce i) c = or_none c.over
over_by id t (entries.Remove i) c = or_none c.over
over_by id t (entries.Corrupt i) c = or_none c.over
over_by id t (entries.Trigger kind) c = or_none c.over
over_by id t entries.End c = or_none c.over

over_all : (id : Id) (t : ℕ) (es : List Entry) (c : Counted) → (counted_all capped_sum id t es c).over ≡ (c.over || list_any (ends_job id) es)
over_all id t [] c = or_none c.over
over_all id t (e ∷ es) c =
    over_all id t es (counted capped_sum id t e c)
    ∙ ap (λ (b : Bool). b || list_any (ends_job id) es) (over_by id t e c)
    ∙ or_more c.over (ends_job id e) (list_any (ends_job id) es)

-- ---- what ends a job ends what was told of it

after_past : (w : World) (l : Ledger) (e : Entry) → (after w l e).past ≡ e ∷ (change w l e).past
unfolding after
after_past w l e = ap (λ (x : Ledger). x.past) (tidy_scan_is (noted e (change w l e))).2

abbrev preempts : Id → ℕ → List Entry → Bool
preempts id t past = list_any (λ e. is_some (child_of id t e)) (take_while (λ e. not (is_admit_of id e)) past)

newest : (id : Id) (t : ℕ) (e : Entry) (past : List Entry) (b : Bool) → is_admit_of id e ≡ b → preempts id t (e ∷ past) ≡ (not b && (is_some (child_of id t e) || preempts id t past))
newest id t e past true h =
    ap (list_any (λ x. is_some (child_of id t x)))
    (take_while-cons (λ x. not (is_admit_of id x)) e past ∙ ap (λ b. cond (not b) (e ∷ take_while (λ x. not (is_admit_of id x)) past) []) h)
newest id t e past false h =
    ap (list_any (λ x. is_some (child_of id t x)))
    (take_while-cons (λ x. not (is_admit_of id x)) e past ∙ ap (λ b. cond (not b) (e ∷ take_while (λ x. not (is_admit_of id x)) past) []) h)

none_opened : (id : Id) (l : Ledger) (e : Entry) (es : List Entry) → ends_job id e ≡ true → job_by l e es ≡ []
none_opened id l (entries.Preempt child parent u need) es h = absurd cc
none_opened id l (entries.Life generation mode) es h = refl
none_opened id l (entries.Admit i) es h = refl
none_opened id l (entries.Start number i site ps) es h = refl
none_opened id l (entries.At moment) es h = refl
none_opened id l (entries.Arrive i sender to content) es h = refl
none_opened id l (entries.Back i) es h = refl
none_opened id l (entries.Load i from to) es h = refl
none_opened id l (entries.Reply number state os) es h = refl
none_opened id l (entries.Skip i site ps) es h = refl
none_opened id l (entries.Log i failure) es h = refl
none_opened id l (entries.Mark i position) es h = refl
none_opened id l (entries.Sync i) es h = refl
none_opened id l (entries.Defer i due) es h = refl
none_opened id l (entries.Bounce i) es h = refl
none_opened id l (entries.Remove i) es h = refl
none_opened id l (entries.Corrupt i) es h = refl
none_opened id l (entries.Trigger kind) es h = refl
none_opened id l entries.End es h = refl

life_past : (w : World) (l : Ledger) (e : Entry) → is_life e ≡ true → (change w l e).past ≡ []
life_past w l (entries.Life generation mode) h = refl
life_past w l (entries.Preempt child parent u need) h = absurd cc
life_past w l (entries.Admit i) h = absurd cc
life_past w l (entries.Start number i site ps) h = absurd cc
life_past w l (entries.At moment) h = absurd cc
life_past w l (entries.Arrive i sender to content) h = absurd cc
life_past w l (entries.Back i) h = absurd cc
life_past w l (entries.Load i from to) h = absurd cc
life_past w l (entries.Reply number state os) h = absurd cc
life_past w l (entries.Skip i site ps) h = absurd cc
life_past w l (entries.Log i failure) h = absurd cc
life_past w l (entries.Mark i position) h = absurd cc
life_past w l (entries.Sync i) h = absurd cc
life_past w l (entries.Defer i due) h = absurd cc
life_past w l (entries.Bounce i) h = absurd cc
life_past w l (entries.Remove i) h = absurd cc
life_past w l (entries.Corrupt i) h = absurd cc
life_past w l (entries.Trigger kind) h = absurd cc
life_past w l entries.End h = absurd cc

life_child : (id : Id) (t : ℕ) (e : Entry) → is_life e ≡ true → is_some (child_of id t e) ≡ false
life_child id t (entries.Preempt child parent u need) h = absurd cc
life_child id t (entries.Life generation mode) h = refl
life_child id t (entries.Admit i) h = refl
life_child id t (entries.Start number i site ps) h = refl
life_child id t (entries.At moment) h = refl
life_child id t (entries.Arrive i sender to content) h = refl
life_child id t (entries.Back i) h = refl
life_child id t (entries.Load i from to) h = refl
life_child id t (entries.Reply number state os) h = refl
life_child id t (entries.Skip i site ps) h = refl
life_child id t (entries.Log i failure) h = refl
life_child id t (entries.Mark i position) h = refl
life_child id t (entries.Sync i) h = refl
life_child id t (entries.Defer i due) h = refl
life_child id t (entries.Bounce i) h = refl
life_child id t (entries.Remove i) h = refl
life_child id t (entries.Corrupt i) h = refl
life_child id t (entries.Trigger kind) h = refl
life_child id t entries.End h = refl

pub ended_fresh : (w : World) (l : Ledger) (e : Entry) (id : Id) (t : ℕ) → ends_job id e ≡ true → was_preempted (after w l e) id t ≡ false
ended_fresh w l e id t h = ap (preempts id t) (after_past w l e) ∙ which (is_admit_of id e) refl
  where
    which : (b : Bool) → is_admit_of id e ≡ b → preempts id t (e ∷ (change w l e).past) ≡ false
    which true admit = newest id t e (change w l e).past true admit
    which false admit =
        let life : is_life e ≡ true = ap (λ (b : Bool). b || is_life e) (sym admit) ∙ h in
        newest id t e (change w l e).past false admit
        ∙ ap (λ (es : List Entry). is_some (child_of id t e) || preempts id t es) (life_past w l e life)
        ∙ ap (λ (b : Bool). b || false) (life_child id t e life)

-- ---- a job that the entry is the first to preempt

any_joined : {A : Type 0} (p : A → Bool) (xs ys : List A) → list_any p (xs ++ ys) ≡ (list_any p xs || list_any p ys)
any_joined p [] ys = refl
any_joined p (x ∷ xs) ys = ap (λ (b : Bool). p x || b) (any_joined p xs ys) ∙ sym (or_more (p x) (list_any p xs) (list_any p ys))

abbrev opened_at : Ledger → List Entry → Id → ℕ → Job
opened_at l es id t = record {
  tally = record { id = id; transport = t; counted = counted_all capped_sum id t es fresh };
  recipients = recipients_of l id;
}

one_told : (id : Id) (t : ℕ) (wp : Bool) (j : Job) → list_any (is_of id t) (if wp then [] else j ∷ []) ≡ (not wp && is_of id t j)
one_told id t true j = refl
one_told id t false j = sym (or_none (is_of id t j))

all_true : (b : Bool) → (b && true && true) ≡ b
all_true true = refl
all_true false = refl

not_both : (x a b : Bool) → (a && b) ≡ false → (x && a && b) ≡ false
not_both true true true h = absurd cc
not_both true true false h = refl
not_both true false b h = refl
not_both false true b h = refl
not_both false false b h = refl

both_not : (wp : Bool) → (not wp && false) ≡ false
both_not true = refl
both_not false = refl

same_told : (l : Ledger) (child : Id) (need : ℕ) (es : List Entry) (id : Id) (t : ℕ) →
    list_any (is_of id t) (job_by l (entries.Preempt child id t need) es) ≡ (not (was_preempted l id t) && lasts id es)
same_told l child need es id t =
    let e = entries.Preempt child id t need in
    let over = over_all id t (e ∷ es) fresh in
    one_told id t (was_preempted l id t) (opened_at l (e ∷ es) id t)
    ∙ ap (λ (b : Bool). not (was_preempted l id t) && (not b && id_eq id id && (t == t))) over
    ∙ ap (λ (b : Bool). not (was_preempted l id t) && (not (list_any (ends_job id) es) && b && (t == t))) (id_eq-refl id)
    ∙ ap (λ (b : Bool). not (was_preempted l id t) && (not (list_any (ends_job id) es) && true && b)) (eq-eqb t t refl)
    ∙ ap (λ (b : Bool). not (was_preempted l id t) && b) (all_true (not (list_any (ends_job id) es)))

first_told : (l : Ledger) (child p : Id) (u need : ℕ) (es : List Entry) (id : Id) (t : ℕ) →
    list_any (is_of id t) (job_by l (entries.Preempt child p u need) es) ≡ (is_some (child_of id t (entries.Preempt child p u need)) && not (was_preempted l id t) && lasts id es)
first_told l child p u need es id t = which (id_eq p id && (u == t)) refl
  where
    which : (b : Bool) → (id_eq p id && (u == t)) ≡ b → list_any (is_of id t) (job_by l (entries.Preempt child p u need) es)
        ≡ (is_some (if b then Some child else None) && not (was_preempted l id t) && lasts id es)
    which true h =
        let two = and_parts (id_eq p id) (u == t) h in
        subst (λ (v : ℕ). list_any (is_of id t) (job_by l (entries.Preempt child p v need) es) ≡ (not (was_preempted l id t) && lasts id es)) (sym (eqb-true u t two.1))
        (subst (λ (q : Id). list_any (is_of id t) (job_by l (entries.Preempt child q t need) es) ≡ (not (was_preempted l id t) && lasts id es)) (sym (id_eq-true p id two.0)) (same_told l child need es id t))
    which false h =
        let e = entries.Preempt child p u need in
        one_told id t (was_preempted l p u) (opened_at l (e ∷ es) p u)
        ∙ ap (λ (b : Bool). not (was_preempted l p u) && b) (not_both (not (counted_all capped_sum p u (e ∷ es) fresh).over) (id_eq p id) (u == t) h)
        ∙ both_not (was_preempted l p u)

opened_told : (l : Ledger) (e : Entry) (es : List Entry) (id : Id) (t : ℕ) → list_any (is_of id t) (job_by l e es) ≡ (is_some (child_of id t e) && not (was_preempted l id t) && lasts id es)
opened_told l (entries.Preempt child parent u need) es id t = first_told l child parent u need es id t
opened_told l (entries.Life generation mode) es id t = refl
opened_told l (entries.Admit i) es id t = refl
opened_told l (entries.Start number i site ps) es id t = refl
opened_told l (entries.At moment) es id t = refl
opened_told l (entries.Arrive i sender to content) es id t = refl
opened_told l (entries.Back i) es id t = refl
opened_told l (entries.Load i from to) es id t = refl
opened_told l (entries.Reply number state os) es id t = refl
opened_told l (entries.Skip i site ps) es id t = refl
opened_told l (entries.Log i failure) es id t = refl
opened_told l (entries.Mark i position) es id t = refl
opened_told l (entries.Sync i) es id t = refl
opened_told l (entries.Defer i due) es id t = refl
opened_told l (entries.Bounce i) es id t = refl
opened_told l (entries.Remove i) es id t = refl
opened_told l (entries.Corrupt i) es id t = refl
opened_told l (entries.Trigger kind) es id t = refl
opened_told l entries.End es id t = refl

-- ---- all entries

and_all : (b : Bool) → (b && true) ≡ b
and_all true = refl
and_all false = refl

and_none : (b : Bool) → (b && false) ≡ false
and_none true = refl
and_none false = refl

-- told of the first, told behind it, preempted before, and the job lasts
either_told : (child told wp lasting : Bool) → (((child && not wp && lasting) || told) || (wp && lasting)) ≡ (told || ((child || wp) && lasting))
either_told true true true lasting = refl
either_told true true false true = refl
either_told true true false false = refl
either_told false true wp lasting = refl
either_told true false true lasting = refl
either_told true false false true = refl
either_told true false false false = refl
either_told false false true lasting = refl
either_told false false false lasting = refl

pub told : (w : World) (l : Ledger) (es : List Entry) (id : Id) (t : ℕ) → IsConsistent w l → AreEntriesOf w l es
    → (list_any (is_of id t) (jobs w l es) || (was_preempted l id t && lasts id es)) ≡ was_preempted (after_all w l es) id t
unfolding after_all
told w l [] id t c h = and_all (was_preempted l id t)
told w l (e ∷ es) id t c h = which (ends_job id e) refl (told w (after w l e) es id t (entry_consistent w l e c h.0) h.1)
  where
    js : List Job
    js = jobs w (after w l e) es

    wp : Bool
    wp = was_preempted l id t

    which : (b : Bool) → ends_job id e ≡ b → (list_any (is_of id t) js || (was_preempted (after w l e) id t && not (list_any (ends_job id) es))) ≡ was_preempted (after_all w (after w l e) es) id t
        → (list_any (is_of id t) (job_by l e es ++ js) || (wp && not (ends_job id e || list_any (ends_job id) es))) ≡ was_preempted (after_all w (after w l e) es) id t
    which true ends rest =
        ap (λ (xs : List Job). list_any (is_of id t) (xs ++ js) || (wp && not (ends_job id e || list_any (ends_job id) es))) (none_opened id l e es ends)
        ∙ ap (λ (b : Bool). list_any (is_of id t) js || (wp && not (b || list_any (ends_job id) es))) ends
        ∙ ap (λ (b : Bool). list_any (is_of id t) js || b) (and_none wp)
        ∙ sym (ap (λ (b : Bool). list_any (is_of id t) js || (b && not (list_any (ends_job id) es))) (ended_fresh w l e id t ends))
        ∙ rest
    which false ends rest =
        ap (λ (b : Bool). b || (wp && not (ends_job id e || list_any (ends_job id) es))) (any_joined (is_of id t) (job_by l e es) js ∙ ap (λ (b : Bool). b || list_any (is_of id t) js) (opened_told l e es id t))
        ∙ ap (λ (b : Bool). ((is_some (child_of id t e) && not wp && not (list_any (ends_job id) es)) || list_any (is_of id t) js) || (wp && not (b || list_any (ends_job id) es))) ends
        ∙ either_told (is_some (child_of id t e)) (list_any (is_of id t) js) wp (not (list_any (ends_job id) es))
        ∙ sym (ap (λ (b : Bool). list_any (is_of id t) js || (b && not (list_any (ends_job id) es))) (preempted_more w l e id t c (entry_may w l e c h.0) ends))
        ∙ rest
