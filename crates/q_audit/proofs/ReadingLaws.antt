-- What an audit has read, entry by entry.
use Rattle.std.proofs.Common.{◌≡◌, ℕ, zero, suc, ◌+◌, ◌-◌, ◌^◌, ◌<◌, ◌≤◌, ◌++◌, Bool, true, false, List, [], ◌∷◌, map, length, take, Option, Some, None, refl, sym, ap, ◌∙◌, subst, arith, lt-ltb, if◌then◌else◌}
use Rattle.std.proofs.lemmas.Bool.{and_from, and_parts}
use Rattle.std.proofs.lemmas.List.{length-append}
use Rattle.std.specs.List.{list_all, list_any}
use Rattle.std.specs.Option.{option_map_or}
use Rattle.std.specs.Prelude.{◌&&◌, is_some, nat_lt, slice_get}
use Rattle.q_audit.proofs.BegunLaws.{delays_of_fronts_whole, jobs_told}
use Rattle.q_audit.proofs.DelayLaws.{jobs_kept, jobs_same}
use Rattle.q_audit.proofs.FrontLaws.{shorter}
use Rattle.q_audit.specs.Breaking.{IsBroken}
use Rattle.q_audit.specs.Delays.{Delay, delays, Preempted, preempted_by}
use Rattle.q_audit.specs.Reading.{AuditState, IsBreach, is_short, Judges, KeepsUp, Reads, table_in}
use Rattle.q_audit.specs.ReportLaws.{capped, CountsRecipients, has_few, ledger_before}
use Rattle.q_audit.specs.Reports.{ReportsBroken, ReportsLawful}
use Rattle.q_audit.specs.ReportTexts.{broken_text, lawful_text}
use Rattle.q_audit.specs.Tallied.{delay_of, is_of, Job, job_with, jobs, taken_up, with_opened}
use Rattle.q_audit.specs.declared.audit.Breach.{Breach}
use Rattle.q_fronts.specs.Fronts.{IsFront, IsLedgerAfter}
use Rattle.q_laws.specs.Consistency.{IsUsable}
use Rattle.q_ledger.specs.Holding.{Holds, IsBrokenBy}
use Rattle.q_model.specs.Ledger.{Ledger}
use Rattle.q_model.specs.Settings.{World}
use Rattle.q_model.specs.Step.{after_all}
use Rattle.q_model.specs.declared.entry.Entry.{Entry}
use Rattle.q_settings.specs.Ranges.{IsInRange}
use Rattle.q_tallies.proofs.CapLaws.{exact}
use Rattle.q_tallies.specs.Exact.{fresh}

usable : (w : World) → IsInRange w.settings → IsUsable w
usable w h = record { recipient_minimum = h.recipient_minimum.0; mark_sync_limit = h.mark_sync_limit.0 }

-- ---- recipients of jobs

short_all : (p : Job → Bool) (f : Job → Job) (js : List Job) → ((j : Job) → p (f j) ≡ p j) → list_all p js ≡ true → list_all p (map f js) ≡ true
short_all p f [] same h = refl
short_all p f (j ∷ js) same h =
    let two = and_parts (p j) (list_all p js) h in
    and_from (p (f j)) (list_all p (map f js)) (same j ∙ two.0) (short_all p f js same two.1)

short_joined : (p : Job → Bool) (xs ys : List Job) → list_all p xs ≡ true → list_all p ys ≡ true → list_all p (xs ++ ys) ≡ true
short_joined p [] ys h k = k
short_joined p (x ∷ xs) ys h k = let two = and_parts (p x) (list_all p xs) h in and_from (p x) (list_all p (xs ++ ys)) two.0 (short_joined p xs ys two.1 k)

short_opened : (e : Entry) (n : ℕ) (js : List Job) → n < 2 ^ 64 → list_all is_short (option_map_or (taken_up js n) (preempted_by e) []) ≡ true
short_opened e n js few = on (preempted_by e)
  where
    one : (p : Preempted) (b : Bool) → list_all is_short (if b then [] else record {
      tally = record { id = p.id; transport = p.transport; counted = fresh };
      recipients = n;
    } ∷ []) ≡ true
    one p true = refl
    one p false = and_from (nat_lt n (2 ^ 64)) true (lt-ltb n (2 ^ 64) few) refl

    on : (o : Option Preempted) → list_all is_short (option_map_or (taken_up js n) o []) ≡ true
    on None = refl
    on (Some p) = one p (list_any (is_of p.id p.transport) js)

pub short_taken : (e : Entry) (n : ℕ) (js : List Job) → n < 2 ^ 64 → list_all is_short js ≡ true → list_all is_short (map (job_with e) (with_opened e n js)) ≡ true
short_taken e n js few h =
    short_all is_short (job_with e) (with_opened e n js) (λ j. refl)
    (short_joined is_short js (option_map_or (taken_up js n) (preempted_by e) []) h (short_opened e n js few))

-- ---- one entry more

pub lawful_next : (w : World) (old new : AuditState) (es : List Entry) (e : Entry) (n : ℕ) → KeepsUp w old es → Holds w new.recount (es ++ e ∷ []) → new.jobs ≡ map (job_with e) (with_opened e n old.jobs)
    → n < 2 ^ 64 → ((l : Ledger) → IsLedgerAfter w es l → CountsRecipients l e n) → KeepsUp w new (es ++ e ∷ [])
lawful_next w old new es e n keeps holds taken few counts = record {
  holds = holds;
  jobs = λ f.
      let g = shorter w es (e ∷ []) f in
      let l = ledger_before f in
      taken
      ∙ ap (λ (js : List Job). map (job_with e) (with_opened e n js)) (keeps.jobs g)
      ∙ jobs_kept w l es e n (jobs_told w es g (usable w holds.range)) (counts (after_all w l es) (record { front = g; is = refl }));
  short = ap (list_all is_short) taken ∙ short_taken e n old.jobs few keeps.short;
}

get_last : (es : List Entry) (e : Entry) → slice_get (es ++ e ∷ []) (length es) ≡ Some e
get_last [] e = refl
get_last (x ∷ xs) e = get_last xs e

take_first : (es fs : List Entry) → take (length es) (es ++ fs) ≡ es
take_first [] fs = refl
take_first (x ∷ xs) fs = ap (λ (ys : List Entry). x ∷ ys) (take_first xs fs)

pub broken_next : (w : World) (es : List Entry) (e : Entry) (b : Breach) → IsFront w es → IsBrokenBy w es e b.rule → b.line ≡ length es + 1 → IsBreach w (es ++ e ∷ []) b
broken_next w es e b front breaks is = record {
  first = omega (arith, is);
  broken = subst (λ (n : ℕ). IsBroken w (es ++ e ∷ []) n b.rule) (count b.line (length es) is) (record {
    entry = e;
    is = get_last es e;
    front = subst (IsFront w) (sym (take_first es (e ∷ []))) front;
    breaks = λ f. breaks.breaks (subst (λ (xs : List Entry). IsFront w (xs ++ e ∷ [])) (take_first es (e ∷ [])) f);
    named = λ l h. breaks.named l (subst (λ (xs : List Entry). IsLedgerAfter w xs l) (take_first es (e ∷ [])) h);
  });
}
  where
    count : (n m : ℕ) → n ≡ m + 1 → m ≡ n - 1
    count n m h = omega (arith, h)

get_longer : (es fs : List Entry) (n : ℕ) (e : Entry) → slice_get es n ≡ Some e → slice_get (es ++ fs) n ≡ Some e
get_longer [] fs n e h = absurd cc
get_longer (x ∷ xs) fs zero e h = h
get_longer (x ∷ xs) fs (suc n) e h = get_longer xs fs n e h

take_longer : (es fs : List Entry) (n : ℕ) (e : Entry) → slice_get es n ≡ Some e → take n es ≡ take n (es ++ fs)
take_longer [] fs n e h = absurd cc
take_longer (x ∷ xs) fs zero e h = refl
take_longer (x ∷ xs) fs (suc n) e h = ap (λ (ys : List Entry). x ∷ ys) (take_longer xs fs n e h)

pub breach_stays : (w : World) (es fs : List Entry) (b : Breach) → IsBreach w es b → IsBreach w (es ++ fs) b
breach_stays w es fs b h =
    let k = h.broken in
    let same = take_longer es fs (b.line - 1) k.entry k.is in
    record {
      first = h.first;
      broken = record {
        entry = k.entry;
        is = get_longer es fs (b.line - 1) k.entry k.is;
        front = subst (IsFront w) same k.front;
        breaks = λ f. k.breaks (subst (λ (xs : List Entry). IsFront w (xs ++ k.entry ∷ [])) (sym same) f);
        named = λ l after. k.named l (subst (λ (xs : List Entry). IsLedgerAfter w xs l) (sym same) after);
      };
    }

-- ---- reports

few_delays : (js : List Job) (ds : List Delay) → map delay_of js ≡ map capped ds → list_all is_short js ≡ true → list_all has_few ds ≡ true
few_delays js ds same h = sym (caps ds) ∙ ap (list_all has_few) (sym same) ∙ told js ∙ h
  where
    caps : (xs : List Delay) → list_all has_few (map capped xs) ≡ list_all has_few xs
    caps [] = refl
    caps (x ∷ xs) = ap (λ (b : Bool). has_few x && b) (caps xs)

    told : (xs : List Job) → list_all has_few (map delay_of xs) ≡ list_all is_short xs
    told [] = refl
    told (x ∷ xs) = ap (λ (b : Bool). is_short x && b) (told xs)

pub delays_told : (w : World) (a : AuditState) (es : List Entry) (f : IsFront w es) → KeepsUp w a es → map delay_of a.jobs ≡ delays w (ledger_before f) es
delays_told w a es f h =
    let l = ledger_before f in
    let range = h.holds.range in
    let capped_ones : map delay_of a.jobs ≡ map capped (delays w l es) = ap (map delay_of) (h.jobs f) ∙ jobs_same exact w l es in
    capped_ones ∙ delays_of_fronts_whole w es f (usable w range) range.slot_cost.1 (few_delays a.jobs (delays w l es) capped_ones h.short)

pub told_lawful : (w : World) (a : AuditState) (es : List Entry) (f : IsFront w es) (text : List ℕ) → KeepsUp w a es → a.lines ≡ length es → text ≡ lawful_text (table_in a) a.lines (map delay_of a.jobs) → ReportsLawful w es text
told_lawful w a es f text h count told = record {
  front = f;
  is = told
      ∙ ap (λ (v : World). lawful_text v.table a.lines (map delay_of a.jobs)) h.holds.world
      ∙ ap (λ (n : ℕ). lawful_text w.table n (map delay_of a.jobs)) count
      ∙ ap (lawful_text w.table (length es)) (delays_told w a es f h);
}

pub told_broken : (w : World) (es : List Entry) (b : Breach) (text : List ℕ) → IsBreach w es b → text ≡ broken_text b.line b.rule → ReportsBroken w es text
told_broken w es b text h told = record {
  before = b.line - 1;
  rule = b.rule;
  broken = h.broken;
  is = told ∙ ap (λ (n : ℕ). broken_text n b.rule) (count b.line h.first);
}
  where
    count : (n : ℕ) → 1 ≤ n → n ≡ (n - 1) + 1
    count n h = omega (arith, h)

-- ---- lines

-- its line is counted
pub counted_line : (w : World) (a : AuditState) (es : List Entry) (e : Entry) (n : ℕ) → Judges w a es e → n ≡ length es + 1 → Reads w (record a { lines = n }) (es ++ e ∷ [])
counted_line w a es e n h is = record {
  world = h.world;
  lines = is ∙ sym (length-append es (e ∷ []));
  lawful = λ none. let k = h.lawful none in record { holds = k.holds; jobs = k.jobs; short = k.short };
  broken = h.broken;
}

-- behind a broken entry no other is judged
pub passed_over : (w : World) (a : AuditState) (es : List Entry) (e : Entry) → Reads w a es → is_some a.breach ≡ true → Judges w a es e
passed_over w a es e h some = record {
  world = h.world;
  lines = h.lines;
  lawful = λ none. absurd (no a.breach none some);
  broken = λ b is. breach_stays w es (e ∷ []) b (h.broken b is);
}
  where
    no : (o : Option Breach) → o ≡ None → is_some o ≡ true → ⊥
    no None e h = absurd cc
    no (Some b) e h = absurd cc
