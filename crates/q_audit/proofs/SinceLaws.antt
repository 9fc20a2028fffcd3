-- Of a job that wasn't preempted since its message came into memory: the ledger at that moment, and the entries since.
use Rattle.std.proofs.Common.{◌≡◌, ℕ, ◌++◌, Bool, true, false, List, [], ◌∷◌, length, Option, Some, None, not, refl, sym, ap, ◌∙◌, subst, cond, take_while}
use Rattle.std.proofs.lemmas.Bool.{and_from, and_parts, or_parts}
use Rattle.std.proofs.lemmas.List.Sums.{take_while-cons}
use Rattle.std.specs.List.{list_all, list_any}
use Rattle.std.specs.Prelude.{◌&&◌, ◌||◌, is_none, is_some}
use Rattle.q_audit.proofs.KeptLaws.{after_kept, change_counts, count_in, counted}
use Rattle.q_audit.specs.Delays.{recipients_of, was_preempted}
use Rattle.q_inflation.proofs.Falling.{entry_may, less_of}
use Rattle.q_inflation.proofs.JobsLeft.{after_same}
use Rattle.q_laws.proofs.Moved.{move_to}
use Rattle.q_laws.proofs.Synced.{admitted_active}
use Rattle.q_laws.proofs.Tidied.{tidy_scan_is}
use Rattle.q_laws.specs.Consistency.{IsConsistent}
use Rattle.q_laws.specs.Traces.{AreEntriesOf, IsEntryOf}
use Rattle.q_model.proofs.IdLaws.{id_eq-true}
use Rattle.q_model.specs.Accounts.{is_admit_of}
use Rattle.q_model.specs.Admissions.{cause_gone, has_room}
use Rattle.q_model.specs.Alternation.{is_pick}
use Rattle.q_model.specs.Book.{Book, message_of}
use Rattle.q_model.specs.Ids.{id_eq}
use Rattle.q_model.specs.Ledger.{Ledger}
use Rattle.q_model.specs.Memory.{is_admitted}
use Rattle.q_model.specs.Message.{Message}
use Rattle.q_model.specs.Past.{is_life}
use Rattle.q_model.specs.PreemptingStarts.{child_of, ends_job}
use Rattle.q_model.specs.Settings.{World}
use Rattle.q_model.specs.Step.{after, after_all, change, may, noted}
use Rattle.q_model.specs.declared.entry.Entry.{Entry}
use Rattle.q_model.specs.declared.id.Id.{Id}
use Rattle.q_model.specs.declared.rows.Admitted.{Admitted}
use Rattle.q_model.specs.declared.entry.Entry.TheVariants as entries
use Rattle.q_model.specs.declared.rows.Place.TheVariants as places
use Rattle.q_tallies.specs.Exact.{leaves_job}

-- the entries since the message of the job came into memory, which leave the job alone
pub record IsSince (w : World) (k : Ledger) (id : Id) (t : ℕ) : Type 0 where
  pub before : Ledger
  pub quiet : List Entry
  pub consistent : IsConsistent w before
  pub run : AreEntriesOf w before (entries.Admit id ∷ quiet)
  pub here : after_all w before (entries.Admit id ∷ quiet) ≡ k
  pub leaves : list_all (leaves_job id t) quiet ≡ true
  pub message : Message
  pub there : message_of before.book id ≡ Some message
  pub recipients : recipients_of k id ≡ length message.recipients

-- so it is of each job whose message is in memory, and that wasn't preempted since
abbrev pub AreSince : World → Ledger → Type 0
AreSince w k = (id : Id) (t : ℕ) → is_admitted k id ≡ true → was_preempted k id t ≡ false → IsSince w k id t

-- ---- one entry more of a list

last_after : (w : World) (l : Ledger) (es : List Entry) (e : Entry) → after_all w l (es ++ e ∷ []) ≡ after w (after_all w l es) e
unfolding after_all
last_after w l [] e = refl
last_after w l (x ∷ xs) e = last_after w (after w l x) xs e

last_entry : (w : World) (l : Ledger) (es : List Entry) (e : Entry) → AreEntriesOf w l es → IsEntryOf w (after_all w l es) e → AreEntriesOf w l (es ++ e ∷ [])
unfolding after_all
last_entry w l [] e h k = (k, tt)
last_entry w l (x ∷ xs) e h k = (h.0, last_entry w (after w l x) xs e h.1 k)

last_leaves : (p : Entry → Bool) (es : List Entry) (e : Entry) → list_all p es ≡ true → p e ≡ true → list_all p (es ++ e ∷ []) ≡ true
last_leaves p [] e h k = and_from (p e) true k refl
last_leaves p (x ∷ xs) e h k = let two = and_parts (p x) (list_all p xs) h in and_from (p x) (list_all p (xs ++ e ∷ [])) two.0 (last_leaves p xs e two.1 k)

-- ---- the message comes into memory

is_there : (o : Option Message) → is_some o ≡ true → (m : Message) × (o ≡ Some m)
is_there None h = absurd cc
is_there (Some m) h = (m, refl)

after_book : (w : World) (l : Ledger) (e : Entry) → (after w l e).book ≡ (change w l e).book
unfolding after
after_book w l e = ap (λ (x : Ledger). x.book) (tidy_scan_is (noted e (change w l e))).2

after_rows : (w : World) (l : Ledger) (e : Entry) → (after w l e).admitted ≡ (change w l e).admitted
unfolding after
after_rows w l e = ap (λ (x : Ledger). x.admitted) (tidy_scan_is (noted e (change w l e))).2

admitted_now : (w : World) (k : Ledger) (id : Id) (t : ℕ) → IsConsistent w k → IsEntryOf w k (entries.Admit id) → IsSince w (after w k (entries.Admit id)) id t
unfolding after_all
admitted_now w k id t c h =
    let allowed : (has_room w k && is_pick k id && is_some (message_of k.book id) && cause_gone k.book id) ≡ true = entry_may w k (entries.Admit id) c h in
    let first = and_parts (has_room w k && is_pick k id && is_some (message_of k.book id)) (cause_gone k.book id) allowed in
    let m = is_there (message_of k.book id) (and_parts (has_room w k && is_pick k id) (is_some (message_of k.book id)) first.0).1 in
    record {
      before = k;
      quiet = [];
      consistent = c;
      run = (h, tt);
      here = refl;
      leaves = refl;
      message = m.0;
      there = m.1;
      recipients = ap (λ (b : Book). count_in b id) (after_book w k (entries.Admit id))
          ∙ change_counts k.book id (move_to places.Active) id (λ x. refl) (λ x. refl)
          ∙ counted k.book id m.0 m.1;
    }

admits : (id : Id) (e : Entry) → is_admit_of id e ≡ true → e ≡ entries.Admit id
admits id (entries.Admit i) h = ap (λ (j : Id). entries.Admit j) (id_eq-true i id h)
admits id (entries.Life generation mode) h = absurd cc
admits id (entries.At t) h = absurd cc
admits id (entries.Arrive i sender to content) h = absurd cc
admits id (entries.Back i) h = absurd cc
admits id (entries.Load i from to) h = absurd cc
admits id (entries.Start number i site ps) h = absurd cc
admits id (entries.Preempt child parent transport need) h = absurd cc
admits id (entries.Reply number state os) h = absurd cc
admits id (entries.Skip i site ps) h = absurd cc
admits id (entries.Log i failure) h = absurd cc
admits id (entries.Mark i position) h = absurd cc
admits id (entries.Sync i) h = absurd cc
admits id (entries.Defer i due) h = absurd cc
admits id (entries.Bounce i) h = absurd cc
admits id (entries.Remove i) h = absurd cc
admits id (entries.Corrupt i) h = absurd cc
admits id (entries.Trigger kind) h = absurd cc
admits id entries.End h = absurd cc

pub life_forgets : (w : World) (k : Ledger) (e : Entry) → is_life e ≡ true → (after w k e).admitted ≡ []
life_forgets w k (entries.Life generation mode) h = after_rows w k (entries.Life generation mode)
life_forgets w k (entries.At t) h = absurd cc
life_forgets w k (entries.Arrive i sender to content) h = absurd cc
life_forgets w k (entries.Back i) h = absurd cc
life_forgets w k (entries.Admit i) h = absurd cc
life_forgets w k (entries.Load i from to) h = absurd cc
life_forgets w k (entries.Start number i site ps) h = absurd cc
life_forgets w k (entries.Preempt child parent transport need) h = absurd cc
life_forgets w k (entries.Reply number state os) h = absurd cc
life_forgets w k (entries.Skip i site ps) h = absurd cc
life_forgets w k (entries.Log i failure) h = absurd cc
life_forgets w k (entries.Mark i position) h = absurd cc
life_forgets w k (entries.Sync i) h = absurd cc
life_forgets w k (entries.Defer i due) h = absurd cc
life_forgets w k (entries.Bounce i) h = absurd cc
life_forgets w k (entries.Remove i) h = absurd cc
life_forgets w k (entries.Corrupt i) h = absurd cc
life_forgets w k (entries.Trigger kind) h = absurd cc
life_forgets w k entries.End h = absurd cc

-- ---- the past

abbrev preempts : Id → ℕ → List Entry → Bool
preempts id t past = list_any (λ e. is_some (child_of id t e)) (take_while (λ e. not (is_admit_of id e)) past)

pub past_after : (w : World) (k : Ledger) (e : Entry) (id : Id) → IsConsistent w k → may w k e ≡ true → ends_job id e ≡ false → (after w k e).past ≡ e ∷ k.past
past_after w k e id c h goes =
    (after_same w k e id 0).past ∙ ap (λ (es : List Entry). e ∷ es) (less_of w k e id 0 c h goes).past

preempts_more : (id : Id) (t : ℕ) (e : Entry) (past : List Entry) → is_admit_of id e ≡ false → preempts id t (e ∷ past) ≡ (is_some (child_of id t e) || preempts id t past)
preempts_more id t e past h =
    ap (list_any (λ x. is_some (child_of id t x)))
    (take_while-cons (λ x. not (is_admit_of id x)) e past ∙ ap (λ b. cond (not b) (e ∷ take_while (λ x. not (is_admit_of id x)) past) []) h)

pub preempted_more : (w : World) (k : Ledger) (e : Entry) (id : Id) (t : ℕ) → IsConsistent w k → may w k e ≡ true → ends_job id e ≡ false → was_preempted (after w k e) id t ≡ (is_some (child_of id t e) || was_preempted k id t)
preempted_more w k e id t c h goes =
    ap (preempts id t) (past_after w k e id c h goes)
    ∙ preempts_more id t e k.past (or_parts (is_admit_of id e) (is_life e) goes).0

-- ---- one entry more

none_of : (o : Option Id) → is_some o ≡ false → is_none o ≡ true
none_of None h = refl
none_of (Some x) h = absurd cc

goes_on : (w : World) (k : Ledger) (e : Entry) (id : Id) (t : ℕ) → AreSince w k → IsConsistent w k → IsEntryOf w k e → ends_job id e ≡ false → is_admitted (after w k e) id ≡ true → was_preempted (after w k e) id t ≡ false → IsSince w (after w k e) id t
unfolding after_all
goes_on w k e id t since c h goes inside fresh =
    let kept = after_kept w k e id c goes in
    let was = kept.admitted inside in
    let both = or_parts (is_some (child_of id t e)) (was_preempted k id t) (sym (preempted_more w k e id t c (entry_may w k e c h) goes) ∙ fresh) in
    let old = since id t was both.1 in
    let m = admitted_active w k id c was in
    let leaves : leaves_job id t e ≡ true = and_from (not (ends_job id e)) (is_none (child_of id t e)) (ap not goes) (none_of (child_of id t e) both.0) in
    let entry : IsEntryOf w (after_all w (after w old.before (entries.Admit id)) old.quiet) e = subst (λ (x : Ledger). IsEntryOf w x e) (sym old.here) h in
    record {
      before = old.before;
      quiet = old.quiet ++ e ∷ [];
      consistent = old.consistent;
      run = (old.run.0, last_entry w (after w old.before (entries.Admit id)) old.quiet e old.run.1 entry);
      here = last_after w (after w old.before (entries.Admit id)) old.quiet e ∙ ap (λ (x : Ledger). after w x e) old.here;
      leaves = last_leaves (leaves_job id t) old.quiet e old.leaves leaves;
      message = old.message;
      there = old.there;
      recipients = kept.recipients m.0 (m.1).there inside ∙ sym (counted k.book id m.0 (m.1).there) ∙ old.recipients;
    }

pub since_goes_on : (w : World) (k : Ledger) (e : Entry) → AreSince w k → IsConsistent w k → IsEntryOf w k e → AreSince w (after w k e)
since_goes_on w k e since c h id t inside fresh = which (is_admit_of id e) (is_life e) refl refl
  where
    which : (a b : Bool) → is_admit_of id e ≡ a → is_life e ≡ b → IsSince w (after w k e) id t
    which true b admit life =
        let is = admits id e admit in
        subst (λ (x : Entry). IsSince w (after w k x) id t) (sym is) (admitted_now w k id t c (subst (IsEntryOf w k) is h))
    which false true admit life =
        let none : is_admitted (after w k e) id ≡ false = ap (list_any (λ (a : Admitted). id_eq a.id id)) (life_forgets w k e life) in
        let bad : false ≡ true = sym none ∙ inside in absurd cc
    which false false admit life =
        goes_on w k e id t since c h (ap (λ (x : Bool). x || is_life e) admit ∙ life) inside fresh
