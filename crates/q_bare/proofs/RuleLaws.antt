-- The next decision of a bare ledger is the same, where past entries are counted.
use Rattle.std.proofs.Common.{◌≡◌, ℕ, ◌^◌, Bool, not, List, [], ◌∷◌, length, Option, Some, None, option_map, ap, ◌∙◌, if◌then◌else◌}
use Rattle.std.proofs.Math.Path.{fun_ext}
use Rattle.std.specs.List.{enumerate_from}
use Rattle.std.specs.Option.{option_and_then, option_map_or, option_or}
use Rattle.std.specs.Prelude.{◌&&◌, ◌||◌, find, nat_le, nat_lt, slice_get}
use Rattle.q_bare.proofs.BookLaws.{asked, decided}
use Rattle.q_bare.proofs.JobLaws.{best_bare, job_bare}
use Rattle.q_bare.proofs.MemoryLaws.{idle_bare, next_leftover_bare, pick_bare}
use Rattle.q_bare.proofs.RowLaws.{admit_bare, back_bare, bounces_bare, corrupts_bare, defer_bare, reads_bare, removes_bare}
use Rattle.q_bare.proofs.RecipientLaws.{load_end_bare, unmarked_bare, written_bare}
use Rattle.q_bare.specs.Bare.{bare, bare_message}
use Rattle.q_bare.specs.CountedRules.{choice_by_counts, choice_for_by, start_rule_by}
use Rattle.q_bare.specs.Counts.{counts_of}
use Rattle.q_bare.specs.Laws.{IsNextSame}
use Rattle.q_model.specs.declared.entry.Entry.{Entry}
use Rattle.q_model.specs.declared.id.Id.{Id}
use Rattle.q_model.specs.declared.rows.Admitted.{Admitted}
use Rattle.q_model.specs.Admissions.{has_room, may_admit}
use Rattle.q_model.specs.Alternation.{pick, Pick, pick_id}
use Rattle.q_model.specs.Book.{message_of}
use Rattle.q_model.specs.Bounces.{may_bounce}
use Rattle.q_model.specs.Candidates.{best}
use Rattle.q_model.specs.Choice.{choice_by, preempt_by, start_next}
use Rattle.q_model.specs.Leaving.{may_back, may_corrupt, may_defer, may_remove}
use Rattle.q_model.specs.Leftovers.{next_leftover, was_synced}
use Rattle.q_model.specs.Ledger.{Ledger}
use Rattle.q_model.specs.Lists.{first_of, first_some}
use Rattle.q_model.specs.Loads.{may_read}
use Rattle.q_model.specs.Memory.{free, is_idle}
use Rattle.q_model.specs.Message.{Message, written_marks}
use Rattle.q_model.specs.Next.{admission_rule, admit_or_corrupt, choice_of, clear_damaged, clear_leftover, clear_marked, finish, finish_message, finishing_rule, leftover_decision, leftover_rule, load_entry, load_of, load_rule, mark_logged, marks_of, next, settling_rule, skip_rule, start_rule, sync_rule, wants_sync}
use Rattle.q_model.specs.Past.{starts}
use Rattle.q_model.specs.Settings.{World}
use Rattle.q_model.specs.Startable.{current}
use Rattle.q_model.specs.Times.{due}
use Rattle.q_model.specs.declared.entry.Entry.TheVariants as entries

-- ---- marks to be synced

marks_bare : (l : Ledger) (id : Id) → marks_of (bare l) id ≡ marks_of l id
marks_bare l id = asked (λ m. length (written_marks m)) (λ m. length (written_marks m)) 0 (λ m. ap (λ (ps : List ℕ). length ps) (written_bare m)) l.book id

wants_bare : (w : World) (l : Ledger) (a : Admitted) → wants_sync w (bare l) a ≡ wants_sync w l a
wants_bare w l a =
    ap (λ n. nat_le w.settings.mark_sync_limit n || (nat_lt 0 n && is_idle (bare l) a.id)) (marks_bare l a.id)
    ∙ ap (λ idle. nat_le w.settings.mark_sync_limit (marks_of l a.id) || (nat_lt 0 (marks_of l a.id) && idle)) (idle_bare l a.id)

pub sync_rule_bare : (w : World) (l : Ledger) → sync_rule w (bare l) ≡ sync_rule w l
sync_rule_bare w l = ap (λ (p : Admitted → Bool). option_map (λ (a : Admitted). entries.Sync a.id) (find p l.admitted)) (fun_ext (wants_bare w l))

-- ---- messages that are finished

abbrev finish_with : World → Ledger → Id → Message → Bool → Bool → Bool → Option Entry
finish_with w l id m defers bounces removes = first_of (
    (defers, entries.Defer id (due w l.now m))
    ∷ (bounces, entries.Bounce id)
    ∷ (removes, entries.Remove id)
    ∷ [])

finish_message_bare : (w : World) (l : Ledger) (id : Id) (m : Message) → finish_message w (bare l) id (bare_message m) ≡ finish_message w l id m
finish_message_bare w l id m =
    ap (λ b. finish_with w l id m b (may_bounce (bare l) id) (may_remove (bare l) id)) (defer_bare w l id (due w l.now m))
    ∙ ap (λ b. finish_with w l id m (may_defer w l id (due w l.now m)) b (may_remove (bare l) id)) (bounces_bare l id)
    ∙ ap (finish_with w l id m (may_defer w l id (due w l.now m)) (may_bounce l id)) (removes_bare l id)

finish_bare : (w : World) (l : Ledger) (a : Admitted) → finish w (bare l) a.id ≡ finish w l a.id
finish_bare w l a = decided (finish_message w (bare l) a.id) (finish_message w l a.id) (finish_message_bare w l a.id) l.book a.id

pub finishing_bare : (w : World) (l : Ledger) → finishing_rule w (bare l) ≡ finishing_rule w l
finishing_bare w l =
    ap (λ (p : Admitted → Bool). option_and_then (λ (a : Admitted). finish w (bare l) a.id) (find p l.admitted)) (fun_ext (λ a. idle_bare l a.id))
    ∙ ap (λ (f : Admitted → Option Entry). option_and_then f (find (λ a. is_idle l a.id) l.admitted)) (fun_ext (finish_bare w l))

-- ---- leftovers

abbrev clear_with : Ledger → Message → Bool → Bool → Bool → Option Entry
clear_with l m bounces removes back = first_of (
    (not (was_synced l m.id), entries.Sync m.id)
    ∷ (bounces, entries.Bounce m.id)
    ∷ (removes, entries.Remove m.id)
    ∷ (back, entries.Back m.id)
    ∷ [])

clear_marked_bare : (l : Ledger) (m : Message) → clear_marked (bare l) (bare_message m) ≡ clear_marked l m
clear_marked_bare l m =
    ap (λ b. clear_with l m b (may_remove (bare l) m.id) (may_back (bare l) m.id)) (bounces_bare l m.id)
    ∙ ap (λ b. clear_with l m (may_bounce l m.id) b (may_back (bare l) m.id)) (removes_bare l m.id)
    ∙ ap (clear_with l m (may_bounce l m.id) (may_remove l m.id)) (back_bare l m.id)

clear_bare : (w : World) (l : Ledger) (m : Message) → clear_leftover w (bare l) (bare_message m) ≡ clear_leftover w l m
clear_bare w l m =
    ap (λ (ps : List ℕ). option_or (option_map (λ p. entries.Mark m.id p) (slice_get ps 0)) (clear_marked (bare l) (bare_message m))) (unmarked_bare m)
    ∙ ap (option_or (mark_logged m)) (clear_marked_bare l m)

damaged_bare : (w : World) (l : Ledger) (id : Id) → clear_damaged w (bare l) id ≡ clear_damaged w l id
damaged_bare w l id = ap (λ b. first_of ((b, entries.Corrupt id) ∷ [])) (corrupts_bare w l id)

decision_bare : (w : World) (l : Ledger) (id : Id) → leftover_decision w (bare l) id ≡ leftover_decision w l id
decision_bare w l id =
    asked (clear_leftover w (bare l)) (clear_leftover w l) (clear_damaged w (bare l) id) (clear_bare w l) l.book id
    ∙ ap (option_map_or (clear_leftover w l) (message_of l.book id)) (damaged_bare w l id)

pub leftover_rule_bare : (w : World) (l : Ledger) → leftover_rule w (bare l) ≡ leftover_rule w l
leftover_rule_bare w l =
    ap (option_and_then (leftover_decision w (bare l))) (next_leftover_bare l)
    ∙ ap (λ (f : Id → Option Entry). option_and_then f (next_leftover l)) (fun_ext (decision_bare w l))

-- ---- admissions and loads

abbrev admit_with : Pick → Bool → Bool → Option Entry
admit_with p admits corrupts = first_of (
    (admits, entries.Admit (pick_id p))
    ∷ (corrupts, entries.Corrupt (pick_id p))
    ∷ [])

picked_bare : (w : World) (l : Ledger) (p : Pick) → admit_or_corrupt w (bare l) p ≡ admit_or_corrupt w l p
picked_bare w l p =
    ap (λ b. admit_with p b (may_corrupt w (bare l) (pick_id p))) (admit_bare w l (pick_id p))
    ∙ ap (admit_with p (may_admit w l (pick_id p))) (corrupts_bare w l (pick_id p))

pub admission_bare : (w : World) (l : Ledger) → admission_rule w (bare l) ≡ admission_rule w l
admission_bare w l =
    ap (λ o. if has_room w l then o else None) (
    ap (option_and_then (admit_or_corrupt w (bare l))) (pick_bare l)
    ∙ ap (λ (f : Pick → Option Entry). option_and_then f (pick l)) (fun_ext (picked_bare w l)))

load_of_bare : (w : World) (l : Ledger) (a : Admitted) → load_of w (bare l) a ≡ load_of w l a
load_of_bare w l a = decided (load_entry w (bare l) a) (load_entry w l a) (λ m. ap (λ n. Some (entries.Load a.id a.unread n)) (load_end_bare m a.unread (free w l))) l.book a.id

pub load_rule_bare : (w : World) (l : Ledger) → load_rule w (bare l) ≡ load_rule w l
load_rule_bare w l =
    ap (λ (p : Admitted → Bool). option_and_then (load_of w (bare l)) (find p l.admitted)) (fun_ext (reads_bare w l))
    ∙ ap (λ (f : Admitted → Option Entry). option_and_then f (find (may_read w l) l.admitted)) (fun_ext (load_of_bare w l))

-- ---- starts

preempts_bare : (l : Ledger) (t : ℕ) (parent child : Id) → preempt_by (bare l) t parent child ≡ preempt_by l t parent child
preempts_bare l t parent child = ap (λ n. Some (entries.Preempt child parent t n)) (job_bare l child t)

choice_for_bare : (w : World) (l : Ledger) (t : ℕ) (parent : Id) → choice_for_by (counts_of l) w (bare l) t parent ≡ choice_by w l t parent
choice_for_bare w l t parent =
    ap (λ o. option_map_or (preempt_by (bare l) t parent) o (start_next w l t parent)) (best_bare w l t parent)
    ∙ ap (λ (f : Id → Option Entry). option_map_or f (best w l t parent) (start_next w l t parent)) (fun_ext (preempts_bare l t parent))

choice_bare : (w : World) (l : Ledger) (line : ℕ × List Id) → choice_by_counts (counts_of l) w (bare l) line ≡ choice_of w l line
choice_bare w l line = ap (λ (f : Id → Option Entry). option_and_then f (current w l line.0)) (fun_ext (choice_for_bare w l line.0))

pub start_rule_bare : (w : World) (l : Ledger) → start_rule_by (counts_of l) w (bare l) ≡ start_rule w l
start_rule_bare w l =
    ap (λ (f : (ℕ × List Id) → Option Entry). if nat_lt (starts l) (2 ^ 48) then first_some f (enumerate_from 0 l.lines) else None) (fun_ext (choice_bare w l))

-- ---- all of them

abbrev first_with : Option Entry → Option Entry → Option Entry → Option Entry → Option Entry → Option Entry → Option Entry → Option Entry → Option Entry
first_with settling sync skip finishing leftover admission load start =
    option_or settling (option_or sync (option_or skip (option_or finishing (option_or leftover (option_or admission (option_or load start))))))

pub next_bare : IsNextSame
unfolding next
next_bare w l = ap (λ o. if l.timed then o else None) (
    ap (λ o. first_with (settling_rule l) o (skip_rule l) (finishing_rule w (bare l)) (leftover_rule w (bare l)) (admission_rule w (bare l)) (load_rule w (bare l)) (start_rule_by (counts_of l) w (bare l))) (sync_rule_bare w l)
    ∙ ap (λ o. first_with (settling_rule l) (sync_rule w l) (skip_rule l) o (leftover_rule w (bare l)) (admission_rule w (bare l)) (load_rule w (bare l)) (start_rule_by (counts_of l) w (bare l))) (finishing_bare w l)
    ∙ ap (λ o. first_with (settling_rule l) (sync_rule w l) (skip_rule l) (finishing_rule w l) o (admission_rule w (bare l)) (load_rule w (bare l)) (start_rule_by (counts_of l) w (bare l))) (leftover_rule_bare w l)
    ∙ ap (λ o. first_with (settling_rule l) (sync_rule w l) (skip_rule l) (finishing_rule w l) (leftover_rule w l) o (load_rule w (bare l)) (start_rule_by (counts_of l) w (bare l))) (admission_bare w l)
    ∙ ap (λ o. first_with (settling_rule l) (sync_rule w l) (skip_rule l) (finishing_rule w l) (leftover_rule w l) (admission_rule w l) o (start_rule_by (counts_of l) w (bare l))) (load_rule_bare w l)
    ∙ ap (first_with (settling_rule l) (sync_rule w l) (skip_rule l) (finishing_rule w l) (leftover_rule w l) (admission_rule w l) (load_rule w l)) (start_rule_bare w l))
