-- Each row says the same of a bare ledger, where past entries are counted.
use Rattle.std.proofs.Common.{◌≡◌, ℕ, Bool, false, not, List, refl, ap, ◌∙◌}
use Rattle.std.proofs.Math.Path.{fun_ext}
use Rattle.std.specs.Option.{option_map_or}
use Rattle.std.specs.Prelude.{◌&&◌, ◌||◌, ◌==◌, is_some, min, nat_le, nat_lt}
use Rattle.q_bare.proofs.BookLaws.{asked, has_message_bare}
use Rattle.q_bare.proofs.JobLaws.{is_best_bare, job_bare}
use Rattle.q_bare.proofs.MemoryLaws.{bounce_bare, cause_bare, idle_bare, is_next_leftover_bare, is_pick_bare, leftover_bare, rest_bare, unread_count_bare}
use Rattle.q_bare.proofs.RecipientLaws.{clean_bare, done_bare, load_end_bare, pending_bare, unmarked_at_bare, unmarked_bare, written_bare}
use Rattle.q_bare.specs.Bare.{bare, bare_book, bare_message}
use Rattle.q_bare.specs.CountedRows.{allowed_by, may_by, may_preempt_by}
use Rattle.q_bare.specs.Counts.{counts_of}
use Rattle.q_bare.specs.Laws.{AreRowsSame}
use Rattle.q_model.specs.declared.entry.Entry.{Entry}
use Rattle.q_model.specs.declared.id.Id.{Id}
use Rattle.q_model.specs.declared.rows.Admitted.{Admitted}
use Rattle.q_model.specs.Accounts.{job_left}
use Rattle.q_model.specs.Admissions.{cause_gone, has_room, may_admit}
use Rattle.q_model.specs.Alternation.{is_pick}
use Rattle.q_model.specs.Batches.{load_end}
use Rattle.q_model.specs.Book.{damaged_of, message_of}
use Rattle.q_model.specs.Bounces.{may_bounce}
use Rattle.q_model.specs.Finishing.{has_bounce, is_at_rest, is_clean, is_done, wants_bounce}
use Rattle.q_model.specs.Leaving.{may_back, may_corrupt, may_defer, may_remove}
use Rattle.q_model.specs.Leftovers.{is_leftover, is_next_leftover, was_synced}
use Rattle.q_model.specs.Ledger.{Ledger}
use Rattle.q_model.specs.Lists.{has_none}
use Rattle.q_model.specs.Loads.{may_load, may_load_of, may_read, reads_on}
use Rattle.q_model.specs.Marking.{is_unmarked_at, marks_first, may_mark}
use Rattle.q_model.specs.Memory.{admitted_of, free, has_waiting, is_idle}
use Rattle.q_model.specs.Message.{is_logged, Message, pending, unmarked_logged, written_marks}
use Rattle.q_model.specs.Past.{has_entries, is_life, is_living}
use Rattle.q_model.specs.Places.{is_active}
use Rattle.q_model.specs.Preemptions.{is_best, is_current, may_preempt}
use Rattle.q_model.specs.Settings.{World}
use Rattle.q_model.specs.Step.{allowed, may}
use Rattle.q_model.specs.Syncs.{may_sync}
use Rattle.q_model.specs.Times.{due}
use Rattle.q_model.specs.declared.entry.Entry.TheVariants as entries

pub mark_bare : (l : Ledger) (id : Id) (position : ℕ) → may_mark (bare l) id position ≡ may_mark l id position
mark_bare l id position =
    let on : Message → Bool = λ m. is_logged m position && is_unmarked_at m position in
    ap (λ left. marks_first l id position || (left && option_map_or on (message_of (bare_book l.book) id) false)) (leftover_bare l id)
    ∙ ap (λ b. marks_first l id position || (is_leftover l id && b)) (asked on on false (λ m. ap (λ b. is_logged m position && b) (unmarked_at_bare m position)) l.book id)

pub sync_bare : (l : Ledger) (id : Id) → may_sync (bare l) id ≡ may_sync l id
sync_bare l id =
    asked (λ m. is_active m.place && (is_leftover (bare l) id || not (has_none (written_marks m))))
    (λ m. is_active m.place && (is_leftover l id || not (has_none (written_marks m)))) false
    (λ m. ap (λ left. is_active m.place && (left || not (has_none (written_marks (bare_message m))))) (leftover_bare l id)
    ∙ ap (λ (ps : List ℕ). is_active m.place && (is_leftover l id || not (has_none ps))) (written_bare m)) l.book id

pub admit_bare : (w : World) (l : Ledger) (id : Id) → may_admit w (bare l) id ≡ may_admit w l id
admit_bare w l id =
    ap (λ picked. has_room w l && picked && is_some (message_of (bare_book l.book) id) && cause_gone (bare_book l.book) id) (is_pick_bare l id)
    ∙ ap (λ there. has_room w l && is_pick l id && there && cause_gone (bare_book l.book) id) (has_message_bare l.book id)
    ∙ ap (λ gone. has_room w l && is_pick l id && is_some (message_of l.book id) && gone) (cause_bare l.book id)

pub reads_bare : (w : World) (l : Ledger) (a : Admitted) → may_read w (bare l) a ≡ may_read w l a
reads_bare w l a = ap (λ n. nat_lt 0 n && not (has_waiting l a.id) && nat_le (min w.settings.recipient_minimum n) (free w l)) (unread_count_bare l a)

load_at : (w : World) (l : Ledger) (id : Id) (from to : ℕ) (a : Admitted) → may_load_of w (bare l) id from to a ≡ may_load_of w l id from to a
load_at w l id from to a =
    asked (reads_on w (bare l) a from to) (reads_on w l a from to) false
    (λ m. ap (λ b. b && (from == a.unread) && (to == load_end (bare_message m) from (free w l))) (reads_bare w l a)
    ∙ ap (λ n. may_read w l a && (from == a.unread) && (to == n)) (load_end_bare m from (free w l))) l.book id

pub load_bare : (w : World) (l : Ledger) (id : Id) (from to : ℕ) → may_load w (bare l) id from to ≡ may_load w l id from to
load_bare w l id from to = ap (λ (f : Admitted → Bool). option_map_or f (admitted_of l id) false) (fun_ext (load_at w l id from to))

pub preempt_bare : (w : World) (l : Ledger) (child parent : Id) (t need : ℕ) → may_preempt_by (counts_of l) w (bare l) child parent t need ≡ may_preempt w l child parent t need
preempt_bare w l child parent t need =
    ap (λ best. is_current w l t parent && best && (need == job_left (bare l) child t)) (is_best_bare w l t parent child)
    ∙ ap (λ n. is_current w l t parent && is_best w l t parent child && (need == n)) (job_bare l child t)

pub defer_bare : (w : World) (l : Ledger) (id : Id) (t : ℕ) → may_defer w (bare l) id t ≡ may_defer w l id t
defer_bare w l id t =
    let on : Message → Bool = λ m. not (has_none (pending m)) && is_clean m && (t == due w l.now m) in
    ap (λ idle. idle && option_map_or on (message_of (bare_book l.book) id) false) (idle_bare l id)
    ∙ ap (λ b. is_idle l id && b) (asked on on false (λ m.
    ap (λ (ps : List ℕ). not (has_none ps) && is_clean (bare_message m) && (t == due w l.now m)) (pending_bare m)
    ∙ ap (λ b. not (has_none (pending m)) && b && (t == due w l.now m)) (clean_bare m)) l.book id)

pub back_bare : (l : Ledger) (id : Id) → may_back (bare l) id ≡ may_back l id
back_bare l id =
    let on : Message → Bool = λ m. has_none (unmarked_logged m) && is_clean m && not (has_none (pending m)) in
    ap (λ left. left && was_synced l id && option_map_or on (message_of (bare_book l.book) id) false) (leftover_bare l id)
    ∙ ap (λ b. is_leftover l id && was_synced l id && b) (asked on on false (λ m.
    ap (λ (ps : List ℕ). has_none ps && is_clean (bare_message m) && not (has_none (pending (bare_message m)))) (unmarked_bare m)
    ∙ ap (λ b. has_none (unmarked_logged m) && b && not (has_none (pending (bare_message m)))) (clean_bare m)
    ∙ ap (λ (ps : List ℕ). has_none (unmarked_logged m) && is_clean m && not (has_none ps)) (pending_bare m)) l.book id)

pub bounces_bare : (l : Ledger) (id : Id) → may_bounce (bare l) id ≡ may_bounce l id
bounces_bare l id =
    asked (λ m. is_active m.place && is_at_rest (bare l) id && is_done m && wants_bounce m && not (has_bounce (bare l) id))
    (λ m. is_active m.place && is_at_rest l id && is_done m && wants_bounce m && not (has_bounce l id)) false
    (λ m. ap (λ done. is_active m.place && is_at_rest (bare l) id && done && wants_bounce m && not (has_bounce (bare l) id)) (done_bare m)
    ∙ ap (λ rest. is_active m.place && rest && is_done m && wants_bounce m && not (has_bounce (bare l) id)) (rest_bare l id)
    ∙ ap (λ there. is_active m.place && is_at_rest l id && is_done m && wants_bounce m && not there) (bounce_bare l id)) l.book id

pub removes_bare : (l : Ledger) (id : Id) → may_remove (bare l) id ≡ may_remove l id
removes_bare l id =
    asked (λ m. is_active m.place && is_at_rest (bare l) id && is_done m && (not (wants_bounce m) || has_bounce (bare l) id))
    (λ m. is_active m.place && is_at_rest l id && is_done m && (not (wants_bounce m) || has_bounce l id)) false
    (λ m. ap (λ done. is_active m.place && is_at_rest (bare l) id && done && (not (wants_bounce m) || has_bounce (bare l) id)) (done_bare m)
    ∙ ap (λ rest. is_active m.place && rest && is_done m && (not (wants_bounce m) || has_bounce (bare l) id)) (rest_bare l id)
    ∙ ap (λ there. is_active m.place && is_at_rest l id && is_done m && (not (wants_bounce m) || there)) (bounce_bare l id)) l.book id

pub corrupts_bare : (w : World) (l : Ledger) (id : Id) → may_corrupt w (bare l) id ≡ may_corrupt w l id
corrupts_bare w l id =
    let damaged = is_some (damaged_of l.book id) in
    ap (λ left. damaged && (left || (has_room w l && is_pick (bare l) id)) && cause_gone (bare_book l.book) id) (is_next_leftover_bare l id)
    ∙ ap (λ picked. damaged && (is_next_leftover l id || (has_room w l && picked)) && cause_gone (bare_book l.book) id) (is_pick_bare l id)
    ∙ ap (λ gone. damaged && (is_next_leftover l id || (has_room w l && is_pick l id)) && gone) (cause_bare l.book id)

pub row_bare : (w : World) (l : Ledger) (e : Entry) → may_by (counts_of l) w (bare l) e ≡ may w l e
row_bare w l (entries.Life generation mode) = refl
row_bare w l (entries.At t) = refl
row_bare w l (entries.Arrive id sender to content) = refl
row_bare w l (entries.Back id) = back_bare l id
row_bare w l (entries.Admit id) = admit_bare w l id
row_bare w l (entries.Load id from to) = load_bare w l id from to
row_bare w l (entries.Start number id site positions) = refl
row_bare w l (entries.Preempt child parent transport need) = preempt_bare w l child parent transport need
row_bare w l (entries.Reply number state outcomes) = refl
row_bare w l (entries.Skip id site positions) = refl
row_bare w l (entries.Log id failure) = refl
row_bare w l (entries.Mark id position) = mark_bare l id position
row_bare w l (entries.Sync id) = sync_bare l id
row_bare w l (entries.Defer id due) = defer_bare w l id due
row_bare w l (entries.Bounce id) = bounces_bare l id
row_bare w l (entries.Remove id) = removes_bare l id
row_bare w l (entries.Corrupt id) = corrupts_bare w l id
row_bare w l (entries.Trigger kind) = refl
row_bare w l entries.End = refl

pub allowed_bare : (w : World) (l : Ledger) (e : Entry) → allowed_by (counts_of l) w (bare l) e ≡ allowed w l e
unfolding allowed
allowed_bare w l e = ap (λ b. (is_living l || (is_life e && not (has_entries l))) && b) (row_bare w l e)

pub rows_bare : AreRowsSame
rows_bare w l e = (row_bare w l e, allowed_bare w l e)
