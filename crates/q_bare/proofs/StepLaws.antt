-- What is held of a ledger after an entry follows from what was held of it before.
use Rattle.std.proofs.Common.{◌≡◌, ℕ, Bool, not, List, map, Option, Some, None, refl, sym, ap, ◌∙◌}
use Rattle.std.proofs.Math.Path.{fun_ext}
use Rattle.std.specs.List.{enumerate_from, list_any}
use Rattle.std.specs.Option.{option_and_then}
use Rattle.std.specs.Prelude.{◌&&◌, ◌||◌, ◌==◌, filter}
use Rattle.q_bare.proofs.ChangedBooks.{twice}
use Rattle.q_bare.proofs.ChangeLaws.{admit_change, arrive_bare, at_bare, back_change, bounce_change, corrupt_change, defer_change, life_bare, load_change, log_change, mark_change, remove_change, reply_change, skip_change, sync_change, trigger_bare}
use Rattle.q_bare.proofs.MemoryLaws.{scan_bare, unread_bare}
use Rattle.q_bare.specs.Bare.{bare}
use Rattle.q_bare.specs.Laws.{IsStepSame}
use Rattle.q_model.specs.declared.entry.Entry.{Entry}
use Rattle.q_model.specs.declared.id.Id.{Id}
use Rattle.q_model.specs.declared.rows.DeferredName.{DeferredName}
use Rattle.q_model.specs.declared.rows.Request.{Request}
use Rattle.q_model.specs.declared.rows.Scan.{Scan}
use Rattle.q_model.specs.Ids.{id_eq}
use Rattle.q_model.specs.Ledger.{Ledger}
use Rattle.q_model.specs.Scans.{end_scan, new_scan, scan_next, tidy_scan, tidy_scan_at, tidy_scan_of}
use Rattle.q_model.specs.Settings.{World}
use Rattle.q_model.specs.Sites.{site_eq}
use Rattle.q_model.specs.Step.{after, change, noted, stays, tidied, tidy_line}
use Rattle.q_model.specs.UnusedSites.{tidied_sites}
use Rattle.q_model.specs.Values.{Served}
use Rattle.q_model.specs.declared.entry.Entry.TheVariants as entries

-- ---- tidying

stays_bare : (l : Ledger) (t : ℕ) (id : Id) → stays (bare l) t id ≡ stays l t id
stays_bare l t id = ap (λ n. not (n == 0) || list_any (λ r. id_eq r.id id && (r.site.transport == t)) l.waiting) (unread_bare l id)

line_bare : (l : Ledger) (line : ℕ × List Id) → tidy_line (bare l) line ≡ tidy_line l line
line_bare l line = ap (λ (p : Id → Bool). filter p line.1) (fun_ext (stays_bare l line.0))

end_bare : (l : Ledger) (asked : Option Request) → end_scan (bare l) asked ≡ bare (end_scan l asked)
end_bare l None = refl
end_bare l (Some request) =
    ap (λ (n : Option DeferredName). record (bare l) { scan = option_and_then (λ _. Some (new_scan l.now request)) n; asked = None }) (scan_bare l.book (new_scan l.now request))

scan_at_bare : (l : Ledger) (o : Option DeferredName) → tidy_scan_at (bare l) o ≡ bare (tidy_scan_at l o)
scan_at_bare l None = end_bare l l.asked
scan_at_bare l (Some name) = refl

scan_of_bare : (l : Ledger) (o : Option Scan) → tidy_scan_of (bare l) o ≡ bare (tidy_scan_of l o)
scan_of_bare l None = refl
scan_of_bare l (Some s) = ap (tidy_scan_at (bare l)) (scan_bare l.book s) ∙ scan_at_bare l (scan_next l.book s)

tidied_bare : (w : World) (before l : Ledger) → tidied w (bare before) (bare l) ≡ bare (tidied w before l)
tidied_bare w before l =
    let served : List Served = filter (λ (s : Served). list_any (λ r. id_eq r.id s.id && site_eq r.site s.site) l.waiting) l.served in
    ap (λ (s : Ledger). record s { lines = map (tidy_line (bare l)) (enumerate_from 0 l.lines); served = served; sites = tidied_sites w before l }) (scan_of_bare l l.scan)
    ∙ ap (λ (f : (ℕ × List Id) → List Id). record (bare (tidy_scan l)) { lines = map f (enumerate_from 0 l.lines); served = served; sites = tidied_sites w before l }) (fun_ext (line_bare l))

-- ---- changes

again : (k l : Ledger) → k ≡ bare l → bare k ≡ bare l
again k l h = ap bare h ∙ twice l

change_same : (w : World) (l : Ledger) (e : Entry) → bare (change w (bare l) e) ≡ bare (change w l e)
change_same w l (entries.Life generation mode) = again (change w (bare l) (entries.Life generation mode)) (change w l (entries.Life generation mode)) (life_bare w l generation mode)
change_same w l (entries.At t) = again (change w (bare l) (entries.At t)) (change w l (entries.At t)) (at_bare w l t)
change_same w l (entries.Arrive id sender to content) = arrive_bare l id sender to content
change_same w l (entries.Back id) = again (change w (bare l) (entries.Back id)) (change w l (entries.Back id)) (back_change l id)
change_same w l (entries.Admit id) = again (change w (bare l) (entries.Admit id)) (change w l (entries.Admit id)) (admit_change l id)
change_same w l (entries.Load id from to) = again (change w (bare l) (entries.Load id from to)) (change w l (entries.Load id from to)) (load_change w l id from to)
change_same w l (entries.Start number id site positions) = twice (change w l (entries.Start number id site positions))
change_same w l (entries.Preempt child parent transport need) = twice (change w l (entries.Preempt child parent transport need))
change_same w l (entries.Reply number state outcomes) = again (change w (bare l) (entries.Reply number state outcomes)) (change w l (entries.Reply number state outcomes)) (reply_change w l number state outcomes)
change_same w l (entries.Skip id site positions) = again (change w (bare l) (entries.Skip id site positions)) (change w l (entries.Skip id site positions)) (skip_change w l id site positions)
change_same w l (entries.Log id failure) = again (change w (bare l) (entries.Log id failure)) (change w l (entries.Log id failure)) (log_change l id failure)
change_same w l (entries.Mark id position) = again (change w (bare l) (entries.Mark id position)) (change w l (entries.Mark id position)) (mark_change l id position)
change_same w l (entries.Sync id) = again (change w (bare l) (entries.Sync id)) (change w l (entries.Sync id)) (sync_change l id)
change_same w l (entries.Defer id due) = again (change w (bare l) (entries.Defer id due)) (change w l (entries.Defer id due)) (defer_change l id due)
change_same w l (entries.Bounce id) = bounce_change l id
change_same w l (entries.Remove id) = again (change w (bare l) (entries.Remove id)) (change w l (entries.Remove id)) (remove_change l id)
change_same w l (entries.Corrupt id) = again (change w (bare l) (entries.Corrupt id)) (change w l (entries.Corrupt id)) (corrupt_change l id)
change_same w l (entries.Trigger kind) = again (change w (bare l) (entries.Trigger kind)) (change w l (entries.Trigger kind)) (trigger_bare w l kind)
change_same w l entries.End = twice l

after_bare : (w : World) (l : Ledger) (e : Entry) → bare (after w l e) ≡ tidied w (bare l) (bare (change w l e))
unfolding after
after_bare w l e = sym (tidied_bare w l (noted e (change w l e)))

pub step_bare : IsStepSame
step_bare w l e =
    after_bare w (bare l) e
    ∙ ap (λ k. tidied w k (bare (change w (bare l) e))) (twice l)
    ∙ ap (tidied w (bare l)) (change_same w l e)
    ∙ sym (after_bare w l e)
