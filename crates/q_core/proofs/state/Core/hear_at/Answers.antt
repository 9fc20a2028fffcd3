use Rattle.std.proofs.Common.{◌≡◌, ◌∙◌, ap, refl, sym, subst, ◌+◌, nat_le}
use Rattle.q_model.specs.declared.entry.Entry.TheVariants as entries
use Rattle.q_model.specs.Step.{after}
use Rattle.q_model.specs.Clock.{after_at, woken}
use Rattle.q_core.proofs.StepLaws.{HoldsRaw, due_law, due_rows, wake_law}
use Rattle.q_core.proofs.NoteLaws.{note_law}
use Rattle.q_core.proofs.TidyLaws.{tidy_law}
use Rattle.q_core.proofs.UsedLaws.{asked_sites, asked_used, tidied_used}
use Rattle.q_core.specs.Changes.{asked_when_due, woken_by, used_sites, with_sites}
use Rattle.q_core.specs.declared.state.Core.{Core}
use Rattle.q_core.proofs.state.Core.hear_at.Goals as goal

pub returns-clause-exact : goal.returns-clause-exact
unfolding after
returns-clause-exact c = λ w l a.
    let st = woken_by c.args.moment c.args.self.now in
    let y = c.wake.new.self in
    let z = c.ask_when_due.new.self in
    let is : z ≡ asked_when_due y = c.ask_when_due.ensures in
    let asked : HoldsRaw w (with_sites st z) (after_at w l c.args.moment) =
    subst (λ k. HoldsRaw w k (after_at w l c.args.moment)) (asked_sites st y ∙ ap (with_sites st) (sym is)) (due_law (wake_law a.matches c.requires.seen c.wake.ensures.woken)) in
    let used : z.sites ≡ used_sites z st = subst (λ (k : Core). k.sites ≡ used_sites k st) (sym is) (asked_used st y c.wake.ensures.used) in
    let rows = due_rows (woken w l c.args.moment) (c.args.moment + w.settings.run_delay) (nat_le l.next_run c.args.moment) in
    tidy_law l rows.waiting rows.flights (note_law (entries.At c.args.moment) (record { no_admit = λ id. refl; no_start_of = λ id t. refl; no_charge = λ id t. refl; no_start = refl }) asked)
    (tidied_used z c.tidy.new.self st used c.tidy.ensures)
