use Rattle.std.proofs.Common.{◌∙◌, ap, sym}
use Rattle.std.specs.Prelude.{find}
use Rattle.q_core.proofs.ListLaws.{find-same}
use Rattle.q_core.proofs.SiteViews.{dead_known}
use Rattle.q_core.specs.Held.{is_dead_in}
use Rattle.q_core.specs.State.{State}
use Rattle.q_core.specs.Ties.{goes_to_dead}
use Rattle.q_core.specs.View.{state_of}
use Rattle.q_held.proofs.Plain.{rows_plain}
use Rattle.q_held.proofs.Tested.{first_tested}
use Rattle.q_held.specs.Held.{plain, rows_of}
use Rattle.q_model.specs.declared.rows.Row.{Row}
use Rattle.q_peers.proofs.Peers.{none_found, row_found}
use Rattle.q_core.proofs.state.Core.first_dead.Goals as goal

pub returns-in-Some : goal.returns-in-Some
returns-in-Some c =
    let a = c.self.inside in
    let p = goes_to_dead a.sites.items in
    let hs = a.waiting.items in
    c.get.ensures
    ∙ row_found p c.in-Some.number (plain hs) c.stand_apart.ensures.apart (sym (first_tested p hs c.self.invariant.4) ∙ sym c.in-Some.ensures)
    ∙ ap (find p) (rows_plain hs)
    ∙ find-same p (λ (r : Row). is_dead_in (state_of a) r.site) (λ r. dead_known r.site a.sites.items) (rows_of hs)
    ∙ ap (λ (s : State). find (λ (r : Row). is_dead_in s r.site) s.waiting) c.self.view_is

pub returns-in-None : goal.returns-in-None
returns-in-None c =
    let a = c.self.inside in
    let p = goes_to_dead a.sites.items in
    let hs = a.waiting.items in
    sym (none_found p (plain hs) (sym (first_tested p hs c.self.invariant.4) ∙ sym c.in-None.ensures))
    ∙ ap (find p) (rows_plain hs)
    ∙ find-same p (λ (r : Row). is_dead_in (state_of a) r.site) (λ r. dead_known r.site a.sites.items) (rows_of hs)
    ∙ ap (λ (s : State). find (λ (r : Row). is_dead_in s r.site) s.waiting) c.self.view_is
