use Rattle.std.proofs.Common.{◌∙◌, ◌*◌, ◌<◌, ap, length, subst, sym}
use Rattle.std.proofs.lemmas.Bool.{ltb-true}
use Rattle.std.specs.Option.{is_some}
use Rattle.std.specs.Prelude.{find, ltb}
use Rattle.q_heads.proofs.Standing.{all_stand, found}
use Rattle.q_heads.specs.Lanes.{foremost, heads_of}
use Rattle.q_jobs.specs.declared.job.Job.{Job}
use Rattle.q_keyed.specs.Numbered.{values_of}
use Rattle.q_sorted.specs.declared.ticket.Ticket.{Ticket}
use Rattle.q_sorted.specs.Tickets.{is_of}
use Rattle.q_turns.proofs.Choosing.{at_head, job_first, none_able, sends, walk_begins, walk_goes, walk_smaller, WalksAt}
use Rattle.q_turns.proofs.LineSets.{at_got, jobs_at}
use Rattle.q_turns.specs.Suspending.{HaveNoSpace}
use Rattle.q_turns.specs.Turns.{is_able, line_at, Turning}
use Rattle.q_turns.proofs.turns.Turns.current.Goals as goal

pub loop-at-init : goal.loop-at-init
loop-at-init c =
    let heads = c.self.inside.heads in
    walk_begins (c.args.transport * 2) heads (sends c.args.sites.now.items c.self.inside.peers.items) c.first-at.result (c.first-at.ensures ∙ ap (λ n. foremost (heads_of n heads)) c.class_in-class.ensures)

pub behind-at-requires : goal.behind-at-requires
behind-at-requires c =
    let heads = c.self.inside.heads in
    let head = c.in-Some.head in
    let own = at_head (c.args.transport * 2) heads (sends c.args.sites.now.items c.self.inside.peers.items) head c.loop-at.at c.in-Some.is c.loop-at.invariant in
    all_stand (λ (e : Ticket). e.group < heads.lanes) head heads.items c.stand_sorted.ensures.known (found (is_of head.group) head heads.items own.0.first).0

pub loop-at-smaller : goal.loop-at-smaller
loop-at-smaller c =
    walk_smaller (c.args.transport * 2) c.self.inside.heads (sends c.args.sites.now.items c.self.inside.peers.items) c.in-Some.head c.loop-at.at c.behind-at.result c.in-Some.is c.loop-at.invariant c.behind-at.ensures

pub loop-at-preserved : goal.loop-at-preserved
loop-at-preserved c =
    walk_goes (c.args.transport * 2) c.self.inside.heads (sends c.args.sites.now.items c.self.inside.peers.items) c.in-Some.head c.loop-at.at c.behind-at.result c.in-Some.is c.loop-at.invariant
    (ap is_some (sym c.sent_in.ensures ∙ c.in_default-sent_in.is)) c.behind-at.ensures

pub returns-in-Some-sent_in : goal.returns-in-Some-sent_in
returns-in-Some-sent_in c =
    let a = c.self.inside in
    let t = c.args.transport in
    let h = c.in_ok-line.ensures.lookup in
    let line = c.in_ok-line.line.now in
    let there = at_got t a.lines.items c.deref.result.now line c.deref.ensures.value h.0 h.1 in
    let below = ltb-true t (length a.lines.items) (sym (h.0 ∙ ap (λ xs. ltb t (length xs)) c.deref.ensures.value)) in
    let s = c.stand_apart.ensures in
    let shut = subst (λ (v : Turning). HaveNoSpace c.args.sites.now.items v.suspended) (sym c.self.view_is) c.requires in
    let own = at_head (t * 2) a.heads (sends c.args.sites.now.items a.peers.items) c.in-Some.head c.loop-at.at c.in-Some.is c.loop-at.invariant in
    c.job.ensures
    ∙ job_first c.args.sites.now.items a.lines.items t line there below s.apart s.each s.rise a.lanes.items c.stand_apart-3.ensures.apart a.peers.items c.stand_apart-2.ensures.apart a.heads c.stand_sorted.ensures.rising a.suspended.items shut c.self.invariant.places c.in-Some.head own.0 own.1 c.in-Some-sent_in.id (sym c.sent_in.ensures ∙ c.in-Some-sent_in.is)
    ∙ ap (find (λ (j : Job). is_able c.args.sites.now.items (values_of a.peers.items) t j.id)) (sym (jobs_at t a.lines.items line there))
    ∙ ap (λ (v : Turning). find (λ (j : Job). is_able c.args.sites.now.items v.peers t j.id) (line_at t v.lines)) c.self.view_is

pub returns : goal.returns
returns c =
    let a = c.self.inside in
    let t = c.args.transport in
    let h = c.in_ok-line.ensures.lookup in
    let line = c.in_ok-line.line.now in
    let there = at_got t a.lines.items c.deref.result.now line c.deref.ensures.value h.0 h.1 in
    let below = ltb-true t (length a.lines.items) (sym (h.0 ∙ ap (λ xs. ltb t (length xs)) c.deref.ensures.value)) in
    let s = c.stand_apart.ensures in
    let shut = subst (λ (v : Turning). HaveNoSpace c.args.sites.now.items v.suspended) (sym c.self.view_is) c.requires in
    let fail = subst (WalksAt (t * 2) a.heads (sends c.args.sites.now.items a.peers.items)) c.in_default.is c.loop-at.invariant in
    sym (none_able c.args.sites.now.items a.lines.items t line there below s.apart s.each s.rise a.lanes.items c.stand_apart-3.ensures.apart a.peers.items c.stand_apart-2.ensures.apart a.heads c.stand_sorted.ensures.rising a.suspended.items shut c.self.invariant.places fail)
    ∙ ap (find (λ (j : Job). is_able c.args.sites.now.items (values_of a.peers.items) t j.id)) (sym (jobs_at t a.lines.items line there))
    ∙ ap (λ (v : Turning). find (λ (j : Job). is_able c.args.sites.now.items v.peers t j.id) (line_at t v.lines)) c.self.view_is
