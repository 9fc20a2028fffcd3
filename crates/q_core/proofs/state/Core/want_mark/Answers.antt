use Rattle.q_core.proofs.CodeLaws.{marked_loggable}
use Rattle.std.proofs.Common.{◌∙◌, ap, refl, sym}
use Rattle.std.specs.Option.{option_copied}
use Rattle.q_core.proofs.MarkedFirst.{marked_first, none_marked}
use Rattle.q_core.proofs.TiedLaws.{tied_logged}
use Rattle.q_core.specs.State.{State}
use Rattle.q_held.specs.Held.{rows_of}
use Rattle.q_model.specs.Logs.{first_logged}
use Rattle.q_model.specs.declared.rows.Unsettled.{Unsettled}
use Rattle.q_queue.specs.Queued.{Queued}
use Rattle.q_core.proofs.state.Core.want_mark.Goals as goal

pub invariant_of-self : goal.invariant_of-self
invariant_of-self c =
    let a = c.self.inside in
    let there = sym c.first.ensures ∙ ap option_copied c.in-Some.is in
    let items = ap (λ (q : Queued Unsettled). q.items) c.set_first.ensures ∙ marked_first a.unsettled.items c.in-Some.first.now there in (
      rw items (tied_logged a.params a.admitted (rows_of a.waiting.items) a.flights.items a.unsettled.items a.starts c.self.invariant.0),
      c.self.invariant.1,
      c.self.invariant.2,
      c.self.invariant.3,
      c.self.invariant.4,
      c.self.invariant.5,
      record {
        deliveries = c.self.invariant.6.deliveries;
        asked = c.self.invariant.6.asked;
        names = c.self.invariant.6.names;
        named_few = c.self.invariant.6.named_few;
        outcomes = ap (λ (q : Queued Unsettled). q.room) c.set_first.ensures ∙ c.self.invariant.6.outcomes;
        codes = rw items (marked_loggable a.unsettled.items c.self.invariant.6.codes);
        dated = c.self.invariant.6.dated;
      },
      c.self.invariant.7,
      c.self.invariant.8,
      c.self.invariant.9,
    )

pub returns-in-Some-clause-change : goal.returns-in-Some-clause-change
returns-in-Some-clause-change c =
    let a = c.self.inside in
    let there = sym c.first.ensures ∙ ap option_copied c.in-Some.is in
    record {
      rest = ap (λ (s : State). record s { unsettled = c.set_first.new.self.items; in_memory = a.in_memory }) c.self.view_is;
      unsettled = ap (λ (q : Queued Unsettled). q.items) c.set_first.ensures ∙ marked_first a.unsettled.items c.in-Some.first.now there ∙ ap (λ (s : State). first_logged s.unsettled) c.self.view_is;
    }

pub returns-in_default-clause-change : goal.returns-in_default-clause-change
returns-in_default-clause-change c = record {
  rest = refl;
  unsettled = none_marked c.args.self.now.unsettled c.self.inside.unsettled.items (ap (λ (s : State). s.unsettled) (sym c.self.view_is)) (sym c.first.ensures ∙ ap option_copied c.in_default.is);
}
