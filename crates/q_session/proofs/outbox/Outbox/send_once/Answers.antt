use Rattle.q_link.specs.declared.usage.Usage.TheVariants.{Misused}
use Rattle.q_link.specs.Views.{View}
use Rattle.q_session.proofs.Using.{open_unmisused, written_once}
use Rattle.std.proofs.Common.{◌≡◌, ◌-◌, List, sym, ap, ◌∙◌, subst, ◌≢◌, ℕ}
use borrow.Rule.Slice.PartMut.{mid_of}
use Rattle.q_session.specs.Outgoing.{pending}
use Rattle.q_session.specs.Polls.{SendsOnce}
use Rattle.q_session.proofs.Outboxes.{window}
use Rattle.q_session.proofs.Traffic.{sends_none, sends_once_of, tells_nothing, tells_of}
use Rattle.q_session.proofs.outbox.Outbox.send_once.Goals.{then-self, else-self}
use Rattle.q_session.proofs.outbox.Outbox.send_once.Goals as goal

pub returns-clause-sends : goal.returns-clause-sends
returns-clause-sends g c =
    let now = c.self.inside in
    let view = g.L.Link.view in
    let rest : mid_of now.from (now.to - now.from) now.bytes.value ≡ pending c.args.self.now = window now.from now.to now.bytes.value c.self.invariant.0 ∙ ap pending c.self.view_is in
    elim c.if-self.branch [
      | then-self w ↦ tells_of (SendsOnce (pending c.args.self.now)) (view c.args.link.now) (view w.write.new.self) (view c.if-self.link) (sym (ap view w.link-is))
          (sends_once_of _ _ (ap (λ (xs : List ℕ). mid_of now.from (now.to - now.from) xs) w.deref.ensures ∙ rest) (view c.args.link.now) (view w.write.new.self) w.write.result w.write.ensures.writes)
      | else-self w ↦ tells_of (SendsOnce (pending c.args.self.now)) (view c.args.link.now) (view c.args.link.now) (view c.if-self.link) (sym (ap view w.link-is))
          (tells_nothing (SendsOnce (pending c.args.self.now)) (view c.args.link.now) (sends_none (pending c.args.self.now)))
    ]

pub returns-clause-uses : goal.returns-clause-uses
returns-clause-uses g c =
    let view = g.L.Link.view in
    elim c.if-self.branch [
      | then-self w ↦ subst (λ (v : View). v.usage ≢ Misused) (sym (ap view w.link-is)) (written_once (view c.args.link.now) (view w.write.new.self) w.write.result _ c.requires.usable w.write.ensures.writes)
      | else-self w ↦ subst (λ (v : View). v.usage ≢ Misused) (sym (ap view w.link-is)) (open_unmisused (view c.args.link.now).usage c.requires.usable)
    ]
