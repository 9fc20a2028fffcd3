use Rattle.std.proofs.Common.{◌≡◌, ◌∙◌, ◌++◌, ◌∷◌, [], List, ap, subst, sym}
use Rattle.std.specs.Prelude.{◌==◌, find, IsSome}
use Rattle.q_model.specs.Step.{after}
use Rattle.q_model.specs.declared.rows.Delivery.{Delivery}
use Rattle.q_core.proofs.RowWalkLaws.{any_place}
use Rattle.q_core.proofs.SentLaws.{last_flies, sent_law}
use Rattle.q_core.proofs.ServedChanges.{started_before, tidied_before}
use Rattle.q_core.specs.declared.state.Core.{Core}
use Rattle.q_core.specs.Sending.{is_for, served_now}
use Rattle.q_core.specs.Tidied.{tidied_served}
use Rattle.q_core.proofs.state.Core.start_delivery.Goals as goal

pub returns-clause-exact : goal.returns-clause-exact
unfolding after
returns-clause-exact c = λ ps w l a rule.
    let f = any_place (is_for c.args.id c.args.site) c.args.self.now.waiting c.requires.there in
    let u = c.send.new.self in
    let v = c.count_start.new.self in
    let now = served_now c.args.id c.args.site c.args.number c.args.self.now.served in
    let kept = ap (λ (x : Core). x.served) c.count_start.ensures.rest in
    let rows = ap (λ (x : Core). x.waiting) c.count_start.ensures.rest in
    sent_law a c.requires.seen c.args.number c.args.id c.args.site ps f.0 rule f.2.place (c.send.ensures.sent f.0 f.2.place)
    (started_before now u v c.args.id c.args.site.transport c.count_start.ensures)
    (tidied_before now v c.tidy.new.self (kept ∙ c.send.ensures.served ∙ ap (λ ws. tidied_served ws now) (sym rows)) c.tidy.ensures)

pub returns-clause-flies : goal.returns-clause-flies
returns-clause-flies c =
    let f = any_place (is_for c.args.id c.args.site) c.args.self.now.waiting c.requires.there in
    let number = c.args.number in
    let old = c.args.self.now.flights in
    let flights : c.tidy.new.self.flights ≡ old ++ record { number = number; row = f.1 } ∷ [] =
    ap (λ (x : Core). x.flights) c.tidy.ensures.rest
    ∙ ap (λ (x : Core). x.flights) c.count_start.ensures.rest
    ∙ (c.send.ensures.sent f.0 f.2.place).flights f.1 f.2.there in
    subst (λ (fs : List Delivery). IsSome (find (λ x. x.number == number) fs)) (sym flights) (last_flies old f.1 number)
