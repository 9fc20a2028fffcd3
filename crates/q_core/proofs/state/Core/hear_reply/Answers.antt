use Rattle.std.proofs.Common.{◌≡◌, ◌∙◌, ap, false, sym, subst, Option, None, Some, true}
use Rattle.q_model.specs.Step.{after}
use Rattle.q_model.specs.Values.{Site}
use Rattle.q_core.proofs.ReplyLaws.{reply_in_flight, reply_law}
use Rattle.q_core.proofs.SpaceLaws.{flight_has_space}
use Rattle.q_core.specs.Leaving.{AreAdded}
use Rattle.q_core.proofs.UsedLaws.{has_left, tidied_left}
use Rattle.q_core.specs.Changes.{left_sites}
use Rattle.q_core.specs.Queries.{flight_in}
use Rattle.q_core.specs.declared.state.Core.{Core}
use Rattle.q_core.proofs.state.Core.hear_reply.Goals as goal

pub returns-in_default-clause-exact : goal.returns-in_default-clause-exact
returns-in_default-clause-exact c = λ w l a may.
    let f = reply_in_flight a c.args.number c.args.state c.args.outcomes.now may in
    let none : AreAdded c.args.self.now c.add_outcomes.new.self c.args.number c.args.outcomes.now None =
    subst (λ (o : Option Site). AreAdded c.args.self.now c.add_outcomes.new.self c.args.number c.args.outcomes.now o) c.in_default.is c.add_outcomes.ensures.added in
    let bad : true ≡ false = sym (flight_has_space a c.args.number f.0 f.1) ∙ none f.0 f.1 in cc

pub returns-clause-exact : goal.returns-clause-exact
unfolding after
returns-clause-exact c = λ w l a may.
    let f = reply_in_flight a c.args.number c.args.state c.args.outcomes.now may in
    let added : AreAdded c.args.self.now c.add_outcomes.new.self c.args.number c.args.outcomes.now (Some c.in-Some.site) =
    subst (λ (o : Option Site). AreAdded c.args.self.now c.add_outcomes.new.self c.args.number c.args.outcomes.now o) c.in-Some.is c.add_outcomes.ensures.added in
    let replied = added f.0 f.1 in
    let v = c.hear_site.new.self in
    let y = c.land.new.self in
    let flying : flight_in v c.args.number ≡ Some f.0 =
    ap (λ (s : Core). flight_in s c.args.number) c.hear_site.ensures.rest ∙ ap (λ (s : Core). flight_in s c.args.number) replied.rest ∙ f.1 in
    let left : y.sites ≡ left_sites y v.sites c.in-Some.site = c.land.ensures.left f.0 flying ∙ ap (left_sites y v.sites) (sym replied.there) in
    reply_law a c.requires.seen c.args.number c.args.state c.args.outcomes.now c.in-Some.site f.0 f.1 replied c.hear_site.ensures c.land.ensures.landed
    (has_left y c.tidy.new.self v.sites c.in-Some.site left) (tidied_left y c.tidy.new.self v.sites c.in-Some.site left c.tidy.ensures)
