use Rattle.std.proofs.Common.{◌≡◌, subst, None}
use Rattle.std.proofs.lemmas.Bool.{and_parts}
use Rattle.std.specs.List.{list_all}
use Rattle.q_model.specs.Replies.{fits_state}
use Rattle.q_model.specs.declared.event.Event.{Event}
use Rattle.q_core.specs.Hearing.{has_log_code}
use Rattle.q_engine.specs.Heard.{IsEventInForm}
use Rattle.q_engine.specs.Refusals.{IsAdmissible, refused_event}
use Rattle.q_engine.proofs.Accepted.{reply_accepted}
use Rattle.q_engine.proofs.engine.Engine.hear.Goals as goal

pub hear_reply-requires-clause-fits : goal.hear_reply-requires-clause-fits
hear_reply-requires-clause-fits g c w l a n =
    reply_accepted l c.in-Reply.number c.in-Reply.site c.in-Reply.outcomes
    (subst (λ (ev : Event). refused_event l ev ≡ None) c.in-Reply.is (c.requires.accepted w l a n))
    (subst (λ (ev : Event). IsEventInForm ev) c.in-Reply.is c.requires.form)

pub hear_reply-requires-clause-codes : goal.hear_reply-requires-clause-codes
hear_reply-requires-clause-codes g c =
    (and_parts (fits_state c.in-Reply.site c.in-Reply.outcomes) (list_all has_log_code c.in-Reply.outcomes) (subst (λ (ev : Event). IsEventInForm ev) c.in-Reply.is c.requires.form)).1

pub hear_reply-requires-clause-timed : goal.hear_reply-requires-clause-timed
hear_reply-requires-clause-timed g c = (subst (λ (ev : Event). IsAdmissible c.args.self.now ev) c.in-Reply.is c.requires.admissible).0

pub hear_reply-requires-clause-flies : goal.hear_reply-requires-clause-flies
hear_reply-requires-clause-flies g c = (subst (λ (ev : Event). IsAdmissible c.args.self.now ev) c.in-Reply.is c.requires.admissible).1

pub hear_mail-requires-clause-some : goal.hear_mail-requires-clause-some
hear_mail-requires-clause-some g c = (subst (λ (ev : Event). IsEventInForm ev) c.in-Mail.is c.requires.form).1

pub hear_mail-requires-clause-others : goal.hear_mail-requires-clause-others
hear_mail-requires-clause-others g c = (subst (λ (ev : Event). IsEventInForm ev) c.in-Mail.is c.requires.form).0
