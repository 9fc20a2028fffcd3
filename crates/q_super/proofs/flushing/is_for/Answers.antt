use Rattle.std.proofs.Common.{◌∙◌, IsTrue, Option, subst, sym}
use Rattle.std.specs.Prelude.{IfSome, IsSomeAnd}
use Rattle.q_books.proofs.Results.{if_ok}
use Rattle.q_model.specs.Message.{pending}
use Rattle.q_model.specs.SpoolFiles.{Files}
use Rattle.q_pending.specs.Readings.{IsPendingAhead}
use Rattle.q_pending.specs.declared.pending.Pending.{Pending}
use Rattle.q_super.specs.GivingUp.{IsQueueFile}
use Rattle.q_super.specs.declared.acts.Act.TheVariants as acts
use Rattle.q_super.proofs.AllTaken.{for_message, for_none}
use Rattle.q_super.proofs.ExpiredMessages.{message_at, no_message, of_queue_file, source_sound}
use Rattle.q_super.proofs.flushing.is_for.Goals as goal

pub returns-in-Some-clause-selects : goal.returns-in-Some-clause-selects
returns-in-Some-clause-selects g c = if_ok c.has_in_domain.result (λ has k t b h there.
    let f = (g.H.Host.view c.args.host.now).files in
    let st = c.in_ok-reader.ensures.stays t in
    let queue = (subst (λ (o : Option Pending). IfSome o (λ _. IsTrue g.H.Host.tells → IsQueueFile f c.args.file)) c.in-Some.is c.in_ok-reader.ensures.message) t in
    let m = of_queue_file f b c.args.file h there (source_sound acts.Requeue c.args.file.place c.requires.from) queue in
    let ahead = subst (λ (o : Option Pending). IsSomeAnd o (λ p. IsPendingAhead f m.0 p (pending m.0))) c.in-Some.is (c.in_ok-reader.ensures.ahead t m.0 (message_at f b c.args.file m.0 h there m.1)) in
    k t m.0 (pending m.0) (subst (λ (fs : Files). IsPendingAhead fs m.0 c.in-Some.reader (pending m.0)) (sym st.files) ahead) ∙ sym (for_message c.args.domain.now b c.args.file m.0 m.1)) c.has_in_domain.ensures.has

pub returns-in-None-clause-selects : goal.returns-in-None-clause-selects
returns-in-None-clause-selects g c t b h there =
    let f = (g.H.Host.view c.args.host.now).files in
    let none = no_message f b c.args.file h there (λ m is. subst (λ (o : Option Pending). IsSomeAnd o (λ p. IsPendingAhead f m p (pending m))) c.in-None.is (c.in_ok-reader.ensures.ahead t m is)) in
    sym (for_none c.args.domain.now b c.args.file none)
