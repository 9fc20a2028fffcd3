use Rattle.std.proofs.Common.{◌≡◌, ◌∙◌, ◌<◌, List, ℕ, ap, arith, map, sym, subst}
use Rattle.std.specs.Option.{IfSome}
use Rattle.std.specs.Prelude.{All}
use Rattle.std.proofs.lemmas.List.Elements.{All-map}
use Rattle.q_message.specs.Names.{AreNames}
use Rattle.q_model.specs.FailureLog.{failures_of}
use Rattle.q_model.specs.SpoolFiles.{Files, logged_in}
use Rattle.q_model.specs.Values.{FileHead}
use Rattle.q_model.specs.declared.outcome.Failure.{Failure}
use Rattle.q_engine.specs.BounceTexts.{IsContentFront}
use Rattle.q_engine.proofs.NoticesTold.{told_by, told_of}
use Rattle.q_engine.proofs.Unread.{err_same, unless_none}
use Rattle.q_message.specs.declared.error.MessageError.TheVariants.{NotAMessage}
use Rattle.q_engine.proofs.notices.notice_at.Goals as goal

pub read_names-requires-clause-within : goal.read_names-requires-clause-within
read_names-requires-clause-within g c =
    let count : c.head.inside.recipients ≡ c.args.head.now.recipients = ap (λ (x : FileHead). x.recipients) c.head.view_is in
    let fs = c.in_ok-failures.failures in
    let all : All (λ (p : ℕ). p < c.head.inside.recipients) (map (λ (f : Failure). f.position) fs) = All-map (λ (p : ℕ). p < c.head.inside.recipients) (λ (f : Failure). f.position) fs c.in_ok-failures.ensures.within in
    subst (λ (n : ℕ). All (λ (p : ℕ). p < n) c.in_ok-positions.positions) count
    (subst (λ (ps : List ℕ). All (λ (p : ℕ). p < c.head.inside.recipients) ps) (sym (c.in_ok-positions.ensures ∙ ap (map (λ (f : Failure). f.position)) c.as_slice.ensures)) all)

pub returns-clause-notice : goal.returns-clause-notice
returns-clause-notice g c t b m h file has =
    let v = g.H.Host.view c.args.host.now in
    let s = c.args.spot in
    let head = c.args.head.now in
    let fs = c.in_ok-failures.failures in
    let first = (c.in_ok-failures.ensures.stays t).files in
    let second = (c.in-Ok.ensures.stays t).files in
    let named = subst (λ (f : Files). IfSome (f s.area s.name) (AreNames c.in_ok-positions.positions c.in-Ok.names)) first (c.in-Ok.ensures.names t) in
    let begins = subst (λ (f : Files). IfSome (f s.area s.name) (IsContentFront c.in_ok-front.front)) (second ∙ first) (c.in_ok-front.ensures.front t) in
    let count : c.head.inside.recipients ≡ head.recipients = ap (λ (x : FileHead). x.recipients) c.head.view_is in
    let failed = c.in_ok-failures.ensures.failures t ∙ ap (λ (n : ℕ). failures_of n (logged_in v.files c.args.id)) count in
    let told = told_of v b c.args.id m s h file c.args.sender.now head fs c.in_ok-positions.positions c.in-Ok.names c.in_ok-front.front has (c.requires.reading t) failed (c.in_ok-positions.ensures ∙ ap (map (λ (f : Failure). f.position)) c.as_slice.ensures) named begins in
    let size : c.head.inside.content_len ≡ head.content_len = ap (λ (x : FileHead). x.content_len) c.head.view_is in
    c.in_ok-text.ensures.notice m (told_by m c.args.id c.args.sender.now fs c.in-Ok.names head.content_len c.head.inside.content_len c.in_ok-front.front c.as_slice-2.result.now size c.as_slice-2.ensures told)

pub returns-in-Err-clause-notice : goal.returns-in-Err-clause-notice
returns-in-Err-clause-notice g c = unless_none c.unless_damaged.result c.in-Err.error _ c.unless_damaged.ensures (λ place is. tt)

pub returns-in-Err-clause-read : goal.returns-in-Err-clause-read
returns-in-Err-clause-read g c =
    unless_none c.unless_damaged.result c.in-Err.error _ c.unless_damaged.ensures (λ place is. c.read_names.ensures.no_message place (err_same c.read_names.result c.in-Err.error (NotAMessage place) c.in-Err.is is))

pub returns-clause-short : goal.returns-clause-short
returns-clause-short g c =
    let count : c.head.inside.recipients ≡ c.args.head.now.recipients = ap (λ (x : FileHead). x.recipients) c.head.view_is in
    c.in_ok-text.ensures.room (omega (arith, c.in_ok-failures.ensures.few, count, c.requires.few))

pub returns-in-Err-clause-short : goal.returns-in-Err-clause-short
returns-in-Err-clause-short g c = unless_none c.unless_damaged.result c.in-Err.error _ c.unless_damaged.ensures (λ place is. tt)
