use Rattle.std.proofs.Common.{◌∙◌, ap, Err, List, subst, ℕ}
use Rattle.std.specs.List.{range_with_len}
use Rattle.std.specs.Option.{IfSome}
use Rattle.q_message.specs.Names.{AreNames}
use Rattle.q_message.specs.Told.{bytes_at}
use Rattle.q_model.specs.Values.{FileHead}
use Rattle.q_show.proofs.ShownLaws.{all_within, heads_told}
use Rattle.q_show.proofs.show.names_at.Goals as goal

pub read_names-requires-clause-reading : goal.read_names-requires-clause-reading
read_names-requires-clause-reading g c t = heads_told (bytes_at (g.H.Host.view c.args.host.now) c.args.spot) c.args.head.now (c.requires.head t)

pub read_names-requires-clause-within : goal.read_names-requires-clause-within
read_names-requires-clause-within g c =
    all_within c.args.head.now.recipients c.in_ok-positions.positions (c.in_ok-positions.ensures ∙ ap (λ (h : FileHead). range_with_len 0 h.recipients) c.head.view_is)

pub returns-in-Ok-clause-names : goal.returns-in-Ok-clause-names
returns-in-Ok-clause-names g c t =
    let u = g.H.Host.view c.args.host.now in
    subst (λ (ps : List ℕ). IfSome (bytes_at u c.args.spot) (AreNames ps c.in-Ok.names))
    (c.in_ok-positions.ensures ∙ ap (λ (h : FileHead). range_with_len 0 h.recipients) c.head.view_is) (c.in-Ok.ensures.names t)

pub returns-in-Err-NotAMessage-clause-names : goal.returns-in-Err-NotAMessage-clause-names
returns-in-Err-NotAMessage-clause-names g c t =
    absurd (c.in-Err-NotAMessage.ensures.no_message c.in-Err-NotAMessage.field-0-0 (ap Err c.in-Err-NotAMessage.field-0-is) t)
