use Rattle.std.proofs.Common.{ap, List, ◌∙◌}
use Rattle.q_model.specs.declared.outcome.Note.{Note}
use Rattle.q_model.specs.FailureLog.{log_notes}
use Rattle.q_listing.specs.Listings.{last_code}
use Rattle.q_listing.proofs.CodeLaws.{notes_are}
use Rattle.q_listing.proofs.codes.codes_of.Goals as goal

pub returns-clause-codes : goal.returns-clause-codes
returns-clause-codes g c t position =
    let files = (g.H.Host.view c.args.host.now).files in
    let read = notes_are files c.args.id c.id_name.result c.in_ok-bytes.bytes.items c.in_ok-notes.notes c.id_name.ensures (c.in_ok-bytes.ensures.bytes t) (c.in_ok-notes.ensures ∙ ap log_notes c.as_slice.ensures.value) in
    c.in_ok-last_codes.ensures position ∙ ap (λ (ns : List Note). last_code ns position) (c.as_slice-2.ensures ∙ read)
