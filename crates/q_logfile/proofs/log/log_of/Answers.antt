use Rattle.std.proofs.Common.{ap, [], List, ℕ, ◌∙◌}
use Rattle.std.specs.Prelude.{unwrap_or}
use Rattle.q_model.specs.declared.spot.Area.TheVariants as areas
use Rattle.q_model.specs.FailureLog.{log_records}
use Rattle.q_model.specs.IdTexts.{id_text}
use Rattle.q_logfile.proofs.LogLaws.{log_read}
use Rattle.q_logfile.proofs.log.log_of.Goals as goal

pub returns-clause-records : goal.returns-clause-records
returns-clause-records g c t =
    let files = (g.H.Host.view c.args.host.now).files in
    c.in_ok-records.ensures.read ∙ ap log_records (c.as_slice.ensures.value ∙ c.in_ok-bytes.ensures.bytes t ∙ ap (λ (n : List ℕ). unwrap_or (files areas.Bounce n) []) c.id_name.ensures) ∙ log_read (files areas.Bounce (id_text c.args.id))
