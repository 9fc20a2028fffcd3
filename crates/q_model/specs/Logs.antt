-- Entry `log`: a failure is stored.
use Rattle.std.specs.Option.{option_map_or}
use Rattle.std.specs.Prelude.{◌&&◌, ◌++◌, ◌==◌, [], Bool, false, List, slice_get, true, ◌∷◌}
use Rattle.q_model.specs.declared.id.Id.{Id}
use Rattle.q_model.specs.declared.outcome.Failure.{Failure}
use Rattle.q_model.specs.declared.outcome.Why.{Why}
use Rattle.q_model.specs.declared.outcome.Why.TheVariants.{Expired, Refused}
use Rattle.q_model.specs.declared.rows.Need.{Need}
use Rattle.q_model.specs.declared.rows.Unsettled.{Unsettled}
use Rattle.q_model.specs.BookChanges.{change_message}
use Rattle.q_model.specs.Ids.{id_eq}
use Rattle.q_model.specs.Ledger.{Ledger}
use Rattle.q_model.specs.Message.{Message}
use Rattle.q_model.specs.declared.rows.Need.TheVariants as needs

-- the same cause
abbrev pub why_eq : Why → Why → Bool
why_eq Refused Refused = true
why_eq Expired Expired = true
why_eq Refused Expired = false
why_eq Expired Refused = false

-- the need is a record of this failure
abbrev pub needs_log : Failure → Need → Bool
needs_log f (needs.Log why code) = why_eq f.why why && (f.code == code)
needs_log f needs.Mark = false

-- the first unsettled outcome needs this record
abbrev pub may_log : Ledger → Id → Failure → Bool
may_log l id f =
    option_map_or (λ u. id_eq u.id id && (u.position == f.position) && needs_log f u.need)
    (slice_get l.unsettled 0) false

-- the message with one failure more, which is sure
abbrev pub with_failure : Failure → Message → Message
with_failure f m = record m { failures = m.failures ++ record { failure = f; firm = true } ∷ [] }

-- the first row needs its mark next
abbrev pub first_logged : List Unsettled → List Unsettled
first_logged [] = []
first_logged (u ∷ us) = record u { need = needs.Mark } ∷ us

-- the failure is stored
abbrev pub after_log : Ledger → Id → Failure → Ledger
after_log l id f = record l { book = change_message l.book id (with_failure f); unsettled = first_logged l.unsettled }
