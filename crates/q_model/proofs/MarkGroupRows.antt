-- A worked run with groups of marks.
use Rattle.q_model.proofs.RowWords.{at, lines, mail, many, same_domain, told_from, up}
use Rattle.q_model.specs.IdTexts.{hex}
use Rattle.q_model.specs.Next.{next}
use Rattle.q_model.specs.Run.{decide, decisions, run, run_of, turn}
use Rattle.q_model.specs.Settings.{defaults}
use Rattle.q_model.specs.Step.{after, after_all}
use Rattle.q_model.specs.Text.{line, text}
use Rattle.q_model.specs.declared.event.LifeEvent.TheVariants.{Finish}
use Rattle.std.proofs.Common.{refl}
use Rattle.std.specs.Fmt.{digits}
use Rattle.std.specs.Prelude.{[], codes, ◌∷◌, ◌≡◌}
use Rattle.q_model.specs.declared.outcome.Outcome.TheVariants as outcomes

-- two marks are synced together, and the last one alone
synced_in_twos : told_from 8 (record defaults { mark_sync_limit = 2; entry_limit = 1 }) (at 1000 ∷ mail (codes "a@x.example") (many 3 0 same_domain) ∷ up 1 (outcomes.Ok ∷ []) ∷ up 2 (outcomes.Ok ∷ []) ∷ up 3 (outcomes.Ok ∷ []) ∷ Finish ∷ []) ≡ lines (
    codes "reply 1 up ok"
    ∷ codes "mark 00000001-00000001 0"
    ∷ codes "reply 2 up ok"
    ∷ codes "mark 00000001-00000001 1"
    ∷ codes "sync 00000001-00000001"
    ∷ codes "reply 3 up ok"
    ∷ codes "mark 00000001-00000001 2"
    ∷ codes "sync 00000001-00000001"
    ∷ codes "remove 00000001-00000001"
    ∷ codes "end"
    ∷ [])
unfolding run_of text run turn decisions decide after after_all next line digits hex
synced_in_twos = refl
