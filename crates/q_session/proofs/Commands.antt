-- A command that is put together in the outbox.
use Rattle.std.proofs.Common.{◌≡◌, ◌<◌, List, [], ◌∷◌, ◌++◌, length, get_or, ℕ, Option, append_assoc, sym, ap, ◌∙◌}
use Rattle.std.proofs.lemmas.Option.{slice_get-get_or}
use Rattle.std.specs.Option.{option_map_or}
use Rattle.std.specs.Prelude.{codes, slice_get}
use Rattle.q_smtp.specs.ContentLines.{crlf}
use Rattle.q_smtp.specs.Dialogue.{rcpt_line}
use Rattle.q_session.specs.Course.{command_line}
use Rattle.q_session.specs.Outgoing.{Outgoing}
use Rattle.q_session.specs.declared.dialogue.Command.{Command}
use Rattle.q_session.specs.declared.dialogue.Command.TheVariants.{Rcpt}

abbrev with_bytes : List ℕ → Outgoing → Outgoing
with_bytes bytes o = record { bytes = o.bytes ++ bytes; gone = o.gone }

rcpt_bytes : (named : List ℕ) → (codes "RCPT TO:<" ++ named) ++ 62 ∷ 13 ∷ 10 ∷ [] ≡ rcpt_line named
rcpt_bytes named = ap (λ (xs : List ℕ). codes "RCPT TO:<" ++ xs) (sym (append_assoc named (codes ">") crlf))

-- RCPT for the address at a place
pub rcpt_said : (sender : Option (List ℕ)) (to : List (List ℕ)) (command : Command) (place : ℕ) (address named : List ℕ) (none begun longer whole : Outgoing)
    → command ≡ Rcpt place → place < length to → address ≡ get_or to place address → named ≡ address
    → none ≡ record { bytes = []; gone = 0 } → begun ≡ with_bytes (codes "RCPT TO:<") none → longer ≡ with_bytes named begun → whole ≡ with_bytes (62 ∷ 13 ∷ 10 ∷ []) longer
    → whole ≡ record { bytes = command_line sender to command; gone = 0 }
rcpt_said sender to command place address named none begun longer whole is there at same empty first second third =
    let line : option_map_or rcpt_line (slice_get to place) [] ≡ rcpt_line named =
    ap (λ (o : Option (List ℕ)). option_map_or rcpt_line o []) (slice_get-get_or to place address there) ∙ ap rcpt_line (sym (same ∙ at)) in
    third ∙ ap (with_bytes (62 ∷ 13 ∷ 10 ∷ [])) (second ∙ ap (with_bytes named) (first ∙ ap (with_bytes (codes "RCPT TO:<")) empty))
    ∙ ap (λ (xs : List ℕ). record { bytes = xs; gone = 0 }) (rcpt_bytes named ∙ sym line ∙ ap (λ (x : Command). command_line sender to x) (sym is))
