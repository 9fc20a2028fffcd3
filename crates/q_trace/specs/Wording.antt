-- The words of the lines that have many.
use Rattle.std.specs.Prelude.{◌++◌, [], codes, decimal, length, List, map, Option, ℕ, ◌∷◌, ◌≡◌}
use Rattle.q_model.specs.declared.entry.Entry.{Entry}
use Rattle.q_model.specs.declared.id.Id.{Id}
use Rattle.q_model.specs.declared.outcome.Failure.{Failure}
use Rattle.q_model.specs.declared.outcome.Outcome.{Outcome}
use Rattle.q_model.specs.declared.outcome.SiteState.{SiteState}
use Rattle.q_model.specs.IdTexts.{id_text}
use Rattle.q_model.specs.Settings.{Table}
use Rattle.q_model.specs.Text.{joined, outcome_text, sender_text, spaced, state_text, transport_text, words}
use Rattle.q_model.specs.TextParts.{why_text}
use Rattle.q_model.specs.Values.{Receiver, Site}

abbrev pub arrive_words : Id → Option (List ℕ) → List Receiver → List ℕ → List (List ℕ)
arrive_words id sender to content =
    codes "arrive" ∷ id_text id ∷ sender_text sender ∷ decimal (length content) ∷ map (λ r. r.address) to

abbrev pub reply_words : ℕ → SiteState → List Outcome → List (List ℕ)
reply_words number state outcomes =
    codes "reply" ∷ decimal number ∷ state_text state ∷ map outcome_text outcomes

abbrev pub log_words : Id → Failure → List (List ℕ)
log_words id failure = codes "log" ∷ id_text id ∷ decimal failure.position ∷ why_text failure.why
    ∷ decimal failure.code ∷ []

-- a site's two words, each behind a space
abbrev pub spaced_site : Table → Site → List ℕ
spaced_site table site = spaced (transport_text table site.transport) ++ spaced site.hop

-- this is the entry's line without its end
abbrev pub WritesEntry : Table → Entry → List ℕ → Type 0
WritesEntry table entry text = text ≡ joined (words table entry)
