-- The lines of a trace.
use Rattle.std.specs.Prelude.{◌++◌, ◌==◌, [], codes, decimal, flat_map, if◌then◌else◌, length, List, map, None, Option, slice_get, Some, unwrap_or, ℕ, ◌∷◌}
use Rattle.q_model.specs.declared.entry.Entry.{Entry}
use Rattle.q_model.specs.declared.event.Mode.{Mode}
use Rattle.q_model.specs.declared.event.Mode.TheVariants.{Deliver, Intake}
use Rattle.q_model.specs.declared.event.Trigger.{Trigger}
use Rattle.q_model.specs.declared.outcome.Outcome.{Outcome}
use Rattle.q_model.specs.declared.outcome.SiteState.{SiteState}
use Rattle.q_model.specs.declared.outcome.SiteState.TheVariants.{Down, Up}
use Rattle.q_model.specs.IdTexts.{id_text}
use Rattle.q_model.specs.TextParts.{text_line, why_text}
use Rattle.q_model.specs.Settings.{Table}
use Rattle.q_model.specs.declared.entry.Entry.TheVariants as entries
use Rattle.q_model.specs.declared.outcome.Outcome.TheVariants as outcomes
use Rattle.q_model.specs.declared.event.Trigger.TheVariants as triggers

-- an address, or `<>` for the null sender
abbrev pub sender_text : Option (List ℕ) → List ℕ
sender_text None = codes "<>"
sender_text (Some address) = address

-- the word for the state of a site
abbrev pub state_text : SiteState → List ℕ
state_text Up = codes "up"
state_text Down = codes "down"

-- a word with its code, where there is one
abbrev pub coded : List ℕ → ℕ → List ℕ
coded word code = if code == 0 then word else word ++ 58 ∷ decimal code

-- the word for an outcome
abbrev pub outcome_text : Outcome → List ℕ
outcome_text outcomes.Ok = codes "ok"
outcome_text (outcomes.Later code) = coded (codes "later") code
outcome_text (outcomes.Never code) = coded (codes "never") code

-- the letter of a trigger
abbrev pub trigger_text : Trigger → List ℕ
trigger_text triggers.D = codes "D"
trigger_text triggers.A = codes "A"
trigger_text triggers.F = codes "F"

-- an intake life says so
abbrev pub mode_words : Mode → List (List ℕ)
mode_words Deliver = []
mode_words Intake = codes "intake" ∷ []

-- the name of a transport
abbrev pub transport_text : Table → ℕ → List ℕ
transport_text table n = unwrap_or (slice_get table.transports n) []

-- the words of an entry's line
abbrev pub words : Table → Entry → List (List ℕ)
words table (entries.Life generation mode) = codes "life" ∷ decimal generation ∷ mode_words mode
words table (entries.At t) = codes "at" ∷ decimal t ∷ []
words table (entries.Arrive id sender to content) =
    codes "arrive" ∷ id_text id ∷ sender_text sender ∷ decimal (length content) ∷ map (λ r. r.address) to
words table (entries.Back id) = codes "back" ∷ id_text id ∷ []
words table (entries.Admit id) = codes "admit" ∷ id_text id ∷ []
words table (entries.Load id from to) = codes "load" ∷ id_text id ∷ decimal from ∷ decimal to ∷ []
words table (entries.Start number id site positions) =
    codes "start" ∷ decimal number ∷ id_text id ∷ transport_text table site.transport ∷ site.hop
    ∷ map decimal positions
words table (entries.Preempt child parent transport need) =
    codes "preempt" ∷ id_text child ∷ id_text parent ∷ transport_text table transport ∷ decimal need ∷ []
words table (entries.Reply number state outcomes) =
    codes "reply" ∷ decimal number ∷ state_text state ∷ map outcome_text outcomes
words table (entries.Skip id site positions) =
    codes "skip" ∷ id_text id ∷ transport_text table site.transport ∷ site.hop ∷ map decimal positions
words table (entries.Log id f) = codes "log" ∷ id_text id ∷ decimal f.position ∷ why_text f.why ∷ decimal f.code ∷ []
words table (entries.Mark id position) = codes "mark" ∷ id_text id ∷ decimal position ∷ []
words table (entries.Sync id) = codes "sync" ∷ id_text id ∷ []
words table (entries.Defer id due) = codes "defer" ∷ id_text id ∷ decimal due ∷ []
words table (entries.Bounce id) = codes "bounce" ∷ id_text id ∷ []
words table (entries.Remove id) = codes "remove" ∷ id_text id ∷ []
words table (entries.Corrupt id) = codes "corrupt" ∷ id_text id ∷ []
words table (entries.Trigger kind) = codes "trigger" ∷ trigger_text kind ∷ []
words table entries.End = codes "end" ∷ []

-- a space and a word
abbrev pub spaced : List ℕ → List ℕ
spaced word = 32 ∷ word

-- the words with a space between each two
abbrev pub joined : List (List ℕ) → List ℕ
joined [] = []
joined (word ∷ words) = word ++ flat_map spaced words

-- the line of an entry
unfoldable pub line : Table → Entry → List ℕ
line table e = text_line (joined (words table e))

-- the lines of these entries
unfoldable pub text : Table → List Entry → List ℕ
text table es = flat_map (line table) es
