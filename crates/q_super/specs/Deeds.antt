-- What a tool does on a book, deed by deed: steps, and the line of each message behind its steps.
use Rattle.std.specs.Option.{option_map_or}
use Rattle.std.specs.Prelude.{◌++◌, ◌-◌, ◌^◌, [], Bool, codes, false, filter, flat_map, if◌then◌else◌, length, List, map, min, ℕ, ◌∷◌}
use Rattle.q_model.specs.declared.id.Id.{Id}
use Rattle.q_model.specs.declared.rows.Place.{Place}
use Rattle.q_model.specs.Book.{Book, message_of, stands_in}
use Rattle.q_model.specs.IdTexts.{id_text}
use Rattle.q_model.specs.Message.{Message, pending}
use Rattle.q_model.specs.Text.{spaced}
use Rattle.q_model.specs.TextParts.{text_line}
use Rattle.q_model.specs.ToolSteps.{fails, moves, ToolStep}
use Rattle.q_super.specs.declared.acts.Act.{Act}
use Rattle.q_super.specs.declared.standing.Standing.{Standing}
use Rattle.q_super.specs.Acts.{goal_of, takes, word_of}
use Rattle.q_super.specs.Domains.{has_in_domain}
use Rattle.q_super.specs.Standings.{taken}
use Rattle.q_model.specs.declared.rows.Place.TheVariants as places
use Rattle.q_super.specs.declared.acts.Act.TheVariants as acts

-- a deed: a step is done, or a line is told
pub data Deed : Type 0 where
  does : ToolStep → Deed
  tells : List ℕ → Deed

-- the step of a deed, if it is one
abbrev pub steps_of : Deed → List ToolStep
steps_of (does step) = step ∷ []
steps_of (tells line) = []

-- the steps among deeds
abbrev pub steps_in : List Deed → List ToolStep
steps_in [] = []
steps_in (d ∷ ds) = steps_of d ++ steps_in ds

-- what a deed tells
abbrev pub told_by : Deed → List ℕ
told_by (does step) = []
told_by (tells line) = line

-- the lines among deeds, one behind another
abbrev pub lines_in : List Deed → List ℕ
lines_in [] = []
lines_in (d ∷ ds) = told_by d ++ lines_in ds

-- ---- one message

-- the line of a message, with the word of what was done
abbrev pub line_of : List ℕ → Id → List ℕ
line_of word id = text_line (word ++ spaced (id_text id))

-- its file moves, and its line is told
abbrev pub moving : List ℕ → Place → Id → List Deed
moving word place id = does (moves id place) ∷ tells (line_of word id) ∷ []

-- these recipients of it fail, one behind another
abbrev pub failing : Id → List ℕ → List Deed
failing id positions = map (λ position. does (fails id position)) positions

-- it is taken to active, the pending recipients fail, and its line is told
abbrev pub expiring : Message → List Deed
expiring m = does (moves m.id places.Active)
    ∷ failing m.id (pending m) ++ tells (line_of (word_of acts.Expire) m.id) ∷ []

-- ---- the acts

-- of an id: nothing where no file of it stands at a place from which the act takes messages
abbrev pub moving_from : Act → Id → Book → List Deed
moving_from act id b =
    if stands_in (takes act) b id then moving (word_of act) (goal_of act) id else []

-- the message of an id is given up; a damaged file is no message
abbrev pub expired : Book → Id → List Deed
expired b id = option_map_or expiring (message_of b id) []

abbrev pub expiring_from : Id → Book → List Deed
expiring_from id b = if stands_in (takes acts.Expire) b id then expired b id else []

abbrev pub deeds_of : Act → Id → Book → List Deed
deeds_of acts.Hold id b = moving_from acts.Hold id b
deeds_of acts.Release id b = moving_from acts.Release id b
deeds_of acts.Requeue id b = moving_from acts.Requeue id b
deeds_of acts.Expire id b = expiring_from id b

-- each of these files moves, and its line is told
abbrev pub moving_each : List ℕ → Place → List Standing → List Deed
moving_each word place files = flat_map (λ s. moving word place s.id) files

-- how many they are; a count of 32 bits, which stays at its last value
abbrev pub moved_count : List Standing → ℕ
moved_count files = min (length files) (2 ^ 32 - 1)

-- of all files that the act takes
abbrev pub all_deeds : Act → Book → List Deed
all_deeds act b = moving_each (word_of act) (goal_of act) (taken act b)

-- ---- messages for a domain

-- a recipient of the message that is pending has this domain, in whatever case
abbrev pub is_for : List ℕ → Message → Bool
is_for domain m = has_in_domain domain m (pending m)

-- the file is that of such a message
abbrev pub is_file_for : List ℕ → Book → Standing → Bool
is_file_for domain b s = option_map_or (is_for domain) (message_of b s.id) false

-- the deferred messages for the domain come in anew
abbrev pub flushed : List ℕ → Book → List Standing
flushed domain b = filter (is_file_for domain b) (taken acts.Requeue b)

abbrev pub flush_deeds : List ℕ → Book → List Deed
flush_deeds domain b = moving_each (codes "flush") places.Incoming (flushed domain b)
