-- The figures of a spool in the text format that Prometheus reads: of each figure two lines that
-- say what it is, and a line for each of its values.
use Rattle.std.specs.Option.{option_map_or}
use Rattle.std.specs.Prelude.{◌++◌, [], codes, decimal, List, Option, ℕ, ◌∷◌}
use Rattle.q_model.specs.Book.{Book}
use Rattle.q_model.specs.Text.{spaced}
use Rattle.q_model.specs.TextParts.{text_line}
use Rattle.q_views.specs.declared.figures.Figures.{Figures}
use Rattle.q_views.specs.declared.figures.QueueCounts.{QueueCounts}
use Rattle.q_views.specs.Tallies.{figures_of, messages_of, recipients_of}

-- what a figure is
abbrev pub head_lines : List ℕ → List ℕ → List ℕ
head_lines name help = text_line (codes "# HELP " ++ name ++ spaced help)
    ++ text_line (codes "# TYPE " ++ name ++ codes " gauge")

-- its value
abbrev pub value_line : List ℕ → ℕ → List ℕ
value_line name value = text_line (name ++ spaced (decimal value))

-- its value of a queue
abbrev pub queue_line : List ℕ → List ℕ → ℕ → List ℕ
queue_line name queue value = text_line (name ++ codes "{queue=" ++ 34 ∷ queue ++ 34 ∷ codes "}"
    ++ spaced (decimal value))

-- a moment; without one no line
abbrev pub moment_line : List ℕ → Option ℕ → List ℕ
moment_line name moment = option_map_or (value_line name) moment []

abbrev pub queue_moment_line : List ℕ → List ℕ → Option ℕ → List ℕ
queue_moment_line name queue moment = option_map_or (queue_line name queue) moment []

-- ---- figures with their names

-- a count of each queue
abbrev pub counts_text : List ℕ → List ℕ → QueueCounts → List ℕ
counts_text name help counts = head_lines name help
    ++ queue_line name (codes "incoming") counts.incoming
    ++ queue_line name (codes "active") counts.active
    ++ queue_line name (codes "deferred") counts.deferred
    ++ queue_line name (codes "hold") counts.hold

-- the oldest arrival in each queue
abbrev pub arrivals_text : List ℕ → List ℕ → Figures → List ℕ
arrivals_text name help s = head_lines name help
    ++ queue_moment_line name (codes "incoming") s.incoming.oldest
    ++ queue_moment_line name (codes "active") s.active.oldest
    ++ queue_moment_line name (codes "deferred") s.deferred.oldest
    ++ queue_moment_line name (codes "hold") s.hold.oldest

-- a moment, and a number
abbrev pub moment_text : List ℕ → List ℕ → Option ℕ → List ℕ
moment_text name help moment = head_lines name help ++ moment_line name moment

abbrev pub value_text : List ℕ → List ℕ → ℕ → List ℕ
value_text name help value = head_lines name help ++ value_line name value

unfoldable pub messages_text : Figures → List ℕ
messages_text s =
    counts_text (codes "qmgr_messages") (codes "Messages in the queue.") (messages_of s)

unfoldable pub recipients_text : Figures → List ℕ
recipients_text s = counts_text (codes "qmgr_pending_recipients")
    (codes "Pending recipients of the messages in the queue.") (recipients_of s)

unfoldable pub oldest_text : Figures → List ℕ
oldest_text s = arrivals_text (codes "qmgr_oldest_arrival_timestamp_seconds")
    (codes "Arrival of the oldest message in the queue.") s

unfoldable pub due_text : Figures → List ℕ
due_text s = moment_text (codes "qmgr_next_due_timestamp_seconds")
    (codes "When the first message in deferred is due.") s.deferred.due

unfoldable pub generation_text : Figures → List ℕ
generation_text s = value_text (codes "qmgr_generation")
    (codes "Generation of the last life, 0 before the first.") s.generation

-- all figures
abbrev pub figures_text : Figures → List ℕ
figures_text s =
    messages_text s ++ recipients_text s ++ oldest_text s ++ due_text s ++ generation_text s

-- what is told of a book
abbrev pub status_text : Book → List ℕ
status_text b = figures_text (figures_of b)
