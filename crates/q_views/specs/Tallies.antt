-- The figures of a book: how much stands in each queue, what is oldest there and what is due first.
use Rattle.std.specs.Option.{option_map_or}
use Rattle.std.specs.Prelude.{◌+◌, [], false, filter_map, length, List, map, min, None, Option, Some, true, ℕ, ◌∷◌}
use Rattle.q_listing.specs.Listings.{recipient_count}
use Rattle.q_model.specs.declared.queues.Queues.{Queues}
use Rattle.q_model.specs.declared.rows.Place.{Place}
use Rattle.q_model.specs.Book.{Book}
use Rattle.q_model.specs.Message.{Message}
use Rattle.q_model.specs.Places.{due_of}
use Rattle.q_views.specs.declared.figures.Figures.{Figures}
use Rattle.q_views.specs.declared.figures.QueueCounts.{QueueCounts}
use Rattle.q_views.specs.declared.figures.Tally.{Tally}
use Rattle.q_walk.specs.Counted.{counted}
use Rattle.q_walk.specs.Listed.{listed}

-- the earlier of a moment and one that may be known
abbrev pub earlier : Option ℕ → ℕ → ℕ
earlier known moment = option_map_or (λ k. min k moment) known moment

-- the earliest of these moments
abbrev pub earliest : List ℕ → Option ℕ
earliest [] = None
earliest (t ∷ ts) = Some (earlier (earliest ts) t)

-- how much these messages are
abbrev pub tally_of : List Message → Tally
tally_of ms = record {
  messages = length ms;
  recipients = recipient_count ms;
  oldest = earliest (map (λ m. m.arrival) ms);
  due = earliest (filter_map (λ m. due_of m.place) ms);
}

-- the same with a message more
abbrev pub tally_with : Tally → Place → ℕ → ℕ → Tally
tally_with t place arrival recipients = record {
  messages = counted (t.messages + 1);
  recipients = counted (t.recipients + recipients);
  oldest = Some (earlier t.oldest arrival);
  due = option_map_or (λ d. Some (earlier t.due d)) (due_of place) t.due;
}

-- each queue alone
abbrev pub incoming_alone : Queues
incoming_alone = record { incoming = true; active = false; deferred = false; hold = false }

abbrev pub active_alone : Queues
active_alone = record { incoming = false; active = true; deferred = false; hold = false }

abbrev pub deferred_alone : Queues
deferred_alone = record { incoming = false; active = false; deferred = true; hold = false }

abbrev pub hold_alone : Queues
hold_alone = record { incoming = false; active = false; deferred = false; hold = true }

abbrev pub figures_of : Book → Figures
figures_of b = record {
  incoming = tally_of (listed incoming_alone b);
  active = tally_of (listed active_alone b);
  deferred = tally_of (listed deferred_alone b);
  hold = tally_of (listed hold_alone b);
  generation = b.generation;
}

-- the messages in each queue, and their pending recipients
abbrev pub messages_of : Figures → QueueCounts
messages_of s = record {
  incoming = s.incoming.messages;
  active = s.active.messages;
  deferred = s.deferred.messages;
  hold = s.hold.messages;
}

abbrev pub recipients_of : Figures → QueueCounts
recipients_of s = record {
  incoming = s.incoming.recipients;
  active = s.active.recipients;
  deferred = s.deferred.recipients;
  hold = s.hold.recipients;
}
