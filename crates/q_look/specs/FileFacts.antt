-- What the files of a spool say of a queue file.
use Rattle.std.specs.Option.{option_map_or}
use Rattle.std.specs.Prelude.{◌&&◌, Bool, count_by, is_none, is_some, length, List, not, ℕ}
use Rattle.q_core.specs.declared.decision.FileFacts.{FileFacts}
use Rattle.q_core.specs.declared.decision.Found.{Found}
use Rattle.q_core.specs.declared.decision.Found.TheVariants.{Damaged, Whole}
use Rattle.q_look.specs.Failures.{failed_in}
use Rattle.q_model.specs.declared.id.Id.{Id}
use Rattle.q_model.specs.declared.spot.Area.TheVariants as areas
use Rattle.q_model.specs.Ids.{bounce_of, cause_of}
use Rattle.q_model.specs.IdTexts.{id_text}
use Rattle.q_model.specs.QueueFile.{FileMessage, queue_file}
use Rattle.q_model.specs.SpoolFiles.{Files, logged_in}

-- it is no bounce, or the message that it is of isn't in active
abbrev pub stands_alone_in : Files → Id → Bool
stands_alone_in f id = not (id.bounce && is_some (f areas.Active (id_text (cause_of id))))

-- its bounce is in incoming
abbrev pub has_bounce_in : Files → Id → Bool
has_bounce_in f id = is_some (f areas.Incoming (id_text (bounce_of id)))

-- what the files say of an id whose queue file is this message's
abbrev pub facts_in : Files → Id → FileMessage → FileFacts
facts_in f id m = record {
  arrival = m.arrival;
  null_sender = is_none m.sender;
  recipients = length m.recipients;
  marked = count_by (λ r. r.marked) m.recipients;
  failures = (failed_in (logged_in f id) m).count;
  unmarked = (failed_in (logged_in f id) m).unmarked;
  bounced = has_bounce_in f id;
  alone = stands_alone_in f id;
}

-- what they say of an id whose file has these bytes
abbrev pub found_in : Files → ℕ → Id → List ℕ → Found
found_in f due id bytes = option_map_or (λ m. Whole id due (facts_in f id m)) (queue_file bytes)
    (Damaged id due (stands_alone_in f id))
