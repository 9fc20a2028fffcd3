-- The books that a run keeps, and those without damaged files outside corrupt.
use Rattle.std.specs.List.{list_all}
use Rattle.std.specs.Option.{option_map_or}
use Rattle.std.specs.Prelude.{◌&&◌, Bool, false, nat_le, not, ◌||◌}
use Rattle.q_model.specs.declared.id.Id.{Id}
use Rattle.q_model.specs.Book.{Book, all_ids, message_of, stands, stands_in}
use Rattle.q_model.specs.Ids.{cause_of}
use Rattle.q_model.specs.Lists.{has_none}
use Rattle.q_model.specs.Marks.{is_marked, is_written}
use Rattle.q_model.specs.Message.{Message, unmarked_logged, written_marks}
use Rattle.q_model.specs.Places.{is_active, is_corrupt, is_incoming}

-- none of its failures may be gone after a crash
abbrev pub has_firm_failures : Message → Bool
has_firm_failures m = list_all (λ f. f.firm) m.failures

-- A sound message: every logged position is marked, every mark that is set is sure, and so is every failure.
abbrev pub is_sound : Message → Bool
is_sound m = has_none (unmarked_logged m) && has_none (written_marks m) && has_firm_failures m

-- every recipient is marked for sure, and every failure is sure
abbrev pub is_sealed : Message → Bool
is_sealed m = list_all (λ r. is_marked r.mark && not (is_written r.mark)) m.recipients && has_firm_failures m

-- A bounce that stands together with its cause is in incoming, and its cause is sealed in active.
abbrev pub is_paired : Book → Id → Bool
is_paired b id = not id.bounce || not (stands b (cause_of id))
    || (stands_in is_incoming b id
    && option_map_or (λ m. is_active m.place && is_sealed m) (message_of b (cause_of id)) false)

-- no id is of a later generation, messages outside active are sound, and bounces are paired
abbrev pub is_orderly : Book → Bool
is_orderly b = list_all (λ id. nat_le id.generation b.generation && is_paired b id) (all_ids b)
    && list_all (λ m. is_active m.place || is_sound m) b.messages

-- orderly, and each damaged file is in corrupt
abbrev pub is_lawful : Book → Bool
is_lawful b = is_orderly b && list_all (λ d. is_corrupt d.place) b.damaged
