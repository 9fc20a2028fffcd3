-- How recipients come into memory: their rows wait, their sites have records, the message joins lines and leaves
-- those in which it has nothing left.
use Rattle.std.specs.List.{list_any}
use Rattle.std.specs.Option.{option_map_or}
use Rattle.std.specs.Prelude.{◌++◌, [], Bool, if◌then◌else◌, length, List, map, ◌||◌, ◌∷◌, ℕ}
use Rattle.q_ledger.specs.Counting.{rows_counted}
use Rattle.q_ledger.specs.Slots.{row_of_slot}
use Rattle.q_ledger.specs.State.{State}
use Rattle.q_ledger.specs.declared.admitted.Slot.{Slot}
use Rattle.q_model.specs.Batches.{load_rows}
use Rattle.q_model.specs.Book.{message_of}
use Rattle.q_model.specs.Ids.{id_eq}
use Rattle.q_model.specs.Loads.{join_lines}
use Rattle.q_model.specs.Routes.{world_without_table}
use Rattle.q_model.specs.Settings.{Settings, World}
use Rattle.q_model.specs.SiteRecords.{new_record}
use Rattle.q_model.specs.Sites.{site_eq}
use Rattle.q_model.specs.Values.{Site, SiteRecord}
use Rattle.q_model.specs.declared.id.Id.{Id}
use Rattle.q_model.specs.declared.rows.Row.{Row}

-- one of these records is of the site
abbrev pub has_record : List SiteRecord → Site → Bool
has_record sites site = list_any (λ r. site_eq r.site site) sites

-- the new records, with one for the site where neither the others nor they have it
abbrev pub with_site : Settings → List SiteRecord → Site → List SiteRecord → List SiteRecord
with_site p records site fresh = if has_record records site || has_record fresh site then fresh
    else fresh
    ++ new_record (world_without_table p) site ∷ []

-- the new records that these rows need
abbrev pub new_sites : Settings → List SiteRecord → List SiteRecord → List Row → List SiteRecord
new_sites p records fresh [] = fresh
new_sites p records fresh (r ∷ rs) = new_sites p records (with_site p records r.site fresh) rs

-- the rows of the message wait; their sites have records, and it is in their lines
abbrev pub rows_joined : Settings → Id → List Row → State → State
rows_joined p id rows s = record s {
  ledger = record s.ledger {
    waiting = s.ledger.waiting ++ rows;
    lines = join_lines id rows s.ledger.lines;
    sites = s.ledger.sites ++ new_sites p s.ledger.sites [] rows;
  };
}

-- what is kept of the message, read up to this position
abbrev pub slot_read : Id → ℕ → Slot → Slot
slot_read id to x = if id_eq x.id id then record x { unread = to } else x

-- the message is read up to this position
abbrev pub read_up : Id → ℕ → State → State
read_up id to s = record s {
  ledger = record s.ledger { admitted = map row_of_slot (map (slot_read id to) s.slots) };
  slots = map (slot_read id to) s.slots;
}

-- the rows that a load of the message of this id makes
abbrev pub rows_of_load : World → State → Id → ℕ → ℕ → List Row
rows_of_load w s id from to = option_map_or (λ m. load_rows w m from to) (message_of s.ledger.book id) []

-- these rows of the message are read, up to this position
abbrev pub rows_read : Settings → Id → ℕ → List Row → State → State
rows_read p id to rows s = read_up id to (rows_counted id (length rows) 0 (rows_joined p id rows s))
