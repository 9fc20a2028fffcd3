-- How recipients come into the core.
use Rattle.q_core.specs.declared.state.Question.{Question}
use Rattle.q_core.specs.Lists.{AtPlace}
use Rattle.q_core.specs.Rooms.{most_sites}
use Rattle.q_core.specs.Ties.{AreNamed}
use Rattle.q_model.specs.Ledger.{Ledger}
use Rattle.q_model.specs.Message.{Message, address_at}
use Rattle.q_model.specs.Book.{message_of}
use Rattle.q_model.specs.Batches.{load_positions}
use Rattle.q_model.specs.Next.{next}
use Rattle.q_model.specs.Step.{after}
use Rattle.q_model.specs.declared.entry.Entry.TheVariants as entries
use Rattle.q_core.specs.Agrees.{Agrees, Matches}
use Rattle.q_model.specs.Loads.{may_load}
use Rattle.std.specs.List.{enumerate_from, list_all, list_any}
use Rattle.std.specs.Option.{option_map_or}
use Rattle.std.specs.Prelude.{◌&&◌, ◌+◌, ◌≡◌, false, Some, true, ◌++◌, ◌==◌, [], Bool, if◌then◌else◌, length, List, map, min, nat_le, nat_lt, not, Option, ◌||◌, ℕ, ◌∷◌, set}
use Rattle.q_model.specs.declared.id.Id.{Id}
use Rattle.q_model.specs.declared.rows.Row.{Row}
use Rattle.q_model.specs.Batches.{join_rows}
use Rattle.q_model.specs.Sites.{site_eq}
use Rattle.q_model.specs.Ids.{id_eq}
use Rattle.q_model.specs.Routes.{world_without_table}
use Rattle.q_model.specs.Settings.{Settings, World}
use Rattle.q_model.specs.SiteRecords.{new_record}
use Rattle.q_model.specs.Values.{Site, SiteRecord, Taken}
use Rattle.q_dest.specs.Dests.{Dests}
use Rattle.q_held.specs.Held.{Held}
use Rattle.q_schedule.specs.Schedule.{Scheduling}
use Rattle.q_pool.specs.Slots.{changed_at, read_up}
use Rattle.q_jobs.specs.declared.job.Job.{Job}
use Rattle.q_core.specs.declared.state.Core.{Core}
use Rattle.q_core.specs.declared.state.Question.TheVariants.{Active, Deferred, Incoming, Nothing, Recipients}

-- the row is of this site, and not full
abbrev pub has_space : ℕ → Site → Row → Bool
has_space limit site r = site_eq r.site site && nat_lt (length r.positions) limit

-- a row of one position
abbrev pub row_of_one : Id → Site → ℕ → Row
row_of_one id site position = record { id = id; site = site; positions = position ∷ [] }

-- the row with one more position
abbrev pub with_position : ℕ → Row → Row
with_position position r = record r { positions = r.positions ++ position ∷ [] }

-- the row at this place has one more position
abbrev pub HasJoined : ℕ → ℕ → List Row → List Row → Type 0
HasJoined place position old new = AtPlace old place (λ r. new ≡ set old place (with_position position r))

-- a position joins the row of its site, where it has one
abbrev pub joined_at : ℕ → Id → List Row → ℕ → Option Site → List Row
joined_at limit id rows position site = option_map_or
    (λ s. join_rows limit id s position rows) site rows

-- the recipients that were read, with their sites, join these rows in order
abbrev pub rows_in : ℕ → Id → List Row → List Taken → List Site → List Row
rows_in limit id rows [] sites = rows
rows_in limit id rows (t ∷ ts) [] = rows
rows_in limit id rows (t ∷ ts) (s ∷ ss) =
    rows_in limit id (join_rows limit id s t.position rows) ts ss

-- one of these records is of the site
abbrev pub has_record : List SiteRecord → Site → Bool
has_record sites site = list_any (λ r. site_eq r.site site) sites

-- the new records, with one for the site where neither the others nor they have it
abbrev pub with_site : Settings → List SiteRecord → Site → List SiteRecord → List SiteRecord
with_site p records site fresh = if has_record records site || has_record fresh site then fresh
    else fresh
    ++ new_record (world_without_table p) site ∷ []

-- the new records that these rows need
abbrev pub new_sites : Settings → List SiteRecord → List SiteRecord → List Row → List SiteRecord
new_sites p records fresh [] = fresh
new_sites p records fresh (r ∷ rs) = new_sites p records (with_site p records r.site fresh) rs

-- the message has none of these jobs, and one of these rows at the transport
abbrev pub joins_in : Id → List Row → ℕ → List Job → Bool
joins_in id rows at jobs = list_any (λ r. r.site.transport == at) rows
    && not (list_any (λ j. id_eq id j.id) jobs)

-- the message joins the end of a line that it has come to wait in
abbrev pub joined_line : Id → List Row → (ℕ × List Job) → List Job
joined_line id rows line = if joins_in id rows line.0 line.1 then line.1
    ++ record { id = id; starts = 0; charged = 0 } ∷ [] else line.1

-- the line, which has room for so many jobs, has it for one more, where the message joins it
abbrev pub can_join : Id → List Row → ℕ → (ℕ × List Job) → Bool
can_join id rows room line = not (joins_in id rows line.0 line.1) || nat_lt (length line.1) room

-- it joins the line where it has room
abbrev pub joined_within : Id → List Row → ℕ → (ℕ × List Job) → List Job
joined_within id rows room line = if can_join id rows room line then joined_line id rows line
    else line.1

-- the rows of the message that its recipients make which were read, with the sites that were named
abbrev pub rows_read : Core → Id → List Taken → List Row
rows_read c id taken = rows_in c.params.entry_limit id [] taken c.named

-- these rows of the message have room beside what is there: they themselves, a record for the site
-- of each, and jobs in the lines that it joins
abbrev pub fit_in : Core → Id → List Row → Bool
fit_in c id rows = nat_le (length c.waiting + length rows) c.params.recipient_limit
    && (nat_le (length c.sites + length rows) (most_sites c.params c.transports)
    && list_all (can_join id rows c.params.active_limit) (enumerate_from 0 c.lines))

-- the same by the room of the parts
abbrev pub fit_beside : Held → Dests → Scheduling → Id → List Row → Bool
fit_beside waiting sites schedule id rows = nat_le (length waiting.items + length rows) waiting.room
    && (nat_le (length sites.items + length rows) sites.room
    && list_all (can_join id rows schedule.line_room) (enumerate_from 0 schedule.lines))

-- The message was read up to this position: its recipients wait at their sites.
pub record IsLoaded (old new : Core) (id : Id) (to : ℕ) (taken : List Taken)
    (rows : List Row) : Type 0 where
  pub rest : new ≡ record old {
    admitted = new.admitted;
    waiting = new.waiting;
    lines = new.lines;
    sites = new.sites;
    in_memory = new.in_memory;
    question = Nothing;
    named = new.named;
  }
  pub admitted : new.admitted ≡ map (changed_at id (read_up to)) old.admitted
  pub waiting : new.waiting ≡ old.waiting ++ rows
  pub lines : new.lines ≡ map (joined_line id rows) (enumerate_from 0 old.lines)
  pub sites : new.sites ≡ old.sites ++ new_sites old.params old.sites [] rows
  pub memory : new.in_memory ≡ min (old.in_memory + length taken) old.params.recipient_limit
  pub named : new.named ≡ []

-- it was read so, and its recipients wait in the rows that their sites make, where these fit
abbrev pub HasLoaded : Core → Core → Id → ℕ → List Taken → Type 0
HasLoaded old new id to taken = (rows : List Row)
    → rows ≡ rows_read old id taken → fit_in old id rows ≡ true
    → IsLoaded old new id to taken rows

-- these are the message's recipients to be read between two positions, and the sites are theirs
pub record ReadsAre (w : World) (l : Ledger) (named : List Site) (id : Id) (from to : ℕ)
    (taken : List Taken) : Type 0 where
  pub message : Message
  pub there : message_of l.book id ≡ Some message
  pub positions : map (λ t. t.position) taken ≡ load_positions message from to
  pub sites : named ≡ map (λ p. w.table.route (address_at message p))
      (load_positions message from to)

-- A read is answered up to this position, where that is the ledger's next load: the core agrees
-- with the
-- ledger after it.
abbrev pub LoadsAs : World → Ledger → Core → List Taken → ℕ → Core → Type 0
LoadsAs w l old taken to new = (id : Id) → (from max : ℕ) → old.question ≡ Recipients id from max →
    next w l ≡ Some (entries.Load id from to) →
    ReadsAre w l old.named id from to taken → Agrees w new (after w l (entries.Load id from to))

-- the same where the ledger may load so
abbrev pub ReadsAs : World → Ledger → Core → List Taken → ℕ → Core → Type 0
ReadsAs w l old taken to new = (id : Id) → (from max : ℕ) → old.question ≡ Recipients id from max →
    may_load w l id from to ≡ true →
    ReadsAre w l old.named id from to taken → Matches w new (after w l (entries.Load id from to))

-- a read waits for its answer, and fewer sites were named than it asked recipients for
abbrev pub may_name_for : Question → ℕ → Bool
may_name_for Nothing count = false
may_name_for Active count = false
may_name_for Incoming count = false
may_name_for Deferred count = false
may_name_for (Recipients id from max) count = nat_lt count max

abbrev pub may_name : Core → Bool
may_name c = may_name_for c.question (length c.named)

-- each of these rows is of the message
abbrev pub AreRowsOf : Id → List Row → Type 0
AreRowsOf id rows = AreNamed (λ (r : Row). r.id) id rows

-- Rows of this message wait; their sites have records, and it is in their lines.
pub record AreRowsAdded (old new : Core) (id : Id) (rows : List Row) : Type 0 where
  pub rest : new ≡ record old { waiting = new.waiting; lines = new.lines; sites = new.sites }
  pub waiting : new.waiting ≡ old.waiting ++ rows
  pub lines : new.lines ≡ map (joined_line id rows) (enumerate_from 0 old.lines)
  pub sites : new.sites ≡ old.sites ++ new_sites old.params old.sites [] rows
