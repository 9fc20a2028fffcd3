-- How rows leave the core.
use Rattle.q_core.specs.Sending.{row_for}
use Rattle.q_core.specs.Rules.{next_skip_number}
use Rattle.q_core.specs.Agrees.{ForLedgers, Matches}
use Rattle.q_core.specs.Decisions.{IsRowAt}
use Rattle.q_model.specs.Step.{after}
use Rattle.q_model.specs.declared.entry.Entry.TheVariants as entries
use Rattle.q_model.specs.declared.id.Id.{Id}
use Rattle.std.specs.List.{remove}
use Rattle.std.specs.Prelude.{◌&&◌, ◌++◌, ◌-◌, ◌==◌, ◌≡◌, Bool, false, filter, if◌then◌else◌, length, List, map, None, not, Option, position, slice_get, Some, ℕ}
use Rattle.q_model.specs.declared.outcome.Outcome.{Outcome}
use Rattle.q_model.specs.declared.outcome.SiteState.{SiteState}
use Rattle.q_model.specs.declared.rows.Delivery.{Delivery}
use Rattle.q_model.specs.declared.rows.Row.{Row}
use Rattle.q_model.specs.declared.rows.Unsettled.{Unsettled}
use Rattle.q_model.specs.Values.{Site, SiteRecord}
use Rattle.q_core.specs.UsedSites.{busy_in}
use Rattle.q_core.specs.Held.{have_space, is_dead_in}
use Rattle.q_core.specs.Needs.{needs_in, needs_put_off}
use Rattle.q_core.specs.Queries.{expired_in, flight_in}
use Rattle.q_dest.specs.Windows.{heard_in}
use Rattle.q_model.specs.Settings.{Settings}
use Rattle.q_model.specs.Sites.{site_eq}
use Rattle.q_core.specs.declared.state.Core.{Core}

-- the first waiting row whose site is dead stands at this place
abbrev pub IsFirstDead : Core → ℕ → Type 0
IsFirstDead c entry = position (λ r. is_dead_in c r.site) c.waiting ≡ Some entry

-- the recipients of a row fail where they are put off: its message is too old, and there is space
abbrev pub fails_in : Core → Row → Bool
fails_in c r = expired_in c r.id && have_space c r.positions

-- what the recipients of a row need that are put off without a code
abbrev pub put_off_in : Core → Row → List Unsettled
put_off_in c r = needs_put_off (fails_in c r) r.id r.positions

-- the row at this place waits no more, what its recipients need is added, and its positions are kept
pub record IsUnqueued (old new : Core) (entry : ℕ) (r : Row) : Type 0 where
  pub row : slice_get old.waiting entry ≡ Some r
  pub rest : new ≡ record old {
    waiting = new.waiting;
    unsettled = new.unsettled;
    in_memory = new.in_memory;
    skipped = new.skipped;
  }
  pub waiting : new.waiting ≡ remove old.waiting entry
  pub kept : new.skipped ≡ r.positions
  pub unsettled : new.unsettled ≡ old.unsettled ++ put_off_in old r
  pub memory : new.in_memory ≡ old.in_memory - (length r.positions - length (put_off_in old r))

-- what the outcomes of a delivery need
abbrev pub replied_in : Core → Delivery → List Outcome → List Unsettled
replied_in c f outcomes = needs_in (expired_in c f.row.id) f.row.id f.row.positions outcomes

-- what the outcomes of this delivery need is added, and only that of its recipients stays in memory
pub record IsReplied (old new : Core) (f : Delivery) (outcomes : List Outcome)
    (site : Site) : Type 0 where
  pub there : site ≡ f.row.site
  pub rest : new ≡ record old { unsettled = new.unsettled; in_memory = new.in_memory }
  pub unsettled : new.unsettled ≡ old.unsettled ++ replied_in old f outcomes
  pub memory : new.in_memory ≡ old.in_memory -
      (length f.row.positions - length (replied_in old f outcomes))

-- the same by the number of the delivery, with its site; without a site no such delivery is in
-- flight, or there is no space for its outcomes
abbrev pub AreAdded : Core → Core → ℕ → List Outcome → Option Site → Type 0
AreAdded old new number outcomes None = (f : Delivery) → flight_in old number ≡ Some f →
    have_space old f.row.positions ≡ false
AreAdded old new number outcomes (Some site) = (f : Delivery) → flight_in old number ≡ Some f →
    IsReplied old new f outcomes site

-- the record of this site hears that a delivery reached it, or did not
abbrev pub heard_at : Settings → Site → ℕ → ℕ → SiteState → SiteRecord → SiteRecord
heard_at p site busy now state r = if site_eq r.site site then heard_in p busy now state r else r

-- the site heard that a delivery reached it or did not; the delivery is still in flight
pub record IsSiteHeard (old new : Core) (site : Site) (state : SiteState) : Type 0 where
  pub rest : new ≡ record old { sites = new.sites }
  pub sites : new.sites ≡ map (heard_at old.params site
      (busy_in old.flights site) old.clock.seconds state) old.sites

-- the delivery of this number is over
pub record IsLanded (old new : Core) (number : ℕ) : Type 0 where
  pub rest : new ≡ record old { flights = new.flights }
  pub flights : new.flights ≡ filter (λ f. not (f.number == number)) old.flights

-- the row of these positions was put off last, under the number that was next
pub record IsLastSkip (old : Core) (ps : List ℕ) (new : Core) : Type 0 where
  pub number : new.skips ≡ next_skip_number old
  pub positions : new.skipped ≡ ps

-- The number is that of the row that was put off last; and where the message's first row at the
-- site has these positions, they are its.
pub record IsSkipNoted (old : Core) (id : Id) (site : Site) (entry : ℕ) (new : Core) : Type 0 where
  pub number : new.skips ≡ entry
  pub row : (r : Row) → row_for old id site ≡ Some r → new.skipped ≡ r.positions

-- where this row is put off, the core becomes what the ledger is after the skip
abbrev pub SkipsRowAt : Core → ℕ → Core → Type 0
SkipsRowAt old entry new = (id : Id) → (site : Site) → (positions : List ℕ)
    → IsRowAt old entry id site positions →
    ForLedgers old (λ w l. Matches w new (after w l (entries.Skip id site positions)))
