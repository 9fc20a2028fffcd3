-- How an entry is taken over: what it changes, with lines and served rows tidied, and then sites and the scan.
use Rattle.std.specs.List.{enumerate_from, list_any}
use Rattle.std.specs.Prelude.{◌≡◌, ◌&&◌, filter, map, None, Option, option_map, Some}
use Rattle.q_bare.specs.Bare.{bare}
use Rattle.q_ledger.specs.Beside.{IsBeside, IsCounted}
use Rattle.q_ledger.specs.State.{State}
use Rattle.q_model.specs.Deliveries.{flight_of}
use Rattle.q_model.specs.Ids.{id_eq}
use Rattle.q_model.specs.Leftovers.{leftovers}
use Rattle.q_model.specs.Ledger.{Ledger}
use Rattle.q_model.specs.Settings.{World}
use Rattle.q_model.specs.Sites.{site_eq}
use Rattle.q_model.specs.Step.{after, change, tidy_line}
use Rattle.q_model.specs.Values.{Site}
use Rattle.q_model.specs.declared.entry.Entry.{Entry}
use Rattle.q_model.specs.declared.entry.Entry.TheVariants as entries

-- lines and served rows of what is left
abbrev pub rows_tidied : Ledger → Ledger
rows_tidied l = record l {
  lines = map (tidy_line l) (enumerate_from 0 l.lines);
  served = filter (λ s. list_any (λ r. id_eq r.id s.id && site_eq r.site s.site) l.waiting) l.served;
}

-- the site that a row leaves by the entry
abbrev pub site_left : Ledger → Entry → Option Site
site_left b (entries.Reply number state outcomes) = option_map (λ f. f.row.site) (flight_of b number)
site_left b (entries.Skip id site positions) = Some site
site_left b e = None

-- the entry has changed the ledger, and nothing of sites or the scan is tidied yet
pub record IsChanged (w : World) (b : Ledger) (e : Entry) (s : State) : Type 0 where
  pub ledger : s.ledger ≡ rows_tidied (bare (change w b e))
  pub counted : IsCounted s
  pub leftovers : s.leftovers ≡ leftovers s.ledger
  pub left : s.left ≡ site_left b e

-- the entry is taken over
pub record IsTaken (w : World) (b : Ledger) (e : Entry) (s : State) : Type 0 where
  pub ledger : s.ledger ≡ bare (after w b e)
  pub beside : IsBeside s
