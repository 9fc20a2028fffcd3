-- Entry `start`: a delivery begins.
use Rattle.std.specs.List.{list_any}
use Rattle.std.specs.Prelude.{◌&&◌, ◌+◌, ◌++◌, ◌==◌, [], Bool, bytes_eq, filter, List, not, ℕ, ◌∷◌}
use Rattle.q_model.specs.declared.id.Id.{Id}
use Rattle.q_model.specs.declared.rows.Row.{Row}
use Rattle.q_model.specs.Sites.{site_eq}
use Rattle.q_model.specs.Ids.{id_eq}
use Rattle.q_model.specs.Ledger.{Ledger}
use Rattle.q_model.specs.Lists.{drop_first}
use Rattle.q_model.specs.Past.{starts}
use Rattle.q_model.specs.Settings.{World}
use Rattle.q_model.specs.Startable.{is_startable}
use Rattle.q_model.specs.Values.{Site}

-- the row is this one
abbrev pub is_row : Id → Site → List ℕ → Row → Bool
is_row id site positions r = id_eq r.id id && site_eq r.site site && bytes_eq r.positions positions

-- the number is the next, and the row may be sent
abbrev pub may_start : World → Ledger → ℕ → Id → Site → List ℕ → Bool
may_start w l number id site positions =
    (number == starts l + 1) && list_any (λ r. is_row id site positions r && is_startable w l r) l.waiting

-- the row is in flight, and the site is the last served
abbrev pub after_start : Ledger → ℕ → Id → Site → List ℕ → Ledger
after_start l number id site positions = record l {
  waiting = drop_first (is_row id site positions) l.waiting;
  flights = l.flights ++ record { number = number; row = record { id = id; site = site; positions = positions } } ∷ [];
  served = record { id = id; site = site; last = number }
      ∷ filter (λ s. not (id_eq s.id id && site_eq s.site site)) l.served;
}
