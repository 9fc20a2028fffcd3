-- A row that is asked for is of its message.
use Rattle.std.proofs.Common.{◌≡◌, ℕ, Bool, true, List}
use Rattle.std.proofs.lemmas.Bool.{and_parts}
use Rattle.std.specs.Prelude.{◌&&◌, ◌==◌, bytes_eq}
use Rattle.q_ledger.specs.Spaces.{is_startable_of}
use Rattle.q_model.specs.Ids.{id_eq}
use Rattle.q_model.specs.Sites.{site_eq}
use Rattle.q_model.specs.Ledger.{Ledger}
use Rattle.q_model.specs.Settings.{World}
use Rattle.q_model.specs.Startable.{is_startable}
use Rattle.q_model.specs.Starts.{is_row}
use Rattle.q_model.specs.Values.{Site}
use Rattle.q_model.specs.declared.id.Id.{Id}
use Rattle.q_model.specs.declared.rows.Row.{Row}

pub row_is_own : (id : Id) (site : Site) (positions : List ℕ) (r : Row) → is_row id site positions r ≡ true → id_eq r.id id ≡ true
row_is_own id site positions r h =
    let a = id_eq r.id id in
    let b = site_eq r.site site in
    let both = and_parts (a && b) (bytes_eq r.positions positions) h in
    (and_parts a b both.0).0

-- ---- what is asked of the rows of one message alone

first_of_three : (a b c : Bool) → (a && b && c) ≡ true → a ≡ true
first_of_three a b c h = (and_parts a b (and_parts (a && b) c h).0).0

pub startable_is_own : (w : World) (l : Ledger) (transport : ℕ) (id : Id) (r : Row) → is_startable_of w l transport id r ≡ true → id_eq r.id id ≡ true
startable_is_own w l transport id r h = first_of_three (id_eq r.id id) (r.site.transport == transport) (is_startable w l r) h

pub startable_row_is_own : (w : World) (l : Ledger) (id : Id) (site : Site) (positions : List ℕ) (r : Row) → (is_row id site positions r && is_startable w l r) ≡ true → id_eq r.id id ≡ true
startable_row_is_own w l id site positions r h = row_is_own id site positions r (and_parts (is_row id site positions r) (is_startable w l r) h).0
