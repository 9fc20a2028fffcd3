-- Which rows of a message are counted.
use Rattle.std.specs.Prelude.{◌&&◌, ◌==◌, Bool, ℕ}
use Rattle.q_model.specs.declared.id.Id.{Id}
use Rattle.q_model.specs.declared.rows.Row.{Row}
use Rattle.q_model.specs.Ids.{id_eq}

-- it is of the message, and waits for the transport
abbrev pub is_row_for : Id → ℕ → Row → Bool
is_row_for id transport r = id_eq r.id id && (r.site.transport == transport)
