-- The file of an id that moves: a message's or a damaged one.
use Rattle.std.specs.List.{AllByRecursion}
use Rattle.std.specs.Prelude.{◌≡◌, Bool, is_some, List, map, true}
use Rattle.q_model.specs.declared.rows.Place.{Place}
use Rattle.q_model.specs.Book.{Book, stands_in}
use Rattle.q_model.specs.Ids.{are_distinct}
use Rattle.q_model.specs.IdTexts.{IsId}
use Rattle.q_model.specs.Places.{place_eq}
use Rattle.q_model.specs.SpoolFiles.{file_at, Files, IsPlace}
use Rattle.q_model.specs.ToolSteps.{after_step, is_tool_move, moves}
use Rattle.q_super.specs.declared.standing.Standing.{Standing}

-- it stands at a place from which a tool may move it to this one
pub record MayMove (from : Standing) (to : Place) : Type 0 where
  pub form : IsId from.id
  pub place : IsPlace from.place
  pub allowed : is_tool_move from.place to ≡ true

-- the book has it
abbrev pub stands_there : Book → Standing → Bool
stands_there b s = stands_in (place_eq s.place) b s.id

-- a file stands where it says
abbrev pub is_file : Files → Standing → Bool
is_file f s = is_some (file_at f s.place s.id)

-- it moved
pub record MovesFile (from : Standing) (to : Place) (b k : Book) : Type 0 where
  pub there : stands_there b from ≡ true
  pub changed : k ≡ after_step b (moves from.id to)

-- the book has these files, each of another id
pub record AreThere (b : Book) (files : List Standing) : Type 0 where
  pub there : AllByRecursion (λ s. stands_there b s ≡ true) files
  pub apart : are_distinct (map (λ s. s.id) files) ≡ true
