-- The table of ages of a book, as it is told.
use Rattle.std.specs.Prelude.{◌⊎◌, [], List, ℕ}
use Rattle.q_ages.specs.Counting.{counted}
use Rattle.q_host.specs.View.{View}
use Rattle.q_model.specs.Book.{Book}
use Rattle.q_shape.specs.Tables.{IsTable}
use Rattle.q_telling.specs.Telling.{TellsFront, TellsMore}
use Rattle.q_shape.specs.declared.request.TableRequest.{TableRequest}

-- the table of what the request counts of the book was told
pub record TellsTable (now : ℕ) (request : TableRequest) (b : Book) (u v : View) : Type 0 where
  pub text : List ℕ
  pub is : IsTable request.shape (counted request.senders now request.queues b) text
  pub told : TellsMore text u v

-- some first part of it was told, perhaps nothing
pub record TellsTableFront (now : ℕ) (request : TableRequest) (b : Book) (u v : View) : Type 0 where
  pub text : List ℕ
  pub is : IsTable request.shape (counted request.senders now request.queues b) text
  pub told : TellsFront text u v

-- that, or nothing was told and no file changed
abbrev pub MayTellTable : ℕ → TableRequest → Book → View → View → Type 0
MayTellTable now request b u v = TellsMore [] u v ⊎ TellsTableFront now request b u v
