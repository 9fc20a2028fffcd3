-- How a command ends that only tells, by its status.
use Rattle.std.specs.Prelude.{◌≡◌, ◌⊎◌, [], List, ℕ}
use Rattle.q_ages.specs.Tables.{MayTellTable, TellsTable}
use Rattle.q_host.specs.View.{View}
use Rattle.q_listing.specs.Listings.{listing}
use Rattle.q_load.specs.Loads.{IsSummary}
use Rattle.q_load.specs.SummaryTexts.{summary_text}
use Rattle.q_load.specs.declared.summary.Summary.{Summary}
use Rattle.q_model.specs.Book.{Book}
use Rattle.q_model.specs.FilesStand.{Stands}
use Rattle.q_stream.specs.Clocks.{AddsMoment}
use Rattle.q_telling.specs.Telling.{OnlyTells, TellsFront, TellsMore}
use Rattle.q_top.specs.Courses.{Moments}
use Rattle.q_top.specs.Lives.{IsGivenUp}
use Rattle.q_top.specs.declared.status.Status.{Status}
use Rattle.q_top.specs.declared.status.Status.TheVariants.{Done}
use Rattle.q_views.specs.JsonLines.{json_text}
use Rattle.q_views.specs.Metrics.{status_text}
use Rattle.q_shape.specs.declared.request.TableRequest.{TableRequest}

-- With Done all was told; else the host failed or memory ran out, and some first part was.
abbrev pub EndsTelling : Type 0 → Type 0 → Status → Type 0
EndsTelling all part s = ((s ≡ Done) × all) ⊎ (IsGivenUp s × part)

-- Whatever the files say: some bytes are told, and no file is changed, whenever a crash comes.
abbrev pub EndsLooking : View → View → Status → Type 0
EndsLooking u v s = EndsTelling (OnlyTells u v) (OnlyTells u v) s

-- `queue`: no file is changed, and of a book that the files stand for the listing is told.
pub record Lists (u v : View) (s : Status) : Type 0 where
  pub whatever : EndsLooking u v s
  pub listed : (b : Book) → Stands u.files b
      → EndsTelling (TellsMore (listing u.files b) u v) (TellsFront (listing u.files b) u v) s

-- `json`: the same of the listing as JSON lines.
pub record ListsJson (u v : View) (s : Status) : Type 0 where
  pub whatever : EndsLooking u v s
  pub listed : (b : Book) → Stands u.files b
      → EndsTelling (TellsMore (json_text u.files b) u v) (TellsFront (json_text u.files b) u v) s

-- `status`: the same of the figures of the book.
pub record TellsFigures (u v : View) (s : Status) : Type 0 where
  pub whatever : EndsLooking u v s
  pub figures : (b : Book) → Stands u.files b
      → EndsTelling (TellsMore (status_text b) u v) (TellsFront (status_text b) u v) s

-- the table of ages at this moment is told
abbrev pub EndsTable : ℕ → TableRequest → Book → View → View → Status → Type 0
EndsTable now request b u v s =
    EndsTelling (TellsTable now request b u v) (MayTellTable now request b u v) s

-- `qshape`: no file is changed, and of a book that the files stand for the table of ages at the clock's
-- one moment is told.
pub record TellsAges (request : TableRequest) (moments : Moments) (u v : View) (s : Status) : Type 0 where
  pub whatever : EndsLooking u v s
  pub table : (b : Book) → Stands u.files b
      → (now : ℕ) × AddsMoment moments.before moments.after now × EndsTable now request b u v s

-- the text of the summary of a load of so many mails
pub record IsLoadText (mails : ℕ) (text : List ℕ) : Type 0 where
  pub summary : Summary
  pub is : IsSummary mails summary
  pub says : text ≡ summary_text summary

-- it was told
pub record TellsSummary (mails : ℕ) (u v : View) : Type 0 where
  pub text : List ℕ
  pub is : IsLoadText mails text
  pub told : TellsMore text u v

-- some first part of it was told
pub record TellsSummaryFront (mails : ℕ) (u v : View) : Type 0 where
  pub text : List ℕ
  pub is : IsLoadText mails text
  pub told : TellsFront text u v

-- that, or nothing was told and no file changed
abbrev pub MayTellSummary : ℕ → View → View → Type 0
MayTellSummary mails u v = TellsMore [] u v ⊎ TellsSummaryFront mails u v

-- `load`: the summary of the load is told, and no file is changed.
abbrev pub TellsLoad : ℕ → View → View → Status → Type 0
TellsLoad mails u v s = EndsTelling (TellsSummary mails u v) (MayTellSummary mails u v) s
