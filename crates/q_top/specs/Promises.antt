-- Calls of `qmgr` on one spool, one after another, and what holds of all of them, whatever comes.
use Rattle.std.specs.Prelude.{◌≡◌, ◌⊎◌, [], List, true, false, ℕ, ◌∷◌}
use Rattle.q_books.specs.HostStands.{HostStands}
use Rattle.q_host.specs.View.{View}
use Rattle.q_model.specs.Book.{Book}
use Rattle.q_model.specs.Orderly.{is_orderly}
use Rattle.q_replay.specs.Spools.{CameToEnd, Calls, Course, HaveLives, none, seen, then, WasCutOff}
use Rattle.q_top.specs.Courses.{Connections, Entrances, Moments, Texts}
use Rattle.q_top.specs.Qmgr.{MayCarryOut, runs_lives}
use Rattle.q_top.specs.declared.status.Status.{Status}
use Rattle.q_words.specs.Usages.{is_usage}
use Rattle.q_words.specs.Requests.{IsRequest}
use Rattle.q_words.specs.declared.request.Request.{Request}

-- A call: its words, what its source, its clock, its connections and its door did, its status, and its
-- course on the spool, as far as it came.
pub record QmgrCall (H : Type 0) : Type 0 where
  pub words : List (List ℕ)
  pub texts : Texts
  pub moments : Moments
  pub connections : Connections
  pub entrances : Entrances
  pub status : Status
  pub course : Course H

-- What the contract of `qmgr` says of it, had it come to its end: words that break the form are refused
-- and nothing is done; else the command is carried out, which runs lives or only looks.
pub record IsOfQmgr {H : Type 0} (view : H → View) (h : H) (c : QmgrCall H) : Type 0 where
  pub refuses : is_usage c.words ≡ true → (c.course).behind ≡ h
  pub carries_out : is_usage c.words ≡ false
      → MayCarryOut c.words c.texts c.moments c.connections c.entrances c.status
      (view h) (view (c.course).behind)
  pub runs : (request : Request) → IsRequest c.words request → (c.course).runs ≡ runs_lives request

-- it came to its end, or a crash came at some moment in it
abbrev pub EndsOrCrashes : {H : Type 0} → (H → View) → H → QmgrCall H → Type 0
EndsOrCrashes view h c = CameToEnd (view h) (seen view c.course) ⊎ WasCutOff (view h) (seen view c.course)

-- each is made on the spool that the one before it left
abbrev pub AreQmgrCalls : {H : Type 0} → (H → View) → H → List (QmgrCall H) → Type 0
AreQmgrCalls view h [] = Unit {0}
AreQmgrCalls view h (c ∷ cs) =
    IsOfQmgr view h c × EndsOrCrashes view h c × AreQmgrCalls view (c.course).next cs

abbrev pub courses : {H : Type 0} → List (QmgrCall H) → Calls H
courses [] = none
courses (c ∷ cs) = then c.course (courses cs)

-- Of all calls of `qmgr`, whatever comes, on each spool that stands for an orderly book, as an empty one:
-- there are lives, with just the lines that were told, and they keep all promises.
abbrev pub WhateverIsCalled : {H : Type 0} → (H → View) → Type 0
WhateverIsCalled {H} view = (b : Book) → (h : H) → (cs : List (QmgrCall H)) → HostStands (view h) b
    → is_orderly b ≡ true → AreQmgrCalls view h cs → HaveLives view b h (courses cs)
