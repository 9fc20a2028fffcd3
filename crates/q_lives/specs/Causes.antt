-- A recipient is done only after an agent reported its delivery, after its failure was stored, or after a
-- queue tool gave it up.
use Rattle.std.specs.List.{list_any}
use Rattle.std.specs.Option.{option_map_or}
use Rattle.std.specs.Prelude.{◌&&◌, ◌++◌, ◌==◌, ◌≡◌, ◌⊎◌, [], Bool, false, List, slice_get, true, ◌||◌, ℕ, ◌∷◌}
use Rattle.q_model.specs.declared.entry.Entry.{Entry}
use Rattle.q_model.specs.declared.id.Id.{Id}
use Rattle.q_model.specs.declared.outcome.Outcome.{Outcome}
use Rattle.q_model.specs.declared.outcome.SiteState.{SiteState}
use Rattle.q_model.specs.Book.{Book, message_of}
use Rattle.q_model.specs.Ids.{id_eq}
use Rattle.q_model.specs.Marks.{is_marked}
use Rattle.q_model.specs.Message.{is_logged, Message}
use Rattle.q_model.specs.Past.{is_life}
use Rattle.q_model.specs.ToolSteps.{ToolStep}
use Rattle.q_model.specs.Values.{Site}
use Rattle.q_lives.specs.Tools.{is_fail_of}
use Rattle.q_model.specs.declared.entry.Entry.TheVariants as entries
use Rattle.q_model.specs.declared.outcome.Outcome.TheVariants as outcomes

-- the outcome of this position is a delivery
abbrev pub says_ok : ℕ → List ℕ → List Outcome → Bool
says_ok position [] os = false
says_ok position (p ∷ ps) [] = false
says_ok position (p ∷ ps) (outcomes.Ok ∷ os) = (p == position) || says_ok position ps os
says_ok position (p ∷ ps) (o ∷ os) = says_ok position ps os

-- An agent reported the recipient's delivery in these entries, `later` being those that follow: a
-- start names it, and a reply of the same life to that start says so.
pub record IsReported (id : Id) (position : ℕ) (es later : List Entry) : Type 0 where
  pub before : List Entry
  pub between : List Entry
  pub number : ℕ
  pub site : Site
  pub positions : List ℕ
  pub state : SiteState
  pub outcomes : List Outcome
  pub entries :
      es ≡ before ++ (entries.Start number id site positions
      ∷ (between ++ (entries.Reply number state outcomes ∷ later)))
  pub same_life : list_any is_life between ≡ false
  pub ok : says_ok position positions outcomes ≡ true

-- a failure of the recipient is stored
abbrev pub is_log_of : Id → ℕ → Entry → Bool
is_log_of id position (entries.Log other failure) = id_eq other id && (failure.position == position)
is_log_of id position _ = false

-- the recipient is marked
abbrev pub is_marked_at : Message → ℕ → Bool
is_marked_at m position =
    option_map_or (λ r. is_marked r.mark) (slice_get m.recipients position) false

-- the recipient of a message that stands is done: its failure is logged, or it is marked
abbrev pub is_done_at : Book → Id → ℕ → Bool
is_done_at b id position =
    option_map_or (λ m. is_logged m position || is_marked_at m position) (message_of b id) false

-- why a recipient may be done: for a reason that isn't in these entries, since its delivery was reported, or
-- since its failure was stored
abbrev pub Cause : (Id → ℕ → Type 0) → List Entry → Id → ℕ → Type 0
Cause beside es id position = beside id position
    ⊎ ((later : List Entry) × IsReported id position es later)
    ⊎ (list_any (is_log_of id position) es ≡ true)

-- it was done at first, or one of these tool steps gave it up
abbrev pub IsDoneBeside : Book → List ToolStep → Id → ℕ → Type 0
IsDoneBeside first steps id position =
    (is_done_at first id position ≡ true) ⊎ (list_any (is_fail_of id position) steps ≡ true)

-- each recipient that is done has a cause in these entries, or one of those
abbrev pub DoneAfterCause : Book → List ToolStep → List Entry → Book → Type 0
DoneAfterCause first steps es left = (id : Id) (position : ℕ) → is_done_at left id position ≡ true →
    Cause (IsDoneBeside first steps) es id position
