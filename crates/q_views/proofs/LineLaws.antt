-- The lines of messages that a walk gives, told one behind another.
use Rattle.std.proofs.Common.{◌≡◌, ◌∙◌, [], List, None, Some, ℕ, subst, sym}
use Rattle.std.specs.Prelude.{flat_map}
use Rattle.q_host.specs.View.{View}
use Rattle.q_listing.proofs.RecipientLaws.{found_still}
use Rattle.q_listing.proofs.ToldLaws.{IsToldTo, told_all, told_more, told_stops}
use Rattle.q_model.specs.Book.{Book}
use Rattle.q_model.specs.Message.{Message}
use Rattle.q_model.specs.SpoolFiles.{Files}
use Rattle.q_telling.specs.Telling.{TellsFront, TellsMore}
use Rattle.q_walk.specs.declared.walk.Found.{Found}
use Rattle.q_walk.specs.declared.walk.Walk.{Walk}
use Rattle.q_walk.specs.Walks.{GivesNext, IsAhead, IsFound}

-- nothing is counted
abbrev pub IsAny : List Message → Type 0
IsAny done = Unit {0}

-- the messages are told up to where the walk stands
abbrev pub AreToldTo : (Files → Message → List ℕ) → Files → Book → List Message → Walk → View → View → Type 0
AreToldTo line f b ms walk u v = IsToldTo (line f) ms (IsAhead f b walk) IsAny u v

module _ (line : Files → Message → List ℕ) (b : Book) (ms : List Message) (p q : Walk) (u v w : View)
    (s : AreToldTo line u.files b ms p u v) (quiet : TellsMore [] v w) where
  here : IsAhead v.files b p s.rest
  here = subst (λ (f : Files). IsAhead f b p s.rest) (sym s.told.files) s.ahead

  -- the walk gives none
  pub lines_end : ((xs : List Message) → IsAhead v.files b p xs → GivesNext v.files b q xs None) → TellsMore (flat_map (line u.files) ms) u w
  lines_end next = told_all (line u.files) ms (IsAhead u.files b p) IsAny u v w s quiet (next s.rest here)

  module _ (z : View) (found : Found) (next : (xs : List Message) → IsAhead v.files b p xs → GivesNext v.files b q xs (Some found)) where
    files_behind : w.files ≡ u.files
    files_behind = quiet.files ∙ s.told.files

    is_found : IsFound w.files (next s.rest here).0 found
    is_found = found_still v.files w.files (next s.rest here).0 found quiet.files (next s.rest here).3

    -- the next one is told
    pub lines_more : ((m : Message) → IsFound w.files m found → TellsMore (line w.files m) w z) → AreToldTo line u.files b ms q u z
    lines_more tell =
        let given = next s.rest here in
        told_more (line u.files) ms (IsAhead u.files b p) IsAny u v w s quiet (IsAhead u.files b q) IsAny z given.0 given.1 given.2
        (subst (λ (f : Files). TellsMore (line f given.0) w z) files_behind (tell given.0 is_found))
        (subst (λ (f : Files). IsAhead f b q given.1) s.told.files given.4)
        (λ any. tt)

    pub lines_stop : ((m : Message) → IsFound w.files m found → TellsFront (line w.files m) w z) → TellsFront (flat_map (line u.files) ms) u z
    lines_stop tell =
        let given = next s.rest here in
        told_stops (line u.files) ms (IsAhead u.files b p) IsAny u v w s quiet z given.0 given.1 given.2
        (subst (λ (f : Files). TellsFront (line f given.0) w z) files_behind (tell given.0 is_found))
