-- Looks, answered: the ledger stays, and so does the book on disk.
use Rattle.std.specs.Prelude.{◌≡◌, Option, Some}
use Rattle.q_model.specs.Ledger.{Ledger}
use Rattle.q_model.specs.Settings.{World}
use Rattle.q_host.specs.View.{View}
use Rattle.q_books.specs.HostStands.{Takes}
use Rattle.q_model.specs.Scans.{scan_next}
use Rattle.q_core.specs.Agrees.{found_active, found_incoming, found_next}
use Rattle.q_core.specs.declared.decision.Found.{Found}
use Rattle.q_core.specs.declared.decision.Decision.{Decision}
use Rattle.q_core.specs.declared.decision.Decision.TheVariants as decisions
use Rattle.q_core.specs.declared.state.Core.{Core}
use Rattle.q_engine.specs.Stands.{EngineStands, IsNextEntry}
use Rattle.q_engine.specs.declared.engine.Engine.{Engine}

-- for each ledger for which engine and host stand
abbrev pub ForStands : Engine → View → (World → Ledger → Type 0) → Type 0
ForStands engine v says = (w : World) → (l : Ledger) → EngineStands w engine v l → says w l

-- the look is one of the core's scan, where it is one at deferred
abbrev pub IsLookOf : Core → Decision → Type 0
IsLookOf c decisions.LookActive = Unit {0}
IsLookOf c decisions.LookIncoming = Unit {0}
IsLookOf c (decisions.LookDeferred after until) =
    c.scan ≡ Some (record { place = after; until = until })
IsLookOf c _ = ⊥

-- the look was answered
abbrev pub AnswersLook : Decision → Engine → Engine → View → View → Type 0
AnswersLook d old new v x = ForStands old v (λ w l. IsLookOf old.core.value d
    → EngineStands w new x l × Takes l.book l.book v x)

-- nothing but looks was done
abbrev pub LooksAhead : Engine → Engine → View → View → Type 0
LooksAhead old new v x = ForStands old v (λ w l. EngineStands w new x l × Takes l.book l.book v x)

-- it was given up
abbrev pub StaysAtBook : Engine → View → View → Type 0
StaysAtBook engine v x = ForStands engine v (λ w l. Takes l.book l.book v x)

-- nothing but looks was done, and the next entry is that of the decision
abbrev pub FindsNext : Option Decision → Engine → Engine → View → View → Type 0
FindsNext d old new v x = ForStands old v (λ w l. IsNextEntry w l d new x × Takes l.book l.book v x)

-- what was found is what the book says of the queue that is looked at
abbrev pub IsShown : Decision → Found → Ledger → Type 0
IsShown decisions.LookActive found l = found ≡ found_active l
IsShown decisions.LookIncoming found l = found ≡ found_incoming l
IsShown (decisions.LookDeferred after until) found l =
    found ≡ found_next l (scan_next l.book (record { place = after; until = until }))
IsShown _ found l = ⊥
