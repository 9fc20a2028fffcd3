-- A link that is open is called, and left open or closed.
use Rattle.q_session.specs.declared.polled.Polled.TheVariants.{Over}
use Rattle.q_session.specs.declared.polled.Polled.{Polled}
use Rattle.q_model.specs.declared.outcome.SiteState.{SiteState}
use Rattle.std.proofs.Common.{◌≡◌, ◌≢◌, ◌⊎◌, inl, inr, List, Ok, Result, refl, subst, sym, ap, ◌∙◌, ℕ}
use Rattle.q_link.specs.Reads.{Reads, Writes}
use Rattle.q_link.specs.Usages.{usage_called, usage_closed}
use Rattle.q_link.specs.Views.{View}
use Rattle.q_link.specs.declared.link.Got.{Got}
use Rattle.q_link.specs.declared.link.Got.TheVariants as got
use Rattle.q_link.specs.declared.link.Put.{Put}
use Rattle.q_link.specs.declared.link.Put.TheVariants as put
use Rattle.q_link.specs.declared.usage.Usage.{Usage}
use Rattle.q_link.specs.declared.usage.Usage.TheVariants.{Closed, Misused, Open}
use Rattle.q_session.specs.Uses.{UsesStep, Uses}
use Rattle.q_session.specs.declared.steps.Step.{Step}
use Rattle.q_session.specs.declared.steps.Step.TheVariants.{Lost, Onward, Settles, Waits}

pub open_unmisused : (u : Usage) → u ≡ Open → u ≢ Misused
open_unmisused u usable misused = cc

closed_unmisused : (u : Usage) → u ≡ Closed → u ≢ Misused
closed_unmisused u closed misused = cc

-- it stays open
pub called_open : (u v : Usage) → u ≡ Open → v ≡ usage_called u → v ≡ Open
called_open u v usable is = is ∙ ap usage_called usable

-- it is closed
pub closed_once : (u v : Usage) → u ≡ Open → v ≡ usage_closed u → v ≢ Misused
closed_once u v usable is = closed_unmisused v (is ∙ ap usage_closed usable)

-- a write, whatever it answers
pub written_once : (old new : View) (came : Put) (bytes : List ℕ) → old.usage ≡ Open → Writes old new came bytes → new.usage ≢ Misused
written_once old new (put.Gave n) bytes usable h = open_unmisused new.usage (called_open old.usage new.usage usable h.2.usage)
written_once old new put.NotYet bytes usable h = open_unmisused new.usage (called_open old.usage new.usage usable h.usage)
written_once old new put.Failed bytes usable h = closed_once old.usage new.usage usable h.usage

-- a read that ended or failed
pub lost_once : (old new : View) (came : Got) (buf : List ℕ) → old.usage ≡ Open → (came ≡ got.End) ⊎ (came ≡ got.Failed) → Reads old new came buf → new.usage ≢ Misused
lost_once old new came buf usable (inl e) h = closed_once old.usage new.usage usable (subst (λ (x : Got). Reads old new x buf) e h).usage
lost_once old new came buf usable (inr e) h = closed_once old.usage new.usage usable (subst (λ (x : Got). Reads old new x buf) e h).usage

-- a step that called nothing more
pub open_step : (s : Step) (u : Usage) → u ≡ Open → UsesStep s u
open_step Onward u usable = usable
open_step Waits u usable = usable
open_step Lost u usable = open_unmisused u usable
open_step (Settles last) u usable = usable

-- a poll behind which the delivery is over
pub over_uses : (E : Type 0) (r : Polled) (site : SiteState) (u : Usage) → r ≡ Over site → u ≢ Misused → Uses {E = E} (Ok r) u
over_uses E r site u is h = subst (λ (p : Polled). Uses {E = E} (Ok p) u) (sym is) h
