-- A text that is told behind calls that change nothing.
use Rattle.std.proofs.Common.{Err, List, Ok, OnErr, Result, [], ◌≡◌, ℕ, subst}
use Rattle.q_host.specs.Calls.{Stays}
use Rattle.q_host.specs.View.{View}
use Rattle.q_telling.specs.Telling.{OnlyTells, TellsFront, TellsMore}
use Rattle.q_telling.proofs.TellingLaws.{front_none, front_on, only_none, only_on, OnlyNow, tells_none, tells_on}

pub err_has : {T E P : Type 0} (r : Result T E) → P → OnErr r P
err_has (Ok v) h = tt
err_has (Err e) h = h

module _ (u v : View) (only : OnlyNow u) (stays : Stays u v) where
  -- nothing of it is told yet
  pub quiet-none : (text : List ℕ) → TellsFront text u v
  quiet-none text = front_none text u v (tells_none u v only stays)

  pub quiet-only : OnlyTells u v
  quiet-only = only_none u v only stays

  module _ (w : View) where
    pub quiet-told : (text other : List ℕ) → text ≡ other → TellsMore text v w → TellsMore other u w
    quiet-told text other same p = subst (λ (t : List ℕ). TellsMore t u w) same (tells_on [] text u v w (tells_none u v only stays) p)

    pub quiet-front : (text other : List ℕ) → text ≡ other → TellsFront text v w → TellsFront other u w
    quiet-front text other same p = subst (λ (t : List ℕ). TellsFront t u w) same (front_on [] text u v w (tells_none u v only stays) p)

    pub quiet-more : OnlyTells v w → OnlyTells u w
    quiet-more p = only_on u v w quiet-only p
