-- The ledger's clock is what the `at` lines say.
use Rattle.std.proofs.Common.{◌≡◌, ℕ, List, [], ◌∷◌, refl, sym, ◌∙◌}
use Rattle.q_drain.proofs.Silent.{AreInside, decisions_inside, same_moment}
use Rattle.q_drain.specs.Told.{moment_after}
use Rattle.q_laws.proofs.Living.{at_now, inner_now}
use Rattle.q_model.specs.declared.entry.Entry.{Entry}
use Rattle.q_model.specs.declared.entry.Entry.TheVariants as entries
use Rattle.q_model.specs.declared.outcome.Outcome.{Outcome}
use Rattle.q_model.specs.declared.outcome.SiteState.{SiteState}
use Rattle.q_model.specs.Ledger.{Ledger}
use Rattle.q_model.specs.Run.{decisions}
use Rattle.q_model.specs.Settings.{World}
use Rattle.q_model.specs.Step.{after, after_all}

-- decisions leave the clock
inside_now : (w : World) (l : Ledger) (es : List Entry) → AreInside es → (after_all w l es).now ≡ l.now
unfolding after_all
inside_now w l [] h = refl
inside_now w l (e ∷ es) h = inside_now w (after w l e) es h.1 ∙ inner_now w l e h.0.inner

-- the clock says what the entries say
abbrev pub IsTimed : World → Ledger → ℕ → List Entry → Type 0
IsTimed w l t es = (after_all w l es).now ≡ moment_after t es

-- a moment and its decisions
pub at_timed : (w : World) (l : Ledger) (s t : ℕ) → IsTimed w l s (entries.At t ∷ decisions w (after w l (entries.At t)))
unfolding after_all
at_timed w l s t =
    let k : Ledger = after w l (entries.At t) in
    inside_now w k (decisions w k) (decisions_inside w k) ∙ at_now w l t ∙ sym (same_moment t (decisions w k) (decisions_inside w k))

-- a reply and its decisions
pub reply_timed : (w : World) (l : Ledger) (number : ℕ) (site : SiteState) (os : List Outcome) → IsTimed w l l.now (entries.Reply number site os ∷ decisions w (after w l (entries.Reply number site os)))
unfolding after_all
reply_timed w l number site os =
    let k : Ledger = after w l (entries.Reply number site os) in
    inside_now w k (decisions w k) (decisions_inside w k) ∙ inner_now w l (entries.Reply number site os) refl ∙ sym (same_moment l.now (decisions w k) (decisions_inside w k))
