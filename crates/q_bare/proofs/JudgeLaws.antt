-- An entry is judged by a bare ledger and counts as by the ledger.
use Rattle.std.proofs.Common.{◌≡◌, ◌-◌, if◌then◌else◌, inl, inr, refl, sym, ap, ◌∙◌, subst}
use Rattle.q_bare.proofs.CountLaws.{counts_kept}
use Rattle.q_bare.proofs.RowLaws.{allowed_bare, row_bare}
use Rattle.q_bare.proofs.RuleLaws.{next_bare}
use Rattle.q_bare.proofs.StepLaws.{step_bare}
use Rattle.q_bare.specs.Bare.{bare}
use Rattle.q_bare.specs.Counts.{Counts, counts_after, counts_of}
use Rattle.q_bare.specs.Judging.{ContinuesBy, HeldBegins, HeldGoesOn, HeldJudges, HeldRules, rule_by}
use Rattle.q_fronts.proofs.Going.{go_on, ledgers_are_one, ledgers_go_on}
use Rattle.q_fronts.proofs.Opening.{ledgers_open}
use Rattle.q_fronts.specs.Fronts.{Continues, empty_at}
use Rattle.q_fronts.specs.Rules.{row_of, rule_in}
use Rattle.q_model.specs.declared.entry.Entry.{Entry}
use Rattle.q_model.specs.Ledger.{Ledger, opening}
use Rattle.q_model.specs.Past.{has_entries, is_living}
use Rattle.q_model.specs.Settings.{World}
use Rattle.q_model.specs.Step.{after}
use Rattle.q_model.specs.declared.entry.Entry.TheVariants as entries

to_ledger : (w : World) (l : Ledger) (e : Entry) → ContinuesBy (counts_of l) w (bare l) e → Continues w l e
to_ledger w l e (inl h) = inl (h.0, sym (next_bare w l) ∙ h.1, sym (allowed_bare w l e) ∙ h.2)
to_ledger w l e (inr h) = inr (h.0, sym (next_bare w l) ∙ h.1)

to_bare : (w : World) (l : Ledger) (e : Entry) → Continues w l e → ContinuesBy (counts_of l) w (bare l) e
to_bare w l e (inl h) = inl (h.0, next_bare w l ∙ h.1, allowed_bare w l e ∙ h.2)
to_bare w l e (inr h) = inr (h.0, next_bare w l ∙ h.1)

-- by what is held instead
held : (w : World) (e : Entry) (l : Ledger) (c : Counts) (b : Ledger) → counts_of l ≡ c → bare l ≡ b → ContinuesBy (counts_of l) w (bare l) e → ContinuesBy c w b e
held w e l c b counts bare_is h =
    subst (λ d. ContinuesBy d w b e) counts (subst (λ k. ContinuesBy (counts_of l) w k e) bare_is h)

of_held : (w : World) (e : Entry) (l : Ledger) (c : Counts) (b : Ledger) → counts_of l ≡ c → bare l ≡ b → ContinuesBy c w b e → ContinuesBy (counts_of l) w (bare l) e
of_held w e l c b counts bare_is h =
    subst (λ d. ContinuesBy d w (bare l) e) (sym counts) (subst (λ k. ContinuesBy c w k e) (sym bare_is) h)

pub held_judges : HeldJudges
held_judges w first es e c b h short =
    let l = h.ledger in
    let both = go_on w first es e l h.front short in (
      λ front. held w e l c b h.counts h.bare_ledger (to_bare w l e (both.0 front)),
      λ k. both.1 (to_ledger w l e (of_held w e l c b h.counts h.bare_ledger k)),
    )

pub held_goes_on : HeldGoesOn
held_goes_on w first es e c b h short k =
    let l = h.ledger in
    record {
      ledger = after w l e;
      front = ledgers_go_on w first es e l h.front short (to_ledger w l e (of_held w e l c b h.counts h.bare_ledger k));
      counts = counts_kept w l e ∙ ap (counts_after e) h.counts;
      bare_ledger = sym (step_bare w l e) ∙ ap (λ m. bare (after w m e)) h.bare_ledger;
    }

pub held_begins : HeldBegins
held_begins w generation mode h =
    let first : Ledger = opening mode (empty_at (generation - 1)) in
    record {
      ledger = after w first (entries.Life generation mode);
      front = ledgers_open w generation mode h;
      counts = counts_kept w first (entries.Life generation mode);
      bare_ledger = refl;
    }

rule_bare : (w : World) (l : Ledger) (e : Entry) → rule_by (counts_of l) w (bare l) e ≡ rule_in w l e
rule_bare w l e = ap (λ b. if is_living l then (if b then 20 else row_of e) else if has_entries l then 19 else 1) (row_bare w l e)

pub held_rules : HeldRules
held_rules w first es e c b l h after_front =
    let k = h.ledger in
    sym (ap (λ d. rule_by d w b e) h.counts) ∙ sym (ap (λ m. rule_by (counts_of k) w m e) h.bare_ledger)
    ∙ rule_bare w k e
    ∙ ap (λ m. rule_in w m e) (ledgers_are_one w first es k l h.front after_front)
