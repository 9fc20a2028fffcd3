-- What a recount says of an entry is what the run's fronts say.
use Rattle.std.proofs.Common.{◌≡◌, ℕ, ◌<◌, ◌^◌, Bool, true, false, List, [], ◌∷◌, length, refl, sym, ap, ◌∙◌, subst, Option, Some, None, inl, inr, not, if◌then◌else◌}
use Rattle.std.specs.Prelude.{◌&&◌, ◌||◌}
use Rattle.q_bare.specs.Bare.{bare}
use Rattle.q_bare.specs.CountedRows.{allowed_by, may_by}
use Rattle.q_bare.specs.CountedRules.{next_by}
use Rattle.q_bare.specs.Counts.{Counts}
use Rattle.q_bare.specs.Judging.{ContinuesBy, HeldJudges, HeldRules, IsHeldAfter, rule_by}
use Rattle.q_bare.specs.Laws.{IsNextSame}
use Rattle.q_fronts.specs.Fitting.{FrontsFit}
use Rattle.q_fronts.specs.Fronts.{IsFront, IsLedgerAfter}
use Rattle.q_fronts.specs.Openings.{FrontsOpen, opens}
use Rattle.q_fronts.specs.Rules.{row_of, rule_in}
use Rattle.q_laws.proofs.Deciding.{Decides, IsDecision, next_decides}
use Rattle.q_laws.specs.Consistency.{IsUsable}
use Rattle.q_laws.specs.SitesConsistency.{IsOpen}
use Rattle.q_laws.specs.Traces.{is_outside}
use Rattle.q_ledger.specs.Beside.{IsOfLedger}
use Rattle.q_ledger.specs.Holding.{IsJudged, IsJudgedBy}
use Rattle.q_ledger.specs.declared.recount.Judged.{Judged}
use Rattle.q_ledger.specs.declared.recount.Judged.TheVariants.{Broken, Lawful}
use Rattle.q_model.specs.Ledger.{Ledger}
use Rattle.q_model.specs.Next.{next}
use Rattle.q_model.specs.Past.{is_life}
use Rattle.q_model.specs.Settings.{World}
use Rattle.q_model.specs.Step.{after_all}
use Rattle.q_model.specs.declared.entry.Entry.{Entry}
use Rattle.q_settings.specs.Ranges.{IsInRange}
use Rattle.q_model.specs.declared.entry.Entry.TheVariants as entries

-- ---- a decision doesn't come from outside

inside : (l : Ledger) (e : Entry) → IsDecision l e → is_outside e ≡ false
inside l (entries.Start number id site positions) h = refl
inside l (entries.Life generation mode) h = h
inside l (entries.At t) h = h
inside l (entries.Arrive id sender to content) h = h
inside l (entries.Back id) h = h
inside l (entries.Admit id) h = h
inside l (entries.Load id from to) h = h
inside l (entries.Preempt child parent transport need) h = h
inside l (entries.Reply number state outcomes) h = h
inside l (entries.Skip id site positions) h = h
inside l (entries.Log id failure) h = h
inside l (entries.Mark id position) h = h
inside l (entries.Sync id) h = h
inside l (entries.Defer id due) h = h
inside l (entries.Bounce id) h = h
inside l (entries.Remove id) h = h
inside l (entries.Corrupt id) h = h
inside l (entries.Trigger kind) h = h
inside l entries.End h = h

decided : (w : World) (l : Ledger) (e : Entry) (o : Option Entry) → next w l ≡ o → o ≡ Some e → is_outside e ≡ false
decided w l e None is h = absurd cc
decided w l e (Some d) is h = let same : d ≡ e = cc in subst (λ x. is_outside x ≡ false) same (inside l d (subst (Decides l) is (next_decides w l)))

next_inside : (w : World) (c : Counts) (b : Ledger) (e : Entry) → IsNextSame → IsOfLedger w c b → next_by c w b ≡ Some e → is_outside e ≡ false
next_inside w c b e same k h =
    let is : next w k.ledger ≡ Some e = sym (same w k.ledger) ∙ ap (λ d. next_by d w (bare k.ledger)) k.counts ∙ ap (next_by c w) k.bare_ledger ∙ h in
    decided w k.ledger e (next w k.ledger) refl is

-- ---- by a bare ledger and counts

-- a broken entry is not lawful
not_lawful : (n : ℕ) → Broken n ≡ Lawful → ⊥
not_lawful n h = absurd cc

same_rule : (n rule : ℕ) → Broken n ≡ Broken rule → n ≡ rule
same_rule n rule h = cc

-- what goes on is lawful
pub judged_lawful : (c : Counts) (w : World) (b : Ledger) (e : Entry) → ContinuesBy c w b e → IsJudgedBy c w b e Lawful
judged_lawful c w b e h = record { lawful = (λ g. h, λ g. refl); rule = λ rule g. absurd (not_lawful rule (sym g)) }

-- what doesn't go on is broken, by the rule that the counts tell
pub judged_broken : (c : Counts) (w : World) (b : Ledger) (e : Entry) (n : ℕ) → (ContinuesBy c w b e → ⊥) → n ≡ rule_by c w b e → IsJudgedBy c w b e (Broken n)
judged_broken c w b e n h is = record { lawful = (λ g. absurd (not_lawful n g), λ g. absurd (h g)); rule = λ rule g. sym (same_rule n rule g) ∙ is }

-- in a life that goes on
pub rule_living : (c : Counts) (w : World) (b : Ledger) (e : Entry) → c.living ≡ true → (if may_by c w b e then 20 else row_of e) ≡ rule_by c w b e
rule_living c w b e living = sym (ap (λ x. if x then (if may_by c w b e then 20 else row_of e) else if c.begun then 19 else 1) living)

allowed_living : (c : Counts) (w : World) (b : Ledger) (e : Entry) → c.living ≡ true → allowed_by c w b e ≡ may_by c w b e
allowed_living c w b e living = ap (λ x. (x || (is_life e && not c.begun)) && may_by c w b e) living

-- something else is due
pub other_judged : (c : Counts) (w : World) (b : Ledger) (e d : Entry) → c.living ≡ true → next_by c w b ≡ Some d → (d ≡ e → ⊥) → IsJudgedBy c w b e (Broken (if may_by c w b e then 20 else row_of e))
other_judged c w b e d living h other =
    judged_broken c w b e (if may_by c w b e then 20 else row_of e) gone (rule_living c w b e living)
  where
    gone : ContinuesBy c w b e → ⊥
    gone (inl k) = let bad : None ≡ Some d = sym k.1 ∙ h in absurd cc
    gone (inr k) = let both : Some d ≡ Some e = sym h ∙ k.1 in let same : d ≡ e = cc in other same

-- an entry from outside is never what is due
pub event_judged : (c : Counts) (w : World) (b : Ledger) (e d : Entry) → IsNextSame → IsOfLedger w c b → c.living ≡ true → next_by c w b ≡ Some d → is_outside e ≡ true →
    IsJudgedBy c w b e (Broken (if may_by c w b e then 20 else row_of e))
event_judged c w b e d same k living h outside =
    other_judged c w b e d living h (λ is. let bad : true ≡ false = sym outside ∙ next_inside w c b e same k (h ∙ ap Some is) in absurd cc)

-- nothing is due, and the entry is none from outside
pub quiet_judged : (c : Counts) (w : World) (b : Ledger) (e : Entry) → c.living ≡ true → next_by c w b ≡ None → is_outside e ≡ false → IsJudgedBy c w b e (Broken (if may_by c w b e then 20 else row_of e))
quiet_judged c w b e living h within =
    judged_broken c w b e (if may_by c w b e then 20 else row_of e) gone (rule_living c w b e living)
  where
    gone : ContinuesBy c w b e → ⊥
    gone (inl k) = let bad : false ≡ true = sym within ∙ k.0 in absurd cc
    gone (inr k) = let bad : None ≡ Some e = sym h ∙ k.1 in absurd cc

-- nothing is due, and the entry comes from outside
pub outside_judged : (c : Counts) (w : World) (b : Ledger) (e : Entry) → c.living ≡ true → next_by c w b ≡ None → is_outside e ≡ true →
    IsJudgedBy c w b e (if may_by c w b e then Lawful else Broken (row_of e))
outside_judged c w b e living h outside = by (may_by c w b e) refl
  where
    gone : may_by c w b e ≡ false → ContinuesBy c w b e → ⊥
    gone is (inl k) = let bad : true ≡ false = sym k.2 ∙ allowed_living c w b e living ∙ is in absurd cc
    gone is (inr k) = let bad : None ≡ Some e = sym h ∙ k.1 in absurd cc

    by : (m : Bool) → may_by c w b e ≡ m → IsJudgedBy c w b e (if m then Lawful else Broken (row_of e))
    by true is = judged_lawful c w b e (inl (outside, h, allowed_living c w b e living ∙ is))
    by false is = judged_broken c w b e (row_of e) (gone is) (ap (λ x. if x then 20 else row_of e) (sym is) ∙ rule_living c w b e living)

-- ---- behind the entries so far

-- parameters in their ranges let messages be read and marks be synced
pub usable : (w : World) → IsInRange w.settings → IsUsable w
usable w h = record { recipient_minimum = h.recipient_minimum.0; mark_sync_limit = h.mark_sync_limit.0 }

-- and windows be open
pub windows : (w : World) → IsInRange w.settings → IsOpen w
windows w h = record { initial_concurrency = h.initial_concurrency.0; concurrency_limit = h.concurrency_limit }

-- behind a front all fits
pub of_ledger : (w : World) (first : Entry) (es : List Entry) (c : Counts) (b : Ledger) → FrontsFit → IsInRange w.settings → IsHeldAfter w (first ∷ es) c b → IsOfLedger w c b
of_ledger w first es c b fit range h = record {
  ledger = h.ledger;
  fits = fit w first es h.ledger (usable w range) (windows w range) h.front;
  counts = h.counts;
  bare_ledger = h.bare_ledger;
}

-- the judgment by a bare ledger is that of the run
pub judged_front : (w : World) (first : Entry) (es : List Entry) (e : Entry) (c : Counts) (b : Ledger) (j : Judged) → HeldJudges → HeldRules → IsHeldAfter w (first ∷ es) c b → length (first ∷ es) < 2 ^ 60 → IsJudgedBy c w b e j →
    IsJudged w (first ∷ es) e j
judged_front w first es e c b j judges rules h short k =
    let both = judges w first es e c b h short in
    record {
      lawful = (λ g. both.1 (k.lawful.0 g), λ g. k.lawful.1 (both.0 g));
      rule = λ rule g l there. k.rule rule g ∙ rules w first es e c b l h there;
    }

-- nothing goes on behind the end
pub ended_by : (c : Counts) (w : World) (b : Ledger) (e : Entry) → c.living ≡ false → c.begun ≡ true → IsJudgedBy c w b e (Broken 19)
ended_by c w b e living begun = judged_broken c w b e 19 gone (sym (ap (λ x. if x then (if may_by c w b e then 20 else row_of e) else if c.begun then 19 else 1) living ∙ ap (λ x. if x then 19 else 1) begun))
  where
    never : (life : Bool) → (life && not true) ≡ false
    never true = refl
    never false = refl

    refused : allowed_by c w b e ≡ false
    refused = ap (λ x. (x || (is_life e && not c.begun)) && may_by c w b e) living ∙ ap (λ x. (is_life e && not x) && may_by c w b e) begun ∙ ap (λ x. x && may_by c w b e) (never (is_life e))

    gone : ContinuesBy c w b e → ⊥
    gone (inl k) = let bad : true ≡ false = sym k.2 ∙ refused in absurd cc
    gone (inr k) = let bad : true ≡ false = sym k.0 ∙ living in absurd cc

-- the first entry
pub first_judged : (w : World) (e : Entry) → FrontsOpen → IsJudged w [] e (if opens e then Lawful else Broken 1)
unfolding after_all
first_judged w e fronts = by (opens e) refl
  where
    both : (IsFront w (e ∷ []) → opens e ≡ true) × (opens e ≡ true → IsFront w (e ∷ []))
    both = fronts w e

    rule_first : (l : Ledger) → IsLedgerAfter w [] l → 1 ≡ rule_in w l e
    rule_first l h = sym (ap (λ x. rule_in w x e) h.is)

    by : (b : Bool) → opens e ≡ b → IsJudged w [] e (if b then Lawful else Broken 1)
    by true is = record { lawful = (λ g. both.1 is, λ g. refl); rule = λ rule g l h. absurd (not_lawful rule (sym g)) }
    by false is = record {
      lawful = (λ g. absurd (not_lawful 1 g), λ g. let bad : false ≡ true = sym is ∙ both.0 g in absurd cc);
      rule = λ rule g l h. sym (same_rule 1 rule g) ∙ rule_first l h;
    }
