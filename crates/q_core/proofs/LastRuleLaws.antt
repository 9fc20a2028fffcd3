-- Where a decision is one of the last two rules, these are the ledger's next.
use Rattle.std.proofs.Common.{◌≡◌, ℕ, true, refl, sym, ap, ◌∙◌, subst, Option, Some, None, inl, inr}
use Rattle.std.specs.Option.{option_or}
use Rattle.std.specs.Prelude.{if◌then◌else◌}
use Rattle.q_core.proofs.KindLaws.{IsBehind, start_first, is_start_or_preempt, read_first}
use Rattle.q_core.proofs.LeftLaws.{leftover_law}
use Rattle.q_core.proofs.RuleLaws.{finishing_law, load_law, settling_law, skip_law, sync_law}
use Rattle.q_core.proofs.StartLaws.{start_law}
use Rattle.q_core.proofs.PickLaws.{admission_law}
use Rattle.q_core.specs.Agrees.{Agrees}
use Rattle.q_core.specs.Deciding.{decide_in}
use Rattle.q_core.specs.Decisions.{IsReadRule, IsRule, IsRuleOrLook, IsRuleOrLooks}
use Rattle.q_core.specs.declared.decision.Decision.{Decision}
use Rattle.q_core.specs.declared.decision.Decision.TheVariants as decisions
use Rattle.q_core.specs.declared.state.Core.{Core}
use Rattle.q_core.specs.declared.state.Seen.{Seen}
use Rattle.q_model.specs.Ledger.{Ledger}
use Rattle.q_model.specs.Next.{admission_rule, finishing_rule, first_rule, leftover_rule, load_rule, next, settling_rule, skip_rule, start_rule, sync_rule}
use Rattle.q_model.specs.Settings.{World}
use Rattle.q_model.specs.Batches.{load_end}
use Rattle.q_model.specs.declared.entry.Entry.{Entry}
use Rattle.q_model.specs.declared.entry.Entry.TheVariants as entries
use Rattle.q_model.specs.declared.id.Id.{Id}

look_none : (c : Core) (look : Decision) (seen : Seen) (r : Option Entry) → IsRuleOrLook c look seen None r → r ≡ None
look_none c look seen r (inl h) = h
look_none c look seen r (inr h) = let bad : ◌≡◌ {A = Option Decision} None (Some look) = h.0 in cc

looks_none : (c : Core) (r : Option Entry) → IsRuleOrLooks c None r → r ≡ None
looks_none c r (inl h) = h
looks_none c r (inr (inl h)) = cc
looks_none c r (inr (inr h)) = let bad = h.1 in cc

-- no rule before these two has anything in the ledger
next_behind : {w : World} {c : Core} {l : Ledger} → Agrees w c l → (d : Decision) → IsBehind c d → next w l ≡ option_or (load_rule w l) (start_rule w l)
unfolding next
next_behind {w = w} {c = c} {l = l} a d k =
    let h = a.matches.parts in
    let present = a.consistent.memory.present in
    let n1 : settling_rule l ≡ None = subst (λ o. IsRule c o (settling_rule l)) k.needs (settling_law h) in
    let n2 : sync_rule w l ≡ None = subst (λ o. IsRule c o (sync_rule w l)) k.syncs (sync_law h) in
    let n3 : skip_rule l ≡ None = subst (λ o. IsRule c o (skip_rule l)) k.skips (skip_law h) in
    let n4 : finishing_rule w l ≡ None = subst (λ o. IsRule c o (finishing_rule w l)) k.finishes (finishing_law h present) in
    let n5 : leftover_rule w l ≡ None = look_none c decisions.LookActive c.active (leftover_rule w l) (subst (λ o. IsRuleOrLook c decisions.LookActive c.active o (leftover_rule w l)) k.clearing (leftover_law h a.consistent)) in
    let n6 : admission_rule w l ≡ None = looks_none c (admission_rule w l) (subst (λ o. IsRuleOrLooks c o (admission_rule w l)) k.admission (admission_law a.matches)) in
    let last = option_or (load_rule w l) (start_rule w l) in
    ap (λ b. if b then first_rule w l else None) (sym h.timed ∙ k.timed)
    ∙ ap (λ o. option_or o (option_or (sync_rule w l) (option_or (skip_rule l) (option_or (finishing_rule w l) (option_or (leftover_rule w l) (option_or (admission_rule w l) last)))))) n1
    ∙ ap (λ o. option_or o (option_or (skip_rule l) (option_or (finishing_rule w l) (option_or (leftover_rule w l) (option_or (admission_rule w l) last))))) n2
    ∙ ap (λ o. option_or o (option_or (finishing_rule w l) (option_or (leftover_rule w l) (option_or (admission_rule w l) last)))) n3
    ∙ ap (λ o. option_or o (option_or (leftover_rule w l) (option_or (admission_rule w l) last))) n4
    ∙ ap (λ o. option_or o (option_or (admission_rule w l) last)) n5
    ∙ ap (λ o. option_or o last) n6

-- a delivery begins or a job preempts: the ledger's next is that of the last rule
pub next_is_start : {w : World} {c : Core} {l : Ledger} → Agrees w c l → (d : Decision) → is_start_or_preempt d ≡ true → decide_in c ≡ Some d → (next w l ≡ start_rule w l) × IsRule c (Some d) (start_rule w l)
next_is_start {w = w} {c = c} {l = l} a d h e =
    let k = start_first c d h e in
    let present = a.consistent.memory.present in
    let none : load_rule w l ≡ None = subst (λ o. IsReadRule w l o (load_rule w l)) k.1 (load_law a.matches.parts present) in
    (next_behind a d k.0 ∙ ap (λ o. option_or o (start_rule w l)) none, subst (λ o. IsRule c o (start_rule w l)) k.2 (start_law a.matches.parts a.consistent.memory))

some_first : (o q : Option Entry) (x : Entry) → o ≡ Some x → option_or o q ≡ o
some_first o q x e = ap (λ z. option_or z q) e ∙ sym e

-- recipients are read: the ledger's next is their load
pub next_is_load : {w : World} {c : Core} {l : Ledger} → Agrees w c l → (id : Id) (from max : ℕ) → decide_in c ≡ Some (decisions.Read id from max) → IsReadRule w l (Some (decisions.Read id from max)) (next w l)
next_is_load {w = w} {c = c} {l = l} a id from max e =
    let d = decisions.Read id from max in
    let k = read_first c d refl e in
    let rule = subst (λ o. IsReadRule w l o (load_rule w l)) k.1 (load_law a.matches.parts a.consistent.memory.present) in
    (rule.0, rule.1, rule.2, next_behind a d k.0 ∙ some_first (load_rule w l) (start_rule w l) (entries.Load id from (load_end rule.0 from max)) rule.3 ∙ rule.3)
