-- The first of the eight rules.
use Rattle.std.proofs.Common.{◌≡◌, Bool, true, false, refl, sym, ap, subst, Option, Some, None, inl, inr}
use Rattle.std.specs.Option.{option_or}
use Rattle.std.specs.Prelude.{not, if◌then◌else◌}
use Rattle.q_core.proofs.LeftLaws.{leftover_law}
use Rattle.q_core.proofs.RuleLaws.{finishing_law, load_law, settling_law, skip_law, sync_law}
use Rattle.q_core.proofs.StartLaws.{start_law}
use Rattle.q_core.proofs.PickLaws.{admission_law}
use Rattle.q_core.specs.Agrees.{Agrees}
use Rattle.q_core.specs.Choosing.{next_start_in}
use Rattle.q_core.specs.Deciding.{IsNextDecision, clearing_on, decide_in, first_rule_in, scan_look_in}
use Rattle.q_core.specs.Decisions.{WantsRead, IsRuleOrLook, IsRuleOrLooks}
use Rattle.q_core.specs.Rules.{first_need_in, next_admission_in, next_clearing_in, next_finish_in, next_read_in, next_skip_in, next_sync_in}
use Rattle.q_core.specs.declared.decision.Decision.{Decision}
use Rattle.q_core.specs.declared.state.Core.{Core}
use Rattle.q_core.specs.declared.state.Seen.{Seen}
use Rattle.q_core.specs.declared.state.Seen.TheVariants.{Known, Unknown}
use Rattle.q_model.specs.Ledger.{Ledger}
use Rattle.q_model.specs.Next.{admission_rule, finishing_rule, first_rule, leftover_rule, load_rule, next, settling_rule, skip_rule, start_rule, sync_rule}
use Rattle.q_model.specs.Settings.{World}
use Rattle.q_model.specs.declared.entry.Entry.{Entry}
use Rattle.q_model.specs.declared.rows.Scan.{Scan}
use Rattle.q_core.specs.declared.decision.Decision.TheVariants as decisions

read_or : (w : World) (l : Ledger) (d : Decision) (r s : Option Entry) → WantsRead w l d r → WantsRead w l d (option_or r s)
read_or w l (decisions.Read id from max) r s h = (h.0, h.1, h.2, ap (λ o. option_or o s) h.3)
read_or w l _ r s h = absurd h

-- a rule that has nothing leaves the word to the next one
next_or : (w : World) (l : Ledger) (c : Core) (d f : Option Decision) (r s : Option Entry) → IsNextDecision w l c d r → IsNextDecision w l c f s → IsNextDecision w l c (option_or d f) (option_or r s)
next_or w l c None f r s (inl h) k = subst (λ o. IsNextDecision w l c f (option_or o s)) (sym h) k
next_or w l c None f r s (inr (inl h)) k = subst (λ o. IsNextDecision w l c f (option_or o s)) (sym h) k
next_or w l c None f r s (inr (inr (inl h))) k = let bad = h.0 in cc
next_or w l c None f r s (inr (inr (inr (inl h)))) k = let bad = h.0 in cc
next_or w l c None f r s (inr (inr (inr (inr h)))) k = let bad = h.1 in cc
next_or w l c (Some d) f r s (inl h) k = inl (h.0, h.1, ap (λ o. option_or o s) h.2)
next_or w l c (Some d) f r s (inr (inl h)) k = inr (inl (read_or w l d r s h))
next_or w l c (Some d) f r s (inr (inr h)) k = inr (inr h)

of_look : (w : World) (l : Ledger) (c : Core) (d : Option Decision) (r : Option Entry) → IsRuleOrLook c decisions.LookActive c.active d r → IsNextDecision w l c d r
of_look w l c d r (inl h) = inl h
of_look w l c d r (inr h) = inr (inr (inl h))

of_looks : (w : World) (l : Ledger) (c : Core) (d : Option Decision) (r : Option Entry) → IsRuleOrLooks c d r → IsNextDecision w l c d r
of_looks w l c d r (inl h) = inl h
of_looks w l c d r (inr h) = inr (inr (inr h))

-- the rules behind each
abbrev loads_on : World → Ledger → Option Entry
loads_on w l = option_or (load_rule w l) (start_rule w l)

abbrev admissions_on : World → Ledger → Option Entry
admissions_on w l = option_or (admission_rule w l) (loads_on w l)

abbrev leftovers_on : World → Ledger → Option Entry
leftovers_on w l = option_or (leftover_rule w l) (admissions_on w l)

abbrev finishings_on : World → Ledger → Option Entry
finishings_on w l = option_or (finishing_rule w l) (leftovers_on w l)

abbrev skips_on : World → Ledger → Option Entry
skips_on w l = option_or (skip_rule l) (finishings_on w l)

abbrev syncs_on : World → Ledger → Option Entry
syncs_on w l = option_or (sync_rule w l) (skips_on w l)

last_law : {w : World} {c : Core} {l : Ledger} → Agrees w c l → IsNextDecision w l c (clearing_on c) (leftovers_on w l)
last_law {w = w} {c = c} {l = l} a =
    let h = a.matches.parts in
    let from_read = option_or (next_read_in c) (next_start_in c) in
    let from_admission = option_or (next_admission_in c c.incoming) from_read in
    next_or w l c (next_clearing_in c c.active) from_admission (leftover_rule w l) (admissions_on w l) (of_look w l c (next_clearing_in c c.active) (leftover_rule w l) (leftover_law h a.consistent))
    (next_or w l c (next_admission_in c c.incoming) from_read (admission_rule w l) (loads_on w l) (of_looks w l c (next_admission_in c c.incoming) (admission_rule w l) (admission_law a.matches))
    (next_or w l c (next_read_in c) (next_start_in c) (load_rule w l) (start_rule w l) (inr (inl (load_law h a.consistent.memory.present))) (inl (start_law h a.consistent.memory))))

first_law : {w : World} {c : Core} {l : Ledger} → Agrees w c l → IsNextDecision w l c (first_rule_in c) (first_rule w l)
first_law {w = w} {c = c} {l = l} a =
    let h = a.matches.parts in
    let from_finish = option_or (next_finish_in c) (clearing_on c) in
    let from_skip = option_or (next_skip_in c) from_finish in
    let from_sync = option_or (next_sync_in c) from_skip in
    next_or w l c (first_need_in c) from_sync (settling_rule l) (syncs_on w l) (inl (settling_law h))
    (next_or w l c (next_sync_in c) from_skip (sync_rule w l) (skips_on w l) (inl (sync_law h))
    (next_or w l c (next_skip_in c) from_finish (skip_rule l) (finishings_on w l) (inl (skip_law h))
    (next_or w l c (next_finish_in c) (clearing_on c) (finishing_rule w l) (leftovers_on w l) (inl (finishing_law h a.consistent.memory.present)) (last_law a))))

look_or : (w : World) (l : Ledger) (c : Core) (r : Option Entry) → IsNextDecision w l c (first_rule_in c) r → (o : Option Scan) → c.scan ≡ o → (seen : Seen) → c.deferred ≡ seen →
    IsNextDecision w l c (option_or (scan_look_in seen o) (first_rule_in c)) r
look_or w l c r h None e seen u = h
look_or w l c r h (Some scan) e Unknown u = inr (inr (inr (inr (scan, refl, e, u))))
look_or w l c r h (Some scan) e (Known found) u = h

timed_law : {w : World} {c : Core} {l : Ledger} → Agrees w c l → (b : Bool) →
    IsNextDecision w l c (if not b then None else option_or (scan_look_in c.deferred c.scan) (first_rule_in c)) (if b then first_rule w l else None)
timed_law a false = inl refl
timed_law {w = w} {c = c} {l = l} a true = look_or w l c (first_rule w l) (first_law a) c.scan refl c.deferred refl

pub next_law : {w : World} {c : Core} {l : Ledger} → Agrees w c l → IsNextDecision w l c (decide_in c) (next w l)
unfolding next
next_law {w = w} {c = c} {l = l} a =
    subst (λ b. IsNextDecision w l c (if not b then None else option_or (scan_look_in c.deferred c.scan) (first_rule_in c)) (next w l)) (sym a.matches.parts.timed) (timed_law a l.timed)
