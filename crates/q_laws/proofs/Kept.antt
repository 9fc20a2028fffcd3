-- Each entry that is allowed and says what its rule says keeps all that fits together.
use Rattle.std.proofs.Common.{◌≡◌, ◌+◌, true, inl, inr, Some, refl, sym, subst, eqb-true}
use Rattle.std.proofs.lemmas.Bool.{and_parts}
use Rattle.std.specs.Prelude.{◌&&◌, ◌==◌, ◌||◌, nat_lt, ◌^◌, not}
use Rattle.q_laws.proofs.Arrived.{arrive_consistent, bounce_consistent}
use Rattle.q_laws.proofs.Beginnings.{life_consistent}
use Rattle.q_laws.proofs.Cleared.{back_consistent, corrupt_consistent}
use Rattle.q_laws.proofs.Clock.{at_consistent, trigger_consistent}
use Rattle.q_laws.proofs.Decided.{Says}
use Rattle.q_laws.proofs.Decisions.{next_decided}
use Rattle.q_laws.proofs.Delivered.{reply_consistent, skip_consistent}
use Rattle.q_laws.proofs.Entering.{admit_consistent}
use Rattle.q_laws.proofs.Finished.{defer_consistent, remove_consistent}
use Rattle.q_laws.proofs.Marked.{mark_consistent}
use Rattle.q_laws.proofs.Preempted.{preempt_consistent}
use Rattle.q_laws.proofs.Quiet.{quiet_ready}
use Rattle.q_laws.proofs.Reading.{load_consistent}
use Rattle.q_laws.proofs.Tidied.{after_consistent}
use Rattle.q_laws.proofs.Started.{start_consistent}
use Rattle.q_laws.proofs.Stored.{log_consistent}
use Rattle.q_laws.proofs.Synced.{sync_consistent}
use Rattle.q_laws.specs.Consistency.{IsConsistent}
use Rattle.q_laws.specs.Traces.{IsEntryOf, is_outside}
use Rattle.q_model.specs.Ledger.{Ledger}
use Rattle.q_model.specs.Lives.{mode_eq}
use Rattle.q_model.specs.Next.{next}
use Rattle.q_model.specs.Past.{has_entries, is_life, is_living}
use Rattle.q_model.specs.Settings.{World}
use Rattle.q_model.specs.Step.{after, allowed, may}
use Rattle.q_model.specs.declared.entry.Entry.{Entry}
use Rattle.q_model.specs.declared.entry.Entry.TheVariants as entries

-- the entry of each kind
pub kept : (w : World) (l : Ledger) (e : Entry) → IsConsistent w l → may w l e ≡ true → Says l e → IsConsistent w (after w l e)
kept w l (entries.Life generation mode) c h says =
    let two = and_parts ((generation == l.book.generation + 1) && nat_lt generation (2 ^ 32)) (not (has_entries l) || mode_eq mode l.mode) h in
    let same = eqb-true generation (l.book.generation + 1) (and_parts (generation == l.book.generation + 1) (nat_lt generation (2 ^ 32)) two.0).0 in
    subst (λ g. IsConsistent w (after w l (entries.Life g mode))) (sym same) (life_consistent w l mode c.usable c.book.distinct c.book.orderly)
kept w l (entries.At t) c h says = at_consistent w l t c
kept w l (entries.Arrive id sender to content) c h says = arrive_consistent w l id sender to content c h
kept w l (entries.Back id) c h says = back_consistent w l id c h
kept w l (entries.Admit id) c h says = admit_consistent w l id c h
kept w l (entries.Load id from to) c h says = load_consistent w l id from to c h
kept w l (entries.Start number id site positions) c h says = start_consistent w l number id site positions c h says
kept w l (entries.Preempt child parent transport need) c h says = preempt_consistent w l child parent transport need c h
kept w l (entries.Reply number state outcomes) c h says = reply_consistent w l number state outcomes c h
kept w l (entries.Skip id site positions) c h says = skip_consistent w l id site positions c h
kept w l (entries.Log id failure) c h says = log_consistent w l id failure c h
kept w l (entries.Mark id position) c h says = mark_consistent w l id position c says
kept w l (entries.Sync id) c h says = sync_consistent w l id c h says
kept w l (entries.Defer id due) c h says = defer_consistent w l id due c h
kept w l (entries.Bounce id) c h says = bounce_consistent w l id c h
kept w l (entries.Remove id) c h says = remove_consistent w l id c h
kept w l (entries.Corrupt id) c h says = corrupt_consistent w l id c h
kept w l (entries.Trigger kind) c h says = trigger_consistent w l kind c
kept w l entries.End c h says = after_consistent w l entries.End (quiet_ready w l entries.End (λ i k. record { admit = refl; start = refl; charge = refl }) c)

-- the next decision keeps all that fits together
pub stays_consistent_next : (w : World) (l : Ledger) (e : Entry) → IsConsistent w l → next w l ≡ Some e → IsConsistent w (after w l e)
stays_consistent_next w l e c h = let d = next_decided w l e c h in kept w l e c d.0 d.1

outside_says : (w : World) (l : Ledger) (e : Entry) → is_outside e ≡ true → Says l e
outside_says w l (entries.Mark id position) h = absurd cc
outside_says w l (entries.Sync id) h = absurd cc
outside_says w l (entries.Start number id site positions) h = absurd cc
outside_says w l (entries.Life generation mode) h = tt
outside_says w l (entries.At t) h = tt
outside_says w l (entries.Arrive id sender to content) h = tt
outside_says w l (entries.Back id) h = tt
outside_says w l (entries.Admit id) h = tt
outside_says w l (entries.Load id from to) h = tt
outside_says w l (entries.Preempt child parent transport need) h = tt
outside_says w l (entries.Reply number state outcomes) h = tt
outside_says w l (entries.Skip id site positions) h = tt
outside_says w l (entries.Log id failure) h = tt
outside_says w l (entries.Defer id due) h = tt
outside_says w l (entries.Bounce id) h = tt
outside_says w l (entries.Remove id) h = tt
outside_says w l (entries.Corrupt id) h = tt
outside_says w l (entries.Trigger kind) h = tt
outside_says w l entries.End h = tt

-- what is allowed may be, by its kind
pub may_be : (w : World) (l : Ledger) (e : Entry) → allowed w l e ≡ true → may w l e ≡ true
unfolding allowed
may_be w l e h = (and_parts (is_living l || (is_life e && not (has_entries l))) (may w l e) h).1

-- an entry from outside that is allowed keeps all that fits together
pub stays_consistent_event : (w : World) (l : Ledger) (e : Entry) → IsConsistent w l → is_outside e ≡ true → allowed w l e ≡ true → IsConsistent w (after w l e)
stays_consistent_event w l e c outside h = kept w l e c (may_be w l e h) (outside_says w l e outside)

-- each entry of a ledger keeps all that fits together
pub entry_consistent : (w : World) (l : Ledger) (e : Entry) → IsConsistent w l → IsEntryOf w l e → IsConsistent w (after w l e)
entry_consistent w l e c (inl h) = let two = and_parts (is_outside e) (allowed w l e) h in stays_consistent_event w l e c two.0 two.1
entry_consistent w l e c (inr h) = stays_consistent_next w l e c h
