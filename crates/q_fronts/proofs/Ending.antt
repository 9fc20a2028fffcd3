-- What the end of a life leaves, and which entries are no end.
use Rattle.std.proofs.Common.{◌≡◌, Bool, true, false, not, List, Some, refl, ap, ◌∙◌, subst}
use Rattle.std.specs.Option.{option_map_or}
use Rattle.std.specs.Prelude.{◌&&◌, ◌||◌, is_some, slice_get}
use Rattle.q_laws.proofs.Deciding.{IsDecision, next_decides, Decides}
use Rattle.q_laws.proofs.Tidied.{tidy_scan_is}
use Rattle.q_laws.specs.Traces.{is_outside}
use Rattle.q_model.specs.Ledger.{Ledger}
use Rattle.q_model.specs.Next.{next}
use Rattle.q_model.specs.Past.{has_entries, is_end, is_life, is_living}
use Rattle.q_model.specs.Settings.{World}
use Rattle.q_model.specs.Step.{after, allowed, change, may, noted, tidied}
use Rattle.q_model.specs.declared.entry.Entry.{Entry}
use Rattle.q_model.specs.declared.entry.Entry.TheVariants as entries

tidied_past : (w : World) (l k : Ledger) → (tidied w l k).past ≡ k.past
tidied_past w l k = let t = tidy_scan_is k in ap (λ (x : Ledger). x.past) t.2

abbrev lives : List Entry → Bool
lives past = option_map_or (λ e. not (is_end e)) (slice_get past 0) false

abbrev has : List Entry → Bool
has past = is_some (slice_get past 0)

pub ended_dead : (w : World) (l : Ledger) → is_living (after w l entries.End) ≡ false
unfolding after
ended_dead w l = ap lives (tidied_past w l (noted entries.End (change w l entries.End)))

pub ended_has : (w : World) (l : Ledger) → has_entries (after w l entries.End) ≡ true
unfolding after
ended_has w l = ap has (tidied_past w l (noted entries.End (change w l entries.End)))

none_allowed : (a b c d : Bool) → a ≡ false → b ≡ true → ((a || (c && not b)) && d) ≡ false
none_allowed a b true d ha hb = ap (λ x. (x || not b) && d) ha ∙ ap (λ x. not x && d) hb
none_allowed a b false d ha hb = ap (λ x. (x || false) && d) ha

-- nothing is allowed after the end
pub ended_allows : (w : World) (l : Ledger) (e : Entry) → allowed w (after w l entries.End) e ≡ false
unfolding allowed
ended_allows w l e = none_allowed (is_living (after w l entries.End)) (has_entries (after w l entries.End)) (is_life e) (may w (after w l entries.End) e) (ended_dead w l) (ended_has w l)

decided_outside : (l : Ledger) (e : Entry) → IsDecision l e → is_outside e ≡ false
decided_outside l (entries.Start number id site positions) h = refl
decided_outside l (entries.Life generation mode) h = h
decided_outside l (entries.At t) h = h
decided_outside l (entries.Arrive id sender to content) h = h
decided_outside l (entries.Back id) h = h
decided_outside l (entries.Admit id) h = h
decided_outside l (entries.Load id from to) h = h
decided_outside l (entries.Preempt child parent transport need) h = h
decided_outside l (entries.Reply number state outcomes) h = h
decided_outside l (entries.Skip id site positions) h = h
decided_outside l (entries.Log id failure) h = h
decided_outside l (entries.Mark id position) h = h
decided_outside l (entries.Sync id) h = h
decided_outside l (entries.Defer id due) h = h
decided_outside l (entries.Bounce id) h = h
decided_outside l (entries.Remove id) h = h
decided_outside l (entries.Corrupt id) h = h
decided_outside l (entries.Trigger kind) h = h
decided_outside l entries.End h = h

inside_goes_on : (e : Entry) → is_outside e ≡ false → is_end e ≡ false
inside_goes_on (entries.Start number id site positions) h = refl
inside_goes_on (entries.Life generation mode) h = refl
inside_goes_on (entries.At t) h = refl
inside_goes_on (entries.Arrive id sender to content) h = refl
inside_goes_on (entries.Back id) h = refl
inside_goes_on (entries.Admit id) h = refl
inside_goes_on (entries.Load id from to) h = refl
inside_goes_on (entries.Preempt child parent transport need) h = refl
inside_goes_on (entries.Reply number state outcomes) h = refl
inside_goes_on (entries.Skip id site positions) h = refl
inside_goes_on (entries.Log id failure) h = refl
inside_goes_on (entries.Mark id position) h = refl
inside_goes_on (entries.Sync id) h = refl
inside_goes_on (entries.Defer id due) h = refl
inside_goes_on (entries.Bounce id) h = refl
inside_goes_on (entries.Remove id) h = refl
inside_goes_on (entries.Corrupt id) h = refl
inside_goes_on (entries.Trigger kind) h = refl
inside_goes_on entries.End h = absurd cc

-- a decision is no end
pub decision_goes_on : (w : World) (l : Ledger) (e : Entry) → next w l ≡ Some e → is_end e ≡ false
decision_goes_on w l e h = let says : IsDecision l e = subst (Decides l) h (next_decides w l) in inside_goes_on e (decided_outside l e says)
