-- What was heard, entry by entry: it was allowed, and of a reply there was room for its deliveries.
use Rattle.std.proofs.Common.{◌≡◌, refl, sym, ◌∙◌, ap, subst, ◌≤◌, ◌≢◌, Bool, true, false, ℕ, List, [], ◌∷◌, ◌++◌}
use Rattle.std.proofs.lemmas.Bool.{le-leb}
use Rattle.std.specs.List.{list_any}
use Rattle.std.specs.Prelude.{◌&&◌, ◌||◌, map, nat_le}
use Rattle.q_drain.proofs.Silent.{AreInside, decisions_inside}
use Rattle.q_drain.specs.Drains.{IsOwnRun}
use Rattle.q_drain.specs.Rooms.{HadRoom, MayBeginMore}
use Rattle.q_drain.specs.Told.{ended_of, events_of, heard_of}
use Rattle.q_laws.specs.Traces.{AreAllowed, is_outside}
use Rattle.q_model.specs.declared.entry.Entry.{Entry}
use Rattle.q_model.specs.declared.entry.Entry.TheVariants as entries
use Rattle.q_model.specs.declared.event.Event.{Event}
use Rattle.q_model.specs.declared.event.Event.TheVariants as events
use Rattle.q_model.specs.declared.event.LifeEvent.TheVariants.{Heard}
use Rattle.q_model.specs.declared.outcome.Outcome.{Outcome}
use Rattle.q_model.specs.declared.outcome.SiteState.{SiteState}
use Rattle.q_model.specs.Ledger.{Ledger}
use Rattle.q_model.specs.Past.{is_living}
use Rattle.q_model.specs.Run.{decisions, event_entry, run, turn}
use Rattle.q_model.specs.Settings.{World}
use Rattle.q_model.specs.Step.{after, after_all, allowed}

-- of more entries
pub room_more : (w : World) (l : Ledger) (xs ys : List Entry) → HadRoom w l xs → HadRoom w (after_all w l xs) ys → HadRoom w l (xs ++ ys)
unfolding after_all
room_more w l [] ys h k = k
room_more w l (x ∷ xs) ys h k = (h.0, room_more w (after w l x) xs ys h.1 k)

-- of some first entries
pub room_front : (w : World) (l : Ledger) (xs ys : List Entry) → HadRoom w l (xs ++ ys) → HadRoom w l xs
room_front w l [] ys h = tt
room_front w l (x ∷ xs) ys h = (h.0, room_front w (after w l x) xs ys h.1)

-- and of those behind them
pub room_behind : (w : World) (l : Ledger) (xs ys : List Entry) → HadRoom w l (xs ++ ys) → HadRoom w (after_all w l xs) ys
unfolding after_all
room_behind w l [] ys h = h
room_behind w l (x ∷ xs) ys h = room_behind w (after w l x) xs ys h.1

-- ---- one event

no_reply : (e : Entry) → is_outside e ≡ false → ended_of e ≡ []
no_reply (entries.Life generation mode) h = refl
no_reply (entries.At t) h = refl
no_reply (entries.Arrive id sender to content) h = refl
no_reply (entries.Reply number site outcomes) h = absurd cc
no_reply (entries.Trigger kind) h = refl
no_reply entries.End h = refl
no_reply (entries.Back id) h = refl
no_reply (entries.Admit id) h = refl
no_reply (entries.Load id from to) h = refl
no_reply (entries.Start number id site positions) h = refl
no_reply (entries.Preempt child parent transport need) h = refl
no_reply (entries.Skip id site positions) h = refl
no_reply (entries.Log id failure) h = refl
no_reply (entries.Mark id position) h = refl
no_reply (entries.Sync id) h = refl
no_reply (entries.Defer id due) h = refl
no_reply (entries.Bounce id) h = refl
no_reply (entries.Remove id) h = refl
no_reply (entries.Corrupt id) h = refl

never_outside : (w : World) (l : Ledger) (e : Entry) → is_outside e ≡ false → is_outside e ≡ true → allowed w l e ≡ true
never_outside w l e inside out = let bad : false ≡ true = sym inside ∙ out in absurd cc

-- decisions ask for none
pub room_inside : (w : World) (l : Ledger) (es : List Entry) → AreInside es → HadRoom w l es
room_inside w l [] inside = tt
room_inside w l (e ∷ es) inside = ((never_outside w l e (inside.0).outside, λ some. absurd (some (inside.0).reply)), room_inside w (after w l e) es inside.1)

both_none : (b c : Bool) → (b || c) ≡ false → (b ≡ false) × (c ≡ false)
both_none true c h = absurd cc
both_none false c h = (refl, h)

-- nor do entries of which none comes from outside
pub room_none : (w : World) (l : Ledger) (es : List Entry) → list_any is_outside es ≡ false → HadRoom w l es
room_none w l [] none = tt
room_none w l (e ∷ es) none =
    let both = both_none (is_outside e) (list_any is_outside es) none in
    ((never_outside w l e both.0, λ some. absurd (some (no_reply e both.0))), room_none w (after w l e) es both.1)

-- a moment that isn't past
pub room_at : (w : World) (k : Ledger) (t : ℕ) → is_living k ≡ true → k.now ≤ t → HadRoom w k (entries.At t ∷ decisions w (after w k (entries.At t)))
unfolding allowed
room_at w k t living late =
    let e : Entry = entries.At t in
    ((λ out. ap (λ (b : Bool). (b || false) && nat_le k.now t) living ∙ le-leb k.now t late, λ some. absurd (some refl)), room_inside w (after w k e) (decisions w (after w k e)) (decisions_inside w (after w k e)))

-- a reply that is allowed, where fewer deliveries have begun than may
pub room_reply : (w : World) (k : Ledger) (number : ℕ) (site : SiteState) (outcomes : List Outcome) → allowed w k (entries.Reply number site outcomes) ≡ true → MayBeginMore k
    → HadRoom w k (entries.Reply number site outcomes ∷ decisions w (after w k (entries.Reply number site outcomes)))
room_reply w k number site outcomes fits few =
    let e : Entry = entries.Reply number site outcomes in
    ((λ out. fits, λ some. few), room_inside w (after w k e) (decisions w (after w k e)) (decisions_inside w (after w k e)))

-- ---- the events of a run

from_outside : (l : Ledger) (event : Event) → is_outside (event_entry l event) ≡ true
from_outside l (events.At t) = refl
from_outside l (events.Mail sender to content) = refl
from_outside l (events.Reply number site outcomes) = refl
from_outside l (events.Trigger kind) = refl

events_allowed : (w : World) (l : Ledger) (heard : List Event) → HadRoom w l (run w l (map Heard heard)) → AreAllowed w l (map Heard heard)
unfolding run turn
events_allowed w l [] h = tt
events_allowed w l (event ∷ heard) h =
    let es : List Entry = turn w l (Heard event) in
    let behind : Ledger = after_all w l es in
    ((h.0).0 (from_outside l event), events_allowed w behind heard (room_behind w l es (run w behind (map Heard heard)) h))

-- what a drain told names events that were allowed
pub told_allowed : (w : World) (l : Ledger) (told : List Entry) → IsOwnRun w l told → HadRoom w l told → AreAllowed w l (heard_of told)
told_allowed w l told own h = events_allowed w l (events_of told) (subst (HadRoom w l) own h)
