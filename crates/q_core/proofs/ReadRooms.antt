-- A read asks for one recipient at least, and for no more than have room for their sites.
use Rattle.std.proofs.Common.{◌≡◌, ◌<◌, ◌≤◌, ◌-◌, arith, false, find, length, None, Option, option_map, refl, Some, true, Vec, ℕ}
use Rattle.std.proofs.lemmas.Bool.{and_parts, leb-true, ltb-true}
use Rattle.std.specs.Prelude.{◌&&◌, min, nat_le, nat_lt, not, vec_capacity}
use Rattle.std.specs.declared.alloc.Global.{Global}
use Rattle.q_core.proofs.KindLaws.{read_first}
use Rattle.q_core.specs.Deciding.{AsksSome, decide_in, is_asking, question_of}
use Rattle.q_core.specs.Held.{free_in, has_waiting_in, may_read_in}
use Rattle.q_core.specs.Loading.{may_name_for}
use Rattle.q_core.specs.Rooms.{AsksWithin}
use Rattle.q_core.specs.declared.decision.Decision.{Decision}
use Rattle.q_core.specs.declared.decision.Decision.TheVariants as decisions
use Rattle.q_core.specs.declared.state.Core.{Core}
use Rattle.q_core.specs.declared.state.Question.{Question}
use Rattle.q_core.specs.declared.state.Question.TheVariants.{Active, Deferred, Incoming, Nothing, Recipients}
use Rattle.q_laws.proofs.Members.{find_in}
use Rattle.q_model.specs.Settings.{Settings}
use Rattle.q_settings.specs.Ranges.{IsInRange}
use Rattle.q_model.specs.Values.{Site}
use Rattle.q_model.specs.declared.id.Id.{Id}
use Rattle.q_pool.specs.declared.slot.Slot.{Slot}

-- where it is a read, it is of what is free
read_free : (c : Core) (id : Id) (from max : ℕ) (o : Option Slot) → option_map (λ (s : Slot). decisions.Read s.id s.unread (free_in c)) o ≡ Some (decisions.Read id from max) → max ≤ c.params.recipient_limit
read_free c id from max None e = cc
read_free c id from max (Some s) e = let same : free_in c ≡ max = cc in omega (arith, same)

-- what asks nothing asks for no recipients
pub other_asks : (p : Settings) (d : Decision) → is_asking d ≡ false → AsksWithin p (question_of d)
other_asks p (decisions.Read id from max) e = cc
other_asks p decisions.LookActive e = tt
other_asks p decisions.LookIncoming e = tt
other_asks p (decisions.LookDeferred place until) e = tt
other_asks p (decisions.Log id f) e = tt
other_asks p (decisions.Mark id k) e = tt
other_asks p (decisions.Sync id) e = tt
other_asks p (decisions.Skip id site entry) e = tt
other_asks p (decisions.Defer id due) e = tt
other_asks p (decisions.Back id) e = tt
other_asks p (decisions.Bounce id) e = tt
other_asks p (decisions.Remove id) e = tt
other_asks p (decisions.Corrupt id place) e = tt
other_asks p (decisions.Admit id place) e = tt
other_asks p (decisions.Preempt child parent transport need) e = tt
other_asks p (decisions.Start number id site) e = tt

-- what is decided asks for no more than may be in memory
pub decided_asks : (c : Core) (d : Decision) → decide_in c ≡ Some d → AsksWithin c.params (question_of d)
decided_asks c (decisions.Read id from max) e = read_free c id from max (find (may_read_in c) c.admitted) (read_first c (decisions.Read id from max) refl e).1
decided_asks c decisions.LookActive e = tt
decided_asks c decisions.LookIncoming e = tt
decided_asks c (decisions.LookDeferred place until) e = tt
decided_asks c (decisions.Log id f) e = tt
decided_asks c (decisions.Mark id k) e = tt
decided_asks c (decisions.Sync id) e = tt
decided_asks c (decisions.Skip id site entry) e = tt
decided_asks c (decisions.Defer id due) e = tt
decided_asks c (decisions.Back id) e = tt
decided_asks c (decisions.Bounce id) e = tt
decided_asks c (decisions.Remove id) e = tt
decided_asks c (decisions.Corrupt id place) e = tt
decided_asks c (decisions.Admit id place) e = tt
decided_asks c (decisions.Preempt child parent transport need) e = tt
decided_asks c (decisions.Start number id site) e = tt

-- what is read of a message that may read is one recipient at least
least_free : (c : Core) (s : Slot) → 1 ≤ c.params.recipient_minimum → may_read_in c s ≡ true → 1 ≤ free_in c
least_free c s least may =
    let some = nat_lt 0 (s.recipients - s.unread) in
    let none = not (has_waiting_in c s.id) in
    let fits = nat_le (min c.params.recipient_minimum (s.recipients - s.unread)) (free_in c) in
    let both = and_parts (some && none) fits may in
    let left : 0 < s.recipients - s.unread = ltb-true 0 (s.recipients - s.unread) (and_parts some none both.0).0 in
    let free : min c.params.recipient_minimum (s.recipients - s.unread) ≤ free_in c = leb-true (min c.params.recipient_minimum (s.recipients - s.unread)) (free_in c) both.1 in
    omega (arith, least, left, free)

some_free : (c : Core) (id : Id) (from max : ℕ) (o : Option Slot) → find (may_read_in c) c.admitted ≡ o → 1 ≤ c.params.recipient_minimum → option_map (λ (s : Slot). decisions.Read s.id s.unread (free_in c)) o ≡ Some (decisions.Read id from max) → 1 ≤ max
some_free c id from max None found least e = cc
some_free c id from max (Some s) found least e =
    let same : free_in c ≡ max = cc in
    let some = least_free c s least (find_in (may_read_in c) s c.admitted found).1 in
    omega (arith, same, some)

-- a read that is decided asks for one recipient at least
pub decided_some : (c : Core) (d : Decision) → IsInRange c.params → decide_in c ≡ Some d → AsksSome (question_of d)
decided_some c (decisions.Read id from max) range e = some_free c id from max (find (may_read_in c) c.admitted) refl range.recipient_minimum.0 (read_first c (decisions.Read id from max) refl e).1
decided_some c (decisions.Log id f) range e = tt
decided_some c (decisions.Mark id k) range e = tt
decided_some c (decisions.Sync id) range e = tt
decided_some c (decisions.Skip id site entry) range e = tt
decided_some c (decisions.Defer id due) range e = tt
decided_some c (decisions.Back id) range e = tt
decided_some c (decisions.Bounce id) range e = tt
decided_some c (decisions.Remove id) range e = tt
decided_some c (decisions.Corrupt id place) range e = tt
decided_some c (decisions.Admit id place) range e = tt
decided_some c (decisions.Preempt child parent transport need) range e = tt
decided_some c (decisions.Start number id site) range e = tt
decided_some c decisions.LookActive range e = tt
decided_some c decisions.LookIncoming range e = tt
decided_some c (decisions.LookDeferred place until) range e = tt

-- a site more has room while fewer are named than were asked for
pub name_room : (p : Settings) (q : Question) (named : Vec Site Global) → AsksWithin p q → p.recipient_limit ≤ vec_capacity named → may_name_for q (length named.items) ≡ true → length named.items < vec_capacity named
name_room p Nothing named asks room may = cc
name_room p Active named asks room may = cc
name_room p Incoming named asks room may = cc
name_room p Deferred named asks room may = cc
name_room p (Recipients id from max) named asks room may =
    let fewer : length named.items < max = ltb-true (length named.items) max may in
    omega (arith, fewer, asks, room)
