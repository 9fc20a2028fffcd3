-- The open sessions of an agent, as callers see them.
use Rattle.std.specs.List.{AllByRecursion, list_any}
use Rattle.std.specs.Option.{option_map_or, option_or}
use Rattle.std.specs.Prelude.{◌<◌, ◌==◌, ◌≡◌, [], Bool, false, filter, find, if◌then◌else◌, IfSome, length, List, map, nat_lt, not, Option, slice_get, true, ℕ, ◌∷◌}
use Rattle.q_link.specs.declared.usage.Usage.TheVariants.{Open}
use Rattle.q_link.specs.Views.{NoWait, View, Wait}
use Rattle.q_session.specs.declared.delivery.Delivery.{Delivery}

-- a session and its link
pub record Work : Type 0 where
  pub session : Delivery
  pub link : View

-- An open session: the number of its delivery, of how many recipients, and its work; without a link it has none, and is over at its first poll.
pub record OpenSession : Type 0 where
  pub number : ℕ
  pub recipients : ℕ
  pub work : Option Work

-- the open sessions, in order of their numbers; those of at most this number were polled in this sweep
pub record Sessions : Type 0 where
  pub listed : List OpenSession
  pub polled : ℕ

-- a session of so many recipients that may be polled
pub record CanGoOn (recipients : ℕ) (w : Work) : Type 0 where
  pub goes_on : w.session.over ≡ false
  pub linked : w.link.ended ≡ false
  pub usable : w.link.usage ≡ Open
  pub addresses : length w.session.to ≡ recipients

abbrev pub IsSoundWork : ℕ → Option Work → Type 0
IsSoundWork recipients work = IfSome work (CanGoOn recipients)

abbrev pub IsSound : OpenSession → Type 0
IsSound o = IsSoundWork o.recipients o.work

-- each number is below those after it
abbrev pub Rises : List ℕ → Type 0
Rises [] = Unit {0}
Rises (n ∷ ns) = AllByRecursion (λ m. n < m) ns × Rises ns

-- the first that wasn't polled in this sweep
abbrev pub unpolled : Sessions → Option OpenSession
unpolled s = find (λ o. nat_lt s.polled o.number) s.listed

abbrev pub is_sweep_over : Sessions → Bool
is_sweep_over s = not (list_any (λ o. nat_lt s.polled o.number) s.listed)

-- the one that is polled next: where the sweep is over, the next sweep begins
abbrev pub next_polled : Sessions → Option OpenSession
next_polled s = option_or (unpolled s) (slice_get s.listed 0)

abbrev pub has_number : ℕ → List OpenSession → Bool
has_number number os = list_any (λ o. o.number == number) os

-- one more, before the first with a greater number
abbrev pub inserted : OpenSession → List OpenSession → List OpenSession
inserted o [] = o ∷ []
inserted o (p ∷ ps) = if nat_lt o.number p.number then o ∷ p ∷ ps else p ∷ inserted o ps

abbrev pub with_session : OpenSession → Sessions → Sessions
with_session o s = record s { listed = inserted o s.listed }

-- all but that of this number
abbrev pub without : ℕ → List OpenSession → List OpenSession
without number os = filter (λ o. not (o.number == number)) os

-- this one was polled, and is over
abbrev pub after_end : OpenSession → Sessions → Sessions
after_end o s = record { listed = without o.number s.listed; polled = o.number }

-- this one in place of that of its number
abbrev pub replaced : OpenSession → List OpenSession → List OpenSession
replaced new os = map (λ o. if o.number == new.number then new else o) os

-- this one was polled, and goes on like this
abbrev pub after_poll : OpenSession → Sessions → Sessions
after_poll new s = record { listed = replaced new s.listed; polled = new.number }

abbrev pub is_waiting : Wait → Bool
is_waiting NoWait = false
is_waiting _ = true

abbrev pub work_waits : Option Work → Bool
work_waits work = option_map_or (λ w. is_waiting w.link.wait) work false

-- it has a link, which waits
abbrev pub link_waits : OpenSession → Bool
link_waits o = work_waits o.work
