-- The laws of the clock of a host in memory.
use Rattle.std.proofs.Common.{ℕ, ◌≡◌, ◌≤◌, List, is_some, length, refl, sym, subst, arith, take_all, Option, Some, None}
use Rattle.q_host.specs.Files.{SameNames}
use Rattle.q_host.specs.View.{Remains, now}
use Rattle.q_mem_host.specs.Kept.{Kept}
use Rattle.q_mem_host.specs.Event.{Event, host_state_of}
use Rattle.q_mem_host.specs.Left.{MayLeave, LeftSince, IsLeft, read_of, view_of}

pub mem_counts_now : (h : List Event) (t : ℕ) (c : Remains) → t ≤ length h
    → MayLeave (host_state_of h) c → LeftSince h t c
mem_counts_now h t c le left =
    let all = sym (take_all (length h) h (omega arith)) in
    (length h, le, omega arith, subst (λ (l : List Event). MayLeave (host_state_of l) c) all left)

pub mem_only_now : (h : List Event) (c : Remains) → LeftSince h (length h) c → MayLeave (host_state_of h) c
mem_only_now h c left = subst (λ (l : List Event). MayLeave (host_state_of l) c) (take_all left.0 h left.1) left.3

here : (o : Option Kept) → IsLeft o (read_of o)
here None = tt
here (Some k) = record { no_shorter = omega arith; no_longer = omega arith; firm = λ i h out. refl }

pub mem_stays_whole : (h : List Event) → MayLeave (host_state_of h) (now (view_of h))
mem_stays_whole h = record { told = refl; each = λ a n. here ((host_state_of h).disk a n) }

named : (o : Option Kept) (c : Option (List ℕ)) → IsLeft o c → is_some c ≡ is_some (read_of o)
named None None h = refl
named None (Some c) h = absurd h
named (Some k) None h = absurd h
named (Some k) (Some c) h = refl

pub mem_names_stay : (h : List Event) (c : Remains) → MayLeave (host_state_of h) c → SameNames (view_of h).files c.files
mem_names_stay h c left a n = named ((host_state_of h).disk a n) (c.files a n) (left.each a n)
