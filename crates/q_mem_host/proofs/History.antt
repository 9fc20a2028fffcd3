-- One event more.
use Rattle.std.proofs.Common.{◌≡◌, ◌⊎◌, inl, inr, ⊎_elim, ℕ, ◌≤◌, ◌<◌, ◌+◌, List, [], ◌∷◌, ◌++◌, length, take, refl, sym, subst, arith, length-append, take_all, ap, Option, Some, None}
use Rattle.std.proofs.Math.Path.{fun_ext}
use Rattle.std.proofs.lemmas.List.{take-append-le}
use Rattle.std.proofs.lemmas.Bool.{cases_lt}
use Rattle.q_host.specs.View.{Remains, After, Goes, now}
use Rattle.q_mem_host.specs.Event.{Event, HostState, host_state_after, state_from, host_state_of, start}
use Rattle.q_mem_host.specs.Left.{MayLeave, LeftSince, IsLeft, nothing, view_of}

from_more : (s : HostState) (h : List Event) (e : Event) → state_from s (h ++ e ∷ []) ≡ host_state_after e (state_from s h)
from_more s [] e = refl
from_more s (x ∷ h) e = from_more (host_state_after x s) h e

pub state_more : (h : List Event) (e : Event) → host_state_of (h ++ e ∷ []) ≡ host_state_after e (host_state_of h)
unfolding host_state_of
state_more h e = from_more start h e

-- What a crash may leave after the event comes by this step from what it might have left before it.
pub goes_by : (S M : Remains → Remains → Type 0) (h : List Event) (e : Event)
    → ((c : Remains) → MayLeave (host_state_after e (host_state_of h)) c → After S (MayLeave (host_state_of h)) c)
    → ((d c : Remains) → S d c → M d c)
    → Goes S M (view_of h) (view_of (h ++ e ∷ []))
goes_by S M h e step wider = record {
  later = omega (arith, length-append h (e ∷ []));
  crash = λ c left. step c (subst (λ (s : HostState). MayLeave s c) (state_more h e) left);
  nothing_else = λ t c le left. since t c left;
  keeps = λ t c le was. (was.0, was.1, omega (arith, was.2, length-append h (e ∷ [])), subst (λ (l : List Event). MayLeave (host_state_of l) c) (sym (take-append-le was.0 h (e ∷ []) was.2)) was.3);
}
  where
    long : length (h ++ e ∷ []) ≡ length h + 1
    long = length-append h (e ∷ [])

    since : (t : ℕ) (c : Remains) → LeftSince (h ++ e ∷ []) t c → LeftSince h t c ⊎ After M (MayLeave (host_state_of h)) c
    since t c left = ⊎_elim (λ below. inl (earlier below)) (λ above. inr (latest above)) (cases_lt left.0 (length h + 1))
      where
        earlier : left.0 < length h + 1 → LeftSince h t c
        earlier below = (left.0, left.1, omega arith, subst (λ (l : List Event). MayLeave (host_state_of l) c) (take-append-le left.0 h (e ∷ []) (omega arith)) left.3)

        latest : length h + 1 ≤ left.0 → After M (MayLeave (host_state_of h)) c
        latest above =
            let whole : take left.0 (h ++ e ∷ []) ≡ h ++ e ∷ [] = take_all left.0 (h ++ e ∷ []) (omega (arith, long)) in
            let d = step c (subst (λ (s : HostState). MayLeave s c) (state_more h e) (subst (λ (l : List Event). MayLeave (host_state_of l) c) whole left.3)) in
            (d.0, d.1, wider d.0 c d.2)

-- no event
pub goes_idle : (S M : Remains → Remains → Type 0) (h : List Event) → ((d : Remains) → S d d) → Goes S M (view_of h) (view_of h)
goes_idle S M h same = record { later = omega arith; crash = λ c left. (c, left, same c); nothing_else = λ t c le left. inl left; keeps = λ t c le was. was }

-- ---- nothing was done

pub nothing_yet : (h : List Event) → h ≡ [] → now (view_of h) ≡ nothing
unfolding host_state_of
nothing_yet h none = ap (λ (l : List Event). now (view_of l)) none

pub nothing_left : (h : List Event) → h ≡ [] → (c : Remains) → MayLeave (host_state_of h) c → c ≡ nothing
unfolding host_state_of
nothing_left h none c left = λ i. record { files = files i; told = start_left.told i }
  where
    start_left : MayLeave start c
    start_left = subst (λ (l : List Event). MayLeave (host_state_of l) c) none left

    empty : (o : Option (List ℕ)) → IsLeft None o → o ≡ None
    empty None h = refl
    empty (Some x) h = absurd h

    files : c.files ≡ (λ a n. None)
    files = fun_ext (λ a. fun_ext (λ n. empty (c.files a n) (start_left.each a n)))
