-- After each history the bytes at the last sync agree with those now, where these aren't written since.
use Rattle.std.proofs.Common.{◌≡◌, ⊎_elim, ℕ, ◌≤◌, ◌<◌, ◌+◌, Bool, true, false, ◌||◌, if◌then◌else◌, List, [], ◌∷◌, ◌++◌, length, take, drop, get_or, Option, Some, None, refl, sym, ◌∙◌, ap, subst, arith, true≢false, length-append, length-take, length-drop}
use Rattle.std.proofs.Math.Path.{fun_ext}
use Rattle.std.proofs.lemmas.Bool.{cases_lt}
use Rattle.std.proofs.lemmas.List.{get_or_append_left, get_or-take}
use Rattle.std.specs.Option.{option_map}
use Rattle.q_model.specs.declared.spot.Area.{Area}
use Rattle.q_host.specs.Files.{Placed, same_place, put, written}
use Rattle.q_host.specs.View.{Remains, now}
use Rattle.q_mem_host.specs.declared.rot.Rot.{Rot}
use Rattle.q_mem_host.specs.declared.rot.Rot.TheVariants.{Keep, Old, Byte}
use Rattle.q_mem_host.specs.Kept.{Kept, in_range, is_soft, rotten, fallen, firm, overwritten}
use Rattle.q_mem_host.specs.Event.{Event, create, write, sync, rename, remove, tell, place, crash, HostState, start, host_state_after, state_from, host_state_of}
use Rattle.q_mem_host.specs.Left.{IsLeft, IsRemnant, MayLeave, read_of, files_of, view_of}
use Rattle.q_mem_host.proofs.Crashes.{length-rotten, get_or-rotten}
use Rattle.q_mem_host.proofs.Steps.{outside}
use Rattle.q_mem_host.proofs.Effects.{firm_left, none_left}

pub record IsSound (k : Kept) : Type 0 where
  pub long : length k.synced ≤ length k.bytes
  pub same : (i : ℕ) → i < length k.synced → is_soft k.soft i ≡ false → get_or k.synced i 0 ≡ get_or k.bytes i 0

abbrev pub AreSound : Option Kept → Type 0
AreSound None = Unit {0}
AreSound (Some k) = IsSound k

firm_sound : (bytes : List ℕ) → IsSound (firm bytes)
firm_sound bytes = record { long = omega arith; same = λ i h s. refl }

list_any-push : (rs : List (ℕ × ℕ)) (at len i : ℕ) → is_soft (rs ++ (at, len) ∷ []) i ≡ false → (is_soft rs i ≡ false) × (in_range at len i ≡ false)
list_any-push [] at len i h = (refl, neither (in_range at len i) false h)
  where
    neither : (a b : Bool) → (a || b) ≡ false → a ≡ false
    neither true b h = absurd (true≢false h)
    neither false b h = refl
list_any-push (r ∷ rs) at len i h = by (in_range r.0 r.1 i) h (λ g. list_any-push rs at len i g)
  where
    by : (b : Bool) → (b || is_soft (rs ++ (at, len) ∷ []) i) ≡ false → (is_soft (rs ++ (at, len) ∷ []) i ≡ false → (is_soft rs i ≡ false) × (in_range at len i ≡ false))
        → ((b || is_soft rs i) ≡ false) × (in_range at len i ≡ false)
    by true h f = absurd (true≢false h)
    by false h f = f h

overwritten_sound : (at : ℕ) (over : List ℕ) (k : Kept) → IsSound k → IsSound (overwritten at over k)
overwritten_sound at over k s = record { long = longer; same = λ i h soft. let both = list_any-push k.soft at (length over) i soft in s.same i h both.0 ∙ sym (stays i h both.1) }
  where
    longer : length k.synced ≤ length (written at over k.bytes)
    longer = omega (arith, s.long, length-append (take at k.bytes ++ over) (drop (at + length over) k.bytes), length-append (take at k.bytes) over, length-take at k.bytes, length-drop (at + length over) k.bytes)

    stays : (i : ℕ) → i < length k.synced → in_range at (length over) i ≡ false → get_or (written at over k.bytes) i 0 ≡ get_or k.bytes i 0
    stays i h out = ⊎_elim
        (λ beyond. get_or_append_left (take at k.bytes ++ over) (drop (at + length over) k.bytes) 0 i (omega (arith, s.long, length-append (take at k.bytes) over, length-take at k.bytes))
        ∙ get_or_append_left (take at k.bytes) over 0 i (omega (arith, s.long, length-take at k.bytes)) ∙ get_or-take at k.bytes i 0 (omega (arith, s.long)))
        (λ within. outside at over k.bytes i within out) (cases_lt (length k.bytes) at)

fallen_sound : (rot : Rot) (k : Kept) → IsSound (fallen rot k)
fallen_sound Keep k = firm_sound k.bytes
fallen_sound Old k = firm_sound k.synced
fallen_sound (Byte b) k = firm_sound (rotten b k.soft 0 k.bytes)

map_sound : (f : Kept → Kept) → ((k : Kept) → IsSound k → IsSound (f k)) → (o : Option Kept) → AreSound o → AreSound (option_map f o)
map_sound f h None s = tt
map_sound f h (Some k) s = h k s

abbrev Sound : Placed Kept → Type 0
Sound disk = (a : Area) (n : List ℕ) → AreSound (disk a n)

put_sound : (disk : Placed Kept) (a : Area) (n : List ℕ) (x : Option Kept) → Sound disk → AreSound x → Sound (put disk a n x)
unfolding put
put_sound disk a n x s h = λ b m. by (same_place a n b m) (disk b m) (s b m)
  where
    by : (t : Bool) (o : Option Kept) → AreSound o → AreSound (if t then x else o)
    by true o g = h
    by false o g = g

after_sound : (e : Event) (s : HostState) → Sound s.disk → Sound (host_state_after e s).disk
after_sound (create a n) s h = put_sound s.disk a n (Some (firm [])) h (firm_sound [])
after_sound (write a n at bytes) s h = put_sound s.disk a n (option_map (overwritten at bytes) (s.disk a n)) h (map_sound (overwritten at bytes) (overwritten_sound at bytes) (s.disk a n) (h a n))
after_sound (sync a n) s h = put_sound s.disk a n (option_map (λ k. firm k.bytes) (s.disk a n)) h (map_sound (λ k. firm k.bytes) (λ k g. firm_sound k.bytes) (s.disk a n) (h a n))
after_sound (rename a n b m) s h = put_sound (put s.disk a n None) b m (s.disk a n) (put_sound s.disk a n None h tt) (h a n)
after_sound (remove a n) s h = put_sound s.disk a n None h tt
after_sound (tell bytes) s h = h
after_sound (place a n bytes) s h = put_sound s.disk a n (Some (firm bytes)) h (firm_sound bytes)
after_sound (crash rot) s h = λ a n. map_sound (fallen rot) (λ k g. fallen_sound rot k) (s.disk a n) (h a n)

from_sound : (s : HostState) (h : List Event) → Sound s.disk → Sound (state_from s h).disk
from_sound s [] g = g
from_sound s (e ∷ h) g = from_sound (host_state_after e s) h (after_sound e s g)

pub state_sound : (h : List Event) → Sound (host_state_of h).disk
unfolding host_state_of
state_sound h = from_sound start h (λ a n. tt)

-- ---- what a crash makes is allowed, and durable

fallen_left : (rot : Rot) (k : Kept) → IsSound k → IsRemnant k (fallen rot k).bytes
fallen_left Keep k s = record { no_shorter = omega arith; no_longer = omega arith; firm = λ i h soft. refl }
fallen_left Old k s = record { no_shorter = omega arith; no_longer = s.long; firm = s.same }
fallen_left (Byte b) k s = record {
  no_shorter = omega (arith, length-rotten b k.soft 0 k.bytes);
  no_longer = omega (arith, length-rotten b k.soft 0 k.bytes);
  firm = λ i h soft. get_or-rotten b k.soft 0 k.bytes i (omega (arith, length-rotten b k.soft 0 k.bytes))
      ∙ ap (λ j. if is_soft k.soft j then b else get_or k.bytes i 0) (let e : 0 + i ≡ i = omega arith in e) ∙ ap (λ t. if t then b else get_or k.bytes i 0) soft;
}

place_left : (rot : Rot) (o : Option Kept) → AreSound o → IsLeft o (read_of (option_map (fallen rot) o))
place_left rot None s = tt
place_left rot (Some k) s = fallen_left rot k s

pub crash_allowed : (h g : List Event) (rot : Rot) → host_state_of g ≡ host_state_after (crash rot) (host_state_of h) → MayLeave (host_state_of h) (now (view_of g))
crash_allowed h g rot e = subst (λ (s : HostState). MayLeave (host_state_of h) (record { files = files_of s.disk; told = s.told })) (sym e)
    (record { told = refl; each = λ a n. place_left rot ((host_state_of h).disk a n) (state_sound h a n) })

fallen_reads : (rot : Rot) (o : Option Kept) (c : Option (List ℕ)) → IsLeft (option_map (fallen rot) o) c → c ≡ read_of (option_map (fallen rot) o)
fallen_reads rot None c h = none_left c h
fallen_reads Keep (Some k) c h = firm_left k.bytes c h
fallen_reads Old (Some k) c h = firm_left k.synced c h
fallen_reads (Byte b) (Some k) c h = firm_left (rotten b k.soft 0 k.bytes) c h

pub crash_durable : (h g : List Event) (rot : Rot) → host_state_of g ≡ host_state_after (crash rot) (host_state_of h) → (c : Remains) → MayLeave (host_state_of g) c → c ≡ now (view_of g)
crash_durable h g rot e c left = subst (λ (s : HostState). c ≡ record { files = files_of s.disk; told = s.told }) (sym e) is
  where
    at_crash : MayLeave (host_state_after (crash rot) (host_state_of h)) c
    at_crash = subst (λ (s : HostState). MayLeave s c) e left

    files : c.files ≡ files_of (host_state_after (crash rot) (host_state_of h)).disk
    files = fun_ext (λ a. fun_ext (λ n. fallen_reads rot ((host_state_of h).disk a n) (c.files a n) (at_crash.each a n)))

    is : c ≡ record { files = files_of (host_state_after (crash rot) (host_state_of h)).disk; told = (host_state_after (crash rot) (host_state_of h)).told }
    is = λ i. record { files = files i; told = at_crash.told i }

-- ---- a crash after a crash

rotten_nothing : (b o : ℕ) (xs : List ℕ) → rotten b [] o xs ≡ xs
rotten_nothing b o [] = refl
rotten_nothing b o (x ∷ xs) = ap (λ (l : List ℕ). x ∷ l) (rotten_nothing b (o + 1) xs)

firm_falls : (rot : Rot) (xs : List ℕ) → fallen rot (firm xs) ≡ firm xs
firm_falls Keep xs = refl
firm_falls Old xs = refl
firm_falls (Byte b) xs = ap firm (rotten_nothing b 0 xs)

falls_again : (w v : Rot) (o : Option Kept) → option_map (fallen v) (option_map (fallen w) o) ≡ option_map (fallen w) o
falls_again w v None = refl
falls_again Keep v (Some k) = ap (λ (q : Kept). Some q) (firm_falls v k.bytes)
falls_again Old v (Some k) = ap (λ (q : Kept). Some q) (firm_falls v k.synced)
falls_again (Byte b) v (Some k) = ap (λ (q : Kept). Some q) (firm_falls v (rotten b k.soft 0 k.bytes))

pub crash_again : (s : HostState) (w v : Rot) → host_state_after (crash v) (host_state_after (crash w) s) ≡ host_state_after (crash w) s
crash_again s w v = λ i. record { disk = fun_ext (λ a. fun_ext (λ n. falls_again w v (s.disk a n))) i; told = s.told }
