-- What each call does, by the event that it adds.
use Rattle.std.proofs.Common.{◌≡◌, ℕ, ◌≤◌, Bool, true, false, List, [], ◌∷◌, ◌++◌, length, take, Option, Some, None, refl, sym, ◌∙◌, ap, subst, arith, take_all, true≢false}
use Rattle.std.specs.Option.{option_map}
use Rattle.q_model.specs.declared.spot.Area.{Area}
use Rattle.q_host.specs.Files.{Placed, put, same_place, with_file, without_file, moved, written}
use Rattle.q_model.specs.SpoolFiles.{Files}
use Rattle.q_host.specs.View.{Remains, After}
use Rattle.q_host.specs.Steps.{Stay, Become, Tear, Sync, Add, AddSome}
use Rattle.q_host.specs.Calls.{Stays, Changes, Writes, Syncs, Tells, IsAsItWas}
use Rattle.q_host.proofs.Puts.{put-here, put-other, put-is, same_place-true, same_place-refl}
use Rattle.q_mem_host.specs.Kept.{Kept, firm, overwritten}
use Rattle.q_mem_host.specs.Event.{Event, HostState, host_state_after, host_state_of, create, write, sync, rename, remove, tell}
use Rattle.q_mem_host.specs.Left.{IsRemnant, IsLeft, MayLeave, read_of, files_of, view_of}
use Rattle.q_mem_host.proofs.History.{state_more, goes_by, goes_idle}
use Rattle.q_mem_host.proofs.Steps.{whole, firm-only, before, was_left, is_torn}

-- ---- what is left at one place

pub none_left : (o : Option (List ℕ)) → IsLeft None o → o ≡ None
none_left None h = refl
none_left (Some c) h = absurd h

pub firm_left : (bytes : List ℕ) (o : Option (List ℕ)) → IsLeft (Some (firm bytes)) o → o ≡ Some bytes
firm_left bytes None h = absurd h
firm_left bytes (Some c) h = ap (λ (l : List ℕ). Some l) (firm-only bytes c h)

reads_left : (o : Option Kept) → IsLeft o (read_of o)
reads_left None = tt
reads_left (Some k) = whole k

-- ---- the disk with something else at one place

left_but : (disk : Placed Kept) (f : Files) (a : Area) (n : List ℕ) (x : Option Kept) (y : Option (List ℕ))
    → ((b : Area) (m : List ℕ) → IsLeft (put disk a n x b m) (f b m)) → IsLeft (disk a n) y → (b : Area) (m : List ℕ) → IsLeft (disk b m) (put f a n y b m)
left_but disk f a n x y each here b m = by (same_place a n b m) refl
  where
    by : (t : Bool) → same_place a n b m ≡ t → IsLeft (disk b m) (put f a n y b m)
    by true e =
        let both = same_place-true a n b m e in
        let P : Area → List ℕ → Type 0 = λ b' m'. IsLeft (disk b' m') (put f a n y b' m') in
        let first : P a n = subst (λ (o : Option (List ℕ)). IsLeft (disk a n) o) (sym (put-here f a n y)) here in
        subst (λ m'. P b m') both.1 (subst (λ b'. P b' n) both.0 first)
    by false e =
        subst (λ (o : Option (List ℕ)). IsLeft (disk b m) o) (sym (put-other f a n y b m e)) (subst (λ (o : Option Kept). IsLeft o (f b m)) (put-other disk a n x b m e) (each b m))

at_place : (disk : Placed Kept) (f : Files) (a : Area) (n : List ℕ) (x : Option Kept) → ((b : Area) (m : List ℕ) → IsLeft (put disk a n x b m) (f b m)) → IsLeft x (f a n)
at_place disk f a n x each = subst (λ (o : Option Kept). IsLeft o (f a n)) (put-here disk a n x) (each a n)

-- ---- files made and taken away

-- a file with these bytes on the disk, or none
abbrev AllFirm : Option (List ℕ) → Option Kept
AllFirm = option_map firm

all_firm_left : (x o : Option (List ℕ)) → IsLeft (AllFirm x) o → o ≡ x
all_firm_left None o h = none_left o h
all_firm_left (Some bytes) o h = firm_left bytes o h

put_step : (s : HostState) (a : Area) (n : List ℕ) (x : Option (List ℕ)) (c : Remains)
    → MayLeave (record { disk = put s.disk a n (AllFirm x); told = s.told }) c → After (Become (λ f. put f a n x)) (MayLeave s) c
put_step s a n x c left = (
  record { files = put c.files a n (read_of (s.disk a n)); told = c.told },
  record { told = left.told; each = left_but s.disk c.files a n (AllFirm x) (read_of (s.disk a n)) left.each (reads_left (s.disk a n)) },
  (put-is (put c.files a n (read_of (s.disk a n))) c.files a n x (all_firm_left x (c.files a n) (at_place s.disk c.files a n (AllFirm x) left.each)) (λ b m e. sym (put-other c.files a n (read_of (s.disk a n)) b m e)), refl),
)

read_all_firm : (x : Option (List ℕ)) → read_of (AllFirm x) ≡ x
read_all_firm None = refl
read_all_firm (Some bytes) = refl

files_put : (disk : Placed Kept) (a : Area) (n : List ℕ) (x : Option Kept) → files_of (put disk a n x) ≡ put (files_of disk) a n (read_of x)
files_put disk a n x = put-is (files_of disk) (files_of (put disk a n x)) a n (read_of x) (ap read_of (put-here disk a n x)) (λ b m e. ap read_of (put-other disk a n x b m e))

put_changes : (h : List Event) (e : Event) (a : Area) (n : List ℕ) (x : Option (List ℕ)) → host_state_after e (host_state_of h) ≡ record { disk = put (host_state_of h).disk a n (AllFirm x); told = (host_state_of h).told }
    → Changes (λ f. put f a n x) (view_of h) (view_of (h ++ e ∷ []))
put_changes h e a n x is = record {
  files = ap (λ (s : HostState). files_of s.disk) (state_more h e ∙ is) ∙ files_put (host_state_of h).disk a n (AllFirm x) ∙ ap (λ (o : Option (List ℕ)). put (files_of (host_state_of h).disk) a n o) (read_all_firm x);
  told = ap (λ (s : HostState). s.told) (state_more h e ∙ is);
  goes = goes_by (Become (λ f. put f a n x)) (Become (λ f. put f a n x)) h e (λ c left. put_step (host_state_of h) a n x c (subst (λ (s : HostState). MayLeave s c) is left)) (λ d c st. st);
}

pub made : (h : List Event) (a : Area) (n : List ℕ) → Changes (λ f. with_file f a n []) (view_of h) (view_of (h ++ create a n ∷ []))
made h a n = put_changes h (create a n) a n (Some []) refl

pub removed : (h : List Event) (a : Area) (n : List ℕ) → Changes (λ f. without_file f a n) (view_of h) (view_of (h ++ remove a n ∷ []))
removed h a n = put_changes h (remove a n) a n None refl

-- ---- nothing

pub idle : (h : List Event) → Stays (view_of h) (view_of h)
idle h = record { files = refl; told = refl; goes = goes_idle Stay Stay h (λ d. refl) }

pub as_it_was : (h : List Event) → IsAsItWas (view_of h) (view_of h)
as_it_was h = record { files = refl; told = refl; moment = refl; may_leave = λ c left. left; left_since = λ t c left. left }

-- ---- told bytes

pub told_all : (h : List Event) (bytes : List ℕ) → Tells bytes (length bytes) (view_of h) (view_of (h ++ tell bytes ∷ []))
told_all h bytes = record {
  files = ap (λ (s : HostState). files_of s.disk) (state_more h (tell bytes));
  told = ap (λ (s : HostState). s.told) (state_more h (tell bytes)) ∙ ap (λ (l : List ℕ). (host_state_of h).told ++ l) (sym all);
  goes = goes_by (Add (take (length bytes) bytes)) (AddSome bytes) h (tell bytes) step (λ d c st. (length bytes, omega arith, st));
}
  where
    all : take (length bytes) bytes ≡ bytes
    all = take_all (length bytes) bytes (omega arith)

    step : (c : Remains) → MayLeave (host_state_after (tell bytes) (host_state_of h)) c → After (Add (take (length bytes) bytes)) (MayLeave (host_state_of h)) c
    step c left = (record { files = c.files; told = (host_state_of h).told }, record { told = refl; each = left.each }, record { files = refl; told = left.told ∙ ap (λ (l : List ℕ). (host_state_of h).told ++ l) (sym all) })

-- ---- synced files

sync_step : (s : HostState) (a : Area) (n : List ℕ) (k : Kept) → s.disk a n ≡ Some k → (c : Remains)
    → MayLeave (host_state_after (sync a n) s) c → After (Sync a n (read_of (s.disk a n))) (MayLeave s) c
sync_step s a n k is c left = (c, record { told = left.told; each = each }, record { same = refl; whole = here })
  where
    to : option_map (λ (q : Kept). firm q.bytes) (s.disk a n) ≡ Some (firm k.bytes)
    to = ap (option_map (λ (q : Kept). firm q.bytes)) is

    there : (b : Area) (m : List ℕ) → IsLeft (put s.disk a n (Some (firm k.bytes)) b m) (c.files b m)
    there b m = subst (λ (o : Option Kept). IsLeft (put s.disk a n o b m) (c.files b m)) to (left.each b m)

    is_bytes : c.files a n ≡ Some k.bytes
    is_bytes = firm_left k.bytes (c.files a n) (at_place s.disk c.files a n (Some (firm k.bytes)) there)

    here : c.files a n ≡ read_of (s.disk a n)
    here = is_bytes ∙ sym (ap read_of is)

    each : (b : Area) (m : List ℕ) → IsLeft (s.disk b m) (c.files b m)
    each b m = subst (λ (f : Files). IsLeft (s.disk b m) (f b m)) (sym (put-is c.files c.files a n (read_of (s.disk a n)) here (λ b' m' e. refl)))
        (left_but s.disk c.files a n (Some (firm k.bytes)) (read_of (s.disk a n)) there (reads_left (s.disk a n)) b m)

firm_reads : (o : Option Kept) → read_of (option_map (λ (q : Kept). firm q.bytes) o) ≡ read_of o
firm_reads None = refl
firm_reads (Some k) = refl

pub synced : (h : List Event) (a : Area) (n : List ℕ) (k : Kept) → (host_state_of h).disk a n ≡ Some k → Syncs a n (view_of h) (view_of (h ++ sync a n ∷ []))
synced h a n k is = record {
  files = ap (λ (s : HostState). files_of s.disk) (state_more h (sync a n)) ∙ files_put (host_state_of h).disk a n _
      ∙ ap (λ (o : Option (List ℕ)). put (files_of (host_state_of h).disk) a n o) (firm_reads ((host_state_of h).disk a n))
      ∙ sym (put-is (files_of (host_state_of h).disk) (files_of (host_state_of h).disk) a n (read_of ((host_state_of h).disk a n)) refl (λ b m e. refl));
  told = ap (λ (s : HostState). s.told) (state_more h (sync a n));
  goes = goes_by (Sync a n (read_of ((host_state_of h).disk a n))) Stay h (sync a n) (sync_step (host_state_of h) a n k is) (λ d c st. st.same);
}

-- ---- written bytes

some_left : (k : Kept) (o : Option (List ℕ)) → IsLeft (Some k) o → (c : List ℕ) × (o ≡ Some c) × IsRemnant k c
some_left k None h = absurd h
some_left k (Some c) h = (c, refl, h)

write_step : (s : HostState) (a : Area) (n : List ℕ) (at : ℕ) (over : List ℕ) (k : Kept) → s.disk a n ≡ Some k → at ≤ length k.bytes → (c : Remains)
    → MayLeave (host_state_after (write a n at over) s) c → After (Tear a n at (length over)) (MayLeave s) c
write_step s a n at over k is within c left = (
  record { files = put c.files a n (Some was); told = c.told },
  record { told = left.told; each = each },
  record {
    old = was;
    new = found.0;
    was = put-here c.files a n (Some was);
    is = found.1;
    torn = is_torn at over k found.0 within found.2;
    others = λ b m e. sym (put-other c.files a n (Some was) b m e);
    told = refl;
  },
)
  where
    to : option_map (overwritten at over) (s.disk a n) ≡ Some (overwritten at over k)
    to = ap (option_map (overwritten at over)) is

    there : (b : Area) (m : List ℕ) → IsLeft (put s.disk a n (Some (overwritten at over k)) b m) (c.files b m)
    there b m = subst (λ (o : Option Kept). IsLeft (put s.disk a n o b m) (c.files b m)) to (left.each b m)

    found : (x : List ℕ) × (c.files a n ≡ Some x) × IsRemnant (overwritten at over k) x
    found = some_left (overwritten at over k) (c.files a n) (at_place s.disk c.files a n (Some (overwritten at over k)) there)

    was : List ℕ
    was = before at over k found.0 within found.2

    each : (b : Area) (m : List ℕ) → IsLeft (s.disk b m) (put c.files a n (Some was) b m)
    each = left_but s.disk c.files a n (Some (overwritten at over k)) (Some was) there (subst (λ (o : Option Kept). IsLeft o (Some was)) (sym is) (was_left at over k found.0 within found.2))

written_reads : (at : ℕ) (over : List ℕ) (o : Option Kept) → read_of (option_map (overwritten at over) o) ≡ option_map (written at over) (read_of o)
written_reads at over None = refl
written_reads at over (Some k) = refl

pub wrote : (h : List Event) (a : Area) (n : List ℕ) (at : ℕ) (over : List ℕ) (k : Kept) → (host_state_of h).disk a n ≡ Some k → at ≤ length k.bytes → Writes a n at over (length over) (view_of h) (view_of (h ++ write a n at over ∷ []))
wrote h a n at over k is within = record {
  files = ap (λ (s : HostState). files_of s.disk) (state_more h (write a n at over)) ∙ files_put (host_state_of h).disk a n _
      ∙ ap (λ (o : Option (List ℕ)). put (files_of (host_state_of h).disk) a n o) (written_reads at over ((host_state_of h).disk a n) ∙ ap (λ (l : List ℕ). option_map (written at l) (read_of ((host_state_of h).disk a n))) (sym all));
  told = ap (λ (s : HostState). s.told) (state_more h (write a n at over));
  goes = goes_by (Tear a n at (length over)) (Tear a n at (length over)) h (write a n at over) (write_step (host_state_of h) a n at over k is within) (λ d c st. st);
}
  where
    all : take (length over) over ≡ over
    all = take_all (length over) over (omega arith)

-- ---- moved files

other_way : (a : Area) (n : List ℕ) (b : Area) (m : List ℕ) → same_place a n b m ≡ false → same_place b m a n ≡ false
other_way a n b m differ = by (same_place b m a n) refl
  where
    by : (t : Bool) → same_place b m a n ≡ t → t ≡ false
    by true e =
        let both = same_place-true b m a n e in
        let turned : same_place a n b m ≡ true = subst (λ b'. same_place a n b' m ≡ true) (sym both.0) (subst (λ m'. same_place a n a m' ≡ true) (sym both.1) (same_place-refl a n)) in
        absurd (true≢false (sym turned ∙ differ))
    by false e = refl

rename_step : (s : HostState) (a : Area) (n : List ℕ) (b : Area) (m : List ℕ) → same_place a n b m ≡ false → (c : Remains)
    → MayLeave (host_state_after (rename a n b m) s) c → After (Become (λ f. moved f a n b m)) (MayLeave s) c
rename_step s a n b m differ c left = (record { files = d; told = c.told }, record { told = left.told; each = each }, (put-is (without_file d a n) c.files b m (d a n) (sym (put-here x a n (c.files b m))) others, refl))
  where
    x : Files
    x = put c.files b m (read_of (s.disk b m))

    d : Files
    d = put x a n (c.files b m)

    without : Placed Kept
    without = put s.disk a n None

    there : IsLeft (without b m) (read_of (s.disk b m))
    there = subst (λ (o : Option Kept). IsLeft o (read_of (s.disk b m))) (sym (put-other s.disk a n None b m differ)) (reads_left (s.disk b m))

    first : (p : Area) (q : List ℕ) → IsLeft (without p q) (x p q)
    first = left_but without c.files b m (s.disk a n) (read_of (s.disk b m)) left.each there

    each : (p : Area) (q : List ℕ) → IsLeft (s.disk p q) (d p q)
    each = left_but s.disk x a n None (c.files b m) first (at_place without c.files b m (s.disk a n) left.each)

    gone : c.files a n ≡ None
    gone = none_left (c.files a n) (subst (λ (o : Option Kept). IsLeft o (c.files a n)) (put-other without b m (s.disk a n) a n (other_way a n b m differ) ∙ put-here s.disk a n None) (left.each a n))

    others : (p : Area) (q : List ℕ) → same_place b m p q ≡ false → c.files p q ≡ without_file d a n p q
    others p q e = by (same_place a n p q) refl
      where
        by : (t : Bool) → same_place a n p q ≡ t → c.files p q ≡ without_file d a n p q
        by true e2 =
            let both = same_place-true a n p q e2 in
            let P : Area → List ℕ → Type 0 = λ p' q'. c.files p' q' ≡ without_file d a n p' q' in
            let here : P a n = gone ∙ sym (put-here d a n None) in
            subst (λ q'. P p q') both.1 (subst (λ p'. P p' n) both.0 here)
        by false e2 = sym (put-other d a n None p q e2 ∙ put-other x a n (c.files b m) p q e2 ∙ put-other c.files b m (read_of (s.disk b m)) p q e)

pub renamed : (h : List Event) (a : Area) (n : List ℕ) (b : Area) (m : List ℕ) → same_place a n b m ≡ false → Changes (λ f. moved f a n b m) (view_of h) (view_of (h ++ rename a n b m ∷ []))
renamed h a n b m differ = record {
  files = ap (λ (s : HostState). files_of s.disk) (state_more h (rename a n b m)) ∙ files_put (put (host_state_of h).disk a n None) b m ((host_state_of h).disk a n)
      ∙ ap (λ (f : Files). put f b m (read_of ((host_state_of h).disk a n))) (files_put (host_state_of h).disk a n None);
  told = ap (λ (s : HostState). s.told) (state_more h (rename a n b m));
  goes = goes_by (Become (λ f. moved f a n b m)) (Become (λ f. moved f a n b m)) h (rename a n b m) (rename_step (host_state_of h) a n b m differ) (λ d c st. st);
}
