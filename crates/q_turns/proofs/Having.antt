-- Each peer has a job and rows that wait, as peers come, change and leave.
use Rattle.std.proofs.Common.{◌≡◌, ◌∙◌, ◌∷◌, ◌++◌, [], ap, Bool, cond, false, List, map, option_map, not, refl, Some, subst, true, ℕ}
use Rattle.std.specs.Prelude.{◌==◌, filter, find}
use Rattle.q_jobs.specs.declared.job.Job.{Job}
use Rattle.q_keyed.proofs.Values.{changed_where}
use Rattle.q_keyed.specs.Numbered.{has_number, item_at, Numbered, values_of}
use Rattle.q_rounds.specs.declared.peer.Peer.{Peer}
use Rattle.q_rounds.specs.Rounds.{waits}
use Rattle.q_turns.specs.Turns.{HaveJobs, may_wait}

-- a row waits for each
abbrev pub AllWait : List Peer → Type 0
AllWait [] = Unit {0}
AllWait (p ∷ ps) = (waits p ≡ true) × AllWait ps

pub all_wait : (lines : List (List Job)) (ps : List Peer) → HaveJobs lines ps → AllWait ps
all_wait lines [] h = tt
all_wait lines (p ∷ ps) h = (h.0, all_wait lines ps h.2)

pub have_more : (lines : List (List Job)) (ps : List Peer) (x : Peer) → HaveJobs lines ps → waits x ≡ true → may_wait lines x.site.transport x.id ≡ true → HaveJobs lines (ps ++ x ∷ [])
have_more lines [] x h w m = (w, m, tt)
have_more lines (p ∷ ps) x h w m = (h.0, h.1, have_more lines ps x h.2 w m)

set_step : (lines : List (List Job)) (x p : Peer) (ps : List Peer) (b : Bool) → waits x ≡ true → may_wait lines x.site.transport x.id ≡ true → waits p ≡ true → may_wait lines p.site.transport p.id ≡ true → HaveJobs lines ps → HaveJobs lines (cond b x p ∷ ps)
set_step lines x p ps true w m v n rest = (w, m, rest)
set_step lines x p ps false w m v n rest = (v, n, rest)

-- another in the place of those that pass
pub have_set : (lines : List (List Job)) (q : Peer → Bool) (x : Peer) (ps : List Peer) → HaveJobs lines ps → waits x ≡ true → may_wait lines x.site.transport x.id ≡ true → HaveJobs lines (map (changed_where q (λ (p : Peer). x)) ps)
have_set lines q x [] h w m = tt
have_set lines q x (p ∷ ps) h w m = set_step lines x p (map (changed_where q (λ (p : Peer). x)) ps) (q p) w m h.0 h.1 (have_set lines q x ps h.2 w m)

left_step : (lines : List (List Job)) (p : Peer) (ps : List Peer) (b : Bool) → waits p ≡ true → may_wait lines p.site.transport p.id ≡ true → HaveJobs lines ps → HaveJobs lines (cond b (p ∷ ps) ps)
left_step lines p ps true w m rest = (w, m, rest)
left_step lines p ps false w m rest = rest

pub have_left : (lines : List (List Job)) (q : Peer → Bool) (ps : List Peer) → HaveJobs lines ps → HaveJobs lines (filter q ps)
have_left lines q [] h = tt
have_left lines q (p ∷ ps) h = left_step lines p (filter q ps) (q p) h.0 h.1 (have_left lines q ps h.2)

at_step : (lines : List (List Job)) (n : ℕ) (p : Peer) (k : Numbered Peer) (ks : List (Numbered Peer)) (b : Bool) → waits k.item ≡ true → may_wait lines k.item.site.transport k.item.id ≡ true →
    option_map (λ (k : Numbered Peer). k.item) (cond b (Some k) (find (has_number n) ks)) ≡ Some p →
    (item_at n ks ≡ Some p → (waits p ≡ true) × (may_wait lines p.site.transport p.id ≡ true)) → (waits p ≡ true) × (may_wait lines p.site.transport p.id ≡ true)
at_step lines n p k ks true w m there rest =
    let same : k.item ≡ p = cc in
    (subst (λ (x : Peer). waits x ≡ true) same w, subst (λ (x : Peer). may_wait lines x.site.transport x.id ≡ true) same m)
at_step lines n p k ks false w m there rest = rest there

-- the peer of a number has them
pub have_at : (lines : List (List Job)) (n : ℕ) (p : Peer) (ks : List (Numbered Peer)) → HaveJobs lines (values_of ks) → item_at n ks ≡ Some p → (waits p ≡ true) × (may_wait lines p.site.transport p.id ≡ true)
have_at lines n p [] h there = cc
have_at lines n p (k ∷ ks) h there = at_step lines n p k ks (k.number == n) h.0 h.1 there (have_at lines n p ks h.2)

-- What is left where one row less waits.
pub keep_waiting : (ps : List Peer) → AllWait ps → filter waits ps ≡ ps
keep_waiting [] h = refl
keep_waiting (p ∷ ps) h = ap (λ b. cond b (p ∷ filter waits ps) (filter waits ps)) h.0 ∙ ap (λ qs. p ∷ qs) (keep_waiting ps h.1)

wait_step : (x p : Peer) (b : Bool) → waits x ≡ true → waits p ≡ true → waits (cond b x p) ≡ true
wait_step x p true w v = w
wait_step x p false w v = v

pub wait_set : (q : Peer → Bool) (x : Peer) (ps : List Peer) → waits x ≡ true → AllWait ps → AllWait (map (changed_where q (λ (p : Peer). x)) ps)
wait_set q x [] w h = tt
wait_set q x (p ∷ ps) w h = (wait_step x p (q p) w h.0, wait_set q x ps w h.1)

gone_step : (x p : Peer) (zs ys : List Peer) (b : Bool) → waits x ≡ false → waits p ≡ true → filter waits zs ≡ ys → filter waits (cond b x p ∷ zs) ≡ cond (not b) (p ∷ ys) ys
gone_step x p zs ys true w v rest = ap (λ b. cond b (x ∷ filter waits zs) (filter waits zs)) w ∙ rest
gone_step x p zs ys false w v rest = ap (λ b. cond b (p ∷ filter waits zs) (filter waits zs)) v ∙ ap (λ qs. p ∷ qs) rest

-- one for which none waits goes
pub wait_gone : (q : Peer → Bool) (x : Peer) (ps : List Peer) → waits x ≡ false → AllWait ps → filter waits (map (changed_where q (λ (p : Peer). x)) ps) ≡ filter (λ p. not (q p)) ps
wait_gone q x [] w h = refl
wait_gone q x (p ∷ ps) w h = gone_step x p (map (changed_where q (λ (p : Peer). x)) ps) (filter (λ p. not (q p)) ps) (q p) w h.0 (wait_gone q x ps w h.1)
