-- What a contract sees of lines and peers, after each call.
use Rattle.std.proofs.Common.{◌≡◌, ◌∙◌, ◌∷◌, ◌++◌, [], ap, List, set, Some, subst, sym, true, ℕ}
use Rattle.std.proofs.lemmas.List.{map-append}
use Rattle.std.specs.Prelude.{slice_get}
use Rattle.q_jobs.specs.declared.job.Job.{Job}
use Rattle.q_jobs.specs.Jobs.{Jobs}
use Rattle.q_keyed.specs.Numbered.{Items, Numbered, values_of}
use Rattle.q_rounds.specs.declared.peer.Peer.{Peer}
use Rattle.q_suspended.specs.Suspensions.{Suspensions}
use Rattle.q_suspended.specs.declared.suspension.Suspension.{Suspension}
use Rattle.q_turns.specs.Sound.{jobs_of}
use Rattle.q_rounds.specs.Rounds.{waits}
use Rattle.q_turns.specs.Turns.{HaveJobs, may_wait, Turning, with_line}
use Rattle.q_turns.proofs.Having.{have_more}
use Rattle.q_turns.proofs.LineSets.{jobs_at, jobs_set}

abbrev pub turning : List Jobs → Items Peer → Suspensions → ℕ → Turning
turning lines peers suspended line_room = record {
  lines = jobs_of lines;
  peers = values_of peers.items;
  suspended = suspended.items;
  line_room = line_room;
  room = peers.room;
  suspended_room = suspended.room;
}

-- other peers
pub peers_seen : (lines : List Jobs) (peers more : Items Peer) (suspended : Suspensions) (line_room : ℕ) (seen : Turning) (g : List Peer → List Peer) → turning lines peers suspended line_room ≡ seen → more.room ≡ peers.room → values_of more.items ≡ g (values_of peers.items) →
    turning lines more suspended line_room ≡ record seen { peers = g seen.peers }
peers_seen lines peers more suspended line_room seen g is room values =
    ap (λ n. record (turning lines more suspended line_room) { room = n }) room
    ∙ ap (λ ps. record (turning lines peers suspended line_room) { peers = ps }) values
    ∙ ap (λ (t : Turning). record t { peers = g t.peers }) is

-- another line
pub lines_seen : (lines : List Jobs) (peers : Items Peer) (suspended : Suspensions) (line_room t : ℕ) (seen : Turning) (g : List Job → List Job) (old new : Jobs) → turning lines peers suspended line_room ≡ seen → slice_get lines t ≡ Some old → new.jobs ≡ g old.jobs →
    turning (set lines t new) peers suspended line_room ≡ record seen { lines = with_line t g seen.lines }
lines_seen lines peers suspended line_room t seen g old new is there jobs =
    ap (λ ls. record (turning lines peers suspended line_room) { lines = ls })
    (jobs_set t new g lines (jobs ∙ ap g (sym (jobs_at t lines old there))))
    ∙ ap (λ (s : Turning). record s { lines = with_line t g s.lines }) is

pub have_new : (lines : List (List Job)) (ks : List (Numbered Peer)) (m : ℕ) (x : Peer) → HaveJobs lines (values_of ks) → waits x ≡ true → may_wait lines x.site.transport x.id ≡ true → HaveJobs lines (values_of (ks ++ record { number = m; item = x } ∷ []))
have_new lines ks m x h w may =
    subst (HaveJobs lines) (sym (map-append (λ (k : Numbered Peer). k.item) ks (record { number = m; item = x } ∷ []))) (have_more lines (values_of ks) x h w may)

-- other sites are suspended
pub suspended_seen : (lines : List Jobs) (peers : Items Peer) (suspended other : Suspensions) (line_room : ℕ) (seen : Turning) (items : List Suspension) → turning lines peers suspended line_room ≡ seen → other ≡ record suspended { items = items } →
    turning lines peers other line_room ≡ record seen { suspended = items }
suspended_seen lines peers suspended other line_room seen items is change =
    ap (λ s. turning lines peers s line_room) change ∙ ap (λ (t : Turning). record t { suspended = items }) is

-- lines without peers
abbrev pub lines_with : List (List Job) → ℕ → ℕ → ℕ → Turning
lines_with lines line_room room suspended_room = record {
  lines = lines;
  peers = [];
  suspended = [];
  line_room = line_room;
  room = room;
  suspended_room = suspended_room;
}
