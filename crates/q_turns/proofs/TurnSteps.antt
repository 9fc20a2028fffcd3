-- What always holds of lines, peers, lanes and their tickets, after each call.
use Rattle.std.proofs.Common.{◌≡◌, ◌∙◌, ◌∷◌, ◌++◌, ◌<◌, ◌≤◌, [], ap, arith, cond, length, List, map, None, Option, option_map, refl, replicate, set, Some, subst, suc, sym, true, zero, ◌^◌, ℕ}
use Rattle.std.proofs.lemmas.List.{length-replicate, map-append}
use Rattle.std.specs.Option.{is_some}
use Rattle.std.specs.Prelude.{filter, find, option_and_then, slice_get}
use Rattle.q_heads.specs.Lanes.{Lanes}
use Rattle.q_heads.specs.Marks.{with_mark, without}
use Rattle.q_jobs.specs.declared.job.Job.{Job}
use Rattle.q_jobs.specs.Jobs.{AreOfOthers, Jobs}
use Rattle.q_keyed.specs.Numbered.{AreApart, AreKeysApart, has_number, item_at, Items, Numbered, put_at, values_of, without_number}
use Rattle.q_model.specs.declared.id.Id.{Id}
use Rattle.q_model.specs.Sites.{site_eq}
use Rattle.q_model.specs.Values.{Site}
use Rattle.q_sorted.specs.declared.ticket.Ticket.{Ticket}
use Rattle.q_sorted.specs.Tickets.{inserted, is_another, is_of, Rises, Tickets}
use Rattle.q_suspended.specs.Suspensions.{Suspensions}
use Rattle.q_turns.specs.Suspending.{class_at}
use Rattle.q_turns.specs.declared.lane.Lane.{Lane}
use Rattle.q_rounds.specs.declared.peer.Peer.{Peer}
use Rattle.q_rounds.specs.Listing.{AreTickets}
use Rattle.q_turns.specs.Heading.{head_at, head_in, lane_of, message_at, message_ticket, rank_by}
use Rattle.q_turns.specs.Laning.{empty_lane, HasMade, lanes_without}
use Rattle.q_turns.specs.Sound.{ArePlaced, AreRanked, AreSound, IsSound, jobs_of}
use Rattle.q_rounds.specs.Rounds.{waits}
use Rattle.q_turns.specs.Turns.{AreLinesApart, HaveJobs, may_wait, with_line}
use Rattle.q_turns.proofs.Having.{have_more}
use Rattle.q_turns.proofs.HeadLaws.{at_same, at_tells, head_same, lanes_alike, no_line}
use Rattle.q_turns.proofs.LaneLaws.{lanes_more, laned_more, placed_made, places_kept, places_left}
use Rattle.q_turns.proofs.LineSets.{apart_empty, apart_set, count_set, empty_line, jobs_at, jobs_empty, jobs_set, room_at, room_empty, room_set}
use Rattle.q_turns.proofs.Placing.{laned_put, lanes_put, listed_less, listed_more, listed_put, placed_less, placed_more, placed_put, with_peer}
use Rattle.q_turns.proofs.RankSets.{peer_ranked, ranked_set}
use Rattle.q_rounds.proofs.Entered.{alike, most_tickets}
use Rattle.q_turns.proofs.LaneCounts.{few_lanes}

pub values_more : (n : ℕ) (p : Peer) (ks : List (Numbered Peer)) → values_of (with_peer n p ks) ≡ values_of ks ++ p ∷ []
values_more n p ks = map-append (λ (k : Numbered Peer). k.item) ks (record { number = n; item = p } ∷ [])

map_there : (f : Peer → Ticket) (o : Option Peer) (e : Ticket) → option_map f o ≡ Some e → is_some o ≡ true
map_there f None e h = absurd cc
map_there f (Some p) e h = refl

test_step : (m d : ℕ) (t : Option Ticket) → cond (is_some t) None (Some m) ≡ Some d → (m ≡ d) × (t ≡ None)
test_step m d None h = let same : m ≡ d = cc in (same, refl)
test_step m d (Some x) h = absurd cc

own_lane : (site : Site) (lanes : List (Numbered Lane)) (items : List Ticket) (l : Option ℕ) (d : ℕ) → lane_of site lanes ≡ l → option_and_then (λ m. cond (is_some (find (is_of m) items)) None (Some m)) l ≡ Some d → (lane_of site lanes ≡ Some d) × (find (is_of d) items ≡ None)
own_lane site lanes items None d l h = absurd cc
own_lane site lanes items (Some m) d l h =
    let both = test_step m d (find (is_of m) items) h in
    (l ∙ ap Some both.0, ap (λ i. find (is_of i) items) (sym both.0) ∙ both.1)

-- the same in other words
pub sound_from : (lines : List Jobs) (p q : Items Peer) (l m : Items Lane) (h k : Lanes) (e f : Tickets) (s : Suspensions) (room : ℕ) → q ≡ p → m ≡ l → k ≡ h → f ≡ e → IsSound lines p l h e s room → IsSound lines q m k f s room
sound_from lines p q l m h k e f s room peers lanes heads messages sound =
    subst (λ v. IsSound lines v m k f s room) (sym peers) (subst (λ v. IsSound lines p v k f s room) (sym lanes) (subst (λ v. IsSound lines p l v f s room) (sym heads) (subst (λ v. IsSound lines p l h v s room) (sym messages) sound)))

ranked_empty : (line_room n : ℕ) → AreRanked (replicate n (empty_line line_room))
ranked_empty line_room zero = tt
ranked_empty line_room (suc n) = (refl, ranked_empty line_room n)

module _ (lines : List Jobs) (peers : Items Peer) (lanes : Items Lane) (heads : Lanes) (messages : Tickets) (suspended : Suspensions) (line_room : ℕ) (sound : IsSound lines peers lanes heads messages suspended line_room) where
  -- tickets are no more than peers
  pub few_heads : Rises heads.items → length heads.items ≤ length peers.items
  few_heads rising = most_tickets (head_at (rank_by lines) lanes.items peers.items) heads.items peers.items sound.places.placed rising (λ m e h. ap is_some (at_tells (rank_by lines) lanes.items peers.items m e h).there)

  pub few_messages : Rises messages.items → length messages.items ≤ length peers.items
  few_messages rising = most_tickets (message_at peers.items) messages.items peers.items sound.listed rising (λ m e h. map_there (message_ticket m) (item_at m peers.items) e h)

  pub few_lanes_there : AreApart lanes.items → AreKeysApart site_eq (λ (l : Lane). l.site) lanes.items → length lanes.items ≤ length (values_of peers.items)
  few_lanes_there apart keys = few_lanes lanes.items peers.items apart keys (λ j l h. (sound.places.lanes_are j l h).used)

  pub unranked : (q : Peer) → length lines ≤ q.site.transport → rank_by lines q ≡ None
  unranked q past = no_line lines q past

  -- a peer comes
  pub sound_more : (n : ℕ) (p : Peer) (more : List (Numbered Lane)) (after : Lanes) (o : Option Ticket) → find (has_number n) peers.items ≡ None → HasMade (class_at suspended.items) p.site lanes.items more heads after → waits p ≡ true → may_wait (jobs_of lines) p.site.transport p.id ≡ true → o ≡ head_in (rank_by lines) more n p →
      IsSound lines (record peers { items = with_peer n p peers.items }) (record lanes { items = more }) (record after { items = with_mark o after.items }) (record messages { items = inserted (message_ticket n p) messages.items }) suspended line_room
  sound_more n p more after o free made w m is =
      let old = sound.lines_are in
      let placed = placed_made (class_at suspended.items) (rank_by lines) (length lines) lanes.items more peers.items heads after p.site sound.places unranked made in
      record {
        lines_are = record {
          room = old.room;
          apart = old.apart;
          ranked = old.ranked;
          few = old.few;
          jobs = subst (HaveJobs (jobs_of lines)) (sym (values_more n p peers.items)) (have_more (jobs_of lines) (values_of peers.items) p old.jobs w m);
        };
        places = record {
          placed = placed_more (rank_by lines) more peers.items after.items n p o (subst (λ xs. AreTickets (head_at (rank_by lines) more peers.items) xs) (sym (ap (λ (s : Lanes). s.items) made.heads)) placed) free is;
          laned = laned_more (class_at suspended.items) (rank_by lines) (length lines) lanes.items more peers.items heads after p.site sound.places unranked made n p free refl;
          lanes_are = lanes_alike (class_at suspended.items) more (with_peer n p peers.items) after (record after { items = with_mark o after.items }) refl refl
              (lanes_more (class_at suspended.items) (rank_by lines) (length lines) lanes.items more peers.items heads after p.site sound.places unranked made n p free refl);
        };
        listed = listed_more peers.items messages.items n p sound.listed free;
        lane_room = sound.lane_room;
        head_room = ap (λ (s : Lanes). s.room) made.heads ∙ sound.head_room;
        lanes_room = ap (λ (s : Lanes). s.lanes) made.heads ∙ sound.lanes_room;
        list_room = sound.list_room;
      }

  -- a peer changes, but for its message and site
  pub sound_put : (n : ℕ) (p x : Peer) → item_at n peers.items ≡ Some p → x.id ≡ p.id → x.site ≡ p.site → HaveJobs (jobs_of lines) (values_of (map (put_at n x) peers.items)) →
      IsSound lines (record peers { items = map (put_at n x) peers.items }) lanes heads messages suspended line_room
  sound_put n p x there id site jobs =
      let old = sound.lines_are in
      let rank : rank_by lines x ≡ rank_by lines p = ap (λ (s : Site). rank_by lines (record x { site = s })) site ∙ ap (λ (i : Id). rank_by lines (record p { id = i })) id in
      record {
        lines_are = record { room = old.room; apart = old.apart; ranked = old.ranked; few = old.few; jobs = jobs };
        places = record {
          placed = placed_put n p x peers.items there id site (rank_by lines) lanes.items heads.items rank sound.places.placed;
          laned = laned_put n p x peers.items there id site (length lines) lanes.items sound.places.laned;
          lanes_are = lanes_put n p x peers.items there id site (class_at suspended.items) lanes.items heads sound.places.lanes_are;
        };
        listed = listed_put n p x peers.items there id site messages.items sound.listed;
        lane_room = sound.lane_room;
        head_room = sound.head_room;
        lanes_room = sound.lanes_room;
        list_room = sound.list_room;
      }

  -- a peer goes
  module _ (n : ℕ) (p : Peer) (o : Option Ticket) (there : item_at n peers.items ≡ Some p) (is : o ≡ head_in (rank_by lines) lanes.items n p) (apart : AreApart lanes.items) (keys : AreKeysApart site_eq (λ (l : Lane). l.site) lanes.items) where
    abbrev after : Lanes
    after = record heads { items = without o heads.items }

    places_step : (d : Option ℕ) → empty_lane p.site lanes.items after.items ≡ d → ArePlaced (class_at suspended.items) (rank_by lines) (length lines) (lanes_without d lanes.items) (without_number n peers.items) after
    places_step None h =
        places_kept (class_at suspended.items) (rank_by lines) (length lines) lanes.items apart keys peers.items n p there heads after refl refl sound.places.laned sound.places.lanes_are
        (peer_ranked lines peers.items line_room sound.lines_are)
        (placed_less (rank_by lines) lanes.items peers.items heads.items n p o sound.places.placed there is) h
    places_step (Some d) h =
        let own = own_lane p.site lanes.items after.items (lane_of p.site lanes.items) d refl h in
        places_left (class_at suspended.items) (rank_by lines) (length lines) lanes.items apart keys peers.items n p there heads after refl refl sound.places.laned sound.places.lanes_are
        (peer_ranked lines peers.items line_room sound.lines_are)
        (placed_less (rank_by lines) lanes.items peers.items heads.items n p o sound.places.placed there is) d own.0 own.1

    pub sound_less : HaveJobs (jobs_of lines) (values_of (without_number n peers.items)) →
        IsSound lines (record peers { items = without_number n peers.items }) (record lanes { items = lanes_without (empty_lane p.site lanes.items after.items) lanes.items }) after (record messages { items = filter (is_another (message_ticket n p)) messages.items }) suspended line_room
    sound_less jobs =
        let old = sound.lines_are in
        record {
          lines_are = record { room = old.room; apart = old.apart; ranked = old.ranked; few = old.few; jobs = jobs };
          places = places_step (empty_lane p.site lanes.items after.items) refl;
          listed = listed_less peers.items messages.items n p sound.listed there;
          lane_room = sound.lane_room;
          head_room = sound.head_room;
          lanes_room = sound.lanes_room;
          list_room = sound.list_room;
        }

  -- the tickets stay where the ranks of all peers do
  pub placed_kept : (rank : Peer → Option ℕ) → ((m : ℕ) (q : Peer) → item_at m peers.items ≡ Some q → rank q ≡ rank_by lines q) → AreTickets (head_at rank lanes.items peers.items) heads.items
  placed_kept rank same =
      alike (head_at (rank_by lines) lanes.items peers.items) (head_at rank lanes.items peers.items) heads.items sound.places.placed
      (λ m. at_same (rank_by lines) rank lanes.items lanes.items peers.items m (λ q h. head_same (rank_by lines) rank lanes.items lanes.items m q q refl (same m q h)))

  -- A line in the place of another.
  module _ (t : ℕ) (old new : Jobs) (g : List Job → List Job) (there : slice_get lines t ≡ Some old) (room : new.room ≡ old.room) (is : new.jobs ≡ g old.jobs) (apart : AreOfOthers new.jobs) (each : length new.ranks ≡ length new.jobs) (jobs : HaveJobs (with_line t g (jobs_of lines)) (values_of peers.items)) where
    lines_set : AreSound (set lines t new) (values_of peers.items) line_room
    lines_set =
        let was = sound.lines_are in
        record {
          room = room_set line_room t new lines was.room (room ∙ room_at line_room t lines old was.room there);
          apart = apart_set t new lines was.apart apart;
          ranked = ranked_set t new lines was.ranked each;
          few = omega (arith, count_set t new lines, was.few);
          jobs = subst (λ js. HaveJobs js (values_of peers.items)) (sym (jobs_set t new g lines (is ∙ ap g (sym (jobs_at t lines old there))))) jobs;
        }

    -- where the tickets stand as the ranks of its jobs say
    pub sound_line : (after : Lanes) → after ≡ record heads { items = after.items } → AreTickets (head_at (rank_by (set lines t new)) lanes.items peers.items) after.items → IsSound (set lines t new) peers lanes after messages suspended line_room
    sound_line after rest placed = record {
      lines_are = lines_set;
      places = record {
        placed = placed;
        laned = λ m q h below. sound.places.laned m q h (subst (λ n. q.site.transport < n) (count_set t new lines) below);
        lanes_are = lanes_alike (class_at suspended.items) lanes.items peers.items heads after (ap (λ (s : Lanes). s.lanes) rest) (ap (λ (s : Lanes). s.classes) rest) sound.places.lanes_are;
      };
      listed = sound.listed;
      lane_room = sound.lane_room;
      head_room = ap (λ (s : Lanes). s.room) rest ∙ sound.head_room;
      lanes_room = ap (λ (s : Lanes). s.lanes) rest ∙ sound.lanes_room;
      list_room = sound.list_room;
    }

-- At first there is nothing.
abbrev pub no_lanes : ℕ → Lanes
no_lanes room = record { items = []; classes = replicate room 0; room = room; lanes = room }

pub sound_empty : (n line_room room : ℕ) (suspended : Suspensions) → n < 2 ^ 8 → IsSound (replicate n (empty_line line_room)) (record { items = []; room = room }) (record { items = []; room = room }) (no_lanes room) (record { items = []; room = room }) suspended line_room
sound_empty n line_room room suspended few = record {
  lines_are = record {
    room = room_empty line_room n;
    apart = subst AreLinesApart (sym (jobs_empty line_room n)) (apart_empty n);
    ranked = ranked_empty line_room n;
    few = omega (arith, few, length-replicate n (empty_line line_room));
    jobs = tt;
  };
  places = record { placed = λ x. refl; laned = λ m q h below. absurd cc; lanes_are = λ j l h. absurd cc };
  listed = λ x. refl;
  lane_room = refl;
  head_room = refl;
  lanes_room = refl;
  list_room = refl;
}
