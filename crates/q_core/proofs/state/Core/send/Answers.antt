use Rattle.std.proofs.Common.{◌≡◌, ◌∙◌, ◌++◌, ◌<◌, ◌≤◌, ◌^◌, ◌∷◌, [], ap, arith, false, length, List, map, refl, Some, subst, sym, true}
use Rattle.std.specs.List.{list_any, remove}
use Rattle.std.specs.Prelude.{find, option_map, position, slice_get}
use Rattle.q_core.proofs.MessageTies.{messages_same, messages_stay}
use Rattle.q_core.proofs.ListLaws.{drop_first-Some}
use Rattle.q_core.proofs.RowPlaces.{holds_found, stands_first}
use Rattle.q_core.proofs.RowWalkLaws.{none_any, same_place}
use Rattle.q_positions.specs.Rows.{row_shown}
use Rattle.q_core.proofs.CountLaws.{count_within}
use Rattle.q_core.proofs.ProcessLaws.{has_flight_room, processes_begun}
use Rattle.q_core.specs.Rooms.{HasProcess}
use Rattle.q_model.specs.Values.{Site}
use Rattle.q_model.specs.declared.id.Id.{Id}
use Rattle.q_core.proofs.ServedLaws.{rows_started}
use Rattle.q_core.proofs.TurnTies.{all_before, first_of, name_found, none_has, peer_of, served_lost, turns_lost, turns_started}
use Rattle.q_core.proofs.SiteChanges.{known_stays, sites_begun}
use Rattle.q_core.proofs.StillTidyLaws.{row_gone}
use Rattle.q_core.specs.Known.{known_records}
use Rattle.q_dest.specs.Dests.{begun, changed_at, Dests}
use Rattle.q_model.specs.Sites.{site_eq}
use Rattle.q_core.specs.Sending.{is_for, served_now}
use Rattle.q_core.specs.State.{State}
use Rattle.q_model.specs.declared.rows.Delivery.{Delivery}
use Rattle.q_model.specs.declared.rows.Row.{Row}
use Rattle.q_core.proofs.PoolTies.{heads_recounted}
use Rattle.q_core.proofs.TiedLaws.{numbered_below, tied_sent}
use Rattle.q_flights.specs.Flying.{Flying}
use Rattle.std.proofs.lemmas.List.{length-append}
use Rattle.q_core.specs.Counting.{with_flight}
use Rattle.q_core.specs.View.{state_of}
use Rattle.q_held.proofs.Tested.{tested_alike}
use Rattle.q_held.specs.Held.{rows_of}
use Rattle.q_core.proofs.DeadLaws.{alike_changed}
use Rattle.q_pool.specs.Kept.{heads}
use Rattle.q_pool.specs.Pooled.{Pooled}
use Rattle.q_core.specs.ServedRows.{served_rows}
use Rattle.q_core.specs.Ties.{AreTurnsTied, goes_to_dead}
use Rattle.q_core.specs.Tidied.{tidied_served}
use Rattle.q_rounds.specs.declared.peer.PeerKey.{PeerKey}
use Rattle.q_schedule.specs.Schedule.{Scheduling}
use Rattle.q_turns.specs.Turns.{lost_at, started_at}
use Rattle.q_core.proofs.SuspendedLaws.{rest_changed, suspended_same}
use Rattle.q_core.proofs.state.Core.send.Goals as goal

-- the row that goes has the transport that was asked for
process_at : (s : State) (rows : List Row) (id : Id) (site : Site) (row : Row) → find (is_for id site) rows ≡ Some row → HasProcess s site.transport → HasProcess s row.site.transport
process_at s rows id site row found h = subst (λ (k : PeerKey). HasProcess s k.site.transport) (sym (name_found rows id site row found)) h

pub invariant_of-self : goal.invariant_of-self
invariant_of-self c =
    let a = c.self.inside in
    let p = is_for c.args.id c.args.site in
    let rows = rows_of a.waiting.items in
    let same = ap (λ (s : State). s.waiting) c.self.view_is in
    let row = row_shown c.in-Some.row in
    let found : find p rows ≡ Some row = sym c.first_row.ensures ∙ ap (option_map row_shown) c.in-Some.is in
    let f = stands_first p rows row found (ap (list_any p) same ∙ c.requires.there) in
    let there = f.1.there in
    let left : rows_of c.take_row.new.waiting.items ≡ remove rows f.0 = c.take_row.ensures.rows ∙ sym (drop_first-Some p rows f.0 f.1.first) in
    let slots : heads c.begin_flight.new.pool.items ≡ heads a.admitted.items = ap (λ (m : Pooled). heads m.items) c.begin_flight.ensures ∙ heads_recounted with_flight row.id a.admitted.items in
    let added : c.push.new.self.items ≡ a.flights.items ++ record { number = c.args.number; row = row } ∷ [] =
    ap (λ (v : Flying). v.items) c.push.ensures in
    let less = subst (λ (s : State). s.starts < c.args.number) (sym c.self.view_is) c.requires.next in
    let few : length (a.flights.items ++ record { number = c.args.number; row = row } ∷ []) < 2 ^ 64 = (let more = length-append a.flights.items (record { number = c.args.number; row = row } ∷ []) in omega (arith, more, c.stand_apart.ensures.within, c.stand_apart.ensures.few)) in
    let sites : c.begin.new.self.items ≡ map (changed_at row.site begun) a.sites.items = ap (λ (x : Dests). x.items) c.begin.ensures in
    let process = process_at (state_of a) rows c.args.id c.args.site row found (subst (λ (s : State). HasProcess s c.args.site.transport) (sym c.self.view_is) c.requires.process) in
    let again : c.start.new.self.peers ≡ started_at row.id row.site c.args.number a.schedule.peers = ap (λ (x : Scheduling). x.peers) c.start.ensures in
    let lost : c.lose.new.self.peers ≡ lost_at row.id row.site c.start.new.self.peers = ap (λ (x : Scheduling). x.peers) c.lose.ensures in
    let lines : c.lose.new.self.lines ≡ a.schedule.lines = ap (λ (x : Scheduling). x.lines) c.lose.ensures ∙ ap (λ (x : Scheduling). x.lines) c.start.ensures in
    let started = subst (λ ps. AreTurnsTied ps rows c.args.number) (sym again) (turns_started a.schedule.peers rows a.starts c.args.number row.id row.site less c.self.invariant.3) in (
      rw (left, added) (tied_sent a.params a.admitted c.begin_flight.new.pool rows f.0 row a.flights.items a.unsettled.items a.starts c.args.number there less few c.begin_flight.ensures c.self.invariant.0),
      rw (slots, c.touch_message.ensures, left, lines) (row_gone f.0 row there c.self.invariant.1),
      rw (sites, left, added) (sites_begun rows f.0 row c.args.number a.flights.items a.sites.items there c.self.invariant.2),
      rw left (rw lost (turns_lost c.start.new.self.peers rows c.args.number f.0 row c.stand_apart-4.ensures.apart started there (first_of rows c.args.id c.args.site f.0 row f.1.first found))),
      rw sites (tested_alike (goes_to_dead a.sites.items) (goes_to_dead (map (changed_at row.site begun) a.sites.items)) c.take_row.new.waiting.items (λ r. sym (alike_changed row.site begun (λ d. refl) a.sites.items r))
          (c.take_row.ensures.held (goes_to_dead a.sites.items) c.self.invariant.4)),
      messages_same a.params c.lose.new.self (heads a.admitted.items)
          (messages_stay a.params a.schedule (heads a.admitted.items) c.self.invariant.5 c.lose.new.self (ap (λ (x : Scheduling). x.messages) c.lose.ensures ∙ ap (λ (x : Scheduling). x.messages) c.start.ensures) (ap (λ (x : Scheduling). x.message_room) c.lose.ensures ∙ ap (λ (x : Scheduling). x.message_room) c.start.ensures)) _ slots,
      rw c.push.ensures (record {
        deliveries = processes_begun a.params a.transports a.flights (record { number = c.args.number; row = row }) c.self.invariant.6.deliveries process.0 process.1;
        asked = c.self.invariant.6.asked;
        names = c.self.invariant.6.names;
        named_few = c.self.invariant.6.named_few;
        outcomes = c.self.invariant.6.outcomes;
        codes = c.self.invariant.6.codes;
        dated = c.self.invariant.6.dated;
      }),
      rw (c.take_row.ensures.room, ap (λ (x : Dests). x.room) c.begin.ensures, ap (λ (x : Scheduling). x.room) c.lose.ensures, ap (λ (x : Scheduling). x.line_room) c.lose.ensures, ap (λ (x : Scheduling). x.room) c.start.ensures, ap (λ (x : Scheduling). x.line_room) c.start.ensures) c.self.invariant.7,
      rw (c.take_row.ensures.most, ap (λ (v : Flying). v.most) c.push.ensures) c.self.invariant.8,
      rw (sites, ap (λ (x : Scheduling). x.suspended) c.lose.ensures, ap (λ (x : Scheduling). x.suspended) c.start.ensures) (suspended_same a.sites.items (map (changed_at row.site begun) a.sites.items) a.schedule.suspended (rest_changed row.site begun (λ d. refl) a.sites.items) c.self.invariant.9),
    )

pub push-requires-clause-room : goal.push-requires-clause-room
push-requires-clause-room c =
    let a = c.self.inside in
    let process = subst (λ (s : State). HasProcess s c.args.site.transport) (sym c.self.view_is) c.requires.process in
    has_flight_room a.params a.transports c.args.site.transport a.flights c.self.invariant.6.deliveries process.0 process.1

pub start-requires-clause-own : goal.start-requires-clause-own
start-requires-clause-own c =
    let a = c.self.inside in
    none_has a.schedule.peers a.starts c.args.number (subst (λ (s : State). s.starts < c.args.number) (sym c.self.view_is) c.requires.next) c.self.invariant.3.known

pub begin-requires : goal.begin-requires
begin-requires c =
    let a = c.self.inside in
    let site = (row_shown c.in-Some.row).site in
    let tie = c.self.invariant.2.busy site in
    let within = count_within (λ (f : Delivery). site_eq f.row.site site) a.flights.items in
    omega (arith, tie, within, c.stand_apart.ensures.within, c.stand_apart.ensures.few)

pub push-requires-clause-above : goal.push-requires-clause-above
push-requires-clause-above c =
    let a = c.self.inside in
    numbered_below a.starts c.args.number a.flights.items (subst (λ (s : State). s.starts < c.args.number) (sym c.self.view_is) c.requires.next) c.self.invariant.0.numbers

pub returns-clause-sent : goal.returns-clause-sent
returns-clause-sent c = λ entry at.
    let a = c.self.inside in
    let p = is_for c.args.id c.args.site in
    let rows = rows_of a.waiting.items in
    let same = ap (λ (s : State). s.waiting) c.self.view_is in
    let row = row_shown c.in-Some.row in
    let found : find p rows ≡ Some row = sym c.first_row.ensures ∙ ap (option_map row_shown) c.in-Some.is in
    let f = stands_first p rows row found (ap (list_any p) same ∙ c.requires.there) in
    let there = f.1.there in
    let left : rows_of c.take_row.new.waiting.items ≡ remove rows f.0 = c.take_row.ensures.rows ∙ sym (drop_first-Some p rows f.0 f.1.first) in
    let e = same_place p rows f.0 entry f.1.first (ap (position p) same ∙ at) in
    let here : slice_get c.args.self.now.waiting entry ≡ Some row = ap (λ ws. slice_get ws entry) (sym same) ∙ ap (slice_get rows) (sym e) ∙ there in
    let slots : heads c.begin_flight.new.pool.items ≡ heads a.admitted.items = ap (λ (m : Pooled). heads m.items) c.begin_flight.ensures ∙ heads_recounted with_flight row.id a.admitted.items in
    let added : c.push.new.self.items ≡ a.flights.items ++ record { number = c.args.number; row = row } ∷ [] =
    ap (λ (v : Flying). v.items) c.push.ensures in
    let known : known_records c.begin.new.self.items ≡ known_records a.sites.items = ap (λ (x : Dests). known_records x.items) c.begin.ensures ∙ known_stays row.site begun (λ d. refl) a.sites.items in
    let now = served_now c.args.id c.args.site c.args.number c.args.self.now.served in
    let lines : c.lose.new.self.lines ≡ a.schedule.lines = ap (λ (x : Scheduling). x.lines) c.lose.ensures ∙ ap (λ (x : Scheduling). x.lines) c.start.ensures in
    record {
      rest =
          ap (λ ls. record (state_of a) { admitted = heads c.begin_flight.new.pool.items; waiting = rows_of c.take_row.new.waiting.items; flights = c.push.new.self.items; served = now; lines = ls; sites = known_records c.begin.new.self.items; starts = c.args.number }) lines
          ∙ ap (λ rs. record (state_of a) { admitted = heads c.begin_flight.new.pool.items; waiting = rows_of c.take_row.new.waiting.items; flights = c.push.new.self.items; served = now; sites = rs; starts = c.args.number }) known
          ∙ ap (λ ss. record (state_of a) { admitted = ss; waiting = rows_of c.take_row.new.waiting.items; flights = c.push.new.self.items; served = now; starts = c.args.number }) slots
          ∙ ap (λ (s : State). record s { waiting = rows_of c.take_row.new.waiting.items; flights = c.push.new.self.items; served = now; starts = c.args.number }) c.self.view_is;
      waiting = left ∙ ap (λ k. remove rows k) e ∙ ap (λ ws. remove ws entry) same;
      flights = λ r at.
          let both : Some row ≡ Some r = sym here ∙ at in
          let it : row ≡ r = cc in
          added
          ∙ ap (λ (x : Row). a.flights.items ++ record { number = c.args.number; row = x } ∷ []) it
          ∙ ap (λ (fs : List Delivery). fs ++ record { number = c.args.number; row = r } ∷ []) (ap (λ (s : State). s.flights) c.self.view_is);
      served = refl;
    }

-- the rows that were served and wait no more are gone
pub returns-clause-served : goal.returns-clause-served
returns-clause-served c =
    let a = c.self.inside in
    let p = is_for c.args.id c.args.site in
    let rows = rows_of a.waiting.items in
    let same = ap (λ (s : State). s.waiting) c.self.view_is in
    let row = row_shown c.in-Some.row in
    let found : find p rows ≡ Some row = sym c.first_row.ensures ∙ ap (option_map row_shown) c.in-Some.is in
    let f = stands_first p rows row found (ap (list_any p) same ∙ c.requires.there) in
    let there = f.1.there in
    let left : rows_of c.take_row.new.waiting.items ≡ remove rows f.0 = c.take_row.ensures.rows ∙ sym (drop_first-Some p rows f.0 f.1.first) in
    let ps = a.schedule.peers in
    let n = c.args.number in
    let less = subst (λ (s : State). s.starts < n) (sym c.self.view_is) c.requires.next in
    let begun : c.start.new.self.peers ≡ started_at row.id row.site n ps = ap (λ (x : Scheduling). x.peers) c.start.ensures in
    let lost : c.lose.new.self.peers ≡ lost_at row.id row.site c.start.new.self.peers = ap (λ (x : Scheduling). x.peers) c.lose.ensures in
    let started = subst (λ qs. AreTurnsTied qs rows n) (sym begun) (turns_started ps rows a.starts n row.id row.site less c.self.invariant.3) in
    let s = c.stand_apart-3.ensures in
    ap served_rows lost
    ∙ served_lost c.start.new.self.peers rows f.0 row c.stand_apart-4.ensures.apart started.counts there
    ∙ ap (tidied_served (remove rows f.0))
    (ap served_rows begun
    ∙ rows_started row.id row.site n (omega (arith, less)) ps s.apart (all_before ps a.starts n less c.self.invariant.3.known) (peer_of a.schedule.lines ps rows s.apart s.jobs c.self.invariant.3.counts p row found)
    ∙ ap (λ (k : PeerKey). served_now k.id k.site n (served_rows ps)) (name_found rows c.args.id c.args.site row found)
    ∙ ap (λ (v : State). served_now c.args.id c.args.site n v.served) c.self.view_is)
    ∙ ap (λ ws. tidied_served ws (served_now c.args.id c.args.site n c.args.self.now.served)) (sym left)

pub unreachable-requires : goal.unreachable-requires
unreachable-requires c =
    let p = is_for c.args.id c.args.site in
    let rows = rows_of c.self.inside.waiting.items in
    let bad : true ≡ false = sym (ap (λ (s : State). list_any p s.waiting) c.self.view_is ∙ c.requires.there) ∙ none_any p rows (sym c.first_row.ensures ∙ ap (option_map row_shown) c.in_default.is) in cc

-- it has no more positions than have room
pub push-requires-clause-positions : goal.push-requires-clause-positions
push-requires-clause-positions c =
    let a = c.self.inside in
    let p = is_for c.args.id c.args.site in
    let found : find p (rows_of a.waiting.items) ≡ Some (row_shown c.in-Some.row) = sym c.first_row.ensures ∙ ap (option_map row_shown) c.in-Some.is in
    let short = holds_found (λ (r : Row). length r.positions ≤ a.waiting.most) p (rows_of a.waiting.items) (row_shown c.in-Some.row) found c.stand_apart-2.ensures.short in
    omega (arith, short, c.self.invariant.8.waiting, c.self.invariant.8.flights)
