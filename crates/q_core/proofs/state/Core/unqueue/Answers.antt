use Rattle.q_core.proofs.CodeLaws.{put_off_loggable}
use Rattle.q_core.specs.Leaving.{fails_in}
use Rattle.q_core.specs.Rooms.{is_loggable}
use Rattle.q_laws.proofs.Members.{all_append}
use Rattle.std.proofs.Common.{◌≡◌, ◌∙◌, ◌≤◌, ◌++◌, ◌<◌, ◌^◌, ap, arith, false, filter, length, length-append, List, refl, Some, sym, true, []}
use Rattle.std.proofs.lemmas.Bool.{and_parts}
use Rattle.std.specs.List.{list_any, remove}
use Rattle.std.specs.Prelude.{find, get_or, option_map, position, slice_get}
use Rattle.q_core.proofs.RowPlaces.{holds_found, last_kept, room_kept, stands_first}
use Rattle.q_positions.specs.Rows.{row_shown}
use Rattle.q_core.proofs.MessageTies.{messages_same, messages_stay}
use Rattle.q_core.proofs.ListLaws.{drop_first-Some}
use Rattle.q_core.proofs.RowWalkLaws.{none_any, same_place}
use Rattle.q_core.proofs.TurnTies.{first_of, served_lost, turns_lost}
use Rattle.q_core.proofs.SiteChanges.{sites_left, sites_settled}
use Rattle.q_core.proofs.SiteViews.{settled_used}
use Rattle.q_core.proofs.StillTidyLaws.{row_gone}
use Rattle.q_core.specs.Known.{known_records}
use Rattle.q_core.proofs.SpaceLaws.{made_space}
use Rattle.q_core.specs.Held.{have_space}
use Rattle.q_core.specs.Lists.{moved_back}
use Rattle.q_core.specs.Queries.{expired_in}
use Rattle.q_core.specs.UsedSites.{is_left_in, used_in}
use Rattle.q_dest.specs.Dests.{Dests, is_kept, left as left_dest, settled}
use Rattle.q_core.specs.Leaving.{put_off_in}
use Rattle.q_core.specs.Needs.{needs_put_off}
use Rattle.q_core.specs.Sending.{is_for, row_for}
use Rattle.q_core.specs.ServedRows.{served_rows}
use Rattle.q_core.specs.State.{State}
use Rattle.q_core.specs.Tidied.{tidied_served}
use Rattle.q_core.proofs.NamedLaws.{needs_named}
use Rattle.q_core.proofs.PoolTies.{heads_recounted}
use Rattle.q_core.proofs.TiedLaws.{tied_put_off}
use Rattle.q_core.specs.Counting.{with_row_put_off}
use Rattle.q_core.specs.Ties.{AreNamed, goes_to_dead}
use Rattle.q_core.specs.View.{state_of}
use Rattle.q_model.specs.declared.rows.Row.{Row}
use Rattle.q_model.specs.declared.rows.Unsettled.{Unsettled}
use Rattle.q_held.proofs.Tested.{tested_alike}
use Rattle.q_held.specs.Held.{rows_of}
use Rattle.q_core.proofs.DeadLaws.{alike_settled}
use Rattle.q_pool.specs.Kept.{heads}
use Rattle.q_pool.specs.Pooled.{Pooled}
use Rattle.q_queue.specs.Queued.{Queued}
use Rattle.q_schedule.specs.Schedule.{Scheduling}
use Rattle.q_core.proofs.SuspendedLaws.{rest_settled, suspended_same}
use Rattle.q_core.proofs.state.Core.unqueue.Goals as goal

pub unreachable-requires : goal.unreachable-requires
unreachable-requires c =
    let p = is_for c.args.id c.args.site.now in
    let rows = rows_of c.self.inside.waiting.items in
    let bad : true ≡ false = sym (ap (λ (s : State). list_any p s.waiting) c.self.view_is ∙ c.requires.there) ∙ none_any p rows (sym c.first_row.ensures ∙ ap (option_map row_shown) c.in_default.is) in cc

-- it has no more positions than have room
pub set-requires-clause-room : goal.set-requires-clause-room
set-requires-clause-room c =
    let a = c.self.inside in
    let p = is_for c.args.id c.args.site.now in
    let found : find p (rows_of a.waiting.items) ≡ Some (row_shown c.in-Some.row) = sym c.first_row.ensures ∙ ap (option_map row_shown) c.in-Some.is in
    let short = holds_found (λ (r : Row). length r.positions ≤ a.waiting.most) p (rows_of a.waiting.items) (row_shown c.in-Some.row) found c.stand_apart.ensures.short in
    omega (arith, short, c.self.invariant.8.waiting, c.self.invariant.8.last_most)

pub set-requires-clause-known : goal.set-requires-clause-known
set-requires-clause-known c = let one = c.self.invariant.8.last in omega (arith, one)

pub returns-clause-row : goal.returns-clause-row
returns-clause-row c = λ r asked entry at.
    let a = c.self.inside in
    let p = is_for c.args.id c.args.site.now in
    let rows = rows_of a.waiting.items in
    let same = ap (λ (s : State). s.waiting) c.self.view_is in
    let row = row_shown c.in-Some.row in
    let found : find p rows ≡ Some row = sym c.first_row.ensures ∙ ap (option_map row_shown) c.in-Some.is in
    let f = stands_first p rows row found (ap (list_any p) same ∙ c.requires.there) in
    let there = f.1.there in
    let left : rows_of c.take_row.new.waiting.items ≡ remove rows f.0 = c.take_row.ensures.rows ∙ sym (drop_first-Some p rows f.0 f.1.first) in
    let for : row_for c.args.self.now c.args.id c.args.site.now ≡ Some row = ap (find p) (sym same) ∙ found in
    let new : List Unsettled = put_off_in c.args.self.now row in
    let added : c.add_put_off.new.unsettled ≡ record a.unsettled { items = a.unsettled.items ++ new } = c.add_put_off.ensures ∙ ap (λ b. record a.unsettled { items = a.unsettled.items ++ needs_put_off b row.id row.positions }) (c.fails-fails.ensures row for) in
    let items : c.add_put_off.new.unsettled.items ≡ a.unsettled.items ++ new = ap (λ (q : Queued Unsettled). q.items) added in
    let long = length-append a.unsettled.items new in
    let sum = ap (λ (xs : List Unsettled). length xs) items in
    let count : c.saturating_sub-needs.result ≡ length new = omega (arith, sum, long, c.saturating_sub-needs.ensures, c.len.ensures, c.len-before.ensures) in
    let slots : heads c.put_off_row.new.pool.items ≡ heads a.admitted.items = ap (λ (m : Pooled). heads m.items) c.put_off_row.ensures ∙ heads_recounted (with_row_put_off c.saturating_sub-needs.result) row.id a.admitted.items in
    let both : Some row ≡ Some r = sym for ∙ asked in
    let it : row ≡ r = cc in
    let e = same_place p rows f.0 entry f.1.first (ap (position p) same ∙ at) in
    let kept : get_or c.set.new.self.lists 0 [] ≡ row.positions = last_kept a.skipped c.set.new.self row.positions c.self.invariant.8.last c.set.ensures in
    rw (sym it) (record {
      row = ap (λ ws. slice_get ws entry) (sym same) ∙ ap (slice_get rows) (sym e) ∙ there;
      rest =
          ap (λ (x : Scheduling). record (state_of a) { admitted = heads c.put_off_row.new.pool.items; waiting = rows_of c.take_row.new.waiting.items; served = c.args.self.now.served; unsettled = c.add_put_off.new.unsettled.items; in_memory = c.saturating_sub-self-inside.result; lines = x.lines; sites = c.args.self.now.sites; skipped = get_or c.set.new.self.lists 0 [] }) c.lose.ensures
          ∙ ap (λ ss. record (state_of a) { admitted = ss; waiting = rows_of c.take_row.new.waiting.items; served = c.args.self.now.served; unsettled = c.add_put_off.new.unsettled.items; in_memory = c.saturating_sub-self-inside.result; sites = c.args.self.now.sites; skipped = get_or c.set.new.self.lists 0 [] }) slots
          ∙ ap (λ (s : State). record s { waiting = rows_of c.take_row.new.waiting.items; served = c.args.self.now.served; unsettled = c.add_put_off.new.unsettled.items; in_memory = c.saturating_sub-self-inside.result; sites = c.args.self.now.sites; skipped = get_or c.set.new.self.lists 0 [] }) c.self.view_is;
      waiting = left ∙ ap (λ k. remove rows k) e ∙ ap (λ ws. remove ws entry) same;
      kept = kept;
      unsettled = items ∙ ap (λ us. us ++ new) (ap (λ (s : State). s.unsettled) c.self.view_is);
      memory = let memory = ap (λ (s : State). s.in_memory) c.self.view_is in grind (arith, count, memory, c.saturating_sub-self-inside.ensures, c.saturating_sub-done.ensures);
    })

pub invariant_of-self : goal.invariant_of-self
invariant_of-self c =
    let a = c.self.inside in
    let p = is_for c.args.id c.args.site.now in
    let rows = rows_of a.waiting.items in
    let same = ap (λ (s : State). s.waiting) c.self.view_is in
    let row = row_shown c.in-Some.row in
    let found : find p rows ≡ Some row = sym c.first_row.ensures ∙ ap (option_map row_shown) c.in-Some.is in
    let f = stands_first p rows row found (ap (list_any p) same ∙ c.requires.there) in
    let there = f.1.there in
    let left : rows_of c.take_row.new.waiting.items ≡ remove rows f.0 = c.take_row.ensures.rows ∙ sym (drop_first-Some p rows f.0 f.1.first) in
    let for : row_for c.args.self.now c.args.id c.args.site.now ≡ Some row = ap (find p) (sym same) ∙ found in
    let new : List Unsettled = put_off_in c.args.self.now row in
    let added : c.add_put_off.new.unsettled ≡ record a.unsettled { items = a.unsettled.items ++ new } = c.add_put_off.ensures ∙ ap (λ b. record a.unsettled { items = a.unsettled.items ++ needs_put_off b row.id row.positions }) (c.fails-fails.ensures row for) in
    let items : c.add_put_off.new.unsettled.items ≡ a.unsettled.items ++ new = ap (λ (q : Queued Unsettled). q.items) added in
    let long = length-append a.unsettled.items new in
    let sum = ap (λ (xs : List Unsettled). length xs) items in
    let count : c.saturating_sub-needs.result ≡ length new = omega (arith, sum, long, c.saturating_sub-needs.ensures, c.len.ensures, c.len-before.ensures) in
    let slots : heads c.put_off_row.new.pool.items ≡ heads a.admitted.items = ap (λ (m : Pooled). heads m.items) c.put_off_row.ensures ∙ heads_recounted (with_row_put_off c.saturating_sub-needs.result) row.id a.admitted.items in
    let named : AreNamed (λ (u : Unsettled). u.id) row.id new = needs_named _ row.id row.positions _ in
    let few : length (a.unsettled.items ++ new) < 2 ^ 64 = omega (arith, sum, c.stand_within.ensures.within, c.stand_within.ensures.few) in
    let sites : c.leave.new.self.items ≡ filter is_kept (settled row.site left_dest a.sites.items) = ap (λ (x : Dests). x.items) c.leave.ensures in (
      rw (left, items) (tied_put_off a.params a.admitted c.put_off_row.new.pool rows f.0 row a.flights.items a.unsettled.items new a.starts c.saturating_sub-needs.result there count few named c.put_off_row.ensures c.self.invariant.0),
      rw (slots, c.touch_message.ensures, left, ap (λ (x : Scheduling). x.lines) c.lose.ensures) (row_gone f.0 row there c.self.invariant.1),
      rw (sites, left) (sites_settled (remove rows f.0) a.flights.items row.site left_dest (λ d. refl) a.sites.items c.stand_apart-2.ensures.apart (sites_left rows f.0 row a.flights.items a.sites.items there c.self.invariant.2)),
      rw (ap (λ (x : Scheduling). x.peers) c.lose.ensures, left) (turns_lost a.schedule.peers rows a.starts f.0 row c.stand_apart-3.ensures.apart c.self.invariant.3 there (first_of rows c.args.id c.args.site.now f.0 row f.1.first found)),
      rw sites (tested_alike (goes_to_dead a.sites.items) (goes_to_dead (filter is_kept (settled row.site left_dest a.sites.items))) c.take_row.new.waiting.items
          (λ r. sym (alike_settled row.site left_dest (λ d. refl) a.sites.items c.stand_apart-2.ensures.apart r)) (c.take_row.ensures.held (goes_to_dead a.sites.items) c.self.invariant.4)),
      messages_same a.params c.lose.new.self (heads a.admitted.items)
          (messages_stay a.params a.schedule (heads a.admitted.items) c.self.invariant.5 c.lose.new.self (ap (λ (x : Scheduling). x.messages) c.lose.ensures) (ap (λ (x : Scheduling). x.message_room) c.lose.ensures)) _ slots,
      record {
        deliveries = c.self.invariant.6.deliveries;
        asked = c.self.invariant.6.asked;
        names = c.self.invariant.6.names;
        named_few = c.self.invariant.6.named_few;
        outcomes = ap (λ (q : Queued Unsettled). q.room) added ∙ c.self.invariant.6.outcomes;
        codes = rw items (all_append is_loggable a.unsettled.items new c.self.invariant.6.codes (put_off_loggable (fails_in c.args.self.now row) row.id row.positions));
        dated = c.self.invariant.6.dated;
      },
      rw (c.take_row.ensures.room, ap (λ (x : Dests). x.room) c.leave.ensures, ap (λ (x : Scheduling). x.room) c.lose.ensures, ap (λ (x : Scheduling). x.line_room) c.lose.ensures) c.self.invariant.7,
      rw (c.take_row.ensures.most, c.set.ensures) (room_kept row.positions c.self.invariant.8),
      rw (sites, ap (λ (x : Scheduling). x.suspended) c.lose.ensures) (suspended_same a.sites.items (filter is_kept (settled row.site left_dest a.sites.items)) a.schedule.suspended (rest_settled row.site left_dest (λ d. refl) a.sites.items c.stand_apart-2.ensures.apart) c.self.invariant.9),
    )

pub returns-clause-left : goal.returns-clause-left
returns-clause-left c = λ r asked.
    let a = c.self.inside in
    let p = is_for c.args.id c.args.site.now in
    let rows = rows_of a.waiting.items in
    let same = ap (λ (s : State). s.waiting) c.self.view_is in
    let row = row_shown c.in-Some.row in
    let found : find p rows ≡ Some row = sym c.first_row.ensures ∙ ap (option_map row_shown) c.in-Some.is in
    let f = stands_first p rows row found (ap (list_any p) same ∙ c.requires.there) in
    let there = f.1.there in
    let left : rows_of c.take_row.new.waiting.items ≡ remove rows f.0 = c.take_row.ensures.rows ∙ sym (drop_first-Some p rows f.0 f.1.first) in
    let for : row_for c.args.self.now c.args.id c.args.site.now ≡ Some row = ap (find p) (sym same) ∙ found in
    let both : Some row ≡ Some r = sym for ∙ asked in
    let it : row ≡ r = cc in
    let fs = a.flights.items in
    ap (λ (x : Dests). known_records x.items) c.leave.ensures
    ∙ settled_used (remove rows f.0) fs row.site left_dest (λ d. refl) a.sites.items c.stand_apart-2.ensures.apart (sites_left rows f.0 row fs a.sites.items there c.self.invariant.2)
    ∙ ap (λ rs. used_in rs fs (moved_back (is_left_in rs fs row.site) (known_records a.sites.items))) (sym left)
    ∙ ap (λ (s : State). used_in (rows_of c.take_row.new.waiting.items) fs (moved_back (is_left_in (rows_of c.take_row.new.waiting.items) fs row.site) s.sites)) c.self.view_is
    ∙ ap (λ (x : Row). used_in (rows_of c.take_row.new.waiting.items) fs (moved_back (is_left_in (rows_of c.take_row.new.waiting.items) fs x.site) c.args.self.now.sites)) it

pub returns-clause-served : goal.returns-clause-served
returns-clause-served c =
    let a = c.self.inside in
    let p = is_for c.args.id c.args.site.now in
    let rows = rows_of a.waiting.items in
    let same = ap (λ (s : State). s.waiting) c.self.view_is in
    let row = row_shown c.in-Some.row in
    let found : find p rows ≡ Some row = sym c.first_row.ensures ∙ ap (option_map row_shown) c.in-Some.is in
    let f = stands_first p rows row found (ap (list_any p) same ∙ c.requires.there) in
    let there = f.1.there in
    let left : rows_of c.take_row.new.waiting.items ≡ remove rows f.0 = c.take_row.ensures.rows ∙ sym (drop_first-Some p rows f.0 f.1.first) in
    ap (λ (x : Scheduling). served_rows x.peers) c.lose.ensures
    ∙ served_lost a.schedule.peers rows f.0 row c.stand_apart-3.ensures.apart c.self.invariant.3.counts there
    ∙ ap (λ ws. tidied_served ws (served_rows a.schedule.peers)) (sym left)
    ∙ ap (λ (v : State). tidied_served (rows_of c.take_row.new.waiting.items) v.served) c.self.view_is

-- there is space for its outcomes
pub add_put_off-requires : goal.add_put_off-requires
add_put_off-requires c = λ fails.
    let a = c.self.inside in
    let p = is_for c.args.id c.args.site.now in
    let row = row_shown c.in-Some.row in
    let found : find p (rows_of a.waiting.items) ≡ Some row = sym c.first_row.ensures ∙ ap (option_map row_shown) c.in-Some.is in
    let for : row_for c.args.self.now c.args.id c.args.site.now ≡ Some row = ap (find p) (sym (ap (λ (s : State). s.waiting) c.self.view_is)) ∙ found in
    let both = and_parts (expired_in c.args.self.now row.id) (have_space c.args.self.now row.positions) (sym (c.fails-fails.ensures row for) ∙ fails) in
    made_space (state_of a) a.unsettled row.positions refl c.self.invariant.6.outcomes (ap (λ (s : State). have_space s row.positions) c.self.view_is ∙ both.1)
