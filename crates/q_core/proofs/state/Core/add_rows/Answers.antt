use Rattle.std.proofs.Common.{◌≡◌, ◌<◌, ◌^◌, ◌∙◌, ◌++◌, [], ap, arith, length, List, map, refl, subst, sym}
use Rattle.std.proofs.lemmas.List.{length-append, length-map}
use Rattle.std.specs.List.{enumerate_from, list_all}
use Rattle.q_core.proofs.MessageTies.{messages_same, messages_stay}
use Rattle.q_core.proofs.PoolTies.{heads_recounted, present_held}
use Rattle.q_core.proofs.StillTidyLines.{rows_added}
use Rattle.q_core.proofs.TiedLaws.{tied_read}
use Rattle.q_core.specs.Counting.{with_waiting}
use Rattle.q_core.specs.Held.{is_admitted_in}
use Rattle.q_core.proofs.LineSteps.{joined_over}
use Rattle.q_core.proofs.LoadRooms.{beside_is, beside_parts, peers_few}
use Rattle.q_core.specs.Loading.{fit_in, joined_line, new_sites, rows_in, rows_read}
use Rattle.q_core.proofs.NamedLaws.{rows_named}
use Rattle.q_positions.specs.Rows.{Rows as RowValues}
use Rattle.q_model.specs.Values.{Site}
use Rattle.q_core.specs.State.{State}
use Rattle.q_core.specs.Known.{known_records}
use Rattle.q_core.specs.ServedRows.{served_rows}
use Rattle.q_core.specs.Ties.{ArePeersTied, AreSitesTied, AreTurnsTied, goes_to_dead}
use Rattle.q_core.specs.View.{state_of}
use Rattle.q_pool.specs.Kept.{heads}
use Rattle.q_pool.specs.Pooled.{Pooled}
use Rattle.q_core.proofs.JoinedJobs.{all_may_wait}
use Rattle.q_core.specs.Loading.{AreRowsOf}
use Rattle.q_model.specs.declared.rows.Row.{Row}
use Rattle.q_schedule.specs.Schedule.{Scheduling}
use Rattle.q_turns.specs.Turns.{may_wait}
use Rattle.q_held.proofs.Tested.{tested_alike}
use Rattle.q_held.specs.Held.{HeldRow, rows_of}
use Rattle.q_core.proofs.SuspendedLaws.{suspended_same}
use Rattle.q_core.proofs.state.Core.add_rows.Goals as goal

pub group-requires-clause-room : goal.group-requires-clause-room
group-requires-clause-room c =
    let named = ap (λ (s : State). length s.named) c.self.view_is in
    omega (arith, named, c.requires.sited, c.self.invariant.6.named_few, c.self.invariant.8.rows)

pub group-requires-clause-places : goal.group-requires-clause-places
group-requires-clause-places c =
    let named = ap (λ (s : State). length s.named) c.self.view_is in
    omega (arith, named, c.requires.sited, c.self.invariant.6.named_few, c.self.invariant.8.places)

pub count_peers-requires-clause-own : goal.count_peers-requires-clause-own
count_peers-requires-clause-own c =
    let core = c.self.inside in
    let made = ap (λ (x : RowValues). x.rows) c.group.ensures.rows in
    subst (AreRowsOf c.args.id) (sym made) (rows_named core.rows.most c.args.id [] c.args.taken.now.items c.deref.result.now tt)

pub count_peers-requires-clause-jobs : goal.count_peers-requires-clause-jobs
count_peers-requires-clause-jobs c =
    let core = c.self.inside in
    let rows = c.group.new.rows.rows in
    let fits = beside_parts core.waiting core.sites core.schedule c.args.id rows (sym c.fit.ensures ∙ c.if-not-fit.false) in
    ap (λ (x : Scheduling). list_all (λ (r : Row). may_wait x.lines r.site.transport c.args.id) rows) (c.join_lines.ensures ∙ ap (λ xs. record core.schedule { lines = xs }) (joined_over c.args.id rows core.schedule.line_room 0 core.schedule.lines fits.lines))
    ∙ all_may_wait c.args.id rows core.schedule.lines

pub count_peers-requires-clause-tied : goal.count_peers-requires-clause-tied
count_peers-requires-clause-tied c =
    subst (λ ps. ArePeersTied ps (rows_of c.self.inside.waiting.items)) (sym (ap (λ (x : Scheduling). x.peers) c.join_lines.ensures)) c.self.invariant.3.counts

pub count_peers-requires-clause-room : goal.count_peers-requires-clause-room
count_peers-requires-clause-room c =
    let core = c.self.inside in
    let rows = c.group.new.rows.rows in
    let fits = beside_parts core.waiting core.sites core.schedule c.args.id rows (sym c.fit.ensures ∙ c.if-not-fit.false) in
    let few = peers_few core.schedule.lines core.schedule.peers (rows_of core.waiting.items) c.stand_apart-3.ensures.apart c.stand_apart-3.ensures.jobs c.self.invariant.3.counts in
    let same = length-map core.waiting.items (λ (k : HeldRow). k.row) in
    let peers = ap (λ (x : Scheduling). length x.peers) c.join_lines.ensures in
    let room = ap (λ (x : Scheduling). x.room) c.join_lines.ensures in
    omega (arith, peers, room, few, same, fits.beside, c.self.invariant.7.peers, c.self.invariant.7.rows)

pub count_peers-requires-clause-few : goal.count_peers-requires-clause-few
count_peers-requires-clause-few c =
    let core = c.self.inside in
    let rows = c.group.new.rows.rows in
    let fits = beside_parts core.waiting core.sites core.schedule c.args.id rows (sym c.fit.ensures ∙ c.if-not-fit.false) in
    let same = length-map core.waiting.items (λ (k : HeldRow). k.row) in
    omega (arith, same, fits.beside, c.stand_apart.ensures.few)

pub count_rows-requires-clause-few : goal.count_rows-requires-clause-few
count_rows-requires-clause-few c =
    let core = c.self.inside in
    let rows = c.group.new.rows.rows in
    let fits = beside_parts core.waiting core.sites core.schedule c.args.id rows (sym c.fit.ensures ∙ c.if-not-fit.false) in
    let same = length-map core.waiting.items (λ (k : HeldRow). k.row) in
    omega (arith, same, fits.beside, c.stand_apart.ensures.few)

pub count_rows-requires-clause-room : goal.count_rows-requires-clause-room
count_rows-requires-clause-room c =
    let core = c.self.inside in
    let rows = c.group.new.rows.rows in
    let fits = beside_parts core.waiting core.sites core.schedule c.args.id rows (sym c.fit.ensures ∙ c.if-not-fit.false) in
    omega (arith, fits.known)

pub add_all-requires-clause-room : goal.add_all-requires-clause-room
add_all-requires-clause-room c =
    let core = c.self.inside in
    let rows = c.group.new.rows.rows in
    let fits = beside_parts core.waiting core.sites core.schedule c.args.id rows (sym c.fit.ensures ∙ c.if-not-fit.false) in
    let same = length-map core.waiting.items (λ (k : HeldRow). k.row) in
    omega (arith, same, fits.beside)

pub add_all-requires-clause-short : goal.add_all-requires-clause-short
add_all-requires-clause-short c =
    let most = ap (λ (x : RowValues). x.most) c.group.ensures.rows in
    omega (arith, most, c.self.invariant.8.waiting, c.self.invariant.8.positions)

-- nothing but the rows that were made changed, which no contract sees
pub invariant_of-self : goal.invariant_of-self
invariant_of-self c = (
  c.self.invariant.0,
  c.self.invariant.1,
  c.self.invariant.2,
  c.self.invariant.3,
  c.self.invariant.4,
  c.self.invariant.5,
  c.self.invariant.6,
  c.self.invariant.7,
  rw (ap (λ (x : RowValues). x.room) c.group.ensures.rows, ap (λ (x : RowValues). x.most) c.group.ensures.rows, c.group.ensures.room) c.self.invariant.8,
  c.self.invariant.9,
)

pub invariant_of-self-2 : goal.invariant_of-self-2
invariant_of-self-2 c =
    let core = c.self.inside in
    let rows = c.group.new.rows.rows in
    let fits = beside_parts core.waiting core.sites core.schedule c.args.id rows (sym c.fit.ensures ∙ c.if-not-fit.false) in
    let ds = core.sites.items in
    let fs = core.flights.items in
    let waiting : rows_of c.add_all.new.waiting.items ≡ rows_of core.waiting.items ++ rows = c.add_all.ensures.rows in
    let schedule : c.join_lines.new.schedule ≡ record core.schedule { lines = map (joined_line c.args.id rows) (enumerate_from 0 core.schedule.lines) } = c.join_lines.ensures ∙ ap (λ xs. record core.schedule { lines = xs }) (joined_over c.args.id rows core.schedule.line_room 0 core.schedule.lines fits.lines) in
    let lines : c.count_peers.new.schedule.lines ≡ map (joined_line c.args.id rows) (enumerate_from 0 core.schedule.lines) =
    ap (λ (x : Scheduling). x.lines) c.count_peers.ensures.rest ∙ ap (λ (x : Scheduling). x.lines) schedule in
    let own = present_held (state_of core) core.admitted.items refl c.args.id (ap (λ (s : State). is_admitted_in s c.args.id) c.self.view_is ∙ c.requires.there) in
    let named = subst (AreRowsOf c.args.id) (sym (ap (λ (x : RowValues). x.rows) c.group.ensures.rows)) (rows_named core.rows.most c.args.id [] c.args.taken.now.items c.deref.result.now tt) in
    let total = length-append (rows_of core.waiting.items) rows in
    let same = length-map core.waiting.items (λ (k : HeldRow). k.row) in
    let few : length (rows_of core.waiting.items ++ rows) < 2 ^ 64 = omega (arith, total, same, fits.beside, c.stand_apart.ensures.few) in
    let tied : AreSitesTied c.count_rows.new.sites.items (rows_of core.waiting.items ++ rows) fs = record {
      waiting = c.count_rows.ensures.waiting;
      busy = c.count_rows.ensures.busy fs c.self.invariant.2.busy;
    } in
    let slots : heads c.gain_waiting.new.pool.items ≡ heads core.admitted.items = ap (λ (m : Pooled). heads m.items) c.gain_waiting.ensures ∙ heads_recounted (with_waiting c.len.result) c.args.id core.admitted.items in (
      rw waiting (tied_read core.params core.admitted c.gain_waiting.new.pool (rows_of core.waiting.items) rows fs core.unsettled.items core.starts c.args.id own.0 c.len.result own.1 c.len.ensures few named c.gain_waiting.ensures c.self.invariant.0),
      rw (slots, c.touch_message.ensures, waiting, lines) (rows_added c.args.id rows c.self.invariant.1),
      rw waiting tied,
      rw waiting (
          (c.count_peers.ensures.tied core.starts (subst (λ ps. AreTurnsTied ps (rows_of core.waiting.items) core.starts) (sym (ap (λ (x : Scheduling). x.peers) c.join_lines.ensures)) c.self.invariant.3))),
      c.add_all.ensures.held (tested_alike (goes_to_dead ds) (goes_to_dead c.count_rows.new.sites.items) core.waiting.items (λ r. sym (c.count_rows.ensures.dead r)) c.self.invariant.4),
      messages_same core.params c.count_peers.new.schedule (heads core.admitted.items)
          (messages_stay core.params core.schedule (heads core.admitted.items) c.self.invariant.5 c.count_peers.new.schedule
          (ap (λ (x : Scheduling). x.messages) c.count_peers.ensures.rest ∙ ap (λ (x : Scheduling). x.messages) schedule) (ap (λ (x : Scheduling). x.message_room) c.count_peers.ensures.rest ∙ ap (λ (x : Scheduling). x.message_room) schedule)) _ slots,
      c.self.invariant.6,
      rw (c.add_all.ensures.room, c.count_rows.ensures.room, ap (λ (x : Scheduling). x.room) c.count_peers.ensures.rest, ap (λ (x : Scheduling). x.line_room) c.count_peers.ensures.rest, ap (λ (x : Scheduling). x.room) schedule, ap (λ (x : Scheduling). x.line_room) schedule) c.self.invariant.7,
      rw (c.add_all.ensures.most, ap (λ (x : RowValues). x.room) c.group.ensures.rows, ap (λ (x : RowValues). x.most) c.group.ensures.rows, c.group.ensures.room) c.self.invariant.8,
      rw (ap (λ (x : Scheduling). x.suspended) c.count_peers.ensures.rest, ap (λ (x : Scheduling). x.suspended) schedule) (suspended_same ds c.count_rows.new.sites.items core.schedule.suspended c.count_rows.ensures.rests c.self.invariant.9),
    )

pub returns-clause-added : goal.returns-clause-added
returns-clause-added c = λ done.
    let core = c.self.inside in
    let rows = c.group.new.rows.rows in
    let ts = c.args.taken.now.items in
    let read : rows ≡ rows_read c.args.self.now c.args.id ts =
    ap (λ (x : RowValues). x.rows) c.group.ensures.rows
    ∙ ap (λ (ns : List Site). rows_in core.rows.most c.args.id [] ts ns) c.deref.ensures.value
    ∙ ap (λ n. rows_in n c.args.id [] ts core.named.items) c.self.invariant.8.positions
    ∙ ap (λ (s : State). rows_read s c.args.id ts) c.self.view_is in
    let fits = beside_parts core.waiting core.sites core.schedule c.args.id rows (sym c.fit.ensures ∙ c.if-not-fit.false) in
    let waiting : rows_of c.add_all.new.waiting.items ≡ rows_of core.waiting.items ++ rows = c.add_all.ensures.rows in
    let schedule : c.join_lines.new.schedule ≡ record core.schedule { lines = map (joined_line c.args.id rows) (enumerate_from 0 core.schedule.lines) } = c.join_lines.ensures ∙ ap (λ xs. record core.schedule { lines = xs }) (joined_over c.args.id rows core.schedule.line_room 0 core.schedule.lines fits.lines) in
    let lines : c.count_peers.new.schedule.lines ≡ map (joined_line c.args.id rows) (enumerate_from 0 core.schedule.lines) =
    ap (λ (x : Scheduling). x.lines) c.count_peers.ensures.rest ∙ ap (λ (x : Scheduling). x.lines) schedule in
    let known : known_records c.count_rows.new.sites.items ≡ known_records core.sites.items ++ new_sites core.params (known_records core.sites.items) [] rows =
    c.count_rows.ensures.known in
    let served : served_rows c.count_peers.new.schedule.peers ≡ served_rows core.schedule.peers = c.count_peers.ensures.served ∙ ap (λ (x : Scheduling). served_rows x.peers) c.join_lines.ensures in
    let slots : heads c.gain_waiting.new.pool.items ≡ heads core.admitted.items = ap (λ (m : Pooled). heads m.items) c.gain_waiting.ensures ∙ heads_recounted (with_waiting c.len.result) c.args.id core.admitted.items in
    record {
      rest =
          rw (lines, served) (
          ap (λ ss. record (state_of core) { admitted = ss; waiting = rows_of c.add_all.new.waiting.items; lines = map (joined_line c.args.id rows) (enumerate_from 0 core.schedule.lines); sites = known_records c.count_rows.new.sites.items }) slots
          ∙ ap (λ (s : State). record s { waiting = rows_of c.add_all.new.waiting.items; lines = map (joined_line c.args.id rows) (enumerate_from 0 core.schedule.lines); sites = known_records c.count_rows.new.sites.items }) c.self.view_is
          );
      waiting = waiting ∙ ap (λ (s : State). s.waiting ++ rows) c.self.view_is ∙ ap (λ rs. c.args.self.now.waiting ++ rs) read;
      lines = lines ∙ ap (λ (s : State). map (joined_line c.args.id rows) (enumerate_from 0 s.lines)) c.self.view_is ∙ ap (λ rs. map (joined_line c.args.id rs) (enumerate_from 0 c.args.self.now.lines)) read;
      sites = known ∙ ap (λ (s : State). s.sites ++ new_sites s.params s.sites [] rows) c.self.view_is ∙ ap (λ rs. c.args.self.now.sites ++ new_sites c.args.self.now.params c.args.self.now.sites [] rs) read;
    }

pub returns-then-not-fit-clause-fits : goal.returns-then-not-fit-clause-fits
returns-then-not-fit-clause-fits c =
    let core = c.self.inside in
    let rows = c.group.new.rows.rows in
    let ts = c.args.taken.now.items in
    let read : rows ≡ rows_read c.args.self.now c.args.id ts =
    ap (λ (x : RowValues). x.rows) c.group.ensures.rows
    ∙ ap (λ (ns : List Site). rows_in core.rows.most c.args.id [] ts ns) c.deref.ensures.value
    ∙ ap (λ n. rows_in n c.args.id [] ts core.named.items) c.self.invariant.8.positions
    ∙ ap (λ (s : State). rows_read s c.args.id ts) c.self.view_is in
    sym c.if-not-fit.true ∙ c.fit.ensures
    ∙ beside_is core.waiting core.sites core.schedule c.args.id rows core.params core.transports c.self.invariant.7 (state_of core) refl refl refl refl refl
    ∙ ap (λ (s : State). fit_in s c.args.id rows) c.self.view_is ∙ ap (fit_in c.args.self.now c.args.id) read

pub returns-clause-fits : goal.returns-clause-fits
returns-clause-fits c =
    let core = c.self.inside in
    let rows = c.group.new.rows.rows in
    let ts = c.args.taken.now.items in
    let read : rows ≡ rows_read c.args.self.now c.args.id ts =
    ap (λ (x : RowValues). x.rows) c.group.ensures.rows
    ∙ ap (λ (ns : List Site). rows_in core.rows.most c.args.id [] ts ns) c.deref.ensures.value
    ∙ ap (λ n. rows_in n c.args.id [] ts core.named.items) c.self.invariant.8.positions
    ∙ ap (λ (s : State). rows_read s c.args.id ts) c.self.view_is in
    sym c.if-not-fit.false ∙ c.fit.ensures
    ∙ beside_is core.waiting core.sites core.schedule c.args.id rows core.params core.transports c.self.invariant.7 (state_of core) refl refl refl refl refl
    ∙ ap (λ (s : State). fit_in s c.args.id rows) c.self.view_is ∙ ap (fit_in c.args.self.now c.args.id) read
