use Rattle.std.proofs.Common.{◌≡◌, [], ap, arith, get_or, length, refl, subst, sym}
use Rattle.q_core.proofs.MessageTies.{messages_new}
use Rattle.q_core.proofs.ProcessLaws.{processes_new}
use Rattle.q_core.proofs.SiteChanges.{sites_new}
use Rattle.q_core.proofs.StillTidyLines.{new_tidy}
use Rattle.q_core.proofs.TiedLaws.{tied_new}
use Rattle.q_core.proofs.TurnTies.{turns_new}
use Rattle.q_core.specs.Known.{known_records}
use Rattle.q_core.specs.ServedRows.{served_rows}
use Rattle.q_core.specs.Ties.{goes_to_dead}
use Rattle.q_flights.specs.Flying.{Flying}
use Rattle.q_held.specs.Held.{AreHeldBy, Held, rows_of}
use Rattle.q_positions.specs.Lists.{Lists}
use Rattle.q_positions.specs.Rows.{Rows}
use Rattle.q_pool.specs.Kept.{heads}
use Rattle.q_model.specs.declared.rows.Unsettled.{Unsettled}
use Rattle.q_pool.specs.Pooled.{Pooled}
use Rattle.q_queue.specs.Queued.{Queued}
use Rattle.q_core.proofs.beginning.over.Goals as goal

pub invariant_of-result : goal.invariant_of-result
invariant_of-result c =
    let r = c.requires.registers in
    let e = c.requires.rooms in
    let schedule = c.args.registers.2 in
    let sites = c.args.registers.0 in
    let waiting : c.args.rooms.0.items ≡ [] = ap (λ (v : Held). v.items) e.waiting in
    let rows : rows_of c.args.rooms.0.items ≡ [] = ap rows_of waiting in
    let flights : c.args.rooms.1.items ≡ [] = ap (λ (v : Flying). v.items) e.flights in
    let u = c.requires.loads in
    let outcomes : c.args.rooms.2.items ≡ [] = ap (λ (q : Queued Unsettled). q.items) e.unsettled in
    let slots : heads c.args.registers.1.items ≡ [] = ap (λ (m : Pooled). heads m.items) r.admitted in (
      tied_new c.args.params c.args.registers.1 (rows_of c.args.rooms.0.items) c.args.rooms.1.items c.args.rooms.2.items r.admitted rows flights outcomes,
      rw (slots, rows, r.lines) (new_tidy c.args.transports),
      sites_new sites.items (rows_of c.args.rooms.0.items) c.args.rooms.1.items r.sites rows flights,
      turns_new schedule.peers (rows_of c.args.rooms.0.items) r.peers rows,
      subst (AreHeldBy (goes_to_dead sites.items)) (sym waiting) tt,
      messages_new c.args.params schedule (heads c.args.registers.1.items) r.messages slots r.message_room,
      record {
        deliveries = processes_new c.args.params c.args.transports c.args.rooms.1 flights (ap (λ (v : Flying). v.room) e.flights);
        asked = tt;
        names = u.name_room;
        named_few = rw u.named (omega arith);
        outcomes = ap (λ (q : Queued Unsettled). q.room) e.unsettled;
        codes = rw outcomes refl;
        dated = tt;
      },
      record { rows = ap (λ (v : Held). v.room) e.waiting; sites = r.site_room; peers = r.peer_room; jobs = r.line_room },
      record {
        waiting = ap (λ (v : Held). v.most) e.waiting;
        flights = ap (λ (v : Flying). v.most) e.flights;
        last = ap (λ (x : Lists). length x.lists) e.skipped;
        last_most = ap (λ (x : Lists). x.most) e.skipped;
        rows = ap (λ (x : Rows). x.room) u.rows;
        positions = ap (λ (x : Rows). x.most) u.rows;
        places = u.places;
      },
      rw r.suspended tt,
    )

pub returns : goal.returns
returns c =
    let r = c.requires.registers in
    let e = c.requires.rooms in
    let waiting : c.args.rooms.0.items ≡ [] = ap (λ (v : Held). v.items) e.waiting in
    let rows : rows_of c.args.rooms.0.items ≡ [] = ap rows_of waiting in
    let flights : c.args.rooms.1.items ≡ [] = ap (λ (v : Flying). v.items) e.flights in
    let u = c.requires.loads in
    let outcomes : c.args.rooms.2.items ≡ [] = ap (λ (q : Queued Unsettled). q.items) e.unsettled in
    let slots : heads c.args.registers.1.items ≡ [] = ap (λ (m : Pooled). heads m.items) r.admitted in
    let served : served_rows c.args.registers.2.peers ≡ [] = ap served_rows r.peers in
    let known : known_records c.args.registers.0.items ≡ [] = ap known_records r.sites in
    let last : get_or c.args.rooms.3.lists 0 [] ≡ [] = ap (λ (x : Lists). get_or x.lists 0 []) e.skipped in
    rw (c.new.ensures, slots, rows, flights, served, outcomes, r.lines, known, u.named, last) refl
