-- Recipients move between those that wait, those in flight and those that are unsettled.
use Rattle.std.proofs.Common.{◌≡◌, ℕ, ◌+◌, ◌≤◌, true, false, List, [], ◌∷◌, ◌++◌, map, length, Some, refl, sym, ap, ◌∙◌, arith, if◌then◌else◌, le_trans, length-append}
use Rattle.std.specs.List.{list_all, list_any}
use Rattle.std.specs.Prelude.{◌==◌, nat_le, nat_lt, slice_get}
use Rattle.std.proofs.lemmas.Grind.{flat_map-append}
use Rattle.q_laws.proofs.Books.{message_in}
use Rattle.q_laws.proofs.Counts.{all_fewer, once_fewer, times, times_append}
use Rattle.q_laws.proofs.Members.{IsIn, all_append, all_at, all_from, in_right}
use Rattle.q_laws.proofs.Places.{got_in}
use Rattle.q_laws.proofs.Quiet.{IsQuiet, LeavesAccount, account_kept, book_noted}
use Rattle.q_laws.proofs.RowCounts.{flight_lengths, needs_count, needs_length, needs_owner, row_lengths, unsettled_remembered}
use Rattle.q_laws.proofs.Tidied.{IsReady}
use Rattle.q_laws.proofs.Unmarked.{none_logged}
use Rattle.q_laws.specs.Consistency.{IsConsistent, IsRemembered, are_once, flight_positions, is_filled, logged_of, memory_positions, unsettled_positions, waiting_positions}
use Rattle.q_model.specs.Book.{message_of}
use Rattle.q_model.specs.Ids.{id_eq}
use Rattle.q_model.specs.Ledger.{Ledger}
use Rattle.q_model.specs.Marking.{is_unmarked_at}
use Rattle.q_model.specs.Memory.{admitted_of, in_memory, is_admitted, unread_of}
use Rattle.q_model.specs.Message.{Message, unmarked_logged}
use Rattle.q_model.specs.Past.{starts}
use Rattle.q_model.specs.Settings.{World}
use Rattle.q_model.specs.Settling.{needs_of}
use Rattle.q_model.specs.Startable.{line_of}
use Rattle.q_model.specs.Step.{noted}
use Rattle.q_model.specs.Values.{Served, SiteRecord}
use Rattle.q_model.specs.declared.entry.Entry.{Entry}
use Rattle.q_model.specs.declared.id.Id.{Id}
use Rattle.q_model.specs.declared.outcome.Outcome.{Outcome}
use Rattle.q_model.specs.declared.rows.Admitted.{Admitted}
use Rattle.q_model.specs.declared.rows.Delivery.{Delivery}
use Rattle.q_model.specs.declared.rows.Row.{Row}
use Rattle.q_model.specs.declared.rows.Unsettled.{Unsettled}

-- the ledger with these rows
abbrev pub with_rows : Ledger → List Row → List Delivery → List Unsettled → List Served → List SiteRecord → Entry → Ledger
with_rows l ws fs us sv ss e = record l { waiting = ws; flights = fs; unsettled = us; served = sv; sites = ss; past = e ∷ l.past }

-- the ledger is ready with these rows
pub rows_ready : (w : World) (l : Ledger) (ws : List Row) (fs : List Delivery) (us : List Unsettled) (sv : List Served) (ss : List SiteRecord) (e : Entry) → IsConsistent w l →
    list_all (λ (r : Row). is_admitted l r.id) ws ≡ true → list_all is_filled ws ≡ true → list_all (λ (f : Delivery). is_admitted l f.row.id) fs ≡ true → list_all (λ (u : Unsettled). is_admitted l u.id) us ≡ true →
    ((a : Admitted) (m : Message) → admitted_of l a.id ≡ Some a → message_of l.book a.id ≡ Some m → IsRemembered (with_rows l ws fs us sv ss e) a m) →
    are_once (map (λ (f : Delivery). f.number) fs) ≡ true → list_all (λ (f : Delivery). nat_le f.number (starts (noted e l))) fs ≡ true →
    ((id : Id) (t : ℕ) → (unread_of l id == 0) ≡ false → list_any (id_eq id) (line_of l t) ≡ false → LeavesAccount id t e) →
    in_memory (with_rows l ws fs us sv ss e) ≤ in_memory l → IsReady w (with_rows l ws fs us sv ss e)
rows_ready w l ws fs us sv ss e c waiting filled flights unsettled remembered numbers begun accounts fewer =
    let m = c.memory in
    let b = book_noted l e c.book in
    record {
      usable = c.usable;
      book = record { distinct = b.distinct; orderly = b.orderly; firm = b.firm; come = b.come };
      memory = record {
        admitted = m.admitted;
        present = m.present;
        within = m.within;
        waiting = waiting;
        filled = filled;
        flights = flights;
        unsettled = unsettled;
        remembered = remembered;
        numbers = numbers;
        begun = begun;
        single = m.single;
        fresh = λ id t some gone. account_kept l e id t (accounts id t some gone) (m.fresh id t some gone);
        synced = m.synced;
        synced_next = λ id left was. m.synced_next id left was;
        messages = m.messages;
        recipients = le_trans fewer m.recipients;
      };
    }

-- ---- outcomes that become unsettled rows

-- what is in memory after rows became outcomes is in memory before
remembered_less : (w : World) (l : Ledger) (ws : List Row) (fs : List Delivery) (sv : List Served) (ss : List SiteRecord) (e : Entry) (x : Message) (ps : List ℕ) (os : List Outcome) (id : Id) (q : ℕ) →
    times q (if id_eq x.id id then ps else []) + (times q (waiting_positions id ws) + times q (flight_positions id fs)) ≤ times q (waiting_positions id l.waiting) + times q (flight_positions id l.flights) →
    times q (memory_positions (with_rows l ws fs (l.unsettled ++ needs_of w l.now x ps os) sv ss e) id) ≤ times q (memory_positions l id)
remembered_less w l ws fs sv ss e x ps os id q h =
    let needs = needs_of w l.now x ps os in
    let a = times_append q (waiting_positions id ws ++ flight_positions id fs) (unsettled_positions id (l.unsettled ++ needs)) in
    let b = times_append q (waiting_positions id ws) (flight_positions id fs) in
    let d : times q (unsettled_positions id (l.unsettled ++ needs)) ≡ times q (unsettled_positions id l.unsettled) + times q (unsettled_positions id needs) =
    ap (times q) (flat_map-append (λ (u : Unsettled). if id_eq u.id id then u.position ∷ [] else []) l.unsettled needs) ∙ times_append q (unsettled_positions id l.unsettled) (unsettled_positions id needs) in
    let f = times_append q (waiting_positions id l.waiting ++ flight_positions id l.flights) (unsettled_positions id l.unsettled) in
    let g = times_append q (waiting_positions id l.waiting) (flight_positions id l.flights) in
    let n = needs_count w l.now x ps os id q (id_eq x.id id) refl in
    omega (arith, a, b, d, f, g, n, h)

first_joined : (m : Message) (us ns : List Unsettled) → unmarked_logged m ≡ logged_of m (slice_get us 0) →
    ((u : Unsettled) → IsIn u (us ++ ns) → u.id ≡ m.id → is_unmarked_at m u.position ≡ true) → unmarked_logged m ≡ logged_of m (slice_get (us ++ ns) 0)
first_joined m [] ns h bare = h ∙ sym (none_logged m (slice_get ns 0) h (λ u f s. bare u (got_in u ns 0 f) s))
first_joined m (u ∷ us) ns h bare = h

outcomes_remembered : (w : World) (l : Ledger) (ws : List Row) (fs : List Delivery) (sv : List Served) (ss : List SiteRecord) (e : Entry) (x : Message) (ps : List ℕ) (os : List Outcome) →
    ((id : Id) (q : ℕ) → times q (if id_eq x.id id then ps else []) + (times q (waiting_positions id ws) + times q (flight_positions id fs)) ≤ times q (waiting_positions id l.waiting) + times q (flight_positions id l.flights)) →
    (a : Admitted) (m : Message) → m.id ≡ a.id → IsRemembered l a m → IsRemembered (with_rows l ws fs (l.unsettled ++ needs_of w l.now x ps os) sv ss e) a m
outcomes_remembered w l ws fs sv ss e x ps os less a m name h =
    let k = with_rows l ws fs (l.unsettled ++ needs_of w l.now x ps os) sv ss e in
    let fewer : (q : ℕ) → times q (memory_positions k a.id) ≤ times q (memory_positions l a.id) = λ q. remembered_less w l ws fs sv ss e x ps os a.id q (less a.id q) in
    let bare = all_fewer (is_unmarked_at m) (memory_positions l a.id) (memory_positions k a.id) fewer h.unmarked in
    record {
      read = all_fewer (λ q. nat_lt q a.unread) (memory_positions l a.id) (memory_positions k a.id) fewer h.read;
      once = once_fewer (memory_positions l a.id) (memory_positions k a.id) fewer h.once;
      unmarked = bare;
      logged = first_joined m l.unsettled (needs_of w l.now x ps os) h.logged (λ u inside s. all_at (is_unmarked_at m) u.position (memory_positions k a.id) bare
          (in_right u.position (waiting_positions a.id ws ++ flight_positions a.id fs) (unsettled_positions a.id (l.unsettled ++ needs_of w l.now x ps os)) (unsettled_remembered a.id u (l.unsettled ++ needs_of w l.now x ps os) inside (s ∙ name))));
    }

-- rows that leave become outcomes of their message
pub outcomes_ready : (w : World) (l : Ledger) (ws : List Row) (fs : List Delivery) (sv : List Served) (ss : List SiteRecord) (e : Entry) (x : Message) (ps : List ℕ) (os : List Outcome) → IsConsistent w l → IsQuiet e → is_admitted l x.id ≡ true →
    list_all (λ (r : Row). is_admitted l r.id) ws ≡ true → list_all is_filled ws ≡ true → list_all (λ (f : Delivery). is_admitted l f.row.id) fs ≡ true → are_once (map (λ (f : Delivery). f.number) fs) ≡ true → list_all (λ (f : Delivery). nat_le f.number (starts (noted e l))) fs ≡ true →
    ((id : Id) (q : ℕ) → times q (if id_eq x.id id then ps else []) + (times q (waiting_positions id ws) + times q (flight_positions id fs)) ≤ times q (waiting_positions id l.waiting) + times q (flight_positions id l.flights)) →
    length ps + (row_lengths ws + flight_lengths fs) ≤ row_lengths l.waiting + flight_lengths l.flights →
    IsReady w (with_rows l ws fs (l.unsettled ++ needs_of w l.now x ps os) sv ss e)
outcomes_ready w l ws fs sv ss e x ps os c quiet adm waiting filled flights numbers begun less lengths =
    rows_ready w l ws fs (l.unsettled ++ needs_of w l.now x ps os) sv ss e c waiting filled flights
    (all_append (λ (u : Unsettled). is_admitted l u.id) l.unsettled (needs_of w l.now x ps os) c.memory.unsettled
    (all_from (λ (u : Unsettled). is_admitted l u.id) (needs_of w l.now x ps os) (λ u inside. ap (is_admitted l) (needs_owner w l.now x ps os u inside) ∙ adm)))
    (λ a m here there. outcomes_remembered w l ws fs sv ss e x ps os less a m (message_in l.book a.id m there).1 (c.memory.remembered a m here there))
    numbers begun (λ id t some gone. quiet id t)
    (let n = needs_length w l.now x ps os in let j = length-append l.unsettled (needs_of w l.now x ps os) in omega (arith, n, j, lengths))
