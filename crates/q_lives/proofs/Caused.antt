-- Each entry keeps it that whoever is done has a cause.
use Rattle.std.proofs.Common.{◌≡◌, ℕ, zero, suc, Bool, true, false, not, List, [], ◌∷◌, ◌++◌, filter, length, map, replicate, Option, Some, None, ◌⊎◌, inl, inr, refl, sym, ap, ◌∙◌, subst, if◌then◌else◌, eqb-true, eq-eqb}
use Rattle.std.proofs.lemmas.Bool.{and_from, and_parts, not-true, or_cases, or_left}
use Rattle.std.specs.Option.{option_map_or}
use Rattle.std.specs.Prelude.{◌==◌, ◌&&◌, ◌||◌, drop, nat_le, slice_get}
use Rattle.q_laws.proofs.First.{first_on}
use Rattle.q_laws.proofs.Loaded.{records_is}
use Rattle.q_laws.proofs.Members.{IsIn, find_in, find_none_from, in_either, in_filtered}
use Rattle.q_laws.proofs.Moved.{move_to, other_left}
use Rattle.q_laws.proofs.RowCounts.{needs_owner}
use Rattle.q_laws.proofs.Tidied.{tidy_scan_is}
use Rattle.q_laws.specs.Consistency.{IsConsistent}
use Rattle.q_lives.proofs.Causes.{IsStarted, cause_more, later_says, logged_now, needs_say, reported_now, started_more, started_now}
use Rattle.q_lives.specs.Causes.{Cause}
use Rattle.q_lives.proofs.Done.{added_done, changed_done, done_in, kept_done, life_done, log_done, mark_done, sync_done}
use Rattle.q_lives.specs.Causes.{is_done_at}
use Rattle.q_model.proofs.IdLaws.{id_eq-refl}
use Rattle.q_model.specs.Arrivals.{arrived}
use Rattle.q_model.specs.Batches.{load_rows}
use Rattle.q_model.specs.Clock.{scheduled, woken}
use Rattle.q_model.specs.Loads.{loaded}
use Rattle.q_model.specs.Replies.{landed, replied}
use Rattle.q_model.specs.Scans.{ask_scan, joined_request, new_scan}
use Rattle.q_model.specs.Skips.{unqueued}
use Rattle.q_model.specs.Triggers.{after_trigger}
use Rattle.q_model.specs.Alternation.{Pick, from_deferred, from_incoming, passed, pick, after_pick}
use Rattle.q_model.specs.declared.event.Mode.{Mode}
use Rattle.q_model.specs.declared.event.Trigger.{Trigger}
use Rattle.q_model.specs.declared.rows.Request.{Request}
use Rattle.q_model.specs.declared.rows.Scan.{Scan}
use Rattle.q_model.specs.declared.event.Trigger.TheVariants as triggers
use Rattle.q_model.specs.declared.rows.Request.TheVariants as requests
use Rattle.q_laws.proofs.Books.{message_in}
use Rattle.q_laws.proofs.Distinct.{id_cases}
use Rattle.q_model.specs.Book.{message_of}
use Rattle.q_model.specs.BookChanges.{add_message, change_message, remove_message}
use Rattle.q_model.specs.Deliveries.{flight_of}
use Rattle.q_model.specs.Ids.{id_eq}
use Rattle.q_model.specs.Ledger.{Ledger}
use Rattle.q_model.specs.Logs.{first_logged, may_log, needs_log, with_failure}
use Rattle.q_model.specs.Marking.{drop_unsettled, is_unmarked_at, marks_first, marks_leftover, needs_mark, with_mark}
use Rattle.q_model.specs.Leftovers.{is_leftover, is_next_leftover}
use Rattle.q_model.specs.Marks.{is_marked}
use Rattle.q_model.specs.Message.{Message, Recipient, is_logged, new_recipient}
use Rattle.q_model.specs.Notices.{bounce_message}
use Rattle.q_model.specs.Past.{is_life}
use Rattle.q_model.specs.Settings.{World}
use Rattle.q_model.specs.Settling.{needs_of}
use Rattle.q_model.specs.Step.{after, change, may, noted, tidied}
use Rattle.q_model.specs.Syncs.{sync_all}
use Rattle.q_model.specs.declared.entry.Entry.{Entry}
use Rattle.q_model.specs.declared.id.Id.{Id}
use Rattle.q_model.specs.declared.outcome.Failure.{Failure}
use Rattle.q_model.specs.declared.outcome.Outcome.{Outcome}
use Rattle.q_model.specs.declared.outcome.SiteState.{SiteState}
use Rattle.q_model.specs.declared.rows.Delivery.{Delivery}
use Rattle.q_model.specs.declared.rows.Unsettled.{Unsettled}
use Rattle.q_model.specs.declared.entry.Entry.TheVariants as entries
use Rattle.q_model.specs.declared.outcome.Outcome.TheVariants as outcomes
use Rattle.q_model.specs.declared.rows.Need.TheVariants as needs
use Rattle.q_model.specs.declared.rows.Place.TheVariants as places
use Rattle.q_model.specs.Values.{Receiver}

-- Whoever is done has a cause in these entries, and so has who needs a mark; each delivery in flight started in them.
pub record IsCaused (first : Id → ℕ → Type 0) (es : List Entry) (l : Ledger) : Type 0 where
  pub done : (id : Id) (p : ℕ) → is_done_at l.book id p ≡ true → Cause first es id p
  pub flights : (f : Delivery) → IsIn f l.flights → IsStarted es f
  pub unsettled : (u : Unsettled) → IsIn u l.unsettled → needs_mark u.need ≡ true → Cause first es u.id u.position

-- what an entry has to show of the ledger that it makes: who is done newly has a cause, and so on
record IsStep (first : Id → ℕ → Type 0) (es : List Entry) (l k : Ledger) (e : Entry) : Type 0 where
  done : (id : Id) (p : ℕ) → is_done_at k.book id p ≡ true → (is_done_at l.book id p ≡ true) ⊎ Cause first (es ++ e ∷ []) id p
  flights : (f : Delivery) → IsIn f k.flights → IsIn f l.flights ⊎ IsStarted (es ++ e ∷ []) f
  unsettled : (u : Unsettled) → IsIn u k.unsettled → needs_mark u.need ≡ true → IsIn u l.unsettled ⊎ Cause first (es ++ e ∷ []) u.id u.position

step_caused : (first : Id → ℕ → Type 0) (es : List Entry) (l k : Ledger) (e : Entry) → is_life e ≡ false → IsCaused first es l → IsStep first es l k e → IsCaused first (es ++ e ∷ []) k
step_caused first es l k e alive c s = record {
  done = λ id p h. elim (s.done id p h) [ inl old ↦ cause_more first es id p e (c.done id p old) | inr new ↦ new ];
  flights = λ f h. elim (s.flights f h) [ inl old ↦ started_more es f e alive (c.flights f old) | inr new ↦ new ];
  unsettled = λ u h needs. elim (s.unsettled u h needs) [ inl old ↦ cause_more first es u.id u.position e (c.unsettled u old needs) | inr new ↦ new ];
}

-- ---- entries that add nothing

-- where the flights and the unsettled outcomes are as before, and nobody is done newly
book_step : (first : Id → ℕ → Type 0) (es : List Entry) (l k : Ledger) (e : Entry) → k.flights ≡ l.flights → k.unsettled ≡ l.unsettled → ((id : Id) (p : ℕ) → is_done_at k.book id p ≡ true → is_done_at l.book id p ≡ true) → IsStep first es l k e
book_step first es l k e flights unsettled done = record {
  done = λ id p h. inl (done id p h);
  flights = λ f h. inl (subst (IsIn f) flights h);
  unsettled = λ u h needs. inl (subst (IsIn u) unsettled h);
}

-- ---- one kind of entry after another

start_step : (first : Id → ℕ → Type 0) (es : List Entry) (l k : Ledger) (f : Delivery) → k.book ≡ l.book → k.unsettled ≡ l.unsettled → k.flights ≡ l.flights ++ f ∷ [] → IsStep first es l k (entries.Start f.number f.row.id f.row.site f.row.positions)
start_step first es l k f book unsettled flights = record {
  done = λ id p h. inl (sym (ap (λ b. is_done_at b id p) book) ∙ h);
  flights = λ g h. elim (in_either g l.flights (f ∷ []) (subst (IsIn g) flights h)) [
    | inl old ↦ inl old
    | inr new ↦ inr (one g new)
  ];
  unsettled = λ u h needs. inl (subst (IsIn u) unsettled h);
}
  where
    one : (g : Delivery) → IsIn g (f ∷ []) → IsStarted (es ++ entries.Start f.number f.row.id f.row.site f.row.positions ∷ []) g
    one g (inl same) = subst (IsStarted (es ++ entries.Start f.number f.row.id f.row.site f.row.positions ∷ [])) same (started_now es f)
    one g (inr k) = absurd k

log_step : (first : Id → ℕ → Type 0) (es : List Entry) (l k : Ledger) (i : Id) (f : Failure) → k.book ≡ change_message l.book i (with_failure f) → k.flights ≡ l.flights → k.unsettled ≡ first_logged l.unsettled → may_log l i f ≡ true → IsStep first es l k (entries.Log i f)
log_step first es l k i f book flights unsettled can =
    let one = first_on l i f.position (needs_log f) l.unsettled refl can in
    record {
      done = λ id p h. elim (changed_done l.book i (with_failure f) id p (λ m. refl) (sym (ap (λ b. is_done_at b id p) book) ∙ h)) [
        | inl old ↦ inl old
        | inr new ↦ elim (log_done f p new.1 new.3) [
          | inl was ↦ inl (ap (λ (o : Option Message). option_map_or (done_in p) o false) (ap (message_of l.book) new.0 ∙ new.2) ∙ was)
          | inr at ↦ inr (logged_now first es id p (entries.Log i f) (and_from (id_eq i id) (f.position == p) (subst (λ (j : Id). id_eq i j ≡ true) (sym new.0) (id_eq-refl i)) at))
        ]
      ];
      flights = λ g h. inl (subst (IsIn g) flights h);
      unsettled = λ u h needs. on u one.0 one.1 (subst (IsIn u) (unsettled ∙ ap first_logged one.2) h) one.2 one.3 one.4;
    }
  where
    on : (u : Unsettled) → (v : Unsettled) (rest : List Unsettled) → IsIn u (record v { need = needs.Mark } ∷ rest) → l.unsettled ≡ v ∷ rest → v.id ≡ i → v.position ≡ f.position → IsIn u l.unsettled ⊎ Cause first (es ++ entries.Log i f ∷ []) u.id u.position
    on u v rest (inr later) e mine at = inl (subst (IsIn u) (sym e) (inr later))
    on u v rest (inl same) e mine at = inr (subst (λ (x : Unsettled). Cause first (es ++ entries.Log i f ∷ []) x.id x.position) same
        (logged_now first es v.id v.position (entries.Log i f) (and_from (id_eq i v.id) (f.position == v.position) (subst (λ (j : Id). id_eq i j ≡ true) (sym mine) (id_eq-refl i)) (eq-eqb f.position v.position (sym at)))))

reply_step : (first : Id → ℕ → Type 0) (es : List Entry) (w : World) (l k : Ledger) (f : Delivery) (number : ℕ) (state : SiteState) (os : List Outcome) (m : Message) → IsCaused first es l → IsIn f l.flights → f.number ≡ number → m.id ≡ f.row.id → k.book ≡ l.book →
    ((g : Delivery) → IsIn g k.flights → IsIn g l.flights) → k.unsettled ≡ l.unsettled ++ needs_of w l.now m f.row.positions os → IsStep first es l k (entries.Reply number state os)
reply_step first es w l k f number state os m c inside same name book flights unsettled = record {
  done = λ id p h. inl (sym (ap (λ b. is_done_at b id p) book) ∙ h);
  flights = λ g h. inl (flights g h);
  unsettled = λ u h needs. elim (in_either u l.unsettled (needs_of w l.now m f.row.positions os) (subst (IsIn u) unsettled h)) [
    | inl old ↦ inl old
    | inr new ↦ inr (subst (λ n. Cause first (es ++ entries.Reply n state os ∷ []) u.id u.position) same
        (reported_now first es f state os u.id u.position (c.flights f inside) (needs_owner w l.now m f.row.positions os u new ∙ name) (needs_say w l.now m f.row.positions os u new needs)))
  ];
}

-- rows that are put off need no mark
skip_step : (first : Id → ℕ → Type 0) (es : List Entry) (w : World) (l k : Ledger) (ps : List ℕ) (n : ℕ) (m : Message) (e : Entry) → k.book ≡ l.book → k.flights ≡ l.flights → k.unsettled ≡ l.unsettled ++ needs_of w l.now m ps (replicate n (outcomes.Later 0)) → IsStep first es l k e
skip_step first es w l k ps n m e book flights unsettled = record {
  done = λ id p h. inl (sym (ap (λ b. is_done_at b id p) book) ∙ h);
  flights = λ g h. inl (subst (IsIn g) flights h);
  unsettled = λ u h needs. elim (in_either u l.unsettled (needs_of w l.now m ps (replicate n (outcomes.Later 0))) (subst (IsIn u) unsettled h)) [
    | inl old ↦ inl old
    | inr new ↦ (let bad : false ≡ true = sym (later_says u.position ps n) ∙ needs_say w l.now m ps (replicate n (outcomes.Later 0)) u new needs in absurd cc)
  ];
}

fewer_dropped : (us : List Unsettled) (b : Bool) (u : Unsettled) → IsIn u (if b then drop 1 us else us) → IsIn u us
fewer_dropped us false u h = h
fewer_dropped [] true u h = absurd h
fewer_dropped (v ∷ us) true u h = inr h

-- a mark is of the first unsettled outcome, or of a failure that a leftover has
mark_cause : (first : Id → ℕ → Type 0) (es : List Entry) (l : Ledger) (i : Id) (q : ℕ) → IsCaused first es l → (marks_first l i q || marks_leftover l i q) ≡ true → Cause first es i q ⊎ (is_done_at l.book i q ≡ true)
mark_cause first es l i q c can = elim (or_cases (marks_first l i q) (marks_leftover l i q) can) [
  | inl one ↦
      let u = first_on l i q needs_mark l.unsettled refl one in
      inl (subst (λ (j : Id). Cause first es j q) u.3 (subst (λ n. Cause first es u.0.id n) u.4 (c.unsettled u.0 (subst (IsIn u.0) (sym u.2) (inl refl)) u.5)))
  | inr left ↦ inr (on (message_of l.book i) (and_parts (is_leftover l i) (option_map_or (λ m. is_logged m q && is_unmarked_at m q) (message_of l.book i) false) left).1)
]
  where
    on : (o : Option Message) → option_map_or (λ m. is_logged m q && is_unmarked_at m q) o false ≡ true → option_map_or (done_in q) o false ≡ true
    on None h = absurd cc
    on (Some m) h = or_left (is_logged m q) (option_map_or (λ r. is_marked r.mark) (slice_get m.recipients q) false) (and_parts (is_logged m q) (is_unmarked_at m q) h).0

mark_step : (first : Id → ℕ → Type 0) (es : List Entry) (l k : Ledger) (i : Id) (q : ℕ) → IsCaused first es l → k.book ≡ change_message l.book i (with_mark q) → k.flights ≡ l.flights → k.unsettled ≡ drop_unsettled l i q → (marks_first l i q || marks_leftover l i q) ≡ true → IsStep first es l k (entries.Mark i q)
mark_step first es l k i q c book flights unsettled can = record {
  done = λ id p h. elim (changed_done l.book i (with_mark q) id p (λ m. refl) (sym (ap (λ b. is_done_at b id p) book) ∙ h)) [
    | inl old ↦ inl old
    | inr new ↦ elim (mark_done q p new.1 new.3) [
      | inl was ↦ inl (ap (λ (o : Option Message). option_map_or (done_in p) o false) (ap (message_of l.book) new.0 ∙ new.2) ∙ was)
      | inr at ↦ elim (mark_cause first es l i q c can) [
        | inl cause ↦ inr (cause_more first es id p (entries.Mark i q) (subst (λ (j : Id). Cause first es j p) (sym new.0) (subst (λ n. Cause first es i n) (sym at) cause)))
        | inr done ↦ inl (subst (λ (j : Id). is_done_at l.book j p ≡ true) (sym new.0) (subst (λ n. is_done_at l.book i n ≡ true) (sym at) done))
      ]
    ]
  ];
  flights = λ g h. inl (subst (IsIn g) flights h);
  unsettled = λ u h needs. inl (fewer_dropped l.unsettled (marks_first l i q) u (subst (IsIn u) unsettled h));
}

-- a message that is gone has nobody done
remove_done : (w : World) (l : Ledger) (i id : Id) (p : ℕ) → IsConsistent w l → is_done_at (remove_message l.book i) id p ≡ true → is_done_at l.book id p ≡ true
remove_done w l i id p c h = elim (id_cases id i) [
  | inr other ↦ sym (ap (λ (o : Option Message). option_map_or (done_in p) o false) (other_left l.book i id c.book.distinct other)) ∙ h
  | inl same ↦
      let none : message_of (remove_message l.book i) i ≡ None = find_none_from (λ (m : Message). id_eq m.id i) (filter (λ (m : Message). not (id_eq m.id i)) l.book.messages) (λ m inside. not-true (id_eq m.id i) (in_filtered (λ (x : Message). not (id_eq x.id i)) m l.book.messages inside).1) in
      let bad : false ≡ true = sym (ap (λ (o : Option Message). option_map_or (done_in p) o false) (ap (message_of (remove_message l.book i)) same.0 ∙ none)) ∙ h in
      absurd cc
]

-- ---- entries that leave the book, the flights and the unsettled outcomes

pub record IsAlike (l k : Ledger) : Type 0 where
  pub book : k.book ≡ l.book
  pub flights : k.flights ≡ l.flights
  pub unsettled : k.unsettled ≡ l.unsettled
  pub past : k.past ≡ l.past

asked_alike : (l k : Ledger) (request : Request) (o : Option Scan) → IsAlike l k → IsAlike l (option_map_or (λ s. record k { asked = Some (joined_request k.asked request); ignores = false }) o (record k { scan = Some (new_scan k.now request); ignores = false }))
asked_alike l k request None h = record { book = h.book; flights = h.flights; unsettled = h.unsettled; past = h.past }
asked_alike l k request (Some s) h = record { book = h.book; flights = h.flights; unsettled = h.unsettled; past = h.past }

ask_alike : (l k : Ledger) → IsAlike l k → IsAlike l (ask_scan k)
ask_alike l k h = asked_alike l k (if k.ignores then requests.All else requests.Due) k.scan h

pub at_alike : (w : World) (l : Ledger) (t : ℕ) (b : Bool) → IsAlike l (if b then ask_scan (scheduled w l t) else woken w l t)
at_alike w l t true = ask_alike l (scheduled w l t) (record { book = refl; flights = refl; unsettled = refl; past = refl })
at_alike w l t false = record { book = refl; flights = refl; unsettled = refl; past = refl }

pub trigger_alike : (w : World) (l : Ledger) (kind : Trigger) → IsAlike l (after_trigger w l kind)
trigger_alike w l triggers.D = ask_alike l l (record { book = refl; flights = refl; unsettled = refl; past = refl })
trigger_alike w l triggers.A = record { book = refl; flights = refl; unsettled = refl; past = refl }
trigger_alike w l triggers.F = record { book = refl; flights = refl; unsettled = refl; past = refl }

pub load_alike : (w : World) (l : Ledger) (i : Id) (from to : ℕ) (o : Option Message) → IsAlike l (option_map_or (λ (m : Message). loaded w l i to (load_rows w m from to)) o l)
load_alike w l i from to None = record { book = refl; flights = refl; unsettled = refl; past = refl }
load_alike w l i from to (Some m) =
    let known = (records_is w (load_rows w m from to) l).1 in
    record { book = ap (λ (x : Ledger). x.book) known; flights = ap (λ (x : Ledger). x.flights) known; unsettled = ap (λ (x : Ledger). x.unsettled) known; past = ap (λ (x : Ledger). x.past) known }

pub picked_alike : (l : Ledger) (o : Option Pick) → IsAlike l (option_map_or (λ p. passed p l) o l)
picked_alike l None = record { book = refl; flights = refl; unsettled = refl; past = refl }
picked_alike l (Some (from_incoming i)) = record { book = refl; flights = refl; unsettled = refl; past = refl }
picked_alike l (Some (from_deferred name)) = record { book = refl; flights = refl; unsettled = refl; past = refl }

pub corrupt_alike : (l : Ledger) (b : Bool) → IsAlike l (if b then l else after_pick l)
corrupt_alike l true = record { book = refl; flights = refl; unsettled = refl; past = refl }
corrupt_alike l false = picked_alike l (pick l)

alike_step : (first : Id → ℕ → Type 0) (es : List Entry) (l k : Ledger) (e : Entry) → IsAlike l k → IsStep first es l k e
alike_step first es l k e a = book_step first es l k e a.flights a.unsettled (λ id p h. sym (ap (λ b. is_done_at b id p) a.book) ∙ h)

-- ---- outcomes

reply_on : (first : Id → ℕ → Type 0) (es : List Entry) (w : World) (l : Ledger) (number : ℕ) (state : SiteState) (os : List Outcome) (f : Delivery) (o : Option Message) → IsCaused first es l → flight_of l number ≡ Some f → message_of l.book f.row.id ≡ o →
    IsStep first es l (option_map_or (λ (m : Message). record (landed w l state f) { unsettled = l.unsettled ++ needs_of w l.now m f.row.positions os }) o (landed w l state f)) (entries.Reply number state os)
reply_on first es w l number state os f None c found there = record {
  done = λ id p h. inl h;
  flights = λ g h. inl (in_filtered (λ (x : Delivery). not (x.number == f.number)) g l.flights h).0;
  unsettled = λ u h needs. inl h;
}
reply_on first es w l number state os f (Some m) c found there =
    let one = find_in (λ (g : Delivery). g.number == number) f l.flights found in
    reply_step first es w l (record (landed w l state f) { unsettled = l.unsettled ++ needs_of w l.now m f.row.positions os }) f number state os m c one.0 (eqb-true f.number number one.1) (message_in l.book f.row.id m there).1 refl
    (λ g h. (in_filtered (λ (x : Delivery). not (x.number == f.number)) g l.flights h).0) refl

replied_on : (first : Id → ℕ → Type 0) (es : List Entry) (w : World) (l : Ledger) (number : ℕ) (state : SiteState) (os : List Outcome) (o : Option Delivery) → IsCaused first es l → flight_of l number ≡ o → IsStep first es l (option_map_or (λ (f : Delivery). replied w l state os f) o l) (entries.Reply number state os)
replied_on first es w l number state os None c found = alike_step first es l l (entries.Reply number state os) (record { book = refl; flights = refl; unsettled = refl; past = refl })
replied_on first es w l number state os (Some f) c found = reply_on first es w l number state os f (message_of l.book f.row.id) c found refl

skip_on : (first : Id → ℕ → Type 0) (es : List Entry) (w : World) (l k : Ledger) (ps : List ℕ) (e : Entry) (o : Option Message) → IsAlike l k → k.now ≡ l.now →
    IsStep first es l (option_map_or (λ (m : Message). record k { unsettled = k.unsettled ++ needs_of w k.now m ps (replicate (length ps) (outcomes.Later 0)) }) o k) e
skip_on first es w l k ps e None a now = alike_step first es l k e a
skip_on first es w l k ps e (Some m) a now =
    skip_step first es w l (record k { unsettled = k.unsettled ++ needs_of w k.now m ps (replicate (length ps) (outcomes.Later 0)) }) ps (length ps) m e a.book a.flights
    (ap (λ us. us ++ needs_of w k.now m ps (replicate (length ps) (outcomes.Later 0))) a.unsettled ∙ ap (λ n. l.unsettled ++ needs_of w n m ps (replicate (length ps) (outcomes.Later 0))) now)

bounce_on : (first : Id → ℕ → Type 0) (es : List Entry) (l : Ledger) (e : Entry) (o : Option Message) → IsStep first es l (option_map_or (λ (m : Message). record l { book = add_message l.book (bounce_message l.now m) }) o l) e
bounce_on first es l e None = alike_step first es l l e (record { book = refl; flights = refl; unsettled = refl; past = refl })
bounce_on first es l e (Some m) = book_step first es l (record l { book = add_message l.book (bounce_message l.now m) }) e refl refl (λ id p h. added_done l.book (bounce_message l.now m) id p (none p) h)
  where
    none : (p : ℕ) → done_in p (bounce_message l.now m) ≡ false
    none zero = refl
    none (suc p) = refl

new_bare : (to : List Receiver) (p : ℕ) → option_map_or (λ (r : Recipient). is_marked r.mark) (slice_get (map new_recipient to) p) false ≡ false
new_bare [] p = refl
new_bare (a ∷ to) zero = refl
new_bare (a ∷ to) (suc p) = new_bare to p

-- ---- each entry

change_step : (first : Id → ℕ → Type 0) (es : List Entry) (w : World) (l : Ledger) (e : Entry) → IsConsistent w l → may w l e ≡ true → is_life e ≡ false → IsCaused first es l → IsStep first es l (change w l e) e
change_step first es w l (entries.Life generation mode) c can alive h = absurd cc
change_step first es w l (entries.At t) c can alive h = alike_step first es l (change w l (entries.At t)) (entries.At t) (at_alike w l t (nat_le l.next_run t))
change_step first es w l (entries.Arrive i sender to content) c can alive h = book_step first es l (change w l (entries.Arrive i sender to content)) (entries.Arrive i sender to content) refl refl (λ id p k. added_done l.book (arrived l i sender to content) id p (new_bare to p) k)
change_step first es w l (entries.Back i) c can alive h = book_step first es l (change w l (entries.Back i)) (entries.Back i) refl refl (λ id p k. kept_done l.book i (move_to places.Incoming) id p (λ m. refl) (λ m d. d) k)
change_step first es w l (entries.Admit i) c can alive h =
    let a = picked_alike l (pick l) in
    book_step first es l (change w l (entries.Admit i)) (entries.Admit i) a.flights a.unsettled (λ id p k. kept_done l.book i (move_to places.Active) id p (λ m. refl) (λ m d. d) k)
change_step first es w l (entries.Load i from to) c can alive h = alike_step first es l (change w l (entries.Load i from to)) (entries.Load i from to) (load_alike w l i from to (message_of l.book i))
change_step first es w l (entries.Start number i site ps) c can alive h = start_step first es l (change w l (entries.Start number i site ps)) (record { number = number; row = record { id = i; site = site; positions = ps } }) refl refl refl
change_step first es w l (entries.Preempt child parent transport need) c can alive h = alike_step first es l (change w l (entries.Preempt child parent transport need)) (entries.Preempt child parent transport need) (record { book = refl; flights = refl; unsettled = refl; past = refl })
change_step first es w l (entries.Reply number state os) c can alive h = replied_on first es w l number state os (flight_of l number) h refl
change_step first es w l (entries.Skip i site ps) c can alive h = skip_on first es w l (unqueued l i site ps) ps (entries.Skip i site ps) (message_of l.book i) (record { book = refl; flights = refl; unsettled = refl; past = refl }) refl
change_step first es w l (entries.Log i f) c can alive h = log_step first es l (change w l (entries.Log i f)) i f refl refl refl can
change_step first es w l (entries.Mark i q) c can alive h = mark_step first es l (change w l (entries.Mark i q)) i q h refl refl refl can
change_step first es w l (entries.Sync i) c can alive h = book_step first es l (change w l (entries.Sync i)) (entries.Sync i) refl refl (λ id p k. kept_done l.book i sync_all id p (λ m. refl) (λ m d. sym (sync_done p m) ∙ d) k)
change_step first es w l (entries.Defer i due) c can alive h = book_step first es l (change w l (entries.Defer i due)) (entries.Defer i due) refl refl (λ id p k. kept_done l.book i (move_to (places.Deferred due)) id p (λ m. refl) (λ m d. d) k)
change_step first es w l (entries.Bounce i) c can alive h = bounce_on first es l (entries.Bounce i) (message_of l.book i)
change_step first es w l (entries.Remove i) c can alive h = book_step first es l (change w l (entries.Remove i)) (entries.Remove i) refl refl (λ id p k. remove_done w l i id p c k)
change_step first es w l (entries.Corrupt i) c can alive h =
    let a = corrupt_alike l (is_next_leftover l i) in
    book_step first es l (change w l (entries.Corrupt i)) (entries.Corrupt i) a.flights a.unsettled (λ id p k. k)
change_step first es w l (entries.Trigger kind) c can alive h = alike_step first es l (change w l (entries.Trigger kind)) (entries.Trigger kind) (trigger_alike w l kind)
change_step first es w l entries.End c can alive h = alike_step first es l l entries.End (record { book = refl; flights = refl; unsettled = refl; past = refl })

-- what settling leaves
pub record IsStill (l k : Ledger) : Type 0 where
  pub book : k.book ≡ l.book
  pub flights : k.flights ≡ l.flights
  pub unsettled : k.unsettled ≡ l.unsettled

tidied_still : (w : World) (before k : Ledger) → IsStill k (tidied w before k)
tidied_still w before k =
    let scan = (tidy_scan_is k).2 in
    record { book = ap (λ (x : Ledger). x.book) scan; flights = ap (λ (x : Ledger). x.flights) scan; unsettled = ap (λ (x : Ledger). x.unsettled) scan }

pub after_still : (w : World) (l : Ledger) (e : Entry) → IsStill (change w l e) (after w l e)
unfolding after
after_still w l e = let a = tidied_still w l (noted e (change w l e)) in record { book = a.book; flights = a.flights; unsettled = a.unsettled }

still_caused : (first : Id → ℕ → Type 0) (es : List Entry) (l k : Ledger) → IsStill l k → IsCaused first es l → IsCaused first es k
still_caused first es l k a c = record {
  done = λ id p h. c.done id p (sym (ap (λ b. is_done_at b id p) a.book) ∙ h);
  flights = λ f h. c.flights f (subst (IsIn f) a.flights h);
  unsettled = λ u h needs. c.unsettled u (subst (IsIn u) a.unsettled h) needs;
}

-- a new life
pub life_caused : (first : Id → ℕ → Type 0) (es : List Entry) (w : World) (l : Ledger) (generation : ℕ) (mode : Mode) → ((id : Id) (p : ℕ) → is_done_at l.book id p ≡ true → Cause first es id p) → IsCaused first (es ++ entries.Life generation mode ∷ []) (after w l (entries.Life generation mode))
life_caused first es w l generation mode c =
    let e = entries.Life generation mode in
    still_caused first (es ++ e ∷ []) (change w l e) (after w l e) (after_still w l e) (record {
      done = λ id p h. cause_more first es id p e (c id p (sym (life_done l.book generation id p) ∙ h));
      flights = λ f h. absurd h;
      unsettled = λ u h needs. absurd h;
    })

other : (first : Id → ℕ → Type 0) (es : List Entry) (w : World) (l : Ledger) (e : Entry) → IsConsistent w l → may w l e ≡ true → is_life e ≡ false → IsCaused first es l → IsCaused first (es ++ e ∷ []) (after w l e)
other first es w l e c can alive h = still_caused first (es ++ e ∷ []) (change w l e) (after w l e) (after_still w l e) (step_caused first es l (change w l e) e alive h (change_step first es w l e c can alive h))

-- each entry
pub entry_caused : (first : Id → ℕ → Type 0) (es : List Entry) (w : World) (l : Ledger) (e : Entry) → IsConsistent w l → may w l e ≡ true → IsCaused first es l → IsCaused first (es ++ e ∷ []) (after w l e)
entry_caused first es w l (entries.Life generation mode) c can h = life_caused first es w l generation mode h.done
entry_caused first es w l (entries.At t) c can h = other first es w l (entries.At t) c can refl h
entry_caused first es w l (entries.Arrive i sender to content) c can h = other first es w l (entries.Arrive i sender to content) c can refl h
entry_caused first es w l (entries.Back i) c can h = other first es w l (entries.Back i) c can refl h
entry_caused first es w l (entries.Admit i) c can h = other first es w l (entries.Admit i) c can refl h
entry_caused first es w l (entries.Load i from to) c can h = other first es w l (entries.Load i from to) c can refl h
entry_caused first es w l (entries.Start number i site ps) c can h = other first es w l (entries.Start number i site ps) c can refl h
entry_caused first es w l (entries.Preempt child parent transport need) c can h = other first es w l (entries.Preempt child parent transport need) c can refl h
entry_caused first es w l (entries.Reply number state os) c can h = other first es w l (entries.Reply number state os) c can refl h
entry_caused first es w l (entries.Skip i site ps) c can h = other first es w l (entries.Skip i site ps) c can refl h
entry_caused first es w l (entries.Log i f) c can h = other first es w l (entries.Log i f) c can refl h
entry_caused first es w l (entries.Mark i q) c can h = other first es w l (entries.Mark i q) c can refl h
entry_caused first es w l (entries.Sync i) c can h = other first es w l (entries.Sync i) c can refl h
entry_caused first es w l (entries.Defer i due) c can h = other first es w l (entries.Defer i due) c can refl h
entry_caused first es w l (entries.Bounce i) c can h = other first es w l (entries.Bounce i) c can refl h
entry_caused first es w l (entries.Remove i) c can h = other first es w l (entries.Remove i) c can refl h
entry_caused first es w l (entries.Corrupt i) c can h = other first es w l (entries.Corrupt i) c can refl h
entry_caused first es w l (entries.Trigger kind) c can h = other first es w l (entries.Trigger kind) c can refl h
entry_caused first es w l entries.End c can h = other first es w l entries.End c can refl h
