-- Each entry but a new life keeps the marks of messages that came, and outcomes that aren't settled.
use Rattle.std.proofs.Common.{◌≡◌, ℕ, Bool, true, false, not, List, [], ◌∷◌, ◌++◌, drop, replicate, Option, Some, None, ◌⊎◌, inl, inr, refl, sym, ap, ◌∙◌, subst, if◌then◌else◌}
use Rattle.std.proofs.lemmas.Bool.{and_parts, not-true, or_cases}
use Rattle.std.specs.Option.{option_map_or}
use Rattle.std.specs.Prelude.{◌&&◌, ◌==◌, length, nat_le, is_none}
use Rattle.q_laws.proofs.Added.{other_found}
use Rattle.q_laws.proofs.Books.{left_active, message_in}
use Rattle.q_laws.proofs.Distinct.{id_cases, names_filtered}
use Rattle.q_laws.proofs.First.{first_on, first_positions}
use Rattle.q_laws.proofs.Members.{IsIn, all_at, in_either, in_filtered, in_left, in_map, in_right}
use Rattle.q_laws.proofs.Moved.{move_to, other_left, removed_none}
use Rattle.q_laws.proofs.Synced.{admitted_active, found_admitted}
use Rattle.q_laws.specs.Consistency.{IsConsistent, memory_positions, unsettled_positions}
use Rattle.q_lives.proofs.Bounced.{HasCome, not_yet}
use Rattle.q_lives.proofs.Caused.{IsAlike, at_alike, corrupt_alike, load_alike, picked_alike, trigger_alike}
use Rattle.q_lives.proofs.MarkChanges.{IsFromBefore, KeepsMarks, changed_before, mark_keeps, same_before, same_marks, sync_keeps}
use Rattle.q_lives.proofs.Standing.{ids_changed, ids_more, message_ids}
use Rattle.q_model.proofs.IdLaws.{id_eq-true, same_id}
use Rattle.q_model.specs.Arrivals.{arrived, may_arrive, next_id}
use Rattle.q_model.specs.Book.{Book, message_of}
use Rattle.q_model.specs.BookChanges.{add_message, change_message, move_damaged, remove_message}
use Rattle.q_model.specs.Deliveries.{flight_of}
use Rattle.q_model.specs.Finishing.{has_bounce, is_at_rest, is_done, wants_bounce}
use Rattle.q_model.specs.Ids.{bounce_of, cause_of, id_eq}
use Rattle.q_model.specs.Ledger.{Ledger}
use Rattle.q_model.specs.Leftovers.{is_leftover, is_next_leftover}
use Rattle.q_model.specs.Lists.{has_none}
use Rattle.q_model.specs.Logs.{first_logged, with_failure}
use Rattle.q_model.specs.Marking.{drop_unsettled, is_unmarked_at, marks_first, marks_leftover, may_mark, needs_mark, with_mark}
use Rattle.q_model.specs.Memory.{is_admitted}
use Rattle.q_model.specs.Message.{Message, is_logged}
use Rattle.q_model.specs.Notices.{bounce_message}
use Rattle.q_model.specs.Past.{is_life}
use Rattle.q_model.specs.Places.{is_active}
use Rattle.q_model.specs.Replies.{landed, replied}
use Rattle.q_model.specs.Settings.{World}
use Rattle.q_model.specs.Settling.{needs_of}
use Rattle.q_model.specs.Skips.{unqueued}
use Rattle.q_model.specs.Step.{change, may}
use Rattle.q_model.specs.Syncs.{sync_all}
use Rattle.q_model.specs.Alternation.{pick}
use Rattle.q_model.specs.declared.entry.Entry.{Entry}
use Rattle.q_model.specs.declared.id.Id.{Id}
use Rattle.q_model.specs.declared.outcome.Outcome.{Outcome}
use Rattle.q_model.specs.declared.outcome.SiteState.{SiteState}
use Rattle.q_model.specs.declared.rows.Delivery.{Delivery}
use Rattle.q_model.specs.declared.rows.Place.{Place}
use Rattle.q_model.specs.declared.rows.Unsettled.{Unsettled}
use Rattle.q_model.specs.declared.entry.Entry.TheVariants as entries
use Rattle.q_model.specs.declared.outcome.Outcome.TheVariants as outcomes
use Rattle.q_model.specs.declared.rows.Place.TheVariants as places
use Rattle.q_model.specs.Values.{Receiver}

-- the id came before; and where it is a bounce's, the message that it is of is gone
pub record IsKnown (l : Ledger) (id : Id) : Type 0 where
  pub come : HasCome l id
  pub alone : id.bounce ≡ true → IsIn (cause_of id) (message_ids l.book) → ⊥

-- a later book: no message that came is in it anew, and marks are as they were
pub record IsBookKept (l : Ledger) (b : Book) : Type 0 where
  pub generation : b.generation ≡ l.book.generation
  pub plain : (i : Id) → i.bounce ≡ false → HasCome l i → IsIn i (message_ids b) → IsIn i (message_ids l.book)
  pub marks : (id : Id) → IsKnown l id → IsFromBefore l.book b id

-- what an entry leaves: an outcome that wasn't settled isn't, or is marked by it, and each delivery in flight was or starts by it
pub record IsKept (l k : Ledger) (e : Entry) : Type 0 where
  pub past : k.past ≡ l.past
  pub book : IsBookKept l k.book
  pub unsettled : (id : Id) (p : ℕ) → IsIn p (unsettled_positions id l.unsettled) → IsIn p (unsettled_positions id k.unsettled) ⊎ (e ≡ entries.Mark id p)
  pub flights : (f : Delivery) → IsIn f k.flights → IsIn f l.flights ⊎ (e ≡ entries.Start f.number f.row.id f.row.site f.row.positions)

-- ---- books

same_book : (l : Ledger) (b : Book) → b ≡ l.book → IsBookKept l b
same_book l b h = record {
  generation = ap (λ (x : Book). x.generation) h;
  plain = λ i plain come there. subst (λ (x : Book). IsIn i (message_ids x)) h there;
  marks = λ id known. same_before l.book b id (ap (λ (x : Book). message_of x id) h);
}

changed_book : (l : Ledger) (i : Id) (f : Message → Message) → ((m : Message) → (f m).id ≡ m.id) → ((m : Message) → message_of l.book i ≡ Some m → KeepsMarks m (f m)) → IsBookKept l (change_message l.book i f)
changed_book l i f name keeps = record {
  generation = refl;
  plain = λ j plain come there. subst (IsIn j) (ids_changed l.book i f name) there;
  marks = λ id known. changed_before l.book i f id name keeps;
}

moved_book : (l : Ledger) (i : Id) (place : Place) → IsBookKept l (change_message l.book i (move_to place))
moved_book l i place = changed_book l i (move_to place) (λ m. refl) (λ m there. same_marks m (move_to place m) refl)

added_book : (l : Ledger) (x : Message) → (x.id.bounce ≡ false → HasCome l x.id → ⊥) → (IsKnown l x.id → ⊥) → IsBookKept l (add_message l.book x)
added_book l x fresh unknown = record {
  generation = refl;
  plain = λ i plain come there. elim (in_either i (message_ids l.book) (x.id ∷ []) (subst (IsIn i) (ids_more l.book.messages x) there)) [
    | inl old ↦ old
    | inr new ↦ absurd (mine i plain come new)
  ];
  marks = λ id known. same_before l.book (add_message l.book x) id (other_found l.book x id (apart id known (id_eq x.id id) refl));
}
  where
    mine : (i : Id) → i.bounce ≡ false → HasCome l i → IsIn i (x.id ∷ []) → ⊥
    mine i plain come (inl e) = fresh (ap (λ (j : Id). j.bounce) e ∙ plain) (subst (HasCome l) (sym e) come)
    mine i plain come (inr k) = k

    apart : (id : Id) → IsKnown l id → (t : Bool) → id_eq x.id id ≡ t → t ≡ false
    apart id known false e = refl
    apart id known true e = absurd (unknown (subst (IsKnown l) (sym (id_eq-true x.id id e)) known))

removed_book : (w : World) (l : Ledger) (i : Id) → IsConsistent w l → IsBookKept l (remove_message l.book i)
removed_book w l i c = record {
  generation = refl;
  plain = λ j plain come there. names_filtered (λ (m : Message). m.id) (λ (m : Message). not (id_eq m.id i)) j l.book.messages there;
  marks = λ id known n h. elim (id_cases id i) [
    | inl same ↦ absurd (gone id n same.0 h)
    | inr other ↦ same_before l.book (remove_message l.book i) id (other_left l.book i id c.book.distinct other) n h
  ];
}
  where
    gone : (id : Id) (n : Message) → id ≡ i → message_of (remove_message l.book i) id ≡ Some n → ⊥
    gone id n same h = let bad : ◌≡◌ {A = Option Message} None (Some n) = sym (removed_none l.book i) ∙ ap (message_of (remove_message l.book i)) (sym same) ∙ h in absurd cc

arrived_book : (l : Ledger) (i : Id) (sender : Option (List ℕ)) (to : List Receiver) (content : List ℕ) → may_arrive l i ≡ true → IsBookKept l (add_message l.book (arrived l i sender to content))
arrived_book l i sender to content can =
    let same : i ≡ next_id l = id_eq-true i (next_id l) (and_parts l.timed (id_eq i (next_id l)) can).1 in
    let never : HasCome l i → ⊥ = λ k. not_yet l i (ap (λ (j : Id). j.generation) same) (ap (λ (j : Id). j.serial) same) k.come in
    added_book l (arrived l i sender to content) (λ plain k. never k) (λ k. never k.come)

bounced_book : (l : Ledger) (i : Id) (m : Message) → message_of l.book i ≡ Some m → wants_bounce m ≡ true → IsBookKept l (add_message l.book (bounce_message l.now m))
bounced_book l i m there wants =
    let plain : m.id.bounce ≡ false = not-true m.id.bounce (and_parts (not (has_none m.failures) && not (is_none m.sender)) (not m.id.bounce) wants).1 in
    let cause : cause_of (bounce_of m.id) ≡ m.id = same_id (cause_of (bounce_of m.id)) m.id refl refl (sym plain) in
    let stands : IsIn m.id (message_ids l.book) = in_map (λ (x : Message). x.id) m l.book.messages (message_in l.book i m there).0 in
    added_book l (bounce_message l.now m) (λ no k. let bad : true ≡ false = no in absurd cc)
    (λ k. k.alone refl (subst (λ j. IsIn j (message_ids l.book)) (sym cause) stands))

-- ---- outcomes that aren't settled

pub in_more : (id : Id) (p : ℕ) (us vs : List Unsettled) → IsIn p (unsettled_positions id us) → IsIn p (unsettled_positions id (us ++ vs))
in_more id p [] vs h = absurd h
in_more id p (u ∷ us) vs h = elim (in_either p (if id_eq u.id id then u.position ∷ [] else []) (unsettled_positions id us) h) [
  | inl k ↦ in_left p (if id_eq u.id id then u.position ∷ [] else []) (unsettled_positions id (us ++ vs)) k
  | inr k ↦ in_right p (if id_eq u.id id then u.position ∷ [] else []) (unsettled_positions id (us ++ vs)) (in_more id p us vs k)
]

logged_positions : (id : Id) (p : ℕ) (us : List Unsettled) → IsIn p (unsettled_positions id us) → IsIn p (unsettled_positions id (first_logged us))
logged_positions id p [] h = h
logged_positions id p (u ∷ us) h = h

first_position : (id : Id) (p : ℕ) (u : Unsettled) (us : List Unsettled) → IsIn p (unsettled_positions id (u ∷ us)) → ((u.id ≡ id) × (u.position ≡ p)) ⊎ IsIn p (unsettled_positions id us)
first_position id p u us h = on (id_eq u.id id) refl h
  where
    on : (b : Bool) → id_eq u.id id ≡ b → IsIn p ((if b then u.position ∷ [] else []) ++ unsettled_positions id us) → ((u.id ≡ id) × (u.position ≡ p)) ⊎ IsIn p (unsettled_positions id us)
    on true e (inl same) = inl (id_eq-true u.id id e, same)
    on true e (inr k) = inr k
    on false e k = inr k

dropped_positions : (l : Ledger) (i : Id) (q : ℕ) (id : Id) (p : ℕ) → IsIn p (unsettled_positions id l.unsettled) → IsIn p (unsettled_positions id (drop_unsettled l i q)) ⊎ (entries.Mark i q ≡ entries.Mark id p)
dropped_positions l i q id p h = on (marks_first l i q) refl
  where
    on : (b : Bool) → marks_first l i q ≡ b → IsIn p (unsettled_positions id (if b then drop 1 l.unsettled else l.unsettled)) ⊎ (entries.Mark i q ≡ entries.Mark id p)
    on false e = inl h
    on true e =
        let u = first_on l i q needs_mark l.unsettled refl e in
        elim (first_position id p u.0 u.1 (subst (λ us. IsIn p (unsettled_positions id us)) u.2 h)) [
          | inl mine ↦ inr (ap (λ (j : Id). entries.Mark j q) (sym u.3 ∙ mine.0) ∙ ap (λ n. entries.Mark id n) (sym u.4 ∙ mine.1))
          | inr later ↦ inl (subst (λ us. IsIn p (unsettled_positions id (drop 1 us))) (sym u.2) later)
        ]

-- ---- who is marked

-- the recipient that a mark is of stands in active and has none
pub record IsBareAt (l : Ledger) (id : Id) (p : ℕ) : Type 0 where
  pub message : Message
  pub there : message_of l.book id ≡ Some message
  pub active : is_active message.place ≡ true
  pub bare : is_unmarked_at message p ≡ true

first_bare : (w : World) (l : Ledger) (i : Id) (q : ℕ) → IsConsistent w l → marks_first l i q ≡ true → IsBareAt l i q
first_bare w l i q c h =
    let u = first_on l i q needs_mark l.unsettled refl h in
    let adm : is_admitted l i ≡ true = subst (λ j. is_admitted l j ≡ true) u.3 (all_at (λ (x : Unsettled). is_admitted l x.id) u.0 l.unsettled c.memory.unsettled (subst (λ us. IsIn u.0 us) (sym u.2) (inl refl))) in
    let mine = admitted_active w l i c adm in
    let a = found_admitted w l i c adm in
    let remembered = c.memory.remembered a.0 mine.0 a.1 (ap (message_of l.book) a.2 ∙ mine.1.there) in
    let there : IsIn u.0.position (memory_positions l a.0.id) = first_positions u.0 u.1 l a.0.id u.2 (u.3 ∙ sym a.2) in
    record {
      message = mine.0;
      there = mine.1.there;
      active = mine.1.active;
      bare = subst (λ n. is_unmarked_at mine.0 n ≡ true) u.4 (all_at (is_unmarked_at mine.0) u.0.position (memory_positions l a.0.id) remembered.unmarked there);
    }

left_bare : (w : World) (l : Ledger) (i : Id) (q : ℕ) → IsConsistent w l → marks_leftover l i q ≡ true → IsBareAt l i q
left_bare w l i q c h =
    let two = and_parts (is_leftover l i) (option_map_or (λ m. is_logged m q && is_unmarked_at m q) (message_of l.book i) false) h in
    on (message_of l.book i) refl two.0 two.1
  where
    on : (o : Option Message) → message_of l.book i ≡ o → is_leftover l i ≡ true → option_map_or (λ m. is_logged m q && is_unmarked_at m q) o false ≡ true → IsBareAt l i q
    on None e left k = absurd cc
    on (Some m) e left k = record { message = m; there = e; active = left_active l c.book.distinct i m left e; bare = (and_parts (is_logged m q) (is_unmarked_at m q) k).1 }

pub mark_bare : (w : World) (l : Ledger) (i : Id) (q : ℕ) → IsConsistent w l → may_mark l i q ≡ true → IsBareAt l i q
mark_bare w l i q c can = elim (or_cases (marks_first l i q) (marks_leftover l i q) can) [ inl one ↦ first_bare w l i q c one | inr left ↦ left_bare w l i q c left ]

marked_book : (w : World) (l : Ledger) (i : Id) (q : ℕ) → IsConsistent w l → may_mark l i q ≡ true → IsBookKept l (change_message l.book i (with_mark q))
marked_book w l i q c can =
    let one = mark_bare w l i q c can in
    changed_book l i (with_mark q) (λ m. refl) (λ m there. mark_keeps q m (subst (λ x. is_unmarked_at x q ≡ true) (only one.message m (sym one.there ∙ there)) one.bare))
  where
    only : (m n : Message) → ◌≡◌ {A = Option Message} (Some m) (Some n) → m ≡ n
    only m n h = cc

-- ---- entries

-- entries that leave the unsettled outcomes and what is in flight
quiet_kept : (l k : Ledger) (e : Entry) → k.past ≡ l.past → k.unsettled ≡ l.unsettled → k.flights ≡ l.flights → IsBookKept l k.book → IsKept l k e
quiet_kept l k e past unsettled flights book = record {
  past = past;
  book = book;
  unsettled = λ id p h. inl (subst (λ us. IsIn p (unsettled_positions id us)) (sym unsettled) h);
  flights = λ f h. inl (subst (IsIn f) flights h);
}

alike_kept : (l k : Ledger) (e : Entry) → IsAlike l k → IsKept l k e
alike_kept l k e a = quiet_kept l k e a.past a.unsettled a.flights (same_book l k.book a.book)

start_kept : (l k : Ledger) (f : Delivery) → k.past ≡ l.past → k.book ≡ l.book → k.unsettled ≡ l.unsettled → k.flights ≡ l.flights ++ f ∷ [] → IsKept l k (entries.Start f.number f.row.id f.row.site f.row.positions)
start_kept l k f past book unsettled flights = record {
  past = past;
  book = same_book l k.book book;
  unsettled = λ id p h. inl (subst (λ us. IsIn p (unsettled_positions id us)) (sym unsettled) h);
  flights = λ g h. elim (in_either g l.flights (f ∷ []) (subst (IsIn g) flights h)) [
    | inl old ↦ inl old
    | inr new ↦ inr (one g new)
  ];
}
  where
    one : (g : Delivery) → IsIn g (f ∷ []) → entries.Start f.number f.row.id f.row.site f.row.positions ≡ entries.Start g.number g.row.id g.row.site g.row.positions
    one g (inl same) = ap (λ (x : Delivery). entries.Start x.number x.row.id x.row.site x.row.positions) same
    one g (inr k) = absurd k

-- outcomes that come
outcomes_kept : (w : World) (l k : Ledger) (ps : List ℕ) (os : List Outcome) (e : Entry) (o : Option Message) → k.past ≡ l.past → k.book ≡ l.book → k.unsettled ≡ l.unsettled → ((f : Delivery) → IsIn f k.flights → IsIn f l.flights) →
    IsKept l (option_map_or (λ (m : Message). record k { unsettled = k.unsettled ++ needs_of w k.now m ps os }) o k) e
outcomes_kept w l k ps os e None past book unsettled flights = record {
  past = past;
  book = same_book l k.book book;
  unsettled = λ id p h. inl (subst (λ us. IsIn p (unsettled_positions id us)) (sym unsettled) h);
  flights = λ f h. inl (flights f h);
}
outcomes_kept w l k ps os e (Some m) past book unsettled flights = record {
  past = past;
  book = same_book l k.book book;
  unsettled = λ id p h. inl (in_more id p k.unsettled (needs_of w k.now m ps os) (subst (λ us. IsIn p (unsettled_positions id us)) (sym unsettled) h));
  flights = λ f h. inl (flights f h);
}

reply_kept : (w : World) (l : Ledger) (state : SiteState) (os : List Outcome) (e : Entry) (o : Option Delivery) → IsKept l (option_map_or (λ (f : Delivery). replied w l state os f) o l) e
reply_kept w l state os e None = quiet_kept l l e refl refl refl (same_book l l.book refl)
reply_kept w l state os e (Some f) = outcomes_kept w l (landed w l state f) f.row.positions os e (message_of l.book f.row.id) refl refl refl (λ g h. (in_filtered (λ (x : Delivery). not (x.number == f.number)) g l.flights h).0)

bounce_kept : (l : Ledger) (i : Id) (e : Entry) (o : Option Message) → message_of l.book i ≡ o → option_map_or (λ (m : Message). is_active m.place && is_at_rest l i && is_done m && wants_bounce m && not (has_bounce l i)) o false ≡ true →
    IsKept l (option_map_or (λ (m : Message). record l { book = add_message l.book (bounce_message l.now m) }) o l) e
bounce_kept l i e None there can = absurd cc
bounce_kept l i e (Some m) there can =
    let one = and_parts (is_active m.place && is_at_rest l i && is_done m && wants_bounce m) (not (has_bounce l i)) can in
    quiet_kept l (record l { book = add_message l.book (bounce_message l.now m) }) e refl refl refl (bounced_book l i m there (and_parts (is_active m.place && is_at_rest l i && is_done m) (wants_bounce m) one.0).1)

pub change_kept : (w : World) (l : Ledger) (e : Entry) → IsConsistent w l → may w l e ≡ true → is_life e ≡ false → IsKept l (change w l e) e
change_kept w l (entries.Life generation mode) c can alive = absurd cc
change_kept w l (entries.At t) c can alive = alike_kept l (change w l (entries.At t)) (entries.At t) (at_alike w l t (nat_le l.next_run t))
change_kept w l (entries.Arrive i sender to content) c can alive = quiet_kept l (change w l (entries.Arrive i sender to content)) (entries.Arrive i sender to content) refl refl refl (arrived_book l i sender to content can)
change_kept w l (entries.Back i) c can alive = quiet_kept l (change w l (entries.Back i)) (entries.Back i) refl refl refl (moved_book l i places.Incoming)
change_kept w l (entries.Admit i) c can alive = let a = picked_alike l (pick l) in quiet_kept l (change w l (entries.Admit i)) (entries.Admit i) a.past a.unsettled a.flights (moved_book l i places.Active)
change_kept w l (entries.Load i from to) c can alive = alike_kept l (change w l (entries.Load i from to)) (entries.Load i from to) (load_alike w l i from to (message_of l.book i))
change_kept w l (entries.Start number i site ps) c can alive = start_kept l (change w l (entries.Start number i site ps)) (record { number = number; row = record { id = i; site = site; positions = ps } }) refl refl refl refl
change_kept w l (entries.Preempt child parent transport need) c can alive = alike_kept l (change w l (entries.Preempt child parent transport need)) (entries.Preempt child parent transport need) (record { book = refl; flights = refl; unsettled = refl; past = refl })
change_kept w l (entries.Reply number state os) c can alive = reply_kept w l state os (entries.Reply number state os) (flight_of l number)
change_kept w l (entries.Skip i site ps) c can alive = outcomes_kept w l (unqueued l i site ps) ps (replicate (length ps) (outcomes.Later 0)) (entries.Skip i site ps) (message_of l.book i) refl refl refl (λ f h. h)
change_kept w l (entries.Log i f) c can alive = record {
  past = refl;
  book = changed_book l i (with_failure f) (λ m. refl) (λ m there. same_marks m (with_failure f m) refl);
  unsettled = λ id p h. inl (logged_positions id p l.unsettled h);
  flights = λ g h. inl h;
}
change_kept w l (entries.Mark i q) c can alive = record { past = refl; book = marked_book w l i q c can; unsettled = λ id p h. dropped_positions l i q id p h; flights = λ g h. inl h }
change_kept w l (entries.Sync i) c can alive = quiet_kept l (change w l (entries.Sync i)) (entries.Sync i) refl refl refl (changed_book l i sync_all (λ m. refl) (λ m there. sync_keeps m))
change_kept w l (entries.Defer i due) c can alive = quiet_kept l (change w l (entries.Defer i due)) (entries.Defer i due) refl refl refl (moved_book l i (places.Deferred due))
change_kept w l (entries.Bounce i) c can alive = bounce_kept l i (entries.Bounce i) (message_of l.book i) refl can
change_kept w l (entries.Remove i) c can alive = quiet_kept l (change w l (entries.Remove i)) (entries.Remove i) refl refl refl (removed_book w l i c)
change_kept w l (entries.Corrupt i) c can alive =
    let a = corrupt_alike l (is_next_leftover l i) in
    quiet_kept l (change w l (entries.Corrupt i)) (entries.Corrupt i) a.past a.unsettled a.flights (record {
      generation = refl;
      plain = λ j plain come there. there;
      marks = λ id known. same_before l.book (move_damaged l.book i places.Corrupt) id refl;
    })
change_kept w l (entries.Trigger kind) c can alive = alike_kept l (change w l (entries.Trigger kind)) (entries.Trigger kind) (trigger_alike w l kind)
change_kept w l entries.End c can alive = quiet_kept l l entries.End refl refl refl (same_book l l.book refl)
