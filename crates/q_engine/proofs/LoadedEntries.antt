-- The load that the core asked for: what its file says, and what the ledger is after it.
use Rattle.std.proofs.Common.{◌≡◌, ◌∙◌, ℕ, zero, suc, ◌+◌, ◌-◌, ◌<◌, ◌≤◌, ◌||◌, Bool, true, false, cond, not, List, [], ◌∷◌, length, filter, map, take, take_all, slice_get, Option, Some, None, inl, inr, if◌then◌else◌, refl, sym, ap, subst, arith}
use Rattle.std.specs.Option.{IfSome, option_map, option_map_or, option_or}
use Rattle.std.specs.Prelude.{◌&&◌, nat_le, nat_lt}
use Rattle.std.proofs.lemmas.Bool.{le-ltb, lt-ltb}
use Rattle.std.proofs.lemmas.List.{length-map}
use Rattle.std.proofs.lemmas.Option.{slice_get-map}
use Rattle.q_model.specs.declared.entry.Entry.{Entry}
use Rattle.q_model.specs.declared.entry.Entry.TheVariants as entries
use Rattle.q_model.specs.declared.id.Id.{Id}
use Rattle.q_model.specs.declared.rows.Admitted.{Admitted}
use Rattle.q_model.specs.declared.rows.Need.{Need}
use Rattle.q_model.specs.declared.rows.Need.TheVariants as needs
use Rattle.q_model.specs.declared.rows.Unsettled.{Unsettled}
use Rattle.q_model.specs.Batches.{load_end, load_positions, pending_from}
use Rattle.q_model.specs.Book.{Book, message_of}
use Rattle.q_model.specs.FilesStand.{file_message, file_recipient}
use Rattle.q_model.specs.Ledger.{Ledger}
use Rattle.q_model.specs.Lists.{places_from}
use Rattle.q_model.specs.Loads.{may_load, may_load_of}
use Rattle.q_model.specs.Marks.{is_marked}
use Rattle.q_model.specs.Memory.{admitted_of, is_admitted}
use Rattle.q_model.specs.Message.{address_at, is_logged, Message, pending, Recipient, unmarked_logged}
use Rattle.q_model.specs.Ids.{id_eq}
use Rattle.q_model.specs.Next.{admission_rule, finishing_rule, first_rule, leftover_rule, load_rule, needed, next, skip_rule, start_rule, sync_rule}
use Rattle.q_model.specs.QueueFile.{FileMessage, FileRecipient, queue_file}
use Rattle.q_model.specs.Settings.{Table, World}
use Rattle.q_model.specs.SpoolFiles.{file_at}
use Rattle.q_model.specs.Values.{Site, Spot, Taken}
use Rattle.q_model.proofs.QueueFileLaws.{queue_file_again}
use Rattle.q_model.proofs.StandChanges.{Stands-message}
use Rattle.q_host.specs.View.{View}
use Rattle.q_laws.specs.Consistency.{IsConsistent, logged_of}
use Rattle.q_laws.proofs.Batched.{IsRising, pending_in, pending_rising}
use Rattle.q_laws.proofs.Decisions.{next_decided}
use Rattle.q_laws.proofs.Members.{any_from, find_in, in_filtered, IsIn}
use Rattle.q_laws.proofs.Places.{got_in, places_mapped}
use Rattle.q_laws.proofs.Synced.{admitted_active, found_admitted, IsActiveMessage}
use Rattle.q_message.specs.Names.{address_in}
use Rattle.q_message.specs.Pending.{taken_at, unmarked_from}
use Rattle.q_books.specs.HostStands.{HostStands}
use Rattle.q_books.specs.Spots.{IsFileAt, IsMarkAt}
use Rattle.q_core.specs.Loading.{ReadsAre}
use Rattle.q_transport.specs.Routing.{table_of}
use Rattle.q_engine.specs.declared.engine.Engine.{Engine}
use Rattle.q_engine.specs.Loads.{sites_of}
use Rattle.q_engine.specs.Pending.{AreRead, IsReadUpTo, open_from}
use Rattle.q_engine.proofs.OpenRecipients.{all_kept}

-- ---- no outcome is unsettled, and so each logged recipient has its mark

needed_none : (u : Unsettled) (n : Need) (id : Id) (from to : ℕ) → Some (needed u.id u.position n) ≡ Some (entries.Load id from to) → ⊥
needed_none u needs.Mark id from to e = cc
needed_none u (needs.Log why code) id from to e = cc

settled_first : (us : List Unsettled) (rest : Option Entry) (id : Id) (from to : ℕ) → option_or (option_map (λ (u : Unsettled). needed u.id u.position u.need) (slice_get us 0)) rest ≡ Some (entries.Load id from to) → us ≡ []
settled_first [] rest id from to h = refl
settled_first (u ∷ us) rest id from to h = absurd (needed_none u u.need id from to h)

unsettled_none : (w : World) (l : Ledger) (id : Id) (from to : ℕ) → next w l ≡ Some (entries.Load id from to) → l.unsettled ≡ []
unfolding next
unsettled_none w l id from to h = by l.timed h
  where
    by : (b : Bool) → (if b then first_rule w l else None) ≡ Some (entries.Load id from to) → l.unsettled ≡ []
    by true e = settled_first l.unsettled (option_or (sync_rule w l) (option_or (skip_rule l) (option_or (finishing_rule w l) (option_or (leftover_rule w l) (option_or (admission_rule w l) (option_or (load_rule w l) (start_rule w l))))))) id from to e
    by false e = absurd cc

load_admitted : (w : World) (l : Ledger) (id : Id) (from to : ℕ) → may_load w l id from to ≡ true → is_admitted l id ≡ true
load_admitted w l id from to h = by (admitted_of l id) refl h
  where
    by : (o : Option Admitted) → admitted_of l id ≡ o → option_map_or (may_load_of w l id from to) o false ≡ true → is_admitted l id ≡ true
    by None e k = absurd cc
    by (Some a) e k = let two = find_in (λ (x : Admitted). id_eq x.id id) a l.admitted e in any_from (λ (x : Admitted). id_eq x.id id) a l.admitted two.0 two.1

-- what is known of the message
pub record IsToRead (l : Ledger) (id : Id) (m : Message) : Type 0 where
  pub message : IsActiveMessage l id m
  pub settled : unmarked_logged m ≡ []

pub load_speaks : (w : World) (l : Ledger) (id : Id) (from to : ℕ) → IsConsistent w l → next w l ≡ Some (entries.Load id from to) → (m : Message) × IsToRead l id m
load_speaks w l id from to c h =
    let admitted : is_admitted l id ≡ true = load_admitted w l id from to (next_decided w l (entries.Load id from to) c h).0 in
    let active = admitted_active w l id c admitted in
    let found = found_admitted w l id c admitted in
    let remembered = c.memory.remembered found.0 active.0 found.1 (subst (λ (i : Id). message_of l.book i ≡ Some active.0) (sym found.2) active.1.there) in
    (active.0, record { message = active.1; settled = remembered.logged ∙ ap (λ (us : List Unsettled). logged_of active.0 (slice_get us 0)) (unsettled_none w l id from to h) })

-- ---- what is pending has no mark in the file

pending_one : (a b : Bool) (n : ℕ) (us ps fs : List ℕ) → (us ≡ [] → ps ≡ fs) → (if not a && b then n ∷ us else us) ≡ [] → (if not (a || b) then n ∷ ps else ps) ≡ (if not a then n ∷ fs else fs)
pending_one true b n us ps fs rest h = rest h
pending_one false true n us ps fs rest h = absurd cc
pending_one false false n us ps fs rest h = ap (λ (xs : List ℕ). n ∷ xs) (rest h)

pending_places : (logged : ℕ → Bool) (n : ℕ) (rs : List Recipient) → places_from n (λ i r. not (is_marked r.mark) && logged i) rs ≡ []
    → places_from n (λ i r. not (is_marked r.mark || logged i)) rs ≡ places_from n (λ i r. not (is_marked r.mark)) rs
pending_places logged n [] h = refl
pending_places logged n (r ∷ rs) h =
    pending_one (is_marked r.mark) (logged n) n (places_from (n + 1) (λ i r. not (is_marked r.mark) && logged i) rs) (places_from (n + 1) (λ i r. not (is_marked r.mark || logged i)) rs) (places_from (n + 1) (λ i r. not (is_marked r.mark)) rs)
    (pending_places logged (n + 1) rs) h

pending_is : (m : Message) → unmarked_logged m ≡ [] → pending m ≡ unmarked_from (file_message m) 0
pending_is m h = pending_places (is_logged m) 0 m.recipients h ∙ sym (places_mapped (λ i (r : FileRecipient). not r.marked) file_recipient 0 m.recipients)

pending_open : (m : Message) (from : ℕ) → unmarked_logged m ≡ [] → pending_from m from ≡ open_from (file_message m) from
pending_open m from h = ap (filter (nat_le from)) (pending_is m h)

same_address : (m : Message) (p : ℕ) → address_in (file_message m) p ≡ address_at m p
same_address m p = ap (λ (o : Option FileRecipient). option_map_or (λ r. r.address) o []) (slice_get-map file_recipient m.recipients p) ∙ by (slice_get m.recipients p)
  where
    by : (o : Option Recipient) → option_map_or (λ (r : FileRecipient). r.address) (option_map file_recipient o) [] ≡ option_map_or (λ (r : Recipient). r.address) o []
    by None = refl
    by (Some r) = refl

-- ---- a load takes the first of what is pending, as many as there is room for

dropped_one : (p : ℕ) (few : List ℕ) (b : Bool) → b ≡ false → few ≡ [] → cond b (p ∷ few) few ≡ []
dropped_one p few false e h = h
dropped_one p few true e h = absurd cc

none_kept : (test : ℕ → Bool) (xs : List ℕ) → ((p : ℕ) → IsIn p xs → test p ≡ false) → filter test xs ≡ []
none_kept test [] h = refl
none_kept test (x ∷ xs) h = dropped_one x (filter test xs) (test x) (h x (inl refl)) (none_kept test xs (λ p k. h p (inr k)))

with_first : (p : ℕ) (few xs : List ℕ) (b : Bool) → b ≡ true → few ≡ xs → cond b (p ∷ few) few ≡ p ∷ xs
with_first p few xs true e h = ap (λ (ps : List ℕ). p ∷ ps) h
with_first p few xs false e h = absurd cc

first_is : (x p : ℕ) (xs : List ℕ) → slice_get (x ∷ xs) 0 ≡ Some p → x ≡ p
first_is x p xs h = cc

up_to : (xs : List ℕ) (j p : ℕ) → IsRising xs → slice_get xs j ≡ Some p → filter (λ q. nat_lt q (p + 1)) xs ≡ take (suc j) xs
up_to [] j p rising h = absurd cc
up_to (x ∷ xs) zero p rising h =
    let same : x ≡ p = first_is x p xs h in
    with_first x (filter (λ q. nat_lt q (p + 1)) xs) [] (nat_lt x (p + 1)) (lt-ltb x (p + 1) (omega (arith, same)))
    (none_kept (λ q. nat_lt q (p + 1)) xs (λ q k. let more : x < q = rising.0 q k in le-ltb q (p + 1) (omega (arith, more, same))))
up_to (x ∷ xs) (suc j) p rising h =
    let more : x < p = rising.0 p (got_in p xs j h) in
    with_first x (filter (λ q. nat_lt q (p + 1)) xs) (take (suc j) xs) (nat_lt x (p + 1)) (lt-ltb x (p + 1) (omega (arith, more))) (up_to xs j p rising.1 h)

got_past : {A : Type 0} (xs : List A) (i : ℕ) → slice_get xs i ≡ None → length xs ≤ i
got_past [] i h = omega arith
got_past (x ∷ xs) zero h = absurd cc
got_past (x ∷ xs) (suc i) h = let rest : length xs ≤ i = got_past xs i h in omega (arith, rest)

first_few : (xs : List ℕ) (max n : ℕ) → IsRising xs → ((p : ℕ) → IsIn p xs → p < n) → 1 ≤ max → filter (λ q. nat_lt q (option_map_or (λ p. p + 1) (slice_get xs (max - 1)) n)) xs ≡ take max xs
first_few xs max n rising within some = by (slice_get xs (max - 1)) refl
  where
    by : (o : Option ℕ) → slice_get xs (max - 1) ≡ o → filter (λ q. nat_lt q (option_map_or (λ p. p + 1) o n)) xs ≡ take max xs
    by None e = all_kept (λ q. nat_lt q n) xs (λ p k. lt-ltb p n (within p k)) ∙ sym (take_all max xs (omega (arith, got_past xs (max - 1) e)))
    by (Some p) e = let all : suc (max - 1) ≡ max = omega (arith, some) in up_to xs (max - 1) p rising e ∙ ap (λ (k : ℕ). take k xs) all

load_takes : (m : Message) (from max : ℕ) → 1 ≤ max → load_positions m from (load_end m from max) ≡ take max (pending_from m from)
load_takes m from max some = first_few (pending_from m from) max (length m.recipients) (pending_rising m from) (λ p k. (pending_in m from p k).1) some

-- ---- what was read is what the load takes

positions_taken : (m : FileMessage) (ps : List ℕ) → map (λ t. t.position) (map (taken_at m) ps) ≡ ps
positions_taken m [] = refl
positions_taken m (p ∷ ps) = ap (λ (xs : List ℕ). p ∷ xs) (positions_taken m ps)

sites_taken : (route : List ℕ → Site) (m : Message) (ps : List ℕ) → map (λ t. route t.address) (map (taken_at (file_message m)) ps) ≡ map (λ p. route (address_at m p)) ps
sites_taken route m [] = refl
sites_taken route m (p ∷ ps) = ap (λ (s : Site). s ∷ map (λ t. route t.address) (map (taken_at (file_message m)) ps)) (ap route (same_address m p)) ∙ ap (λ (ss : List Site). route (address_at m p) ∷ ss) (sites_taken route m ps)

none_taken : (t : Taken) → Some t ≡ None → ⊥
none_taken t h = cc

same_taken : (t u : Taken) → Some t ≡ Some u → t ≡ u
same_taken t u h = cc

module _ (w : World) (l : Ledger) (id : Id) (m : Message) (engine : Engine) (from max to : ℕ) (taken : List Taken) (h : IsToRead l id m) (read : IsReadUpTo (file_message m) from max taken to) where
  these : take max (open_from (file_message m) from) ≡ load_positions m from (load_end m from max)
  these = ap (take max) (sym (pending_open m from h.settled)) ∙ sym (load_takes m from max read.some)

  pub ends : to ≡ load_end m from max
  ends = read.end ∙ ap (λ (n : ℕ). option_map_or (λ p. p + 1) (slice_get (open_from (file_message m) from) (max - 1)) n) (length-map m.recipients file_recipient) ∙ ap (λ (ps : List ℕ). option_map_or (λ p. p + 1) (slice_get ps (max - 1)) (length m.recipients)) (sym (pending_open m from h.settled))

  pub taken_are : taken ≡ map (taken_at (file_message m)) (load_positions m from to)
  taken_are = read.taken_are ∙ ap (map (taken_at (file_message m))) (these ∙ ap (load_positions m from) (sym ends))

  -- each stands within the message, with its mark where the recipient says
  pub marks_are : (i : ℕ) (t : Taken) → slice_get taken i ≡ Some t → IsMarkAt m t.position t.mark_at
  marks_are i t here = by (slice_get (load_positions m from to) i) refl
    where
      by : (o : Option ℕ) → slice_get (load_positions m from to) i ≡ o → IsMarkAt m t.position t.mark_at
      by o e = of o e (sym here ∙ ap (λ (ts : List Taken). slice_get ts i) taken_are ∙ slice_get-map (taken_at (file_message m)) (load_positions m from to) i ∙ ap (option_map (taken_at (file_message m))) e)
        where
          of : (o : Option ℕ) → slice_get (load_positions m from to) i ≡ o → Some t ≡ option_map (taken_at (file_message m)) o → IsMarkAt m t.position t.mark_at
          of None e is = absurd (none_taken t is)
          of (Some p) e is = subst (λ (x : Taken). IsMarkAt m x.position x.mark_at) (same_taken (taken_at (file_message m) p) t (sym is)) (record {
            here = (pending_in m from p (in_filtered (λ q. nat_lt q to) p (pending_from m from) (got_in p (load_positions m from to) i e)).0).1;
            offset = refl;
          })

  pub reads_are : w.table ≡ table_of engine.table → ReadsAre w l (sites_of engine taken) id from to taken
  reads_are table = record {
    message = m;
    there = h.message.there;
    positions = ap (map (λ t. t.position)) taken_are ∙ positions_taken (file_message m) (load_positions m from to);
    sites =
        ap (λ (t : Table). map (λ x. t.route x.address) taken) (sym table)
        ∙ ap (map (λ x. w.table.route x.address)) taken_are
        ∙ sites_taken w.table.route m (load_positions m from to);
  }

-- ---- the file

pub file_reads : (v : View) (b : Book) (id : Id) (m : Message) (s : Spot) → HostStands v b → IsFileAt b id m s → (bytes : List ℕ) × (v.files s.area s.name ≡ Some bytes) × (queue_file bytes ≡ Some (file_message m))
file_reads v b id m s h file =
    let old = Stands-message v.files b id m h.reads file.found in (
      old.0.bytes,
      ap (λ (t : Spot). v.files t.area t.name) file.spot ∙ sym (ap (file_at v.files m.place) old.1) ∙ old.0.there,
      ap queue_file old.0.reads.written ∙ queue_file_again (file_message m) old.0.reads.marks old.0.reads.lawful old.0.reads.agree,
    )

-- it is a queue file
pub file_whole : (o : Option (List ℕ)) (bytes : List ℕ) (m : FileMessage) → o ≡ Some bytes → queue_file bytes ≡ Some m → IfSome o (λ bytes. queue_file bytes ≡ None) → ⊥
file_whole None bytes m e r h = absurd cc
file_whole (Some x) bytes m e r h = let same : x ≡ bytes = cc in by (sym (ap queue_file same ∙ r) ∙ h)
  where
    by : Some m ≡ None → ⊥
    by k = cc

pub read_of : (o : Option (List ℕ)) (bytes : List ℕ) (m : FileMessage) (from max to : ℕ) (taken : List Taken) → o ≡ Some bytes → queue_file bytes ≡ Some m → IfSome o (AreRead from max taken to) → IsReadUpTo m from max taken to
read_of None bytes m from max to taken e r h = absurd cc
read_of (Some x) bytes m from max to taken e r h = let same : x ≡ bytes = cc in subst (λ (y : Option FileMessage). IfSome y (λ k. IsReadUpTo k from max taken to)) (ap queue_file same ∙ r) h

-- what is told of the file at the spot, of its bytes
pub told_of : (o : Option (List ℕ)) (bytes : List ℕ) (P : List ℕ → Type 0) → o ≡ Some bytes → IfSome o P → P bytes
told_of None bytes P e h = absurd cc
told_of (Some x) bytes P e h = let same : x ≡ bytes = cc in subst P same h

pub told_at : (o : Option (List ℕ)) (bytes : List ℕ) (P : List ℕ → Type 0) → o ≡ Some bytes → P bytes → IfSome o P
told_at o bytes P e h = subst (λ (x : Option (List ℕ)). IfSome x P) (sym e) h
