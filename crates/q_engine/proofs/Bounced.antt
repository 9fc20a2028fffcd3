-- A bounce: its message is the one of the entry, and its id is new.
use Rattle.std.proofs.Common.{◌≡◌, ◌&&◌, ◌∙◌, ◌∷◌, [], ap, false, inr, List, None, not, Option, refl, Some, subst, sym, true, ℕ}
use Rattle.std.specs.Option.{IfSome, IsSome, option_map_or}
use Rattle.std.specs.Prelude.{Err, is_none, Ok, OnErr, OnOk, Result, unwrap_or}
use Rattle.std.proofs.lemmas.Bool.{and_parts, not-true}
use Rattle.q_model.specs.declared.entry.Entry.TheVariants as entries
use Rattle.q_model.specs.declared.id.Id.{Id}
use Rattle.q_model.specs.declared.rows.Place.TheVariants as places
use Rattle.q_model.specs.Book.{Book, message_of, stands}
use Rattle.q_model.specs.BookChanges.{add_message}
use Rattle.q_model.specs.Finishing.{has_bounce, is_at_rest, is_done, wants_bounce}
use Rattle.q_model.specs.FilesStand.{file_message}
use Rattle.q_model.specs.Ids.{bounce_of}
use Rattle.q_model.specs.IdTexts.{id_text, IsId}
use Rattle.q_model.specs.declared.spot.Area.TheVariants as areas
use Rattle.q_model.specs.Ledger.{Ledger}
use Rattle.q_model.specs.Lists.{has_none}
use Rattle.q_model.specs.Message.{Message, new_recipient}
use Rattle.q_model.specs.Next.{next}
use Rattle.q_model.specs.Notices.{bounce_message, notice}
use Rattle.q_model.specs.Places.{is_active}
use Rattle.q_model.specs.Settings.{World}
use Rattle.q_model.specs.SpoolFiles.{file_at, Files}
use Rattle.q_model.specs.Step.{change}
use Rattle.q_model.specs.Values.{FileHead, Head, Receiver, Spot}
use Rattle.q_model.proofs.StandChanges.{Stands-message}
use Rattle.q_host.specs.View.{View}
use Rattle.q_laws.specs.Consistency.{IsConsistent}
use Rattle.q_laws.proofs.Arrived.{bounce_addable}
use Rattle.q_laws.proofs.Books.{message_in}
use Rattle.q_laws.proofs.Decisions.{next_decided}
use Rattle.q_laws.proofs.Synced.{IsActiveMessage}
use Rattle.q_books.specs.HostStands.{HostStands, Takes, TellsCrashes, Tries}
use Rattle.q_books.proofs.Joining.{reads_keep}
use Rattle.q_host.specs.Calls.{Stays}
use Rattle.q_books.specs.Spots.{IsFileAt, spot_of}
use Rattle.q_core.specs.declared.decision.Decision.TheVariants as decisions
use Rattle.q_files.specs.Submissions.{AddsMessage, submitted}
use Rattle.q_message.specs.FileHeads.{IsHead}
use Rattle.q_message.specs.Told.{bytes_at}
use Rattle.q_engine.specs.BounceTexts.{AddsBounce, IsNoBounce, TellsNotice}
use Rattle.q_engine.proofs.Unread.{not_unread}
use Rattle.q_model.specs.QueueFile.{new_version, queue_file}
use Rattle.q_engine.specs.Stands.{HasDecided}
use Rattle.q_engine.specs.declared.engine.Engine.{Engine}
use Rattle.q_engine.proofs.ContentFronts.{head_is}
use Rattle.q_engine.proofs.Mails.{not_standing}
use Rattle.q_engine.proofs.Speaking.{file_there, in_active}

-- the head that was read has the sender of the message
pub sender_read : (v : View) (b : Book) (id : Id) (m : Message) (s : Spot) (head : FileHead) → HostStands v b → IsFileAt b id m s → IfSome (bytes_at v s) (IsHead head) → m.sender ≡ head.head.sender
sender_read v b id m s head h file reading =
    let old = Stands-message v.files b id m h.reads file.found in
    let bytes = old.0.bytes in
    let there : bytes_at v s ≡ Some bytes = ap (λ (t : Spot). v.files t.area t.name) file.spot ∙ sym (ap (file_at v.files m.place) old.1) ∙ old.0.there in
    ap (λ (x : FileHead). x.head.sender) (head_is bytes head (file_message m) (subst (λ (o : Option (List ℕ)). IfSome o (IsHead head)) there reading) old.0.reads)

-- a recipient by its address alone
abbrev pub plain : List ℕ → Receiver
plain address = record { address = address; original = None }

abbrev stored : Id → ℕ → List ℕ → List ℕ → Message
stored id arrival content address = record {
  id = bounce_of id;
  version = new_version;
  sender = None;
  arrival = arrival;
  content = content;
  recipients = new_recipient (plain address) ∷ [];
  failures = [];
  place = places.Incoming;
}

-- the message that is stored is the bounce
bounce_is : (m : Message) (id : Id) (arrival : ℕ) (sender text : List ℕ) → m.id ≡ id → m.sender ≡ Some sender → text ≡ notice m → bounce_message arrival m ≡ submitted (bounce_of id) (record { sender = None; arrival = arrival }) (plain sender ∷ []) text
bounce_is m id arrival sender text same has is =
    ap (λ (i : Id). stored i arrival (notice m) (unwrap_or m.sender [])) same
    ∙ ap (λ (c : List ℕ). stored id arrival c (unwrap_or m.sender [])) (sym is)
    ∙ ap (λ (o : Option (List ℕ)). stored id arrival text (unwrap_or o [])) has

-- what is submitted is the bounce of the message
pub bounce_adds : (v : View) (files : Files) (b k : Book) (s : Spot) (id : Id) (arrival : ℕ) (head : FileHead) (sender text : List ℕ) → files ≡ v.files → HostStands v b → IfSome (bytes_at v s) (IsHead head) → head.head.sender ≡ Some sender
    → TellsNotice v s id sender text → AddsBounce v.files s id arrival b k → AddsMessage files (bounce_of id) (record { sender = None; arrival = arrival }) (plain sender ∷ []) text b k
bounce_adds v files b k s id arrival head sender text same h reading some tells adds =
    let m = adds.message in
    let has : m.sender ≡ Some sender = sender_read v b id m s head h adds.file reading ∙ some in
    record {
      form = adds.form;
      fresh = adds.fresh;
      no_log = ap (λ (f : Files). f areas.Bounce (id_text (bounce_of id))) same ∙ adds.no_log;
      changed = adds.changed ∙ ap (add_message b) (bounce_is m id arrival sender text (message_in b id m adds.file.found).1 has (tells b m h adds.file has));
    }

-- ---- the entry

record IsBounced (l : Ledger) (id : Id) : Type 0 where
  message : Message
  active : IsActiveMessage l id message
  done : is_done message ≡ true
  alone : message.id.bounce ≡ false
  unsaid : has_bounce l id ≡ false
  asked : is_none message.sender ≡ false

bounced : (l : Ledger) (id : Id) (o : Option Message) → message_of l.book id ≡ o → option_map_or (λ (m : Message). is_active m.place && is_at_rest l id && is_done m && wants_bounce m && not (has_bounce l id)) o false ≡ true → IsBounced l id
bounced l id None e h = absurd cc
bounced l id (Some m) e h =
    let four = and_parts (is_active m.place && is_at_rest l id && is_done m && wants_bounce m) (not (has_bounce l id)) h in
    let three = and_parts (is_active m.place && is_at_rest l id && is_done m) (wants_bounce m) four.0 in
    let two = and_parts (is_active m.place && is_at_rest l id) (is_done m) three.0 in
    record {
      message = m;
      active = record { there = e; active = (and_parts (is_active m.place) (is_at_rest l id) two.0).0 };
      done = two.1;
      alone = not-true m.id.bounce (and_parts (not (has_none m.failures) && not (is_none m.sender)) (not m.id.bounce) three.1).1;
      unsaid = not-true (has_bounce l id) four.1;
      asked = not-true (is_none m.sender) (and_parts (not (has_none m.failures)) (not (is_none m.sender)) (and_parts (not (has_none m.failures) && not (is_none m.sender)) (not m.id.bounce) three.1).0).1;
    }

bounce_speaks : (w : World) (l : Ledger) (id : Id) → IsConsistent w l → next w l ≡ Some (entries.Bounce id) → IsBounced l id
bounce_speaks w l id c h = bounced l id (message_of l.book id) refl (next_decided w l (entries.Bounce id) c h).0

module _ (w : World) (l : Ledger) (id : Id) (engine : Engine) (v : View) (h : HasDecided w l (decisions.Bounce id) (entries.Bounce id) engine v) (s : Spot) (is : s ≡ spot_of places.Active id) where
  pub bounce_changes : (arrival : ℕ) → arrival ≡ l.now → AddsBounce v.files s id arrival l.book (change w l (entries.Bounce id)).book
  bounce_changes arrival at =
      let one = bounce_speaks w l id h.was.consistent h.following in
      let m = one.message in
      let same : m.id ≡ id = (message_in l.book id m one.active.there).1 in
      let old = Stands-message v.files l.book id m h.host.reads one.active.there in
      let i : IsId id = subst (λ (x : Id). IsId x) old.1 old.0.id in
      let form : IsId (bounce_of id) = record { generation = i.generation; generation_fits = i.generation_fits; serial = i.serial; serial_fits = i.serial_fits } in
      let new = (bounce_addable l m h.was.consistent.book (ap (message_of l.book) same ∙ one.active.there) one.active.active one.done one.alone (ap (has_bounce l) same ∙ one.unsaid)).new in
      let fresh : stands l.book (bounce_of id) ≡ false = subst (λ (x : Id). stands l.book (bounce_of x) ≡ false) same (not_standing l.book (bounce_of m.id) new) in
      record {
        message = m;
        file = in_active l id m one.active s is;
        asked = one.asked;
        form = form;
        fresh = fresh;
        no_log = h.logs (bounce_of id) form fresh;
        changed = ap (λ (o : Option Message). (option_map_or (λ (x : Message). record l { book = add_message l.book (bounce_message l.now x) }) o l).book) one.active.there ∙ ap (λ (t : ℕ). add_message l.book (bounce_message t m)) (sym at);
      }

  -- its file is there
  pub bounce_there : IsSome (v.files s.area s.name)
  bounce_there = let one = bounce_speaks w l id h.was.consistent h.following in file_there v l.book id one.message s h.host (in_active l id one.message one.active s is)

-- ---- where there is none to be made

-- the file can't be read
pub unread_bounce : (v : View) (s : Spot) (id : Id) (arrival : ℕ) → IfSome (bytes_at v s) (λ bytes. queue_file bytes ≡ None) → IsNoBounce v s id arrival
unread_bounce v s id arrival none b k h adds = not_unread v b id adds.message s h adds.file none

-- it says no sender
pub unsent_bounce : (v : View) (s : Spot) (id : Id) (arrival : ℕ) (head : FileHead) → IfSome (bytes_at v s) (IsHead head) → head.head.sender ≡ None → IsNoBounce v s id arrival
unsent_bounce v s id arrival head reading none b k h adds =
    let bad : false ≡ true = sym adds.asked ∙ ap is_none (sender_read v b id adds.message s head h adds.file reading ∙ none) in
    cc

-- ---- the calls

-- the same by other names of the id, the list and the content
pub adds_by : (f : Files) (i j : Id) (head : Head) (to list : List Receiver) (content bytes : List ℕ) (b k : Book) → j ≡ i → list ≡ to → bytes ≡ content → AddsMessage f i head to content b k → AddsMessage f j head list bytes b k
adds_by f i j head to list content bytes b k same listed is h =
    subst (λ (x : Id). AddsMessage f x head list bytes b k) (sym same)
    (subst (λ (x : List Receiver). AddsMessage f i head x bytes b k) (sym listed)
    (subst (λ (x : List ℕ). AddsMessage f i head to x b k) (sym is) h))

-- a call that was carried out was tried
pub tried : (b k : Book) (v w : View) → Takes b k v w → Tries b k v w
tried b k v w h = record { told = h.told; stands = inr h.stands; moments = h.moments }

-- what follows from both answers
pub either_way : {T E P Q Z : Type 0} (r : Result T E) → OnOk r P → OnErr r Q → (P → Z) → (Q → Z) → Z
either_way (Ok v) p q f g = f p
either_way (Err e) p q f g = g q

-- a notice that was told of the files behind a read is told of those before it
pub notice_before : (v w : View) (s : Spot) (id : Id) (sender text : List ℕ) → TellsCrashes v → Stays v w → TellsNotice w s id sender text → TellsNotice v s id sender text
notice_before v w s id sender text lawful same tells b m h file has = tells b m (reads_keep b b v w lawful same h).stands file has
