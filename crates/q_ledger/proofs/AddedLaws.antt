-- A message comes into incoming: one that arrives, or a bounce.
use Rattle.std.proofs.Common.{◌≡◌, ℕ, Bool, true, false, cond, not, List, [], ◌∷◌, ◌++◌, map, filter, length, Option, Some, None, refl, sym, ap, ◌∙◌, subst}
use Rattle.std.proofs.lemmas.Bool.{and_parts}
use Rattle.std.proofs.lemmas.List.{map-append}
use Rattle.std.specs.Option.{option_map_or}
use Rattle.std.specs.Prelude.{◌&&◌, ◌==◌, is_none, option_and_then, unwrap_or}
use Rattle.q_bare.specs.Bare.{bare, bare_message, bare_recipient}
use Rattle.q_bare.specs.Counts.{Counts}
use Rattle.q_laws.proofs.Added.{still_found}
use Rattle.q_laws.proofs.Books.{message_in}
use Rattle.q_laws.proofs.Members.{IsIn, find_in}
use Rattle.q_ledger.proofs.HeldLaws.{held_messages, held_past, held_present}
use Rattle.q_ledger.proofs.QuietLaws.{bare_tidy, left_tidy, tidy_still}
use Rattle.q_ledger.proofs.RecountLaws.{KeepsRows, admitted_stands, counted_still, slot_admitted, unread_same}
use Rattle.q_ledger.specs.Beside.{IsBeside, IsOfLedger, recipients_in}
use Rattle.q_ledger.specs.Changed.{arrived_at, bounce_to, bounced, fresh_recipient, sender_of, with_book}
use Rattle.q_ledger.specs.Slots.{row_of_slot}
use Rattle.q_ledger.specs.State.{State}
use Rattle.q_ledger.specs.Taking.{IsChanged, site_left}
use Rattle.q_model.specs.declared.entry.Entry.{Entry}
use Rattle.q_model.specs.declared.entry.Entry.TheVariants as entries
use Rattle.q_model.specs.declared.id.Id.{Id}
use Rattle.q_model.specs.declared.rows.Admitted.{Admitted}
use Rattle.q_model.specs.Arrivals.{arrived}
use Rattle.q_model.specs.Book.{Damaged, message_of}
use Rattle.q_model.specs.BookChanges.{add_message}
use Rattle.q_model.specs.Bounces.{after_bounce, may_bounce}
use Rattle.q_model.specs.Finishing.{has_bounce, is_at_rest, is_done, wants_bounce}
use Rattle.q_model.specs.Ids.{id_eq}
use Rattle.q_model.specs.Ledger.{Ledger}
use Rattle.q_model.specs.Lists.{has_none}
use Rattle.q_model.specs.Memory.{is_admitted, unread_of}
use Rattle.q_model.specs.Message.{Message, new_recipient, Recipient}
use Rattle.q_model.specs.Notices.{bounce_message}
use Rattle.q_model.specs.Places.{is_active}
use Rattle.q_model.specs.Settings.{World}
use Rattle.q_model.specs.Step.{change}
use Rattle.q_model.specs.Values.{Receiver}

-- ---- a message more that isn't in active

abbrev added : Ledger → Message → Ledger
added b x = record b { book = add_message b.book x }

active_step : (b : Bool) (m : Message) (few all : List Message) → map (λ (y : Message). y.id) few ≡ map (λ (y : Message). y.id) all → map (λ (y : Message). y.id) (cond b (m ∷ few) few) ≡ map (λ (y : Message). y.id) (cond b (m ∷ all) all)
active_step true m few all h = ap (λ (ids : List Id). m.id ∷ ids) h
active_step false m few all h = h

active_added : (x : Message) → is_active x.place ≡ false → (ms : List Message) → map (λ (y : Message). y.id) (filter (λ (y : Message). is_active y.place) (ms ++ x ∷ [])) ≡ map (λ (y : Message). y.id) (filter (λ (y : Message). is_active y.place) ms)
active_added x out [] = ap (λ b. map (λ (y : Message). y.id) (cond b (x ∷ []) [])) out
active_added x out (m ∷ ms) = active_step (is_active m.place) m (filter (λ (y : Message). is_active y.place) (ms ++ x ∷ [])) (filter (λ (y : Message). is_active y.place) ms) (active_added x out ms)

count_added : (b : Ledger) (x : Message) (a : Admitted) → (m : Message) × (message_of b.book a.id ≡ Some m) × (is_active m.place ≡ true) → recipients_in (added b x) a.id ≡ recipients_in b a.id
count_added b x a h = ap (λ (o : Option Message). option_map_or (λ (m : Message). length m.recipients) o 0) (still_found b.book x a.id h.0 h.1 ∙ sym h.1)

pub added_law : (w : World) (c : Counts) (s : State) (e : Entry) (x : Message) → IsOfLedger w c s.ledger → IsBeside s → is_active x.place ≡ false →
    bare (change w s.ledger e) ≡ added s.ledger x → site_left s.ledger e ≡ None → IsChanged w s.ledger e (with_book s (add_message s.ledger.book x))
added_law w c s e x held beside out same left =
    let b = s.ledger in
    let l = added s.ledger x in
    let rows : KeepsRows b l = record { waiting = refl; flights = refl; unsettled = refl; served = refl } in
    let count : (a : Admitted) → IsIn a b.admitted → recipients_in l a.id ≡ recipients_in b a.id = λ a inside. count_added b x a (admitted_stands b a (held_present w c b held) inside) in
    let unread : (id : Id) → not (unread_of b id == 0) ≡ true → not (unread_of l id == 0) ≡ true =
    λ id some. ap (λ n. not (n == 0)) (unread_same b l id refl (λ a there. count a (find_in (λ (y : Admitted). id_eq y.id id) a b.admitted there).0)) ∙ some in
    record {
      ledger = left_tidy (change w b e) l same (tidy_still b l (bare_tidy w c b held) refl refl refl unread);
      counted = record {
        admitted = beside.counted.admitted;
        slots = counted_still s l s.slots rows beside.counted (λ y inside. (inside, count (row_of_slot y) (slot_admitted s beside.counted y inside)));
      };
      leftovers = beside.leftovers
          ∙ ap (λ (ids : List Id). filter (λ id. not (is_admitted b id)) (ids ++ map (λ (d : Damaged). d.id) (filter (λ (d : Damaged). is_active d.place) b.book.damaged))) (sym (active_added x out b.book.messages));
      left = beside.left ∙ sym left;
    }

-- what is bare of it
add_bare : (b : Ledger) (m x : Message) → map bare_message b.book.messages ≡ b.book.messages → [] ≡ b.past → bare_message m ≡ x → bare (added b m) ≡ added b x
add_bare b m x messages past same =
    ap (λ (ms : List Message). record b { book = record b.book { messages = ms }; past = [] })
    (map-append bare_message b.book.messages (m ∷ []) ∙ ap (λ (ms : List Message). ms ++ bare_message m ∷ []) messages ∙ ap (λ (y : Message). b.book.messages ++ y ∷ []) same)
    ∙ ap (λ (es : List Entry). record (added b x) { past = es }) past

-- ---- arrivals

fresh_all : (to : List Receiver) → map bare_recipient (map new_recipient to) ≡ map fresh_recipient to
fresh_all [] = refl
fresh_all (r ∷ rs) = ap (λ (xs : List Recipient). fresh_recipient r ∷ xs) (fresh_all rs)

arrived_bare : (b : Ledger) (id : Id) (sender : Option (List ℕ)) (to : List Receiver) (content : List ℕ) → bare_message (arrived b id sender to content) ≡ arrived_at b.now id sender to
arrived_bare b id sender to content = ap (λ (rs : List Recipient). record (arrived_at b.now id sender to) { recipients = rs }) (fresh_all to)

pub arrive_law : (w : World) (c : Counts) (s : State) (id : Id) (sender : Option (List ℕ)) (to : List Receiver) (content : List ℕ) → IsOfLedger w c s.ledger → IsBeside s →
    IsChanged w s.ledger (entries.Arrive id sender to content) (with_book s (add_message s.ledger.book (arrived_at s.ledger.now id sender to)))
arrive_law w c s id sender to content held beside =
    let b = s.ledger in
    added_law w c s (entries.Arrive id sender to content) (arrived_at b.now id sender to) held beside refl
    (add_bare b (arrived b id sender to content) (arrived_at b.now id sender to) (held_messages w c b held) (held_past w c b held) (arrived_bare b id sender to content)) refl

-- ---- bounces

bounce_bare : (now : ℕ) (id : Id) (m : Message) (a : List ℕ) → m.id ≡ id → m.sender ≡ Some a → bare_message (bounce_message now m) ≡ bounce_to now id a
bounce_bare now id m a name sender = ap (λ (o : Option (List ℕ)). bounce_to now m.id (unwrap_or o [])) sender ∙ ap (λ (i : Id). bounce_to now i a) name

has_sender : (m : Message) → wants_bounce m ≡ true → (a : List ℕ) × (m.sender ≡ Some a)
has_sender m wants =
    let two = and_parts (not (has_none m.failures) && not (is_none m.sender)) (not m.id.bounce) wants in
    on m.sender refl (and_parts (not (has_none m.failures)) (not (is_none m.sender)) two.0).1
  where
    on : (o : Option (List ℕ)) → m.sender ≡ o → not (is_none o) ≡ true → (a : List ℕ) × (m.sender ≡ Some a)
    on None e h = absurd cc
    on (Some a) e h = (a, e)

-- the message is there, and has a sender
caused : (b : Ledger) (id : Id) → may_bounce b id ≡ true → (m : Message) × (message_of b.book id ≡ Some m) × (wants_bounce m ≡ true)
caused b id may = on (message_of b.book id) refl may
  where
    on : (o : Option Message) → message_of b.book id ≡ o → option_map_or (λ (m : Message). is_active m.place && is_at_rest b id && is_done m && wants_bounce m && not (has_bounce b id)) o false ≡ true → (m : Message) × (message_of b.book id ≡ Some m) × (wants_bounce m ≡ true)
    on None e h = absurd cc
    on (Some m) e h =
        let two = and_parts (is_active m.place && is_at_rest b id && is_done m && wants_bounce m) (not (has_bounce b id)) h in
        (m, e, (and_parts (is_active m.place && is_at_rest b id && is_done m) (wants_bounce m) two.0).1)

pub bounce_law : (w : World) (c : Counts) (s : State) (id : Id) → IsOfLedger w c s.ledger → IsBeside s → may_bounce s.ledger id ≡ true → IsChanged w s.ledger (entries.Bounce id) (bounced id s)
bounce_law w c s id held beside may =
    let b = s.ledger in
    let cause = caused b id may in
    let m = cause.0 in
    let sender = has_sender m cause.2 in
    let x = bounce_to b.now id sender.0 in
    let found : sender_of b id ≡ Some sender.0 = ap (option_and_then (λ (y : Message). y.sender)) cause.1 ∙ sender.1 in
    let stands : bounced id s ≡ with_book s (add_message b.book x) = ap (λ (o : Option (List ℕ)). option_map_or (λ a. with_book s (add_message b.book (bounce_to b.now id a))) o s) found in
    let same : bare (after_bounce b id) ≡ added b x =
    ap (λ (o : Option Message). bare (option_map_or (λ (y : Message). added b (bounce_message b.now y)) o b)) cause.1
    ∙ add_bare b (bounce_message b.now m) x (held_messages w c b held) (held_past w c b held) (bounce_bare b.now id m sender.0 (message_in b.book id m cause.1).1 sender.1) in
    subst (IsChanged w b (entries.Bounce id)) (sym stands) (added_law w c s (entries.Bounce id) x held beside refl same refl)
