-- A message that stands keeps its sender, its recipients and its content until it is removed.
use Rattle.std.proofs.Common.{◌≡◌, ℕ, ◌+◌, Bool, true, false, cond, List, [], ◌∷◌, find, map, replicate, Option, Some, None, option_map, ◌⊎◌, inl, inr, refl, sym, ap, ◌∙◌, subst, if◌then◌else◌}
use Rattle.std.proofs.lemmas.Option.{same_Some}
use Rattle.std.specs.List.{enumerate_from}
use Rattle.std.specs.Option.{option_map_or}
use Rattle.std.specs.Prelude.{◌==◌, length, nat_le, slice_get}
use Rattle.q_laws.proofs.Added.{still_found}
use Rattle.q_laws.proofs.Distinct.{id_cases, id_eq-sym}
use Rattle.q_laws.proofs.InPlace.{changed, changed_name}
use Rattle.q_laws.proofs.Mapped.{find_mapped}
use Rattle.q_laws.proofs.Moved.{move_to, other_left}
use Rattle.q_laws.specs.Consistency.{IsConsistent}
use Rattle.q_lives.proofs.Books.{after_is}
use Rattle.q_lives.proofs.Caused.{at_alike, load_alike, trigger_alike}
use Rattle.q_lives.proofs.Standing.{reply_book, with_outcomes_book}
use Rattle.q_lives.specs.Lives.{IsEnd, IsLeftBy}
use Rattle.q_lives.proofs.ToolSteps.{StepsKeep, worked_keeps}
use Rattle.q_lives.specs.Tools.{cut_step}
use Rattle.q_model.specs.ToolSteps.{ToolStep, after_step, fails, given_up, moves}
use Rattle.q_model.specs.CutOff.{cut_off, loosened}
use Rattle.q_lives.specs.Standing.{IsAsArrived, is_remove_of}
use Rattle.q_model.specs.Arrivals.{arrived}
use Rattle.q_model.specs.Book.{Book, message_of}
use Rattle.q_model.specs.BookChanges.{add_message, change_message, remove_message}
use Rattle.q_model.specs.Crashes.{EachTo, IsCrashOf, MessageAfter, RecipientAfter}
use Rattle.q_model.specs.Deliveries.{flight_of}
use Rattle.q_model.specs.Ids.{id_eq}
use Rattle.q_model.specs.Ledger.{Ledger}
use Rattle.q_model.specs.Lives.{firm_failures}
use Rattle.q_model.specs.Logs.{with_failure}
use Rattle.q_model.specs.Marking.{mark_one, with_mark}
use Rattle.q_model.specs.Marks.{sync_mark}
use Rattle.q_model.specs.Message.{Message, Recipient, receiver_of}
use Rattle.q_model.specs.Notices.{bounce_message}
use Rattle.q_model.specs.Settings.{World}
use Rattle.q_model.specs.Skips.{unqueued}
use Rattle.q_model.specs.Step.{after, change}
use Rattle.q_model.specs.Syncs.{sync_all}
use Rattle.q_model.specs.declared.entry.Entry.{Entry}
use Rattle.q_model.specs.declared.id.Id.{Id}
use Rattle.q_model.specs.declared.event.Mode.{Mode}
use Rattle.q_model.specs.declared.rows.Place.{Place}
use Rattle.q_model.specs.declared.entry.Entry.TheVariants as entries
use Rattle.q_model.specs.declared.outcome.Outcome.TheVariants as outcomes
use Rattle.q_model.specs.declared.rows.Mark.TheVariants as marks
use Rattle.q_model.specs.declared.rows.Place.TheVariants as places
use Rattle.q_model.specs.Values.{Receiver}

abbrev receivers : List Recipient → List Receiver
receivers rs = map receiver_of rs

-- the second message has the sender, the arrival, the recipients and the content of the first, and a file of
-- the same version
pub record IsLike (m n : Message) : Type 0 where
  pub version : n.version ≡ m.version
  pub sender : n.sender ≡ m.sender
  pub arrival : n.arrival ≡ m.arrival
  pub recipients : receivers n.recipients ≡ receivers m.recipients
  pub content : n.content ≡ m.content

pub like_arrived : (m n : Message) (sender : Option (List ℕ)) (to : List Receiver) (content : List ℕ) → IsLike m n → IsAsArrived m sender to content → IsAsArrived n sender to content
like_arrived m n sender to content a h = record { same_sender = a.sender ∙ h.same_sender; same_recipients = a.recipients ∙ h.same_recipients; same_content = a.content ∙ h.same_content }

like_itself : (m : Message) → IsLike m m
like_itself m = record { version = refl; sender = refl; arrival = refl; recipients = refl; content = refl }

-- a message like it stands
abbrev pub HasLike : Message → Book → Id → Type 0
HasLike m b id = (n : Message) × (message_of b id ≡ Some n) × IsLike m n

-- ---- changes of a message

marked_receivers : (q n : ℕ) (rs : List Recipient) → receivers (map (mark_one q) (enumerate_from n rs)) ≡ receivers rs
marked_receivers q n [] = refl
marked_receivers q n (r ∷ rs) = ap (λ (a : Receiver). a ∷ receivers (map (mark_one q) (enumerate_from (n + 1) rs))) (one (n == q)) ∙ ap (λ (xs : List Receiver). receiver_of r ∷ xs) (marked_receivers q (n + 1) rs)
  where
    one : (b : Bool) → receiver_of (if b then record r { mark = marks.Written } else r) ≡ receiver_of r
    one true = refl
    one false = refl

synced_receivers : (rs : List Recipient) → receivers (map (λ (r : Recipient). record r { mark = sync_mark r.mark }) rs) ≡ receivers rs
synced_receivers [] = refl
synced_receivers (r ∷ rs) = ap (λ (xs : List Receiver). receiver_of r ∷ xs) (synced_receivers rs)

crashed_one : (old new : Recipient) → RecipientAfter old new → receiver_of new ≡ receiver_of old
crashed_one old new h = ap (λ (a : List ℕ). the (record { address = a; original = new.original })) h.address ∙ ap (λ (o : Option (List ℕ)). the (record { address = old.address; original = o })) h.original
  where
    the : Receiver → Receiver
    the r = r

crashed_receivers : (olds news : List Recipient) → EachTo RecipientAfter olds news → receivers news ≡ receivers olds
crashed_receivers [] [] h = refl
crashed_receivers [] (n ∷ ns) h = absurd h
crashed_receivers (o ∷ os) [] h = absurd h
crashed_receivers (o ∷ os) (n ∷ ns) h = ap (λ (a : Receiver). a ∷ receivers ns) (crashed_one o n h.0) ∙ ap (λ (xs : List Receiver). receiver_of o ∷ xs) (crashed_receivers os ns h.1)

-- ---- changes of a book

same_like : (b c : Book) (id : Id) (m : Message) → c ≡ b → message_of b id ≡ Some m → HasLike m c id
same_like b c id m same h = (m, ap (λ (x : Book). message_of x id) same ∙ h, like_itself m)

changed_like : (b : Book) (i : Id) (f : Message → Message) (id : Id) (m : Message) → ((x : Message) → (f x).id ≡ x.id) → IsLike m (f m) → message_of b id ≡ Some m → HasLike m (change_message b i f) id
changed_like b i f id m name like h = (changed i f m, find_mapped (changed i f) (changed_name i f name) id b.messages ∙ ap (option_map (changed i f)) h, on (id_eq m.id i))
  where
    on : (t : Bool) → IsLike m (if t then f m else m)
    on true = like
    on false = like_itself m

firm_like : (b c : Book) (id : Id) (m : Message) → c.messages ≡ map firm_failures b.messages → message_of b id ≡ Some m → HasLike m c id
firm_like b c id m same h = (
  firm_failures m,
  ap (λ (ms : List Message). find (λ (x : Message). id_eq x.id id) ms) same ∙ find_mapped firm_failures (λ x. refl) id b.messages ∙ ap (option_map firm_failures) h,
  record { version = refl; sender = refl; arrival = refl; recipients = refl; content = refl },
)

bounce_like : (l : Ledger) (id : Id) (m : Message) (o : Option Message) → message_of l.book id ≡ Some m → HasLike m (option_map_or (λ (x : Message). record l { book = add_message l.book (bounce_message l.now x) }) o l).book id
bounce_like l id m None h = (m, h, like_itself m)
bounce_like l id m (Some x) h = (m, still_found l.book (bounce_message l.now x) id m h, like_itself m)

-- ---- entries

-- the message is removed, or one like it stands
abbrev pub StaysLike : Message → Id → Entry → Book → Type 0
StaysLike m id e b = (is_remove_of id e ≡ true) ⊎ HasLike m b id

moved_like : (l : Ledger) (i : Id) (place : Place) (id : Id) (m : Message) (e : Entry) → message_of l.book id ≡ Some m → StaysLike m id e (change_message l.book i (move_to place))
moved_like l i place id m e h = inr (changed_like l.book i (move_to place) id m (λ x. refl) (record { version = refl; sender = refl; arrival = refl; recipients = refl; content = refl }) h)

remove_like : (w : World) (l : Ledger) (i id : Id) (m : Message) → IsConsistent w l → message_of l.book id ≡ Some m → StaysLike m id (entries.Remove i) (remove_message l.book i)
remove_like w l i id m c h = elim (id_cases i id) [
  | inl same ↦ inl same.1
  | inr other ↦ inr (m, other_left l.book i id c.book.distinct (id_eq-sym i id other) ∙ h, like_itself m)
]

change_like : (w : World) (l : Ledger) (e : Entry) (id : Id) (m : Message) → IsConsistent w l → message_of l.book id ≡ Some m → StaysLike m id e (change w l e).book
change_like w l (entries.Life generation mode) id m c h = inr (firm_like l.book (change w l (entries.Life generation mode)).book id m refl h)
change_like w l (entries.At t) id m c h = inr (same_like l.book (change w l (entries.At t)).book id m (at_alike w l t (nat_le l.next_run t)).book h)
change_like w l (entries.Arrive i sender to content) id m c h = inr (m, still_found l.book (arrived l i sender to content) id m h, like_itself m)
change_like w l (entries.Back i) id m c h = moved_like l i places.Incoming id m (entries.Back i) h
change_like w l (entries.Admit i) id m c h = moved_like l i places.Active id m (entries.Admit i) h
change_like w l (entries.Load i from to) id m c h = inr (same_like l.book (change w l (entries.Load i from to)).book id m (load_alike w l i from to (message_of l.book i)).book h)
change_like w l (entries.Start number i site ps) id m c h = inr (m, h, like_itself m)
change_like w l (entries.Preempt child parent transport need) id m c h = inr (m, h, like_itself m)
change_like w l (entries.Reply number state os) id m c h = inr (same_like l.book (change w l (entries.Reply number state os)).book id m (reply_book w l state os (flight_of l number)) h)
change_like w l (entries.Skip i site ps) id m c h = inr (same_like l.book (change w l (entries.Skip i site ps)).book id m (with_outcomes_book w (unqueued l i site ps) ps (replicate (length ps) (outcomes.Later 0)) (message_of l.book i)) h)
change_like w l (entries.Log i f) id m c h = inr (changed_like l.book i (with_failure f) id m (λ x. refl) (record { version = refl; sender = refl; arrival = refl; recipients = refl; content = refl }) h)
change_like w l (entries.Mark i q) id m c h = inr (changed_like l.book i (with_mark q) id m (λ x. refl) (record { version = refl; sender = refl; arrival = refl; recipients = marked_receivers q 0 m.recipients; content = refl }) h)
change_like w l (entries.Sync i) id m c h = inr (changed_like l.book i sync_all id m (λ x. refl) (record { version = refl; sender = refl; arrival = refl; recipients = synced_receivers m.recipients; content = refl }) h)
change_like w l (entries.Defer i due) id m c h = moved_like l i (places.Deferred due) id m (entries.Defer i due) h
change_like w l (entries.Bounce i) id m c h = inr (bounce_like l id m (message_of l.book i) h)
change_like w l (entries.Remove i) id m c h = remove_like w l i id m c h
change_like w l (entries.Corrupt i) id m c h = inr (m, h, like_itself m)
change_like w l (entries.Trigger kind) id m c h = inr (same_like l.book (change w l (entries.Trigger kind)).book id m (trigger_alike w l kind).book h)
change_like w l entries.End id m c h = inr (m, h, like_itself m)

pub after_like : (w : World) (l : Ledger) (e : Entry) (id : Id) (m : Message) → IsConsistent w l → message_of l.book id ≡ Some m → StaysLike m id e (after w l e).book
after_like w l e id m c h = subst (StaysLike m id e) (sym (after_is w l e).book) (change_like w l e id m c h)

pub life_like : (w : World) (l : Ledger) (generation : ℕ) (mode : Mode) (id : Id) (m : Message) → message_of l.book id ≡ Some m → HasLike m (after w l (entries.Life generation mode)).book id
life_like w l generation mode id m h = subst (λ b. HasLike m b id) (sym (after_is w l (entries.Life generation mode)).book) (firm_like l.book (change w l (entries.Life generation mode)).book id m refl h)

-- ---- what a life leaves

cut_like : (e : Entry) (b : Book) (id : Id) (m : Message) → message_of b id ≡ Some m → HasLike m (cut_off e b) id
cut_like (entries.Log i failure) b id m h = changed_like b i loosened id m (λ x. refl) (record { version = refl; sender = refl; arrival = refl; recipients = refl; content = refl }) h
cut_like (entries.Life generation mode) b id m h = (m, h, like_itself m)
cut_like (entries.At t) b id m h = (m, h, like_itself m)
cut_like (entries.Arrive i sender to content) b id m h = (m, h, like_itself m)
cut_like (entries.Back i) b id m h = (m, h, like_itself m)
cut_like (entries.Admit i) b id m h = (m, h, like_itself m)
cut_like (entries.Load i from to) b id m h = (m, h, like_itself m)
cut_like (entries.Start number i site positions) b id m h = (m, h, like_itself m)
cut_like (entries.Preempt child parent transport need) b id m h = (m, h, like_itself m)
cut_like (entries.Reply number state outcomes) b id m h = (m, h, like_itself m)
cut_like (entries.Skip i site positions) b id m h = (m, h, like_itself m)
cut_like (entries.Mark i position) b id m h = (m, h, like_itself m)
cut_like (entries.Sync i) b id m h = (m, h, like_itself m)
cut_like (entries.Defer i due) b id m h = (m, h, like_itself m)
cut_like (entries.Bounce i) b id m h = (m, h, like_itself m)
cut_like (entries.Remove i) b id m h = (m, h, like_itself m)
cut_like (entries.Corrupt i) b id m h = (m, h, like_itself m)
cut_like (entries.Trigger kind) b id m h = (m, h, like_itself m)
cut_like entries.End b id m h = (m, h, like_itself m)

cut_on : (b : Book) (o : Option Entry) (id : Id) (m : Message) → message_of b id ≡ Some m → HasLike m (option_map_or (λ e. cut_off e b) o b) id
cut_on b None id m h = (m, h, like_itself m)
cut_on b (Some e) id m h = cut_like e b id m h

crash_found : (olds news : List Message) (id : Id) (m : Message) → EachTo MessageAfter olds news → find (λ (x : Message). id_eq x.id id) olds ≡ Some m → (n : Message) × (find (λ (x : Message). id_eq x.id id) news ≡ Some n) × MessageAfter m n
crash_found [] [] id m h e = absurd cc
crash_found [] (x ∷ ns) id m h e = absurd h
crash_found (o ∷ os) [] id m h e = absurd h
crash_found (o ∷ os) (x ∷ ns) id m h e = on (id_eq x.id id) (id_eq o.id id) (ap (λ (i : Id). id_eq i id) (sym h.0.id)) (crash_found os ns id m h.1) e
  where
    on : (t u : Bool) → u ≡ t → (find (λ (y : Message). id_eq y.id id) os ≡ Some m → (n : Message) × (find (λ (y : Message). id_eq y.id id) ns ≡ Some n) × MessageAfter m n) →
        cond u (Some o) (find (λ (y : Message). id_eq y.id id) os) ≡ Some m → (n : Message) × (cond t (Some x) (find (λ (y : Message). id_eq y.id id) ns) ≡ Some n) × MessageAfter m n
    on true true same rest k = (x, refl, subst (λ y. MessageAfter y x) (same_Some o m k) h.0)
    on false false same rest k = rest k
    on true false same rest k = absurd cc
    on false true same rest k = absurd cc

crash_like : (b c : Book) (id : Id) (m : Message) → IsCrashOf b c → message_of b id ≡ Some m → HasLike m c id
crash_like b c id m h there =
    let one = crash_found b.messages c.messages id m h.messages there in
    (one.0, one.1, record { version = one.2.version; sender = one.2.sender; arrival = one.2.arrival; recipients = crashed_receivers m.recipients one.0.recipients one.2.recipients; content = one.2.content })

like_both : (m n x : Message) → IsLike m n → IsLike n x → IsLike m x
like_both m n x a b = record { version = b.version ∙ a.version; sender = b.sender ∙ a.sender; arrival = b.arrival ∙ a.arrival; recipients = b.recipients ∙ a.recipients; content = b.content ∙ a.content }

-- messages of a book stand in another as they are
abbrev StandAlike : Book → Book → Type 0
StandAlike b c = (id : Id) (m : Message) → message_of b id ≡ Some m → HasLike m c id

step_like : (b : Book) (s : ToolStep) → StandAlike b (after_step b s)
step_like b (moves i place) = λ id m h. changed_like b i (move_to place) id m (λ x. refl) (record { version = refl; sender = refl; arrival = refl; recipients = refl; content = refl }) h
step_like b (fails i position) = λ id m h. changed_like b i (with_failure (given_up position)) id m (λ x. refl) (record { version = refl; sender = refl; arrival = refl; recipients = refl; content = refl }) h

cut_step_like : (b : Book) (s : ToolStep) → StandAlike b (cut_step b s)
cut_step_like b (moves i place) = λ id m h. (m, h, like_itself m)
cut_step_like b (fails i position) = λ id m h. changed_like b i loosened id m (λ x. refl) (record { version = refl; sender = refl; arrival = refl; recipients = refl; content = refl }) h

alike_keep : StepsKeep StandAlike
alike_keep = record {
  same = λ b id m h. (m, h, like_itself m);
  join = λ a b c h k id m there.
      let one = h id m there in
      let two = k id one.0 one.1 in
      (two.0, two.1, like_both m one.0 two.0 one.2 two.2);
  step = step_like;
  cut = cut_step_like;
}

pub left_like : (l : Ledger) (steps : List ToolStep) (left : Book) (id : Id) (m : Message) → IsLeftBy l steps left → message_of l.book id ≡ Some m → HasLike m left id
left_like l steps left id m h there =
    let one = end h.ends in
    let two = worked_keeps StandAlike alike_keep l steps left h id one.0 one.1 in
    let three = after_crash two.0 two.1 h.leaves in
    (three.0, three.1, like_both m one.0 three.0 one.2 (like_both one.0 two.0 three.0 two.2 three.2))
  where
    end : IsEnd l h.end → HasLike m h.end id
    end (inl e) = subst (λ b. HasLike m b id) (sym e) (m, there, like_itself m)
    end (inr e) = subst (λ b. HasLike m b id) (sym e) (cut_on l.book (slice_get l.past 0) id m there)

    after_crash : (n : Message) → message_of h.worked id ≡ Some n → (left ≡ h.worked) ⊎ IsCrashOf h.worked left → HasLike n left id
    after_crash n k (inl e) = subst (λ b. HasLike n b id) (sym e) (n, k, like_itself n)
    after_crash n k (inr crash) = crash_like h.worked left id n crash k
