-- What is kept of places stays true over entries, reads and what is put in.
use Rattle.std.proofs.Common.{◌≡◌, ◌∙◌, ◌≤◌, ℕ, true, false, length, List, Option, Some, None, ⊎_elim, refl, sym, ap, subst, slice_get}
use Rattle.std.specs.Option.{IfSome, option_and_then, option_copied, option_map}
use Rattle.std.proofs.lemmas.List.{length-map}
use denote.Ref.{Bor}
use Rattle.std.specs.BTreeMap.{get}
use Rattle.std.specs.Ordering.{nat_cmp}
use Rattle.q_model.specs.declared.entry.Entry.{Entry}
use Rattle.q_model.specs.declared.entry.Entry.TheVariants as entries
use Rattle.q_model.specs.declared.id.Id.{Id}
use Rattle.q_model.proofs.IdLaws.{id_eq-true}
use Rattle.q_model.specs.Book.{Book, message_of}
use Rattle.q_model.specs.FilesStand.{file_recipient, file_message}
use Rattle.q_model.specs.Ledger.{Ledger}
use Rattle.q_model.specs.Message.{Message}
use Rattle.q_model.specs.QueueFile.{FileMessage, queue_file}
use Rattle.q_model.specs.Settings.{World}
use Rattle.q_model.specs.Step.{after}
use Rattle.q_model.specs.Values.{Taken}
use Rattle.q_books.specs.Spots.{IsMarkAt}
use Rattle.q_laws.specs.Consistency.{IsConsistent}
use Rattle.q_lives.specs.Standing.{is_remove_of}
use Rattle.q_lives.proofs.AsArrived.{after_like}
use Rattle.q_message.specs.Pending.{cursor_at}
use Rattle.q_places.specs.Kept.{IsFewer, IsPutIn, kept_file, kept_mark, kept_progress}
use Rattle.q_places.specs.declared.places.KeptFile.{KeptFile}
use Rattle.q_places.specs.declared.places.Places.{Places}
use Rattle.q_places.specs.declared.places.Progress.{Progress}
use Rattle.q_engine.specs.KeptPlaces.{ArePlaced, HasProgress, IsReadTo, OfMessage}
use Rattle.q_engine.proofs.Layouts.{same_mark_at, same_progress}

pub same_some : {A : Type 0} (x y : A) → Some x ≡ Some y → x ≡ y
same_some x y h = cc

-- an id has one message
pub of_message : (b : Book) (id : Id) (m : Message) (P : Message → Type 0) → message_of b id ≡ Some m → OfMessage b id P → P m
of_message b id m P there h = subst P (same_some h.0 m (sym h.1 ∙ there)) h.2

pub none_some : {A : Type 0} (x : A) → None ≡ Some x → ⊥
none_some x h = cc

no_mark : (places : Places) (id : Id) (position at : ℕ) → kept_file places id ≡ None → kept_mark places id position ≡ Some at → ⊥
no_mark places id position at none k = none_some at (sym (ap (λ (o : Option KeptFile). option_and_then (λ f. get nat_cmp f.marks position) o) none) ∙ k)

no_progress : (places : Places) (id : Id) (p : Progress) → kept_file places id ≡ None → kept_progress places id ≡ Some p → ⊥
no_progress places id p none k = none_some p (sym (ap (λ (o : Option KeptFile). option_map (λ f. f.progress) o) none) ∙ k)

-- nothing is kept
pub placed_none : (places : Places) (b : Book) → ((id : Id) → kept_file places id ≡ None) → ArePlaced places b
placed_none places b h = record {
  marks = λ id position at k. absurd (no_mark places id position at (h id) k);
  progress = λ id p k. absurd (no_progress places id p (h id) k);
}

-- less is kept
pub placed_fewer : (old new : Places) (b : Book) → IsFewer old new → ArePlaced old b → ArePlaced new b
placed_fewer old new b less h = record {
  marks = λ id position at k. h.marks id position at (less.marks id position at k);
  progress = λ id p k. h.progress id p (less.progress id p k);
}

-- nothing is kept of a message that the entry removes
abbrev pub KeepsOthers : Places → Entry → Type 0
KeepsOthers places e = (id : Id) → is_remove_of id e ≡ true → kept_file places id ≡ None

-- one message is removed, of which nothing is kept
pub removed_alone : (places : Places) (id : Id) → kept_file places id ≡ None → KeepsOthers places (entries.Remove id)
removed_alone places id none i gone = ap (kept_file places) (sym (id_eq-true id i gone)) ∙ none

pub none_leave : (places : Places) (e : Entry) → ((id : Id) → is_remove_of id e ≡ false) → KeepsOthers places e
none_leave places e stays id gone = let bad : true ≡ false = sym gone ∙ stays id in absurd cc

-- an entry changes no message but its marks, its failures and its place
pub placed_after : (w : World) (l : Ledger) (e : Entry) (places : Places) → IsConsistent w l → KeepsOthers places e → ArePlaced places l.book → ArePlaced places (after w l e).book
placed_after w l e places c gone h = record {
  marks = λ id position at k.
      let (m, there, is) = h.marks id position at k in
      ⊎_elim (λ removed. absurd (no_mark places id position at (gone id removed) k)) (λ like. (like.0, like.1, same_mark_at m like.0 position at like.2 is)) (after_like w l e id m c there);
  progress = λ id p k.
      let (m, there, is) = h.progress id p k in
      ⊎_elim (λ removed. absurd (no_progress places id p (gone id removed) k)) (λ like. (like.0, like.1, same_progress m like.0 p like.2 is)) (after_like w l e id m c there);
}

-- more is kept of one message
pub placed_more : (old new : Places) (b : Book) (id : Id) (m : Message) (read : Progress) (taken : List Taken) → message_of b id ≡ Some m → IsReadTo read m
    → ((i : ℕ) (t : Taken) → slice_get taken i ≡ Some t → IsMarkAt m t.position t.mark_at) → IsPutIn id read taken old new → ArePlaced old b → ArePlaced new b
placed_more old new b id m read taken there is each put h = record {
  marks = λ i position at k. ⊎_elim (λ was. h.marks i position at was) (λ new.
      let t = new.1 in
      let mark : IsMarkAt m position at = subst (λ (n : ℕ). IsMarkAt m n at) t.same_position (subst (λ (n : ℕ). IsMarkAt m t.recipient.position n) t.same_offset (each t.index t.recipient t.here)) in
      subst (λ (j : Id). OfMessage b j (λ x. IsMarkAt x position at)) (sym new.0) (m, there, mark)) (put.marks i position at k);
  progress = λ i p k. ⊎_elim (λ was. h.progress i p was) (λ new.
      subst (λ (j : Id). OfMessage b j (IsReadTo p)) (sym new.0) (m, there, subst (λ (q : Progress). IsReadTo q m) (sym new.1) is)) (put.progress i p k);
}

-- the same, of a message as its file says it
record IsRead (p : Progress) (m : FileMessage) : Type 0 where
  count : p.recipients ≡ length m.recipients
  place : p.next ≡ cursor_at m p.next.position
  within : p.next.position ≤ length m.recipients

-- what holds of the bytes of a message's file holds of the message
pub read_to : (p : Progress) (m : Message) (bytes : List ℕ) → queue_file bytes ≡ Some (file_message m) → HasProgress p bytes → IsReadTo p m
read_to p m bytes reads h =
    let same : h.message ≡ file_message m = same_some h.message (file_message m) (sym h.reads ∙ reads) in
    let by = subst (λ (x : FileMessage). IsRead p x) same (record { count = h.count; place = h.place; within = h.within }) in
    record {
      count = by.count ∙ length-map m.recipients file_recipient;
      place = by.place;
      within = subst (λ (n : ℕ). p.next.position ≤ n) (length-map m.recipients file_recipient) by.within;
    }

-- and the other way round
pub progress_of : (p : Progress) (m : Message) (bytes : List ℕ) → queue_file bytes ≡ Some (file_message m) → IsReadTo p m → HasProgress p bytes
progress_of p m bytes reads h = record {
  message = file_message m;
  reads = reads;
  count = h.count ∙ sym (length-map m.recipients file_recipient);
  place = h.place;
  within = subst (λ (n : ℕ). p.next.position ≤ n) (sym (length-map m.recipients file_recipient)) h.within;
}

-- what holds of what is kept holds of what was asked for
pub each_copied : {X : Type 0} (o : Option (Bor X)) (P : X → Type 0) → ((x : X) → option_copied o ≡ Some x → P x) → IfSome o (λ r. P r.now)
each_copied None P h = tt
each_copied (Some r) P h = h r.now refl
