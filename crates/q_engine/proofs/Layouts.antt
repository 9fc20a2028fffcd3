-- Where things stand in a message's file, which no mark changes.
use Rattle.std.proofs.Common.{◌≡◌, ◌∙◌, ◌+◌, ◌<◌, ◌≤◌, ℕ, zero, suc, false, List, [], ◌∷◌, length, map, take, slice_get, Option, refl, sym, ap, subst}
use Rattle.std.specs.Option.{option_map_or}
use Rattle.std.specs.Prelude.{sum_by, unwrap_or}
use Rattle.std.proofs.lemmas.List.{length-map}
use Rattle.std.proofs.lemmas.List.Sums.{sum_by-cons}
use Rattle.q_model.specs.declared.file_head.Cursor.{Cursor}
use Rattle.q_model.specs.FilesStand.{file_message, file_recipient}
use Rattle.q_model.specs.Message.{Message, receiver_of, Recipient}
use Rattle.q_model.specs.QueueFile.{FileRecipient}
use Rattle.q_model.specs.QueueFileBytes.{before_mark, content_at, original_size, recipient_at, recipient_size}
use Rattle.q_model.specs.Values.{Receiver}
use Rattle.q_books.specs.Spots.{IsMarkAt}
use Rattle.q_lives.proofs.AsArrived.{IsLike}
use Rattle.q_message.specs.Pending.{cursor_at}
use Rattle.q_places.specs.declared.places.Progress.{Progress}
use Rattle.q_engine.specs.KeptPlaces.{IsReadTo}

abbrev receivers : List Recipient → List Receiver
receivers rs = map receiver_of rs

-- how many bytes the records of a recipient have, and how many stand before that with its mark
abbrev size_of : ℕ → Receiver → ℕ
size_of version r = recipient_size version (record { address = r.address; original = r.original; marked = false })

abbrev before_of : ℕ → List Receiver → ℕ → ℕ
before_of version to position = option_map_or (λ (r : Receiver). original_size version r.original) (slice_get to position) 0

-- the offset of a recipient, by version, sender and addresses
abbrev offset_by : ℕ → Option (List ℕ) → List Receiver → ℕ → ℕ
offset_by version sender to position = 35 + length (unwrap_or sender []) + sum_by (size_of version) (take position to)

sizes_by : (version i : ℕ) (rs : List Recipient) → sum_by (recipient_size version) (take i (map file_recipient rs)) ≡ sum_by (size_of version) (take i (receivers rs))
sizes_by version zero rs = refl
sizes_by version (suc i) [] = refl
sizes_by version (suc i) (r ∷ rs) =
    sum_by-cons (recipient_size version) (file_recipient r) (take i (map file_recipient rs))
    ∙ ap (λ (n : ℕ). size_of version (receiver_of r) + n) (sizes_by version i rs)
    ∙ sym (sum_by-cons (size_of version) (receiver_of r) (take i (receivers rs)))

before_by : (version i : ℕ) (rs : List Recipient) → option_map_or (λ (r : FileRecipient). original_size version r.original) (slice_get (map file_recipient rs) i) 0 ≡ before_of version (receivers rs) i
before_by version zero [] = refl
before_by version (suc i) [] = refl
before_by version zero (r ∷ rs) = refl
before_by version (suc i) (r ∷ rs) = before_by version i rs

offset_is : (m : Message) (i : ℕ) → recipient_at (file_message m) i ≡ offset_by m.version m.sender (receivers m.recipients) i
offset_is m i = ap (λ (n : ℕ). 35 + length (unwrap_or m.sender []) + n) (sizes_by m.version i m.recipients)

same_offset : (m n : Message) (i : ℕ) → IsLike m n → recipient_at (file_message n) i ≡ recipient_at (file_message m) i
same_offset m n i h =
    offset_is n i
    ∙ ap (λ (v : ℕ). offset_by v n.sender (receivers n.recipients) i) h.version
    ∙ ap (λ (s : Option (List ℕ)). offset_by m.version s (receivers n.recipients) i) h.sender
    ∙ ap (λ (to : List Receiver). offset_by m.version m.sender to i) h.recipients
    ∙ sym (offset_is m i)

same_before : (m n : Message) (i : ℕ) → IsLike m n → before_mark (file_message n) i ≡ before_mark (file_message m) i
same_before m n i h =
    before_by n.version i n.recipients
    ∙ ap (λ (v : ℕ). before_of v (receivers n.recipients) i) h.version
    ∙ ap (λ (to : List Receiver). before_of m.version to i) h.recipients
    ∙ sym (before_by m.version i m.recipients)

same_count : (m n : Message) → IsLike m n → length n.recipients ≡ length m.recipients
same_count m n h = sym (length-map n.recipients receiver_of) ∙ ap length h.recipients ∙ length-map m.recipients receiver_of

-- the offset of a mark stays
pub same_mark_at : (m n : Message) (position at : ℕ) → IsLike m n → IsMarkAt m position at → IsMarkAt n position at
same_mark_at m n position at h is = record {
  here = subst (λ (k : ℕ). position < k) (sym (same_count m n h)) is.here;
  offset = is.offset ∙ ap (λ (k : ℕ). k + before_mark (file_message m) position + 5) (sym (same_offset m n position h))
      ∙ ap (λ (k : ℕ). recipient_at (file_message n) position + k + 5) (sym (same_before m n position h));
}

-- and that of the content
pub same_content_at : (m n : Message) → IsLike m n → content_at (file_message n) ≡ content_at (file_message m)
same_content_at m n h =
    let count = length-map n.recipients file_recipient ∙ same_count m n h ∙ sym (length-map m.recipients file_recipient) in
    ap (λ (k : ℕ). k + 5) (same_offset m n (length (map file_recipient n.recipients)) h ∙ ap (recipient_at (file_message m)) count)

same_cursor : (m n : Message) (position : ℕ) → IsLike m n → cursor_at (file_message n) position ≡ cursor_at (file_message m) position
same_cursor m n position h = ap (λ (k : ℕ). cursor_of position k) (same_offset m n position h)
  where
    cursor_of : ℕ → ℕ → Cursor
    cursor_of position k = record { position = position; at = k }

-- how far a message was read stays
pub same_progress : (m n : Message) (p : Progress) → IsLike m n → IsReadTo p m → IsReadTo p n
same_progress m n p h is = record {
  count = is.count ∙ sym (same_count m n h);
  place = is.place ∙ sym (same_cursor m n p.next.position h);
  within = subst (λ (k : ℕ). p.next.position ≤ k) (sym (same_count m n h)) is.within;
}
