-- The recipients of a file are read one after another, and those whose mark isn't set are taken.
use Rattle.std.proofs.Common.{◌≡◌, ℕ, zero, suc, ◌+◌, ◌-◌, ◌*◌, ◌<◌, ◌≤◌, Bool, true, false, not, if◌then◌else◌, List, [], ◌∷◌, ◌++◌, length, map, take, drop, slice_get, sum_by, Option, Some, None, refl, sym, ap, subst, ◌∙◌, arith, add-one, append_assoc, append-nil}
use Rattle.std.specs.Option.{IfSome, IsSome, option_map, option_map_or}
use Rattle.std.specs.Prelude.{unwrap_or}
use Rattle.std.proofs.lemmas.List.{drop-drop, length-append, length-drop}
use Rattle.std.proofs.lemmas.List.Sums.{sum_by-cons, sum_by-take-drop}
use Rattle.std.proofs.lemmas.Option.{cond_some}
use Rattle.q_model.specs.Lists.{has_none, places_from}
use Rattle.q_model.specs.QueueFile.{FileMessage, FileRecipient, ◌>>=◌, arrival_of, body_of, counts_of, is_version, queue_file, recipients_at, sender_of, take_recipient}
use Rattle.q_model.specs.QueueFileBytes.{before_mark, first_at, mark_at, original_size, recipient_at, recipient_size}
use Rattle.q_model.specs.declared.file_head.Cursor.{Cursor}
use Rattle.q_model.specs.Values.{FileHead, Taken}
use Rattle.q_model.proofs.RecordLaws.{bind_some, found, map_some}
use Rattle.q_message.specs.FileHeads.{head_of}
use Rattle.q_message.specs.Fronts.{IsFront}
use Rattle.q_message.specs.Windows.{Seen, Shows}
use Rattle.q_message.proofs.RecipientReads.{is_found, version_told}
use Rattle.q_message.proofs.WindowLaws.{recipient_found, version_found}
use Rattle.q_message.specs.Pending.{HasCursor, cursor_at, position_behind, taken_at, taken_from, unmarked_from}
use Rattle.q_message.specs.Readings.{front_recipient, version_at}
use Rattle.q_message.proofs.RecordReads.{arrival_size, counts_size, counts_within, read_leaves, sender_bytes, sender_length, sender_short}

-- ---- where each recipient stands

-- the recipients behind the first
each_more : (version : ℕ) (bytes : List ℕ) (first : FileRecipient) (mid : List ℕ) (others : List FileRecipient) → take_recipient version bytes ≡ found first mid
    → ((i : ℕ) (r : FileRecipient) → slice_get others i ≡ Some r → front_recipient version (drop (sum_by (recipient_size version) (take i others)) mid) ≡ Some r)
    → (i : ℕ) (r : FileRecipient) → slice_get (first ∷ others) i ≡ Some r → front_recipient version (drop (sum_by (recipient_size version) (take i (first ∷ others))) bytes) ≡ Some r
each_more version bytes first mid others reads each zero r is = (is_found version bytes first mid reads).front ∙ is
each_more version bytes first mid others reads each (suc j) r is =
    let behind : mid ≡ drop (recipient_size version first) bytes = (is_found version bytes first mid reads).behind in
    let sum : sum_by (recipient_size version) (take (suc j) (first ∷ others)) ≡ recipient_size version first + sum_by (recipient_size version) (take j others) = sum_by-cons (recipient_size version) first (take j others) in
    ap (λ (k : ℕ). front_recipient version (drop k bytes)) sum
    ∙ ap (front_recipient version) (sym (drop-drop (sum_by (recipient_size version) (take j others)) (recipient_size version first) bytes))
    ∙ ap (λ (xs : List ℕ). front_recipient version (drop (sum_by (recipient_size version) (take j others)) xs)) (sym behind)
    ∙ each j r is

of_some : {A : Type 0} {x y : A} → Some x ≡ Some y → x ≡ y
of_some h = cc

none_some : {A : Type 0} {x : A} → None ≡ Some x → ⊥
none_some h = cc

-- the first of the recipients that are read, and the others
record Splits (version n : ℕ) (bytes : List ℕ) (rs : List FileRecipient) (rest : List ℕ) : Type 0 where
  first : FileRecipient
  mid : List ℕ
  others : List FileRecipient
  reads : take_recipient version bytes ≡ found first mid
  more : recipients_at version n mid ≡ found others rest
  same : first ∷ others ≡ rs

splits : (version n : ℕ) (bytes : List ℕ) (rs : List FileRecipient) (rest : List ℕ) → recipients_at version (suc n) bytes ≡ found rs rest → Splits version n bytes rs rest
splits version n bytes rs rest e =
    let a = bind_some (take_recipient version bytes) (λ (r : FileRecipient × List ℕ). recipients_at version n r.1 >>= λ others. Some (r.0 ∷ others.0, others.1)) (rs, rest) e in
    let b = bind_some (recipients_at version n a.0.1) (λ (others : List FileRecipient × List ℕ). Some (a.0.0 ∷ others.0, others.1)) (rs, rest) a.2 in
    record {
      first = a.0.0;
      mid = a.0.1;
      others = b.0.0;
      reads = a.1;
      more = b.1 ∙ ap (λ (p : List FileRecipient × List ℕ). found b.0.0 p.1) (of_some b.2);
      same = ap (λ (p : List FileRecipient × List ℕ). p.0) (of_some b.2);
    }

each_front : (version n : ℕ) (bytes : List ℕ) (rs : List FileRecipient) (rest : List ℕ) → recipients_at version n bytes ≡ found rs rest → (i : ℕ) (r : FileRecipient) → slice_get rs i ≡ Some r
    → front_recipient version (drop (sum_by (recipient_size version) (take i rs)) bytes) ≡ Some r
each_front version zero bytes rs rest e i r is =
    let none : [] ≡ rs = ap (λ (p : List FileRecipient × List ℕ). p.0) (of_some e) in
    absurd (none_some (ap (λ (xs : List FileRecipient). slice_get xs i) none ∙ is))
each_front version (suc n) bytes rs rest e i r is =
    let h = splits version n bytes rs rest e in
    subst (λ (xs : List FileRecipient). slice_get xs i ≡ Some r → front_recipient version (drop (sum_by (recipient_size version) (take i xs)) bytes) ≡ Some r) h.same
    (each_more version bytes h.first h.mid h.others h.reads (each_front version n h.mid h.others rest h.more) i r) is

sum_bound : (version n : ℕ) (bytes : List ℕ) (rs : List FileRecipient) (rest : List ℕ) → recipients_at version n bytes ≡ found rs rest → sum_by (recipient_size version) rs ≤ 519 * n
sum_bound version zero bytes rs rest e =
    let none : [] ≡ rs = ap (λ (p : List FileRecipient × List ℕ). p.0) (of_some e) in
    let zero : sum_by (recipient_size version) rs ≡ 0 = ap (sum_by (recipient_size version)) (sym none) in
    omega arith
sum_bound version (suc n) bytes rs rest e =
    let h = splits version n bytes rs rest e in
    let one : recipient_size version h.first ≤ 519 = (is_found version bytes h.first h.mid h.reads).few in
    let sum : sum_by (recipient_size version) rs ≡ recipient_size version h.first + sum_by (recipient_size version) h.others = ap (sum_by (recipient_size version)) (sym h.same) ∙ sum_by-cons (recipient_size version) h.first h.others in
    omega (arith, sum, one, sum_bound version n h.mid h.others rest h.more)

count_is : (version n : ℕ) (bytes : List ℕ) (rs : List FileRecipient) (rest : List ℕ) → recipients_at version n bytes ≡ found rs rest → length rs ≡ n
count_is version zero bytes rs rest e = ap (λ (p : List FileRecipient × List ℕ). length p.0) (sym (of_some e))
count_is version (suc n) bytes rs rest e =
    let h = splits version n bytes rs rest e in
    let more : length rs ≡ suc (length h.others) = ap (λ (xs : List FileRecipient). length xs) (sym h.same) in
    omega (arith, more, count_is version n h.mid h.others rest h.more)

-- the records of the recipients begin there
record HasRecords (bytes : List ℕ) (m : FileMessage) : Type 0 where
  count : ℕ
  rest : List ℕ
  reads : recipients_at m.version count (drop (first_at m) bytes) ≡ found m.recipients rest
  version : is_version m.version ≡ true
  some : 1 ≤ count
  few : count ≤ 50000
  near : first_at m ≤ 289

has_records : (bytes : List ℕ) (m : FileMessage) → queue_file bytes ≡ Some m → HasRecords bytes m
unfolding queue_file
has_records bytes m given =
    let c = bind_some _ _ m given in
    let t = bind_some _ _ m c.2 in
    let s = bind_some _ _ m t.2 in
    let r = bind_some _ _ m s.2 in
    let n = bind_some _ _ m r.2 in
    let e = bind_some _ _ m n.2 in
    let g = cond_some {A = FileMessage} (has_none e.0.1) (record { version = c.0.0.version; sender = s.0.0; arrival = t.0.0; content = n.0.0; recipients = r.0.0 }) m e.2 in
    let lc = read_leaves 67 counts_of bytes c.0.0 c.0.1 c.1 in
    let lt = read_leaves 84 arrival_of c.0.1 t.0.0 t.0.1 t.1 in
    let ls = read_leaves 83 sender_of t.0.1 s.0.0 s.0.1 s.1 in
    let ln = read_leaves 78 (body_of c.0.0.content) r.0.1 n.0.0 n.0.1 n.1 in
    let le = read_leaves 69 (body_of 0) n.0.1 e.0.0 e.0.1 e.1 in
    let at_17 : c.0.1 ≡ drop 17 bytes = lc.behind ∙ ap (λ (k : ℕ). drop (5 + k) bytes) (counts_size lc.body c.0.0 lc.means) in
    let at_30 : t.0.1 ≡ drop 30 bytes = lt.behind ∙ ap (λ (k : ℕ). drop (5 + k) c.0.1) (arrival_size lt.body t.0.0 lt.means) ∙ ap (drop 13) at_17 ∙ drop-drop 13 17 bytes in
    let size : length ls.body ≡ length (unwrap_or s.0.0 []) = sender_length ls.body s.0.0 ls.means ∙ sender_bytes s.0.0 in
    let offset : 30 + (5 + length ls.body) ≡ 35 + length (unwrap_or s.0.0 []) = ap (λ (k : ℕ). 30 + (5 + k)) size ∙ regroup (length (unwrap_or s.0.0 [])) in
    let at_first : s.0.1 ≡ drop (35 + length (unwrap_or s.0.0 [])) bytes = ls.behind ∙ ap (drop (5 + length ls.body)) at_30 ∙ drop-drop (5 + length ls.body) 30 bytes ∙ ap (λ (k : ℕ). drop k bytes) offset in
    subst (HasRecords bytes) g.1 (record {
      count = c.0.0.recipients;
      rest = r.0.1;
      reads = ap (recipients_at c.0.0.version c.0.0.recipients) (sym at_first) ∙ r.1;
      version = (counts_within lc.body c.0.0 lc.means).version;
      some = (counts_within lc.body c.0.0 lc.means).some;
      few = (counts_within lc.body c.0.0 lc.means).few;
      near = sum_near (length (unwrap_or s.0.0 [])) (subst (λ (k : ℕ). k ≤ 254) size (sender_short ls.body s.0.0 ls.means));
    })
  where
    regroup : (n : ℕ) → 30 + (5 + n) ≡ 35 + n
    regroup n = omega arith

    sum_near : (n : ℕ) → n ≤ 254 → 35 + n ≤ 289
    sum_near n h = omega arith

-- the offsets of recipients are small numbers
pub recipient_near : (bytes : List ℕ) (m : FileMessage) (i : ℕ) → queue_file bytes ≡ Some m → recipient_at m i ≤ 25950289
recipient_near bytes m i given =
    let h = has_records bytes m given in
    let all = sum_bound m.version h.count (drop (first_at m) bytes) m.recipients h.rest h.reads in
    omega (arith, h.near, h.few, all, sum_by-take-drop (recipient_size m.version) m.recipients i)

pub recipients_few : (bytes : List ℕ) (m : FileMessage) → queue_file bytes ≡ Some m → length m.recipients ≤ 50000
recipients_few bytes m given =
    let h = has_records bytes m given in
    omega (arith, h.few, count_is m.version h.count (drop (first_at m) bytes) m.recipients h.rest h.reads)

pub recipients_some : (bytes : List ℕ) (m : FileMessage) → queue_file bytes ≡ Some m → 1 ≤ length m.recipients
recipients_some bytes m given =
    let h = has_records bytes m given in
    omega (arith, h.some, count_is m.version h.count (drop (first_at m) bytes) m.recipients h.rest h.reads)

-- the records of a recipient stand at its offset
pub recipient_there : (bytes : List ℕ) (m : FileMessage) (i : ℕ) (r : FileRecipient) → queue_file bytes ≡ Some m → slice_get m.recipients i ≡ Some r → front_recipient m.version (drop (recipient_at m i) bytes) ≡ Some r
recipient_there bytes m i r given is =
    let h = has_records bytes m given in
    ap (front_recipient m.version) (sym (drop-drop (sum_by (recipient_size m.version) (take i m.recipients)) (first_at m) bytes))
    ∙ each_front m.version h.count (drop (first_at m) bytes) m.recipients h.rest h.reads i r is

-- they begin as those of the file's version do
pub version_there : (bytes : List ℕ) (m : FileMessage) (i : ℕ) (r : FileRecipient) → queue_file bytes ≡ Some m → slice_get m.recipients i ≡ Some r → version_at (drop (recipient_at m i) bytes) ≡ m.version
version_there bytes m i r given is = version_told m.version (drop (recipient_at m i) bytes) r (has_records bytes m given).version (recipient_there bytes m i r given is)

sum_more : (version : ℕ) (rs : List FileRecipient) (i : ℕ) (r : FileRecipient) → slice_get rs i ≡ Some r → sum_by (recipient_size version) (take (suc i) rs) ≡ sum_by (recipient_size version) (take i rs) + recipient_size version r
sum_more version [] i r is = absurd cc
sum_more version (x ∷ rs) zero r is =
    let same : x ≡ r = cc in
    sum_by-cons (recipient_size version) x [] ∙ ap (λ (y : FileRecipient). recipient_size version y + 0) same ∙ swap (recipient_size version r)
  where
    swap : (n : ℕ) → n + 0 ≡ 0 + n
    swap n = omega arith
sum_more version (x ∷ rs) (suc i) r is =
    omega (arith, sum_by-cons (recipient_size version) x (take (suc i) rs), sum_by-cons (recipient_size version) x (take i rs), sum_more version rs i r is)

-- the next one begins behind it
pub next_at : (m : FileMessage) (i : ℕ) (r : FileRecipient) → slice_get m.recipients i ≡ Some r → recipient_at m (i + 1) ≡ recipient_at m i + recipient_size m.version r
next_at m i r is =
    let sum : sum_by (recipient_size m.version) (take (i + 1) m.recipients) ≡ sum_by (recipient_size m.version) (take i m.recipients) + recipient_size m.version r = ap (λ (k : ℕ). sum_by (recipient_size m.version) (take k m.recipients)) (add-one i) ∙ sum_more m.version m.recipients i r is in
    ap (λ (k : ℕ). first_at m + k) sum ∙ regroup (first_at m) (sum_by (recipient_size m.version) (take i m.recipients)) (recipient_size m.version r)
  where
    regroup : (a b c : ℕ) → a + (b + c) ≡ a + b + c
    regroup a b c = omega arith

-- ---- what is left to take

drop_get : (rs : List FileRecipient) (i : ℕ) (r : FileRecipient) → slice_get rs i ≡ Some r → drop i rs ≡ r ∷ drop (suc i) rs
drop_get [] i r is = absurd cc
drop_get (x ∷ rs) zero r is =
    let same : x ≡ r = cc in
    ap (λ (y : FileRecipient). y ∷ rs) same
drop_get (x ∷ rs) (suc i) r is = drop_get rs i r is

unmarked_step : (m : FileMessage) (pos : ℕ) (r : FileRecipient) → slice_get m.recipients pos ≡ Some r → unmarked_from m pos ≡ (if not r.marked then pos ∷ unmarked_from m (pos + 1) else unmarked_from m (pos + 1))
unmarked_step m pos r is =
    ap (places_from pos (λ i (r : FileRecipient). not r.marked)) (drop_get m.recipients pos r is)
    ∙ ap (λ (k : ℕ). if not r.marked then pos ∷ places_from (pos + 1) (λ i (r : FileRecipient). not r.marked) (drop k m.recipients) else places_from (pos + 1) (λ i (r : FileRecipient). not r.marked) (drop k m.recipients)) (sym (add-one pos))

-- the position behind the last of so many from a position on
abbrev next_left : FileMessage → ℕ → ℕ → ℕ
next_left m pos zero = pos
next_left m pos (suc k) = option_map_or (λ p. p + 1) (slice_get (unmarked_from m pos) k) (length m.recipients)

-- what is taken so far, and what is left, are what is wanted
pub record IsLeft (m : FileMessage) (from max : ℕ) (items : List Taken) (pos : ℕ) : Type 0 where
  pub taken : items ++ map (taken_at m) (take (max - length items) (unmarked_from m pos)) ≡ taken_from m from max
  pub next : next_left m pos (max - length items) ≡ position_behind m from max
  pub few : length items ≤ max

pub left_at_first : (m : FileMessage) (from max : ℕ) → 1 ≤ max → IsLeft m from max [] from
left_at_first m from max some =
    let all : max - length {A = Taken} [] ≡ max = omega arith in
    let one : max - length {A = Taken} [] ≡ suc (max - 1) = omega arith in
    record { taken = ap (λ (n : ℕ). map (taken_at m) (take n (unmarked_from m from))) all; next = ap (next_left m from) one; few = omega arith }

-- a marked one is passed over
pub left_marked : (m : FileMessage) (from max : ℕ) (items : List Taken) (pos : ℕ) (r : FileRecipient) → slice_get m.recipients pos ≡ Some r → r.marked ≡ true → length items < max → IsLeft m from max items pos → IsLeft m from max items (pos + 1)
left_marked m from max items pos r is marked room h =
    let same : unmarked_from m pos ≡ unmarked_from m (pos + 1) = unmarked_step m pos r is ∙ ap (λ (b : Bool). if not b then pos ∷ unmarked_from m (pos + 1) else unmarked_from m (pos + 1)) marked in
    let one : max - length items ≡ suc (max - length items - 1) = omega arith in
    record {
      taken = ap (λ (ps : List ℕ). items ++ map (taken_at m) (take (max - length items) ps)) (sym same) ∙ h.taken;
      next = ap (next_left m (pos + 1)) one ∙ ap (λ (ps : List ℕ). option_map_or (λ p. p + 1) (slice_get ps (max - length items - 1)) (length m.recipients)) (sym same)
          ∙ sym (ap (next_left m pos) one) ∙ h.next;
      few = h.few;
    }

next_step : (m : FileMessage) (pos k : ℕ) (others : List ℕ) → unmarked_from m pos ≡ pos ∷ others → others ≡ unmarked_from m (pos + 1) → next_left m pos (suc k) ≡ next_left m (pos + 1) k
next_step m pos zero others is rest = ap (λ (ps : List ℕ). option_map_or (λ p. p + 1) (slice_get ps 0) (length m.recipients)) is
next_step m pos (suc k) others is rest =
    ap (λ (ps : List ℕ). option_map_or (λ p. p + 1) (slice_get ps (suc k)) (length m.recipients)) is
    ∙ ap (λ (ps : List ℕ). option_map_or (λ p. p + 1) (slice_get ps k) (length m.recipients)) rest

-- one that isn't is taken
pub left_taken : (m : FileMessage) (from max : ℕ) (items : List Taken) (pos : ℕ) (r : FileRecipient) → slice_get m.recipients pos ≡ Some r → r.marked ≡ false → length items < max → IsLeft m from max items pos
    → IsLeft m from max (items ++ taken_at m pos ∷ []) (pos + 1)
left_taken m from max items pos r is unmarked room h =
    let step : unmarked_from m pos ≡ pos ∷ unmarked_from m (pos + 1) = unmarked_step m pos r is ∙ ap (λ (b : Bool). if not b then pos ∷ unmarked_from m (pos + 1) else unmarked_from m (pos + 1)) unmarked in
    let k = max - length items - 1 in
    let one : max - length items ≡ suc (max - length items - 1) = omega arith in
    let len : length (items ++ taken_at m pos ∷ []) ≡ length items + 1 = omega (arith, length-append items (taken_at m pos ∷ [])) in
    let left : max - length (items ++ taken_at m pos ∷ []) ≡ max - length items - 1 = omega (arith, len) in
    record {
      taken = append_assoc items (taken_at m pos ∷ []) (map (taken_at m) (take (max - length (items ++ taken_at m pos ∷ [])) (unmarked_from m (pos + 1))))
          ∙ ap (λ (n : ℕ). items ++ taken_at m pos ∷ map (taken_at m) (take n (unmarked_from m (pos + 1)))) left
          ∙ ap (λ (ps : List ℕ). items ++ map (taken_at m) (take (suc k) ps)) (sym step)
          ∙ ap (λ (n : ℕ). items ++ map (taken_at m) (take n (unmarked_from m pos))) (sym one) ∙ h.taken;
      next = ap (next_left m (pos + 1)) left ∙ sym (next_step m pos k (unmarked_from m (pos + 1)) step refl) ∙ ap (next_left m pos) (sym one) ∙ h.next;
      few = omega (arith, len);
    }

-- so many are taken
pub left_none : (m : FileMessage) (from max : ℕ) (items : List Taken) (pos : ℕ) → max ≤ length items → IsLeft m from max items pos → (items ≡ taken_from m from max) × (pos ≡ position_behind m from max)
left_none m from max items pos full h =
    let none : max - length items ≡ 0 = omega arith in (
      sym (append-nil items) ∙ sym (ap (λ (n : ℕ). items ++ map (taken_at m) (take n (unmarked_from m pos))) none) ∙ h.taken,
      sym (ap (next_left m pos) none) ∙ h.next,
    )

drop_end : (rs : List FileRecipient) → drop (length rs) rs ≡ []
drop_end [] = refl
drop_end (r ∷ rs) = drop_end rs

-- all recipients are passed over
pub left_end : (m : FileMessage) (from max : ℕ) (items : List Taken) (pos : ℕ) → pos ≡ length m.recipients → IsLeft m from max items pos → (items ≡ taken_from m from max) × (pos ≡ position_behind m from max)
left_end m from max items pos end h = by (max - length items) h.taken h.next
  where
    no_more : unmarked_from m pos ≡ []
    no_more = ap (λ (k : ℕ). places_from pos (λ i (r : FileRecipient). not r.marked) (drop k m.recipients)) end ∙ ap (places_from pos (λ i (r : FileRecipient). not r.marked)) (drop_end m.recipients)

    by : (k : ℕ) → items ++ map (taken_at m) (take k (unmarked_from m pos)) ≡ taken_from m from max → next_left m pos k ≡ position_behind m from max → (items ≡ taken_from m from max) × (pos ≡ position_behind m from max)
    by zero taken next = (sym (append-nil items) ∙ taken, next)
    by (suc k) taken next = (
      sym (append-nil items) ∙ sym (ap (λ (ps : List ℕ). items ++ map (taken_at m) (take (suc k) ps)) no_more) ∙ taken,
      end ∙ sym (ap (λ (ps : List ℕ). option_map_or (λ p. p + 1) (slice_get ps k) (length m.recipients)) no_more) ∙ next,
    )

-- ---- what is read in the window

pub record IsReading (bytes : List ℕ) (m : FileMessage) (from max : ℕ) (w : Seen) (items : List Taken) (pos : ℕ) : Type 0 where
  pub shows : Shows bytes w
  pub place : w.at ≡ recipient_at m pos
  pub within : pos ≤ length m.recipients
  pub left : IsLeft m from max items pos

-- the cursor of the file that is there
cursor_of : (o : Option (List ℕ)) (bytes : List ℕ) (count : ℕ) (cursor : Cursor) → IfSome o (λ bytes. HasCursor bytes count cursor) → o ≡ Some bytes → HasCursor bytes count cursor
cursor_of o bytes count cursor h e = subst (λ (o : Option (List ℕ)). IfSome o (λ bytes. HasCursor bytes count cursor)) e h

same_message : (bytes : List ℕ) (m : FileMessage) (count : ℕ) (cursor : Cursor) (h : HasCursor bytes count cursor) → queue_file bytes ≡ Some m → h.message ≡ m
same_message bytes m count cursor h given = of_some (sym h.reads ∙ given)

pub recipients_of : (o : Option (List ℕ)) (bytes : List ℕ) (m : FileMessage) (count : ℕ) (cursor : Cursor) → IfSome o (λ bytes. HasCursor bytes count cursor) → o ≡ Some bytes → queue_file bytes ≡ Some m → count ≡ length m.recipients
recipients_of o bytes m count cursor h e given =
    let k = cursor_of o bytes count cursor h e in
    k.count ∙ ap (λ (x : FileMessage). length x.recipients) (same_message bytes m count cursor k given)

pub nothing_shown : (bytes : List ℕ) (at : ℕ) → Shows bytes (record { at = at; bytes = []; ended = false })
nothing_shown bytes at = record { same = refl; all = λ e. absurd (not_so e) }
  where
    not_so : false ≡ true → ⊥
    not_so e = cc

pub reading_begins : (o : Option (List ℕ)) (bytes : List ℕ) (m : FileMessage) (count : ℕ) (cursor : Cursor) (max : ℕ) (w : Seen) → IfSome o (λ bytes. HasCursor bytes count cursor) → o ≡ Some bytes → queue_file bytes ≡ Some m
    → w ≡ record { at = cursor.at; bytes = []; ended = false } → 1 ≤ max → IsReading bytes m cursor.position max w [] cursor.position
reading_begins o bytes m count cursor max w h e given is some =
    let k = cursor_of o bytes count cursor h e in
    let same = same_message bytes m count cursor k given in
    record {
      shows = subst (Shows bytes) (sym is) (nothing_shown bytes cursor.at);
      place = ap (λ (w : Seen). w.at) is ∙ ap (λ (c : Cursor). c.at) k.place ∙ ap (λ (x : FileMessage). recipient_at x cursor.position) same;
      within = subst (λ (x : FileMessage). cursor.position ≤ length x.recipients) same k.within;
      left = left_at_first m cursor.position max some;
    }

get_there : (rs : List FileRecipient) (i : ℕ) → i < length rs → (r : FileRecipient) × (slice_get rs i ≡ Some r)
get_there [] i h = absurd (omega arith)
get_there (r ∷ rs) zero h = (r, refl)
get_there (r ∷ rs) (suc i) h = get_there rs i (omega arith)

-- the recipient that is found in the window is that of the position
pub record IsSeen (m : FileMessage) (pos : ℕ) (front : List ℕ) : Type 0 where
  pub recipient : FileRecipient
  pub there : slice_get m.recipients pos ≡ Some recipient
  pub version : version_at front ≡ m.version
  pub found : front_recipient (version_at front) front ≡ Some recipient

pub recipient_is : (bytes : List ℕ) (m : FileMessage) (pos at : ℕ) (front : List ℕ) → queue_file bytes ≡ Some m → at ≡ recipient_at m pos → pos < length m.recipients → IsFront front (drop at bytes) → IsSeen m pos front
recipient_is bytes m pos at front given place within h =
    let there = get_there m.recipients pos within in
    let version = version_found front (drop at bytes) h ∙ ap (λ (k : ℕ). version_at (drop k bytes)) place ∙ version_there bytes m pos there.0 given there.1 in
    record {
      recipient = there.0;
      there = there.1;
      version = version;
      found = ap (λ (v : ℕ). front_recipient v front) version ∙ recipient_found m.version front (drop at bytes) h ∙ ap (λ (k : ℕ). front_recipient m.version (drop k bytes)) place
          ∙ recipient_there bytes m pos there.0 given there.1;
    }

pub recipient_missing : (bytes : List ℕ) (m : FileMessage) (pos at : ℕ) (front : List ℕ) → queue_file bytes ≡ Some m → at ≡ recipient_at m pos → pos < length m.recipients → IsFront front (drop at bytes) → front_recipient (version_at front) front ≡ None → ⊥
recipient_missing bytes m pos at front given place within h none =
    let r = recipient_is bytes m pos at front given place within h in
    none_some (sym none ∙ r.found)

-- ---- in answers

abbrev pub taken_with : ℕ → ℕ → List ℕ → Taken
taken_with position mark_at address = record { position = position; mark_at = mark_at; address = address }

abbrev pub cursor_with : ℕ → ℕ → Cursor
cursor_with position at = record { position = position; at = at }

-- the file that is there, with the message that it says
pub told : (o : Option (List ℕ)) (count : ℕ) (cursor : Cursor) → IsSome o → IfSome o (λ bytes. HasCursor bytes count cursor) → (bytes : List ℕ) × (o ≡ Some bytes) × HasCursor bytes count cursor
told None count cursor there h = absurd cc
told (Some bytes) count cursor there h = (bytes, refl, h)

pub each_told : (o : Option (List ℕ)) (P : List ℕ → FileMessage → Type 0) → ((bytes : List ℕ) → o ≡ Some bytes → (m : FileMessage) → queue_file bytes ≡ Some m → P bytes m) → IfSome o (λ bytes. IfSome (queue_file bytes) (P bytes))
each_told None P each = tt
each_told (Some bytes) P each = by (queue_file bytes) refl
  where
    by : (q : Option FileMessage) → queue_file bytes ≡ q → IfSome q (P bytes)
    by None e = tt
    by (Some m) e = each bytes refl m e

-- what was found by the version that the front told
pub front_told : (version : ℕ) (result : Option FileRecipient) (front bytes : List ℕ) → result ≡ front_recipient version front → version ≡ version_at front → front ≡ bytes → result ≡ front_recipient (version_at bytes) bytes
front_told version result front bytes is told same = is ∙ ap (λ (v : ℕ). front_recipient v front) told ∙ ap (λ (xs : List ℕ). front_recipient (version_at xs) xs) same

-- the recipient as it is taken
pub taken_is : (bytes : List ℕ) (m : FileMessage) (pos at mark : ℕ) (r : FileRecipient) → slice_get m.recipients pos ≡ Some r → at ≡ recipient_at m pos → mark ≡ at + original_size m.version r.original + 5
    → taken_with pos mark r.address ≡ taken_at m pos
taken_is bytes m pos at mark r is place marks =
    let size : original_size m.version r.original ≡ before_mark m pos = ap (λ (o : Option FileRecipient). option_map_or (λ (x : FileRecipient). original_size m.version x.original) o 0) (sym is) in
    let mark_is : mark ≡ mark_at m pos = marks ∙ ap (λ (k : ℕ). k + original_size m.version r.original + 5) place ∙ ap (λ (k : ℕ). recipient_at m pos + k + 5) size in
    let address : r.address ≡ option_map_or (λ (x : FileRecipient). x.address) (slice_get m.recipients pos) [] = ap (λ (o : Option FileRecipient). option_map_or (λ (x : FileRecipient). x.address) o []) (sym is) in
    ap (λ (k : ℕ). taken_with pos k r.address) mark_is ∙ ap (taken_with pos (mark_at m pos)) address

-- the answered place
pub cursor_is : (m : FileMessage) (pos at next : ℕ) → at ≡ recipient_at m pos → pos ≡ next → cursor_with pos at ≡ cursor_at m next
cursor_is m pos at next place is = ap (cursor_with pos) place ∙ ap (cursor_at m) is

pub few_more : (xs ys : List Taken) (t : Taken) (max : ℕ) → ys ≡ xs ++ t ∷ [] → length xs < max → length ys ≤ max
few_more xs ys t max is room = omega (arith, room, ap length is, length-append xs (t ∷ []))

-- ---- the places from which recipients are read

-- the place of the first recipient
pub first_cursor : (bytes : List ℕ) (head : FileHead) → option_map head_of (queue_file bytes) ≡ Some head → HasCursor bytes head.recipients (cursor_with 0 head.first_at)
first_cursor bytes head e =
    let m = map_some head_of (queue_file bytes) head e in
    let first : head.first_at ≡ first_at m.0 + 0 = ap (λ (f : FileHead). f.first_at) (sym m.2) ∙ no_more (first_at m.0) in
    record {
      message = m.0;
      reads = m.1;
      count = ap (λ (f : FileHead). f.recipients) (sym m.2);
      place = ap (cursor_with 0) first;
      within = omega arith;
    }
  where
    no_more : (n : ℕ) → n ≡ n + 0
    no_more n = omega arith

places_more : (from : ℕ) (r : FileRecipient) (rs : List FileRecipient) (p : ℕ) → ((k : ℕ) → slice_get (places_from (from + 1) (λ i (x : FileRecipient). not x.marked) rs) k ≡ Some p → p < from + 1 + length rs)
    → (b : Bool) (k : ℕ) → slice_get (if b then from ∷ places_from (from + 1) (λ i (x : FileRecipient). not x.marked) rs else places_from (from + 1) (λ i (x : FileRecipient). not x.marked) rs) k ≡ Some p → p < from + length (r ∷ rs)
places_more from r rs p each true zero h =
    let same : from ≡ p = of_some h in
    omega arith
places_more from r rs p each true (suc j) h = omega (arith, each j h)
places_more from r rs p each false k h = omega (arith, each k h)

places_below : (from : ℕ) (rs : List FileRecipient) (k p : ℕ) → slice_get (places_from from (λ i (r : FileRecipient). not r.marked) rs) k ≡ Some p → p < from + length rs
places_below from [] k p e = absurd (none_some e)
places_below from (r ∷ rs) k p e = places_more from r rs p (λ j. places_below (from + 1) rs j p) (not r.marked) k e

behind_within : (m : FileMessage) (from max : ℕ) → from ≤ length m.recipients → position_behind m from max ≤ length m.recipients
behind_within m from max within = by (slice_get (unmarked_from m from) (max - 1)) refl
  where
    by : (o : Option ℕ) → slice_get (unmarked_from m from) (max - 1) ≡ o → option_map_or (λ p. p + 1) o (length m.recipients) ≤ length m.recipients
    by None e = omega arith
    by (Some p) e = omega (arith, places_below from (drop from m.recipients) (max - 1) p e, length-drop from m.recipients)

-- the place behind those that were taken
pub next_cursor : (bytes : List ℕ) (count : ℕ) (cursor next : Cursor) (max : ℕ) → HasCursor bytes count cursor → IfSome (queue_file bytes) (λ m. next ≡ cursor_at m (position_behind m cursor.position max)) → HasCursor bytes count next
next_cursor bytes count cursor next max h is =
    let m = h.message in
    let found_next : next ≡ cursor_at h.message (position_behind h.message cursor.position max) = subst (λ (o : Option FileMessage). IfSome o (λ m. next ≡ cursor_at m (position_behind m cursor.position max))) h.reads is in
    let position : next.position ≡ position_behind h.message cursor.position max = ap (λ (c : Cursor). c.position) found_next in
    record {
      message = m;
      reads = h.reads;
      count = h.count;
      place = found_next ∙ ap (cursor_at m) (sym position);
      within = subst (λ (k : ℕ). k ≤ length m.recipients) (sym position) (behind_within m cursor.position max h.within);
    }
