-- In a file that says a mail, its content stands at the mail's place for it.
use Rattle.std.proofs.Common.{◌≡◌, ◌+◌, ◌*◌, ◌≤◌, ◌++◌, ◌∷◌, ◌∙◌, ◌&&◌, [], append_assoc, ap, arith, drop, eqb, leb, if◌then◌else◌, length, Bool, true, false, List, None, Option, refl, Some, subst, suc, sum_by, sym, take, zero, ℕ}
use Rattle.std.specs.Int.{from_be_bytes, w64}
use Rattle.std.specs.Option.{option_and_then, option_map}
use Rattle.std.specs.Prelude.{unwrap_or}
use Rattle.std.proofs.lemmas.Bool.{and_parts, eqb-true, leb-true}
use Rattle.std.proofs.lemmas.List.{length-append, length-take, take-append-drop, take_all}
use Rattle.std.proofs.lemmas.List.Sums.{sum_by-cons}
use Rattle.std.proofs.lemmas.Option.{cond_some}
use Rattle.q_model.specs.Lists.{has_none}
use Rattle.q_model.specs.QueueFile.{arrival_of, body_of, content_limit, Counts, counts_in, counts_of, FileMessage, FileRecipient, is_first, is_other, is_version, original_of, queue_file, recipient_of, recipients_at, sender_of, take_recipient, within_limits, ◌>>=◌}
use Rattle.q_model.specs.QueueFileBytes.{content_at, recipient_size}
use Rattle.q_model.specs.Records.{is_whole, number, read_record, take_record}
use Rattle.q_model.specs.Texts.{is_address}
use Rattle.q_model.specs.Values.{FileHead}
use Rattle.q_model.proofs.QueueFileLaws.{address_size}
use Rattle.q_model.proofs.RecordLaws.{bind_some, found, map_some}
use Rattle.q_session.specs.Mails.{IsHeadOf, Mail, mail_of}

-- a record's body, behind the five bytes of its kind and its length
record Stands (bytes body rest : List ℕ) : Type 0 where
  front : List ℕ
  size : length front ≡ 5
  parts : bytes ≡ front ++ (body ++ rest)

record_stands : (kind : ℕ) (bytes body rest : List ℕ) → take_record kind bytes ≡ found body rest → Stands bytes body rest
record_stands kind [] body rest e = absurd cc
record_stands kind (b ∷ bytes) body rest e =
    let n = number bytes in
    let behind = drop 4 bytes in
    let c = cond_some {A = List ℕ × List ℕ} ((eqb b kind) && is_whole bytes) (take n behind, drop n behind) (body, rest) e in
    let whole = and_parts (leb 4 (length bytes)) (leb n (length behind)) (and_parts (eqb b kind) (is_whole bytes) c.0).1 in
    let long : 4 ≤ length bytes = leb-true 4 (length bytes) whole.0 in
    subst (λ (p : List ℕ × List ℕ). Stands (b ∷ bytes) p.0 p.1) c.1 (record {
      front = b ∷ take 4 bytes;
      size = omega (arith, length-take 4 bytes, long);
      parts = ap (λ (xs : List ℕ). b ∷ xs) (sym (take-append-drop 4 bytes) ∙ ap (λ (xs : List ℕ). take 4 bytes ++ xs) (sym (take-append-drop n behind)));
    })

-- the same of a body that says this
record Says {A : Type 0} (meaning : List ℕ → Option A) (bytes : List ℕ) (a : A) (rest : List ℕ) : Type 0 where
  body : List ℕ
  stands : Stands bytes body rest
  means : meaning body ≡ Some a

read_says : {A : Type 0} (kind : ℕ) (meaning : List ℕ → Option A) (bytes : List ℕ) (a : A) (rest : List ℕ) → read_record kind meaning bytes ≡ found a rest → Says meaning bytes a rest
read_says {A} kind meaning bytes a rest e =
    let t = bind_some (take_record kind bytes) (λ (r : List ℕ × List ℕ). option_map (λ (x : A). (x, r.1)) (meaning r.0)) (a, rest) e in
    let m = map_some {A = A} {B = A × List ℕ} (λ (x : A). (x, t.0.1)) (meaning t.0.0) (a, rest) t.2 in
    let same_rest : t.0.1 ≡ rest = ap (λ (p : A × List ℕ). p.1) m.2 in
    let same_value : m.0 ≡ a = ap (λ (p : A × List ℕ). p.0) m.2 in
    record {
      body = t.0.0;
      stands = subst (λ (r : List ℕ). Stands bytes t.0.0 r) same_rest (record_stands kind bytes t.0.0 t.0.1 t.1);
      means = m.1 ∙ ap (λ (x : A). Some x) same_value;
    }

record AreCounts (body : List ℕ) (c : Counts) : Type 0 where
  size : length body ≡ 12
  few : c.recipients ≤ 50000
  short : c.content ≤ 40000000

most_short : (version n : ℕ) → leb n (content_limit version) ≡ true → n ≤ 40000000
most_short version n h = by (is_first version) (leb-true n (content_limit version) h)
  where
    by : (t : Bool) → n ≤ (if t then 20000000 else 40000000) → n ≤ 40000000
    by true h = omega (arith, h)
    by false h = h

counts_are : (body : List ℕ) (c : Counts) → counts_of body ≡ Some c → AreCounts body c
counts_are body c e =
    let g = cond_some ((eqb (length body) 12) && within_limits (counts_in body)) (counts_in body) c e in
    let tests = and_parts (eqb (length body) 12) (within_limits (counts_in body)) g.0 in
    let k = counts_in body in
    let short = and_parts (is_version k.version && leb 1 k.recipients && leb k.recipients 50000) (leb k.content (content_limit k.version)) tests.1 in
    let few = and_parts (is_version k.version && leb 1 k.recipients) (leb k.recipients 50000) short.0 in
    subst (AreCounts body) g.1 (record {
      size = eqb-true (length body) 12 tests.0;
      few = leb-true (counts_in body).recipients 50000 few.1;
      short = most_short (counts_in body).version (counts_in body).content short.1;
    })

arrival_size : (body : List ℕ) (a : ℕ) → arrival_of body ≡ Some a → length body ≡ 8
arrival_size body a e =
    let g = cond_some ((eqb (length body) 8) && leb (from_be_bytes w64 body) 999990000000) (from_be_bytes w64 body) a e in
    eqb-true (length body) 8 (and_parts (eqb (length body) 8) (leb (from_be_bytes w64 body) 999990000000) g.0).0

sender_is : (body : List ℕ) (s : Option (List ℕ)) → sender_of body ≡ Some s → (length body ≡ length (unwrap_or s [])) × (length body ≤ 254)
sender_is [] s e =
    let none : None ≡ s = cc in
    subst (λ (o : Option (List ℕ)). (length {A = ℕ} [] ≡ length (unwrap_or o [])) × (length {A = ℕ} [] ≤ 254)) none (refl, omega arith)
sender_is (b ∷ bytes) s e =
    let g = cond_some (is_address (b ∷ bytes)) (Some (b ∷ bytes)) s e in
    subst (λ (o : Option (List ℕ)). (length (b ∷ bytes) ≡ length (unwrap_or o [])) × (length (b ∷ bytes) ≤ 254)) g.1 (refl, (address_size (b ∷ bytes) g.0).1)

-- what the body of a recipient says
record IsBody (original : Option (List ℕ)) (body : List ℕ) (r : FileRecipient) : Type 0 where
  size : length body ≡ 1 + length r.address
  short : length r.address ≤ 254
  same : original ≡ r.original

recipient_body : (original : Option (List ℕ)) (body : List ℕ) (r : FileRecipient) → recipient_of original body ≡ Some r → IsBody original body r
recipient_body original [] r e = absurd cc
recipient_body original (mark ∷ address) r e =
    let g = cond_some {A = FileRecipient} (is_address address && is_other address original) (record { address = address; original = original; marked = eqb mark 68 }) r e in
    let form = and_parts (is_address address) (is_other address original) g.0 in
    subst (IsBody original (mark ∷ address)) g.1 (record { size = omega arith; short = (address_size address form.0).1; same = refl })

body_is : (n : ℕ) (body content : List ℕ) → body_of n body ≡ Some content → (body ≡ content) × (length content ≡ n)
body_is n body content e =
    let g = cond_some (eqb (length body) n) body content e in
    (g.1, ap length (sym g.1) ∙ eqb-true (length body) n g.0)

-- the records of a recipient, and the bytes behind them
record OneStands (size most : ℕ) (bytes rest : List ℕ) : Type 0 where
  front : List ℕ
  size_is : length front ≡ size
  few : size ≤ most
  parts : bytes ≡ front ++ rest

-- by whether the file is of the first version
abbrev size_by : Bool → FileRecipient → ℕ
size_by first r = (if first then 0 else 5 + length (unwrap_or r.original [])) + (6 + length r.address)

one_by : (first : Bool) (bytes : List ℕ) (r : FileRecipient) (rest : List ℕ)
    → option_and_then (λ (o : Option (List ℕ) × List ℕ). read_record 82 (recipient_of o.0) o.1) (if first then Some (None, bytes) else read_record 79 original_of bytes) ≡ found r rest → OneStands (size_by first r) 519 bytes rest
one_by true bytes r rest e =
    let h = read_says 82 (recipient_of None) bytes r rest e in
    let s = h.stands in
    let is = recipient_body None h.body r h.means in
    record {
      front = s.front ++ h.body;
      size_is = omega (arith, length-append s.front h.body, s.size, is.size);
      few = omega (arith, is.short);
      parts = s.parts ∙ sym (append_assoc s.front h.body rest);
    }
one_by false bytes r rest e =
    let o = bind_some (read_record 79 original_of bytes) (λ (o : Option (List ℕ) × List ℕ). read_record 82 (recipient_of o.0) o.1) (r, rest) e in
    let g = read_says 79 original_of bytes o.0.0 o.0.1 o.1 in
    let h = read_says 82 (recipient_of o.0.0) o.0.1 r rest o.2 in
    let f = g.stands in
    let s = h.stands in
    let is = recipient_body o.0.0 h.body r h.means in
    let said = sender_is g.body o.0.0 g.means in
    let same : length (unwrap_or o.0.0 []) ≡ length (unwrap_or r.original []) = ap (λ (x : Option (List ℕ)). length (unwrap_or x [])) is.same in
    record {
      front = (f.front ++ g.body) ++ (s.front ++ h.body);
      size_is = omega (arith, length-append (f.front ++ g.body) (s.front ++ h.body), length-append f.front g.body, length-append s.front h.body, f.size, s.size, is.size, said.0, same);
      few = omega (arith, is.short, said.0, said.1, same);
      parts = f.parts ∙ ap (λ (xs : List ℕ). f.front ++ (g.body ++ xs)) s.parts ∙ simp append_assoc;
    }

one_stands : (version : ℕ) (bytes : List ℕ) (r : FileRecipient) (rest : List ℕ) → take_recipient version bytes ≡ found r rest → OneStands (recipient_size version r) 519 bytes rest
one_stands version bytes r rest e = one_by (is_first version) bytes r rest e

-- the records of these recipients, and the bytes behind them
record RecipientsStand (version n : ℕ) (bytes : List ℕ) (rs : List FileRecipient) (rest : List ℕ) : Type 0 where
  front : List ℕ
  size : length front ≡ sum_by (recipient_size version) rs
  few : length front ≤ 519 * n
  parts : bytes ≡ front ++ rest

one_more : (version n : ℕ) (bytes middle : List ℕ) (r : FileRecipient) (rs : List FileRecipient) (rest : List ℕ) → OneStands (recipient_size version r) 519 bytes middle → RecipientsStand version n middle rs rest → RecipientsStand version (suc n) bytes (r ∷ rs) rest
one_more version n bytes middle r rs rest first others =
    let total = length-append first.front others.front in
    record {
      front = first.front ++ others.front;
      size = omega (arith, total, first.size_is, others.size, sum_by-cons (recipient_size version) r rs);
      few = omega (arith, total, first.size_is, others.few, first.few);
      parts = first.parts ∙ ap (λ (xs : List ℕ). first.front ++ xs) others.parts ∙ sym (append_assoc first.front others.front rest);
    }

same_some : {A : Type 0} (x y : A) → Some x ≡ Some y → x ≡ y
same_some x y h = cc

recipients_stand : (version n : ℕ) (bytes : List ℕ) (rs : List FileRecipient) (rest : List ℕ) → recipients_at version n bytes ≡ found rs rest → RecipientsStand version n bytes rs rest
recipients_stand version zero bytes rs rest e =
    subst (λ (p : List FileRecipient × List ℕ). RecipientsStand version 0 bytes p.0 p.1) (same_some ([], bytes) (rs, rest) e) (record { front = []; size = refl; few = omega arith; parts = refl })
recipients_stand version (suc n) bytes rs rest e =
    let a = bind_some (take_recipient version bytes) (λ (r : FileRecipient × List ℕ). recipients_at version n r.1 >>= λ others. Some (r.0 ∷ others.0, others.1)) (rs, rest) e in
    let b = bind_some (recipients_at version n a.0.1) (λ (others : List FileRecipient × List ℕ). Some (a.0.0 ∷ others.0, others.1)) (rs, rest) a.2 in
    let first = one_stands version bytes a.0.0 a.0.1 a.1 in
    let others = recipients_stand version n a.0.1 b.0.0 b.0.1 b.1 in
    subst (λ (p : List FileRecipient × List ℕ). RecipientsStand version (suc n) bytes p.0 p.1) (same_some (a.0.0 ∷ b.0.0, b.0.1) (rs, rest) b.2) (one_more version n bytes a.0.1 a.0.0 b.0.0 b.0.1 first others)

-- the content at its place, in bytes that are far fewer than an offset can count
pub record ContentStands (bytes : List ℕ) (mail : Mail) : Type 0 where
  pub front : List ℕ
  pub back : List ℕ
  pub place : length front ≡ mail.content_at
  pub parts : bytes ≡ front ++ (mail.content ++ back)
  pub few : mail.content_at + length mail.content ≤ 65950294

joined : (bytes f1 b1 r1 f2 b2 r2 f3 b3 r3 rs r4 f5 b5 r5 : List ℕ) → bytes ≡ f1 ++ (b1 ++ r1) → r1 ≡ f2 ++ (b2 ++ r2) → r2 ≡ f3 ++ (b3 ++ r3) → r3 ≡ rs ++ r4 → r4 ≡ f5 ++ (b5 ++ r5) → bytes ≡ (((f1 ++ b1) ++ (f2 ++ b2)) ++ ((f3 ++ b3) ++ (rs ++ f5))) ++ (b5 ++ r5)
joined bytes f1 b1 r1 f2 b2 r2 f3 b3 r3 rs r4 f5 b5 r5 p1 p2 p3 p4 p5 = rw (p1, p2, p3, p4, p5) (simp append_assoc)

joined_size : (f1 b1 f2 b2 f3 b3 rs f5 : List ℕ) → length (((f1 ++ b1) ++ (f2 ++ b2)) ++ ((f3 ++ b3) ++ (rs ++ f5))) ≡ length f1 + length b1 + length f2 + length b2 + length f3 + length b3 + length rs + length f5
joined_size f1 b1 f2 b2 f3 b3 rs f5 = simp length-append (omega arith)

-- what was read before the last record
record Steps (bytes : List ℕ) (m : FileMessage) : Type 0 where
  counts : Counts
  r1 : List ℕ
  r2 : List ℕ
  r3 : List ℕ
  r4 : List ℕ
  r5 : List ℕ
  c : Says counts_of bytes counts r1
  t : Says arrival_of r1 m.arrival r2
  s : Says sender_of r2 m.sender r3
  rs : RecipientsStand m.version counts.recipients r3 m.recipients r4
  n : Says (body_of counts.content) r4 m.content r5

steps : (bytes : List ℕ) (m : FileMessage) → queue_file bytes ≡ Some m → Steps bytes m
unfolding queue_file
steps bytes m given =
    let c = bind_some _ _ m given in
    let t = bind_some _ _ m c.2 in
    let s = bind_some _ _ m t.2 in
    let r = bind_some _ _ m s.2 in
    let n = bind_some _ _ m r.2 in
    let e = bind_some (read_record 69 (body_of 0) n.0.1) _ m n.2 in
    let g = cond_some {A = FileMessage} (has_none e.0.1) (record { version = c.0.0.version; sender = s.0.0; arrival = t.0.0; content = n.0.0; recipients = r.0.0 }) m e.2 in
    let rc = read_says 67 counts_of bytes c.0.0 c.0.1 c.1 in
    let rt = read_says 84 arrival_of c.0.1 t.0.0 t.0.1 t.1 in
    let rs = read_says 83 sender_of t.0.1 s.0.0 s.0.1 s.1 in
    let rr = recipients_stand c.0.0.version c.0.0.recipients s.0.1 r.0.0 r.0.1 r.1 in
    let rn = read_says 78 (body_of c.0.0.content) r.0.1 n.0.0 n.0.1 n.1 in
    subst (Steps bytes) g.1 (record { counts = c.0.0; r1 = c.0.1; r2 = t.0.1; r3 = s.0.1; r4 = r.0.1; r5 = n.0.1; c = rc; t = rt; s = rs; rs = rr; n = rn })

from_steps : (bytes : List ℕ) (m : FileMessage) → Steps bytes m → ContentStands bytes (mail_of m)
from_steps bytes m k =
    let c = k.c.stands in
    let t = k.t.stands in
    let s = k.s.stands in
    let n = k.n.stands in
    let counts = counts_are k.c.body k.counts k.c.means in
    let arrival = arrival_size k.t.body m.arrival k.t.means in
    let sender = sender_is k.s.body m.sender k.s.means in
    let content = body_is k.counts.content k.n.body m.content k.n.means in
    let front = ((c.front ++ k.c.body) ++ (t.front ++ k.t.body)) ++ ((s.front ++ k.s.body) ++ (k.rs.front ++ n.front)) in
    let size = joined_size c.front k.c.body t.front k.t.body s.front k.s.body k.rs.front n.front in
    let all = ap (sum_by (recipient_size m.version)) (take_all (length m.recipients) m.recipients (omega arith)) in
    let place : length front ≡ content_at m = omega (arith, all, size, c.size, counts.size, t.size, arrival, s.size, sender.0, k.rs.size, n.size) in
    record {
      front = front;
      back = k.r5;
      place = place;
      parts = joined bytes c.front k.c.body k.r1 t.front k.t.body k.r2 s.front k.s.body k.r3 k.rs.front k.r4 n.front k.n.body k.r5 c.parts t.parts s.parts k.rs.parts n.parts
          ∙ ap (λ (xs : List ℕ). front ++ (xs ++ k.r5)) content.0;
      few = omega (arith, place, size, c.size, counts.size, t.size, arrival, s.size, sender.1, k.rs.few, n.size, counts.few, counts.short, content.1);
    }

-- bytes that say a message have its content so
pub content_stands : (bytes : List ℕ) (m : FileMessage) → queue_file bytes ≡ Some m → ContentStands bytes (mail_of m)
content_stands bytes m given = from_steps bytes m (steps bytes m given)

pub head_of_mail : (m : FileMessage) (head : FileHead) → head.head.sender ≡ m.sender → head.content_at ≡ content_at m → head.content_len ≡ length m.content → IsHeadOf (mail_of m) head
head_of_mail m head sender at len = record { sender = sender; content_at = at; content_len = len }

-- the same of a file that is there
pub file_content : (o : Option (List ℕ)) (mail : Mail) → option_map mail_of (option_and_then queue_file o) ≡ Some mail → (file : List ℕ) × (o ≡ Some file) × ContentStands file mail
file_content None mail e = absurd cc
file_content (Some file) mail e =
    let m = map_some mail_of (queue_file file) mail e in
    (file, refl, subst (ContentStands file) m.2 (content_stands file m.0 m.1))
