-- What a queue file says was written so: its bytes are those of the message that it says.
use Rattle.std.proofs.Common.{◌≡◌, ℕ, zero, suc, ◌≤◌, Bool, true, eqb, leb, List, [], ◌∷◌, ◌++◌, length, map, take, drop, Option, Some, None, refl, sym, ap, subst, ◌∙◌, arith, append_assoc, append-nil, ◌&&◌, not, false, if◌then◌else◌}
use Rattle.std.specs.Int.{w32, w64, from_be_bytes, to_be_bytes}
use Rattle.std.specs.List.{list_all}
use Rattle.std.specs.Option.{option_map_or}
use Rattle.std.specs.Prelude.{unwrap_or}
use Rattle.std.proofs.lemmas.Bool.{and_from, and_parts, eqb-true, leb-true}
use Rattle.std.proofs.lemmas.List.{take-append-drop, take_all, length-take, length-drop, drop-drop}
use Rattle.std.proofs.lemmas.Nat.{be_bytes_4, be_bytes_8}
use Rattle.std.proofs.lemmas.Option.{cond_some}
use Rattle.q_model.specs.Lists.{has_none}
use Rattle.q_model.specs.QueueFile.{Counts, FileMessage, FileRecipient, ◌>>=◌, queue_file, content_limit, counts_in, counts_of, is_first, is_other, is_version, within_limits, arrival_of, original_of, sender_of, recipient_of, recipients_at, take_original, take_recipient, body_of}
pub use Rattle.q_model.specs.QueueFileBytes.{IsFileOf}
use Rattle.q_model.specs.QueueFileBytes.{counts_body, file_bytes, is_original, is_recipient, original_bytes, recipient_bytes, recipients_bytes}
use Rattle.q_model.specs.Records.{number, read_record, record_bytes}
use Rattle.q_model.specs.Texts.{is_address}
use Rattle.q_model.proofs.RecordLaws.{AreBytes, AreBytes-drop, AreBytes-take, Reads, bind_some, found, read_takes}

-- the body of the counts
abbrev counts_text : Counts → List ℕ
counts_text c = to_be_bytes w32 c.version ++ to_be_bytes w32 c.recipients ++ to_be_bytes w32 c.content

number_is : (bytes : List ℕ) → AreBytes bytes → 4 ≤ length bytes → to_be_bytes w32 (number bytes) ≡ take 4 bytes
number_is bytes fits long = be_bytes_4 (take 4 bytes) (number bytes) (omega (arith, length-take 4 bytes)) (AreBytes-take 4 bytes fits) refl

three_parts : (body : List ℕ) → length body ≡ 12 → body ≡ take 4 body ++ take 4 (drop 4 body) ++ take 4 (drop 8 body)
three_parts body len =
    let last : take 4 (drop 8 body) ≡ drop 8 body = take_all 4 (drop 8 body) (omega (arith, length-drop 8 body)) in
    let rest : drop 4 (drop 4 body) ≡ drop 8 body = drop-drop 4 4 body in
    sym (take-append-drop 4 body)
    ∙ ap (λ (xs : List ℕ). take 4 body ++ xs) (sym (take-append-drop 4 (drop 4 body)) ∙ ap (λ (xs : List ℕ). take 4 (drop 4 body) ++ xs) (rest ∙ sym last))
    ∙ sym (append_assoc (take 4 body) (take 4 (drop 4 body)) (take 4 (drop 8 body)))

pub record AreCounts (body : List ℕ) (c : Counts) : Type 0 where
  pub text : body ≡ counts_text c
  pub known : is_version c.version ≡ true
  pub some : 1 ≤ c.recipients
  pub few : c.recipients ≤ 50000
  pub short : c.content ≤ content_limit c.version

counts_back : (body : List ℕ) → AreBytes body → length body ≡ 12 → body ≡ counts_text (counts_in body)
counts_back body fits len =
    let a : to_be_bytes w32 (number body) ≡ take 4 body = number_is body fits (omega arith) in
    let b : to_be_bytes w32 (number (drop 4 body)) ≡ take 4 (drop 4 body) = number_is (drop 4 body) (AreBytes-drop 4 body fits) (omega (arith, length-drop 4 body)) in
    let d : to_be_bytes w32 (number (drop 8 body)) ≡ take 4 (drop 8 body) = number_is (drop 8 body) (AreBytes-drop 8 body fits) (omega (arith, length-drop 8 body)) in
    three_parts body len
    ∙ ap (λ (x : List ℕ). x ++ take 4 (drop 4 body) ++ take 4 (drop 8 body)) (sym a)
    ∙ ap (λ (x : List ℕ). to_be_bytes w32 (number body) ++ x ++ take 4 (drop 8 body)) (sym b)
    ∙ ap (λ (x : List ℕ). to_be_bytes w32 (number body) ++ to_be_bytes w32 (number (drop 4 body)) ++ x) (sym d)

counts_are : (body : List ℕ) (c : Counts) → AreBytes body → counts_of body ≡ Some c → AreCounts body c
counts_are body c fits e =
    let k = counts_in body in
    let g = cond_some ((eqb (length body) 12) && within_limits (counts_in body)) (counts_in body) c e in
    let tests = and_parts (eqb (length body) 12) (within_limits (counts_in body)) g.0 in
    let limits = and_parts (is_version k.version && leb 1 k.recipients && leb k.recipients 50000) (leb k.content (content_limit k.version)) tests.1 in
    let ends = and_parts (is_version k.version && leb 1 k.recipients) (leb k.recipients 50000) limits.0 in
    let first = and_parts (is_version k.version) (leb 1 k.recipients) ends.0 in
    subst (AreCounts body) g.1 (record {
      text = counts_back body fits (eqb-true (length body) 12 tests.0);
      known = first.0;
      some = leb-true 1 (counts_in body).recipients first.1;
      few = leb-true (counts_in body).recipients 50000 ends.1;
      short = leb-true (counts_in body).content (content_limit (counts_in body).version) limits.1;
    })

arrival_is : (body : List ℕ) (a : ℕ) → AreBytes body → arrival_of body ≡ Some a → (body ≡ to_be_bytes w64 a) × (a ≤ 999990000000)
arrival_is body a fits e =
    let g = cond_some ((eqb (length body) 8) && leb (from_be_bytes w64 body) 999990000000) (from_be_bytes w64 body) a e in
    let tests = and_parts (eqb (length body) 8) (leb (from_be_bytes w64 body) 999990000000) g.0 in
    let back : to_be_bytes w64 (from_be_bytes w64 body) ≡ body = be_bytes_8 body (from_be_bytes w64 body) (eqb-true (length body) 8 tests.0) fits refl in
    subst (λ (n : ℕ). (body ≡ to_be_bytes w64 n) × (n ≤ 999990000000)) g.1 (sym back, leb-true (from_be_bytes w64 body) 999990000000 tests.1)

sender_is : (body : List ℕ) (s : Option (List ℕ)) → sender_of body ≡ Some s → (body ≡ unwrap_or s []) × (option_map_or is_address s true ≡ true)
sender_is [] s e =
    let none : None ≡ s = cc in
    subst (λ (o : Option (List ℕ)). ([] ≡ unwrap_or o []) × (option_map_or is_address o true ≡ true)) none (refl, refl)
sender_is (b ∷ bytes) s e =
    let g = cond_some (is_address (b ∷ bytes)) (Some (b ∷ bytes)) s e in
    subst (λ (o : Option (List ℕ)). (b ∷ bytes ≡ unwrap_or o []) × (option_map_or is_address o true ≡ true)) g.1 (refl, g.0)

-- what stands of an original address: nothing in the first version, else a record
record IsOriginal (first : Bool) (bytes : List ℕ) (o : Option (List ℕ)) (rest : List ℕ) : Type 0 where
  parts : bytes ≡ (if first then [] else record_bytes 79 (unwrap_or o [])) ++ rest
  form : option_map_or (λ a. not first && is_address a) o true ≡ true
  rest_fits : AreBytes rest

pair_of : {A : Type 0} {x y : A} → Some x ≡ Some y → x ≡ y
pair_of h = cc

original_is : (version : ℕ) (bytes : List ℕ) (o : Option (List ℕ)) (rest : List ℕ) → AreBytes bytes → take_original version bytes ≡ found o rest → IsOriginal (is_first version) bytes o rest
original_is version bytes o rest fits e = which (is_first version) e
  where
    again : (s : Option (List ℕ)) → option_map_or is_address s true ≡ true → option_map_or (λ a. not false && is_address a) s true ≡ true
    again None h = refl
    again (Some a) h = h

    which : (b : Bool) → (if b then Some (None, bytes) else read_record 79 original_of bytes) ≡ found o rest → IsOriginal b bytes o rest
    which true k = subst (λ (p : Option (List ℕ) × List ℕ). IsOriginal true bytes p.0 p.1) (pair_of k) (record { parts = refl; form = refl; rest_fits = fits })
    which false k =
        let r = read_takes 79 original_of bytes o rest fits k in
        let s = sender_is r.body o r.means in
        record { parts = r.takes.parts ∙ ap (λ (xs : List ℕ). record_bytes 79 xs ++ rest) s.0; form = again o s.1; rest_fits = r.takes.rest_fits }

-- a recipient's record: a mark byte and an address, behind an original one
pub record IsRecipient (original : Option (List ℕ)) (body : List ℕ) (r : FileRecipient) : Type 0 where
  pub mark : ℕ
  pub text : body ≡ mark ∷ r.address
  pub form : is_address r.address ≡ true
  pub was : original ≡ r.original
  pub other : is_other r.address original ≡ true
  pub agrees : eqb mark 68 ≡ r.marked

recipient_is : (original : Option (List ℕ)) (body : List ℕ) (r : FileRecipient) → recipient_of original body ≡ Some r → IsRecipient original body r
recipient_is original [] r e = absurd cc
recipient_is original (mark ∷ address) r e =
    let g = cond_some {A = FileRecipient} (is_address address && is_other address original) (record { address = address; original = original; marked = eqb mark 68 }) r e in
    let two = and_parts (is_address address) (is_other address original) g.0 in
    subst (IsRecipient original (mark ∷ address)) g.1 (record { mark = mark; text = refl; form = two.0; was = refl; other = two.1; agrees = refl })

-- the records of one recipient stand at the front
record IsOne (version : ℕ) (bytes : List ℕ) (r : FileRecipient) (rest : List ℕ) : Type 0 where
  mark : ℕ
  parts : bytes ≡ recipient_bytes version mark r ++ rest
  agrees : eqb mark 68 ≡ r.marked
  form : is_recipient version r ≡ true
  rest_fits : AreBytes rest

one_is : (version : ℕ) (bytes : List ℕ) (r : FileRecipient) (rest : List ℕ) → AreBytes bytes → take_recipient version bytes ≡ found r rest → IsOne version bytes r rest
one_is version bytes r rest fits e =
    let a = bind_some (take_original version bytes) (λ (o : Option (List ℕ) × List ℕ). read_record 82 (recipient_of o.0) o.1) (r, rest) e in
    let o = original_is version bytes a.0.0 a.0.1 fits a.1 in
    let k = read_takes 82 (recipient_of a.0.0) a.0.1 r rest o.rest_fits a.2 in
    let one = recipient_is a.0.0 k.body r k.means in
    let second : a.0.1 ≡ record_bytes 82 (one.mark ∷ r.address) ++ rest = k.takes.parts ∙ ap (λ (xs : List ℕ). record_bytes 82 xs ++ rest) one.text in
    record {
      mark = one.mark;
      parts = o.parts
          ∙ ap (λ (s : Option (List ℕ)). original_bytes version s ++ a.0.1) one.was
          ∙ ap (λ (xs : List ℕ). original_bytes version r.original ++ xs) second
          ∙ sym (append_assoc (original_bytes version r.original) (record_bytes 82 (one.mark ∷ r.address)) rest);
      agrees = one.agrees;
      form = and_from (is_address r.address) (is_original version r.address r.original) one.form
          (and_from (option_map_or (λ x. not (is_first version) && is_address x) r.original true) (is_other r.address r.original)
          (subst (λ (s : Option (List ℕ)). option_map_or (λ x. not (is_first version) && is_address x) s true ≡ true) one.was o.form)
          (subst (λ (s : Option (List ℕ)). is_other r.address s ≡ true) one.was one.other));
      rest_fits = k.takes.rest_fits;
    }

-- the records of these recipients stand at the front
pub record AreRecipients (version n : ℕ) (bytes : List ℕ) (rs : List FileRecipient) (rest : List ℕ) : Type 0 where
  pub marks : List ℕ
  pub parts : bytes ≡ recipients_bytes version marks rs ++ rest
  pub agree : map (λ b. eqb b 68) marks ≡ map (λ r. r.marked) rs
  pub forms : list_all (is_recipient version) rs ≡ true
  pub count : length rs ≡ n
  pub rest_fits : AreBytes rest

one_more : (version n : ℕ) (bytes middle : List ℕ) (r : FileRecipient) (rs : List FileRecipient) (rest : List ℕ) → IsOne version bytes r middle → AreRecipients version n middle rs rest → AreRecipients version (suc n) bytes (r ∷ rs) rest
one_more version n bytes middle r rs rest one others =
    let agrees = one.agrees in
    let agree = others.agree in
    record {
      marks = one.mark ∷ others.marks;
      parts = one.parts ∙ ap (λ (xs : List ℕ). recipient_bytes version one.mark r ++ xs) others.parts ∙ sym (append_assoc (recipient_bytes version one.mark r) (recipients_bytes version others.marks rs) rest);
      agree = ap (λ (b : Bool). b ∷ map (λ k. eqb k 68) others.marks) agrees ∙ ap (λ (bs : List Bool). r.marked ∷ bs) agree;
      forms = and_from (is_recipient version r) (list_all (is_recipient version) rs) one.form others.forms;
      count = ap suc others.count;
      rest_fits = others.rest_fits;
    }

recipients_are : (version n : ℕ) (bytes : List ℕ) (rs : List FileRecipient) (rest : List ℕ) → AreBytes bytes → recipients_at version n bytes ≡ found rs rest → AreRecipients version n bytes rs rest
recipients_are version zero bytes rs rest fits e =
    subst (λ (p : List FileRecipient × List ℕ). AreRecipients version 0 bytes p.0 p.1) (pair_of e) (record { marks = []; parts = refl; agree = refl; forms = refl; count = refl; rest_fits = fits })
recipients_are version (suc n) bytes rs rest fits e =
    let a = bind_some (take_recipient version bytes) (λ (r : FileRecipient × List ℕ). recipients_at version n r.1 >>= λ others. Some (r.0 ∷ others.0, others.1)) (rs, rest) e in
    let b = bind_some (recipients_at version n a.0.1) (λ (others : List FileRecipient × List ℕ). Some (a.0.0 ∷ others.0, others.1)) (rs, rest) a.2 in
    let first = one_is version bytes a.0.0 a.0.1 fits a.1 in
    let others = recipients_are version n a.0.1 b.0.0 b.0.1 first.rest_fits b.1 in
    subst (λ (p : List FileRecipient × List ℕ). AreRecipients version (suc n) bytes p.0 p.1) (pair_of b.2) (one_more version n bytes a.0.1 a.0.0 b.0.0 b.0.1 first others)

body_is : (n : ℕ) (body content : List ℕ) → body_of n body ≡ Some content → (body ≡ content) × (length content ≡ n)
body_is n body content e =
    let g = cond_some (eqb (length body) n) body content e in
    (g.1, ap length (sym g.1) ∙ eqb-true (length body) n g.0)

joined : (bytes a r1 b r2 c r3 d r4 e r5 f r6 : List ℕ) → bytes ≡ a ++ r1 → r1 ≡ b ++ r2 → r2 ≡ c ++ r3 → r3 ≡ d ++ r4 → r4 ≡ e ++ r5 → r5 ≡ f ++ r6 → r6 ≡ [] → bytes ≡ (a ++ b ++ c) ++ d ++ e ++ f
joined bytes a r1 b r2 c r3 d r4 e r5 f r6 p1 p2 p3 p4 p5 p6 p7 = rw (p1, p2, p3, p4, p5, p6, p7) (simp (append_assoc, append-nil))

nothing_left : (xs : List ℕ) → has_none xs ≡ true → xs ≡ []
nothing_left [] h = refl
nothing_left (x ∷ xs) h = absurd cc

empty : (xs : List ℕ) → length xs ≡ 0 → xs ≡ []
empty [] h = refl
empty (x ∷ xs) h = absurd (omega arith)

-- the file of these bodies and records
abbrev file_from : List ℕ → List ℕ → List ℕ → List ℕ → List ℕ → List ℕ → List ℕ
file_from c t s rs n e = (record_bytes 67 c ++ record_bytes 84 t ++ record_bytes 83 s) ++ rs ++ record_bytes 78 n ++ record_bytes 69 e

same_file : (c1 c2 t1 t2 s1 s2 rs n1 n2 e1 e2 : List ℕ) → c1 ≡ c2 → t1 ≡ t2 → s1 ≡ s2 → n1 ≡ n2 → e1 ≡ e2 → file_from c1 t1 s1 rs n1 e1 ≡ file_from c2 t2 s2 rs n2 e2
same_file c1 c2 t1 t2 s1 s2 rs n1 n2 e1 e2 pc pt ps pn pe = rw (pc, pt, ps, pn, pe) refl

same_counts : (c : Counts) (v r n : ℕ) → v ≡ c.version → r ≡ c.recipients → n ≡ c.content → counts_text c ≡ to_be_bytes w32 v ++ to_be_bytes w32 r ++ to_be_bytes w32 n
same_counts c v r n pv pr pn = rw (pv, pr, pn) refl

-- what was read, step by step
record Steps (bytes : List ℕ) (m : FileMessage) : Type 0 where
  counts : Counts
  r1 : List ℕ
  r2 : List ℕ
  r3 : List ℕ
  r4 : List ℕ
  r5 : List ℕ
  r6 : List ℕ
  last : List ℕ
  version : m.version ≡ counts.version
  c : Reads 67 counts_of bytes counts r1
  t : Reads 84 arrival_of r1 m.arrival r2
  s : Reads 83 sender_of r2 m.sender r3
  rs : AreRecipients counts.version counts.recipients r3 m.recipients r4
  n : Reads 78 (body_of counts.content) r4 m.content r5
  e : Reads 69 (body_of 0) r5 last r6
  end : has_none r6 ≡ true

steps : (bytes : List ℕ) (m : FileMessage) → AreBytes bytes → queue_file bytes ≡ Some m → Steps bytes m
unfolding queue_file
steps bytes m fits given =
    let c = bind_some _ _ m given in
    let t = bind_some _ _ m c.2 in
    let s = bind_some _ _ m t.2 in
    let r = bind_some _ _ m s.2 in
    let n = bind_some _ _ m r.2 in
    let e = bind_some _ _ m n.2 in
    let g = cond_some {A = FileMessage} (has_none e.0.1) (record { version = c.0.0.version; sender = s.0.0; arrival = t.0.0; content = n.0.0; recipients = r.0.0 }) m e.2 in
    let rc = read_takes 67 counts_of bytes c.0.0 c.0.1 fits c.1 in
    let rt = read_takes 84 arrival_of c.0.1 t.0.0 t.0.1 rc.takes.rest_fits t.1 in
    let rs = read_takes 83 sender_of t.0.1 s.0.0 s.0.1 rt.takes.rest_fits s.1 in
    let rr = recipients_are c.0.0.version c.0.0.recipients s.0.1 r.0.0 r.0.1 rs.takes.rest_fits r.1 in
    let rn = read_takes 78 (body_of c.0.0.content) r.0.1 n.0.0 n.0.1 rr.rest_fits n.1 in
    let re = read_takes 69 (body_of 0) n.0.1 e.0.0 e.0.1 rn.takes.rest_fits e.1 in
    subst (Steps bytes) g.1 (record { counts = c.0.0; r1 = c.0.1; r2 = t.0.1; r3 = s.0.1; r4 = r.0.1; r5 = n.0.1; r6 = e.0.1; last = e.0.0; version = refl; c = rc; t = rt; s = rs; rs = rr; n = rn; e = re; end = g.0 })

-- the same by the version of the message
recipients_of : (v w n : ℕ) (bytes : List ℕ) (rs : List FileRecipient) (rest : List ℕ) → w ≡ v → AreRecipients v n bytes rs rest → AreRecipients w n bytes rs rest
recipients_of v w n bytes rs rest same h = subst (λ k. AreRecipients k n bytes rs rest) (sym same) h

from_steps : (bytes : List ℕ) (m : FileMessage) → Steps bytes m → IsFileOf bytes m
unfolding file_bytes
from_steps bytes m k =
    let counts = counts_are k.c.body k.counts k.c.takes.body_fits k.c.means in
    let arrival = arrival_is k.t.body m.arrival k.t.takes.body_fits k.t.means in
    let sender = sender_is k.s.body m.sender k.s.means in
    let rs = recipients_of k.counts.version m.version k.counts.recipients k.r3 m.recipients k.r4 k.version k.rs in
    let content = body_is k.counts.content k.n.body m.content k.n.means in
    let last = body_is 0 k.e.body k.last k.e.means in
    let whole = joined bytes (record_bytes 67 k.c.body) k.r1 (record_bytes 84 k.t.body) k.r2 (record_bytes 83 k.s.body) k.r3 (recipients_bytes m.version rs.marks m.recipients) k.r4 (record_bytes 78 k.n.body) k.r5 (record_bytes 69 k.e.body) k.r6
    k.c.takes.parts k.t.takes.parts k.s.takes.parts rs.parts k.n.takes.parts k.e.takes.parts (nothing_left k.r6 k.end) in
    let short : length m.content ≤ content_limit m.version = subst (λ v. length m.content ≤ content_limit v) (sym k.version) (omega (arith, counts.short, content.1)) in
    record {
      marks = rs.marks;
      lawful = record { version = ap is_version k.version ∙ counts.known; sender = sender.1; arrival = arrival.1; some = omega (arith, counts.some, k.rs.count); few = omega (arith, counts.few, k.rs.count); addresses = rs.forms; content = short };
      agree = rs.agree;
      written = whole ∙ same_file k.c.body (counts_body m) k.t.body (to_be_bytes w64 m.arrival) k.s.body (unwrap_or m.sender []) (recipients_bytes m.version rs.marks m.recipients) k.n.body m.content k.e.body []
          (counts.text ∙ same_counts k.counts m.version (length m.recipients) (length m.content) k.version k.rs.count content.1) arrival.0 sender.0 content.0 (last.0 ∙ empty k.last last.1);
    }

-- bytes that a queue file can be are the file of the message that they say
pub queue_file_is : (bytes : List ℕ) (m : FileMessage) → AreBytes bytes → queue_file bytes ≡ Some m → IsFileOf bytes m
queue_file_is bytes m fits given = from_steps bytes m (steps bytes m fits given)
