-- What filling the outbox from a file that says a mail leaves to be sent.
use Rattle.std.proofs.Common.{◌≡◌, ◌+◌, ◌-◌, ◌<◌, ◌≤◌, ◌++◌, ◌∙◌, [], ap, arith, Bool, cond, drop, false, length, List, min, Option, refl, Some, subst, sym, take, true, ℕ}
use Rattle.std.specs.Option.{IfSome, option_and_then, option_map}
use Rattle.std.proofs.Math.Seq.{drop-append-add}
use Rattle.std.proofs.lemmas.List.{append-nil, append_assoc, drop-append-le, drop-drop, drop_all, length-append, length-drop, take-append-drop, take-append-le}
use Rattle.q_content.specs.Encoding.{behind_bytes, sent_bytes, sent_end, sent_rest}
use Rattle.q_content.specs.declared.encoding.ContentLine.{ContentLine}
use Rattle.q_content.proofs.EncodingLaws.{sent_rest-append}
use Rattle.q_model.specs.QueueFile.{queue_file}
use Rattle.q_session.specs.Mails.{Mail, mail_of}
use Rattle.q_session.specs.Outgoing.{Outgoing}
use Rattle.q_session.specs.Sending.{Fills, IsPieceAt, IsPlaced, to_send, unsent}
use Rattle.q_session.specs.declared.content.Content.{Content}
use Rattle.q_session.proofs.ContentPlaces.{ContentStands, file_content}

-- the end is in the outbox
end_fills : (mail : Mail) (old new : Content) (o : Outgoing) → old.left ≡ 0 → IsPlaced mail old → new ≡ record old { idle = true } → o ≡ record { bytes = sent_end old.line; gone = 0 } → Fills mail old new o
unfolding sent_bytes behind_bytes
end_fills mail old new o none placed content bytes =
    let nothing : drop (length mail.content - old.left) mail.content ≡ [] = drop_all (length mail.content - old.left) mail.content (omega arith) in
    subst (λ (x : Content). Fills mail old x o) (sym content) (record {
      bytes = ap (λ (x : Outgoing). x.bytes ++ []) bytes ∙ append-nil (sent_end old.line) ∙ ap (sent_rest old.line) (sym nothing);
      gone = ap (λ (x : Outgoing). x.gone) bytes;
      placed = record { left = placed.left; place = placed.place };
    })

-- the end alone is in the outbox
pub end_alone_fills : (mail : Mail) (old new : Content) (cleared o : Outgoing) → old.left ≡ 0 → IsPlaced mail old → new ≡ record old { idle = true } → cleared ≡ record { bytes = []; gone = 0 } → o ≡ record { bytes = cleared.bytes ++ sent_end old.line; gone = cleared.gone } → Fills mail old new o
end_alone_fills mail old new cleared o none placed content empty bytes =
    end_fills mail old new o none placed content (bytes ∙ ap (λ (x : Outgoing). record { bytes = x.bytes ++ sent_end old.line; gone = x.gone }) empty)

-- the file from the next byte on
rest_of : (file : List ℕ) (mail : Mail) (c : Content) (k : ContentStands file mail) → IsPlaced mail c → drop c.at file ≡ drop (length mail.content - c.left) mail.content ++ k.back
rest_of file mail c k placed =
    let before = length mail.content - c.left in
    let at : c.at ≡ length k.front + before = omega (arith, k.place, placed.place, placed.left) in
    ap (drop c.at) k.parts
    ∙ ap (λ (n : ℕ). drop n (k.front ++ (mail.content ++ k.back))) at
    ∙ drop-append-add k.front (mail.content ++ k.back) before
    ∙ drop-append-le before mail.content k.back (omega arith)

-- the bytes that the file has where the content goes on
rest_long : (file : List ℕ) (mail : Mail) (c : Content) (k : ContentStands file mail) → IsPlaced mail c → c.at + c.left ≤ length file
rest_long file mail c k placed =
    omega (arith, k.place, placed.place, ap (λ (xs : List ℕ). length xs) k.parts, length-append k.front (mail.content ++ k.back), length-append mail.content k.back)

abbrev Says : Option (List ℕ) → Mail → Type 0
Says o mail = option_map mail_of (option_and_then queue_file o) ≡ Some mail

-- A file that says the mail doesn't end within a piece of the content.
pub not_short : (o : Option (List ℕ)) (mail : Mail) (c : Content) (piece : List ℕ) (whole : Bool) → Says o mail → IsPlaced mail c → length piece ≤ c.left → IfSome o (IsPieceAt c.at piece whole) → whole ≡ false → ⊥
not_short o mail c piece true says placed few read is = cc
not_short o mail c piece false says placed few read is =
    let f = file_content o mail says in
    let less : length f.0 < c.at + length piece = subst (λ (x : Option (List ℕ)). IfSome x (IsPieceAt c.at piece false)) f.1 read in
    omega (arith, less, rest_long f.0 mail c f.2 placed, few)

-- what was read is the next piece of the content
piece_is : (file : List ℕ) (mail : Mail) (c : Content) (piece : List ℕ) (k : ContentStands file mail) → IsPlaced mail c → length piece ≤ c.left → IsPieceAt c.at piece true file → piece ≡ take (length piece) (drop (length mail.content - c.left) mail.content)
piece_is file mail c piece k placed few read =
    let left = drop (length mail.content - c.left) mail.content in
    read ∙ ap (take (length piece)) (rest_of file mail c k placed)
    ∙ take-append-le (length piece) left k.back (omega (arith, length-drop (length mail.content - c.left) mail.content, placed.left, few))

-- what is sent of the piece and of the rest
sent_on : (content piece : List ℕ) (line : ContentLine) (left : ℕ) → left ≤ length content → length piece ≤ left → piece ≡ take (length piece) (drop (length content - left) content) → sent_bytes line piece ++ sent_rest (behind_bytes line piece) (drop (length content - (left - length piece)) content) ≡ sent_rest line (drop (length content - left) content)
sent_on content piece line left within few is =
    let n = length piece in
    let before = length content - left in
    let now_at : length content - (left - n) ≡ before + n = omega (arith, within, few) in
    ap (λ (k : ℕ). sent_bytes line piece ++ sent_rest (behind_bytes line piece) (drop k content)) now_at
    ∙ ap (λ (xs : List ℕ). sent_bytes line piece ++ sent_rest (behind_bytes line piece) xs) (sym (drop-drop n before content))
    ∙ sym (sent_rest-append line piece (drop n (drop before content)))
    ∙ ap (λ (xs : List ℕ). sent_rest line (xs ++ drop n (drop before content))) is
    ∙ ap (sent_rest line) (take-append-drop n (drop before content))

-- the next piece is in the outbox
pub piece_fills : (o : Option (List ℕ)) (mail : Mail) (c : Content) (piece : List ℕ) (whole : Bool) (at count : ℕ) (line : ContentLine) (out : Outgoing) → Says o mail → IsPlaced mail c → length piece ≡ count → count ≤ c.left → IfSome o (IsPieceAt c.at piece whole) → whole ≡ true → c.idle ≡ false → at ≡ min (c.at + count) 18446744073709551615 → line ≡ behind_bytes c.line piece → out ≡ record { bytes = sent_bytes c.line piece; gone = 0 } → Fills mail c (record c { at = at; left = c.left - count; line = line }) out
piece_fills o mail c piece false at count line out says placed size few read is idle place behind bytes = absurd cc
piece_fills o mail c piece true at count line out says placed size few read is idle place behind bytes =
    let f = file_content o mail says in
    let content = mail.content in
    let short : length piece ≤ c.left = omega (arith, size, few) in
    let there : IsPieceAt c.at piece true f.0 = subst (λ (x : Option (List ℕ)). IfSome x (IsPieceAt c.at piece true)) f.1 read in
    let next = piece_is f.0 mail c piece f.2 placed short there in
    record {
      bytes = ap (λ (x : Outgoing). x.bytes ++ unsent content (record c { at = at; left = c.left - count; line = line })) bytes
          ∙ ap (λ (b : Bool). sent_bytes c.line piece ++ cond b [] (sent_rest line (drop (length content - (c.left - count)) content))) idle
          ∙ ap (λ (l : ContentLine). sent_bytes c.line piece ++ sent_rest l (drop (length content - (c.left - count)) content)) behind
          ∙ ap (λ (n : ℕ). sent_bytes c.line piece ++ sent_rest (behind_bytes c.line piece) (drop (length content - (c.left - n)) content)) (sym size)
          ∙ sent_on content piece c.line c.left placed.left short next;
      gone = ap (λ (x : Outgoing). x.gone) bytes;
      placed = record { left = omega (arith, placed.left); place = omega (arith, place, placed.place, f.2.few, few) };
    }

-- the last piece is in the outbox, and then the end too
pub last_fills : (mail : Mail) (old mid new : Content) (out o : Outgoing) → Fills mail old mid out → mid.idle ≡ false → mid.left ≡ 0 → new ≡ record mid { idle = true } → o ≡ record { bytes = out.bytes ++ sent_end mid.line; gone = out.gone } → Fills mail old new o
last_fills mail old mid new out o first busy none content bytes =
    let e = end_fills mail mid new (record { bytes = sent_end mid.line; gone = 0 }) none first.placed content refl in
    let left : unsent mail.content mid ≡ to_send mail.content mid = ap (λ (b : Bool). cond b [] (to_send mail.content mid)) busy in
    record {
      bytes = ap (λ (x : Outgoing). x.bytes ++ unsent mail.content new) bytes ∙ append_assoc out.bytes (sent_end mid.line) (unsent mail.content new)
          ∙ ap (λ (xs : List ℕ). out.bytes ++ xs) (e.bytes ∙ sym left) ∙ first.bytes;
      gone = ap (λ (x : Outgoing). x.gone) bytes ∙ first.gone;
      placed = e.placed;
    }
