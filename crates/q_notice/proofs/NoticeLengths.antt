-- How long a notice may be.
use Rattle.std.proofs.Common.{◌≡◌, ◌≤◌, ◌<◌, ◌*◌, ◌+◌, ◌^◌, ◌++◌, ◌∷◌, [], List, ap, arith, length, min, refl, true, ℕ}
use Rattle.std.proofs.Math.Nat.{min-le_left}
use Rattle.std.proofs.lemmas.Bool.{and_parts, leb-true}
use Rattle.std.proofs.lemmas.Fmt.{length-decimal-le}
use Rattle.std.proofs.lemmas.List.{length-append}
use Rattle.std.specs.List.{list_all}
use Rattle.std.specs.Prelude.{◌&&◌, Bool, Err, Ok, OnOk, Result, Some, codes, decimal, nat_le, nat_lt}
use Rattle.q_model.proofs.IdLaws.{length-id_text-le}
use Rattle.q_model.specs.IdTexts.{id_text}
use Rattle.q_model.specs.Notices.{original_text}
use Rattle.q_model.specs.TextParts.{text_line, why_text}
use Rattle.q_model.specs.Texts.{domain_from, is_address, is_address_byte}
use Rattle.q_model.specs.Values.{Receiver}
use Rattle.q_model.specs.declared.id.Id.{Id}
use Rattle.q_model.specs.declared.outcome.Failure.{Failure}
use Rattle.q_model.specs.declared.outcome.Why.{Why}
use Rattle.q_model.specs.declared.outcome.Why.TheVariants.{Expired, Refused}
use Rattle.q_notice.specs.NoticeTexts.{head_lines, named_failure, size_lines}

-- an address has 254 bytes at most
address_short : (address : List ℕ) → is_address address ≡ true → length address ≤ 254
address_short address h =
    let sizes : Bool = nat_le 3 (length address) && nat_le (length address) 254 in
    let bytes : Bool = sizes && list_all is_address_byte address in
    let domain : Bool = bytes && nat_lt 0 (length (domain_from address [])) in
    let three = and_parts domain (nat_lt (length (domain_from address []) + 1) (length address)) h in
    let two = and_parts bytes (nat_lt 0 (length (domain_from address []))) three.0 in
    let one = and_parts sizes (list_all is_address_byte address) two.0 in
    leb-true (length address) 254 (and_parts (nat_le 3 (length address)) (nat_le (length address) 254) one.0).1

line_length : (text : List ℕ) → length (text_line text) ≡ length text + 1
line_length text = length-append text (10 ∷ [])

why_length : (why : Why) → length (why_text why) ≡ 7
why_length Refused = refl
why_length Expired = refl

failure_length : (address said : List ℕ) (f : Failure) → length address ≤ 254 → length said ≤ 261 → f.code < 2 ^ 16 → length (text_line ((((address ++ said) ++ codes ": ") ++ why_text f.why) ++ 32 ∷ decimal f.code)) ≤ 541
failure_length address said f short few code =
    let colon = codes ": " in
    let why = why_text f.why in
    let number = decimal f.code in
    let named = address ++ said in
    let whole = ((named ++ colon) ++ why) ++ 32 ∷ number in
    let digits = length-decimal-le 5 f.code (omega arith) (omega (arith, code)) (omega (arith, code)) in
    let two : length colon ≡ 2 = refl in
    let last : length (32 ∷ number) ≡ length number + 1 = omega arith in
    omega (arith, line_length whole, length-append ((named ++ colon) ++ why) (32 ∷ number), length-append (named ++ colon) why, length-append named colon, length-append address said, why_length f.why, digits, two, last, short, few)

pub line_short : (r : Receiver) (f : Failure) → is_address r.address ≡ true → length (original_text r.original) ≤ 261 → f.code < 2 ^ 16 → length (named_failure r f) ≤ 541
line_short r f form few code = failure_length r.address (original_text r.original) f (address_short r.address form) few code

pub original_length : (address : List ℕ) → is_address address ≡ true → length (original_text (Some address)) ≤ 261
original_length address form =
    let front : length (codes " (for ") ≡ 6 = refl in
    let last : length (codes ")") ≡ 1 = refl in
    omega (arith, length-append (codes " (for " ++ address) (codes ")"), length-append (codes " (for ") address, front, last, address_short address form)

pub always_ok : {T E : Type 0} {P : Type 0} (r : Result T E) → P → OnOk r P
always_ok (Ok v) h = h
always_ok (Err e) h = tt

abbrev the_from : List ℕ
the_from = codes "From: MAILER-DAEMON"

abbrev the_subject : List ℕ
the_subject = codes "Subject: Undelivered Mail Returned to Sender"

abbrev these : List ℕ
these = codes "These recipients of message "

abbrev not_reached : List ℕ
not_reached = codes " were not reached:"

head_length : (id : Id) (sender : List ℕ) → length sender ≤ 254 → length (head_lines id sender) ≤ 600
head_length id sender short =
    let to = codes "To: " ++ sender in
    let named = (these ++ id_text id) ++ not_reached in
    let one = text_line the_from ++ text_line to in
    let two = one ++ text_line the_subject in
    let three = two ++ text_line [] in
    let four = three ++ text_line named in
    let first : length the_from ≡ 19 = refl in
    let front : length (codes "To: ") ≡ 4 = refl in
    let second : length the_subject ≡ 44 = refl in
    let third : length these ≡ 28 = refl in
    let last : length not_reached ≡ 18 = refl in
    let none : length (text_line []) ≡ 1 = refl in
    let all : length (head_lines id sender) ≡ length two + length (text_line named) + 2 = omega (arith, length-append four (text_line []), length-append three (text_line named), length-append two (text_line []), none) in
    omega (arith, all, length-append one (text_line the_subject), length-append (text_line the_from) (text_line to), line_length the_from, line_length to, line_length the_subject, line_length named, length-append (codes "To: ") sender, length-append (these ++ id_text id) not_reached, length-append these (id_text id), length-id_text-le id, first, front, second, third, last, short)

pub head_within : (id : Id) (sender old new : List ℕ) → is_address sender ≡ true → new ≡ old ++ head_lines id sender → length new ≤ length old + 600
head_within id sender old new form is =
    omega (arith, ap length is, length-append old (head_lines id sender), head_length id sender (address_short sender form))

abbrev had : List ℕ
had = codes "The message had "

abbrev its_first : List ℕ
its_first = codes " bytes. Its first "

abbrev follow : List ℕ
follow = codes " bytes follow."

size_length : (size : ℕ) → size < 2 ^ 32 → length (size_lines size) ≤ 100
size_length size below =
    let one = had ++ decimal size in
    let two = one ++ its_first in
    let three = two ++ decimal (min size 50000) in
    let line = three ++ follow in
    let first : length had ≡ 16 = refl in
    let second : length its_first ≡ 18 = refl in
    let third : length follow ≡ 14 = refl in
    let none : length (text_line []) ≡ 1 = refl in
    let long = length-decimal-le 10 size (omega arith) (omega (arith, below)) (omega (arith, below)) in
    let less = min-le_left size 50000 in
    let front = length-decimal-le 10 (min size 50000) (omega arith) (omega (arith, less, below)) (omega (arith, less, below)) in
    omega (arith, length-append (text_line [] ++ text_line line) (text_line []), length-append (text_line []) (text_line line), line_length line, length-append three follow, length-append two (decimal (min size 50000)), length-append one its_first, length-append had (decimal size), first, second, third, none, long, front)

pub size_within : (size : ℕ) (old new : List ℕ) → size < 2 ^ 32 → new ≡ old ++ size_lines size → length new ≤ length old + 100
size_within size old new below is = omega (arith, ap length is, length-append old (size_lines size), size_length size below)

-- a queue file can hold the whole
pub notice_fits : (n : ℕ) (t a b c d front : List ℕ) → t ≡ [] → length a ≤ length t + 600 → length b ≤ length a + 541 * n → length c ≤ length b + 100 → d ≡ c ++ front
    → length front ≤ 50000 → n ≤ 50000 → length d ≤ 40000000
notice_fits n t a b c d front none head named size last short few =
    let empty : length t ≡ 0 = ap length none in
    omega (arith, empty, head, named, size, ap length last, length-append c front, short, few)
