-- Each message that comes is within its limits.
use Rattle.std.proofs.Common.{◌≡◌, ℕ, ◌+◌, ◌≤◌, ◌==◌, Bool, true, false, if◌then◌else◌, List, [], ◌∷◌, ◌++◌, Option, Some, None, length, nat_lt, refl, arith, subst, length-append, unwrap_or, ◌∙◌}
use Rattle.std.proofs.lemmas.Bool.{and_from, ltb-false, leb-false, eqb-false}
use Rattle.std.proofs.lemmas.List.Folds.{list_all-append}
use Rattle.std.specs.List.{list_all}
use Rattle.std.specs.Option.{option_map}
use Rattle.q_model.specs.Texts.{is_address}
use Rattle.q_model.specs.Values.{Receiver}
use Rattle.q_smtpd.specs.Commands.{alone, begins_content, carried_out, fault_of_envelope, is_full, is_sender, mail_fault, may_begin, or_full, path_fault, receiver, sender_of, text_of, unless, with_rcpt, with_recipient, with_sender}
use Rattle.q_smtpd.specs.Contents.{ends_line, is_final_dot, is_too_big}
use Rattle.q_smtpd.specs.Fits.{AllFit, AreAddresses, FitsAt, FitsCame, FitsEnvelope, is_plain}
use Rattle.q_smtpd.specs.Intakes.{comes, content_ends, content_line, line_comes, place_after, replies_from, replies_to, start}
use Rattle.q_smtpd.specs.LineEnds.{without_cr}
use Rattle.q_smtpd.specs.Paths.{from_path, to_path}
use Rattle.q_smtpd.specs.Places.{Came, Course, Envelope, Place, Reply, answers, commands, contents, left}
use Rattle.q_smtpd.specs.Verbs.{argument_of, is_missing, verb_of, word_of}
use Rattle.q_smtpd.specs.declared.answer.Answer.{Answer}
use Rattle.q_smtpd.specs.declared.answer.Answer.TheVariants.{Accepted, BadAddress, OutOfOrder}
use Rattle.q_smtpd.specs.declared.verb.Verb.{Verb}
use Rattle.q_smtpd.specs.declared.verb.Verb.TheVariants as verbs

fits_if : (t : Bool) (x y : Came) → FitsCame x → FitsCame y → FitsCame (if t then x else y)
fits_if true x y a b = a
fits_if false x y a b = b

answer_fits : (a : Answer) (c : Course) → FitsEnvelope c.envelope → FitsCame (answers a c)
answer_fits a c h = (h, (tt, tt))

unless_fits : (fault : Option Answer) (c : Course) (came : Came) → FitsEnvelope c.envelope → (fault ≡ None → FitsCame came) → FitsCame (unless fault c came)
unless_fits (Some fault) c came h f = answer_fits fault c h
unless_fits None c came h f = f refl

alone_fits : (argument : Option (List ℕ)) (c : Course) (came : Came) → FitsEnvelope c.envelope → FitsCame came → FitsCame (alone argument c came)
alone_fits None c came h f = f
alone_fits (Some text) c came h f = (h, (tt, tt))

-- ---- addresses

-- the text of a path without a fault has the form that is asked
path_fits : (fits : List ℕ → Bool) (path : Option (List ℕ × List ℕ)) → path_fault fits path ≡ None → fits (text_of path) ≡ true
path_fits fits None none = cc
path_fits fits (Some path) none = by (fits path.0) refl
  where
    by : (t : Bool) → fits path.0 ≡ t → fits path.0 ≡ true
    by true e = e
    by false e = let x : Some BadAddress ≡ None = rw e at none in cc

mail_path : (c : Course) (path : Option (List ℕ × List ℕ)) → mail_fault c path ≡ None → path_fault is_sender path ≡ None
mail_path c path none = by (may_begin c) refl
  where
    by : (t : Bool) → may_begin c ≡ t → path_fault is_sender path ≡ None
    by true e = rw e at none
    by false e = let x : Some OutOfOrder ≡ None = rw e at none in cc

sender_fits : (text : List ℕ) → is_sender text ≡ true → AreAddresses (sender_of text) []
sender_fits text is = by (length text == 0) refl
  where
    by : (t : Bool) → (length text == 0) ≡ t → AreAddresses (sender_of text) []
    by true e = rw e (record { from = refl; each = refl })
    by false e = let of : is_address text ≡ true = rw e at is in rw e (record { from = of; each = refl })

all_more : (p : Receiver → Bool) (rs : List Receiver) (r : Receiver) → list_all p rs ≡ true → p r ≡ true → list_all p (rs ++ r ∷ []) ≡ true
all_more p rs r all one = list_all-append p rs (r ∷ []) ∙ and_from (list_all p rs) (list_all p (r ∷ [])) all (rw one refl)

-- a recipient more, where the envelope isn't full
added_fits : (text : List ℕ) (fault : Option Answer) (envelope : Option Envelope) → (fault ≡ None → is_address text ≡ true) → FitsEnvelope envelope → fault_of_envelope fault envelope ≡ None → FitsEnvelope (option_map (with_recipient text) envelope)
added_fits text fault None form h none = tt
added_fits text (Some fault) (Some d) form h none = cc
added_fits text None (Some d) form h none = by (is_full d) refl
  where
    one : is_plain (receiver text) ≡ true
    one = and_from (is_address text) true (form refl) refl

    by : (t : Bool) → is_full d ≡ t → FitsEnvelope (Some (with_recipient text d))
    by true e = let x : or_full None true ≡ None = subst (λ (t : Bool). or_full None t ≡ None) e none in cc
    by false e =
        let few = leb-false 50000 (length d.to) e in
        (record { from = h.0.from; each = all_more is_plain d.to (receiver text) h.0.each one }, omega (arith, few, length-append d.to (receiver text ∷ [])))

content_fits : (c : Course) (envelope : Option Envelope) → FitsEnvelope c.envelope → FitsEnvelope envelope → FitsCame (begins_content c envelope)
content_fits c None h f = (h, (tt, tt))
content_fits c (Some d) h f = by (length d.to == 0) refl
  where
    by : (t : Bool) → (length d.to == 0) ≡ t → FitsCame (begins_content c (Some d))
    by true e = rw e (h, (tt, tt))
    by false e = let some = eqb-false (length d.to) 0 e in rw e ((f.0, omega arith, f.1), (tt, tt))

command_fits : (verb : Verb) (argument : Option (List ℕ)) (c : Course) → FitsEnvelope c.envelope → FitsCame (carried_out verb argument c)
command_fits verbs.Hello argument c h = fits_if (is_missing argument) _ _ (h, (tt, tt)) (tt, (tt, tt))
command_fits verbs.Mail argument c h =
    let path = from_path (unwrap_or argument []) in
    unless_fits (mail_fault c path) c (answers Accepted (with_sender (text_of path) c)) h
    (λ e. ((sender_fits (text_of path) (path_fits is_sender path (mail_path c path e)), omega arith), (tt, tt)))
command_fits verbs.Rcpt argument c h =
    let path = to_path (unwrap_or argument []) in
    let fault = path_fault is_address path in
    unless_fits (fault_of_envelope fault c.envelope) c (answers Accepted (with_rcpt (text_of path) c)) h (λ e. (added_fits (text_of path) fault c.envelope (path_fits is_address path) h e, (tt, tt)))
command_fits verbs.Data argument c h = alone_fits argument c (begins_content c c.envelope) h (content_fits c c.envelope h h)
command_fits verbs.Reset argument c h = alone_fits argument c _ h (tt, (tt, tt))
command_fits verbs.Noop argument c h = alone_fits argument c _ h (h, (tt, tt))
command_fits verbs.Verify argument c h = fits_if (is_missing argument) _ _ (h, (tt, tt)) (h, (tt, tt))
command_fits verbs.Quit argument c h = alone_fits argument c _ h (tt, (tt, tt))
command_fits verbs.Other argument c h = (h, (tt, tt))

ended_fits : (d : Envelope) (content : List ℕ) → AreAddresses d.sender d.to → 1 ≤ length d.to → length d.to ≤ 50000 → FitsCame (content_ends d content)
ended_fits d content are some few = by (is_too_big content) refl
  where
    by : (t : Bool) → is_too_big content ≡ t → FitsCame (content_ends d content)
    by true e = rw e (tt, (tt, tt))
    by false e = let short = ltb-false 10240000 (length content) e in rw e (tt, (record { addresses = are; some = some; few = few; short = omega arith }, tt))

pub comes_fits : (p : Place) (b : ℕ) → FitsAt p → FitsCame (comes p b)
comes_fits (commands c line) b h =
    fits_if (b == 10) (line_comes c line) _ (fits_if (nat_lt 512 (length line + 1)) _ _ (h, (tt, tt)) (command_fits (verb_of (word_of (without_cr line))) (argument_of (without_cr line)) c h)) (h, tt)
comes_fits (contents d text line) b h =
    fits_if (ends_line line b) (content_line d text (without_cr line)) _ (fits_if (is_final_dot (without_cr line)) _ _ (ended_fits d text h.0 h.1 h.2) (h, tt)) (h, tt)
comes_fits left b h = (tt, tt)

both_fit : (xs ys : List Reply) → AllFit xs → AllFit ys → AllFit (xs ++ ys)
both_fit [] ys a b = b
both_fit (x ∷ xs) ys a b = (a.0, both_fit xs ys a.1 b)

pub place_fits : (p : Place) (bytes : List ℕ) → FitsAt p → FitsAt (place_after p bytes)
unfolding place_after
place_fits p [] h = h
place_fits p (b ∷ bytes) h = place_fits (comes p b).place bytes (comes_fits p b h).0

replies_fit : (p : Place) (bytes : List ℕ) → FitsAt p → AllFit (replies_from p bytes)
unfolding replies_from
replies_fit p [] h = tt
replies_fit p (b ∷ bytes) h = both_fit (comes p b).replies (replies_from (comes p b).place bytes) (comes_fits p b h).1 (replies_fit (comes p b).place bytes (comes_fits p b h).0)

-- of all bytes that a link may give
pub all_fit : (received : List ℕ) → AllFit (replies_to received)
all_fit received = (tt, replies_fit start received tt)
