-- What the record of a link says of its session, by what the session says of its link.
use Rattle.std.proofs.Common.{◌≡◌, ℕ, ◌+◌, ◌≤◌, true, false, List, [], ◌∷◌, ◌++◌, length, take, refl, sym, ap, ◌∙◌, arith, length-append}
use Rattle.std.proofs.Math.Seq.{take-append_seam}
use Rattle.std.proofs.lemmas.Grind.{flat_map-append}
use Rattle.std.proofs.lemmas.List.{append-nil}
use Rattle.q_link.specs.Views.{Told}
use Rattle.q_listen.proofs.Dots.{dots_few}
use Rattle.q_listen.specs.Links.{begun_replies}
use Rattle.q_smtpd.specs.Answers.{answer_line}
use Rattle.q_smtpd.specs.Hearings.{Holds, taking}
use Rattle.q_smtpd.specs.Intakes.{bytes_of, due, is_left, mails, mails_of, place_of, quits, replies_to}
use Rattle.q_smtpd.specs.Places.{Mail, Place, Reply, commands, contents, left}
use Rattle.q_smtpd.specs.Polls.{CompletesAt}
use Rattle.q_smtpd.specs.Sessions.{Follows, owed}
use Rattle.q_smtpd.specs.declared.answer.Answer.TheVariants.{Accepted}
use Rattle.q_smtpd.specs.declared.hearing.Hearing.{Hearing}
use Rattle.q_smtpd.specs.declared.hearing.Stage.TheVariants.{Left}
use Rattle.q_smtpd.specs.declared.session.Session.{Session}

pub front_taken : (sent rest whole : List ℕ) → sent ++ rest ≡ whole → sent ≡ take (length sent) whole
front_taken sent rest whole e = sym (ap (take (length sent)) (sym e) ∙ take-append_seam sent rest)

-- ---- how a session ended

left_place : (p : Place) (h : Hearing) → Holds p h → h.stage ≡ Left → is_left p ≡ true
left_place (commands c line) h holds is = let s = holds.stage in cc
left_place (contents d text line) h holds is = let s = holds.stage in cc
left_place left h holds is = refl

pub all_sent : (s : Session) (t : Told) → s.outbox ≡ [] → s.untaken ≡ false → Follows s t → t.sent ≡ due t.received
all_sent s t outbox untaken f = sym (append-nil t.sent) ∙ rw (outbox, untaken) at f.sent

-- its client took leave
pub left_ends : (s : Session) (t : Told) → s.hearing.stage ≡ Left → s.outbox ≡ [] → s.untaken ≡ false → Follows s t → (quits t.received ≡ true) × (t.sent ≡ due t.received)
left_ends s t is outbox untaken f = (left_place (place_of t.received) s.hearing f.holds is, all_sent s t outbox untaken f)

-- ---- final dots that were answered

-- at most the messages that came, where none waits
pub dots_taken : (s : Session) (t : Told) → Follows s t → length (mails_of (begun_replies (length t.sent) (replies_to t.received))) ≤ length (mails t.received)
dots_taken s t f =
    let reach : length t.sent ≤ length (due t.received) = omega (arith, ap (λ (x : List ℕ). length x) f.sent, length-append t.sent (s.outbox ++ owed s.untaken)) in
    rw (append-nil (replies_to t.received)) at (dots_few (replies_to t.received) [] (length t.sent) reach)

-- and one fewer where a message was given that isn't taken yet
pub dots_untaken : (s : Session) (mail : Mail) (before t : Told) → s.outbox ≡ [] → s.untaken ≡ true → Follows s t → CompletesAt mail before t
    → length (mails_of (begun_replies (length t.sent) (replies_to t.received))) ≤ length (mails before.received)
dots_untaken s mail before t outbox untaken f c =
    let text = answer_line Accepted in
    let all : t.sent ++ text ≡ due t.received = rw (outbox, untaken) at f.sent in
    let whole : due t.received ≡ bytes_of c.front ++ text = ap bytes_of c.replies_are ∙ last c.front in
    let same : length t.sent + length text ≡ length (bytes_of c.front) + length text = sym (length-append t.sent text) ∙ ap (λ (x : List ℕ). length x) (all ∙ whole) ∙ length-append (bytes_of c.front) text in
    let reach : length t.sent ≤ length (bytes_of c.front) = omega (arith, same) in
    rw (c.replies_are, ← c.mails_are) (dots_few c.front (taking mail ∷ []) (length t.sent) reach)
  where
    last : (front : List Reply) → bytes_of (front ++ taking mail ∷ []) ≡ bytes_of front ++ answer_line Accepted
    last front = flat_map-append (λ (r : Reply). r.text) front (taking mail ∷ [])
