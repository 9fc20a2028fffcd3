-- What the record of a link says of its session, by each way in which that ends.
use Rattle.std.proofs.Common.{◌≡◌, ℕ, ◌≤◌, ◌<◌, inl, inr, true, false, List, [], ◌++◌, length, take, sym, ap, ◌∙◌, arith, subst, length-append}
use Rattle.std.proofs.lemmas.List.{append-nil}
use Rattle.q_door.specs.Doors.{ToldDoor, closed}
use Rattle.q_link.specs.Reads.{Rose}
use Rattle.q_link.specs.Views.{Told, View}
use Rattle.q_listen.proofs.Dots.{dots_few}
use Rattle.q_listen.proofs.Records.{all_sent, dots_taken, dots_untaken, front_taken, left_ends}
use Rattle.q_listen.specs.Links.{IsAnswered, IsEnded, begun_replies}
use Rattle.q_smtpd.proofs.Following.{due-snoc, replies-snoc}
use Rattle.q_smtpd.specs.Answers.{timeout_line}
use Rattle.q_smtpd.specs.Intakes.{bytes_of, comes, due, mails, mails_of, place_of, replies_to}
use Rattle.q_smtpd.specs.Places.{Mail, Reply}
use Rattle.q_smtpd.specs.Polls.{CompletesAt, IsOver, StopsAt, TimesOut}
use Rattle.q_smtpd.specs.Sessions.{Follows, owed}
use Rattle.q_smtpd.specs.declared.session.Session.{Session}

reach : (sent rest whole : List ℕ) → sent ++ rest ≡ whole → length sent ≤ length whole
reach sent rest whole e = let size = ap (λ (x : List ℕ). length x) e in omega (arith, size, length-append sent rest)

-- no message waits
pub answered : (v : View) (door : ToldDoor) (s : Session) (t : Told) → Follows s t → IsAnswered (closed v t door) (mails t.received)
answered v door s t f = record {
  of_replies = length t.sent;
  of_timeout = 0;
  within = reach t.sent (s.outbox ++ owed s.untaken) (due t.received) f.sent;
  sent = front_taken t.sent (s.outbox ++ owed s.untaken) (due t.received) f.sent ∙ sym (append-nil (take (length t.sent) (due t.received)));
  dots = dots_taken s t f;
}

-- a message was given, and isn't taken
pub answered_untaken : (v : View) (door : ToldDoor) (s : Session) (mail : Mail) (before t : Told) → s.outbox ≡ [] → s.untaken ≡ true → Follows s t → CompletesAt mail before t
    → IsAnswered (closed v t door) (mails before.received)
unfolding answered
answered_untaken v door s mail before t outbox untaken f c =
    let a = answered v door s t f in
    record { of_replies = a.of_replies; of_timeout = a.of_timeout; within = a.within; sent = a.sent; dots = dots_untaken s mail before t outbox untaken f c }

-- the client was late
pub answered_late : (v : View) (door : ToldDoor) (s : Session) (before t : Told) → Follows s before → TimesOut before t → IsAnswered (closed v t door) (mails before.received)
unfolding answered
answered_late v door s before t f late =
    let a = answered v door s before f in
    record {
      of_replies = length before.sent;
      of_timeout = late.sent.0;
      within = subst (λ (x : List ℕ). length before.sent ≤ length (due x)) (sym late.received) a.within;
      sent = late.sent.1 ∙ ap (λ (x : List ℕ). x ++ take late.sent.0 timeout_line) (front_taken before.sent (s.outbox ++ owed s.untaken) (due before.received) f.sent ∙ ap (λ (x : List ℕ). take (length before.sent) (due x)) (sym late.received));
      dots = subst (λ (x : List ℕ). length (mails_of (begun_replies (length before.sent) (replies_to x))) ≤ length (mails before.received)) (sym late.received) a.dots;
    }

-- memory ran out at a byte
pub answered_stopped : (v : View) (door : ToldDoor) (before t : Told) → StopsAt before t → IsAnswered (closed v t door) (mails before.received)
answered_stopped v door before t stop =
    let more = (comes (place_of stop.seen) stop.byte).replies in
    let whole : t.sent ++ bytes_of more ≡ due t.received = ap (λ (x : List ℕ). x ++ bytes_of more) stop.sent ∙ sym (due-snoc stop.seen stop.byte) ∙ ap due (sym stop.received) in
    let size = ap (λ (x : List ℕ). length x) stop.sent in
    let few : length t.sent ≤ length (bytes_of (replies_to stop.seen)) = omega (arith, size) in
    let replies : replies_to t.received ≡ replies_to stop.seen ++ more = ap replies_to stop.received ∙ replies-snoc stop.seen stop.byte in
    let same : length (mails stop.seen) ≡ length (mails before.received) = ap (λ (ms : List Mail). length ms) stop.mails_are in
    let dots : length (mails_of (begun_replies (length t.sent) (replies_to t.received))) ≤ length (mails stop.seen) =
    subst (λ (rs : List Reply). length (mails_of (begun_replies (length t.sent) rs)) ≤ length (mails stop.seen)) (sym replies) (dots_few (replies_to stop.seen) more (length t.sent) few) in
    record {
      of_replies = length t.sent;
      of_timeout = 0;
      within = reach t.sent (bytes_of more) (due t.received) whole;
      sent = front_taken t.sent (bytes_of more) (due t.received) whole ∙ sym (append-nil (take (length t.sent) (due t.received)));
      dots = omega (arith, dots, same);
    }

-- ---- why it ended

rose_some : (a b : ℕ) → Rose a b → 0 < b
rose_some a b (inl more) = omega (arith, more)
rose_some a b (inr last) = omega (arith, last)

pub ended : (v : View) (door : ToldDoor) (s : Session) (old : View) (t : Told) → IsOver s old v → s.untaken ≡ false → Follows s t → IsEnded (closed v t door)
ended v door s old t (inl leave) untaken f = inl (left_ends s t leave.0 leave.1 untaken f)
ended v door s old t (inr (inl end)) untaken f = inr (inl (end.0, all_sent s t end.1 untaken f))
ended v door s old t (inr (inr (inl many))) untaken f = inr (inr (inr (let count = f.count in omega (arith, many, count))))
ended v door s old t (inr (inr (inr rose))) untaken f = inr (inr (inl (rose_some old.faults v.faults rose)))
