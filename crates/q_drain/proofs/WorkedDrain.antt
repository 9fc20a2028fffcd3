-- A worked drain: two recipients, one of whom is refused; the hop sends its bytes one by one, and has no second link for the bounce.
use Rattle.std.proofs.Common.{◌≡◌, ℕ, zero, suc, List, [], ◌∷◌, ◌++◌, Some, None, true, false, refl, codes, inl, inr, lit<, drop, ap, length, sym, subst, ◌∙◌}
use Rattle.std.proofs.lemmas.Option.{same_Some}
use Rattle.std.specs.List.{AllByRecursion}
use Rattle.std.specs.Prelude.{count_by, unwrap_or}
use native.Mathlib.Omega.{arith}
use Rattle.std.specs.Fmt.{digits}
use Rattle.q_model.specs.declared.entry.Entry.{Entry}
use Rattle.q_model.specs.declared.entry.Entry.TheVariants as entries
use Rattle.q_model.specs.declared.event.Mode.TheVariants.{Deliver}
use Rattle.q_model.specs.declared.id.Id.{Id}
use Rattle.q_model.specs.declared.outcome.Outcome.{Outcome}
use Rattle.q_model.specs.declared.outcome.Outcome.TheVariants as outcomes
use Rattle.q_model.specs.declared.outcome.SiteState.TheVariants.{Up, Down}
use Rattle.q_model.specs.declared.outcome.Why.TheVariants.{Refused}
use Rattle.q_model.specs.declared.rows.Place.TheVariants.{Incoming, Active}
use Rattle.q_model.specs.Book.{Book, message_of}
use Rattle.q_model.specs.IdTexts.{hex}
use Rattle.q_model.specs.Ledger.{Ledger, opening}
use Rattle.q_model.specs.Message.{Message, new_recipient}
use Rattle.q_model.specs.Next.{next}
use Rattle.q_model.specs.Run.{run, turn, decisions, decide}
use Rattle.q_model.specs.Settings.{World, defaults}
use Rattle.q_model.specs.Step.{after, after_all, allowed}
use Rattle.q_model.specs.Values.{Receiver, Site}
use Rattle.q_link.specs.Records.{Closed}
use Rattle.q_link.specs.Routes.{has_route}
use Rattle.q_numbers.specs.Pieces.{cut}
use Rattle.q_smtp.specs.Replies.{codes_from}
use Rattle.q_smtp.specs.ContentLines.{crlf, sent_content}
use Rattle.q_smtp.specs.Dialogue.{Settled, dialogue, after_ehlo, after_helo, after_mail, rcpts, after_rcpt, after_data, after_content, ehlo_line, mail_line, rcpt_line, data_line, quit_line}
use Rattle.q_drain.specs.Cases.{Case, IsPlace, exchange}
use Rattle.q_drain.specs.Causes.{has_failed, IsDelivery, IsLink, IsPatient, IsReply, IsSent}
use Rattle.q_drain.specs.Drains.{Delivers, IsQuiet, IsWhole}
use Rattle.q_drain.proofs.Rooming.{room_more, room_none}
use Rattle.q_drain.specs.Rooms.{HadRoom}
use Rattle.q_drain.specs.Stories.{Story}
use Rattle.q_drain.specs.Sweeps.{IsRested}
use Rattle.q_drain.specs.Waited.{IsSweep, MadeSweep, MadeSweeps}

abbrev hop : List ℕ
hop = codes "[127.0.0.1]:2525"

abbrev site : Site
site = record { transport = 0; hop = hop }

abbrev world : World
world = record { settings = defaults; table = record { transports = codes "smtp" ∷ []; route = λ address. site } }

abbrev mail : Id
mail = record { generation = 1; serial = 1; bounce = false }

abbrev bounce : Id
bounce = record { generation = 1; serial = 1; bounce = true }

abbrev plain : List ℕ → Receiver
plain address = record { address = address; original = None }

abbrev message : Message
message = record {
  id = mail;
  version = 2;
  sender = Some (codes "a@x.example");
  arrival = 1000;
  content = codes "Hello" ++ 10 ∷ [];
  recipients = new_recipient (plain (codes "b@y.example")) ∷ new_recipient (plain (codes "c@y.example")) ∷ [];
  failures = [];
  place = Incoming;
}

abbrev book : Book
book = record { generation = 1; messages = message ∷ []; damaged = [] }

-- the ledger where the second life has begun
abbrev begun_life : Ledger
unfolding after
begun_life = after world (opening Deliver book) (entries.Life 2 Deliver)

abbrev to_start : List Entry
to_start =
    entries.At 2000
    ∷ entries.Admit mail
    ∷ entries.Load mail 0 2
    ∷ entries.Start 1 mail site (0 ∷ 1 ∷ [])
    ∷ []

abbrev said : List Outcome
said = outcomes.Never 550 ∷ outcomes.Ok ∷ []

abbrev from_reply : List Entry
from_reply =
    entries.Reply 1 Up said
    ∷ entries.Log mail (record { position = 0; why = Refused; code = 550 })
    ∷ entries.Mark mail 0
    ∷ entries.Mark mail 1
    ∷ entries.Sync mail
    ∷ entries.Bounce mail
    ∷ entries.Remove mail
    ∷ entries.Admit bounce
    ∷ entries.Load bounce 0 1
    ∷ entries.Start 2 bounce site (0 ∷ [])
    ∷ []

abbrev from_bounce : List Entry
from_bounce = entries.Reply 2 Down (outcomes.Later 0 ∷ []) ∷ entries.Defer bounce 2300 ∷ []

abbrev line : List ℕ → List ℕ
line text = text ++ crlf

abbrev received : List ℕ
received = line (codes "220 hi") ++ line (codes "250-one") ++ line (codes "250 two") ++ line (codes "250 ok") ++ line (codes "550 no") ++ line (codes "250 ok") ++ line (codes "354 go") ++ line (codes "250 done")

abbrev sent : List ℕ
sent = ehlo_line ++ mail_line (Some (codes "a@x.example")) ++ rcpt_line (codes "b@y.example") ++ rcpt_line (codes "c@y.example") ++ data_line ++ codes "Hello" ++ crlf ++ codes "." ++ crlf ++ quit_line

abbrev closed : Closed
closed = record { hop = hop; received = received; sent = sent; ended = false; faults = 0; not_yets = 67; rests = 66; connects = 1 }

-- n times the same moment
abbrev times : ℕ → ℕ → List ℕ
times zero t = []
times (suc n) t = t ∷ times n t

abbrev story : Story
story = record {
  told = to_start ++ from_reply ++ from_bounce;
  moments = times 69 2000;
  connects = 2;
  hops = hop ∷ hop ∷ [];
  records = closed ∷ [];
  rests = 66;
}

-- each event was allowed, and each reply came where one or two deliveries had begun
had_room : HadRoom world begun_life story.told
unfolding allowed after after_all digits hex
had_room =
    let first : Ledger = after_all world begun_life to_start in
    let second : Ledger = after_all world first from_reply in
    room_more world begun_life to_start (from_reply ++ from_bounce) ((λ out. refl, λ some. absurd (some refl)), room_none world (after world begun_life (entries.At 2000)) (drop 1 to_start) refl)
    (room_more world first from_reply from_bounce
    ((λ out. refl, λ some. lit< tt), room_none world (after world first (entries.Reply 1 Up said)) (drop 1 from_reply) refl)
    ((λ out. refl, λ some. lit< tt), room_none world (after world second (entries.Reply 2 Down (outcomes.Later 0 ∷ []))) (drop 1 from_bounce) refl))

-- n sweeps in which nothing is told
abbrev silent_sweeps : ℕ → List MadeSweep
silent_sweeps zero = []
silent_sweeps (suc n) = record { moment = 2000; told = [] } ∷ silent_sweeps n

all_sweeps : (n : ℕ) (ps : List MadeSweep) → AllByRecursion IsSweep ps → AllByRecursion IsSweep (silent_sweeps n ++ ps)
all_sweeps zero ps h = h
all_sweeps (suc n) ps h = (([], refl, inl refl), all_sweeps n ps h)

-- the reply and that of the bounce come in one sweep, behind 66 in which the session waits
made_sweeps : MadeSweeps world begun_life story
unfolding run turn decisions decide after after_all next digits hex
made_sweeps = record {
  earlier = record { moment = 2000; told = to_start } ∷ (silent_sweeps 66 ++ record { moment = 2000; told = from_reply ++ from_bounce } ∷ []);
  last = record { moment = 2000; told = [] };
  are = record {
    told = refl;
    moments = refl;
    each = (
      (drop 1 to_start, refl, inr refl),
      all_sweeps 66 (record { moment = 2000; told = from_reply ++ from_bounce } ∷ record { moment = 2000; told = [] } ∷ [])
          ((from_reply ++ from_bounce, refl, inl refl), (([], refl, inl refl), tt)),
    );
  };
  rests = refl;
  silent = refl;
}

whole_is : IsWhole world begun_life story
unfolding run turn decisions decide after after_all next digits hex
whole_is = record {
  told = refl;
  room = had_room;
  clocked = refl;
  rested = record { least = omega arith; most = omega arith };
  sweeps = made_sweeps;
  connected = record { connects = refl; hops = refl };
}

quiet_is : IsQuiet world begun_life story
unfolding after after_all digits hex
quiet_is = refl

abbrev first : Case
first = record {
  before = to_start;
  behind = from_reply ++ from_bounce;
  start = record { number = 1; id = mail; site = site; positions = 0 ∷ 1 ∷ []; moment = 2000 };
  message = record message { place = Active };
  moment = 2000;
  reply = record { number = 1; site = Up; outcomes = said };
  link = Some closed;
}

-- the bounce, as it stands before its reply
bounce_message : Message
unfolding after after_all digits hex
bounce_message = unwrap_or (message_of (after_all world begun_life (to_start ++ from_reply)).book bounce) message

abbrev second : Case
second = record {
  before = to_start ++ from_reply;
  behind = from_bounce;
  start = record { number = 2; id = bounce; site = site; positions = 0 ∷ []; moment = 2000 };
  message = bounce_message;
  moment = 2000;
  reply = record { number = 2; site = Down; outcomes = outcomes.Later 0 ∷ [] };
  link = None;
}

first_place : IsPlace world begun_life story [] first
unfolding after after_all digits hex
first_place = record { told = refl; replies = refl; next = refl; number = refl; begins = ([], [], refl); message = refl; moment = refl }

second_place : IsPlace world begun_life story (first.reply ∷ []) second
unfolding bounce_message after after_all digits hex
second_place = record { told = refl; replies = refl; next = refl; number = refl; begins = (first.start ∷ [], [], refl); message = refl; moment = refl }

first_reply : IsReply first
unfolding codes_from dialogue after_ehlo after_helo after_mail rcpts after_rcpt after_data after_content sent_content
first_reply = record { up = λ is. (closed, refl, refl); down = λ is. absurd cc }

second_reply : IsReply second
second_reply = record { up = λ is. absurd cc; down = λ is. refl }

first_sent : IsSent first closed
unfolding codes_from dialogue after_ehlo after_helo after_mail rcpts after_rcpt after_data after_content sent_content
first_sent = record { front = λ is. absurd cc; all = λ is. (6, refl) }

has_hop : has_route hop ≡ true
unfolding cut
has_hop = refl

first_link : IsLink 0 first closed
first_link = record { hop = refl; route = has_hop; connects_before = refl }

one_failed : count_by has_failed (first ∷ second ∷ []) ≡ 1
unfolding cut
one_failed = refl

first_is : IsDelivery story 0 first
first_is = record { reply = first_reply; cause = λ is. absurd cc; sent = first_sent; link = first_link; patient = record { rests = omega arith; moments = omega arith } }

second_is : IsDelivery story 0 second
second_is = record { reply = second_reply; cause = λ is. tt; sent = tt; link = tt; patient = tt }

-- what is promised of deliveries holds of them
deliveries : Delivers world begun_life 0 0 1 story
deliveries = record {
  cases = first ∷ second ∷ [];
  are = record { untold = []; one = omega arith; replies = refl; records = refl; places = (first_place, (second_place, tt)) };
  each = (first_is, (second_is, tt));
  failed = inl (omega (arith, one_failed));
}

-- ---- what doesn't hold

-- fewer answers `NotYet` than rests, or more than moments
few_not_yets : IsPatient story (record closed { not_yets = 65 }) → ⊥
few_not_yets p = let rests = p.rests in omega (arith, rests)

many_not_yets : IsPatient story (record closed { not_yets = 70 }) → ⊥
many_not_yets p = let moments = p.moments in omega (arith, moments)

-- one moment more than rests and starts allow
many_moments : IsRested (record story { moments = times 72 2000 }) → ⊥
many_moments p = let most = p.most in omega (arith, most)

-- a link that was closed behind the bounce's connect
late_close : IsLink 0 first (record closed { connects = 2 }) → ⊥
late_close p = let before = p.connects_before in omega (arith, before)

-- a place behind the own reply
late_place : IsPlace world begun_life story [] (record first { before = story.told; behind = [] }) → ⊥
late_place p = let none = ap length p.replies in omega (arith, none)

-- other outcomes than the bytes say
abbrev kind : Case
kind = record first { reply = record { number = 1; site = Up; outcomes = outcomes.Ok ∷ outcomes.Ok ∷ [] } }

kind_ending : (exchange kind closed).ending ≡ Settled said
unfolding codes_from dialogue after_ehlo after_helo after_mail rcpts after_rcpt after_data after_content sent_content
kind_ending = refl

kind_reply : IsReply kind → ⊥
kind_reply p =
    let up = p.up refl in
    let ending : Settled said ≡ Settled (outcomes.Ok ∷ outcomes.Ok ∷ []) = sym kind_ending ∙ subst (λ r. (exchange kind r).ending ≡ Settled (outcomes.Ok ∷ outcomes.Ok ∷ [])) (sym (same_Some closed up.0 up.1)) up.2 in
    cc
