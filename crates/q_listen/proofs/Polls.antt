-- What a poll does to an open session, by what the session says of its link.
use Rattle.std.proofs.Common.{◌≡◌, ◌≢◌, ◌≤◌, ◌<◌, ◌+◌, ◌⊎◌, inl, inr, ℕ, true, false, List, [], ◌∷◌, ◌++◌, length, Some, refl, sym, ap, ◌∙◌, ⊎_elim, arith, subst, append-nil, length-append}
use Rattle.std.proofs.lemmas.Bool.{cases_lt}
use Rattle.std.specs.Prelude.{Ok, Result}
use Rattle.q_door.specs.Doors.{Closed, ToldDoor, closed}
use Rattle.q_link.specs.Records.{IsRested}
use Rattle.q_link.specs.Views.{Told, View}
use Rattle.q_listen.proofs.Answered.{answered, answered_late, answered_stopped, answered_untaken, ended}
use Rattle.q_listen.proofs.Dots.{begun_few}
use Rattle.q_listen.proofs.Linking.{gives, gives_none, hears_first, hears_more, hears_on, waits}
use Rattle.q_listen.specs.Links.{IsAnswered, IsCutOff}
use Rattle.q_listen.specs.Listens.{Case, greatest}
use Rattle.q_listen.specs.Serving.{Serving, Task}
use Rattle.q_listen.specs.Sessions.{InSession, IsAccepted, IsFollowed, IsGivenUp, IsOver}
use Rattle.q_listen.specs.Stories.{Story, with_moment, with_rest, with_told}
use Rattle.q_listen.specs.Told.{mails_told}
use Rattle.q_model.specs.declared.entry.Entry.{Entry}
use Rattle.q_smtpd.proofs.Following.{mails-snoc}
use Rattle.q_smtpd.specs.Intakes.{comes, mails as mails_in, mails_of, place_of, replies_from, replies_to}
use Rattle.q_smtpd.specs.Places.{Mail}
use Rattle.q_smtpd.specs.Polls.{Brings, CompletesAt, IsHeardBy, IsOver as IsSessionOver, Stops, TimesOut, is_over}
use Rattle.q_smtpd.specs.Sessions.{IsNew, IsUnused, Serves, with_taken}
use Rattle.q_smtpd.specs.Traffic.{Tells}
use Rattle.q_smtpd.specs.declared.served.Served.{Served}
use Rattle.q_smtpd.specs.declared.served.Served.TheVariants.{Over}
use Rattle.q_smtpd.specs.declared.session.Session.{Session}

-- ---- what came, and when

brought_on : (l m : View) (i j : Session) (mails given : List Mail) → IsFollowed l i mails → Serves j m → Brings i l m given → IsFollowed m j (mails ++ given)
brought_on l m i j mails given f serves brings = record {
  serves = serves;
  brought = λ t told. let b = brings f.serves t told in b.2 ∙ ap (λ (ms : List Mail). ms ++ given) (f.brought b.0 b.1);
}

heard_later : (now : ℕ) (i j : Session) → IsHeardBy now i j → i.heard ≤ now → (i.heard ≤ j.heard) × (j.heard ≤ now)
heard_later now i j (inl same) h = let heard = same.1 in (omega (arith, heard), omega (arith, heard, h))
heard_later now i j (inr more) h = let heard = more.1 in (omega (arith, heard, h), omega (arith, heard))

-- ---- where it is given up

told_by : (r : Closed) (ms ns : List Mail) → ms ≡ ns → IsAnswered r ms → IsAnswered r ns
told_by r ms ns is a = subst (IsAnswered r) is a

more_told : (r : Closed) (ms ns : List Mail) → length ms ≤ length ns → IsAnswered r ms → IsAnswered r ns
more_told r ms ns more a =
    let dots = a.dots in
    record { of_replies = a.of_replies; of_timeout = a.of_timeout; within = a.within; sent = a.sent; dots = omega (arith, dots, more) }

pub given_up_session : (k : Task) (ahead : ℕ) (l : View) (i : Session) (s : Story) → ahead ≤ 1 → InSession k ahead l i s → IsGivenUp k l s
given_up_session k ahead l i s few v = record {
  cases = v.cases;
  mails = v.mails;
  heard = i.heard;
  ahead = ahead;
  few = few;
  serving = v.serving;
  cut = λ t door told.
      let is = (v.followed).brought t told in
      record { told_are = ([], is ∙ sym (append-nil v.mails)); answered = told_by (closed l t door) (mails_in t.received) v.mails is (answered l door i t ((v.followed).serves t told)) };
}

-- ---- a poll that waited

pub polled_on : (k : Task) (now : ℕ) (l m : View) (i j : Session) (s : Story) → now ≡ greatest s.moments → (Serves i l → Serves j m) → Brings i l m [] → IsHeardBy now i j → InSession k 1 l i s → InSession k 1 m j s
polled_on k now l m i j s is serves brings heard v =
    let was = (v.serving).heard_is in
    let later = heard_later now i j heard (omega (arith, was, is)) in
    let later_0 = later.0 in
    let later_1 = later.1 in
    record {
      cases = v.cases;
      mails = v.mails;
      serving = hears_more j.heard v.serving later_0 (omega (arith, later_1, is));
      followed = subst (IsFollowed m j) (append-nil v.mails) (brought_on l m i j v.mails [] v.followed (serves (v.followed).serves) brings);
    }

followed_rested : (l m : View) (i : Session) (mails : List Mail) → IsRested l m → IsFollowed l i mails → IsFollowed m i mails
followed_rested l m i mails r f = record {
  serves = λ t told. f.serves t (sym r.told ∙ told);
  brought = λ t told. f.brought t (sym r.told ∙ told);
}

-- a rest was given
pub rested_on : (k : Task) (l m : View) (i : Session) (s : Story) → IsRested l m → InSession k 1 l i s → InSession k 0 m i (with_rest s)
rested_on k l m i s r v = record {
  cases = v.cases;
  mails = v.mails;
  serving = waits i.heard v.serving (omega arith) (v.serving).heard_is;
  followed = followed_rested l m i v.mails r v.followed;
}

-- ---- a poll that gave a message

-- which was told and taken
pub taken_on : (k : Task) (now : ℕ) (l m : View) (i j : Session) (mail : Mail) (es : List Entry) (s : Story) → now ≡ greatest s.moments → (Serves i l → Serves (with_taken j) m) → Brings i l m (mail ∷ []) → IsHeardBy now i j → mails_told es ≡ mail ∷ []
    → InSession k 1 l i s → InSession k 0 m (with_taken j) (with_told es s)
taken_on k now l m i j mail es s is serves brings heard told v =
    let was = (v.serving).heard_is in
    let later = heard_later now i j heard (omega (arith, was, is)) in
    let later_0 = later.0 in
    let later_1 = later.1 in
    record {
      cases = v.cases;
      mails = v.mails ++ mail ∷ [];
      serving = gives mail j.heard es v.serving later_0 (omega (arith, later_1, is)) told;
      followed = brought_on l m i (with_taken j) v.mails (mail ∷ []) v.followed (serves (v.followed).serves) brings;
    }

-- or its turn was given up
module _ (k : Task) (l m : View) (i j : Session) (mail : Mail) (es : List Entry) (s : Story) (outbox : j.outbox ≡ []) (untaken : j.untaken ≡ true) (serves : Serves i l → Serves j m) (brings : Brings i l m (mail ∷ [])) (completes : Serves i l → Tells (CompletesAt mail) l m) (v : InSession k 1 l i s) where
  answered_given : (t : Told) (door : ToldDoor) → m.told ≡ Some t → IsAnswered (closed m t door) v.mails
  answered_given t door told =
      let c = completes (v.followed).serves t told in
      told_by (closed m t door) (mails_in (c.0).received) v.mails ((v.followed).brought c.0 c.1) (answered_untaken m door j mail c.0 t outbox untaken (serves (v.followed).serves t told) c.2)

  given_now : (t : Told) → m.told ≡ Some t → mails_in t.received ≡ v.mails ++ mail ∷ []
  given_now t told = (brought_on l m i j v.mails (mail ∷ []) v.followed (serves (v.followed).serves) brings).brought t told

  pub stopped_taking : (mails_told es ≡ []) ⊎ (mails_told es ≡ mail ∷ []) → IsGivenUp k m (with_told es s)
  stopped_taking (inl none) = record {
    cases = v.cases;
    mails = v.mails;
    heard = i.heard;
    ahead = 1;
    few = omega arith;
    serving = gives_none es v.serving none;
    cut = λ t door told. record { told_are = (mail ∷ [], given_now t told); answered = answered_given t door told };
  }
  stopped_taking (inr one) = record {
    cases = v.cases;
    mails = v.mails ++ mail ∷ [];
    heard = i.heard;
    ahead = 0;
    few = omega arith;
    serving = gives mail i.heard es v.serving (omega arith) (v.serving).heard_is one;
    cut = λ t door told. record {
      told_are = ([], given_now t told ∙ sym (append-nil (v.mails ++ mail ∷ [])));
      answered = more_told (closed m t door) v.mails (v.mails ++ mail ∷ []) (omega (arith, length-append v.mails (mail ∷ []))) (answered_given t door told);
    };
  }

-- ---- a poll behind which the session is over

-- its client was late
pub over_late : (k : Task) (now : ℕ) (l m : View) (i : Session) (s : Story) → now ≡ greatest s.moments → i.heard + 300 ≤ now → Tells TimesOut l m → InSession k 1 l i s → IsOver k m s
over_late k now l m i s is late tells v = record {
  cases = v.cases;
  mails = v.mails;
  late = true;
  heard = i.heard;
  serving = v.serving;
  served = λ t door told.
      let b = tells t told in
      let was = (v.followed).brought b.0 b.1 in
      record {
        told_are = ap mails_in (b.2).received ∙ was;
        answered = told_by (closed m t door) (mails_in (b.0).received) v.mails was (answered_late m door i b.0 t ((v.followed).serves b.0 b.1) b.2);
        ends = λ timely. absurd cc;
      };
  past = λ of. omega (arith, late, is);
}

-- or it ended
pub over_ended : (k : Task) (l m : View) (i j : Session) (s : Story) → IsSessionOver j l m → j.untaken ≡ false → (Serves i l → Serves j m) → Brings i l m [] → InSession k 1 l i s → IsOver k m s
over_ended k l m i j s over untaken serves brings v =
    let f = subst (IsFollowed m j) (append-nil v.mails) (brought_on l m i j v.mails [] v.followed (serves (v.followed).serves) brings) in
    record {
      cases = v.cases;
      mails = v.mails;
      late = false;
      heard = i.heard;
      serving = v.serving;
      served = λ t door told. record {
        told_are = f.brought t told;
        answered = told_by (closed m t door) (mails_in t.received) v.mails (f.brought t told) (answered m door j t (f.serves t told));
        ends = λ timely. ended m door j l t over untaken (f.serves t told);
      };
      past = λ of. absurd cc;
    }

-- memory ran out
pub over_stopped : (k : Task) (l m : View) (i : Session) (s : Story) → Stops i l m → InSession k 1 l i s → IsGivenUp k m s
over_stopped k l m i s stops v = record {
  cases = v.cases;
  mails = v.mails;
  heard = i.heard;
  ahead = 1;
  few = omega arith;
  serving = v.serving;
  cut = λ t door told.
      let b = stops (v.followed).serves t told in
      let was = (v.followed).brought b.0 b.1 in
      let stop = b.2 in
      record {
        told_are = (
          mails_of (comes (place_of stop.seen) stop.byte).replies,
          ap mails_in stop.received ∙ mails-snoc stop.seen stop.byte ∙ ap (λ (ms : List Mail). ms ++ mails_of (comes (place_of stop.seen) stop.byte).replies) (stop.mails_are ∙ was),
        );
        answered = told_by (closed m t door) (mails_in (b.0).received) v.mails was (answered_stopped m door b.0 t stop);
      };
}

-- ---- moments

pub moment_on : (k : Task) (l : View) (i : Session) (s : Story) (es : List Entry) (t : ℕ) → s.moments ≢ [] → mails_told es ≡ [] → InSession k 0 l i s → InSession k 1 l i (with_moment es t s)
moment_on k l i s es t some none v = record { cases = v.cases; mails = v.mails; serving = hears_on t es some v.serving none; followed = v.followed }

-- the first of a link
pub record IsBegun (k : Task) (l : View) (s : Story) : Type 0 where
  pub cases : List Case
  pub serving : Serving k cases [] (greatest s.moments) 1 1 s
  pub unused : IsUnused l

pub moment_begins : (k : Task) (l : View) (s : Story) (es : List Entry) (t : ℕ) → mails_told es ≡ [] → IsAccepted k l s → IsBegun k l (with_moment es t s)
moment_begins k l s es t none v = record { cases = v.cases; serving = hears_first t es v.serving none; unused = v.unused }

no_mails : mails_in [] ≡ []
unfolding replies_from
no_mails = refl

-- its session begins
pub session_begins : (k : Task) (now : ℕ) (l : View) (i : Session) (s : Story) → now ≡ greatest s.moments → ((v : View) → IsUnused v → Serves i v) → IsNew now i → IsBegun k l s → InSession k 1 l i s
session_begins k now l i s is serves new v = record {
  cases = v.cases;
  mails = [];
  serving = subst (λ (heard : ℕ). Serving k v.cases [] heard 1 1 s) (sym (new.heard ∙ is)) v.serving;
  followed = record { serves = serves l v.unused; brought = λ t told. ap mails_in (v.unused t told).0 ∙ no_mails };
}

-- or it is given up before
unused_cut : (l : View) (t : Told) (door : ToldDoor) → (t.received ≡ []) × (t.sent ≡ []) → IsCutOff (closed l t door) []
unused_cut l t door (received, sent) = record {
  told_are = ([], ap mails_in received ∙ no_mails);
  answered = record {
    of_replies = 0;
    of_timeout = 0;
    within = omega arith;
    sent = sent;
    dots = let few = begun_few (replies_to t.received) 0 in let none = ap (λ (ms : List Mail). length ms) (ap mails_in received ∙ no_mails) in omega (arith, few, none);
  };
}

pub given_up_begun : (k : Task) (l : View) (s : Story) → IsBegun k l s → IsGivenUp k l s
given_up_begun k l s v = record {
  cases = v.cases;
  mails = [];
  heard = greatest s.moments;
  ahead = 1;
  few = omega arith;
  serving = v.serving;
  cut = λ t door told. unused_cut l t door (v.unused t told);
}

-- ---- in time

-- a client that was late is answered, and its session is over
pub timely : {X E : Type 0} (heard now : ℕ) (served : Served) → is_over served ≡ false → (heard + 300 ≤ now → (◌≡◌ {A = Result Served E} (Ok served) (Ok Over)) × X) → now < heard + 300
timely {X} {E} heard now served goes late = ⊎_elim (λ early. early) (λ after. absurd (never served goes (late after).0)) (cases_lt now (heard + 300))
  where
    never : (served : Served) → is_over served ≡ false → ◌≡◌ {A = Result Served E} (Ok served) (Ok Over) → ⊥
    never served goes over =
        let same : served ≡ Over = cc in
        let bad : true ≡ false = sym (ap is_over same) ∙ goes in
        absurd cc
