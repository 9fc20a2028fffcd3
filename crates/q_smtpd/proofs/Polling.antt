-- A poll goes on from step to step.
use Rattle.std.proofs.Common.{◌≡◌, ℕ, ◌+◌, ◌≤◌, ◌≢◌, Bool, true, false, List, [], ◌++◌, ◌∷◌, length, take, slice_index_or, refl, sym, ap, ◌∙◌, arith, subst, inl, inr, append_assoc, length-append}
use Rattle.std.proofs.lemmas.List.{append-nil}
use Rattle.q_link.specs.Reads.{Leaves, Rose, with_received}
use Rattle.q_link.proofs.Sparing.{spares_same, spares_then}
use Rattle.q_link.specs.Views.{NoWait, Told, View}
use Rattle.q_link.specs.WaitsLeft.{Spares}
use Rattle.q_link.specs.declared.usage.Usage.TheVariants.{Open}
use Rattle.q_smtpd.proofs.Using.{called_open}
use Rattle.q_smtpd.specs.Uses.{SparesStep, UsesStep}
use Rattle.q_smtpd.proofs.Following.{due-snoc, mails-snoc, place-snoc, replies-snoc}
use Rattle.q_smtpd.proofs.Pacing.{paced_more, paced_none, paced_on, stays_by}
use Rattle.q_smtpd.proofs.Traffic.{no_answer, tells_by_adding, tells_more, tells_nothing, tells_then}
use Rattle.q_smtpd.specs.Answers.{answer_line}
use Rattle.q_smtpd.proofs.Fitting.{comes_fits, place_fits}
use Rattle.q_smtpd.specs.Fits.{AllFit, IsFit}
use Rattle.q_smtpd.specs.Hearings.{Hears, Holds, mail_of, taking}
use Rattle.q_smtpd.specs.Intakes.{comes, due, mails, place_after, place_of, replies_from, replies_to, start}
use Rattle.q_smtpd.specs.Places.{Mail, Place, Reply}
use Rattle.q_smtpd.specs.Pacing.{IsPaced}
use Rattle.q_smtpd.specs.Polls.{Brings, CompletesAt, IsHeardBy, IsOver, Stops, StopsAt}
use Rattle.q_smtpd.specs.Sessions.{Follows, Serves, Stands, owed}
use Rattle.q_smtpd.specs.Steps.{Acts, CompletesBy, Counts, FollowsStep, IsHeard, Steps, StepsTo, is_mail, mails_of_step, waits_of_step}
use Rattle.q_smtpd.specs.Traffic.{Answers, Gave, GoesOn, Tells}
use Rattle.q_smtpd.specs.declared.answer.Answer.TheVariants.{Greeting}
use Rattle.q_smtpd.specs.declared.hearing.Heard.{Heard}
use Rattle.q_smtpd.specs.declared.hearing.Heard.TheVariants as heards
use Rattle.q_smtpd.specs.declared.hearing.Hearing.{Hearing}
use Rattle.q_smtpd.specs.declared.hearing.Mail.{Mail as Kept}
use Rattle.q_smtpd.specs.declared.hearing.Stage.TheVariants.{Left}
use Rattle.q_smtpd.specs.declared.session.Session.{Session}
use Rattle.q_smtpd.specs.declared.session.Step.{Step}
use Rattle.q_smtpd.specs.declared.session.Step.TheVariants as steps

-- a session that begins
pub new_follows : (s : Session) (t : Told) → Holds start s.hearing → s.outbox ≡ answer_line Greeting → s.untaken ≡ false → s.count ≡ 0 → t.received ≡ [] → t.sent ≡ [] → Follows s t
unfolding place_after replies_from
new_follows s t holds outbox untaken count received sent = record {
  holds = rw received holds;
  sent = rw (sent, outbox, untaken, received) refl;
  count = rw (count, received) refl;
  paced = paced_none t.received t.sent received;
}

-- ---- a byte is heard

goes_to : (step : Step) (s : Session) (u v : View) → IsHeard step s → v.ended ≡ u.ended → StepsTo step s u v
goes_to steps.Onward s u v h ended = ended
goes_to steps.Waits s u v h ended = absurd h
goes_to (steps.Mail mail) s u v h ended = (h, ended)
goes_to steps.Ends s u v h ended = absurd h

no_waits : (step : Step) (s : Session) → IsHeard step s → waits_of_step step ≡ 0
no_waits steps.Onward s h = refl
no_waits steps.Waits s h = absurd h
no_waits (steps.Mail mail) s h = refl
no_waits steps.Ends s h = absurd h

-- all that was due was sent
all_sent : (s : Session) (t : Told) → s.outbox ≡ [] → s.untaken ≡ false → Follows s t → t.sent ≡ due t.received
all_sent s t outbox untaken f = sym (append-nil t.sent) ∙ rw (outbox, untaken) at f.sent

-- the byte is read in turn
heard_paced : (old : Session) (b : ℕ) (t : Told) → old.untaken ≡ false → old.outbox ≡ [] → old.hearing.stage ≢ Left → Follows old t → IsPaced (t.received ++ b ∷ []) t.sent
heard_paced old b t untaken outbox stays f = paced_more b t.received t.sent (all_sent old t outbox untaken f) (stays_by (place_of t.received) old.hearing f.holds stays) f.paced

heard_follows : (old s : Session) (step : Step) (b : ℕ) (t : Told) → old.untaken ≡ false → old.outbox ≡ [] → old.hearing.stage ≢ Left → s.count ≡ old.count + 1 → Follows old t → Acts (comes (place_of t.received) b) step s
    → FollowsStep s (is_mail step) (with_received (b ∷ []) t)
heard_follows old s step b t untaken outbox stays count f a = record {
  holds = subst (λ (p : Place). Holds p s.hearing) (sym (place-snoc t.received b)) a.place;
  sent = ap (λ (x : List ℕ). x ++ (s.outbox ++ owed (is_mail step))) (all_sent old t outbox untaken f)
      ∙ ap (λ (x : List ℕ). due t.received ++ x) (sym a.replies) ∙ sym (due-snoc t.received b);
  count = count ∙ ap (λ (n : ℕ). n + 1) f.count ∙ sym (length-append t.received (b ∷ []));
  paced = heard_paced old b t untaken outbox stays f;
}

-- a message is completed by the byte
heard_completes : (old s : Session) (step : Step) (b : ℕ) (u v : View) → Leaves NoWait (with_received (b ∷ [])) u v → ((p : Place) → Holds p old.hearing → Acts (comes p b) step s) → CompletesBy step old u v
heard_completes old s steps.Onward b u v leaves acts = tt
heard_completes old s steps.Waits b u v leaves acts = tt
heard_completes old s (steps.Mail mail) b u v leaves acts = λ serves t told.
    let adds = leaves.told t told in
    let f = serves adds.0 adds.1 in
    let a = acts (place_of adds.0.received) f.holds in (
      adds.0,
      adds.1,
      record {
        front = replies_to adds.0.received;
        replies_are = ap (λ (x : Told). replies_to x.received) adds.2 ∙ replies-snoc adds.0.received b ∙ ap (λ (x : List Reply). replies_to adds.0.received ++ x) a.taken_by;
        mails_are = refl;
      },
    )
heard_completes old s steps.Ends b u v leaves acts = tt

-- the read left the link open
uses_heard : (step : Step) (s : Session) (v : View) → IsHeard step s → v.usage ≡ Open → UsesStep step v.usage
uses_heard steps.Onward s v h usable = usable
uses_heard steps.Waits s v h usable = absurd h
uses_heard (steps.Mail mail) s v h usable = usable
uses_heard steps.Ends s v h usable = absurd h

spares_heard : (step : Step) (s : Session) (u v : View) → IsHeard step s → Spares 0 u.waits_left v.waits_left → SparesStep step u.waits_left v.waits_left
spares_heard steps.Onward s u v h spares = spares
spares_heard steps.Waits s u v h spares = absurd h
spares_heard (steps.Mail mail) s u v h spares = spares
spares_heard steps.Ends s u v h spares = absurd h

pub heard_steps : (old s : Session) (step : Step) (b : ℕ) (u v : View) → old.untaken ≡ false → old.outbox ≡ [] → old.hearing.stage ≢ Left → s.count ≡ old.count + 1 → Leaves NoWait (with_received (b ∷ [])) u v → IsHeard step s
    → ((p : Place) → Holds p old.hearing → Acts (comes p b) step s) → Steps old step s u v
heard_steps old s step b u v untaken outbox stays count leaves goes acts = record {
  to = goes_to step s u v goes leaves.ended;
  faults = omega (arith, leaves.faults);
  answers = subst (λ (n : ℕ). Tells (Answers n) u v) (sym (no_waits step s goes))
      (tells_by_adding (Answers 0) (with_received (b ∷ [])) u v leaves.told (λ t. record { rests_before = refl; not_yets = omega arith }));
  serves = λ serves t told.
      let adds = leaves.told t told in
      let f = serves adds.0 adds.1 in
      subst (λ (x : Told). FollowsStep s (is_mail step) x) (sym adds.2) (heard_follows old s step b adds.0 untaken outbox stays count f (acts (place_of adds.0.received) f.holds));
  brings = λ serves t told.
      let adds = leaves.told t told in
      let f = serves adds.0 adds.1 in
      (adds.0, adds.1, ap (λ (x : Told). mails x.received) adds.2 ∙ mails-snoc adds.0.received b ∙ ap (λ (x : List Mail). mails adds.0.received ++ x) (acts (place_of adds.0.received) f.holds).mails_are);
  completes = heard_completes old s step b u v leaves acts;
  uses = λ usable. uses_heard step s v goes (called_open u.usage v.usage usable leaves.usage);
  spares = spares_heard step s u v goes leaves.waits_left;
}

-- memory ran out at the byte
pub heard_stops : (old : Session) (b : ℕ) (u v : View) → old.untaken ≡ false → old.outbox ≡ [] → old.hearing.stage ≢ Left → Leaves NoWait (with_received (b ∷ [])) u v → Stops old u v
heard_stops old b u v untaken outbox stays leaves = λ serves t told.
    let adds = leaves.told t told in
    let f = serves adds.0 adds.1 in (
      adds.0,
      adds.1,
      record {
        seen = adds.0.received;
        byte = b;
        received = ap (λ (x : Told). x.received) adds.2;
        sent = ap (λ (x : Told). x.sent) adds.2 ∙ all_sent old adds.0 outbox untaken f;
        mails_are = refl;
        paced = subst (λ (x : Told). IsPaced x.received x.sent) (sym adds.2) (heard_paced old b adds.0 untaken outbox stays f);
      },
    )

-- one byte at most fits
pub one_byte : (buf : List ℕ) (n : ℕ) → length buf ≡ 1 → 1 ≤ n → n ≤ length buf → take n buf ≡ slice_index_or buf 0 0 ∷ []
one_byte [] n size least most = absurd (omega arith)
one_byte (b ∷ []) n size least most = let e : n ≡ 1 = omega arith in rw e refl
one_byte (b ∷ c ∷ buf) n size least most = absurd (omega arith)

-- ---- calls in a row

-- the session follows its link as it did, and no message came
pub record Passes (old : Session) (u : View) (s : Session) (v : View) : Type 0 where
  pub faults : u.faults ≤ v.faults
  pub ended : v.ended ≡ u.ended
  pub answers : Tells (Answers 0) u v
  pub serves : Serves old u → Serves s v
  pub brings : Brings old u v []
  pub uses : u.usage ≡ Open → v.usage ≡ Open
  pub spares : Spares 0 u.waits_left v.waits_left

pub same_mails : (t : Told) → mails t.received ≡ mails t.received ++ []
same_mails t = sym (append-nil (mails t.received))

pub passes_none : (s : Session) (v : View) → Passes s v s v
passes_none s v = record {
  faults = omega arith;
  ended = refl;
  answers = tells_nothing (Answers 0) v no_answer;
  serves = λ h. h;
  brings = λ h. tells_nothing (λ (a b : Told). mails b.received ≡ mails a.received ++ []) v same_mails;
  uses = λ usable. usable;
  spares = spares_same v.waits_left;
}

regroup : (a b c u : List ℕ) → (a ++ b) ++ (c ++ u) ≡ a ++ ((b ++ c) ++ u)
regroup a b c u = append_assoc a b (c ++ u) ∙ ap (λ (xs : List ℕ). a ++ xs) (sym (append_assoc b c u))

sent_follows : (s : Session) (o : List ℕ) (k : ℕ) (a b : Told) → Follows s a → Gave s.outbox o k a b → Follows (record s { outbox = o }) b
sent_follows s o k a b f g = record {
  holds = rw g.received f.holds;
  sent = ap (λ (x : List ℕ). x ++ (o ++ owed s.untaken)) g.sent ∙ regroup a.sent g.front o (owed s.untaken)
      ∙ ap (λ (x : List ℕ). a.sent ++ (x ++ owed s.untaken)) (sym g.whole_is) ∙ f.sent ∙ ap due (sym g.received);
  count = f.count ∙ ap (λ (x : List ℕ). length x) (sym g.received);
  paced = paced_on a.received b.received a.sent b.sent g.front g.received g.sent f.paced;
}

pub sent_serves : (s : Session) (o : List ℕ) (k : ℕ) (u v : View) → Tells (Gave s.outbox o k) u v → Serves s u → Serves (record s { outbox = o }) v
sent_serves s o k u v gave serves = λ t told. let g = gave t told in sent_follows s o k g.0 t (serves g.0 g.1) g.2

pub sent_brings : (s : Session) (o : List ℕ) (k : ℕ) (u v : View) → Tells (Gave s.outbox o k) u v → Brings s u v []
sent_brings s o k u v gave = λ serves t told. let g = gave t told in (g.0, g.1, ap mails g.2.received ∙ same_mails g.0)

pub sent_passes : (s : Session) (o : List ℕ) (u v : View) → GoesOn u v → Tells (Gave s.outbox o 0) u v → (u.usage ≡ Open → v.usage ≡ Open) → Spares 0 u.waits_left v.waits_left → Passes s u (record s { outbox = o }) v
sent_passes s o u v goes gave uses spares = record {
  faults = goes.faults;
  ended = goes.ended;
  answers = λ t told. let g = gave t told in (g.0, g.1, g.2.answers);
  serves = sent_serves s o 0 u v gave;
  brings = sent_brings s o 0 u v gave;
  uses = uses;
  spares = spares;
}

rose_before : (a b c : ℕ) → a ≤ b → Rose b c → Rose a c
rose_before a b c h (inl more) = inl (omega arith)
rose_before a b c h (inr last) = inr last

over_before : (s : Session) (u v w : View) → u.faults ≤ v.faults → IsOver s v w → IsOver s u w
over_before s u v w h over = elim over [
  | inl left ↦ inl left
  | inr more ↦ elim more [
    | inl ended ↦ inr (inl ended)
    | inr most ↦ elim most [
      | inl many ↦ inr (inr (inl many))
      | inr rose ↦ inr (inr (inr (rose_before u.faults v.faults w.faults h rose)))
    ]
  ]
]

to_before : (step : Step) (s : Session) (u v w : View) → u.faults ≤ v.faults → v.ended ≡ u.ended → StepsTo step s v w → StepsTo step s u w
to_before steps.Onward s u v w h ended to = to ∙ ended
to_before steps.Waits s u v w h ended to = (to.0, to.1 ∙ ended)
to_before (steps.Mail mail) s u v w h ended to = (to.0, to.1 ∙ ended)
to_before steps.Ends s u v w h ended to = over_before s u v w h to

brings_then : (old s : Session) (given : List Mail) (u v w : View) → Passes old u s v → Brings s v w given → Brings old u w given
brings_then old s given u v w p b = λ serves.
    tells_then (λ (x y : Told). mails y.received ≡ mails x.received ++ []) (λ (x y : Told). mails y.received ≡ mails x.received ++ given) (λ (x y : Told). mails y.received ≡ mails x.received ++ given)
    u v w (λ x y z e f. f ∙ ap (λ (ls : List Mail). ls ++ given) (e ∙ append-nil (mails x.received))) (p.brings serves) (b (p.serves serves))

completes_then : (step : Step) (old s : Session) (u v w : View) → Passes old u s v → CompletesBy step s v w → CompletesBy step old u w
completes_then steps.Onward old s u v w p c = tt
completes_then steps.Waits old s u v w p c = tt
completes_then (steps.Mail mail) old s u v w p c = λ serves.
    tells_then (λ (x y : Told). mails y.received ≡ mails x.received ++ []) (CompletesAt (mail_of mail)) (CompletesAt (mail_of mail))
    u v w (λ x y z e f. record { front = f.front; replies_are = f.replies_are; mails_are = f.mails_are ∙ e ∙ append-nil (mails x.received) })
    (p.brings serves) (c (p.serves serves))
completes_then steps.Ends old s u v w p c = tt

spares_step : (step : Step) (u v w : View) → Spares 0 u.waits_left v.waits_left → SparesStep step v.waits_left w.waits_left → SparesStep step u.waits_left w.waits_left
spares_step steps.Onward u v w first h = spares_then 0 0 u.waits_left v.waits_left w.waits_left first h
spares_step steps.Waits u v w first h = spares_then 0 1 u.waits_left v.waits_left w.waits_left first h
spares_step (steps.Mail mail) u v w first h = spares_then 0 0 u.waits_left v.waits_left w.waits_left first h
spares_step steps.Ends u v w first h = tt

pub steps_then : (old s : Session) (step : Step) (new : Session) (u v w : View) → Passes old u s v → Steps s step new v w → Steps old step new u w
steps_then old s step new u v w p st = record {
  to = to_before step new u v w p.faults p.ended st.to;
  faults = omega (arith, p.faults, st.faults);
  answers = tells_more (waits_of_step step) u v w p.answers st.answers;
  serves = λ serves. st.serves (p.serves serves);
  brings = brings_then old s (mails_of_step step) u v w p st.brings;
  completes = completes_then step old s u v w p st.completes;
  uses = λ usable. st.uses (p.uses usable);
  spares = spares_step step u v w p.spares st.spares;
}

pub stops_then : (old s : Session) (u v w : View) → Passes old u s v → Stops s v w → Stops old u w
stops_then old s u v w p stops = λ serves.
    tells_then (λ (x y : Told). mails y.received ≡ mails x.received ++ []) StopsAt StopsAt
    u v w (λ x y z e f. record {
      seen = f.seen;
      byte = f.byte;
      received = f.received;
      sent = f.sent;
      mails_are = f.mails_are ∙ e ∙ append-nil (mails x.received);
      paced = f.paced;
    }) (p.brings serves) (stops (p.serves serves))

-- ---- the loop

-- what a poll has come to
pub record Along (now : ℕ) (old : Session) (before : View) (s : Session) (v : View) : Type 0 where
  pub passes : Passes old before s v
  pub counts : Counts now old s
  pub untaken : s.untaken ≡ false
  pub stands : Stands s.hearing

pub along_none : (now : ℕ) (s : Session) (v : View) → s.untaken ≡ false → Stands s.hearing → Along now s v s v
along_none now s v untaken stands = record {
  stands = stands;
  passes = passes_none s v;
  counts = record { heard = inl (refl, refl); count = omega arith; untaken = refl; over = refl };
  untaken = untaken;
}

-- no message waits
pub step_follows : (s : Session) (t : Told) → s.untaken ≡ false → Follows s t → FollowsStep s false t
step_follows s t taken f = record { holds = f.holds; sent = rw taken at f.sent; count = f.count; paced = f.paced }

-- behind a step a session follows its link, where it says whether a message waits
pub follows_by : (s : Session) (mail : Bool) (t : Told) → s.untaken ≡ mail → FollowsStep s mail t → Follows s t
follows_by s mail t untaken f = record { holds = f.holds; sent = rw untaken f.sent; count = f.count; paced = f.paced }

heard_then : (now : ℕ) (old s new : Session) → old.count ≤ s.count → IsHeardBy now old s → IsHeardBy now s new → IsHeardBy now old new
heard_then now old s new less (inl x) (inl y) = inl (y.0 ∙ x.0, y.1 ∙ x.1)
heard_then now old s new less (inr x) (inl y) = let more = x.0 in let same = y.0 in inr (omega (arith, more, same), y.1 ∙ x.1)
heard_then now old s new less x (inr y) = let more = y.0 in inr (omega (arith, less, more), y.1)

pub counts_then : (now : ℕ) (old s new : Session) → Counts now old s → Counts now s new → Counts now old new
counts_then now old s new a b = record {
  heard = heard_then now old s new a.count a.heard b.heard;
  count = omega (arith, a.count, b.count);
  untaken = b.untaken ∙ a.untaken;
  over = b.over ∙ a.over;
}

pub along_step : (now : ℕ) (old s new : Session) (u v w : View) → Along now old u s v → Steps s steps.Onward new v w → Counts now s new → Stands new.hearing → Along now old u new w
along_step now old s new u v w a st counts stands =
    let both = steps_then old s steps.Onward new u v w a.passes st in
    let untaken : new.untaken ≡ false = counts.untaken ∙ a.untaken in
    record {
      passes = record {
        faults = both.faults;
        ended = both.to;
        answers = both.answers;
        serves = λ serves t told. follows_by new false t untaken (both.serves serves t told);
        brings = both.brings;
        uses = both.uses;
        spares = both.spares;
      };
      counts = counts_then now old s new a.counts counts;
      untaken = untaken;
      stands = stands;
    }

-- behind the last step
pub polled : {now : ℕ} {old s new : Session} {step was : Step} {u v w : View} → Along now old u s v → was ≡ step → Steps s was new v w → Steps old step new u w
polled {old = old} {s = s} {new = new} {step = step} {u = u} {v = v} {w = w} a is st =
    steps_then old s step new u v w a.passes (subst (λ (x : Step). Steps s x new v w) is st)

-- a message waits
pub mail_serves : {old new : Session} {mail : Kept} {u w : View} → Steps old (steps.Mail mail) new u w → Serves old u → Serves (record new { untaken = true }) w
mail_serves st serves = λ t told. let f = st.serves serves t told in record { holds = f.holds; sent = f.sent; count = f.count; paced = f.paced }

pub waits_serves : {old new : Session} {u w : View} → new.untaken ≡ false → Steps old steps.Waits new u w → Serves old u → Serves new w
waits_serves {new = new} taken st serves = λ t told. follows_by new false t taken (st.serves serves t told)

pub ends_serves : {old new : Session} {u w : View} (over : Bool) → new.untaken ≡ false → Steps old steps.Ends new u w → Serves old u → Serves (record new { over = over }) w
ends_serves {new = new} over taken st serves = λ t told. let f = follows_by new false t taken (st.serves serves t told) in record { holds = f.holds; sent = f.sent; count = f.count; paced = f.paced }

-- ---- whatever the link tells

pub start_stands : (h : Hearing) → Holds start h → Stands h
unfolding place_after
start_stands h holds = ([], holds)

pub hears_stands : (old new : Hearing) (b : ℕ) (heard : Heard) → Stands old → ((p : Place) → Holds p old → Hears (comes p b) heard new) → Stands new
hears_stands old new b heard stands hears =
    (stands.0 ++ b ∷ [], subst (λ (p : Place). Holds p new) (sym (place-snoc stands.0 b)) (hears (place_of stands.0) stands.1).1)

first_fits : (mail : Mail) (replies : List Reply) → AllFit replies → replies ≡ taking mail ∷ [] → IsFit mail
first_fits mail replies fits e = (subst AllFit e fits).0

pub hears_fits : (old new : Hearing) (b : ℕ) (mail : Kept) → Stands old → ((p : Place) → Holds p old → Hears (comes p b) (heards.Mail mail) new) → IsFit (mail_of mail)
hears_fits old new b mail stands hears =
    first_fits (mail_of mail) (comes (place_of stands.0) b).replies (comes_fits (place_of stands.0) b (place_fits start stands.0 tt)).1 (hears (place_of stands.0) stands.1).0
