-- How a step ends at which no byte comes.
use Rattle.std.proofs.Common.{◌≡◌, ◌≢◌, ◌≤◌, ◌<◌, ◌^◌, ℕ, false, inl, inr, List, [], ◌++◌, arith}
use Rattle.q_link.specs.Reads.{Adds, Ends, Fails, Leaves, same, with_not_yet}
use Rattle.q_link.specs.Views.{ForRead, Told, View}
use Rattle.q_link.specs.WaitsLeft.{Spares}
use Rattle.q_link.specs.declared.usage.Usage.TheVariants.{Misused, Open}
use Rattle.q_smtpd.proofs.Polling.{same_mails, sent_brings, sent_serves, step_follows}
use Rattle.q_smtpd.proofs.Traffic.{gave_none, gave_not_yet, no_answer, tells_by_adding, tells_nothing}
use Rattle.q_smtpd.proofs.Using.{called_open, closed_once, open_unmisused}
use Rattle.q_smtpd.specs.Intakes.{mails}
use Rattle.q_smtpd.specs.Polls.{IsOver}
use Rattle.q_smtpd.specs.Steps.{Steps}
use Rattle.q_smtpd.specs.Traffic.{Answers, Gave, GoesOn, Sends, Tells}
use Rattle.q_smtpd.specs.declared.hearing.Stage.TheVariants.{Left}
use Rattle.q_smtpd.specs.declared.outbox.Sent.TheVariants as sent
use Rattle.q_smtpd.specs.declared.session.Session.{Session}
use Rattle.q_smtpd.specs.declared.session.Step.TheVariants as steps

-- all bytes came that are taken
pub steps_full : (s : Session) (v : View) → s.untaken ≡ false → 2 ^ 40 ≤ s.count → Steps s steps.Ends s v v
steps_full s v taken full = record {
  to = inr (inr (inl full));
  faults = omega arith;
  answers = tells_nothing (Answers 0) v no_answer;
  serves = λ serves t told. step_follows s t taken (serves t told);
  brings = λ serves. tells_nothing (λ (a b : Told). mails b.received ≡ mails a.received ++ []) v same_mails;
  completes = tt;
  uses = open_unmisused v.usage;
  spares = tt;
}

-- ---- behind sending

ends_sent : (old : Session) (o : List ℕ) (u v : View) → old.untaken ≡ false → IsOver (record old { outbox = o }) u v → GoesOn u v → Tells (Gave old.outbox o 0) u v → (u.usage ≡ Open → v.usage ≢ Misused)
    → Steps old steps.Ends (record old { outbox = o }) u v
ends_sent old o u v taken over goes gave uses = record {
  to = over;
  faults = goes.faults;
  answers = λ t told. let g = gave t told in (g.0, g.1, g.2.answers);
  serves = λ serves t told. step_follows (record old { outbox = o }) t taken (sent_serves old o 0 u v gave serves t told);
  brings = sent_brings old o 0 u v gave;
  completes = tt;
  uses = uses;
  spares = tt;
}

-- the client took leave, and all was sent
pub steps_left : (old : Session) (o : List ℕ) (u v : View) → old.untaken ≡ false → old.hearing.stage ≡ Left → Sends sent.All o u v → GoesOn u v → Tells (Gave old.outbox o 0) u v → (u.usage ≡ Open → v.usage ≡ Open)
    → Steps old steps.Ends (record old { outbox = o }) u v
steps_left old o u v taken leaves all goes gave uses = ends_sent old o u v taken (inl (leaves, all)) goes gave (λ usable. open_unmisused v.usage (uses usable))

-- the link failed
pub steps_lost : (old : Session) (o : List ℕ) (u v : View) → old.untaken ≡ false → Sends sent.Lost o u v → GoesOn u v → Tells (Gave old.outbox o 0) u v → (u.usage ≡ Open → v.usage ≢ Misused)
    → Steps old steps.Ends (record old { outbox = o }) u v
steps_lost old o u v taken rose goes gave uses = ends_sent old o u v taken (inr (inr (inr rose))) goes gave uses

-- a reply isn't sent yet
pub steps_unsent : (old : Session) (o : List ℕ) (u v : View) → old.untaken ≡ false → old.count < 2 ^ 40 → Sends sent.NotYet o u v → GoesOn u v → Tells (Gave old.outbox o 1) u v
    → (u.usage ≡ Open → v.usage ≡ Open) → Spares 1 u.waits_left v.waits_left → Steps old steps.Waits (record old { outbox = o }) u v
steps_unsent old o u v taken few sends goes gave uses spares = record {
  to = ((few, inl sends), goes.ended);
  faults = goes.faults;
  answers = λ t told. let g = gave t told in (g.0, g.1, g.2.answers);
  serves = λ serves t told. step_follows (record old { outbox = o }) t taken (sent_serves old o 1 u v gave serves t told);
  brings = sent_brings old o 1 u v gave;
  completes = tt;
  uses = uses;
  spares = spares;
}

-- ---- behind a read

-- no byte came yet
pub steps_unread : (s : Session) (u v : View) → s.untaken ≡ false → s.outbox ≡ [] → s.hearing.stage ≢ Left → s.count < 2 ^ 40 → Leaves ForRead with_not_yet u v → Steps s steps.Waits s u v
steps_unread s u v taken sent stays few leaves =
    let gave = tells_by_adding (Gave s.outbox s.outbox 1) with_not_yet u v leaves.told (gave_not_yet s.outbox) in
    record {
      to = ((few, inr (leaves.wait, sent, stays)), leaves.ended);
      faults = omega (arith, leaves.faults);
      answers = λ t told. let g = gave t told in (g.0, g.1, g.2.answers);
      serves = λ serves t told. step_follows s t taken (sent_serves s s.outbox 1 u v gave serves t told);
      brings = sent_brings s s.outbox 1 u v gave;
      completes = tt;
      uses = λ usable. called_open u.usage v.usage usable leaves.usage;
      spares = leaves.waits_left;
    }

ends_unread : (s : Session) (u v : View) → s.untaken ≡ false → IsOver s u v → u.faults ≤ v.faults → Adds same u.told v.told → (u.usage ≡ Open → v.usage ≢ Misused) → Steps s steps.Ends s u v
ends_unread s u v taken over faults adds uses =
    let gave = tells_by_adding (Gave s.outbox s.outbox 0) same u v adds (gave_none s.outbox) in
    record {
      to = over;
      faults = faults;
      answers = λ t told. let g = gave t told in (g.0, g.1, g.2.answers);
      serves = λ serves t told. step_follows s t taken (sent_serves s s.outbox 0 u v gave serves t told);
      brings = sent_brings s s.outbox 0 u v gave;
      completes = tt;
      uses = uses;
      spares = tt;
    }

-- the link ended
pub steps_ended : (s : Session) (u v : View) → s.untaken ≡ false → s.outbox ≡ [] → Ends u v → Steps s steps.Ends s u v
steps_ended s u v taken sent ends = ends_unread s u v taken (inr (inl (ends.ended, sent))) (omega (arith, ends.faults)) ends.told (λ usable. closed_once u.usage v.usage usable ends.usage)

-- it failed
pub steps_failed : (s : Session) (u v : View) → s.untaken ≡ false → Fails u v → Steps s steps.Ends s u v
steps_failed s u v taken fails = ends_unread s u v taken (inr (inr (inr fails.faults.1))) fails.faults.0 fails.told (λ usable. closed_once u.usage v.usage usable fails.usage)
