-- Bytes are read where all that is due was sent.
use Rattle.std.proofs.Common.{◌≡◌, ◌≢◌, ℕ, ◌+◌, ◌≤◌, ◌<◌, Bool, true, false, List, [], ◌∷◌, ◌++◌, IfOk, OnErr, Ok, Err, Result, length, nat_lt, take, refl, sym, ap, ◌∙◌, arith, subst, append_assoc, length-append}
use Rattle.std.proofs.lemmas.Bool.{ltb-true, ltb-false}
use Rattle.std.proofs.lemmas.List.{append-nil, take-append-le, take_all}
use Rattle.q_link.specs.Views.{View}
use Rattle.q_model.specs.declared.no_memory.NoMemory.{NoMemory}
use Rattle.q_smtpd.specs.Answers.{timeout_line}
use Rattle.q_smtpd.specs.Hearings.{Holds}
use Rattle.q_smtpd.specs.Intakes.{due, is_left, quits}
use Rattle.q_smtpd.specs.Places.{Place, commands, contents, left}
use Rattle.q_smtpd.specs.Pacing.{IsPaced, IsReadInTurn, Paces}
use Rattle.q_smtpd.specs.Polls.{Stops, TimesOut}
use Rattle.q_smtpd.specs.Sessions.{Serves}
use Rattle.q_smtpd.specs.Traffic.{Tells}
use Rattle.q_smtpd.specs.declared.hearing.Hearing.{Hearing}
use Rattle.q_smtpd.specs.declared.hearing.Stage.TheVariants.{Left}
use Rattle.q_smtpd.specs.declared.served.Served.{Served}
use Rattle.q_smtpd.specs.declared.session.Session.{Session}

-- before the first byte
pub paced_none : (received sent : List ℕ) → received ≡ [] → IsPaced received sent
paced_none received sent none = record {
  each = λ at within. let empty = ap (λ (x : List ℕ). length x) none in absurd (omega (arith, within, empty));
}

-- QUIT hasn't come
pub stays_by : (p : Place) (h : Hearing) → Holds p h → h.stage ≢ Left → is_left p ≡ false
stays_by (commands c line) h holds stays = refl
stays_by (contents e text line) h holds stays = refl
stays_by left h holds stays = absurd (stays holds)

-- a byte more, where all that was due was sent
pub paced_more : (b : ℕ) (received sent : List ℕ) → sent ≡ due received → quits received ≡ false → IsPaced received sent → IsPaced (received ++ b ∷ []) sent
paced_more b received sent all stays paced = record { each = λ at within. by at within (nat_lt at (length received)) refl }
  where
    by : (at : ℕ) → at < length (received ++ b ∷ []) → (before : Bool) → nat_lt at (length received) ≡ before → IsReadInTurn (received ++ b ∷ []) sent at
    by at within true e =
        let few : at < length received = ltb-true at (length received) e in
        let front : take at (received ++ b ∷ []) ≡ take at received = take-append-le at received (b ∷ []) (omega (arith, few)) in
        let old = paced.each at few in
        record {
          stays = ap quits front ∙ old.stays;
          more = old.more;
          sent_is = old.sent_is ∙ ap (λ (x : List ℕ). due x ++ old.more) (sym front);
        }
    by at within false e =
        let past : length received ≤ at = ltb-false at (length received) e in
        let last : at ≤ length received = omega (arith, within, length-append received (b ∷ [])) in
        let front : take at (received ++ b ∷ []) ≡ received = take-append-le at received (b ∷ []) last ∙ take_all at received past in
        record {
          stays = ap quits front ∙ stays;
          more = [];
          sent_is = all ∙ ap due (sym front) ∙ sym (append-nil (due (take at (received ++ b ∷ []))));
        }

-- more is sent
pub paced_on : (received still sent more front : List ℕ) → still ≡ received → more ≡ sent ++ front → IsPaced received sent → IsPaced still more
paced_on received still sent more front same is paced = record {
  each = λ at within.
      let old = paced.each at (subst (λ (x : List ℕ). at < length x) same within) in
      record {
        stays = ap (λ (x : List ℕ). quits (take at x)) same ∙ old.stays;
        more = old.more ++ front;
        sent_is = is ∙ ap (λ (x : List ℕ). x ++ front) old.sent_is ∙ append_assoc (due (take at received)) old.more front
            ∙ ap (λ (x : List ℕ). due (take at x) ++ (old.more ++ front)) (sym same);
      };
}

-- a session that is late sends, and reads nothing
late_paces : (s : Session) (u v : View) → Tells TimesOut u v → Serves s u → Paces v
late_paces s u v late serves = λ t told.
    let l = late t told in
    paced_on l.0.received t.received l.0.sent t.sent (take l.2.sent.0 timeout_line) l.2.received l.2.sent.1 (serves l.0 l.1).paced

stopped_paces : (s : Session) (u v : View) → Stops s u v → Serves s u → Paces v
stopped_paces s u v stops serves = λ t told. let l = stops serves t told in l.2.paced

-- whatever a poll answers
pub poll_paces : (now : ℕ) (old new : Session) (u v : View) (r : Result Served NoMemory)
    → (old.heard + 300 ≤ now → (r ≡ Ok Served.Over) × Tells TimesOut u v)
    → (now < old.heard + 300 → IfOk r (λ served. Serves old u → Serves new v))
    → OnErr r (Stops old u v) → Serves old u → Paces v
poll_paces now old new u v (Err error) late follows stops serves = stopped_paces old u v stops serves
poll_paces now old new u v (Ok served) late follows stops serves = by (nat_lt now (old.heard + 300)) refl
  where
    by : (early : Bool) → nat_lt now (old.heard + 300) ≡ early → Paces v
    by true e = λ t told. (follows (ltb-true now (old.heard + 300) e) serves t told).paced
    by false e = late_paces old u v (late (ltb-false now (old.heard + 300) e)).1 serves
