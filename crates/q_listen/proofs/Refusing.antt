-- What becomes of a refusal of an event, of the beginning of a life, and of its end.
use Rattle.std.proofs.Common.{◌≡◌, ◌≢◌, ◌≤◌, ◌⊎◌, inl, inr, ℕ, Bool, true, false, List, Some, None, not, if◌then◌else◌, length, refl, sym, ap, ◌∙◌, subst, arith}
use Rattle.std.specs.Prelude.{◌-◌, ◌^◌, Err, IsErrOf, nat_lt, Ok, Result}
use Rattle.std.proofs.lemmas.Bool.{ltb-true}
use Rattle.q_engine.specs.Refusals.{refused_by, refused_mail}
use Rattle.q_engine.specs.declared.engine.Engine.{Engine}
use Rattle.q_engine.specs.declared.error.EngineError.{EngineError}
use Rattle.q_engine.specs.declared.error.EngineError.TheVariants as engine_errors
use Rattle.q_host.specs.Faults.{Faults}
use Rattle.q_host.specs.Calls.{Stays}
use Rattle.q_host.specs.View.{View}
use Rattle.q_listen.specs.Refusals.{IsListenRefusal, ListenCause, NamesDamage, NamesOnlyDamage, is_of_life, is_of_list, is_unreadable, listen_error}
use Rattle.q_listen.specs.declared.listened.ListenError.{ListenError}
use Rattle.q_listen.specs.declared.listened.ListenError.TheVariants as errors
use Rattle.q_model.specs.FaultCounts.{Rose}
use Rattle.q_model.specs.declared.event.Event.TheVariants as events
use Rattle.q_model.specs.declared.limits.Bound.TheVariants as bounds
use Rattle.q_model.specs.declared.spot.Area.{Area}
use Rattle.q_replay.specs.DamagedSpools.{NamesDamage as NamesReplayDamage, NamesOnlyDamage as NamesOnlyReplayDamage}
use Rattle.q_replay.specs.Named.{is_of_host, IsRefusedBy, IsUnbegun}
use Rattle.q_replay.specs.Takings.{is_unreadable as is_replay_unreadable, replay_error, ReplayCause}
use Rattle.q_replay.specs.declared.error.ReplayError.{ReplayError}
use Rattle.q_replay.specs.declared.error.ReplayError.TheVariants as replay_errors
use Rattle.q_restart.specs.Damages.{IsDamage}
use Rattle.q_smtpd.specs.Fits.{IsFit}
use Rattle.q_smtpd.specs.Places.{Mail}

-- ---- of the host

pub host_unlisted : (e : ReplayError) → is_of_host e ≡ true → is_of_list e ≡ false
host_unlisted replay_errors.Disk h = refl
host_unlisted replay_errors.Tell h = refl
host_unlisted replay_errors.NoMemory h = refl
host_unlisted (replay_errors.Unreadable area name) h = refl
host_unlisted replay_errors.Source h = absurd cc
host_unlisted (replay_errors.BadEvent n) h = absurd cc
host_unlisted (replay_errors.Limit bound) h = absurd cc
host_unlisted (replay_errors.Damaged area name) h = absurd cc

pub host_of_life : (e : ReplayError) → is_of_host e ≡ true → is_of_life (listen_error e) ≡ true
host_of_life replay_errors.Disk h = refl
host_of_life replay_errors.Tell h = refl
host_of_life replay_errors.NoMemory h = refl
host_of_life (replay_errors.Unreadable area name) h = refl
host_of_life replay_errors.Source h = absurd cc
host_of_life (replay_errors.BadEvent n) h = absurd cc
host_of_life (replay_errors.Limit bound) h = absurd cc
host_of_life (replay_errors.Damaged area name) h = absurd cc

-- ---- of an event

-- no moment is refused
pub moment_kind : (engine : Engine) (moment : ℕ) (e : ReplayError) → IsRefusedBy 0 engine (events.At moment) e → is_of_host e ≡ true
moment_kind engine moment e (inl host) = host
moment_kind engine moment e (inr (why, is, made)) = absurd cc

-- a message that is within its limits is refused for want of a serial alone
abbrev pub IsMailRefusal : ReplayError → Type 0
IsMailRefusal e = (is_of_host e ≡ true) ⊎ (e ≡ replay_errors.Limit bounds.Serial)

serial_alone : (arrived : ℕ) (mail : Mail) (why : EngineError) → IsFit mail → refused_mail arrived mail.to mail.content ≡ Some why → why ≡ engine_errors.Limit bounds.Serial
serial_alone arrived mail why fit is = long (nat_lt 10240000 (length mail.content)) refl is
  where
    serial : (b : Bool) → (if b then None else Some (engine_errors.Limit bounds.Serial)) ≡ Some why → why ≡ engine_errors.Limit bounds.Serial
    serial true h = absurd cc
    serial false h = cc

    many : (b : Bool) → nat_lt 50000 (length mail.to) ≡ b → (if b then Some (engine_errors.Limit bounds.Recipients) else (if nat_lt arrived (2 ^ 32 - 1) then None else Some (engine_errors.Limit bounds.Serial))) ≡ Some why
        → why ≡ engine_errors.Limit bounds.Serial
    many true over h = let more = ltb-true 50000 (length mail.to) over in let few = fit.few in absurd (omega (arith, more, few))
    many false over h = serial (nat_lt arrived (2 ^ 32 - 1)) h

    long : (b : Bool) → nat_lt 10240000 (length mail.content) ≡ b
        → (if b then Some (engine_errors.Limit bounds.Content) else (if nat_lt 50000 (length mail.to) then Some (engine_errors.Limit bounds.Recipients) else (if nat_lt arrived (2 ^ 32 - 1) then None else Some (engine_errors.Limit bounds.Serial)))) ≡ Some why
        → why ≡ engine_errors.Limit bounds.Serial
    long true over h = let more = ltb-true 10240000 (length mail.content) over in let short = fit.short in absurd (omega (arith, more, short))
    long false over h = many (nat_lt 50000 (length mail.to)) refl h

pub mail_kind : (engine : Engine) (mail : Mail) (e : ReplayError) → engine.core.value.timed ≡ true → IsFit mail → IsRefusedBy 0 engine (events.Mail mail.sender mail.to mail.content) e → IsMailRefusal e
mail_kind engine mail e timed fit (inl host) = inl host
mail_kind engine mail e timed fit (inr (why, is, made)) =
    let own : refused_by engine (events.Mail mail.sender mail.to mail.content) ≡ refused_mail engine.arrivals mail.to mail.content = ap (λ (b : Bool). if not b then Some engine_errors.Untimed else refused_mail engine.arrivals mail.to mail.content) timed in
    inr (made ∙ ap (replay_error 0) (serial_alone engine.arrivals mail why fit (sym own ∙ is)))

pub mail_unlisted : (e : ReplayError) → IsMailRefusal e → is_of_list e ≡ false
mail_unlisted e (inl host) = host_unlisted e host
mail_unlisted e (inr is) = ap is_of_list is

pub mail_of_life : (e : ReplayError) → IsMailRefusal e → is_of_life (listen_error e) ≡ true
mail_of_life e (inl host) = host_of_life e host
mail_of_life e (inr is) = ap (λ (x : ReplayError). is_of_life (listen_error x)) is

-- ---- of any

pub never_door : (e : ReplayError) → listen_error e ≢ errors.Door
never_door replay_errors.Disk h = absurd cc
never_door replay_errors.Tell h = absurd cc
never_door replay_errors.Source h = absurd cc
never_door replay_errors.NoMemory h = absurd cc
never_door (replay_errors.BadEvent n) h = absurd cc
never_door (replay_errors.Limit bound) h = absurd cc
never_door (replay_errors.Damaged area name) h = absurd cc
never_door (replay_errors.Unreadable area name) h = absurd cc

pub readable_on : (e : ReplayError) → is_replay_unreadable e ≡ false → is_unreadable (listen_error e) ≡ false
readable_on replay_errors.Disk h = refl
readable_on replay_errors.Tell h = refl
readable_on replay_errors.Source h = refl
readable_on replay_errors.NoMemory h = refl
readable_on (replay_errors.BadEvent n) h = refl
readable_on (replay_errors.Limit bound) h = refl
readable_on (replay_errors.Damaged area name) h = refl
readable_on (replay_errors.Unreadable area name) h = h

only_disk : {T : Type 0} (e : ReplayError) → IsErrOf {T = T} (Err (listen_error e)) errors.Disk → e ≡ replay_errors.Disk
only_disk replay_errors.Disk h = refl
only_disk replay_errors.Tell h = absurd cc
only_disk replay_errors.Source h = absurd cc
only_disk replay_errors.NoMemory h = absurd cc
only_disk (replay_errors.BadEvent n) h = absurd cc
only_disk (replay_errors.Limit bound) h = absurd cc
only_disk (replay_errors.Damaged area name) h = absurd cc
only_disk (replay_errors.Unreadable area name) h = absurd cc

only_tell : {T : Type 0} (e : ReplayError) → IsErrOf {T = T} (Err (listen_error e)) errors.Tell → e ≡ replay_errors.Tell
only_tell replay_errors.Disk h = absurd cc
only_tell replay_errors.Tell h = refl
only_tell replay_errors.Source h = absurd cc
only_tell replay_errors.NoMemory h = absurd cc
only_tell (replay_errors.BadEvent n) h = absurd cc
only_tell (replay_errors.Limit bound) h = absurd cc
only_tell (replay_errors.Damaged area name) h = absurd cc
only_tell (replay_errors.Unreadable area name) h = absurd cc

pub cause_passed : {T S : Type 0} (before after : Faults) (e : ReplayError) (made : ListenError) (r : Result S ReplayError) → r ≡ Err e → made ≡ listen_error e → ReplayCause before after r → ListenCause {T = T} before after (Err made)
cause_passed {T} {S} before after e made r is same c = record {
  disk_later = c.disk_later;
  tell_later = c.tell_later;
  disk = λ of. c.disk (is ∙ ap {B = Result S ReplayError} (λ (x : ReplayError). Err x) (only_disk {T = T} e (ap {B = Result T ListenError} (λ (x : ListenError). Err x) (sym same) ∙ of)));
  tell = λ of. c.tell (is ∙ ap {B = Result S ReplayError} (λ (x : ReplayError). Err x) (only_tell {T = T} e (ap {B = Result T ListenError} (λ (x : ListenError). Err x) (sym same) ∙ of)));
}

pub cause_ok : {T : Type 0} (before after : Faults) (made : T) → before.disk ≤ after.disk → before.tell ≤ after.tell → ListenCause {T = T} before after (Ok made)
cause_ok before after made disk tell = record { disk_later = disk; tell_later = tell; disk = λ is. absurd cc; tell = λ is. absurd cc }

rose_later : (a b c : ℕ) → a ≤ b → Rose b c → Rose a c
rose_later a b c h (inl more) = inl (omega (arith, h, more))
rose_later a b c h (inr last) = inr last

same_err : {T S : Type 0} (r : Result S ListenError) (made e : ListenError) → r ≡ Err made → IsErrOf {T = T} (Err made) e → IsErrOf r e
same_err r made e is of = let same : made ≡ e = cc in is ∙ ap (λ (x : ListenError). Err x) same

-- a refusal that came behind other calls
pub cause_behind : {T S : Type 0} (a b c : Faults) (made : ListenError) (r : Result S ListenError) → r ≡ Err made → a.disk ≤ b.disk → a.tell ≤ b.tell → ListenCause b c r → ListenCause {T = T} a c (Err made)
cause_behind {T} a b c made r is disk tell h =
    let disk_later = h.disk_later in
    let tell_later = h.tell_later in
    record {
      disk_later = omega (arith, disk, disk_later);
      tell_later = omega (arith, tell, tell_later);
      disk = λ of. rose_later a.disk b.disk c.disk disk (h.disk (same_err {T = T} r made errors.Disk is of));
      tell = λ of. rose_later a.tell b.tell c.tell tell (h.tell (same_err {T = T} r made errors.Tell is of));
    }

-- a refusal that isn't of the host
pub cause_other : {T : Type 0} (before after : Faults) (made : ListenError) → made ≢ errors.Disk → made ≢ errors.Tell → before.disk ≤ after.disk → before.tell ≤ after.tell → ListenCause {T = T} before after (Err made)
cause_other before after made disk tell disk_later tell_later = record {
  disk_later = disk_later;
  tell_later = tell_later;
  disk = λ is. let same : made ≡ errors.Disk = cc in absurd (disk same);
  tell = λ is. let same : made ≡ errors.Tell = cc in absurd (tell same);
}

-- ---- of a life that never began

pub unbegun_unlisted : (e : ReplayError) → IsUnbegun e → is_of_list e ≡ false
unbegun_unlisted e (inl host) = host_unlisted e host
unbegun_unlisted e (inr (inl (area, name, is, some))) = ap is_of_list is
unbegun_unlisted e (inr (inr (is, some))) = ap is_of_list is

host_listens : (e : ReplayError) → is_of_host e ≡ true → IsListenRefusal (listen_error e)
host_listens replay_errors.Disk h = tt
host_listens replay_errors.Tell h = tt
host_listens replay_errors.NoMemory h = tt
host_listens (replay_errors.Unreadable area name) h = tt
host_listens replay_errors.Source h = absurd cc
host_listens (replay_errors.BadEvent n) h = absurd cc
host_listens (replay_errors.Limit bound) h = absurd cc
host_listens (replay_errors.Damaged area name) h = absurd cc

pub unbegun_listens : (e : ReplayError) → IsUnbegun e → IsListenRefusal (listen_error e)
unbegun_listens e (inl host) = host_listens e host
unbegun_listens e (inr (inl (area, name, is, some))) = subst (λ (x : ReplayError). IsListenRefusal (listen_error x)) (sym is) some
unbegun_listens e (inr (inr (is, some))) = subst (λ (x : ReplayError). IsListenRefusal (listen_error x)) (sym is) some

-- one of a life that has begun
pub life_listens : (e : ListenError) → is_of_life e ≡ true → IsListenRefusal e
life_listens errors.Disk h = tt
life_listens errors.Tell h = tt
life_listens errors.Door h = tt
life_listens errors.NoMemory h = tt
life_listens (errors.Limit bounds.Content) h = absurd cc
life_listens (errors.Limit bounds.Recipients) h = absurd cc
life_listens (errors.Limit bounds.Serial) h = tt
life_listens (errors.Limit bounds.Generation) h = absurd cc
life_listens (errors.Limit bounds.Deliveries) h = absurd cc
life_listens (errors.Limit bounds.Input) h = absurd cc
life_listens (errors.Damaged area name) h = absurd cc
life_listens (errors.Unreadable area name) h = tt

-- ---- damage

pub damage_passed : (area : Area) (name : List ℕ) (u v : View) (e : ReplayError) → NamesReplayDamage area name e × Stays u v → NamesDamage area name (listen_error e) × Stays u v
damage_passed area name u v replay_errors.Disk h = (tt, h.1)
damage_passed area name u v replay_errors.Tell h = (tt, h.1)
damage_passed area name u v replay_errors.NoMemory h = (tt, h.1)
damage_passed area name u v replay_errors.Source h = absurd h.0
damage_passed area name u v (replay_errors.BadEvent n) h = absurd h.0
damage_passed area name u v (replay_errors.Limit bound) h = absurd h.0
damage_passed area name u v (replay_errors.Damaged a n) h = (h.0, h.1)
damage_passed area name u v (replay_errors.Unreadable a n) h = absurd h.0

-- a refusal of a life that has begun names no damage
pub life_only : {T : Type 0} (v : View) (e : ListenError) → is_of_life e ≡ true → NamesOnlyDamage {T = T} v (Err e)
life_only v errors.Disk h area name is = absurd cc
life_only v errors.Tell h area name is = absurd cc
life_only v errors.Door h area name is = absurd cc
life_only v errors.NoMemory h area name is = absurd cc
life_only v (errors.Limit bound) h area name is = absurd cc
life_only v (errors.Damaged a n) h area name is = absurd cc
life_only v (errors.Unreadable a n) h area name is = absurd cc

-- only a damage is called one
pub damage_only : {T S : Type 0} (v : View) (e : ReplayError) → NamesOnlyReplayDamage {T = S} v (Err e) → NamesOnlyDamage {T = T} v (Err (listen_error e))
damage_only v replay_errors.Disk h area name is = absurd cc
damage_only v replay_errors.Tell h area name is = absurd cc
damage_only v replay_errors.Source h area name is = absurd cc
damage_only v replay_errors.NoMemory h area name is = absurd cc
damage_only v (replay_errors.BadEvent n) h area name is = absurd cc
damage_only v (replay_errors.Limit bound) h area name is = absurd cc
damage_only v (replay_errors.Damaged a n) h area name is =
    let same_area : a ≡ area = cc in
    let same_name : n ≡ name = cc in
    subst (λ (x : Area). IsDamage v.files x name) same_area (subst (λ (x : List ℕ). IsDamage v.files a x) same_name (h a n refl))
damage_only v (replay_errors.Unreadable a n) h area name is = absurd cc
