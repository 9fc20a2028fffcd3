-- A spool that shows a damage is found so, whatever would be done on it.
use Rattle.std.proofs.Common.{◌≡◌, ap, false, inl, List, refl, subst, sym, true, ◌∙◌, ℕ}
use Rattle.std.specs.Prelude.{◌||◌, Err, IsErrOf, Ok, Result}
use Rattle.std.specs.Result.{IsErrAnd}
use Rattle.q_engine.specs.Beginnings.{is_of_spool}
use Rattle.q_engine.specs.Refusals.{is_of_host}
use Rattle.q_engine.specs.declared.error.EngineError.{EngineError}
use Rattle.q_engine.specs.declared.error.EngineError.TheVariants as engine_errors
use Rattle.q_model.specs.declared.limits.Bound.{Bound}
use Rattle.q_events.specs.declared.error.EventError.{EventError}
use Rattle.q_events.specs.declared.error.EventError.TheVariants as event_errors
use Rattle.q_host.specs.Calls.{Stays}
use Rattle.q_host.specs.View.{View}
use Rattle.q_model.specs.Ledger.{Ledger}
use Rattle.q_model.specs.Settings.{World}
use Rattle.q_model.specs.SpoolFiles.{Files}
use Rattle.q_model.specs.Book.{Book}
use Rattle.q_model.specs.declared.event.Mode.{Mode}
use Rattle.q_model.specs.declared.spot.Area.{Area}
use Rattle.q_events.specs.declared.list_item.ListItem.{ListItem}
use Rattle.q_replay.specs.DamagedSpools.{NamesDamage, NamesOnlyDamage, RefusesDamage}
use Rattle.q_replay.specs.Reading.{TakenItems}
use Rattle.q_replay.specs.RunEnds.{RunEnds}
use Rattle.q_replay.specs.Takings.{list_error, NotTaken, replay_error}
use Rattle.q_replay.specs.declared.error.ReplayError.{ReplayError}
use Rattle.q_replay.specs.declared.error.ReplayError.TheVariants as errors
use Rattle.q_restart.specs.Damages.{IsDamage, IsSpent}
use Rattle.q_restart.proofs.OneSight.{one-damage, sound-undamaged}
use Rattle.q_restart.specs.Openings.{LeavesUnbegun}

-- what the refusal of a beginning says
pub record Unbegun (error : EngineError) (v x : View) : Type 0 where
  pub kinds : (is_of_host error || is_of_spool error) ≡ true
  pub damage : (area : Area) (name : List ℕ) → error ≡ engine_errors.Damaged area name → IsDamage v.files area name
  pub spent : (bound : Bound) → error ≡ engine_errors.Limit bound → IsSpent v.files
  pub untouched : is_of_spool error ≡ true → Stays v x
  pub unbegun : LeavesUnbegun v x

module _ (v x : View) (line : ℕ) (area : Area) (name : List ℕ) (damage : IsDamage v.files area name) where
  -- a damage that shows is the one that is named
  pub begun_damaged : (error : EngineError) → Unbegun error v x → NamesDamage area name (replay_error line error) × Stays v x
  begun_damaged engine_errors.Disk u = (tt, u.unbegun (inl (area, name, damage)))
  begun_damaged engine_errors.Tell u = (tt, u.unbegun (inl (area, name, damage)))
  begun_damaged engine_errors.NoMemory u = (tt, u.unbegun (inl (area, name, damage)))
  begun_damaged (engine_errors.Unknown number) u = let bad : false ≡ true = u.kinds in absurd cc
  begun_damaged (engine_errors.WrongCount number want got) u = let bad : false ≡ true = u.kinds in absurd cc
  begun_damaged engine_errors.Untimed u = let bad : false ≡ true = u.kinds in absurd cc
  begun_damaged (engine_errors.Unreadable a n) u = let bad : false ≡ true = u.kinds in absurd cc
  begun_damaged (engine_errors.Limit bound) u =
      let spent = u.spent bound refl in absurd (sound-undamaged v.files spent.boot spent.walk area name spent.shows spent.sound damage)
  begun_damaged (engine_errors.Damaged a n) u =
      let one = one-damage v.files a area n name (u.damage a n refl) damage in (one, u.untouched refl)

pub refused_passed : {T : Type 0} (v x : View) (area : Area) (name : List ℕ) (r : Result T ReplayError) (inner : ReplayError) → IsErrAnd r (λ e. e ≡ inner) → NamesDamage area name inner × Stays v x → RefusesDamage area name v x r
refused_passed v x area name (Ok done) inner is p = absurd is
refused_passed v x area name (Err e) inner is p = (subst (NamesDamage area name) (sym is) p.0, p.1)

-- only a damage that shows is named
named_only : (v x : View) (line : ℕ) (error : EngineError) → Unbegun error v x → (area : Area) (name : List ℕ) → errors.Damaged area name ≡ replay_error line error → IsDamage x.files area name
named_only v x line engine_errors.Disk u area name is = absurd cc
named_only v x line engine_errors.Tell u area name is = absurd cc
named_only v x line engine_errors.NoMemory u area name is = absurd cc
named_only v x line (engine_errors.Unknown number) u area name is = absurd cc
named_only v x line (engine_errors.WrongCount number want got) u area name is = absurd cc
named_only v x line engine_errors.Untimed u area name is = absurd cc
named_only v x line (engine_errors.Unreadable a n) u area name is = absurd cc
named_only v x line (engine_errors.Limit bound) u area name is = absurd cc
named_only v x line (engine_errors.Damaged a n) u area name is =
    let same_area : a ≡ area = cc in
    let same_name : n ≡ name = cc in
    subst (λ (f : Files). IsDamage f area name) (sym (u.untouched refl).files)
    (subst (λ m. IsDamage v.files area m) same_name (subst (λ b. IsDamage v.files b n) same_area (u.damage a n refl)))

err_same : {T : Type 0} (e f : ReplayError) → IsErrOf {T = T} (Err e) f → f ≡ e
err_same e f is = cc

pub begun_only : {T : Type 0} (v x : View) (line : ℕ) (error : EngineError) → Unbegun error v x → NamesOnlyDamage {T = T} x (Err (replay_error line error))
begun_only {T = T} v x line error u area name is = named_only v x line error u area name (err_same {T = T} (replay_error line error) (errors.Damaged area name) is)

pub only_passed : {T S : Type 0} (x : View) (r : Result T ReplayError) (inner : ReplayError) → IsErrAnd r (λ e. e ≡ inner) → NamesOnlyDamage {T = S} x (Err inner) → NamesOnlyDamage x r
only_passed x (Ok done) inner is p area name named = absurd is
only_passed {S = S} x (Err e) inner is p area name named = p area name (ap (λ (y : ReplayError). Err y) (sym is ∙ sym (err_same e (errors.Damaged area name) named)))

-- what wasn't taken of an item
pub untaken_only : {T : Type 0} (w : World) (l : Ledger) (item : ListItem) (line : ℕ) (error : ReplayError) (u v : View) → NotTaken w l item line error u v → NamesOnlyDamage {T = T} v (Err error)
untaken_only w l item line errors.Disk u v r area name is = absurd cc
untaken_only w l item line errors.Tell u v r area name is = absurd cc
untaken_only w l item line errors.NoMemory u v r area name is = absurd cc
untaken_only w l item line errors.Source u v r area name is = absurd cc
untaken_only w l item line (errors.BadEvent n) u v r area name is = absurd cc
untaken_only w l item line (errors.Limit bound) u v r area name is = absurd cc
untaken_only w l item line (errors.Unreadable a n) u v r area name is = absurd r
untaken_only {T = T} w l item line (errors.Damaged a n) u v r area name is =
    let both = err_same {T = T} (errors.Damaged a n) (errors.Damaged area name) is in
    let same_area : a ≡ area = cc in
    let same_name : n ≡ name = cc in
    subst (λ m. IsDamage v.files area m) same_name (subst (λ b. IsDamage v.files b n) same_area r.damage)

-- the end of a run that names a damage
pub ends_only : (w : World) (mode : Mode) (b : Book) (taken : TakenItems) (u v : View) (r : Result (Unit {0}) ReplayError) → RunEnds w mode b taken u v r → NamesOnlyDamage v r
ends_only w mode b taken u v (Ok done) r area name is = absurd cc
ends_only w mode b taken u v (Err errors.Disk) r area name is = absurd cc
ends_only w mode b taken u v (Err errors.Tell) r area name is = absurd cc
ends_only w mode b taken u v (Err errors.NoMemory) r area name is = absurd cc
ends_only w mode b taken u v (Err errors.Source) r area name is = absurd cc
ends_only w mode b taken u v (Err (errors.BadEvent n)) r area name is = absurd cc
ends_only w mode b taken u v (Err (errors.Limit bound)) r area name is = absurd cc
ends_only w mode b taken u v (Err (errors.Unreadable a n)) r area name is = absurd r
ends_only w mode b taken u v (Err (errors.Damaged a n)) r area name is =
    let both = err_same {T = Unit {0}} (errors.Damaged a n) (errors.Damaged area name) is in
    let same_area : a ≡ area = cc in
    let same_name : n ≡ name = cc in
    subst (λ m. IsDamage v.files area m) same_name (subst (λ b. IsDamage v.files b n) same_area r.3)

-- a list that can't be read is no damage
pub unread_only : {T : Type 0} (v : View) (error : EventError) → NamesOnlyDamage {T = T} v (Err (list_error error))
unread_only v event_errors.NoMemory area name is = absurd cc
unread_only v event_errors.Source area name is = absurd cc
unread_only v (event_errors.BadEvent line) area name is = absurd cc
unread_only v (event_errors.Limit bound) area name is = absurd cc

pub none_only : {T : Type 0} (v : View) (done : T) → NamesOnlyDamage v (Ok done)
none_only v done area name is = absurd cc
