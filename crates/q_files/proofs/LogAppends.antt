-- A failure is appended to the log of its message: what the files stand for, and what a crash leaves.
use Rattle.std.proofs.Common.{◌≡◌, ◌⊎◌, ⊎_elim, ◌++◌, ◌∙◌, ℕ, true, false, ◌||◌, is_some, Bool, List, [], ◌∷◌, length, map, if◌then◌else◌, Option, Some, None, refl, sym, ap, subst, inl, inr}
use Rattle.std.specs.Option.{IsSomeAnd, option_map, option_map_or}
use Rattle.std.specs.Prelude.{find, IfSome}
use Rattle.q_model.specs.declared.entry.Entry.TheVariants as entries
use Rattle.q_model.specs.declared.id.Id.{Id}
use Rattle.q_model.specs.declared.outcome.Failure.{Failure}
use Rattle.q_model.specs.declared.spot.Area.TheVariants as areas
use Rattle.q_model.specs.Book.{Book, damaged_of, message_of, stands}
use Rattle.q_model.specs.BookChanges.{change_message}
use Rattle.q_model.specs.CutOff.{cut_off, loosened}
use Rattle.q_model.specs.FailureLog.{failures_of, IsFailure, log_records}
use Rattle.q_model.specs.FilesStand.{MessageStands, Stands}
use Rattle.q_model.specs.IdTexts.{id_text, IsId}
use Rattle.q_model.specs.Ids.{id_eq}
use Rattle.q_model.specs.Logs.{with_failure}
use Rattle.q_model.specs.Message.{Message}
use Rattle.q_model.specs.SpoolFiles.{area_of, Files, logged_in, name_at}
use Rattle.q_model.proofs.CrashChanges.{crash-log, crash-message}
use Rattle.q_model.proofs.IdLaws.{id_text-injective}
use Rattle.q_model.proofs.SpotLaws.{area_of-IsQueue}
use Rattle.q_model.proofs.StandChanges.{Stands-change, Stands-message}
use Rattle.q_model.proofs.StandEntries.{KeepsOthers-log}
use Rattle.q_model.proofs.StandLaws.{IsSameBut, true_false}
use Rattle.q_model.proofs.StandLogs.{IsSaid, Stands-logged, Stands-logged_crash}
use Rattle.q_host.specs.Calls.{Syncs}
use Rattle.q_host.specs.View.{Goes, LeavesOnly, now, Remains, Step, View}
use Rattle.q_host.proofs.Puts.{other_area}
use Rattle.q_store.specs.Stores.{OneFile}
use Rattle.q_logfile.specs.Appends.{appendable, Appends, AppendsLog, AppendsLoosely, AppendsNothing, HoldsRecord, MayAppendLog, MayHoldRecord}
use Rattle.q_logfile.specs.HasRecords.{HasRecords}
use Rattle.q_logfile.proofs.AppendLaws.{IsGated, is_gated_by, one_more}
use Rattle.q_books.specs.HostStands.{Between, HostStands, IsLeftOf, KeepsNotes, OwnLogs, Takes, TellsCrashes, TriesLoosely}
use Rattle.q_books.proofs.Calls.{meanwhile}
use Rattle.q_books.proofs.Ids.{stands-changed}
use Rattle.q_books.proofs.Joining.{kept_takes, kept_tries_loosely}
use Rattle.q_files.specs.Changes.{AddsFailure}
use Rattle.q_files.proofs.LogStores.{said}
use Rattle.q_files.proofs.LooseFailures.{crash-with, crash-without, same_failures}
use Rattle.q_files.proofs.OtherPlaces.{other_place, same_but}

-- ---- files

same_book : (b : Book) (id : Id) → change_message b id (λ (m : Message). m) ≡ b
same_book b id = ap (λ (ms : List Message). record b { messages = ms }) (same b.messages)
  where
    one : (m : Message) (t : Bool) → (if t then m else m) ≡ m
    one m true = refl
    one m false = refl

    same : (ms : List Message) → map (λ (m : Message). if id_eq m.id id then m else m) ms ≡ ms
    same [] = refl
    same (m ∷ ms) = ap (λ (x : Message). x ∷ map (λ (m : Message). if id_eq m.id id then m else m) ms) (one m (id_eq m.id id)) ∙ ap (λ (xs : List Message). m ∷ xs) (same ms)

-- a message whose failures are as before stands where its log was written and says the same
message_stands : (f g : Files) (id : Id) (m n : Message) → m.id ≡ id → IsSameBut areas.Bounce (id_text id) f g → logged_in g id ≡ logged_in f id → record m { failures = n.failures } ≡ n
    → map (λ l. l.failure) n.failures ≡ map (λ l. l.failure) m.failures → MessageStands f m → MessageStands g n
message_stands f g id m n is same logs rest said h = subst (MessageStands g) rest (record {
  id = h.id;
  place = h.place;
  not_corrupt = h.not_corrupt;
  bytes = h.bytes;
  there = same (area_of m.place) (name_at m.place m.id) (area_of-IsQueue m.place).not_tmp (λ e. (area_of-IsQueue m.place).not_bounce e.0) ∙ h.there;
  reads = h.reads;
  failures = said ∙ h.failures ∙ ap (failures_of (length m.recipients)) (ap (logged_in f) is ∙ sym logs ∙ ap (logged_in g) (sym is));
})

-- the log of a message says the same
Stands-same_log : (f g : Files) (b : Book) (id : Id) (m : Message) → message_of b id ≡ Some m → IsSameBut areas.Bounce (id_text id) f g → logged_in g id ≡ logged_in f id → Stands f b → Stands g b
Stands-same_log f g b id m found same logs h =
    let old = Stands-message f b id m h found in
    subst (Stands g) (same_book b id) (Stands-change f g b id (λ (x : Message). x) m (record { id = λ x. refl; place = λ x. refl }) found (KeepsOthers-log f g id (subst IsId old.1 old.0.id) same)
    (message_stands f g id m m old.1 same logs refl refl old.0) h)

-- the last failure of a message is loose
Stands-loosened : (f : Files) (b : Book) (id : Id) (m : Message) → message_of b id ≡ Some m → Stands f b → Stands f (change_message b id loosened)
Stands-loosened f b id m found h =
    let old = Stands-message f b id m h found in
    Stands-change f f b id loosened m (record { id = λ x. refl; place = λ x. refl }) found (KeepsOthers-log f f id (subst IsId old.1 old.0.id) (λ a n tmp other. refl))
    (message_stands f f id m (loosened m) old.1 (λ a n tmp other. refl) refl refl (same_failures m.failures) old.0) h

-- the message that was changed is found
found_logged : (id : Id) (failure : Failure) (m : Message) (ms : List Message) → find (λ (x : Message). id_eq x.id id) ms ≡ Some m
    → find (λ (x : Message). id_eq x.id id) (map (λ (x : Message). if id_eq x.id id then with_failure failure x else x) ms) ≡ Some (with_failure failure m)
found_logged id failure m [] e = absurd cc
found_logged id failure m (x ∷ ms) e = by (find (λ (y : Message). id_eq y.id id) (map (λ (y : Message). if id_eq y.id id then with_failure failure y else y) ms)) (id_eq x.id id) refl e (λ behind. found_logged id failure m ms behind)
  where
    by : (rest : Option Message) (t : Bool) → id_eq x.id id ≡ t → (if t then Some x else find (λ (y : Message). id_eq y.id id) ms) ≡ Some m → (find (λ (y : Message). id_eq y.id id) ms ≡ Some m → rest ≡ Some (with_failure failure m))
        → (if id_eq (if t then with_failure failure x else x).id id then Some (if t then with_failure failure x else x) else rest) ≡ Some (with_failure failure m)
    by rest true is here behind =
        let same : x ≡ m = cc in
        ap (λ (t : Bool). if t then Some (with_failure failure x) else rest) is ∙ ap (λ (y : Message). Some (with_failure failure y)) same
    by rest false is here behind = ap (λ (t : Bool). if t then Some x else rest) is ∙ behind here

-- ---- the record behind a log that the disk is sure of

said_by : (o : Option (List ℕ)) (fs : List Failure) → option_map log_records o ≡ Some fs → (file : List ℕ) × (o ≡ Some file) × (log_records file ≡ fs)
said_by None fs e = absurd cc
said_by (Some file) fs e = (file, refl, cc)

module _ (id : Id) (failure : Failure) (b k : Book) (ch : AddsFailure id failure b k) (v w : View) (lawful : TellsCrashes v) (h : HostStands v b) (log : List ℕ) (count : ℕ) (gated : IsGated count log) (fits : IsFailure failure) (there : v.files areas.Bounce (id_text id) ≡ Some log) (sure : (c : Remains) → v.may_leave c → c.files areas.Bounce (id_text id) ≡ Some log) where
  abbrev logged : Book
  logged = change_message b id (with_failure failure)

  abbrev May : Remains → Remains → Type 0
  May = MayHoldRecord areas.Bounce (id_text id) log failure

  abbrev One : Remains → Remains → Type 0
  One = OneFile areas.Bounce (id_text id)

  read_log : logged_in v.files id ≡ log_records log
  read_log = ap (λ (o : Option (List ℕ)). option_map_or log_records o []) there

  same_log : (f g : Files) → f areas.Bounce (id_text id) ≡ Some log → HasRecords g areas.Bounce (id_text id) (log_records log) → logged_in g id ≡ logged_in f id
  same_log f g was has =
      let file = said_by (g areas.Bounce (id_text id)) (log_records log) has in
      ap (λ (o : Option (List ℕ)). option_map_or log_records o []) file.1 ∙ file.2 ∙ sym (ap (λ (o : Option (List ℕ)). option_map_or log_records o []) was)

  says : (file : List ℕ) → log_records file ≡ log_records log ++ failure ∷ [] → IsSaid (with_failure failure ch.message) file
  says file is = said v.files b id ch.message failure file ch.found ch.here ch.fresh (is ∙ ap (λ (fs : List Failure). fs ++ failure ∷ []) (sym read_log)) h.reads

  has_more : (d c : Remains) → HoldsRecord areas.Bounce (id_text id) log failure d c → HasRecords c.files areas.Bounce (id_text id) (log_records log ++ failure ∷ [])
  has_more d c has = ap (option_map log_records) has.whole ∙ ap (λ (fs : List Failure). Some fs) (one_more log count gated failure fits)

  -- ---- a crash

  same_left : (d c : Remains) → v.may_leave d → One d c → HasRecords c.files areas.Bounce (id_text id) (log_records log) → IsLeftOf b c
  same_left d c may one has =
      let left = h.crash d may in
      let next = crash-message b left.left id ch.message left.after ch.found in
      record {
        left = left.left;
        after = left.after;
        stands = Stands-same_log d.files c.files left.left id next.0 next.1 (same_but d.files c.files areas.Bounce (id_text id) one.others) (same_log d.files c.files (sure d may) has) left.stands;
      }

  more_left : (d c : Remains) → v.may_leave d → One d c → HasRecords c.files areas.Bounce (id_text id) (log_records log ++ failure ∷ []) → IsLeftOf logged c
  more_left d c may one has =
      let left = h.crash d may in
      let file = said_by (c.files areas.Bounce (id_text id)) (log_records log ++ failure ∷ []) has in
      record {
        left = change_message left.left id (with_failure failure);
        after = crash-log b left.left id failure left.after;
        stands = Stands-logged_crash d.files c.files b left.left id ch.message file.0 failure ch.found ch.firm (says file.0 file.2) left.after (same_but d.files c.files areas.Bounce (id_text id) one.others) file.1 left.stands;
      }

  either_left : (d c : Remains) → v.may_leave d → May d c → IsLeftOf b c ⊎ IsLeftOf logged c
  either_left d c may m = ⊎_elim (λ same. inl (same_left d c may m.one same)) (λ more. inr (more_left d c may m.one more)) (m.records (sure d may))

  -- the failure may be gone or there
  loose_left : (c : Remains) → IsLeftOf b c ⊎ IsLeftOf logged c → IsLeftOf (change_message logged id loosened) c
  loose_left c left = ⊎_elim
      (λ without. record { left = without.left; after = crash-without b without.left id failure without.after; stands = without.stands })
      (λ firm. record { left = firm.left; after = crash-with b firm.left id failure firm.after; stands = firm.stands }) left

  moments : {S : Step} → Goes S May v w → LeavesOnly v w (Between b logged v.told)
  moments goes = meanwhile b logged v w lawful goes (λ d c may left m. (m.one.told, either_left d c may m)) h

  -- ---- what reads give

  reads_more : One (now v) (now w) → HasRecords w.files areas.Bounce (id_text id) (log_records log ++ failure ∷ []) → Stands w.files logged
  reads_more one has =
      let file = said_by (w.files areas.Bounce (id_text id)) (log_records log ++ failure ∷ []) has in
      Stands-logged v.files w.files b id ch.message file.0 failure ch.found (same_but v.files w.files areas.Bounce (id_text id) one.others) file.1 (says file.0 file.2) h.reads

  -- each failure log is of an id that stands
  own : One (now v) (now w) → OwnLogs v.files b → OwnLogs w.files logged
  own one logs i hi absent =
      let old = Stands-message v.files b id ch.message h.reads ch.found in
      let before : stands b i ≡ false = sym (stands-changed b id (with_failure failure) (λ x. refl) i) ∙ absent in
      one.others areas.Bounce (id_text i)
      (other_place areas.Bounce (id_text id) areas.Bounce (id_text i) (λ e. true_false (stands b i) (subst (λ (j : Id). stands b j ≡ true) (id_text-injective id i (subst IsId old.1 old.0.id) hi e.1) (ap (λ (o : Option Message). is_some o || is_some (damaged_of b id)) ch.found)) before))
      ∙ logs i hi before

  -- ---- the call

  logs_record : Appends areas.Bounce (id_text id) log failure v w → Takes b k v w
  logs_record did = subst (λ (x : Book). Takes b x v w) (sym ch.changed) (record {
    told = did.reads.one.told;
    stands = record {
      reads = reads_more did.reads.one (has_more (now v) (now w) did.reads);
      crash = λ c may. let d = did.goes.crash c may in more_left d.0 c d.1 d.2.one (has_more d.0 c d.2);
    };
    logs = own did.reads.one;
    moments = moments did.goes;
  })

  abbrev IsLoose : Type 0
  IsLoose = TriesLoosely b k (cut_off (entries.Log id failure) k) v w

  logs_nothing : AppendsNothing areas.Bounce (id_text id) log failure v w → IsLoose
  logs_nothing did = subst (λ (x : Book). TriesLoosely b x (cut_off (entries.Log id failure) x) v w) (sym ch.changed) (record {
    told = did.reads.one.told;
    stands = inl (record {
      reads = Stands-same_log v.files w.files b id ch.message ch.found (same_but v.files w.files areas.Bounce (id_text id) did.reads.one.others) (same_log v.files w.files there (did.reads.records there)) h.reads;
      crash = λ c may. let d = did.goes.crash c may in same_left d.0 c d.1 d.2.one (d.2.records (sure d.0 d.1));
    });
    moments = moments did.goes;
  })

  logs_loosely : AppendsLoosely areas.Bounce (id_text id) log failure v w → IsLoose
  logs_loosely did =
      let reads = reads_more did.reads.one (has_more (now v) (now w) did.reads) in
      subst (λ (x : Book). TriesLoosely b x (cut_off (entries.Log id failure) x) v w) (sym ch.changed) (record {
        told = did.reads.one.told;
        stands = inr (inr (record {
          reads = Stands-loosened w.files logged id (with_failure failure ch.message) (found_logged id failure ch.message b.messages ch.found) reads;
          crash = λ c may. let d = did.goes.crash c may in loose_left c (either_left d.0 c d.1 d.2);
        }));
        moments = moments did.goes;
      })

-- ---- the log is synced, and then appended to

module _ (id : Id) (failure : Failure) (u v w : View) (name : List ℕ) (is : name ≡ id_text id) (count : ℕ) (there : IsSomeAnd (u.files areas.Bounce (id_text id)) (λ log. appendable log ≡ Some count)) (sy : Syncs areas.Bounce name u v) where
  -- the log, of which the disk is sure
  record Ready : Type 0 where
    log : List ℕ
    gated : IsGated count log
    reads : v.files areas.Bounce (id_text id) ≡ Some log
    sure : (c : Remains) → v.may_leave c → c.files areas.Bounce (id_text id) ≡ Some log

  ready : Ready
  ready = by (u.files areas.Bounce (id_text id)) refl there
    where
      by : (o : Option (List ℕ)) → u.files areas.Bounce (id_text id) ≡ o → IsSomeAnd o (λ log. appendable log ≡ Some count) → Ready
      by None e none = absurd none
      by (Some log) e some = record {
        log = log;
        gated = is_gated_by count log some;
        reads = ap (λ (f : Files). f areas.Bounce (id_text id)) sy.files ∙ e;
        sure = λ c may. subst (λ (n : List ℕ). c.files areas.Bounce n ≡ u.files areas.Bounce n) is (sy.goes.crash c may).2.whole ∙ e;
      }

  appends : AppendsLog areas.Bounce name failure v w → Appends areas.Bounce (id_text id) ready.log failure v w
  appends d = subst (λ (o : Option (List ℕ)). IfSome o (λ log. Appends areas.Bounce (id_text id) log failure v w)) ready.reads (subst (λ (n : List ℕ). AppendsLog areas.Bounce n failure v w) is d)

  may_append : MayAppendLog areas.Bounce name failure v w → AppendsNothing areas.Bounce (id_text id) ready.log failure v w ⊎ AppendsLoosely areas.Bounce (id_text id) ready.log failure v w
  may_append d = subst (λ (o : Option (List ℕ)). IfSome o (λ log. AppendsNothing areas.Bounce (id_text id) log failure v w ⊎ AppendsLoosely areas.Bounce (id_text id) log failure v w)) ready.reads (subst (λ (n : List ℕ). MayAppendLog areas.Bounce n failure v w) is d)

  no_notes : OneFile areas.Bounce (id_text id) (now v) (now w) → KeepsNotes u w
  no_notes one n = one.others areas.Defer n (other_area areas.Bounce (id_text id) areas.Defer n (λ e. absurd cc)) ∙ ap (λ (f : Files). f areas.Defer n) sy.files

  pub appends_no_notes : AppendsLog areas.Bounce name failure v w → KeepsNotes u w
  appends_no_notes d = no_notes (appends d).reads.one

  pub may_append_no_notes : MayAppendLog areas.Bounce name failure v w → KeepsNotes u w
  may_append_no_notes d = ⊎_elim (λ nothing. no_notes nothing.reads.one) (λ loose. no_notes loose.reads.one) (may_append d)

  module _ (b k : Book) (ch : AddsFailure id failure b k) (lawful : TellsCrashes u) (then_lawful : TellsCrashes v) (h : HostStands u b) (fits : IsFailure failure) where
    first : Takes b b u v
    first = record {
      told = sy.told;
      stands = record {
        reads = subst (λ (f : Files). Stands f b) (sym sy.files) h.reads;
        crash = λ c may. let d = sy.goes.crash c may in subst (IsLeftOf b) (sym d.2.same) (h.crash d.0 d.1);
      };
      logs = λ own. subst (λ (f : Files). OwnLogs f b) (sym sy.files) own;
      moments = meanwhile b b u v lawful sy.goes (λ d c may left same. (ap (λ (r : Remains). r.told) same, inl (subst (IsLeftOf b) (sym same) left))) h;
    }

    pub appends_failure : AppendsLog areas.Bounce name failure v w → Takes b k u w
    appends_failure d = kept_takes b k u v w first (logs_record id failure b k ch v w then_lawful first.stands ready.log count ready.gated fits ready.reads ready.sure (appends d))

    pub may_append_failure : MayAppendLog areas.Bounce name failure v w → TriesLoosely b k (cut_off (entries.Log id failure) k) u w
    may_append_failure d = kept_tries_loosely b k u v w (cut_off (entries.Log id failure) k) first (⊎_elim
        (λ nothing. logs_nothing id failure b k ch v w then_lawful first.stands ready.log count ready.gated fits ready.reads ready.sure nothing)
        (λ loose. logs_loosely id failure b k ch v w then_lawful first.stands ready.log count ready.gated fits ready.reads ready.sure loose) (may_append d))
