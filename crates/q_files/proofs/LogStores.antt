-- A failure log is written anew with one failure more: what the files stand for, and what a crash leaves.
use Rattle.std.proofs.Common.{◌≡◌, ◌⊎◌, ⊎_elim, ◌<◌, ◌++◌, ◌∙◌, ℕ, true, false, ◌||◌, is_some, List, [], ◌∷◌, length, map, Option, Some, None, refl, sym, ap, subst, inl, inr}
use Rattle.std.specs.List.{AllByRecursion}
use Rattle.std.specs.Option.{option_map_or}
use Rattle.std.specs.Prelude.{◌==◌, unwrap_or}
use Rattle.std.proofs.lemmas.List.{map-append}
use Rattle.q_model.specs.declared.id.Id.{Id}
use Rattle.q_model.specs.declared.outcome.Failure.{Failure}
use Rattle.q_model.specs.declared.spot.Area.TheVariants as areas
use Rattle.q_model.specs.Book.{Book, damaged_of, message_of, stands}
use Rattle.q_model.specs.BookChanges.{change_message}
use Rattle.q_model.specs.FailureLog.{failures_of, IsFailure, log_bytes, log_records}
use Rattle.q_model.specs.FilesStand.{Stands}
use Rattle.q_model.specs.IdTexts.{id_text, IsId}
use Rattle.q_model.specs.Logs.{with_failure}
use Rattle.q_model.specs.Message.{is_logged, Logged, Message}
use Rattle.q_model.specs.SpoolFiles.{Files, logged_in}
use Rattle.q_model.proofs.CrashChanges.{crash-log}
use Rattle.q_model.proofs.EachLaws.{any-map}
use Rattle.q_model.proofs.FailureLogLaws.{log_records-log_bytes, log_records-nil}
use Rattle.q_model.proofs.FailuresLaws.{failures_of-push, has_position}
use Rattle.q_model.proofs.IdLaws.{id_text-injective}
use Rattle.q_model.proofs.StandChanges.{Stands-message}
use Rattle.q_model.proofs.StandLaws.{IsSameBut, true_false}
use Rattle.q_model.proofs.StandLogs.{IsSaid, Stands-logged, Stands-logged_crash}
use Rattle.q_host.specs.View.{Goes, LeavesOnly, Remains, View}
use Rattle.q_host.proofs.Puts.{other_area}
use Rattle.q_store.specs.Stores.{Holds, IsAsBefore, IsStored, Leaves, MayHold, MayStore, Stores}
use Rattle.q_books.specs.HostStands.{Between, HostStands, IsLeftOf, OwnLogs, Takes, TellsCrashes, Tries}
use Rattle.q_books.proofs.Calls.{meanwhile, tried}
use Rattle.q_books.proofs.Ids.{stands-changed}
use Rattle.q_files.specs.Changes.{AddsFailure}
use Rattle.q_files.proofs.MessageStores.{kept_stands}
use Rattle.q_files.proofs.OtherPlaces.{other_place}

-- the records of the bytes of a log, which has none where it is missing
pub records_there : (f : Files) (id : Id) (name log : List ℕ) → name ≡ id_text id → log ≡ unwrap_or (f areas.Bounce name) [] → log_records log ≡ logged_in f id
records_there f id name log is read =
    ap log_records (read ∙ ap (λ (n : List ℕ). unwrap_or (f areas.Bounce n) []) is) ∙ by (f areas.Bounce (id_text id))
  where
    by : (o : Option (List ℕ)) → log_records (unwrap_or o []) ≡ option_map_or log_records o []
    by None = log_records-nil
    by (Some bytes) = refl

-- none of the failures of a message has a position that isn't logged
new_position : (m : Message) (p : ℕ) → has_position p (map (λ (l : Logged). l.failure) m.failures) ≡ is_logged m p
new_position m p = any-map (λ (f : Failure). f.position == p) (λ (l : Logged). l.failure) m.failures

-- a message with one failure more is said by the records that were read and this one
pub said : (f : Files) (b : Book) (id : Id) (m : Message) (failure : Failure) (log : List ℕ) → message_of b id ≡ Some m → failure.position < length m.recipients → is_logged m failure.position ≡ false
    → log_records log ≡ logged_in f id ++ failure ∷ [] → Stands f b → IsSaid (with_failure failure m) log
said f b id m failure log found here new reads h =
    let old = Stands-message f b id m h found in
    let was : map (λ (l : Logged). l.failure) m.failures ≡ failures_of (length m.recipients) (logged_in f id) = old.0.failures ∙ ap (λ (i : Id). failures_of (length m.recipients) (logged_in f i)) old.1 in
    let fresh : has_position failure.position (failures_of (length m.recipients) (logged_in f id)) ≡ false = ap (has_position failure.position) (sym was) ∙ new_position m failure.position ∙ new in
    map-append (λ (l : Logged). l.failure) m.failures (record { failure = failure; firm = true } ∷ [])
    ∙ ap (λ (fs : List Failure). fs ++ failure ∷ []) was
    ∙ sym (failures_of-push (length m.recipients) (logged_in f id) failure here fresh)
    ∙ ap (failures_of (length m.recipients)) (sym reads)

module _ (t : List ℕ) (id : Id) (failure : Failure) (log : List ℕ) (b k : Book) (ch : AddsFailure id failure b k) where
  abbrev logged : Book
  logged = change_message b id (with_failure failure)

  abbrev IsIn : Files → Files → Type 0
  IsIn f g = IsStored t areas.Bounce (id_text id) log f g

  same_but_it : (f g : Files) → IsIn f g → IsSameBut areas.Bounce (id_text id) f g
  same_but_it f g s a n not_tmp other = s.others a n (other_area areas.Tmp t a n not_tmp) (other_place areas.Bounce (id_text id) a n (λ e. other (sym e.0, sym e.1)))

  kept_left : (d c : Remains) → IsLeftOf b d → IsAsBefore t d.files c.files → IsLeftOf b c
  kept_left d c left same = record { left = left.left; after = left.after; stands = kept_stands t d.files c.files left.left same left.stands }

  module _ (says : IsSaid (with_failure failure ch.message) log) where
    stored_left : (d c : Remains) → IsLeftOf b d → Stores t areas.Bounce (id_text id) log d c → IsLeftOf logged c
    stored_left d c left s = record {
      left = change_message left.left id (with_failure failure);
      after = crash-log b left.left id failure left.after;
      stands = Stands-logged_crash d.files c.files b left.left id ch.message log failure ch.found ch.firm says left.after (same_but_it d.files c.files s.files) s.files.whole left.stands;
    }

    may_left : (d c : Remains) → IsLeftOf b d → MayStore t areas.Bounce (id_text id) log d c → IsLeftOf b c ⊎ IsLeftOf logged c
    may_left d c left s = ⊎_elim (λ same. inl (kept_left d c left same)) (λ there. inr (stored_left d c left (record { files = there; told = s.told }))) s.files

    -- each failure log is of an id that stands
    own_logged : (f g : Files) → IsId id → IsIn f g → OwnLogs f b → OwnLogs g logged
    own_logged f g hid s own i hi absent =
        let before : stands b i ≡ false = sym (stands-changed b id (with_failure failure) (λ x. refl) i) ∙ absent in
        s.others areas.Bounce (id_text i) (other_area areas.Tmp t areas.Bounce (id_text i) (λ e. absurd cc))
        (other_place areas.Bounce (id_text id) areas.Bounce (id_text i) (λ e. true_false (stands b i) (subst (λ (j : Id). stands b j ≡ true) (id_text-injective id i hid hi e.1) (ap (λ (o : Option Message). is_some o || is_some (damaged_of b id)) ch.found)) before))
        ∙ own i hi before

    module _ (v w : View) (lawful : TellsCrashes v) (h : HostStands v b) where
      storing : {S : Remains → Remains → Type 0} → Goes S (MayStore t areas.Bounce (id_text id) log) v w → LeavesOnly v w (Between b logged v.told)
      storing goes = meanwhile b logged v w lawful goes (λ d c may left s. (s.told, may_left d c left s)) h

      held : Holds t areas.Bounce (id_text id) log v w → Takes b logged v w
      held s =
          let old = Stands-message v.files b id ch.message h.reads ch.found in
          record {
            told = s.reads.told;
            stands = record {
              reads = Stands-logged v.files w.files b id ch.message log failure ch.found (same_but_it v.files w.files s.reads.files) s.reads.files.whole says h.reads;
              crash = λ c may. let d = s.goes.crash c may in stored_left d.0 c (h.crash d.0 d.1) d.2;
            };
            logs = own_logged v.files w.files (subst IsId old.1 old.0.id) s.reads.files;
            moments = storing s.goes;
          }

      left_out : Leaves t areas.Bounce (id_text id) log v w → Tries b logged v w
      left_out s = record {
        told = s.reads.told;
        stands = inl (record {
          reads = kept_stands t v.files w.files b s.reads.others h.reads;
          crash = λ c may. let d = s.goes.crash c may in kept_left d.0 c (h.crash d.0 d.1) d.2.others;
        });
        moments = storing s.goes;
      }

      pub logs_failure : Holds t areas.Bounce (id_text id) log v w → Takes b k v w
      logs_failure s = subst (λ (x : Book). Takes b x v w) (sym ch.changed) (held s)

      pub may_log_failure : MayHold t areas.Bounce (id_text id) log v w → Tries b k v w
      may_log_failure (inl s) = subst (λ (x : Book). Tries b x v w) (sym ch.changed) (left_out s)
      may_log_failure (inr s) = tried b k v w lawful (logs_failure s)

-- ---- the call, with the records that were read and one more

module _ (t name : List ℕ) (id : Id) (failure : Failure) (fs : List Failure) (b k : Book) (ch : AddsFailure id failure b k) (v w : View) (lawful : TellsCrashes v) (is : name ≡ id_text id) (read : fs ≡ logged_in v.files id ++ failure ∷ []) (fit : AllByRecursion IsFailure fs) (h : HostStands v b) where
  says : IsSaid (with_failure failure ch.message) (log_bytes fs)
  says = said v.files b id ch.message failure (log_bytes fs) ch.found ch.here ch.fresh (log_records-log_bytes fs fit ∙ read) h.reads

  pub fails : Holds t areas.Bounce name (log_bytes fs) v w → Takes b k v w
  fails d = logs_failure t id failure (log_bytes fs) b k ch says v w lawful h (subst (λ (n : List ℕ). Holds t areas.Bounce n (log_bytes fs) v w) is d)

  pub may_fail : MayHold t areas.Bounce name (log_bytes fs) v w → Tries b k v w
  may_fail d = may_log_failure t id failure (log_bytes fs) b k ch says v w lawful h (subst (λ (n : List ℕ). MayHold t areas.Bounce n (log_bytes fs) v w) is d)
