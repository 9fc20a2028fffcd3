-- A message's file is stored: what the files stand for, and what a crash leaves of it.
use Rattle.std.proofs.Common.{◌≡◌, ◌≢◌, ◌⊎◌, ⊎_elim, ℕ, true, false, List, [], ◌∷◌, length, map, is_some, Option, Some, None, refl, sym, ap, subst, ◌∙◌, inl, inr}
use Rattle.std.specs.Option.{option_map_or}
use Rattle.q_model.specs.declared.id.Id.{Id}
use Rattle.q_model.specs.declared.spot.Area.{Area}
use Rattle.q_model.specs.declared.spot.Area.TheVariants as areas
use Rattle.q_model.specs.Arrivals.{arrived}
use Rattle.q_model.specs.Book.{Book, stands}
use Rattle.q_model.specs.BookChanges.{add_message}
use Rattle.q_model.specs.Crashes.{EachTo, MessageAfter, RecipientAfter}
use Rattle.q_model.specs.FailureLog.{failures_of, log_records}
use Rattle.q_model.specs.FilesStand.{file_message, file_recipient, MessageStands, Stands}
use Rattle.q_model.specs.IdTexts.{id_text, IsId}
use Rattle.q_model.specs.Ledger.{Ledger}
use Rattle.q_model.specs.Message.{Message, new_recipient}
use Rattle.q_model.specs.QueueFile.{FileRecipient, new_version}
use Rattle.q_model.specs.QueueFileBytes.{IsFileOf}
use Rattle.q_model.specs.SpoolFiles.{Files}
use Rattle.q_model.specs.Values.{Head, Receiver}
use Rattle.q_model.proofs.CrashChanges.{crash-add}
use Rattle.q_model.proofs.CrashLaws.{stands-crash}
use Rattle.q_model.proofs.StandLaws.{IsSameBut, Stands-add}
use Rattle.q_model.proofs.StandRenames.{Stands-kept}
use Rattle.q_host.specs.Files.{SameNames}
use Rattle.q_host.specs.View.{Goes, LeavesOnly, Remains, View}
use Rattle.q_host.proofs.Puts.{other_area}
use Rattle.q_store.specs.Stores.{Holds, IsAsBefore, IsStored, Leaves, MayHold, MayStore, Stores}
use Rattle.q_message.specs.NewFile.{new_message}
use Rattle.q_books.specs.HostStands.{Between, HostStands, IsLeftOf, KeepsNotes, Takes, TellsCrashes, Tries}
use Rattle.q_books.proofs.Calls.{meanwhile, tried}
use Rattle.q_books.proofs.Ids.{stands-added}
use Rattle.q_files.specs.Submissions.{AddsMessage, submitted}
use Rattle.q_files.proofs.OtherPlaces.{other_place}

-- ---- the message

all_sure : (to : List Receiver) → EachTo RecipientAfter (map new_recipient to) (map new_recipient to)
all_sure [] = tt
all_sure (r ∷ to) = (record { address = refl; original = refl; mark = refl }, all_sure to)

-- no crash changes it
stays_submitted : (id : Id) (head : Head) (to : List Receiver) (content : List ℕ) → MessageAfter (submitted id head to content) (submitted id head to content)
stays_submitted id head to content = record { id = refl; version = refl; sender = refl; arrival = refl; content = refl; place = refl; recipients = all_sure to; failures = refl }

abbrev unmarked : Receiver → FileRecipient
unmarked r = record { address = r.address; original = r.original; marked = false }

same_recipients : (to : List Receiver) → map unmarked to ≡ map file_recipient (map new_recipient to)
same_recipients [] = refl
same_recipients (r ∷ to) = ap (λ (rs : List FileRecipient). unmarked r ∷ rs) (same_recipients to)

file_submitted : (id : Id) (head : Head) (to : List Receiver) (content bytes : List ℕ) → IsFileOf bytes (new_message head to content) → IsFileOf bytes (file_message (submitted id head to content))
file_submitted id head to content bytes h = subst (λ (rs : List FileRecipient). IsFileOf bytes (record { version = new_version; sender = head.sender; arrival = head.arrival; content = content; recipients = rs })) (same_recipients to) h

-- it is the message that an arrival adds
pub submitted-arrived : (l : Ledger) (id : Id) (head : Head) (to : List Receiver) (content : List ℕ) → head.arrival ≡ l.now → submitted id head to content ≡ arrived l id head.sender to content
submitted-arrived l id head to content e = ap (λ (t : ℕ). submitted id (record head { arrival = t }) to content) e

-- ---- files that differ in tmp, or in one file more

-- a file that is missing is missing in what a crash leaves
missing : (o p : Option (List ℕ)) → is_some p ≡ is_some o → o ≡ None → p ≡ None
missing o None same none = refl
missing o (Some x) same none = absurd (no (same ∙ ap is_some none))
  where
    no : true ≡ false → ⊥
    no e = cc

pub kept_stands : (t : List ℕ) (f g : Files) (b : Book) → IsAsBefore t f g → Stands f b → Stands g b
kept_stands t f g b same h = Stands-kept f g b (λ a n differ. same a n (other_area areas.Tmp t a n differ)) h

no_bounce : areas.Bounce ≢ areas.Tmp
no_bounce e = cc

no_defer : areas.Defer ≢ areas.Tmp
no_defer e = cc

module _ (t : List ℕ) (id : Id) (head : Head) (to : List Receiver) (content bytes : List ℕ) (form : IsId id) (file : IsFileOf bytes (new_message head to content)) where
  abbrev m : Message
  m = submitted id head to content

  abbrev IsIn : Files → Files → Type 0
  IsIn f g = IsStored t areas.Incoming (id_text id) bytes f g

  bounce_kept : (f g : Files) (n : List ℕ) → IsIn f g → g areas.Bounce n ≡ f areas.Bounce n
  bounce_kept f g n s = s.others areas.Bounce n (other_area areas.Tmp t areas.Bounce n no_bounce) (other_area areas.Incoming (id_text id) areas.Bounce n (λ e. absurd cc))

  same_but_it : (f g : Files) → IsIn f g → IsSameBut areas.Incoming (id_text id) f g
  same_but_it f g s a n not_tmp other = s.others a n (other_area areas.Tmp t a n not_tmp) (other_place areas.Incoming (id_text id) a n (λ e. other (sym e.0, sym e.1)))

  message_stands : (f g : Files) → f areas.Bounce (id_text id) ≡ None → IsIn f g → MessageStands g m
  message_stands f g log s = record {
    id = form;
    place = tt;
    not_corrupt = refl;
    bytes = bytes;
    there = s.whole;
    reads = file_submitted id head to content bytes file;
    failures = sym (ap (failures_of (length m.recipients)) (ap (λ (o : Option (List ℕ)). option_map_or log_records o []) (bounce_kept f g (id_text id) s ∙ log)));
  }

  stored_stands : (f g : Files) (k : Book) → stands k id ≡ false → f areas.Bounce (id_text id) ≡ None → IsIn f g → Stands f k → Stands g (add_message k m)
  stored_stands f g k fresh log s h = Stands-add f g k m fresh (same_but_it f g s) (message_stands f g log s) h

  module _ (b : Book) (v w : View) (lawful : TellsCrashes v) (names : (c : Remains) → v.may_leave c → SameNames v.files c.files) (fresh : stands b id ≡ false) (no_log : v.files areas.Bounce (id_text id) ≡ None) (h : HostStands v b) where
    abbrev added : Book
    added = add_message b m

    stored_left : (d c : Remains) → v.may_leave d → IsLeftOf b d → Stores t areas.Incoming (id_text id) bytes d c → IsLeftOf added c
    stored_left d c may left s = record {
      left = add_message left.left m;
      after = crash-add b left.left m (stays_submitted id head to content) left.after;
      stands = stored_stands d.files c.files left.left (stands-crash b left.left id left.after ∙ fresh)
          (missing (v.files areas.Bounce (id_text id)) (d.files areas.Bounce (id_text id)) (names d may areas.Bounce (id_text id)) no_log) s.files left.stands;
    }

    kept_left : (d c : Remains) → IsLeftOf b d → IsAsBefore t d.files c.files → IsLeftOf b c
    kept_left d c left same = record { left = left.left; after = left.after; stands = kept_stands t d.files c.files left.left same left.stands }

    may_left : (d c : Remains) → v.may_leave d → IsLeftOf b d → MayStore t areas.Incoming (id_text id) bytes d c → IsLeftOf b c ⊎ IsLeftOf added c
    may_left d c may left s = ⊎_elim (λ same. inl (kept_left d c left same)) (λ there. inr (stored_left d c may left (record { files = there; told = s.told }))) s.files

    storing : {S : Remains → Remains → Type 0} → Goes S (MayStore t areas.Incoming (id_text id) bytes) v w → LeavesOnly v w (Between b added v.told)
    storing goes = meanwhile b added v w lawful goes (λ d c may left s. (s.told, may_left d c may left s)) h

    pub held : Holds t areas.Incoming (id_text id) bytes v w → Takes b added v w
    held s = record {
      told = s.reads.told;
      stands = record {
        reads = stored_stands v.files w.files b fresh no_log s.reads.files h.reads;
        crash = λ c may. let d = s.goes.crash c may in stored_left d.0 c d.1 (h.crash d.0 d.1) d.2;
      };
      logs = λ own i hi absent. bounce_kept v.files w.files (id_text i) s.reads.files ∙ own i hi (stands-added b m i absent);
      moments = storing s.goes;
    }

    left_out : Leaves t areas.Incoming (id_text id) bytes v w → Tries b added v w
    left_out s = record {
      told = s.reads.told;
      stands = inl (record {
        reads = kept_stands t v.files w.files b s.reads.others h.reads;
        crash = λ c may. let d = s.goes.crash c may in kept_left d.0 c (h.crash d.0 d.1) d.2.others;
      });
      moments = storing s.goes;
    }

    pub may_hold : MayHold t areas.Incoming (id_text id) bytes v w → Tries b added v w
    may_hold (inl s) = left_out s
    may_hold (inr s) = tried b added v w lawful (held s)

-- ---- the call

module _ (t : List ℕ) (id : Id) (head : Head) (to : List Receiver) (content bytes : List ℕ) (file : IsFileOf bytes (new_message head to content)) (b k : Book) (v w : View) (lawful : TellsCrashes v) (names : (c : Remains) → v.may_leave c → SameNames v.files c.files)
    (ch : AddsMessage v.files id head to content b k) (h : HostStands v b) where
  pub adds : Holds t areas.Incoming (id_text id) bytes v w → Takes b k v w
  adds d = subst (λ (x : Book). Takes b x v w) (sym ch.changed) (held t id head to content bytes ch.form file b v w lawful names ch.fresh ch.no_log h d)

  pub may_add : MayHold t areas.Incoming (id_text id) bytes v w → Tries b k v w
  may_add d = subst (λ (x : Book). Tries b x v w) (sym ch.changed) (may_hold t id head to content bytes ch.form file b v w lawful names ch.fresh ch.no_log h d)

-- storing a file in another area changes no deferral log
pub stores_no_notes : (t : List ℕ) (a : Area) (n bytes : List ℕ) (v w : View) → areas.Defer ≢ a → MayHold t a n bytes v w → KeepsNotes v w
stores_no_notes t a n bytes v w differ (inl s) k = s.reads.others areas.Defer k (other_area areas.Tmp t areas.Defer k no_defer)
stores_no_notes t a n bytes v w differ (inr s) k = s.reads.files.others areas.Defer k (other_area areas.Tmp t areas.Defer k no_defer) (other_area a n areas.Defer k differ)
