-- Calls that change only files of which a book says nothing.
use Rattle.std.proofs.Common.{◌≡◌, ⊎_elim, ◌∙◌, ℕ, Bool, true, false, List, [], ◌∷◌, is_some, Option, Some, None, refl, sym, ap, subst, inl, inr}
use Rattle.std.specs.List.{AllByRecursion}
use Rattle.q_model.specs.declared.id.Id.{Id}
use Rattle.q_model.specs.declared.rows.Place.{Place}
use Rattle.q_model.specs.declared.spot.Area.{Area}
use Rattle.q_model.specs.declared.spot.Area.TheVariants as areas
use Rattle.q_model.specs.Book.{Book, message_of}
use Rattle.q_model.specs.Crashes.{IsCrashOf}
use Rattle.q_model.specs.FilesStand.{DamagedStands, MessageStands, Stands}
use Rattle.q_model.specs.Ids.{id_eq}
use Rattle.q_model.specs.IdTexts.{id_text, IsId}
use Rattle.q_model.specs.Message.{Message}
use Rattle.q_model.specs.SpoolFiles.{area_of, Files, name_at}
use Rattle.q_model.proofs.CrashLaws.{find-after, FoundAfter}
use Rattle.q_model.proofs.EachLaws.{each-both, each-same, find-any, none-each}
use Rattle.q_model.proofs.IdLaws.{id_text-injective}
use Rattle.q_model.proofs.SpotLaws.{area_of-IsQueue}
use Rattle.q_model.proofs.StandLaws.{BootStands-kept, DamagedStands-kept, MessageStands-kept, not_same}
use Rattle.q_host.specs.Calls.{MayRemove}
use Rattle.q_host.specs.Files.{same_place, without_file}
use Rattle.q_host.specs.Steps.{SameBut}
use Rattle.q_host.specs.View.{Goes, now, Remains, Step, View}
use Rattle.q_host.proofs.Puts.{other_area, put-here, put-other, same_place-true}
use Rattle.q_store.specs.Stores.{OneFile}
use Rattle.q_books.specs.HostStands.{HostStands, OwnLogs, Takes, TellsCrashes}
use Rattle.q_books.proofs.Calls.{meanwhile}
use Rattle.q_books.proofs.Joining.{reads_keep}
use Rattle.q_files.proofs.OtherPlaces.{not_defer, other_place}

-- ---- files that the book can't tell apart

-- the same in boot and in the queues, and each message's log the same
pub Stands-beside : (f g : Files) (b : Book) → ((n : List ℕ) → g areas.Boot n ≡ f areas.Boot n) → ((p : Place) (n : List ℕ) → g (area_of p) n ≡ f (area_of p) n)
    → AllByRecursion (λ (m : Message). IsId m.id → g areas.Bounce (id_text m.id) ≡ f areas.Bounce (id_text m.id)) b.messages → Stands f b → Stands g b
Stands-beside f g b boot queues logs h = record {
  boot = BootStands-kept f g b.generation boot h.boot;
  distinct = h.distinct;
  messages = each-same (λ (m : Message). MessageStands f m × (IsId m.id → g areas.Bounce (id_text m.id) ≡ f areas.Bounce (id_text m.id))) (MessageStands g) b.messages
      (λ m k. MessageStands-kept f g m (queues m.place (name_at m.place m.id)) (k.1 k.0.id) k.0) (each-both (MessageStands f) (λ (m : Message). IsId m.id → g areas.Bounce (id_text m.id) ≡ f areas.Bounce (id_text m.id)) b.messages h.messages logs);
  damaged = each-same (DamagedStands f) (DamagedStands g) b.damaged (λ d k. DamagedStands-kept f g d (queues d.place (name_at d.place d.id)) k) h.damaged;
  nothing_else = λ place i bytes hi hp there. h.nothing_else place i bytes hi hp (sym (queues place (name_at place i)) ∙ there);
}

each_always : {A : Type 0} (P : A → Type 0) (xs : List A) → ((x : A) → P x) → AllByRecursion P xs
each_always P [] all = tt
each_always P (x ∷ xs) all = (all x, each_always P xs all)

-- a deferral log changed
pub Stands-defer : (n : List ℕ) (f g : Files) (b : Book) → SameBut areas.Defer n f g → Stands f b → Stands g b
Stands-defer n f g b same h = Stands-beside f g b
    (λ k. same areas.Boot k (other_area areas.Defer n areas.Boot k (λ e. absurd cc)))
    (λ p k. same (area_of p) k (other_area areas.Defer n (area_of p) k (λ e. not_defer p (sym e))))
    (each_always (λ (m : Message). IsId m.id → g areas.Bounce (id_text m.id) ≡ f areas.Bounce (id_text m.id)) b.messages (λ m hid. same areas.Bounce (id_text m.id) (other_area areas.Defer n areas.Bounce (id_text m.id) (λ e. absurd cc)))) h

-- the failure log of an id without a message changed
pub Stands-bounce : (id : Id) (f g : Files) (b : Book) → IsId id → message_of b id ≡ None → SameBut areas.Bounce (id_text id) f g → Stands f b → Stands g b
Stands-bounce id f g b hid none same h = Stands-beside f g b
    (λ k. same areas.Boot k (other_area areas.Bounce (id_text id) areas.Boot k (λ e. absurd cc)))
    (λ p k. same (area_of p) k (other_area areas.Bounce (id_text id) (area_of p) k (λ e. (area_of-IsQueue p).not_bounce e)))
    (each-same (λ (m : Message). id_eq m.id id ≡ false) (λ (m : Message). IsId m.id → g areas.Bounce (id_text m.id) ≡ f areas.Bounce (id_text m.id)) b.messages
    (λ m differ hm. same areas.Bounce (id_text m.id) (other_place areas.Bounce (id_text id) areas.Bounce (id_text m.id) (λ e. not_same m.id id differ (sym (id_text-injective id m.id hid hm e.1)))))
    (none-each (λ (m : Message). id_eq m.id id) b.messages (sym (find-any (λ (m : Message). id_eq m.id id) b.messages) ∙ ap is_some none))) h

-- a crash makes no message
pub none-crash : (b l : Book) (id : Id) → IsCrashOf b l → message_of b id ≡ None → message_of l id ≡ None
none-crash b l id h none = by (message_of b id) none (find-after id b.messages l.messages h.messages)
  where
    by : (o : Option Message) → o ≡ None → FoundAfter o (message_of l id) → message_of l id ≡ None
    by None e found = found
    by (Some m) e found = absurd cc

-- ---- a call

-- what such a call may make of the files
pub record Keeps (b : Book) (S : Step) : Type 0 where
  pub told : (d c : Remains) → S d c → c.told ≡ d.told
  pub stands : (d c : Remains) (l : Book) → S d c → IsCrashOf b l → Stands d.files l → Stands c.files l

module _ (b : Book) (v w : View) (lawful : TellsCrashes v) where
  pub kept : {S M : Step} → Keeps b S → Keeps b M → Stands w.files b → w.told ≡ v.told → (OwnLogs v.files b → OwnLogs w.files b) → Goes S M v w → HostStands v b → Takes b b v w
  kept step mean reads told logs goes h = record {
    told = told;
    stands = record { reads = reads; crash = λ c m. let d = goes.crash c m in let left = h.crash d.0 d.1 in record { left = left.left; after = left.after; stands = step.stands d.0 c left.left d.2 left.after left.stands } };
    logs = logs;
    moments = meanwhile b b v w lawful goes (λ d c may left s. (mean.told d c s, inl (record { left = left.left; after = left.after; stands = mean.stands d c left.left s left.after left.stands }))) h;
  }

one_file-keeps : (b : Book) (n : List ℕ) → Keeps b (OneFile areas.Defer n)
one_file-keeps b n = record { told = λ d c s. s.told; stands = λ d c l s after h. Stands-defer n d.files c.files l s.others h }

-- a deferral log changed
pub kept_by_notes : (b : Book) (v w : View) (n : List ℕ) → TellsCrashes v → OneFile areas.Defer n (now v) (now w) → Goes (OneFile areas.Defer n) (OneFile areas.Defer n) v w → HostStands v b → Takes b b v w
kept_by_notes b v w n lawful reads goes h = kept b v w lawful (one_file-keeps b n) (one_file-keeps b n) (Stands-defer n v.files w.files b reads.others h.reads) reads.told
    (λ own i hi absent. reads.others areas.Bounce (id_text i) (other_area areas.Defer n areas.Bounce (id_text i) (λ e. absurd cc)) ∙ own i hi absent) goes h

-- ---- a file taken away

same_without : (f : Files) (a : Area) (n : List ℕ) → SameBut a n f (without_file f a n)
same_without f a n b m differ = put-other f a n None b m differ

-- nothing else changed
pub drops_others : (a : Area) (n : List ℕ) (v w : View) → MayRemove a n v w → SameBut a n v.files w.files
drops_others a n v w d b m differ = ⊎_elim
    (λ ch. ap (λ (f : Files). f b m) ch.files ∙ same_without v.files a n b m differ)
    (λ st. ap (λ (f : Files). f b m) st.files) d

-- the deferral log of a name may be gone
pub kept_without_notes : (b : Book) (v w : View) (n : List ℕ) → TellsCrashes v → MayRemove areas.Defer n v w → HostStands v b → Takes b b v w
kept_without_notes b v w n lawful (inr st) h = reads_keep b b v w lawful st h
kept_without_notes b v w n lawful (inl ch) h = kept b v w lawful keeps keeps
    (Stands-defer n v.files w.files b (drops_others areas.Defer n v w (inl ch)) h.reads) ch.told
    (λ own i hi absent. drops_others areas.Defer n v w (inl ch) areas.Bounce (id_text i) (other_area areas.Defer n areas.Bounce (id_text i) (λ e. absurd cc)) ∙ own i hi absent) ch.goes h
  where
    keeps : Keeps b (λ d c. (c.files ≡ without_file d.files areas.Defer n) × (c.told ≡ d.told))
    keeps = record { told = λ d c s. s.1; stands = λ d c l s after k. subst (λ (f : Files). Stands f l) (sym s.0) (Stands-defer n d.files (without_file d.files areas.Defer n) l (same_without d.files areas.Defer n) k) }

-- the failure log of an id without a message may be gone
pub kept_without_log : (b : Book) (v w : View) (id : Id) → IsId id → message_of b id ≡ None → TellsCrashes v → MayRemove areas.Bounce (id_text id) v w → HostStands v b → Takes b b v w
kept_without_log b v w id hid none lawful (inr st) h = reads_keep b b v w lawful st h
kept_without_log b v w id hid none lawful (inl ch) h = kept b v w lawful keeps keeps
    (Stands-bounce id v.files w.files b hid none (drops_others areas.Bounce (id_text id) v w (inl ch)) h.reads) ch.told
    (λ own i hi absent. by i (same_place areas.Bounce (id_text id) areas.Bounce (id_text i)) refl (own i hi absent)) ch.goes h
  where
    keeps : Keeps b (λ d c. (c.files ≡ without_file d.files areas.Bounce (id_text id)) × (c.told ≡ d.told))
    keeps = record { told = λ d c s. s.1; stands = λ d c l s after k. subst (λ (f : Files). Stands f l) (sym s.0) (Stands-bounce id d.files (without_file d.files areas.Bounce (id_text id)) l hid (none-crash b l id after none) (same_without d.files areas.Bounce (id_text id)) k) }

    by : (i : Id) (t : Bool) → same_place areas.Bounce (id_text id) areas.Bounce (id_text i) ≡ t → v.files areas.Bounce (id_text i) ≡ None → w.files areas.Bounce (id_text i) ≡ None
    by i true e gone =
        ap (λ (f : Files). f areas.Bounce (id_text i)) ch.files
        ∙ ap (without_file v.files areas.Bounce (id_text id) areas.Bounce) (sym (same_place-true areas.Bounce (id_text id) areas.Bounce (id_text i) e).1)
        ∙ put-here v.files areas.Bounce (id_text id) None
    by i false e gone = drops_others areas.Bounce (id_text id) v w (inl ch) areas.Bounce (id_text i) e ∙ gone
