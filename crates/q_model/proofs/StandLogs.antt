-- Files that stand for a book, when a failure log is written anew with one failure more, whatever log stood there.
use Rattle.std.proofs.Common.{◌≡◌, ◌++◌, ◌∙◌, ℕ, true, List, [], ◌∷◌, length, map, Some, refl, sym, ap, subst}
use Rattle.std.specs.Option.{option_map_or}
use Rattle.std.proofs.lemmas.List.{map-append}
use Rattle.q_model.specs.declared.id.Id.{Id}
use Rattle.q_model.specs.declared.outcome.Failure.{Failure}
use Rattle.q_model.specs.declared.spot.Area.TheVariants as areas
use Rattle.q_model.specs.Book.{Book, message_of}
use Rattle.q_model.specs.BookChanges.{change_message}
use Rattle.q_model.specs.Crashes.{IsCrashOf}
use Rattle.q_model.specs.FailureLog.{failures_of, log_records}
use Rattle.q_model.specs.FilesStand.{Stands}
use Rattle.q_model.specs.IdTexts.{id_text, IsId}
use Rattle.q_model.specs.Logs.{with_failure}
use Rattle.q_model.specs.Message.{Logged, Message}
use Rattle.q_model.specs.Orderly.{has_firm_failures}
use Rattle.q_model.specs.SpoolFiles.{area_of, Files, logged_in, name_at}
use Rattle.q_model.proofs.CrashChanges.{crash-message, failures-after, recipients-length}
use Rattle.q_model.proofs.SpotLaws.{area_of-IsQueue}
use Rattle.q_model.proofs.StandChanges.{Stands-change, Stands-message}
use Rattle.q_model.proofs.StandEntries.{KeepsOthers-log}
use Rattle.q_model.proofs.StandLaws.{IsSameBut}

-- the failures of a message are those that a log says
abbrev pub IsSaid : Message → List ℕ → Type 0
IsSaid m log = map (λ (l : Logged). l.failure) m.failures ≡ failures_of (length m.recipients) (log_records log)

-- A log that says one failure more stands for the book with this failure.
pub Stands-logged : (f g : Files) (b : Book) (id : Id) (m : Message) (log : List ℕ) (failure : Failure) → message_of b id ≡ Some m → IsSameBut areas.Bounce (id_text id) f g → g areas.Bounce (id_text id) ≡ Some log → IsSaid (with_failure failure m) log
    → Stands f b → Stands g (change_message b id (with_failure failure))
Stands-logged f g b id m log failure found same now says h =
    let old = Stands-message f b id m h found in
    let hid : IsId id = subst IsId old.1 old.0.id in
    Stands-change f g b id (with_failure failure) m (record { id = λ x. refl; place = λ x. refl }) found (KeepsOthers-log f g id hid same) (record {
      id = old.0.id;
      place = old.0.place;
      not_corrupt = old.0.not_corrupt;
      bytes = old.0.bytes;
      there = same (area_of m.place) (name_at m.place m.id) (area_of-IsQueue m.place).not_tmp (λ e. (area_of-IsQueue m.place).not_bounce e.0) ∙ old.0.there;
      reads = old.0.reads;
      failures = says ∙ sym (ap (failures_of (length m.recipients)) (ap (logged_in g) old.1 ∙ ap (λ o. option_map_or log_records o []) now));
    }) h

-- The same where a crash may have left another log: no failure of the message may have been lost.
pub Stands-logged_crash : (f g : Files) (b k : Book) (id : Id) (m : Message) (log : List ℕ) (failure : Failure) → message_of b id ≡ Some m → has_firm_failures m ≡ true → IsSaid (with_failure failure m) log → IsCrashOf b k
    → IsSameBut areas.Bounce (id_text id) f g → g areas.Bounce (id_text id) ≡ Some log → Stands f k → Stands g (change_message k id (with_failure failure))
Stands-logged_crash f g b k id m log failure found firm says after same now h =
    let next = crash-message b k id m after found in
    let n = next.0 in
    let fs : map (λ (l : Logged). l.failure) n.failures ≡ map (λ (l : Logged). l.failure) m.failures = failures-after m.failures n.failures next.2.failures firm in
    let count : length n.recipients ≡ length m.recipients = recipients-length m.recipients n.recipients next.2.recipients in
    Stands-logged f g k id n log failure next.1 same now
    (map-append (λ (l : Logged). l.failure) n.failures (record { failure = failure; firm = true } ∷ []) ∙ ap (λ (xs : List Failure). xs ++ failure ∷ []) fs
    ∙ sym (map-append (λ (l : Logged). l.failure) m.failures (record { failure = failure; firm = true } ∷ [])) ∙ says ∙ ap (λ (k : ℕ). failures_of k (log_records log)) (sym count)) h
