-- The addresses at positions are read by a window that goes from recipient to recipient.
use Rattle.std.proofs.Common.{◌≡◌, ℕ, ◌+◌, ◌<◌, ◌≤◌, ⊎_elim, false, List, [], ◌∷◌, ◌++◌, length, map, take, slice_get, Option, Some, None, Result, Ok, Err, refl, sym, ap, subst, ◌∙◌, arith}
use Rattle.std.specs.List.{All}
use Rattle.std.specs.Option.{IfSome, IsSome, option_map, option_map_or}
use Rattle.std.specs.Prelude.{get_or, IsErrAnd}
use Rattle.std.proofs.lemmas.Bool.{cases_lt}
use Rattle.std.proofs.lemmas.List.{map-append, take_more}
use Rattle.q_model.specs.QueueFile.{FileMessage, FileRecipient, queue_file}
use Rattle.q_model.specs.QueueFileBytes.{first_at, recipient_at}
use Rattle.q_model.specs.Values.{FileHead, Receiver, Spot}
use Rattle.q_host.specs.Calls.{Stays}
use Rattle.q_model.specs.SpoolFiles.{Files}
use Rattle.q_host.specs.View.{View}
use Rattle.q_model.proofs.RecordLaws.{map_some}
use Rattle.q_message.specs.FileHeads.{head_of}
use Rattle.q_message.specs.Pending.{HasCursor}
use Rattle.q_message.specs.Names.{HasHead, StandsAt, receiver_in}
use Rattle.q_message.specs.Windows.{Seen, Shows}
use Rattle.q_message.proofs.PendingLaws.{cursor_with, first_cursor, nothing_shown}

-- a window from which nothing was read yet
abbrev pub fresh : ℕ → Seen
fresh at = record { at = at; bytes = []; ended = false }

pub not_within : (i n : ℕ) → (i < n → ⊥) → n ≤ i
not_within i n h = ⊎_elim (λ within. absurd (h within)) (λ past. past) (cases_lt i n)

-- the same, for a place told in another way
pub stands_same : (found : Option (List ℕ)) (m : FileMessage) (i j : ℕ) (w : Seen) → i ≡ j → StandsAt found m i w → StandsAt found m j w
stands_same found m i j w same s = subst (λ (k : ℕ). StandsAt found m k w) same s

-- calls that change nothing leave the file where it is
pub stands_later : (a b : View) (s : Spot) (m : FileMessage) (i : ℕ) (w : Seen) → Stays a b → StandsAt (a.files s.area s.name) m i w → StandsAt (b.files s.area s.name) m i w
stands_later a b s m i w stays h = subst (λ (f : Files). StandsAt (f s.area s.name) m i w) (sym stays.files) h

pub stands_before : (a b : View) (s : Spot) (m : FileMessage) (i : ℕ) (w : Seen) → Stays a b → StandsAt (b.files s.area s.name) m i w → StandsAt (a.files s.area s.name) m i w
stands_before a b s m i w stays h = subst (λ (f : Files). StandsAt (f s.area s.name) m i w) stays.files h

-- a window that goes back stands at the first recipient
pub stands_first : (found : Option (List ℕ)) (m : FileMessage) (i first n : ℕ) (v w : Seen) → StandsAt found m i v → first ≡ recipient_at m 0 → n ≡ 0 → w ≡ fresh first → StandsAt found m n w
stands_first found m i first n v w s is none new = record {
  bytes = s.bytes;
  here = s.here;
  reads = s.reads;
  shows = subst (Shows s.bytes) (sym new) (nothing_shown s.bytes first);
  place = ap (λ (w : Seen). w.at) new ∙ is ∙ ap (recipient_at m) (sym none);
}

-- a recipient without its mark
abbrev pub receiver_of : FileRecipient → Receiver
receiver_of r = record { address = r.address; original = r.original }

pub receiver_is : (m : FileMessage) (i : ℕ) (r : FileRecipient) → slice_get m.recipients i ≡ Some r → receiver_of r ≡ receiver_in m i
receiver_is m i r is = ap (λ (o : Option FileRecipient). option_map_or receiver_of o (record { address = []; original = None })) (sym is)

-- ---- answers that hand an error on

pub same_error : {T E : Type 0} (r : Result T E) (inner error : E) → IsErrAnd r (λ x. x ≡ inner) → r ≡ Err error → inner ≡ error
same_error (Ok v) inner error h is = absurd h
same_error (Err e) inner error h is = let same : e ≡ error = cc in sym h ∙ same

-- ---- from the first address to the last

-- the file's message, and the window before its first recipient
pub names_begin : (o : Option (List ℕ)) (file : FileHead) (w : Seen) (ps : List ℕ) → IsSome o → IfSome o (λ bytes. HasHead bytes file) → w ≡ fresh file.first_at → All (λ p. p < file.recipients) ps
    → (m : FileMessage) × StandsAt o m 0 w × All (λ p. p < length m.recipients) ps
names_begin None file w ps there h new within = absurd cc
names_begin (Some bytes) file w ps there h new within =
    let first : w.at ≡ recipient_at h.message 0 = ap (λ (w : Seen). w.at) new ∙ ap (λ (f : FileHead). f.first_at) h.head ∙ no_more (first_at h.message) in (
      h.message,
      record {
        bytes = bytes;
        here = refl;
        reads = h.reads;
        shows = subst (Shows bytes) (sym new) (nothing_shown bytes file.first_at);
        place = first;
      },
      subst (λ (n : ℕ). All (λ p. p < n) ps) (ap (λ (f : FileHead). f.recipients) h.head) within,
    )
  where
    no_more : (n : ℕ) → n ≡ n + 0
    no_more n = omega arith

pub names_end : (o : Option (List ℕ)) (m : FileMessage) (i : ℕ) (w : Seen) (names : List Receiver) (ps : List ℕ) → StandsAt o m i w → names ≡ map (receiver_in m) ps → IfSome o (λ bytes. IfSome (queue_file bytes) (λ m. names ≡ map (receiver_in m) ps))
names_end o m i w names ps s is =
    subst (λ (o : Option (List ℕ)). IfSome o (λ bytes. IfSome (queue_file bytes) (λ m. names ≡ map (receiver_in m) ps))) (sym s.here)
    (subst (λ (q : Option FileMessage). IfSome q (λ m. names ≡ map (receiver_in m) ps)) (sym s.reads) is)

-- one address more
pub names_more : (m : FileMessage) (ps : List ℕ) (i p : ℕ) (names more : List Receiver) (a : Receiver) → i < length ps → p ≡ get_or ps i 0 → names ≡ map (receiver_in m) (take i ps) → a ≡ receiver_in m p → more ≡ names ++ a ∷ []
    → more ≡ map (receiver_in m) (take (i + 1) ps)
names_more m ps i p names more a within read is one pushed =
    pushed ∙ ap (λ (xs : List Receiver). xs ++ a ∷ []) is ∙ ap (λ (x : Receiver). map (receiver_in m) (take i ps) ++ x ∷ []) one
    ∙ sym (map-append (receiver_in m) (take i ps) (p ∷ []))
    ∙ ap (λ (x : ℕ). map (receiver_in m) (take i ps ++ x ∷ [])) read
    ∙ ap (map (receiver_in m)) (sym (take_more ps i 0 within))

-- ---- behind a call that answered the head

pub there_after : (a b : View) (s : Spot) → Stays a b → IsSome (a.files s.area s.name) → IsSome (b.files s.area s.name)
there_after a b s stays h = subst (λ (f : Files). IsSome (f s.area s.name)) (sym stays.files) h

pub head_after : (a b : View) (s : Spot) (head : FileHead) → Stays a b → IfSome (a.files s.area s.name) (λ file. option_map head_of (queue_file file) ≡ Some head) → IfSome (b.files s.area s.name) (λ bytes. HasHead bytes head)
head_after a b s head stays h = subst (λ (f : Files). IfSome (f s.area s.name) (λ bytes. HasHead bytes head)) (sym stays.files) (by (a.files s.area s.name) h)
  where
    by : (o : Option (List ℕ)) → IfSome o (λ file. option_map head_of (queue_file file) ≡ Some head) → IfSome o (λ bytes. HasHead bytes head)
    by None h = tt
    by (Some bytes) h =
        let m = map_some head_of (queue_file bytes) head h in
        record { message = m.0; reads = m.1; head = ap (λ (f : FileHead). record f { marked = 0 }) (sym m.2) }

pub first_after : (a b : View) (s : Spot) (head : FileHead) (count at : ℕ) → Stays a b → count ≡ head.recipients → at ≡ head.first_at → IfSome (a.files s.area s.name) (λ file. option_map head_of (queue_file file) ≡ Some head)
    → IfSome (b.files s.area s.name) (λ bytes. HasCursor bytes count (cursor_with 0 at))
first_after a b s head count at stays many is h =
    subst (λ (k : ℕ). IfSome (b.files s.area s.name) (λ bytes. HasCursor bytes k (cursor_with 0 at))) (sym many)
    (subst (λ (n : ℕ). IfSome (b.files s.area s.name) (λ bytes. HasCursor bytes head.recipients (cursor_with 0 n))) (sym is)
    (subst (λ (f : Files). IfSome (f s.area s.name) (λ bytes. HasCursor bytes head.recipients (cursor_with 0 head.first_at))) (sym stays.files) (by (a.files s.area s.name) h)))
  where
    by : (o : Option (List ℕ)) → IfSome o (λ file. option_map head_of (queue_file file) ≡ Some head) → IfSome o (λ bytes. HasCursor bytes head.recipients (cursor_with 0 head.first_at))
    by None h = tt
    by (Some bytes) h = first_cursor bytes head h
