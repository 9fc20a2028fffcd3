-- What a crash may make of a book that changed.
use Rattle.std.proofs.Common.{◌≡◌, ℕ, zero, suc, ◌+◌, Bool, true, false, not, List, [], ◌∷◌, ◌++◌, length, map, filter, Option, Some, if◌then◌else◌, eqb, refl, sym, ap, subst, ◌∙◌, inl, inr, ◌⊎◌}
use Rattle.std.specs.Option.{option_map_or}
use Rattle.std.specs.Prelude.{slice_get, sum_by, take, unwrap_or}
use Rattle.std.specs.List.{enumerate_from, list_all}
use Rattle.std.proofs.lemmas.List.Sums.{sum_by-cons}
use Rattle.q_model.specs.declared.id.Id.{Id}
use Rattle.q_model.specs.declared.outcome.Failure.{Failure}
use Rattle.q_model.specs.declared.rows.Mark.{Mark}
use Rattle.q_model.specs.declared.rows.Mark.TheVariants as marks
use Rattle.q_model.specs.declared.rows.Place.{Place}
use Rattle.q_model.specs.Book.{Book, message_of}
use Rattle.q_model.specs.BookChanges.{add_message, change_message, move_message, remove_message}
use Rattle.q_model.specs.Crashes.{EachTo, FailuresAfter, IsCrashOf, MessageAfter, RecipientAfter}
use Rattle.q_model.specs.Ids.{id_eq}
use Rattle.q_model.specs.FilesStand.{file_message, file_recipient}
use Rattle.q_model.specs.Logs.{with_failure}
use Rattle.q_model.specs.Marking.{mark_one, with_mark}
use Rattle.q_model.specs.Message.{Logged, Message, Recipient}
use Rattle.q_model.specs.QueueFile.{FileRecipient}
use Rattle.q_model.specs.QueueFileBytes.{mark_at, original_size, recipient_size}
use Rattle.q_model.proofs.CrashLaws.{failures-kept, find-after, FoundAfter}
use Rattle.q_model.proofs.StandEntries.{set_mark, with_mark_of}

-- ---- lists

pub each_to-map : {A : Type 0} (R : A → A → Type 0) (f g : A → A) (xs ys : List A) → ((x y : A) → R x y → R (f x) (g y)) → EachTo R xs ys → EachTo R (map f xs) (map g ys)
each_to-map R f g [] [] step h = tt
each_to-map R f g [] (y ∷ ys) step h = absurd h
each_to-map R f g (x ∷ xs) [] step h = absurd h
each_to-map R f g (x ∷ xs) (y ∷ ys) step h = (step x y h.0, each_to-map R f g xs ys step h.1)

-- ---- the message of an id

-- what became of the message of an id
pub crash-message : (b k : Book) (id : Id) (m : Message) → IsCrashOf b k → message_of b id ≡ Some m → (n : Message) × (message_of k id ≡ Some n) × MessageAfter m n
crash-message b k id m h found = subst (λ (o : Option Message). FoundAfter o (message_of k id)) found (find-after id b.messages k.messages h.messages)

-- ---- the message of an id changed

one_changed : (f g : Message → Message) (m n : Message) (t u : Bool) → u ≡ t → MessageAfter m n → (MessageAfter m n → MessageAfter (f m) (g n)) → MessageAfter (if t then f m else m) (if u then g n else n)
one_changed f g m n true true e h step = step h
one_changed f g m n true false e h step = absurd cc
one_changed f g m n false true e h step = absurd cc
one_changed f g m n false false e h step = h

pub crash-changes : (b k : Book) (id : Id) (f g : Message → Message) → ((m n : Message) → MessageAfter m n → MessageAfter (f m) (g n)) → IsCrashOf b k → IsCrashOf (change_message b id f) (change_message k id g)
crash-changes b k id f g step h = record {
  generation = h.generation;
  damaged = h.damaged;
  messages = each_to-map MessageAfter (λ (m : Message). if id_eq m.id id then f m else m) (λ (m : Message). if id_eq m.id id then g m else m) b.messages k.messages
      (λ m n after. one_changed f g m n (id_eq m.id id) (id_eq n.id id) (ap (λ (i : Id). id_eq i id) after.id) after (step m n)) h.messages;
}

pub crash-move : (b k : Book) (id : Id) (q : Place) → IsCrashOf b k → IsCrashOf (move_message b id q) (move_message k id q)
crash-move b k id q h = crash-changes b k id (λ (m : Message). record m { place = q }) (λ (m : Message). record m { place = q })
    (λ m n after. record { id = after.id; version = after.version; sender = after.sender; arrival = after.arrival; content = after.content; place = refl; recipients = after.recipients; failures = after.failures }) h

-- ---- a mark

-- a mark that a crash leaves in place of one that is written
abbrev pub IsSure : Mark → Type 0
IsSure mark = (mark ≡ marks.Unmarked) ⊎ (mark ≡ marks.Synced)

one_mark : (n position : ℕ) (mark : Mark) (r s : Recipient) (t : Bool) → IsSure mark → RecipientAfter r s → RecipientAfter (if t then record r { mark = marks.Written } else r) (if t then record s { mark = mark } else s)
one_mark n position mark r s true sure h = record { address = h.address; original = h.original; mark = sure }
one_mark n position mark r s false sure h = h

marked_after : (n position : ℕ) (mark : Mark) (rs ss : List Recipient) → IsSure mark → EachTo RecipientAfter rs ss → EachTo RecipientAfter (map (mark_one position) (enumerate_from n rs)) (map (set_mark position mark) (enumerate_from n ss))
marked_after n position mark [] [] sure h = tt
marked_after n position mark [] (s ∷ ss) sure h = absurd h
marked_after n position mark (r ∷ rs) [] sure h = absurd h
marked_after n position mark (r ∷ rs) (s ∷ ss) sure h = (one_mark n position mark r s (eqb n position) sure h.0, marked_after (n + 1) position mark rs ss sure h.1)

pub crash-mark : (b k : Book) (id : Id) (position : ℕ) (mark : Mark) → IsSure mark → IsCrashOf b k → IsCrashOf (change_message b id (with_mark position)) (change_message k id (with_mark_of position mark))
crash-mark b k id position mark sure h = crash-changes b k id (with_mark position) (with_mark_of position mark)
    (λ m n after. record { id = after.id; version = after.version; sender = after.sender; arrival = after.arrival; content = after.content; place = after.place; recipients = marked_after 0 position mark m.recipients n.recipients sure after.recipients; failures = after.failures }) h

-- ---- sizes and places in the file

pub recipients-length : (rs ss : List Recipient) → EachTo RecipientAfter rs ss → length ss ≡ length rs
recipients-length [] [] h = refl
recipients-length [] (s ∷ ss) h = absurd h
recipients-length (r ∷ rs) [] h = absurd h
recipients-length (r ∷ rs) (s ∷ ss) h = ap suc (recipients-length rs ss h.1)

abbrev to_file : Recipient → FileRecipient
to_file r = file_recipient r

same_size : (version : ℕ) (r s : Recipient) → RecipientAfter r s → recipient_size version (to_file s) ≡ recipient_size version (to_file r)
same_size version r s h =
    ap (λ (o : Option (List ℕ)). original_size version o + (6 + length s.address)) h.original
    ∙ ap (λ (a : List ℕ). original_size version r.original + (6 + length a)) h.address

sizes-after : (version p : ℕ) (rs ss : List Recipient) → EachTo RecipientAfter rs ss → sum_by (recipient_size version) (take p (map to_file ss)) ≡ sum_by (recipient_size version) (take p (map to_file rs))
sizes-after version zero rs ss h = refl
sizes-after version (suc p) [] [] h = refl
sizes-after version (suc p) [] (s ∷ ss) h = absurd h
sizes-after version (suc p) (r ∷ rs) [] h = absurd h
sizes-after version (suc p) (r ∷ rs) (s ∷ ss) h =
    sum_by-cons (recipient_size version) (to_file s) (take p (map to_file ss))
    ∙ ap (λ (k : ℕ). k + sum_by (recipient_size version) (take p (map to_file ss))) (same_size version r s h.0)
    ∙ ap (λ (n : ℕ). recipient_size version (to_file r) + n) (sizes-after version p rs ss h.1)
    ∙ sym (sum_by-cons (recipient_size version) (to_file r) (take p (map to_file rs)))

-- what stands before a mark, by the recipients
abbrev before : ℕ → List FileRecipient → ℕ → ℕ
before version rs p = option_map_or (λ (r : FileRecipient). original_size version r.original) (slice_get rs p) 0

before-after : (version p : ℕ) (rs ss : List Recipient) → EachTo RecipientAfter rs ss → before version (map to_file ss) p ≡ before version (map to_file rs) p
before-after version p [] [] h = refl
before-after version p [] (s ∷ ss) h = absurd h
before-after version p (r ∷ rs) [] h = absurd h
before-after version zero (r ∷ rs) (s ∷ ss) h = ap (original_size version) h.0.original
before-after version (suc p) (r ∷ rs) (s ∷ ss) h = before-after version p rs ss h.1

-- the offset of a mark, by version, sender and recipients
abbrev place_by : ℕ → Option (List ℕ) → List FileRecipient → ℕ → ℕ
place_by version sender rs p = (((35 + length (unwrap_or sender [])) + sum_by (recipient_size version) (take p rs)) + before version rs p) + 5

pub mark_at-after : (m n : Message) (position : ℕ) → MessageAfter m n → mark_at (file_message n) position ≡ mark_at (file_message m) position
mark_at-after m n position h =
    ap (λ (v : ℕ). place_by v n.sender (map to_file n.recipients) position) h.version
    ∙ ap (λ (s : Option (List ℕ)). place_by m.version s (map to_file n.recipients) position) h.sender
    ∙ ap (λ (k : ℕ). (((35 + length (unwrap_or m.sender [])) + k) + before m.version (map to_file n.recipients) position) + 5) (sizes-after m.version position m.recipients n.recipients h.recipients)
    ∙ ap (λ (k : ℕ). (((35 + length (unwrap_or m.sender [])) + sum_by (recipient_size m.version) (take position (map to_file m.recipients))) + k) + 5) (before-after m.version position m.recipients n.recipients h.recipients)

-- ---- a message more, and one less

each_to-append : {A : Type 0} (R : A → A → Type 0) (xs ys us vs : List A) → EachTo R xs ys → EachTo R us vs → EachTo R (xs ++ us) (ys ++ vs)
each_to-append R [] [] us vs h k = k
each_to-append R [] (y ∷ ys) us vs h k = absurd h
each_to-append R (x ∷ xs) [] us vs h k = absurd h
each_to-append R (x ∷ xs) (y ∷ ys) us vs h k = (h.0, each_to-append R xs ys us vs h.1 k)

-- a message of which all is sure
pub crash-add : (b k : Book) (m : Message) → MessageAfter m m → IsCrashOf b k → IsCrashOf (add_message b m) (add_message k m)
crash-add b k m sure h = record { generation = h.generation; damaged = h.damaged; messages = each_to-append MessageAfter b.messages k.messages (m ∷ []) (m ∷ []) h.messages (sure, tt) }

one_left : (m n : Message) (ms ns : List Message) (t u : Bool) → u ≡ t → MessageAfter m n → EachTo MessageAfter ms ns → EachTo MessageAfter (if t then m ∷ ms else ms) (if u then n ∷ ns else ns)
one_left m n ms ns true true e h rest = (h, rest)
one_left m n ms ns true false e h rest = absurd cc
one_left m n ms ns false true e h rest = absurd cc
one_left m n ms ns false false e h rest = rest

left_after : (id : Id) (ms ns : List Message) → EachTo MessageAfter ms ns → EachTo MessageAfter (filter (λ m. not (id_eq m.id id)) ms) (filter (λ m. not (id_eq m.id id)) ns)
left_after id [] [] h = tt
left_after id [] (n ∷ ns) h = absurd h
left_after id (m ∷ ms) [] h = absurd h
left_after id (m ∷ ms) (n ∷ ns) h = one_left m n (filter (λ x. not (id_eq x.id id)) ms) (filter (λ x. not (id_eq x.id id)) ns) (not (id_eq m.id id)) (not (id_eq n.id id)) (ap (λ (i : Id). not (id_eq i id)) h.0.id) h.0 (left_after id ms ns h.1)

pub crash-remove : (b k : Book) (id : Id) → IsCrashOf b k → IsCrashOf (remove_message b id) (remove_message k id)
crash-remove b k id h = record { generation = h.generation; damaged = h.damaged; messages = left_after id b.messages k.messages h.messages }

-- ---- a failure

firm_after : (fs gs : List Logged) (l : Logged) → l.firm ≡ true → FailuresAfter fs gs → FailuresAfter (fs ++ l ∷ []) (gs ++ l ∷ [])
firm_after [] gs l firm h = inl ([], ap (λ (xs : List Logged). xs ++ l ∷ []) h ∙ ap (λ (t : Bool). record l { firm = t } ∷ []) firm, refl)
firm_after (f ∷ fs) gs l firm (inl kept) = inl (kept.0 ++ l ∷ [], ap (λ (xs : List Logged). xs ++ l ∷ []) kept.1, firm_after fs kept.0 l firm kept.2)
firm_after (f ∷ fs) gs l firm (inr gone) = inr (gone.0, firm_after fs gs l firm gone.1)

pub crash-log : (b k : Book) (id : Id) (failure : Failure) → IsCrashOf b k → IsCrashOf (change_message b id (with_failure failure)) (change_message k id (with_failure failure))
crash-log b k id failure h = crash-changes b k id (with_failure failure) (with_failure failure)
    (λ m n after. record { id = after.id; version = after.version; sender = after.sender; arrival = after.arrival; content = after.content; place = after.place; recipients = after.recipients; failures = firm_after m.failures n.failures (record { failure = failure; firm = true }) refl after.failures }) h

-- where none of the failures may be lost, a crash keeps them all
pub failures-after : (fs gs : List Logged) → FailuresAfter fs gs → list_all (λ (l : Logged). l.firm) fs ≡ true → map (λ (l : Logged). l.failure) gs ≡ map (λ (l : Logged). l.failure) fs
failures-after fs gs h firm = ap (map (λ (l : Logged). l.failure)) (failures-kept fs gs h firm)
