-- Which changes of a book make a recipient done.
use Rattle.std.proofs.Common.{◌≡◌, ℕ, zero, suc, ◌+◌, Bool, true, false, cond, List, [], ◌∷◌, ◌++◌, map, find, Option, Some, None, option_map, ◌⊎◌, inl, inr, refl, sym, ap, ◌∙◌, if◌then◌else◌, eqb-true, arith}
use Rattle.std.proofs.lemmas.Bool.{or_cases, or_left, or_right}
use Rattle.std.proofs.lemmas.List.Folds.{list_any-append}
use Rattle.std.specs.List.{enumerate_from, list_any}
use Rattle.std.specs.Option.{option_map_or}
use Rattle.std.specs.Prelude.{◌==◌, ◌||◌, slice_get}
use Rattle.q_laws.proofs.Books.{message_in}
use Rattle.q_laws.proofs.Distinct.{id_cases}
use Rattle.q_laws.proofs.InPlace.{changed, changed_name, changed_other, changed_same}
use Rattle.q_laws.proofs.Mapped.{find_mapped}
use Rattle.q_lives.specs.Causes.{is_done_at}
use Rattle.q_model.specs.CutOff.{loosened, unsure_last}
use Rattle.q_model.specs.Book.{Book, message_of}
use Rattle.q_model.specs.BookChanges.{add_message, change_message}
use Rattle.q_model.specs.Crashes.{EachTo, FailuresAfter, IsCrashOf, MarkAfter, MessageAfter, RecipientAfter}
use Rattle.q_model.specs.Ids.{id_eq}
use Rattle.q_model.specs.Lives.{firm_failures}
use Rattle.q_model.specs.Logs.{with_failure}
use Rattle.q_model.specs.Marking.{mark_one, with_mark}
use Rattle.q_model.specs.Marks.{is_marked, sync_mark}
use Rattle.q_model.specs.Message.{Logged, Message, Recipient, is_logged}
use Rattle.q_model.specs.Syncs.{sync_all}
use Rattle.q_model.specs.declared.id.Id.{Id}
use Rattle.q_model.specs.declared.outcome.Failure.{Failure}
use Rattle.q_model.specs.declared.rows.Mark.{Mark}
use Rattle.q_model.specs.declared.rows.Mark.TheVariants as marks

-- the recipient at a position is done
abbrev pub done_in : ℕ → Message → Bool
done_in p m = is_logged m p || option_map_or (λ (r : Recipient). is_marked r.mark) (slice_get m.recipients p) false

-- ---- one message changes

on_changed : (b : Book) (i : Id) (f : Message → Message) (id : Id) (p : ℕ) (o : Option Message) → message_of b id ≡ o → option_map_or (done_in p) (option_map (changed i f) o) false ≡ true →
    (option_map_or (done_in p) o false ≡ true) ⊎ ((id ≡ i) × (m : Message) × (message_of b i ≡ Some m) × (done_in p (f m) ≡ true))
on_changed b i f id p None e h = absurd cc
on_changed b i f id p (Some m) e h = elim (id_cases m.id i) [
  | inl same ↦
      let name : id ≡ i = sym (message_in b id m e).1 ∙ same.0 in
      inr (name, m, ap (message_of b) (sym name) ∙ e, ap (done_in p) (sym (changed_same i f m same.1)) ∙ h)
  | inr other ↦ inl (ap (done_in p) (sym (changed_other i f m other)) ∙ h)
]

-- who is done after one message changed was done before, or the message is the one that changed
pub changed_done : (b : Book) (i : Id) (f : Message → Message) (id : Id) (p : ℕ) → ((m : Message) → (f m).id ≡ m.id) → is_done_at (change_message b i f) id p ≡ true →
    (is_done_at b id p ≡ true) ⊎ ((id ≡ i) × (m : Message) × (message_of b i ≡ Some m) × (done_in p (f m) ≡ true))
changed_done b i f id p name h =
    on_changed b i f id p (message_of b id) refl (sym (ap (λ (o : Option Message). option_map_or (done_in p) o false) (find_mapped (changed i f) (changed_name i f name) id b.messages)) ∙ h)

there_done : (b : Book) (i : Id) (id : Id) (p : ℕ) (m : Message) → id ≡ i → message_of b i ≡ Some m → done_in p m ≡ true → is_done_at b id p ≡ true
there_done b i id p m same there h = ap (λ (o : Option Message). option_map_or (done_in p) o false) (ap (message_of b) same ∙ there) ∙ h

-- where the change makes nobody done
pub kept_done : (b : Book) (i : Id) (f : Message → Message) (id : Id) (p : ℕ) → ((m : Message) → (f m).id ≡ m.id) → ((m : Message) → done_in p (f m) ≡ true → done_in p m ≡ true) → is_done_at (change_message b i f) id p ≡ true → is_done_at b id p ≡ true
kept_done b i f id p name keeps h = elim (changed_done b i f id p name h) [
  | inl old ↦ old
  | inr new ↦ there_done b i id p new.1 new.0 new.2 (keeps new.1 new.3)
]

pub got_mapped : {A B : Type 0} (f : A → B) (xs : List A) (p : ℕ) → slice_get (map f xs) p ≡ option_map f (slice_get xs p)
got_mapped f [] p = refl
got_mapped f (x ∷ xs) zero = refl
got_mapped f (x ∷ xs) (suc p) = got_mapped f xs p

sync_marked : (k : Mark) → is_marked (sync_mark k) ≡ is_marked k
sync_marked marks.Unmarked = refl
sync_marked marks.Written = refl
sync_marked marks.Synced = refl

synced_one : (o : Option Recipient) → option_map_or (λ (r : Recipient). is_marked r.mark) (option_map (λ (r : Recipient). record r { mark = sync_mark r.mark }) o) false ≡ option_map_or (λ (r : Recipient). is_marked r.mark) o false
synced_one None = refl
synced_one (Some r) = sync_marked r.mark

pub sync_done : (p : ℕ) (m : Message) → done_in p (sync_all m) ≡ done_in p m
sync_done p m = ap (λ b. is_logged m p || b) (ap (λ (o : Option Recipient). option_map_or (λ (r : Recipient). is_marked r.mark) o false) (got_mapped (λ (r : Recipient). record r { mark = sync_mark r.mark }) m.recipients p) ∙ synced_one (slice_get m.recipients p))

marked_here : (q n : ℕ) (r : Recipient) (b : Bool) → (n == q) ≡ b → is_marked (if b then record r { mark = marks.Written } else r).mark ≡ true → (is_marked r.mark ≡ true) ⊎ (n + 0 ≡ q)
marked_here q n r true e h = inr (let k : n ≡ q = eqb-true n q e in omega (arith, k))
marked_here q n r false e h = inl h

marked_from : (q n : ℕ) (rs : List Recipient) (p : ℕ) → option_map_or (λ (r : Recipient). is_marked r.mark) (slice_get (map (mark_one q) (enumerate_from n rs)) p) false ≡ true →
    (option_map_or (λ (r : Recipient). is_marked r.mark) (slice_get rs p) false ≡ true) ⊎ (n + p ≡ q)
marked_from q n [] p h = absurd cc
marked_from q n (r ∷ rs) zero h = marked_here q n r (n == q) refl h
marked_from q n (r ∷ rs) (suc p) h = elim (marked_from q (n + 1) rs p h) [ inl old ↦ inl old | inr same ↦ inr (omega (arith, same)) ]

-- a mark makes its own position done
pub mark_done : (q p : ℕ) (m : Message) → done_in p (with_mark q m) ≡ true → (done_in p m ≡ true) ⊎ (p ≡ q)
mark_done q p m h = elim (or_cases (is_logged m p) (option_map_or (λ (r : Recipient). is_marked r.mark) (slice_get (with_mark q m).recipients p) false) h) [
  | inl logged ↦ inl (or_left (is_logged m p) (option_map_or (λ (r : Recipient). is_marked r.mark) (slice_get m.recipients p) false) logged)
  | inr marked ↦ elim (marked_from q 0 m.recipients p marked) [
    | inl old ↦ inl (or_right (is_logged m p) (option_map_or (λ (r : Recipient). is_marked r.mark) (slice_get m.recipients p) false) old)
    | inr same ↦ inr (omega (arith, same))
  ]
]

-- a failure makes its own position done
pub log_done : (f : Failure) (p : ℕ) (m : Message) → done_in p (with_failure f m) ≡ true → (done_in p m ≡ true) ⊎ ((f.position == p) ≡ true)
log_done f p m h = elim (or_cases (is_logged (with_failure f m) p) (option_map_or (λ (r : Recipient). is_marked r.mark) (slice_get m.recipients p) false) h) [
  | inl logged ↦ elim (or_cases (is_logged m p) ((f.position == p) || false) (sym (list_any-append (λ (x : Logged). x.failure.position == p) m.failures (record { failure = f; firm = true } ∷ [])) ∙ logged)) [
    | inl old ↦ inl (or_left (is_logged m p) (option_map_or (λ (r : Recipient). is_marked r.mark) (slice_get m.recipients p) false) old)
    | inr new ↦ inr (last (f.position == p) new)
  ]
  | inr marked ↦ inl (or_right (is_logged m p) (option_map_or (λ (r : Recipient). is_marked r.mark) (slice_get m.recipients p) false) marked)
]
  where
    last : (b : Bool) → (b || false) ≡ true → b ≡ true
    last true e = refl
    last false e = e

-- ---- failures that are sure, or not

firm_logged : (p : ℕ) (fs : List Logged) → list_any (λ (x : Logged). x.failure.position == p) (map (λ (f : Logged). record f { firm = true }) fs) ≡ list_any (λ (x : Logged). x.failure.position == p) fs
firm_logged p [] = refl
firm_logged p (f ∷ fs) = ap (λ b. (f.failure.position == p) || b) (firm_logged p fs)

loose_logged : (p : ℕ) (fs : List Logged) → list_any (λ (x : Logged). x.failure.position == p) (unsure_last fs) ≡ list_any (λ (x : Logged). x.failure.position == p) fs
loose_logged p [] = refl
loose_logged p (f ∷ []) = refl
loose_logged p (f ∷ g ∷ fs) = ap (λ b. (f.failure.position == p) || b) (loose_logged p (g ∷ fs))

pub loose_done : (p : ℕ) (m : Message) → done_in p (loosened m) ≡ done_in p m
loose_done p m = ap (λ b. b || option_map_or (λ (r : Recipient). is_marked r.mark) (slice_get m.recipients p) false) (loose_logged p m.failures)

firm_on : (p : ℕ) (o : Option Message) → option_map_or (done_in p) (option_map firm_failures o) false ≡ option_map_or (done_in p) o false
firm_on p None = refl
firm_on p (Some m) = ap (λ b. b || option_map_or (λ (r : Recipient). is_marked r.mark) (slice_get m.recipients p) false) (firm_logged p m.failures)

-- a new life makes nobody done
pub life_done : (b : Book) (g : ℕ) (id : Id) (p : ℕ) → is_done_at (record b { generation = g; messages = map firm_failures b.messages }) id p ≡ is_done_at b id p
life_done b g id p = ap (λ (o : Option Message). option_map_or (done_in p) o false) (find_mapped firm_failures (λ m. refl) id b.messages) ∙ firm_on p (message_of b id)

-- ---- a message comes or goes

added_find : (q : Message → Bool) (ms : List Message) (x : Message) (p : ℕ) → done_in p x ≡ false → option_map_or (done_in p) (find q (ms ++ x ∷ [])) false ≡ true → option_map_or (done_in p) (find q ms) false ≡ true
added_find q [] x p none h = on (q x) h
  where
    on : (t : Bool) → option_map_or (done_in p) (cond t (Some x) None) false ≡ true → false ≡ true
    on true e = sym none ∙ e
    on false e = e
added_find q (m ∷ ms) x p none h = on (q m) (added_find q ms x p none) h
  where
    on : (t : Bool) → (option_map_or (done_in p) (find q (ms ++ x ∷ [])) false ≡ true → option_map_or (done_in p) (find q ms) false ≡ true) → option_map_or (done_in p) (cond t (Some m) (find q (ms ++ x ∷ []))) false ≡ true → option_map_or (done_in p) (cond t (Some m) (find q ms)) false ≡ true
    on true rest e = e
    on false rest e = rest e

-- a new message of which nobody is done
pub added_done : (b : Book) (x : Message) (id : Id) (p : ℕ) → done_in p x ≡ false → is_done_at (add_message b x) id p ≡ true → is_done_at b id p ≡ true
added_done b x id p none h = added_find (λ m. id_eq m.id id) b.messages x p none h

-- ---- after a crash

mark_before : (old new : Mark) → MarkAfter old new → is_marked new ≡ true → is_marked old ≡ true
mark_before marks.Unmarked new h e = sym (ap is_marked h) ∙ e
mark_before marks.Written new h e = refl
mark_before marks.Synced new h e = refl

marks_before : (olds news : List Recipient) (p : ℕ) → EachTo RecipientAfter olds news → option_map_or (λ (r : Recipient). is_marked r.mark) (slice_get news p) false ≡ true → option_map_or (λ (r : Recipient). is_marked r.mark) (slice_get olds p) false ≡ true
marks_before [] [] p h e = e
marks_before [] (n ∷ ns) p h e = absurd h
marks_before (o ∷ os) [] p h e = absurd h
marks_before (o ∷ os) (n ∷ ns) zero h e = mark_before o.mark n.mark h.0.mark e
marks_before (o ∷ os) (n ∷ ns) (suc p) h e = marks_before os ns p h.1 e

failures_before : (olds news : List Logged) (p : ℕ) → FailuresAfter olds news → list_any (λ (x : Logged). x.failure.position == p) news ≡ true → list_any (λ (x : Logged). x.failure.position == p) olds ≡ true
failures_before [] news p h e = sym (ap (list_any (λ (x : Logged). x.failure.position == p)) h) ∙ e
failures_before (f ∷ fs) news p (inl kept) e =
    elim (or_cases (f.failure.position == p) (list_any (λ (x : Logged). x.failure.position == p) kept.0) (sym (ap (list_any (λ (x : Logged). x.failure.position == p)) kept.1) ∙ e)) [
      | inl here ↦ or_left (f.failure.position == p) (list_any (λ (x : Logged). x.failure.position == p) fs) here
      | inr later ↦ or_right (f.failure.position == p) (list_any (λ (x : Logged). x.failure.position == p) fs) (failures_before fs kept.0 p kept.2 later)
    ]
failures_before (f ∷ fs) news p (inr gone) e = or_right (f.failure.position == p) (list_any (λ (x : Logged). x.failure.position == p) fs) (failures_before fs news p gone.1 e)

message_before : (old new : Message) (p : ℕ) → MessageAfter old new → done_in p new ≡ true → done_in p old ≡ true
message_before old new p h e = elim (or_cases (is_logged new p) (option_map_or (λ (r : Recipient). is_marked r.mark) (slice_get new.recipients p) false) e) [
  | inl logged ↦ or_left (is_logged old p) (option_map_or (λ (r : Recipient). is_marked r.mark) (slice_get old.recipients p) false) (failures_before old.failures new.failures p h.failures logged)
  | inr marked ↦ or_right (is_logged old p) (option_map_or (λ (r : Recipient). is_marked r.mark) (slice_get old.recipients p) false) (marks_before old.recipients new.recipients p h.recipients marked)
]

messages_before : (olds news : List Message) (id : Id) (p : ℕ) → EachTo MessageAfter olds news → option_map_or (done_in p) (find (λ (m : Message). id_eq m.id id) news) false ≡ true → option_map_or (done_in p) (find (λ (m : Message). id_eq m.id id) olds) false ≡ true
messages_before [] [] id p h e = e
messages_before [] (n ∷ ns) id p h e = absurd h
messages_before (o ∷ os) [] id p h e = absurd h
messages_before (o ∷ os) (n ∷ ns) id p h e = on (id_eq n.id id) (id_eq o.id id) (ap (λ (i : Id). id_eq i id) (sym h.0.id)) (messages_before os ns id p h.1) e
  where
    on : (t u : Bool) → u ≡ t → (option_map_or (done_in p) (find (λ (m : Message). id_eq m.id id) ns) false ≡ true → option_map_or (done_in p) (find (λ (m : Message). id_eq m.id id) os) false ≡ true) →
        option_map_or (done_in p) (cond t (Some n) (find (λ (m : Message). id_eq m.id id) ns)) false ≡ true → option_map_or (done_in p) (cond u (Some o) (find (λ (m : Message). id_eq m.id id) os)) false ≡ true
    on true true same rest k = message_before o n p h.0 k
    on false false same rest k = rest k
    on true false same rest k = absurd cc
    on false true same rest k = absurd cc

-- who is done after a crash was done before it
pub crash_done : (b c : Book) (id : Id) (p : ℕ) → IsCrashOf b c → is_done_at c id p ≡ true → is_done_at b id p ≡ true
crash_done b c id p h e = messages_before b.messages c.messages id p h.messages e
