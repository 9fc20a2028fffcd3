-- A message whose last failure a crash may still take away: what the files say of it, and what a crash makes of it.
use Rattle.std.proofs.Common.{◌≡◌, ◌∙◌, ◌⊎◌, ⊎_elim, not, Bool, true, false, List, [], ◌∷◌, ◌++◌, map, if◌then◌else◌, refl, sym, ap, subst, inl, inr}
use Rattle.std.specs.List.{list_any}
use Rattle.std.proofs.lemmas.Bool.{and_parts, not-true, or_parts}
use Rattle.q_model.specs.declared.id.Id.{Id}
use Rattle.q_model.specs.declared.outcome.Failure.{Failure}
use Rattle.q_model.specs.Book.{Book}
use Rattle.q_model.specs.BookChanges.{change_message}
use Rattle.q_model.specs.Crashes.{EachTo, FailuresAfter, IsCrashOf, MessageAfter}
use Rattle.q_model.specs.CutOff.{loosened, unsure_last}
use Rattle.q_model.specs.Ids.{are_distinct, id_eq}
use Rattle.q_model.specs.Logs.{with_failure}
use Rattle.q_model.specs.Message.{Logged, Message}
use Rattle.q_model.proofs.IdLaws.{id_eq-true}

-- ---- failures

-- they are the same
pub same_failures : (ls : List Logged) → map (λ (l : Logged). l.failure) (unsure_last ls) ≡ map (λ (l : Logged). l.failure) ls
same_failures [] = refl
same_failures (l ∷ []) = refl
same_failures (l ∷ k ∷ ls) = ap (λ (fs : List Failure). l.failure ∷ fs) (same_failures (k ∷ ls))

-- a crash may keep the last one, as if it were firm ..
kept : (old new : List Logged) → FailuresAfter old new → FailuresAfter (unsure_last old) new
kept [] new h = h
kept (l ∷ []) new (inl stays) = inl stays
kept (l ∷ []) new (inr gone) = inr (refl, gone.1)
kept (l ∷ k ∷ ls) new (inl stays) = inl (stays.0, stays.1, kept (k ∷ ls) stays.0 stays.2)
kept (l ∷ k ∷ ls) new (inr gone) = inr (gone.0, kept (k ∷ ls) new gone.1)

-- .. or leave it out
left_out : (old new : List Logged) (l : Logged) → FailuresAfter old new → FailuresAfter (unsure_last (old ++ l ∷ [])) new
left_out [] new l h = inr (refl, h)
left_out (k ∷ []) new l (inl stays) = inl (stays.0, stays.1, left_out [] stays.0 l stays.2)
left_out (k ∷ []) new l (inr gone) = inr (gone.0, left_out [] new l gone.1)
left_out (k ∷ j ∷ ls) new l (inl stays) = inl (stays.0, stays.1, left_out (j ∷ ls) stays.0 l stays.2)
left_out (k ∷ j ∷ ls) new l (inr gone) = inr (gone.0, left_out (j ∷ ls) new l gone.1)

-- it does nothing else
either_way : (old new : List Logged) (l : Logged) → FailuresAfter (unsure_last (old ++ l ∷ [])) new → FailuresAfter old new ⊎ FailuresAfter (old ++ l ∷ []) new
either_way [] new l (inl stays) = inr (inl stays)
either_way [] new l (inr gone) = inl gone.1
either_way (k ∷ []) new l (inl stays) = ⊎_elim (λ out. inl (inl (stays.0, stays.1, out))) (λ with_it. inr (inl (stays.0, stays.1, with_it))) (either_way [] stays.0 l stays.2)
either_way (k ∷ []) new l (inr gone) = ⊎_elim (λ out. inl (inr (gone.0, out))) (λ with_it. inr (inr (gone.0, with_it))) (either_way [] new l gone.1)
either_way (k ∷ j ∷ ls) new l (inl stays) = ⊎_elim (λ out. inl (inl (stays.0, stays.1, out))) (λ with_it. inr (inl (stays.0, stays.1, with_it))) (either_way (j ∷ ls) stays.0 l stays.2)
either_way (k ∷ j ∷ ls) new l (inr gone) = ⊎_elim (λ out. inl (inr (gone.0, out))) (λ with_it. inr (inr (gone.0, with_it))) (either_way (j ∷ ls) new l gone.1)

-- ---- messages and books

abbrev to_one : Id → (Message → Message) → Message → Message
to_one id change m = if id_eq m.id id then change m else m

message_kept : (m n : Message) (t : Bool) → MessageAfter m n → MessageAfter (if t then loosened m else m) n
message_kept m n true h = record { id = h.id; version = h.version; sender = h.sender; arrival = h.arrival; content = h.content; place = h.place; recipients = h.recipients; failures = kept m.failures n.failures h.failures }
message_kept m n false h = h

message_left_out : (failure : Failure) (m n : Message) (t u : Bool) → u ≡ t → MessageAfter m n → MessageAfter (if u then loosened (if t then with_failure failure m else m) else (if t then with_failure failure m else m)) n
message_left_out failure m n true true e h = record { id = h.id; version = h.version; sender = h.sender; arrival = h.arrival; content = h.content; place = h.place; recipients = h.recipients; failures = left_out m.failures n.failures (record { failure = failure; firm = true }) h.failures }
message_left_out failure m n true false e h = absurd cc
message_left_out failure m n false true e h = absurd cc
message_left_out failure m n false false e h = h

same_id : (failure : Failure) (m : Message) (t : Bool) → (if t then with_failure failure m else m).id ≡ m.id
same_id failure m true = refl
same_id failure m false = refl

messages_kept : (id : Id) (old new : List Message) → EachTo MessageAfter old new → EachTo MessageAfter (map (to_one id loosened) old) new
messages_kept id [] [] h = tt
messages_kept id [] (n ∷ ns) h = absurd h
messages_kept id (m ∷ ms) [] h = absurd h
messages_kept id (m ∷ ms) (n ∷ ns) h = (message_kept m n (id_eq m.id id) h.0, messages_kept id ms ns h.1)

messages_left_out : (id : Id) (failure : Failure) (old new : List Message) → EachTo MessageAfter old new → EachTo MessageAfter (map (to_one id loosened) (map (to_one id (with_failure failure)) old)) new
messages_left_out id failure [] [] h = tt
messages_left_out id failure [] (n ∷ ns) h = absurd h
messages_left_out id failure (m ∷ ms) [] h = absurd h
messages_left_out id failure (m ∷ ms) (n ∷ ns) h = (
  message_left_out failure m n (id_eq m.id id) (id_eq (to_one id (with_failure failure) m).id id) (ap (λ (i : Id). id_eq i id) (same_id failure m (id_eq m.id id))) h.0,
  messages_left_out id failure ms ns h.1,
)

-- no message has this id, so none was changed
none_changed : (id : Id) (failure : Failure) (old new : List Message) → list_any (λ i. id_eq i id) (map (λ m. m.id) old) ≡ false → EachTo MessageAfter (map (to_one id loosened) (map (to_one id (with_failure failure)) old)) new
    → EachTo MessageAfter old new × EachTo MessageAfter (map (to_one id (with_failure failure)) old) new
none_changed id failure [] [] none h = (tt, tt)
none_changed id failure [] (n ∷ ns) none h = absurd h
none_changed id failure (m ∷ ms) [] none h = absurd h
none_changed id failure (m ∷ ms) (n ∷ ns) none h =
    let two = or_parts (id_eq m.id id) (list_any (λ i. id_eq i id) (map (λ m. m.id) ms)) none in
    let same : to_one id (with_failure failure) m ≡ m = ap (λ (t : Bool). if t then with_failure failure m else m) two.0 in
    let loose : to_one id loosened m ≡ m = ap (λ (t : Bool). if t then loosened m else m) two.0 in
    let behind = none_changed id failure ms ns two.1 h.1 in
    let here : MessageAfter m n = subst (λ (x : Message). MessageAfter x n) (ap (to_one id loosened) same ∙ loose) h.0 in
    ((here, behind.0), (subst (λ (x : Message). MessageAfter x n) (sym same) here, behind.1))

-- the first message of this id, and those behind it
one_changed : (id : Id) (failure : Failure) (m n : Message) (ms ns : List Message) (t u : Bool) → id_eq m.id id ≡ t → u ≡ t → list_any (λ i. id_eq i m.id) (map (λ x. x.id) ms) ≡ false
    → MessageAfter (if u then loosened (if t then with_failure failure m else m) else (if t then with_failure failure m else m)) n
    → EachTo MessageAfter (map (to_one id loosened) (map (to_one id (with_failure failure)) ms)) ns → (EachTo MessageAfter ms ns ⊎ EachTo MessageAfter (map (to_one id (with_failure failure)) ms) ns)
    → EachTo MessageAfter (m ∷ ms) (n ∷ ns) ⊎ EachTo MessageAfter ((if t then with_failure failure m else m) ∷ map (to_one id (with_failure failure)) ms) (n ∷ ns)
one_changed id failure m n ms ns true false is e apart h rest behind = absurd cc
one_changed id failure m n ms ns false true is e apart h rest behind = absurd cc
one_changed id failure m n ms ns false false is e apart h rest behind = ⊎_elim (λ out. inl (h, out)) (λ with_it. inr (h, with_it)) behind
one_changed id failure m n ms ns true true is e apart h rest behind =
    let others = none_changed id failure ms ns (ap (λ (k : Id). list_any (λ i. id_eq i k) (map (λ x. x.id) ms)) (sym (id_eq-true m.id id is)) ∙ apart) rest in
    ⊎_elim
    (λ out. inl (record { id = h.id; version = h.version; sender = h.sender; arrival = h.arrival; content = h.content; place = h.place; recipients = h.recipients; failures = out }, others.0))
    (λ with_it. inr (record { id = h.id; version = h.version; sender = h.sender; arrival = h.arrival; content = h.content; place = h.place; recipients = h.recipients; failures = with_it }, others.1))
    (either_way m.failures n.failures (record { failure = failure; firm = true }) h.failures)

messages_either : (id : Id) (failure : Failure) (old new : List Message) → are_distinct (map (λ m. m.id) old) ≡ true → EachTo MessageAfter (map (to_one id loosened) (map (to_one id (with_failure failure)) old)) new
    → EachTo MessageAfter old new ⊎ EachTo MessageAfter (map (to_one id (with_failure failure)) old) new
messages_either id failure [] [] apart h = inl tt
messages_either id failure [] (n ∷ ns) apart h = absurd h
messages_either id failure (m ∷ ms) [] apart h = absurd h
messages_either id failure (m ∷ ms) (n ∷ ns) apart h =
    let two = and_parts (not (list_any (λ i. id_eq i m.id) (map (λ x. x.id) ms))) (are_distinct (map (λ x. x.id) ms)) apart in
    one_changed id failure m n ms ns (id_eq m.id id) (id_eq (to_one id (with_failure failure) m).id id) refl (ap (λ (i : Id). id_eq i id) (same_id failure m (id_eq m.id id)))
    (not-true (list_any (λ i. id_eq i m.id) (map (λ x. x.id) ms)) two.0) h.0 h.1 (messages_either id failure ms ns two.1 h.1)

module _ (b left : Book) (id : Id) (failure : Failure) where
  abbrev logged : Book
  logged = change_message b id (with_failure failure)

  abbrev loose : Book
  loose = change_message logged id loosened

  -- what a crash makes of the book without the failure, it makes of the one where that is loose ..
  pub crash-without : IsCrashOf b left → IsCrashOf loose left
  crash-without h = record { generation = h.generation; damaged = h.damaged; messages = messages_left_out id failure b.messages left.messages h.messages }

  -- .. and what it makes of the book where it is firm
  pub crash-with : IsCrashOf logged left → IsCrashOf loose left
  crash-with h = record { generation = h.generation; damaged = h.damaged; messages = messages_kept id logged.messages left.messages h.messages }

  -- it makes nothing else of that, where no two messages have one id
  pub crash-loose : are_distinct (map (λ m. m.id) b.messages) ≡ true → IsCrashOf loose left → IsCrashOf b left ⊎ IsCrashOf logged left
  crash-loose apart h = ⊎_elim
      (λ out. inl (record { generation = h.generation; damaged = h.damaged; messages = out }))
      (λ with_it. inr (record { generation = h.generation; damaged = h.damaged; messages = with_it }))
      (messages_either id failure b.messages left.messages apart h.messages)
