-- What a crash left is sure: a second crash takes nothing more of it.
use Rattle.std.proofs.Common.{◌≡◌, ℕ, true, false, List, [], ◌∷◌, ◌++◌, map, Option, refl, sym, ap, ◌∙◌, inl, inr}
use Rattle.q_lives.proofs.Books.{ids_after}
use Rattle.q_model.specs.declared.id.Id.{Id}
use Rattle.q_model.specs.declared.rows.Mark.{Mark}
use Rattle.q_model.specs.declared.rows.Place.{Place}
use Rattle.q_model.specs.Book.{all_ids, Book, Damaged}
use Rattle.q_model.specs.Crashes.{EachTo, FailuresAfter, IsCrashOf, MarkAfter, MessageAfter, RecipientAfter}
use Rattle.q_model.specs.Message.{Logged, Message, Recipient}
use Rattle.q_model.specs.declared.rows.Mark.TheVariants as marks

module _ {A : Type 0} (R : A → A → Type 0) where
  -- each that came out stays
  each_stays : ((x y : A) → R x y → R y y) → (xs ys : List A) → EachTo R xs ys → EachTo R ys ys
  each_stays h [] [] e = tt
  each_stays h [] (y ∷ ys) e = absurd e
  each_stays h (x ∷ xs) [] e = absurd e
  each_stays h (x ∷ xs) (y ∷ ys) e = (h x y e.0, each_stays h xs ys e.1)

  -- and becomes nothing else
  each_same : ((x y z : A) → R x y → R y z → z ≡ y) → (xs ys zs : List A) → EachTo R xs ys → EachTo R ys zs → zs ≡ ys
  each_same h [] [] [] e f = refl
  each_same h [] [] (z ∷ zs) e f = absurd f
  each_same h [] (y ∷ ys) zs e f = absurd e
  each_same h (x ∷ xs) [] zs e f = absurd e
  each_same h (x ∷ xs) (y ∷ ys) [] e f = absurd f
  each_same h (x ∷ xs) (y ∷ ys) (z ∷ zs) e f = ap (λ w. w ∷ zs) (h x y z e.0 f.0) ∙ ap (λ ws. y ∷ ws) (each_same h xs ys zs e.1 f.1)

mark_stays : (a b : Mark) → MarkAfter a b → MarkAfter b b
mark_stays marks.Unmarked b h = rw h refl
mark_stays marks.Written b (inl h) = rw h refl
mark_stays marks.Written b (inr h) = rw h refl
mark_stays marks.Synced b h = rw h refl

mark_same : (a b c : Mark) → MarkAfter a b → MarkAfter b c → c ≡ b
mark_same marks.Unmarked marks.Unmarked c h k = k
mark_same marks.Unmarked marks.Written c h k = absurd cc
mark_same marks.Unmarked marks.Synced c h k = absurd cc
mark_same marks.Written marks.Unmarked c h k = k
mark_same marks.Written marks.Written c (inl h) k = absurd cc
mark_same marks.Written marks.Written c (inr h) k = absurd cc
mark_same marks.Written marks.Synced c h k = k
mark_same marks.Synced marks.Unmarked c h k = absurd cc
mark_same marks.Synced marks.Written c h k = absurd cc
mark_same marks.Synced marks.Synced c h k = k

recipient_stays : (a b : Recipient) → RecipientAfter a b → RecipientAfter b b
recipient_stays a b h = record { address = refl; original = refl; mark = mark_stays a.mark b.mark h.mark }

recipient_same : (a b c : Recipient) → RecipientAfter a b → RecipientAfter b c → c ≡ b
recipient_same a b c h k =
    let with : List ℕ → Option (List ℕ) → Mark → Recipient = λ address original mark. record { address = address; original = original; mark = mark } in
    ap (λ x. with x c.original c.mark) k.address ∙ ap (λ x. with b.address x c.mark) k.original ∙ ap (with b.address b.original) (mark_same a.mark b.mark c.mark h.mark k.mark)

failures_stay : (fs gs : List Logged) → FailuresAfter fs gs → FailuresAfter gs gs
failures_stay [] gs h = rw h refl
failures_stay (f ∷ fs) gs (inl kept) = rw kept.1 (inl (kept.0, refl, failures_stay fs kept.0 kept.2))
failures_stay (f ∷ fs) gs (inr gone) = failures_stay fs gs gone.1

failures_same : (fs gs hs : List Logged) → FailuresAfter fs gs → FailuresAfter gs hs → hs ≡ gs
failures_same [] gs hs h k = sure gs hs h k
  where
    sure : (gs hs : List Logged) → gs ≡ [] → FailuresAfter gs hs → hs ≡ gs
    sure [] hs h k = k
    sure (g ∷ gs) hs h k = absurd cc
failures_same (f ∷ fs) gs hs (inr gone) k = failures_same fs gs hs gone.1 k
failures_same (f ∷ fs) gs hs (inl kept) k = first gs kept.1 k (λ others. failures_same fs kept.0 others kept.2)
  where
    first : (gs : List Logged) → gs ≡ record f { firm = true } ∷ kept.0 → FailuresAfter gs hs → ((others : List Logged) → FailuresAfter kept.0 others → others ≡ kept.0) → hs ≡ gs
    first [] is k on = absurd cc
    first (g ∷ rest) is (inl again) on =
        let front : g ≡ record f { firm = true } = cc in
        let back : rest ≡ kept.0 = cc in
        let same : again.0 ≡ kept.0 = on again.0 (rw (sym back) again.2) in
        again.1 ∙ ap (λ x. record g { firm = true } ∷ x) (same ∙ sym back) ∙ ap (λ (x : Logged). x ∷ rest) (ap (λ (x : Logged). record x { firm = true }) front ∙ sym front)
    first (g ∷ rest) is (inr lost) on =
        let front : g ≡ record f { firm = true } = cc in
        let firm : g.firm ≡ true = ap (λ (x : Logged). x.firm) front in
        let bad : true ≡ false = sym firm ∙ lost.0 in
        absurd cc

message_stays : (a b : Message) → MessageAfter a b → MessageAfter b b
message_stays a b h = record {
  id = refl;
  version = refl;
  sender = refl;
  arrival = refl;
  content = refl;
  place = refl;
  recipients = each_stays RecipientAfter recipient_stays a.recipients b.recipients h.recipients;
  failures = failures_stay a.failures b.failures h.failures;
}

abbrev message : Id → ℕ → Option (List ℕ) → ℕ → List ℕ → List Recipient → List Logged → Place → Message
message id version sender arrival content recipients failures place = record { id = id; version = version; sender = sender; arrival = arrival; content = content; recipients = recipients; failures = failures; place = place }

message_same : (a b c : Message) → MessageAfter a b → MessageAfter b c → c ≡ b
message_same a b c h k =
    let rs = each_same RecipientAfter recipient_same a.recipients b.recipients c.recipients h.recipients k.recipients in
    let fs = failures_same a.failures b.failures c.failures h.failures k.failures in
    ap (λ x. message x c.version c.sender c.arrival c.content c.recipients c.failures c.place) k.id
    ∙ ap (λ x. message b.id x c.sender c.arrival c.content c.recipients c.failures c.place) k.version
    ∙ ap (λ x. message b.id b.version x c.arrival c.content c.recipients c.failures c.place) k.sender
    ∙ ap (λ x. message b.id b.version b.sender x c.content c.recipients c.failures c.place) k.arrival
    ∙ ap (λ x. message b.id b.version b.sender b.arrival x c.recipients c.failures c.place) k.content
    ∙ ap (λ x. message b.id b.version b.sender b.arrival b.content x c.failures c.place) rs
    ∙ ap (λ x. message b.id b.version b.sender b.arrival b.content b.recipients x c.place) fs
    ∙ ap (message b.id b.version b.sender b.arrival b.content b.recipients b.failures) k.place

-- a crash may leave it as it is
pub sure_after : (a b : Book) → IsCrashOf a b → IsCrashOf b b
sure_after a b h = record { generation = refl; damaged = refl; messages = each_stays MessageAfter message_stays a.messages b.messages h.messages }

-- and leaves nothing else
pub sure_again : (a b c : Book) → IsCrashOf a b → IsCrashOf b c → c ≡ b
sure_again a b c h k =
    let book : ℕ → List Message → List Damaged → Book = λ generation messages damaged. record { generation = generation; messages = messages; damaged = damaged } in
    ap (λ x. book x c.messages c.damaged) k.generation
    ∙ ap (λ x. book b.generation x c.damaged) (each_same MessageAfter message_same a.messages b.messages c.messages h.messages k.messages)
    ∙ ap (book b.generation b.messages) k.damaged

-- its ids are those of the book before
pub crash_ids : (a b : Book) → IsCrashOf a b → all_ids b ≡ all_ids a
crash_ids a b h = ap (λ (is : List Id). is ++ map (λ (d : Damaged). d.id) b.damaged) (ids_after a.messages b.messages h.messages) ∙ ap (λ (ds : List Damaged). map (λ (m : Message). m.id) a.messages ++ map (λ (d : Damaged). d.id) ds) h.damaged
