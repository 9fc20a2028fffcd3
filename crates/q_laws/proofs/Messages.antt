-- What a message keeps as its failures become sure, its marks are synced, and failures and marks are added.
use Rattle.std.proofs.Common.{◌≡◌, ℕ, ◌+◌, Bool, true, false, not, List, [], ◌∷◌, map, refl, ap, ◌∙◌}
use Rattle.std.proofs.lemmas.Bool.{and_from, and_parts}
use Rattle.std.specs.List.{list_all, list_any}
use Rattle.std.specs.Prelude.{◌&&◌, ◌||◌, ◌==◌}
use Rattle.q_laws.proofs.Members.{all_at, all_from}
use Rattle.q_laws.proofs.Places.{places_mapped, places_same}
use Rattle.q_model.specs.Lists.{has_none, places_from}
use Rattle.q_model.specs.Lives.{firm_failures}
use Rattle.q_model.specs.Marks.{is_marked, is_written, sync_mark}
use Rattle.q_model.specs.Message.{Logged, Message, Recipient, is_logged, unmarked_logged, written_marks}
use Rattle.q_model.specs.Orderly.{has_firm_failures, is_sealed, is_sound}
use Rattle.q_model.specs.Syncs.{sync_all}
use Rattle.q_model.specs.declared.rows.Mark.{Mark}
use Rattle.q_model.specs.declared.rows.Mark.TheVariants as marks

any_mapped : {A B : Type 0} (p : B → Bool) (f : A → B) (xs : List A) → list_any p (map f xs) ≡ list_any (λ x. p (f x)) xs
any_mapped p f [] = refl
any_mapped p f (x ∷ xs) = ap (λ b. p (f x) || b) (any_mapped p f xs)

all_mapped : {A B : Type 0} (p : B → Bool) (f : A → B) (xs : List A) → list_all p (map f xs) ≡ list_all (λ x. p (f x)) xs
all_mapped p f [] = refl
all_mapped p f (x ∷ xs) = ap (λ b. p (f x) && b) (all_mapped p f xs)

-- ---- failures that become sure

pub firm_is : (m : Message) → has_firm_failures (firm_failures m) ≡ true
firm_is m = all_mapped (λ (f : Logged). f.firm) (λ (f : Logged). record f { firm = true }) m.failures ∙ all_from (λ (f : Logged). true) m.failures (λ f h. refl)

pub unmarked_firm : (m : Message) → unmarked_logged (firm_failures m) ≡ unmarked_logged m
unmarked_firm m = places_same (λ i (r : Recipient). not (is_marked r.mark) && is_logged (firm_failures m) i) (λ i (r : Recipient). not (is_marked r.mark) && is_logged m i)
    (λ i r. ap (λ z. not (is_marked r.mark) && z) (any_mapped (λ (f : Logged). f.failure.position == i) (λ (f : Logged). record f { firm = true }) m.failures)) 0 m.recipients

pub sound_firm : (m : Message) → is_sound m ≡ true → is_sound (firm_failures m) ≡ true
sound_firm m h =
    let two = and_parts (has_none (unmarked_logged m) && has_none (written_marks m)) (has_firm_failures m) h in
    and_from (has_none (unmarked_logged (firm_failures m)) && has_none (written_marks m)) (has_firm_failures (firm_failures m))
    (ap (λ (ps : List ℕ). has_none ps && has_none (written_marks m)) (unmarked_firm m) ∙ two.0) (firm_is m)

pub sealed_firm : (m : Message) → is_sealed m ≡ true → is_sealed (firm_failures m) ≡ true
sealed_firm m h =
    let test : Bool = list_all (λ (r : Recipient). is_marked r.mark && not (is_written r.mark)) m.recipients in
    and_from test (has_firm_failures (firm_failures m)) (and_parts test (has_firm_failures m) h).0 (firm_is m)

-- ---- marks that become sure

pub synced_marked : (k : Mark) → is_marked (sync_mark k) ≡ is_marked k
synced_marked marks.Unmarked = refl
synced_marked marks.Written = refl
synced_marked marks.Synced = refl

synced_written : (k : Mark) → is_written (sync_mark k) ≡ false
synced_written marks.Unmarked = refl
synced_written marks.Written = refl
synced_written marks.Synced = refl

abbrev synced_one : Recipient → Recipient
synced_one r = record r { mark = sync_mark r.mark }

pub unmarked_sync : (m : Message) → unmarked_logged (sync_all m) ≡ unmarked_logged m
unmarked_sync m =
    places_mapped (λ i (r : Recipient). not (is_marked r.mark) && is_logged m i) synced_one 0 m.recipients
    ∙ places_same (λ i (r : Recipient). not (is_marked (sync_mark r.mark)) && is_logged m i) (λ i (r : Recipient). not (is_marked r.mark) && is_logged m i)
    (λ i r. ap (λ b. not b && is_logged m i) (synced_marked r.mark)) 0 m.recipients

no_places : {A : Type 0} (n : ℕ) (xs : List A) → places_from n (λ i x. false) xs ≡ []
no_places n [] = refl
no_places n (x ∷ xs) = no_places (n + 1) xs

pub written_sync : (m : Message) → written_marks (sync_all m) ≡ []
written_sync m =
    places_mapped (λ i (r : Recipient). is_written r.mark) synced_one 0 m.recipients
    ∙ places_same (λ i (r : Recipient). is_written (sync_mark r.mark)) (λ i (r : Recipient). false) (λ i r. synced_written r.mark) 0 m.recipients
    ∙ no_places 0 m.recipients

sealed_one : (k : Mark) → (is_marked k && not (is_written k)) ≡ true → (is_marked (sync_mark k) && not (is_written (sync_mark k))) ≡ true
sealed_one marks.Unmarked h = h
sealed_one marks.Written h = refl
sealed_one marks.Synced h = h

pub sealed_sync : (m : Message) → is_sealed m ≡ true → is_sealed (sync_all m) ≡ true
sealed_sync m h =
    let test : Recipient → Bool = λ r. is_marked r.mark && not (is_written r.mark) in
    let two = and_parts (list_all test m.recipients) (has_firm_failures m) h in
    and_from (list_all test (map synced_one m.recipients)) (has_firm_failures m)
    (all_mapped test synced_one m.recipients ∙ all_from (λ (r : Recipient). test (synced_one r)) m.recipients (λ r there. sealed_one r.mark (all_at test r m.recipients two.0 there))) two.1
