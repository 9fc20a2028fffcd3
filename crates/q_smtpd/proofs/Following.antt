-- What one byte more says.
use Rattle.std.proofs.Common.{◌≡◌, ℕ, List, [], ◌∷◌, ◌++◌, refl, sym, ap, ◌∙◌, append_assoc}
use Rattle.std.proofs.lemmas.List.{append-nil}
use Rattle.std.proofs.lemmas.Grind.{flat_map-append}
use Rattle.std.proofs.lemmas.List.Elements.{filter_map-append}
use Rattle.q_smtpd.specs.Intakes.{bytes_of, comes, due, mails, mails_of, place_after, place_of, replies_from, replies_to, start}
use Rattle.q_smtpd.specs.Places.{Place, Reply, plain}
use Rattle.q_smtpd.specs.declared.answer.Answer.TheVariants.{Greeting}

pub place_after-append : (p : Place) (xs ys : List ℕ) → place_after p (xs ++ ys) ≡ place_after (place_after p xs) ys
unfolding place_after
place_after-append p [] ys = refl
place_after-append p (b ∷ xs) ys = place_after-append (comes p b).place xs ys

pub replies_from-append : (p : Place) (xs ys : List ℕ) → replies_from p (xs ++ ys) ≡ replies_from p xs ++ replies_from (place_after p xs) ys
unfolding place_after replies_from
replies_from-append p [] ys = refl
replies_from-append p (b ∷ xs) ys =
    ap (λ (x : List Reply). (comes p b).replies ++ x) (replies_from-append (comes p b).place xs ys)
    ∙ sym (append_assoc (comes p b).replies (replies_from (comes p b).place xs) (replies_from (place_after (comes p b).place xs) ys))

pub place-snoc : (received : List ℕ) (b : ℕ) → place_of (received ++ b ∷ []) ≡ (comes (place_of received) b).place
unfolding place_after
place-snoc received b = place_after-append start received (b ∷ [])

replies_from-one : (p : Place) (b : ℕ) → replies_from p (b ∷ []) ≡ (comes p b).replies
unfolding replies_from
replies_from-one p b = append-nil (comes p b).replies

pub replies-snoc : (received : List ℕ) (b : ℕ) → replies_to (received ++ b ∷ []) ≡ replies_to received ++ (comes (place_of received) b).replies
replies-snoc received b = ap (λ (x : List Reply). plain Greeting ∷ x) (replies_from-append start received (b ∷ []) ∙ ap (λ (x : List Reply). replies_from start received ++ x) (replies_from-one (place_of received) b))

pub due-snoc : (received : List ℕ) (b : ℕ) → due (received ++ b ∷ []) ≡ due received ++ bytes_of (comes (place_of received) b).replies
due-snoc received b = ap bytes_of (replies-snoc received b) ∙ flat_map-append (λ (r : Reply). r.text) (replies_to received) (comes (place_of received) b).replies

pub mails-snoc : (received : List ℕ) (b : ℕ) → mails (received ++ b ∷ []) ≡ mails received ++ mails_of (comes (place_of received) b).replies
mails-snoc received b = ap mails_of (replies-snoc received b) ∙ filter_map-append (λ (r : Reply). r.mail) (replies_to received) (comes (place_of received) b).replies
