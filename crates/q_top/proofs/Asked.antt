-- What the words of a command ask for has the form that carrying it out needs.
use Rattle.std.proofs.Common.{◌≡◌, ◌≤◌, ◌∷◌, [], arith, Bool, cond, false, List, None, Option, refl, Some, subst, true, ℕ}
use Rattle.std.proofs.lemmas.Bool.{and_from}
use Rattle.std.specs.List.{list_all}
use Rattle.std.specs.Option.{option_and_then, option_map_or}
use Rattle.std.specs.Prelude.{bytes_eq, codes, IfSome, length, option_map}
use Rattle.clap.specs.Words.{first_of, matches_of, Row}
use Rattle.q_events.specs.Forms.{IsMailInForm, is_receiver}
use Rattle.q_model.specs.Texts.{is_address}
use Rattle.q_model.specs.Values.{Receiver}
use Rattle.q_numbers.specs.Pieces.{each_some, one_or_more}
use Rattle.q_text.specs.ValueTexts.{address_of, plain_of, sender_of_text}
use Rattle.q_top.specs.Qmgr.{HasForm}
use Rattle.q_words.specs.Commands.{submit_app}
use Rattle.q_words.specs.Requests.{IsRequest, IsSubmission, words_of}
use Rattle.q_words.specs.declared.request.Request.{Request}
use Rattle.q_words.specs.declared.request.Request.TheVariants as requests

-- what is there has the property
held : {A : Type 0} (P : A → Type 0) (o : Option A) (a : A) → IfSome o P → o ≡ Some a → P a
held P None a h is = absurd cc
held P (Some x) a h is = let same : x ≡ a = cc in subst P same h

address_form : (text : List ℕ) → IfSome (address_of text) (λ a. is_address a ≡ true)
address_form text = by (is_address text) refl
  where
    by : (b : Bool) → is_address text ≡ b → IfSome (cond b (Some text) None) (λ a. is_address a ≡ true)
    by true e = e
    by false e = tt

on_both : {A B : Type 0} (P : A → Type 0) (Q : B → Type 0) (f : A → Option B) (o : Option A) → IfSome o P → ((a : A) → P a → IfSome (f a) Q) → IfSome (option_and_then f o) Q
on_both P Q f None h k = tt
on_both P Q f (Some a) h k = k a h

on_map : {A B : Type 0} (P : A → Type 0) (Q : B → Type 0) (f : A → B) (o : Option A) → IfSome o P → ((a : A) → P a → Q (f a)) → IfSome (option_map f o) Q
on_map P Q f None h k = tt
on_map P Q f (Some a) h k = k a h

abbrev IsReceiver : Receiver → Type 0
IsReceiver r = is_receiver r ≡ true

plain_form : (text : List ℕ) → IfSome (plain_of text) IsReceiver
plain_form text =
    on_map (λ a. is_address a ≡ true) IsReceiver (λ address. record { address = address; original = None }) (address_of text) (address_form text)
    (λ a is. and_from (is_address a) true is refl)

abbrev AreReceivers : List Receiver → Type 0
AreReceivers to = list_all is_receiver to ≡ true

receivers_form : (texts : List (List ℕ)) → IfSome (each_some plain_of texts) AreReceivers
receivers_form [] = refl
receivers_form (text ∷ texts) =
    on_both IsReceiver AreReceivers _ (plain_of text) (plain_form text)
    (λ r is. on_map AreReceivers AreReceivers _ (each_some plain_of texts) (receivers_form texts)
    (λ others are. and_from (is_receiver r) (list_all is_receiver others) is are))

abbrev AreRecipients : List Receiver → Type 0
AreRecipients to = AreReceivers to × (1 ≤ length to)

recipients_form : (texts : List (List ℕ)) → IfSome (one_or_more plain_of texts) AreRecipients
recipients_form [] = tt
recipients_form (text ∷ texts) =
    on_both IsReceiver AreRecipients _ (plain_of text) (plain_form text)
    (λ r is. on_map AreReceivers AreRecipients _ (each_some plain_of texts) (receivers_form texts)
    (λ others are. (and_from (is_receiver r) (list_all is_receiver others) is are, omega arith)))

abbrev HasSenderForm : Option (List ℕ) → Type 0
HasSenderForm sender = option_map_or is_address sender true ≡ true

sender_form : (text : List ℕ) → IfSome (sender_of_text text) HasSenderForm
sender_form text = by (bytes_eq text (codes "<>"))
  where
    by : (b : Bool) → IfSome (cond b (Some None) (option_map (λ address. Some address) (address_of text))) HasSenderForm
    by true = refl
    by false = on_map (λ a. is_address a ≡ true) HasSenderForm (λ address. Some address) (address_of text) (address_form text) (λ a is. is)

any_some : {A : Type 0} (o : Option A) → IfSome o (λ a. Unit {0})
any_some None = tt
any_some (Some a) = tt

submission_form : (rows : List Row) (sender : Option (List ℕ)) (to : List Receiver) → IsSubmission rows sender to → IsMailInForm sender to
submission_form rows sender to s =
    let from = held HasSenderForm _ sender (on_both (λ word. Unit {0}) HasSenderForm sender_of_text (first_of (codes "sender") rows) (any_some (first_of (codes "sender") rows)) (λ word t. sender_form word)) s.from in
    let recipients = held AreRecipients _ to (recipients_form (words_of (codes "to") rows)) s.recipients in
    (from, recipients.0, recipients.1)

pub asked_form : (words : List (List ℕ)) (request : Request) → IsRequest words request → HasForm request
asked_form words requests.Replay is = tt
asked_form words (requests.Submit sender to) is = submission_form (matches_of submit_app words) sender to is.1
asked_form words (requests.Drain rests) is = tt
asked_form words (requests.Listen port count rests) is = is.1.some
asked_form words (requests.Qshape request) is = is.1.shape
asked_form words requests.Queue is = tt
asked_form words (requests.Load mails) is = tt
asked_form words (requests.Tool tool) is = tt
asked_form words requests.Json is = tt
asked_form words requests.Status is = tt
asked_form words (requests.Show id) is = tt
asked_form words requests.Params is = tt
asked_form words (requests.Route addresses) is = tt
asked_form words requests.Check is = tt
asked_form words requests.Audit is = tt
