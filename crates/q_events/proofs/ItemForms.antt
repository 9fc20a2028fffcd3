-- The items of an event list have their form.
use Rattle.std.proofs.Common.{◌≡◌, ◌≤◌, ◌&&◌, ℕ, Bool, true, false, if◌then◌else◌, length, List, [], ◌∷◌, drop, Option, Some, None, ap, not, refl, subst, sym, arith}
use Rattle.std.specs.List.{AllByRecursion, list_all}
use Rattle.std.specs.Option.{ok_or, option_map_or}
use Rattle.std.specs.Prelude.{bytes_eq, codes, IfOk, IfSome, nat_le, option_and_then, option_map, ◌^◌, ◌-◌}
use Rattle.std.specs.Str.Parse.{digits_value}
use Rattle.std.proofs.lemmas.Bool.{and_from}
use Rattle.std.proofs.lemmas.Bool.Decides.{nat_tests}
use Rattle.q_model.specs.declared.outcome.Outcome.{Outcome}
use Rattle.q_model.specs.declared.outcome.SiteState.{SiteState}
use Rattle.q_model.specs.Lists.{has_none}
use Rattle.q_model.specs.QueueFile.{new_version}
use Rattle.q_model.specs.QueueFileBytes.{is_original}
use Rattle.q_model.specs.Texts.{is_address}
use Rattle.q_model.specs.Values.{Receiver}
use Rattle.q_model.specs.declared.event.Event.TheVariants as events
use Rattle.q_numbers.specs.Numbers.{is_number, number_within}
use Rattle.q_numbers.specs.Pieces.{cut, each_some, one_or_more, words_in}
use Rattle.q_text.specs.ValueForms.{HasAddressForm, IsListOf, IsOutcomeAt}
use Rattle.q_text.specs.ValueTexts.{address_of, mapped_from, mapped_of, outcome_of, plain_of, receiver_of, sender_of_text, state_of_text, trigger_of}
use Rattle.q_text.proofs.OutcomeReads.{exact_outcome}
use Rattle.q_events.specs.EventLines.{command_of, has_front, is_body, is_passed, meaning_of_line, mail_in, moment_of, reply_in, reply_to, single_of, trigger_command}
use Rattle.q_events.specs.EventList.{item_of}
use Rattle.q_events.specs.Forms.{IsInForm, IsItemInForm, IsMailInForm, is_receiver}
use Rattle.q_events.specs.declared.error.EventError.{EventError}
use Rattle.q_events.specs.declared.list_item.ListItem.{ListItem}
use Rattle.q_events.specs.declared.line.ListLine.{ListLine}
use Rattle.q_events.specs.declared.line.ListLine.TheVariants.{Body, Passed, Told}
use Rattle.q_events.specs.declared.line.Command.{Command}
use Rattle.q_events.specs.declared.line.Command.TheVariants as commands

abbrev CommandInForm : Command → Type 0
CommandInForm (commands.Mail sender to) = IsMailInForm sender to
CommandInForm (commands.Plain event) = IsInForm event
CommandInForm commands.Restart = Unit {0}
CommandInForm commands.End = Unit {0}

abbrev LineInForm : ListLine → Type 0
LineInForm Passed = Unit {0}
LineInForm Body = Unit {0}
LineInForm (Told command) = CommandInForm command

-- ---- what may be there has a property

by_test : {A : Type 0} (P : A → Type 0) (t : Bool) (x y : Option A) → IfSome x P → IfSome y P → IfSome (if t then x else y) P
by_test P true x y h k = h
by_test P false x y h k = k

by_first : {A B : Type 0} (P : A → Type 0) (Q : B → Type 0) (f : A → Option B) (o : Option A) → IfSome o P → ((a : A) → P a → IfSome (f a) Q) → IfSome (option_and_then f o) Q
by_first P Q f None h k = tt
by_first P Q f (Some a) h k = k a h

by_map : {A B : Type 0} (P : A → Type 0) (Q : B → Type 0) (f : A → B) (o : Option A) → IfSome o P → ((a : A) → P a → Q (f a)) → IfSome (option_map f o) Q
by_map P Q f None h k = tt
by_map P Q f (Some a) h k = k a h

any : {A : Type 0} (o : Option A) → IfSome o (λ a. Unit {0})
any None = tt
any (Some a) = tt

-- ---- words

address_form : (text : List ℕ) → IfSome (address_of text) HasAddressForm
address_form text = by (is_address text) refl
  where
    by : (b : Bool) → is_address text ≡ b → IfSome (if b then Some text else None) HasAddressForm
    by true e = e
    by false e = tt

abbrev IsReceiver : Receiver → Type 0
IsReceiver r = is_receiver r ≡ true

plain_form : (text : List ℕ) → IfSome (plain_of text) IsReceiver
plain_form text =
    by_map HasAddressForm IsReceiver (λ address. record { address = address; original = None }) (address_of text) (address_form text)
    (λ a is. and_from (is_address a) (is_original new_version a None) is refl)

mapped_from_form : (original address : List ℕ) → is_address address ≡ true → is_address original ≡ true → IsReceiver (mapped_from original address)
mapped_from_form original address is other = by (bytes_eq original address) refl
  where
    by : (t : Bool) → bytes_eq original address ≡ t → IsReceiver (record { address = address; original = if t then None else Some original })
    by true e = and_from (is_address address) (is_original new_version address None) is refl
    by false e = and_from (is_address address) (is_original new_version address (Some original)) is (and_from (is_address original) (not (bytes_eq original address)) other (ap not e))

mapped_form : (parts : List ℕ × List ℕ) → IfSome (mapped_of parts) IsReceiver
mapped_form parts =
    by_first HasAddressForm IsReceiver _ (address_of parts.0) (address_form parts.0)
    (λ address is. by_map HasAddressForm IsReceiver (λ original. mapped_from original address) (address_of parts.1) (address_form parts.1)
    (λ original other. mapped_from_form original address is other))

receiver_form : (text : List ℕ) → IfSome (receiver_of text) IsReceiver
receiver_form text = by (cut 44 text)
  where
    by : (o : Option (List ℕ × List ℕ)) → IfSome (option_map_or mapped_of o (plain_of text)) IsReceiver
    by None = plain_form text
    by (Some parts) = mapped_form parts

abbrev AreReceivers : List Receiver → Type 0
AreReceivers to = list_all is_receiver to ≡ true

receivers_form : (texts : List (List ℕ)) → IfSome (each_some receiver_of texts) AreReceivers
receivers_form [] = refl
receivers_form (text ∷ texts) =
    by_first IsReceiver AreReceivers _ (receiver_of text) (receiver_form text)
    (λ r is. by_map AreReceivers AreReceivers _ (each_some receiver_of texts) (receivers_form texts)
    (λ others are. and_from (is_receiver r) (list_all is_receiver others) is are))

abbrev AreRecipients : List Receiver → Type 0
AreRecipients to = AreReceivers to × (1 ≤ length to)

recipients_form : (texts : List (List ℕ)) → IfSome (one_or_more receiver_of texts) AreRecipients
recipients_form [] = tt
recipients_form (text ∷ texts) =
    by_first IsReceiver AreRecipients _ (receiver_of text) (receiver_form text)
    (λ r is. by_map AreReceivers AreRecipients _ (each_some receiver_of texts) (receivers_form texts)
    (λ others are. (and_from (is_receiver r) (list_all is_receiver others) is are, omega arith)))

abbrev HasForm : Option (List ℕ) → Type 0
HasForm sender = option_map_or is_address sender true ≡ true

sender_form : (text : List ℕ) → IfSome (sender_of_text text) HasForm
sender_form text =
    by_test HasForm (bytes_eq text (codes "<>")) (Some None) (option_map (λ address. Some address) (address_of text)) refl
    (by_map HasAddressForm HasForm (λ address. Some address) (address_of text) (address_form text) (λ a is. is))

mail_form : (texts : List (List ℕ)) → IfSome (mail_in texts) CommandInForm
mail_form [] = tt
mail_form (text ∷ texts) =
    by_first HasForm CommandInForm _ (sender_of_text text) (sender_form text)
    (λ sender is. by_map AreRecipients CommandInForm _ (one_or_more receiver_of texts) (recipients_form texts) (λ to are. (is, are.0, are.1)))

outcome_form : (state : SiteState) (text : List ℕ) → IfSome (outcome_of state text) (IsOutcomeAt state)
outcome_form state text = by (outcome_of state text) refl
  where
    by : (o : Option Outcome) → outcome_of state text ≡ o → IfSome o (IsOutcomeAt state)
    by None e = tt
    by (Some outcome) e = ((exact_outcome state).exact.back text outcome e).0

abbrev AreOutcomesAt : SiteState → List Outcome → Type 0
AreOutcomesAt state outcomes = AllByRecursion (IsOutcomeAt state) outcomes

each_form : (state : SiteState) (texts : List (List ℕ)) → IfSome (each_some (outcome_of state) texts) (AreOutcomesAt state)
each_form state [] = tt
each_form state (text ∷ texts) =
    by_first (IsOutcomeAt state) (AreOutcomesAt state) _ (outcome_of state text) (outcome_form state text)
    (λ outcome is. by_map (AreOutcomesAt state) (AreOutcomesAt state) _ (each_some (outcome_of state) texts) (each_form state texts)
    (λ others are. (is, are)))

outcomes_form : (state : SiteState) (texts : List (List ℕ)) → IfSome (one_or_more (outcome_of state) texts) (IsListOf (IsOutcomeAt state))
outcomes_form state [] = tt
outcomes_form state (text ∷ texts) =
    by_first (IsOutcomeAt state) (IsListOf (IsOutcomeAt state)) _ (outcome_of state text) (outcome_form state text)
    (λ outcome is. by_map (AreOutcomesAt state) (IsListOf (IsOutcomeAt state)) _ (each_some (outcome_of state) texts) (each_form state texts)
    (λ others are. (omega arith, (is, are))))

reply_to_form : (number : ℕ) (texts : List (List ℕ)) → IfSome (reply_to number texts) CommandInForm
reply_to_form number [] = tt
reply_to_form number (text ∷ texts) =
    by_first (λ s. Unit {0}) CommandInForm _ (state_of_text text) (any (state_of_text text))
    (λ state _. by_map (IsListOf (IsOutcomeAt state)) CommandInForm _ (one_or_more (outcome_of state) texts) (outcomes_form state texts)
    (λ outcomes are. are))

reply_form : (texts : List (List ℕ)) → IfSome (reply_in texts) CommandInForm
reply_form [] = tt
reply_form (text ∷ texts) = by_first (λ n. Unit {0}) CommandInForm _ (number_within 0 (2 ^ 64 - 1) text) (any (number_within 0 (2 ^ 64 - 1) text)) (λ number is. reply_to_form number texts)

below : (n high : ℕ) → nat_le n high ≡ true → n ≤ high
below n high h = grind (arith, nat_tests)

number_form : (low high : ℕ) (text : List ℕ) → IfSome (number_within low high text) (λ n. n ≤ high)
number_form low high text = by (is_number text && nat_le low n) (nat_le n high) refl
  where
    n : ℕ
    n = digits_value 10 text

    by : (a b : Bool) → nat_le n high ≡ b → IfSome (if a && b then Some n else None) (λ n. n ≤ high)
    by true true e = below n high e
    by true false e = tt
    by false b e = tt

moment_form : (text : List ℕ) → IfSome (moment_of text) CommandInForm
moment_form text = by_map (λ n. n ≤ 999990000000) CommandInForm (λ moment. commands.Plain (events.At moment)) (number_within 0 999990000000 text) (number_form 0 999990000000 text) (λ n le. le)

trigger_form : (text : List ℕ) → IfSome (trigger_command text) CommandInForm
trigger_form text =
    by_map (λ k. Unit {0}) CommandInForm (λ kind. commands.Plain (events.Trigger kind)) (trigger_of text) (any (trigger_of text)) (λ kind is. is)

single_form : (line : List ℕ) → IfSome (single_of line) CommandInForm
unfolding single_of
single_form line =
    by_test CommandInForm (bytes_eq line (codes "restart")) _ _ tt
    (by_test CommandInForm (bytes_eq line (codes "end")) _ _ tt
    (by_test CommandInForm (has_front (codes "at ") line) _ _ (moment_form (drop 3 line)) (by_test CommandInForm (has_front (codes "trigger ") line) _ None (trigger_form (drop 8 line)) tt)))

command_form : (line : List ℕ) → IfSome (command_of line) CommandInForm
unfolding command_of
command_form line =
    by_test CommandInForm (has_front (codes "mail ") line) _ _ (mail_form (words_in (drop 5 line))) (by_test CommandInForm (has_front (codes "reply ") line) _ _ (reply_form (words_in (drop 6 line))) (single_form line))

line_form : (line : List ℕ) → IfSome (meaning_of_line line) LineInForm
unfolding meaning_of_line
line_form line =
    by_test LineInForm (is_passed line) _ _ tt (by_test LineInForm (is_body line) _ _ tt (by_map CommandInForm LineInForm (λ command. Told command) (command_of line) (command_form line) (λ command is. is)))

-- ---- items

abbrev OptionInForm : Option ListItem → Type 0
OptionInForm o = IfSome o IsItemInForm

item_form : (content : List ℕ) (n : ℕ) (command : Command) → CommandInForm command → OptionInForm (item_of content n command)
item_form content n (commands.Mail sender to) h = h
item_form content n (commands.Plain event) h = by_test IsItemInForm (has_none content) _ None h tt
item_form content n commands.Restart h = by_test IsItemInForm (has_none content) _ None tt tt
item_form content n commands.End h = by_test IsItemInForm (has_none content) _ None tt tt

answered : (o : Option ListItem) (e : EventError) → OptionInForm o → IfOk (ok_or o e) IsItemInForm
answered None e h = tt
answered (Some item) e h = h

told : (said : ListLine) (command : Command) → LineInForm said → said ≡ Told command → CommandInForm command
told said command h e = subst LineInForm e h

-- the item of a line
pub item_in_form : (line content : List ℕ) (n : ℕ) (said : ListLine) (command : Command) (o : Option ListItem) (e : EventError) → meaning_of_line line ≡ Some said → said ≡ Told command → o ≡ item_of content n command → IfOk (ok_or o e) IsItemInForm
item_in_form line content n said command o e is_said is_told is =
    let line : LineInForm said = subst (λ (x : Option ListLine). IfSome x LineInForm) is_said (line_form line) in
    answered o e (subst OptionInForm (sym is) (item_form content n command (told said command line is_told)))
