-- What a word says, in both directions: states, triggers and senders.
use Rattle.std.proofs.Common.{◌≡◌, ◌∙◌, ℕ, Bool, true, false, Option, Some, None, List, refl, sym, ap, subst}
use Rattle.std.specs.List.{list_all}
use Rattle.std.specs.Prelude.{bytes_eq, codes, if◌then◌else◌}
use Rattle.std.proofs.lemmas.Bool.{false≢true, false_from_ne_true}
use Rattle.std.proofs.lemmas.Slice.Eq.{bytes_eq-Decides}
use Rattle.q_model.proofs.RecordLaws.{map_some}
use Rattle.q_model.specs.declared.event.Trigger.{Trigger}
use Rattle.q_model.specs.declared.outcome.SiteState.{SiteState}
use Rattle.q_model.specs.declared.outcome.SiteState.TheVariants.{Down, Up}
use Rattle.q_model.specs.Text.{sender_text, state_text, trigger_text}
use Rattle.q_model.specs.Texts.{is_address}
use Rattle.q_text.specs.ValueForms.{IsSender}
use Rattle.q_text.specs.ValueTexts.{address_of, sender_of_text, state_of_text, trigger_of}
use Rattle.q_text.proofs.Exactness.{ExactPart}
use Rattle.q_text.proofs.NumberReads.{exact_address}
use Rattle.q_text.proofs.SolidTexts.{address_is_solid, is_solid}
use Rattle.q_model.specs.declared.event.Trigger.TheVariants as triggers

-- a test comes before a value
pub guarded : {A : Type 0} (b : Bool) (o : Option A) (a : A) → (if b then o else None) ≡ Some a → (b ≡ true) × (o ≡ Some a)
guarded true o a h = (refl, h)
guarded false o a h = absurd (cc)

-- a word stands for one value, and other words may be for others
pub word_or : {A : Type 0} (text word : List ℕ) (a b : A) (other : Option A) (P : Type 0) → (if bytes_eq text word then Some a else other) ≡ Some b
    → (text ≡ word → a ≡ b → P) → (bytes_eq text word ≡ false → other ≡ Some b → P) → P
word_or {A} text word a b other P h this rest =
    let step : (t : Bool) → bytes_eq text word ≡ t → (if t then Some a else other) ≡ Some b → P = λ t.
    elim t as (λ t. bytes_eq text word ≡ t → (if t then Some a else other) ≡ Some b → P) [
      | true ↦ λ e k. this ((bytes_eq-Decides text word).0 e) (cc)
      | false ↦ λ e k. rest e k
    ] in
    step (bytes_eq text word) refl h

pub no_words : {A : Type 0} (b : A) (P : Type 0) → ◌≡◌ {A = Option A} None (Some b) → P
no_words b P e = absurd (cc)

state_back : (text : List ℕ) (state : SiteState) → state_of_text text ≡ Some state → Unit {0} × (state_text state ≡ text)
state_back text state h =
    word_or text (codes "up") Up state _ (Unit {0} × (state_text state ≡ text)) h (λ e same. (tt, ap state_text (sym same) ∙ sym e))
    (λ _ k. word_or text (codes "down") Down state None (Unit {0} × (state_text state ≡ text)) k (λ e same. (tt, ap state_text (sym same) ∙ sym e)) (λ _ n. no_words state _ n))

state_gives : (state : SiteState) → Unit {0} → state_of_text (state_text state) ≡ Some state
state_gives Up h = refl
state_gives Down h = refl

state_solid : (state : SiteState) → Unit {0} → list_all is_solid (state_text state) ≡ true
state_solid Up h = refl
state_solid Down h = refl

pub exact_state : ExactPart state_of_text (λ _. Unit {0}) state_text
exact_state = record { exact = record { back = state_back; gives = state_gives }; solid = state_solid }

this_trigger : (kind k : Trigger) (text word : List ℕ) → trigger_text k ≡ word → text ≡ word → k ≡ kind → Unit {0} × (trigger_text kind ≡ text)
this_trigger kind k text word w e same = (tt, ap trigger_text (sym same) ∙ w ∙ sym e)

trigger_back : (text : List ℕ) (kind : Trigger) → trigger_of text ≡ Some kind → Unit {0} × (trigger_text kind ≡ text)
trigger_back text kind h =
    word_or text (codes "D") triggers.D kind _ (Unit {0} × (trigger_text kind ≡ text)) h (this_trigger kind triggers.D text (codes "D") refl)
    (λ _ a. word_or text (codes "A") triggers.A kind _ (Unit {0} × (trigger_text kind ≡ text)) a (this_trigger kind triggers.A text (codes "A") refl)
    (λ _ f. word_or text (codes "F") triggers.F kind None (Unit {0} × (trigger_text kind ≡ text)) f (this_trigger kind triggers.F text (codes "F") refl) (λ _ n. no_words kind _ n)))

trigger_gives : (kind : Trigger) → Unit {0} → trigger_of (trigger_text kind) ≡ Some kind
trigger_gives triggers.D h = refl
trigger_gives triggers.A h = refl
trigger_gives triggers.F h = refl

trigger_solid : (kind : Trigger) → Unit {0} → list_all is_solid (trigger_text kind) ≡ true
trigger_solid triggers.D h = refl
trigger_solid triggers.A h = refl
trigger_solid triggers.F h = refl

pub exact_trigger : ExactPart trigger_of (λ _. Unit {0}) trigger_text
exact_trigger = record { exact = record { back = trigger_back; gives = trigger_gives }; solid = trigger_solid }

-- an address, or `<>`, which is none
sender_back : (text : List ℕ) (sender : Option (List ℕ)) → sender_of_text text ≡ Some sender → IsSender sender × (sender_text sender ≡ text)
sender_back text sender h =
    let P = IsSender sender × (sender_text sender ≡ text) in
    let null = λ (e : text ≡ codes "<>") (same : None ≡ sender). subst (λ (s : Option (List ℕ)). IsSender s × (sender_text s ≡ text)) same (tt, sym e) in
    word_or text (codes "<>") None sender _ P h null
    (λ _ k.
    let (address, found, same) = map_some (λ (address : List ℕ). Some address) (address_of text) sender k in
    let (is, written) = exact_address.exact.back text address found in
    subst (λ (s : Option (List ℕ)). IsSender s × (sender_text s ≡ text)) same (is, written))

no_bracket : (text : List ℕ) → is_address text ≡ true → bytes_eq text (codes "<>") ≡ false
no_bracket text h = false_from_ne_true (bytes_eq text (codes "<>")) (λ e. false≢true (sym (ap is_address ((bytes_eq-Decides text (codes "<>")).0 e)) ∙ h))

sender_gives : (sender : Option (List ℕ)) → IsSender sender → sender_of_text (sender_text sender) ≡ Some sender
sender_gives None h = refl
sender_gives (Some address) h = rw (no_bracket address h, exact_address.exact.gives address h) refl

sender_solid : (sender : Option (List ℕ)) → IsSender sender → list_all is_solid (sender_text sender) ≡ true
sender_solid None h = refl
sender_solid (Some address) h = address_is_solid address h

pub exact_sender : ExactPart sender_of_text IsSender sender_text
exact_sender = record { exact = record { back = sender_back; gives = sender_gives }; solid = sender_solid }
