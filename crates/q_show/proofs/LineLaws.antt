-- The lines of recipients, added one behind another.
use Rattle.std.proofs.Common.{◌≡◌, ◌∙◌, ◌+◌, ◌<◌, ◌++◌, ◌∷◌, [], List, None, Option, Some, ℕ, ap, arith, flat_map, length, map, refl, suc, sym, zero}
use Rattle.std.specs.BTreeMap.{BTreeMap}
use Rattle.std.specs.List.{range_with_len}
use Rattle.std.specs.Option.{option_map_or}
use Rattle.std.specs.Prelude.{get_or, slice_get}
use Rattle.std.proofs.lemmas.List.{flat_map_more}
use Rattle.std.proofs.lemmas.List.FromFn.{get_or-map-range_with_len}
use Rattle.std.proofs.lemmas.Option.{get_or_from_slice_get}
use Rattle.q_model.specs.declared.outcome.Note.{Note}
use Rattle.q_model.specs.FilesStand.{file_message, file_recipient}
use Rattle.q_model.specs.Message.{address_at, Message, Recipient}
use Rattle.q_model.specs.QueueFile.{FileRecipient}
use Rattle.q_model.specs.Values.{Receiver}
use Rattle.q_message.specs.Names.{receiver_in}
use Rattle.q_show.specs.declared.states.State.{State}
use Rattle.q_show.specs.Lines.{line_at, name_at}
use Rattle.q_show.specs.Shown.{recipient_text, state_line}
use Rattle.q_show.specs.States.{AreStates, state_in}

range_more : (a n : ℕ) → range_with_len a (n + 1) ≡ range_with_len a n ++ (a + n) ∷ []
range_more a zero = let e : a ≡ a + 0 = omega arith in ap (λ m. m ∷ []) e
range_more a (suc n) =
    let e : suc n + 1 ≡ suc (n + 1) = omega arith in
    let f : a + 1 + n ≡ a + suc n = omega arith in
    ap (range_with_len a) e ∙ ap (λ ns. a ∷ ns) (range_more (a + 1) n) ∙ ap (λ m. (a ∷ range_with_len (a + 1) n) ++ m ∷ []) f

pub range_next : (n : ℕ) → range_with_len 0 (n + 1) ≡ range_with_len 0 n ++ n ∷ []
range_next n = let e : 0 + n ≡ n = omega arith in range_more 0 n ∙ ap (λ m. range_with_len 0 n ++ m ∷ []) e

-- one line more
pub line_more : (names : List Receiver) (kept : BTreeMap ℕ State) (n : ℕ) (name : Receiver) (base mid new : List ℕ) → slice_get names n ≡ Some name
    → mid ≡ base ++ flat_map (line_at names kept) (range_with_len 0 n) → new ≡ mid ++ state_line name.address (state_in kept n) → new ≡ base ++ flat_map (line_at names kept) (range_with_len 0 (n + 1))
line_more names kept n name base mid new there before pushed =
    let blank : Receiver = record { address = []; original = None } in
    let here : name_at names n ≡ name.address = ap (λ (r : Receiver). r.address) (get_or_from_slice_get names n name blank there) in
    pushed ∙ ap (λ (t : List ℕ). t ++ state_line name.address (state_in kept n)) before
    ∙ ap (λ (a : List ℕ). (base ++ flat_map (line_at names kept) (range_with_len 0 n)) ++ state_line a (state_in kept n)) (sym here)
    ∙ flat_map_more (line_at names kept) base (range_with_len 0 n) n ∙ ap (λ (ns : List ℕ). base ++ flat_map (line_at names kept) ns) (sym (range_next n))

-- ---- the lines of a message

same_range : (f g : ℕ → List ℕ) (a n : ℕ) → ((i : ℕ) → i < a + n → f i ≡ g i) → flat_map f (range_with_len a n) ≡ flat_map g (range_with_len a n)
same_range f g a zero same = refl
same_range f g a (suc n) same =
    ap (λ (t : List ℕ). t ++ flat_map f (range_with_len (a + 1) n)) (same a (omega arith))
    ∙ ap (λ (t : List ℕ). g a ++ t) (same_range f g (a + 1) n (λ i within. same i (omega (arith, within))))

-- the address of a position in the message's file
same_address : (rs : List Recipient) (position : ℕ) → option_map_or (λ r. r.address) (slice_get (map file_recipient rs) position) [] ≡ option_map_or (λ r. r.address) (slice_get rs position) []
same_address [] position = refl
same_address (r ∷ rs) zero = refl
same_address (r ∷ rs) (suc position) = same_address rs position

receiver_address : (o : Option FileRecipient) → (option_map_or {U = Receiver} (λ (r : FileRecipient). record { address = r.address; original = r.original }) o (record { address = []; original = None })).address ≡ option_map_or (λ r. r.address) o []
receiver_address None = refl
receiver_address (Some r) = refl

pub name_is : (m : Message) (names : List Receiver) (position : ℕ) → names ≡ map (receiver_in (file_message m)) (range_with_len 0 (length m.recipients)) → position < length m.recipients → name_at names position ≡ address_at m position
name_is m names position are within =
    let blank : Receiver = record { address = []; original = None } in
    ap (λ (ns : List Receiver). (get_or ns position blank).address) are
    ∙ ap (λ (r : Receiver). r.address) (get_or-map-range_with_len (receiver_in (file_message m)) 0 (length m.recipients) position position blank within (omega arith))
    ∙ receiver_address (slice_get (map file_recipient m.recipients) position) ∙ same_address m.recipients position

pub lines_are : (notes : List Note) (m : Message) (names : List Receiver) (kept : BTreeMap ℕ State) → names ≡ map (receiver_in (file_message m)) (range_with_len 0 (length m.recipients)) → AreStates notes m kept
    → flat_map (line_at names kept) (range_with_len 0 (length m.recipients)) ≡ flat_map (recipient_text notes m) (range_with_len 0 (length m.recipients))
lines_are notes m names kept are stand = same_range (line_at names kept) (recipient_text notes m) 0 (length m.recipients) (λ i within.
    let here : i < length m.recipients = omega (arith, within) in
    ap (λ (a : List ℕ). state_line a (state_in kept i)) (name_is m names i are here) ∙ ap (λ (s : State). state_line (address_at m i) s) (stand i here))
