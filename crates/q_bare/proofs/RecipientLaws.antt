-- What is asked of a message's recipients is the same without original addresses.
use Rattle.std.proofs.Common.{◌≡◌, ℕ, ◌+◌, ◌-◌, Bool, true, false, not, List, [], ◌∷◌, length, map, Option, Some, None, option_map, refl, ap, ◌∙◌, if◌then◌else◌}
use Rattle.std.proofs.lemmas.List.{length-map}
use Rattle.std.proofs.lemmas.Option.{slice_get-map}
use Rattle.std.specs.List.{enumerate_from}
use Rattle.std.specs.Option.{option_map_or}
use Rattle.std.specs.Prelude.{◌&&◌, ◌||◌, ◌==◌, filter, nat_le, slice_get}
use Rattle.q_bare.specs.Bare.{bare_message, bare_recipient}
use Rattle.q_model.specs.Batches.{load_end, pending_from}
use Rattle.q_model.specs.Finishing.{is_clean, is_done}
use Rattle.q_model.specs.Lists.{has_none, places_from}
use Rattle.q_model.specs.Marking.{is_unmarked_at, mark_one, with_mark}
use Rattle.q_model.specs.Marks.{is_marked, is_written, sync_mark}
use Rattle.q_model.specs.Message.{address_at, is_logged, Message, pending, Recipient, unmarked_logged, written_marks}
use Rattle.q_model.specs.Syncs.{sync_all}
use Rattle.q_model.specs.declared.rows.Mark.TheVariants as marks

places_bare : (n : ℕ) (p q : ℕ → Recipient → Bool) → ((i : ℕ) (r : Recipient) → p i (bare_recipient r) ≡ q i r) → (rs : List Recipient) → places_from n p (map bare_recipient rs) ≡ places_from n q rs
places_bare n p q h [] = refl
places_bare n p q h (r ∷ rs) =
    ap (λ b. if b then n ∷ places_from (n + 1) p (map bare_recipient rs) else places_from (n + 1) p (map bare_recipient rs)) (h n r)
    ∙ ap (λ ps. if q n r then n ∷ ps else ps) (places_bare (n + 1) p q h rs)

pub pending_bare : (m : Message) → pending (bare_message m) ≡ pending m
pending_bare m =
    places_bare 0 (λ i r. not (is_marked r.mark || is_logged m i)) (λ i r. not (is_marked r.mark || is_logged m i)) (λ i r. refl) m.recipients

pub unmarked_bare : (m : Message) → unmarked_logged (bare_message m) ≡ unmarked_logged m
unmarked_bare m =
    places_bare 0 (λ i r. not (is_marked r.mark) && is_logged m i) (λ i r. not (is_marked r.mark) && is_logged m i) (λ i r. refl) m.recipients

pub written_bare : (m : Message) → written_marks (bare_message m) ≡ written_marks m
written_bare m = places_bare 0 (λ i r. is_written r.mark) (λ i r. is_written r.mark) (λ i r. refl) m.recipients

pub length_bare : (m : Message) → length (bare_message m).recipients ≡ length m.recipients
length_bare m = length-map m.recipients bare_recipient

asked_at : {A : Type 0} (f : Recipient → A) (d : A) → ((r : Recipient) → f (bare_recipient r) ≡ f r) → (o : Option Recipient) → option_map_or f (option_map bare_recipient o) d ≡ option_map_or f o d
asked_at f d h None = refl
asked_at f d h (Some r) = h r

pub address_bare : (m : Message) (p : ℕ) → address_at (bare_message m) p ≡ address_at m p
address_bare m p =
    ap (λ o. option_map_or (λ (r : Recipient). r.address) o []) (slice_get-map bare_recipient m.recipients p)
    ∙ asked_at (λ (r : Recipient). r.address) [] (λ r. refl) (slice_get m.recipients p)

pub unmarked_at_bare : (m : Message) (p : ℕ) → is_unmarked_at (bare_message m) p ≡ is_unmarked_at m p
unmarked_at_bare m p =
    ap (λ o. option_map_or (λ (r : Recipient). not (is_marked r.mark)) o false) (slice_get-map bare_recipient m.recipients p)
    ∙ asked_at (λ (r : Recipient). not (is_marked r.mark)) false (λ r. refl) (slice_get m.recipients p)

pub clean_bare : (m : Message) → is_clean (bare_message m) ≡ is_clean m
clean_bare m = ap (λ (ps : List ℕ). has_none ps) (written_bare m)

pub done_bare : (m : Message) → is_done (bare_message m) ≡ is_done m
done_bare m =
    ap (λ (ps : List ℕ). has_none ps && has_none (unmarked_logged (bare_message m)) && is_clean (bare_message m)) (pending_bare m)
    ∙ ap (λ (ps : List ℕ). has_none (pending m) && has_none ps && is_clean (bare_message m)) (unmarked_bare m)
    ∙ ap (λ b. has_none (pending m) && has_none (unmarked_logged m) && b) (clean_bare m)

pub load_end_bare : (m : Message) (from free : ℕ) → load_end (bare_message m) from free ≡ load_end m from free
load_end_bare m from free =
    ap (λ (ps : List ℕ). option_map_or (λ p. p + 1) (slice_get (filter (λ p. nat_le from p) ps) (free - 1)) (length (bare_message m).recipients)) (pending_bare m)
    ∙ ap (option_map_or (λ p. p + 1) (slice_get (pending_from m from) (free - 1))) (length_bare m)

-- ---- marks

abbrev of_recipients : Message → List Recipient → Message
of_recipients m rs = record (bare_message m) { recipients = rs }

recipients_twice : (rs : List Recipient) → map bare_recipient (map bare_recipient rs) ≡ map bare_recipient rs
recipients_twice [] = refl
recipients_twice (r ∷ rs) = ap (λ xs. bare_recipient r ∷ xs) (recipients_twice rs)

pub message_twice : (m : Message) → bare_message (bare_message m) ≡ bare_message m
message_twice m = ap (of_recipients m) (recipients_twice m.recipients)

marked_step : (b : Bool) (x y : Recipient) → (if b then bare_recipient x else bare_recipient y) ≡ bare_recipient (if b then x else y)
marked_step true x y = refl
marked_step false x y = refl

marked : (p n : ℕ) (rs : List Recipient) → map (mark_one p) (enumerate_from n (map bare_recipient rs)) ≡ map bare_recipient (map (mark_one p) (enumerate_from n rs))
marked p n [] = refl
marked p n (r ∷ rs) =
    ap (λ x. x ∷ map (mark_one p) (enumerate_from (n + 1) (map bare_recipient rs))) (marked_step (n == p) (record r { mark = marks.Written }) r)
    ∙ ap (λ xs. bare_recipient (mark_one p (n, r)) ∷ xs) (marked p (n + 1) rs)

pub mark_bare : (p : ℕ) (m : Message) → with_mark p (bare_message m) ≡ bare_message (with_mark p m)
mark_bare p m = ap (of_recipients m) (marked p 0 m.recipients)

synced : (rs : List Recipient) → map (λ (r : Recipient). record r { mark = sync_mark r.mark }) (map bare_recipient rs) ≡ map bare_recipient (map (λ (r : Recipient). record r { mark = sync_mark r.mark }) rs)
synced [] = refl
synced (r ∷ rs) = ap (λ xs. bare_recipient (record r { mark = sync_mark r.mark }) ∷ xs) (synced rs)

pub synced_bare : (m : Message) → sync_all (bare_message m) ≡ bare_message (sync_all m)
synced_bare m = ap (of_recipients m) (synced m.recipients)
