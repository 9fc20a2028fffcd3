-- Texts that grow by pieces, and the notice that the pieces make.
use Rattle.std.proofs.Common.{◌≡◌, ◌<◌, ◌+◌, ℕ, List, [], ◌∷◌, ◌++◌, length, map, take, Option, refl, sym, ap, ◌∙◌, arith, append_assoc, append-nil, length-take-le}
use Rattle.std.specs.Prelude.{codes, decimal, Err, flat_map, min, Ok, OnOk, Result, slice_index_or, unwrap_or}
use Rattle.std.proofs.lemmas.List.{take_more}
use Rattle.q_model.specs.declared.id.Id.{Id}
use Rattle.q_model.specs.declared.outcome.Failure.{Failure}
use Rattle.q_model.specs.declared.outcome.Why.TheVariants.{Refused}
use Rattle.q_model.specs.IdTexts.{id_text}
use Rattle.q_model.specs.Message.{Logged, Message}
use Rattle.q_model.specs.Notices.{failure_line, notice}
use Rattle.q_model.specs.Values.{Receiver}
use Rattle.q_notice.specs.NoticeTexts.{head_lines, IsToldOf, named_failure, named_failures, receiver_at, size_lines}

pub on_ok : {T E : Type 0} {P Q : Type 0} (r : Result T E) → (P → Q) → OnOk r P → OnOk r Q
on_ok (Ok v) f h = f h
on_ok (Err e) f h = h

-- ---- pieces

-- five pieces, one behind another
pub five : (t p q r s u a b c d e : List ℕ) → a ≡ t ++ p → b ≡ a ++ q → c ≡ b ++ r → d ≡ c ++ s → e ≡ d ++ u → e ≡ t ++ (p ++ (q ++ (r ++ (s ++ u))))
five t p q r s u a b c d e ha hb hc hd he =
    he ∙ ap (λ (x : List ℕ). x ++ u) (hd ∙ ap (λ (x : List ℕ). x ++ s) (hc ∙ ap (λ (x : List ℕ). x ++ r) (hb ∙ ap (λ (x : List ℕ). x ++ q) ha)))
    ∙ append_assoc (((t ++ p) ++ q) ++ r) s u ∙ append_assoc ((t ++ p) ++ q) r (s ++ u) ∙ append_assoc (t ++ p) q (r ++ (s ++ u)) ∙ append_assoc t p (q ++ (r ++ (s ++ u)))

abbrev pub before_sender : List ℕ
before_sender = codes "From: MAILER-DAEMON" ++ 10 ∷ codes "To: "

abbrev pub before_id : List ℕ
before_id = 10 ∷ codes "Subject: Undelivered Mail Returned to Sender" ++ 10 ∷ 10 ∷ codes "These recipients of message "

abbrev pub behind_id : List ℕ
behind_id = codes " were not reached:" ++ 10 ∷ 10 ∷ []

flat : (front to subject these behind nl sender name : List ℕ) → ((front ++ nl) ++ to) ++ (sender ++ (((nl ++ (subject ++ nl)) ++ (nl ++ these)) ++ (name ++ (behind ++ (nl ++ nl)))))
    ≡ (((((front ++ nl) ++ ((to ++ sender) ++ nl)) ++ (subject ++ nl)) ++ nl) ++ (((these ++ name) ++ behind) ++ nl)) ++ nl
flat front to subject these behind nl sender name = simp append_assoc

head-flat : (sender name : List ℕ) → before_sender ++ (sender ++ (before_id ++ (name ++ behind_id)))
    ≡ ((((((codes "From: MAILER-DAEMON" ++ 10 ∷ []) ++ ((codes "To: " ++ sender) ++ 10 ∷ [])) ++ (codes "Subject: Undelivered Mail Returned to Sender" ++ 10 ∷ [])) ++ (10 ∷ []))
    ++ (((codes "These recipients of message " ++ name) ++ codes " were not reached:") ++ 10 ∷ [])) ++ (10 ∷ []))
head-flat sender name = flat (codes "From: MAILER-DAEMON") (codes "To: ") (codes "Subject: Undelivered Mail Returned to Sender") (codes "These recipients of message ") (codes " were not reached:") (10 ∷ []) sender name

pub head-pieces : (id : Id) (sender t a b c d e : List ℕ) → a ≡ t ++ before_sender → b ≡ a ++ sender → c ≡ b ++ before_id → d ≡ c ++ id_text id → e ≡ d ++ behind_id → e ≡ t ++ head_lines id sender
head-pieces id sender t a b c d e ha hb hc hd he = five t before_sender sender before_id (id_text id) behind_id a b c d e ha hb hc hd he ∙ ap (λ (x : List ℕ). t ++ x) (head-flat sender (id_text id))

abbrev pub before_size : List ℕ
before_size = 10 ∷ codes "The message had "

abbrev pub before_front : List ℕ
before_front = codes " bytes. Its first "

abbrev pub behind_front : List ℕ
behind_front = codes " bytes follow." ++ 10 ∷ 10 ∷ []

size-flat : (size front : List ℕ) → before_size ++ (size ++ (before_front ++ (front ++ behind_front)))
    ≡ (((10 ∷ []) ++ (((((codes "The message had " ++ size) ++ codes " bytes. Its first ") ++ front) ++ codes " bytes follow.") ++ 10 ∷ [])) ++ (10 ∷ []))
size-flat size front = simp append_assoc

pub size-pieces : (size : ℕ) (t a b c d e : List ℕ) → a ≡ t ++ before_size → b ≡ a ++ decimal size → c ≡ b ++ before_front → d ≡ c ++ decimal (min size 50000) → e ≡ d ++ behind_front → e ≡ t ++ size_lines size
size-pieces size t a b c d e ha hb hc hd he = five t before_size (decimal size) before_front (decimal (min size 50000)) behind_front a b c d e ha hb hc hd he ∙ ap (λ (x : List ℕ). t ++ x) (size-flat (decimal size) (decimal (min size 50000)))

-- ---- failures

-- what stands past the end
abbrev pub no_failure : Failure
no_failure = record { position = 0; why = Refused; code = 0 }

named-push : (fs : List Failure) (ns : List Receiver) (f : Failure) (n : Receiver) → length ns ≡ length fs → named_failures (fs ++ f ∷ []) (ns ++ n ∷ []) ≡ named_failures fs ns ++ named_failure n f
named-push [] [] f n same = append-nil (named_failure n f)
named-push [] (m ∷ ns) f n same = absurd (omega (arith, same))
named-push (g ∷ fs) [] f n same = absurd (omega (arith, same))
named-push (g ∷ fs) (m ∷ ns) f n same = ap (λ (x : List ℕ). named_failure m g ++ x) (named-push fs ns f n (omega (arith, same))) ∙ sym (append_assoc (named_failure m g) (named_failures fs ns) (named_failure n f))

pub named-more : (fs : List Failure) (ns : List Receiver) (i : ℕ) (d : Failure) (e : Receiver) (t mid new : List ℕ) → i < length fs → length ns ≡ length fs → mid ≡ t ++ named_failures (take i fs) (take i ns)
    → new ≡ mid ++ named_failure (slice_index_or ns i e) (slice_index_or fs i d) → new ≡ t ++ named_failures (take (i + 1) fs) (take (i + 1) ns)
named-more fs ns i d e t mid new within same before pushed =
    let f = slice_index_or fs i d in
    let n = slice_index_or ns i e in
    let count : length (take i ns) ≡ length (take i fs) = omega (arith, length-take-le i ns (omega (arith, within, same)), length-take-le i fs (omega (arith, within))) in
    pushed ∙ ap (λ (x : List ℕ). x ++ named_failure n f) before ∙ append_assoc t (named_failures (take i fs) (take i ns)) (named_failure n f)
    ∙ ap (λ (x : List ℕ). t ++ x) (sym (named-push (take i fs) (take i ns) f n count)
    ∙ sym (ap (λ (xs : List Failure). named_failures xs (take i ns ++ n ∷ [])) (take_more fs i d within))
    ∙ sym (ap (named_failures (take (i + 1) fs)) (take_more ns i e (omega (arith, within, same)))))

-- ---- the notice of a message

lines-of : (m : Message) (ls : List Logged) → named_failures (map (λ l. l.failure) ls) (map (λ l. receiver_at m l.failure.position) ls) ≡ flat_map (failure_line m) ls
lines-of m [] = refl
lines-of m (l ∷ ls) = ap (λ (x : List ℕ). failure_line m l ++ x) (lines-of m ls)

three : (x a b c : List ℕ) → x ++ ((a ++ b) ++ c) ≡ ((x ++ a) ++ b) ++ c
three x a b c = sym (append_assoc x (a ++ b) c) ∙ ap (λ (y : List ℕ). y ++ c) (sym (append_assoc x a b))

abbrev whole : Id → List ℕ → List ℕ → ℕ → List ℕ → List ℕ
whole id sender named size front = ((head_lines id sender ++ named) ++ size_lines size) ++ front

-- the parts of a notice are the notice of each message of which they tell
pub notice-is : (m : Message) (id : Id) (sender : List ℕ) (failures : List Failure) (names : List Receiver) (size : ℕ) (front : List ℕ) → IsToldOf m id sender failures names size front → whole id sender (named_failures failures names) size front ≡ notice m
notice-is m id sender failures names size front told =
    ap (λ (i : Id). whole i sender (named_failures failures names) size front) (sym told.id_is)
    ∙ ap (λ (x : List ℕ). whole m.id x (named_failures failures names) size front) (sym (ap (λ (o : Option (List ℕ)). unwrap_or o []) told.sender_is))
    ∙ ap (λ (fs : List Failure). whole m.id (unwrap_or m.sender []) (named_failures fs names) size front) (sym told.failures_are)
    ∙ ap (λ (ns : List Receiver). whole m.id (unwrap_or m.sender []) (named_failures (map (λ l. l.failure) m.failures) ns) size front) (sym told.names_are)
    ∙ ap (λ (x : List ℕ). whole m.id (unwrap_or m.sender []) x size front) (lines-of m m.failures)
    ∙ ap (λ (k : ℕ). whole m.id (unwrap_or m.sender []) (flat_map (failure_line m) m.failures) k front) (sym told.size_is)
    ∙ ap (λ (x : List ℕ). whole m.id (unwrap_or m.sender []) (flat_map (failure_line m) m.failures) (length m.content) x) (sym told.front_is)
    ∙ ap (λ (x : List ℕ). x ++ take 50000 m.content) (three (head_lines m.id (unwrap_or m.sender []) ++ flat_map (failure_line m) m.failures) (10 ∷ [])
    ((codes "The message had " ++ decimal (length m.content) ++ codes " bytes. Its first " ++ decimal (min (length m.content) 50000) ++ codes " bytes follow.") ++ 10 ∷ []) (10 ∷ []))

pub built : (head named size front t a b c d : List ℕ) → t ≡ [] → a ≡ t ++ head → b ≡ a ++ named → c ≡ b ++ size → d ≡ c ++ front → d ≡ ((head ++ named) ++ size) ++ front
built head named size front t a b c d none ha hb hc hd =
    hd ∙ ap (λ (x : List ℕ). x ++ front) (hc ∙ ap (λ (x : List ℕ). x ++ size) (hb ∙ ap (λ (x : List ℕ). x ++ named) (ha ∙ ap (λ (x : List ℕ). x ++ head) none)))
