-- What calls on a link in a row do to it.
use Rattle.std.proofs.Common.{◌≡◌, ℕ, inl, inr, List, [], ◌++◌, take, drop, refl, sym, ap, ◌∙◌, arith, subst, append_assoc}
use Rattle.std.proofs.lemmas.List.{append-nil, take-append-drop}
use Rattle.q_link.specs.Reads.{Adds, Leaves, Writes, same, with_not_yet, with_sent}
use Rattle.q_link.specs.Views.{Told, View, Wait}
use Rattle.q_link.specs.declared.link.Put.{Put}
use Rattle.q_link.specs.declared.link.Put.TheVariants as put
use Rattle.q_session.specs.Polls.{SendsOnce}
use Rattle.q_session.specs.Traffic.{Answers, Gave, GoesOn, Tells}

pub goes_nowhere : (v : View) → GoesOn v v
goes_nowhere v = record { faults = omega arith; ended = refl }

pub goes_then : (u v w : View) → GoesOn u v → GoesOn v w → GoesOn u w
goes_then u v w a b = record { faults = omega arith; ended = b.ended ∙ a.ended }

-- a call that leaves the link
pub goes_by_leaving : (waiting : Wait) (change : Told → Told) (old new : View) → Leaves waiting change old new → GoesOn old new
goes_by_leaving waiting change old new h = record { faults = omega arith; ended = h.ended }

-- what holds of two calls in a row
pub tells_then : (P Q R : Told → Told → Type 0) (u v w : View) → ((a b c : Told) → P a b → Q b c → R a c) → Tells P u v → Tells Q v w → Tells R u w
tells_then P Q R u v w join p q = λ t e.
    let second = q t e in
    let first = p second.0 second.1 in
    (first.0, first.1, join first.0 second.0 t first.2 second.2)

-- nothing was asked of the link
pub tells_nothing : (P : Told → Told → Type 0) (v : View) → ((t : Told) → P t t) → Tells P v v
tells_nothing P v h = λ t e. (t, e, h t)

-- one call
pub tells_by_adding : (P : Told → Told → Type 0) (change : Told → Told) (old new : View) → Adds change old.told new.told → ((t : Told) → P t (change t)) → Tells P old new
tells_by_adding P change old new adds h = λ t e.
    let a = adds t e in
    (a.0, a.1, subst (λ (x : Told). P a.0 x) (sym a.2) (h a.0))

-- no more calls answered `NotYet`
pub no_answer : (t : Told) → Answers 0 t t
no_answer t = record { hop = refl; rests_before = refl; not_yets = omega arith }

pub gave_none : (whole : List ℕ) (t : Told) → Gave whole whole 0 t t
gave_none whole t = record { front = []; whole_is = refl; sent = sym (append-nil t.sent); received = refl; answers = no_answer t }

pub gave_some : (whole : List ℕ) (n : ℕ) (t : Told) → Gave whole (drop n whole) 0 t (with_sent (take n whole) t)
gave_some whole n t = record {
  front = take n whole;
  whole_is = sym (take-append-drop n whole);
  sent = refl;
  received = refl;
  answers = record { hop = refl; rests_before = refl; not_yets = omega arith };
}

pub gave_not_yet : (whole : List ℕ) (t : Told) → Gave whole whole 1 t (with_not_yet t)
gave_not_yet whole t = record { front = []; whole_is = refl; sent = sym (append-nil t.sent); received = refl; answers = record { hop = refl; rests_before = refl; not_yets = refl } }

pub gave_then : (whole mid left : List ℕ) (more : ℕ) (a b c : Told) → Gave whole mid 0 a b → Gave mid left more b c → Gave whole left more a c
gave_then whole mid left more a b c first second = record {
  front = first.front ++ second.front;
  whole_is = first.whole_is ∙ ap (λ (xs : List ℕ). first.front ++ xs) second.whole_is ∙ sym (append_assoc first.front second.front left);
  sent = second.sent ∙ ap (λ (xs : List ℕ). xs ++ second.front) first.sent ∙ append_assoc a.sent first.front second.front;
  received = second.received ∙ first.received;
  answers = record {
    hop = second.answers.hop ∙ first.answers.hop;
    rests_before = second.answers.rests_before ∙ first.answers.rests_before;
    not_yets = omega arith;
  };
}

-- nothing was left to write
pub sends_none : (bytes : List ℕ) (t : Told) → SendsOnce bytes t t
sends_none bytes t = record { received = refl; sent = (0, sym (append-nil t.sent)); answers = inl (no_answer t) }

-- one write, of which at most a front went out
pub sends_once : (bytes : List ℕ) (old new : View) (came : Put) → Writes old new came bytes → Tells (SendsOnce bytes) old new
sends_once bytes old new (put.Gave n) h = tells_by_adding (SendsOnce bytes) (with_sent (take n bytes)) old new h.2.told (λ t.
    record { received = refl; sent = (n, refl); answers = inl (record { hop = refl; rests_before = refl; not_yets = omega arith }) })
sends_once bytes old new put.NotYet h = tells_by_adding (SendsOnce bytes) with_not_yet old new h.told (λ t.
    record { received = refl; sent = (0, sym (append-nil t.sent)); answers = inr (record { hop = refl; rests_before = refl; not_yets = refl }) })
sends_once bytes old new put.Failed h = tells_by_adding (SendsOnce bytes) same old new h.told (λ t. sends_none bytes t)

pub sends_once_of : (bytes rest : List ℕ) → bytes ≡ rest → (old new : View) (came : Put) → Writes old new came bytes → Tells (SendsOnce rest) old new
sends_once_of bytes rest e old new came h = subst (λ (xs : List ℕ). Tells (SendsOnce xs) old new) e (sends_once bytes old new came h)

pub tells_of : (P : Told → Told → Type 0) (old new now : View) → new ≡ now → Tells P old new → Tells P old now
tells_of P old new now e h = subst (λ (v : View). Tells P old v) e h
