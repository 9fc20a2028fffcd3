-- What calls on a link in a row do to it.
use Rattle.std.proofs.Common.{ℕ, ◌+◌, ◌<◌, ◌≢◌, List, [], ◌++◌, length, take, drop, refl, sym, ap, ◌∙◌, arith, subst, append_assoc, length-drop}
use Rattle.std.proofs.lemmas.List.{append-nil, drop-drop, take-append-drop}
use Rattle.q_link.specs.Reads.{Adds, Leaves, same, with_not_yet, with_sent}
use Rattle.q_link.specs.Views.{NoWait, Told, View, Wait}
use Rattle.q_smtpd.specs.Traffic.{Answers, Gave, GoesOn, Tells}

pub goes_nowhere : (v : View) → GoesOn v v
goes_nowhere v = record { faults = omega arith; ended = refl }

pub goes_then : (u v w : View) → GoesOn u v → GoesOn v w → GoesOn u w
goes_then u v w a b = record { faults = omega arith; ended = b.ended ∙ a.ended }

-- a call that leaves the link
pub goes_by_leaving : (waiting : Wait) (change : Told → Told) (old new : View) → Leaves waiting change old new → GoesOn old new
goes_by_leaving waiting change old new h = record { faults = omega arith; ended = h.ended }

-- what holds of two calls in a row
pub tells_then : (P Q R : Told → Told → Type 0) (u v w : View) → ((a b c : Told) → P a b → Q b c → R a c) → Tells P u v → Tells Q v w → Tells R u w
tells_then P Q R u v w join p q = λ t e.
    let second = q t e in
    let first = p second.0 second.1 in
    (first.0, first.1, join first.0 second.0 t first.2 second.2)

-- nothing was asked of the link
pub tells_nothing : (P : Told → Told → Type 0) (v : View) → ((t : Told) → P t t) → Tells P v v
tells_nothing P v h = λ t e. (t, e, h t)

-- one call
pub tells_by_adding : (P : Told → Told → Type 0) (change : Told → Told) (old new : View) → Adds change old.told new.told → ((t : Told) → P t (change t)) → Tells P old new
tells_by_adding P change old new adds h = λ t e.
    let a = adds t e in
    (a.0, a.1, subst (λ (x : Told). P a.0 x) (sym a.2) (h a.0))

-- no more calls answered `NotYet`
pub no_answer : (t : Told) → Answers 0 t t
no_answer t = record { rests_before = refl; not_yets = omega arith }

pub answers_more : (k : ℕ) (a b c : Told) → Answers 0 a b → Answers k b c → Answers k a c
answers_more k a b c first second = record {
  rests_before = second.rests_before ∙ first.rests_before;
  not_yets = omega (arith, first.not_yets, second.not_yets);
}

pub tells_more : (k : ℕ) (u v w : View) → Tells (Answers 0) u v → Tells (Answers k) v w → Tells (Answers k) u w
tells_more k u v w a b = tells_then (Answers 0) (Answers k) (Answers k) u v w (answers_more k) a b

-- ---- sending

pub gave_none : (bytes : List ℕ) (t : Told) → Gave bytes bytes 0 t t
gave_none bytes t = record { front = []; whole_is = refl; sent = sym (append-nil t.sent); received = refl; answers = no_answer t }

pub gave_some : (bytes : List ℕ) (n : ℕ) (t : Told) → Gave bytes (drop n bytes) 0 t (with_sent (take n bytes) t)
gave_some bytes n t = record {
  front = take n bytes;
  whole_is = sym (take-append-drop n bytes);
  sent = refl;
  received = refl;
  answers = record { rests_before = refl; not_yets = omega arith };
}

pub gave_then : (whole mid left : List ℕ) (k : ℕ) (a b c : Told) → Gave whole mid 0 a b → Gave mid left k b c → Gave whole left k a c
gave_then whole mid left k a b c p q = record {
  front = p.front ++ q.front;
  whole_is = p.whole_is ∙ ap (λ (x : List ℕ). p.front ++ x) q.whole_is ∙ sym (append_assoc p.front q.front left);
  sent = q.sent ∙ ap (λ (x : List ℕ). x ++ q.front) p.sent ∙ append_assoc a.sent p.front q.front;
  received = q.received ∙ p.received;
  answers = answers_more k a b c p.answers q.answers;
}

-- the link isn't ready
pub gave_not_yet : (bytes : List ℕ) (t : Told) → Gave bytes bytes 1 t (with_not_yet t)
gave_not_yet bytes t = record {
  front = [];
  whole_is = refl;
  sent = sym (append-nil t.sent);
  received = refl;
  answers = record { rests_before = refl; not_yets = refl };
}

-- more was sent, behind what was sent before
pub gives_on : (whole bytes : List ℕ) (from n : ℕ) (u v w : View) → Tells (Gave whole (drop from bytes) 0) u v → Leaves NoWait (with_sent (take n (drop from bytes))) v w
    → Tells (Gave whole (drop (from + n) bytes) 0) u w
gives_on whole bytes from n u v w gave leaves =
    let mid = drop from bytes in
    subst (λ (xs : List ℕ). Tells (Gave whole xs 0) u w) (drop-drop n from bytes)
    (tells_then (Gave whole mid 0) (Gave mid (drop n mid) 0) (Gave whole (drop n mid) 0) u v w (gave_then whole mid (drop n mid) 0) gave
    (tells_by_adding (Gave mid (drop n mid) 0) (with_sent (take n mid)) v w leaves.told (gave_some mid n)))

-- the link isn't ready for more
pub gives_no_more : (whole left : List ℕ) (u v w : View) (waiting : Wait) → Tells (Gave whole left 0) u v → Leaves waiting with_not_yet v w → Tells (Gave whole left 1) u w
gives_no_more whole left u v w waiting gave leaves =
    tells_then (Gave whole left 0) (Gave left left 1) (Gave whole left 1) u v w (gave_then whole left left 1) gave
    (tells_by_adding (Gave left left 1) with_not_yet v w leaves.told (gave_not_yet left))

-- nothing went
pub gives_nothing : (whole left : List ℕ) (u v w : View) → Tells (Gave whole left 0) u v → Adds same v.told w.told → Tells (Gave whole left 0) u w
gives_nothing whole left u v w gave adds =
    tells_then (Gave whole left 0) (Gave left left 0) (Gave whole left 0) u v w (gave_then whole left left 0) gave
    (tells_by_adding (Gave left left 0) same v w adds (gave_none left))

pub some_left : (bytes : List ℕ) (from : ℕ) → from < length bytes → drop from bytes ≢ []
some_left bytes from h none = let e = ap length none in omega (arith, e, length-drop from bytes)
