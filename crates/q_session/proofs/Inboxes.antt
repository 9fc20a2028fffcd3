-- Bytes that come in pieces are read as one text.
use Rattle.std.proofs.Common.{◌≡◌, ℕ, ◌-◌, ◌≤◌, ◌⊎◌, inl, inr, min, List, [], ◌∷◌, ◌++◌, length, take, drop, refl, sym, ap, ◌∙◌, arith, subst, append_assoc, length-drop, take_all}
use Rattle.std.proofs.lemmas.List.{append-nil, drop_all, take-append-drop}
use Rattle.std.proofs.Math.Seq.{take-append_seam}
use Rattle.q_link.specs.Reads.{Adds, Reads, same, with_not_yet, with_received}
use Rattle.q_link.specs.declared.link.Got.{Got}
use Rattle.q_link.specs.declared.link.Got.TheVariants as got
use Rattle.q_link.specs.Views.{Told, View}
use Rattle.q_reply.specs.Progress.{Holds, Kept}
use Rattle.q_reply.specs.declared.replies.Fed.{Fed}
use Rattle.q_reply.specs.declared.replies.Fed.TheVariants.{BadReply, More, Reply, TooLong}
use Rattle.q_smtp.specs.Replies.{Part, codes_from}
use Rattle.q_session.specs.Traffic.{Answers, Feeds, Received, Tells}
use Rattle.q_session.specs.declared.inbox.Heard.{Heard}
use Rattle.q_session.specs.declared.inbox.Heard.TheVariants.{Code, Lost, NoReply, NotYet}
use Rattle.q_session.specs.declared.inbox.Inbox.{Inbox}
use Rattle.q_session.proofs.Traffic.{no_answer, tells_by_adding, tells_then}

-- all behind the end of a reply is kept
pub kept_behind : (bytes held : List ℕ) (used count room : ℕ) → held ≡ [] → room ≡ 512 → length bytes ≤ 512
    → count ≡ min (length (take (length bytes - used) (drop used bytes))) (room - length held)
    → bytes ≡ take used bytes ++ (held ++ take count (take (length bytes - used) (drop used bytes)))
kept_behind bytes held used count room none full few counted =
    let left = drop used bytes in
    let e = length-drop used bytes in
    let all : take (length bytes - used) left ≡ left = take_all (length bytes - used) left (omega arith) in
    let nothing = ap length none in
    let size = ap length all in
    let whole : take count (take (length bytes - used) left) ≡ take (length bytes - used) left = take_all count (take (length bytes - used) left) (omega arith) in
    sym (take-append-drop used bytes) ∙ ap (λ (xs : List ℕ). take used bytes ++ xs) (sym all ∙ sym whole)
    ∙ ap (λ (xs : List ℕ). take used bytes ++ (xs ++ take count (take (length bytes - used) left))) (sym none)

-- What came so far: some of it was fed, and the rest is in hand.
pub record Reading (old : Inbox) (kept : Kept) (hand : List ℕ) (before after : Told) : Type 0 where
  pub bytes : List ℕ
  pub received : after.received ≡ before.received ++ bytes
  pub sent : after.sent ≡ before.sent
  pub answers : Answers 0 before after
  pub fed : List ℕ
  pub cut : old.unused.items ++ bytes ≡ fed ++ hand
  pub goes : (p : Part) → Holds p old.replies → (q : Part) × Holds q kept × ((more : List ℕ) → codes_from p (fed ++ more) ≡ codes_from q more)

-- nothing was read yet
pub reads_none : (old : Inbox) (t : Told) → Reading old old.replies old.unused.items t t
reads_none old t = record {
  bytes = [];
  received = sym (append-nil t.received);
  sent = refl;
  answers = no_answer t;
  fed = [];
  cut = append-nil old.unused.items;
  goes = λ p h. (p, h, λ more. refl);
}

-- what is in hand is fed, and the reply isn't whole
pub reads_fed : (old : Inbox) (kept : Kept) (hand : List ℕ) (new : Inbox) → ((p : Part) → Holds p kept → Feeds p hand More new)
    → (before after : Told) → Reading old kept hand before after → Reading old new.replies [] before after
reads_fed old kept hand new feeds before after r = record {
  bytes = r.bytes;
  received = r.received;
  sent = r.sent;
  answers = r.answers;
  fed = r.fed ++ hand;
  cut = r.cut ∙ sym (append-nil (r.fed ++ hand));
  goes = λ p h.
      let g = r.goes p h in
      let f = feeds g.0 g.1 in
      (f.0, f.2, λ more. ap (λ (xs : List ℕ). codes_from p xs) (append_assoc r.fed hand more) ∙ g.2 (hand ++ more) ∙ f.1 more);
}

-- more bytes came
pub reads_more : (old : Inbox) (kept : Kept) (came : List ℕ) (before after : Told) → Reading old kept [] before after → Reading old kept came before (with_received came after)
reads_more old kept came before after r = record {
  bytes = r.bytes ++ came;
  received = ap (λ (xs : List ℕ). xs ++ came) r.received ∙ append_assoc before.received r.bytes came;
  sent = r.sent;
  answers = record { hop = r.answers.hop; rests_before = r.answers.rests_before; not_yets = r.answers.not_yets };
  fed = r.fed;
  cut = sym (append_assoc old.unused.items r.bytes came) ∙ ap (λ (xs : List ℕ). xs ++ came) (r.cut ∙ append-nil r.fed);
  goes = r.goes;
}

-- a reply ends in what is in hand
pub hears_code : (old : Inbox) (kept : Kept) (hand : List ℕ) (new : Inbox) (code used : ℕ) → ((p : Part) → Holds p kept → Feeds p hand (Reply code used) new)
    → (before after : Told) → Reading old kept hand before after → Received old (Code code) new before after
hears_code old kept hand new code used feeds before after r = record {
  bytes = r.bytes;
  received = r.received;
  sent = r.sent;
  answers = r.answers;
  hears = λ p h.
      let g = r.goes p h in
      let f = feeds g.0 g.1 in (
        r.fed ++ f.0,
        r.cut ∙ ap (λ (xs : List ℕ). r.fed ++ xs) f.1 ∙ sym (append_assoc r.fed f.0 new.unused.items),
        λ more. ap (λ (xs : List ℕ). codes_from p xs) (append_assoc r.fed f.0 more) ∙ g.2 (f.0 ++ more) ∙ f.2 more,
        f.3,
      );
}

-- what is in hand is no reply
pub hears_no_reply : (old : Inbox) (kept : Kept) (hand : List ℕ) (new : Inbox) → ((p : Part) → Holds p kept → (more : List ℕ) → codes_from p (hand ++ more) ≡ 0 ∷ [])
    → (before after : Told) → Reading old kept hand before after → Received old NoReply new before after
hears_no_reply old kept hand new feeds before after r = record {
  bytes = r.bytes;
  received = r.received;
  sent = r.sent;
  answers = r.answers;
  hears = λ p h more.
      let g = r.goes p h in
      ap (λ (xs : List ℕ). codes_from p (xs ++ more)) r.cut ∙ ap (λ (xs : List ℕ). codes_from p xs) (append_assoc r.fed hand more) ∙ g.2 (hand ++ more) ∙ feeds g.0 g.1 more;
}

-- no more came yet
pub hears_not_yet : (old new : Inbox) → new.unused.items ≡ [] → (before after : Told) → Reading old new.replies [] before after → Received old NotYet new before (with_not_yet after)
hears_not_yet old new none before after r = record {
  bytes = r.bytes;
  received = r.received;
  sent = r.sent;
  answers = record { hop = r.answers.hop; rests_before = r.answers.rests_before; not_yets = omega (arith, r.answers.not_yets) };
  hears = λ p h.
      let g = r.goes p h in
      (g.0, none, λ more. ap (λ (xs : List ℕ). codes_from p (xs ++ more)) (r.cut ∙ append-nil r.fed) ∙ g.2 more, g.1);
}

pub no_codes : (p : Part) → codes_from p [] ≡ []
unfolding codes_from
no_codes p = refl

-- the link ended or failed
pub hears_lost : (old new : Inbox) (before after : Told) → Reading old new.replies [] before after → Received old Lost new before after
hears_lost old new before after r = record {
  bytes = r.bytes;
  received = r.received;
  sent = r.sent;
  answers = r.answers;
  hears = λ p h. let g = r.goes p h in ap (λ (xs : List ℕ). codes_from p xs) r.cut ∙ g.2 [] ∙ no_codes g.0;
}

-- what is said of all that came, at one call behind it
pub tells_next : (P Q : Told → Told → Type 0) (u v : View) → ((before after : Told) → P before after → Q before after) → Tells P u v → Tells Q u v
tells_next P Q u v h p = λ t e. let one = p t e in (one.0, one.1, h one.0 t one.2)

-- the bytes that weren't used are in hand
pub in_hand : (items old hand : List ℕ) (n : ℕ) → length items ≤ 512 → length old ≡ 512 → n ≡ min (length old) (length items) → hand ≡ take n items ++ drop n old → take n hand ≡ items
in_hand items old hand n few size counted is =
    let all : take n items ≡ items = take_all n items (omega arith) in
    let count : n ≡ length items = omega arith in
    ap (λ (xs : List ℕ). take n xs) (is ∙ ap (λ (xs : List ℕ). xs ++ drop n old) all) ∙ ap (λ (k : ℕ). take k (items ++ drop n old)) count ∙ take-append_seam items (drop n old)

pub none_unused : (items : List ℕ) (n : ℕ) → length items ≤ 512 → n ≡ min 512 (length items) → drop n items ≡ []
none_unused items n few counted = drop_all n items (omega arith)

-- by a link that ended or failed nothing came
pub lost_adds : (old new : View) (came : Got) (buf : List ℕ) → (came ≡ got.End) ⊎ (came ≡ got.Failed) → Reads old new came buf → Adds same old.told new.told
lost_adds old new came buf why h = elim why [
  | inl e ↦ (subst (λ (x : Got). Reads old new x buf) e h).told
  | inr e ↦ (subst (λ (x : Got). Reads old new x buf) e h).told
]

-- a call behind what came so far
pub hears_then : (old : Inbox) (kept : Kept) (heard : Heard) (new : Inbox) (change : Told → Told) (u v w : View) → Tells (Reading old kept []) u v → Adds change v.told w.told
    → ((before after : Told) → Reading old kept [] before after → Received old heard new before (change after)) → Tells (Received old heard new) u w
hears_then old kept heard new change u v w reading adds h =
    tells_then (Reading old kept []) (λ (a b : Told). b ≡ change a) (Received old heard new) u v w (λ a b c r e. subst (λ (x : Told). Received old heard new a x) (sym e) (h a b r))
    reading (tells_by_adding (λ (a b : Told). b ≡ change a) change v w adds (λ t. refl))

pub reads_then : (old : Inbox) (kept : Kept) (came : List ℕ) (u v w : View) → Tells (Reading old kept []) u v → Adds (with_received came) v.told w.told → Tells (Reading old kept came) u w
reads_then old kept came u v w reading adds =
    tells_then (Reading old kept []) (λ (a b : Told). b ≡ with_received came a) (Reading old kept came) u v w (λ a b c r e. subst (λ (x : Told). Reading old kept came a x) (sym e) (reads_more old kept came a b r))
    reading (tells_by_adding (λ (a b : Told). b ≡ with_received came a) (with_received came) v w adds (λ t. refl))

-- a fault was answered
pub fault_feeds : (kept : Kept) (hand : List ℕ) (answer : Fed) (new : Inbox) → ((byte : ℕ) × (answer ≡ BadReply byte)) ⊎ (answer ≡ TooLong)
    → ((p : Part) → Holds p kept → Feeds p hand answer new) → (p : Part) → Holds p kept → (more : List ℕ) → codes_from p (hand ++ more) ≡ 0 ∷ []
fault_feeds kept hand answer new why feeds p h = elim why [
  | inl e ↦ subst (λ (x : Fed). Feeds p hand x new) e.1 (feeds p h)
  | inr e ↦ subst (λ (x : Fed). Feeds p hand x new) e (feeds p h)
]
