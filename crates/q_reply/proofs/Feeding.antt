-- A reply read byte by byte.
use Rattle.std.proofs.Common.{◌≡◌, ℕ, ◌+◌, ◌<◌, ◌≤◌, List, [], ◌∷◌, length, drop, slice_index, refl, sym, ap, ◌∙◌, arith, subst, add-one, drop-cons}
use Rattle.std.proofs.lemmas.List.{drop_all}
use Rattle.q_smtp.specs.Replies.{Bad, Came, Long, On, Part, Whole, comes, nothing_yet, part_after, part_by}
use Rattle.q_reply.specs.Feeds.{fed, fed_by, one_more}
use Rattle.q_reply.specs.Progress.{further, Shows, Took}
use Rattle.q_reply.specs.declared.progress.Progress.{Progress}
use Rattle.q_reply.specs.declared.progress.Taken.TheVariants as taken
use Rattle.q_reply.specs.declared.replies.Fed.{Fed}
use Rattle.q_reply.specs.declared.replies.Fed.TheVariants.{Reply, More, BadReply, TooLong}

-- so many bytes were read, and what is kept shows the reply as far as it has come
pub record Reached (p : Part) (bytes : List ℕ) (i : ℕ) (s : Progress) : Type 0 where
  pub part : Part
  pub shows : Shows part s
  pub answer : fed p bytes ≡ further i (fed part (drop i bytes))
  pub ends : part_after p bytes ≡ part_after part (drop i bytes)

further_none : (f : Fed) → f ≡ further 0 f
further_none (Reply code used) = ap (Reply code) (omega arith)
further_none More = refl
further_none (BadReply byte) = refl
further_none TooLong = refl

further_more : (i : ℕ) (f : Fed) → further i (one_more f) ≡ further (i + 1) f
further_more i (Reply code used) = ap (Reply code) (omega arith)
further_more i More = refl
further_more i (BadReply byte) = refl
further_more i TooLong = refl

pub reached_none : (p : Part) (bytes : List ℕ) (s : Progress) → Shows p s → Reached p bytes 0 s
reached_none p bytes s h = record { part = p; shows = h; answer = further_none (fed p bytes); ends = refl }

fed_one : (q : Part) (b : ℕ) (rest : List ℕ) (x : Came) → comes q b ≡ x → fed q (b ∷ rest) ≡ fed_by x b (λ r. fed r rest)
unfolding fed
fed_one q b rest x e = ap (λ (y : Came). fed_by y b (λ r. fed r rest)) e

part_one : (q : Part) (b : ℕ) (rest : List ℕ) (x : Came) → comes q b ≡ x → part_after q (b ∷ rest) ≡ part_by x q (λ r. part_after r rest)
unfolding part_after
part_one q b rest x e = ap (λ (y : Came). part_by y q (λ r. part_after r rest)) e

next_is : (bytes : List ℕ) (i : ℕ) → i < length bytes → drop i bytes ≡ slice_index bytes i ∷ drop (i + 1) bytes
next_is bytes i h = rw (add-one, drop-cons bytes i 0) refl

abbrev next : List ℕ → ℕ → ℕ
next bytes i = slice_index bytes i

fed_here : (p : Part) (bytes : List ℕ) (i : ℕ) (s : Progress) (r : Reached p bytes i s) (x : Came) → i < length bytes → comes r.part (next bytes i) ≡ x
    → fed p bytes ≡ further i (fed_by x (next bytes i) (λ q. fed q (drop (i + 1) bytes)))
fed_here p bytes i s r x h e = r.answer ∙ ap (λ (xs : List ℕ). further i (fed r.part xs)) (next_is bytes i h) ∙ ap (further i) (fed_one r.part (next bytes i) (drop (i + 1) bytes) x e)

pub reached_on : (p : Part) (bytes : List ℕ) (i : ℕ) (s t : Progress) (r : Reached p bytes i s) → i < length bytes → Took (comes r.part (next bytes i)) taken.On t → Reached p bytes (i + 1) t
reached_on p bytes i s t r h took = by (comes r.part (next bytes i)) refl took
  where
    by : (x : Came) → comes r.part (next bytes i) ≡ x → Took x taken.On t → Reached p bytes (i + 1) t
    by (On q) e shows = record {
      part = q;
      shows = shows;
      answer = fed_here p bytes i s r (On q) h e ∙ further_more i (fed q (drop (i + 1) bytes));
      ends = r.ends ∙ ap (part_after r.part) (next_is bytes i h) ∙ part_one r.part (next bytes i) (drop (i + 1) bytes) (On q) e;
    }
    by (Whole code) e none = absurd none
    by Bad e none = absurd none
    by Long e none = absurd none

pub reached_whole : (p : Part) (bytes : List ℕ) (i : ℕ) (s t : Progress) (number : ℕ) (r : Reached p bytes i s) → i < length bytes → Took (comes r.part (next bytes i)) (taken.Whole number) t
    → (Reply number (i + 1) ≡ fed p bytes) × Shows nothing_yet t
reached_whole p bytes i s t number r h took = by (comes r.part (next bytes i)) refl took
  where
    by : (x : Came) → comes r.part (next bytes i) ≡ x → Took x (taken.Whole number) t → (Reply number (i + 1) ≡ fed p bytes) × Shows nothing_yet t
    by (On q) e none = absurd none
    by (Whole code) e same = (ap (λ (c : ℕ). Reply c (i + 1)) same.0 ∙ sym (fed_here p bytes i s r (Whole code) h e), same.1)
    by Bad e none = absurd none
    by Long e none = absurd none

pub reached_bad : (p : Part) (bytes : List ℕ) (i : ℕ) (s t : Progress) (r : Reached p bytes i s) → i < length bytes → Took (comes r.part (next bytes i)) taken.Bad t → BadReply (next bytes i) ≡ fed p bytes
reached_bad p bytes i s t r h took = by (comes r.part (next bytes i)) refl took
  where
    by : (x : Came) → comes r.part (next bytes i) ≡ x → Took x taken.Bad t → BadReply (next bytes i) ≡ fed p bytes
    by (On q) e none = absurd none
    by (Whole code) e none = absurd none
    by Bad e same = sym (fed_here p bytes i s r Bad h e)
    by Long e none = absurd none

pub reached_long : (p : Part) (bytes : List ℕ) (i : ℕ) (s t : Progress) (r : Reached p bytes i s) → i < length bytes → Took (comes r.part (next bytes i)) taken.Long t → TooLong ≡ fed p bytes
reached_long p bytes i s t r h took = by (comes r.part (next bytes i)) refl took
  where
    by : (x : Came) → comes r.part (next bytes i) ≡ x → Took x taken.Long t → TooLong ≡ fed p bytes
    by (On q) e none = absurd none
    by (Whole code) e none = absurd none
    by Bad e none = absurd none
    by Long e same = sym (fed_here p bytes i s r Long h e)

at_end : (p : Part) (bytes : List ℕ) (i : ℕ) (s : Progress) (r : Reached p bytes i s) → length bytes ≤ i → (More ≡ fed p bytes) × (part_after p bytes ≡ r.part)
unfolding fed part_after
at_end p bytes i s r h =
    let none : drop i bytes ≡ [] = drop_all i bytes h in
    (sym (r.answer ∙ ap (λ (xs : List ℕ). further i (fed r.part xs)) none), r.ends ∙ ap (part_after r.part) none)

pub reached_end : (p : Part) (bytes : List ℕ) (i : ℕ) (s : Progress) → Reached p bytes i s → length bytes ≤ i → (More ≡ fed p bytes) × Shows (part_after p bytes) s
reached_end p bytes i s r h = let e = at_end p bytes i s r h in (e.0, subst (λ (q : Part). Shows q s) (sym e.1) r.shows)
