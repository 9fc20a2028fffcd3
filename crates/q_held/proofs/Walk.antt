-- A walk along the rows to a site, whose numbers are marked or not as it comes by them.
use Rattle.std.proofs.Common.{◌≡◌, ◌∙◌, ◌∷◌, ◌++◌, ◌<◌, [], ap, arith, Bool, cond, false, get_or, length, List, map, None, Option, option_map, refl, set, Some, subst, sym, true, ℕ}
use Rattle.std.proofs.lemmas.Bool.{eq-eqb, eqb-true}
use Rattle.std.proofs.lemmas.List.{append_assoc, get_or-set_same, map-append}
use Rattle.std.specs.Option.{is_some}
use Rattle.std.specs.Prelude.{◌==◌, find}
use Rattle.q_chains.specs.Lists.{is_in}
use Rattle.q_model.proofs.IdLaws.{site_eq-true}
use Rattle.q_model.specs.declared.rows.Row.{Row}
use Rattle.q_model.specs.Values.{Site}
use Rattle.q_chains.proofs.Numbers.{other_test, own_test}
use Rattle.q_peers.proofs.Peers.{next_behind}
use Rattle.q_peers.proofs.Rests.{next_rest, rest}
use Rattle.q_peers.specs.Numbered.{AreApart, first_such, has_number, is_at, next_such, Numbered, row_at}
use Rattle.q_held.specs.Held.{held_at, HeldRow, numbered, plain}
use Rattle.q_held.specs.Sound.{numbers_of, with_mark, with_marks}
use Rattle.q_held.proofs.Changes.{lacks, other_mark}
use Rattle.q_held.proofs.Views.{in_numbers, plain_view}

abbrev pub turned : Site → Bool → List HeldRow → List HeldRow
turned site held hs = map (held_at site held) hs

-- the row of this number held back or not
abbrev put : ℕ → Bool → HeldRow → HeldRow
put n held h = cond (h.number == n) (record h { held = held }) h

-- the first row to the site, with those ahead of it, of which none goes there, and those behind it
record Split (site : Site) (held : Bool) (n : ℕ) (hs : List HeldRow) : Type 0 where
  pub ahead : List HeldRow
  pub found : HeldRow
  pub behind : List HeldRow
  pub all : hs ≡ ahead ++ found ∷ behind
  pub number : found.number ≡ n
  pub passes : is_at site found.row ≡ true
  pub same : turned site held ahead ≡ ahead

-- the rows that a walk has come by have changed, and those from the next one on haven't
pub record Walked (site : Site) (held : Bool) (hs : List HeldRow) (at : Option ℕ) (now : List HeldRow) : Type 0 where
  pub ahead : List HeldRow
  pub behind : List HeldRow
  pub all : hs ≡ ahead ++ behind
  pub next : at ≡ first_such (is_at site) (plain behind)
  pub are : now ≡ turned site held ahead ++ behind

-- which row is found
module _ (site : Site) (held : Bool) where
  other_stays : (h : HeldRow) → is_at site h.row ≡ false → held_at site held h ≡ h
  other_stays h e = ap (λ t. cond t (record h { held = held }) h) e

  own_turns : (h : HeldRow) → is_at site h.row ≡ true → held_at site held h ≡ record h { held = held }
  own_turns h e = ap (λ t. cond t (record h { held = held }) h) e

  split_step : (n : ℕ) (h : HeldRow) (hs : List HeldRow) (t : Bool) → is_at site h.row ≡ t →
      option_map (λ (k : Numbered). k.number) (cond t (Some (numbered h)) (find (λ k. is_at site k.row) (plain hs))) ≡ Some n →
      (first_such (is_at site) (plain hs) ≡ Some n → Split site held n hs) → Split site held n (h ∷ hs)
  split_step n h hs true e is rest = record {
    ahead = [];
    found = h;
    behind = hs;
    all = refl;
    number = cc;
    passes = e;
    same = refl;
  }
  split_step n h hs false e is rest =
      let s = rest is in
      record {
        ahead = h ∷ s.ahead;
        found = s.found;
        behind = s.behind;
        all = ap (λ l. h ∷ l) s.all;
        number = s.number;
        passes = s.passes;
        same = ap (λ x. x ∷ turned site held s.ahead) (other_stays h e) ∙ ap (λ l. h ∷ l) s.same;
      }

  split : (n : ℕ) (hs : List HeldRow) → first_such (is_at site) (plain hs) ≡ Some n → Split site held n hs
  split n [] is = cc
  split n (h ∷ hs) is = split_step n h hs (is_at site h.row) refl is (split n hs)

  none_step : (h : HeldRow) (hs : List HeldRow) (t : Bool) → is_at site h.row ≡ t →
      option_map (λ (k : Numbered). k.number) (cond t (Some (numbered h)) (find (λ k. is_at site k.row) (plain hs))) ≡ None →
      (first_such (is_at site) (plain hs) ≡ None → turned site held hs ≡ hs) → turned site held (h ∷ hs) ≡ h ∷ hs
  none_step h hs true e is rest = cc
  none_step h hs false e is rest = ap (λ x. x ∷ turned site held hs) (other_stays h e) ∙ ap (λ l. h ∷ l) (rest is)

  none_turned : (hs : List HeldRow) → first_such (is_at site) (plain hs) ≡ None → turned site held hs ≡ hs
  none_turned [] is = refl
  none_turned (h ∷ hs) is = none_step h hs (is_at site h.row) refl is (none_turned hs)

  pub begins : (at : Option ℕ) (hs : List HeldRow) (ks : List Numbered) → plain hs ≡ ks → at ≡ first_such (is_at site) ks → Walked site held hs at hs
  begins at hs ks same is = record {
    ahead = [];
    behind = hs;
    all = refl;
    next = is ∙ ap (first_such (is_at site)) (sym same);
    are = refl;
  }

  pub ends : (at : Option ℕ) (hs now : List HeldRow) → Walked site held hs at now → at ≡ None → now ≡ turned site held hs
  ends at hs now w none =
      w.are
      ∙ ap (λ l. turned site held w.ahead ++ l) (sym (none_turned w.behind (sym w.next ∙ none)))
      ∙ sym (map-append (held_at site held) w.ahead w.behind)
      ∙ ap (turned site held) (sym w.all)

-- one number among others
put_same_step : (n : ℕ) (b : Bool) (marks : List Bool) (k : Numbered) (t : Bool) → (k.number == n) ≡ t → n < length marks →
    with_mark (set marks n b) k ≡ cond t (record { number = k.number; row = k.row; held = b }) (with_mark marks k)
put_same_step n b marks k true e below =
    ap (λ c. record { number = k.number; row = k.row; held = c }) (ap (λ m. get_or (set marks n b) m false) (eqb-true k.number n e) ∙ get_or-set_same marks n b false below)
put_same_step n b marks k false e below = other_mark n b marks k e

put_view : (n : ℕ) (b : Bool) (marks : List Bool) (ks : List Numbered) → n < length marks → with_marks (set marks n b) ks ≡ map (put n b) (with_marks marks ks)
put_view n b marks [] below = refl
put_view n b marks (k ∷ ks) below =
    ap (λ x. x ∷ with_marks (set marks n b) ks) (put_same_step n b marks k (k.number == n) refl below)
    ∙ ap (λ l. put n b (with_mark marks k) ∷ l) (put_view n b marks ks below)

put_other : (n : ℕ) (b : Bool) (h : HeldRow) → (h.number == n) ≡ false → put n b h ≡ h
put_other n b h e = ap (λ t. cond t (record h { held = b }) h) e

put_none : (n : ℕ) (b : Bool) (hs : List HeldRow) → find (has_number n) (plain hs) ≡ None → map (put n b) hs ≡ hs
put_none n b [] none = refl
put_none n b (h ∷ hs) none =
    let parts = lacks n (numbered h) (plain hs) none in
    ap (λ x. x ∷ map (put n b) hs) (put_other n b h parts.0) ∙ ap (λ l. h ∷ l) (put_none n b hs parts.1)

ahead_other : (n : ℕ) (h : HeldRow) (xs ys : List HeldRow) → find (has_number n) (plain (xs ++ h ∷ ys)) ≡ None → (n == h.number) ≡ false
ahead_other n h [] ys none =
    let parts = lacks n (numbered h) (plain ys) none in
    other_test n h.number (λ e. let own : (h.number == n) ≡ true = eq-eqb h.number n (sym e) in let other : (h.number == n) ≡ false = parts.0 in cc)
ahead_other n h (x ∷ xs) ys none = ahead_other n h xs ys (lacks n (numbered x) (plain (xs ++ h ∷ ys)) none).1

put_one : (b : Bool) (h : HeldRow) (xs ys : List HeldRow) → AreApart (plain (xs ++ h ∷ ys)) → map (put h.number b) (xs ++ h ∷ ys) ≡ xs ++ record h { held = b } ∷ ys
put_one b h [] ys apart =
    ap (λ t. cond t (record h { held = b }) h ∷ map (put h.number b) ys) (own_test h.number)
    ∙ ap (λ l. record h { held = b } ∷ l) (put_none h.number b ys apart.0)
put_one b h (x ∷ xs) ys apart =
    ap (λ l. l ∷ map (put h.number b) (xs ++ h ∷ ys)) (put_other h.number b x (ahead_other x.number h xs ys apart.0))
    ∙ ap (λ l. x ∷ l) (put_one b h xs ys apart.1)

pub found_here : (h : HeldRow) (xs ys : List HeldRow) → AreApart (plain (xs ++ h ∷ ys)) → find (has_number h.number) (plain (xs ++ h ∷ ys)) ≡ Some (numbered h)
found_here h [] ys apart = ap (λ t. cond t (Some (numbered h)) (find (has_number h.number) (plain ys))) (own_test h.number)
found_here h (x ∷ xs) ys apart =
    ap (λ t. cond t (Some (numbered x)) (find (has_number h.number) (plain (xs ++ h ∷ ys)))) (ahead_other x.number h xs ys apart.0)
    ∙ found_here h xs ys apart.1

-- One step of the walk, at the row of this number.
module _ (site : Site) (held : Bool) (ks : List Numbered) (old marks : List Bool) (at next : Option ℕ) (n : ℕ) (apart : AreApart ks)
    (walked : Walked site held (with_marks old ks) at (with_marks marks ks)) (here : at ≡ Some n) (is : next ≡ next_such (λ r. is_at r.site) n ks) where
  at_hand : Split site held n walked.behind
  at_hand = split site held n walked.behind (sym walked.next ∙ here)

  abbrev before : List HeldRow
  before = walked.ahead ++ at_hand.ahead

  all_are : with_marks old ks ≡ walked.ahead ++ at_hand.ahead ++ at_hand.found ∷ at_hand.behind
  all_are =
      walked.all ∙ ap (λ l. walked.ahead ++ l) at_hand.all
      ∙ sym (append_assoc walked.ahead at_hand.ahead (at_hand.found ∷ at_hand.behind))

  -- the rows before the one at hand, as they are now
  abbrev turned_before : List HeldRow
  turned_before = turned site held walked.ahead ++ at_hand.ahead

  now_are : with_marks marks ks ≡ turned_before ++ at_hand.found ∷ at_hand.behind
  now_are =
      walked.are ∙ ap (λ l. turned site held walked.ahead ++ l) at_hand.all
      ∙ sym (append_assoc (turned site held walked.ahead) at_hand.ahead (at_hand.found ∷ at_hand.behind))

  apart_view : (ms : List Bool) (hs : List HeldRow) → with_marks ms ks ≡ hs → AreApart (plain hs)
  apart_view ms hs e = subst (λ l. AreApart (plain l)) e (subst AreApart (sym (plain_view ms ks)) apart)

  apart_all : AreApart (plain (before ++ at_hand.found ∷ at_hand.behind))
  apart_all = apart_view old (before ++ at_hand.found ∷ at_hand.behind) all_are

  same_site : is_at at_hand.found.row.site ≡ is_at site
  same_site = ap is_at (site_eq-true at_hand.found.row.site site at_hand.passes)

  next_is : next ≡ first_such (is_at site) (plain at_hand.behind)
  next_is =
      let like : Row → Row → Bool = λ r. is_at r.site in
      let parts = map-append numbered before (at_hand.found ∷ at_hand.behind) in
      is ∙ ap (next_such like n) (sym (plain_view old ks) ∙ ap plain all_are ∙ parts)
      ∙ ap (λ m. next_such like m (plain before ++ numbered at_hand.found ∷ plain at_hand.behind)) (sym at_hand.number)
      ∙ next_behind like (plain before) (numbered at_hand.found) (plain at_hand.behind) (subst AreApart parts apart_all)
      ∙ ap (λ p. first_such p (plain at_hand.behind)) same_site

  found_at : find (has_number n) ks ≡ Some (numbered at_hand.found)
  found_at =
      ap (find (has_number n)) (sym (plain_view old ks) ∙ ap plain all_are)
      ∙ ap (λ m. find (has_number m) (plain (before ++ at_hand.found ∷ at_hand.behind))) (sym at_hand.number)
      ∙ found_here at_hand.found before at_hand.behind apart_all

  pub stands : is_in n (numbers_of ks) ≡ true
  stands = in_numbers n ks ∙ ap is_some found_at

  pub shorter : length (rest (is_at site) next ks) < length (rest (is_at site) at ks)
  shorter =
      let like : Row → Row → Bool = λ r. is_at r.site in
      let at_row : row_at n ks ≡ Some at_hand.found.row = ap (λ o. option_map (λ (k : Numbered). k.row) o) found_at in
      let one = ap (λ o. length (rest (is_at site) o ks)) here ∙ ap length (next_rest (is_at site) like n at_hand.found.row ks apart at_hand.passes same_site at_row) in
      let left = ap (λ o. length (rest (is_at site) o ks)) is in
      omega (arith, one, left)

  pub goes_on : n < length marks → Walked site held (with_marks old ks) next (with_marks (set marks n held) ks)
  goes_on below =
      let f = held_at site held in
      record {
        ahead = before ++ at_hand.found ∷ [];
        behind = at_hand.behind;
        all = all_are ∙ sym (append_assoc before (at_hand.found ∷ []) at_hand.behind);
        next = next_is;
        are =
            put_view n held marks ks below
            ∙ ap (map (put n held)) now_are
            ∙ ap (λ m. map (put m held) (turned_before ++ at_hand.found ∷ at_hand.behind)) (sym at_hand.number)
            ∙ put_one held at_hand.found turned_before at_hand.behind (apart_view marks (turned_before ++ at_hand.found ∷ at_hand.behind) now_are)
            ∙ ap (λ l. l ++ record at_hand.found { held = held } ∷ at_hand.behind)
            (ap (λ l. turned site held walked.ahead ++ l) (sym at_hand.same) ∙ sym (map-append f walked.ahead at_hand.ahead))
            ∙ ap (λ x. turned site held before ++ x ∷ at_hand.behind) (sym (own_turns site held at_hand.found at_hand.passes))
            ∙ sym (append_assoc (turned site held before) (f at_hand.found ∷ []) at_hand.behind)
            ∙ ap (λ l. l ++ at_hand.behind) (sym (map-append f before (at_hand.found ∷ [])));
      }
