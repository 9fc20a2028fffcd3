-- What the words of an argument say, as they are read one behind another.
use Rattle.std.proofs.Common.{◌≡◌, ◌++◌, ℕ, List, [], ◌∷◌, Bool, false, Option, Some, None, Result, Ok, map, ap, sym, refl, ◌∙◌, append_assoc, append-nil, option_map, option_and_then, is_some, drop, length, ◌+◌, ◌<◌, true≢false, ◌||◌, ◌&&◌, ◌==◌, suc, arith}
use Rattle.std.specs.Borrow.{Bor}
use Rattle.std.specs.List.{list_all, list_any}
use Rattle.std.specs.Option.{IfSome}
use Rattle.std.specs.Prelude.{bytes_eq, codes, slice_index_or, unwrap_or}
use Rattle.std.proofs.Math.Seq.{drop-cons}
use Rattle.std.specs.Str.Parse.{ParsesUnsigned}
use Rattle.clap.specs.Matches.{ReadsOne}
use Rattle.clap.specs.Words.{one_of, Row, Text}
use Rattle.q_model.specs.Lists.{has_none}
use Rattle.q_numbers.specs.Pieces.{each_some}
use Rattle.q_words.specs.Requests.{IsNumber, queues_of}

-- the texts behind words
abbrev pub texts : List (Bor Text) → List Text
texts = map (λ w. w.now)

pub any-seen : (p : Text → Bool) (ws : List (Bor Text)) → list_any p (texts ws) ≡ list_any (λ w. p w.now) ws
any-seen p [] = refl
any-seen p (w ∷ ws) = ap (λ b. p w.now || b) (any-seen p ws)

pub all-seen : (p : Text → Bool) (ws : List (Bor Text)) → list_all p (texts ws) ≡ list_all (λ w. p w.now) ws
all-seen p [] = refl
all-seen p (w ∷ ws) = ap (λ b. p w.now && b) (all-seen p ws)

pub some-words : (ws : List (Bor Text)) → (length ws == 0) ≡ false → has_none (texts ws) ≡ false
some-words [] h = absurd (true≢false h)
some-words (w ∷ ws) h = refl

-- the queues that words name
pub named : (ws : List (Bor Text)) → has_none (texts ws) ≡ false
    → record {
      incoming = list_any (λ w. bytes_eq (codes "incoming") w.now) ws;
      active = list_any (λ w. bytes_eq (codes "active") w.now) ws;
      deferred = list_any (λ w. bytes_eq (codes "deferred") w.now) ws;
      hold = list_any (λ w. bytes_eq (codes "hold") w.now) ws;
    } ≡ queues_of (texts ws)
named [] some = absurd (true≢false some)
named (w ∷ ws) some = λ i. record {
  incoming = sym (any-seen (bytes_eq (codes "incoming")) (w ∷ ws)) i;
  active = sym (any-seen (bytes_eq (codes "active")) (w ∷ ws)) i;
  deferred = sym (any-seen (bytes_eq (codes "deferred")) (w ∷ ws)) i;
  hold = sym (any-seen (bytes_eq (codes "hold")) (w ∷ ws)) i;
}

-- ---- numbers

-- what `get_one` reads is the number of the word
some≢none : {X : Type 0} {x : X} → Some x ≡ None → ⊥
some≢none e = true≢false (ap is_some e)

pub number-of : {E : Type 0} (k : ℕ) (gives : Text → Result ℕ E → Type 0) → ((t : Text) (p : Result ℕ E) → gives t p → ParsesUnsigned k 10 t p)
    → (rows : List Row) (id : Text) (r : Option ℕ) → (one_of id rows ≡ None → r ≡ None) → ((t : Text) → one_of id rows ≡ Some t → ReadsOne gives t r) → IfSome r (IsNumber rows id)
number-of k gives parses rows id None none some = tt
number-of {E} k gives parses rows id (Some n) none some = by (one_of id rows) refl
  where
    by : (o : Option Text) → one_of id rows ≡ o → IsNumber rows id n
    by None e = let bad : Some n ≡ None = none e in absurd (some≢none bad)
    by (Some t) e = record { text = t; given = e; read = (parses t (Ok n) (some t e)).1 }

-- ---- addresses

module _ {A B : Type 0} (f : A → Option B) (all : Option (List B)) (done : List B) where
  pub each-more : (w : A) (ws : List A) (y : B) → all ≡ option_map (λ ys. done ++ ys) (each_some f (w ∷ ws)) → f w ≡ Some y → all ≡ option_map (λ ys. (done ++ y ∷ []) ++ ys) (each_some f ws)
  each-more w ws y before is = before ∙ ap (λ o. option_map (λ ys. done ++ ys) (option_and_then (λ z. option_map (λ ys. z ∷ ys) (each_some f ws)) o)) is ∙ by (each_some f ws)
    where
      by : (o : Option (List B)) → option_map (λ ys. done ++ ys) (option_map (λ ys. y ∷ ys) o) ≡ option_map (λ ys. (done ++ y ∷ []) ++ ys) o
      by None = refl
      by (Some ys) = ap Some (sym (append_assoc done (y ∷ []) ys))

  pub each-none : (w : A) (ws : List A) → all ≡ option_map (λ ys. done ++ ys) (each_some f (w ∷ ws)) → f w ≡ None → all ≡ None
  each-none w ws before is = before ∙ ap (λ o. option_map (λ ys. done ++ ys) (option_and_then (λ z. option_map (λ ys. z ∷ ys) (each_some f ws)) o)) is

  pub each-end : (ws : List A) → all ≡ option_map (λ ys. done ++ ys) (each_some f ws) → ws ≡ [] → all ≡ Some done
  each-end ws before none = before ∙ ap (λ xs. option_map (λ ys. done ++ ys) (each_some f xs)) none ∙ ap Some (append-nil done)

-- the words from a place on, of which the first is read
pub words-from : (ws : List (Bor Text)) (i : ℕ) (d : Bor Text) → i < length ws → texts (drop i ws) ≡ (slice_index_or ws i d).now ∷ texts (drop (i + 1) ws)
words-from ws i d within = let e : suc i ≡ i + 1 = omega arith in ap texts (drop-cons ws i d within) ∙ ap (λ j. (slice_index_or ws i d).now ∷ texts (drop j ws)) e

-- ---- what clap answers

pub words-some : (o : Option (Bor (List (Bor Text)))) (s : Bor (List (Bor Text))) (all : Option (List Text)) → o ≡ Some s → option_map (λ x. map (λ w. w.now) x.now) o ≡ all → texts s.now ≡ unwrap_or all []
words-some o s all is says = ap (λ x. unwrap_or (option_map (λ y. texts y.now) x) []) (sym is) ∙ ap (λ a. unwrap_or a []) says

pub words-none : (o : Option (Bor (List (Bor Text)))) (all : Option (List Text)) → o ≡ None → option_map (λ x. map (λ w. w.now) x.now) o ≡ all → [] ≡ unwrap_or all []
words-none o all is says = ap (λ x. unwrap_or (option_map (λ y. texts y.now) x) []) (sym is) ∙ ap (λ a. unwrap_or a []) says

pub first-some : {B : Type 0} (f : Text → Option B) (o : Option (Bor Text)) (w : Bor Text) (first : Option Text) → o ≡ Some w → option_map (λ x. x.now) o ≡ first → f w.now ≡ option_and_then f first
first-some f o w first is says = ap (λ x. option_and_then f (option_map (λ y. y.now) x)) (sym is) ∙ ap (option_and_then f) says

pub first-none : {B : Type 0} (f : Text → Option B) (o : Option (Bor Text)) (first : Option Text) → o ≡ None → option_map (λ x. x.now) o ≡ first → None ≡ option_and_then f first
first-none f o first is says = ap (λ x. option_and_then f (option_map (λ y. y.now) x)) (sym is) ∙ ap (option_and_then f) says
