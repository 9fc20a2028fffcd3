-- What stands in a queue, counted message by message.
use Rattle.std.proofs.Common.{◌≡◌, ◌∙◌, ◌++◌, ◌∷◌, [], List, None, Option, Some, ℕ, ap, append-nil, arith, length, length-append, map, refl, subst, sym}
use Rattle.std.specs.Option.{option_map_or}
use Rattle.std.specs.List.{cons_option}
use Rattle.std.specs.Prelude.{filter_map}
use Rattle.std.proofs.lemmas.List.{map-append}
use Rattle.std.proofs.lemmas.List.Elements.{filter_map-append}
use Rattle.std.proofs.lemmas.List.Sums.{sum_by-append}
use Rattle.q_listing.specs.Listings.{recipient_count}
use Rattle.q_model.specs.declared.rows.Place.{Place}
use Rattle.q_model.specs.FilesStand.{Stands}
use Rattle.q_model.specs.Book.{Book}
use Rattle.q_model.specs.Message.{Message, pending}
use Rattle.q_model.specs.Places.{due_of}
use Rattle.q_model.specs.SpoolFiles.{Files}
use Rattle.q_model.specs.Values.{FileHead}
use Rattle.q_model.specs.declared.queues.Queues.{Queues}
use Rattle.q_views.specs.declared.figures.Figures.{Figures}
use Rattle.q_views.specs.declared.figures.Tally.{Tally}
use Rattle.q_views.specs.Tallies.{active_alone, deferred_alone, earlier, earliest, figures_of, hold_alone, incoming_alone, tally_of, tally_with}
use Rattle.q_walk.proofs.Counts.{few_listed, few_recipients}
use Rattle.q_walk.specs.Counted.{counted}
use Rattle.q_walk.specs.declared.walk.Found.{Found}
use Rattle.q_walk.specs.Listed.{listed}
use Rattle.q_walk.specs.Walks.{IsFound}

-- ---- the earliest of moments, one more at the end

earlier_again : (t u : ℕ) (o : Option ℕ) → earlier (Some (earlier o u)) t ≡ earlier (Some (earlier o t)) u
earlier_again t u None = omega arith
earlier_again t u (Some k) = omega arith

pub earliest_more : (ts : List ℕ) (t : ℕ) → earliest (ts ++ t ∷ []) ≡ Some (earlier (earliest ts) t)
earliest_more [] t = refl
earliest_more (u ∷ us) t =
    ap (λ (o : Option ℕ). Some (earlier o u)) (earliest_more us t) ∙ ap Some (earlier_again u t (earliest us))

-- ---- messages

-- so much are these messages, as it is counted
pub record IsTallied (t : Tally) (ms : List Message) : Type 0 where
  pub messages : t.messages ≡ counted (length ms)
  pub recipients : t.recipients ≡ counted (recipient_count ms)
  pub oldest : t.oldest ≡ earliest (map (λ m. m.arrival) ms)
  pub due : t.due ≡ earliest (filter_map (λ m. due_of m.place) ms)

pub tallied_none : (t : Tally) → t ≡ tally_of [] → IsTallied t []
tallied_none t is = record {
  messages = ap (λ (x : Tally). x.messages) is;
  recipients = ap (λ (x : Tally). x.recipients) is;
  oldest = ap (λ (x : Tally). x.oldest) is;
  due = ap (λ (x : Tally). x.due) is;
}

due_more : (ts : List ℕ) (o : Option ℕ) → option_map_or (λ d. Some (earlier (earliest ts) d)) o (earliest ts) ≡ earliest (ts ++ cons_option o [])
due_more ts None = ap earliest (sym (append-nil ts))
due_more ts (Some d) = sym (earliest_more ts d)

-- one more is counted
pub tallied_more : (f : Files) (ms : List Message) (m : Message) (found : Found) (n : ℕ) (old new : Tally) → IsFound f m found → n ≡ length (pending m)
    → new ≡ tally_with old found.place found.head.head.arrival n → IsTallied old ms → IsTallied new (ms ++ m ∷ [])
tallied_more f ms m found n old new is count with_one t =
    let arrival : found.head.head.arrival ≡ m.arrival = ap (λ (h : FileHead). h.head.arrival) is.head in
    let one = ap (λ (x : Tally). x.messages) with_one in
    let sum = ap (λ (x : Tally). x.recipients) with_one in
    record {
      messages = omega (arith, one, t.messages, length-append ms (m ∷ []));
      recipients = omega (arith, sum, t.recipients, count, sum_by-append (λ (x : Message). length (pending x)) ms (m ∷ []));
      oldest = ap (λ (x : Tally). x.oldest) with_one ∙ ap (λ (a : ℕ). Some (earlier old.oldest a)) arrival
          ∙ ap (λ (o : Option ℕ). Some (earlier o m.arrival)) t.oldest ∙ sym (earliest_more (map (λ (x : Message). x.arrival) ms) m.arrival)
          ∙ ap earliest (sym (map-append (λ (x : Message). x.arrival) ms (m ∷ [])));
      due = ap (λ (x : Tally). x.due) with_one ∙ ap (λ (p : Place). option_map_or (λ d. Some (earlier old.due d)) (due_of p) old.due) is.place
          ∙ ap (λ (o : Option ℕ). option_map_or (λ d. Some (earlier o d)) (due_of m.place) o) t.due
          ∙ due_more (filter_map (λ (x : Message). due_of x.place) ms) (due_of m.place)
          ∙ ap earliest (sym (filter_map-append (λ (x : Message). due_of x.place) ms (m ∷ [])));
    }

abbrev tally_with_parts : ℕ → ℕ → Option ℕ → Option ℕ → Tally
tally_with_parts a b c d = record { messages = a; recipients = b; oldest = c; due = d }

-- of a book all counts are exact
pub tallied_all : (f : Files) (b : Book) (q : Queues) (t : Tally) → Stands f b → IsTallied t (listed q b) → t ≡ tally_of (listed q b)
tallied_all f b q t stands is =
    let ms = listed q b in
    let few = few_listed f b q stands in
    let fits = few_recipients f b q stands in
    let messages : t.messages ≡ length ms = omega (arith, is.messages, few) in
    let recipients : t.recipients ≡ recipient_count ms = omega (arith, is.recipients, fits) in
    parts t (tally_of ms) messages recipients is.oldest is.due
  where
    parts : (x y : Tally) → x.messages ≡ y.messages → x.recipients ≡ y.recipients → x.oldest ≡ y.oldest → x.due ≡ y.due → x ≡ y
    parts x y a b c d =
        ap (λ (n : ℕ). tally_with_parts n x.recipients x.oldest x.due) a ∙ ap (λ (n : ℕ). tally_with_parts y.messages n x.oldest x.due) b
        ∙ ap (λ (o : Option ℕ). tally_with_parts y.messages y.recipients o x.due) c ∙ ap (λ (o : Option ℕ). tally_with_parts y.messages y.recipients y.oldest o) d

-- ---- the figures of a book

abbrev figures_with : Tally → Tally → Tally → Tally → ℕ → Figures
figures_with i a d h g = record { incoming = i; active = a; deferred = d; hold = h; generation = g }

pub figures_whole : (b : Book) (i a d h : Tally) (g : ℕ) → i ≡ tally_of (listed incoming_alone b) → a ≡ tally_of (listed active_alone b) → d ≡ tally_of (listed deferred_alone b)
    → h ≡ tally_of (listed hold_alone b) → g ≡ b.generation → figures_with i a d h g ≡ figures_of b
figures_whole b i a d h g incoming active deferred hold generation =
    let w : Tally = tally_of (listed incoming_alone b) in
    let x : Tally = tally_of (listed active_alone b) in
    let y : Tally = tally_of (listed deferred_alone b) in
    let z : Tally = tally_of (listed hold_alone b) in
    ap (λ (t : Tally). figures_with t a d h g) incoming ∙ ap (λ (t : Tally). figures_with w t d h g) active ∙ ap (λ (t : Tally). figures_with w x t h g) deferred
    ∙ ap (λ (t : Tally). figures_with w x y t g) hold ∙ ap (λ (n : ℕ). figures_with w x y z n) generation

-- files that are the same stand for the same book
pub stands_still : (f h : Files) (b : Book) → h ≡ f → Stands f b → Stands h b
stands_still f h b same stands = subst (λ (x : Files). Stands x b) (sym same) stands
