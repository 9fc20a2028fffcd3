-- All files that an act takes, and those of them that are for a domain.
use Rattle.std.proofs.Common.{◌≡◌, ◌<◌, ◌+◌, ◌∙◌, ◌∷◌, ◌++◌, [], ℕ, Bool, true, false, cond, filter, List, length, None, Option, Some, take, refl, sym, ap, subst}
use Rattle.std.specs.List.{AllByRecursion}
use Rattle.std.specs.Option.{option_map_or}
use Rattle.std.specs.Prelude.{codes, slice_index_or}
use Rattle.std.proofs.lemmas.List.{take_more}
use Rattle.q_model.specs.Book.{Book, message_of}
use Rattle.q_model.specs.FilesStand.{Stands}
use Rattle.q_model.specs.Message.{Message}
use Rattle.q_model.specs.Places.{is_active}
use Rattle.q_model.specs.SpoolFiles.{Files}
use Rattle.q_model.specs.ToolSteps.{is_tool_move, may_steps}
use Rattle.q_model.proofs.EachLaws.{each-append, each-same}
use Rattle.q_laws.proofs.Distinct.{distinct_named}
use Rattle.q_laws.proofs.Members.{in_filtered}
use Rattle.q_model.specs.declared.rows.Place.TheVariants as places
use Rattle.q_super.specs.declared.acts.Act.{Act}
use Rattle.q_super.specs.declared.acts.Act.TheVariants as acts
use Rattle.q_super.specs.declared.standing.Standing.{Standing}
use Rattle.q_super.specs.Acts.{goal_of, takes, word_of}
use Rattle.q_super.specs.Deeds.{all_deeds, flush_deeds, flushed, is_file_for, is_for, steps_in}
use Rattle.q_super.specs.Moves.{AreThere, MayMove, stands_there}
use Rattle.q_super.specs.Names.{AreSources}
use Rattle.q_super.specs.Finding.{IsSource}
use Rattle.q_super.specs.Plays.{IsAtRest}
use Rattle.q_super.specs.Standings.{taken}
use Rattle.q_super.proofs.MaySteps.{moves_may, takes_moves}
use Rattle.q_super.proofs.Taken.{each_in, in_each, taken_from, taken_there}

-- ---- which may move

pub sources_move : (act : Act) (files : List Standing) → AreSources act files → AllByRecursion (λ from. MayMove from (goal_of act)) files
sources_move act files each = each-same (λ (s : Standing). IsSource act s.id s.place) (λ from. MayMove from (goal_of act)) files (λ s k. record { form = k.form; place = k.fits; allowed = takes_moves act s.place k.from }) each

goal_resting : (act : Act) → (act ≡ acts.Expire → ⊥) → is_active (goal_of act) ≡ false
goal_resting acts.Hold other = refl
goal_resting acts.Release other = refl
goal_resting acts.Requeue other = refl
goal_resting acts.Expire other = absurd (other refl)

-- a list of which some were left out
pub each_filtered : {A : Type 0} (P : A → Type 0) (p : A → Bool) (xs : List A) → AllByRecursion P xs → AllByRecursion P (filter p xs)
each_filtered P p xs each = each_in P (filter p xs) (λ x k. in_each P xs x each (in_filtered p x xs k).0)

pub there_filtered : (b : Book) (p : Standing → Bool) (files : List Standing) → AreThere b files → AreThere b (filter p files)
there_filtered b p files h = record {
  there = each_filtered (λ s. stands_there b s ≡ true) p files h.there;
  apart = distinct_named (λ (s : Standing). s.id) p files h.apart;
}

module _ (f : Files) (b : Book) (h : Stands f b) (rest : IsAtRest b) where
  -- the steps of an act on all
  pub all_may : (act : Act) → (act ≡ acts.Expire → ⊥) → may_steps b (steps_in (all_deeds act b)) ≡ true
  all_may act other = moves_may (word_of act) (goal_of act) (taken act b) b (goal_resting act other) rest.unpaired
      (each-same (λ (s : Standing). takes act s.place ≡ true) (λ s. is_tool_move s.place (goal_of act) ≡ true) (taken act b) (λ s k. takes_moves act s.place k) (taken_from f b h act)) (taken_there f b h act)

  pub flushed_there : (domain : List ℕ) → AreThere b (flushed domain b)
  flushed_there domain = there_filtered b (is_file_for domain b) (taken acts.Requeue b) (taken_there f b h acts.Requeue)

  pub flush_may : (domain : List ℕ) → may_steps b (steps_in (flush_deeds domain b)) ≡ true
  flush_may domain = moves_may (codes "flush") places.Incoming (flushed domain b) b refl rest.unpaired
      (each_filtered (λ s. is_tool_move s.place (goal_of acts.Requeue) ≡ true) (is_file_for domain b) (taken acts.Requeue b)
      (each-same (λ (s : Standing). takes acts.Requeue s.place ≡ true) (λ s. is_tool_move s.place (goal_of acts.Requeue) ≡ true) (taken acts.Requeue b) (λ s k. takes_moves acts.Requeue s.place k) (taken_from f b h acts.Requeue)))
      (flushed_there domain)

-- ---- which are for a domain

pub for_message : (domain : List ℕ) (b : Book) (s : Standing) (m : Message) → message_of b s.id ≡ Some m → is_file_for domain b s ≡ is_for domain m
for_message domain b s m found = ap (λ (o : Option Message). option_map_or (is_for domain) o false) found

pub for_none : (domain : List ℕ) (b : Book) (s : Standing) → message_of b s.id ≡ None → is_file_for domain b s ≡ false
for_none domain b s none = ap (λ (o : Option Message). option_map_or (is_for domain) o false) none

filter_end : {A : Type 0} (p : A → Bool) (xs : List A) (x : A) → filter p (xs ++ x ∷ []) ≡ filter p xs ++ cond (p x) (x ∷ []) []
filter_end p [] x = refl
filter_end p (y ∷ ys) x = by (p y) (filter_end p ys x)
  where
    by : (t : Bool) → filter p (ys ++ x ∷ []) ≡ filter p ys ++ cond (p x) (x ∷ []) [] → cond t (y ∷ filter p (ys ++ x ∷ [])) (filter p (ys ++ x ∷ [])) ≡ cond t (y ∷ filter p ys) (filter p ys) ++ cond (p x) (x ∷ []) []
    by true e = ap (λ zs. y ∷ zs) e
    by false e = e

module _ {A : Type 0} (p : A → Bool) (xs : List A) (i : ℕ) (x : A) (within : i < length xs) (is : x ≡ slice_index_or xs i x) (old new : List A) (before : old ≡ filter p (take i xs)) where
  more : (t : Bool) → p x ≡ t → filter p (take (i + 1) xs) ≡ old ++ cond t (x ∷ []) []
  more t e = ap (filter p) (take_more xs i x within ∙ ap (λ z. take i xs ++ z ∷ []) (sym is)) ∙ filter_end p (take i xs) x
      ∙ ap (λ zs. zs ++ cond (p x) (x ∷ []) []) (sym before) ∙ ap (λ s. old ++ cond s (x ∷ []) []) e

  pub selected_next : (t : Bool) → t ≡ p x → new ≡ old ++ cond t (x ∷ []) [] → new ≡ filter p (take (i + 1) xs)
  selected_next t e added = added ∙ sym (more t (sym e))

pub sources_next : (act : Act) (s : Standing) (t : Bool) (old new : List Standing) → IsSource act s.id s.place → new ≡ old ++ cond t (s ∷ []) [] → AreSources act old → AreSources act new
sources_next act s t old new is added before = subst (AreSources act) (sym added) (each-append (λ (x : Standing). IsSource act x.id x.place) old (cond t (s ∷ []) []) before (one t))
  where
    one : (b : Bool) → AreSources act (cond b (s ∷ []) [])
    one true = (is, tt)
    one false = tt
