-- An act with the messages of several ids, one behind another.
use Rattle.std.proofs.Common.{◌≡◌, ◌<◌, ◌≤◌, ◌+◌, ◌∙◌, ◌||◌, ◌∷◌, ◌++◌, [], ℕ, Bool, true, false, not, List, length, take, take_all, drop, refl, sym, ap, subst, append-nil, append_assoc}
use Rattle.std.specs.Prelude.{slice_index_or}
use Rattle.std.proofs.lemmas.Bool.{and_from, and_parts}
use Rattle.std.proofs.lemmas.List.{take-append-drop, take_more}
use Rattle.q_model.specs.declared.id.Id.{Id}
use Rattle.q_model.specs.Book.{all_ids, Book}
use Rattle.q_model.specs.Ids.{are_distinct}
use Rattle.q_model.specs.Lists.{has_none}
use Rattle.q_model.specs.ToolSteps.{after_step, after_steps, fails, is_unpaired, may_step, may_steps, moves, ToolStep}
use Rattle.q_lives.proofs.ToolSteps.{steps_orderly}
use Rattle.q_restart.specs.Places.{IdMap}
use Rattle.q_host.specs.View.{View}
use Rattle.q_host.specs.declared.error.HostError.{HostError}
use Rattle.q_super.specs.declared.acts.Act.{Act}
use Rattle.q_super.specs.Deeds.{Deed, deeds_of, steps_in}
use Rattle.q_super.specs.EachDeeds.{each_deeds, lacks_any}
use Rattle.q_super.specs.FoundPlaces.{Finds}
use Rattle.q_super.specs.Plays.{after_deeds, HaltsDeeds, IsAtRest, PlaysDeeds}
use Rattle.q_super.proofs.MaySteps.{deeds_may, unpaired_failed, unpaired_moved}
use Rattle.q_super.proofs.Playing.{after_deeds-append, halts_behind, halts_more, plays_then, steps_in-append}
use Rattle.q_super.proofs.ToldMoves.{drop_at}

-- ---- some ids behind others

or_assoc : (a b c : Bool) → ((a || b) || c) ≡ (a || (b || c))
or_assoc true b c = refl
or_assoc false b c = refl

pub deeds_append : (act : Act) (ids more : List Id) (b : Book) → each_deeds act (ids ++ more) b ≡ each_deeds act ids b ++ each_deeds act more (after_deeds b (each_deeds act ids b))
deeds_append act [] more b = refl
deeds_append act (id ∷ ids) more b =
    let ds = deeds_of act id b in
    let k = after_deeds b ds in
    let es = each_deeds act ids k in
    ap (λ (xs : List Deed). ds ++ xs) (deeds_append act ids more k)
    ∙ sym (append_assoc ds es (each_deeds act more (after_deeds k es)))
    ∙ ap (λ (c : Book). (ds ++ es) ++ each_deeds act more c) (sym (after_deeds-append b ds es))

pub lacks_append : (act : Act) (ids more : List Id) (b : Book) → lacks_any act (ids ++ more) b ≡ (lacks_any act ids b || lacks_any act more (after_deeds b (each_deeds act ids b)))
lacks_append act [] more b = refl
lacks_append act (id ∷ ids) more b =
    let ds = deeds_of act id b in
    let k = after_deeds b ds in
    let es = each_deeds act ids k in
    ap (λ (t : Bool). has_none ds || t) (lacks_append act ids more k)
    ∙ sym (or_assoc (has_none ds) (lacks_any act ids k) (lacks_any act more (after_deeds k es)))
    ∙ ap (λ (c : Book). (has_none ds || lacks_any act ids k) || lacks_any act more c) (sym (after_deeds-append b ds es))

-- ---- the steps may be done, and leave the book at rest

unpaired_step : (b : Book) (s : ToolStep) → is_unpaired b ≡ true → is_unpaired (after_step b s) ≡ true
unpaired_step b (moves id place) h = unpaired_moved b id place h
unpaired_step b (fails id position) h = unpaired_failed b id position h

unpaired_steps : (ss : List ToolStep) (b : Book) → is_unpaired b ≡ true → is_unpaired (after_steps b ss) ≡ true
unpaired_steps [] b h = h
unpaired_steps (s ∷ ss) b h = unpaired_steps ss (after_step b s) (unpaired_step b s h)

may_append : (ss ts : List ToolStep) (b : Book) → may_steps b ss ≡ true → may_steps (after_steps b ss) ts ≡ true → may_steps b (ss ++ ts) ≡ true
may_append [] ts b h k = k
may_append (s ∷ ss) ts b h k =
    let two = and_parts (may_step b s) (may_steps (after_step b s) ss) h in
    and_from (may_step b s) (may_steps (after_step b s) (ss ++ ts)) two.0 (may_append ss ts (after_step b s) two.1 k)

pub each_may : (act : Act) (ids : List Id) (b : Book) → is_unpaired b ≡ true → may_steps b (steps_in (each_deeds act ids b)) ≡ true
each_may act [] b unpaired = refl
each_may act (id ∷ ids) b unpaired =
    let ds = deeds_of act id b in
    let es = each_deeds act ids (after_deeds b ds) in
    ap (may_steps b) (steps_in-append ds es)
    ∙ may_append (steps_in ds) (steps_in es) b (deeds_may act b id unpaired) (each_may act ids (after_deeds b ds) (unpaired_steps (steps_in ds) b unpaired))

pub rest_behind : (b : Book) (ds : List Deed) → are_distinct (all_ids b) ≡ true → IsAtRest b → may_steps b (steps_in ds) ≡ true → IsAtRest (after_deeds b ds)
rest_behind b ds distinct rest may = record {
  orderly = (steps_orderly b (steps_in ds) (record { distinct = distinct; orderly = rest.orderly }) may).orderly;
  unpaired = unpaired_steps (steps_in ds) b rest.unpaired;
}

-- ---- the loop over the ids

-- the first of these ids had their turn
pub record FrontDone (b : Book) (act : Act) (ids : List Id) (i : ℕ) (lacks : Bool) (places : IdMap) (u v : View) : Type 0 where
  pub lacks_is : lacks ≡ lacks_any act (take i ids) b
  pub plays : PlaysDeeds b (each_deeds act (take i ids) b) u v
  pub finds : Finds act (after_deeds b (each_deeds act (take i ids) b)) places

pub front_none : (b : Book) (act : Act) (ids : List Id) (places : IdMap) (u v : View) → PlaysDeeds b [] u v → Finds act b places → FrontDone b act ids 0 false places u v
front_none b act ids places u v plays finds = record { lacks_is = refl; plays = plays; finds = finds }

module _ (b : Book) (act : Act) (ids : List Id) (i : ℕ) (id : Id) (within : i < length ids) (is : id ≡ slice_index_or ids i id) (lacks : Bool) (places : IdMap) (u v : View) (front : FrontDone b act ids i lacks places u v) where
  abbrev pub before : List Deed
  before = each_deeds act (take i ids) b

  abbrev pub book_then : Book
  book_then = after_deeds b before

  abbrev deeds : List Deed
  deeds = deeds_of act id book_then

  pub rest_then : are_distinct (all_ids b) ≡ true → IsAtRest b → IsAtRest book_then
  rest_then distinct rest = rest_behind b before distinct rest (each_may act (take i ids) b rest.unpaired)

  one_more : take (i + 1) ids ≡ take i ids ++ id ∷ []
  one_more = take_more ids i id within ∙ ap (λ (x : Id). take i ids ++ x ∷ []) (sym is)

  deeds_more : each_deeds act (take (i + 1) ids) b ≡ before ++ deeds
  deeds_more = ap (λ (xs : List Id). each_deeds act xs b) one_more ∙ deeds_append act (take i ids) (id ∷ []) b ∙ ap (λ (xs : List Deed). before ++ xs) (append-nil deeds)

  or_none : (s t : Bool) → (s || (t || false)) ≡ (s || t)
  or_none s true = refl
  or_none s false = refl

  not_not : (t : Bool) → not (not t) ≡ t
  not_not true = refl
  not_not false = refl

  lacks_more : (done next : Bool) → next ≡ (lacks || not done) → done ≡ not (has_none deeds) → next ≡ lacks_any act (take (i + 1) ids) b
  lacks_more done next is_next counts = is_next
      ∙ ap (λ (t : Bool). lacks || not t) counts ∙ ap (λ (t : Bool). lacks || t) (not_not (has_none deeds))
      ∙ ap (λ (t : Bool). t || has_none deeds) front.lacks_is
      ∙ sym (or_none (lacks_any act (take i ids) b) (has_none deeds))
      ∙ sym (ap (λ (xs : List Id). lacks_any act xs b) one_more ∙ lacks_append act (take i ids) (id ∷ []) b)

  pub front_more : (done next : Bool) (left : IdMap) (w : View) → next ≡ (lacks || not done) → (done ≡ not (has_none deeds)) × PlaysDeeds book_then deeds v w → Finds act (after_deeds book_then deeds) left → FrontDone b act ids (i + 1) next left u w
  front_more done next left w is_next both finds = record {
    lacks_is = lacks_more done next is_next both.0;
    plays = subst (λ (ds : List Deed). PlaysDeeds b ds u w) (sym deeds_more) (plays_then b before deeds u v w front.plays both.1);
    finds = subst (λ (k : Book). Finds act k left) (sym (ap (after_deeds b) deeds_more ∙ after_deeds-append b before deeds)) finds;
  }

  abbrev behind : List Deed
  behind = each_deeds act (drop (i + 1) ids) (after_deeds book_then deeds)

  all_of : each_deeds act ids b ≡ before ++ (deeds ++ behind)
  all_of = ap (λ (xs : List Id). each_deeds act xs b) (sym (take-append-drop i ids) ∙ ap (λ (xs : List Id). take i ids ++ xs) (drop_at ids i id within is))
      ∙ deeds_append act (take i ids) (id ∷ drop (i + 1) ids) b

  pub front_halts : (error : HostError) (w : View) → HaltsDeeds book_then deeds error v w → HaltsDeeds b (each_deeds act ids b) error u w
  front_halts error w q = subst (λ (ds : List Deed). HaltsDeeds b ds error u w) (sym all_of)
      (halts_behind b before (deeds ++ behind) error u v w front.plays (halts_more book_then deeds behind error v w q))

pub front_all : (b : Book) (act : Act) (ids : List Id) (i : ℕ) (lacks : Bool) (places : IdMap) (u v : View) → length ids ≤ i → FrontDone b act ids i lacks places u v → (lacks ≡ lacks_any act ids b) × PlaysDeeds b (each_deeds act ids b) u v
front_all b act ids i lacks places u v whole front =
    let all = take_all i ids whole in
    (front.lacks_is ∙ ap (λ (xs : List Id). lacks_any act xs b) all, subst (λ (xs : List Id). PlaysDeeds b (each_deeds act xs b) u v) all front.plays)

-- what would be given past the end of ids
abbrev pub no_id : Id
no_id = record { generation = 0; serial = 0; bounce = false }
