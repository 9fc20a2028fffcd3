-- What is known of other messages stays, and ranks rise, as one comes, is read or goes.
use Rattle.std.proofs.Common.{◌≡◌, ◌∙◌, ◌∷◌, ◌++◌, ◌+◌, ◌<◌, [], ap, arith, Bool, cond, false, List, None, not, Option, option_map, refl, Some, subst, sym, true, ℕ}
use Rattle.std.specs.List.{AllByRecursion}
use Rattle.std.specs.Prelude.{filter, find, map}
use Rattle.q_keyed.proofs.Values.{changed_where}
use Rattle.q_model.proofs.IdLaws.{id_eq-true}
use Rattle.q_model.specs.declared.id.Id.{Id}
use Rattle.q_model.specs.Ids.{id_eq}
use Rattle.q_schedule.specs.declared.ranked.Ranked.{Ranked}
use Rattle.q_schedule.specs.Schedule.{is_another, read_to}
use Rattle.q_schedule.specs.Sound.{AreRanked, facts_at, facts_of, is_ranked, messages_of}

module _ (id i : Id) (other : id_eq id i ≡ false) where
  find_more : (r : Ranked) → r.message.id ≡ id → (rs : List Ranked) → find (is_ranked i) (rs ++ r ∷ []) ≡ find (is_ranked i) rs
  find_more r own [] = ap (λ b. cond b (Some r) None) (ap (λ x. id_eq x i) own ∙ other)
  find_more r own (q ∷ rs) = ap (cond (is_ranked i q) (Some q)) (find_more r own rs)

  pub facts_more : (r : Ranked) → r.message.id ≡ id → (rs : List Ranked) → facts_at (rs ++ r ∷ []) i ≡ facts_at rs i
  facts_more r own rs = ap (option_map facts_of) (find_more r own rs)

  changed_step : (f : Ranked → Ranked) (q : Ranked) (o : Option Ranked) (b : Bool) → is_ranked id q ≡ b → (f q).message.id ≡ q.message.id → cond (is_ranked i (cond b (f q) q)) (Some (cond b (f q) q)) o ≡ cond (is_ranked i q) (Some q) o
  changed_step f q o true is keeps =
      let its = id_eq-true q.message.id id is in
      ap (λ b. cond b (Some (f q)) o) (ap (λ x. id_eq x i) (keeps ∙ its) ∙ other) ∙ sym (ap (λ b. cond b (Some q) o) (ap (λ x. id_eq x i) its ∙ other))
  changed_step f q o false is keeps = refl

  find_changed : (f : Ranked → Ranked) → ((q : Ranked) → (f q).message.id ≡ q.message.id) → (rs : List Ranked) → find (is_ranked i) (map (changed_where (is_ranked id) f) rs) ≡ find (is_ranked i) rs
  find_changed f keeps [] = refl
  find_changed f keeps (q ∷ rs) =
      changed_step f q (find (is_ranked i) (map (changed_where (is_ranked id) f) rs)) (is_ranked id q) refl (keeps q) ∙ ap (cond (is_ranked i q) (Some q)) (find_changed f keeps rs)

  pub facts_changed : (f : Ranked → Ranked) → ((q : Ranked) → (f q).message.id ≡ q.message.id) → (rs : List Ranked) → facts_at (map (changed_where (is_ranked id) f) rs) i ≡ facts_at rs i
  facts_changed f keeps rs = ap (option_map facts_of) (find_changed f keeps rs)

  left_step : (q : Ranked) (rs : List Ranked) (b : Bool) → is_ranked id q ≡ b → find (is_ranked i) (cond (not b) (q ∷ rs) rs) ≡ cond (is_ranked i q) (Some q) (find (is_ranked i) rs)
  left_step q rs true is = sym (ap (λ b. cond b (Some q) (find (is_ranked i) rs)) (ap (λ x. id_eq x i) (id_eq-true q.message.id id is) ∙ other))
  left_step q rs false is = refl

  find_left : (rs : List Ranked) → find (is_ranked i) (filter (λ r. not (is_ranked id r)) rs) ≡ find (is_ranked i) rs
  find_left [] = refl
  find_left (q ∷ rs) = left_step q (filter (λ r. not (is_ranked id r)) rs) (is_ranked id q) refl ∙ ap (cond (is_ranked i q) (Some q)) (find_left rs)

  pub facts_left : (rs : List Ranked) → facts_at (filter (λ r. not (is_ranked id r)) rs) i ≡ facts_at rs i
  facts_left rs = ap (option_map facts_of) (find_left rs)

-- Ranks.
all_more : (P : Ranked → Type 0) (r : Ranked) (rs : List Ranked) → AllByRecursion P rs → P r → AllByRecursion P (rs ++ r ∷ [])
all_more P r [] all own = (own, tt)
all_more P r (q ∷ rs) all own = (all.0, all_more P r rs all.1 own)

pub ranked_more : (next : ℕ) (r : Ranked) → r.rank ≡ next → (rs : List Ranked) → AreRanked next rs → AreRanked (next + 1) (rs ++ r ∷ [])
ranked_more next r is [] ranked = (omega (arith, is), tt, tt)
ranked_more next r is (q ∷ rs) ranked =
    (omega (arith, ranked.0), all_more (λ x. q.rank < x.rank) r rs ranked.1 (omega (arith, is, ranked.0)), ranked_more next r is rs ranked.2)

module _ (id : Id) (f : Ranked → Ranked) (keeps : (q : Ranked) → (f q).rank ≡ q.rank) where
  rank_step : (q : Ranked) (b : Bool) → (cond b (f q) q).rank ≡ q.rank
  rank_step q true = keeps q
  rank_step q false = refl

  all_changed : (low : ℕ) (rs : List Ranked) → AllByRecursion (λ x. low < x.rank) rs → AllByRecursion (λ x. low < x.rank) (map (changed_where (is_ranked id) f) rs)
  all_changed low [] all = tt
  all_changed low (q ∷ rs) all = (omega (arith, all.0, rank_step q (is_ranked id q)), all_changed low rs all.1)

  pub ranked_changed : (next : ℕ) (rs : List Ranked) → AreRanked next rs → AreRanked next (map (changed_where (is_ranked id) f) rs)
  ranked_changed next [] ranked = tt
  ranked_changed next (q ∷ rs) ranked =
      let same = rank_step q (is_ranked id q) in
      (omega (arith, ranked.0, same), subst (λ n. AllByRecursion (λ x. n < x.rank) (map (changed_where (is_ranked id) f) rs)) (sym same) (all_changed q.rank rs ranked.1), ranked_changed next rs ranked.2)

left_all : (P : Ranked → Type 0) (id : Id) (q : Ranked) (rs : List Ranked) (b : Bool) → P q → AllByRecursion P rs → AllByRecursion P (cond b (q ∷ rs) rs)
left_all P id q rs true own rest = (own, rest)
left_all P id q rs false own rest = rest

all_left : (P : Ranked → Type 0) (id : Id) (rs : List Ranked) → AllByRecursion P rs → AllByRecursion P (filter (λ r. not (is_ranked id r)) rs)
all_left P id [] all = tt
all_left P id (q ∷ rs) all = left_all P id q (filter (λ r. not (is_ranked id r)) rs) (not (is_ranked id q)) all.0 (all_left P id rs all.1)

left_ranked : (next : ℕ) (q : Ranked) (rs : List Ranked) (b : Bool) → q.rank < next → AllByRecursion (λ x. q.rank < x.rank) rs → AreRanked next rs → AreRanked next (cond b (q ∷ rs) rs)
left_ranked next q rs true low all rest = (low, all, rest)
left_ranked next q rs false low all rest = rest

pub ranked_left : (next : ℕ) (id : Id) (rs : List Ranked) → AreRanked next rs → AreRanked next (filter (λ r. not (is_ranked id r)) rs)
ranked_left next id [] ranked = tt
ranked_left next id (q ∷ rs) ranked =
    left_ranked next q (filter (λ r. not (is_ranked id r)) rs) (not (is_ranked id q)) ranked.0 (all_left (λ x. q.rank < x.rank) id rs ranked.1) (ranked_left next id rs ranked.2)

-- what a contract sees
pub messages_more : (r : Ranked) (rs : List Ranked) → messages_of (rs ++ r ∷ []) ≡ messages_of rs ++ r.message ∷ []
messages_more r [] = refl
messages_more r (q ∷ rs) = ap (λ ms. q.message ∷ ms) (messages_more r rs)

abbrev pub with_unread : ℕ → Ranked → Ranked
with_unread unread r = record r { message = record r.message { unread = unread } }

read_step : (id : Id) (unread : ℕ) (q : Ranked) (b : Bool) → (cond b (with_unread unread q) q).message ≡ cond b (record q.message { unread = unread }) q.message
read_step id unread q true = refl
read_step id unread q false = refl

pub messages_read : (id : Id) (unread : ℕ) (rs : List Ranked) → messages_of (map (changed_where (is_ranked id) (with_unread unread)) rs) ≡ map (read_to id unread) (messages_of rs)
messages_read id unread [] = refl
messages_read id unread (q ∷ rs) =
    ap (λ m. m ∷ messages_of (map (changed_where (is_ranked id) (with_unread unread)) rs)) (read_step id unread q (is_ranked id q)) ∙ ap (λ ms. read_to id unread q.message ∷ ms) (messages_read id unread rs)

kept_step : (q : Ranked) (rs : List Ranked) (b : Bool) → messages_of (cond b (q ∷ rs) rs) ≡ cond b (q.message ∷ messages_of rs) (messages_of rs)
kept_step q rs true = refl
kept_step q rs false = refl

pub messages_left : (id : Id) (rs : List Ranked) → messages_of (filter (λ r. not (is_ranked id r)) rs) ≡ filter (is_another id) (messages_of rs)
messages_left id [] = refl
messages_left id (q ∷ rs) =
    kept_step q (filter (λ r. not (is_ranked id r)) rs) (not (is_ranked id q))
    ∙ ap (λ ms. cond (not (is_ranked id q)) (q.message ∷ ms) ms) (messages_left id rs)
