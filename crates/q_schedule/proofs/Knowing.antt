-- What is known of the messages, kept under numbers.
use Rattle.std.proofs.Common.{◌≡◌, ◌∷◌, ◌++◌, ◌<◌, ◌^◌, [], ap, Bool, cond, false, List, map, not, refl, Some, true, ℕ}
use Rattle.std.specs.List.{AllByRecursion}
use Rattle.std.specs.Prelude.{filter}
use Rattle.q_keyed.proofs.Values.{changed_where, left_values, one_under, put_values}
use Rattle.q_keyed.specs.Numbered.{AreApart, AreKeysApart, first_such, item_at, Numbered, put_at, values_of, without_number}
use Rattle.q_model.proofs.IdLaws.{id_eq-true}
use Rattle.q_model.specs.declared.id.Id.{Id}
use Rattle.q_model.specs.Ids.{id_eq}
use Rattle.q_schedule.specs.declared.ranked.Ranked.{Ranked}
use Rattle.q_schedule.specs.Sound.{is_ranked, messages_of}

abbrev key_of : Ranked → Id
key_of r = r.message.id

module _ (id : Id) (n : ℕ) (ks : List (Numbered Ranked)) (apart : AreApart ks) (keys : AreKeysApart id_eq key_of ks) (there : first_such (is_ranked id) ks ≡ Some n) where
  -- another takes its place
  pub put_known : (f : Ranked → Ranked) (y x : Ranked) → item_at n ks ≡ Some y → x ≡ f y → values_of (map (put_at n x) ks) ≡ map (changed_where (is_ranked id) f) (values_of ks)
  put_known f y x item is = put_values (is_ranked id) f n y x ks apart (one_under id_eq key_of id_eq-true id ks keys) there item is

  -- it goes
  pub left_known : values_of (without_number n ks) ≡ filter (λ r. not (is_ranked id r)) (values_of ks)
  left_known = left_values (is_ranked id) n ks apart (one_under id_eq key_of id_eq-true id ks keys) there

-- few recipients are unread
abbrev pub AreFew : List Ranked → Type 0
AreFew rs = AllByRecursion (λ r. r.message.unread < 2 ^ 32) rs

pub few_more : (r : Ranked) (rs : List Ranked) → AreFew rs → r.message.unread < 2 ^ 32 → AreFew (rs ++ r ∷ [])
few_more r [] few own = (own, tt)
few_more r (q ∷ rs) few own = (few.0, few_more r rs few.1 own)

few_step : (f : Ranked → Ranked) (q : Ranked) (b : Bool) → q.message.unread < 2 ^ 32 → (f q).message.unread < 2 ^ 32 → (cond b (f q) q).message.unread < 2 ^ 32
few_step f q true own its = its
few_step f q false own its = own

pub few_changed : (id : Id) (f : Ranked → Ranked) → ((q : Ranked) → q.message.unread < 2 ^ 32 → (f q).message.unread < 2 ^ 32) → (rs : List Ranked) → AreFew rs → AreFew (map (changed_where (is_ranked id) f) rs)
few_changed id f low [] few = tt
few_changed id f low (q ∷ rs) few = (few_step f q (is_ranked id q) few.0 (low q few.0), few_changed id f low rs few.1)

left_few : (q : Ranked) (rs : List Ranked) (b : Bool) → q.message.unread < 2 ^ 32 → AreFew rs → AreFew (cond b (q ∷ rs) rs)
left_few q rs true own rest = (own, rest)
left_few q rs false own rest = rest

pub few_left : (id : Id) (rs : List Ranked) → AreFew rs → AreFew (filter (λ r. not (is_ranked id r)) rs)
few_left id [] few = tt
few_left id (q ∷ rs) few = left_few q (filter (λ r. not (is_ranked id r)) rs) (not (is_ranked id q)) few.0 (few_left id rs few.1)

pub few_messages : (rs : List Ranked) → AreFew rs → AllByRecursion (λ m. m.unread < 2 ^ 32) (messages_of rs)
few_messages [] few = tt
few_messages (q ∷ rs) few = (few.0, few_messages rs few.1)

pub few_from : (rs : List Ranked) → AllByRecursion (λ m. m.unread < 2 ^ 32) (messages_of rs) → AreFew rs
few_from [] few = tt
few_from (q ∷ rs) few = (few.0, few_from rs few.1)

-- one more
pub values_more : (ks : List (Numbered Ranked)) (k : Numbered Ranked) → values_of (ks ++ k ∷ []) ≡ values_of ks ++ k.item ∷ []
values_more [] k = refl
values_more (x ∷ ks) k = ap (λ rs. x.item ∷ rs) (values_more ks k)
