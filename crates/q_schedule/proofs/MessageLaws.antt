-- Messages in memory, each found by its id.
use Rattle.std.proofs.Common.{◌≡◌, ◌∙◌, ◌∷◌, [], ap, Bool, cond, false, length, List, None, Option, option_map, refl, Some, suc, sym, true}
use Rattle.std.specs.List.{AllByRecursion}
use Rattle.std.specs.Prelude.{find}
use Rattle.q_jobs.proofs.LineWalks.{flipped}
use Rattle.q_keyed.proofs.Values.{NonePass, none_passes}
use Rattle.q_keyed.specs.Numbered.{AreKeysApart, Numbered, values_of}
use Rattle.q_model.proofs.IdLaws.{id_eq-refl}
use Rattle.q_model.specs.declared.id.Id.{Id}
use Rattle.q_model.specs.Ids.{id_eq}
use Rattle.q_schedule.specs.declared.ranked.Ranked.{Ranked}
use Rattle.q_schedule.specs.Schedule.{AreApart, is_message}
use Rattle.q_schedule.specs.Sound.{is_ranked, messages_of}

abbrev id_of : Ranked → Id
id_of r = r.message.id

message_step : (id : Id) (r : Ranked) (rs : List Ranked) (b : Bool) → cond b (Some r.message) (option_map (λ (q : Ranked). q.message) (find (is_ranked id) rs)) ≡ option_map (λ (q : Ranked). q.message) (cond b (Some r) (find (is_ranked id) rs))
message_step id r rs true = refl
message_step id r rs false = refl

pub find_message : (id : Id) (rs : List Ranked) → find (is_message id) (messages_of rs) ≡ option_map (λ (r : Ranked). r.message) (find (is_ranked id) rs)
find_message id [] = refl
find_message id (r ∷ rs) = ap (cond (is_ranked id r) (Some r.message)) (find_message id rs) ∙ message_step id r rs (is_ranked id r)

none_step : (id : Id) (rs : List Ranked) (o : Option Ranked) → find (is_ranked id) rs ≡ o → option_map (λ (r : Ranked). r.message) o ≡ None → find (is_ranked id) rs ≡ None
none_step id rs None is h = is
none_step id rs (Some r) is h = absurd cc

pub none_ranked : (id : Id) (rs : List Ranked) → find (is_message id) (messages_of rs) ≡ None → find (is_ranked id) rs ≡ None
none_ranked id rs h = none_step id rs (find (is_ranked id) rs) refl (sym (find_message id rs) ∙ h)

pub none_message : (id : Id) (rs : List Ranked) → find (is_ranked id) rs ≡ None → find (is_message id) (messages_of rs) ≡ None
none_message id rs h = find_message id rs ∙ ap (option_map (λ (r : Ranked). r.message)) h

-- no two have one id
pub apart_messages : (ks : List (Numbered Ranked)) → AreKeysApart id_eq id_of ks → AreApart (messages_of (values_of ks))
apart_messages [] h = tt
apart_messages (k ∷ ks) h =
    (find_message k.item.message.id (values_of ks) ∙ ap (option_map (λ (r : Ranked). r.message)) (nowhere (is_ranked k.item.message.id) (values_of ks) (none_passes (is_ranked k.item.message.id) ks h.0)), apart_messages ks h.1)
  where
    nowhere_step : (p : Ranked → Bool) (r : Ranked) (o : Option Ranked) (b : Bool) → p r ≡ b → p r ≡ false → o ≡ None → cond b (Some r) o ≡ None
    nowhere_step p r o true is fails rest = absurd cc
    nowhere_step p r o false is fails rest = rest

    nowhere : (p : Ranked → Bool) (rs : List Ranked) → NonePass p rs → find p rs ≡ None
    nowhere p [] h = refl
    nowhere p (r ∷ rs) h = nowhere_step p r (find p rs) (p r) refl h.0 (nowhere p rs h.1)

behind : (k : Ranked) (all rs : List Ranked) → NonePass (is_ranked k.message.id) rs → AllByRecursion (λ q. find (is_ranked q.message.id) all ≡ Some q) rs → AllByRecursion (λ q. find (is_ranked q.message.id) (k ∷ all) ≡ Some q) rs
behind k all [] h found = tt
behind k all (q ∷ rs) h found =
    (ap (λ b. cond b (Some k) (find (is_ranked q.message.id) all)) (flipped k.message.id q.message.id ∙ h.0) ∙ found.0, behind k all rs h.1 found.1)

-- each is found by its id
pub all_found : (ks : List (Numbered Ranked)) → AreKeysApart id_eq id_of ks → AllByRecursion (λ q. find (is_ranked q.message.id) (values_of ks) ≡ Some q) (values_of ks)
all_found [] h = tt
all_found (k ∷ ks) h =
    (ap (λ b. cond b (Some k.item) (find (is_ranked k.item.message.id) (values_of ks))) (id_eq-refl k.item.message.id), behind k.item (values_of ks) (values_of ks) (none_passes (is_ranked k.item.message.id) ks h.0) (all_found ks h.1))

pub count_same : (ks : List (Numbered Ranked)) → length (messages_of (values_of ks)) ≡ length ks
count_same [] = refl
count_same (k ∷ ks) = ap suc (count_same ks)
