-- The counts that are kept of a message's rows, as lists change.
use Rattle.std.proofs.Common.{◌≡◌, Bool, cond, false, List, [], ◌∷◌, ◌++◌, map, refl, Some, true, ℕ}
use Rattle.std.specs.Prelude.{filter, find, not}
use Rattle.q_core.specs.Ties.{AreCounted, count_of, kept_of, message_of}
use Rattle.q_core.proofs.NameLaws.{id_eq-same, id_eq-true}
use Rattle.q_core.proofs.Tallies.{tally_goes, tally_mapped, tally_more, tally_set}
use Rattle.q_model.specs.declared.id.Id.{Id}
use Rattle.q_model.specs.Ids.{id_eq}
use Rattle.q_pool.specs.Kept.{counted_at, is_of, kept_at}
use Rattle.q_pool.specs.declared.kept.Kept.{Kept}
use Rattle.q_pool.specs.declared.slot.Slot.{Slot}

-- the counts of one message follow its list
pub tie_set : {X : Type 0} (g : Kept → ℕ) (name : X → Id) (ks : List Kept) (xs ys : List X) (id : Id) (w f u : ℕ) (found : Kept) → AreCounted g name ks xs → find (is_of id) ks ≡ Some found →
    g (record found { waiting = w; flying = f; unsettled = u }) ≡ count_of name id ys → ((y : Id) → id_eq id y ≡ false → count_of name y ys ≡ count_of name y xs) → AreCounted g name (map (counted_at id w f u) ks) ys
tie_set g name ks xs ys id w f u found tie there own others =
    tally_set id_eq message_of id_eq-true id_eq-same g id (λ k. record k { waiting = w; flying = f; unsettled = u }) (λ k. refl) name ks xs ys found tie there own others

at_step : (f : Slot → Slot) (s : Slot) → ((s : Slot) → (f s).id ≡ s.id) → (b : Bool) → (cond b (f s) s).id ≡ s.id
at_step f s same true = same s
at_step f s same false = refl

-- a change of slots leaves the counts
pub tie_kept : {X : Type 0} (g : Kept → ℕ) (name : X → Id) (ks : List Kept) (xs : List X) (id : Id) (f : Slot → Slot) → ((s : Slot) → (f s).id ≡ s.id) → ((k : Kept) (s : Slot) → g (record k { slot = s }) ≡ g k) → AreCounted g name ks xs → AreCounted g name (map (kept_at id f) ks) xs
tie_kept g name ks xs id f same free tie =
    tally_mapped id_eq message_of id_eq-true id_eq-same g (kept_at id f) (λ k. at_step f k.slot same (id_eq k.slot.id id)) (λ k. free k (cond (id_eq k.slot.id id) (f k.slot) k.slot)) name ks xs tie

-- a message comes without a row
pub tie_more : {X : Type 0} (g : Kept → ℕ) (name : X → Id) (ks : List Kept) (xs : List X) (new : Kept) → g new ≡ 0 → AreCounted g name ks xs → AreCounted g name (ks ++ new ∷ []) xs
tie_more g name ks xs new h tie = tally_more id_eq message_of id_eq-true id_eq-same g name ks xs new h tie

-- a message without rows goes
pub tie_left : {X : Type 0} (g : Kept → ℕ) (name : X → Id) (ks : List Kept) (xs : List X) (id : Id) → AreCounted g name ks xs → kept_of g ks id ≡ 0 → AreCounted g name (filter (λ k. not (is_of id k)) ks) xs
tie_left g name ks xs id tie h = tally_goes id_eq message_of id_eq-true id_eq-same g name ks xs id tie h
