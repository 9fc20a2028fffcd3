-- Files have one text of all that is wrong with them.
use Rattle.std.proofs.Common.{◌≡◌, ◌++◌, ◌∙◌, ℕ, List, Option, None, Some, inl, inr, refl, sym, ap, subst}
use Rattle.std.specs.Cmp.Lexicographic.{nat_list_cmp_total, slice_cmp}
use Rattle.std.specs.Ordering.{nat_cmp}
use Rattle.q_model.specs.declared.spot.Area.{Area}
use Rattle.q_model.specs.declared.spot.Area.TheVariants.{Corrupt}
use Rattle.q_model.specs.SpoolFiles.{Files}
use Rattle.q_restart.specs.Walks.{AreAllNames}
use Rattle.q_restart.proofs.Lists.{sorted_same}
use Rattle.q_model.specs.Values.{Spot}
use Rattle.q_restart.proofs.OneSight.{one-damage}
use Rattle.q_check.specs.Checks.{conf_text, IsCheckText, IsFilesText, queues, text_of_damage}
use Rattle.q_check.specs.Lines.{file_line, refusal}
use Rattle.q_check.specs.SpoolDamages.{IsDamageIn}
use Rattle.q_check.specs.QueueTexts.{AreTexts, IsFileText, IsQueueText}
use Rattle.q_check.specs.declared.queues.Look.{Look}
use Rattle.q_check.specs.declared.queues.Look.TheVariants.{Damaged, PassedOver}
use Rattle.q_check.proofs.TextLists.{texts-one}

one_names : (f : Files) (area : Area) (xs ys : List (List ℕ)) → AreAllNames (f area) xs → AreAllNames (f area) ys → xs ≡ ys
one_names f area xs ys hx hy = sorted_same (slice_cmp nat_cmp) nat_list_cmp_total xs ys hx.sorted hy.sorted (λ n k. hy.all n (hx.there n k)) (λ n k. hx.all n (hy.there n k))

one_file : (look : Look) (area : Area) (name s t : List ℕ) → IsFileText look area name s → IsFileText look area name t → s ≡ t
one_file look area name s t (inl hs) (inl ht) = hs.1 ∙ sym ht.1
one_file look area name s t (inl hs) (inr ht) = absurd (ht.0 hs.0)
one_file look area name s t (inr hs) (inl ht) = absurd (hs.0 ht.0)
one_file look area name s t (inr hs) (inr ht) = hs.1 ∙ sym ht.1

one_queue : (f : Files) (look : Look) (area : Area) (s t : List ℕ) → IsQueueText f look area s → IsQueueText f look area t → s ≡ t
one_queue f look area s t hs ht =
    let same = one_names f area hs.names ht.names hs.listed ht.listed in
    texts-one (IsFileText look area) (one_file look area) ht.names s t (subst (λ (ns : List (List ℕ)). AreTexts (IsFileText look area) ns s) same hs.texts) ht.texts

one_damage : (f : Files) (x y : Option Spot) → IsDamageIn f x → IsDamageIn f y → text_of_damage x ≡ text_of_damage y
one_damage f None None hx hy = refl
one_damage f None (Some y) hx hy = absurd (hx y.area y.name hy)
one_damage f (Some x) None hx hy = absurd (hy x.area x.name hx)
one_damage f (Some x) (Some y) hx hy =
    let same = one-damage f x.area y.area x.name y.name hx hy in
    ap (λ (a : Area). file_line a x.name refusal) same.0 ∙ ap (λ (n : List ℕ). file_line y.area n refusal) same.1

one_files : (f : Files) (x y : Option Spot) (s t : List ℕ) → IsFilesText f x s → IsFilesText f y t → s ≡ t
one_files f x y s t hs ht =
    let passed = texts-one (IsQueueText f PassedOver) (one_queue f PassedOver) queues hs.passed ht.passed hs.are_passed ht.are_passed in
    let damaged = one_queue f Damaged Corrupt hs.damaged ht.damaged hs.are_damaged ht.are_damaged in
    let damage = one_damage f x y hs.is_damage ht.is_damage in
    hs.whole ∙ ap (λ (a : List ℕ). a ++ hs.damaged ++ text_of_damage x) passed ∙ ap (λ (b : List ℕ). ht.passed ++ b ++ text_of_damage x) damaged
    ∙ ap (λ (c : List ℕ). ht.passed ++ ht.damaged ++ c) damage ∙ sym ht.whole

pub one_check : (f : Files) (s t : List ℕ) → IsCheckText f s → IsCheckText f t → s ≡ t
one_check f s t hs ht = hs.whole ∙ ap (λ (a : List ℕ). conf_text f ++ a) (one_files f hs.damage ht.damage hs.files ht.files hs.are_files ht.are_files) ∙ sym ht.whole
