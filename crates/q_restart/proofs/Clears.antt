-- Clearing away: what each call changes, and what is handled stays so.
use Rattle.std.proofs.Common.{◌≡◌, ◌≢◌, ◌⊎◌, ◌<◌, ◌≤◌, ◌+◌, ℕ, zero, suc, Bool, true, false, List, [], ◌∷◌, ◌++◌, length, take, drop, Option, Some, None, is_some, inl, inr, ⊎_elim, refl, sym, ap, subst, ◌∙◌}
use Rattle.std.specs.Cmp.Lexicographic.{nat_list_cmp_total, slice_cmp}
use Rattle.std.specs.List.{Contains}
use Rattle.std.specs.Option.{IsSome}
use Rattle.std.specs.Ordering.{nat_cmp}
use Rattle.std.specs.List.Sorted.{IsStrictlySortedBy}
use Rattle.std.specs.Prelude.{Err, Ok, OnErr, OnOk, Result, slice_index_or}
use Rattle.std.specs.declared.cmp.Ordering.TheVariants.{Less}
use Rattle.std.proofs.lemmas.List.{drop_more, take_more}
use Rattle.std.proofs.Math.ListN.{drop_of_length-le}
use Rattle.q_model.specs.declared.id.Id.{Id}
use Rattle.q_model.specs.declared.spot.Area.{Area}
use Rattle.q_model.specs.declared.spot.Area.TheVariants as areas
use Rattle.q_model.specs.IdTexts.{id_text, IsId}
use Rattle.q_model.specs.SpoolFiles.{Files}
use Rattle.q_model.proofs.IdLaws.{id_text-injective}
use Rattle.q_model.proofs.StandLaws.{true_false}
use Rattle.q_host.specs.Calls.{Changes, Stays, Syncs}
use Rattle.q_host.specs.Files.{same_place, SameNames, without_file}
use Rattle.q_host.specs.Steps.{SameBut}
use Rattle.q_host.specs.View.{now, Remains, Step, View}
use Rattle.q_host.proofs.Moments.{goes_again, goes_nowhere, goes_wider}
use Rattle.q_host.proofs.Puts.{other_area, put-here, put-other, same_place-refl, same_place-true}
use Rattle.q_restart.specs.Clearings.{AreHandled, ChangesTmp, Cleans, DropsStrays, GoesBy, IsClean, IsEmpty, IsHandled, IsSettled, IsStray}
use Rattle.q_restart.specs.Walks.{AreAllNames}
use Rattle.q_restart.proofs.Lists.{has_cases, has_head, has_none, has_tail, not_itself, sorted_first, sorted_rest}

-- ---- steps that may be taken again and again

module _ (R : Step) where
  pub by-here : ((x : Remains) → R x x) → (v : View) → GoesBy R v v
  by-here here v = record { reads = here (now v); goes = goes_nowhere R R v here }

  pub by-on : ((x y z : Remains) → R x y → R y z → R x z) → (u v w : View) → GoesBy R u v → GoesBy R v w → GoesBy R u w
  by-on chain u v w p q = record { reads = chain (now u) (now v) (now w) p.reads q.reads; goes = goes_again R p.goes q.goes chain (λ x y h. h) (λ x y h. h) }

  same_now : (v w : View) → w.files ≡ v.files → w.told ≡ v.told → now w ≡ now v
  same_now v w f t = ap (λ (x : Files). record { files = x; told = w.told }) f ∙ ap (λ (x : List ℕ). record { files = v.files; told = x }) t

  by_same : ((x : Remains) → R x x) → (x y : Remains) → y ≡ x → R x y
  by_same here x y e = subst (R x) (sym e) (here x)

  pub by-stays : ((x : Remains) → R x x) → (v w : View) → Stays v w → GoesBy R v w
  by-stays here v w s = record { reads = by_same here (now v) (now w) (same_now v w s.files s.told); goes = goes_wider R R s.goes (by_same here) (by_same here) }

  pub by-sync : ((x : Remains) → R x x) → (a : Area) (n : List ℕ) (v w : View) → Syncs a n v w → GoesBy R v w
  by-sync here a n v w s = record { reads = by_same here (now v) (now w) (same_now v w s.files s.told); goes = goes_wider R R s.goes (λ x y k. by_same here x y k.same) (by_same here) }

  pub by-change : (change : Files → Files) → ((d c : Remains) → c.files ≡ change d.files → c.told ≡ d.told → R d c) → (v w : View) → Changes change v w → GoesBy R v w
  by-change change step v w ch = record { reads = step (now v) (now w) ch.files ch.told; goes = goes_wider R R ch.goes (λ x y k. step x y k.0 k.1) (λ x y k. step x y k.0 k.1) }

  pub by-may : ((x : Remains) → R x x) → (change : Files → Files) → ((d c : Remains) → c.files ≡ change d.files → c.told ≡ d.told → R d c) → (v w : View) → Changes change v w ⊎ Stays v w → GoesBy R v w
  by-may here change step v w (inl ch) = by-change change step v w ch
  by-may here change step v w (inr s) = by-stays here v w s

pub by-wider : (R S : Step) → ((x y : Remains) → R x y → S x y) → (v w : View) → GoesBy R v w → GoesBy S v w
by-wider R S wider v w p = record { reads = wider (now v) (now w) p.reads; goes = goes_wider S S p.goes wider wider }

-- ---- places

pub other_name : (a : Area) (n m : List ℕ) → m ≢ n → same_place a n a m ≡ false
other_name a n m differ = by (same_place a n a m) refl
  where
    by : (t : Bool) → same_place a n a m ≡ t → t ≡ false
    by true e = absurd (differ (sym (same_place-true a n a m e).1))
    by false e = refl

none_of : {A : Type 0} (o : Option A) → is_some o ≡ false → o ≡ None
none_of None e = refl
none_of (Some x) e = cc

-- ---- tmp

pub tmp-here : (x : Remains) → ChangesTmp x x
tmp-here x = record { others = λ a n differ. refl; told = refl }

pub tmp-on : (x y z : Remains) → ChangesTmp x y → ChangesTmp y z → ChangesTmp x z
tmp-on x y z p q = record { others = λ a n differ. q.others a n differ ∙ p.others a n differ; told = q.told ∙ p.told }

pub tmp-remove : (n : List ℕ) (d c : Remains) → c.files ≡ without_file d.files areas.Tmp n → c.told ≡ d.told → ChangesTmp d c
tmp-remove n d c files told = record { others = λ a m differ. ap (λ (f : Files). f a m) files ∙ put-other d.files areas.Tmp n None a m (other_area areas.Tmp n a m differ); told = told }

-- the names that are left, when the first was removed
pub names-rest : (f g : Files) (a : Area) (n : List ℕ) (rest : List (List ℕ)) → g ≡ without_file f a n → AreAllNames (f a) (n ∷ rest) → AreAllNames (g a) rest
names-rest f g a n rest is h = subst (λ (x : Files). AreAllNames (x a) rest) (sym is) (record {
  sorted = sorted_rest (slice_cmp nat_cmp) nat_list_cmp_total n rest h.sorted;
  there = λ m k. subst (λ (o : Option (List ℕ)). IsSome o) (sym (put-other f a n None a m (other_name a n m (apart m k)))) (h.there m (has_tail n rest m k));
  all = λ m k. by m (same_place a n a m) refl k;
})
  where
    apart : (m : List ℕ) → Contains rest m → m ≢ n
    apart m k e = not_itself (slice_cmp nat_cmp) nat_list_cmp_total n (subst (λ (x : List ℕ). slice_cmp nat_cmp n x ≡ Less) e (sorted_first (slice_cmp nat_cmp) nat_list_cmp_total n rest m h.sorted k))

    no : IsSome {T = List ℕ} None → ⊥
    no k = cc

    by : (m : List ℕ) (t : Bool) → same_place a n a m ≡ t → IsSome (without_file f a n a m) → Contains rest m
    by m true e k = absurd (no (subst (λ (o : Option (List ℕ)). IsSome o) (ap (λ (x : List ℕ). without_file f a n a x) (sym (same_place-true a n a m e).1) ∙ put-here f a n None) k))
    by m false e k = ⊎_elim (λ (same : n ≡ m). absurd (true_false (same_place a n a m) (ap (same_place a n a) (sym same) ∙ same_place-refl a n) e)) (λ behind. behind)
        (has_cases n rest m (h.all m (subst (λ (o : Option (List ℕ)). IsSome o) (put-other f a n None a m e) k)))

pub names-none : (f : List ℕ → Option (List ℕ)) → AreAllNames f [] → (n : List ℕ) → f n ≡ None
names-none f h n = none_of (f n) (by (f n) refl)
  where
    by : (o : Option (List ℕ)) → f n ≡ o → is_some o ≡ false
    by None e = refl
    by (Some x) e = absurd (has_none n (h.all n (subst (λ (p : Option (List ℕ)). IsSome p) (sym e) refl)))

pub next_name : (names : List (List ℕ)) (i : ℕ) (n : List ℕ) → i < length names → n ≡ slice_index_or names i n → drop i names ≡ n ∷ drop (i + 1) names
next_name names i n within is = drop_more names i n within ∙ ap (λ (x : List ℕ). x ∷ drop (i + 1) names) (sym is)

pub more_names : (names : List (List ℕ)) (i : ℕ) (n : List ℕ) → i < length names → n ≡ slice_index_or names i n → take (i + 1) names ≡ take i names ++ n ∷ []
more_names names i n within is = take_more names i n within ∙ ap (λ (x : List ℕ). take i names ++ x ∷ []) (sym is)

pub no_names : (names : List (List ℕ)) (i : ℕ) → length names ≤ i → drop i names ≡ []
no_names names i whole = drop_of_length-le names whole

-- ---- logs

module _ (keeps : Id → Bool) where
  pub drops-here : (x : Remains) → DropsStrays keeps x x
  drops-here x = record { files = λ a n. inl refl; told = refl }

  pub drops-on : (x y z : Remains) → DropsStrays keeps x y → DropsStrays keeps y z → DropsStrays keeps x z
  drops-on x y z p q = record {
    files = λ a n. ⊎_elim (λ (second : z.files a n ≡ y.files a n). ⊎_elim (λ (first : y.files a n ≡ x.files a n). inl (second ∙ first)) (λ gone. inr (gone.0, second ∙ gone.1)) (p.files a n)) (λ gone. inr gone) (q.files a n);
    told = q.told ∙ p.told;
  }

  pub drops-remove : (a : Area) (n : List ℕ) → IsStray keeps a n → (d c : Remains) → c.files ≡ without_file d.files a n → c.told ≡ d.told → DropsStrays keeps d c
  drops-remove a n stray d c files told = record { files = λ b m. by b m (same_place a n b m) refl; told = told }
    where
      by : (b : Area) (m : List ℕ) (t : Bool) → same_place a n b m ≡ t → (c.files b m ≡ d.files b m) ⊎ (IsStray keeps b m × (c.files b m ≡ None))
      by b m true e =
          let same = same_place-true a n b m e in
          inr (
            subst (λ (x : Area). IsStray keeps x m) same.0 (subst (IsStray keeps a) same.1 stray),
            ap (λ (f : Files). f b m) files ∙ ap (λ (x : Area). without_file d.files a n x m) (sym same.0) ∙ ap (λ (x : List ℕ). without_file d.files a n a x) (sym same.1) ∙ put-here d.files a n None,
          )
      by b m false e = inl (ap (λ (f : Files). f b m) files ∙ put-other d.files a n None b m e)

  -- who is kept isn't stray
  pub kept-same : (a : Area) (id : Id) → IsId id → keeps id ≡ true → (d c : Remains) → DropsStrays keeps d c → c.files a (id_text id) ≡ d.files a (id_text id)
  kept-same a id hid kept d c drops = ⊎_elim (λ same. same)
      (λ gone. absurd (true_false (keeps id) kept (ap keeps (sym (id_text-injective gone.0.id id gone.0.form hid gone.0.name_is)) ∙ gone.0.gone))) (drops.files a (id_text id))

  pub none-same : (a : Area) (n : List ℕ) (d c : Remains) → DropsStrays keeps d c → d.files a n ≡ None → c.files a n ≡ None
  none-same a n d c drops none = ⊎_elim (λ (same : c.files a n ≡ d.files a n). same ∙ none) (λ gone. gone.1) (drops.files a n)

  -- what is handled stays so
  pub handled-on : (a : Area) (n : List ℕ) (v w : View) → GoesBy (DropsStrays keeps) v w → IsHandled keeps v a n → IsHandled keeps w a n
  handled-on a n v w by h = record {
    gone = λ id hid named gone. none-same a n (now v) (now w) by.reads (h.gone id hid named gone);
    settled = λ bounce id hid named kept c may.
        let from = by.goes.crash c may in
        subst (λ (x : List ℕ). c.files areas.Bounce x ≡ w.files areas.Bounce x) named
        (kept-same areas.Bounce id hid kept from.0 c from.2
        ∙ subst (λ (x : List ℕ). from.0.files areas.Bounce x ≡ v.files areas.Bounce x) (sym named) (h.settled bounce id hid named kept from.0 from.1)
        ∙ sym (kept-same areas.Bounce id hid kept (now v) (now w) by.reads));
  }

  pub handled-kept : (a : Area) (n : List ℕ) (id : Id) (w : View) → IsId id → id_text id ≡ n → keeps id ≡ true → (a ≡ areas.Bounce → IsSettled w n) → IsHandled keeps w a n
  handled-kept a n id w hid named kept settled = record {
    gone = λ other hother same gone. absurd (true_false (keeps id) kept (ap keeps (id_text-injective id other hid hother (named ∙ sym same)) ∙ gone));
    settled = λ bounce other hother same k. settled bounce;
  }

  pub handled-gone : (a : Area) (n : List ℕ) (id : Id) (w : View) → IsId id → id_text id ≡ n → keeps id ≡ false → w.files a n ≡ None → IsHandled keeps w a n
  handled-gone a n id w hid named gone none = record {
    gone = λ other hother same k. none;
    settled = λ bounce other hother same kept. absurd (true_false (keeps other) kept (ap keeps (sym (id_text-injective id other hid hother (named ∙ sym same))) ∙ gone));
  }

  pub handled-none : (a : Area) (n : List ℕ) (w : View) → ((c : Remains) → w.may_leave c → SameNames w.files c.files) → w.files a n ≡ None → IsHandled keeps w a n
  handled-none a n w stay none = record {
    gone = λ other hother same k. none;
    settled = λ bounce other hother same kept c may.
        let there : w.files areas.Bounce n ≡ None = ap (λ (x : Area). w.files x n) (sym bounce) ∙ none in
        none_of (c.files areas.Bounce n) (stay c may areas.Bounce n ∙ ap is_some there) ∙ sym there;
  }

  -- those that were listed, and those that weren't there
  pub all-handled : (a : Area) (names : List (List ℕ)) (v w : View) → ((c : Remains) → w.may_leave c → SameNames w.files c.files) → AreAllNames (v.files a) names → GoesBy (DropsStrays keeps) v w
      → ((n : List ℕ) → Contains names n → IsHandled keeps w a n) → AreHandled keeps w a
  all-handled a names v w stay listed by done n = at (v.files a n) refl
    where
      at : (o : Option (List ℕ)) → v.files a n ≡ o → IsHandled keeps w a n
      at None e = handled-none a n w stay (none-same a n (now v) (now w) by.reads e)
      at (Some x) e = done n (listed.all n (subst (λ (o : Option (List ℕ)). IsSome o) (sym e) refl))

  -- ---- all of it

  pub cleans-here : (x : Remains) → Cleans keeps x x
  cleans-here x = record { files = λ a n differ. inl refl; told = refl }

  pub cleans-on : (x y z : Remains) → Cleans keeps x y → Cleans keeps y z → Cleans keeps x z
  cleans-on x y z p q = record {
    files = λ a n differ. ⊎_elim (λ (second : z.files a n ≡ y.files a n). ⊎_elim (λ (first : y.files a n ≡ x.files a n). inl (second ∙ first)) (λ gone. inr (gone.0, second ∙ gone.1)) (p.files a n differ)) (λ gone. inr gone) (q.files a n differ);
    told = q.told ∙ p.told;
  }

  pub tmp-cleans : (x y : Remains) → ChangesTmp x y → Cleans keeps x y
  tmp-cleans x y h = record { files = λ a n differ. inl (h.others a n differ); told = h.told }

  pub drops-cleans : (x y : Remains) → DropsStrays keeps x y → Cleans keeps x y
  drops-cleans x y h = record { files = λ a n differ. h.files a n; told = h.told }

  pub cleans-all : (u v w x : View) → GoesBy ChangesTmp u v → GoesBy (DropsStrays keeps) v w → GoesBy (DropsStrays keeps) w x → GoesBy (Cleans keeps) u x
  cleans-all u v w x p q r =
      let first = by-wider ChangesTmp (Cleans keeps) tmp-cleans u v p in
      let second = by-wider (DropsStrays keeps) (Cleans keeps) drops-cleans v w q in
      let third = by-wider (DropsStrays keeps) (Cleans keeps) drops-cleans w x r in
      by-on (Cleans keeps) cleans-on u w x (by-on (Cleans keeps) cleans-on u v w first second) third

  pub is-clean : (v w x : View) → IsEmpty v.files areas.Tmp → GoesBy (DropsStrays keeps) v w → AreHandled keeps w areas.Bounce → GoesBy (DropsStrays keeps) w x → AreHandled keeps x areas.Defer → IsClean keeps x
  is-clean v w x empty q failures r notes = record {
    tmp = λ n. none-same areas.Tmp n (now w) (now x) r.reads (none-same areas.Tmp n (now v) (now w) q.reads (empty n));
    failures = λ n. handled-on areas.Bounce n w x r (failures n);
    notes = notes;
  }

-- ---- answers of calls

-- a call did what it was to do, or may have
pub done_or : {T E : Type 0} {C P Q : Type 0} (r : Result T E) → OnOk r (C → P) → OnErr r (C → P ⊎ Q) → C → P ⊎ Q
done_or (Ok v) ok err tells = inl (ok tells)
done_or (Err e) ok err tells = err tells

-- nothing else changed
pub others-remove : (a : Area) (n : List ℕ) (v w : View) → Changes (λ f. without_file f a n) v w ⊎ Stays v w → SameBut a n v.files w.files
others-remove a n v w (inl ch) b m apart = ap (λ (f : Files). f b m) ch.files ∙ put-other v.files a n None b m apart
others-remove a n v w (inr s) b m apart = ap (λ (f : Files). f b m) s.files

sorted_drop : (names : List (List ℕ)) (i : ℕ) → IsStrictlySortedBy (slice_cmp nat_cmp) names → IsStrictlySortedBy (slice_cmp nat_cmp) (drop i names)
sorted_drop names zero h = h
sorted_drop [] (suc i) h = h
sorted_drop (n ∷ names) (suc i) h = sorted_drop names i (sorted_rest (slice_cmp nat_cmp) nat_list_cmp_total n names h)

-- a name that comes later is another
pub later_apart : (names : List (List ℕ)) (i : ℕ) (n m : List ℕ) → i < length names → n ≡ slice_index_or names i n → IsStrictlySortedBy (slice_cmp nat_cmp) names → Contains (drop (i + 1) names) m → m ≢ n
later_apart names i n m within is sorted k same =
    let rest = subst (IsStrictlySortedBy (slice_cmp nat_cmp)) (next_name names i n within is) (sorted_drop names i sorted) in
    not_itself (slice_cmp nat_cmp) nat_list_cmp_total n (subst (λ (x : List ℕ). slice_cmp nat_cmp n x ≡ Less) same (sorted_first (slice_cmp nat_cmp) nat_list_cmp_total n (drop (i + 1) names) m rest k))

pub later_there : (names : List (List ℕ)) (i : ℕ) (n m : List ℕ) → i < length names → n ≡ slice_index_or names i n → Contains (drop (i + 1) names) m → Contains (drop i names) m
later_there names i n m within is k = subst (λ (xs : List (List ℕ)). Contains xs m) (sym (next_name names i n within is)) (has_tail n (drop (i + 1) names) m k)

pub this_there : (names : List (List ℕ)) (i : ℕ) (n : List ℕ) → i < length names → n ≡ slice_index_or names i n → Contains (drop i names) n
this_there names i n within is = subst (λ (xs : List (List ℕ)). Contains xs n) (sym (next_name names i n within is)) (has_head n (drop (i + 1) names))
