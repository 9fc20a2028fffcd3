-- From an empty file in tmp to a whole one at its place.
use Rattle.std.proofs.Common.{◌≡◌, ◌⊎◌, false, inl, inr, ℕ, List, [], Option, Some, None, refl, sym, ◌∙◌, ap, subst}
use Rattle.std.specs.Option.{IsSome}
use Rattle.std.specs.Prelude.{Err, Ok, OnErr, Result}
use Rattle.q_model.specs.declared.spot.Area.{Area}
use Rattle.q_model.specs.declared.spot.Area.TheVariants.{Tmp}
use Rattle.q_host.specs.Files.{put, same_place, with_file, without_file, moved}
use Rattle.q_model.specs.SpoolFiles.{Files}
use Rattle.q_host.specs.View.{Remains, View, Goes, now}
use Rattle.q_host.specs.Steps.{Stay, Become}
use Rattle.q_host.specs.Calls.{Changes, Stays, Syncs}
use Rattle.q_host.proofs.Moments.{goes_on, goes_again, goes_wider}
use Rattle.q_host.proofs.Puts.{put-here, put-other, other_area}
use Rattle.q_store.specs.Stores.{Holds, IsAsBefore, IsStored, Leaves, MayGo, MayHold, MayStore, OneFile, Stores}
use Rattle.q_store.proofs.Pieces.{chain}

-- a fact that holds whatever the result is
pub always_err : {T E : Type 0} {P : Type 0} (r : Result T E) → P → OnErr r P
always_err (Ok v) h = tt
always_err (Err e) h = h

-- one place may have changed, and the file there is whole
pub record Ready (t bytes : List ℕ) (d c : Remains) : Type 0 where
  pub one : OneFile Tmp t d c
  pub whole : c.files Tmp t ≡ Some bytes

module _ (t : List ℕ) (a : Area) (n bytes : List ℕ) where
  put_one : (x : Option (List ℕ)) (d c : Remains) → Become (λ f. put f Tmp t x) d c → OneFile Tmp t d c
  put_one x d c p = record { others = λ b m h. ap (λ (g : Files). g b m) p.0 ∙ put-other d.files Tmp t x b m h; told = p.1 }

  stay_one : (d c : Remains) → Stay d c → OneFile Tmp t d c
  stay_one d c e = record { others = λ b m h. ap (λ (r : Remains). r.files b m) e; told = ap (λ (r : Remains). r.told) e }

  pub one_may : (d c : Remains) → OneFile Tmp t d c → MayStore t a n bytes d c
  one_may d c p = record { files = inl p.others; told = p.told }

  moved_stores : (x y z : Remains) → Ready t bytes x y → Become (λ f. moved f Tmp t a n) y z → Stores t a n bytes x z
  moved_stores x y z ready p = record {
    files = record {
      whole = ap (λ (g : Files). g a n) p.0 ∙ put-here (without_file y.files Tmp t) a n (y.files Tmp t) ∙ ready.whole;
      others = λ b m other h. ap (λ (g : Files). g b m) p.0 ∙ put-other (without_file y.files Tmp t) a n (y.files Tmp t) b m h
          ∙ put-other y.files Tmp t None b m other ∙ ready.one.others b m other;
    };
    told = p.1 ∙ ready.one.told;
  }

  pub stores_may : (x z : Remains) → Stores t a n bytes x z → MayStore t a n bytes x z
  stores_may x z s = record { files = inr s.files; told = s.told }

  -- ---- the calls, one after another

  abbrev One : Remains → Remains → Type 0
  One = OneFile Tmp t

  pub made : (v w : View) → Changes (λ f. with_file f Tmp t []) v w → Goes One One v w
  made v w ch = goes_wider One One ch.goes (put_one (Some [])) (put_one (Some []))

  pub stayed : (v w : View) → Stays v w → Goes One One v w
  stayed v w s = goes_wider One One s.goes stay_one stay_one

  pub then_one : (u v w : View) → Goes One One u v → Goes One One v w → Goes One One u w
  then_one u v w p q = goes_again One p q (chain Tmp t) (λ x y h. h) (λ x y h. h)

  pub may : (v w : View) → Goes One One v w → Goes (MayStore t a n bytes) (MayStore t a n bytes) v w
  may v w p = goes_wider (MayStore t a n bytes) (MayStore t a n bytes) p one_may one_may

  pub synced : (u v w : View) → v.files Tmp t ≡ Some bytes → Goes One One u v → Syncs Tmp t v w → Goes (Ready t bytes) One u w
  synced u v w whole p s = goes_on (Ready t bytes) One p s.goes
      (λ x y z one sync. record { one = chain Tmp t x y z one (stay_one y z sync.same); whole = sync.whole ∙ whole })
      (λ x y h. h)
      (λ x y z one same. chain Tmp t x y z one (stay_one y z same))

  pub renamed : (u v w : View) → Goes (Ready t bytes) One u v → Changes (λ f. moved f Tmp t a n) v w → Goes (Stores t a n bytes) (MayStore t a n bytes) u w
  renamed u v w p ch = goes_on (Stores t a n bytes) (MayStore t a n bytes) p ch.goes moved_stores one_may (λ x y z ready m. stores_may x z (moved_stores x y z ready m))

  pub may_renamed : (u v w : View) → Goes (Ready t bytes) One u v → Changes (λ f. moved f Tmp t a n) v w ⊎ Stays v w → Goes (MayStore t a n bytes) (MayStore t a n bytes) u w
  may_renamed u v w p (inl ch) = goes_wider (MayStore t a n bytes) (MayStore t a n bytes) (renamed u v w p ch) stores_may (λ x y h. h)
  may_renamed u v w p (inr s) = goes_on (MayStore t a n bytes) (MayStore t a n bytes) p s.goes (λ x y z ready same. one_may x z (chain Tmp t x y z ready.one (stay_one y z same))) one_may
      (λ x y z ready same. one_may x z (chain Tmp t x y z ready.one (stay_one y z same)))

  -- ---- what reads give

  pub made_empty : (v w : View) → Changes (λ f. with_file f Tmp t []) v w → w.files Tmp t ≡ Some []
  made_empty v w ch = ap (λ (g : Files). g Tmp t) ch.files ∙ put-here v.files Tmp t (Some [])

  pub now_whole : (v w : View) → w.files ≡ put v.files Tmp t (Some bytes) → w.files Tmp t ≡ Some bytes
  now_whole v w e = ap (λ (g : Files). g Tmp t) e ∙ put-here v.files Tmp t (Some bytes)

  pub there : (f : Files) → f Tmp t ≡ Some bytes → IsSome (f Tmp t)
  there f e = subst (λ (o : Option (List ℕ)). IsSome o) (sym e) refl

  pub stored : (u v w x y : View) → Changes (λ f. with_file f Tmp t []) u v → w.files ≡ put v.files Tmp t (Some bytes) → w.told ≡ v.told → Syncs Tmp t w x → Changes (λ f. moved f Tmp t a n) x y
      → Stores t a n bytes (now u) (now y)
  stored u v w x y made whole told s ch = moved_stores (now u) (now x) (now y) ready (ch.files, ch.told)
    where
      first : OneFile Tmp t (now u) (now v)
      first = put_one (Some []) (now u) (now v) (made.files, made.told)

      second : OneFile Tmp t (now v) (now w)
      second = put_one (Some bytes) (now v) (now w) (whole, told)

      third : OneFile Tmp t (now w) (now x)
      third = record { others = λ b m h. ap (λ (g : Files). g b m) s.files; told = s.told }

      ready : Ready t bytes (now u) (now x)
      ready = record {
        one = chain Tmp t (now u) (now v) (now x) first (chain Tmp t (now v) (now w) (now x) second third);
        whole = ap (λ (g : Files). g Tmp t) s.files ∙ now_whole v w whole;
      }

  -- ---- at each exit, what a crash may leave

  pub not_made : (v w : View) → Changes (λ f. with_file f Tmp t []) v w ⊎ Stays v w → Goes (MayStore t a n bytes) (MayStore t a n bytes) v w
  not_made v w (inl ch) = may v w (made v w ch)
  not_made v w (inr s) = may v w (stayed v w s)

  -- ---- at each exit, what reads give

  pub made_one : (v w : View) → Changes (λ f. with_file f Tmp t []) v w → One (now v) (now w)
  made_one v w ch = put_one (Some []) (now v) (now w) (ch.files, ch.told)

  pub stayed_one : (v w : View) → Stays v w → One (now v) (now w)
  stayed_one v w s = record { others = λ b m h. ap (λ (g : Files). g b m) s.files; told = s.told }

  pub synced_one : (v w : View) → Syncs Tmp t v w → One (now v) (now w)
  synced_one v w s = record { others = λ b m h. ap (λ (g : Files). g b m) s.files; told = s.told }

  -- ---- at each exit, whether the file is there for reads and crashes alike

  pub one_leaves : (v w : View) → One (now v) (now w) → Goes One One v w → Leaves t a n bytes v w
  one_leaves v w reads goes = record { reads = reads; goes = goes_wider One (MayStore t a n bytes) goes (λ x y h. h) one_may }

  pub not_made_leaves : (v w : View) → Changes (λ f. with_file f Tmp t []) v w ⊎ Stays v w → Leaves t a n bytes v w
  not_made_leaves v w (inl ch) = one_leaves v w (made_one v w ch) (made v w ch)
  not_made_leaves v w (inr s) = one_leaves v w (stayed_one v w s) (stayed v w s)

  pub not_renamed : (u v w x y : View) → Changes (λ f. with_file f Tmp t []) u v → w.files ≡ put v.files Tmp t (Some bytes) → One (now v) (now w) → Syncs Tmp t w x → Goes (Ready t bytes) One u x
      → Changes (λ f. moved f Tmp t a n) x y ⊎ Stays x y → Leaves t a n bytes u y ⊎ Holds t a n bytes u y
  not_renamed u v w x y made whole wrote s ready (inl ch) = inr (record { reads = stored u v w x y made whole wrote.told s ch; goes = renamed u x y ready ch })
  not_renamed u v w x y made whole wrote s ready (inr still) = inl (record {
    reads = chain Tmp t (now u) (now v) (now y) (made_one u v made) (chain Tmp t (now v) (now w) (now y) wrote (chain Tmp t (now w) (now x) (now y) (synced_one w x s) (stayed_one x y still)));
    goes = goes_on One (MayStore t a n bytes) ready still.goes (λ p q r one same. chain Tmp t p q r one.one (stay_one q r same)) one_may (λ p q r one same. one_may p r (chain Tmp t p q r one.one (stay_one q r same)));
  })

-- ---- for callers

-- what reads give after a refusal
pub held_reads : (t : List ℕ) (a : Area) (n bytes : List ℕ) (v w : View) → MayHold t a n bytes v w → MayStore t a n bytes (now v) (now w)
held_reads t a n bytes v w (inl left) = one_may t a n bytes (now v) (now w) left.reads
held_reads t a n bytes v w (inr held) = stores_may t a n bytes (now v) (now w) held.reads

-- what a crash may leave after a refusal
pub held_goes : (t : List ℕ) (a : Area) (n bytes : List ℕ) (v w : View) → MayHold t a n bytes v w → MayGo t a n bytes v w
held_goes t a n bytes v w (inl left) = goes_wider (MayStore t a n bytes) (MayStore t a n bytes) left.goes (one_may t a n bytes) (λ x y h. h)
held_goes t a n bytes v w (inr held) = goes_wider (MayStore t a n bytes) (MayStore t a n bytes) held.goes (stores_may t a n bytes) (λ x y h. h)

-- what is in another area than Tmp, and not at the place, is as before
pub stored_beside : (t : List ℕ) (a : Area) (n bytes : List ℕ) (f g : Files) → IsStored t a n bytes f g → (b : Area) (m : List ℕ) → (b ≡ Tmp → ⊥) → same_place a n b m ≡ false → g b m ≡ f b m
stored_beside t a n bytes f g s b m differ h = s.others b m (other_area Tmp t b m differ) h

pub kept_beside : (t : List ℕ) (f g : Files) → IsAsBefore t f g → (b : Area) (m : List ℕ) → (b ≡ Tmp → ⊥) → g b m ≡ f b m
kept_beside t f g same b m differ = same b m (other_area Tmp t b m differ)
