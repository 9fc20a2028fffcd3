-- A deferral log is made, and written at its end.
use Rattle.std.proofs.Common.{◌≡◌, ◌∙◌, ⊎_elim, ◌-◌, ℕ, false, List, [], length, take, is_some, Option, Some, None, refl, sym, ap, take_all, arith}
use Rattle.std.specs.Option.{option_map}
use Rattle.std.specs.Prelude.{unwrap_or}
use Rattle.q_model.specs.declared.spot.Area.{Area}
use Rattle.q_model.specs.SpoolFiles.{Files}
use Rattle.q_host.specs.Calls.{Creates, MayCreate, Stays, Writes, WritesAll}
use Rattle.q_host.specs.Files.{with_file, written}
use Rattle.q_host.specs.View.{Goes, now, Remains, View}
use Rattle.q_host.proofs.Moments.{goes_again, goes_wider}
use Rattle.q_host.proofs.Puts.{put-here, put-other}
use Rattle.q_store.specs.Stores.{OneFile}

one_none : (a : Area) (n : List ℕ) (x y : Remains) → y ≡ x → OneFile a n x y
one_none a n x y e = record { others = λ b m differ. ap (λ (r : Remains). r.files b m) e; told = ap (λ (r : Remains). r.told) e }

pub one_on : (a : Area) (n : List ℕ) (x y z : Remains) → OneFile a n x y → OneFile a n y z → OneFile a n x z
one_on a n x y z p q = record { others = λ b m differ. q.others b m differ ∙ p.others b m differ; told = q.told ∙ p.told }

one_made : (a : Area) (n : List ℕ) (x y : Remains) → (y.files ≡ with_file x.files a n []) × (y.told ≡ x.told) → OneFile a n x y
one_made a n x y s = record { others = λ b m differ. ap (λ (f : Files). f b m) s.0 ∙ put-other x.files a n (Some []) b m differ; told = s.1 }

module _ (a : Area) (n : List ℕ) (u v w : View) where
  stays_goes : Stays u v → Goes (OneFile a n) (OneFile a n) u v
  stays_goes st = goes_wider (OneFile a n) (OneFile a n) st.goes (λ x y e. one_none a n x y e) (λ x y e. one_none a n x y e)

  stays_reads : Stays u v → OneFile a n (now u) (now v)
  stays_reads st = record { others = λ b m differ. ap (λ (f : Files). f b m) st.files; told = st.told }

  -- a call that reads, and one that may make the file
  pub made_reads : Stays u v → MayCreate a n v w → OneFile a n (now u) (now w)
  made_reads st d = one_on a n (now u) (now v) (now w) (stays_reads st) (⊎_elim
      (λ ch. one_made a n (now v) (now w) (ch.files, ch.told))
      (λ s. record { others = λ b m differ. ap (λ (f : Files). f b m) s.files; told = s.told }) d)

  pub made_goes : Stays u v → MayCreate a n v w → Goes (OneFile a n) (OneFile a n) u w
  made_goes st d = ⊎_elim
      (λ ch. goes_again (OneFile a n) (stays_goes st) ch.goes (λ x y z p q. one_on a n x y z p q) (λ x y s. one_made a n x y s) (λ x y s. one_made a n x y s))
      (λ s. goes_again (OneFile a n) (stays_goes st) s.goes (λ x y z p q. one_on a n x y z p q) (λ x y e. one_none a n x y e) (λ x y e. one_none a n x y e)) d

  none_some : (o : Option (List ℕ)) → is_some o ≡ false → o ≡ None
  none_some None e = refl
  none_some (Some x) e = absurd cc

  -- the file that was missing is empty
  pub made_there : Creates a n v w → is_some (u.files a n) ≡ false → w.files a n ≡ Some (unwrap_or (u.files a n) [])
  made_there ch none = ap (λ (f : Files). f a n) ch.files ∙ put-here v.files a n (Some []) ∙ ap (λ (o : Option (List ℕ)). Some (unwrap_or o [])) (sym (none_some (u.files a n) none))

-- ---- a write

pub writes_one : (a : Area) (n : List ℕ) (at k : ℕ) (bytes : List ℕ) (v w : View) → Writes a n at bytes k v w → OneFile a n (now v) (now w)
writes_one a n at k bytes v w wr = record { others = λ b m differ. ap (λ (f : Files). f b m) wr.files ∙ put-other v.files a n (option_map (written at (take k bytes)) (v.files a n)) b m differ; told = wr.told }

pub writes_there : (a : Area) (n : List ℕ) (at : ℕ) (bytes log : List ℕ) (v w : View) → WritesAll a n at bytes v w → v.files a n ≡ Some log → at ≡ length log - 1 → w.files a n ≡ Some (written (length log - 1) bytes log)
writes_there a n at bytes log v w wr there is =
    ap (λ (f : Files). f a n) wr.files
    ∙ put-here v.files a n (option_map (written at (take (length bytes) bytes)) (v.files a n))
    ∙ ap (option_map (written at (take (length bytes) bytes))) there
    ∙ ap (λ (xs : List ℕ). Some (written at xs log)) (take_all (length bytes) bytes (omega arith))
    ∙ ap (λ (k : ℕ). Some (written k bytes log)) is
