-- The loop of decisions: the entries that were told so far, and those that follow.
use Rattle.std.proofs.Common.{◌≡◌, ◌<◌, ◌+◌, ◌-◌, ◌^◌, ◌++◌, ℕ, List, [], ◌∷◌, None, length, refl, sym, ap, arith, subst, ◌∙◌, append-nil, append_assoc}
use Rattle.std.proofs.lemmas.List.{length-append}
use Rattle.q_model.specs.declared.entry.Entry.{Entry}
use Rattle.q_model.specs.Ledger.{Ledger}
use Rattle.q_model.specs.Next.{next}
use Rattle.q_model.specs.Run.{decide, decisions as all_decisions}
use Rattle.q_model.specs.Settings.{World}
use Rattle.q_model.specs.Step.{after, after_all}
use Rattle.q_model.proofs.RunLaws.{after_all-append, decide-ends, decide-more}
use Rattle.q_host.specs.View.{View}
use Rattle.q_host.specs.declared.error.HostError.{HostError}
use Rattle.q_books.specs.HostStands.{KeepsNotes, Takes, TellsCrashes}
use Rattle.q_entries.specs.Runs.{HaltsRun, PlaysRun}
use Rattle.q_entries.proofs.Playing.{does_behind, plays_given_up, plays_halts, plays_more, plays_none, plays_reads, stops_behind}
use Rattle.std.specs.Result.{IsErrAnd}
use Rattle.std.specs.Prelude.{Err, IsErrOf, Ok, Result}
use Rattle.q_engine.specs.KeptNotes.{StoresAllNotes}
use Rattle.q_engine.specs.Stands.{EngineStands}
use Rattle.q_engine.specs.Steps.{WasCarriedOut, WasGivenUp, WentQuiet}
use Rattle.q_engine.specs.declared.engine.Engine.{Engine}
use Rattle.q_engine.proofs.StoredNotes.{stores_looked, stores_more, stores_none}

-- so many decisions may have been carried out and told
pub record Went (w : World) (l : Ledger) (count : ℕ) (engine : Engine) (u v : View) : Type 0 where
  pub told_entries : List Entry
  pub plays : PlaysRun w l told_entries u v
  pub stands : EngineStands w engine v (after_all w l told_entries)
  pub notes : StoresAllNotes w l told_entries u.files v.files
  pub rest : told_entries ++ decide (2 ^ 60 - count) w (after_all w l told_entries) ≡ all_decisions w l
  pub counted : length told_entries ≡ count

module _ (w : World) (l : Ledger) where
  pub went_none : (engine : Engine) (u : View) → TellsCrashes u → EngineStands w engine u l → Went w l 0 engine u u
  unfolding after_all all_decisions
  went_none engine u lawful h = record { told_entries = []; plays = plays_none w l u lawful h.host; stands = h; notes = stores_none w l u.files; rest = refl; counted = refl }

  -- the entry that was decided, carried out and told
  pub went_more : (count : ℕ) (old new : Engine) (u v x y : View) → count < 2 ^ 60 → (so_far : Went w l count old u v) → Takes (after_all w l so_far.told_entries).book (after_all w l so_far.told_entries).book v x
      → KeepsNotes v x → WasCarriedOut w (after_all w l so_far.told_entries) new x y → Went w l (count + 1) new u y
  unfolding after_all
  went_more count old new u v x y below so_far reads keeps carried =
      let es = so_far.told_entries in
      let e = carried.entry_told in
      let m = after_all w l es in
      let there : after w m e ≡ after_all w l (es ++ e ∷ []) = sym (after_all-append w l es (e ∷ [])) in
      record {
        told_entries = es ++ e ∷ [];
        plays = plays_more w l es e (after w m e).book u v y refl so_far.plays (does_behind w.table e m.book (after w m e).book v x y reads carried.does);
        stands = subst (EngineStands w new y) there carried.stands;
        notes = stores_more w l es e u.files x.files y.files (stores_looked w l es u.files v x so_far.notes keeps) carried.notes;
        rest = decide-more w l (2 ^ 60) count es (all_decisions w l) e below carried.following so_far.rest;
        counted = omega (arith, length-append es (e ∷ []), so_far.counted);
      }

  -- there is no entry more
  pub went_all : (count : ℕ) (old new : Engine) (u v x : View) (so_far : Went w l count old u v) → Takes (after_all w l so_far.told_entries).book (after_all w l so_far.told_entries).book v x
      → KeepsNotes v x → next w (after_all w l so_far.told_entries) ≡ None → EngineStands w new x (after_all w l so_far.told_entries) → WentQuiet w l new u x
  went_all count old new u v x so_far reads keeps quiet stands =
      let es = so_far.told_entries in
      let all : es ≡ all_decisions w l = decide-ends w l (2 ^ 60) count es (all_decisions w l) quiet so_far.rest in
      record {
        plays = subst (λ (xs : List Entry). PlaysRun w l xs u x) all (plays_reads w l es u v x so_far.plays reads);
        stands = subst (λ (xs : List Entry). EngineStands w new x (after_all w l xs)) all stands;
        quiet = λ few. subst (λ (xs : List Entry). next w (after_all w l xs) ≡ None) all quiet;
        notes = subst (λ (xs : List Entry). StoresAllNotes w l xs u.files x.files) all (stores_looked w l es u.files v x so_far.notes keeps);
      }

  none_left : (n : ℕ) (m : Ledger) → n ≡ 0 → decide n w m ≡ []
  unfolding decide
  none_left n m none = ap (λ k. decide k w m) none

  -- there are as many as may follow
  pub went_cut : (count : ℕ) (old new : Engine) (u v x : View) (so_far : Went w l count old u v) → count ≡ 2 ^ 60 → Takes (after_all w l so_far.told_entries).book (after_all w l so_far.told_entries).book v x
      → KeepsNotes v x → EngineStands w new x (after_all w l so_far.told_entries) → WentQuiet w l new u x
  went_cut count old new u v x so_far full reads keeps stands =
      let es = so_far.told_entries in
      let none = none_left (2 ^ 60 - count) (after_all w l es) (omega (arith, full)) in
      let all : es ≡ all_decisions w l = sym (append-nil es) ∙ ap (λ (xs : List Entry). es ++ xs) (sym none) ∙ so_far.rest in
      let as_many : length (all_decisions w l) ≡ 2 ^ 60 = sym (ap length all) ∙ so_far.counted ∙ full in
      record {
        plays = subst (λ (xs : List Entry). PlaysRun w l xs u x) all (plays_reads w l es u v x so_far.plays reads);
        stands = subst (λ (xs : List Entry). EngineStands w new x (after_all w l xs)) all stands;
        quiet = λ few. absurd (omega (arith, few, as_many));
        notes = subst (λ (xs : List Entry). StoresAllNotes w l xs u.files x.files) all (stores_looked w l es u.files v x so_far.notes keeps);
      }

  -- a look was refused
  pub halts_looking : (count : ℕ) (old : Engine) (u v x : View) (so_far : Went w l count old u v) (error : HostError) → Takes (after_all w l so_far.told_entries).book (after_all w l so_far.told_entries).book v x → HaltsRun w l (all_decisions w l) error u x
  halts_looking count old u v x so_far error reads =
      let es = so_far.told_entries in
      subst (λ (xs : List Entry). HaltsRun w l xs error u x) so_far.rest (plays_given_up w l es (decide (2 ^ 60 - count) w (after_all w l es)) error u x (plays_reads w l es u v x so_far.plays reads))

  -- an entry was given up
  pub halts_at : (count : ℕ) (old : Engine) (u v x y : View) → count < 2 ^ 60 → (so_far : Went w l count old u v) (error : HostError) → Takes (after_all w l so_far.told_entries).book (after_all w l so_far.told_entries).book v x
      → WasGivenUp w (after_all w l so_far.told_entries) error x y → HaltsRun w l (all_decisions w l) error u y
  halts_at count old u v x y below so_far error reads given =
      let es = so_far.told_entries in
      let e = given.entry_told in
      let m = after_all w l es in
      let more = decide (2 ^ 60 - (count + 1)) w (after_all w l (es ++ e ∷ [])) in
      let all : es ++ e ∷ more ≡ all_decisions w l = sym (append_assoc es (e ∷ []) more) ∙ decide-more w l (2 ^ 60) count es (all_decisions w l) e below given.following so_far.rest in
      subst (λ (xs : List Entry). HaltsRun w l xs error u y) all (plays_halts w l es e more (after w m e).book error u v y refl so_far.plays (stops_behind w.table e m.book (after w m e).book error v x y reads given.stops))

-- the error that a `?` passes on
pub same_error : {T : Type 0} {S : Type 0} (r : Result T HostError) (inner e : HostError) → IsErrAnd r (λ x. x ≡ inner) → IsErrOf r e → IsErrOf {T = S} (Err inner) e
same_error (Ok v) inner e is of = absurd is
same_error (Err x) inner e is of = let same : x ≡ e = cc in ap (λ (y : HostError). Err y) (sym is ∙ same)
