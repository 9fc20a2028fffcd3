-- A record is appended to a log by four calls: what reads give after each, and what a crash leaves.
use Rattle.std.proofs.Common.{◌≡◌, ◌∙◌, ◌⊎◌, ◌+◌, ◌*◌, ◌<◌, ◌≤◌, ◌++◌, ◌∷◌, ℕ, zero, suc, Bool, true, false, eqb, eqb-true, List, [], length, take, Option, Some, None, inl, inr, refl, sym, ap, subst, arith}
use Rattle.std.specs.Option.{IfSome, IsSomeAnd, option_map, option_map_or}
use Rattle.q_model.specs.declared.outcome.Failure.{Failure}
use Rattle.q_model.specs.declared.spot.Area.{Area}
use Rattle.q_model.specs.FailureLog.{IsFailure, log_records}
use Rattle.q_model.specs.SpoolFiles.{Files}
use Rattle.q_host.specs.Calls.{Stays, Syncs, Writes, WritesAll, WritesSome}
use Rattle.q_host.specs.Files.{written}
use Rattle.q_host.specs.Steps.{Tear}
use Rattle.q_host.specs.View.{Goes, now, Remains, View}
use Rattle.q_host.proofs.Moments.{goes_on, goes_wider}
use Rattle.q_host.proofs.Puts.{put-here}
use Rattle.q_store.specs.Stores.{OneFile}
use Rattle.q_store.proofs.Pieces.{chain, piece_reads}
use Rattle.q_logfile.specs.Appends.{AddsRecord, appended, Appends, AppendsLog, AppendsLoosely, AppendsNothing, behind_gate, appendable, gate_of, HoldsRecord, KeepsRecords, MayAppendLog, MayHoldRecord, prepared}
use Rattle.q_logfile.specs.HasRecords.{HasRecords, records_at}
use Rattle.q_logfile.proofs.AppendLaws.{behind_same, closed_records, IsGated, is_gated_by, longer, one_more, same_records}
use Rattle.q_logfile.proofs.TornBytes.{nothing_written, torn_byte, torn_nothing}

-- what holds of a log to which a record can be appended
if_log : {Q : List ℕ → Type 0} (count : ℕ) (o : Option (List ℕ)) → IsSomeAnd o (λ log. appendable log ≡ Some count) → ((log : List ℕ) → o ≡ Some log → IsGated count log → Q log) → IfSome o Q
if_log count None there by = absurd there
if_log count (Some log) there by = by log refl (is_gated_by count log there)

some_from : {R : Type 0} (count : ℕ) (o : Option (List ℕ)) → IsSomeAnd o (λ log. appendable log ≡ Some count) → ((log : List ℕ) → o ≡ Some log → IsGated count log → R) → R
some_from count None there by = absurd there
some_from count (Some log) there by = by log refl (is_gated_by count log there)

-- a write by what its place and its bytes are
written_as : (P : ℕ → List ℕ → Type 0) (at gate : ℕ) (bytes over : List ℕ) → at ≡ gate → bytes ≡ over → P at bytes → P gate over
written_as P at gate bytes over is are wrote = subst (P gate) are (subst (λ (i : ℕ). P i bytes) is wrote)

some_same : (x y : List ℕ) → Some x ≡ Some y → x ≡ y
some_same x y e = cc

-- what a read gives of a file that was written
pub write_there : (a : Area) (n : List ℕ) (at k : ℕ) (bytes file : List ℕ) (v w : View) → v.files a n ≡ Some file → Writes a n at bytes k v w → w.files a n ≡ Some (written at (take k bytes) file)
write_there a n at k bytes file v w there wr =
    ap (λ (f : Files). f a n) wr.files ∙ put-here v.files a n (option_map (written at (take k bytes)) (v.files a n)) ∙ ap (option_map (written at (take k bytes))) there

module _ (a : Area) (n log : List ℕ) (f : Failure) (count : ℕ) (gated : IsGated count log) (fits : IsFailure f) where
  abbrev Keeps : Remains → Remains → Type 0
  Keeps = KeepsRecords a n log

  abbrev Has : Remains → Remains → Type 0
  Has = HoldsRecord a n log f

  abbrev May : Remains → Remains → Type 0
  May = MayHoldRecord a n log f

  -- the record stands behind the closed gate, and the disk is sure of it
  record Ready (d c : Remains) : Type 0 where
    one : OneFile a n d c
    whole : c.files a n ≡ Some (prepared f log)

  says : (o : Option (List ℕ)) (file : List ℕ) (fs : List Failure) → o ≡ Some file → log_records file ≡ fs → option_map log_records o ≡ Some fs
  says o file fs is read = ap (option_map log_records) is ∙ ap (λ (gs : List Failure). Some gs) read

  one_stay : (x y z : Remains) → OneFile a n x y → z ≡ y → OneFile a n x z
  one_stay x y z one e = subst (OneFile a n x) (sym e) one

  keeps_may : (x y : Remains) → Keeps x y → May x y
  keeps_may x y k = record { one = k.one; records = λ was. inl (k.records was) }

  has_may : (x y : Remains) → Has x y → May x y
  has_may x y h = record { one = h.one; records = λ was. inr (says (y.files a n) (appended f log) (log_records log ++ f ∷ []) h.whole (one_more log count gated f fits)) }

  ready_keeps : (x y : Remains) → Ready x y → Keeps x y
  ready_keeps x y r = record { one = r.one; records = λ was. says (y.files a n) (prepared f log) (log_records log) r.whole (same_records log count gated (prepared f log) (behind_same log count gated (behind_gate f))) }

  -- ---- the record behind the gate

  tear_keeps : (k : ℕ) (x y : Remains) → Tear a n (gate_of log + 1) k x y → Keeps x y
  tear_keeps k x y t = record {
    one = record { others = t.others; told = t.told };
    records = λ was. says (y.files a n) t.new (log_records log) t.is (same_records log count gated t.new (t.torn.before ∙ ap (take (gate_of log + 1)) (some_same t.old log (sym t.was ∙ was))));
  }

  module _ (u v : View) (there : u.files a n ≡ Some log) where
    wrote_reads : (k : ℕ) → Writes a n (gate_of log + 1) (behind_gate f) k u v → Keeps (now u) (now v)
    wrote_reads k wr = record {
      one = piece_reads a n (gate_of log + 1) k (behind_gate f) u v wr;
      records = λ was. says (v.files a n) (written (gate_of log + 1) (take k (behind_gate f)) log) (log_records log) (write_there a n (gate_of log + 1) k (behind_gate f) log u v there wr)
          (same_records log count gated (written (gate_of log + 1) (take k (behind_gate f)) log) (behind_same log count gated (take k (behind_gate f))));
    }

    wrote_goes : (k : ℕ) → Writes a n (gate_of log + 1) (behind_gate f) k u v → Goes Keeps Keeps u v
    wrote_goes k wr = goes_wider Keeps Keeps wr.goes (tear_keeps k) (tear_keeps 8)

    pub not_written : WritesSome a n (gate_of log + 1) (behind_gate f) u v → AppendsNothing a n log f u v
    not_written some = record {
      reads = wrote_reads some.0 some.2;
      goes = goes_wider Keeps May (wrote_goes some.0 some.2) (λ x y h. h) keeps_may;
    }

    module _ (wr : WritesAll a n (gate_of log + 1) (behind_gate f) u v) (w : View) where
      pub written_there : v.files a n ≡ Some (prepared f log)
      written_there = write_there a n (gate_of log + 1) 8 (behind_gate f) log u v there wr

      pub not_synced : Stays v w → AppendsNothing a n log f u w
      not_synced st =
          let reads = wrote_reads 8 wr in
          record {
            reads = record {
              one = chain a n (now u) (now v) (now w) reads.one (record { others = λ b m h. ap (λ (g : Files). g b m) st.files; told = st.told });
              records = λ was. subst (λ (g : Files). HasRecords g a n (log_records log)) (sym st.files) (reads.records was);
            };
            goes = goes_on Keeps May (wrote_goes 8 wr) st.goes (λ x y z k e. subst (Keeps x) (sym e) k) keeps_may (λ x y z k e. keeps_may x z (subst (Keeps x) (sym e) k));
          }

      -- ---- the gate

      module _ (sy : Syncs a n v w) where
        pub synced_there : w.files a n ≡ Some (prepared f log)
        synced_there = ap (λ (g : Files). g a n) sy.files ∙ written_there

        ready_reads : Ready (now u) (now w)
        ready_reads = record {
          one = chain a n (now u) (now v) (now w) (wrote_reads 8 wr).one (record { others = λ b m h. ap (λ (g : Files). g b m) sy.files; told = sy.told });
          whole = synced_there;
        }

        ready_goes : Goes Ready Keeps u w
        ready_goes = goes_on Ready Keeps (wrote_goes 8 wr) sy.goes
            (λ x y z k s. record { one = one_stay x y z k.one s.same; whole = s.whole ∙ written_there })
            (λ x y k. k)
            (λ x y z k e. subst (Keeps x) (sym e) k)

        tear_none : (x y z : Remains) → Ready x y → Tear a n (gate_of log) 0 y z → Keeps x z
        tear_none x y z r t =
            let same : t.new ≡ prepared f log = torn_nothing (gate_of log) t.old t.new t.torn ∙ some_same t.old (prepared f log) (sym t.was ∙ r.whole) in
            ready_keeps x z (record { one = chain a n x y z r.one (record { others = t.others; told = t.told }); whole = t.is ∙ ap (λ (xs : List ℕ). Some xs) same })

        tear_gate : (x y z : Remains) → Ready x y → Tear a n (gate_of log) 1 y z → May x z
        tear_gate x y z r t = record { one = chain a n x y z r.one (record { others = t.others; told = t.told }); records = λ was. by (eqb byte.0 79) refl }
          where
            was_ready : t.old ≡ prepared f log
            was_ready = some_same t.old (prepared f log) (sym t.was ∙ r.whole)

            byte : (gate : ℕ) × (t.new ≡ written (gate_of log) (gate ∷ []) t.old)
            byte = torn_byte (gate_of log) t.old t.new (subst (λ (xs : List ℕ). gate_of log < length xs) (sym was_ready) (longer log count gated f)) t.torn

            is : t.new ≡ written (gate_of log) (byte.0 ∷ []) (prepared f log)
            is = byte.1 ∙ ap (written (gate_of log) (byte.0 ∷ [])) was_ready

            by : (t' : Bool) → eqb byte.0 79 ≡ t' → HasRecords z.files a n (log_records log) ⊎ HasRecords z.files a n (log_records log ++ f ∷ [])
            by true e = inr (says (z.files a n) t.new (log_records log ++ f ∷ []) t.is (ap log_records (is ∙ ap (λ (g : ℕ). written (gate_of log) (g ∷ []) (prepared f log)) (eqb-true byte.0 79 e)) ∙ one_more log count gated f fits))
            by false e = inl (says (z.files a n) t.new (log_records log) t.is (ap log_records is ∙ closed_records log count gated f byte.0 e))

        module _ (x : View) where
          opened_goes : Writes a n (gate_of log) (79 ∷ []) 1 w x → Goes May May u x
          opened_goes op = goes_on May May ready_goes op.goes tear_gate keeps_may tear_gate

          opened_there : Writes a n (gate_of log) (79 ∷ []) 1 w x → x.files a n ≡ Some (appended f log)
          opened_there op = write_there a n (gate_of log) 1 (79 ∷ []) (prepared f log) w x synced_there op

          opened_reads : Writes a n (gate_of log) (79 ∷ []) 1 w x → Has (now u) (now x)
          opened_reads op = record {
            one = chain a n (now u) (now w) (now x) ready_reads.one (piece_reads a n (gate_of log) 1 (79 ∷ []) w x op);
            whole = opened_there op;
          }

          unopened : Writes a n (gate_of log) (79 ∷ []) 0 w x → AppendsNothing a n log f u x
          unopened op = record {
            reads = ready_keeps (now u) (now x) (record {
              one = chain a n (now u) (now w) (now x) ready_reads.one (piece_reads a n (gate_of log) 0 (79 ∷ []) w x op);
              whole = write_there a n (gate_of log) 0 (79 ∷ []) (prepared f log) w x synced_there op ∙ ap (λ (xs : List ℕ). Some xs) (nothing_written (gate_of log) (prepared f log));
            });
            goes = goes_on Keeps May ready_goes op.goes tear_none keeps_may tear_gate;
          }

          pub not_opened : WritesSome a n (gate_of log) (79 ∷ []) w x → AppendsNothing a n log f u x ⊎ AppendsLoosely a n log f u x
          not_opened some = by some.0 some.1 some.2
            where
              by : (k : ℕ) → k ≤ 1 → Writes a n (gate_of log) (79 ∷ []) k w x → AppendsNothing a n log f u x ⊎ AppendsLoosely a n log f u x
              by zero le op = inl (unopened op)
              by (suc zero) le op = inr (record { reads = opened_reads op; goes = opened_goes op })
              by (suc (suc k)) le op = absurd (omega (arith, le))

          module _ (op : WritesAll a n (gate_of log) (79 ∷ []) w x) (y : View) where
            pub not_sure : Stays x y → AppendsLoosely a n log f u y
            not_sure st =
                let reads = opened_reads op in
                record {
                  reads = record {
                    one = chain a n (now u) (now x) (now y) reads.one (record { others = λ b m h. ap (λ (g : Files). g b m) st.files; told = st.told });
                    whole = ap (λ (g : Files). g a n) st.files ∙ reads.whole;
                  };
                  goes = goes_on May May (opened_goes op) st.goes (λ p q r m e. subst (May p) (sym e) m) (λ p q m. m) (λ p q r m e. subst (May p) (sym e) m);
                }

            pub appends : Syncs a n x y → Appends a n log f u y
            appends sy' =
                let reads = opened_reads op in
                record {
                  reads = record {
                    one = chain a n (now u) (now x) (now y) reads.one (record { others = λ b m h. ap (λ (g : Files). g b m) sy'.files; told = sy'.told });
                    whole = ap (λ (g : Files). g a n) sy'.files ∙ reads.whole;
                  };
                  goes = goes_on Has May (opened_goes op) sy'.goes (λ p q r m s. record { one = one_stay p q r m.one s.same; whole = s.whole ∙ opened_there op }) (λ p q m. m) (λ p q r m e. subst (May p) (sym e) m);
                }

-- ---- the calls, one after another, by what the code knows of them

module _ (a : Area) (n : List ℕ) (f : Failure) (count at : ℕ) (bytes : List ℕ) (fits : IsFailure f) (is : at ≡ 8 * count) (are : bytes ≡ behind_gate f) (u v : View) (there : IsSomeAnd (u.files a n) (λ log. appendable log ≡ Some count)) where
  module _ (log : List ℕ) (gated : IsGated count log) where
    place : at ≡ gate_of log
    place = is ∙ ap (λ (k : ℕ). 8 * k) (sym gated.records)

    first : WritesAll a n (at + 1) bytes u v → WritesAll a n (gate_of log + 1) (behind_gate f) u v
    first wr = written_as (λ i over. WritesAll a n (i + 1) over u v) at (gate_of log) bytes (behind_gate f) place are wr

  pub gives_up_writing : WritesSome a n (at + 1) bytes u v → MayAppendLog a n f u v
  gives_up_writing some = if_log count (u.files a n) there (λ log here gated. inl (not_written a n log f count gated fits u v here
      (written_as (λ i over. WritesSome a n (i + 1) over u v) at (gate_of log) bytes (behind_gate f) (place log gated) are some)))

  module _ (wr : WritesAll a n (at + 1) bytes u v) (w : View) where
    pub gives_up_syncing : Stays v w → MayAppendLog a n f u w
    gives_up_syncing st = if_log count (u.files a n) there (λ log here gated. inl (not_synced a n log f count gated fits u v here (first log gated wr) w st))

    module _ (sy : Syncs a n v w) where
      pub gate_there : IsSomeAnd (w.files a n) (λ file. at ≤ length file)
      gate_there = some_from count (u.files a n) there (λ log here gated.
          subst (λ (o : Option (List ℕ)). IsSomeAnd o (λ file. at ≤ length file)) (sym (synced_there a n log f count gated fits u v here (first log gated wr) w sy))
          (omega (arith, longer log count gated f, place log gated)))

      module _ (x : View) where
        pub gives_up_opening : WritesSome a n at (79 ∷ []) w x → MayAppendLog a n f u x
        gives_up_opening some = if_log count (u.files a n) there (λ log here gated. not_opened a n log f count gated fits u v here (first log gated wr) w sy x (subst (λ (i : ℕ). WritesSome a n i (79 ∷ []) w x) (place log gated) some))

        module _ (op : WritesAll a n at (79 ∷ []) w x) (y : View) where
          pub gives_up_last : Stays x y → MayAppendLog a n f u y
          gives_up_last st = if_log count (u.files a n) there (λ log here gated. inr (not_sure a n log f count gated fits u v here (first log gated wr) w sy x (subst (λ (i : ℕ). WritesAll a n i (79 ∷ []) w x) (place log gated) op) y st))

          pub appends_log : Syncs a n x y → AppendsLog a n f u y
          appends_log last = if_log count (u.files a n) there (λ log here gated. appends a n log f count gated fits u v here (first log gated wr) w sy x (subst (λ (i : ℕ). WritesAll a n i (79 ∷ []) w x) (place log gated) op) y last)

-- ---- for the caller

module _ (a : Area) (n : List ℕ) (f : Failure) (count : ℕ) (fits : IsFailure f) (v w : View) (there : IsSomeAnd (v.files a n) (λ log. appendable log ≡ Some count)) where
  pub adds_record : AppendsLog a n f v w → AddsRecord a n f v w
  adds_record h = some_from count (v.files a n) there (λ log here gated.
      let did : Appends a n log f v w = subst (λ (o : Option (List ℕ)). IfSome o (λ log. Appends a n log f v w)) here h in
      let more : log_records (appended f log) ≡ records_at v.files a n ++ f ∷ [] = one_more log count gated f fits ∙ ap (λ (o : Option (List ℕ)). option_map_or log_records o [] ++ f ∷ []) (sym here) in
      record {
        reads = says a n log f count gated fits (w.files a n) (appended f log) (records_at v.files a n ++ f ∷ []) did.reads.whole more;
        crash = λ c may. says a n log f count gated fits (c.files a n) (appended f log) (records_at v.files a n ++ f ∷ []) (did.goes.crash c may).2.whole more;
      })
