-- The whole of an opening: at each of its ends, and at each moment.
use Rattle.std.proofs.Common.{◌≡◌, ◌≢◌, ◌<◌, ◌+◌, ◌^◌, ℕ, Bool, true, false, List, refl, sym, ap, subst, ◌∙◌}
use Rattle.std.proofs.lemmas.Bool.{false_from_ne_true}
use Rattle.q_model.specs.declared.id.Id.{Id}
use Rattle.q_model.specs.declared.spot.Area.{Area}
use Rattle.q_model.specs.declared.spot.Area.TheVariants as areas
use Rattle.q_model.specs.Book.{Book, stands}
use Rattle.q_model.specs.IdTexts.{id_text}
use Rattle.q_model.specs.SpoolFiles.{Files}
use Rattle.q_model.proofs.StandLaws.{true_false}
use Rattle.q_host.specs.Calls.{Changes, Stays}
use Rattle.q_host.specs.Files.{SameNames}
use Rattle.q_host.specs.View.{now, Remains, View}
use Rattle.q_books.specs.HostStands.{HostStands, Takes, TellsCrashes, Tries}
use Rattle.q_books.proofs.Joining.{kept_takes, kept_tries, reads_keep, reads_try}
use Rattle.q_restart.specs.Clearings.{Cleans, GoesBy, IsClean}
use Rattle.q_restart.specs.Openings.{begun, Opens}
use Rattle.q_restart.specs.Raises.{MayRaise, raised}
use Rattle.q_host.proofs.Stays.{stays_here}
use Rattle.q_restart.proofs.Opened.{clear-firm, clear-takes, log-same, raise-takes, raise-tries, standing-stands, stands-begun, stands-standing}
use Rattle.q_restart.proofs.RaisedBooks.{raised-other}
use Rattle.q_restart.proofs.Seen.{Sees}

bounce_boot : areas.Bounce ≡ areas.Boot → ⊥
bounce_boot e = cc

defer_boot : areas.Defer ≡ areas.Boot → ⊥
defer_boot e = cc

defer_tmp : areas.Defer ≡ areas.Tmp → ⊥
defer_tmp e = cc

tmp_boot : areas.Tmp ≡ areas.Boot → ⊥
tmp_boot e = cc

module _ (keeps : Id → Bool) (b : Book) (u v w : View) (look : Stays u v) (see : Sees u.files keeps) (first : TellsCrashes u) (second : TellsCrashes v) (third : TellsCrashes w)
    (stay : (c : Remains) → v.may_leave c → SameNames v.files c.files) (by : GoesBy (Cleans keeps) v w) (h : HostStands u b) where
  looked : Takes b b u v
  looked = reads_keep b b u v first look h

  see-after : Sees v.files keeps
  see-after = subst (λ (f : Files). Sees f keeps) (sym look.files) see

  cleared : Takes b b u w
  cleared = kept_takes b b u v w looked (clear-takes keeps b v w see-after second stay by looked.stands)

  -- given up while it was cleared
  pub cleared-tries : Tries b (begun b) u w
  cleared-tries = kept_tries b (begun b) u w w cleared (reads_try b (begun b) w w third (stays_here w) cleared.stands)

  module _ (x : View) (clean : IsClean keeps w) (fits : b.generation + 1 < 2 ^ 32) where
    pub begun-tries : MayRaise b.generation w x → Tries b (begun b) u x
    begun-tries may = kept_tries b (begun b) u w x cleared (raise-tries b w x third fits (clear-firm keeps b v w see-after second stay by looked.stands clean) may)

    module _ (ch : Changes (raised b.generation) w x) where
      raised-same : (a : Area) (n : List ℕ) → a ≢ areas.Boot → x.files a n ≡ w.files a n
      raised-same a n differ = ap (λ (f : Files). f a n) ch.files ∙ raised-other b.generation w.files a n differ

      dropped : (i : Id) → stands b i ≡ false → keeps i ≡ false
      dropped i absent = false_from_ne_true (keeps i) (λ kept.
          let s = see.back i kept in
          true_false (stands b i) (ap (stands b) (sym s.2) ∙ standing-stands u.files b s.0 h.reads s.1) absent)

      kept : (i : Id) → stands b i ≡ true → keeps i ≡ true
      kept i there =
          let s = stands-standing u.files b i h.reads there in
          ap keeps (sym s.2) ∙ see.to s.0 s.1

      pub begun-opens : (generation : ℕ) → generation ≡ b.generation → Opens b (generation + 1) u x
      begun-opens generation same = record {
        is_next = ap (λ (k : ℕ). k + 1) same;
        takes = kept_takes b (begun b) u w x cleared (raise-takes b w x third fits (clear-firm keeps b v w see-after second stay by looked.stands clean) ch);
        logs = λ i hi absent. raised-same areas.Bounce (id_text i) bounce_boot ∙ (clean.failures (id_text i)).gone i hi refl (dropped i (sym (stands-begun b i) ∙ absent));
        notes = record {
          own = λ i hi there. raised-same areas.Defer (id_text i) defer_boot ∙ log-same keeps (now v) (now w) by.reads areas.Defer defer_tmp i hi (kept i there) ∙ ap (λ (f : Files). f areas.Defer (id_text i)) look.files;
          others = λ i hi absent. raised-same areas.Defer (id_text i) defer_boot ∙ (clean.notes (id_text i)).gone i hi refl (dropped i absent);
        };
        tmp = λ n. raised-same areas.Tmp n tmp_boot ∙ clean.tmp n;
      }
