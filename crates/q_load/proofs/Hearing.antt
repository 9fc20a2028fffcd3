-- The events of a life, one behind another.
use Rattle.std.proofs.Common.{◌<◌, ◌≡◌, ◌++◌, ◌^◌, ◌≤◌, ◌∙◌, ◌∷◌, [], List, None, Some, ap, append-nil, append_assoc, arith, map, refl, subst, sym, ℕ}
use Rattle.std.specs.Prelude.{count_by}
use Rattle.q_engine.specs.Heard.{is_moment}
use Rattle.q_engine.specs.Stands.{EngineStands}
use Rattle.q_engine.specs.declared.engine.Engine.{Engine}
use Rattle.q_host.specs.View.{View}
use Rattle.q_load.proofs.Accepted.{due_accepted}
use Rattle.q_load.proofs.Bounds.{due_ends, due_fewer, due_within, left_of, same_left}
use Rattle.q_load.proofs.Taken.{one_taken}
use Rattle.q_load.specs.Due.{due, is_mail, is_reply}
use Rattle.q_load.specs.Ended.{HasEnded}
use Rattle.q_load.specs.Lives.{behind_all, HeardAll, IsFirst, Takes}
use Rattle.q_load.specs.Loads.{AreDue, begun, behind, first, IsSummary, ledger_of, load_world, summary_at}
use Rattle.q_load.specs.Progress.{HasHeard, HasRoom}
use Rattle.q_load.specs.Taken.{HasTaken}
use Rattle.q_load.specs.declared.generator.Generator.{Generator}
use Rattle.q_load.specs.declared.summary.Summary.{Summary}
use Rattle.q_model.specs.Ledger.{Ledger}
use Rattle.q_model.specs.Run.{run, turn}
use Rattle.q_model.specs.Settings.{World}
use Rattle.q_model.specs.Step.{after, after_all}
use Rattle.q_model.specs.declared.entry.Entry.{Entry}
use Rattle.q_model.specs.declared.event.Event.{Event}
use Rattle.q_model.specs.declared.event.LifeEvent.TheVariants.{Heard}

-- ---- the ledger behind

entries_on : (w : World) (l : Ledger) (es fs : List Entry) → after_all w l (es ++ fs) ≡ after_all w (after_all w l es) fs
unfolding after_all
entries_on w l [] fs = refl
entries_on w l (e ∷ es) fs = entries_on w (after w l e) es fs

-- the ledger behind a run is the one behind its turns
run_behind : (l : Ledger) (es : List Event) → after_all load_world l (run load_world l (map Heard es)) ≡ behind_all l es
unfolding run after_all
run_behind l [] = refl
run_behind l (e ∷ es) = entries_on load_world l (turn load_world l (Heard e)) (run load_world (behind l e) (map Heard es)) ∙ run_behind (behind l e) es

pub ledger_is : (es : List Event) → ledger_of es ≡ behind_all (behind begun first) es
ledger_is es = run_behind begun (first ∷ es)

one_more : (l : Ledger) (es : List Event) (e : Event) → behind_all l (es ++ e ∷ []) ≡ behind (behind_all l es) e
one_more l [] e = refl
one_more l (x ∷ es) e = one_more (behind l x) es e

-- ---- events that are due

-- These were heard from a ledger on: whatever is due from here, is due behind them from there.
pub record IsHearing (mails : ℕ) (l : Ledger) (g : Generator) (engine : Engine) (v : View) : Type 0 where
  pub done : List Event
  pub heard : List Event
  pub counts : HasHeard g heard
  pub stands : EngineStands load_world engine v (behind_all l done)
  pub leads : (es : List Event) → AreDue mails heard (behind_all l done) es → AreDue mails [] l (done ++ es)

pub none_heard : (mails : ℕ) (l : Ledger) (g : Generator) (engine : Engine) (v : View) → HasHeard g [] → EngineStands load_world engine v l → IsHearing mails l g engine v
none_heard mails l g engine v counts stands = record { done = []; heard = []; counts = counts; stands = stands; leads = λ es h. h }

module _ (mails : ℕ) (l : Ledger) (g : Generator) (engine : Engine) (v : View) (h : IsHearing mails l g engine v) where
  -- one more
  pub one_heard : (e : Event) (g' : Generator) (engine' : Engine) (v' : View) → Some e ≡ due mails h.heard (behind_all l h.done) → HasHeard g' (e ∷ h.heard) → EngineStands load_world engine' v' (behind (behind_all l h.done) e) → IsHearing mails l g' engine' v'
  one_heard e g' engine' v' is counts stands = record {
    done = h.done ++ e ∷ [];
    heard = e ∷ h.heard;
    counts = counts;
    stands = subst (EngineStands load_world engine' v') (sym (one_more l h.done e)) stands;
    leads = λ es due_so. subst (AreDue mails [] l) (sym (append_assoc h.done (e ∷ []) es))
        (h.leads (e ∷ es) (sym is, subst (λ (k : Ledger). AreDue mails (e ∷ h.heard) k es) (one_more l h.done e) due_so));
  }

  -- no more
  pub all_heard : (v' : View) → None ≡ due mails h.heard (behind_all l h.done) → EngineStands load_world engine v' (behind_all l h.done) → HeardAll mails l engine v'
  all_heard v' is stands = record {
    heard = h.done;
    are = subst (AreDue mails [] l) (append-nil h.done) (h.leads [] (sym is));
    stands = stands;
  }

-- ---- the summary

pub sums_up : (mails : ℕ) (engine : Engine) (v : View) (s : Summary) (all : HeardAll mails (behind begun first) engine v) → s ≡ summary_at mails (behind_all (behind begun first) all.heard) → IsSummary mails s
sums_up mails engine v s all is = record {
  heard = all.heard;
  are = all.are;
  counts = is ∙ ap (summary_at mails) (sym (ledger_is all.heard));
}

-- ---- how far it came

-- Some ledger is on its way: no more replies came than deliveries ended, and no more mails and moments than
-- may come. Each mail that came has arrived.
pub record IsUnderWay (mails : ℕ) (g : Generator) (engine : Engine) (v : View) : Type 0 where
  pub ledger : Ledger
  pub heard : List Event
  pub stands : EngineStands load_world engine v ledger
  pub counts : HasHeard g heard
  pub ended : HasEnded (count_by is_reply heard) ledger
  pub taken : HasTaken (count_by is_mail heard) ledger
  pub came : count_by is_mail heard ≤ mails
  pub moments : count_by is_moment heard ≤ 200

pub way_begins : (mails : ℕ) (g : Generator) (engine : Engine) (v : View) → IsFirst engine v → HasHeard g [] → IsUnderWay mails g engine v
way_begins mails g engine v h counts = record { ledger = h.0; heard = []; stands = h.1; counts = counts; ended = h.2; taken = h.3; came = omega arith; moments = omega arith }

module _ (mails : ℕ) (g : Generator) (engine : Engine) (v : View) where
  -- its counts have room
  pub has_room : mails < 2 ^ 32 → IsUnderWay mails g engine v → HasRoom g (2 ^ 60)
  has_room fits h =
      let counts = h.counts in
      let began = h.ended.began in
      let few = h.ended.few in
      let came = h.came in
      let rounds = h.moments in
      record {
        came = omega (arith, fits, counts.came, came);
        replies = omega (arith, counts.replies, began, few);
        rounds = omega (arith, counts.rounds, rounds);
      }

  module _ (h : IsUnderWay mails g engine v) (e : Event) (g' : Generator) where
    -- one more
    pub way_on : (engine' : Engine) (v' : View) → Some e ≡ due mails h.heard h.ledger → HasHeard g' (e ∷ h.heard) → EngineStands load_world engine' v' (behind h.ledger e) → IsUnderWay mails g' engine' v'
    way_on engine' v' is counts stands =
        let within = due_within mails h.heard h.ledger e (sym is) h.came h.moments in
        record {
          ledger = behind h.ledger e;
          heard = e ∷ h.heard;
          stands = stands;
          counts = counts;
          ended = due_ends mails h.heard h.ledger e (sym is) h.ended;
          taken = one_taken h.ledger e h.heard h.taken;
          came = within.0;
          moments = within.1;
        }

    -- it isn't refused
    pub way_takes : (v' : View) → mails < 2 ^ 32 → Some e ≡ due mails h.heard h.ledger → EngineStands load_world engine v' h.ledger → Takes engine v' e
    way_takes v' fits is stands = (h.ledger, stands, due_accepted mails h.heard h.ledger e fits (sym is) h.taken)

    -- fewer are left behind it
    pub fewer_left : Some e ≡ due mails h.heard h.ledger → HasHeard g' (e ∷ h.heard) → left_of mails g'.replies g'.came g'.rounds < left_of mails g.replies g.came g.rounds
    fewer_left is counts = same_left mails _ _ _ _ _ _ _ _ _ _ _ _ counts.replies counts.came counts.rounds h.counts.replies h.counts.came h.counts.rounds (due_fewer mails h.heard h.ledger e (sym is) h.ended)
