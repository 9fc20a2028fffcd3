-- Each call of `qmgr` serves the spool.
use Rattle.std.proofs.Common.{◌≡◌, Bool, false, inl, inr, List, [], ◌∷◌, ⊎_elim, refl, subst, sym, true}
use Rattle.q_books.specs.HostStands.{TellsCrashes}
use Rattle.q_books.proofs.Joining.{reads_keep}
use Rattle.q_host.proofs.Stays.{stays_here}
use Rattle.q_host.specs.Calls.{Stays}
use Rattle.q_host.specs.View.{View}
use Rattle.q_replay.specs.Spools.{AreCalls, Serves}
use Rattle.q_top.proofs.RunsBehind.{still_stands}
use Rattle.q_top.proofs.Serving.{still_serves}
use Rattle.q_top.specs.Promises.{AreQmgrCalls, courses, IsOfQmgr, QmgrCall}
use Rattle.q_top.specs.Qmgr.{MayCarryOut}
use Rattle.q_words.specs.Usages.{is_usage}

-- a call that does nothing only looks
still_looks : (u m : View) → TellsCrashes u → Stays u m → Serves false u m
still_looks u m lawful stays b h orderly =
    let t = reads_keep b b u m lawful stays h in
    record {
      at_end = still_stands u m lawful stays b h;
      moments = record {
        later = t.moments.later;
        each = λ c left. ⊎_elim (λ x. x) (λ x. x) (t.moments.each c left).book;
        before = λ n c le left. ⊎_elim (λ was. inl was) (λ new. inr (⊎_elim (λ x. x) (λ x. x) new.book)) (t.moments.before n c le left);
      };
    }

stays_serves : (runs : Bool) (u m : View) → TellsCrashes u → Stays u m → Serves runs u m
stays_serves true u m lawful stays = still_serves u m lawful stays
stays_serves false u m lawful stays = still_looks u m lawful stays

module _ {H : Type 0} (view : H → View) (lawful : (h : H) → TellsCrashes (view h)) where
  carried : (h : H) (c : QmgrCall H) → IsOfQmgr view h c → MayCarryOut c.words c.texts c.moments c.connections c.entrances c.status (view h) (view (c.course).behind)
      → Serves (c.course).runs (view h) (view (c.course).behind)
  carried h c of (inl none) = stays_serves (c.course).runs (view h) (view (c.course).behind) (lawful h) none.1
  carried h c of (inr done) = subst (λ (runs : Bool). Serves runs (view h) (view (c.course).behind)) (sym (of.runs done.request done.asked)) done.serves

  call_serves : (h : H) (c : QmgrCall H) → IsOfQmgr view h c → Serves (c.course).runs (view h) (view (c.course).behind)
  call_serves h c of = by (is_usage c.words) refl
    where
      by : (b : Bool) → is_usage c.words ≡ b → Serves (c.course).runs (view h) (view (c.course).behind)
      by true is = subst (λ (x : H). Serves (c.course).runs (view h) (view x)) (sym (of.refuses is)) (stays_serves (c.course).runs (view h) (view h) (lawful h) (stays_here (view h)))
      by false is = carried h c of (of.carries_out is)

  pub all_serve : (h : H) (cs : List (QmgrCall H)) → AreQmgrCalls view h cs → AreCalls view h (courses cs)
  all_serve h [] are = tt
  all_serve h (c ∷ cs) (of, ends, rest) = (call_serves h c of, ends, all_serve (c.course).next cs rest)
