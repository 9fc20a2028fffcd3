-- What always holds of a schedule holds after each call.
use Rattle.std.proofs.Common.{◌≡◌, ◌∙◌, ap, false, List, Option, Some, subst, sym, ℕ}
use Rattle.q_candidates.specs.Candidates.{Listed}
use Rattle.q_keyed.specs.Numbered.{Items, values_of}
use Rattle.q_model.specs.declared.id.Id.{Id}
use Rattle.q_model.specs.Ids.{id_eq}
use Rattle.q_model.specs.Values.{Site}
use Rattle.q_schedule.proofs.Keeping.{all_stay, AreSameBut, kept_stay, others_stay}
use Rattle.q_schedule.proofs.Knowing.{AreFew}
use Rattle.q_schedule.specs.declared.ranked.Ranked.{Ranked}
use Rattle.q_schedule.specs.Sound.{AreKept, AreRanked, facts_at, is_stale, IsSound}
use Rattle.q_suspended.specs.declared.suspension.Suspension.{Suspension}
use Rattle.q_turns.specs.Filing.{candidate_at}
use Rattle.q_turns.specs.Suspending.{AreTied}
use Rattle.q_turns.specs.Turns.{Turning}

module _ (old : Turning) (messages : Items Ranked) (before after : Listed) (stale : Option Id) (next : ℕ) (sound : IsSound old messages before stale next) where
  -- lines and peers change, and with them no candidate but those of the stale message
  pub sound_turned : (id : Id) (now : Option Id) (new : Turning) → now ≡ Some id → AreKept old.lines old.peers (values_of messages.items) (Some id) after.items → after.room ≡ before.room → new.room ≡ old.room → AreTied new.suspended after.suspended →
      AreSameBut old.lines old.peers (values_of messages.items) new.lines new.peers (values_of messages.items) after.items id → IsSound new messages after now next
  sound_turned id now new is kept room same_room tied same = record {
    kept = subst (λ s. AreKept new.lines new.peers (values_of messages.items) s after.items) (sym is) (others_stay old.lines old.peers (values_of messages.items) new.lines new.peers (values_of messages.items) after.items id kept same);
    ranked = sound.ranked;
    few = sound.few;
    room = room ∙ sound.room ∙ sym same_room;
    tied = tied;
  }

  -- no candidate changes that is kept
  pub sound_where : (now : Option Id) (new : Turning) → AreKept old.lines old.peers (values_of messages.items) now after.items → after.room ≡ before.room → new.room ≡ old.room → AreTied new.suspended after.suspended →
      ((i : Id) (s : Site) → is_stale now i ≡ false → candidate_at new.lines new.peers (facts_at (values_of messages.items) i) i s ≡ candidate_at old.lines old.peers (facts_at (values_of messages.items) i) i s) → IsSound new messages after now next
  sound_where now new kept room same_room tied same = record {
    kept = kept_stay old.lines old.peers (values_of messages.items) new.lines new.peers (values_of messages.items) after.items now kept same;
    ranked = sound.ranked;
    few = sound.few;
    room = room ∙ sound.room ∙ sym same_room;
    tied = tied;
  }

  -- no candidate changes at all
  pub sound_stays : (new : Turning) → new.room ≡ old.room → AreTied new.suspended before.suspended → ((i : Id) (s : Site) → candidate_at new.lines new.peers (facts_at (values_of messages.items) i) i s ≡ candidate_at old.lines old.peers (facts_at (values_of messages.items) i) i s) → IsSound new messages before stale next
  sound_stays new same_room tied same = record {
    kept = all_stay old.lines old.peers (values_of messages.items) new.lines new.peers (values_of messages.items) before.items stale sound.kept same;
    ranked = sound.ranked;
    few = sound.few;
    room = sound.room ∙ sym same_room;
    tied = tied;
  }

  -- what is known of the stale message changes
  pub sound_known : (id : Id) (now : Option Id) (new : Items Ranked) (rs : List Ranked) (later : ℕ) → now ≡ Some id → AreKept old.lines old.peers (values_of messages.items) (Some id) after.items → after.room ≡ before.room → AreTied old.suspended after.suspended → values_of new.items ≡ rs → AreRanked later rs → AreFew rs →
      ((i : Id) → id_eq id i ≡ false → facts_at rs i ≡ facts_at (values_of messages.items) i) → IsSound old new after now later
  sound_known id now new rs later is kept room tied rs_is ranked few same = record {
    kept = subst (λ s. AreKept old.lines old.peers (values_of new.items) s after.items) (sym is)
        (subst (λ xs. AreKept old.lines old.peers xs (Some id) after.items) (sym rs_is)
        (others_stay old.lines old.peers (values_of messages.items) old.lines old.peers rs after.items id kept (λ i s other. ap (λ o. candidate_at old.lines old.peers o i s) (same i other))));
    ranked = subst (AreRanked later) (sym rs_is) ranked;
    few = subst AreFew (sym rs_is) few;
    room = room ∙ sound.room;
    tied = tied;
  }

  -- other sites are suspended
  pub sound_suspended : (new : Turning) (suspended : List Suspension) → new ≡ record old { suspended = suspended } → after ≡ record before { suspended = after.suspended } → AreTied new.suspended after.suspended → IsSound new messages after stale next
  sound_suspended new suspended new_is is tied =
      subst (λ (t : Turning). IsSound t messages after stale next) (sym new_is)
      (record {
        kept = subst (λ (v : Listed). AreKept old.lines old.peers (values_of messages.items) stale v.items) (sym is) sound.kept;
        ranked = sound.ranked;
        few = sound.few;
        room = ap (λ (v : Listed). v.room) is ∙ sound.room;
        tied = subst (λ (t : Turning). AreTied t.suspended after.suspended) new_is tied;
      })
