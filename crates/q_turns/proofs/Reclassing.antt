-- The lane of a site is of another class, and those of other sites stay.
use Rattle.std.proofs.Common.{◌≡◌, ◌∙◌, ◌<◌, ap, arith, false, inl, inr, length, List, None, Option, refl, Some, sym, true, ℕ, ◌⊎◌}
use Rattle.std.proofs.lemmas.Bool.{both_ways, cases_Bool}
use Rattle.std.proofs.lemmas.List.{get_or-set_other, get_or-set_same}
use Rattle.std.specs.Prelude.{IfSome}
use Rattle.q_heads.specs.Lanes.{class_of, Lanes}
use Rattle.q_jobs.specs.Jobs.{Jobs}
use Rattle.q_keyed.proofs.Values.{held_item}
use Rattle.q_keyed.specs.Numbered.{AreApart, AreKeysApart, item_at, Items, Numbered}
use Rattle.q_model.proofs.IdLaws.{site_eq-refl, site_eq-true}
use Rattle.q_model.specs.Sites.{site_eq}
use Rattle.q_model.specs.Values.{Site}
use Rattle.q_sorted.specs.Tickets.{Tickets}
use Rattle.q_suspended.specs.Suspensions.{Suspensions}
use Rattle.q_rounds.specs.declared.peer.Peer.{Peer}
use Rattle.q_turns.specs.declared.lane.Lane.{Lane}
use Rattle.q_turns.specs.Heading.{is_lane_of, lane_of}
use Rattle.q_turns.specs.Sound.{AreLanes, IsLane, IsSound}
use Rattle.q_turns.specs.Suspending.{class_at, classed_at}
use Rattle.q_turns.proofs.HeadLaws.{lane_named}
use Rattle.q_turns.proofs.LaneLaws.{such_at}

module _ (lanes : List (Numbered Lane)) (apart : AreApart lanes) (ks : List (Numbered Peer)) (heads : Lanes) (class : Site → ℕ) (are : AreLanes class lanes ks heads) (site : Site) where
  known_step : (o : Option ℕ) → lane_of site lanes ≡ o → IfSome o (λ lane. lane < heads.lanes)
  known_step None h = tt
  known_step (Some lane) h = let it = held_item (is_lane_of site) lane lanes apart h in (are lane it.0 it.1).below

  -- its lane is one that there is
  pub lane_known : IfSome (lane_of site lanes) (λ lane. lane < heads.lanes)
  lane_known = known_step (lane_of site lanes) refl

  module _ (keys : AreKeysApart site_eq (λ (l : Lane). l.site) lanes) (within : length heads.classes ≡ heads.lanes) (other : Site → ℕ) (stays : (s : Site) → site_eq site s ≡ false → other s ≡ class s) where
    abbrev pub reclassed : Lanes
    reclassed = record heads { classes = classed_at (lane_of site lanes) (other site) heads.classes }

    other_lane : (j : ℕ) (o : Option ℕ) → (o ≡ Some j → ⊥) → class_of j (classed_at o (other site) heads.classes) ≡ class_of j heads.classes
    other_lane j None differ = refl
    other_lane j (Some d) differ = get_or-set_other heads.classes d j (other site) 0 (λ same. differ (ap Some (sym same)))

    class_step : (j : ℕ) (l : Lane) → item_at j lanes ≡ Some l → IsLane class j l ks heads → (site_eq site l.site ≡ true) ⊎ (site_eq site l.site ≡ false) → class_of j reclassed.classes ≡ other l.site
    class_step j l h is (inl same) =
        let at : site ≡ l.site = site_eq-true site l.site same in
        let lane : lane_of site lanes ≡ Some j = ap (λ s. lane_of s lanes) at ∙ such_at j l lanes keys h in
        let low : j < length heads.classes = omega (arith, within, is.below) in
        ap (λ o. class_of j (classed_at o (other site) heads.classes)) lane ∙ get_or-set_same heads.classes j (other site) 0 low ∙ ap other at
    class_step j l h is (inr different) =
        other_lane j (lane_of site lanes) (λ named. both_ways (site_eq site l.site) different (ap (site_eq site) (lane_named site j lanes l apart named h) ∙ site_eq-refl site))
        ∙ is.classed ∙ sym (stays l.site different)

    pub lanes_reclassed : AreLanes other lanes ks reclassed
    lanes_reclassed j l h =
        let is = are j l h in
        record { below = is.below; classed = class_step j l h is (cases_Bool (site_eq site l.site)); used = is.used }

-- other sites are suspended
pub sound_reclassed : (lines : List Jobs) (peers : Items Peer) (lanes : Items Lane) (heads : Lanes) (messages : Tickets) (old new : Suspensions) (line_room : ℕ) (site : Site) → IsSound lines peers lanes heads messages old line_room → AreApart lanes.items → AreKeysApart site_eq (λ (l : Lane). l.site) lanes.items → length heads.classes ≡ heads.lanes →
    ((s : Site) → site_eq site s ≡ false → class_at new.items s ≡ class_at old.items s) → IsSound lines peers lanes (record heads { classes = classed_at (lane_of site lanes.items) (class_at new.items site) heads.classes }) messages new line_room
sound_reclassed lines peers lanes heads messages old new line_room site sound apart keys within stays = record {
  lines_are = sound.lines_are;
  places = record {
    placed = sound.places.placed;
    laned = sound.places.laned;
    lanes_are = lanes_reclassed lanes.items apart peers.items heads (class_at old.items) sound.places.lanes_are site keys within (class_at new.items) stays;
  };
  listed = sound.listed;
  lane_room = sound.lane_room;
  head_room = sound.head_room;
  lanes_room = sound.lanes_room;
  list_room = sound.list_room;
}
