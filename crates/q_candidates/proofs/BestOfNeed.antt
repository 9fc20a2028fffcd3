-- The best candidate of one need.
use Rattle.std.proofs.Common.{◌≡◌, ◌∙◌, ◌<◌, ◌≤◌, ap, arith, List, None, not, Option, Some, subst, sym, true, ℕ, Bool}
use Rattle.std.proofs.lemmas.Bool.{and_parts, eqb-true}
use Rattle.std.specs.Prelude.{◌==◌, ◌&&◌}
use Rattle.q_dest.specs.declared.dest.Dest.{Dest}
use Rattle.q_keyed.specs.Numbered.{AreApart, AreKeysApart, item_at, Items}
use Rattle.q_model.specs.Ids.{id_eq}
use Rattle.q_rounds.specs.Rounds.{has_space_at, key_eq}
use Rattle.q_sorted.specs.declared.ticket.Ticket.{Ticket}
use Rattle.q_candidates.specs.declared.candidate.Candidate.{Candidate}
use Rattle.q_candidates.specs.declared.index.Index.{Index}
use Rattle.q_candidates.specs.declared.wanted.Wanted.{Wanted}
use Rattle.q_candidates.specs.Candidates.{key_of}
use Rattle.q_candidates.specs.Choosing.{IsBestOf, IsFirstOf}
use Rattle.q_candidates.specs.Filing.{age_key, key_of_lane, lane_eq, rank_key}
use Rattle.q_candidates.specs.Sound.{IsOrdered}
use Rattle.q_candidates.specs.Walking.{AreOrdered, is_open, is_wanted, IsFoundBy, IsLeastBy}
use Rattle.q_candidates.proofs.Better.{first_of_need, older_by_key, rank_by_key}
use Rattle.q_candidates.proofs.ItemSame.{same_item}

pub wanted_need : (ds : List Dest) (w : Wanted) (c : Candidate) → is_wanted ds w c ≡ true → c.need ≡ w.need
wanted_need ds w c h =
    let outer = and_parts (is_open ds w c) (not (id_eq c.id w.except)) h in
    let inner = and_parts ((c.site.transport == w.transport) && (c.need == w.need)) (has_space_at ds c.site) outer.0 in
    eqb-true c.need w.need (and_parts (c.site.transport == w.transport) (c.need == w.need) inner.0).1

module _ (v : Items Candidate) (i : Index) (sound : IsOrdered v i) (lanes_apart : AreApart i.lanes.items) (lane_keys : AreKeysApart lane_eq key_of_lane i.lanes.items) (keys : AreKeysApart key_eq key_of v.items) where
  pub by_age : AreOrdered age_key i.lanes.items v.items i.ages
  by_age = record {
    lanes_apart = lanes_apart;
    lane_keys = lane_keys;
    keys = keys;
    lanes_are = sound.laid.ages;
    laned = sound.filed.laned;
    placed = sound.filed.aged;
  }

  pub by_rank : AreOrdered rank_key i.lanes.items v.items i.ranks
  by_rank = record {
    lanes_apart = lanes_apart;
    lane_keys = lane_keys;
    keys = keys;
    lanes_are = sound.laid.ranks;
    laned = sound.filed.laned;
    placed = sound.filed.ranked;
  }

  module _ (now : ℕ) (ds : List Dest) (w : Wanted) where
    abbrev wanted : Candidate → Bool
    wanted c = is_wanted ds w c

    one_need : (c d : Candidate) → wanted c ≡ true → wanted d ≡ true → c.need ≡ d.need
    one_need c d h k = wanted_need ds w c h ∙ sym (wanted_need ds w d k)

    -- none is wanted
    pub best_none : (key : Candidate → ℕ) (o : Option Ticket) → o ≡ None → IsFoundBy key wanted v.items o → IsBestOf now wanted v.items None
    best_none key o none is = subst (IsFoundBy key wanted v.items) none is

    module _ (e : Ticket) (c : Candidate) (there : item_at e.item v.items ≡ Some c) (is : IsLeastBy age_key wanted v.items e) where
      its : is.candidate ≡ c
      its = same_item e.item is.candidate c v.items is.there there

      low : (m : ℕ) (d : Candidate) → item_at m v.items ≡ Some d → wanted d ≡ true → age_key c ≤ age_key d
      low m d h k = subst (λ (x : Candidate). age_key x ≤ age_key d) its (is.least m d h k)

      passes : wanted c ≡ true
      passes = ap wanted (sym its) ∙ is.passes

      -- the oldest
      pub best_oldest : c.arrival < now → IsFirstOf now wanted v.items e.item
      best_oldest before = record {
        candidate = c;
        there = there;
        passes = passes;
        first = λ m d h k.
            let fit = sound.fit m d h in
            let key = low m d h k in
            let older = older_by_key now d c fit.ranked key in
            first_of_need now d c (sound.fit e.item c there).some (one_need d c k passes) (omega (arith, older))
            (λ same. rank_by_key d c key (omega (arith, older, same, before)));
      }

      -- all are of one age, so the first is the one of the least rank
      pub best_first : (now ≤ c.arrival) → (f : Ticket) → IsLeastBy rank_key wanted v.items f → IsFirstOf now wanted v.items f.item
      best_first late f least = record {
        candidate = least.candidate;
        there = least.there;
        passes = least.passes;
        first = λ m d h k.
            let d_late = older_by_key now d c (sound.fit m d h).ranked (low m d h k) in
            let f_late = older_by_key now least.candidate c (sound.fit f.item least.candidate least.there).ranked (low f.item least.candidate least.there least.passes) in
            first_of_need now d least.candidate (sound.fit f.item least.candidate least.there).some (one_need d least.candidate k least.passes) (omega (arith, d_late, late))
            (λ same. least.least m d h k);
      }
