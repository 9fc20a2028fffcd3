-- What the stale message is told by.
use Rattle.std.proofs.Common.{◌≡◌, ◌∙◌, ◌∷◌, ◌+◌, [], ap, Bool, cond, false, List, None, not, Option, refl, Some, sym, true, ℕ}
use Rattle.std.specs.List.{list_any}
use Rattle.std.specs.Option.{is_some}
use Rattle.std.specs.Prelude.{◌&&◌, ◌||◌, filter, find, nat_le}
use Rattle.q_dest.specs.declared.dest.Dest.{Dest}
use Rattle.q_jobs.specs.declared.job.Job.{Job}
use Rattle.q_model.proofs.EachLaws.{find-passes}
use Rattle.q_model.proofs.IdLaws.{id_eq-refl, id_eq-true}
use Rattle.q_model.specs.declared.id.Id.{Id}
use Rattle.q_model.specs.Ids.{id_eq}
use Rattle.q_model.specs.Lists.{least}
use Rattle.q_rounds.specs.declared.peer.Peer.{Peer}
use Rattle.q_rounds.specs.Rounds.{may_send, next_in, rows_left, sent_before}
use Rattle.q_schedule.specs.Best.{IsOwnOf}
use Rattle.q_schedule.specs.declared.ranked.Ranked.{Ranked}
use Rattle.q_schedule.specs.Schedule.{may_preempt, need_at}
use Rattle.q_schedule.specs.Sound.{is_ranked, is_stale}
use Rattle.q_turns.specs.Filing.{is_fresh}
use Rattle.q_turns.specs.Turns.{is_able}

some_step : {X : Type 0} (before : X → X → Bool) (p : X → Bool) (x : X) (xs : List X) (b : Bool) → is_some (least before (filter p xs)) ≡ list_any p xs → is_some (least before (cond b (x ∷ filter p xs) (filter p xs))) ≡ (b || list_any p xs)
some_step before p x xs true rest = refl
some_step before p x xs false rest = rest

-- there is a least where any passes
pub any_least : {X : Type 0} (before : X → X → Bool) (p : X → Bool) (xs : List X) → is_some (least before (filter p xs)) ≡ list_any p xs
any_least before p [] = refl
any_least before p (x ∷ xs) = some_step before p x xs (p x) (any_least before p xs)

unable : (f l o : Bool) → (f && false && l && o) ≡ false
unable true l o = refl
unable false l o = refl

unwanted : (f a l o : Bool) → (f && l && o) ≡ false → (f && a && l && o) ≡ false
unwanted true true l o h = h
unwanted true false l o h = refl
unwanted false a l o h = refl

able : (f l o a : Bool) → a ≡ true → (f && l && o) ≡ true → (f && a && l && o) ≡ true
able f l o true e h = inner f h
  where
    inner : (f : Bool) → (f && l && o) ≡ true → (f && true && l && o) ≡ true
    inner true h = h
    inner false h = h
able f l o false e h = absurd cc

module _ (ds : List Dest) (lines : List (List Job)) (ps : List Peer) (rs : List Ranked) (stale : Option Id) (t most : ℕ) (except id : Id) (own : stale ≡ Some id) where
  -- the stale message is the one of the id
  its_id : (q : Ranked) → is_stale stale q.message.id ≡ true → q.message.id ≡ id
  its_id q h = sym (id_eq-true id q.message.id (ap (λ o. is_stale o q.message.id) (sym own) ∙ h))

  -- it can't be sent to
  pub not_able : next_in ds t id ps ≡ None → (q : Ranked) → find (is_ranked q.message.id) rs ≡ Some q → is_stale stale q.message.id ≡ true → may_preempt ds lines ps t most except q.message ≡ false
  not_able none q there h =
      let no_one : is_able ds ps t q.message.id ≡ false = ap (is_able ds ps t) (its_id q h) ∙ sym (any_least sent_before (may_send ds t id) ps) ∙ ap is_some none in
      ap (λ a. is_fresh lines t q.message.id && a && nat_le (need_at ps t q.message) most && not (id_eq q.message.id except)) no_one
      ∙ unable (is_fresh lines t q.message.id) (nat_le (need_at ps t q.message) most) (not (id_eq q.message.id except))

  module _ (r : Ranked) (found : find (is_ranked id) rs ≡ Some r) (need : ℕ) (count : need ≡ rows_left id t ps + r.message.unread) where
    own_id : r.message.id ≡ id
    own_id = id_eq-true r.message.id id (find-passes (is_ranked id) rs r found)

    own_need : need_at ps t r.message ≡ need
    own_need = ap (λ i. rows_left i t ps + r.message.unread) own_id ∙ sym count

    -- another thing is wanted
    pub not_wanted : (is_fresh lines t id && nat_le need most && not (id_eq id except)) ≡ false → (q : Ranked) → find (is_ranked q.message.id) rs ≡ Some q → is_stale stale q.message.id ≡ true → may_preempt ds lines ps t most except q.message ≡ false
    not_wanted h q there is =
        let both : Some q ≡ Some r = sym there ∙ ap (λ i. find (is_ranked i) rs) (its_id q is) ∙ found in
        let same : q ≡ r = cc in
        ap (λ (x : Ranked). may_preempt ds lines ps t most except x.message) same
        ∙ unwanted (is_fresh lines t r.message.id) (is_able ds ps t r.message.id) (nat_le (need_at ps t r.message) most) (not (id_eq r.message.id except))
        (ap (λ i. is_fresh lines t i && nat_le (need_at ps t r.message) most && not (id_eq i except)) own_id ∙ ap (λ n. is_fresh lines t id && nat_le n most && not (id_eq id except)) own_need ∙ h)

    -- it is the candidate
    pub own_is : (p : Peer) → next_in ds t id ps ≡ Some p → (is_fresh lines t id && nat_le need most && not (id_eq id except)) ≡ true →
        IsOwnOf ds lines ps rs stale t most except (record { id = id; site = p.site; need = need; arrival = r.message.arrival; rank = r.rank })
    own_is p next h = record {
      message = r;
      there = found;
      stale_is = ap (λ o. is_stale o id) own ∙ id_eq-refl id;
      passes =
          able (is_fresh lines t r.message.id) (nat_le (need_at ps t r.message) most) (not (id_eq r.message.id except)) (is_able ds ps t r.message.id)
          (ap (is_able ds ps t) own_id ∙ sym (any_least sent_before (may_send ds t id) ps) ∙ ap is_some next)
          (ap (λ i. is_fresh lines t i && nat_le (need_at ps t r.message) most && not (id_eq i except)) own_id ∙ ap (λ n. is_fresh lines t id && nat_le n most && not (id_eq id except)) own_need ∙ h);
      is =
          ap (λ n. record { id = r.message.id; site = p.site; need = n; arrival = r.message.arrival; rank = r.rank }) own_need
          ∙ ap (λ i. record { id = i; site = p.site; need = need; arrival = r.message.arrival; rank = r.rank }) own_id;
    }
