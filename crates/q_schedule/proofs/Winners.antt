-- The better of the best candidate that is kept and of that of the stale message.
use Rattle.std.proofs.Common.{◌≡◌, ◌∙◌, ◌∷◌, ◌≤◌, [], ap, arith, Bool, cond, false, inl, inr, List, None, Option, option_map, refl, Some, subst, sym, true, ℕ, ◌⊎◌}
use Rattle.std.proofs.lemmas.Bool.{both_ways, cases_Bool, false_from_ne_true}
use Rattle.std.specs.List.{AllByRecursion}
use Rattle.std.specs.Prelude.{find}
use Rattle.q_candidates.proofs.Better.{first_along, first_back}
use Rattle.q_candidates.specs.Candidates.{goes_first, IsBest, is_of, IsTheBest}
use Rattle.q_candidates.specs.Candidates.{may_preempt as may_preempt_at}
use Rattle.q_candidates.specs.declared.candidate.Candidate.{Candidate}
use Rattle.q_dest.specs.declared.dest.Dest.{Dest}
use Rattle.q_jobs.specs.declared.job.Job.{Job}
use Rattle.q_model.proofs.IdLaws.{id_eq-true}
use Rattle.q_model.specs.declared.id.Id.{Id}
use Rattle.q_model.specs.Values.{Site}
use Rattle.q_rounds.specs.declared.peer.Peer.{Peer}
use Rattle.q_rounds.specs.Rounds.{waits}
use Rattle.q_schedule.proofs.Bests.{found_holds, has_peer, may_parts, message_of, none_may, not_first}
use Rattle.q_schedule.proofs.Leasts.{best_is, least_none}
use Rattle.q_schedule.specs.Best.{as_candidate, IsOwn, IsOwnOf, sooner}
use Rattle.q_schedule.specs.declared.admitted.Admitted.{Admitted}
use Rattle.q_schedule.specs.declared.ranked.Ranked.{Ranked}
use Rattle.q_schedule.specs.Schedule.{best_in, is_better, may_preempt}
use Rattle.q_schedule.specs.Sound.{AreKept, AreRanked, is_ranked, is_stale, messages_of}

itself_step : (now : ℕ) (c : Candidate) (b : Bool) → goes_first now c c ≡ b → b ≡ false
itself_step now c true h = sym h ∙ first_back now c c h
itself_step now c false h = refl

not_itself : (now : ℕ) (c : Candidate) → goes_first now c c ≡ false
not_itself now c = itself_step now c (goes_first now c c) refl ∙ refl

all_from : {P Q : Ranked → Type 0} (rs : List Ranked) → AllByRecursion P rs → ((q : Ranked) → P q → Q q) → AllByRecursion Q rs
all_from [] all h = tt
all_from (q ∷ rs) all h = (h q all.0, all_from rs all.1 h)

all_messages : (test : Admitted → Bool) (rs : List Ranked) → AllByRecursion (λ q. test q.message ≡ false) rs → AllByRecursion (λ m. test m ≡ false) (messages_of rs)
all_messages test [] all = tt
all_messages test (q ∷ rs) all = (all.0, all_messages test rs all.1)

stale_is : (stale : Option Id) (a b : Id) → is_stale stale a ≡ true → is_stale stale b ≡ true → a ≡ b
stale_is None a b h k = absurd cc
stale_is (Some s) a b h k = sym (id_eq-true s a h) ∙ id_eq-true s b k

module _ (ds : List Dest) (lines : List (List Job)) (ps : List Peer) (rs : List Ranked) (stale : Option Id) (cs : List Candidate) (transport most now : ℕ) (except : Id) (kept : AreKept lines ps rs stale cs) (wait : AllByRecursion (λ p. waits p ≡ true) ps) (next : ℕ) (ranked : AreRanked next rs) (needs : AllByRecursion (λ c. 1 ≤ c.need) cs) (known : AllByRecursion (λ q. find (is_ranked q.message.id) rs ≡ Some q) rs) where
  abbrev test : Admitted → Bool
  test = may_preempt ds lines ps transport most except

  abbrev best : Option Admitted
  best = best_in ds lines ps transport most now except (messages_of rs)

  need_some : (q : Ranked) (s : Site) → test q.message ≡ true → 1 ≤ (as_candidate s ps transport q).need
  need_some q s may =
      let it = has_peer ds transport q.message.id ps wait (may_parts ds lines ps transport most except q may).able in
      omega (arith, it.rows)

  -- the winner
  won : (c : Candidate) (r : Ranked) → find (is_ranked c.id) rs ≡ Some r → test r.message ≡ true → as_candidate c.site ps transport r ≡ c →
      ((q : Ranked) → find (is_ranked q.message.id) rs ≡ Some q → test q.message ≡ true → goes_first now (as_candidate c.site ps transport q) c ≡ false) → option_map (λ (m : Admitted). m.id) best ≡ Some c.id
  won c r there may is first =
      ap (option_map (λ (m : Admitted). m.id))
      (best_is c.site ps transport now test r c.id next rs there ranked may
      (all_from rs known (λ q h k. subst (λ x. goes_first now (as_candidate c.site ps transport q) x ≡ false) (sym is) (first q h k))))
      ∙ ap (λ (x : Candidate). Some x.id) is

  none_won : ((q : Ranked) → find (is_ranked q.message.id) rs ≡ Some q → test q.message ≡ true → ⊥) → option_map (λ (m : Admitted). m.id) best ≡ None
  none_won none =
      ap (option_map (λ (m : Admitted). m.id))
      (least_none (is_better ps transport now) test (messages_of rs) (all_messages test rs (all_from rs known (λ q h. false_from_ne_true (test q.message) (none q h)))))

  -- a message that is stale doesn't go before its own candidate
  own_first : (o : Candidate) (own : IsOwnOf ds lines ps rs stale transport most except o) (s : Site) (q : Ranked) → find (is_ranked q.message.id) rs ≡ Some q → is_stale stale q.message.id ≡ true → goes_first now (as_candidate s ps transport q) o ≡ false
  own_first o own s q there is =
      let id : q.message.id ≡ o.id = stale_is stale q.message.id o.id is own.stale_is in
      let both : Some q ≡ Some own.message = sym there ∙ ap (λ i. find (is_ranked i) rs) id ∙ own.there in
      let same : q ≡ own.message = cc in
      ap (λ (x : Ranked). goes_first now (as_candidate s ps transport x) o) same
      ∙ ap (goes_first now (as_candidate s ps transport own.message)) (sym own.is)
      ∙ not_itself now (as_candidate s ps transport own.message)

  either : (P : Type 0) (q : Ranked) → (is_stale stale q.message.id ≡ true → P) → (is_stale stale q.message.id ≡ false → P) → P
  either P q own current = step (cases_Bool (is_stale stale q.message.id))
    where
      step : (is_stale stale q.message.id ≡ true) ⊎ (is_stale stale q.message.id ≡ false) → P
      step (inl h) = own h
      step (inr h) = current h

  both_step : (f o : Candidate) → IsTheBest (may_preempt_at ds transport most except) now cs f → IsOwnOf ds lines ps rs stale transport most except o → (b : Bool) → goes_first now o f ≡ b →
      option_map (λ (m : Admitted). m.id) best ≡ option_map (λ (c : Candidate). c.id) (cond b (Some o) (Some f))
  both_step f o filed own true is =
      let some : 1 ≤ f.need = found_holds (λ c. 1 ≤ c.need) (is_of f.id f.site) f cs needs filed.there in
      let its : 1 ≤ o.need = subst (λ (c : Candidate). 1 ≤ c.need) own.is (need_some own.message o.site own.passes) in
      won o own.message own.there own.passes own.is
      (λ q there may. either (goes_first now (as_candidate o.site ps transport q) o ≡ false) q
      (λ h. own_first o own o.site q there h)
      (λ h. first_along now (as_candidate o.site ps transport q) f o (need_some q o.site may) some its
      (not_first ds lines ps rs stale cs transport most now except kept wait q there h may f o.site filed) (first_back now o f is)))
  both_step f o filed own false is =
      let m = message_of ds lines ps rs stale cs transport most now except kept wait f filed in
      let some : 1 ≤ f.need = found_holds (λ c. 1 ≤ c.need) (is_of f.id f.site) f cs needs filed.there in
      let its : 1 ≤ o.need = subst (λ (c : Candidate). 1 ≤ c.need) own.is (need_some own.message o.site own.passes) in
      won f m.message m.there m.passes_it m.is
      (λ q there may. either (goes_first now (as_candidate f.site ps transport q) f ≡ false) q
      (λ h. first_along now (as_candidate f.site ps transport q) o f (need_some q f.site may) its some (own_first o own f.site q there h) is)
      (λ h. not_first ds lines ps rs stale cs transport most now except kept wait q there h may f f.site filed))

  -- the better of both is of the message that preempts
  pub best_won : (f o : Option Candidate) → IsBest ds transport most now except cs f → IsOwn ds lines ps rs stale transport most except o → option_map (λ (m : Admitted). m.id) best ≡ option_map (λ (c : Candidate). c.id) (sooner now f o)
  best_won None None filed own =
      none_won (λ q there may. either ⊥ q
      (λ h. both_ways (test q.message) (own q there h) may)
      (λ h. none_may ds lines ps rs stale cs transport most now except kept wait q there h may filed))
  best_won None (Some o) filed own =
      won o own.message own.there own.passes own.is
      (λ q there may. either (goes_first now (as_candidate o.site ps transport q) o ≡ false) q
      (λ h. own_first o own o.site q there h)
      (λ h. absurd (none_may ds lines ps rs stale cs transport most now except kept wait q there h may filed)))
  best_won (Some f) None filed own =
      let m = message_of ds lines ps rs stale cs transport most now except kept wait f filed in
      won f m.message m.there m.passes_it m.is
      (λ q there may. either (goes_first now (as_candidate f.site ps transport q) f ≡ false) q
      (λ h. absurd (both_ways (test q.message) (own q there h) may))
      (λ h. not_first ds lines ps rs stale cs transport most now except kept wait q there h may f f.site filed))
  best_won (Some f) (Some o) filed own = both_step f o filed own (goes_first now o f) refl
