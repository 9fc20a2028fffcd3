-- The candidate of a message at one site is filed.
use Rattle.std.proofs.Common.{◌≡◌, ◌∙◌, ◌∷◌, ◌+◌, ◌<◌, ◌≤◌, [], ap, arith, Bool, cond, false, length, List, None, Option, option_map, refl, Some, sym, true, ℕ}
use Rattle.std.proofs.lemmas.Bool.{and_from, and_parts, eq-eqb, ltb-true}
use Rattle.std.specs.List.{list_any}
use Rattle.std.specs.Prelude.{◌&&◌, ◌==◌, filter, find, not, ◌||◌}
use Rattle.q_jobs.specs.declared.job.Job.{Job}
use Rattle.q_model.proofs.EachLaws.{find-any}
use Rattle.q_model.proofs.IdLaws.{id_eq-true, site_eq-true}
use Rattle.q_model.specs.declared.id.Id.{Id}
use Rattle.q_model.specs.Ids.{id_eq}
use Rattle.q_model.specs.Sites.{site_eq}
use Rattle.q_model.specs.Values.{Site}
use Rattle.q_rounds.proofs.FewerKeys.{AreAmong, fewer, HaveOwnKeys}
use Rattle.q_rounds.specs.declared.peer.Peer.{Peer}
use Rattle.q_rounds.specs.KeyLaws.{key_eq-refl, key_eq-true}
use Rattle.q_rounds.specs.Rounds.{is_peer, is_peer_for, key_eq, key_of as key_of_peer, rows_left, waits}
use Rattle.q_candidates.proofs.Found.{gone_other, gone_own, put_other, put_own}
use Rattle.q_candidates.specs.declared.candidate.Candidate.{Candidate}
use Rattle.q_candidates.specs.Candidates.{AreApart, is_of, key_of, put_in}
use Rattle.q_turns.specs.declared.filing.Facts.{Facts}
use Rattle.q_turns.specs.Filing.{AreOfPeers, candidate_at, candidate_of}
use Rattle.q_turns.proofs.Having.{AllWait}

-- A row waits at the transport of a peer's site.
rows_step : (i : Id) (t : ℕ) (p : Peer) (n : ℕ) (b : Bool) → is_peer_for i t p ≡ b → 1 ≤ n → 1 ≤ cond b p.waiting 0 + n
rows_step i t p n true e some = omega (arith, some)
rows_step i t p n false e some = omega (arith, some)

own_rows : (i : Id) (s : Site) (p : Peer) (n : ℕ) → is_peer i s p ≡ true → waits p ≡ true → 1 ≤ cond (is_peer_for i s.transport p) p.waiting 0 + n
own_rows i s p n own w =
    let both = and_parts (id_eq p.id i) (site_eq p.site s) own in
    let at = eq-eqb p.site.transport s.transport (ap (λ (x : Site). x.transport) (site_eq-true p.site s both.1)) in
    let some = ltb-true 0 p.waiting w in
    step (is_peer_for i s.transport p) (and_from (id_eq p.id i) (p.site.transport == s.transport) both.0 at) some
  where
    step : (b : Bool) → b ≡ true → 0 < p.waiting → 1 ≤ cond b p.waiting 0 + n
    step true e some = omega (arith, some)
    step false e some = absurd cc

wait_step : (i : Id) (s : Site) (p : Peer) (ps : List Peer) (b : Bool) → is_peer i s p ≡ b → waits p ≡ true → (b || list_any (is_peer i s) ps) ≡ true →
    (list_any (is_peer i s) ps ≡ true → 1 ≤ rows_left i s.transport ps) → 1 ≤ cond (is_peer_for i s.transport p) p.waiting 0 + rows_left i s.transport ps
wait_step i s p ps true own w there rest = own_rows i s p (rows_left i s.transport ps) own w
wait_step i s p ps false own w there rest = rows_step i s.transport p (rows_left i s.transport ps) (is_peer_for i s.transport p) refl (rest there)

rows_wait : (i : Id) (s : Site) (ps : List Peer) → AllWait ps → list_any (is_peer i s) ps ≡ true → 1 ≤ rows_left i s.transport ps
rows_wait i s [] all there = absurd cc
rows_wait i s (p ∷ ps) all there = wait_step i s p ps (is_peer i s p) refl all.0 there (rows_wait i s ps all.1)

-- What the candidate is.
candidate_step : (ps : List Peer) (i : Id) (s : Site) (q : Candidate) (facts : Option Facts) (b : Bool) → cond b (option_map (candidate_of ps i s) facts) None ≡ Some q → (f : Facts) × (candidate_of ps i s f ≡ q)
candidate_step ps i s q facts false is = absurd cc
candidate_step ps i s q None true is = absurd cc
candidate_step ps i s q (Some f) true is = let same : candidate_of ps i s f ≡ q = cc in (f, same)

module _ (lines : List (List Job)) (ps : List Peer) (facts : Option Facts) (i : Id) (s : Site) (q : Candidate) (is : candidate_at lines ps facts i s ≡ Some q) where
  its_facts : (f : Facts) × (candidate_of ps i s f ≡ q)
  its_facts = candidate_step ps i s q facts _ is

  pub its_id : q.id ≡ i
  its_id = ap (λ (c : Candidate). c.id) (sym its_facts.1)

  pub its_site : q.site ≡ s
  its_site = ap (λ (c : Candidate). c.site) (sym its_facts.1)

  -- it needs a delivery
  pub needs_some : AllWait ps → list_any (is_peer i s) ps ≡ true → 1 ≤ q.need
  needs_some all there =
      let need : rows_left i s.transport ps + its_facts.0.unread ≡ q.need = ap (λ (c : Candidate). c.need) its_facts.1 in
      omega (arith, need, rows_wait i s ps all there)

-- There is room for it: there are no more candidates than peers, and one less where a peer has none.
own_keys : (cs : List Candidate) → AreApart cs → HaveOwnKeys key_eq key_eq-true key_eq-refl key_of key_of_peer cs
own_keys [] apart = tt
own_keys (c ∷ cs) apart = (apart.0, own_keys cs apart.1)

among : (ps : List Peer) (cs : List Candidate) → AreOfPeers ps cs → AreAmong key_eq key_eq-true key_eq-refl key_of key_of_peer cs ps
among ps cs of = λ k there. of k.id k.site (find-any (is_of k.id k.site) cs ∙ there)

pub has_room : (ps : List Peer) (cs : List Candidate) (i : Id) (s : Site) → AreApart cs → AreOfPeers ps cs → list_any (is_peer i s) ps ≡ true → find (is_of i s) cs ≡ None → length cs < length ps
has_room ps cs i s apart of there none =
    fewer key_eq key_eq-true key_eq-refl key_of key_of_peer (record { id = i; site = s }) cs ps (own_keys cs apart) (among ps cs of) none there

-- What is found then, where this one is to be there.
module _ (due : Id → Site → Option Candidate) (id : Id) (site : Site) (cs : List Candidate) where
  put_step : (q : Candidate) (i : Id) (s : Site) (t : Bool) → due id site ≡ Some q → q.id ≡ id → q.site ≡ site → (id_eq i id && site_eq s site) ≡ t → find (is_of i s) (put_in q cs) ≡ cond t (due i s) (find (is_of i s) cs)
  put_step q i s true is a b here =
      let both = and_parts (id_eq i id) (site_eq s site) here in
      let x = id_eq-true i id both.0 in
      let y = site_eq-true s site both.1 in
      ap (λ j. find (is_of j s) (put_in q cs)) (x ∙ sym a) ∙ ap (λ t. find (is_of q.id t) (put_in q cs)) (y ∙ sym b) ∙ put_own q cs
      ∙ sym (ap (λ j. due j s) x ∙ ap (due id) y ∙ is)
  put_step q i s false is a b here =
      put_other q i s (ap (λ j. id_eq i j && site_eq s q.site) a ∙ ap (λ t. id_eq i id && site_eq s t) b ∙ here) cs

  pub put_filed : (q : Candidate) → due id site ≡ Some q → q.id ≡ id → q.site ≡ site → (i : Id) (s : Site) → find (is_of i s) (put_in q cs) ≡ cond (id_eq i id && site_eq s site) (due i s) (find (is_of i s) cs)
  put_filed q is a b i s = put_step q i s (id_eq i id && site_eq s site) is a b refl

  gone_step : (i : Id) (s : Site) (t : Bool) → due id site ≡ None → (id_eq i id && site_eq s site) ≡ t → find (is_of i s) (filter (λ c. not (is_of id site c)) cs) ≡ cond t (due i s) (find (is_of i s) cs)
  gone_step i s true none here =
      let both = and_parts (id_eq i id) (site_eq s site) here in
      let x = id_eq-true i id both.0 in
      let y = site_eq-true s site both.1 in
      ap (λ j. find (is_of j s) (filter (λ c. not (is_of id site c)) cs)) x ∙ ap (λ t. find (is_of id t) (filter (λ c. not (is_of id site c)) cs)) y ∙ gone_own id site cs
      ∙ sym (ap (λ j. due j s) x ∙ ap (due id) y ∙ none)
  gone_step i s false none here = gone_other id site i s here cs

  pub gone_filed : due id site ≡ None → (i : Id) (s : Site) → find (is_of i s) (filter (λ c. not (is_of id site c)) cs) ≡ cond (id_eq i id && site_eq s site) (due i s) (find (is_of i s) cs)
  gone_filed none i s = gone_step i s (id_eq i id && site_eq s site) none refl
