-- The calls of peers in the words of keyed items.
use Rattle.std.proofs.Common.{◌≡◌, ◌∙◌, ◌∷◌, ◌++◌, ◌+◌, ◌-◌, ◌<◌, ◌≤◌, [], ap, arith, cond, false, List, map, None, Option, refl, Some, subst, sym, true, ℕ}
use Rattle.std.proofs.lemmas.Bool.{and_parts, le-ltb, lt-ltb}
use Rattle.std.specs.List.{list_any}
use Rattle.std.specs.Option.{is_some, option_map_or}
use Rattle.std.specs.Prelude.{filter, find, IfSome, not}
use Rattle.q_keyed.proofs.Values.{change_none, changed_where, find_none, held_item, item_found, left_values, none_passes, one_under, OnePasses, put_values}
use Rattle.q_keyed.specs.Numbered.{AreKeysApart, first_such, item_at, Numbered, put_at, values_of, without_number}
use Rattle.q_keyed.specs.Numbered.{AreApart as AreNumbersApart}
use Rattle.q_model.proofs.EachLaws.{find-any}
use Rattle.q_model.proofs.IdLaws.{id_eq-true, site_eq-true}
use Rattle.q_model.specs.declared.id.Id.{Id}
use Rattle.q_model.specs.Ids.{id_eq}
use Rattle.q_model.specs.Sites.{site_eq}
use Rattle.q_model.specs.Values.{Site}
use Rattle.q_jobs.specs.declared.job.Job.{Job}
use Rattle.q_rounds.specs.declared.peer.Peer.{Peer}
use Rattle.q_rounds.specs.declared.peer.PeerKey.{PeerKey}
use Rattle.q_rounds.specs.KeyLaws.{key_eq-true}
use Rattle.q_rounds.proofs.Changed.{changed_put}
use Rattle.q_rounds.specs.Rounds.{changed_number, gained, has_last, is_peer, key_eq, key_of, lost, new_peer, started, waits}
use Rattle.q_turns.specs.Turns.{AreApart, changed_at, gained_at, HaveJobs, last_for, lost_at, may_wait, started_at, waiting_for}
use Rattle.q_turns.proofs.Having.{AllWait, have_at, have_left, have_set, keep_waiting, wait_gone, wait_set}

pub apart_peers : (ks : List (Numbered Peer)) → AreKeysApart key_eq key_of ks → AreApart (values_of ks)
apart_peers [] h = tt
apart_peers (k ∷ ks) h = (find_none (is_peer k.item.id k.item.site) (values_of ks) (none_passes (is_peer k.item.id k.item.site) ks h.0), apart_peers ks h.1)

abbrev key : Id → Site → PeerKey
key id site = record { id = id; site = site }

one_peer : (id : Id) (site : Site) (ks : List (Numbered Peer)) → AreKeysApart key_eq key_of ks → OnePasses (is_peer id site) (values_of ks)
one_peer id site ks h = one_under key_eq key_of key_eq-true (key id site) ks h

-- what holds of the peer of a number
pub some_there : (P : Peer → Type 0) (n : ℕ) (p : Peer) (ks : List (Numbered Peer)) → item_at n ks ≡ Some p → P p → IfSome (item_at n ks) P
some_there P n p ks there holds = subst (λ (o : Option Peer). IfSome o P) (sym there) holds

pub not_gone : (id : Id) (site : Site) (n : ℕ) (ks : List (Numbered Peer)) → AreNumbersApart ks → first_such (is_peer id site) ks ≡ Some n → item_at n ks ≡ None → ⊥
not_gone id site n ks apart found none =
    let it = held_item (is_peer id site) n ks apart found in
    let some : ◌≡◌ {A = Option Peer} None (Some it.0) = sym none ∙ it.1 in
    cc

-- The peer stands under this number.
module _ (id : Id) (site : Site) (n : ℕ) (p : Peer) (ks : List (Numbered Peer)) (apart : AreNumbersApart ks) (keys : AreKeysApart key_eq key_of ks) (found : first_such (is_peer id site) ks ≡ Some n) (there : item_at n ks ≡ Some p) where
  pub found_is : find (is_peer id site) (values_of ks) ≡ Some p
  found_is = sym (item_found (is_peer id site) n ks apart found) ∙ there

  own_parts : (id_eq p.id id ≡ true) × (site_eq p.site site ≡ true)
  own_parts =
      let it = held_item (is_peer id site) n ks apart found in
      let some : Some it.0 ≡ Some p = sym it.1 ∙ there in
      let same : it.0 ≡ p = cc in
      and_parts (id_eq p.id id) (site_eq p.site site) (subst (λ (x : Peer). is_peer id site x ≡ true) same it.2)

  pub own_id : p.id ≡ id
  own_id = id_eq-true p.id id own_parts.0

  pub own_site : p.site ≡ site
  own_site = site_eq-true p.site site own_parts.1

  pub waiting_there : p.waiting ≡ waiting_for id site (values_of ks)
  waiting_there = ap (λ o. option_map_or (λ (q : Peer). q.waiting) o 0) (sym found_is)

  pub last_there : p.last ≡ last_for id site (values_of ks)
  last_there = ap (λ o. option_map_or (λ (q : Peer). q.last) o 0) (sym found_is)

  any_there : list_any (is_peer id site) (values_of ks) ≡ true
  any_there = sym (find-any (is_peer id site) (values_of ks)) ∙ ap is_some found_is

  put_there : (f : Peer → Peer) → values_of (map (put_at n (f p)) ks) ≡ map (changed_at id site f) (values_of ks)
  put_there f = put_values (is_peer id site) f n p (f p) ks apart (one_peer id site ks keys) found there refl

  pub set_there : (x : Peer) → values_of (map (put_at n x) ks) ≡ map (changed_where (is_peer id site) (λ (q : Peer). x)) (values_of ks)
  set_there x = put_there (λ (q : Peer). x)

  -- a peer is changed under its number
  pub change_there : (f : Peer → Peer) → values_of (map (changed_number n f) ks) ≡ map (changed_at id site f) (values_of ks)
  change_there f = ap (λ xs. values_of xs) (sym (changed_put n f p ks apart there)) ∙ put_there f

  pub gain_there : values_of (map (changed_number n gained) ks) ≡ gained_at id site (values_of ks)
  gain_there = change_there gained ∙ ap (λ b. cond b (map (changed_at id site gained) (values_of ks)) (values_of ks ++ new_peer id site 0 ∷ [])) (sym any_there)

  pub left_there : values_of (without_number n ks) ≡ filter (λ q. not (is_peer id site q)) (values_of ks)
  left_there = left_values (is_peer id site) n ks apart (one_peer id site ks keys) found

  lost_is : lost_at id site (values_of ks) ≡ filter waits (map (changed_where (is_peer id site) (λ (q : Peer). lost p)) (values_of ks))
  lost_is = ap (filter waits) (sym (put_there lost) ∙ set_there (lost p))

  pub lose_there : waits (lost p) ≡ true → AllWait (values_of ks) → values_of (map (changed_number n lost) ks) ≡ lost_at id site (values_of ks)
  lose_there w all =
      ap (λ xs. values_of xs) (sym (changed_put n lost p ks apart there)) ∙ set_there (lost p)
      ∙ sym (keep_waiting (map (changed_where (is_peer id site) (λ (q : Peer). lost p)) (values_of ks)) (wait_set (is_peer id site) (lost p) (values_of ks) w all))
      ∙ sym lost_is

  pub go_there : waits (lost p) ≡ false → AllWait (values_of ks) → values_of (without_number n ks) ≡ lost_at id site (values_of ks)
  go_there w all = left_there ∙ sym (wait_gone (is_peer id site) (lost p) (values_of ks) w all) ∙ sym lost_is

  pub have_there : (lines : List (List Job)) (x : Peer) → HaveJobs lines (values_of ks) → x.id ≡ p.id → x.site ≡ p.site → waits x ≡ true → HaveJobs lines (values_of (map (put_at n x) ks))
  have_there lines x h same at w =
      let may = ap (λ (s : Site). may_wait lines s.transport x.id) at ∙ ap (may_wait lines p.site.transport) same ∙ (have_at lines n p ks h there).1 in
      subst (HaveJobs lines) (sym (set_there x)) (have_set lines (is_peer id site) x (values_of ks) h w may)

  -- and so it is where the message was sent to its site
  pub have_started : (lines : List (List Job)) (last : ℕ) → HaveJobs lines (values_of ks) → HaveJobs lines (values_of (map (put_at n (started last p)) ks))
  have_started lines last h = have_there lines (started last p) h refl refl (have_at lines n p ks h there).0

  pub have_less : (lines : List (List Job)) → HaveJobs lines (values_of ks) → HaveJobs lines (values_of (without_number n ks))
  have_less lines h = subst (HaveJobs lines) (sym left_there) (have_left lines (λ q. not (is_peer id site q)) (values_of ks) h)

-- It stands under none.
module _ (id : Id) (site : Site) (ks : List (Numbered Peer)) (none : first_such (is_peer id site) ks ≡ None) where
  pub not_found : find (is_peer id site) (values_of ks) ≡ None
  not_found = find_none (is_peer id site) (values_of ks) (none_passes (is_peer id site) ks none)

  pub waiting_nowhere : 0 ≡ waiting_for id site (values_of ks)
  waiting_nowhere = ap (λ o. option_map_or (λ (q : Peer). q.waiting) o 0) (sym not_found)

  pub last_nowhere : 0 ≡ last_for id site (values_of ks)
  last_nowhere = ap (λ o. option_map_or (λ (q : Peer). q.last) o 0) (sym not_found)

  pub start_nowhere : (last : ℕ) → started_at id site last (values_of ks) ≡ values_of ks
  start_nowhere last = change_none (is_peer id site) (started last) (values_of ks) (none_passes (is_peer id site) ks none)

  pub lose_nowhere : AllWait (values_of ks) → lost_at id site (values_of ks) ≡ values_of ks
  lose_nowhere all = ap (filter waits) (change_none (is_peer id site) lost (values_of ks) (none_passes (is_peer id site) ks none)) ∙ keep_waiting (values_of ks) all

-- Rows that are left after one went.
pub more_left : (p : Peer) → 1 < p.waiting → waits (lost p) ≡ true
more_left p h = lt-ltb 0 (p.waiting - 1) (omega (arith, h))

pub none_left : (p : Peer) → p.waiting ≤ 1 → waits (lost p) ≡ false
none_left p h = le-ltb 0 (p.waiting - 1) (omega (arith, h))

pub one_waits : (p : Peer) → waits (gained p) ≡ true
one_waits p = lt-ltb 0 (p.waiting + 1) (omega arith)

pub gain_absent : (id : Id) (site : Site) (ps : List Peer) → find (is_peer id site) ps ≡ None → ps ++ new_peer id site 0 ∷ [] ≡ gained_at id site ps
gain_absent id site ps none =
    ap (λ b. cond b (map (changed_at id site gained) ps) (ps ++ new_peer id site 0 ∷ [])) (sym (sym (find-any (is_peer id site) ps) ∙ ap is_some none))

-- a peer that never was sent to may come
pub never_last : (ps : List Peer) → find (has_last 0) ps ≡ None
never_last [] = refl
never_last (p ∷ ps) = never_last ps
