-- What is counted is never too much, and peers that there are have rounds.
use Rattle.std.proofs.Common.{◌≡◌, ◌∙◌, ◌∷◌, ◌+◌, ◌<◌, ◌≤◌, ◌^◌, [], ap, arith, Bool, cond, false, length, List, None, refl, replicate, Some, suc, true, zero, ℕ, get_or}
use Rattle.std.proofs.lemmas.Bool.{lt-ltb}
use Rattle.std.proofs.lemmas.List.{length-replicate}
use Rattle.std.specs.List.{list_any}
use Rattle.std.specs.Prelude.{◌||◌, nat_lt}
use Rattle.q_chains.specs.Lists.{Lists}
use Rattle.q_keyed.specs.Numbered.{AreApart, item_at, Items, values_of}
use Rattle.q_model.specs.declared.id.Id.{Id}
use Rattle.q_sorted.specs.Tickets.{Tickets}
use Rattle.q_rounds.specs.declared.peer.Peer.{Peer}
use Rattle.q_rounds.specs.declared.round.Round.{Round}
use Rattle.q_rounds.specs.Jobs.{one_passed, round_of, rows_in, rows_of, total}
use Rattle.q_rounds.specs.Rounds.{is_passed, is_peer_for}
use Rattle.q_rounds.specs.Sound.{IsSound}
use Rattle.q_rounds.proofs.ItemSets.{unless_none}
use Rattle.q_rounds.proofs.RoundRows.{part_rows, round_there}
use Rattle.q_rounds.proofs.Totals.{rows_total, total_most, total_part}

rows_step : (p : Peer) (t : Bool) → p.waiting < 2 ^ 32 → cond t p.waiting 0 ≤ 2 ^ 32
rows_step p true few = omega (arith, few)
rows_step p false few = omega arith

one_step : (t : Bool) → cond t 1 0 ≤ 1
one_step true = omega arith
one_step false = omega arith

any_step : (p : Peer) (ps : List Peer) (t : Bool) → nat_lt 0 (total one_passed ps) ≡ list_any is_passed ps → nat_lt 0 (cond t 1 0 + total one_passed ps) ≡ (t || list_any is_passed ps)
any_step p ps true rest = lt-ltb 0 (1 + total one_passed ps) (omega arith)
any_step p ps false rest = ap (nat_lt 0) zero_more ∙ rest
  where
    zero_more : 0 + total one_passed ps ≡ total one_passed ps
    zero_more = omega arith

pub any_passed : (ps : List Peer) → nat_lt 0 (total one_passed ps) ≡ list_any is_passed ps
any_passed [] = refl
any_passed (p ∷ ps) = any_step p ps p.passed (any_passed ps)

module _ (peers : Items Peer) (rounds : Items Round) (fresh : Lists) (tickets : Tickets) (passed : ℕ) (sound : IsSound peers rounds fresh tickets passed) (apart : AreApart peers.items) where
  pub few_rows : (i : Id) (t : ℕ) → length peers.items ≤ peers.room → peers.room < 2 ^ 30 → rows_in i t rounds.items + 2 ^ 32 < 2 ^ 64
  few_rows i t within few =
      let most = total_most (rows_of i t) (2 ^ 32) peers.items apart (λ n p h. rows_step p (is_peer_for i t p) (sound.fit n p h).few) in
      let count = sound.counted.rows i t ∙ rows_total i t (values_of peers.items) in
      omega (arith, most, count, within, few)

  pub few_passed : length peers.items ≤ peers.room → peers.room < 2 ^ 30 → passed + 1 < 2 ^ 32
  few_passed within few =
      let most = total_most one_passed 1 peers.items apart (λ n p h. one_step p.passed) in
      omega (arith, most, sound.passes, within, few)

  module _ (n : ℕ) (p : Peer) (there : item_at n peers.items ≡ Some p) where
    pub own_part : p.waiting ≤ rows_in p.id p.site.transport rounds.items
    own_part = omega (arith, part_rows n p peers.items apart there, sound.counted.rows p.id p.site.transport)

    pub passed_part : one_passed p ≤ passed
    passed_part = omega (arith, total_part one_passed n p peers.items apart there, sound.passes)

    pub has_round : round_of rounds.items p ≡ None → ⊥
    has_round none =
        let it = round_there rounds.room rounds.items (values_of peers.items) p.id p.site.transport sound.counted (omega (arith, part_rows n p peers.items apart there, (sound.fit n p there).some)) in
        unless_none (round_of rounds.items p) it.0 none it.1

-- Nothing is there yet.
empty_list : (n b : ℕ) → ◌≡◌ {A = List ℕ} (get_or {A = List ℕ} (replicate n []) b []) []
empty_list zero b = refl
empty_list (suc n) zero = refl
empty_list (suc n) (suc b) = empty_list n b

pub sound_empty : (room : ℕ) → IsSound (record { items = []; room = room }) (record { items = []; room = room }) (record { lists = replicate room []; numbers = room }) (record { items = []; room = room }) 0
sound_empty room = record {
  fit = λ n p h. absurd (unless_none {A = Peer} None p refl h);
  starts = λ i j p q a b some same. absurd (unless_none {A = Peer} None p refl a);
  counted = record { rows = λ i t. refl; each = λ n r h. absurd (unless_none {A = Round} None r refl h) };
  listed = record { numbers = refl; count = length-replicate {A = List ℕ} room []; each = λ b below. empty_list room b };
  placed = λ x. refl;
  passes = refl;
  round_room = refl;
  ticket_room = refl;
}
