use Rattle.std.proofs.Common.{◌≡◌, ◌<◌, ◌∙◌, ◌+◌, ◌++◌, [], ◌∷◌, ap, arith, inl, inr, length, List, refl, Some, subst, sym, take, ℕ}
use Rattle.std.proofs.lemmas.List.{append_assoc, length-append, length-take, take_all}
use Rattle.std.proofs.lemmas.Option.{slice_get_cases}
use Rattle.std.specs.List.{list_any}
use Rattle.std.specs.Prelude.{slice_get}
use Rattle.q_core.proofs.CountLaws.{count_within}
use Rattle.q_core.proofs.CountedLaws.{one_more}
use Rattle.q_core.proofs.NamedLaws.{named_at, passes_at}
use Rattle.q_core.proofs.PeerTies.{name_of, one_peer_more, peers_gained}
use Rattle.q_core.proofs.TurnTies.{served_gained, turns_gained}
use Rattle.q_core.specs.ServedRows.{served_rows}
use Rattle.q_core.specs.Ties.{ArePeersTied, AreTurnsTied}
use Rattle.q_model.specs.declared.rows.Row.{Row}
use Rattle.q_held.specs.Held.{rows_of}
use Rattle.q_rounds.specs.declared.peer.PeerKey.{PeerKey}
use Rattle.q_rounds.specs.Rounds.{is_peer, key_eq}
use Rattle.q_schedule.specs.Schedule.{Scheduling}
use Rattle.q_turns.specs.Turns.{gained_at, may_wait}
use Rattle.q_core.proofs.joining.count_peers.Goals as goal

there_at : (rows : List Row) (i : ℕ) → i < length rows → (r : Row) × (slice_get rows i ≡ Some r)
there_at rows i h = elim (slice_get_cases rows i).1 [
  | inl f ↦ (f.0, f.2)
  | inr past ↦ absurd (omega (arith, h, past.0))
]

pub loop-i-preserved : goal.loop-i-preserved
loop-i-preserved c =
    let i = c.loop-i.i in
    let rows = c.args.rows.now.rows in
    let ws = rows_of c.args.waiting.now.items in
    let at = there_at rows i (omega (arith, c.len-i-end.ensures, c.loop-i-test.true)) in
    let r : Row = at.0 in
    let ps = c.loop-i.schedule.peers in
    let site = c.site_at.ensures r at.1 in
    let own : r.id ≡ c.args.id = named_at (λ (x : Row). x.id) c.args.id rows i r c.requires.own at.1 in
    let is : c.gain.new.self.peers ≡ gained_at r.id r.site ps =
    ap (λ (x : Scheduling). x.peers) c.gain.ensures ∙ ap (λ s. gained_at c.args.id s ps) site ∙ ap (λ k. gained_at k r.site ps) (sym own) in
    let taken = one_more rows i r at.1 in
    let all : ((ws ++ take i rows) ++ r ∷ []) ≡ ws ++ take (i + 1) rows = append_assoc ws (take i rows) (r ∷ []) ∙ ap (λ xs. ws ++ xs) (sym taken) in (
      c.gain.ensures ∙ ap (λ (x : Scheduling). record x { peers = gained_at c.args.id c.site_at.result.now ps }) c.loop-i.invariant.0
          ∙ ap (λ xs. record c.args.schedule.now { peers = xs }) (sym (ap (λ (x : Scheduling). x.peers) c.gain.ensures)),
      subst (λ xs. ArePeersTied c.gain.new.self.peers xs) all (subst (λ xs. ArePeersTied xs ((ws ++ take i rows) ++ r ∷ [])) (sym is) (peers_gained r ps (ws ++ take i rows) c.loop-i.invariant.1 (list_any (is_peer r.id r.site) ps) refl)),
      rw is (omega (arith, one_peer_more r.id r.site ps (list_any (is_peer r.id r.site) ps), c.loop-i.invariant.2)),
      ap served_rows is ∙ served_gained r.id r.site ps (list_any (is_peer r.id r.site) ps) ∙ c.loop-i.invariant.3,
      (λ starts tie. subst (λ xs. AreTurnsTied c.gain.new.self.peers xs starts) all (subst (λ xs. AreTurnsTied xs ((ws ++ take i rows) ++ r ∷ []) starts) (sym is)
          (turns_gained c.loop-i.schedule.lines ps (ws ++ take i rows) starts c.stand_apart.ensures.apart c.stand_apart.ensures.jobs (c.loop-i.invariant.4 starts tie) r))),
    )

pub gain-requires-clause-job : goal.gain-requires-clause-job
gain-requires-clause-job c =
    let i = c.loop-i.i in
    let rows = c.args.rows.now.rows in
    let at = there_at rows i (omega (arith, c.len-i-end.ensures, c.loop-i-test.true)) in
    let site = c.site_at.ensures at.0 at.1 in
    ap (λ (x : Scheduling). may_wait x.lines c.site_at.result.now.transport c.args.id) c.loop-i.invariant.0
    ∙ ap (λ s. may_wait c.args.schedule.now.lines s.transport c.args.id) site
    ∙ passes_at (λ (r : Row). may_wait c.args.schedule.now.lines r.site.transport c.args.id) rows i at.0 c.requires.jobs at.1

pub gain-requires-clause-few : goal.gain-requires-clause-few
gain-requires-clause-few c =
    let i = c.loop-i.i in
    let rows = c.args.rows.now.rows in
    let ws = rows_of c.args.waiting.now.items in
    let k : PeerKey = record { id = c.args.id; site = c.site_at.result.now } in
    let tie = c.loop-i.invariant.1 k in
    let within = count_within (λ (r : Row). key_eq (name_of r) k) (ws ++ take i rows) in
    let sum = length-append ws (take i rows) in
    let front = length-take i rows in
    omega (arith, tie, within, sum, front, c.len-i-end.ensures, c.loop-i-test.true, c.requires.few)

pub gain-requires-clause-room : goal.gain-requires-clause-room
gain-requires-clause-room c =
    let room = ap (λ (x : Scheduling). x.room) c.loop-i.invariant.0 in
    omega (arith, c.loop-i.invariant.2, room, c.len-i-end.ensures, c.loop-i-test.true, c.requires.room)

pub returns-clause-tied : goal.returns-clause-tied
returns-clause-tied c = λ starts tie.
    let rows = c.args.rows.now.rows in
    subst (λ xs. AreTurnsTied c.loop-i.schedule.peers (rows_of c.args.waiting.now.items ++ xs) starts) (take_all c.loop-i.i rows (omega (arith, c.len-i-end.ensures, c.loop-i-test.false))) (c.loop-i.invariant.4 starts tie)
