use Rattle.std.proofs.Common.{◌≡◌, ◌<◌, ◌∙◌, ◌+◌, ◌++◌, [], ◌∷◌, ap, arith, add-one, inl, inr, length, List, refl, Some, subst, sym, take, ℕ}
use Rattle.std.proofs.lemmas.List.{append_assoc, length-append, length-take}
use Rattle.std.proofs.lemmas.Option.{slice_get_cases}
use Rattle.std.specs.List.{list_any}
use Rattle.std.specs.Prelude.{slice_get}
use Rattle.q_core.proofs.GroupLaws.{sites_more}
use Rattle.q_core.proofs.CountLaws.{count_within}
use Rattle.q_core.proofs.CountedLaws.{one_more}
use Rattle.q_core.proofs.DeadLaws.{alike_gained}
use Rattle.q_core.proofs.SiteChanges.{busy_gained, known_gained, one_site_more, waiting_gained}
use Rattle.q_core.proofs.SiteViews.{known_more}
use Rattle.q_core.proofs.SuspendedLaws.{rest_gained}
use Rattle.q_core.specs.Known.{known_records}
use Rattle.q_core.specs.Loading.{new_sites}
use Rattle.q_core.specs.Ties.{AreBusyTied, AreWaitingTied, goes_to_dead, rest_at}
use Rattle.q_dest.specs.Dests.{Dests, gained_at, is_at, new_dest}
use Rattle.q_model.specs.declared.rows.Row.{Row}
use Rattle.q_model.specs.Sites.{site_eq}
use Rattle.q_held.specs.Held.{rows_of}
use Rattle.q_core.proofs.joining.count_rows.Goals as goal

there_at : (rows : List Row) (i : ℕ) → i < length rows → (r : Row) × (slice_get rows i ≡ Some r)
there_at rows i h = elim (slice_get_cases rows i).1 [
  | inl f ↦ (f.0, f.2)
  | inr past ↦ absurd (omega (arith, h, past.0))
]

same_some : (a b : Row) → Some a ≡ Some b → a ≡ b
same_some a b h = cc

pub loop-i-preserved : goal.loop-i-preserved
loop-i-preserved c =
    let i = c.loop-i.i in
    let p = c.args.params.now in
    let rows = c.args.rows.now.rows in
    let ws = rows_of c.args.waiting.now.items in
    let start = known_records c.args.sites.now.items in
    let ds = c.loop-i.sites.items in
    let at = there_at rows i (omega (arith, c.len-i-end.ensures, c.loop-i-test.true)) in
    let r : Row = at.0 in
    let site = c.site_at.ensures r at.1 in
    let new = new_dest p r.site in
    let b = list_any (is_at r.site) ds in
    let is : c.gain.new.self.items ≡ gained_at p r.site ds = ap (λ (x : Dests). x.items) c.gain.ensures ∙ ap (λ s. gained_at p s ds) site in
    let taken = one_more rows i r at.1 in
    let all : ((ws ++ take i rows) ++ r ∷ []) ≡ ws ++ take (i + 1) rows = append_assoc ws (take i rows) (r ∷ []) ∙ ap (λ xs. ws ++ xs) (sym taken) in (
      ap known_records is ∙ known_gained r ds new refl b ∙ known_more p start (new_sites p start [] (take i rows)) ds r.site c.loop-i.invariant.0
          ∙ ap (λ xs. start ++ xs) (sym (sites_more p start i [] rows r.site (omega (arith, c.len-i-end.ensures, c.loop-i-test.true)) (λ x e. ap (λ (y : Row). y.site) (same_some r x (sym at.1 ∙ e)))) ∙ ap (λ n. new_sites p start [] (take n rows)) (sym (add-one i))),
      subst (λ xs. AreWaitingTied c.gain.new.self.items xs) all (subst (λ xs. AreWaitingTied xs ((ws ++ take i rows) ++ r ∷ [])) (sym is) (waiting_gained r ds new refl (ws ++ take i rows) refl c.loop-i.invariant.1 b refl)),
      λ fs tie. subst (λ xs. AreBusyTied xs fs) (sym is) (busy_gained r ds new refl fs refl (c.loop-i.invariant.2 fs tie) b),
      rw is (omega (arith, one_site_more r ds new refl b, c.loop-i.invariant.3)),
      ap (λ (x : Dests). x.room) c.gain.ensures ∙ c.loop-i.invariant.4,
      λ x. ap (λ ds. goes_to_dead ds x) is ∙ alike_gained r ds new refl refl b x ∙ c.loop-i.invariant.5 x,
      λ s. ap (λ ds. rest_at ds s) is ∙ rest_gained r ds new refl refl b s ∙ c.loop-i.invariant.6 s,
    )

pub gain-requires-clause-few : goal.gain-requires-clause-few
gain-requires-clause-few c =
    let i = c.loop-i.i in
    let rows = c.args.rows.now.rows in
    let ws = rows_of c.args.waiting.now.items in
    let site = c.site_at.result.now in
    let tie = c.loop-i.invariant.1 site in
    let within = count_within (λ (r : Row). site_eq r.site site) (ws ++ take i rows) in
    let sum = length-append ws (take i rows) in
    let front = length-take i rows in
    omega (arith, tie, within, sum, front, c.len-i-end.ensures, c.loop-i-test.true, c.requires.few)

pub gain-requires-clause-room : goal.gain-requires-clause-room
gain-requires-clause-room c = omega (arith, c.loop-i.invariant.3, c.loop-i.invariant.4, c.len-i-end.ensures, c.loop-i-test.true, c.requires.room)
