use Rattle.std.proofs.Common.{◌≡◌, ◌∙◌, ap, subst, Some, sym}
use Rattle.q_model.specs.Step.{after}
use Rattle.q_model.specs.declared.entry.Entry.TheVariants as entries
use Rattle.q_model.specs.declared.rows.Row.{Row}
use Rattle.q_core.proofs.RowWalkLaws.{any_place}
use Rattle.q_core.proofs.SkipLaws.{left_kept, left_skips, skip_law, skip_noted}
use Rattle.q_core.specs.Agrees.{Matches}
use Rattle.q_core.specs.Sending.{is_for}
use Rattle.q_core.proofs.UsedLaws.{has_left, moved, tidied_left}
use Rattle.q_core.proofs.ServedChanges.{left_before, tidied_before}
use Rattle.q_core.specs.Changes.{with_served, with_sites}
use Rattle.q_core.specs.declared.state.Core.{Core}
use Rattle.q_core.proofs.state.Core.skip.Goals as goal

pub returns-clause-skipped : goal.returns-clause-skipped
unfolding after
returns-clause-skipped c = λ entry place first id site positions there w l a.
    let f = any_place (is_for c.args.id c.args.site.now) c.args.self.now.waiting c.requires.there in
    let r : Row = f.1 in
    let un = c.unqueue.ensures.row r f.2.found entry place in
    let left = c.unqueue.ensures.left r f.2.found in
    let u = c.unqueue.new.self in
    let st = c.args.self.now.sites in
    let sv = c.args.self.now.served in
    let mid = with_sites (moved u c.tidy.new.self st r.site left) u in
    let gone = c.unqueue.ensures.served in
    let k : Row = record { id = id; site = site; positions = positions } in
    let both : Some r ≡ Some k = sym un.row ∙ there in
    let same : r ≡ k = cc in
    skip_noted (c.note_skip.ensures ∙ ap (λ n. record c.tidy.new.self { skips = n }) (sym (ap (λ (x : Core). x.skips) c.note_skip.ensures))) (subst (λ (x : Row). Matches w c.tidy.new.self (after w l (entries.Skip x.id x.site x.positions))) same (skip_law a c.requires.seen first r un (left_before sv _ mid r.site (has_left u c.tidy.new.self st r.site left)) (tidied_before sv mid c.tidy.new.self gone (tidied_left u c.tidy.new.self st r.site left c.tidy.ensures))))

pub returns-clause-noted : goal.returns-clause-noted
returns-clause-noted c = λ entry place r there.
    let f = any_place (is_for c.args.id c.args.site.now) c.args.self.now.waiting c.requires.there in
    let row : Row = f.1 in
    let un = c.unqueue.ensures.row row f.2.found entry place in
    let left = c.unqueue.ensures.left row f.2.found in
    let u = c.unqueue.new.self in
    let st = c.args.self.now.sites in
    let sv = c.args.self.now.served in
    let mid = with_sites (moved u c.tidy.new.self st row.site left) u in
    let gone = c.unqueue.ensures.served in
    let both : Some row ≡ Some r = sym un.row ∙ there in
    let same : row ≡ r = cc in
    let over = left_before sv _ mid row.site (has_left u c.tidy.new.self st row.site left) in
    let tidied = tidied_before sv mid c.tidy.new.self gone (tidied_left u c.tidy.new.self st row.site left c.tidy.ensures) in
    record {
      number = ap (λ (x : Core). x.skips) c.note_skip.ensures ∙ left_skips c.args.self.now (with_served sv (with_sites st u)) (with_served sv mid) c.tidy.new.self row.site un.rest over tidied;
      positions =
          ap (λ (x : Core). x.skipped) c.note_skip.ensures
          ∙ left_kept (with_served sv (with_sites st u)) (with_served sv mid) c.tidy.new.self row.site over tidied
          ∙ un.kept ∙ ap (λ (x : Row). x.positions) same;
    }
