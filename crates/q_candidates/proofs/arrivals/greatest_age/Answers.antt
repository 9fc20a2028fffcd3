use Rattle.std.proofs.Common.{◌∙◌, ap, arith, find, sym}
use Rattle.std.specs.Option.{option_copied}
use Rattle.q_sorted.specs.Tickets.{is_of}
use Rattle.q_candidates.proofs.ArrivalLaws.{is_oldest, none_there, not_gone}
use Rattle.q_candidates.proofs.arrivals.greatest_age.Goals as goal

pub returns-in_default : goal.returns-in_default
returns-in_default c = λ n q there at.
    let xs = c.args.arrivals.now.items in
    let first = c.first_of.ensures.is ∙ ap (λ k. find (is_of k) xs) c.from.ensures in
    absurd (none_there c.args.candidates.now.items xs c.requires c.args.transport (sym first ∙ c.in_default.is) n q there at)

pub returns-in-Some-get : goal.returns-in-Some-get
returns-in-Some-get c = λ n q there at.
    let xs = c.args.arrivals.now.items in
    let first = c.first_of.ensures.is ∙ ap (λ k. find (is_of k) xs) c.from.ensures in
    let older = is_oldest c.args.candidates.now.items xs c.requires c.args.transport c.in-Some.first (sym first ∙ c.in-Some.is) c.first_of.ensures.rising c.args.now c.in-Some-get.oldest.now (sym c.get.ensures ∙ ap option_copied c.in-Some-get.is) n q there at in
    omega (arith, older, c.saturating_sub.ensures)

pub returns-in-None : goal.returns-in-None
returns-in-None c = λ n q there at.
    let xs = c.args.arrivals.now.items in
    let first = c.first_of.ensures.is ∙ ap (λ k. find (is_of k) xs) c.from.ensures in
    absurd (not_gone c.args.candidates.now.items xs c.requires c.args.transport c.in-Some.first (sym first ∙ c.in-Some.is) (sym c.get.ensures ∙ ap option_copied c.in-None.is))
