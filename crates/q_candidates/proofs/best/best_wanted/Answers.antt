use Rattle.std.proofs.Common.{◌∙◌, ap, subst, sym}
use Rattle.std.specs.Option.{option_copied}
use Rattle.q_rounds.proofs.ItemSets.{unless_none}
use Rattle.q_candidates.specs.Choosing.{IsBestOf}
use Rattle.q_candidates.specs.Filing.{age_key, rank_key}
use Rattle.q_candidates.specs.Walking.{is_wanted, IsFoundBy}
use Rattle.q_candidates.proofs.BestOfNeed.{best_first, best_none, best_oldest, by_age, by_rank}
use Rattle.q_candidates.proofs.best.best_wanted.Goals as goal

pub returns-in_err-oldest : goal.returns-in_err-oldest
returns-in_err-oldest c =
    let v = c.args.candidates.now in
    let i = c.args.index.now in
    let ds = c.args.sites.now.items in
    let w = c.args.wanted.now in
    let s = c.stand_apart.ensures in
    let l = c.stand_apart-2.ensures in
    subst (IsBestOf c.args.now (is_wanted ds w) v.items) (sym c.from_residual.ensures)
    (best_none v i c.requires.ordered l.apart l.keys s.keys c.args.now ds w age_key c.first_wanted.result c.in_err-oldest.was (c.first_wanted.ensures age_key i.lanes.items (by_age v i c.requires.ordered l.apart l.keys s.keys) c.requires.shut))

pub returns-in_err-candidate : goal.returns-in_err-candidate
returns-in_err-candidate c =
    let v = c.args.candidates.now in
    let i = c.args.index.now in
    let ds = c.args.sites.now.items in
    let w = c.args.wanted.now in
    let s = c.stand_apart.ensures in
    let l = c.stand_apart-2.ensures in
    let is = subst (IsFoundBy age_key (is_wanted ds w) v.items) c.in_ok-oldest.was (c.first_wanted.ensures age_key i.lanes.items (by_age v i c.requires.ordered l.apart l.keys s.keys) c.requires.shut) in
    absurd (unless_none _ is.candidate (sym c.get.ensures ∙ ap option_copied c.in_err-candidate.was) is.there)

pub returns-then-candidate-now : goal.returns-then-candidate-now
returns-then-candidate-now c =
    let v = c.args.candidates.now in
    let i = c.args.index.now in
    let ds = c.args.sites.now.items in
    let w = c.args.wanted.now in
    let s = c.stand_apart.ensures in
    let l = c.stand_apart-2.ensures in
    let is = subst (IsFoundBy age_key (is_wanted ds w) v.items) c.in_ok-oldest.was (c.first_wanted.ensures age_key i.lanes.items (by_age v i c.requires.ordered l.apart l.keys s.keys) c.requires.shut) in
    best_oldest v i c.requires.ordered l.apart l.keys s.keys c.args.now ds w c.in_ok-oldest.oldest c.in_ok-candidate.candidate.now (sym c.get.ensures ∙ ap option_copied c.in_ok-candidate.was) is c.if-candidate-now.true

pub returns-in_err-first : goal.returns-in_err-first
returns-in_err-first c =
    let v = c.args.candidates.now in
    let i = c.args.index.now in
    let ds = c.args.sites.now.items in
    let w = c.args.wanted.now in
    let s = c.stand_apart.ensures in
    let l = c.stand_apart-2.ensures in
    subst (IsBestOf c.args.now (is_wanted ds w) v.items) (sym c.from_residual-in_err-first.ensures)
    (best_none v i c.requires.ordered l.apart l.keys s.keys c.args.now ds w rank_key c.first_wanted-2.result c.in_err-first.was (c.first_wanted-2.ensures rank_key i.lanes.items (by_rank v i c.requires.ordered l.apart l.keys s.keys) c.requires.shut))

pub returns : goal.returns
returns c =
    let v = c.args.candidates.now in
    let i = c.args.index.now in
    let ds = c.args.sites.now.items in
    let w = c.args.wanted.now in
    let s = c.stand_apart.ensures in
    let l = c.stand_apart-2.ensures in
    let is = subst (IsFoundBy age_key (is_wanted ds w) v.items) c.in_ok-oldest.was (c.first_wanted.ensures age_key i.lanes.items (by_age v i c.requires.ordered l.apart l.keys s.keys) c.requires.shut) in
    let least = subst (IsFoundBy rank_key (is_wanted ds w) v.items) c.in_ok-first.was (c.first_wanted-2.ensures rank_key i.lanes.items (by_rank v i c.requires.ordered l.apart l.keys s.keys) c.requires.shut) in
    best_first v i c.requires.ordered l.apart l.keys s.keys c.args.now ds w c.in_ok-oldest.oldest c.in_ok-candidate.candidate.now (sym c.get.ensures ∙ ap option_copied c.in_ok-candidate.was) is c.if-candidate-now.false c.in_ok-first.first least
