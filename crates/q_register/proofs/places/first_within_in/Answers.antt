use Rattle.std.proofs.Common.{ap, length, position, slice_get, sym, ◌∙◌}
use Rattle.std.specs.Option.{option_copied}
use Rattle.q_least.specs.Keys.{is_within}
use Rattle.q_register.specs.Places.{standing}
use Rattle.q_register.proofs.Within.{none_within, some_within}
use Rattle.q_register.proofs.places.first_within_in.Goals as goal

pub returns-in_err-place : goal.returns-in_err-place
returns-in_err-place g c =
    let bound = c.args.bound in
    let is = sym c.in_err-place.was ∙ c.first_within.ensures ∙ ap (position (is_within bound)) c.requires.placed.ranked in
    ap option_copied c.from_residual.ensures ∙ none_within (length c.args.ranks.now) bound c.args.places.now.items c.requires.placed.within c.requires.ranked is

pub returns : goal.returns
returns g c =
    let bound = c.args.bound in
    let place = c.in_ok-place.place in
    let is = sym c.in_ok-place.was ∙ c.first_within.ensures ∙ ap (position (is_within bound)) c.requires.placed.ranked in
    c.member_at.ensures ∙ ap (λ xs. standing (slice_get xs place)) c.deref.ensures.value
    ∙ some_within (length c.args.ranks.now) bound place c.args.places.now.items c.requires.placed.within c.requires.ranked is
