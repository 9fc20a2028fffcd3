use Rattle.std.proofs.Common.{◌∙◌, ap, find, sym}
use Rattle.std.specs.Option.{option_copied}
use Rattle.q_keyed.proofs.Values.{item_found}
use Rattle.q_candidates.specs.Candidates.{is_of, Listed}
use Rattle.q_candidates.proofs.Listing.{none_of}
use Rattle.q_candidates.proofs.candidates.Candidates.find.Goals as goal

pub returns-in_err-number : goal.returns-in_err-number
returns-in_err-number c =
    let id = c.args.id in
    let site = c.args.site.now in
    ap option_copied c.from_residual.ensures ∙ sym (none_of id site c.self.inside.candidates.items (sym c.find.ensures.is ∙ c.in_err-number.was))
    ∙ ap (λ (v : Listed). find (is_of id site) v.items) c.self.view_is

pub returns : goal.returns
returns c =
    let id = c.args.id in
    let site = c.args.site.now in
    c.get.ensures ∙ item_found (is_of id site) c.in_ok-number.number c.self.inside.candidates.items c.find.ensures.apart (sym c.find.ensures.is ∙ c.in_ok-number.was)
    ∙ ap (λ (v : Listed). find (is_of id site) v.items) c.self.view_is
