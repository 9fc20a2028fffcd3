use Rattle.std.proofs.Common.{◌++◌, ◌∙◌, ap, List, subst, ℕ}
use Rattle.q_listing.proofs.RecipientLaws.{found_still}
use Rattle.q_listing.specs.Listings.{found_line, notes_in}
use Rattle.q_model.specs.SpoolFiles.{Files}
use Rattle.q_show.specs.States.{AreStates}
use Rattle.q_show.proofs.ShownLaws.{enough_names, lines_whole, names_are}
use Rattle.q_show.proofs.show.lines_of.Goals as goal

pub returns-clause-lines : goal.returns-clause-lines
returns-clause-lines g c t m is =
    let u = g.H.Host.view c.args.host.now in
    let v = g.H.Host.view c.names_of.new.host in
    let found = c.args.found.now in
    let same = (c.in_ok-names.ensures.stays t).files in
    let names = names_are u.files m found c.in_ok-names.names is (c.in_ok-names.ensures.names t) in
    let stand = subst (λ (f : Files). AreStates (notes_in f m.id) m c.in_ok-states.states) same (c.in_ok-states.ensures.states t m (found_still u.files v.files m found same is)) in
    lines_whole u.files m found (notes_in u.files m.id) c.in_ok-names.names c.in_ok-states.states c.add_found.new.text.items c.add_all.new.text.items c.add.new.text.items is names stand
    (c.in_ok-add_found.ensures ∙ ap (λ (x : List ℕ). x ++ found_line found) c.new-text.ensures.items)
    (c.in_ok-add_all.ensures (enough_names u.files m found c.in_ok-names.names is names)) c.in_ok-add.ensures
