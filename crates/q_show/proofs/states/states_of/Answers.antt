use Rattle.std.proofs.Common.{◌∙◌, ap, List}
use Rattle.std.specs.BTreeMap.{get}
use Rattle.std.specs.Ordering.{nat_cmp}
use Rattle.q_listing.proofs.RecipientLaws.{found_still}
use Rattle.q_listing.specs.Listings.{last_code, notes_in}
use Rattle.q_model.specs.declared.id.Id.{Id}
use Rattle.q_model.specs.declared.outcome.Failure.{Failure}
use Rattle.q_model.specs.Message.{pending}
use Rattle.q_model.specs.SpoolFiles.{Files, logged_in}
use Rattle.q_show.specs.States.{failed_or, waiting}
use Rattle.q_show.proofs.StateLaws.{states_are}
use Rattle.q_show.proofs.states.states_of.Goals as goal

pub returns-clause-states : goal.returns-clause-states
returns-clause-states g c t m is =
    let u = g.H.Host.view c.args.host.now in
    let v = g.H.Host.view c.log_of.new.host in
    let same = (c.in_ok-failures.ensures.stays t).files in
    let logged = c.as_slice.ensures ∙ c.in_ok-failures.ensures.records t ∙ ap (λ (i : Id). logged_in u.files i) is.id in
    states_are (notes_in u.files m.id) m (logged_in u.files m.id) c.in_ok-states.states c.add_failures.new.states is.stands.failures
    (λ q. c.in_ok-states.ensures.states t m (found_still u.files v.files m c.args.found.now same is) q ∙ ap (λ (f : Files). waiting (last_code (notes_in f m.id)) (pending m) q) same)
    (λ q. c.in_ok-add_failures.ensures q ∙ ap (λ (fs : List Failure). failed_or fs (get nat_cmp c.in_ok-states.states q) q) logged)
