use Rattle.std.proofs.Common.{◌∙◌, ap, map}
use Rattle.q_listing.specs.Listings.{last_code, notes_in}
use Rattle.q_model.specs.Message.{pending}
use Rattle.q_views.proofs.JsonLaws.{plain_objects, same_line}
use Rattle.serde_json.specs.View.{items_of, view}
use Rattle.serde_json.specs.Written.{items_have_float}
use Rattle.q_views.proofs.json.line_of.Goals as goal

pub returns-clause-line : goal.returns-clause-line
returns-clause-line g c t m is =
    let f = (g.H.Host.view c.args.host.now).files in
    let made = c.in_ok-objects.ensures.objects t m is in
    c.in_ok-text_with.ensures (ap (λ ds. items_have_float (items_of ds)) made ∙ plain_objects (last_code (notes_in f m.id)) m (pending m))
    ∙ same_line f m c.args.found.now (map view c.in_ok-objects.objects.items) is made
