use Rattle.std.proofs.Common.{◌∙◌, ◌++◌, ◌∷◌, [], ap, List, map, ℕ}
use Rattle.q_listing.specs.Listings.{queue_text}
use Rattle.q_views.proofs.JsonLaws.{plain_message}
use Rattle.serde_json.specs.View.{view}
use Rattle.serde_json.specs.Written.{compact_text, has_float}
use Rattle.q_views.proofs.json.text_with.Goals as goal

pub returns : goal.returns
returns c = λ plain.
    let found = c.args.found.now in
    let head = found.head.head in
    let is = c.in_ok-object.ensures in
    c.in_ok-push.ensures.items ∙ ap (λ v. v.items ++ 10 ∷ []) c.into_bytes-line.ensures.value ∙ ap (λ (t : List ℕ). t ++ 10 ∷ []) (c.in_ok-to_string.ensures.text (ap has_float is ∙ plain_message (queue_text found.place) found.id head.arrival found.head.content_len head.sender (map view c.args.objects.items) plain) ∙ ap compact_text is)
