-- A message that comes has the form of one that a life may hear.
use Rattle.std.proofs.Common.{◌≡◌, ◌&&◌, ℕ, Bool, true, false, List, [], ◌∷◌, Option, Some, None, refl}
use Rattle.std.proofs.lemmas.Bool.{and_from}
use Rattle.std.specs.List.{list_all}
use Rattle.std.specs.Option.{is_none}
use Rattle.q_events.specs.Forms.{IsMailInForm, is_receiver}
use Rattle.q_model.specs.Texts.{is_address}
use Rattle.q_model.specs.QueueFile.{new_version}
use Rattle.q_model.specs.QueueFileBytes.{is_original}
use Rattle.q_model.specs.Values.{Receiver}
use Rattle.q_smtpd.specs.Fits.{IsFit, is_plain}
use Rattle.q_smtpd.specs.Places.{Mail}

both : (a b : Bool) → (a && b) ≡ true → (a ≡ true) × (b ≡ true)
both true b e = (refl, e)
both false b e = cc

unmapped : (address : List ℕ) (original : Option (List ℕ)) → is_none original ≡ true → is_original new_version address original ≡ true
unmapped address None h = refl
unmapped address (Some other) h = absurd cc

plain_receiver : (r : Receiver) → is_plain r ≡ true → is_receiver r ≡ true
plain_receiver r h =
    let parts = both (is_address r.address) (is_none r.original) h in
    and_from (is_address r.address) (is_original new_version r.address r.original) parts.0 (unmapped r.address r.original parts.1)

plain_receivers : (rs : List Receiver) → list_all is_plain rs ≡ true → list_all is_receiver rs ≡ true
plain_receivers [] h = refl
plain_receivers (r ∷ rs) h =
    let parts = both (is_plain r) (list_all is_plain rs) h in
    and_from (is_receiver r) (list_all is_receiver rs) (plain_receiver r parts.0) (plain_receivers rs parts.1)

pub mail_form : (mail : Mail) → IsFit mail → IsMailInForm mail.sender mail.to
mail_form mail fit = ((fit.addresses).from, plain_receivers mail.to (fit.addresses).each, fit.some)
