use Rattle.std.proofs.Common.{◌≡◌, ◌∙◌, List, subst, sym, true, ℕ}
use Rattle.q_load.proofs.Addresses.{recipient_form}
use Rattle.q_model.specs.Texts.{is_address}
use Rattle.q_load.proofs.mails.recipient.Goals as goal

pub address_of-address-requires : goal.address_of-address-requires
address_of-address-requires c =
    subst (λ (t : List ℕ). is_address t ≡ true) (sym (c.as_slice.ensures.value ∙ c.in_ok-text.ensures)) (recipient_form c.args.number c.args.place c.requires)
