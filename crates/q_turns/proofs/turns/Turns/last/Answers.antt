use Rattle.std.proofs.Common.{◌∙◌, ap, sym}
use Rattle.std.specs.Option.{option_copied}
use Rattle.q_turns.proofs.PeerLaws.{last_nowhere, last_there, not_gone}
use Rattle.q_turns.specs.Turns.{Turning, last_for}
use Rattle.q_turns.proofs.turns.Turns.last.Goals as goal

pub returns-in_default : goal.returns-in_default
returns-in_default c =
    last_nowhere c.args.id c.args.site.now c.self.inside.peers.items (sym c.find.ensures ∙ c.in_default.is)
    ∙ ap (λ (t : Turning). last_for c.args.id c.args.site.now t.peers) c.self.view_is

pub returns-in-Some-get : goal.returns-in-Some-get
returns-in-Some-get c =
    let s = c.stand_apart.ensures in
    last_there c.args.id c.args.site.now c.in-Some.number c.in-Some-get.peer.now c.self.inside.peers.items s.apart s.keys (sym c.find.ensures ∙ c.in-Some.is) (sym c.get.ensures ∙ ap option_copied c.in-Some-get.is)
    ∙ ap (λ (t : Turning). last_for c.args.id c.args.site.now t.peers) c.self.view_is

-- it was found under that number
pub returns-in-None : goal.returns-in-None
returns-in-None c =
    absurd (not_gone c.args.id c.args.site.now c.in-Some.number c.self.inside.peers.items c.stand_apart.ensures.apart (sym c.find.ensures ∙ c.in-Some.is) (sym c.get.ensures ∙ ap option_copied c.in-None.is))
