-- A byte of a content is heard.
use Rattle.std.proofs.Common.{◌≡◌, ℕ, true, false, List, [], Some, refl, sym, subst}
use Rattle.q_smtpd.specs.Hearings.{Hears, Holds}
use Rattle.q_smtpd.specs.Intakes.{comes, content_ends}
use Rattle.q_smtpd.specs.Keeping.{HoldsBytes, HoldsContent, HoldsLine, Kept, Took}
use Rattle.q_smtpd.specs.Places.{Came, Envelope, Place, commands, contents, left}
use Rattle.q_smtpd.specs.declared.hearing.Heard.{Heard}
use Rattle.q_smtpd.specs.declared.hearing.Heard.TheVariants.{Nothing}
use Rattle.q_smtpd.specs.declared.hearing.Hearing.{Hearing}
use Rattle.q_smtpd.specs.declared.hearing.Stage.TheVariants.{Contents}

pub content_ended : (p : Place) (b : ℕ) (h new : Hearing) (k : Kept) (heard : Heard) → Holds p h → h.stage ≡ Contents
    → ((d : Envelope) (text line : List ℕ) → HoldsContent text line h.content → Took d (comes (contents d text line) b) true k)
    → ((d : Envelope) (content : List ℕ) → h.course.envelope ≡ Some d → HoldsLine [] h.line → HoldsBytes content k.bytes k.is_big → Hears (content_ends d content) heard new)
    → Hears (comes p b) heard new
content_ended (commands c line) b h new k heard holds is took ends = let s = holds.stage in absurd cc
content_ended (contents d text line) b h new k heard holds is took ends =
    let t = took d text line holds.content in
    subst (λ (x : Came). Hears x heard new) (sym t.1) (ends d t.0 holds.envelope holds.line_is t.2)
content_ended left b h new k heard holds is took ends = absurd cc

pub content_on : (p : Place) (b : ℕ) (h : Hearing) (k : Kept) → Holds p h → h.stage ≡ Contents
    → ((d : Envelope) (text line : List ℕ) → HoldsContent text line h.content → Took d (comes (contents d text line) b) false k)
    → Hears (comes p b) Nothing (record h { content = k })
content_on (commands c line) b h k holds is took = let s = holds.stage in absurd cc
content_on (contents d text line) b h k holds is took =
    let t = took d text line holds.content in
    subst (λ (x : Came). Hears x Nothing (record h { content = k })) (sym t.2)
    (refl, record { stage = holds.stage; envelope = holds.envelope; line_is = holds.line_is; content = t.3 })
content_on left b h k holds is took = absurd cc
