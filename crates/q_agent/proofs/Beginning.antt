-- What a delivery begins with.
use Rattle.std.proofs.Common.{◌≡◌, ℕ, Bool, IsTrue, true, List, length, map, Some, refl, ap, ◌∙◌}
use Rattle.std.proofs.lemmas.List.{length-map}
use Rattle.q_host.specs.View.{View as HostView}
use Rattle.q_link.specs.Records.{HopsView, IsFresh}
use Rattle.q_link.specs.Routes.{has_route}
use Rattle.q_link.specs.Views.{Told, View}
use Rattle.q_link.specs.WaitsLeft.{Spares, waits_sum}
use Rattle.q_model.specs.Values.{Receiver, Spot}
use Rattle.q_session.specs.Deliveries.{Serves}
use Rattle.q_session.specs.Mails.{IsHeadOf, Mail}
use Rattle.q_session.specs.Polls.{IsNew, IsUnused}
use Rattle.q_agent.specs.Openings.{MayBegin}
use Rattle.q_agent.specs.Readings.{IsLetter}
use Rattle.q_agent.specs.declared.delivery_session.Work.{Work}
use Rattle.q_agent.specs.declared.reading.Letter.{Letter}

fresh_unused : (hop : List ℕ) (hops : HopsView) (v : View) → IsFresh hop hops v → IsUnused v
fresh_unused hop hops v f t told = let is = (f.told t told).2 in (ap (λ (x : Told). x.received) is, ap (λ (x : Told). x.sent) is)

pub begins_by : {L : Type 0} (view : L → View) (tells : Bool) (host : HostView) (spot : Spot) (hop positions : List ℕ) (now : ℕ) (old new : HopsView) (l : Letter) (w : Work L)
    → IsLetter tells host spot positions l → IsFresh hop new (view w.link) × (has_route hop ≡ true) → IsNew spot (map (λ r. r.address) l.to) now w.session
    → Spares 0 old.waits_left (waits_sum new.waits_left (view w.link).waits_left)
    → ((tells : Bool) (mail : Mail) (v : View) → (IsTrue tells → IsHeadOf mail l.file) → IsUnused v → Serves tells mail w.session v)
    → MayBegin view tells host spot hop positions now old new (Some w)
begins_by view tells host spot hop positions now old new l w letter connected is spares serves = record {
  begins = record {
    link = connected.0;
    route = connected.1;
    session = record { spot_is = is.spot_is; to_is = refl; opened_is = is.opened_is; outcomes = is.outcomes; over = is.over };
    addresses = λ mail stands t. is.to_is ∙ letter.addresses mail stands t;
    serves = λ mail stands. serves tells mail (view w.link) (λ t. letter.head mail stands t) (fresh_unused hop new (view w.link) connected.0);
  };
  sound = record {
    goes_on = is.over;
    linked = connected.0.ended;
    usable = connected.0.usage;
    addresses = ap length is.to_is ∙ length-map l.to (λ (r : Receiver). r.address) ∙ letter.count;
  };
  spares = spares;
}
