-- A command that is left unfinished gave all rests that its words allow.
use Rattle.std.proofs.Common.{◌≡◌, subst, sym, ℕ}
use Rattle.q_door.specs.Doors.{DoorView}
use Rattle.q_drain.specs.Drained.{AreTooFew, CountsRests}
use Rattle.q_link.specs.Records.{HopsView}
use Rattle.q_listen.specs.ListenEnds.{AreTooFew as AreTooFewAtDoor, CountsRests as CountsDoorRests}
use Rattle.q_top.specs.Courses.{Connections, Entrances}
use Rattle.q_top.specs.Qmgr.{GaveAllRests, NeedsMoreRests}
use Rattle.q_words.specs.declared.request.Request.{Request}
use Rattle.q_words.specs.declared.request.Request.TheVariants.{Drain, Listen}

module _ (request : Request) (rests n : ℕ) where
  module _ (is : request ≡ Drain rests) where
    pub gave_drain : (c : Connections) (e : Entrances) → (n ≡ rests) × CountsRests c.before c.after rests → GaveAllRests request n c e
    gave_drain c e (same, counted) =
        subst (λ (r : Request). GaveAllRests r n c e) (sym is) (same, subst (λ (k : ℕ). CountsRests c.before c.after k) (sym same) counted)

    pub drain_needs : (hops : HopsView) (door : DoorView) → AreTooFew n hops → NeedsMoreRests request n hops door
    drain_needs hops door few = subst (λ (r : Request). NeedsMoreRests r n hops door) (sym is) few

  module _ (port count : ℕ) (is : request ≡ Listen port count rests) where
    pub gave_listen : (c : Connections) (e : Entrances) → (n ≡ rests) × CountsDoorRests e.before e.after rests → GaveAllRests request n c e
    gave_listen c e (same, counted) =
        subst (λ (r : Request). GaveAllRests r n c e) (sym is) (same, subst (λ (k : ℕ). CountsDoorRests e.before e.after k) (sym same) counted)

    pub listen_needs : (hops : HopsView) (door : DoorView) → AreTooFewAtDoor n door → NeedsMoreRests request n hops door
    listen_needs hops door few = subst (λ (r : Request). NeedsMoreRests r n hops door) (sym is) few
