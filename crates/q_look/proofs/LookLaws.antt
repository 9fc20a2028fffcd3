-- What a look finds is the true answer to it.
use Rattle.std.proofs.Common.{◌≡◌, ℕ, ◌≤◌, ◌^◌, true, false, List, Option, Some, None, refl, sym, ap, subst, ◌∙◌}
use Rattle.std.specs.Option.{IfSome, option_map_or}
use Rattle.std.specs.Prelude.{IsSome}
use Rattle.q_books.specs.Spots.{spot_of}
use Rattle.q_core.specs.Agrees.{Agrees, found_active, found_at, found_incoming, found_next}
use Rattle.q_core.specs.declared.decision.Found.{Found}
use Rattle.q_core.specs.declared.decision.Found.TheVariants.{Nothing}
use Rattle.q_core.specs.declared.state.Core.{Core}
use Rattle.q_core.proofs.AgreesLaws.{same_admitted}
use Rattle.q_model.specs.declared.id.Id.{Id}
use Rattle.q_model.specs.declared.rows.DeferredName.{DeferredName}
use Rattle.q_model.specs.declared.rows.Place.{Place}
use Rattle.q_model.specs.declared.rows.Place.TheVariants as places
use Rattle.q_model.specs.declared.spot.Area.TheVariants as areas
use Rattle.q_model.specs.FilesStand.{Stands}
use Rattle.q_model.specs.IdTexts.{IsId}
use Rattle.q_model.specs.Ledger.{Ledger}
use Rattle.q_model.specs.Memory.{is_admitted}
use Rattle.q_model.specs.Orderly.{is_orderly}
use Rattle.q_model.specs.Places.{is_corrupt}
use Rattle.q_model.specs.Scans.{scan_next}
use Rattle.q_model.specs.Settings.{World}
use Rattle.q_model.specs.SpoolFiles.{file_at, Files, IsPlace}
use Rattle.q_model.specs.Values.{Spot}
use Rattle.q_look.specs.FileFacts.{found_in}
use Rattle.q_look.specs.FirstNames.{IsAfterPlace, IsFirstWanted, NamesDue, NamesId, NamesLeftover}
use Rattle.q_look.proofs.BookFacts.{found_same}
use Rattle.q_look.proofs.DeferredLeasts.{deferred_first, deferred_none, none_later}
use Rattle.q_look.proofs.Leasts.{active_first, active_none, incoming_first, incoming_none}

-- what was read of a file at its spot
abbrev pub IsSaid : Files → Spot → DeferredName → Found → Type 0
IsSaid f spot d found = IfSome (f spot.area spot.name) (λ bytes. found ≡ found_in f d.due d.id bytes)

module _ (f g : Files) (l : Ledger) (same : g ≡ f) (h : Stands f l.book) (orderly : is_orderly l.book ≡ true) where
  said : (p : Place) (d : DeferredName) (spot : Spot) (found : Found) → IsPlace p → is_corrupt p ≡ false → IsId d.id → IsSome (file_at f p d.id) → spot ≡ spot_of p d.id → IsSaid g spot d found → found ≡ found_at l d.due d.id
  said p d spot found hp sound hi there is reads =
      let here : IsSaid f (spot_of p d.id) d found = subst (λ (s : Spot). IsSaid f s d found) is (subst (λ (k : Files). IsSaid k spot d found) same reads) in
      by (file_at f p d.id) refl there here
    where
      by : (o : Option (List ℕ)) → file_at f p d.id ≡ o → IsSome o → IfSome o (λ bytes. found ≡ found_in f d.due d.id bytes) → found ≡ found_at l d.due d.id
      by None e some k = absurd cc
      by (Some bytes) e some k = k ∙ found_same f l h orderly d.due p d.id bytes hp sound hi e

  -- incoming
  pub said_incoming : (o : Option DeferredName) (d : DeferredName) (spot : Spot) (found : Found) → o ≡ Some d → IsFirstWanted NamesId (f areas.Incoming) None o → spot ≡ spot_of places.Incoming d.id → IsSaid g spot d found → found ≡ found_incoming l
  said_incoming o d spot found is least place reads =
      let first = subst (IsFirstWanted NamesId (f areas.Incoming) None) is least in
      let named = first.ahead.named in
      said places.Incoming d spot found tt refl named.form (subst (λ (n : List ℕ). IsSome (f areas.Incoming n)) (sym named.says) first.ahead.there) place reads
      ∙ ap (λ (due : ℕ). found_at l due d.id) named.due
      ∙ ap (λ (x : Option Id). option_map_or (λ id. found_at l 0 id) x Nothing) (sym (incoming_first f l.book h d first))

  -- active
  pub said_active : (w : World) (core : Core) (o : Option DeferredName) (d : DeferredName) (spot : Spot) (found : Found) → Agrees w core l → o ≡ Some d → IsFirstWanted (NamesLeftover core) (f areas.Active) None o → spot ≡ spot_of places.Active d.id → IsSaid g spot d found → found ≡ found_active l
  said_active w core o d spot found agrees is least place reads =
      let first = subst (IsFirstWanted (NamesLeftover core) (f areas.Active) None) is least in
      let named = first.ahead.named.named in
      said places.Active d spot found tt refl named.form (subst (λ (n : List ℕ). IsSome (f areas.Active n)) (sym named.says) first.ahead.there) place reads
      ∙ ap (λ (due : ℕ). found_at l due d.id) named.due
      ∙ ap (λ (x : Option Id). option_map_or (λ id. found_at l 0 id) x Nothing) (sym (active_first f l.book h core (is_admitted l) (same_admitted agrees.matches.parts) d first))

  -- deferred
  pub said_deferred : (place : Option DeferredName) (until : ℕ) (after : Option (List ℕ)) (o : Option DeferredName) (d : DeferredName) (spot : Spot) (found : Found) → IsAfterPlace place after → o ≡ Some d → IsFirstWanted (NamesDue until) (f areas.Deferred) after o → spot ≡ spot_of (places.Deferred d.due) d.id → IsSaid g spot d found → found ≡ found_next l (scan_next l.book (record { place = place; until = until }))
  said_deferred place until after o d spot found behind is least at reads =
      let first = subst (IsFirstWanted (NamesDue until) (f areas.Deferred) after) is least in
      let named = first.ahead.named in
      said (places.Deferred d.due) d spot found named.digits refl named.form (subst (λ (n : List ℕ). IsSome (f areas.Deferred n)) (sym named.says) first.ahead.there) at reads
      ∙ ap (λ (x : Option DeferredName). option_map_or (λ (n : DeferredName). found_at l n.due n.id) x Nothing) (sym (deferred_first f l.book h until place after behind d first))

module _ (f : Files) (l : Ledger) (h : Stands f l.book) where
  pub nothing_incoming : (o : Option DeferredName) → o ≡ None → IsFirstWanted NamesId (f areas.Incoming) None o → Nothing ≡ found_incoming l
  nothing_incoming o is least = ap (λ (x : Option Id). option_map_or (λ id. found_at l 0 id) x Nothing) (sym (incoming_none f l.book h (subst (IsFirstWanted NamesId (f areas.Incoming) None) is least)))

  pub nothing_active : (w : World) (core : Core) (o : Option DeferredName) → Agrees w core l → o ≡ None → IsFirstWanted (NamesLeftover core) (f areas.Active) None o → Nothing ≡ found_active l
  nothing_active w core o agrees is least = ap (λ (x : Option Id). option_map_or (λ id. found_at l 0 id) x Nothing) (sym (active_none f l.book h core (is_admitted l) (same_admitted agrees.matches.parts) (subst (IsFirstWanted (NamesLeftover core) (f areas.Active) None) is least)))

  pub nothing_deferred : (place : Option DeferredName) (until : ℕ) (after : Option (List ℕ)) (o : Option DeferredName) → IsAfterPlace place after → o ≡ None → IsFirstWanted (NamesDue until) (f areas.Deferred) after o → Nothing ≡ found_next l (scan_next l.book (record { place = place; until = until }))
  nothing_deferred place until after o behind is least = ap (λ (x : Option DeferredName). option_map_or (λ (n : DeferredName). found_at l n.due n.id) x Nothing) (sym (deferred_none f l.book h until place after behind (subst (IsFirstWanted (NamesDue until) (f areas.Deferred) after) is least)))

  pub nothing_later : (place : Option DeferredName) (a : DeferredName) (until : ℕ) → place ≡ Some a → 10 ^ 12 ≤ a.due → Nothing ≡ found_next l (scan_next l.book (record { place = place; until = until }))
  nothing_later place a until is late =
      ap (λ (x : Option DeferredName). option_map_or (λ (n : DeferredName). found_at l n.due n.id) x Nothing) (sym (none_later f l.book h a until late))
      ∙ ap (λ (x : Option DeferredName). found_next l (scan_next l.book (record { place = x; until = until }))) (sym is)
