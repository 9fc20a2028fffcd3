-- What a skip and a reply add to the log of their message: the core has heard of them already, and
-- neither changes the book, the clock or who is in memory.
use Rattle.std.proofs.Common.{◌≡◌, ◌∙◌, ◌++◌, ◌&&◌, ◌==◌, ℕ, true, false, List, length, Option, Some, None, refl, sym, ap, subst}
use Rattle.std.specs.List.{list_any}
use Rattle.std.specs.Option.{option_map, option_map_or}
use Rattle.std.proofs.lemmas.Bool.{and_parts, eqb-true}
use Rattle.q_model.specs.declared.entry.Entry.TheVariants as entries
use Rattle.q_model.specs.declared.id.Id.{Id}
use Rattle.q_model.specs.declared.outcome.Note.{Note}
use Rattle.q_model.specs.declared.outcome.Outcome.{Outcome}
use Rattle.q_model.specs.declared.outcome.SiteState.{SiteState}
use Rattle.q_model.specs.declared.rows.Delivery.{Delivery}
use Rattle.q_model.specs.declared.rows.Row.{Row}
use Rattle.q_model.specs.declared.spot.Area.TheVariants as areas
use Rattle.q_model.specs.Deliveries.{flight_of}
use Rattle.q_model.specs.IdTexts.{id_text, IsId}
use Rattle.q_model.specs.Ledger.{Ledger}
use Rattle.q_model.specs.Memory.{is_admitted}
use Rattle.q_model.specs.Replies.{fits_state, may_reply}
use Rattle.q_model.specs.SiteRecords.{is_dead_site}
use Rattle.q_model.specs.Settings.{World}
use Rattle.q_model.specs.Skips.{unqueued}
use Rattle.q_model.specs.Starts.{is_row}
use Rattle.q_model.specs.Step.{after, change}
use Rattle.q_model.specs.Values.{Site}
use Rattle.q_host.specs.View.{View}
use Rattle.q_laws.specs.Consistency.{IsConsistent}
use Rattle.q_laws.proofs.Decisions.{next_decided}
use Rattle.q_laws.proofs.Delivered.{this_row}
use Rattle.q_laws.proofs.Living.{inner_now}
use Rattle.q_laws.proofs.Members.{all_at, any_in, find_in}
use Rattle.q_laws.proofs.Synced.{admitted_active}
use Rattle.q_lives.proofs.Books.{after_is}
use Rattle.q_books.specs.HostStands.{HostStands, KeepsOtherNotes}
use Rattle.q_books.specs.Notes.{delays_at, HasNotes}
use Rattle.q_core.specs.Agrees.{Agrees}
use Rattle.q_core.specs.Queries.{Flight, flight_shown}
use Rattle.q_core.specs.declared.decision.Decision.{Decision}
use Rattle.q_core.specs.declared.state.Core.{Core}
use Rattle.q_engine.specs.Delays.{AddsDelays, row_outcomes}
use Rattle.q_engine.specs.KeptNotes.{StoresNotes}
use Rattle.q_engine.specs.Stands.{EngineStands, HasDecided}
use Rattle.q_engine.specs.declared.engine.Engine.{Engine}
use Rattle.q_engine.proofs.Admissions.{outcomes_admitted, reply_admitted}
use Rattle.q_engine.proofs.Delayed.{delays_same}
use Rattle.q_engine.proofs.QuietEvents.{reply_book, skip_book}
use Rattle.q_engine.proofs.StoredNotes.{files_keep, message_form, reply_notes, skip_notes}

-- ---- who is in memory

-- the id of a message in memory names a file
admitted_form : (w : World) (l : Ledger) (id : Id) (v : View) → IsConsistent w l → HostStands v l.book → is_admitted l id ≡ true → IsId id
admitted_form w l id v c h here = let (m, active) = admitted_active w l id c here in message_form v l.book id m h active.there

-- ---- skip

module _ (w : World) (l : Ledger) (id : Id) (site : Site) (ps : List ℕ) (d : Decision) (engine : Engine) (v m x : View) (h : HasDecided w l d (entries.Skip id site ps) engine v) where
  skip_here : is_admitted l id ≡ true
  skip_here =
      let may = (next_decided w l (entries.Skip id site ps) h.was.consistent h.following).0 in
      let row = any_in (is_row id site ps) l.waiting (and_parts (list_any (is_row id site ps) l.waiting) (is_dead_site l site) may).0 in
      subst (λ (i : Id). is_admitted l i ≡ true) (this_row id site ps row.0 row.2).name (all_at (λ (r : Row). is_admitted l r.id) row.0 l.waiting h.was.consistent.memory.waiting row.1)

  pub skip_stored : AddsDelays engine.core.value id ps (row_outcomes ps) v.files m.files → KeepsOtherNotes (id_text id) v m → x.files ≡ m.files → StoresNotes w l (entries.Skip id site ps) v.files x.files
  skip_stored adds others same =
      let e = entries.Skip id site ps in
      let k = after w l e in
      let still : is_admitted k id ≡ true = (after_is w l e).admitted id ∙ outcomes_admitted w id id ps (row_outcomes ps) (unqueued l id site ps) ∙ skip_here in
      let delays = delays_same w l k id ps (row_outcomes ps) ((after_is w l e).book ∙ sym (skip_book w l id site ps)) (inner_now w l e refl) in
      skip_notes w l id v m x (admitted_form w l id v h.was.consistent h.host skip_here) others (files_keep m x same) skip_here site ps
      (λ notes has. subst (λ (ns : List Note). HasNotes (notes ++ ns) (m.files areas.Defer (id_text id))) delays (adds w k h.core still notes has))

-- ---- reply

-- the delivery of a number, as the core shows it
record Shown (l : Ledger) (number : ℕ) (id : Id) (ps : List ℕ) : Type 0 where
  delivery : Delivery
  there : flight_of l number ≡ Some delivery
  named : delivery.row.id ≡ id
  positions : delivery.row.positions ≡ ps

shown_by : (l : Ledger) (number : ℕ) (flight : Flight) (ps : List ℕ) (o : Option Delivery) → flight_of l number ≡ o → Some flight ≡ option_map flight_shown o → Some ps ≡ option_map (λ (f : Delivery). f.row.positions) o → Shown l number flight.id ps
shown_by l number flight ps None e a b = absurd cc
shown_by l number flight ps (Some f) e a b =
    let same : flight ≡ flight_shown f = cc in
    let listed : ps ≡ f.row.positions = cc in
    record { delivery = f; there = e; named = ap (λ (x : Flight). x.id) (sym same); positions = sym listed }

module _ (w : World) (l : Ledger) (number : ℕ) (state : SiteState) (os : List Outcome) (engine : Engine) (v m x : View) (h : EngineStands w engine v l) (flight : Flight) (ps : List ℕ)
    (is_shown : Some flight ≡ option_map flight_shown (flight_of l number)) (is_listed : Some ps ≡ option_map (λ (f : Delivery). f.row.positions) (flight_of l number)) where
  found : Shown l number flight.id ps
  found = shown_by l number flight ps (flight_of l number) refl is_shown is_listed

  -- there is an outcome for each position
  pub reply_lengths : may_reply l number state os ≡ true → length ps ≡ length os
  reply_lengths may =
      let there : ((length os == length found.delivery.row.positions) && fits_state state os) ≡ true = ap (λ (o : Option Delivery). option_map_or (λ (f : Delivery). (length os == length f.row.positions) && fits_state state os) o false) (sym found.there) ∙ may in
      sym (eqb-true (length os) (length found.delivery.row.positions) (and_parts (length os == length found.delivery.row.positions) (fits_state state os) there).0 ∙ ap length found.positions)

  reply_here : is_admitted l flight.id ≡ true
  reply_here = subst (λ (i : Id). is_admitted l i ≡ true) found.named
      (all_at (λ (f : Delivery). is_admitted l f.row.id) found.delivery l.flights h.core.consistent.memory.flights (find_in (λ (f : Delivery). f.number == number) found.delivery l.flights found.there).0)

  pub reply_stored : (left : Core) → Agrees w left (after w l (entries.Reply number state os)) → AddsDelays left flight.id ps os v.files m.files → KeepsOtherNotes (id_text flight.id) v m → x.files ≡ m.files → StoresNotes w l (entries.Reply number state os) v.files x.files
  reply_stored left agrees adds others same =
      let e = entries.Reply number state os in
      let k = after w l e in
      let id = flight.id in
      let changed : is_admitted (change w l e) id ≡ is_admitted l id = reply_admitted w l state os id (flight_of l number) in
      let still : is_admitted k id ≡ true = (after_is w l e).admitted id ∙ changed ∙ reply_here in
      let delays = delays_same w l k id ps os ((after_is w l e).book ∙ sym (reply_book w l number state os)) (inner_now w l e refl) in
      let own : (notes : List Note) → HasNotes notes (v.files areas.Defer (id_text id)) → HasNotes (notes ++ delays_at w l id ps os) (m.files areas.Defer (id_text id)) =
      λ notes has. subst (λ (ns : List Note). HasNotes (notes ++ ns) (m.files areas.Defer (id_text id))) delays (adds w k agrees still notes has) in
      reply_notes w l id v m x (admitted_form w l id v h.core.consistent h.host reply_here) others (files_keep m x same) reply_here number state os found.delivery found.there found.named
      (subst (λ (qs : List ℕ). (notes : List Note) → HasNotes notes (v.files areas.Defer (id_text id)) → HasNotes (notes ++ delays_at w l id qs os) (m.files areas.Defer (id_text id))) (sym found.positions) own)
