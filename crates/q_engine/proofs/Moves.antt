-- What a decision that moves a file does to the book, and where the file stands.
use Rattle.std.proofs.Common.{◌≡◌, ◌≢◌, ◌&&◌, ◌==◌, ℕ, false, not, List, Option, Some, None, option_map, refl, sym, ap, subst, ◌∙◌, ⊎_elim, inl, inr}
use Rattle.std.specs.Option.{IsSome, option_map_or}
use Rattle.std.proofs.lemmas.Bool.{and_parts}
use Rattle.q_model.specs.declared.entry.Entry.{Entry}
use Rattle.q_model.specs.declared.entry.Entry.TheVariants as entries
use Rattle.q_model.specs.declared.id.Id.{Id}
use Rattle.q_model.specs.declared.rows.Place.{Place}
use Rattle.q_model.specs.declared.rows.Place.TheVariants as places
use Rattle.q_model.specs.declared.spot.Area.{Area}
use Rattle.q_model.specs.declared.spot.Area.TheVariants as areas
use Rattle.q_model.specs.Book.{Book, Damaged, damaged_of, message_of}
use Rattle.q_model.specs.Finishing.{is_clean}
use Rattle.q_model.specs.Ledger.{Ledger}
use Rattle.q_model.specs.Lists.{has_none}
use Rattle.q_model.specs.Memory.{has_rows, is_admitted, is_idle, unread_of}
use Rattle.q_model.specs.Message.{Message, pending}
use Rattle.q_model.specs.Settings.{World}
use Rattle.q_model.specs.SpoolFiles.{area_of, file_at, IsPlace}
use Rattle.q_model.specs.Step.{change}
use Rattle.q_model.specs.Times.{due}
use Rattle.q_model.specs.Values.{Spot}
use Rattle.q_model.proofs.StandDamaged.{Stands-damaged}
use Rattle.q_host.specs.Files.{same_place}
use Rattle.q_host.specs.View.{Remains, View}
use Rattle.q_host.proofs.Puts.{other_area}
use Rattle.q_laws.proofs.Decisions.{next_decided}
use Rattle.q_laws.proofs.Synced.{admitted_active}
use Rattle.q_books.specs.HostStands.{Between, HostStands, Takes, Tries}
use Rattle.q_books.specs.Spots.{spot_of}
use Rattle.q_core.specs.Deciding.{IsFoundDamaged, IsPicked}
use Rattle.q_core.specs.declared.decision.Decision.{Decision}
use Rattle.q_core.specs.declared.decision.Decision.TheVariants as decisions
use Rattle.q_files.specs.Changes.{MovesMessage, PutsAside}
use Rattle.q_engine.specs.Stands.{HasDecided, IsNextEntry}
use Rattle.q_engine.specs.Steps.{WasGivenUp}
use Rattle.q_host.specs.declared.error.HostError.{HostError}
use Rattle.q_engine.proofs.CarriedOut.{refused}
use Rattle.q_engine.specs.declared.engine.Engine.{Engine}
use Rattle.q_engine.proofs.Speaking.{back_speaks, file_there, in_active}

-- spots in two areas are two places
pub apart : (s t : Spot) (a b : Area) → s.area ≡ a → t.area ≡ b → b ≢ a → same_place s.area s.name t.area t.name ≡ false
apart s t a b here there differ =
    ap (λ (x : Area). same_place x s.name t.area t.name) here ∙ ap (λ (x : Area). same_place a s.name x t.name) there ∙ other_area a s.name b t.name differ

-- the file that moves is there
pub moved_there : (v : View) (b k : Book) (from to : Spot) → HostStands v b → MovesMessage from to b k → IsSome (v.files from.area from.name)
moved_there v b k from to h moves = file_there v b moves.id moves.message from h moves.file

pub aside_there : (v : View) (b k : Book) (from to : Spot) → HostStands v b → PutsAside from to b k → IsSome (v.files from.area from.name)
aside_there v b k from to h puts =
    let old = Stands-damaged v.files b puts.id puts.damaged h.reads puts.found in
    let here : file_at v.files puts.damaged.place puts.id ≡ Some old.0.bytes = sym (ap (file_at v.files puts.damaged.place) old.1) ∙ old.0.there in
    subst (λ (o : Option (List ℕ)). IsSome o) (sym (ap (λ (t : Spot). v.files t.area t.name) puts.file ∙ here)) refl

-- the entry that was decided, and how the book goes from spot to spot
pub record Moving (w : World) (l : Ledger) (d : Decision) (e : Entry) (engine : Engine) (v : View) (from to : Spot) : Type 0 where
  pub decided : HasDecided w l d e engine v
  pub moves : MovesMessage from to l.book (change w l e).book

pub record Aside (w : World) (l : Ledger) (d : Decision) (e : Entry) (engine : Engine) (v : View) (from to : Spot) : Type 0 where
  pub decided : HasDecided w l d e engine v
  pub puts : PutsAside from to l.book (change w l e).book

module _ (w : World) (l : Ledger) (id : Id) (engine : Engine) (v : View) (from to : Spot) where
  pub back_moves : IsNextEntry w l (Some (decisions.Back id)) engine v → from ≡ spot_of places.Active id → to ≡ spot_of places.Incoming id → Moving w l (decisions.Back id) (entries.Back id) engine v from to
  back_moves n here there =
      let h = subst (λ (x : Entry). HasDecided w l (decisions.Back id) x engine v) n.1.of n.1 in
      let a = back_speaks w l id h.was.consistent h.following in
      record {
        decided = h;
        moves = record { id = id; message = a.0; place = places.Incoming; file = in_active l id a.0 a.1 from here; goal = record { place = tt; sound = refl; spot = there }; changed = refl };
      }

  pub defer_moves : (due : ℕ) → IsNextEntry w l (Some (decisions.Defer id due)) engine v → IsPlace (places.Deferred due) → from ≡ spot_of places.Active id → to ≡ spot_of (places.Deferred due) id
      → Moving w l (decisions.Defer id due) (entries.Defer id due) engine v from to
  defer_moves until n fits here there =
      let h = subst (λ (x : Entry). HasDecided w l (decisions.Defer id until) x engine v) n.1.of n.1 in
      let may = (next_decided w l (entries.Defer id until) h.was.consistent h.following).0 in
      let idle = (and_parts (is_idle l id) (option_map_or (λ (m : Message). not (has_none (pending m)) && is_clean m && (until == due w l.now m)) (message_of l.book id) false) may).0 in
      let first = (and_parts (is_admitted l id && (unread_of l id == 0)) (not (has_rows l id)) idle).0 in
      let a = admitted_active w l id h.was.consistent (and_parts (is_admitted l id) (unread_of l id == 0) first).0 in
      record {
        decided = h;
        moves = record { id = id; message = a.0; place = places.Deferred until; file = in_active l id a.0 a.1 from here; goal = record { place = fits; sound = refl; spot = there }; changed = refl };
      }

  some_place : {A : Type 0} (f : A → Place) (place : Place) (o : Option A) → option_map f o ≡ Some place → (x : A) × (o ≡ Some x) × (f x ≡ place)
  some_place f place None h = absurd cc
  some_place f place (Some x) h = let same : f x ≡ place = cc in (x, refl, same)

  pub corrupt_moves : (place : Place) → IsNextEntry w l (Some (decisions.Corrupt id place)) engine v → from ≡ spot_of place id → to ≡ spot_of places.Corrupt id
      → Aside w l (decisions.Corrupt id place) (entries.Corrupt id) engine v from to
  corrupt_moves place n here there =
      let h = subst (λ (x : Entry). HasDecided w l (decisions.Corrupt id place) x engine v) n.1.of n.1 in
      let a = some_place (λ (x : Damaged). x.place) place (damaged_of l.book id) h.placed in
      record {
        decided = h;
        puts = record { id = id; damaged = a.0; found = a.1; file = here ∙ ap (λ (p : Place). spot_of p id) (sym a.2); goal = there; changed = refl };
      }

  pub admit_moves : (place : Place) → IsNextEntry w l (Some (decisions.Admit id place)) engine v → from ≡ spot_of place id → to ≡ spot_of places.Active id
      → Moving w l (decisions.Admit id place) (entries.Admit id) engine v from to
  admit_moves place n here there =
      let h = subst (λ (x : Entry). HasDecided w l (decisions.Admit id place) x engine v) n.1.of n.1 in
      let a = some_place (λ (x : Message). x.place) place (message_of l.book id) h.placed in
      record {
        decided = h;
        moves = record { id = id; message = a.0; place = places.Active; file = record { found = a.1; spot = here ∙ ap (λ (p : Place). spot_of p id) (sym a.2) }; goal = record { place = tt; sound = refl; spot = there }; changed = refl };
      }

first_of_two : (b k : Book) (told : List ℕ) (c : Remains) → Between b b told c → Between b k told c
first_of_two b k told c h = record { told = h.told; book = ⊎_elim (λ x. inl x) (λ x. inl x) h.book }

-- a call that kept the book, before the change
kept_tried : (b k : Book) (v x : View) → Takes b b v x → Tries b k v x
kept_tried b k v x kept = record {
  told = kept.told;
  stands = inl kept.stands;
  moments = record {
    later = kept.moments.later;
    each = λ c left. first_of_two b k v.told c (kept.moments.each c left);
    before = λ t c early left. ⊎_elim (λ h. inl h) (λ h. inr (first_of_two b k v.told c h)) (kept.moments.before t c early left);
  };
}

-- the deferral log was perhaps dropped, and nothing more was done
pub dropped_only : (w : World) (l : Ledger) (d : Decision) (e : Entry) (engine : Engine) (v x : View) (error : HostError) → HasDecided w l d e engine v → Takes l.book l.book v x → WasGivenUp w l error v x
dropped_only w l d e engine v x error h kept =
    let k = (change w l e).book in
    refused w l d e engine v h k error x refl (kept_tried l.book k v x kept)

-- ---- a name can tell the places from which files are moved

pub picked_place : (place : Place) → IsPicked place → IsPlace place
picked_place places.Incoming h = tt
picked_place places.Active h = tt
picked_place (places.Deferred due) h = h
picked_place places.Hold h = tt
picked_place places.Corrupt h = tt

pub damaged_place : (place : Place) → IsFoundDamaged place → IsPlace place
damaged_place places.Incoming h = tt
damaged_place places.Active h = tt
damaged_place (places.Deferred due) h = h
damaged_place places.Hold h = tt
damaged_place places.Corrupt h = tt

pub not_active : (place : Place) → IsPicked place → areas.Active ≢ area_of place
not_active places.Incoming h = λ e. absurd cc
not_active places.Active h = absurd h
not_active (places.Deferred due) h = λ e. absurd cc
not_active places.Hold h = λ e. absurd cc
not_active places.Corrupt h = λ e. absurd cc

pub not_corrupt : (place : Place) → IsFoundDamaged place → areas.Corrupt ≢ area_of place
not_corrupt places.Incoming h = λ e. absurd cc
not_corrupt places.Active h = λ e. absurd cc
not_corrupt (places.Deferred due) h = λ e. absurd cc
not_corrupt places.Hold h = λ e. absurd cc
not_corrupt places.Corrupt h = absurd h
