-- A file is renamed: the book in which its message moved, or in which it was put aside.
use Rattle.std.proofs.Common.{◌≢◌, ◌⊎◌, ◌∙◌, ⊎_elim, sym, ap, subst}
use Rattle.q_model.specs.declared.rows.Place.TheVariants as places
use Rattle.q_model.specs.declared.spot.Area.TheVariants as areas
use Rattle.q_model.specs.Book.{Book}
use Rattle.q_model.specs.BookChanges.{move_damaged, move_message}
use Rattle.q_model.specs.IdTexts.{id_text}
use Rattle.q_model.specs.SpoolFiles.{area_of, Files, name_at}
use Rattle.q_model.specs.Values.{Spot}
use Rattle.q_host.specs.Calls.{Renames, Stays}
use Rattle.q_host.specs.Files.{moved}
use Rattle.q_host.specs.View.{View}
use Rattle.q_books.specs.HostStands.{HostStands, KeepsNotes, Takes, TellsCrashes, Tries}
use Rattle.q_books.proofs.Calls.{changed, may_change}
use Rattle.q_files.specs.Changes.{MovesMessage, PutsAside}
use Rattle.q_files.proofs.OtherPlaces.{moved_renamed}
use Rattle.q_files.proofs.Renamings.{putting_aside, renaming}

abbrev pub Renamed : Spot → Spot → View → View → Type 0
Renamed from to = Renames from.area from.name to.area to.name

abbrev pub MayRenamed : Spot → Spot → View → View → Type 0
MayRenamed from to v w = Renamed from to v w ⊎ Stays v w

module _ (from to : Spot) (b k : Book) (v w : View) (lawful : TellsCrashes v) where
  module _ (ch : MovesMessage from to b k) where
    at_places : (R : Spot → Spot → Type 0) → R from to → R (record { area = area_of ch.message.place; name = name_at ch.message.place ch.id }) (record { area = area_of ch.place; name = name_at ch.place ch.id })
    at_places R d = subst (λ (s : Spot). R (record { area = area_of ch.message.place; name = name_at ch.message.place ch.id }) s) ch.goal.spot (subst (λ (s : Spot). R s to) ch.file.spot d)

    pub moves_file : Renamed from to v w → HostStands v b → Takes b k v w
    moves_file d h = subst (λ (x : Book). Takes b x v w) (sym ch.changed)
        (changed b (λ x. move_message x ch.id ch.place) (λ f. moved f (area_of ch.message.place) (name_at ch.message.place ch.id) (area_of ch.place) (name_at ch.place ch.id))
        (renaming b ch.id ch.message ch.place ch.file.found ch.goal.place ch.goal.sound) v w lawful (at_places (λ s t. Renamed s t v w) d) h)

    pub may_move_file : MayRenamed from to v w → HostStands v b → Tries b k v w
    may_move_file d h = subst (λ (x : Book). Tries b x v w) (sym ch.changed)
        (may_change b (λ x. move_message x ch.id ch.place) (λ f. moved f (area_of ch.message.place) (name_at ch.message.place ch.id) (area_of ch.place) (name_at ch.place ch.id))
        (renaming b ch.id ch.message ch.place ch.file.found ch.goal.place ch.goal.sound) v w lawful (at_places (λ s t. MayRenamed s t v w) d) h)

  module _ (ch : PutsAside from to b k) where
    in_corrupt : (R : Spot → Spot → Type 0) → R from to → R (record { area = area_of ch.damaged.place; name = name_at ch.damaged.place ch.id }) (record { area = areas.Corrupt; name = id_text ch.id })
    in_corrupt R d = subst (λ (s : Spot). R (record { area = area_of ch.damaged.place; name = name_at ch.damaged.place ch.id }) s) ch.goal (subst (λ (s : Spot). R s to) ch.file d)

    pub puts_aside : Renamed from to v w → HostStands v b → Takes b k v w
    puts_aside d h = subst (λ (x : Book). Takes b x v w) (sym ch.changed)
        (changed b (λ x. move_damaged x ch.id places.Corrupt) (λ f. moved f (area_of ch.damaged.place) (name_at ch.damaged.place ch.id) areas.Corrupt (id_text ch.id))
        (putting_aside b ch.id ch.damaged ch.found) v w lawful (in_corrupt (λ s t. Renamed s t v w) d) h)

    pub may_put_aside : MayRenamed from to v w → HostStands v b → Tries b k v w
    may_put_aside d h = subst (λ (x : Book). Tries b x v w) (sym ch.changed)
        (may_change b (λ x. move_damaged x ch.id places.Corrupt) (λ f. moved f (area_of ch.damaged.place) (name_at ch.damaged.place ch.id) areas.Corrupt (id_text ch.id))
        (putting_aside b ch.id ch.damaged ch.found) v w lawful (in_corrupt (λ s t. MayRenamed s t v w) d) h)

-- a rename among other areas changes no deferral log
pub renames_no_notes : (from to : Spot) (v w : View) → Renamed from to v w ⊎ Stays v w → from.area ≢ areas.Defer → to.area ≢ areas.Defer → KeepsNotes v w
renames_no_notes from to v w d not_from not_to n = ⊎_elim
    (λ ch. ap (λ (f : Files). f areas.Defer n) ch.files ∙ (moved_renamed v.files from.area from.name to.area to.name).others areas.Defer n (λ e. not_from e.0) (λ e. not_to e.0))
    (λ st. ap (λ (f : Files). f areas.Defer n) st.files) d
