-- What an entry does to deferral logs, by what the calls that carry it out do; and entries one behind
-- another.
use Rattle.std.proofs.Common.{◌≡◌, ◌≢◌, ◌∙◌, ◌++◌, ◌&&◌, ◌||◌, ℕ, Bool, true, false, not, List, [], ◌∷◌, Option, Some, None, is_some, refl, sym, ap, subst, if◌then◌else◌, append-nil, ◌⊎◌, inl, inr}
use Rattle.std.specs.List.{list_any}
use Rattle.std.specs.Option.{option_map, option_map_or}
use Rattle.std.proofs.lemmas.Bool.{or_from, or_left, or_parts}
use Rattle.q_model.specs.declared.entry.Entry.{Entry}
use Rattle.q_model.specs.declared.entry.Entry.TheVariants as entries
use Rattle.q_model.specs.declared.event.Mode.{Mode}
use Rattle.q_model.specs.declared.id.Id.{Id}
use Rattle.q_model.specs.declared.outcome.Note.{Note}
use Rattle.q_model.specs.declared.outcome.Outcome.{Outcome}
use Rattle.q_model.specs.declared.outcome.SiteState.{SiteState}
use Rattle.q_model.specs.declared.rows.Delivery.{Delivery}
use Rattle.q_model.specs.declared.rows.Place.{Place}
use Rattle.q_model.specs.declared.rows.Place.TheVariants as places
use Rattle.q_model.specs.declared.spot.Area.TheVariants as areas
use Rattle.q_model.specs.Book.{Book, damaged_of, message_of, stands}
use Rattle.q_model.specs.Deliveries.{flight_of}
use Rattle.q_model.specs.Ids.{id_eq}
use Rattle.q_model.specs.IdTexts.{id_text, IsId}
use Rattle.q_model.specs.Ledger.{Ledger}
use Rattle.q_model.specs.Message.{Message}
use Rattle.q_model.specs.Memory.{is_admitted}
use Rattle.q_model.specs.Settings.{World}
use Rattle.q_model.specs.Step.{after, after_all}
use Rattle.q_model.specs.SpoolFiles.{area_of, Files}
use Rattle.q_model.specs.Values.{Site, Spot}
use Rattle.q_model.proofs.IdLaws.{id_eq-refl, id_text-injective}
use Rattle.q_model.proofs.RunLaws.{after_all-append}
use Rattle.q_model.proofs.StandChanges.{Stands-message}
use Rattle.q_host.specs.Files.{same_place}
use Rattle.q_host.specs.View.{View}
use Rattle.q_host.proofs.Puts.{same_place-true}
use Rattle.q_laws.proofs.Distinct.{id_cases}
use Rattle.q_books.specs.HostStands.{HostStands, KeepsNotes, KeepsOtherNotes}
use Rattle.q_books.specs.Spots.{spot_of}
use Rattle.q_books.specs.Notes.{delays_at, HasNotes, next_notes, notes_after}
use Rattle.q_lives.specs.Standing.{is_remove_of}
use Rattle.q_restart.specs.Openings.{KeepsOwnNotes}
use Rattle.q_engine.specs.Delays.{row_outcomes}
use Rattle.q_engine.specs.KeptNotes.{AddsNotes, admitted_after, is_reset, next_admitted, ReadsAsNotes, StoresAllNotes, StoresNotes}
use Rattle.q_engine.proofs.Admissions.{out_after, out_after_all, still_found}

-- ---- files

pub files_keep : (v x : View) → x.files ≡ v.files → KeepsNotes v x
files_keep v x same n = ap (λ (f : Files). f areas.Defer n) same

pub keeps_then : (u v x : View) → KeepsNotes u v → KeepsNotes v x → KeepsNotes u x
keeps_then u v x first last n = last n ∙ first n

-- a queue file stands in no area of logs
queue_area : (p : Place) → area_of p ≢ areas.Defer
queue_area places.Incoming e = absurd cc
queue_area places.Active e = absurd cc
queue_area (places.Deferred due) e = absurd cc
queue_area places.Hold e = absurd cc
queue_area places.Corrupt e = absurd cc

pub no_log_spot : (s : Spot) (p : Place) (id : Id) → s ≡ spot_of p id → s.area ≢ areas.Defer
no_log_spot s p id is e = queue_area p (sym (ap (λ (t : Spot). t.area) is) ∙ e)

-- the file of a message of the book is named by an id
pub message_form : (v : View) (b : Book) (id : Id) (m : Message) → HostStands v b → message_of b id ≡ Some m → IsId id
message_form v b id m h found = let old = Stands-message v.files b id m h.reads found in subst IsId old.1 old.0.id

pub placed_form : (v : View) (b : Book) (id : Id) (place : Place) → HostStands v b → option_map (λ (m : Message). m.place) (message_of b id) ≡ Some place → IsId id
placed_form v b id place h found = by (message_of b id) refl found
  where
    by : (o : Option Message) → message_of b id ≡ o → option_map (λ (m : Message). m.place) o ≡ Some place → IsId id
    by None e k = absurd cc
    by (Some m) e k = message_form v b id m h e

-- a message that stands at a place is found
pub placed_found : (b : Book) (id : Id) (place : Place) → option_map (λ (m : Message). m.place) (message_of b id) ≡ Some place → is_some (message_of b id) ≡ true
placed_found b id place h = by (message_of b id) h
  where
    by : (o : Option Message) → option_map (λ (m : Message). m.place) o ≡ Some place → is_some o ≡ true
    by None k = absurd cc
    by (Some m) k = refl

other_log : (a b : Id) → IsId a → IsId b → id_eq a b ≡ false → same_place areas.Defer (id_text a) areas.Defer (id_text b) ≡ false
other_log a b here there differ = by (same_place areas.Defer (id_text a) areas.Defer (id_text b)) refl
  where
    by : (t : Bool) → same_place areas.Defer (id_text a) areas.Defer (id_text b) ≡ t → t ≡ false
    by true e =
        let same : a ≡ b = id_text-injective a b here there (same_place-true areas.Defer (id_text a) areas.Defer (id_text b) e).1 in
        let bad : true ≡ false = sym (id_eq-refl a) ∙ ap (id_eq a) same ∙ differ in
        absurd cc
    by false e = refl

-- ---- one entry

-- the entry adds notes, begins a log anew or ends it
abbrev pub is_noting : Entry → Bool
is_noting (entries.Reply number state os) = true
is_noting (entries.Skip id site positions) = true
is_noting (entries.Admit id) = true
is_noting (entries.Remove id) = true
is_noting _ = false

next_plain : (w : World) (l : Ledger) (e : Entry) (id : Id) (notes : List Note) → is_noting e ≡ false → next_notes w l e id notes ≡ notes ++ []
next_plain w l (entries.Reply number state os) id notes h = absurd cc
next_plain w l (entries.Skip other site positions) id notes h = absurd cc
next_plain w l (entries.Admit other) id notes h = absurd cc
next_plain w l (entries.Remove other) id notes h = absurd cc
next_plain w l _ id notes h = refl

admitted_plain : (e : Entry) (id : Id) (was : Bool) → is_noting e ≡ false → next_admitted e id was ≡ was
admitted_plain (entries.Admit other) id was h = absurd cc
admitted_plain (entries.Remove other) id was h = absurd cc
admitted_plain _ id was h = refl

stays_plain : (e : Entry) (id : Id) → is_noting e ≡ false → is_remove_of id e ≡ false
stays_plain (entries.Remove other) id h = absurd cc
stays_plain _ id h = refl

module _ (w : World) (l : Ledger) where
  -- no log changed
  pub plain_notes : (e : Entry) (v x : View) → is_noting e ≡ false → KeepsNotes v x → StoresNotes w l e v.files x.files
  plain_notes e v x plain keeps = record {
    adds = λ id was notes reads form so.
        let old = reads form (sym (admitted_plain e id was plain) ∙ so) in
        let same : notes ≡ next_notes w l e id notes = sym (append-nil notes) ∙ sym (next_plain w l e id notes plain) in
        (still_found w l e id (stays_plain e id plain) old.0, subst (λ (ns : List Note). HasNotes ns (x.files areas.Defer (id_text id))) same (subst (HasNotes notes) (sym (keeps (id_text id))) old.1));
    leaves = λ id form out calm. keeps (id_text id);
  }

  -- no log changed, and the line was told
  pub plain_told : (e : Entry) (v m x : View) → is_noting e ≡ false → KeepsNotes v m → x.files ≡ m.files → StoresNotes w l e v.files x.files
  plain_told e v m x plain keeps same = plain_notes e v x plain (keeps_then v m x keeps (files_keep m x same))

  module _ (id : Id) (v m x : View) (form : IsId id) (others : KeepsOtherNotes (id_text id) v m) (rest : KeepsNotes m x) where
    -- the log of another message
    other_same : (i : Id) → IsId i → id_eq id i ≡ false → x.files areas.Defer (id_text i) ≡ v.files areas.Defer (id_text i)
    other_same i other differ = rest (id_text i) ∙ others (id_text i) (other_log id i form other differ)

    other_notes : (i : Id) (notes : List Note) → IsId i → id_eq id i ≡ false → HasNotes notes (v.files areas.Defer (id_text i)) → HasNotes notes (x.files areas.Defer (id_text i))
    other_notes i notes other differ has = subst (HasNotes notes) (sym (other_same i other differ)) has

    -- whoever isn't in memory is another than the message that is
    apart_out : is_admitted l id ≡ true → (i : Id) → is_admitted l i ≡ false → id_eq id i ≡ false
    apart_out here i out = by (id_cases id i)
      where
        by : ((id ≡ i) × (id_eq id i ≡ true)) ⊎ (id_eq id i ≡ false) → id_eq id i ≡ false
        by (inl (same, passes)) = let bad : true ≡ false = sym here ∙ ap (is_admitted l) same ∙ out in absurd cc
        by (inr differ) = differ

    -- the message's log has these notes more
    one_log : (e : Entry) (added : List Note) → is_admitted l id ≡ true → ((i : Id) (was : Bool) → next_admitted e i was ≡ was) → ((i : Id) → is_remove_of i e ≡ false) → ((notes : List Note) → next_notes w l e id notes ≡ notes ++ added)
        → ((i : Id) (notes : List Note) → id_eq id i ≡ false → next_notes w l e i notes ≡ notes ++ [])
        → ((notes : List Note) → HasNotes notes (v.files areas.Defer (id_text id)) → HasNotes (notes ++ added) (m.files areas.Defer (id_text id))) → StoresNotes w l e v.files x.files
    one_log e added present kept stays here there own = record {
      adds = λ i was notes reads other so.
          let old = reads other (sym (kept i was) ∙ so) in
          (still_found w l e i (stays i) old.0, by i notes other old.1 (id_cases id i));
      leaves = λ i other out calm. other_same i other (apart_out present i out);
    }
      where
        mine : (notes : List Note) → HasNotes notes (v.files areas.Defer (id_text id)) → HasNotes (next_notes w l e id notes) (x.files areas.Defer (id_text id))
        mine notes k = subst (λ (ns : List Note). HasNotes ns (x.files areas.Defer (id_text id))) (sym (here notes)) (subst (HasNotes (notes ++ added)) (sym (rest (id_text id))) (own notes k))

        by : (i : Id) (notes : List Note) → IsId i → HasNotes notes (v.files areas.Defer (id_text i)) → ((id ≡ i) × (id_eq id i ≡ true)) ⊎ (id_eq id i ≡ false) → HasNotes (next_notes w l e i notes) (x.files areas.Defer (id_text i))
        by i notes other has (inl (same, passes)) = subst (λ (j : Id). HasNotes notes (v.files areas.Defer (id_text j)) → HasNotes (next_notes w l e j notes) (x.files areas.Defer (id_text j))) same (mine notes) has
        by i notes other has (inr differ) = subst (λ (ns : List Note). HasNotes ns (x.files areas.Defer (id_text i))) (sym (there i notes differ ∙ append-nil notes)) (other_notes i notes other differ has)

    -- the message came into memory: its log begins anew
    pub admit_notes : is_some (message_of l.book id) ≡ true → m.files areas.Defer (id_text id) ≡ None → StoresNotes w l (entries.Admit id) v.files x.files
    admit_notes found gone = record {
      adds = λ i was notes reads other so. by i was notes reads other so (id_cases id i);
      leaves = λ i other out calm. other_same i other (or_parts (id_eq id i) false calm).0;
    }
      where
        mine : HasNotes [] (x.files areas.Defer (id_text id))
        mine = subst (HasNotes []) (sym (rest (id_text id) ∙ gone)) refl

        by : (i : Id) (was : Bool) (notes : List Note) → ReadsAsNotes l.book was i notes v.files → IsId i → (id_eq id i || was) ≡ true → ((id ≡ i) × (id_eq id i ≡ true)) ⊎ (id_eq id i ≡ false)
            → (is_some (message_of (after w l (entries.Admit id)).book i) ≡ true) × HasNotes (if id_eq id i then [] else notes) (x.files areas.Defer (id_text i))
        by i was notes reads other so (inl (same, passes)) = (
          still_found w l (entries.Admit id) i refl (subst (λ (j : Id). is_some (message_of l.book j) ≡ true) same found),
          subst (λ (b : Bool). HasNotes (if b then [] else notes) (x.files areas.Defer (id_text i))) (sym passes) (subst (λ (j : Id). HasNotes [] (x.files areas.Defer (id_text j))) same mine),
        )
        by i was notes reads other so (inr differ) =
            let old = reads other (ap (λ (b : Bool). b || was) (sym differ) ∙ so) in (
              still_found w l (entries.Admit id) i refl old.0,
              subst (λ (b : Bool). HasNotes (if b then [] else notes) (x.files areas.Defer (id_text i))) (sym differ) (other_notes i notes other differ old.1),
            )

    -- the message is gone
    pub remove_notes : StoresNotes w l (entries.Remove id) v.files x.files
    remove_notes = record {
      adds = λ i was notes reads other so. by i was notes reads other so (id_cases id i);
      leaves = λ i other out calm. other_same i other (or_parts (id_eq id i) false calm).0;
    }
      where
        by : (i : Id) (was : Bool) (notes : List Note) → ReadsAsNotes l.book was i notes v.files → IsId i → (not (id_eq id i) && was) ≡ true → ((id ≡ i) × (id_eq id i ≡ true)) ⊎ (id_eq id i ≡ false)
            → (is_some (message_of (after w l (entries.Remove id)).book i) ≡ true) × HasNotes (notes ++ []) (x.files areas.Defer (id_text i))
        by i was notes reads other so (inl (same, passes)) = let bad : false ≡ true = ap (λ (b : Bool). not b && was) (sym passes) ∙ so in absurd cc
        by i was notes reads other so (inr differ) =
            let old = reads other (ap (λ (b : Bool). not b && was) (sym differ) ∙ so) in (
              still_found w l (entries.Remove id) i differ old.0,
              subst (λ (ns : List Note). HasNotes ns (x.files areas.Defer (id_text i))) (sym (append-nil notes)) (other_notes i notes other differ old.1),
            )

    -- a row of the message was put off
    pub skip_notes : is_admitted l id ≡ true → (site : Site) (ps : List ℕ) → ((notes : List Note) → HasNotes notes (v.files areas.Defer (id_text id)) → HasNotes (notes ++ delays_at w l id ps (row_outcomes ps)) (m.files areas.Defer (id_text id)))
        → StoresNotes w l (entries.Skip id site ps) v.files x.files
    skip_notes present site ps own = one_log (entries.Skip id site ps) (delays_at w l id ps (row_outcomes ps)) present (λ i was. refl) (λ i. refl)
        (λ notes. ap (λ (b : Bool). notes ++ (if b then delays_at w l id ps (row_outcomes ps) else [])) (id_eq-refl id))
        (λ i notes differ. ap (λ (b : Bool). notes ++ (if b then delays_at w l i ps (row_outcomes ps) else [])) differ) own

    -- a delivery of the message ended
    pub reply_notes : is_admitted l id ≡ true → (number : ℕ) (state : SiteState) (os : List Outcome) (f : Delivery) → flight_of l number ≡ Some f → f.row.id ≡ id
        → ((notes : List Note) → HasNotes notes (v.files areas.Defer (id_text id)) → HasNotes (notes ++ delays_at w l id f.row.positions os) (m.files areas.Defer (id_text id))) → StoresNotes w l (entries.Reply number state os) v.files x.files
    reply_notes present number state os f there named own = one_log (entries.Reply number state os) (delays_at w l id f.row.positions os) present (λ i was. refl) (λ i. refl)
        (λ notes. added id notes ∙ ap (λ (b : Bool). notes ++ (if b then delays_at w l id f.row.positions os else [])) (id_eq-refl id))
        (λ i notes differ. added i notes ∙ ap (λ (b : Bool). notes ++ (if b then delays_at w l i f.row.positions os else [])) differ) own
      where
        added : (i : Id) (notes : List Note) → next_notes w l (entries.Reply number state os) i notes ≡ notes ++ (if id_eq id i then delays_at w l i f.row.positions os else [])
        added i notes = ap (λ (o : Option Delivery). notes ++ option_map_or (λ (g : Delivery). if id_eq g.row.id i then delays_at w l i g.row.positions os else []) o []) there
            ∙ ap (λ (j : Id). notes ++ (if id_eq j i then delays_at w l i f.row.positions os else [])) named

-- a life began: the logs of those who stand are as before
pub life_notes : (w : World) (l : Ledger) (generation : ℕ) (mode : Mode) (f g : Files) → KeepsOwnNotes l.book f g → AddsNotes w l (entries.Life generation mode) f g
life_notes w l generation mode f g keeps id was notes reads form so =
    let old = reads form so in
    let stood : stands l.book id ≡ true = or_left (is_some (message_of l.book id)) (is_some (damaged_of l.book id)) old.0 in (
      still_found w l (entries.Life generation mode) id refl old.0,
      subst (λ (ns : List Note). HasNotes ns (g areas.Defer (id_text id))) (sym (append-nil notes)) (subst (HasNotes notes) (sym (keeps.own id form stood)) old.1),
    )

-- ---- entries one behind another

notes_more : (w : World) (l : Ledger) (es : List Entry) (e : Entry) (id : Id) (notes : List Note) → notes_after w l (es ++ e ∷ []) id notes ≡ next_notes w (after_all w l es) e id (notes_after w l es id notes)
unfolding after_all
notes_more w l [] e id notes = refl
notes_more w l (d ∷ es) e id notes = notes_more w (after w l d) es e id (next_notes w l d id notes)

admitted_more : (es : List Entry) (e : Entry) (id : Id) (was : Bool) → admitted_after (es ++ e ∷ []) id was ≡ next_admitted e id (admitted_after es id was)
admitted_more [] e id was = refl
admitted_more (d ∷ es) e id was = admitted_more es e id (next_admitted d id was)

-- none of a list, and none behind it
any_split : (p : Entry → Bool) (es fs : List Entry) → list_any p (es ++ fs) ≡ false → (list_any p es ≡ false) × (list_any p fs ≡ false)
any_split p [] fs h = (refl, h)
any_split p (e ∷ es) fs h =
    let both = or_parts (p e) (list_any p (es ++ fs)) h in
    let rest = any_split p es fs both.1 in
    (or_from (p e) (list_any p es) both.0 rest.0, rest.1)

module _ (w : World) (l : Ledger) where
  pub stores_none : (f : Files) → StoresAllNotes w l [] f f
  unfolding after_all
  stores_none f = record { adds = λ id was notes reads. reads; leaves = λ id form out calm. refl }

  pub stores_first : (e : Entry) (es : List Entry) (f g h : Files) → StoresNotes w l e f g → StoresAllNotes w (after w l e) es g h → StoresAllNotes w l (e ∷ es) f h
  unfolding after_all
  stores_first e es f g h one rest = record {
    adds = λ id was notes reads. rest.adds id (next_admitted e id was) (next_notes w l e id notes) (one.adds id was notes reads);
    leaves = λ id form out calm.
        let both = or_parts (is_reset id e) (list_any (is_reset id) es) calm in
        rest.leaves id form (out_after w l e id out both.0) both.1 ∙ one.leaves id form out (or_from (is_reset id e) false both.0 refl);
  }

  -- files were looked at behind them
  pub stores_looked : (es : List Entry) (f : Files) (v x : View) → StoresAllNotes w l es f v.files → KeepsNotes v x → StoresAllNotes w l es f x.files
  stores_looked es f v x all keeps = record {
    adds = λ id was notes reads form so. let is = all.adds id was notes reads form so in (is.0, subst (HasNotes (notes_after w l es id notes)) (sym (keeps (id_text id))) is.1);
    leaves = λ id form out calm. keeps (id_text id) ∙ all.leaves id form out calm;
  }

  -- one entry more
  pub stores_more : (es : List Entry) (e : Entry) (f g h : Files) → StoresAllNotes w l es f g → StoresNotes w (after_all w l es) e g h → StoresAllNotes w l (es ++ e ∷ []) f h
  unfolding after_all
  stores_more es e f g h all one = record {
    adds = λ id was notes reads form so.
        let there : after_all w l (es ++ e ∷ []) ≡ after w (after_all w l es) e = after_all-append w l es (e ∷ []) in
        let is = one.adds id (admitted_after es id was) (notes_after w l es id notes) (all.adds id was notes reads) form (sym (admitted_more es e id was) ∙ so) in
        (ap (λ (k : Ledger). is_some (message_of k.book id)) there ∙ is.0, subst (λ (ns : List Note). HasNotes ns (h areas.Defer (id_text id))) (sym (notes_more w l es e id notes)) is.1);
    leaves = λ id form out calm.
        let both = any_split (is_reset id) es (e ∷ []) calm in
        one.leaves id form (out_after_all w l es id out both.0) both.1 ∙ all.leaves id form out both.0;
  }
