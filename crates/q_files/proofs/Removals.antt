-- A message's file is taken away, and then its logs: what the files stand for, and what a crash leaves.
use Rattle.std.proofs.Common.{◌≡◌, ◌≢◌, ⊎_elim, ◌∙◌, ℕ, Bool, true, false, not, ◌||◌, List, [], ◌∷◌, filter, is_some, Option, Some, None, if◌then◌else◌, refl, sym, ap, subst, inl, inr}
use Rattle.std.specs.Prelude.{find}
use Rattle.q_model.specs.declared.id.Id.{Id}
use Rattle.q_model.specs.declared.rows.Place.{Place}
use Rattle.q_model.specs.declared.spot.Area.TheVariants as areas
use Rattle.q_model.specs.Book.{Book, damaged_of, message_of, stands}
use Rattle.q_model.specs.BookChanges.{remove_message}
use Rattle.q_model.specs.FilesStand.{Stands}
use Rattle.q_model.specs.Ids.{id_eq}
use Rattle.q_model.specs.IdTexts.{id_text, IsId}
use Rattle.q_model.specs.Message.{Message}
use Rattle.q_model.specs.SpoolFiles.{area_of, Files, name_at}
use Rattle.q_model.specs.Values.{Spot}
use Rattle.q_model.proofs.CrashChanges.{crash-message, crash-remove}
use Rattle.q_model.proofs.IdLaws.{id_eq-true}
use Rattle.q_model.proofs.SpotLaws.{area_of-IsQueue}
use Rattle.q_model.proofs.StandChanges.{Stands-message}
use Rattle.q_model.proofs.StandLaws.{true_false}
use Rattle.q_model.proofs.StandRenames.{Stands-unlinked}
use Rattle.q_host.specs.Calls.{MayRemove, Removes}
use Rattle.q_host.specs.Files.{same_place, without_file}
use Rattle.q_host.specs.View.{LeavesOnly, Remains, View}
use Rattle.q_host.proofs.Moments.{leaves_on}
use Rattle.q_host.proofs.Puts.{other_area, same_place-refl, same_place-true}
use Rattle.q_books.specs.HostStands.{Between, HostStands, IsLeftOf, OwnLogs, Takes, TellsCrashes, Tries}
use Rattle.q_books.proofs.Calls.{meanwhile, stayed}
use Rattle.q_files.specs.Changes.{RemovesMessage}
use Rattle.q_files.specs.KeptBooks.{SameButLogs}
use Rattle.q_files.proofs.KeptFiles.{drops_others}
use Rattle.q_files.proofs.OtherPlaces.{without_unlinked}

-- ---- the book without the message

none_by : (id : Id) (m : Message) (ms : List Message) (t : Bool) → id_eq m.id id ≡ t → find (λ x. id_eq x.id id) (filter (λ x. not (id_eq x.id id)) ms) ≡ None → find (λ x. id_eq x.id id) (if not t then m ∷ filter (λ x. not (id_eq x.id id)) ms else filter (λ x. not (id_eq x.id id)) ms) ≡ None
none_by id m ms true e rest = rest
none_by id m ms false e rest = rw e rest

none_left : (id : Id) (ms : List Message) → find (λ m. id_eq m.id id) (filter (λ m. not (id_eq m.id id)) ms) ≡ None
none_left id [] = refl
none_left id (m ∷ ms) = none_by id m ms (id_eq m.id id) refl (none_left id ms)

pub removed-none : (b : Book) (id : Id) → message_of (remove_message b id) id ≡ None
removed-none b id = none_left id b.messages

-- other ids stand as before
same_by : (id i : Id) (m : Message) (ms : List Message) (t : Bool) → id_eq m.id id ≡ t → (id ≡ i → ⊥) → find (λ x. id_eq x.id i) (filter (λ x. not (id_eq x.id id)) ms) ≡ find (λ x. id_eq x.id i) ms
    → find (λ x. id_eq x.id i) (if not t then m ∷ filter (λ x. not (id_eq x.id id)) ms else filter (λ x. not (id_eq x.id id)) ms) ≡ (if id_eq m.id i then Some m else find (λ x. id_eq x.id i) ms)
same_by id i m ms true e differ rest = rest ∙ by (id_eq m.id i) refl
  where
    by : (u : Bool) → id_eq m.id i ≡ u → find (λ x. id_eq x.id i) ms ≡ (if u then Some m else find (λ x. id_eq x.id i) ms)
    by true k = absurd (differ (sym (id_eq-true m.id id e) ∙ id_eq-true m.id i k))
    by false k = refl
same_by id i m ms false e differ rest = ap (λ (o : Option Message). if id_eq m.id i then Some m else o) rest

others_left : (id i : Id) (ms : List Message) → (id ≡ i → ⊥) → find (λ m. id_eq m.id i) (filter (λ m. not (id_eq m.id id)) ms) ≡ find (λ m. id_eq m.id i) ms
others_left id i [] differ = refl
others_left id i (m ∷ ms) differ = same_by id i m ms (id_eq m.id id) refl differ (others_left id i ms differ)

stands-removed : (b : Book) (id i : Id) → (id ≡ i → ⊥) → stands (remove_message b id) i ≡ stands b i
stands-removed b id i differ = ap (λ (o : Option Message). is_some o || is_some (damaged_of b i)) (others_left id i b.messages differ)

-- each failure log is of an id that stands, where the log of the message is gone
own_removed : (f g : Files) (b : Book) (id : Id) → IsId id → ((n : List ℕ) → same_place areas.Bounce (id_text id) areas.Bounce n ≡ false → g areas.Bounce n ≡ f areas.Bounce n) → g areas.Bounce (id_text id) ≡ None → OwnLogs f b → OwnLogs g (remove_message b id)
own_removed f g b id hid others gone own i hi absent = by (same_place areas.Bounce (id_text id) areas.Bounce (id_text i)) refl
  where
    by : (t : Bool) → same_place areas.Bounce (id_text id) areas.Bounce (id_text i) ≡ t → g areas.Bounce (id_text i) ≡ None
    by true e = ap (g areas.Bounce) (sym (same_place-true areas.Bounce (id_text id) areas.Bounce (id_text i) e).1) ∙ gone
    by false e = others (id_text i) e ∙ own i hi (sym (stands-removed b id i (λ same. true_false (same_place areas.Bounce (id_text id) areas.Bounce (id_text i))
        (subst (λ (j : Id). same_place areas.Bounce (id_text id) areas.Bounce (id_text j) ≡ true) same (same_place-refl areas.Bounce (id_text id))) e)) ∙ absent)

-- ---- the call

-- the host went from the one book to the other, and perhaps left a log that is of no message
pub record Reaches (b k : Book) (v w : View) : Type 0 where
  pub told : w.told ≡ v.told
  pub stands : HostStands w k
  pub moments : LeavesOnly v w (Between b k v.told)

module _ (b k : Book) (u v w : View) where
  later : v.told ≡ u.told → (x : Remains) → Between k k v.told x → Between b k u.told x
  later told x h = record { told = h.told ∙ told; book = ⊎_elim (λ l. inr l) (λ l. inr l) h.book }

  -- a call behind it that keeps the book
  pub reaches_on : Reaches b k u v → Takes k k v w → Reaches b k u w
  reaches_on p q = record { told = q.told ∙ p.told; stands = q.stands; moments = leaves_on (Between b k u.told) p.moments q.moments (λ x h. h) (λ x h. later p.told x h) }

pub reached : (b k : Book) (v w : View) → Reaches b k v w → (OwnLogs v.files b → OwnLogs w.files k) → Takes b k v w
reached b k v w r logs = record { told = r.told; stands = r.stands; logs = logs; moments = r.moments }

pub reached_try : (b k : Book) (v w : View) → Reaches b k v w → Tries b k v w
reached_try b k v w r = record { told = r.told; stands = inr r.stands; moments = r.moments }

module _ (spot : Spot) (id : Id) (b k : Book) (ch : RemovesMessage spot id b k) where
  pub id_form : (f : Files) → Stands f b → IsId id
  id_form f h = let old = Stands-message f b id ch.message h ch.file.found in subst IsId old.1 old.0.id

  pub none_there : message_of k id ≡ None
  none_there = ap (λ (x : Book). message_of x id) ch.changed ∙ removed-none b id

  abbrev taken : Files → Files
  taken f = without_file f (area_of ch.message.place) (name_at ch.message.place id)

  unlinked_left : (d c : Remains) → IsLeftOf b d → c.files ≡ taken d.files → IsLeftOf (remove_message b id) c
  unlinked_left d c left files =
      let next = crash-message b left.left id ch.message left.after ch.file.found in
      let x = next.0 in
      record {
        left = remove_message left.left id;
        after = crash-remove b left.left id left.after;
        stands = subst (λ (g : Files). Stands g (remove_message left.left id)) (sym files)
            (subst (λ (p : Place). Stands (without_file d.files (area_of p) (name_at p id)) (remove_message left.left id)) next.2.place
            (Stands-unlinked d.files (without_file d.files (area_of x.place) (name_at x.place id)) left.left id x next.1 (without_unlinked d.files (area_of x.place) (name_at x.place id)) left.stands));
      }

  module _ (v w : View) (lawful : TellsCrashes v) (h : HostStands v b) where
    at_place : (R : Spot → Type 0) → R spot → R (record { area = area_of ch.message.place; name = name_at ch.message.place id })
    at_place R d = subst R ch.file.spot d

    unlinked : Removes (area_of ch.message.place) (name_at ch.message.place id) v w → Reaches b (remove_message b id) v w
    unlinked d = record {
      told = d.told;
      stands = record {
        reads = subst (λ (g : Files). Stands g (remove_message b id)) (sym d.files) (Stands-unlinked v.files (taken v.files) b id ch.message ch.file.found (without_unlinked v.files (area_of ch.message.place) (name_at ch.message.place id)) h.reads);
        crash = λ c m. let x = d.goes.crash c m in unlinked_left x.0 c (h.crash x.0 x.1) x.2.0;
      };
      moments = meanwhile b (remove_message b id) v w lawful d.goes (λ x c may left step. (step.1, inr (unlinked_left x c left step.0))) h;
    }

    -- the file was taken away
    pub unlinks : Removes spot.area spot.name v w → Reaches b k v w
    unlinks d = subst (λ (x : Book). Reaches b x v w) (sym ch.changed) (unlinked (at_place (λ s. Removes s.area s.name v w) d))

    -- or perhaps
    pub may_unlink : MayRemove spot.area spot.name v w → Tries b k v w
    may_unlink (inl d) = reached_try b k v w (unlinks d)
    may_unlink (inr st) = stayed b k v w lawful st h

    -- the failure logs of other ids stay
    pub other_logs : (n : List ℕ) → Removes spot.area spot.name v w → w.files areas.Bounce n ≡ v.files areas.Bounce n
    other_logs n d = let one = at_place (λ s. Removes s.area s.name v w) d in
        drops_others (area_of ch.message.place) (name_at ch.message.place id) v w (inl one) areas.Bounce n (other_area (area_of ch.message.place) (name_at ch.message.place id) areas.Bounce n (λ e. (area_of-IsQueue ch.message.place).not_bounce (sym e)))

-- the file and both logs were taken away
pub removes : (spot : Spot) (id : Id) (b k : Book) (u v w : View) → TellsCrashes u → RemovesMessage spot id b k → HostStands u b → Removes spot.area spot.name u v → (IsId id → message_of k id ≡ None → HostStands v k → Takes k k v w)
    → SameButLogs (id_text id) v.files w.files → w.files areas.Bounce (id_text id) ≡ None → Takes b k u w
removes spot id b k u v w lawful ch h d keeps others gone =
    let hid = id_form spot id b k ch u.files h.reads in
    let first = unlinks spot id b k ch u v lawful h d in
    reached b k u w (reaches_on b k u v w first (keeps hid (none_there spot id b k ch) first.stands))
    (λ own. subst (OwnLogs w.files) (sym ch.changed) (own_removed u.files w.files b id hid
    (λ n differ. others areas.Bounce n differ (other_area areas.Defer (id_text id) areas.Bounce n (λ e. absurd cc)) ∙ other_logs spot id b k ch u v lawful h n d) gone own))

-- the file was taken away, and the logs perhaps
pub may_remove : (spot : Spot) (id : Id) (b k : Book) (u v w : View) → TellsCrashes u → RemovesMessage spot id b k → HostStands u b → Removes spot.area spot.name u v → (IsId id → message_of k id ≡ None → HostStands v k → Takes k k v w) → Tries b k u w
may_remove spot id b k u v w lawful ch h d keeps =
    let first = unlinks spot id b k ch u v lawful h d in
    reached_try b k u w (reaches_on b k u v w first (keeps (id_form spot id b k ch u.files h.reads) (none_there spot id b k ch) first.stands))

-- removing a file of another area changes no deferral log
pub removes_no_notes : (spot : Spot) (v w : View) → MayRemove spot.area spot.name v w → spot.area ≢ areas.Defer → (n : List ℕ) → w.files areas.Defer n ≡ v.files areas.Defer n
removes_no_notes spot v w d differ n = drops_others spot.area spot.name v w d areas.Defer n (other_area spot.area spot.name areas.Defer n (λ e. differ (sym e)))

-- nothing else changed in two calls
pub drops_both : (n : List ℕ) (u v w : View) → MayRemove areas.Bounce n u v → MayRemove areas.Defer n v w → SameButLogs n u.files w.files
drops_both n u v w p q a k one two = drops_others areas.Defer n v w q a k two ∙ drops_others areas.Bounce n u v p a k one
