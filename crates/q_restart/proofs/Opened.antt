-- An opening, call by call: the book stays while the spool is cleared, and its life begins with the next name in boot.
use Rattle.std.proofs.Common.{◌≡◌, ◌≢◌, ◌<◌, ◌+◌, ◌^◌, ℕ, Bool, true, false, ◌||◌, List, [], ◌∷◌, map, Option, Some, None, is_some, if◌then◌else◌, inl, inr, ⊎_elim, refl, sym, ap, ◌∙◌}
use Rattle.std.specs.Option.{IsSome}
use Rattle.std.specs.Prelude.{◌&&◌, find}
use Rattle.std.specs.List.{list_any}
use Rattle.std.proofs.lemmas.Bool.{and_parts, or_cases, or_left, or_right}
use Rattle.q_model.specs.declared.id.Id.{Id}
use Rattle.q_model.specs.declared.rows.Place.{Place}
use Rattle.q_model.specs.declared.rows.Place.TheVariants as places
use Rattle.q_model.specs.declared.spot.Area.{Area}
use Rattle.q_model.specs.declared.spot.Area.TheVariants as areas
use Rattle.q_model.specs.Book.{Book, Damaged, damaged_of, message_of, stands, stands_in}
use Rattle.q_model.specs.FilesStand.{DamagedStands, MessageStands, Stands}
use Rattle.q_model.specs.Ids.{id_eq}
use Rattle.q_model.specs.IdTexts.{id_text, IsId}
use Rattle.q_model.specs.Lives.{firm_failures}
use Rattle.q_model.specs.Message.{Message}
use Rattle.q_model.specs.Places.{place_eq}
use Rattle.q_model.specs.SpoolFiles.{area_of, file_at, Files, name_at}
use Rattle.q_model.proofs.EachLaws.{each-same, find-any}
use Rattle.q_model.proofs.IdLaws.{id_text-injective}
use Rattle.q_model.proofs.SpotLaws.{area_of-IsQueue}
use Rattle.q_model.proofs.StandChanges.{Stands-message}
use Rattle.q_model.proofs.StandDamaged.{Stands-damaged}
use Rattle.q_model.proofs.StandLaws.{BootStands-kept, DamagedStands-kept, MessageStands-kept, true_false}
use Rattle.q_model.proofs.StandMoves.{found-any}
use Rattle.q_host.specs.Calls.{Changes}
use Rattle.q_host.specs.Files.{SameNames}
use Rattle.q_host.specs.View.{LeavesOnly, now, Remains, View}
use Rattle.q_books.specs.HostStands.{Between, HostStands, IsLeftOf, Takes, TellsCrashes, Tries}
use Rattle.q_books.proofs.Calls.{changed, may_change, meanwhile}
use Rattle.q_restart.specs.declared.standing.Standing.{Standing}
use Rattle.q_restart.specs.Clearings.{Cleans, GoesBy, IsClean}
use Rattle.q_restart.specs.Openings.{begun}
use Rattle.q_restart.specs.Raises.{MayRaise, raised}
use Rattle.q_restart.specs.Walks.{HasStanding}
use Rattle.q_restart.proofs.FirmBooks.{firmed, left-firm, left-unfirm, Stands-firm, Stands-unfirm}
use Rattle.q_restart.proofs.RaisedBooks.{raise_book, raises}
use Rattle.q_restart.proofs.Seen.{Sees}

-- ---- who stands in a book has a file

abbrev standing : Id → Place → Standing
standing id place = record { id = id; place = place }

-- a file of an id is of an id of the book
pub standing-stands : (f : Files) (b : Book) (s : Standing) → Stands f b → HasStanding f s → stands b s.id ≡ true
standing-stands f b s h has = by (file_at f s.place s.id) refl
  where
    in_book : stands_in (place_eq s.place) b s.id ≡ true → stands b s.id ≡ true
    in_book at = elim (or_cases (list_any (λ (m : Message). id_eq m.id s.id && place_eq s.place m.place) b.messages) (list_any (λ (d : Damaged). id_eq d.id s.id && place_eq s.place d.place) b.damaged) at) [
      | inl there ↦ or_left (is_some (message_of b s.id)) (is_some (damaged_of b s.id)) (find-any (λ (m : Message). id_eq m.id s.id) b.messages
          ∙ found-any (λ (m : Message). id_eq m.id s.id && place_eq s.place m.place) (λ (m : Message). id_eq m.id s.id) b.messages (λ m k. (and_parts (id_eq m.id s.id) (place_eq s.place m.place) k).0) there)
      | inr there ↦ or_right (is_some (message_of b s.id)) (is_some (damaged_of b s.id)) (find-any (λ (d : Damaged). id_eq d.id s.id) b.damaged
          ∙ found-any (λ (d : Damaged). id_eq d.id s.id && place_eq s.place d.place) (λ (d : Damaged). id_eq d.id s.id) b.damaged (λ d k. (and_parts (id_eq d.id s.id) (place_eq s.place d.place) k).0) there)
    ]

    by : (o : Option (List ℕ)) → file_at f s.place s.id ≡ o → stands b s.id ≡ true
    by None e = absurd (true_false (is_some (file_at f s.place s.id)) has.there (ap is_some e))
    by (Some bytes) e = in_book (h.nothing_else s.place s.id bytes has.id has.place e)

some_file : (f : Files) (p : Place) (id : Id) (bytes : List ℕ) → file_at f p id ≡ Some bytes → IsSome (file_at f p id)
some_file f p id bytes e = ap is_some e

-- an id of the book has a file
pub stands-standing : (f : Files) (b : Book) (id : Id) → Stands f b → stands b id ≡ true → (s : Standing) × HasStanding f s × (s.id ≡ id)
stands-standing f b id h there = elim (or_cases (is_some (message_of b id)) (is_some (damaged_of b id)) there) [
  | inl some ↦ message (message_of b id) refl some
  | inr some ↦ damaged (damaged_of b id) refl some
]
  where
    message : (o : Option Message) → message_of b id ≡ o → is_some o ≡ true → (s : Standing) × HasStanding f s × (s.id ≡ id)
    message None e some = absurd (true_false false some refl)
    message (Some m) e some =
        let here = Stands-message f b id m h e in
        (standing m.id m.place, record { id = here.0.id; place = here.0.place; there = some_file f m.place m.id here.0.bytes here.0.there }, here.1)

    damaged : (o : Option Damaged) → damaged_of b id ≡ o → is_some o ≡ true → (s : Standing) × HasStanding f s × (s.id ≡ id)
    damaged None e some = absurd (true_false false some refl)
    damaged (Some d) e some =
        let here = Stands-damaged f b id d h e in
        (standing d.id d.place, record { id = here.0.id; place = here.0.place; there = some_file f d.place d.id here.0.bytes here.0.there }, here.1)

-- ---- clearing

not_defer : (p : Place) → area_of p ≡ areas.Defer → ⊥
not_defer places.Incoming e = cc
not_defer places.Active e = cc
not_defer (places.Deferred due) e = cc
not_defer places.Hold e = cc
not_defer places.Corrupt e = cc

boot_tmp : areas.Boot ≡ areas.Tmp → ⊥
boot_tmp e = cc

boot_bounce : areas.Boot ≡ areas.Bounce → ⊥
boot_bounce e = cc

boot_defer : areas.Boot ≡ areas.Defer → ⊥
boot_defer e = cc

bounce_tmp : areas.Bounce ≡ areas.Tmp → ⊥
bounce_tmp e = cc

defer_tmp : areas.Defer ≡ areas.Tmp → ⊥
defer_tmp e = cc

module _ (keeps : Id → Bool) (d c : Remains) (cleans : Cleans keeps d c) where
  pub queue-same : (p : Place) (i : Id) → file_at c.files p i ≡ file_at d.files p i
  queue-same p i = ⊎_elim (λ same. same) (λ gone. absurd (⊎_elim (λ e. (area_of-IsQueue p).not_bounce e) (λ e. not_defer p e) gone.0.area_is)) (cleans.files (area_of p) (name_at p i) (area_of-IsQueue p).not_tmp)

  pub boot-same : (n : List ℕ) → c.files areas.Boot n ≡ d.files areas.Boot n
  boot-same n = ⊎_elim (λ same. same) (λ gone. absurd (⊎_elim (λ e. boot_bounce e) (λ e. boot_defer e) gone.0.area_is)) (cleans.files areas.Boot n boot_tmp)

  pub log-same : (a : Area) → a ≢ areas.Tmp → (id : Id) → IsId id → keeps id ≡ true → c.files a (id_text id) ≡ d.files a (id_text id)
  log-same a differ id hid kept = ⊎_elim (λ same. same)
      (λ gone. absurd (true_false (keeps id) kept (ap keeps (sym (id_text-injective gone.0.id id gone.0.form hid gone.0.name_is)) ∙ gone.0.gone))) (cleans.files a (id_text id) differ)

  pub none-same : (a : Area) → a ≢ areas.Tmp → (n : List ℕ) → d.files a n ≡ None → c.files a n ≡ None
  none-same a differ n none = ⊎_elim (λ (same : c.files a n ≡ d.files a n). same ∙ none) (λ gone. gone.1) (cleans.files a n differ)

  has-same : (s : Standing) → HasStanding c.files s → HasStanding d.files s
  has-same s h = record { id = h.id; place = h.place; there = ap is_some (sym (queue-same s.place s.id)) ∙ h.there }

  cleaned : (l : Book) → ((s : Standing) → HasStanding d.files s → keeps s.id ≡ true) → Stands d.files l → Stands c.files l
  cleaned l kept h = record {
    boot = BootStands-kept d.files c.files l.generation boot-same h.boot;
    distinct = h.distinct;
    messages = each-same (MessageStands d.files) (MessageStands c.files) l.messages (λ m k. MessageStands-kept d.files c.files m (queue-same m.place m.id)
        (log-same areas.Bounce bounce_tmp m.id k.id (kept (standing m.id m.place) (record { id = k.id; place = k.place; there = some_file d.files m.place m.id k.bytes k.there }))) k) h.messages;
    damaged = each-same (DamagedStands d.files) (DamagedStands c.files) l.damaged (λ x k. DamagedStands-kept d.files c.files x (queue-same x.place x.id) k) h.damaged;
    nothing_else = λ place i bytes hi hp there. h.nothing_else place i bytes hi hp (sym (queue-same place i) ∙ there);
  }

module _ (keeps : Id → Bool) (b : Book) (v w : View) (see : Sees v.files keeps) (lawful : TellsCrashes v) (stay : (c : Remains) → v.may_leave c → SameNames v.files c.files) (by : GoesBy (Cleans keeps) v w) (h : HostStands v b) where
  left-cleaned : (d c : Remains) → v.may_leave d → IsLeftOf b d → Cleans keeps d c → IsLeftOf b c
  left-cleaned d c may left cleans = record {
    left = left.left;
    after = left.after;
    stands = cleaned keeps d c cleans left.left (λ s has. see.to s (record { id = has.id; place = has.place; there = sym (stay d may (area_of s.place) (name_at s.place s.id)) ∙ has.there })) left.stands;
  }

  -- the book stays
  pub clear-takes : Takes b b v w
  clear-takes = record {
    told = by.reads.told;
    stands = record { reads = cleaned keeps (now v) (now w) by.reads b see.to h.reads; crash = λ c may. let d = by.goes.crash c may in left-cleaned d.0 c d.1 (h.crash d.0 d.1) d.2 };
    logs = λ own i hi absent. none-same keeps (now v) (now w) by.reads areas.Bounce bounce_tmp (id_text i) (own i hi absent);
    moments = meanwhile b b v w lawful by.goes (λ d c may left step. (step.told, inl (left-cleaned d c may left step))) h;
  }

  -- and its failures are sure
  pub clear-firm : IsClean keeps w → HostStands w (firmed b)
  clear-firm clean = record {
    reads = Stands-firm w.files b clear-takes.stands.reads;
    crash = λ c may. left-firm w.files c.files
        (λ s has. (clean.failures (id_text s.id)).settled refl s.id has.id refl (see.to s (has-same keeps (now v) (now w) by.reads s has)) c may)
        b c refl clear-takes.stands.reads (clear-takes.stands.crash c may);
  }

-- ---- the next generation

firm-ids : (ms : List Message) (id : Id) → is_some (find (λ m. id_eq m.id id) (map firm_failures ms)) ≡ is_some (find (λ m. id_eq m.id id) ms)
firm-ids [] id = refl
firm-ids (m ∷ ms) id = by (id_eq m.id id) (firm-ids ms id)
  where
    by : (t : Bool) → is_some (find (λ x. id_eq x.id id) (map firm_failures ms)) ≡ is_some (find (λ x. id_eq x.id id) ms)
        → is_some (if t then Some (firm_failures m) else find (λ x. id_eq x.id id) (map firm_failures ms)) ≡ is_some (if t then Some m else find (λ x. id_eq x.id id) ms)
    by true rest = refl
    by false rest = rest

-- the same ids stand
pub stands-begun : (b : Book) (id : Id) → stands (begun b) id ≡ stands b id
stands-begun b id = ap (λ (t : Bool). t || is_some (damaged_of b id)) (firm-ids b.messages id)

module _ (b : Book) (w x : View) (lawful : TellsCrashes w) (fits : b.generation + 1 < 2 ^ 32) (h : HostStands w (firmed b)) where
  wider : (c : Remains) → Between (firmed b) (begun b) w.told c → Between b (begun b) w.told c
  wider c k = record { told = k.told; book = ⊎_elim (λ l. inl (left-unfirm b c l)) (λ l. inr l) k.book }

  leaves : LeavesOnly w x (Between (firmed b) (begun b) w.told) → LeavesOnly w x (Between b (begun b) w.told)
  leaves k = record { later = k.later; each = λ c l. wider c (k.each c l); before = λ t c le l. ⊎_elim (λ was. inl was) (λ new. inr (wider c new)) (k.before t c le l) }

  pub raise-takes : Changes (raised b.generation) w x → Takes b (begun b) w x
  raise-takes ch =
      let t = changed (firmed b) raise_book (raised b.generation) (raises (firmed b) fits) w x lawful ch h in
      record { told = t.told; stands = t.stands; logs = λ own. t.logs (λ i hi absent. own i hi (sym (stands-begun b i) ∙ absent)); moments = leaves t.moments }

  pub raise-tries : MayRaise b.generation w x → Tries b (begun b) w x
  raise-tries may =
      let t = may_change (firmed b) raise_book (raised b.generation) (raises (firmed b) fits) w x lawful may h in
      record {
        told = t.told;
        stands = ⊎_elim (λ (s : HostStands x (firmed b)). inl (record { reads = Stands-unfirm x.files b s.reads; crash = λ c m. left-unfirm b c (s.crash c m) })) (λ s. inr s) t.stands;
        moments = leaves t.moments;
      }
