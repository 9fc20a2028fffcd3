-- Whoever is found in the book is found there until it is removed, and nobody comes into memory but by
-- an admission.
use Rattle.std.proofs.Common.{◌≡◌, ◌∙◌, ◌++◌, ◌⊎◌, inl, inr, ℕ, Bool, true, false, List, [], ◌∷◌, filter, Option, Some, None, is_some, not, if◌then◌else◌, refl, sym, ap, subst}
use Rattle.std.specs.List.{list_any}
use Rattle.std.specs.Option.{option_map_or}
use Rattle.std.specs.Prelude.{nat_le, replicate, length}
use Rattle.std.proofs.lemmas.Bool.{or_from, or_parts}
use Rattle.q_model.specs.declared.entry.Entry.{Entry}
use Rattle.q_model.specs.declared.entry.Entry.TheVariants as entries
use Rattle.q_model.specs.declared.event.Trigger.{Trigger}
use Rattle.q_model.specs.declared.event.Trigger.TheVariants as triggers
use Rattle.q_model.specs.declared.id.Id.{Id}
use Rattle.q_model.specs.declared.outcome.Outcome.{Outcome}
use Rattle.q_model.specs.declared.outcome.Outcome.TheVariants as outcomes
use Rattle.q_model.specs.declared.outcome.SiteState.{SiteState}
use Rattle.q_model.specs.declared.rows.Admitted.{Admitted}
use Rattle.q_model.specs.declared.rows.Delivery.{Delivery}
use Rattle.q_model.specs.Book.{Book, message_of}
use Rattle.q_model.specs.BookChanges.{add_message}
use Rattle.q_model.specs.Clock.{scheduled, woken}
use Rattle.q_model.specs.Deliveries.{flight_of}
use Rattle.q_model.specs.Ids.{id_eq}
use Rattle.q_model.specs.Leftovers.{is_next_leftover}
use Rattle.q_model.specs.Ledger.{Ledger}
use Rattle.q_model.specs.Batches.{load_rows}
use Rattle.q_model.specs.Loads.{loaded}
use Rattle.q_model.specs.Memory.{is_admitted}
use Rattle.q_model.specs.Message.{Message}
use Rattle.q_model.specs.Notices.{bounce_message}
use Rattle.q_model.specs.Replies.{landed, replied}
use Rattle.q_model.specs.Scans.{ask_scan}
use Rattle.q_model.specs.Settings.{World}
use Rattle.q_model.specs.Settling.{needs_of, with_outcomes}
use Rattle.q_model.specs.Skips.{unqueued}
use Rattle.q_model.specs.Step.{after, after_all, change}
use Rattle.q_model.specs.Triggers.{after_trigger}
use Rattle.q_model.specs.Alternation.{after_pick, from_deferred, from_incoming, passed, Pick, pick}
use Rattle.q_model.proofs.IdLaws.{id_eq-refl}
use Rattle.q_laws.proofs.Books.{message_in}
use Rattle.q_laws.proofs.Loaded.{any_read}
use Rattle.q_laws.proofs.Members.{find_none, in_filtered, in_map, in_unmap, IsIn, none_at, none_from}
use Rattle.q_lives.proofs.Books.{after_is}
use Rattle.q_lives.proofs.Standing.{after_stays, message_ids}
use Rattle.q_lives.specs.Standing.{is_remove_of}
use Rattle.q_engine.specs.KeptNotes.{is_reset}

-- ---- who stands

found_listed : (b : Book) (id : Id) → is_some (message_of b id) ≡ true → IsIn id (message_ids b)
found_listed b id h = by (message_of b id) refl h
  where
    by : (o : Option Message) → message_of b id ≡ o → is_some o ≡ true → IsIn id (message_ids b)
    by None e k = absurd cc
    by (Some m) e k =
        let (inside, named) = message_in b id m e in
        subst (λ (i : Id). IsIn i (message_ids b)) named (in_map (λ (x : Message). x.id) m b.messages inside)

listed_found : (b : Book) (id : Id) → IsIn id (message_ids b) → is_some (message_of b id) ≡ true
listed_found b id h = by (message_of b id) refl
  where
    by : (o : Option Message) → message_of b id ≡ o → is_some o ≡ true
    by None e =
        let (m, inside, named) = in_unmap (λ (x : Message). x.id) id b.messages h in
        let bad : false ≡ true = sym (find_none (λ (x : Message). id_eq x.id id) m b.messages e inside) ∙ ap (λ (i : Id). id_eq i id) named ∙ id_eq-refl id in
        absurd cc
    by (Some m) e = refl

pub still_found : (w : World) (l : Ledger) (e : Entry) (id : Id) → is_remove_of id e ≡ false → is_some (message_of l.book id) ≡ true → is_some (message_of (after w l e).book id) ≡ true
still_found w l e id kept there = by (after_stays w l e id (found_listed l.book id there))
  where
    by : (is_remove_of id e ≡ true) ⊎ IsIn id (message_ids (after w l e).book) → is_some (message_of (after w l e).book id) ≡ true
    by (inl gone) = let bad : true ≡ false = sym gone ∙ kept in absurd cc
    by (inr listed) = listed_found (after w l e).book id listed

-- ---- who is in memory

pub option_admitted : {A : Type 0} (id : Id) (k l : Ledger) (f : A → Ledger) → ((x : A) → is_admitted (f x) id ≡ is_admitted l id) → is_admitted k id ≡ is_admitted l id → (o : Option A) → is_admitted (option_map_or f o k) id ≡ is_admitted l id
option_admitted id k l f h none None = none
option_admitted id k l f h none (Some x) = h x

either_admitted : (id : Id) (a b l : Ledger) → is_admitted a id ≡ is_admitted l id → is_admitted b id ≡ is_admitted l id → (t : Bool) → is_admitted (if t then a else b) id ≡ is_admitted l id
either_admitted id a b l x y true = x
either_admitted id a b l x y false = y

pub outcomes_admitted : (w : World) (i id : Id) (ps : List ℕ) (os : List Outcome) (l : Ledger) → is_admitted (with_outcomes w id ps os l) i ≡ is_admitted l i
outcomes_admitted w i id ps os l = option_admitted i l l (λ m. record l { unsettled = l.unsettled ++ needs_of w l.now m ps os }) (λ m. refl) refl (message_of l.book id)

pub reply_admitted : (w : World) (l : Ledger) (state : SiteState) (os : List Outcome) (id : Id) (o : Option Delivery) → is_admitted (option_map_or (λ (f : Delivery). replied w l state os f) o l) id ≡ is_admitted l id
reply_admitted w l state os id o = option_admitted id l l (λ f. replied w l state os f) (λ f. outcomes_admitted w id f.row.id f.row.positions os (landed w l state f)) refl o

asked_admitted : (id : Id) (k : Ledger) → is_admitted (ask_scan k) id ≡ is_admitted k id
asked_admitted id k = option_admitted id _ k _ (λ s. refl) refl k.scan

trigger_admitted : (w : World) (l : Ledger) (kind : Trigger) (id : Id) → is_admitted (after_trigger w l kind) id ≡ is_admitted l id
trigger_admitted w l triggers.D id = asked_admitted id l
trigger_admitted w l triggers.A id = refl
trigger_admitted w l triggers.F id = refl

picked_admitted : (l : Ledger) (id : Id) (o : Option Pick) → is_admitted (option_map_or (λ p. passed p l) o l) id ≡ is_admitted l id
picked_admitted l id None = refl
picked_admitted l id (Some (from_incoming i)) = refl
picked_admitted l id (Some (from_deferred name)) = refl

without_out : (i id : Id) (xs : List Admitted) → list_any (λ (a : Admitted). id_eq a.id id) xs ≡ false → list_any (λ (a : Admitted). id_eq a.id id) (filter (λ (a : Admitted). not (id_eq a.id i)) xs) ≡ false
without_out i id xs h = none_from (λ (a : Admitted). id_eq a.id id) (filter (λ (a : Admitted). not (id_eq a.id i)) xs) (λ a inside.
    none_at (λ (x : Admitted). id_eq x.id id) a xs h (in_filtered (λ (x : Admitted). not (id_eq x.id i)) a xs inside).0)

more_out : (p : Admitted → Bool) (xs : List Admitted) (x : Admitted) → list_any p xs ≡ false → p x ≡ false → list_any p (xs ++ x ∷ []) ≡ false
more_out p [] x out apart = or_from (p x) false apart refl
more_out p (y ∷ ys) x out apart =
    let both = or_parts (p y) (list_any p ys) out in
    or_from (p y) (list_any p (ys ++ x ∷ [])) both.0 (more_out p ys x both.1 apart)

change_out : (w : World) (l : Ledger) (e : Entry) (id : Id) → is_admitted l id ≡ false → is_reset id e ≡ false → is_admitted (change w l e) id ≡ false
change_out w l (entries.Life generation mode) id out calm = refl
change_out w l (entries.At t) id out calm = either_admitted id (ask_scan (scheduled w l t)) (woken w l t) l (asked_admitted id (scheduled w l t)) refl (nat_le l.next_run t) ∙ out
change_out w l (entries.Arrive i sender to content) id out calm = out
change_out w l (entries.Back i) id out calm = out
change_out w l (entries.Admit i) id out calm = more_out (λ (a : Admitted). id_eq a.id id) l.admitted (record { id = i; unread = 0 }) out calm
change_out w l (entries.Load i from to) id out calm = option_admitted id l l (λ m. loaded w l i to (load_rows w m from to)) (λ m. any_read i id to l.admitted) refl (message_of l.book i) ∙ out
change_out w l (entries.Start number i site ps) id out calm = out
change_out w l (entries.Preempt child parent transport need) id out calm = out
change_out w l (entries.Reply number state os) id out calm = reply_admitted w l state os id (flight_of l number) ∙ out
change_out w l (entries.Skip i site ps) id out calm = outcomes_admitted w id i ps (replicate (length ps) (outcomes.Later 0)) (unqueued l i site ps) ∙ out
change_out w l (entries.Log i f) id out calm = out
change_out w l (entries.Mark i q) id out calm = out
change_out w l (entries.Sync i) id out calm = out
change_out w l (entries.Defer i due) id out calm = without_out i id l.admitted out
change_out w l (entries.Bounce i) id out calm = option_admitted id l l (λ m. record l { book = add_message l.book (bounce_message l.now m) }) (λ m. refl) refl (message_of l.book i) ∙ out
change_out w l (entries.Remove i) id out calm = without_out i id l.admitted out
change_out w l (entries.Corrupt i) id out calm = either_admitted id l (after_pick l) l refl (picked_admitted l id (pick l)) (is_next_leftover l i) ∙ out
change_out w l (entries.Trigger kind) id out calm = trigger_admitted w l kind id ∙ out
change_out w l entries.End id out calm = out

pub out_after : (w : World) (l : Ledger) (e : Entry) (id : Id) → is_admitted l id ≡ false → is_reset id e ≡ false → is_admitted (after w l e) id ≡ false
out_after w l e id out calm = (after_is w l e).admitted id ∙ change_out w l e id out calm

pub out_after_all : (w : World) (l : Ledger) (es : List Entry) (id : Id) → is_admitted l id ≡ false → list_any (is_reset id) es ≡ false → is_admitted (after_all w l es) id ≡ false
unfolding after_all
out_after_all w l [] id out calm = out
out_after_all w l (e ∷ es) id out calm =
    let both = or_parts (is_reset id e) (list_any (is_reset id) es) calm in
    out_after_all w (after w l e) es id (out_after w l e id out both.0) both.1
