-- What is told of the messages that stand, as one is added to incoming.
use Rattle.std.proofs.Common.{◌≡◌, Bool, true, false, List, [], ◌∷◌, ◌++◌, filter, is_some, not, Option, refl, sym, ap, ◌∙◌, subst}
use Rattle.std.specs.List.{list_any}
use Rattle.std.specs.Prelude.{◌&&◌, ◌||◌}
use Rattle.q_core.proofs.DueLaws.{due_added, due_joined, due_listed, is_deferred}
use Rattle.q_core.proofs.PlacedLaws.{damaged_at, named, placed_added}
use Rattle.q_core.proofs.QueueLaws.{IsSameOf, still_same, with_files}
use Rattle.q_core.proofs.SameLaws.{not_bool}
use Rattle.q_core.proofs.StepLaws.{IsStillSeen}
use Rattle.q_core.specs.declared.state.Seen.{Seen}
use Rattle.q_laws.proofs.Added.{IsAddable, other_found}
use Rattle.q_laws.proofs.Members.{IsIn}
use Rattle.q_model.proofs.IdLaws.{id_eq-true}
use Rattle.q_model.specs.Admissions.{cause_gone}
use Rattle.q_model.specs.Book.{Book, Damaged, all_ids, damaged_of, ids_at, stands, stands_in}
use Rattle.q_model.specs.BookChanges.{add_message}
use Rattle.q_model.specs.Ids.{bounce_of, cause_of, id_eq}
use Rattle.q_model.specs.Ledger.{Ledger}
use Rattle.q_model.specs.Leftovers.{leftovers}
use Rattle.q_model.specs.Memory.{is_admitted}
use Rattle.q_model.specs.Message.{Message}
use Rattle.q_model.specs.Places.{is_active, is_incoming}
use Rattle.q_model.specs.Scans.{deferred_name}
use Rattle.q_model.specs.declared.id.Id.{Id}
use Rattle.q_model.specs.declared.rows.Place.TheVariants as places

any_last : {X : Type 0} (p : X → Bool) (x : X) → p x ≡ false → (xs : List X) → list_any p (xs ++ x ∷ []) ≡ list_any p xs
any_last p x e [] = ap (λ z. z || false) e
any_last p x e (y ∷ ys) = ap (λ z. p y || z) (any_last p x e ys)

added_incoming : (b : Book) (x : Message) (i : Id) → id_eq x.id i ≡ false → stands_in is_incoming (add_message b x) i ≡ stands_in is_incoming b i
added_incoming b x i other =
    ap (λ z. z || list_any (λ (d : Damaged). id_eq d.id i && is_incoming d.place) b.damaged)
    (any_last (λ (m : Message). id_eq m.id i && is_incoming m.place) x (ap (λ z. z && is_incoming x.place) other) b.messages)

added_alone : (b : Book) (x : Message) (i : Id) → (t : Bool) → i.bounce ≡ t → (t ≡ true → id_eq x.id (cause_of i) ≡ false) → cause_gone (add_message b x) i ≡ cause_gone b i
added_alone b x i false e h = ap (λ z. not (z && stands (add_message b x) (cause_of i))) e ∙ sym (ap (λ z. not (z && stands b (cause_of i))) e)
added_alone b x i true e h = ap (λ (o : Option Message). not (i.bounce && (is_some o || is_some (damaged_of b (cause_of i))))) (other_found b x (cause_of i) (h refl))

-- a message that stands stays, where the new one isn't its bounce
pub added_same : (b : Book) (x : Message) → IsAddable b x → (i : Id) → IsIn i (all_ids b) → id_eq x.id (bounce_of i) ≡ false → IsSameOf b (add_message b x) i
added_same b x a i inside apart = record {
  message = other_found b x i (not_bool (id_eq x.id i) (λ e. a.new (subst (λ j. IsIn j (all_ids b)) (sym (id_eq-true x.id i e)) inside)));
  bounced = added_incoming b x (bounce_of i) apart;
  alone = added_alone b x i i.bounce refl (λ bounce. not_bool (id_eq x.id (cause_of i)) (λ e. a.childless i inside bounce (sym (id_eq-true x.id (cause_of i) e))));
}

-- the same messages are left by an earlier life
pub added_left : (l : Ledger) (x : Message) → is_active x.place ≡ false → leftovers (with_files l (add_message l.book x) l.admitted) ≡ leftovers l
added_left l x e = ap (λ ms. filter (λ i. not (is_admitted l i)) (named ms ++ damaged_at is_active l.book)) (placed_added is_active x e l.book.messages)

-- the same is told of deferred
pub added_still : (seen : Seen) (l : Ledger) (x : Message) → x.place ≡ places.Incoming → ((i : Id) → IsIn i (ids_at is_deferred l.book) → IsSameOf l.book (add_message l.book x) i) → IsStillSeen seen l → IsStillSeen seen (with_files l (add_message l.book x) l.admitted)
added_still seen l x place same h =
    still_same seen l (add_message l.book x) l.admitted (due_joined l.book (add_message l.book x) refl (due_added x (ap (λ p. deferred_name p x.id) place) l.book.messages))
    (λ n inside. same n.id (due_listed l.book n inside)) h
