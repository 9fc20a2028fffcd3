-- The recipients of a queue file behind those that were read.
use Rattle.std.proofs.Common.{◌≡◌, ◌∙◌, ℕ, zero, suc, ◌+◌, ◌-◌, ◌≤◌, Bool, true, false, not, List, [], ◌∷◌, length, take, drop, slice_get, Option, Some, None, if◌then◌else◌, refl, sym, ap, subst, arith}
use Rattle.std.specs.Option.{IfSome, option_map_or}
use Rattle.std.proofs.lemmas.List.{drop-drop, drop_all}
use Rattle.q_message.proofs.WindowLaws.{same_spot}
use Rattle.q_message.proofs.PendingLaws.{next_cursor}
use Rattle.q_message.specs.Pending.{HasCursor, IsPlaceBehind, position_behind, unmarked_from}
use Rattle.q_model.proofs.QueueFileLaws.{queue_file_again}
use Rattle.q_model.specs.declared.file_head.Cursor.{Cursor}
use Rattle.q_model.specs.FilesStand.{file_message}
use Rattle.q_model.specs.Lists.{places_from}
use Rattle.q_model.specs.Message.{Message}
use Rattle.q_model.specs.QueueFile.{FileMessage, FileRecipient, queue_file}
use Rattle.q_model.specs.SpoolFiles.{Files}
use Rattle.q_model.specs.Values.{Spot}
use Rattle.q_pending.specs.Readings.{IsFileOfMessage}

-- ---- the file of the message

pub record HasFile (o : Option (List ℕ)) (m : FileMessage) : Type 0 where
  pub bytes : List ℕ
  pub here : o ≡ Some bytes
  pub reads : queue_file bytes ≡ Some m

pub has_file : (f : Files) (m : Message) (spot : Spot) → IsFileOfMessage f m spot → HasFile (f spot.area spot.name) (file_message m)
has_file f m spot h =
    let stands = h.stands in
    record {
      bytes = stands.bytes;
      here = same_spot f spot _ stands.bytes h.spot stands.there;
      reads = ap queue_file stands.reads.written ∙ queue_file_again (file_message m) stands.reads.marks stands.reads.lawful stands.reads.agree;
    }

-- what is told of the message of a file
pub of_file : (o : Option (List ℕ)) (m : FileMessage) (P : FileMessage → Type 0) → HasFile o m → IfSome o (λ bytes. IfSome (queue_file bytes) P) → P m
of_file o m P h told =
    let there = subst (λ (x : Option (List ℕ)). IfSome x (λ bytes. IfSome (queue_file bytes) P)) h.here told in
    subst (λ (x : Option FileMessage). IfSome x P) h.reads there

-- the place behind those that were read is one of the file
pub cursor_behind : (o : Option (List ℕ)) (recipients : ℕ) (cursor next : Cursor) (room : ℕ) → IfSome o (λ bytes. HasCursor bytes recipients cursor) → IfSome o (IsPlaceBehind cursor.position room next) → IfSome o (λ bytes. HasCursor bytes recipients next)
cursor_behind None recipients cursor next room has is = tt
cursor_behind (Some bytes) recipients cursor next room has is = next_cursor bytes recipients cursor next room has is

-- ---- behind the first few of those that aren't marked

record IsBehind {A : Type 0} (t : ℕ → A → Bool) (n : ℕ) (rs : List A) (j p : ℕ) : Type 0 where
  index : ℕ
  is : p ≡ n + index
  rest : places_from (p + 1) t (drop (suc index) rs) ≡ drop (suc j) (places_from n t rs)

same_some : {A : Type 0} (x y : A) → Some x ≡ Some y → x ≡ y
same_some x y e = cc

behind_one : {A : Type 0} (t : ℕ → A → Bool) (n : ℕ) (x : A) (rs : List A) (j p : ℕ) (b : Bool) → t n x ≡ b → ((i : ℕ) → slice_get (places_from (n + 1) t rs) i ≡ Some p → IsBehind t (n + 1) rs i p)
    → slice_get (if b then n ∷ places_from (n + 1) t rs else places_from (n + 1) t rs) j ≡ Some p
    → (i : ℕ) × (p ≡ n + i) × (places_from (p + 1) t (drop (suc i) (x ∷ rs)) ≡ drop (suc j) (if b then n ∷ places_from (n + 1) t rs else places_from (n + 1) t rs))
behind_one t n x rs zero p true e rest h =
    let same : n ≡ p = same_some n p h in
    (0, omega (arith, same), ap (λ (q : ℕ). places_from (q + 1) t rs) (sym same))
behind_one t n x rs (suc j) p true e rest h = let r = rest j h in (suc r.index, omega (arith, r.is), r.rest)
behind_one t n x rs j p false e rest h = let r = rest j h in (suc r.index, omega (arith, r.is), r.rest)

behind_is : {A : Type 0} (t : ℕ → A → Bool) (n : ℕ) (rs : List A) (j p : ℕ) → slice_get (places_from n t rs) j ≡ Some p → IsBehind t n rs j p
behind_is t n [] j p h = absurd cc
behind_is t n (x ∷ rs) j p h = let b = behind_one t n x rs j p (t n x) refl (λ i k. behind_is t (n + 1) rs i p k) h in record { index = b.0; is = b.1; rest = b.2 }

drop_past : {A : Type 0} (xs : List A) (j : ℕ) → slice_get xs j ≡ None → drop (suc j) xs ≡ []
drop_past [] j h = refl
drop_past (x ∷ xs) zero h = absurd cc
drop_past (x ∷ xs) (suc j) h = drop_past xs j h

pub left_behind : (m : FileMessage) (c k : ℕ) → 1 ≤ k → unmarked_from m (position_behind m c k) ≡ drop k (unmarked_from m c)
left_behind m c k h = let all : suc (k - 1) ≡ k = omega (arith, h) in by (slice_get (unmarked_from m c) (k - 1)) refl ∙ ap (λ (n : ℕ). drop n (unmarked_from m c)) all
  where
    by : (o : Option ℕ) → slice_get (unmarked_from m c) (k - 1) ≡ o → unmarked_from m (option_map_or (λ p. p + 1) o (length m.recipients)) ≡ drop (suc (k - 1)) (unmarked_from m c)
    by None e = ap (places_from (length m.recipients) (λ i (r : FileRecipient). not r.marked)) (drop_all (length m.recipients) m.recipients (omega arith)) ∙ sym (drop_past (unmarked_from m c) (k - 1) e)
    by (Some p) e =
        let b = behind_is (λ i (r : FileRecipient). not r.marked) c (drop c m.recipients) (k - 1) p e in
        let there : c + suc b.index ≡ p + 1 = omega (arith, b.is) in
        ap (places_from (p + 1) (λ i (r : FileRecipient). not r.marked)) (sym (drop-drop (suc b.index) c m.recipients ∙ ap (λ (n : ℕ). drop n m.recipients) there)) ∙ b.rest

-- where none was read there is none
pub none_left : {A : Type 0} (k : ℕ) (xs : List A) → 1 ≤ k → length (take k xs) ≡ 0 → xs ≡ []
none_left k [] some none = refl
none_left zero (x ∷ xs) some none = absurd (omega (arith, some))
none_left (suc k) (x ∷ xs) some none = absurd (omega (arith, none))
