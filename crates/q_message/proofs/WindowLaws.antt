-- What a window shows of a file, and what is found in it.
use Rattle.std.proofs.Common.{◌≡◌, ℕ, zero, suc, ◌+◌, ◌-◌, ◌<◌, ◌≤◌, inl, inr, ⊎_elim, Bool, true, ◌&&◌, leb, if◌then◌else◌, List, [], ◌∷◌, length, take, drop, Option, Some, None, Result, Ok, Err, refl, sym, ap, subst, ◌∙◌, arith, count_by}
use Rattle.std.specs.Option.{IfSome, option_and_then, option_map_or}
use Rattle.std.proofs.Math.ListN.{drop_of_length-le}
use Rattle.std.proofs.lemmas.Bool.{and_from, cases_lt, cond-true, le-leb}
use Rattle.std.proofs.lemmas.List.{drop-drop, length-drop, take_all}
use Rattle.std.proofs.lemmas.List.Sums.{sum_by-cons}
use Rattle.q_model.specs.QueueFile.{FileRecipient}
use Rattle.q_model.specs.Values.{Spot}
use Rattle.q_model.specs.SpoolFiles.{Files}
use Rattle.q_message.specs.Fronts.{IsFront, begins_record, front_body}
use Rattle.q_model.specs.QueueFile.{is_first, original_of, recipient_of}
use Rattle.q_model.specs.QueueFileBytes.{original_size, recipient_size}
use Rattle.q_message.specs.Readings.{Start, content_from, fault_in, front_behind, front_original, front_recipient, marks_counted, recipients_from, start_from, version_at, with_first}
use Rattle.q_message.specs.Windows.{Seen, Shows, moved_on}
use Rattle.q_message.proofs.FrontLaws.{begins_cut, drop_cut, front_cut_behind, GoesOn}
use Rattle.q_message.proofs.RecipientReads.{original_near}

-- what a call said of a file that is still there
pub size_of_file : (o : Option (List ℕ)) (file : List ℕ) (size : ℕ) → IfSome o (λ f. size ≡ length f) → o ≡ Some file → size ≡ length file
size_of_file o file size h e = subst (λ (o : Option (List ℕ)). IfSome o (λ f. size ≡ length f)) e h

-- the file at a place that is told in another way
pub same_spot : (f : Files) (s u : Spot) (file : List ℕ) → s ≡ u → f u.area u.name ≡ Some file → f s.area s.name ≡ Some file
same_spot f s u file same h = subst (λ (s : Spot). f s.area s.name ≡ Some file) (sym same) h

-- ---- windows

pub moved_shows : (n : ℕ) (file : List ℕ) (w : Seen) → Shows file w → Shows file (moved_on n w)
moved_shows n file w h = record {
  same = ⊎_elim
      (λ past.
      let none : drop n w.bytes ≡ [] = drop_of_length-le w.bytes (omega (arith, past)) in
      none ∙ sym (ap (λ (xs : List ℕ). take (length xs) (drop (w.at + n) file)) none))
      (λ within.
      let len : length (drop n w.bytes) ≡ length w.bytes - n = length-drop n w.bytes in
      ap (drop n) h.same ∙ drop_cut n (length w.bytes) (drop w.at file) within
      ∙ ap (take (length w.bytes - n)) (drop-drop n w.at file) ∙ ap (λ (k : ℕ). take k (drop (w.at + n) file)) (sym len))
      (cases_lt (length w.bytes) n);
  all = λ ended. omega (arith, h.all ended, length-drop w.at file, length-drop (w.at + n) file, length-drop n w.bytes);
}

pub front_begins : (kind n : ℕ) (front whole : List ℕ) → IsFront front whole → begins_record kind n front ≡ begins_record kind n whole
front_begins kind n front whole h = ap (begins_record kind n) h.same ∙ begins_cut kind n (length front) whole h.enough

-- ---- what is found

start_cut : (n : ℕ) (whole : List ℕ) → GoesOn 1024 n whole → start_from (take n whole) ≡ start_from whole
start_cut n whole h =
    let c : front_body 67 (take n whole) ≡ front_body 67 whole = front_cut_behind 67 0 n whole (λ e. absurd (omega arith)) (omega arith) h in
    let t : front_body 84 (drop 17 (take n whole)) ≡ front_body 84 (drop 17 whole) = front_cut_behind 84 17 n whole (λ e. absurd (omega arith)) (omega arith) h in
    let s : front_body 83 (drop 30 (take n whole)) ≡ front_body 83 (drop 30 whole) = front_cut_behind 83 30 n whole (λ e. absurd (omega arith)) (omega arith) h in
    rw (c, t, s) refl

pub front_start : (front whole : List ℕ) → IsFront front whole → start_from front ≡ start_from whole
front_start front whole h = ap start_from h.same ∙ start_cut (length front) whole h.enough

pub start_found : (at : ℕ) (file front : List ℕ) (found : Result Start ℕ) → at ≡ 0 → IsFront front (drop at file) → found ≡ start_from front → start_from file ≡ found
start_found at file front found first h is = sym (front_start front file (subst (λ (n : ℕ). IsFront front (drop n file)) first h)) ∙ sym is

pub content_found : (n at : ℕ) (file front : List ℕ) → IsFront front (drop at file) → begins_record 78 n front ≡ true → at + 5 + n ≤ length file → content_from n at (drop at file) ≡ Ok (at + 5 + n)
content_found n at file front h begins within =
    let long : 5 + n ≤ length (drop at file) = omega (arith, length-drop at file) in
    cond-true ((begins_record 78 n (drop at file)) && leb (5 + n) (length (drop at file))) (Ok (at + 5 + n)) (Err at)
    (and_from (begins_record 78 n (drop at file)) (leb (5 + n) (length (drop at file))) (sym (front_begins 78 n front (drop at file) h) ∙ begins) (le-leb (5 + n) (length (drop at file)) long))

original_found : (version : ℕ) (front whole : List ℕ) → IsFront front whole → front_original version front ≡ front_original version whole
original_found version front whole h =
    let cut : front_body 79 (take (length front) whole) ≡ front_body 79 whole = front_cut_behind 79 0 (length front) whole (λ e. absurd (omega arith)) (omega arith) h.enough in
    ap (front_original version) h.same ∙ ap (λ (b : Option (List ℕ)). if is_first version then Some None else option_and_then original_of b) cut

pub recipient_found : (version : ℕ) (front whole : List ℕ) → IsFront front whole → front_recipient version front ≡ front_recipient version whole
recipient_found version front whole h =
    ap (option_and_then (front_behind version front)) (original_found version front whole h) ∙ by (front_original version whole) refl
  where
    by : (o : Option (Option (List ℕ))) → front_original version whole ≡ o → option_and_then (front_behind version front) o ≡ option_and_then (front_behind version whole) o
    by None e = refl
    by (Some o) e =
        let near : original_size version o ≤ 700 = omega (arith, original_near version whole o e) in
        let cut : front_body 82 (drop (original_size version o) (take (length front) whole)) ≡ front_body 82 (drop (original_size version o) whole) = front_cut_behind 82 (original_size version o) (length front) whole (λ e. absurd (omega arith)) near h.enough in
        ap (λ (xs : List ℕ). option_and_then (recipient_of o) (front_body 82 (drop (original_size version o) xs))) h.same ∙ ap (option_and_then (recipient_of o)) cut

pub fault_found : (version : ℕ) (front whole : List ℕ) → IsFront front whole → fault_in version front ≡ fault_in version whole
fault_found version front whole h = ap (λ (o : Option (Option (List ℕ))). option_map_or (original_size version) o 0) (original_found version front whole h)

version_cut : (n : ℕ) (whole : List ℕ) → GoesOn 1024 n whole → version_at (take n whole) ≡ version_at whole
version_cut n whole (inr all) = ap version_at (take_all n whole all)
version_cut zero whole (inl far) = absurd (omega arith)
version_cut (suc n) [] (inl far) = refl
version_cut (suc n) (b ∷ whole) (inl far) = refl

pub version_found : (front whole : List ℕ) → IsFront front whole → version_at front ≡ version_at whole
version_found front whole h = ap version_at h.same ∙ version_cut (length front) whole h.enough

-- ---- counting marks

abbrev pub one_if : Bool → ℕ
one_if b = if b then 1 else 0

count_first : (r : FileRecipient) (k : ℕ) (q : Result (List FileRecipient × ℕ) ℕ) → marks_counted k (with_first r q) ≡ marks_counted (k + one_if r.marked) q
count_first r k (Err place) = refl
count_first r k (Ok (rs, at)) =
    let more : k + count_by (λ (x : FileRecipient). x.marked) (r ∷ rs) ≡ k + one_if r.marked + count_by (λ (x : FileRecipient). x.marked) rs = omega (arith, sum_by-cons (λ (x : FileRecipient). one_if x.marked) r rs) in
    ap (λ (n : ℕ). counted n at) more
  where
    counted : ℕ → ℕ → Result (ℕ × ℕ) ℕ
    counted n at = Ok (n, at)

-- one recipient is passed over
pub counted_one : (version n k at : ℕ) (bytes : List ℕ) (r : FileRecipient) → front_recipient version bytes ≡ Some r
    → marks_counted k (recipients_from version (suc n) at bytes) ≡ marks_counted (k + one_if r.marked) (recipients_from version n (at + recipient_size version r) (drop (recipient_size version r) bytes))
counted_one version n k at bytes r e =
    ap (λ (o : Option FileRecipient). marks_counted k (option_map_or (λ r. with_first r (recipients_from version n (at + recipient_size version r) (drop (recipient_size version r) bytes))) o (Err (at + fault_in version bytes)))) e
    ∙ count_first r k (recipients_from version n (at + recipient_size version r) (drop (recipient_size version r) bytes))

pub counted_none : (version n k at : ℕ) (bytes : List ℕ) → front_recipient version bytes ≡ None → marks_counted k (recipients_from version (suc n) at bytes) ≡ Err (at + fault_in version bytes)
counted_none version n k at bytes e = ap (λ (o : Option FileRecipient). marks_counted k (option_map_or (λ r. with_first r (recipients_from version n (at + recipient_size version r) (drop (recipient_size version r) bytes))) o (Err (at + fault_in version bytes)))) e

-- one more is passed over, in the window
pub step_reads : (version recipients counter marked more at next : ℕ) (file front : List ℕ) (r : FileRecipient) → counter < recipients → IsFront front (drop at file) → front_recipient version front ≡ Some r → more ≡ marked + one_if r.marked → next ≡ at + recipient_size version r
    → marks_counted more (recipients_from version (recipients - (counter + 1)) next (drop next file)) ≡ marks_counted marked (recipients_from version (recipients - counter) at (drop at file))
step_reads version recipients counter marked more at next file front r left h is counts moves =
    let n = recipients - (counter + 1) in
    let size = recipient_size version r in
    let one_left : recipients - counter ≡ suc (recipients - (counter + 1)) = omega (arith, left) in
    ap (λ (k : ℕ). marks_counted k (recipients_from version n next (drop next file))) counts
    ∙ ap (λ (k : ℕ). marks_counted (marked + one_if r.marked) (recipients_from version n k (drop k file))) moves
    ∙ ap (λ (xs : List ℕ). marks_counted (marked + one_if r.marked) (recipients_from version n (at + size) xs)) (sym (drop-drop size at file))
    ∙ sym (counted_one version n marked at (drop at file) r (sym (recipient_found version front (drop at file) h) ∙ is))
    ∙ ap (λ (k : ℕ). marks_counted marked (recipients_from version k at (drop at file))) (sym one_left)

-- none stands there
pub stop_reads : (version recipients counter marked at place : ℕ) (file front : List ℕ) → counter < recipients → IsFront front (drop at file) → front_recipient version front ≡ None → place ≡ at + fault_in version front
    → marks_counted marked (recipients_from version (recipients - counter) at (drop at file)) ≡ Err place
stop_reads version recipients counter marked at place file front left h is there =
    let n = recipients - (counter + 1) in
    let one_left : recipients - counter ≡ suc (recipients - (counter + 1)) = omega (arith, left) in
    ap (λ (k : ℕ). marks_counted marked (recipients_from version k at (drop at file))) one_left
    ∙ counted_none version n marked at (drop at file) (sym (recipient_found version front (drop at file) h) ∙ is)
    ∙ ap (λ (k : ℕ). Err (at + k)) (sym (fault_found version front (drop at file) h))
    ∙ ap (λ (k : ℕ). Err k) (sym there)
