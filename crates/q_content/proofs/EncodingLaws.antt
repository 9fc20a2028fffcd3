-- What bytes add, cut in two, and how much.
use Rattle.std.proofs.Common.{◌≡◌, ◌+◌, ◌*◌, ◌≤◌, ◌++◌, ◌∷◌, ◌∙◌, [], append_assoc, ap, arith, length, List, refl, sym, ℕ}
use Rattle.std.proofs.lemmas.List.{length-append}
use Rattle.q_content.specs.Encoding.{behind_byte, behind_bytes, held_back, sent_byte, sent_bytes, sent_end, sent_rest}
use Rattle.q_content.specs.declared.encoding.ContentLine.{ContentLine}

pub sent_bytes-append : (l : ContentLine) (front back : List ℕ) → sent_bytes l (front ++ back) ≡ sent_bytes l front ++ sent_bytes (behind_bytes l front) back
unfolding sent_bytes behind_bytes
sent_bytes-append l [] back = refl
sent_bytes-append l (b ∷ front) back =
    ap (λ (x : List ℕ). sent_byte l b ++ x) (sent_bytes-append (behind_byte l b) front back)
    ∙ sym (append_assoc (sent_byte l b) (sent_bytes (behind_byte l b) front) (sent_bytes (behind_bytes (behind_byte l b) front) back))

pub behind_bytes-append : (l : ContentLine) (front back : List ℕ) → behind_bytes l (front ++ back) ≡ behind_bytes (behind_bytes l front) back
unfolding behind_bytes
behind_bytes-append l [] back = refl
behind_bytes-append l (b ∷ front) back = behind_bytes-append (behind_byte l b) front back

pub sent_rest-append : (l : ContentLine) (front back : List ℕ) → sent_rest l (front ++ back) ≡ sent_bytes l front ++ sent_rest (behind_bytes l front) back
sent_rest-append l front back =
    let behind = behind_bytes l front in
    ap (λ (x : List ℕ). x ++ sent_end (behind_bytes l (front ++ back))) (sent_bytes-append l front back)
    ∙ ap (λ (m : ContentLine). (sent_bytes l front ++ sent_bytes behind back) ++ sent_end m) (behind_bytes-append l front back)
    ∙ append_assoc (sent_bytes l front) (sent_bytes behind back) (sent_end (behind_bytes behind back))

-- how many bytes a line holds back
holds : ContentLine → ℕ
holds l = length (held_back l)

-- a byte adds two at most, and what was held back before it
few_byte : (l : ContentLine) (b : ℕ) → length (sent_byte l b) + holds (behind_byte l b) ≤ 2 + holds l
unfolding holds
few_byte l b = grind arith

few_behind : (l : ContentLine) (bytes : List ℕ) → length (sent_bytes l bytes) + holds (behind_bytes l bytes) ≤ 2 * length bytes + holds l
unfolding sent_bytes behind_bytes
few_behind l [] = omega arith
few_behind l (b ∷ bytes) =
    omega (arith, length-append (sent_byte l b) (sent_bytes (behind_byte l b) bytes), few_byte l b, few_behind (behind_byte l b) bytes)

holds_one : (l : ContentLine) → holds l ≤ 1
unfolding holds
holds_one l = grind arith

-- bytes add two each at most, and one that was held back before them
pub few_bytes : (l : ContentLine) (bytes : List ℕ) → length (sent_bytes l bytes) ≤ 2 * length bytes + 1
few_bytes l bytes = omega (arith, few_behind l bytes, holds_one l)
