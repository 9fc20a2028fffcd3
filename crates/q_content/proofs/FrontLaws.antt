-- The front of a piece that was sent, and the bytes behind it.
use Rattle.std.proofs.Common.{◌≡◌, ◌+◌, ◌≤◌, ◌*◌, ◌++◌, ◌∙◌, ap, arith, drop, length, List, refl, sym, take, ℕ}
use Rattle.std.proofs.Math.Seq.{take-add}
use Rattle.std.proofs.lemmas.List.{length-append, length-drop, length-take-le}
use Rattle.q_content.specs.Encoding.{behind_bytes, sent_bytes}
use Rattle.q_content.specs.declared.encoding.ContentLine.{ContentLine}
use Rattle.q_content.proofs.EncodingLaws.{behind_bytes-append, few_bytes, sent_bytes-append}

-- what is so when so many bytes of a piece were sent
pub record IsSent (start : ContentLine) (piece out : List ℕ) (behind : ContentLine) (from count : ℕ) : Type 0 where
  pub within : from ≤ length piece
  pub line : behind ≡ behind_bytes start (take from piece)
  pub total : count ≡ length (sent_bytes start (take from piece))
  pub bytes : take count out ≡ sent_bytes start (take from piece)

pub none_sent : (start : ContentLine) (piece out : List ℕ) → IsSent start piece out start 0 0
unfolding sent_bytes behind_bytes
none_sent start piece out = record { within = omega arith; line = refl; total = refl; bytes = refl }

-- a few bytes more
pub more_sent : {start : ContentLine} {piece out : List ℕ} {behind : ContentLine} {from count : ℕ} → IsSent start piece out behind from count → (rest new : List ℕ) (next : ContentLine) (taken sum : ℕ) → rest ≡ drop from piece → taken ≤ length rest → next ≡ behind_bytes behind (take taken rest) → sum ≡ count + length (sent_bytes behind (take taken rest)) → take sum new ≡ take count out ++ sent_bytes behind (take taken rest) → IsSent start piece new next (from + taken) sum
more_sent {start} {piece} {out} {behind} {from} {count} so rest new next taken sum left within line total bytes =
    let front = take from piece in
    let more = take taken rest in
    let both : take (from + taken) piece ≡ front ++ more = take-add from taken piece ∙ ap (λ (x : List ℕ). front ++ take taken x) (sym left) in
    let all : sent_bytes start (take (from + taken) piece) ≡ sent_bytes start front ++ sent_bytes behind more =
    ap (sent_bytes start) both ∙ sent_bytes-append start front more ∙ ap (λ (m : ContentLine). sent_bytes start front ++ sent_bytes m more) (sym so.line) in
    record {
      within = omega (arith, so.within, within, ap (λ (x : List ℕ). length x) left, length-drop from piece);
      line = line ∙ ap (λ (m : ContentLine). behind_bytes m more) so.line ∙ sym (behind_bytes-append start front more) ∙ ap (behind_bytes start) (sym both);
      total = omega (arith, total, so.total, ap (λ (x : List ℕ). length x) all, length-append (sent_bytes start front) (sent_bytes behind more));
      bytes = bytes ∙ ap (λ (x : List ℕ). x ++ sent_bytes behind more) so.bytes ∙ sym all;
    }

-- each byte gives two at most, and one was held back before them
pub few_sent : {start : ContentLine} {piece out : List ℕ} {behind : ContentLine} {from count : ℕ} → IsSent start piece out behind from count → count ≤ 2 * length piece + 1
few_sent {start} {piece} {out} {behind} {from} {count} so =
    omega (arith, so.total, so.within, few_bytes start (take from piece), length-take-le from piece so.within)

-- so there is room for what is left
pub room_left : {start : ContentLine} {piece out : List ℕ} {behind : ContentLine} {from count : ℕ} → IsSent start piece out behind from count → (rest : List ℕ) → rest ≡ drop from piece → count + 2 * length rest ≤ 2 * length piece + 1
room_left {start} {piece} {out} {behind} {from} {count} so rest left =
    omega (arith, so.total, so.within, few_bytes start (take from piece), length-take-le from piece so.within, ap (λ (x : List ℕ). length x) left, length-drop from piece)
