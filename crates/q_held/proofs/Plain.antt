-- What callers conclude of the rows with their numbers, whatever is held back.
use Rattle.std.proofs.Common.{◌≡◌, ◌∙◌, ◌∷◌, [], ap, Bool, cond, false, List, map, refl, sym, true, ℕ}
use Rattle.std.specs.Prelude.{filter, not}
use Rattle.q_model.specs.Sites.{site_eq}
use Rattle.q_model.specs.Values.{Site}
use Rattle.q_peers.specs.Numbered as peers
use Rattle.q_peers.specs.Numbered.{has_number, Numbered}
use Rattle.q_held.specs.Held.{held_at, HeldRow, numbered, plain, released, rows_of}

-- the rows, by the word of q_peers
pub rows_plain : (hs : List HeldRow) → peers.rows_of (plain hs) ≡ rows_of hs
rows_plain [] = refl
rows_plain (h ∷ hs) = ap (λ l. h.row ∷ l) (rows_plain hs)

same_numbered : (h : HeldRow) (held t : Bool) → numbered (cond t (record h { held = held }) h) ≡ numbered h
same_numbered h held true = refl
same_numbered h held false = refl

-- the rows to a site are held back or let go, and all stay
pub plain_held : (site : Site) (held : Bool) (hs : List HeldRow) → plain (map (held_at site held) hs) ≡ plain hs
plain_held site held [] = refl
plain_held site held (h ∷ hs) =
    ap (λ k. k ∷ plain (map (held_at site held) hs)) (same_numbered h held (site_eq h.row.site site)) ∙ ap (λ l. numbered h ∷ l) (plain_held site held hs)

-- all rows are let go, and stay
pub plain_released : (hs : List HeldRow) → plain (map released hs) ≡ plain hs
plain_released [] = refl
plain_released (h ∷ hs) = ap (λ l. numbered h ∷ l) (plain_released hs)

left_step : (n : ℕ) (h : HeldRow) (hs : List HeldRow) (t : Bool) → plain (filter (λ h. not (has_number n (numbered h))) hs) ≡ filter (λ k. not (has_number n k)) (plain hs) →
    plain (cond t (h ∷ filter (λ h. not (has_number n (numbered h))) hs) (filter (λ h. not (has_number n (numbered h))) hs)) ≡ cond t (numbered h ∷ filter (λ k. not (has_number n k)) (plain hs)) (filter (λ k. not (has_number n k)) (plain hs))
left_step n h hs true rest = ap (λ l. numbered h ∷ l) rest
left_step n h hs false rest = rest

-- a row goes
pub plain_left : (n : ℕ) (hs : List HeldRow) → plain (filter (λ h. not (has_number n (numbered h))) hs) ≡ filter (λ k. not (has_number n k)) (plain hs)
plain_left n [] = refl
plain_left n (h ∷ hs) = left_step n h hs (not (has_number n (numbered h))) (plain_left n hs)

-- the rows of a list of rows with their numbers stay where these stay
pub rows_stay : (hs new : List HeldRow) → plain new ≡ plain hs → rows_of new ≡ rows_of hs
rows_stay hs new same = sym (rows_plain new) ∙ ap peers.rows_of same ∙ rows_plain hs

pub rows_held : (site : Site) (held : Bool) (hs : List HeldRow) → rows_of (map (held_at site held) hs) ≡ rows_of hs
rows_held site held hs = rows_stay hs (map (held_at site held) hs) (plain_held site held hs)

pub rows_released : (hs : List HeldRow) → rows_of (map released hs) ≡ rows_of hs
rows_released hs = rows_stay hs (map released hs) (plain_released hs)
