-- The served rows of peers, as peers gain and lose rows and are sent to.
use Rattle.std.proofs.Common.{◌≡◌, ◌∙◌, ◌≤◌, ◌<◌, ◌∷◌, ◌++◌, [], ap, arith, Bool, cond, false, filter, find, List, map, None, not, Option, refl, Some, sym, true, ℕ}
use Rattle.std.proofs.lemmas.Bool.{and_parts}
use Rattle.std.proofs.lemmas.Grind.{common_steps}
use Rattle.std.specs.List.{AllByRecursion, list_any}
use Rattle.std.specs.Option.{option_map_or}
use Rattle.std.specs.Prelude.{◌&&◌, ◌||◌, nat_lt}
use Rattle.q_core.specs.Sending.{served_now}
use Rattle.q_core.specs.ServedRows.{served_row, served_rows, served_with}
use Rattle.q_model.proofs.IdLaws.{id_eq-true, site_eq-true}
use Rattle.q_model.specs.declared.id.Id.{Id}
use Rattle.q_model.specs.Ids.{id_eq}
use Rattle.q_model.specs.Sites.{site_eq}
use Rattle.q_model.specs.Values.{Served, Site}
use Rattle.q_rounds.specs.declared.peer.Peer.{Peer}
use Rattle.q_rounds.specs.Rounds.{is_peer, is_started, lost, new_peer, started, waits}
use Rattle.q_turns.specs.Turns.{AreApart, changed_at, last_for, lost_at, started_at}

module _ {X : Type 0} where
  pub all_weaker : (P Q : X → Type 0) → ((x : X) → P x → Q x) → (xs : List X) → AllByRecursion P xs → AllByRecursion Q xs
  all_weaker P Q h [] a = tt
  all_weaker P Q h (x ∷ xs) a = (h x a.0, all_weaker P Q h xs a.1)

  kept_step : (P : X → Type 0) (x : X) (xs : List X) (b : Bool) → P x → AllByRecursion P xs → AllByRecursion P (cond b (x ∷ xs) xs)
  kept_step P x xs true own rest = (own, rest)
  kept_step P x xs false own rest = rest

  pub all_filtered : (P : X → Type 0) (q : X → Bool) (xs : List X) → AllByRecursion P xs → AllByRecursion P (filter q xs)
  all_filtered P q [] a = tt
  all_filtered P q (x ∷ xs) a = kept_step P x (filter q xs) (q x) a.0 (all_filtered P q xs a.1)

  pub all_mapped : (P Q : X → Type 0) (f : X → X) → ((x : X) → P x → Q (f x)) → (xs : List X) → AllByRecursion P xs → AllByRecursion Q (map f xs)
  all_mapped P Q f h [] a = tt
  all_mapped P Q f h (x ∷ xs) a = (h x a.0, all_mapped P Q f h xs a.1)

  pub all_last : (P : X → Type 0) (xs : List X) (x : X) → AllByRecursion P xs → P x → AllByRecursion P (xs ++ x ∷ [])
  all_last P [] x a own = (own, tt)
  all_last P (y ∷ ys) x a own = (a.0, all_last P ys x a.1 own)

-- The last one comes first.
abbrev AreFalling : List Served → Type 0
AreFalling [] = Unit {0}
AreFalling (s ∷ ss) = AllByRecursion (λ t. t.last ≤ s.last) ss × AreFalling ss

below : (a b : ℕ) → nat_lt a b ≡ true → a ≤ b
below a b h = grind (arith, common_steps, h)

not_below : (a b : ℕ) → nat_lt a b ≡ false → b ≤ a
not_below a b h = grind (arith, common_steps, h)

with_step : (P : Served → Type 0) (s t : Served) (ts : List Served) (b : Bool) → P s → P t → AllByRecursion P ts → AllByRecursion P (served_with s ts) → AllByRecursion P (cond b (s ∷ t ∷ ts) (t ∷ served_with s ts))
with_step P s t ts true own there rest more = (own, (there, rest))
with_step P s t ts false own there rest more = (there, more)

all_with : (P : Served → Type 0) (s : Served) (ts : List Served) → P s → AllByRecursion P ts → AllByRecursion P (served_with s ts)
all_with P s [] own a = (own, tt)
all_with P s (t ∷ ts) own a = with_step P s t ts (nat_lt t.last s.last) own a.0 a.1 (all_with P s ts own a.1)

falls_step : (s t : Served) (ts : List Served) (b : Bool) → nat_lt t.last s.last ≡ b → AreFalling (t ∷ ts) → AreFalling (served_with s ts) → AreFalling (cond b (s ∷ t ∷ ts) (t ∷ served_with s ts))
falls_step s t ts true e falls rest =
    let low = below t.last s.last e in
    ((low, all_weaker (λ u. u.last ≤ t.last) (λ u. u.last ≤ s.last) (λ u h. omega (arith, low, h)) ts falls.0), falls)
falls_step s t ts false e falls rest = (all_with (λ u. u.last ≤ t.last) s ts (not_below t.last s.last e) falls.0, rest)

falls_with : (s : Served) (ts : List Served) → AreFalling ts → AreFalling (served_with s ts)
falls_with s [] falls = (tt, tt)
falls_with s (t ∷ ts) falls = falls_step s t ts (nat_lt t.last s.last) refl falls (falls_with s ts falls.1)

falls_or : (s : Served) (ts : List Served) (b : Bool) → AreFalling ts → AreFalling (cond b (served_with s ts) ts)
falls_or s ts true falls = falls_with s ts falls
falls_or s ts false falls = falls

rows_fall : (ps : List Peer) → AreFalling (served_rows ps)
rows_fall [] = tt
rows_fall (p ∷ ps) = falls_or (served_row p) (served_rows ps) (is_started p) (rows_fall ps)

-- the last of all comes first
in_front : (s : Served) (ts : List Served) → AllByRecursion (λ t. t.last < s.last) ts → served_with s ts ≡ s ∷ ts
in_front s [] a = refl
in_front s (t ∷ ts) a = ap (λ b. cond b (s ∷ t ∷ ts) (t ∷ served_with s ts)) (less t.last s.last a.0)
  where
    less : (n m : ℕ) → n < m → nat_lt n m ≡ true
    less n m h = grind (arith, common_steps, h)

-- What passes a test is put in as before.
front_step : (q : Served → Bool) (s t : Served) (ts : List Served) (b : Bool) → nat_lt t.last s.last ≡ true → AreFalling (t ∷ ts) → q s ≡ b →
    cond b (s ∷ filter q (t ∷ ts)) (filter q (t ∷ ts)) ≡ cond b (served_with s (filter q (t ∷ ts))) (filter q (t ∷ ts))
front_step q s t ts true low falls e =
    let less : t.last < s.last = grind (arith, common_steps, low) in
    sym (in_front s (filter q (t ∷ ts)) (all_filtered (λ u. u.last < s.last) q (t ∷ ts) (less, all_weaker (λ u. u.last ≤ t.last) (λ u. u.last < s.last) (λ u h. omega (arith, less, h)) ts falls.0)))
front_step q s t ts false low falls e = refl

behind_step : (q : Served → Bool) (s t : Served) (ts fs : List Served) (a b : Bool) → nat_lt t.last s.last ≡ false → filter q (served_with s ts) ≡ cond b (served_with s fs) fs →
    cond a (t ∷ filter q (served_with s ts)) (filter q (served_with s ts)) ≡ cond b (served_with s (cond a (t ∷ fs) fs)) (cond a (t ∷ fs) fs)
behind_step q s t ts fs true true high rest = ap (λ us. t ∷ us) rest ∙ sym (ap (λ b. cond b (s ∷ t ∷ fs) (t ∷ served_with s fs)) high)
behind_step q s t ts fs true false high rest = ap (λ us. t ∷ us) rest
behind_step q s t ts fs false b high rest = rest

filter_step : (q : Served → Bool) (s t : Served) (ts : List Served) (b : Bool) → nat_lt t.last s.last ≡ b → AreFalling (t ∷ ts) → filter q (served_with s ts) ≡ cond (q s) (served_with s (filter q ts)) (filter q ts) →
    filter q (cond b (s ∷ t ∷ ts) (t ∷ served_with s ts)) ≡ cond (q s) (served_with s (filter q (t ∷ ts))) (filter q (t ∷ ts))
filter_step q s t ts true e falls rest = front_step q s t ts (q s) e falls refl
filter_step q s t ts false e falls rest = behind_step q s t ts (filter q ts) (q t) (q s) e rest

filter_with : (q : Served → Bool) (s : Served) (ts : List Served) → AreFalling ts → filter q (served_with s ts) ≡ cond (q s) (served_with s (filter q ts)) (filter q ts)
filter_with q s [] falls = refl
filter_with q s (t ∷ ts) falls = filter_step q s t ts (nat_lt t.last s.last) refl falls (filter_with q s ts falls.1)

-- ---- a change that keeps what a served row says

same_step : (f : Peer → Peer) (p : Peer) (ss : List Served) → served_row (f p) ≡ served_row p → cond (is_started (f p)) (served_with (served_row (f p)) ss) ss ≡ cond (is_started p) (served_with (served_row p) ss) ss
same_step f p ss same = ap (λ (s : Served). cond (nat_lt 0 s.last) (served_with s ss) ss) same

pub rows_changed : (f : Peer → Peer) → ((p : Peer) → served_row (f p) ≡ served_row p) → (ps : List Peer) → served_rows (map f ps) ≡ served_rows ps
rows_changed f same [] = refl
rows_changed f same (p ∷ ps) =
    ap (λ ss. cond (is_started (f p)) (served_with (served_row (f p)) ss) ss) (rows_changed f same ps) ∙ same_step f p (served_rows ps) (same p)

changed_row : (f : Peer → Peer) (p : Peer) (b : Bool) → served_row (f p) ≡ served_row p → served_row (cond b (f p) p) ≡ served_row p
changed_row f p true same = same
changed_row f p false same = refl

-- one peer gains a row or loses one
pub rows_changed_at : (id : Id) (site : Site) (f : Peer → Peer) → ((p : Peer) → served_row (f p) ≡ served_row p) → (ps : List Peer) → served_rows (map (changed_at id site f) ps) ≡ served_rows ps
rows_changed_at id site f same = rows_changed (changed_at id site f) (λ p. changed_row f p (is_peer id site p) (same p))

-- one comes that was never sent to
pub rows_more : (id : Id) (site : Site) (ps : List Peer) → served_rows (ps ++ new_peer id site 0 ∷ []) ≡ served_rows ps
rows_more id site [] = refl
rows_more id site (p ∷ ps) = ap (λ ss. cond (is_started p) (served_with (served_row p) ss) ss) (rows_more id site ps)

-- ---- peers for which no row waits go

left_row : (q : Served → Bool) (s : Served) (ss : List Served) (a b : Bool) → AreFalling ss → b ≡ q s →
    cond b (cond a (served_with s (filter q ss)) (filter q ss)) (filter q ss) ≡ filter q (cond a (served_with s ss) ss)
left_row q s ss true b falls e = ap (λ b. cond b (served_with s (filter q ss)) (filter q ss)) e ∙ sym (filter_with q s ss falls)
left_row q s ss false true falls e = refl
left_row q s ss false false falls e = refl

left_step : (p : Peer) (ps : List Peer) (b : Bool) → served_rows (cond b (p ∷ ps) ps) ≡ cond b (cond (is_started p) (served_with (served_row p) (served_rows ps)) (served_rows ps)) (served_rows ps)
left_step p ps true = refl
left_step p ps false = refl

rows_left : (q : Served → Bool) (ps : List Peer) → AllByRecursion (λ p. waits p ≡ q (served_row p)) ps → served_rows (filter waits ps) ≡ filter q (served_rows ps)
rows_left q [] a = refl
rows_left q (p ∷ ps) a =
    left_step p (filter waits ps) (waits p)
    ∙ ap (λ ss. cond (waits p) (cond (is_started p) (served_with (served_row p) ss) ss) ss) (rows_left q ps a.1)
    ∙ left_row q (served_row p) (served_rows ps) (is_started p) (waits p) (rows_fall ps) a.0

-- a row less waits
pub rows_lost : (q : Served → Bool) (id : Id) (site : Site) (ps : List Peer) → AllByRecursion (λ p. waits p ≡ q (served_row p)) (map (changed_at id site lost) ps) → served_rows (lost_at id site ps) ≡ filter q (served_rows ps)
rows_lost q id site ps a =
    rows_left q (map (changed_at id site lost) ps) a ∙ ap (filter q) (rows_changed_at id site lost (λ p. refl) ps)

all_pass : (q : Served → Bool) (p : Peer) (ss : List Served) (a : Bool) → AreFalling ss → q (served_row p) ≡ true → filter q ss ≡ ss → filter q (cond a (served_with (served_row p) ss) ss) ≡ cond a (served_with (served_row p) ss) ss
all_pass q p ss true falls own rest =
    filter_with q (served_row p) ss falls ∙ ap (λ b. cond b (served_with (served_row p) (filter q ss)) (filter q ss)) own ∙ ap (served_with (served_row p)) rest
all_pass q p ss false falls own rest = rest

-- each passes where those of all peers do
pub rows_stay : (q : Served → Bool) (ps : List Peer) → AllByRecursion (λ p. q (served_row p) ≡ true) ps → filter q (served_rows ps) ≡ served_rows ps
rows_stay q [] a = refl
rows_stay q (p ∷ ps) a = all_pass q p (served_rows ps) (is_started p) (rows_fall ps) a.0 (rows_stay q ps a.1)

-- ---- a peer is sent to

absent_parts : (a : Bool) (p : Peer) (o : Option Peer) → cond a (Some p) o ≡ None → (a ≡ false) × (o ≡ None)
absent_parts true p o h = cc
absent_parts false p o h = (refl, h)

module _ (id : Id) (site : Site) where
  abbrev others : Served → Bool
  others s = not (id_eq s.id id && site_eq s.site site)

  absent_changed : (f : Peer → Peer) (ps : List Peer) → find (is_peer id site) ps ≡ None → map (changed_at id site f) ps ≡ ps
  absent_changed f [] h = refl
  absent_changed f (p ∷ ps) h =
      let parts = absent_parts (is_peer id site p) p (find (is_peer id site) ps) h in
      ap (λ b. cond b (f p) p ∷ map (changed_at id site f) ps) parts.0 ∙ ap (λ qs. p ∷ qs) (absent_changed f ps parts.1)

  absent_others : (ps : List Peer) → find (is_peer id site) ps ≡ None → AllByRecursion (λ p. others (served_row p) ≡ true) ps
  absent_others [] h = tt
  absent_others (p ∷ ps) h =
      let parts = absent_parts (is_peer id site p) p (find (is_peer id site) ps) h in
      (ap not parts.0, absent_others ps parts.1)

  module _ (n : ℕ) (some : 0 < n) where
    abbrev now : Served
    now = record { id = id; site = site; last = n }

    lower_with : (s : Served) (ss : List Served) (a : Bool) → s.last < n → AllByRecursion (λ t. t.last < n) ss → AllByRecursion (λ t. t.last < n) (cond a (served_with s ss) ss)
    lower_with s ss true own rest = all_with (λ t. t.last < n) s ss own rest
    lower_with s ss false own rest = rest

    lower : (ps : List Peer) → AllByRecursion (λ p. p.last < n) ps → AllByRecursion (λ t. t.last < n) (served_rows ps)
    lower [] a = tt
    lower (p ∷ ps) a = lower_with (served_row p) (served_rows ps) (is_started p) a.0 (lower ps a.1)

    is_now : (p : Peer) → is_peer id site p ≡ true → served_row (started n p) ≡ now
    is_now p h =
        let parts = and_parts (id_eq p.id id) (site_eq p.site site) h in
        ap (λ i. served_row (started n (record p { id = i }))) (id_eq-true p.id id parts.0) ∙ ap (λ s. served_row (started n (record p { id = id; site = s }))) (site_eq-true p.site site parts.1)

    is_on : nat_lt 0 n ≡ true
    is_on = grind (arith, common_steps, some)

    -- what is left of those before
    gone_with : (p : Peer) (ss : List Served) (a : Bool) → AreFalling ss → others (served_row p) ≡ false → filter others ss ≡ ss → filter others (cond a (served_with (served_row p) ss) ss) ≡ ss
    gone_with p ss true falls own rest =
        filter_with others (served_row p) ss falls ∙ ap (λ b. cond b (served_with (served_row p) (filter others ss)) (filter others ss)) own ∙ rest
    gone_with p ss false falls own rest = rest

    own_started : (p : Peer) (ps : List Peer) → is_peer id site p ≡ true → find (is_peer id site) ps ≡ None → AllByRecursion (λ p. p.last < n) ps →
        served_rows (started n p ∷ map (changed_at id site (started n)) ps) ≡ served_now id site n (served_rows (p ∷ ps))
    own_started p ps is none low =
        ap (λ qs. served_rows (started n p ∷ qs)) (absent_changed (started n) ps none)
        ∙ ap (λ b. cond b (served_with (served_row (started n p)) (served_rows ps)) (served_rows ps)) is_on
        ∙ ap (λ s. served_with s (served_rows ps)) (is_now p is)
        ∙ in_front now (served_rows ps) (lower ps low)
        ∙ ap (λ ss. now ∷ ss) (sym (gone_with p (served_rows ps) (is_started p) (rows_fall ps) (ap not is) (rows_stay others ps (absent_others ps none))))

    behind_now : (s : Served) (ss : List Served) → s.last < n → served_with s (now ∷ ss) ≡ now ∷ served_with s ss
    behind_now s ss low = ap (λ b. cond b (s ∷ now ∷ ss) (now ∷ served_with s ss)) (not_less n s.last low)
      where
        not_less : (m k : ℕ) → k < m → nat_lt m k ≡ false
        not_less m k h = grind (arith, common_steps, h)

    other_with : (p : Peer) (ss : List Served) (a : Bool) → p.last < n → AreFalling ss → others (served_row p) ≡ true →
        cond a (served_with (served_row p) (now ∷ filter others ss)) (now ∷ filter others ss) ≡ now ∷ filter others (cond a (served_with (served_row p) ss) ss)
    other_with p ss true low falls own =
        behind_now (served_row p) (filter others ss) low
        ∙ ap (λ us. now ∷ us) (sym (filter_with others (served_row p) ss falls ∙ ap (λ b. cond b (served_with (served_row p) (filter others ss)) (filter others ss)) own))
    other_with p ss false low falls own = refl

    started_step : (p : Peer) (ps : List Peer) (b : Bool) → is_peer id site p ≡ b → find (is_peer p.id p.site) ps ≡ None → p.last < n → AllByRecursion (λ p. p.last < n) ps →
        (list_any (is_peer id site) ps ≡ true → served_rows (started_at id site n ps) ≡ served_now id site n (served_rows ps)) → (b || list_any (is_peer id site) ps) ≡ true →
        served_rows (cond b (started n p) p ∷ started_at id site n ps) ≡ served_now id site n (served_rows (p ∷ ps))
    started_step p ps true e absent own low rest there =
        let parts = and_parts (id_eq p.id id) (site_eq p.site site) e in
        let none : find (is_peer id site) ps ≡ None =
        ap (λ i. find (is_peer i site) ps) (sym (id_eq-true p.id id parts.0)) ∙ ap (λ s. find (is_peer p.id s) ps) (sym (site_eq-true p.site site parts.1)) ∙ absent in
        own_started p ps e none low
    started_step p ps false e absent own low rest there =
        ap (λ ss. cond (is_started p) (served_with (served_row p) ss) ss) (rest there)
        ∙ other_with p (served_rows ps) (is_started p) own (rows_fall ps) (ap not e)

    -- it was served last
    pub rows_started : (ps : List Peer) → AreApart ps → AllByRecursion (λ p. p.last < n) ps → list_any (is_peer id site) ps ≡ true → served_rows (started_at id site n ps) ≡ served_now id site n (served_rows ps)
    rows_started [] apart low there = cc
    rows_started (p ∷ ps) apart low there = started_step p ps (is_peer id site p) refl apart.0 low.0 low.1 (rows_started ps apart.1 low.1) there

  -- ---- what a served row says

  abbrev pub is_its : Served → Bool
  is_its s = id_eq s.id id && site_eq s.site site

  other_step : (s t : Served) (ts : List Served) (b : Bool) → is_its s ≡ false → find is_its (served_with s ts) ≡ find is_its ts → find is_its (cond b (s ∷ t ∷ ts) (t ∷ served_with s ts)) ≡ find is_its (t ∷ ts)
  other_step s t ts true other rest = ap (λ b. cond b (Some s) (find is_its (t ∷ ts))) other
  other_step s t ts false other rest = ap (λ o. cond (is_its t) (Some t) o) rest

  other_found : (s : Served) (ts : List Served) → is_its s ≡ false → find is_its (served_with s ts) ≡ find is_its ts
  other_found s [] other = ap (λ b. cond b (Some s) None) other
  other_found s (t ∷ ts) other = other_step s t ts (nat_lt t.last s.last) other (other_found s ts other)

  none_parts : (a : Bool) (t : Served) (o : Option Served) → cond a (Some t) o ≡ None → (a ≡ false) × (o ≡ None)
  none_parts true t o h = cc
  none_parts false t o h = (refl, h)

  own_step : (s t : Served) (ts : List Served) (b : Bool) → is_its s ≡ true → is_its t ≡ false → find is_its (served_with s ts) ≡ Some s → find is_its (cond b (s ∷ t ∷ ts) (t ∷ served_with s ts)) ≡ Some s
  own_step s t ts true own other rest = ap (λ b. cond b (Some s) (find is_its (t ∷ ts))) own
  own_step s t ts false own other rest = ap (λ b. cond b (Some t) (find is_its (served_with s ts))) other ∙ rest

  own_found : (s : Served) (ts : List Served) → is_its s ≡ true → find is_its ts ≡ None → find is_its (served_with s ts) ≡ Some s
  own_found s [] own none = ap (λ b. cond b (Some s) None) own
  own_found s (t ∷ ts) own none =
      let parts = none_parts (is_its t) t (find is_its ts) none in
      own_step s t ts (nat_lt t.last s.last) own parts.0 (own_found s ts own parts.1)

  none_with : (s : Served) (ss : List Served) (a : Bool) → is_its s ≡ false → find is_its ss ≡ None → find is_its (cond a (served_with s ss) ss) ≡ None
  none_with s ss true other none = other_found s ss other ∙ none
  none_with s ss false other none = none

  none_served : (ps : List Peer) → find (is_peer id site) ps ≡ None → find is_its (served_rows ps) ≡ None
  none_served [] h = refl
  none_served (p ∷ ps) h =
      let parts = absent_parts (is_peer id site p) p (find (is_peer id site) ps) h in
      none_with (served_row p) (served_rows ps) (is_started p) parts.0 (none_served ps parts.1)

  never : (p : Peer) → is_started p ≡ false → p.last ≡ 0
  never p h = grind (arith, common_steps, h)

  abbrev pub last_of : Option Served → ℕ
  last_of o = option_map_or (λ s. s.last) o 0

  own_last : (p : Peer) (ss : List Served) (a : Bool) → is_started p ≡ a → is_its (served_row p) ≡ true → find is_its ss ≡ None → last_of (find is_its (cond a (served_with (served_row p) ss) ss)) ≡ p.last
  own_last p ss true e own none = ap last_of (own_found (served_row p) ss own none)
  own_last p ss false e own none = ap last_of none ∙ sym (never p e)

  other_last : (p : Peer) (ss : List Served) (a : Bool) → is_its (served_row p) ≡ false → find is_its (cond a (served_with (served_row p) ss) ss) ≡ find is_its ss
  other_last p ss true other = other_found (served_row p) ss other
  other_last p ss false other = refl

  last_step : (p : Peer) (ps : List Peer) (b : Bool) → is_peer id site p ≡ b → find (is_peer p.id p.site) ps ≡ None → last_of (find is_its (served_rows ps)) ≡ last_for id site ps →
      last_of (find is_its (served_rows (p ∷ ps))) ≡ option_map_or (λ p. p.last) (cond b (Some p) (find (is_peer id site) ps)) 0
  last_step p ps true e absent rest =
      let parts = and_parts (id_eq p.id id) (site_eq p.site site) e in
      let none : find (is_peer id site) ps ≡ None =
      ap (λ i. find (is_peer i site) ps) (sym (id_eq-true p.id id parts.0)) ∙ ap (λ s. find (is_peer p.id s) ps) (sym (site_eq-true p.site site parts.1)) ∙ absent in
      own_last p (served_rows ps) (is_started p) refl e (none_served ps none)
  last_step p ps false e absent rest = ap last_of (other_last p (served_rows ps) (is_started p) e) ∙ rest

  -- when the message was last sent to the site
  pub last_served : (ps : List Peer) → AreApart ps → last_of (find is_its (served_rows ps)) ≡ last_for id site ps
  last_served [] apart = refl
  last_served (p ∷ ps) apart = last_step p ps (is_peer id site p) refl apart.0 (last_served ps apart.1)
