-- What came in a trace, as it grows by an entry.
use Rattle.std.proofs.Common.{◌≡◌, ℕ, Bool, true, false, List, [], ◌∷◌, ◌++◌, ◌⊎◌, inl, inr, refl, sym, ap, ◌∙◌, subst}
use Rattle.std.proofs.lemmas.Bool.{or_cases, or_left, or_parts, or_right}
use Rattle.std.proofs.lemmas.List.{append_assoc}
use Rattle.std.proofs.lemmas.List.Folds.{list_any-append}
use Rattle.std.specs.List.{list_any}
use Rattle.std.specs.Prelude.{◌||◌}
use Rattle.q_lives.proofs.Growing.{last_of}
use Rattle.q_lives.specs.Causes.{IsReported, says_ok}
use Rattle.q_lives.specs.Repeats.{IsMarkedForGood}
use Rattle.q_model.specs.Ids.{id_eq}
use Rattle.q_model.specs.Past.{is_life}
use Rattle.q_model.specs.Values.{Site}
use Rattle.q_model.specs.declared.entry.Entry.{Entry}
use Rattle.q_model.specs.declared.id.Id.{Id}
use Rattle.q_model.specs.declared.outcome.Outcome.{Outcome}
use Rattle.q_model.specs.declared.outcome.SiteState.{SiteState}
use Rattle.q_model.specs.declared.entry.Entry.TheVariants as entries
use Rattle.q_model.proofs.IdLaws.{id_eq-refl}

-- ---- the trace

-- the entry came, and no life since
pub record CameInLife (es : List Entry) (x : Entry) : Type 0 where
  pub before : List Entry
  pub between : List Entry
  pub entries : es ≡ before ++ (x ∷ between)
  pub same_life : list_any is_life between ≡ false

-- a delivery of the id started, or a recipient of it was marked
abbrev pub touches : Id → Entry → Bool
touches id (entries.Start number other site positions) = id_eq other id
touches id (entries.Mark other position) = id_eq other id
touches id _ = false

pub lifeless : (es : List Entry) (e : Entry) → list_any is_life (es ++ e ∷ []) ≡ false → (list_any is_life es ≡ false) × (is_life e ≡ false)
lifeless es e h =
    let two = or_parts (list_any is_life es) (is_life e || false) (sym (list_any-append is_life es (e ∷ [])) ∙ h) in
    (two.0, (or_parts (is_life e) false two.1).0)

-- an entry of a longer trace is the new one or came before it
pub came_parts : (es : List Entry) (e x : Entry) → CameInLife (es ++ e ∷ []) x → (x ≡ e) ⊎ (CameInLife es x × (is_life e ≡ false))
came_parts es e x h = elim (last_of es e h.before x h.between h.entries) [
  | inl new ↦ inl new.1
  | inr old ↦ (
      let two = lifeless old.0 e (sym (ap (list_any is_life) old.1) ∙ h.same_life) in
      inr (record { before = h.before; between = old.0; entries = old.2; same_life = two.0 }, two.1))
]

-- a report in a longer trace is that of the new entry, or came before it
abbrev pub IsNewReport : Id → ℕ → List Entry → Entry → Type 0
IsNewReport id p es e = (number : ℕ) × (site : Site) × (positions : List ℕ) × (state : SiteState) × (os : List Outcome) × (e ≡ entries.Reply number state os) × CameInLife es (entries.Start number id site positions) × (says_ok p positions os ≡ true)

pub report_parts : (id : Id) (p : ℕ) (es : List Entry) (e : Entry) (mid : List Entry) → IsReported id p (es ++ e ∷ []) mid → IsNewReport id p es e ⊎ ((rest : List Entry) × (mid ≡ rest ++ e ∷ []) × IsReported id p es rest)
report_parts id p es e mid r =
    let start = entries.Start r.number id r.site r.positions in
    let last = entries.Reply r.number r.state r.outcomes in
    elim (last_of es e (r.before ++ (start ∷ r.between)) last mid (r.entries ∙ sym (append_assoc r.before (start ∷ r.between) (last ∷ mid)))) [
      | inl new ↦ inl (r.number, r.site, r.positions, r.state, r.outcomes, sym new.1, record { before = r.before; between = r.between; entries = sym new.2; same_life = r.same_life }, r.ok)
      | inr old ↦ inr (
        old.0,
        old.1,
        record {
          before = r.before;
          between = r.between;
          number = r.number;
          site = r.site;
          positions = r.positions;
          state = r.state;
          outcomes = r.outcomes;
          entries = old.2 ∙ append_assoc r.before (start ∷ r.between) (last ∷ old.0);
          same_life = r.same_life;
          ok = r.ok;
        },
      )
    ]

-- a mark that was synced in a longer trace is synced by the new entry, or was before
pub good_parts : (id : Id) (p : ℕ) (es : List Entry) (e : Entry) → IsMarkedForGood id p (es ++ e ∷ []) → ((e ≡ entries.Sync id) × CameInLife es (entries.Mark id p)) ⊎ IsMarkedForGood id p es
good_parts id p es e r =
    let one = entries.Mark id p in
    let last = entries.Sync id in
    elim (last_of es e (r.before ++ (one ∷ r.between)) last r.later (r.entries ∙ sym (append_assoc r.before (one ∷ r.between) (last ∷ r.later)))) [
      | inl new ↦ inl (sym new.1, record { before = r.before; between = r.between; entries = sym new.2; same_life = r.same_life })
      | inr old ↦ inr (record { before = r.before; between = r.between; later = old.0; entries = old.2 ∙ append_assoc r.before (one ∷ r.between) (last ∷ old.0); same_life = r.same_life })
    ]

-- ---- who was touched

touched_in : (id : Id) (before : List Entry) (x : Entry) (rest : List Entry) → touches id x ≡ true → list_any (touches id) (before ++ (x ∷ rest)) ≡ true
touched_in id before x rest h = list_any-append (touches id) before (x ∷ rest) ∙ or_right (list_any (touches id) before) (touches id x || list_any (touches id) rest) (or_left (touches id x) (list_any (touches id) rest) h)

last_true : (b : Bool) → (b || false) ≡ true → b ≡ true
last_true true h = refl
last_true false h = h

pub touched_parts : (id : Id) (es : List Entry) (e : Entry) → list_any (touches id) (es ++ e ∷ []) ≡ true → (list_any (touches id) es ≡ true) ⊎ (touches id e ≡ true)
touched_parts id es e h = elim (or_cases (list_any (touches id) es) (touches id e || false) (sym (list_any-append (touches id) es (e ∷ [])) ∙ h)) [
  | inl old ↦ inl old
  | inr new ↦ inr (last_true (touches id e) new)
]

pub came_touches : (id : Id) (es : List Entry) (x : Entry) → CameInLife es x → touches id x ≡ true → list_any (touches id) es ≡ true
came_touches id es x h k = subst (λ xs. list_any (touches id) xs ≡ true) (sym h.entries) (touched_in id h.before x h.between k)

pub report_touches : (id : Id) (p : ℕ) (es mid : List Entry) → IsReported id p es mid → list_any (touches id) es ≡ true
report_touches id p es mid r =
    subst (λ xs. list_any (touches id) xs ≡ true) (sym r.entries)
    (touched_in id r.before (entries.Start r.number id r.site r.positions) (r.between ++ (entries.Reply r.number r.state r.outcomes ∷ mid)) (id_eq-refl id))

pub good_touches : (id : Id) (p : ℕ) (es : List Entry) → IsMarkedForGood id p es → list_any (touches id) es ≡ true
good_touches id p es r = subst (λ xs. list_any (touches id) xs ≡ true) (sym r.entries) (touched_in id r.before (entries.Mark id p) (r.between ++ (entries.Sync id ∷ r.later)) (id_eq-refl id))
