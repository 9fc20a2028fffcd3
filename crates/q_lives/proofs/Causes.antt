-- Why a recipient is done: it was at first, an agent reported its delivery, or its failure was stored.
use Rattle.std.proofs.Common.{◌≡◌, ℕ, zero, suc, Bool, true, false, List, [], ◌∷◌, ◌++◌, replicate, Some, None, option_map, inl, inr, refl, sym, ap, ◌∙◌, subst, if◌then◌else◌, eq-eqb}
use Rattle.std.proofs.lemmas.Bool.{or_left, or_right}
use Rattle.std.proofs.lemmas.List.{append_assoc}
use Rattle.std.proofs.lemmas.List.Folds.{list_any-append}
use Rattle.std.specs.List.{cons_option, list_any}
use Rattle.std.specs.Prelude.{◌==◌, ◌||◌}
use Rattle.q_laws.proofs.Members.{IsIn}
use Rattle.q_lives.specs.Causes.{Cause, is_log_of, says_ok}
use Rattle.q_model.specs.Marking.{needs_mark}
use Rattle.q_model.specs.Message.{Message}
use Rattle.q_model.specs.Past.{is_life}
use Rattle.q_model.specs.Settings.{World}
use Rattle.q_model.specs.Settling.{need_of, needs_of, unsettled_row}
use Rattle.q_model.specs.Times.{is_expired}
use Rattle.q_model.specs.declared.entry.Entry.{Entry}
use Rattle.q_model.specs.declared.id.Id.{Id}
use Rattle.q_model.specs.declared.outcome.Outcome.{Outcome}
use Rattle.q_model.specs.declared.outcome.Why.TheVariants.{Expired}
use Rattle.q_model.specs.declared.outcome.SiteState.{SiteState}
use Rattle.q_model.specs.declared.rows.Delivery.{Delivery}
use Rattle.q_model.specs.declared.rows.Unsettled.{Unsettled}
use Rattle.q_model.specs.declared.entry.Entry.TheVariants as entries
use Rattle.q_model.specs.declared.outcome.Outcome.TheVariants as outcomes
use Rattle.q_model.specs.declared.rows.Need.TheVariants as needs

-- the delivery started in these entries, and no life since
pub record IsStarted (es : List Entry) (f : Delivery) : Type 0 where
  pub before : List Entry
  pub between : List Entry
  pub entries : es ≡ before ++ (entries.Start f.number f.row.id f.row.site f.row.positions ∷ between)
  pub same_life : list_any is_life between ≡ false

-- ---- an entry more

pub cause_more : (first : Id → ℕ → Type 0) (es : List Entry) (id : Id) (p : ℕ) (e : Entry) → Cause first es id p → Cause first (es ++ e ∷ []) id p
cause_more first es id p e (inl old) = inl old
cause_more first es id p e (inr (inr logged)) = inr (inr (list_any-append (is_log_of id p) es (e ∷ []) ∙ or_left (list_any (is_log_of id p) es) (list_any (is_log_of id p) (e ∷ [])) logged))
cause_more first es id p e (inr (inl reported)) =
    let r = reported.1 in
    let last = entries.Reply r.number r.state r.outcomes ∷ reported.0 in
    let start = entries.Start r.number id r.site r.positions in
    inr (inl (
      reported.0 ++ e ∷ [],
      record {
        before = r.before;
        between = r.between;
        number = r.number;
        site = r.site;
        positions = r.positions;
        state = r.state;
        outcomes = r.outcomes;
        entries = ap (λ (xs : List Entry). xs ++ e ∷ []) r.entries ∙ append_assoc r.before (start ∷ (r.between ++ last)) (e ∷ []) ∙ ap (λ (xs : List Entry). r.before ++ (start ∷ xs)) (append_assoc r.between last (e ∷ []));
        same_life = r.same_life;
        ok = r.ok;
      },
    ))

none_more : (es : List Entry) (e : Entry) → list_any is_life es ≡ false → is_life e ≡ false → list_any is_life (es ++ e ∷ []) ≡ false
none_more es e h k = list_any-append is_life es (e ∷ []) ∙ ap (λ b. b || (is_life e || false)) h ∙ ap (λ b. b || false) k

pub started_more : (es : List Entry) (f : Delivery) (e : Entry) → is_life e ≡ false → IsStarted es f → IsStarted (es ++ e ∷ []) f
started_more es f e h s = record {
  before = s.before;
  between = s.between ++ e ∷ [];
  entries = ap (λ (xs : List Entry). xs ++ e ∷ []) s.entries ∙ append_assoc s.before (entries.Start f.number f.row.id f.row.site f.row.positions ∷ s.between) (e ∷ []);
  same_life = none_more s.between e s.same_life h;
}

pub started_now : (es : List Entry) (f : Delivery) → IsStarted (es ++ entries.Start f.number f.row.id f.row.site f.row.positions ∷ []) f
started_now es f = record { before = es; between = []; entries = refl; same_life = refl }

-- a failure that is stored now
pub logged_now : (first : Id → ℕ → Type 0) (es : List Entry) (id : Id) (p : ℕ) (e : Entry) → is_log_of id p e ≡ true → Cause first (es ++ e ∷ []) id p
logged_now first es id p e h = inr (inr (list_any-append (is_log_of id p) es (e ∷ []) ∙ or_right (list_any (is_log_of id p) es) (is_log_of id p e || false) (or_left (is_log_of id p e) false h)))

-- a delivery that is reported now
pub reported_now : (first : Id → ℕ → Type 0) (es : List Entry) (f : Delivery) (state : SiteState) (os : List Outcome) (id : Id) (p : ℕ) → IsStarted es f → id ≡ f.row.id → says_ok p f.row.positions os ≡ true → Cause first (es ++ entries.Reply f.number state os ∷ []) id p
reported_now first es f state os id p s same ok = subst (λ (i : Id). Cause first (es ++ entries.Reply f.number state os ∷ []) i p) (sym same) (inr (inl (
  [],
  record {
    before = s.before;
    between = s.between;
    number = f.number;
    site = f.row.site;
    positions = f.row.positions;
    state = state;
    outcomes = os;
    entries = ap (λ (xs : List Entry). xs ++ entries.Reply f.number state os ∷ []) s.entries ∙ append_assoc s.before (entries.Start f.number f.row.id f.row.site f.row.positions ∷ s.between) (entries.Reply f.number state os ∷ []);
    same_life = s.same_life;
    ok = ok;
  },
)))

-- ---- which outcomes need a mark

need_says : (w : World) (now : ℕ) (m : Message) (q : ℕ) (o : Outcome) (u : Unsettled) (us : List Unsettled) (ps : List ℕ) (os : List Outcome) → (IsIn u us → needs_mark u.need ≡ true → says_ok u.position ps os ≡ true) →
    IsIn u (cons_option (option_map (unsettled_row m.id q) (need_of w now m o)) us) → needs_mark u.need ≡ true → says_ok u.position (q ∷ ps) (o ∷ os) ≡ true
need_says w now m q outcomes.Ok u us ps os rest (inl same) h = or_left (q == u.position) (says_ok u.position ps os) (eq-eqb q u.position (ap (λ (x : Unsettled). x.position) same))
need_says w now m q outcomes.Ok u us ps os rest (inr there) h = or_right (q == u.position) (says_ok u.position ps os) (rest there h)
need_says w now m q (outcomes.Never code) u us ps os rest (inl same) h = let bad : false ≡ true = ap (λ (x : Unsettled). needs_mark x.need) same ∙ h in absurd cc
need_says w now m q (outcomes.Never code) u us ps os rest (inr there) h = rest there h
need_says w now m q (outcomes.Later code) u us ps os rest there h = on (is_expired w now m) there
  where
    on : (b : Bool) → IsIn u (cons_option (option_map (unsettled_row m.id q) (if b then Some (needs.Log Expired code) else None)) us) → says_ok u.position ps os ≡ true
    on true (inl same) = let bad : false ≡ true = ap (λ (x : Unsettled). needs_mark x.need) same ∙ h in absurd cc
    on true (inr k) = rest k h
    on false k = rest k h

-- of outcomes that are settled, only a delivery needs a mark at once
pub needs_say : (w : World) (now : ℕ) (m : Message) (ps : List ℕ) (os : List Outcome) (u : Unsettled) → IsIn u (needs_of w now m ps os) → needs_mark u.need ≡ true → says_ok u.position ps os ≡ true
needs_say w now m [] os u h k = absurd h
needs_say w now m (p ∷ ps) [] u h k = absurd h
needs_say w now m (p ∷ ps) (o ∷ os) u h k = need_says w now m p o u (needs_of w now m ps os) ps os (needs_say w now m ps os u) h k

-- outcomes that are all put off say no delivery
pub later_says : (p : ℕ) (ps : List ℕ) (n : ℕ) → says_ok p ps (replicate n (outcomes.Later 0)) ≡ false
later_says p [] n = refl
later_says p (q ∷ ps) zero = refl
later_says p (q ∷ ps) (suc n) = later_says p ps n
