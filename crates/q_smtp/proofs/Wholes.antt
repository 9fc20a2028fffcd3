-- What is left of a whole list is what the definition of whole lists says.
use Rattle.std.proofs.Common.{◌≡◌, ℕ, ◌==◌, Bool, true, false, ◌&&◌, ◌||◌, List, [], ◌∷◌, ◌++◌, if◌then◌else◌, length, replicate, suc, refl, sym, ap, ◌∙◌, subst, arith, true≢false, eqb-true, eq-eqb}
use Rattle.std.proofs.lemmas.Bool.{and_from}
use Rattle.std.proofs.lemmas.Bool.Decides.{nat_tests}
use Rattle.std.proofs.lemmas.List.{append-nil, append_assoc}
use Rattle.std.specs.Bool.{MatchBool}
use Rattle.std.specs.Cmp.{first_so, second_so}
use Rattle.std.specs.List.{list_all, list_any}
use Rattle.std.specs.Prelude.{map}
use Rattle.q_model.specs.declared.outcome.Outcome.{Outcome}
use Rattle.q_smtp.specs.Codes.{is_answer, is_done, is_never, is_refusal, outcome_by, outcome_of}
use Rattle.q_smtp.specs.Dialogue.{Transaction}
use Rattle.q_smtp.specs.WholeDialogues.{Whole, is_content, is_hello, is_named, is_none, is_whole, last_code, whole_codes, whole_outcomes}
use Rattle.q_smtp.proofs.Rests.{OfData, OfDialogue, OfEhlo, OfHelo, OfMail, OfRcpts, Over}

not_false : {X : Type 0} → false ≡ true → X
not_false h = absurd (true≢false (sym h))

if_so : {P : Type 0} (Q : Type 0) (t : Bool) → t ≡ true → P → MatchBool t P Q
if_so Q true h p = p
if_so Q false h p = not_false h

if_not : (P : Type 0) {Q : Type 0} (t : Bool) → t ≡ false → Q → MatchBool t P Q
if_not P true h q = not_false (sym h)
if_not P false h q = q

none_is : (codes : List ℕ) → is_none codes ≡ true → codes ≡ []
none_is [] h = refl
none_is (c ∷ codes) h = let zero : length (c ∷ codes) ≡ 0 = eqb-true _ 0 h in absurd (omega arith)

-- DATA and the content
data_form : (to w : List ℕ) (said : List Outcome) → OfData to w said → (is_content w ≡ true) × (said ≡ map (outcome_by (last_code w)) to)
data_form to [] said h = absurd h
data_form to (c ∷ []) said h = by (c == 354) (is_refusal c) h
  where
    by : (t u : Bool) → MatchBool t ⊥ (MatchBool u (Over (map (outcome_by c) to) [] said) ⊥) → (u ≡ true) × (said ≡ map (outcome_by c) to)
    by true u h = absurd h
    by false true h = (refl, h.1)
    by false false h = absurd h
data_form to (c ∷ d ∷ []) said h = by (c == 354) (is_refusal c) (is_answer d) h
  where
    by : (t u v : Bool) → MatchBool t (MatchBool v (Over (map (outcome_by d) to) [] said) ⊥) (MatchBool u (Over (map (outcome_by c) to) (d ∷ []) said) ⊥) → ((t && v) ≡ true) × (said ≡ map (outcome_by d) to)
    by true u true h = (refl, h.1)
    by true u false h = absurd h
    by false true v h = let none : d ∷ [] ≡ [] = h.0 in cc
    by false false v h = absurd h
data_form to (c ∷ d ∷ x ∷ w) said h = absurd (by (c == 354) (is_refusal c) (is_answer d) h)
  where
    by : (t u v : Bool) → MatchBool t (MatchBool v (Over (map (outcome_by d) to) (x ∷ w) said) ⊥) (MatchBool u (Over (map (outcome_by c) to) (d ∷ x ∷ w) said) ⊥) → ⊥
    by true u true h = let none : x ∷ w ≡ [] = h.0 in cc
    by true u false h = h
    by false true v h = let none : d ∷ x ∷ w ≡ [] = h.0 in cc
    by false false v h = h

start_is_no_refusal : (c : ℕ) → (c == 354) ≡ true → is_refusal c ≡ false
start_is_no_refusal c h = rw (eqb-true c 354 h) refl

data_whole : (to w : List ℕ) → is_content w ≡ true → OfData to w (map (outcome_by (last_code w)) to)
data_whole to [] h = not_false h
data_whole to (c ∷ []) h = by (c == 354) (is_refusal c) (start_is_no_refusal c) h
  where
    by : (t u : Bool) → (t ≡ true → u ≡ false) → u ≡ true → MatchBool t ⊥ (MatchBool u (Over (map (outcome_by c) to) [] (map (outcome_by c) to)) ⊥)
    by true u other h = true≢false (sym h ∙ other refl)
    by false true other h = (refl, refl)
    by false false other h = not_false h
data_whole to (c ∷ d ∷ []) h = by (c == 354) (is_answer d) h
  where
    by : (t v : Bool) → (t && v) ≡ true → MatchBool t (MatchBool v (Over (map (outcome_by d) to) [] (map (outcome_by d) to)) ⊥) (MatchBool (is_refusal c) (Over (map (outcome_by c) to) (d ∷ []) (map (outcome_by d) to)) ⊥)
    by true true h = (refl, refl)
    by true false h = not_false h
    by false v h = not_false h
data_whole to (c ∷ d ∷ x ∷ w) h = not_false h

-- where nobody was accepted, the last code says nothing
refused : (to : List ℕ) (last : ℕ) → list_any is_done to ≡ false → map outcome_of to ≡ map (outcome_by last) to
refused [] last h = refl
refused (c ∷ to) last h = by (is_done c) (refused to last) h
  where
    by : (t : Bool) → (list_any is_done to ≡ false → map outcome_of to ≡ map (outcome_by last) to) → (t || list_any is_done to) ≡ false
        → outcome_of c ∷ map outcome_of to ≡ (if t then outcome_of last else outcome_of c) ∷ map (outcome_by last) to
    by true rest h = not_false (sym h)
    by false rest h = ap (λ (said : List Outcome). outcome_of c ∷ said) (rest h)

-- the codes of DATA and the content are due where one of these codes accepted a recipient
abbrev is_sent : List ℕ → List ℕ → Bool
is_sent to content = if list_any is_done to then is_content content else is_none content

abbrev all_outcomes : List ℕ → List ℕ → List Outcome
all_outcomes to content = map (outcome_by (last_code content)) to

-- What is left for so many recipients, behind the codes of others.
record Rest (n : ℕ) (to w : List ℕ) (said : List Outcome) : Type 0 where
  pub named : List ℕ
  pub content : List ℕ
  pub begins : w ≡ named ++ content
  pub count : length named ≡ n
  pub answers : list_all is_answer named ≡ true
  pub form : is_sent (to ++ named) content ≡ true
  pub outcomes : said ≡ all_outcomes (to ++ named) content

named_form : (to w : List ℕ) (said : List Outcome) → OfRcpts [] to w said → (is_sent to w ≡ true) × (said ≡ all_outcomes to w)
named_form to w said h = by (list_any is_done to) refl h
  where
    by : (t : Bool) → list_any is_done to ≡ t → MatchBool t (OfData to w said) (Over (map outcome_of to) w said) → ((if t then is_content w else is_none w) ≡ true) × (said ≡ all_outcomes to w)
    by true any h = data_form to w said h
    by false any h = (ap is_none h.0, h.1 ∙ refused to (last_code w) any)

named_whole : (to content : List ℕ) → is_sent to content ≡ true → OfRcpts [] to content (all_outcomes to content)
named_whole to content h = by (list_any is_done to) refl h
  where
    by : (t : Bool) → list_any is_done to ≡ t → (if t then is_content content else is_none content) ≡ true → MatchBool t (OfData to content (all_outcomes to content)) (Over (map outcome_of to) content (all_outcomes to content))
    by true any h = data_whole to content h
    by false any h = (none_is content h, sym (refused to (last_code content) any))

rest_none : (to w : List ℕ) (said : List Outcome) → OfRcpts [] to w said → Rest 0 to w said
rest_none to w said h =
    let f = named_form to w said h in
    record {
      named = [];
      content = w;
      begins = refl;
      count = refl;
      answers = refl;
      form = ap (λ (all : List ℕ). is_sent all w) (append-nil to) ∙ f.0;
      outcomes = f.1 ∙ ap (λ (all : List ℕ). all_outcomes all w) (sym (append-nil to));
    }

rest_more : (n : ℕ) (to w : List ℕ) (c : ℕ) (said : List Outcome) → is_answer c ≡ true → Rest n (to ++ c ∷ []) w said → Rest (suc n) to (c ∷ w) said
rest_more n to w c said answer r = record {
  named = c ∷ r.named;
  content = r.content;
  begins = ap (λ (xs : List ℕ). c ∷ xs) r.begins;
  count = ap suc r.count;
  answers = and_from _ _ answer r.answers;
  form = ap (λ (all : List ℕ). is_sent all r.content) (sym (append_assoc to (c ∷ []) r.named)) ∙ r.form;
  outcomes = r.outcomes ∙ ap (λ (all : List ℕ). all_outcomes all r.content) (append_assoc to (c ∷ []) r.named);
}

rcpts_form : (left : List (List ℕ)) (to w : List ℕ) (said : List Outcome) → OfRcpts left to w said → Rest (length left) to w said
rcpts_form [] to w said h = rest_none to w said h
rcpts_form (address ∷ left) to [] said h = absurd h
rcpts_form (address ∷ left) to (c ∷ w) said h = by (is_answer c) refl (rcpts_form left (to ++ c ∷ []) w said) h
  where
    by : (t : Bool) → is_answer c ≡ t → (OfRcpts left (to ++ c ∷ []) w said → Rest (length left) (to ++ c ∷ []) w said) → MatchBool t (OfRcpts left (to ++ c ∷ []) w said) ⊥ → Rest (suc (length left)) to (c ∷ w) said
    by true answer rest h = rest_more (length left) to w c said answer (rest h)
    by false answer rest h = absurd h

rcpts_whole : (left : List (List ℕ)) (to named content : List ℕ) → length named ≡ length left → list_all is_answer named ≡ true → is_sent (to ++ named) content ≡ true
    → OfRcpts left to (named ++ content) (all_outcomes (to ++ named) content)
rcpts_whole [] to [] content count answers form =
    subst (λ (all : List ℕ). OfRcpts [] to content (all_outcomes all content)) (sym (append-nil to))
    (named_whole to content (ap (λ (all : List ℕ). is_sent all content) (sym (append-nil to)) ∙ form))
rcpts_whole [] to (c ∷ named) content count answers form = absurd (omega arith)
rcpts_whole (address ∷ left) to [] content count answers form = absurd (omega arith)
rcpts_whole (address ∷ left) to (c ∷ named) content count answers form =
    let same : (to ++ c ∷ []) ++ named ≡ to ++ c ∷ named = append_assoc to (c ∷ []) named in
    if_so ⊥ (is_answer c) (first_so (is_answer c) (list_all is_answer named) answers)
    (subst (λ (all : List ℕ). OfRcpts left (to ++ c ∷ []) (named ++ content) (all_outcomes all content)) same
    (rcpts_whole left (to ++ c ∷ []) named content (omega arith) (second_so (is_answer c) (list_all is_answer named) answers) (ap (λ (all : List ℕ). is_sent all content) same ∙ form)))

-- behind EHLO and HELO
abbrev is_mailed : ℕ → ℕ → List ℕ → List ℕ → Bool
is_mailed n mail to content = if is_done mail then is_named n to content else is_refusal mail && is_none to && is_none content

abbrev mailed_outcomes : ℕ → ℕ → List ℕ → List ℕ → List Outcome
mailed_outcomes n mail to content = if is_done mail then all_outcomes to content else replicate n (outcome_of mail)

record Mailed (n : ℕ) (w : List ℕ) (said : List Outcome) : Type 0 where
  pub mail : ℕ
  pub to : List ℕ
  pub content : List ℕ
  pub begins : w ≡ mail ∷ (to ++ content)
  pub form : is_mailed n mail to content ≡ true
  pub outcomes : said ≡ mailed_outcomes n mail to content

mail_form : (e : Transaction) (w : List ℕ) (said : List Outcome) → OfMail e w said → Mailed (length e.to) w said
mail_form e [] said h = absurd h
mail_form e (c ∷ w) said h = by (is_done c) (is_refusal c) refl refl h
  where
    by : (t u : Bool) → is_done c ≡ t → is_refusal c ≡ u → MatchBool t (OfRcpts e.to [] w said) (MatchBool u (Over (replicate (length e.to) (outcome_of c)) w said) ⊥) → Mailed (length e.to) (c ∷ w) said
    by true u done never h =
        let r = rcpts_form e.to [] w said h in
        record {
          mail = c;
          to = r.named;
          content = r.content;
          begins = ap (λ (xs : List ℕ). c ∷ xs) r.begins;
          form = ap (λ (t : Bool). if t then is_named (length e.to) r.named r.content else is_refusal c && is_none r.named && is_none r.content) done
              ∙ and_from _ _ (and_from _ _ (eq-eqb _ _ r.count) r.answers) r.form;
          outcomes = r.outcomes ∙ sym (ap (λ (t : Bool). if t then all_outcomes r.named r.content else replicate (length e.to) (outcome_of c)) done);
        }
    by false true done never h = record {
      mail = c;
      to = [];
      content = [];
      begins = ap (λ (xs : List ℕ). c ∷ xs) h.0;
      form = ap (λ (t : Bool). if t then is_named (length e.to) [] [] else is_refusal c && is_none [] && is_none []) done ∙ and_from _ _ (and_from _ _ never refl) refl;
      outcomes = h.1 ∙ sym (ap (λ (t : Bool). if t then all_outcomes [] [] else replicate (length e.to) (outcome_of c)) done);
    }
    by false false done never h = absurd h

mail_whole : (e : Transaction) (mail : ℕ) (to content : List ℕ) → is_mailed (length e.to) mail to content ≡ true → OfMail e (mail ∷ (to ++ content)) (mailed_outcomes (length e.to) mail to content)
mail_whole e mail to content h = by (is_done mail) (is_refusal mail) h
  where
    by : (t u : Bool) → (if t then is_named (length e.to) to content else u && is_none to && is_none content) ≡ true
        → MatchBool t (OfRcpts e.to [] (to ++ content) (if t then all_outcomes to content else replicate (length e.to) (outcome_of mail)))
        (MatchBool u (Over (replicate (length e.to) (outcome_of mail)) (to ++ content) (if t then all_outcomes to content else replicate (length e.to) (outcome_of mail))) ⊥)
    by true u h =
        let two = first_so _ _ h in
        rcpts_whole e.to [] to content (eqb-true _ _ (first_so _ _ two)) (second_so _ _ two) (second_so _ _ h)
    by false true h = (ap (λ (xs : List ℕ). xs ++ content) (none_is to (first_so _ _ h)) ∙ none_is content (second_so _ _ h), refl)
    by false false h = not_false h

-- HELO
helo_form : (e : Transaction) (w : List ℕ) (said : List Outcome) → OfHelo e w said → (c : ℕ) × (rest : List ℕ) × (w ≡ c ∷ rest) × (is_done c ≡ true) × OfMail e rest said
helo_form e [] said h = absurd h
helo_form e (c ∷ w) said h = by (is_done c) refl h
  where
    by : (t : Bool) → is_done c ≡ t → MatchBool t (OfMail e w said) ⊥ → (d : ℕ) × (rest : List ℕ) × (c ∷ w ≡ d ∷ rest) × (is_done d ≡ true) × OfMail e rest said
    by true done h = (c, w, refl, done, h)
    by false done h = absurd h

-- the codes of EHLO and HELO, and the rest
abbrev Greeted : Transaction → List ℕ → List Outcome → Type 0
Greeted e w said = (hello : List ℕ) × (rest : List ℕ) × (w ≡ hello ++ rest) × (is_hello hello ≡ true) × OfMail e rest said

ehlo_form : (e : Transaction) (w : List ℕ) (said : List Outcome) → OfEhlo e w said → Greeted e w said
ehlo_form e [] said h = absurd h
ehlo_form e (c ∷ w) said h = by (is_done c) (is_never c) refl refl h
  where
    by : (t u : Bool) → is_done c ≡ t → is_never c ≡ u → MatchBool t (OfMail e w said) (MatchBool u (OfHelo e w said) ⊥) → Greeted e (c ∷ w) said
    by true u done never h = (c ∷ [], w, refl, done, h)
    by false true done never h = let r = helo_form e w said h in (c ∷ r.0 ∷ [], r.1, ap (λ (xs : List ℕ). c ∷ xs) r.2, and_from _ _ never r.3, r.4)
    by false false done never h = absurd h

never_is_not_done : (c : ℕ) → is_never c ≡ true → is_done c ≡ false
never_is_not_done c h = grind (arith, nat_tests)

ehlo_whole : (e : Transaction) (hello rest : List ℕ) (said : List Outcome) → is_hello hello ≡ true → OfMail e rest said → OfEhlo e (hello ++ rest) said
ehlo_whole e [] rest said h left = not_false h
ehlo_whole e (c ∷ []) rest said h left = if_so _ (is_done c) h left
ehlo_whole e (c ∷ d ∷ []) rest said h left =
    let never : is_never c ≡ true = first_so (is_never c) (is_done d) h in
    if_not _ (is_done c) (never_is_not_done c never) (if_so ⊥ (is_never c) never (if_so ⊥ (is_done d) (second_so (is_never c) (is_done d) h) left))
ehlo_whole e (c ∷ d ∷ x ∷ codes) rest said h left = not_false h

-- a whole list of codes that says this
abbrev pub Is_whole : ℕ → List ℕ → List Outcome → Type 0
Is_whole n w said = (all : Whole) × (is_whole n all ≡ true) × (w ≡ whole_codes all) × (said ≡ whole_outcomes n all)

-- the codes of a whole list behind the first one
codes_are : (hello : List ℕ) (mail : ℕ) (to content : List ℕ) → hello ++ (mail ∷ to) ++ content ≡ hello ++ (mail ∷ (to ++ content))
codes_are hello mail to content = append_assoc hello (mail ∷ to) content

pub dialogue_form : (e : Transaction) (w : List ℕ) (said : List Outcome) → OfDialogue e w said → Is_whole (length e.to) w said
dialogue_form e [] said h = absurd h
dialogue_form e (c ∷ w) said h = by (c == 220) refl h
  where
    by : (t : Bool) → (c == 220) ≡ t → MatchBool t (OfEhlo e w said) ⊥ → Is_whole (length e.to) (c ∷ w) said
    by true is h =
        let r = ehlo_form e w said h in
        let m = mail_form e r.1 said r.4 in
        let rest : w ≡ r.0 ++ (m.mail ∷ m.to) ++ m.content = r.2 ∙ ap (λ (xs : List ℕ). r.0 ++ xs) m.begins ∙ sym (codes_are r.0 m.mail m.to m.content) in
        (record { hello = r.0; mail = m.mail; to = m.to; content = m.content }, and_from _ _ r.3 m.form, ap (λ (n : ℕ). n ∷ w) (eqb-true c 220 is) ∙ ap (λ (xs : List ℕ). 220 ∷ xs) rest, m.outcomes)
    by false is h = absurd h

pub dialogue_whole : (e : Transaction) (all : Whole) → is_whole (length e.to) all ≡ true → OfDialogue e (whole_codes all) (whole_outcomes (length e.to) all)
dialogue_whole e all h =
    let said : List Outcome = whole_outcomes (length e.to) all in
    subst (λ (w : List ℕ). OfDialogue e (220 ∷ w) said) (sym (codes_are all.hello all.mail all.to all.content))
    (ehlo_whole e all.hello (all.mail ∷ (all.to ++ all.content)) said (first_so _ _ h) (mail_whole e all.mail all.to all.content (second_so _ _ h)))
