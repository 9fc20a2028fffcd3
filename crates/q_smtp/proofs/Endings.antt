-- A dialogue in each of its states ends as what is left of the whole lists says.
use Rattle.std.proofs.Common.{◌≡◌, ℕ, Bool, true, false, List, [], ◌∷◌, ◌++◌, ◌==◌, if◌then◌else◌, length, replicate, refl, sym, ap, ◌∙◌}
use Rattle.std.specs.Bool.{MatchBool}
use Rattle.std.specs.List.{list_any}
use Rattle.std.specs.Prelude.{map}
use Rattle.q_model.specs.declared.outcome.Outcome.{Outcome}
use Rattle.q_smtp.specs.Codes.{is_answer, is_done, is_never, is_refusal, outcome_by, outcome_of}
use Rattle.q_smtp.specs.ContentLines.{sent_content}
use Rattle.q_smtp.specs.Dialogue.{Broken, Exchange, Open, Settled, Transaction, after_content, after_data, after_ehlo, after_helo, after_mail, after_rcpt, data_line, dialogue, ehlo_line, ends, helo_line, mail_line, rcpt_line, rcpts, says}
use Rattle.q_smtp.proofs.Rests.{OfContent, OfData, OfDialogue, OfEhlo, OfHelo, OfMail, OfRcpts, Over}

-- It is settled exactly behind a whole list, open where one can still come, and broken where none can.
pub record Ends (f : List ℕ → Exchange) (IsWhole : List ℕ → List Outcome → Type 0) : Type 0 where
  pub settled : (cs : List ℕ) (said : List Outcome) → (f cs).ending ≡ Settled said → (w : List ℕ) × (more : List ℕ) × IsWhole w said × (cs ≡ w ++ more)
  pub whole : (w more : List ℕ) (said : List Outcome) → IsWhole w said → (f (w ++ more)).ending ≡ Settled said
  pub goes_on : (cs : List ℕ) → (f cs).ending ≡ Open → (more : List ℕ) × (said : List Outcome) × IsWhole (cs ++ more) said
  pub broken : (cs : List ℕ) → (f cs).ending ≡ Broken → (more : List ℕ) (said : List Outcome) → IsWhole (cs ++ more) said → ⊥

-- some list is whole
abbrev Some_whole : (List ℕ → List Outcome → Type 0) → Type 0
Some_whole IsWhole = (w : List ℕ) × (said : List Outcome) × IsWhole w said

-- The first code is awaited, and the rest ends as what is left says.
abbrev Goes : (List ℕ → Exchange) → (List ℕ → List Outcome → Type 0) → Type 0
Goes f IsWhole = (c : ℕ) → Ends (λ cs. f (c ∷ cs)) (λ w said. IsWhole (c ∷ w) said)

settled_by : (f : List ℕ → Exchange) (IsWhole : List ℕ → List Outcome → Type 0) → (f []).ending ≡ Open → Goes f IsWhole
    → (cs : List ℕ) (said : List Outcome) → (f cs).ending ≡ Settled said → (w : List ℕ) × (more : List ℕ) × IsWhole w said × (cs ≡ w ++ more)
settled_by f IsWhole first each [] said e = let h : Open ≡ Settled said = sym first ∙ e in cc
settled_by f IsWhole first each (c ∷ cs) said e = let r = (each c).settled cs said e in (c ∷ r.0, r.1, r.2, ap (λ (xs : List ℕ). c ∷ xs) r.3)

whole_by : (f : List ℕ → Exchange) (IsWhole : List ℕ → List Outcome → Type 0) → ((said : List Outcome) → IsWhole [] said → ⊥) → Goes f IsWhole
    → (w more : List ℕ) (said : List Outcome) → IsWhole w said → (f (w ++ more)).ending ≡ Settled said
whole_by f IsWhole none each [] more said h = absurd (none said h)
whole_by f IsWhole none each (c ∷ w) more said h = (each c).whole w more said h

goes_by : (f : List ℕ → Exchange) (IsWhole : List ℕ → List Outcome → Type 0) → Some_whole IsWhole → Goes f IsWhole
    → (cs : List ℕ) → (f cs).ending ≡ Open → (more : List ℕ) × (said : List Outcome) × IsWhole (cs ++ more) said
goes_by f IsWhole some each [] e = some
goes_by f IsWhole some each (c ∷ cs) e = (each c).goes_on cs e

broken_by : (f : List ℕ → Exchange) (IsWhole : List ℕ → List Outcome → Type 0) → (f []).ending ≡ Open → Goes f IsWhole
    → (cs : List ℕ) → (f cs).ending ≡ Broken → (more : List ℕ) (said : List Outcome) → IsWhole (cs ++ more) said → ⊥
broken_by f IsWhole first each [] e more said h = let other : Open ≡ Broken = sym first ∙ e in cc
broken_by f IsWhole first each (c ∷ cs) e more said h = (each c).broken cs e more said h

by_code : (f : List ℕ → Exchange) (IsWhole : List ℕ → List Outcome → Type 0) → (f []).ending ≡ Open → ((said : List Outcome) → IsWhole [] said → ⊥) → Some_whole IsWhole → Goes f IsWhole → Ends f IsWhole
by_code f IsWhole first none some each = record {
  settled = settled_by f IsWhole first each;
  whole = whole_by f IsWhole none each;
  goes_on = goes_by f IsWhole some each;
  broken = broken_by f IsWhole first each;
}

-- all is settled, whatever comes
over : (all : List Outcome) → Ends (λ cs. ends (Settled all)) (Over all)
over all = record {
  settled = λ cs said e. let same : said ≡ all = cc in ([], cs, (refl, same), refl);
  whole = λ w more said h. ap Settled (sym h.1);
  goes_on = λ cs e. let h : Settled all ≡ Open = e in cc;
  broken = λ cs e more said h. let h : Settled all ≡ Broken = e in cc;
}

-- no list is whole any more
breaks : Ends (λ cs. ends Broken) (λ w said. ⊥)
breaks = record {
  settled = λ cs said e. let h : Broken ≡ Settled said = e in cc;
  whole = λ w more said h. absurd h;
  goes_on = λ cs e. let h : Broken ≡ Open = e in cc;
  broken = λ cs e more said h. h;
}

-- bytes that are due first change no ending
after : {f : List ℕ → Exchange} {IsWhole : List ℕ → List Outcome → Type 0} (bytes : List ℕ) → Ends f IsWhole → Ends (λ cs. says bytes (f cs)) IsWhole
after bytes h = record { settled = h.settled; whole = h.whole; goes_on = h.goes_on; broken = h.broken }

content_ends : (to : List ℕ) → Ends (after_content to) (OfContent to)
unfolding after_content
content_ends to = by_code (after_content to) (OfContent to) refl (λ said h. h) (250 ∷ [], map (outcome_by 250) to, (refl, refl)) (λ c. by c (is_answer c))
  where
    by : (c : ℕ) (t : Bool) → Ends (λ cs. if t then ends (Settled (map (outcome_by c) to)) else ends Broken) (λ w said. MatchBool t (Over (map (outcome_by c) to) w said) ⊥)
    by c true = over (map (outcome_by c) to)
    by c false = breaks

data_ends : (e : Transaction) (to : List ℕ) → Ends (after_data e to) (OfData to)
unfolding after_data
data_ends e to = by_code (after_data e to) (OfData to) refl (λ said h. h) (554 ∷ [], map (outcome_by 554) to, (refl, refl)) (λ c. by c (c == 354) (is_refusal c))
  where
    by : (c : ℕ) (t u : Bool) → Ends (λ cs. if t then says (sent_content e.content) (after_content to cs) else (if u then ends (Settled (map (outcome_by c) to)) else ends Broken))
        (λ w said. MatchBool t (OfContent to w said) (MatchBool u (Over (map (outcome_by c) to) w said) ⊥))
    by c true u = after (sent_content e.content) (content_ends to)
    by c false true = over (map (outcome_by c) to)
    by c false false = breaks

some_rcpts : (left : List (List ℕ)) (to : List ℕ) → Some_whole (OfRcpts left to)
some_rcpts [] to = by (list_any is_done to)
  where
    by : (t : Bool) → Some_whole (λ w said. MatchBool t (OfData to w said) (Over (map outcome_of to) w said))
    by true = (554 ∷ [], map (outcome_by 554) to, (refl, refl))
    by false = ([], map outcome_of to, (refl, refl))
some_rcpts (address ∷ left) to = let r = some_rcpts left (to ++ 550 ∷ []) in (550 ∷ r.0, r.1, r.2)

named_ends : (e : Transaction) (to : List ℕ) → Ends (rcpts e [] to) (OfRcpts [] to)
unfolding rcpts
named_ends e to = by (list_any is_done to)
  where
    by : (t : Bool) → Ends (λ cs. if t then says data_line (after_data e to cs) else ends (Settled (map outcome_of to))) (λ w said. MatchBool t (OfData to w said) (Over (map outcome_of to) w said))
    by true = after data_line (data_ends e to)
    by false = over (map outcome_of to)

rcpt_ends : (e : Transaction) (address : List ℕ) (left : List (List ℕ)) (to : List ℕ) → ((c : ℕ) → Ends (rcpts e left (to ++ c ∷ [])) (OfRcpts left (to ++ c ∷ []))) → Ends (rcpts e (address ∷ left) to) (OfRcpts (address ∷ left) to)
unfolding rcpts after_rcpt
rcpt_ends e address left to rest = by_code (rcpts e (address ∷ left) to) (OfRcpts (address ∷ left) to) refl (λ said h. h) (some_rcpts (address ∷ left) to) (λ c. by c (is_answer c))
  where
    by : (c : ℕ) (t : Bool) → Ends (λ cs. says (rcpt_line address) (if t then rcpts e left (to ++ c ∷ []) cs else ends Broken)) (λ w said. MatchBool t (OfRcpts left (to ++ c ∷ []) w said) ⊥)
    by c true = after (rcpt_line address) (rest c)
    by c false = after (rcpt_line address) breaks

rcpts_ends : (e : Transaction) (left : List (List ℕ)) (to : List ℕ) → Ends (rcpts e left to) (OfRcpts left to)
rcpts_ends e [] to = named_ends e to
rcpts_ends e (address ∷ left) to = rcpt_ends e address left to (λ c. rcpts_ends e left (to ++ c ∷ []))

mail_ends : (e : Transaction) → Ends (after_mail e) (OfMail e)
unfolding after_mail
mail_ends e = by_code (after_mail e) (OfMail e) refl (λ said h. h) (550 ∷ [], replicate (length e.to) (outcome_of 550), (refl, refl)) (λ c. by c (is_done c) (is_refusal c))
  where
    by : (c : ℕ) (t u : Bool) → Ends (λ cs. if t then rcpts e e.to [] cs else (if u then ends (Settled (replicate (length e.to) (outcome_of c))) else ends Broken))
        (λ w said. MatchBool t (OfRcpts e.to [] w said) (MatchBool u (Over (replicate (length e.to) (outcome_of c)) w said) ⊥))
    by c true u = rcpts_ends e e.to []
    by c false true = over (replicate (length e.to) (outcome_of c))
    by c false false = breaks

some_mail : (e : Transaction) → Some_whole (OfMail e)
some_mail e = (550 ∷ [], replicate (length e.to) (outcome_of 550), (refl, refl))

helo_ends : (e : Transaction) → Ends (after_helo e) (OfHelo e)
unfolding after_helo
helo_ends e = by_code (after_helo e) (OfHelo e) refl (λ said h. h) (let r = some_mail e in (250 ∷ r.0, r.1, r.2)) (λ c. by c (is_done c))
  where
    by : (c : ℕ) (t : Bool) → Ends (λ cs. if t then says (mail_line e.sender) (after_mail e cs) else ends Broken) (λ w said. MatchBool t (OfMail e w said) ⊥)
    by c true = after (mail_line e.sender) (mail_ends e)
    by c false = breaks

ehlo_ends : (e : Transaction) → Ends (after_ehlo e) (OfEhlo e)
unfolding after_ehlo
ehlo_ends e = by_code (after_ehlo e) (OfEhlo e) refl (λ said h. h) (let r = some_mail e in (250 ∷ r.0, r.1, r.2)) (λ c. by c (is_done c) (is_never c))
  where
    by : (c : ℕ) (t u : Bool) → Ends (λ cs. if t then says (mail_line e.sender) (after_mail e cs) else (if u then says helo_line (after_helo e cs) else ends Broken))
        (λ w said. MatchBool t (OfMail e w said) (MatchBool u (OfHelo e w said) ⊥))
    by c true u = after (mail_line e.sender) (mail_ends e)
    by c false true = after helo_line (helo_ends e)
    by c false false = breaks

pub dialogue_ends : (e : Transaction) → Ends (dialogue e) (OfDialogue e)
unfolding dialogue
dialogue_ends e = by_code (dialogue e) (OfDialogue e) refl (λ said h. h) (let r = some_mail e in (220 ∷ 250 ∷ r.0, r.1, r.2)) (λ c. by c (c == 220))
  where
    by : (c : ℕ) (t : Bool) → Ends (λ cs. if t then says ehlo_line (after_ehlo e cs) else ends Broken) (λ w said. MatchBool t (OfEhlo e w said) ⊥)
    by c true = after ehlo_line (ehlo_ends e)
    by c false = breaks
