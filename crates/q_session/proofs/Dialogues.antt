-- The course of a dialogue follows its definition.
use Rattle.std.proofs.Common.{◌≡◌, ℕ, zero, suc, ◌+◌, ◌<◌, ◌≤◌, Bool, true, false, ◌==◌, ◌||◌, if◌then◌else◌, List, [], ◌∷◌, ◌++◌, length, map, drop, replicate, Option, Some, slice_get, refl, sym, ap, ◌∙◌, arith, subst, vec_len, vec_capacity, true≢false}
use Rattle.std.proofs.lemmas.List.{drop_all}
use Rattle.std.specs.List.{list_any}
use Rattle.std.specs.Option.{option_map_or}
use Rattle.q_model.specs.declared.outcome.Outcome.{Outcome}
use Rattle.q_smtp.specs.Codes.{is_answer, is_done, is_never, is_refusal, outcome_by, outcome_of}
use Rattle.q_smtp.specs.ContentLines.{sent_content}
use Rattle.q_session.specs.Course.{Goes, IsPlace, IsReady, Leads, Named, Stands, StaysReady, command_line, rest_by, rest_of}
use Rattle.q_smtp.specs.Dialogue.{Broken, Transaction, Settled, Exchange, after_content, after_data, after_ehlo, after_helo, after_mail, after_rcpt, dialogue, ehlo_line, ends, helo_line, mail_line, rcpt_line, rcpts, says}
use Rattle.q_session.specs.declared.dialogue.Awaited.{Awaited}
use Rattle.q_session.specs.declared.dialogue.Awaited.TheVariants.{Answer}
use Rattle.q_session.specs.declared.dialogue.Command.{Command}
use Rattle.q_session.specs.declared.dialogue.Command.TheVariants.{Data, Mail, Rcpt}
use Rattle.q_session.specs.declared.dialogue.Dialogue.{Dialogue}
use Rattle.q_session.specs.declared.dialogue.Next.{Next}
use Rattle.q_session.specs.declared.dialogue.Next.TheVariants as next

not_false : {X : Type 0} → false ≡ true → X
not_false h = absurd (true≢false (sym h))

-- the same rest leads on alike
leads_as : (e : Transaction) (rest other : List ℕ → Exchange) (step : Next) (d : Dialogue) → ((more : List ℕ) → rest more ≡ other more) → Leads e other step d → Leads e rest step d
leads_as e rest other (next.Say command) d same h = λ more. same more ∙ h more
leads_as e rest other next.SendContent d same h = λ more. same more ∙ h more
leads_as e rest other (next.Settled last) d same h = λ more. same more ∙ h more
leads_as e rest other next.Broken d same h = λ more. same more ∙ h more

-- the rest where this reply is awaited
pub goes_at : (e : Transaction) (old : Dialogue) (awaited : Awaited) (code : ℕ) (step : Next) (new : Dialogue) → old.awaited ≡ awaited
    → Leads e (λ more. rest_by e awaited old.answers.items (code ∷ more)) step new → Stands step new → new.recipients ≡ old.recipients
    → ((whole left : List ℕ) → IsReady awaited whole left → StaysReady step new.awaited whole left) → Goes e old code step new
goes_at e old awaited code step new is leads stands same ready = record {
  leads = leads_as e (λ more. rest_of e old (code ∷ more)) (λ more. rest_by e awaited old.answers.items (code ∷ more)) step new (λ more. ap (λ (a : Awaited). rest_by e a old.answers.items (code ∷ more)) is) leads;
  stands = stands;
  recipients = same;
  ready = λ whole left h. ready whole left (subst (λ (a : Awaited). IsReady a whole left) is h);
}

-- one step of a choice
choose : {A : Type 0} (b t : Bool) (x y : A) → b ≡ t → (if b then x else y) ≡ (if t then x else y)
choose b t x y e = ap (λ (c : Bool). if c then x else y) e

pub greeted : (e : Transaction) (code : ℕ) (more : List ℕ) → (code == 220) ≡ true → dialogue e (code ∷ more) ≡ says ehlo_line (after_ehlo e more)
unfolding dialogue
greeted e code more h = choose (code == 220) true _ _ h

pub not_greeted : (e : Transaction) (code : ℕ) (more : List ℕ) → (code == 220) ≡ false → dialogue e (code ∷ more) ≡ ends Broken
unfolding dialogue
not_greeted e code more h = choose (code == 220) false _ _ h

pub ehlo_done : (e : Transaction) (code : ℕ) (more : List ℕ) → is_done code ≡ true → after_ehlo e (code ∷ more) ≡ says (mail_line e.sender) (after_mail e more)
unfolding after_ehlo
ehlo_done e code more h = choose (is_done code) true _ _ h

pub ehlo_never : (e : Transaction) (code : ℕ) (more : List ℕ) → is_done code ≡ false → is_never code ≡ true → after_ehlo e (code ∷ more) ≡ says helo_line (after_helo e more)
unfolding after_ehlo
ehlo_never e code more h g = choose (is_done code) false _ _ h ∙ choose (is_never code) true _ _ g

pub ehlo_broken : (e : Transaction) (code : ℕ) (more : List ℕ) → is_done code ≡ false → is_never code ≡ false → after_ehlo e (code ∷ more) ≡ ends Broken
unfolding after_ehlo
ehlo_broken e code more h g = choose (is_done code) false _ _ h ∙ choose (is_never code) false _ _ g

pub helo_done : (e : Transaction) (code : ℕ) (more : List ℕ) → is_done code ≡ true → after_helo e (code ∷ more) ≡ says (mail_line e.sender) (after_mail e more)
unfolding after_helo
helo_done e code more h = choose (is_done code) true _ _ h

pub helo_broken : (e : Transaction) (code : ℕ) (more : List ℕ) → is_done code ≡ false → after_helo e (code ∷ more) ≡ ends Broken
unfolding after_helo
helo_broken e code more h = choose (is_done code) false _ _ h

-- a recipient that is still to be named
next_of : (to : List (List ℕ)) (n : ℕ) → n < length to → (a : List ℕ) × (slice_get to n ≡ Some a) × (drop n to ≡ a ∷ drop (n + 1) to)
next_of [] n h = absurd (omega arith)
next_of (a ∷ to) zero h = (a, refl, refl)
next_of (a ∷ to) (suc n) h =
    let r = next_of to n (omega arith) in
    let same : suc (n + 1) ≡ suc n + 1 = omega arith in
    (r.0, r.1, r.2 ∙ ap (λ (m : ℕ). r.0 ∷ drop m (a ∷ to)) same)

pub names_next : (e : Transaction) (old new : Dialogue) → length e.to ≡ old.recipients → vec_len old.answers < old.recipients → old.recipients ≤ vec_capacity old.answers
    → new ≡ record old { awaited = Answer (Rcpt (vec_len old.answers)) } → Named e old (next.Say (Rcpt (vec_len old.answers))) new
unfolding rcpts
names_next e old new all few room is =
    let r = next_of e.to (vec_len old.answers) (omega arith) in
    let line : rcpt_line r.0 ≡ command_line e.sender e.to (Rcpt (vec_len old.answers)) = ap (λ (o : Option (List ℕ)). option_map_or rcpt_line o []) (sym r.1) in
    rw is (record {
      leads = λ more. ap (λ (left : List (List ℕ)). rcpts e left old.answers.items more) r.2
          ∙ ap (λ (bytes : List ℕ). says bytes (rest_by e (Answer (Rcpt (vec_len old.answers))) old.answers.items more)) line;
      stands = (record { place = (refl, few); room = room }, refl);
      recipients = refl;
      ready = λ whole left h. h;
    })

none_left : (e : Transaction) (old : Dialogue) (more : List ℕ) → length e.to ≡ old.recipients → old.recipients ≤ vec_len old.answers
    → rcpts e (drop (vec_len old.answers) e.to) old.answers.items more ≡ rcpts e [] old.answers.items more
none_left e old more all most = ap (λ (left : List (List ℕ)). rcpts e left old.answers.items more) (drop_all (vec_len old.answers) e.to (omega arith))

pub names_none : (e : Transaction) (old new : Dialogue) → length e.to ≡ old.recipients → vec_len old.answers ≤ old.recipients → old.recipients ≤ vec_len old.answers → old.recipients ≤ vec_capacity old.answers
    → list_any is_done old.answers.items ≡ true → new ≡ record old { awaited = Answer Data } → Named e old (next.Say Data) new
unfolding rcpts
names_none e old new all few most room some is = rw is (record {
  leads = λ more. none_left e old more all most ∙ choose (list_any is_done old.answers.items) true _ _ some;
  stands = (record { place = omega arith; room = room }, refl);
  recipients = refl;
  ready = λ whole left h. h;
})

by_own : (b : Bool) (x y : Outcome) → b ≡ false → x ≡ (if b then y else x)
by_own true x y h = not_false (sym h)
by_own false x y h = refl

neither : (a b : Bool) → (a || b) ≡ false → (a ≡ false) × (b ≡ false)
neither true b h = not_false (sym h)
neither false b h = (refl, h)

refused_alike : (last : ℕ) (to : List ℕ) → list_any is_done to ≡ false → map outcome_of to ≡ map (outcome_by last) to
refused_alike last [] h = refl
refused_alike last (c ∷ to) h =
    let n = neither (is_done c) (list_any is_done to) h in
    ap (λ (o : Outcome). o ∷ map outcome_of to) (by_own (is_done c) (outcome_of c) (outcome_of last) n.0) ∙ ap (λ (os : List Outcome). outcome_by last c ∷ os) (refused_alike last to n.1)

pub names_refused : (e : Transaction) (old : Dialogue) → length e.to ≡ old.recipients → vec_len old.answers ≤ old.recipients → old.recipients ≤ vec_len old.answers
    → list_any is_done old.answers.items ≡ false → Named e old (next.Settled 0) old
unfolding rcpts
names_refused e old all few most none = record {
  leads = λ more. none_left e old more all most ∙ choose (list_any is_done old.answers.items) false _ _ none ∙ ap (λ (os : List Outcome). ends (Settled os)) (refused_alike 0 old.answers.items none);
  stands = omega arith;
  recipients = refl;
  ready = λ whole left h. tt;
}

pub data_asked : (e : Transaction) (to : List ℕ) (code : ℕ) (more : List ℕ) → (code == 354) ≡ true → after_data e to (code ∷ more) ≡ says (sent_content e.content) (after_content to more)
unfolding after_data
data_asked e to code more h = choose (code == 354) true _ _ h

pub data_refused : (e : Transaction) (to : List ℕ) (code : ℕ) (more : List ℕ) → (code == 354) ≡ false → is_refusal code ≡ true → after_data e to (code ∷ more) ≡ ends (Settled (map (outcome_by code) to))
unfolding after_data
data_refused e to code more h g = choose (code == 354) false _ _ h ∙ choose (is_refusal code) true _ _ g

pub data_broken : (e : Transaction) (to : List ℕ) (code : ℕ) (more : List ℕ) → (code == 354) ≡ false → is_refusal code ≡ false → after_data e to (code ∷ more) ≡ ends Broken
unfolding after_data
data_broken e to code more h g = choose (code == 354) false _ _ h ∙ choose (is_refusal code) false _ _ g

pub content_answered : (to : List ℕ) (code : ℕ) (more : List ℕ) → is_answer code ≡ true → after_content to (code ∷ more) ≡ ends (Settled (map (outcome_by code) to))
unfolding after_content
content_answered to code more h = choose (is_answer code) true _ _ h

pub content_broken : (to : List ℕ) (code : ℕ) (more : List ℕ) → is_answer code ≡ false → after_content to (code ∷ more) ≡ ends Broken
unfolding after_content
content_broken to code more h = choose (is_answer code) false _ _ h

pub rcpt_broken : (follow : ℕ → List ℕ → Exchange) (code : ℕ) (more : List ℕ) → is_answer code ≡ false → after_rcpt follow (code ∷ more) ≡ ends Broken
unfolding after_rcpt
rcpt_broken follow code more h = choose (is_answer code) false _ _ h

pub rcpt_answered : (follow : ℕ → List ℕ → Exchange) (code : ℕ) (more : List ℕ) → is_answer code ≡ true → after_rcpt follow (code ∷ more) ≡ follow code more
unfolding after_rcpt
rcpt_answered follow code more h = choose (is_answer code) true _ _ h

pub mail_done : (e : Transaction) (code : ℕ) (more : List ℕ) → is_done code ≡ true → after_mail e (code ∷ more) ≡ rcpts e e.to [] more
unfolding after_mail
mail_done e code more h = choose (is_done code) true _ _ h

pub mail_broken : (e : Transaction) (code : ℕ) (more : List ℕ) → is_done code ≡ false → is_refusal code ≡ false → after_mail e (code ∷ more) ≡ ends Broken
unfolding after_mail
mail_broken e code more h g = choose (is_done code) false _ _ h ∙ choose (is_refusal code) false _ _ g

either_way : (b : Bool) (x : Outcome) → x ≡ (if b then x else x)
either_way true x = refl
either_way false x = refl

same_for_all : (n code : ℕ) → replicate n (outcome_of code) ≡ map (outcome_by code) (replicate n code)
same_for_all zero code = refl
same_for_all (suc n) code = ap (λ (o : Outcome). o ∷ replicate n (outcome_of code)) (either_way (is_done code) (outcome_of code)) ∙ ap (λ (os : List Outcome). outcome_by code code ∷ os) (same_for_all n code)

pub mail_refused : (e : Transaction) (code : ℕ) (more : List ℕ) → is_done code ≡ false → is_refusal code ≡ true → after_mail e (code ∷ more) ≡ ends (Settled (map (outcome_by code) (replicate (length e.to) code)))
unfolding after_mail
mail_refused e code more h g = choose (is_done code) false _ _ h ∙ choose (is_refusal code) true _ _ g ∙ ap (λ (os : List Outcome). ends (Settled os)) (same_for_all (length e.to) code)

-- a recipient that is named by an answer to another
pub goes_named : (e : Transaction) (old mid new : Dialogue) (code : ℕ) (step : Next) → ((more : List ℕ) → rest_of e old (code ∷ more) ≡ rcpts e (drop (vec_len mid.answers) e.to) mid.answers.items more)
    → mid.recipients ≡ old.recipients → ((whole left : List ℕ) → IsReady old.awaited whole left → left ≡ whole) → Named e mid step new → Goes e old code step new
goes_named e old mid new code step same all ready named = record {
  leads = leads_as e (λ more. rest_of e old (code ∷ more)) (rcpts e (drop (vec_len mid.answers) e.to) mid.answers.items) step new same named.leads;
  stands = named.stands;
  recipients = named.recipients ∙ all;
  ready = λ whole left h. named.ready whole left (ready whole left h);
}

-- where this reply is awaited
pub place_at : (d : Dialogue) (awaited : Awaited) → d.awaited ≡ awaited → IsPlace d.awaited (vec_len d.answers) d.recipients → IsPlace awaited (vec_len d.answers) d.recipients
place_at d awaited is place = subst (λ (a : Awaited). IsPlace a (vec_len d.answers) d.recipients) is place

no_items : (xs : List ℕ) → length xs ≡ 0 → xs ≡ []
no_items [] h = refl
no_items (x ∷ xs) h = absurd (omega arith)

-- RCPT was answered
pub rcpt_heard : (e : Transaction) (old mid : Dialogue) (code : ℕ) → old.awaited ≡ Answer (Rcpt (vec_len old.answers)) → is_answer code ≡ true → mid.answers.items ≡ old.answers.items ++ code ∷ [] → vec_len mid.answers ≡ vec_len old.answers + 1
    → (more : List ℕ) → rest_of e old (code ∷ more) ≡ rcpts e (drop (vec_len mid.answers) e.to) mid.answers.items more
rcpt_heard e old mid code awaited answer items count more =
    ap (λ (a : Awaited). rest_by e a old.answers.items (code ∷ more)) awaited
    ∙ rcpt_answered (λ (c : ℕ) (cs : List ℕ). rcpts e (drop (vec_len old.answers + 1) e.to) (old.answers.items ++ c ∷ []) cs) code more answer
    ∙ ap (λ (n : ℕ). rcpts e (drop n e.to) (old.answers.items ++ code ∷ []) more) (sym count)
    ∙ ap (λ (xs : List ℕ). rcpts e (drop (vec_len mid.answers) e.to) xs more) (sym items)

-- MAIL was carried out
pub mail_heard : (e : Transaction) (old : Dialogue) (code : ℕ) → old.awaited ≡ Answer Mail → is_done code ≡ true → vec_len old.answers ≡ 0 → old.answers.items ≡ []
    → (more : List ℕ) → rest_of e old (code ∷ more) ≡ rcpts e (drop (vec_len old.answers) e.to) old.answers.items more
mail_heard e old code awaited done none items more =
    ap (λ (a : Awaited). rest_by e a old.answers.items (code ∷ more)) awaited
    ∙ mail_done e code more done
    ∙ ap (λ (n : ℕ). rcpts e (drop n e.to) [] more) (sym none)
    ∙ ap (λ (xs : List ℕ). rcpts e (drop (vec_len old.answers) e.to) xs more) (sym items)

pub is_ready_at : (old : Dialogue) (command : Command) → old.awaited ≡ Answer command → (whole left : List ℕ) → IsReady old.awaited whole left → left ≡ whole
is_ready_at old command is whole left h = subst (λ (a : Awaited). IsReady a whole left) is h

pub none_yet : (old : Dialogue) → old.awaited ≡ Answer Mail → IsPlace old.awaited (vec_len old.answers) old.recipients → (vec_len old.answers ≡ 0) × (old.answers.items ≡ [])
none_yet old is place =
    let none : vec_len old.answers ≡ 0 = place_at old (Answer Mail) is place in
    (none, no_items old.answers.items (omega (arith, none, old.answers.ok.0)))

pub one_more_of : (n x : ℕ) → replicate n x ++ x ∷ [] ≡ replicate (n + 1) x
one_more_of zero x = refl
one_more_of (suc n) x = let same : suc (n + 1) ≡ suc n + 1 = omega arith in ap (λ (xs : List ℕ). x ∷ xs) (one_more_of n x) ∙ ap (λ (m : ℕ). replicate m x) same

-- a command is next
pub goes_say : (e : Transaction) (old new : Dialogue) (awaited : Awaited) (code : ℕ) (command : Command) → old.awaited ≡ awaited
    → ((more : List ℕ) → rest_by e awaited old.answers.items (code ∷ more) ≡ says (command_line e.sender e.to command) (rest_by e (Answer command) old.answers.items more))
    → new ≡ record old { awaited = Answer command } → IsPlace (Answer command) (vec_len old.answers) old.recipients → old.recipients ≤ vec_capacity old.answers
    → ((whole left : List ℕ) → IsReady awaited whole left → left ≡ whole) → Goes e old code (next.Say command) new
goes_say e old new awaited code command is leads made place room ready =
    rw made (goes_at e old awaited code (next.Say command) (record old { awaited = Answer command }) is leads (record { place = place; room = room }, refl) refl ready)
