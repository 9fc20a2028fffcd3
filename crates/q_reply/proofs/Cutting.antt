-- The codes of bytes that were fed piece by piece.
use Rattle.std.proofs.Common.{◌≡◌, ℕ, ◌+◌, List, [], ◌∷◌, ◌++◌, take, refl, sym, ap, ◌∙◌, add-one, subst}
use Rattle.q_smtp.specs.Replies.{Bad, Came, Long, On, Part, Whole, codes_by, codes_from, comes, part_after, part_by}
use Rattle.q_reply.specs.Feeds.{Cuts, fed, fed_by, one_more}
use Rattle.q_reply.specs.declared.replies.Fed.{Fed}
use Rattle.q_reply.specs.declared.replies.Fed.TheVariants.{Reply, More, BadReply, TooLong}

codes_one : (p : Part) (b : ℕ) (rest : List ℕ) (x : Came) → comes p b ≡ x → codes_from p (b ∷ rest) ≡ codes_by x (λ q. codes_from q rest)
unfolding codes_from
codes_one p b rest x e = ap (λ (y : Came). codes_by y (λ q. codes_from q rest)) e

part_on : (p q : Part) (b : ℕ) (bytes : List ℕ) → comes p b ≡ On q → part_after p (b ∷ bytes) ≡ part_after q bytes
unfolding part_after
part_on p q b bytes e = ap (λ (x : Came). part_by x p (λ r. part_after r bytes)) e

one_used : (p : Part) (b used : ℕ) (bytes more : List ℕ) → codes_from p (take (used + 1) (b ∷ bytes) ++ more) ≡ codes_from p (b ∷ (take used bytes ++ more))
one_used p b used bytes more = ap (λ (n : ℕ). codes_from p (take n (b ∷ bytes) ++ more)) (add-one used)

cuts_one : (f : Fed) (p q : Part) (b : ℕ) (bytes : List ℕ) → comes p b ≡ On q → Cuts f q bytes → Cuts (one_more f) p (b ∷ bytes)
cuts_one (Reply code used) p q b bytes e h = λ more. one_used p b used bytes more ∙ codes_one p b (take used bytes ++ more) (On q) e ∙ h more
cuts_one More p q b bytes e h = λ more. codes_one p b (bytes ++ more) (On q) e ∙ h more ∙ ap (λ (r : Part). codes_from r more) (sym (part_on p q b bytes e))
cuts_one (BadReply byte) p q b bytes e h = λ more. codes_one p b (bytes ++ more) (On q) e ∙ h more
cuts_one TooLong p q b bytes e h = λ more. codes_one p b (bytes ++ more) (On q) e ∙ h more

cuts_by : (p : Part) (b : ℕ) (bytes : List ℕ) (x : Came) → comes p b ≡ x → ((q : Part) → Cuts (fed q bytes) q bytes) → Cuts (fed_by x b (λ q. fed q bytes)) p (b ∷ bytes)
cuts_by p b bytes (On q) e rest = cuts_one (fed q bytes) p q b bytes e (rest q)
cuts_by p b bytes (Whole code) e rest = λ more. codes_one p b more (Whole code) e
cuts_by p b bytes Bad e rest = λ more. codes_one p b (bytes ++ more) Bad e
cuts_by p b bytes Long e rest = λ more. codes_one p b (bytes ++ more) Long e

-- so cuts the definition
cuts : (p : Part) (bytes : List ℕ) → Cuts (fed p bytes) p bytes
unfolding fed part_after
cuts p [] = λ more. refl
cuts p (b ∷ bytes) = cuts_by p b bytes (comes p b) refl (λ q. cuts q bytes)

pub cuts_as : (p : Part) (bytes : List ℕ) (f : Fed) → f ≡ fed p bytes → Cuts f p bytes
cuts_as p bytes f e = subst (λ (g : Fed). Cuts g p bytes) (sym e) (cuts p bytes)
