-- The entries in a map, by their patterns.
use Rattle.std.proofs.Common.{◌≡◌, ◌++◌, ℕ, Bool, true, false, cond, List, [], ◌∷◌, Option, Some, None, refl, ap, ◌∙◌}
use Rattle.std.specs.Prelude.{bytes_eq, option_map, Vec}
use Rattle.std.specs.Cmp.Lexicographic.{nat_list_eq_equiv}
use Rattle.std.specs.Map.{lookup}
use Rattle.std.proofs.lemmas.List.{map-append}
use Rattle.indexmap.specs.IndexMap.{IndexMap, insert_entry}
use Rattle.indexmap.proofs.CallerLemmas.{insert_entry-new}
use Rattle.q_transport.specs.Contents.{rule_of_pattern, Rule}
use Rattle.q_transport.specs.Entries.{rule_of, rules_of, target_at, target_of}
use Rattle.q_transport.specs.declared.entries.Target.{Target}

chosen : (b : Bool) (entry : Rule) (o : Option Target) (p : Option Rule) → o ≡ option_map target_of p → cond b (Some (target_of entry)) o ≡ option_map target_of (cond b (Some entry) p)
chosen true entry o p e = refl
chosen false entry o p e = e

-- what a map has at a pattern is what the list has
pub looked_up : {A : Type 0} (pattern : List ℕ) (entries : List (Vec ℕ A × Target)) → lookup (λ key. bytes_eq pattern key.items) entries ≡ target_at (rules_of entries) pattern
looked_up pattern [] = refl
looked_up pattern (e ∷ es) =
    rw (nat_list_eq_equiv.symm pattern e.0.items)
    (chosen (bytes_eq e.0.items pattern) (rule_of e) (lookup (λ key. bytes_eq pattern key.items) es) (rule_of_pattern (rules_of es) pattern) (looked_up pattern es))

-- what goes into a map at a pattern that no entry has is the last
pub added : {A S : Type 0} (pattern : Vec ℕ A) (target : Target) (m : IndexMap (Vec ℕ A) Target S) (new : List (Vec ℕ A × Target)) (rules : List Rule) → rules_of m.entries ≡ rules → rule_of_pattern rules pattern.items ≡ None
    → new ≡ insert_entry (λ (key other : Vec ℕ A). bytes_eq key.items other.items) m.entries pattern target → rules_of new ≡ rules ++ rule_of (pattern, target) ∷ []
added {A} pattern target m new rules same none e =
    let eq = λ (key other : Vec ℕ A). bytes_eq key.items other.items in
    let absent : lookup (eq pattern) m.entries ≡ None =
    looked_up pattern.items m.entries ∙ ap (λ (es : List Rule). target_at es pattern.items) same ∙ ap (option_map target_of) none in
    ap rules_of (e ∙ insert_entry-new eq m pattern target absent) ∙ map-append rule_of m.entries ((pattern, target) ∷ []) ∙ ap (λ (es : List Rule). es ++ rule_of (pattern, target) ∷ []) same
