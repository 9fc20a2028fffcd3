-- What clap has let through of an argument that takes a number: where it is required or has a default, it
-- has a value, which passed the argument's range.
use Rattle.std.proofs.Common.{◌≡◌, ◌∙◌, ◌<◌, ◌≤◌, ◌⊎◌, ◌∷◌, [], ℕ, Bool, true, false, List, length, not, suc, zero, Option, Some, None, is_some, inl, inr, refl, sym, ap, subst, arith, eqb-true}
use Rattle.std.specs.Borrow.{Bor}
use Rattle.std.specs.List.{All, list_all, slice_index_or}
use Rattle.std.specs.Prelude.{bytes_eq, codes, find, option_map, pos, unwrap_or}
use Rattle.std.proofs.lemmas.Bool.{and_parts}
use Rattle.std.proofs.lemmas.List.{get_or-map, length-map}
use Rattle.std.proofs.lemmas.List.Elements.{All-get_or}
use Rattle.std.proofs.lemmas.List.Folds.{list_all_at}
use Rattle.std.proofs.lemmas.Slice.Eq.{bytes_eq-Decides}
use Rattle.clap.proofs.CallerLemmas.{default_present, entry_by_id, present_has_entry, required_present, same_rules_by_id}
use Rattle.clap.specs.Built.{IsAuto, IsParsedFrom, IsPlain, IsPlainArg, SameRules}
use Rattle.clap.specs.Facts.{AllowsNone, args_of, Entry, EntryPasses, EntryValuesPass, groups_of, HasId, HasReading, IsCountArg, IsFilledEntry, IsKnownGroup, least_values, MayBeEmpty, parser_of, parser_of_value, PassesArg, ReadsByParser, unwrap_or_range}
use Rattle.clap.specs.Matches.{found_of, matched_of, one_text}
use Rattle.clap.specs.Texts.{items_of}
use Rattle.clap.specs.Values.{Accepts, read_as, reading_of}
use Rattle.clap.specs.Simple.{App, app_of, has_plain_fields}
use Rattle.clap.specs.Walk.{is_empty, is_free_arg, is_simple_arg, Rule, rule_of, rules_of}
use Rattle.clap.specs.Words.{Text}
use Rattle.clap.specs.declared.builder.action.ArgAction.TheVariants.{Count, Set}
use Rattle.clap.specs.declared.builder.arg.Arg.{Arg}
use Rattle.clap.specs.declared.builder.command.Command.{Command}
use Rattle.clap.specs.declared.builder.command.Command.TheViews.{out-Command}
use Rattle.clap.specs.declared.builder.value_parser.Reading.{Reading}
use Rattle.clap.specs.declared.builder.value_parser.ValueParser.{ValueParser}
use Rattle.clap.specs.declared.builder.value_parser.ValueParser.TheVariants as vp
use Rattle.clap.specs.declared.parser.matches.ArgMatches.{ArgMatches}
use Rattle.clap.specs.declared.parser.matches.Found.{Found}
use Rattle.clap.specs.declared.parser.matches.MatchedArg.{MatchedArg}
use Rattle.q_words.specs.Given.{HasNumber}

-- ---- settings that say nothing

nothing_in : {X : Type 0} (xs : List X) → is_empty xs ≡ true → xs ≡ []
nothing_in [] h = refl
nothing_in (x ∷ xs) h = let none = eqb-true (length (x ∷ xs)) 0 h in absurd (omega (arith, none))

not_true : (b : Bool) → not b ≡ true → b ≡ false
not_true true h = cc
not_true false h = refl

-- what a simple argument doesn't have
pub record IsBare (a : Arg) : Type 0 where
  pub overrides : a.overrides.items ≡ []
  pub ifs : a.default_vals_ifs.items ≡ []
  pub groups : a.groups.items ≡ []
  pub whole : is_some a.val_delim ≡ false

bare : (a : Arg) → is_simple_arg a ≡ true → IsBare a
bare a h =
    let one = and_parts (is_empty a.overrides.items) _ h in
    let two = and_parts (is_empty a.default_vals_ifs.items) _ one.1 in
    let three = and_parts (is_empty a.groups.items) _ two.1 in
    let four = and_parts (not (is_some a.val_delim)) _ three.1 in
    record {
      overrides = nothing_in a.overrides.items one.0;
      ifs = nothing_in a.default_vals_ifs.items two.0;
      groups = nothing_in a.groups.items three.0;
      whole = not_true (is_some a.val_delim) four.0;
    }

plain_arg : (a : Arg) → is_simple_arg a ≡ true → is_free_arg a ≡ true → IsPlainArg a
plain_arg a simple free =
    let one = and_parts (not a.exclusive) _ free in
    let two = and_parts (is_empty a.conflicts.items) _ one.1 in
    let b = bare a simple in
    (not_true a.exclusive one.0, nothing_in a.conflicts.items two.0, b.overrides, b.groups)

each_passes : (p : Rule → Bool) (rules : List Rule) → list_all p rules ≡ true → (k : ℕ) (d : Rule) → k < length rules → p (slice_index_or rules k d) ≡ true
each_passes p rules all k d low = by (p (slice_index_or rules k d)) refl
  where
    by : (b : Bool) → p (slice_index_or rules k d) ≡ b → b ≡ true
    by true e = refl
    by false e = let bad : false ≡ true = sym (list_all_at p rules k d low e) ∙ all in cc

-- ---- the entry of an argument

found_at : (id : Text) (xs : List Entry) (i : ℕ) → i < length xs → ((d : Entry) → bytes_eq (slice_index_or xs i d).0.now id ≡ true)
    → is_some (option_map (λ e. e.1) (find (λ e. bytes_eq e.0.now id) xs)) ≡ true
found_at id [] i low same = absurd (omega (arith, low))
found_at id (x ∷ xs) i low same = by (λ n less there. found_at id xs n less there) (bytes_eq x.0.now id) refl i low same
  where
    by : ((n : ℕ) → n < length xs → ((d : Entry) → bytes_eq (slice_index_or xs n d).0.now id ≡ true) → is_some (option_map (λ e. e.1) (find (λ e. bytes_eq e.0.now id) xs)) ≡ true)
        → (b : Bool) → bytes_eq x.0.now id ≡ b → (j : ℕ) → j < length (x ∷ xs) → ((d : Entry) → bytes_eq (slice_index_or (x ∷ xs) j d).0.now id ≡ true)
        → is_some (option_map (λ e. e.1) (find (λ e. bytes_eq e.0.now id) (x ∷ xs))) ≡ true
    by rest true e j low same = rw e refl
    by rest false e zero low same = let bad : false ≡ true = sym e ∙ same x in cc
    by rest false e (suc n) low same = rw e (rest n (omega (arith, low)) same)

has_entry : (f : Found) (id : Text) → HasId f id → is_some (matched_of f id) ≡ true
has_entry f id h = found_at id f.entries.items h.0 h.1 h.2

-- the text that is read of the first value
first_read : (f : Found) (id : Text) (Q : Text → Type 0) (how : Reading) (x : MatchedArg) → matched_of f id ≡ Some x → x.reading ≡ how → (vs : List (Bor Text)) → x.vals.items ≡ vs
    → 0 < length vs → All (λ v. Q v.now) vs → (t : Text) × (one_text f id ≡ Some (read_as how t)) × Q t
first_read f id Q how x found is [] vals some all = absurd (omega (arith, some))
first_read f id Q how x found is (v ∷ vs) vals some all = (v.now, rw (found, is, vals) refl, All-get_or (λ (w : Bor Text). Q w.now) (v ∷ vs) 0 v (omega arith) all)

-- ---- an argument of a simple command

module _ (c : Command) (m : ArgMatches) (p : IsParsedFrom c m) (rules : List Rule) (are : rules_of c ≡ rules) (fields : has_plain_fields (out-Command c) ≡ true)
    (simple : list_all (λ r. r.is_simple) rules ≡ true) (free : list_all (λ r. r.is_free) rules ≡ true) where
  no_groups : groups_of c ≡ []
  no_groups = nothing_in (groups_of c) (and_parts (is_empty (groups_of c)) _ fields).0

  no_globals : (out-Command c).has_globals ≡ false
  no_globals =
      let one = and_parts (is_empty (groups_of c)) _ fields in
      let two = and_parts (not (out-Command c).allow_external_subcommands) _ one.1 in
      not_true (out-Command c).has_globals (and_parts (not (out-Command c).has_globals) _ two.1).0

  same_length : length (args_of c) ≡ length rules
  same_length = sym (length-map (args_of c) rule_of) ∙ ap length are

  rule_at : (k : ℕ) (d : Arg) (e : Rule) → k < length rules → rule_of (slice_index_or (args_of c) k d) ≡ slice_index_or rules k e
  rule_at k d e low =
      let same = same_length in
      sym (get_or-map rule_of (args_of c) k d e (omega (arith, low, same))) ∙ ap (λ (rs : List Rule). slice_index_or rs k e) are

  plain : IsPlain c
  plain = (
    λ k d low.
        let same = same_length in
        let a = slice_index_or (args_of c) k d in
        let here = rule_at k d (rule_of a) (omega (arith, low, same)) in
        plain_arg a (ap (λ (r : Rule). r.is_simple) here ∙ each_passes (λ (r : Rule). r.is_simple) rules simple k (rule_of a) (omega (arith, low, same)))
        (ap (λ (r : Rule). r.is_free) here ∙ each_passes (λ (r : Rule). r.is_free) rules free k (rule_of a) (omega (arith, low, same))),
    no_groups,
  )

  module _ (k : ℕ) (d : Arg) (low : k < length rules) (r : Rule) (is : slice_index_or rules k (rule_of (slice_index_or (args_of c) k d)) ≡ r) (set : r.action ≡ Some Set) (one_value : r.range ≡ None)
      (q : ValueParser) (parser : r.parser ≡ Some q) (named : r.id ≡ [] → ⊥) (own : (r.id ≡ codes "help") ⊎ (r.id ≡ codes "version") → ⊥)
      (unique : (j : ℕ) (e : Rule) → j < length rules → bytes_eq (slice_index_or rules j e).id r.id ≡ true → j ≡ k) where
    abbrev a : Arg
    a = slice_index_or (args_of c) k d

    its : rule_of a ≡ r
    its = rule_at k d (rule_of a) low ∙ is

    within : k < length (args_of c)
    within = let same = same_length in omega (arith, low, same)

    its_id : a.id.now ≡ r.id
    its_id = ap (λ (x : Rule). x.id) its

    alone : (j : ℕ) (e : Arg) → j < length (args_of c) → bytes_eq (slice_index_or (args_of c) j e).id.now a.id.now ≡ true → j ≡ k
    alone j e below same =
        let sizes = same_length in
        let here : j < length rules = omega (arith, below, sizes) in
        let other = ap (λ (x : Rule). x.id) (rule_at j e (rule_of (slice_index_or (args_of c) j e)) here) in
        unique j (rule_of (slice_index_or (args_of c) j e)) here
        (subst (λ (t : Text). bytes_eq t r.id ≡ true) other (subst (λ (t : Text). bytes_eq (slice_index_or (args_of c) j e).id.now t ≡ true) its_id same))

    no_flag : IsAuto a → ⊥
    no_flag (inl help) = own (inl (sym its_id ∙ help))
    no_flag (inr version) = own (inr (sym its_id ∙ version))

    -- an argument of the built command with its id has its rules
    its_rules : (j : ℕ) (x : Arg) → j < length (args_of p.built) → slice_index_or (args_of p.built) j x ≡ x → bytes_eq x.id.now r.id ≡ true → SameRules a x
    its_rules j x below at same = same_rules_by_id c m p k d within alone no_flag j x below at (subst (λ (t : Text). bytes_eq x.id.now t ≡ true) (sym its_id) same)

    reads_so : (how : Reading) → HasReading p.built r.id how → how ≡ reading_of q
    reads_so how any =
        let s = its_rules any.0 any.1 any.2 any.3 any.4.0 in
        sym any.4.1 ∙ ap (λ (o : Option ValueParser). reading_of (parser_of_value o)) (s.parser q (ap (λ (x : Rule). x.parser) its ∙ parser))

    passed_so : (t : Text) → PassesArg p.built r.id t → Accepts a.ignore_case q t
    passed_so t any =
        let s = its_rules any.0 any.1 any.2 any.3 any.4.0 in
        let is_q : parser_of any.1 ≡ q = ap parser_of_value (s.parser q (ap (λ (x : Rule). x.parser) its ∙ parser)) in
        subst (λ (b : Bool). Accepts b q t) s.ignore_case (subst (λ (w : ValueParser). Accepts any.1.ignore_case w t) is_q any.4.1)

    takes_one : 1 ≤ least_values a
    takes_one = subst (λ (o : Option _). 1 ≤ (unwrap_or_range o).start_inclusive) (sym (ap (λ (x : Rule). x.range) its ∙ one_value)) (omega arith)

    is_bare : IsBare a
    is_bare = bare a (ap (λ (x : Rule). x.is_simple) (rule_at k d (rule_of a) low) ∙ each_passes (λ (x : Rule). x.is_simple) rules simple k (rule_of a) low)

    is_set : a.action ≡ Some Set
    is_set = ap (λ (x : Rule). x.action) its ∙ set

    counts_none : IsCountArg p.built r.id → ⊥
    counts_none any =
        let s = its_rules any.0 any.1 any.2 any.3 any.4.0 in
        let never : Set ≡ Count = ap (λ (o : Option _). unwrap_or o Set) (sym (s.action Set is_set)) ∙ any.4.1 in
        absurd cc

    has_some : AllowsNone p.built r.id → ⊥
    has_some any = by (its_rules any.0 any.1 any.2 any.3 any.4.0) any.4.1
      where
        by : SameRules a any.1 → MayBeEmpty any.1 → ⊥
        by s (inl none) = let one = s.least is_set takes_one in omega (arith, one, none)
        by s (inr cut) = let never : false ≡ true = sym (ap is_some s.val_delim ∙ is_bare.whole) ∙ cut in absurd cc

    module _ (e : Entry) (key : e.0.now ≡ r.id) (pass : EntryPasses p.built e) where
      no_group : e.1.is_group ≡ true → ⊥
      no_group g = by (pass.3 g)
        where
          by : IsKnownGroup p.built e.0.now → ⊥
          by (inl empty) = named (sym key ∙ empty)
          by (inr some) = let none = ap length (p.from.plain plain).1 in omega (arith, some, none)

      some_value : 0 < length e.1.vals.items
      some_value = by pass.1
        where
          by : IsFilledEntry p.built e → 0 < length e.1.vals.items
          by (inl group) = absurd (no_group group.0)
          by (inr (inl some)) = some
          by (inr (inr (inl count))) = absurd (counts_none (subst (λ (t : Text). IsCountArg p.built t) key count.1))
          by (inr (inr (inr none))) = absurd (has_some (subst (λ (t : Text). AllowsNone p.built t) key none))

      all_pass : All (λ v. Accepts a.ignore_case q v.now) e.1.vals.items
      all_pass = by pass.0
        where
          by : EntryValuesPass p.built e → All (λ v. Accepts a.ignore_case q v.now) e.1.vals.items
          by (inl group) = absurd (no_group group)
          by (inr all) = λ i v below. passed_so (slice_index_or e.1.vals.items i v).now (subst (λ (t : Text). PassesArg p.built t (slice_index_or e.1.vals.items i v).now) key (all i v below))

      read_by_parser : e.1.reading ≡ reading_of q
      read_by_parser = by pass.4
        where
          by : ReadsByParser p.built e → e.1.reading ≡ reading_of q
          by (inl group) = absurd (no_group group)
          by (inr has) = reads_so e.1.reading (subst (λ (t : Text). HasReading p.built t e.1.reading) key has)

    -- where it has an entry, it has a text that passed its parser
    reads : is_some (matched_of (found_of m) r.id) ≡ true → (t : Text) × (one_text (found_of m) r.id ≡ Some (read_as (reading_of q) t)) × Accepts a.ignore_case q t
    reads has = by (matched_of (found_of m) r.id) refl has
      where
        by : (o : Option MatchedArg) → matched_of (found_of m) r.id ≡ o → is_some o ≡ true → (t : Text) × (one_text (found_of m) r.id ≡ Some (read_as (reading_of q) t)) × Accepts a.ignore_case q t
        by None found some = absurd cc
        by (Some x) found some =
            let parsed = p.parsed (p.from.globals ∙ no_globals) in
            let got = entry_by_id (EntryPasses p.built) (found_of m).entries.items r.id x parsed.values found in
            let key : got.0.0.now ≡ r.id = (bytes_eq-Decides got.0.0.now r.id).0 got.2 in
            first_read (found_of m) r.id (λ t. Accepts a.ignore_case q t) (reading_of q) x found (ap (λ (y : MatchedArg). y.reading) (sym got.1) ∙ read_by_parser got.0 key got.3)
            x.vals.items refl (subst (λ (y : MatchedArg). 0 < length y.vals.items) got.1 (some_value got.0 key got.3))
            (subst (λ (y : MatchedArg). All (λ v. Accepts a.ignore_case q v.now) y.vals.items) got.1 (all_pass got.0 key got.3))

    -- a default gives it an entry
    by_default : 0 < length r.defaults → is_some (matched_of (found_of m) r.id) ≡ true
    by_default some =
        let sizes = length-map (items_of a.default_vals) (λ (s : Bor Text). s.now) in
        let same = ap (λ (x : Rule). length x.defaults) its in
        let wants : 0 < length (items_of a.default_vals) = omega (arith, some, sizes, same) in
        subst (λ (t : Text). is_some (matched_of (found_of m) t) ≡ true) its_id
        (has_entry (found_of m) a.id.now (default_present c m p no_globals k d within (is_bare.ifs, wants)))

    -- so does that it is required
    by_requirement : (out-Command c).subcommand_negates_reqs ≡ false → r.required ≡ true → is_some (matched_of (found_of m) r.id) ≡ true
    by_requirement negates required =
        subst (λ (t : Text). is_some (matched_of (found_of m) t) ≡ true) its_id
        (present_has_entry (found_of m) a.id.now (required_present c m p plain no_globals negates k d within (ap (λ (x : Rule). x.required) its ∙ required)))

-- ---- numbers

some_of : {X : Type 0} (xs : List X) → 0 < length xs → X
some_of [] some = absurd (omega (arith, some))
some_of (x ∷ xs) some = x

-- a text that passed a range is one of a number in it
in_range : (m : ArgMatches) (id : Text) (q : ValueParser) (low high : ℕ) (ignores : Bool) → q ≡ vp.Signed (pos low) (pos high)
    → (t : Text) × (one_text (found_of m) id ≡ Some (read_as (reading_of q) t)) × Accepts ignores q t → HasNumber m id low high
in_range m id q low high ignores is (t, given, passed) = record {
  text = t;
  given = subst (λ (w : ValueParser). one_text (found_of m) id ≡ Some (read_as (reading_of w) t)) is given;
  within = subst (λ (w : ValueParser). Accepts ignores w t) is passed;
}

-- ---- an argument of a command, by the command's rules

-- a name that is none of clap's own
pub own_name : (id : Text) → bytes_eq id (codes "help") ≡ false → bytes_eq id (codes "version") ≡ false → (id ≡ codes "help") ⊎ (id ≡ codes "version") → ⊥
own_name id help version (inl is) = let never : false ≡ true = sym help ∙ ap (λ (t : Text). bytes_eq t (codes "help")) is in absurd cc
own_name id help version (inr is) = let never : false ≡ true = sym version ∙ ap (λ (t : Text). bytes_eq t (codes "version")) is in absurd cc

-- the argument takes a number from low to high
pub record TakesNumber (rules : List Rule) (k : ℕ) (r : Rule) (low high : ℕ) : Type 0 where
  pub below : k < length rules
  pub is : (e : Rule) → slice_index_or rules k e ≡ r
  pub set : r.action ≡ Some Set
  pub one_value : r.range ≡ None
  pub parser : r.parser ≡ Some (vp.Signed (pos low) (pos high))
  pub named : r.id ≡ [] → ⊥
  pub own : (r.id ≡ codes "help") ⊎ (r.id ≡ codes "version") → ⊥
  pub unique : (j : ℕ) (e : Rule) → j < length rules → bytes_eq (slice_index_or rules j e).id r.id ≡ true → j ≡ k

module _ (c : Command) (m : ArgMatches) (p : IsParsedFrom c m) (app : App) (is_app : app_of c ≡ app) (fields : app.top.is_plain ≡ true)
    (simple : list_all (λ r. r.is_simple) app.top.rules ≡ true) (free : list_all (λ r. r.is_free) app.top.rules ≡ true)
    (k : ℕ) (r : Rule) (low high : ℕ) (takes : TakesNumber app.top.rules k r low high) where
  are : rules_of c ≡ app.top.rules
  are = ap (λ (a : App). a.top.rules) is_app

  plain_fields : has_plain_fields (out-Command c) ≡ true
  plain_fields = ap (λ (a : App). a.top.is_plain) is_app ∙ fields

  an_arg : Arg
  an_arg = some_of (args_of c) (let same = same_length c m p app.top.rules are plain_fields simple free in let below = takes.below in omega (arith, same, below))

  its_rule : slice_index_or app.top.rules k (rule_of (slice_index_or (args_of c) k an_arg)) ≡ r
  its_rule = takes.is (rule_of (slice_index_or (args_of c) k an_arg))

  abbrev q : ValueParser
  q = vp.Signed (pos low) (pos high)

  has_number : is_some (matched_of (found_of m) r.id) ≡ true → HasNumber m r.id low high
  has_number has = in_range m r.id q low high (slice_index_or (args_of c) k an_arg).ignore_case refl
      (reads c m p app.top.rules are plain_fields simple free k an_arg takes.below r its_rule takes.set takes.one_value q takes.parser takes.named takes.own takes.unique has)

  -- where it has a default
  pub default_number : 0 < length r.defaults → HasNumber m r.id low high
  default_number some = has_number (by_default c m p app.top.rules are plain_fields simple free k an_arg takes.below r its_rule takes.set takes.one_value q takes.parser takes.named takes.own takes.unique some)

  -- where it is required
  pub required_number : app.top.subcommand_negates_reqs ≡ false → r.required ≡ true → HasNumber m r.id low high
  required_number negates required = has_number (by_requirement c m p app.top.rules are plain_fields simple free k an_arg takes.below r its_rule takes.set takes.one_value q takes.parser takes.named takes.own takes.unique
      (ap (λ (a : App). a.top.subcommand_negates_reqs) is_app ∙ negates) required)
