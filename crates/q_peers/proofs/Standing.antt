-- What calls tell of rows that are kept soundly.
use Rattle.std.proofs.Common.{◌≡◌, ◌∙◌, ◌∷◌, ◌%◌, ◌<◌, ◌≤◌, [], ap, arith, Bool, cond, false, get_or, length, List, None, Option, refl, Some, sym, true, ℕ}
use Rattle.std.specs.Option.{is_some}
use Rattle.std.specs.Prelude.{find}
use Rattle.q_chains.specs.Lists.{behind, first_of, is_in, list_with, Lists, StandOnce, stands}
use Rattle.q_model.specs.declared.rows.Row.{Row}
use Rattle.q_peers.specs.Numbered.{any_row, AreApart, first_such, next_such, row_at}
use Rattle.q_chains.specs.Onward.{after, from_on}
use Rattle.q_chains.specs.Slots.{is_in_bucket, passes, passes_in}
use Rattle.q_peers.specs.Slots.{items_of}
use Rattle.q_peers.specs.Sound.{AreFiled, IsSound}
use Rattle.q_peers.proofs.Filed.{first_filed, in_filed, next_filed}
use Rattle.q_peers.proofs.Items.{apart_items, count_items, first_item, next_item, next_none, row_item}
use Rattle.q_chains.proofs.Numbers.{behind_is, head_in, in_after, list_is, once_at, own_test, stands_in}
use Rattle.q_chains.proofs.Steps.{once_in}

any_step : (o : Option Row) → true ≡ is_some o → passes_in any_row o ≡ true
any_step None h = cc
any_step (Some r) h = refl

-- where each number has a row, the first number has the first row
first_any : (rows : List (Option Row)) (ns : List ℕ) → ((n : ℕ) → is_in n ns ≡ true → true ≡ is_some (get_or rows n None)) → find (passes any_row rows) ns ≡ first_of ns
first_any rows [] h = refl
first_any rows (n ∷ ns) h = ap (λ t. cond t (Some n) (find (passes any_row rows) ns)) (any_step (get_or rows n None) (h n (head_in n ns)))

module _ (rows : List (Option Row)) (order peers sites : Lists) (live room : ℕ) (sound : IsSound rows order peers sites live room) where
  abbrev ns : List ℕ
  ns = get_or order.lists 0 []

  pub held : (n : ℕ) → is_in n ns ≡ true → true ≡ is_some (get_or rows n None)
  held n h = sym h ∙ sound.filled n

  pub is_held : (n : ℕ) (r : Row) → get_or rows n None ≡ Some r → is_in n ns ≡ true
  is_held n r h = sound.filled n ∙ ap is_some h

  pub count : length (items_of rows ns) ≡ length ns
  count = count_items rows ns held

  pub within : length (items_of rows ns) ≤ room
  within = let few = count in omega (arith, few, sound.all)

  pub row : (n : ℕ) → row_at n (items_of rows ns) ≡ get_or rows n None
  row n = row_item n rows ns (sound.filled n)

  pub apart : StandOnce order → AreApart (items_of rows ns)
  apart once = apart_items rows ns (once_at 0 order.lists (once_in order once))

  pub first_row : first_such any_row (items_of rows ns) ≡ first_of ns
  first_row = first_item any_row rows ns ∙ first_any rows ns held

  pub stands_held : (n : ℕ) (r : Row) → get_or rows n None ≡ Some r → stands n order.lists ≡ true
  stands_held n r h = stands_in n 0 order.lists (is_held n r h)

  pub next_row : StandOnce order → (n : ℕ) (r : Row) → get_or rows n None ≡ Some r → next_such (λ r. any_row) n (items_of rows ns) ≡ behind n (list_with n order.lists)
  next_row once n r h =
      next_item (λ r. any_row) rows n r ns h
      ∙ first_any rows (after n ns) (λ m k. held m (in_after m n ns k))
      ∙ sym (behind_is n ns)
      ∙ ap (behind n) (sym (list_is n 0 order.lists (once_in order once) (is_held n r h)))

  -- no row has the number
  pub no_row : (like : Row → Row → Bool) (n : ℕ) → get_or rows n None ≡ None → next_such like n (items_of rows ns) ≡ None
  no_row like n h = next_none like rows n ns h

  -- In buckets by a key: those of messages at sites, or of sites.
  module _ (key : Row → ℕ) (buckets : Lists) (filed : AreFiled key rows ns room buckets) (once : StandOnce buckets) where
    -- a walk from the first number of the bucket on
    pub first_in_bucket : (b : ℕ) (p : Row → Bool) → b < room → ((r : Row) → p r ≡ true → is_in_bucket key room b r ≡ true) →
        find (passes p rows) (from_on (first_of (get_or buckets.lists b [])) buckets.lists) ≡ first_such p (items_of rows ns)
    first_in_bucket b p few only = first_filed key rows ns room buckets filed b p (once_in buckets once) few only ∙ sym (first_item p rows ns)

    own_bucket : (n : ℕ) (r : Row) → get_or rows n None ≡ Some r → passes (is_in_bucket key room (key r % room)) rows n ≡ true
    own_bucket n r h = ap (passes_in (is_in_bucket key room (key r % room))) h ∙ own_test (key r % room)

    pub stands_filed : (n : ℕ) (r : Row) → get_or rows n None ≡ Some r → key r % room < room → stands n buckets.lists ≡ true
    stands_filed n r h few =
        stands_in n (key r % room) buckets.lists
        (in_filed key rows ns room buckets filed (key r % room) (λ q. false) (once_in buckets once) few (λ q k. cc) n (is_held n r h) (own_bucket n r h))

    -- a walk from the number behind one on
    pub next_in_bucket : (like : Row → Row → Bool) (n : ℕ) (r : Row) → get_or rows n None ≡ Some r → key r % room < room → ((q : Row) → like r q ≡ true → is_in_bucket key room (key r % room) q ≡ true) →
        find (passes (like r) rows) (from_on (behind n (list_with n buckets.lists)) buckets.lists) ≡ next_such like n (items_of rows ns)
    next_in_bucket like n r h few only =
        next_filed key rows ns room buckets filed (key r % room) (like r) (once_in buckets once) few only n (is_held n r h) (own_bucket n r h)
        ∙ sym (next_item like rows n r ns h)
