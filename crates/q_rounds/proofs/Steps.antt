-- What always holds still holds after each call.
use Rattle.std.proofs.Common.{◌≡◌, ◌≢◌, ◌∙◌, ◌∷◌, ◌++◌, ◌+◌, ◌-◌, ◌<◌, ◌≤◌, [], ap, arith, Bool, cond, false, inl, inr, length, List, map, None, Option, refl, Some, subst, sym, true, ℕ}
use Rattle.std.proofs.lemmas.Bool.{cases_eq}
use Rattle.std.specs.Option.{is_some}
use Rattle.std.specs.Prelude.{find, IfSome}
use Rattle.q_chains.specs.Lists.{Lists, without}
use Rattle.q_heads.specs.Marks.{with_mark}
use Rattle.q_heads.specs.Marks.{without as taken}
use Rattle.q_keyed.specs.Numbered.{AreApart, has_number, item_at, Items, Numbered, put_at, values_of, without_number}
use Rattle.q_model.specs.declared.id.Id.{Id}
use Rattle.q_model.specs.Values.{Site}
use Rattle.q_sorted.specs.declared.ticket.Ticket.{Ticket}
use Rattle.q_sorted.specs.Tickets.{Rises, Tickets}
use Rattle.q_rounds.specs.declared.peer.Peer.{Peer}
use Rattle.q_rounds.specs.declared.round.Round.{Round}
use Rattle.q_rounds.specs.Changing.{IsOfSame}
use Rattle.q_rounds.specs.Jobs.{AreRounds, HasSet, one_passed, round_of, rows_in, rows_of, same_job, total}
use Rattle.q_rounds.specs.Listing.{AreTickets, enlisted, is_list, list_in, list_of, ticket_at, ticket_in}
use Rattle.q_rounds.specs.Rounds.{has_last, is_started, rows_left}
use Rattle.q_rounds.specs.Sound.{IsFit, IsSound}
use Rattle.q_rounds.proofs.Entered.{alike, fewer_tickets, most_tickets}
use Rattle.q_rounds.proofs.ItemSets.{fit_less, fit_set, free_item, less_is, less_was, more_is, put_is, starts_kept, starts_less, starts_set}
use Rattle.q_rounds.proofs.ListLaws.{listed_alike, listed_come, listed_go, listed_gone, listed_kept, listed_left, listed_same}
use Rattle.q_rounds.proofs.RoundSets.{job_parts}
use Rattle.q_rounds.proofs.RoundRows.{other_rows, own_rows, part_rows, round_below, rounds_set, stays}
use Rattle.q_rounds.proofs.Splits.{one}
use Rattle.q_rounds.proofs.Totals.{rows_total, total_left, total_more, total_part, total_put}
use Rattle.q_rounds.proofs.TicketLaws.{at_is, at_none, at_same, at_tells, ticket_named, ticket_put, ticket_taken}

pub sound_from : (p q : Items Peer) (r s : Items Round) (f g : Lists) (t u : Tickets) (n : ℕ) → q ≡ p → s ≡ r → g ≡ f → u ≡ t → IsSound p r f t n → IsSound q s g u n
sound_from p q r s f g t u n peers rounds fresh tickets sound =
    subst (λ v. IsSound v s g u n) (sym peers) (subst (λ v. IsSound p v g u n) (sym rounds) (subst (λ v. IsSound p r v u n) (sym fresh) (subst (λ v. IsSound p r f v n) (sym tickets) sound)))

module _ (peers : Items Peer) (rounds : Items Round) (fresh : Lists) (tickets : Tickets) (passed : ℕ) (sound : IsSound peers rounds fresh tickets passed) (apart : AreApart peers.items) where
  abbrev ks : List (Numbered Peer)
  ks = peers.items

  abbrev rs : List (Numbered Round)
  rs = rounds.items

  rows_some : (m : ℕ) (q : Peer) → item_at m ks ≡ Some q → 1 ≤ rows_left q.id q.site.transport (values_of ks)
  rows_some m q h = omega (arith, part_rows m q ks apart h, (sound.fit m q h).some)

  -- as many rows as before, but for those of one peer that changes
  pub rows_counted : (i : Id) (t : ℕ) → rows_in i t rs ≡ total (rows_of i t) (values_of ks)
  rows_counted i t = sound.counted.rows i t ∙ rows_total i t (values_of ks)

  pub few_tickets : Rises tickets.items → length tickets.items ≤ length ks
  few_tickets rising = most_tickets (ticket_at rs ks) tickets.items ks sound.placed rising (λ m e h. ap is_some (at_tells rs ks m e h).there)

  -- The rounds after the rows of a peer's job were set.
  module _ (p : Peer) (rows : ℕ) (new : List (Numbered Round)) (set : HasSet p.id p.site.transport rows rounds.room rs new) where
    same_round : (m : ℕ) (q : Peer) → item_at m ks ≡ Some q → (same_job p.id p.site.transport q.id q.site.transport ≡ true → 1 ≤ rows) → round_of new q ≡ round_of rs q
    same_round m q h some =
        stays p.id p.site.transport rows rounds.room rs new (values_of ks) (values_of ks) sound.counted set q.id q.site.transport (rows_some m q h) some

    same_list : (m : ℕ) (q : Peer) → item_at m ks ≡ Some q → (same_job p.id p.site.transport q.id q.site.transport ≡ true → 1 ≤ rows) → list_of new q ≡ list_of rs q
    same_list m q h some = ap (λ o. list_in o q) (same_round m q h some)

    counted_by : (qs : List Peer) (was is : (i : Id) (t : ℕ) → ℕ) → ((i : Id) (t : ℕ) → total (rows_of i t) qs + was i t ≡ total (rows_of i t) (values_of ks) + is i t) →
        ((i : Id) (t : ℕ) → same_job p.id p.site.transport i t ≡ false → was i t ≡ is i t) → rows + was p.id p.site.transport ≡ rows_in p.id p.site.transport rs + is p.id p.site.transport → AreRounds rounds.room new qs
    counted_by qs was is sums same own =
        rounds_set p.id p.site.transport rows rounds.room rs new (values_of ks) qs sound.counted set
        (omega (arith, own, sums p.id p.site.transport, rows_counted p.id p.site.transport, rows_total p.id p.site.transport qs))
        (λ i t other. omega (arith, same i t other, sums i t, rows_total i t qs, rows_total i t (values_of ks)))

    -- A peer comes.
    module _ (n : ℕ) (free : find (has_number n) ks ≡ None) (fit : IsFit peers.room n p) (one_row : p.waiting ≡ 1) (unpassed : p.passed ≡ false) (own : find (has_last p.last) (values_of ks) ≡ None) (count : rows ≡ rows_in p.id p.site.transport rs - 0 + 1) where
      abbrev more : List (Numbered Peer)
      more = ks ++ one n p ∷ []

      come_counted : AreRounds rounds.room new (values_of more)
      come_counted =
          counted_by (values_of more) (λ i t. 0) (λ i t. rows_of i t p)
          (λ i t. omega (arith, total_more (rows_of i t) n p ks))
          (λ i t other. sym (other_rows i t p other))
          (omega (arith, count, own_rows p, one_row))

      come_same : (m : ℕ) (q : Peer) → item_at m ks ≡ Some q → round_of new q ≡ round_of rs q
      come_same m q h = same_round m q h (λ _. omega (arith, count))

      come_placed : (m : ℕ) → m ≢ n → ticket_at new more m ≡ ticket_at rs ks m
      come_placed m other = at_same rs new ks more m ((more_is n p ks free).others m other) (λ q h. come_same m q h)

      come_ticket : ticket_at new more n ≡ ticket_in (round_of new p) n p
      come_ticket = at_is new more n p (more_is n p ks free).own

      one_none : one_passed p ≡ 0
      one_none = ap (λ b. cond b 1 0) unpassed

      -- its list is one of those that there are
      low_step : AreApart new → (s : Bool) (r : Option ℕ) → round_of new p ≡ r → IfSome (cond s None r) (λ b. b < peers.room)
      low_step rapart true r is = tt
      low_step rapart false None is = tt
      low_step rapart false (Some b) is =
          subst (λ m. b < m) sound.round_room (round_below rounds.room new (values_of more) p.id p.site.transport b rapart come_counted is)

      pub come_low : AreApart new → (o : Option ℕ) → o ≡ list_in (round_of new p) p → IfSome o (λ b. b < peers.room)
      come_low rapart o is = subst (λ (x : Option ℕ). IfSome x (λ b. b < peers.room)) (sym is) (low_step rapart (is_started p) (round_of new p) refl)

      pub sound_come : AreApart new → (o : Option ℕ) (e : Option Ticket) → o ≡ list_in (round_of new p) p → e ≡ ticket_in (round_of new p) n p → IsSound (record peers { items = more }) (record rounds { items = new }) (record fresh { lists = enlisted o n fresh.lists }) (record tickets { items = with_mark e tickets.items }) passed
      sound_come rapart o e o_is e_is = record {
        fit = fit_set peers.room n p ks more (more_is n p ks free) fit sound.fit;
        starts = starts_set n p ks more (more_is n p ks free) own sound.starts;
        counted = come_counted;
        listed = listed_come (list_of new) ks peers.room fresh
            (listed_same (list_of rs) ks peers.room fresh sound.listed (list_of new) ks (λ b. listed_alike (list_of rs) b (list_of new) ks apart (λ m q h. ap (λ r. list_in r q) (come_same m q h))))
            n p o o_is (come_low rapart o o_is);
        placed = ticket_put (ticket_at rs ks) (ticket_at new more) tickets.items sound.placed n come_placed e (at_none rs ks n (free_item n ks free)) (e_is ∙ sym come_ticket) (ticket_named (round_of new p) n p e e_is);
        passes = omega (arith, sound.passes, total_more one_passed n p ks, one_none);
        round_room = sound.round_room;
        ticket_room = sound.ticket_room;
      }

    -- Another number of rows waits for a peer.
    module _ (n : ℕ) (x : Peer) (there : item_at n ks ≡ Some p) (fit : IsFit peers.room n x) (same : IsOfSame p x) (count : rows ≡ rows_in p.id p.site.transport rs - p.waiting + x.waiting) where
      abbrev put : List (Numbered Peer)
      put = map (put_at n x) ks

      left_rows : p.waiting ≤ rows_in p.id p.site.transport rs
      left_rows = omega (arith, part_rows n p ks apart there, sound.counted.rows p.id p.site.transport)

      same_rows : (i : Id) (t : ℕ) → same_job x.id x.site.transport i t ≡ same_job p.id p.site.transport i t
      same_rows i t = ap (λ j. same_job j x.site.transport i t) same.id ∙ ap (λ (s : Site). same_job p.id s.transport i t) same.site

      x_rows : rows_of p.id p.site.transport x ≡ x.waiting
      x_rows = ap (λ j. rows_of j p.site.transport x) (sym same.id) ∙ ap (λ (s : Site). rows_of x.id s.transport x) (sym same.site) ∙ own_rows x

      rows_counts : AreRounds rounds.room new (values_of put)
      rows_counts =
          counted_by (values_of put) (λ i t. rows_of i t p) (λ i t. rows_of i t x)
          (λ i t. total_put (rows_of i t) n p ks apart there x)
          (λ i t other. other_rows i t p other ∙ sym (other_rows i t x (same_rows i t ∙ other)))
          (omega (arith, count, left_rows, own_rows p, x_rows))

      rows_same : (m : ℕ) (q : Peer) → item_at m ks ≡ Some q → round_of new q ≡ round_of rs q
      rows_same m q h = same_round m q h (λ _. omega (arith, count, fit.some))

      x_round : round_of new x ≡ round_of new p
      x_round = ap (λ j. round_of new (record x { id = j })) same.id ∙ ap (λ s. round_of new (record p { site = s })) same.site

      x_list : list_of new x ≡ list_of new p
      x_list = ap (λ r. list_in r x) x_round ∙ ap (λ l. list_in (round_of new p) (record p { last = l })) same.last

      x_ticket : ticket_in (round_of new x) n x ≡ ticket_in (round_of rs p) n p
      x_ticket = ap (λ r. ticket_in r n x) (x_round ∙ rows_same n p there) ∙ ap (λ l. ticket_in (round_of rs p) n (record p { last = l })) same.last

      rows_ticket : (m : ℕ) → ticket_at new put m ≡ ticket_at rs ks m
      rows_ticket m = elim (cases_eq m n) [
        | inl own ↦
            ap (ticket_at new put) own ∙ at_is new put n x (put_is n p x ks there).own ∙ x_ticket ∙ sym (at_is rs ks n p there) ∙ ap (ticket_at rs ks) (sym own)
        | inr other ↦ at_same rs new ks put m ((put_is n p x ks there).others m other) (λ q h. rows_same m q h)
      ]

      pub sound_rows : (now : ℕ) → now ≡ passed - one_passed p + one_passed x → IsSound (record peers { items = put }) (record rounds { items = new }) fresh tickets now
      sound_rows now is = record {
        fit = fit_set peers.room n x ks put (put_is n p x ks there) fit sound.fit;
        starts = starts_kept n p x ks put (put_is n p x ks there) there same.last sound.starts;
        counted = rows_counts;
        listed = listed_same (list_of rs) ks peers.room fresh sound.listed (list_of new) put
            (λ b. listed_kept (list_of new) b n p x ks apart there x_list ∙ listed_alike (list_of rs) b (list_of new) ks apart (λ m q h. ap (λ r. list_in r q) (rows_same m q h)));
        placed = alike (ticket_at rs ks) (ticket_at new put) tickets.items sound.placed rows_ticket;
        passes = omega (arith, is, sound.passes, total_put one_passed n p ks apart there x, total_part one_passed n p ks apart there);
        round_room = sound.round_room;
        ticket_room = sound.ticket_room;
      }

    -- A peer goes.
    module _ (n : ℕ) (e : Option Ticket) (there : item_at n ks ≡ Some p) (count : rows ≡ rows_in p.id p.site.transport rs - p.waiting + 0) (e_is : e ≡ ticket_in (round_of rs p) n p) (still : AreApart (without_number n ks)) where
      abbrev left : List (Numbered Peer)
      left = without_number n ks

      less_rows : p.waiting ≤ rows_in p.id p.site.transport rs
      less_rows = omega (arith, part_rows n p ks apart there, sound.counted.rows p.id p.site.transport)

      left_counted : AreRounds rounds.room new (values_of left)
      left_counted =
          counted_by (values_of left) (λ i t. rows_of i t p) (λ i t. 0)
          (λ i t. omega (arith, total_left (rows_of i t) n p ks apart there))
          (λ i t other. other_rows i t p other)
          (omega (arith, count, less_rows, own_rows p))

      -- one that stays at the transport has rows there
      left_some : (m : ℕ) (q : Peer) → item_at m left ≡ Some q → same_job p.id p.site.transport q.id q.site.transport ≡ true → 1 ≤ rows
      left_some m q h job =
          let was = less_was n ks left m q (less_is n ks) h in
          let part = part_rows m q left still h in
          let parts = job_parts p.id p.site.transport q.id q.site.transport job in
          let rows_are : rows_left q.id q.site.transport (values_of left) ≡ rows_left p.id p.site.transport (values_of left) =
          ap (λ j. rows_left j q.site.transport (values_of left)) (sym parts.0) ∙ ap (λ t. rows_left p.id t (values_of left)) (sym parts.1)
          in
          omega (arith, part, (sound.fit m q was.1).some, rows_are, rows_total p.id p.site.transport (values_of left), total_left (rows_of p.id p.site.transport) n p ks apart there, own_rows p, rows_counted p.id p.site.transport, count)

      left_same : (m : ℕ) (q : Peer) → item_at m left ≡ Some q → round_of new q ≡ round_of rs q
      left_same m q h = same_round m q (less_was n ks left m q (less_is n ks) h).1 (left_some m q h)

      left_ticket : (m : ℕ) → m ≢ n → ticket_at new left m ≡ ticket_at rs ks m
      left_ticket m other =
          at_same rs new left left m refl (λ q h. left_same m q h) ∙ at_same rs rs ks left m ((less_is n ks).others m other) (λ q h. refl)

      pub sound_less : (now : ℕ) → now ≡ passed - one_passed p + 0 → IsSound (record peers { items = left }) (record rounds { items = new }) (record fresh { lists = map (without n) fresh.lists }) (record tickets { items = taken e tickets.items }) now
      sound_less now is = record {
        fit = fit_less peers.room n ks left (less_is n ks) sound.fit;
        starts = starts_less n ks left (less_is n ks) sound.starts;
        counted = left_counted;
        listed = listed_go (list_of rs) ks peers.room fresh sound.listed (list_of new) n left
            (λ b. listed_alike (list_of rs) b (list_of new) left still (λ m q h. ap (λ r. list_in r q) (left_same m q h)) ∙ listed_left (list_of rs) b n ks);
        placed = ticket_taken (ticket_at rs ks) (ticket_at new left) tickets.items sound.placed n left_ticket e (e_is ∙ sym (at_is rs ks n p there)) (at_none new left n (less_is n ks).own) (ticket_named (round_of rs p) n p e e_is);
        passes = omega (arith, is, sound.passes, total_left one_passed n p ks apart there);
        round_room = sound.round_room;
        ticket_room = sound.ticket_room;
      }

  -- A peer is sent to.
  module _ (n : ℕ) (p x : Peer) (there : item_at n ks ≡ Some p) (fit : IsFit peers.room n x) (id : x.id ≡ p.id) (site : x.site ≡ p.site) (rows : x.waiting ≡ p.waiting) (own : find (has_last x.last) (values_of ks) ≡ None) (started : is_started x ≡ true) (e d : Option Ticket)
      (e_is : e ≡ ticket_in (round_of rs p) n p) (d_is : d ≡ ticket_in (round_of rs p) n x) where
    abbrev sent : List (Numbered Peer)
    sent = map (put_at n x) ks

    rows_alike : (i : Id) (t : ℕ) → rows_of i t x ≡ rows_of i t p
    rows_alike i t = ap (λ j. rows_of i t (record x { id = j })) id ∙ ap (λ s. rows_of i t (record p { site = s; waiting = x.waiting })) site ∙ ap (λ w. rows_of i t (record p { waiting = w })) rows

    sent_rows : (i : Id) (t : ℕ) → rows_left i t (values_of sent) ≡ rows_left i t (values_of ks)
    sent_rows i t = omega (arith, rows_total i t (values_of sent), rows_total i t (values_of ks), total_put (rows_of i t) n p ks apart there x, rows_alike i t)

    no_list : list_of rs x ≡ None
    no_list = ap (λ t. cond t None (round_of rs x)) started

    same_as : round_of rs x ≡ round_of rs p
    same_as = ap (λ j. round_of rs (record x { id = j })) id ∙ ap (λ s. round_of rs (record p { site = s })) site

    taken_ticket : (m : ℕ) → m ≢ n → ticket_at rs (without_number n ks) m ≡ ticket_at rs ks m
    taken_ticket m other = at_same rs rs ks (without_number n ks) m ((less_is n ks).others m other) (λ q h. refl)

    sent_ticket : (m : ℕ) → m ≢ n → ticket_at rs sent m ≡ ticket_at rs (without_number n ks) m
    sent_ticket m other = at_same rs rs (without_number n ks) sent m ((put_is n p x ks there).others m other ∙ sym ((less_is n ks).others m other)) (λ q h. refl)

    own_gone : ticket_at rs (without_number n ks) n ≡ None
    own_gone = at_none rs (without_number n ks) n (less_is n ks).own

    placed_between : AreTickets (ticket_at rs (without_number n ks)) (taken e tickets.items)
    placed_between =
        ticket_taken (ticket_at rs ks) (ticket_at rs (without_number n ks)) tickets.items sound.placed n taken_ticket e (e_is ∙ sym (at_is rs ks n p there)) own_gone (ticket_named (round_of rs p) n p e e_is)

    -- the ticket has room
    pub few_between : Rises (taken e tickets.items) → length (taken e tickets.items) < length ks
    few_between rising =
        fewer_tickets (ticket_at rs (without_number n ks)) (taken e tickets.items) ks n placed_between rising
        (λ m f h. let at = at_tells rs (without_number n ks) m f h in ap is_some (less_was n ks (without_number n ks) m at.peer (less_is n ks) at.there).1) own_gone (ap is_some there)

    d_named : IfSome d (λ f. f.item ≡ n)
    d_named = ticket_named (round_of rs p) n x d d_is

    pub sound_sent : (now : ℕ) → now ≡ passed - one_passed p + one_passed x → IsSound (record peers { items = sent }) rounds (record fresh { lists = map (without n) fresh.lists }) (record tickets { items = with_mark d (taken e tickets.items) }) now
    sound_sent now is = record {
      fit = fit_set peers.room n x ks sent (put_is n p x ks there) fit sound.fit;
      starts = starts_set n x ks sent (put_is n p x ks there) own sound.starts;
      counted = record { rows = λ i t. sound.counted.rows i t ∙ sym (sent_rows i t); each = sound.counted.each };
      listed = listed_go (list_of rs) ks peers.room fresh sound.listed (list_of rs) n sent (λ b. listed_gone (list_of rs) b n x ks (ap (is_list b) no_list));
      placed = ticket_put (ticket_at rs (without_number n ks)) (ticket_at rs sent) (taken e tickets.items) placed_between n sent_ticket d own_gone
          (d_is ∙ ap (λ r. ticket_in r n x) (sym same_as) ∙ sym (at_is rs sent n x (put_is n p x ks there).own)) d_named;
      passes = omega (arith, is, sound.passes, total_put one_passed n p ks apart there x, total_part one_passed n p ks apart there);
      round_room = sound.round_room;
      ticket_room = sound.ticket_room;
    }
