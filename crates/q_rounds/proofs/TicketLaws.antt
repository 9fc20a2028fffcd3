-- The tickets of peers, as peers come, change and go.
use Rattle.std.proofs.Common.{◌≡◌, ◌∙◌, ap, Bool, cond, false, List, None, Option, option_map, refl, Some, sym, true, ℕ}
use Rattle.std.specs.Prelude.{IfSome, option_and_then}
use Rattle.q_heads.specs.Marks.{with_mark, without}
use Rattle.q_keyed.specs.Numbered.{item_at, Numbered}
use Rattle.q_sorted.specs.declared.ticket.Ticket.{Ticket}
use Rattle.q_rounds.specs.declared.peer.Peer.{Peer}
use Rattle.q_rounds.specs.declared.round.Round.{Round}
use Rattle.q_rounds.specs.Jobs.{round_of}
use Rattle.q_rounds.specs.Listing.{AreTickets, ticket_at, ticket_in, ticket_with}
use Rattle.q_rounds.specs.Rounds.{is_started}
use Rattle.q_rounds.proofs.Entered.{come, go, none_does, StayBut}

-- what a ticket tells of its peer
pub record IsTicket (round : Option ℕ) (number : ℕ) (p : Peer) (e : Ticket) : Type 0 where
  pub started : is_started p ≡ true
  pub of : round ≡ Some e.group
  pub key : e.key ≡ p.last
  pub item : e.item ≡ number

round_step : (round o : Option ℕ) (number : ℕ) (p : Peer) (e : Ticket) → is_started p ≡ true → round ≡ o → option_map (ticket_with p.last number) o ≡ Some e → IsTicket round number p e
round_step round None number p e started is h = absurd cc
round_step round (Some r) number p e started is h =
    let same : ticket_with p.last number r ≡ e = cc in
    record {
      started = started;
      of = is ∙ ap (λ (x : Ticket). Some x.group) same;
      key = ap (λ (x : Ticket). x.key) (sym same);
      item = ap (λ (x : Ticket). x.item) (sym same);
    }

ticket_step : (round : Option ℕ) (number : ℕ) (p : Peer) (e : Ticket) (t : Bool) → is_started p ≡ t → cond t (option_map (ticket_with p.last number) round) None ≡ Some e → IsTicket round number p e
ticket_step round number p e true started h = round_step round round number p e started refl h
ticket_step round number p e false started h = absurd cc

pub ticket_tells : (round : Option ℕ) (number : ℕ) (p : Peer) (e : Ticket) → ticket_in round number p ≡ Some e → IsTicket round number p e
ticket_tells round number p e h = ticket_step round number p e (is_started p) refl h

pub ticket_made : (round : Option ℕ) (number r : ℕ) (p : Peer) → is_started p ≡ true → round ≡ Some r → ticket_in round number p ≡ Some (ticket_with p.last number r)
ticket_made round number r p started is =
    ap (λ t. cond t (option_map (ticket_with p.last number) round) None) started ∙ ap (option_map (ticket_with p.last number)) is

abbrev Names : ℕ → Option Ticket → Type 0
Names n o = IfSome o (λ e. e.item ≡ n)

named_step : (round : Option ℕ) (number : ℕ) (p : Peer) (o : Option Ticket) → ticket_in round number p ≡ o → Names number o
named_step round number p None h = tt
named_step round number p (Some e) h = (ticket_tells round number p e h).item

pub ticket_named : (round : Option ℕ) (number : ℕ) (p : Peer) (o : Option Ticket) → o ≡ ticket_in round number p → IfSome o (λ e. e.item ≡ number)
ticket_named round number p o is = named_step round number p o (sym is)

-- The peer under the number of a ticket.
pub record IsTicketAt (rounds : List (Numbered Round)) (ks : List (Numbered Peer)) (number : ℕ) (e : Ticket) : Type 0 where
  pub peer : Peer
  pub there : item_at number ks ≡ Some peer
  pub ticket : IsTicket (round_of rounds peer) number peer e

at_step : (rounds : List (Numbered Round)) (ks : List (Numbered Peer)) (number : ℕ) (e : Ticket) (o : Option Peer) → item_at number ks ≡ o → option_and_then (λ p. ticket_in (round_of rounds p) number p) o ≡ Some e → IsTicketAt rounds ks number e
at_step rounds ks number e None there h = absurd cc
at_step rounds ks number e (Some p) there h = record { peer = p; there = there; ticket = ticket_tells (round_of rounds p) number p e h }

pub at_tells : (rounds : List (Numbered Round)) (ks : List (Numbered Peer)) (number : ℕ) (e : Ticket) → ticket_at rounds ks number ≡ Some e → IsTicketAt rounds ks number e
at_tells rounds ks number e h = at_step rounds ks number e (item_at number ks) refl h

pub at_is : (rounds : List (Numbered Round)) (ks : List (Numbered Peer)) (number : ℕ) (p : Peer) → item_at number ks ≡ Some p → ticket_at rounds ks number ≡ ticket_in (round_of rounds p) number p
at_is rounds ks number p there = ap (option_and_then (λ p. ticket_in (round_of rounds p) number p)) there

pub at_none : (rounds : List (Numbered Round)) (ks : List (Numbered Peer)) (number : ℕ) → item_at number ks ≡ None → ticket_at rounds ks number ≡ None
at_none rounds ks number none = ap (option_and_then (λ p. ticket_in (round_of rounds p) number p)) none

same_step : (rounds others : List (Numbered Round)) (number : ℕ) (o : Option Peer) → ((q : Peer) → o ≡ Some q → round_of others q ≡ round_of rounds q) →
    option_and_then (λ p. ticket_in (round_of others p) number p) o ≡ option_and_then (λ p. ticket_in (round_of rounds p) number p) o
same_step rounds others number None same = refl
same_step rounds others number (Some q) same = ap (λ r. ticket_in r number q) (same q refl)

-- the ticket stays where the round of its peer does
pub at_same : (rounds others : List (Numbered Round)) (ks ls : List (Numbered Peer)) (number : ℕ) → item_at number ls ≡ item_at number ks → ((q : Peer) → item_at number ks ≡ Some q → round_of others q ≡ round_of rounds q) → ticket_at others ls number ≡ ticket_at rounds ks number
at_same rounds others ks ls number item same =
    ap (option_and_then (λ p. ticket_in (round_of others p) number p)) item ∙ same_step rounds others number (item_at number ks) same

-- One ticket at most comes or goes.
module _ (f g : ℕ → Option Ticket) (xs : List Ticket) (are : AreTickets f xs) (n : ℕ) (stay : StayBut n f g) where
  put_step : (o : Option Ticket) → f n ≡ None → g n ≡ o → Names n o → AreTickets g (with_mark o xs)
  put_step None none is named = none_does f g xs are n stay none is
  put_step (Some e) none is named = come f g xs are n stay e none is named

  pub ticket_put : (o : Option Ticket) → f n ≡ None → o ≡ g n → IfSome o (λ e. e.item ≡ n) → AreTickets g (with_mark o xs)
  ticket_put o none is named = put_step o none (sym is) named

  take_step : (o : Option Ticket) → f n ≡ o → g n ≡ None → Names n o → AreTickets g (without o xs)
  take_step None is none named = none_does f g xs are n stay is none
  take_step (Some e) is none named = go f g xs are n stay e is none named

  pub ticket_taken : (o : Option Ticket) → o ≡ f n → g n ≡ None → IfSome o (λ e. e.item ≡ n) → AreTickets g (without o xs)
  ticket_taken o is none named = take_step o (sym is) none named

pub if_some : (o : Option Ticket) (P : Type 0) → P → IfSome o (λ e. P)
if_some None P h = tt
if_some (Some e) P h = h
