use Rattle.std.proofs.Common.{◌≡◌, ◌∙◌, ap, Option, subst, sym, true, ℕ}
use Rattle.std.specs.Prelude.{find, IfSome}
use Rattle.q_chains.specs.Lists.{stands}
use Rattle.q_chains.proofs.Numbers.{first_stands, from_first}
use Rattle.q_chains.proofs.Steps.{found_behind, once_in, shorter, still_there}
use Rattle.q_chains.specs.Onward.{from_on}
use Rattle.q_rounds.specs.Listing.{space_in}
use Rattle.q_rounds.proofs.walking.first_fresh.Goals as goal

pub loop-at-init : goal.loop-at-init
loop-at-init c =
    let s = c.args.fresh.now in
    let passes = space_in c.args.sites.now.items c.args.peers.now.items in
    record {
      there = subst (λ (o : Option ℕ). IfSome o (λ n. stands n s.lists ≡ true)) (sym c.first-at.ensures.is) (first_stands c.args.list s.lists);
      rest = ap (λ o. find passes (from_on o s.lists)) c.first-at.ensures.is ∙ ap (find passes) (from_first c.args.list s.lists (once_in s c.first-at.ensures.once));
    }

pub loop-at-smaller : goal.loop-at-smaller
loop-at-smaller c = shorter c.args.fresh.now c.first-at.ensures.once c.in-Some.number c.loop-at.at c.next-at.result c.in-Some.is c.next-at.ensures.is

pub loop-at-preserved : goal.loop-at-preserved
loop-at-preserved c =
    let s = c.args.fresh.now in
    let n = c.in-Some.number in
    let fails = sym c.has_space.ensures ∙ c.if-has_space.false in
    record {
      there = still_there s c.first-at.ensures.once n c.loop-at.at c.next-at.result c.in-Some.is c.next-at.ensures.is;
      rest = found_behind s c.first-at.ensures.once n c.loop-at.at c.next-at.result c.in-Some.is c.next-at.ensures.is (space_in c.args.sites.now.items c.args.peers.now.items) fails ∙ c.loop-at.invariant.rest;
    }
