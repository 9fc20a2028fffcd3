use Rattle.q_inflation.specs.Bounds.{IsBounded, IsFirstAtNoCost}
use Rattle.q_lives.specs.Lives.{IsOrderly}
use Rattle.q_replay.proofs.Delays.{each_moment}
use Rattle.q_replay.proofs.Spools.{first_orderly, ran_lives}
use Rattle.q_replay.proofs.promises.promises_hold.Goals as goal

pub returns : goal.returns
returns g c = λ b h cs stands is_so are.
    let orderly : IsOrderly b = record { distinct = stands.reads.distinct; orderly = is_so } in
    let ran = ran_lives g.H.Host.view b h cs stands orderly are in
    let good = first_orderly b ran.first orderly ran.begins in
    record {
      first = ran.first;
      begins = ran.begins;
      lives = ran.lives;
      are = ran.are;
      told = ran.told;
      left = ran.left;
      promises = record {
        limits = c.limits_are_kept.ensures ran.first ran.lives good ran.are;
        windows = c.windows_are_kept.ensures ran.first ran.lives good ran.are;
        apart = c.deliveries_keep_apart.ensures ran.first ran.lives good ran.are;
        one_by_one = c.deliveries_go_one_by_one.ensures ran.first ran.lives good ran.are;
        accounts = c.accounts_are_kept.ensures ran.first ran.lives good ran.are;
        done = c.done_has_cause.ensures ran.first ran.lives good ran.are;
        repeats = c.repeats_unsynced.ensures ran.first ran.lives good ran.are;
        stands = c.stands_once_or_left.ensures ran.first ran.lives good ran.are;
        leaves_done = c.leaves_done.ensures ran.first ran.lives good ran.are;
        bounced = c.bounced_once.ensures ran.first ran.lives good ran.are;
        bounced_once = c.bounced_at_most_once.ensures ran.first ran.lives good ran.are;
        delayed = each_moment IsBounded c.inflation_is_bounded.ensures ran.first ran.lives good ran.are;
        undelayed = each_moment IsFirstAtNoCost c.none_at_no_cost.ensures ran.first ran.lives good ran.are;
        lawful = c.stays_lawful.ensures ran.first ran.lives good ran.are;
      };
    }
