-- What `whole_round` promises: as many turns as the round has pairs, and the part of T-09's claim that a user cites for the table that comes out.
use Rattle.std.specs.Prelude.{ℕ, ◌+◌, ◌-◌, ◌<◌, true, ◌≡◌, ◌++◌, drop, replicate}
use Rattle.model.specs.Counts.{count_at}
use Rattle.model.specs.State.{waits, view}
use Rattle.model.specs.declared.Table.{Table}
use Rattle.round.specs.Order.{round_size}
use Rattle.round.specs.Schedule.{turn, drive, pair_queue, out_in, came_in_by}
use Rattle.round.specs.Claims.{AtPair}
use Rattle.round.specs.declared.Place.{Place}
use Rattle.driver.specs.Scheduled.{Scheduled}

-- from the table t and the place p, for any table and place, to the table u
pub record Rounded (t : Table) (p : Place) (u : Table) : Type 0 where
  -- as many turns as the round has pairs, and nothing else
  pub next : Place
  pub turned : Scheduled t p (replicate (round_size t.n) turn) u next
  -- so the oldest message of each pair that had one is gone: all that wait of the pair stood after it, or came in since
  pub oldest_gone : AtPair (view t) p → (a b : ℕ) → waits a b (view t).queue ≡ true
      → pair_queue (view u).queue a b
      ≡ drop (out_in a b (drive (view t) p) (replicate (round_size t.n) turn) - 1) (drop 1 (pair_queue (view t).queue a b) ++ came_in_by a b (drive (view t) p) (replicate (round_size t.n) turn))
  -- and by the table's own counts at least one of the pair was delivered or lost
  pub counted : AtPair (view t) p → (a b : ℕ) → waits a b (view t).queue ≡ true
      → count_at t.delivered a b + count_at t.lost a b < count_at u.delivered a b + count_at u.lost a b
