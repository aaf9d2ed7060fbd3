-- `whole_round` meets its contract: so many turns are made, one after another.
use lib.ListN.{replicate}
use Rattle.round.specs.Schedule.{turn}
use Rattle.driver.specs.Scheduled.{Scheduled}
use Rattle.client.proofs.turns.whole_round.Given as goal

abbrev pub invariant-loop : goal.invariant-loop
invariant-loop l = Scheduled l.initial.u l.initial.q (replicate l.counter turn) l.u l.q
