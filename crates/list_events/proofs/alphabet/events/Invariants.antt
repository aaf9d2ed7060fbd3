-- `list_events::alphabet::events` meets its contract. The invariant: the events before i stand in their places.
use Rattle.std.proofs.Common.{◌≡◌, ℕ, ◌<◌, ◌≤◌, length, get_or}
use Rattle.model.specs.declared.Event.TheVariants.{Crash}
use Rattle.list_events.specs.Events.{size_of, event_at}
use Rattle.list_events.proofs.alphabet.events.Given as goal

abbrev pub invariant-loop-i : goal.invariant-loop-i
invariant-loop-i l = (length l.es ≡ 33) × (l.i-end ≡ size_of l.n) × (l.i-end ≤ 33) × ((j : ℕ) → j < l.i → get_or l.es j (Crash 0) ≡ event_at l.n j)
