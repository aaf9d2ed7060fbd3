-- Ground 1, of one node's record. 02: "a number or set beyond its range, a holder in its own Up or call, or one that does not run but is not Down and idle". State puts
-- the records together.
use Rattle.std.specs.Prelude.{ℕ, Bool, true, not, ◌&&◌, ◌||◌, eqb, leb, ltb}
use Rattle.model.specs.Limits.{task_end}
use Rattle.model.specs.Node.{is_down}
use Rattle.model.specs.Range.{is_other, is_set_of_others}
use Rattle.bully_model.specs.Node.{is_idle}
use Rattle.bully_model.specs.declared.Place.{Place}
use Rattle.bully_model.specs.declared.Place.TheVariants.{Idle, Asking, Halting, Announcing, Point, Handing, Checking, Contacting}
use Rattle.bully_model.specs.declared.Node.{Node}

-- A place of node i. Whom it asks is above it and whom it halts below it, as the appendix's loops count; whom it calls else is another node, or, contacting, its coordinator, which
-- may be 0.
unfoldable pub place_in_range : ℕ → ℕ → ℕ → Place → Bool
place_in_range n i coordinator Idle = true
-- "FOR j := i + 1, i + 2, …, n − 1, n"
place_in_range n i coordinator (Asking j) = ltb i j && leb j n
-- "FOR j := i − 1, i − 2, …, 2, 1"
place_in_range n i coordinator (Halting j) = leb 1 j && ltb j i
place_in_range n i coordinator (Announcing still j) = is_set_of_others n i still && is_other n i j
place_in_range n i coordinator Point = true
place_in_range n i coordinator (Handing still j) = is_set_of_others n i still && is_other n i j
place_in_range n i coordinator (Checking j) = is_other n i j
place_in_range n i coordinator Contacting = not (eqb coordinator i)

-- 02: "one that does not run but is not Down and idle" is not in range
abbrev pub rests_unless_runs : Node → Bool
rests_unless_runs c = c.runs || (is_down c.status && is_idle c.place)

-- the record of node i; coordinator and last halter are 0 for none
unfoldable pub node_in_range : ℕ → ℕ → Node → Bool
node_in_range n i c =
    leb c.coordinator n
    && leb c.task.number task_end
    && leb c.halter n
    && is_set_of_others n i c.up
    && rests_unless_runs c
    && place_in_range n i c.coordinator c.place
