-- A table held in pieces, its messages as words: the state that it is.
use Rattle.std.specs.Prelude.{ℕ, List}
use Rattle.model.specs.Counts.{no_counts}
use Rattle.model.specs.State.{State, counts_of, view}
use Rattle.model.specs.declared.Limits.{Limits}
use Rattle.model.specs.declared.Node.{Node}
use Rattle.model.specs.declared.Table.{Table}
use Rattle.packed.specs.Packed.{held, queue}

-- n nodes with the limits l, whose records are the first of cs, w messages, which are the first of the words ws, and the counts of what was sent, delivered and lost
abbrev pub whole : ℕ → Limits → List Node → List ℕ → ℕ → List ℕ → List ℕ → List ℕ → Table
whole n l cs ws w sent delivered lost =
    record { n = n; limits = l; nodes = cs; messages = held ws; waiting = w; sent = sent; delivered = delivered; lost = lost }

-- its state
abbrev pub seen : ℕ → Limits → List Node → List ℕ → ℕ → List ℕ → List ℕ → List ℕ → State
seen n l cs ws w sent delivered lost = view (whole n l cs ws w sent delivered lost)

-- the state where all that was sent still waits, so that no counts are held beside it
abbrev pub seen_waiting : ℕ → Limits → List Node → List ℕ → ℕ → State
seen_waiting n l cs ws w = seen n l cs ws w (counts_of (queue ws w)) no_counts no_counts
