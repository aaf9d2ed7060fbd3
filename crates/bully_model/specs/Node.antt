-- One node (02: cabinet): tests of its place, and its record with a field set. The appendix's state vector S(i) is the record of node i: s is the status, c the
-- coordinator, d the task, h the last halter, Up the set up. In the definitions c and d are records.
use Rattle.std.specs.Prelude.{ℕ, Bool, true, false}
use Rattle.model.specs.declared.Status.{Status}
use Rattle.model.specs.declared.TaskNo.{TaskNo}
use Rattle.bully_model.specs.declared.Place.{Place}
use Rattle.bully_model.specs.declared.Place.TheVariants.{Idle, Asking, Halting, Announcing, Point, Handing, Checking, Contacting}
use Rattle.bully_model.specs.declared.Node.{Node}

-- ── tests ──

abbrev pub is_idle : Place → Bool
is_idle Idle = true
is_idle (Asking j) = false
is_idle (Halting j) = false
is_idle (Announcing still j) = false
is_idle Point = false
is_idle (Handing still j) = false
is_idle (Checking j) = false
is_idle Contacting = false

-- 02: "the reorganization point"
abbrev pub is_point : Place → Bool
is_point Idle = false
is_point (Asking j) = false
is_point (Halting j) = false
is_point (Announcing still j) = false
is_point Point = true
is_point (Handing still j) = false
is_point (Checking j) = false
is_point Contacting = false

-- 02: "a call to make"
abbrev pub has_call : Place → Bool
has_call Idle = false
has_call (Asking j) = true
has_call (Halting j) = true
has_call (Announcing still j) = true
has_call Point = false
has_call (Handing still j) = true
has_call (Checking j) = true
has_call Contacting = true

-- ── one field set, the others kept: an assignment of the appendix ──

abbrev pub with_runs : Node → Bool → Node
with_runs c b = record { runs = b; status = c.status; coordinator = c.coordinator; task = c.task; halter = c.halter; up = c.up; place = c.place }

-- S(i)·s
abbrev pub with_status : Node → Status → Node
with_status c s = record { runs = c.runs; status = s; coordinator = c.coordinator; task = c.task; halter = c.halter; up = c.up; place = c.place }

-- S(i)·c
abbrev pub with_coordinator : Node → ℕ → Node
with_coordinator c j = record { runs = c.runs; status = c.status; coordinator = j; task = c.task; halter = c.halter; up = c.up; place = c.place }

-- S(i)·d
abbrev pub with_task : Node → TaskNo → Node
with_task c x = record { runs = c.runs; status = c.status; coordinator = c.coordinator; task = x; halter = c.halter; up = c.up; place = c.place }

-- S(i)·h
abbrev pub with_halter : Node → ℕ → Node
with_halter c j = record { runs = c.runs; status = c.status; coordinator = c.coordinator; task = c.task; halter = j; up = c.up; place = c.place }

-- S(i)·Up
abbrev pub with_up : Node → ℕ → Node
with_up c s = record { runs = c.runs; status = c.status; coordinator = c.coordinator; task = c.task; halter = c.halter; up = s; place = c.place }

-- where it is in its procedure
abbrev pub with_place : Node → Place → Node
with_place c p = record { runs = c.runs; status = c.status; coordinator = c.coordinator; task = c.task; halter = c.halter; up = c.up; place = p }
