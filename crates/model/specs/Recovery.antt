-- Recovery as document 002 prints it, in Appendix II, PROCEDURE Recovery (i). 02, T-04: "Write the recovery so that its assignments come in the paper's order:
-- Election, counter, group, coordinator, members, Reorganization, task, Normal."
-- The paper's state vector S(i) is the record of node i: s is the status, counter the counter of groups, g the group, c the coordinator, Up the members, d the task.
use Rattle.std.specs.Prelude.{ℕ, ◌+◌, List, [], ◌∷◌}
use Rattle.model.specs.Node.{group_of, turned}
use Rattle.model.specs.declared.Status.{Status}
use Rattle.model.specs.declared.Status.TheVariants.{Election, Reorganization, Normal}
use Rattle.model.specs.declared.Activity.TheVariants.{Idle}
use Rattle.model.specs.declared.Node.{Node}
use Rattle.model.specs.declared.GroupNo.{GroupNo}
use Rattle.model.specs.declared.TaskNo.{TaskNo}

-- ── one field set: "each sets that field alone in the one before" ──

abbrev pub with_status : Node → Status → Node
with_status x s = record {
  status = s;
  counter = x.counter;
  group = x.group;
  coordinator = x.coordinator;
  task = x.task;
  members = x.members;
  last = x.last;
  activity = x.activity;
}

abbrev pub with_counter : Node → ℕ → Node
with_counter x k = record {
  status = x.status;
  counter = k;
  group = x.group;
  coordinator = x.coordinator;
  task = x.task;
  members = x.members;
  last = x.last;
  activity = x.activity;
}

abbrev pub with_group : Node → GroupNo → Node
with_group x g = record {
  status = x.status;
  counter = x.counter;
  group = g;
  coordinator = x.coordinator;
  task = x.task;
  members = x.members;
  last = x.last;
  activity = x.activity;
}

abbrev pub with_coordinator : Node → ℕ → Node
with_coordinator x j = record {
  status = x.status;
  counter = x.counter;
  group = x.group;
  coordinator = j;
  task = x.task;
  members = x.members;
  last = x.last;
  activity = x.activity;
}

abbrev pub with_members : Node → ℕ → Node
with_members x m = record {
  status = x.status;
  counter = x.counter;
  group = x.group;
  coordinator = x.coordinator;
  task = x.task;
  members = m;
  last = x.last;
  activity = x.activity;
}

abbrev pub with_task : Node → TaskNo → Node
with_task x t = record {
  status = x.status;
  counter = x.counter;
  group = x.group;
  coordinator = x.coordinator;
  task = t;
  members = x.members;
  last = x.last;
  activity = x.activity;
}

-- ── the eight records, "one after each assignment" ──

-- Of node i, which had the record x before. Above each stands what Appendix II has for it. The paper's procedure is one critical region, [[ .. ]]: a table gets the last
-- record only, and of the others some are out of range (RecoveryCases.between).

-- S(i)·s := "Election";
abbrev pub after_election : ℕ → Node → Node
after_election i x = with_status x Election

-- CALL STOP; has its place here. It is done before the first assignment: see `stopped`.

-- S(i)·counter := S(i)·counter + 1;
abbrev pub after_counter : ℕ → Node → Node
after_counter i x = with_counter (after_election i x) ((after_election i x).counter + 1)

-- S(i)·g := i CONCATENATED S(i)·counter;  01: "group number = counter × 16 + (owner − 1)"
abbrev pub after_group : ℕ → Node → Node
after_group i x = with_group (after_counter i x) (record { number = group_of (after_counter i x).counter i })

-- S(i)·c := i;
abbrev pub after_coordinator : ℕ → Node → Node
after_coordinator i x = with_coordinator (after_group i x) i

-- S(i)·Up := { };
abbrev pub after_members : ℕ → Node → Node
after_members i x = with_members (after_coordinator i x) 0

-- S(i)·s := "Reorganization";
abbrev pub after_reorganization : ℕ → Node → Node
after_reorganization i x = with_status (after_members i x) Reorganization

-- a comment in the paper: ⟨⟨A single node task description is computed and placed in S(i)·d.⟩⟩  01: "the solo task of cabinet i is i"
abbrev pub after_task : ℕ → Node → Node
after_task i x = with_task (after_reorganization i x) (record { number = i })

-- S(i)·s := "Normal";
abbrev pub after_normal : ℕ → Node → Node
after_normal i x = with_status (after_task i x) Normal

abbrev pub recovery_records : ℕ → Node → List Node
recovery_records i x =
    after_election i x
    ∷ after_counter i x
    ∷ after_group i x
    ∷ after_coordinator i x
    ∷ after_members i x
    ∷ after_reorganization i x
    ∷ after_task i x
    ∷ after_normal i x
    ∷ []

-- ── the recovery ──

-- CALL STOP; what the node does stops. The paper has it behind the first assignment; no assignment reads or sets the activity, so it may as well stand before it
-- (RecoveryRules.as_printed). It is none of 02's eight: a Down node of a table in range is idle before it.
abbrev pub stopped : Node → Node
stopped x = turned x Idle

-- "recover i: counter plus one, group from it, coordinator i, members empty, task i, Normal, idle.": the last of the eight records of the stopped node
abbrev pub recovered : ℕ → Node → Node
recovered i x = after_normal i (stopped x)
