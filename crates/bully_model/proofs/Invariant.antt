-- The invariant of a table. It looks at a node's status, coordinator, task and last halter, and at how far it is; Up, and whom it calls still, do not matter.
-- The range is no part of it: ground 1 gives it.
use Prim.Native.Nat.{ℕ, ◌≤◌, ◌<◌}
use mathlib.Core.Bool.{true}
use mathlib.Core.Path.{◌≡◌}
use mathlib.Core.Logic.{◌⊎◌}
use Rattle.model.specs.Node.{is_election, is_normal, is_active}
use Rattle.model.specs.declared.Status.{Status}
use Rattle.model.specs.declared.Status.TheVariants.{Election, Reorganization}
use Rattle.model.specs.declared.TaskNo.{TaskNo}
use Rattle.bully_model.specs.declared.Place.{Place}
use Rattle.bully_model.specs.declared.Place.TheVariants.{Idle, Asking, Halting, Announcing, Point, Handing, Checking, Contacting}
use Rattle.bully_model.specs.declared.Node.{Node}

-- how far a node's own election is
pub data Phase : Type 0 where
  Free Announces Hands : Phase
  Asks Halts : ℕ → Phase

abbrev pub phase : Place → Phase
phase Idle = Free
phase (Asking j) = Asks j
phase (Halting j) = Halts j
phase (Announcing still j) = Announces
phase Point = Announces
phase (Handing still j) = Hands
phase (Checking j) = Free
phase Contacting = Free

-- what the invariant sees of a node
pub record Aspect : Type 0 where
  pub status : Status
  pub coordinator : ℕ
  pub task : TaskNo
  pub halter : ℕ
  pub phase : Phase

abbrev pub aspect : Node → Aspect
aspect c = record { status = c.status; coordinator = c.coordinator; task = c.task; halter = c.halter; phase = phase c.place }

-- ── what is said of a aspect ──

-- node i, this far, has dealt with k: has called it in vain, or halted it
abbrev pub DealtIn : ℕ → Phase → ℕ → Type 0
DealtIn i Free k = ⊥
DealtIn i Announces k = ⊥
DealtIn i Hands k = ⊥
DealtIn i (Asks j) k = (i < k) × (k < j)
DealtIn i (Halts j) k = (j < k) × (k ≡ i → ⊥)

abbrev pub Dealt : ℕ → Aspect → ℕ → Type 0
Dealt i c k = DealtIn i c.phase k

-- in Election, last halted by m
pub record HaltedBy (c : Aspect) (m : ℕ) : Type 0 where
  pub election : is_election c.status ≡ true
  pub by : c.halter ≡ m

-- in Reorganization or Normal, with the coordinator o
pub record LedBy (c : Aspect) (o : ℕ) : Type 0 where
  pub active : is_active c.status ≡ true
  pub by : c.coordinator ≡ o

-- Normal, with the task t
pub record Doing (c : Aspect) (t : TaskNo) : Type 0 where
  pub normal : is_normal c.status ≡ true
  pub task : c.task ≡ t

abbrev pub IsAnnouncing : Phase → Type 0
IsAnnouncing Free = ⊥
IsAnnouncing Announces = Unit {0}
IsAnnouncing Hands = ⊥
IsAnnouncing (Asks j) = ⊥
IsAnnouncing (Halts j) = ⊥

abbrev pub IsHanding : Phase → Type 0
IsHanding Free = ⊥
IsHanding Announces = ⊥
IsHanding Hands = Unit {0}
IsHanding (Asks j) = ⊥
IsHanding (Halts j) = ⊥

-- handing the task t out
pub record HandingOut (c : Aspect) (t : TaskNo) : Type 0 where
  pub hands : IsHanding c.phase
  pub task : c.task ≡ t

-- what being this far says of node i's status s, coordinator o and last halter h
abbrev pub Suits : ℕ → Status → ℕ → ℕ → Phase → Type 0
Suits i s o h Free = Unit {0}
Suits i s o h (Asks j) = Unit {0}
Suits i s o h (Halts j) = (s ≡ Election) × (h ≡ i)
Suits i s o h Announces = (s ≡ Reorganization) × (o ≡ i)
Suits i s o h Hands = (s ≡ Reorganization) × (o ≡ i)

abbrev pub Suited : ℕ → Aspect → Type 0
Suited i c = Suits i c.status c.coordinator c.halter c.phase

-- ── the invariant, of the aspect of each number ──
pub record Safe (f : ℕ → Aspect) : Type 0 where
  -- who halts is in Election, halted by itself; who announces itself, reorganizes or hands a task out is in Reorganization and leads
  pub suited : (i : ℕ) → Suited i (f i)
  -- who is in Election was last halted by itself or a higher one
  pub halter_high : (i m : ℕ) → HaltedBy (f i) m → i ≤ m
  -- whom a node has dealt with is led by nobody
  pub unled : (i k o : ℕ) → Dealt i (f i) k → LedBy (f k) o → ⊥
  -- a has dealt with the higher b, which was halted before by m: then m is not past a, and does not lead
  pub halter_not_past : (a b m : ℕ) → a < b → Dealt a (f a) b → HaltedBy (f b) m → Dealt m (f m) a ⊎ LedBy (f m) m → ⊥
  -- one coordinator
  pub one_leader : (i k o p : ℕ) → LedBy (f i) o → LedBy (f k) p → o ≡ p
  -- while one announces itself or reorganizes, nobody is Normal
  pub none_normal : (i k : ℕ) (t : TaskNo) → IsAnnouncing (f i).phase → Doing (f k) t → ⊥
  -- one task, of the Normal ones and of the one that hands it out
  pub one_task : (i k : ℕ) (t u : TaskNo) → Doing (f i) t → Doing (f k) u → t ≡ u
  pub handed_task : (i k : ℕ) (t u : TaskNo) → Doing (f i) t → HandingOut (f k) u → t ≡ u
