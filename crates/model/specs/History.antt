-- The history (01: book) beside a run, "fed n and the events alone"; T-08: "its book is fed the limits too".
use Rattle.std.specs.Prelude.{ℕ, ◌+◌, List, [], ◌∷◌, eqb}
use Rattle.model.specs.Pick.{pick}
use Rattle.model.specs.Node.{group_of}
use Rattle.model.specs.Range.{PairRule}
use Rattle.model.specs.State.{State, start_by, start}
use Rattle.model.specs.Step.{actor, Result, refused, accepted, step, after}
use Rattle.model.specs.declared.Limits.{Limits}
use Rattle.model.specs.declared.Mark.{Mark}
use Rattle.model.specs.declared.Mark.TheVariants.{Plain, Recovers, Merges}
use Rattle.model.specs.declared.Event.{Event}
use Rattle.model.specs.declared.Event.TheVariants.{Crash, Recover, Check, Timeout, Tick, Expire, Finish, Deliver, Lose}

-- of a group number: not formed, formed without a task, or formed with its task
pub data Entry : Type 0 where
  NotFormed : Entry
  NoTask : Entry
  Task : ℕ → Entry

-- "The book holds a count for each cabinet, first 0, and the groups formed, first none, each with its task or none."
pub record History : Type 0 where
  pub count : ℕ → ℕ
  pub entry : ℕ → Entry

abbrev pub blank : History
blank = record { count = λ i. 0; entry = λ g. NotFormed }

-- f with the value a at i
unfoldable pub updated {ℓ} : {A : Type ℓ} → (ℕ → A) → ℕ → A → ℕ → A
updated f i a j = pick (eqb j i) a (f j)

-- "the group that i formed last", where it has formed one, and the group that it forms next
abbrev pub newest : History → ℕ → ℕ
newest h i = group_of (h.count i) i

abbrev pub coming : History → ℕ → ℕ
coming h i = group_of (h.count i + 1) i

-- "its count plus one, and group count × 16 + (i − 1) is formed"
abbrev pub formed : History → ℕ → Entry → History
formed h i e = record { count = updated h.count i (h.count i + 1); entry = updated h.entry (coming h i) e }

-- "Where i recovers: .. formed with task i. Where i merges: the same, without a task."
abbrev pub marked : History → ℕ → Mark → History
marked h i Plain = h
marked h i Recovers = formed h i (Task i)
marked h i Merges = formed h i NoTask

-- "An accepted finish i with task t: the group that i formed last gets t."
abbrev pub given : History → Event → History
given h (Crash i) = h
given h (Recover i) = h
given h (Check i) = h
given h (Timeout i) = h
given h (Tick i) = h
given h (Expire i) = h
given h (Finish i t) = record { count = h.count; entry = updated h.entry (newest h i) (Task t.number) }
given h (Deliver a b) = h
given h (Lose a b) = h

-- "All else, a refusal too, changes nothing."
abbrev pub noted : History → Event → Result → History
noted h e (refused r) = h
noted h e (accepted u k) = marked (given h e) (actor e) k

-- the history of the events, where the steps from s say what each of them is
unfoldable pub history_from : State → History → List Event → History
history_from s h [] = h
history_from s h (e ∷ es) = history_from (after s e) (noted h e (step s e)) es

-- fed n, the limits and the events: by the steps with the rule of the two pairs or without it, and by those of the machine
abbrev pub history_by : PairRule → ℕ → Limits → List Event → History
history_by r n l es = history_from (start_by r n l) blank es

abbrev pub history : ℕ → Limits → List Event → History
history n l es = history_from (start n l) blank es
