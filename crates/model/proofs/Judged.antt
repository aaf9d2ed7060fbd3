-- A step is refused, or no ground applies and it has its effect; what the event's node does then.
use Prim.Native.Nat.{ℕ, ◌-◌}
use native.Mathlib.Omega.{arith}
use mathlib.Core.Bool.{Bool, true, false, ◌&&◌}
use mathlib.Core.Path.{◌≡◌, refl, sym, ◌∙◌, ap}
use mathlib.Core.List.{[], ◌∷◌, ◌++◌}
use lib.Dec.{eqb}
use lib.ListN.{length, set}
use borrow.Author.Tests.{not-false}
use Rattle.model.specs.Pick.{pick}
use Rattle.model.specs.Limits.{counter_end, call_end}
use Rattle.model.specs.Node.{is_idle, is_waiting, is_collecting, has_open_call}
use Rattle.model.specs.Procedures.{stays}
use Rattle.model.specs.React.{react}
use Rattle.model.specs.State.{State, node_at, oldest, in_range}
use Rattle.model.specs.Grounds.{ground, judged, NoneApplies}
use Rattle.model.specs.Step.{actor, reaction_to, remaining, sent, with_sent, effect, wrong_number, wrong_task, wrong_status, wrong_activity, not_coordinator, no_majority, none_waits, forms, is_calling, is_sending, pair_at_end, grounds, Result, refused, accepted, step}
use Rattle.model.proofs.Grounds.{applies_of, before, once, none_of, judged_by, judged_none, judged_met, judged_passed}
use Rattle.model.specs.declared.Activity.{Activity}
use Rattle.model.specs.declared.Mark.{Mark}
use Rattle.model.specs.declared.Reaction.{Reaction}
use Rattle.model.specs.declared.Input.{Input}
use Rattle.model.specs.declared.Event.{Event}
use Rattle.model.specs.declared.Event.TheVariants.{Crash, Recover, Check, Timeout, Tick, Expire, Finish, Deliver, Lose}

-- what is known where no ground but the last, 17, applies, ground by ground
pub record Clear (s : State) (e : Event) : Type 0 where
  pub in_range_lem : in_range s ≡ true
  pub number : wrong_number s.n e ≡ false
  pub task : wrong_task e ≡ false
  pub status : wrong_status (node_at s (actor e)).status e ≡ false
  pub activity : wrong_activity (node_at s (actor e)).activity e ≡ false
  pub coordinator : not_coordinator (node_at s (actor e)) e ≡ false
  pub majority : no_majority s.n (node_at s (actor e)) e ≡ false
  pub waiting : none_waits s.queue e ≡ false
  pub counter : forms (reaction_to s e).mark && eqb (node_at s (actor e)).counter counter_end ≡ false
  pub calls : is_calling (reaction_to s e).outgoing && eqb (node_at s (actor e)).last.number call_end ≡ false
  pub room : is_sending (reaction_to s e).outgoing && eqb (length (remaining s e)) s.limits.messages ≡ false

-- and 17 does not apply
abbrev pub NotAtEnd : State → Event → Type 0
NotAtEnd s e = pair_at_end s.sent (reaction_to s e).outgoing ≡ false

-- none before 17 applies
clear_by : (s : State) (e : Event) → ((r : ℕ) → before r 17 (grounds s e) ≡ true → applies_of r (grounds s e) ≡ false) → Clear s e
unfolding grounds pick
clear_by s e f =
    record {
      in_range_lem = not-false _ (f 1 refl);
      number = f 7 refl;
      task = f 8 refl;
      status = f 9 refl;
      activity = f 10 refl;
      coordinator = f 18 refl;
      majority = f 19 refl;
      waiting = f 11 refl;
      counter = f 12 refl;
      calls = f 13 refl;
      room = f 14 refl;
    }

none_at_end : (s : State) (e : Event) → NoneApplies (grounds s e) → NotAtEnd s e
unfolding grounds pick
none_at_end s e c = none_of 17 (grounds s e) c

-- what holds of every refusal, and of the effect where no ground applies, holds of the step
pub by_step : (P : Result → Type 0) (s : State) (e : Event) → ((x : ℕ) → P (refused x)) → (Clear s e → NotAtEnd s e → P (accepted (effect s e) (reaction_to s e).mark)) → P (step s e)
unfolding step
by_step P s e f g = judged_by refused P _ (grounds s e) f (λ c. g (clear_by s e (λ r _. none_of r (grounds s e) c)) (none_at_end s e c))

-- an event is accepted where no ground of the table of grounds applies
pub none_applies : (s : State) (e : Event) → NoneApplies (grounds s e) → step s e ≡ accepted (effect s e) (reaction_to s e).mark
unfolding step
none_applies s e c = judged_none refused _ (grounds s e) c

pub clear_accepts : (s : State) (e : Event) → Clear s e → NotAtEnd s e → step s e ≡ accepted (effect s e) (reaction_to s e).mark
unfolding step grounds judged pick
clear_accepts s e c d = rw (c.in_range_lem, c.number, c.task, c.status, c.activity, c.coordinator, c.majority, c.waiting, c.counter, c.calls, c.room, d)

pub accepted_apart : {u : State} {k : Mark} {r : ℕ} → accepted u k ≡ refused r → ⊥
accepted_apart e = let z : ◌≡◌ {A = ℕ} 0 1 = cc in omega arith

-- what an accepted event is
pub record Accepted (s : State) (e : Event) (u : State) (k : Mark) : Type 0 where
  pub clear : Clear s e
  pub not_at_end : NotAtEnd s e
  pub state : u ≡ effect s e
  pub mark : k ≡ (reaction_to s e).mark

pub accepted_is : (s : State) (e : Event) (u : State) (k : Mark) → step s e ≡ accepted u k → Accepted s e u k
accepted_is s e u k =
    by_step (λ r. r ≡ accepted u k → Accepted s e u k) s e (λ x q. absurd (accepted_apart (sym q))) (λ c d q. record { clear = c; not_at_end = d; state = (cc); mark = (cc) })

-- ── a refusal by its number ──

pub refused_same : {a b : ℕ} → refused a ≡ refused b → a ≡ b
refused_same q = cc

-- a refusal's ground applies
pub met : (s : State) (e : Event) (r : ℕ) → once r (grounds s e) ≡ true → step s e ≡ refused r → applies_of r (grounds s e) ≡ true
unfolding step
met s e r o q = judged_met refused (λ a b. refused_same) _ (λ x. accepted_apart) r (grounds s e) o q

-- and one before it does not
pub passed : (s : State) (e : Event) (q r : ℕ) → before q r (grounds s e) ≡ true → step s e ≡ refused r → applies_of q (grounds s e) ≡ false
unfolding step
passed s e q r b x = judged_passed refused (λ a b. refused_same) _ (λ x. accepted_apart) q r (grounds s e) b x

-- 17 is the last
pub ended_clear : (s : State) (e : Event) → step s e ≡ refused 17 → Clear s e
ended_clear s e q = clear_by s e (λ r b. passed s e r 17 b q)

-- the activity allows the input: ground 10 does not apply
abbrev pub Allows : Activity → Input → Type 0
Allows a Input.Crash = Unit {0}
Allows a Input.Recover = Unit {0}
Allows a Input.Check = is_idle a ≡ true
Allows a Input.Timeout = is_idle a ≡ true
Allows a Input.Tick = is_waiting a ≡ true
Allows a Input.Expire = has_open_call a ≡ true
Allows a (Input.Finish t) = is_collecting a ≡ true
Allows a (Input.Receive m) = Unit {0}

-- what holds of whatever the event's node does with an input that its activity allows, and where it stays as it is, holds of what it does at the event
pub by_reaction : (P : Reaction → Type 0) (s : State) (e : Event) → Clear s e
    → ((x : Input) → Allows (node_at s (actor e)).activity x → P (react s.n (actor e) (node_at s (actor e)) x)) → P (stays (node_at s (actor e))) → P (reaction_to s e)
unfolding reaction_to
by_reaction P s (Crash i) c f g = f Input.Crash tt
by_reaction P s (Recover i) c f g = f Input.Recover tt
by_reaction P s (Check i) c f g = f Input.Check (not-false _ c.activity)
by_reaction P s (Timeout i) c f g = f Input.Timeout (not-false _ c.activity)
by_reaction P s (Tick i) c f g = f Input.Tick (not-false _ c.activity)
by_reaction P s (Expire i) c f g = f Input.Expire (not-false _ c.activity)
by_reaction P s (Finish i t) c f g = f (Input.Finish t) (not-false _ c.activity)
by_reaction P s (Deliver a b) c f g = f (Input.Receive (oldest a b s.queue)) tt
by_reaction P s (Lose a b) c f g = g

-- ── all of an event of node i that takes no message out, ground by ground ──

-- the same ground in front of both, by its number and its test
pub one_ground : (r : ℕ) (t u : Bool) (a b : Result) → t ≡ u → (t ≡ false → a ≡ b) → pick t (refused r) a ≡ pick u (refused r) b
unfolding pick
one_ground r true u a b e f = ap (λ (x : Bool). pick x (refused r) b) e
one_ground r false u a b e f = f refl ∙ ap (λ (x : Bool). pick x (refused r) b) e

-- what it leaves, by what the node does
abbrev pub left_by : State → ℕ → Reaction → State
left_by s i r = record {
  rule = s.rule;
  n = s.n;
  limits = s.limits;
  nodes = set s.nodes (i - 1) r.node;
  queue = s.queue ++ sent r.outgoing;
  sent = with_sent s.sent r.outgoing;
  delivered = s.delivered;
  lost = s.lost;
}

-- and the ends of the ranges
abbrev pub ends_by : State → ℕ → Reaction → Result
ends_by s i r =
    judged refused (accepted (left_by s i r) r.mark)
    (ground 12 (forms r.mark && eqb (node_at s i).counter counter_end)
    ∷ ground 13 (is_calling r.outgoing && eqb (node_at s i).last.number call_end)
    ∷ ground 14 (is_sending r.outgoing && eqb (length s.queue) s.limits.messages)
    ∷ ground 17 (pair_at_end s.sent r.outgoing)
    ∷ [])
