-- Demand 3: the invariant holds along every run, and the claims follow.
use Prim.Native.Nat.{ℕ, ◌+◌, ◌-◌, ◌≤◌}
use native.Mathlib.Omega.{arith}
use native.Mathlib.Nat.{le_trans, le_refl}
use mathlib.Core.Bool.{Bool, true, false, true≢false}
use mathlib.Core.Path.{◌≡◌, refl, sym, ◌∙◌, ap, subst}
use mathlib.Core.Logic.{⊎_elim}
use mathlib.Core.List.{List, [], ◌∷◌, ◌++◌}
use lib.Dec.{eqb}
use lib.ListN.{length, get_or, set, length-set, length-replicate, get_or-replicate}
use lib.Seq.{get_or-set_same, get_or-set_other}
use borrow.Author.Tests.{eqb-true, eqb-false, not-false}
use Rattle.model.specs.Pick.{by_test}
use Rattle.model.specs.Node.{owner_of, counter_of, is_down, is_active, is_collecting}
use Rattle.model.specs.React.{react}
use Rattle.model.specs.Range.{PairRule, carries_group}
use Rattle.model.specs.State.{State, starting_node, start_by, node_at, no_message, oldest, without_oldest}
use Rattle.model.specs.Step.{actor, reaction_to, remaining, sent, effect, wrong_status, wrong_activity, none_waits, forms, Result, step, kept, after, run_from, run_by}
use Rattle.model.specs.History.{Task, History, blank, coming, marked, given, noted, history_from, history_by}
use Rattle.model.specs.Claims.{Unsent, Lacks, EachGroup, RunFixes}
use Rattle.model.proofs.Judged.{Clear, by_step, Accepted, accepted_is}
use Rattle.model.proofs.Invariant.{NodeNumber, Led, Gathering, NodeOk, MessageOk, HistoryOk, OutgoingOk, MarkOk, ReactionOk, Extends, extends_refl, extends_trans, owner_of_lem, counter_of_lem, message_extends, node_extends, task_is, coming_not_formed, marked_extends, marked_ok, tasked_extends, tasked_ok}
use Rattle.model.proofs.Local.{led_up, stays_ok, react_ok, collecting_gathers, finish_ok}
use Rattle.model.proofs.Numbers.{actor_in}
use Rattle.model.proofs.Origin.{finish_mark, Source, group_source, oldest_held, Carries, group_sent}
use Rattle.model.specs.declared.Limits.{Limits}
use Rattle.model.specs.declared.Status.{Status}
use Rattle.model.specs.declared.Status.TheVariants.{Down, Election, Reorganization, Normal}
use Rattle.model.specs.declared.Node.{Node}
use Rattle.model.specs.declared.TaskNo.{TaskNo}
use Rattle.model.specs.declared.Message.{Message}
use Rattle.std.specs.Prelude.{Option, None, Some}
use Rattle.model.specs.declared.Mark.{Mark}
use Rattle.model.specs.declared.Mark.TheVariants.{Plain, Recovers, Merges}
use Rattle.model.specs.declared.Input.TheVariants as Input
use Rattle.model.specs.declared.Event.{Event}
use Rattle.model.specs.declared.Event.TheVariants.{Crash, Recover, Check, Timeout, Tick, Expire, Finish, Deliver, Lose}

-- ── lists of messages ──
abbrev pub All : (Message → Type 0) → List Message → Type 0
All P [] = Unit {0}
All P (m ∷ ms) = P m × All P ms

pub all_map : {P Q : Message → Type 0} → ((m : Message) → P m → Q m) → (q : List Message) → All P q → All Q q
all_map f [] h = tt
all_map f (m ∷ ms) h = (f m h.0, all_map f ms h.1)

pub all_append : (P : Message → Type 0) (q r : List Message) → All P q → All P r → All P (q ++ r)
all_append P [] r h k = k
all_append P (m ∷ ms) r h k = (h.0, all_append P ms r h.1 k)

all_oldest : (P : Message → Type 0) (a b : ℕ) (q : List Message) → P no_message → All P q → P (oldest a b q)
unfolding oldest
all_oldest P a b [] n h = n
all_oldest P a b (m ∷ ms) n h = by_test P (λ _. h.0) (λ _. all_oldest P a b ms n h.1)

pub all_without : (P : Message → Type 0) (a b : ℕ) (q : List Message) → All P q → All P (without_oldest a b q)
unfolding without_oldest
all_without P a b [] h = tt
all_without P a b (m ∷ ms) h = by_test (All P) (λ _. h.1) (λ _. (h.0, all_without P a b ms h.1))

-- ── the invariant of a state ──
record StateOk (h : History) (s : State) : Type 0 where
  pub size : s.n ≤ 16
  pub many : length s.nodes ≡ s.n
  pub nodes : (j : ℕ) → 1 ≤ j → j ≤ s.n → NodeOk h j (node_at s j)
  pub waiting : All (MessageOk h) s.queue

-- what an accepted event owes: the history with the event's task, the reaction, and the messages that stay
record EventOk (h : History) (s : State) (e : Event) : Type 0 where
  pub low : 1 ≤ actor e
  pub high : actor e ≤ s.n
  pub extends : Extends (actor e) h (given h e)
  pub history : HistoryOk (given h e)
  pub reaction : ReactionOk (given h e) (actor e) (reaction_to s e)
  pub stays : All (MessageOk h) (remaining s e)

none_ok : (h : History) → MessageOk h no_message
none_ok h = record { counted = omega arith; ready = tt }

outgoing_ok : (h : History) (o : Option Message) → OutgoingOk h o → All (MessageOk h) (sent o)
outgoing_ok h None k = tt
outgoing_ok h (Some m) k = (k, tt)

module _ (h : History) (s : State) (hk : HistoryOk h) (ok : StateOk h s) where
  number : (i : ℕ) → (1 ≤ i) × (i ≤ s.n) → NodeNumber i
  number i p = record { low = p.0; high = le_trans p.1 ok.size }

  here : (i : ℕ) → (1 ≤ i) × (i ≤ s.n) → NodeOk h i (node_at s i)
  here i p = ok.nodes i p.0 p.1

  -- an event that gives no task
  plain : (e : Event) → given h e ≡ h → (1 ≤ actor e) × (actor e ≤ s.n) → ReactionOk h (actor e) (reaction_to s e) → All (MessageOk h) (remaining s e) → EventOk h s e
  plain e q p r w =
      record {
        low = p.0;
        high = p.1;
        extends = rw q (extends_refl (actor e) h);
        history = rw q hk;
        reaction = rw q r;
        stays = w;
      }

  event_ok : (e : Event) → Clear s e → EventOk h s e
  unfolding reaction_to remaining wrong_status wrong_activity
  event_ok (Crash i) c = let p = actor_in s.n (Crash i) c.number in plain (Crash i) refl p (react_ok (number i p) s.n (node_at s i) Input.Crash (here i p) tt) ok.waiting
  event_ok (Recover i) c = let p = actor_in s.n (Recover i) c.number in plain (Recover i) refl p (react_ok (number i p) s.n (node_at s i) Input.Recover (here i p) tt) ok.waiting
  event_ok (Check i) c = let p = actor_in s.n (Check i) c.number in plain (Check i) refl p (react_ok (number i p) s.n (node_at s i) Input.Check (here i p) tt) ok.waiting
  event_ok (Timeout i) c = let p = actor_in s.n (Timeout i) c.number in plain (Timeout i) refl p (react_ok (number i p) s.n (node_at s i) Input.Timeout (here i p) tt) ok.waiting
  event_ok (Tick i) c = let p = actor_in s.n (Tick i) c.number in plain (Tick i) refl p (react_ok (number i p) s.n (node_at s i) Input.Tick (here i p) tt) ok.waiting
  event_ok (Expire i) c = let p = actor_in s.n (Expire i) c.number in plain (Expire i) refl p (react_ok (number i p) s.n (node_at s i) Input.Expire (here i p) tt) ok.waiting
  event_ok (Finish i t) c =
      let p = actor_in s.n (Finish i t) c.number in
      let g = collecting_gathers (node_at s i).task.number (node_at s i).activity (not-false _ c.activity) (here i p).busy in
      record {
        low = p.0;
        high = p.1;
        extends = tasked_extends h i t.number (number i p) g.undecided;
        history = tasked_ok h i t.number (number i p) hk;
        reaction = finish_ok (number i p) s.n (node_at s i) t c.status (here i p) g;
        stays = ok.waiting;
      }
  event_ok (Deliver a b) c =
      let p = actor_in s.n (Deliver a b) c.number in
      plain (Deliver a b) refl p
      (react_ok (number b p) s.n (node_at s b) (Input.Receive (oldest a b s.queue)) (here b p) (c.status, all_oldest (MessageOk h) a b s.queue (none_ok h) ok.waiting))
      (all_without (MessageOk h) a b s.queue ok.waiting)
  event_ok (Lose a b) c =
      let p = actor_in s.n (Lose a b) c.number in
      plain (Lose a b) refl p (stays_ok (number b p) (here b p)) (all_without (MessageOk h) a b s.queue ok.waiting)

  module _ (e : Event) (x : EventOk h s e) where
    grown : Extends (actor e) h (marked (given h e) (actor e) (reaction_to s e).mark)
    grown = extends_trans x.extends (marked_extends (given h e) (actor e) (reaction_to s e).mark (number (actor e) (x.low, x.high)) x.history)

    stored : get_or (set s.nodes (actor e - 1) (reaction_to s e).node) (actor e - 1) starting_node ≡ (reaction_to s e).node
    stored = get_or-set_same s.nodes (actor e - 1) (reaction_to s e).node starting_node (omega (arith, x.low, x.high, ok.many))

    effect_ok : StateOk (marked (given h e) (actor e) (reaction_to s e).mark) (effect s e)
    unfolding effect
    effect_ok =
        record {
          size = ok.size;
          many = length-set s.nodes (actor e - 1) (reaction_to s e).node ∙ ok.many;
          nodes = λ j l u. by_number j l u (eqb j (actor e)) refl;
          waiting = all_append (MessageOk _) (remaining s e) (sent (reaction_to s e).outgoing) (all_map (λ m. message_extends m grown) (remaining s e) x.stays) (outgoing_ok _ (reaction_to s e).outgoing x.reaction.outgoing);
        }
      where
        by_number : (j : ℕ) → 1 ≤ j → j ≤ s.n → (b : Bool) → eqb j (actor e) ≡ b → NodeOk (marked (given h e) (actor e) (reaction_to s e).mark) j (get_or (set s.nodes (actor e - 1) (reaction_to s e).node) (j - 1) starting_node)
        by_number j l u true q = rw (eqb-true j (actor e) q) (rw stored x.reaction.node)
        by_number j l u false q =
            rw (get_or-set_other s.nodes (actor e - 1) (j - 1) (reaction_to s e).node starting_node (λ z. eqb-false j (actor e) q (omega (arith, x.low))))
            (node_extends j (node_at s j) (number j (l, u)) (eqb-false j (actor e) q) grown (ok.nodes j l u))

-- ── runs ──
record Good (h : History) (s : State) : Type 0 where
  pub history : HistoryOk h
  pub state : StateOk h s

-- what stays of a history as it grows
record Grows (h d : History) : Type 0 where
  pub more : (j : ℕ) → h.count j ≤ d.count j
  pub lasts : (g t : ℕ) → h.entry g ≡ Task t → d.entry g ≡ Task t

grows_refl : (h : History) → Grows h h
grows_refl h = record { more = λ j. le_refl _; lasts = λ g t e. e }

grows_trans : {h d f : History} → Grows h d → Grows d f → Grows h f
grows_trans x y = record { more = λ j. le_trans (x.more j) (y.more j); lasts = λ g t e. y.lasts g t (x.lasts g t e) }

-- a step keeps the invariant, and the history only grows
record Onward (h : History) (s : State) (e : Event) (r : Result) : Type 0 where
  pub good : Good (noted h e r) (kept s r)
  pub grows : Grows h (noted h e r)

step_onward : (h : History) (s : State) (e : Event) → Good h s → Onward h s e (step s e)
step_onward h s e ok =
    by_step (Onward h s e) s e
    (λ r. record { good = ok; grows = grows_refl h })
    (λ c _.
    let x = event_ok h s ok.history ok.state e c in
    let g = grown h s ok.history ok.state e x in
    record {
      good = record {
        history = marked_ok (given h e) (actor e) (reaction_to s e).mark (number h s ok.history ok.state (actor e) (x.low, x.high)) x.history;
        state = effect_ok h s ok.history ok.state e x;
      };
      grows = record { more = g.more; lasts = g.lasts };
    })

good_run : (h : History) (s : State) (es : List Event) → Good h s → Good (history_from s h es) (run_from s es)
unfolding history_from run_from
good_run h s [] ok = ok
good_run h s (e ∷ es) ok = good_run (noted h e (step s e)) (after s e) es (step_onward h s e ok).good

run_grows : (h : History) (s : State) (es : List Event) → Good h s → Grows h (history_from s h es)
unfolding history_from
run_grows h s [] ok = grows_refl h
run_grows h s (e ∷ es) ok =
    let x = step_onward h s e ok in
    grows_trans x.grows (run_grows (noted h e (step s e)) (after s e) es x.good)

-- a list in two parts
pub run_append : (s : State) (es fs : List Event) → run_from s (es ++ fs) ≡ run_from (run_from s es) fs
unfolding run_from
run_append s [] fs = refl
run_append s (e ∷ es) fs = run_append (after s e) es fs

pub history_append : (h : History) (s : State) (es fs : List Event) → history_from s h (es ++ fs) ≡ history_from (run_from s es) (history_from s h es) fs
unfolding history_from run_from
history_append h s [] fs = refl
history_append h s (e ∷ es) fs = history_append (noted h e (step s e)) (after s e) es fs

start_good : (rule : PairRule) (n : ℕ) (lim : Limits) → n ≤ 16 → Good blank (start_by rule n lim)
start_good rule n lim h =
    record {
      history = record { ahead = λ g l. refl };
      state = record {
        size = h;
        many = length-replicate n starting_node;
        nodes = λ j l u. rw (get_or-replicate n (j - 1) starting_node starting_node (omega arith)) (record { counter = refl; counted = omega arith; led = tt; settled = tt; busy = tt });
        waiting = tt;
      };
    }

-- ── the claims ──
led_active : (a : Status) (o g : ℕ) → is_active a ≡ true → Led o g a → o ≡ owner_of g
led_active Down o g e l = absurd (true≢false (sym e))
led_active Election o g e l = absurd (true≢false (sym e))
led_active Reorganization o g e l = l
led_active Normal o g e l = l

mark_number : (h : History) (i g : ℕ) (k : Mark) → forms k ≡ true → MarkOk h i g k → g ≡ coming h i
mark_number h i g Plain e m = absurd (true≢false (sym e))
mark_number h i g Recovers e m = m
mark_number h i g Merges e m = m

-- an event that forms a group gives no task
forming_gives_none : (h : History) (s : State) (e : Event) → forms (reaction_to s e).mark ≡ true → given h e ≡ h
unfolding reaction_to react
forming_gives_none h s (Crash i) f = refl
forming_gives_none h s (Recover i) f = refl
forming_gives_none h s (Check i) f = refl
forming_gives_none h s (Timeout i) f = refl
forming_gives_none h s (Tick i) f = refl
forming_gives_none h s (Expire i) f = refl
forming_gives_none h s (Finish i t) f = absurd (true≢false (sym (rw (finish_mark i (node_at s i) t) at f)))
forming_gives_none h s (Deliver a b) f = refl
forming_gives_none h s (Lose a b) f = refl

-- a table whose history grew since lacks the group that comes next
lacks_coming : (h d : History) (s : State) (i : ℕ) → NodeNumber i → StateOk h s → Grows h d → Lacks s (coming d i)
lacks_coming h d s i n ok x =
    record { in_nodes = λ j l u q. past (node_at s j).group.number (ok.nodes j l u).counted q; in_messages = all_past s.queue ok.waiting }
  where
    past : (g : ℕ) → counter_of g ≤ h.count (owner_of g) → g ≡ coming d i → ⊥
    past g l q =
        let a : h.count (owner_of g) ≤ d.count i = subst (λ k. h.count (owner_of g) ≤ d.count k) (ap owner_of q ∙ owner_of_lem (d.count i + 1) i n) (x.more (owner_of g)) in
        omega (arith, ap counter_of q, counter_of_lem (d.count i + 1) i n, a, l)

    all_past : (q : List Message) → All (MessageOk h) q → Unsent (coming d i) q
    all_past [] w = tt
    all_past (m ∷ ms) w = (past m.group.number w.0.counted, all_past ms w.1)

-- an event that forms no group leaves no group that was nowhere in the table before
source_held : (s : State) (e : Event) → Clear s e → (1 ≤ actor e) → (actor e ≤ s.n) → (g : ℕ) → Source s e g → Lacks s g → ⊥
unfolding none_waits
source_held s (Crash i) c l u g q x = x.in_nodes i l u (sym q)
source_held s (Recover i) c l u g q x = x.in_nodes i l u (sym q)
source_held s (Check i) c l u g q x = x.in_nodes i l u (sym q)
source_held s (Timeout i) c l u g q x = x.in_nodes i l u (sym q)
source_held s (Tick i) c l u g q x = x.in_nodes i l u (sym q)
source_held s (Expire i) c l u g q x = x.in_nodes i l u (sym q)
source_held s (Finish i t) c l u g q x = x.in_nodes i l u (sym q)
source_held s (Deliver a b) c l u g q x =
    ⊎_elim (λ z. x.in_nodes b l u (sym z)) (λ z. oldest_held a b s.queue g (not-false _ c.waiting) x.in_messages (sym z)) q
source_held s (Lose a b) c l u g q x = x.in_nodes b l u (sym q)

pub effect_n : (s : State) (e : Event) → (effect s e).n ≡ s.n
unfolding effect
effect_n s e = refl

-- each message of a queue is in it
all_held : (q : List Message) → All (λ (m : Message). Unsent m.group.number q → ⊥) q
all_held [] = tt
all_held (m ∷ ms) = ((λ u. u.0 refl), all_map (λ x f u. f u.1) ms (all_held ms))

each_group : (P : ℕ → Type 0) (q : List Message) → All (λ (m : Message). carries_group m.kind ≡ true → P m.group.number) q → EachGroup P q
each_group P [] h = tt
each_group P (m ∷ ms) h = (h.0, each_group P ms h.1)

all_remaining : (P : Message → Type 0) (s : State) (e : Event) → All P s.queue → All P (remaining s e)
unfolding remaining
all_remaining P s (Crash i) h = h
all_remaining P s (Recover i) h = h
all_remaining P s (Check i) h = h
all_remaining P s (Timeout i) h = h
all_remaining P s (Tick i) h = h
all_remaining P s (Expire i) h = h
all_remaining P s (Finish i t) h = h
all_remaining P s (Deliver a b) h = all_without P a b s.queue h
all_remaining P s (Lose a b) h = all_without P a b s.queue h

-- what holds of the group of the sender's record holds of the group of the message out
all_sent : (P : ℕ → Type 0) (g : ℕ) (o : Option Message) → Carries g o → P g → All (λ (m : Message). carries_group m.kind ≡ true → P m.group.number) (sent o)
all_sent P g None c h = tt
all_sent P g (Some m) c h = ((λ e. subst P (sym (c e)) h), tt)

pub run_fixes : (rule : PairRule) (n : ℕ) (lim : Limits) → n ≤ 16 → RunFixes rule n lim
unfolding effect wrong_activity run_from
run_fixes rule n lim small =
    record {
      same_coordinator = λ es i j l h l' h' a a' q.
          let c = (good es).state.nodes in
          led_active (node_at (run_by rule n lim es) i).status _ _ a (c i l (reach es h)).led ∙ ap owner_of q ∙ sym (led_active (node_at (run_by rule n lim es) j).status _ _ a' (c j l' (reach es h')).led);
      same_task = λ es i j l h l' h' a a' q. task_is _ _ (sym (settled es i l h a) ∙ ap (history_by rule n lim es).entry q ∙ settled es j l' h' a');
      fixed_task = λ es fs i l h e. (growth es fs).lasts _ _ (settled es i l h e);
      numbered = λ es e u k q f. group_number es e u k f (accepted_is (run_by rule n lim es) e u k q);
      fresh = λ es fs e u k q f. lacks_coming (history_by rule n lim es) (history_by rule n lim (es ++ fs)) (run_by rule n lim es) (actor e) (actor_number (es ++ fs) e (accepted_is (run_by rule n lim (es ++ fs)) e u k q).clear) (good es).state (growth es fs);
      borrowed = λ es e u k q f j l h x. none_new es e u k f j l h (accepted_is (run_by rule n lim es) e u k q) x;
      borrowed_messages = λ es e u k q. messages_held es e u k (accepted_is (run_by rule n lim es) e u k q);
      formed_once = λ es e u k q f. coming_not_formed (history_by rule n lim es) (actor e) (actor_number es e (accepted_is (run_by rule n lim es) e u k q).clear) (good es).history;
      given_once = λ es i t u k q. (collects es i t (accepted_is (run_by rule n lim es) (Finish i t) u k q).clear).undecided;
      own_group = λ es i t u k q. (collects es i t (accepted_is (run_by rule n lim es) (Finish i t) u k q).clear).own;
      lasts = λ es fs g t e. (growth es fs).lasts g t e;
    }
  where
    good : (es : List Event) → Good (history_by rule n lim es) (run_by rule n lim es)
    good es = good_run blank (start_by rule n lim) es (start_good rule n lim small)

    -- every table of a run has n nodes
    same_n : (s : State) (es : List Event) → s.n ≡ n → (run_from s es).n ≡ n
    same_n s [] q = q
    same_n s (e ∷ es) q = same_n (after s e) es (by_step (λ r. (kept s r).n ≡ n) s e (λ x. q) (λ c _. effect_n s e ∙ q))

    reach : (es : List Event) {i : ℕ} → i ≤ n → i ≤ (run_by rule n lim es).n
    reach es h = omega (arith, same_n (start_by rule n lim) es refl, h)

    -- a Normal node's task is the history's
    settled : (es : List Event) (i : ℕ) → 1 ≤ i → i ≤ n → (node_at (run_by rule n lim es) i).status ≡ Normal → (history_by rule n lim es).entry (node_at (run_by rule n lim es) i).group.number ≡ Task (node_at (run_by rule n lim es) i).task.number
    settled es i l h e = rw e at ((good es).state.nodes i l (reach es h)).settled

    event : (es : List Event) (e : Event) → Clear (run_by rule n lim es) e → EventOk (history_by rule n lim es) (run_by rule n lim es) e
    event es e c = event_ok (history_by rule n lim es) (run_by rule n lim es) (good es).history (good es).state e c

    actor_number : (es : List Event) (e : Event) → Clear (run_by rule n lim es) e → NodeNumber (actor e)
    actor_number es e c = let x = event es e c in number (history_by rule n lim es) (run_by rule n lim es) (good es).history (good es).state (actor e) (x.low, x.high)

    formed_number : (es : List Event) (e : Event) (k : Mark) → forms k ≡ true → Clear (run_by rule n lim es) e → k ≡ (reaction_to (run_by rule n lim es) e).mark
        → (reaction_to (run_by rule n lim es) e).node.group.number ≡ coming (history_by rule n lim es) (actor e)
    formed_number es e k f c q =
        let g : forms (reaction_to (run_by rule n lim es) e).mark ≡ true = rw (← q) f in
        mark_number (given (history_by rule n lim es) e) (actor e) _ (reaction_to (run_by rule n lim es) e).mark g (event es e c).reaction.mark
        ∙ ap (λ (d : History). coming d (actor e)) (forming_gives_none (history_by rule n lim es) (run_by rule n lim es) e g)

    group_number : (es : List Event) (e : Event) (u : State) (k : Mark) → forms k ≡ true → Accepted (run_by rule n lim es) e u k → (node_at u (actor e)).group.number ≡ coming (history_by rule n lim es) (actor e)
    group_number es e u k f a =
        ap (λ (v : State). (node_at v (actor e)).group.number) a.state
        ∙ ap (λ (c : Node). c.group.number) (stored (history_by rule n lim es) (run_by rule n lim es) (good es).history (good es).state e (event es e a.clear))
        ∙ formed_number es e k f a.clear a.mark

    none_new : (es : List Event) (e : Event) (u : State) (k : Mark) → forms k ≡ false → (j : ℕ) → 1 ≤ j → j ≤ n → Accepted (run_by rule n lim es) e u k → Lacks (run_by rule n lim es) (node_at u j).group.number → ⊥
    none_new es e u k f j l v a lacks =
        let x = event es e a.clear in
        by_number (eqb j (actor e)) refl x
        (subst (λ (w : State). Lacks (run_by rule n lim es) (node_at w j).group.number) a.state lacks)
      where
        s : State
        s = run_by rule n lim es

        by_number : (b : Bool) → eqb j (actor e) ≡ b → EventOk (history_by rule n lim es) s e → Lacks s (get_or (set s.nodes (actor e - 1) (reaction_to s e).node) (j - 1) starting_node).group.number → ⊥
        by_number true q x m =
            let m' = rw (eqb-true j (actor e) q, stored (history_by rule n lim es) s (good es).history (good es).state e x) at m in
            source_held s e a.clear x.low x.high _ (group_source s e (rw (← a.mark) f)) m'
        by_number false q x m =
            let m' = rw (get_or-set_other s.nodes (actor e - 1) (j - 1) (reaction_to s e).node starting_node (λ z. eqb-false j (actor e) q (omega (arith, x.low)))) at m in
            m'.in_nodes j l (reach es v) refl

    messages_held : (es : List Event) (e : Event) (u : State) (k : Mark) → Accepted (run_by rule n lim es) e u k
        → EachGroup (λ g. Lacks (run_by rule n lim es) g → (forms k ≡ true) × (g ≡ coming (history_by rule n lim es) (actor e))) u.queue
    messages_held es e u k a =
        each_group New u.queue
        (subst (λ (w : State). All P w.queue) (sym a.state)
        (all_append P (remaining s e) (sent (reaction_to s e).outgoing)
        (all_remaining P s e (all_map (λ m f _ x. absurd (f x.in_messages)) s.queue (all_held s.queue)))
        (all_sent New (reaction_to s e).node.group.number (reaction_to s e).outgoing (group_sent s e) (by_mark (forms k) refl))))
      where
        s : State
        s = run_by rule n lim es

        New : ℕ → Type 0
        New g = Lacks s g → (forms k ≡ true) × (g ≡ coming (history_by rule n lim es) (actor e))

        P : Message → Type 0
        P m = carries_group m.kind ≡ true → New m.group.number

        by_mark : (b : Bool) → forms k ≡ b → New (reaction_to s e).node.group.number
        by_mark true f x = (f, formed_number es e k f a.clear a.mark)
        by_mark false f x =
            let y = event es e a.clear in
            absurd (source_held s e a.clear y.low y.high _ (group_source s e (rw (← a.mark) f)) x)

    collects : (es : List Event) (i : ℕ) (t : TaskNo) → Clear (run_by rule n lim es) (Finish i t) → Gathering (history_by rule n lim es) i (node_at (run_by rule n lim es) i).group.number
    collects es i t c =
        let x = event es (Finish i t) c in
        collecting_gathers (node_at (run_by rule n lim es) i).task.number (node_at (run_by rule n lim es) i).activity (not-false _ c.activity) ((good es).state.nodes i x.low x.high).busy

    growth : (es fs : List Event) → Grows (history_by rule n lim es) (history_by rule n lim (es ++ fs))
    growth es fs = rw (history_append blank (start_by rule n lim) es fs) (run_grows (history_by rule n lim es) (run_by rule n lim es) fs (good es))

-- in a run a node that collects, and is not Down, is its own coordinator: the group that it has is the one that it formed last
pub run_collects : (rule : PairRule) (n : ℕ) (lim : Limits) → n ≤ 16 → (es : List Event) (i : ℕ) → 1 ≤ i → i ≤ (run_by rule n lim es).n → is_down (node_at (run_by rule n lim es) i).status ≡ false
    → is_collecting (node_at (run_by rule n lim es) i).activity ≡ true → (node_at (run_by rule n lim es) i).coordinator ≡ i
run_collects rule n lim small es i low high up q =
    let ok = (good_run blank (start_by rule n lim) es (start_good rule n lim small)).state in
    let c = ok.nodes i low high in
    let own = (collecting_gathers (node_at (run_by rule n lim es) i).task.number (node_at (run_by rule n lim es) i).activity q c.busy).own in
    led_up (node_at (run_by rule n lim es) i).status _ _ up c.led ∙ ap owner_of own ∙ owner_of_lem ((history_by rule n lim es).count i) i (record { low = low; high = omega (arith, high, ok.size) })
