-- A reaction of one node keeps the invariant: one lemma a procedure.
use Prim.Native.Nat.{ℕ, ◌+◌}
use native.Mathlib.Omega.{arith}
use mathlib.Core.Bool.{Bool, true, false, ◌&&◌, true≢false}
use mathlib.Core.Path.{◌≡◌, refl, sym, ◌∙◌, ap}
use lib.Dec.{eqb}
use borrow.Author.Tests.{eqb-true}
use Rattle.node_set.specs.NodeSet.{with}
use Rattle.model.specs.Pick.{pick, by_test}
use Rattle.model.specs.Node.{is_down, is_reorganization, is_collecting, owner_of, group_of, turned, calling, settled, tasked, merged, invited, replies}
use Rattle.model.specs.Procedures.{stays, answers, recovers, invite_next, merges, hand_next, finishes, forward_next, asked_all, ask_at, ask_after}
use Rattle.model.specs.React.{checked, timed_out, ticked, expired, resumed, on_are_you_coordinator, on_are_you_there, on_invitation, on_accept, on_ready, on_reply, received, react}
use Rattle.model.specs.History.{Entry, NoTask, Task, History, marked, newest, coming, formed}
use Rattle.model.proofs.Invariant.{updated_same, NodeNumber, Phase, Free, Gathers, Hands, phase, Gathering, Fixed, PhaseOk, Led, Counted, NodeOk, MessageOk, MarkOk, ReactionOk, owner_of_lem, counter_of_lem, tasked_newest}
use Rattle.model.specs.declared.Status.{Status}
use Rattle.model.specs.declared.Status.TheVariants.{Down, Election, Reorganization, Normal}
use Rattle.model.specs.declared.Activity.{Activity}
use Rattle.model.specs.declared.Activity.TheVariants.{Idle, Asking, Waiting, Inviting, Collecting, Handing, Contacting, Forwarding, Accepting}
use Rattle.model.specs.declared.Node.{Node}
use Rattle.model.specs.declared.CallNo.{CallNo}
use Rattle.model.specs.declared.TaskNo.{TaskNo}
use Rattle.model.specs.declared.Message.{Message}
use Rattle.model.specs.declared.Mark.{Mark}
use Rattle.model.specs.declared.Mark.TheVariants.{Plain, Merges}
use Rattle.model.specs.declared.Input.{Input}
use Rattle.model.specs.declared.Input.TheVariants.{Crash, Recover, Check, Timeout, Tick, Expire, Finish, Receive}

-- ── tests of two parts ──
pub both_left : (x y : Bool) → (x && y) ≡ true → x ≡ true
both_left true y e = refl
both_left false y e = e

pub both_right : (x y : Bool) → (x && y) ≡ true → y ≡ true
both_right true y e = e
both_right false y e = absurd (true≢false (sym e))

pub right_fails : (x : Bool) {y : Bool} → y ≡ false → x && y ≡ false
right_fails true e = e
right_fails false e = refl

-- who is not Down has its group's owner for its coordinator
pub led_up : (s : Status) (o g : ℕ) → is_down s ≡ false → Led o g s → o ≡ owner_of g
led_up Down o g e l = absurd (true≢false e)
led_up Election o g e l = l
led_up Reorganization o g e l = l
led_up Normal o g e l = l

-- who is in Reorganization is not Down
reorganizing_up : (s : Status) → is_reorganization s ≡ true → is_down s ≡ false
reorganizing_up Down e = absurd (true≢false (sym e))
reorganizing_up Election e = refl
reorganizing_up Reorganization e = refl
reorganizing_up Normal e = refl

-- a message without a group
none_counted : (h : History) → Counted h 0
none_counted h = omega arith

module _ {h : History} {i : ℕ} {c : Node} where
  turned_ok : (a : Activity) → NodeOk h i c → PhaseOk h i c.group.number c.task.number (phase a) → NodeOk h i (turned c a)
  turned_ok a ok p = record { counter = ok.counter; counted = ok.counted; led = ok.led; settled = ok.settled; busy = p }

  calling_ok : (a : Activity) → NodeOk h i c → PhaseOk h i c.group.number c.task.number (phase a) → NodeOk h i (calling c a)
  calling_ok a ok p = record { counter = ok.counter; counted = ok.counted; led = ok.led; settled = ok.settled; busy = p }

  -- Normal with a task that the history has for the group
  normal_ok : (t : TaskNo) → NodeOk h i c → is_down c.status ≡ false → Fixed h c.group.number t.number → NodeOk h i (tasked c Normal t)
  normal_ok t ok e f =
      record {
        counter = ok.counter;
        counted = ok.counted;
        led = led_up c.status c.coordinator c.group.number e ok.led;
        settled = f;
        busy = handed (phase c.activity) ok.busy;
      }
    where
      handed : (p : Phase) → PhaseOk h i c.group.number c.task.number p → PhaseOk h i c.group.number t.number p
      handed Free x = tt
      handed Gathers x = x
      handed Hands x = f

-- what an input brings, beside the node itself; finish is at the end
abbrev pub InputOk : History → Node → Input → Type 0
InputOk h c Crash = Unit {0}
InputOk h c Recover = Unit {0}
InputOk h c Check = Unit {0}
InputOk h c Timeout = Unit {0}
InputOk h c Tick = Unit {0}
InputOk h c Expire = Unit {0}
InputOk h c (Finish t) = ⊥
InputOk h c (Receive m) = (is_down c.status ≡ false) × MessageOk h m

module _ {h : History} {i : ℕ} (s : NodeNumber i) where
  reply_ok : (r : ℕ) (k : CallNo) (y : Bool) → MessageOk h (replies i r k y)
  reply_ok r k y = record { counted = none_counted h; ready = tt }

  pub stays_ok : {c : Node} → NodeOk h i c → ReactionOk h i (stays c)
  stays_ok ok = record { mark = tt; node = ok; outgoing = tt }

  answers_ok : {c : Node} (m : Message) (y : Bool) → NodeOk h i c → ReactionOk h i (answers i c m y)
  answers_ok m y ok = record { mark = tt; node = ok; outgoing = reply_ok m.sender m.call y }

  -- node i's next group, once formed
  fresh_counted : (c : Node) (e : Entry) → NodeOk h i c → Counted (formed h i e) (group_of (c.counter + 1) i)
  fresh_counted c e ok =
      rw (owner_of_lem (c.counter + 1) i s, counter_of_lem (c.counter + 1) i s, updated_same h.count i (h.count i + 1)) (omega (arith, ok.counter))

  fresh_entry : (c : Node) (e : Entry) → NodeOk h i c → (formed h i e).entry (group_of (c.counter + 1) i) ≡ e
  fresh_entry c e ok = rw (← ok.counter) (updated_same h.entry (coming h i) e)

  fresh_count : (c : Node) (e : Entry) → NodeOk h i c → (formed h i e).count i ≡ c.counter + 1
  fresh_count c e ok = updated_same h.count i (h.count i + 1) ∙ ap (◌+ 1) ok.counter

  fresh_number : (c : Node) → NodeOk h i c → group_of (c.counter + 1) i ≡ coming h i
  fresh_number c ok = ap (λ k. group_of (k + 1) i) (sym ok.counter)

  recovers_ok : (c : Node) → NodeOk h i c → ReactionOk h i (recovers i c)
  recovers_ok c ok =
      record {
        mark = fresh_number c ok;
        node = record {
          counter = fresh_count c (Task i) ok;
          counted = fresh_counted c (Task i) ok;
          led = sym (owner_of_lem (c.counter + 1) i s);
          settled = fresh_entry c (Task i) ok;
          busy = tt;
        };
        outgoing = tt;
      }

  invite_next_ok : (c : Node) (k : Mark) (f o : ℕ) → MarkOk h i c.group.number k → NodeOk (marked h i k) i c → Gathering (marked h i k) i c.group.number → ReactionOk h i (invite_next i c k f o)
  unfolding invite_next
  invite_next_ok c k f o m ok g =
      by_test (ReactionOk h i)
      (λ _. record { mark = m; node = calling_ok (Inviting _ _ _) ok g; outgoing = record { counted = ok.counted; ready = tt } })
      (λ _. by_test (ReactionOk h i)
      (λ _. record { mark = m; node = calling_ok (Inviting _ _ _) ok g; outgoing = record { counted = ok.counted; ready = tt } })
      (λ _. record { mark = m; node = turned_ok Collecting ok g; outgoing = tt }))

  merges_ok : (c : Node) (f : ℕ) → NodeOk h i c → ReactionOk h i (merges i c f)
  unfolding merges
  merges_ok c f ok =
      invite_next_ok (merged i c) Merges f c.members (fresh_number c ok)
      (record {
        counter = fresh_count c NoTask ok;
        counted = fresh_counted c NoTask ok;
        led = sym (owner_of_lem (c.counter + 1) i s);
        settled = tt;
        busy = tt;
      })
      (record { own = newest_is; undecided = rw (← newest_is) (fresh_entry c NoTask ok) })
    where
      newest_is : group_of (c.counter + 1) i ≡ newest (formed h i NoTask) i
      newest_is = ap (λ k. group_of k i) (sym (fresh_count c NoTask ok))

  hand_next_ok : (c : Node) (r : ℕ) → NodeOk h i c → is_down c.status ≡ false → Fixed h c.group.number c.task.number → ReactionOk h i (hand_next i c r)
  unfolding hand_next
  hand_next_ok c r ok e f =
      by_test (ReactionOk h i)
      (λ _. stays_ok (turned_ok Idle (normal_ok c.task ok e f) tt))
      (λ _. record { mark = tt; node = calling_ok (Handing _ _) ok f; outgoing = record { counted = ok.counted; ready = f } })

  forward_next_ok : (c : Node) (r a : ℕ) (k : CallNo) → NodeOk h i c → ReactionOk h i (forward_next i c r a k)
  unfolding forward_next
  forward_next_ok c r a k ok =
      by_test (ReactionOk h i)
      (λ _. record { mark = tt; node = calling_ok (Accepting a k) ok tt; outgoing = record { counted = ok.counted; ready = tt } })
      (λ _. record { mark = tt; node = calling_ok (Forwarding _ _ a k) ok tt; outgoing = record { counted = ok.counted; ready = tt } })

  asked_all_ok : (c : Node) (f : ℕ) → NodeOk h i c → ReactionOk h i (asked_all i c f)
  unfolding asked_all
  asked_all_ok c f ok =
      by_test (ReactionOk h i)
      (λ _. stays_ok (turned_ok Idle ok tt))
      (λ _. by_test (ReactionOk h i) (λ _. stays_ok (turned_ok (Waiting _ f) ok tt)) (λ _. merges_ok c f ok))

  ask_at_ok : (n : ℕ) (c : Node) (j f : ℕ) → NodeOk h i c → ReactionOk h i (ask_at n i c j f)
  unfolding ask_at
  ask_at_ok n c j f ok =
      by_test (ReactionOk h i)
      (λ _. record { mark = tt; node = calling_ok (Asking j f) ok tt; outgoing = record { counted = none_counted h; ready = tt } })
      (λ _. asked_all_ok c f ok)

  ask_after_ok : (n : ℕ) (c : Node) (j f : ℕ) → NodeOk h i c → ReactionOk h i (ask_after n i c j f)
  unfolding ask_after
  ask_after_ok n c j f ok = by_test (ReactionOk h i) (λ _. ask_at_ok n c (j + 2) f ok) (λ _. ask_at_ok n c (j + 1) f ok)

  checked_ok : (n : ℕ) (c : Node) → NodeOk h i c → ReactionOk h i (checked n i c)
  unfolding checked
  checked_ok n c ok = by_test (ReactionOk h i) (λ _. ask_after_ok n c 0 0 ok) (λ _. stays_ok ok)

  timed_out_ok : (c : Node) → NodeOk h i c → ReactionOk h i (timed_out i c)
  unfolding timed_out
  timed_out_ok c ok =
      by_test (ReactionOk h i)
      (λ _. stays_ok ok)
      (λ _. record { mark = tt; node = calling_ok Contacting ok tt; outgoing = record { counted = ok.counted; ready = tt } })

  ticked_ok : (c : Node) (a : Activity) → NodeOk h i c → ReactionOk h i (ticked i c a)
  unfolding ticked
  ticked_ok c Idle ok = stays_ok ok
  ticked_ok c (Asking a f) ok = stays_ok ok
  ticked_ok c (Waiting k f) ok = by_test (ReactionOk h i) (λ _. merges_ok c f ok) (λ _. stays_ok (turned_ok (Waiting _ f) ok tt))
  ticked_ok c (Inviting f o w) ok = stays_ok ok
  ticked_ok c Collecting ok = stays_ok ok
  ticked_ok c (Handing r w) ok = stays_ok ok
  ticked_ok c Contacting ok = stays_ok ok
  ticked_ok c (Forwarding r w a k) ok = stays_ok ok
  ticked_ok c (Accepting a k) ok = stays_ok ok

  expired_ok : (n : ℕ) (c : Node) (a : Activity) → NodeOk h i c → PhaseOk h i c.group.number c.task.number (phase a) → ReactionOk h i (expired n i c a)
  unfolding expired
  expired_ok n c Idle ok p = stays_ok ok
  expired_ok n c (Asking a f) ok p = ask_after_ok n c a f ok
  expired_ok n c (Waiting k f) ok p = stays_ok ok
  expired_ok n c (Inviting f o w) ok p = invite_next_ok c Plain f o tt ok p
  expired_ok n c Collecting ok p = stays_ok ok
  expired_ok n c (Handing r w) ok p = recovers_ok c ok
  expired_ok n c Contacting ok p = recovers_ok c ok
  expired_ok n c (Forwarding r w a k) ok p = forward_next_ok c r a k ok
  expired_ok n c (Accepting a k) ok p = recovers_ok c ok

  resumed_ok : (n : ℕ) (c : Node) (y : Bool) (a : Activity) → is_down c.status ≡ false → NodeOk h i c → PhaseOk h i c.group.number c.task.number (phase a) → ReactionOk h i (resumed n i c y a)
  unfolding resumed
  resumed_ok n c y Idle e ok p = stays_ok ok
  resumed_ok n c y (Asking a f) e ok p = ask_after_ok n c a (pick y (with f a) f) ok
  resumed_ok n c y (Waiting k f) e ok p = stays_ok ok
  resumed_ok n c y (Inviting f o w) e ok p = invite_next_ok c Plain f o tt ok p
  resumed_ok n c y Collecting e ok p = stays_ok ok
  resumed_ok n c y (Handing r w) e ok p = hand_next_ok c r ok e p
  resumed_ok n c y Contacting e ok p = by_test (ReactionOk h i) (λ _. stays_ok (turned_ok Idle ok tt)) (λ _. recovers_ok c ok)
  resumed_ok n c y (Forwarding r w a k) e ok p = forward_next_ok c r a k ok
  resumed_ok n c y (Accepting a k) e ok p =
      record {
        mark = tt;
        node = record {
          counter = ok.counter;
          counted = ok.counted;
          led = led_up c.status c.coordinator c.group.number e ok.led;
          settled = tt;
          busy = tt;
        };
        outgoing = reply_ok a k true;
      }

  -- a group taken from an invitation
  invited_ok : (c : Node) (m : Message) → NodeOk h i c → MessageOk h m → NodeOk h i (invited c m.group)
  invited_ok c m ok mk = record { counter = ok.counter; counted = mk.counted; led = refl; settled = tt; busy = tt }

  on_invitation_ok : (c : Node) (m : Message) → NodeOk h i c → MessageOk h m → ReactionOk h i (on_invitation i c m)
  unfolding on_invitation
  on_invitation_ok c m ok mk =
      by_test (ReactionOk h i)
      (λ _. answers_ok m true ok)
      (λ _. forward_next_ok (invited c m.group) _ m.sender m.call (invited_ok c m ok mk))

  on_accept_ok : (c : Node) (m : Message) → NodeOk h i c → ReactionOk h i (on_accept i c m)
  unfolding on_accept
  on_accept_ok c m ok =
      answers_ok m true
      (by_test (NodeOk h i)
      (λ _. record { counter = ok.counter; counted = ok.counted; led = ok.led; settled = ok.settled; busy = ok.busy })
      (λ _. ok))

  on_ready_ok : (c : Node) (m : Message) → eqb m.kind 5 ≡ true → NodeOk h i c → MessageOk h m → ReactionOk h i (on_ready i c m)
  unfolding on_ready
  on_ready_ok c m q ok mk =
      answers_ok m true
      (by_test (NodeOk h i)
      (λ r. normal_ok m.task ok (reorganizing_up c.status (both_left (is_reorganization c.status) _ r)) (fixed (both_right (is_reorganization c.status) _ r)))
      (λ _. ok))
    where
      fixed : eqb c.group.number m.group.number ≡ true → Fixed h c.group.number m.task.number
      fixed g = ap h.entry (eqb-true c.group.number m.group.number g) ∙ (rw q at mk.ready)

  on_reply_ok : (n : ℕ) (c : Node) (m : Message) → is_down c.status ≡ false → NodeOk h i c → ReactionOk h i (on_reply n i c m)
  unfolding on_reply
  on_reply_ok n c m e ok = by_test (ReactionOk h i) (λ _. resumed_ok n c m.yes c.activity e ok ok.busy) (λ _. stays_ok ok)

  pub received_ok : (n : ℕ) (c : Node) (m : Message) → is_down c.status ≡ false → NodeOk h i c → MessageOk h m → ReactionOk h i (received n i c m)
  unfolding received on_are_you_coordinator on_are_you_there
  received_ok n c m e ok mk =
      by_test (ReactionOk h i) (λ _. answers_ok m _ ok)
      (λ _. by_test (ReactionOk h i) (λ _. answers_ok m _ ok)
      (λ _. by_test (ReactionOk h i) (λ _. on_invitation_ok c m ok mk)
      (λ _. by_test (ReactionOk h i) (λ _. on_accept_ok c m ok)
      (λ _. by_test (ReactionOk h i) (λ q. on_ready_ok c m q ok mk)
      (λ _. by_test (ReactionOk h i) (λ _. on_reply_ok n c m e ok) (λ _. stays_ok ok))))))

  crashed_ok : (c : Node) → NodeOk h i c → NodeOk h i (settled c Down)
  crashed_ok c ok = record { counter = ok.counter; counted = ok.counted; led = tt; settled = tt; busy = tt }

  pub react_ok : (n : ℕ) (c : Node) (x : Input) → NodeOk h i c → InputOk h c x → ReactionOk h i (react n i c x)
  unfolding react
  react_ok n c Crash ok x = stays_ok (crashed_ok c ok)
  react_ok n c Recover ok x = recovers_ok c ok
  react_ok n c Check ok x = checked_ok n c ok
  react_ok n c Timeout ok x = timed_out_ok c ok
  react_ok n c Tick ok x = ticked_ok c c.activity ok
  react_ok n c Expire ok x = expired_ok n c c.activity ok ok.busy
  react_ok n c (Finish t) ok x = absurd x
  react_ok n c (Receive m) ok x = received_ok n c m x.0 ok x.1

-- a collecting node's group is the one it formed last, without a task
pub collecting_gathers : {h : History} {i g : ℕ} (t : ℕ) (a : Activity) → is_collecting a ≡ true → PhaseOk h i g t (phase a) → Gathering h i g
collecting_gathers t Idle e p = absurd (true≢false (sym e))
collecting_gathers t (Asking a f) e p = absurd (true≢false (sym e))
collecting_gathers t (Waiting k f) e p = absurd (true≢false (sym e))
collecting_gathers t (Inviting f o w) e p = p
collecting_gathers t Collecting e p = p
collecting_gathers t (Handing r w) e p = absurd (true≢false (sym e))
collecting_gathers t Contacting e p = absurd (true≢false (sym e))
collecting_gathers t (Forwarding r w a k) e p = absurd (true≢false (sym e))
collecting_gathers t (Accepting a k) e p = absurd (true≢false (sym e))

-- A finish, over the history in which the group has its task now.
pub finish_ok : {h : History} {i : ℕ} (s : NodeNumber i) (n : ℕ) (c : Node) (t : TaskNo) → is_down c.status ≡ false → NodeOk h i c → Gathering h i c.group.number
    → ReactionOk (tasked_newest h i t.number) i (react n i c (Finish t))
unfolding react finishes hand_next
finish_ok {h} {i} s n c t e ok g =
    by_test (ReactionOk (tasked_newest h i t.number) i)
    (λ _. stays_ok s (record { counter = ok.counter; counted = ok.counted; led = led; settled = fixed; busy = tt }))
    (λ _. record {
      mark = tt;
      node = record { counter = ok.counter; counted = ok.counted; led = led; settled = tt; busy = fixed };
      outgoing = record { counted = ok.counted; ready = fixed };
    })
  where
    led : c.coordinator ≡ owner_of c.group.number
    led = led_up c.status c.coordinator c.group.number e ok.led

    fixed : Fixed (tasked_newest h i t.number) c.group.number t.number
    fixed = rw g.own (updated_same h.entry (newest h i) (Task t.number))
