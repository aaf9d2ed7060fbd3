-- Calls and answers of one node: a call takes a new call number, and a reply is given for the call that is delivered or for the one that is due an answer.
-- One lemma a procedure.
use Prim.Native.Nat.{ℕ, ◌+◌, ◌<◌, ◌≤◌}
use native.Mathlib.Omega.{arith}
use mathlib.Core.Bool.{Bool, true, false, not, ◌&&◌}
use mathlib.Core.Path.{◌≡◌, refl}
use lib.Dec.{eqb, ltb}
use borrow.Author.Tests.{eqb-true, lt-ltb}
use Rattle.node_set.specs.NodeSet.{with}
use Rattle.model.specs.Pick.{pick, by_test}
use Rattle.model.specs.Counts.{one}
use Rattle.model.specs.Node.{turned, calling, settled, tasked, merged, invited}
use Rattle.model.specs.Procedures.{reaction, stays, answers, recovers, invite_next, merges, hand_next, finishes, forward_next, asked_all, ask_at, ask_after}
use Rattle.model.specs.React.{checked, timed_out, ticked, expired, resumed, on_are_you_coordinator, on_are_you_there, on_invitation, on_accept, on_ready, on_reply, received, react}
use Rattle.model.specs.declared.Status.TheVariants.{Down, Reorganization, Normal}
use Rattle.model.specs.declared.Activity.{Activity}
use Rattle.model.specs.declared.Activity.TheVariants.{Idle, Asking, Waiting, Inviting, Collecting, Handing, Contacting, Forwarding, Accepting}
use Rattle.model.specs.declared.Node.{Node}
use Rattle.model.specs.declared.CallNo.{CallNo}
use Rattle.model.specs.declared.Message.{Message}
use Rattle.std.specs.Prelude.{Option, None, Some}
use Rattle.model.specs.declared.Mark.{Mark}
use Rattle.model.specs.declared.Mark.TheVariants.{Plain, Merges}
use Rattle.model.specs.declared.Reaction.{Reaction}
use Rattle.model.specs.declared.Input.{Input}
use Rattle.model.specs.declared.Input.TheVariants.{Crash, Recover, Check, Timeout, Tick, Expire, Finish, Receive}

pub one_small : (t : Bool) → one t ≤ 1
one_small true = omega arith
one_small false = omega arith

-- the answer that is due to b: forwarding and accepting are for a caller
abbrev pub due : ℕ → Activity → ℕ
due b Idle = 0
due b (Asking asked found) = 0
due b (Waiting ticks found) = 0
due b (Inviting found former now) = 0
due b Collecting = 0
due b (Handing rest now) = 0
due b Contacting = 0
due b (Forwarding rest now caller call) = one (eqb caller b)
due b (Accepting caller call) = one (eqb caller b)

-- a call to b that is sent, and a reply to b
abbrev pub call_to : ℕ → Option Message → ℕ
call_to b None = 0
call_to b (Some m) = one (ltb m.kind 6 && eqb m.receiver b)

abbrev pub reply_to : ℕ → Option Message → ℕ
reply_to b None = 0
reply_to b (Some m) = one (not (ltb m.kind 6) && eqb m.receiver b)

-- what is sent is from node i
abbrev pub From : ℕ → Option Message → Type 0
From i None = Unit {0}
From i (Some m) = m.sender ≡ i

-- the call from b that an input is
abbrev pub call_from : ℕ → Input → ℕ
call_from b Crash = 0
call_from b Recover = 0
call_from b Check = 0
call_from b Timeout = 0
call_from b Tick = 0
call_from b Expire = 0
call_from b (Finish t) = 0
call_from b (Receive m) = one (ltb m.kind 6 && eqb m.sender b)

-- what a reaction of node i due: l is the last call number before it, and w b as many answers as may be given or due to b
pub record WithinDue (i l : ℕ) (w : ℕ → ℕ) (r : Reaction) : Type 0 where
  pub from : From i r.outgoing
  pub numbered : (b : ℕ) → l + call_to b r.outgoing ≤ r.node.last.number
  pub answered : (b : ℕ) → reply_to b r.outgoing + due b r.node.activity ≤ w b

module _ {i : ℕ} {w : ℕ → ℕ} where
  -- nothing sent
  quiet : (d : Node) (k : Mark) → ((b : ℕ) → due b d.activity ≤ w b) → WithinDue i d.last.number w (reaction d None k)
  quiet d k h = record { from = tt; numbered = λ b. omega arith; answered = λ b. omega (arith, h b) }

  -- a call, with a new number
  called : (c : Node) (a : Activity) (m : Message) (k : Mark) → m.sender ≡ i → ltb m.kind 6 ≡ true → ((b : ℕ) → due b a ≤ w b)
      → WithinDue i c.last.number w (reaction (calling c a) (Some m) k)
  called c a m k e q h =
      record {
        from = e;
        numbered = λ b. omega (arith, one_small (ltb m.kind 6 && eqb m.receiver b));
        answered = λ b. rw q (omega (arith, h b));
      }

  recovers_within : (c : Node) → WithinDue i c.last.number w (recovers i c)
  recovers_within c = record { from = tt; numbered = λ b. omega arith; answered = λ b. omega arith }

  invite_next_within : (c : Node) (k : Mark) (f o : ℕ) → WithinDue i c.last.number w (invite_next i c k f o)
  unfolding invite_next
  invite_next_within c k f o =
      by_test (WithinDue i c.last.number w)
      (λ _. called c (Inviting _ _ _) _ k refl refl (λ b. omega arith))
      (λ _. by_test (WithinDue i c.last.number w)
      (λ _. called c (Inviting _ _ _) _ k refl refl (λ b. omega arith))
      (λ _. quiet (turned c Collecting) k (λ b. omega arith)))

  merges_within : (c : Node) (f : ℕ) → WithinDue i c.last.number w (merges i c f)
  unfolding merges
  merges_within c f = invite_next_within (merged i c) Merges f c.members

  hand_next_within : (c : Node) (r : ℕ) → WithinDue i c.last.number w (hand_next i c r)
  unfolding hand_next
  hand_next_within c r =
      by_test (WithinDue i c.last.number w)
      (λ _. quiet (settled c Normal) Plain (λ b. omega arith))
      (λ _. called c (Handing _ _) _ Plain refl refl (λ b. omega arith))

  forward_next_within : (c : Node) (r a : ℕ) (k : CallNo) → ((b : ℕ) → one (eqb a b) ≤ w b) → WithinDue i c.last.number w (forward_next i c r a k)
  unfolding forward_next
  forward_next_within c r a k h =
      by_test (WithinDue i c.last.number w)
      (λ _. called c (Accepting a k) _ Plain refl refl h)
      (λ _. called c (Forwarding _ _ a k) _ Plain refl refl h)

  asked_all_within : (c : Node) (f : ℕ) → WithinDue i c.last.number w (asked_all i c f)
  unfolding asked_all
  asked_all_within c f =
      by_test (WithinDue i c.last.number w)
      (λ _. quiet (turned c Idle) Plain (λ b. omega arith))
      (λ _. by_test (WithinDue i c.last.number w) (λ _. quiet (turned c (Waiting _ f)) Plain (λ b. omega arith)) (λ _. merges_within c f))

  ask_at_within : (n : ℕ) (c : Node) (j f : ℕ) → WithinDue i c.last.number w (ask_at n i c j f)
  unfolding ask_at
  ask_at_within n c j f =
      by_test (WithinDue i c.last.number w) (λ _. called c (Asking j f) _ Plain refl refl (λ b. omega arith)) (λ _. asked_all_within c f)

  ask_after_within : (n : ℕ) (c : Node) (j f : ℕ) → WithinDue i c.last.number w (ask_after n i c j f)
  unfolding ask_after
  ask_after_within n c j f = by_test (WithinDue i c.last.number w) (λ _. ask_at_within n c (j + 2) f) (λ _. ask_at_within n c (j + 1) f)

  -- ── where the node's own debts are covered ──
  module _ (c : Node) (h : (b : ℕ) → due b c.activity ≤ w b) where
    kept_within : WithinDue i c.last.number w (stays c)
    kept_within = quiet c Plain h

    checked_within : (n : ℕ) → WithinDue i c.last.number w (checked n i c)
    unfolding checked
    checked_within n = by_test (WithinDue i c.last.number w) (λ _. ask_after_within n c 0 0) (λ _. kept_within)

    timed_out_within : WithinDue i c.last.number w (timed_out i c)
    unfolding timed_out
    timed_out_within = by_test (WithinDue i c.last.number w) (λ _. kept_within) (λ _. called c Contacting _ Plain refl refl (λ b. omega arith))

    ticked_within : (a : Activity) → WithinDue i c.last.number w (ticked i c a)
    unfolding ticked
    ticked_within Idle = kept_within
    ticked_within (Asking a f) = kept_within
    ticked_within (Waiting k f) =
        by_test (WithinDue i c.last.number w) (λ _. merges_within c f) (λ _. quiet (turned c (Waiting _ f)) Plain (λ b. omega arith))
    ticked_within (Inviting f o x) = kept_within
    ticked_within Collecting = kept_within
    ticked_within (Handing r x) = kept_within
    ticked_within Contacting = kept_within
    ticked_within (Forwarding r x a k) = kept_within
    ticked_within (Accepting a k) = kept_within

    expired_within : (n : ℕ) (a : Activity) → ((b : ℕ) → due b a ≤ w b) → WithinDue i c.last.number w (expired n i c a)
    unfolding expired
    expired_within n Idle d = kept_within
    expired_within n (Asking a f) d = ask_after_within n c a f
    expired_within n (Waiting k f) d = kept_within
    expired_within n (Inviting f o x) d = invite_next_within c Plain f o
    expired_within n Collecting d = kept_within
    expired_within n (Handing r x) d = recovers_within c
    expired_within n Contacting d = recovers_within c
    expired_within n (Forwarding r x a k) d = forward_next_within c r a k d
    expired_within n (Accepting a k) d = recovers_within c

    resumed_within : (n : ℕ) (y : Bool) (a : Activity) → ((b : ℕ) → due b a ≤ w b) → WithinDue i c.last.number w (resumed n i c y a)
    unfolding resumed
    resumed_within n y Idle d = kept_within
    resumed_within n y (Asking a f) d = ask_after_within n c a (pick y (with f a) f)
    resumed_within n y (Waiting k f) d = kept_within
    resumed_within n y (Inviting f o x) d = invite_next_within c Plain f o
    resumed_within n y Collecting d = kept_within
    resumed_within n y (Handing r x) d = hand_next_within c r
    resumed_within n y Contacting d = by_test (WithinDue i c.last.number w) (λ _. quiet (turned c Idle) Plain (λ b. omega arith)) (λ _. recovers_within c)
    resumed_within n y (Forwarding r x a k) d = forward_next_within c r a k d
    -- the answer that was due is given
    resumed_within n y (Accepting a k) d = record { from = refl; numbered = λ b. omega arith; answered = λ b. omega (arith, d b) }

    on_reply_within : (n : ℕ) (m : Message) → WithinDue i c.last.number w (on_reply n i c m)
    unfolding on_reply
    on_reply_within n m = by_test (WithinDue i c.last.number w) (λ _. resumed_within n m.yes c.activity h) (λ _. kept_within)

  -- ── where one more answer may be given to the sender of m ──
  module _ (c : Node) (m : Message) (h : (b : ℕ) → one (eqb m.sender b) + due b c.activity ≤ w b) where
    answers_within : (d : Node) (y : Bool) → d.last.number ≡ c.last.number → d.activity ≡ c.activity → WithinDue i c.last.number w (answers i d m y)
    answers_within d y l a = record { from = refl; numbered = λ b. omega (arith, l); answered = λ b. rw a (h b) }

    on_invitation_within : WithinDue i c.last.number w (on_invitation i c m)
    unfolding on_invitation
    on_invitation_within =
        by_test (WithinDue i c.last.number w)
        (λ _. answers_within c true refl refl)
        (λ _. forward_next_within (invited c m.group) _ m.sender m.call (λ b. omega (arith, h b)))

    on_accept_within : WithinDue i c.last.number w (on_accept i c m)
    unfolding on_accept
    on_accept_within = answers_within _ true (by_test (λ (d : Node). d.last.number ≡ c.last.number) (λ _. refl) (λ _. refl)) (by_test (λ (d : Node). d.activity ≡ c.activity) (λ _. refl) (λ _. refl))

    on_ready_within : WithinDue i c.last.number w (on_ready i c m)
    unfolding on_ready
    on_ready_within = answers_within _ true (by_test (λ (d : Node). d.last.number ≡ c.last.number) (λ _. refl) (λ _. refl)) (by_test (λ (d : Node). d.activity ≡ c.activity) (λ _. refl) (λ _. refl))

-- as many answers as may be given to b: what the node due it, and what the input asks for
abbrev pub DueWith : Node → Input → ℕ → ℕ
DueWith c x b = due b c.activity + call_from b x

module _ (n i : ℕ) (c : Node) where
  received_within : (m : Message) → WithinDue i c.last.number (DueWith c (Receive m)) (received n i c m)
  unfolding received on_are_you_coordinator on_are_you_there
  received_within m =
      by_test P (λ q. answers_within c m (asked 1 (omega arith) q) c _ refl refl)
      (λ _. by_test P (λ q. answers_within c m (asked 2 (omega arith) q) c _ refl refl)
      (λ _. by_test P (λ q. on_invitation_within c m (asked 3 (omega arith) q))
      (λ _. by_test P (λ q. on_accept_within c m (asked 4 (omega arith) q))
      (λ _. by_test P (λ q. on_ready_within c m (asked 5 (omega arith) q))
      (λ _. by_test P (λ _. on_reply_within c (λ b. omega arith) n m) (λ _. kept_within c (λ b. omega arith)))))))
    where
      P : Reaction → Type 0
      P r = WithinDue i c.last.number (DueWith c (Receive m)) r

      -- the message is a call
      asked : (k : ℕ) → k < 6 → eqb m.kind k ≡ true → (b : ℕ) → one (eqb m.sender b) + due b c.activity ≤ DueWith c (Receive m) b
      asked k h q b = rw (lt-ltb m.kind 6 (omega (arith, eqb-true m.kind k q))) (omega arith)

  pub react_within : (x : Input) → WithinDue i c.last.number (DueWith c x) (react n i c x)
  unfolding react finishes
  react_within Crash = quiet (settled c Down) Plain (λ b. omega arith)
  react_within Recover = recovers_within c
  react_within Check = checked_within c (λ b. omega arith) n
  react_within Timeout = timed_out_within c (λ b. omega arith)
  react_within Tick = ticked_within c (λ b. omega arith) c.activity
  react_within Expire = expired_within c (λ b. omega arith) n c.activity (λ b. omega arith)
  react_within (Finish t) = hand_next_within (tasked c Reorganization t) c.members
  react_within (Receive m) = received_within m
