-- Where groups come from: a reaction that forms no group keeps its node's, or takes that of the message that it acts on; a message out carries its sender's.
use Prim.Native.Nat.{ℕ, ◌+◌}
use mathlib.Core.Bool.{Bool, true, false, ◌||◌, true≢false}
use mathlib.Core.Logic.{◌⊎◌, inl, inr}
use mathlib.Core.Path.{◌≡◌, refl, sym, ◌∙◌, ap}
use mathlib.Core.List.{List, [], ◌∷◌}
use Rattle.node_set.specs.NodeSet.{with}
use Rattle.model.specs.Pick.{pick, by_test}
use Rattle.model.specs.Node.{invited}
use Rattle.model.specs.Procedures.{recovers, invite_next, merges, hand_next, finishes, forward_next, asked_all, ask_at, ask_after}
use Rattle.model.specs.React.{checked, timed_out, ticked, expired, resumed, on_are_you_coordinator, on_are_you_there, on_invitation, on_accept, on_ready, on_reply, received, react}
use Rattle.model.specs.Range.{carries_group}
use Rattle.model.specs.State.{State, node_at, goes, waits, oldest}
use Rattle.model.specs.Step.{reaction_to, forms}
use Rattle.model.specs.Claims.{Unsent}
use Rattle.model.specs.declared.Activity.{Activity}
use Rattle.model.specs.declared.Activity.TheVariants.{Idle, Asking, Waiting, Inviting, Collecting, Handing, Contacting, Forwarding, Accepting}
use Rattle.model.specs.declared.Node.{Node}
use Rattle.model.specs.declared.CallNo.{CallNo}
use Rattle.model.specs.declared.TaskNo.{TaskNo}
use Rattle.model.specs.declared.Message.{Message}
use Rattle.std.specs.Prelude.{Option, None, Some}
use Rattle.model.specs.declared.Mark.{Mark}
use Rattle.model.specs.declared.Mark.TheVariants.{Plain, Merges}
use Rattle.model.specs.declared.Reaction.{Reaction}
use Rattle.model.specs.declared.Event.{Event}
use Rattle.model.specs.declared.Event.TheVariants.{Crash, Recover, Check, Timeout, Tick, Expire, Finish, Deliver, Lose}

-- ── marks ──
pub invite_next_mark : (i : ℕ) (c : Node) (k : Mark) (f o : ℕ) → (invite_next i c k f o).mark ≡ k
unfolding invite_next
invite_next_mark i c k f o = by_test (λ (r : Reaction). r.mark ≡ k) (λ _. refl) (λ _. by_test (λ (r : Reaction). r.mark ≡ k) (λ _. refl) (λ _. refl))

pub merges_mark : (i : ℕ) (c : Node) (f : ℕ) → (merges i c f).mark ≡ Merges
unfolding merges
merges_mark i c f = invite_next_mark i _ Merges f c.members

pub finish_mark : (i : ℕ) (c : Node) (t : TaskNo) → (finishes i c t).mark ≡ Plain
unfolding finishes hand_next
finish_mark i c t = by_test (λ (r : Reaction). r.mark ≡ Plain) (λ _. refl) (λ _. refl)

-- ── groups ──

-- the group g stays, where no group is formed
abbrev Keeps : ℕ → Reaction → Type 0
Keeps g r = forms r.mark ≡ false → r.node.group.number ≡ g

module _ (i : ℕ) (c : Node) where
  recovers_keeps : Keeps c.group.number (recovers i c)
  recovers_keeps f = absurd (true≢false f)

  merges_keeps : (f : ℕ) → Keeps c.group.number (merges i c f)
  merges_keeps f e = absurd (true≢false (sym (ap forms (merges_mark i c f)) ∙ e))

  invite_next_keeps : (f o : ℕ) → Keeps c.group.number (invite_next i c Plain f o)
  unfolding invite_next
  invite_next_keeps f o = by_test (Keeps _) (λ _ e. refl) (λ _. by_test (Keeps _) (λ _ e. refl) (λ _ e. refl))

  hand_next_keeps : (r : ℕ) → Keeps c.group.number (hand_next i c r)
  unfolding hand_next
  hand_next_keeps r = by_test (Keeps _) (λ _ e. refl) (λ _ e. refl)

  forward_next_keeps : (r a : ℕ) (k : CallNo) → Keeps c.group.number (forward_next i c r a k)
  unfolding forward_next
  forward_next_keeps r a k = by_test (Keeps _) (λ _ e. refl) (λ _ e. refl)

  ask_at_keeps : (n j f : ℕ) → Keeps c.group.number (ask_at n i c j f)
  unfolding ask_at asked_all
  ask_at_keeps n j f =
      by_test (Keeps _) (λ _ e. refl)
      (λ _. by_test (Keeps _) (λ _ e. refl) (λ _. by_test (Keeps _) (λ _ e. refl) (λ _. merges_keeps f)))

  ask_after_keeps : (n j f : ℕ) → Keeps c.group.number (ask_after n i c j f)
  unfolding ask_after
  ask_after_keeps n j f = by_test (Keeps _) (λ _. ask_at_keeps n (j + 2) f) (λ _. ask_at_keeps n (j + 1) f)

  checked_keeps : (n : ℕ) → Keeps c.group.number (checked n i c)
  unfolding checked
  checked_keeps n = by_test (Keeps _) (λ _. ask_after_keeps n 0 0) (λ _ e. refl)

  timed_out_keeps : Keeps c.group.number (timed_out i c)
  unfolding timed_out
  timed_out_keeps = by_test (Keeps _) (λ _ e. refl) (λ _ e. refl)

  ticked_keeps : (a : Activity) → Keeps c.group.number (ticked i c a)
  unfolding ticked
  ticked_keeps Idle = λ e. refl
  ticked_keeps (Asking a f) = λ e. refl
  ticked_keeps (Waiting k f) = by_test (Keeps _) (λ _. merges_keeps f) (λ _ e. refl)
  ticked_keeps (Inviting f o w) = λ e. refl
  ticked_keeps Collecting = λ e. refl
  ticked_keeps (Handing r w) = λ e. refl
  ticked_keeps Contacting = λ e. refl
  ticked_keeps (Forwarding r w a k) = λ e. refl
  ticked_keeps (Accepting a k) = λ e. refl

  expired_keeps : (n : ℕ) (a : Activity) → Keeps c.group.number (expired n i c a)
  unfolding expired
  expired_keeps n Idle = λ e. refl
  expired_keeps n (Asking a f) = ask_after_keeps n a f
  expired_keeps n (Waiting k f) = λ e. refl
  expired_keeps n (Inviting f o w) = invite_next_keeps f o
  expired_keeps n Collecting = λ e. refl
  expired_keeps n (Handing r w) = recovers_keeps
  expired_keeps n Contacting = recovers_keeps
  expired_keeps n (Forwarding r w a k) = forward_next_keeps r a k
  expired_keeps n (Accepting a k) = recovers_keeps

  resumed_keeps : (n : ℕ) (y : Bool) (a : Activity) → Keeps c.group.number (resumed n i c y a)
  unfolding resumed
  resumed_keeps n y Idle = λ e. refl
  resumed_keeps n y (Asking a f) = ask_after_keeps n a (pick y (with f a) f)
  resumed_keeps n y (Waiting k f) = λ e. refl
  resumed_keeps n y (Inviting f o w) = invite_next_keeps f o
  resumed_keeps n y Collecting = λ e. refl
  resumed_keeps n y (Handing r w) = hand_next_keeps r
  resumed_keeps n y Contacting = by_test (Keeps _) (λ _ e. refl) (λ _. recovers_keeps)
  resumed_keeps n y (Forwarding r w a k) = forward_next_keeps r a k
  resumed_keeps n y (Accepting a k) = λ e. refl

-- the group g, or that of the message
abbrev Takes : ℕ → Message → Reaction → Type 0
Takes g m r = forms r.mark ≡ false → (r.node.group.number ≡ g) ⊎ (r.node.group.number ≡ m.group.number)

received_takes : (n i : ℕ) (c : Node) (m : Message) → Takes c.group.number m (received n i c m)
unfolding received on_are_you_coordinator on_are_you_there on_invitation on_accept on_ready on_reply
received_takes n i c m =
    by_test P (λ _ e. inl refl)
    (λ _. by_test P (λ _ e. inl refl)
    (λ _. by_test P (λ _. by_test P (λ _ e. inl refl) (λ _ e. inr (forward_next_keeps i (invited c m.group) _ m.sender m.call e)))
    (λ _. by_test P (λ _ e. inl (by_test Same (λ _. refl) (λ _. refl)))
    (λ _. by_test P (λ _ e. inl (by_test Same (λ _. refl) (λ _. refl)))
    (λ _. by_test P (λ _. by_test P (λ _ e. inl (resumed_keeps i c n m.yes c.activity e)) (λ _ e. inl refl)) (λ _ e. inl refl))))))
  where
    P : Reaction → Type 0
    P r = Takes c.group.number m r

    Same : Node → Type 0
    Same d = d.group.number ≡ c.group.number

-- what an event takes its group from: the node's own, or that of the message delivered
abbrev pub Source : State → Event → ℕ → Type 0
Source s (Crash i) g = g ≡ (node_at s i).group.number
Source s (Recover i) g = g ≡ (node_at s i).group.number
Source s (Check i) g = g ≡ (node_at s i).group.number
Source s (Timeout i) g = g ≡ (node_at s i).group.number
Source s (Tick i) g = g ≡ (node_at s i).group.number
Source s (Expire i) g = g ≡ (node_at s i).group.number
Source s (Finish i t) g = g ≡ (node_at s i).group.number
Source s (Deliver a b) g = (g ≡ (node_at s b).group.number) ⊎ (g ≡ (oldest a b s.queue).group.number)
Source s (Lose a b) g = g ≡ (node_at s b).group.number

pub group_source : (s : State) (e : Event) → forms (reaction_to s e).mark ≡ false → Source s e (reaction_to s e).node.group.number
unfolding reaction_to react finishes
group_source s (Crash i) = λ e. refl
group_source s (Recover i) = recovers_keeps i (node_at s i)
group_source s (Check i) = checked_keeps i (node_at s i) s.n
group_source s (Timeout i) = timed_out_keeps i (node_at s i)
group_source s (Tick i) = ticked_keeps i (node_at s i) (node_at s i).activity
group_source s (Expire i) = expired_keeps i (node_at s i) s.n (node_at s i).activity
group_source s (Finish i t) = hand_next_keeps i _ (node_at s i).members
group_source s (Deliver a b) = received_takes s.n b (node_at s b) (oldest a b s.queue)
group_source s (Lose a b) = λ e. refl

-- a message that waits is in the queue
pub oldest_held : (a b : ℕ) (q : List Message) (g : ℕ) → waits a b q ≡ true → Unsent g q → (oldest a b q).group.number ≡ g → ⊥
unfolding waits oldest
oldest_held a b [] g w u = absurd (true≢false (sym w))
oldest_held a b (m ∷ ms) g w u =
    by_test (λ (x : Message). x.group.number ≡ g → ⊥) (λ _. u.0) (λ t. oldest_held a b ms g (later (goes a b m) (waits a b ms) t w) u.1)
  where
    later : (x y : Bool) → x ≡ false → (x || y) ≡ true → y ≡ true
    later true y t e = absurd (true≢false t)
    later false y t e = e

-- ── messages out ──

-- what is sent carries the group g, where it carries one
abbrev pub Carries : ℕ → Option Message → Type 0
Carries g None = Unit {0}
Carries g (Some m) = carries_group m.kind ≡ true → m.group.number ≡ g

-- and that is the group of the sender's record
abbrev Own : Reaction → Type 0
Own r = Carries r.node.group.number r.outgoing

module _ (i : ℕ) (c : Node) where
  invite_next_own : (k : Mark) (f o : ℕ) → Own (invite_next i c k f o)
  unfolding invite_next
  invite_next_own k f o = by_test Own (λ _ e. refl) (λ _. by_test Own (λ _ e. refl) (λ _. tt))

  hand_next_own : (r : ℕ) → Own (hand_next i c r)
  unfolding hand_next
  hand_next_own r = by_test Own (λ _. tt) (λ _ e. refl)

  forward_next_own : (r a : ℕ) (k : CallNo) → Own (forward_next i c r a k)
  unfolding forward_next
  forward_next_own r a k = by_test Own (λ _ e. refl) (λ _ e. refl)

module _ (i : ℕ) (c : Node) where
  merges_own : (f : ℕ) → Own (merges i c f)
  unfolding merges
  merges_own f = invite_next_own i _ Merges f c.members

  ask_at_own : (n j f : ℕ) → Own (ask_at n i c j f)
  unfolding ask_at asked_all
  ask_at_own n j f =
      by_test Own (λ _ e. absurd (true≢false (sym e)))
      (λ _. by_test Own (λ _. tt) (λ _. by_test Own (λ _. tt) (λ _. merges_own f)))

  ask_after_own : (n j f : ℕ) → Own (ask_after n i c j f)
  unfolding ask_after
  ask_after_own n j f = by_test Own (λ _. ask_at_own n (j + 2) f) (λ _. ask_at_own n (j + 1) f)

  checked_own : (n : ℕ) → Own (checked n i c)
  unfolding checked
  checked_own n = by_test Own (λ _. ask_after_own n 0 0) (λ _. tt)

  timed_out_own : Own (timed_out i c)
  unfolding timed_out
  timed_out_own = by_test Own (λ _. tt) (λ _ e. refl)

  ticked_own : (a : Activity) → Own (ticked i c a)
  unfolding ticked
  ticked_own Idle = tt
  ticked_own (Asking a f) = tt
  ticked_own (Waiting k f) = by_test Own (λ _. merges_own f) (λ _. tt)
  ticked_own (Inviting f o w) = tt
  ticked_own Collecting = tt
  ticked_own (Handing r w) = tt
  ticked_own Contacting = tt
  ticked_own (Forwarding r w a k) = tt
  ticked_own (Accepting a k) = tt

  expired_own : (n : ℕ) (a : Activity) → Own (expired n i c a)
  unfolding expired
  expired_own n Idle = tt
  expired_own n (Asking a f) = ask_after_own n a f
  expired_own n (Waiting k f) = tt
  expired_own n (Inviting f o w) = invite_next_own i c Plain f o
  expired_own n Collecting = tt
  expired_own n (Handing r w) = tt
  expired_own n Contacting = tt
  expired_own n (Forwarding r w a k) = forward_next_own i c r a k
  expired_own n (Accepting a k) = tt

  resumed_own : (n : ℕ) (y : Bool) (a : Activity) → Own (resumed n i c y a)
  unfolding resumed
  resumed_own n y Idle = tt
  resumed_own n y (Asking a f) = ask_after_own n a (pick y (with f a) f)
  resumed_own n y (Waiting k f) = tt
  resumed_own n y (Inviting f o w) = invite_next_own i c Plain f o
  resumed_own n y Collecting = tt
  resumed_own n y (Handing r w) = hand_next_own i c r
  resumed_own n y Contacting = by_test Own (λ _. tt) (λ _. tt)
  resumed_own n y (Forwarding r w a k) = forward_next_own i c r a k
  resumed_own n y (Accepting a k) = λ e. absurd (true≢false (sym e))

  received_own : (n : ℕ) (m : Message) → Own (received n i c m)
  unfolding received on_are_you_coordinator on_are_you_there on_invitation on_accept on_ready on_reply
  received_own n m =
      by_test Own (λ _ e. absurd (true≢false (sym e)))
      (λ _. by_test Own (λ _ e. absurd (true≢false (sym e)))
      (λ _. by_test Own (λ _. by_test Own (λ _ e. absurd (true≢false (sym e))) (λ _. forward_next_own i (invited c m.group) _ m.sender m.call))
      (λ _. by_test Own (λ _ e. absurd (true≢false (sym e)))
      (λ _. by_test Own (λ _ e. absurd (true≢false (sym e)))
      (λ _. by_test Own (λ _. by_test Own (λ _. resumed_own n m.yes c.activity) (λ _. tt)) (λ _. tt))))))

pub group_sent : (s : State) (e : Event) → Carries (reaction_to s e).node.group.number (reaction_to s e).outgoing
unfolding reaction_to react finishes
group_sent s (Crash i) = tt
group_sent s (Recover i) = tt
group_sent s (Check i) = checked_own i (node_at s i) s.n
group_sent s (Timeout i) = timed_out_own i (node_at s i)
group_sent s (Tick i) = ticked_own i (node_at s i) (node_at s i).activity
group_sent s (Expire i) = expired_own i (node_at s i) s.n (node_at s i).activity
group_sent s (Finish i t) = hand_next_own i _ (node_at s i).members
group_sent s (Deliver a b) = received_own b (node_at s b) s.n (oldest a b s.queue)
group_sent s (Lose a b) = tt
