-- A reaction of one node keeps the range, where the grounds of the ends of ranges do not apply: one lemma a procedure.
use Prim.Native.Nat.{ℕ, ◌+◌, ◌-◌, ◌<◌, ◌≤◌}
use native.Mathlib.Omega.{arith}
use mathlib.Core.Bool.{Bool, true, false, not, ◌&&◌, ◌||◌, true≢false}
use mathlib.Core.Logic.{◌⊎◌, inl, inr}
use mathlib.Core.Path.{◌≡◌, refl, sym, ◌∙◌, ap}
use lib.Dec.{eqb}
use borrow.Author.Tests.{eqb-true, eqb-false, eq-eqb, ne_eqb, le-leb, leb-true, ltb-true, lt-ltb, not-true}
use Rattle.node_set.specs.NodeSet.{with, without, highest}
use Rattle.node_set.proofs.Laws.{within_word, empty_within, empty_lacks, highest_in, with_within, with_lacks, without_within, without_lacks}
use Rattle.model.specs.Pick.{pick, by_test}
use Rattle.model.specs.Limits.{counter_end, call_end, tick_end, task_low, task_end}
use Rattle.model.specs.Node.{is_down, owner_of, group_of, next_call, turned, calling, settled, tasked, joined, merged, invited, asks, calls, readies, replies}
use Rattle.model.specs.Recovery.{recovered}
use Rattle.model.specs.Procedures.{reaction, stays, answers, recovers, next, invite_next, merges, hand_next, finishes, forward_next, asked_all, ask_at, ask_after}
use Rattle.model.specs.React.{checked, timed_out, ticked, expired, resumed, on_are_you_coordinator, on_are_you_there, on_invitation, on_accept, on_ready, on_reply, received, react}
use Rattle.model.specs.Range.{is_other, is_set_of_others, is_group, is_given_task, is_call, activity_in_range, node_in_range, is_group_or_none, is_led, carries_group, message_in_range}
use Rattle.model.specs.Step.{forms, is_calling}
use Rattle.model.proofs.Invariant.{NodeNumber, owner_of_lem, counter_of_lem}
use Rattle.model.proofs.Next.{next_in, next_other}
use Rattle.model.proofs.Origin.{merges_mark}
use Rattle.model.proofs.Invitation.{acts_not_owned}
use Rattle.model.proofs.Fields.{IsNode, IsOther, IsSetOfOthers, IsGroup, IsGivenTask, IsCall, Busy, NodeFacts, MessageFacts}
use Rattle.model.specs.declared.Status.{Status}
use Rattle.model.specs.declared.Status.TheVariants.{Down, Election, Reorganization, Normal}
use Rattle.model.specs.declared.Activity.{Activity}
use Rattle.model.specs.declared.Activity.TheVariants.{Idle, Asking, Waiting, Inviting, Collecting, Handing, Contacting, Forwarding, Accepting}
use Rattle.model.specs.declared.Node.{Node}
use Rattle.model.specs.declared.CallNo.{CallNo}
use Rattle.model.specs.declared.Message.{Message}
use Rattle.std.specs.Prelude.{Option, None, Some}
use Rattle.model.specs.declared.Mark.{Mark}
use Rattle.model.specs.declared.Mark.TheVariants.{Plain, Merges}
use Rattle.model.specs.declared.Reaction.{Reaction}
use Rattle.model.specs.declared.Input.{Input}
use Rattle.model.specs.declared.Input.TheVariants.{Crash, Recover, Check, Timeout, Tick, Expire, Finish, Receive}

-- ── facts make tests hold ──
pub both : (x y : Bool) → x ≡ true → y ≡ true → (x && y) ≡ true
both true y p q = q
both false y p q = p

-- one of two holds, where the second does unless the first does
pub unless : (x y : Bool) → (x ≡ false → y ≡ true) → (x || y) ≡ true
unless true y f = refl
unless false y f = f refl

-- y holds where x does
implied : (x y : Bool) → (x ≡ true → y ≡ true) → (not x || y) ≡ true
implied true y f = f refl
implied false y f = refl

pub is_other_lem : (n i j : ℕ) → IsOther n i j → is_other n i j ≡ true
is_other_lem n i j x = simp (le-leb 1 j x.low, le-leb j n x.high, ne_eqb j i x.other)

pub is_set : (n i s : ℕ) → IsSetOfOthers n i s → is_set_of_others n i s ≡ true
is_set n i s x = simp (x.inside, x.lacks)

is_group_lem : (n g : ℕ) → IsGroup n g → is_group n g ≡ true
is_group_lem n g x = simp (le-leb 1 _ x.low, le-leb _ counter_end x.high, le-leb _ n x.owner)

is_given : (t : ℕ) → IsGivenTask t → is_given_task t ≡ true
is_given t x = simp (le-leb task_low t x.low, le-leb t task_end x.high)

is_call_lem : (k : ℕ) → IsCall k → is_call k ≡ true
is_call_lem k x = simp (le-leb 1 k x.low, le-leb k call_end x.high)

is_busy : (n i g t : ℕ) (a : Activity) → Busy n i g t a → activity_in_range n i g t a ≡ true
unfolding activity_in_range
is_busy n i g t Idle b = refl
is_busy n i g t (Asking a f) b = simp (is_other_lem n i a b.0, is_set n i f b.1)
is_busy n i g t (Waiting k f) b = simp (le-leb 1 k b.0, le-leb k tick_end b.1, is_set n i f b.2)
is_busy n i g t (Inviting f o w) b = simp (is_set n i f b.0, is_set n i o b.1, is_other_lem n i w b.2)
is_busy n i g t Collecting b = refl
is_busy n i g t (Handing s w) b = simp (is_set n i s b.0, is_other_lem n i w b.1, is_given t b.2)
is_busy n i g t Contacting b = refl
is_busy n i g t (Forwarding s w a k) b =
    simp (is_set n i s b.0, is_other_lem n i w b.1, is_other_lem n i a b.2, is_call_lem _ b.3, ne_eqb _ i b.4)
is_busy n i g t (Accepting a k) b = simp (is_other_lem n i a b.0, is_call_lem _ b.1, ne_eqb _ i b.2)

pub is_node_lem : (n i : ℕ) (c : Node) → NodeFacts n i c → node_in_range n i c ≡ true
unfolding node_in_range
is_node_lem n i c x =
    rw (
      le-leb _ counter_end x.counter,
      named x.group,
      le-leb _ n x.coordinator,
      le-leb _ task_end x.task,
      is_set n i _ x.members,
      le-leb _ call_end x.last,
      led,
      implied (is_down c.status) _ x.idle,
      is_busy n i _ _ _ x.activity,
    )
  where
    named : (c.group.number ≡ 0) ⊎ IsGroup n c.group.number → is_group_or_none n c.group.number ≡ true
    named (inl e) = unless (eqb c.group.number 0) _ (λ f. absurd (eqb-false _ 0 f e))
    named (inr g) = unless (eqb c.group.number 0) _ (λ f. is_group_lem n _ g)

    led : is_led n (is_down c.status) c.group.number c.coordinator ≡ true
    led = unless (is_down c.status) _ (λ u. simp (is_group_lem n _ (x.grouped u), eq-eqb _ _ (x.led u)))

pub is_message_lem : (n : ℕ) (m : Message) → MessageFacts n m → message_in_range n m ≡ true
unfolding message_in_range
is_message_lem n m x =
    rw (
      le-leb 1 _ x.sender.low,
      le-leb _ n x.sender.high,
      is_other_lem n _ _ x.receiver,
      le-leb 1 _ x.kind_low,
      le-leb _ 6 x.kind_high,
      is_call_lem _ x.call,
      implied (carries_group m.kind) _ (λ e. is_group_lem n _ (x.group e)),
      implied (eqb m.kind 5) _ (λ e. is_given _ (x.task e)),
    )

-- ── what a procedure keeps ──

-- node i of n
pub record Numbered (n i : ℕ) : Type 0 where
  pub low : 1 ≤ i
  pub high : i ≤ n
  pub small : n ≤ 16

-- the fields of a node that is not Down, but for its activity
pub record Up (n i : ℕ) (a : Status) (k g o t m l : ℕ) : Type 0 where
  pub up : is_down a ≡ false
  pub counter : k ≤ counter_end
  pub group : IsGroup n g
  pub led : owner_of g ≡ o
  pub task : t ≤ task_end
  pub members : IsSetOfOthers n i m
  pub last : l ≤ call_end

abbrev pub UpNode : ℕ → ℕ → Node → Type 0
UpNode n i c = Up n i c.status c.counter c.group.number c.coordinator c.task.number c.members c.last.number

abbrev pub BusyNode : ℕ → ℕ → Node → Type 0
BusyNode n i c = Busy n i c.group.number c.task.number c.activity

pub up_facts : (n i : ℕ) (c : Node) → is_down c.status ≡ false → NodeFacts n i c → UpNode n i c
up_facts n i c e x =
    record { up = e; counter = x.counter; group = x.grouped e; led = x.led e; task = x.task; members = x.members; last = x.last }

up_node : (n i : ℕ) (c : Node) → UpNode n i c → BusyNode n i c → node_in_range n i c ≡ true
up_node n i c u b =
    is_node_lem n i c
    (record {
      counter = u.counter;
      group = inr u.group;
      coordinator = omega (arith, u.led, u.group.owner);
      task = u.task;
      members = u.members;
      last = u.last;
      grouped = λ e. u.group;
      led = λ e. u.led;
      idle = λ e. absurd (true≢false (sym e ∙ u.up));
      activity = b;
    })

-- another status and task
standing : {n i : ℕ} (c : Node) (a : Status) (t : ℕ) → is_down a ≡ false → t ≤ task_end → UpNode n i c
    → Up n i a c.counter c.group.number c.coordinator t c.members c.last.number
standing c a t e h u = record { up = e; counter = u.counter; group = u.group; led = u.led; task = h; members = u.members; last = u.last }

abbrev pub OutgoingIn : ℕ → Option Message → Type 0
OutgoingIn n None = Unit {0}
OutgoingIn n (Some m) = message_in_range n m ≡ true

pub record ReactionIn (n i : ℕ) (r : Reaction) : Type 0 where
  pub node : node_in_range n i r.node ≡ true
  pub outgoing : OutgoingIn n r.outgoing

-- r is in range where there is room for what it needs: k and l are the counter and the last call number before it
abbrev pub Fits : ℕ → ℕ → ℕ → ℕ → Reaction → Type 0
Fits n i k l r = (forms r.mark ≡ true → k < counter_end) → (is_calling r.outgoing ≡ true → l < call_end) → ReactionIn n i r

-- the same, of a reaction of the node c
abbrev pub Room : ℕ → ℕ → Node → Reaction → Type 0
Room n i c r = Fits n i c.counter c.last.number r

-- an invitation carries a group
carries : {k : ℕ} → k ≡ 3 → carries_group k ≡ true
carries e = rw e

-- a task that is given serves any activity
retasked : (n i g t : ℕ) {s : ℕ} → IsGivenTask s → (a : Activity) → Busy n i g t a → Busy n i g s a
retasked n i g t x Idle b = tt
retasked n i g t x (Asking a f) b = b
retasked n i g t x (Waiting k f) b = b
retasked n i g t x (Inviting f o w) b = b
retasked n i g t x Collecting b = tt
retasked n i g t x (Handing r w) b = (b.0, b.1, x)
retasked n i g t x Contacting b = tt
retasked n i g t x (Forwarding r w a k) b = b
retasked n i g t x (Accepting a k) b = b

-- what an input brings; of a crash and a recover the node may be Down
abbrev pub InputIn : ℕ → ℕ → Node → Input → Type 0
InputIn n i c Crash = Unit {0}
InputIn n i c Recover = Unit {0}
InputIn n i c Check = is_down c.status ≡ false
InputIn n i c Timeout = is_down c.status ≡ false
InputIn n i c Tick = is_down c.status ≡ false
InputIn n i c Expire = is_down c.status ≡ false
InputIn n i c (Finish t) = (is_down c.status ≡ false) × IsGivenTask t.number
InputIn n i c (Receive m) = (is_down c.status ≡ false) × MessageFacts n m × (m.receiver ≡ i)

module _ {n i : ℕ} (p : Numbered n i) where
  number : NodeNumber i
  number = record { low = p.low; high = omega (arith, p.high, p.small) }

  here : IsNode n i
  here = record { low = p.low; high = p.high }

  -- ── sets of others ──
  pub empty_set : IsSetOfOthers n i 0
  empty_set = record { inside = empty_within n; lacks = empty_lacks i }

  pub set_without : {s : ℕ} (j : ℕ) → IsSetOfOthers n i s → IsSetOfOthers n i (without s j)
  set_without {s} j x = record { inside = without_within n s j x.inside; lacks = without_lacks s i j x.lacks }

  pub set_with : {s : ℕ} (j : ℕ) → IsOther n i j → IsSetOfOthers n i s → IsSetOfOthers n i (with s j)
  set_with {s} j o x =
      record { inside = with_within n s j x.inside o.low o.high; lacks = with_lacks s i j p.low o.low o.other x.lacks }

  some : (s : ℕ) → eqb s 0 ≡ false → 0 < s
  some s e = let q = eqb-false s 0 e in omega arith

  pub next_one : {s : ℕ} → IsSetOfOthers n i s → eqb s 0 ≡ false → IsOther n i (next s)
  next_one {s} x e =
      let q = next_in n s p.small x.inside (some s e) in
      record { low = q.0; high = q.1; other = next_other s i (some s e) (within_word n s p.small x.inside) x.lacks }

  -- ── new groups ──
  fresh : (k : ℕ) → k < counter_end → IsGroup n (group_of (k + 1) i)
  fresh k h =
      record {
        low = omega (arith, counter_of_lem (k + 1) i number);
        high = omega (arith, counter_of_lem (k + 1) i number);
        owner = omega (arith, owner_of_lem (k + 1) i number, p.high);
      }

  formed_up : (a : Status) (k t l : ℕ) → is_down a ≡ false → k < counter_end → t ≤ task_end → l ≤ call_end → Up n i a (k + 1) (group_of (k + 1) i) i t 0 l
  formed_up a k t l e h ht hl =
      record { up = e; counter = omega arith; group = fresh k h; led = owner_of_lem (k + 1) i number; task = ht; members = empty_set; last = hl }

  recovers_in : {l : ℕ} (c : Node) → c.last.number ≤ call_end → Fits n i c.counter l (recovers i c)
  recovers_in c h room _ =
      record {
        node = up_node n i (recovered i c) (formed_up Normal _ i _ refl (room refl) (omega (arith, p.high, p.small)) h) tt;
        outgoing = tt;
      }

  -- a reply, from a node in range
  reply_in : {k l : ℕ} (d : Node) (r : ℕ) (x : CallNo) (y : Bool) → IsOther n i r → IsCall x.number → node_in_range n i d ≡ true
      → Fits n i k l (reaction d (Some (replies i r x y)) Plain)
  reply_in d r x y o q h _ _ =
      record {
        node = h;
        outgoing = is_message_lem n (replies i r x y)
            (record {
              sender = here;
              receiver = o;
              kind_low = omega arith;
              kind_high = omega arith;
              call = q;
              group = λ z. absurd (true≢false (sym z));
              task = λ z. absurd (true≢false (sym z));
            });
      }

  -- ── the procedures ──
  module _ (c : Node) (u : UpNode n i c) where
    stays_in : {k l : ℕ} (a : Activity) → Busy n i c.group.number c.task.number a → Fits n i k l (stays (turned c a))
    stays_in a b _ _ = record { node = up_node n i (turned c a) u b; outgoing = tt }

    kept_in : {k l : ℕ} → BusyNode n i c → Fits n i k l (stays c)
    kept_in b _ _ = record { node = up_node n i c u b; outgoing = tt }

    -- the coordinator, where it is another
    leader : (c.coordinator ≡ i → ⊥) → IsOther n i c.coordinator
    leader e = record { low = omega (arith, u.led); high = omega (arith, u.led, u.group.owner); other = e }

    -- a call, with its message's facts
    calling_in : {k : ℕ} (a : Activity) (m : Message) (x : Mark) → m.kind < 6 → Busy n i c.group.number c.task.number a
        → (IsCall (c.last.number + 1) → MessageFacts n m)
        → Fits n i k c.last.number (reaction (calling c a) (Some m) x)
    calling_in a m x h b f _ room =
        let q : c.last.number < call_end = room (lt-ltb m.kind 6 h) in
        record {
          node = up_node n i (calling c a)
              (record {
                up = u.up;
                counter = u.counter;
                group = u.group;
                led = u.led;
                task = u.task;
                members = u.members;
                last = omega arith;
              })
              b;
          outgoing = is_message_lem n m (f (record { low = omega arith; high = omega arith }));
        }

    -- a call of kind 2 to 4
    calls_in : {k : ℕ} (a : Activity) (kind r : ℕ) (x : Mark) → 2 ≤ kind → kind ≤ 4 → IsOther n i r → Busy n i c.group.number c.task.number a
        → Fits n i k c.last.number (reaction (calling c a) (Some (calls i kind r (next_call c) c.group)) x)
    calls_in a kind r x l h o b =
        calling_in a (calls i kind r (next_call c) c.group) x (omega arith) b
        (λ q. record {
          sender = here;
          receiver = o;
          kind_low = omega arith;
          kind_high = omega arith;
          call = q;
          group = λ _. u.group;
          task = λ e. absurd (let z = eqb-true kind 5 e in omega arith);
        })

    invite_next_in : {k : ℕ} (x : Mark) (f o : ℕ) → IsSetOfOthers n i f → IsSetOfOthers n i o → Fits n i k c.last.number (invite_next i c x f o)
    unfolding invite_next
    invite_next_in {k} x f o sf so =
        by_test (Fits n i k c.last.number)
        (λ t. let e = not-true _ t in calls_in (Inviting _ _ _) 3 (next f) x (omega arith) (omega arith) (next_one sf e) (set_without (next f) sf, so, next_one sf e))
        (λ _. by_test (Fits n i k c.last.number)
        (λ t. let e = not-true _ t in calls_in (Inviting _ _ _) 3 (next o) x (omega arith) (omega arith) (next_one so e) (empty_set, set_without (next o) so, next_one so e))
        (λ _ _ _. record { node = up_node n i (turned c Collecting) u tt; outgoing = tt }))

    hand_next_in : {k : ℕ} (r : ℕ) → IsSetOfOthers n i r → IsGivenTask c.task.number → Fits n i k c.last.number (hand_next i c r)
    unfolding hand_next
    hand_next_in {k} r s t =
        by_test (Fits n i k c.last.number)
        (λ _ _ _. record {
          node = up_node n i (settled c Normal) (standing c Normal _ refl u.task u) tt;
          outgoing = tt;
        })
        (λ e. calling_in (Handing _ _) (readies i (next r) (next_call c) c.group c.task) Plain (omega arith) (set_without (next r) s, next_one s e, t)
        (λ q. record {
          sender = here;
          receiver = next_one s e;
          kind_low = omega arith;
          kind_high = omega arith;
          call = q;
          group = λ _. u.group;
          task = λ _. t;
        }))

    forward_next_in : {k : ℕ} (r a : ℕ) (x : CallNo) → IsSetOfOthers n i r → IsOther n i a → IsCall x.number → (owner_of c.group.number ≡ i → ⊥)
        → Fits n i k c.last.number (forward_next i c r a x)
    unfolding forward_next
    forward_next_in {k} r a x s o q d =
        by_test (Fits n i k c.last.number)
        (λ _. calls_in (Accepting a x) 4 c.coordinator Plain (omega arith) (omega arith) (leader (λ e. d (u.led ∙ e))) (o, q, d))
        (λ e. calls_in (Forwarding _ _ a x) 3 (next r) Plain (omega arith) (omega arith) (next_one s e) (set_without (next r) s, next_one s e, o, q, d))

  module _ (c : Node) (u : UpNode n i c) where
    merges_in : (f : ℕ) → IsSetOfOthers n i f → Room n i c (merges i c f)
    unfolding merges
    merges_in f s room =
        let h : c.counter < counter_end = room (ap forms (merges_mark i c f)) in
        invite_next_in (merged i c)
        (formed_up Election _ _ _ refl h u.task u.last)
        Merges f c.members s u.members room

    asked_all_in : (f : ℕ) → IsSetOfOthers n i f → Room n i c (asked_all i c f)
    unfolding asked_all
    asked_all_in f s =
        by_test (Room n i c) (λ _. stays_in c u Idle tt)
        (λ e. by_test (Room n i c)
        (λ q.
        let h = highest_in n f p.small s.inside (some f e) in
        let j = ltb-true i (highest f) q in
        stays_in c u (Waiting (highest f - i) f) (omega arith, omega (arith, h.1, p.low, p.small), s))
        (λ _. merges_in f s))

    ask_at_in : (j f : ℕ) → 1 ≤ j → (j ≡ i → ⊥) → IsSetOfOthers n i f → Room n i c (ask_at n i c j f)
    unfolding ask_at
    ask_at_in j f l d s =
        by_test (Room n i c)
        (λ e.
        let o : IsOther n i j = record { low = l; high = leb-true j n e; other = d } in
        calling_in c u (Asking j f) (asks i j (next_call c)) Plain (omega arith) (o, s)
        (λ q. record {
          sender = here;
          receiver = o;
          kind_low = omega arith;
          kind_high = omega arith;
          call = q;
          group = λ z. absurd (true≢false (sym z));
          task = λ z. absurd (true≢false (sym z));
        }))
        (λ _. asked_all_in f s)

    ask_after_in : (j f : ℕ) → IsSetOfOthers n i f → Room n i c (ask_after n i c j f)
    unfolding ask_after
    ask_after_in j f s =
        by_test (Room n i c)
        (λ e. ask_at_in (j + 2) f (omega arith) (λ z. omega (arith, eqb-true (j + 1) i e)) s)
        (λ e. ask_at_in (j + 1) f (omega arith) (eqb-false (j + 1) i e) s)

    module _ (b : BusyNode n i c) where
      checked_in : Room n i c (checked n i c)
      unfolding checked
      checked_in = by_test (Room n i c) (λ _. ask_after_in 0 0 empty_set) (λ _. kept_in c u b)

      timed_out_in : Room n i c (timed_out i c)
      unfolding timed_out
      timed_out_in =
          by_test (Room n i c)
          (λ _. kept_in c u b)
          (λ e. calls_in c u Contacting 2 c.coordinator Plain (omega arith) (omega arith) (leader c u (eqb-false c.coordinator i e)) tt)

      ticked_in : (a : Activity) → Busy n i c.group.number c.task.number a → Room n i c (ticked i c a)
      unfolding ticked
      ticked_in Idle x = kept_in c u b
      ticked_in (Asking a f) x = kept_in c u b
      ticked_in (Waiting k f) x =
          by_test (Room n i c)
          (λ _. merges_in f x.2)
          (λ e.
          let d = eqb-false k 1 e in
          stays_in c u (Waiting (k - 1) f) (omega (arith, x.0), omega (arith, x.1), x.2))
      ticked_in (Inviting f o w) x = kept_in c u b
      ticked_in Collecting x = kept_in c u b
      ticked_in (Handing r w) x = kept_in c u b
      ticked_in Contacting x = kept_in c u b
      ticked_in (Forwarding r w a k) x = kept_in c u b
      ticked_in (Accepting a k) x = kept_in c u b

      expired_in : (a : Activity) → Busy n i c.group.number c.task.number a → Room n i c (expired n i c a)
      unfolding expired
      expired_in Idle x = kept_in c u b
      expired_in (Asking a f) x = ask_after_in a f x.1
      expired_in (Waiting k f) x = kept_in c u b
      expired_in (Inviting f o w) x = invite_next_in c u Plain f o x.0 x.1
      expired_in Collecting x = kept_in c u b
      expired_in (Handing r w) x = recovers_in c u.last
      expired_in Contacting x = recovers_in c u.last
      expired_in (Forwarding r w a k) x = forward_next_in c u r a k x.0 x.2 x.3 x.4
      expired_in (Accepting a k) x = recovers_in c u.last

      resumed_in : (y : Bool) (a : Activity) → Busy n i c.group.number c.task.number a → Room n i c (resumed n i c y a)
      unfolding resumed
      resumed_in y Idle x = kept_in c u b
      resumed_in y (Asking a f) x = ask_after_in a (pick y (with f a) f) (by_test (IsSetOfOthers n i) (λ _. set_with a x.0 x.1) (λ _. x.1))
      resumed_in y (Waiting k f) x = kept_in c u b
      resumed_in y (Inviting f o w) x = invite_next_in c u Plain f o x.0 x.1
      resumed_in y Collecting x = kept_in c u b
      resumed_in y (Handing r w) x = hand_next_in c u r x.0 x.2
      resumed_in y Contacting x = by_test (Room n i c) (λ _. stays_in c u Idle tt) (λ _. recovers_in c u.last)
      resumed_in y (Forwarding r w a k) x = forward_next_in c u r a k x.0 x.2 x.3 x.4
      resumed_in y (Accepting a k) x =
          reply_in (settled c Reorganization) a k true x.0 x.1
          (up_node n i (settled c Reorganization) (standing c Reorganization _ refl u.task u) tt)

      module _ (m : Message) (x : MessageFacts n m) (to : m.receiver ≡ i) where
        sender : IsOther n i m.sender
        sender = record { low = x.sender.low; high = x.sender.high; other = λ e. x.receiver.other (to ∙ sym e) }

        answers_in : (d : Node) (y : Bool) → node_in_range n i d ≡ true → Room n i c (answers i d m y)
        answers_in d y h = reply_in d m.sender m.call y sender x.call h

        on_invitation_in : eqb m.kind 3 ≡ true → Room n i c (on_invitation i c m)
        unfolding on_invitation
        on_invitation_in k =
            by_test (Room n i c)
            (λ _. answers_in c true (up_node n i c u b))
            (λ e. forward_next_in (invited c m.group)
            (record {
              up = refl;
              counter = u.counter;
              group = x.group (carries (eqb-true m.kind 3 k));
              led = refl;
              task = u.task;
              members = u.members;
              last = u.last;
            })
            (pick (eqb c.coordinator i) c.members 0) m.sender m.call
            (by_test (IsSetOfOthers n i) (λ _. u.members) (λ _. empty_set)) sender x.call
            (acts_not_owned i c m.group e))

        on_accept_in : Room n i c (on_accept i c m)
        unfolding on_accept
        on_accept_in =
            answers_in _ true
            (by_test (λ (d : Node). node_in_range n i d ≡ true)
            (λ _. up_node n i (joined c m.sender)
            (record {
              up = u.up;
              counter = u.counter;
              group = u.group;
              led = u.led;
              task = u.task;
              members = set_with m.sender sender u.members;
              last = u.last;
            })
            b)
            (λ _. up_node n i c u b))

        on_ready_in : eqb m.kind 5 ≡ true → Room n i c (on_ready i c m)
        unfolding on_ready
        on_ready_in k =
            let t = x.task k in
            answers_in _ true
            (by_test (λ (d : Node). node_in_range n i d ≡ true)
            (λ _. up_node n i (tasked c Normal m.task)
            (standing c Normal _ refl t.high u)
            (retasked n i _ c.task.number t c.activity b))
            (λ _. up_node n i c u b))

        on_reply_in : Room n i c (on_reply n i c m)
        unfolding on_reply
        on_reply_in = by_test (Room n i c) (λ _. resumed_in m.yes c.activity b) (λ _. kept_in c u b)

        received_in : Room n i c (received n i c m)
        unfolding received on_are_you_coordinator on_are_you_there
        received_in =
            by_test (Room n i c) (λ _. answers_in c _ (up_node n i c u b))
            (λ _. by_test (Room n i c) (λ _. answers_in c _ (up_node n i c u b))
            (λ _. by_test (Room n i c) on_invitation_in
            (λ _. by_test (Room n i c) (λ _. on_accept_in)
            (λ _. by_test (Room n i c) on_ready_in
            (λ _. by_test (Room n i c) (λ _. on_reply_in) (λ _. kept_in c u b))))))

  pub react_in : (c : Node) (x : Input) → NodeFacts n i c → InputIn n i c x → Room n i c (react n i c x)
  unfolding react finishes
  react_in c Crash f x =
      λ _ _. record {
        node = is_node_lem n i (settled c Down)
            (record {
              counter = f.counter;
              group = f.group;
              coordinator = f.coordinator;
              task = f.task;
              members = f.members;
              last = f.last;
              grouped = λ e. absurd (true≢false e);
              led = λ e. absurd (true≢false e);
              idle = λ e. refl;
              activity = tt;
            });
        outgoing = tt;
      }
  react_in c Recover f x = recovers_in c f.last
  react_in c Check f x = checked_in c (up_facts n i c x f) f.activity
  react_in c Timeout f x = timed_out_in c (up_facts n i c x f) f.activity
  react_in c Tick f x = ticked_in c (up_facts n i c x f) f.activity c.activity f.activity
  react_in c Expire f x = expired_in c (up_facts n i c x f) f.activity c.activity f.activity
  react_in c (Finish t) f x =
      hand_next_in (tasked c Reorganization t)
      (standing c Reorganization _ refl x.1.high (up_facts n i c x.0 f))
      c.members f.members x.1
  react_in c (Receive m) f x = received_in c (up_facts n i c x.0 f) f.activity m x.1 x.2
