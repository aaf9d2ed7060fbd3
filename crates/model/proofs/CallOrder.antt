-- The order of calls: inviting, forwarding and handing call the highest of a set, asking goes upward, nobody is passed over; at every event, and in every table of a run.
use Prim.Native.Nat.{ℕ, zero, suc, ◌+◌, ◌-◌, ◌^◌, ◌≤◌, ◌<◌}
use native.Mathlib.Omega.{arith}
use mathlib.Core.Bool.{Bool, true, false, ◌||◌, true≢false}
use mathlib.Core.Logic.{◌⊎◌, inl, inr, ⊎_elim}
use mathlib.Core.Path.{◌≡◌, refl, sym, ◌∙◌, ap, subst}
use mathlib.Core.List.{List, [], ◌∷◌}
use lib.Dec.{eqb}
use lib.ListN.{get_or, set, replicate}
use borrow.Author.Tests.{eqb-true, eqb-false, le-leb, lt-ltb, not-true, not-false}
use Rattle.node_set.specs.NodeSet.{has, with, within}
use Rattle.node_set.proofs.Laws.{empty_lacks, empty_within, within_word, with_within}
use Rattle.model.specs.Pick.{pick, by_test}
use Rattle.model.specs.Node.{is_down, is_normal, is_idle, is_collecting}
use Rattle.model.specs.Procedures.{next, invite_next, merges, hand_next, finishes, forward_next, asked_all, ask_at, ask_after}
use Rattle.model.specs.React.{checked, timed_out, ticked, expired, resumed, on_are_you_coordinator, on_are_you_there, on_invitation, on_accept, on_ready, on_reply, received, react}
use Rattle.model.specs.State.{State, starting_node, start, node_at}
use Rattle.model.specs.Step.{run_from, actor, reaction_to, effect, Result, kept, after}
use Rattle.model.specs.Claims.{SendsHighest, SendsUpward, whom_now, whom_still, whom_aside, Below, Picked, Undisturbed, CallOrder}
use Rattle.model.proofs.Judged.{Clear, by_step, Allows, by_reaction}
use Rattle.model.proofs.Numbers.{actor_in}
use Rattle.model.proofs.Next.{next_has, next_most, left_below, next_or_left}
use Rattle.model.proofs.Invitation.{acts_normal}
use Rattle.model.proofs.Fields.{Busy, NodeFacts, in_range_size, in_range_node, node_facts, own_record}
use Rattle.model.specs.declared.Activity.{Activity}
use Rattle.model.specs.declared.Activity.TheVariants.{Idle, Asking, Waiting, Inviting, Collecting, Handing, Contacting, Forwarding, Accepting}
use Rattle.model.specs.declared.Node.{Node}
use Rattle.model.specs.declared.CallNo.{CallNo}
use Rattle.model.specs.declared.Message.{Message}
use Rattle.model.specs.declared.Mark.{Mark}
use Rattle.model.specs.declared.Mark.TheVariants.{Plain, Recovers, Merges}
use Rattle.model.specs.declared.Reaction.{Reaction}
use Rattle.model.specs.declared.Input.{Input}
use Rattle.model.specs.declared.Event.{Event}

-- ── the message of each procedure ──

highest_of : (s : ℕ) → 0 < s → s < 2 ^ 16 → (has s (next s) ≡ true) × ((k : ℕ) → has s k ≡ true → k ≤ next s)
highest_of s p w = (next_has s p w, λ k h. next_most s k h w)

-- a set that is not empty is not 0
some : {s : ℕ} → 0 < s → eqb s 0 ≡ true → ⊥
some {s} p e = omega (arith, eqb-true s 0 e)

sends_found : (i : ℕ) (c : Node) (k : Mark) (f o : ℕ) → 0 < f → f < 2 ^ 16 → SendsHighest f (invite_next i c k f o).outgoing
unfolding invite_next
sends_found i c k f o p w = by_test P (λ _. highest_of f p w) (λ t. absurd (some p (not-false _ t)))
  where
    P : Reaction → Type 0
    P r = SendsHighest f r.outgoing

sends_aside : (i : ℕ) (c : Node) (k : Mark) (o : ℕ) → 0 < o → o < 2 ^ 16 → SendsHighest o (invite_next i c k 0 o).outgoing
unfolding invite_next
sends_aside i c k o p w =
    by_test P (λ t. absurd (eqb-false 0 0 (not-true _ t) refl)) (λ _. by_test P (λ _. highest_of o p w) (λ t. absurd (some p (not-false _ t))))
  where
    P : Reaction → Type 0
    P r = SendsHighest o r.outgoing

sends_forward : (i : ℕ) (c : Node) (s a : ℕ) (k : CallNo) → 0 < s → s < 2 ^ 16 → SendsHighest s (forward_next i c s a k).outgoing
unfolding forward_next
sends_forward i c s a k p w = by_test (λ (r : Reaction). SendsHighest s r.outgoing) (λ t. absurd (some p t)) (λ _. highest_of s p w)

sends_ready : (i : ℕ) (c : Node) (s : ℕ) → 0 < s → s < 2 ^ 16 → SendsHighest s (hand_next i c s).outgoing
unfolding hand_next
sends_ready i c s p w = by_test (λ (r : Reaction). SendsHighest s r.outgoing) (λ t. absurd (some p t)) (λ _. highest_of s p w)

sends_question : (n i : ℕ) (c : Node) (j f k : ℕ) → j < k → k ≤ n → (k ≡ i → ⊥) → SendsUpward i j k (ask_after n i c j f).outgoing
unfolding ask_after ask_at
sends_question n i c j f k l h d =
    by_test P
    (λ e. let z = eqb-true (j + 1) i e in at (j + 2) (omega arith) (omega (arith, d)) (λ q. omega arith))
    (λ e. at (j + 1) (omega arith) (omega arith) (eqb-false (j + 1) i e))
  where
    P : Reaction → Type 0
    P r = SendsUpward i j k r.outgoing

    at : (x : ℕ) → j < x → x ≤ k → (x ≡ i → ⊥) → P (ask_at n i c x f)
    at x a b q = by_test P (λ _. (a, b, q)) (λ t. absurd (true≢false (sym (le-leb x n (omega arith)) ∙ t)))

sends_first : (n i : ℕ) (c : Node) (k : ℕ) → 1 < n → 1 ≤ k → k ≤ n → (k ≡ i → ⊥) → SendsUpward i 0 k (checked n i c).outgoing
unfolding checked
sends_first n i c k m l h d =
    by_test (λ (r : Reaction). SendsUpward i 0 k r.outgoing) (λ _. sends_question n i c 0 0 k l h d) (λ t. absurd (true≢false (sym (lt-ltb 1 n m) ∙ t)))

sends_expired : (n i : ℕ) (c : Node) (j f k : ℕ) → j < k → k ≤ n → (k ≡ i → ⊥) → SendsUpward i j k (expired n i c (Asking j f)).outgoing
unfolding expired
sends_expired n i c j f k l h d = sends_question n i c j f k l h d

sends_answered : (n i : ℕ) (c : Node) (y : Bool) (j f k : ℕ) → j < k → k ≤ n → (k ≡ i → ⊥) → SendsUpward i j k (resumed n i c y (Asking j f)).outgoing
unfolding resumed
sends_answered n i c y j f k l h d = sends_question n i c j (pick y (with f j) f) k l h d

-- ── what a reaction r of the node c makes of the activity a ──

-- j, whom a was still to call, is called now or still to be called in b
abbrev Stays : Activity → Activity → ℕ → Type 0
Stays a b j =
    (has (whom_still a) j ≡ true → (whom_now b ≡ j) ⊎ (has (whom_still b) j ≡ true))
    × (has (whom_aside a) j ≡ true → ((whom_still a ≡ 0) × (whom_now b ≡ j)) ⊎ (has (whom_aside b) j ≡ true))

abbrev Each : Node → Activity → Reaction → Type 0
Each c a r = is_normal c.status ≡ false → is_down r.node.status ≡ false → (r.mark ≡ Recovers → ⊥) → (j : ℕ) → 1 ≤ j → Stays a r.node.activity j

record Goes (c : Node) (a : Activity) (r : Reaction) : Type 0 where
  pub picked : Picked a r.node.activity r.outgoing
  pub each : Each c a r

-- the activity stays as it was, or the node goes on so
data Onward (c : Node) (a : Activity) (r : Reaction) : Type 0 where
  same : r.node.activity ≡ a → Onward c a r
  goes : Goes c a r → Onward c a r

none_of : (s j : ℕ) → s ≡ 0 → has s j ≡ true → ⊥
none_of s j z h = true≢false (sym h ∙ ap (λ (x : ℕ). has x j) z ∙ empty_lacks j)

none_below : (j : ℕ) → Below 0 j
none_below j k h = absurd (none_of 0 k refl h)

-- nobody is called now, nor still
quiet : {c : Node} {a : Activity} {r : Reaction} → whom_now r.node.activity ≡ 0 → whom_still r.node.activity ≡ 0 → whom_aside r.node.activity ≡ 0 → Each c a r → Onward c a r
quiet p q w e =
    goes (record {
      picked = record { sends = λ l. absurd (omega (arith, l, p)); below = λ k h. absurd (none_of _ k q h); below_aside = λ x y z k h. absurd (none_of _ k w h) };
      each = e;
    })

-- those whom a was still to call are in f and, those set aside, in o; f is empty only where none of the first is left
record Left (a : Activity) (f o : ℕ) : Type 0 where
  pub still : (j : ℕ) → has (whom_still a) j ≡ true → has f j ≡ true
  pub aside : (j : ℕ) → has (whom_aside a) j ≡ true → has o j ≡ true
  pub none : f ≡ 0 → whom_still a ≡ 0

abbrev inviting : Activity → Bool
inviting Idle = false
inviting (Asking j f) = false
inviting (Waiting k f) = false
inviting (Inviting f o w) = true
inviting Collecting = false
inviting (Handing r w) = false
inviting Contacting = false
inviting (Forwarding r w a k) = false
inviting (Accepting a k) = false

-- a has nobody to call
record Calm (a : Activity) : Type 0 where
  pub still : whom_still a ≡ 0
  pub aside : whom_aside a ≡ 0
  pub other : inviting a ≡ false

calm_left : {a : Activity} {f o : ℕ} → Calm a → Left a f o
calm_left x = record { still = λ j h. absurd (none_of _ j x.still h); aside = λ j h. absurd (none_of _ j x.aside h); none = λ _. x.still }

-- and nobody is called now, nor still
quiet_from : {c : Node} {a : Activity} {r : Reaction} → whom_now r.node.activity ≡ 0 → whom_still r.node.activity ≡ 0 → whom_aside r.node.activity ≡ 0 → Calm a → Onward c a r
quiet_from p q w x = quiet p q w (λ _ _ _ j _. (λ h. absurd (none_of _ j x.still h), λ h. absurd (none_of _ j x.aside h)))

-- a recovery
recovery : {c : Node} {a : Activity} {r : Reaction} → whom_now r.node.activity ≡ 0 → whom_still r.node.activity ≡ 0 → whom_aside r.node.activity ≡ 0 → r.mark ≡ Recovers → Onward c a r
recovery p q w e = quiet p q w (λ _ _ m. absurd (m e))

-- an idle node and a collecting one have nobody to call
at_rest : (a : Activity) → (is_idle a || is_collecting a) ≡ true → Calm a
at_rest Idle e = record { still = refl; aside = refl; other = refl }
at_rest (Asking j f) e = absurd (true≢false (sym e))
at_rest (Waiting k f) e = absurd (true≢false (sym e))
at_rest (Inviting f o w) e = absurd (true≢false (sym e))
at_rest Collecting e = record { still = refl; aside = refl; other = refl }
at_rest (Handing r w) e = absurd (true≢false (sym e))
at_rest Contacting e = absurd (true≢false (sym e))
at_rest (Forwarding r w a k) e = absurd (true≢false (sym e))
at_rest (Accepting a k) e = absurd (true≢false (sym e))

or_left : (x y : Bool) → x ≡ true → (x || y) ≡ true
or_left true y e = refl
or_left false y e = absurd (true≢false (sym e))

pub or_right : (x y : Bool) → y ≡ true → (x || y) ≡ true
or_right true y e = refl
or_right false y e = e

module _ (n : ℕ) (small : n ≤ 16) (c : Node) (a : Activity) where
  -- ── the procedures that walk a set ──

  invite : (i : ℕ) (d : Node) (k : Mark) (f o : ℕ) → within n f ≡ true → within n o ≡ true → ((x w : ℕ) → a ≡ Inviting 0 x w → f ≡ 0) → Left a f o
      → Onward c a (invite_next i d k f o)
  unfolding invite_next
  invite i d k f o v w h x =
      by_test (Onward c a)
      (λ t. goes (record {
        picked = record {
          sends = λ _. refl;
          below = λ j. left_below f j (within_word n f small v);
          below_aside = λ y z q. absurd (eqb-false f 0 (not-true _ t) (h y z q));
        };
        each = λ _ _ _ j l. (λ q. next_or_left n f j small v l (x.still j q), λ q. inr (x.aside j q));
      }))
      (λ t.
      let z = eqb-true f 0 (not-false _ t) in
      by_test (Onward c a)
      (λ _. goes (record {
        picked = record {
          sends = λ _. refl;
          below = none_below (next o);
          below_aside = λ _ _ _ j. left_below o j (within_word n o small w);
        };
        each = λ _ _ _ j l.
            (λ q. absurd (none_of f j z (x.still j q)), λ q. ⊎_elim (λ e. inl (x.none z, e)) (λ e. inr e) (next_or_left n o j small w l (x.aside j q)));
      }))
      (λ u. quiet refl refl refl
      (λ _ _ _ j l. (λ q. absurd (none_of f j z (x.still j q)), λ q. absurd (none_of o j (eqb-true o 0 (not-false _ u)) (x.aside j q))))))

  hand : (i : ℕ) (d : Node) (s : ℕ) → within n s ≡ true → Left a s 0 → Onward c a (hand_next i d s)
  unfolding hand_next
  hand i d s v x =
      by_test (Onward c a)
      (λ t. quiet refl refl refl (λ _ _ _ j l. (λ q. absurd (none_of s j (eqb-true s 0 t) (x.still j q)), λ q. absurd (none_of 0 j refl (x.aside j q)))))
      (λ _. goes (record {
        picked = record { sends = λ _. refl; below = λ j. left_below s j (within_word n s small v); below_aside = λ _ _ _. none_below (next s) };
        each = λ _ _ _ j l. (λ q. next_or_left n s j small v l (x.still j q), λ q. absurd (none_of 0 j refl (x.aside j q)));
      }))

  forward : (i : ℕ) (d : Node) (s y : ℕ) (k : CallNo) → within n s ≡ true → (is_normal c.status ≡ false → Left a s 0) → Onward c a (forward_next i d s y k)
  unfolding forward_next
  forward i d s y k v x =
      by_test (Onward c a)
      (λ t. quiet refl refl refl (λ b _ _ j l. (λ q. absurd (none_of s j (eqb-true s 0 t) ((x b).still j q)), λ q. absurd (none_of 0 j refl ((x b).aside j q)))))
      (λ _. goes (record {
        picked = record { sends = λ _. refl; below = λ j. left_below s j (within_word n s small v); below_aside = λ _ _ _. none_below (next s) };
        each = λ b _ _ j l. (λ q. next_or_left n s j small v l ((x b).still j q), λ q. absurd (none_of 0 j refl ((x b).aside j q)));
      }))

  -- ── and those that begin one, where a has nobody to call ──

  merge : (i f : ℕ) → within n f ≡ true → within n c.members ≡ true → Calm a → Onward c a (merges i c f)
  unfolding merges
  merge i f v w x = invite i _ Merges f c.members v w (λ y z q. absurd (true≢false (sym (ap inviting q) ∙ x.other))) (calm_left x)

  ask : (i j f : ℕ) → within n f ≡ true → within n c.members ≡ true → Calm a → Onward c a (ask_after n i c j f)
  unfolding asked_all ask_at ask_after
  ask i j f v w x = by_test (Onward c a) (λ _. at (j + 2)) (λ _. at (j + 1))
    where
      all : Onward c a (asked_all i c f)
      all =
          by_test (Onward c a) (λ _. quiet_from refl refl refl x)
          (λ _. by_test (Onward c a) (λ _. quiet_from refl refl refl x) (λ _. merge i f v w x))

      at : (y : ℕ) → Onward c a (ask_at n i c y f)
      at y = by_test (Onward c a) (λ _. quiet_from refl refl refl x) (λ _. all)

-- ── a node in range ──

calm : {a : Activity} → whom_still a ≡ 0 → whom_aside a ≡ 0 → inviting a ≡ false → Calm a
calm p q v = record { still = p; aside = q; other = v }

module _ (n i : ℕ) (small : n ≤ 16) (c : Node) (x : NodeFacts n i c) where
  tick : (a : Activity) → c.activity ≡ a → Busy n i c.group.number c.task.number a → Onward c a (ticked i c a)
  unfolding ticked
  tick Idle e b = same e
  tick (Asking j f) e b = same e
  tick (Waiting k f) e b =
      by_test (Onward c (Waiting k f))
      (λ _. merge n small c (Waiting k f) i f b.2.inside x.members.inside (calm refl refl refl))
      (λ _. quiet_from refl refl refl (calm refl refl refl))
  tick (Inviting f o w) e b = same e
  tick Collecting e b = same e
  tick (Handing r w) e b = same e
  tick Contacting e b = same e
  tick (Forwarding r w a k) e b = same e
  tick (Accepting a k) e b = same e

  expire : (a : Activity) → c.activity ≡ a → Busy n i c.group.number c.task.number a → Onward c a (expired n i c a)
  unfolding expired
  expire Idle e b = same e
  expire (Asking j f) e b = ask n small c (Asking j f) i j f b.1.inside x.members.inside (calm refl refl refl)
  expire (Waiting k f) e b = same e
  expire (Inviting f o w) e b = invite n small c (Inviting f o w) i c Plain f o b.0.inside b.1.inside (λ y z q. (cc)) (record { still = λ j h. h; aside = λ j h. h; none = λ q. q })
  expire Collecting e b = same e
  expire (Handing r w) e b = recovery refl refl refl refl
  expire Contacting e b = recovery refl refl refl refl
  expire (Forwarding r w a k) e b = forward n small c (Forwarding r w a k) i c r a k b.0.inside (λ _. record { still = λ j h. h; aside = λ j h. h; none = λ q. q })
  expire (Accepting a k) e b = recovery refl refl refl refl

  resume : (y : Bool) (a : Activity) → c.activity ≡ a → Busy n i c.group.number c.task.number a → Onward c a (resumed n i c y a)
  unfolding resumed
  resume y Idle e b = same e
  resume y (Asking j f) e b =
      ask n small c (Asking j f) i j (pick y (with f j) f)
      (by_test (λ (s : ℕ). within n s ≡ true) (λ _. with_within n f j b.1.inside b.0.low b.0.high) (λ _. b.1.inside))
      x.members.inside (calm refl refl refl)
  resume y (Waiting k f) e b = same e
  resume y (Inviting f o w) e b = invite n small c (Inviting f o w) i c Plain f o b.0.inside b.1.inside (λ z v q. (cc)) (record { still = λ j h. h; aside = λ j h. h; none = λ q. q })
  resume y Collecting e b = same e
  resume y (Handing r w) e b = hand n small c (Handing r w) i c r b.0.inside (record { still = λ j h. h; aside = λ j h. h; none = λ q. q })
  resume y Contacting e b =
      by_test (Onward c Contacting) (λ _. quiet_from refl refl refl (calm refl refl refl)) (λ _. recovery refl refl refl refl)
  resume y (Forwarding r w a k) e b = forward n small c (Forwarding r w a k) i c r a k b.0.inside (λ _. record { still = λ j h. h; aside = λ j h. h; none = λ q. q })
  resume y (Accepting a k) e b = quiet_from refl refl refl (calm refl refl refl)

  abbrev Here : Reaction → Type 0
  Here r = Onward c c.activity r

  module _ (m : Message) where
    on_are_you_coordinator_lem : Here (on_are_you_coordinator i c m)
    unfolding on_are_you_coordinator
    on_are_you_coordinator_lem = same refl

    on_are_you_there_lem : Here (on_are_you_there i c m)
    unfolding on_are_you_there
    on_are_you_there_lem = same refl

    on_invitation_lem : Here (on_invitation i c m)
    unfolding on_invitation
    on_invitation_lem =
        by_test Here (λ _. same refl)
        (λ t. forward n small c c.activity i _ (pick (eqb c.coordinator i) c.members 0) m.sender m.call
        (by_test (λ (s : ℕ). within n s ≡ true) (λ _. x.members.inside) (λ _. empty_within n)) (λ q. absurd (true≢false (sym (acts_normal i c m.group t) ∙ q))))

    on_accept_lem : Here (on_accept i c m)
    unfolding on_accept
    on_accept_lem = same (by_test (λ (d : Node). d.activity ≡ c.activity) (λ _. refl) (λ _. refl))

    on_ready_lem : Here (on_ready i c m)
    unfolding on_ready
    on_ready_lem = same (by_test (λ (d : Node). d.activity ≡ c.activity) (λ _. refl) (λ _. refl))

    on_reply_lem : Here (on_reply n i c m)
    unfolding on_reply
    on_reply_lem = by_test Here (λ _. resume m.yes c.activity refl x.activity) (λ _. same refl)

    receive : Here (received n i c m)
    unfolding received
    receive =
        by_test Here (λ _. on_are_you_coordinator_lem)
        (λ _. by_test Here (λ _. on_are_you_there_lem)
        (λ _. by_test Here (λ _. on_invitation_lem)
        (λ _. by_test Here (λ _. on_accept_lem)
        (λ _. by_test Here (λ _. on_ready_lem)
        (λ _. by_test Here (λ _. on_reply_lem) (λ _. same refl))))))

  reacts : (y : Input) → Allows c.activity y → Here (react n i c y)
  unfolding react checked timed_out finishes
  reacts Input.Crash w = quiet refl refl refl (λ _ d. absurd (true≢false d))
  reacts Input.Recover w = recovery refl refl refl refl
  reacts Input.Check w =
      by_test Here (λ _. ask n small c c.activity i 0 0 (empty_within n) x.members.inside (at_rest c.activity (or_left _ _ w))) (λ _. same refl)
  reacts Input.Timeout w = by_test Here (λ _. same refl) (λ _. quiet_from refl refl refl (at_rest c.activity (or_left _ _ w)))
  reacts Input.Tick w = tick c.activity refl x.activity
  reacts Input.Expire w = expire c.activity refl x.activity
  reacts (Input.Finish t) w = hand n small c c.activity i _ c.members x.members.inside (calm_left (at_rest c.activity (or_right (is_idle c.activity) _ w)))
  reacts (Input.Receive m) w = receive m

-- ── an event ──

accepted_onward : (s : State) (e : Event) → Clear s e → Onward (node_at s (actor e)) (node_at s (actor e)).activity (reaction_to s e)
accepted_onward s e c =
    let k = actor_in s.n e c.number in
    let x = node_facts s.n (actor e) (node_at s (actor e)) (in_range_node s (actor e) c.in_range_lem k.0 k.1) in
    by_reaction (Onward (node_at s (actor e)) (node_at s (actor e)).activity) s e c
    (λ y w. reacts s.n (actor e) (in_range_size s c.in_range_lem).1 (node_at s (actor e)) x y w) (same refl)

-- what holds where the activity is as it was, and of the record that the event's node has after it goes on, holds after the event
by_onward : (P : Node → Type 0) (s : State) (e : Event) → ((d : Node) → d.activity ≡ (node_at s (actor e)).activity → P d)
    → (Goes (node_at s (actor e)) (node_at s (actor e)).activity (reaction_to s e) → P (reaction_to s e).node) → P (node_at (after s e) (actor e))
by_onward P s e f g =
    by_step (λ (r : Result). P (node_at (kept s r) (actor e))) s e (λ _. f _ refl)
    (λ c _. subst P (sym (own_record s e c)) (by (accepted_onward s e c)))
  where
    by : Onward (node_at s (actor e)) (node_at s (actor e)).activity (reaction_to s e) → P (reaction_to s e).node
    by (same q) = f _ q
    by (goes x) = g x

step_picks : (s : State) (e : Event) → ((node_at (after s e) (actor e)).activity ≡ (node_at s (actor e)).activity)
    ⊎ Picked (node_at s (actor e)).activity (node_at (after s e) (actor e)).activity (reaction_to s e).outgoing
step_picks s e =
    by_onward (λ d. (d.activity ≡ (node_at s (actor e)).activity) ⊎ Picked (node_at s (actor e)).activity d.activity (reaction_to s e).outgoing) s e
    (λ d q. inl q) (λ x. inr x.picked)

step_keeps : (s : State) (e : Event) → Undisturbed s e → (j : ℕ) → 1 ≤ j → Stays (node_at s (actor e)).activity (node_at (after s e) (actor e)).activity j
step_keeps s e u j l =
    by_onward (λ d. is_down d.status ≡ false → Stays (node_at s (actor e)).activity d.activity j) s e
    (λ d q _. subst (λ (b : Activity). Stays (node_at s (actor e)).activity b j) (sym q) (λ h. inr h, λ h. inr h))
    (λ x d. x.each u.not_normal d u.no_recovery j l)
    u.not_down

-- ── a run ──

abbrev Ordered : Node → Type 0
Ordered c = Below (whom_still c.activity) (whom_now c.activity)

-- what holds of each record and of the new one holds of each after it is stored
stored : (l : List Node) (k : ℕ) (d : Node) → ((j : ℕ) → Ordered (get_or l j starting_node)) → Ordered d → (j : ℕ) → Ordered (get_or (set l k d) j starting_node)
stored [] k d f g j = f j
stored (c ∷ l) zero d f g zero = g
stored (c ∷ l) zero d f g (suc j) = f (suc j)
stored (c ∷ l) (suc k) d f g zero = f zero
stored (c ∷ l) (suc k) d f g (suc j) = stored l k d (λ y. f (suc y)) g j

started : (n j : ℕ) → Ordered (get_or (replicate n starting_node) j starting_node)
started zero j = none_below 0
started (suc n) zero = none_below 0
started (suc n) (suc j) = started n j

ordered : (s : State) (e : Event) → ((j : ℕ) → Ordered (get_or s.nodes j starting_node)) → (j : ℕ) → Ordered (get_or (after s e).nodes j starting_node)
unfolding effect
ordered s e f =
    by_step (λ r. (j : ℕ) → Ordered (get_or (kept s r).nodes j starting_node)) s e (λ _. f)
    (λ c _. stored s.nodes (actor e - 1) (reaction_to s e).node f (now (accepted_onward s e c)))
  where
    now : Onward (node_at s (actor e)) (node_at s (actor e)).activity (reaction_to s e) → Ordered (reaction_to s e).node
    now (same q) = subst (λ (a : Activity). Below (whom_still a) (whom_now a)) (sym q) (f (actor e - 1))
    now (goes x) = x.picked.below

run_ordered : (s : State) (es : List Event) → ((j : ℕ) → Ordered (get_or s.nodes j starting_node)) → (j : ℕ) → Ordered (get_or (run_from s es).nodes j starting_node)
unfolding run_from
run_ordered s [] f = f
run_ordered s (e ∷ es) f = run_ordered (after s e) es (ordered s e f)

-- ── the claim ──

pub call_order : CallOrder
call_order =
    record {
      invites_found = sends_found;
      invites_aside = sends_aside;
      forwards = sends_forward;
      hands = sends_ready;
      asks_first = sends_first;
      asks_expired = sends_expired;
      asks_answered = sends_answered;
      steps = step_picks;
      each = λ s e u j l. (step_keeps s e u j l).0;
      each_aside = λ s e u j l. (step_keeps s e u j l).1;
      runs = λ n lim es i. run_ordered (start n lim) es (started n) (i - 1);
    }
