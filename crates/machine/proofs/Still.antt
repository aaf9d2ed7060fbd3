-- An accepted event changes the state, but for a check and a timeout where nothing changes; and a reply to the open call changes the node.
use Prim.Native.Nat.{ℕ, ◌+◌, ◌-◌, ◌≤◌}
use native.Mathlib.Omega.{arith}
use mathlib.Core.Bool.{Bool, true, false, not, ◌&&◌, true≢false}
use mathlib.Core.Path.{◌≡◌, refl, sym, ◌∙◌, ap}
use mathlib.Core.Logic.{◌⊎◌, inl, inr}
use mathlib.Core.List.{List, [], ◌∷◌, ◌++◌, append_assoc, append_cancel_left}
use lib.Dec.{eqb, ltb}
use lib.ListN.{length, get_or, length-append}
use borrow.Author.Tests.{not-false, not-true, eqb-true, eqb-false, eq-eqb, le-leb, ltb-true}
use Rattle.model.specs.Pick.{pick, by_test}
use Rattle.model.specs.Node.{is_down, is_waiting, is_collecting, has_open_call, merged, invited}
use Rattle.model.specs.Procedures.{invite_next, merges, hand_next, finishes, forward_next, asked_all, ask_at, ask_after}
use Rattle.model.specs.React.{checked, timed_out, ticked, expired, resumed, on_are_you_coordinator, on_are_you_there, on_invitation, on_accept, on_ready, on_reply, received, react}
use Rattle.model.specs.Range.{is_node, is_other}
use Rattle.model.specs.State.{State, starting_node, node_at, oldest, without_oldest}
use Rattle.model.specs.Step.{actor, reaction_to, remaining, sent, effect, accepted, step}
use Rattle.model.specs.Claims.{WithoutOldest}
use Rattle.model.proofs.Judged.{Clear, accepted_is}
use Rattle.model.proofs.Numbers.{actor_in}
use Rattle.model.proofs.Local.{both_left, both_right}
use Rattle.model.proofs.Fields.{Busy, in_range_node, node_facts, own_record}
use Rattle.model.proofs.Locality.{taken_out}
use Rattle.model.specs.declared.Activity.{Activity}
use Rattle.model.specs.declared.Activity.TheVariants.{Idle, Asking, Waiting, Inviting, Collecting, Handing, Contacting, Forwarding, Accepting}
use Rattle.model.specs.declared.Node.{Node}
use Rattle.model.specs.declared.CallNo.{CallNo}
use Rattle.model.specs.declared.TaskNo.{TaskNo}
use Rattle.model.specs.declared.Message.{Message}
use Rattle.std.specs.Prelude.{Option, None, Some}
use Rattle.model.specs.declared.Mark.{Mark}
use Rattle.model.specs.declared.Mark.TheVariants.{Plain, Merges}
use Rattle.model.specs.declared.Reaction.{Reaction}
use Rattle.model.specs.declared.Event.{Event}
use Rattle.model.specs.declared.Event.TheVariants.{Crash, Recover, Check, Timeout, Tick, Expire, Finish, Deliver, Lose}
use Rattle.machine.specs.Mutants.{may_rest}

-- ── the record of the event's node ──

-- what a procedure makes of the record c: the next call is made, or a group is formed, or no call is open
abbrev Goes : Node → Reaction → Type 0
Goes c r = (r.node.last.number ≡ c.last.number + 1) ⊎ ((r.node.counter ≡ c.counter + 1) ⊎ (has_open_call r.node.activity ≡ false))

invite_goes : (i : ℕ) (c : Node) (k : Mark) (f o : ℕ) → ((invite_next i c k f o).node.counter ≡ c.counter) × Goes c (invite_next i c k f o)
unfolding invite_next pick
invite_goes i c k f o = by (eqb f 0) (eqb o 0) refl refl
  where
    by : (a b : Bool) → eqb f 0 ≡ a → eqb o 0 ≡ b → ((invite_next i c k f o).node.counter ≡ c.counter) × Goes c (invite_next i c k f o)
    by true true p q = simp (p, q) (refl, inr (inr refl))
    by true false p q = simp (p, q) (refl, inl refl)
    by false b p q = simp p (refl, inl refl)

merge_counts : (i : ℕ) (c : Node) (f : ℕ) → (merges i c f).node.counter ≡ c.counter + 1
unfolding merges
merge_counts i c f = (invite_goes i (merged i c) Merges f c.members).0

forward_goes : (i : ℕ) (c : Node) (r a : ℕ) (k : CallNo) → Goes c (forward_next i c r a k)
unfolding forward_next
forward_goes i c r a k = by_test (Goes c) (λ _. inl refl) (λ _. inl refl)

ask_goes : (n i : ℕ) (c : Node) (j f : ℕ) → Goes c (ask_after n i c j f)
unfolding asked_all ask_at ask_after
ask_goes n i c j f = by_test (Goes c) (λ _. at (j + 2)) (λ _. at (j + 1))
  where
    all : Goes c (asked_all i c f)
    all = by_test (Goes c) (λ _. inr (inr refl)) (λ _. by_test (Goes c) (λ _. inr (inr refl)) (λ _. inr (inl (merge_counts i c f))))

    at : (x : ℕ) → Goes c (ask_at n i c x f)
    at x = by_test (Goes c) (λ _. inl refl) (λ _. all)

expire_goes : (n i : ℕ) (c : Node) (a : Activity) → has_open_call a ≡ true → Goes c (expired n i c a)
unfolding expired
expire_goes n i c Idle e = absurd (true≢false (sym e))
expire_goes n i c (Asking j f) e = ask_goes n i c j f
expire_goes n i c (Waiting k f) e = absurd (true≢false (sym e))
expire_goes n i c (Inviting f o w) e = (invite_goes i c Plain f o).1
expire_goes n i c Collecting e = absurd (true≢false (sym e))
expire_goes n i c (Handing r w) e = inr (inl refl)
expire_goes n i c Contacting e = inr (inl refl)
expire_goes n i c (Forwarding r w a k) e = forward_goes i c r a k
expire_goes n i c (Accepting a k) e = inr (inl refl)

resume_goes : (n i : ℕ) (c : Node) (y : Bool) (a : Activity) → has_open_call a ≡ true → Goes c (resumed n i c y a)
unfolding resumed hand_next
resume_goes n i c y Idle e = absurd (true≢false (sym e))
resume_goes n i c y (Asking j f) e = ask_goes n i c j _
resume_goes n i c y (Waiting k f) e = absurd (true≢false (sym e))
resume_goes n i c y (Inviting f o w) e = (invite_goes i c Plain f o).1
resume_goes n i c y Collecting e = absurd (true≢false (sym e))
resume_goes n i c y (Handing r w) e = by_test (Goes c) (λ _. inr (inr refl)) (λ _. inl refl)
resume_goes n i c y Contacting e = by_test (Goes c) (λ _. inr (inr refl)) (λ _. inr (inl refl))
resume_goes n i c y (Forwarding r w a k) e = forward_goes i c r a k
resume_goes n i c y (Accepting a k) e = inr (inr refl)

-- the first to be asked is there
ask_first : (n i : ℕ) (c : Node) → ltb 1 n ≡ true → (ask_after n i c 0 0).node.last.number ≡ c.last.number + 1
unfolding ask_after ask_at
ask_first n i c h =
    by_test Calls (λ _. by_test Calls (λ _. refl) (λ q. absurd (true≢false (sym (le-leb 2 n (omega (arith, ltb-true 1 n h))) ∙ q))))
    (λ _. by_test Calls (λ _. refl) (λ q. absurd (true≢false (sym (le-leb 1 n (omega (arith, ltb-true 1 n h))) ∙ q))))
  where
    Calls : Reaction → Type 0
    Calls r = r.node.last.number ≡ c.last.number + 1

check_differs : (n i : ℕ) (c : Node) → not (ltb 1 n) ≡ false → (checked n i c).node ≡ c → ⊥
unfolding checked
check_differs n i c m =
    by_test (λ (r : Reaction). r.node ≡ c → ⊥) (λ x e. omega (arith, ask_first n i c x, ap (λ (d : Node). d.last.number) e))
    (λ x. absurd (true≢false (sym (not-false _ m) ∙ x)))

timeout_differs : (i : ℕ) (c : Node) → eqb c.coordinator i ≡ false → (timed_out i c).node ≡ c → ⊥
unfolding timed_out pick
timeout_differs i c m = rw m (λ e. omega (arith, ap (λ (d : Node). d.last.number) e))

expire_differs : (c : Node) (r : Reaction) → Goes c r → has_open_call c.activity ≡ true → r.node ≡ c → ⊥
expire_differs c r (inl g) h e = omega (arith, g, ap (λ (d : Node). d.last.number) e)
expire_differs c r (inr (inl g)) h e = omega (arith, g, ap (λ (d : Node). d.counter) e)
expire_differs c r (inr (inr g)) h e = true≢false (sym h ∙ sym (ap (λ (d : Node). has_open_call d.activity) e) ∙ g)

tick_differs : (n i g t : ℕ) (c : Node) (a : Activity) → c.activity ≡ a → is_waiting a ≡ true → Busy n i g t a → (ticked i c a).node ≡ c → ⊥
unfolding ticked
tick_differs n i g t c Idle q w b = absurd (true≢false (sym w))
tick_differs n i g t c (Asking j f) q w b = absurd (true≢false (sym w))
tick_differs n i g t c (Waiting k f) q w b =
    by_test (λ (r : Reaction). r.node ≡ c → ⊥) (λ _ e. omega (arith, merge_counts i c f, ap (λ (d : Node). d.counter) e))
    (λ _ e. fewer k (ap (λ (d : Node). d.activity) e ∙ q) b.0)
  where
    fewer : (k : ℕ) → Waiting (k - 1) f ≡ Waiting k f → 1 ≤ k → ⊥
    fewer k e h = let z : k - 1 ≡ k = cc in omega arith
tick_differs n i g t c (Inviting f o x) q w b = absurd (true≢false (sym w))
tick_differs n i g t c Collecting q w b = absurd (true≢false (sym w))
tick_differs n i g t c (Handing r x) q w b = absurd (true≢false (sym w))
tick_differs n i g t c Contacting q w b = absurd (true≢false (sym w))
tick_differs n i g t c (Forwarding r x a k) q w b = absurd (true≢false (sym w))
tick_differs n i g t c (Accepting a k) q w b = absurd (true≢false (sym w))

finish_ends : (i : ℕ) (c : Node) (t : TaskNo) → is_collecting (finishes i c t).node.activity ≡ false
unfolding finishes hand_next
finish_ends i c t = by_test (λ (r : Reaction). is_collecting r.node.activity ≡ false) (λ _. refl) (λ _. refl)

-- ── the sender of what a node sends ──

abbrev SentBy : ℕ → Option Message → Type 0
SentBy i None = Unit {0}
SentBy i (Some m) = m.sender ≡ i

abbrev By : ℕ → Reaction → Type 0
By i r = SentBy i r.outgoing

invite_by : (i : ℕ) (c : Node) (k : Mark) (f o : ℕ) → By i (invite_next i c k f o)
unfolding invite_next pick
invite_by i c k f o = by (eqb f 0) (eqb o 0) refl refl
  where
    by : (a b : Bool) → eqb f 0 ≡ a → eqb o 0 ≡ b → By i (invite_next i c k f o)
    by true true p q = simp (p, q) tt
    by true false p q = simp (p, q) refl
    by false b p q = simp p refl

forward_by : (i : ℕ) (c : Node) (r a : ℕ) (k : CallNo) → By i (forward_next i c r a k)
unfolding forward_next
forward_by i c r a k = by_test (By i) (λ _. refl) (λ _. refl)

ask_by : (n i : ℕ) (c : Node) (j f : ℕ) → By i (ask_after n i c j f)
unfolding merges asked_all ask_at ask_after
ask_by n i c j f = by_test (By i) (λ _. at (j + 2)) (λ _. at (j + 1))
  where
    all : By i (asked_all i c f)
    all = by_test (By i) (λ _. tt) (λ _. by_test (By i) (λ _. tt) (λ _. invite_by i (merged i c) Merges f c.members))

    at : (x : ℕ) → By i (ask_at n i c x f)
    at x = by_test (By i) (λ _. refl) (λ _. all)

resumed_by : (n i : ℕ) (c : Node) (y : Bool) (a : Activity) → By i (resumed n i c y a)
unfolding resumed hand_next
resumed_by n i c y Idle = tt
resumed_by n i c y (Asking j f) = ask_by n i c j _
resumed_by n i c y (Waiting k f) = tt
resumed_by n i c y (Inviting f o w) = invite_by i c Plain f o
resumed_by n i c y Collecting = tt
resumed_by n i c y (Handing r w) = by_test (By i) (λ _. tt) (λ _. refl)
resumed_by n i c y Contacting = by_test (By i) (λ _. tt) (λ _. tt)
resumed_by n i c y (Forwarding r w a k) = forward_by i c r a k
resumed_by n i c y (Accepting a k) = refl

invited_by : (i : ℕ) (c : Node) (m : Message) → By i (on_invitation i c m)
unfolding on_invitation
invited_by i c m = by_test (By i) (λ _. refl) (λ _. forward_by i (invited c m.group) _ m.sender m.call)

received_by : (n i : ℕ) (c : Node) (m : Message) → By i (received n i c m)
unfolding received on_are_you_coordinator on_are_you_there on_accept on_ready on_reply
received_by n i c m =
    by_test (By i) (λ _. refl)
    (λ _. by_test (By i) (λ _. refl)
    (λ _. by_test (By i) (λ _. invited_by i c m)
    (λ _. by_test (By i) (λ _. refl)
    (λ _. by_test (By i) (λ _. refl)
    (λ _. by_test (By i) (λ _. by_test (By i) (λ _. resumed_by n i c m.yes c.activity) (λ _. tt))
    (λ _. tt))))))

-- ── the queue ──

-- a list that is the same after its head went to its end
rotated : (x m : Message) (l : List Message) → l ++ (m ∷ []) ≡ x ∷ l → m ≡ x
rotated x m [] e = cc
rotated x m (y ∷ l) e =
    let z : l ++ (m ∷ []) ≡ y ∷ l = cc in
    let w : y ≡ x = cc in
    rotated y m l z ∙ w

-- a queue without its oldest message from a to b, and with what b sent, is not the same
queue_differs : (a b : ℕ) (q r : List Message) (o : Option Message) → WithoutOldest a b q r → (b ≡ a → ⊥) → SentBy b o → r ++ sent o ≡ q → ⊥
queue_differs a b q r o w d h e = by o h (append_cancel_left w.before _ _ (sym (append_assoc w.before w.behind (sent o)) ∙ ap (λ (l : List Message). l ++ sent o) (sym w.left) ∙ e ∙ w.whole))
  where
    by : (o : Option Message) → SentBy b o → w.behind ++ sent o ≡ w.taken ∷ w.behind → ⊥
    by None h z = omega (arith, ap length z, length-append w.behind [])
    by (Some m) h z =
        d (sym h ∙ ap (λ (x : Message). x.sender) (rotated w.taken m w.behind z) ∙ eqb-true _ a (both_left (eqb w.taken.sender a) _ w.goes_there))

-- ── the claim ──

module _ (s : State) where
  own : (e : Event) → Clear s e → (effect s e).nodes ≡ s.nodes → (reaction_to s e).node ≡ node_at s (actor e)
  own e c h = sym (own_record s e c) ∙ ap (λ (l : List Node). get_or l (actor e - 1) starting_node) h

  others : (a b : ℕ) → not (is_node s.n a && is_other s.n a b) ≡ false → b ≡ a → ⊥
  others a b q =
      let x : is_other s.n a b ≡ true = both_right (is_node s.n a) _ (not-false _ q) in
      eqb-false b a (not-true _ (both_right (is_node s.n b) _ x))

  differs : (e : Event) → Clear s e → may_rest s e ≡ false → (effect s e).nodes ≡ s.nodes → (effect s e).queue ≡ s.queue → ⊥
  unfolding effect reaction_to react remaining
  differs (Crash i) c m h g = true≢false (ap (λ (d : Node). is_down d.status) (own (Crash i) c h) ∙ c.status)
  differs (Recover i) c m h g = omega (arith, ap (λ (d : Node). d.counter) (own (Recover i) c h))
  differs (Check i) c m h g = check_differs s.n i (node_at s i) m (own (Check i) c h)
  differs (Timeout i) c m h g = timeout_differs i (node_at s i) m (own (Timeout i) c h)
  differs (Tick i) c m h g =
      let k = actor_in s.n (Tick i) c.number in
      tick_differs s.n i (node_at s i).group.number (node_at s i).task.number (node_at s i) (node_at s i).activity refl (not-false _ c.activity) (node_facts s.n i (node_at s i) (in_range_node s i c.in_range_lem k.0 k.1)).activity (own (Tick i) c h)
  differs (Expire i) c m h g = expire_differs (node_at s i) (expired s.n i (node_at s i) (node_at s i).activity) (expire_goes s.n i (node_at s i) (node_at s i).activity (not-false _ c.activity)) (not-false _ c.activity) (own (Expire i) c h)
  differs (Finish i t) c m h g =
      true≢false (sym (not-false _ c.activity) ∙ sym (ap (λ (d : Node). is_collecting d.activity) (own (Finish i t) c h)) ∙ finish_ends i (node_at s i) t)
  differs (Deliver a b) c m h g =
      queue_differs a b s.queue (without_oldest a b s.queue) (received s.n b (node_at s b) (oldest a b s.queue)).outgoing (taken_out a b s.queue (not-false _ c.waiting)) (others a b c.number) (received_by s.n b (node_at s b) (oldest a b s.queue)) g
  differs (Lose a b) c m h g =
      queue_differs a b s.queue (without_oldest a b s.queue) None (taken_out a b s.queue (not-false _ c.waiting)) (others a b c.number) tt g

pub accepted_differs : (s : State) (e : Event) (u : State) (k : Mark) → step s e ≡ accepted u k → may_rest s e ≡ false → u.nodes ≡ s.nodes → u.queue ≡ s.queue → ⊥
accepted_differs s e u k q m h g =
    let a = accepted_is s e u k q in
    differs s e a.clear m (sym (ap (λ (v : State). v.nodes) a.state) ∙ h) (sym (ap (λ (v : State). v.queue) a.state) ∙ g)

-- a reply to the open call changes the node
pub reply_taken : (n i : ℕ) (c : Node) (m : Message) → m.kind ≡ 6 → m.call.number ≡ c.last.number → has_open_call c.activity ≡ true → (received n i c m).node ≡ c → ⊥
unfolding received on_reply pick
reply_taken n i c m k z h = rw (k, eq-eqb _ _ z) (expire_differs c (resumed n i c m.yes c.activity) (resume_goes n i c m.yes c.activity h) h)
