-- A reaction weighs less than what it comes of: one lemma a procedure.
use Prim.Native.Nat.{ℕ, ◌+◌, ◌-◌, ◌*◌, ◌<◌, ◌≤◌}
use native.Mathlib.Omega.{arith}
use mathlib.Core.Bool.{Bool, true, false, ◌&&◌, true≢false}
use mathlib.Core.Path.{◌≡◌, refl, sym, ◌∙◌, ap}
use lib.Dec.{eqb}
use borrow.Author.Tests.{not-true, eqb-true, eqb-false, leb-true, ne_eqb}
use Rattle.node_set.specs.NodeSet.{with, without, count}
use Rattle.node_set.proofs.Laws.{within_word, empty_within, has_highest, highest_in, count_within, count_lacks, count_without}
use Rattle.model.specs.Pick.{pick, pick_true, pick_false, by_test}
use Rattle.model.specs.Node.{is_down, is_election, is_reorganization, is_normal, is_active, is_waiting, is_collecting, has_open_call, owner_of, tasked, joined, merged, invited}
use Rattle.model.specs.Procedures.{next, answers, recovers, invite_next, merges, hand_next, finishes, forward_next, asked_all, ask_at, ask_after}
use Rattle.model.specs.React.{leads, ticked, expired, resumed, on_are_you_coordinator, on_are_you_there, on_invitation, on_accept, on_ready, on_reply, received}
use Rattle.rest_bound.specs.Potential.{kind_weight, message_weight, activity_weight, is_active_coordinator, members_weight, node_weight, suits, node_suits}
use Rattle.model.proofs.Local.{both_left, both_right}
use Rattle.model.proofs.Fields.{IsSetOfOthers, IsOther, Busy, NodeFacts}
use Rattle.model.proofs.Invitation.{acts_normal}
use Rattle.model.proofs.Range.{Numbered, empty_set, set_with}
use Rattle.model.specs.declared.Status.{Status}
use Rattle.model.specs.declared.Status.TheVariants.{Down, Election, Reorganization, Normal}
use Rattle.model.specs.declared.Activity.{Activity}
use Rattle.model.specs.declared.Activity.TheVariants.{Idle, Asking, Waiting, Inviting, Collecting, Handing, Contacting, Forwarding, Accepting}
use Rattle.model.specs.declared.Node.{Node}
use Rattle.model.specs.declared.CallNo.{CallNo}
use Rattle.model.specs.declared.TaskNo.{TaskNo}
use Rattle.model.specs.declared.Message.{Message}
use Rattle.std.specs.Prelude.{Option, None, Some}
use Rattle.model.specs.declared.Mark.{Mark}
use Rattle.model.specs.declared.Mark.TheVariants.{Plain, Merges}
use Rattle.model.specs.declared.Reaction.{Reaction}

-- ── messages ──
record Kinds : Type 0 where
  pub asks : kind_weight 1 ≡ 2
  pub invites : kind_weight 3 ≡ 4
  pub accepts : kind_weight 4 ≡ 2
  pub readies : kind_weight 5 ≡ 2
  pub replies : kind_weight 6 ≡ 1

kinds : Kinds
unfolding kind_weight pick
kinds = record { asks = refl; invites = refl; accepts = refl; readies = refl; replies = refl }

-- a message weighs at least 1, and at most 4
pub kind_some : (k : ℕ) → 1 ≤ kind_weight k
unfolding kind_weight
kind_some k = by_test (λ x. 1 ≤ x) (λ _. omega arith) (λ _. by_test (λ x. 1 ≤ x) (λ _. omega arith) (λ _. omega arith))

pub kind_most : (k : ℕ) → kind_weight k ≤ 4
unfolding kind_weight
kind_most k = by_test (λ x. x ≤ 4) (λ _. omega arith) (λ _. by_test (λ x. x ≤ 4) (λ _. omega arith) (λ _. omega arith))

-- a call at least 2
kind_call : (k : ℕ) → (k ≡ 6 → ⊥) → 2 ≤ kind_weight k
unfolding kind_weight
kind_call k h = by_test (λ x. 2 ≤ x) (λ _. omega arith) (λ _. by_test (λ x. 2 ≤ x) (λ e. absurd (h (eqb-true k 6 e))) (λ _. omega arith))

kind_invites : (k : ℕ) → k ≡ 3 → kind_weight k ≡ 4
kind_invites k e = ap kind_weight e ∙ kinds.invites

abbrev pub outgoing_weight : Option Message → ℕ
outgoing_weight None = 0
outgoing_weight (Some m) = message_weight m

-- ── members ──
count_none : count 0 ≡ 0
count_none = omega (arith, count_within 0 0 (empty_within 0))

module _ (i : ℕ) (s : Status) (o m : ℕ) where
  members_some : is_active_coordinator i s o ≡ true → members_weight i s o m ≡ 5 * count m
  unfolding members_weight
  members_some h = rw (h, pick_true)

  members_none : is_active_coordinator i s o ≡ false → members_weight i s o m ≡ 0
  unfolding members_weight
  members_none h = rw (h, pick_false)

  pub members_most : members_weight i s o m ≤ 5 * count m
  unfolding members_weight
  members_most = by_test (λ x. x ≤ 5 * count m) (λ _. omega arith) (λ _. omega arith)

  -- those of a node in Election weigh nothing
  pub election_none : is_election s ≡ true → members_weight i s o m ≡ 0
  election_none e = members_none (still s e)
    where
      still : (a : Status) → is_election a ≡ true → is_active_coordinator i a o ≡ false
      still Down q = refl
      still Election q = refl
      still Reorganization q = absurd (true≢false (sym q))
      still Normal q = absurd (true≢false (sym q))

  -- they weigh the same in Normal as in Reorganization
  normal_same : is_active s ≡ true → members_weight i Normal o m ≡ members_weight i s o m
  unfolding members_weight
  normal_same e = ap (λ b. pick b (5 * count m) 0) (same s e)
    where
      same : (a : Status) → is_active a ≡ true → is_active_coordinator i Normal o ≡ is_active_coordinator i a o
      same Down q = absurd (true≢false (sym q))
      same Election q = absurd (true≢false (sym q))
      same Reorganization q = refl
      same Normal q = refl

reorganizing_active : (s : Status) → is_reorganization s ≡ true → is_active s ≡ true
reorganizing_active Down e = absurd (true≢false (sym e))
reorganizing_active Election e = absurd (true≢false (sym e))
reorganizing_active Reorganization e = refl
reorganizing_active Normal e = absurd (true≢false (sym e))

normal_heads : (i : ℕ) (s : Status) (o : ℕ) → is_normal s ≡ true → eqb o i ≡ true → is_active_coordinator i s o ≡ true
normal_heads i Down o e q = absurd (true≢false (sym e))
normal_heads i Election o e q = absurd (true≢false (sym e))
normal_heads i Reorganization o e q = absurd (true≢false (sym e))
normal_heads i Normal o e q = q

leads_heads : (i : ℕ) (c : Node) → leads i c ≡ true → is_active_coordinator i c.status c.coordinator ≡ true
leads_heads i c e = normal_heads i c.status c.coordinator (both_left (is_normal c.status) _ e) (both_right (is_normal c.status) _ e)

-- another's coordination
other_heads : (i : ℕ) (s : Status) (o : ℕ) → eqb o i ≡ false → is_active_coordinator i s o ≡ false
other_heads i s o e = off (is_active s) (eqb o i) e
  where
    off : (x y : Bool) → y ≡ false → (x && y) ≡ false
    off true y q = q
    off false y q = refl

-- ── the procedures ──

-- the reaction r of node i of n, with what it sends, weighs less than w
abbrev Below : ℕ → ℕ → ℕ → Reaction → Type 0
Below n i w r = node_weight n i r.node + outgoing_weight r.outgoing < w

-- the members of c, as far as they weigh
abbrev Members : ℕ → Node → ℕ
Members i c = members_weight i c.status c.coordinator c.members

module _ {n i : ℕ} (p : Numbered n i) where
  few : {s : ℕ} → IsSetOfOthers n i s → count s ≤ n - 1
  few {s} x = count_lacks n s i p.low p.high x.inside x.lacks

  -- the one that is called next is out
  next_out : {s : ℕ} → IsSetOfOthers n i s → eqb s 0 ≡ false → count (without s (next s)) + 1 ≡ count s
  next_out {s} x e =
      let d = eqb-false s 0 e in
      let q = within_word n s p.small x.inside in
      count_without s (next s) q (has_highest s (omega arith) q)

  recovers_below : (w : ℕ) (c : Node) → 1 ≤ w → Below n i w (recovers i c)
  recovers_below w c h = omega (arith, members_most i Normal i 0, count_none)

  module _ (w : ℕ) (c : Node) where
    invite_next_below : (k : Mark) (f o : ℕ) → IsSetOfOthers n i f → IsSetOfOthers n i o → 5 * (count f + count o) + (7 * (n - 1) + 2) + Members i c < w → Below n i w (invite_next i c k f o)
    unfolding invite_next
    invite_next_below k f o sf so h =
        by_test (Below n i w)
        (λ e. omega (arith, next_out sf (not-true _ e), kinds.invites))
        (λ _. by_test (Below n i w) (λ e. omega (arith, next_out so (not-true _ e), count_none, kinds.invites)) (λ _. omega arith))

    hand_next_below : (r : ℕ) → IsSetOfOthers n i r → is_active c.status ≡ true → 2 * count r + 1 + Members i c < w → Below n i w (hand_next i c r)
    unfolding hand_next
    hand_next_below r s a h =
        by_test (Below n i w)
        (λ _. omega (arith, normal_same i c.status c.coordinator c.members a))
        (λ e. omega (arith, next_out s e, kinds.readies))

    forward_next_below : (r a : ℕ) (k : CallNo) → IsSetOfOthers n i r → 5 * count r + 3 + Members i c < w → Below n i w (forward_next i c r a k)
    unfolding forward_next
    forward_next_below r a k s h =
        by_test (Below n i w) (λ _. omega (arith, kinds.accepts)) (λ e. omega (arith, next_out s e, kinds.invites))

  module _ (w : ℕ) (c : Node) (lead : leads i c ≡ true) where
    merges_below : (f : ℕ) → IsSetOfOthers n i f → IsSetOfOthers n i c.members → 12 * (n - 1) + 2 + Members i c < w → Below n i w (merges i c f)
    unfolding merges
    merges_below f s sm h =
        invite_next_below w (merged i c) Merges f c.members s sm
        (omega (arith, few s, members_some i c.status c.coordinator c.members (leads_heads i c lead), election_none i Election i 0 refl))

    asked_all_below : (f : ℕ) → IsSetOfOthers n i f → IsSetOfOthers n i c.members → 13 * (n - 1) + 2 + Members i c < w → Below n i w (asked_all i c f)
    unfolding asked_all
    asked_all_below f s sm h =
        by_test (Below n i w) (λ _. omega arith)
        (λ e. by_test (Below n i w)
        (λ _. let d = eqb-false f 0 e in omega (arith, p.low, (highest_in n f p.small s.inside (omega arith)).1))
        (λ _. merges_below f s sm (omega arith)))

    -- a is the node asked before
    ask_at_below : (a j f : ℕ) → a < j → IsSetOfOthers n i f → IsSetOfOthers n i c.members → 3 * (n - a) + (13 * (n - 1) + 2) + Members i c < w → Below n i w (ask_at n i c j f)
    unfolding ask_at
    ask_at_below a j f l s sm h =
        by_test (Below n i w) (λ e. omega (arith, leb-true j n e, kinds.asks)) (λ _. asked_all_below f s sm (omega arith))

    ask_after_below : (a f : ℕ) → IsSetOfOthers n i f → IsSetOfOthers n i c.members → 3 * (n - a) + (13 * (n - 1) + 2) + Members i c < w → Below n i w (ask_after n i c a f)
    unfolding ask_after
    ask_after_below a f s sm h =
        by_test (Below n i w) (λ _. ask_at_below a (a + 2) f (omega arith) s sm h) (λ _. ask_at_below a (a + 1) f (omega arith) s sm h)

  module _ (c : Node) (x : NodeFacts n i c) where
    pub ticked_below : (a : Activity) → is_waiting a ≡ true → suits n i c.status c.coordinator a ≡ true → Busy n i c.group.number c.task.number a
        → Below n i (activity_weight n a + Members i c) (ticked i c a)
    unfolding ticked
    ticked_below Idle e h b = absurd (true≢false (sym e))
    ticked_below (Asking a f) e h b = absurd (true≢false (sym e))
    ticked_below (Waiting k f) e h b =
        by_test (Below n i _)
        (λ _. merges_below _ c (both_left (leads i c) _ h) f b.2 x.members (omega (arith, b.0)))
        (λ _. omega (arith, b.0))
    ticked_below (Inviting f o w) e h b = absurd (true≢false (sym e))
    ticked_below Collecting e h b = absurd (true≢false (sym e))
    ticked_below (Handing r w) e h b = absurd (true≢false (sym e))
    ticked_below Contacting e h b = absurd (true≢false (sym e))
    ticked_below (Forwarding r w a k) e h b = absurd (true≢false (sym e))
    ticked_below (Accepting a k) e h b = absurd (true≢false (sym e))

    pub expired_below : (a : Activity) → has_open_call a ≡ true → suits n i c.status c.coordinator a ≡ true → Busy n i c.group.number c.task.number a
        → Below n i (activity_weight n a + Members i c) (expired n i c a)
    unfolding expired
    expired_below Idle e h b = absurd (true≢false (sym e))
    expired_below (Asking a f) e h b = ask_after_below _ c h a f b.1 x.members (omega arith)
    expired_below (Waiting k f) e h b = absurd (true≢false (sym e))
    expired_below (Inviting f o w) e h b = invite_next_below _ c Plain f o b.0 b.1 (omega arith)
    expired_below Collecting e h b = absurd (true≢false (sym e))
    expired_below (Handing r w) e h b = recovers_below _ c (omega arith)
    expired_below Contacting e h b = recovers_below _ c (omega arith)
    expired_below (Forwarding r w a k) e h b = forward_next_below _ c r a k b.0 (omega arith)
    expired_below (Accepting a k) e h b = recovers_below _ c (omega arith)

    -- a reply is in w: one more than the activity and the members
    resumed_below : (w : ℕ) (y : Bool) (a : Activity) → is_down c.status ≡ false → node_weight n i c < w → activity_weight n a + Members i c < w
        → suits n i c.status c.coordinator a ≡ true → Busy n i c.group.number c.task.number a → Below n i w (resumed n i c y a)
    unfolding resumed
    resumed_below w y Idle u k l h b = omega arith
    resumed_below w y (Asking a f) u k l h b =
        ask_after_below w c h a (pick y (with f a) f) (by_test (IsSetOfOthers n i) (λ _. set_with p a b.0 b.1) (λ _. b.1)) x.members (omega arith)
    resumed_below w y (Waiting t f) u k l h b = omega arith
    resumed_below w y (Inviting f o z) u k l h b = invite_next_below w c Plain f o b.0 b.1 (omega arith)
    resumed_below w y Collecting u k l h b = omega arith
    resumed_below w y (Handing r z) u k l h b = hand_next_below w c r b.0 h (omega arith)
    resumed_below w y Contacting u k l h b = by_test (Below n i w) (λ _. omega arith) (λ _. recovers_below w c (omega arith))
    resumed_below w y (Forwarding r z a q) u k l h b = forward_next_below w c r a q b.0 (omega arith)
    resumed_below w y (Accepting a q) u k l h b =
        let o : is_active_coordinator i Reorganization c.coordinator ≡ false = other_heads i Reorganization c.coordinator (ne_eqb c.coordinator i (λ z. b.2 (x.led u ∙ z))) in
        omega (arith, members_none i Reorganization c.coordinator c.members o, kinds.replies)

    -- a reply to a call; what it says weighs nothing
    answers_below : (w : ℕ) (d : Node) (m : Message) (y : Bool) → node_weight n i d + 1 < w → Below n i w (answers i d m y)
    answers_below w d m y h = omega (arith, kinds.replies)

    on_invitation_below : (w : ℕ) (m : Message) → node_weight n i c + 3 < w → Below n i w (on_invitation i c m)
    unfolding on_invitation
    on_invitation_below w m h =
        by_test (Below n i w) (λ _. answers_below w c m true (omega arith))
        (λ e. forward_next_below w (invited c m.group) (pick (eqb c.coordinator i) c.members 0) m.sender m.call
        (by_test (IsSetOfOthers n i) (λ _. x.members) (λ _. empty_set p))
        (omega (arith, election_none i Election (owner_of m.group.number) c.members refl, forwarded (acts_normal i c m.group e))))
      where
        -- those forwarded to are the members, as far as they weigh
        forwarded : is_normal c.status ≡ true → 5 * count (pick (eqb c.coordinator i) c.members 0) ≤ Members i c
        forwarded e =
            by_test (λ s. 5 * count s ≤ Members i c)
            (λ q. omega (arith, members_some i c.status c.coordinator c.members (normal_heads i c.status c.coordinator e q)))
            (λ _. omega (arith, count_none))

    on_accept_below : (w : ℕ) (m : Message) → node_weight n i c + 1 < w → Below n i w (on_accept i c m)
    unfolding on_accept
    on_accept_below w m h =
        answers_below w (pick (is_election c.status && eqb c.coordinator i && eqb c.group.number m.group.number) (joined c m.sender) c) m true
        (by_test (λ (d : Node). node_weight n i d + 1 < w)
        (λ e. omega (arith, election_none i c.status c.coordinator (with c.members m.sender) (both_left (is_election c.status) _ (both_left (is_election c.status && eqb c.coordinator i) _ e))))
        (λ _. h))

    on_ready_below : (w : ℕ) (m : Message) → node_weight n i c + 1 < w → Below n i w (on_ready i c m)
    unfolding on_ready
    on_ready_below w m h =
        answers_below w (pick (is_reorganization c.status && eqb c.group.number m.group.number) (tasked c Normal m.task) c) m true
        (by_test (λ (d : Node). node_weight n i d + 1 < w)
        (λ e. omega (arith, normal_same i c.status c.coordinator c.members (reorganizing_active c.status (both_left (is_reorganization c.status) _ e))))
        (λ _. h))

    on_reply_below : (w : ℕ) (m : Message) → is_down c.status ≡ false → node_suits n i c ≡ true → node_weight n i c < w → Below n i w (on_reply n i c m)
    unfolding on_reply
    on_reply_below w m u h l =
        by_test (Below n i w) (λ _. resumed_below w m.yes c.activity u l l h x.activity) (λ _. omega arith)

    pub received_below : (m : Message) → is_down c.status ≡ false → node_suits n i c ≡ true → Below n i (node_weight n i c + message_weight m) (received n i c m)
    unfolding received on_are_you_coordinator on_are_you_there
    received_below m u h =
        by_test P (λ e. answers_below w c m true (call 1 e (λ z. omega arith)))
        (λ _. by_test P (λ e. answers_below w c m true (call 2 e (λ z. omega arith)))
        (λ _. by_test P (λ e. on_invitation_below w m (omega (arith, kind_invites m.kind (eqb-true m.kind 3 e))))
        (λ _. by_test P (λ e. on_accept_below w m (call 4 e (λ z. omega arith)))
        (λ _. by_test P (λ e. on_ready_below w m (call 5 e (λ z. omega arith)))
        (λ _. by_test P (λ _. on_reply_below w m u h (omega (arith, kind_some m.kind))) (λ _. omega (arith, kind_some m.kind)))))))
      where
        w : ℕ
        w = node_weight n i c + message_weight m

        P : Reaction → Type 0
        P = Below n i w

        call : (k : ℕ) → eqb m.kind k ≡ true → (k ≡ 6 → ⊥) → node_weight n i c + 1 < w
        call k e d = omega (arith, kind_call m.kind (λ z. d (sym (eqb-true m.kind k e) ∙ z)))

    pub finishes_below : (t : TaskNo) → is_collecting c.activity ≡ true → Below n i (node_weight n i c) (finishes i c t)
    unfolding finishes
    finishes_below t e =
        hand_next_below _ (tasked c Reorganization t) c.members x.members refl
        (omega (arith, collects c.activity e, few x.members, members_most i Reorganization c.coordinator c.members))
      where
        collects : (a : Activity) → is_collecting a ≡ true → activity_weight n a ≡ 7 * (n - 1) + 2
        collects Idle q = absurd (true≢false (sym q))
        collects (Asking a f) q = absurd (true≢false (sym q))
        collects (Waiting k f) q = absurd (true≢false (sym q))
        collects (Inviting f o w) q = absurd (true≢false (sym q))
        collects Collecting q = refl
        collects (Handing r w) q = absurd (true≢false (sym q))
        collects Contacting q = absurd (true≢false (sym q))
        collects (Forwarding r w a k) q = absurd (true≢false (sym q))
        collects (Accepting a k) q = absurd (true≢false (sym q))

    -- a node in range whose activity suits weighs no more than one that asks its first
    pub node_most : node_suits n i c ≡ true → node_weight n i c ≤ 21 * (n - 1) + 3
    node_most h = by_activity c.activity h x.activity
      where
        most : Members i c ≤ 5 * (n - 1)
        most = omega (arith, few x.members, members_most i c.status c.coordinator c.members)

        -- where there is another node, n is at least 2
        two : {j : ℕ} → IsOther n i j → 2 ≤ n
        two o = omega (arith, o, p)

        by_activity : (a : Activity) → suits n i c.status c.coordinator a ≡ true → Busy n i c.group.number c.task.number a → activity_weight n a + Members i c ≤ 21 * (n - 1) + 3
        by_activity Idle h b = omega (arith, most)
        by_activity (Asking a f) h b = omega (arith, most, b.0.low)
        by_activity (Waiting k f) h b = omega (arith, most, leb-true k (n - 1) (both_right (leads i c) _ h))
        by_activity (Inviting f o w) h b = omega (arith, election_none i c.status c.coordinator c.members h, few b.0, few b.1)
        by_activity Collecting h b = omega (arith, most)
        by_activity (Handing r w) h b = omega (arith, most, few b.0)
        by_activity Contacting h b = omega (arith, most)
        by_activity (Forwarding r w a k) h b = omega (arith, most, few b.0, two b.1)
        by_activity (Accepting a k) h b = omega (arith, most)
