-- The delivery of an invitation in every table in range: a plain reply on each of three conditions; else it is forwarded, accepted, or refused for want of a call number.
use Prim.Native.Nat.{ℕ, ◌-◌, ◌<◌}
use native.Mathlib.Omega.{arith}
use mathlib.Core.Bool.{Bool, true, false, not, ◌&&◌, ◌||◌, true≢false}
use mathlib.Core.Path.{◌≡◌, refl, sym, ◌∙◌, ap, subst}
use mathlib.Core.List.{List, [], ◌∷◌, ◌++◌}
use lib.Dec.{eqb}
use lib.ListN.{length, set}
use lib.Seq.{set-get_or}
use borrow.Author.Tests.{eqb-true, eq-eqb, le-leb, ne_eqb}
use Rattle.node_set.specs.NodeSet.{without}
use Rattle.model.specs.Range.{TwoPairs}
use Rattle.model.specs.Pick.{pick, pick_true, by_test}
use Rattle.model.specs.Limits.{counter_end, call_end, traffic_end}
use Rattle.model.specs.Counts.{count_at, one_more}
use Rattle.model.specs.Node.{is_normal, owner_of, next_call, calling, invited, calls, replies}
use Rattle.model.specs.Procedures.{next, reaction, forward_next}
use Rattle.model.specs.React.{only_replies, on_invitation, react}
use Rattle.model.specs.State.{State, start, starting_node, node_at, goes, waits, oldest, without_oldest, in_range}
use Rattle.model.specs.Grounds.{judged}
use Rattle.model.specs.Step.{step, grounds, run_from, reaction_to, remaining, sent, with_sent, effect, wrong_number, forms, is_calling, is_sending, pair_at_end, Result, refused, accepted, kept, run}
use Rattle.model.specs.Claims.{InvitationReaches, Owns, Holds, NoPlainReply, with_plain_reply, with_call, MaySend, InvitationRules}
use Rattle.model.proofs.Judged.{Clear, by_step, clear_accepts}
use Rattle.model.proofs.Refusals.{clear_ends}
use Rattle.model.proofs.Traffic.{run_n, run_within, start_within, within_not_seventeen}
use Rattle.model.proofs.Local.{right_fails, both_left, both_right}
use Rattle.model.proofs.Whole.{run_append}
use Rattle.model.proofs.Fields.{IsNode, IsOther, MessageFacts, message_facts, in_range_own, in_range_size, in_range_oldest, oldest_goes}
use Rattle.model.proofs.InRange.{without_length, run_in}
use Rattle.model.proofs.Invitation.{where_not_normal, where_owned, where_held, where_none, plain_reply, acted_on, kind_three}
use Rattle.model.specs.declared.Limits.{Limits}
use Rattle.model.specs.declared.Status.TheVariants.{Election}
use Rattle.model.specs.declared.Activity.TheVariants.{Forwarding, Accepting}
use Rattle.model.specs.declared.Node.{Node}
use Rattle.model.specs.declared.Message.{Message}
use Rattle.std.specs.Prelude.{Some}
use Rattle.model.specs.declared.Mark.TheVariants.{Plain}
use Rattle.model.specs.declared.Reaction.{Reaction}
use Rattle.model.specs.declared.Event.{Event}
use Rattle.model.specs.declared.Event.TheVariants.{Deliver}

-- a message of kind 3 waits
kind_waits : (a b : ℕ) (q : List Message) → (oldest a b q).kind ≡ 3 → waits a b q ≡ true
unfolding waits oldest
kind_waits a b [] k = let z : ◌≡◌ {A = ℕ} 0 3 = k in absurd (omega arith)
kind_waits a b (m ∷ ms) k = by_test (λ (x : Message). x.kind ≡ 3 → goes a b m || waits a b ms ≡ true) (λ t _. rw t) (λ t h. rw t (kind_waits a b ms h)) k

-- what a node does with an invitation, whatever the table
module _ (s : State) (a b : ℕ) (k : (oldest a b s.queue).kind ≡ 3) where
  abbrev m : Message
  m = oldest a b s.queue

  abbrev c : Node
  c = node_at s b

  reacts : reaction_to s (Deliver a b) ≡ on_invitation b c m
  unfolding reaction_to react
  reacts = kind_three s.n b c m k

  -- those to whom it forwards
  abbrev rest : ℕ
  rest = pick (eqb c.coordinator b) c.members 0

  module _ (x : NoPlainReply s a b) where
    acts : reaction_to s (Deliver a b) ≡ forward_next b (invited c m.group) rest m.sender m.call
    acts = reacts ∙ acted_on b c m (where_none b c m.group x.normal x.not_owned x.not_held)

    acts_election : (reaction_to s (Deliver a b)).node.status ≡ Election
    unfolding forward_next
    acts_election = ap (λ (r : Reaction). r.node.status) acts ∙ by_test (λ (r : Reaction). r.node.status ≡ Election) (λ _. refl) (λ _. refl)

    acts_plain : forms (reaction_to s (Deliver a b)).mark ≡ false
    unfolding forward_next
    acts_plain = ap (λ (r : Reaction). forms r.mark) acts ∙ by_test (λ (r : Reaction). forms r.mark ≡ false) (λ _. refl) (λ _. refl)

    acts_calling : is_calling (reaction_to s (Deliver a b)).outgoing ≡ true
    unfolding forward_next
    acts_calling = ap (λ (r : Reaction). is_calling r.outgoing) acts ∙ by_test (λ (r : Reaction). is_calling r.outgoing ≡ true) (λ _. refl) (λ _. refl)

-- it does not become Normal, nor stay so, by an invitation to a group that it neither owns nor holds
pub acts_not_normal : (s : State) (a b : ℕ) → (oldest a b s.queue).kind ≡ 3 → (Owns s a b → ⊥) → (Holds s a b → ⊥) → is_normal (reaction_to s (Deliver a b)).node.status ≡ false
acts_not_normal s a b k o h = by (is_normal (node_at s b).status) refl
  where
    by : (t : Bool) → is_normal (node_at s b).status ≡ t → is_normal (reaction_to s (Deliver a b)).node.status ≡ false
    by true e = ap is_normal (acts_election s a b k (record { normal = e; not_owned = o; not_held = h }))
    by false e =
        ap (λ (r : Reaction). is_normal r.node.status) (reacts s a b k ∙ plain_reply b (node_at s b) (oldest a b s.queue) (where_not_normal b (node_at s b) _ e)) ∙ e

-- in a table in range
module _ (s : State) (a b : ℕ) (x : InvitationReaches s a b) where
  waiting : waits a b s.queue ≡ true
  waiting = kind_waits a b s.queue x.kind

  facts : MessageFacts s.n (oldest a b s.queue)
  facts = message_facts s.n (oldest a b s.queue) (in_range_oldest s a b x.in_range_lem waiting)

  from : (oldest a b s.queue).sender ≡ a
  from = eqb-true _ a (both_left (eqb (oldest a b s.queue).sender a) _ (oldest_goes a b s.queue waiting))

  to : (oldest a b s.queue).receiver ≡ b
  to = eqb-true _ b (both_right (eqb (oldest a b s.queue).sender a) _ (oldest_goes a b s.queue waiting))

  numbers : wrong_number s.n (Deliver a b) ≡ false
  numbers =
      let f : IsNode s.n a = subst (IsNode s.n) from facts.sender in
      let t : IsOther s.n a b = subst (λ (j : ℕ). IsOther s.n j b) from (subst (IsOther s.n (oldest a b s.queue).sender) to facts.receiver) in
      simp (le-leb 1 a f.low, le-leb a s.n f.high, le-leb 1 b t.low, le-leb b s.n t.high, ne_eqb b a t.other)

  -- it is accepted where what the node does needs no group and no call that is not to be had
  clear : forms (reaction_to s (Deliver a b)).mark ≡ false → is_calling (reaction_to s (Deliver a b)).outgoing && eqb (node_at s b).last.number call_end ≡ false
      → Clear s (Deliver a b)
  unfolding remaining
  clear f h =
      record {
        in_range_lem = x.in_range_lem;
        number = numbers;
        task = refl;
        status = x.not_down;
        activity = refl;
        coordinator = refl;
        majority = refl;
        waiting = ap not waiting;
        counter = ap (λ (t : Bool). t && eqb (node_at s b).counter counter_end) f;
        calls = h;
        room = right_fails (is_sending (reaction_to s (Deliver a b)).outgoing)
            (ne_eqb (length (without_oldest a b s.queue)) s.limits.messages (λ q. omega (arith, q, without_length a b s.queue waiting, (in_range_own s x.in_range_lem).1)));
      }

  -- what the node does says what the step is
  abbrev left : Reaction → State
  left r = record {
    rule = s.rule;
    n = s.n;
    limits = s.limits;
    nodes = set s.nodes (b - 1) r.node;
    queue = without_oldest a b s.queue ++ sent r.outgoing;
    sent = with_sent s.sent r.outgoing;
    delivered = one_more s.delivered a b;
    lost = s.lost;
  }

  leaves : (d : Node) (y : Message) → (count_at s.sent y.sender y.receiver ≡ traffic_end → ⊥) → reaction_to s (Deliver a b) ≡ reaction d (Some y) Plain → Clear s (Deliver a b)
      → step s (Deliver a b) ≡ accepted (left (reaction d (Some y) Plain)) Plain
  unfolding effect remaining
  leaves d y w e h =
      clear_accepts s (Deliver a b) h (ap (λ (r : Reaction). pair_at_end s.sent r.outgoing) e ∙ ne_eqb _ traffic_end w)
      ∙ ap (λ (r : Reaction). accepted (left r) r.mark) e

  module _ (e : only_replies b (node_at s b) (oldest a b s.queue).group ≡ true) where
    answer : reaction_to s (Deliver a b) ≡ reaction (node_at s b) (Some (replies b a (oldest a b s.queue).call true)) Plain
    answer =
        reacts s a b x.kind
        ∙ plain_reply b (node_at s b) (oldest a b s.queue) e
        ∙ ap (λ (j : ℕ). reaction (node_at s b) (Some (replies b j (oldest a b s.queue).call true)) Plain) from

    plain_clear : Clear s (Deliver a b)
    plain_clear = clear (ap (λ (r : Reaction). forms r.mark) answer) (ap (λ (r : Reaction). is_calling r.outgoing && eqb (node_at s b).last.number call_end) answer)

    plainly : (count_at s.sent b a ≡ traffic_end → ⊥) → step s (Deliver a b) ≡ accepted (with_plain_reply s a b) Plain
    plainly w =
        leaves (node_at s b) (replies b a (oldest a b s.queue).call true) w answer plain_clear
        ∙ ap (λ (l : List Node). accepted (record {
          rule = s.rule;
          n = s.n;
          limits = s.limits;
          nodes = l;
          queue = (with_plain_reply s a b).queue;
          sent = (with_plain_reply s a b).sent;
          delivered = (with_plain_reply s a b).delivered;
          lost = s.lost;
        }) Plain) (set-get_or s.nodes (b - 1) starting_node)

    plain_end : count_at s.sent b a ≡ traffic_end → step s (Deliver a b) ≡ refused 17
    plain_end w = clear_ends s (Deliver a b) plain_clear (ap (λ (r : Reaction). pair_at_end s.sent r.outgoing) answer ∙ eq-eqb _ _ w)

  module _ (y : NoPlainReply s a b) where
    calling_clear : (node_at s b).last.number < call_end → Clear s (Deliver a b)
    calling_clear l =
        clear (acts_plain s a b x.kind y)
        (ap (λ (t : Bool). t && eqb (node_at s b).last.number call_end) (acts_calling s a b x.kind y) ∙ ne_eqb (node_at s b).last.number call_end (λ q. omega arith))

    abbrev joins : ℕ → Reaction
    joins r = forward_next b (invited (node_at s b) (oldest a b s.queue).group) r a (oldest a b s.queue).call

    acting : (r : ℕ) → rest s a b x.kind ≡ r → reaction_to s (Deliver a b) ≡ joins r
    acting r e =
        acts s a b x.kind y
        ∙ ap (λ (j : ℕ). forward_next b (invited (node_at s b) (oldest a b s.queue).group) (rest s a b x.kind) j (oldest a b s.queue).call) from
        ∙ ap joins e

    -- what b sends meets 17, where the count of its pair is at its end
    call_end_lem : (node_at s b).last.number < call_end → (d : Node) (m : Message) → reaction_to s (Deliver a b) ≡ reaction d (Some m) Plain
        → count_at s.sent m.sender m.receiver ≡ traffic_end → step s (Deliver a b) ≡ refused 17
    call_end_lem l d m e w = clear_ends s (Deliver a b) (calling_clear l) (ap (λ (r : Reaction). pair_at_end s.sent r.outgoing) e ∙ eq-eqb _ _ w)

    accepts_end : (node_at s b).last.number < call_end → rest s a b x.kind ≡ 0 → count_at s.sent b (owner_of (oldest a b s.queue).group.number) ≡ traffic_end
        → step s (Deliver a b) ≡ refused 17
    unfolding forward_next
    accepts_end l e w = call_end_lem l _ _ (acting 0 e ∙ pick_true _ _) w

    forwards_end : (node_at s b).last.number < call_end → rest s a b x.kind ≡ (node_at s b).members → 0 < (node_at s b).members
        → count_at s.sent b (next (node_at s b).members) ≡ traffic_end → step s (Deliver a b) ≡ refused 17
    unfolding forward_next pick
    forwards_end l e p w =
        let c = invited (node_at s b) (oldest a b s.queue).group in
        let m = (node_at s b).members in
        call_end_lem l (calling c (Forwarding (without m (next m)) (next m) a (oldest a b s.queue).call)) (calls b 3 (next m) (next_call c) c.group)
        (acting m e ∙ rw (ne_eqb m 0 (λ q. omega arith))) w

    accepts : MaySend s b (owner_of (oldest a b s.queue).group.number) → (node_at s b).last.number < call_end → rest s a b x.kind ≡ 0
        → step s (Deliver a b)
        ≡ accepted (with_call s a b (Accepting a (oldest a b s.queue).call)
        (calls b 4 (owner_of (oldest a b s.queue).group.number) (next_call (node_at s b)) (oldest a b s.queue).group)) Plain
    unfolding forward_next
    accepts w l e = leaves _ _ w (acting 0 e ∙ pick_true _ _) (calling_clear l)

    forwards : MaySend s b (next (node_at s b).members) → (node_at s b).last.number < call_end → rest s a b x.kind ≡ (node_at s b).members → 0 < (node_at s b).members
        → step s (Deliver a b)
        ≡ accepted (with_call s a b
        (Forwarding (without (node_at s b).members (next (node_at s b).members)) (next (node_at s b).members) a (oldest a b s.queue).call)
        (calls b 3 (next (node_at s b).members) (next_call (node_at s b)) (oldest a b s.queue).group)) Plain
    unfolding forward_next pick
    forwards w l e p = leaves _ _ w (acting (node_at s b).members e ∙ rw (ne_eqb (node_at s b).members 0 (λ q. omega arith))) (calling_clear l)

    calls_end : (node_at s b).last.number ≡ call_end → step s (Deliver a b) ≡ refused 13
    unfolding step grounds judged pick
    calls_end l =
        rw (x.in_range_lem, numbers, x.not_down, waiting, acts_plain s a b x.kind y, acts_calling s a b x.kind y, eq-eqb _ _ l)

-- a run from a table that is not in range leaves it as it is
out_of_range : (s : State) (es : List Event) → in_range s ≡ false → run_from s es ≡ s
unfolding run_from
out_of_range s [] r = refl
out_of_range s (e ∷ es) r =
    ap (λ (u : State). run_from u es) (by_step (λ (x : Result). kept s x ≡ s) s e (λ _. refl) (λ c _. absurd (true≢false (sym c.in_range_lem ∙ r)))) ∙ out_of_range s es r

-- where a message waits, the table of a run is in range, whatever n is
kind_in_range : (n : ℕ) (lim : Limits) (es : List Event) (a b : ℕ) → (oldest a b (run n lim es).queue).kind ≡ 3 → in_range (run n lim es) ≡ true
unfolding oldest
kind_in_range n lim es a b k = by (in_range (start n lim)) refl
  where
    by : (t : Bool) → in_range (start n lim) ≡ t → in_range (run n lim es) ≡ true
    by true r = run_in (start n lim) es r
    by false r =
        let z : ◌≡◌ {A = ℕ} 0 3 = sym (ap (λ (s : State). (oldest a b s.queue).kind) (out_of_range (start n lim) es r)) ∙ k in
        absurd (omega arith)

pub invitation_rules : InvitationRules
unfolding run_from
invitation_rules =
    record {
      not_normal = λ s a b x w e. plainly s a b x (where_not_normal b (node_at s b) _ e) w;
      owned = λ s a b x w e. plainly s a b x (where_owned b (node_at s b) _ e) w;
      held = λ s a b x w e. plainly s a b x (where_held b (node_at s b) _ e) w;
      forwards = λ s a b x w y l o p. forwards s a b x y w l (own s b o) p;
      accepts = λ s a b x w y l o. accepts s a b x y w l (none s b o);
      calls_end = calls_end;
      not_normal_end = λ s a b x e. plain_end s a b x (where_not_normal b (node_at s b) _ e);
      owned_end = λ s a b x e. plain_end s a b x (where_owned b (node_at s b) _ e);
      held_end = λ s a b x e. plain_end s a b x (where_held b (node_at s b) _ e);
      forwards_end = λ s a b x y l o p w. forwards_end s a b x y l (own s b o) p w;
      accepts_end = λ s a b x y l o w. accepts_end s a b x y l (none s b o) w;
      runs = λ n lim es a b u k g.
          let r = kind_in_range n lim es a b k in
          let x : InvitationReaches (run n lim es) a b = record { in_range_lem = r; not_down = u; kind = k } in
          let h = where_held b (node_at (run n lim es) b) _ g in
          let z = in_range_size (run n lim es) r in
          let q = run_n (start n lim) es in
          run_append (start n lim) es (Deliver a b ∷ [])
          ∙ ap (kept (run n lim es))
          (plainly (run n lim es) a b x h (λ w. within_not_seventeen (run n lim es) (Deliver a b) (run_within (start n lim) es (start_within TwoPairs n lim (omega (arith, q, z.1)))) (plain_end (run n lim es) a b x h w)));
    }
  where
    own : (s : State) (b : ℕ) → (node_at s b).coordinator ≡ b → pick (eqb (node_at s b).coordinator b) (node_at s b).members 0 ≡ (node_at s b).members
    own s b o = ap (λ (t : Bool). pick t (node_at s b).members 0) (eq-eqb _ _ o) ∙ pick_true _ _

    none : (s : State) (b : ℕ) → ((node_at s b).coordinator ≡ b → (node_at s b).members ≡ 0) → pick (eqb (node_at s b).coordinator b) (node_at s b).members 0 ≡ 0
    none s b o = by_test (λ (r : ℕ). r ≡ 0) (λ t. o (eqb-true _ b t)) (λ _. refl)
