-- Recovery as the paper prints it (02, T-04): the claims `RecoveryRules`.
use Prim.Native.Nat.{ℕ, ◌+◌, ◌-◌}
use native.Mathlib.Omega.{arith}
use mathlib.Core.Bool.{Bool, true, false, true≢false}
use mathlib.Core.Path.{◌≡◌, refl, sym, ◌∙◌, ap}
use mathlib.Core.List.{List, ◌++◌, append-nil}
use lib.ListN.{set}
use borrow.Author.Tests.{not-false, eq-eqb}
use Rattle.node_set.specs.NodeSet.{with}
use Rattle.model.specs.Pick.{pick, by_test}
use Rattle.model.specs.Node.{is_idle, turned, invited}
use Rattle.model.specs.Recovery.{recovery_records, stopped, recovered}
use Rattle.model.specs.Procedures.{recovers, hand_next, forward_next, asked_all, ask_at, ask_after}
use Rattle.model.specs.React.{checked, timed_out, ticked, expired, resumed, on_are_you_coordinator, on_are_you_there, on_invitation, on_accept, on_ready, on_reply, received, react}
use Rattle.model.specs.State.{State, node_at, oldest}
use Rattle.model.specs.Grounds.{judged}
use Rattle.model.specs.Step.{actor, reaction_to, remaining, sent, with_sent, with_delivered, with_lost, effect, grounds, refused, accepted, step}
use Rattle.model.specs.Claims.{recovery_grounds, recovers_at_expire, record_after, RecoveryRules}
use Rattle.model.proofs.Judged.{Clear, accepted_is, by_reaction}
use Rattle.model.proofs.Fields.{node_is, node_facts, in_range_node, own_record}
use Rattle.model.proofs.Origin.{invite_next_mark, merges_mark, finish_mark}
use Rattle.model.specs.declared.Activity.{Activity}
use Rattle.model.specs.declared.Activity.TheVariants.{Idle, Asking, Waiting, Inviting, Collecting, Handing, Contacting, Forwarding, Accepting}
use Rattle.model.specs.declared.Node.{Node}
use Rattle.model.specs.declared.CallNo.{CallNo}
use Rattle.model.specs.declared.Message.{Message}
use Rattle.model.specs.declared.Mark.{Mark}
use Rattle.model.specs.declared.Mark.TheVariants.{Plain, Recovers, Merges}
use Rattle.model.specs.declared.Reaction.{Reaction}
use Rattle.model.specs.declared.Input.{Input}
use Rattle.model.specs.declared.Event.{Event}
use Rattle.model.specs.declared.Event.TheVariants.{Recover, Expire, Deliver}

-- ── an idle node is stopped already ──
idle_stopped : (c : Node) (a : Activity) → c.activity ≡ a → is_idle a ≡ true → stopped c ≡ c
idle_stopped c Idle e h = ap (turned c) (sym e)
idle_stopped c (Asking j f) e h = absurd (true≢false (sym h))
idle_stopped c (Waiting k f) e h = absurd (true≢false (sym h))
idle_stopped c (Inviting f o w) e h = absurd (true≢false (sym h))
idle_stopped c Collecting e h = absurd (true≢false (sym h))
idle_stopped c (Handing r w) e h = absurd (true≢false (sym h))
idle_stopped c Contacting e h = absurd (true≢false (sym h))
idle_stopped c (Forwarding r w a k) e h = absurd (true≢false (sym h))
idle_stopped c (Accepting a k) e h = absurd (true≢false (sym h))

-- a node that recovers by the event "recover" is idle: it is Down and in range
down_stopped : (s : State) (i : ℕ) → Clear s (Recover i) → stopped (node_at s i) ≡ node_at s i
down_stopped s i c =
    let k = node_is s.n i (not-false _ c.number) in
    let f = node_facts s.n i (node_at s i) (in_range_node s i c.in_range_lem k.low k.high) in
    idle_stopped (node_at s i) (node_at s i).activity refl (f.idle (not-false _ c.status))

-- ── what recover i is refused by ──
refused_by : (s : State) (i : ℕ) → step s (Recover i) ≡ judged refused (accepted (effect s (Recover i)) Recovers) (recovery_grounds s i)
unfolding step grounds judged pick reaction_to react
refused_by s i = refl

-- ── the last record ──
last_record : (s : State) (i : ℕ) (u : State) (k : Mark) → step s (Recover i) ≡ accepted u k → record_after 8 (recovery_records i (node_at s i)) ≡ node_at u i
unfolding reaction_to react
last_record s i u k e =
    let a = accepted_is s (Recover i) u k e in
    sym (ap (λ (v : State). node_at v i) a.state ∙ own_record s (Recover i) a.clear ∙ ap (λ (c : Node). record_after 8 (recovery_records i c)) (down_stopped s i a.clear))

-- ── whoever recovers, recovers so ──

-- the reaction is no recovery
record Other (r : Reaction) : Type 0 where
  none : r.mark ≡ Recovers → ⊥

-- if it is one, it is the recovery
record Recovered (i : ℕ) (c : Node) (r : Reaction) : Type 0 where
  is : r.mark ≡ Recovers → r ≡ recovers i c

plain : {r : Reaction} → r.mark ≡ Plain → Other r
plain e = record { none = λ f. let z : ◌≡◌ {A = ℕ} 0 1 = cc in absurd (omega arith) }

merging : {r : Reaction} → r.mark ≡ Merges → Other r
merging e = record { none = λ f. let z : ◌≡◌ {A = ℕ} 0 1 = cc in absurd (omega arith) }

module _ (i : ℕ) (c : Node) where
  abbrev P : Reaction → Type 0
  P r = Recovered i c r

  other : {r : Reaction} → Other r → Recovered i c r
  other f = record { is = λ e. absurd (f.none e) }

  recovery : Recovered i c (recovers i c)
  recovery = record { is = λ _. refl }

  hands : (r : ℕ) → Other (hand_next i c r)
  unfolding hand_next
  hands r = by_test Other (λ _. plain refl) (λ _. plain refl)

  forwards : (d : Node) (r a : ℕ) (k : CallNo) → Other (forward_next i d r a k)
  unfolding forward_next
  forwards d r a k = by_test Other (λ _. plain refl) (λ _. plain refl)

  asks_at : (n j f : ℕ) → Other (ask_at n i c j f)
  unfolding ask_at asked_all
  asks_at n j f = by_test Other (λ _. plain refl) (λ _. by_test Other (λ _. plain refl) (λ _. by_test Other (λ _. plain refl) (λ _. merging (merges_mark i c f))))

  asks_after : (n j f : ℕ) → Other (ask_after n i c j f)
  unfolding ask_after
  asks_after n j f = by_test Other (λ _. asks_at n (j + 2) f) (λ _. asks_at n (j + 1) f)

  ticks : (a : Activity) → Other (ticked i c a)
  unfolding ticked
  ticks Idle = plain refl
  ticks (Asking a f) = plain refl
  ticks (Waiting k f) = by_test Other (λ _. merging (merges_mark i c f)) (λ _. plain refl)
  ticks (Inviting f o w) = plain refl
  ticks Collecting = plain refl
  ticks (Handing r w) = plain refl
  ticks Contacting = plain refl
  ticks (Forwarding r w a k) = plain refl
  ticks (Accepting a k) = plain refl

  expires : (n : ℕ) (a : Activity) → Recovered i c (expired n i c a)
  unfolding expired
  expires n Idle = other (plain refl)
  expires n (Asking a f) = other (asks_after n a f)
  expires n (Waiting k f) = other (plain refl)
  expires n (Inviting f o w) = other (plain (invite_next_mark i c Plain f o))
  expires n Collecting = other (plain refl)
  expires n (Handing r w) = recovery
  expires n Contacting = recovery
  expires n (Forwarding r w a k) = other (forwards c r a k)
  expires n (Accepting a k) = recovery

  resumes : (n : ℕ) (y : Bool) (a : Activity) → Recovered i c (resumed n i c y a)
  unfolding resumed
  resumes n y Idle = other (plain refl)
  resumes n y (Asking a f) = other (asks_after n a (pick y (with f a) f))
  resumes n y (Waiting k f) = other (plain refl)
  resumes n y (Inviting f o w) = other (plain (invite_next_mark i c Plain f o))
  resumes n y Collecting = other (plain refl)
  resumes n y (Handing r w) = other (hands r)
  resumes n y Contacting = by_test P (λ _. other (plain refl)) (λ _. recovery)
  resumes n y (Forwarding r w a k) = other (forwards c r a k)
  resumes n y (Accepting a k) = other (plain refl)

  receives : (n : ℕ) (m : Message) → Recovered i c (received n i c m)
  unfolding received on_are_you_coordinator on_are_you_there on_invitation on_accept on_ready on_reply
  receives n m =
      by_test P (λ _. other (plain refl))
      (λ _. by_test P (λ _. other (plain refl))
      (λ _. by_test P (λ _. by_test P (λ _. other (plain refl)) (λ _. other (forwards (invited c m.group) _ m.sender m.call)))
      (λ _. by_test P (λ _. other (plain refl))
      (λ _. by_test P (λ _. other (plain refl))
      (λ _. by_test P (λ _. by_test P (λ _. resumes n m.yes c.activity) (λ _. other (plain refl))) (λ _. other (plain refl)))))))

  reacts : (n : ℕ) (x : Input) → Recovered i c (react n i c x)
  unfolding react checked timed_out
  reacts n Input.Crash = other (plain refl)
  reacts n Input.Recover = recovery
  reacts n Input.Check = by_test P (λ _. other (asks_after n 0 0)) (λ _. other (plain refl))
  reacts n Input.Timeout = by_test P (λ _. other (plain refl)) (λ _. other (plain refl))
  reacts n Input.Tick = other (ticks c.activity)
  reacts n Input.Expire = expires n c.activity
  reacts n (Input.Finish t) = other (plain (finish_mark i c t))
  reacts n (Input.Receive m) = receives n m

module _ (s : State) (e : Event) (u : State) (q : step s e ≡ accepted u Recovers) where
  clear : Clear s e
  clear = (accepted_is s e u Recovers q).clear

  reaction_is : reaction_to s e ≡ recovers (actor e) (node_at s (actor e))
  reaction_is =
      (by_reaction (λ (r : Reaction). Recovered (actor e) (node_at s (actor e)) r) s e clear
      (λ x _. reacts (actor e) (node_at s (actor e)) s.n x)
      (other (actor e) (node_at s (actor e)) (plain refl))
      ).is
      (sym (accepted_is s e u Recovers q).mark)

  abbrev stored : Node → List Message → List ℕ → State
  stored c l k = record {
    rule = s.rule;
    n = s.n;
    limits = s.limits;
    nodes = set s.nodes (actor e - 1) c;
    queue = l;
    sent = k;
    delivered = with_delivered s.delivered e;
    lost = with_lost s.lost e;
  }

  same_table : u ≡ stored (recovered (actor e) (node_at s (actor e))) (remaining s e) s.sent
  unfolding effect
  same_table =
      (accepted_is s e u Recovers q).state
      ∙ ap (λ (r : Reaction). stored r.node (remaining s e ++ sent r.outgoing) (with_sent s.sent r.outgoing)) reaction_is
      ∙ ap (λ (l : List Message). stored (recovered (actor e) (node_at s (actor e))) l s.sent) (append-nil (remaining s e))

  every_recovery : record_after 8 (recovery_records (actor e) (stopped (node_at s (actor e)))) ≡ node_at u (actor e)
  every_recovery =
      sym (ap (λ (v : State). node_at v (actor e)) (accepted_is s e u Recovers q).state ∙ own_record s e clear ∙ ap (λ (r : Reaction). r.node) reaction_is)

-- ── where a node recovers ──

pub expire_recovers : (n i : ℕ) (c : Node) (a : Activity) → recovers_at_expire a ≡ true → expired n i c a ≡ recovers i c
unfolding expired
expire_recovers n i c Idle h = absurd (true≢false (sym h))
expire_recovers n i c (Asking j f) h = absurd (true≢false (sym h))
expire_recovers n i c (Waiting k f) h = absurd (true≢false (sym h))
expire_recovers n i c (Inviting f o w) h = absurd (true≢false (sym h))
expire_recovers n i c Collecting h = absurd (true≢false (sym h))
expire_recovers n i c (Handing r w) h = refl
expire_recovers n i c Contacting h = refl
expire_recovers n i c (Forwarding r w a k) h = absurd (true≢false (sym h))
expire_recovers n i c (Accepting a k) h = refl

at_expire : (s : State) (i : ℕ) (u : State) (k : Mark) → recovers_at_expire (node_at s i).activity ≡ true → step s (Expire i) ≡ accepted u k → k ≡ Recovers
unfolding reaction_to react
at_expire s i u k h q =
    (accepted_is s (Expire i) u k q).mark ∙ ap (λ (r : Reaction). r.mark) (expire_recovers s.n i (node_at s i) (node_at s i).activity h)

at_no : (s : State) (a b : ℕ) (u : State) (k : Mark) → (node_at s b).activity ≡ Contacting → (oldest a b s.queue).kind ≡ 6
    → (oldest a b s.queue).call.number ≡ (node_at s b).last.number → (oldest a b s.queue).yes ≡ false → step s (Deliver a b) ≡ accepted u k → k ≡ Recovers
unfolding reaction_to react received on_reply resumed pick
at_no s a b u k h g c y q = (accepted_is s (Deliver a b) u k q).mark ∙ rw (g, c, eq-eqb (node_at s b).last.number (node_at s b).last.number refl, h, y)

pub recovery_rules : RecoveryRules
recovery_rules =
    record {
      written_out = λ i x. refl;
      stop_alone = λ x. refl;
      as_printed = λ i x. refl;
      same_record = λ i x. refl;
      same_table = same_table;
      at_expire = at_expire;
      at_no = at_no;
      refused_by = refused_by;
      last_record = last_record;
      every_recovery = every_recovery;
    }
