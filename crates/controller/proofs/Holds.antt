-- Demand 3 of every run of n controllers over one queue, and its range: by composition of the theorem with what is shown of the table's runs.
use Prim.Native.Nat.{ℕ, ◌+◌, ◌≤◌}
use native.Mathlib.Omega.{arith}
use mathlib.Core.Bool.{Bool, true, false}
use mathlib.Core.Path.{◌≡◌, refl, sym, ◌∙◌, ap, subst}
use mathlib.Core.Logic.{◌⊎◌, ⊎_elim}
use mathlib.Core.List.{List, [], ◌∷◌, ◌++◌, map}
use lib.ListN.{length-map}
use borrow.Author.Tests.{le-leb, not-false}
use Rattle.model.specs.Pick.{pick}
use Rattle.model.specs.Limits.{node_limit}
use Rattle.model.specs.History.{coming}
use Rattle.model.specs.Range.{LeftOut, node_in_range, message_in_range}
use Rattle.model.specs.State.{State, start_by, node_at, goes, waits, without_oldest, every, in_range}
use Rattle.model.specs.Step as table
use Rattle.model.specs.Step.{actor, reaction_to, remaining, sent, effect, forms, step, after, run_from}
use Rattle.model.specs.Claims.{Unsent, Lacks, EachGroup, MayStart, RunHolds}
use Rattle.model.proofs.Fields.{in_range_size, in_range_own, in_range_queue, in_range_node}
use Rattle.model.proofs.InRange.{stays_in_range}
use Rattle.model.proofs.Judged.{Clear, accepted_is, by_reaction, by_step}
use Rattle.model.proofs.Local.{both_left, both_right}
use Rattle.model.proofs.Refusals.{refuses_by_ground}
use Rattle.model.proofs.TowerAndStand.{tower_and_stand}
use Rattle.model.proofs.Whole.{effect_n}
use Rattle.model.proofs.Traffic.{run_n, run_limits}
use Rattle.model.specs.declared.Limits.{Limits}
use Rattle.model.specs.declared.Node.{Node}
use Rattle.model.specs.declared.Message.{Message}
use Rattle.std.specs.Prelude.{Option, None, Some}
use Rattle.model.specs.declared.Mark.{Mark}
use Rattle.model.specs.declared.Reaction.{Reaction}
use Rattle.model.specs.declared.Event.{Event}
use Rattle.message_fields.specs.Fields.{fields, message_in, carried}
use Rattle.message_fields.proofs.RoundTrip.{widths, message_back, fields_message}
use Rattle.controller.specs.Controller.{Incoming, reaction_in, controller_step}
use Rattle.controller.specs.Network.{Network, start_network, network_of, refused, accepted, Controllers, step_by, network_after, run_by, network_step}
use Rattle.controller.specs.Claims.{result_of, forms_at, EachGroupIn, UnsentIn, LacksIn, history_of, NetworkFixes, EachMessage, NetworkInRange}
use Rattle.controller.proofs.Queue.{oldest_bytes}
use Rattle.controller.proofs.Carried.{SentCarried, sends_carried}
use Rattle.controller.proofs.Alike.{deliver_reacts}
use Rattle.controller.proofs.Runs.{network_or, runs, run_range, run_free}

-- ── in a run every message holds what its kind carries, and nothing else ──
abbrev AllCarried : List Message → Type 0
AllCarried [] = Unit {0}
AllCarried (m ∷ q) = (carried m ≡ m) × AllCarried q

carried_append : (p q : List Message) → AllCarried p → AllCarried q → AllCarried (p ++ q)
carried_append [] q a b = b
carried_append (m ∷ p) q a b = (a.0, carried_append p q a.1 b)

carried_without : (a b : ℕ) (q : List Message) → AllCarried q → AllCarried (without_oldest a b q)
unfolding without_oldest pick
carried_without a b [] h = tt
carried_without a b (m ∷ q) h = by (goes a b m) (carried_without a b q h.1)
  where
    by : (t : Bool) → AllCarried (without_oldest a b q) → AllCarried (pick t q (m ∷ without_oldest a b q))
    by true r = h.1
    by false r = (h.0, r)

carried_sent : (o : Option Message) → SentCarried o → AllCarried (sent o)
carried_sent None h = tt
carried_sent (Some m) h = (h, tt)

carried_remaining : (s : State) (e : Event) → AllCarried s.queue → AllCarried (remaining s e)
unfolding remaining
carried_remaining s (Event.Crash i) h = h
carried_remaining s (Event.Recover i) h = h
carried_remaining s (Event.Check i) h = h
carried_remaining s (Event.Timeout i) h = h
carried_remaining s (Event.Tick i) h = h
carried_remaining s (Event.Expire i) h = h
carried_remaining s (Event.Finish i t) h = h
carried_remaining s (Event.Deliver a b) h = carried_without a b s.queue h
carried_remaining s (Event.Lose a b) h = carried_without a b s.queue h

carried_after : (s : State) (e : Event) → AllCarried s.queue → AllCarried (after s e).queue
unfolding effect
carried_after s e h =
    by_step (λ (x : table.Result). AllCarried (table.kept s x).queue) s e (λ _. h)
    (λ c d.
    carried_append (remaining s e) (sent (reaction_to s e).outgoing) (carried_remaining s e h)
    (carried_sent (reaction_to s e).outgoing (by_reaction (λ r. SentCarried r.outgoing) s e c (λ x _. sends_carried s.n (actor e) (node_at s (actor e)) x) tt)))

carried_run : (s : State) (es : List Event) → AllCarried s.queue → AllCarried (run_from s es).queue
unfolding run_from
carried_run s [] h = h
carried_run s (e ∷ es) h = carried_run (after s e) es (carried_after s e h)

-- ── groups in records and bytes ──
module _ (n : ℕ) (small : n ≤ 16) where
  read_group : (m : Message) → message_in_range n m ≡ true → carried m ≡ m → message_in (fields m) ≡ m
  read_group m r c = message_back m (widths n m small r) ∙ c

  unsent_in : (g k : ℕ) (q : List Message) → every (λ _. message_in_range n) k q ≡ true → AllCarried q → Unsent g q → UnsentIn g (map fields q)
  unfolding every
  unsent_in g k [] r c u = tt
  unsent_in g k (m ∷ q) r c u =
      (rw (read_group m (both_left (message_in_range n m) _ r) c.0) u.0, unsent_in g (k + 1) q (both_right (message_in_range n m) _ r) c.1 u.1)

  in_unsent : (g k : ℕ) (q : List Message) → every (λ _. message_in_range n) k q ≡ true → AllCarried q → UnsentIn g (map fields q) → Unsent g q
  unfolding every
  in_unsent g k [] r c u = tt
  in_unsent g k (m ∷ q) r c u =
      (rw (read_group m (both_left (message_in_range n m) _ r) c.0) at u.0, in_unsent g (k + 1) q (both_right (message_in_range n m) _ r) c.1 u.1)

  each_in : (P Q : ℕ → Type 0) → ((g : ℕ) → P g → Q g) → (k : ℕ) (q : List Message) → every (λ _. message_in_range n) k q ≡ true → AllCarried q → EachGroup P q → EachGroupIn Q (map fields q)
  unfolding every
  each_in P Q f k [] r c u = tt
  each_in P Q f k (m ∷ q) r c u =
      (rw (read_group m (both_left (message_in_range n m) _ r) c.0) (λ h. f m.group.number (u.0 h)), each_in P Q f (k + 1) q (both_right (message_in_range n m) _ r) c.1 u.1)

  each_message : (k : ℕ) (q : List Message) → every (λ _. message_in_range n) k q ≡ true → EachMessage n (map fields q)
  unfolding every
  each_message k [] r = tt
  each_message k (m ∷ q) r = (fields_message n m small (both_left (message_in_range n m) _ r), each_message (k + 1) q (both_right (message_in_range n m) _ r))

module _ (s : State) (ok : in_range s ≡ true) (c : AllCarried s.queue) (g : ℕ) where
  lacks_in : Lacks s g → LacksIn (network_of s) g
  lacks_in h = record { in_records = h.in_nodes; in_messages = unsent_in s.n (in_range_size s ok).1 g 1 s.queue (in_range_queue s ok) c h.in_messages }

  in_lacks : LacksIn (network_of s) g → Lacks s g
  in_lacks h = record { in_nodes = h.in_records; in_messages = in_unsent s.n (in_range_size s ok).1 g 1 s.queue (in_range_queue s ok) c h.in_messages }

-- ── an event that the network accepts is one that the table accepts ──
record AcceptedAs (s : State) (e : Event) (u : Network) : Type 0 where
  state : State
  mark : Mark
  accepts : step s e ≡ table.accepted state mark
  network : u ≡ network_of state

refused_accepted : {r : ℕ} {u : Network} → refused r ≡ accepted u → ⊥
refused_accepted q = let z : ◌≡◌ {A = ℕ} 0 1 = cc in omega arith

accepted_same : {u v : Network} → accepted u ≡ accepted v → u ≡ v
accepted_same q = cc

module _ (s : State) (e : Event) (u : Network) where
  by_table : (x : table.Result) → step s e ≡ x → result_of x ≡ accepted u → AcceptedAs s e u
  by_table (table.refused r) q h = absurd (refused_accepted h)
  by_table (table.accepted v k) q h = record { state = v; mark = k; accepts = q; network = sym (accepted_same h) }

  as_table : network_step (network_of s) e ≡ result_of (step s e) → network_step (network_of s) e ≡ accepted u → AcceptedAs s e u
  as_table q h = by_table (step s e) refl (sym q ∙ h)

accepted_as : (s : State) → in_range s ≡ true → (e : Event) → (step s e ≡ table.refused 17 → ⊥) → (u : Network) → network_step (network_of s) e ≡ accepted u → AcceptedAs s e u
accepted_as s ok e f u h = ⊎_elim (λ q. as_table s e u q h) (λ q. absurd (refused_accepted (sym q.network ∙ h))) (network_or s ok e f)

-- and forms a group in the one where it does in the other
forms_by : (s : State) (e : Event) → Clear s e → forms_at (network_of s) e ≡ forms (reaction_to s e).mark
unfolding reaction_in reaction_to
forms_by s (Event.Crash i) c = refl
forms_by s (Event.Recover i) c = refl
forms_by s (Event.Check i) c = refl
forms_by s (Event.Timeout i) c = refl
forms_by s (Event.Tick i) c = refl
forms_by s (Event.Expire i) c = refl
forms_by s (Event.Finish i t) c = refl
forms_by s (Event.Deliver a b) c =
    let ok = c.in_range_lem in
    let w = not-false (waits a b s.queue) c.waiting in
    rw (oldest_bytes s.n (in_range_size s ok).1 a b 1 s.queue (in_range_queue s ok) w) (ap (λ (r : Reaction). forms r.mark) (deliver_reacts s a b ok w))
forms_by s (Event.Lose a b) c = refl

forms_is : (s : State) (e : Event) (v : State) (k : Mark) → step s e ≡ table.accepted v k → forms_at (network_of s) e ≡ forms k
forms_is s e v k q = let a = accepted_is s e v k q in forms_by s e a.clear ∙ ap forms (sym a.mark)

-- the number of a refusal by the table
number_of : {r q : ℕ} → refused r ≡ refused q → r ≡ q
number_of h = cc

table_refuses : (x : table.Result) {r : ℕ} → result_of x ≡ refused r → x ≡ table.refused r
table_refuses (table.refused q) h = ap table.refused (number_of h)
table_refuses (table.accepted v k) h = absurd (refused_accepted (sym h))

-- ── controllers that answer as the definition's ──
module _ (f : Controllers) (same_answer : (n i : ℕ) (c : Node) (x : Incoming) → f n i c x ≡ controller_step n i c x) where
  step_as : (w : Network) (e : Event) → step_by f w e ≡ network_step w e
  unfolding step_by
  step_as w (Event.Crash i) = rw (same_answer w.n _ _ _)
  step_as w (Event.Recover i) = rw (same_answer w.n _ _ _)
  step_as w (Event.Check i) = rw (same_answer w.n _ _ _)
  step_as w (Event.Timeout i) = rw (same_answer w.n _ _ _)
  step_as w (Event.Tick i) = rw (same_answer w.n _ _ _)
  step_as w (Event.Expire i) = rw (same_answer w.n _ _ _)
  step_as w (Event.Finish i t) = rw (same_answer w.n _ _ _)
  step_as w (Event.Deliver a b) = rw (same_answer w.n _ _ _)
  step_as w (Event.Lose a b) = refl

  run_as : (w : Network) (es : List Event) → run_by f w es ≡ run_by controller_step w es
  unfolding run_by
  run_as w [] = refl
  run_as w (e ∷ es) = rw (step_as w e) (run_as (network_after w (network_step w e)) es)

  module _ (n limit : ℕ) (low : 1 ≤ n) (high : n ≤ 16) (room : limit ≤ 64) where
    abbrev lim : Limits
    lim = record { nodes = node_limit; messages = limit }

    may : MayStart LeftOut n lim
    may = record { within = rw (le-leb node_limit 16 (omega arith), le-leb limit 64 room); pair = refl; low = low; high = high }

    holds : RunHolds LeftOut n lim
    holds = tower_and_stand.any_limits n lim (omega arith) room low high

    -- the table of the same list
    abbrev table_of : List Event → State
    table_of es = table.run_by LeftOut n lim es

    run_is : (es : List Event) → run_by f (start_network n limit) es ≡ network_of (table_of es)
    run_is es = run_as (start_network n limit) es ∙ runs LeftOut n lim may es

    ok : (es : List Event) → in_range (table_of es) ≡ true
    ok = run_range LeftOut n lim may

    free : (es : List Event) (e : Event) → step (table_of es) e ≡ table.refused 17 → ⊥
    free = run_free LeftOut n lim may

    all_carried : (es : List Event) → AllCarried (table_of es).queue
    all_carried es = carried_run (start_by LeftOut n lim) es tt

    same_n : (es : List Event) → (table_of es).n ≡ n
    same_n es = run_n (start_by LeftOut n lim) es

    -- an event that is accepted after a list
    accepted_in : (es : List Event) (e : Event) (u : Network) → step_by f (run_by f (start_network n limit) es) e ≡ accepted u → AcceptedAs (table_of es) e u
    accepted_in es e u h = accepted_as (table_of es) (ok es) e (free es e) u (sym (step_as (network_of (table_of es)) e) ∙ (rw (run_is es) at h))

    forms_in : (es : List Event) (e : Event) (u : Network) (a : AcceptedAs (table_of es) e u) {t : Bool} → forms_at (run_by f (start_network n limit) es) e ≡ t → forms a.mark ≡ t
    forms_in es e u a h = sym (forms_is (table_of es) e a.state a.mark a.accepts) ∙ (rw (run_is es) at h)

    -- the table after it is in range, and so are its messages
    queue_in : (es : List Event) (e : Event) (u : Network) (a : AcceptedAs (table_of es) e u) → every (λ _. message_in_range (table_of es).n) 1 a.state.queue ≡ true
    queue_in es e u a =
        let n = ap (λ (v : State). v.n) (accepted_is (table_of es) e a.state a.mark a.accepts).state ∙ effect_n (table_of es) e in
        ap (λ (m : ℕ). every (λ _. message_in_range m) 1 a.state.queue) (sym n) ∙ in_range_queue a.state (stays_in_range.keeps (table_of es) e a.state a.mark a.accepts)

    queue_carried : (es : List Event) (e : Event) (u : Network) (a : AcceptedAs (table_of es) e u) → AllCarried a.state.queue
    queue_carried es e u a = rw a.accepts at (carried_after (table_of es) e (all_carried es))

    pub network_fixes : NetworkFixes f n limit
    network_fixes =
        let x = holds.fixes in
        record {
          same_coordinator = λ es. rw (run_is es) (x.same_coordinator es);
          same_task = λ es. rw (run_is es) (x.same_task es);
          fixed_task = λ es fs. rw (run_is es) (x.fixed_task es fs);
          numbered = λ es e u h t. let a = accepted_in es e u h in rw a.network (x.numbered es e a.state a.mark a.accepts (forms_in es e u a t));
          fresh = λ es fs e u h t.
              let a = accepted_in (es ++ fs) e u h in
              rw (run_is es) (lacks_in (table_of es) (ok es) (all_carried es) _ (x.fresh es fs e a.state a.mark a.accepts (forms_in (es ++ fs) e u a t)));
          borrowed = λ es e u h t j l k z.
              let a = accepted_in es e u h in
              x.borrowed es e a.state a.mark a.accepts (forms_in es e u a t) j l k (in_lacks (table_of es) (ok es) (all_carried es) _ (rw (run_is es, a.network) at z));
          borrowed_messages = λ es e u h.
              let a = accepted_in es e u h in
              rw (a.network, run_is es)
              (each_in (table_of es).n (in_range_size (table_of es) (ok es)).1
              (λ g. Lacks (table_of es) g → (forms a.mark ≡ true) × (g ≡ coming (history_of n limit es) (actor e)))
              (λ g. LacksIn (network_of (table_of es)) g → (forms_at (network_of (table_of es)) e ≡ true) × (g ≡ coming (history_of n limit es) (actor e)))
              (λ g p z. let q = p (in_lacks (table_of es) (ok es) (all_carried es) g z) in (forms_is (table_of es) e a.state a.mark a.accepts ∙ q.0, q.1))
              1 a.state.queue (queue_in es e u a) (queue_carried es e u a) (x.borrowed_messages es e a.state a.mark a.accepts));
          formed_once = λ es e u h t. let a = accepted_in es e u h in x.formed_once es e a.state a.mark a.accepts (forms_in es e u a t);
          given_once = λ es i t u h. let a = accepted_in es (Event.Finish i t) u h in x.given_once es i t a.state a.mark a.accepts;
          own_group = λ es i t u h. let a = accepted_in es (Event.Finish i t) u h in rw (run_is es) (x.own_group es i t a.state a.mark a.accepts);
          lasts = x.lasts;
          by_majority = λ es i t u h p. let a = accepted_in es (Event.Finish i t) u h in rw (run_is es) (holds.peals.only_if es i t a.state a.mark a.accepts p);
        }

    -- ── the range ──
    never_by : (es : List Event) (e : Event) (r : ℕ) → network_step (network_of (table_of es)) e ≡ refused r → (r ≡ 1 → ⊥) × ((r ≡ 20 → ⊥) × (r ≡ 21 → ⊥))
    never_by es e r h =
        ⊎_elim
        (λ q.
        let t = table_refuses (step (table_of es) e) (sym q ∙ h) in
        let m = refuses_by_ground.numbers (table_of es) e r t in
        (λ z. holds.never_one es e (t ∙ ap table.refused z), (λ z. too_high r (omega (arith, z)) m, λ z. too_high r (omega (arith, z)) m)))
        (λ q. let k = number_of (sym h ∙ q.network) in (λ z. omega (arith, k, z), (λ z. omega (arith, k, z), λ z. omega (arith, k, z))))
        (network_or (table_of es) (ok es) e (free es e))
      where
        too_high : (x : ℕ) → 20 ≤ x → (x ≡ 1) ⊎ (((7 ≤ x) × (x ≤ 14)) ⊎ ((17 ≤ x) × (x ≤ 19))) → ⊥
        too_high x z = ⊎_elim (λ k. omega (arith, z, k)) (⊎_elim (λ k. omega (arith, z, k.1)) (λ k. omega (arith, z, k.1)))

    pub network_in_range : NetworkInRange f n limit
    network_in_range =
        record {
          same_n = λ es. rw (run_is es) (same_n es);
          same_limit = λ es. rw (run_is es) (ap (λ (l : Limits). l.messages) (run_limits (start_by LeftOut n lim) es));
          as_many = λ es. rw (run_is es) ((in_range_size (table_of es) (ok es)).2 ∙ same_n es);
          records = λ es i l h. rw (run_is es) (ap (λ (m : ℕ). node_in_range m i (node_at (table_of es) i)) (sym (same_n es)) ∙ in_range_node (table_of es) i (ok es) l (omega (arith, h, same_n es)));
          room = λ es. rw (run_is es) (omega (arith, length-map (table_of es).queue fields, (in_range_own (table_of es) (ok es)).1, ap (λ (l : Limits). l.messages) (run_limits (start_by LeftOut n lim) es)));
          messages = λ es. rw (run_is es) (subst (λ (m : ℕ). EachMessage m (map fields (table_of es).queue)) (same_n es) (each_message (table_of es).n (in_range_size (table_of es) (ok es)).1 1 (table_of es).queue (in_range_queue (table_of es) (ok es))));
          never = λ es e r h. never_by es e r (sym (step_as (network_of (table_of es)) e) ∙ (rw (run_is es) at h));
        }
