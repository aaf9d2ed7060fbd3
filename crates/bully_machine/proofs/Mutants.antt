-- No outcome that meets the promise of the step is one of these wrong readings.
use Prim.Native.Nat.{ℕ, zero, suc, ◌+◌, ◌-◌, ◌≤◌, ◌<◌}
use native.Mathlib.Omega.{arith}
use mathlib.Core.Bool.{Bool, true, false, and-false, true≢false}
use mathlib.Core.Path.{◌≡◌, refl, sym, ◌∙◌, ap, subst}
use lib.Dec.{eqb}
use lib.ListN.{length, length-set}
use lib.Seq.{get_or-set_same}
use borrow.Author.Tests.{le-leb, lt-leb, ne_eqb}
use Rattle.model.specs.Pick.{pick_true, pick_false}
use Rattle.model.specs.Node.{is_reorganization}
use Rattle.bully_model.specs.Procedures.{halt_from, halting_step, ask_from, election, recovery, crashed}
use Rattle.bully_model.specs.Calls.{halt, ready, callee, called, answered, timed_out}
use Rattle.bully_model.specs.State.{State, starting_node, node_at, stored, view}
use Rattle.bully_model.specs.Answers.{Accepted}
use Rattle.bully_model.specs.Step.{effect, accepted, step}
use Rattle.bully_model.proofs.Judged.{Clear, accepted_is}
use Rattle.bully_model.proofs.Fields.{Placed, in_range_size, in_range_node}
use Rattle.bully_model.proofs.InRange.{runner}
use Rattle.bully_model.proofs.Locality.{stored_other, step_is_local}
use Rattle.model.specs.declared.TaskNo.{TaskNo}
use Rattle.bully_model.specs.declared.Place.{Place}
use Rattle.bully_model.specs.declared.Place.TheVariants.{Asking, Halting, Handing}
use Rattle.bully_model.specs.declared.Node.{Node}
use Rattle.bully_model.specs.declared.Table.{Table}
use Rattle.bully_model.specs.declared.Event.{Event}
use Rattle.bully_model.specs.declared.Event.TheVariants.{Crash, Recover, GoOn}
use Rattle.bully_model.specs.declared.Outcome.{Outcome}
use Rattle.bully_machine.specs.Stepped.{Stepped}
use Rattle.bully_machine.specs.Mutants.{NoWrongReading}
use Rattle.bully_machine.proofs.Steps.{call_answered, call_timed_out}
use Rattle.bully_machine.proofs.Runs.{accepted_alike}

-- a record stored for node i is node i's
stored_here : (s : State) (i : ℕ) (c : Node) → 1 ≤ i → i ≤ length s.nodes → node_at (stored s i c) i ≡ c
stored_here s zero c l h = absurd (omega arith)
stored_here s (suc i) c l h =
    let e : suc i - 1 ≡ i = omega arith in
    rw e (get_or-set_same s.nodes i c starting_node (omega arith))

-- where the code accepts, the model's effect is what the table means
module _ {t : Table} {e : Event} {r : Outcome} (x : Stepped t e r) (a : r.answer ≡ Accepted) where
  model : step (view t) e ≡ accepted (view r.table)
  model = accepted_alike.model_accepts x a

  clear : Clear (view t) e
  clear = (accepted_is (view t) e (view r.table) model).clear

  means : view r.table ≡ effect (view t) e
  means = (accepted_is (view t) e (view r.table) model).state

  long : length (view t).nodes ≡ t.n
  long = (in_range_size (view t) clear.in_range_lem).2

-- ── what each event leaves ──

-- an event of node i alone
alone : {t : Table} {e : Event} {r : Outcome} (x : Stepped t e r) (a : r.answer ≡ Accepted) (i : ℕ) (c : Node) → 1 ≤ i → i ≤ t.n → effect (view t) e ≡ stored (view t) i c → node_at (view r.table) i ≡ c
alone {t} x a i c l h e = ap (λ (s : State). node_at s i) (means x a ∙ e) ∙ stored_here (view t) i c l (omega (arith, long x a))

crash_leaves : {t : Table} {i : ℕ} {r : Outcome} → Stepped t (Crash i) r → r.answer ≡ Accepted → node_at (view r.table) i ≡ crashed (node_at (view t) i)
unfolding effect
crash_leaves {t} {i} x a = alone x a i (crashed (node_at (view t) i)) (clear x a).low (clear x a).high refl

recovery_leaves : {t : Table} {i : ℕ} {r : Outcome} → Stepped t (Recover i) r → r.answer ≡ Accepted → node_at (view r.table) i ≡ recovery t.n i (node_at (view t) i)
unfolding effect
recovery_leaves {t} {i} x a = alone x a i (recovery t.n i (node_at (view t) i)) (clear x a).low (clear x a).high refl

asks_next : (n i : ℕ) (c : Node) → i < n → (recovery n i c).place ≡ Asking (i + 1)
unfolding recovery election ask_from
asks_next n i c h = rw (le-leb (i + 1) n (omega arith), pick_true)

halts_next : (n i : ℕ) (c : Node) → i ≡ n → 1 < i → (recovery n i c).place ≡ Halting (i - 1)
unfolding recovery election ask_from halting_step halt_from
halts_next n i c e h = rw (lt-leb (i + 1) n (omega arith), pick_false, ne_eqb (i - 1) 0 (λ z. omega arith), pick_false)

-- a call of node i at the place p to node j, another one, which runs: what it leaves of j
called_leaves : {t : Table} {i : ℕ} {r : Outcome} (x : Stepped t (GoOn i) r) (a : r.answer ≡ Accepted) (p : Place) (j : ℕ)
    → (node_at (view t) i).place ≡ p → callee (node_at (view t) i) p ≡ j → j ≤ t.n → (j ≡ i → ⊥) → (node_at (view t) j).runs ≡ true
    → node_at (view r.table) j ≡ called i (node_at (view t) i) p (node_at (view t) j)
unfolding effect
called_leaves {t} {i} x a p j e q h n runs =
    ap (λ (s : State). node_at s j) (means x a ∙ sym (call_answered (view t) i here here.place j (node_at (view t) j) (sym (rw e q)) refl runs))
    ∙ stored_other (stored (view t) j (called i here here.place (node_at (view t) j))) i _ j (clear x a).low n
    ∙ stored_here (view t) j _ (runner (view t) j runs) (omega (arith, long x a))
    ∙ rw e refl
  where
    here : Node
    here = node_at (view t) i

-- and what the caller is afterwards, by whether the one called runs
caller_leaves : {t : Table} {i : ℕ} {r : Outcome} (x : Stepped t (GoOn i) r) (a : r.answer ≡ Accepted) (P : Node → Type 0)
    → ((node_at (view t) (callee (node_at (view t) i) (node_at (view t) i).place)).runs ≡ true
    → P (answered t.n i (node_at (view t) i) (node_at (view t) i).place (node_at (view t) (callee (node_at (view t) i) (node_at (view t) i).place))))
    → ((node_at (view t) (callee (node_at (view t) i) (node_at (view t) i).place)).runs ≡ false → P (timed_out t.n i (node_at (view t) i) (node_at (view t) i).place))
    → P (node_at (view r.table) i)
unfolding effect
caller_leaves {t} {i} {r} x a P f g = by (node_at (view t) to).runs refl
  where
    here : Node
    here = node_at (view t) i

    to : ℕ
    to = callee here here.place

    by : (b : Bool) → (node_at (view t) to).runs ≡ b → P (node_at (view r.table) i)
    by true q =
        subst P
        (sym (ap (λ (s : State). node_at s i) (means x a ∙ sym (call_answered (view t) i here here.place to (node_at (view t) to) refl refl q))
        ∙ stored_here (stored (view t) to _) i _ (clear x a).low (omega (arith, length-set (view t).nodes (to - 1) (called i here here.place (node_at (view t) to)), long x a, (clear x a).high))))
        (f q)
    by false q =
        subst P
        (sym (ap (λ (s : State). node_at s i) (means x a ∙ sym (call_timed_out (view t) i here here.place to (node_at (view t) to) refl refl q))
        ∙ stored_here (view t) i _ (clear x a).low (omega (arith, long x a, (clear x a).high))))
        (g q)

-- whom node i halts, or hands to, in a table in range
placed : {t : Table} {i : ℕ} {r : Outcome} (x : Stepped t (GoOn i) r) (a : r.answer ≡ Accepted) (p : Place) → (node_at (view t) i).place ≡ p
    → Placed t.n i (node_at (view t) i).coordinator p
placed {t} {i} x a p e = rw e at (in_range_node (view t) i (clear x a).in_range_lem (clear x a).low (clear x a).high).place

halt_leaves : {t : Table} {i j : ℕ} {r : Outcome} → Stepped t (GoOn i) r → r.answer ≡ Accepted → (node_at (view t) i).place ≡ Halting j → (node_at (view t) j).runs ≡ true
    → node_at (view r.table) j ≡ halt (node_at (view t) j) i
unfolding called
halt_leaves {t} {i} {j} x a e runs =
    let w = placed x a (Halting j) e in
    called_leaves x a (Halting j) j e refl (omega (arith, w.1, (clear x a).high)) (λ z. omega (arith, w.1)) runs

-- one that is not in Reorganization is left by Ready as it is
ready_ignored : (c : Node) (i : ℕ) (x : TaskNo) → is_reorganization c.status ≡ false → ready c i x ≡ c
unfolding ready
ready_ignored c i x e = rw (e, and-false (eqb c.coordinator i), pick_false)

ready_leaves : {t : Table} {i still j : ℕ} {r : Outcome} → Stepped t (GoOn i) r → r.answer ≡ Accepted → (node_at (view t) i).place ≡ Handing still j
    → is_reorganization (node_at (view t) j).status ≡ false → node_at (view r.table) j ≡ node_at (view t) j
unfolding called
ready_leaves {t} {i} {still} {j} {r} x a e q = by (node_at (view t) j).runs refl
  where
    w : Placed t.n i (node_at (view t) i).coordinator (Handing still j)
    w = placed x a (Handing still j) e

    by : (b : Bool) → (node_at (view t) j).runs ≡ b → node_at (view r.table) j ≡ node_at (view t) j
    by true runs =
        called_leaves x a (Handing still j) j e refl w.1.high w.1.other runs ∙ ready_ignored (node_at (view t) j) i (node_at (view t) i).task q
    by false off =
        step_is_local.timed_out_lem (view t) (GoOn i) (view r.table) (model x a) (rw e off) j w.1.other

-- asking on, and halting on
asks_on : (n i : ℕ) (c : Node) (j : ℕ) → j < n → (timed_out n i c (Asking j)).place ≡ Asking (j + 1)
unfolding timed_out ask_from
asks_on n i c j h = rw (le-leb (j + 1) n (omega arith), pick_true)

halts_on : (i : ℕ) (c : Node) (j : ℕ) → 1 < j → (halt_from i c (j - 1)).place ≡ Halting (j - 1)
unfolding halt_from
halts_on i c j h = rw (ne_eqb (j - 1) 0 (λ z. omega arith), pick_false)

asks_leaves : {t : Table} {i j : ℕ} {r : Outcome} → Stepped t (GoOn i) r → r.answer ≡ Accepted → (node_at (view t) i).place ≡ Asking j → (node_at (view t) j).runs ≡ false → j < t.n
    → (node_at (view r.table) i).place ≡ Asking (j + 1)
asks_leaves {t} {i} {j} x a e off h =
    caller_leaves x a (λ (c : Node). c.place ≡ Asking (j + 1))
    (λ q. absurd (true≢false (sym q ∙ rw e off)))
    (λ q. rw e (asks_on t.n i (node_at (view t) i) j h))

halts_leaves : {t : Table} {i j : ℕ} {r : Outcome} → Stepped t (GoOn i) r → r.answer ≡ Accepted → (node_at (view t) i).place ≡ Halting j → 1 < j
    → (node_at (view r.table) i).place ≡ Halting (j - 1)
unfolding answered timed_out
halts_leaves {t} {i} {j} x a e h =
    caller_leaves x a (λ (c : Node). c.place ≡ Halting (j - 1))
    (λ q. rw e (halts_on i _ j h))
    (λ q. rw e (halts_on i _ j h))

pub no_wrong_reading : NoWrongReading
no_wrong_reading =
    record {
      crash_keeps_status = λ x a h. h (ap (λ (c : Node). c.status) (crash_leaves x a));
      crash_keeps_place = λ x a h. h (ap (λ (c : Node). c.place) (crash_leaves x a));
      asks_nobody = λ {t} {i} {r} x a l h. h (ap (λ (c : Node). c.place) (recovery_leaves x a) ∙ asks_next t.n i (node_at (view t) i) l);
      asks_past = λ x a e q l h. h (asks_leaves x a e q l);
      halts_from_below = λ {t} {i} {r} x a e l h. h (ap (λ (c : Node). c.place) (recovery_leaves x a) ∙ halts_next t.n i (node_at (view t) i) e l);
      halts_past = λ x a e l h. h (halts_leaves x a e l);
      halt_keeps_status = λ x a e q h. h (ap (λ (c : Node). c.status) (halt_leaves x a e q));
      halt_keeps_place = λ x a e q h. h (ap (λ (c : Node). c.place) (halt_leaves x a e q));
      ready_in_any_status = λ x a e q h. h (ready_leaves x a e q);
    }
