-- No outcome that meets the promise of a turn is a wrong driver's.
use Prim.Native.Nat.{ℕ, ◌+◌}
use native.Mathlib.Omega.{arith}
use mathlib.Core.Bool.{true}
use mathlib.Core.Path.{◌≡◌, refl, sym, ◌∙◌, ap}
use Rattle.model.specs.Counts.{count_at}
use Rattle.model.specs.State.{State, waits, view}
use Rattle.model.specs.Step.{run_from}
use Rattle.model.proofs.Fields.{in_range_size}
use Rattle.model.proofs.Counts.{pair_counting}
use Rattle.model.specs.Answers.{answer_number}
use Rattle.model.specs.declared.Table.{Table}
use Rattle.model.specs.Answers.{Answer}
use Rattle.model.specs.Answers.{Accepted}
use Rattle.std.specs.Prelude.{Err}
use Rattle.model.specs.declared.Refusal.TheVariants.{NotInRange, WrongNumber}
use Rattle.machine.proofs.Runs.{answer_known}
use Rattle.round.specs.Order.{pair}
use Rattle.round.specs.Turn.{Turn, turn_refused, turn_accepted, turn_at, turn_number, table_after, place_after, done_in, event_of}
use Rattle.round.specs.Schedule.{out_of}
use Rattle.round.specs.Claims.{AtPair, with_loss}
use Rattle.round.specs.declared.Place.{Place}
use Rattle.round.specs.declared.Done.{Done}
use Rattle.round.specs.declared.Done.TheVariants.{Nothing, Delivered, Lost}
use Rattle.round.specs.declared.TurnOutcome.{TurnOutcome}
use Rattle.round.proofs.Turns.{Does, idles, loses, passes_on, turn_cases, turn_is, turn_rules, does_something}
use Rattle.round.proofs.PairQueues.{out_by_counts}
use Rattle.round.proofs.Schedules.{turn_event}
use Rattle.driver.specs.Turned.{Turned}
use Rattle.driver.specs.Mutants.{NoOtherTurn}
use Rattle.driver.proofs.Turns.{lost_not_nothing}

-- what a turn is, read off an outcome
module _ {t : Table} {p : Place} {r : TurnOutcome} (x : Turned t p r) where
  -- where it is refused
  answers : (a : Answer) → turn_at (view t) p ≡ turn_refused (answer_number a) → r.answer ≡ a
  answers a e = answer_known r.answer a (x.answer ∙ ap turn_number e)

  -- where it is accepted
  module _ {u : State} {q : Place} {d : Done} (e : turn_at (view t) p ≡ turn_accepted u q d) where
    accepts : r.answer ≡ Accepted
    accepts = answer_known r.answer Accepted (x.answer ∙ ap turn_number e)

    does : r.done ≡ d
    does = x.done ∙ ap done_in e

    goes : r.place ≡ q
    goes = x.place ∙ ap (place_after p) e

    leaves : view r.table ≡ u
    leaves = x.table ∙ ap (table_after (view t)) e

  -- refused, so nothing was done and the place stays
  refused_is : (r.answer ≡ Accepted → ⊥) → (r.done ≡ Nothing) × (r.place ≡ p)
  refused_is h = by (turn_at (view t) p) refl
    where
      by : (y : Turn) → turn_at (view t) p ≡ y → (r.done ≡ Nothing) × (r.place ≡ p)
      by (turn_refused k) e = (x.done ∙ ap done_in e, x.place ∙ ap (place_after p) e)
      by (turn_accepted u q d) e = absurd (h (accepts e))

-- a turn that lost a message
lost_leaves : {t : Table} {p : Place} {r : TurnOutcome} → Turned t p r → r.done ≡ Lost → view r.table ≡ with_loss (view t) p.sender p.receiver
lost_leaves {t} {p} {r} x l = by (turn_cases (view t) p)
  where
    apart : Delivered ≡ Lost → ⊥
    apart e = let z : ◌≡◌ {A = ℕ} 0 1 = cc in omega arith

    by : Does (view t) p → view r.table ≡ with_loss (view t) p.sender p.receiver
    by (idles d) = absurd (lost_not_nothing (sym l ∙ x.done ∙ d))
    by (loses y w d) = leaves x d
    by (passes_on u k q d) = absurd (apart (sym (ap done_in d) ∙ sym x.done ∙ l))

-- a turn at a pair with a waiting message
module _ {t : Table} {a b : ℕ} {r : TurnOutcome} (x : Turned t (pair a b) r) (y : AtPair (view t) (pair a b)) (w : waits a b (view t).queue ≡ true) where
  takes : out_of a b (view t) (event_of (pair a b) r.done) ≡ 1
  takes =
      ap (λ (d : Done). out_of a b (view t) (event_of (pair a b) d)) x.done
      ∙ turn_rules.takes_one (view t) (pair a b) y w

  does_some : r.done ≡ Nothing → ⊥
  does_some n = does_something (view t) (pair a b) y w (sym x.done ∙ n)

  counts_some : count_at r.table.delivered a b + count_at r.table.lost a b ≡ count_at t.delivered a b + count_at t.lost a b → ⊥
  counts_some e =
      let z : view r.table ≡ run_from (view t) (event_of (pair a b) r.done) = x.table ∙ turn_event (view t) (pair a b) ∙ ap (λ (d : Done). run_from (view t) (event_of (pair a b) d)) (sym x.done) in
      omega (
        arith,
        takes,
        e,
        ap (λ (s : State). count_at s.delivered a b) z,
        ap (λ (s : State). count_at s.lost a b) z,
        out_by_counts (view t) (event_of (pair a b) r.done) a b (pair_counting t.n a b (in_range_size (view t) y.in_range_lem).1 y.in_round),
      )

pub no_other_turn : NoOtherTurn
no_other_turn =
    record {
      leaves_out = λ {t} {p} {r} x y h. h (goes x (turn_is (view t) p y));
      turns_away = λ {t} {p} {r} x y h. h (accepts x (turn_is (view t) p y));
      does_nothing = λ x y w. does_some x y w;
      takes_none = λ x y w. counts_some x y w;
      does_something = λ {t} {a} {b} x y w h. h (does x (turn_rules.no_message_lem (view t) a b y w));
      changes_table = λ x n h. h (x.same n);
      to_down = λ {t} {a} {b} x y w d h. h (does x (turn_rules.down (view t) a b y w d));
      not_delivered = λ {t} {a} {b} u k x y q h. h (does x (turn_rules.delivers (view t) a b u k y q));
      delivers_otherwise = λ {t} {a} {b} u k x y q h. h (leaves x (turn_rules.delivers (view t) a b u k y q));
      waits_at_end = λ {t} {a} {b} n x y e q h. h (does x (turn_rules.becomes_loss (view t) a b n y e q));
      not_oldest = λ x d h. h (ap (λ (s : State). s.queue) (lost_leaves x d));
      changes_record = λ x d h. h (ap (λ (s : State). s.nodes) (lost_leaves x d));
      counts_delivered = λ x d h. h (ap (λ (s : State). s.delivered) (lost_leaves x d));
      counts_none = λ x d h. h (ap (λ (s : State). s.lost) (lost_leaves x d));
      one_away = λ {t} {p} x i e h. h (accepts x (turn_rules.alone (view t) p i e));
      one_moves = λ {t} {p} x i e h. h (goes x (turn_rules.alone (view t) p i e));
      no_pair = λ {t} {p} x i e f h. h (answers x (Err WrongNumber) (turn_rules.no_pair (view t) p i e f));
      not_one_first = λ {t} {p} x i h. h (answers x (Err NotInRange) (turn_rules.not_in_range (view t) p i));
      refused_table = λ x n h. h (x.same (refused_is x n).0);
      refused_place = λ x n h. h (refused_is x n).1;
    }
