-- What the functions of a turn return meets its promise: nothing, a loss, a delivery, and the refusals.
use Prim.Native.Nat.{ℕ, ◌+◌, ◌-◌, ◌*◌, ◌≤◌}
use native.Mathlib.Omega.{arith}
use mathlib.Core.Bool.{Bool, true, false, true≢false}
use mathlib.Core.Path.{◌≡◌, refl, sym, ◌∙◌, ap, subst}
use lib.Dec.{ltb}
use lib.ListN.{get_or}
use borrow.Author.Tests.{eqb-true, lt-ltb, le-ltb, ltb-true, ltb-false}
use Rattle.model.specs.Limits.{traffic_end}
use Rattle.model.specs.Counts.{count_at}
use Rattle.model.specs.Node.{is_down}
use Rattle.model.specs.State.{State, node_at, waits, waiting, view}
use Rattle.model.specs.Step.{Result, refused, accepted, step, kept}
use Rattle.model.specs.Answers.{answer_number, is_accepted}
use Rattle.model.proofs.Answers.{zero_accepted}
use Rattle.model.proofs.Fields.{in_range_size, in_range_sum}
use Rattle.model.proofs.Traffic.{traffic_rules}
use Rattle.model.specs.declared.Table.{Table}
use Rattle.model.specs.declared.Outcome.{Outcome}
use Rattle.model.specs.Answers.{Answer}
use Rattle.model.specs.Answers.{Accepted}
use Rattle.model.specs.declared.Event.TheVariants.{Deliver, Lose}
use Rattle.machine.specs.Parts.{place_of}
use Rattle.machine.specs.Stepped.{Stepped}
use Rattle.machine.proofs.Places.{place_pair}
use Rattle.machine.proofs.Runs.{answer_known, accepted_alike}
use Rattle.round.specs.Order.{next_pair}
use Rattle.round.specs.Turn.{turn_refused, turn_accepted, turn_at, turn_number, table_after, place_after, done_in}
use Rattle.round.specs.Claims.{AtPair, with_loss}
use Rattle.round.specs.declared.Place.{Place}
use Rattle.round.specs.declared.Done.{Done}
use Rattle.round.specs.declared.Done.TheVariants.{Nothing, Delivered, Lost}
use Rattle.round.specs.declared.TurnOutcome.{TurnOutcome}
use Rattle.round.proofs.Order.{IsPair, pair_is}
use Rattle.round.proofs.Turns.{turn_rules, lose_accepted}
use Rattle.round.proofs.PairQueues.{waits_some}
use Rattle.driver.specs.Turned.{Turned}
use Rattle.driver.specs.Parts.{outcome, Losing}

-- ── what a turn returns ──

-- a turn that is accepted, with the table v after it
accepted_turn : (t : Table) (p : Place) {u : State} {q : Place} {d : Done} (v : Table) (r : TurnOutcome)
    → turn_at (view t) p ≡ turn_accepted u q d → view v ≡ u → (d ≡ Nothing → v ≡ t) → r ≡ outcome v q d Accepted → Turned t p r
accepted_turn t p {u} {q} {d} v r e z s o =
    subst (Turned t p) (sym o)
    (record { answer = sym (ap turn_number e); table = z ∙ sym (ap (table_after (view t)) e); place = sym (ap (place_after p) e); done = sym (ap done_in e); same = s })

-- one that is refused
pub refuses : (t : Table) (p : Place) (a : Answer) (r : TurnOutcome) → turn_at (view t) p ≡ turn_refused (answer_number a) → r ≡ outcome t p Nothing a → Turned t p r
refuses t p a r e o =
    subst (Turned t p) (sym o)
    (record { answer = sym (ap turn_number e); table = sym (ap (table_after (view t)) e); place = sym (ap (place_after p) e); done = sym (ap done_in e); same = λ _. refl })

pub stays_alone : (t : Table) (p : Place) (r : TurnOutcome) → turn_at (view t) p ≡ turn_accepted (view t) p Nothing → r ≡ outcome t p Nothing Accepted → Turned t p r
stays_alone t p r e o = accepted_turn t p t r e refl (λ _. refl) o

pub lost_not_nothing : Lost ≡ Nothing → ⊥
lost_not_nothing e = let z : ◌≡◌ {A = ℕ} 0 1 = cc in omega arith

delivered_not_nothing : Delivered ≡ Nothing → ⊥
delivered_not_nothing e = let z : ◌≡◌ {A = ℕ} 0 1 = cc in omega arith

is_accepted_lem : (a : Answer) → is_accepted a ≡ true → a ≡ Accepted
is_accepted_lem a i = answer_known a Accepted (eqb-true (answer_number a) 0 (zero_accepted a ∙ i))

-- ── at a pair of the round ──
module _ (t : Table) (p : Place) (x : AtPair (view t) p) where
  in_pair : IsPair t.n p
  in_pair = pair_is t.n p x.in_round

  pub small : t.n ≤ 16
  small = (in_range_size (view t) x.in_range_lem).1

  -- the counts of the pair in the code's place
  at_place : place_of p.sender p.receiver ≡ (p.sender - 1) * 16 + (p.receiver - 1)
  at_place = place_pair t.n p.sender p.receiver small x.in_round

  sums : count_at t.sent p.sender p.receiver
      ≡ count_at t.delivered p.sender p.receiver + count_at t.lost p.sender p.receiver + waiting (view t).queue p.sender p.receiver
  sums = in_range_sum (view t) p.sender p.receiver x.in_range_lem in_pair.sender_low in_pair.sender_high in_pair.receiver_low in_pair.receiver_high

  bounded : count_at t.sent p.sender p.receiver ≤ traffic_end
  bounded =
      (traffic_rules.bounded (view t) x.in_range_lem p.sender p.receiver in_pair.sender_low (omega (arith, in_pair.sender_high, small)) in_pair.receiver_low
      (omega (arith, in_pair.receiver_high, small))).0

  pub counts_fit : get_or t.delivered (place_of p.sender p.receiver) 0 + get_or t.lost (place_of p.sender p.receiver) 0 ≤ traffic_end
  counts_fit = rw at_place (omega (arith, sums, bounded))

  -- more were sent than delivered and lost exactly where one waits
  pub more_sent : ltb (get_or t.delivered (place_of p.sender p.receiver) 0 + get_or t.lost (place_of p.sender p.receiver) 0) (get_or t.sent (place_of p.sender p.receiver) 0)
      ≡ waits p.sender p.receiver (view t).queue
  more_sent = rw at_place (by (ltb 0 (waiting (view t).queue p.sender p.receiver)) refl ∙ sym (waits_some p.sender p.receiver (view t).queue))
    where
      by : (w : Bool) → ltb 0 (waiting (view t).queue p.sender p.receiver) ≡ w
          → ltb (count_at t.delivered p.sender p.receiver + count_at t.lost p.sender p.receiver) (count_at t.sent p.sender p.receiver)
          ≡ ltb 0 (waiting (view t).queue p.sender p.receiver)
      by true e = lt-ltb (count_at t.delivered p.sender p.receiver + count_at t.lost p.sender p.receiver) (count_at t.sent p.sender p.receiver) (omega (arith, sums, ltb-true 0 (waiting (view t).queue p.sender p.receiver) e)) ∙ sym e
      by false e = le-ltb (count_at t.delivered p.sender p.receiver + count_at t.lost p.sender p.receiver) (count_at t.sent p.sender p.receiver) (omega (arith, sums, ltb-false 0 (waiting (view t).queue p.sender p.receiver) e)) ∙ sym e

  -- no message
  pub nothing : (q : Place) (r : TurnOutcome) → waits p.sender p.receiver (view t).queue ≡ false → q ≡ next_pair t.n p → r ≡ outcome t q Nothing Accepted → Turned t p r
  nothing q r w e o = accepted_turn t p t r (turn_rules.no_message_lem (view t) p.sender p.receiver x w) refl (λ _. refl) (o ∙ ap (λ (q : Place). outcome t q Nothing Accepted) e)

  -- a delivery that is accepted
  pub delivered : (q : Place) (o : Outcome) (r : TurnOutcome) → Stepped t (Deliver p.sender p.receiver) o → is_accepted o.answer ≡ true → q ≡ next_pair t.n p
      → r ≡ outcome o.table q Delivered Accepted → Turned t p r
  delivered q o r s i e z =
      accepted_turn t p o.table r
      (turn_rules.delivers (view t) p.sender p.receiver (view o.table) _ x (accepted_alike.model_accepts s (is_accepted_lem o.answer i)))
      refl (λ n. absurd (delivered_not_nothing n)) (z ∙ ap (λ (q : Place). outcome o.table q Delivered Accepted) e)

  -- one that is refused becomes a loss
  pub losing : (q : Place) (o : Outcome) → waits p.sender p.receiver (view t).queue ≡ true → Stepped t (Deliver p.sender p.receiver) o → is_accepted o.answer ≡ false
      → q ≡ next_pair t.n p → Losing t p q
  losing q o w s i e =
      record { looks = x; waits = w; turn = by (is_down (node_at (view t) p.receiver).status) refl (step (view t) (Deliver p.sender p.receiver)) refl ∙ ap (λ (q : Place). turn_accepted (with_loss (view t) p.sender p.receiver) q Lost) (sym e) }
    where
      by : (d : Bool) → is_down (node_at (view t) p.receiver).status ≡ d → (y : Result) → step (view t) (Deliver p.sender p.receiver) ≡ y
          → turn_at (view t) p ≡ turn_accepted (with_loss (view t) p.sender p.receiver) (next_pair t.n p) Lost
      by true d y h = turn_rules.down (view t) p.sender p.receiver x w d
      by false d (refused k) h = turn_rules.becomes_loss (view t) p.sender p.receiver k x (turn_rules.no_other (view t) p.sender p.receiver k x w d h) h
      by false d (accepted u k) h = absurd (true≢false (sym (ap is_accepted (accepted_alike.code_accepts s u k h)) ∙ i))

-- the loss itself
pub lost : (t : Table) (p q : Place) (o : Outcome) (r : TurnOutcome) → Losing t p q → Stepped t (Lose p.sender p.receiver) o → r ≡ outcome o.table q Lost Accepted → Turned t p r
lost t p q o r l s z =
    accepted_turn t p o.table r l.turn (s.table ∙ ap (kept (view t)) (lose_accepted (view t) p.sender p.receiver l.looks l.waits)) (λ n. absurd (lost_not_nothing n)) z
