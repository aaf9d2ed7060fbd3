-- The single rounds and turns.
use Prim.Native.Nat.{ℕ}
use native.Mathlib.Omega.{arith}
use mathlib.Core.Bool.{true, false}
use mathlib.Core.Logic.{◌⊎◌, inl, inr}
use mathlib.Core.Path.{◌≡◌, refl, ◌∙◌}
use mathlib.Core.List.{List, []}
use lib.Count.{ones_in, ones, count_leading_zeros}
use lib.Bits.{bit_and, bit_or}
use Rattle.model.specs.Pick.{pick}
use Rattle.model.specs.Limits.{tower}
use Rattle.model.specs.Procedures.{invite_next, merges, forward_next}
use Rattle.model.specs.React.{resumed, on_are_you_coordinator, on_invitation, on_reply, received, react}
use Rattle.model.specs.Range.{TwoPairs, activity_in_range, node_in_range, message_in_range, is_pair, count_in_range}
use Rattle.model.specs.State.{State, start, all_waiting, waits, oldest, without_oldest, how_many, counts_of, every, up_to, base_in_range, counts_in_range, in_range}
use Rattle.model.specs.Grounds.{judged}
use Rattle.model.specs.Step.{reaction_to, remaining, effect, grounds, refused, accepted}
use Rattle.model.specs.Cases.{past, only, with_counts, none, question}
use Rattle.model.specs.Cases as cases
use Rattle.model.proofs.InRange.{start_in}
use Rattle.model.proofs.Waiting.{waiting_in}
use Rattle.model.proofs.TrafficCases.{known, known_is, past_in, only_in_range_lem, traffic_cases}
use Rattle.model.specs.declared.Status.TheVariants.{Down, Normal}
use Rattle.model.specs.declared.Activity.TheVariants.{Idle}
use Rattle.model.specs.declared.Node.{Node}
use Rattle.model.specs.declared.Message.{Message}
use Rattle.model.specs.declared.Mark.{Mark}
use Rattle.model.specs.declared.Event.TheVariants.{Deliver}
use Rattle.round.specs.Order.{pair, next_receiver, next_pair, in_order}
use Rattle.round.specs.Turn.{turn_accepted, turn_at}
use Rattle.round.specs.Claims.{AtPair, with_loss}
use Rattle.round.specs.Cases.{RoundCases}
use Rattle.round.specs.declared.Done.TheVariants.{Delivered, Lost}
use Rattle.round.proofs.Turns.{turn_rules}

-- the starting tables of one node and of two are in range
one_in : in_range (start 1 tower) ≡ true
one_in = start_in TwoPairs 1 tower (record { within = refl; pair = refl; low = omega arith; high = omega arith })

two_in : in_range (start 2 tower) ≡ true
two_in = start_in TwoPairs 2 tower (record { within = refl; pair = refl; low = omega arith; high = omega arith })

not_one : ◌≡◌ {A = ℕ} 2 1 → ⊥
not_one e = omega (arith, e)

-- one node without a record, and no node
no_records : in_range (all_waiting 1 tower [] []) ≡ false
unfolding in_range
no_records = refl

no_nodes : in_range (start 0 tower) ≡ false
unfolding in_range
no_nodes = refl

-- two nodes in the tower, of which all that was sent still waits
module _ (cs : List Node) (q : List Message) (a b : ℕ) (r : base_in_range tower 2 cs q ≡ true) (i : is_pair 2 a b ≡ true) where
  at_pair : AtPair (all_waiting 2 tower cs q) (pair a b)
  at_pair = record { in_range_lem = waiting_in TwoPairs 2 tower cs q refl refl r; in_round = i }

  -- a delivery that is accepted, and one that meets 12, 13 or 17
  delivers : (u : State) (k : Mark) → known (all_waiting 2 tower cs q) (Deliver a b) ≡ accepted u k
      → turn_at (all_waiting 2 tower cs q) (pair a b) ≡ turn_accepted u (next_pair 2 (pair a b)) Delivered
  delivers u k e = turn_rules.delivers (all_waiting 2 tower cs q) a b u k at_pair (known_is (all_waiting 2 tower cs q) (Deliver a b) at_pair.in_range_lem ∙ e)

  becomes_loss : (x : ℕ) → (x ≡ 12) ⊎ ((x ≡ 13) ⊎ (x ≡ 17)) → known (all_waiting 2 tower cs q) (Deliver a b) ≡ refused x
      → turn_at (all_waiting 2 tower cs q) (pair a b) ≡ turn_accepted (with_loss (all_waiting 2 tower cs q) a b) (next_pair 2 (pair a b)) Lost
  becomes_loss x y e = turn_rules.becomes_loss (all_waiting 2 tower cs q) a b x at_pair y (known_is (all_waiting 2 tower cs q) (Deliver a b) at_pair.in_range_lem ∙ e)

pub round_cases : RoundCases
unfolding pick ones_in ones count_leading_zeros bit_and bit_or invite_next merges forward_next resumed on_are_you_coordinator on_invitation on_reply received react activity_in_range node_in_range message_in_range count_in_range counts_of how_many up_to counts_in_range waits oldest without_oldest every reaction_to remaining effect grounds judged next_receiver next_pair in_order
round_cases =
    record {
      two = refl;
      three = refl;
      four = refl;
      next_sender = refl;
      passed_over = refl;
      last_sender = refl;
      round_ends = refl;
      of_tower = refl;
      of_stand = refl;
      alone = turn_rules.alone (start 1 tower) (pair 1 2) one_in refl;
      alone_none = turn_rules.alone (start 1 tower) (pair 0 0) one_in refl;
      alone_same = turn_rules.alone (start 1 tower) (pair 9 9) one_in refl;
      sender_none = turn_rules.no_pair (start 2 tower) (pair 0 1) two_in not_one refl;
      sender_high = turn_rules.no_pair (start 2 tower) (pair 3 1) two_in not_one refl;
      receiver_none = turn_rules.no_pair (start 2 tower) (pair 1 0) two_in not_one refl;
      receiver_high = turn_rules.no_pair (start 2 tower) (pair 1 3) two_in not_one refl;
      same_twice = turn_rules.no_pair (start 2 tower) (pair 2 2) two_in not_one refl;
      last_pair = turn_rules.no_message_lem (start 2 tower) 2 1 (record { in_range_lem = two_in; in_round = refl }) refl;
      range_first = turn_rules.not_in_range (with_counts [] (only 1 2 1) (only 1 2 0) (only 1 2 0)) (pair 1 2) (only_in_range_lem [] 1 2 1 1 2 0 1 2 0 refl);
      range_no_pair = turn_rules.not_in_range (with_counts [] (only 1 2 1) (only 1 2 0) (only 1 2 0)) (pair 2 2) (only_in_range_lem [] 1 2 1 1 2 0 1 2 0 refl);
      range_alone = turn_rules.not_in_range (all_waiting 1 tower [] []) (pair 1 2) no_records;
      range_none = turn_rules.not_in_range (start 0 tower) (pair 1 2) no_nodes;
      no_message_lem = turn_rules.no_message_lem (cases.pair Normal none Idle question) 2 1 (record { in_range_lem = waiting_in TwoPairs 2 tower _ _ refl refl refl; in_round = refl }) refl;
      down = turn_rules.down (cases.pair Down none Idle question) 1 2 (record { in_range_lem = waiting_in TwoPairs 2 tower _ _ refl refl refl; in_round = refl }) refl refl;
      delivered = delivers _ _ 1 2 refl refl _ _ refl;
      twelve = becomes_loss _ _ 1 2 refl refl 12 (inl refl) refl;
      not_twelve = delivers _ _ 1 2 refl refl _ _ refl;
      thirteen = becomes_loss _ _ 1 2 refl refl 13 (inr (inl refl)) refl;
      not_thirteen = delivers _ _ 1 2 refl refl _ _ refl;
      seventeen =
          turn_rules.becomes_loss (past 2 1 33554430 0 (cases.pair Normal none Idle question)) 1 2 17
          (record { in_range_lem = past_in (cases.pair Normal none Idle question) 2 1 33554430 0 (waiting_in TwoPairs 2 tower _ _ refl refl refl) refl (omega arith); in_round = refl })
          (inr (inr refl)) traffic_cases.at_end_reply;
      not_seventeen =
          turn_rules.delivers (past 2 1 33554429 0 (cases.pair Normal none Idle question)) 1 2 _ _
          (record { in_range_lem = past_in (cases.pair Normal none Idle question) 2 1 33554429 0 (waiting_in TwoPairs 2 tower _ _ refl refl refl) refl (omega arith); in_round = refl })
          (known_is (past 2 1 33554429 0 (cases.pair Normal none Idle question)) (Deliver 1 2) (past_in (cases.pair Normal none Idle question) 2 1 33554429 0 (waiting_in TwoPairs 2 tower _ _ refl refl refl) refl (omega arith)));
      oldest_lost = turn_rules.down _ 1 2 (record { in_range_lem = waiting_in TwoPairs 2 tower _ _ refl refl refl; in_round = refl }) refl refl;
      full = delivers _ _ 1 2 refl refl _ _ refl;
      done_numbers = refl;
    }
