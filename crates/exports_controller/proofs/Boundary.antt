-- What is claimed of the controller on bytes.
use Rattle.std.specs.Prelude.{Ok, Err}
use Prim.Native.Nat.{ℕ, ◌≤◌, ◌<◌}
use native.Mathlib.Omega.{arith}
use mathlib.Core.Bool.{true, false}
use mathlib.Core.Path.{◌≡◌, refl, ◌∙◌, ap}
use mathlib.Core.List.{List, [], ◌++◌}
use lib.ListN.{length, drop, replicate}
use Rattle.model.specs.Pick.{pick}
use Rattle.model.specs.Grounds.{first}
use Rattle.model.specs.State.{starting_node}
use Rattle.model.specs.Step.{actor, wrong_number, wrong_task}
use Rattle.model.specs.declared.Node.{Node}
use Rattle.event_list.specs.Format.{stop_number, between, tag_at, length_of, event_of, cut_short, checked}
use Rattle.event_list.specs.declared.Stop.{Stop}
use Rattle.event_list.specs.declared.Stop.TheVariants.{TooLong, CutShort, WrongTag, WrongLength, WrongCount}
use Rattle.number_bytes.proofs.Lent.{short_in, long_in, only_short_in, keeps_in, behind_in}
use Rattle.number_bytes.specs.Bytes.{number, status_of}
use Rattle.table_bytes.specs.Bytes.{activity_of, node_of}
use Rattle.message_fields.specs.Fields.{most_bytes, message_in}
use Rattle.controller.specs.declared.LocalEvent.{LocalEvent}
use Rattle.controller.specs.Controller.{event, message, as_event, in_range_for, Result, controller_step, result_number, node_after, sent_in}
use Rattle.controller.proofs.Steps.{out_of_range, other_event, wrong_bytes, good_bytes, other_message}
use Rattle.controller.proofs.Alone.{controller_small, sent_short}
use Rattle.exports_controller.specs.Field.{FieldRead, event_in}
use Rattle.exports_controller.specs.Boundary.{outcome_size, outcome_bytes, field_step, event_number, event_bytes, message_number, message_bytes, ControllerEventClaims, ControllerMessageClaims}
use Rattle.exports_controller.proofs.Reading.{field_grounds, field_alone, queue_tag}
use Rattle.exports_controller.proofs.Outcomes.{given_long}

-- ── nevraspu_controller_event ──

-- no number of a refusal is 255
field_small : (n i : ℕ) (c : Node) (x : FieldRead) → result_number (field_step n i c x) < 255
field_small n i c (Err TooLong) = omega arith
field_small n i c (Err CutShort) = omega arith
field_small n i c (Err WrongTag) = omega arith
field_small n i c (Err WrongLength) = omega arith
field_small n i c (Err WrongCount) = omega arith
field_small n i c (Ok e) = omega (arith, controller_small n i c (event e))

field_sent : (n i : ℕ) (c : Node) (x : FieldRead) → length (sent_in (field_step n i c x)) ≤ most_bytes
field_sent n i c (Err s) = omega arith
field_sent n i c (Ok e) = sent_short n i c (event e)

module _ (n i : ℕ) (r f b : List ℕ) where
  abbrev result : Result
  result = field_step n i (node_of r) (event_in f)

  abbrev given : List ℕ
  given = outcome_bytes (node_of r) result

  short : length b < outcome_size → event_number n i r f b ≡ 255
  unfolding event_number
  short = short_in outcome_size b (result_number result)

  long : outcome_size ≤ length b → event_number n i r f b ≡ result_number result
  unfolding event_number
  long = long_in outcome_size b (result_number result)

  only_short : event_number n i r f b ≡ 255 → length b < outcome_size
  unfolding event_number
  only_short = only_short_in outcome_size b (result_number result) (field_small n i (node_of r) (event_in f))

  keeps : (event_number n i r f b ≡ 0 → ⊥) → event_bytes n i r f b ≡ b
  unfolding event_bytes
  keeps = keeps_in outcome_size b (event_number n i r f b) given

  behind : drop outcome_size (event_bytes n i r f b) ≡ drop outcome_size b
  unfolding event_bytes
  behind = behind_in outcome_size b (event_number n i r f b) given (λ _. given_long (node_after (node_of r) result) (sent_in result) (field_sent n i (node_of r) (event_in f)))

  -- the number by what the field says
  by_field : (x : FieldRead) → outcome_size ≤ length b → event_in f ≡ x → event_number n i r f b ≡ result_number (field_step n i (node_of r) x)
  by_field x h q = long h ∙ ap (λ (y : FieldRead). result_number (field_step n i (node_of r) y)) q

  no_event : (s : Stop) → outcome_size ≤ length b → event_in f ≡ Err s → event_number n i r f b ≡ stop_number s
  no_event s h q = by_field (Err s) h q

  queue_events : outcome_size ≤ length b → cut_short f 0 ≡ false → between 0x17 0x18 (tag_at f 0) ≡ true → event_number n i r f b ≡ 4
  queue_events h w t = by_field (Err WrongTag) h (queue_tag f w t)

  other_node : (e : LocalEvent) → outcome_size ≤ length b → event_in f ≡ Ok e → in_range_for n i (node_of r) ≡ true → wrong_number n (as_event e) ≡ false → wrong_task (as_event e) ≡ false → (actor (as_event e) ≡ i → ⊥) → event_number n i r f b ≡ 21
  unfolding first pick
  other_node e h q ok a t o = by_field (Ok e) h q ∙ ap result_number (other_event n i (node_of r) e ok (rw (a, t)) o)

  not_in_range : (e : LocalEvent) → outcome_size ≤ length b → event_in f ≡ Ok e → in_range_for n i (node_of r) ≡ false → event_number n i r f b ≡ 1
  not_in_range e h q away = by_field (Ok e) h q ∙ ap result_number (out_of_range n i (node_of r) (event e) away)

module _ (n i : ℕ) (r f g b : List ℕ) (h : cut_short f 0 ≡ false) where
  same_number : event_number n i r (f ++ g) b ≡ event_number n i r f b
  unfolding event_number
  same_number = rw (field_alone f g h)

  same_bytes : event_bytes n i r (f ++ g) b ≡ event_bytes n i r f b
  unfolding event_bytes
  same_bytes = rw (same_number, field_alone f g h)

starts : node_of (replicate 29 0) ≡ starting_node
unfolding number status_of activity_of node_of pick
starts = refl

starts_none : node_of [] ≡ starting_node
unfolding number status_of activity_of node_of pick
starts_none = refl

pub controller_event_claims : ControllerEventClaims
unfolding length_of event_of event_in checked cut_short pick
controller_event_claims =
    record {
      short = short;
      only_short = only_short;
      keeps = keeps;
      behind = behind;
      empty = λ n i r b h. by_field n i r [] b (Err CutShort) h refl;
      no_event = no_event;
      field_grounds = field_grounds;
      queue_events = queue_events;
      crash = λ i. refl;
      recover = λ i. refl;
      check = λ i. refl;
      timeout = λ i. refl;
      tick = λ i. refl;
      expire = λ i. refl;
      finish = λ i high low. refl;
      starts = starts;
      starts_none = starts_none;
      other_node = other_node;
      not_in_range = not_in_range;
      first_alone = λ n i r f g b h. (same_number n i r f g b h, same_bytes n i r f g b h);
    }

-- ── nevraspu_controller_message ──

module _ (n i : ℕ) (r l b : List ℕ) where
  abbrev step : Result
  step = controller_step n i (node_of r) (message l)

  message_long : outcome_size ≤ length b → message_number n i r l b ≡ result_number step
  unfolding message_number
  message_long = long_in outcome_size b (result_number step)

pub controller_message_claims : ControllerMessageClaims
unfolding message_number message_bytes
controller_message_claims =
    record {
      short = λ n i r l b. short_in outcome_size b (result_number (step n i r l b));
      only_short = λ n i r l b. only_short_in outcome_size b (result_number (step n i r l b)) (omega (arith, controller_small n i (node_of r) (message l)));
      keeps = λ n i r l b. keeps_in outcome_size b (message_number n i r l b) (outcome_bytes (node_of r) (step n i r l b));
      behind = λ n i r l b. behind_in outcome_size b (message_number n i r l b) (outcome_bytes (node_of r) (step n i r l b)) (λ _. given_long (node_after (node_of r) (step n i r l b)) (sent_in (step n i r l b)) (sent_short n i (node_of r) (message l)));
      not_in_range = λ n i r l b h away. message_long n i r l b h ∙ ap result_number (out_of_range n i (node_of r) (message l) away);
      no_message_lem = λ n i r l b h ok wrong. message_long n i r l b h ∙ ap result_number (wrong_bytes n i (node_of r) l ok wrong);
      other_node = λ n i r l b h ok m o. message_long n i r l b h ∙ ap result_number (good_bytes n i (node_of r) l ok m ∙ other_message n i (node_of r) (message_in l) o);
    }
