-- The cases of specs/Cases, computed over the definitions.
use mathlib.Core.Path.{refl}
use lib.Count.{ones_in, ones, count_leading_zeros}
use Rattle.model.specs.Pick.{pick}
use Rattle.model.specs.Procedures.{invite_next, merges, hand_next, finishes, forward_next, asked_all, ask_at, ask_after}
use Rattle.model.specs.React.{checked, timed_out, ticked, expired, resumed, on_are_you_coordinator, on_are_you_there, on_invitation, on_accept, on_ready, on_reply, received, react}
use Rattle.model.specs.State.{waits, oldest, without_oldest}
use Rattle.model.specs.Step.{reaction_to, remaining, effect}
use Rattle.rest_bound.specs.Potential.{kind_weight, members_weight, nodes_weight, queue_weight}
use Rattle.rest_bound.specs.Cases.{RestBoundCases}

pub rest_bound_cases : RestBoundCases
unfolding pick ones_in ones count_leading_zeros invite_next merges hand_next finishes forward_next asked_all ask_at ask_after checked timed_out ticked expired resumed on_are_you_coordinator on_are_you_there on_invitation on_accept on_ready on_reply received react waits oldest without_oldest reaction_to remaining effect kind_weight members_weight nodes_weight queue_weight
rest_bound_cases =
    record {
      of_tower = refl;
      of_stand = refl;
      tower_turns = refl;
      stand_turns = refl;
      kinds = refl;
      asks_next = refl;
      asks_last = refl;
      ticks = refl;
      merges = refl;
      merges_at_once = refl;
      invites_next = refl;
      collects = refl;
      finishes = refl;
      hands_next = refl;
      hands_last = refl;
      hands_none = refl;
      forwards = refl;
      forwards_next = refl;
      accepts = refl;
      accepts_alone = refl;
      held = refl;
      accepted = refl;
      there = refl;
      joins = refl;
      ready = refl;
      answers = refl;
      recovers = refl;
      contacted = refl;
      dropped = refl;
      lost = refl;
      check = refl;
      timeout = refl;
    }
