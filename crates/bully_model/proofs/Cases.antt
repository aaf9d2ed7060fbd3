-- The named runs and calls, computed over the definitions.
use mathlib.Core.Path.{refl}
use lib.Count.{ones_in, ones, count_leading_zeros, count_trailing_zeros}
use lib.Bits.{bit_and, bit_or}
use Rattle.model.specs.Pick.{pick}
use Rattle.model.specs.State.{every}
use Rattle.model.specs.Grounds.{judged}
use Rattle.bully_model.specs.Procedures.{hand_next, announce_next, election_point, halt_from, halting_step, ask_from, election, recovery, check_at, check_from, check, timeout, finish}
use Rattle.bully_model.specs.Calls.{new_coordinator, ready, called, answered, timed_out}
use Rattle.bully_model.specs.Range.{place_in_range, node_in_range}
use Rattle.bully_model.specs.State.{in_range}
use Rattle.bully_model.specs.Step.{call, go_on, effect, grounds, step, run_from}
use Rattle.bully_model.specs.Cases.{NamedRuns, CallCases, FurtherCases, RangeCases}

pub named_runs : NamedRuns
unfolding pick ones_in ones count_leading_zeros count_trailing_zeros bit_and bit_or every hand_next announce_next election_point halt_from halting_step ask_from election recovery check_at check_from check timeout finish new_coordinator ready called answered timed_out place_in_range node_in_range in_range call go_on effect grounds judged step run_from
named_runs =
    record {
      one_elected = refl;
      one_normal = refl;
      begins = refl;
      gives_up = refl;
      announces = refl;
      reorganizes = refl;
      hands = refl;
      is_grouped = refl;
      checks = refl;
      finds_all = refl;
      finds_one = refl;
      calls = refl;
      asks = refl;
      halts = refl;
      leads = refl;
      restarts = refl;
      own_timeout = refl;
      member_check = refl;
      ground_1 = refl;
      ground_7 = refl;
      ground_8 = refl;
      ground_9 = refl;
      ground_9_off = refl;
      ground_10 = refl;
      ground_10_finish = refl;
    }

pub call_cases : CallCases
unfolding pick ones_in ones count_leading_zeros count_trailing_zeros bit_and bit_or every hand_next announce_next election_point halt_from halting_step ask_from election recovery check_at check_from check timeout finish new_coordinator ready called answered timed_out place_in_range node_in_range in_range call go_on effect grounds judged step run_from
call_cases =
    record {
      announced_to = refl;
      other_halter = refl;
      not_in_election = refl;
      handed_to = refl;
      other_coordinator = refl;
      not_reorganizing = refl;
      halter_cleared = refl;
      up_emptied = refl;
      coordinator_zero = refl;
    }

pub further_cases : FurtherCases
unfolding pick ones_in ones count_leading_zeros count_trailing_zeros bit_and bit_or every hand_next announce_next election_point halt_from halting_step ask_from election recovery check_at check_from check timeout finish new_coordinator ready called answered timed_out place_in_range node_in_range in_range call go_on effect grounds judged step run_from
further_cases =
    record {
      timeout_election = refl;
      timeout_down = refl;
      timeout_member = refl;
      timeout_own = refl;
      contact_answered = refl;
      asked_down = refl;
      halt_timed_out = refl;
      halt_last = refl;
      halt_nobody = refl;
      announce_timed_out = refl;
      announce_restarts = refl;
      hand_restarts = refl;
      restart_given_up = refl;
      check_first = refl;
      check_passes = refl;
      check_ends = refl;
      check_one = refl;
      check_no = refl;
      crash_handing = refl;
      recover_running = refl;
      crash_running = refl;
      crash_off = refl;
      check_busy = refl;
      timeout_busy = refl;
      point_goes_on = refl;
      one_first = refl;
      seven_first = refl;
      eight_first = refl;
      nine_first = refl;
    }

pub range_cases : RangeCases
unfolding pick ones_in ones count_leading_zeros count_trailing_zeros bit_and bit_or every hand_next announce_next election_point halt_from halting_step ask_from election recovery check_at check_from check timeout finish new_coordinator ready called answered timed_out place_in_range node_in_range in_range call go_on effect grounds judged step run_from
range_cases =
    record {
      none = refl;
      one = refl;
      sixteen = refl;
      seventeen = refl;
      numbers = refl;
      coordinator = refl;
      halter = refl;
      task = refl;
      up = refl;
      up_holder = refl;
      up_beyond = refl;
      off_down = refl;
      off_normal = refl;
      off_asking = refl;
      asking = refl;
      asking_lower = refl;
      asking_itself = refl;
      asking_beyond = refl;
      halting = refl;
      halting_higher = refl;
      halting_itself = refl;
      halting_none = refl;
      announcing = refl;
      announcing_itself = refl;
      announcing_none = refl;
      announcing_beyond = refl;
      announcing_still = refl;
      announcing_still_beyond = refl;
      handing = refl;
      handing_itself = refl;
      handing_none = refl;
      handing_beyond = refl;
      handing_still = refl;
      handing_still_beyond = refl;
      checking = refl;
      checking_itself = refl;
      checking_none = refl;
      checking_beyond = refl;
      contacting = refl;
      contacting_none = refl;
      contacting_itself = refl;
    }
