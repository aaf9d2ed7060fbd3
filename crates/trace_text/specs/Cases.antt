-- Single lists, step by step. The proof is in proofs/Cases.
use Rattle.std.specs.Prelude.{ℕ, ◌≡◌, List, [], ◌∷◌, ◌++◌}
use Rattle.event_list.specs.Cases.{nodes, stand_nodes, crash, recover, check, timeout, tick, expire, finish, deliver, lose}
use Rattle.listing.specs.Ascii.{bytes}
use Rattle.run_list.specs.Cases.{k10_list}
use Rattle.trace_text.specs.Trace.{trace_text}

-- what is printed for K10 before its table
abbrev pub k10_steps : List ℕ
k10_steps =
    bytes "cabinets 2\n1 recover 1 accepted\n  1 3 1 16 1 1 0 idle\n2 recover 2 accepted\n  2 3 2 17 2 1 0 idle\n"
    ++ (bytes "3 check 2 accepted\n  2 3 2 17 2 1 0 asking 1 found none\n  sent 2 -> 1 AreYouCoordinator call 1\n"
    ++ (bytes "4 deliver 2 1 accepted\n  taken 2 -> 1 AreYouCoordinator call 1\n  sent 1 -> 2 reply yes call 1\n"
    ++ (bytes "5 deliver 1 2 accepted\n  2 1 2 33 2 2 0 inviting 1 found none former none\n  taken 1 -> 2 reply yes call 1\n  sent 2 -> 1 Invitation group 33 call 2\n"
    ++ (bytes "6 deliver 2 1 accepted\n  1 1 2 33 1 1 0 accepting caller 2 call 2\n  taken 2 -> 1 Invitation group 33 call 2\n  sent 1 -> 2 Accept group 33 call 1\n"
    ++ (bytes "7 deliver 1 2 accepted\n  2 1 2 33 2 2 1 inviting 1 found none former none\n  taken 1 -> 2 Accept group 33 call 1\n  sent 2 -> 1 reply yes call 1\n"
    ++ (bytes "8 deliver 2 1 accepted\n  1 2 2 33 1 1 0 idle\n  taken 2 -> 1 reply yes call 1\n  sent 1 -> 2 reply yes call 2\n"
    ++ (bytes "9 deliver 1 2 accepted\n  2 1 2 33 2 2 1 collecting\n  taken 1 -> 2 reply yes call 2\n"
    ++ (bytes "10 finish 2 100 accepted\n  2 2 2 33 100 2 1 handing 1 still none\n  sent 2 -> 1 Ready group 33 task 100 call 3\n"
    ++ (bytes "11 deliver 2 1 accepted\n  1 3 2 33 100 1 0 idle\n  taken 2 -> 1 Ready group 33 task 100 call 3\n  sent 1 -> 2 reply yes call 3\n"
    ++ bytes "12 deliver 1 2 accepted\n  2 3 2 33 100 2 1 idle\n  taken 1 -> 2 reply yes call 3\n")))))))))

pub record TraceCases : Type 0 where
  -- nothing to run
  pub empty : trace_text [] ≡ bytes "stopped 0 3\n"
  pub no_events : trace_text (nodes 1) ≡ bytes "cabinets 1\n1 0 0 0 0 0 0\nmessages 0\nsent 0\ndelivered 0\nlost 0\n"
  -- a list of the stand begins as the bench's text does
  pub stand : trace_text (stand_nodes 1) ≡ bytes "cabinets 1\n1 0 0 0 0 0 0\nmessages 0\nsent 0\ndelivered 0\nlost 0\n"
  -- an accepted event changes a record; a refused one prints its number; a list that stops
  pub one : trace_text (nodes 1 ++ (recover 1 ++ (recover 1 ++ (0x19 ∷ 0 ∷ 0 ∷ []))))
      ≡ bytes "cabinets 1\n1 recover 1 accepted\n  1 3 1 16 1 1 0 idle\n2 recover 1 refused 9\nstopped 12 4\n1 3 1 16 1 1 0\nmessages 0\nsent 0\ndelivered 0\nlost 0\n"
  -- events that are accepted and change nothing
  pub alone : trace_text (nodes 1 ++ (recover 1 ++ (check 1 ++ timeout 1)))
      ≡ bytes "cabinets 1\n1 recover 1 accepted\n  1 3 1 16 1 1 0 idle\n2 check 1 accepted\n3 timeout 1 accepted\n1 3 1 16 1 1 0\nmessages 0\nsent 0\ndelivered 0\nlost 0\n"
  -- K10 and then a timeout: every kind of message and every activity but two; events 4 and 14 change no record
  pub answered : trace_text (k10_list ++ (timeout 1 ++ (deliver 1 2 ++ deliver 2 1)))
      ≡ k10_steps
      ++ (bytes "13 timeout 1 accepted\n  1 3 2 33 100 1 0 contacting\n  sent 1 -> 2 AreYouThere group 33 call 2\n"
      ++ (bytes "14 deliver 1 2 accepted\n  taken 1 -> 2 AreYouThere group 33 call 2\n  sent 2 -> 1 reply yes call 2\n"
      ++ (bytes "15 deliver 2 1 accepted\n  1 3 2 33 100 1 0 idle\n  taken 2 -> 1 reply yes call 2\n"
      ++ bytes "1 3 2 33 100 1 0\n2 3 2 33 100 2 1\nmessages 0\nsent 10\ndelivered 10\nlost 0\n")))
  -- K10, and then node 1 crashes, recovers, finds node 2 and invites it, which still has node 1 for a member: waiting and forwarding
  pub forwarded : trace_text (k10_list ++ (crash 1 ++ (recover 1 ++ (check 1 ++ (deliver 1 2 ++ (deliver 2 1 ++ (tick 1 ++ deliver 1 2)))))))
      ≡ k10_steps
      ++ (bytes "13 crash 1 accepted\n  1 0 2 33 100 1 0 idle\n14 recover 1 accepted\n  1 3 1 32 1 2 0 idle\n"
      ++ (bytes "15 check 1 accepted\n  1 3 1 32 1 2 0 asking 2 found none\n  sent 1 -> 2 AreYouCoordinator call 2\n"
      ++ (bytes "16 deliver 1 2 accepted\n  taken 1 -> 2 AreYouCoordinator call 2\n  sent 2 -> 1 reply yes call 2\n"
      ++ (bytes "17 deliver 2 1 accepted\n  1 3 1 32 1 2 0 waiting ticks 1 found 2\n  taken 2 -> 1 reply yes call 2\n"
      ++ (bytes "18 tick 1 accepted\n  1 1 1 48 1 3 0 inviting 2 found none former none\n  sent 1 -> 2 Invitation group 48 call 3\n"
      ++ (bytes "19 deliver 1 2 accepted\n  2 1 1 48 100 2 1 forwarding 1 still none caller 1 call 3\n  taken 1 -> 2 Invitation group 48 call 3\n  sent 2 -> 1 Invitation group 48 call 4\n"
      ++ bytes "1 1 1 48 1 3 0\n2 1 1 48 100 2 1\nmessages 1\nsent 12\ndelivered 11\nlost 0\n"))))))
  -- K10, and then node 1 crashes and recovers, and node 2 finds its former member and invites it twice; the first invitation is lost
  pub twice : trace_text (k10_list ++ (crash 1 ++ (recover 1 ++ (check 2 ++ (deliver 2 1 ++ (deliver 1 2 ++ (lose 2 1 ++ expire 2)))))))
      ≡ k10_steps
      ++ (bytes "13 crash 1 accepted\n  1 0 2 33 100 1 0 idle\n14 recover 1 accepted\n  1 3 1 32 1 2 0 idle\n"
      ++ (bytes "15 check 2 accepted\n  2 3 2 33 100 2 1 asking 1 found none\n  sent 2 -> 1 AreYouCoordinator call 4\n"
      ++ (bytes "16 deliver 2 1 accepted\n  taken 2 -> 1 AreYouCoordinator call 4\n  sent 1 -> 2 reply yes call 4\n"
      ++ (bytes "17 deliver 1 2 accepted\n  2 1 2 49 100 3 0 inviting 1 found none former 1\n  taken 1 -> 2 reply yes call 4\n  sent 2 -> 1 Invitation group 49 call 5\n"
      ++ (bytes "18 lose 2 1 accepted\n  taken 2 -> 1 Invitation group 49 call 5\n"
      ++ (bytes "19 expire 2 accepted\n  2 1 2 49 100 3 0 inviting 1 found none former none\n  sent 2 -> 1 Invitation group 49 call 6\n"
      ++ bytes "1 3 1 32 1 2 0\n2 1 2 49 100 3 0\nmessages 1\nsent 12\ndelivered 10\nlost 1\n"))))))
  -- three nodes: sets of two, a reply that is no, and refused events of two numbers
  pub three : trace_text (nodes 3 ++ (recover 1 ++ (recover 2 ++ (recover 3 ++ (check 1 ++ (deliver 1 2 ++ (deliver 2 1 ++ (deliver 1 3 ++ (deliver 3 1 ++ (tick 1 ++ (tick 1 ++ (check 2 ++ (deliver 2 1 ++ (finish 1 0 100 ++ lose 2 3))))))))))))))
      ≡ bytes "cabinets 3\n1 recover 1 accepted\n  1 3 1 16 1 1 0 idle\n2 recover 2 accepted\n  2 3 2 17 2 1 0 idle\n3 recover 3 accepted\n  3 3 3 18 3 1 0 idle\n"
      ++ (bytes "4 check 1 accepted\n  1 3 1 16 1 1 0 asking 2 found none\n  sent 1 -> 2 AreYouCoordinator call 1\n"
      ++ (bytes "5 deliver 1 2 accepted\n  taken 1 -> 2 AreYouCoordinator call 1\n  sent 2 -> 1 reply yes call 1\n"
      ++ (bytes "6 deliver 2 1 accepted\n  1 3 1 16 1 1 0 asking 3 found 2\n  taken 2 -> 1 reply yes call 1\n  sent 1 -> 3 AreYouCoordinator call 2\n"
      ++ (bytes "7 deliver 1 3 accepted\n  taken 1 -> 3 AreYouCoordinator call 2\n  sent 3 -> 1 reply yes call 2\n"
      ++ (bytes "8 deliver 3 1 accepted\n  1 3 1 16 1 1 0 waiting ticks 2 found 2 3\n  taken 3 -> 1 reply yes call 2\n"
      ++ (bytes "9 tick 1 accepted\n  1 3 1 16 1 1 0 waiting ticks 1 found 2 3\n"
      ++ (bytes "10 tick 1 accepted\n  1 1 1 32 1 2 0 inviting 3 found 2 former none\n  sent 1 -> 3 Invitation group 32 call 3\n"
      ++ (bytes "11 check 2 accepted\n  2 3 2 17 2 1 0 asking 1 found none\n  sent 2 -> 1 AreYouCoordinator call 1\n"
      ++ (bytes "12 deliver 2 1 accepted\n  taken 2 -> 1 AreYouCoordinator call 1\n  sent 1 -> 2 reply no call 1\n"
      ++ (bytes "13 finish 1 100 refused 10\n14 lose 2 3 refused 11\n"
      ++ bytes "1 1 1 32 1 2 0\n2 3 2 17 2 1 0\n3 3 3 18 3 1 0\nmessages 2\nsent 7\ndelivered 5\nlost 0\n"))))))))))
