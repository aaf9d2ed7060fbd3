-- Single lists, from their bytes to the text of T-13's program.
use Rattle.std.specs.Prelude.{ℕ, ◌≡◌, List, [], ◌∷◌, ◌++◌}
use Rattle.event_list.specs.Cases.{nodes, stand_nodes, crash, recover, check}
use Rattle.listing.specs.Ascii.{bytes}
use Rattle.run_list.specs.Cases.{k10_list}
use Rattle.rest_list.specs.Text.{rest_text_of}

-- two nodes recover, and node 2 asks node 1
abbrev pub asking_events : List ℕ
asking_events = recover 1 ++ (recover 2 ++ check 2)

pub record RestCases : Type 0 where
  -- The round of two nodes is (1,2), (2,1). Nothing waits from 1 to 2; then come the question, the reply, the invitation, the acceptance, and two replies. Node 2 collects.
  pub asking : rest_text_of (nodes 2 ++ asking_events) ≡ bytes "cabinets 2\nturns 7\n1 2 2 33 1 1 0\n2 1 2 33 2 2 1\nmessages 0\nsent 6\ndelivered 6\nlost 0\n"
  -- the same on the stand
  pub on_stand : rest_text_of (stand_nodes 2 ++ asking_events) ≡ bytes "cabinets 2\nturns 7\n1 2 2 33 1 1 0\n2 1 2 33 2 2 1\nmessages 0\nsent 6\ndelivered 6\nlost 0\n"
  -- node 1 is Down: the message to it is lost in the second turn, and node 2 still asks, as no expire comes
  pub down : rest_text_of (nodes 2 ++ (asking_events ++ crash 1)) ≡ bytes "cabinets 2\nturns 2\n1 0 1 16 1 1 0\n2 3 2 17 2 1 0\nmessages 0\nsent 1\ndelivered 0\nlost 1\n"
  -- where no message waits no turn is made: after K10, at the start, and with one node
  pub k10 : rest_text_of k10_list ≡ bytes "cabinets 2\nturns 0\n1 3 2 33 100 1 0\n2 3 2 33 100 2 1\nmessages 0\nsent 8\ndelivered 8\nlost 0\n"
  pub none : rest_text_of (nodes 2) ≡ bytes "cabinets 2\nturns 0\n1 0 0 0 0 0 0\n2 0 0 0 0 0 0\nmessages 0\nsent 0\ndelivered 0\nlost 0\n"
  pub alone : rest_text_of (nodes 1 ++ (recover 1 ++ check 1)) ≡ bytes "cabinets 1\nturns 0\n1 3 1 16 1 1 0\nmessages 0\nsent 0\ndelivered 0\nlost 0\n"
  -- an event is refused, and the list stops: the turns go on from the table so far
  pub stopped : rest_text_of (nodes 2 ++ (recover 1 ++ (asking_events ++ (0x17 ∷ 0 ∷ []))))
      ≡ bytes "cabinets 2\nrefused 2 9\nstopped 20 3\nturns 7\n1 2 2 33 1 1 0\n2 1 2 33 2 2 1\nmessages 0\nsent 6\ndelivered 6\nlost 0\n"
  -- a first field that failed: "that line is all that is printed"
  pub failed : rest_text_of (nodes 17) ≡ bytes "stopped 0 6\n"
