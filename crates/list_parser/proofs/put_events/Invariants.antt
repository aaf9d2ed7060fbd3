-- `list_parser::put_events` meets its contract. The invariant: the bytes so far with what is said from p on come to what the first field comes to with what is said from the start.
use Prim.Native.Nat.{◌-◌, ◌≤◌}
use mathlib.Core.Path.{◌≡◌}
use lib.ListN.{length, take}
use Rattle.list_text.specs.Script.{said_from}
use Rattle.list_parser.specs.Made.{filled_by}
use Rattle.list_parser.proofs.put_events.Given as goal

abbrev pub invariant-loop-e : goal.invariant-loop-e
invariant-loop-e l = record {
  text : l.p.text ≡ l.from.text;
  start : 4 ≤ l.out.end;
  room : l.out.end ≤ 65536;
  long : length l.out.bytes.now ≡ 65536;
  is : filled_by (take l.out.end l.out.bytes.now) (said_from l.from.text.now l.p.at (65536 - l.out.end)) ≡ filled_by (take 4 l.initial.out.bytes.now) (said_from l.from.text.now l.from.at 65532);
}

abbrev pub decreases-loop-e : goal.decreases-loop-e
decreases-loop-e l = length l.from.text.now - l.p.at
