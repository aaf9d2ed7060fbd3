-- `nevraspu_turn` meets its contract: too little room, a refusal, or the turn in bytes.
use Rattle.exports.proofs.Turning.{short, refused, accepted_turn}
use Rattle.exports.proofs.turn.nevraspu_turn.Goals as goal

pub returns-then-out-lt-TURN_SIZE : goal.returns-then-out-lt-TURN_SIZE
returns-then-out-lt-TURN_SIZE c = short _ _ _ _ c.if-out-lt-TURN_SIZE.true

pub returns-then-r-ne0 : goal.returns-then-r-ne0
returns-then-r-ne0 c =
    refused _ _ _ _ c.if-out-lt-TURN_SIZE.false c.turn-o.result (rw c.decode.ensures at c.turn-o.ensures) _ c.answer_number-r.ensures c.if-r-ne0.true

pub returns : goal.returns
returns c =
    accepted_turn _ _ _ _ c.if-out-lt-TURN_SIZE.false c.turn-o.result (rw c.decode.ensures at c.turn-o.ensures) _ c.answer_number-r.ensures c.if-r-ne0.false _ _ _ c.put_behind.ensures c.answered.ensures
