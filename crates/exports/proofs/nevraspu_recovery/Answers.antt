-- `nevraspu_recovery` meets its contract: too little room, a refusal, or the eight records in bytes.
use Rattle.exports.proofs.Recovering.{short, refused, accepted}
use Rattle.exports.proofs.nevraspu_recovery.Goals as goal

pub returns-then-out-lt-RECORDS_SIZE : goal.returns-then-out-lt-RECORDS_SIZE
returns-then-out-lt-RECORDS_SIZE c = short _ _ _ c.if-out-lt-RECORDS_SIZE.true

pub returns-then-r-ne0 : goal.returns-then-r-ne0
returns-then-r-ne0 c =
    refused _ _ _ c.if-out-lt-RECORDS_SIZE.false c.recovery-q.result (rw c.decode.ensures at c.recovery-q.ensures) _ c.answer_number-r.ensures c.if-r-ne0.true

pub returns : goal.returns
returns c =
    accepted _ _ _ c.if-out-lt-RECORDS_SIZE.false c.recovery-q.result (rw c.decode.ensures at c.recovery-q.ensures) _ c.answer_number-r.ensures c.if-r-ne0.false _ c.encode_records.ensures
