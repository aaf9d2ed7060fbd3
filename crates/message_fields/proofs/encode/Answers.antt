-- By the kind: the fields that are written are those that it carries.
use mathlib.Core.Path.{refl}
use native.Mathlib.Omega.{arith}
use Rattle.number_bytes.specs.Bytes.{bytes}
use Rattle.number_bytes.proofs.Numbers.{then}
use Rattle.message_fields.proofs.Forms.{plain_low, plain_high, grouped, ready, reply}
use Rattle.message_fields.proofs.encode.Goals as goal

pub returns-in-2-to-4 : goal.returns-in-2-to-4
unfolding bytes
returns-in-2-to-4 c =
    let f = grouped c.args.m (omega arith) (omega arith) in
    rw (f.length, f.bytes) (then _ _ _ _ 13 c.put_call.ensures refl c.put_group-in-2-to-4.ensures, refl)

pub returns-in-5 : goal.returns-in-5
unfolding bytes
returns-in-5 c =
    let f = ready c.args.m c.in-5.is in
    rw (f.length, f.bytes) (then _ _ _ _ 20 (then _ _ _ _ 13 c.put_call.ensures refl c.put_group.ensures) refl c.put_task.ensures, refl)

pub returns-in-6 : goal.returns-in-6
unfolding bytes
returns-in-6 c =
    let f = reply c.args.m c.in-6.is in
    rw (f.length, f.bytes) (then _ _ _ _ 13 c.put_call.ensures refl c.put_yes.ensures, refl)

pub returns-in-0-to-1 : goal.returns-in-0-to-1
returns-in-0-to-1 c =
    let f = plain_low c.args.m (omega arith) in
    rw (f.length, f.bytes) (c.put_call.ensures, refl)

pub returns-in-0-to-1-2 : goal.returns-in-0-to-1-2
returns-in-0-to-1-2 c =
    let f = plain_high c.args.m (omega arith) in
    rw (f.length, f.bytes) (c.put_call.ensures, refl)
