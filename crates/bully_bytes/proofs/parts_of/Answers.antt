-- Each place is its case of the definition.
use Rattle.bully_bytes.proofs.parts_of.Goals as goal

pub returns-in-Idle : goal.returns-in-Idle
returns-in-Idle c = rw (c.in-Idle.is, c.parts_with.ensures)

pub returns-in-Asking : goal.returns-in-Asking
returns-in-Asking c = rw (c.in-Asking.is, c.parts_with-in-Asking.ensures)

pub returns-in-Halting : goal.returns-in-Halting
returns-in-Halting c = rw (c.in-Halting.is, c.parts_with-in-Halting.ensures)

pub returns-in-Announcing : goal.returns-in-Announcing
returns-in-Announcing c = rw (c.in-Announcing.is, c.parts_with-in-Announcing.ensures)

pub returns-in-Point : goal.returns-in-Point
returns-in-Point c = rw (c.in-Point.is, c.parts_with-in-Point.ensures)

pub returns-in-Handing : goal.returns-in-Handing
returns-in-Handing c = rw (c.in-Handing.is, c.parts_with-in-Handing.ensures)

pub returns-in-Checking : goal.returns-in-Checking
returns-in-Checking c = rw (c.in-Checking.is, c.parts_with-in-Checking.ensures)

pub returns-in-Contacting : goal.returns-in-Contacting
returns-in-Contacting c = rw (c.in-Contacting.is, c.parts_with-in-Contacting.ensures)
