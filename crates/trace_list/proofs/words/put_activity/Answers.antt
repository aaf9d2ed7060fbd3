-- `put_activity` meets its contract: by the activity.
use native.Mathlib.Omega.{arith}
use Rattle.listing.specs.Ascii.{bytes}
use Rattle.listing.proofs.Appended.{wrote_twice}
use Rattle.trace_text.specs.Words.{activity_text, set_text, numbered}
use Rattle.trace_list.proofs.Put.{put_as, put_within, put_third}
use Rattle.trace_list.proofs.words.put_activity.Goals as goal

pub returns-in-Idle : goal.returns-in-Idle
unfolding activity_text
returns-in-Idle c = put_as 160 (rw c.in-Idle.is) (omega arith) c.put.ensures

pub returns-in-Asking : goal.returns-in-Asking
unfolding activity_text
returns-in-Asking c = let g = c.put_with_set.ensures in put_within 160 (rw c.in-Asking.is) g.0 (omega (arith, g.1))

pub returns-in-Waiting : goal.returns-in-Waiting
unfolding activity_text
returns-in-Waiting c = let g = c.put_with_set-in-Waiting.ensures in put_within 160 (rw c.in-Waiting.is) g.0 (omega (arith, g.1))

pub returns-in-Inviting : goal.returns-in-Inviting
unfolding activity_text
returns-in-Inviting c =
    let a = c.in-Inviting in
    let g = c.put_with_set-in-Inviting.ensures in
    let s = c.put_word_set.ensures in
    put_within 160 (rw a.is) (put_third (numbered (bytes "inviting") a.now) (bytes " found") (set_text a.found) _ g.0 s.0) (omega (arith, g.1, s.1))

pub returns-in-Collecting : goal.returns-in-Collecting
unfolding activity_text
returns-in-Collecting c = put_as 160 (rw c.in-Collecting.is) (omega arith) c.put-in-Collecting.ensures

pub returns-in-Handing : goal.returns-in-Handing
unfolding activity_text
returns-in-Handing c = let g = c.put_with_set-in-Handing.ensures in put_within 160 (rw c.in-Handing.is) g.0 (omega (arith, g.1))

pub returns-in-Contacting : goal.returns-in-Contacting
unfolding activity_text
returns-in-Contacting c = put_as 160 (rw c.in-Contacting.is) (omega arith) c.put-in-Contacting.ensures

pub returns-in-Forwarding : goal.returns-in-Forwarding
unfolding activity_text
returns-in-Forwarding c =
    let a = c.in-Forwarding in
    let g = c.put_with_set-in-Forwarding.ensures in
    let s = c.put_caller.ensures in
    put_within 160 (rw a.is) (put_third (numbered (bytes "forwarding") a.now) (bytes " still") (set_text a.rest) _ g.0 s.0) (omega (arith, g.1, s.1))

pub returns-in-Accepting : goal.returns-in-Accepting
unfolding activity_text
returns-in-Accepting c =
    let g = c.put-in-Accepting.ensures in
    let s = c.put_caller-in-Accepting.ensures in
    put_within 160 (rw c.in-Accepting.is) (wrote_twice g s.0) (omega (arith, g.appended.next, s.1))
