-- How long a trace can be: the claim `TraceFits`. A number has at most twenty digits, whatever it is; the longest line is that of a record, and an event changes one record at most.
use Prim.Native.Nat.{ℕ, zero, suc, ◌+◌, ◌-◌, ◌*◌, ◌/◌, ◌≤◌}
use native.Mathlib.Omega.{arith}
use mathlib.Core.Path.{◌≡◌, refl, subst, sym}
use mathlib.Core.List.{List, [], ◌∷◌, ◌++◌, append-nil}
use lib.ListN.{length, set, length-append}
use Rattle.std.specs.Prelude.{Option, None, Some, Ok, Err}
use Rattle.model.specs.Pick.{pick_true, by_test}
use Rattle.model.specs.Range.{TwoPairs}
use Rattle.model.specs.State.{State, start, oldest}
use Rattle.model.specs.Step.{actor, reaction_to, effect, Result, refused, accepted, step, after, run_from, run}
use Rattle.model.specs.declared.Activity.{Activity}
use Rattle.model.specs.declared.Activity.TheVariants.{Idle, Asking, Waiting, Inviting, Collecting, Handing, Contacting, Forwarding, Accepting}
use Rattle.model.specs.declared.Node.{Node}
use Rattle.model.specs.declared.Message.{Message}
use Rattle.model.specs.declared.Event.{Event}
use Rattle.model.specs.declared.Event.TheVariants.{Crash, Recover, Check, Timeout, Tick, Expire, Finish, Deliver, Lose}
use Rattle.model.proofs.InRange.{start_small, stays_in_range}
use Rattle.model.proofs.Judged.{accepted_is}
use Rattle.event_list.specs.Format.{First, stop_number, first_of, Ending, complete, stopped, rest}
use Rattle.event_list.proofs.Reading.{reading_failed, reading_begun, first_good, reads_all}
use Rattle.listing.specs.Ascii.{bytes}
use Rattle.listing.specs.Decimal.{digits, decimal}
use Rattle.listing.specs.Lines.{row, cabinets_line, stopped_line, table_lines}
use Rattle.listing.specs.Printing.{joined}
use Rattle.listing.proofs.Decimal.{decimal_short}
use Rattle.listing.proofs.Lengths.{cabinets_long, joined_append, joined_one}
use Rattle.run_list.specs.Text.{ending_lines}
use Rattle.run_list.proofs.Bound.{table_most}
use Rattle.short_lists_text.specs.Text.{name_of, numbers_of, spaced, event_text}
use Rattle.trace_text.specs.Words.{nodes_from, set_text, numbered, activity_text, shown_numbers, record_line, kind_text, carried_text, message_words, taken_line, sent_line}
use Rattle.trace_text.specs.Trace.{accepted_line, refused_step_line, changed_lines, taken_lines, sent_lines, detail_lines, answered_lines, step_lines, step_pieces, last_piece, pieces_from, trace_pieces}
use Rattle.trace_list.proofs.Compared.{node_itself}
use Rattle.exports_text.specs.Boundary.{TraceFits}

-- ── numbers and words ──

digits_most : (p x : ℕ) → length (digits p x) ≤ p
unfolding digits
digits_most zero x = omega arith
digits_most (suc p) x = let i = digits_most p (x / 10) in simp length-append (by_test (λ (l : List ℕ). length l + 1 ≤ suc p) (λ t. omega arith) (λ t. omega arith))

number_long : (x : ℕ) → length (decimal x) ≤ 20
unfolding decimal
number_long x = digits_most 20 x

spaced_long : (xs : List ℕ) → length (spaced xs) ≤ 21 * length xs
unfolding spaced
spaced_long [] = omega arith
spaced_long (x ∷ xs) = let d = number_long x in let i = spaced_long xs in simp length-append (omega arith)

row_long : (xs : List ℕ) → length (row xs) ≤ 21 * length xs + 1
unfolding row
row_long [] = omega arith
row_long (x ∷ xs) = let d = number_long x in let i = row_long xs in simp length-append (omega arith)

numbered_long : (w : List ℕ) (x : ℕ) → length (numbered w x) ≤ length w + 21
numbered_long w x = let i = spaced_long (x ∷ []) in simp length-append (omega arith)

-- ── a record ──

-- a node of a set has two digits
nodes_long : (k i s : ℕ) → i + k ≤ 100 → length (spaced (nodes_from k i s)) ≤ 3 * k
unfolding nodes_from spaced
nodes_long zero i s h = omega arith
nodes_long (suc k) i s h =
    let r = nodes_long k (i + 1) s (omega arith) in
    let d = decimal_short 2 {x = i} (omega arith) (omega arith) in
    by_test (λ (l : List ℕ). length (spaced (l ++ nodes_from k (i + 1) s)) ≤ 3 * suc k) (λ t. simp length-append (omega arith)) (λ t. omega arith)

set_long : (s : ℕ) → length (set_text s) ≤ 48
unfolding set_text
set_long s = by_test (λ (l : List ℕ). length l ≤ 48) (λ t. omega arith) (λ t. nodes_long 16 1 s (omega arith))

activity_long : (a : Activity) → length (activity_text a) ≤ 160
unfolding activity_text
activity_long Idle = omega arith
activity_long (Asking i f) = let x = numbered_long (bytes "asking") i in let y = set_long f in simp length-append (omega arith)
activity_long (Waiting t f) = let x = numbered_long (bytes "waiting ticks") t in let y = set_long f in simp length-append (omega arith)
activity_long (Inviting f g i) = let x = numbered_long (bytes "inviting") i in let y = set_long f in let z = set_long g in simp length-append (omega arith)
activity_long Collecting = omega arith
activity_long (Handing r i) = let x = numbered_long (bytes "handing") i in let y = set_long r in simp length-append (omega arith)
activity_long Contacting = omega arith
activity_long (Forwarding r i a k) =
    let x = numbered_long (bytes "forwarding") i in
    let y = set_long r in
    let z = numbered_long (bytes " caller") a in
    let w = numbered_long (bytes " call") k.number in
    simp length-append (omega arith)
activity_long (Accepting a k) = let z = numbered_long (bytes " caller") a in let w = numbered_long (bytes " call") k.number in simp length-append (omega arith)

record_long : (i : ℕ) (c : Node) → length (record_line i c) ≤ 320
unfolding record_line
record_long i c =
    let d = number_long i in
    let x = spaced_long (shown_numbers c) in
    let a = activity_long c.activity in
    simp length-append (omega arith)

changed_none : (i : ℕ) (cs : List Node) → changed_lines i cs cs ≡ []
unfolding changed_lines
changed_none i [] = refl
changed_none i (c ∷ cs) = rw (node_itself c, pick_true, changed_none (i + 1) cs)

changed_long : (i : ℕ) (cs : List Node) (j : ℕ) (x : Node) → length (joined (changed_lines i cs (set cs j x))) ≤ 320
unfolding changed_lines joined
changed_long i [] j x = omega arith
changed_long i (c ∷ cs) zero x =
    rw (changed_none (i + 1) cs, append-nil)
    (by_test (λ (l : List (List ℕ)). length (joined l) ≤ 320) (λ t. omega arith) (λ t. rw (joined_one (record_line i x)) (record_long i x)))
changed_long i (c ∷ cs) (suc j) x = rw (node_itself c, pick_true) (changed_long (i + 1) cs j x)

-- ── a message ──

kind_long : (k : ℕ) → length (kind_text k) ≤ 17
unfolding kind_text
kind_long k =
    by_test (λ (l : List ℕ). length l ≤ 17) (λ t. omega arith)
    (λ t. by_test (λ (l : List ℕ). length l ≤ 17) (λ t. omega arith)
    (λ t. by_test (λ (l : List ℕ). length l ≤ 17) (λ t. omega arith)
    (λ t. by_test (λ (l : List ℕ). length l ≤ 17) (λ t. omega arith)
    (λ t. by_test (λ (l : List ℕ). length l ≤ 17) (λ t. omega arith) (λ t. omega arith)))))

carried_long : (m : Message) → length (carried_text m) ≤ 60
unfolding carried_text
carried_long m =
    let g = numbered_long (bytes " group") m.group.number in
    let k = numbered_long (bytes " task") m.task.number in
    by_test (λ (l : List ℕ). length l ≤ 60) (λ t. omega arith)
    (λ t. by_test (λ (l : List ℕ). length l ≤ 60) (λ u. by_test (λ (l : List ℕ). length l ≤ 60) (λ v. omega arith) (λ v. omega arith))
    (λ u. rw length-append (by_test (λ (l : List ℕ). length (numbered (bytes " group") m.group.number) + length l ≤ 60) (λ v. omega arith) (λ v. omega arith))))

words_long : (m : Message) → length (message_words m) ≤ 160
unfolding message_words
words_long m =
    let a = number_long m.sender in
    let b = number_long m.receiver in
    let k = kind_long m.kind in
    let c = carried_long m in
    let n = numbered_long (bytes " call") m.call.number in
    simp length-append (omega arith)

taken_long : (m : Message) → length (joined (taken_line m ∷ [])) ≤ 170
unfolding taken_line
taken_long m = let w = words_long m in rw (joined_one (taken_line m)) (simp length-append (omega arith))

all_taken_long : (q : List Message) (v : Event) → length (joined (taken_lines q v)) ≤ 170
unfolding joined
all_taken_long q (Crash i) = omega arith
all_taken_long q (Recover i) = omega arith
all_taken_long q (Check i) = omega arith
all_taken_long q (Timeout i) = omega arith
all_taken_long q (Tick i) = omega arith
all_taken_long q (Expire i) = omega arith
all_taken_long q (Finish i t) = omega arith
all_taken_long q (Deliver a b) = taken_long (oldest a b q)
all_taken_long q (Lose a b) = taken_long (oldest a b q)

sent_long : (o : Option Message) → length (joined (sent_lines o)) ≤ 170
unfolding sent_line joined
sent_long None = omega arith
sent_long (Some m) = let w = words_long m in simp length-append (omega arith)

-- ── a step ──

name_long : (e : Event) → length (name_of e) ≤ 7
unfolding name_of
name_long (Crash i) = omega arith
name_long (Recover i) = omega arith
name_long (Check i) = omega arith
name_long (Timeout i) = omega arith
name_long (Tick i) = omega arith
name_long (Expire i) = omega arith
name_long (Finish i t) = omega arith
name_long (Deliver a b) = omega arith
name_long (Lose a b) = omega arith

numbers_few : (e : Event) → length (numbers_of e) ≤ 2
numbers_few (Crash i) = omega arith
numbers_few (Recover i) = omega arith
numbers_few (Check i) = omega arith
numbers_few (Timeout i) = omega arith
numbers_few (Tick i) = omega arith
numbers_few (Expire i) = omega arith
numbers_few (Finish i t) = omega arith
numbers_few (Deliver a b) = omega arith
numbers_few (Lose a b) = omega arith

event_long : (e : Event) → length (event_text e) ≤ 49
unfolding event_text
event_long e = let a = name_long e in let b = numbers_few e in let c = spaced_long (numbers_of e) in simp length-append (omega arith)

accepted_long : (e : ℕ) (v : Event) → length (accepted_line e v) ≤ 80
unfolding accepted_line
accepted_long e v = let d = number_long e in let t = event_long v in simp length-append (omega arith)

refused_long : (e : ℕ) (v : Event) (r : ℕ) → length (refused_step_line e v r) ≤ 100
unfolding refused_step_line
refused_long e v r = let d = number_long e in let t = event_long v in let x = row_long (r ∷ []) in simp length-append (omega arith)

details_long : (s : State) (v : Event) → length (joined (detail_lines s v (effect s v))) ≤ 660
unfolding effect
details_long s v =
    let x = changed_long 1 s.nodes (actor v - 1) (reaction_to s v).node in
    let y = all_taken_long s.queue v in
    let z = sent_long (reaction_to s v).outgoing in
    rw (
      joined_append (changed_lines 1 s.nodes (set s.nodes (actor v - 1) (reaction_to s v).node)) (taken_lines s.queue v ++ sent_lines (reaction_to s v).outgoing),
      joined_append (taken_lines s.queue v) (sent_lines (reaction_to s v).outgoing),
    ) (omega arith)

step_long : (s : State) (e : ℕ) (v : Event) → length (joined (step_lines s e v)) ≤ 1024
unfolding step_lines joined
step_long s e v = by (step s v) refl
  where
    by : (x : Result) → step s v ≡ x → length (joined (answered_lines s e v x)) ≤ 1024
    by (refused r) q = let i = refused_long e v r in rw (joined_one (refused_step_line e v r)) (omega arith)
    by (accepted u k) q =
        let a = accepted_long e v in
        let d = subst (λ (w : State). length (joined (detail_lines s v w)) ≤ 660) (sym (accepted_is s v u k q).state) (details_long s v) in
        rw length-append (omega arith)

steps_long : (s : State) (e : ℕ) (vs : List Event) → length (joined (step_pieces s e vs)) ≤ 1024 * length vs
unfolding step_pieces joined
steps_long s e [] = omega arith
steps_long s e (v ∷ vs) = let a = step_long s e v in let b = steps_long (after s v) (e + 1) vs in rw length-append (omega arith)

-- ── the whole ──

stopped_long : (b r : ℕ) → length (stopped_line b r) ≤ 50
unfolding stopped_line
stopped_long b r = let x = row_long (b ∷ r ∷ []) in simp length-append (omega arith)

ending_long : (x : Ending) → length (joined (ending_lines x)) ≤ 50
unfolding joined
ending_long complete = omega arith
ending_long (stopped b s) = rw (joined_one (stopped_line b (stop_number s))) (stopped_long b (stop_number s))

pub trace_fits : TraceFits
unfolding trace_pieces pieces_from
trace_fits l = by (first_of l) refl
  where
    by : (x : First) → x ≡ first_of l → length (joined (trace_pieces l)) ≤ 16778240
    by (Err s) i = let h = stopped_long 0 (stop_number s) in rw (reading_failed l i refl, joined_one (stopped_line 0 (stop_number s))) (omega arith)
    by (Ok (n, lim)) i =
        let g = first_good l i refl in
        let r = rest l 4 in
        let e = reads_all.few l 4 g.0 in
        let h = g.1 in
        let c = cabinets_long n (start_small n lim g.2) in
        let v = steps_long (start n lim) 1 r.events in
        let w = ending_long r.ending in
        let t = table_most (run n lim r.events) (stays_in_range.runs TwoPairs n lim g.2 r.events) in
        rw (
          reading_begun l i refl,
          joined_append (cabinets_line n ∷ []) (step_pieces (start n lim) 1 r.events ++ (last_piece (start n lim) r ∷ [])),
          joined_one (cabinets_line n),
          joined_append (step_pieces (start n lim) 1 r.events) (last_piece (start n lim) r ∷ []),
          joined_one (last_piece (start n lim) r),
          joined_append (ending_lines r.ending) (table_lines (run_from (start n lim) r.events)),
        ) (omega arith)
