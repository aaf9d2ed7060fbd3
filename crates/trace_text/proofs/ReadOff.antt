-- The bench's text is read off the run step by step: a line of the trace alone is read as nothing, that of a refused event as the bench's, and all others as they are.
use Prim.Native.Nat.{ℕ, ◌+◌, ◌-◌, ◌≤◌}
use native.Mathlib.Omega.{arith}
use mathlib.Core.Bool.{Bool, true, false, ◌&&◌}
use mathlib.Core.Path.{◌≡◌, refl, sym, ◌∙◌, ap}
use mathlib.Core.List.{List, [], ◌∷◌, ◌++◌, append_assoc, append-nil, map}
use lib.Dec.{eqb}
use lib.ListN.{length, get_or, length-append}
use lib.Seq.{get_or-append_seam, get_or-append-add}
use borrow.Author.Tests.{ne_eqb}
use Rattle.std.specs.Prelude.{Option, None, Some}
use Rattle.model.specs.Pick.{pick, by_test}
use Rattle.model.specs.State.{State, start, oldest}
use Rattle.model.specs.Grounds.{Ground, judged}
use Rattle.model.specs.Step.{reaction_to, effect, grounds, Result, refused, accepted, step, after, run_from}
use Rattle.model.specs.Answers.{result_number}
use Rattle.model.specs.declared.Node.{Node}
use Rattle.model.specs.declared.Message.{Message}
use Rattle.model.specs.declared.Mark.{Mark}
use Rattle.model.specs.declared.Event.{Event}
use Rattle.model.specs.declared.Event.TheVariants.{Crash, Recover, Check, Timeout, Tick, Expire, Finish, Deliver, Lose}
use Rattle.model.proofs.Local.{both_left, both_right}
use Rattle.event_list.specs.Format.{stop_number, Ending, complete, stopped, Reading, Listed, failed, begun, reading}
use Rattle.listing.specs.Ascii.{bytes}
use Rattle.listing.specs.Decimal.{decimal}
use Rattle.listing.specs.Lines.{row, cabinets_line, refused_line, stopped_line, node_line, messages_line, sent_word, delivered_word, lost_word, total_line, total_lines, node_lines, table_lines}
use Rattle.listing.specs.Printing.{joined}
use Rattle.listing.proofs.Parted.{Each, each_append}
use Rattle.short_lists_text.specs.Text.{name_of, numbers_of, spaced, event_text}
use Rattle.list_text.specs.Words.{same}
use Rattle.run_list.specs.Text.{note_lines, refused_lines, ending_lines, run_lines, listed_lines, lines_with}
use Rattle.trace_text.specs.Words.{record_line, same_node, taken_line, sent_line}
use Rattle.trace_text.specs.Trace.{accepted_line, refused_step_line, changed_lines, taken_lines, sent_lines, detail_lines, answered_lines, step_lines, step_pieces, last_piece, pieces_from, listed_pieces, trace_pieces}
use Rattle.trace_text.specs.ReadOff.{parts_at, words_of, is_letter, read_event, read_words, read_line, read_lines, read_off}
use Rattle.trace_text.specs.Claims.{BenchReadOff}
use Rattle.trace_text.proofs.Records.{row_spaced}
use Rattle.trace_text.proofs.Plain.{Indented, record_indented, taken_indented, sent_indented}
use Rattle.trace_text.proofs.Parts.{Not, parts_behind, parts_end, lacks, each_not, decimal_not, decimal_some, decimal_begins, number_no_letter, spaced_not, spaced_words}

-- ── pieces of text ──

-- y is what is read off the piece x, whatever follows
abbrev Reads : List ℕ → List ℕ → Type 0
Reads x y = (t : List ℕ) → read_off (x ++ t) ≡ y ++ read_off t

reads_append : (a b x y : List ℕ) → Reads a x → Reads b y → Reads (a ++ b) (x ++ y)
reads_append a b x y f g t =
    ap read_off (append_assoc a b t) ∙ f (b ++ t) ∙ ap (λ (l : List ℕ). x ++ l) (g t) ∙ sym (append_assoc x y (read_off t))

-- the line x, which is s and its end
reads_line : (x s y : List ℕ) → x ≡ s ++ (10 ∷ []) → Each (Not 10) s → read_line s ≡ y → Reads x y
unfolding read_off read_lines
reads_line x s y q h e t =
    ap (λ (l : List ℕ). read_off (l ++ t)) q
    ∙ ap read_off (append_assoc s (10 ∷ []) t)
    ∙ ap read_lines (parts_behind 10 s t h)
    ∙ ap (λ (l : List ℕ). l ++ read_off t) e

joined_append : (xs ys : List (List ℕ)) → joined (xs ++ ys) ≡ joined xs ++ joined ys
unfolding joined
joined_append [] ys = refl
joined_append (x ∷ xs) ys = ap (λ (l : List ℕ). x ++ l) (joined_append xs ys) ∙ sym (append_assoc x (joined xs) (joined ys))

-- nothing is read off these lines
abbrev Silent : List ℕ → Type 0
Silent x = Reads x []

reads_silent : (xs : List (List ℕ)) → Each Silent xs → Silent (joined xs)
unfolding joined
reads_silent [] h = λ t. refl
reads_silent (x ∷ xs) h = reads_append x (joined xs) [] [] h.0 (reads_silent xs h.1)

-- these are read as they are
abbrev Bench : List ℕ → Type 0
Bench x = Reads x x

reads_bench : (xs : List (List ℕ)) → Each Bench xs → Bench (joined xs)
unfolding joined
reads_bench [] h = λ t. refl
reads_bench (x ∷ xs) h = reads_append x (joined xs) x (joined xs) h.0 (reads_bench xs h.1)

-- ── the bench's lines ──

-- A word and a number behind it, and more.
word_read : (w : List ℕ) (x : ℕ) (t : List ℕ) → 1 ≤ length w → Each (Not 32) w → read_line (w ++ (32 ∷ (decimal x ++ t))) ≡ (w ++ (32 ∷ (decimal x ++ t))) ++ (10 ∷ [])
unfolding read_words pick
word_read w x t h a = rw (parts_behind 32 w (decimal x ++ t) a, ne_eqb (length w) 0 (λ e. omega arith), number_no_letter x t)

bench_row : (w : List ℕ) (x : ℕ) (xs : List ℕ) → 1 ≤ length w → Each (Not 32) w → Each (Not 10) w → Bench (w ++ row (x ∷ xs))
unfolding spaced
bench_row w x xs h a b =
    let q : w ++ row (x ∷ xs) ≡ (w ++ spaced (x ∷ xs)) ++ (10 ∷ []) = ap (λ (l : List ℕ). w ++ l) (row_spaced (x ∷ xs)) ∙ sym (append_assoc w (spaced (x ∷ xs)) (10 ∷ [])) in
    reads_line (w ++ row (x ∷ xs)) (w ++ spaced (x ∷ xs)) (w ++ row (x ∷ xs)) q (each_append (Not 10) w (spaced (x ∷ xs)) b (spaced_not (x ∷ xs))) (word_read w x (spaced xs) h a ∙ sym q)

bench_word : (w : List ℕ) (x : ℕ) (xs : List ℕ) → 1 ≤ length w → lacks 32 w ≡ true → lacks 10 w ≡ true → Bench (w ++ row (x ∷ xs))
bench_word w x xs h a b = bench_row w x xs h (each_not 32 w a) (each_not 10 w b)

cabinets_bench : (n : ℕ) → Bench (cabinets_line n)
unfolding cabinets_line
cabinets_bench n = bench_word (bytes "cabinets") n [] (omega arith) refl refl

stopped_bench : (b r : ℕ) → Bench (stopped_line b r)
unfolding stopped_line
stopped_bench b r = bench_word (bytes "stopped") b (r ∷ []) (omega arith) refl refl

node_bench : (i : ℕ) (c : Node) → Bench (node_line i c)
unfolding node_line
node_bench i c = bench_row (decimal i) _ _ (decimal_some i) (decimal_not 32 i (omega arith)) (decimal_not 10 i (omega arith))

messages_bench : (k : ℕ) → Bench (messages_line k)
unfolding messages_line
messages_bench k = bench_word (bytes "messages") k [] (omega arith) refl refl

total_bench : (w : List ℕ) (x : ℕ) → 1 ≤ length w → lacks 32 w ≡ true → lacks 10 w ≡ true → Bench (total_line w x)
unfolding total_line
total_bench w x h a b = bench_word w x [] h a b

totals_bench : (s : State) → Each Bench (total_lines s)
unfolding total_lines
totals_bench s = (total_bench sent_word _ (omega arith) refl refl, (total_bench delivered_word _ (omega arith) refl refl, (total_bench lost_word _ (omega arith) refl refl, tt)))

nodes_bench : (i : ℕ) (cs : List Node) → Each Bench (node_lines i cs)
unfolding node_lines
nodes_bench i [] = tt
nodes_bench i (c ∷ cs) = (node_bench i c, nodes_bench (i + 1) cs)

table_bench : (s : State) → Each Bench (table_lines s)
unfolding table_lines
table_bench s = each_append Bench (node_lines 1 s.nodes) _ (nodes_bench 1 s.nodes) (messages_bench (length s.queue), totals_bench s)

ending_bench : (x : Ending) → Each Bench (ending_lines x)
ending_bench complete = tt
ending_bench (stopped b s) = (stopped_bench b (stop_number s), tt)

-- ── the trace's own lines ──

indented_silent : (x : List ℕ) → Indented x → Silent x
unfolding read_words parts_at pick
indented_silent x p =
    let l = p.line in
    reads_line x (32 ∷ l.body) [] (p.starts ∙ ap (λ (s : List ℕ). 32 ∷ s) l.ends) (λ e. omega arith, l.inside) refl

pick_silent : (t : Bool) (xs : List (List ℕ)) → Each Silent xs → Each Silent (pick t [] xs)
unfolding pick
pick_silent true xs h = tt
pick_silent false xs h = h

changed_silent : (i : ℕ) (cs ds : List Node) → Each Silent (changed_lines i cs ds)
unfolding changed_lines
changed_silent i [] ds = tt
changed_silent i (c ∷ cs) [] = tt
changed_silent i (c ∷ cs) (d ∷ ds) =
    each_append Silent (pick (same_node c d) [] (record_line i d ∷ [])) (changed_lines (i + 1) cs ds)
    (pick_silent (same_node c d) (record_line i d ∷ []) (indented_silent (record_line i d) (record_indented i d), tt)) (changed_silent (i + 1) cs ds)

taken_silent : (q : List Message) (v : Event) → Each Silent (taken_lines q v)
taken_silent q (Crash i) = tt
taken_silent q (Recover i) = tt
taken_silent q (Check i) = tt
taken_silent q (Timeout i) = tt
taken_silent q (Tick i) = tt
taken_silent q (Expire i) = tt
taken_silent q (Finish i t) = tt
taken_silent q (Deliver a b) = (indented_silent (taken_line (oldest a b q)) (taken_indented (oldest a b q)), tt)
taken_silent q (Lose a b) = (indented_silent (taken_line (oldest a b q)) (taken_indented (oldest a b q)), tt)

sent_silent : (o : Option Message) → Each Silent (sent_lines o)
sent_silent None = tt
sent_silent (Some m) = (indented_silent (sent_line m) (sent_indented m), tt)

detail_silent : (s : State) (v : Event) (u : State) → Each Silent (detail_lines s v u)
detail_silent s v u =
    each_append Silent (changed_lines 1 s.nodes u.nodes) _ (changed_silent 1 s.nodes u.nodes)
    (each_append Silent (taken_lines s.queue v) (sent_lines (reaction_to s v).outgoing) (taken_silent s.queue v) (sent_silent (reaction_to s v).outgoing))

-- ── the line of an event ──

-- its name is a word that starts with a letter
name_tests : (v : Event) → lacks 32 (name_of v) && (lacks 10 (name_of v) && is_letter (get_or (name_of v) 0 0)) ≡ true
unfolding name_of
name_tests (Crash i) = refl
name_tests (Recover i) = refl
name_tests (Check i) = refl
name_tests (Timeout i) = refl
name_tests (Tick i) = refl
name_tests (Expire i) = refl
name_tests (Finish i t) = refl
name_tests (Deliver a b) = refl
name_tests (Lose a b) = refl

name_word : (v : Event) → Each (Not 32) (name_of v)
name_word v = each_not 32 (name_of v) (both_left (lacks 32 (name_of v)) _ (name_tests v))

name_letter : (v : Event) → is_letter (get_or (name_of v) 0 0) ≡ true
name_letter v = both_right (lacks 10 (name_of v)) _ (both_right (lacks 32 (name_of v)) _ (name_tests v))

event_not : (v : Event) → Each (Not 10) (event_text v)
unfolding event_text
event_not v = each_append (Not 10) (name_of v) (spaced (numbers_of v)) (each_not 10 (name_of v) (both_left (lacks 10 (name_of v)) _ (both_right (lacks 32 (name_of v)) _ (name_tests v)))) (spaced_not (numbers_of v))

-- the line of event e, which is v, with t behind the event
abbrev event_body : ℕ → Event → List ℕ → List ℕ
event_body e v t = decimal e ++ (32 ∷ (event_text v ++ (32 ∷ t)))

body_not : (e : ℕ) (v : Event) (t : List ℕ) → Each (Not 10) t → Each (Not 10) (event_body e v t)
body_not e v t h =
    each_append (Not 10) (decimal e) (32 ∷ (event_text v ++ (32 ∷ t))) (decimal_not 10 e (omega arith))
    (λ q. omega arith, each_append (Not 10) (event_text v) (32 ∷ t) (event_not v) (λ q. omega arith, h))

body_words : (e : ℕ) (v : Event) (t : List ℕ) → words_of (event_body e v t) ≡ decimal e ∷ name_of v ∷ (map decimal (numbers_of v) ++ words_of t)
unfolding event_text
body_words e v t =
    parts_behind 32 (decimal e) (event_text v ++ (32 ∷ t)) (decimal_not 32 e (omega arith))
    ∙ ap (λ (l : List (List ℕ)). decimal e ∷ l) (spaced_words (name_of v) (numbers_of v) t (name_word v))

event_read : (s : List ℕ) (e : ℕ) (v : Event) (ws : List (List ℕ)) → read_words s (decimal e ∷ name_of v ∷ ws) ≡ read_event (decimal e ∷ name_of v ∷ ws)
unfolding read_words pick
event_read s e v ws = let h = decimal_some e in rw (ne_eqb (length (decimal e)) 0 (λ q. omega arith), name_letter v)

-- the words behind the event being ws
body_read : (e : ℕ) (v : Event) (t : List ℕ) (ws : List (List ℕ)) → words_of t ≡ ws → read_line (event_body e v t) ≡ read_event (decimal e ∷ name_of v ∷ (map decimal (numbers_of v) ++ ws))
body_read e v t ws q =
    ap (read_words (event_body e v t)) (body_words e v t ∙ ap (λ (l : List (List ℕ)). decimal e ∷ name_of v ∷ (map decimal (numbers_of v) ++ l)) q)
    ∙ event_read (event_body e v t) e v (map decimal (numbers_of v) ++ ws)

-- ── a refused event ──

refused_words : (a : List ℕ) (ds : List (List ℕ)) (q : List ℕ) → read_event (a ∷ (ds ++ (bytes "refused" ∷ q ∷ []))) ≡ bytes "refused " ++ (a ++ (bytes " " ++ (q ++ bytes "\n")))
unfolding read_event same pick
refused_words a ds q =
    let l = length-append ds (bytes "refused" ∷ q ∷ []) in
    let i : length (a ∷ (ds ++ (bytes "refused" ∷ q ∷ []))) - 2 ≡ length (a ∷ ds) = omega arith in
    let j : length (a ∷ (ds ++ (bytes "refused" ∷ q ∷ []))) - 1 ≡ length (a ∷ ds) + 1 = omega arith in
    let m : get_or (a ∷ (ds ++ (bytes "refused" ∷ q ∷ []))) (length (a ∷ ds)) [] ≡ bytes "refused" = get_or-append_seam (a ∷ ds) (bytes "refused") (q ∷ []) [] in
    let n : get_or (a ∷ (ds ++ (bytes "refused" ∷ q ∷ []))) (length (a ∷ ds) + 1) [] ≡ q = get_or-append-add (a ∷ ds) (bytes "refused" ∷ q ∷ []) 1 [] in
    rw (i, j, m, n)

refused_end : (e : ℕ) (v : Event) (r : ℕ) → refused_step_line e v r ≡ event_body e v (bytes "refused" ++ (32 ∷ decimal r)) ++ (10 ∷ [])
unfolding refused_step_line row
refused_end e v r =
    sym (append_assoc (decimal e) (32 ∷ (event_text v ++ (32 ∷ (bytes "refused" ++ (32 ∷ decimal r))))) (10 ∷ [])
    ∙ ap (λ (l : List ℕ). decimal e ++ (32 ∷ l)) (append_assoc (event_text v) (32 ∷ (bytes "refused" ++ (32 ∷ decimal r))) (10 ∷ [])))

refused_reads : (e : ℕ) (v : Event) (r : ℕ) → Reads (refused_step_line e v r) (refused_line e r)
unfolding refused_line row
refused_reads e v r =
    let t : List ℕ = bytes "refused" ++ (32 ∷ decimal r) in
    let h : Each (Not 10) t = each_append (Not 10) (bytes "refused ") (decimal r) (each_not 10 (bytes "refused ") refl) (decimal_not 10 r (omega arith)) in
    let w : words_of t ≡ bytes "refused" ∷ decimal r ∷ [] = parts_behind 32 (bytes "refused") (decimal r) (each_not 32 (bytes "refused") refl) ∙ ap (λ (l : List (List ℕ)). bytes "refused" ∷ l) (parts_end 32 (decimal r) (decimal_not 32 r (omega arith))) in
    reads_line (refused_step_line e v r) (event_body e v t) (refused_line e r) (refused_end e v r) (body_not e v t h)
    (body_read e v t (bytes "refused" ∷ decimal r ∷ []) w ∙ refused_words (decimal e) (name_of v ∷ map decimal (numbers_of v)) (decimal r))

-- ── an accepted event ──

number_other : (x : ℕ) → same (decimal x) (bytes "refused") ≡ false
unfolding same
number_other x =
    let p = decimal_begins x in
    let d = p.digit in
    rw (p.whole, ne_eqb p.first 114 (λ e. omega arith))

accepted_one : (a w : List ℕ) (x : ℕ) → read_event (a ∷ w ∷ decimal x ∷ bytes "accepted" ∷ []) ≡ []
unfolding read_event pick
accepted_one a w x = rw (number_other x)

accepted_two : (a w u : List ℕ) (x : ℕ) → read_event (a ∷ w ∷ u ∷ decimal x ∷ bytes "accepted" ∷ []) ≡ []
unfolding read_event pick
accepted_two a w u x = rw (number_other x)

accepted_words : (a : List ℕ) (v : Event) → read_event (a ∷ name_of v ∷ (map decimal (numbers_of v) ++ (bytes "accepted" ∷ []))) ≡ []
accepted_words a (Crash i) = accepted_one a _ i
accepted_words a (Recover i) = accepted_one a _ i
accepted_words a (Check i) = accepted_one a _ i
accepted_words a (Timeout i) = accepted_one a _ i
accepted_words a (Tick i) = accepted_one a _ i
accepted_words a (Expire i) = accepted_one a _ i
accepted_words a (Finish i t) = accepted_two a _ _ t.number
accepted_words a (Deliver x y) = accepted_two a _ _ y
accepted_words a (Lose x y) = accepted_two a _ _ y

accepted_end : (e : ℕ) (v : Event) → accepted_line e v ≡ event_body e v (bytes "accepted") ++ (10 ∷ [])
unfolding accepted_line
accepted_end e v =
    sym (append_assoc (decimal e) (32 ∷ (event_text v ++ (32 ∷ bytes "accepted"))) (10 ∷ [])
    ∙ ap (λ (l : List ℕ). decimal e ++ (32 ∷ l)) (append_assoc (event_text v) (32 ∷ bytes "accepted") (10 ∷ [])))

accepted_silent : (e : ℕ) (v : Event) → Silent (accepted_line e v)
accepted_silent e v =
    reads_line (accepted_line e v) (event_body e v (bytes "accepted")) [] (accepted_end e v) (body_not e v (bytes "accepted") (each_not 10 (bytes "accepted") refl))
    (body_read e v (bytes "accepted") (bytes "accepted" ∷ []) (parts_end 32 (bytes "accepted") (each_not 32 (bytes "accepted") refl)) ∙ accepted_words (decimal e) v)

-- ── a step ──

-- a refusal has a number
module _ (P : Result → Type 0) (x : Result) (f : (r : ℕ) → eqb r 0 ≡ false → P (refused r)) (g : P x) where
  judged_some : (gs : List Ground) → Each (λ (h : Ground). eqb h.number 0 ≡ false) gs → P (judged refused x gs)
  unfolding judged
  judged_some [] a = g
  judged_some (h ∷ gs) a = by_test P (λ _. f h.number a.0) (λ _. judged_some gs a.1)

by_answer : (P : Result → Type 0) (s : State) (v : Event) → ((r : ℕ) → eqb r 0 ≡ false → P (refused r)) → ((u : State) (k : Mark) → P (accepted u k)) → P (step s v)
unfolding step grounds
by_answer P s v f g =
    judged_some P (accepted (effect s v) (reaction_to s v).mark) f (g (effect s v) (reaction_to s v).mark) (grounds s v)
    (refl, (refl, (refl, (refl, (refl, (refl, (refl, (refl, (refl, (refl, (refl, (refl, tt))))))))))))

refused_step : (e : ℕ) (v : Event) (r : ℕ) → eqb r 0 ≡ false → Reads (joined (refused_step_line e v r ∷ [])) (joined (note_lines e r))
unfolding joined note_lines pick
refused_step e v r h = rw h (reads_append (refused_step_line e v r) [] (refused_line e r) [] (refused_reads e v r) (λ t. refl))

accepted_step : (s : State) (e : ℕ) (v : Event) (u : State) → Reads (joined (accepted_line e v ∷ detail_lines s v u)) (joined (note_lines e 0))
unfolding joined note_lines pick
accepted_step s e v u = reads_silent (accepted_line e v ∷ detail_lines s v u) (accepted_silent e v, detail_silent s v u)

step_reads : (s : State) (e : ℕ) (v : Event) → Reads (joined (step_lines s e v)) (joined (note_lines e (result_number (step s v))))
unfolding step_lines
step_reads s e v = by_answer (λ (x : Result). Reads (joined (answered_lines s e v x)) (joined (note_lines e (result_number x)))) s v (refused_step e v) (λ u k. accepted_step s e v u)

-- ── the text ──

steps_read : (s : State) (e : ℕ) (vs : List Event) → Reads (joined (step_pieces s e vs)) (joined (refused_lines s e vs))
unfolding step_pieces refused_lines joined
steps_read s e [] = λ t. refl
steps_read s e (v ∷ vs) =
    rw (joined_append (note_lines e (result_number (step s v))) (refused_lines (after s v) (e + 1) vs))
    (reads_append (joined (step_lines s e v)) (joined (step_pieces (after s v) (e + 1) vs)) (joined (note_lines e (result_number (step s v)))) (joined (refused_lines (after s v) (e + 1) vs)) (step_reads s e v) (steps_read (after s v) (e + 1) vs))

-- "at the end the bench's table", as one piece
last_read : (s : State) (r : Reading) → Bench (last_piece s r)
last_read s r =
    reads_bench (ending_lines r.ending ++ table_lines (run_from s r.events))
    (each_append Bench (ending_lines r.ending) (table_lines (run_from s r.events)) (ending_bench r.ending) (table_bench (run_from s r.events)))

run_reads : (s : State) (e : ℕ) (r : Reading) → Reads (joined (pieces_from s e r)) (joined (run_lines s e r))
unfolding pieces_from joined
run_reads s e r =
    rw (joined_append (step_pieces s e r.events) (last_piece s r ∷ []), joined_append (refused_lines s e r.events) (ending_lines r.ending ++ table_lines (run_from s r.events)), append-nil (last_piece s r))
    (reads_append (joined (step_pieces s e r.events)) (last_piece s r) (joined (refused_lines s e r.events)) (last_piece s r) (steps_read s e r.events) (last_read s r))

listed_reads : (x : Listed) → Reads (joined (listed_pieces x)) (joined (listed_lines table_lines x))
unfolding joined
listed_reads (failed s) = reads_bench (stopped_line 0 (stop_number s) ∷ []) (stopped_bench 0 (stop_number s), tt)
listed_reads (begun n lim r) = reads_append (cabinets_line n) (joined (pieces_from (start n lim) 1 r)) (cabinets_line n) (joined (run_lines (start n lim) 1 r)) (cabinets_bench n) (run_reads (start n lim) 1 r)

-- where the text ends, nothing is left
whole_read : (x y : List ℕ) → Reads x y → read_off x ≡ y
unfolding read_off read_lines read_words parts_at pick
whole_read x y f = ap read_off (sym (append-nil x)) ∙ f [] ∙ append-nil y

pub bench_read_off : BenchReadOff
unfolding trace_pieces lines_with
bench_read_off l = whole_read (joined (listed_pieces (reading l))) (joined (listed_lines table_lines (reading l))) (listed_reads (reading l))
