-- What a printed text tells. Its lines can be told from its bytes, and each line's kind from its first byte: a table's are at most 109, that of `refused` is 114, that of `stopped` 115.
use Prim.Native.Nat.{ℕ, zero, suc, ◌+◌, ◌^◌, ◌≤◌, ◌<◌}
use native.Mathlib.Omega.{arith}
use mathlib.Core.Path.{◌≡◌, refl, sym, ◌∙◌, ap, subst}
use mathlib.Core.Bool.{Bool, true, false}
use mathlib.Core.List.{List, [], ◌∷◌, ◌++◌, map, append_assoc, head-eq_of_cons-eq, tail-eq_of_cons-eq}
use lib.ListN.{length, get_or}
use lib.Dec.{eqb}
use Rattle.model.specs.Pick.{pick, by_test}
use Rattle.model.specs.State.{State, start}
use Rattle.model.specs.Step.{step, after, run_from, run}
use Rattle.model.specs.Answers.{result_number}
use Rattle.model.specs.Range.{TwoPairs}
use Rattle.model.specs.declared.Limits.{Limits}
use Rattle.model.specs.declared.Event.{Event}
use Rattle.model.specs.declared.Node.{Node}
use Rattle.model.proofs.InRange.{start_small, stays_in_range}
use Rattle.event_list.specs.declared.Stop.{Stop}
use Rattle.event_list.specs.declared.Stop.TheVariants.{TooLong, CutShort, WrongTag, WrongLength, WrongCount}
use Rattle.std.specs.Prelude.{Ok, Err}
use Rattle.event_list.specs.Format.{First, stop_number, first_of, Ending, complete, stopped, Reading, failed, begun, reading, rest}
use Rattle.event_list.proofs.Reading.{reading_failed, reading_begun, first_good, reads_all}
use Rattle.listing.specs.Lines.{cabinets_line, refused_line, stopped_line, messages_line, node_lines, table_lines, total_lines}
use Rattle.listing.specs.Printing.{joined}
use Rattle.listing.proofs.Parted.{Each, Stops, each_map, each_append, parted, IsLine, joined_same}
use Rattle.listing.proofs.Claims.{lines_determine, cabinets_line_lem, refused_line_lem, stopped_line_lem, table_lines_lem, table_same, table_small, node_low}
use Rattle.run_list.specs.Text.{note_lines, refused_lines, ending_lines, run_lines, lines_with, text_of}
use Rattle.run_list.specs.Shows.{Refusal, refusals, SameText, TextDetermines}
use Rattle.model.proofs.Refusals.{result_small}
use Rattle.run_list.proofs.Bound.{stop_small}
use Rattle.run_list.proofs.Behind.{behind}

abbrev Small : ℕ → Type 0
Small x = x < 2 ^ 32

-- ── the numbers of refusals ──

stop_same : (a b : Stop) → stop_number a ≡ stop_number b → a ≡ b
stop_same a b e = sym (back a) ∙ ap (λ (n : ℕ). of n) e ∙ back b
  where
    of : ℕ → Stop
    of zero = TooLong
    of (suc zero) = TooLong
    of (suc (suc zero)) = TooLong
    of (suc (suc (suc zero))) = CutShort
    of (suc (suc (suc (suc zero)))) = WrongTag
    of (suc (suc (suc (suc (suc zero))))) = WrongLength
    of (suc (suc (suc (suc (suc (suc n)))))) = WrongCount

    back : (s : Stop) → of (stop_number s) ≡ s
    back TooLong = refl
    back CutShort = refl
    back WrongTag = refl
    back WrongLength = refl
    back WrongCount = refl

-- ── refused events ──

abbrev noted : Refusal → List ℕ
noted x = refused_line x.event x.number

abbrev SmallRefusal : Refusal → Type 0
SmallRefusal x = Small x.event × Small x.number

refused_map : (s : State) (e : ℕ) (vs : List Event) → refused_lines s e vs ≡ map noted (refusals s e vs)
unfolding refused_lines refusals note_lines pick
refused_map s e [] = refl
refused_map s e (v ∷ vs) = by (eqb (result_number (step s v)) 0) _ (refused_map (after s v) (e + 1) vs)
  where
    by : (t : Bool) {x : List (List ℕ)} (y : List Refusal) → x ≡ map noted y →
        pick t [] (refused_line e (result_number (step s v)) ∷ []) ++ x ≡ map noted (pick t [] (record { event = e; number = result_number (step s v) } ∷ []) ++ y)
    by true y h = h
    by false y h = ap (λ (l : List (List ℕ)). refused_line e (result_number (step s v)) ∷ l) h

refusals_small : (s : State) (e : ℕ) (vs : List Event) → e + length vs < 2 ^ 32 → Each SmallRefusal (refusals s e vs)
unfolding refusals
refusals_small s e [] h = tt
refusals_small s e (v ∷ vs) h =
    let later = refusals_small (after s v) (e + 1) vs (omega arith) in
    let small = result_small s v in
    by_test (λ (l : List Refusal). Each SmallRefusal (l ++ refusals (after s v) (e + 1) vs)) (λ t. later) (λ t. ((omega arith, omega arith), later))

same_refusal : (x y : Refusal) → (x.event ≡ y.event) × (x.number ≡ y.number) → x ≡ y
same_refusal x y e = λ i. record { event = e.0 i; number = e.1 i }

map_same : (a b : List Refusal) → Each SmallRefusal a → Each SmallRefusal b → map noted a ≡ map noted b → a ≡ b
map_same [] [] f g e = refl
map_same [] (y ∷ b) f g e = let z : ◌≡◌ {A = ℕ} 0 1 = cc in absurd (omega arith)
map_same (x ∷ a) [] f g e = let z : ◌≡◌ {A = ℕ} 0 1 = cc in absurd (omega arith)
map_same (x ∷ a) (y ∷ b) f g e =
    let h = same_refusal x y (lines_determine.refused _ _ _ _ f.0.0 f.0.1 g.0.0 g.0.1 (head-eq_of_cons-eq e)) in
    let t = map_same a b f.1 g.1 (tail-eq_of_cons-eq e) in
    rw (h, t)

-- ── lines by their first byte ──

abbrev Refuses : List ℕ → Type 0
Refuses x = get_or x 0 0 ≡ 114

-- `refused` and `stopped`
abbrev High : List ℕ → Type 0
High x = 110 ≤ get_or x 0 0

map_refuses : (a : List Refusal) → Each Refuses (map noted a)
unfolding refused_line
map_refuses [] = tt
map_refuses (x ∷ a) = (refl, map_refuses a)

map_lines : (a : List Refusal) → Each IsLine (map noted a)
map_lines [] = tt
map_lines (x ∷ a) = (refused_line_lem x.event x.number, map_lines a)

ending_stops : (x : Ending) → Stops Refuses (ending_lines x)
unfolding stopped_line
ending_stops complete = tt
ending_stops (stopped b s) = λ e. omega arith

ending_high : (x : Ending) → Each High (ending_lines x)
unfolding stopped_line
ending_high complete = tt
ending_high (stopped b s) = (omega arith, tt)

ending_lines_lem : (x : Ending) → Each IsLine (ending_lines x)
ending_lines_lem complete = tt
ending_lines_lem (stopped b s) = (stopped_line_lem b (stop_number s), tt)

table_low : (s : State) → Stops High (table_lines s)
unfolding table_lines node_lines messages_line
table_low s = by s.nodes
  where
    by : (cs : List Node) → Stops High (node_lines 1 cs ++ (messages_line (length s.queue) ∷ total_lines s))
    by [] = λ e. omega arith
    by (c ∷ cs) = λ e. let h = node_low 1 c in omega arith

abbrev SmallEnding : Ending → Type 0
SmallEnding complete = Unit {0}
SmallEnding (stopped b s) = Small b

ending_same : (x y : Ending) → SmallEnding x → SmallEnding y → ending_lines x ≡ ending_lines y → x ≡ y
ending_same complete complete f g e = refl
ending_same complete (stopped b s) f g e = let z : ◌≡◌ {A = ℕ} 0 1 = cc in absurd (omega arith)
ending_same (stopped b s) complete f g e = let z : ◌≡◌ {A = ℕ} 0 1 = cc in absurd (omega arith)
ending_same (stopped b s) (stopped c t) f g e =
    let i = stop_small s in
    let j = stop_small t in
    let r = lines_determine.stopped b (stop_number s) c (stop_number t) f (omega arith) g (omega arith) (head-eq_of_cons-eq e) in
    let h = stop_same s t r.1 in
    rw (r.0, h)

-- ── the whole ──

-- the sizes of what a list says behind its first field
record Sized (r : Reading) : Type 0 where
  pub few : length r.events ≤ 65536
  pub ending : SmallEnding r.ending

small_ending : (m : ℕ) (x : Ending) → m ≤ 65536 → ((b : ℕ) (s : Stop) → x ≡ stopped b s → b < m) → SmallEnding x
small_ending m complete h f = tt
small_ending m (stopped b s) h f = let k = f b s refl in omega arith

begun_sized : (l : List ℕ) (n : ℕ) (lim : Limits) (r : Reading) → reading l ≡ begun n lim r → Sized r
begun_sized l n lim r e = by (first_of l) refl
  where
    by : (x : First) → x ≡ first_of l → Sized r
    by (Err s) i = let f = reading_failed l i refl in let z : ◌≡◌ {A = ℕ} 0 1 = cc in absurd (omega arith)
    by (Ok (m, j)) i =
        let g = first_good l i refl in
        let f = reading_begun l i refl in
        let k : rest l 4 ≡ r = cc in
        let c = reads_all.few l 4 g.0 in
        subst Sized k (record { few = omega arith; ending = small_ending (length l) (rest l 4).ending g.1 (reads_all.before l 4) })

run_parts : (s : State) (e : ℕ) (r : Reading) → run_lines s e r ≡ (map noted (refusals s e r.events) ++ ending_lines r.ending) ++ table_lines (run_from s r.events)
run_parts s e r =
    ap (λ (l : List (List ℕ)). l ++ (ending_lines r.ending ++ table_lines (run_from s r.events))) (refused_map s e r.events)
    ∙ sym (append_assoc (map noted (refusals s e r.events)) (ending_lines r.ending) (table_lines (run_from s r.events)))

run_lines_lem : (s : State) (e : ℕ) (r : Reading) → Each IsLine (run_lines s e r)
run_lines_lem s e r =
    rw (run_parts s e r)
    (each_append IsLine (map noted (refusals s e r.events) ++ ending_lines r.ending) _
    (each_append IsLine (map noted (refusals s e r.events)) _ (map_lines (refusals s e r.events)) (ending_lines_lem r.ending))
    (table_lines_lem (run_from s r.events)))

-- refused events and a stop, before a table
noted_high : (a : List Refusal) (x : Ending) → Each High (map noted a ++ ending_lines x)
noted_high a x = each_append High (map noted a) (ending_lines x) (each_map Refuses High (λ y h. omega arith) (map noted a) (map_refuses a)) (ending_high x)

read_same : (l k : List ℕ) (n m : ℕ) (x x' : Limits) (r q : Reading) → reading l ≡ begun n x r → reading k ≡ begun m x' q → text_of l ≡ text_of k → SameText n x r m x' q
read_same l k n m x x' r q e f t =
    let b = behind l n x r e in
    let c = behind k m x' q f in
    let g = begun_sized l n x r e in
    let h = begun_sized k m x' q f in
    let i = stays_in_range.runs TwoPairs n x b.starts r.events in
    let j = stays_in_range.runs TwoPairs m x' c.starts q.events in
    let w =
    joined_same (cabinets_line n ∷ run_lines (start n x) 1 r) (cabinets_line m ∷ run_lines (start m x') 1 q) (cabinets_line_lem n, run_lines_lem (start n x) 1 r) (cabinets_line_lem m, run_lines_lem (start m x') 1 q)
    (sym b.text ∙ t ∙ c.text)
    in
    let a1 = refusals (start n x) 1 r.events in
    let a2 = refusals (start m x') 1 q.events in
    let y =
    parted High (map noted a1 ++ ending_lines r.ending) (map noted a2 ++ ending_lines q.ending) (noted_high a1 r.ending) (noted_high a2 q.ending)
    (table_low (run n x r.events)) (table_low (run m x' q.events))
    (sym (run_parts (start n x) 1 r) ∙ tail-eq_of_cons-eq w ∙ run_parts (start m x') 1 q)
    in
    let z = parted Refuses (map noted a1) (map noted a2) (map_refuses a1) (map_refuses a2) (ending_stops r.ending) (ending_stops q.ending) y.0 in
    record {
      nodes = lines_determine.cabinets n m (omega (arith, start_small n x b.starts)) (omega (arith, start_small m x' c.starts)) (head-eq_of_cons-eq w);
      refused = map_same a1 a2 (refusals_small (start n x) 1 r.events (omega arith)) (refusals_small (start m x') 1 q.events (omega arith)) z.0;
      ending = ending_same r.ending q.ending g.ending h.ending z.1;
      table = table_same (run n x r.events) (run m x' q.events) (table_small (run n x r.events) i) (table_small (run m x' q.events) j) y.1;
    }

-- where the whole list or the first field failed
failed_text : (l : List ℕ) (s : Stop) → reading l ≡ failed s → text_of l ≡ joined (stopped_line 0 (stop_number s) ∷ [])
unfolding lines_with
failed_text l s e = rw e

failed_same : (l k : List ℕ) (s t : Stop) → reading l ≡ failed s → reading k ≡ failed t → text_of l ≡ text_of k → s ≡ t
failed_same l k s t e f h =
    let w =
    joined_same (stopped_line 0 (stop_number s) ∷ []) (stopped_line 0 (stop_number t) ∷ []) (stopped_line_lem 0 (stop_number s), tt) (stopped_line_lem 0 (stop_number t), tt)
    (sym (failed_text l s e) ∙ h ∙ failed_text k t f)
    in
    let i = stop_small s in
    let j = stop_small t in
    stop_same s t (lines_determine.stopped 0 (stop_number s) 0 (stop_number t) (omega arith) (omega arith) (omega arith) (omega arith) (head-eq_of_cons-eq w)).1

failed_apart : (l k : List ℕ) (s : Stop) (m : ℕ) (x : Limits) (q : Reading) → reading l ≡ failed s → reading k ≡ begun m x q → text_of l ≡ text_of k → ⊥
unfolding stopped_line cabinets_line
failed_apart l k s m x q e f h =
    let w =
    joined_same (stopped_line 0 (stop_number s) ∷ []) (cabinets_line m ∷ run_lines (start m x) 1 q) (stopped_line_lem 0 (stop_number s), tt) (cabinets_line_lem m, run_lines_lem (start m x) 1 q)
    (sym (failed_text l s e) ∙ h ∙ (behind k m x q f).text)
    in
    let z = ap (λ (x : List ℕ). get_or x 0 0) (head-eq_of_cons-eq w) in
    omega arith

pub text_determines : TextDetermines
text_determines = record { read = read_same; refused = failed_same; apart = failed_apart }
