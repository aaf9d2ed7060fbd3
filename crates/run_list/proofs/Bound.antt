-- How long the text of a list can be, and what a buffer of a given length then holds.
use Prim.Native.Nat.{ℕ, ◌+◌, ◌*◌, ◌≤◌, ◌<◌}
use native.Mathlib.Omega.{arith}
use mathlib.Core.Path.{◌≡◌, refl}
use mathlib.Core.Bool.{true}
use mathlib.Core.List.{List, [], ◌∷◌, ◌++◌}
use lib.ListN.{length}
use Rattle.model.specs.Pick.{by_test}
use Rattle.model.specs.State.{State, start, in_range}
use Rattle.model.specs.Step.{step, after, run}
use Rattle.model.specs.Answers.{result_number}
use Rattle.model.specs.Range.{TwoPairs}
use Rattle.model.specs.Claims.{MayStart}
use Rattle.model.specs.declared.Limits.{Limits}
use Rattle.model.specs.declared.Event.{Event}
use Rattle.model.proofs.Refusals.{result_small}
use Rattle.model.proofs.Fields.{in_range_size}
use Rattle.model.proofs.InRange.{start_small, stays_in_range}
use Rattle.event_list.specs.declared.Stop.{Stop}
use Rattle.event_list.specs.declared.Stop.TheVariants.{TooLong, CutShort, WrongTag, WrongLength, WrongCount}
use Rattle.std.specs.Prelude.{Ok, Err}
use Rattle.event_list.specs.Format.{First, stop_number, first_of, Ending, complete, stopped, rest}
use Rattle.event_list.proofs.Reading.{first_good, reads_all}
use Rattle.listing.specs.Lines.{cabinets_line, refused_line, stopped_line, table_lines}
use Rattle.listing.specs.Printing.{joined}
use Rattle.listing.proofs.Lengths.{cabinets_long, refused_long, stopped_long, table_long, joined_append, joined_one}
use Rattle.run_list.specs.Text.{note_lines, refused_lines, ending_lines, lines_with, TextFits}
use Rattle.run_list.proofs.Laws.{left, lines_failed, lines_begun}

-- ── numbers of refusals have two digits at most ──

pub stop_small : (s : Stop) → stop_number s ≤ 22
stop_small TooLong = omega arith
stop_small CutShort = omega arith
stop_small WrongTag = omega arith
stop_small WrongLength = omega arith
stop_small WrongCount = omega arith

-- ── the parts of a text ──

note_long : (e r : ℕ) → e ≤ 65536 → r ≤ 22 → length (joined (note_lines e r)) ≤ 17
unfolding note_lines joined
note_long e r h i =
    by_test (λ (xs : List (List ℕ)). length (joined xs) ≤ 17) (λ q. omega arith)
    (λ q. rw (joined_one (refused_line e r)) (refused_long e r h i))

refusals_long : (s : State) (e : ℕ) (vs : List Event) → e + length vs ≤ 65536 → length (joined (refused_lines s e vs)) ≤ 17 * length vs
unfolding refused_lines joined
refusals_long s e [] h = omega arith
refusals_long s e (v ∷ vs) h =
    let a = note_long e (result_number (step s v)) (omega arith) (omega (arith, result_small s v)) in
    let b = refusals_long (after s v) (e + 1) vs (omega arith) in
    rw (joined_append (note_lines e (result_number (step s v))) (refused_lines (after s v) (e + 1) vs)) (omega arith)

-- a list stops at one of its m bytes
ending_long : (m : ℕ) (x : Ending) → ((b : ℕ) (s : Stop) → x ≡ stopped b s → b < m) → m ≤ 65536 → length (joined (ending_lines x)) ≤ 17
unfolding joined
ending_long m complete h i = omega arith
ending_long m (stopped b s) h i = let k = h b s refl in rw (joined_one (stopped_line b (stop_number s))) (stopped_long b (stop_number s) (omega arith) (stop_small s))

-- where k is the most that f prints of a table in range
module _ (f : State → List (List ℕ)) (k : ℕ) (most : (s : State) → in_range s ≡ true → length (joined (f s)) ≤ k) where
  left_long : (l : List ℕ) (n : ℕ) (lim : Limits) → MayStart TwoPairs n lim → 4 ≤ length l → length l ≤ 65536 → length (joined (left f l (start n lim) 4 1)) ≤ 17 * 16384 + k
  left_long l n lim m j h =
      let r = rest l 4 in
      let e = reads_all.few l 4 j in
      let a = refusals_long (start n lim) 1 r.events (omega arith) in
      let b = ending_long (length l) r.ending (reads_all.before l 4) h in
      let c = most (run n lim r.events) (stays_in_range.runs TwoPairs n lim m r.events) in
      rw (joined_append (refused_lines (start n lim) 1 r.events) (ending_lines r.ending ++ f (run n lim r.events)), joined_append (ending_lines r.ending) (f (run n lim r.events))) (omega arith)

  -- ── the whole ──
  pub text_fits_with : (l : List ℕ) → length (joined (lines_with f l)) ≤ 12 + 17 * 16384 + k
  text_fits_with l = by (first_of l) refl
    where
      by : (x : First) → x ≡ first_of l → length (joined (lines_with f l)) ≤ 12 + 17 * 16384 + k
      by (Err s) i = rw (lines_failed f l i refl, joined_one (stopped_line 0 (stop_number s))) (let h = stopped_long 0 (stop_number s) (omega arith) (stop_small s) in omega arith)
      by (Ok (n, lim)) i =
          let g = first_good l i refl in
          let c = cabinets_long n (start_small n lim g.2) in
          let r = left_long l n lim g.2 g.0 g.1 in
          rw (lines_begun f l i refl, joined_append (cabinets_line n ∷ []) (left f l (start n lim) 4 1), joined_one (cabinets_line n)) (omega arith)

pub table_most : (s : State) → in_range s ≡ true → length (joined (table_lines s)) ≤ 34 * 16 + 12 + 53
table_most s g =
    let t = table_long s g in
    let z = (in_range_size s g).1 in
    omega arith

-- A buffer of text_limit bytes is enough for every list.
pub text_fits : TextFits
text_fits l = text_fits_with table_lines (34 * 16 + 12 + 53) table_most l
