-- The table that is left at a field, by what is read there; the ways in which a run ends; and what may be printed behind it.
use Prim.Native.Nat.{ℕ, ◌+◌}
use mathlib.Core.Path.{◌≡◌, refl, sym, ◌∙◌, ap}
use mathlib.Core.List.{List, [], ◌∷◌, ◌++◌}
use Rattle.model.specs.State.{State, start, view}
use Rattle.model.specs.Step.{step, after, run_from}
use Rattle.model.specs.Answers.{result_number}
use Rattle.model.specs.declared.Limits.{Limits}
use Rattle.model.specs.declared.Table.{Table}
use Rattle.model.specs.declared.Event.{Event}
use Rattle.event_list.specs.declared.Stop.{Stop}
use Rattle.std.specs.Prelude.{Option, Some, None, Result, Ok, Err, IsErr}
use Rattle.event_list.specs.Format.{Next, stop_number, next_at, first_of, rest}
use Rattle.event_list.proofs.Reading.{rest_done, rest_stopped, rest_got, reading_begun, first_good}
use Rattle.listing.specs.declared.NoRoom.{NoRoom}
use Rattle.listing.specs.declared.buffer.TextBuffer.{TextBuffer}
use Rattle.listing.specs.Lines.{stopped_line, table_lines}
use Rattle.listing.specs.Printing.{LinesIn, WroteLines, shown, printed, end_of}
use Rattle.listing.proofs.Printing.{then_next, then_refused, end_next, end_refused}
use Rattle.listing.proofs.Written.{refused_at, lines_in}
use Rattle.run_list.specs.Text.{note_lines, lines_with, Headed}
use Rattle.run_list.proofs.Laws.{left, left_done, left_stopped, left_got, lines_begun, headed_refused, headed_ended, headed_nodes}
use Rattle.session_list.specs.Ran.{LastTable, RanFrom, RunTable, RanAll}

-- Lines that were written, x behind them none other; and that were refused.
module _ {b c : TextBuffer} {xs : List (List ℕ)} {a : Result (Unit {0}) NoRoom} (ys : List (List ℕ)) (w : LinesIn b xs a c) where
  pub next_printed : {u : Unit {0}} → a ≡ Ok u → printed c.bytes.now c.end ys ≡ printed b.bytes.now b.end (xs ++ ys)
  next_printed e = sym (then_next b.bytes.now c.bytes.now b.end c.end _ xs ys w.lines (rw e))

  pub refused_printed : {d : NoRoom} → a ≡ Err d → shown (Err d) c.bytes.now ≡ printed b.bytes.now b.end (xs ++ ys)
  refused_printed e = sym (then_refused b.bytes.now c.bytes.now b.end _ xs ys w.lines (rw e))

  pub next_ends : {u : Unit {0}} → a ≡ Ok u → end_of c.bytes.now c.end ys ≡ end_of b.bytes.now b.end (xs ++ ys)
  next_ends e = sym (end_next b.bytes.now c.bytes.now b.end c.end _ xs ys w.lines (rw e))

-- the end that a refusal leaves
pub refused_ends : {b c : TextBuffer} {xs : List (List ℕ)} {a : Result (Unit {0}) NoRoom} (ys : List (List ℕ)) → WroteLines b xs a c → {d : NoRoom} → a ≡ Err d → c.end ≡ end_of b.bytes.now b.end (xs ++ ys)
refused_ends {b} {c} {xs} ys w e = w.ends ∙ sym (end_refused b.bytes.now c.bytes.now b.end _ xs ys w.lines (rw e))

-- ── at a field ──
module _ (l : List ℕ) (s : State) (at : ℕ) {x : Next} (i : x ≡ next_at l at) where
  events_done : x ≡ Ok None → run_from s (rest l at).events ≡ s
  unfolding run_from
  events_done g = rw (rest_done l at i g)

  events_stopped : {r : Stop} → x ≡ Err r → run_from s (rest l at).events ≡ s
  unfolding run_from
  events_stopped g = rw (rest_stopped l at i g)

  pub events_got : {v : Event} {next : ℕ} → x ≡ Ok (Some (v, next)) → {u : State} → u ≡ after s v → run_from s (rest l at).events ≡ run_from u (rest l next).events
  unfolding run_from
  events_got g k = rw (rest_got l at i g, k)

-- What is left to do at the offset at of the list l, with the table t, event e the next, and the buffer o, is what was to do at its start: with the table s, and the buffer b.
pub record Left (l : List ℕ) (s : State) (b : TextBuffer) (at e : ℕ) (t : State) (o : TextBuffer) : Type 0 where
  pub same : o.bytes.ghost_name ≡ b.bytes.ghost_name
  pub lines : (f : State → List (List ℕ)) → printed o.bytes.now o.end (left f l t at e) ≡ printed b.bytes.now b.end (left f l s 4 1)
  pub ends : (f : State → List (List ℕ)) → end_of o.bytes.now o.end (left f l t at e) ≡ end_of b.bytes.now b.end (left f l s 4 1)
  pub table : run_from t (rest l at).events ≡ run_from s (rest l 4).events

module _ {l : List ℕ} {s : State} {b : TextBuffer} {at e : ℕ} (t : Table) {o : TextBuffer} (h : Left l s b at e (view t) o) {x : Next} (i : x ≡ next_at l at) where
  abbrev Ends : TextBuffer → Result (Option Table) NoRoom → Type 0
  Ends u y = RanFrom s (rest l 4) b u y

  -- at the list's end
  pub ends_done : x ≡ Ok None → Ends o (Ok (Some t))
  ends_done g =
      record {
        same = h.same;
        lines = λ f. ap (printed o.bytes.now o.end) (sym (left_done f l (view t) at e i g)) ∙ h.lines f;
        ends = λ f. ap (end_of o.bytes.now o.end) (sym (left_done f l (view t) at e i g)) ∙ h.ends f;
        table = sym (events_done l (view t) at i g) ∙ h.table;
      }

  -- at a field that stops the list, the number of which is k
  module _ {r : Stop} (g : x ≡ Err r) {k : ℕ} (j : k ≡ stop_number r) {u : TextBuffer} {a : Result (Unit {0}) NoRoom} (w : WroteLines o (stopped_line at k ∷ []) a u) where
    stop_line : (f : State → List (List ℕ)) → left f l (view t) at e ≡ stopped_line at k ∷ f (view t)
    stop_line f = rw j (left_stopped f l (view t) at e i g)

    -- whose line is written,
    pub ends_stopped : {v : Unit {0}} → a ≡ Ok v → Ends u (Ok (Some t))
    ends_stopped y =
        record {
          same = w.same ∙ h.same;
          lines = λ f. next_printed (f (view t)) (lines_in w) y ∙ rw (← stop_line f) (h.lines f);
          ends = λ f. next_ends (f (view t)) (lines_in w) y ∙ rw (← stop_line f) (h.ends f);
          table = sym (events_stopped l (view t) at i g) ∙ h.table;
        }

    -- or refused
    pub stop_refused : {d : NoRoom} → a ≡ Err d → Ends u (Err d)
    stop_refused y =
        record {
          same = w.same ∙ h.same;
          lines = λ f. refused_printed (f (view t)) (lines_in w) y ∙ rw (← stop_line f) (h.lines f);
          ends = λ f. refused_ends (f (view t)) w y ∙ rw (← stop_line f) (h.ends f);
          table = tt;
        }

  -- an event that is answered with the number r and leaves the table n
  module _ {v : Event} {next : ℕ} (g : x ≡ Ok (Some (v, next))) {r : ℕ} (j : r ≡ result_number (step (view t) v)) {n : State} (k : n ≡ after (view t) v)
      {u : TextBuffer} {a : Result (Unit {0}) NoRoom} (w : WroteLines o (note_lines e r) a u) where
    got_lines : (f : State → List (List ℕ)) → left f l (view t) at e ≡ note_lines e r ++ left f l n next (e + 1)
    got_lines f = left_got f l (view t) at e i g r j n k

    pub goes_on : {y : Unit {0}} → a ≡ Ok y → Left l s b next (e + 1) n u
    goes_on y =
        record {
          same = w.same ∙ h.same;
          lines = λ f. next_printed (left f l n next (e + 1)) (lines_in w) y ∙ rw (← got_lines f) (h.lines f);
          ends = λ f. next_ends (left f l n next (e + 1)) (lines_in w) y ∙ rw (← got_lines f) (h.ends f);
          table = sym (events_got l (view t) at i g k) ∙ h.table;
        }

    -- its line has no room
    pub note_refused : {d : NoRoom} → a ≡ Err d → Ends u (Err d)
    note_refused y =
        record {
          same = w.same ∙ h.same;
          lines = λ f. refused_printed (left f l n next (e + 1)) (lines_in w) y ∙ rw (← got_lines f) (h.lines f);
          ends = λ f. refused_ends (left f l n next (e + 1)) w y ∙ rw (← got_lines f) (h.ends f);
          table = tt;
        }

-- ── all of a list ──
module _ {l : List ℕ} {b o : TextBuffer} where
  pub all_refused : {e : NoRoom} → Headed l b o (Err e) → RanAll l b o (Err e)
  all_refused {e} h = record { same = h.line.same; lines = λ f. (headed_refused f l {r = Err e} h refl).lines; ends = λ f. (headed_refused f l {r = Err e} h refl).ends; table = tt }

  pub all_ended : Headed l b o (Ok None) → RanAll l b o (Ok None)
  all_ended h = record { same = h.line.same; lines = λ f. (headed_ended f l h).lines; ends = λ f. (headed_ended f l h).ends; table = tt }

last_more : (P Q : State → Type 0) (x : Result (Option Table) NoRoom) → ((u : State) → P u → Q u) → LastTable P x → LastTable Q x
last_more P Q (Err e) f h = tt
last_more P Q (Ok None) f h = tt
last_more P Q (Ok (Some t)) f h = f (view t) h

pub all_run : {l : List ℕ} {b o : TextBuffer} {n : ℕ} {lim : Limits} → Headed l b o (Ok (Some (n, lim)))
    → {s : State} → s ≡ start n lim → {u : TextBuffer} {y : Result (Option Table) NoRoom} → RanFrom s (rest l 4) o u y → RanAll l b u y
all_run {l} {b} {o} {n} {lim} hd {s} e {u} {y} r =
    let first : first_of l ≡ Ok (n, lim) = (headed_nodes table_lines l hd).first in
    record {
      same = r.same ∙ hd.line.same;
      lines = λ f. r.lines f ∙ rw (e, lines_begun f l refl first) (next_printed (left f l (start n lim) 4 1) (lines_in (rw first at hd.line)) refl);
      ends = λ f. r.ends f ∙ rw (e, lines_begun f l refl first) (next_ends (left f l (start n lim) 4 1) (lines_in (rw first at hd.line)) refl);
      table = last_more (λ v. v ≡ run_from s (rest l 4).events) (RunTable l) y
          (λ v q. record {
            n = n;
            limits = lim;
            reads = rest l 4;
            says = reading_begun l refl first;
            starts = (first_good l refl first).2;
            is = q ∙ ap (λ (s : State). run_from s (rest l 4).events) e;
          })
          r.table;
    }

-- what is printed behind it
module _ (f : State → List (List ℕ)) {l : List ℕ} {b o : TextBuffer} where
  pub none_behind : RanAll l b o (Ok None) → WroteLines b (lines_with f l) (Ok tt) o
  none_behind h = record { same = h.same; lines = h.lines f; ends = h.ends f }

  pub last_behind : {t : Table} → RanAll l b o (Ok (Some t)) → {r : Result (Unit {0}) NoRoom} {d : TextBuffer} → WroteLines o (f (view t)) r d → WroteLines b (lines_with f l) r d
  last_behind h w = record { same = w.same ∙ h.same; lines = w.lines ∙ h.lines f; ends = w.ends ∙ h.ends f }

  -- a refusal, as it is handed on
  pub refused_behind : {e : NoRoom} → RanAll l b o (Err e) → {r : Result (Unit {0}) NoRoom} → IsErr r → WroteLines b (lines_with f l) r o
  refused_behind {e} h {r} i = record { same = h.same; lines = rw (refused_at r o.end i) (h.lines f); ends = h.ends f }
