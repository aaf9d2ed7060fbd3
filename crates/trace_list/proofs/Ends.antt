-- The pieces put together.
use Prim.Native.Nat.{ℕ, ◌+◌, ◌*◌, ◌≤◌}
use native.Mathlib.Omega.{arith}
use mathlib.Core.Path.{◌≡◌, refl, sym, ◌∙◌, ap}
use mathlib.Core.List.{List, [], ◌∷◌, ◌++◌, append_assoc, append-nil}
use lib.ListN.{length, take}
use Rattle.std.specs.Prelude.{Option, None, Some, IfSome, IsSome}
use Rattle.std.specs.Option.{unwrap_or}
use Rattle.listing.specs.Printing.{joined}
use Rattle.trace_text.specs.Trace.{trace_pieces, trace_text}
use Rattle.trace_list.specs.declared.Trace.{Trace}
use Rattle.trace_list.specs.declared.TracePiece.{TracePiece}
use Rattle.trace_list.specs.Pieces.{pieces_left, SoundTrace, pieces_after, BegunTrace, GavePiece, TraceCall, wrote_all, TraceCalls, trace_after, AllTraces}
use Rattle.trace_list.proofs.Given.{after_last, after_other}

-- a first piece, and then others
module _ (xs : List (List ℕ)) (q : List ℕ) (l : List ℕ) (p : TracePiece) (g : xs ≡ q ∷ pieces_after l p) where
  text_last : p.next ≡ None → joined xs ≡ q
  unfolding joined
  text_last d = ap joined (g ∙ ap (λ (ys : List (List ℕ)). q ∷ ys) (after_last l p d)) ∙ append-nil q

  text_other : (t : Trace) → p.next ≡ Some t → joined xs ≡ q ++ joined (pieces_left l t)
  unfolding joined
  text_other t d = ap joined (g ∙ ap (λ (ys : List (List ℕ)). q ∷ ys) (after_other l p t d))

-- the trace that a call gave
trace_given : (o : Option Trace) (t : Trace) → IsSome o → o ≡ Some (unwrap_or o t)
trace_given None t h = cc
trace_given (Some u) t h = refl

if_given : (P : Trace → Type 0) (o : Option Trace) (t : Trace) → IsSome o → IfSome o P → P (unwrap_or o t)
if_given P None t h f = cc
if_given P (Some u) t h f = f

sound_again : (l : List ℕ) (t : Trace) (cs : List TraceCall) → SoundTrace l t → TraceCalls l t cs → SoundTrace l (trace_after t cs)
sound_again l t [] h a = h
sound_again l t (c ∷ cs) h a = sound_again l (unwrap_or c.piece.next t) cs (if_given (SoundTrace l) c.piece.next t a.1 a.0.sound) a.2

part_of : (l : List ℕ) (t : Trace) (cs : List TraceCall) → TraceCalls l t cs → joined (pieces_left l t) ≡ wrote_all cs ++ joined (pieces_left l (trace_after t cs))
part_of l t [] a = refl
part_of l t (c ∷ cs) a =
    let w = take c.piece.written c.buffer in
    let u = unwrap_or c.piece.next t in
    text_other (pieces_left l t) w l c.piece a.0.pieces u (trace_given c.piece.next t a.1) ∙ ap (λ (x : List ℕ). w ++ x) (part_of l u cs a.2)
    ∙ sym (append_assoc w (wrote_all cs) (joined (pieces_left l (trace_after t (c ∷ cs)))))

wrote_more : (cs : List TraceCall) (c : TraceCall) → wrote_all (cs ++ (c ∷ [])) ≡ wrote_all cs ++ take c.piece.written c.buffer
wrote_more [] c = append-nil (take c.piece.written c.buffer)
wrote_more (d ∷ cs) c = rw (wrote_more cs c, append_assoc)

-- the offset grows by four or more
grows : (l : List ℕ) (t : Trace) (cs : List TraceCall) → TraceCalls l t cs → t.at + 4 * length cs ≤ (trace_after t cs).at
grows l t [] a = omega arith
grows l t (c ∷ cs) a =
    let u = unwrap_or c.piece.next t in
    let i = grows l u cs a.2 in
    let f = if_given (λ v. t.at + 4 ≤ v.at) c.piece.next t a.1 a.0.further in
    omega (arith, i, f)

module _ (l o : List ℕ) (p : TracePiece) (b : BegunTrace l o p) (t : Trace) (d : p.next ≡ Some t) where
  whole : (cs : List TraceCall) (c : TraceCall) → TraceCalls l t cs → GavePiece l (trace_after t cs) c.buffer c.piece → c.piece.next ≡ None → take p.written o ++ wrote_all (cs ++ (c ∷ [])) ≡ trace_text l
  whole cs c a g e =
      let w = take p.written o in
      let z = text_last (pieces_left l (trace_after t cs)) (take c.piece.written c.buffer) l c.piece g.pieces e in
      sym
      (text_other (trace_pieces l) w l p b.pieces t d
      ∙ ap (λ (x : List ℕ). w ++ x) (part_of l t cs a ∙ ap (λ (x : List ℕ). wrote_all cs ++ x) z ∙ sym (wrote_more cs c)))

  first_sound : SoundTrace l t
  first_sound = rw d at b.sound

  few : (cs : List TraceCall) → TraceCalls l t cs → length cs ≤ 16383
  few cs a =
      let h = first_sound in
      let g = grows l t cs a in
      let u = sound_again l t cs h a in
      omega (arith, g, h.some, h.few, u.within, u.short)

pub all_traces : AllTraces
all_traces l o p b = record {
  alone = λ d. sym (text_last (trace_pieces l) (take p.written o) l p b.pieces d);
  whole = whole l o p b;
  again = λ t d cs a. sound_again l t cs (first_sound l o p b t d) a;
  few = few l o p b;
}
