-- `print_pieces` meets its contract: the first piece, and then what the trace still gives.
use mathlib.Core.Path.{◌∙◌}
use Rattle.std.specs.Prelude.{Ok}
use Rattle.listing.specs.Printing.{WroteLines}
use Rattle.listing.proofs.Written.{lines_then, lines_refused}
use Rattle.trace_list.specs.Pieces.{pieces_after}
use Rattle.trace_list.proofs.Given.{after_last, after_other, no_lines}
use Rattle.trace_list.proofs.print_pieces.Goals as goal

pub returns-in_err-put_line : goal.returns-in_err-put_line
returns-in_err-put_line c = rw c.begin-piece.ensures.pieces (lines_refused _ c.put_line.ensures c.in_err-put_line.was c.from_residual.ensures.0)

pub loop-piece-preserved : goal.loop-piece-preserved
loop-piece-preserved c =
    let l = c.loop-piece in
    let g = c.next_piece-piece.ensures in
    (g.sound, λ r d w. l.invariant.1 r d (rw (after_other _ l.piece _ c.in-Some.is ∙ g.pieces) (lines_then c.put_line-in-Some.ensures c.in_ok-put_line-2.was w)))

pub returns-in_err-put_line-2 : goal.returns-in_err-put_line-2
returns-in_err-put_line-2 c =
    let l = c.loop-piece in
    let g = c.next_piece-piece.ensures in
    let e = lines_refused _ c.put_line-in-Some.ensures c.in_err-put_line-2.was c.from_residual-in_err-put_line-2.ensures.0 in
    rw c.begin-piece.ensures.pieces (lines_then c.put_line.ensures c.in_ok-put_line.was (l.invariant.1 _ _ (rw (after_other _ l.piece _ c.in-Some.is ∙ g.pieces) e)))

pub returns : goal.returns
returns c =
    let l = c.loop-piece in
    let e : WroteLines l.out (pieces_after c.args.list.now l.piece) (Ok tt) l.out = rw (after_last c.args.list.now l.piece c.in_default.is) (no_lines l.out) in
    rw c.begin-piece.ensures.pieces (lines_then c.put_line.ensures c.in_ok-put_line.was (l.invariant.1 _ _ e))
