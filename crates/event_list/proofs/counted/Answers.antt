-- The length decides ground 5; `nodes_of` decides 6.
use Rattle.std.proofs.lemmas.Result.{err_from_is_err_and}
use Rattle.event_list.proofs.Fields.{counted_by_sized}
use Rattle.event_list.proofs.counted.Goals as goal

pub returns-in_err-n : goal.returns-in_err-n
returns-in_err-n c =
    let p = err_from_is_err_and c.from_residual.result c.from_residual.ensures.1 in
    rw (p.1, p.2, counted_by_sized _ _ _ c.byte.ensures c.sized.ensures, c.in_err-n.was)

pub returns : goal.returns
returns c = rw (counted_by_sized _ _ _ c.byte.ensures c.sized.ensures, c.in_ok-n.was, c.nodes_of.ensures)
