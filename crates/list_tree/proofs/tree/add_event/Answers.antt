-- `list_tree::tree::add_event` meets its contract: the step decides.
use native.Mathlib.Omega.{arith}
use mathlib.Core.Path.{sym, ◌∙◌, ap}
use mathlib.Core.List.{[], ◌∷◌, ◌++◌}
use lib.ListN.{length, get_or, length-append}
use Rattle.model.specs.State.{view}
use Rattle.list_tree.specs.Tree.{lists_in}
use Rattle.list_tree.proofs.Trees.{lists_long, extends_none}
use Rattle.list_tree.proofs.Accepted.{none_more, one_more}
use Rattle.list_tree.proofs.tree.add_event.Goals as goal

pub returns-then-is_err : goal.returns-then-is_err
returns-then-is_err c =
    let o = c.step in
    rw (none_more _ _ _ o.result.answer o.ensures.answer (sym c.is_err.ensures.value ∙ c.if-is_err.true)) (extends_none c.args.t.now c.requires.0)

pub add_edge-requires : goal.add_edge-requires
add_edge-requires c =
    let o = c.step in
    let t = c.args.t.now in
    let x = get_or (lists_in t) c.args.a [] in
    let q = one_more x (view c.args.table) c.args.e o.result.answer o.ensures.answer (sym c.is_err.ensures.value ∙ c.if-is_err.false) in
    let h = ap (λ m. length (lists_in t ++ m)) q ∙ length-append (lists_in t) ((x ++ (c.args.e ∷ [])) ∷ []) in
    let r = c.requires.2 in
    let l = lists_long t c.requires.0 in
    (c.requires.0, omega (arith, r, h, l), c.requires.1)

pub returns : goal.returns
returns c =
    let o = c.step in
    rw (one_more _ _ _ o.result.answer o.ensures.answer (sym c.is_err.ensures.value ∙ c.if-is_err.false)) c.add_edge.ensures
