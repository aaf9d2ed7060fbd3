-- `list_parser::list_of_text` meets its contract: what was filled in of the text is what it comes to.
use lib.Seq.{length-take-le}
use Rattle.list_parser.proofs.Answers.{as_told, too_long, wrong_in, bytes_in, made_bad, made_list}
use Rattle.list_parser.proofs.list_of_text.Goals as goal

pub returns-then-t-gt-TEXT_LIMIT : goal.returns-then-t-gt-TEXT_LIMIT
returns-then-t-gt-TEXT_LIMIT c = let a = c.args in made_bad a.t.now a.out.now _ _ (rw c.place_of.ensures (too_long a.t.now c.if-t-gt-TEXT_LIMIT.true))

pub returns-in-Err : goal.returns-in-Err
returns-in-Err c =
    let a = c.args in
    let t = a.t.now in
    let f = as_told c.put_list.ensures c.in-Err.is in
    made_bad t a.out.now _ _ (rw c.place_of-in-Err.ensures (wrong_in t c.if-t-gt-TEXT_LIMIT.false f))

pub returns-in-Ok : goal.returns-in-Ok
returns-in-Ok c =
    let t = c.args.t.now in
    let f = as_told c.put_list.ensures c.in-Ok.is in
    made_list t c.args.out.now _ _ _ (bytes_in t c.if-t-gt-TEXT_LIMIT.false f) (length-take-le _ _ f.within) c.copy_from_slice.ensures.after
