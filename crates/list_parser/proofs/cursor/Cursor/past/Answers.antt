-- `list_parser::cursor::Cursor::past` meets its contract: the first byte of another kind is found.
use Rattle.std.proofs.Common.{◌≡◌, ◌∙◌, true, false, rules}
use Rattle.std.proofs.lemmas.Iterator.{YieldsList-from_slice, IsFirst-from_position}
use borrow.Author.Tests.{tests}
use Rattle.list_parser.proofs.Scanning.{past_some, past_none}
use Rattle.list_parser.proofs.cursor.Cursor.past.Goals as goal

pub returns-in-Some-clause-first : goal.returns-in-Some-clause-first
returns-in-Some-clause-first g c = λ f h. c.to.ensures.1 ∙
    past_some f c.args.self.text.now c.args.self.at _
    (IsFirst-from_position _ _ c.position.result (λ b. f b ≡ false) (λ b. f b ≡ true) c.position.ensures.ran (YieldsList-from_slice _ c.iter.ensures.rest) (λ x q k. search (rules, tests)) (λ x q k. search (rules, tests)))
    _ c.in-Some.is

pub returns-clause-first : goal.returns-clause-first
returns-clause-first g c = λ f h. c.to-in-None.ensures.1 ∙
    past_none f c.args.self.text.now c.args.self.at _
    (IsFirst-from_position _ _ c.position.result (λ b. f b ≡ false) (λ b. f b ≡ true) c.position.ensures.ran (YieldsList-from_slice _ c.iter.ensures.rest) (λ x q k. search (rules, tests)) (λ x q k. search (rules, tests)))
    c.args.self.within c.in-None.is
