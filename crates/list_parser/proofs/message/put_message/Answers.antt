-- `list_parser::message::put_message` meets its contract: seven pieces, one behind the other.
use Rattle.listing.proofs.Appended.{wrote_twice}
use Rattle.list_text.specs.Message.{message_text}
use Rattle.list_parser.proofs.message.put_message.Goals as goal

pub returns : goal.returns
unfolding message_text
returns c =
    let w =
    wrote_twice c.put.ensures
    (wrote_twice c.put_number.ensures
    (wrote_twice c.put-2.ensures
    (wrote_twice c.put_number-2.ensures
    (wrote_twice c.put-3.ensures
    (wrote_twice c.put_expected.ensures.0 c.put-4.ensures))))) in
    w.appended
