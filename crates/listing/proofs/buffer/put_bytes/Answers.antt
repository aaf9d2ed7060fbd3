-- `listing::buffer::put_bytes` meets its contract: the part of the buffer comes back as the bytes.
use mathlib.Core.Path.{refl}
use Rattle.listing.proofs.Appended.{appended, part_copied}
use Rattle.listing.proofs.buffer.put_bytes.Goals as goal

pub returns : goal.returns
returns c =
    let a = c.args in
    appended a.out.now _ a.w.now a.at _ c.requires (part_copied a.out.now a.w.now _ a.at c.copy_from_slice.ensures.after) refl
