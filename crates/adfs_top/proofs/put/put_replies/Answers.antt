use Rattle.std.proofs.Common.{refl}
use Rattle.adfs_top.proofs.put.put_replies.Goals as goal

pub returns-in-Failed-clause-ends : goal.returns-in-Failed-clause-ends
returns-in-Failed-clause-ends g c = rw c.deref.ensures.value at (c.in-Failed.ensures.front refl)
