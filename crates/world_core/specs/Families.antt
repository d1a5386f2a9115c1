-- To which family each event belongs.
use Rattle.dfs_worker.specs.declared.event.Event.{Event}
use Rattle.dfs_worker.specs.declared.event.Event.TheVariants.{Claim, Retire, Advance, Descend, Append, Charge, Fetch, Post, Push, Pop, Pick, Restore, Discharge, Mark, Close}
use Rattle.world_core.specs.declared.family.Family.{Family}
use Rattle.world_core.specs.declared.family.Family.TheVariants.{Roots, Answers, Alone, Outward, Inward}

abbrev pub family_of : Event → Family
family_of (Claim w) = Roots
family_of (Retire w) = Alone
family_of (Advance w) = Answers
family_of (Descend w) = Alone
family_of (Append w) = Alone
family_of (Charge w) = Outward
family_of (Fetch w) = Outward
family_of (Post w stage to) = Outward
family_of (Push w) = Outward
family_of (Pop w stage) = Inward
family_of (Pick w) = Inward
family_of (Restore w) = Inward
family_of (Discharge w) = Inward
family_of (Mark w a b) = Alone
family_of (Close w) = Alone
