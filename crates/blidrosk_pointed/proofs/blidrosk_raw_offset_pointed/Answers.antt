-- `blidrosk_pointed::blidrosk_raw_offset_pointed` meets its contract. Assumes nothing.
use mathlib.Core.Path.{ap}
use borrow.Author.Rules.{rules}
use Rattle.job.specs.Job.{Outcome}
use Rattle.job.specs.Handed.{handed_of}
use Rattle.blidrosk_pointed.proofs.blidrosk_raw_offset_pointed.Goals as goal

pub returns : goal.returns
unfolding handed_of
returns c =
    let e = ap (λ (o : Outcome). handed_of o) c.create_raw_offset-a.ensures.ending in
    let h = c.hand.ensures in
    search (rules, h, e)
