-- `main` meets its contract. What stands in the way of a search is the length of the arrays: it is told by laws, and never counted. Assumes nothing.
use mathlib.Core.Path.{sym}
use Prim.Native.Nat.{ℕ}
use lib.ListN.{length-replicate}
use Rattle.rawsame.proofs.main.Goals as goal

pub slice_bounds-read_full-end : goal.slice_bounds-read_full-end
slice_bounds-read_full-end c = sym (length-replicate {0} {A = ℕ} 1302563 0)

pub slice_bounds-bytes-end : goal.slice_bounds-bytes-end
slice_bounds-bytes-end c = c.read_full-n.ensures.0

pub slice_bounds-reply-end : goal.slice_bounds-reply-end
slice_bounds-reply-end c = c.read_full-n.ensures.1

pub slice_bounds-text-end : goal.slice_bounds-text-end
slice_bounds-text-end c = c.reply-m.ensures.prefix_len.0

pub slice_bounds-write_all-end : goal.slice_bounds-write_all-end
slice_bounds-write_all-end c = c.reply-m.ensures.prefix_len.1
