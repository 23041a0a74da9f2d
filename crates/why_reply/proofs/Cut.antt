-- The program may stop reading after 12319 bytes, one more than the largest question has. Assumes nothing.
use mathlib.Core.Path.{◌≡◌}
use mathlib.Core.List.{List}
use Prim.Native.Nat.{ℕ, ◌<◌}
use native.Mathlib.Omega.{arith}
use lib.ListN.{length, take, drop, length-drop}
use Rattle.packed.specs.declared.unpacked.Form.TheVariants.{Either}
use Rattle.packed.proofs.Bytes.{too_long, cut_by_lem}
use Rattle.why_reply.specs.WhyReply.{why_reply_of}
use Rattle.why_reply.proofs.Replies.{malformed_text, none}

longer : (bytes : List ℕ) → 12318 < length bytes → why_reply_of bytes ≡ malformed_text
unfolding why_reply_of
longer bytes h = none (drop 4 bytes) _ (too_long (drop 4 bytes) Either (omega (arith, length-drop 4 bytes)))

pub cut : (bytes : List ℕ) → why_reply_of (take 12319 bytes) ≡ why_reply_of bytes
cut bytes = cut_by_lem 12318 why_reply_of malformed_text longer bytes
