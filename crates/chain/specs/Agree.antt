-- The lines of a slope through the cells of a column, one after the other, as a loop carries them. Assumes nothing.
use Rattle.std.specs.Prelude.{◌≡◌, ℕ, ◌+◌, ◌*◌, ◌%◌}
use Rattle.std.proofs.Common.{◌∙◌, arith}
use Rattle.std.proofs.Math.Nat.{mod-add-mod}
use Rattle.residue.specs.Remainder.{same}
use Rattle.code.specs.OneLine.{through}
use Rattle.code.specs.declared.Line.TheVariants.{Column}

-- the slope-s line through the k-th cell of column c is k steps from that through its first
pub from_first : (p s c k : ℕ) → (s * c % p + 1 * k) % p ≡ through p s (Column c) k
from_first p s c k = mod-add-mod (s * c) p (1 * k) ∙ same p (omega arith)
