-- Good tiles, as lists of bytes: they are closed under XOR, and to agree outside a line is to do so outside that line named
-- twice. Assumes nothing.
use Rattle.std.specs.Prelude.{◌↔◌, ◌≡◌, List, ℕ, ◌-◌, ◌<◌}
use Rattle.std.proofs.Common.{sym}
use Rattle.xor.specs.Xor.{◌⊕◌}
use Rattle.code.specs.Tile.{cell, Good, EqualOutside, EqualOutsideBoth}
use Rattle.code.specs.Sums.{one_sum_plus, one_sum_ext}
use Rattle.code.specs.Place.{cell_padded, difference, difference_padded, same_within}
use Rattle.code.specs.declared.Line.{Line}

-- a tile whose cells are the XOR of those of two good tiles is good
pub good_xor : (p l : ℕ) (x y z : List ℕ) → Good p l x → Good p l y
    → ((i j : ℕ) → i < p - 1 → j < p - 1 → cell p z i j ≡ cell p x i j ⊕ cell p y i j) → Good p l z
good_xor p l x y z g h e =
    one_sum_ext p l (difference p x y) (cell p z)
    (same_within p (difference p x y) (cell p z) (difference_padded p x y) (cell_padded p z)
    (λ i j hi hj. sym (e i j hi hj)))
    (one_sum_plus p l (cell p x) (cell p y) g h)

-- equal outside a line is equal outside that line named twice
pub named_twice : (p : ℕ) (a : Line) (x y : List ℕ) → EqualOutside p a x y ↔ EqualOutsideBoth p a a x y
named_twice p a x y = (λ h i j hi hj d e. h i j hi hj d, λ h i j hi hj d. h i j hi hj d d)
