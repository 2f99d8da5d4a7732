-- What the `else` of a `let Found::Tile(tile) = .. else` knows: no tile stands there; and what the `else` of a `let Found::Refused(refusal,
-- at) = .. else` knows where no tile was found: it is the end. Assumes nothing.
use Rattle.std.proofs.Common.{◌≡◌, refl, ℕ}
use Rattle.size.specs.declared.Refusal.{Refusal}
use Rattle.reel.specs.Answer.{end, found_said, NoTile}
use Rattle.reel.specs.declared.Tile as a_tile
use Rattle.reel.specs.declared.Found.{Found}
use Rattle.reel.specs.declared.Found.TheVariants.{Tile, End, Refused}

pub no_tile : (found : Found) → ((t : a_tile.Tile) → found ≡ Tile t → ⊥) → NoTile (found_said found)
no_tile (Tile t) h = h t refl
no_tile End h = tt
no_tile (Refused r at) h = tt

pub is_end : (found : Found) → ((r : Refusal) → (at : ℕ) → found ≡ Refused r at → ⊥) → NoTile (found_said found) → found_said found ≡ end
is_end (Tile t) h none = absurd none
is_end End h none = refl
is_end (Refused r at) h none = absurd (h r at refl)
